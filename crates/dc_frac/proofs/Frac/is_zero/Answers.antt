use Rattle.std.proofs.Common.{rules, arith, ◌≡◌, sym, subst, refl, SFits, eqb, true}
use Rattle.std.proofs.lemmas.Int.{ints}
use Rattle.std.proofs.lemmas.Bool.{eqb-true}
use Rattle.std.specs.Cmp.{both_ways}
use mir.Val.{of_z}
use mir.Syntax.{w128}
use Rattle.dc_frac.proofs.Values.{zero_num, num_zero}
use Rattle.dc_frac.proofs.Frac.is_zero.Goals as goal

pub returns : goal.returns
returns c =
    let f₁ : SFits w128 c.args.self.num = search rules in
    both_ways _ _
    (λ e. let z = eqb-true (of_z w128 c.args.self.num) 0 e in zero_num c.args.self (omega (arith, ints, z)))
    (λ e. subst (λ z. eqb (of_z w128 z) 0 ≡ true) (sym (num_zero c.args.self e)) refl)
