use Rattle.std.proofs.Common.{◌≡◌, ◌++◌, ◌∷◌, [], List, Option, None, sym, subst, ap, ◌∙◌, arith, length, length-append, refl}
use Rattle.dc_frac.specs.declared.Frac.{Frac}
use Rattle.dc_sparse.specs.Scales.{AreFractions}
use Rattle.dc_sparse.proofs.Scaling.{no_fractions, fractions_more}
use Rattle.dc_sparse.proofs.scaled.no_dens.Goals as goal

pub loop-init : goal.loop-init
loop-init c = rw c.in_ok-dens.ensures.items (record { long = refl; none = no_fractions })

pub loop-preserved : goal.loop-preserved
loop-preserved c =
    let e : c.push.new.self.items ≡ c.loop.dens.items ++ None ∷ [] = c.in_ok-push.ensures.items in
    let l = c.loop.invariant.long in
    record {
      long = ap length e ∙ (let a = length-append c.loop.dens.items (None ∷ []) in omega arith);
      none = subst (λ (ds : List (Option Frac)). AreFractions ds 0) (sym e) (fractions_more c.loop.dens.items c.loop.invariant.none);
    }
