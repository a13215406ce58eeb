use Rattle.std.proofs.Common.{◌≡◌, SFits, pos, length, arith, sym, subst}
use Rattle.std.proofs.lemmas.Int.{ints}
use mir.Syntax.{w128}
use Rattle.dc_sparse.specs.Entries.{entry_at}
use Rattle.dc_sparse.specs.Scales.{IsWhole}
use Rattle.dc_sparse.proofs.Multiples.{once, multiplied_once}
use Rattle.dc_sparse.proofs.web.Web.multiply_rest.Goals as goal

pub returns-then-times-eq1-clause-multiplied : goal.returns-then-times-eq1-clause-multiplied
returns-then-times-eq1-clause-multiplied c =
    let v = c.args.self.now in
    let ft : SFits w128 c.args.times = c.ranges.times in
    let one : c.args.times ≡ pos 1 = omega (arith, ints) in
    multiplied_once v.nodes.items c.args.row c.args.done (length v.col_heads.items) c.args.times one

pub returns-then-times-eq1-clause-small : goal.returns-then-times-eq1-clause-small
returns-then-times-eq1-clause-small c t k le lt =
    let v = c.args.self.now in
    let ft : SFits w128 c.args.times = c.ranges.times in
    let one : c.args.times ≡ pos 1 = omega (arith, ints) in
    subst (IsWhole 41) (sym (once (entry_at v.nodes.items c.args.row k) c.args.times one)) (c.requires.whole k le)
