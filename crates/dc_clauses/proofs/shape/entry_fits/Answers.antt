use Rattle.std.proofs.Common.{◌∙◌, sym, ap, ◌&&◌, slice_get}
use Rattle.dc_clauses.specs.Sides.{has_keeps, case_range}
use Rattle.dc_clauses.proofs.Entries.{case_more, case_bars}
use Rattle.dc_clauses.proofs.shape.entry_fits.Goals as goal

pub returns-then-not-case_fits : goal.returns-then-not-case_fits
returns-then-not-case_fits c =
    case_bars c.args.atoms.now c.args.cases.now c.args.when.now c.args.keeps.now c.loop-k.k c.index-when-k.result c.index-keeps-k.result c.loop-k-test.true c.requires.one_each c.index-when-k.is c.index-keeps-k.is
    (sym c.if-not-case_fits.true ∙ c.case_fits.ensures ∙ ap (λ ks. has_keeps c.index-when-k.result c.args.atoms.now ks && case_range (slice_get c.args.cases.now c.loop-k.k) ks) c.as_slice.ensures) c.loop-k.invariant

pub loop-k-preserved : goal.loop-k-preserved
loop-k-preserved c =
    case_more c.args.atoms.now c.args.cases.now c.args.when.now c.args.keeps.now c.loop-k.k c.index-when-k.result c.index-keeps-k.result c.loop-k-test.true c.requires.one_each c.index-when-k.is c.index-keeps-k.is
    (sym c.if-not-case_fits.false ∙ c.case_fits.ensures ∙ ap (λ ks. has_keeps c.index-when-k.result c.args.atoms.now ks && case_range (slice_get c.args.cases.now c.loop-k.k) ks) c.as_slice.ensures) c.loop-k.invariant
