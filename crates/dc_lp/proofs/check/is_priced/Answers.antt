use Rattle.std.proofs.Common.{sym, ◌∙◌, subst₂}
use Rattle.dc_lp.specs.Problems.{IsColumn}
use Rattle.dc_lp.proofs.Columns.{entries-at}
use Rattle.dc_lp.proofs.check.is_priced.Goals as goal

pub price-requires : goal.price-requires
price-requires c =
    subst₂ IsColumn (sym c.requires.length) (entries-at {C = _} (λ v. v.items) c.args.p.now.columns.items c.args.j c.index.result.now c.requires.column c.index.ensures ∙ sym c.deref.ensures.value)
    (c.requires.well_formed.columns c.args.j c.requires.column)
