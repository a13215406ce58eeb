use Rattle.std.proofs.Common.{◌<◌, rules, sym, ◌∙◌, subst, below_more, IsTrue}
use Rattle.dc_lp.specs.Problems.{IsColumn, columns}
use Rattle.dc_lp.proofs.Columns.{entries-at}
use Rattle.dc_lp.proofs.shape.are_columns.Goals as goal

pub returns-then-not-is_column : goal.returns-then-not-is_column
returns-then-not-is_column c =
    let l : c.loop-j.j < columns c.args.p.now = search rules in
    let e = entries-at {C = _} (λ v. v.items) c.args.p.now.columns.items c.loop-j.j c.index.result.now l c.index.ensures ∙ sym c.deref.ensures.value in
    (λ f. absurd (cc), λ h. (let t : IsTrue c.is_column.result = c.is_column.ensures.1 (subst (IsColumn c.args.p.now.rows) e (h c.loop-j.j l)) in absurd (cc)))

pub loop-j-preserved : goal.loop-j-preserved
loop-j-preserved c =
    let l : c.loop-j.j < columns c.args.p.now = search rules in
    let e = entries-at {C = _} (λ v. v.items) c.args.p.now.columns.items c.loop-j.j c.index.result.now l c.index.ensures ∙ sym c.deref.ensures.value in
    let t : IsTrue c.is_column.result = search rules in
    below_more _ _ c.loop-j.invariant (subst (IsColumn c.args.p.now.rows) (sym e) (c.is_column.ensures.0 t))
