use Rattle.std.proofs.Common.{◌≡◌, ◌∙◌, arith, sym}
use Rattle.dc_frac.specs.Value.{value}
use Rattle.dc_sparse.specs.Webs.{IsVacant}
use Rattle.dc_sparse.specs.Entries.{entry_at, StandsAt}
use Rattle.dc_sparse.proofs.SingleWrites.{item_live, item-read}
use Rattle.dc_sparse.proofs.Entries.{entry-node, entry-vacant}
use Rattle.dc_sparse.proofs.RowSteps.{reduced_step}
use Rattle.dc_sparse.proofs.web.Web.entry_after.Goals as goal

pub index-requires : goal.index-requires
index-requires c =
    let w = c.args.self.now in
    let s : StandsAt w.nodes.items c.in-Some.node c.args.row c.args.at = rw c.in-Some.is at c.requires.found in
    let l = item_live w.nodes.items c.in-Some.node s.live in
    omega (arith, w.nodes.ok.0)

pub returns-in-Some : goal.returns-in-Some
returns-in-Some c =
    let w = c.args.self.now in
    let s : StandsAt w.nodes.items c.in-Some.node c.args.row c.args.at = rw c.in-Some.is at c.requires.found in
    let l = item_live w.nodes.items c.in-Some.node s.live in
    let e : value c.index.result.now.value ≡ entry_at w.nodes.items c.args.row c.args.at = item-read w.nodes.items c.in-Some.node c.index.result.now l c.index.ensures ∙ sym (entry-node w.nodes.items c.in-Some.node c.args.row c.args.at l w.woven.apart s) in
    reduced_step c.step.result c.args.at c.args.col (value c.args.factor) (value c.args.by) _ _ c.if-at-col.false e c.step.ensures

pub returns-in-None : goal.returns-in-None
returns-in-None c =
    let w = c.args.self.now in
    let vacant : IsVacant w.nodes.items c.args.row c.args.at = rw c.in-None.is at c.requires.found in
    let e : value c.whole-in-None.result ≡ entry_at w.nodes.items c.args.row c.args.at = c.whole-in-None.ensures ∙ sym (entry-vacant w.nodes.items c.args.row c.args.at vacant) in
    reduced_step c.step-in-None.result c.args.at c.args.col (value c.args.factor) (value c.args.by) _ _ c.if-at-col.false e c.step-in-None.ensures
