use Rattle.std.proofs.Common.{◌≡◌, ◌∙◌, ◌+◌, max, true, false, length, arith, sym, subst, ap}
use Rattle.dc_math.specs.Tests.{is_zero}
use Rattle.dc_frac.specs.Value.{value}
use Rattle.dc_sparse.specs.declared.web.Web.{Web}
use Rattle.dc_sparse.specs.Entries.{entry_at, KeepsAll}
use Rattle.dc_sparse.proofs.Blank.{keeps_put}
use Rattle.dc_sparse.proofs.Entries.{keeps_refl, takes-zero, takes-entry, takes-both, vacant-zero}
use Rattle.dc_sparse.proofs.FreeCounts.{free_count-at_most}
use Rattle.dc_sparse.proofs.Growth.{grown_taken}
use Rattle.dc_sparse.proofs.web.Web.hold.Goals as goal
use Rattle.dc_sparse.proofs.web.Web.hold.Goals.{then-not-is_zero+in_ok-reserve, else-not-is_zero}

pub returns-clause-ok : goal.returns-clause-ok
returns-clause-ok c =
    let k : KeepsAll c.args.self.now.nodes.items c.if-not-is_zero.self.nodes.items = elim c.if-not-is_zero.branch [
      | then-not-is_zero+in_ok-reserve w ↦ subst (λ (v : Web). KeepsAll c.args.self.now.nodes.items v.nodes.items) (sym w.self-is) w.reserve.ensures.kept
      | else-not-is_zero w ↦ subst (λ (v : Web). KeepsAll c.args.self.now.nodes.items v.nodes.items) (sym w.self-is) (keeps_refl c.args.self.now.nodes.items)
    ] in
    keeps_put c.args.self.now.nodes.items c.if-not-is_zero.self.nodes.items c.put.new.self.nodes.items c.args.row c.args.col (value c.args.entry) k c.put.ensures.entry

pub returns-clause-arena : goal.returns-clause-arena
returns-clause-arena c n h =
    let w = c.args.self.now in
    let mid = c.if-not-is_zero.self in
    let long = c.put.ensures.arena in
    let left = c.put.ensures.spare in
    let vacant = vacant-zero w.nodes.items c.args.row c.args.col c.requires.vacant in
    let most = free_count-at_most w.nodes.items in
    let count = w.woven.count in
    elim c.if-not-is_zero.branch [
      | then-not-is_zero+in_ok-reserve b ↦
          (let nz : is_zero (value c.args.entry) ≡ false = sym c.is_zero.ensures ∙ b.if-not-is_zero.true in
          let zero : is_zero (entry_at mid.nodes.items c.args.row c.args.col) ≡ true = subst (λ (v : Web). is_zero (entry_at v.nodes.items c.args.row c.args.col) ≡ true) (sym b.self-is) (ap is_zero (b.reserve.ensures.kept.entries c.args.row c.args.col) ∙ vacant) in
          let t = takes-both (entry_at mid.nodes.items c.args.row c.args.col) (value c.args.entry) zero nz in
          let u = takes-entry (value c.args.entry) (entry_at mid.nodes.items c.args.row c.args.col) nz in
          let s : mid.spare ≡ max w.spare 1 = ap (λ (v : Web). v.spare) b.self-is ∙ b.in_ok-reserve.ensures.ok in
          let l : length mid.nodes.items + w.spare ≡ length w.nodes.items + mid.spare = subst (λ (v : Web). length v.nodes.items + w.spare ≡ length w.nodes.items + v.spare) (sym b.self-is) b.reserve.ensures.live in
          grown_taken n (length w.nodes.items) w.spare (length c.put.new.self.nodes.items) mid.spare c.put.new.self.spare h (omega arith) s (omega arith) (omega arith))
      | else-not-is_zero b ↦
          (let z : is_zero (value c.args.entry) ≡ true = sym c.is_zero.ensures ∙ b.if-not-is_zero.false in
          let zero : is_zero (entry_at mid.nodes.items c.args.row c.args.col) ≡ true = subst (λ (v : Web). is_zero (entry_at v.nodes.items c.args.row c.args.col) ≡ true) (sym b.self-is) vacant in
          let t = takes-zero (entry_at mid.nodes.items c.args.row c.args.col) (value c.args.entry) z in
          let u = takes-zero (value c.args.entry) (entry_at mid.nodes.items c.args.row c.args.col) zero in
          let s : mid.spare ≡ w.spare = ap (λ (v : Web). v.spare) b.self-is in
          let l : length mid.nodes.items ≡ length w.nodes.items = ap (λ (v : Web). length v.nodes.items) b.self-is in
          omega arith)
    ]
