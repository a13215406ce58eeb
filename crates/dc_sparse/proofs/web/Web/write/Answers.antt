use Rattle.std.proofs.Common.{◌≡◌, ◌∙◌, arith, true, false, not, pos, sym, subst, ap, refl}
use Rattle.dc_math.specs.Rational.{of_ℤ}
use Rattle.dc_math.specs.Tests.{is_zero, eq_ℚ-true, eq_ℚ_true}
use Rattle.dc_frac.specs.Value.{value}
use Rattle.dc_sparse.specs.Nodes.{is_live}
use Rattle.dc_sparse.specs.Webs.{IsVacant}
use Rattle.dc_sparse.specs.Entries.{entry_at, StandsAt, IsPut}
use Rattle.dc_sparse.proofs.SingleWrites.{item_live}
use Rattle.dc_sparse.proofs.Entries.{entry-vacant, put_seated, put_cleared, put_same, takes_one, takes-zero, takes-entry, takes-both, vacant-zero, stands-nonzero}
use Rattle.dc_sparse.proofs.web.Web.write.Goals as goal

pub insert-requires-clause-spare : goal.insert-requires-clause-spare
insert-requires-clause-spare c =
    let w = c.args.self.now in
    let vacant : IsVacant w.nodes.items c.args.row c.args.col = rw c.in-None.is at c.requires.found in
    let nz : is_zero (value c.args.entry) ≡ false = sym c.is_zero-in-None.ensures ∙ c.if-is_zero-2.false in
    let t = takes_one w.nodes.items c.args.row c.args.col (value c.args.entry) vacant nz in
    let s = c.requires.spare in
    omega arith

pub returns-then-is_zero-clause-entry : goal.returns-then-is_zero-clause-entry
returns-then-is_zero-clause-entry c =
    let w = c.args.self.now in
    let z : value c.args.entry ≡ of_ℤ (pos 0) = eq_ℚ_true (value c.args.entry) (of_ℤ (pos 0)) (sym c.is_zero.ensures ∙ c.if-is_zero.true) in
    let s : StandsAt w.nodes.items c.in-Some.node c.args.row c.args.col = rw c.in-Some.is at c.requires.found in
    let d : is_live c.remove.new.self.nodes.items c.in-Some.node ≡ false = ap (λ q. not (is_zero q)) c.remove.ensures.cleared.item ∙ ap not (eq_ℚ-true (of_ℤ (pos 0)) (of_ℤ (pos 0)) refl) in
    subst (λ v. IsPut w.nodes.items c.remove.new.self.nodes.items c.args.row c.args.col v) (sym z)
    (put_cleared w.nodes.items c.remove.new.self.nodes.items c.in-Some.node c.args.row c.args.col w.woven.apart s d c.remove.ensures.cleared)

pub returns-then-is_zero-clause-spare : goal.returns-then-is_zero-clause-spare
returns-then-is_zero-clause-spare c =
    let w = c.args.self.now in
    let z : is_zero (value c.args.entry) ≡ true = sym c.is_zero.ensures ∙ c.if-is_zero.true in
    let s : StandsAt w.nodes.items c.in-Some.node c.args.row c.args.col = rw c.in-Some.is at c.requires.found in
    let e = stands-nonzero w.nodes.items c.in-Some.node c.args.row c.args.col (item_live w.nodes.items c.in-Some.node s.live) w.woven.apart s in
    let t = takes-zero (entry_at w.nodes.items c.args.row c.args.col) (value c.args.entry) z in
    let u = takes-both (value c.args.entry) (entry_at w.nodes.items c.args.row c.args.col) z e in
    let n = c.remove.ensures.spare in
    omega arith

pub returns-else-is_zero-clause-spare : goal.returns-else-is_zero-clause-spare
returns-else-is_zero-clause-spare c =
    let w = c.args.self.now in
    let z : is_zero (value c.args.entry) ≡ false = sym c.is_zero.ensures ∙ c.if-is_zero.false in
    let s : StandsAt w.nodes.items c.in-Some.node c.args.row c.args.col = rw c.in-Some.is at c.requires.found in
    let e = stands-nonzero w.nodes.items c.in-Some.node c.args.row c.args.col (item_live w.nodes.items c.in-Some.node s.live) w.woven.apart s in
    let t = takes-entry (entry_at w.nodes.items c.args.row c.args.col) (value c.args.entry) e in
    let u = takes-entry (value c.args.entry) (entry_at w.nodes.items c.args.row c.args.col) z in
    let n = c.set.ensures.spare in
    omega arith

pub returns-then-is_zero-2-clause-spare : goal.returns-then-is_zero-2-clause-spare
returns-then-is_zero-2-clause-spare c =
    let w = c.args.self.now in
    let vacant : IsVacant w.nodes.items c.args.row c.args.col = rw c.in-None.is at c.requires.found in
    let z : is_zero (value c.args.entry) ≡ true = sym c.is_zero-in-None.ensures ∙ c.if-is_zero-2.true in
    let t = takes-zero (entry_at w.nodes.items c.args.row c.args.col) (value c.args.entry) z in
    let u = takes-zero (value c.args.entry) (entry_at w.nodes.items c.args.row c.args.col) (vacant-zero w.nodes.items c.args.row c.args.col vacant) in
    omega arith

pub returns-else-is_zero-clause-entry : goal.returns-else-is_zero-clause-entry
returns-else-is_zero-clause-entry c = c.set.ensures.entry c.args.row c.args.col (let s : StandsAt c.args.self.now.nodes.items c.in-Some.node c.args.row c.args.col = rw c.in-Some.is at c.requires.found in s)

pub returns-else-is_zero-2-clause-entry : goal.returns-else-is_zero-2-clause-entry
returns-else-is_zero-2-clause-entry c =
    let w = c.args.self.now in
    let v = c.insert.new.self in
    let nz : is_zero (value c.args.entry) ≡ false = sym c.is_zero-in-None.ensures ∙ c.if-is_zero-2.false in
    let p = c.insert.ensures.seated in
    let l : is_live v.nodes.items c.insert.result ≡ true = ap (λ q. not (is_zero q)) p.item ∙ ap not nz in
    put_seated w.nodes.items v.nodes.items c.insert.result c.args.row c.args.col (value c.args.entry) (item_live v.nodes.items c.insert.result l) v.woven.apart nz p

pub returns-else-is_zero-2-clause-spare : goal.returns-else-is_zero-2-clause-spare
returns-else-is_zero-2-clause-spare c =
    let w = c.args.self.now in
    let vacant : IsVacant w.nodes.items c.args.row c.args.col = rw c.in-None.is at c.requires.found in
    let nz : is_zero (value c.args.entry) ≡ false = sym c.is_zero-in-None.ensures ∙ c.if-is_zero-2.false in
    let t = takes_one w.nodes.items c.args.row c.args.col (value c.args.entry) vacant nz in
    let u = takes-entry (value c.args.entry) (entry_at w.nodes.items c.args.row c.args.col) nz in
    let s = c.insert.ensures.spare in
    omega arith

pub returns-then-is_zero-2-clause-entry : goal.returns-then-is_zero-2-clause-entry
returns-then-is_zero-2-clause-entry c =
    let w = c.args.self.now in
    let vacant : IsVacant w.nodes.items c.args.row c.args.col = rw c.in-None.is at c.requires.found in
    let z : value c.args.entry ≡ of_ℤ (pos 0) = eq_ℚ_true (value c.args.entry) (of_ℤ (pos 0)) (sym c.is_zero-in-None.ensures ∙ c.if-is_zero-2.true) in
    put_same w.nodes.items c.args.row c.args.col (value c.args.entry) (entry-vacant w.nodes.items c.args.row c.args.col vacant ∙ sym z)
