-- An arena that grows only as far as its linked nodes need.
use Rattle.std.proofs.Common.{◌≡◌, ℕ, ◌+◌, ◌-◌, ◌≤◌, max, Result, Ok, Err, OnErr, length, ◌∙◌, ap, arith}
use Rattle.dc_lp.specs.declared.Problem.{Problem}
use Rattle.dc_lp.specs.Meanings.{start}
use Rattle.dc_lp.specs.Fill.{entry_count}
use Rattle.dc_start.specs.Starts.{width}
use Rattle.dc_sparse.specs.declared.web.Web.{Web}
use Rattle.dc_sparse.specs.Fills.{IsPartOf}
use Rattle.dc_sparse.specs.Sizes.{HasGrown, GrowsFor, held_count, live_count}
use Rattle.dc_sparse.proofs.FreeCounts.{free_count-at_most}
use Rattle.dc_sparse.proofs.LiveCounts.{linked-entries}
use Rattle.dc_sparse.proofs.StartTables.{part-entries}

-- one node is made free if none was, and is taken
pub grown_taken : (n l s l' s' s'' : ℕ) → HasGrown n l s → s ≤ l → s' ≡ max s 1 → l' + s ≡ l + s' → s'' + 1 ≡ s' → HasGrown n l' s''
grown_taken n l s l' s' s'' h le e f g = omega arith

-- what needs at most as many nodes as this has grown for it
pub grown_for : (old new spare need : ℕ) → HasGrown old new spare → new - spare ≤ need → GrowsFor old new need
grown_for old new spare need h le = record { kept = omega arith; most = omega arith }

-- all nodes are free
pub grown_start : (n : ℕ) → HasGrown n n n
grown_start n = omega arith

-- a web with a part of the starting table has grown for that table
pub grown_part : (p : Problem) (old : ℕ) (w : Web) → HasGrown old (length w.nodes.items) w.spare → IsPartOf p w.nodes.items (p.rows + 2)
    → length w.row_heads.items ≡ p.rows + 2 → length w.col_heads.items ≡ width p → GrowsFor old (length w.nodes.items) (entry_count (start p))
grown_part p old w g f tall wide =
    let e = linked-entries w.nodes.items (length w.row_heads.items) (length w.col_heads.items) w.spare w.woven.apart w.woven.within w.woven.count in
    let s : held_count w.nodes.items (length w.row_heads.items) (length w.col_heads.items) ≡ held_count w.nodes.items (p.rows + 2) (width p) =
    ap (λ n. held_count w.nodes.items n (length w.col_heads.items)) tall ∙ ap (λ n. held_count w.nodes.items (p.rows + 2) n) wide in
    let m = part-entries p w.nodes.items f in
    grown_for old (length w.nodes.items) w.spare (entry_count (start p)) g (omega arith)

-- where as many nodes came as came free, as many are linked
pub live_kept : (v w : Web) → length w.nodes.items + v.spare ≡ length v.nodes.items + w.spare → live_count w.nodes.items ≡ live_count v.nodes.items
live_kept v w e =
    let a = v.woven.count in
    let b = w.woven.count in
    let m = free_count-at_most v.nodes.items in
    let n = free_count-at_most w.nodes.items in
    omega arith

pub after_error : {A E P Q : Type 0} (r : Result A E) → (P → Q) → OnErr r P → OnErr r Q
after_error (Ok x) f h = h
after_error (Err e) f h = f h
