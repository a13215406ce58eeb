use Rattle.std.proofs.Common.{◌<◌, ℕ, Some, length, arith, refl}
use Rattle.dc_frac.specs.Value.{value}
use Rattle.dc_sparse.specs.Entries.{entry_at, KeepsCells}
use Rattle.dc_sparse.specs.Rows.{KeepsRows}
use Rattle.dc_sparse.specs.Scales.{IsWhole, IsDen}
use Rattle.dc_sparse.proofs.Scaling.{scaled-set}
use Rattle.dc_sparse.proofs.HeldEntries.{taken_over, same_sizes}
use Rattle.dc_sparse.proofs.scaled.Scaled.keep.Goals as goal

pub invariant_of-self : goal.invariant_of-self
invariant_of-self c =
    let s = c.args.self.now in
    let lt : c.args.row < length s.dens.items = (let l = s.scaled.long in omega arith) in
    let den : IsDen (value c.args.by) = c.is_den.ensures c.if-not-is_den.false in
    let whole : (k : ℕ) → IsWhole 41 (entry_at s.web.nodes.items c.args.row k) = c.requires.whole in
    record { scaled = scaled-set s.web.nodes.items s.dens.items (length s.web.row_heads.items) s.scaled s.web.nodes.items c.args.row (Some c.args.by) lt (λ a b ne. refl) (den, whole) }

pub returns-clause-taken : goal.returns-clause-taken
returns-clause-taken c _ =
    let s = c.args.self.now in
    let rows : KeepsRows s.web.nodes.items s.web.nodes.items c.args.row = record { entries = λ a b ne. refl; stays = λ n a b ne h. h; stood = λ n a b ne h. h } in
    let cells : KeepsCells s.web.nodes.items s.web.nodes.items = record { stays = λ n a b h. h; stood = λ n a b h. h } in
    taken_over s _ c.args.row (Some c.args.by) c.requires.row refl rows (value c.args.by) (λ k. refl) cells (same_sizes s.web)
