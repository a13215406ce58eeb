-- A tableau that is ready for a pivot has room for it.
use Rattle.std.proofs.Common.{◌≡◌, ◌≤◌, ℕ, arith}
use Rattle.dc_lp.specs.Meanings.{IsPivotCell}
use Rattle.dc_lp.specs.Fill.{fill, gaps}
use Rattle.dc_lp.proofs.Fills.{fills}
use Rattle.dc_sparse.specs.declared.cross.Cross.{Cross}
use Rattle.dc_sparse.specs.Meanings.{cross_meaning}
use Rattle.dc_sparse.specs.Laws.{HasRoom}

pub fill-gaps : (c : Cross) (r j : ℕ) → IsPivotCell (cross_meaning c).table r j → fill (cross_meaning c).table r j ≡ gaps (cross_meaning c).table r j
fill-gaps c r j h = (fills (cross_meaning c).table r j h).number

pub has_room : HasRoom
has_room c r j e h =
    let f = fill-gaps c r j h in
    let g : gaps (cross_meaning c).table r j ≤ c.held.web.spare = c.room r j e in
    let n = c.held.web.woven.count in
    omega arith
