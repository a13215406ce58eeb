use Rattle.std.proofs.Common.{◌≡◌, ◌+◌, ◌++◌, ◌∷◌, [], ℕ, List, Option, None, sym, subst}
use Rattle.dc_sparse.specs.Webs.{AreEmpty}
use Rattle.dc_sparse.proofs.Blank.{empty_start, empty_more}
use Rattle.dc_sparse.proofs.memory.no_heads.Goals as goal

pub loop-init : goal.loop-init
loop-init c = rw c.in_ok-heads.ensures.items empty_start

pub loop-preserved : goal.loop-preserved
loop-preserved c =
    let e : c.push.new.self.items ≡ c.loop.heads.items ++ None ∷ [] = c.in_ok-push.ensures.items in
    subst (λ (hs : List (Option ℕ)). AreEmpty hs (c.loop.counter + 1)) (sym e) (empty_more c.loop.heads.items c.loop.counter c.loop.invariant)
