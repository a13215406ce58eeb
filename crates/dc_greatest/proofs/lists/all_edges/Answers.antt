use Rattle.std.specs.Prelude.{◌≡◌, true}
use Rattle.std.proofs.Common.{subst, inl, inr, arith}
use Rattle.std.proofs.lemmas.Bool.{cases_lt}
use Rattle.dc_worklist.specs.Listed.{is_listed, with_number}
use Rattle.dc_greatest.proofs.Sames.{now_listed, still_listed}
use Rattle.dc_greatest.proofs.lists.all_edges.Goals as goal

pub loop-k-preserved : goal.loop-k-preserved
loop-k-preserved c =
    let k = c.loop-k.k in
    let e = c.insert.ensures.list in
    rw e (
      c.loop-k.invariant.0,
      (λ i h. elim (cases_lt i k) [
        | inl l ↦ still_listed k i c.loop-k.work.numbers (c.loop-k.invariant.1 i l)
        | inr l ↦ let q : k ≡ i = omega arith in subst (λ j. is_listed j (with_number k c.loop-k.work.numbers) ≡ true) q (now_listed k c.loop-k.work.numbers)
      ]),
    )
