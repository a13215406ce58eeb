-- The lines of the cases, one after another.
use Rattle.std.specs.Prelude.{◌≡◌, ℕ, zero, suc, ◌+◌, ◌<◌, ◌≤◌, Bool, List, [], ◌∷◌, ◌++◌, map, take, drop, length, slice_index_or}
use Rattle.std.specs.List.{AllByRecursion}
use Rattle.std.proofs.Common.{refl, sym, ◌∙◌, ap, subst, arith}
use Rattle.std.proofs.lemmas.List.{take_all, length-take-le, map-append}
use Rattle.dc_affine.specs.declared.atom.Atom.{Atom}
use Rattle.dc_affine.specs.Atoms.{IsAtom, IsFullAtom, AllCases}
use Rattle.dc_affine.proofs.Within.{full_within}
use Rattle.dc_cert.specs.declared.certificate.Liveness.{Liveness}
use Rattle.dc_cert.specs.declared.certificate.Liveness.TheVariants.{Dead, Live}
use Rattle.dc_cert.specs.Ranges.{is_live}
use Rattle.dc_points.specs.Flags.{IsFlag, AreFlags}
use Rattle.dc_points.specs.Stated.{empty_problem}
use Rattle.dc_points.proofs.Flags.{flags_push}
use Rattle.dc_entail.specs.declared.answer.Site.{Site}
use Rattle.dc_entail.specs.declared.answer.Site.TheVariants as site
use Rattle.dc_entail.specs.Asked.{Asked, ask, IsDone, AllDone}
use Rattle.dc_greatest.specs.declared.family.InvFault.{InvFault}
use Rattle.dc_greatest.specs.Answers.{IsFault}
use Rattle.dc_greatest.proofs.Unchanged.{both_done}
use Rattle.dc_invariant.specs.Shown.{IsLine}
use Rattle.dc_invariant.specs.Keeps.{numbered}
use Rattle.dc_invariant.proofs.Faults.{fault_part}
use Rattle.dc_invariant.proofs.Kept.{cut_at, next_at, numbered_join}
use Rattle.dc_invariant.proofs.Tells.{line_done_dead, line_done_live}
use Rattle.dc_session.specs.Session.{Input, case_asked, cases_asked}
use Rattle.dc_session.specs.Made.{AreCaseLines}
use Rattle.dc_engine.specs.Parts.{Only, TellsCases}

-- ---- one line
line_done : (hyps : List Atom) (n budget : ℕ) (l : Liveness) (q : Site) → IsLine hyps n budget l → IsDone budget (ask q (empty_problem hyps n))
line_done hyps n budget (Dead k) q h = line_done_dead hyps n budget k q h
line_done hyps n budget (Live k) q h = line_done_live hyps n budget k q h

pub case_atoms : (n : ℕ) (cases : List (List Atom)) (k : ℕ) (case : List Atom) → AllCases (IsFullAtom n) cases → k < length cases → case ≡ slice_index_or cases k case
    → AllByRecursion (IsAtom n) case
case_atoms n [] k case h l e = absurd (omega arith)
case_atoms n (x ∷ cases) zero case h l e = subst (AllByRecursion (IsAtom n)) (sym e) (full_within n x h.0)
case_atoms n (x ∷ cases) (suc k) case h l e = case_atoms n cases k case h.1 (omega arith) e

-- ---- lists that grow

lines_push : (n budget : ℕ) (cases : List (List Atom)) (live : List Bool) (ws : List Liveness) (case : List Atom) (w : Liveness)
    → AreCaseLines n budget cases live ws → IsLine case n budget w → AreCaseLines n budget (cases ++ case ∷ []) (live ++ is_live w ∷ []) (ws ++ w ∷ [])
lines_push n budget [] [] [] case w h k = (refl, k, tt)
lines_push n budget [] [] (x ∷ ws) case w h k = absurd h
lines_push n budget [] (b ∷ live) ws case w h k = absurd h
lines_push n budget (c ∷ cases) [] ws case w h k = absurd h
lines_push n budget (c ∷ cases) (b ∷ live) [] case w h k = absurd h
lines_push n budget (c ∷ cases) (b ∷ live) (x ∷ ws) case w h k = (h.0, h.1, lines_push n budget cases live ws case w h.2 k)

-- ---- the lines of the first cases
module _ (n budget : ℕ) (cases : List (List Atom)) where
  abbrev asked : ℕ → List Atom → Asked
  asked = case_asked n

  pub record AreFirstLines (k : ℕ) (ws : List Liveness) : Type 0 where
    pub lines : AreCaseLines n budget (take k cases) (map is_live ws) ws
    pub right : AreFlags (map is_live ws) (take k cases)
    pub done : AllDone budget (numbered asked 0 (take k cases))

  pub lines_start : AreFirstLines 0 []
  lines_start = record { lines = tt; right = tt; done = tt }

  module _ (k : ℕ) (case : List Atom) (inside : k < length cases) (read : case ≡ slice_index_or cases k case) where
    long : 0 + length (take k cases) ≡ k
    long = let e = length-take-le k cases (omega arith) in omega arith

    pub lines_next : (ws new : List Liveness) (w : Liveness) → AreFirstLines k ws → IsLine case n budget w → IsFlag (is_live w) case → new ≡ ws ++ w ∷ [] → AreFirstLines (suc k) new
    lines_next ws new w h l f e =
        let s = next_at cases k case inside read in
        let m : map is_live new ≡ map is_live ws ++ is_live w ∷ [] = ap (map is_live) e ∙ map-append is_live ws (w ∷ []) in
        record {
          lines = subst (λ cs. AreCaseLines n budget cs (map is_live new) new) (sym s)
              (subst (λ bs. AreCaseLines n budget (take k cases ++ case ∷ []) bs new) (sym m)
              (subst (AreCaseLines n budget (take k cases ++ case ∷ []) (map is_live ws ++ is_live w ∷ [])) (sym e)
              (lines_push n budget (take k cases) (map is_live ws) ws case w h.lines l)));
          right = subst (AreFlags (map is_live new)) (sym s)
              (subst (λ bs. AreFlags bs (take k cases ++ case ∷ [])) (sym m) (flags_push (map is_live ws) (take k cases) (is_live w) case h.right f));
          done = subst (λ cs. AllDone budget (numbered asked 0 cs)) (sym s)
              (subst (AllDone budget) (sym (numbered_join asked 0 (take k cases) (case ∷ []) ∙ ap (λ j. numbered asked 0 (take k cases) ++ asked j case ∷ []) long))
              (both_done budget (numbered asked 0 (take k cases)) (asked k case ∷ []) h.done (line_done case n budget w (site.When k) l, tt)));
        }

    pub lines_fault : (ws : List Liveness) → AreFirstLines k ws → (x : InvFault) → IsFault budget (Only (asked k case ∷ [])) x → IsFault budget (Only (cases_asked n cases)) x
    lines_fault ws h x r =
        fault_part budget (numbered asked 0 (take k cases)) (numbered asked (suc k) (drop (suc k) cases)) (Only (asked k case ∷ [])) (Only (cases_asked n cases)) h.done
        (λ qs e. ap (λ zs. numbered asked 0 (take k cases) ++ (zs ++ numbered asked (suc k) (drop (suc k) cases))) e ∙ sym whole) x r
      where
        whole : numbered asked 0 cases ≡ numbered asked 0 (take k cases) ++ asked k case ∷ numbered asked (suc k) (drop (suc k) cases)
        whole =
            ap (numbered asked 0) (cut_at cases k case inside read) ∙ numbered_join asked 0 (take k cases) (case ∷ drop (suc k) cases)
            ∙ ap (λ j. numbered asked 0 (take k cases) ++ asked j case ∷ numbered asked (suc j) (drop (suc k) cases)) long

pub lines_end : (i : Input) (k : ℕ) (ws : List Liveness) → length i.cases ≤ k → AreFirstLines i.new.params i.settings.pivots i.cases k ws → TellsCases i ws
lines_end i k ws l h =
    let e = take_all k i.cases l in
    record {
      lines_are = subst (λ cs. AreCaseLines i.new.params i.settings.pivots cs (map is_live ws) ws) e h.lines;
      right = subst (AreFlags (map is_live ws)) e h.right;
      through = subst (λ cs. AllDone i.settings.pivots (cases_asked i.new.params cs)) e h.done;
    }
