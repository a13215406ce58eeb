-- From each valid stage some lines lead to a whole certificate.
use Rattle.std.specs.Prelude.{◌≡◌, ℕ, zero, suc, ◌+◌, ◌-◌, ◌≤◌, List, [], ◌∷◌, ◌++◌, length, codes, Option, Some, None, refl}
use Rattle.std.proofs.Common.{arith, inl, inr}
use Rattle.std.proofs.lemmas.Bool.{lt-ltb}
use Rattle.dc_affine.specs.declared.atom.Atom.{Atom}
use Rattle.dc_cert.specs.declared.sparse.Sparse.{Sparse}
use Rattle.dc_cert.specs.declared.certificate.Liveness.{Liveness}
use Rattle.dc_cert.specs.declared.certificate.Liveness.TheVariants.{Live}
use Rattle.dc_cert.specs.declared.certificate.EdgeCert.{EdgeCert}
use Rattle.dc_cert.specs.declared.certificate.SideCert.{SideCert}
use Rattle.dc_cert.specs.declared.certificate.Certificate.{Certificate}
use Rattle.dc_cert.specs.Ranges.{HasCases}
use Rattle.dc_cert.specs.declared.certificate.Claim.{Claim}
use Rattle.dc_cert.specs.declared.certificate.Claim.TheVariants as C
use Rattle.dc_certtext.specs.declared.stage.Head.{Head}
use Rattle.dc_certtext.specs.declared.stage.Front.{Front}
use Rattle.dc_certtext.specs.declared.stage.Found.{Found}
use Rattle.dc_certtext.specs.declared.stage.Found.TheVariants as F
use Rattle.dc_certtext.specs.declared.stage.Stage.{Stage}
use Rattle.dc_certtext.specs.declared.stage.Stage.TheVariants.{Start, Whole, Version, Sizes, Cases, Heads, Opened, Locations, Entries, Edges, Between, Closed, Main, End, Done}
use Rattle.dc_lines.specs.Bytes.{Bytes}
use Rattle.dc_certtext.specs.Text.{shown_line, numbered, whole_line, sizes_line, entry_line}
use Rattle.dc_certtext.specs.Offers.{Any}
use Rattle.dc_certtext.specs.Due.{nothing_found}
use Rattle.dc_certtext.specs.Stages.{head, with_when, front, edge_of, side_of, closed_by, offers}
use Rattle.dc_lines.proofs.Cutting.{length-more}
use Rattle.dc_certtext.proofs.Valid.{IsHead, Valid}
use Rattle.dc_certtext.proofs.Paths.{Runs, stop, more, not-ltb}

pub record Completes (s : Stage) : Type 0 where
  pub lines : List Bytes
  pub whole : Certificate
  pub runs : Runs s lines (Done whole)

-- one line, and then on
by_line : (s : Stage) (b : Bytes) (t : Stage) → Any (offers s) b t → Completes t → Completes s
by_line s b t a c = record { lines = b ∷ c.lines; whole = c.whole; runs = more s b t c.lines (Done c.whole) a c.runs }

nothing : Sparse
nothing = record { items = [] }

end_completes : (c : Certificate) → Completes (End c)
end_completes c = by_line (End c) (codes "end") (Done c) (inl (refl, (refl, refl))) (record { lines = []; whole = c; runs = stop (Done c) })

main_completes : (f : Found) (h : Head) (n o : SideCert) → Completes (Main h n o f)
unfolding nothing
main_completes (F.Threshold t) h n o = by_line _ _ _ (inl (refl, (nothing, tt, refl, refl))) (by_line _ _ _ (inl (refl, (nothing, tt, refl, refl))) (by_line _ _ _ (inl (refl, (nothing, tt, refl, refl))) (end_completes _)))
main_completes (F.ThresholdUnknown t u) h n o = by_line _ _ _ (inl (refl, (nothing, tt, refl, refl))) (by_line _ _ _ (inl (refl, (nothing, tt, refl, refl))) (end_completes _))
main_completes (F.ThresholdLambda t u l) h n o = by_line _ _ _ (inl (refl, (nothing, tt, refl, refl))) (end_completes _)
main_completes F.Nothing h n o = by_line _ _ _ (inl (refl, (nothing, tt, refl, refl))) (end_completes _)
main_completes F.Vacuous h n o = by_line _ _ _ (inl (refl, (nothing, tt, refl, refl))) (by_line _ _ _ (inl (refl, (nothing, tt, refl, refl))) (by_line _ _ _ (inl (refl, (nothing, tt, refl, refl))) (by_line _ _ _ (inl (refl, (nothing, tt, refl, refl))) (end_completes _))))
main_completes (F.VacuousUnknown u) h n o = by_line _ _ _ (inl (refl, (nothing, tt, refl, refl))) (by_line _ _ _ (inl (refl, (nothing, tt, refl, refl))) (by_line _ _ _ (inl (refl, (nothing, tt, refl, refl))) (end_completes _)))
main_completes (F.VacuousLambda u l) h n o = by_line _ _ _ (inl (refl, (nothing, tt, refl, refl))) (by_line _ _ _ (inl (refl, (nothing, tt, refl, refl))) (end_completes _))
main_completes (F.VacuousRay u l r) h n o = by_line _ _ _ (inl (refl, (nothing, tt, refl, refl))) (end_completes _)

closed_completes : (h : Head) (n o : SideCert) → Completes (Closed h n o)
closed_completes h n o =
    by_line (Closed h n o) (codes "main") (Main h n o (nothing_found h.claim)) (inl (refl, (refl, refl))) (main_completes (nothing_found h.claim) h n o)

-- ---- a side, where what comes behind it completes
After : Head → Option SideCert → Type 0
After h n = (s : SideCert) → Completes (closed_by h n s)

exit_line : Liveness
exit_line = Live (record { items = [] })

edges_complete : (f : Front) (fam : List (List Atom)) (ents : List (List Sparse)) (done : List EdgeCert) (live : Liveness) (last : List Sparse) → After f.head f.new → Completes (Edges f fam ents done live last)
unfolding exit_line After
edges_complete f fam ents done live last k =
    by_line (Edges f fam ents done live last) (shown_line (codes "exit") exit_line) (closed_by f.head f.new (side_of fam ents (done ++ edge_of live last ∷ []) exit_line)) (inr (inr (inl (refl, (exit_line, tt, refl, refl))))) (k _)

entries_complete : (m : ℕ) (f : Front) (fam : List (List Atom)) (done : List (List Sparse)) (last : List Sparse) → suc (length done) + m ≡ f.head.cases → After f.head f.new → Completes (Entries f fam done last)
unfolding exit_line After
entries_complete zero f fam done last e k =
    by_line (Entries f fam done last) (shown_line (codes "exit") exit_line) (closed_by f.head f.new (side_of fam (done ++ last ∷ []) [] exit_line)) (inr (inr (inr (inl (not-ltb (suc (length done)) f.head.cases (omega arith), (exit_line, tt, refl, refl)))))) (k _)
entries_complete (suc m) f fam done last e k =
    by_line (Entries f fam done last) (entry_line f.head.version (suc (length done))) (Entries f fam (done ++ last ∷ []) []) (inr (inl (lt-ltb (suc (length done)) f.head.cases (omega arith), (refl, refl))))
    (entries_complete m f fam (done ++ last ∷ []) [] (let x = length-more done last in omega arith) k)

locations_complete : (f : Front) (done : List (List Atom)) (last : List Atom) → 1 ≤ f.head.cases → After f.head f.new → Completes (Locations f done last)
locations_complete f done last c k =
    by_line (Locations f done last) (entry_line f.head.version 0) (Entries f (done ++ last ∷ []) [] []) (inr (inr (inl (refl, (refl, refl))))) (entries_complete (f.head.cases - 1) f (done ++ last ∷ []) [] [] (omega arith) k)

opened_completes : (f : Front) → 1 ≤ f.head.cases → After f.head f.new → Completes (Opened f)
opened_completes f c k = by_line (Opened f) (numbered (codes "location ") 0) (Locations f [] []) (inl (refl, (refl, refl))) (locations_complete f [] [] c k)

after_old : (h : Head) (n : SideCert) → After h (Some n)
unfolding After
after_old h n s = closed_completes h n s

between_completes : (h : Head) (n : SideCert) → 1 ≤ h.cases → Completes (Between h n)
between_completes h n c = by_line (Between h n) (codes "side old") (Opened (front h (Some n))) (inl (refl, (refl, refl))) (opened_completes (front h (Some n)) c (after_old h n))

after : (h : Head) (n : Option SideCert) → 1 ≤ h.cases → After h n
unfolding After
after h None c s = between_completes h s c
after h (Some n) c s = closed_completes h n s

-- ---- the cases
heads_complete : (m : ℕ) (h : Head) → length h.when + m ≡ h.cases → 1 ≤ h.cases → Completes (Heads h)
unfolding exit_line
heads_complete zero h e c = by_line (Heads h) (codes "side new") (Opened (front h None)) (inr (inl (not-ltb (length h.when) h.cases (omega arith), (refl, refl)))) (opened_completes (front h None) c (after h None c))
heads_complete (suc m) h e c =
    by_line (Heads h) (shown_line (codes "when") exit_line) (Heads (with_when h exit_line)) (inl (lt-ltb (length h.when) h.cases (omega arith), (exit_line, tt, refl, refl)))
    (heads_complete m (with_when h exit_line) (let x = length-more h.when exit_line in omega arith) c)

some_case : (h : Head) → IsHead h → 1 ≤ h.cases
some_case h i = by i.cases
  where
    by : HasCases h.version h.cases → 1 ≤ h.cases
    by (inl x) = (let y = x.1 in omega arith)
    by (inr x) = x.1

cases_complete : (c : Claim) (d k : ℕ) → Completes (Cases c d k)
cases_complete c d k =
    by_line (Cases c d k) (numbered (codes "cases ") 1) (Heads (head c 2 d k 1 [])) (inl (refl, (1, (omega arith, omega arith, omega arith), refl, refl))) (heads_complete 1 (head c 2 d k 1 []) refl (omega arith))

sizes_complete : (c : Claim) (v : ℕ) → 1 ≤ v → v ≤ 2 → Completes (Sizes c v)
sizes_complete c zero h l = absurd (omega arith)
sizes_complete c (suc zero) h l =
    by_line (Sizes c 1) (sizes_line 0 1) (Heads (head c 1 0 1 1 [])) (inl (refl, (0, 1, (omega arith, omega arith, omega arith), refl, refl))) (heads_complete 1 (head c 1 0 1 1 []) refl (omega arith))
sizes_complete c (suc (suc zero)) h l = by_line (Sizes c 2) (sizes_line 0 1) (Cases c 0 1) (inl (refl, (0, 1, (omega arith, omega arith, omega arith), refl, refl))) (cases_complete c 0 1)
sizes_complete c (suc (suc (suc v))) h l = absurd (omega arith)

version_completes : (c : Claim) → Completes (Version c)
version_completes c = by_line (Version c) (numbered (codes "diffcost ") 1) (Sizes c 1) (inl (refl, (1, (omega arith, omega arith, omega arith), refl, refl))) (sizes_complete c 1 (omega arith) (omega arith))

-- ---- every valid stage
pub completes : (s : Stage) → Valid s → Completes s
completes Start v = by_line Start (codes "none") (Version C.Nothing) (inr (inl (refl, (refl, refl)))) (version_completes C.Nothing)
completes (Whole t) v = by_line (Whole t) (whole_line t) (Version (C.Threshold t)) (inl (refl, (refl, refl))) (version_completes (C.Threshold t))
completes (Version c) v = version_completes c
completes (Sizes c n) v = sizes_complete c n v.1 v.2
completes (Cases c d k) v = cases_complete c d k
completes (Heads h) v = heads_complete (h.cases - length h.when) h (let x = v.few in omega arith) (some_case h v)
completes (Opened f) v = opened_completes f (some_case f.head v.0.parts) (after f.head f.new (some_case f.head v.0.parts))
completes (Locations f done last) v = locations_complete f done last (some_case f.head v.0.parts) (after f.head f.new (some_case f.head v.0.parts))
completes (Entries f fam done last) v = entries_complete (f.head.cases - suc (length done)) f fam done last (let x = v.3.few in omega arith) (after f.head f.new (some_case f.head v.0.parts))
completes (Edges f fam ents done live last) v = edges_complete f fam ents done live last (after f.head f.new (some_case f.head v.0.parts))
completes (Between h n) v = between_completes h n (some_case h v.0.parts)
completes (Closed h n o) v = closed_completes h n o
completes (Main h n o found) v = main_completes found h n o
completes (End c) v = end_completes c
completes (Done c) v = record { lines = []; whole = c; runs = stop (Done c) }
