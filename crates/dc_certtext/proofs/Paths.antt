-- Runs of lines from stage to stage, and the run of each certificate.
use Rattle.std.specs.Prelude.{◌≡◌, ℕ, suc, ◌+◌, ◌≤◌, Bool, true, false, not, ltb, List, [], ◌∷◌, ◌++◌, map, length, codes, Some, None, refl}
use Rattle.std.specs.List.{AllByRecursion}
use Rattle.std.proofs.Common.{sym, ◌∙◌, ap, subst, arith, append_assoc, inl, inr}
use Rattle.std.proofs.lemmas.List.{append-nil, length-append}
use Rattle.std.proofs.lemmas.Bool.{ltb-true, lt-ltb}
use Rattle.dc_affine.specs.declared.atom.Atom.{Atom}
use Rattle.dc_affine.specs.Atoms.{IsAtom}
use Rattle.dc_cert.specs.declared.sparse.Sparse.{Sparse}
use Rattle.dc_cert.specs.declared.certificate.Liveness.{Liveness}
use Rattle.dc_cert.specs.declared.certificate.EdgeCert.{EdgeCert}
use Rattle.dc_cert.specs.declared.certificate.SideCert.{SideCert}
use Rattle.dc_cert.specs.declared.certificate.Body.{Body}
use Rattle.dc_cert.specs.declared.certificate.Body.TheVariants as B
use Rattle.dc_cert.specs.declared.certificate.Certificate.{Certificate}
use Rattle.dc_cert.specs.Ranges.{IsShown, AreKeeps, AreAtoms, IsEdge, IsSide, HasCases, IsCertificate, IsBody}
use Rattle.dc_cert.specs.Vectors.{IsVector}
use Rattle.dc_cert.specs.declared.certificate.Claim.{Claim}
use Rattle.dc_cert.specs.declared.certificate.Claim.TheVariants as C
use Rattle.dc_certtext.specs.declared.stage.Head.{Head}
use Rattle.dc_certtext.specs.declared.stage.Front.{Front}
use Rattle.dc_certtext.specs.declared.stage.Found.TheVariants as F
use Rattle.dc_certtext.specs.declared.stage.Stage.{Stage}
use Rattle.dc_certtext.specs.declared.stage.Stage.TheVariants.{Start, Whole, Version, Sizes, Cases, Heads, Opened, Locations, Entries, Edges, Between, Closed, Main, End, Done}
use Rattle.dc_lines.specs.Bytes.{Bytes}
use Rattle.dc_lines.proofs.Readers as readers
use Rattle.dc_certtext.specs.Text.{vector_line, shown_line, numbered, threshold_line, whole_line, sizes_line, atom_line, entry_line, edge_line, groups, location_lines, keep_lines, entry_lines, edge_lines, side_lines, cases_lines, claim_lines, head_lines, body_lines, lines_of}
use Rattle.dc_certtext.specs.Offers.{Any}
use Rattle.dc_certtext.specs.Stages.{head, front, edge_of, side_of, sized, closed_by, offers}
use Rattle.dc_certtext.specs.Due.{certificate, nothing_found}
use Rattle.dc_cert.specs.Claims.{claim_of}
use Rattle.dc_lines.proofs.Cutting.{length-more}

-- a line that some offer of a stage takes leads to the next stage
abbrev pub Step : Stage → Bytes → Stage → Type 0
Step s b t = Any (offers s) b t

-- line by line from one stage to another
abbrev pub Runs : Stage → List Bytes → Stage → Type 0
Runs s ls t = readers.Runs Step s ls t

pub stop : (s : Stage) → Runs s [] s
stop s = refl

pub more : (s : Stage) (b : Bytes) (m : Stage) (bs : List Bytes) (t : Stage) → Any (offers s) b m → Runs m bs t → Runs s (b ∷ bs) t
more s b m bs t a r = (m, a, r)

pub runs-append : (s : Stage) (xs : List Bytes) (m : Stage) (ys : List Bytes) (t : Stage) → Runs s xs m → Runs m ys t → Runs s (xs ++ ys) t
runs-append s xs m ys t r k = readers.runs-append Step s xs m ys t r k

pub not-ltb : (m n : ℕ) → n ≤ m → not (ltb m n) ≡ true
not-ltb m n h = by (ltb m n) refl
  where
    by : (t : Bool) → ltb m n ≡ t → not t ≡ true
    by true e = absurd (let x = ltb-true m n e in omega arith)
    by false e = refl

-- ---- lists of atoms and keeps
atoms_run : (f : Front) (done : List (List Atom)) (last more_atoms : List Atom) → length last + length more_atoms ≤ 1024 → AllByRecursion (IsAtom 10) more_atoms
    → Runs (Locations f done last) (map atom_line more_atoms) (Locations f done (last ++ more_atoms))
atoms_run f done last [] h k = subst (λ l. Runs (Locations f done last) [] (Locations f done l)) (sym (append-nil last)) (stop (Locations f done last))
atoms_run f done last (a ∷ ats) h k =
    more (Locations f done last) (atom_line a) (Locations f done (last ++ a ∷ [])) (map atom_line ats) (Locations f done (last ++ a ∷ ats)) (inl (lt-ltb (length last) 1024 (omega arith), (a, k.0, refl, refl)))
    (subst (λ l. Runs (Locations f done (last ++ a ∷ [])) (map atom_line ats) (Locations f done l)) (append_assoc last (a ∷ []) ats)
    (atoms_run f done (last ++ a ∷ []) ats (let x = length-append last (a ∷ []) in omega arith) k.1))

-- from a location that is closed, over the others
locations_run : (f : Front) (done : List (List Atom)) (last : List Atom) (fam : List (List Atom)) → suc (length done) + length fam ≤ 128 → AllByRecursion AreAtoms fam
    → (p : List (List Atom)) × (x : List Atom) × (p ++ x ∷ [] ≡ done ++ last ∷ fam) × Runs (Locations f done last) (groups location_lines (suc (length done)) fam) (Locations f p x)
locations_run f done last [] h k = (done, last, refl, stop (Locations f done last))
locations_run f done last (ats ∷ fam) h k =
    let r = locations_run f (done ++ last ∷ []) ats fam (let x = length-more done last in omega arith) k.1 in (
      r.0,
      r.1,
      r.2 ∙ append_assoc done (last ∷ []) (ats ∷ fam),
      more (Locations f done last) (numbered (codes "location ") (suc (length done))) (Locations f (done ++ last ∷ []) []) (map atom_line ats ++ groups location_lines (suc (suc (length done))) fam) (Locations f r.0 r.1)
          (inr (inl (lt-ltb (suc (length done)) 128 (omega arith), (refl, refl))))
          (runs-append (Locations f (done ++ last ∷ []) []) (map atom_line ats) (Locations f (done ++ last ∷ []) ats) (groups location_lines (suc (suc (length done))) fam) (Locations f r.0 r.1)
          (atoms_run f (done ++ last ∷ []) [] ats (let x = k.0.few in omega arith) k.0.each)
          (subst (λ n. Runs (Locations f (done ++ last ∷ []) ats) (groups location_lines (suc n) fam) (Locations f r.0 r.1)) (length-more done last) r.3)),
    )

entry_keeps_run : (f : Front) (fam : List (List Atom)) (done : List (List Sparse)) (last keeps : List Sparse) → length last + length keeps ≤ 1024 → AllByRecursion IsVector keeps
    → Runs (Entries f fam done last) (keep_lines keeps) (Entries f fam done (last ++ keeps))
entry_keeps_run f fam done last [] h k = subst (λ l. Runs (Entries f fam done last) [] (Entries f fam done l)) (sym (append-nil last)) (stop (Entries f fam done last))
entry_keeps_run f fam done last (s ∷ ss) h k =
    more (Entries f fam done last) (vector_line (codes "keep") s) (Entries f fam done (last ++ s ∷ [])) (keep_lines ss) (Entries f fam done (last ++ s ∷ ss)) (inl (lt-ltb (length last) 1024 (omega arith), (s, k.0, refl, refl)))
    (subst (λ l. Runs (Entries f fam done (last ++ s ∷ [])) (keep_lines ss) (Entries f fam done l)) (append_assoc last (s ∷ []) ss)
    (entry_keeps_run f fam done (last ++ s ∷ []) ss (let x = length-append last (s ∷ []) in omega arith) k.1))

entries_run : (f : Front) (fam : List (List Atom)) (done : List (List Sparse)) (last : List Sparse) (ents : List (List Sparse)) → suc (length done) + length ents ≤ f.head.cases → AllByRecursion AreKeeps ents
    → (p : List (List Sparse)) × (x : List Sparse) × (p ++ x ∷ [] ≡ done ++ last ∷ ents) × Runs (Entries f fam done last) (groups (entry_lines f.head.version) (suc (length done)) ents) (Entries f fam p x)
entries_run f fam done last [] h k = (done, last, refl, stop (Entries f fam done last))
entries_run f fam done last (ss ∷ ents) h k =
    let r = entries_run f fam (done ++ last ∷ []) ss ents (let x = length-more done last in omega arith) k.1 in (
      r.0,
      r.1,
      r.2 ∙ append_assoc done (last ∷ []) (ss ∷ ents),
      more (Entries f fam done last) (entry_line f.head.version (suc (length done))) (Entries f fam (done ++ last ∷ []) []) (keep_lines ss ++ groups (entry_lines f.head.version) (suc (suc (length done))) ents) (Entries f fam r.0 r.1)
          (inr (inl (lt-ltb (suc (length done)) f.head.cases (omega arith), (refl, refl))))
          (runs-append (Entries f fam (done ++ last ∷ []) []) (keep_lines ss) (Entries f fam (done ++ last ∷ []) ss) (groups (entry_lines f.head.version) (suc (suc (length done))) ents) (Entries f fam r.0 r.1)
          (entry_keeps_run f fam (done ++ last ∷ []) [] ss (let x = k.0.few in omega arith) k.0.vectors)
          (subst (λ n. Runs (Entries f fam (done ++ last ∷ []) ss) (groups (entry_lines f.head.version) (suc n) ents) (Entries f fam r.0 r.1)) (length-more done last) r.3)),
    )

edge_keeps_run : (f : Front) (fam : List (List Atom)) (ents : List (List Sparse)) (done : List EdgeCert) (live : Liveness) (last keeps : List Sparse) → length last + length keeps ≤ 1024 → AllByRecursion IsVector keeps
    → Runs (Edges f fam ents done live last) (keep_lines keeps) (Edges f fam ents done live (last ++ keeps))
edge_keeps_run f fam ents done live last [] h k = subst (λ l. Runs (Edges f fam ents done live last) [] (Edges f fam ents done live l)) (sym (append-nil last)) (stop (Edges f fam ents done live last))
edge_keeps_run f fam ents done live last (s ∷ ss) h k =
    more (Edges f fam ents done live last) (vector_line (codes "keep") s) (Edges f fam ents done live (last ++ s ∷ [])) (keep_lines ss) (Edges f fam ents done live (last ++ s ∷ ss))
    (inl (lt-ltb (length last) 1024 (omega arith), (s, k.0, refl, refl)))
    (subst (λ l. Runs (Edges f fam ents done live (last ++ s ∷ [])) (keep_lines ss) (Edges f fam ents done live l)) (append_assoc last (s ∷ []) ss)
    (edge_keeps_run f fam ents done live (last ++ s ∷ []) ss (let x = length-append last (s ∷ []) in omega arith) k.1))

-- over the other edges and the exit
edges_run : (f : Front) (fam : List (List Atom)) (ents : List (List Sparse)) (done : List EdgeCert) (live : Liveness) (last : List Sparse) (edges : List EdgeCert) (l : Liveness) → suc (length done) + length edges ≤ 512
    → AllByRecursion IsEdge edges → IsShown l
    → Runs (Edges f fam ents done live last) (groups edge_lines (suc (length done)) edges ++ (shown_line (codes "exit") l ∷ [])) (closed_by f.head f.new (side_of fam ents (done ++ edge_of live last ∷ edges) l))
edges_run f fam ents done live last [] l h k s =
    more (Edges f fam ents done live last) (shown_line (codes "exit") l) (closed_by f.head f.new (side_of fam ents (done ++ edge_of live last ∷ []) l)) [] (closed_by f.head f.new (side_of fam ents (done ++ edge_of live last ∷ []) l)) (inr (inr (inl (refl, (l, s, refl, refl)))))
    (stop (closed_by f.head f.new (side_of fam ents (done ++ edge_of live last ∷ []) l)))
edges_run f fam ents done live last (e ∷ edges) l h k s =
    let t = closed_by f.head f.new (side_of fam ents (done ++ edge_of live last ∷ e ∷ edges) l) in
    more (Edges f fam ents done live last) (edge_line (suc (length done)) e.live) (Edges f fam ents (done ++ edge_of live last ∷ []) e.live [])
    ((keep_lines e.keeps ++ groups edge_lines (suc (suc (length done))) edges) ++ (shown_line (codes "exit") l ∷ [])) t
    (inr (inl (lt-ltb (suc (length done)) 512 (omega arith), (e.live, k.0.live, refl, refl))))
    (subst (λ w. Runs (Edges f fam ents (done ++ edge_of live last ∷ []) e.live []) w t) (sym (append_assoc (keep_lines e.keeps) (groups edge_lines (suc (suc (length done))) edges) (shown_line (codes "exit") l ∷ [])))
    (runs-append (Edges f fam ents (done ++ edge_of live last ∷ []) e.live []) (keep_lines e.keeps) (Edges f fam ents (done ++ edge_of live last ∷ []) e.live e.keeps)
    (groups edge_lines (suc (suc (length done))) edges ++ (shown_line (codes "exit") l ∷ [])) t
    (edge_keeps_run f fam ents (done ++ edge_of live last ∷ []) e.live [] e.keeps (let x = k.0.keeps.few in omega arith) k.0.keeps.vectors)
    (subst (λ n. Runs (Edges f fam ents (done ++ edge_of live last ∷ []) e.live e.keeps) (groups edge_lines (suc n) edges ++ (shown_line (codes "exit") l ∷ [])) t) (length-more done (edge_of live last))
    (subst (λ ds. Runs (Edges f fam ents (done ++ edge_of live last ∷ []) e.live e.keeps) (groups edge_lines (suc (length (done ++ edge_of live last ∷ []))) edges ++ (shown_line (codes "exit") l ∷ [])) (closed_by f.head f.new (side_of fam ents ds l)))
    (append_assoc done (edge_of live last ∷ []) (e ∷ edges))
    (edges_run f fam ents (done ++ edge_of live last ∷ []) e.live e.keeps edges l (let x = length-more done (edge_of live last) in omega arith) k.1 s)))))

-- from the last entry over the edges and the exit
after_entries : (f : Front) (fam : List (List Atom)) (done : List (List Sparse)) (last : List Sparse) (edges : List EdgeCert) (l : Liveness) → f.head.cases ≤ suc (length done) → length edges ≤ 512 → AllByRecursion IsEdge edges → IsShown l
    → Runs (Entries f fam done last) (groups edge_lines 0 edges ++ (shown_line (codes "exit") l ∷ [])) (closed_by f.head f.new (side_of fam (done ++ last ∷ []) edges l))
after_entries f fam done last [] l c h k s =
    more (Entries f fam done last) (shown_line (codes "exit") l) (closed_by f.head f.new (side_of fam (done ++ last ∷ []) [] l)) [] (closed_by f.head f.new (side_of fam (done ++ last ∷ []) [] l)) (inr (inr (inr (inl (not-ltb (suc (length done)) f.head.cases c, (l, s, refl, refl))))))
    (stop (closed_by f.head f.new (side_of fam (done ++ last ∷ []) [] l)))
after_entries f fam done last (e ∷ edges) l c h k s =
    let t = closed_by f.head f.new (side_of fam (done ++ last ∷ []) (e ∷ edges) l) in
    more (Entries f fam done last) (edge_line 0 e.live) (Edges f fam (done ++ last ∷ []) [] e.live []) ((keep_lines e.keeps ++ groups edge_lines 1 edges) ++ (shown_line (codes "exit") l ∷ [])) t
    (inr (inr (inl (not-ltb (suc (length done)) f.head.cases c, (e.live, k.0.live, refl, refl)))))
    (subst (λ w. Runs (Edges f fam (done ++ last ∷ []) [] e.live []) w t) (sym (append_assoc (keep_lines e.keeps) (groups edge_lines 1 edges) (shown_line (codes "exit") l ∷ [])))
    (runs-append (Edges f fam (done ++ last ∷ []) [] e.live []) (keep_lines e.keeps) (Edges f fam (done ++ last ∷ []) [] e.live e.keeps) (groups edge_lines 1 edges ++ (shown_line (codes "exit") l ∷ [])) t
    (edge_keeps_run f fam (done ++ last ∷ []) [] e.live [] e.keeps (let x = k.0.keeps.few in omega arith) k.0.keeps.vectors)
    (edges_run f fam (done ++ last ∷ []) [] e.live e.keeps edges l (omega arith) k.1 s)))

-- a whole side
side_from : (f : Front) (ats : List Atom) (fam : List (List Atom)) (ks : List Sparse) (ents : List (List Sparse)) (edges : List EdgeCert) (l : Liveness) → 1 + length fam ≤ 128 → AreAtoms ats → AllByRecursion AreAtoms fam → AreKeeps ks
    → AllByRecursion AreKeeps ents → 1 + length ents ≡ f.head.cases → length edges ≤ 512 → AllByRecursion IsEdge edges → IsShown l
    → Runs (Opened f) (groups location_lines 0 (ats ∷ fam) ++ (groups (entry_lines f.head.version) 0 (ks ∷ ents) ++ (groups edge_lines 0 edges ++ (shown_line (codes "exit") l ∷ []))))
    (closed_by f.head f.new (side_of (ats ∷ fam) (ks ∷ ents) edges l))
side_from f ats fam ks ents edges l n h k i j c m w s =
    let r = locations_run f [] ats fam n k in
    let whole = r.0 ++ r.1 ∷ [] in
    let q = entries_run f whole [] ks ents (omega arith) j in
    let tail = groups edge_lines 0 edges ++ (shown_line (codes "exit") l ∷ []) in
    subst (λ x. Runs (Opened f) (groups location_lines 0 (ats ∷ fam) ++ (groups (entry_lines f.head.version) 0 (ks ∷ ents) ++ tail)) (closed_by f.head f.new (side_of x (ks ∷ ents) edges l))) r.2
    (subst (λ x. Runs (Opened f) (groups location_lines 0 (ats ∷ fam) ++ (groups (entry_lines f.head.version) 0 (ks ∷ ents) ++ tail)) (closed_by f.head f.new (side_of whole x edges l))) q.2
    (runs-append (Opened f) (groups location_lines 0 (ats ∷ fam)) (Locations f r.0 r.1) (groups (entry_lines f.head.version) 0 (ks ∷ ents) ++ tail) (closed_by f.head f.new (side_of whole (q.0 ++ q.1 ∷ []) edges l))
    (more (Opened f) (numbered (codes "location ") 0) (Locations f [] []) (map atom_line ats ++ groups location_lines 1 fam) (Locations f r.0 r.1) (inl (refl, (refl, refl)))
    (runs-append (Locations f [] []) (map atom_line ats) (Locations f [] ats) (groups location_lines 1 fam) (Locations f r.0 r.1) (atoms_run f [] [] ats (let x = h.few in omega arith) h.each) r.3))
    (runs-append (Locations f r.0 r.1) (groups (entry_lines f.head.version) 0 (ks ∷ ents)) (Entries f whole q.0 q.1) tail (closed_by f.head f.new (side_of whole (q.0 ++ q.1 ∷ []) edges l))
    (more (Locations f r.0 r.1) (entry_line f.head.version 0) (Entries f whole [] []) (keep_lines ks ++ groups (entry_lines f.head.version) 1 ents) (Entries f whole q.0 q.1) (inr (inr (inl (refl, (refl, refl)))))
    (runs-append (Entries f whole [] []) (keep_lines ks) (Entries f whole [] ks) (groups (entry_lines f.head.version) 1 ents) (Entries f whole q.0 q.1) (entry_keeps_run f whole [] [] ks (let x = i.few in omega arith) i.vectors) q.3))
    (after_entries f whole q.0 q.1 edges l (let x = ap length q.2 in let y = length-more q.0 q.1 in omega arith) m w s))))

pub side_run : (f : Front) (s : SideCert) → IsSide f.head.cases s → 1 ≤ f.head.cases → Runs (Opened f) (side_lines f.head.version s) (closed_by f.head f.new s)
side_run f s h c = by s.families s.entry_keeps h.some h.few h.families h.one_each h.entry_keeps
  where
    by : (fam : List (List Atom)) (ents : List (List Sparse)) → 1 ≤ length fam → length fam ≤ 128 → AllByRecursion AreAtoms fam → length ents ≡ f.head.cases → AllByRecursion AreKeeps ents
        → Runs (Opened f) (groups location_lines 0 fam ++ (groups (entry_lines f.head.version) 0 ents ++ (groups edge_lines 0 s.edges ++ (shown_line (codes "exit") s.exit_line ∷ [])))) (closed_by f.head f.new (side_of fam ents s.edges s.exit_line))
    by [] ents i j k m n = absurd (omega arith)
    by (ats ∷ fam) [] i j k m n = absurd (omega arith)
    by (ats ∷ fam) (ks ∷ ents) i j k m n = side_from f ats fam ks ents s.edges s.exit_line (omega arith) k.0 k.1 n.0 n.1 (omega arith) h.few_edges h.edges h.exit_line

-- ---- from the claim to the cases
claim_run : (b : Body) → IsBody b → Runs Start (claim_lines (claim_of b)) (Version (claim_of b))
claim_run (B.Threshold t u l d) h =
    more Start (threshold_line t) (Whole t) (whole_line t ∷ []) (Version (C.Threshold t)) (inl (refl, (t, h.0, refl, refl)))
    (more (Whole t) (whole_line t) (Version (C.Threshold t)) [] (Version (C.Threshold t)) (inl (refl, (refl, refl))) (stop (Version (C.Threshold t))))
claim_run (B.Nothing d) h = more Start (codes "none") (Version C.Nothing) [] (Version C.Nothing) (inr (inl (refl, (refl, refl)))) (stop (Version C.Nothing))
claim_run (B.Vacuous u l r s) h = more Start (codes "vacuous") (Version C.Vacuous) [] (Version C.Vacuous) (inr (inr (inl (refl, (refl, refl))))) (stop (Version C.Vacuous))

whens_run : (c : Claim) (v d k m : ℕ) (w rest : List Liveness) → length w + length rest ≤ m → AllByRecursion IsShown rest → Runs (Heads (head c v d k m w)) (map (shown_line (codes "when")) rest) (Heads (head c v d k m (w ++ rest)))
whens_run c v d k m w [] h i = subst (λ x. Runs (Heads (head c v d k m w)) [] (Heads (head c v d k m x))) (sym (append-nil w)) (stop (Heads (head c v d k m w)))
whens_run c v d k m w (l ∷ rest) h i =
    more (Heads (head c v d k m w)) (shown_line (codes "when") l) (Heads (head c v d k m (w ++ l ∷ []))) (map (shown_line (codes "when")) rest) (Heads (head c v d k m (w ++ l ∷ rest)))
    (inl (lt-ltb (length w) m (omega arith), (l, i.0, refl, refl)))
    (subst (λ x. Runs (Heads (head c v d k m (w ++ l ∷ []))) (map (shown_line (codes "when")) rest) (Heads (head c v d k m x))) (append_assoc w (l ∷ []) rest)
    (whens_run c v d k m (w ++ l ∷ []) rest (let x = length-more w l in omega arith) i.1))

cases_run : (c : Claim) (v d k m : ℕ) → HasCases v m → Runs (sized c v d k) (cases_lines v m) (Heads (head c v d k m []))
cases_run c v d k m (inl h) =
    subst (λ x. Runs (sized c x d k) (cases_lines x m) (Heads (head c x d k m []))) (sym h.0)
    (subst (λ x. Runs (sized c 1 d k) (cases_lines 1 x) (Heads (head c 1 d k x []))) (sym h.1) (stop (Heads (head c 1 d k 1 []))))
cases_run c v d k m (inr h) =
    subst (λ x. Runs (sized c x d k) (cases_lines x m) (Heads (head c x d k m []))) (sym h.0)
    (more (Cases c d k) (numbered (codes "cases ") m) (Heads (head c 2 d k m [])) [] (Heads (head c 2 d k m [])) (inl (refl, (m, (h.1, h.2, h.2), refl, refl))) (stop (Heads (head c 2 d k m []))))

version_low : (v m : ℕ) → HasCases v m → (1 ≤ v) × (v ≤ 2) × (v ≤ 64) × (1 ≤ m)
version_low v m (inl h) = (let x = h.0 in let y = h.1 in (omega arith, omega arith, omega arith, omega arith))
version_low v m (inr h) = (let x = h.0 in let y = h.1 in (omega arith, omega arith, omega arith, omega arith))

head_run : (c : Certificate) → IsCertificate c → Runs Start (head_lines c) (Heads (head (claim_of c.body) c.version c.degree c.products (length c.when) c.when))
head_run c h =
    let a = claim_of c.body in
    let v = version_low c.version (length c.when) h.cases in
    let rest = cases_lines c.version (length c.when) ++ map (shown_line (codes "when")) c.when in
    let end = Heads (head a c.version c.degree c.products (length c.when) c.when) in
    runs-append Start (claim_lines (claim_of c.body)) (Version a) (numbered (codes "diffcost ") c.version ∷ sizes_line c.degree c.products ∷ rest) end (claim_run c.body h.body)
    (more (Version a) (numbered (codes "diffcost ") c.version) (Sizes a c.version) (sizes_line c.degree c.products ∷ rest) end (inl (refl, (c.version, (v.0, v.1, v.2), refl, refl)))
    (more (Sizes a c.version) (sizes_line c.degree c.products) (sized a c.version c.degree c.products) rest end (inl (refl, (c.degree, c.products, (h.degree, h.some_products, h.few_products), refl, refl)))
    (runs-append (sized a c.version c.degree c.products) (cases_lines c.version (length c.when)) (Heads (head a c.version c.degree c.products (length c.when) [])) (map (shown_line (codes "when")) c.when) end
    (cases_run a c.version c.degree c.products (length c.when) h.cases) (whens_run a c.version c.degree c.products (length c.when) [] c.when (omega arith) h.when))))

-- ---- the vectors
body_run : (b : Body) (h : Head) (n o : SideCert) → IsBody b → Runs (Main h n o (nothing_found (claim_of b))) (body_lines b) (End (certificate h n o b))
body_run (B.Threshold t u l s) h n o i =
    (Main h n o (F.ThresholdUnknown t u), inl (refl, (u, i.1, refl, refl)), (Main h n o (F.ThresholdLambda t u l), inl (refl, (l, i.2, refl, refl)), (End (certificate h n o (B.Threshold t u l s)), inl (refl, (s, i.3, refl, refl)), refl)))
body_run (B.Nothing s) h n o i = (End (certificate h n o (B.Nothing s)), inl (refl, (s, i, refl, refl)), refl)
body_run (B.Vacuous u l r s) h n o i = (
  Main h n o (F.VacuousUnknown u),
  inl (refl, (u, i.0, refl, refl)),
  (Main h n o (F.VacuousLambda u l), inl (refl, (l, i.1, refl, refl)), (Main h n o (F.VacuousRay u l r), inl (refl, (r, i.2, refl, refl)), (End (certificate h n o (B.Vacuous u l r s)), inl (refl, (s, i.3, refl, refl)), refl))),
)

-- each certificate's lines are a run
pub certificate_run : (c : Certificate) → IsCertificate c → Runs Start (lines_of c) (Done c)
certificate_run c i =
    let h = head (claim_of c.body) c.version c.degree c.products (length c.when) c.when in
    let v = version_low c.version (length c.when) i.cases in
    let four : List Bytes = codes "main" ∷ (body_lines c.body ++ (codes "end" ∷ [])) in
    let three : List Bytes = codes "side old" ∷ (side_lines c.version c.old_side ++ four) in
    let two : List Bytes = codes "side new" ∷ (side_lines c.version c.new_side ++ three) in
    runs-append Start (head_lines c) (Heads h) two (Done c) (head_run c i) (
      Opened (front h None),
      inr (inl (not-ltb (length c.when) (length c.when) (omega arith), (refl, refl))),
      runs-append (Opened (front h None)) (side_lines c.version c.new_side) (Between h c.new_side) three (Done c) (side_run (front h None) c.new_side i.new_side v.3) (
        Opened (front h (Some c.new_side)),
        inl (refl, (refl, refl)),
        runs-append (Opened (front h (Some c.new_side))) (side_lines c.version c.old_side) (Closed h c.new_side c.old_side) four (Done c) (side_run (front h (Some c.new_side)) c.old_side i.old_side v.3) (
          Main h c.new_side c.old_side (nothing_found (claim_of c.body)),
          inl (refl, (refl, refl)),
          runs-append (Main h c.new_side c.old_side (nothing_found (claim_of c.body))) (body_lines c.body) (End c) (codes "end" ∷ []) (Done c) (body_run c.body h c.new_side c.old_side i.body)
              (Done c, inl (refl, (refl, refl)), refl),
        ),
      ),
    )
