-- A line that is taken keeps what holds at a stage, and stands behind the lines before.
use Rattle.std.specs.Prelude.{◌≡◌, ℕ, zero, suc, ◌+◌, ◌≤◌, Bool, true, false, not, ltb, List, [], ◌∷◌, ◌++◌, map, length, codes, Option, Some, None, refl}
use Rattle.std.specs.List.{AllByRecursion}
use Rattle.std.proofs.Common.{sym, ◌∙◌, ap, ap₂, subst, arith, append_assoc, inl, inr}
use Rattle.std.proofs.lemmas.List.{append-nil, map-append}
use Rattle.std.proofs.lemmas.Bool.{ltb-true, ltb-false}
use Rattle.dc_affine.specs.declared.atom.Atom.{Atom}
use Rattle.dc_affine.specs.Atoms.{IsAtom}
use Rattle.dc_cert.specs.declared.sparse.Sparse.{Sparse}
use Rattle.dc_cert.specs.declared.certificate.Liveness.{Liveness}
use Rattle.dc_cert.specs.declared.certificate.EdgeCert.{EdgeCert}
use Rattle.dc_cert.specs.declared.certificate.SideCert.{SideCert}
use Rattle.dc_cert.specs.declared.certificate.Body.{Body}
use Rattle.dc_cert.specs.declared.certificate.Body.TheVariants as B
use Rattle.dc_cert.specs.declared.certificate.Certificate.{Certificate}
use Rattle.dc_cert.specs.Ranges.{IsShown, AreKeeps, AreAtoms, IsEdge, IsSide, HasCases, IsCertificate, IsBody}
use Rattle.dc_cert.specs.Vectors.{IsVector}
use Rattle.dc_cert.specs.declared.certificate.Claim.{Claim}
use Rattle.dc_cert.specs.declared.certificate.Claim.TheVariants as C
use Rattle.dc_certtext.specs.declared.stage.Head.{Head}
use Rattle.dc_certtext.specs.declared.stage.Front.{Front}
use Rattle.dc_certtext.specs.declared.stage.Found.{Found}
use Rattle.dc_certtext.specs.declared.stage.Found.TheVariants as F
use Rattle.dc_certtext.specs.declared.stage.Stage.{Stage}
use Rattle.dc_certtext.specs.declared.stage.Stage.TheVariants.{Start, Whole, Version, Sizes, Cases, Heads, Opened, Locations, Entries, Edges, Between, Closed, Main, End, Done}
use Rattle.dc_lines.specs.Bytes.{Bytes}
use Rattle.dc_lines.proofs.Cutting.{length-more}
use Rattle.dc_certtext.specs.Text.{vector_line, shown_line, numbered, threshold_line, sizes_line, atom_line, entry_line, edge_line, groups, location_lines, entry_lines, edge_lines, side_lines, cases_lines, claim_lines, head_lines, body_lines, lines_of}
use Rattle.dc_certtext.specs.Offers.{Any}
use Rattle.dc_certtext.specs.Stages.{head, with_when, front, edge_of, side_of, sized, closed_by, offers}
use Rattle.dc_certtext.specs.Due.{certificate, nothing_found}
use Rattle.dc_certtext.proofs.SoFar.{sized_lines, headed, between, opened, closed, found_lines, head_of, before_end, so_far, more_in, new_group, length-last, mapped-last}
use Rattle.dc_cert.specs.Claims.{claim_of}
use Rattle.dc_certtext.proofs.Valid.{IsClaim, IsHead, IsFull, IsNew, AreLocations, AreFamilies, AreEntries, AreAllEntries, IsFound, claimed, Valid}

-- the stage t is valid and has one line more than s
pub record Good (s : Stage) (b : Bytes) (t : Stage) : Type 0 where
  pub valid : Valid t
  pub line : so_far t ≡ so_far s ++ b ∷ []

led : (s : Stage) (b : Bytes) (t u : Stage) → t ≡ u → Good s b u → Good s b t
led s b t u e g = subst (Good s b) (sym e) g

each-last : {A : Type 0} (P : A → Type 0) (xs : List A) (x : A) → AllByRecursion P xs → P x → AllByRecursion P (xs ++ x ∷ [])
each-last P [] x h k = (k, tt)
each-last P (y ∷ xs) x h k = (h.0, each-last P xs x h.1 k)

not_below : (m n : ℕ) → not (ltb m n) ≡ true → n ≤ m
not_below m n e = by (ltb m n) refl e
  where
    by : (t : Bool) → ltb m n ≡ t → not t ≡ true → n ≤ m
    by true q h = (let f : false ≡ true = h in cc)
    by false q h = ltb-false m n q

-- ---- the first lines
start_kept : (b : Bytes) (t : Stage) → Any (offers Start) b t → Good Start b t
start_kept b t (inl (g, (x, small, e, q))) = led Start b t (Whole x) q (record { valid = small; line = ap (λ l. l ∷ []) e })
start_kept b t (inr (inl (g, (e, q)))) = led Start b t (Version C.Nothing) q (record { valid = tt; line = ap (λ l. l ∷ []) e })
start_kept b t (inr (inr (inl (g, (e, q))))) = led Start b t (Version C.Vacuous) q (record { valid = tt; line = ap (λ l. l ∷ []) e })
start_kept b t (inr (inr (inr h))) = absurd h

sized_kept : (c : Claim) (v d k : ℕ) (b : Bytes) → IsClaim c → 1 ≤ v → v ≤ 2 → d ≤ 3 → 1 ≤ k → k ≤ 3 → sizes_line d k ≡ b → Good (Sizes c v) b (sized c v d k)
sized_kept c zero d k b h l m x y z e = absurd (omega arith)
sized_kept c (suc zero) d k b h l m x y z e = record {
  valid = record { claim = h; cases = inl (refl, refl); degree = x; some_products = y; few_products = z; when = tt; few = omega arith };
  line = append-nil (sized_lines c 1 d k ++ []) ∙ append-nil (sized_lines c 1 d k) ∙ ap (λ w. (claim_lines c ++ numbered (codes "diffcost ") 1 ∷ []) ++ w ∷ []) e;
}
sized_kept c (suc (suc zero)) d k b h l m x y z e = record { valid = (h, x, y, z); line = ap (λ w. (claim_lines c ++ numbered (codes "diffcost ") 2 ∷ []) ++ w ∷ []) e }
sized_kept c (suc (suc (suc v))) d k b h l m x y z e = absurd (omega arith)

heads_kept : (h : Head) (b : Bytes) (t : Stage) → IsHead h → Any (offers (Heads h)) b t → Good (Heads h) b t
heads_kept h b t v (inl (g, (l, s, e, q))) = led (Heads h) b t (Heads (with_when h l)) q (record {
  valid = record {
    claim = v.claim;
    cases = v.cases;
    degree = v.degree;
    some_products = v.some_products;
    few_products = v.few_products;
    when = each-last IsShown h.when l v.when s;
    few = (let x = ltb-true (length h.when) h.cases g in let y = length-more h.when l in omega arith);
  };
  line =
      ap (λ w. (sized_lines h.claim h.version h.degree h.products ++ cases_lines h.version h.cases) ++ w) (map-append (shown_line (codes "when")) h.when (l ∷ []) ∙ ap (λ w. map (shown_line (codes "when")) h.when ++ w ∷ []) e)
      ∙ sym (append_assoc (sized_lines h.claim h.version h.degree h.products ++ cases_lines h.version h.cases) (map (shown_line (codes "when")) h.when) (b ∷ []));
})
heads_kept h b t v (inr (inl (g, (e, q)))) = led (Heads h) b t (Opened (front h None)) q (record {
  valid = (record { parts = v; full = (let x = not_below (length h.when) h.cases g in let y = v.few in omega arith) }, tt);
  line = ap (λ w. headed h ++ w ∷ []) e;
})
heads_kept h b t v (inr (inr k)) = absurd k

-- ---- a side
atoms_more : (last : List Atom) (a : Atom) → ltb (length last) 1024 ≡ true → AreAtoms last → IsAtom 10 a → AreAtoms (last ++ a ∷ [])
atoms_more last a g h k = record { few = (let x = ltb-true (length last) 1024 g in let y = length-more last a in omega arith); each = each-last (IsAtom 10) last a h.each k }

keeps_more : (last : List Sparse) (s : Sparse) → ltb (length last) 1024 ≡ true → AreKeeps last → IsVector s → AreKeeps (last ++ s ∷ [])
keeps_more last s g h k = record { few = (let x = ltb-true (length last) 1024 g in let y = length-more last s in omega arith); vectors = each-last IsVector last s h.vectors k }

no_atoms : AreAtoms []
no_atoms = record { few = omega arith; each = tt }

no_keeps : AreKeeps []
no_keeps = record { few = omega arith; vectors = tt }

families_all : (done : List (List Atom)) (last : List Atom) → AreLocations done last → AreFamilies (done ++ last ∷ [])
families_all done last h = record {
  some = (let y = length-more done last in omega arith);
  few = (let x = h.few in let y = length-more done last in omega arith);
  all = each-last AreAtoms done last h.before h.last_one;
}

locations_kept : (f : Front) (done : List (List Atom)) (last : List Atom) (b : Bytes) (t : Stage) → Valid (Locations f done last) → Any (offers (Locations f done last)) b t → Good (Locations f done last) b t
locations_kept f done last b t v (inl (g, (a, s, e, q))) = led (Locations f done last) b t (Locations f done (last ++ a ∷ [])) q (record {
  valid = (v.0, v.1, record { few = v.2.few; before = v.2.before; last_one = atoms_more last a g v.2.last_one s });
  line = more_in location_lines (opened f.head f.new) done last (last ++ a ∷ []) b (mapped-last atom_line (numbered (codes "location ") (0 + length done)) last a b e);
})
locations_kept f done last b t v (inr (inl (g, (e, q)))) = led (Locations f done last) b t (Locations f (done ++ last ∷ []) []) q (record {
  valid = (
    v.0,
    v.1,
    record {
      few = (let x = ltb-true (suc (length done)) 128 g in let y = length-more done last in omega arith);
      before = each-last AreAtoms done last v.2.before v.2.last_one;
      last_one = no_atoms;
    },
  );
  line = new_group location_lines (opened f.head f.new) (done ++ last ∷ []) [] b (ap (λ n. numbered (codes "location ") n ∷ []) (length-last done last) ∙ ap (λ w. w ∷ []) e);
})
locations_kept f done last b t v (inr (inr (inl (g, (e, q))))) = led (Locations f done last) b t (Entries f (done ++ last ∷ []) [] []) q (record {
  valid = (v.0, v.1, families_all done last v.2, record { few = some_case v.0.parts.cases; before = tt; last_one = no_keeps });
  line = ap (λ w. (opened f.head f.new ++ groups location_lines 0 (done ++ last ∷ [])) ++ w ∷ []) e;
})
  where
    some_case : HasCases f.head.version f.head.cases → 1 ≤ f.head.cases
    some_case (inl h) = (let x = h.1 in omega arith)
    some_case (inr h) = h.1
locations_kept f done last b t v (inr (inr (inr h))) = absurd h

-- the lines of a side behind those before it
side_after : (p x y z : List Bytes) (b : Bytes) → p ++ (x ++ (y ++ (z ++ b ∷ []))) ≡ (((p ++ x) ++ y) ++ z) ++ b ∷ []
side_after p x y z b =
    sym (append_assoc p x (y ++ (z ++ b ∷ []))) ∙ sym (append_assoc (p ++ x) y (z ++ b ∷ [])) ∙ sym (append_assoc ((p ++ x) ++ y) z (b ∷ []))

exit_kept : (s : Stage) (h : Head) (n : Option SideCert) (c : SideCert) (p : List Bytes) (b : Bytes) → IsFull h → IsNew h.cases n → IsSide h.cases c → so_far s ≡ p → opened h n ++ side_lines h.version c ≡ p ++ b ∷ [] → Good s b (closed_by h n c)
exit_kept s h None c p b f m i e q = record { valid = (f, i); line = q ∙ ap (λ l. l ++ b ∷ []) (sym e) }
exit_kept s h (Some n) c p b f m i e q = record { valid = (f, m, i); line = q ∙ ap (λ l. l ++ b ∷ []) (sym e) }

side_is : (cases : ℕ) (fam : List (List Atom)) (ents : List (List Sparse)) (edges : List EdgeCert) (l : Liveness) → AreFamilies fam → AreAllEntries cases ents → length edges ≤ 512 → AllByRecursion IsEdge edges → IsShown l
    → IsSide cases (side_of fam ents edges l)
side_is cases fam ents edges l f e n k s = record { some = f.some; few = f.few; families = f.all; one_each = e.one_each; entry_keeps = e.all; few_edges = n; edges = k; exit_line = s }

entries_all : (cases : ℕ) (done : List (List Sparse)) (last : List Sparse) → not (ltb (suc (length done)) cases) ≡ true → AreEntries cases done last → AreAllEntries cases (done ++ last ∷ [])
entries_all cases done last g h = record {
  one_each = (let x = not_below (suc (length done)) cases g in let y = h.few in let z = length-more done last in omega arith);
  all = each-last AreKeeps done last h.before h.last_one;
}

entries_kept : (f : Front) (fam : List (List Atom)) (done : List (List Sparse)) (last : List Sparse) (b : Bytes) (t : Stage) → Valid (Entries f fam done last) → Any (offers (Entries f fam done last)) b t → Good (Entries f fam done last) b t
entries_kept f fam done last b t v (inl (g, (s, i, e, q))) = led (Entries f fam done last) b t (Entries f fam done (last ++ s ∷ [])) q (record {
  valid = (v.0, v.1, v.2, record { few = v.3.few; before = v.3.before; last_one = keeps_more last s g v.3.last_one i });
  line = more_in (entry_lines f.head.version) (opened f.head f.new ++ groups location_lines 0 fam) done last (last ++ s ∷ []) b (mapped-last (vector_line (codes "keep")) (entry_line f.head.version (0 + length done)) last s b e);
})
entries_kept f fam done last b t v (inr (inl (g, (e, q)))) = led (Entries f fam done last) b t (Entries f fam (done ++ last ∷ []) []) q (record {
  valid = (
    v.0,
    v.1,
    v.2,
    record {
      few = (let x = ltb-true (suc (length done)) f.head.cases g in let y = length-more done last in omega arith);
      before = each-last AreKeeps done last v.3.before v.3.last_one;
      last_one = no_keeps;
    },
  );
  line = new_group (entry_lines f.head.version) (opened f.head f.new ++ groups location_lines 0 fam) (done ++ last ∷ []) [] b (ap (λ n. entry_line f.head.version n ∷ []) (length-last done last) ∙ ap (λ w. w ∷ []) e);
})
entries_kept f fam done last b t v (inr (inr (inl (g, (l, s, e, q))))) = led (Entries f fam done last) b t (Edges f fam (done ++ last ∷ []) [] l []) q (record {
  valid = (v.0, v.1, v.2, entries_all f.head.cases done last g v.3, record { few = omega arith; before = tt; last_one = record { live = s; keeps = no_keeps } });
  line = ap (λ w. ((opened f.head f.new ++ groups location_lines 0 fam) ++ groups (entry_lines f.head.version) 0 (done ++ last ∷ [])) ++ w ∷ []) e;
})
entries_kept f fam done last b t v (inr (inr (inr (inl (g, (l, s, e, q)))))) =
    led (Entries f fam done last) b t (closed_by f.head f.new (side_of fam (done ++ last ∷ []) [] l)) q
    (exit_kept (Entries f fam done last) f.head f.new (side_of fam (done ++ last ∷ []) [] l) _ b v.0 v.1
    (side_is f.head.cases fam (done ++ last ∷ []) [] l v.2 (entries_all f.head.cases done last g v.3) (omega arith) tt s) refl
    (side_after (opened f.head f.new) (groups location_lines 0 fam) (groups (entry_lines f.head.version) 0 (done ++ last ∷ [])) [] (shown_line (codes "exit") l)
    ∙ ap₂ (λ x w. x ++ w ∷ []) (append-nil ((opened f.head f.new ++ groups location_lines 0 fam) ++ groups (entry_lines f.head.version) 0 (done ++ last ∷ []))) e))
entries_kept f fam done last b t v (inr (inr (inr (inr h)))) = absurd h

edges_kept : (f : Front) (fam : List (List Atom)) (ents : List (List Sparse)) (done : List EdgeCert) (live : Liveness) (last : List Sparse) (b : Bytes) (t : Stage) → Valid (Edges f fam ents done live last)
    → Any (offers (Edges f fam ents done live last)) b t → Good (Edges f fam ents done live last) b t
edges_kept f fam ents done live last b t v (inl (g, (s, i, e, q))) = led (Edges f fam ents done live last) b t (Edges f fam ents done live (last ++ s ∷ [])) q (record {
  valid = (v.0, v.1, v.2, v.3, record { few = v.4.few; before = v.4.before; last_one = record { live = v.4.last_one.live; keeps = keeps_more last s g v.4.last_one.keeps i } });
  line = more_in edge_lines ((opened f.head f.new ++ groups location_lines 0 fam) ++ groups (entry_lines f.head.version) 0 ents) done (edge_of live last) (edge_of live (last ++ s ∷ [])) b
      (mapped-last (vector_line (codes "keep")) (edge_line (0 + length done) live) last s b e);
})
edges_kept f fam ents done live last b t v (inr (inl (g, (l, s, e, q)))) = led (Edges f fam ents done live last) b t (Edges f fam ents (done ++ edge_of live last ∷ []) l []) q (record {
  valid = (
    v.0,
    v.1,
    v.2,
    v.3,
    record {
      few = (let x = ltb-true (suc (length done)) 512 g in let y = length-more done (edge_of live last) in omega arith);
      before = each-last IsEdge done (edge_of live last) v.4.before v.4.last_one;
      last_one = record { live = s; keeps = no_keeps };
    },
  );
  line = new_group edge_lines ((opened f.head f.new ++ groups location_lines 0 fam) ++ groups (entry_lines f.head.version) 0 ents) (done ++ edge_of live last ∷ []) (edge_of l []) b
      (ap (λ n. edge_line n l ∷ []) (length-last done (edge_of live last)) ∙ ap (λ w. w ∷ []) e);
})
edges_kept f fam ents done live last b t v (inr (inr (inl (g, (l, s, e, q))))) =
    led (Edges f fam ents done live last) b t (closed_by f.head f.new (side_of fam ents (done ++ edge_of live last ∷ []) l)) q
    (exit_kept (Edges f fam ents done live last) f.head f.new (side_of fam ents (done ++ edge_of live last ∷ []) l) _ b v.0 v.1
    (side_is f.head.cases fam ents (done ++ edge_of live last ∷ []) l v.2 v.3 (let x = v.4.few in let y = length-more done (edge_of live last) in omega arith) (each-last IsEdge done (edge_of live last) v.4.before v.4.last_one) s) refl
    (side_after (opened f.head f.new) (groups location_lines 0 fam) (groups (entry_lines f.head.version) 0 ents) (groups edge_lines 0 (done ++ edge_of live last ∷ [])) (shown_line (codes "exit") l)
    ∙ ap (λ w. ((((opened f.head f.new ++ groups location_lines 0 fam) ++ groups (entry_lines f.head.version) 0 ents) ++ groups edge_lines 0 (done ++ edge_of live last ∷ []))) ++ w ∷ []) e))
edges_kept f fam ents done live last b t v (inr (inr (inr h))) = absurd h

-- ---- the vectors of the main problem
head_same : (h : Head) (n o : SideCert) (body : Body) → h.claim ≡ claim_of body → length h.when ≡ h.cases → head_of (certificate h n o body) ≡ h
head_same h n o body e f = ap₂ (λ c m. head c h.version h.degree h.products m h.when) (sym e) f

is_certificate : (h : Head) (n o : SideCert) (body : Body) → IsFull h → IsSide h.cases n → IsSide h.cases o → IsBody body → IsCertificate (certificate h n o body)
is_certificate h n o body f i j k = record {
  cases = subst (HasCases h.version) (sym f.full) f.parts.cases;
  body = k;
  degree = f.parts.degree;
  some_products = f.parts.some_products;
  few_products = f.parts.few_products;
  when = f.parts.when;
  new_side = subst (λ m. IsSide m n) (sym f.full) i;
  old_side = subst (λ m. IsSide m o) (sym f.full) j;
}

end_kept : (h : Head) (n o : SideCert) (found : Found) (body : Body) (b : Bytes) → h.claim ≡ claim_of body → IsFull h → IsSide h.cases n → IsSide h.cases o → IsBody body → body_lines body ≡ found_lines found ++ b ∷ []
    → Good (Main h n o found) b (End (certificate h n o body))
end_kept h n o found body b e f i j k q = record {
  valid = is_certificate h n o body f i j k;
  line =
      ap (λ g. (closed g n o ++ codes "main" ∷ []) ++ body_lines body) (head_same h n o body e f.full) ∙ ap (λ l. (closed h n o ++ codes "main" ∷ []) ++ l) q
      ∙ sym (append_assoc (closed h n o ++ codes "main" ∷ []) (found_lines found) (b ∷ []));
}

found_kept : (h : Head) (n o : SideCert) (found more : Found) (b : Bytes) → IsFull h → IsSide h.cases n → IsSide h.cases o → IsFound more → h.claim ≡ claimed more → found_lines more ≡ found_lines found ++ b ∷ []
    → Good (Main h n o found) b (Main h n o more)
found_kept h n o found more b f i j k l q = record {
  valid = (f, i, j, k, l);
  line = ap (λ x. (closed h n o ++ codes "main" ∷ []) ++ x) q ∙ sym (append_assoc (closed h n o ++ codes "main" ∷ []) (found_lines found) (b ∷ []));
}

main_kept : (found : Found) (h : Head) (n o : SideCert) (b : Bytes) (t : Stage) → h.claim ≡ claimed found → IsFull h → IsSide h.cases n → IsSide h.cases o → IsFound found → Any (offers (Main h n o found)) b t → Good (Main h n o found) b t
main_kept (F.Threshold x) h n o b t e f i j k (inl (g, (s, v, p, q))) = led _ b t _ q (found_kept h n o (F.Threshold x) (F.ThresholdUnknown x s) b f i j v e (ap (λ w. w ∷ []) p))
main_kept (F.ThresholdUnknown x u) h n o b t e f i j k (inl (g, (s, v, p, q))) = led _ b t _ q (found_kept h n o (F.ThresholdUnknown x u) (F.ThresholdLambda x u s) b f i j (k, v) e (ap (λ w. vector_line (codes "unknown") u ∷ w ∷ []) p))
main_kept (F.ThresholdLambda x u l) h n o b t e f i j k (inl (g, (s, v, p, q))) = led _ b t _ q (end_kept h n o (F.ThresholdLambda x u l) (B.Threshold x u l s) b e f i j (subst IsClaim e f.parts.claim, k.0, k.1, v) (ap (λ w. vector_line (codes "unknown") u ∷ vector_line (codes "lambda") l ∷ w ∷ []) p))
main_kept F.Nothing h n o b t e f i j k (inl (g, (s, v, p, q))) = led _ b t _ q (end_kept h n o F.Nothing (B.Nothing s) b e f i j v (ap (λ w. w ∷ []) p))
main_kept F.Vacuous h n o b t e f i j k (inl (g, (s, v, p, q))) = led _ b t _ q (found_kept h n o F.Vacuous (F.VacuousUnknown s) b f i j v e (ap (λ w. w ∷ []) p))
main_kept (F.VacuousUnknown u) h n o b t e f i j k (inl (g, (s, v, p, q))) = led _ b t _ q (found_kept h n o (F.VacuousUnknown u) (F.VacuousLambda u s) b f i j (k, v) e (ap (λ w. vector_line (codes "unknown") u ∷ w ∷ []) p))
main_kept (F.VacuousLambda u l) h n o b t e f i j k (inl (g, (s, v, p, q))) = led _ b t _ q (found_kept h n o (F.VacuousLambda u l) (F.VacuousRay u l s) b f i j (k.0, k.1, v) e (ap (λ w. vector_line (codes "unknown") u ∷ vector_line (codes "lambda") l ∷ w ∷ []) p))
main_kept (F.VacuousRay u l r) h n o b t e f i j k (inl (g, (s, v, p, q))) = led _ b t _ q (end_kept h n o (F.VacuousRay u l r) (B.Vacuous u l r s) b e f i j (k.0, k.1, k.2, v) (ap (λ w. vector_line (codes "unknown") u ∷ vector_line (codes "lambda") l ∷ vector_line (codes "ray unknown") r ∷ w ∷ []) p))
main_kept found h n o b t e f i j k (inr z) = absurd z

-- all lines of a certificate are those before the last, and the last
pub lines_end : (c : Certificate) → lines_of c ≡ before_end c ++ codes "end" ∷ []
lines_end c =
    ap (λ l. l ++ rest) whole
    ∙ sym (append_assoc (headed (head_of c)) (codes "side new" ∷ []) (side_lines c.version c.new_side ++ (codes "side old" ∷ (side_lines c.version c.old_side ++ (codes "main" ∷ (body_lines c.body ++ (codes "end" ∷ [])))))))
    ∙ sym (append_assoc (headed (head_of c) ++ codes "side new" ∷ []) (side_lines c.version c.new_side) (codes "side old" ∷ (side_lines c.version c.old_side ++ (codes "main" ∷ (body_lines c.body ++ (codes "end" ∷ []))))))
    ∙ sym (append_assoc (between (head_of c) c.new_side) (codes "side old" ∷ []) (side_lines c.version c.old_side ++ (codes "main" ∷ (body_lines c.body ++ (codes "end" ∷ [])))))
    ∙ sym (append_assoc (between (head_of c) c.new_side ++ codes "side old" ∷ []) (side_lines c.version c.old_side) (codes "main" ∷ (body_lines c.body ++ (codes "end" ∷ []))))
    ∙ sym (append_assoc (closed (head_of c) c.new_side c.old_side) (codes "main" ∷ []) (body_lines c.body ++ (codes "end" ∷ [])))
    ∙ sym (append_assoc (closed (head_of c) c.new_side c.old_side ++ codes "main" ∷ []) (body_lines c.body) (codes "end" ∷ []))
  where
    rest : List Bytes
    rest = codes "side new" ∷ (side_lines c.version c.new_side ++ (codes "side old" ∷ (side_lines c.version c.old_side ++ (codes "main" ∷ (body_lines c.body ++ (codes "end" ∷ []))))))

    whole : head_lines c ≡ headed (head_of c)
    whole =
        sym (append_assoc (claim_lines (claim_of c.body)) (numbered (codes "diffcost ") c.version ∷ []) (sizes_line c.degree c.products ∷ (cases_lines c.version (length c.when) ++ map (shown_line (codes "when")) c.when)))
        ∙ sym (append_assoc (claim_lines (claim_of c.body) ++ numbered (codes "diffcost ") c.version ∷ []) (sizes_line c.degree c.products ∷ []) (cases_lines c.version (length c.when) ++ map (shown_line (codes "when")) c.when))
        ∙ sym (append_assoc (sized_lines (claim_of c.body) c.version c.degree c.products) (cases_lines c.version (length c.when)) (map (shown_line (codes "when")) c.when))

-- ---- every stage
pub kept : (s : Stage) (b : Bytes) (t : Stage) → Valid s → Any (offers s) b t → Good s b t
kept Start b t v a = start_kept b t a
kept (Whole x) b t v (inl (g, (e, q))) = led (Whole x) b t (Version (C.Threshold x)) q (record { valid = v; line = ap (λ l. threshold_line x ∷ l ∷ []) e })
kept (Whole x) b t v (inr h) = absurd h
kept (Version c) b t v (inl (g, (n, r, e, q))) = led (Version c) b t (Sizes c n) q (record { valid = (v, r.0, r.1); line = ap (λ l. claim_lines c ++ l ∷ []) e })
kept (Version c) b t v (inr h) = absurd h
kept (Sizes c n) b t v (inl (g, (d, k, r, e, q))) = led (Sizes c n) b t (sized c n d k) q (sized_kept c n d k b v.0 v.1 v.2 r.0 r.1 r.2 e)
kept (Sizes c n) b t v (inr h) = absurd h
kept (Cases c d k) b t v (inl (g, (m, r, e, q))) = led (Cases c d k) b t (Heads (head c 2 d k m [])) q (record {
  valid = record { claim = v.0; cases = inr (refl, r.0, r.1); degree = v.1; some_products = v.2; few_products = v.3; when = tt; few = omega arith };
  line = append-nil (sized_lines c 2 d k ++ numbered (codes "cases ") m ∷ []) ∙ ap (λ l. sized_lines c 2 d k ++ l ∷ []) e;
})
kept (Cases c d k) b t v (inr h) = absurd h
kept (Heads h) b t v a = heads_kept h b t v a
kept (Opened f) b t v (inl (g, (e, q))) = led (Opened f) b t (Locations f [] []) q (record { valid = (v.0, v.1, record { few = omega arith; before = tt; last_one = no_atoms }); line = ap (λ l. opened f.head f.new ++ l ∷ []) e })
kept (Opened f) b t v (inr h) = absurd h
kept (Locations f done last) b t v a = locations_kept f done last b t v a
kept (Entries f fam done last) b t v a = entries_kept f fam done last b t v a
kept (Edges f fam ents done live last) b t v a = edges_kept f fam ents done live last b t v a
kept (Between h n) b t v (inl (g, (e, q))) = led (Between h n) b t (Opened (front h (Some n))) q (record { valid = v; line = ap (λ l. between h n ++ l ∷ []) e })
kept (Between h n) b t v (inr k) = absurd k
kept (Closed h n o) b t v (inl (g, (e, q))) = closed_kept h.claim refl q
  where
    closed_kept : (c : Claim) → h.claim ≡ c → t ≡ Main h n o (nothing_found c) → Good (Closed h n o) b t
    closed_kept (C.Threshold x) y r = led (Closed h n o) b t (Main h n o (F.Threshold x)) r (record { valid = (v.0, v.1, v.2, tt, y); line = append-nil (closed h n o ++ codes "main" ∷ []) ∙ ap (λ l. closed h n o ++ l ∷ []) e })
    closed_kept C.Nothing y r = led (Closed h n o) b t (Main h n o F.Nothing) r (record { valid = (v.0, v.1, v.2, tt, y); line = append-nil (closed h n o ++ codes "main" ∷ []) ∙ ap (λ l. closed h n o ++ l ∷ []) e })
    closed_kept C.Vacuous y r = led (Closed h n o) b t (Main h n o F.Vacuous) r (record { valid = (v.0, v.1, v.2, tt, y); line = append-nil (closed h n o ++ codes "main" ∷ []) ∙ ap (λ l. closed h n o ++ l ∷ []) e })
kept (Closed h n o) b t v (inr k) = absurd k
kept (Main h n o found) b t v a = main_kept found h n o b t v.4 v.0 v.1 v.2 v.3 a
kept (End c) b t v (inl (g, (e, q))) = led (End c) b t (Done c) q (record { valid = v; line = lines_end c ∙ ap (λ l. before_end c ++ l ∷ []) e })
kept (End c) b t v (inr h) = absurd h
kept (Done c) b t v a = absurd a
