-- One row after another: which bounds a least one lets stay, and what is left of a location.
use Rattle.std.specs.Prelude.{◌≡◌, ◌↔◌, ℕ, suc, ◌<◌, ◌≤◌, Bool, true, false, cond, ltb, List, length, set, slice_index_or, ℤ, ◌+ℤ◌, ◌≤ℤ◌, ◌<ℤ◌, Option, Some, None}
use Rattle.std.proofs.Common.{refl, sym, ◌∙◌, subst, inl, inr, arith}
use Rattle.std.proofs.lemmas.Bool.{cases_lt, cases_eq, ltb-true, ltb-false}
use Rattle.std.proofs.lemmas.Grind.{common_steps}
use Rattle.std.proofs.lemmas.Int.{ints}
use Rattle.dc_math.specs.Members.{Among}
use Rattle.dc_math.specs.Rational.{ℚ, of_ℤ}
use Rattle.dc_math.specs.RationalRing.{≤ℚ_trans}
use Rattle.dc_math.specs.Signs.{of_ℤ-≤}
use Rattle.dc_affine.specs.declared.atom.Atom.{Atom}
use Rattle.dc_rows.specs.declared.kinds.Candidates.{Candidates}
use Rattle.dc_rows.specs.Candidate.{row_at, bound_at}
use Rattle.dc_families.specs.Families.{never, bounded}
use Rattle.dc_families.proofs.Lists.{differ}
use Rattle.dc_greatest.specs.declared.family.LocFamily.{LocFamily}
use Rattle.dc_greatest.specs.Kept.{atoms_in, IsFrom, IsBelow, IsFit}
use Rattle.dc_greatest.specs.Bounds.{AreRising, IsEnough, IsLeast, later, lowered, IsRowLowered, IsLowered, IsTaken, HasNoMore}
use Rattle.dc_greatest.proofs.Shapes.{IsKept, kept_never, kept_bound, kept_atom, atom_kept}

-- ---- the first bound that is enough
more : (x y k : ℤ) → x <ℤ y → (x +ℤ k) ≤ℤ (y +ℤ k)
more x y k h = omega (arith, ints)

pub enough_more : (c : Candidates) (v : ℚ) (k : ℤ) (i m : ℕ) → AreRising c → i ≤ m → m < length c.bounds → IsEnough c v k i → IsEnough c v k m
enough_more c v k i m rising h l e = elim (cases_lt i m) [
  | inl s ↦ ≤ℚ_trans v (of_ℤ (bound_at c i +ℤ k)) (of_ℤ (bound_at c m +ℤ k)) e (of_ℤ-≤ _ _ (more (bound_at c i) (bound_at c m) k (rising i m s l)))
  | inr s ↦ let q : i ≡ m = omega arith in subst (λ j. IsEnough c v k j) q e
]

pub first_found : (c : Candidates) (v : ℚ) (k : ℤ) (i : ℕ) → AreRising c → i < length c.bounds → IsEnough c v k i → ((m : ℕ) → m < i → ¬ IsEnough c v k m) → IsLeast c (IsEnough c v k) (Some i)
first_found c v k i rising h e none = record {
  below = h;
  tells = λ m l. (
    (λ f. enough_more c v k i m rising f l e),
    (λ g. elim (cases_lt m i) [ inl s ↦ absurd (none m s g) | inr s ↦ s ]),
  );
}

pub none_found : (c : Candidates) (v : ℚ) (k : ℤ) → ((m : ℕ) → m < length c.bounds → ¬ IsEnough c v k m) → IsLeast c (IsEnough c v k) None
none_found c v k none = record { below = tt; tells = λ m l. ((λ f. absurd f), (λ g. none m l g)) }

pub nothing_least : (c : Candidates) (P : ℕ → Type 0) → ((m : ℕ) → m < length c.bounds → ¬ P m) → IsLeast c P None
nothing_least c P none = record { below = tt; tells = λ m l. ((λ f. absurd f), (λ g. none m l g)) }

pub least_same : (c : Candidates) (P Q : ℕ → Type 0) (o : Option ℕ) → IsLeast c P o → ((m : ℕ) → m < length c.bounds → P m ↔ Q m) → IsLeast c Q o
least_same c P Q o h e = record { below = h.below; tells = λ m l. ((λ f. (e m l).0 ((h.tells m l).0 f)), (λ q. (h.tells m l).1 ((e m l).1 q))) }

-- ---- the later of two
later_both : (a b : Option ℕ) (m : ℕ) → IsFrom (later a b) m ↔ (IsFrom a m × IsFrom b m)
later_both None b m = ((λ f. absurd f), (λ t. absurd t.0))
later_both (Some i) None m = ((λ f. absurd f), (λ t. absurd t.1))
later_both (Some i) (Some k) m = by (ltb i k) refl
  where
    by : (b : Bool) → ltb i k ≡ b → cond b k i ≤ m ↔ (i ≤ m × k ≤ m)
    by true e = let h = ltb-true i k e in ((λ f. (omega arith, f)), (λ t. t.1))
    by false e = let h = ltb-false i k e in ((λ f. (f, omega arith)), (λ t. t.0))

later_below : (n : ℕ) (a b : Option ℕ) → IsBelow n a → IsBelow n b → IsBelow n (later a b)
later_below n None b f g = tt
later_below n (Some i) None f g = tt
later_below n (Some i) (Some k) f g = by (ltb i k)
  where
    by : (b : Bool) → cond b k i < n
    by true = g
    by false = f

-- ---- one row
at_set : (xs : List (Option ℕ)) (r : ℕ) (o : Option ℕ) → r < length xs → slice_index_or (set xs r o) r None ≡ o
at_set xs r o h = grind (arith, common_steps)

at_set_other : (xs : List (Option ℕ)) (r i : ℕ) (o : Option ℕ) → (i ≡ r → ⊥) → slice_index_or (set xs r o) i None ≡ slice_index_or xs i None
at_set_other xs r i o h = grind (arith, common_steps)

long_set : (xs : List (Option ℕ)) (r : ℕ) (o : Option ℕ) → length (set xs r o) ≡ length xs
long_set xs r o = grind (arith, common_steps)

module _ (Gives : Atom → Type 0) (c : Candidates) where
  abbrev gives_at : ℕ → ℕ → Type 0
  gives_at r m = Gives (bounded (row_at c r) (bound_at c m))

  pub row_lowered : (r : ℕ) (o : Option ℕ) (old : LocFamily) → IsFit c old → r < length c.rows → IsLeast c (gives_at r) o → IsRowLowered Gives c r old (lowered r o old)
  row_lowered r o old fit h l =
      let inside : r < length old.least = let e = fit.rows in omega arith in
      let here : slice_index_or (lowered r o old).least r None ≡ later (slice_index_or old.least r None) o = at_set old.least r _ inside in
      record {
        fit = record {
          rows = long_set old.least r _ ∙ fit.rows;
          bounds = λ i k. elim (cases_eq i r) [
            | inl e ↦ subst (λ j. IsBelow (length c.bounds) (slice_index_or (lowered r o old).least j None)) (sym e)
                (subst (IsBelow (length c.bounds)) (sym here) (later_below (length c.bounds) (slice_index_or old.least r None) o (fit.bounds r h) l.below))
            | inr n ↦ subst (IsBelow (length c.bounds)) (sym (at_set_other old.least r i _ n)) (fit.bounds i k)
          ];
        };
        dead = refl;
        row = λ m k.
            let t = later_both (slice_index_or old.least r None) o m in
            let q = l.tells m k in (
              (λ f. let x = t.0 (subst (λ p. IsFrom p m) here f) in (x.0, q.0 x.1)),
              (λ x. subst (λ p. IsFrom p m) (sym here) (t.1 (x.0, q.1 x.1))),
            );
        others = λ i n. at_set_other old.least r i _ n;
      }

  pub row_skipped : (r : ℕ) (old : LocFamily) → IsFit c old → slice_index_or old.least r None ≡ None → IsRowLowered Gives c r old old
  row_skipped r old fit e = record {
    fit = fit;
    dead = refl;
    row = λ m k. ((λ f. absurd (subst (λ o. IsFrom o m) e f)), (λ x. x.0));
    others = λ i n. refl;
  }

  -- ---- all rows
  pub lowered_none : (old : LocFamily) → IsFit c old → IsLowered Gives 0 c old old
  lowered_none old fit = record { fit = fit; dead = refl; rows = λ r m h. absurd (omega arith); others = λ r h. refl }

  pub lowered_more : (n : ℕ) (start old new : LocFamily) → IsLowered Gives n c start old → IsRowLowered Gives c n old new → IsLowered Gives (suc n) c start new
  lowered_more n start old new h k = record {
    fit = k.fit;
    dead = k.dead ∙ h.dead;
    rows = λ r m i j. elim (cases_lt r n) [
      | inl l ↦
          let e = k.others r (λ q. absurd (omega arith)) in
          let x = h.rows r m l j in
          ((λ f. x.0 (subst (λ o. IsFrom o m) e f)), (λ t. subst (λ o. IsFrom o m) (sym e) (x.1 t)))
      | inr l ↦
          let e : n ≡ r = omega arith in
          let s = h.others n (omega arith) in
          let x = k.row m j in
          subst (λ i. IsFrom (slice_index_or new.least i None) m ↔ (IsFrom (slice_index_or start.least i None) m × gives_at i m)) e (
            (λ f. let y = x.0 f in (subst (λ o. IsFrom o m) s y.0, y.1)),
            (λ t. x.1 (subst (λ o. IsFrom o m) (sym s) t.0, t.1)),
          )
    ];
    others = λ r i. k.others r (λ q. absurd (omega arith)) ∙ h.others r (omega arith);
  }

  -- a row that was not there is not there
  pub lowered_no_more : (n : ℕ) (f start new : LocFamily) → n ≤ length c.rows → IsLowered Gives n c start new → HasNoMore f start → HasNoMore f new
  lowered_no_more n f start new l h none r e = elim (cases_lt r n) [
    | inl i ↦ by (slice_index_or new.least r None) refl (h.fit.bounds r (omega arith)) (λ m j. (h.rows r m i j).0)
    | inr i ↦ h.others r i ∙ none r e
  ]
    where
      by : (o : Option ℕ) → slice_index_or new.least r None ≡ o → IsBelow (length c.bounds) (slice_index_or new.least r None)
          → ((m : ℕ) → m < length c.bounds → IsFrom (slice_index_or new.least r None) m → IsFrom (slice_index_or start.least r None) m × gives_at r m) → slice_index_or new.least r None ≡ None
      by None q b g = q
      by (Some m) q b g =
          let j : m < length c.bounds = subst (IsBelow (length c.bounds)) q b in
          absurd (subst (λ o. IsFrom o m) (none r e) (g m j (subst (λ o. IsFrom o m) (sym q) (omega arith))).0)

  -- ---- without false
  abbrev pub revived : LocFamily → LocFamily
  revived f = record { dead = false; least = f.least }

  pub taken_lowered : (n : ℕ) (old new : LocFamily) → ¬ Gives (never n) → IsLowered Gives (length c.rows) c (revived old) new → IsTaken Gives n c old new
  taken_lowered n old new never' low = record {
    fit = low.fit;
    is = λ a. ((λ m. forth a (kept_atom n c new a m)), (λ m. back a (kept_atom n c old a m.0) m.1));
  }
    where
      forth : (a : Atom) → IsKept n c new a → Among a (atoms_in n c old) × Gives a
      forth a (kept_never t q) = differ (sym t ∙ low.dead)
      forth a (kept_bound r m i j f q) = let x = (low.rows r m i j).0 f in (atom_kept n c old a (kept_bound r m i j x.0 q), subst Gives (sym q) x.1)

      back : (a : Atom) → IsKept n c old a → Gives a → Among a (atoms_in n c new)
      back a (kept_never t q) g = absurd (never' (subst Gives q g))
      back a (kept_bound r m i j f q) g = atom_kept n c new a (kept_bound r m i j ((low.rows r m i j).1 (f, subst Gives q g)) q)

  -- what gives everything takes nothing
  pub taken_all : (n : ℕ) (old : LocFamily) → IsFit c old → ((a : Atom) → Gives a) → IsTaken Gives n c old old
  taken_all n old fit g = record { fit = fit; is = λ a. ((λ m. (m, g a)), (λ m. m.0)) }
