-- Equal lists of numbers, and of places.
use Rattle.std.specs.Prelude.{◌≡◌, ◌↔◌, ℕ, zero, suc, ◌+◌, ◌<◌, ◌≤◌, Bool, true, false, ◌||◌, IsTrue, eqb, List, [], ◌∷◌, length, slice_index_or, Option, Some, None}
use Rattle.std.specs.Option.{option_eq}
use lib.Pointwise.{pointwise}
use Rattle.std.proofs.Common.{refl, sym, ◌∙◌, ap, ap₂, subst, inl, inr, arith}
use Rattle.std.proofs.lemmas.Bool.{false≢true, and_parts, and_from, cases_lt, eq-eqb}
use Rattle.std.proofs.lemmas.Bool.Decides.{nat_tests}
use Rattle.dc_system.specs.declared.edges.Edge.{Edge}
use Rattle.dc_worklist.specs.Listed.{is_listed, with_number}
use Rattle.dc_worklist.proofs.Numbers.{numbers_are_added}
use Rattle.dc_families.proofs.Lists.{differ, same_lists}
use Rattle.dc_greatest.specs.declared.family.LocFamily.{LocFamily}
use Rattle.dc_greatest.proofs.Shapes.{nowhere}

same_option : (o p : Option ℕ) → IsTrue (option_eq eqb o p) ↔ (o ≡ p)
same_option None None = ((λ t. refl), (λ e. refl))
same_option None (Some k) = ((λ t. absurd (false≢true t)), (λ e. absurd (cc)))
same_option (Some i) None = ((λ t. absurd (false≢true t)), (λ e. absurd (cc)))
same_option (Some i) (Some k) = ((λ t. ap Some (eq i k t)), (λ e. eq' i k (cc)))
  where
    eq : (i k : ℕ) → IsTrue (eqb i k) → i ≡ k
    eq i k t = grind (arith, nat_tests)

    eq' : (i k : ℕ) → i ≡ k → IsTrue (eqb i k)
    eq' i k t = grind (arith, nat_tests)

pub same_options : (xs ys : List (Option ℕ)) → IsTrue (pointwise (option_eq eqb) xs ys) ↔ (xs ≡ ys)
same_options [] [] = ((λ t. refl), (λ e. refl))
same_options [] (y ∷ ys) = ((λ t. absurd (false≢true t)), (λ e. absurd (cc)))
same_options (x ∷ xs) [] = ((λ t. absurd (false≢true t)), (λ e. absurd (cc)))
same_options (x ∷ xs) (y ∷ ys) =
    let h = same_option x y in
    let t = same_options xs ys in (
      (λ s. let q = and_parts (option_eq eqb x y) (pointwise (option_eq eqb) xs ys) s in ap₂ ◌∷◌ (h.0 q.0) (t.0 q.1)),
      (λ e. and_from (option_eq eqb x y) (pointwise (option_eq eqb) xs ys) (h.1 (cc)) (t.1 (cc))),
    )

-- ---- lists of locations
pub same_all : (a b : List LocFamily) (n : ℕ) → length a ≤ n → length a ≡ length b → ((i : ℕ) (d : LocFamily) → i < n → slice_index_or a i d ≡ slice_index_or b i d) → a ≡ b
same_all a b n l e h = same_lists nowhere a b e (λ i k. h i nowhere (omega arith))

-- an element, whatever stands for none
pub any_default : {A : Type 0} (xs : List A) (i : ℕ) (x d : A) → i < length xs → x ≡ slice_index_or xs i x → slice_index_or xs i d ≡ x
any_default [] i x d h e = absurd (omega arith)
any_default (y ∷ xs) zero x d h e = sym e
any_default (y ∷ xs) (suc i) x d h e = any_default xs i x d (omega arith) e

-- ---- numbers on a list
pub now_listed : (k : ℕ) (ks : List ℕ) → is_listed k (with_number k ks) ≡ true
now_listed k ks = numbers_are_added k k ks ∙ ap (λ b. b || is_listed k ks) (eq-eqb k k refl)

pub still_listed : (k i : ℕ) (ks : List ℕ) → is_listed i ks ≡ true → is_listed i (with_number k ks) ≡ true
still_listed k i ks h = numbers_are_added k i ks ∙ ap (λ b. eqb i k || b) h ∙ or_true (eqb i k)
  where
    or_true : (b : Bool) → (b || true) ≡ true
    or_true true = refl
    or_true false = refl

pub not_listed : (k i : ℕ) (ks : List ℕ) → is_listed i (with_number k ks) ≡ false → (i ≡ k → ⊥) × (is_listed i ks ≡ false)
not_listed k i ks h = ((λ e. differ (sym (subst (λ j. is_listed j (with_number k ks) ≡ true) (sym e) (now_listed k ks)) ∙ h)), by (is_listed i ks) refl)
  where
    by : (b : Bool) → is_listed i ks ≡ b → is_listed i ks ≡ false
    by true q = differ (sym (still_listed k i ks q) ∙ h)
    by false q = q

-- ---- the edges whose source has changed, of the first k
abbrev pub FirstChanged : List Edge → List LocFamily → List LocFamily → ℕ → List ℕ → Type 0
FirstChanged es old new k numbers = (i : ℕ) (e : Edge) (d : LocFamily) → i < k → slice_index_or es i e ≡ e → is_listed i numbers ≡ false → slice_index_or new e.from d ≡ slice_index_or old e.from d

pub changed_listed : (es : List Edge) (old new : List LocFamily) (k : ℕ) (numbers : List ℕ) → FirstChanged es old new k numbers → FirstChanged es old new (k + 1) (with_number k numbers)
changed_listed es old new k numbers h i e d l q n =
    let x = not_listed k i numbers n in
    elim (cases_lt i k) [ inl m ↦ h i e d m q x.1 | inr m ↦ absurd (x.0 (omega arith)) ]

pub changed_same : (es : List Edge) (old new : List LocFamily) (k : ℕ) (numbers : List ℕ) (g : Edge) (f h : LocFamily) → k < length es → g ≡ slice_index_or es k g → g.from < length old → g.from < length new
    → f ≡ slice_index_or old g.from f → h ≡ slice_index_or new g.from h → f ≡ h → FirstChanged es old new k numbers → FirstChanged es old new (k + 1) numbers
changed_same es old new k numbers g f h inside is a b x y same before i e d l q n = elim (cases_lt i k) [
  | inl m ↦ before i e d m q n
  | inr m ↦
      let s : i ≡ k = omega arith in
      let t : e ≡ g = sym (subst (λ j. slice_index_or es j e ≡ e) s q) ∙ any_default es k g e inside is in
      subst (λ (z : Edge). slice_index_or new z.from d ≡ slice_index_or old z.from d) (sym t) (any_default new g.from h d b y ∙ sym same ∙ sym (any_default old g.from f d a x))
]
