-- Lists from which one is taken out and put back.
use Rattle.std.specs.Prelude.{◌≡◌, ℕ, zero, suc, ◌+◌, ◌<◌, Bool, true, false, cond, List, [], ◌∷◌, ◌++◌, map, filter, take, remove, insert, length, slice_index_or, pos, Result, Ok, Err, OnOk}
use Rattle.std.specs.List.{AllByRecursion, range_with_len}
use Rattle.std.proofs.Common.{refl, sym, ◌∙◌, ap, ap₂, subst, inl, inr, arith, add-one}
use Rattle.std.proofs.lemmas.List.{take_more, get_or_read, map-id}
use Rattle.std.proofs.lemmas.List.FromFn.{filter_of_map_range_with_len_more}
use Rattle.dc_math.specs.Members.{Among, head, tail, each_is}
use Rattle.dc_affine.specs.declared.atom.Atom.{Atom}
use Rattle.dc_entail.specs.declared.answer.Site.{Site}
use Rattle.dc_entail.specs.Asked.{ask, IsDone}
use Rattle.dc_points.specs.Points.{MeetsAt, IsDead, Entails}
use Rattle.dc_points.specs.Stated.{atom_number, sup_problem}
use Rattle.dc_families.proofs.Lists.{differ}
use Rattle.dc_greatest.specs.declared.family.InvFault.{InvFault}
use Rattle.dc_greatest.specs.Answers.{IsFault}
use Rattle.dc_invariant.specs.Lent.{Only, TellsEntailed, one_asked, IsOneStep}

-- ---- general lists
pub split_at : {A : Type 0} (xs : List A) (k : ℕ) (x d : A) → k < length xs → x ≡ slice_index_or xs k x → take (suc k) xs ≡ take k xs ++ x ∷ []
split_at xs k x d l e = ap (λ j. take j xs) (sym (add-one k)) ∙ take_more xs k d l ∙ ap (λ y. take k xs ++ y ∷ []) (sym (get_or_read xs k x l e d))

pub remove_at : {B A : Type 0} (f : B → A) (xs : List B) (r : B) (ys : List B) (k : ℕ) → length xs ≡ k → remove (map f (xs ++ r ∷ ys)) k ≡ map f (xs ++ ys)
remove_at f [] r ys zero e = refl
remove_at f [] r ys (suc k) e = absurd (omega arith)
remove_at f (x ∷ xs) r ys zero e = absurd (omega arith)
remove_at f (x ∷ xs) r ys (suc k) e = ap (λ zs. f x ∷ zs) (remove_at f xs r ys k (omega arith))

pub number_at : {B : Type 0} (f : B → Atom) (xs : List B) (r : B) (ys : List B) (k : ℕ) → length xs ≡ k → atom_number (map f (xs ++ r ∷ ys)) k ≡ f r
number_at f [] r ys zero e = refl
number_at f [] r ys (suc k) e = absurd (omega arith)
number_at f (x ∷ xs) r ys zero e = absurd (omega arith)
number_at f (x ∷ xs) r ys (suc k) e = number_at f xs r ys k (omega arith)

pub put_back : {A : Type 0} (xs : List A) (k : ℕ) (x : A) → k < length xs → x ≡ slice_index_or xs k x → insert (remove xs k) k x ≡ xs
put_back [] k x l e = absurd (omega arith)
put_back (y ∷ ys) zero x l e = ap (λ z. z ∷ ys) e
put_back (y ∷ ys) (suc k) x l e = ap (λ zs. y ∷ zs) (put_back ys k x (omega arith) e)

pub filter_same : {A : Type 0} (p q : A → Bool) (xs : List A) → ((x : A) → Among x xs → p x ≡ q x) → filter p xs ≡ filter q xs
filter_same p q [] h = refl
filter_same p q (x ∷ xs) h = ap₂ (λ b ys. cond b (x ∷ ys) ys) (h x head) (filter_same p q xs (λ y m. h y (tail m)))

pub all_filter : {A : Type 0} (P : A → Type 0) (p : A → Bool) (xs : List A) → ((x : A) → Among x xs → p x ≡ true → P x) → AllByRecursion P (filter p xs)
all_filter P p [] h = tt
all_filter P p (x ∷ xs) h = by (p x) refl (all_filter P p xs (λ y m. h y (tail m)))
  where
    by : (b : Bool) → p x ≡ b → AllByRecursion P (filter p xs) → AllByRecursion P (cond b (x ∷ filter p xs) (filter p xs))
    by true e r = (h x head e, r)
    by false e r = r

pub map_same_on : {A B : Type 0} (P : A → Type 0) (f g : A → B) (xs : List A) → AllByRecursion P xs → ((x : A) → P x → f x ≡ g x) → map f xs ≡ map g xs
map_same_on P f g [] a h = refl
map_same_on P f g (x ∷ xs) a h = ap₂ ◌∷◌ (h x a.0) (map_same_on P f g xs a.1 h)

pub all_mapped : {A : Type 0} (P : A → Type 0) (Q : Atom → Type 0) (f : A → Atom) (xs : List A) → AllByRecursion P xs → ((x : A) → P x → Q (f x)) → AllByRecursion Q (map f xs)
all_mapped P Q f [] a h = tt
all_mapped P Q f (x ∷ xs) a h = (h x a.0, all_mapped P Q f xs a.1 h)

-- one number more of those with a least bound
pub rows_push : (p : ℕ → Bool) (n : ℕ) → filter p (range_with_len 0 (n + 1)) ≡ filter p (range_with_len 0 n) ++ cond (p n) (n ∷ []) []
rows_push p n =
    let e : 0 + n ≡ n = omega arith in
    sym (ap (filter p) (map-id (range_with_len 0 (n + 1)))) ∙ filter_of_map_range_with_len_more p (λ x. x) 0 n n e
    ∙ ap (λ xs. filter p xs ++ cond (p n) (n ∷ []) []) (map-id (range_with_len 0 n))

-- ---- atoms
pub all_without : (P : Atom → Type 0) (atoms : List Atom) (k : ℕ) → AllByRecursion P atoms → AllByRecursion P (remove atoms k)
all_without P [] zero h = tt
all_without P [] (suc k) h = tt
all_without P (a ∷ atoms) zero h = h.1
all_without P (a ∷ atoms) (suc k) h = (h.0, all_without P atoms k h.1)

pub live_without : (atoms : List Atom) (k : ℕ) → ¬ IsDead atoms → ¬ IsDead (remove atoms k)
live_without atoms k live d = live (λ p m. d p (all_without (MeetsAt p) atoms k m))

-- ---- one step
module _ (site : Site) (k budget : ℕ) (old : List Atom) (a : Atom) (inside : k < length old) (read : a ≡ slice_index_or old k a) where
  number : atom_number old k ≡ a
  number = sym (get_or_read old k a inside read (record { c0 = pos 0; coefs = [] }))

  asked_same : (rest : List Atom) → rest ≡ remove old k → ask site (sup_problem rest a.coefs) ≡ one_asked site k old
  asked_same rest e = ap₂ (λ hs (b : Atom). ask site (sup_problem hs b.coefs)) e (sym number)

  pub step_out : (rest : List Atom) → rest ≡ remove old k → TellsEntailed site rest a budget true → IsOneStep site k budget old rest
  step_out rest e t = record {
    done = subst (IsDone budget) (asked_same rest e) t.done;
    step = inl (subst (λ hs. Entails hs (atom_number old k)) e (subst (Entails rest) (sym number) (t.says.0 refl)), e);
  }

  pub step_in : (rest new : List Atom) → rest ≡ remove old k → new ≡ insert rest k a → TellsEntailed site rest a budget false → IsOneStep site k budget old new
  step_in rest new e i t = record {
    done = subst (IsDone budget) (asked_same rest e) t.done;
    step = inr (
      (λ h. differ (sym (t.says.1 (subst (Entails rest) number (subst (λ hs. Entails hs (atom_number old k)) (sym e) h))))),
      i ∙ ap (λ hs. insert hs k a) e ∙ put_back old k a inside read,
    );
  }

  pub back_step : (rest : List Atom) → rest ≡ remove old k → (new : List Atom) (r : Result (Unit {0}) InvFault) → OnOk r (new ≡ insert rest k a) → TellsEntailed site rest a budget false → OnOk r (IsOneStep site k budget old new)
  back_step rest e new (Ok x) i t = step_in rest new e i t
  back_step rest e new (Err f) i t = tt

  pub step_fault : (rest : List Atom) → rest ≡ remove old k → (f : InvFault) → IsFault budget (Only (ask site (sup_problem rest a.coefs) ∷ [])) f → IsFault budget (Only (one_asked site k old ∷ [])) f
  step_fault rest e f h = subst (λ q. IsFault budget (Only (q ∷ [])) f) (asked_same rest e) h
