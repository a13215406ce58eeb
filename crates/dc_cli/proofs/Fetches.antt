-- Files that are fetched one after the other.
use Rattle.std.proofs.Common.{◌≡◌, ◌≤◌, sym, subst, refl, inl, inr, arith, ℕ, List, [], ◌∷◌, ◌++◌, Option}
use Rattle.std.specs.Prelude.{◌⊎◌, Ok}
use Rattle.std.specs.declared.vec.Vec.{Vec}
use Rattle.std.specs.declared.alloc.Global.{Global}
use Rattle.std.specs.String.{string_bytes}
use Rattle.dc_host.specs.Outside.{Files, Rose, IsTextOf, IsAbsent}
use Rattle.dc_lines.specs.Bytes.{Bytes}
use Rattle.dc_answers.specs.declared.refusal.Refusal.{Refusal}
use Rattle.dc_answers.specs.declared.refusal.Refusal.TheVariants.{Unread, NoMemory}
use Rattle.dc_answers.specs.Outside.{File, file, Calls, Denies, HandsOut, Stops, visit_of, AreTexts, IsFirstUnread}
use Rattle.dc_cli.specs.Fetched.{IsFetched, IsUnfetched, IsUnreadOf}

-- ---- one file
pub one_fetched : {S : Type 0} (files : S → Option Files) (count : S → ℕ) (call : Calls S) (before after : S) (name : Bytes) (limit : ℕ) (v : Vec ℕ Global)
    → call before name limit (Ok v) after → IsTextOf (files before) name limit v.items → IsFetched (visit_of files count call before after) (file name limit ∷ []) (v.items ∷ [])
one_fetched files count call before after name limit v h t = record { given = (after, (v, refl, h), refl); theirs = (t, tt) }

pub one_unfetched : {S : Type 0} (files : S → Option Files) (count : S → ℕ) (call : Calls S) (before after : S) (name : Bytes) (limit : ℕ) (r : Refusal)
    → Denies call before after (file name limit) → Rose (count before) (count after) ⊎ IsAbsent (files before) name → IsUnreadOf name r
    → IsUnfetched (visit_of files count call before after) (file name limit ∷ []) r
one_unfetched files count call before after name limit NoMemory d c h = tt
one_unfetched files count call before after name limit (Unread at) d c h = record { stopped = inl (h, d); first = inl (h, c) }
one_unfetched files count call before after name limit _ d c h = absurd h

-- ---- more files behind those
hands_join : {S : Type 0} (call : Calls S) (a b c : S) (fs gs : List File) (xs ys : List Bytes) → HandsOut call a b fs xs → HandsOut call b c gs ys → HandsOut call a c (fs ++ gs) (xs ++ ys)
hands_join call a b c [] gs [] ys h k = subst (λ z. HandsOut call z c gs ys) (sym h) k
hands_join call a b c [] gs (x ∷ xs) ys h k = absurd h
hands_join call a b c (f ∷ fs) gs [] ys h k = absurd h
hands_join call a b c (f ∷ fs) gs (x ∷ xs) ys h k = (h.0, h.1, hands_join call h.0 b c fs gs xs ys h.2 k)

texts_join : (told : Option Files) (fs gs : List File) (xs ys : List Bytes) → AreTexts told fs xs → AreTexts told gs ys → AreTexts told (fs ++ gs) (xs ++ ys)
texts_join told [] gs [] ys h k = k
texts_join told [] gs (x ∷ xs) ys h k = absurd h
texts_join told (f ∷ fs) gs [] ys h k = absurd h
texts_join told (f ∷ fs) gs (x ∷ xs) ys h k = (h.0, texts_join told fs gs xs ys h.1 k)

stops_behind : {S : Type 0} (call : Calls S) (a b c : S) (fs gs : List File) (xs : List Bytes) (name : Bytes) → HandsOut call a b fs xs → Stops call b c gs name → Stops call a c (fs ++ gs) name
stops_behind call a b c [] gs [] name h k = subst (λ z. Stops call z c gs name) (sym h) k
stops_behind call a b c [] gs (x ∷ xs) name h k = absurd h
stops_behind call a b c (f ∷ fs) gs [] name h k = absurd h
stops_behind call a b c (f ∷ fs) gs (x ∷ xs) name h k = inr (h.0, x, h.1, stops_behind call h.0 b c fs gs xs name h.2 k)

first_behind : (told : Option Files) (C : Type 0) (fs gs : List File) (xs : List Bytes) (name : Bytes) → AreTexts told fs xs → IsFirstUnread told C gs name → IsFirstUnread told C (fs ++ gs) name
first_behind told C [] gs [] name h k = k
first_behind told C [] gs (x ∷ xs) name h k = absurd h
first_behind told C (f ∷ fs) gs [] name h k = absurd h
first_behind told C (f ∷ fs) gs (x ∷ xs) name h k = inr (x, h.0, first_behind told C fs gs xs name h.1 k)

stops_before : {S : Type 0} (call : Calls S) (a b : S) (fs gs : List File) (name : Bytes) → Stops call a b fs name → Stops call a b (fs ++ gs) name
stops_before call a b [] gs name h = absurd h
stops_before call a b (f ∷ fs) gs name (inl h) = inl h
stops_before call a b (f ∷ fs) gs name (inr h) = inr (h.0, h.1, h.2, stops_before call h.0 b fs gs name h.3)

first_before : (told : Option Files) (C : Type 0) (fs gs : List File) (name : Bytes) → IsFirstUnread told C fs name → IsFirstUnread told C (fs ++ gs) name
first_before told C [] gs name h = absurd h
first_before told C (f ∷ fs) gs name (inl h) = inl h
first_before told C (f ∷ fs) gs name (inr h) = inr (h.0, h.1, first_before told C fs gs name h.2)

first_weaker : (told : Option Files) (C D : Type 0) (fs : List File) (name : Bytes) → (C → D) → IsFirstUnread told C fs name → IsFirstUnread told D fs name
first_weaker told C D [] name g h = absurd h
first_weaker told C D (f ∷ fs) name g (inl (e, inl c)) = inl (e, inl (g c))
first_weaker told C D (f ∷ fs) name g (inl (e, inr a)) = inl (e, inr a)
first_weaker told C D (f ∷ fs) name g (inr h) = inr (h.0, h.1, first_weaker told C D fs name g h.2)

rises : (a b c : ℕ) → a ≤ b → Rose b c → Rose a c
rises a b c l r = omega arith

module _ {S : Type 0} (files : S → Option Files) (count : S → ℕ) (call : Calls S) (before middle after : S) (fs gs : List File) where
  pub both_fetched : (xs ys : List Bytes) → files middle ≡ files before → IsFetched (visit_of files count call before middle) fs xs
      → IsFetched (visit_of files count call middle after) gs ys → IsFetched (visit_of files count call before after) (fs ++ gs) (xs ++ ys)
  both_fetched xs ys e h k = record {
    given = hands_join call before middle after fs gs xs ys h.given k.given;
    theirs = texts_join (files before) fs gs xs ys h.theirs (subst (λ t. AreTexts t gs ys) e k.theirs);
  }

  pub second_unfetched : (xs : List Bytes) (r : Refusal) → files middle ≡ files before → count before ≤ count middle → IsFetched (visit_of files count call before middle) fs xs
      → IsUnfetched (visit_of files count call middle after) gs r → IsUnfetched (visit_of files count call before after) (fs ++ gs) r
  second_unfetched xs NoMemory e l h k = tt
  second_unfetched xs (Unread name) e l h k = record {
    stopped = stops_behind call before middle after fs gs xs (string_bytes name) h.given k.stopped;
    first = first_behind (files before) _ fs gs xs (string_bytes name) h.theirs
        (first_weaker (files before) _ _ gs (string_bytes name) (rises (count before) (count middle) (count after) l)
        (subst (λ t. IsFirstUnread t (Rose (count middle) (count after)) gs (string_bytes name)) e k.first));
  }
  second_unfetched xs _ e l h k = absurd k

pub first_unfetched : {S : Type 0} (files : S → Option Files) (count : S → ℕ) (call : Calls S) (before after : S) (fs gs : List File) (r : Refusal)
    → IsUnfetched (visit_of files count call before after) fs r → IsUnfetched (visit_of files count call before after) (fs ++ gs) r
first_unfetched files count call before after fs gs NoMemory h = tt
first_unfetched files count call before after fs gs (Unread name) h = record {
  stopped = stops_before call before after fs gs (string_bytes name) h.stopped;
  first = first_before (files before) _ fs gs (string_bytes name) h.first;
}
first_unfetched files count call before after fs gs _ h = absurd h
