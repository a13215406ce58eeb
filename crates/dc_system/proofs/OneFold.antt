-- One system alone is another one folded.
use Rattle.std.proofs.Common.{◌≡◌, ◌⊎◌, ℕ, zero, suc, ◌-◌, ◌<◌, List, map, length, refl, sym, ap, subst, ◌∙◌, arith, inl, inr, Some, None}
use Rattle.std.specs.declared.option.Option.{Option}
use Rattle.std.proofs.lemmas.Option.{same_Some}
use Rattle.dc_system.specs.declared.edges.Edge.{Edge}
use Rattle.dc_system.specs.declared.edges.System.{System}
use Rattle.dc_system.specs.Folded.{fold_at, folded, without, Folding, unfolded, fold_least, renumbered, IsFolded}

-- after so many folds
data Folds (n x : ℕ) (start : List ℕ) (begun : List Edge) : ℕ → List ℕ → List Edge → Type 0 where
  none_yet : Folds n x start begun zero start begun
  one_more : {i : ℕ} {left : List ℕ} {es : List Edge} → Folds n x start begun i left es → (l : ℕ) (c : Edge) → fold_at n x es l ≡ Some c → ((k : ℕ) → k < l → fold_at n x es k ≡ None)
      → Folds n x start begun (suc i) (without l left) (folded l c es)

counted : {n x : ℕ} {start : List ℕ} {begun : List Edge} {left : List ℕ} {es : List Edge} → Folding n x start begun left es → (i : ℕ) × Folds n x start begun i left es
counted unfolded = (zero, none_yet)
counted (fold_least f l c e b) = let g = counted f in (suc g.0, one_more g.1 l c e b)

order : (l m : ℕ) → (l < m) ⊎ ((l ≡ m) ⊎ (m < l))
order zero zero = inr (inl refl)
order zero (suc m) = inl (omega arith)
order (suc l) zero = inr (inr (omega arith))
order (suc l) (suc m) = up (order l m)
  where
    up : (l < m) ⊎ ((l ≡ m) ⊎ (m < l)) → (suc l < suc m) ⊎ ((suc l ≡ suc m) ⊎ (suc m < suc l))
    up (inl h) = inl (omega arith)
    up (inr (inl h)) = inr (inl (ap suc h))
    up (inr (inr h)) = inr (inr (omega arith))

-- the least foldable location, and its composed edge, are one
same_location : (n x : ℕ) (es : List Edge) (l m : ℕ) (c d : Edge) → fold_at n x es l ≡ Some c → ((k : ℕ) → k < l → fold_at n x es k ≡ None) → fold_at n x es m ≡ Some d → ((k : ℕ) → k < m → fold_at n x es k ≡ None)
    → l ≡ m
same_location n x es l m c d e b f g = by (order l m)
  where
    no : (o : Option Edge) (c : Edge) → o ≡ None → o ≡ Some c → ⊥
    no o c h k = (let q : None ≡ Some c = sym h ∙ k in cc)

    by : (l < m) ⊎ ((l ≡ m) ⊎ (m < l)) → l ≡ m
    by (inl h) = absurd (no (fold_at n x es l) c (g l h) e)
    by (inr (inl h)) = h
    by (inr (inr h)) = absurd (no (fold_at n x es m) d (b m h) f)

record Same (left right : List ℕ) (es fs : List Edge) : Type 0 where
  locations : left ≡ right
  edges : es ≡ fs

-- after as many folds the same is left
same_after : (n x : ℕ) (start : List ℕ) (begun : List Edge) {i : ℕ} {left right : List ℕ} {es fs : List Edge} → Folds n x start begun i left es → Folds n x start begun i right fs → Same left right es fs
same_after n x start begun none_yet none_yet = record { locations = refl; edges = refl }
same_after n x start begun (one_more {left = left} {es = es} f l c e b) (one_more {left = right} {es = fs} g m d h q) = both (same_after n x start begun f g)
  where
    both : Same left right es fs → Same (without l left) (without m right) (folded l c es) (folded m d fs)
    both s =
        let e2 : fold_at n x fs l ≡ Some c = ap (λ z. fold_at n x z l) (sym s.edges) ∙ e in
        let b2 : (k : ℕ) → k < l → fold_at n x fs k ≡ None = (λ k w. ap (λ z. fold_at n x z k) (sym s.edges) ∙ b k w) in
        let i : l ≡ m = same_location n x fs l m c d e2 b2 h q in
        let j : c ≡ d = same_Some c d (sym e2 ∙ (ap (fold_at n x fs) i ∙ h)) in
        record { locations = (λ z. without (i z) (s.locations z)); edges = (λ z. folded (i z) (j z) (s.edges z)) }

-- where nothing is left to fold, no further fold follows
record Before (n x : ℕ) (start : List ℕ) (begun : List Edge) (i : ℕ) : Type 0 where
  left : List ℕ
  edges : List Edge
  folds : Folds n x start begun i left edges
  location : ℕ
  edge : Edge
  next : fold_at n x edges location ≡ Some edge

-- at each earlier count a fold follows
earlier : (n x : ℕ) (start : List ℕ) (begun : List Edge) (i : ℕ) {j : ℕ} {left : List ℕ} {es : List Edge} → Folds n x start begun j left es → i < j → Before n x start begun i
earlier n x start begun i none_yet h = absurd (omega arith)
earlier n x start begun i (one_more {i = j} {left = left} {es = es} f l c e b) h = by (earlier n x start begun i f) (at i j h)
  where
    at : (i j : ℕ) → i < suc j → (i < j) ⊎ (i ≡ j)
    at zero zero h = inr refl
    at zero (suc j) h = inl (omega arith)
    at (suc i) zero h = absurd (omega arith)
    at (suc i) (suc j) h = up (at i j (omega arith))
      where
        up : (i < j) ⊎ (i ≡ j) → (suc i < suc j) ⊎ (suc i ≡ suc j)
        up (inl h) = inl (omega arith)
        up (inr h) = inr (ap suc h)

    by : (i < j → Before n x start begun i) → (i < j) ⊎ (i ≡ j) → Before n x start begun i
    by more (inl g) = more g
    by more (inr g) = subst (Before n x start begun) (sym g) (record { left = left; edges = es; folds = f; location = l; edge = c; next = e })

stops : (n x : ℕ) (start : List ℕ) (begun : List Edge) {i j : ℕ} {left right : List ℕ} {es fs : List Edge} → Folds n x start begun i left es → ((l : ℕ) → fold_at n x es l ≡ None) → Folds n x start begun j right fs → i < j → ⊥
stops n x start begun {i} {es = es} f e g h =
    let b = earlier n x start begun i g h in
    let s = same_after n x start begun b.folds f in
    let z : None ≡ Some b.edge = sym (e b.location) ∙ (ap (λ y. fold_at n x y b.location) (sym s.edges) ∙ b.next) in
    cc

-- two foldings to the end leave the same
same_end : (n x : ℕ) (start : List ℕ) (begun : List Edge) (i j : ℕ) {left right : List ℕ} {es fs : List Edge} → Folds n x start begun i left es → ((l : ℕ) → fold_at n x es l ≡ None)
    → Folds n x start begun j right fs → ((l : ℕ) → fold_at n x fs l ≡ None) → (i < j) ⊎ ((i ≡ j) ⊎ (j < i)) → Same left right es fs
same_end n x start begun i j f e g h (inl l) = absurd (stops n x start begun f e g l)
same_end n x start begun i j {right = right} {fs = fs} f e g h (inr (inl q)) = same_after n x start begun f (subst (λ m. Folds n x start begun m right fs) (sym q) g)
same_end n x start begun i j f e g h (inr (inr l)) = absurd (stops n x start begun g h f l)

pub one_folded : (s t u : System) → IsFolded s t → IsFolded s u → t ≡ u
one_folded s t u h g =
    let f = counted h.folding in
    let k = counted g.folding in
    let q = same_end s.vars (s.locs - 1) _ s.edges f.0 k.0 f.1 h.ended k.1 g.ended (order f.0 k.0) in
    h.is ∙ ((λ j. record { vars = s.vars; params = s.params; locs = length (q.locations j); edges = map (renumbered (q.locations j)) (q.edges j); literals = s.literals }) ∙ sym g.is)
