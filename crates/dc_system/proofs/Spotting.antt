-- What the search for a foldable location finds, and what folding it in place does.
use Rattle.std.specs.Prelude.{◌≡◌, ◌⊎◌, ℕ, zero, suc, ◌+◌, ◌≤◌, ◌<◌, Bool, true, false, not, ◌||◌, cond, eqb, if◌then◌else◌, List, [], ◌∷◌, map, filter, length, get_or, slice_set, Some, None, refl}
use Rattle.std.specs.declared.option.Option.{Option}
use Rattle.std.specs.List.{AllByRecursion}
use Rattle.std.proofs.Common.{sym, ◌∙◌, ap, ap₂, subst, arith, inl, inr}
use Rattle.std.proofs.lemmas.Bool.{eqb-true, eq-eqb, ne_eqb, cases_order}
use Rattle.dc_math.specs.Members.{Among, head, each_is, each_among}
use Rattle.dc_system.specs.declared.edges.Edge.{Edge}
use Rattle.dc_system.specs.declared.folding.Spot.{Spot}
use Rattle.dc_system.specs.Shapes.{IsWithin}
use Rattle.dc_system.specs.Composed.{compose_of}
use Rattle.dc_system.specs.Folded.{into, out_of, joint, fold_at, folded}
use Rattle.dc_system.specs.Spots.{IsOnly, IsSpotAt, IsLeast}
use Rattle.dc_system.proofs.Filters.{in_kept}

-- ---- one location
inner : (n x l : ℕ) (es : List Edge) → (l ≡ 0 → ⊥) → (l ≡ x → ⊥) → fold_at n x es l ≡ joint n l (into l es) (out_of l es)
inner n x l es a b = ap₂ (λ p q. if p || q then None else joint n l (into l es) (out_of l es)) (ne_eqb l 0 a) (ne_eqb l x b)

pub at_entry : (n x l : ℕ) (es : List Edge) → l ≡ 0 → fold_at n x es l ≡ None
at_entry n x l es e = ap (λ p. if p || eqb l x then None else joint n l (into l es) (out_of l es)) (eq-eqb l 0 e)

pub at_exit : (n x l : ℕ) (es : List Edge) → l ≡ x → fold_at n x es l ≡ None
at_exit n x l es e = ap (λ p. if eqb l 0 || p then None else joint n l (into l es) (out_of l es)) (eq-eqb l x e) ∙ either (eqb l 0)
  where
    either : (b : Bool) → (if b || true then None else joint n l (into l es) (out_of l es)) ≡ None
    either true = refl
    either false = refl

no_way_in : (n l : ℕ) (a b : List Edge) → ((e : Edge) → ¬ (a ≡ e ∷ [])) → joint n l a b ≡ None
no_way_in n l [] b h = refl
no_way_in n l (e ∷ []) b h = absurd (h e refl)
no_way_in n l (e ∷ f ∷ a) b h = refl

no_way_out : (n l : ℕ) (a b : List Edge) (e : Edge) → a ≡ e ∷ [] → ((f : Edge) → ¬ (b ≡ f ∷ [])) → joint n l a b ≡ None
no_way_out n l a b e q h = ap (λ y. joint n l y b) q ∙ by b h
  where
    by : (b : List Edge) → ((f : Edge) → ¬ (b ≡ f ∷ [])) → joint n l (e ∷ []) b ≡ None
    by [] h = refl
    by (f ∷ []) h = absurd (h f refl)
    by (f ∷ g ∷ b) h = refl

pub none_in : (n x l : ℕ) (es : List Edge) → (l ≡ 0 → ⊥) → (l ≡ x → ⊥) → IsOnly (into l es) es None → fold_at n x es l ≡ None
none_in n x l es a b o = inner n x l es a b ∙ no_way_in n l (into l es) (out_of l es) o

pub none_out : (n x l i : ℕ) (es : List Edge) (e : Edge) → (l ≡ 0 → ⊥) → (l ≡ x → ⊥) → IsOnly (into l es) es (Some i) → IsOnly (out_of l es) es None → fold_at n x es l ≡ None
none_out n x l i es e a b o p = inner n x l es a b ∙ no_way_out n l (into l es) (out_of l es) (get_or es i e) (o.1 e) p

-- the two edges
pub record Two (l i j : ℕ) (es : List Edge) (e f : Edge) : Type 0 where
  pub first : into l es ≡ e ∷ []
  pub second : out_of l es ≡ f ∷ []

pub two_at : (l i j : ℕ) (es : List Edge) (e f : Edge) → IsOnly (into l es) es (Some i) → IsOnly (out_of l es) es (Some j) → e ≡ get_or es i e → f ≡ get_or es j f → Two l i j es e f
two_at l i j es e f o p a b = record { first = o.1 e ∙ ap (λ y. y ∷ []) (sym a); second = p.1 f ∙ ap (λ y. y ∷ []) (sym b) }

joined_two : (n x l i j : ℕ) (es : List Edge) (e f : Edge) → (l ≡ 0 → ⊥) → (l ≡ x → ⊥) → Two l i j es e f → fold_at n x es l ≡ (if eqb e.from l || eqb f.to l then None else compose_of n e f)
joined_two n x l i j es e f a b t = inner n x l es a b ∙ ap₂ (joint n l) t.first t.second

pub loop_in : (n x l i j : ℕ) (es : List Edge) (e f : Edge) → (l ≡ 0 → ⊥) → (l ≡ x → ⊥) → Two l i j es e f → e.from ≡ l → fold_at n x es l ≡ None
loop_in n x l i j es e f a b t q = joined_two n x l i j es e f a b t ∙ ap (λ p. if p || eqb f.to l then None else compose_of n e f) (eq-eqb e.from l q)

pub loop_out : (n x l i j : ℕ) (es : List Edge) (e f : Edge) → (l ≡ 0 → ⊥) → (l ≡ x → ⊥) → Two l i j es e f → f.to ≡ l → fold_at n x es l ≡ None
loop_out n x l i j es e f a b t q = joined_two n x l i j es e f a b t ∙ ap (λ p. if eqb e.from l || p then None else compose_of n e f) (eq-eqb f.to l q) ∙ either (eqb e.from l)
  where
    either : (b : Bool) → (if b || true then None else compose_of n e f) ≡ None
    either true = refl
    either false = refl

pub composed_there : (n x l i j : ℕ) (es : List Edge) (e f : Edge) (o : Option Edge) → (l ≡ 0 → ⊥) → (l ≡ x → ⊥) → Two l i j es e f → (e.from ≡ l → ⊥) → (f.to ≡ l → ⊥) → o ≡ compose_of n e f → fold_at n x es l ≡ o
composed_there n x l i j es e f o a b t c d q = joined_two n x l i j es e f a b t ∙ ap₂ (λ p r. if p || r then None else compose_of n e f) (ne_eqb e.from l c) (ne_eqb f.to l d) ∙ sym q

meeting : (l i j : ℕ) (es : List Edge) (e f : Edge) → Two l i j es e f → e.to ≡ f.from
meeting l i j es e f t =
    let a = in_kept (λ (g : Edge). eqb g.to l) e es (subst (Among e) (sym t.first) head) in
    let b = in_kept (λ (g : Edge). eqb g.from l) f es (subst (Among f) (sym t.second) head) in
    eqb-true e.to l a.passes ∙ sym (eqb-true f.from l b.passes)

pub edges_meet : (l i j : ℕ) (es : List Edge) (e f : Edge) → Two l i j es e f → e.to ≡ f.from
edges_meet l i j es e f t = meeting l i j es e f t

-- ---- past the exit there is nothing
pub past : (n x l : ℕ) (es : List Edge) → AllByRecursion (IsWithin (x + 1)) es → x < l → fold_at n x es l ≡ None
past n x l es h k = inner n x l es (λ e. omega arith) (λ e. omega arith) ∙ no_way_in n l (into l es) (out_of l es) (λ e q.
    let a = in_kept (λ (g : Edge). eqb g.to l) e es (subst (Among e) (sym q) head) in
    let b : IsWithin (x + 1) e = each_among (IsWithin (x + 1)) h a.among in
    let c = eqb-true e.to l a.passes in
    let d = b.to in
    omega arith)

pub none_least : (n x : ℕ) (es : List Edge) (k : ℕ) → AllByRecursion (IsWithin (x + 1)) es → x ≤ k → ((j : ℕ) → j < k → fold_at n x es j ≡ None) → (l : ℕ) → fold_at n x es l ≡ None
none_least n x es k h g f l = by (cases_order l x)
  where
    by : (l ≡ x) ⊎ ((l < x) ⊎ (x < l)) → fold_at n x es l ≡ None
    by (inl e) = at_exit n x l es e
    by (inr (inl a)) = f l (omega arith)
    by (inr (inr a)) = past n x l es h a

pub less_more : (n x : ℕ) (es : List Edge) (k : ℕ) (o : Option Spot) → IsSpotAt n x es k o → o ≡ None → ((j : ℕ) → j < k → fold_at n x es j ≡ None) → (j : ℕ) → j < k + 1 → fold_at n x es j ≡ None
less_more n x es k None s e f j h = by (cases_order j k)
  where
    by : (j ≡ k) ⊎ ((j < k) ⊎ (k < j)) → fold_at n x es j ≡ None
    by (inl e) = ap (fold_at n x es) e ∙ s
    by (inr (inl a)) = f j a
    by (inr (inr a)) = absurd (omega arith)
less_more n x es k (Some z) s e f j h = cc

pub least_found : (n x : ℕ) (es : List Edge) (k : ℕ) (o : Option Spot) (z : Spot) → IsSpotAt n x es k o → o ≡ Some z → ((j : ℕ) → j < k → fold_at n x es j ≡ None) → IsLeast n x es o
least_found n x es k None z s e f = cc
least_found n x es k (Some y) z s e f = (s.1, λ j h. f j (let a = s.0 in omega arith))

-- ---- in place
none_pass : (p : Edge → Bool) (es : List Edge) (c : Edge) → filter p es ≡ [] → map (λ e. if p e then c else e) es ≡ es
none_pass p [] c h = refl
none_pass p (e ∷ es) c h = by (p e) refl h (none_pass p es c)
  where
    by : (b : Bool) → p e ≡ b → cond b (e ∷ filter p es) (filter p es) ≡ [] → (filter p es ≡ [] → map (λ e. if p e then c else e) es ≡ es) → (if p e then c else e) ∷ map (λ e. if p e then c else e) es ≡ e ∷ es
    by true q h r = cc
    by false q h r = ap₂ ◌∷◌ (ap (λ t. if t then c else e) q) (r h)

passes_there : (p : Edge → Bool) (es : List Edge) (k : ℕ) (e d : Edge) → filter p es ≡ [] → k < length es → get_or es k d ≡ e → p e ≡ true → ⊥
passes_there p [] k e d h l q t = absurd (omega arith)
passes_there p (f ∷ es) k e d h l q t = by (p f) refl k h l q (λ j i r m. passes_there p es j e d i r m t)
  where
    by : (b : Bool) → p f ≡ b → (k : ℕ) → cond b (f ∷ filter p es) (filter p es) ≡ [] → k < suc (length es) → get_or (f ∷ es) k d ≡ e → ((j : ℕ) → filter p es ≡ [] → j < length es → get_or es j d ≡ e → ⊥) → ⊥
    by true g k h l q r = cc
    by false g zero h l q r = let o : true ≡ false = sym t ∙ ap p (sym q) ∙ g in cc
    by false g (suc k) h l q r = r k h (omega arith) q

pub set_only : (p : Edge → Bool) (es : List Edge) (k : ℕ) (c d : Edge) → k < length es → filter p es ≡ get_or es k d ∷ [] → slice_set es k c ≡ map (λ e. if p e then c else e) es
set_only p [] k c d h q = absurd (omega arith)
set_only p (e ∷ es) k c d h q = by (p e) refl k h q (λ j i r. set_only p es j c d i r)
  where
    only_head : {x y : Edge} {xs : List Edge} → x ∷ xs ≡ y ∷ [] → (x ≡ y) × (xs ≡ [])
    only_head r = (cc, cc)

    by : (b : Bool) → p e ≡ b → (k : ℕ) → k < suc (length es) → cond b (e ∷ filter p es) (filter p es) ≡ get_or (e ∷ es) k d ∷ [] → ((j : ℕ) → j < length es → filter p es ≡ get_or es j d ∷ [] → slice_set es j c ≡ map (λ e. if p e then c else e) es) → slice_set (e ∷ es) k c ≡ (if p e then c else e) ∷ map (λ e. if p e then c else e) es
    by true g zero h q r = ap₂ ◌∷◌ (ap (λ t. if t then c else e) (sym g)) (sym (none_pass p es c (only_head q).1))
    by true g (suc k) h q r = absurd (passes_there p es k e d (only_head q).1 (omega arith) (sym (only_head q).0) g)
    by false g zero h q r =
        let a = in_kept p e es (subst (Among e) (sym q) head) in
        let o : true ≡ false = sym a.passes ∙ g in
        cc
    by false g (suc k) h q r = ap₂ ◌∷◌ (ap (λ t. if t then c else e) (sym g)) (r k (omega arith) q)

pub folded_in_place : (l k : ℕ) (c d : Edge) (es os ps : List Edge) → k < length es → into l es ≡ get_or es k d ∷ [] → os ≡ slice_set es k c → ps ≡ filter (λ (e : Edge). not (eqb e.from l)) os → ps ≡ folded l c es
folded_in_place l k c d es os ps h q e f = f ∙ ap (filter (λ (e : Edge). not (eqb e.from l))) (e ∙ set_only (λ (e : Edge). eqb e.to l) es k c d h q)

pub ruleset spotting = (at_entry, at_exit, none_in, none_out, two_at, loop_in, loop_out, composed_there, edges_meet, each_is)

pub ruleset leasts = (less_more, least_found, none_least)

pub ruleset folding_out = (folded_in_place)
