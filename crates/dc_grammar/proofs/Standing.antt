-- The scan counts the operators of the expression or condition in which it stands.
use Rattle.std.proofs.Common.{◌≡◌, ℕ, ◌+◌, ◌<◌, ◌≤◌, ◌⊎◌, inl, inr, Bool, true, false, not, ◌||◌, ◌&&◌, List, [], ◌∷◌, ◌++◌, length, refl, sym, ap, ◌∙◌, subst, arith, append_assoc, append-nil, leb}
use Rattle.std.specs.Prelude.{fold, if◌then◌else◌}
use Rattle.std.proofs.lemmas.Bool.{not-true, leb-true, leb-false}
use Rattle.dc_tokens.specs.declared.token.TokenKind.{TokenKind}
use Rattle.dc_tokens.specs.declared.token.Token.{Token}
use Rattle.dc_tokens.proofs.Front.{and_left, and_right}
use Rattle.dc_grammar.specs.Grammar.{Rule, one, nil, ref, seq, alt, many, Tree, Derives, Viable, has}
use Rattle.dc_grammar.specs.Grammar as D
use Rattle.dc_grammar.specs.Kinds.{is, kinds}
use Rattle.dc_grammar.specs.Lookahead.{every, implies}
use Rattle.dc_grammar.specs.Language.{Name, source, names, stmt, assigned, choice, block, expr, term, unary, cond, conj, fact, rules, language}
use Rattle.dc_grammar.specs.Depth.{operators, operands, operators_with, operators_so_far, open_brackets, IsDeep}
use Rattle.dc_grammar.specs.Nesting.{Nests}
use Rattle.dc_grammar.specs.Standing.{is_whole, is_layer, Holds, here, within, in_first, in_second, of_first, of_second, in_one, in_more, operators_in, Stands, HasManyOpen, HasManyOperators, CountsOperators}
use Rattle.dc_grammar.proofs.Tests.{implies_true}
use Rattle.dc_grammar.proofs.AllKinds.{all_kinds}
use Rattle.dc_grammar.proofs.Nesting.{counted, counts_open}

-- a test of all kinds that a rule may take, at a token that it takes
taken : (j : TokenKind) (js : List TokenKind) (p : TokenKind → Bool) (t : Token) → every kinds (λ i. implies (has is (j ∷ js) i) (p i)) ≡ true
    → has is (j ∷ js) t.kind ≡ true → p t.kind ≡ true
taken j js p t e h = implies_true (has is (j ∷ js) t.kind) (p t.kind) (all_kinds (λ i. implies (has is (j ∷ js) i) (p i)) e t.kind) h

-- ---- the operators in a row
abbrev run : ℕ → List Token → ℕ
run n ts = fold operators_with n ts

pub run-append : (n : ℕ) (us vs : List Token) → run n (us ++ vs) ≡ run (run n us) vs
run-append n [] vs = refl
run-append n (t ∷ us) vs = run-append (operators_with n t) us vs

-- ---- what rules do to them: whether none is in a row before and behind

abbrev resets : TokenKind → Bool
resets j = not (has is operators j || has is operands j)

abbrev stands_still : TokenKind → Bool
stands_still j = not (has is operators j)

data Goes : Name → Bool → Bool → Type 0 where
  whole : {x : Name} → is_whole x ≡ true → Goes x true false
  go_names : Goes names true true
  go_stmt : {z : Bool} → Goes stmt z true
  go_block : {z : Bool} → Goes block z true
  go_source : {z : Bool} → Goes source z true
  go_assigned : Goes assigned true false

data Rests : Rule TokenKind Name → Bool → Bool → Type 0 where
  reset : {j : TokenKind} {js : List TokenKind} {z : Bool} → every kinds (λ i. implies (has is (j ∷ js) i) (resets i)) ≡ true → Rests (one j js) z true
  stay : {j : TokenKind} {js : List TokenKind} {z : Bool} → every kinds (λ i. implies (has is (j ∷ js) i) (stands_still i)) ≡ true → Rests (one j js) z z
  rest_nil : {z : Bool} → Rests nil z z
  rest_end : {z : Bool} → Rests nil z false
  rest_ref : {x : Name} {y z : Bool} → Goes x y z → Rests (ref x) y z
  rest_seq : {r q : Rule TokenKind Name} {x y z : Bool} → Rests r x y → Rests q y z → Rests (seq r q) x z
  rest_alt : {r q : Rule TokenKind Name} {y z : Bool} → Rests r y z → Rests q y z → Rests (alt r q) y z
  rest_many : {r : Rule TokenKind Name} {z : Bool} → Rests r z z → Rests (many r) z z

infixr 6 ◌▹◌
abbrev ◌▹◌ : {r q : Rule TokenKind Name} {x y z : Bool} → Rests r x y → Rests q y z → Rests (seq r q) x z
a ▹ b = rest_seq a b

infixr 5 ◌else◌
abbrev ◌else◌ : {r q : Rule TokenKind Name} {y z : Bool} → Rests r y z → Rests q y z → Rests (alt r q) y z
a else b = rest_alt a b

abbrev whole_of : (x : Name) → is_whole x ≡ true → Rests (ref x) true false
whole_of x h = rest_ref (whole h)

rule_goes : {x : Name} {y z : Bool} → is_whole x ≡ false → Goes x y z → Rests (rules x) y z
unfolding every implies
rule_goes h (whole g) = absurd (let e : true ≡ false = sym g ∙ h in cc)
rule_goes h go_names = stay refl ▹ rest_many (reset refl ▹ stay refl)
rule_goes h go_stmt =
    (reset refl ▹ reset refl)
    else (reset refl ▹ whole_of expr refl ▹ reset refl)
    else (reset refl ▹ stay refl ▹ whole_of cond refl ▹ stay refl ▹ reset refl)
    else (stay refl ▹ reset refl ▹ rest_ref go_assigned ▹ reset refl)
    else (reset refl ▹ stay refl ▹ whole_of choice refl ▹ stay refl ▹ rest_ref go_block ▹ ((reset refl ▹ rest_ref go_block) else rest_nil))
    else (reset refl ▹ stay refl ▹ whole_of choice refl ▹ stay refl ▹ rest_ref go_block)
rule_goes h go_block = reset refl ▹ rest_many (rest_ref go_stmt) ▹ reset refl
rule_goes h go_source =
    reset refl ▹ stay refl ▹ stay refl ▹ (rest_ref go_names else rest_nil) ▹ stay refl ▹ reset refl
    ▹ ((reset refl ▹ rest_ref go_names ▹ reset refl) else rest_nil) ▹ rest_many (rest_ref go_stmt) ▹ reset refl
rule_goes h go_assigned =
    whole_of expr refl else (reset refl ▹ ((stay refl ▹ whole_of expr refl ▹ reset refl ▹ whole_of expr refl ▹ stay refl) else rest_end))

-- none in a row, where that is said
abbrev None_if : Bool → ℕ → Type 0
None_if z n = z ≡ true → n ≡ 0

reset_one : (n : ℕ) (a b : Bool) → not (a || b) ≡ true → (if a then n + 1 else (if b then n else 0)) ≡ 0
reset_one n true b h = absurd cc
reset_one n false true h = absurd cc
reset_one n false false h = refl

stay_one : (n : ℕ) (a b : Bool) → not a ≡ true → n ≡ 0 → (if a then n + 1 else (if b then n else 0)) ≡ 0
stay_one n true b h e = absurd cc
stay_one n false true h e = e
stay_one n false false h e = refl

token_rests : {j : TokenKind} {js : List TokenKind} {y z : Bool} (t : Token) (n : ℕ) → has is (j ∷ js) t.kind ≡ true → Rests (one j js) y z → None_if y n → None_if z (operators_with n t)
token_rests {j = j} {js = js} t n h (reset e) f = λ g. reset_one n (has is operators t.kind) (has is operands t.kind) (taken j js resets t e h)
token_rests {j = j} {js = js} t n h (stay e) f = λ g. stay_one n (has is operators t.kind) (has is operands t.kind) (taken j js stands_still t e h) (f g)

whole_or_not : (x : Name) → (is_whole x ≡ true) ⊎ (is_whole x ≡ false)
whole_or_not x = go (is_whole x) refl
  where
    go : (b : Bool) → is_whole x ≡ b → (is_whole x ≡ true) ⊎ (is_whole x ≡ false)
    go true e = inl e
    go false e = inr e

whole_goes : {x : Name} {y z : Bool} → is_whole x ≡ true → Goes x y z → (y ≡ true) × (z ≡ false)
whole_goes h (whole g) = (refl, refl)
whole_goes h go_names = absurd cc
whole_goes h go_stmt = absurd cc
whole_goes h go_block = absurd cc
whole_goes h go_source = absurd cc
whole_goes h go_assigned = absurd cc

rested : {r : Rule TokenKind Name} {us : List Token} {a : Tree Token} {y z : Bool} (n : ℕ) → Derives language r us a → Rests r y z → None_if y n → None_if z (run n us)
rested n (D.token {t = t} h) g f = token_rests t n h g f
rested n D.nothing rest_nil f = f
rested n D.nothing rest_end f = λ e. absurd cc
rested {us = us} {z = z} n (D.name {x = x} d) (rest_ref g) f = elim (whole_or_not x) [
  | inl e ↦ λ h. absurd (let q : true ≡ false = sym h ∙ (whole_goes e g).1 in cc)
  | inr e ↦ rested n d (rule_goes e g) f
]
rested {z = z} n (D.both {u = u} {v = v} d e) (rest_seq g h) f = subst (None_if z) (sym (run-append n u v)) (rested (run n u) e h (rested n d g f))
rested n (D.first d) (rest_alt g h) f = rested n d g f
rested n (D.second d) (rest_alt g h) f = rested n d h f
rested n D.no_more (rest_many g) f = f
rested {z = z} n (D.one_more {u = u} {v = v} d e) (rest_many g) f = subst (None_if z) (sym (run-append n u v)) (rested (run n u) e (rest_many g) (rested n d g f))

-- where a whole expression, condition or choice begins, none is in a row
begins : {r : Rule TokenKind Name} {b e c : List Token} {y z : Bool} (n : ℕ) → Holds r b e c → Rests r y z → None_if y n → run n b ≡ 0
begins n (here h d) (rest_ref g) f = f (whole_goes h g).0
begins n (within h d) (rest_ref g) f = begins n d (rule_goes h g) f
begins n (in_first h d) (rest_seq g q) f = begins n h g f
begins n (in_second {u = u} {b = b} d h) (rest_seq g q) f = run-append n u b ∙ begins (run n u) h q (rested n d g f)
begins n (of_first h) (rest_alt g q) f = begins n h g f
begins n (of_second h) (rest_alt g q) f = begins n h q f
begins n (in_one h d) (rest_many g) f = begins n h g f
begins n (in_more {u = u} {b = b} d h) (rest_many g) f = run-append n u b ∙ begins (run n u) h (rest_many g) (rested n d g f)

-- ---- within them no token resets

abbrev is_inside : TokenKind → Bool
is_inside j = has is operators j || has is operands j

abbrev is_inner : Name → Bool
is_inner x = is_whole x || is_layer x

abbrev inner : Rule TokenKind Name → Bool
inner (one j js) = every kinds (λ i. implies (has is (j ∷ js) i) (is_inside i))
inner nil = true
inner (ref x) = is_inner x
inner (seq r q) = inner r && inner q
inner (alt r q) = inner r && inner q
inner (many r) = inner r

inner_rules : (x : Name) → is_inner x ≡ true → inner (rules x) ≡ true
unfolding every implies
inner_rules source h = absurd cc
inner_rules names h = absurd cc
inner_rules stmt h = absurd cc
inner_rules assigned h = absurd cc
inner_rules block h = absurd cc
inner_rules choice h = refl
inner_rules expr h = refl
inner_rules term h = refl
inner_rules unary h = refl
inner_rules cond h = refl
inner_rules conj h = refl
inner_rules fact h = refl

abbrev Inside : List Token → Type 0
Inside [] = Unit {0}
Inside (t ∷ ts) = (is_inside t.kind ≡ true) × Inside ts

inside_both : (us vs : List Token) → Inside us → Inside vs → Inside (us ++ vs)
inside_both [] vs h g = g
inside_both (t ∷ us) vs h g = (h.0, inside_both us vs h.1 g)

inside_front : (us vs : List Token) → Inside (us ++ vs) → Inside us
inside_front [] vs h = tt
inside_front (t ∷ us) vs h = (h.0, inside_front us vs h.1)

all_inside : {r : Rule TokenKind Name} {us : List Token} {a : Tree Token} → Derives language r us a → inner r ≡ true → Inside us
all_inside (D.token {j = j} {ks = js} {t = t} h) e = (taken j js is_inside t e h, tt)
all_inside D.nothing e = tt
all_inside (D.name {x = x} d) e = all_inside d (inner_rules x e)
all_inside (D.both {r = r} {s = s} {u = u} {v = v} d f) e = inside_both u v (all_inside d (and_left (inner r) (inner s) e)) (all_inside f (and_right (inner r) (inner s) e))
all_inside (D.first {r = r} {s = s} d) e = all_inside d (and_left (inner r) (inner s) e)
all_inside (D.second {r = r} {s = s} d) e = all_inside d (and_right (inner r) (inner s) e)
all_inside D.no_more e = tt
all_inside (D.one_more {u = u} {v = v} d f) e = inside_both u v (all_inside d e) (all_inside f e)

inside_one : (n : ℕ) (a b : Bool) → a || b ≡ true → (if a then n + 1 else (if b then n else 0)) ≡ n + (if a then 1 else 0)
inside_one n true b h = refl
inside_one n false true h = omega arith
inside_one n false false h = absurd cc

inside_run : (n : ℕ) (us : List Token) → Inside us → run n us ≡ n + operators_in us
inside_run n [] h = omega arith
inside_run n (t ∷ us) h =
    let e : operators_with n t ≡ n + (if has is operators t.kind then 1 else 0) = inside_one n (has is operators t.kind) (has is operands t.kind) h.0 in
    let g = inside_run (operators_with n t) us h.1 in
    omega arith

whole_inner : (a b : Bool) → a ≡ true → a || b ≡ true
whole_inner true b h = refl
whole_inner false b h = absurd cc

held_inside : {r : Rule TokenKind Name} {b e c : List Token} → Holds r b e c → Inside e
held_inside (here {x = x} h d) = all_inside d (whole_inner (is_whole x) (is_layer x) h)
held_inside (within h d) = held_inside d
held_inside (in_first h d) = held_inside h
held_inside (in_second d h) = held_inside h
held_inside (of_first h) = held_inside h
held_inside (of_second h) = held_inside h
held_inside (in_one h d) = held_inside h
held_inside (in_more d h) = held_inside h

-- from none in a row each name goes some way
some_way : (x : Name) → is_layer x ≡ false → (z : Bool) × Goes x true z
some_way source h = (true, go_source)
some_way names h = (true, go_names)
some_way stmt h = (true, go_stmt)
some_way assigned h = (false, go_assigned)
some_way choice h = (false, whole refl)
some_way block h = (true, go_block)
some_way expr h = (false, whole refl)
some_way cond h = (false, whole refl)
some_way term h = absurd cc
some_way unary h = absurd cc
some_way conj h = absurd cc
some_way fact h = absurd cc

inside : (x : Name) (before v w behind : List Token) → is_layer x ≡ false → Holds (ref x) before (v ++ w) behind → operators_so_far (before ++ v) ≡ operators_in v
unfolding operators_so_far
inside x before v w behind h d =
    let z : run 0 before ≡ 0 = begins 0 d (rest_ref (some_way x h).1) (λ e. refl) in
    run-append 0 before v ∙ (ap (λ n. run n v) z ∙ (inside_run 0 v (inside_front v w (held_inside d)) ∙ (omega arith)))

-- ---- each operator stands in one

abbrev outer : Rule TokenKind Name → Bool
outer (one j js) = every kinds (λ i. implies (has is (j ∷ js) i) (stands_still i))
outer nil = true
outer (ref x) = not (is_layer x)
outer (seq r q) = outer r && outer q
outer (alt r q) = outer r && outer q
outer (many r) = outer r

outer_rules : (x : Name) → is_layer x ≡ false → is_whole x ≡ false → outer (rules x) ≡ true
unfolding every implies
outer_rules source h g = refl
outer_rules names h g = refl
outer_rules stmt h g = refl
outer_rules assigned h g = refl
outer_rules block h g = refl
outer_rules choice h g = absurd cc
outer_rules expr h g = absurd cc
outer_rules cond h g = absurd cc
outer_rules term h g = absurd cc
outer_rules unary h g = absurd cc
outer_rules conj h g = absurd cc
outer_rules fact h g = absurd cc

layer_no : (b : Bool) → b ≡ false → not b ≡ true
layer_no true h = absurd cc
layer_no false h = refl

no_operator : (b : Bool) → not b ≡ true → b ≡ true → ⊥
no_operator true h g = absurd cc
no_operator false h g = absurd cc

heads : {a b : Token} {us vs : List Token} → a ∷ us ≡ b ∷ vs → a ≡ b
heads e = cc

tails : {a b : Token} {us vs : List Token} → a ∷ us ≡ b ∷ vs → us ≡ vs
tails e = cc

nil_cons : (t : Token) (ts : List Token) → [] ≡ t ∷ ts → ⊥
nil_cons t ts e = cc

nil_append : (u : List Token) (t : Token) (more : List Token) → [] ≡ u ++ t ∷ more → ⊥
nil_append [] t more e = nil_cons t more e
nil_append (b ∷ u) t more e = nil_cons b (u ++ t ∷ more) e

single : (s : Token) (u : List Token) (t : Token) (more : List Token) → s ∷ [] ≡ u ++ t ∷ more → s ≡ t
single s [] t more e = heads e
single s (b ∷ u) t more e = absurd (nil_append u t more (tails e))

-- a token of two lists is one of the first or one of the second
abbrev IsFirst : List Token → List Token → List Token → Token → List Token → Type 0
IsFirst us vs u t more = (m : List Token) × (us ≡ u ++ t ∷ m) × (more ≡ m ++ vs)

abbrev IsSecond : List Token → List Token → List Token → Token → List Token → Type 0
IsSecond us vs u t more = (w : List Token) × (u ≡ us ++ w) × (vs ≡ w ++ t ∷ more)

longer : (a : Token) (us vs u : List Token) (t : Token) (more : List Token) (b : Token) → a ≡ b → IsFirst us vs u t more ⊎ IsSecond us vs u t more
    → IsFirst (a ∷ us) vs (b ∷ u) t more ⊎ IsSecond (a ∷ us) vs (b ∷ u) t more
longer a us vs u t more b e (inl m) = inl (m.0, let f = m.1 in cc, m.2)
longer a us vs u t more b e (inr w) = inr (w.0, let f = w.1 in cc, w.2)

split : (us vs u : List Token) (t : Token) (more : List Token) → us ++ vs ≡ u ++ t ∷ more → IsFirst us vs u t more ⊎ IsSecond us vs u t more
split [] vs u t more e = inr (u, refl, e)
split (a ∷ us) vs [] t more e = inl (us, ap (λ x. x ∷ us) (heads e), sym (tails e))
split (a ∷ us) vs (b ∷ u) t more e = longer a us vs u t more b (heads e) (split us vs u t more (tails e))

-- where it stands in a part, it stands in the whole
stands_first : {r q : Rule TokenKind Name} {vs u more m : List Token} {t : Token} {a : Tree Token} → more ≡ m ++ vs → Stands r u t m → Derives language q vs a → Stands (seq r q) u t more
stands_first {vs = vs} e s d = record {
  before = s.before;
  front = s.front;
  rest = s.rest;
  behind = s.behind ++ vs;
  start = s.start;
  end = e ∙ (ap (λ z. z ++ vs) s.end ∙ append_assoc s.rest s.behind vs);
  holds = in_first s.holds d;
}

stands_one : {r : Rule TokenKind Name} {vs u more m : List Token} {t : Token} {a : Tree Token} → more ≡ m ++ vs → Stands r u t m → Derives language (many r) vs a → Stands (many r) u t more
stands_one {vs = vs} e s d = record {
  before = s.before;
  front = s.front;
  rest = s.rest;
  behind = s.behind ++ vs;
  start = s.start;
  end = e ∙ (ap (λ z. z ++ vs) s.end ∙ append_assoc s.rest s.behind vs);
  holds = in_one s.holds d;
}

stands_second : {r q : Rule TokenKind Name} {us u w more : List Token} {t : Token} {a : Tree Token} → u ≡ us ++ w → Derives language r us a → Stands q w t more → Stands (seq r q) u t more
stands_second {us = us} e d s = record {
  before = us ++ s.before;
  front = s.front;
  rest = s.rest;
  behind = s.behind;
  start = e ∙ (ap (λ z. us ++ z) s.start ∙ sym (append_assoc us s.before s.front));
  end = s.end;
  holds = in_second d s.holds;
}

stands_more : {r : Rule TokenKind Name} {us u w more : List Token} {t : Token} {a : Tree Token} → u ≡ us ++ w → Derives language r us a → Stands (many r) w t more → Stands (many r) u t more
stands_more {us = us} e d s = record {
  before = us ++ s.before;
  front = s.front;
  rest = s.rest;
  behind = s.behind;
  start = e ∙ (ap (λ z. us ++ z) s.start ∙ sym (append_assoc us s.before s.front));
  end = s.end;
  holds = in_more d s.holds;
}

stands_here : {x : Name} {u more : List Token} {t : Token} {a : Tree Token} → is_whole x ≡ true → Derives language (ref x) (u ++ t ∷ more) a → Stands (ref x) u t more
stands_here {u = u} {more = more} w d = record {
  before = [];
  front = u;
  rest = more;
  behind = [];
  start = refl;
  end = sym (append-nil more);
  holds = here w d;
}

stands_in : {r q : Rule TokenKind Name} {u more : List Token} {t : Token} → ((b e c : List Token) → Holds r b e c → Holds q b e c) → Stands r u t more → Stands q u t more
stands_in {t = t} f s = record {
  before = s.before;
  front = s.front;
  rest = s.rest;
  behind = s.behind;
  start = s.start;
  end = s.end;
  holds = f s.before (s.front ++ t ∷ s.rest) s.behind s.holds;
}

found : {r : Rule TokenKind Name} {us : List Token} {a : Tree Token} (u : List Token) (t : Token) (more : List Token) → Derives language r us a → outer r ≡ true
    → us ≡ u ++ t ∷ more → has is operators t.kind ≡ true → Stands r u t more
found u t more (D.token {j = j} {ks = js} {t = s} h) o e p =
    absurd (no_operator (has is operators s.kind) (taken j js stands_still s o h) (ap (λ i. has is operators i.kind) (single s u t more e) ∙ p))
found u t more D.nothing o e p = absurd (nil_append u t more e)
found u t more (D.name {x = x} {a = a} d) o e p = elim (whole_or_not x) [
  | inl w ↦ stands_here w (subst (λ z. Derives language (ref x) z a) e (D.name d))
  | inr n ↦ stands_in (λ b c f. within n) (found u t more d (outer_rules x (not-true (is_layer x) o) n) e p)
]
found u t more (D.both {r = r} {s = q} {u = us} {v = vs} d f) o e p = elim (split us vs u t more e) [
  | inl m ↦ stands_first m.2 (found u t m.0 d (and_left (outer r) (outer q) o) m.1 p) f
  | inr w ↦ stands_second w.1 d (found w.0 t more f (and_right (outer r) (outer q) o) w.2 p)
]
found u t more (D.first {r = r} {s = q} d) o e p = stands_in (λ b c f. of_first) (found u t more d (and_left (outer r) (outer q) o) e p)
found u t more (D.second {r = r} {s = q} d) o e p = stands_in (λ b c f. of_second) (found u t more d (and_right (outer r) (outer q) o) e p)
found u t more D.no_more o e p = absurd (nil_append u t more e)
found u t more (D.one_more {r = r} {u = us} {v = vs} d f) o e p = elim (split us vs u t more e) [
  | inl m ↦ stands_one m.2 (found u t m.0 d o m.1 p) f
  | inr w ↦ stands_more w.1 d (found w.0 t more f o w.2 p)
]

-- ---- where a text is too deep first

counted_at : (x : Name) (u : List Token) (t : Token) (more : List Token) → is_layer x ≡ false → (s : Stands (ref x) u t more)
    → operators_so_far (u ++ t ∷ []) ≡ operators_in (s.front ++ t ∷ [])
counted_at x u t more h s =
    ap operators_so_far (ap (λ z. z ++ t ∷ []) s.start ∙ append_assoc s.before s.front (t ∷ []))
    ∙ inside x s.before (s.front ++ t ∷ []) s.rest s.behind h (subst (λ z. Holds (ref x) s.before z s.behind) (sym (append_assoc s.front (t ∷ []) s.rest)) s.holds)

grown : (n m : ℕ) (a b : Bool) → n ≤ 64 → 64 < m → m ≡ (if a then n + 1 else (if b then n else 0)) → a ≡ true
grown n m true b l g e = refl
grown n m false true l g e = absurd (omega arith)
grown n m false false l g e = absurd (omega arith)

few : (u : List Token) → (IsDeep u → ⊥) → operators_so_far u ≤ 64
few u h = go (leb (operators_so_far u) 64) refl
  where
    go : (b : Bool) → leb (operators_so_far u) 64 ≡ b → operators_so_far u ≤ 64
    go true e = leb-true (operators_so_far u) 64 e
    go false e = absurd (h (inr (leb-false (operators_so_far u) 64 e)))

operated : (u : List Token) (t : Token) → operators_so_far u ≤ 64 → 64 < operators_so_far (u ++ t ∷ []) → has is operators t.kind ≡ true
unfolding operators_so_far
operated u t l g = grown (run 0 u) (run 0 (u ++ t ∷ [])) (has is operators t.kind) (has is operands t.kind) l g (run-append 0 u (t ∷ []))

open_count : (ts : List Token) (s : List TokenKind) → Nests [] ts s → open_brackets ts ≡ length s
unfolding open_brackets
open_count ts s h = counted h

first_deep : (x : Name) (u : List Token) (t : Token) → is_layer x ≡ false → Viable language x (u ++ t ∷ []) → (IsDeep u → ⊥)
    → IsDeep (u ++ t ∷ []) → HasManyOpen (u ++ t ∷ []) ⊎ HasManyOperators x u t
first_deep x u t h v n (inl q) = inl (let c = counts_open x (u ++ t ∷ []) v in record { open_ones = c.0; nests = c.1; many = omega (arith, c.2) })
first_deep x u t h v n (inr q) = inr (
    let o : has is operators t.kind ≡ true = operated u t (few u n) q in
    let s : Stands (ref x) u t v.0 = found u t v.0 v.2 (layer_no (is_layer x) h) (append_assoc u (t ∷ []) v.0) o in
    record { more = v.0; operates = o; stands = s; many = omega (arith, counted_at x u t v.0 h s) })

then_deep : (x : Name) (u : List Token) (t : Token) → is_layer x ≡ false → HasManyOpen (u ++ t ∷ []) ⊎ HasManyOperators x u t → IsDeep (u ++ t ∷ [])
then_deep x u t h (inl q) = inl (let c = open_count (u ++ t ∷ []) q.open_ones q.nests in let m = q.many in omega arith)
then_deep x u t h (inr q) = inr (let c = counted_at x u t q.more h q.stands in let m = q.many in omega arith)

pub counts_operators : CountsOperators
counts_operators = record {
  inside = inside;
  each = λ x u more t a h p d. found u t more d (layer_no (is_layer x) h) refl p;
  first = first_deep;
  deep = then_deep;
}
