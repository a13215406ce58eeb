-- A reader gives one answer.
use Rattle.std.proofs.Common.{◌≡◌, Bool, true, false, List, refl, ap, sym, ◌∙◌, subst}
use Rattle.dc_grammar.specs.Grammar.{Rule, Tree, pair, left, right}
use Rattle.dc_grammar.specs.Reading.{Reader, Out, ok, fail, rest, Parses, one-ok, one-bad, one-end, nil-ok, name-of, seq-ok, seq-bad, seq-stops, left-ok, left-bad, right-ok, right-bad, many-end, many-ok, many-bad, many-stops}

clash : {A : Type 0} → (b : Bool) → b ≡ true → b ≡ false → A
clash b p q = absurd (let e : true ≡ false = sym p ∙ q in cc)

pub ok_same : {T : Type 0} {a b : Tree T} {u v : List T} → ok a u ≡ ok b v → (a ≡ b) × (u ≡ v)
ok_same {T} {a} {b} {u} {v} e = (ap tree_of e, ap rest e)
  where
    tree_of : Out T → Tree T
    tree_of (ok x w) = x
    tree_of (fail w) = a

pub ok_fail : {T A : Type 0} {a : Tree T} {u v : List T} → ok a u ≡ fail v → A
ok_fail e = absurd cc

pub fail_ok : {T A : Type 0} {a : Tree T} {u v : List T} → fail v ≡ ok a u → A
fail_ok e = absurd cc

pairs : {T : Type 0} {a a' b b' : Tree T} {u u' v v' : List T} → ok a u ≡ ok a' u' → ok b v ≡ ok b' v' → ok (pair a b) v ≡ ok (pair a' b') v'
pairs {a} {a'} {b} {b'} {u} {u'} {v} {v'} d e =
    let p : a ≡ a' = (ok_same d).0 in
    let q : b ≡ b' = (ok_same e).0 in
    let r : v ≡ v' = (ok_same e).1 in
    cc

lefts : {T : Type 0} {a a' : Tree T} {u u' : List T} → ok a u ≡ ok a' u' → ok (left a) u ≡ ok (left a') u'
lefts {a} {a'} {u} {u'} d = let p : a ≡ a' = (ok_same d).0 in let r : u ≡ u' = (ok_same d).1 in cc

rights : {T : Type 0} {a a' : Tree T} {u u' : List T} → ok a u ≡ ok a' u' → ok (right a) u ≡ ok (right a') u'
rights {a} {a'} {u} {u'} d = let p : a ≡ a' = (ok_same d).0 in let r : u ≡ u' = (ok_same d).1 in cc

moved : {K N T : Type 0} {R : Reader K N T} {s : Rule K N} {a a' : Tree T} {u u' : List T} {o : Out T} → ok a u ≡ ok a' u' → Parses R s u' o → Parses R s u o
moved {R = R} {s = s} {o = o} e d = subst (λ w. Parses R s w o) (sym (ok_same e).1) d

-- a rule reads a text in one way
pub one_answer : {K N T : Type 0} {R : Reader K N T} {r : Rule K N} {ts : List T} {o p : Out T} → Parses R r ts o → Parses R r ts p → o ≡ p
one_answer (one-ok h) (one-ok g) = refl
one_answer (one-ok h) (one-bad g) = clash _ h g
one_answer (one-bad h) (one-ok g) = clash _ g h
one_answer (one-bad h) (one-bad g) = refl
one_answer one-end one-end = refl
one_answer nil-ok nil-ok = refl
one_answer (name-of d) (name-of e) = one_answer d e
one_answer (seq-ok d e) (seq-ok d' e') = pairs (one_answer d d') (one_answer e (moved (one_answer d d') e'))
one_answer (seq-ok d e) (seq-bad d') = ok_fail (one_answer d d')
one_answer (seq-ok d e) (seq-stops d' e') = ok_fail (one_answer e (moved (one_answer d d') e'))
one_answer (seq-bad d) (seq-ok d' e') = fail_ok (one_answer d d')
one_answer (seq-bad d) (seq-bad d') = one_answer d d'
one_answer (seq-bad d) (seq-stops d' e') = fail_ok (one_answer d d')
one_answer (seq-stops d e) (seq-ok d' e') = fail_ok (one_answer e (moved (one_answer d d') e'))
one_answer (seq-stops d e) (seq-bad d') = ok_fail (one_answer d d')
one_answer (seq-stops d e) (seq-stops d' e') = one_answer e (moved (one_answer d d') e')
one_answer (left-ok h d) (left-ok g d') = lefts (one_answer d d')
one_answer (left-ok h d) (left-bad g d') = ok_fail (one_answer d d')
one_answer (left-ok h d) (right-ok g d') = clash _ h g
one_answer (left-ok h d) (right-bad g d') = clash _ h g
one_answer (left-bad h d) (left-ok g d') = fail_ok (one_answer d d')
one_answer (left-bad h d) (left-bad g d') = one_answer d d'
one_answer (left-bad h d) (right-ok g d') = clash _ h g
one_answer (left-bad h d) (right-bad g d') = clash _ h g
one_answer (right-ok h d) (left-ok g d') = clash _ g h
one_answer (right-ok h d) (left-bad g d') = clash _ g h
one_answer (right-ok h d) (right-ok g d') = rights (one_answer d d')
one_answer (right-ok h d) (right-bad g d') = ok_fail (one_answer d d')
one_answer (right-bad h d) (left-ok g d') = clash _ g h
one_answer (right-bad h d) (left-bad g d') = clash _ g h
one_answer (right-bad h d) (right-ok g d') = fail_ok (one_answer d d')
one_answer (right-bad h d) (right-bad g d') = one_answer d d'
one_answer (many-end h) (many-end g) = refl
one_answer (many-end h) (many-ok g d' e') = clash _ g h
one_answer (many-end h) (many-bad g d') = clash _ g h
one_answer (many-end h) (many-stops g d' e') = clash _ g h
one_answer (many-ok h d e) (many-end g) = clash _ h g
one_answer (many-ok h d e) (many-ok g d' e') = pairs (one_answer d d') (one_answer e (moved (one_answer d d') e'))
one_answer (many-ok h d e) (many-bad g d') = ok_fail (one_answer d d')
one_answer (many-ok h d e) (many-stops g d' e') = ok_fail (one_answer e (moved (one_answer d d') e'))
one_answer (many-bad h d) (many-end g) = clash _ h g
one_answer (many-bad h d) (many-ok g d' e') = fail_ok (one_answer d d')
one_answer (many-bad h d) (many-bad g d') = one_answer d d'
one_answer (many-bad h d) (many-stops g d' e') = fail_ok (one_answer d d')
one_answer (many-stops h d e) (many-end g) = clash _ h g
one_answer (many-stops h d e) (many-ok g d' e') = fail_ok (one_answer e (moved (one_answer d d') e'))
one_answer (many-stops h d e) (many-bad g d') = ok_fail (one_answer d d')
one_answer (many-stops h d e) (many-stops g d' e') = one_answer e (moved (one_answer d d') e')
