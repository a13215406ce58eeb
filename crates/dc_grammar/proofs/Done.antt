-- What a reader has read means, and it saw no more than the next token.
use Rattle.std.proofs.Common.{◌≡◌, Bool, true, false, List, [], ◌∷◌, ◌++◌, refl, ap, sym, ◌∙◌, subst, append_assoc}
use Rattle.std.proofs.lemmas.Bool.{or_left}
use Rattle.dc_grammar.specs.Grammar.{Rule, one, nil, ref, seq, alt, many, Tree, leaf, none, pair, left, right, Derives, token, nothing, name, both, first, second, no_more, one_more}
use Rattle.dc_grammar.specs.Reading.{Reader, begins, Out, ok, fail, rest, at, Parses, one-ok, one-bad, one-end, nil-ok, name-of, seq-ok, seq-bad, seq-stops, left-ok, left-bad, right-ok, right-bad, many-end, many-ok, many-bad, many-stops}
use Rattle.dc_grammar.specs.Lookahead.{LooksAhead}

-- from `used`, by what was answered: a whole text of the rule, or the front of one
abbrev pub Means : {K N T : Type 0} → Reader K N T → Rule K N → List T → Out T → Type 0
Means R r used (ok a ts) = Derives R.grammar r used a
Means {T = T} R r used (fail ts) = (more : List T) × (a : Tree T) × Derives R.grammar r (used ++ more) a

-- what was read, what it means, and that no more than the next token was seen
pub record Done {K N T : Type 0} (R : Reader K N T) (r : Rule K N) (ts : List T) (o : Out T) : Type 0 where
  pub used : List T
  pub split : ts ≡ used ++ rest o
  pub means : Means R r used o
  pub again : (t : T) (w w' : List T) → rest o ≡ t ∷ w → Parses R r (used ++ t ∷ w') (at o (t ∷ w'))

-- ---- each rule derives some text

abbrev Some_text : {K N T : Type 0} → Reader K N T → Rule K N → Type 0
Some_text {T = T} R r = (u : List T) × (a : Tree T) × Derives R.grammar r u a

one_text : {K N T : Type 0} {R : Reader K N T} → LooksAhead R → (j : K) (ks : List K) → Some_text R (one j ks)
one_text {R = R} each j ks =
    let t = each.some_token j in
    (t.0 ∷ [], leaf t.0, token (or_left (R.grammar.same j (R.grammar.kind t.0)) _ (subst (λ k. R.grammar.same j k ≡ true) (sym t.1) (each.same_self j))))

some_text_of : {K N T : Type 0} {R : Reader K N T} → LooksAhead R → (r : Rule K N) → Some_text R r
some_text_of each (one j ks) = one_text each j ks
some_text_of each nil = ([], none, nothing)
some_text_of each (ref x) = let t = each.some_text x in (t.0, t.1, name t.2)
some_text_of each (seq r s) = let t = some_text_of each r in let v = some_text_of each s in (t.0 ++ v.0, pair t.1 v.1, both t.2 v.2)
some_text_of each (alt r s) = let t = some_text_of each r in (t.0, left t.1, first t.2)
some_text_of each (many r) = ([], none, no_more)

-- the next token is the same, whatever comes after it
begins_again : {K N T : Type 0} (R : Reader K N T) (r : Rule K N) (used : List T) (t : T) (w w' : List T) → begins R r (used ++ t ∷ w) ≡ begins R r (used ++ t ∷ w')
begins_again R r [] t w w' = refl
begins_again R r (x ∷ used) t w w' = refl

begins_then : {K N T : Type 0} (R : Reader K N T) (r : Rule K N) (used : List T) (o : Out T) (b : Bool) → begins R r (used ++ rest o) ≡ b
    → (t : T) (w w' : List T) → rest o ≡ t ∷ w → begins R r (used ++ t ∷ w') ≡ b
begins_then R r used o b h t w w' e = begins_again R r used t w' w ∙ ap (λ x. begins R r (used ++ x)) (sym e) ∙ h

-- what the first part read, and then the second, up to the same token
first_again : {K N T : Type 0} (R : Reader K N T) (r : Rule K N) (used more : List T) (o p : Out T) (a : Tree T)
    → rest o ≡ more ++ rest p
    → ((t : T) (w w' : List T) → rest o ≡ t ∷ w → Parses R r (used ++ t ∷ w') (ok a (t ∷ w')))
    → (t : T) (w w' : List T) → rest p ≡ t ∷ w → Parses R r (used ++ (more ++ t ∷ w')) (ok a (more ++ t ∷ w'))
first_again R r used [] o p a s again t w w' e = again t w w' (s ∙ e)
first_again R r used (x ∷ more) o p a s again t w w' e = again x (more ++ rest p) (more ++ t ∷ w') s

-- one text after another
after : {T : Type 0} {ts us : List T} (vs a b : List T) → ts ≡ a ++ us → us ≡ b ++ vs → ts ≡ (a ++ b) ++ vs
after {ts = ts} {us = us} vs a b p q = p ∙ ap (λ x. a ++ x) q ∙ sym (append_assoc a b vs)

regroup : {K N T : Type 0} (R : Reader K N T) (r : Rule K N) (a b : List T) (t : T) (w : List T) (o : Out T) → Parses R r (a ++ (b ++ t ∷ w)) o → Parses R r ((a ++ b) ++ t ∷ w) o
regroup R r a b t w o d = subst (λ x. Parses R r x o) (sym (append_assoc a b (t ∷ w))) d

regroups : {K N T : Type 0} (R : Reader K N T) (r : Rule K N) (a b c : List T) (x : Tree T) → Derives R.grammar r (a ++ (b ++ c)) x → Derives R.grammar r ((a ++ b) ++ c) x
regroups R r a b c x d = subst (λ u. Derives R.grammar r u x) (sym (append_assoc a b c)) d

ungroups : {K N T : Type 0} (R : Reader K N T) (r : Rule K N) (a b c : List T) (x : Tree T) → Derives R.grammar r ((a ++ b) ++ c) x → Derives R.grammar r (a ++ (b ++ c)) x
ungroups R r a b c x d = subst (λ u. Derives R.grammar r u x) (append_assoc a b c) d

named : {K N T : Type 0} (R : Reader K N T) (x : N) (u : List T) (o : Out T) → Means R (R.grammar.rules x) u o → Means R (ref x) u o
named R x u (ok a ts) m = name m
named R x u (fail ts) m = (m.0, m.1, name m.2)

seen : {K N T : Type 0} (R : Reader K N T) (r s : Rule K N) {ts : List T} {b : Bool} (o : Out T) (i : Done R s ts o) → begins R r ts ≡ b
    → (t : T) (w w' : List T) → rest o ≡ t ∷ w → begins R r (i.used ++ t ∷ w') ≡ b
seen R r s {ts} {b} o i h = begins_then R r i.used o b (sym (ap (begins R r) i.split) ∙ h)

seen_both : {K N T : Type 0} (R : Reader K N T) (r : Rule K N) (u v : List T) {ts : List T} (o : Out T) → begins R r ts ≡ true → ts ≡ (u ++ v) ++ rest o
    → (t : T) (w w' : List T) → rest o ≡ t ∷ w → begins R r (u ++ (v ++ t ∷ w')) ≡ true
seen_both R r u v {ts} o h p t w w' q = ap (begins R r) (sym (append_assoc u v (t ∷ w'))) ∙ begins_then R r (u ++ v) o true (sym (ap (begins R r) p) ∙ h) t w w' q

seq_bad : {K N T : Type 0} {R : Reader K N T} → LooksAhead R → (r s : Rule K N) (u : List T) → Means R r u (fail []) → Means R (seq r s) u (fail [])
seq_bad {R = R} each r s u (more, a, d) = let v = some_text_of each s in (more ++ v.0, pair a v.1, ungroups R (seq r s) u more v.0 (pair a v.1) (both d v.2))

many_bad : {K N T : Type 0} (R : Reader K N T) (r : Rule K N) (u : List T) → Means R r u (fail []) → Means R (many r) u (fail [])
many_bad R r u (more, a, d) = (more ++ [], pair a none, ungroups R (many r) u more [] (pair a none) (one_more d no_more))

pub done : {K N T : Type 0} {R : Reader K N T} → LooksAhead R → {r : Rule K N} {ts : List T} {o : Out T} → Parses R r ts o → Done R r ts o
done {R = R} each (one-ok {t = t} h) = record { used = t ∷ []; split = refl; means = token h; again = λ t' w w' e. one-ok h }
done {R = R} each (one-bad {j} {ks} {t} {ts} h) = record {
  used = [];
  split = refl;
  means = some_text_of each (one j ks);
  again = λ t' w w' e. one-bad (begins_then R (one j ks) [] (fail (t ∷ ts)) false h t' w w' e);
}
done {R = R} each (one-end {j} {ks}) = record { used = []; split = refl; means = some_text_of each (one j ks); again = λ t' w w' e. absurd cc }
done {R = R} each nil-ok = record { used = []; split = refl; means = nothing; again = λ t' w w' e. nil-ok }
done {R = R} each (name-of {x} {ts} {o} d) =
    let i = done each d in
    record { used = i.used; split = i.split; means = named R x i.used o i.means; again = λ t w w' e. name-of (i.again t w w' e) }
done {R = R} each (seq-ok {r} {s} {ts} {us} {vs} {a} {b} d e) =
    let i = done each d in
    let k = done each e in
    record {
      used = i.used ++ k.used;
      split = after vs i.used k.used i.split k.split;
      means = both i.means k.means;
      again = λ t w w' q. regroup R (seq r s) i.used k.used t w' (ok (pair a b) (t ∷ w')) (seq-ok (first_again R r i.used k.used (ok a us) (ok b vs) a k.split i.again t w w' q) (k.again t w w' q));
    }
done {R = R} each (seq-bad {r} {s} d) =
    let i = done each d in
    record { used = i.used; split = i.split; means = seq_bad each r s i.used i.means; again = λ t w w' q. seq-bad (i.again t w w' q) }
done {R = R} each (seq-stops {r} {s} {ts} {us} {vs} {a} d e) =
    let i = done each d in
    let k = done each e in
    record {
      used = i.used ++ k.used;
      split = after vs i.used k.used i.split k.split;
      means = (k.means.0, pair a k.means.1, regroups R (seq r s) i.used k.used k.means.0 (pair a k.means.1) (both i.means k.means.2));
      again = λ t w w' q. regroup R (seq r s) i.used k.used t w' (fail (t ∷ w')) (seq-stops (first_again R r i.used k.used (ok a us) (fail vs) a k.split i.again t w w' q) (k.again t w w' q));
    }
done {R = R} each (left-ok {r} {us = us} {a = a} h d) =
    let i = done each d in
    record { used = i.used; split = i.split; means = first i.means; again = λ t w w' q. left-ok (seen R r r (ok a us) i h t w w' q) (i.again t w w' q) }
done {R = R} each (left-bad {r} {us = us} h d) =
    let i = done each d in
    record { used = i.used; split = i.split; means = (i.means.0, left i.means.1, first i.means.2); again = λ t w w' q. left-bad (seen R r r (fail us) i h t w w' q) (i.again t w w' q) }
done {R = R} each (right-ok {r} {s = s} {us = us} {a = a} h d) =
    let i = done each d in
    record { used = i.used; split = i.split; means = second i.means; again = λ t w w' q. right-ok (seen R r s (ok a us) i h t w w' q) (i.again t w w' q) }
done {R = R} each (right-bad {r} {s = s} {us = us} h d) =
    let i = done each d in
    record { used = i.used; split = i.split; means = (i.means.0, right i.means.1, second i.means.2); again = λ t w w' q. right-bad (seen R r s (fail us) i h t w w' q) (i.again t w w' q) }
done {R = R} each (many-end {r} {ts} h) = record { used = []; split = refl; means = no_more; again = λ t w w' q. many-end (begins_then R r [] (fail ts) false h t w w' q) }
done {R = R} each (many-ok {r} {ts} {us} {vs} {a} {b} h d e) =
    let i = done each d in
    let k = done each e in
    record {
      used = i.used ++ k.used;
      split = after vs i.used k.used i.split k.split;
      means = one_more i.means k.means;
      again = λ t w w' q. regroup R (many r) i.used k.used t w' (ok (pair a b) (t ∷ w')) (many-ok (seen_both R r i.used k.used (ok b vs) h (after vs i.used k.used i.split k.split) t w w' q) (first_again R r i.used k.used (ok a us) (ok b vs) a k.split i.again t w w' q) (k.again t w w' q));
    }
done {R = R} each (many-bad {r} {us = us} h d) =
    let i = done each d in
    record { used = i.used; split = i.split; means = many_bad R r i.used i.means; again = λ t w w' q. many-bad (seen R r r (fail us) i h t w w' q) (i.again t w w' q) }
done {R = R} each (many-stops {r} {ts} {us} {vs} {a} h d e) =
    let i = done each d in
    let k = done each e in
    record {
      used = i.used ++ k.used;
      split = after vs i.used k.used i.split k.split;
      means = (k.means.0, pair a k.means.1, regroups R (many r) i.used k.used k.means.0 (pair a k.means.1) (one_more i.means k.means.2));
      again = λ t w w' q. regroup R (many r) i.used k.used t w' (fail (t ∷ w')) (many-stops (seen_both R r i.used k.used (fail vs) h (after vs i.used k.used i.split k.split) t w w' q) (first_again R r i.used k.used (ok a us) (fail vs) a k.split i.again t w w' q) (k.again t w w' q));
    }
