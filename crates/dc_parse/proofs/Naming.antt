-- Names that are declared without a fault, and used without one.
use Rattle.std.proofs.Common.{◌≡◌, ℕ, ◌+◌, ◌<◌, ◌≤◌, Bool, true, false, leb, List, [], ◌∷◌, ◌++◌, length, map, refl, sym, ap, ◌∙◌, subst, append_assoc, append-nil, arith, length-append, Some, None, if◌then◌else◌}
use Rattle.std.proofs.lemmas.Bool.Decides.{nat_tests}
use Rattle.std.specs.declared.option.Option.{Option}
use Rattle.std.specs.Option.{option_or, unwrap_or}
use Rattle.std.specs.List.{IsDistinct, AllByRecursion}
use Rattle.std.specs.Str.{bytes_eq}
use Rattle.std.proofs.lemmas.List.Quantifiers.{position-Some}
use Rattle.std.proofs.lemmas.Map.Keys.{IsDistinct-push}
use Rattle.dc_tokens.specs.declared.token.TokenKind.TheVariants as k
use Rattle.dc_tokens.specs.declared.token.Token.{Token}
use Rattle.dc_grammar.specs.Kinds.{is}
use Rattle.dc_syntax.specs.Names.{has_name, place_of}
use Rattle.dc_descent.specs.declared.fault.Fault.{Fault}
use Rattle.dc_descent.specs.Faults.{declared_fault, missing, unknown, used_fault}
use Rattle.dc_descent.specs.Scopes.{spelled, place_in}
use Rattle.dc_parse.proofs.Facts.{Known}
use Rattle.dc_parse.proofs.Equal.{bytes_equivalence}

pub none_both : {A : Type 0} (d u : Option A) → option_or d u ≡ None → (d ≡ None) × (u ≡ None)
none_both None u h = (refl, h)
none_both (Some f) u h = absurd cc

no_fault : (b c : Bool) (f g : Fault) (z : Option Fault) → (if b then Some f else (if c then Some g else z)) ≡ None → (b ≡ false) × (c ≡ false) × (z ≡ None)
no_fault true c f g z h = absurd cc
no_fault false true f g z h = absurd cc
no_fault false false f g z h = (refl, refl, h)

fewer : (n : ℕ) → leb 10 n ≡ false → n < 10
fewer n h = grind (arith, nat_tests)

pub record GoodNames (names : List (List ℕ)) : Type 0 where
  pub different : IsDistinct bytes_eq names
  pub few : length names ≤ 10

pub declared_good : (text : List ℕ) (before : List (List ℕ)) (ts : List Token) → declared_fault text before ts ≡ None → GoodNames before → GoodNames (before ++ map (spelled text) ts)
declared_good text before [] h g = subst GoodNames (sym (append-nil before)) g
declared_good text before (t ∷ ts) h g =
    let s : List ℕ = spelled text t in
    let n : _ = no_fault (leb 10 (length before)) (has_name before s) _ _ (declared_fault text (before ++ s ∷ []) ts) h in
    subst GoodNames (append_assoc before (s ∷ []) (map (spelled text) ts))
    (declared_good text (before ++ s ∷ []) ts n.2 (record {
      different = IsDistinct-push bytes_equivalence before s g.different n.1;
      few = omega (arith, fewer (length before) n.0, length-append before (s ∷ []));
    }))

pub no_names : GoodNames []
unfolding IsDistinct
no_names = record { different = tt; few = omega arith }

-- ---- uses

placed : (names : List (List ℕ)) (s : List ℕ) (at : ℕ) (o : Option ℕ) → place_of names s ≡ o → missing o at ≡ None → unwrap_or o 0 < length names
placed names s at None e h = absurd cc
placed names s at (Some i) e h = (position-Some (bytes_eq s) names i [] e).0

is_name : (t : Token) → t.kind ≡ k.Name → is k.Name t.kind ≡ true
is_name t e = subst (λ j. is k.Name j ≡ true) (sym e) refl

pub known_name : (text : List ℕ) (names : List (List ℕ)) (t : Token) → unknown text names t ≡ None → Known (length names) (place_in text names) t
known_name text names t h e =
    placed names (spelled text t) t.at (place_of names (spelled text t)) refl
    (sym (ap (λ b. if b then missing (place_of names (spelled text t)) t.at else None) (is_name t e)) ∙ h)

pub used_known : (text : List ℕ) (names : List (List ℕ)) (ts : List Token) → used_fault text names ts ≡ None → AllByRecursion (Known (length names) (place_in text names)) ts
used_known text names [] h = tt
used_known text names (t ∷ ts) h =
    let n : _ = none_both (unknown text names t) (used_fault text names ts) h in
    (known_name text names t n.0, used_known text names ts n.1)
