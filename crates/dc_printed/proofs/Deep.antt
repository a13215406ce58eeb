-- The tokens of a source nest too deep exactly where an expression or a condition of it has more than 64 operators, or more than 64 brackets are open.
use Rattle.std.proofs.Common.{◌≡◌, ℕ, suc, ◌<◌, ◌≤◌, Bool, true, false, leb, List, [], ◌∷◌, length, take, Some, None, refl, arith, inl, inr}
use Rattle.std.specs.Prelude.{fold}
use Rattle.std.specs.declared.option.Option.{Option}
use Rattle.std.specs.Option.{unwrap_or}
use Rattle.std.specs.Str.{bytes_eq}
use Rattle.std.proofs.lemmas.List.Quantifiers.{position-Some}
use Rattle.std.specs.List.{AllByRecursion}
use Rattle.std.proofs.lemmas.Bool.{leb-true, leb-false}
use Rattle.dc_tokens.specs.declared.token.Token.{Token}
use Rattle.dc_tokens.specs.Texts.{Tokens}
use Rattle.dc_grammar.specs.Grammar.{Tree, Derives, ref}
use Rattle.dc_grammar.specs.Language.{language, source}
use Rattle.dc_grammar.specs.Depth.{IsDeep, open_brackets, operators_so_far, operators_with}
use Rattle.dc_grammar.specs.Verdicts.{Shallow}
use Rattle.dc_syntax.specs.Names.{place_of}
use Rattle.dc_descent.specs.Scopes.{spelled, place_in}
use Rattle.dc_descent.specs.Sources.{parts_of, names_of}
use Rattle.dc_parse.proofs.Facts.{Known}
use Rattle.dc_parse.proofs.Shallows.{small_tokens, few_of}
use Rattle.dc_parse.proofs.Sourced.{source_body}
use Rattle.dc_parse.proofs.Tame.{good_stmts}
use Rattle.dc_printed.specs.Laws.{HasFew}
use Rattle.dc_printed.proofs.Calm.{front_most, calm_source}

few_open : (ts : List Token) → (IsDeep ts → ⊥) → open_brackets ts ≤ 64
few_open ts h = go (leb (open_brackets ts) 64) refl
  where
    go : (b : Bool) → leb (open_brackets ts) 64 ≡ b → open_brackets ts ≤ 64
    go true e = leb-true (open_brackets ts) 64 e
    go false e = absurd (h (inl (leb-false (open_brackets ts) 64 e)))

-- each name has a place below one more than there are names
placed : (names : List (List ℕ)) (s : List ℕ) (o : Option ℕ) → place_of names s ≡ o → unwrap_or o 0 < suc (length names)
placed names s None e = omega arith
placed names s (Some i) e = let l = (position-Some (bytes_eq s) names i [] e).0 in omega arith

all_known : (text : List ℕ) (names : List (List ℕ)) (ts : List Token) → AllByRecursion (Known (suc (length names)) (place_in text names)) ts
all_known text names [] = tt
all_known text names (t ∷ ts) = (λ e. placed names (spelled text t) (place_of names (spelled text t)) refl, all_known text names ts)

module _ (text : List ℕ) (ts : List Token) (a : Tree Token) where
  pub shallow_few : Tokens 0 text ts → Derives language (ref source) ts a → Shallow IsDeep ts (length ts) → HasFew text ts a
  shallow_few t d s =
      let i = source_body d (few_of ts s) (small_tokens t) in
      let g = good_stmts (suc (length (names_of text (parts_of a)))) (place_in text (names_of text (parts_of a))) i.derived (record {
        known = all_known text (names_of text (parts_of a)) i.tokens;
        small = i.small;
        few = i.few;
      }) in
      record { operators = g.limited; brackets = λ k l. few_open (take k ts) (s k l) }

  so_far : (us : List Token) → operators_so_far us ≡ fold operators_with 0 us
  unfolding operators_so_far
  so_far us = refl

  pub few_shallow : Derives language (ref source) ts a → HasFew text ts a → Shallow IsDeep ts (length ts)
  few_shallow d h j l (inl o) = let b = h.brackets j l in omega arith
  few_shallow d h j l (inr o) =
      let c = calm_source (place_in text (names_of text (parts_of a))) d h.operators in
      let low = c.low in
      let f = front_most 0 ts j in
      let e = so_far (take j ts) in omega arith
