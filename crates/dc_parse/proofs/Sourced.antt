-- The statements of a source, in its derivation.
use Rattle.std.proofs.Common.{◌≡◌, List, [], ◌∷◌, ◌++◌}
use Rattle.std.specs.List.{AllByRecursion}
use Rattle.dc_tokens.specs.declared.token.Token.{Token}
use Rattle.dc_grammar.specs.Grammar.{ref, many, Tree, Derives, token, name, both}
use Rattle.dc_grammar.specs.Language as lang
use Rattle.dc_grammar.specs.Language.{language}
use Rattle.dc_descent.specs.Sources.{parts_of}
use Rattle.dc_parse.proofs.Counted.{each_front, each_rest}
use Rattle.dc_parse.proofs.Facts.{Small}
use Rattle.dc_parse.proofs.Tame.{Few, few_front, few_rest}

pub record Inner (a : Tree Token) : Type 0 where
  pub tokens : List Token
  pub derived : Derives language (many (ref lang.stmt)) tokens (parts_of a).body
  pub few : Few tokens
  pub small : AllByRecursion Small tokens

inner_front : (u v : List Token) → Few (u ++ v) × AllByRecursion Small (u ++ v) → Few u × AllByRecursion Small u
inner_front u v h = (few_front u v h.0, each_front Small u v h.1)

inner_rest : (u v : List Token) → Few (u ++ v) × AllByRecursion Small (u ++ v) → Few v × AllByRecursion Small v
inner_rest u v h = (few_rest u v h.0, each_rest Small u v h.1)

pub source_body : {ts : List Token} {a : Tree Token} → Derives language (ref lang.source) ts a → Few ts → AllByRecursion Small ts → Inner a
source_body (name (both (token {t = t1} h1) (both (token {t = t2} h2) (both (token {t = t3} h3) (both {u = up} dp (both (token {t = t4} h4) (both (token {t = t5} h5) (both {u = ul} dl (both {u = us} ds (token {t = t6} h6)))))))))) f s =
    let i1 : Few (up ++ t4 ∷ t5 ∷ (ul ++ (us ++ t6 ∷ []))) × AllByRecursion Small (up ++ t4 ∷ t5 ∷ (ul ++ (us ++ t6 ∷ []))) = inner_rest (t1 ∷ t2 ∷ t3 ∷ []) _ (f, s) in
    let i2 : Few (ul ++ (us ++ t6 ∷ [])) × AllByRecursion Small (ul ++ (us ++ t6 ∷ [])) = inner_rest (t4 ∷ t5 ∷ []) _ (inner_rest up _ i1) in
    let i3 : Few us × AllByRecursion Small us = inner_front us (t6 ∷ []) (inner_rest ul _ i2) in
    record { tokens = us; derived = ds; few = i3.0; small = i3.1 }
