-- Names that are declared, one after another.
use Rattle.std.proofs.Common.{◌≡◌, List, [], ◌∷◌, refl}
use Rattle.dc_tokens.specs.declared.token.TokenKind.TheVariants as k
use Rattle.dc_tokens.specs.declared.token.Token.{Token}
use Rattle.dc_grammar.specs.Grammar.{ref, tok}
use Rattle.dc_grammar.specs.Language as lang
use Rattle.dc_grammar.specs.Reading.{begins}
use Rattle.dc_grammar.specs.Readers.{language_reader}

pub sees_names : (ts : List Token) → begins language_reader (ref lang.names) ts ≡ begins language_reader (tok k.Name) ts
sees_names [] = refl
sees_names (t ∷ ts) = refl
