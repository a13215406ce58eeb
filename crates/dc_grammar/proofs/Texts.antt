-- Some text of a rule, over the kinds of the language's tokens.
use Rattle.std.proofs.Common.{List, [], ◌∷◌, ◌++◌}
use Rattle.std.proofs.lemmas.Bool.{or_left}
use Rattle.dc_tokens.specs.declared.token.TokenKind.{TokenKind}
use Rattle.dc_tokens.specs.declared.token.Token.{Token}
use Rattle.dc_grammar.specs.Kinds.{is}
use Rattle.dc_grammar.specs.Grammar.{Rule, one, nil, ref, seq, alt, many, Grammar, Tree, leaf, none, pair, left, right, Derives, token, nothing, name, both, first, second, no_more}
use Rattle.dc_grammar.proofs.AllKinds.{same_self}

-- the grammar of these rules over the language's tokens
abbrev pub over : {N : Type 0} → (N → Rule TokenKind N) → Grammar TokenKind N Token
over rules = record { kind = λ t. t.kind; same = is; rules = rules }

abbrev pub Text : {N : Type 0} → Grammar TokenKind N Token → Rule TokenKind N → Type 0
Text G r = (u : List Token) × (a : Tree Token) × Derives G r u a

token_of : TokenKind → Token
token_of j = record { kind = j; at = 0; end = 0; value = 0 }

pub text_tok : {N : Type 0} {rules : N → Rule TokenKind N} (j : TokenKind) → Text (over rules) (one j [])
unfolding token_of
text_tok j = (token_of j ∷ [], leaf (token_of j), token (or_left (is j j) _ (same_self j)))

pub text_seq : {N : Type 0} {rules : N → Rule TokenKind N} {r s : Rule TokenKind N} → Text (over rules) r → Text (over rules) s → Text (over rules) (seq r s)
text_seq p q = (p.0 ++ q.0, pair p.1 q.1, both p.2 q.2)

pub text_left : {N : Type 0} {rules : N → Rule TokenKind N} {r s : Rule TokenKind N} → Text (over rules) r → Text (over rules) (alt r s)
text_left p = (p.0, left p.1, first p.2)

pub text_right : {N : Type 0} {rules : N → Rule TokenKind N} {r s : Rule TokenKind N} → Text (over rules) s → Text (over rules) (alt r s)
text_right p = (p.0, right p.1, second p.2)

pub text_name : {N : Type 0} {rules : N → Rule TokenKind N} (x : N) → Text (over rules) (rules x) → Text (over rules) (ref x)
text_name x p = (p.0, p.1, name p.2)

pub text_nil : {N : Type 0} {rules : N → Rule TokenKind N} → Text (over rules) nil
text_nil = ([], none, nothing)

pub text_many : {N : Type 0} {rules : N → Rule TokenKind N} {r : Rule TokenKind N} → Text (over rules) (many r)
text_many = ([], none, no_more)
