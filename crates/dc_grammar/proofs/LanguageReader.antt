-- One token of lookahead serves the reader of the whole language.
use Rattle.std.proofs.Common.{◌≡◌, ℕ, true, refl}
use Rattle.dc_tokens.specs.declared.token.TokenKind.TheVariants as k
use Rattle.dc_grammar.specs.Kinds.{is, kinds}
use Rattle.dc_grammar.specs.Grammar.{has}
use Rattle.dc_grammar.specs.Language.{Name, source, names, stmt, assigned, choice, block, expr, term, unary, cond, conj, fact, rules, language}
use Rattle.dc_grammar.specs.Reading.{nullable, firsts}
use Rattle.dc_grammar.specs.Readers.{language_reader, begins_of, follow_of}
use Rattle.dc_grammar.specs.Lookahead.{every, implies, then_, ll1, below, LooksAhead}
use Rattle.dc_grammar.proofs.AllKinds.{all_kinds, same_self, some_token}
use Rattle.dc_grammar.proofs.Texts.{Text, text_tok, text_seq, text_left, text_right, text_name, text_nil, text_many}

text_unary : Text language (rules unary)
text_unary = text_right (text_left (text_tok k.Number))

text_term : Text language (rules term)
text_term = text_seq (text_name unary text_unary) text_many

text_expr : Text language (rules expr)
text_expr = text_seq (text_name term text_term) text_many

text_fact : Text language (rules fact)
text_fact = text_right (text_left (text_tok k.True))

text_conj : Text language (rules conj)
text_conj = text_seq (text_name fact text_fact) text_many

some_text : (x : Name) → Text language (rules x)
some_text source = text_seq (text_tok k.Proc) (text_seq (text_tok k.Name) (text_seq (text_tok k.LParen) (text_seq (text_right text_nil) (text_seq (text_tok k.RParen) (text_seq (text_tok k.LBrace) (text_seq (text_right text_nil) (text_seq text_many (text_tok k.RBrace))))))))
some_text names = text_seq (text_tok k.Name) text_many
some_text stmt = text_left (text_seq (text_tok k.Skip) (text_tok k.Semi))
some_text assigned = text_left (text_name expr text_expr)
some_text choice = text_left (text_tok k.Star)
some_text block = text_seq (text_tok k.LBrace) (text_seq text_many (text_tok k.RBrace))
some_text expr = text_expr
some_text term = text_term
some_text unary = text_unary
some_text cond = text_seq (text_name conj text_conj) text_many
some_text conj = text_conj
some_text fact = text_fact

empty_right : (x : Name) → implies (nullable language_reader (rules x)) (language_reader.empty x) ≡ true
unfolding implies
empty_right source = refl
empty_right names = refl
empty_right stmt = refl
empty_right assigned = refl
empty_right choice = refl
empty_right block = refl
empty_right expr = refl
empty_right term = refl
empty_right unary = refl
empty_right cond = refl
empty_right conj = refl
empty_right fact = refl

begins_right : (x : Name) → every kinds (λ k. implies (firsts language_reader (rules x) k) (has is (begins_of x) k)) ≡ true
unfolding every implies
begins_right source = refl
begins_right names = refl
begins_right stmt = refl
begins_right assigned = refl
begins_right choice = refl
begins_right block = refl
begins_right expr = refl
begins_right term = refl
begins_right unary = refl
begins_right cond = refl
begins_right conj = refl
begins_right fact = refl

one_way : (x : Name) → ll1 language_reader kinds (rules x) (has is (follow_of x)) ≡ true
unfolding ll1 every implies then_
one_way source = refl
one_way names = refl
one_way stmt = refl
one_way assigned = refl
one_way choice = refl
one_way block = refl
one_way expr = refl
one_way term = refl
one_way unary = refl
one_way cond = refl
one_way conj = refl
one_way fact = refl

rank : Name → ℕ
rank source = 0
rank names = 0
rank stmt = 0
rank block = 0
rank unary = 0
rank term = 1
rank expr = 2
rank fact = 3
rank conj = 4
rank cond = 5
rank choice = 6
rank assigned = 6

no_way_back : (x : Name) → below language_reader rank (rank x) (rules x) ≡ true
unfolding below rank
no_way_back source = refl
no_way_back names = refl
no_way_back stmt = refl
no_way_back assigned = refl
no_way_back choice = refl
no_way_back block = refl
no_way_back expr = refl
no_way_back term = refl
no_way_back unary = refl
no_way_back cond = refl
no_way_back conj = refl
no_way_back fact = refl

pub language_ahead : LooksAhead language_reader
language_ahead = record {
  kinds = kinds;
  all_kinds = all_kinds;
  same_self = same_self;
  rank = rank;
  no_way_back = no_way_back;
  some_token = some_token;
  some_text = some_text;
  empty_right = empty_right;
  begins_right = begins_right;
  one_way = one_way;
}
