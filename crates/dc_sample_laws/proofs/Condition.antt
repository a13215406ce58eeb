-- The condition of a pair is read: its tokens, its tree, and its cases.
use Rattle.std.proofs.Common.{◌≡◌, ℕ, ◌+◌, ◌≤◌, Bool, true, false, List, [], ◌∷◌, ◌++◌, map, length, take, codes, None, refl, sym, ap, ◌∙◌, arith, inl, inr}
use Rattle.std.specs.Prelude.{Option}
use Rattle.std.specs.Option.{option_or}
use Rattle.dc_tokens.specs.declared.token.TokenKind.TheVariants as k
use Rattle.dc_tokens.specs.declared.token.Token.{Token}
use Rattle.dc_tokens.specs.Spelling.{word_kind}
use Rattle.dc_tokens.specs.Texts.{Tokens}
use Rattle.dc_tokens.proofs.Steps.{end_at}
use Rattle.dc_grammar.specs.Kinds.{is}
use Rattle.dc_grammar.specs.Grammar.{ref, Tree, leaf, none, pair, left, right, has, Derives, token, name, both, first, second, no_more, one_more}
use Rattle.dc_grammar.specs.Language.{language, expr, cond, fact}
use Rattle.dc_grammar.specs.Depth.{IsDeep, open_brackets, operators_so_far}
use Rattle.dc_grammar.specs.Verdicts.{Shallow}
use Rattle.dc_syntax.specs.declared.tree.Expr.{Expr}
use Rattle.dc_syntax.specs.declared.tree.Expr.TheVariants.{Num, Var}
use Rattle.dc_syntax.specs.declared.tree.Rel.TheVariants.{Le}
use Rattle.dc_syntax.specs.declared.tree.Cond.{Cond}
use Rattle.dc_syntax.specs.declared.tree.Cond.TheVariants.{Cmp, And}
use Rattle.dc_affine.specs.declared.atom.Atom.{Atom}
use Rattle.dc_affine.specs.declared.form.FormFault.{FormFault}
use Rattle.dc_affine.specs.Forms.{Formed}
use Rattle.dc_affine.specs.Table.{Fact, fact as fact_of, relation, crossed, facts_step, facts_of}
use Rattle.dc_affine.specs.Atoms.{comparison_step, comparison_fault, dnf_fault, atom_of, at_least, conjunctions_of}
use Rattle.dc_affine.proofs.FormLaws.{formed-Num, formed-Var}
use Rattle.dc_poly.specs.Sums.{plus, negated}
use Rattle.dc_parse.specs.Outcomes.{says, first_of, tree}
use Rattle.dc_parse.specs.Judges.{form_at, judge_condition}
use Rattle.dc_parse.specs.Answers.{ConditionOutcome}
use Rattle.dc_parse.proofs.Folds.{at_cmp, at_and}
use Rattle.dc_printed.proofs.Calm.{front_most}
use Rattle.dc_printed.proofs.Depths.{front_below}
use Rattle.dc_printed.proofs.Words.{Reads, joined, token_of, gap_read}
use Rattle.dc_printed.proofs.Says.{says_number, says_word, says_long}
use Rattle.dc_printed.proofs.Signs as sign
use Rattle.dc_sample_laws.specs.Procedures.{sample_condition, sample_cases}
use Rattle.dc_sample_laws.proofs.Forms.{sides}

abbrev names : List (List ℕ)
names = codes "n" ∷ []

-- ---- tokens

abbrev zero_token : Token
zero_token = token_of 0 k.Number (codes "0")

abbrev most_token : Token
most_token = token_of 15 k.Number (codes "50")

abbrev and_token : Token
and_token = token_of 7 k.And (codes "&&")

abbrev name_token : ℕ → Token
name_token at = token_of at k.Name (codes "n")

abbrev sign_token : ℕ → Token
sign_token at = token_of at k.Le (codes "<=")

abbrev tokens : List Token
tokens = zero_token ∷ sign_token 2 ∷ name_token 5 ∷ and_token ∷ name_token 10 ∷ sign_token 12 ∷ most_token ∷ []

-- a token, a space, and what comes then
then : (at : ℕ) (w t rest : List ℕ) (s : Token) (ts : List Token) → Reads at w ((32 ∷ t) ++ rest) (s ∷ []) → Reads (at + length w + 1) t rest ts → Reads at (w ++ 32 ∷ t) rest (s ∷ ts)
then at w t rest s ts h g = joined at w (32 ∷ t) rest (s ∷ []) ts h (joined (at + length w) (32 ∷ []) t rest [] ts (gap_read (at + length w) 32 (t ++ rest) refl) g)

name_read : (at : ℕ) (rest : List ℕ) → Reads at (codes "n") (32 ∷ rest) (name_token at ∷ [])
unfolding word_kind
name_read at rest = let s = says_word at (codes "n") (32 ∷ rest) k.Name refl refl (λ w. refl) refl refl in s.reads

sign_read : (at : ℕ) (rest : List ℕ) → Reads at (codes "<=") rest (sign_token at ∷ [])
sign_read at rest = let s = says_long at 60 61 rest k.Le k.Le [] sign.at_most refl in s.reads

and_read : (rest : List ℕ) → Reads 7 (codes "&&") rest (and_token ∷ [])
and_read rest = let s = says_long 7 38 38 rest k.And k.And [] sign.and refl in s.reads

zero_read : (rest : List ℕ) → Reads 0 (codes "0") (32 ∷ rest) (zero_token ∷ [])
zero_read rest = let s = says_number 0 (codes "0") (32 ∷ rest) refl (omega arith) refl in s.reads

most_read : Reads 15 (codes "50") [] (most_token ∷ [])
most_read = let s = says_number 15 (codes "50") [] refl (omega arith) refl in s.reads

all_read : Reads 0 sample_condition [] tokens
all_read =
    then 0 (codes "0") (codes "<= n && n <= 50") [] zero_token _ (zero_read _)
    (then 2 (codes "<=") (codes "n && n <= 50") [] (sign_token 2) _ (sign_read 2 _)
    (then 5 (codes "n") (codes "&& n <= 50") [] (name_token 5) _ (name_read 5 _)
    (then 7 (codes "&&") (codes "n <= 50") [] and_token _ (and_read _)
    (then 10 (codes "n") (codes "<= 50") [] (name_token 10) _ (name_read 10 _)
    (then 12 (codes "<=") (codes "50") [] (sign_token 12) _ (sign_read 12 _) most_read)))))

tokens_read : Tokens 0 sample_condition tokens
tokens_read = let f = all_read.read in f [] (end_at _ [] (omega arith))

-- ---- the tree

abbrev number_tree : Token → Tree Token
number_tree t = pair (pair (right (left (leaf t))) none) none

abbrev name_tree : Token → Tree Token
name_tree t = pair (pair (right (right (left (leaf t)))) none) none

abbrev fact_tree : Tree Token → Token → Tree Token → Tree Token
fact_tree a s b = right (right (right (right (pair a (pair (leaf s) b)))))

abbrev low_tree : Tree Token
low_tree = fact_tree (number_tree zero_token) (sign_token 2) (name_tree (name_token 5))

abbrev high_tree : Tree Token
high_tree = fact_tree (name_tree (name_token 10)) (sign_token 12) (number_tree most_token)

abbrev whole_tree : Tree Token
whole_tree = pair (pair low_tree (pair (pair (leaf and_token) high_tree) none)) none

number_derives : (t : Token) → has is (k.Number ∷ []) t.kind ≡ true → Derives language (ref expr) (t ∷ []) (number_tree t)
number_derives t h = name (both (name (both (name (second (first (token h)))) no_more)) no_more)

name_derives : (t : Token) → has is (k.Name ∷ []) t.kind ≡ true → Derives language (ref expr) (t ∷ []) (name_tree t)
name_derives t h = name (both (name (both (name (second (second (first (token h))))) no_more)) no_more)

low_derives : Derives language (ref fact) (zero_token ∷ sign_token 2 ∷ name_token 5 ∷ []) low_tree
low_derives = name (second (second (second (second (both (number_derives zero_token refl) (both (token refl) (name_derives (name_token 5) refl)))))))

high_derives : Derives language (ref fact) (name_token 10 ∷ sign_token 12 ∷ most_token ∷ []) high_tree
high_derives = name (second (second (second (second (both (name_derives (name_token 10) refl) (both (token refl) (number_derives most_token refl)))))))

whole_derives : Derives language (ref cond) tokens whole_tree
whole_derives = name (both (name (both low_derives (one_more (both (token refl) high_derives) no_more))) no_more)

-- ---- it nests nowhere

few_open : (j : ℕ) → open_brackets (take j tokens) ≤ 64
unfolding open_brackets
few_open j = let h = front_below 0 tokens j in omega arith

few_operators : (j : ℕ) → operators_so_far (take j tokens) ≤ 64
unfolding operators_so_far
few_operators j = let h = front_most 0 tokens j in omega arith

is_shallow : Shallow IsDeep tokens (length tokens)
is_shallow j l (inl d) = let h = few_open j in omega arith
is_shallow j l (inr d) = let h = few_operators j in omega arith

-- ---- the cases

abbrev low : Cond
low = Cmp (Num 0) Le (Var 0)

abbrev high : Cond
high = Cmp (Var 0) Le (Num 50)

low_faultless : comparison_fault 1 low ≡ None
low_faultless = at_cmp (Option FormFault) (comparison_step 1) (Num 0) Le (Var 0) ∙ (λ j. sides (formed-Num 1 0 j) (formed-Var 1 0 j))

high_faultless : comparison_fault 1 high ≡ None
high_faultless = at_cmp (Option FormFault) (comparison_step 1) (Var 0) Le (Num 50) ∙ (λ j. sides (formed-Var 1 0 j) (formed-Num 1 50 j))

both_faultless : comparison_fault 1 (And low high) ≡ None
both_faultless = at_and (Option FormFault) (comparison_step 1) low high ∙ (λ j. option_or (low_faultless j) (high_faultless j))

compared_facts : (a b : Expr) → facts_of (Cmp a Le b) false ≡ relation a Le b
compared_facts a b = ap (λ (f : Bool → List (List Fact)). f false) (at_cmp (Bool → List (List Fact)) facts_step a Le b)

both_facts : facts_of (And low high) false ≡ (fact_of (Var 0) (Num 0) 0 ∷ fact_of (Num 50) (Var 0) 0 ∷ []) ∷ []
both_facts =
    ap (λ (f : Bool → List (List Fact)). f false) (at_and (Bool → List (List Fact)) facts_step low high)
    ∙ (λ j. crossed (compared_facts (Num 0) (Var 0) j) (compared_facts (Var 0) (Num 50) j))

faultless : dnf_fault 1 (And low high) false ≡ None
faultless = rw (both_faultless, both_facts) refl

-- the atom of a difference
abbrev gap_atom : Formed → Formed → Atom
gap_atom a b = at_least 1 (plus a.terms (negated b.terms)) 0

cases_are : conjunctions_of 1 (And low high) false ≡ sample_cases
cases_are =
    ap (map (map (atom_of 1))) both_facts
    ∙ (λ j. (gap_atom (formed-Var 1 0 j) (formed-Num 1 0 j) ∷ gap_atom (formed-Num 1 50 j) (formed-Var 1 0 j) ∷ []) ∷ [])

-- ---- the whole

judged : judge_condition names sample_condition whole_tree ≡ says sample_cases
judged =
    ap (λ o. first_of (form_at 0 o) (says (conjunctions_of 1 (And low high) false))) faultless
    ∙ ap says cases_are

pub condition_read : ConditionOutcome names sample_condition (says sample_cases)
condition_read = tree (omega arith) tokens tokens_read whole_tree (whole_derives, is_shallow) (sym judged)
