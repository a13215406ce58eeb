-- The text of statements reads as the statements.
use Rattle.std.specs.List.{AllByRecursion}
use Rattle.std.proofs.Common.{◌≡◌, ℕ, ◌+◌, ◌<◌, true, ◌&&◌, ltb, List, [], ◌∷◌, ◌++◌, length, drop, get_or, Option, Some, None, refl, sym, ap, subst, ◌∙◌, arith, append_assoc, length-append}
use Rattle.std.specs.Prelude.{slice_index_or}
use Rattle.dc_tokens.specs.declared.token.TokenKind.{TokenKind}
use Rattle.dc_tokens.specs.declared.token.TokenKind.TheVariants as k
use Rattle.dc_tokens.specs.declared.token.Token.{Token}
use Rattle.dc_grammar.specs.Kinds.{is}
use Rattle.dc_grammar.specs.Grammar.{Rule, nil, ref, seq, alt, many, tok, Tree, leaf, none, pair, left, right, nothing, name, first, second, no_more, one_more}
use Rattle.dc_grammar.specs.Language.{Name, language, stmt, block, assigned, choice}
use Rattle.dc_syntax.specs.declared.tree.Expr.{Expr}
use Rattle.dc_syntax.specs.declared.tree.Cond.{Cond}
use Rattle.dc_syntax.specs.declared.tree.Stmt.{Stmt, Stmt-F, roll-Stmt}
use Rattle.dc_syntax.specs.declared.tree.Stmt.TheVariants as s
use Rattle.dc_syntax.specs.declared.tree.Stmt.TheOpen as G
use Rattle.dc_syntax.specs.Trees.{EachStmt}
use Rattle.dc_syntax.proofs.Inductions.{Stmt-induction}
use Rattle.dc_syntax.specs.declared.layer.Layer.TheVariants.{Loose}
use Rattle.dc_syntax.specs.Text.{expr_text, cond_text, stmt_text, stmts_text}
use Rattle.dc_descent.specs.Statements.{choice_of, branch_by, loop_by, stmt_of, stmts_of, block_of}
use Rattle.dc_tokens.proofs.Front.{and_left, and_right}
use Rattle.dc_printed.specs.Fits.{IsName, AreNames, fits, cond_fits, stmt_fits, stmts_fit}
use Rattle.dc_printed.proofs.Parts.{below}
use Rattle.dc_printed.proofs.StmtParts.{text-Skip, text-Assign, text-AnyOf, text-Between, text-Tick, text-Assume, text-If, text-IfAny, text-While, text-WhileAny, fits-Assign, fits-AnyOf, fits-Between, fits-Tick, fits-Assume, fits-If, fits-IfAny, fits-While, fits-WhileAny}
use Rattle.dc_printed.proofs.Words as words
use Rattle.dc_printed.proofs.Words.{nothing_read, Breaks, token_of}
use Rattle.dc_printed.proofs.Signs as sign
use Rattle.dc_printed.proofs.Says.{Says, moved, followed, spaced, spaced_after, says_word, says_sign}
use Rattle.dc_printed.proofs.Exprs.{SaysExpr, Finds, later, here, printed_expr}
use Rattle.dc_printed.proofs.Conds.{SaysCond, printed_cond}

-- one part after another, with what can be inferred left out
infixr 6 ◌▷◌
pub ◌▷◌ : {at : ℕ} {t u rest : List ℕ} {r s : Rule TokenKind Name} {ts us : List Token} {a b : Tree Token}
    → Says at t (u ++ rest) r ts a → Says (at + length t) u rest s us b → Says at (t ++ u) rest (seq r s) (ts ++ us) (pair a b)
h ▷ g = followed _ _ _ _ _ _ _ _ _ _ h g

-- a sign alone, and a keyword
pub sign_at : {at b : ℕ} {rest : List ℕ} {kind : TokenKind} → sign.IsSign b kind (get_or rest 0 0) → is kind kind ≡ true
    → Says at (b ∷ []) rest (tok kind) (token_of at kind (b ∷ []) ∷ []) (leaf (token_of at kind (b ∷ [])))
sign_at {at} {b} {rest} {kind} s i = says_sign at b rest kind kind [] s (rw i refl)

-- a space or a line feed before a part
pub spaced_at : {at : ℕ} {t rest : List ℕ} {r : Rule TokenKind Name} {ts : List Token} {a : Tree Token} → Says (at + 1) t rest r ts a → Says at (32 ∷ t) rest r ts a
spaced_at {at} h = spaced at 32 _ _ _ _ _ refl (moved (omega arith) h)

pub lined_at : {at : ℕ} {t rest : List ℕ} {r : Rule TokenKind Name} {ts : List Token} {a : Tree Token} → Says (at + 1) t rest r ts a → Says at (10 ∷ t) rest r ts a
lined_at {at} h = spaced at 10 _ _ _ _ _ refl (moved (omega arith) h)

-- the line feed at the end of a line
pub ended : {at : ℕ} {t rest : List ℕ} {r : Rule TokenKind Name} {ts : List Token} {a : Tree Token} → Says at t (10 ∷ rest) r ts a → Says at (t ++ 10 ∷ []) rest r ts a
ended h = spaced_after _ 10 _ _ _ _ _ refl h

pub reworded : {at : ℕ} {t u rest : List ℕ} {r : Rule TokenKind Name} {ts : List Token} {a : Tree Token} → t ≡ u → Says at t rest r ts a → Says at u rest r ts a
reworded {at} {rest = rest} {r} {ts} {a} e h = subst (λ v. Says at v rest r ts a) e h

pub named : {at : ℕ} {t rest : List ℕ} {x : Name} {ts : List Token} {a : Tree Token} → Says at t rest (language.rules x) ts a → Says at t rest (ref x) ts a
named h = record { reads = h.reads; derives = name h.derives }

pub chosen : {at : ℕ} {t rest : List ℕ} {r s : Rule TokenKind Name} {ts : List Token} {a : Tree Token} → Says at t rest r ts a → Says at t rest (alt r s) ts (left a)
chosen h = record { reads = h.reads; derives = first h.derives }

pub passed : {at : ℕ} {t rest : List ℕ} {r s : Rule TokenKind Name} {ts : List Token} {a : Tree Token} → Says at t rest s ts a → Says at t rest (alt r s) ts (right a)
passed h = record { reads = h.reads; derives = second h.derives }

-- ---- what a text at an offset reads as

pub record SaysStmt (p : Token → ℕ) (at : ℕ) (t rest : List ℕ) (S : Stmt) : Type 0 where
  pub tokens : List Token
  pub tree : Tree Token
  pub says : Says at t rest (ref stmt) tokens tree
  pub is : stmt_of p tree ≡ S

pub record SaysStmts (p : Token → ℕ) (at : ℕ) (t rest : List ℕ) (A : List Stmt) : Type 0 where
  pub tokens : List Token
  pub tree : Tree Token
  pub says : Says at t rest (many (ref stmt)) tokens tree
  pub is : stmts_of p tree ≡ A

record SaysBlock (p : Token → ℕ) (at : ℕ) (t rest : List ℕ) (A : List Stmt) : Type 0 where
  tokens : List Token
  tree : Tree Token
  says : Says at t rest (ref block) tokens tree
  is : block_of p tree ≡ A

-- `{`, the lines, `}`
abbrev blocked : List ℕ → List ℕ
blocked t = 123 ∷ 10 ∷ (t ++ 125 ∷ [])

says_block : (p : Token → ℕ) (at : ℕ) (t rest : List ℕ) (A : List Stmt) → SaysStmts p (at + 1 + 1) t (125 ∷ rest) A → SaysBlock p at (blocked t) rest A
says_block p at t rest A h =
    let d = sign_at {at = at} {b = 123} (sign.open_brace _) refl ▷ lined_at (h.says ▷ sign_at (sign.close_brace _) refl) in
    record { tokens = _; tree = _; says = named d; is = h.is }

-- ---- statements by their kinds

skip_says : (p : Token → ℕ) (at : ℕ) (rest : List ℕ) → SaysStmt p at (115 ∷ 107 ∷ 105 ∷ 112 ∷ 59 ∷ 10 ∷ []) rest s.Skip
skip_says p at rest =
    let w = says_word at (115 ∷ 107 ∷ 105 ∷ 112 ∷ []) (59 ∷ 10 ∷ rest) k.Skip refl sign.word-skip (λ w. refl) refl refl in
    let d = ended (w ▷ sign_at (sign.semi _) refl) in
    record { tokens = _; tree = _; says = named (chosen d); is = refl }

tick_says : (p : Token → ℕ) (at : ℕ) (t rest : List ℕ) (e : Expr) → SaysExpr p Loose (at + 4 + 1) t (59 ∷ 10 ∷ rest) e
    → SaysStmt p at (116 ∷ 105 ∷ 99 ∷ 107 ∷ 32 ∷ (t ++ 59 ∷ 10 ∷ [])) rest (s.Tick e)
tick_says p at t rest e h =
    let w = says_word at (116 ∷ 105 ∷ 99 ∷ 107 ∷ []) ((32 ∷ (t ++ 59 ∷ [])) ++ 10 ∷ rest) k.Tick refl sign.word-tick (λ w. refl) refl refl in
    let d = ended (w ▷ spaced_at (h.says ▷ sign_at (sign.semi _) refl)) in
    record { tokens = _; tree = _; says = named (passed (chosen (reworded (ap (λ v. 116 ∷ 105 ∷ 99 ∷ 107 ∷ 32 ∷ v) (append_assoc t (59 ∷ []) (10 ∷ []))) d))); is = ap s.Tick h.is }

assume_says : (p : Token → ℕ) (at : ℕ) (t rest : List ℕ) (c : Cond) → SaysCond p Loose (at + 6 + 1 + 1) t (41 ∷ 59 ∷ 10 ∷ rest) c
    → SaysStmt p at (97 ∷ 115 ∷ 115 ∷ 117 ∷ 109 ∷ 101 ∷ 32 ∷ 40 ∷ (t ++ 41 ∷ 59 ∷ 10 ∷ [])) rest (s.Assume c)
assume_says p at t rest c h =
    let w = says_word at (97 ∷ 115 ∷ 115 ∷ 117 ∷ 109 ∷ 101 ∷ []) ((32 ∷ 40 ∷ (t ++ 41 ∷ 59 ∷ [])) ++ 10 ∷ rest) k.Assume refl sign.word-assume (λ w. refl) refl refl in
    let d = ended (w ▷ spaced_at (sign_at (sign.open_paren _) refl ▷ h.says ▷ sign_at (sign.close_paren _) refl ▷ sign_at (sign.semi _) refl)) in
    record { tokens = _; tree = _; says = named (passed (passed (chosen (reworded (ap (λ v. 97 ∷ 115 ∷ 115 ∷ 117 ∷ 109 ∷ 101 ∷ 32 ∷ 40 ∷ v) (append_assoc t (41 ∷ 59 ∷ []) (10 ∷ []))) d)))); is = ap s.Assume h.is }

pub nothing_says : (at : ℕ) (rest : List ℕ) → Says at [] rest nil [] none
nothing_says at rest = record { reads = nothing_read at rest; derives = nothing }

-- a name where a statement begins
pub name_says : (at : ℕ) (w rest : List ℕ) → IsName w → Breaks rest → Says at w rest (tok k.Name) (token_of at k.Name w ∷ []) (leaf (token_of at k.Name w))
name_says at w rest h b = says_word at w rest k.Name h.word h.no_keyword (λ w. refl) refl b

-- ` = ` and what is assigned, and the end of the line
set_says : (at : ℕ) (w t rest : List ℕ) (ts : List Token) (a : Tree Token) → IsName w → Says (at + length w + 1 + 1 + 1) t (59 ∷ 10 ∷ rest) (ref assigned) ts a
    → Says at (w ++ (32 ∷ 61 ∷ 32 ∷ (t ++ 59 ∷ 10 ∷ []))) rest (seq (tok k.Name) (seq (tok k.Assign) (seq (ref assigned) (tok k.Semi)))) (token_of at k.Name w ∷ token_of (at + length w + 1) k.Assign (61 ∷ []) ∷ (ts ++ token_of (at + length w + 1 + 1 + 1 + length t) k.Semi (59 ∷ []) ∷ []))
    (pair (leaf (token_of at k.Name w)) (pair (leaf (token_of (at + length w + 1) k.Assign (61 ∷ []))) (pair a (leaf (token_of (at + length w + 1 + 1 + 1 + length t) k.Semi (59 ∷ []))))))
set_says at w t rest ts a n h =
    reworded (append_assoc w (32 ∷ 61 ∷ 32 ∷ (t ++ 59 ∷ [])) (10 ∷ []) ∙ ap (λ v. w ++ (32 ∷ 61 ∷ 32 ∷ v)) (append_assoc t (59 ∷ []) (10 ∷ [])))
    (ended (name_says at w ((32 ∷ 61 ∷ 32 ∷ (t ++ 59 ∷ [])) ++ 10 ∷ rest) n refl
    ▷ spaced_at (says_sign (at + length w + 1) 61 ((32 ∷ (t ++ 59 ∷ [])) ++ 10 ∷ rest) k.Assign k.Assign [] sign.equals refl ▷ spaced_at (h ▷ sign_at (sign.semi _) refl))))

assign_says : (p : Token → ℕ) (at i : ℕ) (w t rest : List ℕ) (e : Expr) → IsName w → p (token_of at k.Name w) ≡ i → SaysExpr p Loose (at + length w + 1 + 1 + 1) t (59 ∷ 10 ∷ rest) e
    → SaysStmt p at (w ++ (32 ∷ 61 ∷ 32 ∷ (t ++ 59 ∷ 10 ∷ []))) rest (s.Assign i e)
assign_says p at i w t rest e n f h =
    let d = set_says at w t rest _ _ n (named (chosen h.says)) in
    record { tokens = _; tree = _; says = named (passed (passed (passed (chosen d)))); is = λ j. s.Assign (f j) (h.is j) }

any_says : (p : Token → ℕ) (at i : ℕ) (w rest : List ℕ) → IsName w → p (token_of at k.Name w) ≡ i
    → SaysStmt p at (w ++ (32 ∷ 61 ∷ 32 ∷ 97 ∷ 110 ∷ 121 ∷ 59 ∷ 10 ∷ [])) rest (s.AnyOf i)
any_says p at i w rest n f =
    let any = says_word (at + length w + 1 + 1 + 1) (97 ∷ 110 ∷ 121 ∷ []) (59 ∷ 10 ∷ rest) k.Any refl sign.word-any (λ w. refl) refl refl in
    let d = set_says at w (97 ∷ 110 ∷ 121 ∷ []) rest _ _ n (named (passed (any ▷ passed (nothing_says _ (59 ∷ 10 ∷ rest))))) in
    record { tokens = _; tree = _; says = named (passed (passed (passed (chosen d)))); is = ap s.AnyOf f }

between_says : (p : Token → ℕ) (at i : ℕ) (w t u rest : List ℕ) (a b : Expr) → IsName w → p (token_of at k.Name w) ≡ i
    → SaysExpr p Loose (at + length w + 1 + 1 + 1 + 3 + 1) t ((44 ∷ 32 ∷ (u ++ 41 ∷ [])) ++ 59 ∷ 10 ∷ rest) a
    → SaysExpr p Loose (at + length w + 1 + 1 + 1 + 3 + 1 + length t + 1 + 1) u (41 ∷ 59 ∷ 10 ∷ rest) b
    → SaysStmt p at (w ++ (32 ∷ 61 ∷ 32 ∷ ((97 ∷ 110 ∷ 121 ∷ 40 ∷ (t ++ (44 ∷ 32 ∷ (u ++ 41 ∷ [])))) ++ 59 ∷ 10 ∷ []))) rest (s.Between i a b)
between_says p at i w t u rest a b n f h g =
    let any = says_word (at + length w + 1 + 1 + 1) (97 ∷ 110 ∷ 121 ∷ []) ((40 ∷ (t ++ (44 ∷ 32 ∷ (u ++ 41 ∷ [])))) ++ 59 ∷ 10 ∷ rest) k.Any refl sign.word-any (λ w. refl) refl refl in
    let range = sign_at (sign.open_paren _) refl ▷ h.says ▷ sign_at (sign.comma _) refl ▷ spaced_at (g.says ▷ sign_at (sign.close_paren _) refl) in
    let d = set_says at w (97 ∷ 110 ∷ 121 ∷ 40 ∷ (t ++ (44 ∷ 32 ∷ (u ++ 41 ∷ [])))) rest _ _ n (named (passed (any ▷ chosen range))) in
    record { tokens = _; tree = _; says = named (passed (passed (passed (chosen d)))); is = λ j. s.Between (f j) (h.is j) (g.is j) }

-- ---- branches and loops

-- what stands in the brackets of a branch or loop
record SaysChoice (p : Token → ℕ) (at : ℕ) (t rest : List ℕ) (c : Option Cond) : Type 0 where
  tokens : List Token
  tree : Tree Token
  says : Says at t rest (ref choice) tokens tree
  is : choice_of p tree ≡ c

some_choice : (p : Token → ℕ) (at : ℕ) (t rest : List ℕ) (c : Cond) → SaysCond p Loose at t rest c → SaysChoice p at t rest (Some c)
some_choice p at t rest c h = record { tokens = _; tree = _; says = named (passed h.says); is = ap Some h.is }

no_choice : (p : Token → ℕ) (at : ℕ) (rest : List ℕ) → SaysChoice p at (42 ∷ []) rest None
no_choice p at rest = record { tokens = _; tree = _; says = named (chosen (sign_at {at = at} {b = 42} {rest = rest} (sign.star _) refl)); is = refl }

branch_says : (p : Token → ℕ) (at : ℕ) (c x y rest : List ℕ) (b : Option Cond) (A B : List Stmt)
    → SaysChoice p (at + 2 + 1 + 1) c ((41 ∷ 32 ∷ (blocked x ++ (32 ∷ 101 ∷ 108 ∷ 115 ∷ 101 ∷ 32 ∷ blocked y))) ++ 10 ∷ rest) b
    → SaysBlock p (at + 2 + 1 + 1 + length c + 1 + 1) (blocked x) ((32 ∷ 101 ∷ 108 ∷ 115 ∷ 101 ∷ 32 ∷ blocked y) ++ 10 ∷ rest) A
    → SaysBlock p (at + 2 + 1 + 1 + length c + 1 + 1 + length (blocked x) + 1 + 4 + 1) (blocked y) (10 ∷ rest) B
    → SaysStmt p at ((105 ∷ 102 ∷ 32 ∷ 40 ∷ (c ++ (41 ∷ 32 ∷ (blocked x ++ (32 ∷ 101 ∷ 108 ∷ 115 ∷ 101 ∷ 32 ∷ blocked y))))) ++ 10 ∷ []) rest (branch_by b A B)
branch_says p at c x y rest b A B h f g =
    let w = says_word at (105 ∷ 102 ∷ []) ((32 ∷ 40 ∷ (c ++ (41 ∷ 32 ∷ (blocked x ++ (32 ∷ 101 ∷ 108 ∷ 115 ∷ 101 ∷ 32 ∷ blocked y))))) ++ 10 ∷ rest) k.If refl sign.word-if (λ w. refl) refl refl in
    let v = says_word (at + 2 + 1 + 1 + length c + 1 + 1 + length (blocked x) + 1) (101 ∷ 108 ∷ 115 ∷ 101 ∷ []) ((32 ∷ blocked y) ++ 10 ∷ rest) k.Else refl sign.word-else (λ w. refl) refl refl in
    let d = ended (w ▷ spaced_at (sign_at (sign.open_paren _) refl ▷ h.says ▷ sign_at (sign.close_paren _) refl ▷ spaced_at (f.says ▷ spaced_at (chosen (v ▷ spaced_at g.says))))) in
    record { tokens = _; tree = _; says = named (passed (passed (passed (passed (chosen d))))); is = λ j. branch_by (h.is j) (f.is j) (g.is j) }

loop_says : (p : Token → ℕ) (at : ℕ) (c x rest : List ℕ) (b : Option Cond) (A : List Stmt)
    → SaysChoice p (at + 5 + 1 + 1) c ((41 ∷ 32 ∷ blocked x) ++ 10 ∷ rest) b
    → SaysBlock p (at + 5 + 1 + 1 + length c + 1 + 1) (blocked x) (10 ∷ rest) A
    → SaysStmt p at ((119 ∷ 104 ∷ 105 ∷ 108 ∷ 101 ∷ 32 ∷ 40 ∷ (c ++ (41 ∷ 32 ∷ blocked x))) ++ 10 ∷ []) rest (loop_by b A)
loop_says p at c x rest b A h f =
    let w = says_word at (119 ∷ 104 ∷ 105 ∷ 108 ∷ 101 ∷ []) ((32 ∷ 40 ∷ (c ++ (41 ∷ 32 ∷ blocked x))) ++ 10 ∷ rest) k.While refl sign.word-while (λ w. refl) refl refl in
    let d = ended (w ▷ spaced_at (sign_at (sign.open_paren _) refl ▷ h.says ▷ sign_at (sign.close_paren _) refl ▷ spaced_at f.says)) in
    record { tokens = _; tree = _; says = named (passed (passed (passed (passed (passed d))))); is = λ j. loop_by (h.is j) (f.is j) }

-- ---- the text of a statement

-- the same offset, said in another way
pub at_offset : (whole : List ℕ) {x : List ℕ} {m n : ℕ} → m ≡ n → drop m whole ≡ x → drop n whole ≡ x
at_offset whole {x} e h = subst (λ i. drop i whole ≡ x) e h

grouped_between : (w t u : List ℕ) → w ++ (32 ∷ 61 ∷ 32 ∷ ((97 ∷ 110 ∷ 121 ∷ 40 ∷ (t ++ (44 ∷ 32 ∷ (u ++ 41 ∷ [])))) ++ 59 ∷ 10 ∷ [])) ≡ w ++ (32 ∷ 61 ∷ 32 ∷ 97 ∷ 110 ∷ 121 ∷ 40 ∷ (t ++ (44 ∷ 32 ∷ (u ++ (41 ∷ 59 ∷ 10 ∷ [])))))
grouped_between w t u = simp append_assoc refl

grouped_branch : (c x y : List ℕ) → (105 ∷ 102 ∷ 32 ∷ 40 ∷ (c ++ (41 ∷ 32 ∷ (blocked x ++ (32 ∷ 101 ∷ 108 ∷ 115 ∷ 101 ∷ 32 ∷ blocked y))))) ++ 10 ∷ [] ≡ 105 ∷ 102 ∷ 32 ∷ 40 ∷ (c ++ (41 ∷ 32 ∷ 123 ∷ 10 ∷ (x ++ (125 ∷ 32 ∷ 101 ∷ 108 ∷ 115 ∷ 101 ∷ 32 ∷ 123 ∷ 10 ∷ (y ++ (125 ∷ 10 ∷ []))))))
grouped_branch c x y = simp append_assoc refl

grouped_loop : (c x : List ℕ) → (119 ∷ 104 ∷ 105 ∷ 108 ∷ 101 ∷ 32 ∷ 40 ∷ (c ++ (41 ∷ 32 ∷ blocked x))) ++ 10 ∷ [] ≡ 119 ∷ 104 ∷ 105 ∷ 108 ∷ 101 ∷ 32 ∷ 40 ∷ (c ++ (41 ∷ 32 ∷ 123 ∷ 10 ∷ (x ++ (125 ∷ 10 ∷ []))))
grouped_loop c x = simp append_assoc refl

after_choice : (c x y rest : List ℕ) → (c ++ (41 ∷ 32 ∷ 123 ∷ 10 ∷ (x ++ (125 ∷ 32 ∷ 101 ∷ 108 ∷ 115 ∷ 101 ∷ 32 ∷ 123 ∷ 10 ∷ (y ++ (125 ∷ 10 ∷ [])))))) ++ rest ≡ c ++ ((41 ∷ 32 ∷ (blocked x ++ (32 ∷ 101 ∷ 108 ∷ 115 ∷ 101 ∷ 32 ∷ blocked y))) ++ 10 ∷ rest)
after_choice c x y rest = simp append_assoc refl

after_block : (x y rest : List ℕ) → (41 ∷ 32 ∷ (blocked x ++ (32 ∷ 101 ∷ 108 ∷ 115 ∷ 101 ∷ 32 ∷ blocked y))) ++ 10 ∷ rest ≡ (41 ∷ 32 ∷ 123 ∷ 10 ∷ []) ++ (x ++ (125 ∷ (32 ∷ 101 ∷ 108 ∷ 115 ∷ 101 ∷ 32 ∷ blocked y) ++ 10 ∷ rest))
after_block x y rest = simp append_assoc refl

last_block : (y rest : List ℕ) → 125 ∷ (32 ∷ 101 ∷ 108 ∷ 115 ∷ 101 ∷ 32 ∷ blocked y) ++ 10 ∷ rest ≡ (125 ∷ 32 ∷ 101 ∷ 108 ∷ 115 ∷ 101 ∷ 32 ∷ 123 ∷ 10 ∷ []) ++ (y ++ (125 ∷ 10 ∷ rest))
last_block y rest = simp append_assoc refl

range_rest : (t u rest : List ℕ) → ((t ++ (44 ∷ 32 ∷ (u ++ 41 ∷ []))) ++ 59 ∷ 10 ∷ []) ++ rest ≡ t ++ ((44 ∷ 32 ∷ (u ++ 41 ∷ [])) ++ 59 ∷ 10 ∷ rest)
range_rest t u rest = simp append_assoc refl

after_test : (c x rest : List ℕ) → (c ++ (41 ∷ 32 ∷ 123 ∷ 10 ∷ (x ++ (125 ∷ 10 ∷ [])))) ++ rest ≡ c ++ ((41 ∷ 32 ∷ blocked x) ++ 10 ∷ rest)
after_test c x rest = simp append_assoc refl

loop_block : (x rest : List ℕ) → (41 ∷ 32 ∷ blocked x) ++ 10 ∷ rest ≡ (41 ∷ 32 ∷ 123 ∷ 10 ∷ []) ++ (x ++ (125 ∷ 10 ∷ rest))
loop_block x rest = simp append_assoc refl

reworded_stmt : (p : Token → ℕ) (at : ℕ) {t u : List ℕ} (rest : List ℕ) (S : Stmt) → t ≡ u → SaysStmt p at t rest S → SaysStmt p at u rest S
reworded_stmt p at rest S e h = subst (λ v. SaysStmt p at v rest S) e h

module _ (p : Token → ℕ) (whole : List ℕ) (names : List (List ℕ)) (finds : Finds p whole names) (are : AreNames names) where
  abbrev Read : Stmt → Type 0
  Read S = stmt_fits (length names) S ≡ true → (at : ℕ) (rest : List ℕ) → drop at whole ≡ stmt_text names S ++ rest → SaysStmt p at (stmt_text names S) rest S

  abbrev ReadAll : List Stmt → Type 0
  ReadAll A = stmts_fit (length names) A ≡ true → (at : ℕ) (rest : List ℕ) → drop at whole ≡ stmts_text names A ++ rest → SaysStmts p at (stmts_text names A) rest A

  read_all : (A : List Stmt) → AllByRecursion Read A → ReadAll A
  read_all [] h f at rest q = record { tokens = _; tree = _; says = record { reads = nothing_read at rest; derives = no_more }; is = refl }
  read_all (S ∷ A) h f at rest q =
      let e = q ∙ append_assoc (stmt_text names S) (stmts_text names A) rest in
      let d = h.0 (and_left _ _ f) at (stmts_text names A ++ rest) e in
      let m = read_all A h.1 (and_right _ _ f) (at + length (stmt_text names S)) rest (later whole (stmt_text names S) (stmts_text names A ++ rest) at e) in
      record {
        tokens = d.tokens ++ m.tokens;
        tree = pair d.tree m.tree;
        says = record { reads = words.joined at (stmt_text names S) (stmts_text names A) rest d.tokens m.tokens d.says.reads m.says.reads; derives = one_more d.says.derives m.says.derives };
        is = λ j. d.is j ∷ m.is j;
      }

  -- the name at a place
  name_here : (at i : ℕ) (rest : List ℕ) → i < length names → drop at whole ≡ slice_index_or names i [] ++ rest → p (token_of at k.Name (slice_index_or names i [])) ≡ i
  name_here at i rest l q = finds i l (token_of at k.Name (slice_index_or names i [])) (here whole (slice_index_or names i []) rest at q)

  an_expr : (e : Expr) → fits (length names) e ≡ true → (at : ℕ) (rest : List ℕ) → drop at whole ≡ expr_text names e ++ rest → Breaks rest → SaysExpr p Loose at (expr_text names e) rest e
  an_expr e f = printed_expr p whole names finds are e f Loose

  a_cond : (c : Cond) → cond_fits (length names) c ≡ true → (at : ℕ) (rest : List ℕ) → drop at whole ≡ cond_text names c ++ rest → Breaks rest → SaysCond p Loose at (cond_text names c) rest c
  a_cond c f = printed_cond p whole names finds are c f

  read-Skip : Read s.Skip
  read-Skip f at rest q = reworded_stmt p at rest s.Skip (sym (text-Skip names)) (skip_says p at rest)

  read-Tick : (e : Expr) → Read (s.Tick e)
  read-Tick e f at rest q =
      let r = q ∙ ap (λ v. v ++ rest) (text-Tick names e) in
      reworded_stmt p at rest (s.Tick e) (sym (text-Tick names e))
      (tick_says p at (expr_text names e) rest e
      (an_expr e (sym (fits-Tick (length names) e) ∙ f) (at + 4 + 1) (59 ∷ 10 ∷ rest)
      (at_offset whole (omega arith) (later whole (116 ∷ 105 ∷ 99 ∷ 107 ∷ 32 ∷ []) _ at r ∙ append_assoc (expr_text names e) (59 ∷ 10 ∷ []) rest)) refl))

  read-Assume : (c : Cond) → Read (s.Assume c)
  read-Assume c f at rest q =
      let r = q ∙ ap (λ v. v ++ rest) (text-Assume names c) in
      reworded_stmt p at rest (s.Assume c) (sym (text-Assume names c))
      (assume_says p at (cond_text names c) rest c
      (a_cond c (sym (fits-Assume (length names) c) ∙ f) (at + 6 + 1 + 1) (41 ∷ 59 ∷ 10 ∷ rest)
      (at_offset whole (omega arith) (later whole (97 ∷ 115 ∷ 115 ∷ 117 ∷ 109 ∷ 101 ∷ 32 ∷ 40 ∷ []) _ at r ∙ append_assoc (cond_text names c) (41 ∷ 59 ∷ 10 ∷ []) rest)) refl))

  read-Assign : (i : ℕ) (e : Expr) → Read (s.Assign i e)
  read-Assign i e f at rest q =
      let w : List ℕ = slice_index_or names i [] in
      let z : (ltb i (length names) && fits (length names) e) ≡ true = sym (fits-Assign (length names) i e) ∙ f in
      let l : i < length names = below (and_left _ _ z) in
      let r = q ∙ (ap (λ v. v ++ rest) (text-Assign names i e) ∙ append_assoc w (32 ∷ 61 ∷ 32 ∷ (expr_text names e ++ 59 ∷ 10 ∷ [])) rest) in
      reworded_stmt p at rest (s.Assign i e) (sym (text-Assign names i e))
      (assign_says p at i w (expr_text names e) rest e (are i l) (name_here at i _ l r)
      (an_expr e (and_right _ _ z) (at + length w + 1 + 1 + 1) (59 ∷ 10 ∷ rest)
      (at_offset whole (omega arith) (later whole (32 ∷ 61 ∷ 32 ∷ []) _ (at + length w) (later whole w _ at r) ∙ append_assoc (expr_text names e) (59 ∷ 10 ∷ []) rest)) refl))

  read-AnyOf : (i : ℕ) → Read (s.AnyOf i)
  read-AnyOf i f at rest q =
      let w : List ℕ = slice_index_or names i [] in
      let l : i < length names = below (sym (fits-AnyOf (length names) i) ∙ f) in
      let r = q ∙ (ap (λ v. v ++ rest) (text-AnyOf names i) ∙ append_assoc w (32 ∷ 61 ∷ 32 ∷ 97 ∷ 110 ∷ 121 ∷ 59 ∷ 10 ∷ []) rest) in
      reworded_stmt p at rest (s.AnyOf i) (sym (text-AnyOf names i)) (any_says p at i w rest (are i l) (name_here at i _ l r))

  read-Between : (i : ℕ) (a b : Expr) → Read (s.Between i a b)
  read-Between i a b f at rest q =
      let w : List ℕ = slice_index_or names i [] in
      let t : List ℕ = expr_text names a in
      let u : List ℕ = expr_text names b in
      let z : (ltb i (length names) && (fits (length names) a && fits (length names) b)) ≡ true = sym (fits-Between (length names) i a b) ∙ f in
      let y : (fits (length names) a && fits (length names) b) ≡ true = and_right _ _ z in
      let l : i < length names = below (and_left _ _ z) in
      let g = sym (grouped_between w t u) in
      let r = q ∙ (ap (λ v. v ++ rest) (text-Between names i a b ∙ g) ∙ append_assoc w (32 ∷ 61 ∷ 32 ∷ ((97 ∷ 110 ∷ 121 ∷ 40 ∷ (t ++ (44 ∷ 32 ∷ (u ++ 41 ∷ [])))) ++ 59 ∷ 10 ∷ [])) rest) in
      let x = later whole (32 ∷ 61 ∷ 32 ∷ 97 ∷ 110 ∷ 121 ∷ 40 ∷ []) _ (at + length w) (later whole w _ at r) ∙ range_rest t u rest in
      let v = later whole t _ _ x in
      reworded_stmt p at rest (s.Between i a b) (sym (text-Between names i a b ∙ g))
      (between_says p at i w t u rest a b (are i l) (name_here at i _ l r)
      (an_expr a (and_left _ _ y) (at + length w + 1 + 1 + 1 + 3 + 1) ((44 ∷ 32 ∷ (u ++ 41 ∷ [])) ++ 59 ∷ 10 ∷ rest) (at_offset whole (omega arith) x) refl)
      (an_expr b (and_right _ _ y) (at + length w + 1 + 1 + 1 + 3 + 1 + length t + 1 + 1) (41 ∷ 59 ∷ 10 ∷ rest)
      (at_offset whole (omega arith) (later whole (44 ∷ 32 ∷ []) _ _ v ∙ append_assoc u (41 ∷ []) (59 ∷ 10 ∷ rest))) refl))

  -- a branch, where its choice is read
  branch_read : (c : List ℕ) (b : Option Cond) (A B : List Stmt) → ReadAll A → ReadAll B → stmts_fit (length names) A ≡ true → stmts_fit (length names) B ≡ true → (at : ℕ) (rest : List ℕ)
      → ((r : List ℕ) → drop (at + 2 + 1 + 1) whole ≡ c ++ (41 ∷ r) → SaysChoice p (at + 2 + 1 + 1) c (41 ∷ r) b)
      → drop at whole ≡ (105 ∷ 102 ∷ 32 ∷ 40 ∷ (c ++ (41 ∷ 32 ∷ 123 ∷ 10 ∷ (stmts_text names A ++ (125 ∷ 32 ∷ 101 ∷ 108 ∷ 115 ∷ 101 ∷ 32 ∷ 123 ∷ 10 ∷ (stmts_text names B ++ (125 ∷ 10 ∷ []))))))) ++ rest
      → SaysStmt p at (105 ∷ 102 ∷ 32 ∷ 40 ∷ (c ++ (41 ∷ 32 ∷ 123 ∷ 10 ∷ (stmts_text names A ++ (125 ∷ 32 ∷ 101 ∷ 108 ∷ 115 ∷ 101 ∷ 32 ∷ 123 ∷ 10 ∷ (stmts_text names B ++ (125 ∷ 10 ∷ []))))))) rest (branch_by b A B)
  branch_read c b A B h g f k at rest o q =
      let x : List ℕ = stmts_text names A in
      let y : List ℕ = stmts_text names B in
      let a = later whole (105 ∷ 102 ∷ 32 ∷ 40 ∷ []) _ at q ∙ after_choice c x y rest in
      let d = later whole c _ _ a ∙ after_block x y rest in
      let e = later whole (41 ∷ 32 ∷ 123 ∷ 10 ∷ []) _ _ d in
      let i = later whole x _ _ e ∙ last_block y rest in
      let j = later whole (125 ∷ 32 ∷ 101 ∷ 108 ∷ 115 ∷ 101 ∷ 32 ∷ 123 ∷ 10 ∷ []) _ _ i in
      let n = length-append x (125 ∷ []) in
      reworded_stmt p at rest (branch_by b A B) (grouped_branch c x y)
      (branch_says p at c x y rest b A B (o _ (at_offset whole (omega arith) a))
      (says_block p (at + 2 + 1 + 1 + length c + 1 + 1) x ((32 ∷ 101 ∷ 108 ∷ 115 ∷ 101 ∷ 32 ∷ blocked y) ++ 10 ∷ rest) A (h f _ _ (at_offset whole (omega arith) e)))
      (says_block p (at + 2 + 1 + 1 + length c + 1 + 1 + length (blocked x) + 1 + 4 + 1) y (10 ∷ rest) B (g k _ _ (at_offset whole (omega arith) j))))

  read-If : (c : Cond) (A B : List Stmt) → ReadAll A → ReadAll B → Read (s.If c A B)
  read-If c A B h g f at rest q =
      let z : (cond_fits (length names) c && (stmts_fit (length names) A && stmts_fit (length names) B)) ≡ true = sym (fits-If (length names) c A B) ∙ f in
      let y : (stmts_fit (length names) A && stmts_fit (length names) B) ≡ true = and_right _ _ z in
      reworded_stmt p at rest (s.If c A B) (sym (text-If names c A B))
      (branch_read (cond_text names c) (Some c) A B h g (and_left _ _ y) (and_right _ _ y) at rest
      (λ r d. some_choice p (at + 2 + 1 + 1) (cond_text names c) (41 ∷ r) c (a_cond c (and_left _ _ z) (at + 2 + 1 + 1) (41 ∷ r) d refl))
      (q ∙ ap (λ v. v ++ rest) (text-If names c A B)))

  read-IfAny : (A B : List Stmt) → ReadAll A → ReadAll B → Read (s.IfAny A B)
  read-IfAny A B h g f at rest q =
      let y : (stmts_fit (length names) A && stmts_fit (length names) B) ≡ true = sym (fits-IfAny (length names) A B) ∙ f in
      reworded_stmt p at rest (s.IfAny A B) (sym (text-IfAny names A B))
      (branch_read (42 ∷ []) None A B h g (and_left _ _ y) (and_right _ _ y) at rest (λ r d. no_choice p (at + 2 + 1 + 1) (41 ∷ r)) (q ∙ ap (λ v. v ++ rest) (text-IfAny names A B)))

  loop_read : (c : List ℕ) (b : Option Cond) (A : List Stmt) → ReadAll A → stmts_fit (length names) A ≡ true → (at : ℕ) (rest : List ℕ)
      → ((r : List ℕ) → drop (at + 5 + 1 + 1) whole ≡ c ++ (41 ∷ r) → SaysChoice p (at + 5 + 1 + 1) c (41 ∷ r) b)
      → drop at whole ≡ (119 ∷ 104 ∷ 105 ∷ 108 ∷ 101 ∷ 32 ∷ 40 ∷ (c ++ (41 ∷ 32 ∷ 123 ∷ 10 ∷ (stmts_text names A ++ (125 ∷ 10 ∷ []))))) ++ rest
      → SaysStmt p at (119 ∷ 104 ∷ 105 ∷ 108 ∷ 101 ∷ 32 ∷ 40 ∷ (c ++ (41 ∷ 32 ∷ 123 ∷ 10 ∷ (stmts_text names A ++ (125 ∷ 10 ∷ []))))) rest (loop_by b A)
  loop_read c b A h f at rest o q =
      let x : List ℕ = stmts_text names A in
      let a = later whole (119 ∷ 104 ∷ 105 ∷ 108 ∷ 101 ∷ 32 ∷ 40 ∷ []) _ at q ∙ after_test c x rest in
      let d = later whole c _ _ a ∙ loop_block x rest in
      let e = later whole (41 ∷ 32 ∷ 123 ∷ 10 ∷ []) _ _ d in
      reworded_stmt p at rest (loop_by b A) (grouped_loop c x)
      (loop_says p at c x rest b A (o _ (at_offset whole (omega arith) a))
      (says_block p (at + 5 + 1 + 1 + length c + 1 + 1) x (10 ∷ rest) A (h f _ _ (at_offset whole (omega arith) e))))

  read-While : (c : Cond) (A : List Stmt) → ReadAll A → Read (s.While c A)
  read-While c A h f at rest q =
      let z : (cond_fits (length names) c && stmts_fit (length names) A) ≡ true = sym (fits-While (length names) c A) ∙ f in
      reworded_stmt p at rest (s.While c A) (sym (text-While names c A))
      (loop_read (cond_text names c) (Some c) A h (and_right _ _ z) at rest
      (λ r d. some_choice p (at + 5 + 1 + 1) (cond_text names c) (41 ∷ r) c (a_cond c (and_left _ _ z) (at + 5 + 1 + 1) (41 ∷ r) d refl))
      (q ∙ ap (λ v. v ++ rest) (text-While names c A)))

  read-WhileAny : (A : List Stmt) → ReadAll A → Read (s.WhileAny A)
  read-WhileAny A h f at rest q =
      reworded_stmt p at rest (s.WhileAny A) (sym (text-WhileAny names A))
      (loop_read (42 ∷ []) None A h (sym (fits-WhileAny (length names) A) ∙ f) at rest (λ r d. no_choice p (at + 5 + 1 + 1) (41 ∷ r)) (q ∙ ap (λ v. v ++ rest) (text-WhileAny names A)))

  read_layer : (L : Stmt-F Stmt) → EachStmt Read L → Read (roll-Stmt L)
  unfolding roll-Stmt denote.Hole.Carrier.roll
  read_layer G.Skip h = read-Skip
  read_layer (G.Assign i e) h = read-Assign i e
  read_layer (G.AnyOf i) h = read-AnyOf i
  read_layer (G.Between i a b) h = read-Between i a b
  read_layer (G.Tick e) h = read-Tick e
  read_layer (G.Assume c) h = read-Assume c
  read_layer (G.If c A B) h = read-If c A B (read_all A h.0) (read_all B h.1)
  read_layer (G.IfAny A B) h = read-IfAny A B (read_all A h.0) (read_all B h.1)
  read_layer (G.While c A) h = read-While c A (read_all A h)
  read_layer (G.WhileAny A) h = read-WhileAny A (read_all A h)

  read_one : (S : Stmt) → Read S
  read_one S = Stmt-induction Read read_layer S

  all_read : (A : List Stmt) → AllByRecursion Read A
  all_read [] = tt
  all_read (S ∷ A) = (read_one S, all_read A)

  pub printed_stmts : (A : List Stmt) → ReadAll A
  printed_stmts A = read_all A (all_read A)
