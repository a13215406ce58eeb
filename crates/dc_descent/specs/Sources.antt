-- What the derivation of a source says.
use Rattle.std.specs.Prelude.{◌≡◌, ℕ, List, [], ◌∷◌, ◌++◌, length, map, None}
use Rattle.std.specs.declared.option.Option.{Option}
use Rattle.std.specs.Option.{option_or}
use Rattle.dc_tokens.specs.declared.token.TokenKind.TheVariants as k
use Rattle.dc_tokens.specs.declared.token.Token.{Token}
use Rattle.dc_grammar.specs.Grammar.{Tree, leaf, none, pair, left}
use Rattle.dc_syntax.specs.declared.tree.Stmt.{Stmt}
use Rattle.dc_descent.specs.declared.fault.Fault.{Fault}
use Rattle.dc_descent.specs.declared.sources.Body.{Body}
use Rattle.dc_descent.specs.declared.sources.Source.{Source}
use Rattle.dc_descent.specs.Trees.{leaves}
use Rattle.dc_descent.specs.Scopes.{spelled, place_in}
use Rattle.dc_descent.specs.Statements.{stmts_of, starts_of}
use Rattle.dc_descent.specs.Faults.{declared_fault, used_fault}

-- { "," NAME }
abbrev pub more_names : Tree Token → List Token
more_names (pair (pair comma (leaf t)) more) = t ∷ more_names more
more_names _ = []

-- NAME { "," NAME }
abbrev pub names_in : Tree Token → List Token
names_in (pair (leaf t) more) = t ∷ more_names more
names_in _ = []

-- [ NAME { "," NAME } ]
abbrev pub params_in : Tree Token → List Token
params_in (left a) = names_in a
params_in _ = []

-- [ "var" NAME { "," NAME } ";" ]
abbrev pub locals_in : Tree Token → List Token
locals_in (left (pair var (pair a semi))) = names_in a
locals_in _ = []

-- the parts of a source: the names' tokens, and the derivation of its statements
pub record Parts : Type 0 where
  pub name : Token
  pub params : List Token
  pub locals : List Token
  pub body : Tree Token

-- "proc" NAME "(" [ names ] ")" "{" [ "var" names ";" ] { stmt } "}"
abbrev pub parts_of : Tree Token → Parts
parts_of
    (pair proc (pair (leaf t) (pair opens (pair ps (pair closes (pair begins
    (pair ls (pair ss ends)))))))) =
    record { name = t; params = params_in ps; locals = locals_in ls; body = ss }
parts_of _ = record {
  name = record {
    kind = k.Name;
    at = 0;
    end = 0;
    value = 0;
  };
  params = [];
  locals = [];
  body = none;
}

-- the tokens that declare names, in order
abbrev pub declared : Parts → List Token
declared p = p.params ++ p.locals

-- the names: the parameters, then the locals
abbrev pub names_of : List ℕ → Parts → List (List ℕ)
names_of text p = map (spelled text) (declared p)

-- the statements, whose names stand for their places
abbrev pub body_of : List ℕ → Parts → List Stmt
body_of text p = stmts_of (place_in text (names_of text p)) p.body

-- the first fault of the names, by offset: they are declared before they are used
abbrev pub names_fault : List ℕ → Parts → Option Fault
names_fault text p =
    option_or (declared_fault text [] (declared p))
    (used_fault text (names_of text p) (leaves p.body))

-- ---- what the parts answer

-- the tokens of names, put at the end of those so far
abbrev pub AddsNames : (Tree Token → List Token) → List Token → List Token → Tree Token → Unit {0}
    → Type 0
AddsNames f old new a x = new ≡ old ++ f a

-- statements where these tokens declare the names
pub record IsBody (text : List ℕ) (ts : List Token) (a : Tree Token) (x : Body) : Type 0 where
  pub fault : x.fault ≡ option_or (declared_fault text [] ts)
      (used_fault text (map (spelled text) ts) (leaves a))
  pub names : x.fault ≡ None → x.names ≡ map (spelled text) ts
  pub stmts : x.fault ≡ None → x.stmts ≡ stmts_of (place_in text (map (spelled text) ts)) a
  pub starts : x.starts.items ≡ starts_of a

-- a source; where its names have a fault, the statements say nothing
pub record IsSource (text : List ℕ) (a : Tree Token) (x : Source) : Type 0 where
  pub name : x.name ≡ (parts_of a).name
  pub params : x.params ≡ length (parts_of a).params
  pub fault : x.body.fault ≡ names_fault text (parts_of a)
  pub names : x.body.fault ≡ None → x.body.names ≡ names_of text (parts_of a)
  pub stmts : x.body.fault ≡ None → x.body.stmts ≡ body_of text (parts_of a)
  pub starts : x.body.starts.items ≡ starts_of (parts_of a).body
