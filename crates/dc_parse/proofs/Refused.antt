-- From a fault at a byte to a refusal with its line and column.
use Rattle.std.proofs.Common.{◌≡◌, ◌⊎◌, inl, inr, ℕ, ◌<◌, ◌≤◌, List, refl, sym, ◌∙◌, subst}
use Rattle.dc_tokens.specs.Lines.{line_at, column_at}
use Rattle.dc_parse.specs.declared.fault.Kind.{Kind}
use Rattle.dc_parse.specs.declared.fault.Kind.TheVariants as k
use Rattle.dc_parse.specs.declared.fault.Fault.{Fault}
use Rattle.dc_parse.specs.Faults.{fault}
use Rattle.dc_parse.specs.Outcomes.{Outcome, refuses}
use Rattle.dc_parse.specs.Answers.{IsRefusal}

module _ {A : Type 0} (Of : Outcome A → Type 0) (text : List ℕ) where
  pub is_refusal : (kind : Kind) (at line col : ℕ) → (kind ≡ k.NoMemory → (line ≡ 0) × (col ≡ 0)) → ((kind ≡ k.NoMemory → ⊥) → (line ≡ line_at text at) × (col ≡ column_at text at))
      → (kind ≡ k.NoMemory) ⊎ Of (refuses (fault kind at)) → IsRefusal Of text line col kind
  is_refusal k.NoMemory at line col w p h = w refl
  is_refusal _ at line col w p (inl e) = absurd cc
  is_refusal _ at line col w p (inr o) = let q : _ = p (λ e. absurd cc) in (at, o, q.0, q.1)

  pub refused : (f : Fault) (kind : Kind) (line col : ℕ) → kind ≡ f.kind → (f.kind ≡ k.NoMemory → (line ≡ 0) × (col ≡ 0)) → ((f.kind ≡ k.NoMemory → ⊥) → (line ≡ line_at text f.at) × (col ≡ column_at text f.at))
      → (f.kind ≡ k.NoMemory) ⊎ Of (refuses f) → IsRefusal Of text line col kind
  refused f kind line col e w p h = subst (λ z. IsRefusal Of text line col z) (sym e) (is_refusal f.kind f.at line col w p h)
