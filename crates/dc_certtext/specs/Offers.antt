-- The lines that may come next, as offers: a word, and what stands behind it.
use Rattle.std.specs.Prelude.{◌≡◌, ◌⊎◌, ℕ, ◌≤◌, Bool, true, List, [], ◌∷◌, ◌++◌, codes}
use Rattle.std.specs.Fmt.{decimal}
use Rattle.dc_frac.specs.declared.Frac.{Frac}
use Rattle.dc_frac.specs.Fits.{IsSmall}
use Rattle.dc_affine.specs.declared.atom.Atom.{Atom}
use Rattle.dc_affine.specs.Atoms.{IsAtom}
use Rattle.dc_cert.specs.declared.sparse.Sparse.{Sparse}
use Rattle.dc_cert.specs.declared.certificate.Liveness.{Liveness}
use Rattle.dc_cert.specs.Vectors.{IsVector}
use Rattle.dc_cert.specs.Ranges.{IsShown}
use Rattle.dc_certtext.specs.declared.stage.Stage.{Stage}
use Rattle.dc_lines.specs.Bytes.{Bytes}
use Rattle.dc_certtext.specs.Words.{frac_text, vector_text, atom_text}
use Rattle.dc_certtext.specs.Text.{shown_text}

-- what stands behind the word, and what is read then
pub data Then : Type 0 where
  plain : Stage → Then
  vector : (Sparse → Stage) → Then
  shown : (Liveness → Stage) → Then
  atom : (Atom → Stage) → Then
  fraction : (Frac → Stage) → Then
  number : ℕ → ℕ → (ℕ → Stage) → Then
  sizes : (ℕ → ℕ → Stage) → Then

pub record Offer : Type 0 where
  pub guard : Bool
  pub key : Bytes
  pub next : Then

abbrev pub offer : Bool → Bytes → Then → Offer
offer g k t = record { guard = g; key = k; next = t }

-- a line is the word with what stands behind it, and leads to a stage
abbrev pub Takes : Bytes → Then → Bytes → Stage → Type 0
Takes k (plain s) b t = (k ≡ b) × (t ≡ s)
Takes k (vector f) b t = (v : Sparse) × IsVector v × (k ++ vector_text v ≡ b) × (t ≡ f v)
Takes k (shown f) b t = (l : Liveness) × IsShown l × (k ++ shown_text l ≡ b) × (t ≡ f l)
Takes k (atom f) b t = (a : Atom) × IsAtom 10 a × (k ++ atom_text a ≡ b) × (t ≡ f a)
Takes k (fraction f) b t = (x : Frac) × IsSmall x.den × (k ++ frac_text x ≡ b) × (t ≡ f x)
Takes k (number low high f) b t =
    (n : ℕ) × ((low ≤ n) × (n ≤ high) × (n ≤ 64)) × (k ++ decimal n ≡ b) × (t ≡ f n)
Takes k (sizes f) b t =
    (d : ℕ) × (n : ℕ) × ((d ≤ 3) × (1 ≤ n) × (n ≤ 3))
    × (k ++ (decimal d ++ (codes " products " ++ decimal n)) ≡ b) × (t ≡ f d n)

-- some offer is taken
abbrev pub Any : List Offer → Bytes → Stage → Type 0
Any [] b t = ⊥
Any (o ∷ os) b t = ((o.guard ≡ true) × Takes o.key o.next b t) ⊎ Any os b t
