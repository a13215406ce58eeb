-- What stands behind a word on a line.
use Rattle.std.specs.Prelude.{◌≡◌, ℕ, ◌<◌, ◌^◌, ◌++◌, codes}
use Rattle.std.proofs.Common.{sym, ◌∙◌, ap}
use Rattle.std.specs.Fmt.{decimal}
use Rattle.dc_frac.specs.declared.Frac.{Frac}
use Rattle.dc_frac.specs.Fits.{IsSmall}
use Rattle.dc_affine.specs.declared.atom.Atom.{Atom}
use Rattle.dc_affine.specs.Atoms.{IsAtom}
use Rattle.dc_cert.specs.declared.sparse.Sparse.{Sparse}
use Rattle.dc_cert.specs.declared.certificate.Liveness.{Liveness}
use Rattle.dc_cert.specs.declared.certificate.Liveness.TheVariants.{Dead, Live}
use Rattle.dc_cert.specs.Vectors.{IsVector}
use Rattle.dc_cert.specs.Ranges.{IsShown}
use Rattle.dc_lines.specs.Bytes.{Bytes}
use Rattle.dc_certtext.specs.Words.{atom_text, frac_text, vector_text}
use Rattle.dc_certtext.specs.Text.{shown_text}
use Rattle.dc_lines.proofs.Cutting.{cancel}

-- the word isn't there, or what stands behind it is of no such kind
pub no_word : (w l t : Bytes) → ((r : Bytes) → ¬ (l ≡ w ++ r)) → ¬ (w ++ t ≡ l)
no_word w l t g e = g t (sym e)

pub behind_is : (w l r t : Bytes) → l ≡ w ++ r → t ≡ r → w ++ t ≡ l
behind_is w l r t e h = ap (λ x. w ++ x) h ∙ sym e

pub no_vector_behind : (w l r : Bytes) → l ≡ w ++ r → ((s : Sparse) → IsVector s → ¬ (vector_text s ≡ r)) → (s : Sparse) → IsVector s → ¬ (w ++ vector_text s ≡ l)
no_vector_behind w l r e g s h k = g s h (cancel w (vector_text s) r (k ∙ e))

pub no_atom_behind : (w l r : Bytes) → l ≡ w ++ r → ((a : Atom) → IsAtom 10 a → ¬ (atom_text a ≡ r)) → (a : Atom) → IsAtom 10 a → ¬ (w ++ atom_text a ≡ l)
no_atom_behind w l r e g a h k = g a h (cancel w (atom_text a) r (k ∙ e))

pub no_fraction_behind : (w l r : Bytes) → l ≡ w ++ r → ((f : Frac) → IsSmall f.den → ¬ (frac_text f ≡ r)) → (f : Frac) → IsSmall f.den → ¬ (w ++ frac_text f ≡ l)
no_fraction_behind w l r e g f h k = g f h (cancel w (frac_text f) r (k ∙ e))

pub no_number_behind : (w l r : Bytes) → l ≡ w ++ r → ((n : ℕ) → n < 2 ^ 127 → ¬ (decimal n ≡ r)) → (n : ℕ) → n < 2 ^ 127 → ¬ (w ++ decimal n ≡ l)
no_number_behind w l r e g n h k = g n h (cancel w (decimal n) r (k ∙ e))

pub no_shown_behind : (w l r : Bytes) → l ≡ w ++ r → ((s : Sparse) → IsVector s → ¬ (codes " live" ++ vector_text s ≡ r)) → ((s : Sparse) → IsVector s → ¬ (codes " dead" ++ vector_text s ≡ r))
    → (x : Liveness) → IsShown x → ¬ (w ++ shown_text x ≡ l)
no_shown_behind w l r e g d (Live s) h k = g s h (cancel w (codes " live" ++ vector_text s) r (k ∙ e))
no_shown_behind w l r e g d (Dead s) h k = d s h (cancel w (codes " dead" ++ vector_text s) r (k ∙ e))

pub ruleset words = (no_word, behind_is, no_vector_behind, no_atom_behind, no_fraction_behind, no_number_behind, no_shown_behind)
