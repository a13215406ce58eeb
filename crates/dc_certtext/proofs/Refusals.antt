-- Why no offer is taken.
use Rattle.std.specs.Prelude.{◌≡◌, ℕ, suc, ◌+◌, ◌≤◌, true, List, [], ◌∷◌, ◌++◌, length, codes}
use Rattle.std.proofs.Common.{◌∙◌, ap, arith, inl, inr}
use Rattle.std.specs.Fmt.{decimal}
use Rattle.dc_frac.specs.declared.Frac.{Frac}
use Rattle.dc_frac.specs.Fits.{IsSmall}
use Rattle.dc_affine.specs.declared.atom.Atom.{Atom}
use Rattle.dc_affine.specs.Atoms.{IsAtom}
use Rattle.dc_cert.specs.declared.sparse.Sparse.{Sparse}
use Rattle.dc_cert.specs.declared.certificate.Liveness.{Liveness}
use Rattle.dc_cert.specs.Vectors.{IsVector}
use Rattle.dc_cert.specs.Ranges.{IsShown}
use Rattle.dc_cert.specs.declared.certificate.EdgeCert.{EdgeCert}
use Rattle.dc_certtext.specs.declared.stage.Front.{Front}
use Rattle.dc_certtext.specs.declared.stage.Stage.{Stage}
use Rattle.dc_certtext.specs.declared.stage.Stage.TheVariants.{Edges}
use Rattle.dc_lines.specs.Bytes.{Bytes}
use Rattle.dc_certtext.specs.Words.{frac_text, vector_text, atom_text}
use Rattle.dc_certtext.specs.Text.{numbered, shown_text}
use Rattle.dc_certtext.specs.Offers.{Then, plain, vector, shown, atom, fraction, number, sizes, Offer, Takes}
use Rattle.dc_certtext.proofs.Distinct.{Apart, other_taken}
use Rattle.dc_certtext.specs.Stages.{offers, None_taken}

abbrev pub Refused : Bytes → Then → Bytes → Type 0
Refused k n b = (t : Stage) → ¬ Takes k n b t

pub refuse_nil : (b : Bytes) → None_taken [] b
refuse_nil b t h = h

pub refuse_cons : (o : Offer) (os : List Offer) (b : Bytes) → Refused o.key o.next b → None_taken os b → None_taken (o ∷ os) b
refuse_cons o os b r n t (inl h) = r t h.1
refuse_cons o os b r n t (inr h) = n t h

-- the line is of this kind, but may not come now
pub refuse_full : (o : Offer) (os : List Offer) (b : Bytes) (s : Stage) → Takes o.key o.next b s → ¬ (o.guard ≡ true) → Apart o.key os → None_taken (o ∷ os) b
refuse_full o os b s h g a t (inl k) = g k.0
refuse_full o os b s h g a t (inr k) = other_taken o.key o.next os b s t a h k

pub refuse_plain : (k : Bytes) (s : Stage) (b : Bytes) → ¬ (k ≡ b) → Refused k (plain s) b
refuse_plain k s b g t h = g h.0

pub refuse_vector : (k : Bytes) (f : Sparse → Stage) (b : Bytes) → ((v : Sparse) → IsVector v → ¬ (k ++ vector_text v ≡ b)) → Refused k (vector f) b
refuse_vector k f b g t h = g h.0 h.1 h.2

pub refuse_shown : (k : Bytes) (f : Liveness → Stage) (b : Bytes) → ((l : Liveness) → IsShown l → ¬ (k ++ shown_text l ≡ b)) → Refused k (shown f) b
refuse_shown k f b g t h = g h.0 h.1 h.2

pub refuse_atom : (k : Bytes) (f : Atom → Stage) (b : Bytes) → ((a : Atom) → IsAtom 10 a → ¬ (k ++ atom_text a ≡ b)) → Refused k (atom f) b
refuse_atom k f b g t h = g h.0 h.1 h.2

pub refuse_fraction : (k : Bytes) (f : Frac → Stage) (b : Bytes) → ((x : Frac) → IsSmall x.den → ¬ (k ++ frac_text x ≡ b)) → Refused k (fraction f) b
refuse_fraction k f b g t h = g h.0 h.1 h.2

pub refuse_number : (k : Bytes) (low high : ℕ) (f : ℕ → Stage) (b : Bytes) → ((n : ℕ) → low ≤ n → n ≤ high → n ≤ 64 → ¬ (k ++ decimal n ≡ b)) → Refused k (number low high f) b
refuse_number k low high f b g t h = g h.0 h.1.0 h.1.1 h.1.2 h.2

pub refuse_sizes : (k : Bytes) (f : ℕ → ℕ → Stage) (b : Bytes) → ((d n : ℕ) → d ≤ 3 → 1 ≤ n → n ≤ 3 → ¬ (k ++ (decimal d ++ (codes " products " ++ decimal n)) ≡ b)) → Refused k (sizes f) b
refuse_sizes k f b g t h = g h.0 h.1 h.2.0 h.2.1 h.2.2 h.3

-- behind the keeps of an edge stands another edge or the exit
pub no_edge_line : (f : Front) (fam : List (List Atom)) (ents : List (List Sparse)) (done : List EdgeCert) (live : Liveness) (last : List Sparse) (k b : Bytes) → k ≡ numbered (codes "edge ") (length done + 1)
    → ((v : Sparse) → IsVector v → ¬ (codes "keep" ++ vector_text v ≡ b)) → ((l : Liveness) → IsShown l → ¬ (k ++ shown_text l ≡ b)) → ((l : Liveness) → IsShown l → ¬ (codes "exit" ++ shown_text l ≡ b))
    → None_taken (offers (Edges f fam ents done live last)) b
no_edge_line f fam ents done live last k b e v g x t (inl h) = v h.1.0 h.1.1 h.1.2
no_edge_line f fam ents done live last k b e v g x t (inr (inl h)) = g h.1.0 h.1.1 (ap (λ y. y ++ shown_text h.1.0) (e ∙ ap (numbered (codes "edge ")) (let q : length done + 1 ≡ suc (length done) = omega arith in q)) ∙ h.1.2)
no_edge_line f fam ents done live last k b e v g x t (inr (inr (inl h))) = x h.1.0 h.1.1 h.1.2
no_edge_line f fam ents done live last k b e v g x t (inr (inr (inr h))) = h

pub ruleset refusing = (no_edge_line)
