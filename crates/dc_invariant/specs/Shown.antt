-- What the lines of one side of a certificate are: the vectors of the outcomes of their problems,
-- and what these show.
use Rattle.std.specs.Prelude.{◌≡◌, ℕ, List, [], ◌∷◌, ℤ}
use Rattle.dc_frac.specs.declared.Frac.{Frac}
use Rattle.dc_affine.specs.declared.atom.Atom.{Atom}
use Rattle.dc_lp.specs.Linear.{Linear}
use Rattle.dc_cert.specs.declared.sparse.Sparse.{Sparse}
use Rattle.dc_cert.specs.declared.certificate.Liveness.{Liveness}
use Rattle.dc_cert.specs.declared.certificate.Liveness.TheVariants.{Dead, Live}
use Rattle.dc_cert.specs.Vectors.{nonzero_from, entry_of}
use Rattle.dc_points.specs.Stated.{rational, empty_problem, sup_problem}
use Rattle.dc_points.specs.Shown.{ShowsAtom, ShowsDead, ShowsLive}
use Rattle.dc_entail.specs.Answers.{IsBestAt, IsRefutedAt}

-- ---- the items of a vector of an outcome that are not 0
-- of the solution of least cost
pub record IsSolutionOf (p : Linear ℤ) (budget : ℕ) (k : Sparse) : Type 0 where
  pub whole : List Frac
  pub outcome : IsBestAt (rational p) budget whole
  pub items : k.items ≡ nonzero_from 0 whole

-- of the refutation
pub record IsRefutationOf (p : Linear ℤ) (budget : ℕ) (k : Sparse) : Type 0 where
  pub whole : List Frac
  pub outcome : IsRefutedAt (rational p) budget whole
  pub items : k.items ≡ nonzero_from 0 whole

-- ---- keeps: the multipliers with which a list shows an atom over n places, whose form is given
pub record IsKeep (hyps : List Atom) (n : ℕ) (form : List ℤ) (a : Atom) (budget : ℕ)
    (k : Sparse) : Type 0 where
  pub vector : IsSolutionOf (sup_problem hyps form) budget k
  pub shows : ShowsAtom hyps n a (entry_of k.items)

-- one for each atom of a list, with its form, and the atom that is shown for it
abbrev pub AreKeeps : List Atom → ℕ → (Atom → List ℤ) → (Atom → Atom) → ℕ → List Atom → List Sparse
    → Type 0
AreKeeps hyps n form shown budget [] [] = Unit {0}
AreKeeps hyps n form shown budget [] (k ∷ ks) = ⊥
AreKeeps hyps n form shown budget (a ∷ atoms) [] = ⊥
AreKeeps hyps n form shown budget (a ∷ atoms) (k ∷ ks) =
    IsKeep hyps n (form a) (shown a) budget k × AreKeeps hyps n form shown budget atoms ks

-- ---- lines about lists over n places
-- dead, with multipliers that combine the list to -1
pub record IsDeadLine (hyps : List Atom) (n budget : ℕ) (k : Sparse) : Type 0 where
  pub vector : IsSolutionOf (empty_problem hyps n) budget k
  pub shows : ShowsDead hyps n (entry_of k.items)

-- or live, with a vector that names a point which meets it
pub record IsLiveLine (hyps : List Atom) (n budget : ℕ) (k : Sparse) : Type 0 where
  pub vector : IsRefutationOf (empty_problem hyps n) budget k
  pub shows : ShowsLive hyps n (entry_of k.items)

abbrev pub IsLine : List Atom → ℕ → ℕ → Liveness → Type 0
IsLine hyps n budget (Dead k) = IsDeadLine hyps n budget k
IsLine hyps n budget (Live k) = IsLiveLine hyps n budget k
