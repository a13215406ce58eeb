-- From the answers of one problem to what is made of them.
use Rattle.std.specs.Prelude.{◌≡◌, ◌↔◌, ℕ, ◌<◌, ◌≤◌, ◌^◌, Bool, false, List, [], ◌∷◌, length, take, sum_by, unsigned_abs, ℤ, IsTrue}
use Rattle.std.specs.List.{AllByRecursion}
use Rattle.std.proofs.Common.{sym, ◌∙◌, ap, subst, arith}
use Rattle.std.proofs.lemmas.List.{take_all}
use Rattle.dc_math.specs.Rational.{of_ℤ, ◌≤ℚ◌}
use Rattle.dc_frac.specs.declared.Frac.{Frac}
use Rattle.dc_frac.specs.Value.{value}
use Rattle.dc_affine.specs.declared.atom.Atom.{Atom}
use Rattle.dc_affine.specs.Atoms.{IsAtom, IsFullAtom}
use Rattle.dc_lp.specs.Folds.{numbers}
use Rattle.dc_lp.specs.Problems.{whole_at}
use Rattle.dc_pivots.specs.declared.Ending.TheVariants.{Optimal, Infeasible}
use Rattle.dc_cert.specs.declared.sparse.Sparse.{Sparse}
use Rattle.dc_cert.specs.Vectors.{nonzero_from, entry_of}
use Rattle.dc_entail.specs.declared.answer.Site.{Site}
use Rattle.dc_entail.specs.Answers.{TellsDead, TellsLive, TellsLeast, TellsNoBound}
use Rattle.dc_entail.specs.Asked.{ask, IsDone}
use Rattle.dc_points.specs.Points.{Entails, EntailsFrom}
use Rattle.dc_points.specs.Stated.{coefficient_of, empty_problem, sup_problem}
use Rattle.dc_points.specs.Shown.{ShowsAtom}
use Rattle.dc_points.proofs.Whole.{atoms_are_forms}
use Rattle.dc_families.proofs.Lists.{differ}
use Rattle.dc_moves.proofs.Forms.{row_is_light}
use Rattle.dc_invariant.specs.Shown.{IsKeep, IsDeadLine, IsLiveLine}
use Rattle.dc_invariant.specs.Lent.{TellsEntailed, IsLeastKeep, HasBound}
use Rattle.dc_invariant.proofs.Vectors.{entry_is, combines_same, live_same}

-- ---- what is required
pub full_atoms : (n m : ℕ) (hyps : List Atom) → m ≡ n → AllByRecursion (IsFullAtom n) hyps → AllByRecursion (IsAtom m) hyps
full_atoms n m [] e h = tt
full_atoms n m (a ∷ hyps) e h = (subst (λ k. IsAtom k a) (sym e) h.0.within, full_atoms n m hyps e h.1)

pub full_form : (n : ℕ) (a : Atom) → IsFullAtom n a → take n a.coefs ≡ a.coefs
full_form n a h = take_all n a.coefs (let e = h.one_each in omega arith)

pub full_light : (n : ℕ) (a : Atom) (form : List ℤ) → n ≤ 10 → IsFullAtom n a → form ≡ a.coefs → sum_by unsigned_abs form < 2 ^ 70
full_light n a form l h e = subst (λ cs. sum_by unsigned_abs cs < 2 ^ 70) (sym e) (row_is_light a.coefs h.within.coefs_within (let k = h.one_each in omega arith))

-- ---- whether an atom is entailed
as_atom : (hyps : List Atom) (a : Atom) (form : List ℤ) → form ≡ a.coefs → Entails hyps a ↔ EntailsFrom hyps form (of_ℤ a.c0)
as_atom hyps a form e = let k = atoms_are_forms hyps a.coefs a.c0 in ((λ h. subst (λ f. EntailsFrom hyps f (of_ℤ a.c0)) (sym e) (k.0 h)), (λ h. k.1 (subst (λ f. EntailsFrom hyps f (of_ℤ a.c0)) e h)))

module _ (site : Site) (hyps : List Atom) (a : Atom) (form : List ℤ) (budget : ℕ) (e : form ≡ a.coefs) where
  pub entailed_least : (v : Frac) (mult : List Frac) (b : Bool) → TellsLeast hyps form budget v mult → IsTrue b ↔ (value v ≤ℚ of_ℤ a.c0) → TellsEntailed site hyps a budget b
  entailed_least v mult b t h = record {
    says = ((λ k. (as_atom hyps a form e).1 ((t.least (of_ℤ a.c0)).1 (h.0 k))), (λ k. h.1 ((t.least (of_ℤ a.c0)).0 ((as_atom hyps a form e).0 k))));
    done = subst (λ f. IsDone budget (ask site (sup_problem hyps f))) e (t.outcome.comes.pivots, Optimal, t.outcome.table, t.outcome.comes.answer);
  }

  pub entailed_none : (y : List Frac) → TellsNoBound hyps form budget y → TellsEntailed site hyps a budget false
  entailed_none y t = record {
    says = ((λ k. differ (sym k)), (λ k. absurd (t.none (of_ℤ a.c0) ((as_atom hyps a form e).0 k))));
    done = subst (λ f. IsDone budget (ask site (sup_problem hyps f))) e (t.outcome.comes.pivots, Infeasible, t.outcome.table, t.outcome.comes.answer);
  }

-- ---- keeps
pub least_keep : (hyps : List Atom) (form : List ℤ) (budget : ℕ) (v : Frac) (mult : List Frac) (k : Sparse) → TellsLeast hyps form budget v mult → k.items ≡ nonzero_from 0 mult → IsLeastKeep hyps form budget k
least_keep hyps form budget v mult k t e = record {
  vector = record { whole = mult; outcome = t.outcome; items = e };
  number = value v;
  combines = combines_same hyps (numbers mult) (entry_of k.items)
      (λ j l. ap (λ is. entry_of is j) e ∙ entry_is mult j (let m = t.outcome.vector.long in omega arith)) (length form) (whole_at form) (value v) t.combines;
  least = t.least;
}

pub never_none : (hyps : List Atom) (form : List ℤ) (budget : ℕ) (y : List Frac) → HasBound hyps form → TellsNoBound hyps form budget y → ⊥
never_none hyps form budget y b t = t.none b.0 b.1

-- a keep of an atom that the list entails
pub shown_keep : (hyps : List Atom) (n : ℕ) (form : List ℤ) (a : Atom) (budget : ℕ) (k : Sparse) → length form ≡ n → ((i : ℕ) → i < n → whole_at form i ≡ coefficient_of a i)
    → EntailsFrom hyps form (of_ℤ a.c0) → IsLeastKeep hyps form budget k → ShowsAtom hyps n a (entry_of k.items)
shown_keep hyps n form a budget k e s h t = record {
  signs = t.combines.signs;
  coefficients = λ i l. t.combines.coefficients i (omega arith) ∙ ap of_ℤ (s i l);
  constant = subst (λ c. c ≤ℚ of_ℤ a.c0) (sym t.combines.constant) ((t.least (of_ℤ a.c0)).0 h);
}

pub keep_done : (hyps : List Atom) (n : ℕ) (form : List ℤ) (a : Atom) (budget : ℕ) (k : Sparse) (site : Site) → IsKeep hyps n form a budget k → IsDone budget (ask site (sup_problem hyps form))
keep_done hyps n form a budget k site h = (h.vector.outcome.comes.pivots, Optimal, h.vector.outcome.table, h.vector.outcome.comes.answer)

-- ---- lines
pub dead_line : (hyps : List Atom) (n budget : ℕ) (mult : List Frac) (k : Sparse) → TellsDead hyps n budget mult → k.items ≡ nonzero_from 0 mult → IsDeadLine hyps n budget k
dead_line hyps n budget mult k t e = record {
  vector = record { whole = mult; outcome = t.outcome; items = e };
  shows = combines_same hyps (numbers mult) (entry_of k.items) (λ j l. ap (λ is. entry_of is j) e ∙ entry_is mult j (let m = t.outcome.vector.long in omega arith)) n _ _ t.shows;
}

pub live_line : (hyps : List Atom) (n budget : ℕ) (y : List Frac) (k : Sparse) → TellsLive hyps n budget y → k.items ≡ nonzero_from 0 y → IsLiveLine hyps n budget k
live_line hyps n budget y k t e = record {
  vector = record { whole = y; outcome = t.outcome; items = e };
  shows = live_same hyps n (numbers y) (entry_of k.items) (λ i l. ap (λ is. entry_of is i) e ∙ entry_is y i (let m = t.outcome.vector.long in omega arith)) t.shows;
}

pub line_done_dead : (hyps : List Atom) (n budget : ℕ) (k : Sparse) (site : Site) → IsDeadLine hyps n budget k → IsDone budget (ask site (empty_problem hyps n))
line_done_dead hyps n budget k site h = (h.vector.outcome.comes.pivots, Optimal, h.vector.outcome.table, h.vector.outcome.comes.answer)

pub line_done_live : (hyps : List Atom) (n budget : ℕ) (k : Sparse) (site : Site) → IsLiveLine hyps n budget k → IsDone budget (ask site (empty_problem hyps n))
line_done_live hyps n budget k site h = (h.vector.outcome.comes.pivots, Infeasible, h.vector.outcome.table, h.vector.outcome.comes.answer)
