-- The system of an accepted procedure within the limits is well formed.
use Rattle.std.specs.Prelude.{◌≡◌, ℕ, zero, suc, ◌+◌, ◌≤◌, ◌<◌, Bool, true, false, ltb, if◌then◌else◌, List, [], ◌∷◌, map, length, slice_set, slice_index_or, ℤ, pos, Some, None, refl}
use Rattle.std.specs.List.{AllByRecursion}
use Rattle.std.proofs.Common.{sym, ◌∙◌, ap, subst, arith, ltb-false}
use Rattle.std.proofs.Math.ListN.{length-set}
use Rattle.std.proofs.lemmas.List.{length-map}
use Rattle.dc_math.specs.Members.{each-++, among_each, Mapped, mapped_among}
use Rattle.dc_syntax.specs.declared.tree.Expr.{Expr}
use Rattle.dc_syntax.specs.declared.tree.Expr.TheVariants.{Var}
use Rattle.dc_syntax.specs.declared.tree.Proc.{Proc}
use Rattle.dc_poly.specs.Terms.{Exponents, TermList, coef, Places, Polynomial}
use Rattle.dc_poly.specs.Sums.{zeros, unit_at, constant_of, variable}
use Rattle.dc_poly.specs.Affine.{units}
use Rattle.dc_poly.proofs.Closed.{is_constant, is_variable}
use Rattle.dc_poly.specs.NormalForm.{IsNormalForm}
use Rattle.dc_affine.specs.Forms.{formed, form_of, is_below}
use Rattle.dc_affine.specs.Table.{Fact, fact}
use Rattle.dc_affine.specs.Atoms.{atom_of, gap_of}
use Rattle.dc_affine.proofs.FormLaws.{form_proper}
use Rattle.dc_graph.specs.Labels.{Label, Arrow, arrow, idle, sets, picks, picks_in, pays, tests}
use Rattle.dc_graph.specs.Pieces.{arrows_of}
use Rattle.dc_graph.proofs.Inside.{edges_inside}
use Rattle.dc_system.specs.declared.edges.Edge.{Edge}
use Rattle.dc_system.specs.declared.edges.SystemFault.{SystemFault}
use Rattle.dc_system.specs.Edges.{variables, unchanged, chosen, free, edge_of}
use Rattle.dc_system.specs.Literals.{numbers_of}
use Rattle.dc_system.specs.Systems.{system_of, size_fault, locations_of, edges_of}
use Rattle.dc_program.specs.Programs.{IsProgram}
use Rattle.dc_system.proofs.Accepted.{accepted}
use Rattle.dc_system.specs.Shapes.{IsForm, TermsSkip, Skips, AtomSkips, IsEdge, IsWithin, IsWellFormed}
use Rattle.dc_system.proofs.Wider.{widened, wide_last, form_wider, gap_wider, wide_coef_last}
use Rattle.dc_system.proofs.Pushed.{length-variables}
use Rattle.dc_system.proofs.Weights.{form_polynomial}
use Rattle.dc_system.proofs.Bounded.{wide_narrow}
use Rattle.dc_affine.proofs.FactAtoms.{gap_padded, all_within}
use Rattle.dc_system.proofs.Chosen.{lower_affine, upper_affine}
use Rattle.dc_system.proofs.Differences.{variable_narrow}
use Rattle.dc_system.proofs.Points.{FactBelow, LabelPasses}
use Rattle.dc_system.proofs.Points as points
use Rattle.dc_system.proofs.Labels.{labels_pass}
use Rattle.dc_system.proofs.Literal.{with_numbers_each}

-- ---- forms
pub variable_form : (k n : ℕ) → n ≤ 10 → IsForm (n + 1) (variable k (n + 1))
variable_form k n h = record { has_places = refl; kind = is_variable k (n + 1) (omega arith); narrow = variable_narrow k (n + 1) }

zero_narrow : (m : ℕ) → IsNormalForm (constant_of (pos 0) m)
zero_narrow m = record { low = omega arith; fits = refl }

free_form : (n : ℕ) → n ≤ 10 → IsForm (n + 1) (free n)
free_form n h = record { has_places = refl; kind = is_constant (pos 0) (n + 1) (omega arith) (omega arith); narrow = zero_narrow (n + 1) }

expr_form : (n : ℕ) (e : Expr) → n ≤ 10 → points.IsPassed n e → IsForm (n + 1) (form_of (n + 1) e)
expr_form n e h p =
    let k = wide_narrow n e p.below p.faultless in
    let q = form_proper (n + 1) e in
    record { has_places = refl; kind = form_polynomial (n + 1) (formed (n + 1) e).terms (omega arith) q.in_order q.padded k; narrow = k }

variables_forms : (n k : ℕ) → n ≤ 10 → AllByRecursion (IsForm (n + 1)) (variables (n + 1) k)
variables_forms n zero h = tt
variables_forms n (suc k) h = each-++ (IsForm (n + 1)) (variables (n + 1) k) (variable k (n + 1) ∷ []) (variables_forms n k h) (variable_form k n h, tt)

pub each_set : {A : Type 0} (P : A → Type 0) (xs : List A) (i : ℕ) (x : A) → AllByRecursion P xs → P x → AllByRecursion P (slice_set xs i x)
each_set P [] i x h p = tt
each_set P (y ∷ xs) zero x h p = (p, h.1)
each_set P (y ∷ xs) (suc i) x h p = (h.0, each_set P xs i x h.1 p)

set_length : (n x : ℕ) (p : Polynomial) → length (slice_set (unchanged n) x p) ≡ n
set_length n x p = length-set (unchanged n) x p ∙ length-variables (n + 1) n

-- ---- what mentions no chosen value
wide_skips : (n : ℕ) (p : TermList) → Places n p → TermsSkip n (widened p)
wide_skips n [] j = tt
wide_skips n (t ∷ p) j = (wide_last n t.mono j.0, wide_skips n p j.1)

expr_skips : (n : ℕ) (e : Expr) → is_below n e ≡ true → Skips n (form_of (n + 1) e)
expr_skips n e b = subst (TermsSkip n) (sym (form_wider n e b)) (wide_skips n (formed n e).terms (form_proper n e).padded)

other_unit : (m k n : ℕ) → (k ≡ n → ⊥) → slice_index_or (unit_at m k) n 0 ≡ 0
other_unit zero k n h = refl
other_unit (suc m) zero zero h = absurd (h refl)
other_unit (suc m) zero (suc n) h = zeros_at m n
  where
    zeros_at : (m n : ℕ) → slice_index_or (zeros m) n 0 ≡ 0
    zeros_at zero n = refl
    zeros_at (suc m) zero = refl
    zeros_at (suc m) (suc n) = zeros_at m n
other_unit (suc m) (suc k) zero h = refl
other_unit (suc m) (suc k) (suc n) h = other_unit m k n (λ e. h (omega arith))

variables_skip : (n k : ℕ) → k ≤ n → AllByRecursion (Skips n) (variables (n + 1) k)
variables_skip n zero h = tt
variables_skip n (suc k) h = each-++ (Skips n) (variables (n + 1) k) (variable k (n + 1) ∷ []) (variables_skip n k (omega arith)) ((other_unit (n + 1) k n (λ e. omega arith), tt), tt)

pub units_at : (f : Exponents → ℤ) (m k : ℕ) → k < m → slice_index_or (map f (units m)) k (pos 0) ≡ f (unit_at m k)
units_at f zero k h = absurd (omega arith)
units_at f (suc m) zero h = refl
units_at f (suc m) (suc k) h = behind f (units m) k ∙ units_at (λ u. f (0 ∷ u)) m k (omega arith)
  where
    behind : (f : Exponents → ℤ) (us : List Exponents) (k : ℕ) → slice_index_or (map f (map (λ u. 0 ∷ u) us)) k (pos 0) ≡ slice_index_or (map (λ u. f (0 ∷ u)) us) k (pos 0)
    behind f [] k = refl
    behind f (u ∷ us) zero = refl
    behind f (u ∷ us) (suc k) = behind f us k

fact_skips : (n : ℕ) (f : Fact) → FactBelow n f → AtomSkips n (atom_of (n + 1) f)
fact_skips n f h =
    units_at (coef (gap_of (n + 1) f.big f.small)) (n + 1) n (omega arith)
    ∙ ap (λ p. coef p (unit_at (n + 1) n)) (gap_wider n f.big f.small h.big h.small) ∙ wide_coef_last n (gap_of n f.big f.small) (gap_padded n f.big f.small)

facts_skip : (n : ℕ) (fs : List Fact) → AllByRecursion (FactBelow n) fs → AllByRecursion (AtomSkips n) (map (atom_of (n + 1)) fs)
facts_skip n [] h = tt
facts_skip n (f ∷ fs) h = (fact_skips n f h.0, facts_skip n fs h.1)

-- ---- each edge
edge_shaped : (n : ℕ) (a : Arrow) → n ≤ 10 → LabelPasses n a.label → IsEdge n (edge_of n a)
edge_shaped n a h p = by a.from a.to a.label p
  where
    by : (k l : ℕ) (x : Label) → LabelPasses n x → IsEdge n (edge_of n (arrow k l x))
    by k l idle p = record {
      one_each = length-variables (n + 1) n;
      updates = variables_forms n n h;
      cost = free_form n h;
      few_atoms = omega arith;
      atoms = tt;
      unchosen = λ q. record { guard = tt; update = variables_skip n n (omega arith); cost = tt };
    }
    by k l (sets x e) p = record {
      one_each = set_length n x (form_of (n + 1) e);
      updates = each_set (IsForm (n + 1)) (unchanged n) x (form_of (n + 1) e) (variables_forms n n h) (expr_form n e h p);
      cost = free_form n h;
      few_atoms = omega arith;
      atoms = tt;
      unchosen = λ q. record { guard = tt; update = each_set (Skips n) (unchanged n) x (form_of (n + 1) e) (variables_skip n n (omega arith)) (expr_skips n e p.below); cost = tt };
    }
    by k l (picks x) p = record {
      one_each = set_length n x (chosen n);
      updates = each_set (IsForm (n + 1)) (unchanged n) x (chosen n) (variables_forms n n h) (variable_form n n h);
      cost = free_form n h;
      few_atoms = omega arith;
      atoms = tt;
      unchosen = λ q. cc;
    }
    by k l (picks_in x e f) p = record {
      one_each = set_length n x (chosen n);
      updates = each_set (IsForm (n + 1)) (unchanged n) x (chosen n) (variables_forms n n h) (variable_form n n h);
      cost = free_form n h;
      few_atoms = omega arith;
      atoms = all_within (n + 1) (fact (Var n) e 0 ∷ fact f (Var n) 0 ∷ []) (lower_affine n e p.0, (upper_affine n f p.1, tt));
      unchosen = λ q. cc;
    }
    by k l (pays e) p = record {
      one_each = length-variables (n + 1) n;
      updates = variables_forms n n h;
      cost = expr_form n e h p;
      few_atoms = omega arith;
      atoms = tt;
      unchosen = λ q. record { guard = tt; update = variables_skip n n (omega arith); cost = expr_skips n e p.below };
    }
    by k l (tests f) p = record {
      one_each = length-variables (n + 1) n;
      updates = variables_forms n n h;
      cost = free_form n h;
      few_atoms = (let l = length-map f (atom_of (n + 1)) in let m = p.few in omega arith);
      atoms = all_within (n + 1) f p.affine;
      unchosen = λ q. record { guard = facts_skip n f p.below; update = variables_skip n n (omega arith); cost = tt };
    }

-- ---- the limits
no_fault_small : (l e : ℕ) (f g : SystemFault) → (if ltb 128 l then Some f else (if ltb 512 e then Some g else None)) ≡ None → (l ≤ 128) × (e ≤ 512)
no_fault_small l e f g h = by (ltb 128 l) refl (ltb 512 e) refl h
  where
    by : (b : Bool) → ltb 128 l ≡ b → (c : Bool) → ltb 512 e ≡ c → (if b then Some f else (if c then Some g else None)) ≡ None → (l ≤ 128) × (e ≤ 512)
    by true p c q h = cc
    by false p true q h = cc
    by false p false q h = (ltb-false 128 l p, ltb-false 512 e q)

-- ---- the whole
pub shaped : (p : Proc) → IsProgram p → size_fault p ≡ None → IsWellFormed (system_of p)
shaped p program f =
    let a = accepted p program in
    let n = length p.names in
    let l = no_fault_small (locations_of p) (length (edges_of p)) _ _ f in
    let b = labels_pass n p.body a.passes a.limited in
    record {
      few_vars = a.few_names;
      params_first = a.params_first;
      some_location = omega arith;
      few_locations = l.0;
      few_edges = l.1;
      ends = among_each (IsWithin (locations_of p)) (edges_of p) (λ e i. end_of e (mapped_among (edge_of n) (arrows_of p.body) i));
      edges = among_each (IsEdge n) (edges_of p) (λ e i. let m = mapped_among (edge_of n) (arrows_of p.body) i in subst (IsEdge n) (sym m.is) (edge_shaped n m.of a.few_names (b m.of m.among)));
      small_literals = with_numbers_each (λ k. k ≤ 2147483647) [] (numbers_of p.body) tt a.small_literals;
    }
  where
    end_of : (e : Edge) → Mapped (edge_of (length p.names)) e (arrows_of p.body) → IsWithin (locations_of p) e
    end_of e m = subst (IsWithin (locations_of p)) (sym m.is) (let i = edges_inside p.body m.of m.among in let u = i.0 in let v = i.1 in record { from = omega arith; to = omega arith })
