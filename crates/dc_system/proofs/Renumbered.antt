-- New numbers for the locations that are left keep the paths; and the laws of a folded system.
use Rattle.std.specs.Prelude.{◌≡◌, ◌↔◌, ◌⊎◌, ℕ, suc, ◌-◌, ◌≤◌, ◌<◌, not, eqb, if◌then◌else◌, List, map, length, ℤ, pos, Some, None, refl}
use Rattle.std.specs.List.{AllByRecursion}
use Rattle.std.proofs.Common.{sym, ◌∙◌, ap, subst, arith, inl, inr}
use Rattle.std.proofs.lemmas.Bool.{ne_eqb}
use Rattle.std.proofs.lemmas.List.{length-map}
use Rattle.dc_math.specs.Members.{Among, each_among, among_each, among_map, Mapped, mapped_among, among_filter}
use Rattle.dc_syntax.specs.declared.tree.Proc.{Proc}
use Rattle.dc_syntax.specs.Value.{State}
use Rattle.dc_syntax.specs.Run.{Run}
use Rattle.dc_system.specs.declared.edges.Edge.{Edge}
use Rattle.dc_system.specs.declared.edges.System.{System}
use Rattle.dc_system.specs.Systems.{system_of, size_fault}
use Rattle.dc_program.specs.Programs.{IsProgram}
use Rattle.dc_system.specs.Paths.{Step, Path, here, along}
use Rattle.dc_system.specs.Shapes.{IsUnchosen, IsEdge, IsWithin, IsWellFormed}
use Rattle.dc_system.specs.Folded.{fold_at, folded, without, Folding, unfolded, fold_least, numbers_below, number_in, renumbered, IsFolded}
use Rattle.dc_system.specs.Spots.{Between, IsLast, Net}
use Rattle.dc_system.specs.Laws.{Through}
use Rattle.dc_system.proofs.Filters.{length-filter, number_rises, number_same, number_none, last_number, last_without, in_numbers, length-numbers, last_numbers}
use Rattle.dc_system.proofs.Folds.{Joined, joined_at, c_from, c_to, was, first_in, second_in, fold_paths}
use Rattle.dc_system.proofs.Composite.{compose_edge}
use Rattle.dc_system.proofs.Runs.{paths_runs}
use Rattle.dc_system.proofs.Shape.{shaped}

-- ---- new numbers
step_renumbered : (left : List ℕ) (g : Edge) (s t : State) (z c : ℤ) → Step g s z c t → Step (renumbered left g) s z c t
step_renumbered left g s t z c w = record { passes = w.passes; costs = w.costs; moves = w.moves }

step_before : (left : List ℕ) (g : Edge) (s t : State) (z c : ℤ) → Step (renumbered left g) s z c t → Step g s z c t
step_before left g s t z c w = record { passes = w.passes; costs = w.costs; moves = w.moves }

to_new : (left : List ℕ) (es : List Edge) {k y : ℕ} {s t : State} {a : ℤ} → Path es k s a y t → Path (map (renumbered left) es) (number_in left k) s a (number_in left y) t
to_new left es here = here
to_new left es (along {s = s} {m = m} {c = c} g z i q w p) = along (renumbered left g) z (among_map (renumbered left) i) (ap (number_in left) q) (step_renumbered left g s m z c w) (to_new left es p)

to_old : (left : List ℕ) (es : List Edge) → Between left es → {i j : ℕ} {s t : State} {a : ℤ} (k y : ℕ) → Among k left → Among y left → i ≡ number_in left k → j ≡ number_in left y → Path (map (renumbered left) es) i s a j t → Path es k s a y t
to_old left es b {s = s} k y u v e f here = let q : k ≡ y = number_same left k y u v (sym e ∙ f) in subst (λ h. Path es k s (pos 0) h s) q here
to_old left es b {s = s} k y u v e f (along {m = m} {c = c} g z i q w p) =
    let h : Mapped (renumbered left) g es = mapped_among (renumbered left) es i in
    let o : h.of.from ≡ k = number_same left h.of.from k (b h.of h.among).0 u (ap (λ (x : Edge). x.from) (sym h.is) ∙ q ∙ e) in
    along h.of z h.among o (step_before left h.of s m z c (subst (λ x. Step x s z c m) h.is w))
    (to_old left es b h.of.to y (b h.of h.among).1 v (ap (λ (x : Edge). x.to) h.is) f p)

-- new numbers change nothing but the numbers
pub renumbered_paths : (left : List ℕ) (es : List Edge) → Between left es → (k y : ℕ) (s t : State) (a : ℤ) → Among k left → Among y left → Path (map (renumbered left) es) (number_in left k) s a (number_in left y) t ↔ Path es k s a y t
renumbered_paths left es b k y s t a u v = ((λ p. to_old left es b k y u v refl refl p), λ p. to_new left es p)

-- and one fold keeps the paths between other locations
pub one_fold_paths : (n x : ℕ) (es : List Edge) (l : ℕ) (c : Edge) → AllByRecursion (IsEdge n) es → fold_at n x es l ≡ Some c → (s : State) (a : ℤ) (t : State) → length s ≡ n → Path (folded l c es) 0 s a x t ↔ Path es 0 s a x t
one_fold_paths n x es l c h q s a t o =
    let J = joined_at n x l es c q in
    fold_paths n x l es c J (λ g i. each_among (IsEdge n) h i) 0 x s t a (λ e. J.not_entry (sym e)) (λ e. J.not_exit (sym e)) o

-- ---- what foldings keep
-- and how it compares with what it began with
pub record Kept (start : List ℕ) (begun : List Edge) (n x : ℕ) (left : List ℕ) (es : List Edge) : Type 0 where
  pub net : Net n x left es
  pub fewer : length left ≤ length start
  pub fewer_edges : length es ≤ length begun
  pub paths : (s : State) (a : ℤ) (t : State) → length s ≡ n → Path es 0 s a x t ↔ Path begun 0 s a x t

left_still : (l k : ℕ) (left : List ℕ) → (k ≡ l → ⊥) → Among k left → Among k (without l left)
left_still l k left h i = among_filter (λ j. not (eqb j l)) k left (ap not (ne_eqb k l h)) i

length-folded : (l : ℕ) (c : Edge) (es : List Edge) → length (folded l c es) ≤ length es
length-folded l c es =
    let a = length-filter (λ (e : Edge). not (eqb e.from l)) (map (λ (e : Edge). if eqb e.to l then c else e) es) in
    let b = length-map es (λ (e : Edge). if eqb e.to l then c else e) in
    omega arith

net_folds : (n x l : ℕ) (left : List ℕ) (es : List Edge) (c : Edge) → n ≤ 10 → Net n x left es → Joined n x l es c → Net n x (without l left) (folded l c es)
net_folds n x l left es c h N J =
    record {
      shape = λ g i. shape_of g (was n x l es c J g i);
      between = λ g i. ends_of g (was n x l es c J g i);
      entry = left_still l 0 left (λ e. J.not_entry (sym e)) N.entry;
      last = last_without l x left J.not_exit N.last;
      exit = left_still l x left (λ e. J.not_exit (sym e)) N.exit;
    }
  where
    made : IsEdge n c
    made = compose_edge n J.first J.second c h (N.shape J.first (first_in n x l es c J)) (N.shape J.second (second_in n x l es c J)) J.made

    shape_of : (g : Edge) → (g ≡ c) ⊎ (Among g es × (g.to ≡ l → ⊥) × (g.from ≡ l → ⊥)) → IsEdge n g
    shape_of g (inl e) = subst (IsEdge n) (sym e) made
    shape_of g (inr i) = N.shape g i.0

    c_ends : Among c.from (without l left) × Among c.to (without l left)
    c_ends = (
      subst (λ k. Among k (without l left)) (sym (c_from n x l es c J)) (left_still l J.first.from left J.no_loop_in (N.between J.first (first_in n x l es c J)).0),
      subst (λ k. Among k (without l left)) (sym (c_to n x l es c J)) (left_still l J.second.to left J.no_loop_out (N.between J.second (second_in n x l es c J)).1),
    )

    ends_of : (g : Edge) → (g ≡ c) ⊎ (Among g es × (g.to ≡ l → ⊥) × (g.from ≡ l → ⊥)) → Among g.from (without l left) × Among g.to (without l left)
    ends_of g (inl e) = subst (λ (y : Edge). Among y.from (without l left) × Among y.to (without l left)) (sym e) c_ends
    ends_of g (inr i) = (left_still l g.from left i.2 (N.between g i.0).0, left_still l g.to left i.1 (N.between g i.0).1)

pub foldings_keep : (n x : ℕ) (start : List ℕ) (begun : List Edge) → n ≤ 10 → Net n x start begun → {left : List ℕ} {es : List Edge} → Folding n x start begun left es → Kept start begun n x left es
foldings_keep n x start begun h N unfolded = record { net = N; fewer = omega arith; fewer_edges = omega arith; paths = λ s a t l. ((λ p. p), λ p. p) }
foldings_keep n x start begun h N (fold_least {left = left} {es = es} F l c q m) =
    let K : Kept start begun n x left es = foldings_keep n x start begun h N F in
    let J = joined_at n x l es c q in
    let P : (s : State) (a : ℤ) (t : State) → length s ≡ n → Path (folded l c es) 0 s a x t ↔ Path es 0 s a x t = λ s a t o. fold_paths n x l es c J K.net.shape 0 x s t a (λ e. J.not_entry (sym e)) (λ e. J.not_exit (sym e)) o in
    record {
      net = net_folds n x l left es c h K.net J;
      fewer = (let a = length-filter (λ j. not (eqb j l)) left in let b = K.fewer in omega arith);
      fewer_edges = (let a = length-folded l c es in let b = K.fewer_edges in omega arith);
      paths = λ s a t o. ((λ p. (K.paths s a t o).0 ((P s a t o).0 p)), λ p. (P s a t o).1 ((K.paths s a t o).1 p));
    }

-- ---- at the start
pub starts : (y : System) → IsWellFormed y → Net y.vars (y.locs - 1) (numbers_below y.locs) y.edges
starts y w =
    let e : suc (y.locs - 1) ≡ y.locs = (let a = w.some_location in omega arith) in
    record {
      shape = λ g i. each_among (IsEdge y.vars) w.edges i;
      between = λ g i. let b : IsWithin y.locs g = each_among (IsWithin y.locs) w.ends i in (in_numbers g.from y.locs b.from, in_numbers g.to y.locs b.to);
      entry = in_numbers 0 y.locs (let a = w.some_location in omega arith);
      last = subst (λ k. IsLast (numbers_below k) (y.locs - 1)) e (last_numbers (y.locs - 1));
      exit = in_numbers (y.locs - 1) y.locs (let a = w.some_location in omega arith);
    }

keeps : (y : System) (f : System) → IsWellFormed y → (F : IsFolded y f) → Kept (numbers_below y.locs) y.edges y.vars (y.locs - 1) F.left F.edges
keeps y f w F = foldings_keep y.vars (y.locs - 1) (numbers_below y.locs) y.edges w.few_vars (starts y w) F.folding

pub folded_paths : (y f : System) → IsWellFormed y → IsFolded y f → (s : State) (c : ℤ) (t : State) → length s ≡ y.vars → Through f s c t ↔ Through y s c t
folded_paths y f w F s c t h =
    let K = keeps y f w F in
    let x : ℕ = y.locs - 1 in
    let z = number_none F.left in
    let o : length F.left - 1 ≡ number_in F.left x = (let a = last_number F.left x K.net.last in omega arith) in (
      (λ p. (K.paths s c t h).0 (to_old F.left F.edges K.net.between 0 x K.net.entry K.net.exit (sym z) o (subst (λ (v : System). Through v s c t) F.is p))),
      λ p. subst (λ (v : System). Through v s c t) (sym F.is) (subst (λ i. Path (map (renumbered F.left) F.edges) i s c (length F.left - 1) t) z (subst (λ j. Path (map (renumbered F.left) F.edges) (number_in F.left 0) s c j t) (sym o) (to_new F.left F.edges ((K.paths s c t h).1 p)))),
    )

edge_renumbered : (n : ℕ) (left : List ℕ) (g : Edge) → IsEdge n g → IsEdge n (renumbered left g)
edge_renumbered n left g h = record {
  one_each = h.one_each;
  updates = h.updates;
  cost = h.cost;
  few_atoms = h.few_atoms;
  atoms = h.atoms;
  unchosen = λ q. let u : IsUnchosen n g = h.unchosen q in record { guard = u.guard; update = u.update; cost = u.cost };
}

pub folded_shaped : (y f : System) → IsWellFormed y → IsFolded y f → IsWellFormed f
folded_shaped y f w F =
    let K = keeps y f w F in
    let a = K.fewer in
    let b = length-numbers y.locs in
    let d = w.few_locations in
    let g = K.fewer_edges in
    let i = length-map F.edges (renumbered F.left) in
    let j = w.few_edges in
    let o = last_number F.left (y.locs - 1) K.net.last in
    subst IsWellFormed (sym F.is) (record {
      few_vars = w.few_vars;
      params_first = w.params_first;
      some_location = omega arith;
      few_locations = omega arith;
      few_edges = omega arith;
      ends = among_each (IsWithin (length F.left)) (map (renumbered F.left) F.edges) (λ e m. end_of e (mapped_among (renumbered F.left) F.edges m));
      edges = among_each (IsEdge y.vars) (map (renumbered F.left) F.edges) (λ e m. let q = mapped_among (renumbered F.left) F.edges m in subst (IsEdge y.vars) (sym q.is) (edge_renumbered y.vars F.left q.of (K.net.shape q.of q.among)));
      small_literals = w.small_literals;
    })
  where
    below_last : (k : ℕ) → Among k F.left → number_in F.left k < length F.left
    below_last k m =
        let L = (keeps y f w F).net.last in
        let o = last_number F.left (y.locs - 1) L in
        let r = number_rises F.left k (y.locs - 1) (L.greatest k m) in
        omega arith

    end_of : (e : Edge) → Mapped (renumbered F.left) e F.edges → IsWithin (length F.left) e
    end_of e q = subst (IsWithin (length F.left)) (sym q.is) (let b = (keeps y f w F).net.between q.of q.among in record { from = below_last q.of.from b.0; to = below_last q.of.to b.1 })

pub folded_runs : (p : Proc) (f : System) → IsProgram p → size_fault p ≡ None → IsFolded (system_of p) f → (s : State) (c : ℤ) (t : State) → length s ≡ length p.names → Through f s c t ↔ Run p.body s c t
folded_runs p f a z F s c t h =
    let u = folded_paths (system_of p) f (shaped p a z) F s c t h in
    let v = paths_runs p a s c t h in
    ((λ w. v.0 (u.0 w)), λ r. u.1 (v.1 r))
