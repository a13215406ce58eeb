-- The paths of the system of a body are the walks of its graph, and so its runs.
use Rattle.std.specs.Prelude.{◌≡◌, ◌↔◌, ℕ, zero, suc, ◌+◌, ◌-◌, List, map, length, ℤ, ◌+ℤ◌, refl}
use Rattle.std.proofs.Common.{sym, ◌∙◌, ap, subst, arith}
use Rattle.std.proofs.Math.ListN.{length-set}
use Rattle.dc_math.specs.Members.{among_map, Mapped, mapped_among}
use Rattle.dc_syntax.specs.declared.tree.Proc.{Proc}
use Rattle.dc_syntax.specs.Value.{State}
use Rattle.dc_syntax.specs.Run.{Run}
use Rattle.dc_graph.specs.Labels.{Label, Arrow, arrow}
use Rattle.dc_graph.specs.Pieces.{exit_of, arrows_of}
use Rattle.dc_graph.specs.Walks.{Acts, idles, set, picked, picked_in, paid, tested, Walk, done, step, Walks}
use Rattle.dc_graph.proofs.Back.{walk_to_run, run_to_walk}
use Rattle.dc_system.specs.declared.edges.Edge.{Edge}
use Rattle.dc_system.specs.Edges.{edge_of}
use Rattle.dc_system.specs.Systems.{system_of}
use Rattle.dc_program.specs.Programs.{IsProgram}
use Rattle.dc_system.proofs.Accepted.{accepted}
use Rattle.dc_system.specs.Paths.{Step, Path, here, along}
use Rattle.dc_system.specs.Laws.{Through}
use Rattle.dc_system.proofs.Points.{acts_step, step_acts}
use Rattle.dc_system.proofs.Labels.{Labelled, labels_pass}

Acts-length : {a : Label} {s t : State} {c : ℤ} → Acts a s c t → length t ≡ length s
Acts-length idles = refl
Acts-length (set {s = s} x e) = length-set s x _
Acts-length (picked {s = s} x z) = length-set s x z
Acts-length (picked_in {s = s} x a b z h g) = length-set s x z
Acts-length (paid e) = refl
Acts-length (tested f h) = refl

walk_path : (n : ℕ) (E : List Arrow) → Labelled n E → {i k l : ℕ} {s t : State} {c : ℤ} → length s ≡ n → Walk E i k s c l t → Path (map (edge_of n) E) k s c l t
walk_path n E b h done = here
walk_path n E b h (step {k = k} {s = s} {m = m} {c = c} j a i x p) =
    let w = acts_step n k j a s m c h (b (arrow k j a) i) x in
    along (edge_of n (arrow k j a)) w.0 (among_map (edge_of n) i) refl w.1 (walk_path n E b (Acts-length x ∙ h) p)

path_walk : (n : ℕ) (E : List Arrow) → Labelled n E → {k l : ℕ} {s t : State} {c : ℤ} → length s ≡ n → Path (map (edge_of n) E) k s c l t → Walks E k s c l t
path_walk n E b h here = (zero, done)
path_walk n E b {k} {l} {s} {t} h (along {m = m} {c = c} {d = d} e z i f w p) =
    let q : Mapped (edge_of n) e E = mapped_among (edge_of n) E i in
    let g : q.of.from ≡ k = ap (λ (x : Edge). x.from) (sym q.is) ∙ f in
    let x : Acts q.of.label s c m = step_acts n q.of.from q.of.to q.of.label s m c z h (b q.of q.among) (subst (λ y. Step y s z c m) q.is w) in
    let r = path_walk n E b (Acts-length x ∙ h) p in
    let j : e.to ≡ q.of.to = ap (λ (x : Edge). x.to) q.is in
    (suc r.0, subst (λ y. Walk E (suc r.0) y s (c +ℤ d) l t) g (step q.of.to q.of.label q.among x (subst (λ y. Walk E r.0 y m d l t) j r.1)))

pub paths_runs : (p : Proc) → IsProgram p → (s : State) (c : ℤ) (t : State) → length s ≡ length p.names → Through (system_of p) s c t ↔ Run p.body s c t
paths_runs p program s c t h =
    let a = accepted p program in
    let n = length p.names in
    let b = labels_pass n p.body a.passes a.limited in
    let e : exit_of p.body + 1 - 1 ≡ exit_of p.body = omega arith in (
      (λ w. walk_to_run p.body s t c (path_walk n (arrows_of p.body) b h (subst (λ x. Path (map (edge_of n) (arrows_of p.body)) 0 s c x t) e w))),
      λ r. subst (λ x. Path (map (edge_of n) (arrows_of p.body)) 0 s c x t) (sym e) (walk_path n (arrows_of p.body) b h (run_to_walk p.body s t c r).1),
    )
