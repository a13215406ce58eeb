use Rattle.std.specs.List.{AllByRecursion}
use Rattle.std.proofs.Common.{ℕ, sym, ◌∙◌, subst, refl}
use Rattle.dc_affine.specs.Atoms.{IsAtom}
use Rattle.dc_cert.specs.Ranges.{is_live}
use Rattle.dc_invariant.proofs.Keepings.{cut_atoms, line_as, flag_as, line_fault, line_fault_as, dead_part, live_part, kept_live, along_part_fault}
use Rattle.dc_invariant.proofs.keeping.edge_part.Goals as goal

pub line-requires : goal.line-requires
line-requires g c =
    record { atoms = subst (λ (k : ℕ). AllByRecursion (IsAtom k) c.deref.result.now) (sym c.edge_places-places.ensures) (cut_atoms c.args.t.now c.requires.lent c.args.edge.now c.requires.edge c.deref.result.now (c.deref.ensures.value ∙ c.in_ok-hyps.ensures)) }

pub returns-in-Err-clause-fault : goal.returns-in-Err-clause-fault
returns-in-Err-clause-fault g c =
    line_fault c.args.t.now c.requires.lent c.args.edge.now c.requires.edge c.args.edge_number c.in-Err.fault
    (line_fault_as c.args.t.now c.requires.lent c.args.edge.now c.requires.edge c.args.edge_number c.deref.result.now c.edge_places-places.result c.in-Err.fault (c.deref.ensures.value ∙ c.in_ok-hyps.ensures) c.edge_places-places.ensures (c.in-Err.ensures {u = tt}).fault)

pub returns-then-not-is_live-clause-answer : goal.returns-then-not-is_live-clause-answer
returns-then-not-is_live-clause-answer g c =
    dead_part c.args.t.now c.requires.lent c.args.edge.now c.requires.edge c.args.edge_number c.in-Ok.live (line_as c.args.t.now c.requires.lent c.args.edge.now c.requires.edge c.deref.result.now c.edge_places-places.result c.in-Ok.live (c.deref.ensures.value ∙ c.in_ok-hyps.ensures) c.edge_places-places.ensures (c.in-Ok.ensures {u = tt}).answer) (flag_as c.args.t.now c.requires.lent c.args.edge.now c.requires.edge c.deref.result.now (is_live c.in-Ok.live) (c.deref.ensures.value ∙ c.in_ok-hyps.ensures) (c.in-Ok.ensures {u = tt}).flag)
    (record { live = c.in-Ok.live; keeps = c.new-keeps.result }) refl c.new-keeps.ensures (sym c.is_live.ensures ∙ c.if-not-is_live.true)

pub edge_keeps-requires-clause-hyps : goal.edge_keeps-requires-clause-hyps
edge_keeps-requires-clause-hyps g c = c.deref-2.ensures.value ∙ c.in_ok-hyps.ensures

pub edge_keeps-requires-clause-live : goal.edge_keeps-requires-clause-live
edge_keeps-requires-clause-live g c = kept_live c.args.t.now c.requires.lent c.args.edge.now c.requires.edge c.args.edge_number c.in-Ok.live (line_as c.args.t.now c.requires.lent c.args.edge.now c.requires.edge c.deref.result.now c.edge_places-places.result c.in-Ok.live (c.deref.ensures.value ∙ c.in_ok-hyps.ensures) c.edge_places-places.ensures (c.in-Ok.ensures {u = tt}).answer) (flag_as c.args.t.now c.requires.lent c.args.edge.now c.requires.edge c.deref.result.now (is_live c.in-Ok.live) (c.deref.ensures.value ∙ c.in_ok-hyps.ensures) (c.in-Ok.ensures {u = tt}).flag) (sym c.is_live.ensures ∙ c.if-not-is_live.false)

pub returns-in-Ok-edge_keeps-clause-answer : goal.returns-in-Ok-edge_keeps-clause-answer
returns-in-Ok-edge_keeps-clause-answer g c =
    live_part c.args.t.now c.requires.lent c.args.edge.now c.requires.edge c.args.edge_number c.in-Ok.live (line_as c.args.t.now c.requires.lent c.args.edge.now c.requires.edge c.deref.result.now c.edge_places-places.result c.in-Ok.live (c.deref.ensures.value ∙ c.in_ok-hyps.ensures) c.edge_places-places.ensures (c.in-Ok.ensures {u = tt}).answer) (flag_as c.args.t.now c.requires.lent c.args.edge.now c.requires.edge c.deref.result.now (is_live c.in-Ok.live) (c.deref.ensures.value ∙ c.in_ok-hyps.ensures) (c.in-Ok.ensures {u = tt}).flag)
    (record { live = c.in-Ok.live; keeps = c.in-Ok-edge_keeps.keeps }) c.in-Ok-edge_keeps.keeps refl refl (sym c.is_live.ensures ∙ c.if-not-is_live.false) (c.in-Ok-edge_keeps.ensures {u = tt}).answer

pub returns-clause-fault : goal.returns-clause-fault
returns-clause-fault g c =
    along_part_fault c.args.t.now c.requires.lent c.args.edge.now c.requires.edge c.args.edge_number c.in-Ok.live (line_as c.args.t.now c.requires.lent c.args.edge.now c.requires.edge c.deref.result.now c.edge_places-places.result c.in-Ok.live (c.deref.ensures.value ∙ c.in_ok-hyps.ensures) c.edge_places-places.ensures (c.in-Ok.ensures {u = tt}).answer) (flag_as c.args.t.now c.requires.lent c.args.edge.now c.requires.edge c.deref.result.now (is_live c.in-Ok.live) (c.deref.ensures.value ∙ c.in_ok-hyps.ensures) (c.in-Ok.ensures {u = tt}).flag) (sym c.is_live.ensures ∙ c.if-not-is_live.false)
    c.in-Err-edge_keeps.fault (c.in-Err-edge_keeps.ensures {u = tt}).fault
