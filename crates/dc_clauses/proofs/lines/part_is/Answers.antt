use Rattle.std.proofs.Common.{rules, SFits, ◌∙◌, ap, length}
use Rattle.std.proofs.lemmas.Int.{to_z-of_z}
use mir.Syntax.{w128}
use Rattle.dc_math.specs.Rational.{of_ℤ}
use Rattle.dc_math.specs.Tests.{eq_ℚ}
use Rattle.dc_frac.specs.Value.{value}
use Rattle.dc_lp.proofs.Checking.{tested, equals}
use Rattle.dc_clauses.specs.Hyps.{atoms_of}
use Rattle.dc_lp.specs.Folds.{folded}
use Rattle.dc_cert.specs.Vectors.{entry_of}
use Rattle.dc_clauses.specs.Lines.{part_sum}
use Rattle.dc_clauses.proofs.Parts.{row}
use Rattle.dc_clauses.proofs.lines.part_is.Goals as goal

pub returns : goal.returns
returns c =
    let f : SFits w128 c.args.number.now = search rules in
    let w = simp to_z-of_z at c.whole.ensures in
    tested (λ s. eq_ℚ s (of_ℤ c.args.number.now)) (part_sum (atoms_of c.args.hyps.now) c.args.places c.args.v.now c.args.place) (value c.in_ok-sum.sum) c.eq.result
    (c.in_ok-sum.ensures ∙ ap (λ is. folded (length (atoms_of c.args.hyps.now)) (row (atoms_of c.args.hyps.now) c.args.places c.args.place) (entry_of is)) c.as_slice.ensures)
    (equals c.in_ok-sum.sum c.whole.result c.eq.result (of_ℤ c.args.number.now) c.eq.ensures w)
