use Rattle.std.proofs.Common.{◌≡◌, drop}
use Rattle.dc_poly.specs.NormalForm.{coefs_fit}
use Rattle.dc_affine.proofs.form.in_range.Given as goal

abbrev pub invariant-loop-term : goal.invariant-loop-term
invariant-loop-term l = coefs_fit (drop l.term-index l.term-items) ≡ coefs_fit l.term-items
