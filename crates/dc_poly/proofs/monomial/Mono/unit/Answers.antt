use Rattle.std.proofs.Common.{◌≡◌, ◌∙◌, List, Ok, Err, Result, IfOk, ℕ}
use Rattle.dc_poly.proofs.Monos.{unit_taken}
use Rattle.dc_poly.proofs.monomial.Mono.unit.Goals as goal

along : {E : Type 0} (r : Result (List ℕ) E) (x y : List ℕ) → x ≡ y → IfOk r (λ m. m ≡ x) → IfOk r (λ m. m ≡ y)
along (Ok m) x y e h = h ∙ e
along (Err m) x y e h = h

pub returns-clause-value : goal.returns-clause-value
returns-clause-value c =
    along c.from_slice.result _ _ (unit_taken c.args.places 11 c.args.index c.requires.inside c.requires.few) c.from_slice.ensures.value
