use Rattle.std.proofs.Common.{ap, sym, ◌∙◌, map}
use Rattle.std.specs.Str.{bytes_eq}
use Rattle.std.specs.String.{string_bytes}
use Rattle.std.proofs.lemmas.List.{length-map}
use Rattle.dc_descent.proofs.Positions.{none_before_first, none_before_next, found, not_found, bytes_at}
use Rattle.dc_descent.proofs.scope.place_of.Goals as goal

pub loop-place-init : goal.loop-place-init
loop-place-init c = none_before_first (map string_bytes c.args.names.now) c.args.name.now

pub loop-place-preserved : goal.loop-place-preserved
loop-place-preserved c =
    none_before_next (map string_bytes c.args.names.now) c.args.name.now c.loop-place.place c.loop-place.invariant
    (ap (bytes_eq c.args.name.now) (sym (bytes_at c.args.names.now c.loop-place.place c.index-names-place.result _ c.loop-place-test.true c.index-names-place.is c.as_bytes.ensures.value)) ∙ sym c.eq.ensures ∙ c.if-eq.false)

pub returns-then-eq : goal.returns-then-eq
returns-then-eq c =
    found (map string_bytes c.args.names.now) c.args.name.now c.loop-place.place (rw length-map c.loop-place-test.true) c.loop-place.invariant
    (ap (bytes_eq c.args.name.now) (sym (bytes_at c.args.names.now c.loop-place.place c.index-names-place.result _ c.loop-place-test.true c.index-names-place.is c.as_bytes.ensures.value)) ∙ sym c.eq.ensures ∙ c.if-eq.true)

pub returns : goal.returns
returns c = not_found (map string_bytes c.args.names.now) c.args.name.now c.loop-place.place (rw length-map c.loop-place-test.false) (rw length-map c.loop-place.auto.place-end) c.loop-place.invariant
