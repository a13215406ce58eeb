use Rattle.std.proofs.Common.{◌≡◌, ◌∙◌, sym, map}
use Rattle.std.specs.String.{string_bytes}
use Rattle.dc_syntax.specs.Params.{params_of}
use Rattle.dc_syntax.proofs.Keys.{texts_equal}
use Rattle.dc_syntax.proofs.params.same_params.Goals as goal

pub returns-then-a-b : goal.returns-then-a-b
returns-then-a-b c =
    let d : _ = texts_equal c.first_names.result.now c.first_names-then-a-b.result.now c.eq.result c.eq.ensures in
    let e : map string_bytes c.first_names.result.now ≡ params_of c.args.a.now = c.first_names.ensures in
    let f : map string_bytes c.first_names-then-a-b.result.now ≡ params_of c.args.b.now = c.first_names-then-a-b.ensures in
    (λ h. (c.if-a-b.true, sym e ∙ d.0 h ∙ f), λ h. d.1 (e ∙ h.1 ∙ sym f))
