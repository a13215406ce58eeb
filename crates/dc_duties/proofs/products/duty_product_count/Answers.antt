use Rattle.std.proofs.Common.{◌∙◌, ap, length}
use Rattle.dc_handelman.specs.Choices.{choices_of}
use Rattle.dc_duties.proofs.products.duty_product_count.Goals as goal

pub returns : goal.returns
returns c = c.product_count.ensures ∙ ap (λ n. length (choices_of n c.args.k)) c.atom_count.ensures.count
