use Rattle.std.specs.Prelude.{codes, ◌∷◌, []}
use Rattle.dc_certtext.specs.Text.{vector_line}
use Rattle.dc_lines.proofs.Lines.{joined}
use Rattle.dc_certtext.proofs.write.rays.Goals as goal

pub returns : goal.returns
returns c =
    joined c.args.out.now.items c.pair.new.out.items c.pair-2.new.out.items (vector_line (codes "unknown") c.args.unknown.now ∷ vector_line (codes "lambda") c.args.lambda.now ∷ [])
    (vector_line (codes "ray unknown") c.args.ray_unknown.now ∷ vector_line (codes "ray lambda") c.args.ray_lambda.now ∷ []) c.in_ok-pair.ensures c.in_ok-pair-2.ensures
