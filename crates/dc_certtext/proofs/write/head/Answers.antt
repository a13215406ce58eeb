use Rattle.std.specs.Prelude.{codes, ◌∷◌, [], map, length}
use Rattle.dc_certtext.specs.Text.{claim_lines, numbered, sizes_line, cases_lines, shown_line}
use Rattle.dc_cert.specs.Claims.{claim_of}
use Rattle.dc_lines.proofs.Lines.{joined₅}
use Rattle.dc_certtext.proofs.write.head.Goals as goal

pub returns : goal.returns
returns c =
    joined₅ c.args.out.now.items c.claim.new.out.items c.number.new.out.items c.sizes.new.out.items c.cases.new.out.items c.whens.new.out.items (claim_lines (claim_of c.args.c.now.body)) (numbered (codes "diffcost ") c.args.c.now.version ∷ [])
    (sizes_line c.args.c.now.degree c.args.c.now.products ∷ []) (cases_lines c.args.c.now.version (length c.args.c.now.when)) (map (shown_line (codes "when")) c.args.c.now.when) c.in_ok-claim.ensures c.in_ok-number.ensures
    c.in_ok-sizes.ensures c.in_ok-cases.ensures c.in_ok-whens.ensures
