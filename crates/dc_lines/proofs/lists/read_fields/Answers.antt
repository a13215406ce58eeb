use Rattle.std.proofs.Common.{rules, SFits}
use Rattle.std.specs.Int.{w64}
use Rattle.std.proofs.lemmas.Int.{to_z-of_z}
use Rattle.dc_lines.proofs.Cutting.{some_is}
use Rattle.dc_lines.proofs.Listed.{listed_refuse, listed_step}
use Rattle.dc_lines.proofs.lists.read_fields.Goals as goal

pub returns-in_default : goal.returns-in_default
returns-in_default c = listed_refuse c.args.text.now c.fields.list.items c.fields.rest.now (some_is c.fields.rest.now c.fields-test.ensures) c.in_default.ensures c.fields.invariant

pub fields-preserved : goal.fields-preserved
fields-preserved c =
    let a : SFits w64 c.in-Some.next = search rules in
    let p = simp to_z-of_z at c.in_ok-push.ensures.items in
    listed_step c.args.text.now c.fields.list.items c.push.new.self.items c.fields.rest.now c.in-Some.next c.in-Some.more.now c.in-Some.ensures.0 c.in-Some.ensures.1 c.in-Some.ensures.2 p c.fields.invariant
