use Rattle.std.proofs.Common.{◌≡◌, refl, ap, ◌∙◌, map}
use Rattle.dc_grammar.specs.Grammar.{ref, many}
use Rattle.dc_grammar.specs.Language as lang
use Rattle.dc_descent.specs.Reads.{memory}
use Rattle.dc_descent.proofs.Rules.{no_longer, passed}
use Rattle.std.specs.declared.option.Option.{Option}
use Rattle.std.specs.Option.{option_or}
use Rattle.std.specs.String.{string_bytes}
use Rattle.dc_descent.specs.declared.fault.Fault.{Fault}
use Rattle.dc_descent.specs.Faults.{used_fault}
use Rattle.dc_descent.specs.Trees.{leaves}
use Rattle.dc_descent.proofs.Lists.{parsed_leaves}
use Rattle.dc_descent.proofs.Saying.{body_says, or_some, or_none}
use Rattle.dc_descent.proofs.sources.inside.Goals.{in-Some, in-None}
use Rattle.dc_descent.proofs.sources.inside.Goals as goal

pub returns-in_err-declared : goal.returns-in_err-declared
returns-in_err-declared c = passed (many (ref lang.stmt)) (_) c.from_residual.result c.from_residual.ensures.1 (memory)

pub returns-in_err-stmts : goal.returns-in_err-stmts
returns-in_err-stmts c = passed (many (ref lang.stmt)) (_) c.from_residual-in_err-stmts.result c.from_residual-in_err-stmts.ensures.1 (c.in_err-stmts.ensures)

pub between-requires : goal.between-requires
between-requires c = no_longer c.in_ok-stmts.ensures.1

pub returns : goal.returns
returns c =
    let d : Option Fault = c.in_ok-declared.declared.fault in
    let u : Option Fault = used_fault c.args.text.now (map string_bytes c.as_slice.result.now) (leaves c.in_ok-stmts.ensures.0) in
    let e : c.match-declared.fault ≡ option_or d u = elim c.match-declared.branch [
      | in-Some w ↦ or_some d w.in-Some.fault u c.match-declared.fault w.in-Some.is w.fault-is
      | in-None w ↦ or_none d u w.first_unknown-fault.result c.match-declared.fault w.in-None.is w.fault-is
          (w.first_unknown-fault.ensures ∙ ap (used_fault c.args.text.now (map string_bytes c.as_slice.result.now)) (w.between.ensures (leaves c.in_ok-stmts.ensures.0) (parsed_leaves c.in_ok-stmts.ensures.1)))
    ] in (
      c.in_ok-stmts.ensures.0,
      c.in_ok-stmts.ensures.1,
      body_says c.args.text.now c.args.tokens.now c.in_ok-stmts.ensures.0 d c.in_ok-declared.declared.names (map string_bytes c.as_slice.result.now) _ c.new-starts.result.items c.stmts.new.starts.items c.in_ok-stmts.stmts
          c.in_ok-declared.ensures.fault c.in_ok-declared.ensures.names c.as_slice.ensures refl e c.in_ok-stmts.ensures.2 refl c.new-starts.ensures.items refl,
    )
