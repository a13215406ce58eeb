use Rattle.std.specs.Option.{option_map}
use Rattle.dc_sparse.specs.Meanings.{cross_meaning}
use Rattle.dc_words.specs.Reading.{for_analyse}
use Rattle.dc_answers.specs.Ends.{ReadingEnds, files_of}
use Rattle.dc_answers.specs.Outside.{visit_of}
use Rattle.dc_cli.specs.Steps.{IsRefusedOf}
use Rattle.dc_cli.proofs.Results.{handed_on}
use Rattle.dc_cli.proofs.Refused.{unfetched}
use Rattle.dc_cli.proofs.Commands.{analyse_output, analyse_unput}
use Rattle.dc_cli.proofs.analyse.analyse.Goals as goal

pub returns-in_err-texts-clause-refused : goal.returns-in_err-texts-clause-refused
returns-in_err-texts-clause-refused g c =
    let read = for_analyse c.args.new.now c.args.old.now (option_map (λ z. z.now) c.args.when) c.args.settings.now in
    let visit = visit_of g.S.Store.files g.S.Store.faults g.S.Store.call c.args.store.now c.fetch_sources.new.store in
    handed_on c.from_residual.result c.in_err-texts.field-0.0 (IsRefusedOf visit read) c.from_residual.ensures.1
    (unfetched visit (files_of read) (ReadingEnds read) c.in_err-texts.field-0.0 c.in_err-texts.ensures.refused)

pub returns-clause-ok : goal.returns-clause-ok
returns-clause-ok g c =
    analyse_output (visit_of g.S.Store.files g.S.Store.faults g.S.Store.call c.args.store.now c.fetch_sources.new.store) c.args.new.now c.args.old.now
    (option_map (λ z. z.now) c.args.when) c.args.settings.now c.in_ok-texts.texts.new.items c.in_ok-texts.texts.old.items c.as_slice.result.now c.as_slice-2.result.now
    c.as_slice.ensures.value c.as_slice-2.ensures.value c.in_ok-texts.ensures.ok (cross_meaning c.analyse_texts.new.tableau) c.analyse_texts.result c.analyse_texts.ensures.ok

pub returns-clause-refused : goal.returns-clause-refused
returns-clause-refused g c =
    analyse_unput (visit_of g.S.Store.files g.S.Store.faults g.S.Store.call c.args.store.now c.fetch_sources.new.store) c.args.new.now c.args.old.now
    (option_map (λ z. z.now) c.args.when) c.args.settings.now c.in_ok-texts.texts.new.items c.in_ok-texts.texts.old.items c.as_slice.result.now c.as_slice-2.result.now
    c.as_slice.ensures.value c.as_slice-2.ensures.value c.in_ok-texts.ensures.ok c.analyse_texts.result c.analyse_texts.ensures.refused
