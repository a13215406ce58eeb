use Rattle.std.proofs.Common.{[], ◌∷◌}
use Rattle.std.specs.Option.{option_map}
use Rattle.dc_certtext.specs.Limits.{limit}
use Rattle.dc_words.specs.Reading.{for_check}
use Rattle.dc_answers.specs.Ends.{ReadingEnds, files_of}
use Rattle.dc_answers.specs.Outside.{file, source_limit, visit_of}
use Rattle.dc_cli.specs.Steps.{IsRefusedOf}
use Rattle.dc_cli.proofs.Results.{handed_on}
use Rattle.dc_cli.proofs.Refused.{unfetched}
use Rattle.dc_cli.proofs.Fetches.{both_fetched, first_unfetched, second_unfetched}
use Rattle.dc_cli.proofs.Commands.{check_output, check_unput}
use Rattle.dc_cli.proofs.check.check.Goals as goal

pub returns-in_err-texts-clause-refused : goal.returns-in_err-texts-clause-refused
returns-in_err-texts-clause-refused g c =
    let read = for_check c.args.new.now c.args.old.now c.args.cert.now (option_map (λ z. z.now) c.args.when) in
    let visit = visit_of g.S.Store.files g.S.Store.faults g.S.Store.call c.args.store.now c.fetch_sources.new.store in
    handed_on c.from_residual.result c.in_err-texts.field-0.0 (IsRefusedOf visit read) c.from_residual.ensures.1
    (unfetched visit (files_of read) (ReadingEnds read) c.in_err-texts.field-0.0
    (first_unfetched g.S.Store.files g.S.Store.faults g.S.Store.call c.args.store.now c.fetch_sources.new.store
    (file c.args.new.now source_limit ∷ file c.args.old.now source_limit ∷ []) (file c.args.cert.now limit ∷ []) c.in_err-texts.field-0.0
    c.in_err-texts.ensures.refused))

pub returns-in_err-cert-clause-refused : goal.returns-in_err-cert-clause-refused
returns-in_err-cert-clause-refused g c =
    let read = for_check c.args.new.now c.args.old.now c.args.cert.now (option_map (λ z. z.now) c.args.when) in
    let visit = visit_of g.S.Store.files g.S.Store.faults g.S.Store.call c.args.store.now c.fetch_text.new.store in
    handed_on c.from_residual-in_err-cert.result c.in_err-cert.field-0.0 (IsRefusedOf visit read) c.from_residual-in_err-cert.ensures.1
    (unfetched visit (files_of read) (ReadingEnds read) c.in_err-cert.field-0.0
    (second_unfetched g.S.Store.files g.S.Store.faults g.S.Store.call c.args.store.now c.fetch_sources.new.store c.fetch_text.new.store
    (file c.args.new.now source_limit ∷ file c.args.old.now source_limit ∷ []) (file c.args.cert.now limit ∷ [])
    (c.in_ok-texts.texts.new.items ∷ c.in_ok-texts.texts.old.items ∷ []) c.in_err-cert.field-0.0
    c.in_ok-texts.ensures.files c.in_ok-texts.ensures.later c.in_ok-texts.ensures.ok c.in_err-cert.ensures.refused))

pub returns-clause-ok : goal.returns-clause-ok
returns-clause-ok g c =
    check_output (visit_of g.S.Store.files g.S.Store.faults g.S.Store.call c.args.store.now c.fetch_text.new.store) c.args.new.now c.args.old.now c.args.cert.now
    (option_map (λ z. z.now) c.args.when) c.in_ok-texts.texts.new.items c.in_ok-texts.texts.old.items c.in_ok-cert.cert.items
    c.as_slice.result.now c.as_slice-2.result.now c.as_slice-3.result.now c.as_slice.ensures.value c.as_slice-2.ensures.value c.as_slice-3.ensures.value
    (both_fetched g.S.Store.files g.S.Store.faults g.S.Store.call c.args.store.now c.fetch_sources.new.store c.fetch_text.new.store
    (file c.args.new.now source_limit ∷ file c.args.old.now source_limit ∷ []) (file c.args.cert.now limit ∷ [])
    (c.in_ok-texts.texts.new.items ∷ c.in_ok-texts.texts.old.items ∷ []) (c.in_ok-cert.cert.items ∷ [])
    c.in_ok-texts.ensures.files c.in_ok-texts.ensures.ok c.in_ok-cert.ensures.ok)
    c.check_texts.result c.check_texts.ensures.ok

pub returns-clause-refused : goal.returns-clause-refused
returns-clause-refused g c =
    check_unput (visit_of g.S.Store.files g.S.Store.faults g.S.Store.call c.args.store.now c.fetch_text.new.store) c.args.new.now c.args.old.now c.args.cert.now
    (option_map (λ z. z.now) c.args.when) c.in_ok-texts.texts.new.items c.in_ok-texts.texts.old.items c.in_ok-cert.cert.items
    c.as_slice.result.now c.as_slice-2.result.now c.as_slice-3.result.now c.as_slice.ensures.value c.as_slice-2.ensures.value c.as_slice-3.ensures.value
    (both_fetched g.S.Store.files g.S.Store.faults g.S.Store.call c.args.store.now c.fetch_sources.new.store c.fetch_text.new.store
    (file c.args.new.now source_limit ∷ file c.args.old.now source_limit ∷ []) (file c.args.cert.now limit ∷ [])
    (c.in_ok-texts.texts.new.items ∷ c.in_ok-texts.texts.old.items ∷ []) (c.in_ok-cert.cert.items ∷ [])
    c.in_ok-texts.ensures.files c.in_ok-texts.ensures.ok c.in_ok-cert.ensures.ok)
    c.check_texts.result c.check_texts.ensures.refused
