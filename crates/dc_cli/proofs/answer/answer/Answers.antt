use Rattle.std.proofs.Common.{refl, sym, ap, ◌∙◌}
use Rattle.std.specs.Option.{option_map}
use Rattle.dc_sparse.specs.Meanings.{cross_meaning}
use Rattle.dc_words.specs.Reading.{for_sample, reading_of}
use Rattle.dc_answers.specs.Outside.{visit_of}
use Rattle.dc_cli.proofs.Refused.{analyse_reading, check_reading}
use Rattle.dc_cli.proofs.Commands.{same_output, same_check, same_refused, sample_output, sample_unput}
use Rattle.dc_cli.proofs.answer.answer.Goals as goal

pub returns-in-Sample-clause-ok : goal.returns-in-Sample-clause-ok
returns-in-Sample-clause-ok g c =
    let visit = visit_of g.S.Store.files g.S.Store.faults g.S.Store.call c.args.store.now c.args.store.now in
    same_output visit (for_sample c.in-Sample.seed c.in-Sample.count) (reading_of c.args.asked.now) (ap reading_of (sym c.in-Sample.is)) (cross_meaning c.sample.new.tableau) c.sample.result
    (sample_output c.in-Sample.seed c.in-Sample.count visit (cross_meaning c.sample.new.tableau) c.sample.result refl c.sample.ensures.ok)

pub returns-in-Sample-clause-refused : goal.returns-in-Sample-clause-refused
returns-in-Sample-clause-refused g c =
    let visit = visit_of g.S.Store.files g.S.Store.faults g.S.Store.call c.args.store.now c.args.store.now in
    same_refused visit (for_sample c.in-Sample.seed c.in-Sample.count) (reading_of c.args.asked.now) (ap reading_of (sym c.in-Sample.is)) c.sample.result
    (sample_unput c.in-Sample.seed c.in-Sample.count visit c.sample.result refl c.sample.ensures.refused)

pub returns-in-Analyse-clause-ok : goal.returns-in-Analyse-clause-ok
returns-in-Analyse-clause-ok g c =
    let a = c.in-Analyse in
    same_output (visit_of g.S.Store.files g.S.Store.faults g.S.Store.call c.args.store.now c.analyse.new.store) _ (reading_of c.args.asked.now)
    (analyse_reading a.new_name a.old_name a.when a.settings _ c.as_str-new.result.now c.as_str-old.result.now
    (option_map (λ z. z.now) c.text_in.result) c.as_str-new.ensures.value c.as_str-old.ensures.value c.text_in.ensures refl ∙ ap reading_of (sym a.is))
    (cross_meaning c.analyse.new.tableau) c.analyse.result c.analyse.ensures.ok

pub returns-in-Analyse-clause-refused : goal.returns-in-Analyse-clause-refused
returns-in-Analyse-clause-refused g c =
    let a = c.in-Analyse in
    same_refused (visit_of g.S.Store.files g.S.Store.faults g.S.Store.call c.args.store.now c.analyse.new.store) _ (reading_of c.args.asked.now)
    (analyse_reading a.new_name a.old_name a.when a.settings _ c.as_str-new.result.now c.as_str-old.result.now
    (option_map (λ z. z.now) c.text_in.result) c.as_str-new.ensures.value c.as_str-old.ensures.value c.text_in.ensures refl ∙ ap reading_of (sym a.is))
    c.analyse.result c.analyse.ensures.refused

pub returns-in-Check-clause-ok : goal.returns-in-Check-clause-ok
returns-in-Check-clause-ok g c =
    let a = c.in-Check in
    same_check (visit_of g.S.Store.files g.S.Store.faults g.S.Store.call c.args.store.now c.check.new.store) _ (reading_of c.args.asked.now)
    (check_reading a.new_name a.old_name a.cert_name a.when c.as_str-new-in-Check.result.now c.as_str-old-in-Check.result.now c.as_str-cert.result.now
    (option_map (λ z. z.now) c.text_in-in-Check.result) c.as_str-new-in-Check.ensures.value c.as_str-old-in-Check.ensures.value c.as_str-cert.ensures.value
    c.text_in-in-Check.ensures ∙ ap reading_of (sym a.is))
    (cross_meaning c.args.tableau.now) c.check.result c.check.ensures.ok

pub returns-in-Check-clause-refused : goal.returns-in-Check-clause-refused
returns-in-Check-clause-refused g c =
    let a = c.in-Check in
    same_refused (visit_of g.S.Store.files g.S.Store.faults g.S.Store.call c.args.store.now c.check.new.store) _ (reading_of c.args.asked.now)
    (check_reading a.new_name a.old_name a.cert_name a.when c.as_str-new-in-Check.result.now c.as_str-old-in-Check.result.now c.as_str-cert.result.now
    (option_map (λ z. z.now) c.text_in-in-Check.result) c.as_str-new-in-Check.ensures.value c.as_str-old-in-Check.ensures.value c.as_str-cert.ensures.value
    c.text_in-in-Check.ensures ∙ ap reading_of (sym a.is))
    c.check.result c.check.ensures.refused
