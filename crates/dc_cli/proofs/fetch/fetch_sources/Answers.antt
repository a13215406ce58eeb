use Rattle.std.proofs.Common.{[], ◌∷◌}
use Rattle.dc_answers.specs.Outside.{file, source_limit, visit_of}
use Rattle.dc_cli.specs.Fetched.{IsUnfetched}
use Rattle.dc_cli.proofs.Results.{handed_on}
use Rattle.dc_cli.proofs.Fetches.{both_fetched, second_unfetched}
use Rattle.dc_cli.proofs.fetch.fetch_sources.Goals as goal

pub returns-in_err-old-clause-refused : goal.returns-in_err-old-clause-refused
returns-in_err-old-clause-refused g c =
    let new = file c.args.new.now source_limit in
    let old = file c.args.old.now source_limit in
    handed_on c.from_residual-in_err-old.result c.in_err-old.field-0.0
    (IsUnfetched (visit_of g.S.Store.files g.S.Store.faults g.S.Store.call c.args.store.now c.fetch_text-2.new.store) (new ∷ old ∷ []))
    c.from_residual-in_err-old.ensures.1
    (second_unfetched g.S.Store.files g.S.Store.faults g.S.Store.call c.args.store.now c.fetch_text.new.store c.fetch_text-2.new.store (new ∷ []) (old ∷ [])
    (c.in_ok-new.new.items ∷ []) c.in_err-old.field-0.0 c.in_ok-new.ensures.files c.in_ok-new.ensures.later c.in_ok-new.ensures.ok c.in_err-old.ensures.refused)

pub returns-clause-ok : goal.returns-clause-ok
returns-clause-ok g c =
    both_fetched g.S.Store.files g.S.Store.faults g.S.Store.call c.args.store.now c.fetch_text.new.store c.fetch_text-2.new.store
    (file c.args.new.now source_limit ∷ []) (file c.args.old.now source_limit ∷ []) (c.in_ok-new.new.items ∷ []) (c.in_ok-old.old.items ∷ [])
    c.in_ok-new.ensures.files c.in_ok-new.ensures.ok c.in_ok-old.ensures.ok
