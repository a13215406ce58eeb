use Rattle.dc_cli.proofs.Fetches.{one_fetched}
use Rattle.dc_cli.proofs.fetch.fetch_text.Goals as goal

pub returns-in-Ok-clause-ok : goal.returns-in-Ok-clause-ok
returns-in-Ok-clause-ok g c =
    one_fetched g.S.Store.files g.S.Store.faults g.S.Store.call c.args.store.now c.fetch.new.self c.args.name.now c.args.limit c.in-Ok.bytes
    c.in-Ok.ensures.call c.in-Ok.ensures.text
