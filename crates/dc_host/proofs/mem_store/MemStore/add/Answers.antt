use Rattle.std.proofs.Common.{arith, rules}
use Rattle.std.proofs.lemmas.Map.Text.{text_keys}
use Rattle.dc_host.proofs.mem_store.MemStore.add.Goals as goal

pub returns-clause-set : goal.returns-clause-set
returns-clause-set c = record { files = λ q. grind (arith, text_keys); failing = search rules; calls = search rules; faults = search rules }
