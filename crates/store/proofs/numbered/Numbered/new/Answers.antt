use Rattle.grid.proofs.Flows.{flows_same}
use Rattle.store.proofs.numbered.Numbered.new.Goals as goal

pub returns-clause-counts : goal.returns-clause-counts
returns-clause-counts g c = flows_same 0
