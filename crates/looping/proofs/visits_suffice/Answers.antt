use Rattle.looping.proofs.Holding.{visits_suffice}
use Rattle.looping.proofs.visits_suffice.Goals as goal

pub returns : goal.returns
returns c = visits_suffice
