use Rattle.run.proofs.Fills.{filled_is_run}
use Rattle.run.proofs.laws.filled_is_run.Goals as goal

pub returns : goal.returns
returns c = filled_is_run
