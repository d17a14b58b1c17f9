use Rattle.run.proofs.Fills.{sources_determine}
use Rattle.run.proofs.laws.sources_determine.Goals as goal

pub returns : goal.returns
returns c = sources_determine
