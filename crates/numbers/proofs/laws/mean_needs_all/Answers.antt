use Rattle.numbers.proofs.Extremes.{mean_needs_all}
use Rattle.numbers.proofs.laws.mean_needs_all.Goals as goal

pub returns : goal.returns
returns c = mean_needs_all
