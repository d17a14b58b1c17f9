use Rattle.numbers.proofs.Extremes.{min_is_least}
use Rattle.numbers.proofs.laws.min_is_least.Goals as goal

pub returns : goal.returns
returns c = min_is_least
