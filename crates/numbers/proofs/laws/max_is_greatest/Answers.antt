use Rattle.numbers.proofs.Extremes.{max_is_greatest}
use Rattle.numbers.proofs.laws.max_is_greatest.Goals as goal

pub returns : goal.returns
returns c = max_is_greatest
