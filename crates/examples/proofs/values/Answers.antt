use Rattle.std.proofs.Common.{rules}
use Rattle.numbers.specs.Numbers.{mean_of}
use Rattle.examples.proofs.values.Goals as goal

pub returns : goal.returns
unfolding mean_of
returns c = search rules
