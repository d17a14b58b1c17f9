use Rattle.property.proofs.Sides.{signals_decide}
use Rattle.property.proofs.laws.signals_decide.Goals as goal

pub returns : goal.returns
returns c = signals_decide
