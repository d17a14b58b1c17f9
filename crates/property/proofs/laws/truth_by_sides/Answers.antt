use Rattle.property.proofs.Sides.{truth_by_sides}
use Rattle.property.proofs.laws.truth_by_sides.Goals as goal

pub returns : goal.returns
returns c = truth_by_sides
