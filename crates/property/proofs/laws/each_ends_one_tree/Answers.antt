use Rattle.property.proofs.Sides.{each_ends_one_tree}
use Rattle.property.proofs.laws.each_ends_one_tree.Goals as goal

pub returns : goal.returns
returns c = each_ends_one_tree
