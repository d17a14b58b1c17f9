use Rattle.std.proofs.Common.{refl}
use Rattle.property.proofs.nodes.Node.try_map.Goals as goal

pub returns-in_ok-atom-in-Atom : goal.returns-in_ok-atom-in-Atom
returns-in_ok-atom-in-Atom g c = rw c.in-Atom.is (c.in_ok-atom-in-Atom.atom, c.in_ok-atom-in-Atom.ensures, refl)
