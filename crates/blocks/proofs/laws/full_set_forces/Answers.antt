use Rattle.blocks.proofs.Forcing.{full_set_forces}
use Rattle.blocks.proofs.laws.full_set_forces.Goals as goal

pub returns : goal.returns
returns g c k n pins out e = full_set_forces pins (g.L.BlockLibrary.function c.args.library.now k n)
