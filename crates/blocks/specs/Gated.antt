-- The laws of the gates.
use Rattle.std.specs.Prelude.{◌≡◌, ℕ, ◌≤◌, true}
use Rattle.std.proofs.Common.{arith}
use Rattle.std.proofs.lemmas.Bool.Decides.{nat_tests}
use Rattle.blocks.specs.declared.gates.Gate.{Gate}
use Rattle.blocks.specs.Gates.{takes}

-- a gate takes at most eight pins
pub takes_few : (g : Gate) (c : ℕ) → takes g c ≡ true → c ≤ 8
takes_few g c e = grind (arith, nat_tests)
