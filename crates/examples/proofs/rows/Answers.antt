use Rattle.std.proofs.Common.{ℕ, zero, suc, ◌<◌, refl, arith, rules}
use Rattle.blocks.specs.Blocks.{Has}
use Rattle.blocks.specs.Filled.{filled}
use Rattle.tables.specs.Tables.{Alike}
use Rattle.examples.proofs.rows.Goals as goal

agree : Alike 3 5 5 7
agree zero h has = refl
agree (suc zero) h has = absurd (omega arith)
agree (suc (suc zero)) h has = refl
agree (suc (suc (suc k))) h has = absurd (omega arith)

before : (k : ℕ) → k < 1 → Has 1 k
before zero h = refl
before (suc k) h = absurd (omega arith)

pub returns : goal.returns
unfolding filled
returns c = search (rules, agree, before)
