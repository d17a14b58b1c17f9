-- Verdicts, and how they are printed.
use Rattle.std.specs.Prelude.{ℕ, Bool, true, false, List, codes}
use Rattle.answer.specs.declared.outcome.Verdict.{Verdict}
use Rattle.answer.specs.declared.outcome.Verdict.TheVariants.{Holds, Fails}

-- the verdict on a property that holds, or does not
abbrev pub verdict_of : Bool → Verdict
verdict_of true = Holds
verdict_of false = Fails

-- the verdict as it is printed
abbrev pub verdict_text : Verdict → List ℕ
verdict_text Holds = codes "verdict=holds"
verdict_text Fails = codes "verdict=fails"
