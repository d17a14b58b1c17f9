-- Worked examples, which pin the definitions: a run of three steps that goes on at step 2, so that its word is 1 2 3 2 3 2 ..
use Rattle.std.proofs.Common.{◌≡◌, ℕ, zero, suc, ◌+◌, ◌<◌, ◌≤◌, Bool, true, false, eqb, [], ◌∷◌, slice_index_or, refl, ap, inr, arith}
use Rattle.std.proofs.lemmas.Bool.{false≢true}
use Rattle.looping.specs.declared.Unary.TheVariants.{Not, Next, Finally, Globally}
use Rattle.looping.specs.declared.Binary.TheVariants.{And, Or, Implies, Until}
use Rattle.looping.specs.Words.{after, onward, word, visits, visit, Loops, Within}
use Rattle.looping.specs.Logic.{Sat, atom, one, two}
use Rattle.looping.specs.Columns.{at, On, Kept}
use Rattle.looping.specs.Laws.{AllVisits, Means1, Means2, SatStep, Truths}
use Rattle.looping.specs.Sweeps.{down, swept, Passed, PassedTwice}
use Rattle.looping.proofs.Passes.{until_turn}
use Rattle.looping.proofs.Holding.{visits_suffice}

after_first : after 3 2 1 ≡ 2
after_first = refl

after_last : after 3 2 3 ≡ 2
after_last = refl

four_on : onward 3 2 1 4 ≡ 3
four_on = refl

sixth : word 3 2 5 ≡ 2
sixth = refl

from_first : visits 3 2 1 ≡ 3
from_first = refl

from_last : visits 3 2 3 ≡ 2
from_last = refl

third_visit : visit 3 2 1 2 ≡ 3
third_visit = refl

round_visit : visit 3 2 3 1 ≡ 2
round_visit = refl

loops : Loops 3 2
loops = record { low = omega arith; high = omega arith }

no_step_4 : Loops 3 4 → ⊥
no_step_4 g = omega (arith, g.high)

no_step_0 : Within 3 0 → ⊥
no_step_0 w = omega (arith, w.low)

last_within : Within 3 3
last_within = record { low = omega arith; high = omega arith }

-- a column of two steps
second : at (true ∷ false ∷ []) 2 ≡ false
second = refl

first_on : On (at (true ∷ false ∷ [])) 1
first_on = refl

-- what lies past the first step is kept
rest_kept : Kept 1 (true ∷ true ∷ []) (false ∷ true ∷ [])
rest_kept zero h = absurd (omega arith)
rest_kept (suc zero) h = refl
rest_kept (suc (suc p)) h = refl

not_all_kept : Kept 0 (true ∷ []) (false ∷ []) → ⊥
not_all_kept k = false≢true (k 0 (omega arith))

-- atom a holds at step a alone
abbrev only : ℕ → ℕ → Bool
only a i = eqb a i

-- at position 3 the word shows step 2
atom_holds : Sat only (word 3 2) (atom 2) 3
atom_holds = refl

atom_fails : Sat only (word 3 2) (one Not (atom 3)) 3
atom_fails = λ e. false≢true e

-- after step 3 comes step 2
next_round : Sat only (word 3 2) (one Next (atom 2)) 2
next_round = refl

-- from step 3 on, step 2 comes in the next round
finally_round : Sat only (word 3 2) (one Finally (atom 2)) 2
finally_round = (3, omega arith, refl)

-- the present counts
finally_now : Sat only (word 3 2) (one Finally (atom 1)) 0
finally_now = (0, omega arith, refl)

-- step 1 never comes again
globally_after : Sat only (word 3 2) (one Globally (one Not (atom 1))) 1
globally_after = ((visits_suffice 3 2 loops only).means1 Globally (one Not (atom 1)) 1).1 each
  where
    each : AllVisits 3 2 (SatStep only 3 2 (one Not (atom 1))) 2
    each zero h = λ e. false≢true e
    each (suc zero) h = λ e. false≢true e
    each (suc (suc n)) h = absurd (omega arith)

until_third : Sat only (word 3 2) (two Until (one Not (atom 3)) (atom 3)) 0
until_third = (2, omega arith, refl, before)
  where
    before : (i : ℕ) → 0 ≤ i → i < 2 → only 3 (word 3 2 i) ≡ true → ⊥
    before zero a b = λ e. false≢true e
    before (suc zero) a b = λ e. false≢true e
    before (suc (suc i)) a b = absurd (omega arith)

both_hold : Sat only (word 3 2) (two And (atom 1) (one Next (atom 2))) 0
both_hold = (refl, refl)

right_holds : Sat only (word 3 2) (two Or (atom 2) (atom 1)) 0
right_holds = inr refl

left_fails : Sat only (word 3 2) (two Implies (atom 2) (atom 3)) 0
left_fails = λ e. absurd (false≢true e)

-- the same at the steps
some_visit : Means1 Finally 3 2 (On (only 2)) 3
some_visit = (1, omega arith, refl)

until_visit : Means2 Until 3 2 (On (only 3)) (On (only 2)) 3
until_visit = (1, omega arith, refl, λ m h. let e : m ≡ 0 = omega arith in ap (λ (k : ℕ). only 3 (visit 3 2 3 k)) e)

at_step : SatStep only 3 2 (one Next (atom 2)) 3
at_step = refl

column : Truths only 3 2 (atom 2) (only 2)
column k = (λ e. e, λ e. e)

-- `right` at step 2 alone, and `left` everywhere: at step 3 one pass does not see step 2, the second does
one_pass : down (until_turn (λ _. true) (only 2)) false 3 1 ≡ false
one_pass = refl

two_passes : swept (until_turn (λ _. true) (only 2)) false 3 2 3 ≡ true
two_passes = refl

-- the same as lists of truths
abbrev made : ℕ → Bool → Bool → Type 0
made i x y = y ≡ until_turn (λ _. true) (only 2) (suc i) x

first_list : Passed made false (true ∷ true ∷ false ∷ [])
first_list = record { each = each }
  where
    each : (i : ℕ) → i < 3 → made i (slice_index_or (true ∷ true ∷ false ∷ []) (i + 1) false) (slice_index_or (true ∷ true ∷ false ∷ []) i false)
    each zero h = refl
    each (suc zero) h = refl
    each (suc (suc zero)) h = refl
    each (suc (suc (suc i))) h = absurd (omega arith)

second_list : PassedTwice made false 2 (true ∷ true ∷ true ∷ [])
second_list = record { once = true ∷ true ∷ false ∷ []; long = refl; first = first_list; second = record { each = each } }
  where
    each : (i : ℕ) → i < 3 → made i (slice_index_or (true ∷ true ∷ true ∷ []) (i + 1) true) (slice_index_or (true ∷ true ∷ true ∷ []) i true)
    each zero h = refl
    each (suc zero) h = refl
    each (suc (suc zero)) h = refl
    each (suc (suc (suc i))) h = absurd (omega arith)

not_carried : Passed made true (false ∷ true ∷ true ∷ []) → ⊥
not_carried p = false≢true (p.each 0 (omega arith))
