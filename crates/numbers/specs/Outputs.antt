-- Outputs of lawful rows are lawful, and their totals can be averaged.
use Rattle.std.specs.Prelude.{◌≡◌, ℕ, ◌*◌, ◌<◌, ◌≤◌, Bool, true, false, List, replicate, ℤ, pos, ◌+ℤ◌, neg_ℤ, ◌≤ℤ◌, fold, slice_index_or, refl}
use Rattle.std.specs.Int.{int_max, int_min}
use Rattle.std.proofs.Common.{inl, inr, arith}
use Rattle.std.proofs.lemmas.List.{get_or-replicate, length-replicate}
use Rattle.std.proofs.lemmas.Int.{ints}
use Rattle.std.proofs.lemmas.Bool.Decides.{nat_tests}
use Rattle.blocks.specs.declared.types.ValueType.TheVariants.{Truth, Num}
use Rattle.blocks.specs.Blocks.{InType, Lawful, of_bool, places}
use Rattle.numbers.specs.declared.operation.Operation.{Operation}
use Rattle.numbers.specs.declared.operation.Operation.TheVariants.{Sum, Max, Min, Mean, Ge, Eq}
use Rattle.numbers.specs.Numbers.{takes, output_type, total, stopped, Spread, number_result}
use Rattle.numbers.specs.Means.{mean_num}
use Rattle.numbers.specs.Folds.{folds_keep}

-- an operation takes two to eight pins
pub takes_few : (o : Operation) (c : ℕ) → takes o c ≡ true → c ≤ 8
takes_few o c e = grind (arith, nat_tests)

pub takes_two : (o : Operation) (c : ℕ) → takes o c ≡ true → 2 ≤ c
takes_two o c e = grind (arith, nat_tests)

-- a pin of a lawful row is a num
pub num_at : (c : ℕ) (row : List ℤ) → Lawful (replicate c Num) row → (k : ℕ) → k < c → InType Num (slice_index_or row k (pos 0))
num_at c row good k h = rw (get_or-replicate c k Num Truth h) at (good.typed k (omega (arith, length-replicate c Num)))

module _ (row : List ℤ) (n : ℕ) (each : (k : ℕ) → k < n → InType Num (slice_index_or row k (pos 0))) where
  within : (neg_ℤ (pos (30000 * n)) ≤ℤ total n row) × (total n row ≤ℤ pos (30000 * n))
  within = folds_keep ◌+ℤ◌ (λ k z _. (neg_ℤ (pos (30000 * k)) ≤ℤ z) × (z ≤ℤ pos (30000 * k))) row row n (pos 0) (pos 0)
      (λ k z _ h p. let b = each k h in (omega (arith, ints, p.0, b.0), omega (arith, ints, p.1, b.1)))
      (omega (arith, ints), omega (arith, ints))

  -- what a join that keeps to nums makes of nums
  best_num : (join : ℤ → ℤ → ℤ) → ((a b : ℤ) → InType Num a → InType Num b → InType Num (join a b)) → 0 < n → InType Num (fold join (slice_index_or row 0 (pos 0)) (places n row))
  best_num join keeps some = let z = slice_index_or row 0 (pos 0) in folds_keep join (λ k z _. InType Num z) row row n z z (λ k z _ h p. keeps z _ p (each k h)) (each 0 some)

max_num : (a b : ℤ) → InType Num a → InType Num b → InType Num (int_max a b)
max_num a b p q = grind (arith, ints)

min_num : (a b : ℤ) → InType Num a → InType Num b → InType Num (int_min a b)
min_num a b p q = grind (arith, ints)

-- the total of a lawful row
pub spread : (o : Operation) (c : ℕ) (row : List ℤ) → takes o c ≡ true → Lawful (replicate c Num) row → Spread (total c row) c
spread o c row e good =
    let w = within row c (num_at c row good) in
    record { some = omega (arith, takes_two o c e); few = omega (arith, takes_few o c e); low = w.0; high = w.1 }

stopped_num : (z : ℤ) → InType Num (stopped z)
stopped_num z = (grind (arith, ints), grind (arith, ints))

truth_value : (b : Bool) → InType Truth (of_bool b)
truth_value true = inr refl
truth_value false = inl refl

pub output_lawful : (o : Operation) (c : ℕ) (row : List ℤ) → takes o c ≡ true → Lawful (replicate c Num) row → InType (output_type o) (number_result o c row)
output_lawful Sum c row e good = stopped_num (total c row)
output_lawful Max c row e good = best_num row c (num_at c row good) int_max max_num (omega (arith, takes_two Max c e))
output_lawful Min c row e good = best_num row c (num_at c row good) int_min min_num (omega (arith, takes_two Min c e))
output_lawful Mean c row e good = mean_num (total c row) c (spread Mean c row e good)
output_lawful Ge c row e good = truth_value _
output_lawful Eq c row e good = truth_value _
