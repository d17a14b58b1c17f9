-- The rows of the worked examples, and which sets force them.
use Rattle.std.proofs.Common.{◌≡◌, ℕ, zero, suc, ◌-◌, ◌<◌, ◌≤◌, Bool, true, List, [], ◌∷◌, length, get_or, replicate, ℤ, pos, negsuc, Decides, sym, refl, ◌∙◌, subst, ⊎_elim, arith, length-append}
use mathlib.Core.Bool.{beq}
use lib.ListN.{length-replicate}
use Rattle.std.proofs.lemmas.List.{get_or_append_left, get_or-append_right, get_or_past, get_or-replicate}
use Rattle.std.proofs.lemmas.Int.{ints}
use Rattle.std.proofs.lemmas.Bool.{cases_lt}
use Rattle.blocks.specs.declared.types.ValueType.{ValueType}
use Rattle.blocks.specs.declared.types.ValueType.TheVariants.{Truth, Num}
use Rattle.blocks.specs.declared.gates.Gate.{Gate}
use Rattle.blocks.specs.declared.gates.Gate.TheVariants.{Xor}
use Rattle.blocks.specs.Blocks.{InType, Lawful}
use Rattle.blocks.specs.Filled.{filled}
use Rattle.blocks.specs.Gates.{holds, gate_result}
use Rattle.blocks.proofs.Forcing.{row_from}
use Rattle.blocks.proofs.Ones.{same_truths}
use Rattle.blocks.proofs.GatesForced.{ends_force}
use Rattle.numbers.specs.declared.operation.Operation.{Operation}
use Rattle.numbers.specs.Numbers.{Rising, same_z, number_result}
use Rattle.numbers.proofs.Ends.{rising_force}
use Rattle.examples.specs.Causes.{Cause, member}
use Rattle.examples.specs.Worked.{row_of}
use Rattle.examples.proofs.Deciding.{are_causes, causes_decided}

-- ---- lawful rows

abbrev pub Each : (ℤ → Type 0) → List ℤ → Type 0
Each P [] = Unit {0}
Each P (x ∷ xs) = P x × Each P xs

each_at : (P : ℤ → Type 0) (xs : List ℤ) → Each P xs → (k : ℕ) → k < length xs → P (get_or xs k (pos 0))
each_at P [] e k h = absurd (omega arith)
each_at P (x ∷ xs) e zero h = e.0
each_at P (x ∷ xs) e (suc k) h = each_at P xs e.1 k (omega arith)

zeros_at : (n k : ℕ) → get_or (replicate n (pos 0)) k (pos 0) ≡ pos 0
zeros_at n k = ⊎_elim (λ h. get_or-replicate n k (pos 0) (pos 0) h) (λ h. get_or_past (replicate n (pos 0)) k (pos 0) (omega (arith, length-replicate n (pos 0)))) (cases_lt k n)

pub row_lawful : (t : ValueType) (xs : List ℤ) → length xs ≤ 8 → Each (InType t) xs → Lawful (replicate (length xs) t) (row_of xs)
row_lawful t xs few e = row_from t (length xs) (row_of xs)
    (omega (arith, length-append xs (replicate (8 - length xs) (pos 0)), length-replicate (8 - length xs) (pos 0)))
    (λ k h. subst (InType t) (sym (get_or_append_left xs (replicate (8 - length xs) (pos 0)) (pos 0) k h)) (each_at (InType t) xs e k h))
    (λ k h. get_or-append_right xs (replicate (8 - length xs) (pos 0)) (length xs) k (pos 0) refl h ∙ zeros_at (8 - length xs) (k - length xs))

-- ---- forcing, by the outputs at the two ends

unfoldable pub gate_forces : Gate → ℕ → List ℤ → ℕ → Bool
gate_forces g c row set = beq (holds g c (filled c set row (replicate 8 (pos 0)))) (holds g c (filled c set row (replicate 8 (pos 1))))

unfoldable pub number_forces : Operation → ℕ → List ℤ → ℕ → Bool
number_forces o c row set = same_z (number_result o c (filled c set row (replicate 8 (negsuc 29999)))) (number_result o c (filled c set row (replicate 8 (pos 30000))))

same_decides : (a b : ℤ) → Decides (same_z a b) (a ≡ b)
same_decides a b = (λ e. grind (arith, ints), λ e. grind (arith, ints))

module _ (c : ℕ) (row : List ℤ) (few : c ≤ 8) (sets : List ℕ) where
  pub gate_causes : (g : Gate) → (g ≡ Xor → ⊥) → 0 < c → Lawful (replicate c Truth) row → are_causes c (gate_forces g c row) sets ≡ true
      → (set : ℕ) → Decides (member set sets) (Cause (replicate c Truth) (gate_result g c) row set)
  unfolding gate_forces
  gate_causes g ne some good e =
      causes_decided (replicate c Truth) (gate_result g c) row c (length-replicate c Truth) (gate_forces g c row)
      (λ set. ends_force c row set few some good g ne _ (same_truths _ _)) sets e

  pub number_causes : (o : Operation) → Rising o → 2 ≤ c → Lawful (replicate c Num) row → are_causes c (number_forces o c row) sets ≡ true
      → (set : ℕ) → Decides (member set sets) (Cause (replicate c Num) (number_result o c) row set)
  unfolding number_forces
  number_causes o rising some good e =
      causes_decided (replicate c Num) (number_result o c) row c (length-replicate c Num) (number_forces o c row)
      (λ set. rising_force c row set few some good o rising _ (same_decides _ _)) sets e
