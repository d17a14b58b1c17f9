use Rattle.std.proofs.Common.{◌≡◌, ℕ, [], ◌∷◌, pos, negsuc, refl, inl, inr, arith}
use Rattle.std.proofs.lemmas.Int.{ints}
use Rattle.blocks.specs.declared.types.ValueType.TheVariants.{Truth, Num}
use Rattle.blocks.specs.declared.gates.Gate.TheVariants.{And, Or}
use Rattle.blocks.specs.Filled.{filled}
use Rattle.numbers.specs.declared.operation.Operation.TheVariants.{Sum, Max}
use Rattle.examples.specs.Worked.{row_of}
use Rattle.examples.proofs.Listing.{gate_forces, number_forces, row_lawful, gate_causes, number_causes}
use Rattle.examples.proofs.causes.Goals as goal

pub returns : goal.returns
unfolding filled gate_forces number_forces
returns c = record {
  and_with_zero =
      let good = row_lawful Truth (pos 1 ∷ pos 1 ∷ pos 0 ∷ []) (omega arith) (inr refl, (inr refl, (inl refl, tt))) in
      (good, gate_causes 3 (row_of (pos 1 ∷ pos 1 ∷ pos 0 ∷ [])) (omega arith) (4 ∷ []) And (λ e. let z : ◌≡◌ {A = ℕ} 0 1 = cc in omega arith) (omega arith) good refl);
  or_of_ones =
      let good = row_lawful Truth (pos 1 ∷ pos 1 ∷ []) (omega arith) (inr refl, (inr refl, tt)) in
      (good, gate_causes 2 (row_of (pos 1 ∷ pos 1 ∷ [])) (omega arith) (1 ∷ 2 ∷ []) Or (λ e. let z : ◌≡◌ {A = ℕ} 0 1 = cc in omega arith) (omega arith) good refl);
  sum_stopped =
      let good = row_lawful Num (pos 30000 ∷ pos 30000 ∷ negsuc 4 ∷ []) (omega arith) ((omega (arith, ints), omega (arith, ints)), ((omega (arith, ints), omega (arith, ints)), ((omega (arith, ints), omega (arith, ints)), tt))) in
      (good, number_causes 3 (row_of (pos 30000 ∷ pos 30000 ∷ negsuc 4 ∷ [])) (omega arith) (3 ∷ []) Sum tt (omega arith) good refl);
  max_at_end =
      let good = row_lawful Num (pos 30000 ∷ pos 7 ∷ []) (omega arith) ((omega (arith, ints), omega (arith, ints)), ((omega (arith, ints), omega (arith, ints)), tt)) in
      (good, number_causes 2 (row_of (pos 30000 ∷ pos 7 ∷ [])) (omega arith) (1 ∷ []) Max tt (omega arith) good refl);
  max_below_end =
      let good = row_lawful Num (pos 29999 ∷ pos 7 ∷ []) (omega arith) ((omega (arith, ints), omega (arith, ints)), ((omega (arith, ints), omega (arith, ints)), tt)) in
      (good, number_causes 2 (row_of (pos 29999 ∷ pos 7 ∷ [])) (omega arith) (3 ∷ []) Max tt (omega arith) good refl);
}
