-- Worked examples: the gates are `and` 0, `or` 1, `xor` 2, `not` 3, `pass` 4, the numbers `sum` 0, `max` 1, `min` 2, `mean` 3, `ge` 4, `eq` 5.
use Rattle.std.specs.Prelude.{◌≡◌, ◌-◌, true, false, List, [], ◌∷◌, ◌++◌, length, replicate, ℤ, pos, negsuc, Some, None, codes}
use Rattle.blocks.specs.declared.types.ValueType.TheVariants.{Truth, Num}
use Rattle.blocks.specs.Blocks.{unknown_kind, no_such_count, shaped}
use Rattle.blocks.specs.Filled.{filled, FirstFree}
use Rattle.blocks.specs.Gates.{gate_shape, gate_function, gate_named}
use Rattle.blocks.specs.Pair.{pair_size, pair_shape, pair_named}
use Rattle.blocks.specs.Uniform.{uniform_shape}
use Rattle.numbers.specs.Numbers.{number_shape, number_function, number_named}
use Rattle.tables.specs.Tables.{number_of_row, table_result, Alike}
use Rattle.examples.specs.Causes.{CausesAre}

-- the row of these pins
abbrev pub row_of : List ℤ → List ℤ
row_of pins = pins ++ replicate (8 - length pins) (pos 0)

-- the causes of five rows; pin 1 counts 1, pin 2 counts 2, pin 3 counts 4
pub record WorkedCauses : Type 0 where
  -- and(1,1,0): {3}
  pub and_with_zero : CausesAre (gate_shape 0 3) (gate_function 0 3) (row_of (pos 1 ∷ pos 1 ∷ pos 0 ∷ [])) (4 ∷ [])
  -- or(1,1): {1}, {2}
  pub or_of_ones : CausesAre (gate_shape 1 2) (gate_function 1 2) (row_of (pos 1 ∷ pos 1 ∷ [])) (1 ∷ 2 ∷ [])
  -- sum(30000,30000,-5): {1,2}
  pub sum_stopped : CausesAre (number_shape 0 3) (number_function 0 3) (row_of (pos 30000 ∷ pos 30000 ∷ negsuc 4 ∷ [])) (3 ∷ [])
  -- max(30000,7): {1}
  pub max_at_end : CausesAre (number_shape 1 2) (number_function 1 2) (row_of (pos 30000 ∷ pos 7 ∷ [])) (1 ∷ [])
  -- max(29999,7): {1,2}
  pub max_below_end : CausesAre (number_shape 1 2) (number_function 1 2) (row_of (pos 29999 ∷ pos 7 ∷ [])) (3 ∷ [])

-- the outputs of some rows
pub record WorkedValues : Type 0 where
  pub and_of : gate_function 0 3 (row_of (pos 1 ∷ pos 1 ∷ pos 0 ∷ [])) ≡ pos 0
  pub or_of : gate_function 1 3 (row_of (pos 0 ∷ pos 1 ∷ pos 0 ∷ [])) ≡ pos 1
  pub xor_of : gate_function 2 3 (row_of (pos 1 ∷ pos 1 ∷ pos 1 ∷ [])) ≡ pos 1
  pub sum_high : number_function 0 3 (row_of (pos 30000 ∷ pos 30000 ∷ negsuc 4 ∷ [])) ≡ pos 30000
  pub sum_low : number_function 0 2 (row_of (negsuc 29999 ∷ negsuc 0 ∷ [])) ≡ negsuc 29999
  pub max_of : number_function 1 3 (row_of (pos 3 ∷ pos 9 ∷ negsuc 4 ∷ [])) ≡ pos 9
  pub min_of : number_function 2 3 (row_of (pos 3 ∷ pos 9 ∷ negsuc 4 ∷ [])) ≡ negsuc 4
  -- mean(-7,0) is -3, mean(7,0) is 3
  pub mean_up : number_function 3 2 (row_of (negsuc 6 ∷ pos 0 ∷ [])) ≡ negsuc 2
  pub mean_down : number_function 3 2 (row_of (pos 7 ∷ pos 0 ∷ [])) ≡ pos 3
  pub ge_of_equals : number_function 4 2 (row_of (pos 5 ∷ pos 5 ∷ [])) ≡ pos 1
  pub ge_of_less : number_function 4 2 (row_of (negsuc 5 ∷ pos 5 ∷ [])) ≡ pos 0
  pub eq_of : number_function 5 2 (row_of (negsuc 5 ∷ pos 6 ∷ [])) ≡ pos 0
  -- the row 1,0,1 has the number 5
  pub row_of_bits : number_of_row 3 (row_of (pos 1 ∷ pos 0 ∷ pos 1 ∷ [])) ≡ 5

-- names, numbers and shapes of some kinds
pub record WorkedKinds : Type 0 where
  pub gate_by_name : gate_named (codes "xor") ≡ Some 2
  pub number_by_name : number_named (codes "ge") ≡ Some 4
  pub none_named : gate_named (codes "nand") ≡ None
  -- in the pair of gates and numbers `ge` is kind 9
  pub pair_by_name : pair_named 5 (gate_named (codes "ge")) (number_named (codes "ge")) ≡ Some 9
  pub pair_shaped : pair_shape 5 gate_shape number_shape 9 2 ≡ shaped (Num ∷ Num ∷ []) Truth
  pub pair_sum : pair_size 5 6 ≡ 11
  pub pair_full : pair_size 65530 7 ≡ 65536
  pub dropped : pair_named 65530 None (Some 6) ≡ None
  pub no_kind : gate_shape 5 2 ≡ unknown_kind
  pub no_count : gate_shape 3 2 ≡ no_such_count

-- rows, shapes and tables
pub record WorkedRows : Type 0 where
  -- of three pins the first is in the set, and the others show the ends
  pub filled_row : filled 3 1 (row_of (pos 1 ∷ pos 1 ∷ pos 0 ∷ [])) (replicate 8 (pos 0)) ≡ row_of (pos 1 ∷ pos 0 ∷ pos 0 ∷ [])
  pub second_free : FirstFree 3 1 1
  pub shape : uniform_shape Num 2 Truth ≡ record { pins = Num ∷ Num ∷ replicate 6 Truth; count = 2; output = Truth }
  -- the table of `and` on two pins has its one at row 3
  pub table : table_result (record { pins = 2; outputs = false ∷ false ∷ false ∷ true ∷ replicate 252 false }) 2 (row_of (pos 1 ∷ pos 1 ∷ [])) ≡ pos 1
  -- rows 5 and 7 agree on pins 1 and 3
  pub alike : Alike 3 5 5 7
