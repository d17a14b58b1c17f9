-- Libraries whose blocks have all pins of one type: a kind stands for an operation, which takes certain pin counts.
use Rattle.std.specs.Prelude.{ℕ, ◌-◌, Bool, cond, List, ◌++◌, replicate, ℤ, pos, Some, None, Ok, Err, Option, Result}
use Rattle.blocks.specs.declared.types.ValueType.{ValueType}
use Rattle.blocks.specs.declared.types.ValueType.TheVariants.{Truth}
use Rattle.blocks.specs.declared.types.LibraryFault.{LibraryFault}
use Rattle.blocks.specs.declared.types.LibraryFault.TheVariants.{UnknownKind, NoSuchCount}
use Rattle.blocks.specs.declared.types.Shape.{Shape}
use Rattle.blocks.specs.Blocks.{ShapeOf, unknown_kind, no_such_count, shaped}

-- the operation of a kind, if it takes the count, or why there is none
abbrev pub operation_at : {O : Type 0} → (O → ℕ → Bool) → Option O → ℕ → Result O LibraryFault
operation_at takes None c = Err UnknownKind
operation_at takes (Some o) c = cond (takes o c) (Ok o) (Err NoSuchCount)

-- its shape: as many pins of one type as the count says
abbrev pub shape_at : {O : Type 0} → (O → ℕ → Bool) → ValueType → (O → ValueType) → Option O → ℕ → ShapeOf
shape_at takes pin output None c = unknown_kind
shape_at takes pin output (Some o) c = cond (takes o c) (shaped (replicate c pin) (output o)) no_such_count

-- its function
abbrev pub function_at : {O : Type 0} → (O → ℕ → List ℤ → ℤ) → Option O → ℕ → List ℤ → ℤ
function_at result None c row = pos 0
function_at result (Some o) c row = result o c row

-- the shape with c pins of one type, and bool beyond them
abbrev pub uniform_shape : ValueType → ℕ → ValueType → Shape
uniform_shape pin c output = record { pins = replicate c pin ++ replicate (8 - c) Truth; count = c; output = output }
