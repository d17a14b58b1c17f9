-- What holds of forcing at every block of every library.
use Rattle.std.specs.Prelude.{◌≡◌, ℕ, ◌<◌, List, length, ℤ}
use Rattle.blocks.specs.declared.types.ValueType.{ValueType}
use Rattle.blocks.specs.Blocks.{ShapeOf, shaped, Lawful, Has, Agree, Forces}

-- each block of a library
abbrev pub EachBlock : (ℕ → ℕ → ShapeOf) → (ℕ → ℕ → List ℤ → ℤ) → (List ValueType → (List ℤ → ℤ) → Type 0) → Type 0
EachBlock shape function P = (k c : ℕ) (pins : List ValueType) (out : ValueType) → shape k c ≡ shaped pins out → P pins (function k c)

-- each pin of the one set is in the other
abbrev pub Within : ℕ → ℕ → Type 0
Within set more = (k : ℕ) → k < 8 → Has set k → Has more k

-- a superset of a forcing set forces
abbrev pub SupersetForces : List ValueType → (List ℤ → ℤ) → Type 0
SupersetForces pins f = (row : List ℤ) (set more : ℕ) → Within set more → Forces pins f row set → Forces pins f row more

-- a set with every pin forces every lawful row
abbrev pub FullForces : List ValueType → (List ℤ → ℤ) → Type 0
FullForces pins f = (row : List ℤ) (set : ℕ) → Lawful pins row → ((k : ℕ) → k < length pins → Has set k) → Forces pins f row set

-- a set that forces a row forces each lawful row that agrees on it, to the same output
abbrev pub LooksAtSet : List ValueType → (List ℤ → ℤ) → Type 0
LooksAtSet pins f = (row other : List ℤ) (set : ℕ) → Lawful pins other → Agree set row other → Forces pins f row set → Forces pins f other set × (f other ≡ f row)
