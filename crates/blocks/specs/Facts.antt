-- That a value is of a type is a fact with one proof at most, so that a block can keep it.
use Rattle.std.specs.Prelude.{◌≡◌, ◌⊎◌, ℤ, pos}
use Rattle.std.proofs.Common.{sym, ap, ◌∙◌, inl, inr, arith}
use Rattle.std.proofs.Math.IntN.{ℤ_set}
use Rattle.std.proofs.Props.{props}
use Rattle.blocks.specs.declared.types.ValueType.{ValueType}
use Rattle.blocks.specs.declared.types.ValueType.TheVariants.{Truth, Num}
use Rattle.blocks.specs.Blocks.{InType}

zero_or_one : (z : ℤ) → z ≡ pos 0 → z ≡ pos 1 → ⊥
zero_or_one z a b = let e : pos 0 ≡ pos 1 = sym a ∙ b in grind arith

zero_one_prop : (z : ℤ) → IsProp ((z ≡ pos 0) ⊎ (z ≡ pos 1))
zero_one_prop z (inl a) (inl b) = ap inl (ℤ_set z (pos 0) a b)
zero_one_prop z (inl a) (inr b) = absurd (zero_or_one z a b)
zero_one_prop z (inr a) (inl b) = absurd (zero_or_one z b a)
zero_one_prop z (inr a) (inr b) = ap inr (ℤ_set z (pos 1) a b)

pub InType-prop : (t : ValueType) (z : ℤ) → IsProp (InType t z)
InType-prop Truth z = zero_one_prop z
InType-prop Num z = hlevel props
