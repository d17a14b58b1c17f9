-- What an operator says where it stands between a signal and a number, or before one side.
use Rattle.std.specs.Prelude.{◌≡◌, Some, None, Option, Result, MatchResult}
use Rattle.looping.specs.declared.Unary.{Unary}
use Rattle.looping.specs.declared.Unary.TheVariants as before
use Rattle.property.specs.declared.nodes.Comparison.{Comparison}
use Rattle.property.specs.declared.nodes.Comparison.TheVariants as sign
use Rattle.sentence.specs.declared.token.Operator.{Operator}
use Rattle.sentence.specs.declared.token.Operator.TheVariants.{Not, Equal, Less, Greater, Next, Finally, Globally}

-- = < >
abbrev pub comparison_of : Operator → Option Comparison
comparison_of Equal = Some sign.Equal
comparison_of Less = Some sign.Less
comparison_of Greater = Some sign.Greater
comparison_of _ = None

-- ! X F G
abbrev pub prefix_of : Operator → Option Unary
prefix_of Not = Some before.Not
prefix_of Next = Some before.Next
prefix_of Finally = Some before.Finally
prefix_of Globally = Some before.Globally
prefix_of _ = None

-- r is the value that there is, and an error where there is none
abbrev pub Takes : {T E : Type 0} → Option T → Result T E → Type 0
Takes o r = MatchResult r (λ x. o ≡ Some x) (λ _. o ≡ None)
