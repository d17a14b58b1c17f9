-- Where tokens stand.
use Rattle.std.specs.Prelude.{◌≡◌, ℕ, true, cond, List, Some, None, Option, ◌==◌, slice_index, slice_range}
use Rattle.text.specs.Words.{digit, Name as IsName}
use Rattle.sentence.specs.declared.token.Operator.{Operator}
use Rattle.sentence.specs.declared.token.Operator.TheVariants.{Open, Close, Not, And, Or, Equal, Less, Greater, Next, Finally, Globally, Until}
use Rattle.sentence.specs.declared.token.Word.{Word}
use Rattle.sentence.specs.declared.token.Token.{Token}
use Rattle.sentence.specs.declared.token.Token.TheVariants.{Name, Number, Operator as Sign}

-- the word is the bytes from `at` up to `end`
abbrev pub Stretch : List ℕ → ℕ → ℕ → Word → Type 0
Stretch bs at end w = (w.at ≡ at) × (w.text.now ≡ slice_range bs at end)

-- the operator that a letter is where it stands alone: X, F, G, U
abbrev pub letter_of : ℕ → Option Operator
letter_of b = cond (b == 88) (Some Next) (cond (b == 70) (Some Finally) (cond (b == 71) (Some Globally) (cond (b == 85) (Some Until) None)))

-- the operator that one other byte spells: ( ) ! & | = < >
abbrev pub sign_of : ℕ → Option Operator
sign_of b =
    cond (b == 40) (Some Open) (cond (b == 41) (Some Close) (cond (b == 33) (Some Not) (cond (b == 38) (Some And)
    (cond (b == 124) (Some Or) (cond (b == 61) (Some Equal) (cond (b == 60) (Some Less) (cond (b == 62) (Some Greater) None)))))))

-- a run of name bytes is the token
abbrev pub Reads : Word → Token → Type 0
Reads w (Name v) = (v ≡ w) × IsName w.text.now
Reads w (Number v) = (v ≡ w) × (digit (slice_index w.text.now 0) ≡ true)
Reads w (Sign o v) = (v ≡ w) × (letter_of (slice_index w.text.now 0) ≡ Some o)
