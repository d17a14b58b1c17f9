-- Pins as they are written.
use Rattle.std.specs.Prelude.{◌≡◌, ◌≢◌, ℕ, Bool, List, ◌∷◌, MatchBool}

-- the field is the name, behind a `!` exactly where the pin is inverted
abbrev pub Writes : List ℕ → Bool → List ℕ → Type 0
Writes field inverted name = MatchBool inverted (field ≡ 33 ∷ name) ((field ≡ name) × ((rest : List ℕ) → field ≢ 33 ∷ rest))
