-- Names of signals and of kinds.
use Rattle.std.specs.Prelude.{◌≡◌, ℕ, ◌<◌, ◌≤◌, Bool, true, ◌&&◌, ◌||◌, List, length, ◌==◌, nat_le, slice_index}

-- A to Z
abbrev pub capital : ℕ → Bool
capital b = nat_le 65 b && nat_le b 90

-- 0 to 9
abbrev pub digit : ℕ → Bool
digit b = nat_le 48 b && nat_le b 57

-- the bytes of a name: A to Z, 0 to 9 and `_`
abbrev pub name_byte : ℕ → Bool
name_byte b = capital b || (digit b || b == 95)

-- the bytes of a kind: a to z and 0 to 9
abbrev pub kind_byte : ℕ → Bool
kind_byte b = (nat_le 97 b && nat_le b 122) || digit b

-- the test passes at every byte
abbrev pub Each : (ℕ → Bool) → List ℕ → Type 0
Each test bs = (k : ℕ) → k < length bs → test (slice_index bs k) ≡ true

-- a signal's name: 2 to 16 name bytes, a letter first
pub record Name (bs : List ℕ) : Type 0 where
  pub low : 2 ≤ length bs
  pub high : length bs ≤ 16
  pub letter : capital (slice_index bs 0) ≡ true
  pub each : Each name_byte bs

-- a kind's name: 1 to 8 kind bytes
pub record Kind (bs : List ℕ) : Type 0 where
  pub low : 1 ≤ length bs
  pub high : length bs ≤ 8
  pub each : Each kind_byte bs
