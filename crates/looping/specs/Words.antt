-- The infinite word that a looping run spells. A run has the steps 1 to l, and after step l comes step c.
use Rattle.std.specs.Prelude.{ℕ, zero, suc, ◌+◌, ◌-◌, ◌≤◌, cond, nat_le, nat_lt}

-- the step that comes after step i
abbrev pub after : ℕ → ℕ → ℕ → ℕ
after l c i = cond (nat_lt i l) (suc i) c

-- the step n steps on from step i
abbrev pub onward : ℕ → ℕ → ℕ → ℕ → ℕ
onward l c i zero = i
onward l c i (suc n) = after l c (onward l c i n)

-- the step that position k of the word shows, where positions count from 0
abbrev pub word : ℕ → ℕ → ℕ → ℕ
word l c k = onward l c 1 k

-- how many visits there are from step i: the steps i to l, and then c to i - 1
abbrev pub visits : ℕ → ℕ → ℕ → ℕ
visits l c i = (suc l - i) + (i - c)

-- the step that is visit n from step i, where visits count from 0
abbrev pub visit : ℕ → ℕ → ℕ → ℕ → ℕ
visit l c i n = cond (nat_le (i + n) l) (i + n) (c + (i + n - suc l))

-- the step c at which the run goes on is one of its steps
pub record Loops (l c : ℕ) : Type 0 where
  pub low : 1 ≤ c
  pub high : c ≤ l

-- i is one of the steps 1 to l
pub record Within (l i : ℕ) : Type 0 where
  pub low : 1 ≤ i
  pub high : i ≤ l
