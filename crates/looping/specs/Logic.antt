-- Linear temporal logic over the positions of a word.
use Rattle.std.specs.Prelude.{◌≡◌, ℕ, suc, ◌<◌, ◌≤◌, Bool, true, ◌⊎◌}
use Rattle.looping.specs.declared.Unary.{Unary}
use Rattle.looping.specs.declared.Unary.TheVariants.{Not, Next, Finally, Globally}
use Rattle.looping.specs.declared.Binary.{Binary}
use Rattle.looping.specs.declared.Binary.TheVariants.{And, Or, Implies, Until}

-- a tree over atoms: an operator stands before one side, or between two
pub data Tree (A : Type 0) : Type 0 where
  atom : A → Tree A
  one : Unary → Tree A → Tree A
  two : Binary → Tree A → Tree A → Tree A

-- the tree holds at position k of the word w, where `holds` says which atoms hold at which letter
abbrev pub Sat : {A : Type 0} → (A → ℕ → Bool) → (ℕ → ℕ) → Tree A → ℕ → Type 0
Sat holds w (atom a) k = holds a (w k) ≡ true
Sat holds w (one Not p) k = Sat holds w p k → ⊥
Sat holds w (one Next p) k = Sat holds w p (suc k)
Sat holds w (one Finally p) k = (j : ℕ) × (k ≤ j) × Sat holds w p j
Sat holds w (one Globally p) k = (j : ℕ) → k ≤ j → Sat holds w p j
Sat holds w (two And p q) k = Sat holds w p k × Sat holds w q k
Sat holds w (two Or p q) k = Sat holds w p k ⊎ Sat holds w q k
Sat holds w (two Implies p q) k = Sat holds w p k → Sat holds w q k
Sat holds w (two Until p q) k = (j : ℕ) × (k ≤ j) × Sat holds w q j × ((i : ℕ) → k ≤ i → i < j → Sat holds w p i)
