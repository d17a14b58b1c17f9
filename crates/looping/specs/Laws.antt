-- What the truth of a tree over a looping run depends on.
use Rattle.std.specs.Prelude.{◌≡◌, ℕ, suc, ◌+◌, ◌-◌, ◌%◌, ◌<◌, Bool, ◌⊎◌, ◌↔◌, Decides}
use Rattle.looping.specs.declared.Unary.{Unary}
use Rattle.looping.specs.declared.Unary.TheVariants.{Not, Next, Finally, Globally}
use Rattle.looping.specs.declared.Binary.{Binary}
use Rattle.looping.specs.declared.Binary.TheVariants.{And, Or, Implies, Until}
use Rattle.looping.specs.Words.{after, word, visits, visit, Loops, Within}
use Rattle.looping.specs.Logic.{Tree, Sat, one, two}

-- some visit from step i has P
abbrev pub SomeVisit : ℕ → ℕ → (ℕ → Type 0) → ℕ → Type 0
SomeVisit l c P i = (n : ℕ) × (n < visits l c i) × P (visit l c i n)

-- all visits from step i have P
abbrev pub AllVisits : ℕ → ℕ → (ℕ → Type 0) → ℕ → Type 0
AllVisits l c P i = (n : ℕ) → n < visits l c i → P (visit l c i n)

-- some visit from step i has Q, and all visits before it have P
abbrev pub UntilVisit : ℕ → ℕ → (ℕ → Type 0) → (ℕ → Type 0) → ℕ → Type 0
UntilVisit l c P Q i = (n : ℕ) × (n < visits l c i) × Q (visit l c i n) × ((m : ℕ) → m < n → P (visit l c i m))

-- what an operator says at step i, where P is what its side says at each step
abbrev pub Means1 : Unary → ℕ → ℕ → (ℕ → Type 0) → ℕ → Type 0
Means1 Not l c P i = P i → ⊥
Means1 Next l c P i = P (after l c i)
Means1 Finally l c P i = SomeVisit l c P i
Means1 Globally l c P i = AllVisits l c P i

-- what an operator says at step i, where P and Q are what its sides say at each step
abbrev pub Means2 : Binary → ℕ → ℕ → (ℕ → Type 0) → (ℕ → Type 0) → ℕ → Type 0
Means2 And l c P Q i = P i × Q i
Means2 Or l c P Q i = P i ⊎ Q i
Means2 Implies l c P Q i = P i → Q i
Means2 Until l c P Q i = UntilVisit l c P Q i

-- the tree holds at the first position that shows step i
abbrev pub SatStep : {A : Type 0} → (A → ℕ → Bool) → ℕ → ℕ → Tree A → ℕ → Type 0
SatStep holds l c t i = Sat holds (word l c) t (i - 1)

-- the column has at each step the truth of the tree, at every position that shows the step
abbrev pub Truths : {A : Type 0} → (A → ℕ → Bool) → ℕ → ℕ → Tree A → (ℕ → Bool) → Type 0
Truths holds l c t column = (k : ℕ) → Decides (column (word l c k)) (Sat holds (word l c) t k)

-- the truth of a tree over a run of l steps that goes on at step c, where atoms are numbers
pub record VisitLaws (l c : ℕ) (holds : ℕ → ℕ → Bool) : Type 0 where
  -- the word shows the steps in order
  pub first : (k : ℕ) → k < l → word l c k ≡ k + 1
  -- and from there on the steps c to l, again and again
  pub again : (j : ℕ) → word l c (l + j) ≡ c + j % (suc l - c)
  -- each position shows a step
  pub within : (k : ℕ) → Within l (word l c k)
  -- positions that show one step have one truth
  pub shown : (t : Tree ℕ) (j k : ℕ) → word l c j ≡ word l c k → Sat holds (word l c) t j → Sat holds (word l c) t k
  -- an operator looks at its side only at the visits from the step shown
  pub means1 : (o : Unary) (p : Tree ℕ) (k : ℕ) → Sat holds (word l c) (one o p) k ↔ Means1 o l c (SatStep holds l c p) (word l c k)
  -- and so at its two sides
  pub means2 : (o : Binary) (p q : Tree ℕ) (k : ℕ) → Sat holds (word l c) (two o p q) k ↔ Means2 o l c (SatStep holds l c p) (SatStep holds l c q) (word l c k)
  -- each tree has a truth at each step
  pub decided : (t : Tree ℕ) → (column : ℕ → Bool) × Truths holds l c t column

-- these laws hold of every looping run and all atoms
abbrev pub Visits : Type 0
Visits = (l c : ℕ) → Loops l c → (holds : ℕ → ℕ → Bool) → VisitLaws l c holds
