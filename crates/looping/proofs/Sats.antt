-- Each operator's column comes from those of its sides.
use Rattle.std.proofs.Common.{◌≡◌, ℕ, suc, Bool, true, false, not, ◌&&◌, ◌||◌, ◌⊎◌, ◌↔◌, Decides, subst, inl, inr}
use Rattle.std.proofs.lemmas.Bool.{cases_Bool, or_cases, or_left, or_right, both_ways, not-true, not_from_false}
use Rattle.std.proofs.lemmas.Bool.Decides.{Decides-like, Decides-not, Decides-and, Decides-or}
use Rattle.looping.specs.declared.Unary.{Unary}
use Rattle.looping.specs.declared.Unary.TheVariants.{Not, Next, Finally, Globally}
use Rattle.looping.specs.declared.Binary.{Binary}
use Rattle.looping.specs.declared.Binary.TheVariants.{And, Or, Implies, Until}
use Rattle.looping.specs.Words.{after, word, Loops, Within}
use Rattle.looping.specs.Logic.{Tree, Sat, atom, one, two}
use Rattle.looping.specs.Columns.{On}
use Rattle.looping.specs.Laws.{Means1, Means2, Truths}
use Rattle.looping.specs.Sweeps.{swept}
use Rattle.looping.proofs.Paths.{word_within}
use Rattle.looping.proofs.Walks.{some_visits, all_visits, until_visits}
use Rattle.looping.proofs.Passes.{until_turn, some_turn, all_turn, until_swept, some_swept, all_swept}

pub decides_implies : {P Q : Type 0} (x y : Bool) → Decides x P → Decides y Q → Decides (not x || y) (P → Q)
decides_implies {P = P} {Q = Q} x y d e = (sound, full)
  where
    sound : (not x || y) ≡ true → P → Q
    sound h a = elim (or_cases (not x) y h) [ inl n ↦ absurd (both_ways x (not-true x n) (d.1 a)) | inr b ↦ e.0 b ]

    full : (P → Q) → (not x || y) ≡ true
    full f = elim (cases_Bool x) [ inl t ↦ or_right (not x) y (e.1 (f (d.0 t))) | inr n ↦ or_left (not x) y (not_from_false x n) ]

-- the facts themselves, as a test of them
pub on : (x : Bool) → Decides x (x ≡ true)
on x = (λ h. h, λ h. h)

-- the column of an operator, from those of its sides
abbrev pub column1 : ℕ → ℕ → Unary → (ℕ → Bool) → ℕ → Bool
column1 l c Not x i = not (x i)
column1 l c Next x i = x (after l c i)
column1 l c Finally x i = swept (some_turn x) false l c i
column1 l c Globally x i = swept (all_turn x) true l c i

abbrev pub column2 : ℕ → ℕ → Binary → (ℕ → Bool) → (ℕ → Bool) → ℕ → Bool
column2 l c And x y i = x i && y i
column2 l c Or x y i = x i || y i
column2 l c Implies x y i = not (x i) || y i
column2 l c Until x y i = swept (until_turn x y) false l c i

module _ (l c : ℕ) (good : Loops l c) where
  -- the column says at each step what the operator means there
  pub decides1 : (o : Unary) (x : ℕ → Bool) (i : ℕ) → Within l i → Decides (column1 l c o x i) (Means1 o l c (On x) i)
  decides1 Not x i w = Decides-not (x i) (on (x i))
  decides1 Next x i w = on (x (after l c i))
  decides1 Finally x i w = some_swept l c good x i w
  decides1 Globally x i w = all_swept l c good x i w

  pub decides2 : (o : Binary) (x y : ℕ → Bool) (i : ℕ) → Within l i → Decides (column2 l c o x y i) (Means2 o l c (On x) (On y) i)
  decides2 And x y i w = Decides-and (x i) (y i) (on (x i)) (on (y i))
  decides2 Or x y i w = Decides-or (x i) (y i) (on (x i)) (on (y i))
  decides2 Implies x y i w = decides_implies (x i) (y i) (on (x i)) (on (y i))
  decides2 Until x y i w = until_swept l c good x y i w

  module _ {A : Type 0} (holds : A → ℕ → Bool) where
    -- S and R say of the steps what the trees say of the positions that show them
    module _ (p : Tree A) (S : ℕ → Type 0) (same : (j : ℕ) → Sat holds (word l c) p j ↔ S (word l c j)) where
      pub means1 : (o : Unary) (k : ℕ) → Sat holds (word l c) (one o p) k ↔ Means1 o l c S (word l c k)
      means1 Not k = (λ f s. f ((same k).1 s), λ f s. f ((same k).0 s))
      means1 Next k = same (suc k)
      means1 Finally k = some_visits l c good (Sat holds (word l c) p) S same k
      means1 Globally k = all_visits l c good (Sat holds (word l c) p) S same k

      module _ (q : Tree A) (R : ℕ → Type 0) (alike : (j : ℕ) → Sat holds (word l c) q j ↔ R (word l c j)) where
        pub means2 : (o : Binary) (k : ℕ) → Sat holds (word l c) (two o p q) k ↔ Means2 o l c S R (word l c k)
        means2 And k = (λ s. ((same k).0 s.0, (alike k).0 s.1), λ s. ((same k).1 s.0, (alike k).1 s.1))
        means2 Or k = (into, out)
          where
            into : Sat holds (word l c) p k ⊎ Sat holds (word l c) q k → S (word l c k) ⊎ R (word l c k)
            into (inl s) = inl ((same k).0 s)
            into (inr s) = inr ((alike k).0 s)

            out : S (word l c k) ⊎ R (word l c k) → Sat holds (word l c) p k ⊎ Sat holds (word l c) q k
            out (inl s) = inl ((same k).1 s)
            out (inr s) = inr ((alike k).1 s)
        means2 Implies k = (λ f s. (alike k).0 (f ((same k).1 s)), λ f s. (alike k).1 (f ((same k).0 s)))
        means2 Until k = until_visits l c good (Sat holds (word l c) p) S same (Sat holds (word l c) q) R alike k

    pub truths0 : (a : A) (column : ℕ → Bool) → ((i : ℕ) → Within l i → Decides (column i) (holds a i ≡ true)) → Truths holds l c (atom a) column
    truths0 a column e k = e (word l c k) (word_within l c good k)

    module _ (p : Tree A) (x : ℕ → Bool) (px : Truths holds l c p x) where
      same : (j : ℕ) → Sat holds (word l c) p j ↔ On x (word l c j)
      same j = ((px j).1, (px j).0)

      pub truths1 : (o : Unary) (column : ℕ → Bool) → ((i : ℕ) → Within l i → Decides (column i) (Means1 o l c (On x) i)) → Truths holds l c (one o p) column
      truths1 o column e k =
          let s = means1 p (On x) same o k in
          Decides-like (column (word l c k)) s.1 s.0 (e (word l c k) (word_within l c good k))

    module _ (p : Tree A) (x : ℕ → Bool) (px : Truths holds l c p x) (q : Tree A) (y : ℕ → Bool) (qy : Truths holds l c q y) where
      pub truths2 : (o : Binary) (column : ℕ → Bool) → ((i : ℕ) → Within l i → Decides (column i) (Means2 o l c (On x) (On y) i)) → Truths holds l c (two o p q) column
      truths2 o column e k =
          let s = means2 p (On x) (same p x px) q (On y) (same q y qy) o k in
          Decides-like (column (word l c k)) s.1 s.0 (e (word l c k) (word_within l c good k))

    -- each tree has a column
    pub decided : (t : Tree A) → (column : ℕ → Bool) × Truths holds l c t column
    decided (atom a) = (holds a, truths0 a (holds a) (λ i w. on (holds a i)))
    decided (one o p) =
        let a = decided p in
        (column1 l c o a.0, truths1 p a.0 a.1 o (column1 l c o a.0) (decides1 o a.0))
    decided (two o p q) =
        let a = decided p in
        let b = decided q in
        (column2 l c o a.0 b.0, truths2 p a.0 a.1 q b.0 b.1 o (column2 l c o a.0 b.0) (decides2 o a.0 b.0))

    pub shown : (t : Tree A) (j k : ℕ) → word l c j ≡ word l c k → Sat holds (word l c) t j → Sat holds (word l c) t k
    shown t j k e s =
        let a = decided t in
        (a.1 k).0 (subst (On a.0) e ((a.1 j).1 s))
