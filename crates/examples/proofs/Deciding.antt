-- Deciding the causes of a row from whether each set forces it.
use Rattle.std.proofs.Common.{◌≡◌, ℕ, zero, suc, ◌/◌, ◌%◌, ◌^◌, ◌<◌, Bool, true, false, not, ◌&&◌, ◌||◌, eqb, ltb, List, [], ◌∷◌, length, ℤ, Decides, sym, refl, subst, ⊎_elim, arith}
use mathlib.Core.Bool.{beq}
use Rattle.std.specs.List.{list_all}
use Rattle.std.proofs.lemmas.Bool.{and_parts, cases_lt, eqb-true, ltb-true, or_cases, false≢true}
use Rattle.std.proofs.lemmas.Bool.Decides.{Decides-and, Decides-at, Decides-eqb, Decides-like, Decides-below_and}
use Rattle.blocks.specs.declared.types.ValueType.{ValueType}
use Rattle.blocks.specs.Blocks.{Has, Forces}
use Rattle.blocks.specs.Laws.{Within}
use Rattle.blocks.proofs.Ones.{beq_same}
use Rattle.examples.specs.Causes.{Cause, member}

abbrev all_below : ℕ → (ℕ → Bool) → Bool
all_below zero p = true
all_below (suc n) p = p n && all_below n p

below_decides : (p : ℕ → Bool) (P : ℕ → Type 0) → ((k : ℕ) → Decides (p k) (P k)) → (n : ℕ) → Decides (all_below n p) ((k : ℕ) → k < n → P k)
below_decides p P each n = Decides-below_and p P (λ n. all_below n p) each refl (λ _. refl) n

if_decides : {P Q : Type 0} (a b : Bool) → Decides a P → Decides b Q → Decides (not a || b) (P → Q)
if_decides a b d e = (λ t p. e.0 (one a b t (d.1 p)), λ f. two a b (λ x. e.1 (f (d.0 x))))
  where
    one : (a b : Bool) → (not a || b) ≡ true → a ≡ true → b ≡ true
    one a b t x = grind arith

    two : (a b : Bool) → (a ≡ true → b ≡ true) → (not a || b) ≡ true
    two true b f = f refl
    two false b f = refl

abbrev pub within : ℕ → ℕ → Bool
within a b = all_below 8 (λ k. not (eqb ((a / 2 ^ k) % 2) 1) || eqb ((b / 2 ^ k) % 2) 1)

within_decides : (a b : ℕ) → Decides (within a b) (Within a b)
within_decides a b = below_decides _ (λ k. Has a k → Has b k) (λ k. if_decides _ _ (Decides-eqb _ 1) (Decides-eqb _ 1)) 8

-- forces, and so does no proper subset
abbrev pub is_cause : ℕ → (ℕ → Bool) → ℕ → Bool
is_cause c forces set = forces set && all_below (2 ^ c) (λ sub. not (within sub set) || (not (forces sub) || within set sub))

member_has : (p : ℕ → Bool) (n : ℕ) (ns : List ℕ) → list_all p ns ≡ true → member n ns ≡ true → p n ≡ true
member_has p n [] a m = absurd (false≢true m)
member_has p n (x ∷ xs) a m =
    let b = and_parts (p x) (list_all p xs) a in
    ⊎_elim (λ e. subst (λ k. p k ≡ true) (sym (eqb-true n x e)) b.0) (member_has p n xs b.1) (or_cases (eqb n x) (member n xs) m)

-- these sets, of all sets of c pins, are the causes
abbrev pub are_causes : ℕ → (ℕ → Bool) → List ℕ → Bool
are_causes c forces sets = all_below (2 ^ c) (λ set. beq (member set sets) (is_cause c forces set)) && list_all (λ set. ltb set (2 ^ c)) sets

module _ (pins : List ValueType) (f : List ℤ → ℤ) (row : List ℤ) (c : ℕ) (counted : length pins ≡ c) (forces : ℕ → Bool) (each : (set : ℕ) → Decides (forces set) (Forces pins f row set)) where
  cause_decides : (set : ℕ) → set < 2 ^ c → Decides (is_cause c forces set) (Cause pins f row set)
  cause_decides set h =
      let Least : Type 0 = (sub : ℕ) → sub < 2 ^ c → Within sub set → Forces pins f row sub → Within set sub in
      let d : Decides (is_cause c forces set) (Forces pins f row set × Least) =
      Decides-and (forces set) _ (each set) (below_decides _ (λ sub. Within sub set → Forces pins f row sub → Within set sub) (λ sub. if_decides _ _ (within_decides sub set) (if_decides _ _ (each sub) (within_decides set sub))) (2 ^ c)) in
      Decides-like (is_cause c forces set)
      (λ p. record { of_pins = subst (λ n. set < 2 ^ n) (sym counted) h; forces = p.0; minimal = subst (λ n. (sub : ℕ) → sub < 2 ^ n → Within sub set → Forces pins f row sub → Within set sub) (sym counted) p.1 })
      (λ p. (p.forces, subst (λ n. (sub : ℕ) → sub < 2 ^ n → Within sub set → Forces pins f row sub → Within set sub) counted p.minimal))
      d

  pub causes_decided : (sets : List ℕ) → are_causes c forces sets ≡ true → (set : ℕ) → Decides (member set sets) (Cause pins f row set)
  causes_decided sets e set =
      let b = and_parts (all_below (2 ^ c) (λ set. beq (member set sets) (is_cause c forces set))) (list_all (λ set. ltb set (2 ^ c)) sets) e in
      ⊎_elim
      (λ h. Decides-at _ _ (beq_same _ _ ((below_decides _ (λ k. beq (member k sets) (is_cause c forces k) ≡ true) (λ k. (λ t. t, λ t. t)) (2 ^ c)).0 b.0 set h)) (cause_decides set h))
      (λ h. (
        λ m. absurd (let l : set < 2 ^ c = ltb-true set (2 ^ c) (member_has (λ set. ltb set (2 ^ c)) set sets b.1 m) in omega arith),
        λ p. absurd (let l : set < 2 ^ c = subst (λ n. set < 2 ^ n) counted p.of_pins in omega arith),
      ))
      (cases_lt set (2 ^ c))
