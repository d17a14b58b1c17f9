-- The laws of the operations.
use Rattle.std.proofs.Common.{◌≡◌, ℕ, ◌+◌, ◌<◌, ◌≤◌, ◌⊎◌, List, length, get_or, ℤ, pos, negsuc, ◌+ℤ◌, ◌≤ℤ◌, sym, refl, ap, ◌∙◌, subst, inl, inr, ⊎_elim, arith, get_or-set_other, get_or-set_same}
use lib.ListN as ln
use Rattle.std.specs.Int.{int_max, int_min}
use Rattle.std.proofs.lemmas.Int.{ints, by_lt_z}
use Rattle.std.proofs.lemmas.Bool.{cases_eq}
use Rattle.blocks.specs.declared.types.ValueType.TheVariants.{Num}
use Rattle.std.specs.List.{fold}
use Rattle.blocks.specs.Blocks.{places}
use Rattle.blocks.proofs.Fills.{cases_has}
use Rattle.blocks.proofs.Forcing.{changed}
use Rattle.numbers.specs.declared.operation.Operation.TheVariants.{Mean}
use Rattle.numbers.specs.Laws.{Extreme, MaxIsGreatest, MinIsLeast, MeanNeedsAll}
use Rattle.numbers.specs.Numbers.{total, number_result}
use Rattle.numbers.specs.Folds.{folds_keep}
use Rattle.numbers.specs.Means.{means_apart}

-- ---- the greatest and the least

module _ (Stands : ℤ → ℤ → Type 0) (join : ℤ → ℤ → ℤ) (left : (a x : ℤ) → Stands a (join a x)) (right : (a x : ℤ) → Stands x (join a x))
    (on : (a b c : ℤ) → Stands a b → Stands b c → Stands a c) (either : (a x : ℤ) → (join a x ≡ a) ⊎ (join a x ≡ x)) (row : List ℤ) where
  extreme : (c : ℕ) → 0 < c → Extreme Stands c row (fold join (get_or row 0 (pos 0)) (places c row))
  extreme c some =
      let z : ℤ = get_or row 0 (pos 0) in
      let all = folds_keep join (λ n v _. ((k : ℕ) → k < n → Stands (get_or row k (pos 0)) v) × ((k : ℕ) × (k < c) × (v ≡ get_or row k (pos 0)))) row row c z z
      (λ n v _ h p. (
        λ k l. ⊎_elim
            (λ e. subst (λ k. Stands (get_or row k (pos 0)) (join v (get_or row n (pos 0)))) (sym e) (right v (get_or row n (pos 0))))
            (λ ne. on _ _ _ (p.0 k (omega arith)) (left v (get_or row n (pos 0))))
            (cases_eq k n),
        ⊎_elim (λ e. (p.1.0, p.1.1, e ∙ p.1.2)) (λ e. (n, h, e)) (either v (get_or row n (pos 0))),
      ))
      (λ k h. absurd (omega arith), (0, some, refl)) in
      record { bounds = all.0; reached = all.1 }

max_either : (a x : ℤ) → (int_max a x ≡ a) ⊎ (int_max a x ≡ x)
max_either a x = by_lt_z x a (λ h. inl (grind (arith, ints))) (λ h. inr (grind (arith, ints)))

min_either : (a x : ℤ) → (int_min a x ≡ a) ⊎ (int_min a x ≡ x)
min_either a x = by_lt_z x a (λ h. inr (grind (arith, ints))) (λ h. inl (grind (arith, ints)))

pub max_is_greatest : MaxIsGreatest
max_is_greatest c row some = extreme (λ x v. x ≤ℤ v) int_max (λ a x. grind (arith, ints)) (λ a x. grind (arith, ints)) (λ a b c p q. omega (arith, ints)) max_either row c some

pub min_is_least : MinIsLeast
min_is_least c row some = extreme (λ x v. v ≤ℤ x) int_min (λ a x. grind (arith, ints)) (λ a x. grind (arith, ints)) (λ a b c p q. omega (arith, ints)) min_either row c some

-- ---- the mean

-- one place changed
total_put : (n j : ℕ) (row : List ℤ) (v : ℤ) → j < length row → j < n → total n (ln.set row j v) +ℤ get_or row j (pos 0) ≡ total n row +ℤ v
total_put n j row v l h =
    (folds_keep ◌+ℤ◌ (λ k y z. (k ≤ j → y ≡ z) × (j < k → y +ℤ get_or row j (pos 0) ≡ z +ℤ v)) (ln.set row j v) row n (pos 0) (pos 0)
    (λ k y z _ p. ⊎_elim (here k y z p) (other k y z p) (cases_eq k j))
    (λ _. refl, λ k. absurd (omega arith))).1 h
  where
    here : (k : ℕ) (y z : ℤ) → (k ≤ j → y ≡ z) × (j < k → y +ℤ get_or row j (pos 0) ≡ z +ℤ v) → k ≡ j
        → (k + 1 ≤ j → y +ℤ get_or (ln.set row j v) k (pos 0) ≡ z +ℤ get_or row k (pos 0)) × (j < k + 1 → (y +ℤ get_or (ln.set row j v) k (pos 0)) +ℤ get_or row j (pos 0) ≡ (z +ℤ get_or row k (pos 0)) +ℤ v)
    here k y z p e =
        let s = ap (λ k. get_or (ln.set row j v) k (pos 0)) e ∙ get_or-set_same row j v (pos 0) l in
        let o = ap (λ k. get_or row k (pos 0)) e in
        let same = p.0 (omega arith) in
        (λ h. absurd (omega arith), λ _. omega (arith, ints, s, o, same))

    other : (k : ℕ) (y z : ℤ) → (k ≤ j → y ≡ z) × (j < k → y +ℤ get_or row j (pos 0) ≡ z +ℤ v) → (k ≡ j → ⊥)
        → (k + 1 ≤ j → y +ℤ get_or (ln.set row j v) k (pos 0) ≡ z +ℤ get_or row k (pos 0)) × (j < k + 1 → (y +ℤ get_or (ln.set row j v) k (pos 0)) +ℤ get_or row j (pos 0) ≡ (z +ℤ get_or row k (pos 0)) +ℤ v)
    other k y z p ne =
        let s = get_or-set_other row j k v (pos 0) ne in
        (λ h. let same = p.0 (omega arith) in omega (arith, ints, s, same), λ h. let same = p.1 (omega arith) in omega (arith, ints, s, same))

pub mean_needs_all : MeanNeedsAll
mean_needs_all c row set two few good forces k h = ⊎_elim (λ has. has) (λ free. absurd (by_lt_z (get_or row k (pos 0)) (pos 0)
    (λ neg. changed Num c row set few good k h free (pos 30000) (omega (arith, ints), omega (arith, ints)) (number_result Mean c)
    (λ e. let p = total_put c k row (pos 30000) (omega (arith, good.eight)) h in
    means_apart (total c row) (total c (ln.set row k (pos 30000))) c (omega arith) few (omega (arith, ints)) (sym e)) forces)
    (λ nat. changed Num c row set few good k h free (negsuc 29999) (omega (arith, ints), omega (arith, ints)) (number_result Mean c)
    (λ e. let p = total_put c k row (negsuc 29999) (omega (arith, good.eight)) h in
    means_apart (total c (ln.set row k (negsuc 29999))) (total c row) c (omega arith) few (omega (arith, ints)) e) forces)))
    (cases_has set k)
