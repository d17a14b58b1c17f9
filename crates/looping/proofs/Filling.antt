-- Columns that are filled place by place.
use Rattle.std.proofs.Common.{◌≡◌, ℕ, zero, suc, ◌+◌, ◌-◌, ◌≤◌, Bool, false, List, ◌++◌, length, get_or, Decides, ap, ◌∙◌, subst, arith}
use Rattle.std.proofs.lemmas.Bool.Decides.{Decides-at}
use Rattle.std.proofs.lemmas.List.{get_or_append_left, get_or_default, get_or_past}
use Rattle.looping.specs.declared.Unary.{Unary}
use Rattle.looping.specs.declared.Binary.{Binary}
use Rattle.looping.specs.Words.{Loops, Within}
use Rattle.looping.specs.Columns.{at, On}
use Rattle.looping.specs.Laws.{Means1, Means2}
use Rattle.looping.specs.Sweeps.{down, swept, Passed, PassedTwice}
use Rattle.looping.proofs.Sats.{column1, column2, decides1, decides2}

module _ (turn : ℕ → Bool → Bool → Type 0) (g : ℕ → Bool → Bool) (l : ℕ) (same : (i : ℕ) (x y : Bool) → Within l i → turn (i - 1) x y → y ≡ g i x) where
  -- a pass has what is carried to each place
  passed : (last : Bool) (xs : List Bool) → length xs ≡ l → Passed turn last xs → (d : ℕ) → d ≤ l → get_or xs (l - d) last ≡ down g last l d
  passed last xs long p zero h = get_or_past xs (l - 0) last (omega arith)
  passed last xs long p (suc d) h =
      let i : l - suc d ≡ l - d - 1 = omega arith in
      let after : l - suc d + 1 ≡ l - d = omega arith in
      let made : turn (l - d - 1) (get_or xs (l - suc d + 1) last) (get_or xs (l - suc d) last) =
      subst (λ (k : ℕ). turn k (get_or xs (l - suc d + 1) last) (get_or xs (l - suc d) last)) i (p.each (l - suc d) (omega arith)) in
      same (l - d) (get_or xs (l - suc d + 1) last) (get_or xs (l - suc d) last) (record { low = omega arith; high = omega arith }) made
      ∙ ap (λ (k : ℕ). g (l - d) (get_or xs k last)) after ∙ ap (g (l - d)) (passed last xs long p d (omega arith))

  passed_at : (last : Bool) (xs : List Bool) → length xs ≡ l → Passed turn last xs → (i : ℕ) → Within l i → at xs i ≡ down g last l (suc l - i)
  passed_at last xs long p i w =
      let e : i - 1 ≡ l - (suc l - i) = omega (arith, w.low, w.high) in
      get_or_default xs (i - 1) false last (omega (arith, w.low, w.high)) ∙ ap (λ (k : ℕ). get_or xs k last) e ∙ passed last xs long p (suc l - i) (omega (arith, w.low))

  twice_at : (begin : Bool) (c : ℕ) (xs : List Bool) → Loops l c → length xs ≡ l → PassedTwice turn begin c xs → (i : ℕ) → Within l i → at xs i ≡ swept g begin l c i
  twice_at begin c xs good long p i w =
      let last : at p.once c ≡ down g begin l (suc l - c) = passed_at begin p.once (p.long ∙ long) p.first c (record { low = good.low; high = good.high }) in
      passed_at (at p.once c) xs long p.second i w ∙ ap (λ (x : Bool). down g x l (suc l - i)) last

-- two passes have what is swept, where `turn` makes what g says
pub swept_at : {turn : ℕ → Bool → Bool → Type 0} {begin : Bool} {c : ℕ} {xs : List Bool} {l : ℕ} (g : ℕ → Bool → Bool) → PassedTwice turn begin c xs → Loops l c → length xs ≡ l
    → ((i : ℕ) (x y : Bool) → Within l i → turn (i - 1) x y → y ≡ g i x) → (i : ℕ) → Within l i → at xs i ≡ swept g begin l c i
swept_at {turn} {begin} {c} {xs} {l} g p good long same = twice_at turn g l same begin c xs good long p

module _ {l c : ℕ} (good : Loops l c) (run rest : List Bool) (long : length run ≡ l) where
  at_run : (i : ℕ) → Within l i → at (run ++ rest) i ≡ at run i
  at_run i w = get_or_append_left run rest false (i - 1) (omega (arith, w.low, w.high))

  -- a run of truths that has the column of an operator says what the operator means
  pub says1 : (o : Unary) (x : ℕ → Bool) → ((i : ℕ) → Within l i → at run i ≡ column1 l c o x i) → (i : ℕ) → Within l i → Decides (at (run ++ rest) i) (Means1 o l c (On x) i)
  says1 o x made i w = Decides-at (at (run ++ rest) i) (column1 l c o x i) (at_run i w ∙ made i w) (decides1 l c good o x i w)

  pub says2 : (o : Binary) (x y : ℕ → Bool) → ((i : ℕ) → Within l i → at run i ≡ column2 l c o x y i) → (i : ℕ) → Within l i → Decides (at (run ++ rest) i) (Means2 o l c (On x) (On y) i)
  says2 o x y made i w = Decides-at (at (run ++ rest) i) (column2 l c o x y i) (at_run i w ∙ made i w) (decides2 l c good o x y i w)
