-- Places behind the signals of a table: m nodes at each step, step by step.
use Rattle.std.proofs.Common.{◌≡◌, ℕ, suc, ◌+◌, ◌-◌, ◌*◌, ◌/◌, ◌%◌, ◌<◌, ◌≤◌, Bool, cond, List, ◌++◌, length, take, drop, ℤ, pos, sym, ap, ◌∙◌, subst, mod-lt, mul_comm, add-mul, mul-le-mul, le_refl, ⊎_elim, arith}
use Rattle.std.proofs.lemmas.Bool.{cases_lt}
use Rattle.std.proofs.lemmas.List.{length-take, length-take-le, get_or-take, get_or-drop, get_or-append-add, get_or_append_left}
use Rattle.std.proofs.lemmas.Nat.{mul-add-lt, div-mul-add, mod-mul-add, div_below, div-add-mod'}
use Rattle.looping.specs.Words.{Within}
use Rattle.property.specs.Meaning.{value}
use Rattle.property.specs.ByNode.{spot, Shows, ShowsAt, FirstWrong, FirstWrongAt}

-- a place in step i + 1 lies in a list of l steps
pub place_below : (m f i l n : ℕ) → f < m → i < l → l * m ≤ n → i * m + f < n
place_below m f i l n h b e = omega (arith, mul-add-lt i m f l b h)

-- the column and the step of a place
pub record Decoded (m l p : ℕ) : Type 0 where
  pub f : ℕ
  pub j : ℕ
  pub column : f < m
  pub step : Within l j
  pub place : (j - 1) * m + f ≡ p

pub decode : (m l p : ℕ) → 0 < m → p < m * l → Decoded m l p
decode m l p h b =
    let back : suc (p / m) - 1 ≡ p / m = omega arith in
    record {
      f = p % m;
      j = suc (p / m);
      column = mod-lt p h;
      step = record { low = omega arith; high = div_below p m l h (subst (λ (x : ℕ). p < x) (mul_comm m l) b) };
      place = ap (λ (i : ℕ). i * m + p % m) back ∙ div-add-mod' p m;
    }

-- the truth at the place of node f at step j
pub spot_at : (columns : List (List Bool)) (m f j : ℕ) → length columns ≡ m → f < m → 1 ≤ j
    → spot columns (((j - 1) * m + f) % length columns) (suc (((j - 1) * m + f) / length columns)) ≡ spot columns f j
spot_at columns m f j e h low =
    let step : suc (j - 1) ≡ j = omega arith in
    ap (λ (k : ℕ). spot columns (((j - 1) * m + f) % k) (suc (((j - 1) * m + f) / k))) e
    ∙ ap (λ (g : ℕ). spot columns g (suc (((j - 1) * m + f) / m))) (mod-mul-add (j - 1) m f h) ∙ ap (λ (i : ℕ). spot columns f (suc i)) (div-mul-add (j - 1) m f h) ∙ ap (spot columns f) step

-- what stands behind the signals, read there
pub stand_read : (start k : ℕ) (table : List ℤ) (p : ℕ) → p < length (take k (drop start table)) → value table (start + p) ≡ value (take k (drop start table)) p
stand_read start k table p h = sym (get_or-take k (drop start table) p (pos 0) (omega (arith, length-take k (drop start table))) ∙ get_or-drop start table p (pos 0))

-- and once it is written
pub stand_written : (start : ℕ) (table places rest : List ℤ) → start ≤ length table → (p : ℕ) → p < length places → value (take start table ++ (places ++ rest)) (start + p) ≡ value places p
stand_written start table places rest b p h =
    let e : start ≡ length (take start table) = sym (length-take-le start table b) in
    ap (λ (k : ℕ). value (take start table ++ (places ++ rest)) (k + p)) e ∙ get_or-append-add (take start table) (places ++ rest) p (pos 0) ∙ get_or_append_left places rest (pos 0) p h

-- the signals before it stay
pub signals_kept : (start : ℕ) (table places rest : List ℤ) → start ≤ length table → (e : ℕ) → e < start → value (take start table ++ (places ++ rest)) e ≡ value table e
signals_kept start table places rest b e h =
    get_or_append_left (take start table) (places ++ rest) (pos 0) e (omega (arith, length-take-le start table b)) ∙ get_or-take start table e (pos 0) h

-- the next step ends in the places of `steps` steps
pub step_ends : (m j steps : ℕ) → j < steps → j * m + m ≤ steps * m
step_ends m j steps h =
    let n : j + 1 ≤ steps = omega arith in
    let p : (j + 1) * m ≤ steps * m = mul-le-mul n (le_refl m) in
    omega (arith, p, add-mul j 1 m)

-- the truth at the place of node f, where steps count from 0
spot_here : (columns : List (List Bool)) (m f j : ℕ) → length columns ≡ m → f < m → spot columns ((j * m + f) % length columns) (suc ((j * m + f) / length columns)) ≡ spot columns f (suc j)
spot_here columns m f j e h =
    let back : suc j - 1 ≡ j = omega arith in
    subst (λ (i : ℕ). spot columns ((i * m + f) % length columns) (suc ((i * m + f) / length columns)) ≡ spot columns f (suc j)) back (spot_at columns m f (suc j) e h (omega arith))

-- the truth of a node at a step stands at its place
pub shows_place : (columns : List (List Bool)) (m f j : ℕ) → length columns ≡ m → f < m → (v : ℤ) → ShowsAt columns f j v → Shows columns (j * m + f) v
shows_place columns m f j e h v s = s ∙ sym (ap (λ (b : Bool). cond b (pos 1) (pos 0)) (spot_here columns m f j e h))

pub place_shows : (columns : List (List Bool)) (m f j : ℕ) → length columns ≡ m → f < m → (v : ℤ) → Shows columns (j * m + f) v → ShowsAt columns f j v
place_shows columns m f j e h v s = s ∙ ap (λ (b : Bool). cond b (pos 1) (pos 0)) (spot_here columns m f j e h)

-- what holds of the places of j steps and of those of the next holds of one step more
pub next_step : (P : ℕ → Type 0) (m j : ℕ) → ((q : ℕ) → q < j * m → P q) → ((f : ℕ) → f < m → P (j * m + f)) → (q : ℕ) → q < (j + 1) * m → P q
next_step P m j before here q h =
    ⊎_elim (λ (b : q < j * m). before q b)
    (λ (b : j * m ≤ q). let e : j * m + (q - j * m) ≡ q = omega arith in subst P e (here (q - j * m) (omega (arith, add-mul j 1 m))))
    (cases_lt q (j * m))

-- the first wrong node of a step is at the first wrong place
pub first_place : (columns : List (List Bool)) (m j : ℕ) (places step : List ℤ) (f : ℕ) → length columns ≡ m → j * m + m ≤ length places
    → ((g : ℕ) → g < m → value places (j * m + g) ≡ value step g) → ((q : ℕ) → q < j * m → Shows columns q (value places q))
    → FirstWrongAt columns j step f → FirstWrong columns places (j * m + f)
first_place columns m j places step f e fits same before x =
    let few : f < m = omega (arith, x.few, e) in
    record {
      few = omega arith;
      wrong = λ s. x.wrong (subst (ShowsAt columns f j) (same f few) (place_shows columns m f j e few (value places (j * m + f)) s));
      lower = λ q h. ⊎_elim (λ (b : q < j * m). before q b)
          (λ (b : j * m ≤ q).
          let g : ℕ = q - j * m in
          let k : j * m + g ≡ q = omega arith in
          let w : g < m = omega arith in
          subst (λ q. Shows columns q (value places q)) k (shows_place columns m g j e w (value places (j * m + g)) (subst (ShowsAt columns g j) (sym (same g w)) (x.lower g (omega arith)))))
          (cases_lt q (j * m));
    }

-- one step more is written
pub step_written : (columns : List (List Bool)) (m j : ℕ) (now step rest : List ℤ) → length columns ≡ m → length step ≡ m → j * m ≤ length now
    → ((q : ℕ) → q < j * m → Shows columns q (value now q)) → ((f : ℕ) → f < m → ShowsAt columns f j (value step f))
    → (q : ℕ) → q < (j + 1) * m → Shows columns q (value (take (j * m) now ++ (step ++ rest)) q)
step_written columns m j now step rest e size fits before here =
    let new : List ℤ = take (j * m) now ++ (step ++ rest) in
    next_step (λ q. Shows columns q (value new q)) m j
    (λ q b. subst (Shows columns q) (sym (signals_kept (j * m) now step rest fits q b)) (before q b))
    (λ f b. subst (Shows columns (j * m + f)) (sym (stand_written (j * m) now step rest fits f (omega arith))) (shows_place columns m f j e b (value step f) (here f b)))
