-- Rows of a table.
use Rattle.std.proofs.Common.{◌≡◌, ℕ, ◌+◌, ◌*◌, ◌≤◌, List, ℤ, length, drop, sym, ◌∙◌, ap, subst, arith}
use Rattle.std.proofs.Math.Nat.{add-mul}
use Rattle.std.proofs.lemmas.List.{drop-drop}
use Rattle.std.proofs.lemmas.Slice.{drop-put_mid}
use borrow.Rule.Slice.PartMut.{put_mid}

-- writing row j leaves what stands behind it
pub behind_row : (j n k : ℕ) (old now row : List ℤ) → j * n ≤ length now → length row ≡ k → k ≡ n → drop (j * n) now ≡ drop (j * n) old → drop ((j + 1) * n) (put_mid (j * n) k now row) ≡ drop ((j + 1) * n) old
behind_row j n k old now row fits size width same =
    let next : (j + 1) * n ≡ j * n + n = omega (arith, add-mul j 1 n) in
    subst (λ e. drop e (put_mid (j * n) k now row) ≡ drop e old) (sym next)
    (drop-put_mid (j * n) k now row (j * n + n) (omega arith) fits size ∙ (sym (drop-drop n (j * n) now) ∙ (ap (drop n) same ∙ drop-drop n (j * n) old)))
