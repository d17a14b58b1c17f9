use Rattle.std.proofs.Common.{rules, tests, ℕ, ℤ, arith, cond, get_or, pos, nat_lt}
use Rattle.std.proofs.lemmas.List.FromFn.{fill_by_all}
use Rattle.blocks.specs.Filled.{shown_at, filled}
use Rattle.blocks.proofs.Rows.{made_at}
use Rattle.blocks.proofs.values.fill.Goals as goal

pub returns : goal.returns
unfolding filled
returns c =
    let row = c.args.row in
    let place : ℕ → ℤ = λ k. cond (nat_lt k c.args.count) (shown_at c.args.pins k (get_or row k (pos 0)) (get_or c.args.ends k (pos 0))) (get_or row k (pos 0)) in
    fill_by_all place c.from_fn.result 8 (pos 0) c.from_fn.ensures.items.long
    (λ k h. made_at _ place _ c.from_fn.result (λ k y q call. search (rules, tests)) 0 8 c.from_fn.ensures.items.each (pos 0) k (omega arith) (omega arith))
