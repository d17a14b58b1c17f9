use Rattle.std.proofs.Common.{w16, Some, ap, ◌+◌, ◌<◌, length, sym, subst, ◌∙◌, arith, rules}
use Rattle.std.proofs.lemmas.Int.{to_z-of_z}
use Rattle.diagram.specs.declared.signals.Signal.TheVariants.{Delay}
use Rattle.run.specs.Making.{delay_reads}
use Rattle.run.proofs.Entries.{delay_lower, pins_lower, block_made_from, signal_here, same_step, whole, made_here}
use Rattle.run.proofs.making.made.Goals as goal

pub delayed-requires-clause-whole : goal.delayed-requires-clause-whole
delayed-requires-clause-whole g c = (c.args.d.now.some, whole c.args.d.now c.args.start c.args.s c.requires.step)

pub delayed-requires-clause-inside : goal.delayed-requires-clause-inside
delayed-requires-clause-inside g c =
    let d = c.args.d.now in
    let here = signal_here d c.args.start c.args.s c.requires.step _ (search rules) in
    let low = delay_lower d (c.args.start + c.args.s) c.in-Delay.default c.in-Delay.input here in
    subst (λ j. delay_reads (length d.signals.now) j c.in-Delay.default c.in-Delay.input < length c.args.table.now) (same_step d c.args.start c.args.s c.requires.step)
    (omega (arith, c.requires.inside, low))

pub row_at-row-requires-clause-inside : goal.row_at-row-requires-clause-inside
row_at-row-requires-clause-inside g c =
    let d = c.args.d.now in
    let here = signal_here d c.args.start c.args.s c.requires.step _ (search rules) in
    let lower = pins_lower d (c.args.start + c.args.s) c.in-Block.kind c.in-Block.first c.in-Block.count here in
    rw c.stretch_of.ensures (λ p x b. omega (arith, c.requires.inside, c.requires.step, lower p x b))

pub returns-in-Delay : goal.returns-in-Delay
returns-in-Delay g c =
    λ t. ap Some (to_z-of_z w16 c.delayed.result (search rules)) ∙ ap Some c.delayed.ensures
    ∙ sym (made_here c.args.d.now c.args.start c.args.s c.requires.step (g.L.BlockLibrary.function c.args.lib.now) c.args.table.now (Delay c.in-Delay.default c.in-Delay.input) (search rules))

pub returns-in-Block : goal.returns-in-Block
returns-in-Block g c =
    let d = c.args.d.now in
    let here = signal_here d c.args.start c.args.s c.requires.step _ (search rules) in
    λ t. c.ok.ensures.value ∙ block_made_from d (c.args.start + c.args.s) c.in-Block.kind c.in-Block.first c.in-Block.count here c.args.start c.requires.step
    (g.L.BlockLibrary.shape c.args.lib.now) (g.L.BlockLibrary.function c.args.lib.now) (g.met.L.BlockLibrary.counted c.args.lib.now) c.args.table.now t
    c.row_at-row.result (rw c.stretch_of.ensures at c.row_at-row.ensures) c.value.result c.value.ensures
