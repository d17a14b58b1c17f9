use Rattle.std.proofs.Common.{sym, ◌∙◌}
use Rattle.blocks.specs.Uniformly.{forces_answer}
use Rattle.blocks.proofs.operation.forces.Goals as goal

pub returns : goal.returns
returns g c =
    let o = g.O.Operation in
    forces_answer o.takes o.PIN o.output o.function c.args.operation c.args.count _ _ c.args.row c.args.pins _ _ (sym c.taking.ensures ∙ c.in_ok-operation.was)
    (rw (c.PIN.ensures, c.output_type.ensures) at c.uniform.ensures) c.is_asked.ensures c.if-not-is_asked.false c.forced.ensures
