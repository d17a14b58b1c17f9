use Rattle.std.proofs.Common.{◌≡◌, take, map}
use Rattle.casefile.specs.declared.form.Draft.{Draft}
use Rattle.casefile.proofs.read.resolve_signals.Given as goal

abbrev pub invariant-loop-s : goal.invariant-loop-s
invariant-loop-s g l = take l.s l.places ≡ map (λ (d : Draft). d.name) (take l.s l.names.drafts.now)
