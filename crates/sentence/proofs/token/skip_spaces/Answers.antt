use Rattle.std.proofs.Common.{rules}
use Rattle.sentence.proofs.token.skip_spaces.Goals as goal

pub returns-clause-blank : goal.returns-clause-blank
returns-clause-blank c =
    let p = c.skip_while.ensures.run in
    record { low = p.low; high = p.high; each = λ k a b. search (rules, p.each k a b); stops = λ h. search (rules, p.stops h) }
