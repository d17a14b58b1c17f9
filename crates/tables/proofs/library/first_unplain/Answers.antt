use Rattle.std.proofs.Common.{rules, tests, sym, ◌∙◌, subst}
use Rattle.std.proofs.lemmas.List.{get_or_default}
use Rattle.std.proofs.lemmas.Iterator.{IsFirst-from_position, YieldsList-from_slice}
use Rattle.std.proofs.lemmas.Iterator.Adapters.{serves_from_places}
use Rattle.tables.specs.Rules.{absent, Pinned, Plain}
use Rattle.tables.proofs.library.first_unplain.Goals as goal

pub position-requires-clause-callable : goal.position-requires-clause-callable
position-requires-clause-callable c =
    serves_from_places (YieldsList-from_slice c.args.tables.now (cc)) (λ x q k. search rules)
    (λ x k h e. let pinned : Pinned x.now = subst Pinned (sym (e ∙ get_or_default c.args.tables.now k x.now absent h)) (c.requires k h) in search rules)

pub returns : goal.returns
returns c =
    let first = IsFirst-from_position _ _ c.position.result (λ t. Plain t → ⊥) Plain c.position.ensures.ran (YieldsList-from_slice c.args.tables.now (cc)) (λ x q k. search (rules, tests)) (λ x q k. search (rules, tests)) in
    search (rules, first)
