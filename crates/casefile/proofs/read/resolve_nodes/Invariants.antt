use Rattle.std.proofs.Common.{◌≡◌, take, map, Some}
use Rattle.sentence.specs.declared.terms.Placed.{Placed}
use Rattle.casefile.specs.Names.{node_of}
use Rattle.casefile.proofs.read.resolve_nodes.Given as goal

abbrev pub invariant-loop-f : goal.invariant-loop-f
invariant-loop-f l =
    (map Some (take l.f l.nodes) ≡ map (λ (t : Placed). node_of l.names.bytes.now l.names.drafts.now t.node) (take l.f l.terms))
    × (take l.f l.places ≡ map (λ (t : Placed). t.place) (take l.f l.terms))
