-- What holds of a record that was read.
use Rattle.std.specs.Prelude.{ℕ, ◌≤◌, List, take}
use Rattle.diagram.specs.Rules.{Rules}
use Rattle.diagram.specs.declared.signals.Signal.{Signal}
use Rattle.diagram.specs.declared.signals.Pin.{Pin}
use Rattle.property.specs.declared.nodes.Node.{Node}
use Rattle.property.specs.Numbering.{OneTree}
use Rattle.casefile.specs.declared.record.Record.{Record}

-- the signals of a record
abbrev pub signals_of : Record → List Signal
signals_of r = take r.signal_count r.signals

-- its pins
abbrev pub pins_of : Record → List Pin
pins_of r = take r.pin_count r.pins

-- its nodes
abbrev pub nodes_of : Record → List (Node ℕ)
nodes_of r = take r.node_count r.nodes

-- the diagram keeps its rules, the nodes are one tree in order, and the loop step is one of the steps
pub record Passed (r : Record) : Type 0 where
  pub rules : Rules (signals_of r) (pins_of r)
  pub tree : OneTree (nodes_of r)
  pub low : 1 ≤ r.back
  pub high : r.back ≤ r.steps
