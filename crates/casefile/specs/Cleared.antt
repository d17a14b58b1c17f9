-- The record of a declined file.
use Rattle.std.specs.Prelude.{◌≡◌, false, replicate, pos}
use Rattle.blocks.specs.declared.types.ValueType.TheVariants.{Truth}
use Rattle.diagram.specs.declared.signals.Signal.TheVariants.{Source}
use Rattle.property.specs.declared.nodes.Node.TheVariants.{Atom}
use Rattle.property.specs.declared.nodes.Atom.TheVariants.{Truth as Holds}
use Rattle.casefile.specs.declared.record.Record.{Record}

-- 128 bool sources, 1,024 plain pins on signal 0, and zeros elsewhere
pub record Cleared (r : Record) : Type 0 where
  pub no_signal : r.signal_count ≡ 0
  pub sources : r.signals ≡ replicate 128 (Source Truth)
  pub no_names : r.names ≡ replicate 128 (record { start = 0; length = 0 })
  pub no_pin : r.pin_count ≡ 0
  pub plain : r.pins ≡ replicate 1024 (record { signal = 0; inverted = false })
  pub no_step : r.steps ≡ 0
  pub no_loop : r.back ≡ 0
  pub zeros : r.table ≡ replicate 3072 (pos 0)
  pub no_node : r.node_count ≡ 0
  pub atoms : r.nodes ≡ replicate 64 (Atom (Holds 0))
  pub no_places : r.places ≡ replicate 64 (record { start = 0; length = 0 })
