-- Which checks a case passes, and which fault it has where it does not. Of several faults, the first in the order of the checks is told.
use Rattle.std.specs.Prelude.{◌≡◌, ℕ, ◌+◌, ◌-◌, ◌*◌, ◌⊎◌, List, length, ℤ}
use Rattle.blocks.specs.declared.types.ValueType.{ValueType}
use Rattle.diagram.specs.declared.fault.BlockFault.{BlockFault}
use Rattle.diagram.specs.declared.fault.CaseFault.{CaseFault}
use Rattle.diagram.specs.declared.fault.CaseFault.TheVariants.{Types, Tree, Atom, Steps, Length, Value, Made, Loop}
use Rattle.diagram.specs.Typing.{Shapes, Typed, FirstMissing, FirstMisfit}
use Rattle.property.specs.Numbering.{OneTree}
use Rattle.run.specs.Values.{AllInType, FirstOutside, WellTyped}
use Rattle.run.specs.Making.{Functions, AllMade, FirstUnmade, FirstOpen}
use Rattle.run.specs.Runs.{StepsFit, Run}
use Rattle.case.specs.declared.Case.{Case}
use Rattle.case.specs.Atoms.{AllNodesFit, PropertyFault}

-- how many signals a case has
abbrev pub signal_count : {L : Type 0} → Case L → ℕ
signal_count c = length c.diagram.now.signals.now

-- how many entries the signals have over the steps
abbrev pub run_entries : {L : Type 0} → Case L → ℕ
run_entries c = signal_count c * c.steps

-- `types` are the types of the signals, and the signals fit them
pub record TypesOf {L : Type 0} (shapes : Shapes) (c : Case L) (types : List ValueType) : Type 0 where
  pub size : length types ≡ signal_count c
  pub well : WellTyped shapes c.diagram.now.signals.now c.diagram.now.pins.now types

-- a signal's block is missing, or else a signal does not fit the types
abbrev pub TypesFault : {L : Type 0} → Shapes → Case L → BlockFault → Type 0
TypesFault shapes c f =
    FirstMissing shapes c.diagram.now.signals.now f
    ⊎ ((types : List ValueType) × Typed shapes c.diagram.now.signals.now types (signal_count c)
    × FirstMisfit shapes types c.diagram.now.signals.now c.diagram.now.pins.now f)

-- the case passes the checks of its types, its property and its steps
pub record Checked {L : Type 0} (shapes : Shapes) (c : Case L) (types : List ValueType) : Type 0 where
  pub typing : TypesOf shapes c types
  pub tree : OneTree c.nodes.now
  pub atoms : AllNodesFit types c.nodes.now
  pub steps : StepsFit c.steps c.back

-- the fault of a case that does not pass them
abbrev pub CheckFault : {L : Type 0} → Shapes → Case L → CaseFault → Type 0
CheckFault shapes c (Types f) = TypesFault shapes c f
CheckFault shapes c Tree = (types : List ValueType) × TypesOf shapes c types × PropertyFault types c.nodes.now Tree
CheckFault shapes c (Atom f) = (types : List ValueType) × TypesOf shapes c types × PropertyFault types c.nodes.now (Atom f)
CheckFault shapes c Steps = (types : List ValueType) × TypesOf shapes c types × OneTree c.nodes.now × AllNodesFit types c.nodes.now × (StepsFit c.steps c.back → ⊥)
CheckFault shapes c _ = ⊥

-- the table and the marks have an entry for each signal and each node at each step
pub record Sized {L : Type 0} (c : Case L) (table : List ℤ) (marks : List ℕ) : Type 0 where
  pub long : length table ≡ (signal_count c + length c.nodes.now) * c.steps
  pub marked : length marks ≡ (signal_count c + length c.nodes.now) * c.steps

-- the table is a run of the case
abbrev pub RunOf : {L : Type 0} → Functions → Case L → List ValueType → List ℤ → Type 0
RunOf f c types table = Run f c.diagram.now.signals.now c.diagram.now.pins.now types c.steps c.back table

-- the fault of a table that is no run: its lowest value outside its type, else its lowest that is not made, else its lowest open signal
abbrev pub RunFault : {L : Type 0} → Functions → Case L → List ValueType → List ℤ → CaseFault → Type 0
RunFault f c types table (Value e) = FirstOutside types (signal_count c) table (run_entries c) e
RunFault f c types table (Made e) =
    AllInType types (signal_count c) table (run_entries c) × FirstUnmade f c.diagram.now.signals.now c.diagram.now.pins.now table (run_entries c) e
RunFault f c types table (Loop s) =
    AllInType types (signal_count c) table (run_entries c) × AllMade f c.diagram.now.signals.now c.diagram.now.pins.now table (run_entries c)
    × FirstOpen c.diagram.now.signals.now table (signal_count c * (c.back - 1)) (signal_count c * (c.steps - 1)) s
RunFault f c types table _ = ⊥

-- the case passes all checks, with this table and these marks
pub record Passes {L : Type 0} (shapes : Shapes) (f : Functions) (c : Case L) (table : List ℤ) (marks : List ℕ) (types : List ValueType) : Type 0 where
  pub checked : Checked shapes c types
  pub sized : Sized c table marks
  pub run : RunOf f c types table

-- the lengths are right, and the table is no run of a case that passes the other checks
pub record NoRun {L : Type 0} (shapes : Shapes) (f : Functions) (c : Case L) (table : List ℤ) (marks : List ℕ) (fault : CaseFault) : Type 0 where
  pub types : List ValueType
  pub checked : Checked shapes c types
  pub sized : Sized c table marks
  pub wrong : RunFault f c types table fault

-- the fault of a case that does not pass all checks
abbrev pub OpenFault : {L : Type 0} → Shapes → Functions → Case L → List ℤ → List ℕ → CaseFault → Type 0
OpenFault shapes f c table marks (Types b) = CheckFault shapes c (Types b)
OpenFault shapes f c table marks Tree = CheckFault shapes c Tree
OpenFault shapes f c table marks (Atom n) = CheckFault shapes c (Atom n)
OpenFault shapes f c table marks Steps = CheckFault shapes c Steps
OpenFault shapes f c table marks Length = (types : List ValueType) × Checked shapes c types × (Sized c table marks → ⊥)
OpenFault shapes f c table marks (Value e) = NoRun shapes f c table marks (Value e)
OpenFault shapes f c table marks (Made e) = NoRun shapes f c table marks (Made e)
OpenFault shapes f c table marks (Loop s) = NoRun shapes f c table marks (Loop s)
OpenFault shapes f c table marks _ = ⊥
