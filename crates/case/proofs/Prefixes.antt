-- The entries of a run at the front of a table.
use Rattle.std.proofs.Common.{◌≡◌, ℕ, ◌%◌, ◌<◌, ◌≤◌, List, length, take, ℤ, pos, sym, subst, arith, get_or-take, length-take}
use Rattle.blocks.specs.Blocks.{InType}
use Rattle.blocks.specs.declared.types.ValueType.{ValueType}
use Rattle.diagram.specs.declared.rules.Diagram.{Diagram}
use Rattle.diagram.specs.Typing.{Shapes, type_at}
use Rattle.run.specs.Values.{value_at, AllInType, WellTyped, TypedBelow}
use Rattle.run.specs.Making.{Functions, AllMade, FirstUnmade}
use Rattle.run.proofs.Entries.{rules_of}
use Rattle.run.proofs.Fills.{made_same}

module _ (table : List ℤ) (count : ℕ) (long : count ≤ length table) where
  front_length : length (take count table) ≡ count
  front_length = grind (arith, length-take)

  front_at : (k : ℕ) → k < count → value_at (take count table) k ≡ value_at table k
  front_at k b = get_or-take count table k (pos 0) b

  module _ (d : Diagram) (types : List ValueType) (size : length types ≡ length d.signals.now) (values : AllInType types (length types) (take count table) (length (take count table))) where
    -- the values of the run lie in their types, said of the run and of the table
    typed_run : (shapes : Shapes) → WellTyped shapes d.signals.now d.pins.now types → TypedBelow shapes d.signals.now d.pins.now (take count table) (length (take count table))
    typed_run shapes well =
        record {
          types = types;
          well = well;
          values = λ e b. subst (λ n. InType (type_at types (e % n)) (value_at (take count table) e)) size (values e b);
        }

    typed_front : AllInType types (length d.signals.now) table count
    typed_front e b =
        subst (λ v. InType (type_at types (e % length d.signals.now)) v) (front_at e b)
        (subst (λ n. InType (type_at types (e % n)) (value_at (take count table) e)) size (values e (omega (arith, front_length))))

  module _ (f : Functions) (d : Diagram) where
    -- what is made of an entry of the run is made of it in the table
    made_front : AllMade f d.signals.now d.pins.now (take count table) (length (take count table)) → AllMade f d.signals.now d.pins.now table count
    made_front h e b = made_same f d.signals.now d.pins.now (rules_of d) (take count table) table e (λ k l. front_at k (omega arith)) (h e (omega (arith, front_length)))

    unmade_front : (e : ℕ) → FirstUnmade f d.signals.now d.pins.now (take count table) (length (take count table)) e → FirstUnmade f d.signals.now d.pins.now table count e
    unmade_front e h =
        let b : e < count = omega (arith, front_length, h.below) in
        record {
          below = b;
          here = λ m. h.here (made_same f d.signals.now d.pins.now (rules_of d) table (take count table) e (λ k l. sym (front_at k (omega arith))) m);
          before = λ k l. made_same f d.signals.now d.pins.now (rules_of d) (take count table) table k (λ i c. front_at i (omega arith)) (h.before k l);
        }

  module _ (d : Diagram) (types : List ValueType) (size : length types ≡ length d.signals.now) (values : AllInType types (length types) (take count table) (length (take count table)))
      (shapes : Shapes) (well : WellTyped shapes d.signals.now d.pins.now types) (f : Functions) where
    -- what the checks find of a run whose values lie in their types, said of the table
    pub made_run : (TypedBelow shapes d.signals.now d.pins.now (take count table) (length (take count table)) → AllMade f d.signals.now d.pins.now (take count table) (length (take count table)))
        → AllInType types (length d.signals.now) table count × AllMade f d.signals.now d.pins.now table count
    made_run made = (typed_front d types size values, made_front f d (made (typed_run d types size values shapes well)))

    pub unmade_run : (e : ℕ) → (TypedBelow shapes d.signals.now d.pins.now (take count table) (length (take count table)) → FirstUnmade f d.signals.now d.pins.now (take count table) (length (take count table)) e)
        → AllInType types (length d.signals.now) table count × FirstUnmade f d.signals.now d.pins.now table count e
    unmade_run e unmade = (typed_front d types size values, unmade_front f d e (unmade (typed_run d types size values shapes well)))
