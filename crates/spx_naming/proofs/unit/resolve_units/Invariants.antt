use Rattle.std.proofs.Common.{◌≡◌, ◌++◌, [], drop, length}
use Rattle.std.specs.List.{flat_map}
use Rattle.spx_core.specs.Resolved.{own_types, own_vars, resolved_subs}
use Rattle.spx_naming.specs.Before.{before_in}
use Rattle.spx_naming.proofs.unit.resolve_units.Given as goal

abbrev pub invariant-loop-unit : goal.invariant-loop-unit
invariant-loop-unit l =
    (l.subs ++ resolved_subs l.library (length l.subs) (before_in l.tables) (drop l.unit-index l.units) ≡ resolved_subs [] 0 (before_in l.initial.tables) l.units)
    × (l.tables.vars ++ flat_map own_vars (resolved_subs l.library (length l.subs) (before_in l.tables) (drop l.unit-index l.units))
    ≡ l.initial.tables.vars ++ flat_map own_vars (resolved_subs [] 0 (before_in l.initial.tables) l.units))
    × (l.tables.types ++ flat_map own_types (resolved_subs l.library (length l.subs) (before_in l.tables) (drop l.unit-index l.units))
    ≡ l.initial.tables.types ++ flat_map own_types (resolved_subs [] 0 (before_in l.initial.tables) l.units))
