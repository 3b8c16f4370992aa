-- What a scope shows.
use Rattle.std.specs.Prelude.{[], ◌∷◌}
use Rattle.spx_core.specs.Regions.{Regions, hidden, standard}
use Rattle.spx_scope.specs.declared.scope.Scope.{Scope, Scope-F, fold-Scope}

-- one level
abbrev pub seen_step : Scope-F Regions → Regions
seen_step (Scope-F.Outermost everywhere) = standard ∷ []
seen_step (Scope-F.Inside region outer) = region.now ∷ outer.now
seen_step (Scope-F.Hiding names outer) = hidden names.now ∷ outer.now

-- the regions, the innermost first
unfoldable pub seen : Scope → Regions
seen = fold-Scope Regions seen_step
