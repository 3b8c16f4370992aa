-- Imports by their names, and lists that are made one element after another.
use Rattle.std.proofs.Common.{◌≡◌, ℕ, ◌+◌, ◌<◌, Bool, true, false, cond, List, [], ◌∷◌, ◌++◌, length, get_or, Option, Some, None, refl, sym, ap, ◌∙◌, take, ap₂}
use Rattle.std.specs.Prelude.{◌&&◌, option_map}
use Rattle.std.specs.List.{find, cons_option, filter_map}
use Rattle.std.proofs.lemmas.Bool.{eq-eqb, or_left, or_right}
use Rattle.std.proofs.lemmas.List.{take_more}
use Rattle.std.proofs.lemmas.List.Elements.{filter_map-append}
use Rattle.std.proofs.lemmas.Option.{slice_get_within}
use Rattle.spx_core.specs.declared.entity.VarId.{VarId}
use Rattle.spx_core.specs.declared.program.Program.{Program}
use Rattle.spx_core.specs.declared.program.Var.{Var}
use Rattle.spx_core.specs.declared.subprogram.Sub.{Sub}
use Rattle.spx_core.specs.Dependency.{imports}
use Rattle.spx_core.specs.Formals.{formals, stands_in}
use Rattle.spx_core.specs.Scopes.{Scoped}
use Rattle.spx_run.specs.Given.{is_word, var_name}
use Rattle.spx_run.specs.Mirror.{ImportsAreDeclared}

-- ---- imports

mapped : {X Y : Type 0} (f : X → Y) (o : Option X) (y : Y) → option_map f o ≡ Some y → (x : X) × (o ≡ Some x)
mapped f (Some x) y e = (x, refl)
mapped f None y e = absurd cc

-- what is found among variables is one of them
found_by : (w v : VarId) (ws : List VarId) (here : Bool) (later : Option VarId) → (later ≡ Some v → stands_in v ws ≡ true) → cond here (Some w) later ≡ Some v → stands_in v (w ∷ ws) ≡ true
found_by w v ws true later rest e = let same : w ≡ v = cc in or_left _ (stands_in v ws) (eq-eqb w.0 v.0 (ap (λ (x : VarId). x.0) same))
found_by w v ws false later rest e = or_right _ (stands_in v ws) (rest e)

found_stands : (test : VarId → Bool) (vars : List VarId) (v : VarId) → find test vars ≡ Some v → stands_in v vars ≡ true
found_stands test [] v e = absurd cc
found_stands test (w ∷ ws) v e = found_by w v ws (test w) (find test ws) (found_stands test ws v) e

-- an import that is found by its name is a variable of the program
pub imports_are_declared : (p : Program) (sub : Sub) → Scoped p sub → ImportsAreDeclared p sub
imports_are_declared p sub scoped name v found =
    let kind = scoped.formal_kinds v (found_stands (λ (w : VarId). imports w sub && is_word (var_name p w) name) (formals sub) v found) in
    let var = mapped (λ (x : Var). x.kind) _ _ kind.1 in
    slice_get_within p.vars v.0 var.0 var.1

-- ---- lists

-- what is kept of one element more
pub filter_map_more : {X Y : Type 0} (h : X → Option Y) (xs : List X) (i : ℕ) (d : X) → i < length xs → filter_map h (take (i + 1) xs) ≡ filter_map h (take i xs) ++ cons_option (h (get_or xs i d)) []
filter_map_more h xs i d less = ap (filter_map h) (take_more xs i d less) ∙ filter_map-append h (take i xs) (get_or xs i d ∷ [])

-- a list to which what is kept of one element more is added
pub kept_more : {X Y : Type 0} (h : X → Option Y) (xs : List X) (i : ℕ) (d : X) (old new : List Y) (o : Option Y) → i < length xs → old ≡ filter_map h (take i xs) → o ≡ h (get_or xs i d) → new ≡ old ++ cons_option o [] → new ≡ filter_map h (take (i + 1) xs)
kept_more h xs i d old new o less before is added =
    added ∙ ap₂ (λ (a : List _) q. a ++ cons_option q []) before is ∙ sym (filter_map_more h xs i d less)
