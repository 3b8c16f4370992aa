-- No call of a program that is fit is bad.
use Rattle.std.proofs.Common.{◌≡◌, ℕ, pos, Bool, true, false, not, ◌&&◌, ◌||◌, if◌then◌else◌, List, [], ◌∷◌, get_or, Option, Some, None, refl, sym, ap, ap₂, ◌∙◌, subst, ℤ, ◌==◌, inl, inr}
use Rattle.std.proofs.lemmas.Bool.{and_parts, both_ways, false_from_ne_true, or_parts, or_left, or_right, eq-eqb}
use Rattle.std.proofs.Math.Bool.{or-false}
use Rattle.std.specs.Prelude.{⊤, All, IsSome, IfSome, is_some, IsTrue, ◌⊎◌, option_and_then, option_map}
use Rattle.std.specs.List.{flat_map, list_all}
use Rattle.spx_core.specs.declared.entity.Class.{Class}
use Rattle.spx_core.specs.declared.entity.Class.TheVariants as class
use Rattle.spx_core.specs.declared.entity.VarId.{VarId}
use Rattle.spx_core.specs.declared.entity.VarKind.TheVariants.{Formal, LoopParameter}
use Rattle.spx_core.specs.declared.entity.VarKind.{VarKind}
use Rattle.spx_core.specs.declared.program.Program.{Program}
use Rattle.spx_core.specs.declared.program.Var.{Var}
use Rattle.spx_core.specs.declared.entity.Mode.{Mode}
use Rattle.spx_core.specs.declared.entity.Mode.TheVariants as mode
use Rattle.spx_core.specs.declared.entity.Subtype.{Subtype}
use Rattle.spx_core.specs.declared.subprogram.CorePredicate.{CorePredicate}
use Rattle.spx_core.specs.declared.subprogram.Sub.{Sub}
use Rattle.spx_core.specs.Commands.{commands}
use Rattle.spx_core.specs.Dependency.{exports, imports}
use Rattle.spx_core.specs.Formals.{formals, mode_of, initial_in, initial_of, is_formal, is_inner, is_local, is_loop_parameter, locals, stands_in}
use Rattle.spx_core.specs.FlowRules.{HasNoFinding, body_effect, read, left}
use Rattle.spx_core.specs.Rules.{ObeysRules}
use Rattle.spx_core.specs.Scopes.{Scoped, StartsInType, TypesHaveValues, kind_of}
use Rattle.spx_core.specs.Effects.{counts, defines, effect, reads}
use Rattle.spx_core.specs.Types.{has_truths, is_between, is_true, has_parts}
use Rattle.spx_core.specs.Ways.{Goes}
use Rattle.spx_term.specs.declared.condition.CondKind.TheVariants.{Post as PostCondition}
use Rattle.spx_term.specs.declared.term.Sort.{Sort}
use Rattle.spx_term.specs.Values.{Types, is_in as looks_so, first_value as first_of_shape}
use Rattle.spx_term.proofs.ValueLaws.{first_is_in}
use Rattle.spx_term.specs.declared.term.Sort.TheVariants.{Integer, Boolean, Composite}
use Rattle.spx_term.specs.declared.term.Symbol.{Symbol}
use Rattle.spx_term.specs.declared.term.Symbol.TheVariants.{Now, Entry, First, Last, New, Bound}
use Rattle.spx_term.specs.declared.term.Name.{Name}
use Rattle.spx_term.specs.declared.term.Term.TheVariants.{Variable}
use Rattle.spx_term.specs.declared.value.Value.{Value}
use Rattle.spx_term.specs.declared.value.Value.TheVariants as value
use Rattle.spx_term.specs.Meaning.{as_number, as_truth, Valuation, value_of, HasSort, Holds, Respects}
use Rattle.spx_term.specs.Steps.{Tree, Cut, Assign, assume_all}
use Rattle.spx_term.specs.Equality.{same_name}
use Rattle.spx_term.specs.Folding.{static_term}
use Rattle.spx_term.proofs.Terms.{value-Variable}
use Rattle.spx_meaning.specs.declared.bad.BadKind.TheVariants.{Pre, Post, Unset}
use Rattle.spx_meaning.specs.Stores.{Store, look, type_of, first_of_class, is_in, declared, put, reading, seen, is_of_class, types_of}
use Rattle.spx_meaning.specs.Frames.{Frame, around}
use Rattle.spx_meaning.specs.Annotations.{truth}
use Rattle.spx_meaning.specs.Runs.{Outcome, Ended, then_do, demand, run, is_new_kind, starts_new, entry_of, pre_holds, demand_pre, demand_post, exports_set, call, cleared, initial_value, value_in_type}
use Rattle.spx_meaning.specs.Laws.{Start, IsNeverBad, NeverBad}
use Rattle.spx_meaning.proofs.Callers.Entries.{cleared_keeps, cleared_part}
use Rattle.spx_meaning.proofs.Callers.Evaluation.{meant_same}
use Rattle.spx_meaning.proofs.Callers.Scopes.{mode_is, new_is, inner_is, inner_starts, local_is_inner, loop_parameter_is_inner, own_is}
use Rattle.spx_meaning.proofs.Callers.Stores.{look-put_other}
use Rattle.spx_meaning.proofs.Callers.Types.{type_is}
use Rattle.spx_formula.specs.Terms.{now, entry, now_term, entry_term, sort_of_class, sort_of_var, sort_of_base}
use Rattle.spx_paths.specs.Checks.{in_type}
use Rattle.spx_paths.specs.Walks.{ending, ending_with, entering, first_facts, import_facts, initializing, keeps_value, pre_facts, starting_with, walk}
use Rattle.spx_paths.specs.Fit.{HasValidConditions, Fit}
use Rattle.spx_sound.proofs.NeverBadSets.{AreInTypes}
use Rattle.spx_sound.proofs.SafeTrees.{safe_sub}
use Rattle.spx_sound.proofs.Starts.{declared_initial, starts_plain}
use Rattle.spx_sound.proofs.Sorts.{type_sorted}
use Rattle.spx_core.specs.Parts.{TypesAreMade}
use Rattle.spx_core.proofs.Callers.ListTests.{each_append}
use Rattle.spx_sound.proofs.Typings.{TypedSub, typed_subs}
use Rattle.spx_sound.proofs.CleanConditions.{all_sorted}
use Rattle.spx_sound.proofs.NeverBadTrees.{AllHold, changed, Safe, each_flat_map, assumed}
use Rattle.spx_sound.proofs.NeverBadRuns.{Never, Nowhere, Good, good_then, good_demand, joined}
use Rattle.spx_sound.proofs.NeverBadExpressions.{type_facts, AgreesWith, plain_value}
use Rattle.spx_sound.proofs.NeverBadAnnotations.{now_terms, parts_where_true}
use Rattle.spx_term.proofs.Equality.{same_name-Decides}
use Rattle.spx_sound.proofs.NeverBadStores.{Fits, Reaches, Spares, asserted_good}
use Rattle.spx_sound.proofs.NeverBadLoops.{Began}
use Rattle.spx_sound.proofs.NeverBadBodies.{walk_good}
use Rattle.spx_sound.proofs.UnsetWays.{CountsUnset, IsClear, KeepsUnset, Passes, reaches_reads}
use Rattle.spx_sound.proofs.NeverUnset.{never_unset}

-- ---- the valuation of a store

abbrev symbol_value : Program → Store → Symbol → Value
symbol_value p s (Now k) = reading p s (record { 0 = k })
symbol_value p s (Entry k) = reading p s (record { 0 = k })
symbol_value p s (First k) = value.Number (pos 0)
symbol_value p s (Last k) = value.Number (pos 0)
symbol_value p s (New n) = value.Number (pos 0)
symbol_value p s (Bound b) = value.Number (pos 0)

abbrev of_sort : Types → Sort → Value → Value
of_sort types Integer w = value.Number (as_number w)
of_sort types Boolean w = value.Truth (as_truth w)
of_sort types (Composite id) w = if looks_so false (types id) w then w else first_of_shape (types id)

-- each name has the value that its variable counts as in the store
abbrev valuation_of : Program → Store → Valuation
valuation_of p s name = of_sort (types_of p) name.sort (symbol_value p s name.symbol)

has_sort : (types : Types) (of : Sort) (w : Value) → HasSort types of (of_sort types of w)
has_sort types Integer w = tt
has_sort types Boolean w = tt
has_sort types (Composite id) w = by_test (looks_so false (types id) w) refl
  where
    by_test : (b : Bool) → looks_so false (types id) w ≡ b → looks_so false (types id) (if b then w else first_of_shape (types id)) ≡ true
    by_test true is = is
    by_test false is = first_is_in (types id)

valuation_respects : (p : Program) (s : Store) → Respects (types_of p) (valuation_of p s)
valuation_respects p s name = has_sort (types_of p) name.sort (symbol_value p s name.symbol)

-- a value of a sort stays as it is
keeps_sort : (types : Types) (of : Sort) (w : Value) → HasSort types of w → of_sort types of w ≡ w
keeps_sort types Integer (value.Number n) h = refl
keeps_sort types Integer _ h = absurd h
keeps_sort types Boolean (value.Truth b) h = refl
keeps_sort types Boolean _ h = absurd h
keeps_sort types (Composite id) w h = ap (λ b. if b then w else first_of_shape (types id)) h

-- a value of a class has its sort
has_class : (types : Types) (c : Class) (id : ℕ) (first last : ℤ) (w : Value) → is_of_class types c id first last w ≡ true → of_sort types (sort_of_class c id) w ≡ w
has_class types c id first last w h = keeps_sort types (sort_of_class c id) w (type_sorted types c id first last w h)

first_has_class : (types : Types) (c : Class) (id : ℕ) (first : ℤ) → of_sort types (sort_of_class c id) (first_of_class types c id first) ≡ first_of_class types c id first
first_has_class types class.Integer id first = refl
first_has_class types class.Boolean id first = refl
first_has_class types class.Enumeration id first = refl
first_has_class types class.Composite id first = keeps_sort types (Composite id) (first_of_shape (types id)) (first_is_in (types id))

-- the value that a static one of a class stands for has the sort of the class, and lies between two ends where the static one does
static_has_class : (types : Types) (c : Class) (id : ℕ) (n : ℤ) → has_parts c ≡ false → let w = if has_truths c then value.Truth (is_true n) else value.Number n in of_sort types (sort_of_class c id) w ≡ w
static_has_class types class.Integer id n plain = refl
static_has_class types class.Boolean id n plain = refl
static_has_class types class.Enumeration id n plain = refl
static_has_class types class.Composite id n plain = absurd (cc)

static_within : (types : Types) (c : Class) (id : ℕ) (first last n : ℤ) → has_parts c ≡ false → is_between first last n ≡ true → is_of_class types c id first last (if has_truths c then value.Truth (is_true n) else value.Number n) ≡ true
static_within types class.Integer id first last n plain h = h
static_within types class.Boolean id first last n plain h = refl
static_within types class.Enumeration id first last n plain h = h
static_within types class.Composite id first last n plain h = absurd (cc)

-- each variable that is set has a value of its sort
abbrev HaveTheirSorts : Program → Store → Type 0
HaveTheirSorts p s = (x : VarId) (w : Value) → look s x ≡ Some w → of_sort (types_of p) (sort_of_var p x) w ≡ w

valuation_agrees : (p : Program) (s : Store) → HaveTheirSorts p s → AgreesWith p s (valuation_of p s)
valuation_agrees p s sorted x = by_value (look s x) (sorted x)
  where
    by_value : (o : Option Value) → ((w : Value) → o ≡ Some w → of_sort (types_of p) (sort_of_var p x) w ≡ w) → of_sort (types_of p) (sort_of_var p x) (seen (types_of p) (type_of p x) o) ≡ seen (types_of p) (type_of p x) o
    by_value (Some w) sorted = sorted w refl
    by_value None sorted = first_has_class (types_of p) (type_of p x).base.class (type_of p x).base.id.0 (type_of p x).first

some_of : (o : Option Value) → IsSome o → (w : Value) × (o ≡ Some w)
some_of (Some w) h = (w, refl)
some_of None h = absurd (cc)

-- ---- the start of a tree

-- a name that takes the value that it has changes nothing
unchanged : (v : Valuation) (x : Name) (w : Value) → v x ≡ w → changed v x w ≡ v
unchanged v x w same = λ i y. by_name y (same_name x y) refl i
  where
    by_name : (y : Name) (b : Bool) → same_name x y ≡ b → (if b then w else v y) ≡ v y
    by_name y true is = sym same ∙ ap v ((same_name-Decides x y).0 is)
    by_name y false is = refl

module _ (p : Program) (s : Store) where
  abbrev the_valuation : Valuation
  the_valuation = valuation_of p s

  entered : (sub : Sub) (vars : List VarId) (rest : Tree) → Safe (types_of p) (entering p sub vars rest) the_valuation → Safe (types_of p) rest the_valuation
  entered sub [] rest safe = safe
  entered sub (x ∷ vars) rest safe = entered sub vars rest (by_export (exports x sub) safe)
    where
      by_export : (b : Bool) → Safe (types_of p) (if b then Assign (now p x) (Variable (entry p x)) (entering p sub vars rest) else entering p sub vars rest) the_valuation → Safe (types_of p) (entering p sub vars rest) the_valuation
      by_export true safe =
          subst (Safe (types_of p) (entering p sub vars rest)) (unchanged the_valuation (now p x) (value_of (types_of p) the_valuation (Variable (entry p x))) (sym (value-Variable (types_of p) the_valuation (entry p x)))) safe
      by_export false safe = safe

  -- so does a local that starts with its value
  started : AgreesWith p s the_valuation → (vars : List VarId) (rest : Tree) → ((x : VarId) → stands_in x vars ≡ true → look s x ≡ initial_value p x) → Safe (types_of p) (initializing p vars rest) the_valuation → Safe (types_of p) rest the_valuation
  started agrees [] rest start safe = safe
  started agrees (x ∷ vars) rest start safe =
      started agrees vars rest (λ y h. start y (or_right (x.0 == y.0) (stands_in y vars) h))
      (by_value (initial_of x p) (agrees x ∙ ap (seen (types_of p) (type_of p x)) (start x (or_left (x.0 == x.0) (stands_in x vars) (eq-eqb x.0 x.0 refl)))) safe)
    where
      by_value : (o : Option ℤ) → the_valuation (now p x) ≡ seen (types_of p) (type_of p x) (option_map (value_in_type (type_of p x)) o) → Safe (types_of p) (starting_with (now p x) (option_map (value_in_type (type_of p x)) o) (initializing p vars rest)) the_valuation
          → Safe (types_of p) (initializing p vars rest) the_valuation
      by_value (Some n) is safe =
          let w = value_in_type (type_of p x) n in
          subst (Safe (types_of p) (initializing p vars rest)) (unchanged the_valuation (now p x) (value_of (types_of p) the_valuation (static_term w)) (is ∙ sym (plain_value (types_of p) the_valuation (has_truths (type_of p x).base.class) n))) safe
      by_value None is safe = safe

-- ---- initial values

-- the initial value is that of the kind
initial_is : (p : Program) (x : VarId) (kind : VarKind) → kind_of p x ≡ Some kind → initial_of x p ≡ initial_in kind
initial_is p x kind is = by_var (declared p x) is
  where
    by_var : (o : Option Var) → option_map (λ (var : Var). var.kind) o ≡ Some kind → option_and_then (λ (var : Var). initial_in var.kind) o ≡ initial_in kind
    by_var (Some var) is = ap initial_in (let e : var.kind ≡ kind = cc in e)
    by_var None is = absurd (cc)

-- a variable that is none of these keeps its value
cleared_other : (p : Program) (s : Store) (vars : List VarId) (w : VarId) → stands_in w vars ≡ false → look (cleared p s vars) w ≡ look s w
cleared_other p s [] w none = refl
cleared_other p s (v ∷ vars) w none =
    let parts = or_parts (v.0 == w.0) (stands_in w vars) none in
    by_start (starts_new p v) (λ e. both_ways (v.0 == w.0) parts.0 (eq-eqb v.0 w.0 e)) ∙ cleared_other p s vars w parts.1
  where
    by_start : (b : Bool) → (v.0 ≡ w.0 → ⊥) → look (if b then put (cleared p s vars) v (initial_value p v) else cleared p s vars) w ≡ look (cleared p s vars) w
    by_start true apart = look-put_other (cleared p s vars) v w (initial_value p v) apart
    by_start false apart = refl

-- ---- a call

module _ (p : Program) (sub : Sub) (scoped : Scoped p sub) (initial : StartsInType p sub) (types : TypesHaveValues p) (table : TypesAreMade p) (obeys : ObeysRules p sub) where
  -- what is imported is set on entry
  import_starts_set : (x : VarId) → imports x sub ≡ true → starts_new p x ≡ false
  import_starts_set x import =
      let kind = scoped.formal_kinds x (scoped.imported x import) in
      new_is p x (Formal kind.0) kind.1 ∙ by_mode kind.0 (mode_is p x (Formal kind.0) kind.1)
    where
      by_mode : (m : Mode) → mode_of x p ≡ Some m → is_new_kind (Formal m) ≡ false
      by_mode mode.In is = refl
      by_mode mode.Out is = absurd (both_ways (not (imports x sub)) (ap not import) (and_parts (exports x sub) (not (imports x sub)) (obeys.modes x mode.Out (scoped.imported x import) is)).1)
      by_mode mode.InOut is = refl

  -- an import that is no export is set by no statement
  import_is_spared : Spares sub [] (effect (commands sub.statements))
  import_is_spared x held =
      let parts = and_parts (imports x sub) (not (exports x sub)) (sym (or-false (keeps_value sub x)) ∙ held) in
      let formal = scoped.imported x parts.0 in
      let kind = scoped.formal_kinds x formal in
      by_mode kind.0 (mode_is p x (Formal kind.0) kind.1) formal parts.0 parts.1
    where
      by_mode : (m : Mode) → mode_of x p ≡ Some m → is_formal x sub ≡ true → imports x sub ≡ true → not (exports x sub) ≡ true → defines x sub.statements ≡ false
      by_mode mode.In is formal import other = false_from_ne_true (defines x sub.statements) (λ defined. obeys.targets x defined is)
      by_mode mode.Out is formal import other = absurd (both_ways (not (imports x sub)) (ap not import) (and_parts (exports x sub) (not (imports x sub)) (obeys.modes x mode.Out formal is)).1)
      by_mode mode.InOut is formal import other = absurd (both_ways (not (exports x sub)) (ap not (and_parts (imports x sub) (exports x sub) (obeys.modes x mode.InOut formal is)).1) other)

  -- a formal has no initial value
  formal_starts_without : (x : VarId) → is_formal x sub ≡ true → initial_of x p ≡ None
  formal_starts_without x formal = let kind = scoped.formal_kinds x formal in initial_is p x (Formal kind.0) kind.1

  -- nor has the parameter of a loop
  parameter_starts_without : (x : VarId) → is_loop_parameter x sub ≡ true → initial_of x p ≡ None
  parameter_starts_without x is = initial_is p x LoopParameter (scoped.loop_parameter_kinds x is)

  module _ (s : Store) (start : Start p sub s) where
    abbrev first : Store
    first = entry_of p sub s

    abbrev frame : Frame
    frame = around p sub first

    abbrev first_valuation : Valuation
    first_valuation = valuation_of p first

    kept_import : (x : VarId) → imports x sub ≡ true → look first x ≡ look s x
    kept_import x import = cleared_keeps p s sub.vars x (import_starts_set x import)

    set_import : (x : VarId) → imports x sub ≡ true → (w : Value) × (look first x ≡ Some w) × (is_in (types_of p) (type_of p x) w ≡ true)
    set_import x import =
        let set = some_of (look s x) (start.imports_set x import) in
        (set.0, kept_import x import ∙ set.1, subst (λ o. IfSome o (λ u. IsTrue (is_in (types_of p) (type_of p x) u))) set.1 (start.in_types x))

    -- what is set at the start was set before, in its type, or is a local that is declared with its value
    first_value : (x : VarId) (w : Value) → look first x ≡ Some w → (is_in (types_of p) (type_of p x) w ≡ true) ⊎ (n : ℤ) × (is_local x sub ≡ true) × (initial_of x p ≡ Some n) × (w ≡ value_in_type (type_of p x) n)
    first_value x w is = elim (cleared_part p s sub.vars x w is) [ inl before ↦ inl (was_in before) | inr after ↦ by_initial (initial_of x p) refl after ]
      where
        was_in : look s x ≡ Some w → is_in (types_of p) (type_of p x) w ≡ true
        was_in before = subst (λ o. IfSome o (λ u. IsTrue (is_in (types_of p) (type_of p x) u))) before (start.in_types x)

        by_own : (n : ℤ) → initial_of x p ≡ Some n → w ≡ value_in_type (type_of p x) n → (formal local counted : Bool) → is_formal x sub ≡ formal → is_local x sub ≡ local → is_loop_parameter x sub ≡ counted
            → (is_in (types_of p) (type_of p x) w ≡ true) ⊎ (n : ℤ) × (is_local x sub ≡ true) × (initial_of x p ≡ Some n) × (w ≡ value_in_type (type_of p x) n)
        by_own n given same formal true counted f l k = inr (n, l, given, same)
        by_own n given same true false counted f l k = absurd (let none = formal_starts_without x f in cc)
        by_own n given same false false true f l k = absurd (let none = parameter_starts_without x k in cc)
        by_own n given same false false false f l k = inl (was_in (sym (cleared_other p s sub.vars x (own_is x sub ∙ ap₂ ◌||◌ f (inner_is x sub ∙ ap₂ ◌||◌ l k))) ∙ is))

        by_initial : (o : Option ℤ) → initial_of x p ≡ o → option_map (value_in_type (type_of p x)) o ≡ Some w → (is_in (types_of p) (type_of p x) w ≡ true) ⊎ (n : ℤ) × (is_local x sub ≡ true) × (initial_of x p ≡ Some n) × (w ≡ value_in_type (type_of p x) n)
        by_initial (Some n) given after = by_own n given (let e : w ≡ value_in_type (type_of p x) n = cc in e) (is_formal x sub) (is_local x sub) (is_loop_parameter x sub) refl refl refl
        by_initial None given after = absurd (cc)

    first_sorted : HaveTheirSorts p first
    first_sorted x w is =
        let of = type_of p x in
        elim (first_value x w is) [
          | inl before ↦ has_class (types_of p) of.base.class of.base.id.0 of.first of.last w before
          | inr here ↦ subst (λ u. of_sort (types_of p) (sort_of_base of.base) u ≡ u) (sym here.3) (static_has_class (types_of p) of.base.class of.base.id.0 here.0 (starts_plain p sub scoped initial x here.0 here.1 here.2))
        ]

    first_in_types : AreInTypes p first
    first_in_types x w is =
        elim (first_value x w is) [
          | inl before ↦ before
          | inr here ↦
              let row = scoped.local_types x here.1 in
              let object = row.0 in
              let of = type_is p x object row.1 in
              let own = object.subtype in
              let starts = initial x object here.0 here.1 row.1 (declared_initial p x object here.0 row.1 here.2) in
              subst (λ (t : Subtype). is_in (types_of p) t w ≡ true) (sym of)
              (subst (λ u. is_in (types_of p) own u ≡ true) (sym (here.3 ∙ ap (λ (t : Subtype). value_in_type t here.0) of)) (static_within (types_of p) own.base.class own.base.id.0 own.first own.last here.0 starts.0 starts.1))
        ]

    first_agrees : AgreesWith p first first_valuation
    first_agrees = valuation_agrees p first first_sorted

    -- at the start the terms of the values on entry have these values
    first_anchored : (x : VarId) → value_of (types_of p) first_valuation (entry_term p sub x) ≡ reading p first x
    first_anchored x = by_import (keeps_value sub x)
      where
        by_import : (b : Bool) → value_of (types_of p) first_valuation (if b then now_term p x else Variable (entry p x)) ≡ reading p first x
        by_import true = value-Variable (types_of p) first_valuation (now p x) ∙ first_agrees x
        by_import false = value-Variable (types_of p) first_valuation (entry p x) ∙ first_agrees x

    first_fits : Fits frame [] first first_valuation
    first_fits = record { agrees = first_agrees; respects = valuation_respects p first; in_types = first_in_types; anchored = first_anchored; inside = tt }

    pre_first : (pre : Option CorePredicate) → sub.pre ≡ pre → pre_holds (around p sub s) pre s ≡ true → pre_holds frame pre first ≡ true
    pre_first None is h = refl
    pre_first (Some pre) is h =
        ap as_truth (meant_same frame (around p sub s) refl first s pre.condition (λ x used. kept_import x (obeys.precondition pre x is used)) (λ x used. kept_import x (obeys.precondition pre x is used))) ∙ h

    first_began : Began frame
    first_began = record { types = types; made = table; in_types = first_in_types; precondition = pre_first sub.pre refl start.precondition }

    -- ---- checks

    -- the facts at the start hold
    import_holds : (x : VarId) → AllHold (types_of p) first_valuation (import_facts p sub x)
    import_holds x = by_import (imports x sub) refl
      where
        by_import : (b : Bool) → imports x sub ≡ b → AllHold (types_of p) first_valuation (if b then in_type (type_of p x) (now_term p x) else [])
        by_import true import =
            let set = set_import x import in
            type_facts (types_of p) first_valuation (type_of p x) (now_term p x) set.0
            (value-Variable (types_of p) first_valuation (now p x) ∙ first_agrees x ∙ ap (seen (types_of p) (type_of p x)) set.1) set.2
        by_import false is = tt

    pre_facts_hold : (pre : Option CorePredicate) → pre_holds frame pre first ≡ true → AllHold (types_of p) first_valuation (pre_facts p sub pre)
    pre_facts_hold None h = tt
    pre_facts_hold (Some pre) h = parts_where_true frame first first_valuation (now_term p) (entry_term p sub) (now_terms p first first_valuation first_agrees) first_anchored pre.condition h

    abbrev body_tree : Tree
    body_tree = walk p sub (commands sub.statements) (ending p sub) (ending p sub) 0

    body_safe : TypedSub sub → HasValidConditions p sub → Safe (types_of p) body_tree first_valuation
    body_safe typed valid =
        let known = assume_all (first_facts p sub) body_tree in
        let local = entered p first sub (formals sub) (initializing p (locals sub) known) (safe_sub p sub (all_sorted p sub table scoped initial typed) valid first_valuation (valuation_respects p first)).0 in
        let whole = started p first first_agrees (locals sub) known (λ x is. inner_starts p sub scoped x (local_is_inner x sub is) s) local in
        assumed (types_of p) (first_facts p sub) body_tree first_valuation
        (each_append (λ t. Holds (types_of p) t first_valuation) (flat_map (import_facts p sub) (formals sub)) (pre_facts p sub sub.pre)
        (each_flat_map (λ t. Holds (types_of p) t first_valuation) (import_facts p sub) import_holds (formals sub)) (pre_facts_hold sub.pre (pre_first sub.pre refl start.precondition))) whole

    -- ---- unset variables

    -- what is unset on entry is no import
    no_import : (x : VarId) → look first x ≡ None → imports x sub ≡ false
    no_import x unset = by_import (imports x sub) refl
      where
        by_import : (b : Bool) → imports x sub ≡ b → imports x sub ≡ false
        by_import true is = absurd (let set = (set_import x is).1 in cc)
        by_import false is = is

    -- nor is it declared with a value, if it is read
    no_initial : (x : VarId) → look first x ≡ None → reads x (body_effect sub) ≡ true → is_some (initial_of x p) ≡ false
    no_initial x unset used = by_own (is_formal x sub) (is_inner x sub) refl refl (scoped.read x used)
      where
        by_start : (o : Option ℤ) → option_map (value_in_type (type_of p x)) o ≡ None → is_some o ≡ false
        by_start (Some n) none = absurd (cc)
        by_start None none = refl

        by_own : (formal inner : Bool) → is_formal x sub ≡ formal → is_inner x sub ≡ inner → (formal || inner) ≡ true → is_some (initial_of x p) ≡ false
        by_own true inner f i own = ap is_some (formal_starts_without x f)
        by_own false true f i own = by_start (initial_of x p) (sym (inner_starts p sub scoped x i s) ∙ unset)
        by_own false false f i own = absurd (cc)

    -- the parameter of a loop
    abbrev IsParameter : VarId → Type 0
    IsParameter x = counts x (body_effect sub) ≡ true

    parameters_keep : KeepsUnset IsParameter (body_effect sub)
    parameters_keep = record { parameters = λ x h. h; unassigned = λ x h. obeys.loop_parameters x h; kept = obeys.loops_keep_them }

    -- what counts as unset on entry is no import either
    counts_no_import : (x : VarId) → CountsUnset IsParameter first x → imports x sub ≡ false
    counts_no_import x (inl unset) = no_import x unset
    counts_no_import x (inr parameter) = false_from_ne_true (imports x sub) (λ import. both_ways (is_inner x sub) (scoped.apart x (scoped.imported x import)) (loop_parameter_is_inner x sub (scoped.counted x parameter)))

    counts_no_initial : (x : VarId) → CountsUnset IsParameter first x → reads x (body_effect sub) ≡ true → is_some (initial_of x p) ≡ false
    counts_no_initial x (inl unset) used = no_initial x unset used
    counts_no_initial x (inr parameter) used = ap is_some (parameter_starts_without x (scoped.counted x parameter))

    first_clear : HasNoFinding p sub → IsClear IsParameter (body_effect sub) first
    first_clear flows place x unset way =
        flows.none_unset place x (read (ap₂ ◌||◌ (counts_no_import x unset) (counts_no_initial x unset (reaches_reads (body_effect sub) place x way.0 way.1))) way)

    -- at the end each export is set
    export_set : HasNoFinding p sub → (t : Store) → Passes (CountsUnset IsParameter) (Goes (body_effect sub)) first t → (x : VarId) → exports x sub ≡ true → is_some (look t x) ≡ true
    export_set flows t passes x export = by_value (look t x) refl
      where
        by_value : (o : Option Value) → look t x ≡ o → is_some o ≡ true
        by_value (Some w) is = refl
        by_value None is = let unset = passes.unset x (inl is) in absurd (flows.none_unset sub.end x (left export (counts_no_import x unset.0) (passes.way, passes.gone, unset.1)))

    exports_good : HasNoFinding p sub → (t : Store) → Passes (CountsUnset IsParameter) (Goes (body_effect sub)) first t → (vars : List VarId) → list_all (λ v. not (exports v sub) || is_some (look t v)) vars ≡ true
    exports_good flows t passes [] = refl
    exports_good flows t passes (x ∷ vars) = ap₂ ◌&&◌ (by_export (exports x sub) refl) (exports_good flows t passes vars)
      where
        by_export : (b : Bool) → exports x sub ≡ b → (not b || is_some (look t x)) ≡ true
        by_export true is = export_set flows t passes x is
        by_export false is = refl

    -- ---- the body and the call

    abbrev body_run : ℕ → Outcome
    body_run n = run frame n first (commands sub.statements)

    -- at the end
    abbrev IsDone : Store → Type 0
    IsDone t = Reaches frame [] (ending p sub) t × Passes (CountsUnset IsParameter) (Goes (body_effect sub)) first t

    body_good : HasNoFinding p sub → TypedSub sub → HasValidConditions p sub → (n : ℕ) → Good Never (body_run n) IsDone Nowhere
    body_good flows typed valid n =
        joined (body_run n) (Reaches frame [] (ending p sub)) (Passes (CountsUnset IsParameter) (Goes (body_effect sub)) first) (Reaches frame [] (ending p sub)) Nowhere
        (walk_good frame first_began (commands sub.statements) [] n (ending p sub) (ending p sub) 0 first first_valuation typed.statements scoped.body_names scoped.body_parts import_is_spared obeys.loops_keep_them (λ v respects. (safe_sub p sub (all_sorted p sub table scoped initial typed) valid v respects).1) first_fits (body_safe typed valid))
        (never_unset frame types (commands sub.statements) obeys.exits IsParameter parameters_keep n first (first_clear flows))

    pre_good : (pre : Option CorePredicate) → pre_holds frame pre first ≡ true → demand_pre frame pre first ≡ Ended first
    pre_good None h = refl
    pre_good (Some pre) h = ap (λ b. demand b Pre pre.place first) h

    -- there the postcondition is true
    post_good : (post : Option CorePredicate) (t : Store) (v : Valuation) → Fits frame [] t v → Safe (types_of p) (ending_with p sub post) v → Good Never (demand_post frame post t) (λ t. ⊤) Nowhere
    post_good None t v fits safe = tt
    post_good (Some post) t v fits safe =
        good_demand Never (truth frame t post.condition) Post post.place t (λ t. ⊤) Nowhere tt
        (λ untrue. both_ways (truth frame t post.condition) untrue (asserted_good frame [] PostCondition post.place post.condition Cut t v fits safe).0)

    call_good : HasNoFinding p sub → TypedSub sub → HasValidConditions p sub → (n : ℕ) → Good Never (call p n sub s) (λ t. ⊤) Nowhere
    call_good flows typed valid n =
        let look_after : Store → Outcome = λ t. demand_post frame sub.post t in
        let ending_of : Store → Outcome = λ t. then_do (demand (exports_set sub t) Unset sub.end t) look_after in
        subst (λ o. Good Never (then_do o (λ e. then_do (run frame n e (commands sub.statements)) ending_of)) (λ t. ⊤) Nowhere) (sym (pre_good sub.pre (pre_first sub.pre refl start.precondition)))
        (good_then Never (body_run n) ending_of IsDone (λ t. ⊤) Nowhere (body_good flows typed valid n)
        (λ t done.
        let known = done.0 in
        subst (λ b. Good Never (then_do (demand b Unset sub.end t) look_after) (λ t. ⊤) Nowhere) (sym (exports_good flows t done.1 (formals sub))) (post_good sub.post t known.valuation known.fits known.safe)))

  pub is_never_bad : HasNoFinding p sub → TypedSub sub → HasValidConditions p sub → IsNeverBad p sub
  is_never_bad flows typed valid n s start kind place bad = subst (λ o. Good Never o (λ t. ⊤) Nowhere) bad (call_good s start flows typed valid n)

-- ---- programs

pub never_bad : (p : Program) → All (Scoped p) p.subs → All (StartsInType p) p.subs → TypesHaveValues p → TypesAreMade p → All (ObeysRules p) p.subs → Fit p → NeverBad p
never_bad p scoped initial types table obeys fit k d within =
    is_never_bad p (get_or p.subs k d) (scoped k d within) (initial k d within) types table (obeys k d within) (fit.flows k d within) (typed_subs p fit.typed k d within) (fit.conditions k d within)
