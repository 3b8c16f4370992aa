-- The conditions of a typed program are well sorted, so those that need no proof are valid.
use Rattle.std.proofs.Common.{◌≡◌, ◌&&◌, ◌++◌, ℕ, ℤ, ◌+◌, Bool, true, false, if◌then◌else◌, List, [], ◌∷◌, get_or, map, Option, Some, None, Ok, refl, ap, ◌∙◌, ◌==◌}
use Rattle.std.specs.Prelude.{All, option_map}
use Rattle.std.specs.List.{AllByRecursion, flat_map}
use Rattle.std.proofs.lemmas.List.Elements.{All-from_recursion, recursion_from_All}
use Rattle.spx_tree.specs.declared.statement.AssertionKind.{AssertionKind}
use Rattle.spx_tree.specs.declared.statement.AssertionKind.TheVariants as assertion
use Rattle.spx_core.specs.declared.entity.VarId.{VarId}
use Rattle.spx_core.specs.declared.program.Program.{Program}
use Rattle.spx_core.specs.declared.subprogram.CorePredicate.{CorePredicate}
use Rattle.spx_core.specs.declared.subprogram.Sub.{Sub}
use Rattle.spx_core.specs.declared.expression.CoreExpr.{CoreExpr}
use Rattle.spx_core.specs.declared.rule.ExprType.{ExprType}
use Rattle.spx_core.specs.declared.rule.ExprType.TheVariants.{Of}
use Rattle.spx_core.specs.declared.statement.CoreCount.{CoreCount}
use Rattle.spx_core.specs.Commands.{has_own_cut, Command, Skip, Set, Then, Choose, commands, Select, Head, Assertion, Repeat, Leave, Tested, Counted, Endless, Alternatives, Last, When, is_leave}
use Rattle.spx_core.specs.Dependency.{exports, imports}
use Rattle.spx_core.specs.Formals.{formals, initial_of, locals, stands_in}
use Rattle.spx_core.specs.Judged.{if_there}
use Rattle.spx_core.specs.Reads.{names_read, names_on_way}
use Rattle.spx_core.specs.Scopes.{AreAsDeclared, IsAsDeclared, Scoped, AllAreAsDeclared, AreAsFormed, AllAreAsFormed, StartsInType}
use Rattle.spx_core.specs.Statements.{judged_predicate, test}
use Rattle.spx_term.specs.declared.condition.Condition.{Condition}
use Rattle.spx_term.specs.declared.condition.CondKind.TheVariants.{Post, Assert as AssertCondition, Check as CheckCondition}
use Rattle.spx_term.specs.declared.term.Sort.TheVariants.{Integer}
use Rattle.spx_term.specs.declared.term.Name.{Name as Symbolic}
use Rattle.spx_term.specs.declared.term.Term.{Term}
use Rattle.spx_term.specs.declared.term.Term.TheVariants as term
use Rattle.spx_term.specs.Conjuncts.{conjuncts}
use Rattle.spx_term.specs.Goals.{goal_of}
use Rattle.spx_term.specs.Meaning.{Valid}
use Rattle.spx_term.specs.Plain.{Plain}
use Rattle.spx_term.specs.Sorts.{sort_step}
use Rattle.spx_term.specs.Steps.{Tree, Cut, Assume, Assign, Fresh, Prove, Split, assume_all, substituted, Claim, with_fact, with_value, claims_of, without_doubles, tidy}
use Rattle.spx_term.proofs.ConjunctLaws.{conjuncts_sorted}
use Rattle.spx_term.proofs.PlainLaws.{plain_valid}
use Rattle.spx_term.proofs.Terms as terms
use Rattle.spx_meaning.specs.Stores.{type_of, types_of}
use Rattle.spx_meaning.specs.Runs.{initial_value, value_in_type}
use Rattle.spx_formula.specs.Terms.{now, now_term, entry, entry_term, term_of, term_with}
use Rattle.spx_paths.specs.Checks.{in_type}
use Rattle.spx_paths.specs.Walks.{as_far_as_cut, count_facts, cut_facts, cuts, cuts_for, end_of_turn, entry_facts, inside, leaving, from_cut, loop_cut, noted_cut, pre_facts_on_entry, var_facts, walk, entering, import_facts, pre_facts, first_facts, ending, ending_with, start_tree, trees_of, alternative_facts, and_these, initializing, starting_with, walk_for, set_tree}
use Rattle.spx_paths.specs.Conditions.{body_claims, numbered, conditions_of, ArePlain}
use Rattle.spx_paths.specs.Fit.{IsValid, HasValidConditions, Fit, Clean}
use Rattle.std.proofs.lemmas.Bool.{eq-eqb, or_left, or_right}
use Rattle.spx_core.specs.Parts.{IsAsFormed, TypesAreMade, parts_in, parts_on_way}
use Rattle.spx_core.specs.declared.part.Target.{Target}
use Rattle.spx_core.specs.Types.{has_parts}
use Rattle.spx_term.specs.Values.{Types}
use Rattle.spx_sound.proofs.FormedParts.{each_formed, known_of}
use Rattle.spx_sound.proofs.Starts.{starts_plain}
use Rattle.spx_core.proofs.Callers.ListTests.{each_append}
use Rattle.spx_sound.proofs.Typings.{test_typed, right_side, IsTyped, both_typed, arms_typed, TypedSub, typed_subs, AreTyped, last_typed, when_typed, select_typed}
use Rattle.spx_sound.proofs.SortedTerms.{HasSortOf, now_sorted, entry_sorted, boolean_sort, sorted_with, ordered_sort, literal_of_type, AreDeclared, IsFormed, each_parts}
use Rattle.spx_term.proofs.SubstitutionLaws.{substitution_keeps_sorts}
use Rattle.spx_sound.proofs.Closed.{static_closed, variable_closed}
use Rattle.spx_sound.proofs.NeverBadTrees.{each_flat_map, each_without_doubles}
use Rattle.spx_sound.proofs.SortedTrees.{IsFormula, AreFormulas, IsSortedTree, IsSortedCount, HeadIsSorted, head_sorted, into_loop_sorted, again_sorted, leaving_sorted, count_facts_sorted, assume_sorted, in_type_sorted, goal_sorted, checks_sorted, test_sorted, decided_sorted, asserted_sorted, facts_sorted, these_sorted, set_sorted}

-- ---- commands

-- each tree that goes on is sorted
abbrev AreSortedTrees : Types → (ℕ → Tree) → Type 0
AreSortedTrees types trees = (made : ℕ) → IsSortedTree types (trees made)

-- so is a body as far as its own cut
as_far_sorted : (types : Types) (own : Bool) (trees : ℕ → Tree) → AreSortedTrees types trees → AreSortedTrees types (as_far_as_cut own trees)
as_far_sorted types true trees k made = k made
as_far_sorted types false trees k made = tt

module _ (p : Program) (sub : Sub) (table : TypesAreMade p) where
  target_sorted : (target : Target) (e : CoreExpr) (rest : Tree) → IsTyped (Set target e) → AreAsDeclared p (Set target e) → AreAsFormed p (Set target e) → IsSortedTree (types_of p) rest → IsSortedTree (types_of p) (set_tree p target e rest)
  target_sorted target e rest typed declared formed k =
      let right = right_side target e typed in
      let parts = each_parts (IsFormed (types_of p)) (parts_on_way target.way) (parts_in e) (each_formed p table (parts_on_way target.way ++ parts_in e) (recursion_from_All (IsAsFormed p) (parts_on_way target.way ++ parts_in e) formed)) in
      let names = recursion_from_All (IsAsDeclared p) (names_read e) declared.1.1 in
      let on_way = recursion_from_All (IsAsDeclared p) (names_on_way target.way) declared.1.0 in
      set_sorted p target.root e right.typing right.typed (names, parts.1) declared.0 target.way rest on_way parts.0 right.whole right.whole_way right.whole_fits (λ v object denotes. (right.way v object denotes, right.fits v object denotes)) k

  mutual
    walk_sorted : (c : Command) (rest leave : ℕ → Tree) → IsTyped c → AreAsDeclared p c → AreAsFormed p c → AreSortedTrees (types_of p) rest → AreSortedTrees (types_of p) leave → AreSortedTrees (types_of p) (walk p sub c rest leave)
    walk_sorted Skip rest leave typed declared formed k l made = k made
    walk_sorted (Set target e) rest leave typed declared formed k l made = target_sorted target e (rest made) typed declared formed (k made)
    walk_sorted (Then a b) rest leave typed declared formed k l made =
        let parts = both_typed a b typed in
        walk_sorted a (walk p sub b rest leave) leave parts.0 declared.0 formed.0 (walk_sorted b rest leave parts.1 declared.1 formed.1 k l) l made
    walk_sorted (Choose place e a b) rest leave typed declared formed k l made =
        let parts = arms_typed place e a b typed in
        decided_sorted p e (is_leave a) (walk p sub a rest leave) (walk p sub b rest leave) made parts.0 (known_of p table e declared.0 formed.0) (walk_sorted a rest leave parts.1 declared.1.0 formed.1.0 k l made) (walk_sorted b rest leave parts.2 declared.1.1 formed.1.1 k l made)
    walk_sorted (Select place selector alternatives) rest leave typed declared formed k l made =
        let select = select_typed place selector alternatives typed in
        let t = term_of p (now_term p) selector in
        let whole = checks_sorted p (now_term p) (now_sorted p) selector select.typing select.typed (known_of p table selector declared.0 formed.0) in
        whole.checks [] tt (walk_for p sub t [] alternatives rest leave made)
        (walk_for_sorted t (whole.sorted ∙ ap Some (ordered_sort select.typing.of select.ordered)) [] tt select.typing.of alternatives rest leave select.parts declared.1 formed.1 k l made)
    walk_sorted (Assertion assertion.Assert place e) rest leave typed declared formed k l made = asserted_sorted p sub AssertCondition place e Cut typed (known_of p table e declared formed) tt
    walk_sorted (Assertion assertion.Check place e) rest leave typed declared formed k l made = asserted_sorted p sub CheckCondition place e (rest made) typed (known_of p table e declared formed) (k made)
    walk_sorted (Repeat head body) rest leave typed declared formed k l made =
        let parts = head_sorted p table head body typed declared.0 formed.0 in
        let ends : ℕ → Tree = λ m. Cut in
        let out = leaving p head rest in
        let after : AreSortedTrees (types_of p) out = λ m. leaving_sorted p sub head rest m parts.0 (k m) in
        let first = walk p sub body ends out in
        into_loop_sorted p sub head (as_far_as_cut (has_own_cut body) first) out made parts.0 (as_far_sorted (types_of p) (has_own_cut body) first (walk_sorted body ends out parts.1 declared.1 formed.1 (λ m. tt) after) made) (after made)
    walk_sorted (Leave place) rest leave typed declared formed k l made = l made

    walk_for_sorted : (t : Term) → HasSortOf (types_of p) Integer t → (earlier : List Term) → AreFormulas (types_of p) earlier → (of : ExprType) (alternatives : Alternatives) (rest leave : ℕ → Tree) → AreTyped of alternatives → AllAreAsDeclared p alternatives → AllAreAsFormed p alternatives
        → AreSortedTrees (types_of p) rest → AreSortedTrees (types_of p) leave → AreSortedTrees (types_of p) (walk_for p sub t earlier alternatives rest leave)
    walk_for_sorted t number earlier sorted of (Last choices a) rest leave typed declared formed k l made =
        let body = walk p sub a rest leave made in
        assume_sorted (types_of p) (alternative_facts t earlier choices) body (facts_sorted (types_of p) t number earlier sorted choices) (walk_sorted a rest leave (last_typed of choices a typed).1 declared formed k l made)
    walk_for_sorted t number earlier sorted of (When choices a more) rest leave typed declared formed k l made =
        let parts = when_typed of choices a more typed in
        let body = walk p sub a rest leave made in (
          assume_sorted (types_of p) (alternative_facts t earlier choices) body (facts_sorted (types_of p) t number earlier sorted choices) (walk_sorted a rest leave parts.1 declared.0 formed.0 k l made),
          walk_for_sorted t number (and_these t earlier choices) (these_sorted (types_of p) t number earlier sorted choices) of more rest leave parts.2 declared.1 formed.1 k l made,
        )

-- ---- cuts

abbrev pub AllSorted : Types → List Tree → Type 0
AllSorted types trees = AllByRecursion (IsSortedTree types) trees

-- these loops have numbers
abbrev AreSortedCounts : Program → List CoreCount → Type 0
AreSortedCounts p within = AllByRecursion (IsSortedCount p) within

-- so have they with one more
inside_sorted : (p : Program) (within : List CoreCount) (head : Head) → AreSortedCounts p within → HeadIsSorted p head → AreSortedCounts p (inside within head)
inside_sorted p within (Tested place e) around sorted = around
inside_sorted p within (Counted c) around sorted = each_append (IsSortedCount p) within (c ∷ []) around (sorted, tt)
inside_sorted p within Endless around sorted = around

both_sorted : (types : Types) (a b : List Tree) → AllSorted types a → AllSorted types b → AllSorted types (a ++ b)
both_sorted types a b h k = each_append (IsSortedTree types) a b h k

module _ (p : Program) (sub : Sub) (table : TypesAreMade p) (known_sorted : (within : List CoreCount) → AreSortedCounts p within → AreFormulas (types_of p) (cut_facts p sub within)) where
  from_cut_sorted : (within : List CoreCount) (known : List Term) (rest : Tree) → AreSortedCounts p within → AreFormulas (types_of p) known → IsSortedTree (types_of p) rest → IsSortedTree (types_of p) (from_cut p sub within known rest)
  from_cut_sorted within known rest around h k = assume_sorted (types_of p) (cut_facts p sub within ++ known) rest (each_append (IsFormula (types_of p)) (cut_facts p sub within) known (known_sorted within around) h) k

  noted_cut_sorted : (within : List CoreCount) (kind : AssertionKind) (e : CoreExpr) (rest : Tree) → AreSortedCounts p within → test e ≡ Ok tt → AreDeclared p e → IsSortedTree (types_of p) rest → AllSorted (types_of p) (noted_cut p sub within kind e rest)
  noted_cut_sorted within assertion.Assert e rest around typed declared k =
      let t = term_of p (entry_term p sub) e in
      (from_cut_sorted within (conjuncts t) rest around (conjuncts_sorted (types_of p) t (test_sorted p (entry_term p sub) (entry_sorted p sub) e typed declared).formula) k, tt)
  noted_cut_sorted within assertion.Check e rest around typed declared k = tt

  loop_cut_sorted : (within : List CoreCount) (own : Bool) (rest : Tree) → AreSortedCounts p within → IsSortedTree (types_of p) rest → AllSorted (types_of p) (loop_cut p sub within own rest)
  loop_cut_sorted within true rest around k = tt
  loop_cut_sorted within false rest around k = (from_cut_sorted within (term.Truth true ∷ []) rest around (terms.fold-Truth (sort_step (types_of p)) true, tt) k, tt)

  -- the trees from the cuts in a command are sorted
  mutual
    cuts_sorted : (within : List CoreCount) (c : Command) (rest leave : ℕ → Tree) → AreSortedCounts p within → IsTyped c → AreAsDeclared p c → AreAsFormed p c → AreSortedTrees (types_of p) rest → AreSortedTrees (types_of p) leave → AllSorted (types_of p) (cuts p sub within c rest leave)
    cuts_sorted within Skip rest leave around typed declared formed k l = tt
    cuts_sorted within (Set target e) rest leave around typed declared formed k l = tt
    cuts_sorted within (Then a b) rest leave around typed declared formed k l =
        let parts = both_typed a b typed in
        let back = walk p sub b rest leave in
        both_sorted (types_of p) (cuts p sub within a back leave) (cuts p sub within b rest leave) (cuts_sorted within a back leave around parts.0 declared.0 formed.0 (walk_sorted p sub table b rest leave parts.1 declared.1 formed.1 k l) l)
        (cuts_sorted within b rest leave around parts.1 declared.1 formed.1 k l)
    cuts_sorted within (Choose place e a b) rest leave around typed declared formed k l =
        let parts = arms_typed place e a b typed in
        both_sorted (types_of p) (cuts p sub within a rest leave) (cuts p sub within b rest leave) (cuts_sorted within a rest leave around parts.1 declared.1.0 formed.1.0 k l) (cuts_sorted within b rest leave around parts.2 declared.1.1 formed.1.1 k l)
    cuts_sorted within (Select place selector alternatives) rest leave around typed declared formed k l =
        let select = select_typed place selector alternatives typed in
        cuts_for_sorted within select.typing.of alternatives rest leave around select.parts declared.1 formed.1 k l
    cuts_sorted within (Assertion kind place e) rest leave around typed declared formed k l = noted_cut_sorted within kind e (rest 0) around typed (known_of p table e declared formed) (k 0)
    cuts_sorted within (Repeat head body) rest leave around typed declared formed k l =
        let parts = head_sorted p table head body typed declared.0 formed.0 in
        let here = inside within head in
        let known = inside_sorted p within head around parts.0 in
        let ends : ℕ → Tree = λ m. Cut in
        let out = leaving p head rest in
        let after : AreSortedTrees (types_of p) out = λ m. leaving_sorted p sub head rest m parts.0 (k m) in
        let first = walk p sub body ends out in
        let end = end_of_turn p sub head body rest in
        let again : AreSortedTrees (types_of p) end = λ m.
        again_sorted p sub head (as_far_as_cut (has_own_cut body) first) out m parts.0 (as_far_sorted (types_of p) (has_own_cut body) first (walk_sorted p sub table body ends out parts.1 declared.1 formed.1 (λ m. tt) after) m) (after m)
        in
        let turn = walk p sub body end out 0 in
        both_sorted (types_of p) (loop_cut p sub here (has_own_cut body) turn) (cuts p sub here body end out) (loop_cut_sorted here (has_own_cut body) turn known (walk_sorted p sub table body end out parts.1 declared.1 formed.1 again after 0))
        (cuts_sorted here body end out known parts.1 declared.1 formed.1 again after)
    cuts_sorted within (Leave place) rest leave around typed declared formed k l = tt

    cuts_for_sorted : (within : List CoreCount) (of : ExprType) (alternatives : Alternatives) (rest leave : ℕ → Tree) → AreSortedCounts p within → AreTyped of alternatives → AllAreAsDeclared p alternatives → AllAreAsFormed p alternatives → AreSortedTrees (types_of p) rest → AreSortedTrees (types_of p) leave
        → AllSorted (types_of p) (cuts_for p sub within alternatives rest leave)
    cuts_for_sorted within of (Last choices a) rest leave around typed declared formed k l = cuts_sorted within a rest leave around (last_typed of choices a typed).1 declared formed k l
    cuts_for_sorted within of (When choices a more) rest leave around typed declared formed k l =
        let parts = when_typed of choices a more typed in
        both_sorted (types_of p) (cuts p sub within a rest leave) (cuts_for p sub within more rest leave) (cuts_sorted within a rest leave around parts.1 declared.0 formed.0 k l) (cuts_for_sorted within of more rest leave around parts.2 declared.1 formed.1 k l)

-- ---- subprograms

module _ (p : Program) (sub : Sub) (table : TypesAreMade p) where
  import_facts_sorted : (v : VarId) → AreFormulas (types_of p) (import_facts p sub v)
  import_facts_sorted v = by_import (imports v sub)
    where
      by_import : (b : Bool) → AreFormulas (types_of p) (if b then in_type (type_of p v) (now_term p v) else [])
      by_import true = in_type_sorted (types_of p) (type_of p v) (now_term p v) (terms.fold-Variable (sort_step (types_of p)) (now p v))
      by_import false = tt

  pre_sorted : (pre : Option CorePredicate) → ((it : CorePredicate) → pre ≡ Some it → AreDeclared p it.condition) → if_there judged_predicate pre ≡ Ok tt → AreFormulas (types_of p) (pre_facts p sub pre)
  pre_sorted None declared typed = tt
  pre_sorted (Some pre) declared typed =
      conjuncts_sorted (types_of p) (term_of p (entry_term p sub) pre.condition) (test_sorted p (entry_term p sub) (entry_sorted p sub) pre.condition typed (declared pre refl)).formula

  entry_facts_sorted : (v : VarId) → AreFormulas (types_of p) (entry_facts p sub v)
  entry_facts_sorted v = by_relation (imports v sub && exports v sub)
    where
      by_relation : (b : Bool) → AreFormulas (types_of p) (if b then in_type (type_of p v) (term.Variable (entry p v)) else [])
      by_relation true = in_type_sorted (types_of p) (type_of p v) (term.Variable (entry p v)) (terms.fold-Variable (sort_step (types_of p)) (entry p v))
      by_relation false = tt

  var_facts_sorted : (v : VarId) → AreFormulas (types_of p) (var_facts p v)
  var_facts_sorted v = in_type_sorted (types_of p) (type_of p v) (now_term p v) (now_sorted p v)

  pre_on_entry_sorted : (pre : Option CorePredicate) → ((it : CorePredicate) → pre ≡ Some it → AreDeclared p it.condition) → if_there judged_predicate pre ≡ Ok tt → AreFormulas (types_of p) (pre_facts_on_entry p sub pre)
  pre_on_entry_sorted None declared typed = tt
  pre_on_entry_sorted (Some pre) declared typed =
      let of = test_typed pre.condition typed in
      let sorts = entry_sorted p sub in
      let sorted = sorted_with p (entry_term p sub) (entry_term p sub) sorts sorts pre.condition of.0 of.1 (declared pre refl) in
      conjuncts_sorted (types_of p) (term_with (entry_term p sub) (entry_term p sub) pre.condition) (sorted ∙ ap Some (boolean_sort of.0.of of.2))

  all_count_facts_sorted : (within : List CoreCount) → AreSortedCounts p within → AreFormulas (types_of p) (flat_map (count_facts p sub) within)
  all_count_facts_sorted [] around = tt
  all_count_facts_sorted (c ∷ within) around = each_append (IsFormula (types_of p)) (count_facts p sub c) (flat_map (count_facts p sub) within) (count_facts_sorted p sub c around.0) (all_count_facts_sorted within around.1)

  pre_known : Scoped p sub → (it : CorePredicate) → sub.pre ≡ Some it → AreDeclared p it.condition
  pre_known scoped it is = known_of p table it.condition (scoped.pre_names it is) (scoped.pre_parts it is)

  post_known : Scoped p sub → (it : CorePredicate) → sub.post ≡ Some it → AreDeclared p it.condition
  post_known scoped it is = known_of p table it.condition (scoped.post_names it is) (scoped.post_parts it is)

  cut_facts_sorted : Scoped p sub → TypedSub sub → (within : List CoreCount) → AreSortedCounts p within → AreFormulas (types_of p) (cut_facts p sub within)
  cut_facts_sorted scoped typed within around =
      let before = pre_on_entry_sorted sub.pre (pre_known scoped) typed.pre in
      each_append (IsFormula (types_of p)) (flat_map (var_facts p) (formals sub)) _ (each_flat_map (IsFormula (types_of p)) (var_facts p) var_facts_sorted (formals sub))
      (each_append (IsFormula (types_of p)) (flat_map (var_facts p) (locals sub)) _ (each_flat_map (IsFormula (types_of p)) (var_facts p) var_facts_sorted (locals sub))
      (each_append (IsFormula (types_of p)) (flat_map (entry_facts p sub) (formals sub)) _ (each_flat_map (IsFormula (types_of p)) (entry_facts p sub) entry_facts_sorted (formals sub))
      (each_append (IsFormula (types_of p)) (flat_map (count_facts p sub) within) (pre_facts_on_entry p sub sub.pre) (all_count_facts_sorted within around) before)))

  ending_sorted : (post : Option CorePredicate) → ((it : CorePredicate) → post ≡ Some it → AreDeclared p it.condition) → if_there judged_predicate post ≡ Ok tt → IsSortedTree (types_of p) (ending_with p sub post)
  ending_sorted None declared typed = tt
  ending_sorted (Some post) declared typed = asserted_sorted p sub Post post.place post.condition Cut typed (declared post refl) tt

  entering_sorted : (vars : List VarId) (rest : Tree) → IsSortedTree (types_of p) rest → IsSortedTree (types_of p) (entering p sub vars rest)
  entering_sorted [] rest k = k
  entering_sorted (v ∷ vars) rest k = by_export (exports v sub) (entering_sorted vars rest k)
    where
      by_export : (b : Bool) → IsSortedTree (types_of p) (entering p sub vars rest) → IsSortedTree (types_of p) (if b then Assign (now p v) (term.Variable (entry p v)) (entering p sub vars rest) else entering p sub vars rest)
      by_export true k = (terms.fold-Variable (sort_step (types_of p)) (entry p v), ((refl, variable_closed (entry p v) refl), k))
      by_export false k = k

  -- these variables start with values of types without parts, if with any
  abbrev StartPlain : List VarId → Type 0
  StartPlain vars = (v : VarId) (n : ℤ) → stands_in v vars ≡ true → initial_of v p ≡ Some n → has_parts (type_of p v).base.class ≡ false

  starting_sorted : (v : VarId) (rest : Tree) → ((n : ℤ) → initial_of v p ≡ Some n → has_parts (type_of p v).base.class ≡ false) → IsSortedTree (types_of p) rest → IsSortedTree (types_of p) (starting_with (now p v) (initial_value p v) rest)
  starting_sorted v rest none k = by_value (initial_of v p) refl
    where
      by_value : (o : Option ℤ) → initial_of v p ≡ o → IsSortedTree (types_of p) (starting_with (now p v) (option_map (value_in_type (type_of p v)) o) rest)
      by_value (Some n) is = (literal_of_type (types_of p) (Of (type_of p v).base) n (none n is), ((refl, static_closed (value_in_type (type_of p v) n)), k))
      by_value None is = k

  initializing_sorted : (vars : List VarId) (rest : Tree) → StartPlain vars → IsSortedTree (types_of p) rest → IsSortedTree (types_of p) (initializing p vars rest)
  initializing_sorted [] rest none k = k
  initializing_sorted (v ∷ vars) rest none k =
      starting_sorted v (initializing p vars rest) (λ n is. none v n (or_left (v.0 == v.0) (stands_in v vars) (eq-eqb v.0 v.0 refl)) is)
      (initializing_sorted vars rest (λ w n among is. none w n (or_right (v.0 == w.0) (stands_in w vars) among) is) k)

  last_sorted : Scoped p sub → TypedSub sub → AreSortedTrees (types_of p) (ending p sub)
  last_sorted scoped typed made = ending_sorted sub.post (post_known scoped) typed.post

  start_sorted : Scoped p sub → StartsInType p sub → TypedSub sub → IsSortedTree (types_of p) (start_tree p sub)
  start_sorted scoped initial typed =
      let body = walk p sub (commands sub.statements) (ending p sub) (ending p sub) 0 in
      let last = last_sorted scoped typed in
      entering_sorted (formals sub) (initializing p (locals sub) (assume_all (first_facts p sub) body))
      (initializing_sorted (locals sub) (assume_all (first_facts p sub) body) (λ v n local is. starts_plain p sub scoped initial v n local is)
      (assume_sorted (types_of p) (first_facts p sub) body
      (each_append (IsFormula (types_of p)) (flat_map (import_facts p sub) (formals sub)) (pre_facts p sub sub.pre) (each_flat_map (IsFormula (types_of p)) (import_facts p sub) import_facts_sorted (formals sub)) (pre_sorted sub.pre (pre_known scoped) typed.pre))
      (walk_sorted p sub table (commands sub.statements) (ending p sub) (ending p sub) typed.statements scoped.body_names scoped.body_parts last last 0)))

  pub all_sorted : Scoped p sub → StartsInType p sub → TypedSub sub → AllSorted (types_of p) (trees_of p sub)
  all_sorted scoped initial typed =
      let last = last_sorted scoped typed in
      (start_sorted scoped initial typed, cuts_sorted p sub table (cut_facts_sorted scoped typed) [] (commands sub.statements) (ending p sub) (ending p sub) tt typed.statements scoped.body_names scoped.body_parts last last)

-- ---- claims and conditions

abbrev IsSortedClaim : Types → Claim → Type 0
IsSortedClaim types c = AreFormulas types c.hyps × AreFormulas types c.goals

module _ (types : Types) (x : Symbolic) (t : Term) (same : HasSortOf types x.sort t) where
  formulas_kept : (us : List Term) → AreFormulas types us → AreFormulas types (map (substituted x t) us)
  formulas_kept [] h = tt
  formulas_kept (u ∷ us) h = (substitution_keeps_sorts types x t u same ∙ h.0, formulas_kept us h.1)

  claims_kept : (cs : List Claim) → AllByRecursion (IsSortedClaim types) cs → AllByRecursion (IsSortedClaim types) (map (with_value x t) cs)
  claims_kept [] h = tt
  claims_kept (c ∷ cs) h = ((formulas_kept c.hyps h.0.0, formulas_kept c.goals h.0.1), claims_kept cs h.1)

with_fact_sorted : (types : Types) (t : Term) (cs : List Claim) → IsFormula types t → AllByRecursion (IsSortedClaim types) cs → AllByRecursion (IsSortedClaim types) (map (with_fact t) cs)
with_fact_sorted types t [] f h = tt
with_fact_sorted types t (c ∷ cs) f h = (((f, h.0.0), h.0.1), with_fact_sorted types t cs f h.1)

claims_sorted : (types : Types) (tree : Tree) → IsSortedTree types tree → AllByRecursion (IsSortedClaim types) (claims_of tree)
claims_sorted types Cut h = tt
claims_sorted types (Assume t rest) h = with_fact_sorted types t (claims_of rest) h.0 (claims_sorted types rest h.1)
claims_sorted types (Assign x t rest) h = claims_kept types x t h.0 (claims_of rest) (claims_sorted types rest h.1.1)
claims_sorted types (Fresh x rest) h = claims_sorted types rest h
claims_sorted types (Prove kind place goals rest) h = ((tt, h.0), claims_sorted types rest h.1)
claims_sorted types (Split first second) h = each_append (IsSortedClaim types) (claims_of first) (claims_of second) (claims_sorted types first h.0) (claims_sorted types second h.1)

plain_is_valid : (types : Types) (hyps goals : List Term) → AreFormulas types hyps → AreFormulas types goals → Plain (without_doubles hyps) (goal_of goals) → Valid types (without_doubles hyps) (goal_of goals)
plain_is_valid types hyps goals hyps_sorted goals_sorted plain =
    plain_valid types (without_doubles hyps) (goal_of goals) (All-from_recursion (IsFormula types) (without_doubles hyps) (each_without_doubles (IsFormula types) [] hyps tt hyps_sorted)) (goal_sorted types goals goals_sorted) plain

abbrev IsPlain : Condition → Type 0
IsPlain c = Plain c.hyps (goal_of c.goals)

valid_where_plain : (p : Program) (name : List ℕ) (n : ℕ) (cs : List Claim) → AllByRecursion (IsSortedClaim (types_of p)) cs → AllByRecursion IsPlain (numbered name n (map tidy cs)) → AllByRecursion (IsValid p) (numbered name n (map tidy cs))
valid_where_plain p name n [] sorted plain = tt
valid_where_plain p name n (c ∷ cs) sorted plain = (plain_is_valid (types_of p) c.hyps c.goals sorted.0.0 sorted.0.1 plain.0, valid_where_plain p name (n + 1) cs sorted.1 plain.1)

trees_sorted : (types : Types) (trees : List Tree) → AllByRecursion (IsSortedTree types) trees → AllByRecursion (IsSortedClaim types) (flat_map claims_of trees)
trees_sorted types [] h = tt
trees_sorted types (tree ∷ trees) h = each_append (IsSortedClaim types) (claims_of tree) (flat_map claims_of trees) (claims_sorted types tree h.0) (trees_sorted types trees h.1)

valid_conditions : (p : Program) (sub : Sub) → TypesAreMade p → Scoped p sub → StartsInType p sub → TypedSub sub → ArePlain (conditions_of p sub) → HasValidConditions p sub
unfolding conditions_of
valid_conditions p sub table scoped initial typed plain =
    All-from_recursion (IsValid p) (conditions_of p sub)
    (valid_where_plain p sub.name.name.text 1 (body_claims p sub) (trees_sorted (types_of p) (trees_of p sub) (all_sorted p sub table scoped initial typed)) (recursion_from_All IsPlain (conditions_of p sub) plain))

pub clean_is_fit : (p : Program) → TypesAreMade p → All (Scoped p) p.subs → All (StartsInType p) p.subs → Clean p → Fit p
clean_is_fit p table scoped initial clean = record {
  visible = clean.visible;
  typed = clean.typed;
  obeys = clean.obeys;
  flows = clean.flows;
  conditions = λ k d within. valid_conditions p (get_or p.subs k d) table (scoped k d within) (initial k d within) (typed_subs p clean.typed k d within) (clean.conditions k d within);
}
