-- Trees whose conditions are valid are safe.
use Rattle.std.proofs.Common.{◌≡◌, ℕ, ◌+◌, List, [], ◌∷◌, ◌++◌, map, sym, ◌∙◌}
use Rattle.std.specs.List.{AllByRecursion, flat_map}
use Rattle.std.proofs.lemmas.List.Elements.{All-from_recursion, recursion_from_All}
use Rattle.spx_core.specs.declared.subprogram.Sub.{Sub}
use Rattle.spx_core.specs.declared.program.Program.{Program}
use Rattle.spx_term.specs.declared.term.Name.{Name}
use Rattle.spx_term.specs.declared.term.Term.{Term}
use Rattle.spx_term.specs.Goals.{goal_of}
use Rattle.spx_term.specs.Meaning.{Valuation, value_of, Holds, Respects, Valid}
use Rattle.spx_term.specs.Steps.{Tree, Cut, Assume, Assign, Fresh, Prove, Split, substituted, Claim, with_fact, with_value, claims_of, without_doubles, tidy}
use Rattle.spx_term.specs.Values.{Types}
use Rattle.spx_term.proofs.GoalLaws.{goal_holds}
use Rattle.spx_term.proofs.SubstitutionLaws.{substitution_is_meant}
use Rattle.spx_meaning.specs.Stores.{types_of}
use Rattle.spx_paths.specs.Walks.{trees_of}
use Rattle.spx_paths.specs.Conditions.{body_claims, numbered, conditions_of}
use Rattle.spx_paths.specs.Fit.{IsValid, HasValidConditions}
use Rattle.spx_sound.proofs.Closed.{MayTake}
use Rattle.spx_sound.proofs.NeverBadTrees.{AllHold, changed, Safe, AllSafe, each_without_doubles}
use Rattle.spx_sound.proofs.SortedTrees.{IsSortedTree}

module _ (types : Types) (x : Name) (t : Term) (takes : MayTake x t) (v : Valuation) where
  abbrev after : Valuation
  after = changed v x (value_of types v t)

  -- a term with t in the place of x has the value that it has where x has the value of t
  value-substituted : (u : Term) → value_of types v (substituted x t u) ≡ value_of types after u
  value-substituted u = substitution_is_meant types x t u takes.0 takes.1 v

  hold_after : (us : List Term) → AllHold types v (map (substituted x t) us) → AllHold types after us
  hold_after [] h = tt
  hold_after (u ∷ us) h = (sym (value-substituted u) ∙ h.0, hold_after us h.1)

  hold_before : (us : List Term) → AllHold types after us → AllHold types v (map (substituted x t) us)
  hold_before [] h = tt
  hold_before (u ∷ us) h = (value-substituted u ∙ h.0, hold_before us h.1)

-- ---- claims

-- the goals hold under the facts
abbrev pub IsMet : Types → Valuation → Claim → Type 0
IsMet types v c = AllHold types v c.hyps → AllHold types v c.goals

abbrev AreMet : Types → Valuation → List Claim → Type 0
AreMet types v cs = AllByRecursion (IsMet types v) cs

module _ (p : Program) (sub : Sub) where
  abbrev types : Types
  types = types_of p

  met_under : (v : Valuation) (t : Term) (cs : List Claim) → Holds types t v → AreMet types v (map (with_fact t) cs) → AreMet types v cs
  met_under v t [] h met = tt
  met_under v t (c ∷ cs) h met = (λ hyps. met.0 (h, hyps), met_under v t cs h met.1)

  met_after : (v : Valuation) (x : Name) (t : Term) → MayTake x t → (cs : List Claim) → AreMet types v (map (with_value x t) cs) → AreMet types (changed v x (value_of types v t)) cs
  met_after v x t takes [] met = tt
  met_after v x t takes (c ∷ cs) met = (λ hyps. hold_after types x t takes v c.goals (met.0 (hold_before types x t takes v c.hyps hyps)), met_after v x t takes cs met.1)

  met_both : (v : Valuation) (cs ds : List Claim) → AreMet types v (cs ++ ds) → AreMet types v cs × AreMet types v ds
  met_both v [] ds met = (tt, met)
  met_both v (c ∷ cs) ds met = let parts = met_both v cs ds met.1 in ((met.0, parts.0), parts.1)

  -- a tree whose claims are met is safe
  safe : (tree : Tree) → IsSortedTree types tree → (v : Valuation) → AreMet types v (claims_of tree) → Safe types tree v
  safe Cut sorted v met = tt
  safe (Assume t rest) sorted v met = λ h. safe rest sorted.1 v (met_under v t (claims_of rest) h met)
  safe (Assign x t rest) sorted v met = safe rest sorted.1.1 (changed v x (value_of types v t)) (met_after v x t sorted.1.0 (claims_of rest) met)
  safe (Fresh x rest) sorted v met = safe rest sorted v met
  safe (Prove kind place goals rest) sorted v met = (met.0 tt, safe rest sorted.1 v met.1)
  safe (Split first second) sorted v met = let parts = met_both v (claims_of first) (claims_of second) met in (safe first sorted.0 v parts.0, safe second sorted.1 v parts.1)

  safe_trees : (trees : List Tree) → AllByRecursion (IsSortedTree types) trees → (v : Valuation) → AreMet types v (flat_map claims_of trees) → AllSafe types v trees
  safe_trees [] sorted v met = tt
  safe_trees (tree ∷ trees) sorted v met = let parts = met_both v (claims_of tree) (flat_map claims_of trees) met in (safe tree sorted.0 v parts.0, safe_trees trees sorted.1 v parts.1)

  -- ---- conditions

  met_where_valid : (v : Valuation) → Respects types v → (hyps goals : List Term) → Valid types (without_doubles hyps) (goal_of goals) → AllHold types v hyps → AllHold types v goals
  met_where_valid v respects hyps goals valid hold =
      let facts = All-from_recursion (λ t. Holds types t v) (without_doubles hyps) (each_without_doubles (λ t. Holds types t v) [] hyps tt hold) in
      recursion_from_All (λ t. Holds types t v) goals ((goal_holds types v goals).0 (valid v respects facts))

  met_by : (v : Valuation) → Respects types v → (name : List ℕ) (n : ℕ) (cs : List Claim) → AllByRecursion (IsValid p) (numbered name n (map tidy cs)) → AreMet types v cs
  met_by v respects name n [] valid = tt
  met_by v respects name n (c ∷ cs) valid = (met_where_valid v respects c.hyps c.goals valid.0, met_by v respects name (n + 1) cs valid.1)

  -- where its conditions are valid, the sorted trees of a subprogram are safe at every valuation
  pub safe_sub : AllByRecursion (IsSortedTree types) (trees_of p sub) → HasValidConditions p sub → (v : Valuation) → Respects types v → AllSafe types v (trees_of p sub)
  unfolding conditions_of
  safe_sub sorted valid v respects =
      safe_trees (trees_of p sub) sorted v (met_by v respects sub.name.name.text 1 (body_claims p sub) (recursion_from_All (IsValid p) (conditions_of p sub) valid))
