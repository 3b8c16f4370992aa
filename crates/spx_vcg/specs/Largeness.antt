-- Claims with too many nodes, and the sizes by which they are found.
use Rattle.std.specs.Prelude.{◌≡◌, ◌<◌, ◌+◌, ℕ, Bool, true, false, ⊤, List, length, slice_index, nat_lt}
use Rattle.spx_core.specs.declared.program.Program.{Program}
use Rattle.spx_core.specs.declared.subprogram.Sub.{Sub}
use Rattle.spx_paths.specs.declared.fault.TheConstants.{MOST_PATHS}
use Rattle.spx_paths.specs.Limits.{has_large_condition, has_many_paths}
use Rattle.spx_term.specs.declared.condition.TheConstants.{MOST_NODES}
use Rattle.spx_term.specs.declared.term.Term.{Term}
use Rattle.spx_term.specs.Sizes.{sizes_of}
use Rattle.spx_term.specs.Steps.{Claim}
use Rattle.spx_arena.specs.declared.facts.FactsId.{FactsId}
use Rattle.spx_arena.specs.declared.terms.TermId.{TermId}
use Rattle.spx_arena.specs.Claims.{trees_at}
use Rattle.spx_arena.specs.Counts.{counted}
use Rattle.spx_arena.specs.Facts.{facts_at}
use Rattle.spx_vcg.specs.declared.fault.VcFault.{VcFault}
use Rattle.spx_vcg.specs.declared.fault.VcFault.TheVariants.{TooManyPaths, TooManyNodes, Memory}

-- the nodes of a claim: those of its hypotheses and of its goals
abbrev pub claim_nodes : Claim → ℕ
claim_nodes c = sizes_of c.hyps + sizes_of c.goals

-- whether a claim has too many nodes
abbrev pub is_large : Claim → Bool
is_large c = nat_lt MOST_NODES (claim_nodes c)

-- the fault is the number at which a count stops, and there are too many paths, or else some condition has too many nodes; or memory ran out
abbrev pub IsFaultOf : Program → Sub → VcFault → Type 0
IsFaultOf p sub (TooManyPaths n) = (n ≡ MOST_PATHS + 1) × (has_many_paths sub ≡ true)
IsFaultOf p sub (TooManyNodes n) = (n ≡ MOST_NODES + 1) × (has_many_paths sub ≡ false) × (has_large_condition p sub ≡ true)
IsFaultOf p sub Memory = ⊤

-- the nodes of the first lists of facts, counted
pub record AreSizes (n : ℕ) (trees : List Term) (lists : List (List TermId)) (sizes : List ℕ) : Type 0 where
  pub as_many : length sizes ≡ n
  pub each : (id : FactsId) → id.0 < n → slice_index sizes id.0 ≡ counted (sizes_of (trees_at trees (facts_at lists id)))
