-- The trees of a body, and the conditions that they ask for.
use Rattle.std.proofs.Common.{◌≡◌, List, [], ◌∷◌, map, ap, ap₂, ◌∙◌}
use Rattle.std.specs.List.{flat_map}
use Rattle.spx_core.specs.declared.program.Program.{Program}
use Rattle.spx_core.specs.declared.subprogram.Sub.{Sub}
use Rattle.spx_core.specs.Commands.{Command, commands}
use Rattle.spx_term.specs.Steps.{Tree, Claim, claims_of, tidy}
use Rattle.spx_paths.specs.Walks.{cuts, ending, start_tree, trees_of}
use Rattle.spx_paths.specs.Conditions.{conditions_of, numbered}

module _ (p : Program) (sub : Sub) where
  -- where its statements are this command: the tree from its start, and those from its cuts
  pub trees_are : (c : Command) (first : Tree) (later : List Tree) → commands sub.statements ≡ c → start_tree p sub ≡ first → cuts p sub [] c (ending p sub) (ending p sub) ≡ later → trees_of p sub ≡ first ∷ later
  trees_are c first later is start from_cuts = ap₂ (λ (t : Tree) (ts : List Tree). t ∷ ts) start (ap (λ c. cuts p sub [] c (ending p sub) (ending p sub)) is ∙ from_cuts)

  -- where these are the trees, with these claims
  pub conditions_from : (trees : List Tree) (claims : List Claim) → trees_of p sub ≡ trees → map tidy (flat_map claims_of trees) ≡ claims → conditions_of p sub ≡ numbered sub.name.name.text 1 claims
  unfolding conditions_of
  conditions_from trees claims are ask = ap (λ ts. numbered sub.name.name.text 1 (map tidy (flat_map claims_of ts))) are ∙ ap (numbered sub.name.name.text 1) ask
