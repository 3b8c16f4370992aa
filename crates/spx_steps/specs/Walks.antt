-- What the walk has made, and what each of its steps adds.
use Rattle.std.specs.Prelude.{◌≡◌, ℕ, ◌<◌, List, [], ◌++◌, flat_map, length, map, take, Some}
use Rattle.spx_term.specs.declared.term.Term.{Term}
use Rattle.spx_term.specs.Steps.{Tree, Cut, Claim}
use Rattle.spx_term.specs.declared.term.Term.TheVariants.{Variable}
use Rattle.indexmap.specs.IndexSet.{insert_key}
use Rattle.spx_arena.specs.declared.terms.TermId.{TermId}
use Rattle.spx_arena.specs.Sharing.{tree_at, Grows, IsId}
use Rattle.spx_arena.specs.Facts.{facts_at}
use Rattle.spx_arena.specs.Claims.{AreIds, AreLists, AreClaims, trees_at, claims_at}
use Rattle.spx_steps.specs.ConditionWalk.{State, applied, forward}
use Rattle.spx_steps.specs.States.{state_in, AreValues}
use Rattle.spx_steps.specs.declared.walk.Facts.{Facts}
use Rattle.spx_steps.specs.declared.walk.Mark.{Mark}
use Rattle.spx_steps.specs.declared.walk.Walk.{Walk}
use Rattle.spx_steps.specs.Memos.{id_eq, known, NothingKnown}

-- the facts of the present path are those of its list
pub record Stands (f : Facts) : Type 0 where
  pub within : f.at.0 < length f.lists
  pub here : facts_at f.lists f.at ≡ f.present.keys

-- all ids are those of terms and lists
pub record Whole (w : Walk) : Type 0 where
  pub values : AreValues (length w.terms) w.values
  pub facts : AreIds (length w.terms) w.facts.present.keys
  pub lists : AreLists (length w.terms) w.facts.lists
  pub stands : Stands w.facts
  pub claims : AreClaims (length w.terms) (length w.facts.lists) w.claims

abbrev pub state : Walk → State
state w = state_in w.terms w.values

-- the claims so far, and those of a tree that is still to be walked
unfoldable pub claims_from : Walk → Tree → List Claim
claims_from w tree = claims_at w.terms w.facts.lists w.claims ++ forward (state w) (trees_at w.terms w.facts.present.keys) tree

-- a list, with more after it
pub record Longer {A : Type 0} (old new : List A) : Type 0 where
  pub more : List A
  pub is : new ≡ old ++ more

-- terms, present facts and lists were only added
pub record OnlyAdds (old new : Walk) : Type 0 where
  pub grown : Grows old.terms new.terms
  pub keys : Longer old.facts.present.keys new.facts.present.keys
  pub lists : Longer old.facts.lists new.facts.lists

-- all ids are right, and so is what is known of the terms over names: they were made into what they are where names have their present values
pub record Ready (names : List Term) (w : Walk) : Type 0 where
  pub whole : Whole w
  pub table : length w.made ≡ length names
  pub made : (id into : TermId) → known w.made id ≡ Some into → IsId w.terms into (applied (state w) (tree_at names id))

-- terms were only added, and what names, facts and claims are stays
pub record OnlyTerms (names : List Term) (old new : Walk) : Type 0 where
  pub ready : Ready names new
  pub grown : Grows old.terms new.terms
  pub values : new.values ≡ old.values
  pub facts : new.facts ≡ old.facts
  pub claims : new.claims ≡ old.claims

-- a term over names was made into one where names have their values
pub record Makes (names : List Term) (old new : Walk) (id made : TermId) : Type 0 where
  pub only : OnlyTerms names old new
  pub is : IsId new.terms made (applied (state old) (tree_at names id))

-- the same for several
pub record MakesAll (names : List Term) (old new : Walk) (ids all : List TermId) : Type 0 where
  pub only : OnlyTerms names old new
  pub within : AreIds (length new.terms) all
  pub are : trees_at new.terms all ≡ map (applied (state old)) (trees_at names ids)

-- the first walk has come to the second along these steps: its claims are those of the second
pub record Goes (names : List Term) (old new : Walk) (steps : Tree → Tree) : Type 0 where
  pub ready : Ready names new
  pub adds : OnlyAdds old new
  pub same : (rest : Tree) → claims_from old (steps rest) ≡ claims_from new rest

-- a fact was added, or was there
pub record AddsFact (old new : Facts) (fact : TermId) : Type 0 where
  pub keys : new.present.keys ≡ insert_key id_eq old.present.keys fact
  pub lists : Longer old.lists new.lists
  pub stands : Stands new
  pub ids : (n : ℕ) → AreLists n old.lists → fact.0 < n → AreLists n new.lists

-- the claims along a tree, up to the end of each path, are made
pub record Ends (names : List Term) (old new : Walk) (from : Tree) : Type 0 where
  pub ready : Ready names new
  pub same : claims_from old from ≡ claims_from new Cut

-- a place to come back to
pub record Marks (w : Walk) (m : Mark) : Type 0 where
  pub values : m.values ≡ w.values
  pub at : m.at ≡ w.facts.at
  pub count : m.count ≡ length w.facts.present.keys

-- the walk is back there
pub record IsBack (old new : Walk) (m : Mark) : Type 0 where
  pub terms : new.terms ≡ old.terms
  pub claims : new.claims ≡ old.claims
  pub lists : new.facts.lists ≡ old.facts.lists
  pub at : new.facts.at ≡ m.at
  pub keys : new.facts.present.keys ≡ take m.count old.facts.present.keys
  pub values : new.values ≡ m.values
  pub made : NothingKnown (length old.made) new.made

-- the claims so far
abbrev pub so_far : Walk → List Claim
so_far w = claims_at w.terms w.facts.lists w.claims

-- the walk is at the root of a tree, where no name has a value and nothing is known
pub record BeginsAnew (names : List Term) (old new : Walk) : Type 0 where
  pub ready : Ready names new
  pub same : (rest : Tree) → claims_from new rest ≡ so_far old ++ forward Variable [] rest

-- the claims of these trees were added
pub record ClaimsAll (names : List Term) (old new : Walk) (trees : List Tree) : Type 0 where
  pub ready : Ready names new
  pub same : so_far new ≡ so_far old ++ flat_map (forward Variable []) trees
