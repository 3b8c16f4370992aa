-- What is known of terms, in tables by their ids.
use Rattle.std.specs.List.{list_any}
use Rattle.std.specs.Prelude.{◌≡◌, ℕ, true, ◌||◌, ◌<◌, ◌≤◌, Bool, false, List, ◌++◌, [], ◌∷◌, length, slice_index_or, if◌then◌else◌, eqb}
use Rattle.spx_term.specs.declared.term.Term.{Term}
use Rattle.spx_term.specs.declared.term.TermOp.{TermOp}
use Rattle.spx_term.specs.declared.term.Term.TheVariants as term
use Rattle.spx_term.specs.declared.interval.Interval.{Interval}
use Rattle.spx_term.specs.declared.term.UnaryOp.TheVariants as unary
use Rattle.spx_term.specs.Intervals.{unbounded, bounded, interval, is_said_in, is_typed}
use Rattle.spx_term.specs.Plain.{is_among}
use Rattle.spx_arena.specs.declared.terms.TermId.{TermId}
use Rattle.spx_arena.specs.declared.terms.Node.{Node}
use Rattle.spx_arena.specs.declared.terms.Node.TheVariants.{Number, Truth, Variable, Blank, Prefix, Infix, Unary, Binary, Ternary}
use Rattle.spx_arena.specs.Sharing.{tree_at, tree_in, Below}
use Rattle.spx_simplify.specs.declared.known.Known.{Known}
use Rattle.spx_simplify.specs.declared.known.Made.{Made}
use Rattle.spx_simplify.specs.declared.known.Change.{Change}
use Rattle.spx_simplify.specs.Folds.{place_of}

-- the entry of a table at a place
abbrev pub interval_at : List Interval → ℕ → Interval
interval_at xs k = slice_index_or xs k unbounded

abbrev pub test_at : List Bool → ℕ → Bool
test_at xs k = slice_index_or xs k false

abbrev pub number_at : List ℕ → ℕ → ℕ
number_at xs k = slice_index_or xs k 0

abbrev pub made_at : List Made → ℕ → Made
made_at xs k = slice_index_or xs k (record { id = place_of 0; interval = unbounded })

-- the interval at this place is that of a term
pub record IsAt (made : List Made) (at : ℕ) (id : TermId) : Type 0 where
  pub within : at < length made
  pub term : (made_at made at).id ≡ id

-- the interval of a term is among the first m
pub record Stands (made : List Made) (m : ℕ) (id : TermId) : Type 0 where
  pub at : ℕ
  pub before : at < m
  pub term : (made_at made at).id ≡ id

-- the interval of a term is made
abbrev pub IsMade : List Made → TermId → Type 0
IsMade made id = Stands made (length made) id

-- the interval of a term is made, and is this one
pub record Gives (made : List Made) (id : TermId) (x : Interval) : Type 0 where
  pub at : ℕ
  pub before : at < length made
  pub term : (made_at made at).id ≡ id
  pub value : (made_at made at).interval ≡ x

-- the intervals of the parts of a node are among the first m
abbrev pub Ready : List Made → ℕ → Node → Type 0
Ready made m (Number n) = Unit {0}
Ready made m (Truth b) = Unit {0}
Ready made m (Variable name) = Unit {0}
Ready made m (Prefix op a) = Stands made m a
Ready made m (Infix op a b) = Stands made m a × Stands made m b
Ready made m (Blank id) = Unit {0}
Ready made m (Unary op a) = Stands made m a
Ready made m (Binary op a b) = Stands made m a
Ready made m (Ternary op a b c) = Unit {0}

-- the table of places says where each interval is
pub record Placed (k : Known) : Type 0 where
  pub ids : (j : ℕ) → j < length k.made.items → (made_at k.made.items j).id.0 < length k.places
  pub at : (j : ℕ) → j < length k.made.items → number_at k.places (made_at k.made.items j).id.0 ≡ j

-- a table has a place for each of n terms
pub record Sized (n : ℕ) (k : Known) : Type 0 where
  pub facts : length k.facts ≡ n
  pub bounds : length k.bounds ≡ n
  pub said : length k.said ≡ n
  pub places : length k.places ≡ n
  pub placed : Placed k

-- a term has this form
pub record HasForm (trees : List Term) (id : TermId) (node : Node) : Type 0 where
  pub within : id.0 < length trees
  pub tree : tree_at trees id ≡ tree_in trees node
  pub below : Below id.0 node

-- a term has a form whose parts have their intervals among the first m
pub record HasParts (trees : List Term) (made : List Made) (m : ℕ) (id : TermId) : Type 0 where
  pub node : Node
  pub tree : tree_at trees id ≡ tree_in trees node
  pub ready : Ready made m node

-- what is known under the hypotheses
pub record Knows (trees hyps : List Term) (k : Known) : Type 0 where
  pub facts : (i : ℕ) → i < length trees → test_at k.facts i ≡ is_among hyps (tree_at trees (place_of i))
  pub bounds : (i : ℕ) → i < length trees → interval_at k.bounds i ≡ bounded unbounded hyps (tree_at trees (place_of i))
  pub said : (i : ℕ) → i < length trees → test_at k.said i ≡ list_any (is_said_in (tree_at trees (place_of i))) hyps
  pub intervals : (j : ℕ) → j < length k.made.items → (made_at k.made.items j).interval ≡ interval hyps (tree_at trees (made_at k.made.items j).id)
  pub parts : (j : ℕ) → j < length k.made.items → HasParts trees k.made.items j (made_at k.made.items j).id

-- the first intervals are left, without that of a term
pub record Forgets (old new : Known) (id : TermId) : Type 0 where
  pub facts : new.facts ≡ old.facts
  pub bounds : new.bounds ≡ old.bounds
  pub said : new.said ≡ old.said
  pub places : new.places ≡ old.places
  pub fewer : length new.made.items ≤ length old.made.items
  pub same : (j : ℕ) → j < length new.made.items → made_at new.made.items j ≡ made_at old.made.items j
  pub gone : IsMade new.made.items id → ⊥

-- the first intervals are left, and those of terms of which other things are known are not
pub record Leaves (old new : Known) : Type 0 where
  pub fewer : length new.made.items ≤ length old.made.items
  pub same : (j : ℕ) → j < length new.made.items → made_at new.made.items j ≡ made_at old.made.items j
  pub bounds : (j : ℕ) → j < length new.made.items → interval_at new.bounds (made_at new.made.items j).id.0 ≡ interval_at old.bounds (made_at new.made.items j).id.0
  pub said : (j : ℕ) → j < length new.made.items → test_at new.said (made_at new.made.items j).id.0 ≡ test_at old.said (made_at new.made.items j).id.0

-- the bounds are these
pub record Sets (n : ℕ) (old new : Known) (f : ℕ → Interval) : Type 0 where
  pub facts : new.facts ≡ old.facts
  pub sized : Sized n new
  pub bounds : (i : ℕ) → i < n → interval_at new.bounds i ≡ f i
  pub said : new.said ≡ old.said
  pub leaves : Leaves old new

-- what facts say of terms in their types is this
pub record Says (n : ℕ) (old new : Known) (f : ℕ → Bool) : Type 0 where
  pub facts : new.facts ≡ old.facts
  pub sized : Sized n new
  pub bounds : new.bounds ≡ old.bounds
  pub said : (i : ℕ) → i < n → test_at new.said i ≡ f i
  pub leaves : Leaves old new

-- one term has other bounds
abbrev pub set_to : List Interval → TermId → Interval → ℕ → Interval
set_to bounds id x i = if eqb id.0 i then x else interval_at bounds i

-- it is said of one term or not
abbrev pub said_to : List Bool → TermId → Bool → ℕ → Bool
said_to said id b i = if eqb id.0 i then b else test_at said i

-- a node that says nothing of other terms
abbrev pub is_silent : Node → Bool
is_silent (Infix op a b) = false
is_silent (Unary (unary.In id) a) = false
is_silent _ = true

-- a term reads a component of an earlier one, or of none
pub record Reads (trees : List Term) (id whole : TermId) : Type 0 where
  pub before : whole.0 < id.0
  pub typed : (hyps : List Term) → is_typed hyps (tree_at trees id) ≡ (list_any (is_said_in (tree_at trees id)) hyps || is_typed hyps (tree_at trees whole))

pub record ReadsNone (trees : List Term) (id : TermId) : Type 0 where
  pub typed : (hyps : List Term) → is_typed hyps (tree_at trees id) ≡ list_any (is_said_in (tree_at trees id)) hyps

-- what was known under the hypotheses of a fact and its operands
pub record Restores (trees hyps : List Term) (c : Change) : Type 0 where
  pub within : c.fact.0 < length trees
  pub was : c.was ≡ is_among hyps (tree_at trees c.fact)
  pub left : (op : TermOp) (a b : Term) → tree_at trees c.fact ≡ term.Infix op a b → c.left ≡ bounded unbounded hyps a
  pub right : (op : TermOp) (a b : Term) → tree_at trees c.fact ≡ term.Infix op a b → c.right ≡ bounded unbounded hyps b
  pub said : (id : ℕ) (a : Term) → tree_at trees c.fact ≡ term.Unary (unary.In id) a → c.said ≡ list_any (is_said_in a) hyps

-- each of the changes says what was known before its fact
abbrev pub Undoes : List Term → List Term → List Term → List Change → Type 0
Undoes trees before [] [] = Unit {0}
Undoes trees before [] (c ∷ cs) = ⊥
Undoes trees before (h ∷ hs) [] = ⊥
Undoes trees before (h ∷ hs) (c ∷ cs) = Restores trees before c × ((tree_at trees c.fact ≡ h) × Undoes trees (before ++ h ∷ []) hs cs)

-- changes of the first n terms
abbrev pub AreChanges : ℕ → List Change → Type 0
AreChanges n [] = Unit {0}
AreChanges n (c ∷ cs) = (c.fact.0 < n) × AreChanges n cs

-- facts came in, and can be taken back
pub record Assumed (trees before facts : List Term) (k : Known) (cs : List Change) : Type 0 where
  pub knows : Knows trees (before ++ facts) k
  pub undoes : Undoes trees before facts cs

-- the changes lead back to what was known before
pub record LeadsBack (trees before : List Term) (k : Known) (cs : List Change) : Type 0 where
  pub facts : List Term
  pub assumed : Assumed trees before facts k cs

-- intervals have come in
pub record Keeps (n : ℕ) (old new : Known) : Type 0 where
  pub sized : Sized n new
  pub kept : (id : TermId) → IsMade old.made.items id → IsMade new.made.items id
