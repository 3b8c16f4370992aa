-- Lists of occurrences, and what a pass over statements ends with.
use Rattle.std.specs.Prelude.{◌≡◌, ◌↔◌, ℕ, List, length, All, Contains}
use Rattle.spx_text.specs.declared.place.Place.{Place}
use Rattle.spx_core.specs.declared.entity.VarId.{VarId}
use Rattle.spx_core.specs.Effects.{Effect}
use Rattle.spx_core.specs.Flow.{MayFlow}
use Rattle.spx_core.specs.Marks.{Mu, Occurs}
use Rattle.spx_rows.specs.Relations.{Matrix, Has, Holds}
use Rattle.spx_passes.specs.declared.occurrence.Occurrence.{Occurrence}
use Rattle.spx_passes.specs.Positions.{Stands}

-- an occurrence at the place is listed
abbrev pub Lists : List Occurrence → Place → Type 0
Lists list place = (o : Occurrence) × Contains list o × (o.place ≡ place)

-- it is listed with the variable at position w
abbrev pub Relates : List Occurrence → Place → ℕ → Type 0
Relates list place w = (o : Occurrence) × Contains list o × (o.place ≡ place) × Has o.vars w

-- each with a row for so many variables
abbrev pub AreRows : ℕ → List Occurrence → Type 0
AreRows n list = All (λ (o : Occurrence). length o.vars ≡ n) list

-- These lead from the variables before the statements, and from the occurrences in them, to the variables after them.
pub record LeadOn (set : List ℕ) (e : Effect) (flows : Matrix) (marks : List Occurrence) : Type 0 where
  pub size : length flows ≡ length set
  pub rho : (a b : ℕ) (x y : VarId) → Stands set a x → Stands set b y → Holds flows a b ↔ MayFlow e x y
  pub mu_rows : AreRows (length set) marks
  pub mu : (place : Place) (b : ℕ) (y : VarId) → Stands set b y → Relates marks place b ↔ Mu e place y
  pub occurrences : (place : Place) → Lists marks place ↔ Occurs e place
