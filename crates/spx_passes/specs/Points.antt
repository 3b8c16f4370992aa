-- The points between which values flow, and matrices over their positions.
use Rattle.std.specs.Prelude.{⊤, ◌≡◌, ◌↔◌, ℕ, ◌+◌, Bool, true, false, if◌then◌else◌, IsTrue, List, Some, length, Contains}
use Rattle.spx_text.specs.declared.place.Place.{Place}
use Rattle.spx_core.specs.declared.entity.VarId.{VarId}
use Rattle.spx_core.specs.Uses.{is_same}
use Rattle.spx_core.specs.Effects.{Effect}
use Rattle.spx_core.specs.Flow.{MayFlow, Leaves, ExitTests, Keeping}
use Rattle.spx_core.specs.Marks.{Lambda, Mu, MuLeaves, MuTests}
use Rattle.spx_rows.specs.Relations.{Matrix, Holds}
use Rattle.spx_passes.specs.declared.frame.Frame.{Frame}
use Rattle.spx_passes.specs.Positions.{Stands}

pub data Point : Type 0 where
  -- a variable before or after statements
  At : VarId → Point
  -- a variable where the loop around them is left
  Leaving : VarId → Point
  -- the condition of an exit from that loop
  Testing : Point

-- ---- positions

-- how many points there are
abbrev pub size_of : Frame → ℕ
size_of frame = if frame.has_exits then (length frame.vars + length frame.vars) + 1 else length frame.vars

-- the point at a position, from 0; where there are no exits, only variables are points
abbrev pub StandsAt : Frame → ℕ → Point → Type 0
StandsAt frame k (At v) = Stands frame.vars k v
StandsAt frame k (Leaving v) = IsTrue frame.has_exits × (j : ℕ) × Stands frame.vars j v × (k ≡ length frame.vars + j)
StandsAt frame k Testing = IsTrue frame.has_exits × (k ≡ length frame.vars + length frame.vars)

-- these are the positions of the points of f
abbrev pub Places : Frame → List ℕ → (Point → Bool) → Type 0
Places frame list f = (k : ℕ) (x : Point) → StandsAt frame k x → Contains list k ↔ IsTrue (f x)

-- R leads to a point whose row has b
abbrev pub Leads : Frame → (Point → Type 0) → Matrix → ℕ → Type 0
Leads frame R m b = (c : ℕ) × (z : Point) × StandsAt frame c z × R z × Holds m c b

-- in the row of each point the matrix shows those to which R leads
abbrev pub Shows : Frame → (Point → Point → Type 0) → Matrix → Type 0
Shows frame R m = (a b : ℕ) (x : Point) → StandsAt frame a x → Holds m a b ↔ ((z : Point) × StandsAt frame b z × R x z)

-- the row of each point has become the union of those to which R leads
abbrev pub Takes : Frame → (Point → Point → Type 0) → Matrix → Matrix → Type 0
Takes frame R old new = (a b : ℕ) (x : Point) → StandsAt frame a x → Holds new a b ↔ Leads frame (R x) old b

-- ---- flow

-- only variables are such points
abbrev pub on_variables : (VarId → Bool) → Point → Bool
on_variables f (At v) = f v
on_variables f (Leaving v) = false
on_variables f Testing = false

-- what leads from the variables before statements to those after them, to those where the loop around them is left, and to conditions of exits; what is
-- left or tested has stayed so
abbrev pub Between : (R L : VarId → VarId → Type 0) → (T : VarId → Type 0) → Point → Point → Type 0
Between R L T (At u) (At w) = R u w
Between R L T (At u) (Leaving w) = L u w
Between R L T (At u) Testing = T u
Between R L T (Leaving u) z = Leaving u ≡ z
Between R L T Testing z = Testing ≡ z

abbrev pub FlowTo : Effect → Point → Point → Type 0
FlowTo e x z = Between (MayFlow e) (Leaves e) (ExitTests e) x z

-- a turn of a loop at which its parameter keeps the sources of its own value
abbrev pub KeptTo : VarId → Effect → Point → Point → Type 0
KeptTo parameter e x z = Between (Keeping parameter (MayFlow e)) (Leaves e) (ExitTests e) x z

-- what an occurrence reads may come to the point
abbrev pub MarkTo : Effect → Place → Point → Type 0
MarkTo e p (At w) = Mu e p w
MarkTo e p (Leaving w) = MuLeaves e p w
MarkTo e p Testing = MuTests e p

-- what is at the point may come to what an occurrence reads
abbrev pub ComesTo : Effect → Point → Place → Type 0
ComesTo e (At u) p = Lambda e u p
ComesTo e (Leaving u) p = ⊥
ComesTo e Testing p = ⊥

-- ---- exits

-- an arm goes on from its end, or it ends where the loop is left
abbrev pub Ends : Bool → Point → Point → Type 0
Ends false x z = x ≡ z
Ends true (At v) z = Leaving v ≡ z
Ends true (Leaving v) z = ⊥
Ends true Testing z = ⊥

abbrev pub is_testing : Point → Bool
is_testing (At v) = false
is_testing (Leaving v) = false
is_testing Testing = true

-- what the condition of an arm comes to: the variables that are set, or, at an exit, the condition of one
abbrev pub reached : Bool → (VarId → Bool) → Point → Bool
reached false set z = on_variables set z
reached true set z = is_testing z

-- some number of turns
pub data Rounds (R : Point → Point → Type 0) : Point → Point → Type 0 where
  halt : {x : Point} → Rounds R x x
  round : {x y z : Point} → R x y → Rounds R y z → Rounds R x z

-- A loop is left at its head or end, if it stays there at all, and at its exits, if there are some. What conditions of exits read comes to all that is set.
abbrev pub Out : (has_exits stays : Bool) → (VarId → Bool) → Point → Point → Type 0
Out has_exits stays set (At v) (At w) = IsTrue stays × (v ≡ w)
Out has_exits stays set (Leaving v) (At w) = IsTrue has_exits × (v ≡ w)
Out has_exits stays set Testing (At w) = IsTrue has_exits × IsTrue (set w)
Out has_exits stays set (At v) (Leaving w) = ⊥
Out has_exits stays set (Leaving v) (Leaving w) = ⊥
Out has_exits stays set Testing (Leaving w) = ⊥
Out has_exits stays set (At v) Testing = ⊥
Out has_exits stays set (Leaving v) Testing = ⊥
Out has_exits stays set Testing Testing = ⊥

abbrev pub IsVariable : Point → Type 0
IsVariable (At v) = ⊤
IsVariable (Leaving v) = ⊥
IsVariable Testing = ⊥

-- past a loop a variable comes from what leads to it, or leads to what it leads to; the other points are again those of the loop around
abbrev pub Past : (Point → Point → Type 0) → Point → Point → Type 0
Past R (At v) z = R (At v) z
Past R (Leaving v) z = Leaving v ≡ z
Past R Testing z = Testing ≡ z

-- the point is not this variable
abbrev pub Other : VarId → Point → Type 0
Other v x = on_variables (λ w. is_same w (Some v)) x ≡ false
