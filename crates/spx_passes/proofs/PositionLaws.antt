-- Variables by their position in a set.
use Rattle.std.proofs.Common.{◌≡◌, ◌↔◌, ℕ, ◌<◌, true, ◌||◌, cond, ltb, eqb, List, [], ◌∷◌, ◌++◌, ◌+◌, take, length, get_or, Option, Some, None, refl, sym, ap, ap₂, ◌∙◌, subst, inl, inr, arith}
use Rattle.std.specs.Prelude.{◌==◌, Contains, All}
use Rattle.std.specs.List.{IsDistinct, cons_option, list_any, position_or_len}
use Rattle.std.proofs.lemmas.Bool.{both_ways, cases_Bool, eq-eqb, eqb-true, lt-ltb, ne_eqb}
use Rattle.std.proofs.lemmas.List.{take_more}
use Rattle.std.proofs.lemmas.Option.{get_or_from_slice_get, slice_get-get_or, slice_get_within}
use Rattle.std.proofs.lemmas.List.Elements.{All-cons, All-nil, filter_map-append}
use Rattle.std.proofs.lemmas.List.Quantifiers.{position-Some}
use Rattle.std.proofs.lemmas.List.Sums.{position_or_len_is}
use Rattle.std.proofs.lemmas.Map.Keys.{apart_from_distinct}
use Rattle.spx_core.specs.declared.entity.VarId.{VarId}
use Rattle.spx_core.specs.Effects.{Effect, Read, is_read, sets}
use Rattle.spx_core.specs.Mirror.VarSets.{holds, place_in_set}
use Rattle.spx_passes.specs.declared.frame.Frame.{Frame}
use Rattle.spx_passes.specs.Positions.{Covers, Stands, positions_at}
use Rattle.spx_passes.specs.Targets.{positions_in}
use Rattle.spx_core.proofs.Callers.ListTests.{found, passes}
use Rattle.spx_core.proofs.Callers.Variables.{same_var}

-- ---- positions and variables

-- at a position stands one variable
pub one_var : (set : List ℕ) (k : ℕ) (v w : VarId) → Stands set k v → Stands set k w → v ≡ w
one_var set k v w a b = same_var v w (sym (get_or_from_slice_get set k v.0 0 a) ∙ get_or_from_slice_get set k w.0 0 b)

-- at each position stands a variable
pub stands_within : (set : List ℕ) (k : ℕ) → k < length set → (v : VarId) × Stands set k v
stands_within set k less = (record { 0 = get_or set k 0 }, slice_get-get_or set k 0 less)

-- a variable of a set stands where its position says
pub place_stands : (set : List ℕ) (v : VarId) (k : ℕ) → place_in_set set v ≡ Some k → Stands set k v
place_stands set v k is =
    let at = position-Some (λ n. v.0 == n) set k 0 is in
    slice_get-get_or set k 0 at.0 ∙ ap Some (sym (eqb-true v.0 (get_or set k 0) at.1))

pub place_within : (set : List ℕ) (v : VarId) (k : ℕ) → place_in_set set v ≡ Some k → k < length set
place_within set v k is = slice_get_within set k v.0 (place_stands set v k is)

-- and nowhere else, where the elements differ
pub place_of_standing : (set : List ℕ) (v : VarId) (k : ℕ) → IsDistinct ◌==◌ set → Stands set k v → place_in_set set v ≡ Some k
place_of_standing set v k once stands =
    let less = slice_get_within set k v.0 stands in
    let at : get_or set k 0 ≡ v.0 = get_or_from_slice_get set k v.0 0 stands in
    let first : position_or_len (λ n. v.0 == n) set ≡ k =
    position_or_len_is (λ n. v.0 == n) set k 0 (omega (arith, less))
    (λ j before. ne_eqb v.0 (get_or set j 0)
    (λ e. both_ways (eqb (get_or set j 0) (get_or set k 0)) (apart_from_distinct ◌==◌ set j k 0 once before less) (eq-eqb (get_or set j 0) (get_or set k 0) (sym e ∙ sym at))))
    (λ inside. eq-eqb v.0 (get_or set k 0) (sym at)) in
    ap (λ n. cond (ltb n (length set)) (Some n) None) first ∙ ap (λ b. cond b (Some k) None) (lt-ltb k (length set) less)

-- ---- the positions of names

pub turned : (a b : ℕ) → (a == b) ≡ (b == a)
turned a b =
    elim (cases_Bool (a == b)) [
      | inl same ↦ same ∙ sym (eq-eqb b a (sym (eqb-true a b same)))
      | inr differ ↦ differ ∙ sym (ne_eqb b a (λ e. both_ways (a == b) differ (eq-eqb a b (sym e))))
    ]

some_is : {j k : ℕ} → Some j ≡ Some k → j ≡ k
some_is e = cc

pub not_both : (o : Option ℕ) (k : ℕ) → o ≡ None → o ≡ Some k → ⊥
not_both o k none some = absurd cc

module _ (set : List ℕ) (once : IsDistinct ◌==◌ set) (k : ℕ) (v : VarId) (stands : Stands set k v) where
  -- a variable at another position is another one
  same_at : (w : VarId) (j : ℕ) → place_in_set set w ≡ Some j → (j == k) ≡ (w.0 == v.0)
  same_at w j is =
      elim (cases_Bool (j == k)) [
        | inl same ↦ same ∙ sym (eq-eqb w.0 v.0 (ap (λ (x : VarId). x.0) (one_var set k w v (subst (λ i. Stands set i w) (eqb-true j k same) (place_stands set w j is)) stands)))
        | inr differ ↦ differ ∙ sym (ne_eqb w.0 v.0 (λ e.
            both_ways (j == k) differ (eq-eqb j k (some_is (sym is ∙ ap (place_in_set set) (same_var w v e) ∙ place_of_standing set v k once stands)))))
      ]

  is_place : (w : VarId) (o : Option ℕ) → place_in_set set w ≡ o → (rest : List ℕ) → list_any (λ j. j == k) (cons_option o rest) ≡ ((w.0 == v.0) || list_any (λ j. j == k) rest)
  is_place w (Some j) is rest = ap (λ b. b || list_any (λ j. j == k) rest) (same_at w j is)
  is_place w None is rest =
      ap (λ b. b || list_any (λ j. j == k) rest)
      (sym (ne_eqb w.0 v.0 (λ e. not_both (place_in_set set w) k is (ap (place_in_set set) (same_var w v e) ∙ place_of_standing set v k once stands))))

  named : (reads : List Read) → list_any (λ j. j == k) (positions_at set reads) ≡ is_read v reads
  named [] = refl
  named (r ∷ reads) = is_place r.1 (place_in_set set r.1) refl (positions_at set reads) ∙ ap (λ b. (r.1.0 == v.0) || b) (named reads)

  pub read_at : (reads : List Read) → Contains (positions_at set reads) k ↔ (is_read v reads ≡ true)
  read_at reads = (
    λ c. sym (named reads) ∙ passes (λ j. j == k) (positions_at set reads) k c (eq-eqb k k refl),
    λ h. let one = found (λ j. j == k) (positions_at set reads) (named reads ∙ h) in subst (Contains (positions_at set reads)) (eqb-true one.0 k one.2) one.1,
  )

  -- the variables with these numbers
  numbered : (numbers : List ℕ) → list_any (λ j. j == k) (positions_in set numbers) ≡ holds numbers v
  numbered [] = refl
  numbered (n ∷ numbers) =
      let w : VarId = record { 0 = n } in
      is_place w (place_in_set set w) refl (positions_in set numbers) ∙ ap₂ ◌||◌ (turned n v.0) (numbered numbers)

  pub numbers_at : (numbers : List ℕ) → Contains (positions_in set numbers) k ↔ (holds numbers v ≡ true)
  numbers_at numbers = (
    λ c. sym (numbered numbers) ∙ passes (λ j. j == k) (positions_in set numbers) k c (eq-eqb k k refl),
    λ h. let one = found (λ j. j == k) (positions_in set numbers) (numbered numbers ∙ h) in subst (Contains (positions_in set numbers)) (eqb-true one.0 k one.2) one.1,
  )

-- ---- they are within the set

within_first : (set : List ℕ) (w : VarId) (rest : List ℕ) → All (λ k. k < length set) rest → All (λ k. k < length set) (cons_option (place_in_set set w) rest)
within_first set w rest all = within_place (place_in_set set w) refl
  where
    within_place : (o : Option ℕ) → place_in_set set w ≡ o → All (λ k. k < length set) (cons_option o rest)
    within_place (Some k) is = All-cons (λ k. k < length set) k rest (place_within set w k is) all
    within_place None is = all

pub read_within : (set : List ℕ) (reads : List Read) → All (λ k. k < length set) (positions_at set reads)
read_within set [] = All-nil (λ k. k < length set)
read_within set (r ∷ reads) = within_first set r.1 (positions_at set reads) (read_within set reads)

pub reads_more : (set : List ℕ) (reads : List Read) (i : ℕ) (r : Read) → i < length reads → positions_at set (take (i + 1) reads) ≡ positions_at set (take i reads) ++ cons_option (place_in_set set (get_or reads i r).1) []
reads_more set reads i r less = ap (positions_at set) (take_more reads i r less) ∙ filter_map-append _ (take i reads) (get_or reads i r ∷ [])

pub reads_both : (set : List ℕ) (reads more : List Read) → positions_at set (reads ++ more) ≡ positions_at set reads ++ positions_at set more
reads_both set reads more = filter_map-append _ reads more

pub numbers_within : (set : List ℕ) (numbers : List ℕ) → All (λ k. k < length set) (positions_in set numbers)
numbers_within set [] = All-nil (λ k. k < length set)
numbers_within set (n ∷ numbers) = within_first set (record { 0 = n }) (positions_in set numbers) (numbers_within set numbers)

pub positions_more : (set numbers : List ℕ) (i : ℕ) → i < length numbers → positions_in set (take (i + 1) numbers) ≡ positions_in set (take i numbers) ++ positions_in set (get_or numbers i 0 ∷ [])
positions_more set numbers i less = ap (positions_in set) (take_more numbers i 0 less) ∙ filter_map-append _ (take i numbers) (get_or numbers i 0 ∷ [])

-- ---- sets that cover statements

-- a variable stands at one position
pub one_place : (set : List ℕ) (j k : ℕ) (v : VarId) → IsDistinct ◌==◌ set → Stands set j v → Stands set k v → j ≡ k
one_place set j k v once a b = some_is (sym (place_of_standing set v j once a) ∙ place_of_standing set v k once b)

-- a variable that is held stands somewhere
pub held_stands : (set : List ℕ) (v : VarId) → holds set v ≡ true → (k : ℕ) × Stands set k v
held_stands set v is =
    let one = found (λ n. v.0 == n) set is in
    (one.1.0, slice_get-get_or set one.1.0 one.0 one.1.1 ∙ ap Some (one.1.2 ∙ sym (eqb-true v.0 one.0 one.2)))

-- a variable that is set has a position
pub target_placed : (frame : Frame) (e : Effect) (v : VarId) → Covers frame e → sets v e ≡ true → place_in_set frame.vars v ≡ None → ⊥
target_placed frame e v covers is none =
    let held = held_stands frame.vars v (covers.targets v is) in
    not_both (place_in_set frame.vars v) held.0 none (place_of_standing frame.vars v held.0 covers.once held.1)
