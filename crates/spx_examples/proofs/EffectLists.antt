-- What may flow and what may be unset, as lists. What may flow is listed where there is no loop, and what may be unset where there is no exit.
use Rattle.std.proofs.Common.{◌≡◌, ◌↔◌, ◌⊎◌, inl, inr, ⊎_elim, Bool, true, false, not, List, [], ◌∷◌, ◌++◌, Some, None, refl, sym, ap, ap₂, subst, ◌∙◌}
use Rattle.std.specs.Prelude.{IsTrue, ◌==◌, ◌||◌, ◌&&◌, Contains}
use Rattle.std.specs.List.{flat_map}
use Rattle.std.specs.Option.{option_to_list}
use Rattle.std.proofs.lemmas.Bool.{or_parts}
use Rattle.std.proofs.lemmas.List.Folds.{list_any-append}
use Rattle.std.proofs.lemmas.Map.Views.{any-filter_same}
use Rattle.spx_text.specs.declared.place.Place.{Place}
use Rattle.spx_core.specs.declared.entity.VarId.{VarId}
use Rattle.spx_core.specs.Formals.{stands_in}
use Rattle.spx_core.specs.Uses.{is_same}
use Rattle.spx_core.specs.Effects.{Effect, Read, nothing, assign, next, choose, observe, repeat, count, endless, exit, sets, is_read, reads_in}
use Rattle.spx_core.specs.Flow.{MayFlow}
use Rattle.spx_core.specs.Marks.{Occurs, marked}
use Rattle.spx_core.specs.Ways.{Ways, Turns, TurnsWithin, no_turn, Exits, Follow, Free, Goes, JustSet, Reaches, forgetting}
use Rattle.spx_examples.proofs.Lists.{same, turned, chain, either, both, flipped, not_is, and_is, or_is, Among, only, those, of_single, of_both, of_only, of_one, of_each, of_those, contains_is, or_none, in_target, same_is, stands_any}

-- ---- loops and exits

-- a loop, or an exit from one
abbrev pub has_loop : Effect → Bool
has_loop nothing = false
has_loop (assign target reads place) = false
has_loop (next a b) = has_loop a || has_loop b
has_loop (choose tests a b place) = has_loop a || has_loop b
has_loop (observe values) = false
has_loop (repeat tests body place) = true
has_loop (count parameter bounds body place) = true
has_loop (endless body) = true
has_loop (exit tests a b place) = true

-- an exit, or a loop that only an exit ends
abbrev pub has_exits : Effect → Bool
has_exits nothing = false
has_exits (assign target reads place) = false
has_exits (next a b) = has_exits a || has_exits b
has_exits (choose tests a b place) = has_exits a || has_exits b
has_exits (observe values) = false
has_exits (repeat tests body place) = has_exits body
has_exits (count parameter bounds body place) = has_exits body
has_exits (endless body) = true
has_exits (exit tests a b place) = true

pub no_exits : (e : Effect) → has_loop e ≡ false → has_exits e ≡ false
no_exits nothing none = refl
no_exits (assign target reads place) none = refl
no_exits (next a b) none = let parts = or_parts (has_loop a) (has_loop b) none in ap₂ ◌||◌ (no_exits a parts.0) (no_exits b parts.1)
no_exits (choose tests a b place) none = let parts = or_parts (has_loop a) (has_loop b) none in ap₂ ◌||◌ (no_exits a parts.0) (no_exits b parts.1)
no_exits (observe values) none = refl
no_exits (repeat tests body place) none = absurd (cc)
no_exits (count parameter bounds body place) none = absurd (cc)
no_exits (endless body) none = absurd (cc)
no_exits (exit tests a b place) none = absurd (cc)

-- nothing leaves
leaves_not : (e : Effect) → has_exits e ≡ false → (way : List VarId) → ¬ Exits e way
leaves_not nothing none way h = h
leaves_not (assign target reads place) none way h = h
leaves_not (next a b) none way (inl first) = leaves_not a (or_parts (has_exits a) (has_exits b) none).0 way first
leaves_not (next a b) none way (inr later) = leaves_not b (or_parts (has_exits a) (has_exits b) none).1 later.1 later.4
leaves_not (choose tests a b place) none way (inl one) = leaves_not a (or_parts (has_exits a) (has_exits b) none).0 way one
leaves_not (choose tests a b place) none way (inr other) = leaves_not b (or_parts (has_exits a) (has_exits b) none).1 way other
leaves_not (observe values) none way h = h
leaves_not (repeat tests body place) none way h = h
leaves_not (count parameter bounds body place) none way h = h
leaves_not (endless body) none way h = h
leaves_not (exit tests a b place) none way h = absurd (cc)

-- a mark makes no loop
pub marked_loops : (at : Place) (m : VarId) (e : Effect) → has_loop (marked at m e) ≡ has_loop e
marked_loops at m nothing = refl
marked_loops at m (assign target reads place) = refl
marked_loops at m (next a b) = ap₂ ◌||◌ (marked_loops at m a) (marked_loops at m b)
marked_loops at m (choose tests a b place) = ap₂ ◌||◌ (marked_loops at m a) (marked_loops at m b)
marked_loops at m (observe values) = refl
marked_loops at m (repeat tests body place) = refl
marked_loops at m (count parameter bounds body place) = refl
marked_loops at m (endless body) = refl
marked_loops at m (exit tests a b place) = refl

-- ---- flow

-- the variables that are read
abbrev vars_of : List Read → List VarId
vars_of reads = flat_map (λ (r : Read). r.1 ∷ []) reads

vars_are : (u : VarId) (reads : List Read) → Among (vars_of reads) u ↔ IsTrue (is_read u reads)
vars_are u reads = turned (stands_any u (λ (r : Read). r.1.0 == u.0) (λ (r : Read). r.1 ∷ []) (λ r. or_none (r.1.0 == u.0)) reads)

-- the variables from which something may flow to w
abbrev pub sources : Effect → VarId → List VarId
sources nothing w = w ∷ []
sources (assign target reads place) w = only (is_same w target) (vars_of reads) ++ only (not (is_same w target)) (w ∷ [])
sources (next a b) w = flat_map (sources a) (sources b w)
sources (choose tests a b place) w = sources a w ++ (sources b w ++ only (sets w a || sets w b) (vars_of tests))
sources (observe values) w = w ∷ []
sources (repeat tests body place) w = []
sources (count parameter bounds body place) w = []
sources (endless body) w = []
sources (exit tests a b place) w = []

-- what is read comes there where a test holds
comes_if : (b : Bool) (reads : List Read) (u : VarId) → Among (only b (vars_of reads)) u ↔ (IsTrue b × IsTrue (is_read u reads))
comes_if b reads u = chain (of_only b (vars_of reads) u) (both same (vars_are u reads))

pub sources_are : (e : Effect) → has_loop e ≡ false → (u w : VarId) → Among (sources e w) u ↔ MayFlow e u w
sources_are nothing none u w = chain (of_single w u) (flipped w u)
sources_are (assign target reads place) none u w =
    let given = is_same w target in
    chain (of_both (only given (vars_of reads)) (only (not given) (w ∷ [])) u)
    (either (comes_if given reads u) (chain (of_one (not given) w u) (both (not_is given) (flipped w u))))
sources_are (next a b) none u w =
    let parts = or_parts (has_loop a) (has_loop b) none in
    chain (of_each (sources a) (sources b w) u) (
      λ h. (h.0, (sources_are a parts.0 u h.0).0 h.2, (sources_are b parts.1 h.0 w).0 h.1),
      λ h. (h.0, (sources_are b parts.1 h.0 w).1 h.2, (sources_are a parts.0 u h.0).1 h.1),
    )
sources_are (choose tests a b place) none u w =
    let parts = or_parts (has_loop a) (has_loop b) none in
    let chosen = only (sets w a || sets w b) (vars_of tests) in
    chain (of_both (sources a w) (sources b w ++ chosen) u)
    (either (sources_are a parts.0 u w) (chain (of_both (sources b w) chosen u) (either (sources_are b parts.1 u w) (comes_if (sets w a || sets w b) tests u))))
sources_are (observe values) none u w = chain (of_single w u) (flipped w u)
sources_are (repeat tests body place) none u w = absurd (cc)
sources_are (count parameter bounds body place) none u w = absurd (cc)
sources_are (endless body) none u w = absurd (cc)
sources_are (exit tests a b place) none u w = absurd (cc)

-- ---- occurrences

-- the places of the occurrences
abbrev pub occurrences : Effect → List Place
occurrences nothing = []
occurrences (assign (Some target) reads place) = place ∷ []
occurrences (assign None reads place) = []
occurrences (next a b) = occurrences a ++ occurrences b
occurrences (choose tests a b place) = place ∷ (occurrences a ++ occurrences b)
occurrences (observe values) = []
occurrences (repeat tests body place) = place ∷ occurrences body
occurrences (count parameter None body place) = occurrences body
occurrences (count parameter (Some bounds) body place) = place ∷ occurrences body
occurrences (endless body) = occurrences body
occurrences (exit tests a b place) = place ∷ (occurrences a ++ occurrences b)

pub occurrences_are : (e : Effect) (at : Place) → Among (occurrences e) at ↔ Occurs e at
occurrences_are nothing at = same
occurrences_are (assign (Some target) reads place) at = chain (of_single place at) (λ e. (refl, e), λ h. h.1)
occurrences_are (assign None reads place) at = (λ h. absurd h, λ h. absurd (let e = h.0 in cc))
occurrences_are (next a b) at = chain (of_both (occurrences a) (occurrences b) at) (either (occurrences_are a at) (occurrences_are b at))
occurrences_are (choose tests a b place) at = either same (chain (of_both (occurrences a) (occurrences b) at) (either (occurrences_are a at) (occurrences_are b at)))
occurrences_are (observe values) at = same
occurrences_are (repeat tests body place) at = either same (occurrences_are body at)
occurrences_are (count parameter None body place) at = (λ h. inr ((occurrences_are body at).0 h), λ h. ⊎_elim (λ none. absurd (let e = none.0 in cc)) (λ inner. (occurrences_are body at).1 inner) h)
occurrences_are (count parameter (Some bounds) body place) at = either (λ e. (refl, e), λ h. h.1) (occurrences_are body at)
occurrences_are (endless body) at = occurrences_are body at
occurrences_are (exit tests a b place) at = either same (chain (of_both (occurrences a) (occurrences b) at) (either (occurrences_are a at) (occurrences_are b at)))

-- ---- ways that do not set v

-- one way or the other
free_either : (A B : Ways) (v : VarId) → Free (λ way. A way ⊎ B way) v ↔ (Free A v ⊎ Free B v)
free_either A B v = (
  λ h. ⊎_elim (λ one. inl (h.0, one, h.2)) (λ two. inr (h.0, two, h.2)) h.1,
  λ h. ⊎_elim (λ one. (one.0, inl one.1, one.2)) (λ two. (two.0, inr two.1, two.2)) h,
)

-- one way after the other
free_follow : (A B : Ways) (v : VarId) → Free (Follow A B) v ↔ (Free A v × Free B v)
free_follow A B v =
    let stands_in_both = λ (front back : List VarId). list_any-append (λ (w : VarId). w.0 == v.0) front back in (
      λ h.
          let way = h.1 in
          let parts = or_parts (stands_in v way.0) (stands_in v way.1) (sym (stands_in_both way.0 way.1) ∙ subst (λ w. stands_in v w ≡ false) way.2 h.2) in
          ((way.0, way.3, parts.0), (way.1, way.4, parts.1)),
      λ h. (h.0.0 ++ h.1.0, (h.0.0, h.1.0, refl, h.0.1, h.1.1), stands_in_both h.0.0 h.1.0 ∙ ap₂ ◌||◌ h.0.2 h.1.2),
    )

-- a read at the start
free_now : (reads : List Read) (at : Place) (v : VarId) → Among reads (at, v) ↔ Free (Reaches (assign None reads at) at v) v
free_now reads at v = (λ h. ([], ((contains_is reads (at, v)).1 h, refl), refl), λ h. (contains_is reads (at, v)).0 h.1.0)

-- every effect without exits has a way
some_way : (e : Effect) → has_exits e ≡ false → (way : List VarId) × Goes e way
some_way nothing none = ([], refl)
some_way (assign target reads place) none = (option_to_list target, refl)
some_way (next a b) none =
    let parts = or_parts (has_exits a) (has_exits b) none in
    let first = some_way a parts.0 in
    let second = some_way b parts.1 in
    (first.0 ++ second.0, (first.0, second.0, refl, first.1, second.1))
some_way (choose tests a b place) none = let first = some_way a (or_parts (has_exits a) (has_exits b) none).0 in (first.0, inl first.1)
some_way (observe values) none = ([], refl)
some_way (repeat tests body place) none = ([], inl no_turn)
some_way (count parameter (Some bounds) body place) none = ([], ([], inl no_turn, refl))
some_way (count parameter None body place) none = let turn = some_way body none in (forgetting parameter (turn.0 ++ []), (turn.0 ++ [], inl (turn.0, [], refl, turn.1, no_turn), refl))
some_way (endless body) none = absurd (cc)
some_way (exit tests a b place) none = absurd (cc)

-- a test that counts only where another one fails
unless : (a b : Bool) → ((not a && b) ≡ false) ↔ (IsTrue a ⊎ (b ≡ false))
unless true b = (λ h. inl refl, λ h. refl)
unless false b = (λ h. inr h, λ h. ⊎_elim (λ e. absurd (cc)) (λ none. none) h)

-- a loop leaves v unset where v is its parameter, or its turns do not set it
free_forgetting : (A : Ways) (parameter v : VarId)
    → Free (λ way. (inside : List VarId) × A inside × (way ≡ forgetting parameter inside)) v ↔ ((inside : List VarId) × A inside × (IsTrue (is_same v (Some parameter)) ⊎ (stands_in v inside ≡ false)))
free_forgetting A parameter v =
    let same = is_same v (Some parameter) in
    let kept = λ (inside : List VarId).
    any-filter_same (λ (w : VarId). w.0 == v.0) (λ w. not (is_same w (Some parameter))) (not same) (λ w is. ap (λ (x : VarId). not (is_same x (Some parameter))) ((same_is w v).0 is)) inside in (
      λ h. let way = h.1 in (way.0, way.1, (unless same (stands_in v way.0)).0 (sym (kept way.0) ∙ subst (λ w. stands_in v w ≡ false) way.2 h.2)),
      λ h. (forgetting parameter h.0, (h.0, h.1, refl), kept h.0 ∙ (unless same (stands_in v h.0)).1 h.2),
    )

-- some way does not set v, where there is no exit
abbrev pub skips : VarId → Effect → Bool
skips v nothing = true
skips v (assign target reads place) = not (is_same v target)
skips v (next a b) = skips v a && skips v b
skips v (choose tests a b place) = skips v a || skips v b
skips v (observe values) = true
skips v (repeat tests body place) = true
skips v (count parameter (Some bounds) body place) = true
skips v (count parameter None body place) = is_same v (Some parameter) || skips v body
skips v (endless body) = false
skips v (exit tests a b place) = skips v b

pub skips_is : (v : VarId) (e : Effect) → has_exits e ≡ false → IsTrue (skips v e) ↔ Free (Goes e) v
skips_is v nothing none = (λ h. ([], refl, refl), λ h. refl)
skips_is v (assign target reads place) none = chain (not_is (is_same v target)) (
  λ h. (option_to_list target, refl, in_target v target ∙ h),
  λ h. sym (in_target v target) ∙ subst (λ way. stands_in v way ≡ false) h.1 h.2,
)
skips_is v (next a b) none =
    let parts = or_parts (has_exits a) (has_exits b) none in
    chain (and_is (skips v a) (skips v b)) (chain (both (skips_is v a parts.0) (skips_is v b parts.1)) (turned (free_follow (Goes a) (Goes b) v)))
skips_is v (choose tests a b place) none =
    let parts = or_parts (has_exits a) (has_exits b) none in
    chain (or_is (skips v a) (skips v b)) (chain (either (skips_is v a parts.0) (skips_is v b parts.1)) (turned (free_either (Goes a) (Goes b) v)))
skips_is v (observe values) none = (λ h. ([], refl, refl), λ h. refl)
skips_is v (repeat tests body place) none = (λ h. ([], inl no_turn, refl), λ h. refl)
skips_is v (count parameter (Some bounds) body place) none = (λ h. ([], ([], inl no_turn, refl), refl), λ h. refl)
skips_is v (count parameter None body place) none =
    let turn = some_way body none in
    let inner = skips_is v body none in
    let once : Ways = TurnsWithin None (Goes body) in
    let turns : Ways = λ inside. once inside ⊎ Follow (Turns (Goes body)) (Exits body) inside in
    let by_turns : (inside : List VarId) → turns inside → once inside = λ inside h. ⊎_elim (λ one. one) (λ left. absurd (leaves_not body none left.1 left.4)) h in
    let loop : (IsTrue (is_same v (Some parameter)) ⊎ Free (Goes body) v) ↔ ((inside : List VarId) × turns inside × (IsTrue (is_same v (Some parameter)) ⊎ (stands_in v inside ≡ false))) = (
      λ h. ⊎_elim (λ same. (turn.0 ++ [], inl (turn.0, [], refl, turn.1, no_turn), inl same)) (λ one. let free = (free_follow (Goes body) (Turns (Goes body)) v).1 (one, ([], no_turn, refl)) in (free.0, inl free.1, inr free.2)) h,
      λ h. ⊎_elim (λ same. inl same) (λ unset. inr ((free_follow (Goes body) (Turns (Goes body)) v).0 (h.0, by_turns h.0 h.1, unset)).0) h.2,
    ) in
    chain (or_is (is_same v (Some parameter)) (skips v body)) (chain (either same inner) (chain loop (turned (free_forgetting turns parameter v))))
skips_is v (endless body) none = absurd (cc)
skips_is v (exit tests a b place) none = absurd (cc)

-- the reads to which some way leads that does not set what is read
abbrev pub first_reads : Effect → List Read
first_reads nothing = []
first_reads (assign target reads place) = reads
first_reads (next a b) = first_reads a ++ those (λ (r : Read). skips r.1 a) (first_reads b)
first_reads (choose tests a b place) = tests ++ (first_reads a ++ first_reads b)
first_reads (observe values) = values
first_reads (repeat tests body place) = tests ++ first_reads body
first_reads (count parameter bounds body place) = reads_in bounds ++ those (λ (r : Read). not (is_same r.1 (Some parameter))) (first_reads body)
first_reads (endless body) = first_reads body
first_reads (exit tests a b place) = tests ++ (first_reads a ++ first_reads b)

pub first_reads_are : (e : Effect) → has_exits e ≡ false → (at : Place) (v : VarId) → Among (first_reads e) (at, v) ↔ Free (Reaches e at v) v
first_reads_are nothing none at v = (λ h. absurd h, λ h. absurd h.1)
first_reads_are (assign target reads place) none at v = free_now reads at v
first_reads_are (next a b) none at v =
    let parts = or_parts (has_exits a) (has_exits b) none in
    let test = λ (r : Read). skips r.1 a in
    let later = chain (of_those test (first_reads b) (at, v)) (chain (both (skips_is v a parts.0) (first_reads_are b parts.1 at v)) (turned (free_follow (Goes a) (Reaches b at v) v))) in
    chain (of_both (first_reads a) (those test (first_reads b)) (at, v))
    (chain (either (first_reads_are a parts.0 at v) later) (turned (free_either (Reaches a at v) (Follow (Goes a) (Reaches b at v)) v)))
first_reads_are (choose tests a b place) none at v =
    let parts = or_parts (has_exits a) (has_exits b) none in
    let arms = chain (of_both (first_reads a) (first_reads b) (at, v)) (chain (either (first_reads_are a parts.0 at v) (first_reads_are b parts.1 at v)) (turned (free_either (Reaches a at v) (Reaches b at v) v))) in
    chain (of_both tests (first_reads a ++ first_reads b) (at, v))
    (chain (either (free_now tests at v) arms) (turned (free_either (Reaches (assign None tests at) at v) (λ way. Reaches a at v way ⊎ Reaches b at v way) v)))
first_reads_are (observe values) none at v = free_now values at v
first_reads_are (repeat tests body place) none at v =
    let now : Among tests (at, v) ↔ Free (λ way. Contains tests (at, v) × Turns (Goes body) way) v =
    (λ h. ([], ((contains_is tests (at, v)).1 h, no_turn), refl), λ h. (contains_is tests (at, v)).0 h.1.0) in
    let later = chain (λ h. (([], no_turn, refl), (first_reads_are body none at v).0 h), λ h. (first_reads_are body none at v).1 h.1) (turned (free_follow (Turns (Goes body)) (Reaches body at v) v)) in
    chain (of_both tests (first_reads body) (at, v))
    (chain (either now later) (turned (free_either (λ way. Contains tests (at, v) × Turns (Goes body) way) (Follow (Turns (Goes body)) (Reaches body at v)) v)))
first_reads_are (count parameter bounds body place) none at v =
    let test = λ (r : Read). not (is_same r.1 (Some parameter)) in
    let around = Follow (Turns (Goes body)) (Reaches body at v) in
    let set : IsTrue (not (is_same v (Some parameter))) ↔ Free (JustSet parameter) v = chain (not_is (is_same v (Some parameter))) (
      λ h. (parameter ∷ [], refl, in_target v (Some parameter) ∙ h),
      λ h. sym (in_target v (Some parameter)) ∙ subst (λ way. stands_in v way ≡ false) h.1 h.2,
    ) in
    let turns = chain (λ h. (([], no_turn, refl), (first_reads_are body none at v).0 h), λ h. (first_reads_are body none at v).1 h.1) (turned (free_follow (Turns (Goes body)) (Reaches body at v) v)) in
    let inner = chain (of_those test (first_reads body) (at, v)) (chain (both set turns) (turned (free_follow (JustSet parameter) around v))) in
    chain (of_both (reads_in bounds) (those test (first_reads body)) (at, v))
    (chain (either (free_now (reads_in bounds) at v) inner) (turned (free_either (Reaches (assign None (reads_in bounds) at) at v) (Follow (JustSet parameter) around) v)))
first_reads_are (endless body) none at v = absurd (cc)
first_reads_are (exit tests a b place) none at v = absurd (cc)
