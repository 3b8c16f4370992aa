-- Which intervals are made, and where they stand.
use Rattle.std.proofs.Common.{◌≡◌, ℕ, ◌+◌, ◌<◌, Bool, true, false, cond, List, [], ◌∷◌, ◌++◌, length, refl, sym, ap, ◌∙◌, arith, eqb, slice_set, length-append, Decides}
use Rattle.std.proofs.lemmas.Bool.Decides.{Decides-eqb}
use Rattle.std.proofs.Math.ListN.{get_or-append}
use Rattle.std.proofs.Math.Seq.{get_or-append_seam}
use Rattle.spx_term.specs.declared.interval.Interval.{Interval}
use Rattle.spx_term.specs.Intervals.{unbounded, meet}
use Rattle.spx_arena.specs.declared.terms.TermId.{TermId}
use Rattle.spx_arena.specs.declared.terms.Node.{Node}
use Rattle.spx_arena.specs.declared.terms.Node.TheVariants as node
use Rattle.spx_simplify.specs.declared.known.Known.{Known}
use Rattle.spx_simplify.specs.declared.known.Made.{Made}
use Rattle.spx_simplify.specs.Folds.{place_of}
use Rattle.spx_simplify.specs.Tables.{interval_at, test_at, made_at, Stands, IsMade, Gives, Ready, Leaves, Sets, set_to, Keeps}
use Rattle.spx_simplify.proofs.Meets.{meet_unbounded}

pub gives_made : {made : List Made} {id : TermId} {x : Interval} → Gives made id x → IsMade made id
gives_made g = record { at = g.at; before = g.before; term = g.term }

-- ---- other lists of intervals
pub stands_along : (a b : List Made) (m : ℕ) (id : TermId) → ((i : ℕ) → i < m → made_at b i ≡ made_at a i) → Stands a m id → Stands b m id
stands_along a b m id same s = record { at = s.at; before = s.before; term = ap (λ (x : Made). x.id) (same s.at s.before) ∙ s.term }

pub ready_along : (a b : List Made) (m : ℕ) → ((i : ℕ) → i < m → made_at b i ≡ made_at a i) → (n : Node) → Ready a m n → Ready b m n
ready_along a b m same (node.Number v) r = tt
ready_along a b m same (node.Truth v) r = tt
ready_along a b m same (node.Variable x) r = tt
ready_along a b m same (node.Prefix op x) r = stands_along a b m x same r
ready_along a b m same (node.Infix op x y) r = (stands_along a b m x same r.0, stands_along a b m y same r.1)
ready_along a b m same (node.Blank id) r = tt
ready_along a b m same (node.Unary op x) r = stands_along a b m x same r
ready_along a b m same (node.Binary op x y) r = stands_along a b m x same r
ready_along a b m same (node.Ternary op x y z) r = tt

-- ---- other bounds
pub set_met : (xs : List Interval) (id : TermId) (x : Interval) (i : ℕ) → set_to xs id (meet (interval_at xs id.0) x) i ≡ meet (interval_at xs i) (cond (eqb id.0 i) x unbounded)
set_met xs id x i = by (eqb id.0 i) (Decides-eqb id.0 i)
  where
    by : (b : Bool) → Decides b (id.0 ≡ i) → cond b (meet (interval_at xs id.0) x) (interval_at xs i) ≡ meet (interval_at xs i) (cond b x unbounded)
    by true d = ap (λ j. meet (interval_at xs j) x) (d.0 refl)
    by false d = sym (meet_unbounded (interval_at xs i))

pub leaves_same : (old new : Known) → new.bounds ≡ old.bounds → new.said ≡ old.said → new.made.items ≡ old.made.items → Leaves old new
leaves_same old new bounds said items = record {
  fewer = omega (arith, ap length items);
  same = λ j w. ap (λ ms. made_at ms j) items;
  bounds = λ j w. ap (λ bs. interval_at bs (made_at new.made.items j).id.0) bounds;
  said = λ j w. ap (λ bs. test_at bs (made_at new.made.items j).id.0) said;
}

pub leaves_twice : {a b c : Known} → Leaves a b → Leaves b c → Leaves a c
leaves_twice {a} {b} {c} f g = record {
  fewer = omega (arith, f.fewer, g.fewer);
  same = λ j w. let v : j < length b.made.items = omega (arith, g.fewer) in g.same j w ∙ f.same j v;
  bounds = λ j w.
      let v : j < length b.made.items = omega (arith, g.fewer) in
      g.bounds j w
      ∙ ap (λ (x : Made). interval_at b.bounds x.id.0) (g.same j w)
      ∙ f.bounds j v
      ∙ ap (λ (x : Made). interval_at a.bounds x.id.0) (sym (g.same j w));
  said = λ j w.
      let v : j < length b.made.items = omega (arith, g.fewer) in
      g.said j w
      ∙ ap (λ (x : Made). test_at b.said x.id.0) (g.same j w)
      ∙ f.said j v
      ∙ ap (λ (x : Made). test_at a.said x.id.0) (sym (g.same j w));
}

pub sets_along : {n : ℕ} {old new : Known} (f g : ℕ → Interval) → Sets n old new f → ((i : ℕ) → i < n → f i ≡ g i) → Sets n old new g
sets_along f g s e = record { facts = s.facts; sized = s.sized; bounds = λ i w. s.bounds i w ∙ e i w; said = s.said; leaves = s.leaves }

-- ---- one interval more
module _ (old new : Known) (id : TermId) (x : Interval) (absent : IsMade old.made.items id → ⊥) (items : new.made.items ≡ old.made.items ++ record { id = id; interval = x } ∷ []) (places : new.places ≡ slice_set old.places id.0 (length old.made.items)) where
  abbrev last : Made
  last = record { id = id; interval = x }

  pub more_count : length new.made.items ≡ length old.made.items + 1
  more_count = ap length items ∙ length-append old.made.items (last ∷ [])

  pub more_at : (j : ℕ) → j < length old.made.items → made_at new.made.items j ≡ made_at old.made.items j
  more_at j w = ap (λ ms. made_at ms j) items ∙ get_or-append old.made.items (last ∷ []) (record { id = place_of 0; interval = unbounded }) j w

  pub more_last : made_at new.made.items (length old.made.items) ≡ last
  more_last = ap (λ ms. made_at ms (length old.made.items)) items ∙ get_or-append_seam old.made.items last [] (record { id = place_of 0; interval = unbounded })

-- ---- intervals that stay
pub keeps_twice : {n : ℕ} {a b c : Known} → Keeps n a b → Keeps n b c → Keeps n a c
keeps_twice f g = record { sized = g.sized; kept = λ id s. g.kept id (f.kept id s) }
