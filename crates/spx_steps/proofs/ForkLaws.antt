-- Walks that stop where a path splits, and steps that wait.
use Rattle.std.proofs.Common.{◌≡◌, ℕ, ◌<◌, ◌≤◌, List, [], ◌∷◌, ◌++◌, length, take, reverse, zero, suc, Option, Some, None, refl, sym, ap, ◌∙◌, subst, arith, length-append, append_assoc, append-nil}
use Rattle.std.proofs.lemmas.List.{reverse-append, take-append-le}
use Rattle.std.proofs.Math.ListN.{get_or-append}
use Rattle.std.proofs.Math.Seq.{take-length}
use Rattle.spx_text.specs.declared.place.Place.{Place}
use Rattle.spx_term.specs.declared.condition.CondKind.{CondKind}
use Rattle.spx_term.specs.declared.term.Term.{Term}
use Rattle.spx_term.specs.Steps.{Tree, Cut, Split, Claim, assume_all, check}
use Rattle.spx_arena.specs.declared.terms.TermId.{TermId}
use Rattle.spx_arena.specs.Claims.{AreIds, trees_at, claims_at}
use Rattle.spx_arena.specs.Facts.{facts_at}
use Rattle.spx_arena.proofs.Ids.{kept_hyps}
use Rattle.spx_steps.specs.declared.steps.StepId.{StepId}
use Rattle.spx_steps.specs.declared.steps.Steps.{Steps}
use Rattle.spx_steps.specs.declared.walk.Fork.{Fork}
use Rattle.spx_steps.specs.declared.walk.Waiting.{Waiting}
use Rattle.spx_steps.specs.declared.walk.Walk.{Walk}
use Rattle.spx_steps.specs.ConditionWalk.{forward}
use Rattle.spx_steps.specs.States.{state_in}
use Rattle.spx_steps.specs.Trees.{step_tree}
use Rattle.spx_steps.specs.Forks.{AreMarks, Marked, Resumes, StopsAt, Waits, ends_in, fork_tree, left}
use Rattle.spx_steps.specs.Walks.{IsBack, Marks, OnlyAdds, Ready, claims_from, so_far, state}
use Rattle.spx_steps.proofs.SharedIds.{state_kept}
use Rattle.spx_steps.proofs.SharedSteps.{none_made, wider_values}
use Rattle.spx_steps.proofs.WalkLaws.{from_here, split_from}

-- ---- ends and splits
ends_facts : (ts : List Term) (rest : Tree) → ends_in (assume_all ts rest) ≡ ends_in rest
ends_facts [] rest = refl
ends_facts (t ∷ ts) rest = ends_facts ts rest

pub ends_check : (kind : CondKind) (place : Place) (goals : List Term) (rest : Tree) → ends_in (check kind place goals rest) ≡ ends_in rest
ends_check kind place goals rest = ends_facts goals rest

-- ---- what waits, where the walk goes on
ids_take : (ids : List TermId) (k n : ℕ) → AreIds n ids → AreIds n (take k ids)
ids_take [] zero n are = tt
ids_take [] (suc k) n are = tt
ids_take (id ∷ ids) zero n are = tt
ids_take (id ∷ ids) (suc k) n are = (are.0, ids_take ids k n are.1)

module _ (s : Steps) {m n : ℕ} (more : m ≤ n) (lists then : List (List TermId)) where
  marks_grown : (keys : List TermId) (ws : List Waiting) → AreMarks s m lists keys ws → AreMarks s n (lists ++ then) keys ws
  marks_grown keys [] are = tt
  marks_grown keys (w ∷ ws) are =
      let m = are.0 in
      let within = m.within in (
        record {
          values = wider_values more m.values;
          within = omega (arith, within, length-append lists then);
          here = get_or-append lists then [] w.mark.at.0 within ∙ m.here;
          count = m.count;
          from = m.from;
        },
        marks_grown (take w.mark.count keys) ws are.1,
      )

marks_longer : (s : Steps) (n : ℕ) (lists : List (List TermId)) (keys more : List TermId) (ws : List Waiting) → AreMarks s n lists keys ws → AreMarks s n lists (keys ++ more) ws
marks_longer s n lists keys more [] are = tt
marks_longer s n lists keys more (w ∷ ws) are =
    let m = are.0 in
    let count = m.count in
    let same = sym (take-append-le w.mark.count keys more count) in
    (record { values = m.values; within = m.within; here = m.here ∙ same; count = omega (arith, count, length-append keys more); from = m.from }, subst (λ (ks : List TermId). AreMarks s n lists ks ws) same are.1)

module _ (s : Steps) {old new : Walk} {names : List Term} (ready : Ready names old) (adds : OnlyAdds old new) where
  pub marked_on : (ws : List Waiting) → Marked s old ws → Marked s new ws
  marked_on ws marked =
      let g = adds.grown in
      rw (adds.keys.is, adds.lists.is) (marks_longer s (length new.terms) (old.facts.lists ++ adds.lists.more) old.facts.present.keys adds.keys.more ws (marks_grown s g.more old.facts.lists adds.lists.more old.facts.present.keys ws marked))

  left_on : (keys : List TermId) (ws : List Waiting) → AreMarks s (length old.terms) old.facts.lists keys ws → left s new ws ≡ left s old ws
  left_on keys [] are = refl
  left_on keys (w ∷ ws) are =
      let facts : trees_at new.terms (facts_at new.facts.lists w.mark.at) ≡ trees_at old.terms (facts_at old.facts.lists w.mark.at) =
      ap (λ ls. trees_at new.terms (facts_at ls w.mark.at)) adds.lists.is ∙ kept_hyps adds.grown old.facts.lists adds.lists.more ready.whole.lists w.mark.at are.0.within in
      λ i. forward (state_kept adds.grown w.mark.values are.0.values i) (facts i) (step_tree s w.from) ++ left_on (take w.mark.count keys) ws are.1 i

-- ---- a step waits
module _ (s : Steps) {names : List Term} (w : Walk) (ready : Ready names w) (from : StepId) (p : Waiting) (marks : Marks w p.mark) (from_is : p.from ≡ from) (ws : List Waiting) where
  pub marked_more : from.0 < length s.nodes → Marked s w ws → Marked s w (p ∷ ws)
  marked_more within marked =
      let all : take p.mark.count w.facts.present.keys ≡ w.facts.present.keys = ap (λ n. take n w.facts.present.keys) marks.count ∙ take-length w.facts.present.keys in (
        record {
          values = rw marks.values ready.whole.values;
          within = rw marks.at ready.whole.stands.within;
          here = ap (facts_at w.facts.lists) marks.at ∙ ready.whole.stands.here ∙ sym all;
          count = omega (arith, marks.count);
          from = rw from_is within;
        },
        rw all marked,
      )

  pub split_left : (first : Tree) → claims_from w (Split first (step_tree s from)) ++ left s w ws ≡ claims_from w first ++ left s w (p ∷ ws)
  split_left first =
      ap (λ cs. cs ++ left s w ws) (split_from w first (step_tree s from))
      ∙ append_assoc (claims_from w first) (forward (state w) (trees_at w.terms w.facts.present.keys) (step_tree s from)) (left s w ws)
      ∙ (λ i. claims_from w first ++ (forward (state_in w.terms (sym marks.values i)) (trees_at w.terms (here i)) (step_tree s (sym from_is i)) ++ left s w ws))
    where
      here : w.facts.present.keys ≡ facts_at w.facts.lists p.mark.at
      here = sym ready.whole.stands.here ∙ ap (facts_at w.facts.lists) (sym marks.at)

-- ---- the walk is back
module _ (s : Steps) {names : List Term} {last new : Walk} (ready : Ready names last) (p : Waiting) (ws : List Waiting) (marked : Marked s last (p ∷ ws)) (back : IsBack last new p.mark) where
  back_ready : Ready names new
  back_ready =
      let whole = ready.whole in
      record {
        whole = record {
          values = rw (back.terms, back.values) marked.0.values;
          facts = rw (back.terms, back.keys) (ids_take last.facts.present.keys p.mark.count (length last.terms) whole.facts);
          lists = rw (back.terms, back.lists) whole.lists;
          stands = record { within = rw (back.lists, back.at) marked.0.within; here = (λ i. facts_at (back.lists i) (back.at i)) ∙ marked.0.here ∙ sym back.keys };
          claims = rw (back.terms, back.lists, back.claims) whole.claims;
        };
        table = back.made.count_is ∙ ready.table;
        made = λ id into e. none_made back.made id into e;
      }

  back_marked : Marked s new ws
  back_marked = rw (back.terms, back.lists, back.keys) marked.1

  back_left : (ws : List Waiting) → left s last ws ≡ left s new ws
  back_left [] = refl
  back_left (w ∷ ws) = λ i. forward (state_in (sym back.terms i) w.mark.values) (trees_at (sym back.terms i) (facts_at (sym back.lists i) w.mark.at)) (step_tree s w.from) ++ back_left ws i

  back_same : claims_from last Cut ++ left s last (p ∷ ws) ≡ claims_from new (step_tree s p.from) ++ left s new ws
  back_same =
      let rest = forward (state new) (trees_at new.terms new.facts.present.keys) (step_tree s p.from) in
      let facts : facts_at last.facts.lists p.mark.at ≡ new.facts.present.keys = marked.0.here ∙ sym back.keys in
      (λ i. (from_here last Cut ∙ append-nil (so_far last)) i ++ (forward (state_in last.terms (sym back.values i)) (trees_at last.terms (facts i)) (step_tree s p.from) ++ back_left ws i))
      ∙ (λ i. claims_at (sym back.terms i) (sym back.lists i) (sym back.claims i) ++ (forward (state_in (sym back.terms i) new.values) (trees_at (sym back.terms i) new.facts.present.keys) (step_tree s p.from) ++ left s new ws))
      ∙ sym (append_assoc (so_far new) rest (left s new ws))
      ∙ ap (λ cs. cs ++ left s new ws) (sym (from_here new (step_tree s p.from)))

-- ---- one path after the other
-- what the walk of all paths keeps to
pub record Left (s : Steps) (first : List Claim) (w : Walk) (at : StepId) (ws : List Waiting) : Type 0 where
  pub within : at.0 < length s.nodes
  pub ready : Ready s.terms w
  pub marked : Marked s w (reverse ws)
  pub same : first ≡ claims_from w (step_tree s at) ++ left s w (reverse ws)

pub left_first : (s : Steps) (w : Walk) (at : StepId) (ws : List Waiting) → at.0 < length s.nodes → Ready s.terms w → ws ≡ [] → Left s (claims_from w (step_tree s at)) w at ws
left_first s w at ws within ready none = subst (Left s (claims_from w (step_tree s at)) w at) (sym none) (record { within = within; ready = ready; marked = tt; same = sym (append-nil (claims_from w (step_tree s at))) })

last_first : (ws : List Waiting) (w : Waiting) (all : List Waiting) → all ≡ ws ++ w ∷ [] → w ∷ reverse ws ≡ reverse all
last_first ws w all is = sym (ap reverse is ∙ reverse-append ws (w ∷ []))

module _ (s : Steps) (first : List Claim) (a b : Walk) (at : StepId) (ws : List Waiting) (before : Left s first a at ws) where
  -- what waited still does
  still : {fork : Option Fork} → StopsAt s a b at fork → record { marked : Marked s b (reverse ws); same : first ≡ claims_from b (fork_tree s fork) ++ left s b (reverse ws) }
  still stops =
      let was = reverse ws in
      let c = stops.comes in
      record { marked = marked_on s before.ready c.adds was before.marked; same = before.same ∙ (λ i. c.same i ++ sym (left_on s before.ready c.adds a.facts.present.keys was before.marked) i) }

  -- the path splits
  pub left_fork : (fork : Fork) → StopsAt s a b at (Some fork) → (more : List Waiting) → Waits b ws more fork.second → Left s first b fork.first more
  left_fork fork stops more w =
      let was = reverse ws in
      let now = still stops in
      let order : w.last ∷ was ≡ reverse more = last_first ws w.last more w.is in
      let ready = stops.comes.ready in
      record {
        within = stops.within.0;
        ready = ready;
        marked = subst (Marked s b) order (marked_more s b ready fork.second w.last w.marks w.from_is was stops.within.1 now.marked);
        same = now.same ∙ split_left s b ready fork.second w.last w.marks w.from_is was (step_tree s fork.first) ∙ ap (λ (xs : List Waiting). claims_from b (step_tree s fork.first) ++ left s b xs) order;
      }

  -- the path ends
  pub left_next : StopsAt s a b at None → (c : Walk) (next : StepId) (fewer : List Waiting) → Resumes b c ws fewer next → Left s first c next fewer
  left_next stops c next fewer r =
      let now = still stops in
      let order = last_first fewer r.last ws r.is in
      let marked : Marked s b (r.last ∷ reverse fewer) = subst (Marked s b) (sym order) now.marked in
      let ready = stops.comes.ready in
      record {
        within = subst (λ (x : StepId). x.0 < length s.nodes) r.from_is marked.0.from;
        ready = back_ready s ready r.last (reverse fewer) marked r.back;
        marked = back_marked s ready r.last (reverse fewer) marked r.back;
        same =
            now.same
            ∙ ap (λ (xs : List Waiting). claims_from b Cut ++ left s b xs) (sym order)
            ∙ back_same s ready r.last (reverse fewer) marked r.back
            ∙ ap (λ (x : StepId). claims_from c (step_tree s x) ++ left s c (reverse fewer)) r.from_is;
      }
