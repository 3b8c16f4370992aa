-- Claims, their goals and their questions.
use Rattle.std.proofs.Common.{◌≡◌, ℕ, ◌+◌, ◌-◌, ◌<◌, ◌≤◌, Bool, true, IsTrue, List, [], ◌∷◌, ◌++◌, length, map, take, drop, get_or, refl, sym, ap, ◌∙◌, subst, arith, zero, suc, add-one, length-append}
use Rattle.std.proofs.lemmas.List.{map-append, length-map}
use Rattle.std.proofs.Math.Seq.{take-suc, get_or-append_seam}
use Rattle.spx_term.specs.declared.term.Term.{Term}
use Rattle.spx_term.specs.declared.term.Term.TheVariants.{Truth, Infix}
use Rattle.spx_term.specs.declared.term.TermOp.TheVariants as signs
use Rattle.spx_term.specs.Goals.{goal_of}
use Rattle.spx_term.specs.Plain.{closes, Plain}
use Rattle.spx_simplify.specs.ClosedClaims.{closes_claim}
use Rattle.spx_arena.specs.declared.terms.TermId.{TermId}
use Rattle.spx_arena.specs.declared.claims.SharedClaim.{SharedClaim}
use Rattle.spx_arena.specs.declared.facts.FactsId.{FactsId}
use Rattle.spx_arena.specs.Sharing.{tree_at, Grows, IsId}
use Rattle.spx_arena.specs.Facts.{facts_at}
use Rattle.spx_arena.specs.Claims.{AreIds, AreLists, AreClaims, trees_at, claims_at}
use Rattle.spx_arena.proofs.Ids.{id_within}
use Rattle.spx_simplify.specs.declared.judge.Question.{Question}
use Rattle.spx_arena.specs.Sharing.{Adds}
use Rattle.spx_simplify.specs.Questions.{AreQuestions, answer, AreGoals, Asks, Asked, HasFacts}
use Rattle.spx_arena.proofs.Growth.{grows_twice}
use Rattle.spx_arena.proofs.Ids.{wider_ids, kept_ids}

-- ---- ids in lists
pub tree_of_id : (trees : List Term) (ids : List TermId) (i : ℕ) (d : TermId) (e : Term) → i < length ids → get_or (trees_at trees ids) i e ≡ tree_at trees (get_or ids i d)
tree_of_id trees [] i d e w = absurd (omega arith)
tree_of_id trees (id ∷ ids) zero d e w = refl
tree_of_id trees (id ∷ ids) (suc i) d e w = tree_of_id trees ids i d e (omega arith)

-- ---- conjunctions
goals_last : (ts : List Term) (i : ℕ) (d : Term) → i + 1 ≡ length ts → goal_of (drop i ts) ≡ get_or ts i d
goals_last [] i d e = absurd (omega arith)
goals_last (t ∷ []) zero d e = refl
goals_last (t ∷ u ∷ ts) zero d e = absurd (omega arith)
goals_last (t ∷ ts) (suc i) d e = goals_last ts i d (omega arith)

goals_step : (ts : List Term) (i : ℕ) (d : Term) → i + 1 < length ts → goal_of (drop i ts) ≡ Infix signs.And (get_or ts i d) (goal_of (drop (suc i) ts))
goals_step [] i d w = absurd (omega arith)
goals_step (t ∷ []) i d w = absurd (omega arith)
goals_step (t ∷ u ∷ ts) zero d w = refl
goals_step (t ∷ u ∷ ts) (suc i) d w = goals_step (u ∷ ts) i d (omega arith)

pub last_goal : (trees : List Term) (ids : List TermId) (i : ℕ) (d : TermId) → AreIds (length trees) ids → i + 1 ≡ length ids → IsId trees (get_or ids i d) (goal_of (drop i (trees_at trees ids)))
last_goal trees ids i d are e = record {
  within = id_within ids (length trees) i d are (omega arith);
  tree = sym (goals_last (trees_at trees ids) i (Truth true) (e ∙ sym (length-map ids (tree_at trees))) ∙ tree_of_id trees ids i d (Truth true) (omega arith));
}

pub next_goal : (first old new : List Term) (ids : List TermId) (i j : ℕ) (d all id : TermId) → AreIds (length first) ids → Grows first old → i < length ids → 0 < i → j ≡ i - 1 → IsId old all (goal_of (drop i (trees_at first ids)))
    → Adds old new id (Infix signs.And (tree_at old (get_or ids j d)) (tree_at old all)) → IsId new id (goal_of (drop j (trees_at first ids)))
next_goal first old new ids i j d all id are g w some e whole a =
    let v : j < length ids = omega arith in
    let within = id_within ids (length first) j d are v in
    let left : tree_at old (get_or ids j d) ≡ get_or (trees_at first ids) j (Truth true) = g.kept (get_or ids j d) within ∙ sym (tree_of_id first ids j d (Truth true) v) in
    let k : suc j ≡ i = omega arith in
    let count : j + 1 < length (trees_at first ids) = omega (arith, length-map ids (tree_at first)) in
    let right : tree_at old all ≡ goal_of (drop (suc j) (trees_at first ids)) = whole.tree ∙ ap (λ m. goal_of (drop m (trees_at first ids))) (sym k) in
    subst (IsId new id) ((λ t. Infix signs.And (left t) (right t)) ∙ sym (goals_step (trees_at first ids) j (Truth true) count)) a.made

pub join_requires : (first old : List Term) (ids : List TermId) (j : ℕ) (d all : TermId) {t : Term} → AreIds (length first) ids → Grows first old → j < length ids → IsId old all t → ((get_or ids j d).0 < length old) × (all.0 < length old)
join_requires first old ids j d all are g w whole =
    let v = id_within ids (length first) j d are w in
    let m = g.more in
    (omega arith, whole.within)

-- ---- a question for each claim
pub claims_goals : (cs : List SharedClaim) (n k : ℕ) → AreClaims n k cs → AreGoals n cs
claims_goals [] n k are = tt
claims_goals (c ∷ cs) n k are = (are.1, claims_goals cs n k are.2)

pub goals_at : (cs : List SharedClaim) (n i : ℕ) (d : SharedClaim) → AreGoals n cs → i < length cs → AreIds n (get_or cs i d).goals
goals_at [] n i d are w = absurd (omega arith)
goals_at (c ∷ cs) n zero d are w = are.0
goals_at (c ∷ cs) n (suc i) d are w = goals_at cs n i d are.1 (omega arith)

goals_take : (cs : List SharedClaim) (n i : ℕ) → AreGoals n cs → AreGoals n (take i cs)
goals_take cs n zero are = tt
goals_take [] n (suc i) are = tt
goals_take (c ∷ cs) n (suc i) are = (are.0, goals_take cs n i are.1)

asks_kept : {old new : List Term} (g : Grows old new) (cs : List SharedClaim) (qs : List Question) (n : ℕ) → n ≤ length old → AreGoals n cs → Asks old (length old) cs qs → Asks new (length new) cs qs
asks_kept g [] [] n le are asks = tt
asks_kept g [] (q ∷ qs) n le are asks = elim asks [ ]
asks_kept g (c ∷ cs) [] n le are asks = elim asks [ ]
asks_kept g (c ∷ cs) (q ∷ qs) n le are asks =
    let more = g.more in
    (asks.0, (omega (arith, asks.1.0), (g.kept q.goal asks.1.0 ∙ asks.1.1.0 ∙ ap goal_of (sym (kept_ids g c.goals (wider_ids c.goals le are.0))), asks_kept g cs qs n le are.1 asks.1.1.1)))

asks_push : (trees : List Term) (n : ℕ) (cs : List SharedClaim) (qs : List Question) (c : SharedClaim) (q : Question) → Asks trees n cs qs → q.facts ≡ c.facts → q.goal.0 < n → tree_at trees q.goal ≡ goal_of (trees_at trees c.goals) → Asks trees n (cs ++ c ∷ []) (qs ++ q ∷ [])
asks_push trees n [] [] c q asks f w e = (f, (w, (e, tt)))
asks_push trees n [] (p ∷ qs) c q asks f w e = elim asks [ ]
asks_push trees n (d ∷ cs) [] c q asks f w e = elim asks [ ]
asks_push trees n (d ∷ cs) (p ∷ qs) c q asks f w e = (asks.0, (asks.1.0, (asks.1.1.0, asks_push trees n cs qs c q asks.1.1.1 f w e)))

pub asked_more : (first old new : List Term) (list : List SharedClaim) (qs : List Question) (i : ℕ) (d : SharedClaim) (q : Question) → AreGoals (length first) list → i < length list → Asked first old (take i list) qs
    → q.facts ≡ (get_or list i d).facts → Adds old new q.goal (goal_of (trees_at old (get_or list i d).goals)) → Asked first new (take (i + 1) list) (qs ++ q ∷ [])
asked_more first old new list qs i d q are w asked facts a =
    let le = asked.grown.more in
    let c = get_or list i d in
    let ids = wider_ids c.goals le (goals_at list (length first) i d are w) in
    record {
      grown = grows_twice asked.grown a.grown;
      asks = subst (λ cs. Asks new (length new) cs (qs ++ q ∷ [])) (sym (ap (λ m. take m list) (add-one i) ∙ take-suc list i d w))
          (asks_push new (length new) (take i list) qs c q (asks_kept a.grown (take i list) qs (length first) le (goals_take list (length first) i are) asked.asks) facts a.made.within (a.made.tree ∙ ap goal_of (sym (kept_ids a.grown c.goals ids))));
    }

pub asked_questions : (trees : List Term) (n k m : ℕ) (cs : List SharedClaim) (qs : List Question) → AreClaims m k cs → Asks trees n cs qs → AreQuestions n k qs
asked_questions trees n k m [] [] are asks = tt
asked_questions trees n k m [] (q ∷ qs) are asks = elim asks [ ]
asked_questions trees n k m (c ∷ cs) [] are asks = elim asks [ ]
asked_questions trees n k m (c ∷ cs) (q ∷ qs) are asks = (subst (λ (x : FactsId). x.0 < k) (sym asks.0) are.0, asks.1.0, asked_questions trees n k m cs qs are.2 asks.1.1.1)

pub asked_answers : (trees : List Term) (lists : List (List TermId)) (n : ℕ) (cs : List SharedClaim) (qs : List Question) → Asks trees n cs qs → map (answer trees lists) qs ≡ map closes_claim (claims_at trees lists cs)
asked_answers trees lists n [] [] asks = refl
asked_answers trees lists n [] (q ∷ qs) asks = elim asks [ ]
asked_answers trees lists n (c ∷ cs) [] asks = elim asks [ ]
asked_answers trees lists n (c ∷ cs) (q ∷ qs) asks =
    λ i. closes (trees_at trees (facts_at lists (asks.0 i))) (asks.1.1.0 i) ∷ asked_answers trees lists n cs qs asks.1.1.1 i

-- ---- all claims
pub claims_kept : {old new : List Term} (g : Grows old new) (lists : List (List TermId)) (k : ℕ) (cs : List SharedClaim) → AreLists (length old) lists → AreClaims (length old) k cs → claims_at new lists cs ≡ claims_at old lists cs
claims_kept g lists k [] ids are = refl
claims_kept g lists k (c ∷ cs) ids are =
    let hyps = kept_ids g (facts_at lists c.facts) (ids.each c.facts) in
    let goals = kept_ids g c.goals are.1 in
    λ i. record { kind = c.kind; place = c.place; hyps = hyps i; goals = goals i } ∷ claims_kept g lists k cs ids are.2 i

-- ---- a list of facts
each_more : (n : ℕ) (lists : List (List TermId)) (last : List TermId) (i : ℕ) → ((j : ℕ) → AreIds n (get_or lists j [])) → AreIds n last → AreIds n (get_or (lists ++ last ∷ []) i [])
each_more n [] last zero each here = here
each_more n [] last (suc i) each here = tt
each_more n (l ∷ lists) last zero each here = each 0
each_more n (l ∷ lists) last (suc i) each here = each_more n lists last i (λ j. each (suc j)) here

with_last : (n : ℕ) (ids : List TermId) (id : TermId) → AreIds n ids → id.0 < n → AreIds n (ids ++ id ∷ [])
with_last n [] id are w = (w, tt)
with_last n (x ∷ ids) id are w = (are.0, with_last n ids id are.1 w)

pub has_more : (old new : List Term) (lists more : List (List TermId)) (facts later : FactsId) (fact : TermId) (hyps : List Term) (t : Term) → HasFacts old lists facts hyps → Grows old new → IsId new fact t
    → more ≡ lists ++ (facts_at lists facts ++ fact ∷ []) ∷ [] → later.0 ≡ length lists → HasFacts new more later (hyps ++ t ∷ [])
has_more old new lists more facts later fact hyps t has g is e last =
    let last_ids = facts_at lists facts ++ fact ∷ [] in
    let here : facts_at more later ≡ last_ids = (λ i. get_or (e i) (last i) []) ∙ get_or-append_seam lists last_ids [] [] in
    record {
      all = record {
        each = λ id. subst (λ ls. AreIds (length new) (facts_at ls id)) (sym e)
            (each_more (length new) lists last_ids id.0 (λ j. wider_ids (get_or lists j []) g.more (has.all.each (record { 0 = j })))
            (with_last (length new) (facts_at lists facts) fact (wider_ids (facts_at lists facts) g.more (has.all.each facts)) is.within));
      };
      within = omega (arith, ap length e, length-append lists (last_ids ∷ []), last);
      same = ap (trees_at new) here ∙ map-append (tree_at new) (facts_at lists facts) (fact ∷ [])
          ∙ (λ i. (kept_ids g (facts_at lists facts) (has.all.each facts) ∙ has.same) i ++ is.tree i ∷ []);
    }

pub plain_is : (b : Bool) (hyps : List Term) (goal : Term) → b ≡ closes hyps goal → (IsTrue b → Plain hyps goal) × (Plain hyps goal → IsTrue b)
unfolding Plain
plain_is b hyps goal e = (λ t. subst IsTrue e t, λ t. subst IsTrue (sym e) t)

pub one_answer : (first trees : List Term) (lists : List (List TermId)) (q : Question) (hyps : List Term) (goal : Term) → HasFacts first lists q.facts hyps → Grows first trees → IsId trees q.goal goal → answer trees lists q ≡ closes hyps goal
one_answer first trees lists q hyps goal has g is = λ i. closes ((kept_ids g (facts_at lists q.facts) (has.all.each q.facts) ∙ has.same) i) (is.tree i)
