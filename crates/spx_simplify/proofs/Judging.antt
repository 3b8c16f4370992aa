-- The facts of lists by their ids, back and forth, and answers.
use Rattle.std.proofs.Common.{◌≡◌, ℕ, ◌+◌, ◌<◌, ◌≤◌, Bool, false, ◌||◌, List, [], ◌∷◌, ◌++◌, length, map, take, get_or, refl, sym, ap, ◌∙◌, subst, arith, zero, suc, add-one}
use Rattle.std.proofs.lemmas.List.{map-append}
use Rattle.std.proofs.Math.Seq.{take-suc}
use Rattle.spx_term.specs.declared.term.Term.{Term}
use Rattle.spx_term.specs.declared.term.Term.TheVariants.{Truth}
use Rattle.spx_term.specs.Folding.{folded}
use Rattle.spx_term.specs.Plain.{is_among, is_plain, closes}
use Rattle.spx_arena.specs.declared.terms.TermId.{TermId}
use Rattle.spx_arena.specs.declared.facts.FactsId.{FactsId}
use Rattle.spx_arena.specs.declared.facts.Link.{Link}
use Rattle.spx_arena.specs.Sharing.{tree_at, Grows, IsId}
use Rattle.spx_arena.specs.Facts.{facts_at}
use Rattle.spx_arena.specs.Claims.{AreLists, trees_at}
use Rattle.spx_arena.proofs.Ids.{kept_ids, last_within}
use Rattle.spx_simplify.specs.declared.known.Change.{Change}
use Rattle.spx_simplify.specs.declared.judge.Question.{Question}
use Rattle.spx_simplify.specs.declared.judge.Step.{Step}
use Rattle.spx_simplify.specs.declared.judge.Judge.{Judge}
use Rattle.spx_simplify.specs.Folds.{AreFolds, id_at}
use Rattle.spx_simplify.specs.Tables.{Sized, Knows, Restores, Undoes}
use Rattle.spx_simplify.specs.Questions.{AreQuestions, answer, hyps_at, Judges, Leads}
use Rattle.spx_simplify.proofs.Tables.{undoes_more, undoes_less, more_none}

-- ---- back and forth
pub fold_within : (trees : List Term) (folds : List TermId) (id fold : TermId) → AreFolds trees folds → id.0 < length folds → fold ≡ id_at folds id.0 → IsId trees fold (folded (tree_at trees id))
fold_within trees folds id fold are w is = subst (λ (x : TermId). IsId trees x (folded (tree_at trees id))) (sym is) (are.each id.0 w)

hyps_more : (trees : List Term) (lists : List (List TermId)) (id before : FactsId) (fact : TermId) → facts_at lists id ≡ facts_at lists before ++ fact ∷ [] → hyps_at trees lists id ≡ hyps_at trees lists before ++ folded (tree_at trees fact) ∷ []
hyps_more trees lists id before fact e =
    ap (λ fs. map folded (trees_at trees fs)) e
    ∙ ap (map folded) (map-append (tree_at trees) (facts_at lists before) (fact ∷ []))
    ∙ map-append folded (trees_at trees (facts_at lists before)) (tree_at trees fact ∷ [])

module _ (trees : List Term) (lists : List (List TermId)) (old : Judge) (link : Link) (judges : Judges trees lists old) (list : facts_at lists old.at ≡ facts_at lists link.before ++ link.fact ∷ []) where
  abbrev earlier : List Term
  earlier = hyps_at trees lists link.before

  abbrev last : Term
  last = folded (tree_at trees link.fact)

  hyps_are : hyps_at trees lists old.at ≡ earlier ++ last ∷ []
  hyps_are = hyps_more trees lists old.at link.before link.fact list

  pub some_change : old.trail ≡ [] → ⊥
  some_change e = more_none trees [] earlier last (subst (Undoes trees [] (earlier ++ last ∷ [])) e (subst (λ hs. Undoes trees [] hs old.trail) hyps_are judges.undoes))

  module _ (rest : List Change) (c : Change) (popped : old.trail ≡ rest ++ c ∷ []) where
    undone : Undoes trees [] earlier rest × (Restores trees earlier c × (tree_at trees c.fact ≡ last))
    undone = undoes_less trees [] earlier rest last c (subst (Undoes trees [] (earlier ++ last ∷ [])) popped (subst (λ hs. Undoes trees [] hs old.trail) hyps_are judges.undoes))

    pub change_within : c.fact.0 < length trees
    change_within = undone.1.0.within

    pub judges_back : (new : Judge) → new.trail ≡ rest → new.at ≡ link.before → link.before.0 < old.at.0 → Sized (length trees) new.known
        → ((hyps : List Term) → Restores trees hyps c → Knows trees (hyps ++ tree_at trees c.fact ∷ []) old.known → Knows trees hyps new.known) → Judges trees lists new
    judges_back new trail at less sized knows =
        let before = subst (λ hs. Knows trees hs old.known) (hyps_are ∙ ap (λ t. earlier ++ t ∷ []) (sym undone.1.1)) judges.knows in
        let w = judges.within in
        record {
          within = subst (λ (x : FactsId). x.0 < length lists) (sym at) (omega arith);
          sized = sized;
          knows = subst (λ x. Knows trees (hyps_at trees lists x) new.known) (sym at) (knows earlier undone.1.0 before);
          undoes = subst (λ x. Undoes trees [] (hyps_at trees lists x) new.trail) (sym at) (subst (Undoes trees [] earlier) (sym trail) undone.0);
        }

pub judges_forth : (trees : List Term) (lists : List (List TermId)) (folds : List TermId) (old new : Judge) (step : Step) (fold : TermId) (c : Change) → AreFolds trees folds → step.fact.0 < length folds → fold ≡ id_at folds step.fact.0 → step.to.0 < length lists
    → facts_at lists step.to ≡ facts_at lists old.at ++ step.fact ∷ [] → Judges trees lists old → c.fact ≡ fold → ((hyps : List Term) → Knows trees hyps old.known → Restores trees hyps c)
    → new.trail ≡ old.trail ++ c ∷ [] → new.at ≡ step.to → Sized (length trees) new.known → ((hyps : List Term) → Knows trees hyps old.known → Knows trees (hyps ++ tree_at trees fold ∷ []) new.known) → Judges trees lists new
judges_forth trees lists folds old new step fold c are w is within list judges of restores trail at sized knows =
    let earlier = hyps_at trees lists old.at in
    let tree = (fold_within trees folds step.fact fold are w is).tree in
    let hyps_are = hyps_more trees lists step.to old.at step.fact list in
    record {
      within = subst (λ (x : FactsId). x.0 < length lists) (sym at) within;
      sized = sized;
      knows = subst (λ x. Knows trees (hyps_at trees lists x) new.known) (sym at) (subst (λ hs. Knows trees hs new.known) (ap (λ t. earlier ++ t ∷ []) tree ∙ sym hyps_are) (knows earlier judges.knows));
      undoes = subst (λ x. Undoes trees [] (hyps_at trees lists x) new.trail) (sym at) (subst (λ hs. Undoes trees [] hs new.trail) (sym hyps_are)
          (subst (Undoes trees [] (earlier ++ folded (tree_at trees step.fact) ∷ [])) (sym trail)
          (undoes_more trees [] earlier old.trail (folded (tree_at trees step.fact)) c judges.undoes (restores earlier judges.knows) (ap (tree_at trees) of ∙ tree))));
    }

-- ---- the way to a list
pub leads_more : (lists : List (List TermId)) (ss : List Step) (start target before : FactsId) (fact : TermId) → Leads lists ss start target → start.0 < length lists → facts_at lists start ≡ facts_at lists before ++ fact ∷ [] → Leads lists (ss ++ record { to = start; fact = fact } ∷ []) before target
leads_more lists [] start target before fact leads w e = (sym leads, (w, (before, (e, refl))))
leads_more lists (s ∷ ss) start target before fact leads w e =
    (leads.0, (leads.1.0, (leads.1.1.0, (leads.1.1.1.0, leads_more lists ss start leads.1.1.0 before fact leads.1.1.1.1 w e))))

pub leads_less : (lists : List (List TermId)) (ss : List Step) (start target : FactsId) (s : Step) → Leads lists (ss ++ s ∷ []) start target → (s.to.0 < length lists) × ((facts_at lists s.to ≡ facts_at lists start ++ s.fact ∷ []) × Leads lists ss s.to target)
leads_less lists [] start target s leads =
    (leads.1.0, (leads.1.1.1.0 ∙ ap (λ x. facts_at lists x ++ s.fact ∷ []) leads.1.1.1.1, sym leads.0))
leads_less lists (t ∷ ss) start target s leads =
    let l = leads_less lists ss start leads.1.1.0 s leads.1.1.1.1 in
    (l.0, (l.1.0, (leads.0, (leads.1.0, (leads.1.1.0, (leads.1.1.1.0, l.1.1))))))

pub fact_within : (lists : List (List TermId)) (n : ℕ) (id before : FactsId) (fact : TermId) → AreLists n lists → facts_at lists id ≡ facts_at lists before ++ fact ∷ [] → fact.0 < n
fact_within lists n id before fact are e = last_within (facts_at lists before) (facts_at lists id) fact n (are.each id) e

pub judges_after : (trees : List Term) (lists : List (List TermId)) (old new : Judge) → Judges trees lists old → new.at ≡ old.at → new.trail ≡ old.trail → Sized (length trees) new.known → ((hyps : List Term) → Knows trees hyps old.known → Knows trees hyps new.known) → Judges trees lists new
judges_after trees lists old new judges at trail sized knows = record {
  within = subst (λ (x : FactsId). x.0 < length lists) (sym at) judges.within;
  sized = sized;
  knows = subst (λ x. Knows trees (hyps_at trees lists x) new.known) (sym at) (knows (hyps_at trees lists old.at) judges.knows);
  undoes = subst (λ x. Undoes trees [] (hyps_at trees lists x) new.trail) (sym at) (subst (Undoes trees [] (hyps_at trees lists old.at)) (sym trail) judges.undoes);
}

-- ---- questions
pub question_within : (qs : List Question) (n k i : ℕ) (d : Question) → AreQuestions n k qs → i < length qs → ((get_or qs i d).facts.0 < k) × ((get_or qs i d).goal.0 < n)
question_within [] n k i d are w = absurd (omega arith)
question_within (q ∷ qs) n k zero d are w = (are.0, are.1)
question_within (q ∷ qs) n k (suc i) d are w = question_within qs n k i d are.2 (omega arith)

pub answer_is : (trees : List Term) (lists : List (List TermId)) (q : Question) (fold : TermId) (b : Bool) → tree_at trees fold ≡ folded (tree_at trees q.goal)
    → b ≡ (is_among (hyps_at trees lists q.facts) (Truth false) || is_plain (hyps_at trees lists q.facts) (tree_at trees fold)) → b ≡ answer trees lists q
unfolding closes
answer_is trees lists q fold b tree e = e ∙ ap (λ t. is_among (hyps_at trees lists q.facts) (Truth false) || is_plain (hyps_at trees lists q.facts) t) tree

pub answers_more : (trees : List Term) (lists : List (List TermId)) (qs : List Question) (answers : List Bool) (i : ℕ) (d : Question) (b : Bool) → i < length qs → answers ≡ map (answer trees lists) (take i qs)
    → b ≡ answer trees lists (get_or qs i d) → answers ++ b ∷ [] ≡ map (answer trees lists) (take (i + 1) qs)
answers_more trees lists qs answers i d b w e f =
    (λ t. e t ++ f t ∷ [])
    ∙ sym (map-append (answer trees lists) (take i qs) (get_or qs i d ∷ []))
    ∙ ap (map (answer trees lists)) (sym (ap (λ m. take m qs) (add-one i) ∙ take-suc qs i d w))

-- ---- more terms
pub wider_questions : (qs : List Question) (k : ℕ) {m n : ℕ} → m ≤ n → AreQuestions m k qs → AreQuestions n k qs
wider_questions [] k le are = tt
wider_questions (q ∷ qs) k le are = (are.0, omega arith, wider_questions qs k le are.2)

pub answers_kept : {old new : List Term} (g : Grows old new) (lists : List (List TermId)) (k : ℕ) (qs : List Question) → AreLists (length old) lists → AreQuestions (length old) k qs → map (answer new lists) qs ≡ map (answer old lists) qs
answers_kept g lists k [] ids are = refl
answers_kept g lists k (q ∷ qs) ids are =
    λ i. closes (kept_ids g (facts_at lists q.facts) (ids.each q.facts) i) (g.kept q.goal are.1 i) ∷ answers_kept g lists k qs ids are.2 i
