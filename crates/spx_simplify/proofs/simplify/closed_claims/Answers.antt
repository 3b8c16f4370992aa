use Rattle.std.proofs.Common.{List, length, map, sym, ◌∙◌, subst, ap}
use Rattle.spx_arena.specs.declared.claims.SharedClaim.{SharedClaim}
use Rattle.spx_simplify.specs.ClosedClaims.{closes_claim}
use Rattle.spx_simplify.specs.Questions.{AreQuestions, AreGoals, Asked, answer}
use Rattle.spx_arena.proofs.Growth.{grows_twice}
use Rattle.spx_arena.proofs.Ids.{wider_lists}
use Rattle.spx_simplify.proofs.Claims.{claims_goals, asked_questions, asked_answers, claims_kept}
use Rattle.spx_simplify.proofs.simplify.closed_claims.Goals as goal

pub questions_of-requires : goal.questions_of-requires
questions_of-requires c =
    subst (AreGoals (length c.args.claims.now.terms)) (sym c.as_slice.ensures) (claims_goals c.args.claims.now.list (length c.args.claims.now.terms) (length c.args.claims.now.facts) c.requires.claims)

pub answers-requires-clause-facts : goal.answers-requires-clause-facts
answers-requires-clause-facts c = wider_lists c.args.claims.now.facts c.in_ok-questions.ensures.grown.more c.requires.facts

pub answers-requires-clause-questions : goal.answers-requires-clause-questions
answers-requires-clause-questions c =
    let s = c.args.claims.now in
    let asked = subst (λ (cs : List SharedClaim). Asked s.terms c.questions_of.new.terms cs c.in_ok-questions.questions) c.as_slice.ensures c.in_ok-questions.ensures.asked in
    subst (AreQuestions (length c.questions_of.new.terms) (length s.facts)) (sym c.as_slice-2.ensures)
    (asked_questions c.questions_of.new.terms (length c.questions_of.new.terms) (length s.facts) (length s.terms) s.list c.in_ok-questions.questions c.requires.claims asked.asks)

pub returns-clause-same : goal.returns-clause-same
returns-clause-same c =
    let s = c.args.claims.now in
    claims_kept (grows_twice c.in_ok-questions.ensures.grown c.in_ok-closed.ensures.grown) s.facts (length s.facts) s.list c.requires.facts c.requires.claims

pub returns-clause-closed : goal.returns-clause-closed
returns-clause-closed c =
    let s = c.args.claims.now in
    let mid = c.questions_of.new.terms in
    let asked = subst (λ (cs : List SharedClaim). Asked s.terms mid cs c.in_ok-questions.questions) c.as_slice.ensures c.in_ok-questions.ensures.asked in
    c.in_ok-closed.ensures.answers
    ∙ ap (map (answer mid s.facts)) c.as_slice-2.ensures
    ∙ asked_answers mid s.facts (length mid) s.list c.in_ok-questions.questions asked.asks
    ∙ ap (map closes_claim) (claims_kept asked.grown s.facts (length s.facts) s.list c.requires.facts c.requires.claims)

pub returns-in_err-questions-clause-same : goal.returns-in_err-questions-clause-same
returns-in_err-questions-clause-same c =
    let s = c.args.claims.now in
    claims_kept c.in_err-questions.ensures.grown s.facts (length s.facts) s.list c.requires.facts c.requires.claims

pub returns-in_err-closed-clause-same : goal.returns-in_err-closed-clause-same
returns-in_err-closed-clause-same c =
    let s = c.args.claims.now in
    claims_kept (grows_twice c.in_ok-questions.ensures.grown c.in_err-closed.ensures.grown) s.facts (length s.facts) s.list c.requires.facts c.requires.claims
