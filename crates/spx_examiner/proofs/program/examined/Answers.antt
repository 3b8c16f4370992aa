use Rattle.std.proofs.Common.{◌≡◌, ◌∷◌, ℕ, List, Vec, false, inl, inr, refl, ap, ap₂, sym, subst, ◌∙◌}
use Rattle.std.specs.Global.{Global}
use Rattle.spx_words.specs.Words.{request_of}
use Rattle.spx_examiner.specs.Causes.{any_too_long, contents_of}
use Rattle.spx_examiner.specs.Outcome.{IsReportOn}
use Rattle.spx_examiner.proofs.Endings.{rest_is_short, rest_of, split, too_long_in}
use Rattle.spx_examiner.proofs.Spelled.{if_ok}
use Rattle.spx_examiner.proofs.program.examined.Goals as goal

pub returns-then-any_too_long : goal.returns-then-any_too_long
returns-then-any_too_long c = inl (sym (too_long_in c.args.contents.now) ∙ sym c.any_too_long.ensures ∙ c.if-any_too_long.true, refl)

pub judge-requires-clause-given : goal.judge-requires-clause-given
judge-requires-clause-given c =
    let all = c.args.contents.now in
    let few : any_too_long (contents_of all) ≡ false = sym (too_long_in all) ∙ sym c.any_too_long.ensures ∙ c.if-any_too_long.false in
    subst (λ those. any_too_long (contents_of those) ≡ false) (sym (rest_of all)) (rest_is_short all few)

pub returns : goal.returns
returns c =
    let all = c.args.contents.now in
    let first = c.as_slice.ensures.value ∙ ap (λ (v : Vec ℕ Global). v.items) c.index-contents-0.is in
    let same = ap₂ (λ (x : List ℕ) (xs : List (List ℕ)). x ∷ xs) first (ap contents_of (rest_of all)) ∙ split all c.index-contents-0.result c.requires in
    let few : any_too_long (contents_of all) ≡ false = sym (too_long_in all) ∙ sym c.any_too_long.ensures ∙ c.if-any_too_long.false in
    if_ok c.judge.result _ _ (λ j report. inr (few, subst (λ those. IsReportOn (request_of c.args.command.now) those j) same report)) c.judge.ensures
