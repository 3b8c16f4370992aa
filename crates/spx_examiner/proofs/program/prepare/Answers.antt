use Rattle.std.proofs.Common.{rules, ◌≡◌, Some, length, ap, sym, subst, ◌∙◌}
use Rattle.spx_text.specs.Loads.{names}
use Rattle.spx_words.specs.Words.{request_of}
use Rattle.spx_examiner.specs.Words.{asked, files_in}
use Rattle.spx_examiner.specs.Causes.{MayHold}
use Rattle.spx_examiner.specs.Outcome.{IsJudgedOn, of_request}
use Rattle.spx_examiner.proofs.Endings.{named_are}
use Rattle.spx_examiner.proofs.Loading.{first_as, first_of_loaded, holds_length}
use Rattle.spx_examiner.proofs.program.prepare.Goals as goal

pub returns-clause-judged : goal.returns-clause-judged
returns-clause-judged g c =
    let r = request_of c.in-Some.command in
    let known = g.F.Files.known c.args.files.now in
    let is : asked (names c.args.words.now) ≡ Some r = search rules in
    let here : names c.as_slice.result.now ≡ files_in r = ap names c.as_slice.ensures.value ∙ c.in_ok-named.ensures in
    let (contents, holds, judged) = c.in_ok-judgement.ensures.judged in (
      contents,
      subst (λ those. MayHold known those contents) (here ∙ sym (named_are (names c.args.words.now) r is)) holds,
      of_request r is (holds_length known (names c.as_slice.result.now) contents holds ∙ ap length here) (subst (IsJudgedOn r contents) (sym c.in_ok-reported-2.ensures.judgement) judged),
    )

pub returns-in_err-reported-2-clause-first : goal.returns-in_err-reported-2-clause-first
returns-in_err-reported-2-clause-first g c = λ out.
    let r = request_of c.in-Some.command in
    let is : asked (names c.args.words.now) ≡ Some r = search rules in
    let here : names c.as_slice.result.now ≡ files_in r = ap names c.as_slice.ensures.value ∙ c.in_ok-named.ensures in
    first_as (here ∙ sym (named_are (names c.args.words.now) r is)) (first_of_loaded c.in_ok-judgement.ensures.loads)
