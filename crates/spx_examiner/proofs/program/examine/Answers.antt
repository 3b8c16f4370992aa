use Rattle.std.proofs.Common.{rules, ◌≡◌, inl, inr, refl, ap, sym, subst, ◌∙◌}
use Rattle.spx_text.specs.Loads.{names}
use Rattle.spx_examiner.specs.declared.status.Status.TheVariants.{Accepted, Refused, Usage, Limit, RunFault, NotEnded}
use Rattle.spx_examiner.specs.Causes.{named}
use Rattle.spx_examiner.specs.Judgement.{status_of, text_of}
use Rattle.spx_examiner.specs.Outcome.{SaysHowItRan}
use Rattle.spx_examiner.proofs.Loading.{loaded_so, where_known}
use Rattle.spx_examiner.proofs.Reliable.{causes, lists_conditions, reliable, runs_to}
use Rattle.spx_examiner.proofs.program.examine.Goals as goal

pub returns-in-Ok-write_all_pieces-clause-outcome : goal.returns-in-Ok-write_all_pieces-clause-outcome
returns-in-Ok-write_all_pieces-clause-outcome g c = λ concludes.
    let (contents, holds, judged) = c.in-Ok.ensures.judged in
    (contents, holds, (c.in-Ok.made.judgement, judged, search rules, search rules))

pub returns-in-Ok-write_all_pieces-clause-headline : goal.returns-in-Ok-write_all_pieces-clause-headline
returns-in-Ok-write_all_pieces-clause-headline g c = λ check accepted.
    let same : status_of c.in-Ok.made.judgement ≡ Accepted = search rules in
    let (contents, holds, judged) = c.in-Ok.ensures.judged in
    (contents, holds, ((c.in-Ok.made.judgement, judged, search rules, search rules), (reliable c.laws_below.ensures (names c.args.words.now) contents c.in-Ok.made.judgement judged check same c.assure.ensures).1))

pub returns-in-Ok-write_all_pieces-clause-clean : goal.returns-in-Ok-write_all_pieces-clause-clean
returns-in-Ok-write_all_pieces-clause-clean g c = λ check contents are_known accepted.
    let same : status_of c.in-Ok.made.judgement ≡ Accepted = search rules in
    (reliable c.laws_below.ensures (names c.args.words.now) contents c.in-Ok.made.judgement (where_known (g.F.Files.known c.args.files.now) (names c.args.words.now) contents _ c.in-Ok.ensures.judged are_known) check same c.assure.ensures).0

pub returns-in-Ok-write_all_pieces-clause-complete : goal.returns-in-Ok-write_all_pieces-clause-complete
returns-in-Ok-write_all_pieces-clause-complete g c = λ contents are_known acceptable loads writes.
    let exact = causes c.laws_below.ensures (names c.args.words.now) contents c.in-Ok.made.judgement (where_known (g.F.Files.known c.args.files.now) (names c.args.words.now) contents _ c.in-Ok.ensures.judged are_known) in
    let same : status_of c.in-Ok.made.judgement ≡ Accepted = exact.accepted.1 acceptable in
    inl (search rules)

pub returns-in-Ok-write_all_pieces-clause-accepted : goal.returns-in-Ok-write_all_pieces-clause-accepted
returns-in-Ok-write_all_pieces-clause-accepted g c = λ contents are_known concludes.
    let exact = causes c.laws_below.ensures (names c.args.words.now) contents c.in-Ok.made.judgement (where_known (g.F.Files.known c.args.files.now) (names c.args.words.now) contents _ c.in-Ok.ensures.judged are_known) in
    ((λ is. exact.accepted.0 (search rules)), λ cause. let same : status_of c.in-Ok.made.judgement ≡ Accepted = exact.accepted.1 cause in search rules)

pub returns-in-Ok-write_all_pieces-clause-refused : goal.returns-in-Ok-write_all_pieces-clause-refused
returns-in-Ok-write_all_pieces-clause-refused g c = λ contents are_known concludes.
    let exact = causes c.laws_below.ensures (names c.args.words.now) contents c.in-Ok.made.judgement (where_known (g.F.Files.known c.args.files.now) (names c.args.words.now) contents _ c.in-Ok.ensures.judged are_known) in
    ((λ is. exact.refused.0 (search rules)), λ cause. let same : status_of c.in-Ok.made.judgement ≡ Refused = exact.refused.1 cause in search rules)

pub returns-in-Ok-write_all_pieces-clause-limit : goal.returns-in-Ok-write_all_pieces-clause-limit
returns-in-Ok-write_all_pieces-clause-limit g c = λ contents are_known concludes.
    let exact = causes c.laws_below.ensures (names c.args.words.now) contents c.in-Ok.made.judgement (where_known (g.F.Files.known c.args.files.now) (names c.args.words.now) contents _ c.in-Ok.ensures.judged are_known) in
    ((λ is. exact.limited.0 (search rules)), λ cause. let same : status_of c.in-Ok.made.judgement ≡ Limit = exact.limited.1 cause in search rules)

pub returns-in-Ok-write_all_pieces-clause-run_fault : goal.returns-in-Ok-write_all_pieces-clause-run_fault
returns-in-Ok-write_all_pieces-clause-run_fault g c = λ contents are_known concludes.
    let exact = causes c.laws_below.ensures (names c.args.words.now) contents c.in-Ok.made.judgement (where_known (g.F.Files.known c.args.files.now) (names c.args.words.now) contents _ c.in-Ok.ensures.judged are_known) in
    ((λ is. exact.run_fault.0 (search rules)), λ cause. let same : status_of c.in-Ok.made.judgement ≡ RunFault = exact.run_fault.1 cause in search rules)

pub returns-in-Ok-write_all_pieces-clause-not_ended : goal.returns-in-Ok-write_all_pieces-clause-not_ended
returns-in-Ok-write_all_pieces-clause-not_ended g c = λ contents are_known concludes.
    let exact = causes c.laws_below.ensures (names c.args.words.now) contents c.in-Ok.made.judgement (where_known (g.F.Files.known c.args.files.now) (names c.args.words.now) contents _ c.in-Ok.ensures.judged are_known) in
    ((λ is. exact.not_ended.0 (search rules)), λ cause. let same : status_of c.in-Ok.made.judgement ≡ NotEnded = exact.not_ended.1 cause in search rules)

pub returns-clause-part : goal.returns-clause-part
returns-clause-part g c = λ fault.
    let (contents, holds, judged) = c.in-Ok.ensures.judged in
    (contents, holds, (c.in-Ok.made.judgement, judged, search rules))

pub returns-in-Ok-write_all_pieces-clause-listed : goal.returns-in-Ok-write_all_pieces-clause-listed
returns-in-Ok-write_all_pieces-clause-listed g c = λ asks accepted.
    let same : status_of c.in-Ok.made.judgement ≡ Accepted = search rules in
    let (contents, holds, judged) = c.in-Ok.ensures.judged in
    let (p, only, text) = lists_conditions c.laws_below.ensures (names c.args.words.now) contents c.in-Ok.made.judgement judged asks same in
    (contents, holds, (p, only, rw (← text) (search rules)))

pub returns-in-Ok-write_all_pieces-clause-usage : goal.returns-in-Ok-write_all_pieces-clause-usage
returns-in-Ok-write_all_pieces-clause-usage g c = λ concludes.
    let (contents, holds, judged) = c.in-Ok.ensures.judged in
    let exact = causes c.laws_below.ensures (names c.args.words.now) contents c.in-Ok.made.judgement judged in
    ((λ is. exact.usage.0 (search rules)), λ none. let same : status_of c.in-Ok.made.judgement ≡ Usage = exact.usage.1 none in search rules)

pub returns-in-Ok-write_all_pieces-clause-nothing : goal.returns-in-Ok-write_all_pieces-clause-nothing
returns-in-Ok-write_all_pieces-clause-nothing g c = λ fault.
    let (contents, holds, judged) = c.in-Ok.ensures.judged in
    let own = (causes c.laws_below.ensures (names c.args.words.now) contents c.in-Ok.made.judgement judged).no_fault in
    elim fault [ inl e ↦ absurd (own.0 (sym c.status.ensures ∙ e)) | inr e ↦ absurd (own.1 (sym c.status.ensures ∙ e)) ]

pub returns-in-Ok-write_all_pieces-clause-ran : goal.returns-in-Ok-write_all_pieces-clause-ran
returns-in-Ok-write_all_pieces-clause-ran g c = λ runs how.
    let (contents, holds, judged) = c.in-Ok.ensures.judged in
    let told = subst SaysHowItRan c.status.ensures how in
    let (r, asks, found) = runs_to c.laws_below.ensures (names c.args.words.now) contents c.in-Ok.made.judgement judged runs told in
    let text = ap (text_of (named (names c.args.words.now))) found.2 in
    (contents, holds, (r, asks, found.0, found.1, rw (← text) (search rules)))

pub returns-in-Ok-write_all_pieces-clause-loads : goal.returns-in-Ok-write_all_pieces-clause-loads
returns-in-Ok-write_all_pieces-clause-loads g c = λ read memory. loaded_so (λ is. inl (c.status.ensures ∙ is)) c.in-Ok.ensures.loads

pub returns-clause-loads : goal.returns-clause-loads
returns-clause-loads g c = λ read memory. loaded_so (λ is. inr refl) c.in-Ok.ensures.loads

pub returns-in-Ok-write_all_pieces-clause-no_memory : goal.returns-in-Ok-write_all_pieces-clause-no_memory
returns-in-Ok-write_all_pieces-clause-no_memory g c = λ is.
    let (contents, holds, judged) = c.in-Ok.ensures.judged in
    let own = (causes c.laws_below.ensures (names c.args.words.now) contents c.in-Ok.made.judgement judged).no_fault in
    absurd (own.1 (sym c.status.ensures ∙ is))
