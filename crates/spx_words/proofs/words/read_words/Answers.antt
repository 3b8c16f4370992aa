use Rattle.std.proofs.Common.{◌≡◌, ◌∙◌, ap, rules, sym}
use Rattle.clap.specs.Faults.{fault_of, is_simple_and_free}
use Rattle.clap.specs.Words.{App, app_of, found_of, is_simple, rows_of, subcommand_of}
use Rattle.clap.specs.declared.parser.matches.ArgMatches.TheViews.{out-ArgMatches}
use Rattle.spx_words.specs.Command.{spx}
use Rattle.spx_text.specs.Loads.{names}
use Rattle.spx_words.specs.Requests.{request, request_in}
use Rattle.spx_words.specs.Words.{request_of}
use Rattle.spx_words.proofs.Forms.{no_request, request_by_parse, request_form, request_within, spx_is_simple, spx_is_simply_built}
use Rattle.spx_words.proofs.Reading.{entered_is}
use Rattle.spx_words.proofs.words.read_words.Goals as goal

pub returns-in-Err-2-clause-request : goal.returns-in-Err-2-clause-request
returns-in-Err-2-clause-request c = no_request (names c.args.words.now) (search rules)

pub returns-in-Some : goal.returns-in-Some
returns-in-Some c =
    let words = names c.args.words.now in
    let name = c.in-Some.name.now in
    let found = rows_of (found_of c.in-Some.given.now) in
    let app : app_of c.in_ok-spx.field-0 ≡ spx = c.in_ok-spx.ensures in
    let faultless = c.in-Ok.ensures.kinds (ap is_simple_and_free app ∙ spx_is_simple) in
    let entered = entered_is (out-ArgMatches c.in-Ok.matches).subcommand name found c.in-Some.ensures.name c.in-Some.ensures.rows in
    let given = (c.in-Ok.ensures.matches (ap is_simple app ∙ spx_is_simply_built)).1 in
    let asks : request_in (name, found) ≡ request words =
    request_by_parse words name found (ap (λ (a : App). fault_of a words) (sym app) ∙ faultless)
    (ap (λ (a : App). subcommand_of a words) (sym app) ∙ (sym given ∙ entered)) in
    let same = c.command_given.ensures ∙ asks in
    record {
      form = request_form request_of words c.command_given.result same;
      request = same;
      within = request_within request_of words c.command_given.result same;
    }
