use Rattle.std.proofs.Common.{◌≡◌, ◌∙◌, ap, ap₂, codes, true}
use Rattle.std.proofs.lemmas.Result.{IfOk-weaker}
use Rattle.clap.specs.Words.{App, app_of, new_app, with_subcommand}
use Rattle.clap.specs.Simple.{Shape, app_of_fields, on_top}
use Rattle.spx_words.specs.Command as spec
use Rattle.spx_words.proofs.command.spx.Goals as goal

abbrev without_name : Shape → Shape
without_name s = record s { no_binary_name = true }

abbrev without_help : Shape → Shape
without_help s = record s { disable_help_flag = true }

abbrev without_help_command : Shape → Shape
without_help_command s = record s { disable_help_subcommand = true }

abbrev wants_command : Shape → Shape
wants_command s = record s { subcommand_required = true }

pub returns : goal.returns
returns c =
    let one : app_of c.no_binary_name.result ≡ on_top without_name (new_app (codes "spx")) =
    ap app_of_fields c.no_binary_name.ensures ∙ ap (on_top without_name) c.new.ensures.app in
    let two : app_of c.disable_help_flag.result ≡ on_top without_help (on_top without_name (new_app (codes "spx"))) =
    ap app_of_fields c.disable_help_flag.ensures ∙ ap (on_top without_help) one in
    let three : app_of c.disable_help_subcommand.result ≡ on_top without_help_command (on_top without_help (on_top without_name (new_app (codes "spx")))) =
    ap app_of_fields c.disable_help_subcommand.ensures ∙ ap (on_top without_help_command) two in
    let four : app_of c.subcommand_required.result ≡ on_top spec.set (new_app (codes "spx")) =
    ap app_of_fields c.subcommand_required.ensures ∙ ap (on_top wants_command) three in
    let top = λ (a : App). a.top in
    let first = c.in_ok-subcommand.ensures.shape c.in_ok-check.ensures.local ∙ ap₂ with_subcommand four (ap top c.in_ok-check.ensures.app) in
    let second = c.in_ok-subcommand-2.ensures.shape c.in_ok-conditions.ensures.local ∙ ap₂ with_subcommand first (ap top c.in_ok-conditions.ensures.app) in
    IfOk-weaker c.subcommand-3.result _ _
    (λ made h. h.shape c.in_ok-run.ensures.local ∙ ap₂ with_subcommand second (ap top c.in_ok-run.ensures.app))
    c.subcommand-3.ensures
