-- The command that the program has, in clap's own words for one.
use Rattle.std.specs.Prelude.{ℕ, true, Some, codes}
use Rattle.clap.specs.Words.{App, Rule, Shape, Text, new_app, new_rule, with_rule, with_subcommand}
use Rattle.clap.specs.Simple.{on_top}
use Rattle.clap.specs.declared.builder.value_parser.ValueParser.TheVariants.{Unsigned}

-- the most turns that a run may ask for
abbrev pub most_turns : ℕ
most_turns = 1000000000

-- FILE
abbrev pub file : Rule
file = record (new_rule (codes "file")) { required = true }

-- --NAME TEXT
abbrev pub option_of : Text → Rule
option_of name = record (new_rule name) { long = Some name }

-- --entry NAME
abbrev pub entry : Rule
entry = record (option_of (codes "entry")) { required = true }

-- --turns N
abbrev pub turns : Rule
turns = record (option_of (codes "turns")) { parser = Some (Unsigned 1 most_turns) }

-- check FILE
abbrev pub check : App
check = with_rule (new_app (codes "check")) file

-- conditions FILE
abbrev pub conditions : App
conditions = with_rule (new_app (codes "conditions")) file

-- run --entry NAME [--turns N] [--inputs FILE] FILE
abbrev pub run : App
run = with_rule (with_rule (with_rule (with_rule (new_app (codes "run")) entry) turns) (option_of (codes "inputs"))) file

-- the first word is not the program's name, one of the subcommands has to be named, and there is no help
abbrev pub set : Shape → Shape
set s = record s {
  no_binary_name = true;
  disable_help_flag = true;
  disable_help_subcommand = true;
  subcommand_required = true;
}

-- the command of the program with its three subcommands
abbrev pub spx : App
spx = with_subcommand (with_subcommand (with_subcommand (on_top set (new_app (codes "spx"))) check.top) conditions.top) run.top
