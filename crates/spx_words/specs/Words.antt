-- What was read of the words of a command.
use Rattle.std.specs.Prelude.{option_map}
use Rattle.std.specs.Borrow.{Bor}
use Rattle.clap.specs.Words.{Text}
use Rattle.spx_words.specs.Requests.{Request, check, conditions, run}
use Rattle.spx_words.specs.declared.words.CommandWords.{CommandWords}
use Rattle.spx_words.specs.declared.words.CommandWords.TheVariants as words

-- the text that was borrowed
abbrev pub text_of : Bor Text → Text
text_of text = text.now

-- what the command that was read asks for
abbrev pub request_of : CommandWords → Request
request_of (words.Check file) = check (text_of file)
request_of (words.Conditions file) = conditions (text_of file)
request_of (words.Run entry turns inputs file) = run (text_of entry) turns (option_map text_of inputs) (text_of file)
