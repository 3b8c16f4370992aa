-- What the words of a command ask for.
use Rattle.std.specs.Prelude.{⊤, ◌≡◌, ◌≤◌, ◌==◌, ◌↔◌, ℕ, Bool, true, not, List, [], ◌∷◌, slice_index, Option, Some, None, IfSome, IsNone, codes, if◌then◌else◌, unwrap_or, option_map, option_and_then}
use Rattle.std.specs.List.{list_all}
use Rattle.std.specs.Str.{bytes_eq}
use Rattle.std.specs.Str.Parse.{digits_value, without_leading_plus}
use Rattle.clap.specs.Words.{Row, Text, first_of, one_of, subcommand_of, takes}
use Rattle.clap.specs.ValueTests.{is_unsigned_in}
use Rattle.spx_words.specs.Command.{most_turns, spx}

-- what words ask for: the check of a file, its conditions, or the run of an entry, with its turns and the file of its inputs
pub data Request : Type 0 where
  check : Text → Request
  conditions : Text → Request
  run : Text → ℕ → Option Text → Text → Request

-- the turns of a run are in their range
abbrev pub IsWithin : Request → Type 0
IsWithin (check file) = ⊤
IsWithin (conditions file) = ⊤
IsWithin (run entry turns inputs file) = (1 ≤ turns) × (turns ≤ most_turns)

-- the file that is asked about
abbrev pub file_of : Request → Text
file_of (check file) = file
file_of (conditions file) = file
file_of (run entry turns inputs file) = file

-- ---- by what clap found for a command's arguments

-- the greatest `u64`
abbrev pub most_u64 : ℕ
most_u64 = 18446744073709551615

-- a number as `u64` reads it: digits, which a plus may come before
abbrev pub number_of : Text → Option ℕ
number_of text = if is_unsigned_in 0 most_u64 text then Some (digits_value 10 (without_leading_plus text)) else None

-- the number that is given for this option
abbrev pub number_in : Text → List Row → Option ℕ
number_in id found = option_and_then number_of (one_of id found)

-- the file that is given
abbrev pub file_in : List Row → Option Text
file_in found = first_of (codes "file") found

-- the turns of a run whose words give none
abbrev pub default_turns : ℕ
default_turns = 1000000

-- the turns that are given, or else those of a run without this option
abbrev pub turns_in : List Row → ℕ
turns_in found = unwrap_or (number_in (codes "turns") found) default_turns

-- what `check` asks for
abbrev pub check_in : List Row → Option Request
check_in found = option_map check (file_in found)

-- what `conditions` asks for
abbrev pub conditions_in : List Row → Option Request
conditions_in found = option_map conditions (file_in found)

-- what `run` asks for
abbrev pub run_in : List Row → Option Request
run_in found = option_and_then (λ entry. option_map (run entry (turns_in found) (first_of (codes "inputs") found))
    (file_in found)) (first_of (codes "entry") found)

-- the same by the command's name
abbrev pub request_in : Text × List Row → Option Request
request_in given =
    if bytes_eq given.0 (codes "check") then check_in given.1
    else if bytes_eq given.0 (codes "conditions") then conditions_in given.1
    else if bytes_eq given.0 (codes "run") then run_in given.1
    else None

-- ---- by the words

-- the words have the form of a command: clap's simple command takes them
abbrev pub HasForm : List Text → Type 0
HasForm words = takes spx words ≡ true

-- the words have the form of no command
abbrev pub HasNoForm : List Text → Type 0
HasNoForm words = ¬ HasForm words

-- what the words ask for, where they have the form of a command
abbrev pub request : List Text → Option Request
request words = if takes spx words then option_and_then request_in (subcommand_of spx words) else None

-- words ask for nothing exactly where they have the form of no command
abbrev pub EachFormAsks : Type 0
EachFormAsks = (words : List Text) → IsNone (request words) ↔ HasNoForm words

-- and what they ask for is within its bounds
abbrev pub EachRequestIsWithin : Type 0
EachRequestIsWithin = (words : List Text) → IfSome (request words) IsWithin

-- ---- plain words

-- the word does not begin with a dash
abbrev pub is_plain : Text → Bool
is_plain word = not (slice_index word 0 == 45)

-- what is asked for where exactly one word is given, the file
abbrev pub of_one_file : (Text → Request) → List Text → Option Request
of_one_file asks [] = None
of_one_file asks (file ∷ []) = Some (asks file)
of_one_file asks (file ∷ more ∷ words) = None

-- where no word begins with a dash, the command of this name takes exactly one word after it, the file
abbrev pub PlainWordIsTheFile : Text → (Text → Request) → Type 0
PlainWordIsTheFile name asks = (words : List Text) → list_all is_plain words ≡ true
    → request (name ∷ words) ≡ of_one_file asks words
