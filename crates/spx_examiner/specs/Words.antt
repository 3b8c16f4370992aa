-- What the words of a command ask for.
use Rattle.std.specs.Prelude.{◌≡◌, ⊤, ℕ, List, [], ◌∷◌, Option, Some, None, option_to_list, codes}
use Rattle.spx_words.specs.Requests.{Request, check, conditions, run, file_of, request}

-- what is printed where the words have the form of no command
abbrev pub usage_line : List ℕ
usage_line = codes "usage: check [--proofs FILE] FILE... | conditions FILE... | run --entry NAME [--turns N] [--inputs FILE] FILE... | workload N\n"

-- what the words ask for
unfoldable pub asked : List (List ℕ) → Option Request
asked words = request words

-- the words have the form of no command
abbrev pub HasNoForm : List (List ℕ) → Type 0
HasNoForm words = asked words ≡ None

-- the words ask for the check of a file
abbrev pub AsksForCheck : List (List ℕ) → Type 0
AsksForCheck words = (file : List ℕ) × (asked words ≡ Some (check file))

-- the words ask for the conditions of a file
abbrev pub AsksForConditions : List (List ℕ) → Type 0
AsksForConditions words = (file : List ℕ) × (asked words ≡ Some (conditions file))

-- ---- requests

-- a check is asked for
abbrev pub IsCheck : Request → Type 0
IsCheck (check file) = ⊤
IsCheck (conditions file) = ⊥
IsCheck (run entry turns inputs file) = ⊥

-- conditions are asked for
abbrev pub IsConditions : Request → Type 0
IsConditions (check file) = ⊥
IsConditions (conditions file) = ⊤
IsConditions (run entry turns inputs file) = ⊥

-- a run is asked for
abbrev pub IsRun : Request → Type 0
IsRun (check file) = ⊥
IsRun (conditions file) = ⊥
IsRun (run entry turns inputs file) = ⊤

-- the words ask for a run
abbrev pub AsksForRun : List (List ℕ) → Type 0
AsksForRun words = (r : Request) × (asked words ≡ Some r) × IsRun r

-- the file of the inputs, where one is named
abbrev pub inputs_in : Request → List (List ℕ)
inputs_in (check file) = []
inputs_in (conditions file) = []
inputs_in (run entry turns inputs file) = option_to_list inputs

-- the files that are asked about, in the order in which they are loaded: the program, and then its inputs
abbrev pub files_in : Request → List (List ℕ)
files_in r = file_of r ∷ inputs_in r
