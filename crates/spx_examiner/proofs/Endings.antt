-- What the words name, and how many files there are.
use Rattle.std.proofs.Common.{◌≡◌, ◌<◌, ◌≤◌, ◌-◌, ℕ, Bool, false, List, [], ◌∷◌, length, get_or, take, drop, length-drop, Option, Some, Result, Vec, String, ap, refl, arith, unwrap_or}
use Rattle.std.specs.Prelude.{◌||◌, option_map}
use Rattle.std.specs.List.{list_any}
use Rattle.std.proofs.lemmas.Bool.Decides.{nat_tests}
use Rattle.std.specs.Global.{Global}
use Rattle.std.proofs.lemmas.List.{length-map, take_all}
use Rattle.spx_text.specs.Loads.{names}
use Rattle.spx_words.specs.Requests.{Request}
use Rattle.spx_examiner.specs.Words.{asked, files_in}
use Rattle.spx_run.specs.declared.inputs.InputLine.{InputLine}
use Rattle.spx_run.specs.Inputs.{AreInputs}
use Rattle.spx_examiner.specs.Causes.{MayHold, any_too_long, contents_of, is_too_long, named}
use Rattle.spx_examiner.specs.Outcome.{AreInputsIn}
use Rattle.spx_examiner.proofs.Loading.{holds_length}

-- the files of what is asked for
pub named_are : (words : List (List ℕ)) (r : Request) → asked words ≡ Some r → named words ≡ files_in r
named_are words r is = ap (λ (o : Option Request). unwrap_or (option_map files_in o) []) is

-- some files are named
pub some_named : (all : List (String Global)) (r : Request) → names all ≡ files_in r → 0 < length all
some_named all r is = omega (arith, ap length is, length-map all (λ (s : String Global). Rattle.std.specs.Prelude.string_bytes s))

-- as many are loaded as are named
pub as_many_loaded : (known : List ℕ → Option (List ℕ)) (words : List (String Global)) (all : List (Vec ℕ Global)) → MayHold known (names words) (contents_of all) → length all ≡ length words
as_many_loaded known words all holds =
    omega (arith, holds_length known (names words) (contents_of all) holds, length-map all (λ (v : Vec ℕ Global). v.items), length-map words (λ (s : String Global). Rattle.std.specs.Prelude.string_bytes s))

pub ruleset endings = (as_many_loaded)

-- ---- what was loaded, part by part

-- the first of them and the rest
pub split : (all : List (Vec ℕ Global)) (d : Vec ℕ Global) → 0 < length all → (get_or all 0 d).items ∷ contents_of (drop 1 all) ≡ contents_of all
split [] d some = absurd (omega (arith, some))
split (bytes ∷ rest) d some = refl

pub rest_of : (all : List (Vec ℕ Global)) → take (length all - 1) (drop 1 all) ≡ drop 1 all
rest_of all = take_all (length all - 1) (drop 1 all) (omega (arith, length-drop 1 all))

pub too_long_in : (all : List (Vec ℕ Global)) → list_any (λ (bytes : Vec ℕ Global). is_too_long bytes.items) all ≡ any_too_long (contents_of all)
too_long_in [] = refl
too_long_in (bytes ∷ rest) = ap (λ (b : Bool). is_too_long bytes.items || b) (too_long_in rest)

-- where none of them is too long, none of the rest is
pub rest_is_short : (all : List (Vec ℕ Global)) → any_too_long (contents_of all) ≡ false → any_too_long (contents_of (drop 1 all)) ≡ false
rest_is_short [] short = refl
rest_is_short (bytes ∷ rest) short = grind (arith, nat_tests, short)

-- the inputs are the first of them
pub inputs_of_first : (all : List (Vec ℕ Global)) (d : Vec ℕ Global) (read : Result (List InputLine) ℕ) → 1 ≤ length all → AreInputs (get_or all 0 d).items read → AreInputsIn (contents_of all) read
inputs_of_first [] d read some are = absurd (omega (arith, some))
inputs_of_first (bytes ∷ rest) d read some are = are
