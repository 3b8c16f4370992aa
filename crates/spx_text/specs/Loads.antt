-- What a load of a file does.
use Rattle.std.specs.Prelude.{◌≡◌, ◌≤◌, ℕ, List, [], ◌∷◌, ◌++◌, length, map, Result, Ok, Err, string_bytes, String}
use Rattle.std.specs.Global.{Global}
use Rattle.spx_text.specs.declared.files.LoadFault.{LoadFault}
use Rattle.spx_text.specs.declared.files.LoadFault.TheVariants.{Failed, TooLong, Memory}

-- the name, where the fault is that its load failed
abbrev pub named_by : LoadFault → List ℕ → List (List ℕ)
named_by Failed name = name ∷ []
named_by TooLong name = []
named_by Memory name = []

-- the name, where the answer is that its load failed
abbrev pub failed_by : {T : Type 0} → Result T LoadFault → List ℕ → List (List ℕ)
failed_by (Ok _) name = []
failed_by (Err fault) name = named_by fault name

-- these bytes, at most so many, now stand after what was there
pub record Appends (most : ℕ) (old new bytes : List ℕ) : Type 0 where
  pub within : length bytes ≤ most
  pub following : new ≡ old ++ bytes

abbrev pub names : List (String Global) → List (List ℕ)
names strings = map string_bytes strings
