-- What holds of inputs.
use Rattle.std.specs.Prelude.{◌≡◌, ℕ, List, Result}
use Rattle.spx_run.specs.declared.inputs.InputLine.{InputLine}
use Rattle.spx_run.specs.Inputs.{AreInputs}

-- a text is read in one way
abbrev pub OneReading : Type 0
OneReading = (bytes : List ℕ) (a b : Result (List InputLine) ℕ) → AreInputs bytes a → AreInputs bytes b → a ≡ b

-- and in some way
abbrev pub SomeReading : Type 0
SomeReading = (bytes : List ℕ) → (read : Result (List InputLine) ℕ) × AreInputs bytes read
