-- What a call answers, where too wide a number is no answer.
use Rattle.std.specs.Prelude.{◌≡◌, ⊤, Option, Some, None, Result, Ok, Err}
use Rattle.spx_linear.specs.declared.fault.LinearFault.{LinearFault}
use Rattle.spx_linear.specs.declared.fault.LinearFault.TheVariants.{TooWide, Memory}

-- the answer, or that a number is too wide; nothing is said where memory runs out
abbrev pub Answers : {A : Type 0} → Result A LinearFault → Option A → Type 0
Answers (Ok x) answer = answer ≡ Some x
Answers (Err TooWide) answer = answer ≡ None
Answers (Err Memory) answer = ⊤

-- the same for what a call leaves in an argument
abbrev pub Leaves : {A B : Type 0} → Result A LinearFault → B → Option B → Type 0
Leaves (Ok x) left answer = answer ≡ Some left
Leaves (Err TooWide) left answer = answer ≡ None
Leaves (Err Memory) left answer = ⊤
