-- What a call answers. Only when memory runs out is left open.
use Rattle.std.specs.Prelude.{◌≡◌, ⊤, Result, Err}
use Rattle.spx_kernel.specs.declared.fault.StepFault.{StepFault}
use Rattle.spx_kernel.specs.declared.fault.StepFault.TheVariants.{Memory}

-- this answer, or out of memory
abbrev pub Answers : {A : Type 0} → Result A StepFault → Result A StepFault → Type 0
Answers (Err Memory) answer = ⊤
Answers result answer = result ≡ answer
