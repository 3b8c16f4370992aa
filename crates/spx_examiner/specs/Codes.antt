-- The number of each status.
use Rattle.std.specs.Prelude.{ℕ}
use Rattle.spx_examiner.specs.declared.status.Status.{Status}
use Rattle.spx_examiner.specs.declared.status.Status.TheVariants.{Accepted, Refused, Usage, ReadFault, WriteFault, NoMemory, Limit, RunFault, NotEnded}

-- the exit status of the program
abbrev pub code_of : Status → ℕ
code_of Accepted = 0
code_of Refused = 1
code_of Usage = 2
code_of ReadFault = 3
code_of WriteFault = 4
code_of NoMemory = 5
code_of Limit = 6
code_of RunFault = 7
code_of NotEnded = 8
