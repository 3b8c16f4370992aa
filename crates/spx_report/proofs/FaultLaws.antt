-- Faults of a part of a program, and of all of it.
use Rattle.std.proofs.Common.{◌≡◌, Bool, true}
use Rattle.spx_report.specs.declared.limit.LimitName.{LimitName}
use Rattle.spx_report.specs.declared.limit.FindFault.{FindFault}
use Rattle.spx_report.specs.declared.limit.FindFault.TheVariants.{Limit, Memory}
use Rattle.spx_report.specs.Limits.{IsFaultWhere}

-- a limit that a part passes, all pass
pub fault_of_all : (limit : LimitName) (part all : Bool) (fault : FindFault) → (part ≡ true → all ≡ true) → IsFaultWhere limit part fault → IsFaultWhere limit all fault
fault_of_all limit part all (Limit name) more (is, passed) = (is, more passed)
fault_of_all limit part all Memory more fault = tt
