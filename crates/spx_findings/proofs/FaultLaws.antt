-- Faults of a part of a program, and of all of it.
use Rattle.std.proofs.Common.{◌≡◌, Option, Some}
use Rattle.spx_report.specs.declared.limit.LimitName.{LimitName}
use Rattle.spx_report.specs.declared.limit.FindFault.{FindFault}
use Rattle.spx_report.specs.declared.limit.FindFault.TheVariants.{Limit, Memory}
use Rattle.spx_report.specs.Limits.{IsFaultOf}

-- where the limit of a part is that of all, so is its fault
pub first_fault : (part all : Option LimitName) (fault : FindFault) → ((name : LimitName) → part ≡ Some name → all ≡ Some name) → IsFaultOf part fault → IsFaultOf all fault
first_fault part all (Limit name) more is = more name is
first_fault part all Memory more fault = tt
