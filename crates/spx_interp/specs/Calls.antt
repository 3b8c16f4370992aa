-- What the answer of a call says.
use Rattle.std.specs.Prelude.{◌≡◌, ℕ, true, false, List, Result, Ok, Err}
use Rattle.spx_core.specs.declared.program.Program.{Program}
use Rattle.spx_core.specs.declared.entity.VarId.{VarId}
use Rattle.spx_core.specs.declared.subprogram.Sub.{Sub}
use Rattle.spx_core.specs.Dependency.{exports}
use Rattle.spx_core.specs.Mirror.VarSets.{holds}
use Rattle.spx_meaning.specs.Stores.{Store}
use Rattle.spx_meaning.specs.Runs as runs
use Rattle.spx_interp.specs.declared.fault.Finish.{Finish}
use Rattle.spx_interp.specs.declared.fault.Finish.TheVariants as finish
use Rattle.spx_interp.specs.declared.fault.RunFault.{RunFault}
use Rattle.spx_interp.specs.declared.fault.RunLimit.TheVariants.{Elements, Bits}
use Rattle.spx_interp.specs.declared.fault.RunFault.TheVariants.{TooLarge, Memory}
use Rattle.spx_meaning.specs.Limits.{call_passes}
use Rattle.spx_meaning.specs.Elements.{has_many_elements}

-- the outcome that this is, from the store before to the store after; what has not ended leaves the store as it was
abbrev pub Finishes : Finish → (before after : Store) → runs.Outcome → Type 0
Finishes finish.Ended before after outcome = outcome ≡ runs.Ended after
Finishes (finish.Faulted fault) before after outcome = (outcome ≡ runs.Bad fault.kind fault.place) × (after ≡ before)
Finishes finish.Later before after outcome = (outcome ≡ runs.Later) × (after ≡ before)

-- the fault, where the limit can only be that on bits
abbrev pub in_bits : RunFault → RunFault
in_bits (TooLarge limit) = TooLarge Bits
in_bits Memory = Memory

-- The answer of a call at this bound. The limit on elements is looked at before the run. Out of memory may come at any time, and changes nothing.
abbrev pub IsCall : Program → Sub → ℕ → Store → Result Finish RunFault → Store → Type 0
IsCall p sub n before (Ok finish) after = (has_many_elements p sub ≡ false) × (call_passes p n sub before ≡ false) × Finishes finish before after (runs.call p n sub before)
IsCall p sub n before (Err (TooLarge Elements)) after = (has_many_elements p sub ≡ true) × (after ≡ before)
IsCall p sub n before (Err (TooLarge Bits)) after = (has_many_elements p sub ≡ false) × (call_passes p n sub before ≡ true) × (after ≡ before)
IsCall p sub n before (Err Memory) after = after ≡ before

-- the set has the exports of the subprogram, and no other variable
abbrev pub AreExports : Sub → List ℕ → Type 0
AreExports sub set = (v : VarId) → holds set v ≡ exports v sub
