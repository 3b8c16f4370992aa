-- Types of no program.
use Rattle.spx_term.specs.declared.value.Shape.TheVariants.{Boolean}
use Rattle.spx_term.specs.Values.{Types}

-- no type is composite
abbrev pub no_composites : Types
no_composites id = Boolean
