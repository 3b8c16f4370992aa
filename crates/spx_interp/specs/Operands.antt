-- The values of operands, which a store has or not.
use Rattle.spx_term.specs.declared.value.Value.{Value}
use Rattle.spx_interp.specs.declared.operand.Held.{Held}
use Rattle.spx_interp.specs.declared.operand.Held.TheVariants.{Lent, Own}

abbrev pub operand_value : Held → Value
operand_value (Lent x) = x.now
operand_value (Own x) = x
