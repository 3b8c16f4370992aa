use Rattle.std.proofs.Common.{arith, to_z-of_z}
use Rattle.std.proofs.lemmas.Int.{ints}
use Rattle.spx_num.proofs.Divisions.{modulus_of_none, modulus_of_alike, modulus_of_unlike, modulus_fits}
use Rattle.spx_num.proofs.arithmetic.modulo.Goals as goal

pub returns-then-rest-b : goal.returns-then-rest-b
returns-then-rest-b c = grind (arith, ints, to_z-of_z, modulus_of_unlike, modulus_fits)

pub returns-else-rest-ne0 : goal.returns-else-rest-ne0
returns-else-rest-ne0 c = grind (arith, ints, to_z-of_z, modulus_of_none, modulus_of_alike, modulus_fits)
