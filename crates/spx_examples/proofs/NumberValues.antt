-- The values of numbers.
use Rattle.std.proofs.Common.{inl, inr, [], refl, arith}
use Rattle.std.specs.Prelude.{codes}
use Rattle.spx_tree.specs.Numbers.{IsNumeral, IsNumber, IsExponent, none, some, decimal, based}

-- `1_000`
with_underscore : IsNumeral 10 (codes "1_000")
with_underscore = (omega arith, inr (refl, (omega arith, inl (omega arith, inl (omega arith, tt)))))

pub thousand : IsNumber (codes "1_000") 1000
thousand = decimal (codes "1_000") [] 0 refl with_underscore (none refl refl) refl

one : IsNumeral 10 (codes "1")
one = (omega arith, tt)

three : IsNumeral 10 (codes "3")
three = (omega arith, tt)

-- `E+3`
cube : IsExponent (codes "E+3") 3
cube = some 69 (codes "+") (codes "3") refl (inl refl) (inr refl) three refl

pub thousand_by_exponent : IsNumber (codes "1E+3") 1000
thousand_by_exponent = decimal (codes "1") (codes "E+3") 3 refl one cube refl

sixteen : IsNumeral 10 (codes "16")
sixteen = (omega arith, inl (omega arith, tt))

pub all_bits : IsNumber (codes "16#FF#") 255
all_bits = based (codes "16") (codes "FF") [] 0 refl sixteen (omega arith) (omega arith) (omega arith, inl (omega arith, tt)) (none refl refl) refl

-- `E1`
once : IsExponent (codes "E1") 1
once = some 69 [] (codes "1") refl (inl refl) (inl refl) one refl

pub fifteen_sixteens : IsNumber (codes "16#f#E1") 240
fifteen_sixteens = based (codes "16") (codes "f") (codes "E1") 1 refl sixteen (omega arith) (omega arith) (omega arith, tt) once refl
