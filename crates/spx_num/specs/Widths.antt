-- Numbers that have at most 128 bits.
use Rattle.std.specs.Prelude.{◌^◌, Bool, nat_lt, ℤ, pos, negsuc, FitsSigned, Option, Some, None, if◌then◌else◌}
use Rattle.std.specs.Bool.{Decides}
use Rattle.std.specs.Int.{w128}
use Rattle.std.proofs.lemmas.Bool.Decides.{Decides-ltb}
use Rattle.std.proofs.lemmas.Int.{to_z-of_z}

-- whether a number fits
unfoldable pub fits : ℤ → Bool
fits (pos n) = nat_lt n (2 ^ 127)
fits (negsuc n) = nat_lt n (2 ^ 127)

-- the number, where it fits
abbrev pub fitting : ℤ → Option ℤ
fitting z = if fits z then Some z else None

pub fits-Decides : (z : ℤ) → Decides (fits z) (FitsSigned w128 z)
unfolding fits
fits-Decides (pos n) = let d = Decides-ltb n (2 ^ 127) in (λ h. record { sfits = d.0 h }, λ f. d.1 f.sfits)
fits-Decides (negsuc n) = let d = Decides-ltb n (2 ^ 127) in (λ h. record { sfits = d.0 h }, λ f. d.1 f.sfits)

-- what the test says, for numbers in code
pub ruleset fits_laws = (fits-Decides, to_z-of_z)
