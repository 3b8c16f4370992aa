-- Limits, and what a fault says of a program.
use Rattle.std.specs.Prelude.{◌≡◌, ⊤, ℕ, Bool, true, List, Option, Some, codes}
use Rattle.spx_report.specs.declared.limit.LimitName.{LimitName}
use Rattle.spx_report.specs.declared.limit.LimitName.TheVariants.{FileSize, Tokens, Nesting, Variables, Paths, Nodes, Elements, Bits}
use Rattle.spx_report.specs.declared.limit.FindFault.{FindFault}
use Rattle.spx_report.specs.declared.limit.FindFault.TheVariants.{Limit, Memory}

-- `limit: NAME, at most NUMBER`
abbrev pub limit_text : LimitName → List ℕ
limit_text FileSize = codes "limit: file size, at most 4194304\n"
limit_text Tokens = codes "limit: tokens, at most 1000000\n"
limit_text Nesting = codes "limit: nesting, at most 200\n"
limit_text Variables = codes "limit: variables, at most 4096\n"
limit_text Paths = codes "limit: paths, at most 4096\n"
limit_text Nodes = codes "limit: nodes, at most 1000000\n"
limit_text Elements = codes "limit: elements, at most 1000000\n"
limit_text Bits = codes "limit: bits, at most 128\n"

-- the fault is this limit, and the test says that it is passed; or else memory ran out
abbrev pub IsFaultWhere : LimitName → Bool → FindFault → Type 0
IsFaultWhere limit is_passed (Limit name) = (name ≡ limit) × (is_passed ≡ true)
IsFaultWhere limit is_passed Memory = ⊤

-- the fault is the limit that is passed; or else memory ran out
abbrev pub IsFaultOf : Option LimitName → FindFault → Type 0
IsFaultOf passed (Limit name) = passed ≡ Some name
IsFaultOf passed Memory = ⊤
