use Rattle.spx_tree.specs.Places.{place_after_bytes}
use Rattle.spx_tree.specs.Spells.{bytes_of}
use Rattle.spx_lexer.proofs.Least.{one_least, least_stops}
use Rattle.spx_lexer.proofs.laws.one_least.Goals as goal

pub returns : goal.returns
returns c = record { one = one_least; stopped = λ file bytes tokens e. (place_after_bytes file (bytes_of e.parts), least_stops file bytes tokens e) }
