-- What a fault of the lexer says of a text.
use Rattle.std.specs.Prelude.{ℕ, List}
use Rattle.spx_text.specs.declared.place.Place.{Place}
use Rattle.spx_tree.specs.Stops.{Cause as Reason, bad_byte, bad_number, too_wide, StopsAt, HasMoreTokens, most_tokens}
use Rattle.spx_lexer.specs.declared.lexer.pieces.Cause.{Cause}
use Rattle.spx_lexer.specs.declared.lexer.pieces.Cause.TheVariants as cause
use Rattle.spx_lexer.specs.declared.lexer.LexFault.{LexFault}
use Rattle.spx_lexer.specs.declared.lexer.LexFault.TheVariants as fault

abbrev pub reason_of : Cause → Reason
reason_of cause.BadByte = bad_byte
reason_of cause.BadNumber = bad_number
reason_of cause.TooWide = too_wide

-- the fault of a text that is stopped for this cause at this place
abbrev pub fault_of : Reason → Place → LexFault
fault_of bad_byte place = fault.BadByte place
fault_of bad_number place = fault.BadNumber place
fault_of too_wide place = fault.TooWide place

-- the text of a file is stopped as the fault says and has no token too many, or has one; running out of memory says nothing
abbrev pub IsFaultOf : ℕ → List ℕ → LexFault → Type 0
IsFaultOf file bytes (fault.BadByte place) = StopsAt file bytes bad_byte place × (¬ HasMoreTokens most_tokens file bytes)
IsFaultOf file bytes (fault.BadNumber place) = StopsAt file bytes bad_number place × (¬ HasMoreTokens most_tokens file bytes)
IsFaultOf file bytes (fault.TooWide place) = StopsAt file bytes too_wide place × (¬ HasMoreTokens most_tokens file bytes)
IsFaultOf file bytes fault.TooMany = HasMoreTokens most_tokens file bytes
IsFaultOf file bytes fault.Memory = Unit {0}

-- the fault is that the text of a file has a token too many, or that memory ran out, which says nothing of the text
abbrev pub IsLimitOf : ℕ → List ℕ → LexFault → Type 0
IsLimitOf file bytes fault.TooMany = HasMoreTokens most_tokens file bytes
IsLimitOf file bytes fault.Memory = Unit {0}
IsLimitOf file bytes _ = ⊥
