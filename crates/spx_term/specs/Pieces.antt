-- What is printed before, between and after the parts of an operation.
use Rattle.std.specs.Prelude.{List, [], ◌++◌, ℕ, codes}
use Rattle.spx_term.specs.declared.printing.Position.{Position}
use Rattle.spx_term.specs.declared.printing.Position.TheVariants.{Whole, OfOthers, Rest}
use Rattle.spx_term.specs.declared.printing.Names.{Names}
use Rattle.spx_term.specs.declared.term.UnaryOp.{UnaryOp}
use Rattle.spx_term.specs.declared.term.UnaryOp.TheVariants as unary
use Rattle.spx_term.specs.declared.term.BinaryOp.{BinaryOp}
use Rattle.spx_term.specs.declared.term.BinaryOp.TheVariants as binary
use Rattle.spx_term.specs.declared.term.TernaryOp.{TernaryOp}
use Rattle.spx_term.specs.declared.term.TernaryOp.TheVariants as ternary
use Rattle.spx_term.specs.declared.term.Term.{Term}
use Rattle.spx_term.specs.Printing.{field_name, type_name, opening, closing, before_parts, after_parts, span_text, binder_text, end_text}

-- ---- one part

-- before the operand
abbrev pub before_unary : Names → UnaryOp → Position → List ℕ
before_unary names (unary.Field f c) position = []
before_unary names (unary.In id) position = opening position
before_unary names (unary.Others id) position = before_parts (type_name names id) position ++ codes "others => "

-- where the operand is printed
abbrev pub inside_unary : UnaryOp → Position
inside_unary (unary.Field f c) = Whole
inside_unary (unary.In id) = OfOthers
inside_unary (unary.Others id) = Whole

-- after the operand
abbrev pub after_unary : Names → UnaryOp → Position → List ℕ
after_unary names (unary.Field f c) position = codes "." ++ field_name names f
after_unary names (unary.In id) position = codes " in " ++ (type_name names id ++ closing position)
after_unary names (unary.Others id) position = after_parts position

-- ---- two parts

-- the part that is printed first: a component of an aggregate stands before the others
abbrev pub first_part : BinaryOp → Term → Term → Term
first_part (binary.Element t) a b = a
first_part (binary.Update f) a b = a
first_part (binary.Elements id low high) a b = b
first_part (binary.Field f) a b = b

-- the part that is printed last
abbrev pub last_part : BinaryOp → Term → Term → Term
last_part (binary.Element t) a b = b
last_part (binary.Update f) a b = b
last_part (binary.Elements id low high) a b = a
last_part (binary.Field f) a b = a

-- where the last part is printed
abbrev pub last_position : BinaryOp → Position
last_position (binary.Element t) = Whole
last_position (binary.Update f) = Whole
last_position (binary.Elements id low high) = Rest
last_position (binary.Field f) = Rest

-- before the first part
abbrev pub before_binary : Names → BinaryOp → Position → List ℕ
before_binary names (binary.Element t) position = []
before_binary names (binary.Update f) position = []
before_binary names (binary.Elements id low high) position = before_parts (type_name names id) position ++ (span_text low high ++ codes " => ")
before_binary names (binary.Field f) position = before_parts (type_name names f.position) position ++ (field_name names f ++ codes " => ")

-- between the parts
abbrev pub between_binary : Names → BinaryOp → List ℕ
between_binary names (binary.Element t) = codes "["
between_binary names (binary.Update f) = codes "[" ++ (field_name names f ++ codes " => ")
between_binary names (binary.Elements id low high) = []
between_binary names (binary.Field f) = []

-- after the last part
abbrev pub after_binary : BinaryOp → Position → List ℕ
after_binary (binary.Element t) position = codes "]"
after_binary (binary.Update f) position = codes "]"
after_binary (binary.Elements id low high) position = after_parts position
after_binary (binary.Field f) position = after_parts position

-- ---- three parts

-- before the first part
abbrev pub before_ternary : Names → TernaryOp → Position → List ℕ
before_ternary names (ternary.Update id) position = []
before_ternary names (ternary.Quantified q b) position = binder_text names.variables position q b

-- between the first part and the second one
abbrev pub after_first : TernaryOp → List ℕ
after_first (ternary.Update id) = codes "["
after_first (ternary.Quantified q b) = codes " .. "

-- between the second part and the last one
abbrev pub after_second : TernaryOp → List ℕ
after_second (ternary.Update id) = codes " => "
after_second (ternary.Quantified q b) = codes " => ("

-- after the last part
abbrev pub after_ternary : TernaryOp → Position → List ℕ
after_ternary (ternary.Update id) position = codes "]"
after_ternary (ternary.Quantified q b) position = end_text position
