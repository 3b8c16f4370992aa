use Rattle.std.proofs.Common.{ap, refl, ◌∙◌}
use Rattle.spx_term.specs.Intervals.{reads_binary, reads_unary}
use Rattle.spx_arena.specs.declared.terms.Node.TheVariants as node
use Rattle.spx_simplify.proofs.Components.{binary_reads, binary_reads_none, elements_reads_none, field_reads_none, in_reads_none, others_reads_none, reads_element, reads_field, reads_none, unary_reads, unary_reads_none, update_reads_none}
use Rattle.spx_simplify.proofs.known.whole_of.Goals as goal

pub returns-in-Field : goal.returns-in-Field
returns-in-Field c =
    unary_reads c.args.terms.now c.args.id c.in-Unary.op c.in-Unary.operand (ap reads_unary c.in-Field.is ∙ reads_field c.in-Field.field-0 c.in-Field.field-1) c.in-Unary.ensures.tree c.in-Unary.ensures.below

pub returns-in-In : goal.returns-in-In
returns-in-In c = unary_reads_none c.args.terms.now c.args.id c.in-Unary.op c.in-Unary.operand (ap reads_unary c.in-In.is ∙ in_reads_none c.in-In.field-0) c.in-Unary.ensures.tree

pub returns-in-Others : goal.returns-in-Others
returns-in-Others c = unary_reads_none c.args.terms.now c.args.id c.in-Unary.op c.in-Unary.operand (ap reads_unary c.in-Others.is ∙ others_reads_none c.in-Others.field-0) c.in-Unary.ensures.tree

pub returns-in-Element : goal.returns-in-Element
returns-in-Element c =
    binary_reads c.args.terms.now c.args.id c.in-Binary.op c.in-Binary.left c.in-Binary.field-2 (ap reads_binary c.in-Element.is ∙ reads_element c.in-Element.field-0) c.in-Binary.ensures.tree c.in-Binary.ensures.below.0

pub returns-in-Update : goal.returns-in-Update
returns-in-Update c = binary_reads_none c.args.terms.now c.args.id c.in-Binary.op c.in-Binary.left c.in-Binary.field-2 (ap reads_binary c.in-Update.is ∙ update_reads_none c.in-Update.field-0) c.in-Binary.ensures.tree

pub returns-in-Elements : goal.returns-in-Elements
returns-in-Elements c =
    binary_reads_none c.args.terms.now c.args.id c.in-Binary.op c.in-Binary.left c.in-Binary.field-2 (ap reads_binary c.in-Elements.is ∙ elements_reads_none c.in-Elements.field-0 c.in-Elements.field-1 c.in-Elements.field-2) c.in-Binary.ensures.tree

pub returns-in-Field-op : goal.returns-in-Field-op
returns-in-Field-op c = binary_reads_none c.args.terms.now c.args.id c.in-Binary.op c.in-Binary.left c.in-Binary.field-2 (ap reads_binary c.in-Field-op.is ∙ field_reads_none c.in-Field-op.field-0) c.in-Binary.ensures.tree

pub returns-in-Number : goal.returns-in-Number
returns-in-Number c = reads_none c.args.terms.now c.args.id (node.Number c.in-Number.field-0) refl c.in-Number.ensures.tree

pub returns-in-Truth : goal.returns-in-Truth
returns-in-Truth c = reads_none c.args.terms.now c.args.id (node.Truth c.in-Truth.field-0) refl c.in-Truth.ensures.tree

pub returns-in-Variable : goal.returns-in-Variable
returns-in-Variable c = reads_none c.args.terms.now c.args.id (node.Variable c.in-Variable.field-0) refl c.in-Variable.ensures.tree

pub returns-in-Prefix : goal.returns-in-Prefix
returns-in-Prefix c = reads_none c.args.terms.now c.args.id (node.Prefix c.in-Prefix.field-0 c.in-Prefix.field-1) refl c.in-Prefix.ensures.tree

pub returns-in-Infix : goal.returns-in-Infix
returns-in-Infix c = reads_none c.args.terms.now c.args.id (node.Infix c.in-Infix.field-0 c.in-Infix.field-1 c.in-Infix.field-2) refl c.in-Infix.ensures.tree

pub returns-in-Blank : goal.returns-in-Blank
returns-in-Blank c = reads_none c.args.terms.now c.args.id (node.Blank c.in-Blank.field-0) refl c.in-Blank.ensures.tree

pub returns-in-Ternary : goal.returns-in-Ternary
returns-in-Ternary c = reads_none c.args.terms.now c.args.id (node.Ternary c.in-Ternary.field-0 c.in-Ternary.field-1 c.in-Ternary.field-2 c.in-Ternary.field-3) refl c.in-Ternary.ensures.tree
