use Rattle.std.proofs.Common.{◌≡◌, ◌∙◌, List, ap, ap₂, get_or, map, replicate, subst, sym}
use Rattle.std.specs.Prelude.{IfOk}
use Rattle.spx_core.specs.declared.program.Field.{Field}
use Rattle.spx_core.specs.declared.program.TypeRow.{TypeRow}
use Rattle.spx_core.specs.declared.entity.Subtype.{Subtype}
use Rattle.spx_term.specs.declared.value.Value.{Value}
use Rattle.spx_term.specs.declared.value.Value.TheVariants.{Elements, Fields}
use Rattle.spx_term.specs.Values.{count}
use Rattle.spx_meaning.specs.Mirror.{types_before}
use Rattle.spx_meaning.specs.Stores.{first_value}
use Rattle.spx_meaning.proofs.FirstValues.{first_array, first_past, first_record, first_scalar}
use Rattle.spx_meaning.proofs.firsts.+first.Goals as goal

pub first_composite-returns-then-id-size : goal.first_composite-returns-then-id-size
first_composite-returns-then-id-size t c = sym (first_past c.args.program.now c.args.size c.args.id.0 c.requires c.if-id-size.true)

pub first_composite-returns-in-Scalar : goal.first_composite-returns-in-Scalar
first_composite-returns-in-Scalar t c =
    let p = c.args.program.now in
    let k = c.args.id.0 in
    let row = c.index-as_slice-id.result in
    let at = c.index-as_slice-id.is ∙ ap (λ (rows : List TypeRow). get_or rows k row) c.as_slice.ensures in
    subst (λ (x : Value). IfOk c.first_before.result (λ value. value ≡ x)) (sym (first_scalar p c.args.size k row c.if-id-size.false c.requires at c.in-Scalar.is)) c.first_before.ensures

pub first_composite-returns-in_ok-element-in-Array : goal.first_composite-returns-in_ok-element-in-Array
first_composite-returns-in_ok-element-in-Array t c =
    let p = c.args.program.now in
    let k = c.args.id.0 in
    let row = c.index-as_slice-id.result in
    let at = c.index-as_slice-id.is ∙ ap (λ (rows : List TypeRow). get_or rows k row) c.as_slice.ensures in
    let here = c.in-Array in
    let same =
    ap₂ (λ (i : Subtype) (x : Value). Elements i.first (replicate (count i.first i.last) x)) c.get-in-Array.ensures
    (c.in_ok-element-in-Array.ensures ∙ ap (first_value (types_before p k)) c.get.ensures)
    ∙ sym (first_array p c.args.size k row here.index here.element c.if-id-size.false c.requires at here.is)
    in
    subst (λ (x : Value). IfOk c.array_of.result (λ value. value ≡ x)) same c.array_of.ensures

pub first_composite-returns-in_ok-fields-in-Record : goal.first_composite-returns-in_ok-fields-in-Record
first_composite-returns-in_ok-fields-in-Record t c =
    let p = c.args.program.now in
    let k = c.args.id.0 in
    let row = c.index-as_slice-id.result in
    let at = c.index-as_slice-id.is ∙ ap (λ (rows : List TypeRow). get_or rows k row) c.as_slice.ensures in
    ap Fields (c.in_ok-fields-in-Record.ensures ∙ ap (map (λ (field : Field). first_value (types_before p k) field.subtype)) c.as_slice-in-Record.ensures)
    ∙ sym (first_record p c.args.size k row c.in-Record.fields c.if-id-size.false c.requires at c.in-Record.is)
