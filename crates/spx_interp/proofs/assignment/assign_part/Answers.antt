use Rattle.std.proofs.Common.{◌∙◌, List, Ok, Err, ap, map, subst, sym, Some}
use Rattle.spx_core.specs.declared.part.PartStep.{PartStep}
use Rattle.spx_core.specs.declared.entity.TheConstants.{UNIVERSAL}
use Rattle.spx_core.specs.Judged.{part_type}
use Rattle.spx_core.specs.Places.{place_of}
use Rattle.spx_meaning.specs.Evaluation.{eval, in_part, with_value, with_way}
use Rattle.spx_meaning.specs.Stores.{types_of}
use Rattle.spx_interp.specs.declared.parts.PlacedStep.{PlacedStep}
use Rattle.spx_interp.specs.Results.{Done, frame_of}
use Rattle.spx_interp.specs.Ways.{OnValue, OnWay, part_set, step_of}
use Rattle.spx_interp.proofs.PartLaws.{after_way, last, part_of_none, part_of_variable, right_stops, way_stops}
use Rattle.spx_interp.proofs.assignment.assign_part.Goals as goal

pub returns-in-Err : goal.returns-in-Err
returns-in-Err c =
    let f = frame_of c.args.body.now in
    let n = c.args.turns in
    let s = c.args.store.now in
    let target = c.args.target.now in
    let e = c.args.expr.now in
    let go = after_way f n s target e in
    let on = subst (λ (way : List PartStep). OnWay (Err c.in-Err.stop) go (with_way f n s way go)) c.as_slice-way.ensures (c.in-Err.ensures go) in
    rw c.step.ensures (way_stops f n s target e c.requires.part c.in-Err.stop s on)

pub returns-in-Err-right_side : goal.returns-in-Err-right_side
returns-in-Err-right_side c =
    let f = frame_of c.args.body.now in
    let n = c.args.turns in
    let s = c.args.store.now in
    let target = c.args.target.now in
    let e = c.args.expr.now in
    let go = after_way f n s target e in
    let steps = map step_of c.in-Ok.steps in
    let way = subst (λ (way : List PartStep). OnWay (Ok c.in-Ok.steps) go (with_way f n s way go)) c.as_slice-way.ensures (c.in-Ok.ensures go) in
    let stop = c.in-Err-right_side.stop in
    let goes = last f n s target e steps in
    let on = subst (λ (way : List PartStep). OnValue (Err stop) goes (with_value (eval f n s e) (λ x. in_part (part_type UNIVERSAL way) (place_of e) x (goes x)))) c.as_slice-way.ensures (c.in-Err-right_side.ensures goes) in
    rw c.step-in-Err-right_side.ensures (right_stops f n s target e c.requires.part steps stop s way on)

pub returns-in-Some : goal.returns-in-Some
returns-in-Some c =
    let f = frame_of c.args.body.now in
    let n = c.args.turns in
    let s = c.args.store.now in
    let target = c.args.target.now in
    let e = c.args.expr.now in
    let go = after_way f n s target e in
    let steps = map step_of c.in-Ok.steps in
    let way = subst (λ (way : List PartStep). OnWay (Ok c.in-Ok.steps) go (with_way f n s way go)) c.as_slice-way.ensures (c.in-Ok.ensures go) in
    let x = c.in-Ok-right_side.value in
    let goes = last f n s target e steps in
    let on = subst (λ (way : List PartStep). OnValue (Ok x) goes (with_value (eval f n s e) (λ x. in_part (part_type UNIVERSAL way) (place_of e) x (goes x)))) c.as_slice-way.ensures (c.in-Ok-right_side.ensures goes) in
    let v = c.in-Some.var in
    subst (Done c.set_part.result c.set_part.new.store)
    (sym
    (part_of_variable f n s target e c.requires.part steps x v way on (sym c.in-Some.ensures)
    ∙ ap (λ (placed : List PlacedStep). Some (part_set (types_of f.program) target.root.name.place v (map step_of placed) x s)) (sym c.as_slice.ensures)))
    (c.set_part.ensures (types_of f.program))

pub returns : goal.returns
returns c =
    let f = frame_of c.args.body.now in
    let n = c.args.turns in
    let s = c.args.store.now in
    let target = c.args.target.now in
    let e = c.args.expr.now in
    let go = after_way f n s target e in
    let steps = map step_of c.in-Ok.steps in
    let way = subst (λ (way : List PartStep). OnWay (Ok c.in-Ok.steps) go (with_way f n s way go)) c.as_slice-way.ensures (c.in-Ok.ensures go) in
    let x = c.in-Ok-right_side.value in
    let goes = last f n s target e steps in
    let on = subst (λ (way : List PartStep). OnValue (Ok x) goes (with_value (eval f n s e) (λ x. in_part (part_type UNIVERSAL way) (place_of e) x (goes x)))) c.as_slice-way.ensures (c.in-Ok-right_side.ensures goes) in
    part_of_none f n s target e c.requires.part steps x way on (sym c.in-None.ensures)
