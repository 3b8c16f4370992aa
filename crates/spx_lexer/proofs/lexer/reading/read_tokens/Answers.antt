use Rattle.std.proofs.Common.{◌+◌, ◌<◌, length, sym, ap, ◌∙◌, arith, length-drop}
use Rattle.std.proofs.lemmas.Bool.{ltb-true, ltb-false}
use Rattle.spx_tree.specs.Stops.{most_tokens}
use Rattle.spx_lexer.specs.Positions.{count_of}
use Rattle.spx_lexer.proofs.Reading.{read_none, turn}
use Rattle.spx_lexer.proofs.TokenCount.{few_at_end, few_at_stop, count_more, more_tokens}
use Rattle.spx_lexer.proofs.lexer.reading.read_tokens.Goals as goal

pub loop-rest-init : goal.loop-rest-init
loop-rest-init c =
    record { read = read_none c.args.file c.args.source.now _ c.in_ok-list.ensures.items; few = omega (arith, ap length c.in_ok-list.ensures.items); offset = omega arith; line = omega arith; column = omega arith }

pub loop-rest-preserved : goal.loop-rest-preserved
loop-rest-preserved c =
    let at = c.loop-rest in
    let some : 0 < length at.rest.now = omega arith in
    let within = c.in-Ok.ensures.within in
    let back = c.split_at.ensures.back in
    record {
      read =
          turn c.args.file c.args.source.now at.list.items _ at.at _ at.rest.now _ c.in-Ok.piece at.invariant.read some (sym c.in-Ok.is ∙ c.piece_at.ensures.value) c.in_ok-add.ensures
          c.after-at.ensures.value back;
      few =
          omega (
            arith,
            count_more at.list.items _ at.at c.in-Ok.piece c.in_ok-add.ensures,
            ltb-false most_tokens (c.len.result + count_of c.in-Ok.piece.what) (sym c.is_too_many.ensures ∙ c.if-is_too_many.false),
          );
      offset = omega (arith, ap length back, length-drop c.in-Ok.piece.len at.rest.now);
      line = omega arith;
      column = omega arith;
    }

-- where the text is stopped
pub returns-in-Err-clause-few : goal.returns-in-Err-clause-few
returns-in-Err-clause-few c =
    let at = c.loop-rest in
    few_at_stop most_tokens c.args.file c.args.source.now at.list.items at.at at.rest.now c.in-Err.cause at.invariant.read at.invariant.few (omega arith) (sym c.in-Err.is ∙ c.piece_at.ensures.value)

pub returns-in-Err-clause-end : goal.returns-in-Err-clause-end
returns-in-Err-clause-end c = (omega arith, sym c.in-Err.is ∙ c.piece_at.ensures.value)

-- where it has a token too many
pub returns-then-is_too_many-clause-refused : goal.returns-then-is_too_many-clause-refused
returns-then-is_too_many-clause-refused c =
    let at = c.loop-rest in
    let many : most_tokens < length at.list.items + count_of c.in-Ok.piece.what =
    omega (arith, ltb-true most_tokens (c.len.result + count_of c.in-Ok.piece.what) (sym c.is_too_many.ensures ∙ c.if-is_too_many.true)) in
    more_tokens most_tokens c.args.file c.args.source.now at.list.items at.at at.rest.now c.in-Ok.piece at.invariant.read (omega arith) (sym c.in-Ok.is ∙ c.piece_at.ensures.value) many

-- where it ends
pub returns-clause-few : goal.returns-clause-few
returns-clause-few c = let at = c.loop-rest in few_at_end most_tokens c.args.file c.args.source.now at.list.items at.at at.rest.now at.invariant.read at.invariant.few (omega arith)

pub returns-clause-end : goal.returns-clause-end
returns-clause-end c = omega arith
