use Rattle.std.proofs.Common.{arith, ◌<◌, ◌∙◌, length}
use Rattle.std.proofs.Math.ListN.{length-set}
use Rattle.std.proofs.lemmas.List.{take_more_set, map_more}
use Rattle.std.specs.Char.{to_ascii_lowercase}
use Rattle.spx_text.proofs.text.write_lowercase.Goals as goal

pub loop-i-preserved : goal.loop-i-preserved
loop-i-preserved g c =
    let i = c.loop-i.i in
    let byte = c.to_ascii_lowercase.result in
    let room : i < length c.loop-i.lower = omega arith in
    let written = take_more_set c.loop-i.lower i byte room in
    let lowered = map_more to_ascii_lowercase c.args.bytes.now i 0 c.loop-i-test.true in
    record {
      same_room = length-set c.loop-i.lower i byte ∙ c.loop-i.invariant.same_room;
      filled = cc;
    }
