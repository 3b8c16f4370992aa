use Rattle.std.proofs.Common.{rules, arith, ◌≡◌, ◌-◌, ◌∙◌, ap, length, take, drop, length-drop}
use Rattle.std.proofs.lemmas.List.{take_all}
use Rattle.spx_text.specs.Writes.{after}
use Rattle.spx_text.proofs.Pieces.{after-more}
use Rattle.spx_text.proofs.sink.write_all_pieces.Goals as goal

pub loop-at-preserved : goal.loop-at-preserved
loop-at-preserved g c =
    let at = c.loop-at.at in
    let count = c.in_ok-at.field-0 in
    let bytes = c.args.bytes.now in
    let rest : take (length bytes - at) (drop at bytes) ≡ drop at bytes = take_all _ _ (omega (arith, length-drop at bytes)) in
    record {
      within = search rules;
      taken =
          c.in_ok-at.ensures.taken
          ∙ ap (λ t. after t (take count (take (length bytes - at) (drop at bytes)))) c.loop-at.invariant.taken
          ∙ ap (λ l. after (after (g.S.Sink.taken c.args.sink.now) (take at bytes)) (take count l)) rest
          ∙ after-more _ bytes at count;
      later = search rules;
    }
