use Rattle.std.proofs.Common.{◌∙◌, [], refl, subst, sym}
use Rattle.spx_core.specs.Effects.{reads_in}
use Rattle.spx_core.specs.Mirror.VarSets.{holds}
use Rattle.spx_passes.specs.Loops.{Enters, read_points}
use Rattle.spx_passes.specs.Points.{Places, on_variables}
use Rattle.spx_passes.proofs.AssignLaws.{stands_in_rows, takes_back}
use Rattle.spx_passes.proofs.loops.before_bounds.Goals as goal

pub spread_row-requires-clause-from : goal.spread_row-requires-clause-from
spread_row-requires-clause-from c = stands_in_rows c.args.frame.now c.args.head.now c.args.position c.args.parameter c.requires.beside.ends c.requires.parameter

pub spread-requires-clause-beside : goal.spread-requires-clause-beside
spread-requires-clause-beside c = record { once = c.requires.beside.once; size = c.requires.beside.size; ends = c.spread_row.ensures.size ∙ c.requires.beside.ends; rows = c.requires.beside.rows }

pub returns-in-Some : goal.returns-in-Some
returns-in-Some c =
    let frame = c.args.frame.now in
    let keys = c.args.targets.now.keys in
    let reads = c.in-Some.field-0 in
    let head = c.args.head.now in
    let mid = c.spread_row.new.self in
    let from = c.in_ok-from.from.items in
    let exact = subst (λ b. Places frame from (read_points (reads_in b))) c.in-Some.is c.in_ok-from.ensures.exact in
    let takes = takes_back frame c.requires.beside.once c.args.parameter c.args.position c.requires.parameter reads c.args.place from c.in_ok-from.ensures.within exact head mid (rw c.as_slice-from.ensures.value at c.spread_row.ensures.pairs) in
    let test = c.in_ok-spread-in-Some.ensures (on_variables (λ v. holds keys v)) (read_points reads) (rw (sym c.as_slice-to.ensures.value) at c.in_ok-to-in-Some.ensures.exact) (rw (sym c.as_slice-from.ensures.value) at exact) in
    subst (λ b. Enters frame c.args.parameter b (λ x. on_variables (λ v. holds keys v) x) c.args.place c.args.past.now head c.spread.new.rows c.args.mu.now c.spread.new.list) (sym c.in-Some.is)
    (mid, c.spread_row.ensures.size, takes, test)

pub returns : goal.returns
returns c =
    let frame = c.args.frame.now in
    let keys = c.args.targets.now.keys in
    let head = c.args.head.now in
    let mid = c.spread_row.new.self in
    let from = c.in_ok-from.from.items in
    let exact = subst (λ b. Places frame from (read_points (reads_in b))) c.in-None.is c.in_ok-from.ensures.exact in
    let takes = takes_back frame c.requires.beside.once c.args.parameter c.args.position c.requires.parameter [] c.args.place from c.in_ok-from.ensures.within exact head mid (rw c.as_slice-from.ensures.value at c.spread_row.ensures.pairs) in
    subst (λ b. Enters frame c.args.parameter b (λ x. on_variables (λ v. holds keys v) x) c.args.place c.args.past.now head mid c.args.mu.now c.args.mu.now) (sym c.in-None.is)
    (c.spread_row.ensures.size, takes, refl)
