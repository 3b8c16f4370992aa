use Rattle.std.proofs.Common.{below_more}
use Rattle.spx_simplify.specs.Folds.{place_of}
use Rattle.spx_simplify.specs.Tables.{IsMade}
use Rattle.spx_simplify.proofs.Places.{keeps_twice, gives_made}
use Rattle.spx_simplify.proofs.known.Known.fill.Goals as goal

pub loop-at-preserved : goal.loop-at-preserved
loop-at-preserved c =
    let i = c.loop-at.invariant in
    let made = c.in_ok-make.ensures in
    let here = made.keeps in
    record {
      keeps = keeps_twice i.keeps here;
      knows = λ hyps knows. made.knows hyps (i.knows hyps knows);
      made = below_more (λ k. IsMade c.make.new.self.made.items (place_of k)) c.loop-at.at (λ k w. here.kept (place_of k) (i.made k w)) (gives_made made.gives);
    }

pub returns-clause-keeps : goal.returns-clause-keeps
returns-clause-keeps c = keeps_twice c.loop-at.invariant.keeps c.in_ok-interval.ensures.keeps
