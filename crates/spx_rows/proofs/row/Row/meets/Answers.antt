use Rattle.std.proofs.Common.{arith, refl, true≢false, sym, ◌∙◌}
use Rattle.spx_rows.proofs.SingleRows.{meets_at, apart_at, apart_all}
use Rattle.spx_rows.proofs.row.Row.meets.Goals as goal

pub returns-then-any_set : goal.returns-then-any_set
returns-then-any_set c = (
  λ _. meets_at c.self.inside.size c.other.inside.size c.args.self.now c.args.other.now c.self.inside.words.items c.other.inside.words.items c.self.view_is c.other.view_is
      c.requires c.self.invariant.0 c.other.invariant.0 c.loop-k.k _ _ (omega arith) c.index.ensures c.index-in-loop-k.ensures (c.any_set.ensures.0 c.if-any_set.true),
  λ _. refl,
)

pub loop-k-preserved : goal.loop-k-preserved
loop-k-preserved c = apart_at c.self.inside.size c.other.inside.size c.args.self.now c.args.other.now c.self.inside.words.items c.other.inside.words.items c.self.view_is c.other.view_is
    c.requires c.self.invariant.0 c.other.invariant.0 c.loop-k.k _ _ (omega arith) c.index.ensures c.index-in-loop-k.ensures
    (λ s. true≢false (sym (c.any_set.ensures.1 s) ∙ c.if-any_set.false)) c.loop-k.invariant

pub returns : goal.returns
returns c = (
  λ h. absurd (true≢false (sym h)),
  λ h. absurd (apart_all c.self.inside.size c.other.inside.size c.args.self.now c.args.other.now c.self.inside.words.items c.other.inside.words.items c.self.view_is c.other.view_is
      c.requires c.self.invariant.0 c.other.invariant.0 c.loop-k.k (omega arith) c.loop-k.invariant h),
)
