use Rattle.std.proofs.Common.{◌≡◌, length, arith, subst, sym, refl}
use Rattle.std.proofs.lemmas.Bool.{eqb-true, eqb-false}
use Rattle.spx_rows.proofs.Growth.{Gathered, gathered_kept, gathered_clear, gathered_more, gathered_all}
use Rattle.spx_rows.proofs.relation.Relation.set_row.Goals as goal
use Rattle.spx_rows.proofs.relation.Relation.set_row.Goals.{then-not-contains, else-not-contains}

pub loop-x-init : goal.loop-x-init
loop-x-init c = elim c.if-not-contains.branch [
  | then-not-contains w ↦ subst (λ m. Gathered c.args.from.now c.args.to c.args.self.now m 0) (sym w.self-is) (gathered_clear c.args.from.now c.args.to c.args.self.now _ (λ p. eqb-false _ _ (w.if-not-contains.ensures.cases p.0 c.args.to (omega arith) p.1) p.2) w.clear_row.ensures.size w.clear_row.ensures.pairs)
  | else-not-contains w ↦ subst (λ m. Gathered c.args.from.now c.args.to c.args.self.now m 0) (sym w.self-is) (gathered_kept c.args.from.now c.args.to c.args.self.now (let q = w.if-not-contains.ensures.cases in (q.0, q.1, eqb-true _ _ (q.2 c.args.to))))
]

pub loop-x-preserved : goal.loop-x-preserved
loop-x-preserved c = gathered_more c.args.from.now c.args.to c.args.self.now c.loop-x.self _ c.loop-x.x-index _ (omega arith) refl c.loop-x.invariant c.add_row.ensures.size c.add_row.ensures.pairs

pub returns-clause-pairs : goal.returns-clause-pairs
returns-clause-pairs c =
    let at_end : c.loop-x.x-index ≡ length c.args.from.now = omega arith in
    gathered_all c.args.from.now c.args.to c.args.self.now c.loop-x.self (subst (Gathered c.args.from.now c.args.to c.args.self.now c.loop-x.self) at_end c.loop-x.invariant)
