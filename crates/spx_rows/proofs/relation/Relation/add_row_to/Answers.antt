use Rattle.std.proofs.Common.{◌<◌, inl, inr, subst, sym, ⊎_elim}
use Rattle.spx_rows.proofs.SingleRows.{row_bits}
use Rattle.spx_rows.proofs.relation.Relation.add_row_to.Goals as goal

pub returns-clause-numbers : goal.returns-clause-numbers
returns-clause-numbers c w =
    let bits = row_bits c.self.inside.size c.args.self.now c.self.inside.words.items c.self.view_is c.args.u c.row_at.result w c.requires.u c.row_at.ensures.at in
    let added = c.add_words.ensures.numbers w in (
      λ h. ⊎_elim (λ old. inl old) (λ p. inr (bits.0 (subst (λ n. w < n) c.requires.size p.0, p.1))) (added.0 h),
      λ h. added.1 (⊎_elim (λ old. inl old) (λ p. let q = bits.1 p in inr (subst (λ n. w < n) (sym c.requires.size) q.0, q.1)) h),
    )
