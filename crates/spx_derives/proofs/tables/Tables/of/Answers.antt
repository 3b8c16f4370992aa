use Rattle.std.proofs.Common.{◌≡◌, ◌==◌, ◌↔◌, ◌∙◌, ℕ, Some, true, is_some, List, slice_get, sym, ap, subst}
use Rattle.std.specs.List.{IsDistinct, list_any}
use Rattle.indexmap.specs.IndexMap.{get}
use Rattle.spx_core.specs.declared.entity.VarId.{VarId}
use Rattle.spx_core.specs.Mirror.DerivesItems.{has_pair}
use Rattle.spx_core.specs.Mirror.VarSets.{place_in_set, positions_of}
use Rattle.spx_core.proofs.Callers.Pairs.{derives_are}
use Rattle.spx_rows.specs.Relations.{Has}
use Rattle.spx_derives.specs.Tables.{first_place, same_var}
use Rattle.spx_derives.proofs.Variables.{position_at}
use Rattle.spx_derives.proofs.tables.Tables.of.Goals as goal

pub returns : goal.returns
returns c =
    let sub = c.args.sub.now in
    let exports = c.in_ok-exports.exports in
    let vars_are = c.in_ok-vars.ensures (subst (IsDistinct (λ (v : VarId) (w : VarId). w.0 == v.0)) (sym c.as_slice.ensures) c.requires.once) ∙ ap positions_of c.as_slice.ensures in
    let at = λ (k : ℕ) (v : VarId) (is : slice_get sub.vars k ≡ Some v). ap (λ set. place_in_set set v) vars_are ∙ position_at sub.vars c.requires.once k v is in
    record {
      pairs_size = c.in_ok-declared.ensures.size ∙ c.requires.size;
      pairs = λ u w x y at_u at_w.
          c.in_ok-declared.ensures.pairs u w x y (at u x at_u) (at w y at_w)
          ∙ ap (list_any (has_pair x y)) c.relation.ensures
          ∙ sym (derives_are x y sub);
      places = λ y. c.in_ok-exports.ensures y ∙ ap (first_place y) c.relation-2.ensures;
      row_size = c.in_ok-exported.ensures.size ∙ c.requires.size;
      row = λ w.
          subst (λ (vars : List VarId). Has c.in_ok-exported.exported w ↔ ((y : VarId) × (slice_get vars w ≡ Some y) × (is_some (get same_var exports y) ≡ true)))
          c.as_slice-2.ensures
          (rw c.get.ensures at (c.in_ok-exported.ensures.row w));
    }
