-- Parts, and wholes with another part, by ids.
use Rattle.std.proofs.Common.{◌≡◌, ◌<◌, List, length, Result, sym, ap, ◌∙◌}
use Rattle.std.specs.Prelude.{IfOk}
use Rattle.std.proofs.lemmas.Result.{IfOk-weaker}
use Rattle.spx_text.specs.declared.place.Place.{Place}
use Rattle.spx_core.specs.declared.expression.CoreExpr.{CoreExpr}
use Rattle.spx_core.specs.declared.part.Indexing.{Indexing}
use Rattle.spx_core.specs.declared.part.PartStep.{PartStep}
use Rattle.spx_core.specs.declared.part.PartStep.TheVariants as part
use Rattle.spx_core.specs.declared.program.Program.{Program}
use Rattle.spx_meaning.specs.Parts.{array_of}
use Rattle.spx_term.specs.declared.term.Term.{Term}
use Rattle.spx_term.specs.Parts.{TermStep, indexed_by, part_term, with_part_term}
use Rattle.spx_formula.specs.Terms.{element_term, now_term, step_of, term_of}
use Rattle.spx_arena.specs.declared.terms.TermId.{TermId}
use Rattle.spx_arena.specs.Sharing.{Adds, tree_at}
use Rattle.spx_arena.proofs.Growth.{adds_along, grows_twice}

module _ (p : Program) (s : PartStep) where
  abbrev step : PartStep → TermStep
  step = step_of p (now_term p)

  module _ {E : Type 0} (r : Result TermId E) where
    -- the part to which a step leads
    pub element_there : {old mid : List Term} (new : List Term) {index whole : TermId} {j : CoreExpr} {y : Indexing} (place : Place) (i : CoreExpr) (x : Indexing) → s ≡ part.Index place i x → whole.0 < length old → j ≡ i → y ≡ x → Adds old mid index (term_of p (now_term p) j)
        → IfOk r (λ id. Adds mid new id (element_term y (tree_at mid whole) (tree_at mid index))) → IfOk r (λ id. Adds old new id (part_term (step s) (tree_at old whole)))
    element_there {old} {mid} new {index} {whole} place i x is w same_i same_x a made =
        let e = (λ n. element_term (same_x n) (a.grown.kept whole w n) ((a.made.tree ∙ ap (term_of p (now_term p)) same_i) n)) ∙ ap (λ (t : PartStep). part_term (step t) (tree_at old whole)) (sym is) in
        IfOk-weaker r _ _ (λ id b. record { grown = grows_twice a.grown b.grown; made = (adds_along b e).made }) made

    -- the whole with another part there
    pub element_put : {old mid : List Term} (new : List Term) {index whole value : TermId} {j : CoreExpr} {y : Indexing} (place : Place) (i : CoreExpr) (x : Indexing) → s ≡ part.Index place i x → whole.0 < length old → value.0 < length old → j ≡ i → y ≡ x → Adds old mid index (term_of p (now_term p) j)
        → IfOk r (λ id. Adds mid new id (with_part_term (indexed_by (array_of y) (tree_at mid index)) (tree_at mid whole) (tree_at mid value))) → IfOk r (λ id. Adds old new id (with_part_term (step s) (tree_at old whole) (tree_at old value)))
    element_put {old} {mid} new {index} {whole} {value} place i x is w v same_i same_x a made =
        let e = (λ n. with_part_term (indexed_by (array_of (same_x n)) ((a.made.tree ∙ ap (term_of p (now_term p)) same_i) n)) (a.grown.kept whole w n) (a.grown.kept value v n))
        ∙ ap (λ (t : PartStep). with_part_term (step t) (tree_at old whole) (tree_at old value)) (sym is) in
        IfOk-weaker r _ _ (λ id b. record { grown = grows_twice a.grown b.grown; made = (adds_along b e).made }) made
