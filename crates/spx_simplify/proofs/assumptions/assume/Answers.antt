use Rattle.std.proofs.Common.{length, ◌∷◌, [], ◌++◌, ◌<◌, get_or, take, ap, sym, ◌∙◌, subst}
use Rattle.std.proofs.lemmas.List.{map-append, take_more}
use Rattle.spx_arena.specs.declared.terms.TermId.{TermId}
use Rattle.spx_arena.specs.Sharing.{tree_at}
use Rattle.spx_arena.specs.Claims.{trees_at}
use Rattle.spx_arena.proofs.Ids.{id_within}
use Rattle.spx_simplify.specs.Folds.{place_of}
use Rattle.spx_simplify.specs.Tables.{Assumed, Knows}
use Rattle.spx_simplify.proofs.Tables.{changes_more, assumed_more}
use Rattle.spx_simplify.proofs.assumptions.assume.Goals as goal

pub saved-change-requires-clause-within : goal.saved-change-requires-clause-within
saved-change-requires-clause-within c = id_within c.args.facts.now (length c.args.terms.now) c.loop-fact.fact-index (place_of 0) c.requires.within c.loop-fact-test.true

pub add-requires-clause-within : goal.add-requires-clause-within
add-requires-clause-within c = id_within c.args.facts.now (length c.args.terms.now) c.loop-fact.fact-index (place_of 0) c.requires.within c.loop-fact-test.true

pub loop-fact-preserved : goal.loop-fact-preserved
loop-fact-preserved c =
    let ts = c.args.terms.now in
    let ids = c.args.facts.now in
    let i = c.loop-fact.fact-index in
    let n = length ts in
    let fact = get_or ids i (place_of 0) in
    let within = id_within ids n i (place_of 0) c.requires.within c.loop-fact-test.true in
    let same = c.saved-change.ensures.fact in
    record {
      sized = c.add.ensures.sized;
      changes = changes_more n c.loop-fact.changes c.push.new.self c.saved-change.result c.loop-fact.invariant.changes (subst (λ (id : TermId). id.0 < n) (sym same) within) c.in_ok-push.ensures.ok;
      assumed = λ hyps knows.
          subst (λ hs. Assumed ts hyps hs c.add.new.self c.push.new.self)
          (ap (λ (id : TermId). trees_at ts (take i ids) ++ tree_at ts id ∷ []) same ∙ sym (map-append (tree_at ts) (take i ids) (fact ∷ [])) ∙ ap (trees_at ts) (sym (take_more ids i (place_of 0) c.loop-fact-test.true)))
          (assumed_more ts hyps (trees_at ts (take i ids)) c.loop-fact.known c.add.new.self c.loop-fact.changes c.push.new.self c.saved-change.result (c.loop-fact.invariant.assumed hyps knows) c.in_ok-push.ensures.ok c.saved-change.ensures.restores
          (λ hs k. subst (λ (id : TermId). Knows ts (hs ++ tree_at ts id ∷ []) c.add.new.self) (sym same) (c.add.ensures.knows hs k)));
    }
