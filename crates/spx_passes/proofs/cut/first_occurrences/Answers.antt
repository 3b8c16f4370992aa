use Rattle.std.proofs.Common.{◌≡◌, ℕ, List, ◌≤◌, ◌+◌, ◌++◌, ◌∷◌, ◌∙◌, [], All, ap, length, refl, subst, sym, take}
use Rattle.std.proofs.lemmas.List.{take_all, take_more}
use Rattle.std.proofs.lemmas.List.Elements.{All-contains, All-nil}
use Rattle.spx_passes.specs.declared.occurrence.Occurrence.{Occurrence}
use Rattle.spx_passes.proofs.CutLaws.{ListCut, list_more, list_none}
use Rattle.spx_passes.proofs.cut.first_occurrences.Goals as goal

whole : (count k : ℕ) (items list cut : List Occurrence) → items ≡ list → length items ≤ k → ListCut count (take k items) cut → ListCut count list cut
whole count k items list cut same past all = subst (λ xs. ListCut count xs cut) (take_all k items past ∙ same) all

pub first_numbers-requires : goal.first_numbers-requires
first_numbers-requires c =
    let size = c.args.size in
    let o = c.occurrence-item.result in
    let rows = subst (All (λ (x : Occurrence). length x.vars ≡ size)) (sym c.as_slice-occurrence-items.ensures) c.requires.rows in
    let long = All-contains (λ (x : Occurrence). length x.vars ≡ size) c.as_slice-occurrence-items.result.now o rows (c.loop-occurrence.occurrence-index, c.loop-occurrence-test.true, sym c.occurrence-item.is) in
    record { count = subst (λ n. c.args.count ≤ n) (sym long) c.requires.count }

pub loop-occurrence-init : goal.loop-occurrence-init
loop-occurrence-init c =
    subst (ListCut c.args.count []) (sym c.new-cut.ensures) (list_none c.args.count (All-nil (λ (x : Occurrence). length x.vars ≡ c.args.count)))

pub loop-occurrence-preserved : goal.loop-occurrence-preserved
loop-occurrence-preserved c =
    let list = c.as_slice-occurrence-items.result.now in
    let k = c.loop-occurrence.occurrence-index in
    let o = c.occurrence-item.result in
    let new : Occurrence = record { place = o.place; vars = c.in_ok-vars.vars } in
    let mid = c.loop-occurrence.cut in
    subst (ListCut c.args.count (take (k + 1) list)) (sym c.in_ok-push.ensures.ok)
    (subst (λ xs. ListCut c.args.count xs (mid ++ new ∷ [])) (sym (take_more list k o c.loop-occurrence-test.true ∙ ap (λ x. take k list ++ x ∷ []) (sym c.occurrence-item.is)))
    (list_more c.args.count (take k list) mid o new c.loop-occurrence.invariant c.in_ok-vars.ensures.0 c.in_ok-vars.ensures.1 refl))

pub returns-clause-related : goal.returns-clause-related
returns-clause-related c p b less =
    let all = whole c.args.count c.loop-occurrence.occurrence-index c.as_slice-occurrence-items.result.now c.args.list c.loop-occurrence.cut c.as_slice-occurrence-items.ensures c.loop-occurrence-test.false c.loop-occurrence.invariant in
    (λ h. let k = (all.related p b).0 h in k.1, λ h. (all.related p b).1 (less, h))

pub returns-clause-listed : goal.returns-clause-listed
returns-clause-listed c p =
    let all = whole c.args.count c.loop-occurrence.occurrence-index c.as_slice-occurrence-items.result.now c.args.list c.loop-occurrence.cut c.as_slice-occurrence-items.ensures c.loop-occurrence-test.false c.loop-occurrence.invariant in
    all.listed p
