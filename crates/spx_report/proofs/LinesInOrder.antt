-- Lists of lines in order.
use Rattle.std.proofs.Common.{◌≡◌, ◌↔◌, List, [], ◌∷◌, map, Less, Equal, Greater, Ordering, true, refl, sym, ap, subst, ◌∙◌, inl, inr, ⊎_elim}
use Rattle.std.specs.Prelude.{IsTrue, All, Contains}
use Rattle.std.specs.List.{dedup}
use Rattle.std.specs.List.Sorted.{IsPermutation, IsSorted, IsStrictlySortedBy}
use Rattle.std.specs.Ordering.{eq_by_cmp, is_eq}
use Rattle.std.proofs.lemmas.Cmp.{eq_by_cmp_equiv}
use Rattle.std.proofs.lemmas.List.Elements.{All-contains, All-from_recursion, All-weaker}
use Rattle.std.proofs.lemmas.List.Kept.{Contains-dedup, Contains-from_dedup, IsStrictlySortedBy-dedup}
use Rattle.std.proofs.lemmas.List.Sorted.{IsPermutation-sym, Contains-permutation}
use Rattle.spx_core.specs.declared.program.Program.{Program}
use Rattle.spx_derives.specs.declared.finding.FlowFinding.{FlowFinding}
use Rattle.spx_report.specs.declared.report.Finding.{Finding}
use Rattle.spx_report.specs.FlowLines.{line_before, flow_line, AreInOrder, AreFlowLines}
use Rattle.spx_report.specs.LineLists.{line_cmp, AreFindingsIn, AreInOrderOf}
use Rattle.spx_report.proofs.LineOrder.{line_cmp_total, cmp_before, lines_same, line_before-irreflexive, line_before-transitive}
use Rattle.spx_report.proofs.Members.{Among, among_contains, contains_among, none_contained, contains_map, map_contains}

-- ---- sorted lines

in_order : (lines : List Finding) → IsStrictlySortedBy line_cmp lines → AreInOrder lines
unfolding IsStrictlySortedBy
in_order [] sorted = tt
in_order (line ∷ lines) sorted = (
  All-weaker (λ other. line_cmp line other ≡ Less) (λ other. IsTrue (line_before line other)) (λ other is. cmp_before line other is) lines (All-from_recursion (λ other. line_cmp line other ≡ Less) lines sorted.0),
  in_order lines sorted.1,
)

equal_is : (o : Ordering) → is_eq o ≡ true → o ≡ Equal
equal_is Less is = absurd (cc)
equal_is Equal is = refl
equal_is Greater is = absurd (cc)

same_line : (a b : Finding) → eq_by_cmp line_cmp a b ≡ true → a ≡ b
same_line a b is = lines_same a b (equal_is (line_cmp a b) is)

pub in_order_of : (old sorted : List Finding) → IsPermutation old sorted → IsSorted line_cmp sorted → AreInOrderOf old (dedup (eq_by_cmp line_cmp) sorted)
in_order_of old sorted moved ascend = record {
  order = in_order (dedup (eq_by_cmp line_cmp) sorted) (IsStrictlySortedBy-dedup line_cmp_total (λ x y. refl) sorted ascend);
  members = λ line. (
    λ c. Contains-permutation sorted old line (IsPermutation-sym old sorted moved) (Contains-from_dedup (eq_by_cmp line_cmp) sorted line c),
    λ c. Contains-dedup (eq_by_cmp_equiv line_cmp_total) same_line sorted line (Contains-permutation old sorted line moved c),
  );
}

-- ---- the lines of findings

abbrev pub AreLinesOf : Program → List FlowFinding → List Finding → Type 0
AreLinesOf p found lines = AreInOrderOf (map (flow_line p) found) lines

pub are_lines : (p : Program) (found lent : List FlowFinding) (made lines : List Finding) → lent ≡ found → made ≡ map (flow_line p) lent → AreInOrderOf made lines → AreLinesOf p found lines
are_lines p found lent made lines same is are = subst (λ old. AreInOrderOf old lines) (is ∙ ap (map (flow_line p)) same) are

pub flow_lines_are : (p : Program) (found : List FlowFinding) (lines : List Finding) → AreFindingsIn p p.subs found → AreLinesOf p found lines → AreFlowLines p lines
flow_lines_are p found lines findings are = record {
  order = are.order;
  exact = λ line. (
    λ c. let w = contains_map (flow_line p) found line ((are.members line).0 c) in (w.0, (findings w.0).0 w.1, w.2),
    λ w. (are.members line).1 (subst (Contains (map (flow_line p) found)) w.2 (map_contains (flow_line p) found w.0 ((findings w.0).1 w.1))),
  );
}

pub no_lines : (p : Program) (found : List FlowFinding) (lines : List Finding) → AreLinesOf p found lines → (lines ≡ []) ↔ (found ≡ [])
no_lines p found lines are = (
  λ empty. none_contained found (λ f c. contains_among [] (flow_line p f) (subst (λ ls. Contains ls (flow_line p f)) empty ((are.members (flow_line p f)).1 (map_contains (flow_line p) found f c)))),
  λ empty. none_contained lines (λ line c. contains_among [] line (subst (λ fs. Contains (map (flow_line p) fs) line) empty ((are.members line).0 c))),
)

-- ---- one list

abbrev Same : List Finding → List Finding → Type 0
Same a b = (line : Finding) → Among a line → Among b line

below : (first line : Finding) (lines : List Finding) → All (λ other. IsTrue (line_before first other)) lines → Among lines line → IsTrue (line_before first line)
below first line lines all in_lines = All-contains (λ other. IsTrue (line_before first other)) lines line all (among_contains lines line in_lines)

-- what does not come before itself
not_again : (first line : Finding) (lines : List Finding) → All (λ other. IsTrue (line_before first other)) lines → Among lines line → first ≡ line → ⊥
not_again first line lines all in_lines is = line_before-irreflexive first (subst (λ l. IsTrue (line_before first l)) (sym is) (below first line lines all in_lines))

heads : (x y : Finding) (xs ys : List Finding) → AreInOrder (x ∷ xs) → AreInOrder (y ∷ ys) → Among (y ∷ ys) x → Among (x ∷ xs) y → x ≡ y
heads x y xs ys order_x order_y x_in y_in =
    ⊎_elim (λ is. sym is)
    (λ x_in_ys. ⊎_elim (λ is. is)
    (λ y_in_xs. absurd (line_before-irreflexive x (line_before-transitive x y x (below x y xs order_x.0 y_in_xs) (below y x ys order_y.0 x_in_ys)))) y_in) x_in

one_list : (a b : List Finding) → AreInOrder a → AreInOrder b → Same a b → Same b a → a ≡ b
one_list [] [] order_a order_b there back = refl
one_list [] (y ∷ ys) order_a order_b there back = absurd (back y (inl refl))
one_list (x ∷ xs) [] order_a order_b there back = absurd (there x (inl refl))
one_list (x ∷ xs) (y ∷ ys) order_a order_b there back =
    let head = heads x y xs ys order_a order_b (there x (inl refl)) (back y (inl refl)) in
    let tail =
    one_list xs ys order_a.1 order_b.1
    (λ line in_xs. ⊎_elim (λ is. absurd (not_again x line xs order_a.0 in_xs (head ∙ is))) (λ in_ys. in_ys) (there line (inr in_xs)))
    (λ line in_ys. ⊎_elim (λ is. absurd (not_again y line ys order_b.0 in_ys (sym head ∙ is))) (λ in_xs. in_xs) (back line (inr in_ys))) in
    λ i. head i ∷ tail i

pub one_list_lem : (p : Program) (a b : List Finding) → AreFlowLines p a → AreFlowLines p b → a ≡ b
one_list_lem p a b are_a are_b =
    one_list a b are_a.order are_b.order
    (λ line in_a. contains_among b line ((are_b.exact line).1 ((are_a.exact line).0 (among_contains a line in_a))))
    (λ line in_b. contains_among a line ((are_a.exact line).1 ((are_b.exact line).0 (among_contains b line in_b))))
