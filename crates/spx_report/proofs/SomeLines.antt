-- A program has a list of flow lines: lines can be put in order one by one.
use Rattle.std.proofs.Common.{◌≡◌, ◌↔◌, ◌⊎◌, List, [], ◌∷◌, map, Less, Equal, Greater, Ordering, refl, sym, ap, subst, ◌∙◌, inl, inr, ⊎_elim}
use Rattle.std.specs.Prelude.{IsTrue, All, Contains}
use Rattle.std.specs.Ordering.{ordering_reverse}
use Rattle.std.proofs.lemmas.List.Elements.{All-contains, Contains-get_or}
use Rattle.spx_core.specs.declared.program.Program.{Program}
use Rattle.spx_core.specs.declared.subprogram.Sub.{Sub}
use Rattle.spx_core.proofs.Callers.Listings.{Listing, after, elements}
use Rattle.spx_derives.specs.declared.finding.FlowFinding.{FlowFinding}
use Rattle.spx_derives.specs.FlowFindings.{Finds}
use Rattle.spx_report.specs.declared.report.Finding.{Finding}
use Rattle.spx_report.specs.FlowLines.{line_before, flow_line, AreInOrder, AreFlowLines}
use Rattle.spx_report.specs.LineLists.{line_cmp, AreFindingsIn, AreInOrderOf}
use Rattle.spx_report.proofs.LineOrder.{line_cmp_total, cmp_before, lines_same, line_before-transitive}
use Rattle.spx_report.proofs.LinesInOrder.{flow_lines_are}
use Rattle.spx_report.proofs.Members.{Among, among_contains, contains_among}

-- ---- lines in order

-- the line comes before all of these
abbrev Precedes : Finding → List Finding → Type 0
Precedes line lines = All (λ other. IsTrue (line_before line other)) lines

precedes : (line : Finding) (lines : List Finding) → ((other : Finding) → Among lines other → IsTrue (line_before line other)) → Precedes line lines
precedes line lines each k d lt = each _ (contains_among lines _ (Contains-get_or lines k d lt))

preceded : (line other : Finding) (lines : List Finding) → Precedes line lines → Among lines other → IsTrue (line_before line other)
preceded line other lines all is = All-contains (λ o. IsTrue (line_before line o)) lines other all (among_contains lines other is)

-- the lines and one more, in order
abbrev WithLine : Finding → List Finding → Type 0
WithLine line lines = (new : List Finding) × AreInOrder new × ((other : Finding) → Among new other ↔ ((line ≡ other) ⊎ Among lines other))

-- before the first of the lines, in its place or after it
put_by : (line first : Finding) (lines : List Finding) → AreInOrder (first ∷ lines) → WithLine line lines → (o : Ordering) → line_cmp line first ≡ o → WithLine line (first ∷ lines)
put_by line first lines order rest Less is =
    let before : IsTrue (line_before line first) = cmp_before line first is in
    let all : Precedes line (first ∷ lines) = precedes line (first ∷ lines) (λ other among. ⊎_elim
    (λ e. subst (λ o. IsTrue (line_before line o)) e before)
    (λ later. line_before-transitive line first other before (preceded first other lines order.0 later))
    among) in
    (line ∷ first ∷ lines, (all, order), λ other. (λ is. is, λ is. is))
put_by line first lines order rest Equal is =
    (first ∷ lines, order, λ other. (λ among. inr among, λ h. ⊎_elim (λ e. inl (sym (lines_same line first is) ∙ e)) (λ among. among) h))
put_by line first lines order rest Greater is =
    let before : IsTrue (line_before first line) = cmp_before first line (line_cmp_total.antisymm first line ∙ ap ordering_reverse is) in
    let all : Precedes first rest.0 = precedes first rest.0 (λ other among. ⊎_elim
    (λ e. subst (λ o. IsTrue (line_before first o)) e before)
    (λ old. preceded first other lines order.0 old)
    ((rest.2 other).0 among)) in (
      first ∷ rest.0,
      (all, rest.1),
      λ other. (
        λ among. ⊎_elim (λ e. inr (inl e)) (λ later. ⊎_elim (λ e. inl e) (λ old. inr (inr old)) ((rest.2 other).0 later)) among,
        λ h. ⊎_elim (λ e. inr ((rest.2 other).1 (inl e))) (λ old. ⊎_elim (λ e. inl e) (λ later. inr ((rest.2 other).1 (inr later))) old) h,
      ),
    )

put : (line : Finding) (lines : List Finding) → AreInOrder lines → WithLine line lines
put line [] order = (line ∷ [], (precedes line [] (λ other is. absurd is), tt), λ other. (λ is. is, λ is. is))
put line (first ∷ lines) order = put_by line first lines order (put line lines order.1) (line_cmp line first) refl

abbrev Ordered : List Finding → Type 0
Ordered old = (new : List Finding) × AreInOrder new × ((line : Finding) → Among new line ↔ Among old line)

ordered : (old : List Finding) → Ordered old
ordered [] = ([], tt, λ line. (λ is. is, λ is. is))
ordered (first ∷ old) =
    let rest = ordered old in
    let new = put first rest.0 rest.1 in (
      new.0,
      new.1,
      λ line. (
        λ is. ⊎_elim (λ e. inl e) (λ later. inr ((rest.2 line).0 later)) ((new.2 line).0 is),
        λ is. (new.2 line).1 (⊎_elim (λ e. inl e) (λ later. inr ((rest.2 line).1 later)) is),
      ),
    )

pub in_some_order : (old : List Finding) → (new : List Finding) × AreInOrderOf old new
in_some_order old = let o = ordered old in (
  o.0,
  record {
    order = o.1;
    members = λ line. (
      λ is. among_contains old line ((o.2 line).0 (contains_among o.0 line is)),
      λ is. among_contains o.0 line ((o.2 line).1 (contains_among old line is)),
    );
  },
)

-- ---- the findings of a program

abbrev pub SomeFindings : Type 0
SomeFindings = (p : Program) (sub : Sub) → (found : List FlowFinding) × ((f : FlowFinding) → Contains found f ↔ Finds p sub f)

module _ (some : SomeFindings) (p : Program) where
  of_sub : (sub : Sub) → Listing (Finds p sub)
  of_sub sub = let found = some p sub in record { list = found.0; exact = found.1 }

  of_program : (found : List FlowFinding) × AreFindingsIn p p.subs found
  of_program =
      let l = after (elements p.subs) of_sub in (
        l.list,
        λ f. (
          λ is. let h = (l.exact f).0 is in (h.1.0, h.0, h.1.1, h.1.2, h.2),
          λ a. (l.exact f).1 (a.1, (a.0, a.2, a.3), a.4),
        ),
      )

  pub some_lines : (lines : List Finding) × AreFlowLines p lines
  some_lines =
      let found = of_program in
      let lines = in_some_order (map (flow_line p) found.0) in
      (lines.0, flow_lines_are p found.0 lines.0 found.1 lines.1)
