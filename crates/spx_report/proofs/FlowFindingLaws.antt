-- The findings on the flow of a program.
use Rattle.std.proofs.Common.{◌≡◌, ◌↔◌, ◌<◌, ◌+◌, ℕ, List, [], ◌∷◌, ◌++◌, length, get_or, take, sym, ap, subst, ◌∙◌, ⊎_elim}
use Rattle.std.specs.Prelude.{Contains}
use Rattle.std.proofs.lemmas.List.Elements.{Contains-get_or, Contains-append_left, Contains-append_right, Contains-append_cases, Contains-push, Contains-push_cases}
use Rattle.std.proofs.lemmas.Grind.{take_at_read}
use Rattle.spx_core.specs.declared.program.Program.{Program}
use Rattle.spx_core.specs.declared.subprogram.Sub.{Sub}
use Rattle.spx_core.specs.FlowRules.{HasNoFinding, HasNoFlowFinding}
use Rattle.spx_derives.specs.declared.finding.FlowFinding.{FlowFinding}
use Rattle.spx_derives.specs.declared.finding.FlowFinding.TheVariants as finding
use Rattle.spx_derives.specs.Places.{export_place}
use Rattle.spx_derives.specs.FlowFindings.{Finds, missing, unused, ineffective, unset, AreFindingsOf}
use Rattle.spx_report.specs.LineLists.{AreFindingsIn}
use Rattle.spx_report.proofs.Members.{contains_among, none_contained}

-- ---- none

no_finding : (p : Program) (sub : Sub) → HasNoFinding p sub → (f : FlowFinding) → ¬ Finds p sub f
no_finding p sub none _ (missing {x} {y} m) = none.none_missing x y m
no_finding p sub none _ (unused {x} {y} u) = none.none_unused x y u
no_finding p sub none _ (ineffective {place} i) = none.none_ineffective place i
no_finding p sub none _ (unset {place} {v} m) = none.none_unset place v m

finds_nothing : (p : Program) (sub : Sub) → ((f : FlowFinding) → ¬ Finds p sub f) → HasNoFinding p sub
finds_nothing p sub none = record {
  none_missing = λ x y m. none (finding.Missing (export_place sub y) x y) (missing m);
  none_unused = λ x y u. none (finding.Unused (export_place sub y) x y) (unused u);
  none_ineffective = λ place i. none (finding.Ineffective place) (ineffective i);
  none_unset = λ place v m. none (finding.UnsetRead place v) (unset m);
}

pub are_none : (p : Program) (found : List FlowFinding) → AreFindingsIn p p.subs found → (found ≡ []) ↔ HasNoFlowFinding p
are_none p found are = (
  λ empty k d lt.
      let sub = get_or p.subs k d in
      let c = Contains-get_or p.subs k d lt in
      finds_nothing p sub (λ f finds. contains_among [] f (subst (λ xs. Contains xs f) empty ((are f).1 (c.0, sub, c.1, c.2, finds)))),
  λ all. none_contained found (λ f c.
      let a = (are f).0 c in
      no_finding p a.1 (subst (HasNoFinding p) a.3 (all a.0 a.1 a.2)) f a.4),
)

-- ---- one subprogram after the other

pub are_start : (p : Program) → AreFindingsIn p [] []
are_start p f = (λ c. absurd (contains_among [] f c), λ a. absurd (contains_among [] a.1 (a.0, a.2, a.3)))

pub are_more : (p : Program) (subs : List Sub) (i : ℕ) (sub : Sub) (old found : List FlowFinding) → i < length subs → get_or subs i sub ≡ sub → AreFindingsIn p (take i subs) old → AreFindingsOf p sub found → AreFindingsIn p (take (i + 1) subs) (old ++ found)
are_more p subs i sub old found lt is are here = subst (λ xs. AreFindingsIn p xs (old ++ found)) (sym more) pushed where
  more : take (i + 1) subs ≡ take i subs ++ sub ∷ []
  more = (take_at_read subs i sub lt).1 ∙ ap (λ x. take i subs ++ x ∷ []) is

  pushed : AreFindingsIn p (take i subs ++ sub ∷ []) (old ++ found)
  pushed f = (
    λ c. ⊎_elim
        (λ before. let a = (are f).0 before in let c = Contains-append_left (take i subs) (sub ∷ []) a.1 (a.0, a.2, a.3) in (c.0, a.1, c.1, c.2, a.4))
        (λ new. let c = Contains-push (take i subs) sub in (c.0, sub, c.1, c.2, (here.exact f).0 new))
        (Contains-append_cases old found f c),
    λ a. ⊎_elim
        (λ c. Contains-append_left old found f ((are f).1 (c.0, a.1, c.1, c.2, a.4)))
        (λ e. Contains-append_right old found f ((here.exact f).1 (subst (λ x. Finds p x f) (sym e) a.4)))
        (Contains-push_cases (take i subs) sub a.1 (a.0, a.2, a.3)),
  )
