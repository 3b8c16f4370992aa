-- The lines of a report on flow: one for each finding, in the order of their places, rules and texts.
use Rattle.std.specs.Prelude.{◌≡◌, ◌↔◌, ⊤, ℕ, Bool, true, false, ◌&&◌, ◌||◌, nat_lt, nat_eq, IsTrue, List, [], ◌∷◌, ◌++◌, Option, Some, None, slice_get, Any, All, Contains, codes}
use Rattle.spx_text.specs.declared.place.Place.{Place}
use Rattle.spx_core.specs.declared.entity.VarId.{VarId}
use Rattle.spx_core.specs.declared.program.Var.{Var}
use Rattle.spx_core.specs.declared.program.Program.{Program}
use Rattle.spx_core.specs.declared.rule.RuleName.TheVariants.{F1, F2, F3, F4}
use Rattle.spx_core.specs.Marks.{same_place}
use Rattle.spx_derives.specs.declared.finding.FlowFinding.{FlowFinding}
use Rattle.spx_derives.specs.declared.finding.FlowFinding.TheVariants as finding
use Rattle.spx_derives.specs.FlowFindings.{Finds}
use Rattle.spx_report.specs.declared.report.Finding.{Finding}
use Rattle.spx_report.specs.Report.{code}

-- ---- texts

-- the name of a variable; without a variable, nothing
abbrev pub name_in : Option Var → List ℕ
name_in (Some var) = var.name
name_in None = []

-- the name of a variable, as it is declared
abbrev pub var_name : Program → VarId → List ℕ
var_name p v = name_in (slice_get p.vars v.0)

-- `missing: Y from X`, `unused: Y from X`, `ineffective`, `unset: X`
unfoldable pub flow_line : Program → FlowFinding → Finding
flow_line p (finding.Missing place from to) = record { place = place; rule = F1; text = codes "missing: " ++ (var_name p to ++ (codes " from " ++ var_name p from)) }
flow_line p (finding.Unused place from to) = record { place = place; rule = F2; text = codes "unused: " ++ (var_name p to ++ (codes " from " ++ var_name p from)) }
flow_line p (finding.Ineffective place) = record { place = place; rule = F3; text = codes "ineffective" }
flow_line p (finding.UnsetRead place v) = record { place = place; rule = F4; text = codes "unset: " ++ var_name p v }

-- ---- order

-- whether a text comes before another, byte by byte
abbrev pub text_before : List ℕ → List ℕ → Bool
text_before [] [] = false
text_before [] (y ∷ ys) = true
text_before (x ∷ xs) [] = false
text_before (x ∷ xs) (y ∷ ys) = nat_lt x y || (nat_eq x y && text_before xs ys)

-- whether a place comes before another: by file, line, column
abbrev pub place_before : Place → Place → Bool
place_before a b = nat_lt a.file b.file || (nat_eq a.file b.file && (nat_lt a.line b.line || (nat_eq a.line b.line && nat_lt a.column b.column)))

-- two texts have the same bytes
abbrev pub same_text : List ℕ → List ℕ → Bool
same_text [] [] = true
same_text [] (y ∷ ys) = false
same_text (x ∷ xs) [] = false
same_text (x ∷ xs) (y ∷ ys) = nat_eq x y && same_text xs ys

-- whether a line comes before another: by place, rule, text
unfoldable pub line_before : Finding → Finding → Bool
line_before a b = place_before a.place b.place || (same_place a.place b.place && (text_before (code a.rule) (code b.rule) || (same_text (code a.rule) (code b.rule) && text_before a.text b.text)))

-- each line comes before all after it, so that no line is there twice
abbrev pub AreInOrder : List Finding → Type 0
AreInOrder [] = ⊤
AreInOrder (line ∷ lines) = All (λ other. IsTrue (line_before line other)) lines × AreInOrder lines

-- ---- lines

-- these are the lines on the flow of the program, each once, in order
pub record AreFlowLines (p : Program) (lines : List Finding) : Type 0 where
  pub order : AreInOrder lines
  pub exact : (line : Finding) → Contains lines line ↔ ((found : FlowFinding) × Any (λ sub. Finds p sub found) p.subs × (flow_line p found ≡ line))
