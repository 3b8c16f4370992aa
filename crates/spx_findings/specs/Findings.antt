-- What the verification conditions of a program come to.
use Rattle.std.specs.Prelude.{ℕ, Bool, not, if◌then◌else◌, List, [], ◌∷◌, ◌++◌, length, map, flat_map, filter, filter_map, count_by, Option, Some, None, option_map, slice_get, codes}
use Rattle.spx_text.specs.declared.place.Place.{Place}
use Rattle.spx_core.specs.declared.entity.SubId.{SubId}
use Rattle.spx_core.specs.declared.program.Program.{Program}
use Rattle.spx_core.specs.declared.subprogram.Sub.{Sub}
use Rattle.spx_core.specs.declared.rule.RuleName.TheVariants.{V1}
use Rattle.spx_core.specs.Bodies.{bodies_of}
use Rattle.spx_term.specs.declared.condition.CondKind.{CondKind}
use Rattle.spx_term.specs.declared.condition.CondKind.TheVariants.{Division, Overflow, Range, Index, Post, Assert, Check}
use Rattle.spx_term.specs.declared.condition.Condition.{Condition}
use Rattle.spx_term.specs.Goals.{goal_of}
use Rattle.spx_term.specs.Plain.{closes}
use Rattle.spx_paths.specs.Limits.{has_large_condition, has_many_paths}
use Rattle.spx_paths.specs.Conditions.{conditions_of}
use Rattle.spx_report.specs.declared.limit.LimitName.{LimitName}
use Rattle.spx_report.specs.declared.limit.LimitName.TheVariants.{Paths, Nodes}
use Rattle.spx_report.specs.declared.report.Finding.{Finding}
use Rattle.spx_report.specs.declared.report.SubRow.{SubRow}
use Rattle.spx_report.specs.declared.report.Findings.{Findings}

-- whether a condition needs no proof
abbrev pub is_closed : Condition → Bool
is_closed c = closes c.hyps (goal_of c.goals)

-- whether a condition still needs a proof
abbrev pub is_left : Condition → Bool
is_left c = not (is_closed c)

-- the word for what a condition is of
abbrev pub kind_text : CondKind → List ℕ
kind_text Division = codes "division"
kind_text Overflow = codes "overflow"
kind_text Range = codes "range"
kind_text Index = codes "index"
kind_text Post = codes "post"
kind_text Assert = codes "assert"
kind_text Check = codes "check"

-- `unproved: NAME KIND`
unfoldable pub unproved_named : List ℕ → CondKind → Place → Finding
unproved_named name kind place = record { place = place; rule = V1; text = codes "unproved: " ++ (name ++ (codes " " ++ kind_text kind)) }

-- the finding on a condition that is left
abbrev pub unproved : Condition → Finding
unproved c = unproved_named c.name c.kind c.place

-- a finding for each condition that is left, in order
abbrev pub unproved_of : List Condition → List Finding
unproved_of conditions = map unproved (filter is_left conditions)

-- how many conditions the n-th subprogram has, and what they come to
unfoldable pub row_of : ℕ → List Condition → SubRow
row_of n conditions = record { sub = record { 0 = n }; total = length conditions; simplified = count_by is_closed conditions; scripted = 0; left = count_by is_left conditions }

-- the row of a body; there is none where no subprogram has this id
abbrev pub row_at : Program → SubId → Option SubRow
row_at p id = option_map (λ (sub : Sub). row_of id.0 (conditions_of p sub)) (slice_get p.subs id.0)

-- the findings on the conditions of a program, and a row for each body
unfoldable pub findings_of : Program → Findings
findings_of p = record {
  lines = flat_map (λ sub. unproved_of (conditions_of p sub)) (bodies_of p);
  subs = filter_map (row_at p) p.bodies;
}

-- ---- limits

-- the limit that the conditions of a subprogram pass, if they pass one: paths are counted before a condition is made
abbrev pub limit_of : Program → Sub → Option LimitName
limit_of p sub = if has_many_paths sub then Some Paths else (if has_large_condition p sub then Some Nodes else None)

-- the first limit, if there is one, and else the other
abbrev pub or_else : Option LimitName → Option LimitName → Option LimitName
or_else (Some name) other = Some name
or_else None other = other

-- the limit of the first of these that passes one
abbrev pub first_limit_in : Program → List Sub → Option LimitName
first_limit_in p [] = None
first_limit_in p (sub ∷ subs) = or_else (limit_of p sub) (first_limit_in p subs)

-- the first limit that the conditions of a program pass, in the order of its bodies
abbrev pub first_limit : Program → Option LimitName
first_limit p = first_limit_in p (bodies_of p)

-- ---- what one body adds to that: nothing where no subprogram has its id

-- the findings on the conditions of a body
abbrev pub lines_at : Program → Option Sub → List Finding
lines_at p (Some sub) = unproved_of (conditions_of p sub)
lines_at p None = []

-- the limit that the conditions of a body pass
abbrev pub limit_at : Program → Option Sub → Option LimitName
limit_at p (Some sub) = limit_of p sub
limit_at p None = None
