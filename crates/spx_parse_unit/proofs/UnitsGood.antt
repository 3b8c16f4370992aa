-- The readers of declarations, annotations, subprograms and units keep the laws of readers.
use Rattle.std.specs.Prelude.{⊤}
use Rattle.std.proofs.Common.{◌≡◌, ℕ, suc, Bool, true, List, [], ◌∷◌, ◌++◌, map, Option, Some, None, refl, ap, append_assoc}
use Rattle.std.proofs.lemmas.List.{append-nil}
use Rattle.spx_text.specs.declared.place.Place.{Place}
use Rattle.spx_tree.specs.declared.token.Kind.{Kind}
use Rattle.spx_tree.specs.declared.token.Kind.TheVariants as k
use Rattle.spx_tree.specs.declared.expression.Identifier.{Identifier}
use Rattle.spx_tree.specs.declared.expression.Name.{Name}
use Rattle.spx_tree.specs.declared.declaration.Decl.TheVariants as decl
use Rattle.spx_tree.specs.declared.declaration.TypeDef.TheVariants as defined
use Rattle.spx_tree.specs.declared.annotation.Exports.TheVariants as exported
use Rattle.spx_tree.specs.declared.annotation.Imports.{Imports}
use Rattle.spx_tree.specs.declared.subprogram.WrittenMode.TheVariants as modes
use Rattle.spx_tree.specs.declared.subprogram.Unit.TheVariants as unit
use Rattle.spx_tree.specs.Form.{Form, bare, placed, named}
use Rattle.spx_tree.specs.Written.{program, annotation, joined, following, separated, optional, written_identifier, written_identifiers, written_name, written_names, written_constraint, written_field, written_definition, written_initial, written_decl, written_decls, written_stmts, written_imports, written_item, written_derives, written_pre, written_post, written_mode, written_param, written_params, written_formal_part, written_subprogram, written_unit, written}
use Rattle.spx_tree.specs.Grammar.{Each, OneOrMore, IfThere, IsIdentifiers, IsName, IsNames, IsExpr, IsRange, IsFieldDecl, IsDefinition, IsDecl, IsStmts, IsItem, IsDerives, IsPredicate, IsParam, IsFormalPart, IsSubprogram, IsUnit, IsFile}
use Rattle.spx_cursor.specs.Reading.{◌>>◌, peek, sees, expect, identifier, item_step}
use Rattle.spx_parse_body.specs.Expressions.{name}
use Rattle.spx_parse_unit.specs.declared.subprograms.HeadingParts.{HeadingParts}
use Rattle.spx_parse_unit.specs.declared.subprograms.BodyParts.{BodyParts}
use Rattle.spx_parse_unit.specs.Units.{more_identifiers, identifiers, more_names, names, starred, unstarred, imports_by, imports, named_item, null_item, item_by, item, more_derives, items, derives, in_by, following_in, mode_by, mode, param, more_params, params, formal_part, integer, enumeration, array, field, fields, record_definition, more_fields, definition_by, definition, full_type, subtype, initial, variables, constants, objects_by, objects_after, objects, declaration_by, declaration, starts_declaration, sees_declaration, more_declarations, declarations, heading, body, whole, subprogram, unit_at, more_units, file}
use Rattle.spx_parse_body.proofs.Callers.Loops.{Shrinks}
use Rattle.spx_parse_body.proofs.Callers.Lawful.{Ends, Any, Sees, Always}
use Rattle.spx_parse_body.proofs.Callers.Good.{Good, Starts, Case, Adds, absent, present, good_bind, good_as, good_pure, good_refuse, good_fewer, good_choose, good_before, good_given, good_expect, good_expect_place, good_identifier, good_option, good_more, list_shrinks, starts_bind, starts_choose, starts_expect, starts_place, starts_identifier}
use Rattle.spx_parse_body.proofs.Callers.Separated.{sees_kind, all_added, joined_added, next, following_added, separated_adds, next_starts, good_separated, separated_shrinks, good_items, good_some_items, items_shrinks, good_if_seen}
use Rattle.spx_parse_body.proofs.Callers.ExpressionsGood.{name_starts, name_good, expression_good, predicate_after_starts}
use Rattle.spx_parse_body.proofs.Callers.StatementsGood.{constraint_starts, stmts_good}

-- ---- identifiers

next_identifier_starts : (marked : Bool) {L P : Type 0} → Starts L P (next (written_identifier marked) Always marked k.Comma) Always [] (Sees (sees marked k.Comma) true) (expect marked k.Comma >> identifier marked) (expect marked k.Comma >> identifier marked)
next_identifier_starts marked = next_starts (written_identifier marked) Always marked k.Comma (sees marked k.Comma) (λ t xs ys. refl) refl (sees_kind marked k.Comma) refl (good_identifier marked)

-- identifiers after others
identifiers_more : (marked : Bool) {L P : Type 0} (found : List Identifier) → Good L (P × IsIdentifiers found) (written_identifiers marked) IsIdentifiers (written_identifiers marked found) Any (more_identifiers marked found) (more_identifiers marked found)
unfolding more_identifiers
identifiers_more marked {L} {P} = good_more L P (next (written_identifier marked) Always marked k.Comma) Always (written_identifiers marked) IsIdentifiers (separated_adds (written_identifier marked) Always marked k.Comma) (sees marked k.Comma) (λ t xs ys. refl) refl (next_identifier_starts marked)

pub identifiers_shrinks : (marked : Bool) → Shrinks (sees marked k.Comma) (item_step (expect marked k.Comma >> identifier marked))
identifiers_shrinks marked = separated_shrinks (written_identifier marked) Always marked k.Comma (sees marked k.Comma) (λ t xs ys. refl) refl (sees_kind marked k.Comma) refl {L = ⊤} (good_identifier marked) tt

identifiers_starts : {L P : Type 0} {on : List Form → Type 0} (marked : Bool) → ((fs : List Form) → on fs → peek marked fs ≡ Some k.Identifier) → Starts L P (written_identifiers marked) IsIdentifiers [] on (identifiers marked) (identifiers marked)
unfolding identifiers
identifiers_starts marked here = starts_bind (starts_identifier marked here) (λ x. good_given (λ l. l) (λ l w. (tt, (tt, tt))) (identifiers_more marked {P = ⊤} (x ∷ [])))

identifiers_good : {L P : Type 0} (marked : Bool) → Good L P (written_identifiers marked) IsIdentifiers [] Any (identifiers marked) (identifiers marked)
unfolding identifiers more_identifiers
identifiers_good marked = good_separated (written_identifier marked) Always marked k.Comma (sees marked k.Comma) (λ t xs ys. refl) refl (sees_kind marked k.Comma) refl (good_identifier marked)

-- ---- names

next_name_starts : (marked : Bool) (levels : ℕ) {L P : Type 0}
    → Starts L P (next (written_name marked) (IsName levels) marked k.Comma) (IsName levels) [] (Sees (sees marked k.Comma) true) (expect marked k.Comma >> name marked levels) (expect marked k.Comma >> name marked (suc levels))
next_name_starts marked levels = next_starts (written_name marked) (IsName levels) marked k.Comma (sees marked k.Comma) (λ t xs ys. refl) refl (sees_kind marked k.Comma) refl (name_good marked levels)

-- names after others
names_more : (marked : Bool) (levels : ℕ) {L P : Type 0} (found : List Name) → Good L (P × IsNames levels found) (written_names marked) (IsNames levels) (written_names marked found) Any (more_names marked levels found) (more_names marked (suc levels) found)
unfolding more_names
names_more marked levels {L} {P} =
    good_more L P (next (written_name marked) (IsName levels) marked k.Comma) (IsName levels) (written_names marked) (IsNames levels) (separated_adds (written_name marked) (IsName levels) marked k.Comma) (sees marked k.Comma) (λ t xs ys. refl) refl (next_name_starts marked levels)

-- names that stand after a star
star_more : {L P : Type 0} (levels : ℕ) (found : List Name)
    → Good L (P × Each (IsName levels) found) (following (bare annotation k.Comma) (written_name annotation)) (Each (IsName levels)) (following (bare annotation k.Comma) (written_name annotation) found) Any (more_names annotation levels found) (more_names annotation (suc levels) found)
unfolding more_names
star_more {L} {P} levels =
    good_more L P (next (written_name annotation) (IsName levels) annotation k.Comma) (IsName levels) (following (bare annotation k.Comma) (written_name annotation)) (Each (IsName levels))
    (λ found x f g. (following_added (written_name annotation) (IsName levels) annotation k.Comma found x, all_added (IsName levels) found x f g)) (sees annotation k.Comma) (λ t xs ys. refl) refl (next_name_starts annotation levels)

pub names_shrinks : (marked : Bool) (levels : ℕ) → Shrinks (sees marked k.Comma) (item_step (expect marked k.Comma >> name marked levels))
names_shrinks marked levels = separated_shrinks (written_name marked) (IsName levels) marked k.Comma (sees marked k.Comma) (λ t xs ys. refl) refl (sees_kind marked k.Comma) refl {L = ⊤} (name_good marked levels) tt

names_starts : {L P : Type 0} {on : List Form → Type 0} (marked : Bool) (levels : ℕ) → ((fs : List Form) → on fs → peek marked fs ≡ Some k.Identifier) → Starts L P (written_names marked) (IsNames levels) [] on (names marked levels) (names marked (suc levels))
unfolding names
names_starts marked levels here = starts_bind (name_starts marked levels here) (λ x. good_before (append-nil (written_name marked x)) (good_given (λ l. l) (λ l w. (tt, (w.1, tt))) (names_more marked levels {P = ⊤} (x ∷ []))))

names_good : {L P : Type 0} (marked : Bool) (levels : ℕ) → Good L P (written_names marked) (IsNames levels) [] Any (names marked levels) (names marked (suc levels))
unfolding names more_names
names_good marked levels = good_separated (written_name marked) (IsName levels) marked k.Comma (sees marked k.Comma) (λ t xs ys. refl) refl (sees_kind marked k.Comma) refl (name_good marked levels)

-- ---- annotations

written_in : Imports → List Form
written_in i = written_imports i.itself i.names

-- what imports hold of names
AreIn : ℕ → Imports → Type 0
AreIn levels i = Each (IsName levels) i.names

starred_starts : {L P : Type 0} {on : List Form → Type 0} (levels : ℕ) → ((fs : List Form) → on fs → peek annotation fs ≡ Some k.Asterisk) → Starts L P written_in (AreIn levels) [] on (starred levels) (starred (suc levels))
unfolding starred written_in AreIn
starred_starts levels here =
    starts_bind (starts_place annotation k.Asterisk here refl) (λ place.
    good_bind (good_given (λ l. l) (λ l w. (tt, tt)) (star_more {P = ⊤} levels [])) (λ names.
    good_pure (record { itself = Some place; names = names }) (λ l w. refl) (λ l w. w.1)))

unstarred_text : (levels : ℕ) (names : List Name) → IsNames levels names → written_names annotation names ≡ written_imports None names
unstarred_text levels names f = refl

each_name : (levels : ℕ) (names : List Name) → IsNames levels names → Each (IsName levels) names
each_name levels [] f = absurd f
each_name levels (x ∷ names) f = f

unstarred_starts : {L P : Type 0} {on : List Form → Type 0} (levels : ℕ) → ((fs : List Form) → on fs → peek annotation fs ≡ Some k.Identifier) → Starts L P written_in (AreIn levels) [] on (unstarred levels) (unstarred (suc levels))
unfolding unstarred written_in AreIn
unstarred_starts levels here = starts_bind (names_starts annotation levels here) (λ names. good_pure (record { itself = None; names = names }) (λ l w. unstarred_text levels names w.1) (λ l w. each_name levels names w.1))

imports_case : {L P : Type 0} (levels : ℕ) (kind : Option Kind) → Case L P written_in (AreIn levels) [] (Sees (peek annotation) kind) (record { itself = None; names = [] }) (imports_by levels kind) (imports_by (suc levels) kind)
unfolding written_in AreIn
imports_case levels (Some k.Asterisk) = present (starred_starts levels (λ fs here. here))
imports_case levels (Some k.Identifier) = present (unstarred_starts levels (λ fs here. here))
imports_case levels _ = absent refl refl (λ l w. refl) (λ l w. tt)

imports_good : {L P : Type 0} (levels : ℕ) → Good L P written_in (AreIn levels) [] Any (imports levels) (imports (suc levels))
unfolding imports
imports_good levels = good_option (peek annotation) (λ t xs ys. refl) (record { itself = None; names = [] }) (imports_by levels) (imports_by (suc levels)) refl refl (imports_case levels)

named_item_good : {L P : Type 0} (levels : ℕ) → Good L P written_item (IsItem levels) [] Any (named_item levels) (named_item (suc levels))
unfolding named_item written_in AreIn
named_item_good levels =
    good_bind (names_good annotation levels) (λ exports.
    good_bind (good_expect annotation k.From) (λ u.
    good_bind (imports_good levels) (λ imports.
    good_pure (record { exports = exported.Names exports; imports = imports }) (λ l w. simp append_assoc) (λ l w. (w.0.0.1, w.1)))))

-- imports that are names, one or more
IsUnstarred : ℕ → Imports → Type 0
IsUnstarred levels i = (i.itself ≡ None) × IsNames levels i.names

unstarred_good : {L P : Type 0} (levels : ℕ) → Good L P written_in (IsUnstarred levels) [] Any (unstarred levels) (unstarred (suc levels))
unfolding unstarred written_in IsUnstarred
unstarred_good levels = good_bind (names_good annotation levels) (λ names. good_pure (record { itself = None; names = names }) (λ l w. unstarred_text levels names w.1) (λ l w. (refl, w.1)))

null_item_starts : {L P : Type 0} {on : List Form → Type 0} (levels : ℕ) → ((fs : List Form) → on fs → peek annotation fs ≡ Some k.Null) → Starts L P written_item (IsItem levels) [] on (null_item levels) (null_item (suc levels))
unfolding null_item written_in IsUnstarred
null_item_starts levels here =
    starts_bind (starts_place annotation k.Null here refl) (λ place.
    good_bind (good_expect annotation k.From) (λ u.
    good_bind (unstarred_good levels) (λ imports.
    good_pure (record { exports = exported.Null place; imports = imports }) (λ l w. refl) (λ l w. w.1))))

item_ends : (levels : ℕ) → Ends written_item (IsItem levels) []
item_ends levels = ((named_item_good {L = ⊤} {P = ⊤} levels).law tt tt).ends

item_case : {L P : Type 0} (levels : ℕ) (kind : Option Kind) → Good L P written_item (IsItem levels) [] (Sees (peek annotation) kind) (item_by levels kind) (item_by (suc levels) kind)
item_case levels (Some k.Identifier) = good_fewer (λ fs here. tt) (named_item_good levels)
item_case levels (Some k.Null) = (null_item_starts levels (λ fs here. here)).good
item_case levels _ = good_refuse (λ l w. item_ends levels)

pub item_good : {L P : Type 0} (levels : ℕ) → Good L P written_item (IsItem levels) [] Any (item levels) (item (suc levels))
unfolding item
item_good levels = good_choose (peek annotation) (λ t xs ys. refl) (item_by levels) (item_by (suc levels)) refl refl (item_case levels)

pub derives_shrinks : (levels : ℕ) → Shrinks (sees annotation k.Ampersand) (item_step (expect annotation k.Ampersand >> item levels))
derives_shrinks levels = separated_shrinks written_item (IsItem levels) annotation k.Ampersand (sees annotation k.Ampersand) (λ t xs ys. refl) refl (sees_kind annotation k.Ampersand) refl {L = ⊤} (item_good levels) tt

items_good : {L P : Type 0} (levels : ℕ) → Good L P (separated (bare annotation k.Ampersand) written_item) (OneOrMore (IsItem levels)) [] Any (items levels) (items (suc levels))
unfolding items more_derives
items_good levels = good_separated written_item (IsItem levels) annotation k.Ampersand (sees annotation k.Ampersand) (λ t xs ys. refl) refl (sees_kind annotation k.Ampersand) refl (item_good levels)

derives_starts : {L P : Type 0} {on : List Form → Type 0} (levels : ℕ) → ((fs : List Form) → on fs → peek annotation fs ≡ Some k.Derives) → Starts L P written_derives (IsDerives levels) [] on (derives levels) (derives (suc levels))
unfolding derives
derives_starts levels here =
    starts_bind (starts_place annotation k.Derives here refl) (λ place.
    good_bind (items_good levels) (λ items.
    good_bind (good_expect annotation k.Semicolon) (λ u.
    good_pure (record { place = place; items = items }) (λ l w. refl) (λ l w. w.0.1))))

-- ---- formal parameters

in_case : {L P : Type 0} (place : Place) (kind : Option Kind) → Case L P written_mode Always (placed program k.In place ∷ []) (Sees (peek program) kind) (modes.In place) (in_by place kind) (in_by place kind)
in_case place (Some k.Out) = present (starts_bind (starts_expect program k.Out (λ fs here. here) refl) (λ u. good_pure (modes.InOut place) (λ l w. refl) (λ l w. tt)))
in_case place _ = absent refl refl (λ l w. refl) (λ l w. tt)

following_in_good : {L P : Type 0} (place : Place) → Good L P written_mode Always (placed program k.In place ∷ []) Any (following_in place) (following_in place)
unfolding following_in
following_in_good place = good_option (peek program) (λ t xs ys. refl) (modes.In place) (in_by place) (in_by place) refl refl (in_case place)

mode_case : {L P : Type 0} (kind : Option Kind) → Case L P written_mode Always [] (Sees (peek program) kind) modes.Unwritten (mode_by kind) (mode_by kind)
mode_case (Some k.In) = present (starts_bind (starts_place program k.In (λ fs here. here) refl) following_in_good)
mode_case (Some k.Out) = present (starts_bind (starts_expect program k.Out (λ fs here. here) refl) (λ u. good_pure modes.Out (λ l w. refl) (λ l w. tt)))
mode_case _ = absent refl refl (λ l w. refl) (λ l w. tt)

mode_good : {L P : Type 0} → Good L P written_mode Always [] Any mode mode
unfolding mode
mode_good = good_option (peek program) (λ t xs ys. refl) modes.Unwritten mode_by mode_by refl refl mode_case

pub param_good : {L P : Type 0} (levels : ℕ) → Good L P written_param (IsParam levels) [] Any (param levels) (param (suc levels))
unfolding param
param_good levels =
    good_bind (identifiers_good program) (λ names.
    good_bind (good_expect program k.Colon) (λ u.
    good_bind mode_good (λ mode.
    good_bind (name_good program levels) (λ type_name.
    good_pure (record { names = names; mode = mode; type_name = type_name }) (λ l w. simp append_assoc) (λ l w. (w.0.0.0.1, w.1))))))

pub params_shrinks : (levels : ℕ) → Shrinks (sees program k.Semicolon) (item_step (expect program k.Semicolon >> param levels))
params_shrinks levels = separated_shrinks written_param (IsParam levels) program k.Semicolon (sees program k.Semicolon) (λ t xs ys. refl) refl (sees_kind program k.Semicolon) refl {L = ⊤} (param_good levels) tt

params_good : {L P : Type 0} (levels : ℕ) → Good L P written_params (OneOrMore (IsParam levels)) [] Any (params levels) (params (suc levels))
unfolding params more_params
params_good levels = good_separated written_param (IsParam levels) program k.Semicolon (sees program k.Semicolon) (λ t xs ys. refl) refl (sees_kind program k.Semicolon) refl (param_good levels)

formal_part_starts : {L P : Type 0} {on : List Form → Type 0} (levels : ℕ) → ((fs : List Form) → on fs → peek program fs ≡ Some k.LeftParenthesis) → Starts L P written_formal_part (IsFormalPart levels) [] on (formal_part levels) (formal_part (suc levels))
unfolding formal_part
formal_part_starts levels here =
    starts_bind (starts_place program k.LeftParenthesis here refl) (λ place.
    good_bind (params_good levels) (λ params.
    good_bind (good_expect program k.RightParenthesis) (λ u.
    good_pure (record { place = place; params = params }) (λ l w. refl) (λ l w. w.0.1))))

-- ---- declarations

integer_starts : {L P : Type 0} {on : List Form → Type 0} (levels : ℕ) → ((fs : List Form) → on fs → peek program fs ≡ Some k.Range) → Starts L P written_definition (IsDefinition levels) [] on (integer levels) (integer (suc levels))
unfolding integer
integer_starts levels here = starts_bind (constraint_starts levels here) (λ range. good_pure (defined.Integer range) (λ l w. refl) (λ l w. w.1))

enumeration_starts : {L P : Type 0} {on : List Form → Type 0} (levels : ℕ) → ((fs : List Form) → on fs → peek program fs ≡ Some k.LeftParenthesis) → Starts L P written_definition (IsDefinition levels) [] on enumeration enumeration
unfolding enumeration
enumeration_starts levels here =
    starts_bind (starts_place program k.LeftParenthesis here refl) (λ place.
    good_bind (identifiers_good program) (λ literals.
    good_bind (good_expect program k.RightParenthesis) (λ u.
    good_pure (defined.Enumeration place literals) (λ l w. refl) (λ l w. w.0.1))))

array_starts : {L P : Type 0} {on : List Form → Type 0} (levels : ℕ) → ((fs : List Form) → on fs → peek program fs ≡ Some k.Array) → Starts L P written_definition (IsDefinition levels) [] on (array levels) (array (suc levels))
unfolding array
array_starts levels here =
    starts_bind (starts_expect program k.Array here refl) (λ u.
    good_bind (good_expect_place program k.LeftParenthesis) (λ place.
    good_bind (name_good program levels) (λ index.
    good_bind (good_expect program k.RightParenthesis) (λ v.
    good_bind (good_expect program k.Of) (λ s.
    good_bind (name_good program levels) (λ element.
    good_pure (defined.Array place index element) (λ l w. simp append_assoc) (λ l w. (w.0.0.0.1, w.1))))))))

field_starts : {L P : Type 0} {on : List Form → Type 0} (levels : ℕ) → ((fs : List Form) → on fs → peek program fs ≡ Some k.Identifier) → Starts L P written_field (IsFieldDecl levels) [] on (field levels) (field (suc levels))
unfolding field
field_starts levels here =
    starts_bind (identifiers_starts program here) (λ names.
    good_bind (good_expect program k.Colon) (λ u.
    good_bind (name_good program levels) (λ type_name.
    good_bind (good_expect program k.Semicolon) (λ v.
    good_pure (record { names = names; type_name = type_name }) (λ l w. simp append_assoc) (λ l w. (w.0.0.0.1, w.0.1))))))

field_good : {L P : Type 0} (levels : ℕ) → Good L P written_field (IsFieldDecl levels) [] Any (field levels) (field (suc levels))
unfolding field
field_good levels =
    good_bind (identifiers_good program) (λ names.
    good_bind (good_expect program k.Colon) (λ u.
    good_bind (name_good program levels) (λ type_name.
    good_bind (good_expect program k.Semicolon) (λ v.
    good_pure (record { names = names; type_name = type_name }) (λ l w. simp append_assoc) (λ l w. (w.0.0.0.1, w.0.1))))))

pub fields_shrinks : (levels : ℕ) → Shrinks (sees program k.Identifier) (item_step (field levels))
fields_shrinks levels = items_shrinks written_field (IsFieldDecl levels) (sees program k.Identifier) (λ t xs ys. refl) refl {L = ⊤} (field_starts levels (sees_kind program k.Identifier)) tt

fields_good : {L P : Type 0} (levels : ℕ) → Good L P (λ xs. joined (map written_field xs)) (OneOrMore (IsFieldDecl levels)) [] Any (fields levels) (fields (suc levels))
unfolding fields more_fields
fields_good levels = good_some_items written_field (IsFieldDecl levels) (sees program k.Identifier) (λ t xs ys. refl) refl (field_starts levels (sees_kind program k.Identifier)) (field_good levels)

record_starts : {L P : Type 0} {on : List Form → Type 0} (levels : ℕ) → ((fs : List Form) → on fs → peek program fs ≡ Some k.Record) → Starts L P written_definition (IsDefinition levels) [] on (record_definition levels) (record_definition (suc levels))
unfolding record_definition
record_starts levels here =
    starts_bind (starts_expect program k.Record here refl) (λ u.
    good_bind (fields_good levels) (λ fields.
    good_bind (good_expect_place program k.End) (λ end.
    good_bind (good_expect program k.Record) (λ v.
    good_pure (defined.Record fields end) (λ l w. simp append_assoc) (λ l w. w.0.0.1)))))

definition_ends : (levels : ℕ) → Ends written_definition (IsDefinition levels) []
definition_ends levels = ((enumeration_starts {L = ⊤} {P = ⊤} {on = λ fs. peek program fs ≡ Some k.LeftParenthesis} levels (λ fs here. here)).good.law tt tt).ends

definition_case : {L P : Type 0} (levels : ℕ) (kind : Option Kind) → Good L P written_definition (IsDefinition levels) [] (Sees (peek program) kind) (definition_by levels kind) (definition_by (suc levels) kind)
definition_case levels (Some k.Range) = (integer_starts levels (λ fs here. here)).good
definition_case levels (Some k.LeftParenthesis) = (enumeration_starts levels (λ fs here. here)).good
definition_case levels (Some k.Array) = (array_starts levels (λ fs here. here)).good
definition_case levels (Some k.Record) = (record_starts levels (λ fs here. here)).good
definition_case levels _ = good_refuse (λ l w. definition_ends levels)

definition_good : {L P : Type 0} (levels : ℕ) → Good L P written_definition (IsDefinition levels) [] Any (definition levels) (definition (suc levels))
unfolding definition
definition_good levels = good_choose (peek program) (λ t xs ys. refl) (definition_by levels) (definition_by (suc levels)) refl refl (definition_case levels)

full_type_starts : {L P : Type 0} {on : List Form → Type 0} (levels : ℕ) → ((fs : List Form) → on fs → peek program fs ≡ Some k.Type) → Starts L P written_decl (IsDecl levels) [] on (full_type levels) (full_type (suc levels))
unfolding full_type
full_type_starts levels here =
    starts_bind (starts_expect program k.Type here refl) (λ u.
    good_bind (good_identifier program) (λ name.
    good_bind (good_expect program k.Is) (λ v.
    good_bind (definition_good levels) (λ definition.
    good_bind (good_expect program k.Semicolon) (λ w.
    good_pure (decl.FullType name definition) (λ l w. refl) (λ l w. w.0.1))))))

subtype_starts : {L P : Type 0} {on : List Form → Type 0} (levels : ℕ) → ((fs : List Form) → on fs → peek program fs ≡ Some k.Subtype) → Starts L P written_decl (IsDecl levels) [] on (subtype levels) (subtype (suc levels))
unfolding subtype
subtype_starts levels here =
    starts_bind (starts_expect program k.Subtype here refl) (λ u.
    good_bind (good_identifier program) (λ subject.
    good_bind (good_expect program k.Is) (λ v.
    good_bind (name_good program levels) (λ parent.
    good_bind (good_if_seen written_constraint (IsRange levels) program k.Range (constraint_starts levels (sees_kind program k.Range))) (λ range.
    good_bind (good_expect program k.Semicolon) (λ w.
    good_pure (decl.Subtype subject parent range) (λ l w. simp append_assoc) (λ l w. (w.0.0.1, w.0.1))))))))

-- identifiers and ":"
abbrev named_text : List Identifier → List Form
named_text names = written_identifiers program names ++ bare program k.Colon ∷ []

initial_starts : {L P : Type 0} (levels : ℕ) → Starts L P written_initial (IsExpr levels) [] (Sees (sees program k.Assignment) true) (initial levels) (initial (suc levels))
unfolding initial
initial_starts levels = starts_bind (starts_expect program k.Assignment (sees_kind program k.Assignment) refl) (λ u. good_as (λ l w x f. (refl, f)) (expression_good program levels))

variables_starts : {L P : Type 0} {on : List Form → Type 0} (levels : ℕ) (names : List Identifier) → (P → IsIdentifiers names) → ((fs : List Form) → on fs → peek program fs ≡ Some k.Identifier)
    → Starts L P written_decl (IsDecl levels) (named_text names) on (variables levels names) (variables (suc levels) names)
unfolding variables
variables_starts levels names f here =
    starts_bind (name_starts program levels here) (λ type_name.
    good_bind (good_if_seen written_initial (IsExpr levels) program k.Assignment (initial_starts levels)) (λ value.
    good_bind (good_expect program k.Semicolon) (λ u.
    good_pure (decl.Variables names type_name value) (λ l w. simp append_assoc) (λ l w. (f w.0.0.0, w.0.0.1, w.0.1)))))

constants_starts : {L P : Type 0} {on : List Form → Type 0} (levels : ℕ) (names : List Identifier) → (P → IsIdentifiers names) → ((fs : List Form) → on fs → peek program fs ≡ Some k.Constant)
    → Starts L P written_decl (IsDecl levels) (named_text names) on (constants levels names) (constants (suc levels) names)
unfolding constants
constants_starts levels names f here =
    starts_bind (starts_expect program k.Constant here refl) (λ u.
    good_bind (good_if_seen (written_name program) (IsName levels) program k.Identifier (name_starts program levels (sees_kind program k.Identifier))) (λ type_name.
    good_bind (good_expect program k.Assignment) (λ v.
    good_bind (expression_good program levels) (λ value.
    good_bind (good_expect program k.Semicolon) (λ s.
    good_pure (decl.Constants names type_name value) (λ l w. simp append_assoc) (λ l w. (f w.0.0.0.0.0, w.0.0.0.1, w.0.1)))))))

objects_end : (levels : ℕ) (names : List Identifier) → IsIdentifiers names → Ends written_decl (IsDecl levels) (named_text names)
objects_end levels names f = ((variables_starts {L = ⊤} {P = ⊤} {on = λ fs. peek program fs ≡ Some k.Identifier} levels names (λ w. f) (λ fs here. here)).good.law tt tt).ends

objects_case : {L P : Type 0} (levels : ℕ) (names : List Identifier) → (P → IsIdentifiers names) → (kind : Option Kind) → Good L P written_decl (IsDecl levels) (named_text names) (Sees (peek program) kind) (objects_by levels names kind) (objects_by (suc levels) names kind)
objects_case levels names f (Some k.Identifier) = (variables_starts levels names f (λ fs here. here)).good
objects_case levels names f (Some k.Constant) = (constants_starts levels names f (λ fs here. here)).good
objects_case levels names f _ = good_refuse (λ l w. objects_end levels names (f w))

objects_after_good : {L P : Type 0} (levels : ℕ) (names : List Identifier) → (P → IsIdentifiers names) → Good L P written_decl (IsDecl levels) (named_text names) Any (objects_after levels names) (objects_after (suc levels) names)
unfolding objects_after
objects_after_good levels names f = good_choose (peek program) (λ t xs ys. refl) (objects_by levels names) (objects_by (suc levels) names) refl refl (objects_case levels names f)

objects_start : {L P : Type 0} {on : List Form → Type 0} (levels : ℕ) → ((fs : List Form) → on fs → peek program fs ≡ Some k.Identifier) → Starts L P written_decl (IsDecl levels) [] on (objects levels) (objects (suc levels))
unfolding objects
objects_start levels here =
    starts_bind (identifiers_starts program here) (λ names.
    good_bind (good_expect program k.Colon) (λ u. objects_after_good levels names (λ w. w.0.1)))

declaration_ends : (levels : ℕ) → Ends written_decl (IsDecl levels) []
declaration_ends levels = ((objects_start {L = ⊤} {P = ⊤} {on = λ fs. peek program fs ≡ Some k.Identifier} levels (λ fs here. here)).good.law tt tt).ends

declaration_case : {L P : Type 0} (levels : ℕ) (kind : Option Kind) → Good L P written_decl (IsDecl levels) [] (Sees (peek program) kind) (declaration_by levels kind) (declaration_by (suc levels) kind)
declaration_case levels (Some k.Identifier) = (objects_start levels (λ fs here. here)).good
declaration_case levels (Some k.Type) = (full_type_starts levels (λ fs here. here)).good
declaration_case levels (Some k.Subtype) = (subtype_starts levels (λ fs here. here)).good
declaration_case levels _ = good_refuse (λ l w. declaration_ends levels)

begun_case : {L P : Type 0} (levels : ℕ) (kind : Option Kind) → starts_declaration kind ≡ true → Starts L P written_decl (IsDecl levels) [] (Sees (peek program) kind) (declaration_by levels kind) (declaration_by (suc levels) kind)
begun_case levels (Some k.Identifier) e = objects_start levels (λ fs here. here)
begun_case levels (Some k.Type) e = full_type_starts levels (λ fs here. here)
begun_case levels (Some k.Subtype) e = subtype_starts levels (λ fs here. here)
begun_case levels _ e = absurd cc

declaration_starts : {L P : Type 0} (levels : ℕ) → Starts L P written_decl (IsDecl levels) [] (Sees sees_declaration true) (declaration levels) (declaration (suc levels))
unfolding declaration
declaration_starts levels =
    starts_choose (peek program) (λ t xs ys. refl) (declaration_by levels) (declaration_by (suc levels)) (good_choose (peek program) (λ t xs ys. refl) (declaration_by levels) (declaration_by (suc levels)) refl refl (declaration_case levels))
    (λ fs here. begun_case levels (peek program fs) here)

pub declarations_shrinks : (levels : ℕ) → Shrinks sees_declaration (item_step (declaration levels))
declarations_shrinks levels = items_shrinks written_decl (IsDecl levels) sees_declaration (λ t xs ys. refl) refl {L = ⊤} (declaration_starts levels) tt

declarations_good : {L P : Type 0} (levels : ℕ) → Good L P written_decls (Each (IsDecl levels)) [] Any (declarations levels) (declarations (suc levels))
unfolding declarations more_declarations
declarations_good levels = good_items written_decl (IsDecl levels) sees_declaration (λ t xs ys. refl) refl (declaration_starts levels)

-- ---- subprograms and units

end_name_starts : {L P : Type 0} {on : List Form → Type 0} → ((fs : List Form) → on fs → peek program fs ≡ Some k.Identifier) → Starts L P (written_identifier program) Always [] on (identifier program) (identifier program)
end_name_starts here = starts_identifier program here

-- the heading of a subprogram, and what comes after it

abbrev pub written_heading : HeadingParts → List Form
written_heading h = placed program k.Procedure h.place ∷ named program h.name ∷ (optional written_formal_part h.formal_part ++ (optional written_derives h.derives ++ (optional written_pre h.pre ++ optional written_post h.post)))

abbrev pub written_body : BodyParts → List Form
written_body b = bare program k.Is ∷ (written_decls b.declarations ++ (bare program k.Begin ∷ (written_stmts b.statements ++ (placed program k.End b.end ∷ (optional (written_identifier program) b.end_name ++ bare program k.Semicolon ∷ [])))))

pub record IsHeading (levels : ℕ) (h : HeadingParts) : Type 0 where
  pub formal_part : IfThere (IsFormalPart levels) h.formal_part
  pub derives : IfThere (IsDerives levels) h.derives
  pub pre : IfThere (IsPredicate levels) h.pre
  pub post : IfThere (IsPredicate levels) h.post

pub record IsBody (levels : ℕ) (b : BodyParts) : Type 0 where
  pub declarations : Each (IsDecl levels) b.declarations
  pub statements : IsStmts levels b.statements

heading_flat : (p n f d q r : List Form) → ((((p ++ n) ++ f) ++ d) ++ q) ++ r ≡ p ++ (n ++ (f ++ (d ++ (q ++ r))))
heading_flat p n f d q r = simp append_assoc

body_flat : (i c b s e m z : List Form) → (((((i ++ c) ++ b) ++ s) ++ e) ++ m) ++ z ≡ i ++ (c ++ (b ++ (s ++ (e ++ (m ++ z)))))
body_flat i c b s e m z = simp append_assoc

whole_flat : (f d q r z : List Form) → (f ++ (d ++ (q ++ r))) ++ z ≡ f ++ (d ++ (q ++ (r ++ z)))
whole_flat f d q r z = simp append_assoc

heading_starts : {L P : Type 0} {on : List Form → Type 0} (levels : ℕ) → ((fs : List Form) → on fs → peek program fs ≡ Some k.Procedure) → Starts L P written_heading (IsHeading levels) [] on (heading levels) (heading (suc levels))
unfolding heading
heading_starts levels here =
    starts_bind (starts_place program k.Procedure here refl) (λ place.
    good_bind (good_identifier program) (λ name.
    good_bind (good_if_seen written_formal_part (IsFormalPart levels) program k.LeftParenthesis (formal_part_starts levels (sees_kind program k.LeftParenthesis))) (λ formal_part.
    good_bind (good_if_seen written_derives (IsDerives levels) annotation k.Derives (derives_starts levels (sees_kind annotation k.Derives))) (λ derives.
    good_bind (good_if_seen written_pre (IsPredicate levels) annotation k.Pre (predicate_after_starts k.Pre levels refl (sees_kind annotation k.Pre))) (λ pre.
    good_bind (good_if_seen written_post (IsPredicate levels) annotation k.Post (predicate_after_starts k.Post levels refl (sees_kind annotation k.Post))) (λ post.
    good_pure (record { place = place; name = name; formal_part = formal_part; derives = derives; pre = pre; post = post })
    (λ l w. heading_flat (placed program k.Procedure place ∷ []) (named program name ∷ []) (optional written_formal_part formal_part) (optional written_derives derives) (optional written_pre pre) (optional written_post post))
    (λ l w. record { formal_part = w.0.0.0.1; derives = w.0.0.1; pre = w.0.1; post = w.1 })))))))

body_good : {L P : Type 0} (levels : ℕ) → Good L P written_body (IsBody levels) [] Any (body levels) (body (suc levels))
unfolding body
body_good levels =
    good_bind (good_expect program k.Is) (λ u1.
    good_bind (declarations_good levels) (λ declarations.
    good_bind (good_expect program k.Begin) (λ u2.
    good_bind (stmts_good levels) (λ statements.
    good_bind (good_expect_place program k.End) (λ end.
    good_bind (good_if_seen (written_identifier program) Always program k.Identifier (end_name_starts (sees_kind program k.Identifier))) (λ end_name.
    good_bind (good_expect program k.Semicolon) (λ u3.
    good_pure (record { declarations = declarations; statements = statements; end = end; end_name = end_name })
    (λ l w. body_flat (bare program k.Is ∷ []) (written_decls declarations) (bare program k.Begin ∷ []) (written_stmts statements) (placed program k.End end ∷ []) (optional (written_identifier program) end_name) (bare program k.Semicolon ∷ []))
    (λ l w. record { declarations = w.0.0.0.0.0.1; statements = w.0.0.0.1 }))))))))

subprogram_starts : {L P : Type 0} {on : List Form → Type 0} (levels : ℕ) → ((fs : List Form) → on fs → peek program fs ≡ Some k.Procedure) → Starts L P written_subprogram (IsSubprogram levels) [] on (subprogram levels) (subprogram (suc levels))
unfolding subprogram
subprogram_starts levels here =
    starts_bind (heading_starts levels here) (λ heading.
    good_bind (body_good levels) (λ body.
    good_pure (whole heading body)
    (λ l w. ap (λ (fs : List Form). placed program k.Procedure heading.place ∷ named program heading.name ∷ fs) (whole_flat (optional written_formal_part heading.formal_part) (optional written_derives heading.derives) (optional written_pre heading.pre) (optional written_post heading.post) (written_body body)))
    (λ l w. record { formal_part = w.0.1.formal_part; derives = w.0.1.derives; pre = w.0.1.pre; post = w.0.1.post; declarations = w.1.declarations; statements = w.1.statements })))

pub unit_starts : {L P : Type 0} (levels : ℕ) → Starts L P written_unit (IsUnit levels) [] (Sees (sees program k.Procedure) true) (unit_at levels) (unit_at (suc levels))
unfolding unit_at
unit_starts levels = starts_bind (subprogram_starts levels (sees_kind program k.Procedure)) (λ sub. good_pure (unit.Subprogram sub) (λ l w. refl) (λ l w. w.1))

units_adds : (levels : ℕ) → Adds written_unit (IsUnit levels) written (IsFile levels)
units_adds levels found x f g = (joined_added written_unit found x, all_added (IsUnit levels) found x f g)

pub units_shrinks : (levels : ℕ) → Shrinks (sees program k.Procedure) (item_step (unit_at levels))
units_shrinks levels = list_shrinks ⊤ ⊤ written_unit (IsUnit levels) written (IsFile levels) (units_adds levels) (sees program k.Procedure) (λ t xs ys. refl) refl (unit_starts levels) tt

pub file_good : (levels : ℕ) → Good ⊤ ⊤ written (IsFile levels) [] Any (file levels) (file (suc levels))
unfolding file more_units
file_good levels = good_given (λ l. l) (λ l w. (tt, tt)) (good_more ⊤ ⊤ written_unit (IsUnit levels) written (IsFile levels) (units_adds levels) (sees program k.Procedure) (λ t xs ys. refl) refl (unit_starts levels) [])
