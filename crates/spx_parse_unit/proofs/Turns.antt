-- What the functions of lists use: each list is read item by item.
use Rattle.std.proofs.Common.{◌≡◌, ℕ, Bool, List, ◌∙◌}
use Rattle.spx_tree.specs.declared.token.Kind.TheVariants as k
use Rattle.spx_tree.specs.declared.expression.Identifier.{Identifier}
use Rattle.spx_tree.specs.declared.expression.Name.{Name}
use Rattle.spx_tree.specs.declared.declaration.Decl.{Decl}
use Rattle.spx_tree.specs.declared.declaration.FieldDecl.{FieldDecl}
use Rattle.spx_tree.specs.declared.annotation.DerivesItem.{DerivesItem}
use Rattle.spx_tree.specs.declared.subprogram.Param.{Param}
use Rattle.spx_tree.specs.declared.subprogram.Unit.{Unit}
use Rattle.spx_tree.specs.Form.{Form}
use Rattle.spx_tree.specs.Written.{program, annotation}
use Rattle.spx_cursor.specs.Reading.{◌>>◌, sees, expect, identifier, loop, item_step}
use Rattle.spx_parse_body.specs.Expressions.{name}
use Rattle.spx_parse_unit.specs.Units.{more_identifiers, more_names, item, more_derives, param, more_params, field, more_fields, declaration, sees_declaration, more_declarations, unit_at, more_units}
use Rattle.spx_parse_body.proofs.Callers.Turns.{items_by, items_is, next_by, next_is}
use Rattle.spx_parse_unit.proofs.UnitsGood.{identifiers_shrinks, names_shrinks, derives_shrinks, params_shrinks, fields_shrinks, declarations_shrinks, units_shrinks}

pub more_identifiers_is : (marked : Bool) (found : List Identifier) (fs : List Form) → more_identifiers marked found fs ≡ next_by marked k.Comma (identifier marked) (more_identifiers marked) found (sees marked k.Comma fs) fs
unfolding more_identifiers
more_identifiers_is marked found fs =
    items_is (sees marked k.Comma) (expect marked k.Comma >> identifier marked) (identifiers_shrinks marked) found fs
    ∙ next_is marked k.Comma (identifier marked) (loop (sees marked k.Comma) (item_step (expect marked k.Comma >> identifier marked))) found (sees marked k.Comma fs) fs

pub more_names_is : (marked : Bool) (levels : ℕ) (found : List Name) (fs : List Form) → more_names marked levels found fs ≡ next_by marked k.Comma (name marked levels) (more_names marked levels) found (sees marked k.Comma fs) fs
unfolding more_names
more_names_is marked levels found fs =
    items_is (sees marked k.Comma) (expect marked k.Comma >> name marked levels) (names_shrinks marked levels) found fs
    ∙ next_is marked k.Comma (name marked levels) (loop (sees marked k.Comma) (item_step (expect marked k.Comma >> name marked levels))) found (sees marked k.Comma fs) fs

pub more_derives_is : (levels : ℕ) (found : List DerivesItem) (fs : List Form) → more_derives levels found fs ≡ next_by annotation k.Ampersand (item levels) (more_derives levels) found (sees annotation k.Ampersand fs) fs
unfolding more_derives
more_derives_is levels found fs =
    items_is (sees annotation k.Ampersand) (expect annotation k.Ampersand >> item levels) (derives_shrinks levels) found fs
    ∙ next_is annotation k.Ampersand (item levels) (loop (sees annotation k.Ampersand) (item_step (expect annotation k.Ampersand >> item levels))) found (sees annotation k.Ampersand fs) fs

pub more_params_is : (levels : ℕ) (found : List Param) (fs : List Form) → more_params levels found fs ≡ next_by program k.Semicolon (param levels) (more_params levels) found (sees program k.Semicolon fs) fs
unfolding more_params
more_params_is levels found fs =
    items_is (sees program k.Semicolon) (expect program k.Semicolon >> param levels) (params_shrinks levels) found fs
    ∙ next_is program k.Semicolon (param levels) (loop (sees program k.Semicolon) (item_step (expect program k.Semicolon >> param levels))) found (sees program k.Semicolon fs) fs

pub more_fields_is : (levels : ℕ) (found : List FieldDecl) (fs : List Form) → more_fields levels found fs ≡ items_by (field levels) (more_fields levels) found (sees program k.Identifier fs) fs
unfolding more_fields
more_fields_is levels found fs = items_is (sees program k.Identifier) (field levels) (fields_shrinks levels) found fs

pub more_declarations_is : (levels : ℕ) (found : List Decl) (fs : List Form) → more_declarations levels found fs ≡ items_by (declaration levels) (more_declarations levels) found (sees_declaration fs) fs
unfolding more_declarations
more_declarations_is levels found fs = items_is sees_declaration (declaration levels) (declarations_shrinks levels) found fs

pub more_units_is : (levels : ℕ) (found : List Unit) (fs : List Form) → more_units levels found fs ≡ items_by (unit_at levels) (more_units levels) found (sees program k.Procedure fs) fs
unfolding more_units
more_units_is levels found fs = items_is (sees program k.Procedure) (unit_at levels) (units_shrinks levels) found fs
