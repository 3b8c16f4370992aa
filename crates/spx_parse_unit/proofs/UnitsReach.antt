-- The forms of declarations, annotations, subprograms and units are read as those.
use Rattle.std.specs.Prelude.{⊤}
use Rattle.std.proofs.Common.{◌≡◌, ℕ, ◌<◌, arith, Bool, true, false, List, [], ◌∷◌, ◌++◌, map, Option, Some, None, refl, sym, ap, ◌∙◌, append_assoc}
use Rattle.spx_text.specs.declared.place.Place.{Place}
use Rattle.spx_tree.specs.declared.token.Kind.{Kind}
use Rattle.spx_tree.specs.declared.token.Kind.TheVariants as k
use Rattle.spx_tree.specs.declared.expression.Identifier.{Identifier}
use Rattle.spx_tree.specs.declared.expression.Name.{Name}
use Rattle.spx_tree.specs.declared.expression.Expr.{Expr}
use Rattle.spx_tree.specs.declared.declaration.Decl.{Decl}
use Rattle.spx_tree.specs.declared.declaration.Decl.TheVariants as decl
use Rattle.spx_tree.specs.declared.declaration.FieldDecl.{FieldDecl}
use Rattle.spx_tree.specs.declared.declaration.TypeDef.{TypeDef}
use Rattle.spx_tree.specs.declared.declaration.TypeDef.TheVariants as defined
use Rattle.spx_tree.specs.declared.expression.Layer.TheVariants as layer
use Rattle.spx_tree.specs.declared.annotation.Exports.{Exports}
use Rattle.spx_tree.specs.declared.annotation.Exports.TheVariants as exported
use Rattle.spx_tree.specs.declared.annotation.Imports.{Imports}
use Rattle.spx_tree.specs.declared.annotation.DerivesItem.{DerivesItem}
use Rattle.spx_tree.specs.declared.annotation.Derives.{Derives}
use Rattle.spx_tree.specs.declared.annotation.Predicate.{Predicate}
use Rattle.spx_tree.specs.declared.subprogram.WrittenMode.{WrittenMode}
use Rattle.spx_tree.specs.declared.subprogram.WrittenMode.TheVariants as modes
use Rattle.spx_tree.specs.declared.subprogram.Param.{Param}
use Rattle.spx_tree.specs.declared.subprogram.FormalPart.{FormalPart}
use Rattle.spx_tree.specs.declared.subprogram.Subprogram.{Subprogram}
use Rattle.spx_tree.specs.declared.subprogram.Unit.{Unit}
use Rattle.spx_tree.specs.declared.subprogram.Unit.TheVariants as unit
use Rattle.spx_tree.specs.Form.{Form, bare, placed, named}
use Rattle.spx_tree.specs.Written.{program, annotation, written_at, joined, following, separated, optional, written_identifier, written_identifiers, written_name, written_names, written_expr, written_constraint, written_field, written_definition, written_initial, written_decl, written_decls, written_stmts, written_imports, written_item, written_derives, written_pre, written_post, written_mode, written_param, written_params, written_formal_part, written_subprogram, written_unit, written}
use Rattle.spx_tree.specs.Grammar.{Each, OneOrMore, IfThere, IsIdentifiers, IsName, IsNames, IsExpr, IsFieldDecl, IsDefinition, IsDecl, HasImportsFor, IsItem, IsDerives, IsPredicate, IsParam, IsFormalPart, IsSubprogram, IsUnit, IsFile}
use Rattle.spx_cursor.specs.Reading.{pure, peek, is_kind, sees, identifier, optional_by, if_seen}
use Rattle.spx_parse_body.specs.Expressions.{name, predicate_after}
use Rattle.spx_parse_unit.specs.declared.subprograms.HeadingParts.{HeadingParts}
use Rattle.spx_parse_unit.specs.declared.subprograms.BodyParts.{BodyParts}
use Rattle.spx_parse_unit.specs.Units.{more_identifiers, identifiers, more_names, names, starred, unstarred, imports_by, imports, named_item, null_item, item_by, item, more_derives, items, derives, in_by, following_in, mode_by, mode, param, more_params, params, formal_part, integer, enumeration, array, field, fields, record_definition, more_fields, definition_by, definition, full_type, subtype, initial, variables, constants, objects_by, objects_after, objects, declaration_by, declaration, sees_declaration, more_declarations, declarations, heading, body, subprogram, unit_at, more_units, file}
use Rattle.spx_parse_body.proofs.Callers.Shaped.{kind_self}
use Rattle.spx_parse_body.proofs.Callers.Separated.{Lacks, not_seen, sees_front, reaches_following, reaches_separated, reaches_some_items, reaches_if_seen}
use Rattle.spx_parse_body.proofs.Callers.Reaches.{Reaches, reaches_is, reaches_bind, reaches_pure, reaches_choose, reaches_expect, reaches_expect_place, reaches_identifier, reaches_items, peek_front}
use Rattle.spx_parse_body.proofs.Callers.NamesReach.{strength, Free}
use Rattle.spx_parse_body.proofs.Callers.ExpressionsReach.{name_again, name_front, expression_again, predicate_after_again, semicolon_free, sum_free}
use Rattle.spx_parse_body.proofs.Callers.StatementsReach.{constraint_again, constraint_option, constraint_apart, stmts_again}
use Rattle.spx_parse_unit.proofs.UnitsGood.{identifiers_shrinks, names_shrinks, derives_shrinks, params_shrinks, fields_shrinks, declarations_shrinks, units_shrinks}

-- ---- identifiers and names

identifiers_again : (marked : Bool) (xs : List Identifier) (fs zs : List Form) → IsIdentifiers xs → Lacks marked k.Comma zs → fs ≡ written_identifiers marked xs ++ zs → Reaches (identifiers marked) fs xs zs
unfolding identifiers more_identifiers
identifiers_again marked xs fs zs f over h =
    reaches_separated (written_identifier marked) (λ x. ⊤) marked k.Comma (λ ws. ⊤) (sees marked k.Comma) (identifiers_shrinks marked) (λ ws. (sees_front marked (bare marked k.Comma) ws refl, tt)) (λ x gs ws g u e. reaches_identifier marked e) xs fs zs f (not_seen marked k.Comma zs over) tt h

-- what does not go on with a name
abbrev Apart : Bool → List Form → Type 0
Apart marked zs = 0 < strength (peek marked zs)

apart_kind : (marked : Bool) (kind : Kind) (ws : List Form) → 0 < strength (Some kind) → Apart marked (bare marked kind ∷ ws)
apart_kind true kind ws some = some
apart_kind false kind ws some = some

comma_next : (marked : Bool) (ws : List Form) → (sees marked k.Comma (bare marked k.Comma ∷ ws) ≡ true) × Apart marked (bare marked k.Comma ∷ ws)
comma_next marked ws = (sees_front marked (bare marked k.Comma) ws refl, apart_kind marked k.Comma ws (omega arith))

names_again : (marked : Bool) (levels : ℕ) (xs : List Name) (fs zs : List Form) → IsNames levels xs → Lacks marked k.Comma zs → Apart marked zs → fs ≡ written_names marked xs ++ zs → Reaches (names marked levels) fs xs zs
unfolding names more_names
names_again marked levels xs fs zs f over apart h =
    reaches_separated (written_name marked) (IsName levels) marked k.Comma (Apart marked) (sees marked k.Comma) (names_shrinks marked levels) (comma_next marked) (λ x gs ws g a e. name_again marked levels x gs ws g a e) xs fs zs f (not_seen marked k.Comma zs over) apart h

star_again : (levels : ℕ) (xs : List Name) (fs zs : List Form) → Each (IsName levels) xs → Lacks annotation k.Comma zs → Apart annotation zs → fs ≡ following (bare annotation k.Comma) (written_name annotation) xs ++ zs → Reaches (more_names annotation levels []) fs xs zs
unfolding more_names
star_again levels xs fs zs f over apart h =
    reaches_following (written_name annotation) (IsName levels) annotation k.Comma (Apart annotation) (sees annotation k.Comma) (names_shrinks annotation levels) (comma_next annotation) (λ x gs ws g a e. name_again annotation levels x gs ws g a e) [] xs fs zs f (not_seen annotation k.Comma zs over) apart h

-- ---- annotations

-- no form that goes on with imports comes next
record Closes (zs : List Form) : Type 0 where
  no_comma : Lacks annotation k.Comma zs
  no_star : Lacks annotation k.Asterisk zs
  no_name : Lacks annotation k.Identifier zs
  apart : Apart annotation zs

imports_plain : (levels : ℕ) (kind : Option Kind) (us zs : List Form) → (kind ≡ Some k.Asterisk → ⊥) → (kind ≡ Some k.Identifier → ⊥) → us ≡ zs → Reaches (imports_by levels kind) us (record { itself = None; names = [] }) zs
imports_plain levels (Some k.Asterisk) us zs a b e = absurd (a refl)
imports_plain levels (Some k.Identifier) us zs a b e = absurd (b refl)
imports_plain levels _ us zs a b e = reaches_pure e

imports_again : (levels : ℕ) (itself : Option Place) (xs : List Name) (fs zs : List Form) → Each (IsName levels) xs → Closes zs → fs ≡ written_imports itself xs ++ zs → Reaches (imports levels) fs (record { itself = itself; names = xs }) zs
unfolding imports starred unstarred
imports_again levels None [] fs zs f over h = reaches_choose (peek annotation) (imports_by levels) (peek annotation zs) (peek_front annotation fs h) (imports_plain levels (peek annotation zs) fs zs over.no_star over.no_name h)
imports_again levels None (x ∷ xs) fs zs f over h =
    reaches_choose (peek annotation) (imports_by levels) (Some k.Identifier)
    (peek_front annotation fs (h ∙ append_assoc (written_name annotation x) (following (bare annotation k.Comma) (written_name annotation) xs) zs) ∙ name_front annotation x (following (bare annotation k.Comma) (written_name annotation) xs ++ zs))
    (reaches_bind _ (names_again annotation levels (x ∷ xs) fs zs f over.no_comma over.apart h) (λ us a. reaches_pure a))
imports_again levels (Some place) xs fs zs f over h =
    reaches_choose (peek annotation) (imports_by levels) (Some k.Asterisk) (peek_front annotation fs h)
    (reaches_bind _ (reaches_expect_place annotation k.Asterisk h) (λ us a.
    reaches_bind _ (star_again levels xs us zs f over.no_comma over.apart a) (λ vs b. reaches_pure b)))

unstarred_again : (levels : ℕ) (i : Imports) (fs zs : List Form) → i.itself ≡ None → IsNames levels i.names → Closes zs → fs ≡ written_imports i.itself i.names ++ zs → Reaches (unstarred levels) fs i zs
unfolding unstarred
unstarred_again levels i fs zs none f over h =
    reaches_is (ap (λ (o : Option Place). record { itself = o; names = i.names }) (sym none))
    (reaches_bind (λ names. pure (record { itself = None; names = names })) (names_again annotation levels i.names fs zs f over.no_comma over.apart (h ∙ ap (λ (o : Option Place). written_imports o i.names ++ zs) none)) (λ us a. reaches_pure a))

item_made : Exports → Imports → DerivesItem
item_made exports imports = record { exports = exports; imports = imports }

exports_again : (levels : ℕ) (e : Exports) (i : Imports) (fs zs : List Form) → HasImportsFor levels e i → Closes zs → fs ≡ written_item (item_made e i) ++ zs → Reaches (item levels) fs (item_made e i) zs
unfolding item named_item null_item item_made
exports_again levels (exported.Names []) i fs zs f over h = absurd f.0
exports_again levels (exported.Names (x ∷ xs)) i fs zs f over h =
    let flat = h ∙ append_assoc (written_names annotation (x ∷ xs)) (bare annotation k.From ∷ written_imports i.itself i.names) zs in
    let after : List Form = bare annotation k.From ∷ (written_imports i.itself i.names ++ zs) in
    let first = flat ∙ append_assoc (written_name annotation x) (following (bare annotation k.Comma) (written_name annotation) xs) after in
    reaches_choose (peek annotation) (item_by levels) (Some k.Identifier) (peek_front annotation fs first ∙ name_front annotation x (following (bare annotation k.Comma) (written_name annotation) xs ++ after))
    (reaches_bind _ (names_again annotation levels (x ∷ xs) fs (bare annotation k.From ∷ (written_imports i.itself i.names ++ zs)) f.0 (λ e. cc) (omega arith) flat) (λ us a.
    reaches_bind _ (reaches_expect annotation k.From a) (λ vs b.
    reaches_bind _ (imports_again levels i.itself i.names vs zs f.1 over b) (λ ws d. reaches_pure d))))
exports_again levels (exported.Null place) i fs zs f over h =
    reaches_choose (peek annotation) (item_by levels) (Some k.Null) (peek_front annotation fs h)
    (reaches_bind _ (reaches_expect_place annotation k.Null h) (λ us a.
    reaches_bind _ (reaches_expect annotation k.From a) (λ vs b.
    reaches_bind _ (unstarred_again levels i vs zs f.0 f.1 over b) (λ ws d. reaches_pure d))))

item_again : (levels : ℕ) (x : DerivesItem) (fs zs : List Form) → IsItem levels x → Closes zs → fs ≡ written_item x ++ zs → Reaches (item levels) fs x zs
unfolding item_made
item_again levels x fs zs f over h = exports_again levels x.exports x.imports fs zs f over h

amper_closes : (ws : List Form) → Closes (bare annotation k.Ampersand ∷ ws)
amper_closes ws = record { no_comma = λ e. cc; no_star = λ e. cc; no_name = λ e. cc; apart = omega arith }

semicolon_closes : (ws : List Form) → Closes (bare annotation k.Semicolon ∷ ws)
semicolon_closes ws = record { no_comma = λ e. cc; no_star = λ e. cc; no_name = λ e. cc; apart = omega arith }

items_again : (levels : ℕ) (xs : List DerivesItem) (fs zs : List Form) → OneOrMore (IsItem levels) xs → Lacks annotation k.Ampersand zs → Closes zs → fs ≡ separated (bare annotation k.Ampersand) written_item xs ++ zs → Reaches (items levels) fs xs zs
unfolding items more_derives
items_again levels xs fs zs f over stops h =
    reaches_separated written_item (IsItem levels) annotation k.Ampersand Closes (sees annotation k.Ampersand) (derives_shrinks levels) (λ ws. (sees_front annotation (bare annotation k.Ampersand) ws refl, amper_closes ws)) (item_again levels) xs fs zs f (not_seen annotation k.Ampersand zs over) stops h

derives_again : (levels : ℕ) (x : Derives) (fs zs : List Form) → IsDerives levels x → fs ≡ written_derives x ++ zs → Reaches (derives levels) fs x zs
unfolding derives
derives_again levels x fs zs f h =
    let flat = h ∙ ap (λ (us : List Form). placed annotation k.Derives x.place ∷ us) (append_assoc (separated (bare annotation k.Ampersand) written_item x.items) (bare annotation k.Semicolon ∷ []) zs) in
    reaches_bind _ (reaches_expect_place annotation k.Derives flat) (λ us a.
    reaches_bind _ (items_again levels x.items us (bare annotation k.Semicolon ∷ zs) f (λ e. cc) (semicolon_closes zs) a) (λ vs b.
    reaches_bind _ (reaches_expect annotation k.Semicolon b) (λ ws d. reaches_pure d)))

-- ---- formal parameters

mode_again : (x : WrittenMode) (fs zs : List Form) → peek program zs ≡ Some k.Identifier → fs ≡ written_mode x ++ zs → Reaches mode fs x zs
unfolding mode following_in
mode_again modes.Unwritten fs zs next h = reaches_choose (peek program) mode_by (Some k.Identifier) (peek_front program fs h ∙ next) (reaches_pure h)
mode_again (modes.In place) fs zs next h =
    reaches_choose (peek program) mode_by (Some k.In) (peek_front program fs h)
    (reaches_bind _ (reaches_expect_place program k.In h) (λ us a. reaches_choose (peek program) (in_by place) (Some k.Identifier) (peek_front program us a ∙ next) (reaches_pure a)))
mode_again modes.Out fs zs next h =
    reaches_choose (peek program) mode_by (Some k.Out) (peek_front program fs h)
    (reaches_bind _ (reaches_expect program k.Out h) (λ us a. reaches_pure a))
mode_again (modes.InOut place) fs zs next h =
    reaches_choose (peek program) mode_by (Some k.In) (peek_front program fs h)
    (reaches_bind _ (reaches_expect_place program k.In h) (λ us a. reaches_choose (peek program) (in_by place) (Some k.Out) (peek_front program us a)
    (reaches_bind _ (reaches_expect program k.Out a) (λ vs b. reaches_pure b))))

param_again : (levels : ℕ) (x : Param) (fs zs : List Form) → IsParam levels x → Apart program zs → fs ≡ written_param x ++ zs → Reaches (param levels) fs x zs
unfolding param
param_again levels x fs zs f apart h =
    reaches_bind _ (identifiers_again program x.names fs (bare program k.Colon ∷ ((written_mode x.mode ++ written_name program x.type_name) ++ zs)) f.0 (λ e. cc) (h ∙ append_assoc (written_identifiers program x.names) (bare program k.Colon ∷ (written_mode x.mode ++ written_name program x.type_name)) zs)) (λ us a.
    reaches_bind _ (reaches_expect program k.Colon a) (λ vs b.
    reaches_bind _ (mode_again x.mode vs (written_name program x.type_name ++ zs) (name_front program x.type_name zs) (b ∙ append_assoc (written_mode x.mode) (written_name program x.type_name) zs)) (λ ws d.
    reaches_bind _ (name_again program levels x.type_name ws zs f.1 apart d) (λ xs e. reaches_pure e))))

params_again : (levels : ℕ) (xs : List Param) (fs zs : List Form) → OneOrMore (IsParam levels) xs → Lacks program k.Semicolon zs → Apart program zs → fs ≡ written_params xs ++ zs → Reaches (params levels) fs xs zs
unfolding params more_params
params_again levels xs fs zs f over apart h =
    reaches_separated written_param (IsParam levels) program k.Semicolon (Apart program) (sees program k.Semicolon) (params_shrinks levels) (λ ws. (sees_front program (bare program k.Semicolon) ws refl, apart_kind program k.Semicolon ws (omega arith))) (param_again levels) xs fs zs f (not_seen program k.Semicolon zs over) apart h

formal_part_again : (levels : ℕ) (x : FormalPart) (fs zs : List Form) → IsFormalPart levels x → fs ≡ written_formal_part x ++ zs → Reaches (formal_part levels) fs x zs
unfolding formal_part
formal_part_again levels x fs zs f h =
    let flat = h ∙ ap (λ (us : List Form). placed program k.LeftParenthesis x.place ∷ us) (append_assoc (written_params x.params) (bare program k.RightParenthesis ∷ []) zs) in
    reaches_bind _ (reaches_expect_place program k.LeftParenthesis flat) (λ us a.
    reaches_bind _ (params_again levels x.params us (bare program k.RightParenthesis ∷ zs) f (λ e. cc) (omega arith) a) (λ vs b.
    reaches_bind _ (reaches_expect program k.RightParenthesis b) (λ ws d. reaches_pure d)))

-- ---- declarations

-- no sum goes on with a semicolon
semicolon_ends : (zs : List Form) → Free layer.Sum (peek program (bare program k.Semicolon ∷ zs))
semicolon_ends zs = sum_free (peek program (bare program k.Semicolon ∷ zs)) (semicolon_free program zs)

initial_again : (levels : ℕ) (x : Expr) (fs zs : List Form) → IsExpr levels x → fs ≡ written_initial x ++ bare program k.Semicolon ∷ zs → Reaches (initial levels) fs x (bare program k.Semicolon ∷ zs)
unfolding initial
initial_again levels x fs zs f h = reaches_bind _ (reaches_expect program k.Assignment h) (λ us a. expression_again program levels x us (bare program k.Semicolon ∷ zs) f (semicolon_free program zs) a)

initial_option : (levels : ℕ) (x : Option Expr) (fs zs : List Form) → IfThere (IsExpr levels) x → fs ≡ optional written_initial x ++ bare program k.Semicolon ∷ zs → Reaches (if_seen program k.Assignment (initial levels)) fs x (bare program k.Semicolon ∷ zs)
unfolding if_seen
initial_option levels None fs zs f h =
    reaches_choose (sees program k.Assignment) (optional_by (initial levels)) false (ap (sees program k.Assignment) h ∙ not_seen program k.Assignment (bare program k.Semicolon ∷ zs) (λ e. cc)) (reaches_pure h)
initial_option levels (Some x) fs zs f h =
    reaches_choose (sees program k.Assignment) (optional_by (initial levels)) true (ap (sees program k.Assignment) h ∙ kind_self k.Assignment) (reaches_bind _ (initial_again levels x fs zs f h) (λ us a. reaches_pure a))

-- what stands after the type of variables does not go on with it
initial_apart : (x : Option Expr) (zs : List Form) → Apart program (optional written_initial x ++ bare program k.Semicolon ∷ zs)
initial_apart None zs = omega arith
initial_apart (Some x) zs = omega arith

-- the type of a constant, before ":="
type_option : (levels : ℕ) (x : Option Name) (fs zs : List Form) → IfThere (IsName levels) x → fs ≡ optional (written_name program) x ++ bare program k.Assignment ∷ zs → Reaches (if_seen program k.Identifier (name program levels)) fs x (bare program k.Assignment ∷ zs)
unfolding if_seen
type_option levels None fs zs f h = reaches_choose (sees program k.Identifier) (optional_by (name program levels)) false (ap (sees program k.Identifier) h ∙ not_seen program k.Identifier (bare program k.Assignment ∷ zs) (λ e. cc)) (reaches_pure h)
type_option levels (Some x) fs zs f h =
    reaches_choose (sees program k.Identifier) (optional_by (name program levels)) true (ap (sees program k.Identifier) h ∙ ap (is_kind k.Identifier) (name_front program x (bare program k.Assignment ∷ zs)) ∙ kind_self k.Identifier)
    (reaches_bind _ (name_again program levels x fs (bare program k.Assignment ∷ zs) f (omega arith) h) (λ us a. reaches_pure a))

-- identifiers come first
names_first : (names : List Identifier) (ws : List Form) → IsIdentifiers names → peek program (written_identifiers program names ++ ws) ≡ Some k.Identifier
names_first [] ws f = absurd f
names_first (name ∷ names) ws f = refl

field_text : (n t zs : List Form) → (n ++ bare program k.Colon ∷ (t ++ bare program k.Semicolon ∷ [])) ++ zs ≡ n ++ bare program k.Colon ∷ (t ++ bare program k.Semicolon ∷ zs)
field_text n t zs = simp append_assoc

field_again : (levels : ℕ) (x : FieldDecl) (fs zs : List Form) → IsFieldDecl levels x → fs ≡ written_field x ++ zs → Reaches (field levels) fs x zs
unfolding field
field_again levels x fs zs f h =
    let after : List Form = bare program k.Semicolon ∷ zs in
    reaches_bind _ (identifiers_again program x.names fs (bare program k.Colon ∷ (written_name program x.type_name ++ after)) f.0 (λ e. cc) (h ∙ field_text (written_identifiers program x.names) (written_name program x.type_name) zs)) (λ us a.
    reaches_bind _ (reaches_expect program k.Colon a) (λ vs b.
    reaches_bind _ (name_again program levels x.type_name vs after f.1 (omega arith) b) (λ ws d.
    reaches_bind _ (reaches_expect program k.Semicolon d) (λ t1 a1. reaches_pure a1))))

field_seen : (levels : ℕ) (x : FieldDecl) (ws : List Form) → IsFieldDecl levels x → sees program k.Identifier (written_field x ++ ws) ≡ true
field_seen levels x ws f =
    ap (sees program k.Identifier) (field_text (written_identifiers program x.names) (written_name program x.type_name) ws)
    ∙ ap (is_kind k.Identifier) (names_first x.names (bare program k.Colon ∷ (written_name program x.type_name ++ bare program k.Semicolon ∷ ws)) f.0) ∙ kind_self k.Identifier

fields_again : (levels : ℕ) (xs : List FieldDecl) (fs zs : List Form) → OneOrMore (IsFieldDecl levels) xs → Lacks program k.Identifier zs → fs ≡ joined (map written_field xs) ++ zs → Reaches (fields levels) fs xs zs
unfolding fields more_fields
fields_again levels xs fs zs f over h =
    reaches_some_items written_field (IsFieldDecl levels) (sees program k.Identifier) (fields_shrinks levels) (field_seen levels) (field_again levels) xs fs zs f (not_seen program k.Identifier zs over) h

definition_again : (levels : ℕ) (x : TypeDef) (fs zs : List Form) → IsDefinition levels x → fs ≡ written_definition x ++ bare program k.Semicolon ∷ zs → Reaches (definition levels) fs x (bare program k.Semicolon ∷ zs)
unfolding definition integer enumeration array record_definition
definition_again levels (defined.Integer x) fs zs f h =
    reaches_choose (peek program) (definition_by levels) (Some k.Range) (peek_front program fs h)
    (reaches_bind _ (constraint_again levels x fs (bare program k.Semicolon ∷ zs) f (semicolon_ends zs) h) (λ us a. reaches_pure a))
definition_again levels (defined.Enumeration place literals) fs zs f h =
    let flat = h ∙ ap (λ (us : List Form). placed program k.LeftParenthesis place ∷ us) (append_assoc (written_identifiers program literals) (bare program k.RightParenthesis ∷ []) (bare program k.Semicolon ∷ zs)) in
    reaches_choose (peek program) (definition_by levels) (Some k.LeftParenthesis) (peek_front program fs h)
    (reaches_bind _ (reaches_expect_place program k.LeftParenthesis flat) (λ us a.
    reaches_bind _ (identifiers_again program literals us (bare program k.RightParenthesis ∷ bare program k.Semicolon ∷ zs) f (λ e. cc) a) (λ vs b.
    reaches_bind _ (reaches_expect program k.RightParenthesis b) (λ ws d. reaches_pure d))))
definition_again levels (defined.Array place index element) fs zs f h =
    let from_of : List Form = bare program k.Of ∷ written_name program element in
    let flat = h ∙ ap (λ (us : List Form). bare program k.Array ∷ placed program k.LeftParenthesis place ∷ us) (append_assoc (written_name program index) (bare program k.RightParenthesis ∷ from_of) (bare program k.Semicolon ∷ zs)) in
    reaches_choose (peek program) (definition_by levels) (Some k.Array) (peek_front program fs h)
    (reaches_bind _ (reaches_expect program k.Array flat) (λ us a.
    reaches_bind _ (reaches_expect_place program k.LeftParenthesis a) (λ vs b.
    reaches_bind _ (name_again program levels index vs (bare program k.RightParenthesis ∷ (from_of ++ bare program k.Semicolon ∷ zs)) f.0 (omega arith) b) (λ ws d.
    reaches_bind _ (reaches_expect program k.RightParenthesis d) (λ t1 a1.
    reaches_bind _ (reaches_expect program k.Of a1) (λ t2 a2.
    reaches_bind _ (name_again program levels element t2 (bare program k.Semicolon ∷ zs) f.1 (omega arith) a2) (λ t3 a3. reaches_pure a3)))))))
definition_again levels (defined.Record fields end) fs zs f h =
    let after : List Form = placed program k.End end ∷ bare program k.Record ∷ bare program k.Semicolon ∷ zs in
    let flat = h ∙ ap (λ (us : List Form). bare program k.Record ∷ us) (append_assoc (joined (map written_field fields)) (placed program k.End end ∷ bare program k.Record ∷ []) (bare program k.Semicolon ∷ zs)) in
    reaches_choose (peek program) (definition_by levels) (Some k.Record) (peek_front program fs h)
    (reaches_bind _ (reaches_expect program k.Record flat) (λ us a.
    reaches_bind _ (fields_again levels fields us after f (λ e. cc) a) (λ vs b.
    reaches_bind _ (reaches_expect_place program k.End b) (λ ws d.
    reaches_bind _ (reaches_expect program k.Record d) (λ t1 a1. reaches_pure a1)))))

-- what stands after identifiers and ":"
objects_again : (levels : ℕ) (names : List Identifier) (x : Decl) (fs ws zs : List Form) → IsIdentifiers names → fs ≡ written_identifiers program names ++ bare program k.Colon ∷ ws
    → ((us : List Form) → us ≡ ws → Reaches (objects_after levels names) us x zs) → Reaches (declaration levels) fs x zs
unfolding declaration objects
objects_again levels names x fs ws zs f h again =
    reaches_choose (peek program) (declaration_by levels) (Some k.Identifier) (peek_front program fs h ∙ names_first names (bare program k.Colon ∷ ws) f)
    (reaches_bind _ (identifiers_again program names fs (bare program k.Colon ∷ ws) f (λ e. cc) h) (λ us a.
    reaches_bind _ (reaches_expect program k.Colon a) again))

variables_text : (n t v zs : List Form) → (n ++ bare program k.Colon ∷ (t ++ (v ++ bare program k.Semicolon ∷ []))) ++ zs ≡ n ++ bare program k.Colon ∷ (t ++ (v ++ bare program k.Semicolon ∷ zs))
variables_text n t v zs = simp append_assoc

constants_text : (n t v zs : List Form) → (n ++ bare program k.Colon ∷ bare program k.Constant ∷ (t ++ bare program k.Assignment ∷ (v ++ bare program k.Semicolon ∷ []))) ++ zs
    ≡ n ++ bare program k.Colon ∷ bare program k.Constant ∷ (t ++ bare program k.Assignment ∷ (v ++ bare program k.Semicolon ∷ zs))
constants_text n t v zs = simp append_assoc

subtype_text : (p r zs : List Form) → (p ++ (r ++ bare program k.Semicolon ∷ [])) ++ zs ≡ p ++ (r ++ bare program k.Semicolon ∷ zs)
subtype_text p r zs = simp append_assoc

declaration_again : (levels : ℕ) (x : Decl) (fs zs : List Form) → IsDecl levels x → fs ≡ written_decl x ++ zs → Reaches (declaration levels) fs x zs
unfolding declaration objects_after variables constants full_type subtype
declaration_again levels (decl.Variables names type_name value) fs zs f h =
    let after : List Form = optional written_initial value ++ bare program k.Semicolon ∷ zs in
    objects_again levels names (decl.Variables names type_name value) fs (written_name program type_name ++ after) zs f.0 (h ∙ variables_text (written_identifiers program names) (written_name program type_name) (optional written_initial value) zs) (λ us a.
    reaches_choose (peek program) (objects_by levels names) (Some k.Identifier) (peek_front program us a ∙ name_front program type_name after)
    (reaches_bind _ (name_again program levels type_name us after f.1 (initial_apart value zs) a) (λ vs b.
    reaches_bind _ (initial_option levels value vs zs f.2 b) (λ ws d.
    reaches_bind _ (reaches_expect program k.Semicolon d) (λ t1 a1. reaches_pure a1)))))
declaration_again levels (decl.Constants names type_name value) fs zs f h =
    let after : List Form = written_expr program value ++ bare program k.Semicolon ∷ zs in
    objects_again levels names (decl.Constants names type_name value) fs (bare program k.Constant ∷ (optional (written_name program) type_name ++ bare program k.Assignment ∷ after)) zs f.0
    (h ∙ constants_text (written_identifiers program names) (optional (written_name program) type_name) (written_expr program value) zs) (λ us a.
    reaches_choose (peek program) (objects_by levels names) (Some k.Constant) (peek_front program us a)
    (reaches_bind _ (reaches_expect program k.Constant a) (λ vs b.
    reaches_bind _ (type_option levels type_name vs after f.1 b) (λ ws d.
    reaches_bind _ (reaches_expect program k.Assignment d) (λ t1 a1.
    reaches_bind _ (expression_again program levels value t1 (bare program k.Semicolon ∷ zs) f.2 (semicolon_free program zs) a1) (λ t2 a2.
    reaches_bind _ (reaches_expect program k.Semicolon a2) (λ t3 a3. reaches_pure a3)))))))
declaration_again levels (decl.FullType name definition) fs zs f h =
    let flat = h ∙ ap (λ (us : List Form). bare program k.Type ∷ named program name ∷ bare program k.Is ∷ us) (append_assoc (written_definition definition) (bare program k.Semicolon ∷ []) zs) in
    reaches_choose (peek program) (declaration_by levels) (Some k.Type) (peek_front program fs flat)
    (reaches_bind _ (reaches_expect program k.Type flat) (λ us a.
    reaches_bind _ (reaches_identifier program a) (λ vs b.
    reaches_bind _ (reaches_expect program k.Is b) (λ ws d.
    reaches_bind _ (definition_again levels definition ws zs f d) (λ t1 a1.
    reaches_bind _ (reaches_expect program k.Semicolon a1) (λ t2 a2. reaches_pure a2))))))
declaration_again levels (decl.Subtype subject parent range) fs zs f h =
    let after : List Form = optional written_constraint range ++ bare program k.Semicolon ∷ zs in
    let flat = h ∙ ap (λ (us : List Form). bare program k.Subtype ∷ named program subject ∷ bare program k.Is ∷ us) (subtype_text (written_name program parent) (optional written_constraint range) zs) in
    reaches_choose (peek program) (declaration_by levels) (Some k.Subtype) (peek_front program fs flat)
    (reaches_bind _ (reaches_expect program k.Subtype flat) (λ us a.
    reaches_bind _ (reaches_identifier program a) (λ vs b.
    reaches_bind _ (reaches_expect program k.Is b) (λ ws d.
    reaches_bind _ (name_again program levels parent ws after f.0 (constraint_apart range (bare program k.Semicolon ∷ zs) (semicolon_ends zs)) d) (λ t1 a1.
    reaches_bind _ (constraint_option levels range t1 (bare program k.Semicolon ∷ zs) f.1 (semicolon_ends zs) (λ e. cc) a1) (λ t2 a2.
    reaches_bind _ (reaches_expect program k.Semicolon a2) (λ t3 a3. reaches_pure a3)))))))

declaration_seen : (levels : ℕ) (x : Decl) (ws : List Form) → IsDecl levels x → sees_declaration (written_decl x ++ ws) ≡ true
declaration_seen levels (decl.Variables [] type_name value) ws f = absurd f.0
declaration_seen levels (decl.Variables (name ∷ names) type_name value) ws f = refl
declaration_seen levels (decl.Constants [] type_name value) ws f = absurd f.0
declaration_seen levels (decl.Constants (name ∷ names) type_name value) ws f = refl
declaration_seen levels (decl.FullType name definition) ws f = refl
declaration_seen levels (decl.Subtype name parent range) ws f = refl

declarations_again : (levels : ℕ) (xs : List Decl) (fs zs : List Form) → Each (IsDecl levels) xs → sees_declaration zs ≡ false → fs ≡ written_decls xs ++ zs → Reaches (declarations levels) fs xs zs
unfolding declarations more_declarations
declarations_again levels xs fs zs f over h =
    reaches_items written_decl (IsDecl levels) sees_declaration (declaration levels) (declarations_shrinks levels) (declaration_seen levels) (declaration_again levels) [] xs fs zs f over h

-- ---- subprograms and units

-- what may be left out: it comes next, or what stands after it does

formal_part_option : (levels : ℕ) (x : Option FormalPart) (fs zs : List Form) → IfThere (IsFormalPart levels) x → Lacks program k.LeftParenthesis zs → fs ≡ optional written_formal_part x ++ zs → Reaches (if_seen program k.LeftParenthesis (formal_part levels)) fs x zs
formal_part_option levels x fs zs f over h = reaches_if_seen written_formal_part (IsFormalPart levels) program k.LeftParenthesis (λ y ws g. kind_self k.LeftParenthesis) (formal_part_again levels) x fs zs f (not_seen program k.LeftParenthesis zs over) h

derives_option : (levels : ℕ) (x : Option Derives) (fs zs : List Form) → IfThere (IsDerives levels) x → Lacks annotation k.Derives zs → fs ≡ optional written_derives x ++ zs → Reaches (if_seen annotation k.Derives (derives levels)) fs x zs
derives_option levels x fs zs f over h = reaches_if_seen written_derives (IsDerives levels) annotation k.Derives (λ y ws g. kind_self k.Derives) (derives_again levels) x fs zs f (not_seen annotation k.Derives zs over) h

predicate_option : (word : Kind) (levels : ℕ) (x : Option Predicate) (fs zs : List Form) → IfThere (IsPredicate levels) x → Lacks annotation word zs → fs ≡ optional (λ y. written_at word y.place y.condition) x ++ zs → Reaches (if_seen annotation word (predicate_after word levels)) fs x zs
predicate_option word levels x fs zs f over h = reaches_if_seen (λ y. written_at word y.place y.condition) (IsPredicate levels) annotation word (λ y ws g. kind_self word) (predicate_after_again word levels) x fs zs f (not_seen annotation word zs over) h

each_there : (x : Option Identifier) → IfThere (λ name. ⊤) x
each_there None = tt
each_there (Some name) = tt

end_name_option : (x : Option Identifier) (fs zs : List Form) → Lacks program k.Identifier zs → fs ≡ optional (written_identifier program) x ++ zs → Reaches (if_seen program k.Identifier (identifier program)) fs x zs
end_name_option x fs zs over h =
    reaches_if_seen (written_identifier program) (λ name. ⊤) program k.Identifier (λ y ws g. kind_self k.Identifier) (λ y gs ws g e. reaches_identifier program e) x fs zs (each_there x) (not_seen program k.Identifier zs over) h

flat : (f d q r i c b s e m z zs : List Form) → (f ++ (d ++ (q ++ (r ++ (i ++ (c ++ (b ++ (s ++ (e ++ (m ++ z)))))))))) ++ zs ≡ f ++ (d ++ (q ++ (r ++ (i ++ (c ++ (b ++ (s ++ (e ++ (m ++ (z ++ zs))))))))))
flat f d q r i c b s e m z zs = simp append_assoc

heading_of : Subprogram → HeadingParts
heading_of x = record { place = x.place; name = x.name; formal_part = x.formal_part; derives = x.derives; pre = x.pre; post = x.post }

body_of : Subprogram → BodyParts
body_of x = record { declarations = x.declarations; statements = x.statements; end = x.end; end_name = x.end_name }

-- What stands after a part that may be left out is not taken for it.
module _ (levels : ℕ) (x : Subprogram) (zs : List Form) where
  from_end : List Form
  from_end = placed program k.End x.end ∷ (optional (written_identifier program) x.end_name ++ bare program k.Semicolon ∷ zs)

  from_is : List Form
  from_is = bare program k.Is ∷ (written_decls x.declarations ++ bare program k.Begin ∷ (written_stmts x.statements ++ from_end))

  from_post : List Form
  from_post = optional written_post x.post ++ from_is

  from_pre : List Form
  from_pre = optional written_pre x.pre ++ from_post

  from_derives : List Form
  from_derives = optional written_derives x.derives ++ from_pre

  post_kind : (q : Option Predicate) (kind : Kind) → (kind ≡ k.Post → ⊥) → Lacks annotation kind (optional written_post q ++ from_is)
  unfolding from_is
  post_kind None kind differs e = cc
  post_kind (Some q) kind differs e = differs cc

  pre_kind : (p q : Option Predicate) (kind : Kind) → (kind ≡ k.Pre → ⊥) → (kind ≡ k.Post → ⊥) → Lacks annotation kind (optional written_pre p ++ (optional written_post q ++ from_is))
  pre_kind None q kind differs differs_too e = post_kind q kind differs_too e
  pre_kind (Some p) q kind differs differs_too e = differs cc

  post_unmarked : (q : Option Predicate) → Lacks program k.LeftParenthesis (optional written_post q ++ from_is)
  unfolding from_is
  post_unmarked None e = cc
  post_unmarked (Some q) e = cc

  pre_unmarked : (p q : Option Predicate) → Lacks program k.LeftParenthesis (optional written_pre p ++ (optional written_post q ++ from_is))
  pre_unmarked None q e = post_unmarked q e
  pre_unmarked (Some p) q e = cc

  derives_unmarked : (d : Option Derives) (p q : Option Predicate) → Lacks program k.LeftParenthesis (optional written_derives d ++ (optional written_pre p ++ (optional written_post q ++ from_is)))
  derives_unmarked None p q e = pre_unmarked p q e
  derives_unmarked (Some d) p q e = cc

  from_name : List Form
  from_name = named program x.name ∷ (optional written_formal_part x.formal_part ++ from_derives)

  heading_again : (fs : List Form) → IsSubprogram levels x → fs ≡ placed program k.Procedure x.place ∷ from_name → Reaches (heading levels) fs (heading_of x) from_is
  unfolding heading heading_of from_is from_post from_pre from_derives from_name
  heading_again fs f h =
      reaches_bind _ (reaches_expect_place program k.Procedure h) (λ t1 a1.
      reaches_bind _ (reaches_identifier program a1) (λ t2 a2.
      reaches_bind _ (formal_part_option levels x.formal_part t2 from_derives f.formal_part (derives_unmarked x.derives x.pre x.post) a2) (λ t3 a3.
      reaches_bind _ (derives_option levels x.derives t3 from_pre f.derives (pre_kind x.pre x.post k.Derives (λ e. cc) (λ e. cc)) a3) (λ t4 a4.
      reaches_bind _ (predicate_option k.Pre levels x.pre t4 from_post f.pre (post_kind x.post k.Pre (λ e. cc)) a4) (λ t5 a5.
      reaches_bind _ (predicate_option k.Post levels x.post t5 from_is f.post (λ e. cc) a5) (λ t6 a6. reaches_pure a6))))))

  body_again : (fs : List Form) → IsSubprogram levels x → fs ≡ from_is → Reaches (body levels) fs (body_of x) zs
  unfolding body body_of from_end from_is
  body_again fs f h =
      reaches_bind _ (reaches_expect program k.Is h) (λ t6 a6.
      reaches_bind _ (declarations_again levels x.declarations t6 _ f.declarations refl a6) (λ t7 a7.
      reaches_bind _ (reaches_expect program k.Begin a7) (λ t8 a8.
      reaches_bind _ (stmts_again levels x.statements t8 from_end f.statements refl a8) (λ t9 a9.
      reaches_bind _ (reaches_expect_place program k.End a9) (λ t10 a10.
      reaches_bind _ (end_name_option x.end_name t10 _ (λ e. cc) a10) (λ t11 a11.
      reaches_bind _ (reaches_expect program k.Semicolon a11) (λ t12 a12. reaches_pure a12)))))))

  subprogram_again : (fs : List Form) → IsSubprogram levels x → fs ≡ written_subprogram x ++ zs → Reaches (subprogram levels) fs x zs
  unfolding subprogram heading_of body_of from_end from_is from_post from_pre from_derives from_name
  subprogram_again fs f h =
      let all = h ∙ ap (λ (us : List Form). placed program k.Procedure x.place ∷ named program x.name ∷ us)
      (flat (optional written_formal_part x.formal_part) (optional written_derives x.derives) (optional written_pre x.pre) (optional written_post x.post) (bare program k.Is ∷ []) (written_decls x.declarations) (bare program k.Begin ∷ []) (written_stmts x.statements) (placed program k.End x.end ∷ []) (optional (written_identifier program) x.end_name) (bare program k.Semicolon ∷ []) zs) in
      reaches_bind _ (heading_again fs f all) (λ us a. reaches_bind _ (body_again us f a) (λ vs b. reaches_pure b))

unit_again : (levels : ℕ) (x : Unit) (fs zs : List Form) → IsUnit levels x → fs ≡ written_unit x ++ zs → Reaches (unit_at levels) fs x zs
unfolding unit_at
unit_again levels (unit.Subprogram x) fs zs f h = reaches_bind _ (subprogram_again levels x zs fs f h) (λ us a. reaches_pure a)

unit_seen : (levels : ℕ) (x : Unit) (ws : List Form) → IsUnit levels x → sees program k.Procedure (written_unit x ++ ws) ≡ true
unit_seen levels (unit.Subprogram x) ws f = kind_self k.Procedure

-- The forms of units are read as those units, where no unit begins after them.
pub file_again : (levels : ℕ) (xs : List Unit) (fs zs : List Form) → IsFile levels xs → Lacks program k.Procedure zs → fs ≡ written xs ++ zs → Reaches (file levels) fs xs zs
unfolding file more_units
file_again levels xs fs zs f over h =
    reaches_items written_unit (IsUnit levels) (sees program k.Procedure) (unit_at levels) (units_shrinks levels) (unit_seen levels) (unit_again levels) [] xs fs zs f (not_seen program k.Procedure zs over) h
