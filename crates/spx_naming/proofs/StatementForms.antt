-- Resolved statements, at each form.
use Rattle.std.proofs.Common.{◌≡◌, ℕ, List, [], ◌∷◌, ◌++◌, Option, Some, None, option_map, length, map, take, Bool, true, false, is_some, refl, sym, ap, ap₂, ◌∙◌, append_assoc}
use Rattle.std.proofs.Math.Seq.{take-append_seam}
use Rattle.std.proofs.lemmas.List.{append-nil, map-append}
use Rattle.std.specs.List.{flat_map}
use Rattle.spx_text.specs.declared.place.Place.{Place}
use Rattle.spx_tree.specs.declared.expression.Expr.{Expr}
use Rattle.spx_tree.specs.declared.statement.Alternative.{Alternative, out-Alternative, fold_out-Alternative}
use Rattle.spx_tree.specs.declared.statement.Arm.{Arm, out-Arm, fold_out-Arm}
use Rattle.spx_tree.specs.declared.statement.Closing.{Closing}
use Rattle.spx_tree.specs.declared.statement.Scheme.{Scheme}
use Rattle.spx_tree.specs.declared.statement.Stmt.{Stmt, Stmt-F, out-Stmt, map-Stmt, fold_out-Stmt}
use Rattle.spx_tree.specs.declared.statement.Stmt.TheVariants.{If, Case, Loop, outs-If, outs-Case, outs-Loop}
use Rattle.spx_core.specs.declared.name.Defining.{Defining}
use Rattle.spx_core.specs.declared.expression.CoreExpr.{CoreExpr}
use Rattle.spx_core.specs.declared.dependency.CoreDerivesItem.{CoreDerivesItem}
use Rattle.spx_core.specs.declared.program.TypeRow.{TypeRow}
use Rattle.spx_core.specs.declared.program.Var.{Var}
use Rattle.spx_core.specs.declared.statement.CoreAlternative.{CoreAlternative}
use Rattle.spx_core.specs.declared.statement.CoreArm.{CoreArm}
use Rattle.spx_core.specs.declared.statement.CoreChoice.{CoreChoice}
use Rattle.spx_core.specs.declared.statement.CoreScheme.{CoreScheme}
use Rattle.spx_core.specs.declared.statement.CoreScheme.TheVariants as core_scheme
use Rattle.spx_core.specs.declared.statement.CoreStmt.{CoreStmt}
use Rattle.spx_core.specs.declared.statement.CoreStmt.TheVariants as stmt
use Rattle.spx_core.specs.Regions.{Declaration, Region, Regions, declared_in, with_declaration}
use Rattle.spx_core.specs.ResolvedExpressions.{in_code, resolved_condition}
use Rattle.spx_core.specs.DeclaredNames.{declaring_all}
use Rattle.spx_core.specs.ResolvedStatements.{Part, alternative_step, arm_step, declared_by_scheme, in_order, loop_with, parameters_by, parameters_by_alternative, parameters_by_arm, parameters_by_stmts, resolved_alternative, resolved_arm, resolved_choice, resolved_scheme, resolved_stmt, resolved_stmts, stmt_step}
use Rattle.spx_core.specs.Resolved.{var_of}
use Rattle.spx_core.proofs.Callers.LoopParameters.{parameters-If, parameters-If-else, parameters-Case, parameters-Loop, parameters-arm, parameters-alternative}
use Rattle.spx_naming.proofs.Declared.{length_after}
use Rattle.spx_naming.proofs.InOrder.{Made}

-- ---- what a loop declares is taken back

taken_step : (b : Bool) (d : Declaration) (region : Region) → is_some (declared_in region d.word) ≡ b → take (length region) (with_declaration d region) ≡ region
taken_step true d region e = rw e (ap (take (length region)) (sym (append-nil region)) ∙ take-append_seam region [])
taken_step false d region e = rw e (take-append_seam region (d ∷ []))

taken_back : (region : Region) (x : CoreScheme) → take (length region) (declaring_all region (declared_by_scheme x)) ≡ region
taken_back region (core_scheme.While place condition) = ap (take (length region)) (sym (append-nil region)) ∙ take-append_seam region []
taken_back region (core_scheme.For c) = taken_step _ _ region refl
taken_back region core_scheme.Endless = ap (take (length region)) (sym (append-nil region)) ∙ take-append_seam region []

-- ---- statements

-- two parts add theirs one after the other
both_add : (vars mid after : List Var) (ds es all : List Defining) → mid ≡ vars ++ map var_of ds → after ≡ mid ++ map var_of es → all ≡ ds ++ es → after ≡ vars ++ map var_of all
both_add vars mid after ds es all first second e =
    second ∙ ap (λ vs. vs ++ map var_of es) first ∙ append_assoc vars (map var_of ds) (map var_of es) ∙ ap (λ vs. vars ++ vs) (sym (map-append var_of ds es)) ∙ ap (λ xs. vars ++ map var_of xs) (sym e)

abbrev arm_of : Place → CoreExpr → List CoreStmt → CoreArm
arm_of place condition body = record { place = place; condition = condition; body = body }

abbrev alternative_of : Option (List CoreChoice) → List CoreStmt → CoreAlternative
alternative_of choices body = record { choices = choices; body = body }

module _ (types : List TypeRow) (items : List CoreDerivesItem) (outer : Regions) where
  stmt_at : (s : Stmt) (layer : Stmt-F Stmt Alternative Arm) → out-Stmt s ≡ layer
      → resolved_stmt types items outer s
      ≡ stmt_step types items outer (map-Stmt Stmt Alternative Arm (Part CoreStmt) (Part CoreAlternative) (Part CoreArm) (resolved_stmt types items outer) (resolved_alternative types items outer) (resolved_arm types items outer) layer)
  stmt_at s layer is =
      fold_out-Stmt (Part CoreStmt) (Part CoreAlternative) (Part CoreArm) (stmt_step types items outer) (alternative_step types outer) (arm_step types outer) s
      ∙ ap (λ x. stmt_step types items outer (map-Stmt Stmt Alternative Arm (Part CoreStmt) (Part CoreAlternative) (Part CoreArm) (resolved_stmt types items outer) (resolved_alternative types items outer) (resolved_arm types items outer) x)) is

  -- the same in a region and at a position
  stmt_in : (s : Stmt) (layer : Stmt-F Stmt Alternative Arm) → out-Stmt s ≡ layer → (region : Region) (position : ℕ)
      → resolved_stmt types items outer s region position
      ≡ stmt_step types items outer (map-Stmt Stmt Alternative Arm (Part CoreStmt) (Part CoreAlternative) (Part CoreArm) (resolved_stmt types items outer) (resolved_alternative types items outer) (resolved_arm types items outer) layer) region position
  stmt_in s layer is region position = ap (λ (p : Part CoreStmt). p region position) (stmt_at s layer is)

  module _ (region : Region) (vars : List Var) where
    module _ (region' : Region) (vars' : List Var) where
      pub made_arm : (arm : Arm) (given : List Stmt) (condition : CoreExpr) (body : List CoreStmt) → condition ≡ resolved_condition (in_code types) (region ∷ outer) (out-Arm arm).condition → given ≡ (out-Arm arm).body
          → Made (resolved_stmts types items outer given) parameters_by_stmts region vars region' vars' body
          → Made (resolved_arm types items outer arm) parameters_by_arm region vars region' vars' (arm_of (out-Arm arm).place condition body)
      made_arm arm given condition body is_condition is_given (made, same, are_vars) = (
        ap {B = CoreArm × ℕ} (λ (q : List CoreStmt × ℕ). (arm_of (out-Arm arm).place condition q.0, q.1)) (made ∙ ap (λ ss. resolved_stmts types items outer ss region (length vars)) is_given)
            ∙ ap {B = CoreArm × ℕ} (λ e. (arm_of (out-Arm arm).place e (resolved_stmts types items outer (out-Arm arm).body region (length vars)).0, (resolved_stmts types items outer (out-Arm arm).body region (length vars)).1)) is_condition
            ∙ sym (ap (λ (p : Part CoreArm). p region (length vars)) (fold_out-Arm (Part CoreStmt) (Part CoreAlternative) (Part CoreArm) (stmt_step types items outer) (alternative_step types outer) (arm_step types outer) arm)),
        same,
        are_vars ∙ ap (λ ds. vars ++ map var_of ds) (sym (parameters-arm (arm_of (out-Arm arm).place condition body))),
      )

      pub made_alternative : (alternative : Alternative) (given : List Stmt) (choices : Option (List CoreChoice)) (body : List CoreStmt)
          → choices ≡ option_map (map (resolved_choice (in_code types) (region ∷ outer))) (out-Alternative alternative).choices → given ≡ (out-Alternative alternative).body
          → Made (resolved_stmts types items outer given) parameters_by_stmts region vars region' vars' body
          → Made (resolved_alternative types items outer alternative) parameters_by_alternative region vars region' vars' (alternative_of choices body)
      made_alternative alternative given choices body are_choices is_given (made, same, are_vars) = (
        ap {B = CoreAlternative × ℕ} (λ (q : List CoreStmt × ℕ). (alternative_of choices q.0, q.1)) (made ∙ ap (λ ss. resolved_stmts types items outer ss region (length vars)) is_given)
            ∙ ap {B = CoreAlternative × ℕ} (λ e. (alternative_of e (resolved_stmts types items outer (out-Alternative alternative).body region (length vars)).0, (resolved_stmts types items outer (out-Alternative alternative).body region (length vars)).1)) are_choices
            ∙ sym (ap (λ (p : Part CoreAlternative). p region (length vars)) (fold_out-Alternative (Part CoreStmt) (Part CoreAlternative) (Part CoreArm) (stmt_step types items outer) (alternative_step types outer) (arm_step types outer) alternative)),
        same,
        are_vars ∙ ap (λ ds. vars ++ map var_of ds) (sym (parameters-alternative (alternative_of choices body))),
      )

      pub made-If : (s : Stmt) (arms given : List Arm) (o : Option (List Stmt)) (closing : Closing) (xs : List CoreArm) → s ≡ If arms o closing → o ≡ None → given ≡ arms
          → Made (in_order (map (resolved_arm types items outer) given)) (flat_map parameters_by_arm) region vars region' vars' xs
          → Made (resolved_stmt types items outer s) parameters_by region vars region' vars' (stmt.If xs None closing)
      made-If s arms given o closing xs is none is_given (made, same, are_vars) = (
        ap {B = CoreStmt × ℕ} (λ (q : List CoreArm × ℕ). (stmt.If q.0 None closing, q.1)) (made ∙ ap (λ ys. in_order (map (resolved_arm types items outer) ys) region (length vars)) is_given)
            ∙ sym (stmt_in s (Stmt-F.If arms None closing) (ap out-Stmt (is ∙ ap (λ x. If arms x closing) none) ∙ outs-If arms None closing) region (length vars)),
        same,
        are_vars ∙ ap (λ ds. vars ++ map var_of ds) (sym (parameters-If (stmt.If xs None closing) xs None closing refl refl)),
      )

      pub made-Case : (s : Stmt) (place : Place) (selector : Expr) (alternatives given : List Alternative) (closing : Closing) (chosen : CoreExpr) (xs : List CoreAlternative)
          → s ≡ Case place selector alternatives closing → chosen ≡ resolved_condition (in_code types) (region ∷ outer) selector → given ≡ alternatives
          → Made (in_order (map (resolved_alternative types items outer) given)) (flat_map parameters_by_alternative) region vars region' vars' xs
          → Made (resolved_stmt types items outer s) parameters_by region vars region' vars' (stmt.Case place chosen xs closing)
      made-Case s place selector alternatives given closing chosen xs is is_chosen is_given (made, same, are_vars) = (
        ap {B = CoreStmt × ℕ} (λ (q : List CoreAlternative × ℕ). (stmt.Case place chosen q.0 closing, q.1))
            (made ∙ ap (λ ys. in_order (map (resolved_alternative types items outer) ys) region (length vars)) is_given)
            ∙ ap {B = CoreStmt × ℕ} (λ e. (stmt.Case place e (in_order (map (resolved_alternative types items outer) alternatives) region (length vars)).0 closing, (in_order (map (resolved_alternative types items outer) alternatives) region (length vars)).1)) is_chosen
            ∙ sym (stmt_in s (Stmt-F.Case place selector alternatives closing) (ap out-Stmt is ∙ outs-Case place selector alternatives closing) region (length vars)),
        same,
        are_vars ∙ ap (λ ds. vars ++ map var_of ds) (sym (parameters-Case (stmt.Case place chosen xs closing) place chosen xs closing refl)),
      )

      module _ (region'' : Region) (vars'' : List Var) where
        pub made-If-else : (s : Stmt) (arms given : List Arm) (o : Option (List Stmt)) (stmts others : List Stmt) (closing : Closing) (xs : List CoreArm) (ys : List CoreStmt)
            → s ≡ If arms o closing → o ≡ Some stmts → given ≡ arms → others ≡ stmts
            → Made (in_order (map (resolved_arm types items outer) given)) (flat_map parameters_by_arm) region vars region' vars' xs
            → Made (resolved_stmts types items outer others) parameters_by_stmts region' vars' region'' vars'' ys
            → Made (resolved_stmt types items outer s) parameters_by region vars region'' vars'' (stmt.If xs (Some ys) closing)
        made-If-else s arms given o stmts others closing xs ys is some is_given are_others (made, same, are_vars) (made', same', are_vars') = (
          ap {B = CoreStmt × ℕ} (λ (q : List CoreStmt × ℕ). (stmt.If xs (Some q.0) closing, q.1)) (made' ∙ ap₂ (λ ss r. resolved_stmts types items outer ss r (length vars')) are_others same)
              ∙ ap {B = CoreStmt × ℕ} (λ (q : List CoreArm × ℕ). (stmt.If q.0 (Some (resolved_stmts types items outer stmts region q.1).0) closing, (resolved_stmts types items outer stmts region q.1).1))
              (made ∙ ap (λ ys. in_order (map (resolved_arm types items outer) ys) region (length vars)) is_given)
              ∙ sym (stmt_in s (Stmt-F.If arms (Some stmts) closing) (ap out-Stmt (is ∙ ap (λ x. If arms x closing) some) ∙ outs-If arms (Some stmts) closing) region (length vars)),
          same' ∙ same,
          both_add vars vars' vars'' (flat_map parameters_by_arm xs) (parameters_by_stmts ys) (parameters_by (stmt.If xs (Some ys) closing)) are_vars are_vars'
              (parameters-If-else (stmt.If xs (Some ys) closing) xs (Some ys) ys closing refl refl),
        )

        pub made-Loop : (s : Stmt) (scheme : Scheme) (word : Place) (body given : List Stmt) (closing : Closing) (count : ℕ) (last : Region) (x : CoreScheme) (ys : List CoreStmt)
            → s ≡ Loop scheme word body closing → count ≡ length region → given ≡ body
            → (x ≡ resolved_scheme (in_code types) outer region (length vars) scheme) × (region' ≡ declaring_all region (declared_by_scheme x)) × (vars' ≡ vars ++ map var_of (declared_by_scheme x))
            → Made (resolved_stmts types items outer given) parameters_by_stmts region' vars' region'' vars'' ys
            → last ≡ take count region''
            → Made (resolved_stmt types items outer s) parameters_by region vars last vars'' (stmt.Loop x word ys closing)
        made-Loop s scheme word body given closing count last x ys is is_count is_given (is_scheme, declared, are_vars) (made', same', are_vars') cut = (
          ap {B = CoreStmt × ℕ} (λ (q : List CoreStmt × ℕ). (stmt.Loop x word q.0 closing, q.1))
              (made' ∙ ap₂ (λ ss r. resolved_stmts types items outer ss r (length vars')) is_given declared
              ∙ ap (resolved_stmts types items outer body (declaring_all region (declared_by_scheme x))) (ap length are_vars ∙ length_after vars (declared_by_scheme x)))
              ∙ ap (λ y. loop_with word closing (resolved_stmts types items outer body) y region (length vars)) is_scheme
              ∙ sym (stmt_in s (Stmt-F.Loop scheme word body closing) (ap out-Stmt is ∙ outs-Loop scheme word body closing) region (length vars)),
          cut ∙ ap₂ (λ n r. take n r) is_count (same' ∙ declared) ∙ taken_back region x,
          both_add vars vars' vars'' (declared_by_scheme x) (parameters_by_stmts ys) (parameters_by (stmt.Loop x word ys closing)) are_vars are_vars'
              (parameters-Loop (stmt.Loop x word ys closing) x word ys closing refl),
        )
