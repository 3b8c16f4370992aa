-- What the parts of a body are resolved to, part by part, and the loop parameters in each.
use Rattle.std.proofs.Common.{◌≡◌, ℕ, ◌+◌, List, [], ◌∷◌, ◌++◌, length, map, Option, Some, None, option_map, refl, sym, ap, subst, ◌∙◌, length-append, arith}
use denote.Hole.Carrier.{roll}
use Rattle.std.specs.List.{AllByRecursion, flat_map}
use Rattle.spx_text.specs.declared.place.Place.{Place}
use Rattle.spx_tree.specs.declared.expression.Name.{Name}
use Rattle.spx_tree.specs.declared.expression.Expr.{Expr}
use Rattle.spx_tree.specs.declared.statement.AssertionKind.{AssertionKind}
use Rattle.spx_tree.specs.declared.statement.Closing.{Closing}
use Rattle.spx_tree.specs.declared.statement.Choice.{Choice}
use Rattle.spx_tree.specs.declared.statement.Scheme.{Scheme}
use Rattle.spx_tree.specs.declared.statement.Stmt.{Stmt, Stmt-F, map-Stmt, roll-Stmt, ind-Stmt, fold-roll-Stmt}
use Rattle.spx_tree.specs.declared.statement.Stmt.TheVariants as written
use Rattle.spx_tree.specs.declared.statement.Arm.{Arm, Arm-F, map-Arm, roll-Arm, fold-roll-Arm}
use Rattle.spx_tree.specs.declared.statement.Alternative.{Alternative, Alternative-F, map-Alternative, roll-Alternative, fold-roll-Alternative}
use Rattle.spx_core.specs.declared.name.Defining.{Defining}
use Rattle.spx_core.specs.declared.dependency.CoreDerivesItem.{CoreDerivesItem}
use Rattle.spx_core.specs.declared.statement.CoreStmt.{CoreStmt, roll-CoreStmt}
use Rattle.spx_core.specs.declared.statement.CoreStmt.TheVariants as stmt
use Rattle.spx_core.specs.declared.statement.CoreArm.{CoreArm}
use Rattle.spx_core.specs.declared.statement.CoreAlternative.{CoreAlternative}
use Rattle.spx_core.specs.declared.program.TypeRow.{TypeRow}
use Rattle.spx_core.specs.Regions.{Region, Regions}
use Rattle.spx_core.specs.ResolvedStatements as resolved
use Rattle.spx_core.specs.ResolvedExpressions.{assignment_to, in_annotation, in_code, resolved_target, resolved_condition}
use Rattle.spx_core.specs.DeclaredNames.{declaring_all}
use Rattle.spx_core.specs.ResolvedStatements.{Part, declared_by_scheme, in_order, parameters_by, parameters_by_alternative, parameters_by_arm, parameters_by_stmts, resolved_alternative, resolved_arm, resolved_choice, resolved_scheme, resolved_stmt, resolved_stmts}
use Rattle.spx_core.proofs.Callers.LoopParameters.{parameters-Null, parameters-Assignment, parameters-If, parameters-If-else, parameters-Case, parameters-Loop, parameters-Assertion, parameters-Exit, parameters-arm, parameters-alternative}

-- In this innermost region and from this position on, the written part is resolved to the other, and its loops have these parameters.
mutual
  pub data IsStmt (types : List TypeRow) (items : List CoreDerivesItem) (outer : Regions) : Region → ℕ → Stmt → CoreStmt → List Defining → Type 0 where
    null : (region : Region) (position : ℕ) (place : Place) → IsStmt types items outer region position (written.Null place) (stmt.Null place) []
    assignment : (region : Region) (position : ℕ) (target : Name) (value : Expr)
        → IsStmt types items outer region position (written.Assignment target value) (assignment_to types (region ∷ outer) (resolved_target types (region ∷ outer) target) value) []
    if_then : (region : Region) (position : ℕ) (arms : List Arm) (closing : Closing) (cores : List CoreArm) (ds : List Defining) → AreArms types items outer region position arms cores ds
        → IsStmt types items outer region position (written.If arms None closing) (stmt.If cores None closing) ds
    if_else : (region : Region) (position : ℕ) (arms : List Arm) (stmts : List Stmt) (closing : Closing) (cores : List CoreArm) (body : List CoreStmt) (ds es : List Defining) → AreArms types items outer region position arms cores ds
        → AreStmts types items outer region (position + length ds) stmts body es → IsStmt types items outer region position (written.If arms (Some stmts) closing) (stmt.If cores (Some body) closing) (ds ++ es)
    case_of : (region : Region) (position : ℕ) (place : Place) (selector : Expr) (alternatives : List Alternative) (closing : Closing) (cores : List CoreAlternative) (ds : List Defining)
        → AreAlternatives types items outer region position alternatives cores ds → IsStmt types items outer region position (written.Case place selector alternatives closing) (stmt.Case place (resolved_condition (in_code types) (region ∷ outer) selector) cores closing) ds
    loop : (region : Region) (position : ℕ) (scheme : Scheme) (word : Place) (stmts : List Stmt) (closing : Closing) (body : List CoreStmt) (ds : List Defining)
        → AreStmts types items outer (declaring_all region (declared_by_scheme (resolved_scheme (in_code types) outer region position scheme))) (position + length (declared_by_scheme (resolved_scheme (in_code types) outer region position scheme))) stmts body ds
        → IsStmt types items outer region position (written.Loop scheme word stmts closing) (stmt.Loop (resolved_scheme (in_code types) outer region position scheme) word body closing) (declared_by_scheme (resolved_scheme (in_code types) outer region position scheme) ++ ds)
    assertion : (region : Region) (position : ℕ) (kind : AssertionKind) (place : Place) (condition : Expr)
        → IsStmt types items outer region position (written.Assertion kind place condition) (stmt.Assertion kind place (resolved_condition (in_annotation types items) (region ∷ outer) condition)) []
    exit : (region : Region) (position : ℕ) (place : Place) (condition : Option Expr)
        → IsStmt types items outer region position (written.Exit place condition) (stmt.Exit place (option_map (resolved_condition (in_code types) (region ∷ outer)) condition)) []

  pub data IsArm (types : List TypeRow) (items : List CoreDerivesItem) (outer : Regions) : Region → ℕ → Arm → CoreArm → List Defining → Type 0 where
    arm : (region : Region) (position : ℕ) (place : Place) (condition : Expr) (stmts : List Stmt) (body : List CoreStmt) (ds : List Defining) → AreStmts types items outer region position stmts body ds
        → IsArm types items outer region position (record { place = place; condition = condition; body = stmts }) (record { place = place; condition = resolved_condition (in_code types) (region ∷ outer) condition; body = body }) ds

  pub data IsAlternative (types : List TypeRow) (items : List CoreDerivesItem) (outer : Regions) : Region → ℕ → Alternative → CoreAlternative → List Defining → Type 0 where
    alternative : (region : Region) (position : ℕ) (choices : Option (List Choice)) (stmts : List Stmt) (body : List CoreStmt) (ds : List Defining) → AreStmts types items outer region position stmts body ds
        → IsAlternative types items outer region position (record { choices = choices; body = stmts }) (record { choices = option_map (map (resolved_choice (in_code types) (region ∷ outer))) choices; body = body }) ds

  pub data AreStmts (types : List TypeRow) (items : List CoreDerivesItem) (outer : Regions) : Region → ℕ → List Stmt → List CoreStmt → List Defining → Type 0 where
    no_stmts : (region : Region) (position : ℕ) → AreStmts types items outer region position [] [] []
    more_stmts : (region : Region) (position : ℕ) (s : Stmt) (stmts : List Stmt) (c : CoreStmt) (cores : List CoreStmt) (ds es : List Defining) → IsStmt types items outer region position s c ds
        → AreStmts types items outer region (position + length ds) stmts cores es → AreStmts types items outer region position (s ∷ stmts) (c ∷ cores) (ds ++ es)

  pub data AreArms (types : List TypeRow) (items : List CoreDerivesItem) (outer : Regions) : Region → ℕ → List Arm → List CoreArm → List Defining → Type 0 where
    no_arms : (region : Region) (position : ℕ) → AreArms types items outer region position [] [] []
    more_arms : (region : Region) (position : ℕ) (a : Arm) (arms : List Arm) (c : CoreArm) (cores : List CoreArm) (ds es : List Defining) → IsArm types items outer region position a c ds
        → AreArms types items outer region (position + length ds) arms cores es → AreArms types items outer region position (a ∷ arms) (c ∷ cores) (ds ++ es)

  pub data AreAlternatives (types : List TypeRow) (items : List CoreDerivesItem) (outer : Regions) : Region → ℕ → List Alternative → List CoreAlternative → List Defining → Type 0 where
    no_alternatives : (region : Region) (position : ℕ) → AreAlternatives types items outer region position [] [] []
    more_alternatives : (region : Region) (position : ℕ) (a : Alternative) (alternatives : List Alternative) (c : CoreAlternative) (cores : List CoreAlternative) (ds es : List Defining) → IsAlternative types items outer region position a c ds
        → AreAlternatives types items outer region (position + length ds) alternatives cores es → AreAlternatives types items outer region position (a ∷ alternatives) (c ∷ cores) (ds ++ es)

-- the position after two parts
after_both : (position between after : ℕ) (ds es : List Defining) → position + length ds ≡ between → between + length es ≡ after → position + length (ds ++ es) ≡ after
after_both position between after ds es first second = omega (arith, length-append ds es, first, second)

-- parts that are given with what holds of them
shown : {A : Type 0} (P : A → Type 0) (xs : List ((a : A) × P a)) → AllByRecursion P (map (λ x. x.0) xs)
shown P [] = tt
shown P (x ∷ xs) = (x.1, shown P xs)

of_each : {A : Type 0} (P : A → Type 0) → ((a : A) → P a) → (xs : List A) → AllByRecursion P xs
of_each P each [] = tt
of_each P each (x ∷ xs) = (each x, of_each P each xs)

-- what holds of a part, and the position after it, by what it is resolved to
abbrev At : {A : Type 0} → (ℕ → A → List Defining → Type 0) → (A → List Defining) → ℕ → A × ℕ → Type 0
At Q parameters position r = Q position r.0 (parameters r.0) × (position + length (parameters r.0) ≡ r.1)

settled : {A : Type 0} (Q : ℕ → A → List Defining → Type 0) (parameters : A → List Defining) (position : ℕ) (a : A) (after : ℕ) (ds : List Defining) → Q position a ds → parameters a ≡ ds → position + length ds ≡ after
    → At Q parameters position (a, after)
settled Q parameters position a after ds is same count = (subst (Q position a) (sym same) is, ap (λ (es : List Defining). position + length es) same ∙ count)

module _ (types : List TypeRow) (items : List CoreDerivesItem) (outer : Regions) where
  abbrev StmtAt : Region → ℕ → Stmt → CoreStmt × ℕ → Type 0
  StmtAt region position s r = At (λ n c ds. IsStmt types items outer region n s c ds) parameters_by position r

  abbrev ArmAt : Region → ℕ → Arm → CoreArm × ℕ → Type 0
  ArmAt region position a r = At (λ n c ds. IsArm types items outer region n a c ds) parameters_by_arm position r

  abbrev AlternativeAt : Region → ℕ → Alternative → CoreAlternative × ℕ → Type 0
  AlternativeAt region position a r = At (λ n c ds. IsAlternative types items outer region n a c ds) parameters_by_alternative position r

  abbrev StmtIs : Stmt → Type 0
  StmtIs s = (region : Region) (position : ℕ) → StmtAt region position s (resolved_stmt types items outer s region position)

  abbrev ArmIs : Arm → Type 0
  ArmIs a = (region : Region) (position : ℕ) → ArmAt region position a (resolved_arm types items outer a region position)

  abbrev AlternativeIs : Alternative → Type 0
  AlternativeIs a = (region : Region) (position : ℕ) → AlternativeAt region position a (resolved_alternative types items outer a region position)

  abbrev StmtShown : Type 0
  StmtShown = (s : Stmt) × StmtIs s

  abbrev ArmShown : Type 0
  ArmShown = (a : Arm) × ArmIs a

  abbrev AlternativeShown : Type 0
  AlternativeShown = (a : Alternative) × AlternativeIs a

  -- ---- parts in order

  abbrev StmtsAt : Region → ℕ → List Stmt → List CoreStmt × ℕ → Type 0
  StmtsAt region position stmts r = At (λ n cs ds. AreStmts types items outer region n stmts cs ds) parameters_by_stmts position r

  abbrev ArmsAt : Region → ℕ → List Arm → List CoreArm × ℕ → Type 0
  ArmsAt region position arms r = At (λ n cs ds. AreArms types items outer region n arms cs ds) (flat_map parameters_by_arm) position r

  abbrev AlternativesAt : Region → ℕ → List Alternative → List CoreAlternative × ℕ → Type 0
  AlternativesAt region position alternatives r = At (λ n cs ds. AreAlternatives types items outer region n alternatives cs ds) (flat_map parameters_by_alternative) position r

  stmts_at : (stmts : List Stmt) → AllByRecursion StmtIs stmts → (region : Region) (position : ℕ) → StmtsAt region position stmts (resolved_stmts types items outer stmts region position)
  stmts_at [] known region position = (no_stmts region position, omega arith)
  stmts_at (s ∷ stmts) known region position =
      let one = resolved_stmt types items outer s region position in
      let cores = (resolved_stmts types items outer stmts region one.1).0 in
      let first = known.0 region position in
      let rest = stmts_at stmts known.1 region one.1 in
      let later = subst (λ n. AreStmts types items outer region n stmts cores (parameters_by_stmts cores)) (sym first.1) rest.0 in
      (more_stmts region position s stmts one.0 cores (parameters_by one.0) (parameters_by_stmts cores) first.0 later, after_both position one.1 _ _ _ first.1 rest.1)

  arms_at : (arms : List Arm) → AllByRecursion ArmIs arms → (region : Region) (position : ℕ) → ArmsAt region position arms (in_order (map (resolved_arm types items outer) arms) region position)
  arms_at [] known region position = (no_arms region position, omega arith)
  arms_at (a ∷ arms) known region position =
      let one = resolved_arm types items outer a region position in
      let cores = (in_order (map (resolved_arm types items outer) arms) region one.1).0 in
      let first = known.0 region position in
      let rest = arms_at arms known.1 region one.1 in
      let later = subst (λ n. AreArms types items outer region n arms cores (flat_map parameters_by_arm cores)) (sym first.1) rest.0 in
      (more_arms region position a arms one.0 cores (parameters_by_arm one.0) (flat_map parameters_by_arm cores) first.0 later, after_both position one.1 _ _ _ first.1 rest.1)

  alternatives_at : (alternatives : List Alternative) → AllByRecursion AlternativeIs alternatives → (region : Region) (position : ℕ)
      → AlternativesAt region position alternatives (in_order (map (resolved_alternative types items outer) alternatives) region position)
  alternatives_at [] known region position = (no_alternatives region position, omega arith)
  alternatives_at (a ∷ alternatives) known region position =
      let one = resolved_alternative types items outer a region position in
      let cores = (in_order (map (resolved_alternative types items outer) alternatives) region one.1).0 in
      let first = known.0 region position in
      let rest = alternatives_at alternatives known.1 region one.1 in
      let later = subst (λ n. AreAlternatives types items outer region n alternatives cores (flat_map parameters_by_alternative cores)) (sym first.1) rest.0 in (
        more_alternatives region position a alternatives one.0 cores (parameters_by_alternative one.0) (flat_map parameters_by_alternative cores) first.0 later,
        after_both position one.1 _ _ _ first.1 rest.1,
      )

  -- ---- one level

  abbrev bare_stmt : Stmt-F StmtShown AlternativeShown ArmShown → Stmt-F Stmt Alternative Arm
  bare_stmt y = map-Stmt StmtShown AlternativeShown ArmShown Stmt Alternative Arm (λ e. e.0) (λ e. e.0) (λ e. e.0) y

  abbrev step_of : Stmt-F StmtShown AlternativeShown ArmShown → Part CoreStmt
  step_of y = resolved.stmt_step types items outer (map-Stmt Stmt Alternative Arm (Part CoreStmt) (Part CoreAlternative) (Part CoreArm) (resolved_stmt types items outer) (resolved_alternative types items outer) (resolved_arm types items outer) (bare_stmt y))

  stmt_at_layer : (y : Stmt-F StmtShown AlternativeShown ArmShown) (region : Region) (position : ℕ) → StmtAt region position (roll-Stmt (bare_stmt y)) (step_of y region position)
  unfolding roll-Stmt roll-CoreStmt roll
  stmt_at_layer (Stmt-F.Null place) region position = settled (λ n c ds. IsStmt types items outer region n (written.Null place) c ds) parameters_by position _ _ [] (null region position place) (parameters-Null place) (omega arith)
  stmt_at_layer (Stmt-F.Assignment target value) region position =
      settled (λ n c ds. IsStmt types items outer region n (written.Assignment target value) c ds) parameters_by position _ _ [] (assignment region position target value) (parameters-Assignment _ _) (omega arith)
  stmt_at_layer (Stmt-F.If arms None closing) region position =
      let xs = arms_at (map (λ a. a.0) arms) (shown ArmIs arms) region position in
      settled (λ n c ds. IsStmt types items outer region n (written.If (map (λ a. a.0) arms) None closing) c ds) parameters_by position _ _ _ (if_then region position _ closing _ _ xs.0) (parameters-If _ _ None closing refl refl) xs.1
  stmt_at_layer (Stmt-F.If arms (Some stmts) closing) region position =
      let xs = arms_at (map (λ a. a.0) arms) (shown ArmIs arms) region position in
      let between = (in_order (map (resolved_arm types items outer) (map (λ a. a.0) arms)) region position).1 in
      let ys = stmts_at (map (λ s. s.0) stmts) (shown StmtIs stmts) region between in
      let body = (resolved_stmts types items outer (map (λ s. s.0) stmts) region between).0 in
      let later = subst (λ n. AreStmts types items outer region n (map (λ s. s.0) stmts) body (parameters_by_stmts body)) (sym xs.1) ys.0 in
      settled (λ n c ds. IsStmt types items outer region n (written.If (map (λ a. a.0) arms) (Some (map (λ s. s.0) stmts)) closing) c ds) parameters_by position _ _ _
      (if_else region position _ _ closing _ body _ (parameters_by_stmts body) xs.0 later) (parameters-If-else _ _ _ _ closing refl refl) (after_both position between _ _ _ xs.1 ys.1)
  stmt_at_layer (Stmt-F.Case place selector alternatives closing) region position =
      let xs = alternatives_at (map (λ a. a.0) alternatives) (shown AlternativeIs alternatives) region position in
      settled (λ n c ds. IsStmt types items outer region n (written.Case place selector (map (λ a. a.0) alternatives) closing) c ds) parameters_by position _ _ _ (case_of region position place selector _ closing _ _ xs.0)
      (parameters-Case _ place _ _ closing refl) xs.1
  stmt_at_layer (Stmt-F.Loop scheme word body closing) region position =
      let x = resolved_scheme (in_code types) outer region position scheme in
      let inside = stmts_at (map (λ s. s.0) body) (shown StmtIs body) (declaring_all region (declared_by_scheme x)) (position + length (declared_by_scheme x)) in
      settled (λ n c ds. IsStmt types items outer region n (written.Loop scheme word (map (λ s. s.0) body) closing) c ds) parameters_by position _ _ _ (loop region position scheme word _ closing _ _ inside.0) (parameters-Loop _ x word _ closing refl)
      (after_both position (position + length (declared_by_scheme x)) _ (declared_by_scheme x) _ refl inside.1)
  stmt_at_layer (Stmt-F.Assertion kind place condition) region position =
      settled (λ n c ds. IsStmt types items outer region n (written.Assertion kind place condition) c ds) parameters_by position _ _ [] (assertion region position kind place condition) (parameters-Assertion kind place _) (omega arith)
  stmt_at_layer (Stmt-F.Exit place condition) region position =
      settled (λ n c ds. IsStmt types items outer region n (written.Exit place condition) c ds) parameters_by position _ _ [] (exit region position place condition) (parameters-Exit place _) (omega arith)

  stmt_layer : (y : Stmt-F StmtShown AlternativeShown ArmShown) → StmtIs (roll-Stmt (bare_stmt y))
  stmt_layer y region position =
      subst (λ (part : Part CoreStmt). StmtAt region position (roll-Stmt (bare_stmt y)) (part region position))
      (sym (fold-roll-Stmt (Part CoreStmt) (Part CoreAlternative) (Part CoreArm) (resolved.stmt_step types items outer) (resolved.alternative_step types outer) (resolved.arm_step types outer) _)) (stmt_at_layer y region position)

  alternative_layer : (y : Alternative-F StmtShown AlternativeShown ArmShown)
      → AlternativeIs (roll-Alternative (map-Alternative StmtShown AlternativeShown ArmShown Stmt Alternative Arm (λ e. e.0) (λ e. e.0) (λ e. e.0) y))
  alternative_layer y region position =
      let bare : Alternative = record { choices = y.choices; body = map (λ s. s.0) y.body } in
      let body = stmts_at (map (λ s. s.0) y.body) (shown StmtIs y.body) region position in
      subst (λ (part : Part CoreAlternative). AlternativeAt region position bare (part region position))
      (sym (fold-roll-Alternative (Part CoreStmt) (Part CoreAlternative) (Part CoreArm) (resolved.stmt_step types items outer) (resolved.alternative_step types outer) (resolved.arm_step types outer) _))
      (settled (λ n c ds. IsAlternative types items outer region n bare c ds) parameters_by_alternative position _ _ _ (alternative region position y.choices _ _ _ body.0) (parameters-alternative _) body.1)

  arm_layer : (y : Arm-F StmtShown AlternativeShown ArmShown) → ArmIs (roll-Arm (map-Arm StmtShown AlternativeShown ArmShown Stmt Alternative Arm (λ e. e.0) (λ e. e.0) (λ e. e.0) y))
  arm_layer y region position =
      let bare : Arm = record { place = y.place; condition = y.condition; body = map (λ s. s.0) y.body } in
      let body = stmts_at (map (λ s. s.0) y.body) (shown StmtIs y.body) region position in
      subst (λ (part : Part CoreArm). ArmAt region position bare (part region position))
      (sym (fold-roll-Arm (Part CoreStmt) (Part CoreAlternative) (Part CoreArm) (resolved.stmt_step types items outer) (resolved.alternative_step types outer) (resolved.arm_step types outer) _))
      (settled (λ n c ds. IsArm types items outer region n bare c ds) parameters_by_arm position _ _ _ (arm region position y.place y.condition _ _ _ body.0) (parameters-arm _) body.1)

  stmt_is : (s : Stmt) → StmtIs s
  stmt_is =
      ind-Stmt StmtIs AlternativeIs ArmIs (λ x y is. subst (λ z. StmtIs (roll-Stmt z)) is (stmt_layer y)) (λ x y is. subst (λ z. AlternativeIs (roll-Alternative z)) is (alternative_layer y))
      (λ x y is. subst (λ z. ArmIs (roll-Arm z)) is (arm_layer y))

  -- statements are resolved part by part
  pub stmts_are : (stmts : List Stmt) (region : Region) (position : ℕ)
      → AreStmts types items outer region position stmts (resolved_stmts types items outer stmts region position).0 (parameters_by_stmts (resolved_stmts types items outer stmts region position).0)
  stmts_are stmts region position = (stmts_at stmts (of_each StmtIs stmt_is stmts) region position).0
