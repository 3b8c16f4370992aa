-- What the functions of lists use: a list is read item by item, and each item takes a form.
use Rattle.std.specs.Prelude.{⊤}
use Rattle.std.proofs.Common.{◌≡◌, ℕ, ◌<◌, Bool, true, false, List, [], ◌∷◌, ◌++◌, length, Ok, refl, ap, ◌∙◌}
use Rattle.spx_tree.specs.declared.token.Kind.{Kind}
use Rattle.spx_tree.specs.declared.token.Kind.TheVariants as k
use Rattle.spx_tree.specs.declared.statement.Choice.{Choice}
use Rattle.spx_tree.specs.declared.statement.Alternative.{Alternative}
use Rattle.spx_tree.specs.declared.statement.Arm.{Arm}
use Rattle.spx_tree.specs.declared.statement.Stmt.{Stmt}
use Rattle.spx_tree.specs.Written.{program}
use Rattle.spx_tree.specs.Form.{Form}
use Rattle.spx_cursor.specs.Reading.{Outcome, Reader, and_then, ◌>>=◌, ◌>>◌, pure, sees, expect, turn, loop, item_step}
use Rattle.spx_parse_body.specs.Statements.{choice, more_choices, elsif_arm, elsif_arms, alternative, more_alternatives, sees_stmt, stmt, more_stmts, stmts_below}
use Rattle.spx_parse_body.proofs.Callers.Loops.{Shrinks, loop_is}
use Rattle.spx_parse_body.proofs.Levels.{and_then_assoc}
use Rattle.spx_parse_body.proofs.Callers.StatementsGood.{choices_shrinks, arms_shrinks, alternatives_shrinks, stmts_shrinks}

-- one turn of a list, as the code takes it
abbrev pub items_by : {A : Type 0} → Reader A → (List A → Reader (List A)) → List A → Bool → Reader (List A)
items_by reads go_on found true = reads >>= λ x. go_on (found ++ x ∷ [])
items_by reads go_on found false = pure found

turn_is : {A : Type 0} (reads : Reader A) (go_on : List A → Reader (List A)) (found : List A) (b : Bool) (fs : List Form) → turn go_on found (item_step reads found b) fs ≡ items_by reads go_on found b fs
turn_is reads go_on found false fs = refl
turn_is reads go_on found true fs = and_then_assoc (reads fs) (λ x. pure (found ++ x ∷ [])) go_on

pub items_is : {A : Type 0} (look : List Form → Bool) (reads : Reader A) → Shrinks look (item_step reads) → (found : List A) (fs : List Form) → loop look (item_step reads) found fs ≡ items_by reads (loop look (item_step reads)) found (look fs) fs
items_is look reads shrinks found fs = loop_is look (item_step reads) shrinks found fs ∙ turn_is reads (loop look (item_step reads)) found (look fs) fs

-- a separator, and an item after it
abbrev pub next_by : {A : Type 0} → Bool → Kind → Reader A → (List A → Reader (List A)) → List A → Bool → Reader (List A)
next_by marked kind reads go_on found true = expect marked kind >>= λ u. reads >>= λ x. go_on (found ++ x ∷ [])
next_by marked kind reads go_on found false = pure found

pub next_is : {A : Type 0} (marked : Bool) (kind : Kind) (reads : Reader A) (go_on : List A → Reader (List A)) (found : List A) (b : Bool) (fs : List Form) → items_by (expect marked kind >> reads) go_on found b fs ≡ next_by marked kind reads go_on found b fs
next_is marked kind reads go_on found false fs = refl
next_is marked kind reads go_on found true fs = and_then_assoc (expect marked kind fs) (λ u. reads) (λ x. go_on (found ++ x ∷ []))

pub more_stmts_is : (levels : ℕ) (found : List Stmt) (fs : List Form) → more_stmts (stmts_below levels) levels found fs ≡ items_by (stmt (stmts_below levels) levels) (more_stmts (stmts_below levels) levels) found (sees_stmt fs) fs
unfolding more_stmts
more_stmts_is levels found fs = items_is sees_stmt (stmt (stmts_below levels) levels) (stmts_shrinks levels) found fs

pub elsif_arms_is : (levels : ℕ) (found : List Arm) (fs : List Form) → 0 < levels
    → elsif_arms (stmts_below levels) levels found fs ≡ items_by (elsif_arm (stmts_below levels) levels) (elsif_arms (stmts_below levels) levels) found (sees program k.Elsif fs) fs
unfolding elsif_arms
elsif_arms_is levels found fs some = items_is (sees program k.Elsif) (elsif_arm (stmts_below levels) levels) (arms_shrinks levels some) found fs

pub more_choices_is : (levels : ℕ) (found : List Choice) (fs : List Form) → 0 < levels → more_choices levels found fs ≡ next_by program k.Bar (choice levels) (more_choices levels) found (sees program k.Bar fs) fs
unfolding more_choices
more_choices_is levels found fs some =
    items_is (sees program k.Bar) (expect program k.Bar >> choice levels) (choices_shrinks levels some) found fs
    ∙ next_is program k.Bar (choice levels) (loop (sees program k.Bar) (item_step (expect program k.Bar >> choice levels))) found (sees program k.Bar fs) fs

pub more_alternatives_is : (levels : ℕ) (found : List Alternative) (fs : List Form) → 0 < levels
    → more_alternatives (stmts_below levels) levels found fs ≡ items_by (alternative (stmts_below levels) levels) (more_alternatives (stmts_below levels) levels) found (sees program k.When fs) fs
unfolding more_alternatives
more_alternatives_is levels found fs some = items_is (sees program k.When) (alternative (stmts_below levels) levels) (alternatives_shrinks levels some) found fs

-- ---- an item takes a form

-- an item that was looked for
pub item_shorter : {A : Type 0} (look : List Form → Bool) (reads : Reader A) → Shrinks look (item_step reads) → (fs r : List Form) (x : A) → look fs ≡ true → reads fs ≡ Ok (x, r) → length r < length fs
item_shorter look reads shrinks fs r x seen e =
    shrinks.shortens [] fs (reads >>= λ y. pure (y ∷ [])) (ap (item_step reads []) seen) (x ∷ []) r (ap (λ (o : Outcome _). and_then o (λ y. pure (y ∷ []))) e)

-- and one after its separator
pub next_shorter : {A : Type 0} (marked : Bool) (kind : Kind) (reads : Reader A) → Shrinks (sees marked kind) (item_step (expect marked kind >> reads)) → (fs middle r : List Form) (x : A) → sees marked kind fs ≡ true → expect marked kind fs ≡ Ok (tt, middle) → reads middle ≡ Ok (x, r) → length r < length fs
next_shorter marked kind reads shrinks fs middle r x seen e f =
    item_shorter (sees marked kind) (expect marked kind >> reads) shrinks fs r x seen (ap (λ (o : Outcome ⊤). and_then o (λ u. reads)) e ∙ f)
