-- The trees of the procedure `Double`, and two of its conditions.
use Rattle.std.proofs.Common.{◌≡◌, ℕ, pos, Bool, if◌then◌else◌, List, [], ◌∷◌, ◌++◌, Some, map, length, refl, ap, ap₂, ◌∙◌}
use Rattle.std.proofs.Math.Path.{fun_ext}
use Rattle.std.specs.Prelude.{codes, slice_get}
use Rattle.std.specs.Fmt.{digits}
use Rattle.std.specs.List.{flat_map}
use denote.Hole.Carrier.{out, fold, shown, hidden}
use denote.Hole.Rolled.{depth}
use Rattle.spx_text.specs.declared.place.Place.{Place}
use Rattle.spx_tree.specs.declared.statement.AssertionKind.TheVariants as assertion
use Rattle.spx_core.specs.declared.entity.TheConstants.{INTEGER, INTEGER_FIRST}
use Rattle.spx_core.specs.declared.expression.CoreExpr.{CoreExpr}
use Rattle.spx_core.specs.declared.expression.CoreExpr.TheBlock.{hidden-the_row-CoreExpr-0}
use Rattle.spx_core.specs.declared.expression.CoreExpr.TheVariants as expr
use Rattle.spx_core.specs.declared.name.CoreName.{CoreName}
use Rattle.spx_core.specs.declared.statement.CoreScheme.TheVariants as scheme
use Rattle.spx_core.specs.Commands.{Command, Skip, Set, Then, Assertion, Repeat, Counted, commands}
use Rattle.spx_core.specs.Places.{place_of}
use Rattle.spx_core.specs.Uses.{variable_of}
use Rattle.spx_core.proofs.Callers.CommandForms.{command-Assertion, command-Assignment, command-For}
use Rattle.spx_term.specs.declared.condition.CondKind.TheVariants as kind
use Rattle.spx_term.specs.declared.term.Term.{Term, out-Term}
use Rattle.spx_term.specs.declared.term.Term.TheBlock.{hidden-the_row-Term-0, shown-the_row-Term-0, the_depth}
use Rattle.spx_term.specs.declared.term.Term.TheVariants as term
use Rattle.spx_term.specs.declared.term.TermOp.TheVariants as sign
use Rattle.spx_term.specs.Conjuncts.{conjuncts}
use Rattle.spx_term.specs.Equality.{same_by, same_term}
use Rattle.spx_term.specs.Steps.{Tree, Cut, Assume, Assign, Split, Claim, assume_all, check, claims_of, tidy}
use Rattle.spx_term.specs.Equality.{same_name}
use Rattle.spx_formula.specs.Terms.{entry, entry_term, first_name, last_name, now, now_term, term_of, term_with}
use Rattle.spx_paths.specs.Walks.{assigned, cuts, ending, enter_range, high_term, low_term, range_goal, start_tree, trees_of, walk}
use Rattle.spx_paths.specs.Conditions.{conditions_of, numbered}
use Rattle.spx_examples.specs.Doubling.{add_two, asserting, closing, compared, count, counting, double as sub, double_command, double_program as p, equals_twice, i, i_now, in_bounds, in_integer, n_at, n_now, number, one_to_n, post_after_turn, post_without_turn, required, s, s_at, s_is_twice_i, s_is_twice_n, s_now, turn, two_more}
use Rattle.spx_examples.specs.Increment.{place}
use Rattle.spx_examples.proofs.Computing.{checks_are, checks_now, claims_are, claims_now, fixed_is, place_is, place_now, term_is, term_now}
use Rattle.spx_examples.proofs.Trees.{conditions_from, trees_are}
use Rattle.spx_examples.specs.Names.{target_to}

-- ---- its statements

turn_command : commands (add_two ∷ asserting ∷ []) ≡ turn
turn_command = ap₂ (λ (a b : Command). Then a (Then b Skip)) (command-Assignment (target_to (s_at 9 7)) two_more) (command-Assertion assertion.Assert (place 10 11) s_is_twice_i)

pub commands_are : commands sub.statements ≡ double_command
commands_are =
    ap₂ (λ (a b : Command). Then a (Then b Skip)) (command-Assignment (target_to (s_at 7 4)) (number (pos 0) 7 9))
    (command-For counting (scheme.For count) (place 8 34) (add_two ∷ asserting ∷ []) closing count refl refl ∙ ap (Repeat (Counted count)) turn_command)

module _ (target : CoreName) (e : CoreExpr) (rest leave : ℕ → Tree) (made : ℕ) where
  set_is : walk p sub (Set (target_to target) e) rest leave made
      ≡ checks_now p (now_term p) [] e (assigned p (place_now e) (variable_of target.entity) (term_now (now_term p) (now_term p) e) (rest made))
  set_is =
      checks_are p (now_term p) [] e _
      ∙ ap₂ (λ (at : Place) (t : Term). checks_now p (now_term p) [] e (assigned p at (variable_of target.entity) t (rest made))) (place_is e) (term_is (now_term p) (now_term p) e)

-- `S := 0`
abbrev zero : Term
zero = term.Number (pos 0)

abbrev setting_zero : Tree → Tree
setting_zero rest = check kind.Range (place 7 9) (in_integer zero) (Assign (now p s) zero rest)

-- `S := S + 2`
abbrev sum : Term
sum = term.Infix sign.Add s_now (term.Number (pos 2))

abbrev adding : Tree → Tree
adding rest = check kind.Overflow (place 9 14) (in_integer sum) (check kind.Range (place 9 14) (in_integer sum) (Assign (now p s) sum rest))

add_is : (rest leave : ℕ → Tree) (made : ℕ) → walk p sub (Set (target_to (s_at 9 7)) two_more) rest leave made ≡ adding (rest made)
unfolding hidden-the_row-CoreExpr-0 hidden
add_is rest leave made = set_is (s_at 9 7) two_more rest leave made

-- `assert S = 2 * I`
twice_i : conjuncts (term_of p (entry_term p sub) s_is_twice_i) ≡ equals_twice s_now i_now ∷ []
unfolding conjuncts hidden-the_row-CoreExpr-0 hidden-the_row-Term-0 hidden
twice_i = ap conjuncts (term_is (now_term p) (entry_term p sub) s_is_twice_i)

-- the body of the loop, which ends there
abbrev turned : Tree
turned = adding (check kind.Assert (place 10 11) (equals_twice s_now i_now ∷ []) Cut)

turn_is : (rest leave : ℕ → Tree) (made : ℕ) → walk p sub turn rest leave made ≡ turned
turn_is rest leave made =
    add_is (walk p sub (Then (Assertion assertion.Assert (place 10 11) s_is_twice_i) Skip) rest leave) leave made
    ∙ ap (λ parts. adding (check kind.Assert (place 10 11) parts Cut)) twice_i

-- ---- the ends of paths

twice_n : conjuncts (term_of p (entry_term p sub) s_is_twice_n) ≡ equals_twice s_now n_now ∷ []
unfolding conjuncts hidden-the_row-CoreExpr-0 hidden-the_row-Term-0 hidden
twice_n = ap conjuncts (term_is (now_term p) (entry_term p sub) s_is_twice_n)

-- past the loop, where its parameter counts as the first value of its type
abbrev ended_with : List Term → Tree
ended_with goals = Assign (now p i) (term.Number INTEGER_FIRST) (check kind.Post (place 4 5) goals Cut)

abbrev ended : Tree
ended = ended_with (equals_twice s_now n_now ∷ [])

-- ---- the bounds of the loop

-- a bound, where it is known whether it has one value all along, and which term it has
abbrev first_where : Bool → Term → Term
first_where fixed t = if fixed then t else term.Variable (first_name i)

abbrev last_where : Bool → Term → Term
last_where fixed t = if fixed then t else term.Variable (last_name i)

low_is : low_term p sub count ≡ term.Number (pos 1)
low_is = ap₂ first_where (fixed_is sub (number (pos 1) 8 27)) (term_is (now_term p) (now_term p) (number (pos 1) 8 27))

high_is : high_term p sub count ≡ n_now
high_is = ap₂ last_where (fixed_is sub (expr.Name (n_at 8 32))) (term_is (now_term p) (now_term p) (expr.Name (n_at 8 32)))

-- from the head of the loop into its body, or past it
abbrev split_at : (low high : Term) → Place → (into past : Tree) → Tree
split_at low high at into past =
    check kind.Range at (range_goal INTEGER low high ∷ [])
    (Split (Assume (compared sign.LessOrEqual low high) (Assign (now p i) low into)) (Assume (compared sign.Greater low high) past))

abbrev entered : (lows highs : Bool) → (low high : Term) → Place → (into past : Tree) → Tree
entered lows highs low high at into past =
    let tree : Tree = split_at (first_where lows low) (last_where highs high) at into past in
    let after_low : Tree = if highs then tree else Assign (last_name i) high tree in
    if lows then after_low else Assign (first_name i) low after_low

enter_is : (into past : ℕ → Tree) (made : ℕ) → enter_range p sub count (Some one_to_n) into past made ≡ split_at (term.Number (pos 1)) n_now (place 8 27) (into made) (past made)
enter_is into past made =
    let low : CoreExpr = number (pos 1) 8 27 in
    let high : CoreExpr = expr.Name (n_at 8 32) in
    let t : Term = term_of p (now_term p) low in
    let u : Term = term_of p (now_term p) high in
    checks_are p (now_term p) [] low _
    ∙ checks_are p (now_term p) [] high _
    ∙ ap₂ (λ (lows highs : Bool). entered lows highs t u (place_of low) (into made) (past made)) (fixed_is sub low) (fixed_is sub high)
    ∙ ap₂ (λ (t u : Term). split_at t u (place_of low) (into made) (past made)) (term_is (now_term p) (now_term p) low) (term_is (now_term p) (now_term p) high)
    ∙ ap (λ (at : Place). split_at (term.Number (pos 1)) n_now at (into made) (past made)) (place_is low)

-- ---- the trees

required_parts : conjuncts (term_of p (entry_term p sub) in_bounds) ≡ required
unfolding conjuncts hidden-the_row-CoreExpr-0 hidden-the_row-Term-0 hidden
required_parts = ap conjuncts (term_is (now_term p) (entry_term p sub) in_bounds)

required_on_entry : conjuncts (term_with (entry_term p sub) (entry_term p sub) in_bounds) ≡ required
unfolding conjuncts hidden-the_row-CoreExpr-0 hidden-the_row-Term-0 hidden
required_on_entry = ap conjuncts (term_is (entry_term p sub) (entry_term p sub) in_bounds)

abbrev last : ℕ → Tree
last = ending p sub

abbrev from_start : Tree
from_start = Assign (now p s) (term.Variable (entry p s)) (assume_all (in_integer n_now ++ required) (setting_zero (split_at (term.Number (pos 1)) n_now (place 8 27) turned ended)))

walked : walk p sub (commands sub.statements) last last 0 ≡ setting_zero (split_at (term.Number (pos 1)) n_now (place 8 27) turned ended)
walked =
    let rest : ℕ → Tree = walk p sub Skip last last in
    let past : ℕ → Tree = λ m. Assign (now p i) (term.Number INTEGER_FIRST) (rest m) in
    ap (λ c. walk p sub c last last 0) commands_are
    ∙ set_is (s_at 7 4) (number (pos 0) 7 9) (walk p sub (Then (Repeat (Counted count) turn) Skip) last last) last 0
    ∙ ap setting_zero
    (enter_is (walk p sub turn (λ m. Cut) past) past 0
    ∙ ap₂ (λ (into : Tree) (goals : List Term). split_at (term.Number (pos 1)) n_now (place 8 27) into (ended_with goals)) (turn_is (λ m. Cut) past 0) twice_n)

start_is : start_tree p sub ≡ from_start
start_is = ap₂ (λ (pre : List Term) (rest : Tree). Assign (now p s) (term.Variable (entry p s)) (assume_all (in_integer n_now ++ pre) rest)) required_parts walked

-- from the `assert` on
abbrev known_with : (low high : Term) → (pre known : List Term) → List Term
known_with low high pre known =
    (in_integer n_now ++ in_integer s_now ++ in_integer i_now ++ compared sign.GreaterOrEqual i_now low ∷ compared sign.LessOrEqual i_now high ∷ pre) ++ known

abbrev again_with : (high : Term) → (into past : Tree) → Tree
again_with high into past =
    Split (Assume (compared sign.Less i_now high) (Assign (now p i) (term.Infix sign.Add i_now (term.Number (pos 1))) into)) (Assume (compared sign.Equal i_now high) past)

abbrev from_assert : Tree
from_assert = assume_all (known_with (term.Number (pos 1)) n_now required (equals_twice s_now i_now ∷ [])) (again_with n_now turned ended)

cuts_are : cuts p sub [] double_command last last ≡ from_assert ∷ []
cuts_are =
    let rest : ℕ → Tree = walk p sub Skip last last in
    let past : ℕ → Tree = λ m. Assign (now p i) (term.Number INTEGER_FIRST) (rest m) in
    let into : Tree = walk p sub turn (λ m. Cut) past 0 in
    let pre : List Term = conjuncts (term_with (entry_term p sub) (entry_term p sub) in_bounds) in
    let known : List Term = conjuncts (term_of p (entry_term p sub) s_is_twice_i) in
    ap₂ (λ (low high : Term). assume_all (known_with low high pre known) (again_with high into (past 0)) ∷ []) low_is high_is
    ∙ ap₂ (λ (pre known : List Term). assume_all (known_with (term.Number (pos 1)) n_now pre known) (again_with n_now into (past 0)) ∷ []) required_on_entry twice_i
    ∙ ap₂ (λ (into : Tree) (goals : List Term). assume_all (known_with (term.Number (pos 1)) n_now required (equals_twice s_now i_now ∷ [])) (again_with n_now into (ended_with goals)) ∷ [])
    (turn_is (λ m. Cut) past 0) twice_n

abbrev trees : List Tree
trees = from_start ∷ from_assert ∷ []

two_trees : trees_of p sub ≡ trees
two_trees = trees_are p sub double_command from_start (from_assert ∷ []) commands_are start_is cuts_are

-- ---- the conditions

claims : map tidy (flat_map claims_of trees) ≡ map tidy (flat_map claims_now trees)
claims = ap (λ (f : Tree → List Claim). map tidy (flat_map f trees)) (fun_ext claims_are)

conditions : conditions_of p sub ≡ numbered (codes "Double") 1 (map tidy (flat_map claims_now trees))
conditions = conditions_from p sub trees (map tidy (flat_map claims_now trees)) two_trees claims

pub ten : length (conditions_of p sub) ≡ 10
ten = ap length conditions

pub without_turn : slice_get (conditions_of p sub) 5 ≡ Some post_without_turn
unfolding digits same_name same_term same_by out-Term out the_depth depth fold shown-the_row-Term-0 shown hidden-the_row-Term-0 hidden
without_turn = ap (λ cs. slice_get cs 5) conditions

pub after_turn : slice_get (conditions_of p sub) 9 ≡ Some post_after_turn
unfolding digits same_name same_term same_by out-Term out the_depth depth fold shown-the_row-Term-0 shown hidden-the_row-Term-0 hidden
after_turn = ap (λ cs. slice_get cs 9) conditions
