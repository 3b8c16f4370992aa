-- Loops without a head, and exits, as commands over the variables of `Loops`. A loop has its word in line 5, and its body in the lines after it.
use Rattle.std.specs.Prelude.{Option, Some}
use Rattle.spx_core.specs.declared.expression.CoreExpr.TheVariants as expr
use Rattle.spx_core.specs.declared.rule.Breach.{Breach}
use Rattle.spx_core.specs.declared.statement.Around.TheVariants as around
use Rattle.spx_core.specs.Commands.{Command, Skip, Set, Then, Choose, Leave, Repeat, Endless, exit_where}
use Rattle.spx_core.specs.Judged.{breach_in}
use Rattle.spx_core.specs.Obeyed.{obeyed_command}
use Rattle.spx_term.specs.declared.term.TermPrefix.TheVariants.{Not}
use Rattle.spx_term.specs.declared.term.Term.TheVariants as term
use Rattle.spx_term.specs.Steps.{Tree, Assume, Split}
use Rattle.spx_examples.specs.Increment.{place, x_at}
use Rattle.spx_examples.specs.Loops.{only, set_x, step_in, y_is_positive, z_at}
use Rattle.spx_examples.specs.Names.{target_to}
use Rattle.spx_examples.specs.Next.{below_hundred, below_now}
use Rattle.spx_examples.specs.Variants.{local_y_at as y_at}

-- ---- exits

-- `loop` this body `end loop`
abbrev pub loop : Command → Command
loop body = Repeat Endless body

-- `exit when X < 100`
abbrev pub exit_below : Command
exit_below = exit_where (place 6 7) (Some below_hundred)

-- `if X < 100 then X := X + 1; exit; end if`
abbrev pub step_and_exit : Command
step_and_exit = Choose (place 6 7) below_hundred (Then (step_in 7) (only (Leave (place 8 10)))) Skip

-- `loop X := X + 1; exit when X < 100; X := X + 1; end loop`
abbrev pub half_turn : Command
half_turn = loop (Then (step_in 6) (Then exit_below (only (step_in 8))))

-- `loop loop exit when X < 100; end loop; X := X + 1; exit when X < 100; end loop`
abbrev pub exit_in_each : Command
exit_in_each = loop (Then (loop (only exit_below)) (Then (step_in 8) (only exit_below)))

-- `loop null; end loop`
abbrev pub never_left : Command
never_left = loop (only Skip)

-- ---- flow

-- `exit when Y > 0`
abbrev pub exit_where_positive : Command
exit_where_positive = exit_where (place 6 7) (Some y_is_positive)

-- `loop exit when Y > 0; X := 1; end loop`
abbrev pub exit_first : Command
exit_first = loop (Then exit_where_positive (only set_x))

-- `loop X := 1; exit when Y > 0; end loop`
abbrev pub exit_last : Command
exit_last = loop (Then set_x (only exit_where_positive))

-- `loop if Y > 0 then X := Z; exit; end if; end loop`
abbrev pub set_and_exit : Command
set_and_exit = loop (only (Choose (place 6 7) y_is_positive (Then (Set (target_to (x_at 7 10)) (expr.Name (z_at 7 15))) (only (Leave (place 8 10)))) Skip))

-- `loop null; end loop; Y := X`
abbrev pub after_never_left : Command
after_never_left = Then never_left (only (Set (target_to (y_at 8 4)) (expr.Name (x_at 8 9))))

-- ---- rules

-- the first breach, where this stands outside of loops
abbrev pub first_breach : Command → Option Breach
first_breach c = breach_in (obeyed_command around.Other c)

-- `if X < 100 then` these `end if`
abbrev pub where_below : Command → Command
where_below c = Choose (place 6 7) below_hundred c Skip

-- `exit`
abbrev pub exit_alone : Command
exit_alone = Leave (place 7 10)

-- ---- paths

-- the way that goes on past `exit when X < 100`, and then the one that leaves
abbrev pub past_exit : (rest leave : Tree) → Tree
past_exit rest leave = Split (Assume (term.Prefix Not below_now) rest) (Assume below_now leave)
