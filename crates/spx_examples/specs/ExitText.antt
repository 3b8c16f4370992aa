-- A procedure with a loop that an exit leaves: its text, its tokens, its tree, the program that it is resolved to, and its loop as a command:
--
--     procedure Inc (X : in out Integer)
--     --# derives X from X;
--     is
--     begin
--        loop
--           exit when X < 100;
--           X := X + 1;
--        end loop;
--     end Inc;
use Rattle.std.specs.Prelude.{ℕ, pos, List, [], ◌∷◌, ◌++◌, Some, None, codes}
use Rattle.spx_tree.specs.declared.statement.Closing.{Closing}
use Rattle.spx_tree.specs.declared.statement.Scheme.TheVariants as written_scheme
use Rattle.spx_tree.specs.declared.statement.Stmt.{Stmt}
use Rattle.spx_tree.specs.declared.statement.Stmt.TheVariants as written_stmt
use Rattle.spx_tree.specs.declared.subprogram.Subprogram.{Subprogram}
use Rattle.spx_tree.specs.declared.subprogram.Unit.{Unit}
use Rattle.spx_tree.specs.declared.subprogram.Unit.TheVariants as unit
use Rattle.spx_tree.specs.declared.token.Kind.TheVariants as token
use Rattle.spx_tree.specs.declared.token.Token.{Token}
use Rattle.spx_core.specs.declared.program.Program.{Program}
use Rattle.spx_core.specs.declared.statement.CoreScheme.TheVariants as scheme
use Rattle.spx_core.specs.declared.statement.CoreStmt.{CoreStmt}
use Rattle.spx_core.specs.declared.statement.CoreStmt.TheVariants as stmt
use Rattle.spx_core.specs.declared.subprogram.Sub.{Sub}
use Rattle.spx_core.specs.Commands.{Command, Then, exit_where}
use Rattle.spx_examples.specs.Assertions.{doing, program_of}
use Rattle.spx_examples.specs.Example.{in_code}
use Rattle.spx_examples.specs.Exits.{loop}
use Rattle.spx_examples.specs.Increment.{place, word, inc_written, successor, successor_written, x_written, x_at}
use Rattle.spx_examples.specs.IncrementText.{ended, heading_tokens, derives_tokens}
use Rattle.spx_examples.specs.Loops.{only, step_in}
use Rattle.spx_examples.specs.Names.{target_to}
use Rattle.spx_examples.specs.Next.{below_hundred_at, below_written}

-- its bytes, line by line
abbrev pub exit_bytes : List ℕ
exit_bytes =
    ended (codes "procedure Inc (X : in out Integer)")
    ++ ended (codes "--# derives X from X;")
    ++ ended (codes "is")
    ++ ended (codes "begin")
    ++ ended (codes "   loop")
    ++ ended (codes "      exit when X < 100;")
    ++ ended (codes "      X := X + 1;")
    ++ ended (codes "   end loop;")
    ++ ended (codes "end Inc;")

-- `is`, `begin`, `loop` and `exit when X < 100;`
abbrev pub leaving_tokens : List Token
leaving_tokens =
    in_code token.Is (pos 0) 57 59 3 1
    ∷ in_code token.Begin (pos 0) 60 65 4 1
    ∷ in_code token.Loop (pos 0) 69 73 5 4
    ∷ in_code token.Exit (pos 0) 80 84 6 7
    ∷ in_code token.When (pos 0) 85 89 6 12
    ∷ in_code token.Identifier (pos 0) 90 91 6 17
    ∷ in_code token.Less (pos 0) 92 93 6 19
    ∷ in_code token.Number (pos 100) 94 97 6 21
    ∷ in_code token.Semicolon (pos 0) 97 98 6 24
    ∷ []

-- `X := X + 1;`, `end loop;` and `end Inc;`
abbrev pub turn_tokens : List Token
turn_tokens =
    in_code token.Identifier (pos 0) 105 106 7 7
    ∷ in_code token.Assignment (pos 0) 107 109 7 9
    ∷ in_code token.Identifier (pos 0) 110 111 7 12
    ∷ in_code token.Plus (pos 0) 112 113 7 14
    ∷ in_code token.Number (pos 1) 114 115 7 16
    ∷ in_code token.Semicolon (pos 0) 115 116 7 17
    ∷ in_code token.End (pos 0) 120 123 8 4
    ∷ in_code token.Loop (pos 0) 124 128 8 8
    ∷ in_code token.Semicolon (pos 0) 128 129 8 12
    ∷ in_code token.End (pos 0) 130 133 9 1
    ∷ in_code token.Identifier (pos 0) 134 137 9 5
    ∷ in_code token.Semicolon (pos 0) 137 138 9 8
    ∷ []

abbrev pub exit_tokens : List Token
exit_tokens = heading_tokens ++ derives_tokens ++ leaving_tokens ++ turn_tokens

-- ---- its tree

-- `end loop`
abbrev pub closing : Closing
closing = record { end = place 8 4; word = place 8 8 }

-- `exit when X < 100`
abbrev pub exit_written : Stmt
exit_written = written_stmt.Exit (place 6 7) (Some (below_written 6 17))

-- `X := X + 1`
abbrev pub step_written : Stmt
step_written = written_stmt.Assignment (x_written 7 7) (successor_written 7 12)

-- `loop` both `end loop`
abbrev pub loop_written : Stmt
loop_written = written_stmt.Loop written_scheme.Endless (place 5 4) (exit_written ∷ step_written ∷ []) closing

abbrev pub exit_procedure : Subprogram
exit_procedure = record inc_written { pre = None; statements = loop_written ∷ []; end = place 9 1; end_name = Some (word (codes "Inc") 9 5) }

abbrev pub exit_units : List Unit
exit_units = unit.Subprogram exit_procedure ∷ []

-- ---- its program

-- the statements, resolved
abbrev pub exit_resolved : CoreStmt
exit_resolved = stmt.Exit (place 6 7) (Some (below_hundred_at 6 17))

abbrev pub step_resolved : CoreStmt
step_resolved = stmt.Assignment (target_to (x_at 7 7)) (successor 7 12)

abbrev pub loop_resolved : CoreStmt
loop_resolved = stmt.Loop scheme.Endless (place 5 4) (exit_resolved ∷ step_resolved ∷ []) closing

abbrev pub exit_sub : Sub
exit_sub = doing (loop_resolved ∷ []) 9

abbrev pub exit_program : Program
exit_program = program_of exit_sub

-- the loop as a command
abbrev pub exit_command : Command
exit_command = loop (Then (exit_where (place 6 7) (Some (below_hundred_at 6 17))) (only (step_in 7)))
