-- A procedure with a loop: its text, its tokens, its tree, the program that it is resolved to, and its loop as a command:
--
--     procedure Inc (X : in out Integer)
--     --# derives X from X;
--     is
--     begin
--        while X < 100 loop
--           X := X + 1;
--        end loop;
--     end Inc;
use Rattle.std.specs.Prelude.{ℕ, pos, List, [], ◌∷◌, ◌++◌, Some, None, codes}
use Rattle.spx_tree.specs.declared.statement.Closing.{Closing}
use Rattle.spx_tree.specs.declared.statement.Scheme.TheVariants as written_scheme
use Rattle.spx_tree.specs.declared.statement.Stmt.{Stmt}
use Rattle.spx_tree.specs.declared.statement.Stmt.TheVariants as written_stmt
use Rattle.spx_tree.specs.declared.subprogram.Subprogram.{Subprogram}
use Rattle.spx_tree.specs.declared.subprogram.Unit.{Unit}
use Rattle.spx_tree.specs.declared.subprogram.Unit.TheVariants as unit
use Rattle.spx_tree.specs.declared.token.Kind.TheVariants as token
use Rattle.spx_tree.specs.declared.token.Token.{Token}
use Rattle.spx_core.specs.declared.program.Program.{Program}
use Rattle.spx_core.specs.declared.statement.CoreScheme.TheVariants as scheme
use Rattle.spx_core.specs.declared.statement.CoreStmt.{CoreStmt}
use Rattle.spx_core.specs.declared.statement.CoreStmt.TheVariants as stmt
use Rattle.spx_core.specs.declared.subprogram.Sub.{Sub}
use Rattle.spx_core.specs.Commands.{Command, Repeat, Tested}
use Rattle.spx_examples.specs.Assertions.{doing, program_of}
use Rattle.spx_examples.specs.Example.{in_code}
use Rattle.spx_examples.specs.Increment.{place, word, inc_written}
use Rattle.spx_examples.specs.IncrementText.{ended, heading_tokens, derives_tokens}
use Rattle.spx_examples.specs.Loops.{only, step_in}
use Rattle.spx_examples.specs.Next.{below_hundred_at, below_written, step, step_written}

-- its bytes, line by line
abbrev pub loop_bytes : List ℕ
loop_bytes =
    ended (codes "procedure Inc (X : in out Integer)")
    ++ ended (codes "--# derives X from X;")
    ++ ended (codes "is")
    ++ ended (codes "begin")
    ++ ended (codes "   while X < 100 loop")
    ++ ended (codes "      X := X + 1;")
    ++ ended (codes "   end loop;")
    ++ ended (codes "end Inc;")

-- `is`, `begin` and `while X < 100 loop`
abbrev pub test_tokens : List Token
test_tokens =
    in_code token.Is (pos 0) 57 59 3 1
    ∷ in_code token.Begin (pos 0) 60 65 4 1
    ∷ in_code token.While (pos 0) 69 74 5 4
    ∷ in_code token.Identifier (pos 0) 75 76 5 10
    ∷ in_code token.Less (pos 0) 77 78 5 12
    ∷ in_code token.Number (pos 100) 79 82 5 14
    ∷ in_code token.Loop (pos 0) 83 87 5 18
    ∷ []

-- `X := X + 1;`, `end loop;` and `end Inc;`
abbrev pub turn_tokens : List Token
turn_tokens =
    in_code token.Identifier (pos 0) 94 95 6 7
    ∷ in_code token.Assignment (pos 0) 96 98 6 9
    ∷ in_code token.Identifier (pos 0) 99 100 6 12
    ∷ in_code token.Plus (pos 0) 101 102 6 14
    ∷ in_code token.Number (pos 1) 103 104 6 16
    ∷ in_code token.Semicolon (pos 0) 104 105 6 17
    ∷ in_code token.End (pos 0) 109 112 7 4
    ∷ in_code token.Loop (pos 0) 113 117 7 8
    ∷ in_code token.Semicolon (pos 0) 117 118 7 12
    ∷ in_code token.End (pos 0) 119 122 8 1
    ∷ in_code token.Identifier (pos 0) 123 126 8 5
    ∷ in_code token.Semicolon (pos 0) 126 127 8 8
    ∷ []

abbrev pub loop_tokens : List Token
loop_tokens = heading_tokens ++ derives_tokens ++ test_tokens ++ turn_tokens

-- ---- its tree

-- `end loop`
abbrev pub closing : Closing
closing = record { end = place 7 4; word = place 7 8 }

-- `while X < 100 loop X := X + 1; end loop`
abbrev pub loop_written : Stmt
loop_written = written_stmt.Loop (written_scheme.While (place 5 4) (below_written 5 10)) (place 5 18) (step_written ∷ []) closing

abbrev pub loop_procedure : Subprogram
loop_procedure = record inc_written { pre = None; statements = loop_written ∷ []; end = place 8 1; end_name = Some (word (codes "Inc") 8 5) }

abbrev pub loop_units : List Unit
loop_units = unit.Subprogram loop_procedure ∷ []

-- ---- its program

-- the loop, resolved
abbrev pub loop_resolved : CoreStmt
loop_resolved = stmt.Loop (scheme.While (place 5 4) (below_hundred_at 5 10)) (place 5 18) (step ∷ []) closing

abbrev pub loop_sub : Sub
loop_sub = doing (loop_resolved ∷ []) 8

abbrev pub loop_program : Program
loop_program = program_of loop_sub

-- the loop as a command
abbrev pub loop_command : Command
loop_command = Repeat (Tested (place 5 4) (below_hundred_at 5 10)) (only (step_in 6))
