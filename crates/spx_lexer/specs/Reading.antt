-- A text that is read up to a place.
use Rattle.std.specs.Prelude.{◌≡◌, ℕ, ◌<◌, ◌≤◌, Bool, false, List, [], ◌++◌, length, Option, Some, None, Err}
use Rattle.spx_tree.specs.declared.token.Token.{Token}
use Rattle.spx_tree.specs.Places.{place_after_bytes}
use Rattle.spx_tree.specs.Spells.{Part, bytes_of, marked_along, AllStand, tokens_of}
use Rattle.spx_lexer.specs.declared.lexer.pieces.Cause.{Cause}
use Rattle.spx_lexer.specs.declared.lexer.positions.Position.{Position}
use Rattle.spx_lexer.specs.Pieces.{piece_at}

-- the position after these bytes of a file
abbrev pub position : ℕ → List ℕ → Bool → Position
position file front m = record { offset = length front; place = place_after_bytes file front; marked = m }

-- these are the tokens of the text of a file up to this position, and the rest of the text is after it
pub record HasRead (file : ℕ) (source : List ℕ) (tokens : List Token) (at : Position) (rest : List ℕ) : Type 0 where
  pub parts : List Part
  pub whole : bytes_of parts ++ rest ≡ source
  pub stand : AllStand false parts rest
  pub are : tokens ≡ tokens_of file [] false parts
  pub place : at ≡ position file (bytes_of parts) (marked_along false parts)

-- the text ends before these bytes, as there are none, or it is stopped there for this cause
abbrev pub IsEnd : Option Cause → Bool → List ℕ → Type 0
IsEnd None marked rest = length rest ≤ 0
IsEnd (Some cause) marked rest = (0 < length rest) × (Err cause ≡ piece_at marked rest)
