-- A text that ends in the number 2**127. No text may have it, since 128 bits with a sign hold 2**127 - 1 at most. After `-` it is the
-- least value that they hold.
use Rattle.std.specs.Prelude.{◌≡◌, ℕ, ◌^◌, false, IsFalse, List, [], ◌++◌, pos}
use Rattle.spx_tree.specs.declared.token.Kind.TheVariants as kind
use Rattle.spx_tree.specs.declared.token.Token.{Token}
use Rattle.spx_tree.specs.Lexemes.{spoils_number}
use Rattle.spx_tree.specs.Spells.{lexeme, Stands, Part, bytes_of, marked_along, AllStand, tokens_of, Spells}

-- the text of a file is these tokens, outside of annotation text the number 2**127, and then no more tokens
pub record EndsInLeast (file : ℕ) (bytes : List ℕ) (tokens : List Token) : Type 0 where
  pub parts : List Part
  pub number : List ℕ
  pub following : List ℕ
  pub whole : bytes_of parts ++ (number ++ following) ≡ bytes
  pub stand : AllStand false parts (number ++ following)
  pub are : tokens ≡ tokens_of file [] false parts
  pub in_code : marked_along false parts ≡ false
  pub stands : Stands false (lexeme kind.Number (pos (2 ^ 127))) number following
  pub unspoiled : IsFalse (spoils_number following)
  pub no_more : Spells file following []
