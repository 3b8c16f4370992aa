-- The kinds of tokens, and the numbers of those of a text.
use Rattle.std.proofs.Common.{◌≡◌, ℕ, ℤ, pos, Bool, true, false, not, ◌&&◌, List, [], ◌∷◌, ◌++◌, refl, sym, ap₂, subst, rules}
use Rattle.std.proofs.lemmas.Bool.{and_parts}
use denote.Enum.Bare.{same_true, true_same}
use Rattle.std.specs.List.{AllByRecursion}
use Rattle.std.proofs.lemmas.List.Elements.{All-from_recursion}
use Rattle.spx_tree.specs.contracts.token.Kind.{the_type}
use Rattle.spx_tree.specs.declared.token.Kind.{Kind}
use Rattle.spx_tree.specs.declared.token.Token.{Token}
use Rattle.spx_tree.specs.Lexemes.{IsLexeme, word, numeral, delimiter}
use Rattle.spx_tree.specs.Spells.{Role, line_end, separator, comment, head, lexeme, Stands, Part, bytes_of, marked_following, AllStand, tokens_by, tokens_of, Spells}
use Rattle.spx_run.specs.Inputs.{IsToken}
use Rattle.spx_run.specs.Mirror.{same_kind, is_token, IsNatural, AreNatural}

-- ---- kinds

kind_is : (a b : Kind) → same_kind a b ≡ true → a ≡ b
unfolding same_kind
kind_is a b e = same_true the_type (search rules) a b e

kind_self : (a : Kind) → same_kind a a ≡ true
unfolding same_kind
kind_self a = true_same the_type a a refl

unmarked : (b : Bool) → not b ≡ true → b ≡ false
unmarked true e = absurd (cc)
unmarked false e = refl

pub token_is : (what : Kind) (t : Token) → is_token what t ≡ true → IsToken what t
token_is what t e = let parts = and_parts (same_kind t.kind what) (not t.marked) e in record { of_kind = kind_is t.kind what parts.0; in_code = unmarked t.marked parts.1 }

pub token_tested : (what : Kind) (t : Token) → IsToken what t → is_token what t ≡ true
token_tested what t is = ap₂ (λ a b. a && not b) (subst (λ k. same_kind k what ≡ true) (sym is.of_kind) (kind_self what)) is.in_code

-- ---- numbers

-- the value of a lexeme is not below 0
natural_lexeme : (marked : Bool) (what : Kind) (number : ℤ) (bytes : List ℕ) → IsLexeme marked what number bytes → (n : ℕ) × (number ≡ pos n)
natural_lexeme marked what number bytes (word is kind zero_value) = (0, zero_value)
natural_lexeme marked what number bytes (numeral n is kind value) = (n, value)
natural_lexeme marked what number bytes (delimiter kind zero_value) = (0, zero_value)

natural_by : (file : ℕ) (front : List ℕ) (marked : Bool) (role : Role) (bytes rest : List ℕ) (more : List Token) → Stands marked role bytes rest → AllByRecursion IsNatural more → AllByRecursion IsNatural (tokens_by file front marked role bytes ++ more)
natural_by file front marked line_end bytes rest more stands all = all
natural_by file front marked separator bytes rest more stands all = all
natural_by file front marked comment bytes rest more stands all = all
natural_by file front marked head bytes rest more stands all = all
natural_by file front marked (lexeme what number) bytes rest more stands all = (natural_lexeme marked what number bytes stands.0, all)

natural_in : (file : ℕ) (front : List ℕ) (marked : Bool) (parts : List Part) (rest : List ℕ) → AllStand marked parts rest → AllByRecursion IsNatural (tokens_of file front marked parts)
natural_in file front marked [] rest stand = tt
natural_in file front marked (part ∷ parts) rest stand =
    natural_by file front marked part.role part.bytes (bytes_of parts ++ rest) (tokens_of file (front ++ part.bytes) (marked_following part.role marked) parts) stand.0 (natural_in file (front ++ part.bytes) (marked_following part.role marked) parts rest stand.2)

-- no token of a text has a number below 0
pub natural : (file : ℕ) (bytes : List ℕ) (tokens : List Token) → Spells file bytes tokens → AreNatural tokens
natural file bytes tokens spelled =
    subst AreNatural (sym spelled.are) (All-from_recursion IsNatural (tokens_of file [] false spelled.parts) (natural_in file [] false spelled.parts [] spelled.stand))
