-- Whether a text ends in the number 2**127.
use Rattle.std.proofs.Common.{◌≡◌, ◌⊎◌, inl, inr, ℕ, List, [], ◌∷◌, drop, Option, Some, None, refl}
use Rattle.spx_tree.specs.declared.token.Token.{Token}
use Rattle.spx_tree.specs.Spells.{Spells}
use Rattle.spx_tree.specs.Stops.{most_tokens}
use Rattle.spx_tree.proofs.OneSpelling.{one_spelling, stops_unspelled}
use Rattle.spx_lexer.specs.Pieces.{least_at}
use Rattle.spx_lexer.specs.Least.{EndsInLeast}
use Rattle.spx_lexer.proofs.Least.{ends_in_least, not_at_end, never_least}
use Rattle.spx_lexer.proofs.SomeSpelling.{IsDecided, ReadToEnd, read_to_end, some_spelling}
use Rattle.spx_lexer.proofs.TokenCount.{none_few}

-- a text has no tokens, or that is not so
blank_by : (file : ℕ) (bytes : List ℕ) → IsDecided file bytes → Spells file bytes [] ⊎ (¬ Spells file bytes [])
blank_by file bytes (inl spelled) = by_tokens spelled.0 spelled.1
  where
    by_tokens : (tokens : List Token) → Spells file bytes tokens → Spells file bytes [] ⊎ (¬ Spells file bytes [])
    by_tokens [] s = inl s
    by_tokens (t ∷ tokens) s = inr (λ none. let same = one_spelling file bytes [] (t ∷ tokens) none s in absurd cc)
blank_by file bytes (inr (inl stop)) = inr (λ none. stops_unspelled file bytes stop.0 stop.1 [] stop.2 none)
blank_by file bytes (inr (inr many)) = inr (λ none. none_few most_tokens file bytes none many)

abbrev SomeLeast : ℕ → List ℕ → Type 0
SomeLeast file bytes = ((tokens : List Token) × EndsInLeast file bytes tokens) ⊎ ((tokens : List Token) → ¬ EndsInLeast file bytes tokens)

least_by : (file : ℕ) (source : List ℕ) (r : ReadToEnd file source) (len : ℕ) → Some len ≡ least_at r.stop r.at.marked r.rest → Spells file (drop len r.rest) [] ⊎ (¬ Spells file (drop len r.rest) []) → SomeLeast file source
least_by file source r len e (inl blank) = inl (r.tokens, ends_in_least file source r.tokens r.at r.rest r.read r.stop len (drop len r.rest) r.end e refl blank)
least_by file source r len e (inr more) = inr (not_at_end file source r.tokens r.at r.rest r.read r.stop len (drop len r.rest) r.end e refl more)

found_by : (file : ℕ) (source : List ℕ) (r : ReadToEnd file source) (found : Option ℕ) → found ≡ least_at r.stop r.at.marked r.rest → SomeLeast file source
found_by file source r None e = inr (never_least file source r.tokens r.at r.rest r.read r.stop r.end e)
found_by file source r (Some len) e = least_by file source r len e (blank_by file (drop len r.rest) (some_spelling file (drop len r.rest)))

-- a text ends in the number after some tokens, or after none
pub some_least : (file : ℕ) (source : List ℕ) → SomeLeast file source
some_least file source = let r = read_to_end file source in found_by file source r (least_at r.stop r.at.marked r.rest) refl
