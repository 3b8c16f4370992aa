-- A word that is longer than every reserved word is none of them.
use Rattle.std.proofs.Common.{◌≡◌, ℕ, ◌<◌, Bool, true, false, List, [], ◌∷◌, length, map, refl, sym, ap, ◌∙◌, arith}
use Rattle.std.specs.Prelude.{nat_le}
use Rattle.std.specs.List.{list_all}
use Rattle.std.specs.Char.{to_ascii_lowercase}
use Rattle.std.specs.Str.{str_eq_ignore_ascii_case}
use Rattle.std.proofs.lemmas.List.{length-map}
use Rattle.std.proofs.lemmas.Bool.{and_parts, leb-true, false_from_ne_true, cond-false}
use Rattle.std.proofs.lemmas.Slice.Eq.{bytes_eq-Decides}
use Rattle.spx_tree.specs.declared.token.TheConstants.{RESERVED_WORDS, ANNOTATION_WORDS}
use Rattle.spx_tree.specs.declared.token.Kind.{Kind}
use Rattle.spx_tree.specs.declared.token.Kind.TheVariants as kind
use Rattle.spx_tree.specs.Lexemes.{kind_among, unreserved, kind_of_word}

-- texts that are equal but for the case of their letters have one length
same_length : (a b : List ℕ) → str_eq_ignore_ascii_case a b ≡ true → length a ≡ length b
same_length a b e =
    let same = (bytes_eq-Decides (map to_ascii_lowercase a) (map to_ascii_lowercase b)).0 e in
    sym (length-map a to_ascii_lowercase) ∙ ap length same ∙ length-map b to_ascii_lowercase

-- no spelling of the table has more bytes than this
abbrev is_within : ℕ → List (List ℕ × Kind) → Bool
is_within most table = list_all (λ (e : List ℕ × Kind). nat_le (length e.0) most) table

not_among : (most : ℕ) (table : List (List ℕ × Kind)) (word : List ℕ) (otherwise : Kind) → is_within most table ≡ true → most < length word → kind_among table word otherwise ≡ otherwise
not_among most [] word otherwise all longer = refl
not_among most (entry ∷ table) word otherwise all longer =
    let h = and_parts (nat_le (length entry.0) most) (is_within most table) all in
    let differs = false_from_ne_true (str_eq_ignore_ascii_case entry.0 word) (λ e. omega (arith, same_length entry.0 word e, leb-true (length entry.0) most h.0)) in
    cond-false (str_eq_ignore_ascii_case entry.0 word) entry.1 (kind_among table word otherwise) differs ∙ not_among most table word otherwise h.1 longer

pub long_word : (marked : Bool) (word : List ℕ) → 12 < length word → kind.Identifier ≡ kind_of_word marked word
unfolding kind_of_word unreserved
long_word false word longer = sym (not_among 12 (map (λ w. (w.0.now, w.1)) RESERVED_WORDS) word kind.Identifier refl longer)
long_word true word longer =
    sym (not_among 12 (map (λ w. (w.0.now, w.1)) RESERVED_WORDS) word (unreserved true word) refl longer
    ∙ not_among 12 (map (λ w. (w.0.now, w.1)) ANNOTATION_WORDS) word kind.Identifier refl longer)
