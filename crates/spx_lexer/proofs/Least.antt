-- The number 2**127 in which a text ends.
use Rattle.std.proofs.Common.{◌≡◌, inl, inr, ℕ, ◌^◌, Bool, true, false, cond, eqb, List, [], ◌∷◌, ◌++◌, drop, length, Option, Some, None, refl, sym, ap, subst, ◌∙◌, arith, ℤ, pos}
use Rattle.std.specs.Prelude.{◌≤ℤ◌, IsFalse}
use Rattle.std.specs.Char.{is_ascii_digit}
use Rattle.std.proofs.lemmas.Bool.{both_ways, eqb-true}
use Rattle.std.proofs.lemmas.Int.{ints}
use Rattle.std.proofs.lemmas.List.{append-nil, drop_at}
use Rattle.spx_tree.specs.declared.token.Kind.TheVariants as kind
use Rattle.spx_tree.specs.declared.token.Token.{Token}
use Rattle.spx_tree.specs.Lexemes.{IsLexeme, word, numeral, delimiter, spoils_number}
use Rattle.spx_tree.specs.Places.{place_after_bytes}
use Rattle.spx_tree.specs.Spells.{lexeme, Stands, Part, bytes_of, marked_along, AllStand, tokens_of, Spells}
use Rattle.spx_tree.specs.Stops.{too_wide, IsStopped, StopsAt}
use Rattle.spx_tree.proofs.Numbers.{number_digit}
use Rattle.spx_tree.proofs.OnlyDigits.{word_no_number, delimiter_no_number}
use Rattle.spx_tree.proofs.OnePart.{IsSame, one_part}
use Rattle.spx_tree.proofs.OneSpelling.{one_reading, stops_unspelled, one_stop}
use Rattle.spx_tree.proofs.Shapes.{stands_some}
use Rattle.spx_lexer.specs.declared.lexer.pieces.Cause.{Cause}
use Rattle.spx_lexer.specs.declared.lexer.pieces.Cause.TheVariants as cause
use Rattle.spx_lexer.specs.declared.lexer.positions.Position.{Position}
use Rattle.spx_lexer.specs.Pieces.{fitting, number_in, least_by, least_len, least_at}
use Rattle.spx_lexer.specs.Reading.{position, HasRead, IsEnd}
use Rattle.spx_lexer.specs.Least.{EndsInLeast}
use Rattle.spx_lexer.proofs.Fitting.{fitting-some}
use Rattle.spx_lexer.proofs.Found.{Finds}
use Rattle.spx_lexer.proofs.Finds.{piece_at-finds}
use Rattle.spx_lexer.proofs.LongestNumber.{HasNumber, number_in-found}
use Rattle.spx_lexer.proofs.Numbers.{numeral_at, number_stands}
use Rattle.spx_lexer.proofs.Reading.{read_all, read_stop}
use Rattle.spx_lexer.proofs.TokenCount.{NothingStands, stopped_nothing, no_more, nothing_after}

-- ---- the number that is found is the one that stands there

lexeme_digit : (m : Bool) (v : ℤ) (b : ℕ) (bs : List ℕ) → IsLexeme m kind.Number v (b ∷ bs) → is_ascii_digit b ≡ true
lexeme_digit m v b bs (word w f g) = absurd (word_no_number m (b ∷ bs) (sym f))
lexeme_digit m v b bs (numeral n d f g) = number_digit b bs n d
lexeme_digit m v b bs (delimiter f g) = absurd (delimiter_no_number m (b ∷ bs) kind.Number f refl)

number_here : (m : Bool) (v : ℤ) (bytes number following : List ℕ) → bytes ≡ number ++ following → Stands m (lexeme kind.Number v) number following → HasNumber bytes (number_in bytes)
number_here m v bytes [] following e s = absurd (omega (arith, stands_some m (lexeme kind.Number v) [] following s))
number_here m v bytes (b ∷ bs) following e s =
    subst (λ (x : List ℕ). HasNumber x (number_in x)) (sym e) (number_in-found (b ∷ (bs ++ following)) (numeral_at b (bs ++ following) (lexeme_digit m v b bs s.0)))

same_number : (m : Bool) (v : ℤ) (bytes number following : List ℕ) → bytes ≡ number ++ following → Stands m (lexeme kind.Number v) number following → (h : HasNumber bytes (number_in bytes))
    → IsSame (lexeme kind.Number v) (lexeme kind.Number (pos h.n)) number h.front following h.rest
same_number m v bytes number following e s h = one_part m (lexeme kind.Number v) (lexeme kind.Number (pos h.n)) number following h.front h.rest (sym e ∙ h.parts) s (number_stands m bytes h)

value_is : (m n : ℕ) → lexeme kind.Number (pos m) ≡ lexeme kind.Number (pos n) → m ≡ n
value_is m n e = cc

-- ---- the number 2**127 is found where it stands

least_by-some : (len n found : ℕ) → Some len ≡ least_by found (fitting n) → (n ≡ 2 ^ 127) × (len ≡ found)
least_by-some len n found e = by_value (fitting n) refl e
  where
    by_test : (v : ℕ) (t : Bool) → eqb v (2 ^ 127) ≡ t → v ≡ n → Some len ≡ cond t (Some found) None → (n ≡ 2 ^ 127) × (len ≡ found)
    by_test v true f g h = let same : len ≡ found = cc in (sym g ∙ eqb-true v (2 ^ 127) f, same)
    by_test v false f g h = absurd cc

    by_value : (o : Option ℕ) → o ≡ fitting n → Some len ≡ least_by found o → (n ≡ 2 ^ 127) × (len ≡ found)
    by_value None f h = absurd cc
    by_value (Some v) f h = by_test v (eqb v (2 ^ 127)) refl (fitting-some n v f).0 h

least_by-least : (n found : ℕ) → n ≡ 2 ^ 127 → least_by found (fitting n) ≡ Some found
unfolding fitting
least_by-least n found e = ap (λ (k : ℕ). least_by found (fitting k)) e

-- the number stands before these bytes, of which it has so many
pub record LeastAt (m : Bool) (bytes : List ℕ) (len : ℕ) : Type 0 where
  pub number : List ℕ
  pub following : List ℕ
  pub parts : bytes ≡ number ++ following
  pub len_is : length number ≡ len
  pub stands : Stands m (lexeme kind.Number (pos (2 ^ 127))) number following
  pub unspoiled : IsFalse (spoils_number following)

least_found : (m : Bool) (bytes : List ℕ) (len : ℕ) → IsStopped too_wide m bytes → Some len ≡ least_len bytes → LeastAt m bytes len
unfolding least_len
least_found m bytes len s e =
    let h = number_here m s.0 bytes s.1 s.2 s.3 s.4 in
    let same = same_number m s.0 bytes s.1 s.2 s.3 s.4 h in
    let is = least_by-some len h.n (number_in bytes).len (e ∙ ap (least_by (number_in bytes).len) h.fits) in
    record {
      number = h.front;
      following = h.rest;
      parts = h.parts;
      len_is = h.len ∙ sym is.1;
      stands = subst (λ (k : ℕ). Stands m (lexeme kind.Number (pos k)) h.front h.rest) is.0 (number_stands m bytes h);
      unspoiled = subst (λ (x : List ℕ). IsFalse (spoils_number x)) same.rest s.5;
    }

least_missed : (m : Bool) (bytes number following : List ℕ) → bytes ≡ number ++ following → Stands m (lexeme kind.Number (pos (2 ^ 127))) number following → None ≡ least_len bytes → ⊥
unfolding least_len
least_missed m bytes number following e s none =
    let h = number_here m (pos (2 ^ 127)) bytes number following e s in
    let same = same_number m (pos (2 ^ 127)) bytes number following e s h in
    let found = ap (least_by (number_in bytes).len) h.fits ∙ least_by-least h.n (number_in bytes).len (sym (value_is (2 ^ 127) h.n same.role)) in
    absurd cc

-- ---- the text is stopped by it

least_wide : pos (2 ^ 127) ≤ℤ pos (2 ^ 127)
least_wide = omega (arith, ints)

least_stop : (file : ℕ) (source : List ℕ) (tokens : List Token) (e : EndsInLeast file source tokens) → IsStopped too_wide (marked_along false e.parts) (e.number ++ e.following)
least_stop file source tokens e =
    (pos (2 ^ 127), e.number, e.following, refl, subst (λ (m : Bool). Stands m (lexeme kind.Number (pos (2 ^ 127))) e.number e.following) (sym e.in_code) e.stands, e.unspoiled, least_wide)

pub least_stops : (file : ℕ) (source : List ℕ) (tokens : List Token) (e : EndsInLeast file source tokens) → StopsAt file source too_wide (place_after_bytes file (bytes_of e.parts))
least_stops file source tokens e = record { parts = e.parts; rest = e.number ++ e.following; whole = e.whole; stand = e.stand; at = refl; stopped = least_stop file source tokens e }

-- the text before the number is read
record IsBefore (file : ℕ) (source : List ℕ) (tokens : List Token) (at : Position) (rest : List ℕ) (others : List Token) (e : EndsInLeast file source others) : Type 0 where
  tokens_are : others ≡ tokens
  rest_is : rest ≡ e.number ++ e.following
  in_code : at.marked ≡ false

before_least : (file : ℕ) (source : List ℕ) (tokens : List Token) (at : Position) (rest : List ℕ) → HasRead file source tokens at rest → NothingStands at.marked rest
    → (others : List Token) (e : EndsInLeast file source others) → IsBefore file source tokens at rest others e
before_least file source tokens at rest h nothing others e =
    let tail = e.number ++ e.following in
    let marked_is : at.marked ≡ marked_along false h.parts = ap (λ (x : Position). x.marked) h.place in
    let by_parts : (e.parts ≡ h.parts) → (rest ≡ tail) → IsBefore file source tokens at rest others e =
    λ (parts : e.parts ≡ h.parts) (left : rest ≡ tail). record {
      tokens_are = e.are ∙ ap (tokens_of file [] false) parts ∙ sym h.are;
      rest_is = left;
      in_code = marked_is ∙ ap (marked_along false) (sym parts) ∙ e.in_code;
    } in
    elim (one_reading false h.parts e.parts rest tail h.stand e.stand (h.whole ∙ sym e.whole)) [
      | inl c ↦
          let none : c.more ≡ [] = no_more (marked_along false h.parts) rest c.more tail (subst (λ (m : Bool). NothingStands m rest) marked_is nothing) c.rest c.stand in
          by_parts (c.parts ∙ ap (λ (x : List Part). h.parts ++ x) none ∙ append-nil h.parts) (c.rest ∙ ap (λ (x : List Part). bytes_of x ++ tail) none)
      | inr c ↦
          let none : c.more ≡ [] = no_more (marked_along false e.parts) tail c.more rest (stopped_nothing too_wide (marked_along false e.parts) tail (least_stop file source others e)) c.rest c.stand in
          by_parts (sym (c.parts ∙ ap (λ (x : List Part). e.parts ++ x) none ∙ append-nil e.parts)) (sym (c.rest ∙ ap (λ (x : List Part). bytes_of x ++ rest) none))
    ]

least_read : (file : ℕ) (source : List ℕ) (tokens : List Token) (e : EndsInLeast file source tokens) → HasRead file source tokens (position file (bytes_of e.parts) (marked_along false e.parts)) (e.number ++ e.following)
least_read file source tokens e = record { parts = e.parts; whole = e.whole; stand = e.stand; are = e.are; place = refl }

-- at most one list of tokens comes before it
pub one_least : (file : ℕ) (source : List ℕ) (a b : List Token) → EndsInLeast file source a → EndsInLeast file source b → a ≡ b
one_least file source a b d e =
    let nothing = stopped_nothing too_wide (marked_along false d.parts) (d.number ++ d.following) (least_stop file source a d) in
    sym (before_least file source a (position file (bytes_of d.parts) (marked_along false d.parts)) (d.number ++ d.following) (least_read file source a d) nothing b e).tokens_are

-- ---- what is found where the text ends or is stopped

module _ (file : ℕ) (source : List ℕ) (tokens : List Token) (at : Position) (rest : List ℕ) (h : HasRead file source tokens at rest) where
  -- the text is stopped by the number
  least_at-found : (stop : Option Cause) (m : Bool) (len : ℕ) → m ≡ at.marked → IsEnd stop at.marked rest → Some len ≡ least_at stop m rest → (m ≡ false) × LeastAt m rest len
  least_at-found None m len same end e = absurd cc
  least_at-found (Some cause.BadByte) m len same end e = absurd cc
  least_at-found (Some cause.BadNumber) m len same end e = absurd cc
  least_at-found (Some cause.TooWide) true len same end e = absurd cc
  least_at-found (Some cause.TooWide) false len same end e =
      let stopped : IsStopped too_wide at.marked rest = subst (Finds at.marked rest) (sym end.1) (piece_at-finds at.marked rest end.0) in
      (refl, least_found false rest len (subst (λ (t : Bool). IsStopped too_wide t rest) (sym same) stopped) e)

  rest_from : (m : Bool) (len : ℕ) (f : LeastAt m rest len) (following : List ℕ) → following ≡ drop len rest → following ≡ f.following
  rest_from m len f following is = is ∙ ap (drop len) f.parts ∙ drop_at f.number f.following len f.len_is

  pub ends_in_least : (stop : Option Cause) (len : ℕ) (following : List ℕ) → IsEnd stop at.marked rest → Some len ≡ least_at stop at.marked rest → following ≡ drop len rest → Spells file following [] → EndsInLeast file source tokens
  ends_in_least stop len following end e is blank =
      let found = least_at-found stop at.marked len refl end e in
      let f = found.1 in
      let left = rest_from at.marked len f following is in
      record {
        parts = h.parts;
        number = f.number;
        following = f.following;
        whole = ap (λ (x : List ℕ). bytes_of h.parts ++ x) (sym f.parts) ∙ h.whole;
        stand = subst (AllStand false h.parts) f.parts h.stand;
        are = h.are;
        in_code = sym (ap (λ (x : Position). x.marked) h.place) ∙ found.0;
        stands = subst (λ (m : Bool). Stands m (lexeme kind.Number (pos (2 ^ 127))) f.number f.following) found.0 f.stands;
        unspoiled = f.unspoiled;
        no_more = subst (λ (x : List ℕ). Spells file x []) left blank;
      }

  -- a text after whose number there are more tokens does not end in it
  pub not_at_end : (stop : Option Cause) (len : ℕ) (following : List ℕ) → IsEnd stop at.marked rest → Some len ≡ least_at stop at.marked rest → following ≡ drop len rest → ¬ Spells file following []
      → (others : List Token) → ¬ EndsInLeast file source others
  not_at_end stop len following end e is more others d =
      let found = least_at-found stop at.marked len refl end e in
      let f = found.1 in
      let b = before_least file source tokens at rest h (nothing_after stop at.marked rest end) others d in
      let stands = subst (λ (m : Bool). Stands m (lexeme kind.Number (pos (2 ^ 127))) f.number f.following) found.0 f.stands in
      let same = one_part false (lexeme kind.Number (pos (2 ^ 127))) (lexeme kind.Number (pos (2 ^ 127))) f.number f.following d.number d.following (sym f.parts ∙ b.rest_is) stands d.stands in
      more (subst (λ (x : List ℕ). Spells file x []) (sym (rest_from at.marked len f following is ∙ same.rest)) d.no_more)

  never_by : (stop : Option Cause) (m : Bool) → m ≡ at.marked → IsEnd stop at.marked rest → None ≡ least_at stop m rest → (others : List Token) → ¬ EndsInLeast file source others
  never_by None m same end none others d = stops_unspelled file source too_wide (place_after_bytes file (bytes_of d.parts)) tokens (least_stops file source others d) (read_all file source tokens at rest h end)
  never_by (Some cause.BadByte) m same end none others d =
      let one = one_stop file source _ too_wide at.place _ (read_stop file source tokens at rest cause.BadByte h end.0 end.1) (least_stops file source others d) in let e = one.cause in absurd cc
  never_by (Some cause.BadNumber) m same end none others d =
      let one = one_stop file source _ too_wide at.place _ (read_stop file source tokens at rest cause.BadNumber h end.0 end.1) (least_stops file source others d) in let e = one.cause in absurd cc
  never_by (Some cause.TooWide) true same end none others d =
      let b = before_least file source tokens at rest h (nothing_after (Some cause.TooWide) at.marked rest end) others d in both_ways at.marked b.in_code (sym same)
  never_by (Some cause.TooWide) false same end none others d =
      let b = before_least file source tokens at rest h (nothing_after (Some cause.TooWide) at.marked rest end) others d in least_missed false rest d.number d.following b.rest_is d.stands none

  -- a text that is not stopped by the number does not end in it
  pub never_least : (stop : Option Cause) → IsEnd stop at.marked rest → None ≡ least_at stop at.marked rest → (others : List Token) → ¬ EndsInLeast file source others
  never_least stop end none = never_by stop at.marked refl end none
