-- How many tokens stand before a place of a text.
use Rattle.std.proofs.Common.{◌≡◌, inl, inr, ℕ, ◌+◌, ◌≤◌, ◌<◌, ◌^◌, Bool, false, List, [], ◌∷◌, ◌++◌, length, refl, sym, ap, subst, ◌∙◌, append_assoc, length-append, arith, Ok, Err, Option, Some, None, ℤ, pos}
use Rattle.std.proofs.lemmas.Bool.{both_ways}
use Rattle.std.proofs.lemmas.Int.{ints}
use Rattle.std.proofs.lemmas.List.{append-nil}
use Rattle.std.specs.Prelude.{◌<ℤ◌, ◌≤ℤ◌, IsFalse}
use Rattle.spx_tree.specs.declared.token.Kind.TheVariants as kind
use Rattle.spx_tree.specs.declared.token.Token.{Token}
use Rattle.spx_tree.specs.Lexemes.{spoils_number}
use Rattle.spx_tree.specs.Spells.{Role, lexeme, Stands, IsSound, Part, bytes_of, marked_following, marked_along, AllStand, tokens_by as tokens_of_role, tokens_of, Spells}
use Rattle.spx_tree.specs.Stops.{Cause as Reason, bad_byte, bad_number, too_wide, IsStopped}
use Rattle.spx_tree.proofs.Shapes.{stands_some}
use Rattle.spx_tree.proofs.OnePart.{one_part}
use Rattle.spx_tree.proofs.OneSpelling.{one_reading}
use Rattle.spx_lexer.specs.declared.lexer.pieces.What.{What}
use Rattle.spx_lexer.specs.declared.lexer.pieces.What.TheVariants as what
use Rattle.spx_lexer.specs.declared.lexer.pieces.Piece.{Piece}
use Rattle.spx_lexer.specs.declared.lexer.pieces.Cause.{Cause}
use Rattle.spx_lexer.specs.declared.lexer.positions.Position.{Position}
use Rattle.spx_lexer.specs.Faults.{reason_of}
use Rattle.spx_tree.specs.Stops.{HasMoreTokens}
use Rattle.spx_lexer.specs.Pieces.{piece_at}
use Rattle.spx_lexer.specs.Positions.{tokens_by, tokens_at, count_of}
use Rattle.spx_lexer.proofs.Found.{Found, Finds}
use Rattle.spx_lexer.proofs.Finds.{piece_at-finds}
use Rattle.spx_lexer.specs.Reading.{position, HasRead, IsEnd}
use Rattle.spx_lexer.proofs.Reading.{read_more, spelled_read}

-- ---- places where nothing stands

abbrev pub NothingStands : Bool → List ℕ → Type 0
NothingStands m rest = (role : Role) (bytes following : List ℕ) → rest ≡ bytes ++ following → Stands m role bytes following → IsSound role following → ⊥

nothing_at_end : (m : Bool) (rest : List ℕ) → length rest ≤ 0 → NothingStands m rest
nothing_at_end m rest none role bytes following e p s = absurd (omega (arith, ap length e, length-append bytes following, stands_some m role bytes following p))

-- what stands where a number does is that number
sound_number : (m : Bool) (v : ℤ) (rest front after : List ℕ) → rest ≡ front ++ after → Stands m (lexeme kind.Number v) front after
    → (role : Role) (bytes following : List ℕ) → rest ≡ bytes ++ following → Stands m role bytes following → IsSound role following → IsFalse (spoils_number after) × (v <ℤ pos (2 ^ 127))
sound_number m v rest front after e p role bytes following f q s =
    let same = one_part m role (lexeme kind.Number v) bytes following front after (sym f ∙ e) q p in
    let t : IsSound (lexeme kind.Number v) after = subst (λ (x : List ℕ). IsSound (lexeme kind.Number v) x) same.rest (subst (λ (r : Role). IsSound r following) same.role s) in
    t refl

not_wide : (v w : ℤ) → v <ℤ w → w ≤ℤ v → ⊥
not_wide v w a b = omega (arith, ints)

pub stopped_nothing : (r : Reason) (m : Bool) (rest : List ℕ) → IsStopped r m rest → NothingStands m rest
stopped_nothing bad_byte m rest h role bytes following e p s = h.1 role bytes following e p
stopped_nothing bad_number m rest h role bytes following e p s = both_ways _ (sound_number m h.0 rest h.1 h.2 h.3 h.4 role bytes following e p s).0 h.5
stopped_nothing too_wide m rest h role bytes following e p s = not_wide h.0 (pos (2 ^ 127)) (sound_number m h.0 rest h.1 h.2 h.3 h.4 role bytes following e p s).1 h.6

pub no_more : (m : Bool) (rest : List ℕ) (more : List Part) (d : List ℕ) → NothingStands m rest → rest ≡ bytes_of more ++ d → AllStand m more d → more ≡ []
no_more m rest [] d none e s = refl
no_more m rest (p ∷ more) d none e s = absurd (none p.role p.bytes (bytes_of more ++ d) (e ∙ append_assoc p.bytes (bytes_of more) d) s.0 s.1)

-- ---- the tokens of a text that is read so far are all, or are too many

tokens_of-more : (file : ℕ) (front : List ℕ) (m : Bool) (parts more : List Part) → length (tokens_of file front m parts) ≤ length (tokens_of file front m (parts ++ more))
tokens_of-more file front m [] more = omega arith
tokens_of-more file front m (p ∷ parts) more =
    let first = tokens_of_role file front m p.role p.bytes in
    let following = front ++ p.bytes in
    let marked = marked_following p.role m in
    omega (arith, length-append first (tokens_of file following marked parts), length-append first (tokens_of file following marked (parts ++ more)), tokens_of-more file following marked parts more)

few_tokens : (most file : ℕ) (source : List ℕ) (tokens : List Token) (at : Position) (rest : List ℕ) → HasRead file source tokens at rest → length tokens ≤ most → NothingStands at.marked rest → ¬ HasMoreTokens most file source
few_tokens most file source tokens at rest h few none k =
    let ends : NothingStands (marked_along false h.parts) rest = subst (λ (x : Position). NothingStands x.marked rest) h.place none in
    let count : List Part → ℕ = λ parts. length (tokens_of file [] false parts) in
    elim (one_reading false h.parts k.parts rest k.rest h.stand k.stand (h.whole ∙ sym k.whole)) [
      | inl c ↦
          let same : k.parts ≡ h.parts = c.parts ∙ ap (λ (x : List Part). h.parts ++ x) (no_more (marked_along false h.parts) rest c.more k.rest ends c.rest c.stand) ∙ append-nil h.parts in
          omega (arith, ap length h.are, ap count same, k.many)
      | inr c ↦ omega (arith, ap length h.are, ap count c.parts, tokens_of-more file [] false k.parts c.more, k.many)
    ]

pub few_at_end : (most file : ℕ) (source : List ℕ) (tokens : List Token) (at : Position) (rest : List ℕ) → HasRead file source tokens at rest → length tokens ≤ most → length rest ≤ 0 → ¬ HasMoreTokens most file source
few_at_end most file source tokens at rest h few none = few_tokens most file source tokens at rest h few (nothing_at_end at.marked rest none)

pub few_at_stop : (most file : ℕ) (source : List ℕ) (tokens : List Token) (at : Position) (bytes : List ℕ) (c : Cause) → HasRead file source tokens at bytes → length tokens ≤ most → 0 < length bytes → Err c ≡ piece_at at.marked bytes → ¬ HasMoreTokens most file source
few_at_stop most file source tokens at bytes c h few some e =
    let stopped : IsStopped (reason_of c) at.marked bytes = subst (Finds at.marked bytes) (sym e) (piece_at-finds at.marked bytes some) in
    few_tokens most file source tokens at bytes h few (stopped_nothing (reason_of c) at.marked bytes stopped)

-- nothing stands where the text ends or is stopped
pub nothing_after : (stop : Option Cause) (m : Bool) (rest : List ℕ) → IsEnd stop m rest → NothingStands m rest
nothing_after None m rest h = nothing_at_end m rest h
nothing_after (Some c) m rest h = stopped_nothing (reason_of c) m rest (subst (Finds m rest) (sym h.1) (piece_at-finds m rest h.0))

-- a text without tokens has none too many
pub none_few : (most file : ℕ) (source : List ℕ) → Spells file source [] → ¬ HasMoreTokens most file source
none_few most file source s = few_at_end most file source [] (position file (bytes_of s.parts) (marked_along false s.parts)) [] (spelled_read file source [] s) (omega arith) (omega arith)

length-tokens_by : (w : What) (at : Position) (len : ℕ) → length (tokens_by w at len) ≡ count_of w
length-tokens_by what.LineEnd at len = refl
length-tokens_by what.Separator at len = refl
length-tokens_by what.Comment at len = refl
length-tokens_by what.Head at len = refl
length-tokens_by (what.Lexeme kind number) at len = refl

pub count_more : (tokens next : List Token) (at : Position) (p : Piece) → next ≡ tokens ++ tokens_at at p → length next ≡ length tokens + count_of p.what
count_more tokens next at p e = ap length e ∙ length-append tokens (tokens_at at p) ∙ ap (λ (x : ℕ). length tokens + x) (length-tokens_by p.what at p.len)

pub more_tokens : (most file : ℕ) (source : List ℕ) (tokens : List Token) (at : Position) (bytes : List ℕ) (p : Piece) → HasRead file source tokens at bytes → 0 < length bytes → Ok p ≡ piece_at at.marked bytes → most < length tokens + count_of p.what
    → HasMoreTokens most file source
more_tokens most file source tokens at bytes p h some e many =
    let f : Found at.marked bytes p = subst (Finds at.marked bytes) (sym e) (piece_at-finds at.marked bytes some) in
    let r = read_more file source tokens at bytes p h f in
    record { parts = r.parts; rest = f.rest; whole = r.whole; stand = r.stand; many = omega (arith, many, ap length r.are, count_more tokens (tokens ++ tokens_at at p) at p refl) }
