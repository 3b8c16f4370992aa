-- The tokens of a text lie within it.
use Rattle.std.proofs.Common.{ℕ, ◌+◌, ◌≤◌, Bool, false, List, [], ◌∷◌, ◌++◌, length, sym, ap, subst, arith, length-append}
use Rattle.std.specs.List.{All}
use Rattle.std.proofs.lemmas.List.Elements.{All-nil, All-cons, All-append}
use Rattle.spx_tree.specs.declared.token.Token.{Token}
use Rattle.spx_tree.specs.Places.{place_after_bytes}
use Rattle.spx_tree.specs.Spells.{Role, lexeme, Part, bytes_of, marked_following, tokens_by, tokens_of, Spells}
use Rattle.spx_tree.specs.Mirror.{IsWithin}
use Rattle.spx_lexer.specs.Least.{EndsInLeast}

part_within : (file : ℕ) (front : List ℕ) (m : Bool) (role : Role) (bytes : List ℕ) (len : ℕ) → length front + length bytes ≤ len → All (IsWithin len) (tokens_by file front m role bytes)
part_within file front m (lexeme what number) bytes len h =
    All-cons (IsWithin len) (record { kind = what; number = number; first = length front; after = length front + length bytes; place = place_after_bytes file front; marked = m }) [] (omega arith, h) (All-nil (IsWithin len))
part_within file front m role bytes len h = All-nil (IsWithin len)

all_within : (file : ℕ) (front : List ℕ) (m : Bool) (parts : List Part) (len : ℕ) → length front + length (bytes_of parts) ≤ len → All (IsWithin len) (tokens_of file front m parts)
all_within file front m [] len h = All-nil (IsWithin len)
all_within file front m (p ∷ parts) len h =
    let e = length-append p.bytes (bytes_of parts) in
    All-append (IsWithin len) (tokens_by file front m p.role p.bytes) (tokens_of file (front ++ p.bytes) (marked_following p.role m) parts) (part_within file front m p.role p.bytes len (omega arith))
    (all_within file (front ++ p.bytes) (marked_following p.role m) parts len (omega (arith, length-append front p.bytes)))

pub least_within : (file : ℕ) (bytes : List ℕ) (tokens : List Token) → EndsInLeast file bytes tokens → All (IsWithin (length bytes)) tokens
least_within file bytes tokens e =
    subst (All (IsWithin (length bytes))) (sym e.are) (all_within file [] false e.parts (length bytes) (omega (arith, ap length e.whole, length-append (bytes_of e.parts) (e.number ++ e.following))))

pub spelled_within : (file : ℕ) (bytes : List ℕ) (tokens : List Token) → Spells file bytes tokens → All (IsWithin (length bytes)) tokens
spelled_within file bytes tokens s = subst (All (IsWithin (length bytes))) (sym s.are) (all_within file [] false s.parts (length bytes) (omega (arith, ap length s.whole)))
