-- A text read up to a place.
use Rattle.std.proofs.Common.{◌≡◌, ◌⊎◌, inl, inr, ℕ, ◌+◌, ◌≤◌, ◌<◌, Bool, false, List, [], ◌∷◌, ◌++◌, drop, length, refl, sym, ap, subst, ◌∙◌, append_assoc, length-append, arith, Ok, Err}
use Rattle.std.proofs.Math.Path.{ap₂}
use Rattle.std.proofs.lemmas.List.{append-nil, drop_at}
use Rattle.spx_text.specs.declared.place.Place.{Place}
use Rattle.spx_tree.specs.declared.token.Token.{Token}
use Rattle.spx_tree.specs.Places.{place_after_bytes}
use Rattle.spx_tree.specs.Spells.{Stands, IsSound, Part, bytes_of, marked_following, marked_along, AllStand, tokens_by as tokens_of_role, tokens_of, Spells}
use Rattle.spx_tree.specs.Stops.{Cause as Reason, bad_byte, bad_number, too_wide, IsStopped, StopsAt}
use Rattle.spx_tree.proofs.Places.{place_after as place_following_role, place_after_bytes-part}
use Rattle.spx_lexer.specs.declared.lexer.pieces.What.{What}
use Rattle.spx_lexer.specs.declared.lexer.pieces.What.TheVariants as what
use Rattle.spx_lexer.specs.declared.lexer.pieces.Piece.{Piece}
use Rattle.spx_lexer.specs.declared.lexer.positions.Position.{Position}
use Rattle.spx_lexer.specs.declared.lexer.pieces.Cause.{Cause}
use Rattle.spx_lexer.specs.Pieces.{piece_at}
use Rattle.spx_lexer.specs.declared.lexer.LexFault.{LexFault}
use Rattle.spx_lexer.specs.declared.lexer.LexFault.TheVariants as fault
use Rattle.spx_lexer.specs.Faults.{reason_of, fault_of, IsFaultOf}
use Rattle.spx_tree.proofs.OneSpelling.{stops_unspelled, one_stop}
use Rattle.spx_tree.specs.Stops.{HasMoreTokens, most_tokens}
use Rattle.spx_lexer.specs.Reading.{position, HasRead}
use Rattle.spx_lexer.specs.Positions.{place_after, marked_after, after, tokens_by, tokens_at}
use Rattle.spx_lexer.proofs.Found.{role_of, Found, Finds}
use Rattle.spx_lexer.proofs.Finds.{piece_at-finds}

-- ---- one part more

abbrev push : List Part → Part → List Part
push parts part = parts ++ (part ∷ [])

bytes_of-push : (parts : List Part) (part : Part) → bytes_of (push parts part) ≡ bytes_of parts ++ part.bytes
bytes_of-push [] part = append-nil part.bytes
bytes_of-push (p ∷ parts) part = ap (λ (x : List ℕ). p.bytes ++ x) (bytes_of-push parts part) ∙ sym (append_assoc p.bytes (bytes_of parts) part.bytes)

marked_along-push : (m : Bool) (parts : List Part) (part : Part) → marked_along m (push parts part) ≡ marked_following part.role (marked_along m parts)
marked_along-push m [] part = refl
marked_along-push m (p ∷ parts) part = marked_along-push (marked_following p.role m) parts part

all_stand-push : (m : Bool) (parts : List Part) (part : Part) (rest : List ℕ) → AllStand m parts (part.bytes ++ rest) → Stands (marked_along m parts) part.role part.bytes rest → IsSound part.role rest → AllStand m (push parts part) rest
all_stand-push m [] part rest h s i = (s, i, tt)
all_stand-push m (p ∷ parts) part rest h s i =
    let same : bytes_of parts ++ (part.bytes ++ rest) ≡ bytes_of (push parts part) ++ rest = sym (append_assoc (bytes_of parts) part.bytes rest) ∙ ap (λ (x : List ℕ). x ++ rest) (sym (bytes_of-push parts part)) in
    (subst (Stands m p.role p.bytes) same h.0, subst (IsSound p.role) same h.1, all_stand-push (marked_following p.role m) parts part rest h.2 s i)

tokens_of-push : (file : ℕ) (front : List ℕ) (m : Bool) (parts : List Part) (part : Part) → tokens_of file front m (push parts part) ≡ tokens_of file front m parts ++ tokens_of_role file (front ++ bytes_of parts) (marked_along m parts) part.role part.bytes
tokens_of-push file front m [] part = append-nil (tokens_of_role file front m part.role part.bytes) ∙ ap (λ (x : List ℕ). tokens_of_role file x m part.role part.bytes) (sym (append-nil front))
tokens_of-push file front m (p ∷ parts) part =
    ap (λ (ts : List Token). tokens_of_role file front m p.role p.bytes ++ ts) (tokens_of-push file (front ++ p.bytes) (marked_following p.role m) parts part)
    ∙ sym (append_assoc (tokens_of_role file front m p.role p.bytes) (tokens_of file (front ++ p.bytes) (marked_following p.role m) parts) (tokens_of_role file ((front ++ p.bytes) ++ bytes_of parts) (marked_along (marked_following p.role m) parts) part.role part.bytes))
    ∙ ap (λ (x : List ℕ). tokens_of file front m (p ∷ parts) ++ tokens_of_role file x (marked_along (marked_following p.role m) parts) part.role part.bytes) (append_assoc front p.bytes (bytes_of parts))

-- ---- positions

tokens_same : (file : ℕ) (front bytes : List ℕ) (m : Bool) (w : What) (len : ℕ) → length bytes ≡ len → tokens_by w (position file front m) len ≡ tokens_of_role file front m (role_of w) bytes
tokens_same file front bytes m what.LineEnd len e = refl
tokens_same file front bytes m what.Separator len e = refl
tokens_same file front bytes m what.Comment len e = refl
tokens_same file front bytes m what.Head len e = refl
tokens_same file front bytes m (what.Lexeme k n) len e = ap (λ (x : ℕ). tokens_by (what.Lexeme k n) (position file front m) x) (sym e)

place_same : (w : What) (at : Place) (len : ℕ) → place_after w at len ≡ place_following_role (role_of w) at len
place_same what.LineEnd at len = refl
place_same what.Separator at len = refl
place_same what.Comment at len = refl
place_same what.Head at len = refl
place_same (what.Lexeme k n) at len = refl

marked_same : (w : What) (m : Bool) → marked_after w m ≡ marked_following (role_of w) m
marked_same what.LineEnd m = refl
marked_same what.Separator m = refl
marked_same what.Comment m = refl
marked_same what.Head m = refl
marked_same (what.Lexeme k n) m = refl

position_of : ℕ → Place → Bool → Position
position_of offset place m = record { offset = offset; place = place; marked = m }

after_same : (file : ℕ) (front bytes rest : List ℕ) (m : Bool) (p : Piece) → length bytes ≡ p.len → Stands m (role_of p.what) bytes rest → after (position file front m) p ≡ position file (front ++ bytes) (marked_following (role_of p.what) m)
unfolding position_of
after_same file front bytes rest m p len s =
    let offset : length front + p.len ≡ length (front ++ bytes) = omega (arith, len, length-append front bytes) in
    let place : place_after p.what (place_after_bytes file front) p.len ≡ place_after_bytes file (front ++ bytes) =
    place_same p.what (place_after_bytes file front) p.len ∙ ap (place_following_role (role_of p.what) (place_after_bytes file front)) (sym len) ∙ sym (place_after_bytes-part file m (role_of p.what) front bytes rest s) in
    ap (λ (x : ℕ). position_of x (place_after p.what (place_after_bytes file front) p.len) (marked_after p.what m)) offset
    ∙ ap₂ (position_of (length (front ++ bytes))) place (marked_same p.what m)

-- ---- a text read up to a place

pub read_none : (file : ℕ) (source : List ℕ) (tokens : List Token) → tokens ≡ [] → HasRead file source tokens (record { offset = 0; place = record { file = file; line = 1; column = 1 }; marked = false }) source
unfolding place_after_bytes
read_none file source tokens e = record { parts = []; whole = refl; stand = tt; are = e; place = refl }

pub read_more : (file : ℕ) (source : List ℕ) (tokens : List Token) (at : Position) (bytes : List ℕ) (p : Piece) → HasRead file source tokens at bytes → (f : Found at.marked bytes p) → HasRead file source (tokens ++ tokens_at at p) (after at p) f.rest
read_more file source tokens at bytes p h f =
    let m = marked_along false h.parts in
    let front = bytes_of h.parts in
    let part : Part = record { role = role_of p.what; bytes = f.front } in
    let stands : Stands m (role_of p.what) f.front f.rest = subst (λ (x : Position). Stands x.marked (role_of p.what) f.front f.rest) h.place f.stands in
    let moved = ap (λ (x : List ℕ). x ++ f.rest) (bytes_of-push h.parts part) ∙ append_assoc front f.front f.rest ∙ ap (λ (x : List ℕ). front ++ x) (sym f.parts) ∙ h.whole in
    record {
      parts = push h.parts part;
      whole = moved;
      stand = all_stand-push false h.parts part f.rest (subst (AllStand false h.parts) f.parts h.stand) stands f.sound;
      are =
          ap₂ (λ (x y : List Token). x ++ y) h.are (ap (λ (x : Position). tokens_at x p) h.place ∙ tokens_same file front f.front m p.what p.len f.len)
          ∙ sym (tokens_of-push file [] false h.parts part);
      place =
          ap (λ (x : Position). after x p) h.place ∙ after_same file front f.front f.rest m p f.len stands
          ∙ ap₂ (λ (x : List ℕ) (y : Bool). position file x y) (sym (bytes_of-push h.parts part)) (sym (marked_along-push false h.parts part));
    }

pub turn : (file : ℕ) (source : List ℕ) (tokens next : List Token) (at following : Position) (bytes rest : List ℕ) (p : Piece) → HasRead file source tokens at bytes → 0 < length bytes
    → Ok p ≡ piece_at at.marked bytes → next ≡ tokens ++ tokens_at at p → following ≡ after at p → rest ≡ drop p.len bytes → HasRead file source next following rest
turn file source tokens next at following bytes rest p h some e et ep er =
    let f : Found at.marked bytes p = subst (Finds at.marked bytes) (sym e) (piece_at-finds at.marked bytes some) in
    let left : rest ≡ f.rest = er ∙ ap (drop p.len) f.parts ∙ drop_at f.front f.rest p.len f.len in
    subst (λ (x : List ℕ). HasRead file source next following x) (sym left)
    (subst (λ (x : Position). HasRead file source next x f.rest) (sym ep) (subst (λ (x : List Token). HasRead file source x (after at p) f.rest) (sym et) (read_more file source tokens at bytes p h f)))

-- ---- the answers

no_rest : (rest : List ℕ) → length rest ≤ 0 → rest ≡ []
no_rest [] h = refl
no_rest (b ∷ rest) h = absurd (omega arith)

all_read : (file : ℕ) (source : List ℕ) (tokens : List Token) (at : Position) (rest : List ℕ) (h : HasRead file source tokens at rest) → rest ≡ [] → bytes_of h.parts ≡ source
all_read file source tokens at rest h e = sym (append-nil (bytes_of h.parts)) ∙ ap (λ (x : List ℕ). bytes_of h.parts ++ x) (sym e) ∙ h.whole

pub read_all : (file : ℕ) (source : List ℕ) (tokens : List Token) (at : Position) (rest : List ℕ) → HasRead file source tokens at rest → length rest ≤ 0 → Spells file source tokens
read_all file source tokens at rest h none =
    let e = no_rest rest none in
    record { parts = h.parts; whole = all_read file source tokens at rest h e; stand = subst (AllStand false h.parts) e h.stand; are = h.are }

-- a text that tokens spell is read to its end
pub spelled_read : (file : ℕ) (source : List ℕ) (tokens : List Token) (s : Spells file source tokens) → HasRead file source tokens (position file (bytes_of s.parts) (marked_along false s.parts)) []
spelled_read file source tokens s = record { parts = s.parts; whole = append-nil (bytes_of s.parts) ∙ s.whole; stand = s.stand; are = s.are; place = refl }

pub read_end : (file : ℕ) (source : List ℕ) (tokens : List Token) (at : Position) (rest : List ℕ) → HasRead file source tokens at rest → length rest ≤ 0 → at.place ≡ place_after_bytes file source
read_end file source tokens at rest h none = ap (λ (x : Position). x.place) h.place ∙ ap (place_after_bytes file) (all_read file source tokens at rest h (no_rest rest none))

pub read_stop : (file : ℕ) (source : List ℕ) (tokens : List Token) (at : Position) (bytes : List ℕ) (c : Cause) → HasRead file source tokens at bytes → 0 < length bytes → Err c ≡ piece_at at.marked bytes → StopsAt file source (reason_of c) at.place
read_stop file source tokens at bytes c h some e =
    let stopped : IsStopped (reason_of c) at.marked bytes = subst (Finds at.marked bytes) (sym e) (piece_at-finds at.marked bytes some) in
    record {
      parts = h.parts;
      rest = bytes;
      whole = h.whole;
      stand = h.stand;
      at = ap (λ (x : Position). x.place) h.place;
      stopped = subst (λ (x : Position). IsStopped (reason_of c) x.marked bytes) h.place stopped;
    }

pub is_fault : (file : ℕ) (source : List ℕ) (r : Reason) (place : Place) → StopsAt file source r place → ¬ HasMoreTokens most_tokens file source → IsFaultOf file source (fault_of r place)
is_fault file source bad_byte place s few = (s, few)
is_fault file source bad_number place s few = (s, few)
is_fault file source too_wide place s few = (s, few)

-- what follows from what a fault says
pub record Refuses (file : ℕ) (source : List ℕ) (why : LexFault) : Type 0 where
  pub spelled : (tokens : List Token) → Spells file source tokens → ¬ HasMoreTokens most_tokens file source → why ≡ fault.Memory
  pub stopped : (r : Reason) (place : Place) → StopsAt file source r place → ¬ HasMoreTokens most_tokens file source → (why ≡ fault_of r place) ⊎ (why ≡ fault.Memory)
  pub crowded : HasMoreTokens most_tokens file source → (why ≡ fault.TooMany) ⊎ (why ≡ fault.Memory)

stop_refuses : (file : ℕ) (source : List ℕ) (r : Reason) (place : Place) → StopsAt file source r place → ¬ HasMoreTokens most_tokens file source → Refuses file source (fault_of r place)
stop_refuses file source r place s few =
    record {
      spelled = λ tokens t _. absurd (stops_unspelled file source r place tokens s t);
      stopped = λ q p t _. let one = one_stop file source r q place p s t in inl (ap₂ fault_of one.cause one.place);
      crowded = λ many. absurd (few many);
    }

pub refuses : (file : ℕ) (source : List ℕ) (why : LexFault) → IsFaultOf file source why → Refuses file source why
refuses file source (fault.BadByte place) h = stop_refuses file source bad_byte place h.0 h.1
refuses file source (fault.BadNumber place) h = stop_refuses file source bad_number place h.0 h.1
refuses file source (fault.TooWide place) h = stop_refuses file source too_wide place h.0 h.1
refuses file source fault.TooMany h = record { spelled = λ tokens t few. absurd (few h); stopped = λ q p t few. absurd (few h); crowded = λ _. inl refl }
refuses file source fault.Memory h = record { spelled = λ tokens t few. refl; stopped = λ q p t few. inr refl; crowded = λ _. inr refl }
