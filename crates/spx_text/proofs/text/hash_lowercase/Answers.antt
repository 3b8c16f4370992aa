use Rattle.std.proofs.Common.{◌≡◌, ℕ, zero, suc, ◌*◌, ◌/◌, ◌++◌, [], ◌∷◌, List, refl, ap, ◌∙◌, sym, length, drop, map}
use Rattle.std.proofs.lemmas.List.{take-map, drop-map, drop_all, length-map}
use Rattle.std.proofs.lemmas.List.Sums.{fold-append}
use Rattle.std.specs.Prelude.{fold}
use Rattle.std.specs.Simd.{first_chunks}
use Rattle.std.specs.Str.{str_to_ascii_lowercase}
use Rattle.spx_text.specs.Hashed.{pieces}
use Rattle.spx_text.specs.declared.text.TheConstants.{PIECE}
use Rattle.spx_text.proofs.text.hash_lowercase.Goals as goal

first_chunks-lowercase : (n k : ℕ) (bytes : List ℕ) → first_chunks n k (str_to_ascii_lowercase bytes) ≡ map str_to_ascii_lowercase (first_chunks n k bytes)
first_chunks-lowercase n zero bytes = refl
first_chunks-lowercase n (suc k) bytes = rw (take-map, drop-map, first_chunks-lowercase n k (drop n bytes))

-- the pieces of the text in lower case are its pieces, each in lower case
pieces-lowercase : (n : ℕ) (bytes : List ℕ) → pieces n (str_to_ascii_lowercase bytes) ≡ map str_to_ascii_lowercase (first_chunks n (length bytes / n) bytes) ++ str_to_ascii_lowercase (drop (length bytes / n * n) bytes) ∷ []
pieces-lowercase n bytes = simp (length-map, drop-map, first_chunks-lowercase)

pub returns : goal.returns
returns g c =
    let write = g.H.Hasher.write in
    let bytes = c.args.bytes.now in
    let whole = c.as_chunks.result.0.now in
    let rest = c.as_chunks.result.1.now in
    let front : whole ≡ first_chunks PIECE (length bytes / PIECE) bytes = c.as_chunks.ensures.front in
    let back : rest ≡ drop (length bytes / PIECE * PIECE) bytes = c.as_chunks.ensures.back in
    let none = drop_all c.loop-piece.piece-index whole c.loop-piece-test.false in
    let fed = sym (ap (λ l. fold write c.loop-piece.state (map str_to_ascii_lowercase l)) none) ∙ c.loop-piece.invariant in
    let spread = fold-append write c.args.state.now (map str_to_ascii_lowercase whole) (str_to_ascii_lowercase rest ∷ []) in
    rw (pieces-lowercase, ← front, ← back, spread, ← fed) c.write_lowercase-2.ensures
