-- Reading lines one after another.
use Rattle.std.proofs.Common.{◌≡◌, ℕ, suc, ◌+◌, ◌<◌, ◌≤◌, inl, inr, List, [], ◌∷◌, ◌++◌, length, take, drop, Some, None, Ok, Err, refl, sym, ap, subst, ◌∙◌, append_assoc, add-one, length-drop, arith}
use Rattle.std.proofs.lemmas.List.{append-nil, drop-drop}
use Rattle.std.proofs.Math.ListN.{drop_of_length-le}
use Rattle.spx_run.specs.declared.inputs.InputLine.{InputLine}
use Rattle.spx_run.specs.Lines.{lines_of}
use Rattle.spx_run.specs.Inputs.{AreLines, IsFirstBad, AreInputs}
use Rattle.spx_run.specs.Mirror.{IsReadAs, line_len}
use Rattle.spx_run.proofs.LineLaws.{first_line}

-- what the rest is read as from this number on, after these lines, is what the whole is read as
pub record Passes (whole rest : List ℕ) (n : ℕ) (lines : List InputLine) : Type 0 where
  pub well : (more : List InputLine) → AreLines n (lines_of rest) more → AreInputs whole (Ok (lines ++ more))
  pub badly : (bad : ℕ) → IsFirstBad n (lines_of rest) bad → AreInputs whole (Err bad)

pub starts : (whole : List ℕ) → Passes whole whole 1 []
starts whole = record { well = λ more are. are; badly = λ bad is. is }

-- a line more
pub goes_on : (whole rest : List ℕ) (n : ℕ) (lines : List InputLine) (line : InputLine) → Passes whole rest n lines → 0 < length rest → IsReadAs n (take (line_len rest) rest) (Some line) → Passes whole (drop (line_len rest + 1) rest) (suc n) (lines ++ line ∷ [])
goes_on whole rest n lines line passes some is =
    let first = first_line rest some in
    record {
      well = λ more are. subst (λ (ls : List InputLine). AreInputs whole (Ok ls)) (sym (append_assoc lines (line ∷ []) more)) (passes.well (line ∷ more) (subst (λ (texts : List (List ℕ)). AreLines n texts (line ∷ more)) (sym first) (is.0, is.1, are)));
      badly = λ bad later. passes.badly bad (subst (λ (texts : List (List ℕ)). IsFirstBad n texts bad) (sym first) (inr ((line, is.0), later)));
    }

-- the first line of the rest is none
pub stops : (whole rest : List ℕ) (n : ℕ) (lines : List InputLine) → Passes whole rest n lines → 0 < length rest → IsReadAs n (take (line_len rest) rest) None → AreInputs whole (Err n)
stops whole rest n lines passes some never =
    passes.badly n (subst (λ (texts : List (List ℕ)). IsFirstBad n texts n) (sym (first_line rest some)) (inl (refl, never)))

-- nothing is left
pub ends : (whole rest : List ℕ) (n : ℕ) (lines : List InputLine) → Passes whole rest n lines → rest ≡ [] → AreInputs whole (Ok lines)
ends whole rest n lines passes none =
    subst (λ (ls : List InputLine). AreInputs whole (Ok ls)) (append-nil lines) (passes.well [] (subst (λ (bytes : List ℕ). AreLines n (lines_of bytes) []) (sym none) tt))

-- ---- at an offset

-- a line more, which begins at this offset
pub goes_on_at : (whole : List ℕ) (at len n : ℕ) (text : List ℕ) (lines new : List InputLine) (line : InputLine) → Passes whole (drop at whole) n lines → at < length whole
    → text ≡ take (line_len (drop at whole)) (drop at whole) → len ≡ line_len (drop at whole) → IsReadAs n text (Some line) → new ≡ lines ++ line ∷ [] → Passes whole (drop (at + (len + 1)) whole) (n + 1) new
goes_on_at whole at len n text lines new line passes within is size read is_new =
    let rest = drop at whole in
    let some : 0 < length rest = simp length-drop (omega arith) in
    let more = goes_on whole rest n lines line passes some (subst (λ (t : List ℕ). IsReadAs n t (Some line)) is read) in
    let place : drop (line_len rest + 1) rest ≡ drop (at + (len + 1)) whole = drop-drop (line_len rest + 1) at whole ∙ ap (λ k. drop (at + (k + 1)) whole) (sym size) in
    let moved = subst (λ (left : List ℕ). Passes whole left (suc n) (lines ++ line ∷ [])) place more in
    let counted = subst (λ (k : ℕ). Passes whole (drop (at + (len + 1)) whole) k (lines ++ line ∷ [])) (sym (add-one n)) moved in
    subst (λ (ls : List InputLine). Passes whole (drop (at + (len + 1)) whole) (n + 1) ls) (sym is_new) counted

-- the line that begins at this offset is none
pub stops_at : (whole : List ℕ) (at n : ℕ) (text : List ℕ) (lines : List InputLine) → Passes whole (drop at whole) n lines → at < length whole → text ≡ take (line_len (drop at whole)) (drop at whole) → IsReadAs n text None → AreInputs whole (Err n)
stops_at whole at n text lines passes within is read =
    let some : 0 < length (drop at whole) = simp length-drop (omega arith) in
    stops whole (drop at whole) n lines passes some (subst (λ (t : List ℕ). IsReadAs n t None) is read)

-- no line begins at this offset
pub ends_at : (whole : List ℕ) (at n : ℕ) (lines : List InputLine) → Passes whole (drop at whole) n lines → length whole ≤ at → AreInputs whole (Ok lines)
ends_at whole at n lines passes past = ends whole (drop at whole) n lines passes (drop_of_length-le whole past)
