-- The listing of conditions, term by term and body by body.
use Rattle.std.proofs.Common.{◌≡◌, ℕ, suc, ◌+◌, ◌<◌, List, [], ◌∷◌, ◌++◌, length, flat_map, Option, Some, None, take, get_or, refl, sym, ap, ◌∙◌, append_assoc, zero-add, arith}
use Rattle.std.specs.Prelude.{slice_get}
use Rattle.std.specs.List.{cons_option}
use Rattle.std.proofs.lemmas.List.{append-nil, length-take, take_more}
use Rattle.std.proofs.lemmas.Grind.{flat_map-append}
use Rattle.spx_core.specs.declared.entity.SubId.{SubId}
use Rattle.spx_core.specs.declared.program.Program.{Program}
use Rattle.spx_core.specs.declared.subprogram.Sub.{Sub}
use Rattle.spx_term.specs.declared.printing.Names.{Names}
use Rattle.spx_term.specs.declared.term.Term.{Term}
use Rattle.spx_findings.specs.Listing.{conditions_text, listed, listed_at, term_line, term_lines}
use Rattle.spx_findings.proofs.FindingLaws.{subs_in}

-- ---- terms
module _ (declared : Names) (letter : List ℕ) where
  one_line_more : (n : ℕ) (ts : List Term) (t : Term) → term_lines declared letter n (ts ++ t ∷ []) ≡ term_lines declared letter n ts ++ term_line declared letter (length ts + n) t
  one_line_more n [] t = append-nil (term_line declared letter n t) ∙ ap (λ k. term_line declared letter k t) (sym (zero-add n))
  one_line_more n (u ∷ ts) t =
      ap (λ lines. term_line declared letter n u ++ lines) (one_line_more (suc n) ts t)
      ∙ sym (append_assoc (term_line declared letter n u) (term_lines declared letter (suc n) ts) (term_line declared letter (length ts + suc n) t))
      ∙ ap (λ k. term_lines declared letter n (u ∷ ts) ++ term_line declared letter k t) (let e : length ts + suc n ≡ length (u ∷ ts) + n = omega arith in e)

  -- the line of the next term, in a list that is numbered from 1
  pub term_lines_more : (ts : List Term) (i : ℕ) (d : Term) → i < length ts → term_lines declared letter 1 (take (i + 1) ts) ≡ term_lines declared letter 1 (take i ts) ++ term_line declared letter (i + 1) (get_or ts i d)
  term_lines_more ts i d within =
      let taken : length (take i ts) + 1 ≡ i + 1 = omega (arith, length-take i ts) in
      ap (term_lines declared letter 1) (take_more ts i d within)
      ∙ one_line_more 1 (take i ts) (get_or ts i d)
      ∙ ap (λ k. term_lines declared letter 1 (take i ts) ++ term_line declared letter k (get_or ts i d)) taken

-- ---- bodies
module _ (p : Program) (names : List (List ℕ)) where
  abbrev pub text_in : List SubId → List ℕ
  text_in ids = flat_map (λ (id : SubId). listed_at names p (slice_get p.subs id.0)) ids

  text_by_body : (ids : List SubId) → text_in ids ≡ flat_map (listed names p) (subs_in p ids)
  text_by_body [] = refl
  text_by_body (id ∷ ids) = ap (λ text. listed_at names p (slice_get p.subs id.0) ++ text) (text_by_body ids) ∙ first (slice_get p.subs id.0)
    where
      first : (o : Option Sub) → listed_at names p o ++ flat_map (listed names p) (subs_in p ids) ≡ flat_map (listed names p) (cons_option o (subs_in p ids))
      first (Some sub) = refl
      first None = refl

  pub text_is : text_in p.bodies ≡ conditions_text p names
  unfolding conditions_text
  text_is = text_by_body p.bodies

  -- one more body
  pub text_more : (ids : List SubId) (i : ℕ) (d : SubId) → i < length ids → text_in (take (i + 1) ids) ≡ text_in (take i ids) ++ listed_at names p (slice_get p.subs (get_or ids i d).0)
  text_more ids i d within =
      ap text_in (take_more ids i d within)
      ∙ flat_map-append (λ (id : SubId). listed_at names p (slice_get p.subs id.0)) (take i ids) (get_or ids i d ∷ [])
      ∙ ap (λ text. text_in (take i ids) ++ text) (append-nil (listed_at names p (slice_get p.subs (get_or ids i d).0)))
