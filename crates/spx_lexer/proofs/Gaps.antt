-- A comment or a head of annotation text that is found.
use Rattle.std.proofs.Common.{◌≡◌, ◌≢◌, ℕ, ◌+◌, Bool, true, false, cond, not, List, [], ◌∷◌, ◌++◌, drop, refl, sym, ap, subst, ◌∙◌, arith, eqb}
use Rattle.std.specs.Prelude.{◌&&◌}
use Rattle.std.proofs.lemmas.Bool.{eqb-true, both_ways, and_parts, false_from_ne_true, not-true}
use Rattle.std.proofs.lemmas.List.Elements.{All-nil}
use Rattle.spx_tree.specs.Spells.{BeginsWith}
use Rattle.spx_tree.proofs.Shapes.{begins_hyphen}
use Rattle.spx_lexer.specs.declared.lexer.pieces.What.TheVariants as what
use Rattle.spx_lexer.specs.Pieces.{line_len, piece, comment_at, begins_comment}
use Rattle.spx_lexer.proofs.Runs.{line}
use Rattle.spx_lexer.proofs.Found.{Found, head_is}

head_or_comment : (m : Bool) (b : ℕ) (bs text rest : List ℕ) → (eqb b 35 && not m) ≡ false → b ∷ bs ≡ text ++ rest → BeginsWith 35 text → m ≡ true
head_or_comment true b bs text rest e f h = refl
head_or_comment false b bs [] rest e f h = absurd h
head_or_comment false b bs (x ∷ text) rest e f h = absurd (both_ways (eqb b 35 && true) e (ap (λ (y : ℕ). eqb y 35 && true) (head_is b x bs (text ++ rest) f ∙ h)))

comment_by : (m : Bool) (b : ℕ) (bs : List ℕ) (t : Bool) → (eqb b 35 && not m) ≡ t → Found m (45 ∷ 45 ∷ b ∷ bs) (cond t (piece what.Head 3) (piece what.Comment (line_len (b ∷ bs) + 2)))
comment_by m b bs true e =
    let h = and_parts (eqb b 35) (not m) e in
    record { front = 45 ∷ 45 ∷ 35 ∷ []; rest = bs; parts = ap (λ (x : ℕ). 45 ∷ 45 ∷ x ∷ bs) (eqb-true b 35 h.0); len = refl; stands = (refl, not-true m h.1); sound = tt }
comment_by m b bs false e =
    let l = line (b ∷ bs) in
    record {
      front = 45 ∷ 45 ∷ l.front;
      rest = l.rest;
      parts = ap (λ (x : List ℕ). 45 ∷ 45 ∷ x) l.parts;
      len = omega (arith, l.len);
      stands = (l.front, refl, l.is, l.ends, head_or_comment m b bs l.front l.rest e l.parts);
      sound = tt;
    }

comment_found : (m : Bool) (text : List ℕ) → Found m (45 ∷ 45 ∷ text) (comment_at m text)
comment_found m [] = record { front = 45 ∷ 45 ∷ []; rest = []; parts = refl; len = refl; stands = ([], refl, All-nil (λ (x : ℕ). x ≢ 10), tt, λ h. absurd h); sound = tt }
comment_found m (b ∷ bs) = comment_by m b bs (eqb b 35 && not m) refl

pub hyphens_found : (m : Bool) (a : ℕ) (bs : List ℕ) → begins_comment a bs ≡ true → Found m (a ∷ bs) (comment_at m (drop 1 bs))
hyphens_found m a [] e = absurd cc
hyphens_found m a (b ∷ bs) e =
    let h = and_parts (eqb a 45) (eqb b 45) e in
    subst (λ (x : ℕ). Found m (x ∷ b ∷ bs) (comment_at m bs)) (sym (eqb-true a 45 h.0)) (subst (λ (x : ℕ). Found m (45 ∷ x ∷ bs) (comment_at m bs)) (sym (eqb-true b 45 h.1)) (comment_found m bs))

pub not_hyphens : (a : ℕ) (bs : List ℕ) → begins_comment a bs ≡ false → (eqb a 45 && begins_hyphen bs) ≡ false
not_hyphens a [] e = false_from_ne_true (eqb a 45 && false) (λ h. both_ways false refl (and_parts (eqb a 45) false h).1)
not_hyphens a (b ∷ bs) e = e
