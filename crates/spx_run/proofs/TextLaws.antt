-- Texts with a comma and a space between two, written one after another.
use Rattle.std.proofs.Common.{◌≡◌, ℕ, ◌≤◌, List, [], ◌∷◌, ◌++◌, length, map, drop, refl, sym, ap, ◌∙◌, append_assoc, codes}
use Rattle.std.specs.Prelude.{flat_map}
use Rattle.std.proofs.lemmas.List.{append-nil}
use Rattle.std.proofs.Math.ListN.{drop_of_length-le}
use Rattle.spx_run.specs.Results.{separated}

-- these texts, where the mark comes before the first of them
abbrev pub texts_after : List ℕ → List (List ℕ) → List ℕ
texts_after mark [] = []
texts_after mark (text ∷ texts) = mark ++ (text ++ texts_after (codes ", ") texts)

marked : (texts : List (List ℕ)) → texts_after (codes ", ") texts ≡ flat_map (λ text. codes ", " ++ text) texts
marked [] = refl
marked (text ∷ texts) = ap (λ more. codes ", " ++ (text ++ more)) (marked texts) ∙ sym (append_assoc (codes ", ") text (flat_map (λ t. codes ", " ++ t) texts))

separated_is : (texts : List (List ℕ)) → texts_after [] texts ≡ separated texts
separated_is [] = refl
separated_is (text ∷ texts) = ap (λ more. text ++ more) (marked texts)

-- where no text is left, all are written
pub all_written : {X : Type 0} (text : X → List ℕ) (xs : List X) (k : ℕ) (mark before now : List ℕ) → length xs ≤ k → now ++ texts_after mark (map text (drop k xs)) ≡ before ++ texts_after [] (map text xs) → now ≡ before ++ separated (map text xs)
all_written text xs k mark before now past same =
    sym (append-nil now) ∙ ap (λ ys. now ++ texts_after mark (map text ys)) (sym (drop_of_length-le xs past)) ∙ same ∙ ap (λ more. before ++ more) (separated_is (map text xs))
