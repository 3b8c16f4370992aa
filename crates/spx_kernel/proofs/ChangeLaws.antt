-- Hypotheses that are added at the end.
use Rattle.std.proofs.Common.{◌≡◌, List, [], ◌∷◌, ◌++◌, refl, append_assoc}
use Rattle.std.proofs.lemmas.List.{append-nil}
use Rattle.spx_term.specs.declared.term.Term.{Term}
use Rattle.spx_kernel.specs.Changes.{more}

pub more_is : (hyps ts : List Term) → hyps ++ ts ≡ more hyps ts
more_is hyps [] = append-nil hyps
more_is hyps (t ∷ ts) = refl

pub one_after_two : (hyps : List Term) (a b c : Term) → (hyps ++ a ∷ b ∷ []) ++ c ∷ [] ≡ hyps ++ a ∷ b ∷ c ∷ []
one_after_two hyps a b c = append_assoc hyps (a ∷ b ∷ []) (c ∷ [])
