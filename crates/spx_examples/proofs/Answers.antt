-- Answers without their cause, and files that are loaded out of order.
use Rattle.std.proofs.Common.{◌≡◌, ℕ, true, false, List, [], ◌∷◌, ◌++◌, get_or, Option, Some, IfSome, refl, ap, subst, sym, ◌∙◌, inl, inr, arith}
use Rattle.std.specs.Prelude.{⊤}
use Rattle.std.specs.List.{All}
use Rattle.spx_examiner.specs.declared.status.Status.TheVariants.{Accepted, Refused}
use Rattle.spx_examiner.specs.Causes.{AreLoaded, AskedForFirst, Concludes, Exactly, IsShort, is_too_long}
use Rattle.spx_examples.specs.Answers.{both_files, inputs_file, nothing_known, program_file}

-- neither answer is a fault
accepted_concludes : Concludes Accepted
accepted_concludes = record { read = λ is. absurd (cc); written = λ is. absurd (cc); in_memory = λ is. absurd (cc) }

refused_concludes : Concludes Refused
refused_concludes = record { read = λ is. absurd (cc); written = λ is. absurd (cc); in_memory = λ is. absurd (cc) }

pub without_cause : ¬ Exactly Accepted ⊥ Accepted
without_cause exact = (exact accepted_concludes).0 refl

pub without_answer : ¬ Exactly Accepted ⊤ Refused
without_answer exact = let is = (exact refused_concludes).1 _ in absurd (cc)

-- the two names are different
names_differ : ¬ (program_file ≡ inputs_file)
names_differ is = let first : 97 ≡ 98 = ap (λ l. get_or l 0 0) is in absurd (omega (arith, first))

-- what is known of a name
abbrev Known : Type 0
Known = List ℕ → Option (List ℕ)

-- one name is at the head of the two
head_is : (a b : List ℕ) (xs ys : List (List ℕ)) → a ∷ xs ≡ b ∷ ys → a ≡ b
head_is a b xs ys is = ap (λ l. get_or l 0 a) is

-- where one more is asked for, there is one more
none_asked : (x : List ℕ) (xs : List (List ℕ)) → ¬ ([] ≡ xs ++ x ∷ [])
none_asked x [] is = absurd (cc)
none_asked x (y ∷ xs) is = absurd (cc)

-- the inputs are not the first of what ended
not_ended_first : (name : List ℕ) (earlier later : List (List ℕ)) → both_files ≡ earlier ++ name ∷ later → ¬ (inputs_file ∷ program_file ∷ [] ≡ earlier ++ name ∷ [])
not_ended_first name [] later order asked = absurd (cc)
not_ended_first name (x ∷ earlier) later order asked =
    names_differ (head_is program_file x (inputs_file ∷ []) (earlier ++ name ∷ later) order ∙ sym (head_is inputs_file x (program_file ∷ []) (earlier ++ name ∷ []) asked))

pub not_first : ¬ AreLoaded ⊤ nothing_known both_files [] (inputs_file ∷ program_file ∷ [])
not_first (inl loaded) = names_differ (sym (head_is inputs_file program_file (program_file ∷ []) (inputs_file ∷ []) loaded.asked))
not_first (inr ((name, ended, long), end)) = not_ended_first name ended.earlier ended.later ended.order ended.asked

-- a file that is too long is not short
not_short : (known : Option (List ℕ)) (bytes : List ℕ) → known ≡ Some bytes → is_too_long bytes ≡ true → ¬ IfSome known (λ given. is_too_long given ≡ false)
not_short known bytes is long short = let here : is_too_long bytes ≡ false = subst (λ o. IfSome o (λ given. is_too_long given ≡ false)) is short in absurd (cc)

-- nor is the first of those before the end
not_short_first : (known : Known) (bytes : List ℕ) (name : List ℕ) (earlier : List (List ℕ)) → known program_file ≡ Some bytes → is_too_long bytes ≡ true → both_files ≡ earlier ++ name ∷ [] → ¬ All (IsShort known) earlier
not_short_first known bytes name [] is long asked short = absurd (cc)
not_short_first known bytes name (x ∷ earlier) is long asked short =
    not_short (known program_file) bytes is long (subst (IsShort known) (sym (head_is program_file x (inputs_file ∷ []) (earlier ++ name ∷ []) asked)) (short 0 [] (omega arith)))

pub not_loaded : (known : Known) (bytes : List ℕ) → known program_file ≡ Some bytes → is_too_long bytes ≡ true → ¬ AreLoaded ⊤ known both_files [] both_files
not_loaded known bytes is long (inl loaded) = not_short (known program_file) bytes is long (loaded.short 0 [] (omega arith))
not_loaded known bytes is long (inr ((name, ended, passes), end)) = not_short_first known bytes name ended.earlier is long ended.asked ended.short

-- the inputs are not the first of both
pub not_asked_later : ¬ AskedForFirst both_files [] (inputs_file ∷ [])
not_asked_later first = names_differ (head_is program_file inputs_file (inputs_file ∷ []) first.later (subst (λ those. both_files ≡ those ++ first.later) (sym first.asked) first.order))

-- the inputs are none of one
pub not_asked_other : ¬ AskedForFirst (program_file ∷ []) [] (program_file ∷ inputs_file ∷ [])
not_asked_other first =
    let order : program_file ∷ [] ≡ program_file ∷ inputs_file ∷ first.later = subst (λ those. program_file ∷ [] ≡ those ++ first.later) (sym first.asked) first.order in
    absurd (cc)
