-- Contents that are loaded one after another.
use Rattle.std.proofs.Common.{sym, drop, inl, inr, ◌≡◌, ℕ, zero, suc, ◌<◌, true, List, [], ◌∷◌, ◌++◌, length, map, take, get_or, replicate, Option, Some, None, IfSome, unwrap_or, nat_lt, Vec, String, string_bytes, refl, ap, ap₂, subst, ◌∙◌, arith}
use Rattle.std.specs.Global.{Global}
use Rattle.std.proofs.lemmas.Bool.Decides.{nat_tests}
use Rattle.std.proofs.lemmas.List.{append-nil, append_assoc, length-replicate, map-append, take-append-drop}
use Rattle.std.proofs.lemmas.List.Elements.{All-push}
use Rattle.std.proofs.Math.Seq.{take-suc}
use Rattle.std.specs.Prelude.{false}
use Rattle.std.specs.List.{All}
use Rattle.spx_text.specs.Limits.{most_bytes}
use Rattle.spx_text.specs.Loads.{names, Appends}
use Rattle.spx_examiner.specs.Causes.{ForFiles, MayHold, AreKnown, contents_of, is_too_long, any_too_long, IsShort, EndsAt, AskedForFirst, named, AreLoaded}

-- ---- what files may hold

-- there are as many contents as names
pub holds_length : (known : List ℕ → Option (List ℕ)) (files contents : List (List ℕ)) → MayHold known files contents → length contents ≡ length files
holds_length known [] contents holds = ap length holds
holds_length known (file ∷ files) [] holds = absurd holds
holds_length known (file ∷ files) (bytes ∷ contents) (here, rest) = ap suc (holds_length known files contents rest)

given_are : (known : Option (List ℕ)) (bytes content : List ℕ) → known ≡ Some content → IfSome known (λ given. bytes ≡ given) → bytes ≡ content
given_are known bytes content is holds = subst (λ o. IfSome o (λ given. bytes ≡ given)) is holds

-- where the files give their bytes, they may hold nothing else
pub known_are : (known : List ℕ → Option (List ℕ)) (files contents others : List (List ℕ)) → AreKnown known files contents → MayHold known files others → others ≡ contents
known_are known [] [] others are_known holds = holds
known_are known [] (content ∷ contents) others are_known holds = absurd (cc)
known_are known (file ∷ files) [] others are_known holds = absurd (cc)
known_are known (file ∷ files) (content ∷ contents) [] are_known holds = absurd holds
known_are known (file ∷ files) (content ∷ contents) (bytes ∷ others) are_known (here, rest) =
    let first : known file ≡ Some content = cc in
    let more : AreKnown known files contents = cc in
    ap₂ (λ x xs. x ∷ xs) (given_are (known file) bytes content first here) (known_are known files contents others more rest)

-- what holds for some contents holds for those that the files give
pub where_known : (known : List ℕ → Option (List ℕ)) (words contents : List (List ℕ)) (P : List (List ℕ) → Type 0) → ForFiles known words P → AreKnown known (named words) contents → P contents
where_known known words contents P (others, holds, p) are_known = subst P (known_are known (named words) contents others are_known holds) p

-- ---- loading

-- what is appended to nothing
pub appended : (known : Option (List ℕ)) (most : ℕ) (old new : List ℕ) → old ≡ [] → IfSome known (Appends most old new) → IfSome known (λ given. new ≡ given)
appended None most old new none all = _
appended (Some given) most old new none all = all.following ∙ ap (λ l. l ++ given) none

-- the next file is loaded
pub holds_more : (known : List ℕ → Option (List ℕ)) (words : List (String Global)) (all : List (Vec ℕ Global)) (bytes : Vec ℕ Global) (i : ℕ) (d : String Global) → MayHold known (names (take i words)) (contents_of all) → i < length words → IfSome (known (string_bytes (get_or words i d))) (λ given. bytes.items ≡ given) → MayHold known (names (take (suc i) words)) (contents_of (all ++ bytes ∷ []))
holds_more known [] all bytes i d so_far below here = absurd (omega arith)
holds_more known (word ∷ words) [] bytes zero d so_far below here = (here, refl)
holds_more known (word ∷ words) (first ∷ all) bytes zero d so_far below here = absurd (cc)
holds_more known (word ∷ words) [] bytes (suc i) d so_far below here = absurd so_far
holds_more known (word ∷ words) (first ∷ all) bytes (suc i) d (now, rest) below here = (now, holds_more known words all bytes i d rest (omega arith) here)

-- ---- a file that is too long

-- contents of which nothing is said but where they are known: such bytes
abbrev guessed : (List ℕ → Option (List ℕ)) → List ℕ → List (List ℕ) → List (List ℕ)
guessed known bytes files = map (λ file. unwrap_or (known file) bytes) files

guess_is : (known : Option (List ℕ)) (bytes : List ℕ) → IfSome known (λ given. unwrap_or known bytes ≡ given)
guess_is None bytes = _
guess_is (Some given) bytes = refl

guess_holds : (known : List ℕ → Option (List ℕ)) (bytes : List ℕ) (files : List (List ℕ)) → MayHold known files (guessed known bytes files)
guess_holds known bytes [] = refl
guess_holds known bytes (file ∷ files) = (guess_is (known file) bytes, guess_holds known bytes files)

guess_too_long : (known : Option (List ℕ)) (bytes : List ℕ) → is_too_long bytes ≡ true → IfSome known (λ given. most_bytes < length given) → is_too_long (unwrap_or known bytes) ≡ true
guess_too_long None bytes long passes = long
guess_too_long (Some given) bytes long passes = grind (arith, nat_tests)

guesses_too_long : (known : List ℕ → Option (List ℕ)) (bytes : List ℕ) (words : List (String Global)) (i : ℕ) (d : String Global) → is_too_long bytes ≡ true → i < length words → IfSome (known (string_bytes (get_or words i d))) (λ given. most_bytes < length given) → any_too_long (guessed known bytes (names words)) ≡ true
guesses_too_long known bytes [] i d long below passes = absurd (omega arith)
guesses_too_long known bytes (word ∷ words) zero d long below passes = let here = guess_too_long (known (string_bytes word)) bytes long passes in rw here
guesses_too_long known bytes (word ∷ words) (suc i) d long below passes =
    let rest = guesses_too_long known bytes words i d long (omega arith) passes in
    grind (arith, nat_tests, rest)

-- bytes of this number are too many, where it is too great
too_many : (n : ℕ) → nat_lt most_bytes n ≡ true → is_too_long (replicate {A = ℕ} n 0) ≡ true
too_many n great = ap (nat_lt most_bytes) (length-replicate {A = ℕ} n 0) ∙ great

-- some file is too long
long_file : (bytes : List ℕ) × (is_too_long bytes ≡ true)
long_file = (replicate (suc most_bytes) 0, too_many (suc most_bytes) refl)

-- where the load of one of them passes the limit, the files may hold contents that are too long
pub too_long_at : (known : List ℕ → Option (List ℕ)) (words : List (String Global)) (i : ℕ) (d : String Global) → i < length words → IfSome (known (string_bytes (get_or words i d))) (λ given. most_bytes < length given) → (contents : List (List ℕ)) × MayHold known (names words) contents × (any_too_long contents ≡ true)
too_long_at known words i d below passes =
    (guessed known long_file.0 (names words), guess_holds known long_file.0 (names words), guesses_too_long known long_file.0 words i d long_file.1 below passes)

-- ---- the order of loads

-- what was asked for, with one name more
pub asked_more : (words : List (String Global)) (i : ℕ) (d : String Global) → i < length words → names (take (suc i) words) ≡ names (take i words) ++ string_bytes (get_or words i d) ∷ []
asked_more words i d below =
    ap names (take-suc words i d below) ∙ map-append (λ (s : String Global). string_bytes s) (take i words) (get_or words i d ∷ [])

-- one name more was asked for
pub asked_again : (before : List (List ℕ)) (words : List (String Global)) (i : ℕ) (d : String Global) (so_far now : List (List ℕ)) → i < length words → so_far ≡ before ++ names (take i words) → now ≡ so_far ++ string_bytes (get_or words i d) ∷ [] → now ≡ before ++ names (take (suc i) words)
asked_again before words i d so_far now below so last =
    last ∙ ap (λ l. l ++ string_bytes (get_or words i d) ∷ []) so ∙ append_assoc before (names (take i words)) (string_bytes (get_or words i d) ∷ []) ∙ ap (λ l. before ++ l) (sym (asked_more words i d below))

-- one of them, between those before it and those after it
pub order_at : (words : List (String Global)) (i : ℕ) (d : String Global) → i < length words → names words ≡ names (take i words) ++ string_bytes (get_or words i d) ∷ names (drop (suc i) words)
order_at [] i d below = absurd (omega arith)
order_at (word ∷ words) zero d below = refl
order_at (word ∷ words) (suc i) d below = ap (λ l. string_bytes word ∷ l) (order_at words i d (omega arith))

-- no more bytes than a file may have
pub short_of : (known : Option (List ℕ)) (old new : List ℕ) → IfSome known (Appends most_bytes old new) → IfSome known (λ given. is_too_long given ≡ false)
short_of None old new all = _
short_of (Some given) old new all = let within = all.within in grind (arith, nat_tests, within)

-- those before are short, and so is this one
pub short_more : (known : List ℕ → Option (List ℕ)) (words : List (String Global)) (i : ℕ) (d : String Global) → i < length words → All (IsShort known) (names (take i words)) → IsShort known (string_bytes (get_or words i d)) → All (IsShort known) (names (take (suc i) words))
short_more known words i d below before here =
    subst (All (IsShort known)) (sym (asked_more words i d below)) (All-push (IsShort known) (names (take i words)) (string_bytes (get_or words i d)) before here)

-- where the work ends
pub ended_at : (known : List ℕ → Option (List ℕ)) (words : List (String Global)) (i : ℕ) (d : String Global) (before so_far now : List (List ℕ)) → i < length words → All (IsShort known) (names (take i words)) → so_far ≡ before ++ names (take i words) → now ≡ so_far ++ string_bytes (get_or words i d) ∷ [] → EndsAt known (names words) before now (string_bytes (get_or words i d))
ended_at known words i d before so_far now below short so last =
    record {
      earlier = names (take i words);
      later = names (drop (suc i) words);
      order = order_at words i d below;
      asked = last ∙ ap (λ l. l ++ string_bytes (get_or words i d) ∷ []) so ∙ append_assoc before (names (take i words)) (string_bytes (get_or words i d) ∷ []);
      short = short;
    }

pub long_here : (known : Option (List ℕ)) → IfSome known (λ given. most_bytes < length given) → IfSome known (λ given. is_too_long given ≡ true)
long_here None long = _
long_here (Some given) long = grind (arith, nat_tests, long)

-- files are loaded, whatever the work may end by
pub loaded_so : {P Q : Type 0} {known : List ℕ → Option (List ℕ)} {files before now : List (List ℕ)} → (P → Q) → AreLoaded P known files before now → AreLoaded Q known files before now
loaded_so more (inl loaded) = inl loaded
loaded_so more (inr (long, end)) = inr (long, more end)

-- ---- what was asked for where memory ran out

-- the first of them are those before this one
pub first_before : (words : List (String Global)) (i : ℕ) (before now : List (List ℕ)) → now ≡ before ++ names (take i words) → AskedForFirst (names words) before now
first_before words i before now so =
    record {
      first = names (take i words);
      later = names (drop i words);
      order = ap names (sym (take-append-drop i words)) ∙ map-append (λ (s : String Global). string_bytes s) (take i words) (drop i words);
      asked = so;
    }

-- all of them, or those up to one that is too long
pub first_of_loaded : {P : Type 0} {known : List ℕ → Option (List ℕ)} {files before now : List (List ℕ)} → AreLoaded P known files before now → AskedForFirst files before now
first_of_loaded {P} {known} {files} (inl all) = record { first = files; later = []; order = sym (append-nil files); asked = all.asked }
first_of_loaded (inr ((name, at, long), end)) = record { first = at.earlier ++ name ∷ []; later = at.later; order = at.order ∙ sym (append_assoc at.earlier (name ∷ []) at.later); asked = at.asked }

-- none of them
pub first_of_none : (files before : List (List ℕ)) → AskedForFirst files before before
first_of_none files before = record { first = []; later = files; order = refl; asked = sym (append-nil before) }

-- the same of other files that are these
pub first_as : {files others before now : List (List ℕ)} → files ≡ others → AskedForFirst files before now → AskedForFirst others before now
first_as {files} {others} {before} {now} same first = subst (λ those. AskedForFirst those before now) same first
