-- What each answer comes from.
use Rattle.std.specs.Prelude.{◌≡◌, ◌≢◌, ◌⊎◌, ◌↔◌, true, false, ℕ, Bool, nat_lt, length, List, [], ◌∷◌, ◌++◌, map, Option, Some, IfSome, option_map, unwrap_or, Vec}
use Rattle.std.specs.Global.{Global}
use Rattle.std.specs.List.{All, list_any}
use Rattle.spx_text.specs.Limits.{most_bytes}
use Rattle.spx_examiner.specs.declared.status.Status.{Status}
use Rattle.spx_examiner.specs.declared.status.Status.TheVariants.{ReadFault, WriteFault, NoMemory}
use Rattle.spx_examiner.specs.Words.{asked, files_in}

-- the files give these contents for these names
abbrev pub AreKnown : (List ℕ → Option (List ℕ)) → List (List ℕ) → List (List ℕ) → Type 0
AreKnown known names contents = map known names ≡ map Some contents

-- Files of these names may have these contents: there is one for each name, and it is what is known of its file, where that is known.
abbrev pub MayHold : (List ℕ → Option (List ℕ)) → List (List ℕ) → List (List ℕ) → Type 0
MayHold known [] contents = contents ≡ []
MayHold known (name ∷ names) [] = ⊥
MayHold known (name ∷ names) (bytes ∷ contents) = IfSome (known name) (λ given. bytes ≡ given) × MayHold known names contents

-- a file has more bytes than it may have
abbrev pub is_too_long : List ℕ → Bool
is_too_long content = nat_lt most_bytes (length content)

-- one of the files is too long
abbrev pub any_too_long : List (List ℕ) → Bool
any_too_long contents = list_any is_too_long contents

-- neither a fault nor out of memory
pub record Concludes (status : Status) : Type 0 where
  pub read : status ≢ ReadFault
  pub written : status ≢ WriteFault
  pub in_memory : status ≢ NoMemory

-- the files of what the words ask for, or none
abbrev pub named : List (List ℕ) → List (List ℕ)
named words = unwrap_or (option_map files_in (asked words)) []

-- for whatever contents the files give for all the names in the words
abbrev pub WhereKnown : (List ℕ → Option (List ℕ)) → List (List ℕ) → (List (List ℕ) → Type 0) → Type 0
WhereKnown known words P = (contents : List (List ℕ)) → AreKnown known (named words) contents → P contents

-- for some contents that the files may have which the words name
abbrev pub ForFiles : (List ℕ → Option (List ℕ)) → List (List ℕ) → (List (List ℕ) → Type 0) → Type 0
ForFiles known words P = (contents : List (List ℕ)) × MayHold known (named words) contents × P contents

-- this answer is given exactly where its cause holds, faults and out of memory aside
abbrev pub Exactly : Status → Type 0 → Status → Type 0
Exactly answer cause status = Concludes status → (status ≡ answer) ↔ cause

-- one of the files is too long
abbrev pub AreTooLong : List (List ℕ) → Type 0
AreTooLong contents = any_too_long contents ≡ true

-- the bytes of the files that were loaded
abbrev pub contents_of : List (Vec ℕ Global) → List (List ℕ)
contents_of loaded = map (λ bytes. bytes.items) loaded

-- ---- the order of loads

-- the file of this name is no longer than it may be, where its bytes are known
abbrev pub IsShort : (List ℕ → Option (List ℕ)) → List ℕ → Type 0
IsShort known name = IfSome (known name) (λ bytes. is_too_long bytes ≡ false)

-- All of these were asked for, in their order, and none is too long.
pub record AllLoaded (known : List ℕ → Option (List ℕ)) (names before now : List (List ℕ)) : Type 0 where
  pub asked : now ≡ before ++ names
  pub short : All (IsShort known) names

-- The work ended at the load of this one of them. Those before it were asked for, in their order, and none of them is too long; none
-- after it was asked for.
pub record EndsAt (known : List ℕ → Option (List ℕ)) (names before now : List (List ℕ)) (name : List ℕ) : Type 0 where
  pub earlier : List (List ℕ)
  pub later : List (List ℕ)
  pub order : names ≡ earlier ++ name ∷ later
  pub asked : now ≡ before ++ (earlier ++ name ∷ [])
  pub short : All (IsShort known) earlier

-- the work ended at a file that is too long
abbrev pub EndsAtLongFile : (List ℕ → Option (List ℕ)) → List (List ℕ) → List (List ℕ) → List (List ℕ) → Type 0
EndsAtLongFile known names before now = (name : List ℕ) × EndsAt known names before now name × IfSome (known name) (λ bytes. is_too_long bytes ≡ true)

-- all of these were loaded, or one is too long, where the work may end so
abbrev pub AreLoaded : Type 0 → (List ℕ → Option (List ℕ)) → List (List ℕ) → List (List ℕ) → List (List ℕ) → Type 0
AreLoaded may_end known names before now = AllLoaded known names before now ⊎ (EndsAtLongFile known names before now × may_end)

-- The work ended at a load that failed, and no other load failed.
abbrev pub EndsAtFailure : (List ℕ → Option (List ℕ)) → List (List ℕ) → List (List ℕ) → List (List ℕ) → List (List ℕ) → List (List ℕ) → Type 0
EndsAtFailure known names asked asked_now failed failed_now = (name : List ℕ) × EndsAt known names asked asked_now name × (failed_now ≡ failed ++ name ∷ [])

-- The work ended before the load of one of them, at it, or later: those that were asked for are the first of them, in their order.
pub record AskedForFirst (names before now : List (List ℕ)) : Type 0 where
  pub first : List (List ℕ)
  pub later : List (List ℕ)
  pub order : names ≡ first ++ later
  pub asked : now ≡ before ++ first
