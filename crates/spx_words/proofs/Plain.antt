-- What words without a dash at their head ask for.
use Rattle.std.proofs.Common.{◌≡◌, ◌∙◌, ◌&&◌, ◌==◌, ◌++◌, Bool, codes, cond, true, false, not, refl, sym, ap, List, [], ◌∷◌, Some, None, is_some, true≢false}
use Rattle.std.specs.Prelude.{fold, option_and_then}
use Rattle.std.specs.List.{list_all}
use Rattle.std.specs.Str.{bytes_eq}
use Rattle.std.proofs.lemmas.List.{append_assoc, append-nil}
use Rattle.std.proofs.lemmas.Slice.Eq.{bytes_eq-Decides}
use Rattle.clap.proofs.OnLiterals.{clap_on_literals}
use Rattle.clap.proofs.WalkLemmas.{both}
use Rattle.clap.specs.Lexer.{long_of, short_of}
use Rattle.clap.specs.Simple.{App, Shape, built, entered, is_simple, names_of, rows_at, subcommand_of}
use Rattle.clap.specs.Takes.{default_passes, entered_passes, is_valid, level_passes, settle_passes, takes, turn_passes, walk_passes}
use Rattle.clap.specs.Walk.{Names, Row, Rule, Text, Walk, finished, idle, nothing_held, rows_after, walk, walk_from, walked}
use Rattle.clap.specs.declared.builder.value_parser.Reading.TheVariants as reading
use Rattle.clap.specs.declared.parser.matches.ValueSource.TheVariants.{CommandLine}
use Rattle.spx_words.specs.Command.{check, conditions, spx}
use Rattle.spx_words.specs.Requests as asked
use Rattle.spx_words.specs.Requests.{HasForm, PlainWordIsTheFile, Request, is_plain, of_one_file, request, request_in}
use Rattle.spx_words.proofs.Forms.{leaf, spx_is_simply_built}

no_long : (word : Text) → is_plain word ≡ true → long_of word ≡ None
no_long [] e = refl
no_long (x ∷ xs) e = go (x == 45) refl e
  where
    go : (b : Bool) → (x == 45) ≡ b → not b ≡ true → long_of (x ∷ xs) ≡ None
    go true is f = absurd (true≢false (sym f))
    go false is f = rw is refl

no_short : (word : Text) → is_plain word ≡ true → short_of word ≡ None
no_short [] e = refl
no_short (x ∷ xs) e = go (x == 45) refl e
  where
    go : (b : Bool) → (x == 45) ≡ b → not b ≡ true → short_of (x ∷ xs) ≡ None
    go true is f = absurd (true≢false (sym f))
    go false is f = rw is refl

no_dashes : (word : Text) → is_plain word ≡ true → bytes_eq word (45 ∷ 45 ∷ []) ≡ false
no_dashes word e = go (bytes_eq word (45 ∷ 45 ∷ [])) refl
  where
    go : (b : Bool) → bytes_eq word (45 ∷ 45 ∷ []) ≡ b → b ≡ false
    go false is = refl
    go true is =
        let same : word ≡ 45 ∷ 45 ∷ [] = (bytes_eq-Decides word (45 ∷ 45 ∷ [])).0 is in
        let no : is_plain word ≡ false = ap is_plain same in
        absurd (true≢false (sym e ∙ no))

-- ---- a subcommand that takes one file

-- the row of the file
abbrev file_row : Text → Row
file_row word = record { id = codes "file"; values = word ∷ []; count = None; source = Some CommandLine; reading = reading.AsWritten }

-- the walk after one word
abbrev at_file : Text → Walk
at_file word = record {
  held = record { rows = []; pending = Some (codes "file", word ∷ []); skip = 0 };
  waiting = idle;
  position = 2;
  is_trailing = false;
  stopped = None;
}

-- the first word is the file
abbrev TakesFirst : Shape → Type 0
TakesFirst s = (word : Text) → is_plain word ≡ true → (walked s.rules [] (walk_from nothing_held) word ≡ at_file word) × (turn_passes s [] (walk_from nothing_held) word ≡ true)

-- a second word is refused
abbrev RefusesSecond : Shape → Type 0
RefusesSecond s = (word more : Text) → is_plain more ≡ true → turn_passes s [] (at_file word) more ≡ false

conditions_first : TakesFirst (leaf conditions)
unfolding walked
conditions_first word e = (rw (no_long word e, no_short word e, no_dashes word e) refl, rw (no_long word e, no_short word e, no_dashes word e) refl)

check_first : TakesFirst (leaf check)
unfolding walked
check_first word e = (rw (no_long word e, no_short word e, no_dashes word e) refl, rw (no_long word e, no_short word e, no_dashes word e) refl)

conditions_second : RefusesSecond (leaf conditions)
conditions_second word more e = rw (no_long more e, no_short more e, no_dashes more e) refl

check_second : RefusesSecond (leaf check)
check_second word more e = rw (no_long more e, no_short more e, no_dashes more e) refl

all_of : (a b : Bool) → a ≡ true → b ≡ true → (a && b) ≡ true
all_of a b x y = rw (x, y) refl

not_second : (a b c : Bool) → b ≡ false → (a && (b && c)) ≡ false
not_second true b c x = rw x refl
not_second false b c x = refl

not_first : (a b : Bool) → a ≡ false → (a && b) ≡ false
not_first a b x = rw x refl

module _ (s : Shape) where
  abbrev passes_after : Walk → Bool
  passes_after w = settle_passes s.rules s.args_override_self w.held
      && (list_all default_passes s.rules && is_valid s (finished s.rules w.held) false)

  -- the command ends well after one file, and has its row
  abbrev Ends : Type 0
  Ends = (word : Text) → (passes_after (at_file word) ≡ true) × (finished s.rules (at_file word).held ≡ file_row word ∷ [])

  one_level : TakesFirst s → Ends → (word : Text) → is_plain word ≡ true
      → (level_passes s [] nothing_held (word ∷ []) false ≡ true) × (rows_after s.rules [] (word ∷ []) ≡ file_row word ∷ [])
  unfolding walk_passes
  one_level start ends word e =
      let one = start word e in
      let end = ends word in (
        all_of _ _ (all_of _ _ one.1 refl) (ap passes_after one.0 ∙ end.0),
        ap (λ (w : Walk). finished s.rules w.held) one.0 ∙ end.1,
      )

  more_level : TakesFirst s → RefusesSecond s → (word more : Text) (words : List Text) → is_plain word ≡ true → is_plain more ≡ true
      → level_passes s [] nothing_held (word ∷ more ∷ words) false ≡ false
  unfolding walk_passes
  more_level start second word more words e f =
      let one = start word e in
      not_first _ _ (not_second _ _ _ (ap (λ w. turn_passes s [] w more) one.0 ∙ second word more f))

conditions_ends : Ends (leaf conditions)
conditions_ends word = (refl, refl)

check_ends : Ends (leaf check)
check_ends word = (refl, refl)

-- ---- the whole command, with the name of a subcommand at its head

stopped_walk : (c : List Rule) (names : Names) (w : Walk) (name : Text) (before words : List Text)
    → fold (walked c names) (record w { stopped = Some (name, before) }) words ≡ record w { stopped = Some (name, before ++ words) }
unfolding walked
stopped_walk c names w name before [] = ap (λ x. record w { stopped = Some (name, x) }) (sym (append-nil before))
stopped_walk c names w name before (word ∷ words) =
    stopped_walk c names w name (before ++ word ∷ []) words ∙ ap (λ x. record w { stopped = Some (name, x) }) (append_assoc before (word ∷ []) words)

stopped_passes : (s : Shape) (names : Names) (w : Walk) (name : Text) (before words : List Text)
    → walk_passes s names (record w { stopped = Some (name, before) }) words ≡ true
unfolding walk_passes walked
stopped_passes s names w name before [] = refl
stopped_passes s names w name before (word ∷ words) = stopped_passes s names w name (before ++ word ∷ []) words

abbrev top : App
top = built spx

abbrev stopped_at : Text → List Text → Walk
stopped_at name words = record (walk_from nothing_held) { stopped = Some (name, words) }

abbrev top_passes : Walk → Bool
top_passes w = settle_passes top.top.rules top.top.args_override_self w.held
    && (list_all default_passes top.top.rules && is_valid top.top (finished top.top.rules w.held) (is_some (entered top w.stopped)))

module _ (name : Text) (s : Shape) (first : walked top.top.rules (names_of top) (walk_from nothing_held) name ≡ stopped_at name [])
    (turn : turn_passes top.top (names_of top) (walk_from nothing_held) name ≡ true)
    (enters : (words : List Text) → entered top (Some (name, words)) ≡ Some (rows_at s words))
    (passes : (words : List Text) → entered_passes top (Some (name, words)) ≡ level_passes s [] nothing_held words false)
    (ends : (words : List Text) → top_passes (stopped_at name words) ≡ true) where
  -- what the subcommand takes is asked for
  asks : (words : List Text) (t : Request) → level_passes s [] nothing_held words false ≡ true → request_in (rows_at s words) ≡ Some t
      → request (name ∷ words) ≡ Some t
  unfolding walk_passes
  asks words t level found =
      let at : walk top.top.rules (names_of top) nothing_held (name ∷ words) ≡ stopped_at name words =
      ap (λ w. fold (walked top.top.rules (names_of top)) w words) first ∙ stopped_walk top.top.rules (names_of top) (walk_from nothing_held) name [] words in
      let walks : walk_passes top.top (names_of top) (walk_from nothing_held) (name ∷ words) ≡ true =
      all_of _ _ turn (ap (λ w. walk_passes top.top (names_of top) w words) first ∙ stopped_passes top.top (names_of top) (walk_from nothing_held) name [] words) in
      let inner : entered_passes top (walk top.top.rules (names_of top) nothing_held (name ∷ words)).stopped ≡ true =
      ap (λ (w : Walk). entered_passes top w.stopped) at ∙ (passes words ∙ level) in
      let form : HasForm (name ∷ words) = all_of _ _ spx_is_simply_built (all_of _ _ inner (all_of _ _ walks (ap top_passes at ∙ ends words))) in
      let sub : subcommand_of spx (name ∷ words) ≡ Some (rows_at s words) = ap (λ (w : Walk). entered top w.stopped) at ∙ enters words in
      ap (λ x. cond x (option_and_then request_in (subcommand_of spx (name ∷ words))) None) form ∙ (ap (option_and_then request_in) sub ∙ found)

  -- what it does not take asks for nothing
  asks_nothing : (words : List Text) → level_passes s [] nothing_held words false ≡ false → request (name ∷ words) ≡ None
  asks_nothing words level =
      let at : walk top.top.rules (names_of top) nothing_held (name ∷ words) ≡ stopped_at name words =
      ap (λ w. fold (walked top.top.rules (names_of top)) w words) first ∙ stopped_walk top.top.rules (names_of top) (walk_from nothing_held) name [] words in
      let inner : entered_passes top (walk top.top.rules (names_of top) nothing_held (name ∷ words)).stopped ≡ false =
      ap (λ (w : Walk). entered_passes top w.stopped) at ∙ (passes words ∙ level) in
      let stop = (walk top.top.rules (names_of top) nothing_held (name ∷ words)).stopped in
      let formless : takes spx (name ∷ words) ≡ false =
      not_second (is_simple spx) (entered_passes top stop) (level_passes top.top (names_of top) nothing_held (name ∷ words) (is_some (entered top stop))) inner in
      ap (λ x. cond x (option_and_then request_in (subcommand_of spx (name ∷ words))) None) formless

pub plain_conditions : PlainWordIsTheFile (codes "conditions") asked.conditions
unfolding clap_on_literals
plain_conditions [] e = asks_nothing (codes "conditions") (leaf conditions) refl refl (λ ws. refl) (λ ws. refl) (λ ws. refl) [] refl
plain_conditions (word ∷ []) e =
    let level = one_level (leaf conditions) conditions_first conditions_ends word (both (is_plain word) _ e).0 in
    asks (codes "conditions") (leaf conditions) refl refl (λ ws. refl) (λ ws. refl) (λ ws. refl) (word ∷ []) (asked.conditions word) level.0
    (ap asked.conditions_in level.1)
plain_conditions (word ∷ more ∷ words) e =
    let p = both (is_plain word) _ e in
    asks_nothing (codes "conditions") (leaf conditions) refl refl (λ ws. refl) (λ ws. refl) (λ ws. refl) (word ∷ more ∷ words)
    (more_level (leaf conditions) conditions_first conditions_second word more words p.0 (both (is_plain more) _ p.1).0)

pub plain_check : PlainWordIsTheFile (codes "check") asked.check
unfolding clap_on_literals
plain_check [] e = asks_nothing (codes "check") (leaf check) refl refl (λ ws. refl) (λ ws. refl) (λ ws. refl) [] refl
plain_check (word ∷ []) e =
    let level = one_level (leaf check) check_first check_ends word (both (is_plain word) _ e).0 in
    asks (codes "check") (leaf check) refl refl (λ ws. refl) (λ ws. refl) (λ ws. refl) (word ∷ []) (asked.check word) level.0
    (ap asked.check_in level.1)
plain_check (word ∷ more ∷ words) e =
    let p = both (is_plain word) _ e in
    asks_nothing (codes "check") (leaf check) refl refl (λ ws. refl) (λ ws. refl) (λ ws. refl) (word ∷ more ∷ words)
    (more_level (leaf check) check_first check_second word more words p.0 (both (is_plain more) _ p.1).0)
