-- What a command's matches hold where clap's test takes the words: each row has a value, and its values pass the
-- parser of the argument that has the row's id.
use Rattle.std.proofs.Common.{◌≡◌, ◌∙◌, ◌&&◌, ◌||◌, ◌++◌, ℕ, Bool, cond, true, false, not, zero, suc, refl, sym, ap, arith, List, [], ◌∷◌, length, drop, nat_le, nat_lt, Option, Some, None, is_some, true≢false}
use Rattle.std.specs.Prelude.{IfSome, encode_utf8, slice_get, find, fold, option_and_then}
use Rattle.std.specs.Option.{option_map_or}
use Rattle.std.specs.List.{list_all, list_any}
use Rattle.std.specs.Str.{bytes_eq, chars}
use Rattle.std.proofs.lemmas.Bool.{lt-ltb, ltb-true, leb-true}
use Rattle.std.proofs.lemmas.Slice.Eq.{bytes_eq-Decides}
use Rattle.clap.proofs.WalkLemmas.{both}
use Rattle.clap.proofs.SimpleLemmas.{is_nil}
use Rattle.clap.specs.Lexer.{long_of, short_of}
use Rattle.clap.specs.Facts.{explicit_source, unwrap_or_range}
use Rattle.clap.specs.Walk.{Held, Names, Outcome, Row, Rule, Step, Text, Waiting, Walk, action_of, after_flag, after_step, arg_by_id, arg_by_index, arg_by_long, arg_by_short, at_row, attached_value, bundle, bundle_met, bundle_step, done, default_rows, finished, first_of, flag_met, has_row, idle, is_empty, is_pending, long_met, long_or_other, more_values, most_values, next, nothing_held, option, option_met, option_word, plain, plain_word, positional, positional_held, reacted, reading_by, refused, rows_after, settled, settled_rows, short_met, short_or_plain, stronger, subcommand, subcommand_met, subcommand_or_other, takes_several, takes_values, to_positional, trailing, used, used_as, used_by_id, value, waits, walk, walk_from, walked, walked_from, with_default, with_values, without, word_met}
use Rattle.clap.specs.Simple.{Shape}
use Rattle.clap.specs.Takes.{action_passes, bundle_passes, bundle_step_passes, default_passes, flag_word_passes, flags_pass, is_given, level_passes, long_passes, option_passes, other_passes, positional_passes, react_passes, settle_passes, short_passes, step_passes, turn_passes, use_passes, value_passes, values_pass, walk_passes, word_passes}
use Rattle.clap.specs.declared.builder.action.ArgAction.{ArgAction}
use Rattle.clap.specs.declared.builder.action.ArgAction.TheVariants as action
use Rattle.clap.specs.declared.builder.value_parser.Reading.{Reading}
use Rattle.clap.specs.declared.builder.value_parser.Reading.TheVariants as reading
use Rattle.clap.specs.declared.parser.matches.ValueSource.TheVariants.{CommandLine}

-- ---- rules and rows

abbrev is_text_action : ArgAction → Bool
is_text_action action.Set = true
is_text_action action.Append = true
is_text_action _ = false

abbrev pub is_as_written : Reading → Bool
is_as_written reading.AsWritten = true
is_as_written _ = false

-- a use of the argument has a value, which is read as it was written, and there is no default
abbrev pub is_text_rule : Rule → Bool
is_text_rule a = is_text_action (action_of a) && (nat_lt 0 (unwrap_or_range a.range).start_inclusive && (is_as_written (reading_by a) && is_empty a.defaults))

-- the argument is the first with its id
abbrev pub IsTextRule : List Rule → Rule → Type 0
IsTextRule c a = (arg_by_id c a.id ≡ Some a) × (is_text_rule a ≡ true)

abbrev pub Each : {X : Type 0} → (X → Type 0) → List X → Type 0
Each P [] = Unit {0}
Each P (x ∷ xs) = P x × Each P xs

-- the row has a value, and its values pass
abbrev pub holds_text : Rule → Row → Bool
holds_text a r = values_pass a r.values && (nat_lt 0 (length r.values) && is_as_written r.reading)

abbrev pub is_kept : List Rule → Row → Bool
is_kept c r = option_map_or (λ a. holds_text a r) (arg_by_id c r.id) false

all_of : (a b : Bool) → a ≡ true → b ≡ true → (a && b) ≡ true
all_of a b x y = rw (x, y) refl

pub found_each : {X : Type 0} (P : X → Type 0) (q : X → Bool) (xs : List X) → Each P xs → IfSome (find q xs) P
found_each P q [] e = tt
found_each P q (x ∷ xs) e = go (q x) (found_each P q xs e.1)
  where
    go : (b : Bool) → IfSome (find q xs) P → IfSome (cond b (Some x) (find q xs)) P
    go true below = e.0
    go false below = below

all_append : {X : Type 0} (p : X → Bool) (xs ys : List X) → list_all p xs ≡ true → list_all p ys ≡ true → list_all p (xs ++ ys) ≡ true
all_append p [] ys e f = f
all_append p (x ∷ xs) ys e f =
    let h = both (p x) _ e in
    all_of _ _ h.0 (all_append p xs ys h.1 f)

at_row_kept : (ok : Row → Bool) (id : Text) (change : Row → List Row) (missing rows : List Row) → list_all ok rows ≡ true
    → ((r : Row) → bytes_eq r.id id ≡ true → ok r ≡ true → list_all ok (change r) ≡ true) → list_all ok missing ≡ true
    → list_all ok (at_row id change missing rows) ≡ true
at_row_kept ok id change missing [] e each last = last
at_row_kept ok id change missing (r ∷ rs) e each last =
    let h = both (ok r) _ e in
    go (bytes_eq r.id id) refl h.0 h.1 (at_row_kept ok id change missing rs h.1 each last)
  where
    go : (b : Bool) → bytes_eq r.id id ≡ b → ok r ≡ true → list_all ok rs ≡ true → list_all ok (at_row id change missing rs) ≡ true
        → list_all ok (cond b (change r ++ rs) (r ∷ at_row id change missing rs)) ≡ true
    go true is here rest below = all_append ok (change r) rs (each r is here) rest
    go false is here rest below = all_of _ _ here below

abbrev more_row : List Text → Row → Row
more_row vs r = record r { values = r.values ++ vs; source = Some (stronger r.source CommandLine) }

abbrev new_row : Rule → List Text → Row
new_row a vs = record { id = a.id; values = vs; count = None; source = Some CommandLine; reading = reading_by a }

more_than_none : (xs ys : List Text) → nat_lt 0 (length ys) ≡ true → nat_lt 0 (length (xs ++ ys)) ≡ true
more_than_none [] ys e = e
more_than_none (x ∷ xs) ys e = lt-ltb 0 (length (x ∷ (xs ++ ys))) (omega arith)

-- ---- one use of an argument

module _ (c : List Rule) (again : Bool) where
  row_kept : (a : Rule) (r : Row) → arg_by_id c a.id ≡ Some a → r.id ≡ a.id → holds_text a r ≡ true → is_kept c r ≡ true
  row_kept a r first same e = ap (λ id. option_map_or (λ b. holds_text b r) (arg_by_id c id) false) same ∙ ap (λ o. option_map_or (λ b. holds_text b r) o false) first ∙ e

  kept_row : (a : Rule) (r : Row) → arg_by_id c a.id ≡ Some a → r.id ≡ a.id → is_kept c r ≡ true → holds_text a r ≡ true
  kept_row a r first same e =
      sym (ap (λ id. option_map_or (λ b. holds_text b r) (arg_by_id c id) false) same ∙ ap (λ o. option_map_or (λ b. holds_text b r) o false) first) ∙ e

  values_kept : (a : Rule) (vs : List Text) (rows : List Row) → arg_by_id c a.id ≡ Some a → values_pass a vs ≡ true → nat_lt 0 (length vs) ≡ true
      → is_as_written (reading_by a) ≡ true → list_all (is_kept c) rows ≡ true
      → list_all (is_kept c) (with_values a.id (reading_by a) CommandLine vs rows) ≡ true
  values_kept a vs rows first pass some how kept = at_row_kept (is_kept c) a.id (more_values CommandLine vs) (new_row a vs ∷ []) rows kept
      (λ r is ok.
      let same : r.id ≡ a.id = (bytes_eq-Decides r.id a.id).0 is in
      let h = both (values_pass a r.values) _ (kept_row a r first same ok) in
      let g = both (nat_lt 0 (length r.values)) _ h.1 in
      all_of _ _ (row_kept a (more_row vs r) first same (all_of _ _ (all_append (value_passes a) r.values vs h.0 pass) (all_of _ _ (more_than_none r.values vs some) g.1))) refl)
      (all_of _ _ (row_kept a (new_row a vs) first refl (all_of _ _ pass (all_of _ _ some how))) refl)

  without_kept : (id : Text) (rows : List Row) → list_all (is_kept c) rows ≡ true → list_all (is_kept c) (without id rows) ≡ true
  without_kept id rows kept = at_row_kept (is_kept c) id (λ _. []) [] rows kept (λ r is ok. refl) refl

  used_as_kept : (x : ArgAction) (a : Rule) (vs : List Text) (rows : List Row) → is_text_action x ≡ true → arg_by_id c a.id ≡ Some a
      → nat_lt 0 (length vs) ≡ true → is_as_written (reading_by a) ≡ true → action_passes x again a vs rows ≡ true → list_all (is_kept c) rows ≡ true
      → list_all (is_kept c) (used_as x a.id (reading_by a) vs rows) ≡ true
  used_as_kept action.Set a vs rows text first some how pass kept = values_kept a vs (without a.id rows) first (both _ (values_pass a vs) pass).1 some how (without_kept a.id rows kept)
  used_as_kept action.Append a vs rows text first some how pass kept = values_kept a vs rows first pass some how kept
  used_as_kept action.SetTrue a vs rows text first some how pass kept = absurd (true≢false (sym text))
  used_as_kept action.SetFalse a vs rows text first some how pass kept = absurd (true≢false (sym text))
  used_as_kept action.Count a vs rows text first some how pass kept = absurd (true≢false (sym text))
  used_as_kept action.Help a vs rows text first some how pass kept = absurd (true≢false (sym text))
  used_as_kept action.HelpShort a vs rows text first some how pass kept = absurd (true≢false (sym text))
  used_as_kept action.HelpLong a vs rows text first some how pass kept = absurd (true≢false (sym text))
  used_as_kept action.Version a vs rows text first some how pass kept = absurd (true≢false (sym text))

  used_kept : (a : Rule) (vs : List Text) (rows : List Row) → IsTextRule c a → use_passes again a vs rows ≡ true → list_all (is_kept c) rows ≡ true
      → list_all (is_kept c) (used a vs rows) ≡ true
  used_kept a [] rows is pass kept =
      let t = both (is_text_action (action_of a)) _ is.1 in
      let least = ltb-true _ _ (both (nat_lt 0 (unwrap_or_range a.range).start_inclusive) _ t.1).0 in
      let none = leb-true _ _ (both (nat_le (unwrap_or_range a.range).start_inclusive 0) _ pass).0 in
      absurd (omega arith)
  used_kept a (v ∷ vs) rows is pass kept =
      let t = both (is_text_action (action_of a)) _ is.1 in
      let u = both (nat_lt 0 (unwrap_or_range a.range).start_inclusive) _ t.1 in
      let p = both (nat_le (unwrap_or_range a.range).start_inclusive (length (v ∷ vs))) _ pass in
      let q = both (nat_le (length (v ∷ vs)) (most_values a)) _ p.1 in
      used_as_kept (action_of a) a (v ∷ vs) rows t.0 is.0 (lt-ltb 0 (length (v ∷ vs)) (omega arith)) (both (is_as_written (reading_by a)) _ u.1).0 q.1 kept

-- ---- a word

module _ (c : List Rule) (again : Bool) (rules : Each (IsTextRule c) c) where
  abbrev KeptBy : Held → Type 0
  KeptBy h = list_all (is_kept c) h.rows ≡ true

  settled_kept : (h : Held) → settle_passes c again h ≡ true → KeptBy h → KeptBy (settled c h)
  settled_kept h pass kept = go h.pending pass
    where
      by_id : (o : Option Rule) (vs : List Text) → IfSome o (IsTextRule c) → option_map_or (λ a. use_passes again a vs h.rows) o true ≡ true
          → list_all (is_kept c) (used_by_id o vs h.rows) ≡ true
      by_id None vs is p = kept
      by_id (Some a) vs is p = used_kept c again a vs h.rows is p kept

      go : (p : Option (Text × List Text)) → option_map_or (λ (p : Text × List Text). option_map_or (λ a. use_passes again a p.1 h.rows) (arg_by_id c p.0) true) p true ≡ true
          → list_all (is_kept c) (settled_rows c p h.rows) ≡ true
      go None p = kept
      go (Some q) p = by_id (arg_by_id c q.0) q.1 (found_each (IsTextRule c) (λ a. bytes_eq a.id q.0) c rules) p

  reacted_kept : (a : Rule) (vs : List Text) (h : Held) → IsTextRule c a → react_passes c again a vs h ≡ true → KeptBy h → KeptBy (reacted c a vs h)
  reacted_kept a vs h is pass kept =
      let p = both (settle_passes c again h) _ pass in
      used_kept c again a vs (settled c h).rows is p.1 (settled_kept h p.0 kept)

  option_kept : (a : Rule) (v : Option Text) (h : Held) → IsTextRule c a → option_passes c again a v h ≡ true → KeptBy h → KeptBy (option_met c a v h).0
  option_kept a (Some v) h is pass kept = reacted_kept a (v ∷ []) h is pass kept
  option_kept a None h is pass kept = settled_kept h pass kept

  flag_kept : (a : Rule) (v : Option Text) (h : Held) → IsTextRule c a → (not (is_some v) && react_passes c again a [] h) ≡ true → KeptBy h → KeptBy (flag_met c a v h).0
  flag_kept a (Some v) h is pass kept = kept
  flag_kept a None h is pass kept = reacted_kept a [] h is pass kept

  long_kept : (o : Option Rule) (v : Option Text) (h : Held) → IfSome o (IsTextRule c) → long_passes c again o v h ≡ true → KeptBy h → KeptBy (long_met c o v h).0
  long_kept None v h is pass kept = kept
  long_kept (Some a) v h is pass kept = go (takes_values a) pass
    where
      go : (b : Bool) → cond b (option_passes c again a v h) (not (is_some v) && react_passes c again a [] h) ≡ true
          → KeptBy (cond b (option_met c a v h) (flag_met c a v h)).0
      go true p = option_kept a v h is p kept
      go false p = flag_kept a v h is p kept

  short_kept : (o : Option Rule) (rest : Text) (h : Held) (met : Held → Held × Outcome) (passes : Held → Bool)
      → ((g : Held) → passes g ≡ true → KeptBy g → KeptBy (met g).0) → IfSome o (IsTextRule c)
      → short_passes c again o rest h passes ≡ true → KeptBy h → KeptBy (short_met c o rest h met).0
  short_kept None rest h met passes after is pass kept = kept
  short_kept (Some a) rest h met passes after is pass kept = go (takes_values a) pass
    where
      go : (b : Bool) → cond b (option_passes c again a (attached_value rest) h) (react_passes c again a [] h && passes (reacted c a [] h)) ≡ true
          → KeptBy (cond b (option_met c a (attached_value rest) h) (met (reacted c a [] h))).0
      go true p = option_kept a (attached_value rest) h is p kept
      go false p =
          let q = both (react_passes c again a [] h) _ p in
          after (reacted c a [] h) q.1 (reacted_kept a [] h is q.0 kept)

  bundle_step_kept : (o : Option ℕ) (flags : Text) (skip : ℕ) (so_far : Outcome) (h : Held) (met : Text → ℕ → Outcome → Held → Held × Outcome)
      (passes : Text → ℕ → Held → Bool) → ((t : Text) (n : ℕ) (x : Outcome) (g : Held) → passes t n g ≡ true → KeptBy g → KeptBy (met t n x g).0)
      → bundle_step_passes c again o flags skip h passes ≡ true → KeptBy h → KeptBy (bundle_step c o flags skip so_far h met).0
  bundle_step_kept None flags skip so_far h met passes after pass kept = kept
  bundle_step_kept (Some x) flags zero so_far h met passes after pass kept =
      let rest = drop (length (encode_utf8 x)) flags in
      short_kept (arg_by_short c x) rest h (met rest 0 done) (passes rest 0) (after rest 0 done)
      (found_each (IsTextRule c) _ c rules) pass kept
  bundle_step_kept (Some x) flags (suc skip) so_far h met passes after pass kept = after (drop (length (encode_utf8 x)) flags) skip so_far h pass kept

  flags_kept : (k : ℕ) (flags : Text) (skip : ℕ) (so_far : Outcome) (h : Held) → flags_pass c again k flags skip h ≡ true → KeptBy h
      → KeptBy (bundle_met c k flags skip so_far h).0
  unfolding flags_pass bundle_met
  flags_kept zero flags skip so_far h pass kept = kept
  flags_kept (suc k) flags skip so_far h pass kept =
      bundle_step_kept (slice_get (chars flags) 0) flags skip so_far h (bundle_met c k) (flags_pass c again k) (flags_kept k) pass kept

  plain_kept : (waiting : Waiting) (word : Text) (h : Held) → KeptBy h → KeptBy (plain_word c waiting word h).0
  plain_kept idle word h kept = kept
  plain_kept positional word h kept = kept
  plain_kept (option id) word h kept = go (arg_by_id c id)
    where
      go : (o : Option Rule) → KeptBy (option_word o id word h).0
      go None = kept
      go (Some a) = kept

  after_flag_kept : (waiting : Waiting) (word : Text) (h : Held) (x : Outcome) → KeptBy h → KeptBy (after_flag c waiting word h x).0
  after_flag_kept waiting word h done kept = kept
  after_flag_kept waiting word h (waits id) kept = kept
  after_flag_kept waiting word h plain kept = plain_kept waiting word h kept
  after_flag_kept waiting word h refused kept = plain_kept waiting word h kept

  short_word_kept : (o : Option Text) (waiting : Waiting) (word : Text) (h : Held) → option_map_or (λ flags. bundle_passes c again flags h) o true ≡ true → KeptBy h
      → KeptBy (short_or_plain c waiting word o h).0
  short_word_kept None waiting word h pass kept = plain_kept waiting word h kept
  short_word_kept (Some flags) waiting word h pass kept =
      after_flag_kept waiting word (bundle c flags h).0 (bundle c flags h).1 (flags_kept (length flags) flags h.skip plain (record h { skip = 0 }) pass kept)

  flag_word_kept : (o : Option (Text × Option Text)) (waiting : Waiting) (word : Text) (h : Held) → flag_word_passes c again o word h ≡ true → KeptBy h
      → KeptBy (long_or_other c waiting word o h).0
  flag_word_kept (Some p) waiting word h pass kept =
      let met = long_met c (arg_by_long c p.0) p.1 h in
      after_flag_kept waiting word met.0 met.1 (long_kept (arg_by_long c p.0) p.1 h (found_each (IsTextRule c) _ c rules) pass kept)
  flag_word_kept None waiting word h pass kept = short_word_kept (short_of word) waiting word h pass kept

  positional_kept : (a : Rule) (word : Text) (h : Held) → positional_passes c again a h ≡ true → KeptBy h → KeptBy (positional_held c a word h)
  positional_kept a word h pass kept = go (is_pending a h.pending && takes_several a) pass
    where
      go : (b : Bool) → (b || settle_passes c again h) ≡ true → list_all (is_kept c) (cond b h (settled c h)).rows ≡ true
      go true p = kept
      go false p = settled_kept h p kept

-- ---- the walk

module _ (s : Shape) (rules : Each (IsTextRule s.rules) s.rules) where
  abbrev KeptIn : List Row → Type 0
  KeptIn rows = list_all (is_kept s.rules) rows ≡ true

  other_kept : (o : Option Text) (waiting : Waiting) (position : ℕ) (word : Text) (h : Held) → other_passes s o word h ≡ true → KeptIn h.rows
      → KeptIn (subcommand_or_other s.rules o waiting position word h).0.rows
  other_kept (Some name) waiting position word h pass kept = kept
  other_kept None waiting position word h pass kept = go (bytes_eq word (45 ∷ 45 ∷ [])) pass
    where
      go : (b : Bool) → (b || flag_word_passes s.rules s.args_override_self (long_of word) word h) ≡ true
          → KeptIn (cond b (h, trailing position) (long_or_other s.rules waiting word (long_of word) h)).0.rows
      go true p = kept
      go false p = flag_word_kept s.rules s.args_override_self rules (long_of word) waiting word h p kept

  word_kept : (names : Names) (is_trailing : Bool) (waiting : Waiting) (position : ℕ) (word : Text) (h : Held)
      → word_passes s names is_trailing waiting word h ≡ true → KeptIn h.rows → KeptIn (word_met s.rules names is_trailing waiting position word h).0.rows
  word_kept names true waiting position word h pass kept = kept
  word_kept names false waiting position word h pass kept = other_kept (subcommand_met names waiting word) waiting position word h pass kept

  step_kept : (word : Text) (w : Walk) (h : Held) (step : Step) → step_passes s w.position h step ≡ true → KeptIn h.rows
      → KeptIn (after_step s.rules word w h step).held.rows
  step_kept word w h (next waiting) pass kept = kept
  step_kept word w h (trailing position) pass kept = kept
  step_kept word w h (subcommand name) pass kept = kept
  step_kept word w h value pass kept = go (arg_by_index s.rules w.position) pass
    where
      go : (o : Option Rule) → option_map_or (λ a. positional_passes s.rules s.args_override_self a h) o false ≡ true
          → KeptIn (to_positional s.rules o word w h).held.rows
      go None p = kept
      go (Some a) p = positional_kept s.rules s.args_override_self rules a word h p kept

  turn_kept : (names : Names) (w : Walk) (word : Text) → turn_passes s names w word ≡ true → KeptIn w.held.rows
      → KeptIn (walked s.rules names w word).held.rows
  unfolding walked
  turn_kept names w word pass kept = go w.stopped pass
    where
      met : Held × Step
      met = word_met s.rules names w.is_trailing w.waiting w.position word w.held

      go : (o : Option (Text × List Text))
          → (is_some o || (word_passes s names w.is_trailing w.waiting word w.held && step_passes s w.position met.0 met.1)) ≡ true
          → KeptIn (walked_from s.rules names o w word).held.rows
      go (Some p) e = kept
      go None e =
          let p = both (word_passes s names w.is_trailing w.waiting word w.held) _ e in
          step_kept word w met.0 met.1 p.1 (word_kept names w.is_trailing w.waiting w.position word w.held p.0 kept)

  walk_kept : (names : Names) (w : Walk) (words : List Text) → walk_passes s names w words ≡ true → KeptIn w.held.rows
      → KeptIn (fold (walked s.rules names) w words).held.rows
  unfolding walk_passes
  walk_kept names w [] pass kept = kept
  walk_kept names w (word ∷ rest) pass kept =
      let p = both (turn_passes s names w word) _ pass in
      walk_kept names (walked s.rules names w word) rest p.1 (turn_kept names w word p.0 kept)

-- ---- after the walk

no_defaults : (c xs : List Rule) (rows : List Row) → Each (IsTextRule c) xs → fold with_default rows xs ≡ rows
no_defaults c [] rows e = refl
no_defaults c (a ∷ xs) rows e = ap (λ r. fold with_default r xs) (go (has_row a.id rows)) ∙ no_defaults c xs rows e.1
  where
    none : a.defaults ≡ []
    none =
        let t = both (is_text_action (action_of a)) _ e.0.1 in
        let u = both (nat_lt 0 (unwrap_or_range a.range).start_inclusive) _ t.1 in
        is_nil a.defaults (both (is_as_written (reading_by a)) _ u.1).1

    go : (b : Bool) → cond b rows (default_rows a.id (reading_by a) a.defaults rows) ≡ rows
    go true = refl
    go false = rw none refl

without_lift : (lifts all : Bool) → ((lifts && false) || all) ≡ true → all ≡ true
without_lift true all e = e
without_lift false all e = e

-- what the matches of a leaf hold where it takes the words: the rows' values pass, and what is required is there
pub level_kept : (s : Shape) → Each (IsTextRule s.rules) s.rules → (words : List Text) → level_passes s [] nothing_held words false ≡ true
    → (list_all (is_kept s.rules) (rows_after s.rules [] words) ≡ true)
    × (list_all (λ a. not a.required || is_given a.id (rows_after s.rules [] words)) s.rules ≡ true)
level_kept s rules words pass =
    let end = (walk s.rules [] nothing_held words).held in
    let p = both (walk_passes s [] (walk_from nothing_held) words) _ pass in
    let q = both (settle_passes s.rules s.args_override_self end) _ p.1 in
    let r = both (list_all default_passes s.rules) _ q.1 in
    let t = both (not s.arg_required_else_help || (false || list_any (λ r. explicit_source r.source) (finished s.rules end))) _ r.1 in
    let u = both (not s.subcommand_required || false) _ t.1 in
    let v = both (list_all (λ a. a.is_free) s.rules) _ u.1 in
    let kept = settled_kept s.rules s.args_override_self rules end q.0 (walk_kept s rules [] (walk_from nothing_held) words p.0 refl) in (
      rw (no_defaults s.rules s.rules (settled s.rules end).rows rules) kept,
      without_lift s.subcommand_negates_reqs _ v.1,
    )

found_both : (p q : Row → Bool) (rows : List Row) → list_all p rows ≡ true → IfSome (find q rows) (λ r. (p r ≡ true) × (q r ≡ true))
found_both p q [] e = tt
found_both p q (r ∷ rows) e = go (q r) refl (found_both p q rows (both (p r) _ e).1)
  where
    go : (b : Bool) → q r ≡ b → IfSome (find q rows) (λ r. (p r ≡ true) × (q r ≡ true)) → IfSome (cond b (Some r) (find q rows)) (λ r. (p r ≡ true) × (q r ≡ true))
    go true is below = ((both (p r) _ e).0, is)
    go false is below = below

-- the row of an id has a value, and its values pass the parser of the argument with that id
pub row_kept_at : (c : List Rule) (id : Text) (rows : List Row) → list_all (is_kept c) rows ≡ true
    → IfSome (find (λ r. bytes_eq r.id id) rows) (λ r. option_map_or (λ a. holds_text a r) (arg_by_id c id) false ≡ true)
row_kept_at c id rows e = go (find (λ r. bytes_eq r.id id) rows) (found_both (is_kept c) (λ r. bytes_eq r.id id) rows e)
  where
    go : (o : Option Row) → IfSome o (λ r. (is_kept c r ≡ true) × (bytes_eq r.id id ≡ true))
        → IfSome o (λ r. option_map_or (λ a. holds_text a r) (arg_by_id c id) false ≡ true)
    go None h = tt
    go (Some r) h = ap (λ i. option_map_or (λ a. holds_text a r) (arg_by_id c i) false) (sym ((bytes_eq-Decides r.id id).0 h.1)) ∙ h.0

some_value : (o : Option Rule) (r : Row) → option_map_or (λ a. holds_text a r) o false ≡ true → nat_lt 0 (length r.values) ≡ true
some_value None r e = absurd (true≢false (sym e))
some_value (Some a) r e = (both (nat_lt 0 (length r.values)) _ (both (values_pass a r.values) _ e).1).0

-- an argument that was given has a first value
pub text_there : (c : List Rule) (id : Text) (rows : List Row) → list_all (is_kept c) rows ≡ true → is_given id rows ≡ true
    → (t : Text) × (first_of id rows ≡ Some t)
text_there c id rows kept given = go (find (λ r. bytes_eq r.id id) rows) (row_kept_at c id rows kept) given
  where
    first : (vs : List Text) → nat_lt 0 (length vs) ≡ true → (t : Text) × (slice_get vs 0 ≡ Some t)
    first [] e = absurd (true≢false (sym e))
    first (v ∷ vs) e = (v, refl)

    go : (o : Option Row) → IfSome o (λ r. option_map_or (λ a. holds_text a r) (arg_by_id c id) false ≡ true)
        → option_map_or (λ r. explicit_source r.source) o false ≡ true → (t : Text) × (option_and_then (λ r. slice_get r.values 0) o ≡ Some t)
    go None h e = absurd (true≢false (sym e))
    go (Some r) h e = first r.values (some_value (arg_by_id c id) r h)
