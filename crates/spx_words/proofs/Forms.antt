-- What words of a form ask for.
use Rattle.std.proofs.Common.{◌≡◌, ◌∙◌, ◌≤◌, ◌&&◌, ◌||◌, ℕ, Bool, codes, cond, true, false, not, refl, subst, sym, ap, arith, List, [], ◌∷◌, length, nat_le, nat_lt, Option, Some, None, is_some, true≢false}
use Rattle.std.specs.Prelude.{◌↔◌, IfSome, IsNone, find, option_map, option_and_then, slice_get, unwrap_or}
use Rattle.std.specs.Option.{option_map_or}
use Rattle.std.specs.List.{list_all, list_any}
use Rattle.std.specs.Str.{bytes_eq}
use Rattle.std.specs.Str.Parse.{digits_value, without_leading_plus}
use Rattle.std.proofs.lemmas.Bool.{le-leb, leb-true, ltb-true}
use Rattle.clap.proofs.OnLiterals.{clap_on_literals}
use Rattle.clap.proofs.WalkLemmas.{both}
use Rattle.clap.specs.Facts.{explicit_source}
use Rattle.clap.specs.Faults.{fault_of, is_simple_and_free}
use Rattle.clap.specs.Simple.{App, Shape, built, built_leaf, entered, inherited, is_simple, label_of, marked_built, names_of, rows_at, subcommand_of, with_leaf_noted}
use Rattle.clap.specs.Takes.{default_passes, entered_passes, is_given, level_passes, settle_passes, takes, walk_passes}
use Rattle.clap.specs.ValueTests.{is_numeral, is_unsigned_in}
use Rattle.clap.specs.Values.{read_as}
use Rattle.clap.specs.Walk.{Names, Row, Text, answers_to, finished, first_of, nothing_held, row_text, rows_after, walk, walk_from}
use Rattle.clap.specs.declared.builder.value_parser.Reading.{Reading}
use Rattle.clap.specs.declared.builder.value_parser.Reading.TheVariants as reading
use Rattle.spx_words.specs.Command.{check, conditions, most_turns, run, spx}
use Rattle.spx_words.specs.Requests as asked
use Rattle.spx_words.specs.Requests.{EachFormAsks, EachRequestIsWithin, HasForm, HasNoForm, IsWithin, Request, default_turns, most_u64, number_of, request, request_in}
use Rattle.spx_words.proofs.Kept.{Each, found_each, is_as_written, level_kept, row_kept_at, text_there}
use Rattle.spx_words.proofs.Taken.{defaults_pass, fault_free_taken}

-- ---- clap's simple command takes the words exactly where it finds no fault in them

pub spx_is_simple : is_simple_and_free spx ≡ true
unfolding clap_on_literals
spx_is_simple = refl

pub spx_is_simply_built : is_simple spx ≡ true
spx_is_simply_built = (both (is_simple spx) _ spx_is_simple).0

good_defaults : (defaults_pass (built spx).top && list_all defaults_pass (built spx).subs) ≡ true
unfolding clap_on_literals
good_defaults = refl

pub taken : (words : List Text) → fault_of spx words ≡ [] → HasForm words
taken words none = fault_free_taken spx words spx_is_simple good_defaults none

-- ---- numbers

number_read : (low high : ℕ) (text : Text) → is_unsigned_in low high text ≡ true → (n : ℕ) × (number_of text ≡ Some n) × (low ≤ n) × (n ≤ high)
number_read low high text e =
    let n = digits_value 10 (without_leading_plus text) in
    let p = both (is_numeral (without_leading_plus text)) _ e in
    let q = both (nat_lt n 18446744073709551616) _ p.1 in
    let r = both (nat_le low n) _ q.1 in
    let fits = ltb-true n 18446744073709551616 q.0 in
    let wide : is_unsigned_in 0 most_u64 text ≡ true =
    rw (p.0, q.0, le-leb 0 n (omega arith), le-leb n most_u64 (omega arith)) refl in
    (n, ap (λ b. cond b (Some n) None) wide, leb-true _ _ r.0, leb-true _ _ r.1)

number_there : (low high : ℕ) (r : Row) → (list_all (is_unsigned_in low high) r.values && (nat_lt 0 (length r.values) && is_as_written r.reading)) ≡ true
    → (n : ℕ) × (option_and_then number_of (row_text r) ≡ Some n) × (low ≤ n) × (n ≤ high)
number_there low high r e = go r.values r.reading e
  where
    go : (vs : List Text) (how : Reading) → (list_all (is_unsigned_in low high) vs && (nat_lt 0 (length vs) && is_as_written how)) ≡ true
        → (n : ℕ) × (option_and_then number_of (option_map (read_as how) (slice_get vs 0)) ≡ Some n) × (low ≤ n) × (n ≤ high)
    go [] how f = absurd (true≢false (sym f))
    go (v ∷ vs) reading.AsWritten f = number_read low high v (both (is_unsigned_in low high v) _ (both (list_all (is_unsigned_in low high) (v ∷ vs)) _ f).0).0
    go (v ∷ vs) reading.WithoutMinus f = absurd (true≢false (sym (both (nat_lt 0 (length (v ∷ vs))) _ (both (list_all (is_unsigned_in low high) (v ∷ vs)) _ f).1).1))
    go (v ∷ vs) reading.Boolish f = absurd (true≢false (sym (both (nat_lt 0 (length (v ∷ vs))) _ (both (list_all (is_unsigned_in low high) (v ∷ vs)) _ f).1).1))
    go (v ∷ vs) reading.Falsey f = absurd (true≢false (sym (both (nat_lt 0 (length (v ∷ vs))) _ (both (list_all (is_unsigned_in low high) (v ∷ vs)) _ f).1).1))

no_some : (t : Request) → None ≡ Some t → ⊥
no_some t e = cc

some_same : {t u : Request} → Some t ≡ Some u → t ≡ u
some_same {t} {u} e = ap (λ o. unwrap_or o t) e

-- ---- what a subcommand's matches ask for

-- on words that it takes, the subcommand's matches ask for something, within its bounds
abbrev AsksIn : Shape → Type 0
AsksIn s = (words : List Text) → level_passes s [] nothing_held words false ≡ true → (t : Request) × (request_in (rows_at s words) ≡ Some t) × IsWithin t

-- the subcommand as clap builds it
abbrev pub leaf : App → Shape
leaf a = built_leaf (inherited (with_leaf_noted (marked_built spx.top)) a.top)

check_asks : AsksIn (leaf check)
check_asks words pass =
    let s = leaf check in
    let rows = rows_after s.rules [] words in
    let k = level_kept s ((refl, refl), tt) words pass in
    let file = text_there s.rules (codes "file") rows k.0 (both (is_given (codes "file") rows) true k.1).0 in
    (asked.check file.0, ap (option_map asked.check) file.1, tt)

conditions_asks : AsksIn (leaf conditions)
conditions_asks words pass =
    let s = leaf conditions in
    let rows = rows_after s.rules [] words in
    let k = level_kept s ((refl, refl), tt) words pass in
    let file = text_there s.rules (codes "file") rows k.0 (both (is_given (codes "file") rows) true k.1).0 in
    (asked.conditions file.0, ap (option_map asked.conditions) file.1, tt)

-- the turns that are given lie in their range, and so does their number where none are
turns_within : (o : Option Row) → IfSome o (λ r. (list_all (is_unsigned_in 1 most_turns) r.values && (nat_lt 0 (length r.values) && is_as_written r.reading)) ≡ true)
    → (1 ≤ unwrap_or (option_and_then number_of (option_and_then row_text o)) default_turns)
    × (unwrap_or (option_and_then number_of (option_and_then row_text o)) default_turns ≤ most_turns)
turns_within None h = (omega arith, omega arith)
turns_within (Some r) h =
    let n = number_there 1 most_turns r h in
    rw n.1 (n.2, n.3)

run_asks : AsksIn (leaf run)
run_asks words pass =
    let s = leaf run in
    let rows = rows_after s.rules [] words in
    let k = level_kept s ((refl, refl), ((refl, refl), ((refl, refl), ((refl, refl), tt)))) words pass in
    let required = both (is_given (codes "entry") rows) _ k.1 in
    let entry = text_there s.rules (codes "entry") rows k.0 required.0 in
    let file = text_there s.rules (codes "file") rows k.0 (both (is_given (codes "file") rows) true required.1).0 in
    let turns = turns_within (find (λ (r : Row). bytes_eq r.id (codes "turns")) rows) (row_kept_at s.rules (codes "turns") rows k.0) in
    let inputs = first_of (codes "inputs") rows in (
      asked.run entry.0 (asked.turns_in rows) inputs file.0,
      ap (option_and_then (λ (t : Text). option_map (asked.run t (asked.turns_in rows) inputs) (asked.file_in rows))) entry.1
          ∙ ap (option_map (asked.run entry.0 (asked.turns_in rows) inputs)) file.1,
      (turns.0, turns.1),
    )

-- ---- what words of a form ask for

each_asks : Each AsksIn (built spx).subs
each_asks = (check_asks, (conditions_asks, (run_asks, tt)))

-- a level that wants a subcommand passes only with one
subcommand_there : (s : Shape) (names : Names) (words : List Text) (has : Bool) → s.subcommand_required ≡ true
    → level_passes s names nothing_held words has ≡ true → has ≡ true
subcommand_there s names words has wants pass =
    let end = (walk s.rules names nothing_held words).held in
    let p = both (walk_passes s names (walk_from nothing_held) words) _ pass in
    let q = both (settle_passes s.rules s.args_override_self end) _ p.1 in
    let r = both (list_all default_passes s.rules) _ q.1 in
    let t = both (not s.arg_required_else_help || (has || list_any (λ r. explicit_source r.source) (finished s.rules end))) _ r.1 in
    let u = both (not s.subcommand_required || has) _ t.1 in
    sym (ap (λ b. not b || has) wants) ∙ u.0

entered_asks : (stop : Option (Text × List Text)) → entered_passes (built spx) stop ≡ true → is_some (entered (built spx) stop) ≡ true
    → (t : Request) × (option_and_then request_in (entered (built spx) stop) ≡ Some t) × IsWithin t
entered_asks None pass has = absurd (true≢false (sym has))
entered_asks (Some p) pass has =
    pick (find (λ s. answers_to p.0 (label_of s)) (built spx).subs) (found_each AsksIn (λ s. answers_to p.0 (label_of s)) (built spx).subs each_asks) pass has
  where
    pick : (o : Option Shape) → IfSome o AsksIn → option_map_or (λ s. level_passes s [] nothing_held p.1 false) o true ≡ true
        → is_some (option_map (λ s. rows_at s p.1) o) ≡ true → (t : Request) × (option_and_then request_in (option_map (λ s. rows_at s p.1) o) ≡ Some t) × IsWithin t
    pick None is passes some = absurd (true≢false (sym some))
    pick (Some s) is passes some = is p.1 passes

-- words that have the form of a command ask for something, within its bounds
pub form_asks : (words : List Text) → HasForm words → (t : Request) × (request words ≡ Some t) × IsWithin t
form_asks words e =
    let b = built spx in
    let stop = (walk b.top.rules (names_of b) nothing_held words).stopped in
    let p = both (is_simple spx) _ e in
    let q = both (entered_passes b stop) _ p.1 in
    let has = subcommand_there b.top (names_of b) words (is_some (entered b stop)) refl q.1 in
    let t = entered_asks stop q.0 has in
    (t.0, ap (λ x. cond x (option_and_then request_in (subcommand_of spx words)) None) e ∙ t.1, t.2)

-- ---- what an answer that is what the words ask for says of them

module _ {C : Type 0} (asks : C → Request) where
  -- there is a command exactly where the words have a form
  pub request_form : (words : List Text) (answer : Option C) → option_map asks answer ≡ request words → IsNone answer ↔ HasNoForm words
  request_form words None e = (
    λ none form. let t = form_asks words form in no_some t.0 (e ∙ t.1),
    λ formless. refl,
  )
  request_form words (Some command) e = (
    λ none. absurd (true≢false none),
    λ formless. absurd (formless (formed (takes spx words) refl)),
  )
    where
      formed : (b : Bool) → takes spx words ≡ b → takes spx words ≡ true
      formed true is = is
      formed false is =
          let none : request words ≡ None = ap (λ x. cond x (option_and_then request_in (subcommand_of spx words)) None) is in
          absurd (no_some (asks command) (sym (e ∙ none)))

  -- and it is within its bounds
  pub request_within : (words : List Text) (answer : Option C) → option_map asks answer ≡ request words → IfSome answer (λ command. IsWithin (asks command))
  request_within words None e = tt
  request_within words (Some command) e = go (takes spx words) refl
    where
      go : (b : Bool) → takes spx words ≡ b → IsWithin (asks command)
      go true is =
          let t = form_asks words is in
          subst IsWithin (some_same (sym (e ∙ t.1))) t.2
      go false is =
          let none : request words ≡ None = ap (λ x. cond x (option_and_then request_in (subcommand_of spx words)) None) is in
          absurd (no_some (asks command) (sym (e ∙ none)))

as_it_is : (answer : Option Request) → option_map (λ r. r) answer ≡ answer
as_it_is None = refl
as_it_is (Some r) = refl

pub each_form : EachFormAsks
each_form words = request_form (λ r. r) words (request words) (as_it_is (request words))

pub each_request : EachRequestIsWithin
each_request words = request_within (λ r. r) words (request words) (as_it_is (request words))

-- ---- what a parse says of what the words ask for

-- words that clap's command does not take ask for nothing
pub no_request : (words : List Text) → HasNoForm words → None ≡ request words
no_request words formless = go (takes spx words) refl
  where
    go : (b : Bool) → takes spx words ≡ b → None ≡ cond b (option_and_then request_in (subcommand_of spx words)) None
    go true is = absurd (formless is)
    go false is = refl

-- words without a fault ask for what was found for the subcommand that was entered
pub request_by_parse : (words : List Text) (name : Text) (found : List Row) → fault_of spx words ≡ [] → subcommand_of spx words ≡ Some (name, found)
    → request_in (name, found) ≡ request words
request_by_parse words name found none sub =
    sym (ap (λ x. cond x (option_and_then request_in (subcommand_of spx words)) None) (taken words none) ∙ ap (option_and_then request_in) sub)
