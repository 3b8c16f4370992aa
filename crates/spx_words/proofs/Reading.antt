-- What clap's getters give.
use Rattle.std.proofs.Common.{◌≡◌, ◌∙◌, ℕ, Bool, cond, true, false, refl, sym, ap, ap₂, arith, List, Option, Some, None, Result, Ok, Err}
use Rattle.std.specs.Prelude.{Box, option_map, option_and_then, unwrap_or}
use Rattle.std.specs.Box.{box_value}
use Rattle.std.specs.Str.Parse.{ParsesUnsigned, digits_value, without_leading_plus}
use Rattle.clap.specs.Matches.{ReadsOne}
use Rattle.clap.specs.Simple.{subcommand_rows}
use Rattle.clap.specs.ValueTests.{is_unsigned_in}
use Rattle.clap.specs.Walk.{Row, Text}
use Rattle.clap.specs.declared.builder.value_parser.ValueParser.TheVariants as vp
use Rattle.clap.specs.declared.parser.matches.SubCommand.{SubCommand}
use Rattle.clap.specs.declared.parser.matches.ArgMatches.TheViews.{out-SubCommand}
use Rattle.clap.proofs.ValueTestLemmas.{Accepts-accepts, accepts-Accepts}
use Rattle.spx_words.specs.Requests.{most_u64, number_of}

module _ (E : Type 0) (text : Text) where
  -- a number that `u64` reads
  read : (v : ℕ) → ParsesUnsigned {E = E} 64 10 text (Ok v) → Some v ≡ number_of text
  read v p =
      let n = digits_value 10 (without_leading_plus text) in
      let small = p.0.1 in
      let is : is_unsigned_in 0 most_u64 text ≡ true =
      Accepts-accepts false (vp.Unsigned 0 most_u64) text (p.0.0, p.0.1, omega arith, omega arith) in
      ap (λ x. Some x) p.1 ∙ sym (ap (λ b. cond b (Some n) None) is)

  -- and a text of which it reads none
  unread : (e : E) → ParsesUnsigned {E = E} 64 10 text (Err e) → None ≡ number_of text
  unread e p = go (is_unsigned_in 0 most_u64 text) refl
    where
      go : (b : Bool) → is_unsigned_in 0 most_u64 text ≡ b → None ≡ cond b (Some (digits_value 10 (without_leading_plus text))) None
      go true is =
          let h = accepts-Accepts false (vp.Unsigned 0 most_u64) text is in
          absurd (p (h.0, h.1))
      go false is = refl

-- the number that `get_one` reads
pub number_given : (E : Type 0) (G : Text → Result ℕ E → Type 0) (o : Option Text) (r : Option ℕ) → (o ≡ None → r ≡ None)
    → ((t : Text) → o ≡ Some t → ReadsOne G t r) → ((u : Text) (x : Result ℕ E) → G u x → ParsesUnsigned 64 10 u x)
    → r ≡ option_and_then number_of o
number_given E G None r none some parses = none refl
number_given E G (Some t) r none some parses = go r (some t refl)
  where
    go : (r : Option ℕ) → ReadsOne G t r → r ≡ number_of t
    go (Some v) h = read E t v (parses t (Ok v) h)
    go None h = unread E t h.0 (parses t (Err h.0) h.1)

-- the subcommand that was entered, with its matches
module _ {Z : Type 0} where
  pub entered_is : (sub : Option (Box SubCommand Z)) (name : Text) (found : List Row) → Some name ≡ option_map (λ b. (out-SubCommand (box_value b)).name.now) sub
      → Some found ≡ option_map (λ p. p.1) (subcommand_rows sub) → subcommand_rows sub ≡ Some (name, found)
  entered_is None name found a b = cc
  entered_is (Some x) name found a b =
      ap₂ (λ (o : Option Text) (p : Option (List Row)). Some (unwrap_or o name, unwrap_or p found)) (sym a) (sym b)
