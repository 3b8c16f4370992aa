use Rattle.std.proofs.Common.{rules, arith, inl, inr, ◌≡◌, ◌<◌, ◌+◌, suc, [], ◌∷◌, ◌++◌, length, get_or, ◌∙◌, ap, sym, ap₂, subst, take, IfSome, Err, string_bytes}
use Rattle.std.specs.List.{All}
use Rattle.std.proofs.lemmas.Grind.{common_steps}
use Rattle.spx_text.specs.Limits.{most_bytes}
use Rattle.spx_text.specs.Loads.{names, named_by, Appends}
use Rattle.spx_text.specs.declared.files.LoadFault.TheVariants.{Failed, TooLong}
use Rattle.spx_examiner.specs.Causes.{AskedForFirst, IsShort, MayHold, contents_of}
use Rattle.spx_examiner.proofs.Loading.{appended, asked_again, ended_at, first_before, holds_more, long_here, short_more, short_of, too_long_at}
use Rattle.spx_examiner.proofs.load.load_all.Goals as goal
use Rattle.spx_examiner.proofs.load.load_all.Goals.{After-load}

-- what is known of this word's file
known_here : (g : _) (c : After-load g) → g.F.Files.known c.loop-word.files c.as_str.result.now ≡ g.F.Files.known c.args.files.now (string_bytes (get_or c.args.words.now c.loop-word.word-index c.word-item.result))
known_here g c = c.loop-word.invariant.known c.as_str.result.now ∙ ap (g.F.Files.known c.args.files.now) (c.as_str.ensures.value ∙ ap string_bytes c.word-item.is)

pub returns-in_err-load-clause-too_long : goal.returns-in_err-load-clause-too_long
returns-in_err-load-clause-too_long g c = λ is.
    let below : c.loop-word.word-index < length c.args.words.now = omega arith in
    let same : Err c.in_err-load.field-0.0 ≡ Err TooLong = search rules in
    too_long_at (g.F.Files.known c.args.files.now) c.args.words.now c.loop-word.word-index c.word-item.result below
    (subst (λ o. IfSome o (λ given. most_bytes < length given)) (known_here g (goal.at.returns-in_err-load-clause-too_long g c).After-load) (c.in_err-load.ensures.too_long same))

-- the name of this word
name_here : (g : _) (c : After-load g) → c.as_str.result.now ≡ string_bytes (get_or c.args.words.now c.loop-word.word-index c.word-item.result)
name_here g c = c.as_str.ensures.value ∙ ap string_bytes c.word-item.is

pub returns-in_err-load-clause-long : goal.returns-in_err-load-clause-long
returns-in_err-load-clause-long g c = λ is.
    let below : c.loop-word.word-index < length c.args.words.now = omega arith in
    let same : c.in_err-load.field-0.0 ≡ TooLong = search rules in
    let at = (goal.at.returns-in_err-load-clause-long g c).After-load in
    let told : g.F.Files.asked c.load.new.self ≡ g.F.Files.asked c.loop-word.files ++ c.as_str.result.now ∷ [] = c.in_err-load.ensures.asked (λ out. absurd (cc)) in (
      string_bytes (get_or c.args.words.now c.loop-word.word-index c.word-item.result),
      ended_at (g.F.Files.known c.args.files.now) c.args.words.now c.loop-word.word-index c.word-item.result _ _ _ below c.loop-word.invariant.short c.loop-word.invariant.asked (told ∙ ap (λ n. g.F.Files.asked c.loop-word.files ++ n ∷ []) (name_here g at)),
      long_here _ (subst (λ o. IfSome o (λ given. most_bytes < length given)) (known_here g at) (c.in_err-load.ensures.too_long (ap Err same))),
    )

pub returns-in_err-load-clause-failed : goal.returns-in_err-load-clause-failed
returns-in_err-load-clause-failed g c = λ is.
    let below : c.loop-word.word-index < length c.args.words.now = omega arith in
    let same : c.in_err-load.field-0.0 ≡ Failed = search rules in
    let at = (goal.at.returns-in_err-load-clause-failed g c).After-load in
    let told : g.F.Files.asked c.load.new.self ≡ g.F.Files.asked c.loop-word.files ++ c.as_str.result.now ∷ [] = c.in_err-load.ensures.asked (λ out. absurd (cc)) in
    let kept : g.F.Files.failed c.load.new.self ≡ g.F.Files.failed c.loop-word.files ++ c.as_str.result.now ∷ [] = c.in_err-load.ensures.failed ∙ ap (λ fault. g.F.Files.failed c.loop-word.files ++ named_by fault c.as_str.result.now) same in (
      string_bytes (get_or c.args.words.now c.loop-word.word-index c.word-item.result),
      ended_at (g.F.Files.known c.args.files.now) c.args.words.now c.loop-word.word-index c.word-item.result _ _ _ below c.loop-word.invariant.short c.loop-word.invariant.asked (told ∙ ap (λ n. g.F.Files.asked c.loop-word.files ++ n ∷ []) (name_here g at)),
      kept ∙ ap₂ (λ before n. before ++ n ∷ []) c.loop-word.invariant.failed (name_here g at),
    )

pub loop-word-preserved : goal.loop-word-preserved
loop-word-preserved g c =
    let here = subst (λ o. IfSome o (Appends most_bytes c.new-bytes.result.items c.load.new.into.items)) (known_here g (goal.at.loop-word-preserved g c).After-load) c.in_ok-load.ensures.loaded in
    let pushed : c.push.new.self.items ≡ c.loop-word.loaded.items ++ c.load.new.into ∷ [] = grind (arith, common_steps) in
    let told : g.F.Files.asked c.load.new.self ≡ g.F.Files.asked c.loop-word.files ++ c.as_str.result.now ∷ [] = c.in_ok-load.ensures.asked (λ is. absurd (cc)) in
    let next : suc c.loop-word.word-index ≡ c.loop-word.word-index + 1 = omega arith in
    record {
      known = search rules;
      asked = subst (λ n. g.F.Files.asked c.load.new.self ≡ g.F.Files.asked c.args.files.now ++ names (take n c.args.words.now)) next
          (asked_again (g.F.Files.asked c.args.files.now) c.args.words.now c.loop-word.word-index c.word-item.result _ _ (omega arith) c.loop-word.invariant.asked (told ∙ ap (λ n. g.F.Files.asked c.loop-word.files ++ n ∷ []) (name_here g (goal.at.loop-word-preserved g c).After-load)));
      short = subst (λ n. All (IsShort (g.F.Files.known c.args.files.now)) (names (take n c.args.words.now))) next
          (short_more (g.F.Files.known c.args.files.now) c.args.words.now c.loop-word.word-index c.word-item.result (omega arith) c.loop-word.invariant.short (short_of _ _ _ here));
      failed = grind (arith, common_steps);
      loaded = subst (λ n. MayHold (g.F.Files.known c.args.files.now) (names (take n c.args.words.now)) (contents_of c.push.new.self.items)) next (subst (λ all. MayHold (g.F.Files.known c.args.files.now) (names (take (suc c.loop-word.word-index) c.args.words.now)) (contents_of all)) (sym pushed)
          (holds_more (g.F.Files.known c.args.files.now) c.args.words.now c.loop-word.loaded.items c.load.new.into c.loop-word.word-index c.word-item.result c.loop-word.invariant.loaded (omega arith)
          (appended _ _ _ _ c.new-bytes.ensures.items here)));
    }

-- what this load leaves asked for, where its name is among that
asked_here : (g : _) (c : After-load g) → c.loop-word.word-index < length c.args.words.now → g.F.Files.asked c.load.new.self ≡ g.F.Files.asked c.loop-word.files ++ c.as_str.result.now ∷ [] → AskedForFirst (names c.args.words.now) (g.F.Files.asked c.args.files.now) (g.F.Files.asked c.load.new.self)
asked_here g c below told =
    first_before c.args.words.now (suc c.loop-word.word-index) (g.F.Files.asked c.args.files.now) (g.F.Files.asked c.load.new.self)
    (asked_again (g.F.Files.asked c.args.files.now) c.args.words.now c.loop-word.word-index c.word-item.result _ _ below c.loop-word.invariant.asked (told ∙ ap (λ n. g.F.Files.asked c.loop-word.files ++ n ∷ []) (name_here g c)))

pub returns-in_err-load-clause-first : goal.returns-in_err-load-clause-first
returns-in_err-load-clause-first g c = λ is.
    let at = (goal.at.returns-in_err-load-clause-first g c).After-load in
    let below : c.loop-word.word-index < length c.args.words.now = omega arith in
    elim c.in_err-load.ensures.grown [
      | inl same ↦ first_before c.args.words.now c.loop-word.word-index (g.F.Files.asked c.args.files.now) (g.F.Files.asked c.load.new.self) (same ∙ c.loop-word.invariant.asked)
      | inr more ↦ asked_here g at below more
    ]

pub returns-then-is_err-clause-first : goal.returns-then-is_err-clause-first
returns-then-is_err-clause-first g c = λ is.
    let at = (goal.at.returns-then-is_err-clause-first g c).After-load in
    let below : c.loop-word.word-index < length c.args.words.now = omega arith in
    asked_here g at below (c.in_ok-load.ensures.asked (λ out. absurd (cc)))
