-- What loops flow, and the ways through them.
use Rattle.std.proofs.Common.{◌≡◌, ◌↔◌, ◌⊎◌, inl, inr, ⊎_elim, pos, List, [], ◌∷◌, ◌++◌, Some, refl, sym, ap, ap₂, subst, ◌∙◌}
use Rattle.std.specs.Prelude.{IsTrue, ◌==◌}
use Rattle.std.specs.List.{filter_map}
use Rattle.spx_core.specs.declared.entity.VarId.{VarId}
use Rattle.spx_core.specs.declared.name.CoreName.{CoreName}
use Rattle.spx_core.specs.Uses.{is_same}
use Rattle.spx_core.specs.Reads.{names_step}
use Rattle.spx_core.specs.Effects.{Effect, Read, assign, effect, next, nothing, read_of, repeat}
use Rattle.spx_core.specs.Flow.{MayFlow, Steps, stay, advance}
use Rattle.spx_core.specs.Marks.{marked}
use Rattle.spx_core.specs.Ways.{Free, Goes, Reaches}
use Rattle.spx_core.proofs.Callers.Expressions.{fold-Name, fold-Number}
use Rattle.spx_examples.specs.Flag.{y}
use Rattle.spx_examples.specs.Increment.{place, x, x_at}
use Rattle.spx_examples.specs.Loops.{copying_after, copying_in, deciding, m, passing_on, passing_turn_by_turn, z_at}
use Rattle.spx_examples.specs.Operators.{true_at}
use Rattle.spx_examples.specs.VariableRules.{z}
use Rattle.spx_examples.specs.Variants.{local_y_at as y_at}
use Rattle.spx_examples.proofs.EffectLists.{first_reads_are, skips_is}
use Rattle.spx_examples.proofs.Findings.{test_reads}
use Rattle.spx_examples.proofs.Lists.{Among, or_none, same_is}

-- ---- effects

-- what gives this variable a value, and no more
abbrev last : Effect → Effect
last e = next e nothing

-- `X := 1`
abbrev setting : Effect
setting = assign (Some x) [] (place 6 7)

-- `while Y > 0`
abbrev where_positive : Effect → Effect
where_positive body = repeat ((place 5 10, y) ∷ []) body (place 5 4)

-- the body of a loop with this test, whose first statement has this value
abbrev decided : (rest : Effect) → (test value : List CoreName) → Effect
decided rest test value = repeat (filter_map read_of test) (next (assign (Some x) (filter_map read_of (value ++ [])) (place 6 7)) rest) (place 5 4)

deciding_effect : effect deciding ≡ where_positive (last setting)
deciding_effect = ap₂ (decided nothing) (test_reads (place 5 12) (place 5 14) (y_at 5 10)) (fold-Number names_step (pos 1) (place 6 12))

after_effect : effect copying_after ≡ next (where_positive (last setting)) (last (assign (Some y) ((place 8 9, x) ∷ []) (place 8 4)))
after_effect = ap₂ (λ loop names. next loop (last (assign (Some y) (filter_map read_of (names ++ [])) (place 8 4)))) deciding_effect (fold-Name names_step (x_at 8 9))

in_effect : effect copying_in ≡ where_positive (next setting (last (assign (Some y) ((place 7 12, x) ∷ []) (place 7 7))))
in_effect =
    ap₂ (decided _) (test_reads (place 5 12) (place 5 14) (y_at 5 10)) (fold-Number names_step (pos 1) (place 6 12))
    ∙ ap (λ names. where_positive (next setting (last (assign (Some y) (filter_map read_of (names ++ [])) (place 7 7))))) (fold-Name names_step (x_at 7 12))

-- `X := Y`, and then something is given to Y
abbrev passing_from : List Read → Effect
passing_from reads = next (assign (Some x) ((place 6 12, y) ∷ []) (place 6 7)) (last (assign (Some y) reads (place 7 7)))

-- `X := Y; Y := Z`
abbrev passing : Effect
passing = passing_from ((place 7 12, z) ∷ [])

passing_effect : effect passing_on ≡ passing
passing_effect =
    ap₂ (λ first second. next (assign (Some x) (filter_map read_of (first ++ [])) (place 6 7)) (last (assign (Some y) (filter_map read_of (second ++ [])) (place 7 7))))
    (fold-Name names_step (y_at 6 12)) (fold-Name names_step (z_at 7 12))

turns_effect : effect passing_turn_by_turn ≡ repeat [] passing (place 5 4)
turns_effect = ap₂ (λ test body. repeat (filter_map read_of test) body (place 5 4)) (fold-Name names_step (true_at 5 10)) passing_effect

-- ---- flow

-- a turn takes Y nowhere
turn_stays : (v : VarId) → MayFlow (last setting) y v → y ≡ v
turn_stays v (w, inl read, is) = absurd (let none = read.1 in cc)
turn_stays v (w, inr kept, is) = kept.1 ∙ is

turns_stay : (u v : VarId) → y ≡ u → Steps (MayFlow (last setting)) u v → y ≡ v
turns_stay u v is stay = is
turns_stay u v is (advance {v = w} step more) = turns_stay w v (turn_stays w (subst (λ a. MayFlow (last setting) a w) (sym is) step)) more

y_comes : (v : VarId) → MayFlow (where_positive (last setting)) y v → (v ≡ x) ⊎ (v ≡ y)
y_comes v (inl (inl turns)) = inr (sym (turns_stay y v refl turns))
y_comes v (inl (inr tested)) = inl (sym ((same_is x v).0 (sym (or_none (0 == v.0)) ∙ tested.0)))
y_comes v (inr (u, turns, inl (inl none))) = absurd none
y_comes v (inr (u, turns, inl (inr later))) = absurd later.2
y_comes v (inr (u, turns, inr (set, inl none))) = absurd none
y_comes v (inr (u, turns, inr (set, inr later))) = absurd later.2

pub decides : (v : VarId) → MayFlow (effect deciding) y v ↔ ((v ≡ x) ⊎ (v ≡ y))
decides v = subst (λ e. MayFlow e y v ↔ ((v ≡ x) ⊎ (v ≡ y))) (sym deciding_effect) (
  y_comes v,
  λ h. ⊎_elim (λ is. subst (MayFlow (where_positive (last setting)) y) (sym is) (inl (inr (refl, y, stay, refl)))) (λ is. subst (MayFlow (where_positive (last setting)) y) (sym is) (inl (inl stay))) h,
)

-- from Z to X there is no flow in one turn
not_in_one : ¬ MayFlow passing z x
not_in_one (v, inl read, rest) = absurd (let none = read.1 in cc)
not_in_one (v, inr kept, (w, inl read, is)) = absurd (let other = subst (λ a. IsTrue (is_same a (Some y))) is read.0 in cc)
not_in_one (v, inr kept, (w, inr past, is)) = absurd (let same = kept.1 ∙ past.1 ∙ is in cc)

pub one_turn : ¬ MayFlow (effect passing_on) z x
one_turn flow = not_in_one (subst (λ e. MayFlow e z x) passing_effect flow)

-- Y comes to X, whatever is given to it after that
y_to_x : (reads : List Read) → MayFlow (passing_from reads) y x
y_to_x reads = (x, inl (refl, refl), (x, inr (refl, refl), refl))

pub two_turns : MayFlow (effect passing_turn_by_turn) z x
two_turns = subst (λ e. MayFlow e z x) (sym turns_effect) (inl (inl (advance (z, inr (refl, refl), (y, inl (refl, refl), refl)) (advance (y_to_x ((place 7 12, z) ∷ [])) stay))))

pub mark_arrives : MayFlow (marked (place 7 7) m (effect passing_turn_by_turn)) m x
mark_arrives = subst (λ e. MayFlow (marked (place 7 7) m e) m x) (sym turns_effect) (inl (inl (advance (m, inr (refl, refl), (y, inl (refl, refl), refl)) (advance (y_to_x ((place 7 7, m) ∷ (place 7 12, z) ∷ [])) stay))))

-- ---- ways

pub past : Free (Goes (effect deciding)) x
past = subst (λ e. Free (Goes e) x) (sym deciding_effect) ((skips_is x (where_positive (last setting)) refl).0 refl)

pub read_after : Free (Reaches (effect copying_after) (place 8 9) x) x
read_after = subst (λ e. Free (Reaches e (place 8 9) x) x) (sym after_effect) ((first_reads_are (next (where_positive (last setting)) (last (assign (Some y) ((place 8 9, x) ∷ []) (place 8 4)))) refl (place 8 9) x).0 (inr (inl refl)))

-- the only read before X is set is that of Y
not_among : ¬ Among {A = Read} ((place 5 10, y) ∷ []) (place 7 12, x)
not_among h = ⊎_elim (λ is. let other : 1 ≡ 0 = ap (λ (r : Read). r.1.0) is in absurd (cc)) (λ none. none) h

pub read_in : ¬ Free (Reaches (effect copying_in) (place 7 12) x) x
read_in h = not_among ((first_reads_are (where_positive (next setting (last (assign (Some y) ((place 7 12, x) ∷ []) (place 7 7))))) refl (place 7 12) x).1 (subst (λ e. Free (Reaches e (place 7 12) x) x) in_effect h))
