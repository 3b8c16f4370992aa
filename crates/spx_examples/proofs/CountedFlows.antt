-- What loops that count flow, the ways through them, and their occurrences.
use Rattle.std.proofs.Common.{◌≡◌, inl, inr, ⊎_elim, pos, false, [], ◌∷◌, ◌++◌, Some, None, refl, sym, ap, ap₂, subst, ◌∙◌}
use Rattle.std.specs.List.{filter_map}
use Rattle.spx_core.specs.declared.entity.VarId.{VarId}
use Rattle.spx_core.specs.Commands.{Skip}
use Rattle.spx_core.specs.Uses.{is_same}
use Rattle.spx_core.specs.Reads.{names_step}
use Rattle.spx_core.specs.Effects.{Effect, Read, assign, count, effect, next, nothing, read_of}
use Rattle.spx_core.specs.Flow.{MayFlow}
use Rattle.spx_core.specs.Marks.{Occurs}
use Rattle.spx_core.specs.Ways.{Free, Goes, Reaches}
use Rattle.spx_core.proofs.Callers.Expressions.{fold-Name, fold-Number}
use Rattle.spx_examples.specs.CountedLoops.{each, i, i_at, only, taking_i, up_to_x}
use Rattle.spx_examples.specs.Flag.{x_at, y}
use Rattle.spx_examples.specs.Increment.{place, x}
use Rattle.spx_examples.proofs.EffectLists.{first_reads_are, skips_is}
use Rattle.spx_examples.proofs.Lists.{Among}

-- ---- effects

-- `Y := I`
abbrev taking : Effect
taking = next (assign (Some y) ((place 6 12, i) ∷ []) (place 6 7)) nothing

-- `for I in Positive range 1 .. X`
abbrev up_to : Effect → Effect
up_to body = count i (Some ((place 5 33, x) ∷ [])) body (place 5 4)

taking_effect : effect taking_i ≡ taking
taking_effect = ap (λ names. next (assign (Some y) (filter_map read_of (names ++ [])) (place 6 7)) nothing) (fold-Name names_step (i_at 6 12))

loop_effect : effect (each false up_to_x taking_i) ≡ up_to taking
loop_effect =
    ap₂ (λ low high. count i (Some (filter_map read_of low ++ filter_map read_of high)) (effect taking_i) (place 5 4)) (fold-Number names_step (pos 1) (place 5 28)) (fold-Name names_step (x_at 5 33))
    ∙ ap up_to taking_effect

-- ---- flow

pub to_y : MayFlow (effect (each false up_to_x taking_i)) x y
to_y = subst (λ e. MayFlow e x y) (sym loop_effect) (refl, inr (refl, refl))

pub gone : (u : VarId) → ¬ MayFlow (effect (each false up_to_x taking_i)) u i
gone u flow = absurd (let kept = flow.0 in cc)

-- the bounds do not read I, and give it a new value
not_from : ¬ MayFlow (up_to taking) i y
not_from (other, inr tested) = absurd (let none = tested.1 in cc)
not_from (other, inl (v, inl given, turns)) = absurd (let none = given.1 in cc)
not_from (other, inl (v, inr kept, turns)) = absurd (let same = subst (λ w. is_same w (Some i) ≡ false) (sym kept.1) kept.0 in cc)

pub from_none : ¬ MayFlow (effect (each false up_to_x taking_i)) i y
from_none flow = not_from (subst (λ e. MayFlow e i y) loop_effect flow)

-- ---- ways

pub past_bounds : Free (Goes (effect (each false up_to_x taking_i))) y
past_bounds = (skips_is y (effect (each false up_to_x taking_i)) refl).0 refl

pub not_past : ¬ Free (Goes (effect (each false None taking_i))) y
not_past h = absurd (let skipped = (skips_is y (effect (each false None taking_i)) refl).1 h in cc)

-- the only read before I is set is that of X
not_among : ¬ Among {A = Read} ((place 5 33, x) ∷ []) (place 6 12, i)
not_among h = ⊎_elim (λ is. let other : 0 ≡ 2 = ap (λ (r : Read). r.1.0) is in absurd (cc)) (λ none. none) h

pub read_in : ¬ Free (Reaches (effect (each false up_to_x taking_i)) (place 6 12) i) i
read_in h = not_among ((first_reads_are (up_to taking) refl (place 6 12) i).1 (subst (λ e. Free (Reaches e (place 6 12) i) i) loop_effect h))

pub unset_after : Free (Goes (effect (each false None taking_i))) i
unset_after = (skips_is i (effect (each false None taking_i)) refl).0 refl

-- ---- occurrences

pub occurs : Occurs (effect (each false up_to_x (only Skip))) (place 5 4)
occurs = inl (refl, refl)

pub occurs_not : ¬ Occurs (effect (each false None (only Skip))) (place 5 4)
occurs_not (inl bounds) = absurd (let none = bounds.0 in cc)
occurs_not (inr (inl none)) = none
occurs_not (inr (inr none)) = none
