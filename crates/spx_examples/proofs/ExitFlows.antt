-- What loops with exits flow, and the ways through them.
use Rattle.std.proofs.Common.{◌≡◌, ◌||◌, ◌==◌, true, false, inl, inr, pos, List, [], ◌∷◌, ◌++◌, Some, refl, sym, ap, ap₂, subst, ◌∙◌}
use Rattle.std.specs.List.{filter_map}
use Rattle.std.proofs.Math.Bool.{or-true}
use Rattle.std.proofs.lemmas.List.Folds.{list_any-append}
use Rattle.spx_core.specs.declared.entity.VarId.{VarId}
use Rattle.spx_core.specs.declared.name.CoreName.{CoreName}
use Rattle.spx_core.specs.Formals.{stands_in}
use Rattle.spx_core.specs.Uses.{is_same}
use Rattle.spx_core.specs.Reads.{names_step}
use Rattle.spx_core.specs.Effects.{Effect, assign, effect, endless, exit, next, nothing, read_of}
use Rattle.spx_core.specs.Flow.{MayFlow, stay, advance}
use Rattle.spx_core.specs.Ways.{Free, Goes, Reaches, no_turn}
use Rattle.spx_core.proofs.Callers.Expressions.{fold-Name, fold-Number}
use Rattle.spx_examples.specs.Exits.{after_never_left, exit_first, exit_last, never_left, set_and_exit}
use Rattle.spx_examples.specs.Flag.{y}
use Rattle.spx_examples.specs.Increment.{place, x, x_at}
use Rattle.spx_examples.specs.Loops.{z_at}
use Rattle.spx_examples.specs.VariableRules.{z}
use Rattle.spx_examples.specs.Variants.{local_y_at as y_at}
use Rattle.spx_examples.proofs.Findings.{test_reads}

-- ---- effects

-- `X := 1`
abbrev setting : Effect
setting = assign (Some x) [] (place 6 7)

-- `exit when Y > 0`
abbrev exiting : Effect
exiting = exit ((place 5 10, y) ∷ []) nothing nothing (place 6 7)

-- what an exit reads, and the value of X
abbrev first_with : (test value : List CoreName) → Effect
first_with test value = endless (next (exit (filter_map read_of test) nothing nothing (place 6 7)) (next (assign (Some x) (filter_map read_of (value ++ [])) (place 6 7)) nothing))

first_effect : effect exit_first ≡ endless (next exiting (next setting nothing))
first_effect = ap₂ first_with (test_reads (place 5 12) (place 5 14) (y_at 5 10)) (fold-Number names_step (pos 1) (place 6 12))

abbrev last_with : (test value : List CoreName) → Effect
last_with test value = endless (next (assign (Some x) (filter_map read_of (value ++ [])) (place 6 7)) (next (exit (filter_map read_of test) nothing nothing (place 6 7)) nothing))

abbrev last_body : Effect
last_body = next setting (next exiting nothing)

last_effect : effect exit_last ≡ endless last_body
last_effect = ap₂ last_with (test_reads (place 5 12) (place 5 14) (y_at 5 10)) (fold-Number names_step (pos 1) (place 6 12))

abbrev own_with : (test value : List CoreName) → Effect
own_with test value = endless (next (exit (filter_map read_of test) (next (assign (Some x) (filter_map read_of (value ++ [])) (place 7 10)) (next nothing nothing)) nothing (place 6 7)) nothing)

own_effect : effect set_and_exit ≡ own_with (y_at 5 10 ∷ []) (z_at 7 15 ∷ [])
own_effect = ap₂ own_with (test_reads (place 5 12) (place 5 14) (y_at 5 10)) (fold-Name names_step (z_at 7 15))

after_never_left_effect : effect after_never_left ≡ next (endless (next nothing nothing)) (next (assign (Some y) ((place 8 9, x) ∷ []) (place 8 4)) nothing)
after_never_left_effect = ap (λ names. next (endless (next nothing nothing)) (next (assign (Some y) (filter_map read_of (names ++ [])) (place 8 4)) nothing)) (fold-Name names_step (x_at 8 9))

-- ---- flow

pub from_test : MayFlow (effect exit_first) y x
from_test = subst (λ e. MayFlow e y x) (sym first_effect) (inr (y, stay, inr (refl, inl (inl refl))))

pub own : MayFlow (effect set_and_exit) z x
own = subst (λ e. MayFlow e z x) (sym own_effect) (inr (z, stay, inl (inl (inl (x, inl (refl, refl), (x, refl, refl))))))

-- X is given a value that does not come from it
set_first : (v : VarId) → ¬ MayFlow setting x v
set_first v (inl read) = absurd (let none = read.1 in cc)
set_first v (inr kept) = absurd (let same = subst (λ w. is_same w (Some x) ≡ false) (sym kept.1) kept.0 in cc)

no_turn_from : (v : VarId) → ¬ MayFlow last_body x v
no_turn_from v (w, first, rest) = set_first w first

-- neither a turn nor an exit
not_from : (v : VarId) → ¬ MayFlow (endless last_body) x v
not_from v (inl turns) = absurd (let none = turns.0 in cc)
not_from v (inr (u, advance {v = w} turn more, left)) = no_turn_from w turn
not_from v (inr (u, stay, inl (inl none))) = none
not_from v (inr (u, stay, inl (inr (w, first, rest)))) = set_first w first
not_from v (inr (u, stay, inr (set, inl none))) = none
not_from v (inr (u, stay, inr (set, inr (w, first, rest)))) = set_first w first

pub gone : (v : VarId) → ¬ MayFlow (effect exit_last) x v
gone v flow = not_from v (subst (λ e. MayFlow e x v) last_effect flow)

-- ---- ways

pub unset : Free (Goes (effect exit_first)) x
unset = subst (λ e. Free (Goes e) x) (sym first_effect) ([], ([], [], refl, no_turn, inl (inl refl)), refl)

-- what is set on a part of a way is set on the way
set_in_part : (front middle back : List VarId) → middle ≡ x ∷ [] → stands_in x (front ++ (middle ++ back)) ≡ true
set_in_part front middle back is =
    list_any-append (λ (w : VarId). w.0 == x.0) front (middle ++ back)
    ∙ ap (λ m. stands_in x front || stands_in x (m ++ back)) is
    ∙ or-true (stands_in x front)

-- each exit is after the statement that sets X
sets_on_exit : (way : List VarId) → Goes (endless last_body) way → stands_in x way ≡ true
sets_on_exit way (front, back, is, turns, inl none) = absurd none
sets_on_exit way (front, back, is, turns, inr (set, rest, parts, first, more)) = ap (stands_in x) (is ∙ ap (λ b. front ++ b) parts) ∙ set_in_part front set rest first

pub set : ¬ Free (Goes (effect exit_last)) x
set h =
    let way = subst (λ e. Free (Goes e) x) last_effect h in
    absurd (let both = sym (sets_on_exit way.0 way.1) ∙ way.2 in cc)

pub no_way : (way : List VarId) → ¬ Goes (effect never_left) way
no_way way (front, back, is, turns, inl none) = none
no_way way (front, back, is, turns, inr later) = later.4

no_read_after : (way : List VarId) → ¬ Reaches (next (endless (next nothing nothing)) (next (assign (Some y) ((place 8 9, x) ∷ []) (place 8 4)) nothing)) (place 8 9) x way
no_read_after way (inl (front, back, is, turns, inl none)) = none
no_read_after way (inl (front, back, is, turns, inr later)) = later.4
no_read_after way (inr (front, back, is, past, read)) = no_way front past

pub no_read : ¬ Free (Reaches (effect after_never_left) (place 8 9) x) x
no_read h = let way = subst (λ e. Free (Reaches e (place 8 9) x) x) after_never_left_effect h in no_read_after way.0 way.1
