use Rattle.std.proofs.Common.{◌∙◌, ◌+◌, ◌*◌, ◌<◌, ap, arith, rules, sym}
use Rattle.std.proofs.lemmas.Int.{to_z-of_z}
use Rattle.std.specs.Int.{w128}
use Rattle.spx_term.specs.declared.term.Term.TheVariants.{Binary, Infix, Number, Prefix, Ternary, Unary}
use Rattle.spx_arena.specs.Sharing.{tree_at}
use Rattle.spx_arena.proofs.Growth.{is_kept}
use Rattle.spx_steps.specs.ConditionWalk.{applied}
use Rattle.spx_steps.specs.Walks.{state}
use Rattle.spx_steps.proofs.ConditionTerms.{applied-Binary, applied-Blank, applied-Infix, applied-Number, applied-Prefix, applied-Ternary, applied-Truth, applied-Unary, applied-Variable}
use Rattle.spx_steps.proofs.SharedSteps.{after_keep, after_make, only_not, only_twice, stands_before}
use Rattle.spx_steps.proofs.walk.Walk.+value_of.Goals as goal

pub made_of-value_of-requires-in-Infix-2 : goal.made_of-value_of-requires-in-Infix-2
made_of-value_of-requires-in-Infix-2 t c =
    let below = c.in-Infix.ensures.below in
    let within = c.requires.within in
    let right = below.1 in
    let falls : 4 * c.in-Infix.right.0 + 3 < 4 * c.args.id.0 = omega (arith, right) in
    (search (rules, falls), (c.in_ok-left-in-Infix.ensures.only.ready, omega (arith, right, within)))

pub made_of-value_of-requires-in-Binary-2 : goal.made_of-value_of-requires-in-Binary-2
made_of-value_of-requires-in-Binary-2 t c =
    let below = c.in-Binary.ensures.below in
    let within = c.requires.within in
    let right = below.1 in
    let falls : 4 * c.in-Binary.right.0 + 3 < 4 * c.args.id.0 = omega (arith, right) in
    (search (rules, falls), (c.in_ok-left-in-Binary.ensures.only.ready, omega (arith, right, within)))

pub made_of-value_of-requires-in-Ternary-2 : goal.made_of-value_of-requires-in-Ternary-2
made_of-value_of-requires-in-Ternary-2 t c =
    let below = c.in-Ternary.ensures.below in
    let within = c.requires.within in
    let second = below.1 in
    let falls : 4 * c.in-Ternary.second.0 + 3 < 4 * c.args.id.0 = omega (arith, second) in
    (search (rules, falls), (c.in_ok-first-in-Ternary.ensures.only.ready, omega (arith, second, within)))

pub made_of-value_of-requires-in-Ternary-3 : goal.made_of-value_of-requires-in-Ternary-3
made_of-value_of-requires-in-Ternary-3 t c =
    let below = c.in-Ternary.ensures.below in
    let within = c.requires.within in
    let third = below.2 in
    let falls : 4 * c.in-Ternary.third.0 + 3 < 4 * c.args.id.0 = omega (arith, third) in
    (search (rules, falls), (c.in_ok-second-in-Ternary.ensures.only.ready, omega (arith, third, within)))

pub made_of-returns-in_ok-made-in-Number : goal.made_of-returns-in_ok-made-in-Number
made_of-returns-in_ok-made-in-Number t c =
    let s = state c.args.self.now in
    let x = c.in-Number in
    let m = c.in_ok-made-in-Number.ensures in
    after_make (only_not c.requires.ready) m.grown m.made (ap Number (to_z-of_z w128 x.value (search rules)) ∙ sym (applied-Number s x.value) ∙ ap (applied s) (sym x.ensures.tree))

pub made_of-returns-in_ok-made-in-Truth : goal.made_of-returns-in_ok-made-in-Truth
made_of-returns-in_ok-made-in-Truth t c =
    let s = state c.args.self.now in
    let x = c.in-Truth in
    let m = c.in_ok-made-in-Truth.ensures in
    after_make (only_not c.requires.ready) m.grown m.made (sym (applied-Truth s x.value) ∙ ap (applied s) (sym x.ensures.tree))

pub made_of-returns-in_ok-made-in-Variable : goal.made_of-returns-in_ok-made-in-Variable
made_of-returns-in_ok-made-in-Variable t c =
    let s = state c.args.self.now in
    let x = c.in-Variable in
    let m = c.in_ok-made-in-Variable.ensures in
    after_make (only_not c.requires.ready) m.grown m.made (sym (applied-Variable s x.name) ∙ ap (applied s) (sym x.ensures.tree))

pub made_of-returns-in_ok-made-in-Prefix : goal.made_of-returns-in_ok-made-in-Prefix
made_of-returns-in_ok-made-in-Prefix t c =
    let s = state c.args.self.now in
    let x = c.in-Prefix in
    let v = c.in_ok-operand-in-Prefix.ensures in
    let m = c.in_ok-made-in-Prefix.ensures in
    after_make v.only m.grown m.made (ap (Prefix x.op) v.is.tree ∙ sym (applied-Prefix s x.op (tree_at c.args.names.now x.operand)) ∙ ap (applied s) (sym x.ensures.tree))

pub made_of-returns-in_ok-made-in-Infix : goal.made_of-returns-in_ok-made-in-Infix
made_of-returns-in_ok-made-in-Infix t c =
    let names = c.args.names.now in
    let s = state c.args.self.now in
    let x = c.in-Infix in
    let v = c.in_ok-left-in-Infix.ensures in
    let u = c.in_ok-right-in-Infix.ensures in
    let m = c.in_ok-made-in-Infix.ensures in
    let right = stands_before c.requires.ready v.only x.right u.is in
    after_make (only_twice v.only u.only) m.grown m.made ((λ k. Infix x.op ((is_kept v.is u.only.grown).tree k) (right.tree k)) ∙ sym (applied-Infix s x.op (tree_at names x.left) (tree_at names x.right)) ∙ ap (applied s) (sym x.ensures.tree))

pub made_of-returns-in_ok-made-in-Blank : goal.made_of-returns-in_ok-made-in-Blank
made_of-returns-in_ok-made-in-Blank t c =
    let s = state c.args.self.now in
    let x = c.in-Blank in
    let m = c.in_ok-made-in-Blank.ensures in
    after_make (only_not c.requires.ready) m.grown m.made (sym (applied-Blank s x.id) ∙ ap (applied s) (sym x.ensures.tree))

pub made_of-returns-in_ok-made-in-Unary : goal.made_of-returns-in_ok-made-in-Unary
made_of-returns-in_ok-made-in-Unary t c =
    let s = state c.args.self.now in
    let x = c.in-Unary in
    let v = c.in_ok-operand-in-Unary.ensures in
    let m = c.in_ok-made-in-Unary.ensures in
    after_make v.only m.grown m.made (ap (Unary x.op) v.is.tree ∙ sym (applied-Unary s x.op (tree_at c.args.names.now x.operand)) ∙ ap (applied s) (sym x.ensures.tree))

pub made_of-returns-in_ok-made-in-Binary : goal.made_of-returns-in_ok-made-in-Binary
made_of-returns-in_ok-made-in-Binary t c =
    let names = c.args.names.now in
    let s = state c.args.self.now in
    let x = c.in-Binary in
    let v = c.in_ok-left-in-Binary.ensures in
    let u = c.in_ok-right-in-Binary.ensures in
    let m = c.in_ok-made-in-Binary.ensures in
    let right = stands_before c.requires.ready v.only x.right u.is in
    after_make (only_twice v.only u.only) m.grown m.made ((λ k. Binary x.op ((is_kept v.is u.only.grown).tree k) (right.tree k)) ∙ sym (applied-Binary s x.op (tree_at names x.left) (tree_at names x.right)) ∙ ap (applied s) (sym x.ensures.tree))

pub made_of-returns-in_ok-made-in-Ternary : goal.made_of-returns-in_ok-made-in-Ternary
made_of-returns-in_ok-made-in-Ternary t c =
    let names = c.args.names.now in
    let s = state c.args.self.now in
    let x = c.in-Ternary in
    let v = c.in_ok-first-in-Ternary.ensures in
    let u = c.in_ok-second-in-Ternary.ensures in
    let w = c.in_ok-third-in-Ternary.ensures in
    let m = c.in_ok-made-in-Ternary.ensures in
    let two = only_twice v.only u.only in
    let first = is_kept (is_kept v.is u.only.grown) w.only.grown in
    let second = is_kept (stands_before c.requires.ready v.only x.second u.is) w.only.grown in
    let third = stands_before c.requires.ready two x.third w.is in
    after_make (only_twice two w.only) m.grown m.made
    ((λ k. Ternary x.op (first.tree k) (second.tree k) (third.tree k)) ∙ sym (applied-Ternary s x.op (tree_at names x.first) (tree_at names x.second) (tree_at names x.third)) ∙ ap (applied s) (sym x.ensures.tree))

pub value_of-returns-in-Some : goal.value_of-returns-in-Some
value_of-returns-in-Some t c = record { only = only_not c.requires.ready; is = c.requires.ready.made c.args.id c.in-Some.known (sym c.in-Some.ensures) }

pub fill-parts-init : goal.fill-parts-init
fill-parts-init t c = only_not c.requires.ready

pub fill-parts-preserved : goal.fill-parts-preserved
fill-parts-preserved t c = only_twice c.parts.invariant c.in_ok-value_of.ensures.only

pub fill-value_of-requires : goal.fill-value_of-requires
fill-value_of-requires t c =
    let within = c.requires.within in
    let here = c.parts-test.true in
    let falls : 4 * c.parts.at + 3 < 4 * c.args.id.0 + 2 = omega (arith, here) in
    (search (rules, falls), (c.parts.invariant.ready, omega (arith, here, within)))

pub fill-kept_of-requires : goal.fill-kept_of-requires
fill-kept_of-requires t c =
    let falls : 4 * c.args.id.0 + 1 < 4 * c.args.id.0 + 2 = omega arith in
    (search (rules, falls), (c.parts.invariant.ready, c.requires.within))

pub fill-returns : goal.fill-returns
fill-returns t c =
    let m = c.in_ok-made.ensures in
    record { only = only_twice c.parts.invariant m.only; is = stands_before c.requires.ready c.parts.invariant c.args.id m.is }

pub kept_of-returns : goal.kept_of-returns
kept_of-returns t c = after_keep c.requires.ready c.in_ok-made.ensures c.set.ensures
