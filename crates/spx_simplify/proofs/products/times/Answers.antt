use Rattle.std.proofs.Common.{◌≡◌, true, false, pos, ◌*ℤ◌, int_lt, FitsSigned, sym, ◌∙◌, cond, rules}
use Rattle.std.proofs.lemmas.Int.{to_z-of_z}
use Rattle.std.specs.Int.{w128}
use Rattle.spx_simplify.specs.declared.products.Wide.TheVariants.{Above, Below}
use Rattle.spx_simplify.proofs.Widths.{wide_within, wide_times, not_fits}
use Rattle.spx_simplify.proofs.products.times.Goals as goal

pub returns-in-Ok : goal.returns-in-Ok
returns-in-Ok c = search (rules, to_z-of_z, wide_within)

pub returns-then-b-lt0 : goal.returns-then-b-lt0
returns-then-b-lt0 c =
    let a : int_lt c.args.a (pos 0) ≡ true = search (rules, to_z-of_z) in
    let b : int_lt c.args.b (pos 0) ≡ true = search (rules, to_z-of_z) in
    let other : FitsSigned w128 (c.args.a *ℤ c.args.b) → ⊥ = search (rules, to_z-of_z) in
    sym (wide_times c.args.a c.args.b (not_fits (c.args.a *ℤ c.args.b) other) ∙ (λ i. cond (a i) (cond (b i) Above Below) (cond (b i) Below Above)))

pub returns-else-b-lt0 : goal.returns-else-b-lt0
returns-else-b-lt0 c =
    let a : int_lt c.args.a (pos 0) ≡ true = search (rules, to_z-of_z) in
    let b : int_lt c.args.b (pos 0) ≡ false = search (rules, to_z-of_z) in
    let other : FitsSigned w128 (c.args.a *ℤ c.args.b) → ⊥ = search (rules, to_z-of_z) in
    sym (wide_times c.args.a c.args.b (not_fits (c.args.a *ℤ c.args.b) other) ∙ (λ i. cond (a i) (cond (b i) Above Below) (cond (b i) Below Above)))

pub returns-then-b-lt0-2 : goal.returns-then-b-lt0-2
returns-then-b-lt0-2 c =
    let a : int_lt c.args.a (pos 0) ≡ false = search (rules, to_z-of_z) in
    let b : int_lt c.args.b (pos 0) ≡ true = search (rules, to_z-of_z) in
    let other : FitsSigned w128 (c.args.a *ℤ c.args.b) → ⊥ = search (rules, to_z-of_z) in
    sym (wide_times c.args.a c.args.b (not_fits (c.args.a *ℤ c.args.b) other) ∙ (λ i. cond (a i) (cond (b i) Above Below) (cond (b i) Below Above)))

pub returns-else-b-lt0-2 : goal.returns-else-b-lt0-2
returns-else-b-lt0-2 c =
    let a : int_lt c.args.a (pos 0) ≡ false = search (rules, to_z-of_z) in
    let b : int_lt c.args.b (pos 0) ≡ false = search (rules, to_z-of_z) in
    let other : FitsSigned w128 (c.args.a *ℤ c.args.b) → ⊥ = search (rules, to_z-of_z) in
    sym (wide_times c.args.a c.args.b (not_fits (c.args.a *ℤ c.args.b) other) ∙ (λ i. cond (a i) (cond (b i) Above Below) (cond (b i) Below Above)))
