use Rattle.std.proofs.Common.{◌≡◌, ◌*ℤ◌, rules}
use Rattle.std.proofs.lemmas.Int.{to_z-of_z}
use Rattle.spx_simplify.specs.Wide.{wide}
use Rattle.spx_simplify.proofs.Widths.{product_is}
use Rattle.spx_simplify.proofs.products.product.Goals as goal

pub returns : goal.returns
returns c =
    let first : c.times.result ≡ wide (c.in-Some.a *ℤ c.in-Some-low.c) = search (rules, to_z-of_z) in
    let second : c.times-2.result ≡ wide (c.in-Some.a *ℤ c.in-Some-high-2.d) = search (rules, to_z-of_z) in
    let third : c.times-3.result ≡ wide (c.in-Some-high.b *ℤ c.in-Some-low.c) = search (rules, to_z-of_z) in
    let fourth : c.times-4.result ≡ wide (c.in-Some-high.b *ℤ c.in-Some-high-2.d) = search (rules, to_z-of_z) in
    product_is c.args.left c.args.right c.among.result c.in-Some.a c.in-Some-high.b c.in-Some-low.c c.in-Some-high-2.d c.times.result c.times-2.result c.times-3.result c.times-4.result
    c.in-Some.is c.in-Some-high.is c.in-Some-low.is c.in-Some-high-2.is first second third fourth c.among.ensures.low c.among.ensures.high
