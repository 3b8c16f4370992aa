-- Sizes of terms at each form, and counts that end.
use Rattle.std.proofs.Common.{◌≡◌, ℕ, ℤ, ◌+◌, ◌<◌, Bool, arith}
use Rattle.spx_term.specs.declared.term.Name.{Name}
use Rattle.spx_term.specs.declared.term.Term.{Term}
use Rattle.spx_term.specs.declared.term.Term.TheVariants.{Number, Truth, Variable, Blank, Prefix, Infix, Unary, Binary, Ternary}
use Rattle.spx_term.specs.declared.term.TermOp.{TermOp}
use Rattle.spx_term.specs.declared.term.TermPrefix.{TermPrefix}
use Rattle.spx_term.specs.declared.term.UnaryOp.{UnaryOp}
use Rattle.spx_term.specs.declared.term.BinaryOp.{BinaryOp}
use Rattle.spx_term.specs.declared.term.TernaryOp.{TernaryOp}
use Rattle.spx_term.specs.Sizes.{own_size, size_step, size_of}
use Rattle.spx_term.proofs.Terms.{induct, fold-Number, fold-Truth, fold-Variable, fold-Prefix, fold-Infix, fold-Blank, fold-Unary, fold-Binary, fold-Ternary}
use Rattle.spx_arena.specs.Counts.{counted}

pub size-Number : (n : ℤ) → size_of (Number n) ≡ 1
unfolding size_of
size-Number n = fold-Number size_step n

pub size-Truth : (b : Bool) → size_of (Truth b) ≡ 1
unfolding size_of
size-Truth b = fold-Truth size_step b

pub size-Variable : (x : Name) → size_of (Variable x) ≡ 1
unfolding size_of
size-Variable x = fold-Variable size_step x

pub size-Prefix : (op : TermPrefix) (a : Term) → size_of (Prefix op a) ≡ size_of a + 1
unfolding size_of
size-Prefix op a = fold-Prefix size_step op a

pub size-Infix : (op : TermOp) (a b : Term) → size_of (Infix op a b) ≡ size_of a + size_of b + 1
unfolding size_of
size-Infix op a b = fold-Infix size_step op a b

pub size-Blank : (id : ℕ) → size_of (Blank id) ≡ 1
unfolding size_of
size-Blank id = fold-Blank size_step id

pub size-Unary : (op : UnaryOp) (a : Term) → size_of (Unary op a) ≡ size_of a + 1
unfolding size_of
size-Unary op a = fold-Unary size_step op a

pub size-Binary : (op : BinaryOp) (a b : Term) → size_of (Binary op a b) ≡ size_of a + size_of b + own_size op
unfolding size_of
size-Binary op a b = fold-Binary size_step op a b

pub size-Ternary : (op : TernaryOp) (a b c : Term) → size_of (Ternary op a b c) ≡ size_of a + size_of b + size_of c + 1
unfolding size_of
size-Ternary op a b c = fold-Ternary size_step op a b c

-- each term has a node
pub positive : (t : Term) → 0 < size_of t
positive = induct (λ t. 0 < size_of t) (record {
  number = λ n. omega (arith, size-Number n);
  truth = λ b. omega (arith, size-Truth b);
  variable = λ name. omega (arith, size-Variable name);
  blank = λ id. omega (arith, size-Blank id);
  prefix = λ o a p. omega (arith, size-Prefix o a);
  «infix» = λ o a b p q. omega (arith, size-Infix o a b);
  unary = λ o a p. omega (arith, size-Unary o a);
  binary = λ o a b p q. omega (arith, size-Binary o a b);
  ternary = λ o a b c p q r. omega (arith, size-Ternary o a b c);
})

pub counted_three : (m n k : ℕ) → counted (counted (counted m + counted n) + k) ≡ counted (m + n + k)
counted_three m n k = omega arith

pub counted_four : (m n k : ℕ) → counted (counted (counted (counted m + counted n) + counted k) + 1) ≡ counted (m + n + k + 1)
counted_four m n k = omega arith

pub counted_twice : (m n : ℕ) → counted (counted m + counted n) ≡ counted (m + n)
counted_twice m n = omega arith

pub counted_next : (m : ℕ) → counted (counted m + 1) ≡ counted (m + 1)
counted_next m = omega arith

pub ruleset size_forms = (size-Number, size-Truth, size-Variable, size-Prefix, size-Infix, size-Blank, size-Unary, size-Binary, size-Ternary, counted_three, counted_four, counted_twice, counted_next)
