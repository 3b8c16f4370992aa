-- Terms in which all names have the terms of a state, at each form.
use Rattle.std.proofs.Common.{◌≡◌, ℕ, ℤ, Bool}
use Rattle.spx_term.specs.declared.term.Name.{Name}
use Rattle.spx_term.specs.declared.term.TermOp.{TermOp}
use Rattle.spx_term.specs.declared.term.TermPrefix.{TermPrefix}
use Rattle.spx_term.specs.declared.term.UnaryOp.{UnaryOp}
use Rattle.spx_term.specs.declared.term.BinaryOp.{BinaryOp}
use Rattle.spx_term.specs.declared.term.TernaryOp.{TernaryOp}
use Rattle.spx_term.specs.declared.term.Term.{Term}
use Rattle.spx_term.specs.declared.term.Term.TheVariants.{Number, Truth, Variable, Blank, Prefix, Infix, Unary, Binary, Ternary}
use Rattle.spx_term.proofs.Terms.{fold-Number, fold-Truth, fold-Variable, fold-Blank, fold-Prefix, fold-Infix, fold-Unary, fold-Binary, fold-Ternary}
use Rattle.spx_steps.specs.ConditionWalk.{State, applied_step, applied}

pub applied-Number : (s : State) (n : ℤ) → applied s (Number n) ≡ Number n
unfolding applied
applied-Number s n = fold-Number (applied_step s) n

pub applied-Truth : (s : State) (b : Bool) → applied s (Truth b) ≡ Truth b
unfolding applied
applied-Truth s b = fold-Truth (applied_step s) b

pub applied-Variable : (s : State) (x : Name) → applied s (Variable x) ≡ s x
unfolding applied
applied-Variable s x = fold-Variable (applied_step s) x

pub applied-Prefix : (s : State) (op : TermPrefix) (a : Term) → applied s (Prefix op a) ≡ Prefix op (applied s a)
unfolding applied
applied-Prefix s op a = fold-Prefix (applied_step s) op a

pub applied-Infix : (s : State) (op : TermOp) (a b : Term) → applied s (Infix op a b) ≡ Infix op (applied s a) (applied s b)
unfolding applied
applied-Infix s op a b = fold-Infix (applied_step s) op a b

pub applied-Blank : (s : State) (id : ℕ) → applied s (Blank id) ≡ Blank id
unfolding applied
applied-Blank s id = fold-Blank (applied_step s) id

pub applied-Unary : (s : State) (op : UnaryOp) (a : Term) → applied s (Unary op a) ≡ Unary op (applied s a)
unfolding applied
applied-Unary s op a = fold-Unary (applied_step s) op a

pub applied-Binary : (s : State) (op : BinaryOp) (a b : Term) → applied s (Binary op a b) ≡ Binary op (applied s a) (applied s b)
unfolding applied
applied-Binary s op a b = fold-Binary (applied_step s) op a b

pub applied-Ternary : (s : State) (op : TernaryOp) (a b c : Term) → applied s (Ternary op a b c) ≡ Ternary op (applied s a) (applied s b) (applied s c)
unfolding applied
applied-Ternary s op a b c = fold-Ternary (applied_step s) op a b c
