-- One term in the place of another.
use Rattle.std.specs.Prelude.{ℕ, ◌+◌, Bool, false, ◌||◌, Option, Some, None, if◌then◌else◌}
use Rattle.spx_term.specs.declared.term.Term.{Term, Term-F, fold-Term}
use Rattle.spx_term.specs.declared.term.Term.TheVariants.{Number, Truth, Variable, Blank, Prefix, Infix, Unary, Binary, Ternary}
use Rattle.spx_term.specs.Equality.{same_term}
use Rattle.spx_term.specs.Substitution.{raised, levels}

-- a term as it is, and with b for every a, where it stands under so many quantifiers; and whether there is an a
pub record Change : Type 0 where
  pub before : Term
  pub after : ℕ → Term
  pub found : ℕ → Bool

-- the same for a whole, whose parts have been changed
abbrev pub put : Term → Term → Term → (ℕ → Term) → (ℕ → Bool) → Change
put a b t after found = record {
  before = t;
  after = λ k. if same_term t (raised k a) then raised k b else after k;
  found = λ k. same_term t (raised k a) || found k;
}

-- one level, whose parts are changed so
abbrev pub change_step : Term → Term → Term-F Change → Change
change_step a b (Term-F.Number n) = put a b (Number n) (λ k. Number n) (λ k. false)
change_step a b (Term-F.Truth x) = put a b (Truth x) (λ k. Truth x) (λ k. false)
change_step a b (Term-F.Variable name) = put a b (Variable name) (λ k. Variable name) (λ k. false)
change_step a b (Term-F.Blank id) = put a b (Blank id) (λ k. Blank id) (λ k. false)
change_step a b (Term-F.Prefix op x) = put a b (Prefix op x.before) (λ k. Prefix op (x.after k)) x.found
change_step a b (Term-F.Infix op x y) = put a b (Infix op x.before y.before) (λ k. Infix op (x.after k) (y.after k)) (λ k. x.found k || y.found k)
change_step a b (Term-F.Unary op x) = put a b (Unary op x.before) (λ k. Unary op (x.after k)) x.found
change_step a b (Term-F.Binary op x y) = put a b (Binary op x.before y.before) (λ k. Binary op (x.after k) (y.after k)) (λ k. x.found k || y.found k)
change_step a b (Term-F.Ternary op x y z) = put a b (Ternary op x.before y.before z.before) (λ k. Ternary op (x.after k) (y.after k) (z.after (k + levels op))) (λ k. x.found k || (y.found k || z.found (k + levels op)))

-- a term and what it becomes with b for every a
unfoldable pub change : Term → Term → Term → Change
change a b = fold-Term Change (change_step a b)

-- the term with b for every a, where a occurs
unfoldable pub rewritten : Term → Term → Term → Option Term
rewritten a b t = if (change a b t).found 0 then Some ((change a b t).after 0) else None
