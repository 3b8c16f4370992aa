-- What a term in the place of a name means, also under quantifiers.
use Rattle.std.specs.Prelude.{◌≡◌, ℕ, ◌+◌, Bool, true, false, not, ◌&&◌, ◌||◌, Some, if◌then◌else◌}
use Rattle.spx_term.specs.declared.term.BoundVariable.{BoundVariable}
use Rattle.spx_term.specs.declared.term.Name.{Name}
use Rattle.spx_term.specs.declared.term.Symbol.{Symbol}
use Rattle.spx_term.specs.declared.term.Symbol.TheVariants.{Now, Entry, First, Last, New, Bound}
use Rattle.spx_term.specs.declared.term.TernaryOp.{TernaryOp}
use Rattle.spx_term.specs.declared.term.TernaryOp.TheVariants as ternary
use Rattle.spx_term.specs.declared.term.Term.{Term, Term-F, fold-Term}
use Rattle.spx_term.specs.declared.term.Term.TheVariants.{Number, Truth, Variable, Blank, Prefix, Infix, Unary, Binary, Ternary}
use Rattle.spx_term.specs.Equality.{same_name}
use Rattle.spx_term.specs.Values.{Types}
use Rattle.spx_term.specs.Sorts.{sort_of}
use Rattle.spx_term.specs.Meaning.{Valuation, bound, with_value_at, value_of}
use Rattle.spx_term.specs.Steps.{substituted}

-- ---- closed terms

-- whether a symbol names a value of the program, and not the variable of a quantifier
abbrev pub is_free : Symbol → Bool
is_free (Now n) = true
is_free (Entry n) = true
is_free (First n) = true
is_free (Last n) = true
is_free (New n) = true
is_free (Bound b) = false

-- whether an operation gives a name values of its own
abbrev pub binds : TernaryOp → Name → Bool
binds (ternary.Update id) y = false
binds (ternary.Quantified q b) y = same_name (bound b) y

abbrev pub reads_step : Term-F (Name → Bool) → Name → Bool
reads_step (Term-F.Number n) y = false
reads_step (Term-F.Truth b) y = false
reads_step (Term-F.Variable x) y = same_name x y
reads_step (Term-F.Blank id) y = false
reads_step (Term-F.Prefix op a) y = a y
reads_step (Term-F.Infix op a b) y = a y || b y
reads_step (Term-F.Unary op a) y = a y
reads_step (Term-F.Binary op a b) y = a y || b y
reads_step (Term-F.Ternary op a b c) y = a y || (b y || (not (binds op y) && c y))

-- whether the value of a term depends on that of a name
unfoldable pub reads : Term → Name → Bool
reads = fold-Term (Name → Bool) reads_step

-- a term that reads no variable of a quantifier, but those of its own
abbrev pub IsClosed : Term → Type 0
IsClosed t = (y : Name) → reads t y ≡ true → is_free y.symbol ≡ true

-- ---- depths

-- a quantifier's variable so many levels deeper
abbrev pub deeper : ℕ → BoundVariable → BoundVariable
deeper k b = record { depth = b.depth + k; variable = b.variable }

abbrev pub deeper_symbol : ℕ → Symbol → Symbol
deeper_symbol k (Now n) = Now n
deeper_symbol k (Entry n) = Entry n
deeper_symbol k (First n) = First n
deeper_symbol k (Last n) = Last n
deeper_symbol k (New n) = New n
deeper_symbol k (Bound b) = Bound (deeper k b)

abbrev pub deeper_name : ℕ → Name → Name
deeper_name k name = record { symbol = deeper_symbol k name.symbol; sort = name.sort }

abbrev pub deeper_op : ℕ → TernaryOp → TernaryOp
deeper_op k (ternary.Update id) = ternary.Update id
deeper_op k (ternary.Quantified q b) = ternary.Quantified q (deeper k b)

abbrev pub raised_step : ℕ → Term-F Term → Term
raised_step k (Term-F.Number n) = Number n
raised_step k (Term-F.Truth b) = Truth b
raised_step k (Term-F.Variable name) = Variable (deeper_name k name)
raised_step k (Term-F.Blank id) = Blank id
raised_step k (Term-F.Prefix op a) = Prefix op a
raised_step k (Term-F.Infix op a b) = Infix op a b
raised_step k (Term-F.Unary op a) = Unary op a
raised_step k (Term-F.Binary op a b) = Binary op a b
raised_step k (Term-F.Ternary op a b c) = Ternary (deeper_op k op) a b c

-- the term under so many more quantifiers
unfoldable pub raised : ℕ → Term → Term
raised k = fold-Term Term (raised_step k)

-- how many quantifiers an operation puts around its last part
abbrev pub levels : TernaryOp → ℕ
levels (ternary.Update id) = 0
levels (ternary.Quantified q b) = 1

-- one level, whose parts have t in the place of x, under k quantifiers
abbrev pub put_step : Name → Term → Term-F (ℕ → Term) → ℕ → Term
put_step x t (Term-F.Number n) k = Number n
put_step x t (Term-F.Truth b) k = Truth b
put_step x t (Term-F.Variable y) k = if same_name x y then raised k t else Variable y
put_step x t (Term-F.Blank id) k = Blank id
put_step x t (Term-F.Prefix op a) k = Prefix op (a k)
put_step x t (Term-F.Infix op a b) k = Infix op (a k) (b k)
put_step x t (Term-F.Unary op a) k = Unary op (a k)
put_step x t (Term-F.Binary op a b) k = Binary op (a k) (b k)
put_step x t (Term-F.Ternary op a b c) k = Ternary op (a k) (b k) (c (k + levels op))

-- the term with t in the place of x, where it stands under k quantifiers
unfoldable pub put_under : ℕ → Name → Term → Term → Term
put_under k x t u = fold-Term (ℕ → Term) (put_step x t) u k

-- the term with t in the place of x; where x stands under quantifiers, those of t are so much deeper
abbrev pub put : Name → Term → Term → Term
put = put_under 0

-- ---- laws

-- with t in the place of x a term has the value that it has where x has the value of t
abbrev pub PutIsMeant : Type 0
PutIsMeant = (types : Types) (x : Name) (t u : Term) → is_free x.symbol ≡ true → IsClosed t → (v : Valuation) → value_of types v (put x t u) ≡ value_of types (with_value_at v x (value_of types v t)) u

-- so has the term where t stands as it is, which is what conditions are made with
abbrev pub SubstitutionIsMeant : Type 0
SubstitutionIsMeant =
    (types : Types) (x : Name) (t u : Term) → is_free x.symbol ≡ true → IsClosed t → (v : Valuation) →
    value_of types v (substituted x t u) ≡ value_of types (with_value_at v x (value_of types v t)) u

-- and its sort, where t has the sort of x
abbrev pub SubstitutionKeepsSorts : Type 0
SubstitutionKeepsSorts = (types : Types) (x : Name) (t u : Term) → sort_of types t ≡ Some x.sort → sort_of types (substituted x t u) ≡ sort_of types u
