-- The forms of a name are read as that, whatever stands after them that does not go on with it.
use Rattle.std.specs.Prelude.{⊤}
use Rattle.std.proofs.Common.{◌≡◌, ℕ, zero, suc, ◌+◌, ◌-◌, ◌≤◌, ◌<◌, max, Bool, true, false, List, [], ◌∷◌, ◌++◌, map, take, drop, replicate, length, Option, Some, None, refl, sym, ap, ap₂, subst, ◌∙◌, append_assoc, arith}
use Rattle.std.proofs.lemmas.List.{append-nil, take-append-drop, take-map, drop-map, length-replicate, length-map}
use Rattle.spx_text.specs.declared.place.Place.{Place}
use Rattle.spx_tree.specs.declared.token.Kind.{Kind}
use Rattle.spx_tree.specs.declared.token.Kind.TheVariants as k
use Rattle.spx_tree.specs.declared.expression.Identifier.{Identifier}
use Rattle.spx_tree.specs.declared.expression.Layer.{Layer}
use Rattle.spx_tree.specs.declared.expression.Layer.TheVariants as layer
use Rattle.spx_tree.specs.declared.expression.Arguments.{Arguments}
use Rattle.spx_tree.specs.declared.expression.Arguments.TheVariants as arguments_as
use Rattle.spx_tree.specs.declared.expression.NameStep.{NameStep}
use Rattle.spx_tree.specs.declared.expression.NameStep.TheVariants as step
use Rattle.spx_tree.specs.declared.expression.Path.{Path}
use Rattle.spx_tree.specs.declared.expression.Expr.{Expr}
use Rattle.spx_tree.specs.declared.expression.Expr.TheVariants as expr
use Rattle.spx_tree.specs.declared.expression.Expr.TheVariants.{outs-Name}
use Rattle.spx_tree.specs.Form.{Form, Kept, Nothing, Where, Spelled, bare, placed}
use Rattle.spx_tree.specs.Form.{named as named_form}
use Rattle.spx_tree.specs.Written.{joined, following, separated, takes, same_forms, named_parts, written_arguments, written_step, written_steps, written_path, written_expr}
use Rattle.spx_tree.specs.Grammar.{Each, OneOrMore, rank, layer_in, layers_of_step, layers_of, IsStep, AreOf}
use Rattle.spx_parse_body.specs.declared.tall.Tall.{Tall}
use Rattle.spx_parse_body.specs.declared.names.Parts.{Parts}
use Rattle.spx_parse_body.specs.declared.names.TallName.{TallName}
use Rattle.spx_parse_body.specs.declared.names.StepKind.{StepKind}
use Rattle.spx_parse_body.specs.declared.names.StepKind.TheVariants as steps
use Rattle.spx_cursor.specs.Reading.{Reader, peek, is_kind, sees}
use Rattle.spx_parse_body.specs.Expressions.{name_at, alone_in, identifier_in, no_parts, with_part, with_named, one_part, all_named, root_name, with_step, name_alone, step_of, part_step, more_parts, association, named_part, named_step, more_named, positional, named, named_by, arguments_by, arguments, selection, application, qualification, attribute, quotation_by, quotation, entry, step_read, name_step_by, name_step, name_steps, tall_name, name_primary}
use Rattle.spx_parse_body.proofs.Callers.Heights.{tops, height, name_height, Layered, IsUpTo, IsPart, name_is, name_layer}
use Rattle.spx_parse_body.proofs.Callers.Names.{name_text, step_length, are_length, tops_append}
use Rattle.spx_parse_body.proofs.Callers.Shaped.{kind_self}
use Rattle.spx_parse_body.proofs.Callers.Loops.{Shrinks}
use Rattle.spx_parse_body.proofs.Callers.Separated.{not_seen}
use Rattle.spx_parse_body.proofs.Callers.Reaches.{Reaches, reaches_bind, reaches_pure, reaches_choose, reaches_deeper, reaches_expect, reaches_expect_place, reaches_identifier, reaches_is, reaches_turn, reaches_over, peek_front}

-- an expression with its height
abbrev pub measure : Expr → Tall
measure x = record { expr = x; height = height x }

-- the rank of the least layer that a form of this kind goes on with, or a greater number
abbrev pub strength : Option Kind → ℕ
strength (Some k.Dot) = 0
strength (Some k.Apostrophe) = 0
strength (Some k.LeftParenthesis) = 0
strength (Some k.Tilde) = 0
strength (Some k.DoubleAsterisk) = 1
strength (Some k.Asterisk) = 2
strength (Some k.Slash) = 2
strength (Some k.Mod) = 2
strength (Some k.Rem) = 2
strength (Some k.Plus) = 3
strength (Some k.Minus) = 3
strength (Some k.Equal) = 4
strength (Some k.NotEqual) = 4
strength (Some k.Less) = 4
strength (Some k.LessOrEqual) = 4
strength (Some k.Greater) = 4
strength (Some k.GreaterOrEqual) = 4
strength (Some k.In) = 4
strength (Some k.Not) = 4
strength (Some k.DoubleDot) = 4
strength (Some k.And) = 5
strength (Some k.Or) = 5
strength (Some k.Xor) = 5
strength (Some k.Implication) = 6
strength (Some k.Equivalence) = 6
strength _ = 7

-- the next form does not go on with an expression of this layer
abbrev pub Free : Layer → Option Kind → Type 0
Free layer kind = rank layer < strength kind

pub peek_here : (marked : Bool) (kind : Kind) (part : Kept) (fs : List Form) → peek marked (record { kind = kind; marked = marked; kept = part } ∷ fs) ≡ Some kind
peek_here true kind part fs = refl
peek_here false kind part fs = refl

-- an expression of this layer is read, within so many levels
abbrev pub Again : Bool → Reader Tall → ℕ → Layer → Type 0
Again marked p levels layer = (x : Expr) (fs zs : List Form) → height x ≤ levels → Layered x → rank (layer_in x) ≤ rank layer → Free layer (peek marked zs) → fs ≡ written_expr marked x ++ zs → Reaches p fs (measure x) zs

pub bare_past : (marked : Bool) (kind : Kind) (zs : List Form) → strength (Some kind) ≡ 7 → Free layer.Predicate (peek marked (bare marked kind ∷ zs))
bare_past marked kind zs h = let e = ap strength (peek_here marked kind Nothing zs) ∙ h in omega arith

pub bare_free : (marked : Bool) (kind : Kind) (zs : List Form) → strength (Some kind) ≡ 7 → Free layer.Expression (peek marked (bare marked kind ∷ zs))
bare_free marked kind zs h = let past = bare_past marked kind zs h in omega arith

-- ---- arguments

-- an identifier as an expression
abbrev alone : Identifier → Expr
alone root = expr.Name (record { root = root; steps = [] }) []

alone_height : (root : Identifier) → height (alone root) ≡ 0
alone_height root = name_height (record { root = root; steps = [] }) []

alone_in_is : (root : Identifier) → identifier_in (alone root) ≡ Some root
alone_in_is root = ap (λ y. alone_in (name_at y)) (outs-Name (record { root = root; steps = [] }) [])

parts_are : (p : Parts) (names : List Identifier) (exprs : List Expr) (h : ℕ) → p.names ≡ names → p.exprs ≡ exprs → p.height ≡ h → p ≡ record { names = names; exprs = exprs; height = h }
parts_are p names exprs h a b c = ap₂ (λ (x : List Identifier) (y : List Expr). record { names = x; exprs = y; height = p.height }) a b ∙ ap (λ (n : ℕ). record { names = names; exprs = exprs; height = n }) c

-- expressions after others
abbrev parts_from : Parts → List Expr → Parts
parts_from p xs = record { names = p.names; exprs = p.exprs ++ xs; height = max p.height (tops (map height xs)) }

abbrev named_from : Parts → List Identifier → List Expr → Parts
named_from p names xs = record { names = p.names ++ names; exprs = p.exprs ++ xs; height = max p.height (tops (map height xs)) }

parts_end : (p : Parts) → p ≡ parts_from p []
parts_end p = parts_are p p.names (p.exprs ++ []) (max p.height 0) refl (sym (append-nil p.exprs)) (omega arith)

parts_turn : (p : Parts) (x : Expr) (xs : List Expr) → parts_from (with_part p (measure x)) xs ≡ parts_from p (x ∷ xs)
parts_turn p x xs =
    parts_are (parts_from (with_part p (measure x)) xs) p.names (p.exprs ++ x ∷ xs) (max p.height (tops (map height (x ∷ xs)))) refl (append_assoc p.exprs (x ∷ []) xs) (omega arith)

named_end : (p : Parts) → p ≡ named_from p [] []
named_end p = parts_are p (p.names ++ []) (p.exprs ++ []) (max p.height 0) (sym (append-nil p.names)) (sym (append-nil p.exprs)) (omega arith)

named_turn : (p : Parts) (name : Identifier) (names : List Identifier) (x : Expr) (xs : List Expr) → named_from (with_named p (name, measure x)) names xs ≡ named_from p (name ∷ names) (x ∷ xs)
named_turn p name names x xs =
    parts_are (named_from (with_named p (name, measure x)) names xs) (p.names ++ name ∷ names) (p.exprs ++ x ∷ xs) (max p.height (tops (map height (x ∷ xs)))) (append_assoc p.names (name ∷ []) names) (append_assoc p.exprs (x ∷ []) xs) (omega arith)

-- the arguments and their expressions, as they are read
abbrev found_arguments : Arguments → List Expr → Arguments × Parts
found_arguments a exprs = (a, record { names = []; exprs = exprs; height = tops (map height exprs) })

each_positional : (count : ℕ) (exprs : List Expr) → AreOf IsPart (replicate count layer.Expression) exprs → Each (IsPart layer.Expression) exprs
each_positional zero [] f = tt
each_positional zero (x ∷ xs) f = absurd f
each_positional (suc n) [] f = absurd f
each_positional (suc n) (x ∷ xs) f = (f.0, each_positional n xs f.1)

each_associated : (names : List Identifier) (exprs : List Expr) → AreOf IsPart (map (λ (name : Identifier). layer.Expression) names) exprs → Each (IsPart layer.Expression) exprs
each_associated [] [] f = tt
each_associated [] (x ∷ xs) f = absurd f
each_associated (n ∷ names) [] f = absurd f
each_associated (n ∷ names) (x ∷ xs) f = (f.0, each_associated names xs f.1)

-- ---- steps

-- a name with more steps
abbrev steps_from : List NameStep → List Expr → TallName → TallName
steps_from ss exprs n = record { path = record { root = n.path.root; steps = n.path.steps ++ ss }; parts = n.parts ++ exprs; height = max n.height (tops (map height exprs)) }

names_are : (n : TallName) (ss : List NameStep) (exprs : List Expr) (h : ℕ) → n.path.steps ≡ ss → n.parts ≡ exprs → n.height ≡ h → n ≡ record { path = record { root = n.path.root; steps = ss }; parts = exprs; height = h }
names_are n ss exprs h a b c =
    ap₂ (λ (x : List NameStep) (y : List Expr). record { path = record { root = n.path.root; steps = x }; parts = y; height = n.height }) a b
    ∙ ap (λ (i : ℕ). record { path = record { root = n.path.root; steps = ss }; parts = exprs; height = i }) c

steps_end : (n : TallName) → n ≡ steps_from [] [] n
steps_end n = names_are n (n.path.steps ++ []) (n.parts ++ []) (max n.height 0) (sym (append-nil n.path.steps)) (sym (append-nil n.parts)) (omega arith)

steps_turn : (s : NameStep) (ss : List NameStep) (own rest parts : List Expr) (n : TallName) → own ++ rest ≡ parts → steps_from ss rest (with_step s own (tops (map height own)) n) ≡ steps_from (s ∷ ss) parts n
steps_turn s ss own rest parts n e =
    let a = tops_append own rest in
    let b = ap (λ (xs : List Expr). tops (map height xs)) e in
    names_are (steps_from ss rest (with_step s own (tops (map height own)) n)) (n.path.steps ++ s ∷ ss) (n.parts ++ parts) (max n.height (tops (map height parts)))
    (append_assoc n.path.steps (s ∷ []) ss) (append_assoc n.parts own rest ∙ ap (λ (xs : List Expr). n.parts ++ xs) e) (omega arith)

are_split : (a b : List Layer) (parts : List Expr) → AreOf IsPart (a ++ b) parts → AreOf IsPart a (take (length a) parts) × AreOf IsPart b (drop (length a) parts)
are_split [] b parts f = (tt, f)
are_split (l ∷ a) b [] f = absurd f
are_split (l ∷ a) b (x ∷ parts) f = let h = are_split a b parts f.1 in ((f.0, h.0), h.1)

-- what goes on with a name as this step
abbrev kind_of : NameStep → StepKind
kind_of (step.Selected selector) = steps.Selection
kind_of (step.Attribute designator) = steps.Quotation
kind_of (step.Applied place args) = steps.Application
kind_of (step.Qualified place) = steps.Quotation
kind_of step.Entry = steps.Entry

step_seen : (marked : Bool) (s : NameStep) (ws : List (List Form)) (zs : List Form) → step_of (peek marked (written_step marked s ws ++ zs)) ≡ Some (kind_of s)
step_seen marked (step.Selected selector) ws zs = ap step_of (peek_here marked k.Dot Nothing (named_form marked selector ∷ zs))
step_seen marked (step.Attribute designator) ws zs = ap step_of (peek_here marked k.Apostrophe Nothing (named_form marked designator ∷ zs))
step_seen marked (step.Applied place args) ws zs = ap step_of (peek_here marked k.LeftParenthesis (Where place) ((written_arguments marked args ws ++ bare marked k.RightParenthesis ∷ []) ++ zs))
step_seen marked (step.Qualified place) ws zs = ap step_of (peek_here marked k.Apostrophe Nothing (placed marked k.LeftParenthesis place ∷ ((joined ws ++ bare marked k.RightParenthesis ∷ []) ++ zs)))
step_seen marked step.Entry ws zs = ap step_of (peek_here marked k.Tilde Nothing zs)

no_step : (kind : Option Kind) → 0 < strength kind → step_of kind ≡ None
no_step (Some k.Dot) s = absurd (omega arith)
no_step (Some k.Apostrophe) s = absurd (omega arith)
no_step (Some k.LeftParenthesis) s = absurd (omega arith)
no_step (Some k.Tilde) s = absurd (omega arith)
no_step _ s = refl

module _ (marked : Bool) (below : Layer → Reader Tall) (levels : ℕ) (part_shrinks : 0 < levels → Shrinks (sees marked k.Comma) (part_step marked below levels)) (named_shrinks : 0 < levels → Shrinks (sees marked k.Comma) (named_step marked below levels))
    (name_shrinks : Shrinks (peek marked) (name_step marked below levels)) (again : 0 < levels → (layer : Layer) → Again marked (below layer) (levels - 1) layer) where
  -- what closes arguments
  abbrev from_close : List Form → List Form
  from_close zs = bare marked k.RightParenthesis ∷ zs

  close_free : (zs : List Form) → Free layer.Expression (peek marked (from_close zs))
  close_free zs = bare_free marked k.RightParenthesis zs refl

  no_comma : (zs : List Form) → sees marked k.Comma (from_close zs) ≡ false
  no_comma zs = not_seen marked k.Comma (from_close zs) (λ e. let h = peek_here marked k.RightParenthesis Nothing zs in absurd cc)

  comma_here : (zs : List Form) → sees marked k.Comma (bare marked k.Comma ∷ zs) ≡ true
  comma_here zs = ap (is_kind k.Comma) (peek_here marked k.Comma Nothing zs) ∙ kind_self k.Comma

  following_free : (ws : List (List Form)) (zs : List Form) → Free layer.Expression (peek marked (following (bare marked k.Comma) same_forms ws ++ from_close zs))
  following_free [] zs = close_free zs
  following_free (w ∷ ws) zs = bare_free marked k.Comma ((w ++ following (bare marked k.Comma) same_forms ws) ++ from_close zs) refl

  -- an expression between parentheses
  part_again : 0 < levels → (x : Expr) (fs zs : List Form) → height x < levels → IsPart layer.Expression x → Free layer.Expression (peek marked zs) → fs ≡ written_expr marked x ++ zs → Reaches (below layer.Expression) fs (measure x) zs
  part_again some x fs zs low f free e = again some layer.Expression x fs zs (omega arith) f.0 f.1 free e

  more_parts_again : 0 < levels → (p : Parts) (xs : List Expr) (fs zs : List Form) → Each (IsPart layer.Expression) xs → tops (map height xs) ≤ levels → fs ≡ following (bare marked k.Comma) same_forms (map (written_expr marked) xs) ++ from_close zs
      → Reaches (more_parts marked below levels p) fs (parts_from p xs) (from_close zs)
  unfolding more_parts
  more_parts_again some p [] fs zs f low e = reaches_is (parts_end p) (reaches_over (sees marked k.Comma) (part_step marked below levels) (part_shrinks some) (ap (part_step marked below levels p) (ap (sees marked k.Comma) e ∙ no_comma zs)) e)
  more_parts_again some p (x ∷ xs) fs zs f low e =
      let after : List Form = following (bare marked k.Comma) same_forms (map (written_expr marked) xs) in
      let flat = e ∙ ap (λ (us : List Form). bare marked k.Comma ∷ us) (append_assoc (written_expr marked x) after (from_close zs)) in
      reaches_is (parts_turn p x xs)
      (reaches_turn (sees marked k.Comma) (part_step marked below levels) (part_shrinks some) (ap (part_step marked below levels p) (ap (sees marked k.Comma) flat ∙ comma_here (written_expr marked x ++ (after ++ from_close zs))))
      (reaches_bind _ (reaches_bind _ (reaches_expect marked k.Comma flat) (λ us a. part_again some x us (after ++ from_close zs) (omega arith) f.0 (following_free (map (written_expr marked) xs) zs) a)) (λ us a. reaches_pure a))
      (λ us a. more_parts_again some (with_part p (measure x)) xs us zs f.1 (omega arith) a))

  more_named_again : 0 < levels → (p : Parts) (names : List Identifier) (xs : List Expr) (fs zs : List Form) → length xs ≡ length names → Each (IsPart layer.Expression) xs → tops (map height xs) ≤ levels
      → fs ≡ following (bare marked k.Comma) same_forms (named_parts marked names (map (written_expr marked) xs)) ++ from_close zs → Reaches (more_named marked below levels p) fs (named_from p names xs) (from_close zs)
  unfolding more_named named_part association
  more_named_again some p [] [] fs zs same f low e = reaches_is (named_end p) (reaches_over (sees marked k.Comma) (named_step marked below levels) (named_shrinks some) (ap (named_step marked below levels p) (ap (sees marked k.Comma) e ∙ no_comma zs)) e)
  more_named_again some p [] (x ∷ xs) fs zs same f low e = absurd (omega arith)
  more_named_again some p (n ∷ names) [] fs zs same f low e = absurd (omega arith)
  more_named_again some p (n ∷ names) (x ∷ xs) fs zs same f low e =
      let after : List Form = following (bare marked k.Comma) same_forms (named_parts marked names (map (written_expr marked) xs)) in
      let flat = e ∙ ap (λ (us : List Form). bare marked k.Comma ∷ named_form marked n ∷ bare marked k.Arrow ∷ us) (append_assoc (written_expr marked x) after (from_close zs)) in
      reaches_is (named_turn p n names x xs)
      (reaches_turn (sees marked k.Comma) (named_step marked below levels) (named_shrinks some) (ap (named_step marked below levels p) (ap (sees marked k.Comma) flat ∙ comma_here (named_form marked n ∷ bare marked k.Arrow ∷ (written_expr marked x ++ (after ++ from_close zs)))))
      (reaches_bind _
      (reaches_bind _ (reaches_expect marked k.Comma flat) (λ us a.
      reaches_bind _ (reaches_identifier marked a) (λ vs b.
      reaches_bind _ (reaches_bind _ (reaches_expect marked k.Arrow b) (λ ws d. part_again some x ws (after ++ from_close zs) (omega arith) f.0 (following_free (named_parts marked names (map (written_expr marked) xs)) zs) d)) (λ ts d. reaches_pure d))))
      (λ us a. reaches_pure a))
      (λ us a. more_named_again some (with_named p (n, measure x)) names xs us zs (omega arith) f.1 (omega arith) a))

  -- one expression
  one_again : 0 < levels → (x : Expr) (fs zs : List Form) → IsPart layer.Expression x → height x < levels → fs ≡ written_expr marked x ++ from_close zs → Reaches (arguments marked below levels) fs (found_arguments (arguments_as.Positional 1) (x ∷ [])) (from_close zs)
  unfolding arguments
  one_again some x fs zs f low e =
      reaches_bind _ (part_again some x fs (from_close zs) low f (close_free zs) e) (λ us a.
      reaches_choose (peek marked) (arguments_by marked below levels (measure x)) (Some k.RightParenthesis) (peek_front marked us a ∙ peek_here marked k.RightParenthesis Nothing zs)
      (reaches_is (ap (λ (p : Parts). (arguments_as.Positional 1, p)) (parts_are (with_part no_parts (measure x)) [] (x ∷ []) (tops (map height (x ∷ []))) refl refl (omega arith))) (reaches_pure a)))

  -- two expressions or more
  some_again : 0 < levels → (x y : Expr) (ys : List Expr) (fs zs : List Form) → Each (IsPart layer.Expression) (x ∷ y ∷ ys) → tops (map height (x ∷ y ∷ ys)) ≤ levels
      → fs ≡ written_expr marked x ++ (following (bare marked k.Comma) same_forms (map (written_expr marked) (y ∷ ys)) ++ from_close zs) → Reaches (arguments marked below levels) fs (found_arguments (arguments_as.Positional (length (x ∷ y ∷ ys))) (x ∷ y ∷ ys)) (from_close zs)
  unfolding arguments positional
  some_again some x y ys fs zs f low e =
      let after : List Form = following (bare marked k.Comma) same_forms (map (written_expr marked) (y ∷ ys)) in
      let made = parts_are (parts_from (with_part no_parts (measure x)) (y ∷ ys)) [] (x ∷ y ∷ ys) (tops (map height (x ∷ y ∷ ys))) refl refl (omega arith) in
      reaches_bind _ (part_again some x fs (after ++ from_close zs) (omega arith) f.0 (following_free (map (written_expr marked) (y ∷ ys)) zs) e) (λ us a.
      reaches_choose (peek marked) (arguments_by marked below levels (measure x)) (Some k.Comma)
      (peek_front marked us a ∙ peek_here marked k.Comma Nothing ((written_expr marked y ++ following (bare marked k.Comma) same_forms (map (written_expr marked) ys)) ++ from_close zs))
      (reaches_bind _ (more_parts_again some (with_part no_parts (measure x)) (y ∷ ys) us zs f.1 (omega arith) a) (λ vs b.
      reaches_is (ap (λ (p : Parts). (arguments_as.Positional (length p.exprs), p)) made) (reaches_pure b))))

  -- expressions that are given for formals
  formals_again : 0 < levels → (n : Identifier) (names : List Identifier) (x : Expr) (xs : List Expr) (fs zs : List Form) → length xs ≡ length names → Each (IsPart layer.Expression) (x ∷ xs) → tops (map height (x ∷ xs)) ≤ levels
      → fs ≡ named_form marked n ∷ bare marked k.Arrow ∷ (written_expr marked x ++ (following (bare marked k.Comma) same_forms (named_parts marked names (map (written_expr marked) xs)) ++ from_close zs))
      → Reaches (arguments marked below levels) fs (found_arguments (arguments_as.Named (n ∷ names)) (x ∷ xs)) (from_close zs)
  unfolding arguments named association
  formals_again some n names x xs fs zs same f low e =
      let after : List Form = following (bare marked k.Comma) same_forms (named_parts marked names (map (written_expr marked) xs)) in
      let arrow : List Form = bare marked k.Arrow ∷ (written_expr marked x ++ (after ++ from_close zs)) in
      let path : Path = record { root = n; steps = [] } in
      let made = parts_are (named_from (with_named no_parts (n, measure x)) names xs) (n ∷ names) (x ∷ xs) (tops (map height (x ∷ xs))) refl refl (omega arith) in
      let h = alone_height n in
      let r = ap rank (name_layer path []) in
      reaches_bind _ (part_again some (alone n) fs arrow (omega arith) ((name_is path [] tt tt).layered, omega arith) (bare_free marked k.Arrow (written_expr marked x ++ (after ++ from_close zs)) refl) (e ∙ ap (λ (us : List Form). us ++ arrow) (sym (name_text marked path [])))) (λ us a.
      reaches_choose (peek marked) (arguments_by marked below levels (measure (alone n))) (Some k.Arrow) (peek_front marked us a ∙ peek_here marked k.Arrow Nothing (written_expr marked x ++ (after ++ from_close zs)))
      (subst (λ (o : Option Identifier). Reaches (named_by marked below levels (measure (alone n)) o) us (found_arguments (arguments_as.Named (n ∷ names)) (x ∷ xs)) (from_close zs)) (sym (alone_in_is n))
      (reaches_bind _ (reaches_bind _ (reaches_expect marked k.Arrow a) (λ vs b. part_again some x vs (after ++ from_close zs) (omega arith) f.0 (following_free (named_parts marked names (map (written_expr marked) xs)) zs) b)) (λ ws d.
      reaches_bind _ (more_named_again some (with_named no_parts (n, measure x)) names xs ws zs same f.1 (omega arith) d) (λ ts g.
      reaches_is (ap all_named made) (reaches_pure g))))))

  arguments_again : 0 < levels → (place : Place) (a : Arguments) (exprs : List Expr) (fs zs : List Form) → IsStep (step.Applied place a) → AreOf IsPart (layers_of_step (step.Applied place a)) exprs → tops (map height exprs) ≤ levels
      → fs ≡ written_arguments marked a (map (written_expr marked) exprs) ++ from_close zs → Reaches (arguments marked below levels) fs (found_arguments a exprs) (from_close zs)
  arguments_again some place (arguments_as.Positional count) [] fs zs is f low e = let h = are_length IsPart (replicate count layer.Expression) [] f ∙ length-replicate count layer.Expression in absurd (omega arith)
  arguments_again some place (arguments_as.Positional count) (x ∷ []) fs zs is f low e =
      let h : 1 ≡ count = are_length IsPart (replicate count layer.Expression) (x ∷ []) f ∙ length-replicate count layer.Expression in
      let each = each_positional count (x ∷ []) f in
      reaches_is (ap (λ (n : ℕ). found_arguments (arguments_as.Positional n) (x ∷ [])) h)
      (one_again some x fs zs each.0 (omega arith) (e ∙ ap (λ (us : List Form). us ++ from_close zs) (append-nil (written_expr marked x))))
  arguments_again some place (arguments_as.Positional count) (x ∷ y ∷ ys) fs zs is f low e =
      let h = are_length IsPart (replicate count layer.Expression) (x ∷ y ∷ ys) f ∙ length-replicate count layer.Expression in
      reaches_is (ap (λ (n : ℕ). found_arguments (arguments_as.Positional n) (x ∷ y ∷ ys)) h)
      (some_again some x y ys fs zs (each_positional count (x ∷ y ∷ ys) f) low (e ∙ append_assoc (written_expr marked x) (following (bare marked k.Comma) same_forms (map (written_expr marked) (y ∷ ys))) (from_close zs)))
  arguments_again some place (arguments_as.Named []) exprs fs zs is f low e = absurd is
  arguments_again some place (arguments_as.Named (n ∷ names)) [] fs zs is f low e = absurd f
  arguments_again some place (arguments_as.Named (n ∷ names)) (x ∷ xs) fs zs is f low e =
      let same = are_length IsPart (map (λ (name : Identifier). layer.Expression) names) xs f.1 ∙ length-map names (λ (name : Identifier). layer.Expression) in
      let after : List Form = following (bare marked k.Comma) same_forms (named_parts marked names (map (written_expr marked) xs)) in
      formals_again some n names x xs fs zs same (f.0, each_associated names xs f.1) low
      (e ∙ ap (λ (us : List Form). named_form marked n ∷ bare marked k.Arrow ∷ us) (append_assoc (written_expr marked x) after (from_close zs)))

  -- ---- steps

  selection_again : (n : TallName) (selector : Identifier) (fs zs : List Form) → fs ≡ bare marked k.Dot ∷ named_form marked selector ∷ zs → Reaches (selection marked below levels n) fs (with_step (step.Selected selector) [] 0 n) zs
  unfolding selection
  selection_again n selector fs zs e = reaches_bind _ (reaches_expect marked k.Dot e) (λ us a. reaches_bind _ (reaches_identifier marked a) (λ vs b. reaches_pure b))

  entry_again : (n : TallName) (fs zs : List Form) → fs ≡ bare marked k.Tilde ∷ zs → Reaches (entry marked below levels n) fs (with_step step.Entry [] 0 n) zs
  unfolding entry
  entry_again n fs zs e = reaches_bind _ (reaches_expect marked k.Tilde e) (λ us a. reaches_pure a)

  attribute_again : (n : TallName) (designator : Identifier) (fs zs : List Form) → fs ≡ bare marked k.Apostrophe ∷ named_form marked designator ∷ zs → Reaches (quotation marked below levels n) fs (with_step (step.Attribute designator) [] 0 n) zs
  unfolding quotation attribute
  attribute_again n designator fs zs e =
      reaches_bind _ (reaches_expect marked k.Apostrophe e) (λ us a.
      reaches_choose (peek marked) (quotation_by marked below levels n) (Some k.Identifier) (peek_front marked us a ∙ peek_here marked k.Identifier (Spelled designator.text designator.place) zs)
      (reaches_bind _ (reaches_identifier marked a) (λ vs b. reaches_pure b)))

  qualification_again : 0 < levels → (n : TallName) (place : Place) (x : Expr) (fs zs : List Form) → height x < levels → IsPart layer.Expression x → fs ≡ bare marked k.Apostrophe ∷ placed marked k.LeftParenthesis place ∷ (written_expr marked x ++ from_close zs)
      → Reaches (quotation marked below levels n) fs (with_step (step.Qualified place) (x ∷ []) (height x + 1) n) zs
  unfolding quotation qualification
  qualification_again some n place x fs zs low f e =
      reaches_bind _ (reaches_expect marked k.Apostrophe e) (λ us a.
      reaches_choose (peek marked) (quotation_by marked below levels n) (Some k.LeftParenthesis) (peek_front marked us a ∙ peek_here marked k.LeftParenthesis (Where place) (written_expr marked x ++ from_close zs))
      (reaches_deeper some
      (reaches_bind _ (reaches_expect_place marked k.LeftParenthesis a) (λ vs b.
      reaches_bind _ (part_again some x vs (from_close zs) low f (close_free zs) b) (λ ws d.
      reaches_bind _ (reaches_expect marked k.RightParenthesis d) (λ ts g. reaches_pure g))))))

  application_again : 0 < levels → (n : TallName) (place : Place) (a : Arguments) (exprs : List Expr) (fs zs : List Form) → IsStep (step.Applied place a) → AreOf IsPart (layers_of_step (step.Applied place a)) exprs → tops (map height exprs) ≤ levels
      → fs ≡ placed marked k.LeftParenthesis place ∷ (written_arguments marked a (map (written_expr marked) exprs) ++ from_close zs) → Reaches (application marked below levels n) fs (with_step (step.Applied place a) exprs (tops (map height exprs)) n) zs
  unfolding application
  application_again some n place a exprs fs zs is f low e =
      reaches_deeper some
      (reaches_bind _ (reaches_expect_place marked k.LeftParenthesis e) (λ us b.
      reaches_bind _ (arguments_again some place a exprs us zs is f low b) (λ vs d.
      reaches_bind _ (reaches_expect marked k.RightParenthesis d) (λ ws g. reaches_pure g))))

  -- some levels are left where a step has an expression
  argument_levels : (place : Place) (a : Arguments) (exprs : List Expr) → IsStep (step.Applied place a) → AreOf IsPart (layers_of_step (step.Applied place a)) exprs → tops (map height exprs) ≤ levels → 0 < levels
  argument_levels place (arguments_as.Positional count) [] is f low = let h = are_length IsPart (replicate count layer.Expression) [] f ∙ length-replicate count layer.Expression in absurd (omega arith)
  argument_levels place (arguments_as.Positional count) (x ∷ xs) is f low = omega arith
  argument_levels place (arguments_as.Named []) exprs is f low = absurd is
  argument_levels place (arguments_as.Named (n ∷ names)) [] is f low = absurd f
  argument_levels place (arguments_as.Named (n ∷ names)) (x ∷ xs) is f low = omega arith

  step_again : (s : NameStep) (n : TallName) (own : List Expr) (fs zs : List Form) → IsStep s → AreOf IsPart (layers_of_step s) own → tops (map height own) ≤ levels → fs ≡ written_step marked s (map (written_expr marked) own) ++ zs
      → Reaches (step_read marked below levels n (kind_of s)) fs (with_step s own (tops (map height own)) n) zs
  step_again (step.Selected selector) n [] fs zs is f low e = selection_again n selector fs zs e
  step_again (step.Selected selector) n (x ∷ own) fs zs is f low e = absurd f
  step_again (step.Attribute designator) n [] fs zs is f low e = attribute_again n designator fs zs e
  step_again (step.Attribute designator) n (x ∷ own) fs zs is f low e = absurd f
  step_again (step.Applied place a) n own fs zs is f low e =
      application_again (argument_levels place a own is f low) n place a own fs zs is f low (e ∙ ap (λ (us : List Form). placed marked k.LeftParenthesis place ∷ us) (append_assoc (written_arguments marked a (map (written_expr marked) own)) (bare marked k.RightParenthesis ∷ []) zs))
  step_again (step.Qualified place) n [] fs zs is f low e = absurd f
  step_again (step.Qualified place) n (x ∷ []) fs zs is f low e =
      let flat : ((written_expr marked x ++ []) ++ bare marked k.RightParenthesis ∷ []) ++ zs ≡ written_expr marked x ++ from_close zs = ap (λ (us : List Form). (us ++ bare marked k.RightParenthesis ∷ []) ++ zs) (append-nil (written_expr marked x)) ∙ append_assoc (written_expr marked x) (bare marked k.RightParenthesis ∷ []) zs in
      reaches_is (ap (λ (h : ℕ). with_step (step.Qualified place) (x ∷ []) h n) (omega arith))
      (qualification_again (omega arith) n place x fs zs (omega arith) f.0 (e ∙ ap (λ (us : List Form). bare marked k.Apostrophe ∷ placed marked k.LeftParenthesis place ∷ us) flat))
  step_again (step.Qualified place) n (x ∷ y ∷ own) fs zs is f low e = absurd f.1
  step_again step.Entry n [] fs zs is f low e = entry_again n fs zs e
  step_again step.Entry n (x ∷ own) fs zs is f low e = absurd f

  steps_again : (ss : List NameStep) (parts : List Expr) (n : TallName) (fs zs : List Form) → Each IsStep ss → AreOf IsPart (layers_of ss) parts → tops (map height parts) ≤ levels → 0 < strength (peek marked zs)
      → fs ≡ written_steps marked ss (map (written_expr marked) parts) ++ zs → Reaches (name_steps marked below levels n) fs (steps_from ss parts n) zs
  unfolding name_steps
  steps_again [] [] n fs zs is f low free e =
      reaches_is (steps_end n) (reaches_over (peek marked) (name_step marked below levels) name_shrinks (ap (name_step_by marked below levels n) (ap step_of (peek_front marked fs e) ∙ no_step (peek marked zs) free)) e)
  steps_again [] (x ∷ parts) n fs zs is f low free e = absurd f
  steps_again (s ∷ ss) parts n fs zs is f low free e =
      let own : List Expr = take (takes s) parts in
      let rest : List Expr = drop (takes s) parts in
      let cut = take-append-drop (takes s) parts in
      let both = subst (λ (j : ℕ). AreOf IsPart (layers_of_step s) (take j parts) × AreOf IsPart (layers_of ss) (drop j parts)) (step_length s) (are_split (layers_of_step s) (layers_of ss) parts f) in
      let heights = tops_append own rest in
      let all = ap (λ (xs : List Expr). tops (map height xs)) cut in
      let low_own : tops (map height own) ≤ levels = omega arith in
      let low_rest : tops (map height rest) ≤ levels = omega arith in
      let after : List Form = written_steps marked ss (map (written_expr marked) rest) in
      let flat : fs ≡ written_step marked s (map (written_expr marked) own) ++ (after ++ zs) =
      e ∙ ap₂ (λ (ws : List (List Form)) (us : List (List Form)). (written_step marked s ws ++ written_steps marked ss us) ++ zs) (take-map (written_expr marked) (takes s) parts) (drop-map (written_expr marked) (takes s) parts)
      ∙ append_assoc (written_step marked s (map (written_expr marked) own)) after zs in
      reaches_is (steps_turn s ss own rest parts n cut)
      (reaches_turn (peek marked) (name_step marked below levels) name_shrinks (ap (name_step_by marked below levels n) (ap step_of (peek_front marked fs flat) ∙ step_seen marked s (map (written_expr marked) own) (after ++ zs)))
      (step_again s n own fs (after ++ zs) is.0 both.0 low_own flat) (λ us a. steps_again ss rest (with_step s own (tops (map height own)) n) us zs is.1 both.1 low_rest free a))

  -- a name, as it is read
  abbrev found_name : Path → List Expr → TallName
  found_name path parts = record { path = path; parts = parts; height = tops (map height parts) }

  pub name_reached : (path : Path) (parts : List Expr) (fs zs : List Form) → Each IsStep path.steps → AreOf IsPart (layers_of path.steps) parts → tops (map height parts) ≤ levels → 0 < strength (peek marked zs)
      → fs ≡ written_path marked path (map (written_expr marked) parts) ++ zs → Reaches (tall_name marked below levels) fs (found_name path parts) zs
  unfolding tall_name
  name_reached path parts fs zs is f low free e =
      reaches_bind _ (reaches_identifier marked e) (λ us a.
      reaches_is (names_are (steps_from path.steps parts (root_name path.root)) path.steps parts (tops (map height parts)) refl refl (omega arith)) (steps_again path.steps parts (root_name path.root) us zs is f low free a))

  pub primary_reached : (path : Path) (parts : List Expr) (fs zs : List Form) → Each IsStep path.steps → AreOf IsPart (layers_of path.steps) parts → tops (map height parts) ≤ levels → 0 < strength (peek marked zs)
      → fs ≡ written_path marked path (map (written_expr marked) parts) ++ zs → Reaches (name_primary marked below levels) fs (measure (expr.Name path parts)) zs
  unfolding name_primary
  primary_reached path parts fs zs is f low free e =
      reaches_bind _ (name_reached path parts fs zs is f low free e) (λ us a.
      reaches_is (ap (λ (h : ℕ). record { expr = expr.Name path parts; height = h }) (sym (name_height path parts))) (reaches_pure a))
