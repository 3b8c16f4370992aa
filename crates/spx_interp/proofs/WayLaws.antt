-- Steps to parts, with the values of their indexes.
use Rattle.std.proofs.Common.{◌≡◌, ℕ, ◌<◌, ◌+◌, ℤ, List, [], ◌∷◌, ◌++◌, length, get_or, drop, map, refl, sym, ap, ◌∙◌}
use Rattle.std.proofs.lemmas.List.{drop_more}
use Rattle.spx_core.specs.declared.part.Indexing.{Indexing}
use Rattle.spx_core.specs.declared.part.PartStep.{PartStep}
use Rattle.spx_core.specs.declared.part.Selection.{Selection}
use Rattle.spx_term.specs.declared.value.Value.{Value}
use Rattle.spx_term.specs.Meaning.{as_number, value_of_binary, value_of_unary}
use Rattle.spx_term.specs.Parts.{Step, part_of}
use Rattle.spx_term.specs.Values.{Types, element_at, field_at, first_of}
use Rattle.spx_meaning.specs.Parts.{element_step, element_value, field_step, field_value}
use Rattle.spx_meaning.specs.Evaluation.{with_way}
use Rattle.spx_meaning.specs.Frames.{Frame}
use Rattle.spx_meaning.specs.Stores.{Store, component_of}
use Rattle.spx_interp.specs.Ways.{AfterWay, step_of}
use Rattle.spx_interp.specs.declared.parts.PlacedStep.{PlacedStep}

module _ (types : Types) (u : Value) where
  pub part-Element : (x : Indexing) (i : ℤ) → part_of types (element_step x i) u ≡ element_at (first_of types (component_of x.element)) i u
  unfolding value_of_binary
  part-Element x i = refl

  pub part-Field : (x : Selection) → part_of types (field_step x) u ≡ field_at (first_of types (component_of x.field)) x.position u
  unfolding value_of_unary
  part-Field x = refl

  -- what an expression reads is that part
  pub element_is_part : (x : Indexing) (k : Value) → element_value types x u k ≡ part_of types (element_step x (as_number k)) u
  unfolding value_of_binary
  element_is_part x k = refl

  pub field_is_part : (x : Selection) → field_value types x u ≡ part_of types (field_step x) u
  unfolding value_of_unary
  field_is_part x = refl

pub ruleset step_laws = (part-Element, part-Field)

-- what an expression reads
pub ruleset read_laws = (element_is_part, field_is_part)

-- ---- ways

grown : (xs : List PlacedStep) (x : PlacedStep) (more : List Step) → map step_of xs ++ step_of x ∷ more ≡ map step_of (xs ++ x ∷ []) ++ more
grown [] x more = refl
grown (y ∷ xs) x more = ap (λ (zs : List Step). step_of y ∷ zs) (grown xs x more)

module _ (f : Frame) (n : ℕ) (s : Store) where
  one_more : (way : List PartStep) (xs : List PlacedStep) (x : PlacedStep) (go : AfterWay) → with_way f n s way (λ more. go (map step_of xs ++ step_of x ∷ more)) ≡ with_way f n s way (λ more. go (map step_of (xs ++ x ∷ []) ++ more))
  one_more way xs x go = λ i. with_way f n s way (λ more. go (grown xs x more i))

  -- the way from one step on, whose index is evaluated
  pub placed_more : (way : List PartStep) (k : ℕ) (step : PartStep) (xs ys : List PlacedStep) (x : PlacedStep) → k < length way → step ≡ get_or way k step
      → ((rest : List PartStep) (go : AfterWay) → with_way f n s (step ∷ rest) go ≡ with_way f n s rest (λ steps. go (step_of x ∷ steps)))
      → ys ≡ xs ++ x ∷ [] → (go : AfterWay)
      → with_way f n s (drop k way) (λ more. go (map step_of xs ++ more)) ≡ with_way f n s (drop (k + 1) way) (λ more. go (map step_of ys ++ more))
  placed_more way k step xs ys x within is placed last go =
      let here : AfterWay = λ more. go (map step_of xs ++ more) in
      ap (λ rest. with_way f n s rest here) (drop_more way k step within)
      ∙ ap (λ first. with_way f n s (first ∷ drop (k + 1) way) here) (sym is)
      ∙ placed (drop (k + 1) way) here
      ∙ one_more (drop (k + 1) way) xs x go
      ∙ ap (λ zs. with_way f n s (drop (k + 1) way) (λ more. go (map step_of zs ++ more))) (sym last)
