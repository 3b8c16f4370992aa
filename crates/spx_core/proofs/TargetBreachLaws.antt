-- What is reported of a rule on names or types in a target is broken at that place, and where nothing is reported no rule is broken.
use Rattle.std.proofs.Common.{◌≡◌, true, List, [], ◌∷◌, Option, Some, None, Ok, Err, refl, sym, ap, subst, ◌∙◌}
use Rattle.std.proofs.lemmas.Bool.{both_ways}
use Rattle.spx_text.specs.declared.place.Place.{Place}
use Rattle.spx_tree.specs.declared.expression.Identifier.{Identifier}
use Rattle.spx_core.specs.declared.entity.Entity.{Entity}
use Rattle.spx_core.specs.declared.entity.Subtype.{Subtype}
use Rattle.spx_core.specs.declared.name.CoreName.{CoreName}
use Rattle.spx_core.specs.declared.name.FaultyName.{FaultyName}
use Rattle.spx_core.specs.declared.expression.CoreExpr.{CoreExpr}
use Rattle.spx_core.specs.declared.part.Indexing.{Indexing}
use Rattle.spx_core.specs.declared.part.Selection.{Selection}
use Rattle.spx_core.specs.declared.part.PartStep.{PartStep}
use Rattle.spx_core.specs.declared.part.PartStep.TheVariants as part
use Rattle.spx_core.specs.declared.part.Target.{Target}
use Rattle.spx_core.specs.declared.rule.Breach.{Breach}
use Rattle.spx_core.specs.declared.rule.RuleName.{RuleName}
use Rattle.spx_core.specs.declared.rule.RuleName.TheVariants.{N10, N12}
use Rattle.spx_core.specs.declared.rule.ExprType.TheVariants.{Of}
use Rattle.spx_core.specs.declared.rule.Typing.{Typing}
use Rattle.spx_core.specs.HasType.{HasType}
use Rattle.spx_core.specs.Judged.{◌>>=◌, judged, leads, judged_way, keeps, named_target, operand_of, part_type, referred_target}
use Rattle.spx_core.specs.NameBreaches as broken
use Rattle.spx_core.specs.NameBreaches.{BreaksBound, BreaksTarget, BreaksWay, assigned_type}
use Rattle.spx_core.specs.Types.{is_of, is_type_at, lies_in}
use Rattle.spx_core.proofs.Judgements.{bound, by_part, by_test, joined, kept, ok_is, some_is}
use Rattle.spx_core.proofs.TypedLaws.{complete, sound}
use Rattle.spx_core.proofs.NameBreachLaws.{At, expr_found, faulty_found, no_expr, no_target_name, target_found, target_is}

-- ---- values of a type: the bounds of a loop, and indexes

pub operand_found : (subtype : Subtype) (e : CoreExpr) (t : Typing) (b : Breach) → HasType e t → operand_of subtype t ≡ Err b → At (BreaksBound subtype e) b
operand_found subtype e t b d h =
    let Breaks = BreaksBound subtype e in
    by_part (keeps N10 t.place (is_of subtype.base t.of)) _ b h (λ k. by_test Breaks N10 t.place (is_of subtype.base t.of) b k (broken.of_another_type t d)) (λ _ _ k.
    by_test Breaks N12 t.place (lies_in (Of subtype.base) t.value) b k (broken.out_of_type t d))

-- what a value of a type passes that breaks no rule
pub operand_passes : (subtype : Subtype) (e : CoreExpr) (t : Typing) → HasType e t → (judged e >>= operand_of subtype) ≡ Ok tt → (is_of subtype.base t.of ≡ true) × (lies_in (Of subtype.base) t.value ≡ true)
operand_passes subtype e t d ok =
    let k = bound (keeps N10 t.place (is_of subtype.base t.of)) _ tt (sym (joined (operand_of subtype) (complete e t d)) ∙ ok) in
    (kept N10 t.place _ k.1, kept N12 t.place _ k.2)

pub no_bound : (subtype : Subtype) (e : CoreExpr) (rule : RuleName) (place : Place) → BreaksBound subtype e rule place → (judged e >>= operand_of subtype) ≡ Ok tt → ⊥
no_bound subtype e _ _ (broken.itself rule place h) ok = let t = bound (judged e) _ tt ok in no_expr e rule place h t.0 t.1
no_bound subtype e _ _ (broken.of_another_type t d fails) ok = both_ways _ fails (operand_passes subtype e t d ok).0
no_bound subtype e _ _ (broken.out_of_type t d fails) ok = both_ways _ fails (operand_passes subtype e t d ok).1

-- ---- ways

way_found : (place : Place) (subtype : Subtype) (way : List PartStep) (b : Breach) → judged_way place subtype way ≡ Err b → At (BreaksWay place subtype way) b
way_found place subtype [] b h = absurd cc
way_found place subtype (part.Index at i x ∷ way) b h =
    let Breaks = BreaksWay place subtype (part.Index at i x ∷ way) in
    by_part (keeps N10 place (is_type_at x.array subtype.base)) _ b h (λ e. by_test Breaks N10 place (is_type_at x.array subtype.base) b e (broken.no_array subtype at i x way)) (λ _ _ h.
    by_part (judged i) _ b h (λ e. broken.index subtype at i x way b.rule b.place (broken.itself b.rule b.place (expr_found i b e))) (λ k is h.
    by_part (operand_of x.index k) _ b h (λ e. broken.index subtype at i x way b.rule b.place (operand_found x.index i k b (sound i k is) e)) (λ _ _ h.
    broken.after_index subtype at i x way b.rule b.place (way_found place x.element way b h))))
way_found place subtype (part.Field field x ∷ way) b h =
    let Breaks = BreaksWay place subtype (part.Field field x ∷ way) in
    by_part (keeps N10 place (is_type_at x.record subtype.base)) _ b h (λ e. by_test Breaks N10 place (is_type_at x.record subtype.base) b e (broken.no_record subtype field x way)) (λ _ _ h.
    broken.after_field subtype field x way b.rule b.place (way_found place x.field way b h))

-- what a step passes that breaks no rule, and what comes after it
index_passes : (place : Place) (subtype : Subtype) (at : Place) (i : CoreExpr) (x : Indexing) (way : List PartStep) (last : Subtype) → judged_way place subtype (part.Index at i x ∷ way) ≡ Ok last
    → (is_type_at x.array subtype.base ≡ true) × ((judged i >>= operand_of x.index) ≡ Ok tt) × (judged_way place x.element way ≡ Ok last)
index_passes place subtype at i x way last ok =
    let t = bound (keeps N10 place (is_type_at x.array subtype.base)) _ last ok in
    let k = bound (judged i) _ last t.2 in
    let o = bound (operand_of x.index k.0) _ last k.2 in
    (kept N10 place _ t.1, joined (operand_of x.index) k.1 ∙ o.1, o.2)

field_passes : (place : Place) (subtype : Subtype) (field : Identifier) (x : Selection) (way : List PartStep) (last : Subtype) → judged_way place subtype (part.Field field x ∷ way) ≡ Ok last
    → (is_type_at x.record subtype.base ≡ true) × (judged_way place x.field way ≡ Ok last)
field_passes place subtype field x way last ok = let t = bound (keeps N10 place (is_type_at x.record subtype.base)) _ last ok in (kept N10 place _ t.1, t.2)

no_way : (place : Place) (subtype : Subtype) (way : List PartStep) (rule : RuleName) (at : Place) → BreaksWay place subtype way rule at → (last : Subtype) → judged_way place subtype way ≡ Ok last → ⊥
no_way place _ _ _ _ (broken.no_array subtype at i x way fails) last ok = both_ways _ fails (index_passes place subtype at i x way last ok).0
no_way place _ _ _ _ (broken.index subtype at i x way rule where_broken h) last ok = no_bound x.index i rule where_broken h (index_passes place subtype at i x way last ok).1
no_way place _ _ _ _ (broken.after_index subtype at i x way rule where_broken h) last ok = no_way place x.element way rule where_broken h last (index_passes place subtype at i x way last ok).2
no_way place _ _ _ _ (broken.no_record subtype field x way fails) last ok = both_ways _ fails (field_passes place subtype field x way last ok).0
no_way place _ _ _ _ (broken.after_field subtype field x way rule where_broken h) last ok = no_way place x.field way rule where_broken h last (field_passes place subtype field x way last ok).1

-- a way that breaks no rule leads to a part of this type
pub way_leads : (place : Place) (subtype : Subtype) (way : List PartStep) (last : Subtype) → judged_way place subtype way ≡ Ok last → part_type subtype way ≡ last
way_leads place subtype [] last ok = ok_is ok
way_leads place subtype (part.Index at i x ∷ way) last ok = way_leads place x.element way last (index_passes place subtype at i x way last ok).2
way_leads place subtype (part.Field field x ∷ way) last ok = way_leads place x.field way last (field_passes place subtype field x way last ok).1

-- ---- targets

-- a name that denotes nothing
not_led : (target : Target) (o : Option FaultyName) → target.faulty ≡ o → (b : Breach) → leads o ≡ Err b → At (BreaksTarget target) b
not_led target None is b h = absurd cc
not_led target (Some faulty) is b h = broken.leads_nowhere faulty b.rule b.place is (faulty_found faulty b cc)

pub target_breach_found : (target : Target) (b : Breach) → referred_target target ≡ Err b → At (BreaksTarget target) b
target_breach_found target b h =
    let place = target.root.name.place in
    by_part (named_target target.root) _ b h (λ e. broken.root b.rule b.place (target_found target.root _ b refl e)) (λ whole is h.
    let o = target_is place target.root.entity whole is in
    by_part (leads target.faulty) _ b h (λ e. not_led target target.faulty refl b e) (λ _ _ e. broken.way o.0 whole b.rule b.place o.1 o.2 (way_found place whole target.way b e)))

is_led : (o : Option FaultyName) → leads o ≡ Ok tt → o ≡ None
is_led None h = refl
is_led (Some faulty) h = absurd cc

-- what a target passes that breaks no rule
pub record Leads (target : Target) (subtype : Subtype) : Type 0 where
  pub whole : Subtype
  pub named : named_target target.root ≡ Ok whole
  pub leads : judged_way target.root.name.place whole target.way ≡ Ok subtype
  pub led : target.faulty ≡ None

pub target_leads : (target : Target) (subtype : Subtype) → referred_target target ≡ Ok subtype → Leads target subtype
target_leads target subtype ok =
    let place = target.root.name.place in
    let n = bound (named_target target.root) _ subtype ok in
    let w = bound (leads target.faulty) _ subtype n.2 in
    record { whole = n.0; named = n.1; leads = w.2; led = is_led target.faulty w.1 }

-- a name denotes one thing that may be assigned
pub one_target : (name : CoreName) (whole : Subtype) (e : Entity) (subtype : Subtype) → named_target name ≡ Ok whole → name.entity ≡ Some e → assigned_type e ≡ Some subtype → whole ≡ subtype
one_target name whole e subtype h is its =
    let x = target_is name.name.place name.entity whole h in
    let one : x.0 ≡ e = some_is (sym x.1 ∙ is) in
    some_is (sym x.2 ∙ ap assigned_type one ∙ its)

pub no_target : (target : Target) (subtype : Subtype) → referred_target target ≡ Ok subtype → (rule : RuleName) (place : Place) → ¬ BreaksTarget target rule place
no_target target subtype ok _ _ (broken.root rule place h) = let l = target_leads target subtype ok in no_target_name target.root l.whole l.named rule place h
no_target target subtype ok _ _ (broken.way e whole rule place is its h) =
    let at = target.root.name.place in
    let l = target_leads target subtype ok in
    no_way at whole target.way rule place h subtype (subst (λ s. judged_way at s target.way ≡ Ok subtype) (one_target target.root l.whole e whole l.named is its) l.leads)
no_target target subtype ok _ _ (broken.leads_nowhere faulty rule place is h) = let none : None ≡ Some faulty = sym (target_leads target subtype ok).led ∙ is in absurd cc
