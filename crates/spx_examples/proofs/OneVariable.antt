-- The flow of a procedure with one variable, X, that is derived from itself.
use Rattle.std.proofs.Common.{◌≡◌, inl, inr, ℕ, zero, suc, ◌<◌, Bool, false, List, [], ◌∷◌, sym, ap, subst, ◌∙◌, arith}
use Rattle.std.specs.Prelude.{IsTrue, ◌==◌, Contains, is_some}
use Rattle.std.specs.List.{slice_index_or}
use Rattle.std.proofs.lemmas.Bool.{or_parts}
use Rattle.std.proofs.lemmas.Bool.Decides.{eqb_tells}
use Rattle.spx_text.specs.declared.place.Place.{Place}
use Rattle.spx_core.specs.declared.entity.VarId.{VarId}
use Rattle.spx_core.specs.declared.program.Program.{Program}
use Rattle.spx_core.specs.declared.subprogram.Sub.{Sub}
use Rattle.spx_core.specs.Dependency.{imports, exports, derives}
use Rattle.spx_core.specs.Effects.{Effect, Read}
use Rattle.spx_core.specs.Flow.{MayFlow}
use Rattle.spx_core.specs.Formals.{initial_of, is_formal}
use Rattle.spx_core.specs.Marks.{Occurs, marked}
use Rattle.spx_core.specs.Ways.{Reaches}
use Rattle.spx_core.specs.FlowRules.{body_effect, mark, Missing, Unused, Ineffective, MayBeUnset, read, left, HasNoFinding, starts_set}
use Rattle.spx_examples.specs.Increment.{x}

-- a test that only X passes
pub if_x : (test : Bool → Bool) → test false ≡ false → (v : VarId) → IsTrue (test (0 == v.0)) → x ≡ v
if_x test fails v passes =
    elim (eqb_tells 0 v.0) [
      | inl h ↦ ap (λ k. record { 0 = k }) h.1
      | inr h ↦ absurd (let none : test (0 == v.0) ≡ false = ap test h.0 ∙ fails in cc)
    ]

read_of_one : (at : Place) (k : ℕ) (one : Read) → k < 1 → slice_index_or ((at, x) ∷ []) k one ≡ one → x ≡ one.1
read_of_one at zero one h is = ap (λ (r : Read). r.1) is
read_of_one at (suc k) one h is = absurd (let e : ⊥ = omega arith in e)

-- what is read is X
pub one_read : (name at : Place) (v : VarId) → Contains {X = Read} ((name, x) ∷ []) (at, v) → x ≡ v
one_read name at v h = read_of_one name h.0 (at, v) h.1 h.2

-- the annotation `derives X from X`, where X is the only formal
pub record XFromX (sub : Sub) : Type 0 where
  pub formal : (v : VarId) → IsTrue (is_formal v sub) → x ≡ v
  pub export : (v : VarId) → IsTrue (exports v sub) → x ≡ v
  pub derived : (u v : VarId) → IsTrue (derives u v sub) → x ≡ v
  pub imported : IsTrue (imports x sub)
  pub exported : IsTrue (exports x sub)
  pub itself : IsTrue (derives x x sub)

-- a body with this effect reads X, and what it reads comes to X
pub record ReadsX (p : Program) (e : Effect) : Type 0 where
  pub flows : MayFlow e x x
  pub marks : (at : Place) → Occurs e at → MayFlow (marked at (mark p) e) (mark p) x
  pub reads : (at : Place) (v : VarId) (way : List VarId) → Reaches e at v way → x ≡ v

module _ (p : Program) (sub : Sub) (e : Effect) (is : body_effect sub ≡ e) (declared : XFromX sub) (body : ReadsX p e) where
  not_missing : (u v : VarId) → ¬ Missing sub u v
  not_missing u v h =
      let from_x = subst (λ w. derives w v sub ≡ false) (sym (declared.formal u h.0)) h.3 in
      absurd (let none : derives x x sub ≡ false = subst (λ w. derives x w sub ≡ false) (sym (declared.export v h.1)) from_x in let some = declared.itself in cc)

  not_unused : (u v : VarId) → ¬ Unused sub u v
  not_unused u v h =
      let to_v = subst (λ w. MayFlow e x w) (declared.derived u v h.1) body.flows in
      h.2 (subst (λ f. MayFlow f u v) (sym is) (subst (λ w. MayFlow e w v) (declared.formal u h.0) to_v))

  not_ineffective : (at : Place) → ¬ Ineffective p sub at
  not_ineffective at h = h.1 x declared.exported (subst (λ f. MayFlow (marked at (mark p) f) (mark p) x) (sym is) (body.marks at (subst (λ f. Occurs f at) is h.0)))

  is_imported : (v : VarId) → x ≡ v → imports v sub ≡ false → ⊥
  is_imported v is_x none = absurd (let unset : imports x sub ≡ false = subst (λ w. imports w sub ≡ false) (sym is_x) none in let set = declared.imported in cc)

  starts : (v : VarId) → x ≡ v → starts_set p sub v ≡ false → ⊥
  starts v is_x none = is_imported v is_x (or_parts (imports v sub) (is_some (initial_of v p)) none).0

  not_unset : (at : Place) (v : VarId) → ¬ MayBeUnset p sub at v
  not_unset at v (read unset way) = starts v (body.reads at v way.0 (subst (λ f. Reaches f at v way.0) is way.1)) unset
  not_unset at v (left exported unset way) = is_imported v (declared.export v exported) unset

  pub no_finding : HasNoFinding p sub
  no_finding = record { none_missing = not_missing; none_unused = not_unused; none_ineffective = not_ineffective; none_unset = not_unset }
