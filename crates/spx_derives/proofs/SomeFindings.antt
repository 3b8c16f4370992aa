-- The findings of a subprogram can be listed, from the definitions alone.
use Rattle.std.proofs.Common.{◌≡◌, ◌↔◌, ◌⊎◌, List, refl, subst, inl, inr, ⊎_elim}
use Rattle.std.specs.Prelude.{Contains}
use Rattle.spx_text.specs.declared.place.Place.{Place}
use Rattle.spx_core.specs.declared.entity.VarId.{VarId}
use Rattle.spx_core.specs.declared.program.Program.{Program}
use Rattle.spx_core.specs.declared.subprogram.Sub.{Sub}
use Rattle.spx_core.specs.Effects.{Read}
use Rattle.spx_core.specs.FlowRules.{Missing, Unused, Ineffective, MayBeUnset}
use Rattle.spx_core.proofs.Callers.FlowDecisions.{ineffective_listed, missing_listed, unset_listed, unused_listed}
use Rattle.spx_core.proofs.Callers.Listings.{Listing, joined, listing_as, mapped}
use Rattle.spx_derives.specs.declared.finding.FlowFinding.{FlowFinding}
use Rattle.spx_derives.specs.declared.finding.FlowFinding.TheVariants as finding
use Rattle.spx_derives.specs.Places.{export_place}
use Rattle.spx_derives.specs.FlowFindings.{Finds, missing, unused, ineffective, unset}

module _ (p : Program) (sub : Sub) where
  missing_at : VarId × VarId → FlowFinding
  missing_at z = finding.Missing (export_place sub z.1) z.0 z.1

  unused_at : VarId × VarId → FlowFinding
  unused_at z = finding.Unused (export_place sub z.1) z.0 z.1

  unset_at : Read → FlowFinding
  unset_at r = finding.UnsetRead r.0 r.1

  -- what a finding is made from
  abbrev Source : FlowFinding → Type 0
  Source f =
      ((z : VarId × VarId) × Missing sub z.0 z.1 × (missing_at z ≡ f))
      ⊎ (((z : VarId × VarId) × Unused sub z.0 z.1 × (unused_at z ≡ f))
      ⊎ (((place : Place) × Ineffective p sub place × (finding.Ineffective place ≡ f))
      ⊎ ((r : Read) × MayBeUnset p sub r.0 r.1 × (unset_at r ≡ f))))

  made_from : (f : FlowFinding) → Finds p sub f → Source f
  unfolding missing_at unused_at unset_at
  made_from _ (missing {x} {y} m) = inl ((x, y), m, refl)
  made_from _ (unused {x} {y} u) = inr (inl ((x, y), u, refl))
  made_from _ (ineffective {place} i) = inr (inr (inl (place, i, refl)))
  made_from _ (unset {place} {v} m) = inr (inr (inr ((place, v), m, refl)))

  finds : (f : FlowFinding) → Source f → Finds p sub f
  unfolding missing_at unused_at unset_at
  finds f h = ⊎_elim
      (λ one. subst (Finds p sub) one.2 (missing one.1))
      (λ more. ⊎_elim
      (λ two. subst (Finds p sub) two.2 (unused two.1))
      (λ rest. ⊎_elim (λ three. subst (Finds p sub) three.2 (ineffective three.1)) (λ last. subst (Finds p sub) last.2 (unset last.1)) rest)
      more)
      h

  findings : Listing (Finds p sub)
  findings =
      listing_as
      (joined (mapped missing_at (missing_listed sub)) (joined (mapped unused_at (unused_listed sub)) (joined (mapped finding.Ineffective (ineffective_listed sub p)) (mapped unset_at (unset_listed sub p)))))
      (λ f. (finds f, made_from f))

pub some_findings : (p : Program) (sub : Sub) → (found : List FlowFinding) × ((f : FlowFinding) → Contains found f ↔ Finds p sub f)
some_findings p sub = let l = findings p sub in (l.list, l.exact)
