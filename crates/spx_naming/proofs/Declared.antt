-- Declaring names, one list after another, and the variables that they are.
use Rattle.std.proofs.Common.{◌≡◌, ℕ, ◌+◌, ◌-◌, ◌<◌, List, [], ◌∷◌, ◌++◌, length, map, drop, get_or, suc, refl, sym, ap, ◌∙◌, arith, add-one, length-append, drop-cons}
use Rattle.std.proofs.lemmas.List.{length-map}
use Rattle.std.specs.List.{range_with_len}
use Rattle.spx_core.specs.declared.name.Defining.{Defining}
use Rattle.spx_core.specs.declared.program.Var.{Var}
use Rattle.spx_core.specs.Regions.{Region}
use Rattle.spx_core.specs.DeclaredNames.{declaring, declaring_all}
use Rattle.spx_core.specs.Resolved.{positions, var_of}
use Rattle.spx_naming.specs.Ids.{id_at, ids_from}

pub declaring_append : (region : Region) (ds es : List Defining) → declaring_all region (ds ++ es) ≡ declaring_all (declaring_all region ds) es
declaring_append region [] es = refl
declaring_append region (d ∷ ds) es = declaring_append (declaring region d) ds es

-- the variables that are declared stand one after another
pub positions_are : (first : ℕ) (ds : List Defining) → positions first ds ≡ ids_from first (length ds)
positions_are first [] = refl
positions_are first (d ∷ ds) = ap (λ vs. id_at first ∷ vs) (positions_are (first + 1) ds)

-- the first of these numbers, and the others
pub range_step : (position end : ℕ) → position < end → range_with_len position (end - position) ≡ position ∷ range_with_len (position + 1) (end - (position + 1))
range_step position end h =
    let more : end - position ≡ suc (end - (position + 1)) = omega arith in
    rw more refl

-- the variables that are declared come after those before them
pub length_after : (vars : List Var) (ds : List Defining) → length (vars ++ map var_of ds) ≡ length vars + length ds
length_after vars ds = length-append vars (map var_of ds) ∙ ap (λ n. length vars + n) (length-map ds var_of)

-- what stands from a position on
pub rest_at : {A : Type 0} (xs : List A) (i : ℕ) (item : A) → i < length xs → item ≡ get_or xs i item → drop i xs ≡ item ∷ drop (i + 1) xs
rest_at xs i item h e = rw (add-one, drop-cons xs i item) (ap (λ x. x ∷ drop (suc i) xs) (sym e))
