-- Claims that are left.
use Rattle.std.proofs.Common.{◌≡◌, ℕ, ◌+◌, ◌-◌, ◌<◌, ◌≤◌, Bool, true, false, not, cond, List, [], ◌∷◌, ◌++◌, length, map, filter, take, get_or, refl, sym, ap, ◌∙◌, arith, zero, suc}
use Rattle.std.specs.List.{enumerate_from}
use Rattle.std.proofs.lemmas.List.{length-map, map-append, length-take, take_more}
use Rattle.spx_core.specs.declared.entity.SubId.{SubId}
use Rattle.spx_core.specs.declared.program.Program.{Program}
use Rattle.spx_core.specs.declared.subprogram.Sub.{Sub}
use Rattle.spx_term.specs.declared.condition.Condition.{Condition}
use Rattle.spx_term.specs.Steps.{Claim, tidy}
use Rattle.spx_simplify.specs.ClosedClaims.{closes_claim}
use Rattle.spx_arena.specs.declared.claims.SharedClaim.{SharedClaim}
use Rattle.spx_arena.specs.declared.claims.SharedClaims.{SharedClaims}
use Rattle.spx_arena.specs.Claims.{claim_at, claims_in}
use Rattle.spx_paths.specs.Conditions.{body_claims, condition_name, condition, numbered, conditions_of}
use Rattle.spx_report.specs.declared.report.Finding.{Finding}
use Rattle.spx_findings.specs.Findings.{is_left, unproved, unproved_named, unproved_of, row_of}
use Rattle.spx_findings.specs.LeftClaims.{left_or}
use Rattle.spx_findings.proofs.FindingLaws.{enumerate_from-push, left_within, row_of_counts}

filter_more : (p : Condition → Bool) (xs : List Condition) (x : Condition) → filter p (xs ++ x ∷ []) ≡ filter p xs ++ filter p (x ∷ [])
filter_more p [] x = refl
filter_more p (y ∷ xs) x = go (p y) (filter_more p xs x)
  where
    go : (b : Bool) → filter p (xs ++ x ∷ []) ≡ filter p xs ++ filter p (x ∷ []) → cond b (y ∷ filter p (xs ++ x ∷ [])) (filter p (xs ++ x ∷ [])) ≡ cond b (y ∷ filter p xs) (filter p xs) ++ filter p (x ∷ [])
    go true e = ap (λ ys. y ∷ ys) e
    go false e = e

unproved_more : (xs : List Condition) (x : Condition) → unproved_of (xs ++ x ∷ []) ≡ unproved_of xs ++ unproved_of (x ∷ [])
unproved_more xs x = ap (map unproved) (filter_more is_left xs x) ∙ map-append unproved (filter is_left xs) (filter is_left (x ∷ []))

numbered_more : (name : List ℕ) (cs : List Claim) (c : Claim) → numbered name 1 (cs ++ c ∷ []) ≡ numbered name 1 cs ++ condition name (length cs + 1) c ∷ []
numbered_more name cs c =
    ap (map number) (enumerate_from-push 1 cs c)
    ∙ map-append number (enumerate_from 1 cs) ((1 + length cs, c) ∷ [])
    ∙ ap (λ k. numbered name 1 cs ++ condition name k c ∷ []) (let e : 1 + length cs ≡ length cs + 1 = omega arith in e)
  where
    number : ℕ × Claim → Condition
    number p = condition name p.0 p.1

one_left : (name : List ℕ) (n : ℕ) (c : Claim) (closed : Bool) → closed ≡ closes_claim c → unproved_of (condition name n c ∷ []) ≡ left_or (unproved (condition name n c)) closed
one_left name n c closed e = ap go (sym e) ∙ by closed
  where
    go : Bool → List Finding
    go b = map unproved (cond (not b) (condition name n c ∷ []) [])

    by : (b : Bool) → go b ≡ left_or (unproved (condition name n c)) b
    by true = refl
    by false = refl

get_map : {A : Type 0} (f : SharedClaim → A) (xs : List SharedClaim) (i : ℕ) (d : A) (e : SharedClaim) → i < length xs → get_or (map f xs) i d ≡ f (get_or xs i e)
get_map f [] i d e w = absurd (omega arith)
get_map f (x ∷ xs) zero d e w = refl
get_map f (x ∷ xs) (suc i) d e w = get_map f xs i d e (omega arith)

get_map_claim : (xs : List Claim) (i : ℕ) (d : Bool) (e : Claim) → i < length xs → get_or (map closes_claim xs) i d ≡ closes_claim (get_or xs i e)
get_map_claim [] i d e w = absurd (omega arith)
get_map_claim (x ∷ xs) zero d e w = refl
get_map_claim (x ∷ xs) (suc i) d e w = get_map_claim xs i d e (omega arith)

pub left_more : (name : List ℕ) (s : SharedClaims) (closed : List Bool) (i : ℕ) (claim : SharedClaim) (here d : Bool) (found new : List Finding) → i < length s.list → claim ≡ get_or s.list i claim → closed ≡ map closes_claim (claims_in s) → here ≡ get_or closed i d
    → found ≡ unproved_of (numbered name 1 (take i (claims_in s)))
    → new ≡ found ++ left_or (unproved_named (condition_name name (i + 1)) claim.kind claim.place) here
    → new ≡ unproved_of (numbered name 1 (take (i + 1) (claims_in s)))
left_more name s closed i claim here d found new within is all one so_far more =
    let cs = claims_in s in
    let c = claim_at s.terms s.facts claim in
    let count : length cs ≡ length s.list = length-map s.list (claim_at s.terms s.facts) in
    let w : i < length cs = omega (arith, count) in
    let at : get_or cs i c ≡ c = get_map (claim_at s.terms s.facts) s.list i c claim within ∙ ap (claim_at s.terms s.facts) (sym is) in
    let closes_here : here ≡ closes_claim c = one ∙ ap (λ (bs : List Bool). get_or bs i d) all ∙ get_map_claim cs i d c w ∙ ap closes_claim at in
    let taken : length (take i cs) ≡ i = omega (arith, length-take i cs, w) in
    more
    ∙ ap (λ fs. fs ++ left_or (unproved (condition name (i + 1) c)) here) so_far
    ∙ ap (λ fs. unproved_of (numbered name 1 (take i cs)) ++ fs) (sym (one_left name (i + 1) c here closes_here))
    ∙ sym (unproved_more (numbered name 1 (take i cs)) (condition name (i + 1) c))
    ∙ ap unproved_of (ap (λ k. numbered name 1 (take i cs) ++ condition name (k + 1) c ∷ []) (sym taken) ∙ sym (numbered_more name (take i cs) c) ∙ ap (λ x. numbered name 1 (take i cs ++ x ∷ [])) (sym at) ∙ ap (numbered name 1) (sym (take_more cs i c w)))

pub conditions_are : (p : Program) (sub : Sub) (s : SharedClaims) → claims_in s ≡ map tidy (body_claims p sub) → numbered sub.name.name.text 1 (claims_in s) ≡ conditions_of p sub
unfolding conditions_of
conditions_are p sub s e = ap (numbered sub.name.name.text 1) e

length-enumerate : (n : ℕ) (cs : List Claim) → length (enumerate_from n cs) ≡ length cs
length-enumerate n [] = refl
length-enumerate n (c ∷ cs) = ap suc (length-enumerate (n + 1) cs)

pub total_is : (p : Program) (sub : Sub) (s : SharedClaims) → claims_in s ≡ map tidy (body_claims p sub) → length (conditions_of p sub) ≡ length s.list
total_is p sub s e =
    sym (ap length (conditions_are p sub s e))
    ∙ length-map (enumerate_from 1 (claims_in s)) (λ p. condition sub.name.name.text p.0 p.1)
    ∙ length-enumerate 1 (claims_in s)
    ∙ length-map s.list (claim_at s.terms s.facts)

pub few_left : (p : Program) (sub : Sub) (s : SharedClaims) (left : List Finding) → claims_in s ≡ map tidy (body_claims p sub) → left ≡ unproved_of (numbered sub.name.name.text 1 (claims_in s)) → length left ≤ length s.list
few_left p sub s left e f =
    omega (arith, ap length (f ∙ ap unproved_of (conditions_are p sub s e)), left_within (conditions_of p sub), total_is p sub s e)

pub row_is : (p : Program) (id : SubId) (sub : Sub) (s : SharedClaims) (left : List Finding) → claims_in s ≡ map tidy (body_claims p sub) → left ≡ unproved_of (numbered sub.name.name.text 1 (claims_in s))
    → row_of id.0 (conditions_of p sub) ≡ record { sub = id; total = length s.list; simplified = length s.list - length left; scripted = 0; left = length left }
row_is p id sub s left e f =
    row_of_counts id (conditions_of p sub)
    ∙ (λ t. record { sub = id; total = total_is p sub s e t; simplified = total_is p sub s e t - length (sym (f ∙ ap unproved_of (conditions_are p sub s e)) t); scripted = 0; left = length (sym (f ∙ ap unproved_of (conditions_are p sub s e)) t) })
