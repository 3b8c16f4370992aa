-- Steps of the loops that fill tables, as equations between truth values.
use Rattle.std.proofs.Common.{◌≡◌, ℕ, ◌+◌, ◌<◌, Bool, true, false, ◌&&◌, ◌||◌, ◌==◌, List, drop, get_or, length, refl, sym, ap, ◌∙◌}
use Rattle.std.specs.List.{list_any}
use Rattle.std.proofs.lemmas.Bool.Decides.{Decides-and, Decides-eqb, Decides-like, same_from_decides}
use Rattle.std.proofs.lemmas.List.{drop_more}

pub any_more : {X : Type 0} (p : X → Bool) (xs : List X) (i : ℕ) (x : X) → i < length xs → x ≡ get_or xs i x → list_any p (drop i xs) ≡ (p x || list_any p (drop (i + 1) xs))
any_more p xs i x lt is = ap (list_any p) (drop_more xs i x lt) ∙ ap (λ y. p y || list_any p (drop (i + 1) xs)) (sym is)

pub import_step : (e d m p : Bool) → ((e && m) || ((d && e) || p)) ≡ ((e && (d || m)) || p)
import_step false true m p = refl
import_step false false m p = refl
import_step true true true p = refl
import_step true true false p = refl
import_step true false m p = refl

pub export_step : (d r m p : Bool) → ((m && r) || ((d && r) || p)) ≡ (((d || m) && r) || p)
export_step false r m p = refl
export_step true r false p = refl
export_step true true true p = refl
export_step true false true p = refl

pub item_step : (d m p : Bool) → (m || (d || p)) ≡ ((d || m) || p)
item_step false m p = refl
item_step true true p = refl
item_step true false p = refl

pub with_itself : (e m g p : Bool) → ((e && m) || ((e && g) || p)) ≡ ((e && (m || (true && g))) || p)
with_itself false m g p = refl
with_itself true true g p = refl
with_itself true false g p = refl

pub without_itself : (e m g p : Bool) → ((e && m) || p) ≡ ((e && (m || (false && g))) || p)
without_itself false m g p = refl
without_itself true true g p = refl
without_itself true false g p = refl

pub pair_with_itself : (t x y : ℕ) → ((t == x) && (t == y)) ≡ ((t == y) && (x == y))
pair_with_itself t x y =
    same_from_decides ((t == x) && (t == y)) ((t == y) && (x == y)) (Decides-and (t == x) (t == y) (Decides-eqb t x) (Decides-eqb t y))
    (Decides-like ((t == y) && (x == y)) (λ q. (q.0 ∙ sym q.1, q.0)) (λ p. (p.1, sym p.0 ∙ p.1)) (Decides-and (t == y) (x == y) (Decides-eqb t y) (Decides-eqb x y)))
