-- What is held, entry by entry.
use Rattle.std.specs.Prelude.{◌≡◌, Bool, true, false, cond, List, [], ◌∷◌, ◌++◌, map, Some, None, Ok, Err, Result, IfOk}
use Rattle.std.specs.declared.option.Option.{Option}
use Rattle.std.specs.Option.{option_or}
use Rattle.std.specs.Ordering.{eq_by_cmp, is_eq}
use Rattle.std.specs.Cmp.{Equal-is}
use Rattle.std.specs.FinMap.{FinMap, get, insert, get-empty, get-insert}
use Rattle.std.proofs.Common.{refl, sym, ◌∙◌, ap}
use Rattle.std.proofs.lemmas.List.{append-nil, append_assoc}
use Rattle.ov_types.specs.declared.vpn.VpnKey.{VpnKey}
use Rattle.ov_types.specs.declared.vpn.VpnRoute.{VpnRoute}
use Rattle.ov_sync.proofs.Ascending.{Over}
use Rattle.bgp_restart.specs.Events.{key_order}
use Rattle.bgp_restart.specs.Keeping.{marked, fresh_or}
use Rattle.bgp_restart.specs.Routes.{routes_in}
use Rattle.bgp_restart.proofs.Owning.{key_total}
use Rattle.bgp_restart.proofs.Rooms.{Rooms, get-with_route}

over_none : (q k : VpnKey) (es : Rooms) → Over key_order k es → eq_by_cmp key_order q k ≡ true → get (routes_in es) q ≡ None
over_none q k [] h t = get-empty key_order q
over_none q k (e ∷ es) h t =
    get-with_route (routes_in es) e.0 e.1 q
    ∙ ap (λ b. cond b e.1 (get (routes_in es) q)) (ap is_eq (key_total.congr q k e.0 ((Equal-is (key_order q k)).0 t) ∙ h.0))
    ∙ over_none q k es h.1 t

-- a key with a route, in front of those above it
pub one_more : (s : Bool) (q k : VpnKey) (held : Option VpnRoute) (v : VpnRoute) (es : Rooms) (m n : FinMap key_order (VpnRoute × Bool)) (w : Option (VpnRoute × Bool)) → Over key_order k es → held ≡ Some v → n ≡ insert m k (v, s)
    → option_or (marked s (get (routes_in ((k, held) ∷ es)) q)) (get m q) ≡ w → option_or (marked s (get (routes_in es) q)) (get n q) ≡ w
one_more s q k held v es m n w over has is all =
    ap (λ x. option_or (marked s (get (routes_in es) q)) x) (ap (λ (x : FinMap key_order (VpnRoute × Bool)). get x q) is ∙ get-insert key_total m k (v, s) q)
    ∙ at (eq_by_cmp key_order q k) (get (routes_in es) q) (over_none q k es over)
    ∙ ap (λ x. option_or (marked s x) (get m q)) (ap (λ x. cond (eq_by_cmp key_order q k) x (get (routes_in es) q)) (sym has) ∙ sym (get-with_route (routes_in es) k held q))
    ∙ all where
      at : (b : Bool) (f : Option VpnRoute) → (b ≡ true → f ≡ None) → option_or (marked s f) (cond b (Some (v, s)) (get m q)) ≡ option_or (marked s (cond b (Some v) f)) (get m q)
      at true f n = ap (λ (x : Option VpnRoute). option_or (marked s x) (Some (v, s))) (n refl)
      at false f n = refl

-- a key without one
pub none_more : (s : Bool) (q k : VpnKey) (held : Option VpnRoute) (es : Rooms) (m : FinMap key_order (VpnRoute × Bool)) (w : Option (VpnRoute × Bool)) → Over key_order k es → held ≡ None
    → option_or (marked s (get (routes_in ((k, held) ∷ es)) q)) (get m q) ≡ w → option_or (marked s (get (routes_in es) q)) (get m q) ≡ w
none_more s q k held es m w over has all =
    ap (λ x. option_or (marked s x) (get m q))
    (at (eq_by_cmp key_order q k) (get (routes_in es) q) (over_none q k es over)
    ∙ ap (λ x. cond (eq_by_cmp key_order q k) x (get (routes_in es) q)) (sym has) ∙ sym (get-with_route (routes_in es) k held q))
    ∙ all where
      at : (b : Bool) (f : Option VpnRoute) → (b ≡ true → f ≡ None) → f ≡ cond b None f
      at true f n = n refl
      at false f n = refl

pub either : (f s : Option VpnRoute) → option_or (marked false f) (option_or (marked true s) None) ≡ fresh_or f s
either None None = refl
either None (Some v) = refl
either (Some v) s = refl

pub if_ok : {A E : Type 0} (P Q : A → Type 0) (r : Result A E) → ((x : A) → P x → Q x) → IfOk r P → IfOk r Q
if_ok P Q (Ok x) f h = f x h
if_ok P Q (Err e) f h = h

-- one row after another
pub row_more : {A B : Type 0} (f : A → B) (done now : List B) (rest after : List A) (x : A) (w : List B) → rest ≡ x ∷ after → now ≡ done ++ f x ∷ [] → done ++ map f rest ≡ w → now ++ map f after ≡ w
row_more f done now rest after x w is more so =
    ap (λ ys. ys ++ map f after) more ∙ append_assoc done (f x ∷ []) (map f after) ∙ ap (λ xs. done ++ map f xs) (sym is) ∙ so

pub rows_done : {A B : Type 0} (f : A → B) (done : List B) (rest : List A) (w : List B) → rest ≡ [] → done ++ map f rest ≡ w → done ≡ w
rows_done f done rest w is so = sym (append-nil done) ∙ ap (λ xs. done ++ map f xs) (sym is) ∙ so
