-- What stands under each key.
use Rattle.std.specs.Prelude.{◌≡◌, Bool, true, false, cond, List, [], ◌∷◌, Some, None, Ok, Err, Result, OnOk, OnErr, is_some}
use Rattle.std.specs.declared.option.Option.{Option}
use Rattle.std.specs.Option.{option_flatten}
use Rattle.std.specs.Ordering.{eq_by_cmp}
use Rattle.std.specs.Cmp.{Equal-is, eq_by_cmp_equiv}
use Rattle.std.specs.BTreeMap.{BTreeMap, Updates}
use Rattle.std.specs.FinMap.{FinMap, get, remove, get-empty, get-insert, get-remove, same_map}
use Rattle.std.proofs.lemmas.Bool.{true≢false}
use Rattle.std.proofs.Common.{refl, sym, ◌∙◌, ap}
use Rattle.ov_types.specs.declared.vpn.VpnKey.{VpnKey}
use Rattle.ov_types.specs.declared.vpn.VpnRoute.{VpnRoute}
use Rattle.bgp_restart.specs.Events.{key_order}
use Rattle.bgp_restart.specs.Routes.{standing, has_room, with_route, routes_in}
use Rattle.bgp_restart.proofs.Owning.{key_total, key_exact}

none : {A : Type 0} (x : Option A) → is_some x ≡ false → x ≡ None
none None e = refl
none (Some y) e = cc

abbrev pub Rooms : Type 0
Rooms = List (VpnKey × Option VpnRoute)

pub get-with_route : (m : FinMap key_order VpnRoute) (k : VpnKey) (r : Option VpnRoute) (q : VpnKey) → get (with_route m k r) q ≡ cond (eq_by_cmp key_order q k) r (get m q)
get-with_route m k None q = get-remove key_total m k q
get-with_route m k (Some v) q = get-insert key_total m k v q

pub get-routes_in : (es : Rooms) (q : VpnKey) → get (routes_in es) q ≡ option_flatten (standing es q)
get-routes_in [] q = get-empty key_order q
get-routes_in (e ∷ es) q =
    get-with_route (routes_in es) e.0 e.1 q ∙ ap (λ x. cond (eq_by_cmp key_order q e.0) e.1 x) (get-routes_in es q)
    ∙ within (eq_by_cmp key_order q e.0) e.1 (standing es q) where
      within : (b : Bool) (r : Option VpnRoute) (x : Option (Option VpnRoute)) → cond b r (option_flatten x) ≡ option_flatten (cond b (Some r) x)
      within true r x = refl
      within false r x = refl

-- what stands at each key after one is changed
pub stands_after : (m n : BTreeMap VpnKey (Option VpnRoute)) (k : VpnKey) (w : Option (Option VpnRoute)) → Updates key_order m n k w
    → (q : VpnKey) → standing n.entries q ≡ cond (eq_by_cmp key_order q k) w (standing m.entries q)
stands_after m n k w h q = h.0 q ∙ ap (λ b. cond b w (standing m.entries q)) ((eq_by_cmp_equiv key_total).symm k q)

-- the routes after one is changed
pub routes_after : (m n : BTreeMap VpnKey (Option VpnRoute)) (k : VpnKey) (w : Option (Option VpnRoute)) → Updates key_order m n k w
    → (q : VpnKey) → get (routes_in n.entries) q ≡ cond (eq_by_cmp key_order q k) (option_flatten w) (get (routes_in m.entries) q)
routes_after m n k w h q =
    get-routes_in n.entries q ∙ ap option_flatten (stands_after m n k w h q) ∙ within (eq_by_cmp key_order q k) w (standing m.entries q)
    ∙ ap (λ x. cond (eq_by_cmp key_order q k) (option_flatten w) x) (sym (get-routes_in m.entries q)) where
      within : (b : Bool) (w x : Option (Option VpnRoute)) → option_flatten (cond b w x) ≡ cond b (option_flatten w) (option_flatten x)
      within true w x = refl
      within false w x = refl

-- a key that had none has room now
pub roomier : (m n : BTreeMap VpnKey (Option VpnRoute)) (k : VpnKey) → Updates key_order m n k (Some None) → has_room m.entries k ≡ false
    → routes_in n.entries ≡ routes_in m.entries
roomier m n k h absent =
    same_map key_total key_exact (routes_in n.entries) (routes_in m.entries)
    (λ q. routes_after m n k (Some None) h q ∙ at q (eq_by_cmp key_order q k) refl) where
      at : (q : VpnKey) (b : Bool) → eq_by_cmp key_order q k ≡ b → cond b None (get (routes_in m.entries) q) ≡ get (routes_in m.entries) q
      at q true e =
          sym (get-routes_in m.entries q ∙ ap option_flatten (ap (λ (x : VpnKey). standing m.entries x) (key_exact q k ((Equal-is (key_order q k)).0 e)) ∙ none (standing m.entries k) absent))
      at q false e = refl

-- a key that has room takes a route without memory
pub put_in_room : {A E : Type 0} (m n : BTreeMap VpnKey (Option VpnRoute)) (k : VpnKey) (r : Option VpnRoute) (result : Result A E)
    → OnOk result (Updates key_order m n k (Some r)) → OnErr result (standing m.entries k ≡ None) → has_room m.entries k ≡ true
    → Updates key_order m n k (Some r)
put_in_room m n k r (Ok x) h absent room = h
put_in_room m n k r (Err e) h absent room = absurd (true≢false (sym room ∙ ap is_some absent))

pub replaced : (m n : BTreeMap VpnKey (Option VpnRoute)) (k : VpnKey) (r : Option VpnRoute) → Updates key_order m n k (Some r)
    → routes_in n.entries ≡ with_route (routes_in m.entries) k r
replaced m n k r h =
    same_map key_total key_exact (routes_in n.entries) (with_route (routes_in m.entries) k r)
    (λ q. routes_after m n k (Some r) h q ∙ sym (get-with_route (routes_in m.entries) k r q))

pub removed : (m n : BTreeMap VpnKey (Option VpnRoute)) (k : VpnKey) → Updates key_order m n k None
    → routes_in n.entries ≡ remove (routes_in m.entries) k
removed m n k h =
    same_map key_total key_exact (routes_in n.entries) (remove (routes_in m.entries) k)
    (λ q. routes_after m n k None h q ∙ sym (get-remove key_total (routes_in m.entries) k q))

-- what is found at a key
pub found : (es es' : Rooms) (k : VpnKey) (x : Option (Option VpnRoute)) → es ≡ es' → x ≡ standing es k → option_flatten x ≡ get (routes_in es') k
found es es' k x is e = ap option_flatten e ∙ sym (get-routes_in es k) ∙ ap (λ (l : Rooms). get (routes_in l) k) is
