-- What peers told, place by place, after a change.
use Rattle.std.specs.Prelude.{◌≡◌, ◌<◌, ◌-◌, ◌==◌, ℕ, zero, suc, List, [], ◌∷◌, true, false, cond, Some, None}
use Rattle.std.specs.declared.option.Option.{Option}
use Rattle.std.specs.Option.{option_map}
use Rattle.std.specs.FinMap.{empty, get, get-empty, get-insert, get-remove}
use Rattle.std.specs.Ordering.{eq_by_cmp, is_eq}
use Rattle.std.specs.Cmp.{tied_itself}
use Rattle.std.proofs.lemmas.Bool.{eqb-true}
use Rattle.std.proofs.Common.{refl, sym, ◌∙◌, ap, subst, arith}
use Rattle.ov_sync.specs.declared.Delta.{Delta}
use Rattle.ov_sync.specs.declared.Delta.TheVariants.{Put, Drop}
use Rattle.ov_sync.specs.Embed.{moved_delta}
use Rattle.ov_sync.specs.Keyed.{changed, key_of}
use Rattle.ov_sync.proofs.KeyedLaws.{changed_apart}
use Rattle.ov_types.specs.declared.vpn.VpnKey.{VpnKey}
use Rattle.ov_types.specs.declared.vpn.VpnRoute.{VpnRoute}
use Rattle.path_select.specs.NodeModel.Keys.{Key, Low, Vpn, Row, Publish, Subscribe, key_cmp}
use Rattle.path_select.specs.NodeModel.Maps.{Change, Map}
use Rattle.path_select.specs.NodeModel.Paths.{Holdings}
use Rattle.path_select.specs.NodeModel.Values.{Route}
use Rattle.path_select.proofs.NodeModel.Orders.{key_exact, key_total}
use Rattle.vpn_holdings.specs.Changes.{changed_at, emptied_at, without}
use Rattle.vpn_holdings.specs.Moved.{map_at}
use Rattle.vpn_holdings.specs.Indexed.{as_route, route_at, route_in, route_of, told_by_peer, vpn_key}
use Rattle.vpn_holdings.specs.declared.places.RouteAt.{RouteAt}

-- ---- the map of a place
pub at_changed : (maps : List Map) (place : ℕ) (d : Change) → map_at (changed_at maps place d) place ≡ changed (map_at maps place) d
at_changed [] zero d = refl
at_changed [] (suc place) d = at_changed [] place d
at_changed (m ∷ maps) zero d = refl
at_changed (m ∷ maps) (suc place) d = at_changed maps place d

pub at_another : (maps : List Map) (place n : ℕ) (d : Change) → (n ≡ place → ⊥) → map_at (changed_at maps place d) n ≡ map_at maps n
at_another [] zero zero d h = absurd (h refl)
at_another [] zero (suc n) d h = refl
at_another [] (suc place) zero d h = refl
at_another [] (suc place) (suc n) d h = at_another [] place n d (λ e. h (ap suc e))
at_another (m ∷ maps) zero zero d h = absurd (h refl)
at_another (m ∷ maps) zero (suc n) d h = refl
at_another (m ∷ maps) (suc place) zero d h = refl
at_another (m ∷ maps) (suc place) (suc n) d h = at_another maps place n d (λ e. h (ap suc e))

at_emptied : (maps : List Map) (place : ℕ) → map_at (emptied_at maps place) place ≡ empty
at_emptied [] place = refl
at_emptied (m ∷ maps) zero = refl
at_emptied (m ∷ maps) (suc place) = at_emptied maps place

at_others : (maps : List Map) (place n : ℕ) → (n ≡ place → ⊥) → map_at (emptied_at maps place) n ≡ map_at maps n
at_others [] place n h = refl
at_others (m ∷ maps) zero zero h = absurd (h refl)
at_others (m ∷ maps) zero (suc n) h = refl
at_others (m ∷ maps) (suc place) zero h = refl
at_others (m ∷ maps) (suc place) (suc n) h = at_others maps place n (λ e. h (ap suc e))

-- ---- what is told at a key
tied : (k : Key) → eq_by_cmp key_cmp k k ≡ true
tied k = ap is_eq (tied_itself key_total k)

abbrev pub later : List Map → ℕ → Delta VpnKey VpnRoute → List Map
later maps session d = changed_at maps (session - 1) (moved_delta Vpn Route d)

-- a session above 0 is the one behind a place
behind : (P : ℕ → ℕ → Type 0) → ((place : ℕ) → P (suc place) place) → (session : ℕ) → 0 < session → P session (session - 1)
behind P f zero lt = absurd (omega (arith, lt))
behind P f (suc place) lt = subst (P (suc place)) (less place) (f place)
  where
    less : (n : ℕ) → n ≡ suc n - 1
    less n = omega arith

pub put_here : (maps : List Map) (session : ℕ) (k : VpnKey) (r : VpnRoute) → 0 < session → route_in (later maps session (Put k r)) (route_at session k) ≡ Some r
put_here maps session k r = behind (λ s n. route_in (changed_at maps n (Put (Vpn k) (Route r))) (route_at s k) ≡ Some r) at session
  where
    at : (place : ℕ) → route_in (changed_at maps place (Put (Vpn k) (Route r))) (route_at (suc place) k) ≡ Some r
    at place =
        ap (λ m. as_route (get m (Vpn k))) (at_changed maps place (Put (Vpn k) (Route r)))
        ∙ ap as_route (get-insert key_total (map_at maps place) (Vpn k) (Route r) (Vpn k) ∙ ap (λ b. cond b (Some (Route r)) (get (map_at maps place) (Vpn k))) (tied (Vpn k)))

pub drop_here : (maps : List Map) (session : ℕ) (k : VpnKey) → 0 < session → route_in (later maps session (Drop k)) (route_at session k) ≡ None
drop_here maps session k = behind (λ s n. route_in (changed_at maps n (Drop (Vpn k))) (route_at s k) ≡ None) at session
  where
    at : (place : ℕ) → route_in (changed_at maps place (Drop (Vpn k))) (route_at (suc place) k) ≡ None
    at place =
        ap (λ m. as_route (get m (Vpn k))) (at_changed maps place (Drop (Vpn k)))
        ∙ ap as_route (get-remove key_total (map_at maps place) (Vpn k) (Vpn k) ∙ ap (λ b. cond b None (get (map_at maps place) (Vpn k))) (tied (Vpn k)))

abbrev vpn_of : VpnKey → Key → VpnKey
vpn_of d (Vpn k) = k
vpn_of d (Low k) = d
vpn_of d (Row i p) = d
vpn_of d (Publish i p) = d
vpn_of d (Subscribe i) = d

moved_key : (d : Delta VpnKey VpnRoute) → key_of (moved_delta Vpn Route d) ≡ Vpn (key_of d)
moved_key (Put k r) = refl
moved_key (Drop k) = refl

same_place : (q : RouteAt) (session : ℕ) (k : VpnKey) → q.session ≡ session → Vpn (vpn_key q) ≡ Vpn k → q ≡ route_at session k
same_place q session k s e =
    let is : vpn_key q ≡ k = ap (vpn_of k) e in
    λ i. record { addr = record { 0 = (is i).prefix.addr }; len = (is i).prefix.len; session = s i; rd = (is i).rd }

abbrev told_at : RouteAt → Map → Option VpnRoute
told_at q m = as_route (get m (Vpn (vpn_key q)))

pub apart : (maps : List Map) (session : ℕ) (d : Delta VpnKey VpnRoute) (q : RouteAt) → 0 < session → (q ≡ route_at session (key_of d) → ⊥) → route_in (later maps session d) q ≡ route_in maps q
apart maps session d q = behind (λ s n. (q ≡ route_at s (key_of d) → ⊥) → route_in (changed_at maps n (moved_delta Vpn Route d)) q ≡ route_in maps q) (λ place away. by_session place away q.session refl) session
  where
    by_session : (place : ℕ) → (q ≡ route_at (suc place) (key_of d) → ⊥) → (s : ℕ) → q.session ≡ s
        → told_at q (told_by_peer (changed_at maps place (moved_delta Vpn Route d)) s) ≡ told_at q (told_by_peer maps s)
    by_session place away zero e = refl
    by_session place away (suc n) e =
        elim (n == place) as (λ b. (n == place) ≡ b → told_at q (map_at (changed_at maps place (moved_delta Vpn Route d)) n) ≡ told_at q (map_at maps n)) [
          | true ↦ λ t.
              let is : n ≡ place = eqb-true n place t in
              ap (λ n. told_at q (map_at (changed_at maps place (moved_delta Vpn Route d)) n)) is
              ∙ ap (told_at q) (at_changed maps place (moved_delta Vpn Route d))
              ∙ ap as_route (changed_apart key_total key_exact (map_at maps place) (moved_delta Vpn Route d) (Vpn (vpn_key q)) (λ f. away (same_place q (suc place) (key_of d) (e ∙ ap suc is) (f ∙ moved_key d))))
              ∙ ap (λ n. told_at q (map_at maps n)) (sym is)
          | false ↦ λ f. ap (told_at q) (at_another maps place n (moved_delta Vpn Route d) (unlike n place f))
        ] refl
      where
        unlike : (n place : ℕ) → (n == place) ≡ false → n ≡ place → ⊥
        unlike n place f e = grind arith

-- ---- a session is dropped
abbrev no_routes : Map
no_routes = empty

nothing_told : (k : VpnKey) → as_route (get no_routes (Vpn k)) ≡ None
nothing_told k = ap as_route (get-empty key_cmp (Vpn k))

never_zero : (n : ℕ) → (suc n == 0) ≡ false
never_zero n = grind arith

zero_never : (n : ℕ) → (0 == suc n) ≡ false
zero_never n = grind arith

one_less : (m n : ℕ) → suc m ≡ suc n → m ≡ n
one_less m n e = omega (arith, e)

not_less : (m n : ℕ) → (suc m == suc n) ≡ false → m ≡ n → ⊥
not_less m n f e = grind arith

pub dropped : (h : Holdings) (session : ℕ) (q : RouteAt) → cond (q.session == session) None (route_in h.peers q) ≡ route_in (without h session).peers q
dropped h zero q = by_session q.session
  where
    by_session : (s : ℕ) → cond (s == 0) None (told_at q (told_by_peer h.peers s)) ≡ told_at q (told_by_peer h.peers s)
    by_session zero = sym (nothing_told (vpn_key q))
    by_session (suc n) = ap (λ b. cond b None (told_at q (map_at h.peers n))) (never_zero n)
dropped h (suc place) q = by_session q.session
  where
    by_session : (s : ℕ) → cond (s == suc place) None (told_at q (told_by_peer h.peers s)) ≡ told_at q (told_by_peer (emptied_at h.peers place) s)
    by_session zero = ap (λ b. cond b None (told_at q no_routes)) (zero_never place)
    by_session (suc n) =
        elim (suc n == suc place) as (λ b. (suc n == suc place) ≡ b → cond b None (told_at q (map_at h.peers n)) ≡ told_at q (map_at (emptied_at h.peers place) n)) [
          | true ↦ λ t.
              sym (nothing_told (vpn_key q)) ∙ ap (told_at q) (sym (at_emptied h.peers place))
              ∙ ap (λ n. told_at q (map_at (emptied_at h.peers place) n)) (sym (one_less n place (eqb-true (suc n) (suc place) t)))
          | false ↦ λ f. ap (told_at q) (sym (at_others h.peers place n (not_less n place f)))
        ] refl

-- ---- what the peer of a session told
pub as_route_of : (o : Option VpnRoute) → as_route (option_map Route o) ≡ o
as_route_of None = refl
as_route_of (Some r) = refl

-- session 0 tells no routes
pub told_nothing : (maps : List Map) (session : ℕ) (k : VpnKey) → session ≡ 0 → None ≡ route_of maps session k
told_nothing maps session k e = sym (ap (λ s. route_of maps s k) e ∙ nothing_told k)

-- another one tells what stands at its place
pub told_behind : (maps : List Map) (session : ℕ) (k : VpnKey) → 0 < session → as_route (get (map_at maps (session - 1)) (Vpn k)) ≡ route_of maps session k
told_behind maps session k = behind (λ s n. as_route (get (map_at maps n) (Vpn k)) ≡ route_of maps s k) (λ place. refl) session
