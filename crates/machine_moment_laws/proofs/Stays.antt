-- On a session that lasts what is said stays: each key of it is held, and nothing in flight drops it.
use Rattle.std.specs.Prelude.{◌≡◌, ℕ, ◌+◌, ◌-◌, List, [], ◌∷◌, ◌++◌, map, Bool, ◌&&◌, true, false, cond, nat_lt, is_some}
use Rattle.std.specs.List.{AllByRecursion, cons_option, filter_map}
use Rattle.std.specs.declared.option.Option.{Option}
use Rattle.std.specs.declared.option.Option.TheVariants.{Some, None}
use Rattle.std.specs.FinMap.{get, get-insert, get-remove}
use Rattle.std.specs.Ordering.{eq_by_cmp}
use Rattle.std.specs.Cmp.{Equal-is}
use Rattle.std.proofs.Common.{refl, sym, ◌∙◌, ap, subst}
use Rattle.std.proofs.lemmas.Bool.{true≢false}
use Rattle.ov_sync.specs.declared.Delta.TheVariants.{Put, Drop}
use Rattle.machine_model.specs.OvSync.Keyed.{IsPut, change, change_at, changed, key_of, keys_of_either}
use Rattle.node_laws.specs.NodeModel.Keys.{Key, key_cmp}
use Rattle.node_laws.proofs.NodeModel.Orders.{key_total, key_exact}
use Rattle.node_laws.specs.NodeModel.Values.{Value, same_value}
use Rattle.node_laws.specs.NodeModel.Maps.{Map, Change, difference}
use Rattle.node_laws.specs.NodeModel.Step.{Phase, Up}
use Rattle.machine_model.specs.Setup.{Name}
use Rattle.machine_model.specs.Session.{Role, Message, Open, Keepalive, Hello, Carries, Session, turned, closed, is_peering, may_send, passed, peer_took, item_took, took, without_first, took_first, arrived, took_octets, octets_arrived}
use Rattle.machine_model.proofs.Calm.{passed_easy, telling}
use Rattle.machine_model.proofs.NetworkFact.{NodePair, nodes}
use Rattle.machine_laws.specs.Settling.{back}

-- ---- what is said on each session, by its two nodes
module _ (Says : Name × Role → Name × Role → Key → Type 0) where
  abbrev pub HasKeys : Name × Role → Name × Role → Map → Type 0
  HasKeys from to m = (k : Key) → Says from to k → is_some (get m k) ≡ true

  abbrev pub IsKept : Name × Role → Name × Role → Message → Type 0
  IsKept from to (Carries d) = Says from to (key_of d) → IsPut d
  IsKept from to Open = ⊥
  IsKept from to Keepalive = ⊥
  IsKept from to Hello = ⊥

  abbrev pub AreKept : Name × Role → Name × Role → List Message → Type 0
  AreKept from to f = AllByRecursion (IsKept from to) f

  pub record StaysAt (p : NodePair) (s : Session) : Type 0 where
    pub whole : s.is_down ≡ false
    pub near_up : s.near.phase ≡ Up
    pub far_up : s.far.phase ≡ Up
    pub near_notice : s.near.notice ≡ false
    pub far_notice : s.far.notice ≡ false
    pub near_breaks : s.near.breaks ≡ []
    pub far_breaks : s.far.breaks ≡ []
    pub near_held : HasKeys p.1 p.0 s.near.held
    pub far_held : HasKeys p.0 p.1 s.far.held
    pub near_flight : AreKept p.0 p.1 s.near.flight
    pub far_flight : AreKept p.1 p.0 s.far.flight

  abbrev pub Stays : Session → Type 0
  Stays s = StaysAt (nodes s) s

  pub stays_turned : (p : NodePair) (s : Session) → StaysAt p s → StaysAt (back p) (turned s)
  stays_turned p s f = record {
    whole = f.whole;
    near_up = f.far_up;
    far_up = f.near_up;
    near_notice = f.far_notice;
    far_notice = f.near_notice;
    near_breaks = f.far_breaks;
    far_breaks = f.near_breaks;
    near_held = f.far_held;
    far_held = f.near_held;
    near_flight = f.far_flight;
    far_flight = f.near_flight;
  }

  -- ---- a change that drops nothing of it
  pub keys_changed : (from to : Name × Role) (m : Map) (d : Change) → IsKept from to (Carries d) → HasKeys from to m → HasKeys from to (changed m d)
  keys_changed from to m (Put j v) kept h k says =
      ap is_some (get-insert key_total m j v k) ∙ elim (eq_by_cmp key_cmp k j) as (λ b. is_some (cond b (Some v) (get m k)) ≡ true) [ true ↦ refl | false ↦ h k says ]
  keys_changed from to m (Drop j) kept h k says =
      ap is_some (get-remove key_total m j k)
      ∙ elim (eq_by_cmp key_cmp k j) as (λ b. eq_by_cmp key_cmp k j ≡ b → is_some (cond b None (get m k)) ≡ true) [
        | true ↦ λ e. absurd (kept (subst (Says from to) (key_exact k j ((Equal-is (key_cmp k j)).0 e)) says))
        | false ↦ λ _. h k says
      ] refl

  -- what is wanted has each key, so that its difference drops none
  kept_at : (from to : Name × Role) (k : Key) (p q : Option Value) (ds : List Change) → (Says from to k → is_some q ≡ true) → AllByRecursion (λ d. IsKept from to (Carries d)) ds → AllByRecursion (λ d. IsKept from to (Carries d)) (cons_option (change same_value k p q) ds)
  kept_at from to k None None ds e h = h
  kept_at from to k (Some v) None ds e h = ((λ says. absurd (true≢false (sym (e says)))), h)
  kept_at from to k None (Some w) ds e h = ((λ _. tt), h)
  kept_at from to k (Some v) (Some w) ds e h =
      elim (same_value v w) as (λ c. AllByRecursion (λ d. IsKept from to (Carries d)) (cons_option (cond c None (Some (Put k w))) ds)) [ true ↦ h | false ↦ ((λ _. tt), h) ]

  pub difference_kept : (from to : Name × Role) (a b : Map) → HasKeys from to b → AreKept from to (map Carries (difference a b))
  difference_kept from to a b h = carried (difference a b) (each (keys_of_either a b))
    where
      each : (ks : List Key) → AllByRecursion (λ d. IsKept from to (Carries d)) (filter_map (change_at same_value a b) ks)
      each [] = tt
      each (k ∷ ks) = kept_at from to k (get a k) (get b k) (filter_map (change_at same_value a b) ks) (h k) (each ks)

      carried : (ds : List Change) → AllByRecursion (λ d. IsKept from to (Carries d)) ds → AreKept from to (map Carries ds)
      carried [] a = tt
      carried (d ∷ ds) a = (a.0, carried ds a.1)

  kept_append : (from to : Name × Role) (f g : List Message) → AreKept from to f → AreKept from to g → AreKept from to (f ++ g)
  kept_append from to [] g a b = b
  kept_append from to (m ∷ f) g a b = (a.0, kept_append from to f g a.1 b)

  -- ---- each step of an end
  pub stays_passed : (p : NodePair) (m : Map) (s : Session) → HasKeys p.0 p.1 m → StaysAt p s → StaysAt p (passed m s)
  stays_passed p m s h f =
      subst (StaysAt p) (sym (passed_easy m s f.whole f.near_breaks))
      (elim (may_send s) as (λ b. StaysAt p (cond b (telling m s) s)) [
        | true ↦ record {
          whole = f.whole;
          near_up = f.near_up;
          far_up = f.far_up;
          near_notice = f.near_notice;
          far_notice = f.far_notice;
          near_breaks = f.near_breaks;
          far_breaks = f.far_breaks;
          near_held = f.near_held;
          far_held = f.far_held;
          near_flight = kept_append p.0 p.1 s.near.flight (map Carries (difference s.near.sent m)) f.near_flight (difference_kept p.0 p.1 s.near.sent m h);
          far_flight = f.far_flight;
        }
        | false ↦ f
      ])

  stays_took : (p : NodePair) (m : Message) (ms : List Message) (s : Session) → AreKept p.1 p.0 (m ∷ ms) → StaysAt p s → StaysAt p (took m (without_first ms s))
  stays_took p Open ms s h f = absurd h.0
  stays_took p Keepalive ms s h f = absurd h.0
  stays_took p Hello ms s h f = absurd h.0
  stays_took p (Carries d) ms s h f =
      let held : HasKeys p.1 p.0 (changed s.near.held d) = keys_changed p.1 p.0 s.near.held d h.0 f.near_held in
      elim (is_peering s) as (λ b. StaysAt p (cond b (peer_took s.near.phase (Carries d) (without_first ms s)) (item_took s.near.phase (Carries d) (without_first ms s)))) [
        | true ↦ subst (λ (q : Phase). StaysAt p (peer_took q (Carries d) (without_first ms s))) (sym f.near_up) (record { whole = f.whole; near_up = f.near_up; far_up = f.far_up; near_notice = f.near_notice; far_notice = f.far_notice; near_breaks = f.near_breaks; far_breaks = f.far_breaks; near_held = held; far_held = f.far_held; near_flight = f.near_flight; far_flight = h.1 })
        | false ↦ subst (λ (q : Phase). StaysAt p (item_took q (Carries d) (without_first ms s))) (sym f.near_up) (record { whole = f.whole; near_up = f.near_up; far_up = f.far_up; near_notice = f.near_notice; far_notice = f.far_notice; near_breaks = f.near_breaks; far_breaks = f.far_breaks; near_held = held; far_held = f.far_held; near_flight = f.near_flight; far_flight = h.1 })
      ]

  stays_first : (p : NodePair) (f : List Message) (s : Session) → AreKept p.1 p.0 f → StaysAt p s → StaysAt p (took_first f s)
  stays_first p [] s h g = g
  stays_first p (m ∷ ms) s h g = stays_took p m ms s h g

  pub stays_arrived : (p : NodePair) (s : Session) → StaysAt p s → StaysAt p (arrived s)
  unfolding arrived
  stays_arrived p s f =
      subst (λ b. StaysAt p (cond b (record s { near = closed s.near }) (took_first s.far.flight s))) (sym f.near_notice) (stays_first p s.far.flight s f.far_flight f)

  module _ (size : Name → Message → ℕ) where
    stays_octets : (p : NodePair) (g : List Message) (n : ℕ) (s : Session) → AreKept p.1 p.0 g → StaysAt p s → StaysAt p (took_octets size n g s)
    stays_octets p [] n s h f = f
    stays_octets p (m ∷ ms) n s h f =
        elim s.is_down as (λ b. StaysAt p (cond b s (cond (nat_lt n (size s.far.name m - s.far.taken)) (record s { far = record s.far { taken = s.far.taken + n } }) (took_octets size (n - (size s.far.name m - s.far.taken)) ms (took m (without_first ms s)))))) [
          | true ↦ f
          | false ↦ elim (nat_lt n (size s.far.name m - s.far.taken)) as (λ b. StaysAt p (cond b (record s { far = record s.far { taken = s.far.taken + n } }) (took_octets size (n - (size s.far.name m - s.far.taken)) ms (took m (without_first ms s))))) [
            | true ↦ record { whole = f.whole; near_up = f.near_up; far_up = f.far_up; near_notice = f.near_notice; far_notice = f.far_notice; near_breaks = f.near_breaks; far_breaks = f.far_breaks; near_held = f.near_held; far_held = f.far_held; near_flight = f.near_flight; far_flight = f.far_flight }
            | false ↦ stays_octets p ms (n - (size s.far.name m - s.far.taken)) (took m (without_first ms s)) h.1 (stays_took p m ms s h f)
          ]
        ]

    pub stays_octets_arrived : (p : NodePair) (n : ℕ) (s : Session) → StaysAt p s → StaysAt p (octets_arrived size n s)
    unfolding octets_arrived
    stays_octets_arrived p n s f =
        subst (λ b. StaysAt p (cond b (record s { near = closed s.near }) (took_octets size n s.far.flight s))) (sym f.near_notice) (stays_octets p s.far.flight n s f.far_flight f)

  -- ---- where both ends' nodes last
  module _ (lasts : Name → Bool) where
    abbrev pub is_lasting : Session → Bool
    is_lasting s = lasts s.near.name && lasts s.far.name

    abbrev pub StaysWhereLasting : Session → Type 0
    StaysWhereLasting s = is_lasting s ≡ true → Stays s
