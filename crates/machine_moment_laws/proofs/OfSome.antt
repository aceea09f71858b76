-- Each low-level object that is told is of some configuration of the window so far.
use Rattle.std.specs.FinMap.{empty, entries, get}
use Rattle.std.specs.List.{flat_map}
use Rattle.std.specs.Prelude.{Bool, List, length, ◌&&◌, ◌==◌, ◌≤◌, ℕ, suc, cond, false, map, true, [], ◌++◌, ◌∷◌, ◌≡◌}
use Rattle.std.specs.declared.option.Option.TheVariants.{Some}
use Rattle.std.proofs.Common.{arith, inl, inr, refl, subst, sym, ◌∙◌}
use Rattle.ov_types.specs.declared.objects.LowKey.{LowKey}
use Rattle.ov_types.specs.declared.objects.LowValue.{LowValue}
use Rattle.schedule_script.specs.ConfigCheck.Checked.{Checked}
use Rattle.transform_model.specs.Objects.{low_objects}
use Rattle.node_laws.specs.NodeModel.Agent.{needed_by, publication, slice_in_use, told_of}
use Rattle.node_laws.specs.NodeModel.Keys.{Key, key_cmp, Low}
use Rattle.node_laws.specs.NodeModel.Maps.{Map, objects}
use Rattle.node_laws.specs.NodeModel.Members.{Member}
use Rattle.node_laws.specs.NodeModel.Paths.{Holdings, Told, own_paths}
use Rattle.node_laws.specs.NodeModel.Reaching.{reoriginated_paths}
use Rattle.node_laws.specs.NodeModel.Tables.{table}
use Rattle.node_laws.specs.NodeModel.Values.{Object, Value}
use Rattle.node_laws.specs.NodeModel.Wants.{is_in_slice, route_entry, rows_of, slice, slice_entry, subscriptions, wanted_by_agent, wanted_by_peers}
use Rattle.node_laws.proofs.NodeModel.Members.{from_entry, from_filter, from_flat_map, from_map, in_either, member_get}
use Rattle.node_laws.proofs.NodeModel.Objects.{object_of}
use Rattle.node_laws.proofs.NodeModel.Orders.{key_exact, key_total}
use Rattle.node_laws.proofs.NodeModel.Wanted.{row_of_path}
use Rattle.machine_model.specs.Setup.{Setup, checked, low as low_map}
use Rattle.machine_model.specs.Network.{MachineState, View, agent_holdings, control_holdings, told_on, view, views_of, wanted, wanted_from, sessions_of, first_held, same_role, with_role}
use Rattle.machine_model.specs.Moments.{Each, IsAtRest, IsAtRestWith, nodes}
use Rattle.machine_model.specs.Session.{Agent, Configuration, Controller, Message, Role, Session, is_up, is_up_phase, turned, waiting}
use Rattle.machine_model.specs.Setup.{Name, agents_of}
use Rattle.machine_model.proofs.Feed.{entries-low}
use Rattle.machine_model.proofs.OvSync.KeyedLaws.{empty_values}
use Rattle.machine_model.proofs.Twins.{NoTwins, all_to_own, each_and, each_weaker, own_to_all}
use Rattle.machine_laws.specs.Settling.{Fair, FairMap, FairMessages, WantsFair}
use Rattle.machine_model.specs.Steps.{is_rested, is_settled}
use Rattle.machine_model.proofs.AtRest.{no_messages}
use Rattle.node_laws.specs.NodeModel.Step.{Phase, Idle, Opened, Confirmed, Up}
use Rattle.std.specs.List.{list_all}
use Rattle.std.proofs.lemmas.Bool.{and_parts, eqb-true, true≢false}
use Rattle.machine_laws.proofs.Told.{pair, publication_cases, publications, subscription_of, subscriptions_of}
use Rattle.machine_laws.proofs.Views.{views}
use Rattle.machine_moment_laws.specs.Common.{InSome}

pub role_is : (r q : Role) → same_role r q ≡ true → q ≡ r
role_is Configuration Configuration e = refl
role_is Controller Controller e = refl
role_is Agent Agent e = refl
role_is Configuration Controller e = absurd (true≢false (sym e))
role_is Configuration Agent e = absurd (true≢false (sym e))
role_is Controller Configuration e = absurd (true≢false (sym e))
role_is Controller Agent e = absurd (true≢false (sym e))
role_is Agent Configuration e = absurd (true≢false (sym e))
role_is Agent Controller e = absurd (true≢false (sym e))

-- ---- what a settled moment says of a session
pub record IsStill (s : Session) : Type 0 where
  pub near_up : s.near.phase ≡ Up
  pub far_up : s.far.phase ≡ Up
  pub near_notice : s.near.notice ≡ false
  pub far_notice : s.far.notice ≡ false
  pub near : s.near.flight ≡ []
  pub far : s.far.flight ≡ []

up_is : (p : Phase) → is_up_phase p ≡ true → p ≡ Up
up_is Up e = refl
up_is Idle e = absurd (true≢false (sym e))
up_is Opened e = absurd (true≢false (sym e))
up_is Confirmed e = absurd (true≢false (sym e))

none_waits : (b : Bool) (f : List Message) → cond b 1 (length f) ≡ 0 → (b ≡ false) × (f ≡ [])
none_waits true f e = cc
none_waits false f e = (refl, no_messages f e)

pub all_still : (ss : List Session) → list_all is_rested ss ≡ true → Each IsStill ss
all_still [] e = tt
all_still (s ∷ ss) e =
    let p = and_parts (is_rested s) (list_all is_rested ss) e in
    let a = and_parts (is_up s.near && is_up s.far && (waiting s == 0)) (waiting (turned s) == 0) p.0 in
    let b = and_parts (is_up s.near && is_up s.far) (waiting s == 0) a.0 in
    let c = and_parts (is_up s.near) (is_up s.far) b.0 in
    let inward = none_waits s.near.notice s.far.flight (eqb-true (waiting s) 0 b.1) in
    let outward = none_waits s.far.notice s.near.flight (eqb-true (waiting (turned s)) 0 a.1) in
    (record { near_up = up_is s.near.phase c.0; far_up = up_is s.far.phase c.1; near_notice = inward.0; far_notice = outward.0; near = outward.1; far = inward.1 }, all_still ss p.1)

pub each_from : (F W : Session → Type 0) (ss : List Session) → Each F ss → ((s : Session) → Member s ss → F s → W s) → Each W ss
each_from F W [] f h = tt
each_from F W (s ∷ ss) f h = (h s (inl refl) f.0, each_from F W ss f.1 (λ t m g. h t (inr m) g))

-- what both ends hold is fair
abbrev pub HeldFair : (Name × Role → Name × Role → Key → Value → Type 0) → Session → Type 0
HeldFair fair s = FairMap fair (s.far.name, s.far.role) (s.near.name, s.near.role) s.near.held × FairMap fair (s.near.name, s.near.role) (s.far.name, s.far.role) s.far.held

module _ (cs : List Checked) where
  abbrev pub ObjectOfSome : LowKey → LowValue → Type 0
  ObjectOfSome k v = InSome cs (λ c. Member (k, v) (low_objects c.topology c.config))

  abbrev pub EntryOfSome : Key → Value → Type 0
  EntryOfSome (Low k) (Object v) = ObjectOfSome k v
  EntryOfSome (Low k) _ = ⊥
  EntryOfSome _ _ = Unit {0}

  abbrev pub AllOfSome : Map → Type 0
  AllOfSome m = (k : Key) (v : Value) → get m k ≡ Some v → EntryOfSome k v

  pub none_of_some : AllOfSome empty
  none_of_some = empty_values key_cmp EntryOfSome

  -- ---- what each node wants
  pub low_of_some : (x : Setup) → Member (checked x) cs → AllOfSome (low_map x)
  low_of_some x among k w e =
      let m = subst (λ (es : List (Key × Value)). Member (pair k w) es) (entries-low x) (member_get key_total key_exact (low_map x) k w e) in
      let q = from_map slice_entry (pair k w) (low_objects x.topology x.config) m in
      subst (λ (e : Key × Value). EntryOfSome e.0 e.1) q.2 (checked x, among, q.1)

  told_of_some : (es : List (LowKey × LowValue)) → AllOfSome (told_of es)
  told_of_some es k v e =
      elim (in_either (pair k v) (publications es) (subscriptions_of es) (from_entry key_total key_exact k v (publications es ++ subscriptions_of es) e)) as (λ _. EntryOfSome k v) [
        | inl l ↦
            let q = from_flat_map (λ (e : LowKey × LowValue). publication e.0 e.1) (pair k v) es l in
            let c = publication_cases q.0.0 q.0.1 (pair k v) q.2 in
            subst (λ (e : Key × Value). EntryOfSome e.0 e.1) c.2 tt
        | inr l ↦ let q = from_map subscription_of (pair k v) (needed_by es) l in subst (λ (e : Key × Value). EntryOfSome e.0 e.1) q.2 tt
      ]

  peers_of_some : (h : Holdings) → AllOfSome (wanted_by_peers h)
  peers_of_some h k v e =
      let q = from_map route_entry (pair k v) (own_paths h ++ reoriginated_paths h) (from_entry key_total key_exact k v (map route_entry (own_paths h ++ reoriginated_paths h)) e) in
      subst (λ (e : Key × Value). EntryOfSome e.0 e.1) q.2 tt

  agent_of_some : (h : Holdings) → AllOfSome h.feed → (a : Told) → AllOfSome (wanted_by_agent h a)
  agent_of_some h fed a k v e =
      let rows = flat_map (rows_of h) (subscriptions a.map) in
      let mapped = map slice_entry (slice h.feed a.address) in
      elim (in_either (pair k v) mapped rows (from_entry key_total key_exact k v (mapped ++ rows) e)) as (λ _. EntryOfSome k v) [
        | inl l ↦
            let q = from_map slice_entry (pair k v) (slice h.feed a.address) l in
            let o = from_filter (λ (e : LowKey × LowValue). is_in_slice h.feed a.address e.0 e.1) q.0 (objects h.feed) q.1 in
            subst (λ (e : Key × Value). EntryOfSome e.0 e.1) q.2 (fed (Low q.0.0) (Object q.0.1) (object_of h.feed q.0.0 q.0.1 o.0))
        | inr l ↦
            let q = from_flat_map (rows_of h) (pair k v) (subscriptions a.map) l in
            let r = from_map (row_of_path q.0) (pair k v) (entries (table h q.0)) q.2 in
            subst (λ (e : Key × Value). EntryOfSome e.0 e.1) r.2 tt
      ]

  -- the feed, from the sessions of a control node
  abbrev FeedOfSome : Session → Type 0
  FeedOfSome s = s.far.role ≡ Configuration → AllOfSome s.near.held

  feed_of_some : (own : List Session) → Each FeedOfSome own → AllOfSome (first_held (with_role Configuration (views own)))
  feed_of_some [] h = none_of_some
  feed_of_some (s ∷ own) h =
      elim (same_role Configuration s.far.role) as (λ b. same_role Configuration s.far.role ≡ b → AllOfSome (first_held (cond b (view s ∷ with_role Configuration (views own)) (with_role Configuration (views own))))) [
        | true ↦ λ e. h.0 (role_is Configuration s.far.role e)
        | false ↦ λ e. feed_of_some own h.1
      ] refl

  -- what is wanted is so where the feed is
  wanted_of_some : (x : Setup) (own : List Session) (v : View) → Member (checked x) cs → Each FeedOfSome own → AllOfSome (wanted x (views own) v)
  unfolding wanted
  wanted_of_some x own v among h = go v.role v.other_role
    where
      go : (p q : Role) → AllOfSome (wanted_from x (views own) (record v { other_role = q }) p)
      go Configuration q = low_of_some x among
      go Agent q = told_of_some (slice_in_use (agent_holdings x v.name (views own)))
      go Controller Configuration = none_of_some
      go Controller Controller = peers_of_some (control_holdings x v.name (views own))
      go Controller Agent = agent_of_some (control_holdings x v.name (views own)) (feed_of_some own h) (told_on (agents_of x v.name) v)

  -- to anyone but an agent it is so anyway
  wanted_anyway : (x : Setup) (own : List Session) (v : View) → Member (checked x) cs → (v.role ≡ Controller → v.other_role ≡ Agent → ⊥) → AllOfSome (wanted x (views own) v)
  unfolding wanted
  wanted_anyway x own v among h = go v.role v.other_role h
    where
      go : (p q : Role) → (p ≡ Controller → q ≡ Agent → ⊥) → AllOfSome (wanted_from x (views own) (record v { other_role = q }) p)
      go Configuration q h = low_of_some x among
      go Agent q h = told_of_some (slice_in_use (agent_holdings x v.name (views own)))
      go Controller Configuration h = none_of_some
      go Controller Controller h = peers_of_some (control_holdings x v.name (views own))
      go Controller Agent h = absurd (h refl refl)

  -- ---- on each session, in both directions
  abbrev pub of_some : Name × Role → Name × Role → Key → Value → Type 0
  of_some from to k v = EntryOfSome k v

  abbrev pub AreOfSome : Session → Type 0
  AreOfSome = Fair of_some

  pub own_of_some : (ss : List Session) (n : Name) → Each AreOfSome ss → Each (λ s. AllOfSome s.near.held) (sessions_of n ss)
  own_of_some ss n f =
      all_to_own (λ s. AllOfSome s.near.held) n ss
      (each_weaker AreOfSome (λ s. AllOfSome s.near.held × AllOfSome (turned s).near.held) (λ s f. (f.near_held, f.far_held)) ss f)

  each_wanted : (x : Setup) (vs : List View) (own : List Session) → ((v : View) → AllOfSome (wanted x vs v)) → Each (λ s. AllOfSome (wanted x vs (view s))) own
  each_wanted x vs [] h = tt
  each_wanted x vs (s ∷ own) h = (h (view s), each_wanted x vs own h)

  pub wants_of_some : WantsFair of_some (λ x. Member (checked x) cs)
  wants_of_some x ss n among f =
      let own = sessions_of n ss in
      let held = own_of_some ss n f in
      each_wanted x (views own) own (λ v. wanted_of_some x own v among (each_weaker (λ s. AllOfSome s.near.held) FeedOfSome (λ s h _. h) own held))

  -- ---- the same up to a rank: of what the configuration node tells from rank 1 on, and of what others tell from rank 2 on
  abbrev pub source_rank : Role → ℕ
  source_rank Configuration = 1
  source_rank Controller = 2
  source_rank Agent = 2

  abbrev pub some_to : ℕ → Name × Role → Name × Role → Key → Value → Type 0
  some_to r from to k v = source_rank from.1 ≤ r → EntryOfSome k v

  abbrev pub AreSomeTo : ℕ → Session → Type 0
  AreSomeTo r = HeldFair (some_to r)

  ranked : (p : Role) (r : ℕ) → 2 ≤ r → source_rank p ≤ r
  ranked Configuration r h = omega (arith, h)
  ranked Controller r h = h
  ranked Agent r h = h

  pub all_some : (r : ℕ) → 2 ≤ r → (from to : Name × Role) (m : Map) → FairMap (some_to r) from to m → AllOfSome m
  all_some r h from to m f k v e = f k v e (ranked from.1 r h)

  pub fed_some : (r : ℕ) → 1 ≤ r → (from to : Name × Role) (m : Map) → from.1 ≡ Configuration → FairMap (some_to r) from to m → AllOfSome m
  fed_some r h from to m is f k v e = f k v e (subst (λ (p : Role). source_rank p ≤ r) (sym is) h)

  pub some_weaker : (r : ℕ) (s : Session) → AreOfSome s → AreSomeTo r s
  some_weaker r s f = ((λ k v e _. f.near_held k v e), (λ k v e _. f.far_held k v e))

  -- what is wanted is so up to the next rank
  abbrev FedTo : ℕ → Session → Type 0
  FedTo r s = FairMap (some_to r) (s.far.name, s.far.role) (s.near.name, s.near.role) s.near.held

  wanted_some_to : (r : ℕ) (x : Setup) (own : List Session) (v : View) → Member (checked x) cs → Each (FedTo r) own → source_rank v.role ≤ suc r → AllOfSome (wanted x (views own) v)
  unfolding wanted
  wanted_some_to r x own v among fed = go v.role v.other_role
    where
      lower : (r : ℕ) → 2 ≤ suc r → 1 ≤ r
      lower r h = omega (arith, h)

      go : (p q : Role) → source_rank p ≤ suc r → AllOfSome (wanted_from x (views own) (record v { other_role = q }) p)
      go Configuration q h = low_of_some x among
      go Agent q h = told_of_some (slice_in_use (agent_holdings x v.name (views own)))
      go Controller Configuration h = none_of_some
      go Controller Controller h = peers_of_some (control_holdings x v.name (views own))
      go Controller Agent h =
          agent_of_some (control_holdings x v.name (views own))
          (feed_of_some own (each_weaker (FedTo r) FeedOfSome (λ s f is. fed_some r (lower r h) (s.far.name, s.far.role) (s.near.name, s.near.role) s.near.held is f) own fed))
          (told_on (agents_of x v.name) v)

  pub wants_some_to : (r : ℕ) (x : Setup) (ss : List Session) (n : Name) → Member (checked x) cs → Each (AreSomeTo r) ss → Each (λ s. FairMap (some_to (suc r)) (s.near.name, s.near.role) (s.far.name, s.far.role) (wanted x (views_of n ss) (view s))) (sessions_of n ss)
  wants_some_to r x ss n among f =
      let own = sessions_of n ss in
      let fed = all_to_own (FedTo r) n ss f in
      each_anyhow own (λ s k v e rank. wanted_some_to r x own (view s) among fed rank k v e)
    where
      each_anyhow : {F : Session → Type 0} (ts : List Session) → ((s : Session) → F s) → Each F ts
      each_anyhow [] h = tt
      each_anyhow (t ∷ ts) h = (h t, each_anyhow ts h)

  -- ---- at rest
  module _ (w : MachineState) (apart : NoTwins (map nodes w.sessions)) (rest : IsAtRest w) (settled : is_settled w ≡ true) (among : Member (checked w.setup) cs) where
    abbrev IsAnyway : Session → Type 0
    IsAnyway s = (s.near.role ≡ Controller → s.far.role ≡ Agent → ⊥) → AllOfSome s.far.held

    abbrev IsWhole : Session → Type 0
    IsWhole s = AllOfSome s.far.held

    held_anyway : (vs : List Session) (own : List Session) → Each (IsAtRestWith w.setup (views vs)) own → Each IsAnyway own
    held_anyway vs [] r = tt
    held_anyway vs (s ∷ own) r = ((λ no. subst AllOfSome (sym (r.0.held ∙ r.0.wanted)) (wanted_anyway w.setup vs (view s) among no)), held_anyway vs own r.1)

    held_whole : (vs : List Session) → Each FeedOfSome vs → (own : List Session) → Each (IsAtRestWith w.setup (views vs)) own → Each IsWhole own
    held_whole vs f [] r = tt
    held_whole vs f (s ∷ own) r = (subst AllOfSome (sym (r.0.held ∙ r.0.wanted)) (wanted_of_some w.setup vs (view s) among f), held_whole vs f own r.1)

    feeds : (n : Name) → Each FeedOfSome (sessions_of n w.sessions)
    feeds n =
        all_to_own FeedOfSome n w.sessions
        (each_weaker (λ s. IsAnyway s × IsAnyway (turned s)) (λ s. FeedOfSome s × FeedOfSome (turned s))
        (λ s a. ((λ e. a.1 (λ c _. not_both (sym e ∙ c))), (λ e. a.0 (λ c _. not_both (sym e ∙ c))))) w.sessions
        (own_to_all IsAnyway w.sessions apart (λ n. held_anyway (sessions_of n w.sessions) (sessions_of n w.sessions) (rest n))))
      where
        not_both : Configuration ≡ Controller → ⊥
        not_both e = cc

    pub begins_of_some : Each AreOfSome w.sessions
    begins_of_some =
        each_weaker (λ s. (IsWhole s × IsWhole (turned s)) × IsStill s) AreOfSome
        (λ s a. record { near_held = a.0.1; far_held = a.0.0; near_flight = subst (FairMessages of_some (s.near.name, s.near.role) (s.far.name, s.far.role)) (sym a.1.near) tt; far_flight = subst (FairMessages of_some (s.far.name, s.far.role) (s.near.name, s.near.role)) (sym a.1.far) tt })
        w.sessions
        (each_and (λ s. IsWhole s × IsWhole (turned s)) IsStill w.sessions
        (own_to_all IsWhole w.sessions apart (λ n. held_whole (sessions_of n w.sessions) (feeds n) (sessions_of n w.sessions) (rest n)))
        (all_still w.sessions settled))
