-- The round after leaves each agent, on each session, with its part of the feed that the control node holds.
use Rattle.std.specs.Prelude.{◌≡◌, ◌⊎◌, ℕ, ◌+◌, ◌<◌, ◌≤◌, List, [], ◌∷◌, map, Bool, true, false, cond, if◌then◌else◌}
use Rattle.std.specs.declared.option.Option.{Option}
use Rattle.std.specs.declared.option.Option.TheVariants.{Some, None}
use Rattle.std.specs.List.{AllByRecursion, filter, filter_map, cons_option}
use Rattle.std.specs.FinMap.{get, empty}
use Rattle.std.proofs.lemmas.Bool.{true≢false}
use Rattle.std.proofs.Common.{refl, sym, ◌∙◌, ap, subst, inl, inr, arith}
use Rattle.machine_model.proofs.OvSync.Ascending.{entries-empty}
use Rattle.ov_types.specs.First.{same_name}
use Rattle.ov_types.specs.declared.prefix.Addr.{Addr}
use Rattle.ov_types.specs.declared.objects.LowKey.{LowKey}
use Rattle.ov_types.specs.declared.objects.LowValue.{LowValue}
use Rattle.node_laws.specs.NodeModel.Keys.{Key, key_cmp, Low, Vpn, Row, Publish, Subscribe}
use Rattle.node_laws.specs.NodeModel.Values.{Value}
use Rattle.node_laws.specs.NodeModel.Maps.{Map, low_entry, objects}
use Rattle.node_laws.specs.NodeModel.Paths.{Holdings, Told as ToldBy}
use Rattle.node_laws.specs.NodeModel.Wants.{is_in_slice, slice, wanted_by_agent}
use Rattle.node_laws.proofs.NodeModel.Local.{local_slices, low_total, low_exact, objects_same}
use Rattle.node_laws.proofs.NodeModel.Objects.{object_of, in_objects}
use Rattle.node_laws.proofs.NodeModel.Wanted.{object_from, object_to}
use Rattle.machine_laws.proofs.Sorted.{objects_sorted, same_sorted, slice_sorted}
use Rattle.machine_model.specs.Setup.{Name, Setup, agents_of, low}
use Rattle.machine_model.specs.Session.{Role, Configuration, Controller, Agent, Message, Session, turned, are_peers, passed, arrived, octets_arrived}
use Rattle.machine_model.specs.Network.{MachineState, View, address_in, first_held, holdings_of, is_at, same_role, sessions_of, told_on, view, views_of, wanted, wanted_from, wanted_from_control, with_role}
use Rattle.machine_model.specs.Steps.{at_node, joins, with_session, change_session}
use Rattle.machine_model.specs.Moments.{Each, NodePair, nodes}
use Rattle.machine_model.proofs.NetworkFact.{KeepsNodes, passed_nodes, with_session_keeps, nodes_keep}
use Rattle.machine_model.proofs.NodesFact.{arrived_nodes, octets_nodes}
use Rattle.machine_model.proofs.Twins.{each_weaker}
use Rattle.machine_laws.specs.Settling.{back}
use Rattle.machine_moment_laws.specs.Revocation.{HoldsFeed, HoldsSlice}
use Rattle.machine_moment_laws.proofs.Drains.{fit_turned, TakenDue, arrived_due, octets_due, passed_due, passed_due_far, Due, due_more, held_joined, held_down}
use Rattle.machine_moment_laws.proofs.RevocationRounds.{Standing}
use Rattle.machine_moment_laws.proofs.Fed.{role_wants}
use Rattle.machine_moment_laws.proofs.Feeds.{feed_concern, feeds_unpeered, feed_goal, is_configuration, FeedFit, FeedDue, holds_feed}

pub no_objects : objects empty ≡ []
no_objects = ap (λ (es : List (Key × Value)). filter_map (λ (e : Key × Value). low_entry e.0 e.1) es) (entries-empty key_cmp)

-- ---- a slice in a map that is wanted
pub objects-wanted : (h : Holdings) (a : ToldBy) → objects (wanted_by_agent h a) ≡ slice h.feed a.address
objects-wanted h a =
    same_sorted low_total low_exact (objects (wanted_by_agent h a)) (slice h.feed a.address) (objects_sorted (wanted_by_agent h a)) (slice_sorted h.feed a.address)
    (λ e m. object_from h a e.0 e.1 (object_of (wanted_by_agent h a) e.0 e.1 m))
    (λ e m. in_objects (wanted_by_agent h a) e.0 e.1 (object_to h a e.0 e.1 m))

abbrev pub bare : Map → Holdings
bare feed = record { asn = 0; feed = feed; peers = []; agents = [] }

abbrev pub at_address : Addr → ToldBy
at_address a = record { session = 0; address = a; map = empty }

pub wants_slice : (x : Setup) (vs : List View) (v : View) → v.role ≡ Controller → v.other_role ≡ Agent → (k : LowKey)
    → get (wanted x vs v) (Low k) ≡ get (wanted_by_agent (bare (first_held (with_role Configuration vs))) (at_address (address_in (agents_of x v.name) v.other))) (Low k)
unfolding wanted
wants_slice x vs v e f k =
    ap (λ (r : Role). get (wanted_from x vs v r) (Low k)) e
    ∙ ap (λ (r : Role). get (wanted_from_control x.topology.asn (agents_of x v.name) vs v r) (Low k)) f
    ∙ local_slices (holdings_of x.topology.asn (agents_of x v.name) vs) (bare (first_held (with_role Configuration vs))) (told_on (agents_of x v.name) v) (at_address (address_in (agents_of x v.name) v.other)) refl refl k

-- ---- a feed, by the nodes of all sessions and by which are down
abbrev pub Mark : Type 0
Mark = NodePair × Bool

abbrev pub mark : Session → Mark
mark s = (nodes s, s.is_down)

abbrev pub feed_by : Setup → Name → List Mark → Map
feed_by x c [] = empty
feed_by x c (m ∷ ms) =
    if same_name m.0.0.0 c then feed_by x c ms
    else if same_name m.0.1.0 c then (if same_role Configuration m.0.0.1 then (if m.1 then empty else low x) else feed_by x c ms)
    else feed_by x c ms

low_or_none : (x : Setup) (c : Name) (ms : List Mark) → (feed_by x c ms ≡ low x) ⊎ (feed_by x c ms ≡ empty)
low_or_none x c [] = inr refl
low_or_none x c (m ∷ ms) =
    elim (same_name m.0.0.0 c) as (λ b. let f : Map = cond b (feed_by x c ms) (cond (same_name m.0.1.0 c) (cond (same_role Configuration m.0.0.1) (cond m.1 empty (low x)) (feed_by x c ms)) (feed_by x c ms)) in (f ≡ low x) ⊎ (f ≡ empty)) [
      | true ↦ low_or_none x c ms
      | false ↦ elim (same_name m.0.1.0 c) as (λ b. let f : Map = cond b (cond (same_role Configuration m.0.0.1) (cond m.1 empty (low x)) (feed_by x c ms)) (feed_by x c ms) in (f ≡ low x) ⊎ (f ≡ empty)) [
        | true ↦ elim (same_role Configuration m.0.0.1) as (λ b. let f : Map = cond b (cond m.1 empty (low x)) (feed_by x c ms) in (f ≡ low x) ⊎ (f ≡ empty)) [
          | true ↦ elim m.1 as (λ b. (cond b empty (low x) ≡ low x) ⊎ (cond b empty (low x) ≡ empty)) [ true ↦ inr refl | false ↦ inl refl ]
          | false ↦ low_or_none x c ms
        ]
        | false ↦ low_or_none x c ms
      ]
    ]

pub not_config : (r : Role) → (r ≡ Configuration → ⊥) → same_role Configuration r ≡ false
not_config Configuration h = absurd (h refl)
not_config Controller h = refl
not_config Agent h = refl

pub is_config : (r : Role) → same_role Configuration r ≡ true → r ≡ Configuration
is_config Configuration e = refl
is_config Controller e = absurd (true≢false (sym e))
is_config Agent e = absurd (true≢false (sym e))

abbrev pub FarIsOther : Mark → Type 0
FarIsOther m = m.0.1.1 ≡ Configuration → ⊥

feed_is : (x : Setup) (c : Name) (ss : List Session) → Each (HoldsFeed x) ss → AllByRecursion FarIsOther (map mark ss) → first_held (with_role Configuration (views_of c ss)) ≡ feed_by x c (map mark ss)
feed_is x c [] h o = refl
feed_is x c (s ∷ ss) h o =
    let rest = feed_is x c ss h.1 o.1 in
    elim (is_at c s.near) as (λ b. first_held (with_role Configuration (map view (cons_option (cond b (Some s) (cond (is_at c s.far) (Some (turned s)) None)) (sessions_of c ss)))) ≡ cond b (feed_by x c (map mark ss)) (cond (is_at c s.far) (cond (same_role Configuration s.near.role) (cond s.is_down empty (low x)) (feed_by x c (map mark ss))) (feed_by x c (map mark ss)))) [
      | true ↦ ap (λ b. first_held (cond b (view s ∷ with_role Configuration (views_of c ss)) (with_role Configuration (views_of c ss)))) (not_config s.far.role o.0) ∙ rest
      | false ↦ elim (is_at c s.far) as (λ b. first_held (with_role Configuration (map view (cons_option (cond b (Some (turned s)) None) (sessions_of c ss)))) ≡ cond b (cond (same_role Configuration s.near.role) (cond s.is_down empty (low x)) (feed_by x c (map mark ss))) (feed_by x c (map mark ss))) [
        | true ↦ elim (same_role Configuration s.near.role) as (λ b. same_role Configuration s.near.role ≡ b → first_held (cond b (view (turned s) ∷ with_role Configuration (views_of c ss)) (with_role Configuration (views_of c ss))) ≡ cond b (cond s.is_down empty (low x)) (feed_by x c (map mark ss))) [
          | true ↦ λ is. h.0 (is_config s.near.role is)
          | false ↦ λ _. rest
        ] refl
        | false ↦ rest
      ]
    ]

-- ---- marks stay
module _ (Q : Session → Type 0) (both : (s : Session) → Q s → Q (turned s)) (f : Session → Session) (same : (s : Session) → Q s → mark (f s) ≡ mark s) where
  same_back : (s : Session) → Q s → mark (turned (f (turned s))) ≡ mark s
  same_back s q = ap (λ (m : Mark). (back m.0, m.1)) (same (turned s) (both s q))

  marks_session : (a b : Name) (ss : List Session) → Each Q ss → map mark (with_session a b f ss) ≡ map mark ss
  marks_session a b [] e = refl
  marks_session a b (s ∷ ss) e =
      elim (joins a b s) as (λ c. map mark (cond c (f s ∷ ss) (cond (joins b a s) (turned (f (turned s)) ∷ ss) (s ∷ with_session a b f ss))) ≡ map mark (s ∷ ss)) [
        | true ↦ ap (λ (m : Mark). m ∷ map mark ss) (same s e.0)
        | false ↦ elim (joins b a s) as (λ c. map mark (cond c (turned (f (turned s)) ∷ ss) (s ∷ with_session a b f ss)) ≡ map mark (s ∷ ss)) [
          | true ↦ ap (λ (m : Mark). m ∷ map mark ss) (same_back s e.0)
          | false ↦ ap (λ (ms : List Mark). mark s ∷ ms) (marks_session a b ss e.1)
        ]
      ]

  marks_node : (n : Name) (ss : List Session) → Each Q ss → map mark (map (at_node n f) ss) ≡ map mark ss
  marks_node n [] e = refl
  marks_node n (s ∷ ss) e = λ i. at_one i ∷ marks_node n ss e.1 i
    where
      at_one : mark (at_node n f s) ≡ mark s
      at_one = elim (is_at n s.near) as (λ c. mark (cond c (f s) (cond (is_at n s.far) (turned (f (turned s))) s)) ≡ mark s) [
        | true ↦ same s e.0
        | false ↦ elim (is_at n s.far) as (λ c. mark (cond c (turned (f (turned s))) s) ≡ mark s) [ true ↦ same_back s e.0 | false ↦ refl ]
      ]

-- ---- what is of concern on a slice's session
abbrev pub slice_concern : Role → Role → Key → Bool
slice_concern Controller Agent (Low k) = true
slice_concern _ _ k = false

pub record OfSlice (r q : Role) (k : Key) : Type 0 where
  pub control : r ≡ Controller
  pub agent : q ≡ Agent
  pub object : LowKey
  pub is : k ≡ Low object

pub of_slice : (r q : Role) (k : Key) → slice_concern r q k ≡ true → OfSlice r q k
of_slice Controller Agent (Low k) e = record { control = refl; agent = refl; object = k; is = refl }
of_slice Controller Agent (Vpn k) e = absurd (true≢false (sym e))
of_slice Controller Agent (Row i p) e = absurd (true≢false (sym e))
of_slice Controller Agent (Publish i p) e = absurd (true≢false (sym e))
of_slice Controller Agent (Subscribe i) e = absurd (true≢false (sym e))
of_slice Controller Configuration k e = absurd (true≢false (sym e))
of_slice Controller Controller k e = absurd (true≢false (sym e))
of_slice Configuration q k e = absurd (true≢false (sym e))
of_slice Agent q k e = absurd (true≢false (sym e))

pub slices_unpeered : (r q : Role) (k : Key) → slice_concern r q k ≡ true → are_peers r q ≡ false
slices_unpeered r q k e = let o = of_slice r q k e in (λ i. are_peers (o.control i) (o.agent i))

module _ (size : Name → Message → ℕ) (positive : (n : Name) (m : Message) → 0 < size n m) (x : Setup) (marks : List Mark) (others : AllByRecursion FarIsOther marks) where
  abbrev pub slice_goal : Name → Name → Key → Option Value
  slice_goal from to k = get (wanted_by_agent (bare (feed_by x from marks)) (at_address (address_in (agents_of x from) to))) k

  -- the feeds stand still
  abbrev pub Still : Session → Type 0
  Still s = FeedFit size positive x s × FeedDue size positive x s × FeedDue size positive x (turned s)

  abbrev pub StillGood : MachineState → Type 0
  StillGood w = (w.setup ≡ x) × (map mark w.sessions ≡ marks) × Each Still w.sessions

  still_turned : (s : Session) → Still s → Still (turned s)
  still_turned s k = (fit_turned size positive feed_concern feeds_unpeered (feed_goal x) s k.0, k.2, k.1)

  none_more : (n : ℕ) → 0 ≤ n + 0
  none_more n = omega arith

  still_taking : (f : Session → Session) → KeepsNodes f → ((p : NodePair) (s : Session) → nodes s ≡ p → FeedFit size positive x s → TakenDue size positive feed_concern feeds_unpeered (feed_goal x) p s (f s)) → (s : Session) → Still s → Still (f s) × (mark (f s) ≡ mark s)
  still_taking f kept takes s k =
      let t = takes (nodes s) s refl k.0 in (
        (
          t.fit,
          subst (λ p. Due size positive feed_concern feeds_unpeered (feed_goal x) p 0 (f s)) (sym (kept s)) (t.due 0 (due_more size positive feed_concern feeds_unpeered (feed_goal x) (nodes s) 0 (t.count + 0) s (none_more t.count) k.1)),
          subst (λ p. Due size positive feed_concern feeds_unpeered (feed_goal x) p 0 (turned (f s))) (ap back (sym (kept s))) (t.due_back 0 k.2),
        ),
        (λ i. (kept s i, t.down i)),
      )

  still_passed : (vs : List View) (s : Session) → Still s → Still (passed (wanted x vs (view s)) s) × (mark (passed (wanted x vs (view s)) s) ≡ mark s)
  still_passed vs s k =
      let m : Map = wanted x vs (view s) in
      let q = passed_due size positive feed_concern feeds_unpeered (feed_goal x) (nodes s) m s refl k.0 in
      let kept = passed_nodes m s in (
        (
          q.fit,
          subst (λ p. Due size positive feed_concern feeds_unpeered (feed_goal x) p 0 (passed m s)) (sym kept) (passed_due_far size positive feed_concern feeds_unpeered (feed_goal x) (nodes s) m s refl k.0 0 k.1),
          subst (λ p. Due size positive feed_concern feeds_unpeered (feed_goal x) p 0 (turned (passed m s))) (ap back (sym kept))
              (q.due_back (λ j c. ap (λ (m : Map). get m j) (role_wants x vs s (is_configuration s.near.role s.far.role j c))) 0 k.2),
        ),
        (λ i. (kept i, q.down i)),
      )

  hold_feeds : (ss : List Session) → Each Still ss → Each (HoldsFeed x) ss
  hold_feeds ss e = each_weaker Still (HoldsFeed x) (λ s k. holds_feed size positive x s k.0 k.2) ss e

  -- so what is wanted of slices stands still
  pub wants_still : (w : MachineState) → StillGood w → (n : Name) (s : Session) → s.near.name ≡ n → (k : Key) → slice_concern s.near.role s.far.role k ≡ true
      → get (wanted w.setup (views_of n w.sessions) (view s)) k ≡ slice_goal s.near.name s.far.name k
  wants_still w g n s at k c =
      let o = of_slice s.near.role s.far.role k c in
      let feed : first_held (with_role Configuration (views_of n w.sessions)) ≡ feed_by x s.near.name marks =
      feed_is x n w.sessions (hold_feeds w.sessions g.2) (subst (AllByRecursion FarIsOther) (sym g.1) others) ∙ (λ i. feed_by x (sym at i) (g.1 i)) in
      ap (λ (y : Setup). get (wanted y (views_of n w.sessions) (view s)) k) g.0
      ∙ ap (get (wanted x (views_of n w.sessions) (view s))) o.is
      ∙ wants_slice x (views_of n w.sessions) (view s) o.control o.agent o.object
      ∙ ap (λ (f : Map). get (wanted_by_agent (bare f) (at_address (address_in (agents_of x s.near.name) s.far.name))) (Low o.object)) feed
      ∙ ap (slice_goal s.near.name s.far.name) (sym o.is)

  still_change : (f : Session → Session) → ((s : Session) → Still s → Still (f s) × (mark (f s) ≡ mark s)) → (a b : Name) (w : MachineState) → StillGood w → StillGood (change_session a b f w)
  still_change f h a b w g = (
    g.0,
    marks_session Still still_turned f (λ s k. (h s k).1) a b w.sessions g.2 ∙ g.1,
    with_session_keeps Still still_turned f (λ s k. (h s k).0) a b w.sessions g.2,
  )

  pub slices_stand : Standing size positive slice_concern slices_unpeered slice_goal StillGood
  slices_stand = record {
    fit = λ w g. each_weaker Still (FeedFit size positive x) (λ s k. k.0) w.sessions g.2;
    right = wants_still;
    arrives = λ from to w g. still_change arrived (still_taking arrived arrived_nodes (arrived_due size positive feed_concern feeds_unpeered (feed_goal x))) to from w g;
    octets = λ n from to w g. still_change (octets_arrived size n) (still_taking (octets_arrived size n) (octets_nodes size n) (octets_due size positive feed_concern feeds_unpeered (feed_goal x) n)) to from w g;
    passes = λ n w g.
        let W = λ (s : Session). wanted w.setup (views_of n w.sessions) (view s) in
        let h : (s : Session) → Still s → Still (passed (W s) s) × (mark (passed (W s) s) ≡ mark s) = λ s k. subst (λ (y : Setup). Still (passed (wanted y (views_of n w.sessions) (view s)) s) × (mark (passed (wanted y (views_of n w.sessions) (view s)) s) ≡ mark s)) (sym g.0) (still_passed (views_of n w.sessions) s k) in (
          g.0,
          marks_node Still still_turned (λ s. passed (W s) s) (λ s k. (h s k).1) n w.sessions g.2 ∙ g.1,
          nodes_keep Still still_turned (λ s. passed (W s) s) (λ s k. (h s k).0) n w.sessions g.2,
        );
  }

  -- ---- what is held in the end
  held_slice : (s : Session) → ((k : LowKey) → get s.far.held (Low k) ≡ slice_goal s.near.name s.far.name (Low k)) → (objects s.far.held ≡ slice (low x) (address_in (agents_of x s.near.name) s.far.name)) ⊎ (objects s.far.held ≡ [])
  held_slice s h =
      let a : Addr = address_in (agents_of x s.near.name) s.far.name in
      let is : objects s.far.held ≡ slice (feed_by x s.near.name marks) a =
      objects_same s.far.held (wanted_by_agent (bare (feed_by x s.near.name marks)) (at_address a)) h ∙ objects-wanted (bare (feed_by x s.near.name marks)) (at_address a) in
      elim (low_or_none x s.near.name marks) as (λ _. (objects s.far.held ≡ slice (low x) a) ⊎ (objects s.far.held ≡ [])) [
        | inl e ↦ inl (is ∙ ap (λ (f : Map). slice f a) e)
        | inr e ↦ inr (is ∙ ap (λ (f : Map). slice f a) e ∙ ap (λ (os : List (LowKey × LowValue)). filter (λ (e : LowKey × LowValue). is_in_slice empty a e.0 e.1) os) no_objects)
      ]

  pub holds_slice : (s : Session) → FeedFit size positive x s → Due size positive slice_concern slices_unpeered slice_goal (nodes (turned s)) 0 (turned s) → HoldsSlice x s
  holds_slice s f d control agent =
      elim (fit_turned size positive feed_concern feeds_unpeered (feed_goal x) s f).0 as (λ _. (objects s.far.held ≡ slice (low x) (address_in (agents_of x s.near.name) s.far.name)) ⊎ (objects s.far.held ≡ [])) [
        | inl j ↦ held_slice s (λ k. held_joined size positive slice_concern slices_unpeered slice_goal (turned s) j d (Low k) (λ i. slice_concern (control i) (agent i) (Low k)))
        | inr l ↦ inr (ap objects (held_down size positive slice_concern slices_unpeered slice_goal (turned s) l d) ∙ no_objects)
      ]
