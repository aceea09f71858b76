-- At every moment a control node has sent another one routes alone.
use Rattle.std.specs.Prelude.{◌≡◌, ◌++◌, ℕ, List, [], ◌∷◌, map, cond, true, false}
use Rattle.std.specs.FinMap.{empty, get}
use Rattle.std.specs.declared.option.Option.TheVariants.{Some}
use Rattle.std.proofs.Common.{ap, inl, inr, refl, subst, sym, ◌∙◌}
use Rattle.schedule_script.specs.ConfigCheck.Checked.{Checked}
use Rattle.node_laws.specs.NodeModel.Keys.{Key, key_cmp, Low, Publish, Row, Subscribe, Vpn}
use Rattle.node_laws.specs.NodeModel.Maps.{Map, difference}
use Rattle.node_laws.specs.NodeModel.Paths.{Holdings, own_paths}
use Rattle.node_laws.specs.NodeModel.Reaching.{reoriginated_paths}
use Rattle.node_laws.specs.NodeModel.Values.{Value}
use Rattle.node_laws.specs.NodeModel.Wants.{route_entry, wanted_by_peers}
use Rattle.node_laws.proofs.NodeModel.Members.{from_entry, from_map}
use Rattle.node_laws.proofs.NodeModel.Orders.{key_exact, key_total}
use Rattle.machine_model.specs.Setup.{Name, Setup, agents_of}
use Rattle.machine_model.specs.Session.{Carries, Controller, Message, Session, SessionEnd, arrived, may_send, octets_arrived, opened, passed, shut, told, turned, with_breaks}
use Rattle.machine_model.specs.Events.{MachineEvent, after}
use Rattle.machine_model.specs.Network.{MachineState, View, holdings_of, sessions_of, start, view, views_of, wanted, wanted_from, wanted_from_control}
use Rattle.machine_model.specs.Moments.{Each, EditsAreValid, NodePair, nodes}
use Rattle.machine_model.proofs.NetworkFact.{opened_nodes, passed_nodes}
use Rattle.machine_model.proofs.NodesFact.{arrived_nodes, octets_nodes}
use Rattle.machine_model.proofs.OvSync.KeyedLaws.{empty_values}
use Rattle.machine_model.proofs.SessionFact.{sends, told_cases}
use Rattle.machine_model.proofs.Start.{start_each}
use Rattle.machine_model.proofs.ToldFact.{arrived_touches, passed_touches}
use Rattle.machine_model.proofs.ToldNext.{octets_touches}
use Rattle.machine_laws.proofs.EachFact.{Keeps, after_keeps, edits_valid}
use Rattle.machine_laws.proofs.Told.{pair}
use Rattle.machine_moment_laws.proofs.Quiet.{opened_leaves}
use Rattle.machine_moment_laws.proofs.SentStays.{SentStays, arrived_stays, octets_arrived_stays, opened_stays}

abbrev pub IsRoute : Key → Value → Type 0
IsRoute (Vpn k) v = Unit {0}
IsRoute (Low k) v = ⊥
IsRoute (Publish i p) v = ⊥
IsRoute (Row i p) v = ⊥
IsRoute (Subscribe i) v = ⊥

abbrev pub AreRoutes : Map → Type 0
AreRoutes m = (k : Key) (v : Value) → get m k ≡ Some v → IsRoute k v

none_routes : AreRoutes empty
none_routes = empty_values key_cmp IsRoute

wanted_routes : (h : Holdings) → AreRoutes (wanted_by_peers h)
wanted_routes h k v e =
    let q = from_map route_entry (pair k v) (own_paths h ++ reoriginated_paths h) (from_entry key_total key_exact k v (map route_entry (own_paths h ++ reoriginated_paths h)) e) in
    subst (λ (e : Key × Value). IsRoute e.0 e.1) q.2 tt

-- ---- on a session between two control nodes
abbrev pub MayTellPeer : Session → Map → Type 0
MayTellPeer s m = s.near.role ≡ Controller → s.far.role ≡ Controller → AreRoutes m

abbrev pub HasToldPeer : Session → Type 0
HasToldPeer s = MayTellPeer s s.near.sent

abbrev pub HaveToldPeers : Session → Type 0
HaveToldPeers s = HasToldPeer s × HasToldPeer (turned s)

near_told : (s t : Session) → nodes t ≡ nodes s → SentStays s t → HasToldPeer s → HasToldPeer t
near_told s t e k q a b = elim k as (λ _. AreRoutes t.near.sent) [
  | inl f ↦ subst AreRoutes (sym f) (q (ap (λ (p : NodePair). p.0.1) (sym e) ∙ a) (ap (λ (p : NodePair). p.1.1) (sym e) ∙ b))
  | inr f ↦ subst AreRoutes (sym f) none_routes
]

far_told : (s t : Session) → nodes t ≡ nodes s → t.far.sent ≡ s.far.sent → HasToldPeer (turned s) → HasToldPeer (turned t)
far_told s t e k q a b = subst AreRoutes (sym k) (q (ap (λ (p : NodePair). p.1.1) (sym e) ∙ a) (ap (λ (p : NodePair). p.0.1) (sym e) ∙ b))

-- a pass sends what is wanted, or leaves what was sent, or closes the end
told_sent : (P : Map → Type 0) → P empty → (ms : List Message) (s : Session) → P s.near.sent → P (told ms s).near.sent
told_sent P none ms s p =
    elim (told_cases ms s) as (λ _. P (told ms s).near.sent) [
      | inl q ↦ subst P (sym (ap (λ (t : Session). t.near.sent) q.1)) none
      | inr q ↦ subst P (sym (ap (λ (t : Session). t.near.sent) q.1 ∙ sent_same s.is_down s.near s.far ms q.0)) p
    ]
  where
    sent_same : (d : _) (near far : SessionEnd) (ms : List Message) (b : List ℕ) → (with_breaks b (sends ms (record { is_down = d; near = near; far = far }))).near.sent ≡ near.sent
    sent_same true near far ms b = refl
    sent_same false near far ms b = refl

passed_sent : (P : Map → Type 0) → P empty → (m : Map) (s : Session) → P m → P s.near.sent → P (passed m s).near.sent
unfolding passed
passed_sent P none m s wants was =
    elim (may_send s) as (λ b. P (cond b (told (map Carries (difference s.near.sent m)) (record s { near = record s.near { sent = m } })) s).near.sent) [
      | true ↦ told_sent P none (map Carries (difference s.near.sent m)) (record s { near = record s.near { sent = m } }) wants
      | false ↦ was
    ]

wants_routes : (x : Setup) (vs : List View) (v : View) → v.role ≡ Controller → v.other_role ≡ Controller → AreRoutes (wanted x vs v)
unfolding wanted
wants_routes x vs v a b =
    subst AreRoutes (sym (ap (wanted_from x vs v) a ∙ ap (wanted_from_control x.topology.asn (agents_of x v.name) vs v) b)) (wanted_routes (holdings_of x.topology.asn (agents_of x v.name) vs))

wants_each : (x : Setup) (vs : List View) (own : List Session) → Each (λ s. MayTellPeer s (wanted x vs (view s))) own
wants_each x vs [] = tt
wants_each x vs (s ∷ own) = (wants_routes x vs (view s), wants_each x vs own)

pub peers_keep : (size : Name → Message → ℕ) → Keeps size (λ _. Unit {0}) HaveToldPeers MayTellPeer
peers_keep size = record {
  both = λ s q. (q.1, q.0);
  begins = λ x v c m n k. ((λ a b. none_routes), (λ a b. none_routes));
  arrives = λ s q. (near_told s (arrived s) (arrived_nodes s) (arrived_stays s) q.0, far_told s (arrived s) (arrived_nodes s) (arrived_touches s).sent q.1);
  octets = λ n s q. (near_told s (octets_arrived size n s) (octets_nodes size n s) (octets_arrived_stays size n s) q.0, far_told s (octets_arrived size n s) (octets_nodes size n s) (octets_touches size n s).sent q.1);
  passes = λ m s may q. (
    (λ a b. let e = passed_nodes m s in
        let a' = ap (λ (p : NodePair). p.0.1) (sym e) ∙ a in
        let b' = ap (λ (p : NodePair). p.1.1) (sym e) ∙ b in
        passed_sent AreRoutes none_routes m s (may a' b') (q.0 a' b')),
    far_told s (passed m s) (passed_nodes m s) (passed_touches m s).sent q.1,
  );
  shuts = λ s q. ((λ a b. none_routes), far_told s (shut s) refl refl q.1);
  loses = λ s q. q;
  opens = λ s q. (near_told s (opened s) (opened_nodes s) (opened_stays s) q.0, far_told s (opened s) (opened_nodes s) (opened_leaves s).1 q.1);
  breaks = λ a b s q. q;
  wants = λ x ss n v e. wants_each x (views_of n ss) (sessions_of n ss);
}

-- ---- at every moment
pub start_routes : (x : Checked) → Each HaveToldPeers (start x).sessions
start_routes x = start_each HaveToldPeers (λ n m r q. ((λ a b. none_routes), (λ a b. none_routes))) x

pub routes_after : (size : Name → Message → ℕ) (Old : Setup → Type 0) (w : MachineState) (es : List MachineEvent) → EditsAreValid size Old w es → Each HaveToldPeers w.sessions → Each HaveToldPeers (after size w es).sessions
routes_after size Old w es ok e =
    (after_keeps size (λ _. Unit {0}) HaveToldPeers MayTellPeer (peers_keep size) w es (edits_valid size Old (λ _. Unit {0}) (λ y h. tt) w es ok) (tt, e)).1
