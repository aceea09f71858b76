-- Each entry that was sent, is held or is in flight is one that its sender may tell: every step of an end keeps that.
use Rattle.std.specs.FinMap.{empty, get}
use Rattle.std.specs.List.{AllByRecursion, cons_option, filter_map}
use Rattle.std.specs.Prelude.{List, cond, false, map, nat_lt, true, ℕ, [], ◌++◌, ◌+◌, ◌-◌, ◌∷◌, ◌≡◌}
use Rattle.std.specs.declared.option.Option.TheVariants.{None, Some}
use Rattle.std.specs.declared.option.Option.{Option}
use Rattle.std.proofs.Common.{inl, inr, refl, subst, sym}
use Rattle.ov_sync.specs.Keyed.{PutOf, Values, change, change_at, changed, keys_of_either}
use Rattle.ov_sync.specs.declared.Delta.TheVariants.{Drop, Put}
use Rattle.ov_sync.proofs.KeyedLaws.{changed_values, empty_values}
use Rattle.config_types.specs.declared.topology.Node.{Node}
use Rattle.ov_types.specs.declared.rows.NodeId.{NodeId}
use Rattle.node_model.specs.Members.{Member}
use Rattle.node_model.specs.Keys.{Key, key_cmp}
use Rattle.node_model.specs.Maps.{Change, Map, difference}
use Rattle.node_model.specs.Step.{Confirmed, Idle, Opened, Phase, Up}
use Rattle.node_model.specs.Values.{Value, same_value}
use Rattle.node_model.proofs.Orders.{key_exact, key_total}
use Rattle.machine_laws.specs.MachineModel.Moments.{Each, NodePair, nodes}
use Rattle.machine_laws.specs.MachineModel.Network.{sessions_of, view, views_of, wanted}
use Rattle.machine_laws.specs.MachineModel.Session.{Agent, Carries, Controller, Hello, Keepalive, Message, Open, Role, Session, arrived, closed, greeting, is_peering, item_took, may_send, octets_arrived, opened, passed, peer_took, shut, told, took, took_first, took_octets, with_breaks, with_phase, without_first}
use Rattle.machine_laws.specs.MachineModel.Setup.{Name, Setup}
use Rattle.machine_laws.proofs.MachineModel.NetworkFact.{opened_nodes, passed_nodes}
use Rattle.machine_laws.proofs.MachineModel.NodesFact.{arrived_nodes, octets_nodes}
use Rattle.machine_laws.proofs.MachineModel.SessionFact.{sends, told_cases}
use Rattle.machine_laws.proofs.EachFact.{Keeps}
use Rattle.running_laws.proofs.Fitness.{ChangeOf}

module _ (P : Key → Value → Type 0) where
  put_of : (c : Change) → ChangeOf P c → PutOf P c
  put_of (Put k v) h = h
  put_of (Drop k) h = tt

  changes_at : (sent wanted : Map) (k : Key) (p q : Option Value) (cs : List Change) → get sent k ≡ p → get wanted k ≡ q → Values P sent → Values P wanted → AllByRecursion (ChangeOf P) cs → AllByRecursion (ChangeOf P) (cons_option (change same_value k p q) cs)
  changes_at sent wanted k None None cs e f s w h = h
  changes_at sent wanted k (Some v) None cs e f s w h = ((v, s k v e), h)
  changes_at sent wanted k None (Some v) cs e f s w h = (w k v f, h)
  changes_at sent wanted k (Some u) (Some v) cs e f s w h =
      elim (same_value u v) as (λ c. AllByRecursion (ChangeOf P) (cons_option (cond c None (Some (Put k v))) cs)) [ true ↦ h | false ↦ (w k v f, h) ]

  -- between two maps of such entries each change is one of them
  difference_changes : (sent wanted : Map) → Values P sent → Values P wanted → AllByRecursion (ChangeOf P) (difference sent wanted)
  difference_changes sent wanted s w = each (keys_of_either sent wanted)
    where
      each : (ks : List Key) → AllByRecursion (ChangeOf P) (filter_map (change_at same_value sent wanted) ks)
      each [] = tt
      each (k ∷ ks) = changes_at sent wanted k (get sent k) (get wanted k) (filter_map (change_at same_value sent wanted) ks) refl refl s w (each ks)

  abbrev pub MessageOf : Message → Type 0
  MessageOf (Carries c) = ChangeOf P c
  MessageOf m = Unit {0}

  abbrev pub MessagesOf : List Message → Type 0
  MessagesOf f = AllByRecursion MessageOf f

  abbrev pub EntriesOf : Map → Type 0
  EntriesOf m = Values {R = key_cmp} P m

  append_messages : (f g : List Message) → MessagesOf f → MessagesOf g → MessagesOf (f ++ g)
  append_messages [] g a b = b
  append_messages (m ∷ f) g a b = (a.0, append_messages f g a.1 b)

  carried : (cs : List Change) → AllByRecursion (ChangeOf P) cs → MessagesOf (map Carries cs)
  carried [] a = tt
  carried (c ∷ cs) a = (a.0, carried cs a.1)

  no_entries : EntriesOf empty
  no_entries = empty_values key_cmp P

-- `fit` says what a node of the one role may tell one of the other
module _ (fit : Role → Role → Key → Value → Type 0) where
  -- on a session whose near end has the one role and whose far end has the other
  pub record SentAt (p q : Role) (s : Session) : Type 0 where
    pub near_sent : EntriesOf (fit p q) s.near.sent
    pub far_sent : EntriesOf (fit q p) s.far.sent
    pub near_held : EntriesOf (fit q p) s.near.held
    pub far_held : EntriesOf (fit p q) s.far.held
    pub near_flight : MessagesOf (fit p q) s.near.flight
    pub far_flight : MessagesOf (fit q p) s.far.flight

  module _ (p q : Role) where
    shut_sent : (s : Session) → SentAt p q s → SentAt p q (shut s)
    shut_sent s f = record { near_sent = no_entries (fit p q); far_sent = f.far_sent; near_held = no_entries (fit q p); far_held = f.far_held; near_flight = tt; far_flight = tt }

    told_sent : (ms : List Message) (s : Session) → MessagesOf (fit p q) ms → SentAt p q s → SentAt p q (told ms s)
    told_sent ms s h f =
        elim (told_cases ms s) as (λ _. SentAt p q (told ms s)) [
          | inl r ↦ subst (SentAt p q) (sym r.1) (record { near_sent = no_entries (fit p q); far_sent = f.far_sent; near_held = no_entries (fit q p); far_held = f.far_held; near_flight = tt; far_flight = tt })
          | inr r ↦ subst (SentAt p q) (sym r.1) (elim s.is_down as (λ d. SentAt p q (with_breaks r.0 (sends ms (record { is_down = d; near = s.near; far = s.far })))) [
            | true ↦ record { near_sent = f.near_sent; far_sent = f.far_sent; near_held = f.near_held; far_held = f.far_held; near_flight = f.near_flight; far_flight = f.far_flight }
            | false ↦ record { near_sent = f.near_sent; far_sent = f.far_sent; near_held = f.near_held; far_held = f.far_held; near_flight = append_messages (fit p q) s.near.flight ms f.near_flight h; far_flight = f.far_flight }
          ])
        ]

    passed_sent : (m : Map) (s : Session) → EntriesOf (fit p q) m → SentAt p q s → SentAt p q (passed m s)
    unfolding passed
    passed_sent m s h f =
        elim (may_send s) as (λ b. SentAt p q (cond b (told (map Carries (difference s.near.sent m)) (record s { near = record s.near { sent = m } })) s)) [
          | true ↦ told_sent (map Carries (difference s.near.sent m)) (record s { near = record s.near { sent = m } }) (carried (fit p q) (difference s.near.sent m) (difference_changes (fit p q) s.near.sent m f.near_sent h))
              (record { near_sent = h; far_sent = f.far_sent; near_held = f.near_held; far_held = f.far_held; near_flight = f.near_flight; far_flight = f.far_flight })
          | false ↦ f
        ]

    phase_sent : (r : Phase) (s : Session) → SentAt p q s → SentAt p q (with_phase r s)
    phase_sent r s f = record { near_sent = f.near_sent; far_sent = f.far_sent; near_held = f.near_held; far_held = f.far_held; near_flight = f.near_flight; far_flight = f.far_flight }

    changed_held : (c : Change) (s : Session) → ChangeOf (fit q p) c → SentAt p q s → SentAt p q (record s { near = record s.near { held = changed s.near.held c } })
    changed_held c s h f = record { near_sent = f.near_sent; far_sent = f.far_sent; near_held = changed_values {R = key_cmp} (fit q p) key_total key_exact s.near.held c f.near_held (put_of (fit q p) c h); far_held = f.far_held; near_flight = f.near_flight; far_flight = f.far_flight }

    peer_took_sent : (r : Phase) (m : Message) (s : Session) → MessageOf (fit q p) m → SentAt p q s → SentAt p q (peer_took r m s)
    peer_took_sent Idle m s h f = f
    peer_took_sent Opened Open s h f = told_sent (Keepalive ∷ []) (with_phase Confirmed s) (tt, tt) (phase_sent Confirmed s f)
    peer_took_sent Confirmed Keepalive s h f = phase_sent Up s f
    peer_took_sent Up Keepalive s h f = f
    peer_took_sent Up (Carries c) s h f = changed_held c s h f
    peer_took_sent _ _ s h f = shut_sent s f

    item_took_sent : (r : Phase) (m : Message) (s : Session) → MessageOf (fit q p) m → SentAt p q s → SentAt p q (item_took r m s)
    item_took_sent Idle m s h f = f
    item_took_sent Opened Hello s h f = phase_sent Up s f
    item_took_sent Up (Carries c) s h f = changed_held c s h f
    item_took_sent _ _ s h f = shut_sent s f

    took_sent : (m : Message) (ms : List Message) (s : Session) → MessagesOf (fit q p) (m ∷ ms) → SentAt p q s → SentAt p q (took m (without_first ms s))
    took_sent m ms s h f =
        let g : SentAt p q (without_first ms s) = record { near_sent = f.near_sent; far_sent = f.far_sent; near_held = f.near_held; far_held = f.far_held; near_flight = f.near_flight; far_flight = h.1 } in
        elim (is_peering s) as (λ b. SentAt p q (cond b (peer_took s.near.phase m (without_first ms s)) (item_took s.near.phase m (without_first ms s)))) [
          | true ↦ peer_took_sent s.near.phase m (without_first ms s) h.0 g
          | false ↦ item_took_sent s.near.phase m (without_first ms s) h.0 g
        ]

    first_sent : (f : List Message) (s : Session) → MessagesOf (fit q p) f → SentAt p q s → SentAt p q (took_first f s)
    first_sent [] s h g = g
    first_sent (m ∷ ms) s h g = took_sent m ms s h g

    closed_sent : (s : Session) → SentAt p q s → SentAt p q (record s { near = closed s.near })
    closed_sent s f = record { near_sent = no_entries (fit p q); far_sent = f.far_sent; near_held = no_entries (fit q p); far_held = f.far_held; near_flight = tt; far_flight = f.far_flight }

    arrived_sent : (s : Session) → SentAt p q s → SentAt p q (arrived s)
    unfolding arrived
    arrived_sent s f =
        elim s.near.notice as (λ b. SentAt p q (cond b (record s { near = closed s.near }) (took_first s.far.flight s))) [
          | true ↦ closed_sent s f
          | false ↦ first_sent s.far.flight s f.far_flight f
        ]

    opened_sent : (s : Session) → SentAt p q s → SentAt p q (opened s)
    unfolding opened
    opened_sent s f =
        told_sent (greeting s ∷ []) (record { is_down = false; near = record s.near { phase = Opened }; far = s.far })
        (elim (is_peering s) as (λ b. MessagesOf (fit p q) (cond b Open Hello ∷ [])) [ true ↦ (tt, tt) | false ↦ (tt, tt) ])
        (record { near_sent = f.near_sent; far_sent = f.far_sent; near_held = f.near_held; far_held = f.far_held; near_flight = f.near_flight; far_flight = f.far_flight })

    module _ (size : Name → Message → ℕ) where
      octets_sent : (g : List Message) (n : ℕ) (s : Session) → MessagesOf (fit q p) g → SentAt p q s → SentAt p q (took_octets size n g s)
      octets_sent [] n s h f = f
      octets_sent (m ∷ ms) n s h f =
          elim s.is_down as (λ b. SentAt p q (cond b s (cond (nat_lt n (size s.far.name m - s.far.taken)) (record s { far = record s.far { taken = s.far.taken + n } }) (took_octets size (n - (size s.far.name m - s.far.taken)) ms (took m (without_first ms s)))))) [
            | true ↦ f
            | false ↦ elim (nat_lt n (size s.far.name m - s.far.taken)) as (λ b. SentAt p q (cond b (record s { far = record s.far { taken = s.far.taken + n } }) (took_octets size (n - (size s.far.name m - s.far.taken)) ms (took m (without_first ms s))))) [
              | true ↦ record { near_sent = f.near_sent; far_sent = f.far_sent; near_held = f.near_held; far_held = f.far_held; near_flight = f.near_flight; far_flight = f.far_flight }
              | false ↦ octets_sent ms (n - (size s.far.name m - s.far.taken)) (took m (without_first ms s)) h.1 (took_sent m ms s h f)
            ]
          ]

      octets_arrived_sent : (n : ℕ) (s : Session) → SentAt p q s → SentAt p q (octets_arrived size n s)
      unfolding octets_arrived
      octets_arrived_sent n s f =
          elim s.near.notice as (λ b. SentAt p q (cond b (record s { near = closed s.near }) (took_octets size n s.far.flight s))) [
            | true ↦ closed_sent s f
            | false ↦ octets_sent s.far.flight n s f.far_flight f
          ]

-- and `placed` what holds of the nodes of a session
module _ (fit : Role → Role → Key → Value → Type 0) (placed : NodePair → Type 0) (back : (p : NodePair) → placed p → placed (p.1, p.0)) where
  pub record IsSent (s : Session) : Type 0 where
    pub place : placed (nodes s)
    pub sent : SentAt fit s.near.role s.far.role s

  -- where a step keeps the nodes
  at_nodes : (s t : Session) → nodes t ≡ nodes s → placed (nodes s) → SentAt fit s.near.role s.far.role t → IsSent t
  at_nodes s t e h f = record { place = subst placed (sym e) h; sent = subst (λ (p : NodePair). SentAt fit p.0.1 p.1.1 t) (sym e) f }

  -- where what a node wants is fit whenever what it holds is, all is at every moment
  abbrev pub WantsFit : (Setup → Type 0) → Type 0
  WantsFit Valid = (x : Setup) (ss : List Session) (n : Name) → Valid x → Each IsSent ss → Each (λ s. EntriesOf (fit s.near.role s.far.role) (wanted x (views_of n ss) (view s))) (sessions_of n ss)

  -- the new session of a compute node is of two nodes that are placed
  abbrev pub PlacesNew : (Setup → Type 0) → Type 0
  PlacesNew Valid = (x : Setup) → Valid x → (c : NodeId) → Member c x.topology.controllers → (n : Node) → Member n x.topology.nodes → placed ((c.name, Controller), (n.name, Agent))

  pub sent_keeps : (size : Name → Message → ℕ) (Valid : Setup → Type 0) → WantsFit Valid → PlacesNew Valid → Keeps size Valid IsSent (λ s m. EntriesOf (fit s.near.role s.far.role) m)
  sent_keeps size Valid wants news = record {
    both = λ s f. record { place = back (nodes s) f.place; sent = record { near_sent = f.sent.far_sent; far_sent = f.sent.near_sent; near_held = f.sent.far_held; far_held = f.sent.near_held; near_flight = f.sent.far_flight; far_flight = f.sent.near_flight } };
    begins = λ x v c m n k. record {
      place = news x v c m n k;
      sent = record {
        near_sent = no_entries (fit Controller Agent);
        far_sent = no_entries (fit Agent Controller);
        near_held = no_entries (fit Agent Controller);
        far_held = no_entries (fit Controller Agent);
        near_flight = tt;
        far_flight = tt;
      };
    };
    arrives = λ s f. at_nodes s (arrived s) (arrived_nodes s) f.place (arrived_sent fit s.near.role s.far.role s f.sent);
    octets = λ n s f. at_nodes s (octets_arrived size n s) (octets_nodes size n s) f.place (octets_arrived_sent fit s.near.role s.far.role size n s f.sent);
    passes = λ m s h f. at_nodes s (passed m s) (passed_nodes m s) f.place (passed_sent fit s.near.role s.far.role m s h f.sent);
    shuts = λ s f. record { place = f.place; sent = shut_sent fit s.near.role s.far.role s f.sent };
    loses = λ s f. record { place = f.place; sent = record { near_sent = f.sent.near_sent; far_sent = f.sent.far_sent; near_held = f.sent.near_held; far_held = f.sent.far_held; near_flight = tt; far_flight = tt } };
    opens = λ s f. at_nodes s (opened s) (opened_nodes s) f.place (opened_sent fit s.near.role s.far.role s f.sent);
    breaks = λ a b s f. record { place = f.place; sent = record { near_sent = f.sent.near_sent; far_sent = f.sent.far_sent; near_held = f.sent.near_held; far_held = f.sent.far_held; near_flight = f.sent.near_flight; far_flight = f.sent.far_flight } };
    wants = wants;
  }
