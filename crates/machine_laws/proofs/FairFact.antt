-- Each value that is held or in flight is one that its sender may want.
use Rattle.std.specs.Prelude.{◌≡◌, ℕ, ◌+◌, ◌-◌, List, [], ◌∷◌, ◌++◌, map, true, false, cond, nat_lt}
use Rattle.std.specs.List.{AllByRecursion}
use Rattle.std.specs.FinMap.{empty}
use Rattle.std.proofs.Common.{sym, subst, inl, inr}
use Rattle.machine_model.specs.OvSync.Keyed.{PutOf}
use Rattle.machine_model.proofs.OvSync.KeyedLaws.{difference_puts, changed_values, empty_values}
use Rattle.node_laws.specs.NodeModel.Keys.{Key, key_cmp}
use Rattle.node_laws.proofs.NodeModel.Orders.{key_total, key_exact}
use Rattle.node_laws.specs.NodeModel.Values.{Value, same_value}
use Rattle.node_laws.specs.NodeModel.Maps.{Map, Change, difference}
use Rattle.machine_model.specs.Setup.{Name, Setup}
use Rattle.machine_model.specs.Session.{Agent, Controller, Role, Message, Open, Keepalive, Hello, Carries, Session, closed, is_peering, may_send, shut, with_breaks, told, passed, greeting, opened, with_phase, peer_took, item_took, took, without_first, took_first, arrived, took_octets, octets_arrived}
use Rattle.node_laws.specs.NodeModel.Step.{Phase, Idle, Opened, Confirmed, Up}
use Rattle.machine_laws.specs.Settling.{FairMap, FairMessage, FairMessages, FairAt, Fair, WantsFair}
use Rattle.machine_model.proofs.SessionFact.{sends, told_cases}
use Rattle.machine_model.proofs.NetworkFact.{NodePair, nodes, passed_nodes, opened_nodes}
use Rattle.machine_model.proofs.NodesFact.{arrived_nodes, octets_nodes}
use Rattle.machine_laws.proofs.EachFact.{Keeps}

module _ (fair : Name × Role → Name × Role → Key → Value → Type 0) where
  fair_append : (from to : Name × Role) (f g : List Message) → FairMessages fair from to f → FairMessages fair from to g → FairMessages fair from to (f ++ g)
  fair_append from to [] g a b = b
  fair_append from to (m ∷ f) g a b = (a.0, fair_append from to f g a.1 b)

  fair_changes : (from to : Name × Role) (ds : List Change) → AllByRecursion (PutOf (fair from to)) ds → FairMessages fair from to (map Carries ds)
  fair_changes from to [] a = tt
  fair_changes from to (d ∷ ds) a = (a.0, fair_changes from to ds a.1)

  no_values : (from to : Name × Role) → FairMap fair from to empty
  no_values from to = empty_values key_cmp (fair from to)

  fair_shut : (p : NodePair) (s : Session) → FairAt fair p s → FairAt fair p (shut s)
  fair_shut p s f = record { near_held = no_values p.1 p.0; far_held = f.far_held; near_flight = tt; far_flight = tt }

  fair_told : (p : NodePair) (ms : List Message) (s : Session) → FairMessages fair p.0 p.1 ms → FairAt fair p s → FairAt fair p (told ms s)
  fair_told p ms s h f =
      elim (told_cases ms s) as (λ _. FairAt fair p (told ms s)) [
        | inl q ↦ subst (FairAt fair p) (sym q.1) (record { near_held = no_values p.1 p.0; far_held = f.far_held; near_flight = tt; far_flight = tt })
        | inr q ↦ subst (FairAt fair p) (sym q.1) (elim s.is_down as (λ d. FairAt fair p (with_breaks q.0 (sends ms (record { is_down = d; near = s.near; far = s.far })))) [
          | true ↦ record { near_held = f.near_held; far_held = f.far_held; near_flight = f.near_flight; far_flight = f.far_flight }
          | false ↦ record { near_held = f.near_held; far_held = f.far_held; near_flight = fair_append p.0 p.1 s.near.flight ms f.near_flight h; far_flight = f.far_flight }
        ])
      ]

  fair_passed : (p : NodePair) (m : Map) (s : Session) → FairMap fair p.0 p.1 m → FairAt fair p s → FairAt fair p (passed m s)
  unfolding passed
  fair_passed p m s h f =
      elim (may_send s) as (λ b. FairAt fair p (cond b (told (map Carries (difference s.near.sent m)) (record s { near = record s.near { sent = m } })) s)) [
        | true ↦ fair_told p (map Carries (difference s.near.sent m)) (record s { near = record s.near { sent = m } }) (fair_changes p.0 p.1 (difference s.near.sent m) (difference_puts {R = key_cmp} (fair p.0 p.1) same_value s.near.sent m h))
            (record { near_held = f.near_held; far_held = f.far_held; near_flight = f.near_flight; far_flight = f.far_flight })
        | false ↦ f
      ]

  fair_peer_took : (p : NodePair) (q : Phase) (m : Message) (s : Session) → FairMessage fair p.1 p.0 m → FairAt fair p s → FairAt fair p (peer_took q m s)
  fair_peer_took p Idle m s h f = f
  fair_peer_took p Opened Open s h f = fair_told p (Keepalive ∷ []) (with_phase Confirmed s) (tt, tt) (record { near_held = f.near_held; far_held = f.far_held; near_flight = f.near_flight; far_flight = f.far_flight })
  fair_peer_took p Confirmed Keepalive s h f = record { near_held = f.near_held; far_held = f.far_held; near_flight = f.near_flight; far_flight = f.far_flight }
  fair_peer_took p Up Keepalive s h f = f
  fair_peer_took p Up (Carries d) s h f = record { near_held = changed_values {R = key_cmp} (fair p.1 p.0) key_total key_exact s.near.held d f.near_held h; far_held = f.far_held; near_flight = f.near_flight; far_flight = f.far_flight }
  fair_peer_took p _ _ s h f = fair_shut p s f

  fair_item_took : (p : NodePair) (q : Phase) (m : Message) (s : Session) → FairMessage fair p.1 p.0 m → FairAt fair p s → FairAt fair p (item_took q m s)
  fair_item_took p Idle m s h f = f
  fair_item_took p Opened Hello s h f = record { near_held = f.near_held; far_held = f.far_held; near_flight = f.near_flight; far_flight = f.far_flight }
  fair_item_took p Up (Carries d) s h f = record { near_held = changed_values {R = key_cmp} (fair p.1 p.0) key_total key_exact s.near.held d f.near_held h; far_held = f.far_held; near_flight = f.near_flight; far_flight = f.far_flight }
  fair_item_took p _ _ s h f = fair_shut p s f

  fair_took : (p : NodePair) (m : Message) (ms : List Message) (s : Session) → FairMessages fair p.1 p.0 (m ∷ ms) → FairAt fair p s → FairAt fair p (took m (without_first ms s))
  fair_took p m ms s h f =
      let g : FairAt fair p (without_first ms s) = record { near_held = f.near_held; far_held = f.far_held; near_flight = f.near_flight; far_flight = h.1 } in
      elim (is_peering s) as (λ b. FairAt fair p (cond b (peer_took s.near.phase m (without_first ms s)) (item_took s.near.phase m (without_first ms s)))) [
        | true ↦ fair_peer_took p s.near.phase m (without_first ms s) h.0 g
        | false ↦ fair_item_took p s.near.phase m (without_first ms s) h.0 g
      ]

  fair_first : (p : NodePair) (f : List Message) (s : Session) → FairMessages fair p.1 p.0 f → FairAt fair p s → FairAt fair p (took_first f s)
  fair_first p [] s h g = g
  fair_first p (m ∷ ms) s h g = fair_took p m ms s h g

  fair_arrived : (p : NodePair) (s : Session) → FairAt fair p s → FairAt fair p (arrived s)
  unfolding arrived
  fair_arrived p s f =
      elim s.near.notice as (λ b. FairAt fair p (cond b (record s { near = closed s.near }) (took_first s.far.flight s))) [
        | true ↦ record { near_held = no_values p.1 p.0; far_held = f.far_held; near_flight = tt; far_flight = f.far_flight }
        | false ↦ fair_first p s.far.flight s f.far_flight f
      ]

  module _ (size : Name → Message → ℕ) where
    fair_octets : (p : NodePair) (g : List Message) (n : ℕ) (s : Session) → FairMessages fair p.1 p.0 g → FairAt fair p s → FairAt fair p (took_octets size n g s)
    fair_octets p [] n s h f = f
    fair_octets p (m ∷ ms) n s h f =
        elim s.is_down as (λ b. FairAt fair p (cond b s (cond (nat_lt n (size s.far.name m - s.far.taken)) (record s { far = record s.far { taken = s.far.taken + n } }) (took_octets size (n - (size s.far.name m - s.far.taken)) ms (took m (without_first ms s)))))) [
          | true ↦ f
          | false ↦ elim (nat_lt n (size s.far.name m - s.far.taken)) as (λ b. FairAt fair p (cond b (record s { far = record s.far { taken = s.far.taken + n } }) (took_octets size (n - (size s.far.name m - s.far.taken)) ms (took m (without_first ms s))))) [
            | true ↦ record { near_held = f.near_held; far_held = f.far_held; near_flight = f.near_flight; far_flight = f.far_flight }
            | false ↦ fair_octets p ms (n - (size s.far.name m - s.far.taken)) (took m (without_first ms s)) h.1 (fair_took p m ms s h f)
          ]
        ]

    fair_octets_arrived : (p : NodePair) (n : ℕ) (s : Session) → FairAt fair p s → FairAt fair p (octets_arrived size n s)
    unfolding octets_arrived
    fair_octets_arrived p n s f =
        elim s.near.notice as (λ b. FairAt fair p (cond b (record s { near = closed s.near }) (took_octets size n s.far.flight s))) [
          | true ↦ record { near_held = no_values p.1 p.0; far_held = f.far_held; near_flight = tt; far_flight = f.far_flight }
          | false ↦ fair_octets p s.far.flight n s f.far_flight f
        ]

    fair_opened : (p : NodePair) (s : Session) → FairAt fair p s → FairAt fair p (opened s)
    unfolding opened
    fair_opened p s f =
        fair_told p (greeting s ∷ []) (record { is_down = false; near = record s.near { phase = Opened }; far = s.far })
        (elim (is_peering s) as (λ b. FairMessages fair p.0 p.1 (cond b Open Hello ∷ [])) [ true ↦ (tt, tt) | false ↦ (tt, tt) ])
        (record { near_held = f.near_held; far_held = f.far_held; near_flight = f.near_flight; far_flight = f.far_flight })

    at_nodes : (s t : Session) → nodes t ≡ nodes s → FairAt fair (nodes s) t → (Fair fair) t
    at_nodes s t e f = subst (λ p. FairAt fair p t) (sym e) f

    -- where what a node wants is fair whenever what it holds is, all is fair at every moment
    pub fair_keeps : (Valid : Setup → Type 0) → WantsFair fair Valid
        → Keeps size Valid (Fair fair) (λ s m. FairMap fair (s.near.name, s.near.role) (s.far.name, s.far.role) m)
    fair_keeps Valid wants = record {
      both = λ s f. record { near_held = f.far_held; far_held = f.near_held; near_flight = f.far_flight; far_flight = f.near_flight };
      begins = λ x v c m n k. record { near_held = empty_values key_cmp (fair (n.name, Agent) (c.name, Controller)); far_held = empty_values key_cmp (fair (c.name, Controller) (n.name, Agent)); near_flight = tt; far_flight = tt };
      arrives = λ s f. at_nodes s (arrived s) (arrived_nodes s) (fair_arrived (nodes s) s f);
      octets = λ n s f. at_nodes s (octets_arrived size n s) (octets_nodes size n s) (fair_octets_arrived (nodes s) n s f);
      passes = λ m s h f. at_nodes s (passed m s) (passed_nodes m s) (fair_passed (nodes s) m s h f);
      shuts = λ s f. fair_shut (nodes s) s f;
      loses = λ s f. record { near_held = f.near_held; far_held = f.far_held; near_flight = tt; far_flight = tt };
      opens = λ s f. at_nodes s (opened s) (opened_nodes s) (fair_opened (nodes s) s f);
      breaks = λ a b s f. record { near_held = f.near_held; far_held = f.far_held; near_flight = f.near_flight; far_flight = f.far_flight };
      wants = wants;
    }
