-- Where no break is pending at a session, each step of its near end leaves none pending.
use Rattle.std.specs.Prelude.{◌≡◌, ℕ, ◌+◌, ◌-◌, Bool, List, [], ◌∷◌, map, true, false, cond, nat_lt}
use Rattle.std.proofs.Common.{subst, sym}
use Rattle.node_laws.specs.NodeModel.Maps.{Map, difference}
use Rattle.node_laws.specs.NodeModel.Step.{Confirmed, Idle, Opened, Phase, Up}
use Rattle.machine_model.specs.Session.{Carries, Hello, Keepalive, Message, Open, Session, arrived, closed, greeting, is_peering, item_took, may_send, octets_arrived, opened, passed, peer_took, told, took, took_first, took_octets, with_phase, without_first}
use Rattle.machine_model.specs.Setup.{Name}
use Rattle.machine_model.proofs.Calm.{told_easy}
use Rattle.machine_model.proofs.SessionFact.{sends}

abbrev pub NoBreak : Session → Type 0
NoBreak s = (s.near.breaks ≡ []) × (s.far.breaks ≡ [])

told_none : (ms : List Message) (s : Session) → NoBreak s → NoBreak (told ms s)
told_none ms s n = subst NoBreak (sym (told_easy ms s n.0)) (by s.is_down)
  where
    by : (d : Bool) → NoBreak (sends ms (record { is_down = d; near = s.near; far = s.far }))
    by true = n
    by false = n

pub passed_none : (m : Map) (s : Session) → NoBreak s → NoBreak (passed m s)
unfolding passed
passed_none m s n =
    elim (may_send s) as (λ b. NoBreak (cond b (told (map Carries (difference s.near.sent m)) (record s { near = record s.near { sent = m } })) s)) [
      | true ↦ told_none (map Carries (difference s.near.sent m)) (record s { near = record s.near { sent = m } }) n
      | false ↦ n
    ]

peer_took_none : (p : Phase) (m : Message) (s : Session) → NoBreak s → NoBreak (peer_took p m s)
peer_took_none Idle m s n = n
peer_took_none Opened Open s n = told_none (Keepalive ∷ []) (with_phase Confirmed s) n
peer_took_none Confirmed Keepalive s n = n
peer_took_none Up Keepalive s n = n
peer_took_none Up (Carries d) s n = n
peer_took_none _ _ s n = n

item_took_none : (p : Phase) (m : Message) (s : Session) → NoBreak s → NoBreak (item_took p m s)
item_took_none Idle m s n = n
item_took_none Opened Hello s n = n
item_took_none Up (Carries d) s n = n
item_took_none _ _ s n = n

took_none : (m : Message) (ms : List Message) (s : Session) → NoBreak s → NoBreak (took m (without_first ms s))
took_none m ms s n =
    elim (is_peering s) as (λ b. NoBreak (cond b (peer_took s.near.phase m (without_first ms s)) (item_took s.near.phase m (without_first ms s)))) [
      | true ↦ peer_took_none s.near.phase m (without_first ms s) n
      | false ↦ item_took_none s.near.phase m (without_first ms s) n
    ]

first_none : (f : List Message) (s : Session) → NoBreak s → NoBreak (took_first f s)
first_none [] s n = n
first_none (m ∷ ms) s n = took_none m ms s n

pub arrived_none : (s : Session) → NoBreak s → NoBreak (arrived s)
unfolding arrived
arrived_none s n = elim s.near.notice as (λ b. NoBreak (cond b (record s { near = closed s.near }) (took_first s.far.flight s))) [ true ↦ n | false ↦ first_none s.far.flight s n ]

pub opened_none : (s : Session) → NoBreak s → NoBreak (opened s)
unfolding opened
opened_none s n = told_none (greeting s ∷ []) (record { is_down = false; near = record s.near { phase = Opened }; far = s.far }) n

module _ (size : Name → Message → ℕ) where
  octets_none : (g : List Message) (n : ℕ) (s : Session) → NoBreak s → NoBreak (took_octets size n g s)
  octets_none [] n s h = h
  octets_none (m ∷ ms) n s h =
      elim s.is_down as (λ b. NoBreak (cond b s (cond (nat_lt n (size s.far.name m - s.far.taken)) (record s { far = record s.far { taken = s.far.taken + n } }) (took_octets size (n - (size s.far.name m - s.far.taken)) ms (took m (without_first ms s)))))) [
        | true ↦ h
        | false ↦ elim (nat_lt n (size s.far.name m - s.far.taken)) as (λ b. NoBreak (cond b (record s { far = record s.far { taken = s.far.taken + n } }) (took_octets size (n - (size s.far.name m - s.far.taken)) ms (took m (without_first ms s))))) [
          | true ↦ h
          | false ↦ octets_none ms (n - (size s.far.name m - s.far.taken)) (took m (without_first ms s)) (took_none m ms s h)
        ]
      ]

  pub octets_arrived_none : (n : ℕ) (s : Session) → NoBreak s → NoBreak (octets_arrived size n s)
  unfolding octets_arrived
  octets_arrived_none n s h = elim s.near.notice as (λ b. NoBreak (cond b (record s { near = closed s.near }) (took_octets size n s.far.flight s))) [ true ↦ h | false ↦ octets_none s.far.flight n s h ]
