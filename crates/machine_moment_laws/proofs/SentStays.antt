-- What an end has sent stays at each step of it but a pass, or is nothing.
use Rattle.std.specs.Prelude.{◌≡◌, ◌⊎◌, ℕ, ◌-◌, ◌+◌, List, [], ◌∷◌, map, Bool, true, false, cond, nat_lt}
use Rattle.std.specs.FinMap.{empty}
use Rattle.std.proofs.Common.{refl, ◌∙◌, ap, inl, inr}
use Rattle.node_laws.specs.NodeModel.Maps.{Map, difference}
use Rattle.node_laws.specs.NodeModel.Step.{Phase, Idle, Opened, Confirmed, Up}
use Rattle.machine_model.specs.Setup.{Name}
use Rattle.machine_model.specs.Session.{Message, Open, Keepalive, Hello, Carries, Session, SessionEnd, is_peering, closed, with_phase, with_breaks, may_send, told, passed, greeting, opened, peer_took, item_took, took, without_first, took_first, arrived, took_octets, octets_arrived}
use Rattle.machine_model.proofs.SessionFact.{sends, told_cases}

abbrev pub SentStays : Session → Session → Type 0
SentStays s t = (t.near.sent ≡ s.near.sent) ⊎ (t.near.sent ≡ empty)

told_stays : (ms : List Message) (s : Session) → SentStays s (told ms s)
told_stays ms s =
    elim (told_cases ms s) as (λ _. SentStays s (told ms s)) [
      | inl p ↦ inr (ap (λ (t : Session). t.near.sent) p.1)
      | inr p ↦ inl (ap (λ (t : Session). t.near.sent) p.1 ∙ sent_same s.is_down s.near s.far ms p.0)
    ]
  where
    sent_same : (d : Bool) (near far : SessionEnd) (ms : List Message) (b : List ℕ) → (with_breaks b (sends ms (record { is_down = d; near = near; far = far }))).near.sent ≡ near.sent
    sent_same true near far ms b = refl
    sent_same false near far ms b = refl

peer_stays : (p : Phase) (m : Message) (s : Session) → SentStays s (peer_took p m s)
peer_stays Idle m s = inl refl
peer_stays Opened Open s = told_stays (Keepalive ∷ []) (with_phase Confirmed s)
peer_stays Confirmed Keepalive s = inl refl
peer_stays Up Keepalive s = inl refl
peer_stays Up (Carries d) s = inl refl
peer_stays _ _ s = inr refl

item_stays : (p : Phase) (m : Message) (s : Session) → SentStays s (item_took p m s)
item_stays Idle m s = inl refl
item_stays Opened Hello s = inl refl
item_stays Up (Carries d) s = inl refl
item_stays _ _ s = inr refl

took_stays : (m : Message) (ms : List Message) (s : Session) → SentStays s (took m (without_first ms s))
took_stays m ms s =
    elim (is_peering s) as (λ b. SentStays s (cond b (peer_took s.near.phase m (without_first ms s)) (item_took s.near.phase m (without_first ms s)))) [
      | true ↦ peer_stays s.near.phase m (without_first ms s)
      | false ↦ item_stays s.near.phase m (without_first ms s)
    ]

stays_trans : (s t u : Session) → SentStays s t → SentStays t u → SentStays s u
stays_trans s t u a b = elim b as (λ _. SentStays s u) [ inr e ↦ inr e | inl e ↦ elim a as (λ _. SentStays s u) [ inl f ↦ inl (e ∙ f) | inr f ↦ inr (e ∙ f) ] ]

pub arrived_stays : (s : Session) → SentStays s (arrived s)
unfolding arrived
arrived_stays s =
    elim s.near.notice as (λ b. SentStays s (cond b (record s { near = closed s.near }) (took_first s.far.flight s))) [ true ↦ inr refl | false ↦ first s.far.flight ]
  where
    first : (f : List Message) → SentStays s (took_first f s)
    first [] = inl refl
    first (m ∷ ms) = took_stays m ms s

module _ (size : Name → Message → ℕ) where
  octets_stay : (f : List Message) (n : ℕ) (s : Session) → SentStays s (took_octets size n f s)
  octets_stay [] n s = inl refl
  octets_stay (m ∷ ms) n s =
      elim s.is_down as (λ b. SentStays s (cond b s (cond (nat_lt n (size s.far.name m - s.far.taken)) (record s { far = record s.far { taken = s.far.taken + n } }) (took_octets size (n - (size s.far.name m - s.far.taken)) ms (took m (without_first ms s)))))) [
        | true ↦ inl refl
        | false ↦ elim (nat_lt n (size s.far.name m - s.far.taken)) as (λ b. SentStays s (cond b (record s { far = record s.far { taken = s.far.taken + n } }) (took_octets size (n - (size s.far.name m - s.far.taken)) ms (took m (without_first ms s))))) [
          | true ↦ inl refl
          | false ↦ stays_trans s (took m (without_first ms s)) (took_octets size (n - (size s.far.name m - s.far.taken)) ms (took m (without_first ms s))) (took_stays m ms s) (octets_stay ms (n - (size s.far.name m - s.far.taken)) (took m (without_first ms s)))
        ]
      ]

  pub octets_arrived_stays : (n : ℕ) (s : Session) → SentStays s (octets_arrived size n s)
  unfolding octets_arrived
  octets_arrived_stays n s =
      elim s.near.notice as (λ b. SentStays s (cond b (record s { near = closed s.near }) (took_octets size n s.far.flight s))) [ true ↦ inr refl | false ↦ octets_stay s.far.flight n s ]

pub opened_stays : (s : Session) → SentStays s (opened s)
unfolding opened
opened_stays s = told_stays (greeting s ∷ []) (record { is_down = false; near = record s.near { phase = Opened }; far = s.far })

-- where nothing is wanted and nothing was sent, a pass does nothing
pub passed_stays : (m : Map) (s : Session) → s.near.sent ≡ empty → m ≡ empty → (passed m s).near.sent ≡ empty
unfolding passed
passed_stays m s e f =
    elim (may_send s) as (λ b. (cond b (told (map Carries (difference s.near.sent m)) (record s { near = record s.near { sent = m } })) s).near.sent ≡ empty) [
      | true ↦ elim (told_stays (map Carries (difference s.near.sent m)) (record s { near = record s.near { sent = m } })) as (λ _. (told (map Carries (difference s.near.sent m)) (record s { near = record s.near { sent = m } })).near.sent ≡ empty) [ inl q ↦ q ∙ f | inr q ↦ q ]
      | false ↦ e
    ]
