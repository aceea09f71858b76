-- What a session keeps during a round: what was in flight as the round began leads to what is good up to the next rank, and all
-- that is sent since is.
use Rattle.std.specs.Prelude.{◌≡◌, ◌≤◌, ℕ, suc, List, [], ◌∷◌, map, true, false, cond}
use Rattle.std.specs.List.{AllByRecursion}
use Rattle.std.proofs.Common.{ap, arith, inl, inr, refl, subst, sym, ◌∙◌}
use Rattle.ov_sync.specs.Keyed.{PutOf}
use Rattle.schedule_script.specs.ConfigCheck.Checked.{Checked}
use Rattle.node_laws.specs.NodeModel.Keys.{Key, key_cmp}
use Rattle.node_laws.specs.NodeModel.Maps.{Change, Map, difference}
use Rattle.node_laws.specs.NodeModel.Members.{Member}
use Rattle.node_laws.specs.NodeModel.Values.{Value, same_value}
use Rattle.node_laws.proofs.NodeModel.Orders.{key_exact, key_total}
use Rattle.machine_model.specs.Moments.{ArePositive, NodePair, nodes}
use Rattle.machine_model.specs.Session.{Carries, Hello, Keepalive, Message, Open, Role, Session, arrived, may_send, passed, turned}
use Rattle.machine_model.specs.Setup.{Name, opening}
use Rattle.machine_model.proofs.Calm.{Arrival, ArrivalOf, arrives, passed_easy, telling}
use Rattle.machine_model.proofs.OvSync.KeyedLaws.{changed_values, difference_puts}
use Rattle.machine_model.proofs.SessionFact.{Joined}
use Rattle.machine_laws.specs.Headline.{IsWritten}
use Rattle.machine_laws.specs.Settling.{Fair, FairMap, FairMessage, FairMessages, back}
use Rattle.machine_moment_laws.proofs.Here.{lasts}
use Rattle.machine_moment_laws.proofs.OfSome.{some_to}
use Rattle.machine_moment_laws.proofs.Easy.{IsEasy, new_arrived, new_passed}
use Rattle.machine_moment_laws.proofs.Held.{held_is}
use Rattle.machine_moment_laws.proofs.Meeting.{AreTaken, IsTaken, MeetsAt, taken_changes}
use Rattle.machine_moment_laws.proofs.Says.{Says, lasting}
use Rattle.machine_moment_laws.proofs.Stays.{HasKeys, difference_kept, keys_changed}
use Rattle.machine_moment_laws.proofs.Stood.{AreStood, stood}
use Rattle.machine_moment_laws.proofs.Pending.{Pends, pends_append, pends_first, pends_more, pends_none, told_to}

module _ (b : Checked) (ds : List Checked) (written : (c : Checked) → Member c (b ∷ ds) → IsWritten (opening c)) where
  abbrev cs : List Checked
  cs = b ∷ ds

  -- ---- up to a rank: a map has all that is said, where both nodes last, and nothing but what some configuration had
  abbrev pub Good : ℕ → Name × Role → Name × Role → Map → Type 0
  Good r from to m =
      (lasts b ds written from.0 ≡ true → lasts b ds written to.0 ≡ true → HasKeys (Says b ds written r) from to m)
      × (FairMap (some_to cs r) from to m × FairMap (stood cs b.topology.asn r) from to m)

  abbrev pub Fine : ℕ → Name × Role → Name × Role → Message → Type 0
  Fine r from to x =
      (lasts b ds written from.0 ≡ true → lasts b ds written to.0 ≡ true → IsTaken (Says b ds written r) r from to x)
      × (FairMessage (some_to cs r) from to x × FairMessage (stood cs b.topology.asn r) from to x)

  -- on a session
  module _ (size : Name → Message → ℕ) (positive : ArePositive size) where
    abbrev pub IsBack : ℕ → Session → Type 0
    IsBack r s = (lasting b ds written s ≡ true → MeetsAt (Says b ds written r) r size positive (nodes s) s) × (Fair (some_to cs r) s × AreStood cs b.topology.asn r s)

  pub good_step : (r : ℕ) (from to : Name × Role) (x : Message) (m : Map) → Fine r from to x → Good r from to m → Good r from to (told_to x m)
  good_step r from to (Carries d) m f g = (
    (λ l k. keys_changed (Says b ds written r) from to m d (f.0 l k) (g.0 l k)),
    (
      changed_values {R = key_cmp} (some_to cs r from to) key_total key_exact m d g.1.0 f.1.0,
      changed_values {R = key_cmp} (stood cs b.topology.asn r from to) key_total key_exact m d g.1.1 f.1.1,
    ),
  )
  good_step r from to Open m f g = g
  good_step r from to Keepalive m f g = g
  good_step r from to Hello m f g = g

  -- the changes that lead to a good map are fine
  fair_changes : (fair : Name × Role → Name × Role → Key → Value → Type 0) (from to : Name × Role) (ds : List Change) → AllByRecursion (PutOf (fair from to)) ds → FairMessages fair from to (map Carries ds)
  fair_changes fair from to [] a = tt
  fair_changes fair from to (d ∷ ds) a = (a.0, fair_changes fair from to ds a.1)

  all_fine : (r : ℕ) (from to : Name × Role) (f : List Message) → (lasts b ds written from.0 ≡ true → lasts b ds written to.0 ≡ true → AreTaken (Says b ds written r) r from to f)
      → FairMessages (some_to cs r) from to f → FairMessages (stood cs b.topology.asn r) from to f → AllByRecursion (Fine r from to) f
  all_fine r from to [] h a c = tt
  all_fine r from to (x ∷ f) h a c = (((λ l k. (h l k).0), (a.0, c.0)), all_fine r from to f (λ l k. (h l k).1) a.1 c.1)

  fine_difference : (r : ℕ) (from to : Name × Role) (sent m : Map) → Good r from to m → AllByRecursion (Fine r from to) (map Carries (difference sent m))
  fine_difference r from to sent m g =
      all_fine r from to (map Carries (difference sent m)) (λ l k. taken_changes (Says b ds written r) r from to (difference sent m) (difference_kept (Says b ds written r) from to sent m (g.0 l k)))
      (fair_changes (some_to cs r) from to (difference sent m) (difference_puts {R = key_cmp} (some_to cs r from to) same_value sent m g.1.0))
      (fair_changes (stood cs b.topology.asn r) from to (difference sent m) (difference_puts {R = key_cmp} (stood cs b.topology.asn r from to) same_value sent m g.1.1))

  -- ---- a session during a round: at most so many messages are left in each direction
  pub record Exchange (p : NodePair) (r inward outward : ℕ) (s : Session) : Type 0 where
    pub into : Pends (Good r p.1 p.0) (Fine r p.1 p.0) inward s.near.held s.far.flight
    pub out : Pends (Good r p.0 p.1) (Fine r p.0 p.1) outward s.far.held s.near.flight

  pub exchange_turned : (p : NodePair) (r i o : ℕ) (s : Session) → Exchange p r i o s → Exchange (back p) r o i (turned s)
  exchange_turned p r i o s e = record { into = e.out; out = e.into }

  pub exchange_passed : (size : Name → Message → ℕ) (positive : ArePositive size) (p : NodePair) (r i o : ℕ) (m : Map) (s : Session) → IsEasy size positive s → Good r p.0 p.1 m → Exchange p r i o s → Exchange p r i o (passed m s)
  exchange_passed size positive p r i o m s (inr n) g e = subst (Exchange p r i o) (sym (new_passed m s n)) e
  exchange_passed size positive p r i o m s (inl c) g e =
      subst (Exchange p r i o) (sym (passed_easy m s c.0.whole c.1))
      (elim (may_send s) as (λ b. Exchange p r i o (cond b (telling m s) s)) [
        | true ↦ record { into = e.into; out = pends_append (Good r p.0 p.1) (Fine r p.0 p.1) o s.far.held s.near.flight (map Carries (difference s.near.sent m)) (fine_difference r p.0 p.1 s.near.sent m g) e.out }
        | false ↦ e
      ])

  -- ---- a message is taken. Where both nodes last an OPEN is in flight early alone
  abbrev pub OpensEarly : NodePair → ℕ → Session → Type 0
  OpensEarly p r s = lasts b ds written p.0.0 ≡ true → lasts b ds written p.1.0 ≡ true → (ms : List Message) → s.far.flight ≡ Open ∷ ms → suc r ≤ 2

  arrival_exchange : (size : Name → Message → ℕ) (p : NodePair) (r i o : ℕ) (m : Message) (ms : List Message) (s : Session) → Joined size s → OpensEarly p r s → s.far.flight ≡ m ∷ ms → Arrival m ms s (arrived s) → Exchange p r (suc i) o s → Exchange p r i o (arrived s)
  arrival_exchange size p r i o m ms s j early is a e =
      let t = arrived s in
      let taken = pends_first (Good r p.1 p.0) (Fine r p.1 p.0) (good_step r p.1 p.0) i s.near.held m ms (subst (λ (f : List Message). Pends (Good r p.1 p.0) (Fine r p.1 p.0) (suc i) s.near.held f) is e.into) in
      let into : Pends (Good r p.1 p.0) (Fine r p.1 p.0) i t.near.held t.far.flight =
      subst (λ (f : List Message). Pends (Good r p.1 p.0) (Fine r p.1 p.0) i t.near.held f) (sym a.taken)
      (subst (λ (h : Map). Pends (Good r p.1 p.0) (Fine r p.1 p.0) i h ms) (sym (held_is size m ms s j is a)) taken) in
      let out : Pends (Good r p.0 p.1) (Fine r p.0 p.1) o t.far.held s.near.flight = subst (λ (h : Map). Pends (Good r p.0 p.1) (Fine r p.0 p.1) o h s.near.flight) (sym a.far_same.1) e.out in
      elim a.reply as (λ _. Exchange p r i o t) [
        | inl same ↦ record { into = into; out = subst (λ (f : List Message). Pends (Good r p.0 p.1) (Fine r p.0 p.1) o t.far.held f) (sym same) out }
        | inr q ↦ record {
          into = into;
          out = subst (λ (f : List Message). Pends (Good r p.0 p.1) (Fine r p.0 p.1) o t.far.held f) (sym q.1)
              (pends_append (Good r p.0 p.1) (Fine r p.0 p.1) o t.far.held s.near.flight (Keepalive ∷ [])
              (((λ l k. early l k ms (is ∙ ap (λ (x : Message). x ∷ ms) q.0)), (tt, tt)), tt) out);
        }
      ]

  -- where nothing is in flight nothing is left
  pub exchange_idle : (p : NodePair) (r n i o : ℕ) (s : Session) → s.far.flight ≡ [] → Exchange p r n o s → Exchange p r i o s
  exchange_idle p r n i o s is e = record {
    into = subst (λ (f : List Message). Pends (Good r p.1 p.0) (Fine r p.1 p.0) i s.near.held f) (sym is)
        (pends_more (Good r p.1 p.0) (Fine r p.1 p.0) 0 i s.near.held [] (least i)
        (pends_none (Good r p.1 p.0) (Fine r p.1 p.0) n s.near.held (subst (λ (f : List Message). Pends (Good r p.1 p.0) (Fine r p.1 p.0) n s.near.held f) is e.into)));
    out = e.out;
  }
    where
      least : (i : ℕ) → 0 ≤ i
      least i = omega arith

  pub exchange_more : (p : NodePair) (r i o j q : ℕ) (s : Session) → i ≤ j → o ≤ q → Exchange p r i o s → Exchange p r j q s
  exchange_more p r i o j q s h k e = record {
    into = pends_more (Good r p.1 p.0) (Fine r p.1 p.0) i j s.near.held s.far.flight h e.into;
    out = pends_more (Good r p.0 p.1) (Fine r p.0 p.1) o q s.far.held s.near.flight k e.out;
  }

  pub exchange_arrived : (size : Name → Message → ℕ) (positive : ArePositive size) (p : NodePair) (r i o : ℕ) (s : Session) → IsEasy size positive s → OpensEarly p r s → Exchange p r (suc i) o s → Exchange p r i o (arrived s)
  exchange_arrived size positive p r i o s (inr n) early e = subst (Exchange p r i o) (sym (new_arrived s n)) (exchange_idle p r (suc i) i o s n.far.flight e)
  exchange_arrived size positive p r i o s (inl c) early e = by s.far.flight refl (arrives size s c.0 c.1)
    where
      by : (f : List Message) → s.far.flight ≡ f → ArrivalOf f s (arrived s) → Exchange p r i o (arrived s)
      by [] is a = subst (Exchange p r i o) (sym a) (exchange_idle p r (suc i) i o s is e)
      by (m ∷ ms) is a = arrival_exchange size p r i o m ms s c.0 early is a e
