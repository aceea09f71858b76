-- A session of nodes that last, while it is not down: greetings are in flight for two rounds at most, and what is said stays.
use Rattle.std.specs.Prelude.{◌≡◌, ◌≤◌, ℕ, suc, ◌+◌, ◌-◌, Bool, List, [], ◌∷◌, ◌++◌, map, true, false, cond, nat_lt}
use Rattle.std.specs.List.{AllByRecursion}
use Rattle.std.proofs.Common.{ap, arith, inl, inr, refl, subst, sym, ◌∙◌}
use Rattle.std.proofs.lemmas.Bool.{true≢false}
use Rattle.machine_model.specs.OvSync.Keyed.{IsPut, key_of}
use Rattle.node_laws.specs.NodeModel.Keys.{Key}
use Rattle.node_laws.specs.NodeModel.Maps.{Change, Map, difference}
use Rattle.node_laws.specs.NodeModel.Step.{Confirmed, Opened, Phase, Up}
use Rattle.machine_model.specs.Moments.{ArePositive, IsPartly, NodePair}
use Rattle.machine_model.specs.Session.{Carries, Hello, Keepalive, Message, Open, Role, Session, arrived, closed, is_peering, may_send, octets_arrived, passed, took, took_first, took_octets, turned, without_first}
use Rattle.machine_model.specs.Setup.{Name}
use Rattle.machine_model.specs.Steps.{without_breaks}
use Rattle.machine_model.proofs.Calm.{Arrival, ArrivalOf, arrives, passed_easy, telling}
use Rattle.machine_model.proofs.RoundFact.{IsCalm, fact_joined}
use Rattle.machine_model.proofs.SessionFact.{Fact-turned, Joined, arrived_keeps, greetings, meets, more_taken, passed_keeps}
use Rattle.machine_laws.specs.Settling.{back}
use Rattle.machine_moment_laws.proofs.Held.{held_is}
use Rattle.machine_moment_laws.proofs.Pending.{told_to}
use Rattle.machine_moment_laws.proofs.Stays.{AreKept, HasKeys, difference_kept, keys_changed}

-- ---- a session that is not down, without breaks
module _ (size : Name → Message → ℕ) (positive : ArePositive size) where
  joined_turned : (s : Session) → Joined size s → Joined size (turned s)
  joined_turned s j = elim (Fact-turned size s (inl j)) as (λ _. Joined size (turned s)) [ inl k ↦ k | inr d ↦ absurd (true≢false (sym d.down ∙ j.whole)) ]

  pub calm_turned : (s : Session) → IsCalm size positive s → IsCalm size positive (turned s)
  calm_turned s c = (joined_turned s c.0, c.2, c.1)

  pub calm_arrived : (s : Session) → IsCalm size positive s → IsCalm size positive (arrived s)
  calm_arrived s c = by s.far.flight (arrives size s c.0 c.1)
    where
      by : (f : List Message) → ArrivalOf f s (arrived s) → IsCalm size positive (arrived s)
      by [] a = subst (IsCalm size positive) (sym a) c
      by (m ∷ ms) a = (fact_joined size positive (arrived s) (arrived_keeps size positive s (inl c.0)) a.whole, a.near_breaks ∙ c.1, a.far_breaks ∙ c.2)

  pub calm_passed : (m : Map) (s : Session) → IsCalm size positive s → IsCalm size positive (passed m s)
  calm_passed m s c =
      let easy = passed_easy m s c.0.whole c.1 in
      let whole : (passed m s).is_down ≡ false = ap (λ (t : Session). t.is_down) easy ∙ elim (may_send s) as (λ b. (cond b (telling m s) s).is_down ≡ false) [ true ↦ c.0.whole | false ↦ c.0.whole ] in (
        fact_joined size positive (passed m s) (passed_keeps size positive m s (inl c.0)) whole,
        ap (λ (t : Session). t.near.breaks) easy ∙ elim (may_send s) as (λ b. (cond b (telling m s) s).near.breaks ≡ []) [ true ↦ c.1 | false ↦ c.1 ],
        ap (λ (t : Session). t.far.breaks) easy ∙ elim (may_send s) as (λ b. (cond b (telling m s) s).far.breaks ≡ []) [ true ↦ c.2 | false ↦ c.2 ],
      )

  -- where fewer octets come than the first message has
  pub calm_partly : (s : Session) (m : Message) (ms : List Message) (n : ℕ) → IsCalm size positive s → s.far.flight ≡ m ∷ ms → nat_lt n (size s.far.name m - s.far.taken) ≡ true → IsCalm size positive (record s { far = record s.far { taken = s.far.taken + n } })
  calm_partly s m ms n c e few =
      let j = c.0 in (
        record {
          whole = j.whole;
          near_notice = j.near_notice;
          far_notice = j.far_notice;
          inward = record {
            changes = j.inward.changes;
            phases = j.inward.phases;
            flight = j.inward.flight;
            early = j.inward.early;
            tells = j.inward.tells;
            partly = subst (λ (f : List Message). IsPartly (size s.far.name) f (s.far.taken + n)) (sym e)
                (more_taken size positive _ _ _ (subst (λ (f : List Message). IsPartly (size s.far.name) f s.far.taken) e j.inward.partly) few);
          };
          outward = record { changes = j.outward.changes; phases = j.outward.phases; flight = j.outward.flight; early = j.outward.early; tells = j.outward.tells; partly = j.outward.partly };
        },
        c.1,
        c.2,
      )

  pub calm_cleared : (s : Session) → IsCalm size positive s → IsCalm size positive (without_breaks s)
  calm_cleared s c =
      let j = c.0 in (
        record {
          whole = j.whole;
          near_notice = j.near_notice;
          far_notice = j.far_notice;
          inward = record { changes = j.inward.changes; phases = j.inward.phases; flight = j.inward.flight; early = j.inward.early; tells = j.inward.tells; partly = j.inward.partly };
          outward = record { changes = j.outward.changes; phases = j.outward.phases; flight = j.outward.flight; early = j.outward.early; tells = j.outward.tells; partly = j.outward.partly };
        },
        refl,
        refl,
      )

arrived_took : (s : Session) (m : Message) (ms : List Message) → s.near.notice ≡ false → s.far.flight ≡ m ∷ ms → arrived s ≡ took m (without_first ms s)
unfolding arrived
arrived_took s m ms n e = ap (λ b. cond b (record s { near = closed s.near }) (took_first s.far.flight s)) n ∙ ap (λ (f : List Message). took_first f s) e

-- ---- what is said, after so many rounds
module _ (Says : Name × Role → Name × Role → Key → Type 0) (r : ℕ) where
  -- an OPEN or a hello is in flight in the first round alone, a KEEPALIVE in the first two
  abbrev pub IsTaken : Name × Role → Name × Role → Message → Type 0
  IsTaken from to (Carries d) = Says from to (key_of d) → IsPut d
  IsTaken from to Open = suc r ≤ 1
  IsTaken from to Keepalive = suc r ≤ 2
  IsTaken from to Hello = suc r ≤ 1

  abbrev pub AreTaken : Name × Role → Name × Role → List Message → Type 0
  AreTaken from to f = AllByRecursion (IsTaken from to) f

  pub record KeepsAt (p : NodePair) (s : Session) : Type 0 where
    pub near_held : HasKeys Says p.1 p.0 s.near.held
    pub far_held : HasKeys Says p.0 p.1 s.far.held
    pub near_flight : AreTaken p.0 p.1 s.near.flight
    pub far_flight : AreTaken p.1 p.0 s.far.flight

  -- an OPEN that is answered was there in the first round
  pub answered : suc r ≤ 1 → suc r ≤ 2
  answered h = omega (arith, h)

  pub taken_step : (from to : Name × Role) (x : Message) (m : Map) → IsTaken from to x → HasKeys Says from to m → HasKeys Says from to (told_to x m)
  taken_step from to (Carries d) m t h = keys_changed Says from to m d t h
  taken_step from to Open m t h = h
  taken_step from to Keepalive m t h = h
  taken_step from to Hello m t h = h

  taken_append : (from to : Name × Role) (f g : List Message) → AreTaken from to f → AreTaken from to g → AreTaken from to (f ++ g)
  taken_append from to [] g a b = b
  taken_append from to (m ∷ f) g a b = (a.0, taken_append from to f g a.1 b)

  pub taken_changes : (from to : Name × Role) (ds : List Change) → AreKept Says from to (map Carries ds) → AreTaken from to (map Carries ds)
  taken_changes from to [] k = tt
  taken_changes from to (d ∷ ds) k = (k.0, taken_changes from to ds k.1)

  keeps_turned : (p : NodePair) (s : Session) → KeepsAt p s → KeepsAt (back p) (turned s)
  keeps_turned p s f = record { near_held = f.far_held; far_held = f.near_held; near_flight = f.far_flight; far_flight = f.near_flight }

  keeps_passed : (p : NodePair) (m : Map) (s : Session) → s.is_down ≡ false → s.near.breaks ≡ [] → HasKeys Says p.0 p.1 m → KeepsAt p s → KeepsAt p (passed m s)
  keeps_passed p m s whole unbroken h f =
      subst (KeepsAt p) (sym (passed_easy m s whole unbroken))
      (elim (may_send s) as (λ b. KeepsAt p (cond b (telling m s) s)) [
        | true ↦ record {
          near_held = f.near_held;
          far_held = f.far_held;
          near_flight = taken_append p.0 p.1 s.near.flight (map Carries (difference s.near.sent m)) f.near_flight (taken_changes p.0 p.1 (difference s.near.sent m) (difference_kept Says p.0 p.1 s.near.sent m h));
          far_flight = f.far_flight;
        }
        | false ↦ f
      ])

  keeps_after : (p : NodePair) (s t : Session) (x : Message) (ms : List Message) → t.near.held ≡ told_to x s.near.held → s.far.flight ≡ x ∷ ms → Arrival x ms s t → KeepsAt p s → KeepsAt p t
  keeps_after p s t x ms held is a f =
      let all : AreTaken p.1 p.0 (x ∷ ms) = subst (AreTaken p.1 p.0) is f.far_flight in
      record {
        near_held = subst (HasKeys Says p.1 p.0) (sym held) (taken_step p.1 p.0 x s.near.held all.0 f.near_held);
        far_held = subst (HasKeys Says p.0 p.1) (sym a.far_same.1) f.far_held;
        near_flight = elim a.reply as (λ _. AreTaken p.0 p.1 t.near.flight) [
          | inl same ↦ subst (AreTaken p.0 p.1) (sym same) f.near_flight
          | inr q ↦ subst (AreTaken p.0 p.1) (sym q.1) (taken_append p.0 p.1 s.near.flight (Keepalive ∷ []) f.near_flight (answered (subst (IsTaken p.1 p.0) q.0 all.0), tt))
        ];
        far_flight = subst (AreTaken p.1 p.0) (sym a.taken) all.1;
      }

  -- without a greeting in flight both ends are up
  ups : (b : Bool) (p q : Phase) (n f : Name × Role) (cs ds : List Change) → meets b p q ≡ true → AreTaken f n (greetings b p q ++ map Carries cs) → AreTaken n f (greetings b q p ++ map Carries ds) → 2 ≤ r → (p ≡ Up) × (q ≡ Up)
  ups true Opened Opened n f cs ds m i o h = absurd (omega (arith, h, i.0))
  ups true Opened Confirmed n f cs ds m i o h = absurd (omega (arith, h, i.0))
  ups true Confirmed Opened n f cs ds m i o h = absurd (omega (arith, h, o.0))
  ups true Confirmed Confirmed n f cs ds m i o h = absurd (omega (arith, h, i.0))
  ups true Confirmed Up n f cs ds m i o h = absurd (omega (arith, h, i.0))
  ups true Up Confirmed n f cs ds m i o h = absurd (omega (arith, h, o.0))
  ups true Up Up n f cs ds m i o h = (refl, refl)
  ups false Opened Opened n f cs ds m i o h = absurd (omega (arith, h, i.0))
  ups false Opened Up n f cs ds m i o h = absurd (omega (arith, h, i.0))
  ups false Up Opened n f cs ds m i o h = absurd (omega (arith, h, o.0))
  ups false Up Up n f cs ds m i o h = (refl, refl)
  ups _ _ _ n f cs ds m i o h = absurd (true≢false (sym m))

  module _ (size : Name → Message → ℕ) (positive : ArePositive size) where
    abbrev pub MeetsAt : NodePair → Session → Type 0
    MeetsAt p s = IsCalm size positive s × KeepsAt p s

    pub meets_up : (p : NodePair) (s : Session) → 2 ≤ r → MeetsAt p s → (s.near.phase ≡ Up) × (s.far.phase ≡ Up)
    meets_up p s h f =
        let j = f.0.0 in
        ups (is_peering s) s.near.phase s.far.phase p.0 p.1 j.inward.changes j.outward.changes j.inward.phases
        (subst (AreTaken p.1 p.0) j.inward.flight f.1.far_flight) (subst (AreTaken p.0 p.1) j.outward.flight f.1.near_flight) h

    pub meets_turned : (p : NodePair) (s : Session) → MeetsAt p s → MeetsAt (back p) (turned s)
    meets_turned p s f = (calm_turned size positive s f.0, keeps_turned p s f.1)

    pub meets_passed : (p : NodePair) (m : Map) (s : Session) → HasKeys Says p.0 p.1 m → MeetsAt p s → MeetsAt p (passed m s)
    meets_passed p m s h f = (calm_passed size positive m s f.0, keeps_passed p m s f.0.0.whole f.0.1 h f.1)

    pub meets_arrived : (p : NodePair) (s : Session) → MeetsAt p s → MeetsAt p (arrived s)
    meets_arrived p s f = (calm_arrived size positive s f.0, by s.far.flight refl (arrives size s f.0.0 f.0.1))
      where
        by : (g : List Message) → s.far.flight ≡ g → ArrivalOf g s (arrived s) → KeepsAt p (arrived s)
        by [] is a = subst (KeepsAt p) (sym a) f.1
        by (x ∷ ms) is a = keeps_after p s (arrived s) x ms (held_is size x ms s f.0.0 is a) is a f.1

    meets_octets : (p : NodePair) (g : List Message) (n : ℕ) (s : Session) → s.far.flight ≡ g → MeetsAt p s → MeetsAt p (took_octets size n g s)
    meets_octets p [] n s is f = f
    meets_octets p (x ∷ ms) n s is f =
        let t = took x (without_first ms s) in
        let u = record s { far = record s.far { taken = s.far.taken + n } } in
        let same : arrived s ≡ t = arrived_took s x ms f.0.0.near_notice is in
        let a : Arrival x ms s (arrived s) = subst (λ (g : List Message). ArrivalOf g s (arrived s)) is (arrives size s f.0.0 f.0.1) in
        subst (λ b. MeetsAt p (cond b s (cond (nat_lt n (size s.far.name x - s.far.taken)) u (took_octets size (n - (size s.far.name x - s.far.taken)) ms t)))) (sym f.0.0.whole)
        (elim (nat_lt n (size s.far.name x - s.far.taken)) as (λ b. nat_lt n (size s.far.name x - s.far.taken) ≡ b → MeetsAt p (cond b u (took_octets size (n - (size s.far.name x - s.far.taken)) ms t))) [
          | true ↦ λ few. (calm_partly size positive s x ms n f.0 is few, record { near_held = f.1.near_held; far_held = f.1.far_held; near_flight = f.1.near_flight; far_flight = f.1.far_flight })
          | false ↦ λ _. meets_octets p ms (n - (size s.far.name x - s.far.taken)) t (ap (λ (v : Session). v.far.flight) (sym same) ∙ a.taken) (subst (MeetsAt p) same (meets_arrived p s f))
        ] refl)

    pub meets_octets_arrived : (p : NodePair) (n : ℕ) (s : Session) → MeetsAt p s → MeetsAt p (octets_arrived size n s)
    unfolding octets_arrived
    meets_octets_arrived p n s f =
        subst (λ b. MeetsAt p (cond b (record s { near = closed s.near }) (took_octets size n s.far.flight s))) (sym f.0.0.near_notice) (meets_octets p s.far.flight n s refl f)

    pub meets_cleared : (p : NodePair) (s : Session) → MeetsAt p s → MeetsAt p (without_breaks s)
    meets_cleared p s f = (calm_cleared size positive s f.0, record { near_held = f.1.near_held; far_held = f.1.far_held; near_flight = f.1.near_flight; far_flight = f.1.far_flight })
