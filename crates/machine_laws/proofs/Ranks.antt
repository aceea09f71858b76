-- Rounds of deliveries settle a network of nodes whose wanted maps become right key by key: each key has a rank, and where all that is held is right up to a rank, all that is wanted is right up to the next one.
use Rattle.std.specs.Prelude.{◌≡◌, ℕ, suc, ◌+◌, ◌-◌, ◌<◌, ◌≤◌, List, [], ◌∷◌, ◌++◌, map, length, Bool, true, false, not, cond, nat_lt}
use Rattle.std.specs.declared.option.Option.{Option}
use Rattle.std.specs.List.{AllByRecursion}
use Rattle.std.specs.FinMap.{get}
use Rattle.std.proofs.lemmas.Bool.{true≢false, cases_lt}
use Rattle.std.proofs.Common.{refl, sym, ◌∙◌, ap, subst, inl, inr, append_assoc, arith}
use Rattle.machine_model.specs.OvSync.Keyed.{changed, after as changed_by, key_of}
use Rattle.machine_model.proofs.OvSync.KeyedLaws.{difference_differs, changed_apart}
use Rattle.node_laws.specs.NodeModel.Keys.{Key}
use Rattle.node_laws.proofs.NodeModel.Orders.{key_total, key_exact}
use Rattle.node_laws.specs.NodeModel.Values.{Value, same_value}
use Rattle.node_laws.proofs.NodeModel.Alike.{same_value_decides}
use Rattle.node_laws.specs.NodeModel.Maps.{Map, Change, difference}
use Rattle.machine_model.specs.Setup.{Name}
use Rattle.node_laws.specs.NodeModel.Step.{Phase, Idle, Opened, Confirmed, Up}
use Rattle.machine_model.specs.Session.{Message, Open, Keepalive, Hello, Carries, Session, turned, is_up_phase, are_peers, is_peering, may_send_at, may_send, passed, closed, took, without_first, took_first, arrived, took_octets, octets_arrived}
use Rattle.machine_laws.specs.Settling.{back, Rank, RanksFit, Right}
use Rattle.machine_model.specs.Moments.{IsPartly}
use Rattle.machine_model.proofs.SessionFact.{took_keeps, more_taken, append_nil, Joined, Fact, Fact-turned, greetings, meets, passed_keeps, arrived_keeps, are_peers-turned, live_receiver}
use Rattle.machine_model.proofs.NetworkFact.{NodePair, nodes}
use Rattle.machine_model.proofs.NodesFact.{arrived_nodes, took_nodes}
use Rattle.machine_model.proofs.Calm.{telling, passed_easy, Arrival, ArrivalOf, arrives}

-- ---- ranks of messages
abbrev pub message_rank : Rank → Name → Name → Message → ℕ
message_rank rank from to Open = 1
message_rank rank from to Hello = 1
message_rank rank from to Keepalive = 2
message_rank rank from to (Carries d) = rank from to (key_of d)

-- only messages of a later rank are in flight
abbrev pub Later : Rank → ℕ → Name → Name → List Message → Type 0
Later rank r from to f = AllByRecursion (λ m. r < message_rank rank from to m) f

later_append : (rank : Rank) (r : ℕ) (from to : Name) (f g : List Message) → Later rank r from to f → Later rank r from to g → Later rank r from to (f ++ g)
later_append rank r from to [] g a b = b
later_append rank r from to (m ∷ f) g a b = (a.0, later_append rank r from to f g a.1 b)

later_rest : (rank : Rank) (r : ℕ) (from to : Name) (f g : List Message) → Later rank r from to (f ++ g) → Later rank r from to g
later_rest rank r from to [] g a = a
later_rest rank r from to (m ∷ f) g a = later_rest rank r from to f g a.1

later_weaker : (rank : Rank) (r : ℕ) (from to : Name) (f : List Message) → Later rank (suc r) from to f → Later rank r from to f
later_weaker rank r from to [] a = tt
later_weaker rank r from to (m ∷ f) a = (omega (arith, a.0), later_weaker rank r from to f a.1)

-- what was in flight as a round began is at most what its deliveries still take, and what was sent since is of a later rank
pub record DueByRank (rank : Rank) (r : ℕ) (from to : Name) (n : ℕ) (f : List Message) : Type 0 where
  pub old : List Message
  pub new : List Message
  pub split : f ≡ old ++ new
  pub few : length old ≤ n
  pub later : Later rank (suc r) from to new

due_append : (rank : Rank) (r : ℕ) (from to : Name) (n : ℕ) (f g : List Message) → DueByRank rank r from to n f → Later rank (suc r) from to g → DueByRank rank r from to n (f ++ g)
due_append rank r from to n f g d h = record {
  old = d.old;
  new = d.new ++ g;
  split = ap (λ (f : List Message). f ++ g) d.split ∙ append_assoc d.old d.new g;
  few = d.few;
  later = later_append rank (suc r) from to d.new g d.later h;
}

due_first : (rank : Rank) (r : ℕ) (from to : Name) (n : ℕ) (m : Message) (ms old new : List Message) → m ∷ ms ≡ old ++ new → length old ≤ suc n → Later rank (suc r) from to new → DueByRank rank r from to n ms
due_first rank r from to n m ms [] [] e few later = cc
due_first rank r from to n m ms [] (k ∷ new) e few later = record { old = []; new = ms; split = refl; few = omega arith; later = subst (Later rank (suc r) from to) (cc) later.1 }
due_first rank r from to n m ms (o ∷ old) new e few later = record { old = old; new = new; split = cc; few = omega arith; later = later }

-- ---- one session, as its near end receives
module _ (size : Name → Message → ℕ) (positive : (n : Name) (m : Message) → 0 < size n m) (rank : Rank) (goal : Name → Name → Key → Option Value) where
  -- what is held is right up to a rank
  -- what is sent is right up to a rank
  abbrev pub SentRight : NodePair → ℕ → Session → Type 0
  SentRight p r s = (k : Key) → rank p.0.0 p.1.0 k ≤ r → may_send s ≡ true → get s.near.sent k ≡ goal p.0.0 p.1.0 k

  abbrev pub Clean : NodePair → ℕ → Session → Type 0
  Clean p r s = Later rank r p.1.0 p.0.0 s.far.flight

  -- the keys between control nodes come after the greetings
  untouched : (k : Key) (n : ℕ) (from to : Name) (m : Map) (ds : List Change) → rank from to k ≤ n → Later rank n from to (map Carries ds) → get (changed_by m ds) k ≡ get m k
  untouched k n from to m [] h l = refl
  untouched k n from to m (d ∷ ds) h l =
      untouched k n from to (changed m d) ds h l.1
      ∙ changed_apart key_total key_exact m d k (λ e. absurd (below (rank from to k) (rank from to (key_of d)) n h l.0 (ap (rank from to) e)))
    where
      below : (a b n : ℕ) → a ≤ n → n < b → a ≡ b → ⊥
      below a b n h l e = omega arith

  -- greetings are of ranks 1 and 2
  no_greeting : (b : Bool) (p q : Phase) (from to : Name) (f : List Message) → meets b p q ≡ true → Later rank 2 from to (greetings b p q ++ f) → greetings b p q ≡ []
  no_greeting true Opened Opened from to f m l = absurd (omega (arith, l.0))
  no_greeting true Opened Confirmed from to f m l = absurd (omega (arith, l.0))
  no_greeting true Confirmed Confirmed from to f m l = absurd (omega (arith, l.0))
  no_greeting true Confirmed Up from to f m l = absurd (omega (arith, l.0))
  no_greeting false Opened Opened from to f m l = absurd (omega (arith, l.0))
  no_greeting false Opened Up from to f m l = absurd (omega (arith, l.0))
  no_greeting true Confirmed Opened from to f m l = refl
  no_greeting true Up Confirmed from to f m l = refl
  no_greeting true Up Up from to f m l = refl
  no_greeting false Up Opened from to f m l = refl
  no_greeting false Up Up from to f m l = refl
  no_greeting _ _ _ from to f m l = absurd (true≢false (sym m))

  both_up : (b : Bool) (p q : Phase) → meets b p q ≡ true → greetings b p q ≡ [] → greetings b q p ≡ [] → (p ≡ Up) × (q ≡ Up)
  both_up true Up Up m g h = (refl, refl)
  both_up false Up Up m g h = (refl, refl)
  both_up true Opened Opened m g h = cc
  both_up true Opened Confirmed m g h = cc
  both_up true Confirmed Opened m g h = cc
  both_up true Confirmed Confirmed m g h = cc
  both_up true Confirmed Up m g h = cc
  both_up true Up Confirmed m g h = cc
  both_up false Opened Opened m g h = cc
  both_up false Opened Up m g h = cc
  both_up false Up Opened m g h = cc
  both_up _ _ _ m g h = absurd (true≢false (sym m))

  item_up : (p q : Phase) (from to : Name) (f : List Message) → meets false p q ≡ true → Later rank 1 from to (greetings false p q ++ f) → is_up_phase p ≡ true
  item_up Up q from to f m l = refl
  item_up Opened Opened from to f m l = absurd (omega (arith, l.0))
  item_up Opened Up from to f m l = absurd (omega (arith, l.0))
  item_up Opened Idle from to f m l = absurd (true≢false (sym m))
  item_up Opened Confirmed from to f m l = absurd (true≢false (sym m))
  item_up Idle q from to f m l = absurd (true≢false (sym m))
  item_up Confirmed q from to f m l = absurd (true≢false (sym m))

  pub later_le : (n m : ℕ) (from to : Name) (f : List Message) → m ≤ n → Later rank n from to f → Later rank m from to f
  later_le n m from to [] h l = tt
  later_le n m from to (x ∷ f) h l = (omega (arith, l.0, h), later_le n m from to f h l.1)

  -- up to a late enough rank both ends are up
  pub ends_up : (s : Session) (n : ℕ) → 2 ≤ n → Joined size s → Clean (nodes s) n s → Clean (back (nodes s)) n (turned s) → (s.near.phase ≡ Up) × (s.far.phase ≡ Up)
  ends_up s n h j c d =
      let in_flight = subst (Later rank 2 s.far.name s.near.name) j.inward.flight (later_le n 2 s.far.name s.near.name s.far.flight h c) in
      let out_flight = subst (Later rank 2 s.near.name s.far.name) j.outward.flight (later_le n 2 s.near.name s.far.name s.near.flight h d) in
      both_up (is_peering s) s.near.phase s.far.phase j.inward.phases
      (no_greeting (is_peering s) s.near.phase s.far.phase s.far.name s.near.name (map Carries j.inward.changes) j.inward.phases in_flight)
      (no_greeting (is_peering s) s.far.phase s.near.phase s.near.name s.far.name (map Carries j.outward.changes) j.outward.phases out_flight)

  sender_may : (s : Session) (r : ℕ) (k : Key) → Joined size s → Clean (nodes s) (suc r) s → Clean (back (nodes s)) (suc r) (turned s) → RanksFit rank (nodes s) → rank s.far.name s.near.name k ≤ suc r → may_send (turned s) ≡ true
  sender_may s r k j c d fit h =
      ap (λ b. may_send_at b s.far.phase) (are_peers-turned s.far.role s.near.role)
      ∙ elim (are_peers s.near.role s.far.role) as (λ b. are_peers s.near.role s.far.role ≡ b → may_send_at b s.far.phase ≡ true) [
        | true ↦ λ is. ap is_up_phase (ends_up s (suc r) (two (suc r) (rank s.far.name s.near.name k) (fit.1 is k) h) j c d).1
        | false ↦ λ _. ap not (live_receiver (is_peering s) s.far.phase s.near.phase j.outward.phases)
      ] refl
    where
      two : (n m : ℕ) → 3 ≤ m → m ≤ n → 2 ≤ n
      two n m a b = omega arith

  -- what is held becomes right when nothing of the rank is in flight and what is sent is right
  pub right_next : (s : Session) (r : ℕ) → Joined size s → Clean (nodes s) (suc r) s → Clean (back (nodes s)) (suc r) (turned s) → RanksFit rank (nodes s) → SentRight (back (nodes s)) (suc r) (turned s) → Right rank goal (nodes s) (suc r) s
  right_next s r j c d fit sent = record {
    held = λ k h.
        sym (untouched k (suc r) s.far.name s.near.name s.near.held j.inward.changes h
        (later_rest rank (suc r) s.far.name s.near.name (greetings (is_peering s) s.near.phase s.far.phase) (map Carries j.inward.changes) (subst (Later rank (suc r) s.far.name s.near.name) j.inward.flight c)))
        ∙ ap (λ (m : Map). get m k) j.inward.tells
        ∙ sent k h (sender_may s r k j c d fit h);
    up = λ h item. item_up s.near.phase s.far.phase s.far.name s.near.name (map Carries j.inward.changes) (subst (λ b. meets b s.near.phase s.far.phase ≡ true) item j.inward.phases)
        (subst (λ b. Later rank 1 s.far.name s.near.name (greetings b s.near.phase s.far.phase ++ map Carries j.inward.changes)) item
        (subst (Later rank 1 s.far.name s.near.name) j.inward.flight (later_le (suc r) 1 s.far.name s.near.name s.far.flight h c)));
  }

  pub right_zero : (s : Session) → RanksFit rank (nodes s) → Right rank goal (nodes s) 0 s
  right_zero s fit = record { held = λ k h. absurd (none (rank s.far.name s.near.name k) (fit.0 k) h); up = λ h. absurd (omega (arith, h)) }
    where
      none : (n : ℕ) → 1 ≤ n → n ≤ 0 → ⊥
      none n a b = omega arith

  -- ---- what a session keeps during a round, up to rank r. The deliveries to come take at least `inward` messages from the far end, and `outward` the other way
  pub record Core (p : NodePair) (r inward outward : ℕ) (s : Session) : Type 0 where
    pub joined : Joined size s
    pub near_breaks : s.near.breaks ≡ []
    pub far_breaks : s.far.breaks ≡ []
    pub clean : Clean p r s
    pub clean_back : Clean (back p) r (turned s)
    pub due : DueByRank rank r p.1.0 p.0.0 inward s.far.flight
    pub due_back : DueByRank rank r p.0.0 p.1.0 outward s.near.flight

  joined_turned : (s : Session) → Joined size s → Joined size (turned s)
  joined_turned s j = elim (Fact-turned size s (inl j)) as (λ _. Joined size (turned s)) [ inl k ↦ k | inr d ↦ absurd (true≢false (sym d.down ∙ j.whole)) ]

  pub core_turned : (p : NodePair) (r i o : ℕ) (s : Session) → Core p r i o s → Core (back p) r o i (turned s)
  core_turned p r i o s c = record { joined = joined_turned s c.joined; near_breaks = c.far_breaks; far_breaks = c.near_breaks; clean = c.clean_back; clean_back = c.clean; due = c.due_back; due_back = c.due }

  due_more : (r : ℕ) (from to : Name) (n m : ℕ) (f : List Message) → n ≤ m → DueByRank rank r from to n f → DueByRank rank r from to m f
  due_more r from to n m f h d = record { old = d.old; new = d.new; split = d.split; few = more (length d.old) d.few; later = d.later }
    where
      more : (a : ℕ) → a ≤ n → a ≤ m
      more a k = omega (arith, h, k)

  pub core_more : (p : NodePair) (r i o j q : ℕ) (s : Session) → i ≤ j → o ≤ q → Core p r i o s → Core p r j q s
  core_more p r i o j q s h k c = record { joined = c.joined; near_breaks = c.near_breaks; far_breaks = c.far_breaks; clean = c.clean; clean_back = c.clean_back; due = due_more r p.1.0 p.0.0 i j s.far.flight h c.due; due_back = due_more r p.0.0 p.1.0 o q s.near.flight k c.due_back }

  -- ---- a pass of the near end
  later_difference : (from to : Name) (n : ℕ) (a b : Map) (ds : List Change) → ((k : Key) → rank from to k ≤ n → get a k ≡ get b k) → AllByRecursion (λ d. get a (key_of d) ≡ get b (key_of d) → ⊥) ds → Later rank n from to (map Carries ds)
  later_difference from to n a b [] same h = tt
  later_difference from to n a b (d ∷ ds) same h =
      (elim (cases_lt n (rank from to (key_of d))) as (λ _. n < rank from to (key_of d)) [ inl l ↦ l | inr l ↦ absurd (h.0 (same (key_of d) l)) ], later_difference from to n a b ds same h.1)

  whole_joined : (s : Session) → Fact size s → s.is_down ≡ false → Joined size s
  whole_joined s (inl j) e = j
  whole_joined s (inr d) e = absurd (true≢false (sym d.down ∙ e))

  pub core_passed : (p : NodePair) (r i o : ℕ) (m : Map) (s : Session) → Core p r i o s → SentRight p (suc r) s → ((k : Key) → rank p.0.0 p.1.0 k ≤ suc r → get m k ≡ goal p.0.0 p.1.0 k) → Core p r i o (passed m s)
  core_passed p r i o m s c sent want =
      subst (Core p r i o) (sym (passed_easy m s c.joined.whole c.near_breaks))
      (elim (may_send s) as (λ b. may_send s ≡ b → Core p r i o (cond b (telling m s) s)) [
        | true ↦ λ may.
            let same : passed m s ≡ telling m s = passed_easy m s c.joined.whole c.near_breaks ∙ ap (λ b. cond b (telling m s) s) may in
            let sends : Later rank (suc r) p.0.0 p.1.0 (map Carries (difference s.near.sent m)) =
            later_difference p.0.0 p.1.0 (suc r) s.near.sent m (difference s.near.sent m) (λ k h. sent k h may ∙ sym (want k h)) (difference_differs same_value same_value_decides s.near.sent m) in
            record {
              joined = whole_joined (telling m s) (subst (Fact size) same (passed_keeps size positive m s (inl c.joined))) c.joined.whole;
              near_breaks = c.near_breaks;
              far_breaks = c.far_breaks;
              clean = c.clean;
              clean_back = later_append rank r p.0.0 p.1.0 s.near.flight (map Carries (difference s.near.sent m)) c.clean_back (later_weaker rank r p.0.0 p.1.0 (map Carries (difference s.near.sent m)) sends);
              due = c.due;
              due_back = due_append rank r p.0.0 p.1.0 o s.near.flight (map Carries (difference s.near.sent m)) c.due_back sends;
            }
        | false ↦ λ _. c
      ] refl)

  -- ---- a delivery to the near end
  pub record Known (p : NodePair) (r : ℕ) (s : Session) : Type 0 where
    pub right : Right rank goal p r s
    pub right_back : Right rank goal (back p) r (turned s)
    pub sent : SentRight p (suc r) s
    pub sent_back : SentRight (back p) (suc r) (turned s)

  peering_kept : (p : NodePair) (s : Session) → nodes s ≡ p → is_peering s ≡ are_peers p.0.1 p.1.1
  peering_kept p s e = ap (λ (p : NodePair). are_peers p.0.1 p.1.1) e

  back_kept : (p : NodePair) (s t : Session) → nodes s ≡ p → nodes t ≡ p → t.far.phase ≡ s.far.phase → may_send (turned t) ≡ may_send (turned s)
  back_kept p s t e f q = (λ i. may_send_at (are_peers (f i).1.1 (f i).0.1) (q i)) ∙ (λ i. may_send_at (are_peers (sym e i).1.1 (sym e i).0.1) s.far.phase)

  known_arrived : (p : NodePair) (r : ℕ) (s t : Session) (m : Message) (ms : List Message) → nodes s ≡ p → nodes t ≡ p → RanksFit rank (back p) → s.far.flight ≡ m ∷ ms → Later rank r p.1.0 p.0.0 (m ∷ ms) → Arrival m ms s t → Known p r s → Known p r t
  known_arrived p r s t m ms e f fit in_flight later a k = record {
    right = record {
      held = λ j h. elim a.held as (λ _. get t.near.held j ≡ goal p.1.0 p.0.0 j) [
        | inl same ↦ ap (λ (m : Map). get m j) same ∙ k.right.held j h
        | inr d ↦ ap (λ (m : Map). get m j) d.2 ∙ changed_apart key_total key_exact s.near.held d.0 j (λ is. absurd (apart (rank p.1.0 p.0.0 j) (rank p.1.0 p.0.0 (key_of d.0)) (subst (λ (m : Message). r < message_rank rank p.1.0 p.0.0 m) d.1 later.0) h (ap (rank p.1.0 p.0.0) is))) ∙ k.right.held j h
      ];
      up = λ h item. a.up (k.right.up h item);
    };
    right_back = record { held = λ j h. ap (λ (m : Map). get m j) a.far_same.1 ∙ k.right_back.held j h; up = λ h item. ap is_up_phase a.far_same.2 ∙ k.right_back.up h item };
    sent = λ j h may. ap (λ (m : Map). get m j) a.sent ∙ elim (a.may may) as (λ _. get s.near.sent j ≡ goal p.0.0 p.1.0 j) [
      | inl before ↦ k.sent j h before
      | inr q ↦ absurd (late (rank p.0.0 p.1.0 j) (subst (λ (m : Message). r < message_rank rank p.1.0 p.0.0 m) q.0 later.0) (fit.1 (are_peers-turned p.1.1 p.0.1 ∙ sym (peering_kept p s e) ∙ q.1) j) h)
    ];
    sent_back = λ j h may. ap (λ (m : Map). get m j) a.far_same.0 ∙ k.sent_back j h (sym (back_kept p s t e f a.far_same.2) ∙ may);
  }
    where
      apart : (a b : ℕ) → r < b → a ≤ r → a ≡ b → ⊥
      apart a b l h e = omega arith

      late : (n : ℕ) → r < 2 → 3 ≤ n → n ≤ suc r → ⊥
      late n l h e = omega arith

  core_arrival : (p : NodePair) (r i o : ℕ) (s t : Session) (m : Message) (ms : List Message) → s.far.flight ≡ m ∷ ms → Joined size t → Arrival m ms s t → Core p r (suc i) o s → Core p r i o t
  core_arrival p r i o s t m ms in_flight j a c =
      let later : Later rank r p.1.0 p.0.0 (m ∷ ms) = subst (Later rank r p.1.0 p.0.0) in_flight c.clean in
      let replies : (f : List Message) → s.near.flight ++ f ≡ t.near.flight → Later rank (suc r) p.0.0 p.1.0 f → Core p r i o t = λ (f : List Message) (e : s.near.flight ++ f ≡ t.near.flight) (l : Later rank (suc r) p.0.0 p.1.0 f). record {
        joined = j;
        near_breaks = a.near_breaks ∙ c.near_breaks;
        far_breaks = a.far_breaks ∙ c.far_breaks;
        clean = subst (Later rank r p.1.0 p.0.0) (sym a.taken) later.1;
        clean_back = subst (Later rank r p.0.0 p.1.0) e (later_append rank r p.0.0 p.1.0 s.near.flight f c.clean_back (later_weaker rank r p.0.0 p.1.0 f l));
        due = subst (DueByRank rank r p.1.0 p.0.0 i) (sym a.taken) (due_first rank r p.1.0 p.0.0 i m ms c.due.old c.due.new (sym in_flight ∙ c.due.split) c.due.few c.due.later);
        due_back = subst (DueByRank rank r p.0.0 p.1.0 o) e (due_append rank r p.0.0 p.1.0 o s.near.flight f c.due_back l);
      } in
      elim a.reply as (λ _. Core p r i o t) [
        | inl same ↦ replies [] (sym (append_nil s.near.flight) ∙ sym same) tt
        | inr q ↦ replies (Keepalive ∷ []) (sym q.1) (first r (subst (λ (m : Message). r < message_rank rank p.1.0 p.0.0 m) q.0 later.0), tt)
      ]
    where
      first : (r : ℕ) → r < 1 → suc r < 2
      first r h = omega arith

  -- some messages are taken from the far end, without a pass. What is due falls by their number
  pub record Taken (p : NodePair) (r : ℕ) (s t : Session) : Type 0 where
    pub count : ℕ
    pub fewer : count + length t.far.flight ≡ length s.far.flight
    pub core : (i o : ℕ) → Core p r (count + i) o s → Known p r s → Core p r i o t × Known p r t

  none_taken : (p : NodePair) (r : ℕ) (s t : Session) → length t.far.flight ≡ length s.far.flight → ((i o : ℕ) → Core p r i o s → Known p r s → Core p r i o t × Known p r t) → Taken p r s t
  none_taken p r s t e h = record { count = 0; fewer = nothing (length t.far.flight) ∙ e; core = λ i o c. h i o (subst (λ n. Core p r n o s) (nothing i) c) }
    where
      nothing : (n : ℕ) → 0 + n ≡ n
      nothing n = omega arith

  -- a message is taken, and then some
  one_taken : (p : NodePair) (r : ℕ) (s t u : Session) (m : Message) (ms : List Message) → nodes s ≡ p → nodes t ≡ p → RanksFit rank (back p) → s.far.flight ≡ m ∷ ms → Joined size t → Arrival m ms s t → Taken p r t u → Taken p r s u
  one_taken p r s t u m ms e f fit is j a k = record {
    count = suc k.count;
    fewer = one k.count (length u.far.flight) ∙ ap suc (k.fewer ∙ ap length a.taken) ∙ ap length (sym is);
    core = λ i o c n. k.core i o
        (core_arrival p r (k.count + i) o s t m ms is j a (subst (λ n. Core p r n o s) (one k.count i) c))
        (known_arrived p r s t m ms e f fit is (subst (Later rank r p.1.0 p.0.0) is c.clean) a n);
  }
    where
      one : (a b : ℕ) → suc a + b ≡ suc (a + b)
      one a b = omega arith

  taken_none : (p : NodePair) (r : ℕ) (s : Session) → Taken p r s s
  taken_none p r s = none_taken p r s s refl (λ i o c k. (c, k))

  -- whatever arrives, if something does
  pub arrived_taken : (p : NodePair) (r : ℕ) (s : Session) → nodes s ≡ p → RanksFit rank (back p) → Joined size s → s.near.breaks ≡ [] → Taken p r s (arrived s)
  arrived_taken p r s e fit j unbroken =
      by_flight s.far.flight refl (arrives size s j unbroken)
    where
      by_flight : (f : List Message) → s.far.flight ≡ f → ArrivalOf f s (arrived s) → Taken p r s (arrived s)
      by_flight [] is a = subst (Taken p r s) (sym a) (taken_none p r s)
      by_flight (m ∷ ms) is a =
          one_taken p r s (arrived s) (arrived s) m ms e (arrived_nodes s ∙ e) fit is (whole_joined (arrived s) (arrived_keeps size positive s (inl j)) a.whole) a (taken_none p r (arrived s))

  -- some octets arrive
  took_arrives : (s : Session) (m : Message) (ms : List Message) → Joined size s → s.near.breaks ≡ [] → s.far.flight ≡ m ∷ ms → Arrival m ms s (took m (without_first ms s))
  unfolding arrived
  took_arrives s m ms j unbroken e =
      subst (λ (f : List Message). ArrivalOf f s (took_first f s)) e
      (subst (λ b. ArrivalOf s.far.flight s (cond b (record s { near = closed s.near }) (took_first s.far.flight s))) j.near_notice (arrives size s j unbroken))

  more_octets : (s : Session) (m : Message) (ms : List Message) (n : ℕ) → Joined size s → s.far.flight ≡ m ∷ ms → nat_lt n (size s.far.name m - s.far.taken) ≡ true → Joined size (record s { far = record s.far { taken = s.far.taken + n } })
  more_octets s m ms n j e t = record {
    whole = j.whole;
    near_notice = j.near_notice;
    far_notice = j.far_notice;
    inward = record {
      changes = j.inward.changes;
      phases = j.inward.phases;
      flight = j.inward.flight;
      early = j.inward.early;
      tells = j.inward.tells;
      partly = subst (λ (f : List Message). IsPartly (size s.far.name) f (s.far.taken + n)) (sym e)
          (more_taken size positive _ _ _ (subst (λ (f : List Message). IsPartly (size s.far.name) f s.far.taken) e j.inward.partly) t);
    };
    outward = record { changes = j.outward.changes; phases = j.outward.phases; flight = j.outward.flight; early = j.outward.early; tells = j.outward.tells; partly = j.outward.partly };
  }

  octets_taken : (p : NodePair) (r : ℕ) (f : List Message) (n : ℕ) (s : Session) → nodes s ≡ p → RanksFit rank (back p) → Joined size s → s.near.breaks ≡ [] → s.far.flight ≡ f → Taken p r s (took_octets size n f s)
  octets_taken p r [] n s e fit j unbroken is = taken_none p r s
  octets_taken p r (m ∷ ms) n s e fit j unbroken is =
      let t = took m (without_first ms s) in
      let u = record s { far = record s.far { taken = s.far.taken + n } } in
      let a = took_arrives s m ms j unbroken is in
      let same : nodes t ≡ p = took_nodes m (without_first ms s) ∙ e in
      subst (λ b. Taken p r s (cond b s (cond (nat_lt n (size s.far.name m - s.far.taken)) u (took_octets size (n - (size s.far.name m - s.far.taken)) ms t)))) (sym j.whole)
      (elim (nat_lt n (size s.far.name m - s.far.taken)) as (λ b. nat_lt n (size s.far.name m - s.far.taken) ≡ b → Taken p r s (cond b u (took_octets size (n - (size s.far.name m - s.far.taken)) ms t))) [
        | true ↦ λ few. none_taken p r s u refl (λ i o c k. (
          record { joined = more_octets s m ms n j is few; near_breaks = c.near_breaks; far_breaks = c.far_breaks; clean = c.clean; clean_back = c.clean_back; due = c.due; due_back = c.due_back },
          record { right = record { held = k.right.held; up = k.right.up }; right_back = record { held = k.right_back.held; up = k.right_back.up }; sent = k.sent; sent_back = k.sent_back },
        ))
        | false ↦ λ _.
            let joined = whole_joined t (took_keeps size positive s m ms j is) a.whole in
            one_taken p r s t (took_octets size (n - (size s.far.name m - s.far.taken)) ms t) m ms e same fit is joined a
            (octets_taken p r ms (n - (size s.far.name m - s.far.taken)) t same fit joined (a.near_breaks ∙ unbroken) a.taken)
      ] refl)

  pub octets_arrived_taken : (n : ℕ) (p : NodePair) (r : ℕ) (s : Session) → nodes s ≡ p → RanksFit rank (back p) → Joined size s → s.near.breaks ≡ [] → Taken p r s (octets_arrived size n s)
  unfolding octets_arrived
  octets_arrived_taken n p r s e fit j unbroken =
      subst (λ b. Taken p r s (cond b (record s { near = closed s.near }) (took_octets size n s.far.flight s))) (sym j.near_notice) (octets_taken p r s.far.flight n s e fit j unbroken refl)

  pub known_turned : (p : NodePair) (r : ℕ) (s : Session) → Known p r s → Known (back p) r (turned s)
  known_turned p r s k = record { right = k.right_back; right_back = k.right; sent = k.sent_back; sent_back = k.sent }
