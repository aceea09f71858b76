-- What a round takes of one session, down or not: messages of concern that were in flight as it began, and a notice.
use Rattle.std.specs.Prelude.{◌≡◌, ℕ, suc, ◌+◌, ◌-◌, ◌<◌, ◌≤◌, List, [], ◌∷◌, ◌++◌, map, length, Bool, true, false, not, cond, nat_lt}
use Rattle.std.specs.declared.option.Option.{Option}
use Rattle.std.specs.List.{AllByRecursion}
use Rattle.std.specs.FinMap.{get, empty}
use Rattle.std.proofs.lemmas.Bool.{true≢false}
use Rattle.std.proofs.Common.{refl, sym, ◌∙◌, ap, subst, inl, inr, append_assoc, arith}
use Rattle.machine_model.specs.OvSync.Keyed.{changed, after as changed_by, key_of}
use Rattle.machine_model.proofs.OvSync.KeyedLaws.{difference_differs, changed_apart}
use Rattle.node_laws.specs.NodeModel.Keys.{Key}
use Rattle.node_laws.specs.NodeModel.Values.{Value, same_value}
use Rattle.node_laws.proofs.NodeModel.Orders.{key_total, key_exact}
use Rattle.node_laws.proofs.NodeModel.Alike.{same_value_decides}
use Rattle.node_laws.specs.NodeModel.Maps.{Map, Change, difference}
use Rattle.node_laws.specs.NodeModel.Step.{Idle}
use Rattle.machine_model.specs.Setup.{Name}
use Rattle.machine_model.specs.Session.{Role, Message, Open, Keepalive, Hello, Carries, Session, SessionEnd, turned, are_peers, is_peering, may_send_at, may_send, told, passed, closed, took, without_first, took_first, arrived, took_octets, octets_arrived, waiting}
use Rattle.machine_model.specs.Moments.{NodePair, nodes, IsPartly}
use Rattle.machine_model.proofs.SessionFact.{sends, append_nil, greetings, live_receiver, more_taken, took_keeps, arrived_keeps, passed_keeps, Joined, Down, Fact, Fact-turned}
use Rattle.machine_model.proofs.NodesFact.{arrived_nodes, took_nodes}
use Rattle.machine_model.proofs.NetworkFact.{passed_nodes}
use Rattle.machine_model.proofs.Calm.{told_easy, Arrival, ArrivalOf, arrives}
use Rattle.machine_laws.specs.Settling.{back}

-- which keys are of concern from one role to another, and what they are to be
module _ (size : Name → Message → ℕ) (positive : (n : Name) (m : Message) → 0 < size n m) (concern : Role → Role → Key → Bool) (unpeered : (r q : Role) (k : Key) → concern r q k ≡ true → are_peers r q ≡ false) (goal : Name → Name → Key → Option Value) where
  abbrev pub IsOff : Role → Role → Message → Type 0
  IsOff r q (Carries d) = concern r q (key_of d) ≡ false
  IsOff r q Open = Unit {0}
  IsOff r q Keepalive = Unit {0}
  IsOff r q Hello = Unit {0}

  abbrev pub AreOff : Role → Role → List Message → Type 0
  AreOff r q f = AllByRecursion (IsOff r q) f

  off_append : (r q : Role) (f g : List Message) → AreOff r q f → AreOff r q g → AreOff r q (f ++ g)
  off_append r q [] g a b = b
  off_append r q (m ∷ f) g a b = (a.0, off_append r q f g a.1 b)

  -- towards the near end: n more are taken in this round, and what was sent since is of no concern
  pub record Due (p : NodePair) (n : ℕ) (s : Session) : Type 0 where
    pub old : List Message
    pub new : List Message
    pub split : s.far.flight ≡ old ++ new
    pub few : length old ≤ n
    pub off : AreOff p.1.1 p.0.1 new
    pub notice : s.near.notice ≡ true → 1 ≤ n
    pub sent : may_send (turned s) ≡ true → (k : Key) → concern p.1.1 p.0.1 k ≡ true → get s.far.sent k ≡ goal p.1.0 p.0.0 k

  pub due_more : (p : NodePair) (n m : ℕ) (s : Session) → n ≤ m → Due p n s → Due p m s
  due_more p n m s h d = record { old = d.old; new = d.new; split = d.split; few = more (length d.old) d.few; off = d.off; notice = λ e. more 1 (d.notice e); sent = d.sent }
    where
      more : (a : ℕ) → a ≤ n → a ≤ m
      more a k = omega (arith, h, k)

  -- the sending end stays as it is
  same_far : (p : NodePair) (n m : ℕ) (s t : Session) → n ≤ m → t.far.flight ≡ s.far.flight → (may_send (turned t) ≡ true → may_send (turned s) ≡ true) → t.far.sent ≡ s.far.sent → (t.near.notice ≡ true → 1 ≤ m) → Due p n s → Due p m t
  same_far p n m s t h flight may sent notice d = record {
    old = d.old;
    new = d.new;
    split = flight ∙ d.split;
    few = more (length d.old) d.few;
    off = d.off;
    notice = notice;
    sent = λ e k c. ap (λ (m : Map). get m k) sent ∙ d.sent (may e) k c;
  }
    where
      more : (a : ℕ) → a ≤ n → a ≤ m
      more a k = omega (arith, h, k)

  -- no end that is not live sends
  idle_silent : (b : Bool) → may_send_at b Idle ≡ true → ⊥
  idle_silent true e = true≢false (sym e)
  idle_silent false e = true≢false (sym e)

  -- ---- without breaks
  abbrev pub IsFit : Session → Type 0
  IsFit s = Fact size s × (s.near.breaks ≡ []) × (s.far.breaks ≡ [])

  pub fit_turned : (s : Session) → IsFit s → IsFit (turned s)
  fit_turned s f = (Fact-turned size s f.0, f.2, f.1)

  -- some messages or the notice are taken at the near end, without a pass
  pub record TakenDue (p : NodePair) (s t : Session) : Type 0 where
    pub count : ℕ
    pub fewer : count + waiting t ≡ waiting s
    pub due : (n : ℕ) → Due p (count + n) s → Due p n t
    pub due_back : (n : ℕ) → Due (back p) n (turned s) → Due (back p) n (turned t)
    pub down : t.is_down ≡ s.is_down
    pub fit : IsFit t
    pub hush : t.near.notice ≡ false
    pub hush_far : s.far.notice ≡ false → t.far.notice ≡ false

  less_le : (n : ℕ) → n ≤ n
  less_le n = omega arith

  zero_add : (n : ℕ) → 0 + n ≤ n
  zero_add n = omega arith

  no_wait : (b : Bool) (n : ℕ) → b ≡ false → cond b 1 n ≡ n
  no_wait true n e = absurd (true≢false e)
  no_wait false n e = refl

  not_noticed : (b : Bool) (n : ℕ) → b ≡ false → b ≡ true → 1 ≤ n
  not_noticed b n e f = absurd (true≢false (sym f ∙ e))

  none_taken : (p : NodePair) (s : Session) → IsFit s → s.near.notice ≡ false → TakenDue p s s
  none_taken p s f e = record {
    count = 0;
    fewer = none (waiting s);
    due = λ n d. due_more p (0 + n) n s (zero_add n) d;
    due_back = λ n d. d;
    down = refl;
    fit = f;
    hush = e;
    hush_far = λ e. e;
  }
    where
      none : (n : ℕ) → 0 + n ≡ n
      none n = omega arith

  taken_trans : (p : NodePair) (s t u : Session) → TakenDue p s t → TakenDue p t u → TakenDue p s u
  taken_trans p s t u a b = record {
    count = a.count + b.count;
    fewer = sum a.count b.count (waiting s) (waiting t) (waiting u) a.fewer b.fewer;
    due = λ n d. b.due n (a.due (b.count + n) (due_more p ((a.count + b.count) + n) (a.count + (b.count + n)) s (assoc a.count b.count n) d));
    due_back = λ n d. b.due_back n (a.due_back n d);
    down = b.down ∙ a.down;
    fit = b.fit;
    hush = b.hush;
    hush_far = λ e. b.hush_far (a.hush_far e);
  }
    where
      sum : (i j x y z : ℕ) → i + y ≡ x → j + z ≡ y → (i + j) + z ≡ x
      sum i j x y z e f = omega (arith, e, f)

      assoc : (i j n : ℕ) → (i + j) + n ≤ i + (j + n)
      assoc i j n = omega arith

  -- ---- a message is taken
  first_gone : (p : NodePair) (n : ℕ) (m : Message) (ms old new : List Message) → m ∷ ms ≡ old ++ new → length old ≤ 1 + n → AreOff p.1.1 p.0.1 new
      → (o : List Message) × (w : List Message) × (ms ≡ o ++ w) × (length o ≤ n) × AreOff p.1.1 p.0.1 w
  first_gone p n m ms [] [] e few off = cc
  first_gone p n m ms [] (k ∷ new) e few off = ([], ms, refl, zero_le n, subst (AreOff p.1.1 p.0.1) (cc) off.1)
    where
      zero_le : (n : ℕ) → 0 ≤ n
      zero_le n = omega arith
  first_gone p n m ms (o ∷ old) new e few off = (old, new, cc, less few, off)
    where
      less : suc (length old) ≤ 1 + n → length old ≤ n
      less h = omega (arith, h)

  one_taken : (p : NodePair) (s t : Session) (m : Message) (ms : List Message) → nodes s ≡ p → nodes t ≡ p → IsFit s → s.is_down ≡ false → s.near.notice ≡ false → s.far.flight ≡ m ∷ ms → Joined size t → Arrival m ms s t → TakenDue p s t
  one_taken p s t m ms e f fit whole silent is j a = record {
    count = 1;
    fewer = ap (λ n. 1 + n) (no_wait t.near.notice (length t.far.flight) j.near_notice ∙ ap length a.taken) ∙ one (length ms) ∙ ap length (sym is) ∙ sym (no_wait s.near.notice (length s.far.flight) silent);
    due = λ n d. let g = first_gone p n m ms d.old d.new (sym is ∙ d.split) (d.few) d.off in record {
      old = g.0;
      new = g.1;
      split = a.taken ∙ g.2;
      few = g.3;
      off = g.4;
      notice = not_noticed t.near.notice n j.near_notice;
      sent = λ may k c. ap (λ (m : Map). get m k) a.far_same.0 ∙ d.sent (far_may ∙ may) k c;
    };
    due_back = λ n d. replied n d;
    down = j.whole ∙ sym whole;
    fit = (inl j, a.near_breaks ∙ fit.1, a.far_breaks ∙ fit.2);
    hush = j.near_notice;
    hush_far = λ _. j.far_notice;
  }
    where
      one : (n : ℕ) → 1 + n ≡ suc n
      one n = omega arith

      same : nodes s ≡ nodes t
      same = e ∙ sym f

      far_may : may_send (turned s) ≡ may_send (turned t)
      far_may = λ i. may_send_at (are_peers (same i).1.1 (same i).0.1) (sym a.far_same.2 i)

      -- what is sent back is of no concern
      after_may : (k : Key) → concern p.0.1 p.1.1 k ≡ true → may_send t ≡ true → may_send s ≡ true
      after_may k c may = elim (a.may may) as (λ _. may_send s ≡ true) [
        | inl h ↦ h
        | inr h ↦ absurd (true≢false (sym h.1 ∙ ap (λ (p : NodePair). are_peers p.0.1 p.1.1) e ∙ unpeered p.0.1 p.1.1 k c))
      ]

      with_flight : (n : ℕ) (g : List Message) → t.near.flight ≡ s.near.flight ++ g → AreOff p.0.1 p.1.1 g → Due (back p) n (turned s) → Due (back p) n (turned t)
      with_flight n g q o d = record {
        old = d.old;
        new = d.new ++ g;
        split = q ∙ ap (λ (f : List Message). f ++ g) d.split ∙ append_assoc d.old d.new g;
        few = d.few;
        off = off_append p.0.1 p.1.1 d.new g d.off o;
        notice = not_noticed t.far.notice n j.far_notice;
        sent = λ may k c. ap (λ (m : Map). get m k) a.sent ∙ d.sent (after_may k c may) k c;
      }

      replied : (n : ℕ) → Due (back p) n (turned s) → Due (back p) n (turned t)
      replied n d = elim a.reply as (λ _. Due (back p) n (turned t)) [
        | inl q ↦ with_flight n [] (q ∙ append_nil s.near.flight) tt d
        | inr q ↦ with_flight n (Keepalive ∷ []) q.1 (tt, tt) d
      ]

  -- ---- whatever arrives
  closed_taken : (p : NodePair) (s : Session) → IsFit s → s.near.notice ≡ true → Down s → TakenDue p s (record s { near = closed s.near })
  closed_taken p s f is d = record {
    count = 1;
    fewer = ap (λ (f : List Message). 1 + length f) d.far.flight ∙ ap (λ b. cond b 1 (length s.far.flight)) (sym is);
    due = λ n d'. record {
      old = [];
      new = [];
      split = d.far.flight;
      few = zero_le n;
      off = tt;
      notice = λ e. absurd (true≢false (sym e));
      sent = d'.sent;
    };
    due_back = λ n d'. record {
      old = [];
      new = [];
      split = refl;
      few = zero_le n;
      off = tt;
      notice = d'.notice;
      sent = λ may k c. absurd (idle_silent (are_peers s.near.role s.far.role) may);
    };
    down = refl;
    fit = (inr (record { down = d.down; near = record { notice = refl; flight = refl; taken = refl; tidy = λ _. (refl, refl) }; far = d.far }), f.1, f.2);
    hush = refl;
    hush_far = λ e. e;
  }
    where
      zero_le : (n : ℕ) → 0 ≤ n
      zero_le n = omega arith

  whole_joined : (s : Session) → Fact size s → s.is_down ≡ false → Joined size s
  whole_joined s (inl j) e = j
  whole_joined s (inr d) e = absurd (true≢false (sym d.down ∙ e))

  joined_arrives : (p : NodePair) (s : Session) → nodes s ≡ p → IsFit s → Joined size s → TakenDue p s (arrived s)
  joined_arrives p s e f j = by_flight s.far.flight refl (arrives size s j f.1)
    where
      by_flight : (g : List Message) → s.far.flight ≡ g → ArrivalOf g s (arrived s) → TakenDue p s (arrived s)
      by_flight [] is a = subst (TakenDue p s) (sym a) (none_taken p s f j.near_notice)
      by_flight (m ∷ ms) is a = one_taken p s (arrived s) m ms e (arrived_nodes s ∙ e) f j.whole j.near_notice is (whole_joined (arrived s) (arrived_keeps size positive s f.0) a.whole) a

  down_arrives : (p : NodePair) (s : Session) → IsFit s → Down s → TakenDue p s (arrived s)
  unfolding arrived
  down_arrives p s f d =
      elim s.near.notice as (λ b. s.near.notice ≡ b → TakenDue p s (cond b (record s { near = closed s.near }) (took_first s.far.flight s))) [
        | true ↦ λ is. closed_taken p s f is d
        | false ↦ λ is. subst (λ (f : List Message). TakenDue p s (took_first f s)) (sym d.far.flight) (none_taken p s f is)
      ] refl

  pub arrived_due : (p : NodePair) (s : Session) → nodes s ≡ p → IsFit s → TakenDue p s (arrived s)
  arrived_due p s e f = elim f.0 as (λ _. TakenDue p s (arrived s)) [ inl j ↦ joined_arrives p s e f j | inr d ↦ down_arrives p s f d ]

  -- ---- octets
  took_arrives : (s : Session) (m : Message) (ms : List Message) → Joined size s → s.near.breaks ≡ [] → s.far.flight ≡ m ∷ ms → Arrival m ms s (took m (without_first ms s))
  unfolding arrived
  took_arrives s m ms j unbroken e =
      subst (λ (f : List Message). ArrivalOf f s (took_first f s)) e
      (subst (λ b. ArrivalOf s.far.flight s (cond b (record s { near = closed s.near }) (took_first s.far.flight s))) j.near_notice (arrives size s j unbroken))

  more_octets : (s : Session) (m : Message) (ms : List Message) (n : ℕ) → Joined size s → s.far.flight ≡ m ∷ ms → nat_lt n (size s.far.name m - s.far.taken) ≡ true → Joined size (record s { far = record s.far { taken = s.far.taken + n } })
  more_octets s m ms n j e t = record {
    whole = j.whole;
    near_notice = j.near_notice;
    far_notice = j.far_notice;
    inward = record {
      changes = j.inward.changes;
      phases = j.inward.phases;
      flight = j.inward.flight;
      early = j.inward.early;
      tells = j.inward.tells;
      partly = subst (λ (f : List Message). IsPartly (size s.far.name) f (s.far.taken + n)) (sym e)
          (more_taken size positive _ _ _ (subst (λ (f : List Message). IsPartly (size s.far.name) f s.far.taken) e j.inward.partly) t);
    };
    outward = record { changes = j.outward.changes; phases = j.outward.phases; flight = j.outward.flight; early = j.outward.early; tells = j.outward.tells; partly = j.outward.partly };
  }

  octets_taken : (p : NodePair) (f : List Message) (n : ℕ) (s : Session) → nodes s ≡ p → IsFit s → Joined size s → s.far.flight ≡ f → TakenDue p s (took_octets size n f s)
  octets_taken p [] n s e fit j is = none_taken p s fit j.near_notice
  octets_taken p (m ∷ ms) n s e fit j is =
      let t = took m (without_first ms s) in
      let u = record s { far = record s.far { taken = s.far.taken + n } } in
      let a = took_arrives s m ms j fit.1 is in
      let same : nodes t ≡ p = took_nodes m (without_first ms s) ∙ e in
      subst (λ b. TakenDue p s (cond b s (cond (nat_lt n (size s.far.name m - s.far.taken)) u (took_octets size (n - (size s.far.name m - s.far.taken)) ms t)))) (sym j.whole)
      (elim (nat_lt n (size s.far.name m - s.far.taken)) as (λ b. nat_lt n (size s.far.name m - s.far.taken) ≡ b → TakenDue p s (cond b u (took_octets size (n - (size s.far.name m - s.far.taken)) ms t))) [
        | true ↦ λ few. record {
          count = 0;
          fewer = none (waiting s);
          due = λ n d. same_far p (0 + n) n s u (zero_add n) refl (λ e. e) refl (not_noticed s.near.notice n j.near_notice) d;
          due_back = λ n d. record { old = d.old; new = d.new; split = d.split; few = d.few; off = d.off; notice = d.notice; sent = d.sent };
          down = refl;
          fit = (inl (more_octets s m ms n j is few), fit.1, fit.2);
          hush = j.near_notice;
          hush_far = λ e. e;
        }
        | false ↦ λ _.
            let joined = whole_joined t (took_keeps size positive s m ms j is) a.whole in
            let one = one_taken p s t m ms e same fit j.whole j.near_notice is joined a in
            taken_trans p s t (took_octets size (n - (size s.far.name m - s.far.taken)) ms t) one
            (octets_taken p ms (n - (size s.far.name m - s.far.taken)) t same one.fit joined a.taken)
      ] refl)
    where
      none : (n : ℕ) → 0 + n ≡ n
      none n = omega arith

  pub octets_due : (n : ℕ) (p : NodePair) (s : Session) → nodes s ≡ p → IsFit s → TakenDue p s (octets_arrived size n s)
  unfolding octets_arrived
  octets_due n p s e f =
      elim f.0 as (λ _. TakenDue p s (cond s.near.notice (record s { near = closed s.near }) (took_octets size n s.far.flight s))) [
        | inl j ↦ subst (λ b. TakenDue p s (cond b (record s { near = closed s.near }) (took_octets size n s.far.flight s))) (sym j.near_notice) (octets_taken p s.far.flight n s e f j refl)
        | inr d ↦ elim s.near.notice as (λ b. s.near.notice ≡ b → TakenDue p s (cond b (record s { near = closed s.near }) (took_octets size n s.far.flight s))) [
          | true ↦ λ is. closed_taken p s f is d
          | false ↦ λ is. subst (λ (g : List Message). TakenDue p s (took_octets size n g s)) (sym d.far.flight) (none_taken p s f is)
        ] refl
      ]

  -- ---- a pass of the near end
  pub record Passed (p : NodePair) (m : Map) (s t : Session) : Type 0 where
    pub down : t.is_down ≡ s.is_down
    pub far : t.far ≡ s.far
    pub notice : t.near.notice ≡ s.near.notice
    pub fit : IsFit t
    pub due_back : ((k : Key) → concern p.0.1 p.1.1 k ≡ true → get m k ≡ goal p.0.0 p.1.0 k) → (n : ℕ) → Due (back p) n (turned s) → Due (back p) n (turned t)

  off_difference : (r q : Role) (a b : Map) (ds : List Change) → ((k : Key) → concern r q k ≡ true → get a k ≡ get b k) → AllByRecursion (λ d. get a (key_of d) ≡ get b (key_of d) → ⊥) ds → AreOff r q (map Carries ds)
  off_difference r q a b [] same h = tt
  off_difference r q a b (d ∷ ds) same h = (
    elim (concern r q (key_of d)) as (λ c. concern r q (key_of d) ≡ c → c ≡ false) [ true ↦ λ is. absurd (h.0 (same (key_of d) is)) | false ↦ λ _. refl ] refl,
    off_difference r q a b ds same h.1,
  )

  passed_parts : (p : NodePair) (m : Map) (s : Session) → nodes s ≡ p → s.near.breaks ≡ [] → may_send s ≡ true
      → let t : Session = sends (map Carries (difference s.near.sent m)) (record s { near = record s.near { sent = m } }) in
      (t.is_down ≡ s.is_down) × (t.far ≡ s.far) × (t.near.notice ≡ s.near.notice) × (t.near.breaks ≡ s.near.breaks)
      × (((k : Key) → concern p.0.1 p.1.1 k ≡ true → get m k ≡ goal p.0.0 p.1.0 k) → (n : ℕ) → Due (back p) n (turned s) → Due (back p) n (turned t))
  passed_parts p m s e unbroken may =
      elim s.is_down as (λ d. let t : Session = cond d (record { is_down = d; near = record s.near { sent = m }; far = s.far }) (record { is_down = d; near = record s.near { sent = m; flight = s.near.flight ++ map Carries (difference s.near.sent m) }; far = s.far }) in
      (t.is_down ≡ d) × (t.far ≡ s.far) × (t.near.notice ≡ s.near.notice) × (t.near.breaks ≡ s.near.breaks)
      × (((k : Key) → concern p.0.1 p.1.1 k ≡ true → get m k ≡ goal p.0.0 p.1.0 k) → (n : ℕ) → Due (back p) n (turned s) → Due (back p) n (turned t))) [
        | true ↦ (refl, refl, refl, refl, λ right n d. record { old = d.old; new = d.new; split = d.split; few = d.few; off = d.off; notice = d.notice; sent = λ _ k c. right k c })
        | false ↦ (
          refl,
          refl,
          refl,
          refl,
          λ right n d. record {
            old = d.old;
            new = d.new ++ map Carries (difference s.near.sent m);
            split = ap (λ (f : List Message). f ++ map Carries (difference s.near.sent m)) d.split ∙ append_assoc d.old d.new (map Carries (difference s.near.sent m));
            few = d.few;
            off = off_append p.0.1 p.1.1 d.new (map Carries (difference s.near.sent m)) d.off
                (off_difference p.0.1 p.1.1 s.near.sent m (difference s.near.sent m) (λ k c. d.sent may k c ∙ sym (right k c)) (difference_differs same_value same_value_decides s.near.sent m));
            notice = d.notice;
            sent = λ _ k c. right k c;
          },
        )
      ]

  passed_is : (m : Map) (s : Session) → s.near.breaks ≡ [] → passed m s ≡ cond (may_send s) (sends (map Carries (difference s.near.sent m)) (record s { near = record s.near { sent = m } })) s
  unfolding passed
  passed_is m s e =
      elim (may_send s) as (λ b. cond b (told (map Carries (difference s.near.sent m)) (record s { near = record s.near { sent = m } })) s ≡ cond b (sends (map Carries (difference s.near.sent m)) (record s { near = record s.near { sent = m } })) s) [
        | true ↦ told_easy (map Carries (difference s.near.sent m)) (record s { near = record s.near { sent = m } }) e
        | false ↦ refl
      ]

  pub passed_due : (p : NodePair) (m : Map) (s : Session) → nodes s ≡ p → IsFit s → Passed p m s (passed m s)
  passed_due p m s e f =
      let t : Session = sends (map Carries (difference s.near.sent m)) (record s { near = record s.near { sent = m } }) in
      let is = passed_is m s f.1 in
      subst (Passed p m s) (sym is)
      (elim (may_send s) as (λ b. may_send s ≡ b → Passed p m s (cond b t s)) [
        | true ↦ λ may.
            let q = passed_parts p m s e f.1 may in
            record {
              down = q.0;
              far = q.1;
              notice = q.2;
              fit = (subst (Fact size) (is ∙ ap (λ b. cond b t s) may) (passed_keeps size positive m s f.0), q.3 ∙ f.1, ap (λ (e : SessionEnd). e.breaks) q.1 ∙ f.2);
              due_back = q.4;
            }
        | false ↦ λ _. record { down = refl; far = refl; notice = refl; fit = f; due_back = λ right n d. d }
      ] refl)

  -- the other direction minds nothing
  pub passed_due_far : (p : NodePair) (m : Map) (s : Session) → nodes s ≡ p → IsFit s → (n : ℕ) → Due p n s → Due p n (passed m s)
  passed_due_far p m s e f n d =
      let q = passed_due p m s e f in
      let same : nodes (passed m s) ≡ nodes s = passed_nodes m s in
      same_far p n n s (passed m s) (less_le n) (ap (λ (e : SessionEnd). e.flight) q.far)
      (λ may. (λ i. may_send_at (are_peers (sym same i).1.1 (sym same i).0.1) (sym q.far i).phase) ∙ may)
      (ap (λ (e : SessionEnd). e.sent) q.far) (λ is. d.notice (sym q.notice ∙ is)) d

  -- one arrival takes one, if anything waits
  nothing_due : (p : NodePair) (n m : ℕ) (s : Session) → s.far.flight ≡ [] → s.near.notice ≡ false → Due p n s → Due p m s
  nothing_due p n m s e q d = record { old = []; new = []; split = e; few = zero_le m; off = tt; notice = not_noticed s.near.notice m q; sent = d.sent }
    where
      zero_le : (n : ℕ) → 0 ≤ n
      zero_le n = omega arith

  suc_one : (n : ℕ) → suc n ≤ 1 + n
  suc_one n = omega arith

  joined_one : (p : NodePair) (s : Session) → nodes s ≡ p → IsFit s → Joined size s → (n : ℕ) → Due p (suc n) s → Due p n (arrived s)
  unfolding one_taken
  joined_one p s e f j n d = by_flight s.far.flight refl (arrives size s j f.1)
    where
      by_flight : (g : List Message) → s.far.flight ≡ g → ArrivalOf g s (arrived s) → Due p n (arrived s)
      by_flight [] is a = subst (Due p n) (sym a) (nothing_due p (suc n) n s is j.near_notice d)
      by_flight (m ∷ ms) is a =
          (one_taken p s (arrived s) m ms e (arrived_nodes s ∙ e) f j.whole j.near_notice is (whole_joined (arrived s) (arrived_keeps size positive s f.0) a.whole) a).due n
          (due_more p (suc n) (1 + n) s (suc_one n) d)

  down_one : (p : NodePair) (s : Session) → IsFit s → Down s → (n : ℕ) → Due p (suc n) s → Due p n (arrived s)
  unfolding arrived closed_taken
  down_one p s f d n due =
      elim s.near.notice as (λ b. s.near.notice ≡ b → Due p n (cond b (record s { near = closed s.near }) (took_first s.far.flight s))) [
        | true ↦ λ is. (closed_taken p s f is d).due n (due_more p (suc n) (1 + n) s (suc_one n) due)
        | false ↦ λ is. subst (λ (f : List Message). Due p n (took_first f s)) (sym d.far.flight) (nothing_due p (suc n) n s d.far.flight is due)
      ] refl

  pub arrived_one : (p : NodePair) (s : Session) → nodes s ≡ p → IsFit s → (n : ℕ) → Due p (suc n) s → Due p n (arrived s)
  arrived_one p s e f n d = elim f.0 as (λ _. Due p n (arrived s)) [ inl j ↦ joined_one p s e f j n d | inr q ↦ down_one p s f q n d ]

  -- where nothing waits, nothing is due
  pub idle_due : (p : NodePair) (n m : ℕ) (s : Session) → waiting s ≡ 0 → Due p n s → Due p m s
  idle_due p n m s e d =
      elim s.near.notice as (λ b. s.near.notice ≡ b → cond b 1 (length s.far.flight) ≡ 0 → Due p m s) [
        | true ↦ λ _ e. absurd (omega (arith, e))
        | false ↦ λ q e. nothing_due p n m s (none s.far.flight e) q d
      ] refl e
    where
      none : (f : List Message) → length f ≡ 0 → f ≡ []
      none [] e = refl
      none (x ∷ f) e = absurd (omega (arith, e))

  -- a lost session whose notice was taken is owed nothing
  pub lost_due : (p : NodePair) (n m : ℕ) (s : Session) → IsFit s → s.is_down ≡ true → s.near.notice ≡ false → Due p n s → Due p m s
  lost_due p n m s f down q d =
      elim f.0 as (λ _. Due p m s) [ inl j ↦ absurd (true≢false (sym down ∙ j.whole)) | inr l ↦ nothing_due p n m s l.far.flight q d ]

  -- as a round begins
  pub due_begins : (p : NodePair) (n : ℕ) (s : Session) → IsFit s → waiting s ≤ n
      → (may_send (turned s) ≡ true → (k : Key) → concern p.1.1 p.0.1 k ≡ true → get s.far.sent k ≡ goal p.1.0 p.0.0 k) → Due p n s
  due_begins p n s f h sent =
      elim s.near.notice as (λ b. s.near.notice ≡ b → cond b 1 (length s.far.flight) ≤ n → Due p n s) [
        | true ↦ λ is h. elim f.0 as (λ _. Due p n s) [
          | inl j ↦ absurd (true≢false (sym is ∙ j.near_notice))
          | inr d ↦ record { old = []; new = []; split = d.far.flight; few = zero_le n; off = tt; notice = λ _. h; sent = sent }
        ]
        | false ↦ λ is h. record { old = s.far.flight; new = []; split = append_nil s.far.flight; few = h; off = tt; notice = not_noticed s.near.notice n is; sent = sent }
      ] refl h
    where
      zero_le : (n : ℕ) → 0 ≤ n
      zero_le n = omega arith

  -- ---- where nothing is due, what is held is what is to be, or nothing
  off_rest : (r q : Role) (f g : List Message) → AreOff r q (f ++ g) → AreOff r q g
  off_rest r q [] g a = a
  off_rest r q (m ∷ f) g a = off_rest r q f g a.1

  untouched : (r q : Role) (k : Key) (m : Map) (ds : List Change) → concern r q k ≡ true → AreOff r q (map Carries ds) → get (changed_by m ds) k ≡ get m k
  untouched r q k m [] h l = refl
  untouched r q k m (d ∷ ds) h l =
      untouched r q k (changed m d) ds h l.1
      ∙ changed_apart key_total key_exact m d k (λ e. absurd (true≢false (sym h ∙ ap (concern r q) e ∙ l.0)))

  all_off : (p : NodePair) (s : Session) → Due p 0 s → AreOff p.1.1 p.0.1 s.far.flight
  all_off p s d = go d.old d.new d.split d.few d.off
    where
      go : (old new : List Message) → s.far.flight ≡ old ++ new → length old ≤ 0 → AreOff p.1.1 p.0.1 new → AreOff p.1.1 p.0.1 s.far.flight
      go [] new e few off = subst (AreOff p.1.1 p.0.1) (sym e) off
      go (m ∷ old) new e few off = absurd (omega (arith, few))

  pub held_joined : (s : Session) → Joined size s → Due (nodes s) 0 s → (k : Key) → concern s.far.role s.near.role k ≡ true → get s.near.held k ≡ goal s.far.name s.near.name k
  held_joined s j d k c =
      sym (untouched s.far.role s.near.role k s.near.held j.inward.changes c
      (off_rest s.far.role s.near.role (greetings (is_peering s) s.near.phase s.far.phase) (map Carries j.inward.changes) (subst (AreOff s.far.role s.near.role) j.inward.flight (all_off (nodes s) s d))))
      ∙ ap (λ (m : Map). get m k) j.inward.tells
      ∙ d.sent (ap (λ b. may_send_at b s.far.phase) (unpeered s.far.role s.near.role k c) ∙ ap not (live_receiver (is_peering s) s.far.phase s.near.phase j.outward.phases)) k c

  pub held_down : (s : Session) → Down s → Due (nodes s) 0 s → s.near.held ≡ empty
  held_down s d due =
      elim s.near.notice as (λ b. s.near.notice ≡ b → s.near.held ≡ empty) [
        | true ↦ λ is. absurd (none (due.notice is))
        | false ↦ λ is. (d.near.tidy (sym d.near.notice ∙ is)).1
      ] refl
    where
      none : 1 ≤ 0 → ⊥
      none h = omega (arith, h)
