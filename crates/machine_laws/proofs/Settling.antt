-- Rounds of deliveries settle the network.
use Rattle.std.specs.Prelude.{◌≡◌, ◌⊎◌, ℕ, zero, suc, ◌+◌, ◌-◌, ◌<◌, ◌≤◌, List, [], ◌∷◌, ◌++◌, map, length, Bool, true, false, cond, ◌&&◌, ◌==◌}
use Rattle.std.specs.declared.option.Option.{Option}
use Rattle.std.specs.declared.option.Option.TheVariants.{Some}
use Rattle.std.specs.Option.{unwrap_or, option_map}
use Rattle.std.specs.List.{AllByRecursion, list_all}
use Rattle.std.specs.FinMap.{get}
use Rattle.std.specs.Cmp.Lexicographic.{bytes_decides}
use Rattle.std.proofs.lemmas.Bool.{true≢false, and_parts, and_left, and_from, eqb-true, eq-eqb}
use Rattle.std.proofs.Common.{refl, sym, ◌∙◌, ap, subst, inl, inr, arith}
use Rattle.machine_model.specs.OvSync.Keyed.{key_of}
use Rattle.node_laws.specs.NodeModel.Keys.{Key, Subscribe}
use Rattle.node_laws.specs.NodeModel.Step.{Phase, Idle, Opened, Confirmed, Up}
use Rattle.node_laws.specs.NodeModel.Values.{Value}
use Rattle.node_laws.specs.NodeModel.Maps.{Map, Change}
use Rattle.machine_model.specs.Setup.{Name, Setup, longest}
use Rattle.ov_types.specs.First.{same_name}
use Rattle.machine_model.specs.Session.{is_peering, Message, Open, Keepalive, Hello, Carries, Session, turned, is_up, is_up_phase, may_send, passed, arrived, octets_arrived, waiting}
use Rattle.machine_model.specs.Network.{MachineState, is_at, sessions_of, view, views_of, wanted}
use Rattle.machine_model.specs.Events.{MachineEvent, Edits, Deliver, DeliverOctets, Lose, Connect, Restart, Round, Settle, Show, Trace, Break, next, after}
use Rattle.machine_model.specs.Steps.{at_node, joins, with_session, change_session, pass, session_in, in_flight, repeat, deliver, Due as Waiting, dues, round, is_rested, is_settled, is_quiet, resumed, rounds_from, settle, without_breaks}
use Rattle.machine_model.specs.Rounds.{goes, is_delivery, taken_by, taken_of, IsRound, AreRounds, after_rounds}
use Rattle.machine_model.proofs.SessionFact.{append_nil, greetings, Joined, Fact-turned}
use Rattle.machine_model.proofs.NetworkFact.{IsSound, Each, NodePair, nodes, KeepsNodes, passed_nodes}
use Rattle.machine_model.proofs.NodesFact.{arrived_nodes, octets_nodes, session_nodes, step_nodes, map_nodes, round_nodes, connect_all_nodes}
use Rattle.machine_model.proofs.ToldFact.{Touches, arrived_touches, step_tells}
use Rattle.machine_model.specs.Moments.{AreWhole, TellsWanted}
use Rattle.machine_model.proofs.ToldNext.{AllHaveTold, octets_touches, round_told, unbroken_told, connect_all_told}
use Rattle.machine_laws.specs.Settling.{back, Rank, RanksFit, Right}
use Rattle.machine_model.proofs.Twins.{IsProper, NoTwins, swap_and, each_and, each_weaker, all_to_own, own_to_all, with_session_each, found_changed, found_node, same_name_sym, Found, found_each}
use Rattle.machine_laws.proofs.AtNode.{each_at_node}
use Rattle.machine_laws.proofs.EachFact.{Keeps, pass_keeps, on_session, resumed_keeps}
use Rattle.machine_model.proofs.Calm.{telling, passed_easy}
use Rattle.machine_model.proofs.RoundFact.{fact_joined, IsCalm, AreCalm, as_event, as_deliveries, as_round, round_same}
use Rattle.machine_laws.proofs.SettleFact.{resumed_calm, resumed_setup}
use Rattle.machine_model.proofs.AtRest.{no_messages}
use Rattle.machine_laws.proofs.Ranks.{Later, DueByRank, SentRight, later_le, ends_up, right_zero, right_next, Core, core_turned, core_more, core_passed, Known, known_turned, Taken, arrived_taken, octets_arrived_taken}
use Rattle.machine_laws.specs.Settling as bound

-- a node takes something on one session, and makes its pass
abbrev pub stepping : (Session → Session) → Name → Name → MachineState → MachineState
stepping f from to w = cond (in_flight w from to == 0) w (pass to (change_session to from f w))

-- how many messages and notices of a direction a step takes
abbrev pub taken : (MachineState → MachineState) → Bool → Name → Name → MachineState → ℕ
taken f goes from to w = cond goes (in_flight w from to - in_flight (f w) from to) 0

passed_waiting : (m : Map) (s : Session) → s.is_down ≡ false → s.near.breaks ≡ [] → waiting (passed m s) ≡ waiting s
passed_waiting m s e b = ap waiting (passed_easy m s e b) ∙ elim (may_send s) as (λ c. waiting (cond c (telling m s) s) ≡ waiting s) [ true ↦ refl | false ↦ refl ]

module _ (size : Name → Message → ℕ) (positive : (n : Name) (m : Message) → 0 < size n m) (rank : Rank) (goal : Name → Name → Key → Option Value) (x : Setup) (places : List NodePair) (Valid : Setup → Type 0) (P : Session → Type 0) (MayTell : Session → Map → Type 0) where
  -- by how much each direction is still due
  abbrev CoreP : NodePair → ℕ → (Name → Name → ℕ) → Session → Type 0
  CoreP p r left s = Core size positive rank goal p r (left p.1.0 p.0.0) (left p.0.0 p.1.0) s

  abbrev CoreAt : ℕ → (Name → Name → ℕ) → Session → Type 0
  CoreAt r left s = CoreP (nodes s) r left s

  abbrev KnownAt : ℕ → Session → Type 0
  KnownAt r s = Known size positive rank goal (nodes s) r s

  abbrev RightAt : ℕ → Session → Type 0
  RightAt r s = Right rank goal (nodes s) r s

  abbrev SentAt : ℕ → Session → Type 0
  SentAt r s = SentRight size positive rank goal (nodes s) r s

  abbrev WantAt : Setup → List Session → Name → ℕ → Session → Type 0
  WantAt x ss n r s = bound.WantAt rank goal x ss n r s

  -- where all that is held is right up to a rank, and is as P says, all that is wanted is right up to the next
  abbrev pub Steps : Type 0
  Steps = bound.Steps rank goal x places P

  module _ (step : Steps) (fits : AllByRecursion (λ p. RanksFit rank p × RanksFit rank (back p)) places) (apart : NoTwins places) (keeps : Keeps size Valid P MayTell) (valid : Valid x) where
    abbrev FitsAt : Session → Type 0
    FitsAt s = RanksFit rank (nodes s) × RanksFit rank (nodes (turned s))

    fits_each : (ss : List Session) (ps : List NodePair) → map nodes ss ≡ ps → AllByRecursion (λ p. RanksFit rank p × RanksFit rank (back p)) ps → Each FitsAt ss
    fits_each ss ps e f = go ss (subst (AllByRecursion (λ p. RanksFit rank p × RanksFit rank (back p))) (sym e) f)
      where
        go : (ss : List Session) → AllByRecursion (λ p. RanksFit rank p × RanksFit rank (back p)) (map nodes ss) → Each FitsAt ss
        go [] f = tt
        go (s ∷ ss) f = (f.0, go ss f.1)

    -- a state during a round up to rank r, with what its deliveries still take
    pub record Going (r : ℕ) (left : Name → Name → ℕ) (ss : List Session) : Type 0 where
      pub nodes_same : map nodes ss ≡ places
      pub told : AllHaveTold (record { setup = x; sessions = ss })
      pub cores : Each (CoreAt r left) ss
      pub fair : Each P ss

    whole_own : (r : ℕ) (left : Name → Name → ℕ) (ss : List Session) → Each (CoreAt r left) ss → (n : Name) → AreWhole (sessions_of n ss)
    whole_own r left ss c n = all_to_own (λ s. s.is_down ≡ false) n ss (each_weaker (CoreAt r left) (λ s. (s.is_down ≡ false) × (s.is_down ≡ false)) (λ s c. (c.joined.whole, c.joined.whole)) ss c)

    -- what was told is right up to the next rank
    sent_own : (r : ℕ) (ss : List Session) (vs : List _) (own : List Session) → TellsWanted x vs own → Each (λ s. (k : Key) → rank s.near.name s.far.name k ≤ r → get (wanted x vs (view s)) k ≡ goal s.near.name s.far.name k) own → Each (SentAt r) own
    sent_own r ss vs [] t w = tt
    sent_own r ss vs (s ∷ own) t w = ((λ k h may. ap (λ (m : Map). get m k) (t.0 may) ∙ w.0 k h), sent_own r ss vs own t.1 w.1)

    sent_each : (r q : ℕ) (left : Name → Name → ℕ) (ss : List Session) → Going r left ss → Each (λ s. RightAt q s × RightAt q (turned s)) ss → Each (λ s. SentAt (suc q) s × SentAt (suc q) (turned s)) ss
    sent_each r q left ss g right =
        own_to_all (SentAt (suc q)) ss (subst NoTwins (sym g.nodes_same) apart)
        (λ n. sent_own (suc q) ss (views_of n ss) (sessions_of n ss) (g.told n (whole_own r left ss g.cores n)) (step ss q g.nodes_same g.fair right n))

    right_each : (r q : ℕ) (left : Name → Name → ℕ) (ss : List Session) → q ≤ r → Going r left ss → Each (λ s. RightAt q s × RightAt q (turned s)) ss
    right_each r zero left ss h g = each_weaker FitsAt (λ s. RightAt 0 s × RightAt 0 (turned s)) (λ s f. (right_zero size positive rank goal s f.0, right_zero size positive rank goal (turned s) f.1)) ss (fits_each ss places g.nodes_same fits)
    right_each r (suc q) left ss h g =
        let sent = sent_each r q left ss g (right_each r q left ss (omega arith) g) in
        each_weaker (λ s. (CoreAt r left s × FitsAt s) × (SentAt (suc q) s × SentAt (suc q) (turned s))) (λ s. RightAt (suc q) s × RightAt (suc q) (turned s))
        (λ s c.
        let clean = later_le size positive rank goal r (suc q) s.far.name s.near.name s.far.flight h c.0.0.clean in
        let clean_back = later_le size positive rank goal r (suc q) s.near.name s.far.name s.near.flight h c.0.0.clean_back in
        let turned_core = core_turned size positive rank goal (nodes s) r (left s.far.name s.near.name) (left s.near.name s.far.name) s c.0.0 in (
          right_next size positive rank goal s q c.0.0.joined clean clean_back c.0.1.0 c.1.1,
          right_next size positive rank goal (turned s) q turned_core.joined clean_back clean c.0.1.1 c.1.0,
        ))
        ss (each_and (λ s. CoreAt r left s × FitsAt s) (λ s. SentAt (suc q) s × SentAt (suc q) (turned s)) ss (each_and (CoreAt r left) FitsAt ss g.cores (fits_each ss places g.nodes_same fits)) sent)

    known_each : (r : ℕ) (left : Name → Name → ℕ) (ss : List Session) → Going r left ss → Each (KnownAt r) ss
    known_each r left ss g =
        let right = right_each r r left ss (omega arith) g in
        each_weaker (λ s. (RightAt r s × RightAt r (turned s)) × (SentAt (suc r) s × SentAt (suc r) (turned s))) (KnownAt r) (λ s k. record { right = k.0.0; right_back = k.0.1; sent = k.1.0; sent_back = k.1.1 }) ss
        (each_and (λ s. RightAt r s × RightAt r (turned s)) (λ s. SentAt (suc r) s × SentAt (suc r) (turned s)) ss right (sent_each r r left ss g right))

    going_more : (r : ℕ) (left more : Name → Name → ℕ) (ss : List Session) → ((from to : Name) → left from to ≤ more from to) → Going r left ss → Going r more ss
    going_more r left more ss h g = record {
      nodes_same = g.nodes_same;
      told = g.told;
      fair = g.fair;
      cores = each_weaker (CoreAt r left) (CoreAt r more) (λ s c. core_more size positive rank goal (nodes s) r (left s.far.name s.near.name) (left s.near.name s.far.name) (more s.far.name s.near.name) (more s.near.name s.far.name) s (h s.far.name s.near.name) (h s.near.name s.far.name) c) ss g.cores;
    }

    abbrev pub GoingOn : ℕ → (Name → Name → ℕ) → MachineState → Type 0
    GoingOn r left w = (w.setup ≡ x) × Going r left w.sessions

    -- ---- one step that takes messages
    abbrev Before : ℕ → (Name → Name → ℕ) → Session → Type 0
    Before r left s = CoreAt r left s × KnownAt r s × FitsAt s

    before_turned : (r : ℕ) (left : Name → Name → ℕ) (s : Session) → Before r left s → Before r left (turned s)
    before_turned r left s b = (core_turned size positive rank goal (nodes s) r (left s.far.name s.near.name) (left s.near.name s.far.name) s b.0, known_turned size positive rank goal (nodes s) r s b.1, (b.2.1, b.2.0))

    after_turned : (r : ℕ) (left : Name → Name → ℕ) (s : Session) → CoreAt r left s × KnownAt r s → CoreAt r left (turned s) × KnownAt r (turned s)
    after_turned r left s c = (core_turned size positive rank goal (nodes s) r (left s.far.name s.near.name) (left s.near.name s.far.name) s c.0, known_turned size positive rank goal (nodes s) r s c.1)

    before_each : (r : ℕ) (left : Name → Name → ℕ) (ss : List Session) → Going r left ss → Each (Before r left) ss
    before_each r left ss g = each_weaker (λ s. (CoreAt r left s × KnownAt r s) × FitsAt s) (Before r left) (λ s b. (b.0.0, b.0.1, b.1)) ss
        (each_and (λ s. CoreAt r left s × KnownAt r s) FitsAt ss (each_and (CoreAt r left) (KnownAt r) ss g.cores (known_each r left ss g)) (fits_each ss places g.nodes_same fits))

    -- the node makes its pass
    passed_each : (r : ℕ) (n : Name) (left : Name → Name → ℕ) (ss : List Session) → map nodes ss ≡ places → Each P ss → Each (λ s. CoreAt r left s × KnownAt r s) ss
        → Each (CoreAt r left) (map (at_node n (λ s. passed (wanted x (views_of n ss) (view s)) s)) ss)
    passed_each r n left ss e fair c =
        let W = λ (s : Session). wanted x (views_of n ss) (view s) in
        let want = step ss r e fair (each_weaker (λ s. CoreAt r left s × KnownAt r s) (λ s. RightAt r s × RightAt r (turned s)) (λ s c. (c.1.right, c.1.right_back)) ss c) n in
        let near : (s : Session) → CoreAt r left s × KnownAt r s → WantAt x ss n (suc r) s → CoreAt r left (passed (W s) s) = λ s c w.
        subst (λ p. CoreP p r left (passed (W s) s)) (sym (passed_nodes (W s) s)) (core_passed size positive rank goal (nodes s) r (left s.far.name s.near.name) (left s.near.name s.far.name) (W s) s c.0 c.1.sent w) in
        each_at_node (λ s. CoreAt r left s × KnownAt r s) (WantAt x ss n (suc r)) (CoreAt r left) n (λ s. passed (W s) s) near
        (λ s c w. let t = passed (W (turned s)) (turned s) in core_turned size positive rank goal (nodes t) r (left t.far.name t.near.name) (left t.near.name t.far.name) t (near (turned s) (after_turned r left s c) w))
        (λ s c. c.0) ss c want

    -- what a node does with what arrives on a session: it takes some messages, without a pass
    pub record Takes (f : Session → Session) : Type 0 where
      pub kept : KeepsNodes f
      pub takes : (p : NodePair) (r : ℕ) (s : Session) → nodes s ≡ p → RanksFit rank (back p) → Joined size s → s.near.breaks ≡ [] → Taken size positive rank goal p r s (f s)
      pub touches : (s : Session) → Touches s (f s)
      pub fair : (s : Session) → P s → P (f s)

    module _ (f : Session → Session) (takes : Takes f) (r : ℕ) (left : Name → Name → ℕ) (from to : Name) (ss : List Session) where
      abbrev old : MachineState
      old = record { setup = x; sessions = ss }

      abbrev new : MachineState
      new = pass to (change_session to from f old)

      -- with what this step takes
      abbrev more : Name → Name → ℕ
      more g t = cond (same_name from g && same_name to t) (in_flight old g t - in_flight new g t) 0 + left g t

      new_flight : (s : Session) → session_in ss to from ≡ Some s → (f s).is_down ≡ false → (f s).near.breaks ≡ [] → (f s).near.notice ≡ false → in_flight new from to ≡ length (f s).far.flight
      new_flight s is whole unbroken silent =
          let vs = with_session to from f ss in
          let W = λ (s : Session). wanted x (views_of to vs) (view s) in
          ap (λ (o : Option Session). unwrap_or (option_map waiting o) 0)
          (found_node to from (λ s. passed (W s) s) (λ s. passed_nodes (W s) s) vs ∙ ap (option_map (λ s. passed (W s) s)) (found_changed to from f takes.kept ss ∙ ap (option_map f) is))
          ∙ passed_waiting (W (f s)) (f s) whole unbroken
          ∙ ap (λ b. cond b 1 (length (f s).far.flight)) silent

      taken_hit : (s : Session) → joins to from s ≡ true → IsProper (nodes s) → Before r more s × Found ss s → CoreAt r left (f s) × KnownAt r (f s)
      taken_hit s is proper b =
          let i = left s.far.name s.near.name in
          let o = left s.near.name s.far.name in
          let names = and_parts (is_at to s.near) (is_at from s.far) is in
          let near_name : s.near.name ≡ to = (bytes_decides s.near.name to).0 names.0 in
          let far_name : s.far.name ≡ from = (bytes_decides s.far.name from).0 names.1 in
          let c = b.0.0 in
          let t = takes.takes (nodes s) r s refl b.0.2.1 c.joined c.near_breaks in
          let big = t.core (more s.far.name s.near.name) (more s.near.name s.far.name)
          (core_more size positive rank goal (nodes s) r (more s.far.name s.near.name) (more s.near.name s.far.name) (t.count + more s.far.name s.near.name) (more s.near.name s.far.name) s (above t.count (more s.far.name s.near.name)) (same (more s.near.name s.far.name)) c) b.0.1 in
          let there : session_in ss to from ≡ Some s = (λ i. session_in ss (sym near_name i) (sym far_name i)) ∙ b.1.0 in
          let before : in_flight old s.far.name s.near.name ≡ length s.far.flight =
          ap (λ (o : Option Session). unwrap_or (option_map waiting o) 0) b.1.0 ∙ ap (λ b. cond b 1 (length s.far.flight)) c.joined.near_notice in
          let afterwards : in_flight new s.far.name s.near.name ≡ length (f s).far.flight =
          (λ i. in_flight new (far_name i) (near_name i)) ∙ new_flight s there big.0.joined.whole big.0.near_breaks big.0.joined.near_notice in
          let not_back : (same_name from s.near.name && same_name to s.far.name) ≡ false =
          swap_and (same_name to s.far.name) (same_name from s.near.name) false (and_left (same_name to s.far.name) (same_name from s.near.name) (ap (λ n. same_name n s.far.name) (sym near_name) ∙ proper.0)) in
          let fits_in = inward (same_name from s.far.name && same_name to s.near.name) (in_flight old s.far.name s.near.name) (in_flight new s.far.name s.near.name) (length s.far.flight) (length (f s).far.flight) t.count i before afterwards t.fewer in
          let fits_out = outward (in_flight old s.near.name s.far.name - in_flight new s.near.name s.far.name) (same_name from s.near.name && same_name to s.far.name) o not_back in
          let moved = t.core i o (core_more size positive rank goal (nodes s) r (more s.far.name s.near.name) (more s.near.name s.far.name) (t.count + i) o s fits_in fits_out c) b.0.1 in
          subst (λ p. CoreP p r left (f s) × Known size positive rank goal p r (f s)) (sym (takes.kept s)) moved
        where
          above : (a n : ℕ) → n ≤ a + n
          above a n = omega arith

          same : (n : ℕ) → n ≤ n
          same n = omega arith

          inward : (b : Bool) (u v m n k i : ℕ) → u ≡ m → v ≡ n → k + n ≡ m → cond b (u - v) 0 + i ≤ k + i
          inward true u v m n k i p q h = omega (arith, p, q, h)
          inward false u v m n k i p q h = omega arith

          outward : (k : ℕ) (b : Bool) (o : ℕ) → b ≡ false → cond b k 0 + o ≤ o
          outward k true o e = absurd (true≢false e)
          outward k false o e = omega arith

      taken_hit_back : (s : Session) → joins from to s ≡ true → IsProper (nodes s) → Before r more s × Found ss s → CoreAt r left (turned (f (turned s))) × KnownAt r (turned (f (turned s)))
      taken_hit_back s is proper b =
          after_turned r left (f (turned s)) (taken_hit (turned s) (swap_and (same_name s.near.name from) (same_name s.far.name to) true is) (proper.1, proper.0) (before_turned r more s b.0, (b.1.1, b.1.0)))

      taken_missed : (s : Session) → joins to from s ≡ false → joins from to s ≡ false → Before r more s × Found ss s → CoreAt r left s × KnownAt r s
      taken_missed s off off_back b = (
        core_more size positive rank goal (nodes s) r (more s.far.name s.near.name) (more s.near.name s.far.name) (left s.far.name s.near.name) (left s.near.name s.far.name) s
            (nothing (in_flight old s.far.name s.near.name - in_flight new s.far.name s.near.name) (same_name from s.far.name && same_name to s.near.name) (left s.far.name s.near.name)
            ((λ i. same_name_sym from s.far.name i && same_name_sym to s.near.name i) ∙ swap_and (same_name s.near.name to) (same_name s.far.name from) false off))
            (nothing (in_flight old s.near.name s.far.name - in_flight new s.near.name s.far.name) (same_name from s.near.name && same_name to s.far.name) (left s.near.name s.far.name)
            ((λ i. same_name_sym from s.near.name i && same_name_sym to s.far.name i) ∙ off_back))
            b.0.0,
        b.0.1,
      )
        where
          nothing : (k : ℕ) (b : Bool) (o : ℕ) → b ≡ false → cond b k 0 + o ≤ o
          nothing k true o e = absurd (true≢false e)
          nothing k false o e = omega arith

      busy : Going r more ss → GoingOn r left new
      busy g = (
        refl,
        record {
          nodes_same = step_nodes to to from f takes.kept old ∙ g.nodes_same;
          told = λ m. step_tells to from m f takes.touches old (g.told m);
          fair = (pass_keeps size Valid P MayTell keeps to (change_session to from f old) (valid, on_session size Valid P MayTell keeps to from f takes.fair ss g.fair)).1;
          cores = passed_each r to left (with_session to from f ss) (session_nodes to from f takes.kept ss ∙ g.nodes_same) (on_session size Valid P MayTell keeps to from f takes.fair ss g.fair)
              (with_session_each (λ s. Before r more s × Found ss s) (λ s. CoreAt r left s × KnownAt r s) to from taken_missed f taken_hit taken_hit_back ss (subst NoTwins (sym g.nodes_same) apart)
              (each_and (Before r more) (Found ss) ss (before_each r more ss g) (found_each ss (subst NoTwins (sym g.nodes_same) apart))));
        },
      )

      stepped : Going r (λ g t. taken (stepping f from to) (same_name from g && same_name to t) g t old + left g t) ss → GoingOn r left (stepping f from to old)
      stepped g =
          elim (in_flight old from to == 0) as (λ b. Going r (λ g t. cond (same_name from g && same_name to t) (in_flight old g t - in_flight (cond b old new) g t) 0 + left g t) ss → GoingOn r left (cond b old new)) [
            | true ↦ λ g. (refl, going_more r (λ g t. cond (same_name from g && same_name to t) (in_flight old g t - in_flight old g t) 0 + left g t) left ss (λ g t. none (same_name from g && same_name to t) (in_flight old g t) (left g t)) g)
            | false ↦ busy
          ] g
        where
          none : (b : Bool) (n o : ℕ) → cond b (n - n) 0 + o ≤ o
          none true n o = omega arith
          none false n o = omega arith

    -- in any state of this configuration
    goes_on : (f : Session → Session) → Takes f → (r : ℕ) (left : Name → Name → ℕ) (from to : Name) (w : MachineState) → GoingOn r (λ g t. taken (stepping f from to) (same_name from g && same_name to t) g t w + left g t) w → GoingOn r left (stepping f from to w)
    goes_on f takes r left from to w g =
        subst (λ (w : MachineState). GoingOn r (λ g t. taken (stepping f from to) (same_name from g && same_name to t) g t w + left g t) w → GoingOn r left (stepping f from to w)) (λ i. record { setup = sym g.0 i; sessions = w.sessions })
        (λ h. stepped f takes r left from to w.sessions h.1) g

    arrival_takes : Takes arrived
    arrival_takes = record { kept = arrived_nodes; takes = arrived_taken size positive rank goal; touches = arrived_touches; fair = keeps.arrives }

    octets_take : (n : ℕ) → Takes (octets_arrived size n)
    octets_take n = record { kept = octets_nodes size n; takes = octets_arrived_taken size positive rank goal n; touches = octets_touches size n; fair = keeps.octets n }

    on_more : (r : ℕ) (left more : Name → Name → ℕ) (w : MachineState) → ((from to : Name) → left from to ≤ more from to) → GoingOn r left w → GoingOn r more w
    on_more r left more w h g = (g.0, going_more r left more w.sessions h g.1)

    delivers_on : (n r : ℕ) (left : Name → Name → ℕ) (from to : Name) (w : MachineState) → GoingOn r (λ g t. taken (repeat n (deliver from to)) (same_name from g && same_name to t) g t w + left g t) w → GoingOn r left (repeat n (deliver from to) w)
    delivers_on zero r left from to w g = on_more r (λ g t. taken (repeat 0 (deliver from to)) (same_name from g && same_name to t) g t w + left g t) left w (λ g t. none (same_name from g && same_name to t) (in_flight w g t) (left g t)) g
      where
        none : (b : Bool) (n o : ℕ) → cond b (n - n) 0 + o ≤ o
        none true n o = omega arith
        none false n o = omega arith
    delivers_on (suc n) r left from to w g =
        let v = deliver from to w in
        delivers_on n r left from to v
        (goes_on arrived arrival_takes r (λ g t. taken (repeat n (deliver from to)) (same_name from g && same_name to t) g t v + left g t) from to w
        (on_more r (λ g t. taken (repeat (suc n) (deliver from to)) (same_name from g && same_name to t) g t w + left g t)
        (λ g t. taken (deliver from to) (same_name from g && same_name to t) g t w + (taken (repeat n (deliver from to)) (same_name from g && same_name to t) g t v + left g t)) w
        (λ g t. by_steps (same_name from g && same_name to t) (in_flight w g t) (in_flight v g t) (in_flight (repeat n (deliver from to) v) g t) (left g t)) g))
      where
        by_steps : (b : Bool) (i j k o : ℕ) → cond b (i - k) 0 + o ≤ cond b (i - j) 0 + (cond b (j - k) 0 + o)
        by_steps true i j k o = omega arith
        by_steps false i j k o = omega arith

    -- ---- rounds
    reordered : (a b c : ℕ) → (a + b) + c ≤ a + (b + c)
    reordered a b c = omega arith

    dues_go_on : (r : ℕ) (left : Name → Name → ℕ) (ds : List Waiting) (w : MachineState) → GoingOn r (λ g t. taken_of size g t w (map (as_event size positive) ds) + left g t) w → GoingOn r left (after size w (map (as_event size positive) ds))
    unfolding next
    dues_go_on r left [] w g = on_more r (λ g t. 0 + left g t) left w (λ g t. nothing (left g t)) g
      where
        nothing : (n : ℕ) → 0 + n ≤ n
        nothing n = omega arith
    dues_go_on r left (d ∷ ds) w g =
        let v = repeat d.count (deliver d.from d.to) w in
        dues_go_on r left ds v (delivers_on d.count r (λ g t. taken_of size g t v (map (as_event size positive) ds) + left g t) d.from d.to w
        (on_more r (λ g t. taken_of size g t w (as_event size positive d ∷ map (as_event size positive) ds) + left g t) (λ g t. taken (repeat d.count (deliver d.from d.to)) (same_name d.from g && same_name d.to t) g t w + (taken_of size g t v (map (as_event size positive) ds) + left g t)) w
        (λ g t. reordered (taken (repeat d.count (deliver d.from d.to)) (same_name d.from g && same_name d.to t) g t w) (taken_of size g t v (map (as_event size positive) ds)) (left g t)) g))

    calm_on : (r : ℕ) (left : Name → Name → ℕ) (w : MachineState) → GoingOn r left w → AreCalm size positive w
    calm_on r left w g = each_weaker (CoreAt r left) (IsCalm size positive) (λ s c. (c.joined, c.near_breaks, c.far_breaks)) w.sessions g.1.cores

    event_goes_on : (r : ℕ) (left : Name → Name → ℕ) (e : MachineEvent) (w : MachineState) → is_delivery e ≡ true → GoingOn r (λ g t. taken_by size g t w e + left g t) w → GoingOn r left (next size w e)
    unfolding next
    event_goes_on r left (Deliver from to n) w d g = delivers_on n r left from to w g
    event_goes_on r left (DeliverOctets from to n) w d g = goes_on (octets_arrived size n) (octets_take n) r left from to w g
    event_goes_on r left Round w d g =
        let calm = calm_on r (λ g t. in_flight w g t + left g t) w g in
        subst (GoingOn r left) (sym (round_same size positive w calm))
        (dues_go_on r left (dues w) w (on_more r (λ g t. in_flight w g t + left g t) (λ g t. taken_of size g t w (as_deliveries size positive w) + left g t) w
        (λ g t. all_taken (in_flight w g t) (taken_of size g t w (as_deliveries size positive w)) (left g t) ((as_round size positive w calm).takes_all g t)) g))
      where
        all_taken : (a b c : ℕ) → a ≤ b → a + c ≤ b + c
        all_taken a b c h = omega (arith, h)
    event_goes_on r left (Edits e) w d g = absurd (true≢false (sym d))
    event_goes_on r left (Lose a b) w d g = absurd (true≢false (sym d))
    event_goes_on r left (Connect a b) w d g = absurd (true≢false (sym d))
    event_goes_on r left (Restart n) w d g = absurd (true≢false (sym d))
    event_goes_on r left Settle w d g = absurd (true≢false (sym d))
    event_goes_on r left (Show n) w d g = absurd (true≢false (sym d))
    event_goes_on r left (Trace p) w d g = absurd (true≢false (sym d))
    event_goes_on r left (Break a b n) w d g = absurd (true≢false (sym d))

    abbrev pub nothing_left : Name → Name → ℕ
    nothing_left from to = 0

    round_ends : (r : ℕ) (es : List MachineEvent) (w : MachineState) → list_all is_delivery es ≡ true → GoingOn r (λ from to. taken_of size from to w es) w → GoingOn r nothing_left (after size w es)
    round_ends r [] w d g = g
    round_ends r (e ∷ es) w d g =
        let p = and_parts (is_delivery e) (list_all is_delivery es) d in
        round_ends r es (next size w e) p.1 (event_goes_on r (λ from to. taken_of size from to (next size w e) es) e w p.0 g)

    -- what is still due at the end of a round is nothing
    over : (r : ℕ) (from to : Name) (f : List Message) → DueByRank rank r from to 0 f → Later rank (suc r) from to f
    over r from to f d = none d.old d.new (d.split) d.few d.later
      where
        none : (old new : List Message) → f ≡ old ++ new → length old ≤ 0 → Later rank (suc r) from to new → Later rank (suc r) from to f
        none [] new e few later = subst (Later rank (suc r) from to) (sym e) later
        none (m ∷ old) new e few later = absurd (omega (arith, few))

    next_due : (r : ℕ) (from to : Name) (n : ℕ) (f : List Message) → length f ≤ n → DueByRank rank r from to n f
    next_due r from to n f h = record { old = f; new = []; split = append_nil f; few = h; later = tt }

    -- what is in flight is less than what the round takes
    Enough : (Name → Name → ℕ) → Session → Type 0
    Enough more s = (length s.far.flight ≤ more s.far.name s.near.name) × (length s.near.flight ≤ more s.near.name s.far.name)

    enough_each : (w : MachineState) (more : Name → Name → ℕ) → NoTwins (map nodes w.sessions) → ((from to : Name) → in_flight w from to ≤ more from to) → Each (Joined size) w.sessions → Each (Enough more) w.sessions
    unfolding Enough
    enough_each w more t h j = each_weaker (λ s. Joined size s × Found w.sessions s) (Enough more) (λ s c. (
      fewer (in_flight w s.far.name s.near.name) (length s.far.flight) (more s.far.name s.near.name)
          (ap (λ (o : Option Session). unwrap_or (option_map waiting o) 0) c.1.0 ∙ ap (λ b. cond b 1 (length s.far.flight)) c.0.near_notice) (h s.far.name s.near.name),
      fewer (in_flight w s.near.name s.far.name) (length s.near.flight) (more s.near.name s.far.name)
          (ap (λ (o : Option Session). unwrap_or (option_map waiting o) 0) c.1.1 ∙ ap (λ b. cond b 1 (length s.near.flight)) c.0.far_notice) (h s.near.name s.far.name),
    )) w.sessions (each_and (Joined size) (Found w.sessions) w.sessions j (found_each w.sessions t))
      where
        fewer : (u m n : ℕ) → u ≡ m → u ≤ n → m ≤ n
        fewer u m n e h = omega (arith, e, h)

    round_begins : (r : ℕ) (es : List MachineEvent) (w : MachineState) → GoingOn r nothing_left w → IsRound size w es → GoingOn (suc r) (λ from to. taken_of size from to w es) w
    unfolding Enough
    round_begins r es w g t =
        let ss = w.sessions in
        let more = λ (from to : Name). taken_of size from to w es in (
          g.0,
          record {
            nodes_same = g.1.nodes_same;
            told = g.1.told;
            fair = g.1.fair;
            cores = each_weaker (λ s. CoreAt r nothing_left s × Enough more s) (CoreAt (suc r) more)
                (λ s c. record {
                  joined = c.0.joined;
                  near_breaks = c.0.near_breaks;
                  far_breaks = c.0.far_breaks;
                  clean = over r s.far.name s.near.name s.far.flight c.0.due;
                  clean_back = over r s.near.name s.far.name s.near.flight c.0.due_back;
                  due = next_due (suc r) s.far.name s.near.name (more s.far.name s.near.name) s.far.flight c.1.0;
                  due_back = next_due (suc r) s.near.name s.far.name (more s.near.name s.far.name) s.near.flight c.1.1;
                })
                ss (each_and (CoreAt r nothing_left) (Enough more) ss g.1.cores (enough_each w more (subst NoTwins (sym g.1.nodes_same) apart) t.takes_all (each_weaker (CoreAt r nothing_left) (Joined size) (λ s c. c.joined) ss g.1.cores)));
          },
        )

    rounds_end : (r : ℕ) (rounds : List (List MachineEvent)) (w : MachineState) → GoingOn r nothing_left w → AreRounds size w rounds → GoingOn (r + length rounds) nothing_left (after_rounds size w rounds)
    rounds_end r [] w g a = subst (λ n. GoingOn n nothing_left w) (plus_none r) g
      where
        plus_none : (r : ℕ) → r ≡ r + 0
        plus_none r = omega arith
    rounds_end r (es ∷ rounds) w g a =
        subst (λ n. GoingOn n nothing_left (after_rounds size (after size w es) rounds)) (plus_one r (length rounds))
        (rounds_end (suc r) rounds (after size w es) (round_ends (suc r) es w a.0.deliveries (round_begins r es w g a.0)) a.1)
      where
        plus_one : (r n : ℕ) → suc r + n ≡ r + suc n
        plus_one r n = omega arith

    -- ---- the last rank
    -- where both ends wait for nothing they are up
    quiet_rested : (s : Session) → Joined size s → s.far.flight ≡ [] → s.near.flight ≡ [] → is_rested s ≡ true
    quiet_rested s j near far =
        let up = ends_up size positive rank goal s 2 (omega arith) j (subst (Later rank 2 s.far.name s.near.name) (sym near) tt) (subst (Later rank 2 s.near.name s.far.name) (sym far) tt) in
        and_from (is_up s.near && is_up s.far && (waiting s == 0)) (waiting (turned s) == 0)
        (and_from (is_up s.near && is_up s.far) (waiting s == 0) (and_from (is_up s.near) (is_up s.far) (ap is_up_phase up.0) (ap is_up_phase up.1))
        (eq-eqb (waiting s) 0 (ap (λ b. cond b 1 (length s.far.flight)) j.near_notice ∙ ap length near)))
        (eq-eqb (waiting (turned s)) 0 (ap (λ b. cond b 1 (length s.near.flight)) j.far_notice ∙ ap length far))

    abbrev NoKeepalive : List Message → Type 0
    NoKeepalive [] = Unit {0}
    NoKeepalive (Keepalive ∷ f) = ⊥
    NoKeepalive (m ∷ f) = NoKeepalive f

    no_changes_keep : (cs : List Change) → NoKeepalive (map Carries cs)
    no_changes_keep [] = tt
    no_changes_keep (c ∷ cs) = no_changes_keep cs

    -- a KEEPALIVE is sent between control nodes alone
    no_keepalive : (p q : Phase) (cs : List Change) → NoKeepalive (greetings false p q ++ map Carries cs)
    no_keepalive Opened Opened cs = no_changes_keep cs
    no_keepalive Opened Up cs = no_changes_keep cs
    no_keepalive Opened Idle cs = no_changes_keep cs
    no_keepalive Opened Confirmed cs = no_changes_keep cs
    no_keepalive Up Opened cs = no_changes_keep cs
    no_keepalive Up Up cs = no_changes_keep cs
    no_keepalive Up Idle cs = no_changes_keep cs
    no_keepalive Up Confirmed cs = no_changes_keep cs
    no_keepalive Idle q cs = no_changes_keep cs
    no_keepalive Confirmed q cs = no_changes_keep cs

    none_later : (n : ℕ) (from to : Name) (f : List Message) → 1 ≤ n → (2 ≤ n) ⊎ NoKeepalive f → ((k : Key) → rank from to k ≤ n) → Later rank n from to f → f ≡ []
    none_later n from to [] h g b l = refl
    none_later n from to (Open ∷ f) h g b l = absurd (omega (arith, h, l.0))
    none_later n from to (Hello ∷ f) h g b l = absurd (omega (arith, h, l.0))
    none_later n from to (Keepalive ∷ f) h (inl two) b l = absurd (omega (arith, two, l.0))
    none_later n from to (Keepalive ∷ f) h (inr g) b l = absurd g
    none_later n from to (Carries d ∷ f) h g b l = absurd (beyond (rank from to (key_of d)) n (b (key_of d)) l.0)
      where
        beyond : (a n : ℕ) → a ≤ n → n < a → ⊥
        beyond a n p q = omega arith

    some_key : Key
    some_key = Subscribe (record { 0 = 0 })

    -- what is in flight towards the near end
    none_flies : (n : ℕ) (s : Session) → RanksFit rank (nodes s) → ((from to : Name) (k : Key) → rank from to k ≤ n) → Joined size s → Later rank n s.far.name s.near.name s.far.flight → s.far.flight ≡ []
    none_flies n s fit b j c =
        none_later n s.far.name s.near.name s.far.flight (one (rank s.far.name s.near.name some_key) (fit.0 some_key) (b s.far.name s.near.name some_key))
        (elim (is_peering s) as (λ p. is_peering s ≡ p → (2 ≤ n) ⊎ NoKeepalive s.far.flight) [
          | true ↦ λ is. inl (two (rank s.far.name s.near.name some_key) (fit.1 is some_key) (b s.far.name s.near.name some_key))
          | false ↦ λ is. inr (subst NoKeepalive (sym j.inward.flight) (subst (λ p. NoKeepalive (greetings p s.near.phase s.far.phase ++ map Carries j.inward.changes)) (sym is) (no_keepalive s.near.phase s.far.phase j.inward.changes)))
        ] refl)
        (b s.far.name s.near.name) c
      where
        one : (m : ℕ) → 1 ≤ m → m ≤ n → 1 ≤ n
        one m h k = omega (arith, h, k)

        two : (m : ℕ) → 3 ≤ m → m ≤ n → 2 ≤ n
        two m h k = omega (arith, h, k)

    rested : (n : ℕ) (s : Session) → FitsAt s → ((from to : Name) (k : Key) → rank from to k ≤ n) → Joined size s → Later rank n s.far.name s.near.name s.far.flight → Later rank n s.near.name s.far.name s.near.flight → is_rested s ≡ true
    rested n s fit b j c d = quiet_rested s j (none_flies n s fit.0 b j c) (none_flies n (turned s) fit.1 b (fact_joined size positive (turned s) (Fact-turned size s (inl j)) j.whole) d)

    all_rested : (r : ℕ) (ss : List Session) → Each FitsAt ss → ((from to : Name) (k : Key) → rank from to k ≤ suc r) → Each (CoreAt r nothing_left) ss → list_all is_rested ss ≡ true
    all_rested r [] f b c = refl
    all_rested r (s ∷ ss) f b c =
        and_from (is_rested s) (list_all is_rested ss)
        (rested (suc r) s f.0 b c.0.joined (over r s.far.name s.near.name s.far.flight c.0.due) (over r s.near.name s.far.name s.near.flight c.0.due_back))
        (all_rested r ss f.1 b c.1)

    -- where no rank is above 0 there is no session
    no_session : (ss : List Session) → Each FitsAt ss → ((from to : Name) (k : Key) → rank from to k ≤ 0) → list_all is_rested ss ≡ true
    no_session [] f b = refl
    no_session (s ∷ ss) f b = absurd (none (rank s.far.name s.near.name some_key) (f.0.0.0 some_key) (b s.far.name s.near.name some_key))
      where
        none : (m : ℕ) → 1 ≤ m → m ≤ 0 → ⊥
        none m h k = omega (arith, h, k)

    pub settled_at_once : (w : MachineState) → map nodes w.sessions ≡ places → ((from to : Name) (k : Key) → rank from to k ≤ 0) → is_settled w ≡ true
    settled_at_once w e b = no_session w.sessions (fits_each w.sessions places e fits) b

    -- a state before its first round: nothing is known of it but the fact of every moment
    later_zero : (from to : Name) (f : List Message) → ((k : Key) → 1 ≤ rank from to k) → Later rank 0 from to f
    later_zero from to [] h = tt
    later_zero from to (Open ∷ f) h = (omega arith, later_zero from to f h)
    later_zero from to (Hello ∷ f) h = (omega arith, later_zero from to f h)
    later_zero from to (Keepalive ∷ f) h = (omega arith, later_zero from to f h)
    later_zero from to (Carries d ∷ f) h = (h (key_of d), later_zero from to f h)

    first_round : (es : List MachineEvent) (w : MachineState) → w.setup ≡ x → map nodes w.sessions ≡ places → Each P w.sessions → AllHaveTold w → AreCalm size positive w → IsRound size w es → GoingOn 0 (λ from to. taken_of size from to w es) w
    unfolding Enough
    first_round es w same e fair told o t =
        let ss = w.sessions in
        let more = λ (from to : Name). taken_of size from to w es in (
          same,
          record {
            nodes_same = e;
            told = subst AllHaveTold (λ i. record { setup = same i; sessions = w.sessions }) told;
            fair = fair;
            cores = each_weaker (λ s. (IsCalm size positive s × FitsAt s) × Enough more s) (CoreAt 0 more)
                (λ s c. record {
                  joined = c.0.0.0;
                  near_breaks = c.0.0.1;
                  far_breaks = c.0.0.2;
                  clean = later_zero s.far.name s.near.name s.far.flight c.0.1.0.0;
                  clean_back = later_zero s.near.name s.far.name s.near.flight c.0.1.1.0;
                  due = next_due 0 s.far.name s.near.name (more s.far.name s.near.name) s.far.flight c.1.0;
                  due_back = next_due 0 s.near.name s.far.name (more s.near.name s.far.name) s.near.flight c.1.1;
                })
                ss (each_and (λ s. IsCalm size positive s × FitsAt s) (Enough more) ss (each_and (IsCalm size positive) FitsAt ss o (fits_each ss places e fits))
                (enough_each w more (subst NoTwins (sym e) apart) t.takes_all (each_weaker (IsCalm size positive) (Joined size) (λ s c. c.0) ss o)));
          },
        )

    -- the bound: as many rounds as the greatest rank settle the network
    pub settles : (es : List MachineEvent) (rounds : List (List MachineEvent)) (w : MachineState) → w.setup ≡ x → map nodes w.sessions ≡ places → Each P w.sessions → AllHaveTold w → AreCalm size positive w
        → AreRounds size w (es ∷ rounds) → ((from to : Name) (k : Key) → rank from to k ≤ suc (length rounds)) → is_settled (after_rounds size w (es ∷ rounds)) ≡ true
    settles es rounds w same e fair told o a b =
        let g = rounds_end 0 rounds (after size w es) (round_ends 0 es w a.0.deliveries (first_round es w same e fair told o a.0)) a.1 in
        all_rested (0 + length rounds) (after_rounds size (after size w es) rounds).sessions (fits_each (after_rounds size (after size w es) rounds).sessions places g.1.nodes_same fits) (λ from to k. subst (λ n. rank from to k ≤ suc n) (none_more (length rounds)) (b from to k)) g.1.cores
      where
        none_more : (n : ℕ) → n ≡ 0 + n
        none_more n = omega arith

    -- ---- the event `settle`
    -- where nothing is in flight and no session is down, all is settled
    settled_quiet : (ss : List Session) → list_all is_rested ss ≡ true → list_all (λ s. (waiting s == 0) && (waiting (turned s) == 0)) ss ≡ true
    settled_quiet [] e = refl
    settled_quiet (s ∷ ss) e =
        let p = and_parts (is_rested s) (list_all is_rested ss) e in
        let q = and_parts (is_up s.near && is_up s.far && (waiting s == 0)) (waiting (turned s) == 0) p.0 in
        and_from ((waiting s == 0) && (waiting (turned s) == 0)) (list_all (λ s. (waiting s == 0) && (waiting (turned s) == 0)) ss)
        (and_from (waiting s == 0) (waiting (turned s) == 0) (and_parts (is_up s.near && is_up s.far) (waiting s == 0) q.0).1 q.1) (settled_quiet ss p.1)

    -- settled, after at most m rounds more than were done
    abbrev SettledBy : ℕ → ℕ → ℕ × MachineState → Type 0
    SettledBy m done r = (is_settled r.1 ≡ true) × (r.0 ≤ m + done)

    some : (m done : ℕ) → done ≤ suc m + done
    some m done = omega arith

    later : (m done : ℕ) (r : ℕ × MachineState) → SettledBy m (done + 1) r → SettledBy (suc m) done r
    later m done r s = (s.0, one s.1)
      where
        one : r.0 ≤ m + (done + 1) → r.0 ≤ suc m + done
        one h = omega (arith, h)

    -- a settled state is left as it is
    stops : (n done : ℕ) (w : MachineState) → is_settled w ≡ true → SettledBy 0 done (rounds_from n done w)
    stops zero done w e = (e, omega arith)
    stops (suc n) done w e = subst (λ q. SettledBy 0 done (cond q (done, w) (rounds_from n (done + 1) (round w)))) (sym (settled_quiet w.sessions e)) (e, omega arith)

    none_waits : (f : List Message) (notice : Bool) → notice ≡ false → cond notice 1 (length f) ≡ 0 → f ≡ []
    none_waits f notice e w = no_messages f (sym (ap (λ b. cond b 1 (length f)) e) ∙ w)

    quiet_settled : (ss : List Session) → Each (IsCalm size positive) ss → list_all (λ s. (waiting s == 0) && (waiting (turned s) == 0)) ss ≡ true → list_all is_rested ss ≡ true
    quiet_settled [] c e = refl
    quiet_settled (s ∷ ss) c e =
        let p = and_parts ((waiting s == 0) && (waiting (turned s) == 0)) (list_all (λ s. (waiting s == 0) && (waiting (turned s) == 0)) ss) e in
        let q = and_parts (waiting s == 0) (waiting (turned s) == 0) p.0 in
        and_from (is_rested s) (list_all is_rested ss) (quiet_rested s c.0.0 (none_waits s.far.flight s.near.notice c.0.0.near_notice (eqb-true (waiting s) 0 q.0)) (none_waits s.near.flight s.far.notice c.0.0.far_notice (eqb-true (waiting (turned s)) 0 q.1))) (quiet_settled ss c.1 p.1)

    -- a round from a state of which something is known
    round_goes_on : (r : ℕ) (w : MachineState) → GoingOn r nothing_left w → GoingOn (suc r) nothing_left (round w)
    round_goes_on r w g =
        let c = calm_on r nothing_left w g in
        let a = as_round size positive w c in
        subst (GoingOn (suc r) nothing_left) (sym (round_same size positive w c)) (round_ends (suc r) (as_deliveries size positive w) w a.deliveries (round_begins r (as_deliveries size positive w) w g a))

    -- at most m more rounds settle it
    rounds_settle : (n m done r : ℕ) (w : MachineState) → GoingOn r nothing_left w → m ≤ n → ((from to : Name) (k : Key) → rank from to k ≤ suc (r + m)) → SettledBy m done (rounds_from n done w)
    rounds_settle n zero done r w g l b =
        stops n done w (all_rested r w.sessions (fits_each w.sessions places g.1.nodes_same fits) (λ from to k. none (rank from to k) (b from to k)) g.1.cores)
      where
        none : (m : ℕ) → m ≤ suc (r + 0) → m ≤ suc r
        none m h = omega (arith, h)
    rounds_settle zero (suc m) done r w g l b = absurd (omega (arith, l))
    rounds_settle (suc n) (suc m) done r w g l b =
        elim (is_quiet w) as (λ q. is_quiet w ≡ q → SettledBy (suc m) done (cond q (done, w) (rounds_from n (done + 1) (round w)))) [
          | true ↦ λ q. (quiet_settled w.sessions (calm_on r nothing_left w g) q, some m done)
          | false ↦ λ _. later m done (rounds_from n (done + 1) (round w)) (rounds_settle n m (done + 1) (suc r) (round w) (round_goes_on r w g) (fewer l) (λ from to k. more (rank from to k) (b from to k)))
        ] refl
      where
        more : (i : ℕ) → i ≤ suc (r + suc m) → i ≤ suc (suc r + m)
        more i h = omega (arith, h)

        fewer : suc m ≤ suc n → m ≤ n
        fewer l = omega (arith, l)

    abbrev pub IsReady : MachineState → Type 0
    IsReady w = (w.setup ≡ x) × (map nodes w.sessions ≡ places) × Each P w.sessions × AllHaveTold w

    first_goes_on : (w : MachineState) → IsReady w → AreCalm size positive w → GoingOn 0 nothing_left (round w)
    first_goes_on w h c =
        let a = as_round size positive w c in
        subst (GoingOn 0 nothing_left) (sym (round_same size positive w c)) (round_ends 0 (as_deliveries size positive w) w a.deliveries (first_round (as_deliveries size positive w) w h.0 h.1 h.2 h.3 c a))

    -- rounds of the event `round`, until nothing is in flight
    rounds_rest : (n m done : ℕ) (w : MachineState) → IsReady w → AreCalm size positive w → m ≤ n → ((from to : Name) (k : Key) → rank from to k ≤ m) → SettledBy m done (rounds_from n done w)
    rounds_rest n zero done w h c l b = stops n done w (settled_at_once w h.1 b)
    rounds_rest zero (suc m) done w h c l b = absurd (omega (arith, l))
    rounds_rest (suc n) (suc m) done w h c l b =
        elim (is_quiet w) as (λ q. is_quiet w ≡ q → SettledBy (suc m) done (cond q (done, w) (rounds_from n (done + 1) (round w)))) [
          | true ↦ λ q. (quiet_settled w.sessions c q, some m done)
          | false ↦ λ _. later m done (rounds_from n (done + 1) (round w)) (rounds_settle n m (done + 1) 0 (round w) (first_goes_on w h c) (fewer l) (λ from to k. more (rank from to k) (b from to k)))
        ] refl
      where
        fewer : suc m ≤ suc n → m ≤ n
        fewer l = omega (arith, l)

        more : (i : ℕ) → i ≤ suc m → i ≤ suc (0 + m)
        more i h = omega (arith, h)

    -- `settle` ends settled, with at most one round more than the greatest rank
    pub settle_settles : (greatest : ℕ) (w : MachineState) → IsReady w → IsSound size positive w → greatest ≤ longest w.setup + 5 → ((from to : Name) (k : Key) → rank from to k ≤ greatest) → (is_settled (settle w).1 ≡ true) × ((settle w).0 ≤ greatest + 1)
    unfolding settle
    settle_settles greatest w h sound l b =
        let u : MachineState = record { setup = w.setup; sessions = map without_breaks w.sessions } in
        let v = round u in
        let nodes_v : map nodes v.sessions ≡ places = round_nodes u ∙ map_nodes without_breaks (λ s. refl) w.sessions ∙ h.1 in
        let ready : IsReady (resumed w) = (
          resumed_setup w ∙ h.0,
          connect_all_nodes v.sessions v ∙ nodes_v,
          (resumed_keeps size Valid P MayTell keeps w (subst Valid (sym h.0) valid, h.2)).1,
          connect_all_told v.sessions v (round_told u (unbroken_told w h.3)),
        ) in
        rounds_rest (longest w.setup + 5) greatest 1 (resumed w) ready (resumed_calm size positive w (subst NoTwins (sym h.1) apart) sound) l b
