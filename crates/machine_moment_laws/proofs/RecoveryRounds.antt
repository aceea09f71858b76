-- A round leads up to the next rank, also where sessions are down that are new.
use mathlib.Core.Bool.{beq}
use Rattle.std.specs.FinMap.{empty}
use Rattle.std.specs.Prelude.{◌≡◌, ◌≤◌, ◌+◌, ℕ, zero, suc, Bool, List, [], ◌∷◌, ◌++◌, ◌&&◌, ◌==◌, map, length, not, true, false, cond}
use Rattle.std.specs.Cmp.Lexicographic.{bytes_decides}
use Rattle.std.specs.List.{AllByRecursion, flat_map}
use Rattle.std.specs.Option.{option_map, unwrap_or}
use Rattle.std.specs.declared.option.Option.{Option}
use Rattle.std.specs.declared.option.Option.TheVariants.{None, Some}
use Rattle.std.proofs.Common.{ap, arith, inl, inr, refl, subst, sym, ◌∙◌}
use Rattle.std.proofs.lemmas.Bool.{and_from, and_left, and_parts, cases_lt, eqb-true, true≢false}
use Rattle.ov_types.specs.First.{same_name}
use Rattle.schedule_script.specs.ConfigCheck.Checked.{Checked}
use Rattle.node_laws.specs.NodeModel.Keys.{Key, key_cmp, Low, Publish, Row, Subscribe, Vpn}
use Rattle.node_laws.specs.NodeModel.Maps.{Map}
use Rattle.node_laws.specs.NodeModel.Members.{Member}
use Rattle.node_laws.specs.NodeModel.Step.{Confirmed, Opened, Phase, Up}
use Rattle.machine_model.specs.Moments.{ArePositive, Each, NodePair, TellsWanted, nodes}
use Rattle.machine_model.specs.Network.{MachineState, is_at, sessions_of, view, views_of, wanted}
use Rattle.machine_model.specs.Session.{Agent, Carries, Configuration, Controller, Message, Role, Session, are_peers, arrived, is_peering, is_up_phase, may_send, may_send_at, passed, turned, waiting}
use Rattle.machine_model.specs.Setup.{Name, checked, opening}
use Rattle.machine_model.specs.Steps.{Due, change_session, deliver, deliver_all, deliver_due, due_at, dues, in_flight, joins, notice_stands, pass, repeat, round, session_in}
use Rattle.machine_model.proofs.Apart.{no_twins}
use Rattle.machine_model.proofs.AtRest.{no_messages}
use Rattle.machine_model.proofs.NetworkFact.{found, passed_nodes}
use Rattle.machine_model.proofs.NodesFact.{arrived_nodes, pass_nodes, session_nodes}
use Rattle.machine_model.proofs.OvSync.KeyedLaws.{empty_values}
use Rattle.machine_model.proofs.RoundFact.{IsCalm}
use Rattle.machine_model.proofs.SessionFact.{Joined, greetings, live_receiver, meets}
use Rattle.machine_model.proofs.Twins.{Found, IsProper, NoTwins, all_to_own, each_and, each_weaker, found_each, itself, own_to_all, same_name_sym, swap_and, with_session_each}
use Rattle.machine_laws.specs.Headline.{IsWritten}
use Rattle.machine_laws.specs.Settling.{FairMap, FairMessages}
use Rattle.machine_laws.proofs.AtNode.{each_at_node}
use Rattle.machine_laws.proofs.Final.{laid_out}
use Rattle.machine_moment_laws.proofs.Here.{Here, here_sound, lasts, site_lasts}
use Rattle.machine_moment_laws.proofs.OfSome.{some_to}
use Rattle.machine_moment_laws.proofs.Easy.{IsEasy, IsNew, easy_arrived, easy_far, easy_near, easy_passed, easy_turned}
use Rattle.machine_moment_laws.proofs.Meeting.{AreTaken, calm_turned}
use Rattle.machine_moment_laws.proofs.Says.{Mine, Says, SaysBy, both_last, mine}
use Rattle.machine_moment_laws.proofs.Tells.{AllTell}
use Rattle.machine_moment_laws.proofs.ToPeers.{AreRoutes, HasToldPeer, HaveToldPeers}
use Rattle.machine_moment_laws.proofs.Stood.{stood}
use Rattle.machine_moment_laws.proofs.Exchanges.{Exchange, Fine, Good, IsBack, OpensEarly, exchange_arrived, exchange_idle, exchange_more, exchange_passed, exchange_turned}
use Rattle.machine_moment_laws.proofs.Pending.{Pends, pends_over, pends_starts, taking, taking_changes, told_to}
use Rattle.machine_moment_laws.proofs.RecoveryLasting.{keeps}
use Rattle.machine_moment_laws.proofs.Wanting.{Tells, good_weaker, holds_back, some_back, stood_back, wants_good}

-- ---- how much of a direction is owed: by a delivery that goes on, and by those that are due yet
abbrev pub goes_so : Name → Name → Name → Name → Bool
goes_so from to f t = same_name from f && same_name to t

abbrev pub owed : List Due → Name → Name → ℕ
owed [] f t = 0
owed (d ∷ ds) f t = cond (goes_so d.from d.to f t) d.count 0 + owed ds f t

abbrev pub still : Name → Name → ℕ → (Name → Name → ℕ) → Name → Name → ℕ
still from to n left f t = cond (goes_so from to f t) n 0 + left f t

-- one less of it
one_less : (b : Bool) (n l : ℕ) → cond b (suc n) 0 + l ≤ suc (cond b n 0 + l)
one_less true n l = omega arith
one_less false n l = omega arith

not_less : (b : Bool) (n l : ℕ) → b ≡ false → cond b (suc n) 0 + l ≤ cond b n 0 + l
not_less true n l e = absurd (true≢false e)
not_less false n l e = omega arith

none_less : (b : Bool) (l : ℕ) → cond b 0 0 + l ≤ l
none_less true l = omega arith
none_less false l = omega arith

-- ---- what is held, with what is in flight, is what was sent
taking_append : (f g : List Message) (m : Map) → taking (f ++ g) m ≡ taking g (taking f m)
taking_append [] g m = refl
taking_append (x ∷ f) g m = taking_append f g (told_to x m)

greeted : (b : Bool) (p q : Phase) (m : Map) → meets b p q ≡ true → taking (greetings b p q) m ≡ m
greeted true Opened Opened m e = refl
greeted true Opened Confirmed m e = refl
greeted true Confirmed Opened m e = refl
greeted true Confirmed Confirmed m e = refl
greeted true Confirmed Up m e = refl
greeted true Up Confirmed m e = refl
greeted true Up Up m e = refl
greeted false Opened Opened m e = refl
greeted false Opened Up m e = refl
greeted false Up Opened m e = refl
greeted false Up Up m e = refl
greeted _ _ _ m e = absurd (true≢false (sym e))

sent_is : (size : Name → Message → ℕ) (s : Session) → Joined size s → taking s.far.flight s.near.held ≡ s.far.sent
sent_is size s j =
    ap (λ (f : List Message). taking f s.near.held) j.inward.flight
    ∙ taking_append (greetings (is_peering s) s.near.phase s.far.phase) (map Carries j.inward.changes) s.near.held
    ∙ ap (taking (map Carries j.inward.changes)) (greeted (is_peering s) s.near.phase s.far.phase s.near.held j.inward.phases)
    ∙ taking_changes j.inward.changes s.near.held
    ∙ j.inward.tells

peers_are : (a c : Role) → are_peers a c ≡ true → (a ≡ Controller) × (c ≡ Controller)
peers_are Controller Controller e = (refl, refl)
peers_are Controller Configuration e = absurd (true≢false (sym e))
peers_are Controller Agent e = absurd (true≢false (sym e))
peers_are Configuration c e = absurd (true≢false (sym e))
peers_are Agent c e = absurd (true≢false (sym e))

proper_each : (ss : List Session) → NoTwins (map nodes ss) → Each (λ s. IsProper (nodes s)) ss
proper_each [] t = tt
proper_each (s ∷ ss) t = (t.0, proper_each ss t.2)

module _ (size : Name → Message → ℕ) (positive : ArePositive size) (b : Checked) (ds : List Checked) (written : (c : Checked) → Member c (b ∷ ds) → IsWritten (opening c)) where
  abbrev cs : List Checked
  cs = b ∷ ds

  -- ---- a session during a round
  abbrev pub DuringOf : ℕ → ℕ → ℕ → Session → Type 0
  DuringOf r i o s = IsEasy size positive s × (IsBack b ds written size positive r s × Exchange b ds written (nodes s) (suc r) i o s)

  abbrev pub During : ℕ → (Name → Name → ℕ) → Session → Type 0
  During r left s = DuringOf r (left (nodes s).1.0 (nodes s).0.0) (left (nodes s).0.0 (nodes s).1.0) s

  of_more : (r i o j q : ℕ) (s : Session) → i ≤ j → o ≤ q → DuringOf r i o s → DuringOf r j q s
  of_more r i o j q s h k d = (d.0, (d.1.0, exchange_more b ds written (nodes s) (suc r) i o j q s h k d.1.1))

  of_turned : (r i o : ℕ) (s : Session) → DuringOf r i o s → DuringOf r o i (turned s)
  of_turned r i o s d = (easy_turned size positive s d.0, ((keeps b ds written size positive r).both s d.1.0, exchange_turned b ds written (nodes s) (suc r) i o s d.1.1))

  of_arrived : (r i o : ℕ) (s : Session) → DuringOf r (suc i) o s → DuringOf r i o (arrived s)
  of_arrived r i o s d = (
    easy_arrived size positive s d.0,
    (
      (keeps b ds written size positive r).arrives s d.1.0,
      subst (λ (p : NodePair). Exchange b ds written p (suc r) i o (arrived s)) (sym (arrived_nodes s)) (exchange_arrived b ds written size positive (nodes s) (suc r) i o s d.0 early d.1.1),
    ),
  )
    where
      later : suc r ≤ 1 → suc (suc r) ≤ 2
      later h = omega (arith, h)

      early : OpensEarly b ds written (nodes s) (suc r) s
      early l k ms is =
          later (subst (AreTaken (Says b ds written r) r (s.far.name, s.far.role) (s.near.name, s.near.role)) is
          (d.1.0.0 (both_last (lasts b ds written s.near.name) (lasts b ds written s.far.name) l k)).1.far_flight).0

  of_passed : (r i o : ℕ) (m : Map) (s : Session) → Tells b ds written (suc r) s m → DuringOf r i o s → DuringOf r i o (passed m s)
  of_passed r i o m s g d = (
    easy_passed size positive m s d.0,
    (
      (keeps b ds written size positive r).passes m s (good_weaker b ds written r (s.near.name, s.near.role) (s.far.name, s.far.role) m g) d.1.0,
      subst (λ (p : NodePair). Exchange b ds written p (suc r) i o (passed m s)) (sym (passed_nodes m s)) (exchange_passed b ds written size positive (nodes s) (suc r) i o m s d.0 g d.1.1),
    ),
  )

  same_names : (r : ℕ) (left : Name → Name → ℕ) (s t : Session) → nodes t ≡ nodes s → DuringOf r (left s.far.name s.near.name) (left s.near.name s.far.name) t → During r left t
  same_names r left s t same d = subst (λ (p : NodePair). DuringOf r (left p.1.0 p.0.0) (left p.0.0 p.1.0) t) (sym same) d

  -- ---- the network during a round
  abbrev pub Going : ℕ → (Name → Name → ℕ) → MachineState → Type 0
  Going r left w = Here b ds written w.setup (map nodes w.sessions) × Each (During r left) w.sessions

  pub twins : (w : MachineState) → Here b ds written w.setup (map nodes w.sessions) → NoTwins (map nodes w.sessions)
  twins w here =
      subst NoTwins (sym here.are_asked)
      (no_twins (checked w.setup) (laid_out w.setup (here_sound b ds written w.setup (map nodes w.sessions) here)).apart)

  pass_on : (r : ℕ) (left : Name → Name → ℕ) (n : Name) (w : MachineState) → Going r left w → Going r left (pass n w)
  pass_on r left n w g =
      let W : Session → Map = λ s. wanted w.setup (views_of n w.sessions) (view s) in
      let near : (s : Session) → During r left s → Tells b ds written (suc r) s (W s) → During r left (passed (W s) s) = λ s d t.
      same_names r left s (passed (W s) s) (passed_nodes (W s) s) (of_passed r (left s.far.name s.near.name) (left s.near.name s.far.name) (W s) s t d) in
      let turn : (s : Session) → During r left s → During r left (turned s) = λ s d. of_turned r (left s.far.name s.near.name) (left s.near.name s.far.name) s d in (
        subst (Here b ds written w.setup) (sym (pass_nodes n w)) g.0,
        each_at_node (During r left) (λ s. Tells b ds written (suc r) s (W s)) (During r left) n (λ s. passed (W s) s) near
            (λ s d t. turn (passed (W (turned s)) (turned s)) (near (turned s) (turn s d) t)) (λ s d. d) w.sessions g.1
            (wants_good b ds written size positive r w.setup w.sessions g.0 (each_weaker (During r left) (IsBack b ds written size positive r) (λ s d. d.1.0) w.sessions g.1) n),
      )

  -- ---- a delivery
  module _ (r : ℕ) (left : Name → Name → ℕ) (from to : Name) (n : ℕ) where
    abbrev more : Name → Name → ℕ
    more = still from to (suc n) left

    abbrev less : Name → Name → ℕ
    less = still from to n left

    not_to : (s : Session) → joins to from s ≡ false → goes_so from to s.far.name s.near.name ≡ false
    not_to s off = (λ i. same_name_sym from s.far.name i && same_name_sym to s.near.name i) ∙ swap_and (same_name s.near.name to) (same_name s.far.name from) false off

    not_fro : (s : Session) → joins from to s ≡ false → goes_so from to s.near.name s.far.name ≡ false
    not_fro s off = (λ i. same_name_sym from s.near.name i && same_name_sym to s.far.name i) ∙ off

    missed : (s : Session) → joins to from s ≡ false → joins from to s ≡ false → During r more s → During r less s
    missed s off off_back d =
        of_more r (more s.far.name s.near.name) (more s.near.name s.far.name) (less s.far.name s.near.name) (less s.near.name s.far.name) s
        (not_less (goes_so from to s.far.name s.near.name) n (left s.far.name s.near.name) (not_to s off))
        (not_less (goes_so from to s.near.name s.far.name) n (left s.near.name s.far.name) (not_fro s off_back)) d

    -- the other direction of the session is another
    not_back : (s : Session) → joins to from s ≡ true → IsProper (nodes s) → goes_so from to s.near.name s.far.name ≡ false
    not_back s is proper =
        let names = and_parts (is_at to s.near) (is_at from s.far) is in
        let near_name : s.near.name ≡ to = (bytes_decides s.near.name to).0 names.0 in
        swap_and (same_name to s.far.name) (same_name from s.near.name) false (and_left (same_name to s.far.name) (same_name from s.near.name) (ap (λ n. same_name n s.far.name) (sym near_name) ∙ proper.0))

    ready : (s : Session) → joins to from s ≡ true → IsProper (nodes s) → During r more s → DuringOf r (suc (less s.far.name s.near.name)) (less s.near.name s.far.name) s
    ready s is proper d =
        of_more r (more s.far.name s.near.name) (more s.near.name s.far.name) (suc (less s.far.name s.near.name)) (less s.near.name s.far.name) s
        (one_less (goes_so from to s.far.name s.near.name) n (left s.far.name s.near.name))
        (not_less (goes_so from to s.near.name s.far.name) n (left s.near.name s.far.name) (not_back s is proper)) d

    hit : (s : Session) → joins to from s ≡ true → IsProper (nodes s) → During r more s → During r less (arrived s)
    hit s is proper d = same_names r less s (arrived s) (arrived_nodes s) (of_arrived r (less s.far.name s.near.name) (less s.near.name s.far.name) s (ready s is proper d))

    turned_joins : (s : Session) → joins from to s ≡ true → joins to from (turned s) ≡ true
    turned_joins s is = swap_and (same_name s.near.name from) (same_name s.far.name to) true is

    turn : (l : Name → Name → ℕ) (s : Session) → During r l s → During r l (turned s)
    turn l s d = of_turned r (l s.far.name s.near.name) (l s.near.name s.far.name) s d

    hit_back : (s : Session) → joins from to s ≡ true → IsProper (nodes s) → During r more s → During r less (turned (arrived (turned s)))
    hit_back s is proper d = turn less (arrived (turned s)) (hit (turned s) (turned_joins s is) (proper.1, proper.0) (turn more s d))

    -- where nothing is in flight
    idle : (w : MachineState) → in_flight w from to ≡ 0 → (s : Session) → joins to from s ≡ true → IsProper (nodes s) → session_in w.sessions s.near.name s.far.name ≡ Some s → During r more s → During r less s
    idle w none s is proper found d =
        let names = and_parts (is_at to s.near) (is_at from s.far) is in
        let near_name : s.near.name ≡ to = (bytes_decides s.near.name to).0 names.0 in
        let far_name : s.far.name ≡ from = (bytes_decides s.far.name from).0 names.1 in
        let there : session_in w.sessions to from ≡ Some s = (λ i. session_in w.sessions (sym near_name i) (sym far_name i)) ∙ found in
        let empty : length s.far.flight ≡ 0 = sym (ap (λ (o : Option Session). unwrap_or (option_map waiting o) 0) there ∙ ap (λ b. cond b 1 (length s.far.flight)) (easy_near size positive s d.0)) ∙ none in
        let q = ready s is proper d in
        (q.0, (q.1.0, exchange_idle b ds written (nodes s) (suc r) (suc (less s.far.name s.near.name)) (less s.far.name s.near.name) (less s.near.name s.far.name) s (no_messages s.far.flight empty) q.1.1))

    idle_each : (w : MachineState) → in_flight w from to ≡ 0 → (s : Session) → (IsProper (nodes s) × Found w.sessions s) × During r more s → During r less s
    idle_each w none s h =
        elim (joins to from s) as (λ c. joins to from s ≡ c → During r less s) [
          | true ↦ λ is. idle w none s is h.0.0 h.0.1.0 h.1
          | false ↦ λ off. elim (joins from to s) as (λ c. joins from to s ≡ c → During r less s) [
            | true ↦ λ is. turn less (turned s) (idle w none (turned s) (turned_joins s is) (h.0.0.1, h.0.0.0) h.0.1.1 (turn more s h.1))
            | false ↦ λ off_back. missed s off off_back h.1
          ] refl
        ] refl

    deliver_on : (w : MachineState) → Going r more w → Going r less (deliver from to w)
    deliver_on w g =
        let apart = twins w g.0 in
        elim (in_flight w from to == 0) as (λ c. (in_flight w from to == 0) ≡ c → Going r less (cond c w (pass to (change_session to from arrived w)))) [
          | true ↦ λ e. (
            g.0,
            each_weaker (λ s. (IsProper (nodes s) × Found w.sessions s) × During r more s) (During r less) (idle_each w (eqb-true (in_flight w from to) 0 e)) w.sessions
                (each_and (λ s. IsProper (nodes s) × Found w.sessions s) (During r more) w.sessions (each_and (λ s. IsProper (nodes s)) (Found w.sessions) w.sessions (proper_each w.sessions apart) (found_each w.sessions apart)) g.1),
          )
          | false ↦ λ _. pass_on r less to (change_session to from arrived w) (
            subst (Here b ds written w.setup) (sym (session_nodes to from arrived arrived_nodes w.sessions)) g.0,
            with_session_each (During r more) (During r less) to from missed arrived hit hit_back w.sessions apart g.1,
          )
        ] refl

  -- no notice is due
  no_notice : (r : ℕ) (left : Name → Name → ℕ) (d : Due) (w : MachineState) → Going r left w → notice_stands w d ≡ false
  no_notice r left d w g = by (session_in w.sessions d.to d.from) refl
    where
      by : (o : Option Session) → session_in w.sessions d.to d.from ≡ o → unwrap_or (option_map (λ (s : Session). s.near.notice) o) false ≡ false
      by None is = refl
      by (Some s) is = easy_near size positive s (found (IsEasy size positive) (easy_turned size positive) w.sessions d.to d.from (each_weaker (During r left) (IsEasy size positive) (λ s d. d.0) w.sessions g.1) s is)

  due_on : (r : ℕ) (left : Name → Name → ℕ) (d : Due) (n : ℕ) (w : MachineState) → d.is_notice ≡ false → Going r (still d.from d.to (suc n) left) w → Going r (still d.from d.to n left) (deliver_due d w)
  due_on r left d n w e g =
      let same : deliver_due d w ≡ deliver d.from d.to w = λ i. cond (beq (no_notice r (still d.from d.to (suc n) left) d w g i) (e i)) (deliver d.from d.to w) w in
      subst (Going r (still d.from d.to n left)) (sym same) (deliver_on r left d.from d.to n w g)

  delivers_on : (r : ℕ) (left : Name → Name → ℕ) (d : Due) (n : ℕ) (w : MachineState) → d.is_notice ≡ false → Going r (still d.from d.to n left) w → Going r (still d.from d.to 0 left) (repeat n (deliver_due d) w)
  delivers_on r left d zero w e g = g
  delivers_on r left d (suc n) w e g = delivers_on r left d n (deliver_due d w) e (due_on r left d n w e g)

  going_less : (r : ℕ) (left : Name → Name → ℕ) (from to : Name) (w : MachineState) → Going r (still from to 0 left) w → Going r left w
  going_less r left from to w g = (
    g.0,
    each_weaker (During r (still from to 0 left)) (During r left)
        (λ s d. of_more r (still from to 0 left s.far.name s.near.name) (still from to 0 left s.near.name s.far.name) (left s.far.name s.near.name) (left s.near.name s.far.name) s
        (none_less (goes_so from to s.far.name s.near.name) (left s.far.name s.near.name)) (none_less (goes_so from to s.near.name s.far.name) (left s.near.name s.far.name)) d) w.sessions g.1,
  )

  dues_on : (r : ℕ) (es : List Due) (w : MachineState) → AllByRecursion (λ d. d.is_notice ≡ false) es → Going r (owed es) w → Going r (owed []) (deliver_all es w)
  dues_on r [] w e g = g
  dues_on r (d ∷ es) w e g =
      let v = repeat d.count (deliver_due d) w in
      dues_on r es v e.1 (going_less r (owed es) d.from d.to v (delivers_on r (owed es) d d.count w e.0 g))

  -- ---- where the round begins: what is in flight is what is owed
  abbrev Enough : List Due → Session → Type 0
  Enough es s = (length s.far.flight ≤ owed es s.far.name s.near.name) × (length s.near.flight ≤ owed es s.near.name s.far.name)

  abbrev due_of : Session → List Due
  due_of s = due_at (turned s) ∷ due_at s ∷ []

  same_both : (f t : Name) → goes_so f t f t ≡ true
  same_both f t = and_from (same_name f f) (same_name t t) (itself f) (itself t)

  first_due : (c : Bool) (k l m w : ℕ) → c ≡ true → w ≡ m → m ≤ cond c w 0 + l
  first_due true k l m w e h = omega (arith, h)
  first_due false k l m w e h = absurd (true≢false (sym e))

  second_due : (a c : Bool) (k l m w : ℕ) → c ≡ true → w ≡ m → m ≤ cond a k 0 + (cond c w 0 + l)
  second_due true true k l m w e h = omega (arith, h)
  second_due false true k l m w e h = omega (arith, h)
  second_due a false k l m w e h = absurd (true≢false (sym e))

  later_due : (a c : Bool) (k w l m : ℕ) → m ≤ l → m ≤ cond a k 0 + (cond c w 0 + l)
  later_due true true k w l m h = omega (arith, h)
  later_due true false k w l m h = omega (arith, h)
  later_due false true k w l m h = omega (arith, h)
  later_due false false k w l m h = omega (arith, h)

  no_notices : (ss : List Session) → Each (IsEasy size positive) ss → AllByRecursion (λ d. d.is_notice ≡ false) (flat_map due_of ss)
  no_notices [] c = tt
  no_notices (s ∷ ss) c = (easy_far size positive s c.0, (easy_near size positive s c.0, no_notices ss c.1))

  enough_each : (ss : List Session) → Each (IsEasy size positive) ss → Each (Enough (flat_map due_of ss)) ss
  enough_each [] c = tt
  enough_each (s ∷ ss) c =
      let rest = flat_map due_of ss in
      let n = s.near.name in
      let f = s.far.name in (
        (
          second_due (goes_so n f f n) (goes_so f n f n) (waiting (turned s)) (owed rest f n) (length s.far.flight) (waiting s) (same_both f n) (ap (λ b. cond b 1 (length s.far.flight)) (easy_near size positive s c.0)),
          first_due (goes_so n f n f) 0 (cond (goes_so f n n f) (waiting s) 0 + owed rest n f) (length s.near.flight) (waiting (turned s)) (same_both n f) (ap (λ b. cond b 1 (length s.near.flight)) (easy_far size positive s c.0)),
        ),
        each_weaker (Enough rest) (Enough (due_at (turned s) ∷ due_at s ∷ rest))
            (λ t e. (
              later_due (goes_so n f t.far.name t.near.name) (goes_so f n t.far.name t.near.name) (waiting (turned s)) (waiting s) (owed rest t.far.name t.near.name) (length t.far.flight) e.0,
              later_due (goes_so n f t.near.name t.far.name) (goes_so f n t.near.name t.far.name) (waiting (turned s)) (waiting s) (owed rest t.near.name t.far.name) (length t.near.flight) e.1,
            )) ss (enough_each ss c.1),
      )

  -- ---- and what was sent is good up to the next rank
  abbrev pub AreEasy : MachineState → Type 0
  AreEasy w = Each (IsEasy size positive) w.sessions

  -- between control nodes nothing is said in the first two rounds
  none_yet : (r : ℕ) (p q : Role) (from to : Name) (k : Key) → are_peers p q ≡ true → suc r ≤ 2 → SaysBy b ds written (suc r) p q from to k → ⊥
  none_yet r Controller Controller from to (Vpn k) e h (inl says) = absurd (omega (arith, h, says.rank))
  none_yet r Controller Controller from to (Vpn k) e h (inr says) = late says.depth says.rank
    where
      late : (d : ℕ) → 4 + suc d ≤ suc r → ⊥
      late d g = omega (arith, h, g)
  none_yet r Controller Controller from to (Low k) e h says = says
  none_yet r Controller Controller from to (Row i prefix) e h says = says
  none_yet r Controller Controller from to (Publish i prefix) e h says = says
  none_yet r Controller Controller from to (Subscribe i) e h says = says
  none_yet r Controller Configuration from to k e h says = absurd (true≢false (sym e))
  none_yet r Controller Agent from to k e h says = absurd (true≢false (sym e))
  none_yet r Configuration q from to k e h says = absurd (true≢false (sym e))
  none_yet r Agent q from to k e h says = absurd (true≢false (sym e))

  -- of routes no object is asked, and where they lead is asked later
  routes_some : (r : ℕ) (from to : Name × Role) (m : Map) → AreRoutes m → FairMap (some_to cs r) from to m
  routes_some r from to m routes (Vpn k) v e = λ rank. tt
  routes_some r from to m routes (Low k) v e = absurd (routes (Low k) v e)
  routes_some r from to m routes (Row i prefix) v e = absurd (routes (Row i prefix) v e)
  routes_some r from to m routes (Publish i prefix) v e = absurd (routes (Publish i prefix) v e)
  routes_some r from to m routes (Subscribe i) v e = absurd (routes (Subscribe i) v e)

  routes_stood : (r : ℕ) (from to : Name × Role) (m : Map) → suc r ≤ 2 → AreRoutes m → FairMap (stood cs b.topology.asn (suc r)) from to m
  routes_stood r from to m h routes (Vpn k) v e = λ rank. absurd (omega (arith, h, rank))
  routes_stood r from to m h routes (Low k) v e = absurd (routes (Low k) v e)
  routes_stood r from to m h routes (Row i prefix) v e = absurd (routes (Row i prefix) v e)
  routes_stood r from to m h routes (Publish i prefix) v e = absurd (routes (Publish i prefix) v e)
  routes_stood r from to m h routes (Subscribe i) v e = absurd (routes (Subscribe i) v e)

  module _ (r : ℕ) (w : MachineState) (here : Here b ds written w.setup (map nodes w.sessions)) (back_to : Each (IsBack b ds written size positive r) w.sessions) (easy : AreEasy w) (told : AllTell w) (routes : Each HaveToldPeers w.sessions) where
    abbrev pub SentGood : Session → Type 0
    SentGood s = IsCalm size positive s → Tells b ds written (suc r) s s.near.sent

    -- what is known of a session of a node
    record Owns (n : Name) (s : Session) : Type 0 where
      known : Mine b ds written r w.setup n s
      to_peer : HasToldPeer s

    -- a control node may send to another one from rank 2 on
    up_by_then : (n : Name) (s : Session) → Owns n s → is_peering s ≡ true → 2 ≤ r → may_send s ≡ true
    up_by_then n s o is rank =
        let p = peers_are s.near.role s.far.role is in
        let l = both_last (lasts b ds written s.near.name) (lasts b ds written s.far.name)
        (site_lasts b ds written w.setup (map nodes w.sessions) here s.near.name (o.known.near_site p.0)) (site_lasts b ds written w.setup (map nodes w.sessions) here s.far.name (o.known.far_site p.1)) in
        ap (λ b. may_send_at b s.near.phase) is ∙ ap is_up_phase (o.known.up l rank)

    -- before that it sent routes alone
    unsent_good : (n : Name) (s : Session) → Owns n s → is_peering s ≡ true → suc r ≤ 2 → Tells b ds written (suc r) s s.near.sent
    unsent_good n s o is rank =
        let p = peers_are s.near.role s.far.role is in
        let sent = o.to_peer p.0 p.1 in (
          (λ l k key says. absurd (none_yet r s.near.role s.far.role s.near.name s.far.name key is rank says)),
          (
            routes_some (suc r) (s.near.name, s.near.role) (s.far.name, s.far.role) s.near.sent sent,
            routes_stood r (s.near.name, s.near.role) (s.far.name, s.far.role) s.near.sent rank sent,
          ),
        )

    by_rank : (n : Name) (s : Session) → Owns n s → is_peering s ≡ true → may_send s ≡ false → Tells b ds written (suc r) s s.near.sent
    by_rank n s o is off = elim (cases_lt (suc r) 3) as (λ _. Tells b ds written (suc r) s s.near.sent) [
      | inl few ↦ unsent_good n s o is (omega (arith, few))
      | inr many ↦ absurd (true≢false (sym (up_by_then n s o is (omega (arith, many))) ∙ off))
    ]

    sent_one : (n : Name) (s : Session) → Owns n s → (may_send s ≡ true → s.near.sent ≡ wanted w.setup (views_of n w.sessions) (view s)) → Tells b ds written (suc r) s (wanted w.setup (views_of n w.sessions) (view s)) → SentGood s
    sent_one n s o tells good c = by (may_send s) refl
      where
        live : is_peering s ≡ false → may_send s ≡ true
        live off = ap (λ b. may_send_at b s.near.phase) off ∙ ap not (live_receiver (is_peering s) s.near.phase s.far.phase c.0.inward.phases)

        not_may : may_send s ≡ false → Tells b ds written (suc r) s s.near.sent
        not_may off = elim (is_peering s) as (λ c. is_peering s ≡ c → Tells b ds written (suc r) s s.near.sent) [
          | true ↦ λ is. by_rank n s o is off
          | false ↦ λ is. absurd (true≢false (sym (live is) ∙ off))
        ] refl

        by : (c : Bool) → may_send s ≡ c → Tells b ds written (suc r) s s.near.sent
        by true may = subst (Tells b ds written (suc r) s) (sym (tells may)) good
        by false off = not_may off

    sent_own : (n : Name) (own : List Session) → Each (Owns n) own → TellsWanted w.setup (views_of n w.sessions) own → Each (λ s. Tells b ds written (suc r) s (wanted w.setup (views_of n w.sessions) (view s))) own → Each SentGood own
    sent_own n [] m t g = tt
    sent_own n (s ∷ own) m t g = (sent_one n s m.0 t.0 g.0, sent_own n own m.1 t.1 g.1)

    owns : (n : Name) → Each (Owns n) (sessions_of n w.sessions)
    owns n =
        each_weaker (λ s. Mine b ds written r w.setup n s × HasToldPeer s) (Owns n) (λ s q. record { known = q.0; to_peer = q.1 }) (sessions_of n w.sessions)
        (each_and (Mine b ds written r w.setup n) HasToldPeer (sessions_of n w.sessions)
        (mine b ds written r w.setup w.sessions here (holds_back b ds written size positive r w.sessions back_to) (some_back b ds written size positive r w.sessions back_to) (stood_back b ds written size positive r w.sessions back_to) n)
        (all_to_own HasToldPeer n w.sessions routes))

    sent_good : Each (λ s. SentGood s × SentGood (turned s)) w.sessions
    sent_good =
        own_to_all SentGood w.sessions (twins w here)
        (λ n. sent_own n (sessions_of n w.sessions) (owns n) (told n) (wants_good b ds written size positive r w.setup w.sessions here back_to n))

    -- a new session has nothing, and its nodes do not last both
    new_exchange : (s : Session) → IsNew s → IsBack b ds written size positive r s → Exchange b ds written (nodes s) (suc r) (owed (dues w) s.far.name s.near.name) (owed (dues w) s.near.name s.far.name) s
    new_exchange s n f = record {
      into = nothing (s.far.name, s.far.role) (s.near.name, s.near.role) (owed (dues w) s.far.name s.near.name) s.near.held s.far.flight n.near.held n.far.flight (λ l k. off k l);
      out = nothing (s.near.name, s.near.role) (s.far.name, s.far.role) (owed (dues w) s.near.name s.far.name) s.far.held s.near.flight n.far.held n.near.flight (λ l k. off l k);
    }
      where
        off : lasts b ds written s.near.name ≡ true → lasts b ds written s.far.name ≡ true → ⊥
        off l k = true≢false (sym n.down ∙ (f.0 (both_last (lasts b ds written s.near.name) (lasts b ds written s.far.name) l k)).0.0.whole)

        nothing : (from to : Name × Role) (i : ℕ) (held : Map) (flight : List Message) → held ≡ empty → flight ≡ [] → (lasts b ds written from.0 ≡ true → lasts b ds written to.0 ≡ true → ⊥)
            → Pends (Good b ds written (suc r) from to) (Fine b ds written (suc r) from to) i held flight
        nothing from to i held flight h g none =
            subst (λ (m : Map). Pends (Good b ds written (suc r) from to) (Fine b ds written (suc r) from to) i m flight) (sym h)
            (subst (λ (f : List Message). Pends (Good b ds written (suc r) from to) (Fine b ds written (suc r) from to) i empty f) (sym g)
            (pends_starts (Good b ds written (suc r) from to) (Fine b ds written (suc r) from to) i empty [] (omega arith) (
              (λ l k. absurd (none l k)),
              (empty_values key_cmp (some_to cs (suc r) from to), empty_values key_cmp (stood cs b.topology.asn (suc r) from to)),
            )))

    calm_exchange : (s : Session) → IsCalm size positive s → SentGood s × SentGood (turned s) → Enough (dues w) s → Exchange b ds written (nodes s) (suc r) (owed (dues w) s.far.name s.near.name) (owed (dues w) s.near.name s.far.name) s
    calm_exchange s c good enough = record {
      into = pends_starts (Good b ds written (suc r) (s.far.name, s.far.role) (s.near.name, s.near.role)) (Fine b ds written (suc r) (s.far.name, s.far.role) (s.near.name, s.near.role)) (owed (dues w) s.far.name s.near.name) s.near.held s.far.flight enough.0
          (subst (Good b ds written (suc r) (s.far.name, s.far.role) (s.near.name, s.near.role)) (sym (sent_is size s c.0)) (good.1 (calm_turned size positive s c)));
      out = pends_starts (Good b ds written (suc r) (s.near.name, s.near.role) (s.far.name, s.far.role)) (Fine b ds written (suc r) (s.near.name, s.near.role) (s.far.name, s.far.role)) (owed (dues w) s.near.name s.far.name) s.far.held s.near.flight enough.1
          (subst (Good b ds written (suc r) (s.near.name, s.near.role) (s.far.name, s.far.role)) (sym (sent_is size (turned s) (calm_turned size positive s c).0)) (good.0 c));
    }

    begins_one : (s : Session) → ((IsEasy size positive s × IsBack b ds written size positive r s) × (SentGood s × SentGood (turned s))) × Enough (dues w) s → During r (owed (dues w)) s
    begins_one s h = (h.0.0.0, (h.0.0.1, by h.0.0.0))
      where
        by : IsEasy size positive s → Exchange b ds written (nodes s) (suc r) (owed (dues w) s.far.name s.near.name) (owed (dues w) s.near.name s.far.name) s
        by (inl c) = calm_exchange s c h.0.1 h.1
        by (inr n) = new_exchange s n h.0.0.1

    round_begins : Going r (owed (dues w)) w
    round_begins = (
      here,
      each_weaker (λ s. ((IsEasy size positive s × IsBack b ds written size positive r s) × (SentGood s × SentGood (turned s))) × Enough (dues w) s) (During r (owed (dues w))) begins_one w.sessions
          (each_and (λ s. (IsEasy size positive s × IsBack b ds written size positive r s) × (SentGood s × SentGood (turned s))) (Enough (dues w)) w.sessions
          (each_and (λ s. IsEasy size positive s × IsBack b ds written size positive r s) (λ s. SentGood s × SentGood (turned s)) w.sessions (each_and (IsEasy size positive) (IsBack b ds written size positive r) w.sessions easy back_to) sent_good)
          (enough_each w.sessions easy)),
    )

  -- ---- where it ends
  taken_of : (r : ℕ) (from to : Name × Role) → lasts b ds written from.0 ≡ true → lasts b ds written to.0 ≡ true → (f : List Message) → AllByRecursion (Fine b ds written r from to) f → AreTaken (Says b ds written r) r from to f
  taken_of r from to l k [] a = tt
  taken_of r from to l k (x ∷ f) a = (a.0.0 l k, taken_of r from to l k f a.1)

  some_of : (r : ℕ) (from to : Name × Role) (f : List Message) → AllByRecursion (Fine b ds written r from to) f → FairMessages (some_to cs r) from to f
  some_of r from to [] a = tt
  some_of r from to (x ∷ f) a = (a.0.1.0, some_of r from to f a.1)

  stood_of : (r : ℕ) (from to : Name × Role) (f : List Message) → AllByRecursion (Fine b ds written r from to) f → FairMessages (stood cs b.topology.asn r) from to f
  stood_of r from to [] a = tt
  stood_of r from to (x ∷ f) a = (a.0.1.1, stood_of r from to f a.1)

  ends_one : (r : ℕ) (s : Session) → During r (owed []) s → IsBack b ds written size positive (suc r) s
  ends_one r s d =
      let n : Name × Role = (s.near.name, s.near.role) in
      let f : Name × Role = (s.far.name, s.far.role) in
      let into = pends_over (Good b ds written (suc r) f n) (Fine b ds written (suc r) f n) s.near.held s.far.flight d.1.1.into in
      let out = pends_over (Good b ds written (suc r) n f) (Fine b ds written (suc r) n f) s.far.held s.near.flight d.1.1.out in (
        (λ l.
            let p = and_parts (lasts b ds written s.near.name) (lasts b ds written s.far.name) l in (
              (d.1.0.0 l).0,
              record {
                near_held = into.0.0 p.1 p.0;
                far_held = out.0.0 p.0 p.1;
                near_flight = taken_of (suc r) n f p.0 p.1 s.near.flight out.1;
                far_flight = taken_of (suc r) f n p.1 p.0 s.far.flight into.1;
              },
            )),
        (
          record { near_held = into.0.1.0; far_held = out.0.1.0; near_flight = some_of (suc r) n f s.near.flight out.1; far_flight = some_of (suc r) f n s.far.flight into.1 },
          record { near_held = into.0.1.1; far_held = out.0.1.1; near_flight = stood_of (suc r) n f s.near.flight out.1; far_flight = stood_of (suc r) f n s.far.flight into.1 },
        ),
      )

  abbrev pub AreBack : ℕ → MachineState → Type 0
  AreBack r w = Here b ds written w.setup (map nodes w.sessions) × Each (IsBack b ds written size positive r) w.sessions

  pub round_leads_on : (r : ℕ) (w : MachineState) → AreBack r w → AreEasy w → AllTell w → Each HaveToldPeers w.sessions → AreBack (suc r) (round w)
  unfolding round
  round_leads_on r w e easy told routes =
      let g = dues_on r (dues w) w (no_notices w.sessions easy) (round_begins r w e.0 e.1 easy told routes) in
      (g.0, each_weaker (During r (owed [])) (IsBack b ds written size positive (suc r)) (ends_one r) (deliver_all (dues w) w).sessions g.1)
