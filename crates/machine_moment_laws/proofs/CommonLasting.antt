-- All that is said is held on each session of nodes that last, at every moment of a window.
use Rattle.std.specs.Prelude.{◌≡◌, ◌&&◌, ℕ, zero, suc, Bool, List, [], ◌∷◌, map, is_some, not, true, false}
use Rattle.std.specs.List.{list_all}
use Rattle.std.specs.FinMap.{get}
use Rattle.std.proofs.Common.{ap, inl, inr, refl, subst, sym, ◌∙◌}
use Rattle.std.proofs.lemmas.Bool.{and_parts, true≢false}
use Rattle.schedule_script.specs.ConfigCheck.Checked.{Checked}
use Rattle.node_laws.specs.NodeModel.Keys.{Key, key_cmp, Low, Publish, Row, Subscribe, Vpn}
use Rattle.node_laws.specs.NodeModel.Maps.{Map}
use Rattle.node_laws.specs.NodeModel.Members.{Member}
use Rattle.node_laws.specs.NodeModel.Step.{Phase, is_idle}
use Rattle.machine_model.specs.Moments.{Each, IsAtRest, IsAtRestWith, NodePair, nodes}
use Rattle.machine_model.specs.Network.{MachineState, sessions_of, view, views_of, wanted}
use Rattle.machine_model.specs.Rounds.{has_no_break, is_empty}
use Rattle.machine_model.specs.Session.{Agent, Controller, Message, Role, Session, arrived, octets_arrived, opened, passed, turned}
use Rattle.machine_model.specs.Setup.{Name, Setup, opening}
use Rattle.machine_model.specs.Steps.{may_connect, without_breaks}
use Rattle.machine_model.proofs.NetworkFact.{opened_nodes, passed_nodes}
use Rattle.machine_model.proofs.NodesFact.{arrived_nodes, octets_nodes}
use Rattle.machine_model.proofs.OvSync.KeyedLaws.{empty_values}
use Rattle.machine_model.proofs.SessionFact.{Fact}
use Rattle.machine_model.proofs.Twins.{NoTwins, each_and, each_weaker, own_to_all}
use Rattle.machine_laws.specs.Headline.{IsWritten}
use Rattle.machine_laws.specs.Settling.{FairMap}
use Rattle.machine_laws.proofs.EachFact.{Keeps}
use Rattle.machine_laws.proofs.FairFact.{fair_keeps}
use Rattle.machine_laws.proofs.Views.{views}
use Rattle.machine_moment_laws.proofs.Beginning.{IsAmong}
use Rattle.machine_moment_laws.proofs.Course.{KeepsInWindow}
use Rattle.machine_moment_laws.proofs.Here.{Here, IsAsked, here_edited, lasts, moves_off}
use Rattle.machine_moment_laws.proofs.Keys.{keys_wanted}
use Rattle.machine_moment_laws.proofs.Says.{HoldsTo, Says, StaysTo, holds_of, lasting, says_none, swap}
use Rattle.machine_moment_laws.proofs.Stood.{AreStood, HoldStood, kind, stood, stood_held, stood_weaker, wants_stood}
use Rattle.machine_laws.specs.Settling.{FairMessages}
use Rattle.std.specs.Prelude.{◌≤◌}
use Rattle.std.proofs.Common.{arith}
use Rattle.machine_moment_laws.proofs.OfSome.{AreOfSome, AreSomeTo, IsStill, of_some, some_weaker, wants_of_some}
use Rattle.machine_moment_laws.proofs.Stays.{AreKept, HasKeys, StaysAt, stays_arrived, stays_octets_arrived, stays_passed, stays_turned}

pub none_of_both : (b c : Bool) → b ≡ false → (c && b) ≡ false
none_of_both b true e = e
none_of_both b false e = refl

module _ (b : Checked) (ds : List Checked) (written : (c : Checked) → Member c (b ∷ ds) → IsWritten (opening c)) where
  abbrev cs : List Checked
  cs = b ∷ ds

  -- up to every rank
  abbrev pub StaysToAll : Session → Type 0
  StaysToAll s = (r : ℕ) → StaysTo b ds written r s

  abbrev pub IsKept : Session → Type 0
  IsKept s = StaysToAll s × (AreOfSome cs s × AreStood cs b.topology.asn 5 s)

  abbrev pub Tells : Session → Map → Type 0
  Tells s m = ((r : ℕ) → lasting b ds written s ≡ true → HasKeys (Says b ds written r) (s.near.name, s.near.role) (s.far.name, s.far.role) m) × (FairMap (of_some cs) (s.near.name, s.near.role) (s.far.name, s.far.role) m × FairMap (stood cs b.topology.asn 5) (s.near.name, s.near.role) (s.far.name, s.far.role) m)

  -- so both ends hold what is said, up to any rank
  pub holds_kept : (r : ℕ) (ss : List Session) → Each IsKept ss → Each (HoldsTo b ds written r) ss
  holds_kept r ss e = each_weaker IsKept (HoldsTo b ds written r) (λ s f. holds_of b ds written r s (f.0 r)) ss e

  pub some_kept : (r : ℕ) (ss : List Session) → Each IsKept ss → Each (AreSomeTo cs r) ss
  some_kept r ss e = each_weaker IsKept (AreSomeTo cs r) (λ s f. some_weaker cs r s f.1.0) ss e

  pub stood_kept : (r : ℕ) (ss : List Session) → Each IsKept ss → Each (HoldStood cs b.topology.asn r) ss
  stood_kept r ss e = each_weaker IsKept (HoldStood cs b.topology.asn r) (λ s f. stood_weaker cs b.topology.asn r s f.1.1) ss e

  abbrev pub lasts_of : NodePair → Bool
  lasts_of p = lasts b ds written p.0.0 && lasts b ds written p.1.0

  abbrev At : ℕ → NodePair → Session → Type 0
  At r p s = StaysAt (Says b ds written r) p s

  -- what keeps the nodes of a session, and what is said on it
  pub kept_where : (r : ℕ) (s t : Session) → nodes t ≡ nodes s → (At r (nodes s) s → At r (nodes s) t) → StaysTo b ds written r s → StaysTo b ds written r t
  kept_where r s t same h stays = λ l. subst (λ (p : NodePair). At r p t) (sym same) (h (stays (sym (ap lasts_of same) ∙ l)))

  fairly : (size : Name → Message → ℕ) → Keeps size (IsAmong cs) (AreOfSome cs) (λ s m. FairMap (of_some cs) (s.near.name, s.near.role) (s.far.name, s.far.role) m)
  fairly size = fair_keeps (of_some cs) size (IsAmong cs) (wants_of_some cs)

  -- no setup is asked for, since its wants are shown apart
  truly : (size : Name → Message → ℕ) → Keeps size (λ x. ⊥) (AreStood cs b.topology.asn 5) (λ s m. FairMap (stood cs b.topology.asn 5) (s.near.name, s.near.role) (s.far.name, s.far.role) m)
  truly size = fair_keeps (stood cs b.topology.asn 5) size (λ x. ⊥) (λ x ss n no_setup f. absurd no_setup)

  pub turned_stays : (r : ℕ) (s : Session) → StaysTo b ds written r s → StaysTo b ds written r (turned s)
  turned_stays r s h = λ l. stays_turned (Says b ds written r) (nodes s) s (h (swap (lasts b ds written s.far.name) (lasts b ds written s.near.name) l))

  pub cleared : (r : ℕ) (s : Session) → StaysTo b ds written r s → StaysTo b ds written r (without_breaks s)
  cleared r s h = λ l.
      let f = h l in
      record { whole = f.whole; near_up = f.near_up; far_up = f.far_up; near_notice = f.near_notice; far_notice = f.far_notice; near_breaks = refl; far_breaks = refl; near_held = f.near_held; far_held = f.far_held; near_flight = f.near_flight; far_flight = f.far_flight }

  pub up_is_off : (r : ℕ) (s : Session) → StaysTo b ds written r s → may_connect s ≡ true → lasts_of (nodes s) ≡ false
  up_is_off r s h may = by (lasts_of (nodes s)) refl
    where
      by : (c : Bool) → lasts_of (nodes s) ≡ c → c ≡ false
      by false e = refl
      by true e = absurd (true≢false (sym (and_parts s.is_down (not s.near.notice && not s.far.notice) may).0 ∙ (h e).whole))

  pub opened_off : (r : ℕ) (s : Session) → lasts_of (nodes s) ≡ false → StaysTo b ds written r (opened s)
  opened_off r s off = λ l. absurd (true≢false (sym l ∙ ap lasts_of (opened_nodes s) ∙ off))

  each_both : (F G : Session → Type 0) (ss : List Session) → Each F ss → Each G ss → Each (λ s. F s × G s) ss
  each_both F G [] f g = tt
  each_both F G (s ∷ ss) f g = ((f.0, g.0), each_both F G ss f.1 g.1)

  -- all ranks
  all_ranks : (F : ℕ → Session → Type 0) (ss : List Session) → ((r : ℕ) → Each (F r) ss) → Each (λ s. (r : ℕ) → F r s) ss
  all_ranks F [] h = tt
  all_ranks F (s ∷ ss) h = ((λ r. (h r).0), all_ranks F ss (λ r. (h r).1))

  abbrev Wants : Setup → List Session → Name → ℕ → Session → Type 0
  Wants x ss n r s = lasting b ds written s ≡ true → HasKeys (Says b ds written r) (s.near.name, s.near.role) (s.far.name, s.far.role) (wanted x (views_of n ss) (view s))

  each_any : (F : Session → Type 0) (ss : List Session) → ((s : Session) → F s) → Each F ss
  each_any F [] h = tt
  each_any F (s ∷ ss) h = (h s, each_any F ss h)

  wants_to : (r : ℕ) (x : Setup) (ss : List Session) (n : Name) → Here b ds written x (map nodes ss) → Each IsKept ss → Each (Wants x ss n r) (sessions_of n ss)
  wants_to zero x ss n h e = each_any (Wants x ss n 0) (sessions_of n ss) (λ s l k says. absurd (says_none b ds written s.near.role s.far.role s.near.name s.far.name k says))
  wants_to (suc r) x ss n h e =
      keys_wanted b ds written r x ss h (holds_kept r ss e) (some_kept r ss e) (stood_kept r ss e) n

  -- what holds up to a kind of key holds up to each lesser one
  weaker_map : (j : ℕ) (from to : Name × Role) (m : Map) → FairMap (stood cs b.topology.asn (suc j)) from to m → FairMap (stood cs b.topology.asn j) from to m
  weaker_map j from to m f k v e = λ h. f k v e (le_suc (kind cs k) j h)
    where
      le_suc : (a j : ℕ) → a ≤ j → a ≤ suc j
      le_suc a j h = omega (arith, h)

  weaker_each : (x : Setup) (vs own : List Session) → Each (λ s. FairMap (stood cs b.topology.asn 6) (s.near.name, s.near.role) (s.far.name, s.far.role) (wanted x (views vs) (view s))) own → Each (λ s. FairMap (stood cs b.topology.asn 5) (s.near.name, s.near.role) (s.far.name, s.far.role) (wanted x (views vs) (view s))) own
  weaker_each x vs [] f = tt
  weaker_each x vs (s ∷ own) f = (weaker_map 5 (s.near.name, s.near.role) (s.far.name, s.far.role) (wanted x (views vs) (view s)) f.0, weaker_each x vs own f.1)

  wants : (size : Name → Message → ℕ) (x : Setup) (ss : List Session) (n : Name) → Here b ds written x (map nodes ss) → Each IsKept ss → Each (λ s. Tells s (wanted x (views_of n ss) (view s))) (sessions_of n ss)
  wants size x ss n h e =
      let some = each_weaker IsKept (AreOfSome cs) (λ s f. f.1.0) ss e in
      each_both (λ s. (r : ℕ) → Wants x ss n r s) (λ s. FairMap (of_some cs) (s.near.name, s.near.role) (s.far.name, s.far.role) (wanted x (views_of n ss) (view s)) × FairMap (stood cs b.topology.asn 5) (s.near.name, s.near.role) (s.far.name, s.far.role) (wanted x (views_of n ss) (view s))) (sessions_of n ss)
      (all_ranks (Wants x ss n) (sessions_of n ss) (λ r. wants_to r x ss n h e))
      (each_both (λ s. FairMap (of_some cs) (s.near.name, s.near.role) (s.far.name, s.far.role) (wanted x (views_of n ss) (view s))) (λ s. FairMap (stood cs b.topology.asn 5) (s.near.name, s.near.role) (s.far.name, s.far.role) (wanted x (views_of n ss) (view s))) (sessions_of n ss)
      (wants_of_some cs x ss n h.among some)
      (weaker_each x (sessions_of n ss) (sessions_of n ss) (wants_stood b ds written b.topology.asn 5 x ss h h.asn (some_kept 5 ss e) (stood_kept 5 ss e) n)))

  pub keeps : (size : Name → Message → ℕ) → KeepsInWindow size (lasts b ds written) (Here b ds written) (IsAsked b ds written) IsKept Tells
  keeps size = record {
    both = λ s f. ((λ r. turned_stays r s (f.0 r)), ((fairly size).both s f.1.0, (truly size).both s f.1.1));
    begins = λ x c n off. (
      (λ r l. absurd (true≢false (sym l ∙ none_of_both (lasts b ds written n.name) (lasts b ds written c.name) off))),
      (
        record { near_held = empty_values key_cmp (of_some cs (n.name, Agent) (c.name, Controller)); far_held = empty_values key_cmp (of_some cs (c.name, Controller) (n.name, Agent)); near_flight = tt; far_flight = tt },
        record { near_held = empty_values key_cmp (stood cs b.topology.asn 5 (n.name, Agent) (c.name, Controller)); far_held = empty_values key_cmp (stood cs b.topology.asn 5 (c.name, Controller) (n.name, Agent)); near_flight = tt; far_flight = tt },
      ),
    );
    arrives = λ s f. ((λ r. kept_where r s (arrived s) (arrived_nodes s) (stays_arrived (Says b ds written r) (nodes s) s) (f.0 r)), ((fairly size).arrives s f.1.0, (truly size).arrives s f.1.1));
    octets = λ n s f. ((λ r. kept_where r s (octets_arrived size n s) (octets_nodes size n s) (stays_octets_arrived (Says b ds written r) size (nodes s) n s) (f.0 r)), ((fairly size).octets n s f.1.0, (truly size).octets n s f.1.1));
    passes = λ m s h f. ((λ r. λ l. kept_where r s (passed m s) (passed_nodes m s) (stays_passed (Says b ds written r) (nodes s) m s (h.0 r (sym (ap lasts_of (passed_nodes m s)) ∙ l))) (f.0 r) l), ((fairly size).passes m s h.1.0 f.1.0, (truly size).passes m s h.1.1 f.1.1));
    off = λ s f may. up_is_off 0 s (f.0 0) may;
    opens = λ s off f. ((λ r. opened_off r s off), ((fairly size).opens s f.1.0, (truly size).opens s f.1.1));
    clears = λ s f. ((λ r. cleared r s (f.0 r)), ((fairly size).breaks [] [] s f.1.0, (truly size).breaks [] [] s f.1.1));
    wants = λ x ss n h e. wants size x ss n h e;
    here = λ w d y h is ok. here_edited b ds written w d y h is ok;
    moves_off = λ w d y h is ok m e n now. moves_off b ds written w d y h is ok m e n now;
  }

  -- ---- where the window begins
  pub record IsQuiet (s : Session) : Type 0 where
    pub whole : s.is_down ≡ false
    pub near_breaks : s.near.breaks ≡ []
    pub far_breaks : s.far.breaks ≡ []
    pub still : IsStill s

  whole_of : (size : List ℕ → Message → ℕ) (s : Session) → Fact size s → IsStill s → s.is_down ≡ false
  whole_of size s (inl j) q = j.whole
  whole_of size s (inr d) q = absurd (true≢false (ap (λ (p : Phase). not (is_idle p)) (sym q.near_up) ∙ sym d.near.notice ∙ q.near_notice))

  empty_is : (ns : List ℕ) → is_empty ns ≡ true → ns ≡ []
  empty_is [] e = refl
  empty_is (n ∷ ns) e = absurd (true≢false (sym e))

  pub all_quiet : (size : List ℕ → Message → ℕ) (ss : List Session) → Each (Fact size) ss → Each IsStill ss → list_all has_no_break ss ≡ true → Each IsQuiet ss
  all_quiet size [] f q e = tt
  all_quiet size (s ∷ ss) f q e =
      let p = and_parts (has_no_break s) (list_all has_no_break ss) e in
      let n = and_parts (is_empty s.near.breaks) (is_empty s.far.breaks) p.0 in
      (record { whole = whole_of size s f.0 q.0; near_breaks = empty_is s.near.breaks n.0; far_breaks = empty_is s.far.breaks n.1; still = q.0 }, all_quiet size ss f.1 q.1 p.1)

  begun : (r : ℕ) (s : Session) → IsQuiet s → (lasting b ds written s ≡ true → HasKeys (Says b ds written r) (s.far.name, s.far.role) (s.near.name, s.near.role) s.near.held) → (lasting b ds written s ≡ true → HasKeys (Says b ds written r) (s.near.name, s.near.role) (s.far.name, s.far.role) s.far.held) → StaysTo b ds written r s
  begun r s q near far = λ l. record {
    whole = q.whole;
    near_up = q.still.near_up;
    far_up = q.still.far_up;
    near_notice = q.still.near_notice;
    far_notice = q.still.far_notice;
    near_breaks = q.near_breaks;
    far_breaks = q.far_breaks;
    near_held = near l;
    far_held = far l;
    near_flight = subst (AreKept (Says b ds written r) (s.near.name, s.near.role) (s.far.name, s.far.role)) (sym q.still.near) tt;
    far_flight = subst (AreKept (Says b ds written r) (s.far.name, s.far.role) (s.near.name, s.near.role)) (sym q.still.far) tt;
  }

  module _ (w : MachineState) (apart : NoTwins (map nodes w.sessions)) (rest : IsAtRest w) (here : Here b ds written w.setup (map nodes w.sessions)) (quiet : Each IsQuiet w.sessions) (some : Each (AreOfSome cs) w.sessions) where
    -- by induction on the kind of keys all that is told stood
    abbrev FarStood : ℕ → Session → Type 0
    FarStood j s = FairMap (stood cs b.topology.asn j) (s.near.name, s.near.role) (s.far.name, s.far.role) s.far.held

    far_stood : (j : ℕ) (vs own : List Session) → Each (IsAtRestWith w.setup (views vs)) own → Each (λ s. FairMap (stood cs b.topology.asn j) (s.near.name, s.near.role) (s.far.name, s.far.role) (wanted w.setup (views vs) (view s))) own → Each (FarStood j) own
    far_stood j vs [] a h = tt
    far_stood j vs (s ∷ own) a h = (subst (FairMap (stood cs b.topology.asn j) (s.near.name, s.near.role) (s.far.name, s.far.role)) (sym (a.0.held ∙ a.0.wanted)) h.0, far_stood j vs own a.1 h.1)

    none_stood : (from to : Name × Role) (m : Map) → FairMap (stood cs b.topology.asn 0) from to m
    none_stood from to m k v e = λ h. absurd (no_kind k h)
      where
        no_kind : (k : Key) → kind cs k ≤ 0 → ⊥
        no_kind (Low k) h = omega (arith, h)
        no_kind (Publish i p) h = omega (arith, h)
        no_kind (Vpn k) h = omega (arith, h)
        no_kind (Row i p) h = omega (arith, h)
        no_kind (Subscribe i) h = omega (arith, h)

    stood_begun : (j : ℕ) (s : Session) → IsQuiet s → FairMap (stood cs b.topology.asn j) (s.far.name, s.far.role) (s.near.name, s.near.role) s.near.held → FairMap (stood cs b.topology.asn j) (s.near.name, s.near.role) (s.far.name, s.far.role) s.far.held → AreStood cs b.topology.asn j s
    stood_begun j s q near far = record {
      near_held = near;
      far_held = far;
      near_flight = subst (FairMessages (stood cs b.topology.asn j) (s.near.name, s.near.role) (s.far.name, s.far.role)) (sym q.still.near) tt;
      far_flight = subst (FairMessages (stood cs b.topology.asn j) (s.far.name, s.far.role) (s.near.name, s.near.role)) (sym q.still.far) tt;
    }

    pub begins_stood : (j : ℕ) → Each (AreStood cs b.topology.asn j) w.sessions
    begins_stood zero =
        each_weaker IsQuiet (AreStood cs b.topology.asn 0)
        (λ s q. stood_begun 0 s q (none_stood (s.far.name, s.far.role) (s.near.name, s.near.role) s.near.held) (none_stood (s.near.name, s.near.role) (s.far.name, s.far.role) s.far.held)) w.sessions quiet
    begins_stood (suc j) =
        each_weaker (λ s. IsQuiet s × (FarStood (suc j) s × FarStood (suc j) (turned s))) (AreStood cs b.topology.asn (suc j))
        (λ s q. stood_begun (suc j) s q.0 q.1.1 q.1.0) w.sessions
        (each_and IsQuiet (λ s. FarStood (suc j) s × FarStood (suc j) (turned s)) w.sessions quiet
        (own_to_all (FarStood (suc j)) w.sessions apart (λ n. far_stood (suc j) (sessions_of n w.sessions) (sessions_of n w.sessions) (rest n) (wants_stood b ds written b.topology.asn j w.setup w.sessions here here.asn (each_weaker (AreOfSome cs) (AreSomeTo cs j) (λ s f. some_weaker cs j s f) w.sessions some) (each_weaker (AreStood cs b.topology.asn j) (HoldStood cs b.topology.asn j) (λ s f. stood_held cs b.topology.asn j s f) w.sessions (begins_stood j)) n))))

    abbrev FarHas : ℕ → Session → Type 0
    FarHas r s = lasting b ds written s ≡ true → HasKeys (Says b ds written r) (s.near.name, s.near.role) (s.far.name, s.far.role) s.far.held

    far_has : (r : ℕ) (vs own : List Session) → Each (IsAtRestWith w.setup (views vs)) own → Each (λ s. lasting b ds written s ≡ true → HasKeys (Says b ds written r) (s.near.name, s.near.role) (s.far.name, s.far.role) (wanted w.setup (views vs) (view s))) own → Each (FarHas r) own
    far_has r vs [] a h = tt
    far_has r vs (s ∷ own) a h = ((λ l k says. ap (λ (m : Map). is_some (get m k)) (a.0.held ∙ a.0.wanted) ∙ h.0 l k says), far_has r vs own a.1 h.1)

    turned_far : (r : ℕ) (s : Session) → FarHas r (turned s) → lasting b ds written s ≡ true → HasKeys (Says b ds written r) (s.far.name, s.far.role) (s.near.name, s.near.role) s.near.held
    turned_far r s h l = h (swap (lasts b ds written s.near.name) (lasts b ds written s.far.name) l)

    -- by induction on the rank
    pub begins_to : (r : ℕ) → Each (StaysTo b ds written r) w.sessions
    begins_to zero =
        each_weaker IsQuiet (StaysTo b ds written 0)
        (λ s q. begun 0 s q (λ l k says. absurd (says_none b ds written s.far.role s.near.role s.far.name s.near.name k says)) (λ l k says. absurd (says_none b ds written s.near.role s.far.role s.near.name s.far.name k says)))
        w.sessions quiet
    begins_to (suc r) =
        each_weaker (λ s. IsQuiet s × (FarHas (suc r) s × FarHas (suc r) (turned s))) (StaysTo b ds written (suc r))
        (λ s q. begun (suc r) s q.0 (turned_far (suc r) s q.1.1) q.1.0) w.sessions
        (each_and IsQuiet (λ s. FarHas (suc r) s × FarHas (suc r) (turned s)) w.sessions quiet
        (own_to_all (FarHas (suc r)) w.sessions apart (λ n. far_has (suc r) (sessions_of n w.sessions) (sessions_of n w.sessions) (rest n) (keys_wanted b ds written r w.setup w.sessions here (each_weaker (StaysTo b ds written r) (HoldsTo b ds written r) (λ s f. holds_of b ds written r s f) w.sessions (begins_to r)) (each_weaker (AreOfSome cs) (AreSomeTo cs r) (λ s f. some_weaker cs r s f) w.sessions some) (each_weaker (AreStood cs b.topology.asn 5) (HoldStood cs b.topology.asn r) (λ s f. stood_weaker cs b.topology.asn r s f) w.sessions (begins_stood 5)) n))))

    pub begins_kept : Each IsKept w.sessions
    begins_kept = each_both StaysToAll (λ s. AreOfSome cs s × AreStood cs b.topology.asn 5 s) w.sessions (all_ranks (StaysTo b ds written) w.sessions begins_to) (each_both (AreOfSome cs) (AreStood cs b.topology.asn 5) w.sessions some (begins_stood 5))
