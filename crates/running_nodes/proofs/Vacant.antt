-- A control node at which some sessions are nobody's: what it wants, what it shows and what an input makes of its ends do
-- not depend on the agents that went.
use Rattle.std.proofs.Common.{◌≡◌, ◌≢◌, ◌<◌, ◌≤◌, ◌+◌, ◌-◌, ◌==◌, ◌⊎◌, ℕ, zero, suc, Bool, true, false, if◌then◌else◌, nat_lt, nat_le, ◌||◌, ◌&&◌, IfSome, Option, Some, None, List, [], ◌∷◌, ◌++◌, length, map, drop, get_or, sym, ◌∙◌, ap, refl, subst, arith, length-append, eq-eqb, ne_eqb, lt-ltb, le-leb}
use Rattle.std.proofs.Common.{inl, inr}
use Rattle.std.proofs.lemmas.List.{get_or-append-add, get_or-set_other, length-map}
use Rattle.std.proofs.lemmas.List.FromFn.{length-enumerate_from}
use Rattle.std.specs.FinMap.{empty}
use Rattle.std.specs.List.{cons_option, enumerate_from, filter_map, list_any}
use Rattle.std.specs.Option.{option_map, unwrap_or}
use Rattle.item_wire.specs.Happenings.{SessionFields}
use Rattle.item_wire.specs.declared.event.ItemCause.{ItemCause}
use Rattle.item_wire.specs.declared.event.ItemFrom.TheVariants as From
use Rattle.ov_link.specs.Delivery.{Delivers}
use Rattle.ov_link.specs.FailingState.{FailingState}
use Rattle.ov_link.specs.declared.step.Input.{Input}
use Rattle.ov_types.specs.declared.rows.NodeId.{NodeId}
use Rattle.node_core.specs.Beginning as item
use Rattle.node_model.specs.Maps.{Map, difference}
use Rattle.node_model.specs.Paths.{Told}
use Rattle.node_model.specs.Step.{Beginning, NodeKind, Post, Steps, begun, changes, nothing, planned, post, replies, told_all}
use Rattle.node_model.specs.Wants.{wanted_by_agent, wanted_by_peers}
use Rattle.running_nodes.specs.ControlWants.Held.{told_in}
use Rattle.running_nodes.specs.ControlNode.Agents.{AreRetired, Ascend, is_retired}
use Rattle.running_nodes.specs.ControlNode.Beginning.{BeginsKeeping, KeepsBy, agent_at, config, item_session, item_state, no_node}
use Rattle.running_nodes.specs.ControlNode.Core as core
use Rattle.running_nodes.specs.ControlNode.Wanting as wanting
use Rattle.running_nodes.specs.ControlNode.NodeCause.{NodeCause}
use Rattle.running_nodes.specs.ControlNode.NodeCause.TheVariants as Cause
use Rattle.running_nodes.specs.ControlNode.ControlPlan.{ControlPlan}
use Rattle.running_nodes.specs.MachineModel.Setup.{Name}
use Rattle.running_nodes.specs.MachineModel.Network.{config as named_config}
use Rattle.node_laws.specs.Quiet.{IsWithout, SameButQuiet}
use Rattle.node_laws.proofs.Quiet.{quiet_by_agent, quiet_by_peers}
use Rattle.running_nodes.specs.Controls as controls
use Rattle.running_nodes.specs.Controls.{agents_at, controls_of, plan_of, told_at}
use Rattle.running_nodes.specs.Seats.{Controlling, name_there, names_of, others_of}

next : (n : ℕ) → n + 1 ≡ suc n
next n = omega arith

order : (m n : ℕ) → (m < n) ⊎ (n ≤ m)
order m n = search arith

alike : (m n : ℕ) → (m ≡ n) ⊎ (m ≢ n)
alike m n = search arith

-- ---- the agents that a control node has
abbrev pub there : (ℕ → Bool) → ℕ × NodeId → Option NodeId
there gone e = if gone e.0 then None else Some e.1

abbrev pub those : (ℕ → Bool) → ℕ → List NodeId → List (Option NodeId)
those gone s agents = map (there gone) (enumerate_from s agents)

-- ---- what it holds
abbrev told_there : List Post → ℕ × Option NodeId → Option Told
told_there posts e = told_at posts e.0 e.1

told_next : (s : ℕ) (a : NodeId) (agents : List NodeId) (k : ℕ) (posts : List Post)
    → core.told_from s (a ∷ agents) (drop k posts)
    ≡ record { session = s; address = a.address; map = (post posts k).held } ∷ core.told_from (suc s) agents (drop (suc k) posts)
told_next s a agents zero [] = refl
told_next s a agents (suc k) [] = refl
told_next s a agents zero (p ∷ posts) = refl
told_next s a agents (suc k) (p ∷ posts) = told_next s a agents k posts

module _ (gone : ℕ → Bool) (posts : List Post) where
  abbrev held_of : ℕ → List NodeId → List Told
  held_of s agents = filter_map (told_there posts) (enumerate_from s (those gone s agents))

  quiet_one : (s : ℕ) (a : NodeId) (ts us : List Told) (b : Bool) → (b ≡ true → post posts s ≡ nothing) → IsWithout ts us
      → IsWithout (record { session = s; address = a.address; map = (post posts s).held } ∷ ts)
      (cons_option (told_at posts s (if b then None else Some a)) us)
  quiet_one s a ts us true none rest = inl (ap (λ (p : Post). p.held) (none refl), rest)
  quiet_one s a ts us false none rest = inr (us, refl, rest)

  quiet : ((i : ℕ) → gone i ≡ true → post posts i ≡ nothing) → (s : ℕ) (agents : List NodeId)
      → IsWithout (core.told_from s agents (drop s posts)) (held_of s agents)
  quiet none s [] = refl
  quiet none s (a ∷ agents) =
      let rest : IsWithout (core.told_from (suc s) agents (drop (suc s) posts)) (held_of (suc s) agents) = quiet none (suc s) agents in
      let here : IsWithout (core.told_from (suc s) agents (drop (suc s) posts)) (held_of (s + 1) agents) =
      subst (λ (n : ℕ). IsWithout (core.told_from (suc s) agents (drop (suc s) posts)) (held_of n agents)) (sym (next s)) rest in
      subst (λ (ts : List Told). IsWithout ts (held_of s (a ∷ agents))) (sym (told_next s a agents s posts))
      (quiet_one s a (core.told_from (suc s) agents (drop (suc s) posts)) (held_of (s + 1) agents) (gone s) (none s) here)

  found_one : (s i : ℕ) (a : NodeId) (ts us : List Told) (b x : Bool) → (b ≡ true → x ≡ false) → (s == i) ≡ x
      → told_in ts i ≡ told_in us i
      → told_in (record { session = s; address = a.address; map = (post posts s).held } ∷ ts) i
      ≡ told_in (cons_option (told_at posts s (if b then None else Some a)) us) i
  found_one s i a ts us b x apart is rest =
      let t : Told = record { session = s; address = a.address; map = (post posts s).held } in
      elim b as (λ b. (b ≡ true → x ≡ false) → told_in (t ∷ ts) i ≡ told_in (cons_option (told_at posts s (if b then None else Some a)) us) i) [
        | true ↦ λ apart. ap (λ (y : Bool). if y then t else told_in ts i) (is ∙ apart refl) ∙ rest
        | false ↦ λ apart. ap (λ (m : Told). if s == i then t else m) rest
      ] apart

  -- the agent of a session that is somebody's
  found : (i : ℕ) → gone i ≡ false → (s : ℕ) (agents : List NodeId)
      → told_in (core.told_from s agents (drop s posts)) i ≡ told_in (held_of s agents) i
  found i stays s [] = refl
  found i stays s (a ∷ agents) =
      let rest : told_in (core.told_from (suc s) agents (drop (suc s) posts)) i ≡ told_in (held_of (s + 1) agents) i =
      found i stays (suc s) agents ∙ ap (λ (n : ℕ). told_in (held_of n agents) i) (sym (next s)) in
      let apart : gone s ≡ true → (s == i) ≡ false = λ h. ne_eqb s i (λ same. let both : true ≡ false = sym h ∙ (ap gone same ∙ stays) in cc) in
      ap (λ (ts : List Told). told_in ts i) (told_next s a agents s posts)
      ∙ found_one s i a (core.told_from (suc s) agents (drop (suc s) posts)) (held_of (s + 1) agents) (gone s) (s == i) apart refl rest

module _ (plan : ControlPlan) (posts : List Post) (none : (i : ℕ) → is_retired plan i ≡ true → post posts i ≡ nothing) where
  pub same_but_quiet : SameButQuiet (core.holdings plan posts) (controls.holdings (controls_of plan) posts)
  same_but_quiet = record {
    asn = refl;
    feed = refl;
    peers = refl;
    agents = quiet (is_retired plan) posts none (1 + length plan.peers) plan.agents;
  }

  -- ---- what it wants
  pub wanted_alike : (i : ℕ) → is_retired plan i ≡ false
      → wanting.wanted plan posts i ≡ controls.wanted (controls_of plan) posts i
  wanted_alike i stays =
      let h = core.holdings plan posts in
      let k = controls.holdings (controls_of plan) posts in
      let peers : wanted_by_peers h ≡ wanted_by_peers k = quiet_by_peers h k same_but_quiet in
      let agent : wanted_by_agent h (told_in h.agents i) ≡ wanted_by_agent k (told_in k.agents i) =
      quiet_by_agent h k same_but_quiet (told_in h.agents i)
      ∙ ap (λ (t : Told). wanted_by_agent k t) (found (is_retired plan) posts i stays (1 + length plan.peers) plan.agents) in
      λ j. if i == 0 then empty else if core.is_peer plan i then peers j else agent j

  silent : (i : ℕ) (p : Post) (w : Map) → p ≡ nothing
      → (if wanting.may_send plan i p.phase then map (wanting.spelled plan i) (difference p.sent w) else []) ≡ []
  silent i p w is =
      ap (λ (q : Post). if wanting.may_send plan i q.phase then map (wanting.spelled plan i) (difference q.sent w) else []) is
      ∙ ap (λ (b : Bool). if b then map (wanting.spelled plan i) (difference empty w) else []) (wanting.idle_is_silent plan i)

  pub changes_alike : (i : ℕ) → changes (wanting.kind plan) posts i ≡ changes (controls.kind (controls_of plan)) posts i
  changes_alike i = by_test (is_retired plan i) refl
    where
      by_test : (b : Bool) → is_retired plan i ≡ b
          → changes (wanting.kind plan) posts i ≡ changes (controls.kind (controls_of plan)) posts i
      by_test true gone =
          silent i (post posts i) (wanting.wanted plan posts i) (none i gone)
          ∙ sym (silent i (post posts i) (controls.wanted (controls_of plan) posts i) (none i gone))
      by_test false stays =
          ap (λ (w : Map). if wanting.may_send plan i (post posts i).phase then map (wanting.spelled plan i) (difference (post posts i).sent w) else [])
          (wanted_alike i stays)

  resting : (i : ℕ) (p : Post) (w : Map) → p ≡ nothing
      → (if wanting.may_send plan i p.phase then record p { sent = w } else p) ≡ nothing
  resting i p w is =
      ap (λ (q : Post). if wanting.may_send plan i q.phase then record q { sent = w } else q) is
      ∙ ap (λ (b : Bool). if b then record nothing { sent = w } else nothing) (wanting.idle_is_silent plan i)

  pub end_alike : (i : ℕ) → told_all (wanting.kind plan) posts i ≡ told_all (controls.kind (controls_of plan)) posts i
  end_alike i = by_test (is_retired plan i) refl
    where
      by_test : (b : Bool) → is_retired plan i ≡ b
          → told_all (wanting.kind plan) posts i ≡ told_all (controls.kind (controls_of plan)) posts i
      by_test true gone =
          resting i (post posts i) (wanting.wanted plan posts i) (none i gone)
          ∙ sym (resting i (post posts i) (controls.wanted (controls_of plan) posts i) (none i gone))
      by_test false stays =
          ap (λ (w : Map). if wanting.may_send plan i (post posts i).phase then record (post posts i) { sent = w } else post posts i)
          (wanted_alike i stays)

  -- where nobody is, nothing is told
  pub end_resting : (i : ℕ) → is_retired plan i ≡ true → told_all (wanting.kind plan) posts i ≡ nothing
  end_resting i gone = resting i (post posts i) (wanting.wanted plan posts i) (none i gone)

-- ---- steps in which the same is to be told
abbrev pub TakenBy : NodeKind → List Post → List Post → ℕ → Beginning → List FailingState → List FailingState → Option ℕ → Type 0
TakenBy k posts posts' session given links links' lowest =
    Steps k (λ (l : FailingState). Some l.accepted) (λ (l : FailingState). Some l.breaks) (λ (l : FailingState). l.faults)
    posts posts' session given links links' lowest

abbrev DeliversAll : List (List ℕ) → Bool → FailingState → FailingState → Type 0
DeliversAll plan failed link link' =
    Delivers (λ (l : FailingState). Some l.accepted) (λ (l : FailingState). Some l.breaks) (λ (l : FailingState). l.faults) plan failed link link'

module _ (k k' : NodeKind) (posts qs posts' : List Post) (session first : ℕ) (given given' : Beginning) (links links' : List FailingState)
    (lowest : Option ℕ) (long : length qs ≡ length posts) (turned : Bool → Bool)
    (same_plan : (fails : Bool) (i : ℕ) → planned k posts session given fails i ≡ planned k' qs first given' (turned fails) i)
    (same_end : (fails : Bool) (i : ℕ)
    → told_all k (begun posts session given fails) i ≡ told_all k' (begun qs first given' (turned fails)) i)
    (same_reply : (fails : Bool) (i count : ℕ)
    → (i ≡ session → fails ≡ nat_lt count (length (replies session given i)))
    → i ≡ first → turned fails ≡ nat_lt count (length (replies first given' i))) where
  pub steps_alike : TakenBy k posts posts' session given links links' lowest → TakenBy k' qs posts' first given' links links' lowest
  steps_alike s = record {
    fails = turned s.fails;
    each = λ i lt.
        let was = s.each i (omega (arith, long, lt)) in
        let told : (d : DeliversAll (planned k' qs first given' (turned s.fails) i) was.failed was.link was.link')
        × (i ≡ session → s.fails ≡ nat_lt d.count (length (replies session given i))) =
        subst (λ (plan : List (List ℕ)). (d : DeliversAll plan was.failed was.link was.link')
        × (i ≡ session → s.fails ≡ nat_lt d.count (length (replies session given i))))
        (same_plan s.fails i) (was.delivers, was.reply) in
        record {
          link = was.link;
          link' = was.link';
          failed = was.failed;
          link_at = was.link_at;
          link'_at = was.link'_at;
          delivers = told.0;
          reply = same_reply s.fails i told.0.count told.1;
          end = was.end ∙ ap (λ (p : Post). if was.failed then nothing else p) (same_end s.fails i);
          named = was.named;
          unnamed = was.unnamed;
        };
    low = subst (λ (n : ℕ). IfSome lowest (λ l. l < n)) (sym long) s.low;
    long = s.long ∙ sym long;
  }

-- ---- a step of the control node itself
module _ (plan : ControlPlan) (posts posts' : List Post) (none : (i : ℕ) → is_retired plan i ≡ true → post posts i ≡ nothing)
    (session : ℕ) (stays : is_retired plan session ≡ false) (given : Beginning) (links links' : List FailingState) (lowest : Option ℕ) where
  none_begun : (fails : Bool) (i : ℕ) → is_retired plan i ≡ true → post (begun posts session given fails) i ≡ nothing
  none_begun fails i gone =
      get_or-set_other posts session i _ nothing (λ same. let both : true ≡ false = sym gone ∙ (ap (is_retired plan) same ∙ stays) in cc)
      ∙ none i gone

  pub node_steps : TakenBy (wanting.kind plan) posts posts' session given links links' lowest
      → TakenBy (controls.kind (controls_of plan)) posts posts' session given links links' lowest
  node_steps s =
      steps_alike (wanting.kind plan) (controls.kind (controls_of plan)) posts posts posts' session session given given links links' lowest
      refl (λ b. b)
      (λ fails i. ap (λ (cs : List (List ℕ)). replies session given i ++ cs) (changes_alike plan (begun posts session given fails) (none_begun fails) i))
      (λ fails i. end_alike plan (begun posts session given fails) (none_begun fails) i)
      (λ fails i count h. h) s

  if_either : (b : Bool) (p : Post) → p ≡ nothing → (if b then nothing else p) ≡ nothing
  if_either true p is = refl
  if_either false p is = is

  -- where nobody is, there is nothing after it
  pub none_after : TakenBy (wanting.kind plan) posts posts' session given links links' lowest
      → (i : ℕ) → is_retired plan i ≡ true → post posts' i ≡ nothing
  none_after s i gone = elim (order i (length posts)) [
    | inl lt ↦ (
        let was = s.each i lt in
        was.end ∙ if_either was.failed (told_all (wanting.kind plan) (begun posts session given s.fails) i)
        (end_resting plan (begun posts session given s.fails) (none_begun s.fails) i gone))
    | inr past ↦ (let long = s.long in beyond posts' i (omega (arith, long, past)))
  ]
    where
      beyond : (ps : List Post) (i : ℕ) → length ps ≤ i → post ps i ≡ nothing
      beyond [] i h = refl
      beyond (p ∷ ps) zero h = absurd (omega arith)
      beyond (p ∷ ps) (suc i) h = beyond ps i (omega arith)

-- ---- a node with nothing
pub none_fresh : (n i : ℕ) → post (core.nothings n) i ≡ nothing
none_fresh zero i = refl
none_fresh (suc n) zero = refl
none_fresh (suc n) (suc i) = none_fresh n i

-- ---- who is at the other ends
pub there_named : (gone : ℕ → Bool) (s : ℕ) (agents : List NodeId)
    → length (map name_there (those gone s agents)) ≡ length agents
there_named gone s agents =
    length-map (those gone s agents) name_there
    ∙ (length-map (enumerate_from s agents) (there gone) ∙ length-enumerate_from s agents)

pub peers_named : (nodes : List NodeId) → length (names_of nodes) ≡ length nodes
peers_named nodes = length-map nodes (λ (n : NodeId). Some n.name)

pub sessions_there : (plan : ControlPlan) → length (others_of (Controlling (controls_of plan))) ≡ core.sessions plan
sessions_there plan =
    let both = length-append (names_of plan.peers) (map name_there (agents_at plan)) in
    let peers = peers_named plan.peers in
    let agents = there_named (is_retired plan) (1 + length plan.peers) plan.agents in
    omega (arith, both, peers, agents)

low_of : (ns : List ℕ) (low high i : ℕ) → Ascend low high ns → list_any (λ n. n == i) ns ≡ true → low ≤ i
low_of [] low high i are has = absurd (let both : false ≡ true = has in cc)
low_of (n ∷ ns) low high i are has = elim (alike n i) [
  | inl same ↦ (let from = are.0 in omega (arith, from, same))
  | inr unlike ↦ (
      let rest : list_any (λ n. n == i) ns ≡ true = ap (λ (b : Bool). b || list_any (λ n. n == i) ns) (sym (ne_eqb n i unlike)) ∙ has in
      let from = are.0 in
      let above = low_of ns (suc n) high i are.1.1 rest in omega (arith, from, above))
]

gone_unnamed : (gone : ℕ → Bool) (s : ℕ) (agents : List NodeId) (j : ℕ) → gone (s + j) ≡ true
    → get_or (map name_there (those gone s agents)) j None ≡ None
gone_unnamed gone s [] j is = refl
gone_unnamed gone s (a ∷ agents) zero is =
    let here : gone s ≡ true = ap gone (let e : s ≡ s + 0 = omega arith in e) ∙ is in
    ap (λ (b : Bool). name_there (if b then None else Some a)) here
gone_unnamed gone s (a ∷ agents) (suc j) is =
    gone_unnamed gone (s + 1) agents j (ap gone (let e : (s + 1) + j ≡ s + suc j = omega arith in e) ∙ is)

-- a session that is somebody's is not retired
pub taken_stays : (plan : ControlPlan) → AreRetired plan → (i : ℕ) (b : Name)
    → get_or (others_of (Controlling (controls_of plan))) i None ≡ Some b → is_retired plan i ≡ false
taken_stays plan are i b is = by_test (is_retired plan i) refl
  where
    by_test : (x : Bool) → is_retired plan i ≡ x → is_retired plan i ≡ false
    by_test false stays = stays
    by_test true gone =
        let above = low_of plan.retired (1 + length plan.peers) (core.sessions plan) i are gone in
        let j : ℕ = i - (1 + length plan.peers) in
        let named = peers_named plan.peers in
        let far : i ≡ suc (length (names_of plan.peers) + j) = omega (arith, above, named) in
        let here : (1 + length plan.peers) + j ≡ i = omega (arith, above) in
        let none : get_or (others_of (Controlling (controls_of plan))) i None ≡ None =
        ap (λ (n : ℕ). get_or (others_of (Controlling (controls_of plan))) n None) far
        ∙ (get_or-append-add (names_of plan.peers) (map name_there (agents_at plan)) j None
        ∙ gone_unnamed (is_retired plan) (1 + length plan.peers) plan.agents j (ap (is_retired plan) here ∙ gone)) in
        absurd (let both : None ≡ Some b = sym none ∙ is in cc)

-- the feed's is somebody's
pub first_stays : (plan : ControlPlan) → AreRetired plan → is_retired plan 0 ≡ false
first_stays plan are = taken_stays plan are 0 named_config refl

-- where no session is retired, each agent is named
pub none_gone : (s : ℕ) (agents : List NodeId) → names_of agents ≡ map name_there (those (λ _. false) s agents)
none_gone s [] = refl
none_gone s (a ∷ agents) = ap (λ (names : List (Option Name)). Some a.name ∷ names) (none_gone (s + 1) agents)

pub control_names : (plan : ControlPlan) (name : Name) → name ≡ named_config → plan.retired ≡ []
    → Some name ∷ (names_of plan.peers ++ names_of plan.agents) ≡ others_of (Controlling (controls_of plan))
control_names plan name is none =
    ap (λ (n : Name). Some n ∷ (names_of plan.peers ++ names_of plan.agents)) is
    ∙ ap (λ (names : List (Option Name)). Some named_config ∷ (names_of plan.peers ++ names))
    (none_gone (1 + length plan.peers) plan.agents
    ∙ ap (λ (r : List ℕ). map name_there (those (λ i. list_any (λ n. n == i) r) (1 + length plan.peers) plan.agents)) (sym none))

-- those that an opening topology gives
pub all_there : (s : ℕ) (agents : List NodeId) → those (λ _. false) s agents ≡ map (λ (a : NodeId). Some a) agents
all_there s [] = refl
all_there s (a ∷ agents) = ap (λ (os : List (Option NodeId)). Some a ∷ os) (all_there (s + 1) agents)

-- ---- what an input makes of an end
stands_there : (gone : ℕ → Bool) (me : NodeId) (s : ℕ) (agents : List NodeId) (j : ℕ) → gone (s + j) ≡ false
    → get_or (map (λ (o : Option NodeId). unwrap_or o me) (those gone s agents)) j no_node ≡ get_or agents j no_node
stands_there gone me s [] j is = refl
stands_there gone me s (a ∷ agents) zero is =
    let here : gone s ≡ false = ap gone (let e : s ≡ s + 0 = omega arith in e) ∙ is in
    ap (λ (b : Bool). unwrap_or (if b then None else Some a) me) here
stands_there gone me s (a ∷ agents) (suc j) is =
    stands_there gone me (s + 1) agents j (ap gone (let e : (s + 1) + j ≡ s + suc j = omega arith in e) ∙ is)

module _ (plan : ControlPlan) (i : ℕ) (p : Post) (kept : List ℕ) (input : Input) (given : Beginning) (cause : Option NodeCause)
    (left : List ℕ) where
  abbrev same_plan : ControlPlan
  same_plan = plan_of (controls_of plan)

  by_session : (b : Bool) → item_session plan i p.phase ≡ item_session same_plan i p.phase
      → KeepsBy b plan i p kept input given cause left → KeepsBy b same_plan i p kept input given cause left
  by_session true same begins = begins
  by_session false same begins =
      subst (λ (s : SessionFields). (c : Option ItemCause) × (cause ≡ option_map Cause.Item c)
      × item.BeginsKeeping plan.me.name s p kept input given c left) same begins

  pub begins_alike : is_retired plan i ≡ false → BeginsKeeping plan i p kept input given cause left
      → BeginsKeeping same_plan i p kept input given cause left
  begins_alike stays begins = elim (alike i 0) [
    | inl first ↦ by_session (core.is_peer plan i)
        (ap (λ (b : Bool). if b then record { peer = config; from = From.Feed; state = item_state p.phase } else record { peer = (agent_at plan i).name; from = From.Agent; state = item_state p.phase }) (eq-eqb i 0 first)
        ∙ ap (λ (b : Bool). if b then record { peer = config; from = From.Feed; state = item_state p.phase } else record { peer = (agent_at same_plan i).name; from = From.Agent; state = item_state p.phase }) (sym (eq-eqb i 0 first)))
        begins
    | inr above ↦ elim (order (length plan.peers) i) [
      | inl past ↦ (
          let j : ℕ = i - (1 + length plan.peers) in
          let here : (1 + length plan.peers) + j ≡ i = omega (arith, past) in
          let same : agent_at same_plan i ≡ agent_at plan i =
          stands_there (is_retired plan) plan.me (1 + length plan.peers) plan.agents j (ap (is_retired plan) here ∙ stays) in
          by_session (core.is_peer plan i)
          (λ k. if i == 0 then record { peer = config; from = From.Feed; state = item_state p.phase } else record { peer = (sym same k).name; from = From.Agent; state = item_state p.phase })
          begins)
      | inr among ↦ (
          let some : 0 < i = omega (arith, above) in
          let peer : core.is_peer plan i ≡ true =
          ap (λ (b : Bool). b && nat_le i (length plan.peers)) (lt-ltb 0 i some) ∙ le-leb i (length plan.peers) among in
          subst (λ (b : Bool). KeepsBy b same_plan i p kept input given cause left) (sym peer)
          (subst (λ (b : Bool). KeepsBy b plan i p kept input given cause left) peer begins))
    ]
  ]
