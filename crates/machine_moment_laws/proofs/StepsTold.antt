-- With sessions down or not, every step but an edit keeps that control nodes have told agents the slices that they want.
use Rattle.std.specs.Prelude.{◌≡◌, ℕ, List, [], ◌∷◌, map, true, false, cond}
use Rattle.std.specs.List.{AllByRecursion}
use Rattle.std.proofs.lemmas.Bool.{true≢false, and_parts}
use Rattle.std.proofs.Common.{refl, sym, subst}
use Rattle.node_laws.specs.NodeModel.Maps.{Map}
use Rattle.machine_model.specs.Setup.{Name, Setup}
use Rattle.machine_model.specs.Session.{Configuration, Controller, Message, Session, turned, shut, lost, opened, arrived, octets_arrived}
use Rattle.machine_model.specs.Network.{MachineState, is_at, view}
use Rattle.machine_model.specs.Steps.{at_node, around, change_node, change_session, connect, is_broken, pass, with_session, without_breaks}
use Rattle.machine_model.specs.Events.{add_break, passes}
use Rattle.machine_model.specs.Moments.{Each, NodePair, nodes}
use Rattle.machine_model.proofs.NetworkFact.{KeepsNodes, at_node_nodes, each_map, nodes_keep, opened_nodes, with_session_keeps}
use Rattle.machine_model.proofs.NodesFact.{arrived_nodes, map_nodes, octets_nodes, pass_nodes, session_nodes, turned_nodes}
use Rattle.machine_model.proofs.ToldFact.{arrived_touches}
use Rattle.machine_model.proofs.ToldNext.{octets_touches}
use Rattle.machine_model.proofs.Twins.{each_weaker}
use Rattle.machine_model.proofs.Walk.{Steps}
use Rattle.machine_laws.proofs.EachFact.{pass_keeps}
use Rattle.machine_moment_laws.proofs.Acting.{AllLeaveOthers, GoesOn, LeavesOthers, leaves_refl, near_acts, none_acts, one_acts, mapped_leaves, others_told, session_leaves, turned_leaves}
use Rattle.machine_moment_laws.proofs.FeedsStay.{IsQuietFeed}
use Rattle.machine_moment_laws.proofs.PassTells.{AllSlicing, Slicing, SlicingBut, feed_in, pass_slices}
use Rattle.machine_moment_laws.proofs.Quiet.{AreQuiet, MayTellFeed, opened_leaves, quiet_keeps}
use Rattle.machine_moment_laws.proofs.Slices.{FarIsOther, mark}

-- ---- where feeds are, and that nothing was told on them towards the configuration node
abbrev pub FeedPlaced : NodePair → Type 0
FeedPlaced p = (p.1.1 ≡ Configuration → ⊥) × (p.0.1 ≡ Configuration → p.1.1 ≡ Controller)

pub record HasQuietFeeds (w : MachineState) : Type 0 where
  pub placed : AllByRecursion FeedPlaced (map nodes w.sessions)
  pub quiet : Each AreQuiet w.sessions

both_quiet : (s : Session) → AreQuiet s → AreQuiet (turned s)
both_quiet s q = (q.1, q.0)

pub others : (ss : List Session) → AllByRecursion FeedPlaced (map nodes ss) → AllByRecursion FarIsOther (map mark ss)
others [] p = tt
others (s ∷ ss) p = (p.0.0, others ss p.1)

quiet_feeds : (ss : List Session) → AllByRecursion FeedPlaced (map nodes ss) → Each AreQuiet ss → Each IsQuietFeed ss
quiet_feeds [] p q = tt
quiet_feeds (s ∷ ss) p q = ((λ role. let control = p.0.1 role in (control, q.0.1 control role)), quiet_feeds ss p.1 q.1)

-- with that, all slices are told
abbrev pub AreTold : MachineState → Type 0
AreTold w = HasQuietFeeds w × AllSlicing w

module _ (size : Name → Message → ℕ) where
  pass_quiet : (n : Name) (w : MachineState) → HasQuietFeeds w → HasQuietFeeds (pass n w)
  pass_quiet n w h = record {
    placed = subst (AllByRecursion FeedPlaced) (sym (pass_nodes n w)) h.placed;
    quiet = (pass_keeps size (λ _. Unit {0}) AreQuiet MayTellFeed (quiet_keeps size) n w (tt, h.quiet)).1;
  }

  session_quiet : (a b : Name) (f : Session → Session) → KeepsNodes f → ((s : Session) → AreQuiet s → AreQuiet (f s)) → (w : MachineState) → HasQuietFeeds w → HasQuietFeeds (change_session a b f w)
  session_quiet a b f kept keeps w h = record {
    placed = subst (AllByRecursion FeedPlaced) (sym (session_nodes a b f kept w.sessions)) h.placed;
    quiet = with_session_keeps AreQuiet both_quiet f keeps a b w.sessions h.quiet;
  }

  opens_quiet : (s : Session) → AreQuiet s → AreQuiet (opened s)
  opens_quiet = (quiet_keeps size).opens

  around_quiet : (s : Session) → AreQuiet s → AreQuiet (around opened s)
  around_quiet s q = both_quiet (opened (turned s)) (opens_quiet (turned s) (both_quiet s q))

  -- ---- a node acts, and makes its pass
  pass_told : (n : Name) (w : MachineState) → HasQuietFeeds w → Each (SlicingBut n w.setup (feed_in w.sessions)) w.sessions → AllSlicing (pass n w)
  pass_told n w h e = pass_slices n w (others w.sessions h.placed) (quiet_feeds w.sessions h.placed h.quiet) e

  acted : (n : Name) (w v : MachineState) → v.setup ≡ w.setup → HasQuietFeeds v → AllLeaveOthers (one_acts n) w.sessions v.sessions → AllSlicing w → AreTold (pass n v)
  acted n w v same h a e = (
    pass_quiet n v h,
    pass_told n v h (subst (λ (x : Setup). Each (SlicingBut n x (feed_in v.sessions)) v.sessions) (sym same) (others_told w.setup (one_acts n) w.sessions v.sessions a e)),
  )

  pub pass_again : (n : Name) (w : MachineState) → AreTold w → AreTold (pass n w)
  pass_again n w h = (pass_quiet n w h.0, pass_told n w h.0 (each_weaker (Slicing w.setup (feed_in w.sessions)) (SlicingBut n w.setup (feed_in w.sessions)) (λ s p _. p) w.sessions h.1))

  pub passes_again : (ns : List Name) (w : MachineState) → AreTold w → AreTold (passes ns w)
  passes_again [] w h = h
  passes_again (n ∷ ns) w h = passes_again ns (pass n w) (pass_again n w h)

  -- at the end of one session
  at_end : (f : Session → Session) → KeepsNodes f → ((s : Session) → (view (turned (f s)) ≡ view (turned s)) × ((f s).far.sent ≡ s.far.sent)) → (n : Name) (s : Session) → is_at n s.near ≡ true → LeavesOthers (one_acts n) s (f s)
  at_end f kept leaves n s at = near_acts n s (f s) at (kept s) (leaves s).0 (leaves s).1

  takes_told : (f : Session → Session) → KeepsNodes f → ((s : Session) → (view (turned (f s)) ≡ view (turned s)) × ((f s).far.sent ≡ s.far.sent)) → ((s : Session) → AreQuiet s → AreQuiet (f s))
      → (to from : Name) (w : MachineState) → AreTold w → AreTold (pass to (change_session to from f w))
  takes_told f kept leaves quiet to from w h =
      acted to w (change_session to from f w) refl (session_quiet to from f kept quiet w h.0)
      (session_leaves (one_acts to) to from f
      (λ s is. at_end f kept leaves to s (and_parts (is_at to s.near) (is_at from s.far) is).0)
      (λ s is. turned_leaves (one_acts to) (turned s) (f (turned s)) (at_end f kept leaves to (turned s) (and_parts (is_at from s.near) (is_at to s.far) is).1))
      w.sessions) h.1

  connects_told : (a b : Name) (w : MachineState) → AreTold w → AreTold (connect a b w)
  connects_told a b w h =
      let u : MachineState = pass a (change_session a b opened w) in
      let first : AreTold u = takes_told opened opened_nodes opened_leaves opens_quiet a b w h in
      elim (is_broken u a b) as (λ c. AreTold (cond c u (pass b (change_session a b (around opened) u)))) [
        | true ↦ first
        | false ↦ acted b u (change_session a b (around opened) u) refl (session_quiet a b (around opened) (turned_nodes opened opened_nodes) around_quiet u first.0)
            (session_leaves (one_acts b) a b (around opened)
            (λ s is. turned_leaves (one_acts b) (turned s) (opened (turned s)) (at_end opened opened_nodes opened_leaves b (turned s) (and_parts (is_at a s.near) (is_at b s.far) is).1))
            (λ s is. at_end opened opened_nodes opened_leaves b s (and_parts (is_at b s.near) (is_at a s.far) is).0)
            u.sessions) first.1
      ]

  -- ---- steps that no node makes
  still_told : (x : Setup) (ss ts : List Session) → AllLeaveOthers none_acts ss ts → Each (Slicing x (feed_in ss)) ss → Each (Slicing x (feed_in ts)) ts
  still_told x ss ts a e = each_weaker (λ t. none_acts t.near.name ≡ false → Slicing x (feed_in ts) t) (Slicing x (feed_in ts)) (λ t h. h refl) ts (others_told x none_acts ss ts a e)

  goes_on : (s t : Session) → nodes t ≡ nodes s → GoesOn s.near t.near → GoesOn s.far t.far → LeavesOthers none_acts s t
  goes_on s t kept near far = record { kept = kept; near = λ _. near; far = λ _. far }

  lost_goes : (s : Session) → LeavesOthers none_acts s (lost s)
  lost_goes s = goes_on s (lost s) refl (record { phase = refl; sent = refl; held = refl }) (record { phase = refl; sent = refl; held = refl })

  broken_goes : (n : ℕ) (s : Session) → LeavesOthers none_acts s (add_break n s)
  broken_goes n s = goes_on s (add_break n s) refl (record { phase = refl; sent = refl; held = refl }) (record { phase = refl; sent = refl; held = refl })

  cleared_goes : (s : Session) → LeavesOthers none_acts s (without_breaks s)
  cleared_goes s = goes_on s (without_breaks s) refl (record { phase = refl; sent = refl; held = refl }) (record { phase = refl; sent = refl; held = refl })

  unacted : (a b : Name) (f : Session → Session) → KeepsNodes f → ((s : Session) → AreQuiet s → AreQuiet (f s)) → ((s : Session) → LeavesOthers none_acts s (f s)) → (w : MachineState) → AreTold w → AreTold (change_session a b f w)
  unacted a b f kept keeps leaves w h = (
    session_quiet a b f kept keeps w h.0,
    still_told w.setup w.sessions (with_session a b f w.sessions)
        (session_leaves none_acts a b f (λ s _. leaves s) (λ s _. turned_leaves none_acts (turned s) (f (turned s)) (leaves (turned s))) w.sessions) h.1,
  )

  -- a node that restarts has told nothing
  restarts_told : (n : Name) (w : MachineState) → AreTold w → AreTold (change_node n shut w)
  restarts_told n w h =
      let ts : List Session = map (at_node n shut) w.sessions in
      let kept : KeepsNodes (at_node n shut) = at_node_nodes n shut (λ s. refl) in
      let leaves : (s : Session) → LeavesOthers (one_acts n) s (at_node n shut s) = λ s.
      elim (is_at n s.near) as (λ b. is_at n s.near ≡ b → LeavesOthers (one_acts n) s (cond b (shut s) (cond (is_at n s.far) (turned (shut (turned s))) s))) [
        | true ↦ λ at. near_acts n s (shut s) at refl refl refl
        | false ↦ λ _. elim (is_at n s.far) as (λ b. is_at n s.far ≡ b → LeavesOthers (one_acts n) s (cond b (turned (shut (turned s))) s)) [
          | true ↦ λ at. turned_leaves (one_acts n) (turned s) (shut (turned s)) (near_acts n (turned s) (shut (turned s)) at refl refl refl)
          | false ↦ λ _. leaves_refl (one_acts n) s
        ] refl
      ] refl in
      let told : Each (SlicingBut n w.setup (feed_in ts)) ts = others_told w.setup (one_acts n) w.sessions ts (mapped_leaves (one_acts n) (at_node n shut) leaves w.sessions) h.1 in (
        record {
          placed = subst (AllByRecursion FeedPlaced) (sym (map_nodes (at_node n shut) kept w.sessions)) h.0.placed;
          quiet = nodes_keep AreQuiet both_quiet shut (quiet_keeps size).shuts n w.sessions h.0.quiet;
        },
        each_idle n w.setup (feed_in ts) w.sessions told,
      )
    where
      each_idle : (n : Name) (x : Setup) (feed : Name → Map) (ss : List Session) → Each (SlicingBut n x feed) (map (at_node n shut) ss) → Each (Slicing x feed) (map (at_node n shut) ss)
      each_idle n x feed [] e = tt
      each_idle n x feed (s ∷ ss) e = (
        elim (is_at n s.near) as (λ b. is_at n s.near ≡ b → SlicingBut n x feed (cond b (shut s) (cond (is_at n s.far) (turned (shut (turned s))) s)) → Slicing x feed (cond b (shut s) (cond (is_at n s.far) (turned (shut (turned s))) s))) [
          | true ↦ λ _ _ control agent live. absurd (true≢false live)
          | false ↦ λ off. elim (is_at n s.far) as (λ b. SlicingBut n x feed (cond b (turned (shut (turned s))) s) → Slicing x feed (cond b (turned (shut (turned s))) s)) [ true ↦ λ h. h off | false ↦ λ h. h off ]
        ] refl e.0,
        each_idle n x feed ss e.1,
      )

  clears_told : (w : MachineState) → AreTold w → AreTold (record { setup = w.setup; sessions = map without_breaks w.sessions })
  clears_told w h = (
    record {
      placed = subst (AllByRecursion FeedPlaced) (sym (map_nodes without_breaks (λ s. refl) w.sessions)) h.0.placed;
      quiet = each_map AreQuiet AreQuiet without_breaks (λ s q. q) w.sessions h.0.quiet;
    },
    still_told w.setup w.sessions (map without_breaks w.sessions) (mapped_leaves none_acts without_breaks cleared_goes w.sessions) h.1,
  )

  pub told_steps : Steps size AreTold
  told_steps = record {
    takes = λ from to w h. takes_told arrived arrived_nodes (λ s. ((arrived_touches s).view, (arrived_touches s).sent)) (quiet_keeps size).arrives to from w h;
    octets = λ from to n w h. takes_told (octets_arrived size n) (octets_nodes size n) (λ s. ((octets_touches size n s).view, (octets_touches size n s).sent)) ((quiet_keeps size).octets n) to from w h;
    loses = λ a b w h. unacted a b lost (λ s. refl) (quiet_keeps size).loses lost_goes w h;
    connects = λ a b w may some h. connects_told a b w h;
    restarts = restarts_told;
    clears = clears_told;
    breaks = λ a b n w h. unacted a b (add_break n) (λ s. refl) (λ s q. q) (broken_goes n) w h;
  }
