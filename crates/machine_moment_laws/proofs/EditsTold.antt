-- An edit keeps it too: feeds are found as before, and each agent that does not move has the address that it had.
use Rattle.std.specs.Prelude.{◌≡◌, ℕ, List, [], ◌∷◌, ◌++◌, map, true, false, not, cond}
use Rattle.std.specs.declared.option.Option.{Option}
use Rattle.std.specs.declared.option.Option.TheVariants.{Some, None}
use Rattle.std.specs.List.{filter}
use Rattle.std.proofs.lemmas.Bool.{true≢false}
use Rattle.std.proofs.lemmas.Option.{same_Some}
use Rattle.std.proofs.Common.{refl, sym, ◌∙◌, ap}
use Rattle.schedule_script.specs.ConfigCheck.Edits.{edit_fault, edited as checked_edited}
use Rattle.machine_model.proofs.SessionFact.{append_nil}
use Rattle.ov_types.specs.First.{same_name}
use Rattle.ov_types.specs.declared.rows.NodeId.{NodeId}
use Rattle.config_types.specs.declared.edit.Edit.{Edit}
use Rattle.config_types.specs.declared.topology.Node.{Node}
use Rattle.config_types.specs.declared.topology.Topology.{Topology}
use Rattle.machine_model.specs.Setup.{Name, Move, Numbers, Setup, agents_in, checked, came_at, edited, edited_without, lists, moves, remade, renumbered, renumbered_at, without_agent}
use Rattle.machine_model.specs.Session.{Role, Configuration, Controller, Agent, Message, Session}
use Rattle.machine_model.specs.Network.{MachineState, address_in, between, brought, config, is_of, replaced, same_role}
use Rattle.machine_model.specs.Events.{edits, moved}
use Rattle.machine_model.specs.Moments.{Each, nodes}
use Rattle.machine_model.proofs.ToldEdits.{of_parts}
use Rattle.machine_model.proofs.Changing.{MoverIs, Moves, renews}
use Rattle.machine_model.proofs.Replaced.{each_brought, each_of, each_replaced}
use Rattle.machine_model.proofs.Listed.{is_agents, of_nodes, to_nodes}
use Rattle.machine_model.proofs.Twins.{each_weaker}
use Rattle.machine_moment_laws.proofs.RevocationAddresses.{address_stays}
use Rattle.machine_moment_laws.proofs.Acting.{same_slicing}
use Rattle.machine_moment_laws.proofs.FeedsStay.{entry, one_same}
use Rattle.machine_moment_laws.proofs.PassTells.{Slicing, feed_in}
use Rattle.machine_moment_laws.proofs.Quiet.{AreQuiet}
use Rattle.machine_moment_laws.proofs.StepsTold.{FeedPlaced, AreTold, pass_again, passes_again}

-- the sessions of a compute node are on no feed
brought_placed : (cs : List NodeId) (o : Option Node) → Each (λ s. FeedPlaced (nodes s)) (brought cs o)
brought_placed cs None = tt
brought_placed cs (Some n) = each_of (λ s. FeedPlaced (nodes s)) (λ (c : NodeId). between c.name Controller n.name Agent) (λ c. ((λ e. cc), (λ e. cc))) (filter (lists n) cs)

brought_control : (cs : List NodeId) (o : Option Node) → Each (λ s. s.near.role ≡ Controller) (brought cs o)
brought_control cs None = tt
brought_control cs (Some n) = each_of (λ s. s.near.role ≡ Controller) (λ (c : NodeId). between c.name Controller n.name Agent) (λ c. refl) (filter (lists n) cs)

-- so feeds are found as before where they are taken away or come
passed_over : (c : Name) (s : Session) (ss : List Session) → same_role Configuration s.near.role ≡ false → feed_in (s ∷ ss) c ≡ feed_in ss c
passed_over c s ss off =
    elim (same_name s.near.name c) as (λ b. cond b (feed_in ss c) (cond (same_name s.far.name c) (cond (same_role Configuration s.near.role) s.far.held (feed_in ss c)) (feed_in ss c)) ≡ feed_in ss c) [
      | true ↦ refl
      | false ↦ elim (same_name s.far.name c) as (λ b. cond b (cond (same_role Configuration s.near.role) s.far.held (feed_in ss c)) (feed_in ss c) ≡ feed_in ss c) [
        | true ↦ ap (λ b. cond b s.far.held (feed_in ss c)) off
        | false ↦ refl
      ]
    ]

control_apart : (s : Session) → s.near.role ≡ Controller → same_role Configuration s.near.role ≡ false
control_apart s e = ap (same_role Configuration) e

new_over : (c : Name) (new ss : List Session) → Each (λ s. s.near.role ≡ Controller) new → feed_in (new ++ ss) c ≡ feed_in ss c
new_over c [] ss e = refl
new_over c (s ∷ new) ss e = passed_over c s (new ++ ss) (control_apart s e.0) ∙ new_over c new ss e.1

-- one that is taken away is of an agent
agents_apart : (name : Name) (s : Session) → FeedPlaced (nodes s) → is_of name s ≡ true → same_role Configuration s.near.role ≡ false
agents_apart name s p is = by s.near.role refl
  where
    by : (r : Role) → s.near.role ≡ r → same_role Configuration r ≡ false
    by Configuration e = let never : Controller ≡ Agent = sym (p.1 e) ∙ (of_parts name s is).1 in cc
    by Controller e = refl
    by Agent e = refl

one_more : (c : Name) (s : Session) (ss ts : List Session) → feed_in ts c ≡ feed_in ss c → feed_in (s ∷ ts) c ≡ feed_in (s ∷ ss) c
one_more c s ss ts e = one_same c (nodes s) s.far.held s.far.held (map entry ss) (map entry ts) (λ _. refl) e

kept_feeds : (name c : Name) (ss : List Session) → Each (λ s. FeedPlaced (nodes s)) ss → feed_in (filter (λ s. not (is_of name s)) ss) c ≡ feed_in ss c
kept_feeds name c [] p = refl
kept_feeds name c (s ∷ ss) p =
    elim (is_of name s) as (λ b. is_of name s ≡ b → feed_in (cond (not b) (s ∷ filter (λ s. not (is_of name s)) ss) (filter (λ s. not (is_of name s)) ss)) c ≡ feed_in (s ∷ ss) c) [
      | true ↦ λ is. kept_feeds name c ss p.1 ∙ sym (passed_over c s ss (agents_apart name s p.0 is))
      | false ↦ λ _. one_more c s ss (filter (λ s. not (is_of name s)) ss) (kept_feeds name c ss p.1)
    ] refl

replaced_feeds : (name c : Name) (new ss : List Session) → Each (λ s. s.near.role ≡ Controller) new → Each (λ s. FeedPlaced (nodes s)) ss → feed_in (replaced name new ss) c ≡ feed_in ss c
replaced_feeds name c new [] e p = ap (λ (ts : List Session). feed_in ts c) (append_nil new) ∙ new_over c new [] e
replaced_feeds name c new (s ∷ ss) e p =
    elim (is_of name s) as (λ b. is_of name s ≡ b → feed_in (cond b (new ++ filter (λ s. not (is_of name s)) ss) (s ∷ replaced name new ss)) c ≡ feed_in (s ∷ ss) c) [
      | true ↦ λ is. new_over c new (filter (λ s. not (is_of name s)) ss) e ∙ kept_feeds name c ss p.1 ∙ sym (passed_over c s ss (agents_apart name s p.0 is))
      | false ↦ λ _. one_more c s ss (replaced name new ss) (replaced_feeds name c new ss e p.1)
    ] refl

-- the address of an agent that does not move
pub same_address : (m : Move) (t u : Topology) → MoverIs m.name m.now t u → (a : Name) → (m.name ≡ a → ⊥) → (c : Name) (ns : List Numbers) → address_in (agents_in (map (renumbered_at m) ns) c) a ≡ address_in (agents_in ns c) a
same_address m t u i a other c [] = refl
same_address m t u i a other c (n ∷ ns) =
    elim (same_name n.control c) as (λ b. address_in (cond b (came_at m.now n.control (without_agent m.name n.agents)) (agents_in (map (renumbered_at m) ns) c)) a ≡ address_in (cond b n.agents (agents_in ns c)) a) [
      | true ↦ address_stays m.name a other m.now (named m.now i) n.control n.agents
      | false ↦ same_address m t u i a other c ns
    ]
  where
    named : (o : Option Node) → MoverIs m.name o t u → (n : Node) → o ≡ Some n → n.name ≡ m.name
    named None i n e = cc
    named (Some k) i n e = ap (λ (n : Node). n.name) (sym (same_Some k n e)) ∙ i.0

module _ (size : Name → Message → ℕ) where
  module _ (x y : Setup) where
    moved_told : (o : Option Move) → y.numbers ≡ renumbered o x.numbers → Moves o x.topology y.topology → (ss : List Session) → AreTold (record { setup = x; sessions = ss }) → AreTold (moved o (record { setup = y; sessions = ss }))
    moved_told None numbers i ss h = (
      record { placed = h.0.placed; quiet = h.0.quiet },
      each_weaker (Slicing x (feed_in ss)) (Slicing y (feed_in ss))
          (λ s p. same_slicing x y (feed_in ss) (feed_in ss) s (ap (λ (ns : List Numbers). address_in (agents_in ns s.near.name) s.far.name) numbers) refl p) ss h.1,
    )
    moved_told (Some m) numbers i ss h =
        let cs = y.topology.controllers in
        let new : List Session = brought cs m.now in
        let ts : List Session = replaced m.name new ss in
        let placed = of_nodes FeedPlaced ss h.0.placed in
        let fed : (c : Name) → feed_in ts c ≡ feed_in ss c = λ c. replaced_feeds m.name c new ss (brought_control cs m.now) placed in
        passes_again size m.left (record { setup = y; sessions = ts }) (
          record {
            placed = to_nodes FeedPlaced ts (each_replaced (λ s. FeedPlaced (nodes s)) (λ s. FeedPlaced (nodes s)) m.name (λ s off p. p) new ss (brought_placed cs m.now) placed);
            quiet = each_replaced AreQuiet AreQuiet m.name (λ s off q. q) new ss (each_brought AreQuiet (λ n k r q. ((λ a b. refl), (λ a b. refl))) cs m.now) h.0.quiet;
          },
          each_replaced (Slicing x (feed_in ss)) (Slicing y (feed_in ts)) m.name
              (λ s off p control agent. same_slicing x y (feed_in ss) (feed_in ts) s
              (ap (λ (ns : List Numbers). address_in (agents_in ns s.near.name) s.far.name) numbers
              ∙ same_address m x.topology y.topology i.1 s.far.name (λ e. true≢false (sym (is_agents m.name s agent e) ∙ off)) s.near.name x.numbers)
              (fed s.near.name) p control agent)
              new ss (each_brought (Slicing y (feed_in ts)) (λ n k r q control agent live. absurd (true≢false live)) cs m.now) h.1,
        )

  pub edits_told : (d : Edit) (w : MachineState) → AreTold w → AreTold (edits (moves d w.setup.topology) (edited w.setup d) w)
  edits_told d w h =
      let x = w.setup in
      let m = moves d x.topology in
      elim (edit_fault (checked x) d) as (λ o. edit_fault (checked x) d ≡ o → AreTold (edits m (edited_without o x d) w)) [
        | None ↦ λ none.
            let y : Setup = remade (checked_edited d (checked x)) (renumbered m x.numbers) in
            pass_again size config (moved m (record { setup = y; sessions = w.sessions })) (moved_told x y m refl (renews (checked x) d none).mover w.sessions h)
        | Some f ↦ λ _. h
      ] refl
