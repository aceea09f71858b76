-- The control node that is found by a name holds what the machine's node of that name does.
use Rattle.std.specs.Prelude.{◌≡◌, ◌<◌, ℕ, zero, suc, length, List, Bool, true, false, is_some, option_copied, IfSome}
use Rattle.std.specs.Cmp.Lexicographic.{bytes_decides}
use Rattle.std.specs.declared.option.Option.{Option}
use Rattle.std.specs.declared.option.Option.TheVariants.{Some, None}
use Rattle.std.proofs.Common.{refl, sym, ◌∙◌, ap, subst, arith, Bor}
use Rattle.ov_types.specs.First.{same_name}
use Rattle.ov_types.specs.declared.rows.NodeId.{NodeId}
use Rattle.config_types.specs.declared.topology.Node.{Node}
use Rattle.node_model.specs.Members.{Member}
use Rattle.node_model.specs.Paths.{Holdings}
use Rattle.node_model.specs.Step.{Post}
use Rattle.node_model.proofs.Members.{any_in, from_any, in_map, none_some}
use Rattle.running_nodes.specs.ControlNode.Core.{Core, holdings}
use Rattle.running_nodes.specs.Controls.{Controls}
use Rattle.node_laws.specs.Quiet.{SameButQuiet}
use Rattle.running_nodes.specs.MachineModel.Network.{MachineState, config}
use Rattle.running_nodes.specs.MachineModel.Setup.{Name, checked}
use Rattle.running_nodes.proofs.MachineModel.Apart.{NamesApart}
use Rattle.running_laws.specs.MachineLaws.Setups.{IsNamed}
use Rattle.running_laws.proofs.MachineLaws.KindNames.{apart_names}
use Rattle.running_laws.specs.MachineLaws.Headline.{IsWritten}
use Rattle.running_nodes.specs.Seats.{Configuring, Controlling, Forwarding, Seat, Who, agent_plan, control_plan, name_of, seat}
use Rattle.running_nodes.specs.Seats.{seat_named}
use Rattle.running_nodes.specs.Stands.{StandsFor}
use Rattle.running_nodes.specs.Cores.{HoldsAs, held_by, present}
use Rattle.running_laws.specs.Wiring.{HasNumbers, HasSessions}
use Rattle.running_laws.proofs.PostEnds.{Ends, seat_ends}
use Rattle.running_laws.proofs.Going.{site_holds}
use Rattle.running_laws.proofs.Parties.{by_node, site_in}
use Rattle.running_laws.proofs.Seating.{ListsApart, root_at, seat_found, seat_is, seat_of, who_above}
use Rattle.running_laws.proofs.Sessions.{all_found}
use Rattle.running_laws.proofs.Written.{written_apart, written_named}
use Rattle.running_laws.specs.Moments.{IsMoment}
use Rattle.running_laws.proofs.Moments.{moment_numbers, moment_sessions, moment_written}
use Rattle.net_machine.specs.Looking.{held_at, is_control_node}

-- what is found by a name, or nothing, is what the control node of that name holds
pub record Finds (w : MachineState) (name : Name) (held : Option Holdings) : Type 0 where
  pub is : is_some held ≡ is_control_node w.setup.topology name
  pub holds : IfSome held (λ h. h ≡ held_at w name)

false_when : (b : Bool) → (b ≡ true → ⊥) → b ≡ false
false_when true h = absurd (h refl)
false_when false h = refl

module _ (w : MachineState) (m : IsMoment w) (seats : List Seat) (stands : StandsFor seats w) where
  written : IsWritten w.setup
  written = moment_written w m

  named : IsNamed w.setup.topology
  named = written_named w.setup written

  apart : ListsApart w.setup
  apart = written_apart w.setup written

  names : NamesApart w.setup.topology
  names = apart_names w.setup.topology named.apart

  numbers : HasNumbers w.setup
  numbers = moment_numbers w m

  has : HasSessions w
  has = moment_sessions w m

  abbrev cs : List NodeId
  cs = w.setup.topology.controllers

  abbrev plan_of : NodeId → Controls
  plan_of c = control_plan w.setup c

  none_named : (name : Name) → ((c : NodeId) → Member c cs → c.name ≡ name → ⊥) → is_control_node w.setup.topology name ≡ false
  none_named name h =
      false_when (is_control_node w.setup.topology name) (λ e.
      let q = from_any (λ (c : NodeId). same_name c.name name) cs e in h q.0 q.1 ((bytes_decides q.0.name name).0 q.2))

  at_root : (posts : List Post) → Finds w config (held_by (Configuring (checked w.setup)) posts)
  at_root posts = record {
    is = sym (none_named config (λ c i e. names.no_site_config c.name (in_map (λ (c : NodeId). c.name) c cs i) e));
    holds = tt;
  }

  at_agent : (n : Node) → Member n w.setup.topology.nodes → (posts : List Post)
      → Finds w n.name (held_by (Forwarding (agent_plan w.setup.topology n)) posts)
  at_agent n k posts = record {
    is = sym (none_named n.name (λ c i e. names.kinds_apart c.name n.name (in_map (λ (c : NodeId). c.name) c cs i)
        (in_map (λ (n : Node). n.name) n w.setup.topology.nodes k) e));
    holds = tt;
  }

  at_control : (c : NodeId) → Member c cs → (posts : List Post) → Ends w (Controlling (plan_of c)) posts
      → Finds w c.name (held_by (Controlling (plan_of c)) posts)
  at_control c i posts ends = record {
    is = sym (any_in (λ (d : NodeId). same_name d.name c.name) c cs i ((bytes_decides c.name c.name).1 refl));
    holds = sym (site_holds w named numbers has (all_found w named numbers apart seats stands.seats_are.who has) c i posts ends);
  }

  abbrev FindsAs : ℕ → Who → Type 0
  FindsAs k v = Ends w v (seat seats k).posts → Finds w (name_of v) (held_by v (seat seats k).posts)

  finds_at : (k : ℕ) → k < length seats → FindsAs k (seat seats k).who
  finds_at zero within =
      subst (FindsAs 0) (sym (root_at w.setup named numbers apart seats stands.seats_are.who)) (λ _. at_root (seat seats 0).posts)
  finds_at (suc k) within =
      by_node w.setup named numbers (FindsAs (suc k)) (λ c i. at_control c i (seat seats (suc k)).posts)
      (λ n i _. at_agent n i (seat seats (suc k)).posts) (seat seats (suc k)).who
      (who_above w.setup named numbers apart seats stands.seats_are.who (suc k) (omega arith) within)

  -- the seat of a name
  pub finds : (name : Name) (k : ℕ) → seat_named seats name ≡ Some k
      → Finds w name (held_by (seat seats k).who (seat seats k).posts)
  finds name k e =
      let q = seat_is w.setup named numbers apart seats stands.seats_are.who name k e in
      subst (λ name. Finds w name (held_by (seat seats k).who (seat seats k).posts)) q.1
      (finds_at k q.0 (seat_ends w seats stands.seats_are k q.0))

  -- no seat has the name
  pub finds_none : (name : Name) → seat_named seats name ≡ None → Finds w name None
  finds_none name e = record {
    is = sym (none_named name (λ c i is.
        let q = seat_of w.setup named numbers apart seats stands.seats_are.who (Controlling (plan_of c)) (site_in w.setup named numbers c i) in
        let found : seat_named seats name ≡ Some q.0 =
        subst (λ name. seat_named seats name ≡ Some q.0) (ap name_of q.2 ∙ is)
        (seat_found w.setup named numbers apart seats stands.seats_are.who q.0 q.1) in
        none_some q.0 (sym e ∙ found)));
    holds = tt;
  }

-- ---- the node that holds it
pub copied_some : {T : Type 0} (r : Option (Bor T)) → is_some r ≡ is_some (option_copied r)
copied_some None = refl
copied_some (Some x) = refl

abbrev pub held_of : Core → Holdings
held_of c = holdings c.plan c.posts

pub core_is : (w : MachineState) (name : Name) (core : Option Core) (held : Option Holdings) → HoldsAs core held
    → Finds w name held
    → (is_some core ≡ is_control_node w.setup.topology name) × IfSome core (λ c. SameButQuiet (held_of c) (held_at w name))
core_is w name None None e f = (f.is, tt)
core_is w name None (Some h) e f = absurd e
core_is w name (Some c) None e f = absurd e
core_is w name (Some c) (Some h) e f = (f.is, subst (SameButQuiet (held_of c)) f.holds e.1)

pub core_exact : (w : MachineState) (name : Name) (core : Option Core) (held : Option Holdings) → HoldsAs core held
    → Finds w name held → IfSome core (λ c. present c ≡ held_at w name)
core_exact w name None None e f = tt
core_exact w name None (Some h) e f = absurd e
core_exact w name (Some c) None e f = absurd e
core_exact w name (Some c) (Some h) e f = e.0 ∙ f.holds
