-- How a session reads, by all that came to it.
use Rattle.std.proofs.Common.{◌≡◌, ℕ, List, [], ◌∷◌, Bool, Option, Some, None, refl, arith}
use Rattle.ov_types.specs.declared.rows.NodeId.{NodeId}
use Rattle.bgp_wire.specs.declared.fault.WireFault.{WireFault}
use Rattle.bgp_wire.specs.Content.{OpenFields, UpdateFields, Opens, Updates}
use Rattle.bgp_wire.specs.Opens.{is_wide}
use Rattle.ov_types.specs.declared.prefix.Addr.{Addr}
use Rattle.bgp_session.specs.declared.event.State.{State}
use Rattle.bgp_session.specs.declared.event.State.TheVariants.{Idle, OpenSent, OpenConfirm, Established}
use Rattle.bgp_session.specs.Inputs.{Came, Opened, RightOpen, WrongOpen, KeepaliveCame, RightUpdate, WrongUpdate, NotificationCame, BadFrame, Closed}
use Rattle.bgp_session.specs.Inputs.{Brings, BringsUpdate, came_by_open, open_refusal}
use Rattle.bgp_session.specs.Happenings.{SessionFields, after, idle_session, next_state, wide_in}
use Rattle.bgp_session.specs.Reading.{after_all, last_open, ReadsAs}

-- one input
reads_on : (state : State) (reads : Bool) (said : Option Bool) (came : Came) → ReadsAs state reads said
    → ReadsAs (next_state state came) (wide_in (next_state state came) came reads) (last_open said (came ∷ []))
reads_on state reads said came h = grind (arith, h)

-- all of them
reads_after : (s : SessionFields) (said : Option Bool) (inputs : List Came) → ReadsAs s.state s.wide said
    → ReadsAs (after_all s inputs).state (after_all s inputs).wide (last_open said inputs)
reads_after s said [] h = h
reads_after s said (Opened ∷ more) h = reads_after (after s Opened) said more (reads_on s.state s.wide said Opened h)
reads_after s said (RightOpen wide ∷ more) h = reads_after (after s (RightOpen wide)) (Some wide) more (reads_on s.state s.wide said (RightOpen wide) h)
reads_after s said (WrongOpen f ∷ more) h = reads_after (after s (WrongOpen f)) said more (reads_on s.state s.wide said (WrongOpen f) h)
reads_after s said (KeepaliveCame ∷ more) h = reads_after (after s KeepaliveCame) said more (reads_on s.state s.wide said KeepaliveCame h)
reads_after s said (RightUpdate deltas ∷ more) h = reads_after (after s (RightUpdate deltas)) said more (reads_on s.state s.wide said (RightUpdate deltas) h)
reads_after s said (WrongUpdate f ∷ more) h = reads_after (after s (WrongUpdate f)) said more (reads_on s.state s.wide said (WrongUpdate f) h)
reads_after s said (NotificationCame code subcode ∷ more) h = reads_after (after s (NotificationCame code subcode)) said more (reads_on s.state s.wide said (NotificationCame code subcode) h)
reads_after s said (BadFrame f ∷ more) h = reads_after (after s (BadFrame f)) said more (reads_on s.state s.wide said (BadFrame f) h)
reads_after s said (Closed ∷ more) h = reads_after (after s Closed) said more (reads_on s.state s.wide said Closed h)

pub reads_as_said : (asn : ℕ) (peer : NodeId) (inputs : List Came)
    → ReadsAs (after_all (idle_session asn peer) inputs).state (after_all (idle_session asn peer) inputs).wide (last_open None inputs)
reads_as_said asn peer inputs = reads_after (idle_session asn peer) None inputs refl

-- an UPDATE to a session that is up
update_read : (state : State) (reads : Bool) (said : Option Bool) (parts : UpdateFields) (came : Came) → state ≡ Established → ReadsAs state reads said
    → BringsUpdate reads parts came → (wide : Bool) × (said ≡ Some wide) × BringsUpdate wide parts came
update_read Established reads said parts came e h b = (reads, h, b)
update_read Idle reads said parts came e h b = absurd cc
update_read OpenSent reads said parts came e h b = absurd cc
update_read OpenConfirm reads said parts came e h b = absurd cc

pub updates_read : (asn : ℕ) (peer : NodeId) (inputs : List Came) (parts : UpdateFields) (came : Came)
    → (after_all (idle_session asn peer) inputs).state ≡ Established
    → Brings asn peer.address (after_all (idle_session asn peer) inputs).wide (Updates parts) came
    → (wide : Bool) × (last_open None inputs ≡ Some wide) × BringsUpdate wide parts came
updates_read asn peer inputs parts came up brings =
    let s = after_all (idle_session asn peer) inputs in
    update_read s.state s.wide (last_open None inputs) parts came up (reads_as_said asn peer inputs) brings

-- a right OPEN
wide_of : (wide w : Bool) (refusal : Option WireFault) → RightOpen w ≡ came_by_open wide refusal → w ≡ wide
wide_of wide w None e = cc
wide_of wide w (Some f) e = absurd cc

pub open_says : (asn : ℕ) (peer : Addr) (reads wide : Bool) (fields : OpenFields) → Brings asn peer reads (Opens fields) (RightOpen wide)
    → wide ≡ is_wide fields
open_says asn peer reads wide fields e = wide_of (is_wide fields) wide (open_refusal asn peer fields) e
