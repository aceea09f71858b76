-- What the steps of nodes make of their seats.
use Rattle.std.specs.Prelude.{◌≡◌, ◌<◌, ◌+◌, ◌-◌, ℕ, zero, suc, List, [], ◌∷◌, ◌++◌, map, length, Bool, true, false}
use Rattle.std.specs.Prelude.{nat_lt, if◌then◌else◌}
use Rattle.std.specs.declared.option.Option.{Option}
use Rattle.std.specs.declared.option.Option.TheVariants.{Some, None}
use Rattle.std.specs.List.{filter_map, slice_set}
use Rattle.ov_link.specs.Breaks.{counted, is_break, with_break}
use Rattle.ov_link.specs.declared.step.Input.{Input}
use Rattle.agent_node.specs.ItemWire.ItemCause.{ItemCause}
use Rattle.ov_types.specs.declared.rows.NodeRows.{NodeRows}
use Rattle.ov_types.specs.declared.rows.NodeRows.TheVariants as Rows
use Rattle.route_targets.specs.Forwarding.{Forwarder}
use Rattle.config_node.specs.ConfigCheck.Checked.{Checked}
use Rattle.agent_node.specs.NodeCore.Keeping.{AreSwept}
use Rattle.agent_node.specs.NodeCore.Whole.{session_of}
use Rattle.agent_node.specs.NodeModel.Agent.{rows as agent_rows}
use Rattle.agent_node.specs.NodeModel.Tables.{rows as control_rows}
use Rattle.agent_node.specs.NodeModel.Step.{Beginning, Post, nothing, post, begun, planned, told_all}
use Rattle.config_node.specs.Beginning as configuration
use Rattle.control_node.specs.Beginning as control
use Rattle.control_node.specs.declared.cause.NodeCause.{NodeCause}
use Rattle.agent_node.specs.Beginning as agent
use Rattle.agent_node.specs.Core as agents
use Rattle.running_nodes.specs.Controls as controls
use Rattle.running_nodes.specs.Seats.{Who, Configuring, Controlling, Forwarding, Seat, breaks_at, breaks_in, far_of}
use Rattle.running_nodes.specs.Seats.{is_down_at, kept_in, kind_of, link, live_at, others_of, seat}
use Rattle.running_nodes.specs.declared.place.SessionPlace.{SessionPlace}

-- ---- an input makes this of its end, where these octets were kept there, and these are kept then
abbrev pub BeginsAt : Who → ℕ → Post → List ℕ → Input → Beginning → List ℕ → Type 0
BeginsAt (Configuring x) i p kept input given left =
    (c : Option ItemCause) × configuration.BeginsKeeping x i p kept input given c left
BeginsAt (Controlling c) i p kept input given left =
    (cause : Option NodeCause) × control.BeginsKeeping (controls.plan_of c) i p kept input given cause left
BeginsAt (Forwarding plan) i p kept input given left =
    (c : Option ItemCause) × agent.BeginsKeeping plan i p kept input given c left

-- ---- sends in turn, where some are to fail
pub record Sending : Type 0 where
  -- the messages that left, whether the one after them failed, and the sends that are to fail from then on
  pub accepted : List (List ℕ)
  pub failed : Bool
  pub breaks : List ℕ

abbrev pub behind : List ℕ → Sending → Sending
behind octets s = record { accepted = octets ∷ s.accepted; failed = s.failed; breaks = s.breaks }

-- messages leave in turn, up to the first that meets a break
abbrev pub sending : List ℕ → List (List ℕ) → Sending
sending breaks [] = record { accepted = []; failed = false; breaks = breaks }
sending breaks (octets ∷ messages) =
    if is_break breaks 1 then record { accepted = []; failed = true; breaks = counted breaks }
    else behind octets (sending (counted breaks) messages)

-- ---- a step: the replies are sent on the session of the input, and then each session is told what is wanted as the
-- pass begins
-- whether a reply fails, which closes the end before the pass
abbrev pub reply_fails : Seat → ℕ → Beginning → Bool
reply_fails n session given = (sending (breaks_in n session) given.replies).failed

-- what is sent on a session
abbrev pub sent_on : Seat → ℕ → Beginning → ℕ → Sending
sent_on n session given i =
    sending (breaks_in n i) (planned (kind_of n.who) n.posts session given (reply_fails n session given) i)

-- a send that fails closes its end
abbrev pub end_after : Bool → Post → Post
end_after failed p = if failed then nothing else p

pub record IsStepped (n n' : Seat) (session : ℕ) (given : Beginning) : Type 0 where
  pub who : n'.who ≡ n.who
  pub notices : n'.notices ≡ n.notices
  pub posts_long : length n'.posts ≡ length n.posts
  pub links_long : length n'.links ≡ length n.links
  pub breaks_long : length n'.breaks ≡ length n.breaks
  pub posts : (i : ℕ) → i < length n.posts
      → post n'.posts i
      ≡ end_after (sent_on n session given i).failed
      (told_all (kind_of n.who) (begun n.posts session given (reply_fails n session given)) i)
  pub links : (i : ℕ) → i < length n.posts → link n' i ≡ link n i ++ (sent_on n session given i).accepted
  pub breaks : (i : ℕ) → i < length n.posts → breaks_in n' i ≡ (sent_on n session given i).breaks

-- a node takes an input
pub record Takes (n n' : Seat) (input : Input) : Type 0 where
  pub given : Beginning
  pub left : List ℕ
  pub begins : BeginsAt n.who (session_of input) (post n.posts (session_of input)) (kept_in n (session_of input)) input
      given left
  pub stepped : IsStepped n n' (session_of input) given
  pub swept : AreSwept n'.posts (slice_set n.kept (session_of input) left) n'.kept

-- what is there is told anew, without an input
abbrev pub as_it_is : Seat → Beginning
as_it_is n = record { replies = []; after = Some (post n.posts 0) }

-- a node makes its pass: each session is told what is wanted now
pub record Passes (n n' : Seat) : Type 0 where
  pub stepped : IsStepped n n' 0 (as_it_is n)
  pub swept : AreSwept n'.posts n.kept n'.kept

-- ---- changes of single places
abbrev pub all_of : {A B : Type 0} → B → List A → List B
all_of b xs = map (λ _. b) xs

abbrev pub with_seat : ℕ → Seat → List Seat → List Seat
with_seat k n seats = slice_set seats k n

abbrev pub with_link : SessionPlace → List (List ℕ) → List Seat → List Seat
with_link p messages seats =
    with_seat p.node (record (seat seats p.node) { links = slice_set (seat seats p.node).links p.session messages })
    seats

abbrev pub with_notice : SessionPlace → Bool → List Seat → List Seat
with_notice p waits seats =
    with_seat p.node (record (seat seats p.node) { notices = slice_set (seat seats p.node).notices p.session waits })
    seats

abbrev pub with_break_at : SessionPlace → ℕ → List Seat → List Seat
with_break_at p n seats =
    with_seat p.node
    (record (seat seats p.node) {
      breaks = slice_set (seat seats p.node).breaks p.session (with_break n (breaks_at seats p));
    })
    seats

-- the messages that are still in flight once so many octets of them were taken
abbrev pub untaken : ℕ → List (List ℕ) → List (List ℕ)
untaken n [] = []
untaken n (octets ∷ messages) =
    if nat_lt n (length octets) then octets ∷ messages else untaken (n - length octets) messages

-- no send is to fail
abbrev pub unbroken : Seat → Seat
unbroken n = record n { breaks = all_of [] n.breaks }

-- ---- after a step
-- an end is told of a loss, where it is live, and what left it is gone
abbrev pub told_of_loss : List Seat → Option SessionPlace → List Seat
told_of_loss seats None = seats
told_of_loss seats (Some q) = with_link q [] (with_notice q (live_at seats q) seats)

-- at an end that is not live no notice waits and nothing is in flight, and the other end is told of the loss. What left
-- a live end is discarded where the session is down
abbrev pub cleared_at : List Seat → SessionPlace → List Seat
cleared_at seats p =
    if live_at seats p then (if is_down_at seats p then with_link p [] seats else seats)
    else told_of_loss (with_notice p false (with_link p [] seats)) (far_of seats p)

-- n sessions of a node are cleared, from the one with this number on
abbrev pub cleared_from : ℕ → ℕ → ℕ → List Seat → List Seat
cleared_from zero k i seats = seats
cleared_from (suc n) k i seats = cleared_from n k (i + 1) (cleared_at seats (record { node = k; session = i }))

abbrev pub cleared : List Seat → ℕ → List Seat
cleared seats k = cleared_from (length (seat seats k).posts) k 0 seats

-- a node with nothing. Which of its sends are to fail stays
abbrev pub emptied : Seat → Seat
emptied n = record {
  who = n.who;
  posts = all_of nothing n.posts;
  kept = all_of [] n.kept;
  links = all_of [] n.links;
  breaks = n.breaks;
  notices = all_of false n.notices;
}

-- a seat of which every session is idle, with nothing in flight and no notice, and no send is to fail
abbrev pub fresh_seat : Who → Seat
fresh_seat who = record {
  who = who;
  posts = all_of nothing (others_of who);
  kept = all_of [] (others_of who);
  links = all_of [] (others_of who);
  breaks = all_of [] (others_of who);
  notices = all_of false (others_of who);
}

-- ---- the configuration node, whose number is 0, has another configuration: every control node is told what it wants
pub record Configures (seats : List Seat) (y : Checked) (seats' : List Seat) : Type 0 where
  pub node : Seat
  pub stepped : IsStepped (record (seat seats 0) { who = Configuring y }) node 0 (as_it_is (seat seats 0))
  pub swept : AreSwept node.posts (seat seats 0).kept node.kept
  pub is : seats' ≡ with_seat 0 node seats

-- ---- what is shown
abbrev pub shown_by : Seat → NodeRows
shown_by n =
    elim n.who [
      | Configuring x ↦ Rows.Control []
      | Controlling c ↦ Rows.Control (control_rows (controls.holdings c n.posts))
      | Forwarding plan ↦ Rows.Agent (agent_rows (agents.holdings n.posts))
    ]

-- what an agent forwards by
abbrev pub forwarder_of : Seat → Option Forwarder
forwarder_of n =
    elim n.who [
      | Configuring x ↦ None
      | Controlling c ↦ None
      | Forwarding plan ↦ Some (record { address = plan.me.address; rows = agent_rows (agents.holdings n.posts) })
    ]

abbrev pub forwarders_of : List Seat → List Forwarder
forwarders_of seats = filter_map forwarder_of seats
