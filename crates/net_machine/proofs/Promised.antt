-- What a network that runs shows once it is settled.
use Rattle.std.specs.Prelude.{◌≡◌, ◌<◌, ℕ, zero, suc, List, length, true}
use Rattle.std.proofs.Common.{sym, ◌∙◌, ap, subst, arith}
use Rattle.std.proofs.lemmas.Option.{same_Some}
use Rattle.config_check.specs.Checked.{Checked}
use Rattle.running_nodes.specs.MachineModel.Network.{MachineState, start}
use Rattle.running_nodes.specs.MachineModel.Events.{MachineEvent, after, shown}
use Rattle.running_nodes.specs.MachineModel.Steps.{is_settled}
use Rattle.running_nodes.specs.MachineModel.Moments.{EditsAreValid}
use Rattle.running_nodes.specs.MachineModel.Setup.{checked}
use Rattle.running_nodes.specs.MachineModel.Setup.{opening as opening_setup}
use Rattle.running_laws.specs.MachineLaws.Headline.{AgentsShowRows, ControlNodesShowTables, IsOfForm, IsWritten}
use Rattle.running_laws.proofs.MachineLaws.Configured.{agents_show_rows, control_nodes_show_tables}
use Rattle.running_nodes.specs.Seats.{Configuring, Seat, Who, name_of, seat}
use Rattle.running_nodes.specs.Stands.{StandsFor, message_size}
use Rattle.running_nodes.specs.Steps.{shown_by}
use Rattle.running_nodes.proofs.Sizes.{positive}
use Rattle.running_laws.proofs.Parties.{by_node}
use Rattle.running_laws.proofs.Seating.{root_at, seat_found, who_above}
use Rattle.running_laws.proofs.Written.{seats_are_nodes, shows_at, written_apart, written_named}
use Rattle.running_laws.specs.Moments.{IsMoment}
use Rattle.running_laws.proofs.Moments.{moment_numbers, moment_of, moment_sessions, moment_written}
use Rattle.net_machine.specs.Shown.{ShowsCompiled, compiled_for}

-- ---- what all schedules promise, of the state after one
pub record IsAfter (w : MachineState) : Type 0 where
  pub opening : Checked
  pub written : IsWritten (opening_setup opening)
  pub events : List MachineEvent
  pub asked : EditsAreValid message_size IsOfForm (start opening) events
  pub is : w ≡ after message_size (start opening) events

pub after_moment : (w : MachineState) → IsAfter w → IsMoment w
after_moment w a = subst IsMoment (sym a.is) (moment_of a.opening a.written a.events a.asked)

after_controls : (w : MachineState) → IsAfter w → ControlNodesShowTables w
after_controls w a =
    subst ControlNodesShowTables (sym a.is)
    (control_nodes_show_tables message_size positive a.opening a.written a.events a.asked)

after_agents : (w : MachineState) → IsAfter w → AgentsShowRows w
after_agents w a =
    subst AgentsShowRows (sym a.is) (agents_show_rows message_size positive a.opening a.written a.events a.asked)

-- ---- at each seat
first_shows : (n : Seat) (x y : Checked) → n.who ≡ Configuring y → shown_by n ≡ compiled_for x n.who
first_shows n x y e = ap (λ (v : Who). shown_by (record n { who = v })) e ∙ sym (ap (compiled_for x) e)

module _ (w : MachineState) (a : IsAfter w) (seats : List Seat) (stands : StandsFor seats w)
    (settled : is_settled w ≡ true) where
  abbrev m : IsMoment w
  m = after_moment w a

  abbrev ShowsPart : Who → Type 0
  ShowsPart v = shown w (name_of v) ≡ compiled_for (checked w.setup) v

  later_shows : (k : ℕ) → 0 < k → k < length seats → shown_by (seat seats k) ≡ compiled_for (checked w.setup) (seat seats k).who
  later_shows k above within =
      let written = moment_written w m in
      let numbers = moment_numbers w m in
      let named = written_named w.setup written in
      let apart = written_apart w.setup written in
      let are = stands.seats_are.who in
      let has = moment_sessions w m in
      let name = name_of (seat seats k).who in
      let there = seats_are_nodes w written numbers seats stands.seats_are has k above within in
      let q = shows_at w written numbers seats stands.seats_are has name there in
      let same : q.0 ≡ k = same_Some q.0 k (sym q.1.seat_is ∙ seat_found w.setup named numbers apart seats are k within) in
      let part : ShowsPart (seat seats k).who =
      by_node w.setup named numbers ShowsPart (after_controls w a settled) (after_agents w a settled) (seat seats k).who
      (who_above w.setup named numbers apart seats are k above within) in
      ap (λ j. shown_by (seat seats j)) (sym same) ∙ sym q.1.shows ∙ part

  pub settled_shows : ShowsCompiled (checked w.setup) seats
  settled_shows zero within =
      let written = moment_written w m in
      first_shows (seat seats 0) (checked w.setup) (checked w.setup)
      (root_at w.setup (written_named w.setup written) (moment_numbers w m) (written_apart w.setup written) seats stands.seats_are.who)
  settled_shows (suc k) within = later_shows (suc k) (omega arith) within
