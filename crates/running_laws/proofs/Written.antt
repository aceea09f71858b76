-- Of a valid configuration of the written form: places and sessions belong together, and nodes go by what seats hold.
use Rattle.std.specs.List.{AllByRecursion}
use Rattle.std.specs.Prelude.{List, false, length, true, ℕ, ◌<◌, ◌≡◌}
use Rattle.std.specs.declared.option.Option.TheVariants.{None, Some}
use Rattle.std.proofs.lemmas.List.Elements.{All-contains}
use Rattle.ov_types.specs.First.{same_name}
use Rattle.config_types.specs.declared.topology.Node.{Node}
use Rattle.schedule_script.specs.ConfigCheck.Sentences.{AreDistinct}
use Rattle.schedule_script.proofs.ConfigCheck.Validity.{valid_iff}
use Rattle.machine_laws.specs.MachineModel.Events.{forwarders, is_node}
use Rattle.machine_laws.specs.MachineModel.Moments.{Each, HasNumbers, HasSessions}
use Rattle.machine_laws.specs.MachineModel.Network.{MachineState}
use Rattle.machine_laws.specs.MachineModel.Session.{Session}
use Rattle.machine_laws.specs.MachineModel.Setup.{Name, Setup}
use Rattle.machine_laws.specs.MachineModel.Steps.{session_of}
use Rattle.machine_laws.specs.Setups.{IsNamed}
use Rattle.machine_laws.specs.Headline.{IsWritten}
use Rattle.node_model.proofs.Members.{contains_of}
use Rattle.machine_laws.proofs.Names.{is_named}
use Rattle.running_nodes.specs.Seats.{Seat, far_of, name_of, place_of, seat, seat_named}
use Rattle.running_nodes.specs.Stands.{Seats}
use Rattle.running_nodes.specs.Steps.{forwarders_of}
use Rattle.running_nodes.specs.declared.place.SessionPlace.{SessionPlace}
use Rattle.running_laws.specs.Wiring.{AreSeats, GoesBy, HasFar, HasSession, IsFound, IsPlace, IsPlaceOf, ShowsAt, name_at, other_at}
use Rattle.running_laws.specs.Wired.{HasPlace, pairs}
use Rattle.running_laws.proofs.Agents as agents
use Rattle.running_laws.proofs.Rounds as rounds
use Rattle.running_laws.proofs.Forwarders as forward
use Rattle.running_laws.proofs.Shows as shows
use Rattle.running_laws.proofs.Seating as seating
use Rattle.running_laws.proofs.Seating.{ListsApart, far_at}
use Rattle.running_laws.proofs.Sessions as sessions

pub written_named : (x : Setup) → IsWritten x → IsNamed x.topology
written_named x h = is_named x.topology x.config h.topology ((valid_iff x.topology x.config).0 h.valid)

pub written_apart : (x : Setup) → IsWritten x → ListsApart x
written_apart x h n m = All-contains (λ (n : Node). AreDistinct n.controllers) x.topology.nodes n ((valid_iff x.topology x.config).0 h.valid).names.controllers (contains_of x.topology.nodes n m)

-- ---- places
module _ (x : Setup) (written : IsWritten x) (numbers : HasNumbers x) (seats : List Seat) (are : AreSeats x seats) where
  pub has_far : (p : SessionPlace) → IsPlace seats p → HasFar seats p
  has_far p h = (far_at x (written_named x written) numbers (written_apart x written) seats are p h).has

  pub place_found : (p : SessionPlace) → IsPlace seats p → place_of seats (name_at seats p) (other_at seats p) ≡ Some p
  place_found p h = seating.place_found x (written_named x written) numbers (written_apart x written) seats are p h

  pub place_is : (a b : Name) (p : SessionPlace) → place_of seats a b ≡ Some p → IsPlaceOf seats a b p
  place_is a b p e = seating.place_is x (written_named x written) numbers (written_apart x written) seats are a b p e

  pub far_is : (a b : Name) (p : SessionPlace) → place_of seats a b ≡ Some p → far_of seats p ≡ place_of seats b a
  far_is a b p e = seating.far_is x (written_named x written) numbers (written_apart x written) seats are a b p e

  pub pairs_placed : AllByRecursion (HasPlace seats) (pairs x.topology)
  pairs_placed = rounds.pairs_placed x (written_named x written) numbers (written_apart x written) seats are

-- ---- sessions
module _ (w : MachineState) (written : IsWritten w.setup) (numbers : HasNumbers w.setup) (seats : List Seat) (are : AreSeats w.setup seats) (has : HasSessions w) where
  named : IsNamed w.setup.topology
  named = written_named w.setup written

  apart : ListsApart w.setup
  apart = written_apart w.setup written

  pub has_session : (p : SessionPlace) → IsPlace seats p → HasSession seats w p
  has_session p h = sessions.place_session w named numbers apart seats are has p h

  pub sessions_found : AllByRecursion (IsFound seats w) w.sessions
  sessions_found = sessions.sessions_placed w named numbers apart seats are has

  pub place_without_session : (a b : Name) → session_of w a b ≡ None → place_of seats a b ≡ None
  place_without_session a b e = sessions.no_place w named numbers apart seats are has a b e

  pub session_without_place : (a b : Name) → place_of seats a b ≡ None → session_of w a b ≡ None
  session_without_place a b e = sessions.no_session w named numbers apart seats are has a b e

  pub names_differ : Each (λ s. (same_name s.near.name s.far.name ≡ false) × (same_name s.far.name s.near.name ≡ false)) w.sessions
  names_differ = sessions.sessions_proper w named numbers apart seats are has

-- ---- what nodes go by
module _ (w : MachineState) (written : IsWritten w.setup) (numbers : HasNumbers w.setup) (seats : List Seat) (stands : Seats seats w) (has : HasSessions w) where
  pub goes_by : (p : SessionPlace) → IsPlace seats p → (s : Session) → session_of w (name_at seats p) (other_at seats p) ≡ Some s → GoesBy seats w p s
  goes_by p h s e = agents.goes_by w (written_named w.setup written) numbers (written_apart w.setup written) seats stands has p h s e

  pub shows_at : (name : Name) → is_node w name ≡ true → (k : ℕ) × ShowsAt seats w name k
  shows_at name e = shows.shows_at w (written_named w.setup written) numbers (written_apart w.setup written) seats stands has name e

  pub seats_are_nodes : (k : ℕ) → 0 < k → k < length seats → is_node w (name_of (seat seats k).who) ≡ true
  seats_are_nodes k above h = shows.seats_are_nodes w (written_named w.setup written) numbers (written_apart w.setup written) seats stands has k above h

  pub no_node_above : (name : Name) → is_node w name ≡ false → (k : ℕ) → seat_named seats name ≡ Some k → k ≡ 0
  no_node_above name off k e = shows.no_node_above w (written_named w.setup written) numbers (written_apart w.setup written) seats stands has name off k e

  pub forwarders_are : forwarders w ≡ forwarders_of seats
  forwarders_are = forward.forwarders_are w (written_named w.setup written) numbers (written_apart w.setup written) seats stands has
