-- The written form of events and of what `run` takes.
use Rattle.std.specs.Prelude.{ℕ, ◌&&◌, ◌∷◌, [], List, Bool, true, codes, Option, Some, None, Result, Ok, if◌then◌else◌}
use Rattle.serde_json.specs.Data.{Data, Items, no_items, item}
use Rattle.serde_json.specs.Find.{as_str, as_array}
use Rattle.ov_types.specs.First.{same_name}
use Rattle.ov_types.specs.Name.{is_name}
use Rattle.config_model.specs.declared.fault.DocKind.TheVariants.{Kind, Range, Unknown}
use Rattle.config_model.specs.declared.fields.Count.TheVariants.{AnyNumber, Two}
use Rattle.config_types.specs.declared.event.Event.{Event}
use Rattle.config_types.specs.declared.event.Event.TheVariants as Events
use Rattle.config_model.specs.declared.input.RunInput.{RunInput}
use Rattle.config_model.specs.Paths.{member_path, item_path}
use Rattle.config_model.specs.Faults.{Fault, ◌>>=◌, refused, wanted}
use Rattle.config_types.specs.Form.{is_from_to, has_packet_form}
use Rattle.config_model.specs.Fields.{Reads, object_at, in_member, name_at, whole_at, only_at, all_at}
use Rattle.config_model.specs.Topology.{topology_at}
use Rattle.config_model.specs.Config.{config_at}
use Rattle.config_model.specs.Input.{packet_at}
use Rattle.config_model.specs.OneMember.{one_member_at}
use Rattle.config_model.specs.Edit.{edit_at}
use Rattle.config_types.specs.Form.{has_edit_form}

abbrev pub two_of : List ℕ → List (List ℕ) → Result (List ℕ × List ℕ) Fault
two_of path (a ∷ b ∷ []) = Ok (a, b)
two_of path names = refused path Range

-- a list of two names
unfoldable pub two_names_at : Reads (List ℕ × List ℕ)
two_names_at path d = do
  names ← all_at name_at Two path d
  two_of path names

-- the items of a list of three
abbrev pub three_of : Items → Option (Data × Data × Data)
three_of (item a (item b (item c no_items))) = Some (a, b, c)
three_of ds = None

-- the items of a list that has to have three
unfoldable pub three_at : Reads (Data × Data × Data)
three_at path d = do
  items ← wanted path Kind (as_array d)
  wanted path Range (three_of items)

-- from, to, and a number 1 to 1000000
unfoldable pub names_and_number_at : Reads (List ℕ × List ℕ × ℕ)
names_and_number_at path d = do
  parts ← three_at path d
  from ← name_at (item_path path 0) parts.0
  to ← name_at (item_path path 1) parts.1
  n ← whole_at 1 1000000 (item_path path 2) parts.2
  Ok (from, to, n)

-- the event that a member names, by what the member has
unfoldable pub event_from : List ℕ → Reads Event
event_from word path d =
    if same_name word (codes "edit") then (edit_at path d >>= λ x. Ok (Events.Edit x))
    else (if same_name word (codes "deliver")
    then (names_and_number_at path d >>= λ p. Ok (Events.Deliver p.0 p.1 p.2))
    else (if same_name word (codes "deliver-bytes")
    then (names_and_number_at path d >>= λ p. Ok (Events.DeliverOctets p.0 p.1 p.2))
    else (if same_name word (codes "lose") then (two_names_at path d >>= λ p. Ok (Events.Lose p.0 p.1))
    else (if same_name word (codes "connect") then (two_names_at path d >>= λ p. Ok (Events.Connect p.0 p.1))
    else (if same_name word (codes "restart") then (name_at path d >>= λ x. Ok (Events.Restart x))
    else (if same_name word (codes "show") then (name_at path d >>= λ x. Ok (Events.Show x))
    else (if same_name word (codes "trace") then (packet_at path d >>= λ x. Ok (Events.Trace x))
    else (if same_name word (codes "break")
    then (names_and_number_at path d >>= λ p. Ok (Events.Break p.0 p.1 p.2))
    else refused path Unknown))))))))

-- the event that a text is
abbrev pub event_named : List ℕ → Option Event
event_named text =
    if same_name text (codes "round") then Some Events.Round
    else (if same_name text (codes "settle") then Some Events.Settle
    else None)

abbrev pub event_of_text : List ℕ → List ℕ → Result Event Fault
event_of_text path text = wanted path Range (event_named text)

abbrev pub event_of : List ℕ → Data → Option (List ℕ) → Result Event Fault
event_of path d (Some text) = event_of_text path text
event_of path d None = one_member_at path d >>= λ m. event_from m.0 (member_path path m.0) m.1

-- a text, or an object with one member
unfoldable pub event_at : Reads Event
event_at path d = event_of path d (as_str d)

-- a list of events
abbrev pub events_at : Reads (List Event)
events_at = all_at event_at AnyNumber

-- what `run` takes
unfoldable pub run_at : Reads RunInput
run_at path d = do
  members ← object_at path d
  topology ← in_member topology_at path (codes "topology") d
  config ← in_member config_at path (codes "configuration") d
  events ← in_member events_at path (codes "events") d
  done ← only_at path (codes "topology" ∷ codes "configuration" ∷ codes "events" ∷ []) members
  Ok (record { input = record { topology = topology; config = config }; events = events })
