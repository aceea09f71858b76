-- What is answered to `why`: the outcome of each packet, what it comes of, and its walk over compiled tables.
use Rattle.std.specs.Prelude.{◌≡◌, ◌<◌, ◌^◌, ℕ, Bool, ◌+◌, List, [], ◌∷◌, ◌++◌, flat_map, length, slice_get, Option, Some, None, Ok}
use Rattle.std.specs.List.{Contains, list_all}
use Rattle.std.specs.Io.KnownBytes.{Appends}
use Rattle.serde_json.specs.Data.{Data}
use Rattle.ov_io.specs.Json.{json_of}
use Rattle.ov_types.specs.declared.packet.Outcome.{Outcome}
use Rattle.ov_types.specs.declared.packet.Packet.{Packet}
use Rattle.config_types.specs.declared.config.Config.{Config}
use Rattle.config_model.specs.Input.{reach_at}
use Rattle.config_model.specs.declared.input.ReachInput.{ReachInput}
use Rattle.config_check.specs.Checked.{Checked}
use Rattle.config_check.specs.Rules.{first_broken}
use Rattle.reach_plain.specs.Reachability.{reachability}
use Rattle.inspect_changes.specs.Report.Outcomes.{outcome_line}
use Rattle.inspect_rules.specs.CauseLines.{cause_line}
use Rattle.inspect_rules.specs.Causes.{causes}
use Rattle.inspect_rules.specs.Explaining.{Explain}
use Rattle.inspect_rules.specs.declared.cause.Cause.{Cause}
use Rattle.inspect_walks.specs.Lines.{step_line}
use Rattle.inspect_walks.specs.Sizes.{has_step_size}
use Rattle.inspect_walks.specs.Told.{TellsWalk, told_walk}
use Rattle.inspect_walks.specs.declared.told_step.ToldStep.{ToldStep}
use Rattle.inspect_json.specs.Form.{IsReadBack, json_line}
use Rattle.inspect_json.specs.ReasonValues.{explained_value}
use Rattle.inspect_json.specs.declared.form.Form.{Form}
use Rattle.inspect_json.specs.declared.form.Form.TheVariants.{Text, Json}

-- an outcome, what it comes of, and the walk, a line each, behind the number of the packet
abbrev pub explained_text : ℕ → Outcome → List Cause → List ToldStep → List ℕ
explained_text n outcome causes walk = outcome_line n outcome ++ (flat_map (cause_line n) causes ++ flat_map (step_line n) walk)

-- an outcome, what it comes of, and the walk, in the form that is asked for: as JSON in one line
abbrev pub explained_in : Form → Config → ℕ → Outcome → List Cause → List ToldStep → List ℕ
explained_in Text c n outcome causes walk = explained_text n outcome causes walk
explained_in Json c n outcome causes walk = json_line (explained_value c n outcome causes walk)

abbrev pub packet_in : Form → Checked → ℕ → Packet → List ℕ
packet_in form v n p = explained_in form v.config n (reachability v.config p) (causes v.config p) (told_walk v p)

-- the lines of packets, the first with a number
abbrev pub packets_from : Form → Checked → ℕ → List Packet → List ℕ
packets_from form v n [] = []
packets_from form v n (p ∷ ps) = packet_in form v n p ++ packets_from form v (n + 1) ps

-- what `inspect why` writes of a valid configuration and of packets, which count from 1
unfoldable pub why_in : Form → Checked → List Packet → List ℕ
why_in form v packets = packets_from form v 1 packets

-- the steps of the walk of a packet have names of the form of names, and numbers of the sizes that their types have
abbrev pub has_walk_size : Checked → Packet → Bool
has_walk_size v p = list_all has_step_size (told_walk v p)

-- what is told of a packet: its number, its outcome, what that comes of, and its walk
pub record Explained : Type 0 where
  pub number : ℕ
  pub outcome : Outcome
  pub causes : List Cause
  pub walk : List ToldStep

abbrev pub told_in : Form → Config → Explained → List ℕ
told_in form c x = explained_in form c x.number x.outcome x.causes x.walk

-- what a line of JSON says
abbrev pub told_value : Config → Explained → Data
told_value c x = explained_value c x.number x.outcome x.causes x.walk

-- a packet is explained: its number counts from 1, its outcome is what becomes of it, the causes explain that, and its walk
-- over the tables that the configuration is compiled to is told, which ends as the outcome says
pub record IsExplained (v : Checked) (place : ℕ) (p : Packet) (x : Explained) : Type 0 where
  pub number : x.number ≡ place + 1
  pub outcome : x.outcome ≡ reachability v.config p
  pub explain : Explain v.config p x.causes
  pub walk : TellsWalk v p x.outcome x.walk

-- the input is a document of this topology, this configuration and these packets
abbrev pub IsAskedIn : List ℕ → ReachInput → Type 0
IsAskedIn octets r = (d : Data) × (json_of octets ≡ Some d) × (reach_at [] d ≡ Ok r)

-- the topology and the configuration that were read
abbrev pub checked_of : ReachInput → Checked
checked_of r = record { topology = r.input.topology; config = r.input.config }

-- the input has a valid configuration and packets, what is told of each packet was taken in the form that is asked for, in their
-- order, and the JSON of each reads as what it says (of fewer than 2 ^ 64 packets)
pub record TookExplained (form : Form) (octets : List ℕ) (old new : Option (List ℕ)) : Type 0 where
  pub read : ReachInput
  pub written : IsAskedIn octets read
  pub valid : first_broken read.input.topology read.input.config ≡ None
  pub explained : List Explained
  pub taken : Appends old new (flat_map (told_in form read.input.config) explained)
  pub many : length explained ≡ length read.packets
  pub each : (place : ℕ) (p : Packet) (x : Explained) → slice_get read.packets place ≡ Some p → slice_get explained place ≡ Some x
      → IsExplained (checked_of read) place p x
  pub reads : length read.packets < 2 ^ 64 → (x : Explained) → Contains explained x → IsReadBack (told_value read.input.config x)
