-- What the answer promises of packets.
use Rattle.std.specs.Prelude.{◌≡◌, ◌≢◌, ◌↔◌, ℕ, List, [], map, flat_map, Option, Some, None, Ok, IsTrue, if◌then◌else◌}
use Rattle.std.specs.List.{Contains}
use Rattle.std.specs.Io.KnownBytes.{Appends}
use Rattle.serde_json.specs.Data.{Data}
use Rattle.ov_io.specs.Json.{json_of}
use Rattle.ov_types.specs.declared.packet.Tuple.{Tuple}
use Rattle.config_types.specs.declared.config.Config.{Config}
use Rattle.config_types.specs.declared.config.Network.{Network}
use Rattle.config_model.specs.declared.input.CompileInput.{CompileInput}
use Rattle.config_model.specs.Input.{compile_at}
use Rattle.config_check.specs.Rules.{first_broken}
use Rattle.policy_rules.specs.declared.matching.Decision.{Decision}
use Rattle.policy_regions.specs.Parts.{IsTuple}
use Rattle.policy_regions.specs.Regions.{holds}
use Rattle.inspect_changes.specs.Lines.{is_asked}
use Rattle.inspect_changes.specs.Ways.{IsLetThrough, IsOnOneAtMost, ways_between}
use Rattle.inspect_changes.specs.declared.pairs.Pairs.{Pairs}
use Rattle.inspect_changes.specs.declared.pairs.Pairs.TheVariants.{All, Between}
use Rattle.inspect_changes.specs.declared.way.Passage.{Passage}
use Rattle.inspect_changes.specs.declared.way.Way.{Way}
use Rattle.inspect_json.specs.Form.{IsReadBack}
use Rattle.inspect_json.specs.Values.{way_value}
use Rattle.inspect_json.specs.WayLines.{way_in}
use Rattle.inspect_json.specs.declared.form.Form.{Form}

-- a line: a way, with the network that it is from and the one that it is to
pub record Line : Type 0 where
  pub from : Network
  pub to : Network
  pub way : Way

abbrev pub line_in : Form → Config → Line → List ℕ
line_in form c l = way_in form c l.from.name l.to.name l.way

-- what a line of JSON says
abbrev pub line_value : Config → Line → Data
line_value c l = way_value c l.from.name l.to.name l.way

-- the lines of two networks, where these are asked for
abbrev pub pair_lines : Pairs → Config → Network → Network → List Line
pair_lines pairs c a b =
    if is_asked pairs a b then map (λ w. record { from = a; to = b; way = w }) (ways_between c a b) else []

abbrev pub network_lines : Pairs → Config → Network → List Line
network_lines pairs c a = flat_map (pair_lines pairs c a) c.networks

abbrev pub lines_of : Pairs → Config → List Line
lines_of pairs c = flat_map (network_lines pairs c) c.networks

-- two networks are asked for: each two that differ, or the two of these names
abbrev pub IsAskedFor : Pairs → Network → Network → Type 0
IsAskedFor All a b = a.name ≢ b.name
IsAskedFor (Between from to) a b = (a.name ≡ from) × (b.name ≡ to)

-- a line holds a tuple that goes from one network to another, with this rule and in this way
pub record Tells (lines : List Line) (a b : Network) (t : Tuple) (d : Decision) (passage : Passage) : Type 0 where
  pub line : Line
  pub stands : Contains lines line
  pub from : line.from ≡ a
  pub to : line.to ≡ b
  pub on : IsTrue (holds line.way.region t)
  pub decided : line.way.decision ≡ d
  pub goes : line.way.passage ≡ passage

-- two networks of a configuration are asked for, and what decides between them lets a tuple through
pub record IsLetBetween (pairs : Pairs) (c : Config) (a b : Network) (t : Tuple) (d : Decision) (passage : Passage) : Type 0 where
  pub from_stands : Contains c.networks a
  pub to_stands : Contains c.networks b
  pub asked_for : IsAskedFor pairs a b
  pub let_through : IsLetThrough c a b t d passage

-- the input is a document of this topology and this configuration
abbrev pub IsWrittenIn : List ℕ → CompileInput → Type 0
IsWrittenIn octets p = (d : Data) × (json_of octets ≡ Some d) × (compile_at [] d ≡ Ok p)

-- the input has a valid configuration, and these lines of it were taken, in the form that is asked for: one holds a tuple of a
-- packet from one network to another exactly where these are asked for and the rule that decides lets it through, with that
-- rule and so; and the JSON of each line reads as what it says
pub record TookWays (form : Form) (pairs : Pairs) (octets : List ℕ) (old new : Option (List ℕ)) : Type 0 where
  pub input : CompileInput
  pub written : IsWrittenIn octets input
  pub valid : first_broken input.topology input.config ≡ None
  pub lines : List Line
  pub taken : Appends old new (flat_map (line_in form input.config) lines)
  pub exact : (a b : Network) (t : Tuple) (d : Decision) (passage : Passage) → IsTuple t
      → Tells lines a b t d passage ↔ IsLetBetween pairs input.config a b t d passage
  pub apart : (a b : Network) (t : Tuple) → IsTuple t → IsOnOneAtMost (ways_between input.config a b) t
  pub reads : (line : Line) → Contains lines line → IsReadBack (line_value input.config line)
