-- The lines of ways, in the form that is asked for.
use Rattle.std.specs.Prelude.{ℕ, List, [], flat_map, if◌then◌else◌}
use Rattle.config_types.specs.declared.config.Config.{Config}
use Rattle.config_types.specs.declared.config.Network.{Network}
use Rattle.inspect_changes.specs.Lines.{is_asked, way_line}
use Rattle.inspect_changes.specs.Ways.{ways_between}
use Rattle.inspect_changes.specs.declared.pairs.Pairs.{Pairs}
use Rattle.inspect_changes.specs.declared.way.Way.{Way}
use Rattle.inspect_json.specs.Form.{json_line}
use Rattle.inspect_json.specs.Values.{way_value}
use Rattle.inspect_json.specs.declared.form.Form.{Form}
use Rattle.inspect_json.specs.declared.form.Form.TheVariants.{Text, Json}

-- the line of a way, behind the names of its two networks
abbrev pub way_in : Form → Config → List ℕ → List ℕ → Way → List ℕ
way_in Text c from to w = way_line from to w
way_in Json c from to w = json_line (way_value c from to w)

-- the ways from one network to another
abbrev pub between_in : Form → Config → Network → Network → List ℕ
between_in form c a b = flat_map (way_in form c a.name b.name) (ways_between c a b)

abbrev pub pair_in : Form → Pairs → Config → Network → Network → List ℕ
pair_in form pairs c a b = if is_asked pairs a b then between_in form c a b else []

-- the ways from one network to each, in the document's order
abbrev pub network_in : Form → Pairs → Config → Network → List ℕ
network_in form pairs c a = flat_map (pair_in form pairs c a) c.networks

-- what `inspect ways` writes of a valid configuration
unfoldable pub ways_in : Form → Pairs → Config → List ℕ
ways_in form pairs c = flat_map (network_in form pairs c) c.networks
