-- The lines of what differs between two configurations, in the form that is asked for.
use Rattle.std.specs.Prelude.{ℕ, List, ◌++◌, flat_map}
use Rattle.config_types.specs.declared.config.Config.{Config}
use Rattle.inspect_changes.specs.DifferenceLines.{came_line, difference_line, went_line}
use Rattle.inspect_changes.specs.Fates.{all_differences}
use Rattle.inspect_changes.specs.Objects.{gone}
use Rattle.inspect_changes.specs.declared.fate.Difference.{Difference}
use Rattle.inspect_changes.specs.declared.objects.Object.{Object}
use Rattle.inspect_json.specs.ChangeValues.{came_value, difference_value, went_value}
use Rattle.inspect_json.specs.Form.{json_line}
use Rattle.inspect_json.specs.declared.form.Form.{Form}
use Rattle.inspect_json.specs.declared.form.Form.TheVariants.{Text, Json}

abbrev pub went_in : Form → Config → Object → List ℕ
went_in Text c o = went_line o
went_in Json c o = json_line (went_value c o)

abbrev pub came_in : Form → Config → Object → List ℕ
came_in Text c o = came_line o
came_in Json c o = json_line (came_value c o)

abbrev pub difference_in : Form → Config → Config → Difference → List ℕ
difference_in Text c d x = difference_line x
difference_in Json c d x = json_line (difference_value c d x)

-- the lines of what went from one configuration, of what came to another, and of what differs between both
abbrev pub lists_in : Form → Config → Config → List Object → List Object → List Difference → List ℕ
lists_in form c d went came differences =
    flat_map (went_in form c) went ++ (flat_map (came_in form d) came ++ flat_map (difference_in form c d) differences)

-- what `inspect diff` writes of two valid configurations
unfoldable pub diff_in : Form → Config → Config → List ℕ
diff_in form c d = lists_in form c d (gone c d) (gone d c) (all_differences c d)
