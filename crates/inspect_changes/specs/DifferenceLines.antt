-- The lines of what differs between two configurations.
use Rattle.std.specs.Prelude.{ℕ, List, ◌∷◌, [], ◌++◌, codes, decimal, flat_map}
use Rattle.ov_types.specs.Rows.{rule_text}
use Rattle.ov_types.specs.Texts.{address_text, prefix_text}
use Rattle.config_types.specs.declared.config.Config.{Config}
use Rattle.report.specs.Outcomes.{services_text}
use Rattle.inspect_changes.specs.Fates.{all_differences}
use Rattle.inspect_changes.specs.Lines.{region_text}
use Rattle.inspect_changes.specs.Objects.{gone}
use Rattle.inspect_changes.specs.declared.fate.Difference.{Difference}
use Rattle.inspect_changes.specs.declared.fate.Fate.{Fate}
use Rattle.inspect_changes.specs.declared.fate.Fate.TheVariants.{Passed, Through, Denied, Unmatched}
use Rattle.inspect_changes.specs.declared.objects.Object.{Object}
use Rattle.inspect_changes.specs.declared.objects.Object.TheVariants as Is

-- an object, as it is printed
abbrev pub object_text : Object → List ℕ
object_text (Is.Network name) = codes "network " ++ name
object_text (Is.Subnet network prefix) = codes "subnet " ++ (network ++ (codes " " ++ prefix_text prefix))
object_text (Is.Port number network address node) =
    codes "port " ++ (decimal number.0 ++ (codes " network " ++ (network ++ (codes " address " ++ (address_text address.0
    ++ (codes " node " ++ node))))))
object_text (Is.Service number node) = codes "service " ++ (decimal number.0 ++ (codes " node " ++ node))

-- an object that one of two configurations has alone: it went, or it came
unfoldable pub went_line : Object → List ℕ
went_line o = codes "went " ++ (object_text o ++ (10 ∷ []))

unfoldable pub came_line : Object → List ℕ
came_line o = codes "came " ++ (object_text o ++ (10 ∷ []))

-- what becomes of packets, as it is printed: `-` stands where no rule decides
abbrev pub fate_text : Fate → List ℕ
fate_text (Passed rule) = codes "passed " ++ rule_text rule
fate_text (Through rule services) = codes "through " ++ (rule_text rule ++ (codes " services " ++ services_text services))
fate_text (Denied rule) = codes "denied " ++ rule_text rule
fate_text Unmatched = codes "denied -"

-- a difference: the networks, the region, what became of its packets and what becomes
unfoldable pub difference_line : Difference → List ℕ
difference_line x =
    x.from ++ (codes " > " ++ (x.to ++ (codes " " ++ (region_text x.region ++ (codes ": " ++ (fate_text x.was
    ++ (codes " => " ++ (fate_text x.becomes ++ (10 ∷ [])))))))))

abbrev pub lists_text : List Object → List Object → List Difference → List ℕ
lists_text went came differences =
    flat_map went_line went ++ (flat_map came_line came ++ flat_map difference_line differences)

-- what `inspect diff` writes of two valid configurations: what went, what came, and then the differences
unfoldable pub diff_text : Config → Config → List ℕ
diff_text c d = lists_text (gone c d) (gone d c) (all_differences c d)
