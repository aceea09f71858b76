-- The texts of rows and of the numbers of rules.
use Rattle.std.specs.Prelude.{ℕ, List, ◌++◌, codes, decimal}
use Rattle.ov_types.specs.Texts.{address_text, distinguisher_text}
use Rattle.ov_types.specs.declared.packet.RuleNo.{RuleNo}
use Rattle.ov_types.specs.declared.rows.TableRow.{TableRow}

-- the distinguisher, the next hop and the label
unfoldable pub table_row_text : TableRow → List ℕ
table_row_text r =
    distinguisher_text r.rd.0 ++ (codes " " ++ (address_text r.next_hop.0 ++ (codes " " ++ decimal r.label.0)))

-- the number of a rule: the sequence of its policy, `/` and its position
abbrev pub rule_text : RuleNo → List ℕ
rule_text r = decimal r.sequence ++ (codes "/" ++ decimal r.position)
