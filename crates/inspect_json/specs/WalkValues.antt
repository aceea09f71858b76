-- The JSON values of the steps of walks.
use Rattle.std.specs.Prelude.{ℕ, List, codes, Option, Some, None}
use Rattle.serde_json.specs.Data.{Data, member, no_members, null, object, string}
use Rattle.ov_types.specs.Prefix.{Block}
use Rattle.ov_types.specs.Texts.{address_text, prefix_text}
use Rattle.ov_types.specs.declared.rows.Entry.{Entry}
use Rattle.inspect_walks.specs.declared.told_step.LeadsTo.{LeadsTo}
use Rattle.inspect_walks.specs.declared.told_step.LeadsTo.TheVariants as To
use Rattle.inspect_walks.specs.declared.told_step.Owner.{Owner}
use Rattle.inspect_walks.specs.declared.told_step.Owner.TheVariants as Of
use Rattle.inspect_walks.specs.declared.told_step.ToldStep.{ToldStep}
use Rattle.inspect_json.specs.ChangeValues.{network_value}
use Rattle.inspect_json.specs.Values.{name_value, number_value}

-- a hop of a chain's use
unfoldable pub hop_value : ℕ → ℕ → Data
hop_value use_no place = object (member (codes "hop") (number_value place)
    (member (codes "kind") (string (codes "use"))
    (member (codes "use") (number_value use_no) no_members)))

-- what a table is of, and `null` where it is of nothing
abbrev pub owner_value : Owner → Data
owner_value (Of.Network name) = network_value name
owner_value (Of.Hop h) = hop_value h.use_no h.place
owner_value Of.Nothing = null

-- a row as `compile` has it
unfoldable pub entry_value : Block → Entry → Data
entry_value prefix e = object (member (codes "label") (number_value e.label.0)
    (member (codes "next_hop") (string (address_text e.next_hop.0))
    (member (codes "prefix") (string (prefix_text prefix)) no_members)))

-- the row that is taken, and `null` where none is
abbrev pub row_value : Option (Block × Entry) → Data
row_value None = null
row_value (Some row) = entry_value row.0 row.1

-- a number of what a step leads to, with its name
unfoldable pub end_value : List ℕ → ℕ → Option (List ℕ) → Data
end_value kind number name = object (member (codes "id") (number_value number)
    (member (codes "kind") (string kind)
    (member (codes "name") (name_value name) no_members)))

-- what a step leads to, and `null` where it leads to nothing
abbrev pub leads_value : LeadsTo → Data
leads_value (To.Port port name) = end_value (codes "port") port.0 name
leads_value (To.Service service name) = end_value (codes "service") service.0 name
leads_value To.Nothing = null

-- a step, in the words of its line
unfoldable pub step_value : ToldStep → Data
step_value s = object (member (codes "agent") (name_value s.agent)
    (member (codes "of") (owner_value s.owner)
    (member (codes "row") (row_value s.row)
    (member (codes "table") (number_value s.instance.0)
    (member (codes "to") (leads_value s.leads) no_members)))))
