-- The lines of walks.
use Rattle.std.specs.Prelude.{ℕ, List, [], ◌∷◌, ◌++◌, codes, decimal, Option, Some, None}
use Rattle.ov_types.specs.Prefix.{Block}
use Rattle.ov_types.specs.Texts.{address_text, prefix_text}
use Rattle.ov_types.specs.declared.rows.Entry.{Entry}
use Rattle.inspect_walks.specs.declared.told_step.Owner.{Owner}
use Rattle.inspect_walks.specs.declared.told_step.Owner.TheVariants as Of
use Rattle.inspect_walks.specs.declared.told_step.LeadsTo.{LeadsTo}
use Rattle.inspect_walks.specs.declared.told_step.LeadsTo.TheVariants as To
use Rattle.inspect_walks.specs.declared.told_step.ToldStep.{ToldStep}

abbrev pub name_text : Option (List ℕ) → List ℕ
name_text None = codes "-"
name_text (Some name) = name

-- a row as `compile` prints it: its prefix, its next hop and its label; `-` where none is taken
abbrev pub row_text : Option (Block × Entry) → List ℕ
row_text None = codes "-"
row_text (Some row) = prefix_text row.0 ++ (codes " " ++ (address_text row.1.next_hop.0 ++ (codes " " ++ decimal row.1.label.0)))

abbrev pub owner_text : Owner → List ℕ
owner_text (Of.Network name) = codes "network " ++ name
owner_text (Of.Hop h) = codes "use " ++ (decimal h.use_no ++ (codes " hop " ++ decimal h.place))
owner_text Of.Nothing = codes "-"

abbrev pub leads_text : LeadsTo → List ℕ
leads_text (To.Port port name) = codes "port " ++ name_text name
leads_text (To.Service service name) = codes "service " ++ name_text name
leads_text To.Nothing = codes "-"

abbrev pub step_text : ToldStep → List ℕ
step_text s =
    codes "agent " ++ (name_text s.agent ++ (codes " table " ++ (decimal s.instance.0 ++ (codes " " ++ (row_text s.row
    ++ (codes " of " ++ (owner_text s.owner ++ (codes " to " ++ leads_text s.leads))))))))

-- a step, behind the number of its packet
unfoldable pub step_line : ℕ → ToldStep → List ℕ
step_line n s = decimal n ++ (codes " " ++ (step_text s ++ (10 ∷ [])))
