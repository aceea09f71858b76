-- Which steps have names of the form of names, and numbers of the sizes that their types have.
use Rattle.std.specs.Prelude.{ℕ, ◌&&◌, List, Bool, true, nat_le, Option, Some, None}
use Rattle.ov_types.specs.Name.{is_name}
use Rattle.ov_types.specs.Prefix.{Block}
use Rattle.ov_types.specs.declared.rows.Entry.{Entry}
use Rattle.inspect_walks.specs.declared.told_step.LeadsTo.{LeadsTo}
use Rattle.inspect_walks.specs.declared.told_step.LeadsTo.TheVariants as To
use Rattle.inspect_walks.specs.declared.told_step.Owner.{Owner}
use Rattle.inspect_walks.specs.declared.told_step.Owner.TheVariants as Of
use Rattle.inspect_walks.specs.declared.told_step.ToldStep.{ToldStep}

abbrev pub has_name_size : Option (List ℕ) → Bool
has_name_size None = true
has_name_size (Some name) = is_name name

abbrev pub has_owner_size : Owner → Bool
has_owner_size (Of.Network name) = is_name name
has_owner_size (Of.Hop h) = nat_le h.use_no 65535 && nat_le h.place 255
has_owner_size Of.Nothing = true

abbrev pub has_row_size : Option (Block × Entry) → Bool
has_row_size None = true
has_row_size (Some row) = nat_le row.0.len 255 && nat_le row.1.label.0 0xffff_ffff

abbrev pub has_leads_size : LeadsTo → Bool
has_leads_size (To.Port port name) = nat_le port.0 0xffff_ffff && has_name_size name
has_leads_size (To.Service service name) = nat_le service.0 65535 && has_name_size name
has_leads_size To.Nothing = true

abbrev pub has_step_size : ToldStep → Bool
has_step_size s = has_name_size s.agent && nat_le s.instance.0 65535 && has_owner_size s.owner && has_row_size s.row && has_leads_size s.leads
