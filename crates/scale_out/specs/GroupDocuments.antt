-- The document of groups: objects with each member under its own name, in the order of the names.
use Rattle.std.specs.Prelude.{List, codes}
use Rattle.serde_json.specs.Data.{Data, string, object, no_members, member}
use Rattle.config_model.specs.Documents.{list_document, number_document}
use Rattle.scale_out.specs.declared.groups.Group.{Group}

abbrev pub group_document : Group → Data
group_document g = object (member (codes "members") (list_document number_document g.members)
    (member (codes "service") (string g.service) no_members))

abbrev pub groups_document : List Group → Data
groups_document groups = list_document group_document groups
