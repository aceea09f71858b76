-- An edit changes no control node.
use Rattle.std.specs.Prelude.{◌≡◌, refl}
use Rattle.config_types.specs.declared.edit.Edit.{Edit}
use Rattle.config_types.specs.declared.edit.Edit.TheVariants.{Put, Delete}
use Rattle.config_types.specs.declared.edit.Object.TheVariants as objects
use Rattle.config_types.specs.declared.edit.ObjectKind.TheVariants as kinds
use Rattle.config_types.specs.declared.topology.Topology.{Topology}
use Rattle.config_check.specs.Edits.{edited_topology}

pub controllers_stay : (e : Edit) (t : Topology) → (edited_topology e t).controllers ≡ t.controllers
unfolding edited_topology
controllers_stay (Put (objects.Node x)) t = refl
controllers_stay (Put (objects.Network x)) t = refl
controllers_stay (Put (objects.Port x)) t = refl
controllers_stay (Put (objects.Policy x)) t = refl
controllers_stay (Put (objects.Service x)) t = refl
controllers_stay (Put (objects.Chain x)) t = refl
controllers_stay (Delete kinds.Node name) t = refl
controllers_stay (Delete kinds.Network name) t = refl
controllers_stay (Delete kinds.Port name) t = refl
controllers_stay (Delete kinds.Policy name) t = refl
controllers_stay (Delete kinds.Service name) t = refl
controllers_stay (Delete kinds.Chain name) t = refl
