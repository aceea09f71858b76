-- The written form of what `hitless` takes.
use Rattle.std.specs.Prelude.{◌∷◌, [], List, codes, Ok}
use Rattle.config_types.specs.declared.edit.Edit.{Edit}
use Rattle.config_model.specs.declared.fields.Count.TheVariants.{AnyNumber}
use Rattle.config_model.specs.Config.{config_at}
use Rattle.config_model.specs.Edit.{edit_at}
use Rattle.config_model.specs.Faults.{◌>>=◌}
use Rattle.config_model.specs.Fields.{Reads, all_at, in_member, object_at, only_at}
use Rattle.config_model.specs.Topology.{topology_at}
use Rattle.hitless_answers.specs.declared.input.HitlessInput.{HitlessInput}

-- a list of edits
abbrev pub edits_at : Reads (List Edit)
edits_at = all_at edit_at AnyNumber

-- what `hitless` takes
unfoldable pub hitless_at : Reads HitlessInput
hitless_at path d = do
  members ← object_at path d
  topology ← in_member topology_at path (codes "topology") d
  config ← in_member config_at path (codes "configuration") d
  edits ← in_member edits_at path (codes "edits") d
  done ← only_at path (codes "topology" ∷ codes "configuration" ∷ codes "edits" ∷ []) members
  Ok (record { input = record { topology = topology; config = config }; edits = edits })
