-- What is gathered of what agents told, and what holds of every feed that is held.
use Rattle.std.specs.Prelude.{◌≤◌, ◌++◌, List, map}
use Rattle.std.specs.declared.cmp.Ordering.{Ordering}
use Rattle.std.specs.declared.option.Option.{Option}
use Rattle.std.specs.declared.option.Option.TheVariants.{Some, None}
use Rattle.std.specs.List.{filter_map, flat_map}
use Rattle.std.specs.FinMap.{entries, from_entries, keys}
use Rattle.ov_types.specs.Prefix.{Block}
use Rattle.ov_types.specs.declared.keys.UpKey.{UpKey}
use Rattle.ov_types.specs.declared.keys.UpKey.TheVariants as Up
use Rattle.path_select.specs.NodeModel.Keys.{Key, Publish, Subscribe, Vpn}
use Rattle.path_select.specs.NodeModel.Members.{Member}
use Rattle.path_select.specs.NodeModel.Values.{Value, Label}
use Rattle.path_select.specs.NodeModel.Maps.{Map}
use Rattle.path_select.specs.NodeModel.Uses.{Use, uses}
use Rattle.path_select.specs.NodeModel.Paths.{Holdings, Told}

abbrev pub keyed : {K : Type 0} → K → K × Unit {0}
keyed x = (x, tt)

-- what is in a list, each once, in the order of keys
abbrev pub in_order : {K : Type 0} → (K → K → Ordering) → List K → List K
in_order R xs = keys (from_entries {R = R} (map keyed xs))

-- the key of a publication, and that of a subscription
abbrev pub up_key : Key → Value → Option UpKey
up_key (Publish i prefix) (Label label) = Some (Up.Publish i prefix)
up_key (Subscribe i) value = Some (Up.Subscribe i)
up_key _ _ = None

-- the keys of what an agent told
abbrev pub keys_told : Told → List UpKey
keys_told a = filter_map (λ e. up_key e.0 e.1) (entries a.map)

-- the keys of what all agents told, one after the other
abbrev pub held_keys : Holdings → List UpKey
held_keys h = flat_map keys_told h.agents

-- the prefixes of what agents and peers told
abbrev pub prefix_in : Key → Option Block
prefix_in (Publish i prefix) = Some prefix
prefix_in (Vpn k) = Some k.prefix
prefix_in _ = None

abbrev pub prefixes_in : Map → List Block
prefixes_in m = filter_map (λ e. prefix_in e.0) (entries m)

abbrev pub prefixes_told : Holdings → List Block
prefixes_told h = flat_map (λ a. prefixes_in a.map) h.agents ++ flat_map prefixes_in h.peers

-- each held use has one of 3072 numbers, and at most 15 services
abbrev pub UsesAreInRange : Map → Type 0
UsesAreInRange feed = (u : Use) → Member u (uses feed) → (u.number ≤ 3071) × (u.services ≤ 15)
