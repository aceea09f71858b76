-- The routes that lead on, use by use.
use Rattle.std.specs.Prelude.{List, []}
use Rattle.std.specs.declared.option.Option.{Option}
use Rattle.std.specs.declared.option.Option.TheVariants.{Some, None}
use Rattle.std.specs.List.{flat_map}
use Rattle.ov_types.specs.declared.objects.LowKey.{LowKey}
use Rattle.ov_types.specs.declared.objects.LowKey.TheVariants as key
use Rattle.path_select.specs.NodeModel.Maps.{Map, object}
use Rattle.path_select.specs.NodeModel.Uses.{Use, use_from}
use Rattle.path_select.specs.NodeModel.Paths.{Holdings, Path}
use Rattle.path_select.specs.NodeModel.Reaching.{Side, below, into, is_up, sides_of}

-- the routes that lead on along a side
abbrev pub leads : Holdings → Side → List Path
leads h s = flat_map (into (is_up h) h s) (below s.chain.services)

-- the use that is held at a key
abbrev pub use_at : Map → LowKey → Option Use
use_at feed (key.ChainUse number) = use_from number (object feed (key.ChainUse number))
use_at feed _ = None

abbrev pub sides_of_held : Option Use → List Side
sides_of_held None = []
sides_of_held (Some u) = sides_of u
