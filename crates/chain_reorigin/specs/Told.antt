-- The re-originated routes as peers are told them.
use Rattle.std.specs.Prelude.{List, map}
use Rattle.std.specs.FinMap.{entries, from_entries}
use Rattle.ov_types.specs.declared.vpn.VpnKey.{VpnKey}
use Rattle.ov_types.specs.declared.vpn.VpnRoute.{VpnRoute}
use Rattle.vpn_tables.specs.NodeModel.Paths.{Holdings, Path}
use Rattle.vpn_tables.specs.NodeModel.Reaching.{reoriginated_paths}
use Rattle.vpn_tables.specs.Views.{vpn_order}

-- a path as it is told
abbrev pub told_key : Path → VpnKey
told_key p = record { rd = p.rd; prefix = p.prefix }

abbrev pub told_path : Path → VpnKey × VpnRoute
told_path p = (told_key p, record { next_hop = p.next_hop; label = p.label; targets = p.targets })

-- the re-originated routes of a control node, in the order of their keys. Where some have one key, the first counts
abbrev pub reoriginated : Holdings → List (VpnKey × VpnRoute)
reoriginated h = entries (from_entries {R = vpn_order} (map told_path (reoriginated_paths h)))
