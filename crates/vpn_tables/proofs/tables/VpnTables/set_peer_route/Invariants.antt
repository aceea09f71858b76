use Rattle.vpn_tables.proofs.tables.VpnTables.set_peer_route.Given as goal

abbrev pub ghosts-set_route_on : goal.ghosts-set_route_on
ghosts-set_route_on a = record { name = a.blank.name; parts = a.blank.parts }
