use Rattle.control_wants.proofs.dirty.Dirty.set_peer_route.Given as goal

abbrev pub ghosts-change_route : goal.ghosts-change_route
ghosts-change_route a = record { name = a.blank.name; parts = a.blank.parts }
