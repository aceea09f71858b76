use Rattle.control_wants.proofs.dirty.Dirty.set_publication.Given as goal

abbrev pub ghosts-change_publication : goal.ghosts-change_publication
ghosts-change_publication a = record { name = a.blank.name; parts = a.blank.parts }
