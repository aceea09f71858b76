use Rattle.node_tests.proofs.changed.tell_changed.Given as goal

abbrev pub ghosts-unlead : goal.ghosts-unlead
ghosts-unlead a = record { name = a.blank.name; parts = a.blank.parts }

abbrev pub ghosts-publish : goal.ghosts-publish
ghosts-publish a = record { name = a.blank.name; parts = a.blank.parts }
