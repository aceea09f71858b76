use Rattle.node_tests.proofs.counted.count.Given as goal

abbrev pub ghosts-count_unlead : goal.ghosts-count_unlead
ghosts-count_unlead a = record { name = a.blank.name; parts = a.blank.parts }

abbrev pub ghosts-count_publish : goal.ghosts-count_publish
ghosts-count_publish a = record { name = a.blank.name; parts = a.blank.parts }
