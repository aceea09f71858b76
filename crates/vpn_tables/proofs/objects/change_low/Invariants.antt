use Rattle.vpn_tables.proofs.objects.change_low.Given as goal

abbrev pub ghosts-put_object : goal.ghosts-put_object
ghosts-put_object a = record { name = a.blank.name; parts = a.blank.parts }
