use Rattle.vpn_tables.proofs.tables.VpnTables.set_publication.Given as goal

abbrev pub ghosts-set_publication_on : goal.ghosts-set_publication_on
ghosts-set_publication_on a = record { name = a.blank.name; parts = a.blank.parts }
