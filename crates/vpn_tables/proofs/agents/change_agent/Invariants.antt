use Rattle.vpn_tables.proofs.agents.change_agent.Given as goal

abbrev pub ghosts-change_on : goal.ghosts-change_on
ghosts-change_on a = record { name = a.blank.name; parts = a.blank.parts }
