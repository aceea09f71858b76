use Rattle.hitless_cells.proofs.comparing.know_written.Goals as goal

pub returns : goal.returns
returns c = record { form = c.config-config.ensures.config_form; valid = c.config-config.ensures.valid }
