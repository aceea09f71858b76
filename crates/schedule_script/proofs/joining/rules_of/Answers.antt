use Rattle.schedule_script.proofs.Alike.{few_rules_of}
use Rattle.schedule_script.proofs.joining.rules_of.Goals as goal

pub all_rules-requires : goal.all_rules-requires
all_rules-requires c = few_rules_of c.args.valid.now.topology c.args.valid.now.config c.config.result.now c.config.ensures.part c.config.ensures.valid
