use Rattle.acl_compile.proofs.Kept.{action_form}
use Rattle.acl_compile.proofs.entries.mirrored_entry.Goals as goal

pub does-requires-clause-form : goal.does-requires-clause-form
does-requires-clause-form c = action_form c.args.rule.now.rule c.requires.form
