use Rattle.bgp_wire.specs.Content.{Notifies}
use Rattle.bgp_wire.proofs.Spelling.{read_again, notification_says}
use Rattle.bgp_wire.proofs.write.write_notification.Goals as goal

pub returns-clause-read_again : goal.returns-clause-read_again
returns-clause-read_again c = read_again (Notifies c.args.code c.args.subcode) (notification_says c.args.code c.args.subcode)
