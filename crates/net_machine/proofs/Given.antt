-- What single steps make of the state for which seats stand, as it is proved.
use Rattle.running_laws.specs.Moments.{IsMoment}
use Rattle.running_laws.proofs.Asked.{sessions_said}
use Rattle.running_laws.proofs.Broken.{breaks_are_removed, breaks_are_set}
use Rattle.running_laws.proofs.Connections.{connections_are_made, near_is_earlier, nothing_is_connected}
use Rattle.running_laws.proofs.Delivered.{messages_are_delivered, nothing_is_delivered, notices_are_delivered}
use Rattle.running_laws.proofs.Edited.{edits_are_made, faulty_edits_are_refused}
use Rattle.running_laws.proofs.Given.{given}
use Rattle.running_laws.proofs.Lost.{losses_are_made, nothing_is_lost}
use Rattle.running_laws.proofs.Octets.{notices_count_as_octets, octets_are_delivered}
use Rattle.running_laws.proofs.Restarted.{restarts_are_made}
use Rattle.net_machine.proofs.Facts.{Facts}
use Rattle.net_machine.proofs.Known.{known}
use Rattle.net_machine.proofs.Proved.{Proved}

proved : Proved
proved = record {
  say = sessions_said given;
  messages = messages_are_delivered given;
  notices = notices_are_delivered given;
  nothing = nothing_is_delivered given;
  octets = octets_are_delivered given;
  notice_octets = notices_count_as_octets given;
  breaks = breaks_are_set given;
  removed = breaks_are_removed given;
  losses = losses_are_made given;
  no_loss = nothing_is_lost given;
  restarts = restarts_are_made given;
  edits = edits_are_made given;
  refused = faulty_edits_are_refused;
  connections = connections_are_made given;
  none_connected = nothing_is_connected given;
  near_earlier = near_is_earlier given;
}

pub facts : Facts IsMoment
facts = known proved
