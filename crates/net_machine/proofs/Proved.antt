-- What single steps make of the state for which seats stand.
use Rattle.running_laws.specs.Asking.{PlacesSayWhatSessionsAre}
use Rattle.running_laws.specs.Breaking.{BreaksAreRemoved, BreaksAreSet}
use Rattle.running_laws.specs.Connecting.{ConnectionsAreMade, NearIsEarlier, NothingIsConnected}
use Rattle.running_laws.specs.Delivering.{MessagesAreDelivered, NothingIsDelivered, NoticesAreDelivered}
use Rattle.running_laws.specs.Delivering.{NoticesCountAsOctets, OctetsAreDelivered}
use Rattle.running_laws.specs.Editing.{EditsAreMade, FaultyEditsAreRefused}
use Rattle.running_laws.specs.Losing.{LossesAreMade, NothingIsLost, RestartsAreMade}

pub record Proved : Type 0 where
  pub say : PlacesSayWhatSessionsAre
  pub messages : MessagesAreDelivered
  pub notices : NoticesAreDelivered
  pub nothing : NothingIsDelivered
  pub octets : OctetsAreDelivered
  pub notice_octets : NoticesCountAsOctets
  pub breaks : BreaksAreSet
  pub removed : BreaksAreRemoved
  pub losses : LossesAreMade
  pub no_loss : NothingIsLost
  pub restarts : RestartsAreMade
  pub edits : EditsAreMade
  pub refused : FaultyEditsAreRefused
  pub connections : ConnectionsAreMade
  pub none_connected : NothingIsConnected
  pub near_earlier : NearIsEarlier
