-- What each state does with each input, in words.
use Rattle.std.specs.Prelude.{None}
use Rattle.bgp_session.specs.declared.event.State.{State}
use Rattle.bgp_session.specs.declared.event.State.TheVariants.{Idle, OpenSent, OpenConfirm, Established}
use Rattle.bgp_session.specs.declared.event.Reply.TheVariants.{Hello, Keepalive}
use Rattle.bgp_session.specs.declared.event.Cause.TheVariants.{Notified, Ended}
use Rattle.bgp_session.specs.Inputs.{Came, Opened, RightOpen, WrongOpen, KeepaliveCame, RightUpdate, WrongUpdate}
use Rattle.bgp_session.specs.Inputs.{NotificationCame, BadFrame, Closed}
use Rattle.bgp_session.specs.Happenings.{Happening, Passes, Sends, ComesUp, HandsOut, GoesDown, refusal, out_of_order}

-- the next state, and what happens
abbrev pub Step : Type 0
Step = State × Happening

-- the session is over, and Idle again: without a word, for a fault, or for an input that does not belong to the state
abbrev ends : Came → Step
ends (NotificationCame code subcode) = (Idle, GoesDown (Notified code subcode) None)
ends Closed = (Idle, GoesDown Ended None)
ends (WrongOpen f) = (Idle, refusal f)
ends (WrongUpdate f) = (Idle, refusal f)
ends (BadFrame f) = (Idle, refusal f)
ends _ = (Idle, refusal out_of_order)

abbrev does_not_belong : Step
does_not_belong = (Idle, refusal out_of_order)

-- a session that is not open is opened by its connection, and passes over all else
abbrev in_idle : Came → Step
in_idle Opened = (OpenSent, Sends Hello)
in_idle _ = (Idle, Passes)

-- a session that sent its OPEN waits for a right OPEN, which it answers by a KEEPALIVE
abbrev in_open_sent : Came → Step
in_open_sent Opened = (OpenSent, Passes)
in_open_sent (RightOpen wide) = (OpenConfirm, Sends Keepalive)
in_open_sent (WrongUpdate f) = does_not_belong
in_open_sent came = ends came

-- a session that answered the OPEN waits for a KEEPALIVE, at which it comes up
abbrev in_open_confirm : Came → Step
in_open_confirm Opened = (OpenConfirm, Passes)
in_open_confirm KeepaliveCame = (Established, ComesUp)
in_open_confirm (WrongUpdate f) = does_not_belong
in_open_confirm came = ends came

-- a session that is up takes KEEPALIVEs and right UPDATEs; an OPEN, right or wrong, does not belong here
abbrev in_established : Came → Step
in_established Opened = (Established, Passes)
in_established KeepaliveCame = (Established, Passes)
in_established (RightUpdate deltas) = (Established, HandsOut deltas)
in_established (WrongOpen f) = does_not_belong
in_established came = ends came

abbrev pub step_of : State → Came → Step
step_of Idle = in_idle
step_of OpenSent = in_open_sent
step_of OpenConfirm = in_open_confirm
step_of Established = in_established
