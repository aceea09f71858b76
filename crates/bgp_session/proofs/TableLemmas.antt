-- Each cell of the table, and its words.
use Rattle.std.proofs.Common.{◌≡◌, arith}
use Rattle.bgp_session.specs.declared.event.State.{State}
use Rattle.bgp_session.specs.Inputs.{Came}
use Rattle.bgp_session.specs.Happenings.{next_state, next_happening}
use Rattle.bgp_session.specs.Words.{step_of}

pub words_of : (state : State) (came : Came) → (next_state state came, next_happening state came) ≡ step_of state came
words_of state came = grind arith
