-- Where the end of a session stands among those of its kind.
use Rattle.std.specs.Prelude.{◌≡◌, ◌<◌, ◌+◌, ℕ, suc}
use Rattle.control_node.specs.declared.closing.EndPlace.{EndPlace}
use Rattle.control_node.specs.declared.closing.EndPlace.TheVariants.{Feed, Peer, Agent}

-- a session's end stands there, where there are so many peers
abbrev pub IsPlace : ℕ → ℕ → EndPlace → Type 0
IsPlace peers session Feed = session ≡ 0
IsPlace peers session (Peer i) = (session ≡ suc i) × (i < peers)
IsPlace peers session (Agent i) = session ≡ suc (peers + i)
