-- What stays of what is held, as maps in it change.
use Rattle.std.specs.Prelude.{◌≡◌, length, map}
use Rattle.control_wants.specs.Held.{HoldingsFit}
use Rattle.node_core.specs.NodeModel.Paths.{Holdings}
use Rattle.control_node.specs.Ends.{seat}

-- what is held has as many sessions as before, and still fits
pub record StaysHeld (h h' : Holdings) : Type 0 where
  pub asn : h'.asn ≡ h.asn
  pub peers : length h'.peers ≡ length h.peers
  pub agents : map seat h'.agents ≡ map seat h.agents
  pub fit : HoldingsFit h → HoldingsFit h'
