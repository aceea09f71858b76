-- What octets make of an end.
use Rattle.std.specs.Prelude.{◌≡◌, ℕ, List, [], Option}
use Rattle.item_wire.specs.Happenings.{SessionFields}
use Rattle.item_wire.specs.declared.event.ItemCause.{ItemCause}
use Rattle.item_wire.specs.declared.input.Came.{Came}
use Rattle.config_check.specs.Checked.{Checked}
use Rattle.node_core.specs.Hearing.{heard}
use Rattle.node_core.specs.Left.{Leaves}
use Rattle.node_core.specs.Taking as item
use Rattle.node_core.specs.NodeModel.Step.{Post}
use Rattle.config_node.specs.Beginning.{session_at}

-- a session once it heard octets that leave these. No record is handed out
pub record HasHeard (s : SessionFields) (octets left : List ℕ) (s' : SessionFields) (cause : Option ItemCause)
    : Type 0 where
  pub inputs : List Came
  pub leaves : Leaves s octets inputs left
  pub why : cause ≡ (heard s inputs).cause
  pub state : s'.state ≡ (heard s inputs).state
  pub none : (heard s inputs).records ≡ []

-- the end of a session once octets came on it that leave these
abbrev pub HasTaken : Checked → ℕ → List ℕ → List ℕ → List Post → List Post → Option ItemCause → Type 0
HasTaken x = item.HasTaken (session_at x)
