-- What is seen of the configuration node: what is valid now, its ends, the octets that it keeps, and whether it failed.
use Rattle.std.specs.Prelude.{ℕ, List, length, Bool, false, refl}
use Rattle.std.specs.Coded.{Coded, code_by, coded×, coded_bool, coded_list, coded_ℕ}
use Rattle.config_check.specs.Checked.{Checked}
use Rattle.config_check.specs.contracts.valid.Valid as valid
use Rattle.node_core.specs.Told.{spelled}
use Rattle.node_core.specs.NodeModel.Codes.{coded_post}
use Rattle.node_core.specs.NodeModel.Maps.{Map}
pub use Rattle.node_core.specs.Keeping.{AreFew, AreOfLive, AreSwept, kept_at, nothing_kept}
pub use Rattle.node_core.specs.Resting.{is_idle, is_up, may_send, nothings}
use Rattle.node_core.specs.NodeModel.Step.{NodeKind, Post}
use Rattle.config_node.specs.MachineModel.Setup.{low_in}

-- the configuration node as it is seen: its ends are those of the control nodes, in the order of the topology
pub record Core : Type 0 where
  pub setup : Checked
  pub posts : List Post
  -- the octets of a record that is not whole yet, of each session
  pub kept : List (List ℕ)
  pub failed : Bool

abbrev pub sessions : Checked → ℕ
sessions x = length x.topology.controllers

-- ---- what it wants its sessions to have been told: the low-level objects of the configuration, from their opening on
abbrev pub wanted : Checked → List Post → ℕ → Map
wanted x posts i = low_in x

abbrev pub kind : Checked → NodeKind
kind x = record { wanted = wanted x; may_send = may_send; spelled = λ i c. spelled c }

-- ---- a configuration node whose ends are all closed
abbrev pub fresh : Checked → Core
fresh x = record { setup = x; posts = nothings (sessions x); kept = nothing_kept (sessions x); failed = false }

-- ---- how configuration nodes are told apart
abbrev pub coded_core : Coded Core
coded_core =
    code_by (Checked × (List Post × (List (List ℕ) × Bool)))
    (coded× valid.the_row.coded (coded× (coded_list coded_post) (coded× (coded_list (coded_list coded_ℕ)) coded_bool)))
    (λ n. (n.setup, (n.posts, (n.kept, n.failed))))
    (λ c. record { setup = c.0; posts = c.1.0; kept = c.1.1.0; failed = c.1.1.1 }) (λ _. refl)
