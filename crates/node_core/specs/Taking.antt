-- What octets make of an end of a session of items.
use Rattle.std.specs.Prelude.{◌≡◌, ℕ, List}
use Rattle.std.specs.declared.option.Option.{Option}
use Rattle.std.specs.List.{slice_set}
use Rattle.item_wire.specs.Happenings.{SessionFields}
use Rattle.item_wire.specs.declared.event.ItemCause.{ItemCause}
use Rattle.item_wire.specs.declared.input.Came.{Came}
use Rattle.node_model.specs.Step.{Phase, Post, end_of, post}
use Rattle.node_core.specs.Beginning.{left_by}
use Rattle.node_core.specs.Hearing.{heard}
use Rattle.node_core.specs.Left.{Leaves}

-- the end of a session once octets came on it that leave these, where the session of each end in each phase is this
pub record HasTaken (fields : ℕ → Phase → SessionFields) (session : ℕ) (octets left : List ℕ) (posts posts' : List Post)
    (cause : Option ItemCause) : Type 0 where
  pub inputs : List Came
  pub leaves : Leaves (fields session (post posts session).phase) octets inputs left
  pub why : cause ≡ (heard (fields session (post posts session).phase) inputs).cause
  pub applied : posts' ≡ slice_set posts session
      (end_of (left_by (post posts session) (heard (fields session (post posts session).phase) inputs) cause))
