-- How ends are, and ends that are all closed.
use Rattle.std.specs.Prelude.{ℕ, zero, suc, List, [], ◌∷◌, Bool, not}
pub use Rattle.node_model.specs.Step.{is_idle, is_up}
use Rattle.node_model.specs.Step.{Phase, Post, Idle, Up, nothing}
use Rattle.node_core.specs.declared.ends.EndState.{EndState}
use Rattle.node_core.specs.declared.ends.EndState.TheVariants as end

abbrev pub end_at : Phase → EndState
end_at Idle = end.Idle
end_at Up = end.Up
end_at _ = end.Opened

-- an end that may be told of changes from its opening on
abbrev pub may_send : ℕ → Phase → Bool
may_send i phase = not (is_idle phase)

abbrev pub nothings : ℕ → List Post
nothings zero = []
nothings (suc n) = nothing ∷ nothings n
