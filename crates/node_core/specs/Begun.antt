-- How a step begins.
use Rattle.std.specs.Prelude.{◌≡◌, ℕ, List}
use Rattle.std.specs.List.{slice_set}
use Rattle.node_model.specs.Step.{Beginning, Post, end_of}

-- an input was applied to its end, and these are its replies
pub record HasBegun (before : List Post) (session : ℕ) (given : Beginning) (replies : List (List ℕ)) (after : List Post)
    : Type 0 where
  pub replied : replies ≡ given.replies
  pub applied : after ≡ slice_set before session (end_of given.after)
