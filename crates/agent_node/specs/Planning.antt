-- What the sessions of an agent are to be told in a pass, session by session.
use Rattle.std.specs.Prelude.{◌≡◌, ◌<◌, ◌≤◌, ℕ, List, [], map, length, not, if◌then◌else◌}
use Rattle.std.specs.List.{slice_index_or}
use Rattle.node_core.specs.declared.ends.Plan.{Plan}
use Rattle.node_core.specs.Beginning.{phase_of}
use Rattle.node_core.specs.Told.{spelled, up_of}
use Rattle.node_core.specs.NodeModel.Maps.{Map, difference}
use Rattle.node_core.specs.NodeModel.Step.{Phase}
use Rattle.agent_tables.specs.declared.hearing.Hearing.{Hearing}
use Rattle.agent_node.specs.Core.{is_idle}
use Rattle.agent_node.specs.Ends.{Sent}

-- an end that is idle is told nothing
abbrev pub messages_of : Phase → Map → Map → List (List ℕ)
messages_of phase sent wanted = if not (is_idle phase) then map (λ c. spelled c) (difference sent wanted) else []

-- what was sent, once it is told
abbrev pub told_of : Phase → Map → Map → Map
told_of phase sent wanted = if not (is_idle phase) then wanted else sent

abbrev pub phase_at : List Hearing → ℕ → Hearing → Phase
phase_at hearings i other = phase_of (slice_index_or hearings i other).session.state

abbrev pub sent_at : List Sent → ℕ → Sent
sent_at sents i = slice_index_or sents i []

-- the sessions below n are planned, and what was sent on those from n on is as it was
pub record ArePlanned (hearings : List Hearing) (sents sents' : List Sent) (wanted : Map) (plans : List Plan) (n : ℕ)
    : Type 0 where
  pub many : length plans ≡ n
  pub messages : (i : ℕ) (p : Plan) (h : Hearing) → i < n
      → (slice_index_or plans i p).messages ≡ messages_of (phase_at hearings i h) (up_of (sent_at sents i)) wanted
  pub told : (i : ℕ) (h : Hearing) → i < n
      → up_of (sent_at sents' i) ≡ told_of (phase_at hearings i h) (up_of (sent_at sents i)) wanted
  pub kept : (i : ℕ) → n ≤ i → sent_at sents' i ≡ sent_at sents i
  pub long : length sents' ≡ length sents

-- plans of so many sessions, none of which is to be told anything
pub record AreSilent (plans : List Plan) (n : ℕ) : Type 0 where
  pub many : length plans ≡ n
  pub silent : (i : ℕ) (p : Plan) → i < n → (slice_index_or plans i p).messages ≡ []
