-- The ends of a node's sessions, as its posts have them.
use Rattle.std.specs.Prelude.{List, length, slice_index_or, ℕ, ◌<◌, ◌≡◌}
use Rattle.std.specs.declared.option.Option.TheVariants.{None, Some}
use Rattle.std.proofs.Common.{subst, sym, ◌∙◌}
use Rattle.std.proofs.lemmas.Option.{same_Some}
use Rattle.node_model.specs.Step.{Post, post}
use Rattle.machine_laws.specs.MachineModel.Moments.{Each, nodes}
use Rattle.machine_laws.specs.MachineModel.Network.{MachineState, sessions_of}
use Rattle.machine_laws.specs.MachineModel.Session.{Session}
use Rattle.machine_laws.specs.MachineModel.Setup.{Name}
use Rattle.machine_laws.specs.MachineModel.Steps.{session_in, session_of}
use Rattle.machine_laws.proofs.MachineModel.Twins.{Found, all_to_own, each_and}
use Rattle.machine_laws.specs.Goal.{Party}
use Rattle.machine_laws.proofs.Views.{own_named}
use Rattle.running_nodes.specs.Seats.{Seat, Who, name_of, others_of, role_of, seat}
use Rattle.running_nodes.specs.Stands.{Seats}
use Rattle.running_laws.proofs.Holdings.{IsSeen, Same}
use Rattle.running_laws.proofs.Parties.{parties_of}
use Rattle.running_laws.proofs.VacantNames.{some_within}

-- each end is as the session's end in the machine
pub record Ends (w : MachineState) (v : Who) (posts : List Post) : Type 0 where
  pub long : length posts ≡ length (others_of v)
  pub end : (j : ℕ) → j < length posts → (b : Name) → slice_index_or (others_of v) j None ≡ Some b
      → (s : Session) × (session_of w (name_of v) b ≡ Some s) × Same s (post posts j)

pub end_at : (w : MachineState) (v : Who) (posts : List Post) → Ends w v posts → (j : ℕ) (b : Name) → slice_index_or (others_of v) j None ≡ Some b
    → (s : Session) × (session_of w (name_of v) b ≡ Some s) × Same s (post posts j)
end_at w v posts h j b e = h.end j (subst (λ n. j < n) (sym h.long) (some_within (others_of v) j b e)) b e

pub end_is : (w : MachineState) (v : Who) (posts : List Post) → Ends w v posts → (j : ℕ) (b : Name) → slice_index_or (others_of v) j None ≡ Some b
    → (s : Session) → session_of w (name_of v) b ≡ Some s → Same s (post posts j)
end_is w v posts h j b e s f = let q = end_at w v posts h j b e in subst (λ s. Same s (post posts j)) (same_Some q.0 s (sym q.1 ∙ f)) q.2

pub seat_ends : (w : MachineState) (seats : List Seat) → Seats seats w → (k : ℕ) → k < length seats → Ends w (seat seats k).who (seat seats k).posts
seat_ends w seats stands k h = record {
  long = (stands.long k h).posts;
  end = λ j less b e. let q = stands.ends k j h less b e in (q.session, q.found, (q.is.phase, q.is.held));
}

-- all sessions of a node are found by their names
pub own_seen : (w : MachineState) → Each (Found w.sessions) w.sessions → (n : Name) → Each (IsSeen w n) (sessions_of n w.sessions)
own_seen w found n =
    let own = sessions_of n w.sessions in
    each_and (λ s. s.near.name ≡ n) (λ s. session_in w.sessions s.near.name s.far.name ≡ Some s) own (own_named n w.sessions)
    (all_to_own (λ s. session_in w.sessions s.near.name s.far.name ≡ Some s) n w.sessions found)

-- a session of a node, with its number there
pub record IsAt (w : MachineState) (v : Who) (i : ℕ) (s : Session) : Type 0 where
  pub far : Party
  pub party : slice_index_or (parties_of v) i None ≡ Some far
  pub there : slice_index_or (others_of v) i None ≡ Some far.0
  pub found : session_of w (name_of v) far.0 ≡ Some s
  pub nodes_are : nodes s ≡ ((name_of v, role_of v), far)
