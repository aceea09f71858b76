-- Seats in two halves: the nodes themselves, and what lies at the ends of their sessions.
use Rattle.std.specs.Prelude.{◌≡◌, ◌<◌, ◌^◌, ℕ, List, [], ◌∷◌, map, length, Bool}
use Rattle.std.specs.declared.option.Option.{Option}
use Rattle.std.specs.List.{slice_index_or}
use Rattle.ov_link.specs.FailingState.{FailingState}
use Rattle.node_model.specs.Step.{Post}
use Rattle.running_nodes.specs.MachineModel.Setup.{Name}
use Rattle.running_nodes.specs.Seats.{Who, Forwarding, Seat, is_live, name_of, no_node, others_of}

-- who a node is, its end of each session, and the octets that it keeps there
pub record Inner : Type 0 where
  pub who : Who
  pub posts : List Post
  pub kept : List (List ℕ)

pub record Outer : Type 0 where
  -- the node's name, and the names at the other ends of its sessions, where there is somebody
  pub name : Name
  pub others : List (Option Name)
  -- what left each of its ends and was not taken, the sends that are to fail there, and where a notice waits
  pub links : List (List (List ℕ))
  pub breaks : List (List ℕ)
  pub notices : List Bool

-- ---- both halves
abbrev pub seated : Inner → List (List (List ℕ)) → List (List ℕ) → List Bool → Seat
seated n links breaks notices = record {
  who = n.who;
  posts = n.posts;
  kept = n.kept;
  links = links;
  breaks = breaks;
  notices = notices;
}

abbrev pub whole : Inner → Outer → Seat
whole n o = seated n o.links o.breaks o.notices

-- whether an end is not idle
abbrev pub live : Inner → ℕ → Bool
live n i = is_live (seated n [] [] []) i

abbrev pub joined : List Inner → List Outer → List Seat
joined [] outers = []
joined (n ∷ inners) [] = []
joined (n ∷ inners) (o ∷ outers) = whole n o ∷ joined inners outers

-- ---- by their numbers
abbrev pub no_inner : Inner
no_inner = record { who = Forwarding (record { me = no_node; controllers = [] }); posts = []; kept = [] }

abbrev pub no_outer : Outer
no_outer = record { name = []; others = []; links = []; breaks = []; notices = [] }

abbrev pub inner : List Inner → ℕ → Inner
inner inners k = slice_index_or inners k no_inner

abbrev pub outer : List Outer → ℕ → Outer
outer outers k = slice_index_or outers k no_outer

-- ---- links that may fail
abbrev pub accepted_of : List FailingState → List (List (List ℕ))
accepted_of links = map (λ (l : FailingState). l.accepted) links

abbrev pub breaks_of : List FailingState → List (List ℕ)
breaks_of links = map (λ (l : FailingState). l.breaks) links

-- a node at these links
abbrev pub over : Inner → List FailingState → List Bool → Seat
over n links notices = seated n (accepted_of links) (breaks_of links) notices

-- ---- what always holds
-- a link for each session, with its breaks, and a place for a notice
pub record IsEven (o : Outer) : Type 0 where
  pub links : length o.links ≡ length o.others
  pub breaks : length o.breaks ≡ length o.others
  pub notices : length o.notices ≡ length o.others
  pub few : length o.others < 2 ^ 16

-- the two are halves of one seat
pub record AreHalves (n : Inner) (o : Outer) : Type 0 where
  pub name : o.name ≡ name_of n.who
  pub others : o.others ≡ others_of n.who
  pub posts : length n.posts ≡ length (others_of n.who)
  pub kept : length n.kept ≡ length (others_of n.who)
  pub even : IsEven o

abbrev pub AreAllHalves : List Inner → List Outer → Type 0
AreAllHalves [] [] = Unit {0}
AreAllHalves [] (o ∷ outers) = ⊥
AreAllHalves (n ∷ inners) [] = ⊥
AreAllHalves (n ∷ inners) (o ∷ outers) = AreHalves n o × AreAllHalves inners outers

-- ---- all nodes of a network, as they stand
pub record Standing : Type 0 where
  pub seats : List Seat
  -- whether memory was wanting in a step
  pub failed : Bool
