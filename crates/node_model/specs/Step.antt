-- One step of a node over links that may fail, for every kind of node.
use Rattle.std.specs.Prelude.{◌≡◌, ◌≢◌, ℕ, ◌<◌, ◌≤◌, List, [], ◌++◌, map, length, Bool, true, false, nat_lt, ◌==◌}
use Rattle.std.specs.Prelude.{if◌then◌else◌}
use Rattle.std.specs.declared.option.Option.{Option}
use Rattle.std.specs.declared.option.Option.TheVariants.{Some, None}
use Rattle.std.specs.Option.{IfSome}
use Rattle.std.specs.List.{slice_index_or, slice_set}
use Rattle.std.specs.FinMap.{empty}
use Rattle.ov_link.specs.Delivery.{Delivers}
use Rattle.node_model.specs.Maps.{Map, Change, difference}

-- the state of an end. A session between control nodes goes through OpenSent, OpenConfirm and Established; another
-- through Opened and Up alone
pub data Phase : Type 0 where
  Idle : Phase
  Opened : Phase
  Confirmed : Phase
  Up : Phase

abbrev pub is_idle : Phase → Bool
is_idle Idle = true
is_idle _ = false

abbrev pub is_up : Phase → Bool
is_up Up = true
is_up _ = false

-- what a node keeps of a session, and whether the OPEN that came on it said that its speaker has numbers of four octets
-- (RFC 6793); false where none came
pub record Post : Type 0 where
  pub phase : Phase
  pub sent : Map
  pub held : Map
  pub wide : Bool

abbrev pub nothing : Post
nothing = record { phase = Idle; sent = empty; held = empty; wide = false }

abbrev pub post : List Post → ℕ → Post
post posts i = slice_index_or posts i nothing

-- what an input makes of its end: what is replied, and the end after it. Where it goes down, what it replied before is
-- sent, and then its notification where it has one, and there is no end after it
pub record Beginning : Type 0 where
  pub replies : List (List ℕ)
  pub after : Option Post

abbrev pub end_of : Option Post → Post
end_of None = nothing
end_of (Some p) = p

-- a kind of node: what it wants a session to have been told, on which sessions it may send changes, and how a change is
-- spelled there
pub record NodeKind : Type 0 where
  pub wanted : List Post → ℕ → Map
  pub may_send : ℕ → Phase → Bool
  pub spelled : ℕ → Change → List ℕ

-- x stands at place i
abbrev pub At : {X : Type 0} → List X → ℕ → X → Type 0
At {X} xs i x = (d : X) → slice_index_or xs i d ≡ x

-- the replies of an input are sent on its session alone
abbrev pub replies : ℕ → Beginning → ℕ → List (List ℕ)
replies session given i = if i == session then given.replies else []

-- the ends as the pass begins. A reply that fails closes the end before the pass
abbrev pub begun : List Post → ℕ → Beginning → Bool → List Post
begun posts session given fails = slice_set posts session (if fails then nothing else end_of given.after)

module _ (k : NodeKind) where
  -- the changes that a session is still to be told
  abbrev pub changes : List Post → ℕ → List (List ℕ)
  changes posts i =
      if k.may_send i (post posts i).phase
      then map (k.spelled i) (difference (post posts i).sent (k.wanted posts i)) else []

  -- the end once it was told all that was wanted
  abbrev pub told_all : List Post → ℕ → Post
  told_all posts i =
      if k.may_send i (post posts i).phase then record (post posts i) { sent = k.wanted posts i } else post posts i

  -- what a session is to be told in this step: the replies, and then what the holdings want as the pass begins
  abbrev pub planned : List Post → ℕ → Beginning → Bool → ℕ → List (List ℕ)
  planned posts session given fails i = replies session given i ++ changes (begun posts session given fails) i

  module _ {L : Type 0} (accepted : L → Option (List (List ℕ))) (breaks : L → Option (List ℕ)) (faults : L → ℕ) where
    -- one session in a step: its link took as many of its messages as it chose. Where it failed, the end is closed
    pub record StepAt (posts posts' : List Post) (session : ℕ) (given : Beginning) (fails : Bool) (links links' : List L)
        (lowest : Option ℕ) (i : ℕ) : Type 0 where
      pub link : L
      pub link' : L
      pub failed : Bool
      pub link_at : At links i link
      pub link'_at : At links' i link'
      pub delivers : Delivers accepted breaks faults (planned posts session given fails i) failed link link'
      pub reply : i ≡ session → fails ≡ nat_lt delivers.count (length (replies session given i))
      pub end : post posts' i ≡ (if failed then nothing else told_all (begun posts session given fails) i)
      pub named : failed ≡ true → (s : ℕ) × (s ≤ i) × (lowest ≡ Some s)
      pub unnamed : failed ≡ false → lowest ≢ Some i

    -- one step, once it is given what the input makes of its session, session by session. The lowest session whose link
    -- failed is named
    pub record Steps (posts posts' : List Post) (session : ℕ) (given : Beginning) (links links' : List L)
        (lowest : Option ℕ) : Type 0 where
      pub fails : Bool
      pub each : (i : ℕ) → i < length posts → StepAt posts posts' session given fails links links' lowest i
      pub low : IfSome lowest (λ s. s < length posts)
      pub long : length posts' ≡ length posts
