-- What a step of a node leaves, session by session: told by the ends and the links before it and after it.
use Rattle.std.specs.Prelude.{◌≡◌, ◌≢◌, ◌↔◌, ℕ, ◌<◌, List, [], ◌++◌, map, length, Bool, true, false}
use Rattle.std.specs.declared.option.Option.{Option}
use Rattle.std.specs.declared.option.Option.TheVariants.{Some, None}
use Rattle.node_model.specs.OvLink.Delivery.{Took}
use Rattle.node_model.specs.Maps.{difference}
use Rattle.node_model.specs.Step.{At, Beginning, Idle, NodeKind, Post, end_of, nothing, post}

-- the ends as the pass begins: each is as it was before the step, but for the input's own. That is what the input made
-- of it, and closed where a reply failed
pub record IsPassStart (posts start : List Post) (session : ℕ) (given : Beginning) (reply_failed : Bool) : Type 0
  where
    pub long : length start ≡ length posts
    pub others : (i : ℕ) → i ≢ session → post start i ≡ post posts i
    pub input : session < length posts → reply_failed ≡ false
        → post start session ≡ end_of given.after
    pub closed : session < length posts → reply_failed ≡ true → post start session ≡ nothing

-- what a session is to be told: the replies on the input's session alone, and, where it may send as the pass begins,
-- the changes from what was sent there to what the ends want as the pass begins
pub record IsPlan (k : NodeKind) (posts start : List Post) (session : ℕ) (given : Beginning) (i : ℕ)
    (replies changes : List (List ℕ)) : Type 0 where
  pub here : i ≡ session → replies ≡ given.replies
  pub elsewhere : i ≢ session → replies ≡ []
  pub told : k.may_send i (post start i).phase ≡ true
      → changes ≡ map (k.spelled i) (difference (post start i).sent (k.wanted start i))
  pub silent : k.may_send i (post start i).phase ≡ false → changes ≡ []

-- the end of a session after the step. Where its link failed it is closed and empty. Else it is as when the pass began,
-- but has as sent what was wanted then, where it may send
pub record IsLeft (k : NodeKind) (start : List Post) (i : ℕ) (failed : Bool) (p : Post) : Type 0 where
  pub closed : failed ≡ true → p ≡ nothing
  pub phase : failed ≡ false → p.phase ≡ (post start i).phase
  pub held : failed ≡ false → p.held ≡ (post start i).held
  pub wide : failed ≡ false → p.wide ≡ (post start i).wide
  pub sent : failed ≡ false → k.may_send i (post start i).phase ≡ true → p.sent ≡ k.wanted start i
  pub silent : failed ≡ false → k.may_send i (post start i).phase ≡ false → p.sent ≡ (post start i).sent

-- the lowest of some sessions that failed is named, and none exactly where none failed
pub record IsLowest (sessions : ℕ) (failed : ℕ → Bool) (lowest : Option ℕ) : Type 0 where
  pub named : (s : ℕ) → lowest ≡ Some s
      → (s < sessions) × (failed s ≡ true) × ((i : ℕ) → i < s → failed i ≡ false)
  pub none : (lowest ≡ None) ↔ ((i : ℕ) → i < sessions → failed i ≡ false)

module _ {L : Type 0} (accepted : L → Option (List (List ℕ))) (breaks : L → Option (List ℕ)) (faults : L → ℕ) where
  -- a link took a front of these messages, the whole exactly where it did not fail
  pub record TakesFront (messages front : List (List ℕ)) (failed : Bool) (link link' : L) : Type 0 where
    pub rest : List (List ℕ)
    pub parts : messages ≡ front ++ rest
    pub whole : (failed ≡ false) ↔ (rest ≡ [])
    pub took : Took accepted breaks faults front failed link link'

  module _ (k : NodeKind) where
    -- one session in a step. The input's reply failed exactly where fewer messages were taken there than were replied
    pub record SteppedAt (posts start posts' : List Post) (session : ℕ) (given : Beginning) (reply_failed failed : Bool)
        (links links' : List L) (i : ℕ) : Type 0 where
      pub link : L
      pub link' : L
      pub link_at : At links i link
      pub link'_at : At links' i link'
      pub replies : List (List ℕ)
      pub changes : List (List ℕ)
      pub front : List (List ℕ)
      pub plan : IsPlan k posts start session given i replies changes
      pub takes : TakesFront (replies ++ changes) front failed link link'
      pub reply : i ≡ session → (reply_failed ≡ true) ↔ (length front < length replies)
      pub left : IsLeft k start i failed (post posts' i)

    -- one step: a single list of ends, those as the pass begins, decides what every session is told, whichever links
    -- fail
    pub record Stepped (posts posts' : List Post) (session : ℕ) (given : Beginning) (links links' : List L)
        (lowest : Option ℕ) : Type 0 where
      pub start : List Post
      pub reply_failed : Bool
      pub failed : ℕ → Bool
      pub starts : IsPassStart posts start session given reply_failed
      pub each : (i : ℕ) → i < length posts
          → SteppedAt posts start posts' session given reply_failed (failed i) links links' i
      pub lowest_is : IsLowest (length posts) failed lowest
      pub long : length posts' ≡ length posts

-- ---- what was wanted as the pass began, and what is wanted at the end of the step
-- the ends are in the same states and hold the same
abbrev pub HoldTheSame : List Post → List Post → Type 0
HoldTheSame posts posts' =
    (i : ℕ) → ((post posts' i).phase ≡ (post posts i).phase) × ((post posts' i).held ≡ (post posts i).held)

-- a kind that wants by the states of ends and by what they hold, and may not send where an end is idle
pub record WantsByHoldings (k : NodeKind) : Type 0 where
  pub wants : (posts posts' : List Post) → length posts' ≡ length posts → HoldTheSame posts posts'
      → (i : ℕ) → k.wanted posts' i ≡ k.wanted posts i
  pub silent : (i : ℕ) → k.may_send i Idle ≡ false

-- on each session that may send, what was sent is what these ends want there
abbrev pub AreTold : NodeKind → List Post → Type 0
AreTold k posts =
    (i : ℕ) → i < length posts → k.may_send i (post posts i).phase ≡ true → (post posts i).sent ≡ k.wanted posts i

-- no send failed in the pass: where a link failed, it is that of the input's session, and a reply failed there
abbrev pub NoneFailsInPass : ℕ → ℕ → Bool → (ℕ → Bool) → Type 0
NoneFailsInPass sessions session reply_failed failed =
    (i : ℕ) → i < sessions → failed i ≡ true → (i ≡ session) × (reply_failed ≡ true)
