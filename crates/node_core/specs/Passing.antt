-- One pass over all sessions.
use Rattle.std.specs.Prelude.{◌≡◌, ◌≢◌, ℕ, ◌<◌, ◌≤◌, List, length, Bool, true, false, nat_lt, if◌then◌else◌}
use Rattle.std.specs.declared.option.Option.{Option}
use Rattle.std.specs.declared.option.Option.TheVariants.{Some, None}
use Rattle.std.specs.Option.{IfSome}
use Rattle.std.specs.List.{slice_index_or, slice_set}
use Rattle.ov_link.specs.Delivery.{Delivers}
use Rattle.node_model.specs.Step.{At, Post, nothing, post}
use Rattle.node_core.specs.declared.ends.Plan.{Plan}

-- the lowest session that failed, after one more session
abbrev pub noted : Option ℕ → ℕ → Bool → Option ℕ
noted None i true = Some i
noted None i false = None
noted (Some s) i failed = Some s

-- the lower of a session, where it failed, and the lowest of others that failed
abbrev pub earlier : Bool → ℕ → Option ℕ → Option ℕ
earlier false session lowest = lowest
earlier true session None = Some session
earlier true session (Some s) = if nat_lt s session then Some s else Some session

-- the ends, with that of a session closed where its link failed
abbrev pub closed_if : Bool → List Post → ℕ → List Post
closed_if failed posts i = if failed then slice_set posts i nothing else posts

-- the two lists have the same at a place
abbrev pub SameAt : {X : Type 0} → List X → List X → ℕ → Type 0
SameAt {X} xs ys i = (d : X) → slice_index_or ys i d ≡ slice_index_or xs i d

module _ {L : Type 0} (accepted : L → Option (List (List ℕ))) (breaks : L → Option (List ℕ)) (faults : L → ℕ) where
  -- the link of one session took as many of these messages as it chose, and no other link was touched
  pub record Serves (messages : List (List ℕ)) (failed : Bool) (links links' : List L) (session : ℕ) : Type 0 where
    pub link : L
    pub link' : L
    pub link_at : At links session link
    pub links_are : links' ≡ slice_set links session link'
    pub delivers : Delivers accepted breaks faults messages failed link link'

  -- what the pass made of one session: its link took as much of its plan as it chose. Where it failed, the end is
  -- closed
  pub record ServedAt (plans : List Plan) (posts posts' : List Post) (links links' : List L) (lowest : Option ℕ) (i : ℕ)
      : Type 0 where
    pub plan : Plan
    pub link : L
    pub link' : L
    pub failed : Bool
    pub plan_at : At plans i plan
    pub link_at : At links i link
    pub link'_at : At links' i link'
    pub delivers : Delivers accepted breaks faults plan.messages failed link link'
    pub end : post posts' i ≡ (if failed then nothing else post posts i)
    pub named : failed ≡ true → (s : ℕ) × (s ≤ i) × (lowest ≡ Some s)
    pub unnamed : failed ≡ false → lowest ≢ Some i

  -- the sessions below n are done, and those from n on are as they were
  pub record Passes (plans : List Plan) (posts posts' : List Post) (links links' : List L) (lowest : Option ℕ) (n : ℕ)
      : Type 0 where
    pub done : (i : ℕ) → i < n → ServedAt plans posts posts' links links' lowest i
    pub posts_stay : (i : ℕ) → n ≤ i → post posts' i ≡ post posts i
    pub links_stay : (i : ℕ) → n ≤ i → SameAt links links' i
    pub low : IfSome lowest (λ s. s < n)
    pub posts_long : length posts' ≡ length posts
    pub links_long : length links' ≡ length links
