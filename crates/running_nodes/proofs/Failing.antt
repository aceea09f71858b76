-- A step over links that may fail is a step of a seat.
use Rattle.std.proofs.Common.{◌≡◌, ◌<◌, ℕ, suc, Bool, IsTrue, nat_lt, Option, Some, List, [], ◌++◌, length, take, if◌then◌else◌, sym, ◌∙◌, ap, refl, subst, arith, eq-eqb}
use Rattle.std.proofs.lemmas.Bool.{ltb-false, ltb-true}
use Rattle.std.proofs.lemmas.List.{length-map, length-take}
use Rattle.std.specs.List.{slice_index_or}
use Rattle.ov_link.specs.Breaks.{is_break}
use Rattle.ov_link.specs.Delivery.{all_pass, counted_by}
use Rattle.ov_link.specs.FailingState.{FailingState}
use Rattle.node_model.specs.Step.{Beginning, NodeKind, Post, StepAt, Steps, begun, changes, planned, replies, told_all}
use Rattle.running_nodes.specs.Seats.{kind_of}
use Rattle.running_nodes.specs.Steps.{IsStepped, Sending, end_after, reply_fails, sending}
use Rattle.running_nodes.specs.Halves.{Inner, accepted_of, breaks_of, over}
use Rattle.running_nodes.proofs.Links.{accepted_there, breaks_there}
use Rattle.running_nodes.proofs.Sends.{first_fails, left_so, sending_is}

module _ (k : NodeKind) (posts posts' : List Post) (session : ℕ) (given : Beginning) (links links' : List FailingState)
    (lowest : Option ℕ) where
  abbrev pub Served : Bool → ℕ → Type 0
  Served fails i =
      StepAt k (λ (l : FailingState). Some l.accepted) (λ (l : FailingState). Some l.breaks) (λ (l : FailingState). l.faults)
      posts posts' session given fails links links' lowest i

  -- ---- what one link took
  module _ (fails : Bool) (i : ℕ) (s : Served fails i) where
    abbrev plan : List (List ℕ)
    plan = planned k posts session given fails i

    count_is : length (take s.delivers.count plan) ≡ s.delivers.count
    count_is = omega (arith, length-take s.delivers.count plan, s.delivers.within)

    sends : sending s.link.breaks plan ≡ left_so plan s.delivers.count s.failed s.link.breaks
    sends =
        sending_is plan s.delivers.count s.failed s.link.breaks s.delivers.within
        (λ f. ltb-true s.delivers.count (length plan) (sym s.delivers.whole ∙ f))
        (λ f. ltb-false s.delivers.count (length plan) (sym s.delivers.whole ∙ f))
        (subst (λ (n : ℕ). IsTrue (all_pass n s.link.breaks)) count_is s.delivers.took.counts.passed)
        (λ f. subst (λ (n : ℕ). IsTrue (is_break (counted_by n s.link.breaks) 1)) count_is (s.delivers.took.counts.met f))

    failed_is : s.failed ≡ (sending s.link.breaks plan).failed
    failed_is = ap (λ (x : Sending). x.failed) (sym sends)

    accepted_are : s.link'.accepted ≡ s.link.accepted ++ (sending s.link.breaks plan).accepted
    accepted_are =
        let told : s.link'.accepted ≡ s.link.accepted ++ take s.delivers.count plan = cc s.delivers.took.told in
        told ∙ ap (λ (x : Sending). s.link.accepted ++ x.accepted) (sym sends)

    breaks_are : s.link'.breaks ≡ (sending s.link.breaks plan).breaks
    breaks_are =
        let sent = length (take s.delivers.count plan) in
        let left : s.link'.breaks ≡ counted_by (if s.failed then suc sent else sent) s.link.breaks = cc s.delivers.took.counts.left in
        left
        ∙ (ap (λ (n : ℕ). counted_by (if s.failed then suc n else n) s.link.breaks) count_is ∙ ap (λ (x : Sending). x.breaks) (sym sends))

  -- ---- whether a reply fails
  replied : (fails : Bool) (s : Served fails session) → fails ≡ (sending s.link.breaks given.replies).failed
  replied fails s =
      let later = changes k (begun posts session given fails) session in
      let here : replies session given session ≡ given.replies =
      ap (λ (b : Bool). if b then given.replies else []) (eq-eqb session session refl) in
      let many : s.delivers.count ≡ length (sending s.link.breaks (replies session given session ++ later)).accepted =
      sym (count_is fails session s) ∙ ap (λ (x : Sending). length x.accepted) (sym (sends fails session s)) in
      s.reply refl
      ∙ (ap (λ (n : ℕ). nat_lt n (length (replies session given session))) many
      ∙ (sym (first_fails s.link.breaks (replies session given session) later) ∙ ap (λ (r : List (List ℕ)). (sending s.link.breaks r).failed) here))

  abbrev pub AllServed : Bool → Type 0
  AllServed fails = (i : ℕ) → i < length posts → Served fails i

  all_served : (fails : Bool) → session < length posts → AllServed fails
      → AllServed ((sending (slice_index_or (breaks_of links) session []) given.replies).failed)
  all_served fails lt each =
      let s = each session lt in
      let is : fails ≡ (sending (slice_index_or (breaks_of links) session []) given.replies).failed =
      replied fails s ∙ ap (λ (bs : List ℕ). (sending bs given.replies).failed) (sym (breaks_there links session s.link s.link_at)) in
      subst AllServed is each

-- ---- a step of a seat
pub failing_steps : (n n' : Inner) (session : ℕ) (given : Beginning) (links links' : List FailingState) (lowest : Option ℕ)
    → n'.who ≡ n.who → session < length n.posts → length links' ≡ length links
    → Steps (kind_of n.who) (λ (l : FailingState). Some l.accepted) (λ (l : FailingState). Some l.breaks) (λ (l : FailingState). l.faults)
    n.posts n'.posts session given links links' lowest
    → (notices : List Bool) → IsStepped (over n links notices) (over n' links' notices) session given
failing_steps n n' session given links links' lowest same lt long steps notices =
    let k = kind_of n.who in
    let fails = reply_fails (over n links notices) session given in
    let each = all_served k n.posts n'.posts session given links links' lowest steps.fails lt steps.each in
    let plan : ℕ → List (List ℕ) = λ i. planned k n.posts session given fails i in
    record {
      who = same;
      notices = refl;
      posts_long = steps.long;
      links_long = length-map links' (λ (l : FailingState). l.accepted) ∙ (long ∙ sym (length-map links (λ (l : FailingState). l.accepted)));
      breaks_long = length-map links' (λ (l : FailingState). l.breaks) ∙ (long ∙ sym (length-map links (λ (l : FailingState). l.breaks)));
      posts = λ i below.
          let s = each i below in
          s.end
          ∙ (ap (λ (failed : Bool). end_after failed (told_all k (begun n.posts session given fails) i)) (failed_is k n.posts n'.posts session given links links' lowest fails i s)
          ∙ ap (λ (bs : List ℕ). end_after (sending bs (plan i)).failed (told_all k (begun n.posts session given fails) i)) (sym (breaks_there links i s.link s.link_at)));
      links = λ i below.
          let s = each i below in
          accepted_there links' i s.link' s.link'_at
          ∙ (accepted_are k n.posts n'.posts session given links links' lowest fails i s
          ∙ (ap (λ (ms : List (List ℕ)). ms ++ (sending s.link.breaks (plan i)).accepted) (sym (accepted_there links i s.link s.link_at))
          ∙ ap (λ (bs : List ℕ). slice_index_or (accepted_of links) i [] ++ (sending bs (plan i)).accepted) (sym (breaks_there links i s.link s.link_at))));
      breaks = λ i below.
          let s = each i below in
          breaks_there links' i s.link' s.link'_at
          ∙ (breaks_are k n.posts n'.posts session given links links' lowest fails i s
          ∙ ap (λ (bs : List ℕ). (sending bs (plan i)).breaks) (sym (breaks_there links i s.link s.link_at)));
    }
