-- A step of a node leaves room for all its sessions, and nothing at those that are nobody's.
use Rattle.std.specs.Prelude.{◌≡◌, ◌≢◌, ◌⊎◌, ◌<◌, ℕ, List, [], ◌++◌, length, map, Bool, false, cond}
use Rattle.std.specs.List.{slice_index_or, slice_set}
use Rattle.std.specs.declared.option.Option.TheVariants.{None}
use Rattle.std.proofs.lemmas.Bool.{cases_eq, ne_eqb}
use Rattle.std.proofs.lemmas.List.{get_or-set_other, length-set}
use Rattle.std.proofs.Common.{refl, sym, ◌∙◌, ap, subst, inl, inr}
use Rattle.node_core.specs.Keeping.{AreSwept}
use Rattle.node_model.specs.Maps.{difference}
use Rattle.node_model.specs.Step.{Beginning, Idle, NodeKind, Post, begun, end_of, is_idle, nothing, post, told_all}
use Rattle.running_nodes.specs.ControlNode.Wanting.{idle_is_silent}
use Rattle.running_nodes.specs.Controls.{plan_of}
use Rattle.running_nodes.specs.Seats.{Who, Configuring, Controlling, Forwarding, Seat, breaks_in, kind_of, other, others_of, seat}
use Rattle.running_nodes.specs.Steps.{IsStepped, Sending, end_after, reply_fails, sending, sent_on, with_seat}
use Rattle.running_nodes.specs.Stands.{IsLong, IsVacant}
use Rattle.running_nodes.specs.declared.place.SessionPlace.{SessionPlace}
use Rattle.running_laws.specs.Wiring.{IsPlace}
use Rattle.running_laws.proofs.Building.{long_again}
use Rattle.running_laws.proofs.Lists.{AreFit, fit_within, not_nobody, same_other, same_who, seat_elsewhere, seat_here, with_alike}
use Rattle.running_laws.proofs.Wholes.{with_long}

-- an end that is idle may not send
pub idle_silent : (who : Who) (j : ℕ) → (kind_of who).may_send j Idle ≡ false
idle_silent (Configuring x) j = refl
idle_silent (Controlling c) j = idle_is_silent (plan_of c) j
idle_silent (Forwarding plan) j = refl

-- room for all its sessions
pub stepped_long : (n n' : Seat) (i : ℕ) (given : Beginning) (left : List ℕ) → IsStepped n n' i given
    → AreSwept n'.posts (slice_set n.kept i left) n'.kept → IsLong n → IsLong n'
stepped_long n n' i given left stepped swept l =
    long_again n n' stepped.who stepped.posts_long (swept.long ∙ length-set n.kept i left) stepped.links_long stepped.breaks_long
    (ap length stepped.notices) l

module _ (n n' : Seat) (i : ℕ) (given : Beginning) (left : List ℕ) (stepped : IsStepped n n' i given)
    (swept : AreSwept n'.posts (slice_set n.kept i left) n'.kept) (j : ℕ) (less : j < length n.posts)
    (within : j < length n.kept) (ne : j ≢ i) (v : IsVacant n j) where
  abbrev kind : NodeKind
  kind = kind_of n.who

  abbrev posts : List Post
  posts = begun n.posts i given (reply_fails n i given)

  nothing_there : post posts j ≡ nothing
  nothing_there = get_or-set_other n.posts i j (cond (reply_fails n i given) nothing (end_of given.after)) nothing ne ∙ v.post

  silent_there : kind.may_send j (post posts j).phase ≡ false
  silent_there = ap (λ (p : Post). kind.may_send j p.phase) nothing_there ∙ idle_silent n.who j

  none_sent : sent_on n i given j ≡ record { accepted = []; failed = false; breaks = breaks_in n j }
  none_sent =
      λ x. sending (breaks_in n j)
      (cond (ne_eqb j i ne x) given.replies []
      ++ cond (silent_there x) (map (kind.spelled j) (difference (post posts j).sent (kind.wanted posts j))) [])

  told_there : told_all kind posts j ≡ nothing
  told_there =
      ap (λ (b : Bool). cond b (record (post posts j) { sent = kind.wanted posts j }) (post posts j)) silent_there
      ∙ nothing_there

  post_then : post n'.posts j ≡ nothing
  post_then =
      stepped.posts j less ∙ ap (λ (r : Sending). end_after r.failed (told_all kind posts j)) none_sent ∙ told_there

  pub stepped_vacant : IsVacant n' j
  stepped_vacant = record {
    post = post_then;
    kept = swept.each j (subst (λ m. j < m) (sym (length-set n.kept i left)) within)
        ∙ ap (λ (p : Post). cond (is_idle p.phase) [] (slice_index_or (slice_set n.kept i left) j [])) post_then;
    link = stepped.links j less ∙ (λ x. v.link x ++ (none_sent x).accepted);
    breaks = stepped.breaks j less ∙ ap (λ (r : Sending). r.breaks) none_sent ∙ v.breaks;
    notice = ap (λ bs. slice_index_or bs j false) stepped.notices ∙ v.notice;
  }

-- ---- all seats
pub stepped_fit : (seats : List Seat) (p : SessionPlace) (n' : Seat) (given : Beginning) (left : List ℕ) → IsPlace seats p
    → IsStepped (seat seats p.node) n' p.session given
    → AreSwept n'.posts (slice_set (seat seats p.node).kept p.session left) n'.kept → AreFit seats
    → AreFit (with_seat p.node n' seats)
stepped_fit seats p n' given left is stepped swept fit =
    fit_within (with_seat p.node n' seats)
    (with_long p.node n' seats is.node fit.long
    (stepped_long (seat seats p.node) n' p.session given left stepped swept (fit.long p.node is.node)))
    (λ k i lt less none. vacant (record { node = k; session = i }) less none)
  where
    vacant : (r : SessionPlace) → r.session < length (others_of (seat (with_seat p.node n' seats) r.node).who)
        → other (seat (with_seat p.node n' seats) r.node) r.session ≡ None
        → IsVacant (seat (with_seat p.node n' seats) r.node) r.session
    vacant r less none =
        let alike = with_alike p.node n' seats stepped.who in
        let before = sym (same_other seats (with_seat p.node n' seats) alike r) ∙ none in
        let v = fit.vacant r before in
        let less_before = subst (λ x. r.session < length (others_of x)) (same_who seats (with_seat p.node n' seats) alike r.node) less in
        by_node v less_before (not_nobody seats p r is before) (cases_eq r.node p.node)
      where
        by_node : IsVacant (seat seats r.node) r.session → r.session < length (others_of (seat seats r.node).who) → r ≢ p
            → (r.node ≡ p.node) ⊎ (r.node ≢ p.node) → IsVacant (seat (with_seat p.node n' seats) r.node) r.session
        by_node v less ne (inl e) =
            let l = fit.long p.node is.node in
            let within = subst (λ k. r.session < length (others_of (seat seats k).who)) e less in
            subst (λ m. IsVacant m r.session) (sym (ap (seat (with_seat p.node n' seats)) e ∙ seat_here p.node n' seats is.node))
            (stepped_vacant (seat seats p.node) n' p.session given left stepped swept r.session
            (subst (λ m. r.session < m) (sym l.posts) within) (subst (λ m. r.session < m) (sym l.kept) within)
            (λ f. ne (λ x. record { node = e x; session = f x })) (subst (λ k. IsVacant (seat seats k) r.session) e v))
        by_node v less ne (inr off) = subst (λ m. IsVacant m r.session) (sym (seat_elsewhere p.node r.node n' seats off)) v
