-- What an end tells on its link, message by message, is what the machine's near end tells: where a message fails both are
-- closed, and the other end is told of the loss.
use Rattle.std.specs.Prelude.{◌≡◌, ℕ, List, [], ◌++◌, map, length, Bool, true, false, not, cond}
use Rattle.std.proofs.lemmas.Bool.{true≢false}
use Rattle.std.proofs.Common.{refl, sym, ◌∙◌, ap, subst, inl, inr}
use Rattle.node_model.specs.Step.{Post, nothing, post}
use Rattle.machine_laws.specs.MachineModel.Session.{Message, Session, are_peers, is_idle, is_live, is_peering, shut, told, turned, with_breaks}
use Rattle.machine_laws.proofs.MachineModel.SessionFact.{Down, Fact, live_receiver, map_append, sends}
use Rattle.running_nodes.specs.Seats.{Seat, breaks_in, kept_in, link, notice, is_live as is_live_in}
use Rattle.running_nodes.specs.Steps.{Sending, end_after, sending}
use Rattle.running_nodes.specs.Stands.{IsEnd, message_size, octets_of}
use Rattle.running_laws.proofs.Building.{IsPart, SameEnd, Stays, moved, part_again, part_more, part_none}
use Rattle.running_laws.proofs.Marks.{end_closed, end_noticed, kept_nothing}
use Rattle.running_laws.proofs.Quiet.{IsQuiet, quiet_of}
use Rattle.running_laws.proofs.Sent.{AllLeft, all_left, sending_all, told_as_sent, told_none}

-- a session of which the near end may tell
pub record IsReady (s : Session) : Type 0 where
  pub near : is_live s.near ≡ false → Down s
  pub far : is_live s.far ≡ false → (s.far.notice ≡ false) × (s.near.taken ≡ 0)
  pub quiet : IsQuiet s

pub fact_ready : (s : Session) → Fact message_size s → IsReady s
fact_ready s (inl j) = record {
  near = λ e. absurd (true≢false (ap not (sym (live_receiver (is_peering s) s.near.phase s.far.phase j.inward.phases)) ∙ e));
  far = λ e. absurd (true≢false (ap not (sym (live_receiver (is_peering s) s.far.phase s.near.phase j.outward.phases)) ∙ e));
  quiet = quiet_of message_size s (inl j);
}
fact_ready s (inr d) = record {
  near = λ _. d;
  far = λ e. (d.far.notice ∙ e, d.near.taken);
  quiet = quiet_of message_size s (inr d);
}

-- ---- the two ends
-- what telling makes of the node's own end, where r says how its sends go
pub record TellsEnd (n n' : Seat) (i : ℕ) (down : Bool) (r : Sending) : Type 0 where
  pub ended : post n'.posts i ≡ end_after r.failed (post n.posts i)
  pub breaks : breaks_in n' i ≡ r.breaks
  pub kept : kept_in n' i ≡ cond (is_idle (post n'.posts i).phase) [] (kept_in n i)
  pub closed : is_idle (post n'.posts i).phase ≡ true → (notice n' i ≡ false) × (link n' i ≡ [])
  pub live : is_idle (post n'.posts i).phase ≡ false
      → (notice n' i ≡ notice n i) × (link n' i ≡ cond down [] (link n i ++ r.accepted))

-- and of the other end, where the own one is closed then or not
pub record HearsEnd (n n' : Seat) (i : ℕ) (closed : Bool) : Type 0 where
  pub stays : Stays n n' i
  pub told : closed ≡ true → (notice n' i ≡ is_live_in n i) × (link n' i ≡ [])
  pub same : closed ≡ false → (notice n' i ≡ notice n i) × (link n' i ≡ link n i)

pub hears_same : (n n' : Seat) (i : ℕ) → HearsEnd n n' i false → SameEnd n n' i
hears_same n n' i h = record {
  post = h.stays.post;
  kept = h.stays.kept;
  link = (h.same refl).1;
  breaks = h.stays.breaks;
  notice = (h.same refl).0;
}

-- what is in flight then, message by message
link_after : (g : Message → List ℕ) (down : Bool) (before : List (List ℕ)) (sent : List (List ℕ)) (flight ms : List Message)
    → before ≡ map g flight → sent ≡ map g ms → (down ≡ true → flight ≡ [])
    → cond down [] (before ++ sent) ≡ map g (cond down flight (flight ++ ms))
link_after g true before sent flight ms e f quiet = ap (map g) (sym (quiet refl))
link_after g false before sent flight ms e f quiet = (λ i. e i ++ f i) ∙ sym (map_append g flight ms)

module _ (m n' far far' : Seat) (i j : ℕ) (s : Session) (ms : List Message) (who : n'.who ≡ m.who) (far_who : far'.who ≡ far.who)
    (near_is : IsEnd m i s) (far_is : IsEnd far j (turned s)) (ready : IsReady s)
    (silent : is_idle s.near.phase ≡ true → ms ≡ []) where
  abbrev octets : Message → List ℕ
  octets = octets_of m.who (is_peering s)

  abbrev pub sent : Sending
  sent = sending (breaks_in m i) (map octets ms)

  abbrev closes : Bool
  closes = is_idle (post n'.posts i).phase

  -- nothing is kept at the other end where that is not live
  far_bare : is_live_in far j ≡ false → kept_in far j ≡ []
  far_bare e =
      let p = ready.far (ap not (ap is_idle far_is.phase) ∙ e) in
      kept_nothing far j (turned s) far_is p.0 p.1

  module _ (tells : TellsEnd m n' i s.is_down sent) (hears : HearsEnd far far' j closes) where
    told_is : (f : Bool) → sent.failed ≡ f
        → told ms s ≡ cond f (shut (with_breaks sent.breaks s)) (with_breaks sent.breaks (sends ms s))
    told_is f e =
        told_as_sent octets ms s (breaks_in m i) near_is.breaks
        ∙ ap (λ (f : Bool). cond f (shut (with_breaks sent.breaks s)) (with_breaks sent.breaks (sends ms s))) e

    -- ---- where a message fails
    module _ (e : sent.failed ≡ true) where
      gone : post n'.posts i ≡ nothing
      gone = tells.ended ∙ ap (λ (f : Bool). end_after f (post m.posts i)) e

      closed_then : closes ≡ true
      closed_then = ap (λ (p : Post). is_idle p.phase) gone

      fails_near : IsEnd n' i (told ms s)
      fails_near =
          subst (IsEnd n' i) (sym (told_is true e))
          (end_closed n' i (record s.near { breaks = sent.breaks }) (shut (with_breaks sent.breaks s)) gone
          (tells.kept ∙ ap (λ (b : Bool). cond b [] (kept_in m i)) closed_then) (tells.closed closed_then).0
          (tells.closed closed_then).1 (sym tells.breaks) refl refl)

      fails_far : IsEnd far' j (turned (told ms s))
      fails_far =
          subst (λ (t : Session). IsEnd far' j (turned t)) (sym (told_is true e))
          (end_noticed far far' j (turned s) (turned (shut (with_breaks sent.breaks s))) hears.stays
          ((hears.told closed_then).0 ∙ ap (λ p. not (is_idle p)) (sym far_is.phase)) (hears.told closed_then).1 refl refl
          (λ f. far_bare (ap (λ p. not (is_idle p)) (sym far_is.phase) ∙ f)) far_is)

    -- ---- where all leave, at an end that is live
    module _ (e : sent.failed ≡ false) (live : is_idle s.near.phase ≡ false) where
      abbrev t : Session
      t = with_breaks sent.breaks (sends ms s)

      l : AllLeft sent.breaks ms s t
      l = all_left sent.breaks ms s

      same_post : post n'.posts i ≡ post m.posts i
      same_post = tells.ended ∙ ap (λ (f : Bool). end_after f (post m.posts i)) e

      live_then : closes ≡ false
      live_then = ap (λ (p : Post). is_idle p.phase) same_post ∙ sym (ap is_idle near_is.phase) ∙ live

      kept_then : kept_in n' i ≡ kept_in m i
      kept_then = tells.kept ∙ ap (λ (b : Bool). cond b [] (kept_in m i)) live_then

      peering : is_peering t ≡ is_peering s
      peering x = are_peers (l.role x) (l.far x).role

      leaves_near : IsEnd n' i (told ms s)
      leaves_near =
          subst (IsEnd n' i) (sym (told_is false e)) (record {
            phase = l.phase ∙ near_is.phase ∙ ap (λ (p : Post). p.phase) (sym same_post);
            sent = l.sent ∙ near_is.sent ∙ ap (λ (p : Post). p.sent) (sym same_post);
            held = l.held ∙ near_is.held ∙ ap (λ (p : Post). p.held) (sym same_post);
            notice = l.notice ∙ near_is.notice ∙ sym (tells.live live_then).0;
            flight = (tells.live live_then).1
                ∙ link_after octets s.is_down (link m i) sent.accepted s.near.flight ms near_is.flight
                (sending_all (breaks_in m i) (map octets ms) e) (λ d. (ready.quiet d).0)
                ∙ ap (map octets) (sym l.flight)
                ∙ (λ x. map (octets_of (sym who x) (sym peering x)) t.near.flight);
            breaks = l.breaks ∙ sym tells.breaks;
            taken = (λ x. (l.far x).taken) ∙ near_is.taken
                ∙ (λ x. cond (sym (tells.live live_then).0 x) 0 (length (sym kept_then x)));
          })

      leaves_far : IsEnd far' j (turned (told ms s))
      leaves_far =
          subst (λ (t : Session). IsEnd far' j (turned t)) (sym (told_is false e))
          (moved far far' j (turned s) (turned t) far_who (hears_same far far' j (subst (HearsEnd far far' j) live_then hears))
          l.far l.taken (λ x. are_peers (l.far x).role (l.role x)) far_is)

    -- ---- at an end that is idle nothing is told
    module _ (idle : is_idle s.near.phase ≡ true) where
      d : Down s
      d = ready.near (ap not idle)

      none_sent : sent ≡ record { accepted = []; failed = false; breaks = breaks_in m i }
      none_sent = ap (λ (ms : List Message). sending (breaks_in m i) (map octets ms)) (silent idle)

      stays : told ms s ≡ s
      stays = ap (λ (ms : List Message). told ms s) (silent idle) ∙ told_none s

      still_post : post n'.posts i ≡ post m.posts i
      still_post = tells.ended ∙ ap (λ (r : Sending). end_after r.failed (post m.posts i)) none_sent

      idle_then : closes ≡ true
      idle_then = ap (λ (p : Post). is_idle p.phase) still_post ∙ sym (ap is_idle near_is.phase) ∙ idle

      idle_near : IsEnd n' i (told ms s)
      idle_near =
          subst (IsEnd n' i) (sym stays) (record {
            phase = near_is.phase ∙ ap (λ (p : Post). p.phase) (sym still_post);
            sent = near_is.sent ∙ ap (λ (p : Post). p.sent) (sym still_post);
            held = near_is.held ∙ ap (λ (p : Post). p.held) (sym still_post);
            notice = d.near.notice ∙ ap not idle ∙ sym (tells.closed idle_then).0;
            flight = (tells.closed idle_then).1 ∙ sym (ap (map (octets_of n'.who (is_peering s))) d.near.flight);
            breaks = near_is.breaks ∙ sym (tells.breaks ∙ ap (λ (r : Sending). r.breaks) none_sent);
            taken = d.far.taken
                ∙ sym (ap (λ (b : Bool). cond b 0 (length (kept_in n' i))) (tells.closed idle_then).0
                ∙ ap length (tells.kept ∙ ap (λ (b : Bool). cond b [] (kept_in m i)) idle_then));
          })

      idle_far : IsEnd far' j (turned (told ms s))
      idle_far =
          subst (λ (t : Session). IsEnd far' j (turned t)) (sym stays)
          (moved far far' j (turned s) (turned s) far_who (record {
            post = hears.stays.post;
            kept = hears.stays.kept;
            link = (hears.told idle_then).1 ∙ sym (far_is.flight ∙ ap (map (octets_of far.who (is_peering (turned s)))) d.far.flight);
            breaks = hears.stays.breaks;
            notice = (hears.told idle_then).0 ∙ ap (λ p. not (is_idle p)) (sym far_is.phase) ∙ sym d.far.notice ∙ far_is.notice;
          }) refl refl refl far_is)

    -- ---- in one
    pub near_told : IsEnd n' i (told ms s)
    near_told = by_cases sent.failed (is_idle s.near.phase) refl refl
      where
        by_cases : (f idle : Bool) → sent.failed ≡ f → is_idle s.near.phase ≡ idle → IsEnd n' i (told ms s)
        by_cases f true e g = idle_near g
        by_cases true false e g = fails_near e
        by_cases false false e g = leaves_near e g

    pub far_told : IsEnd far' j (turned (told ms s))
    far_told = by_cases sent.failed (is_idle s.near.phase) refl refl
      where
        by_cases : (f idle : Bool) → sent.failed ≡ f → is_idle s.near.phase ≡ idle → IsEnd far' j (turned (told ms s))
        by_cases f true e g = idle_far g
        by_cases true false e g = fails_far e
        by_cases false false e g = leaves_far e g

    -- ---- what is kept of what is in flight
    pub near_part : IsPart m i far j → IsPart n' i far' j
    near_part h = by_end closes refl
      where
        by_end : (b : Bool) → closes ≡ b → IsPart n' i far' j
        by_end true e = part_none n' i far' j (tells.kept ∙ ap (λ (b : Bool). cond b [] (kept_in m i)) e)
        by_end false e =
            part_again m n' i far far' j (tells.kept ∙ ap (λ (b : Bool). cond b [] (kept_in m i)) e) (tells.live e).0
            (hears.same e).1 h

    pub far_part : IsPart far j m i → IsPart far' j n' i
    far_part h = by_end closes s.is_down refl refl
      where
        by_end : (b down : Bool) → closes ≡ b → s.is_down ≡ down → IsPart far' j n' i
        by_end true down e g =
            λ quiet. part_none far' j n' i (hears.stays.kept ∙ far_bare (sym (hears.told e).0 ∙ quiet)) quiet
        by_end false true e g =
            part_again far far' j m n' i hears.stays.kept (hears.same e).0
            ((tells.live e).1 ∙ ap (λ (b : Bool). cond b [] (link m i ++ sent.accepted)) g
            ∙ sym (near_is.flight ∙ ap (map octets) (ready.quiet g).0)) h
        by_end false false e g =
            part_more far far' j m n' i sent.accepted hears.stays.kept (hears.same e).0
            ((tells.live e).1 ∙ ap (λ (b : Bool). cond b [] (link m i ++ sent.accepted)) g) h
