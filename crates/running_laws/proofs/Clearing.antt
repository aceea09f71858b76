-- What is cleared after a node's step: at each of its ends that is not live no notice waits and nothing is in flight, the
-- other end of it is told of the loss, and what left a live end is discarded where its session is down.
use Rattle.std.specs.Prelude.{◌≡◌, ◌≢◌, ◌⊎◌, ◌<◌, ◌≤◌, ℕ, zero, suc, ◌+◌, List, [], length, Bool, true, false, cond, not, ◌&&◌, if◌then◌else◌}
use Rattle.std.specs.List.{slice_index_or, slice_set}
use Rattle.std.specs.declared.option.Option.TheVariants.{Some, None}
use Rattle.std.proofs.lemmas.Bool.{cases_eq, true≢false}
use Rattle.std.proofs.lemmas.List.{set-get_or}
use Rattle.std.proofs.lemmas.Option.{same_Some}
use Rattle.std.proofs.Common.{refl, sym, ◌∙◌, ap, subst, inl, inr, arith}
use Rattle.node_model.specs.Step.{Post}
use Rattle.machine_laws.specs.MachineModel.Session.{is_idle}
use Rattle.running_nodes.specs.Seats.{Seat, far_of, is_down_at, link_at, live_at, nobody, notice_at, other, seat}
use Rattle.running_nodes.specs.Stands.{IsVacant}
use Rattle.running_nodes.specs.Steps.{cleared, cleared_at, cleared_from, told_of_loss, with_link, with_notice, with_seat}
use Rattle.running_nodes.specs.declared.place.SessionPlace.{SessionPlace}
use Rattle.running_laws.specs.Wiring.{HasFar, IsPlace}
use Rattle.running_laws.proofs.Building.{AllBut, SameEnd, Stays, end_refl, end_trans, fit_but, stays_refl, stays_trans}
use Rattle.running_laws.proofs.Lists.{far_nowhere, not_nobody, same_far_of, same_or_other, same_other, same_place, seat_elsewhere}
use Rattle.running_laws.proofs.Lists.{there_or_nobody}
use Rattle.running_laws.proofs.Marks.{link_but, link_here, link_keeps, link_stays, notice_but, notice_here, notice_keeps, notice_stays}
use Rattle.running_laws.proofs.Telling.{Going, one_going, one_other, one_posts, one_stays, one_told, told_at}
use Rattle.running_laws.proofs.Wholes.{down_by_ends}

abbrev pub place : ℕ → ℕ → SessionPlace
place k i = record { node = k; session = i }

-- the same where it is said of each session whether it is down
abbrev pub clear_at : Bool → List Seat → SessionPlace → List Seat
clear_at down s p =
    if live_at s p then (if down then with_link p [] s else s)
    else told_of_loss (with_notice p false (with_link p [] s)) (far_of s p)

abbrev pub clear_from : (ℕ → Bool) → ℕ → ℕ → ℕ → List Seat → List Seat
clear_from down zero k i s = s
clear_from down (suc n) k i s = clear_from down n k (i + 1) (clear_at (down i) s (place k i))

-- ---- what it makes of one end, and of the other end
pub record AtEnds (down : Bool) (s s' : List Seat) (p q : SessionPlace) : Type 0 where
  pub live : live_at s p ≡ true → (notice_at s' p ≡ notice_at s p) × (link_at s' p ≡ cond down [] (link_at s p))
  pub closed : live_at s p ≡ false → (notice_at s' p ≡ false) × (link_at s' p ≡ [])
  pub told : live_at s p ≡ false → (notice_at s' q ≡ live_at s q) × (link_at s' q ≡ [])

pub stays_live : (s s' : List Seat) (r : SessionPlace) → Stays (seat s r.node) (seat s' r.node) r.session → live_at s' r ≡ live_at s r
stays_live s s' r e = ap (λ (p : Post). not (is_idle p.phase)) e.post

ends_before : (down : Bool) (s t u : List Seat) (p q : SessionPlace) → live_at t p ≡ live_at s p → live_at t q ≡ live_at s q
    → SameEnd (seat s p.node) (seat t p.node) p.session → AtEnds down t u p q → AtEnds down s u p q
ends_before down s t u p q live live' same a = record {
  live = λ e. let b = a.live (live ∙ e) in (b.0 ∙ same.notice, b.1 ∙ ap (cond down []) same.link);
  closed = λ e. a.closed (live ∙ e);
  told = λ e. let b = a.told (live ∙ e) in (b.0 ∙ live', b.1);
}

ends_after : (down : Bool) (s t u : List Seat) (p q : SessionPlace) → SameEnd (seat t p.node) (seat u p.node) p.session
    → (live_at s p ≡ false → SameEnd (seat t q.node) (seat u q.node) q.session) → AtEnds down s t p q → AtEnds down s u p q
ends_after down s t u p q same same' a = record {
  live = λ e. let b = a.live e in (same.notice ∙ b.0, same.link ∙ b.1);
  closed = λ e. let b = a.closed e in (same.notice ∙ b.0, same.link ∙ b.1);
  told = λ e. let b = a.told e in ((same' e).notice ∙ b.0, (same' e).link ∙ b.1);
}

-- ---- one session
pub record OneCleared (base : List Seat) (down : Bool) (s s' : List Seat) (p q : SessionPlace) : Type 0 where
  pub going : Going base s'
  pub posts : (j : ℕ) → (seat s' j).posts ≡ (seat s j).posts
  pub stays : (r : SessionPlace) → Stays (seat s r.node) (seat s' r.node) r.session
  pub ends : AtEnds down s s' p q
  pub rest : (r : SessionPlace) → r ≢ p → (live_at s p ≡ false → r ≢ q) → SameEnd (seat s r.node) (seat s' r.node) r.session
  pub nodes : (m : ℕ) → m ≢ p.node → (live_at s p ≡ false → m ≢ q.node) → seat s' m ≡ seat s m

module _ (base s : List Seat) (going : Going base s) (p q : SessionPlace) (is : IsPlace base p) (is_q : IsPlace base q)
    (found : far_of base p ≡ Some q) (apart : q.node ≢ p.node) where
  is_s : IsPlace s p
  is_s = same_place s base (sym going.alike) p is

  lt : p.node < length s
  lt = is_s.node

  -- its link is emptied
  abbrev s1 : List Seat
  s1 = with_link p [] s

  but1 : AllBut s s1 p
  but1 = link_but s p lt []

  going1 : Going base s1
  going1 = record { alike = but1.alike ∙ going.alike; fit = fit_but s s1 p is_s but1 going.fit }

  emptied_link : link_at s1 p ≡ []
  emptied_link = link_here s p lt [] (subst (λ n. p.session < n) (sym (going.fit.long p.node lt).links) is_s.session)

  elsewhere1 : (m : ℕ) → m ≢ p.node → seat s1 m ≡ seat s m
  elsewhere1 m ne = seat_elsewhere p.node m (record (seat s p.node) { links = slice_set (seat s p.node).links p.session [] }) s ne

  one_discarded : live_at s p ≡ true → OneCleared base true s s1 p q
  one_discarded e = record {
    going = going1;
    posts = λ j. (link_keeps s p lt [] j).0;
    stays = link_stays s p lt [];
    ends = record {
      live = λ _. (ap (λ bs. slice_index_or bs p.session false) (link_keeps s p lt [] p.node).1, emptied_link);
      closed = λ f. absurd (true≢false (sym e ∙ f));
      told = λ f. absurd (true≢false (sym e ∙ f));
    };
    rest = λ r ne _. but1.ends r ne;
    nodes = λ m ne _. elsewhere1 m ne;
  }

  one_kept : live_at s p ≡ true → OneCleared base false s s p q
  one_kept e = record {
    going = going;
    posts = λ j. refl;
    stays = λ r. stays_refl (seat s r.node) r.session;
    ends = record {
      live = λ _. (refl, refl);
      closed = λ f. absurd (true≢false (sym e ∙ f));
      told = λ f. absurd (true≢false (sym e ∙ f));
    };
    rest = λ r _ _. end_refl (seat s r.node) r.session;
    nodes = λ m _ _. refl;
  }

  -- the end that is not live
  is_1 : IsPlace s1 p
  is_1 = same_place s1 base (sym going1.alike) p is

  lt1 : p.node < length s1
  lt1 = is_1.node

  abbrev s2 : List Seat
  s2 = with_notice p false s1

  but2 : AllBut s1 s2 p
  but2 = notice_but s1 p lt1 false

  going2 : Going base s2
  going2 = record { alike = but2.alike ∙ going1.alike; fit = fit_but s1 s2 p is_1 but2 going1.fit }

  abbrev s3 : List Seat
  s3 = told_at q s2

  not_q : p ≢ q
  not_q e = apart (sym (ap (λ (p : SessionPlace). p.node) e))

  stays2 : (r : SessionPlace) → Stays (seat s r.node) (seat s2 r.node) r.session
  stays2 r =
      stays_trans (seat s r.node) (seat s1 r.node) (seat s2 r.node) r.session (link_stays s p lt [] r) (notice_stays s1 p lt1 false r)

  stays3 : (r : SessionPlace) → Stays (seat s r.node) (seat s3 r.node) r.session
  stays3 r =
      stays_trans (seat s r.node) (seat s2 r.node) (seat s3 r.node) r.session (stays2 r) (one_stays base s2 going2 q is_q r)

  one_closed : (down : Bool) → live_at s p ≡ false → OneCleared base down s s3 p q
  one_closed down e = record {
    going = one_going base s2 going2 q is_q;
    posts = λ j. one_posts base s2 going2 q is_q j ∙ (notice_keeps s1 p lt1 false j).0 ∙ (link_keeps s p lt [] j).0;
    stays = stays3;
    ends = record {
      live = λ f. absurd (true≢false (sym f ∙ e));
      closed = λ _. (
        (one_other base s2 going2 q is_q p not_q).notice
            ∙ notice_here s1 p lt1 false
            (subst (λ n. p.session < n) (sym (going1.fit.long p.node lt1).notices) is_1.session),
        (one_other base s2 going2 q is_q p not_q).link
            ∙ ap (λ ls. slice_index_or ls p.session []) (notice_keeps s1 p lt1 false p.node).1
            ∙ emptied_link,
      );
      told = λ _.
          let t = one_told base s2 going2 q is_q in
          (t.notice ∙ stays_live s s3 q (stays3 q), t.link);
    };
    rest = λ r ne far.
        end_trans (seat s r.node) (seat s2 r.node) (seat s3 r.node) r.session
        (end_trans (seat s r.node) (seat s1 r.node) (seat s2 r.node) r.session (but1.ends r ne) (but2.ends r ne))
        (one_other base s2 going2 q is_q r (far e));
    nodes = λ m ne far. one_node m (far e)
        ∙ seat_elsewhere p.node m (record (seat s1 p.node) { notices = slice_set (seat s1 p.node).notices p.session false }) s1 ne
        ∙ elsewhere1 m ne;
  }
    where
      one_node : (m : ℕ) → m ≢ q.node → seat s3 m ≡ seat s2 m
      one_node m ne =
          let u = with_notice q (live_at s2 q) s2 in
          seat_elsewhere q.node m (record (seat u q.node) { links = slice_set (seat u q.node).links q.session [] }) u ne
          ∙ seat_elsewhere q.node m
          (record (seat s2 q.node) { notices = slice_set (seat s2 q.node).notices q.session (live_at s2 q) }) s2 ne

  pub one_cleared : (down : Bool) → OneCleared base down s (clear_at down s p) p q
  one_cleared down =
      subst (λ o. OneCleared base down s
      (cond (live_at s p) (cond down (with_link p [] s) s) (told_of_loss (with_notice p false (with_link p [] s)) o)) p q)
      (sym (same_far_of base s going.alike p ∙ found)) (by_live (live_at s p) down refl)
    where
      by_live : (live down : Bool) → live_at s p ≡ live
          → OneCleared base down s (cond live (cond down (with_link p [] s) s) s3) p q
      by_live true true e = one_discarded e
      by_live true false e = one_kept e
      by_live false down e = one_closed down e

-- ---- n sessions, from the one with this number on
module _ (base : List Seat) (k : ℕ) (far : (j : ℕ) → IsPlace base (place k j) → HasFar base (place k j))
    (off : (j : ℕ) (is : IsPlace base (place k j)) → (far j is).far.node ≢ k) where
  -- nothing is cleared at an end that is nobody's
  module _ (s : List Seat) (going : Going base s) (i : ℕ) (none : other (seat base k) i ≡ None) where
    vacant_there : IsVacant (seat s k) i
    vacant_there = going.fit.vacant (place k i) (same_other base s going.alike (place k i) ∙ none)

    dead_there : live_at s (place k i) ≡ false
    dead_there = ap (λ (p : Post). not (is_idle p.phase)) vacant_there.post

    far_there : far_of s (place k i) ≡ None
    far_there = same_far_of base s going.alike (place k i) ∙ far_nowhere base (place k i) none

    same_link : with_link (place k i) [] s ≡ s
    same_link =
        ap (λ ls. with_seat k (record (seat s k) { links = ls }) s)
        (ap (slice_set (seat s k).links i) (sym vacant_there.link) ∙ set-get_or (seat s k).links i [])
        ∙ set-get_or s k nobody

    same_notice : with_notice (place k i) false s ≡ s
    same_notice =
        ap (λ bs. with_seat k (record (seat s k) { notices = bs }) s)
        (ap (slice_set (seat s k).notices i) (sym vacant_there.notice) ∙ set-get_or (seat s k).notices i false)
        ∙ set-get_or s k nobody

    told_nobody : told_of_loss (with_notice (place k i) false (with_link (place k i) [] s)) (far_of s (place k i)) ≡ s
    told_nobody =
        ap (told_of_loss (with_notice (place k i) false (with_link (place k i) [] s))) far_there
        ∙ ap (with_notice (place k i) false) same_link ∙ same_notice

    pub clear_nobody : (down : Bool) → clear_at down s (place k i) ≡ s
    clear_nobody down =
        ap (λ (live : Bool). cond live (cond down (with_link (place k i) [] s) s)
        (told_of_loss (with_notice (place k i) false (with_link (place k i) [] s)) (far_of s (place k i)))) dead_there
        ∙ told_nobody

    cleared_nobody : cleared_at s (place k i) ≡ s
    cleared_nobody = clear_nobody (is_down_at s (place k i))

  own_not_far : (i j : ℕ) (lt : IsPlace base (place k j)) → place k i ≢ (far j lt).far
  own_not_far i j lt e = off j lt (sym (ap (λ (p : SessionPlace). p.node) e))

  pub far_once : (i j : ℕ) (lt : IsPlace base (place k i)) (lt' : IsPlace base (place k j)) → i ≢ j → (far i lt).far ≢ (far j lt').far
  far_once i j lt lt' ne e =
      ne (ap (λ (p : SessionPlace). p.session)
      (same_Some (place k i) (place k j) (sym (far i lt).back ∙ ap (far_of base) e ∙ (far j lt').back)))

  -- whichever proof it is that there is such a session
  far_same : (i j : ℕ) (lt : IsPlace base (place k i)) (lt' : IsPlace base (place k j)) → i ≡ j → (far i lt).far ≡ (far j lt').far
  far_same i j lt lt' e =
      same_Some (far i lt).far (far j lt').far
      (sym (far i lt).found ∙ ap (λ i. far_of base (place k i)) e ∙ (far j lt').found)

  own_once : (i j : ℕ) → i ≢ j → place k i ≢ place k j
  own_once i j ne e = ne (ap (λ (p : SessionPlace). p.session) e)

  pub record IsCleared (down : ℕ → Bool) (n i : ℕ) (s s' : List Seat) : Type 0 where
    pub going : Going base s'
    pub posts : (j : ℕ) → (seat s' j).posts ≡ (seat s j).posts
    pub stays : (r : SessionPlace) → Stays (seat s r.node) (seat s' r.node) r.session
    pub ends : (j : ℕ) (lt : IsPlace base (place k j)) → i ≤ j → j < i + n → AtEnds (down j) s s' (place k j) (far j lt).far
    pub rest : (r : SessionPlace) → ((j : ℕ) → i ≤ j → j < i + n → r ≢ place k j)
        → ((j : ℕ) (lt : IsPlace base (place k j)) → i ≤ j → j < i + n → live_at s (place k j) ≡ false → r ≢ (far j lt).far)
        → SameEnd (seat s r.node) (seat s' r.node) r.session

  first_low : (i : ℕ) → i ≤ i
  first_low i = omega arith

  first_high : (n i : ℕ) → i < i + suc n
  first_high n i = omega arith

  below : (i j : ℕ) → i + 1 ≤ j → i ≤ j
  below i j h = omega (arith, h)

  higher : (n i j : ℕ) → j < i + 1 + n → j < i + suc n
  higher n i j h = omega (arith, h)

  lower : (i j : ℕ) → i ≤ j → i ≢ j → i + 1 ≤ j
  lower i j h ne = omega (arith, h, ne)

  further : (n i j : ℕ) → j < i + suc n → j < i + 1 + n
  further n i j h = omega (arith, h)

  not_first : (i j : ℕ) → i + 1 ≤ j → i ≢ j
  not_first i j h e = omega (arith, h, e)

  module _ (down : ℕ → Bool) where
    step_cleared : (n i : ℕ) (s t u : List Seat) (lt : IsPlace base (place k i))
        → OneCleared base (down i) s t (place k i) (far i lt).far → IsCleared down n (i + 1) t u → IsCleared down (suc n) i s u
    step_cleared n i s t u lt one r = record {
      going = r.going;
      posts = λ j. r.posts j ∙ one.posts j;
      stays = λ p. stays_trans (seat s p.node) (seat t p.node) (seat u p.node) p.session (one.stays p) (r.stays p);
      ends = λ j less low high. by_number j less low high (cases_eq i j);
      rest = λ p not_own not_far.
          end_trans (seat s p.node) (seat t p.node) (seat u p.node) p.session
          (one.rest p (not_own i (first_low i) (first_high n i)) (not_far i lt (first_low i) (first_high n i)))
          (r.rest p (λ j low high. not_own j (below i j low) (higher n i j high))
          (λ j less low high e. not_far j less (below i j low) (higher n i j high) (sym (same_live j) ∙ e)));
    }
      where
        same_live : (j : ℕ) → live_at t (place k j) ≡ live_at s (place k j)
        same_live j = stays_live s t (place k j) (one.stays (place k j))

        later_own : SameEnd (seat t k) (seat u k) i
        later_own =
            r.rest (place k i) (λ j low _. own_once i j (not_first i j low)) (λ j less _ _ _. own_not_far i j less)

        later_far : SameEnd (seat t (far i lt).far.node) (seat u (far i lt).far.node) (far i lt).far.session
        later_far =
            r.rest (far i lt).far (λ j _ _ e. own_not_far j i lt (sym e))
            (λ j less low _ _. far_once i j lt less (not_first i j low))

        earlier_own : (j : ℕ) → i ≢ j → SameEnd (seat s k) (seat t k) j
        earlier_own j ne = one.rest (place k j) (λ e. own_once i j ne (sym e)) (λ _. own_not_far j i lt)

        by_number : (j : ℕ) (less : IsPlace base (place k j)) → i ≤ j → j < i + suc n → (i ≡ j) ⊎ (i ≢ j)
            → AtEnds (down j) s u (place k j) (far j less).far
        by_number j less low high (inl e) =
            subst (AtEnds (down j) s u (place k j)) (far_same i j lt less e)
            (subst (λ j. AtEnds (down j) s u (place k j) (far i lt).far) e
            (ends_after (down i) s t u (place k i) (far i lt).far later_own (λ _. later_far) one.ends))
        by_number j less low high (inr ne) =
            ends_before (down j) s t u (place k j) (far j less).far (same_live j)
            (stays_live s t (far j less).far (one.stays (far j less).far)) (earlier_own j ne)
            (r.ends j less (lower i j low ne) (further n i j high))

    -- one that is nobody's
    skip_cleared : (n i : ℕ) (s u : List Seat) → other (seat base k) i ≡ None → IsCleared down n (i + 1) s u
        → IsCleared down (suc n) i s u
    skip_cleared n i s u none r = record {
      going = r.going;
      posts = r.posts;
      stays = r.stays;
      ends = λ j lt low high.
          r.ends j lt (lower i j low (λ e. not_nobody base (place k j) (place k i) lt none (ap (place k) e))) (further n i j high);
      rest = λ p not_own not_far.
          r.rest p (λ j low high. not_own j (below i j low) (higher n i j high))
          (λ j lt low high. not_far j lt (below i j low) (higher n i j high));
    }

    abbrev next_of : ℕ → List Seat → List Seat
    next_of i s = clear_at (down i) s (place k i)

    one_of : (s : List Seat) → Going base s → (i : ℕ) (is : IsPlace base (place k i))
        → OneCleared base (down i) s (next_of i s) (place k i) (far i is).far
    one_of s going i is =
        one_cleared base s going (place k i) (far i is).far is (far i is).is_place (far i is).found (off i is) (down i)

    pub is_cleared : (n i : ℕ) (s : List Seat) → Going base s → IsCleared down n i s (clear_from down n k i s)
    is_cleared zero i s going = record {
      going = going;
      posts = λ j. refl;
      stays = λ r. stays_refl (seat s r.node) r.session;
      ends = λ j lt low high. absurd (none i j low high);
      rest = λ r _ _. end_refl (seat s r.node) r.session;
    }
      where
        none : (i j : ℕ) → i ≤ j → j < i + 0 → ⊥
        none i j low high = omega (arith, low, high)
    is_cleared (suc n) i s going =
        elim (there_or_nobody base (place k i)) as (λ _. IsCleared down (suc n) i s (clear_from down n k (i + 1) (next_of i s))) [
          | inl is ↦
              step_cleared n i s (next_of i s) (clear_from down n k (i + 1) (next_of i s)) is (one_of s going i is)
              (is_cleared n (i + 1) (next_of i s) (one_of s going i is).going)
          | inr none ↦
              subst (λ t. IsCleared down (suc n) i s (clear_from down n k (i + 1) t)) (sym (clear_nobody s going i none (down i)))
              (skip_cleared n i s (clear_from down n k (i + 1) s) none (is_cleared n (i + 1) s going))
        ]

    -- a node that has none of these ends
    pub clear_nodes : (n i : ℕ) (s : List Seat) → Going base s → (m : ℕ) → m ≢ k
        → ((j : ℕ) (lt : IsPlace base (place k j)) → live_at s (place k j) ≡ false → m ≢ (far j lt).far.node)
        → seat (clear_from down n k i s) m ≡ seat s m
    clear_nodes zero i s going m ne not_far = refl
    clear_nodes (suc n) i s going m ne not_far =
        elim (there_or_nobody base (place k i)) as (λ _. seat (clear_from down n k (i + 1) (next_of i s)) m ≡ seat s m) [
          | inl is ↦
              clear_nodes n (i + 1) (next_of i s) (one_of s going i is).going m ne
              (λ j less e. not_far j less
              (sym (stays_live s (next_of i s) (place k j) ((one_of s going i is).stays (place k j))) ∙ e))
              ∙ (one_of s going i is).nodes m ne (not_far i is)
          | inr none ↦
              ap (λ t. seat (clear_from down n k (i + 1) t) m) (clear_nobody s going i none (down i))
              ∙ clear_nodes n (i + 1) s going m ne not_far
        ]

    -- where a session is down as its ends say
    pub cleared_by : (n i : ℕ) (s : List Seat) → Going base s
        → ((j : ℕ) → IsPlace base (place k j) → i ≤ j → j < i + n → live_at s (place k j) ≡ true
        → is_down_at s (place k j) ≡ down j)
        → cleared_from n k i s ≡ clear_from down n k i s
    cleared_by zero i s going same = refl
    cleared_by (suc n) i s going same =
        elim (there_or_nobody base (place k i)) as (λ _. cleared_from n k (i + 1) (cleared_at s (place k i))
        ≡ clear_from down n k (i + 1) (next_of i s)) [
          | inl is ↦
              ap (cleared_from n k (i + 1)) (first (same i is (first_low i) (first_high n i)) (live_at s (place k i)) refl)
              ∙ cleared_by n (i + 1) (next_of i s) (one_of s going i is).going (λ j less low high live.
              later is j less low
              ∙ same j less (below i j low) (higher n i j high)
              (sym (stays_live s (next_of i s) (place k j) ((one_of s going i is).stays (place k j))) ∙ live))
          | inr none ↦
              ap (cleared_from n k (i + 1)) (cleared_nobody s going i none)
              ∙ cleared_by n (i + 1) s going (λ j less low high. same j less (below i j low) (higher n i j high))
              ∙ ap (clear_from down n k (i + 1)) (sym (clear_nobody s going i none (down i)))
        ]
      where
        first : (live_at s (place k i) ≡ true → is_down_at s (place k i) ≡ down i) → (live : Bool) → live_at s (place k i) ≡ live
            → cleared_at s (place k i) ≡ clear_at (down i) s (place k i)
        first at true e =
            ap (λ (b : Bool). cond (live_at s (place k i)) (cond b (with_link (place k i) [] s) s)
            (told_of_loss (with_notice (place k i) false (with_link (place k i) [] s)) (far_of s (place k i))))
            (at e)
        first at false e =
            ap (λ (b : Bool). cond b (cond (is_down_at s (place k i)) (with_link (place k i) [] s) s)
            (told_of_loss (with_notice (place k i) false (with_link (place k i) [] s)) (far_of s (place k i)))) e
            ∙ sym (ap (λ (b : Bool). cond b (cond (down i) (with_link (place k i) [] s) s)
            (told_of_loss (with_notice (place k i) false (with_link (place k i) [] s)) (far_of s (place k i)))) e)

        later : IsPlace base (place k i) → (j : ℕ) (less : IsPlace base (place k j)) → i + 1 ≤ j
            → is_down_at (next_of i s) (place k j) ≡ is_down_at s (place k j)
        later is j less low =
            let t = next_of i s in
            let one = one_of s going i is in
            let ne = not_first i j low in
            let q = (far j less).far in
            let near = one.rest (place k j) (λ e. own_once i j ne (sym e)) (λ _. own_not_far j i is) in
            let there = one.rest q (λ e. own_not_far i j less (sym e)) (λ _ e. far_once i j is less ne (sym e)) in
            down_by_ends s t (one.going.alike ∙ sym going.alike) (place k j) q
            (same_far_of base s going.alike (place k j) ∙ (far j less).found)
            (λ x. not (is_idle (near.post x).phase) && not (near.notice x))
            (λ x. not (is_idle (there.post x).phase) && not (there.notice x))

  -- whether an end is the other end of one of these
  abbrev IsFar : SessionPlace → Type 0
  IsFar r = (j : ℕ) × (lt : IsPlace base (place k j)) × (r ≡ (far j lt).far)

  pub far_or_not : (r : SessionPlace) (m : ℕ) → IsFar r ⊎ ((j : ℕ) (lt : IsPlace base (place k j)) → j < m → r ≢ (far j lt).far)
  far_or_not r zero = inr (λ j lt below e. nothing_below j below)
    where
      nothing_below : (j : ℕ) → j < 0 → ⊥
      nothing_below j h = omega (arith, h)
  far_or_not r (suc m) = by_rest (far_or_not r m) (there_or_nobody base (place k m))
    where
      earlier : (j : ℕ) → j < suc m → j ≢ m → j < m
      earlier j h ne = omega (arith, h, ne)

      by_rest : (IsFar r ⊎ ((j : ℕ) (lt : IsPlace base (place k j)) → j < m → r ≢ (far j lt).far))
          → (IsPlace base (place k m) ⊎ (other (seat base k) m ≡ None))
          → IsFar r ⊎ ((j : ℕ) (lt : IsPlace base (place k j)) → j < suc m → r ≢ (far j lt).far)
      by_rest (inl found) b = inl found
      by_rest (inr none) (inr nobody_there) =
          inr (λ j lt below.
          none j lt (earlier j below (λ e. not_nobody base (place k j) (place k m) lt nobody_there (ap (place k) (sym e)))))
      by_rest (inr none) (inl is) = by_place (same_or_other r (far m is).far)
        where
          by_number : r ≢ (far m is).far → (j : ℕ) (lt : IsPlace base (place k j)) → j < suc m → r ≡ (far j lt).far
              → (j ≡ m) ⊎ (j ≢ m) → ⊥
          by_number ne j lt below e (inl g) = ne (e ∙ far_same j m lt is g)
          by_number ne j lt below e (inr off) = none j lt (earlier j below off) e

          by_place : (r ≡ (far m is).far) ⊎ (r ≢ (far m is).far)
              → IsFar r ⊎ ((j : ℕ) (lt : IsPlace base (place k j)) → j < suc m → r ≢ (far j lt).far)
          by_place (inl e) = inl (m, is, e)
          by_place (inr ne) = inr (λ j lt below e. by_number ne j lt below e (cases_eq j m))

  -- from seats that differ at ends that are cleared alone
  pub cleared_from_same : (down : ℕ → Bool) (n i : ℕ) (s t u : List Seat) → ((j : ℕ) → (seat t j).posts ≡ (seat s j).posts)
      → ((r : SessionPlace) → Stays (seat s r.node) (seat t r.node) r.session)
      → ((j : ℕ) → IsPlace base (place k j) → i ≤ j → j < i + n → SameEnd (seat s k) (seat t k) j)
      → ((r : SessionPlace) → ((j : ℕ) → i ≤ j → j < i + n → r ≢ place k j)
      → ((j : ℕ) (lt : IsPlace base (place k j)) → i ≤ j → j < i + n → live_at s (place k j) ≡ false → r ≢ (far j lt).far)
      → SameEnd (seat s r.node) (seat t r.node) r.session)
      → IsCleared down n i t u → IsCleared down n i s u
  cleared_from_same down n i s t u posts stays same others c = record {
    going = c.going;
    posts = λ j. c.posts j ∙ posts j;
    stays = λ r. stays_trans (seat s r.node) (seat t r.node) (seat u r.node) r.session (stays r) (c.stays r);
    ends = λ j lt low high.
        ends_before (down j) s t u (place k j) (far j lt).far (stays_live s t (place k j) (stays (place k j)))
        (stays_live s t (far j lt).far (stays (far j lt).far)) (same j lt low high) (c.ends j lt low high);
    rest = λ r not_own not_far.
        end_trans (seat s r.node) (seat t r.node) (seat u r.node) r.session (others r not_own not_far)
        (c.rest r not_own (λ j lt low high e. not_far j lt low high (sym (stays_live s t (place k j) (stays (place k j))) ∙ e)));
  }

  pub all_cleared : (s : List Seat) → Going base s → (count : ℕ) → length (seat s k).posts ≡ count
      → IsCleared (λ j. is_down_at s (place k j)) count 0 s (cleared s k)
  all_cleared s going count long =
      subst (IsCleared (λ j. is_down_at s (place k j)) count 0 s)
      (sym (ap (λ n. cleared_from n k 0 s) long ∙ cleared_by (λ j. is_down_at s (place k j)) count 0 s going (λ j _ _ _ _. refl)))
      (is_cleared (λ j. is_down_at s (place k j)) count 0 s going)
