-- The other ends of a node that restarts are told of the loss one after the other: each of them has a notice where it is
-- live and nothing in flight, and all other ends stay.
use Rattle.std.specs.Prelude.{◌≡◌, ◌≢◌, ◌⊎◌, ◌<◌, ◌≤◌, ℕ, zero, suc, ◌+◌, List, [], length, false, not}
use Rattle.std.specs.List.{slice_index_or}
use Rattle.std.specs.declared.option.Option.TheVariants.{None}
use Rattle.std.proofs.lemmas.Bool.{cases_eq}
use Rattle.std.proofs.lemmas.Option.{same_Some}
use Rattle.std.proofs.Common.{refl, sym, ◌∙◌, ap, subst, inl, inr, arith}
use Rattle.node_model.specs.Step.{post}
use Rattle.machine_laws.specs.MachineModel.Session.{is_idle}
use Rattle.running_nodes.specs.Seats.{Seat, far_of, link_at, live_at, notice_at, other, seat}
use Rattle.running_nodes.specs.Steps.{with_link, with_notice}
use Rattle.running_nodes.specs.declared.place.SessionPlace.{SessionPlace}
use Rattle.running_laws.specs.Wiring.{HasFar, IsPlace}
use Rattle.running_nodes.specs.Steps.{told_of_loss}
use Rattle.running_laws.specs.Losing.{all_told}
use Rattle.running_laws.proofs.Building.{AllBut, SameEnd, Stays, end_refl, end_trans, fit_but, stays_refl, stays_trans}
use Rattle.running_laws.proofs.Lists.{AreAlike, AreFit, far_nowhere, not_nobody, same_far_of, same_or_other, same_place, there_or_nobody}
use Rattle.running_laws.proofs.Marks.{link_but, link_here, link_keeps, link_stays, notice_but, notice_here, notice_keeps, notice_stays}

-- seats of the same nodes, each with room for its sessions and with nothing at those that are nobody's
pub record Going (base s : List Seat) : Type 0 where
  pub alike : AreAlike base s
  pub fit : AreFit s

-- an end that was told of a loss
pub record IsTold (s : List Seat) (r : SessionPlace) : Type 0 where
  pub notice : notice_at s r ≡ live_at s r
  pub link : link_at s r ≡ []

abbrev pub told_at : SessionPlace → List Seat → List Seat
told_at q s = with_link q [] (with_notice q (live_at s q) s)

pub same_live : (s s' : List Seat) (r : SessionPlace) → (seat s' r.node).posts ≡ (seat s r.node).posts → live_at s' r ≡ live_at s r
same_live s s' r e = ap (λ ps. not (is_idle (post ps r.session).phase)) e

-- ---- one end
module _ (base s : List Seat) (going : Going base s) (q : SessionPlace) (is : IsPlace base q) where
  is_s : IsPlace s q
  is_s = same_place s base (sym going.alike) q is

  lt : q.node < length s
  lt = is_s.node

  abbrev s1 : List Seat
  s1 = with_notice q (live_at s q) s

  but1 : AllBut s s1 q
  but1 = notice_but s q lt (live_at s q)

  fit1 : AreFit s1
  fit1 = fit_but s s1 q is_s but1 going.fit

  is_1 : IsPlace s1 q
  is_1 = same_place s1 s (sym but1.alike) q is_s

  lt1 : q.node < length s1
  lt1 = is_1.node

  but2 : AllBut s1 (told_at q s) q
  but2 = link_but s1 q lt1 []

  pub one_going : Going base (told_at q s)
  one_going = record {
    alike = but2.alike ∙ but1.alike ∙ going.alike;
    fit = fit_but s1 (told_at q s) q is_1 but2 fit1;
  }

  pub one_posts : (j : ℕ) → (seat (told_at q s) j).posts ≡ (seat s j).posts
  one_posts j = (link_keeps s1 q lt1 [] j).0 ∙ (notice_keeps s q lt (live_at s q) j).0

  pub one_stays : (r : SessionPlace) → Stays (seat s r.node) (seat (told_at q s) r.node) r.session
  one_stays r =
      stays_trans (seat s r.node) (seat s1 r.node) (seat (told_at q s) r.node) r.session
      (notice_stays s q lt (live_at s q) r) (link_stays s1 q lt1 [] r)

  pub one_other : (r : SessionPlace) → r ≢ q → SameEnd (seat s r.node) (seat (told_at q s) r.node) r.session
  one_other r ne = end_trans (seat s r.node) (seat s1 r.node) (seat (told_at q s) r.node) r.session (but1.ends r ne) (but2.ends r ne)

  pub one_told : IsTold (told_at q s) q
  one_told = record {
    notice = ap (λ bs. slice_index_or bs q.session false) (link_keeps s1 q lt1 [] q.node).1
        ∙ notice_here s q lt (live_at s q)
        (subst (λ n. q.session < n) (sym (going.fit.long q.node lt).notices) is_s.session)
        ∙ sym (same_live s (told_at q s) q (one_posts q.node));
    link = link_here s1 q lt1 []
        (subst (λ n. q.session < n) (sym (fit1.long q.node lt1).links) is_1.session);
  }

  one_keeps : (r : SessionPlace) → IsTold s r → IsTold (told_at q s) r
  one_keeps r told = by_place (same_or_other r q)
    where
      by_place : (r ≡ q) ⊎ (r ≢ q) → IsTold (told_at q s) r
      by_place (inl e) = subst (IsTold (told_at q s)) (sym e) one_told
      by_place (inr ne) = record {
        notice = (one_other r ne).notice ∙ told.notice ∙ sym (same_live s (told_at q s) r (one_posts r.node));
        link = (one_other r ne).link ∙ told.link;
      }

-- ---- the ends of n sessions, from the one with this number on
module _ (base : List Seat) (k : ℕ)
    (far : (j : ℕ) → IsPlace base (record { node = k; session = j }) → HasFar base (record { node = k; session = j })) where
  -- what one session makes of all: nothing where it is nobody's
  record OneTold (i : ℕ) (s t : List Seat) : Type 0 where
    going : Going base t
    posts : (j : ℕ) → (seat t j).posts ≡ (seat s j).posts
    stays : (r : SessionPlace) → Stays (seat s r.node) (seat t r.node) r.session
    others : (r : SessionPlace) → ((is : IsPlace base (record { node = k; session = i })) → r ≢ (far i is).far)
        → SameEnd (seat s r.node) (seat t r.node) r.session
    keeps : (r : SessionPlace) → IsTold s r → IsTold t r
    told : (is : IsPlace base (record { node = k; session = i })) → IsTold t (far i is).far

  abbrev after_one : ℕ → List Seat → List Seat
  after_one i s = told_of_loss s (far_of s (record { node = k; session = i }))

  told_here : (s : List Seat) → Going base s → (i : ℕ) (is : IsPlace base (record { node = k; session = i }))
      → after_one i s ≡ told_at (far i is).far s
  told_here s going i is =
      ap (told_of_loss s) (same_far_of base s going.alike (record { node = k; session = i }) ∙ (far i is).found)

  -- whichever proof it is that there is such a session
  far_alike : (i j : ℕ) (is : IsPlace base (record { node = k; session = i })) (is' : IsPlace base (record { node = k; session = j }))
      → i ≡ j → (far i is).far ≡ (far j is').far
  far_alike i j is is' e =
      same_Some (far i is).far (far j is').far
      (sym (far i is).found ∙ ap (λ i. far_of base (record { node = k; session = i })) e ∙ (far j is').found)

  one : (i : ℕ) (s : List Seat) → Going base s → OneTold i s (after_one i s)
  one i s going = by_other (there_or_nobody base (record { node = k; session = i }))
    where
      by_other : IsPlace base (record { node = k; session = i }) ⊎ (other (seat base k) i ≡ None) → OneTold i s (after_one i s)
      by_other (inl is) =
          let q = (far i is).far in
          let is_q = (far i is).is_place in
          subst (OneTold i s) (sym (told_here s going i is)) (record {
            going = one_going base s going q is_q;
            posts = one_posts base s going q is_q;
            stays = one_stays base s going q is_q;
            others = λ r ne. one_other base s going q is_q r (ne is);
            keeps = one_keeps base s going q is_q;
            told = λ is'. subst (IsTold (told_at q s)) (far_alike i i is is' refl) (one_told base s going q is_q);
          })
      by_other (inr none) =
          subst (OneTold i s)
          (sym (ap (told_of_loss s)
          (same_far_of base s going.alike (record { node = k; session = i })
          ∙ far_nowhere base (record { node = k; session = i }) none))) (record {
            going = going;
            posts = λ j. refl;
            stays = λ r. stays_refl (seat s r.node) r.session;
            others = λ r _. end_refl (seat s r.node) r.session;
            keeps = λ r told. told;
            told = λ is. absurd (not_nobody base (record { node = k; session = i }) (record { node = k; session = i }) is none refl);
          })

  pub all_going : (n i : ℕ) (s : List Seat) → Going base s → Going base (all_told n k i s)
  all_going zero i s going = going
  all_going (suc n) i s going = all_going n (i + 1) (after_one i s) (one i s going).going

  pub all_posts : (n i : ℕ) (s : List Seat) → Going base s → (j : ℕ) → (seat (all_told n k i s) j).posts ≡ (seat s j).posts
  all_posts zero i s going j = refl
  all_posts (suc n) i s going j =
      let first = one i s going in
      all_posts n (i + 1) (after_one i s) first.going j ∙ first.posts j

  pub all_stay : (n i : ℕ) (s : List Seat) → Going base s → (r : SessionPlace)
      → Stays (seat s r.node) (seat (all_told n k i s) r.node) r.session
  all_stay zero i s going r = stays_refl (seat s r.node) r.session
  all_stay (suc n) i s going r =
      let first = one i s going in
      let t = after_one i s in
      stays_trans (seat s r.node) (seat t r.node) (seat (all_told n k (i + 1) t) r.node) r.session (first.stays r)
      (all_stay n (i + 1) t first.going r)

  pub all_others : (n i : ℕ) (s : List Seat) → Going base s → (r : SessionPlace)
      → ((j : ℕ) (is : IsPlace base (record { node = k; session = j })) → r ≢ (far j is).far)
      → SameEnd (seat s r.node) (seat (all_told n k i s) r.node) r.session
  all_others zero i s going r ne = end_refl (seat s r.node) r.session
  all_others (suc n) i s going r ne =
      let first = one i s going in
      let t = after_one i s in
      end_trans (seat s r.node) (seat t r.node) (seat (all_told n k (i + 1) t) r.node) r.session (first.others r (ne i))
      (all_others n (i + 1) t first.going r ne)

  all_keep : (n i : ℕ) (s : List Seat) → Going base s → (r : SessionPlace) → IsTold s r → IsTold (all_told n k i s) r
  all_keep zero i s going r told = told
  all_keep (suc n) i s going r told =
      let first = one i s going in
      all_keep n (i + 1) (after_one i s) first.going r (first.keeps r told)

  pub all_are_told : (n i : ℕ) (s : List Seat) → Going base s → (j : ℕ) (is : IsPlace base (record { node = k; session = j }))
      → i ≤ j → j < i + n → IsTold (all_told n k i s) (far j is).far
  all_are_told zero i s going j is low high = absurd (omega (arith, low, high))
  all_are_told (suc n) i s going j is low high =
      by_number (cases_eq i j) (λ ne.
      all_are_told n (i + 1) (after_one i s) (one i s going).going j is (next_low ne) next_high)
    where
      next_low : i ≢ j → i + 1 ≤ j
      next_low ne = omega (arith, low, ne)

      next_high : j < i + 1 + n
      next_high = omega (arith, high)

      by_number : (i ≡ j) ⊎ (i ≢ j) → (i ≢ j → IsTold (all_told n k (i + 1) (after_one i s)) (far j is).far)
          → IsTold (all_told n k (i + 1) (after_one i s)) (far j is).far
      by_number (inl e) rest =
          let is_i = subst (λ i. IsPlace base (record { node = k; session = i })) (sym e) is in
          let first = one i s going in
          all_keep n (i + 1) (after_one i s) first.going (far j is).far
          (subst (IsTold (after_one i s)) (far_alike i j is_i is e) (first.told is_i))
      by_number (inr ne) rest = rest ne
