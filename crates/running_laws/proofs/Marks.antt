-- What the storing of a notice or of a link leaves of each seat.
use Rattle.std.specs.Prelude.{◌≡◌, ◌≢◌, ◌⊎◌, ◌<◌, ℕ, List, [], map, length, Bool, true, false, cond}
use Rattle.std.specs.List.{slice_set}
use Rattle.std.proofs.lemmas.Bool.{cases_eq}
use Rattle.std.proofs.lemmas.List.{get_or-set_same, nil_from_length}
use Rattle.std.proofs.Common.{refl, sym, ◌∙◌, ap, subst, inl, inr}
use Rattle.node_model.specs.Step.{Post}
use Rattle.machine_laws.specs.MachineModel.Session.{SessionEnd, Session, is_live, is_peering, noticed, closed}
use Rattle.node_model.specs.Step.{nothing, post}
use Rattle.running_nodes.specs.Seats.{Seat, breaks_in, kept_in, link, link_at, notice, notice_at, seat}
use Rattle.running_nodes.specs.Steps.{with_link, with_notice, with_seat}
use Rattle.running_nodes.specs.Stands.{IsEnd, octets_of}
use Rattle.running_nodes.specs.declared.place.SessionPlace.{SessionPlace}
use Rattle.running_laws.proofs.Building.{AllBut, Stays, put_but, stays_refl, stored_link, stored_notice}
use Rattle.running_laws.proofs.Lists.{seat_elsewhere, seat_here}

-- a node that is put there, with ends that stay
put_stays : (seats : List Seat) (k : ℕ) (n : Seat) → k < length seats → ((i : ℕ) → Stays (seat seats k) n i) → (r : SessionPlace)
    → Stays (seat seats r.node) (seat (with_seat k n seats) r.node) r.session
put_stays seats k n lt same r = by_node (cases_eq r.node k)
  where
    by_node : (r.node ≡ k) ⊎ (r.node ≢ k) → Stays (seat seats r.node) (seat (with_seat k n seats) r.node) r.session
    by_node (inl e) =
        subst (λ j. Stays (seat seats j) (seat (with_seat k n seats) j) r.session) (sym e)
        (subst (λ m. Stays (seat seats k) m r.session) (sym (seat_here k n seats lt)) (same r.session))
    by_node (inr ne) =
        subst (λ m. Stays (seat seats r.node) m r.session) (sym (seat_elsewhere k r.node n seats ne))
        (stays_refl (seat seats r.node) r.session)

module _ (seats : List Seat) (p : SessionPlace) (lt : p.node < length seats) where
  -- ---- a notice
  module _ (waits : Bool) where
    abbrev noticed_seat : Seat
    noticed_seat = record (seat seats p.node) { notices = slice_set (seat seats p.node).notices p.session waits }

    pub notice_but : AllBut seats (with_notice p waits seats) p
    notice_but = put_but seats p noticed_seat lt (stored_notice (seat seats p.node) p.session waits)

    -- posts and links stay
    pub notice_keeps : (j : ℕ) → ((seat (with_notice p waits seats) j).posts ≡ (seat seats j).posts) × ((seat (with_notice p waits seats) j).links ≡ (seat seats j).links)
    notice_keeps j = by_node (cases_eq j p.node)
      where
        by_node : (j ≡ p.node) ⊎ (j ≢ p.node)
            → ((seat (with_notice p waits seats) j).posts ≡ (seat seats j).posts) × ((seat (with_notice p waits seats) j).links ≡ (seat seats j).links)
        by_node (inl e) =
            let is : seat (with_notice p waits seats) j ≡ noticed_seat = ap (seat (with_notice p waits seats)) e ∙ seat_here p.node noticed_seat seats lt in (
              ap (λ (n : Seat). n.posts) is ∙ ap (λ j. (seat seats j).posts) (sym e),
              ap (λ (n : Seat). n.links) is ∙ ap (λ j. (seat seats j).links) (sym e),
            )
        by_node (inr ne) =
            let is = seat_elsewhere p.node j noticed_seat seats ne in
            (ap (λ (n : Seat). n.posts) is, ap (λ (n : Seat). n.links) is)

    pub notice_stays : (r : SessionPlace) → Stays (seat seats r.node) (seat (with_notice p waits seats) r.node) r.session
    notice_stays r = put_stays seats p.node noticed_seat lt (λ i. record { post = refl; kept = refl; breaks = refl }) r

    pub notice_here : p.session < length (seat seats p.node).notices → notice_at (with_notice p waits seats) p ≡ waits
    notice_here within =
        ap (λ (n : Seat). notice n p.session) (seat_here p.node noticed_seat seats lt)
        ∙ get_or-set_same (seat seats p.node).notices p.session waits false within

  -- ---- a link
  module _ (messages : List (List ℕ)) where
    abbrev linked_seat : Seat
    linked_seat = record (seat seats p.node) { links = slice_set (seat seats p.node).links p.session messages }

    pub link_but : AllBut seats (with_link p messages seats) p
    link_but = put_but seats p linked_seat lt (stored_link (seat seats p.node) p.session messages)

    -- posts and notices stay
    pub link_keeps : (j : ℕ) → ((seat (with_link p messages seats) j).posts ≡ (seat seats j).posts) × ((seat (with_link p messages seats) j).notices ≡ (seat seats j).notices)
    link_keeps j = by_node (cases_eq j p.node)
      where
        by_node : (j ≡ p.node) ⊎ (j ≢ p.node)
            → ((seat (with_link p messages seats) j).posts ≡ (seat seats j).posts) × ((seat (with_link p messages seats) j).notices ≡ (seat seats j).notices)
        by_node (inl e) =
            let is : seat (with_link p messages seats) j ≡ linked_seat = ap (seat (with_link p messages seats)) e ∙ seat_here p.node linked_seat seats lt in (
              ap (λ (n : Seat). n.posts) is ∙ ap (λ j. (seat seats j).posts) (sym e),
              ap (λ (n : Seat). n.notices) is ∙ ap (λ j. (seat seats j).notices) (sym e),
            )
        by_node (inr ne) =
            let is = seat_elsewhere p.node j linked_seat seats ne in
            (ap (λ (n : Seat). n.posts) is, ap (λ (n : Seat). n.notices) is)

    pub link_stays : (r : SessionPlace) → Stays (seat seats r.node) (seat (with_link p messages seats) r.node) r.session
    link_stays r = put_stays seats p.node linked_seat lt (λ i. record { post = refl; kept = refl; breaks = refl }) r

    pub link_here : p.session < length (seat seats p.node).links → link_at (with_link p messages seats) p ≡ messages
    link_here within =
        ap (λ (n : Seat). link n p.session) (seat_here p.node linked_seat seats lt)
        ∙ get_or-set_same (seat seats p.node).links p.session messages [] within

-- ---- an end of which nothing was taken keeps nothing
pub kept_nothing : (n : Seat) (i : ℕ) (s : Session) → IsEnd n i s → s.near.notice ≡ false → s.far.taken ≡ 0
    → kept_in n i ≡ []
kept_nothing n i s is quiet none =
    nil_from_length (kept_in n i)
    (ap (λ (b : Bool). cond b 0 (length (kept_in n i))) (sym quiet ∙ is.notice) ∙ sym is.taken ∙ none)

-- ---- an end that is told of a loss, and one that is closed
-- where it is not live, nothing is kept there
pub end_noticed : (n n' : Seat) (i : ℕ) (s t : Session) → Stays n n' i → notice n' i ≡ is_live s.near → link n' i ≡ []
    → t.near ≡ noticed s.near → t.far.taken ≡ 0 → (is_live s.near ≡ false → kept_in n i ≡ []) → IsEnd n i s → IsEnd n' i t
end_noticed n n' i s t same waits none near taken idle h = record {
  phase = ap (λ (e : SessionEnd). e.phase) near ∙ h.phase ∙ ap (λ (p : Post). p.phase) (sym same.post);
  sent = ap (λ (e : SessionEnd). e.sent) near ∙ h.sent ∙ ap (λ (p : Post). p.sent) (sym same.post);
  held = ap (λ (e : SessionEnd). e.held) near ∙ h.held ∙ ap (λ (p : Post). p.held) (sym same.post);
  notice = ap (λ (e : SessionEnd). e.notice) near ∙ sym waits;
  flight = none ∙ sym (ap (λ (e : SessionEnd). map (octets_of n'.who (is_peering t)) e.flight) near);
  breaks = ap (λ (e : SessionEnd). e.breaks) near ∙ h.breaks ∙ sym same.breaks;
  taken = taken ∙ by_live (is_live s.near) refl;
}
  where
    by_live : (b : Bool) → is_live s.near ≡ b → 0 ≡ cond (notice n' i) 0 (length (kept_in n' i))
    by_live true e = sym (ap (λ (b : Bool). cond b 0 (length (kept_in n' i))) (waits ∙ e))
    by_live false e =
        sym
        (ap (λ (b : Bool). cond b 0 (length (kept_in n' i))) (waits ∙ e) ∙ ap length (same.kept ∙ idle e))

-- whatever it was before
pub end_closed : (n : Seat) (i : ℕ) (e : SessionEnd) (t : Session) → post n.posts i ≡ nothing → kept_in n i ≡ [] → notice n i ≡ false
    → link n i ≡ [] → e.breaks ≡ breaks_in n i → t.near ≡ closed e → t.far.taken ≡ 0 → IsEnd n i t
end_closed n i e t empty bare quiet none breaks near taken = record {
  phase = ap (λ (e : SessionEnd). e.phase) near ∙ ap (λ (p : Post). p.phase) (sym empty);
  sent = ap (λ (e : SessionEnd). e.sent) near ∙ ap (λ (p : Post). p.sent) (sym empty);
  held = ap (λ (e : SessionEnd). e.held) near ∙ ap (λ (p : Post). p.held) (sym empty);
  notice = ap (λ (e : SessionEnd). e.notice) near ∙ sym quiet;
  flight = none ∙ sym (ap (λ (e : SessionEnd). map (octets_of n.who (is_peering t)) e.flight) near);
  breaks = ap (λ (e : SessionEnd). e.breaks) near ∙ breaks;
  taken = taken ∙ sym (ap (λ (b : Bool). cond b 0 (length (kept_in n i))) quiet ∙ ap length bare);
}
