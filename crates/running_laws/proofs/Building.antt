-- Seats that change at single places.
use Rattle.std.specs.Prelude.{◌≡◌, ◌≢◌, ◌⊎◌, ◌<◌, ℕ, zero, suc, List, [], ◌∷◌, ◌++◌, map, length, take, Bool, false, cond}
use Rattle.std.specs.List.{slice_set}
use Rattle.std.specs.declared.option.Option.TheVariants.{Some, None}
use Rattle.std.proofs.lemmas.Bool.{cases_eq}
use Rattle.std.proofs.lemmas.List.{get_or-set_other, length-set}
use Rattle.std.proofs.lemmas.Option.{none-some, same_Some}
use Rattle.std.proofs.Common.{refl, sym, ◌∙◌, ap, subst, inl, inr}
use Rattle.node_model.specs.Step.{Post, nothing, post}
use Rattle.machine_laws.specs.MachineModel.Session.{SessionEnd, Session, is_peering}
use Rattle.machine_laws.specs.MachineModel.Network.{MachineState}
use Rattle.machine_laws.specs.MachineModel.Steps.{session_of}
use Rattle.running_nodes.specs.Seats.{Seat, breaks_in, far_of, kept_in, link, notice, other, others_of, seat, whos}
use Rattle.running_nodes.specs.Steps.{with_seat}
use Rattle.running_nodes.specs.Stands.{HasEnd, IsEnd, IsLong, IsVacant, KeepsPart, Seats, first_of, octets_of}
use Rattle.running_nodes.specs.declared.place.SessionPlace.{SessionPlace}
use Rattle.running_laws.specs.Wiring.{IsPlace, name_at, other_at}
use Rattle.running_laws.proofs.Lists.{AreAlike, AreFit, EndAt, far_nowhere, not_nobody, place_with, same_name_at, same_other}
use Rattle.running_laws.proofs.Lists.{same_other_at, seat_elsewhere, seat_here, there_or_nobody, with_alike}

-- ---- one end of a node
pub record SameEnd (n n' : Seat) (i : ℕ) : Type 0 where
  pub post : post n'.posts i ≡ post n.posts i
  pub kept : kept_in n' i ≡ kept_in n i
  pub link : link n' i ≡ link n i
  pub breaks : breaks_in n' i ≡ breaks_in n i
  pub notice : notice n' i ≡ notice n i

-- an end but for its notice and what is in flight
pub record Stays (n n' : Seat) (i : ℕ) : Type 0 where
  pub post : post n'.posts i ≡ post n.posts i
  pub kept : kept_in n' i ≡ kept_in n i
  pub breaks : breaks_in n' i ≡ breaks_in n i

-- a node that differs at one of its ends alone
pub record SameBut (n n' : Seat) (i : ℕ) : Type 0 where
  pub who : n'.who ≡ n.who
  pub posts_long : length n'.posts ≡ length n.posts
  pub kept_long : length n'.kept ≡ length n.kept
  pub links_long : length n'.links ≡ length n.links
  pub breaks_long : length n'.breaks ≡ length n.breaks
  pub notices_long : length n'.notices ≡ length n.notices
  pub ends : (j : ℕ) → j ≢ i → SameEnd n n' j

-- nodes that differ at one place alone
pub record AllBut (seats seats' : List Seat) (p : SessionPlace) : Type 0 where
  pub alike : AreAlike seats seats'
  pub long : ((k : ℕ) → k < length seats → IsLong (seat seats k)) → (k : ℕ) → k < length seats' → IsLong (seat seats' k)
  pub ends : (r : SessionPlace) → r ≢ p → SameEnd (seat seats r.node) (seat seats' r.node) r.session

pub end_refl : (n : Seat) (i : ℕ) → SameEnd n n i
end_refl n i = record { post = refl; kept = refl; link = refl; breaks = refl; notice = refl }

pub end_trans : (n n' m : Seat) (i : ℕ) → SameEnd n n' i → SameEnd n' m i → SameEnd n m i
end_trans n n' m i a b = record {
  post = b.post ∙ a.post;
  kept = b.kept ∙ a.kept;
  link = b.link ∙ a.link;
  breaks = b.breaks ∙ a.breaks;
  notice = b.notice ∙ a.notice;
}

pub end_back : (n n' : Seat) (i : ℕ) → SameEnd n n' i → SameEnd n' n i
end_back n n' i a = record {
  post = sym a.post;
  kept = sym a.kept;
  link = sym a.link;
  breaks = sym a.breaks;
  notice = sym a.notice;
}

pub stays_refl : (n : Seat) (i : ℕ) → Stays n n i
stays_refl n i = record { post = refl; kept = refl; breaks = refl }

pub stays_trans : (n n' m : Seat) (i : ℕ) → Stays n n' i → Stays n' m i → Stays n m i
stays_trans n n' m i a b = record { post = b.post ∙ a.post; kept = b.kept ∙ a.kept; breaks = b.breaks ∙ a.breaks }

pub stays_back : (n n' : Seat) (i : ℕ) → Stays n n' i → Stays n' n i
stays_back n n' i a = record { post = sym a.post; kept = sym a.kept; breaks = sym a.breaks }

pub end_stays : (n n' : Seat) (i : ℕ) → SameEnd n n' i → Stays n n' i
end_stays n n' i a = record { post = a.post; kept = a.kept; breaks = a.breaks }

-- an end at which there is nothing
pub vacant_same : (n n' : Seat) (i : ℕ) → SameEnd n n' i → IsVacant n i → IsVacant n' i
vacant_same n n' i a v = record {
  post = a.post ∙ v.post;
  kept = a.kept ∙ v.kept;
  link = a.link ∙ v.link;
  breaks = a.breaks ∙ v.breaks;
  notice = a.notice ∙ v.notice;
}

pub both_vacant : (n n' : Seat) (i : ℕ) → IsVacant n i → IsVacant n' i → SameEnd n n' i
both_vacant n n' i v u = record {
  post = u.post ∙ sym v.post;
  kept = u.kept ∙ sym v.kept;
  link = u.link ∙ sym v.link;
  breaks = u.breaks ∙ sym v.breaks;
  notice = u.notice ∙ sym v.notice;
}

pub long_again : (n n' : Seat) → n'.who ≡ n.who → length n'.posts ≡ length n.posts → length n'.kept ≡ length n.kept
    → length n'.links ≡ length n.links → length n'.breaks ≡ length n.breaks → length n'.notices ≡ length n.notices
    → IsLong n → IsLong n'
long_again n n' who posts kept links breaks notices l = record {
  posts = posts ∙ l.posts ∙ ap (λ x. length (others_of x)) (sym who);
  kept = kept ∙ l.kept ∙ ap (λ x. length (others_of x)) (sym who);
  links = links ∙ l.links ∙ ap (λ x. length (others_of x)) (sym who);
  breaks = breaks ∙ l.breaks ∙ ap (λ x. length (others_of x)) (sym who);
  notices = notices ∙ l.notices ∙ ap (λ x. length (others_of x)) (sym who);
}

-- what is nobody's stays so where a place changes
pub fit_but : (seats seats' : List Seat) (p : SessionPlace) → IsPlace seats p → AllBut seats seats' p → AreFit seats → AreFit seats'
fit_but seats seats' p is but fit = record {
  long = but.long fit.long;
  vacant = λ r none.
      let before = sym (same_other seats seats' but.alike r) ∙ none in
      vacant_same (seat seats r.node) (seat seats' r.node) r.session (but.ends r (not_nobody seats p r is before))
      (fit.vacant r before);
}

-- where one node changes at one of its ends
pub put_but : (seats : List Seat) (p : SessionPlace) (n' : Seat) → p.node < length seats → SameBut (seat seats p.node) n' p.session
    → AllBut seats (with_seat p.node n' seats) p
put_but seats p n' lt s = record {
  alike = with_alike p.node n' seats s.who;
  long = λ all k less. by_node_long all k (cases_eq k p.node) (subst (λ n. k < n) (length-set seats p.node n') less);
  ends = λ r ne. by_node r ne (cases_eq r.node p.node);
}
  where
    by_node_long : ((k : ℕ) → k < length seats → IsLong (seat seats k)) → (k : ℕ) → (k ≡ p.node) ⊎ (k ≢ p.node) → k < length seats
        → IsLong (seat (with_seat p.node n' seats) k)
    by_node_long all k (inl e) less =
        subst (λ k. IsLong (seat (with_seat p.node n' seats) k)) (sym e)
        (subst IsLong (sym (seat_here p.node n' seats lt))
        (long_again (seat seats p.node) n' s.who s.posts_long s.kept_long s.links_long s.breaks_long s.notices_long (all p.node lt)))
    by_node_long all k (inr ne) less = subst IsLong (sym (seat_elsewhere p.node k n' seats ne)) (all k less)

    by_node : (r : SessionPlace) → r ≢ p → (r.node ≡ p.node) ⊎ (r.node ≢ p.node)
        → SameEnd (seat seats r.node) (seat (with_seat p.node n' seats) r.node) r.session
    by_node r ne (inl e) =
        subst (λ k. SameEnd (seat seats k) (seat (with_seat p.node n' seats) k) r.session) (sym e)
        (subst (λ n. SameEnd (seat seats p.node) n r.session) (sym (seat_here p.node n' seats lt))
        (s.ends r.session (λ f. ne (λ i. record { node = e i; session = f i }))))
    by_node r ne (inr off) =
        subst (λ n. SameEnd (seat seats r.node) n r.session) (sym (seat_elsewhere p.node r.node n' seats off))
        (end_refl (seat seats r.node) r.session)

-- a node whose lists are stored at one of its ends
pub stored_link : (n : Seat) (i : ℕ) (messages : List (List ℕ)) → SameBut n (record n { links = slice_set n.links i messages }) i
stored_link n i messages = record {
  who = refl;
  posts_long = refl;
  kept_long = refl;
  links_long = length-set n.links i messages;
  breaks_long = refl;
  notices_long = refl;
  ends = λ j ne. record {
    post = refl;
    kept = refl;
    link = get_or-set_other n.links i j messages [] ne;
    breaks = refl;
    notice = refl;
  };
}

pub stored_notice : (n : Seat) (i : ℕ) (waits : Bool) → SameBut n (record n { notices = slice_set n.notices i waits }) i
stored_notice n i waits = record {
  who = refl;
  posts_long = refl;
  kept_long = refl;
  links_long = refl;
  breaks_long = refl;
  notices_long = length-set n.notices i waits;
  ends = λ j ne. record {
    post = refl;
    kept = refl;
    link = refl;
    breaks = refl;
    notice = get_or-set_other n.notices i j waits false ne;
  };
}

pub stored_breaks : (n : Seat) (i : ℕ) (breaks : List ℕ) → SameBut n (record n { breaks = slice_set n.breaks i breaks }) i
stored_breaks n i breaks = record {
  who = refl;
  posts_long = refl;
  kept_long = refl;
  links_long = refl;
  breaks_long = length-set n.breaks i breaks;
  notices_long = refl;
  ends = λ j ne. record {
    post = refl;
    kept = refl;
    link = refl;
    breaks = get_or-set_other n.breaks i j breaks [] ne;
    notice = refl;
  };
}

-- a node that took an input, and what its end is then, with what is kept, in flight and to fail there
abbrev pub began : Seat → ℕ → Post → List ℕ → List (List ℕ) → List ℕ → Seat
began n i p kept messages breaks = record n {
  posts = slice_set n.posts i p;
  kept = slice_set n.kept i kept;
  links = slice_set n.links i messages;
  breaks = slice_set n.breaks i breaks;
}

pub stored_began : (n : Seat) (i : ℕ) (p : Post) (kept : List ℕ) (messages : List (List ℕ)) (breaks : List ℕ)
    → SameBut n (began n i p kept messages breaks) i
stored_began n i p kept messages breaks = record {
  who = refl;
  posts_long = length-set n.posts i p;
  kept_long = length-set n.kept i kept;
  links_long = length-set n.links i messages;
  breaks_long = length-set n.breaks i breaks;
  notices_long = refl;
  ends = λ j ne. record {
    post = get_or-set_other n.posts i j p nothing ne;
    kept = get_or-set_other n.kept i j kept [] ne;
    link = get_or-set_other n.links i j messages [] ne;
    breaks = get_or-set_other n.breaks i j breaks [] ne;
    notice = refl;
  };
}

-- ---- an end that stays, for a session whose near end stays, and of which as much was taken there
pub moved : (n n' : Seat) (i : ℕ) (s s' : Session) → n'.who ≡ n.who → SameEnd n n' i → s'.near ≡ s.near
    → s'.far.taken ≡ s.far.taken → is_peering s' ≡ is_peering s → IsEnd n i s → IsEnd n' i s'
moved n n' i s s' who same near taken peering h = record {
  phase = ap (λ (e : SessionEnd). e.phase) near ∙ h.phase ∙ ap (λ (p : Post). p.phase) (sym same.post);
  sent = ap (λ (e : SessionEnd). e.sent) near ∙ h.sent ∙ ap (λ (p : Post). p.sent) (sym same.post);
  held = ap (λ (e : SessionEnd). e.held) near ∙ h.held ∙ ap (λ (p : Post). p.held) (sym same.post);
  notice = ap (λ (e : SessionEnd). e.notice) near ∙ h.notice ∙ sym same.notice;
  flight = same.link ∙ h.flight
      ∙ (λ j. map (octets_of (sym who j) (sym peering j)) (ap (λ (e : SessionEnd). e.flight) (sym near) j));
  breaks = ap (λ (e : SessionEnd). e.breaks) near ∙ h.breaks ∙ sym same.breaks;
  taken = taken ∙ h.taken ∙ (λ j. cond (sym same.notice j) 0 (length (sym same.kept j)));
}

-- ---- what is kept at an end is a first part of the first message in flight to it
abbrev pub IsPart : Seat → ℕ → Seat → ℕ → Type 0
IsPart n i far j = notice n i ≡ false → kept_in n i ≡ take (length (kept_in n i)) (first_of (link far j))

pub part_at : (seats : List Seat) (p q : SessionPlace) → far_of seats p ≡ Some q → KeepsPart seats p
    → IsPart (seat seats p.node) p.session (seat seats q.node) q.session
part_at seats p q found h = h q found

pub part_of : (seats : List Seat) (p q : SessionPlace) → far_of seats p ≡ Some q
    → IsPart (seat seats p.node) p.session (seat seats q.node) q.session → KeepsPart seats p
part_of seats p q found h =
    λ far is. subst (λ (r : SessionPlace). IsPart (seat seats p.node) p.session (seat seats r.node) r.session)
    (same_Some q far (sym found ∙ is)) h

-- nothing is a first part of all that is in flight
pub part_none : (n : Seat) (i : ℕ) (far : Seat) (j : ℕ) → kept_in n i ≡ [] → IsPart n i far j
part_none n i far j e =
    λ quiet. subst (λ (kept : List ℕ). kept ≡ take (length kept) (first_of (link far j))) (sym e) refl

pub part_again : (n n' : Seat) (i : ℕ) (far far' : Seat) (j : ℕ) → kept_in n' i ≡ kept_in n i → notice n' i ≡ notice n i
    → link far' j ≡ link far j → IsPart n i far j → IsPart n' i far' j
part_again n n' i far far' j kept waits flight h =
    λ quiet. kept ∙ h (sym waits ∙ quiet) ∙ (λ x. take (length (sym kept x)) (first_of (sym flight x)))

pub part_same : (n n' : Seat) (i : ℕ) (far far' : Seat) (j : ℕ) → SameEnd n n' i → link far' j ≡ link far j
    → IsPart n i far j → IsPart n' i far' j
part_same n n' i far far' j same flight h = part_again n n' i far far' j same.kept same.notice flight h

-- of the first message, whatever is sent after it
take_none : (n : ℕ) → ◌≡◌ {A = List ℕ} (take n []) []
take_none zero = refl
take_none (suc n) = refl

take_more : (kept : List ℕ) (flight more : List (List ℕ)) → kept ≡ take (length kept) (first_of flight)
    → kept ≡ take (length kept) (first_of (flight ++ more))
take_more kept [] more e =
    subst (λ (kept : List ℕ). kept ≡ take (length kept) (first_of more)) (sym (e ∙ take_none (length kept))) refl
take_more kept (octets ∷ flight) more e = e

pub part_more : (n n' : Seat) (i : ℕ) (far far' : Seat) (j : ℕ) (more : List (List ℕ)) → kept_in n' i ≡ kept_in n i
    → notice n' i ≡ notice n i → link far' j ≡ link far j ++ more → IsPart n i far j → IsPart n' i far' j
part_more n n' i far far' j more kept waits flight h =
    λ quiet. kept ∙ take_more (kept_in n i) (link far j) more (h (sym waits ∙ quiet))
    ∙ (λ x. take (length (sym kept x)) (first_of (sym flight x)))

-- ---- seats are those of a state by their places
pub seats_by_places : (seats : List Seat) (w : MachineState) → map (λ (n : Seat). n.who) seats ≡ whos w.setup
    → AreFit seats
    → ((p : SessionPlace) → IsPlace seats p → EndAt w seats p)
    → ((p : SessionPlace) → IsPlace seats p → KeepsPart seats p)
    → Seats seats w
seats_by_places seats w who fit each parts = record {
  who = who;
  long = fit.long;
  ends = λ k i lt less b is.
      let at = place_with seats (record { node = k; session = i }) b is in
      subst (HasEnd w (seat seats k) i) (same_Some (other_at seats (record { node = k; session = i })) b (sym at.somebody ∙ is))
      (each (record { node = k; session = i }) at);
  vacant = λ k i lt less none. fit.vacant (record { node = k; session = i }) none;
  parts = λ k i lt less. part (record { node = k; session = i }) (there_or_nobody seats (record { node = k; session = i }));
}
  where
    part : (p : SessionPlace) → IsPlace seats p ⊎ (other (seat seats p.node) p.session ≡ None) → KeepsPart seats p
    part p (inl is) = parts p is
    part p (inr none) = λ far found. absurd (none-some far (sym (far_nowhere seats p none) ∙ found))

-- an end of a place by the names of earlier seats
pub has_end : (seats seats' : List Seat) (w : MachineState) (p : SessionPlace) (s : Session) → AreAlike seats seats'
    → session_of w (name_at seats p) (other_at seats p) ≡ Some s → IsEnd (seat seats' p.node) p.session s
    → EndAt w seats' p
has_end seats seats' w p s alike found is = record {
  session = s;
  found = (λ i. session_of w (same_name_at seats seats' alike p i) (same_other_at seats seats' alike p i)) ∙ found;
  is = is;
}
