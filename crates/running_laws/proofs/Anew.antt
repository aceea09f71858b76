-- A node tells all of its sessions anew what it wants, without an input: once the sessions of which it closed its end are
-- cleared, the seats stand for the state after its pass.
use Rattle.std.specs.Prelude.{◌≡◌, ℕ, List, [], ◌∷◌, Bool, true, false, cond, not}
use Rattle.std.specs.List.{slice_set}
use Rattle.std.proofs.lemmas.List.{set-get_or}
use Rattle.std.proofs.Common.{refl, sym, ◌∙◌, ap, subst}
use Rattle.node_core.specs.Keeping.{AreSwept}
use Rattle.node_model.specs.Step.{nothing, post}
use Rattle.machine_laws.specs.MachineModel.Setup.{Name}
use Rattle.machine_laws.specs.MachineModel.Session.{Session, is_idle, turned}
use Rattle.machine_laws.specs.MachineModel.Network.{MachineState}
use Rattle.machine_laws.specs.MachineModel.Steps.{change_session, joins, pass, with_session}
use Rattle.machine_laws.proofs.MachineModel.NetworkFact.{found}
use Rattle.machine_laws.proofs.MachineModel.SessionFact.{Fact, Fact-turned}
use Rattle.running_nodes.specs.Seats.{Seat, kept_in, seat}
use Rattle.running_nodes.specs.Steps.{IsStepped, as_it_is, cleared, with_seat}
use Rattle.running_nodes.specs.Stands.{IsEnd, Seats, message_size}
use Rattle.running_nodes.specs.declared.place.SessionPlace.{SessionPlace}
use Rattle.running_laws.specs.Wiring.{IsPlace, name_at, other_at}
use Rattle.running_laws.proofs.AtMoments.{IsSound, kept_closed}
use Rattle.running_laws.proofs.Building.{IsPart, end_refl, part_at}
use Rattle.running_laws.proofs.Clearing.{place}
use Rattle.running_laws.proofs.Ends.{fact_ready}
use Rattle.running_laws.proofs.Facts.{IsRight, Wired}
use Rattle.running_laws.proofs.Here.{Here, here, part_here}
use Rattle.running_laws.proofs.Lists.{seats_fit}
use Rattle.running_laws.proofs.Sent.{told_none}
use Rattle.running_laws.proofs.Stepped.{stands_soundly, taking}

-- a session that is not changed
same_sessions : (a b : Name) (ss : List Session) → with_session a b (λ s. s) ss ≡ ss
same_sessions a b [] = refl
same_sessions a b (s ∷ ss) = by_tests (joins a b s) (joins b a s) (same_sessions a b ss)
  where
    by_tests : (c d : Bool) → with_session a b (λ s. s) ss ≡ ss
        → cond c (s ∷ ss) (cond d (turned (turned s) ∷ ss) (s ∷ with_session a b (λ s. s) ss)) ≡ s ∷ ss
    by_tests true d e = refl
    by_tests false true e = refl
    by_tests false false e = ap (λ ts. s ∷ ts) e

module _ (wired : Wired) (r : List Seat) (v : MachineState) (right : IsRight v) (sound : IsSound v) (stands : Seats r v) (k : ℕ)
    (is : IsPlace r (place k 0)) where
  abbrev p : SessionPlace
  p = place k 0

  abbrev at : Here r v p
  at = here wired r v right stands p is

  abbrev s : Session
  s = at.session

  abbrev m : Seat
  m = seat r k

  abbrev q : SessionPlace
  q = at.far.far

  pub first_fact : Fact message_size s
  first_fact = found (Fact message_size) (Fact-turned message_size) v.sessions (name_at r p) (other_at r p) sound s at.found

  abbrev left : List ℕ
  left = kept_in m 0

  -- an end that is not live keeps nothing, so that what is kept is kept
  nothing_left : cond (is_idle (post m.posts 0).phase) [] left ≡ left
  nothing_left = by_idle (is_idle (post m.posts 0).phase) refl
    where
      by_idle : (b : Bool) → is_idle (post m.posts 0).phase ≡ b → cond b [] left ≡ left
      by_idle true e = sym (kept_closed m 0 s at.near_is first_fact (ap not (ap is_idle at.near_is.phase ∙ e)))
      by_idle false e = refl

  as_before : taking m 0 (as_it_is m) left ≡ m
  as_before = λ x. record m {
    posts = set-get_or m.posts 0 nothing x;
    kept = (ap (slice_set m.kept 0) nothing_left ∙ set-get_or m.kept 0 []) x;
  }

  abbrev same_v : MachineState
  same_v = change_session (name_at r p) (other_at r p) (λ s. s) v

  is_v : same_v ≡ v
  is_v = ap (λ (ss : List Session). record { setup = v.setup; sessions = ss }) (same_sessions (name_at r p) (other_at r p) v.sessions)

  pub told_anew : (n' : Seat) → IsStepped m n' 0 (as_it_is m) → AreSwept n'.posts m.kept n'.kept
      → Seats (cleared (with_seat k n' r) k) (pass (name_at r p) v)
  told_anew n' stepped swept =
      subst (λ u. Seats (cleared (with_seat k n' r) k) (pass (name_at r p) u)) is_v
      (stands_soundly wired r v right stands p is r refl (seats_fit r v stands) (λ a _ _ _. end_refl (seat r a.node) a.session)
      (as_it_is m) left (λ s. s) (λ s. refl) s [] (sym (told_none s)) refl
      (subst (λ n. IsEnd n 0 s) (sym as_before) at.near_is) at.far_is
      (subst (λ n. IsPart n 0 (seat r q.node) q.session) (sym as_before)
      (part_at r p q at.far.found (part_here wired r v right stands p is)))
      (subst (λ n. IsPart (seat r q.node) q.session n 0) (sym as_before)
      (part_at r q p at.far.back (part_here wired r v right stands q at.far.is_place)))
      (fact_ready s first_fact) (λ _. refl) (subst IsSound (sym is_v) sound) n' stepped
      (subst (λ kept. AreSwept n'.posts kept n'.kept) (sym (set-get_or m.kept 0 [])) swept))
