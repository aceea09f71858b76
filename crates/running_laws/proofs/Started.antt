-- Seats of nodes that have nothing stand for the empty state.
use Rattle.std.specs.Prelude.{◌≡◌, ◌<◌, ℕ, zero, suc, List, [], ◌∷◌, map, length, false, cond}
use Rattle.std.specs.List.{slice_index_or}
use Rattle.std.proofs.lemmas.List.{length-map}
use Rattle.std.proofs.Common.{refl, sym, ◌∙◌, ap, subst, arith}
use Rattle.schedule_script.specs.ConfigCheck.Checked.{Checked}
use Rattle.node_model.specs.Step.{Post, nothing}
use Rattle.machine_laws.specs.MachineModel.Setup.{opening}
use Rattle.machine_laws.specs.MachineModel.Session.{SessionEnd, Session, is_peering}
use Rattle.machine_laws.specs.MachineModel.Network.{start, fresh as fresh_end}
use Rattle.machine_laws.specs.MachineModel.Moments.{Each}
use Rattle.machine_laws.proofs.MachineModel.NetworkFact.{found}
use Rattle.machine_laws.proofs.MachineModel.Start.{start_each}
use Rattle.machine_laws.specs.Headline.{IsWritten}
use Rattle.running_nodes.specs.Seats.{Seat, Who, kept_in, notice, others_of, seat, taken_in, whos}
use Rattle.running_nodes.specs.Steps.{all_of, fresh_seat}
use Rattle.running_nodes.specs.Stands.{IsEnd, IsLong, IsVacant, KeepsPart, Seats, octets_of}
use Rattle.running_nodes.specs.declared.place.SessionPlace.{SessionPlace}
use Rattle.running_laws.specs.Moments.{IsMoment}
use Rattle.running_laws.proofs.Moments.{moment_start}
use Rattle.running_laws.specs.Wiring.{IsPlace, name_at, other_at}
use Rattle.running_laws.specs.Starting.{FreshSeatsStandForTheStart}
use Rattle.running_laws.proofs.AtMoments.{moment_right, stands_at}
use Rattle.running_laws.proofs.Building.{part_none, seats_by_places}
use Rattle.running_laws.proofs.Facts.{Facts}
use Rattle.running_laws.proofs.Lists.{EndAt, vacant_nobody}

-- ---- lists of one thing
pub all_alike : {A B : Type 0} (b : B) (xs : List A) (i : ℕ) → slice_index_or (all_of b xs) i b ≡ b
all_alike b [] i = refl
all_alike b (x ∷ xs) zero = refl
all_alike b (x ∷ xs) (suc i) = all_alike b xs i

pub all_long : {A B : Type 0} (b : B) (xs : List A) → length (all_of b xs) ≡ length xs
all_long b xs = length-map xs (λ _. b)

whos_again : (xs : List Who) → map (λ (n : Seat). n.who) (map fresh_seat xs) ≡ xs
whos_again [] = refl
whos_again (x ∷ xs) = ap (λ ys. x ∷ ys) (whos_again xs)

fresh_at : (xs : List Who) (k : ℕ) → k < length (map fresh_seat xs) → (x : Who) × (seat (map fresh_seat xs) k ≡ fresh_seat x)
fresh_at [] k lt = absurd (omega (arith, lt))
fresh_at (x ∷ xs) zero lt = (x, refl)
fresh_at (x ∷ xs) (suc k) lt = fresh_at xs k (omega (arith, lt))

-- nothing is at any end
fresh_vacant : (xs : List Who) (k i : ℕ) → IsVacant (seat (map fresh_seat xs) k) i
fresh_vacant [] k i = vacant_nobody i
fresh_vacant (x ∷ xs) zero i = record {
  post = all_alike nothing (others_of x) i;
  kept = all_alike [] (others_of x) i;
  link = all_alike [] (others_of x) i;
  breaks = all_alike [] (others_of x) i;
  notice = all_alike false (others_of x) i;
}
fresh_vacant (x ∷ xs) (suc k) i = fresh_vacant xs k i

-- ---- an end that has nothing
pub record HasNothing (e : SessionEnd) : Type 0 where
  pub is : e ≡ fresh_end e.name e.role

-- where nothing is kept nothing is taken
pub taken_nowhere : (n : Seat) (i : ℕ) → notice n i ≡ false → kept_in n i ≡ [] → taken_in n i ≡ 0
taken_nowhere n i quiet bare = (λ j. cond (quiet j) 0 (length (bare j)))

nothing_end : (who : Who) (i : ℕ) (s : Session) → HasNothing s.near → HasNothing s.far → IsEnd (fresh_seat who) i s
nothing_end who i s h there =
    let none = all_alike nothing (others_of who) i in
    record {
      phase = ap (λ (e : SessionEnd). e.phase) h.is ∙ sym (ap (λ (p : Post). p.phase) none);
      sent = ap (λ (e : SessionEnd). e.sent) h.is ∙ sym (ap (λ (p : Post). p.sent) none);
      held = ap (λ (e : SessionEnd). e.held) h.is ∙ sym (ap (λ (p : Post). p.held) none);
      notice = ap (λ (e : SessionEnd). e.notice) h.is ∙ sym (all_alike false (others_of who) i);
      flight = all_alike [] (others_of who) i ∙ sym (ap (λ (e : SessionEnd). map (octets_of who (is_peering s)) e.flight) h.is);
      breaks = ap (λ (e : SessionEnd). e.breaks) h.is ∙ sym (all_alike [] (others_of who) i);
      taken = ap (λ (e : SessionEnd). e.taken) there.is
          ∙ sym (taken_nowhere (fresh_seat who) i (all_alike false (others_of who) i) (all_alike [] (others_of who) i));
    }

module _ (facts : Facts) (x : Checked) (written : IsWritten (opening x)) where
  start_moment : IsMoment (start x)
  start_moment = moment_start x written

  abbrev seats : List Seat
  seats = map fresh_seat (whos (opening x))

  abbrev BothNothing : Session → Type 0
  BothNothing s = HasNothing s.near × HasNothing s.far

  fresh_long : (k : ℕ) → k < length seats → IsLong (seat seats k)
  fresh_long k lt =
      let at = fresh_at (whos (opening x)) k lt in
      subst IsLong (sym at.1)
      (record {
        posts = all_long nothing (others_of at.0);
        kept = all_long [] (others_of at.0);
        links = all_long [] (others_of at.0);
        breaks = all_long [] (others_of at.0);
        notices = all_long false (others_of at.0);
      })

  end_is : (p : SessionPlace) → IsPlace seats p → EndAt (start x) seats p
  end_is p is =
      let right = moment_right facts.moments (start x) start_moment in
      let h = facts.wired.session (start x) seats p written right.numbers right.sessions (whos_again (whos (opening x))) is in
      let at = fresh_at (whos (opening x)) p.node is.node in
      let each : Each BothNothing (start x).sessions =
      start_each BothNothing (λ n m r q. (record { is = refl }, record { is = refl })) x
      in
      let both : BothNothing h.session =
      found BothNothing (λ s b. (b.1, b.0)) (start x).sessions (name_at seats p) (other_at seats p) each h.session h.found
      in
      record {
        session = h.session;
        found = h.found;
        is = subst (λ n. IsEnd n p.session h.session) (sym at.1)
            (nothing_end at.0 p.session h.session both.0 both.1);
      }

  part_is : (p : SessionPlace) → IsPlace seats p → KeepsPart seats p
  part_is p is =
      let at = fresh_at (whos (opening x)) p.node is.node in
      λ far found. part_none (seat seats p.node) p.session (seat seats far.node) far.session
      (ap (λ n. kept_in n p.session) at.1 ∙ all_alike [] (others_of at.0) p.session)

  start_seats : Seats seats (start x)
  start_seats =
      seats_by_places seats (start x) (whos_again (whos (opening x)))
      (record { long = fresh_long; vacant = λ p _. fresh_vacant (whos (opening x)) p.node p.session }) end_is part_is

pub fresh_seats_stand : Facts → FreshSeatsStandForTheStart
fresh_seats_stand facts x written = (
  stands_at (map fresh_seat (whos (opening x))) (start x) (start_moment facts x written) (start_seats facts x written),
  start_moment facts x written,
)
