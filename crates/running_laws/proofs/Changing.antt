-- A change of one session: seats that change at its two places stand for the state after it.
use Rattle.std.specs.Prelude.{◌≡◌, ◌≢◌, ◌⊎◌, List}
use Rattle.std.specs.declared.option.Option.TheVariants.{Some}
use Rattle.std.proofs.lemmas.Option.{same_Some}
use Rattle.std.proofs.Common.{refl, sym, ◌∙◌, ap, subst, inl, inr}
use Rattle.machine_laws.specs.MachineModel.Setup.{Name}
use Rattle.machine_laws.specs.MachineModel.Session.{Session, turned}
use Rattle.machine_laws.specs.MachineModel.Network.{MachineState}
use Rattle.machine_laws.specs.MachineModel.Steps.{change_session, session_of}
use Rattle.machine_laws.specs.MachineModel.Moments.{Each}
use Rattle.machine_laws.proofs.MachineModel.NetworkFact.{KeepsNodes}
use Rattle.machine_laws.proofs.MachineModel.NodesFact.{session_nodes}
use Rattle.running_nodes.specs.Seats.{Seat, far_of, place_of, seat}
use Rattle.running_nodes.specs.Stands.{IsEnd, KeepsPart, Seats}
use Rattle.running_nodes.specs.declared.place.SessionPlace.{SessionPlace}
use Rattle.running_laws.specs.Wiring.{IsPlace, name_at, other_at}
use Rattle.running_laws.proofs.Building.{SameEnd, has_end, moved, part_at, part_of, part_same, seats_by_places}
use Rattle.running_laws.proofs.Facts.{IsRight, Wired}
use Rattle.running_laws.proofs.Here.{Here, here, part_here}
use Rattle.running_laws.proofs.Lists.{AreAlike, AreFit, EndAt, same_far_of, same_or_other, same_place, same_who}
use Rattle.running_laws.proofs.Quiet.{IsQuiet}
use Rattle.running_laws.proofs.Sides.{changed_elsewhere, changed_here, changed_there}

-- the state after a change of a session that keeps who is there, and leaves no session down with messages in flight
pub changed_right : (a b : Name) (f : Session → Session) → KeepsNodes f → (w : MachineState) → IsRight w
    → Each IsQuiet (change_session a b f w).sessions → IsRight (change_session a b f w)
changed_right a b f kept w right quiet = record {
  written = right.written;
  numbers = right.numbers;
  sessions = session_nodes a b f kept w.sessions ∙ right.sessions;
  quiet = quiet;
}

module _ (wired : Wired) (seats : List Seat) (w : MachineState) (right : IsRight w) (stands : Seats seats w) where
  -- two places with the same names are one
  pub one_place : (p q : SessionPlace) → IsPlace seats p → IsPlace seats q → name_at seats p ≡ name_at seats q
      → other_at seats p ≡ other_at seats q → p ≡ q
  one_place p q is is' e f =
      same_Some p q
      (sym (wired.place w.setup seats p right.written right.numbers stands.who is)
      ∙ (λ i. place_of seats (e i) (f i))
      ∙ wired.place w.setup seats q right.written right.numbers stands.who is')

  -- the session at another place stays
  pub found_elsewhere : (p : SessionPlace) → IsPlace seats p → (h : Here seats w p) → (f : Session → Session) → KeepsNodes f
      → (r : SessionPlace) → IsPlace seats r → r ≢ p → r ≢ h.far.far → (s : Session)
      → session_of w (name_at seats r) (other_at seats r) ≡ Some s
      → session_of (change_session (name_at seats p) (other_at seats p) f w) (name_at seats r) (other_at seats r) ≡ Some s
  found_elsewhere p is h f keeps r is_r not_p not_q s found =
      changed_elsewhere (name_at seats p) (other_at seats p) (name_at seats r) (other_at seats r)
      (λ e g. not_p (one_place r p is_r is (sym e) (sym g)))
      (λ e g. not_q (one_place r h.far.far is_r h.far.is_place (sym g ∙ sym h.far.name) (sym e ∙ sym h.far.other)))
      f keeps w.sessions s found

  module _ (seats' : List Seat) (p : SessionPlace) (is : IsPlace seats p) (h : Here seats w p) (f : Session → Session)
      (keeps : KeepsNodes f) (alike : AreAlike seats seats')
      (fit : AreFit seats')
      (near : IsEnd (seat seats' p.node) p.session (f h.session))
      (far : IsEnd (seat seats' h.far.far.node) h.far.far.session (turned (f h.session)))
      (elsewhere : (r : SessionPlace) → IsPlace seats r → r ≢ p → r ≢ h.far.far → SameEnd (seat seats r.node) (seat seats' r.node) r.session)
      (near_part : KeepsPart seats' p) (far_part : KeepsPart seats' h.far.far) where
    abbrev changed : MachineState
    changed = change_session (name_at seats p) (other_at seats p) f w

    here_changed : EndAt changed seats' p
    here_changed =
        has_end seats seats' changed p (f h.session) alike
        (changed_here (name_at seats p) (other_at seats p) h.apart f keeps w.sessions h.session h.found) near

    far_changed : EndAt changed seats' h.far.far
    far_changed =
        has_end seats seats' changed h.far.far (turned (f h.session)) alike
        ((λ i. session_of changed (h.far.name i) (h.far.other i))
        ∙ changed_there (name_at seats p) (other_at seats p) h.apart f keeps w.sessions h.session h.found) far

    others_same : (r : SessionPlace) → IsPlace seats r → r ≢ p → r ≢ h.far.far → EndAt changed seats' r
    others_same r is_r not_p not_q =
        let there = here wired seats w right stands r is_r in
        has_end seats seats' changed r there.session alike
        (found_elsewhere p is h f keeps r is_r not_p not_q there.session there.found)
        (moved (seat seats r.node) (seat seats' r.node) r.session there.session there.session
        (same_who seats seats' alike r.node) (elsewhere r is_r not_p not_q) refl refl refl there.near_is)

    parts_same : (r : SessionPlace) → IsPlace seats r → r ≢ p → r ≢ h.far.far → KeepsPart seats' r
    parts_same r is_r not_p not_q =
        let there = here wired seats w right stands r is_r in
        let q = there.far.far in
        let off_p : q ≢ p = λ e. not_q (same_Some r h.far.far (sym there.far.back ∙ ap (far_of seats) e ∙ h.far.found)) in
        let off_q : q ≢ h.far.far = λ e. not_p (same_Some r p (sym there.far.back ∙ ap (far_of seats) e ∙ h.far.back)) in
        part_of seats' r q (same_far_of seats seats' alike r ∙ there.far.found)
        (part_same (seat seats r.node) (seat seats' r.node) r.session (seat seats q.node) (seat seats' q.node) q.session
        (elsewhere r is_r not_p not_q) (elsewhere q there.far.is_place off_p off_q).link
        (part_at seats r q there.far.found (part_here wired seats w right stands r is_r)))

    pub changes_at : Seats seats' changed
    changes_at =
        seats_by_places seats' changed (alike ∙ stands.who) fit
        (λ r is_r. by_place r (same_place seats seats' alike r is_r) (same_or_other r p) (same_or_other r h.far.far))
        (λ r is_r. part_by_place r (same_place seats seats' alike r is_r) (same_or_other r p) (same_or_other r h.far.far))
      where
        part_by_place : (r : SessionPlace) → IsPlace seats r → (r ≡ p) ⊎ (r ≢ p) → (r ≡ h.far.far) ⊎ (r ≢ h.far.far) → KeepsPart seats' r
        part_by_place r is_r (inl e) b = subst (KeepsPart seats') (sym e) near_part
        part_by_place r is_r (inr ne) (inl e) = subst (KeepsPart seats') (sym e) far_part
        part_by_place r is_r (inr ne) (inr ne') = parts_same r is_r ne ne'

        by_place : (r : SessionPlace) → IsPlace seats r → (r ≡ p) ⊎ (r ≢ p) → (r ≡ h.far.far) ⊎ (r ≢ h.far.far) → EndAt changed seats' r
        by_place r is_r (inl e) b = subst (EndAt changed seats') (sym e) here_changed
        by_place r is_r (inr ne) (inl e) = subst (EndAt changed seats') (sym e) far_changed
        by_place r is_r (inr ne) (inr ne') = others_same r is_r ne ne'
