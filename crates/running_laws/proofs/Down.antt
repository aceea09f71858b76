-- Which sessions are down, as places say it.
use Rattle.std.specs.Prelude.{◌≡◌, ℕ, List, not, ◌&&◌}
use Rattle.std.proofs.Common.{sym, ◌∙◌, ap}
use Rattle.std.proofs.Math.Bool.{and_comm}
use Rattle.node_model.specs.Step.{post}
use Rattle.machine_laws.specs.MachineModel.Session.{Session, is_idle, turned}
use Rattle.machine_laws.specs.MachineModel.Network.{MachineState}
use Rattle.running_nodes.specs.Seats.{Seat, is_down_at, notice, seat, whole_at, whole_there}
use Rattle.running_nodes.specs.Stands.{IsDownWhere, IsEnd, Seats, is_whole_end}
use Rattle.running_nodes.specs.declared.place.SessionPlace.{SessionPlace}
use Rattle.running_laws.specs.Wiring.{IsPlace}
use Rattle.running_laws.proofs.Facts.{IsRight, Wired}
use Rattle.running_laws.proofs.Here.{Here}
use Rattle.running_laws.proofs.Lists.{AreAlike, same_far_of}

-- a session is down where an end is not whole, whichever of its ends is near
pub down_turned : (s : Session) → IsDownWhere s → IsDownWhere (turned s)
down_turned s e = e ∙ ap not (and_comm (is_whole_end s.near) (is_whole_end s.far))

pub whole_is : (n : Seat) (i : ℕ) (s : Session) → IsEnd n i s
    → (not (is_idle (post n.posts i).phase) && not (notice n i)) ≡ is_whole_end s.near
whole_is n i s e = λ j. not (is_idle (sym e.phase j)) && not (sym e.notice j)

module _ (wired : Wired) (seats : List Seat) (w : MachineState) (right : IsRight w) (stands : Seats seats w) where
  -- as the session says
  module _ (seats' : List Seat) (alike : AreAlike seats seats') (same : (p : SessionPlace) → IsPlace seats p → whole_at seats' p ≡ whole_at seats p) where
    pub down_is : (p : SessionPlace) → IsPlace seats p → (h : Here seats w p) → IsDownWhere h.session → is_down_at seats' p ≡ h.session.is_down
    down_is p is h down =
        ap (λ o. not (whole_at seats' p && whole_there seats' o)) (same_far_of seats seats' alike p ∙ h.far.found)
        ∙ (λ j. not (same p is j && same h.far.far h.far.is_place j))
        ∙ (λ j. not (whole_is (seat seats p.node) p.session h.session h.near_is j
        && whole_is (seat seats h.far.far.node) h.far.far.session (turned h.session) h.far_is j))
        ∙ sym down
