-- A place where the seats stand for a state: the session there, as both of its ends have it.
use Rattle.std.specs.Prelude.{◌≡◌, ◌≢◌, ◌<◌, ℕ, List}
use Rattle.std.specs.declared.option.Option.TheVariants.{Some}
use Rattle.std.proofs.lemmas.Option.{same_Some}
use Rattle.std.proofs.Common.{sym, ◌∙◌, ap, subst}
use Rattle.machine_laws.specs.MachineModel.Session.{Session, turned}
use Rattle.machine_laws.specs.MachineModel.Network.{MachineState}
use Rattle.machine_laws.specs.MachineModel.Steps.{session_of}
use Rattle.machine_laws.proofs.MachineModel.NetworkFact.{found}
use Rattle.running_nodes.specs.Seats.{Seat, name_of, seat, seat_named}
use Rattle.running_nodes.specs.Stands.{IsEnd, KeepsPart, Seats}
use Rattle.running_nodes.specs.declared.place.SessionPlace.{SessionPlace}
use Rattle.running_laws.specs.Wiring.{HasFar, IsPlace, name_at, other_at}
use Rattle.running_laws.proofs.Facts.{IsRight, Wired, right_twins}
use Rattle.running_laws.proofs.Lists.{EndAt, named_by}
use Rattle.running_laws.proofs.Quiet.{IsQuiet, quiet_turned}
use Rattle.running_laws.proofs.Sides.{found_apart, seen_back}

pub record Here (seats : List Seat) (w : MachineState) (p : SessionPlace) : Type 0 where
  pub far : HasFar seats p
  pub session : Session
  pub found : session_of w (name_at seats p) (other_at seats p) ≡ Some session
  pub far_found : session_of w (other_at seats p) (name_at seats p) ≡ Some (turned session)
  pub near_is : IsEnd (seat seats p.node) p.session session
  pub far_is : IsEnd (seat seats far.far.node) far.far.session (turned session)
  pub apart : name_at seats p ≢ other_at seats p
  pub quiet : IsQuiet session

-- an end of a place that there is
pub end_at : (seats : List Seat) (w : MachineState) → Seats seats w → (p : SessionPlace) → IsPlace seats p → EndAt w seats p
end_at seats w stands p is =
    stands.ends p.node p.session is.node
    (subst (λ n. p.session < n) (sym (stands.long p.node is.node).posts) is.session) (other_at seats p) is.somebody

module _ (wired : Wired) (seats : List Seat) (w : MachineState) (right : IsRight w) (stands : Seats seats w) where
  pub here : (p : SessionPlace) → IsPlace seats p → Here seats w p
  here p is =
      let far = wired.far w.setup seats p right.written right.numbers stands.who is in
      let near = end_at seats w stands p is in
      let there = end_at seats w stands far.far far.is_place in
      let apart = found_apart (name_at seats p) (other_at seats p) w.sessions near.session (right_twins w right) near.found in
      let back = seen_back (name_at seats p) (other_at seats p) apart w.sessions near.session near.found in
      let same : there.session ≡ turned near.session =
      same_Some there.session (turned near.session)
      (sym there.found ∙ (λ i. session_of w (far.name i) (far.other i)) ∙ back)
      in
      record {
        far = far;
        session = near.session;
        found = near.found;
        far_found = back;
        near_is = near.is;
        far_is = subst (IsEnd (seat seats far.far.node) far.far.session) same there.is;
        apart = apart;
        quiet = found IsQuiet quiet_turned w.sessions (name_at seats p) (other_at seats p) right.quiet near.session near.found;
      }

  pub part_here : (p : SessionPlace) → IsPlace seats p → KeepsPart seats p
  part_here p is =
      stands.parts p.node p.session is.node
      (subst (λ n. p.session < n) (sym (stands.long p.node is.node).posts) is.session)

  -- a node with a place is found by its name
  pub place_named : (p : SessionPlace) → IsPlace seats p → seat_named seats (name_at seats p) ≡ Some p.node
  place_named p is =
      named_by seats (name_at seats p) (other_at seats p) p (wired.place w.setup seats p right.written right.numbers stands.who is)

  -- a place of another node has another name
  pub other_named : (k : ℕ) → seat_named seats (name_of (seat seats k).who) ≡ Some k → (p : SessionPlace) → IsPlace seats p
      → p.node ≢ k → name_of (seat seats k).who ≢ name_at seats p
  other_named k named p is ne e =
      ne (same_Some p.node k (sym (place_named p is) ∙ ap (seat_named seats) (sym e) ∙ named))
