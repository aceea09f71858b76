-- Whether a network is settled, and whether nothing is in flight, is what its seats say.
use Rattle.std.specs.Prelude.{◌≡◌, ◌&&◌, ◌==◌, List, [], ◌∷◌, Bool}
use Rattle.std.specs.List.{AllByRecursion, cons_option, list_all}
use Rattle.std.proofs.Common.{refl, ◌∙◌, ap}
use Rattle.running_nodes.specs.MachineModel.Session as session
use Rattle.running_nodes.specs.MachineModel.Session.{Session}
use Rattle.running_nodes.specs.MachineModel.Network.{MachineState}
use Rattle.running_nodes.specs.MachineModel.Steps as steps
use Rattle.running_nodes.specs.Seats.{Seat}
use Rattle.net_machine.specs.declared.ends.SessionEnds.{SessionEnds}
use Rattle.net_machine.specs.Seating.{order_among}
use Rattle.net_machine.specs.Settling.{is_quiet, is_rested, is_settled, is_still}
use Rattle.net_machine.proofs.Facts.{At, Facts, IsStood}
use Rattle.net_machine.proofs.Rounding.{said}

module _ (M : MachineState → Type 0) (f : Facts M) where
  all_rest : (seats : List Seat) (w : MachineState) (ss : List Session) → At M seats w → AllByRecursion (IsStood seats w) ss
      → list_all (is_rested seats) (order_among seats ss) ≡ list_all steps.is_rested ss
  all_rest seats w [] h all = refl
  all_rest seats w (s ∷ ss) h all =
      ap (λ o. list_all (is_rested seats) (cons_option o (order_among seats ss))) all.0.are
      ∙ (λ i. (said M f seats w s h all.0).rests i && all_rest seats w ss h all.1 i)

  abbrev is_calm : Session → Bool
  is_calm s = (session.waiting s == 0) && (session.waiting (session.turned s) == 0)

  all_still : (seats : List Seat) (w : MachineState) (ss : List Session) → At M seats w → AllByRecursion (IsStood seats w) ss
      → list_all (is_still seats) (order_among seats ss) ≡ list_all is_calm ss
  all_still seats w [] h all = refl
  all_still seats w (s ∷ ss) h all =
      let says = said M f seats w s h all.0 in
      ap (λ o. list_all (is_still seats) (cons_option o (order_among seats ss))) all.0.are
      ∙ (λ i. ((says.waits i == 0) && (says.waits_back i == 0)) && all_still seats w ss h all.1 i)

  pub settled_is : (seats : List Seat) (w : MachineState) (order : List SessionEnds) → At M seats w
      → order ≡ order_among seats w.sessions → is_settled seats order ≡ steps.is_settled w
  settled_is seats w order h is =
      ap (is_settled seats) is ∙ all_rest seats w w.sessions h (f.stood seats w h.moment h.stands)

  pub quiet_is : (seats : List Seat) (w : MachineState) (order : List SessionEnds) → At M seats w
      → order ≡ order_among seats w.sessions → is_quiet seats order ≡ steps.is_quiet w
  quiet_is seats w order h is =
      ap (is_quiet seats) is ∙ all_still seats w w.sessions h (f.stood seats w h.moment h.stands)
