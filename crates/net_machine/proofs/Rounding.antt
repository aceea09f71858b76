-- What a round makes of the state for which seats stand.
use Rattle.std.specs.Prelude.{◌≡◌, List, [], ◌∷◌, map}
use Rattle.std.specs.List.{AllByRecursion, cons_option, filter_map, flat_map}
use Rattle.std.proofs.Common.{refl, sym, ◌∙◌, ap, subst}
use Rattle.std.proofs.lemmas.Option.{same_Some}
use Rattle.running_nodes.specs.MachineModel.Session as session
use Rattle.running_nodes.specs.MachineModel.Session.{Session}
use Rattle.running_nodes.specs.MachineModel.Network.{MachineState}
use Rattle.running_nodes.specs.MachineModel.Steps as steps
use Rattle.running_nodes.specs.MachineModel.Steps.{round}
use Rattle.running_nodes.specs.MachineModel.Moments.{NodePair, nodes}
use Rattle.running_nodes.specs.Seats.{Seat}
use Rattle.net_machine.specs.declared.ends.SessionEnds.{SessionEnds}
use Rattle.net_machine.specs.Rounds.{IsRound, due_at, dues}
use Rattle.net_machine.specs.Seating.{Keeps, ends_of, order_among, turned}
use Rattle.net_machine.proofs.Delivering.{AreDue, IsDue, all_delivered}
use Rattle.net_machine.proofs.Facts.{At, Facts, IsStood, Says}

-- ---- the order of a round goes by names alone
among_names : (seats : List Seat) (ss : List Session)
    → order_among seats ss ≡ filter_map (λ (p : NodePair). ends_of seats p.0.0 p.1.0) (map nodes ss)
among_names seats [] = refl
among_names seats (s ∷ ss) = ap (cons_option (ends_of seats s.near.name s.far.name)) (among_names seats ss)

pub same_order : (seats : List Seat) (ss ts : List Session) → map nodes ss ≡ map nodes ts
    → order_among seats ss ≡ order_among seats ts
same_order seats ss ts e =
    among_names seats ss ∙ ap (filter_map (λ (p : NodePair). ends_of seats p.0.0 p.1.0)) e ∙ sym (among_names seats ts)

module _ (M : MachineState → Type 0) (f : Facts M) where
  -- a session's ends say what it is, and so do they as the other end sees it
  pub said : (seats : List Seat) (w : MachineState) (s : Session) → At M seats w → (i : IsStood seats w s)
      → Says seats i.ends s
  said seats w s h i =
      let found = f.says seats w s.near.name s.far.name i.ends h.moment h.stands i.are in
      subst (Says seats i.ends) (same_Some found.session s (sym found.found ∙ i.found)) found.says

  pub said_back : (seats : List Seat) (w : MachineState) (s : Session) → At M seats w → (i : IsStood seats w s)
      → Says seats (turned i.ends) (session.turned s)
  said_back seats w s h i =
      let back = f.turns seats w s.near.name s.far.name i.ends h.moment h.stands i.are in
      let found = f.says seats w s.far.name s.near.name (turned i.ends) h.moment h.stands back in
      subst (Says seats (turned i.ends)) (same_Some found.session (session.turned s) (sym found.found ∙ i.back)) found.says

  -- ---- what waits
  pub are_due : (seats : List Seat) (w : MachineState) (ss : List Session) → At M seats w → AllByRecursion (IsStood seats w) ss
      → AreDue seats (dues seats (order_among seats ss))
      (flat_map (λ s. steps.due_at (session.turned s) ∷ steps.due_at s ∷ []) ss)
  are_due seats w [] h all = tt
  are_due seats w (s ∷ ss) h all =
      let i = all.0 in
      let there = said seats w s h i in
      let back = said_back seats w s h i in
      let rest = flat_map (λ (s : Session). steps.due_at (session.turned s) ∷ steps.due_at s ∷ []) ss in
      let one : IsDue seats (due_at seats (turned i.ends)) (steps.due_at (session.turned s)) = record {
        ends = f.turns seats w s.near.name s.far.name i.ends h.moment h.stands i.are;
        notice = back.has_notice;
        count = back.waits;
      } in
      let two : IsDue seats (due_at seats i.ends) (steps.due_at s) = record {
        ends = i.are;
        notice = there.has_notice;
        count = there.waits;
      } in
      subst (λ o. AreDue seats (dues seats (cons_option o (order_among seats ss)))
      (steps.due_at (session.turned s) ∷ steps.due_at s ∷ rest)) (sym i.are) (one, (two, are_due seats w ss h all.1))

  -- ---- the round
  pub round_stands : (seats after : List Seat) (w : MachineState) (order : List SessionEnds) → At M seats w
      → order ≡ order_among seats w.sessions → IsRound order seats after → Keeps seats after × At M after (round w)
  unfolding round
  round_stands seats after w order h is all =
      all_delivered M f (dues seats order) (steps.dues w) seats after w h
      (subst (λ es. AreDue seats (dues seats es) (steps.dues w)) (sym is)
      (are_due seats w w.sessions h (f.stood seats w h.moment h.stands))) all
