-- What connecting all sessions makes of the state for which seats stand.
use Rattle.std.specs.Prelude.{◌≡◌, ◌&&◌, List, [], ◌∷◌, map, Bool, true, false, cond}
use Rattle.std.specs.declared.option.Option.TheVariants.{Some}
use Rattle.std.specs.List.{AllByRecursion, cons_option}
use Rattle.std.proofs.Common.{refl, sym, ◌∙◌, ap, subst}
use Rattle.ov_types.specs.First.{same_name}
use Rattle.running_nodes.specs.MachineModel.Setup.{Name}
use Rattle.running_nodes.specs.MachineModel.Session.{Session}
use Rattle.running_nodes.specs.MachineModel.Network.{MachineState}
use Rattle.running_nodes.specs.MachineModel.Steps.{connect_all, connect_if, joins}
use Rattle.running_nodes.specs.MachineModel.Events.{Connect, is_earlier, next}
use Rattle.running_nodes.specs.MachineModel.Moments.{NodePair, nodes}
use Rattle.running_nodes.proofs.MachineModel.NodesFact.{connect_if_nodes}
use Rattle.running_nodes.specs.Seats.{Seat}
use Rattle.running_nodes.specs.Stands.{message_size}
use Rattle.net_machine.specs.declared.ends.SessionEnds.{SessionEnds}
use Rattle.net_machine.specs.Connections.{Connects, ConnectsAll}
use Rattle.net_machine.specs.Seating.{Keeps, ends_of, order_among}
use Rattle.net_machine.proofs.Carried.{connects_keeps}
use Rattle.net_machine.proofs.Delivering.{ends_here, stays}
use Rattle.net_machine.proofs.Facts.{At, Facts, IsStood}
use Rattle.net_machine.proofs.Kept.{among_kept, ends_of_kept, keeps_all, keeps_both}

-- ---- which of two nodes comes first goes by names alone
abbrev pub earlier_of : List NodePair → Name → Name → Bool
earlier_of [] a b = true
earlier_of (p ∷ ps) a b =
    cond (same_name p.0.0 a && same_name p.1.0 b) true
    (cond (same_name p.0.0 b && same_name p.1.0 a) false (earlier_of ps a b))

earlier_by_names : (ss : List Session) (a b : Name) → is_earlier ss a b ≡ earlier_of (map nodes ss) a b
earlier_by_names [] a b = refl
earlier_by_names (s ∷ ss) a b = ap (λ c. cond (joins a b s) true (cond (joins b a s) false c)) (earlier_by_names ss a b)

pub same_earlier : (ss ts : List Session) (a b : Name) → map nodes ss ≡ map nodes ts → is_earlier ss a b ≡ is_earlier ts a b
same_earlier ss ts a b e =
    earlier_by_names ss a b ∙ ap (λ ps. earlier_of ps a b) e ∙ sym (earlier_by_names ts a b)

-- where the first of two nodes is not the earlier, the second is
pub other_earlier : (ss : List Session) (a b : Name) → is_earlier ss a b ≡ false → is_earlier ss b a ≡ true
other_earlier [] a b e = refl
other_earlier (s ∷ ss) a b e =
    elim (joins b a s) as (λ c. cond (joins a b s) true (cond c false (is_earlier ss a b)) ≡ false
    → cond c true (cond (joins a b s) false (is_earlier ss b a)) ≡ true) [
      | true ↦ λ _. refl
      | false ↦ λ e. elim (joins a b s) as (λ c. cond c true (is_earlier ss a b) ≡ false
          → cond c false (is_earlier ss b a) ≡ true) [
            | true ↦ λ e. cc
            | false ↦ λ e. other_earlier ss a b e
          ] e
    ] e

-- a session that may be connected, by its two names
pub record IsNext (seats : List Seat) (w : MachineState) (s : Session) : Type 0 where
  pub ends : SessionEnds
  pub are : ends_of seats s.near.name s.far.name ≡ Some ends
  pub earlier : is_earlier w.sessions s.near.name s.far.name ≡ true

pub are_next : (seats : List Seat) (w : MachineState) (ss : List Session) → AllByRecursion (IsStood seats w) ss
    → AllByRecursion (IsNext seats w) ss
are_next seats w [] all = tt
are_next seats w (s ∷ ss) all =
    (record { ends = all.0.ends; are = all.0.are; earlier = all.0.earlier }, are_next seats w ss all.1)

next_kept : (seats after : List Seat) (w v : MachineState) (ss : List Session) → Keeps seats after
    → map nodes v.sessions ≡ map nodes w.sessions → AllByRecursion (IsNext seats w) ss → AllByRecursion (IsNext after v) ss
next_kept seats after w v [] k e all = tt
next_kept seats after w v (s ∷ ss) k e all = (
  record {
    ends = all.0.ends;
    are = ends_of_kept seats after s.near.name s.far.name k ∙ all.0.are;
    earlier = same_earlier v.sessions w.sessions s.near.name s.far.name e ∙ all.0.earlier;
  },
  next_kept seats after w v ss k e all.1,
)

module _ (M : MachineState → Type 0) (f : Facts M) where
  one_connection : (w : MachineState) (a b : Name) → is_earlier w.sessions a b ≡ true
      → next message_size w (Connect a b) ≡ connect_if a b w
  unfolding next
  one_connection w a b e = ap (λ c. cond c (connect_if a b w) (connect_if b a w)) e

  pub one_connected : (seats after : List Seat) (w : MachineState) (a b : Name) (e : SessionEnds) → At M seats w
      → is_earlier w.sessions a b ≡ true → ends_of seats a b ≡ Some e → Connects seats e after
      → At M after (connect_if a b w)
  one_connected seats after w a b e h first is c = record {
    moment = subst M (one_connection w a b first) (f.next w (Connect a b) tt h.moment);
    stands = f.connects seats after w a b e h.moment h.stands first is c;
  }

  pub all_connected : (ss : List Session) (seats after : List Seat) (w : MachineState) (es : List SessionEnds) → At M seats w
      → AllByRecursion (IsNext seats w) ss → es ≡ order_among seats ss → ConnectsAll es seats after
      → Keeps seats after × At M after (connect_all ss w)
  all_connected [] seats after w es h all same c =
      let none = subst (λ es. ConnectsAll es seats after) same c in
      (subst (Keeps seats) (sym none) (keeps_all seats h.stands.seats_are.long), stays M f seats after w none h)
  all_connected (s ∷ ss) seats after w es h all same c =
      let i = all.0 in
      let here : es ≡ i.ends ∷ order_among seats ss =
      same ∙ ap (λ o. cons_option o (order_among seats ss)) i.are in
      let c = subst (λ es. ConnectsAll es seats after) here c in
      let a = s.near.name in
      let b = s.far.name in
      let k = connects_keeps seats i.ends c.0 h.stands.seats_are.long (ends_here M f seats w a b i.ends h i.are) c.1 in
      let v = connect_if a b w in
      let more = all_connected ss c.0 after v (order_among seats ss)
      (one_connected seats c.0 w a b i.ends h i.earlier i.are c.1)
      (next_kept seats c.0 w v ss k (connect_if_nodes a b w) all.1) (sym (among_kept seats c.0 ss k)) c.2 in
      (keeps_both seats c.0 after k more.0, more.1)
