-- What stays where ends are cleared: who is there.
use Rattle.std.specs.Prelude.{◌≡◌, ◌+◌, ℕ, zero, suc, List, [], length, map, Bool, true, false, cond}
use Rattle.std.specs.declared.option.Option.{Option}
use Rattle.std.specs.declared.option.Option.TheVariants.{Some, None}
use Rattle.std.proofs.Common.{refl, sym, ◌∙◌, ap}
use Rattle.ov_types.specs.First.{same_name}
use Rattle.running_nodes.specs.MachineModel.Setup.{Name}
use Rattle.running_nodes.specs.Seats.{Seat, far_of, index_from, is_down_at, live_at, name_of, seat, seat_named}
use Rattle.running_nodes.specs.Steps.{cleared, cleared_at, cleared_from, told_of_loss, with_link, with_notice}
use Rattle.running_nodes.specs.declared.place.SessionPlace.{SessionPlace}
use Rattle.running_laws.proofs.FirstPlaces.{map_twice}
use Rattle.running_laws.proofs.Lists.{AreAlike, index_map, same_who, with_alike}

link_alike : (seats : List Seat) (p : SessionPlace) (messages : List (List ℕ)) → AreAlike seats (with_link p messages seats)
link_alike seats p messages = with_alike p.node _ seats refl

notice_alike : (seats : List Seat) (p : SessionPlace) (waits : Bool) → AreAlike seats (with_notice p waits seats)
notice_alike seats p waits = with_alike p.node _ seats refl

told_alike : (seats : List Seat) (o : Option SessionPlace) → AreAlike seats (told_of_loss seats o)
told_alike seats None = refl
told_alike seats (Some q) =
    link_alike (with_notice q (live_at seats q) seats) q [] ∙ notice_alike seats q (live_at seats q)

one_alike : (seats : List Seat) (p : SessionPlace) → AreAlike seats (cleared_at seats p)
one_alike seats p =
    elim (live_at seats p) as (λ live. AreAlike seats (cond live (cond (is_down_at seats p) (with_link p [] seats) seats)
    (told_of_loss (with_notice p false (with_link p [] seats)) (far_of seats p)))) [
      | true ↦ elim (is_down_at seats p) as (λ down. AreAlike seats (cond down (with_link p [] seats) seats)) [
        | true ↦ link_alike seats p []
        | false ↦ refl
      ]
      | false ↦ told_alike (with_notice p false (with_link p [] seats)) (far_of seats p)
          ∙ notice_alike (with_link p [] seats) p false ∙ link_alike seats p []
    ]

from_alike : (n k i : ℕ) (seats : List Seat) → AreAlike seats (cleared_from n k i seats)
from_alike zero k i seats = refl
from_alike (suc n) k i seats =
    from_alike n k (i + 1) (cleared_at seats (record { node = k; session = i }))
    ∙ one_alike seats (record { node = k; session = i })

pub cleared_alike : (seats : List Seat) (k : ℕ) → AreAlike seats (cleared seats k)
cleared_alike seats k = from_alike (length (seat seats k).posts) k 0 seats

-- nodes that are the same have the same names
pub names_alike : (a b : List Seat) → AreAlike a b
    → map (λ (n : Seat). name_of n.who) b ≡ map (λ (n : Seat). name_of n.who) a
names_alike a b e = sym (map_twice name_of (λ (n : Seat). n.who) b) ∙ ap (map name_of) e ∙ map_twice name_of (λ (n : Seat). n.who) a

-- ---- a seat is found by its name as before, where the names are the same
pub named_by_names : (a b : List Seat) (name : Name)
    → map (λ (n : Seat). name_of n.who) a ≡ map (λ (n : Seat). name_of n.who) b → seat_named a name ≡ seat_named b name
named_by_names a b name e =
    index_map (λ m. same_name m name) (λ (n : Seat). name_of n.who) 0 a
    ∙ ap (index_from 0 (λ m. same_name m name)) e
    ∙ sym (index_map (λ m. same_name m name) (λ (n : Seat). name_of n.who) 0 b)
