-- The nodes of seats stand in the list of all nodes.
use Rattle.std.specs.Prelude.{◌<◌, ℕ, zero, suc, List, [], ◌∷◌, map, length}
use Rattle.std.proofs.Common.{refl, subst, inl, inr, arith}
use Rattle.node_model.specs.Members.{Member}
use Rattle.running_nodes.specs.Seats.{Seat, seat, whos}
use Rattle.running_nodes.specs.Stands.{Seats}
use Rattle.machine_laws.specs.MachineModel.Network.{MachineState}

member_who : (seats : List Seat) (k : ℕ) → k < length seats → Member (seat seats k).who (map (λ (n : Seat). n.who) seats)
member_who [] k lt = absurd (omega (arith, lt))
member_who (n ∷ seats) zero lt = inl refl
member_who (n ∷ seats) (suc k) lt = inr (member_who seats k (omega (arith, lt)))

pub is_one_of : (seats : List Seat) (w : MachineState) → Seats seats w → (k : ℕ) → k < length seats → Member (seat seats k).who (whos w.setup)
is_one_of seats w stands k lt = subst (λ xs. Member (seat seats k).who xs) stands.who (member_who seats k lt)
