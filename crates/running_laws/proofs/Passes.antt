-- Control nodes make their passes, one after the other: the seats then are those of the network in which they have made them.
use Rattle.std.specs.Prelude.{◌≡◌, ℕ, List, [], ◌∷◌, map}
use Rattle.std.specs.declared.option.Option.TheVariants.{Some, None}
use Rattle.std.specs.List.{slice_index_or}
use Rattle.std.proofs.Common.{refl, sym, ◌∙◌, ap, subst, inl, inr}
use Rattle.ov_types.specs.declared.rows.NodeId.{NodeId}
use Rattle.node_model.specs.Members.{Member}
use Rattle.node_model.proofs.Members.{in_left, in_map}
use Rattle.machine_laws.specs.MachineModel.Setup.{Name}
use Rattle.machine_laws.specs.MachineModel.Network.{MachineState, config}
use Rattle.machine_laws.specs.MachineModel.Events.{passes}
use Rattle.machine_laws.specs.MachineModel.Steps.{pass}
use Rattle.running_nodes.specs.Moving.{PassesAll, PassesAt}
use Rattle.running_nodes.specs.Seats.{Controlling, Forwarding, Seat, Who, agent_plan, control_plan, name_of, nobody, others_of, seat, seat_named}
use Rattle.running_nodes.specs.Stands.{Seats}
use Rattle.running_nodes.specs.Steps.{cleared, with_seat}
use Rattle.running_laws.specs.Wiring.{IsPlace}
use Rattle.running_laws.proofs.Anew.{told_anew}
use Rattle.running_laws.proofs.AtMoments.{IsSound}
use Rattle.running_laws.proofs.Clearing.{place}
use Rattle.running_laws.proofs.Facts.{IsRight, Wired}
use Rattle.running_laws.proofs.FirstPlaces.{at_of_member}
use Rattle.running_laws.proofs.Here.{place_named}
use Rattle.running_laws.proofs.Lists.{place_with, who_at}
use Rattle.running_laws.proofs.MovedRight.{pass_right, pass_sound}

module _ (wired : Wired) where
  -- ---- the seat of a control node
  record Sits (s : List Seat) (d : NodeId) : Type 0 where
    number : ℕ
    there : IsPlace s (place number 0)
    named : seat_named s d.name ≡ Some number
    name : name_of (seat s number).who ≡ d.name

  sits : (s : List Seat) (v : MachineState) → IsRight v → Seats s v → (d : NodeId) → Member d v.setup.topology.controllers → Sits s d
  sits s v right stands d is =
      let at =
      at_of_member (Controlling (control_plan v.setup d)) (map (λ (n : Seat). n.who) s) nobody.who
      (subst (Member (Controlling (control_plan v.setup d))) (sym stands.who)
      (inr (in_left (Controlling (control_plan v.setup d)) (map (λ c. Controlling (control_plan v.setup c)) v.setup.topology.controllers)
      (map (λ n. Forwarding (agent_plan v.setup.topology n)) v.setup.topology.nodes)
      (in_map (λ c. Controlling (control_plan v.setup c)) d v.setup.topology.controllers is))))
      in
      let who : (seat s at.0).who ≡ Controlling (control_plan v.setup d) = who_at s at.0 ∙ at.2 in
      let there : IsPlace s (place at.0 0) =
      place_with s (place at.0 0) config (ap (λ (w : Who). slice_index_or (others_of w) 0 None) who)
      in
      record {
        number = at.0;
        there = there;
        named = ap (seat_named s) (sym (ap name_of who)) ∙ place_named wired s v right stands (place at.0 0) there;
        name = ap name_of who;
      }

  -- ---- its pass
  one_stands : (s after : List Seat) (v : MachineState) → IsRight v → IsSound v → Seats s v → (d : NodeId)
      → Member d v.setup.topology.controllers → PassesAt (seat_named s d.name) s after → Seats after (pass d.name v)
  one_stands s after v right sound stands d is made =
      let at = sits s v right stands d is in
      let m = subst (λ o. PassesAt o s after) at.named made in
      subst (λ a. Seats a (pass d.name v)) (sym m.2)
      (subst (λ name. Seats (cleared (with_seat at.number m.0 s) at.number) (pass name v)) at.name
      (told_anew wired s v right sound stands at.number at.there m.0 m.1.stepped m.1.swept))

  pub passes_stand : (cs : List Name) (s after : List Seat) (v : MachineState) → IsRight v → IsSound v → Seats s v
      → ((c : Name) → Member c cs → (d : NodeId) × Member d v.setup.topology.controllers × (d.name ≡ c))
      → PassesAll cs s after → Seats after (passes cs v)
  passes_stand [] s after v right sound stands sites is = subst (λ a. Seats a v) (sym is) stands
  passes_stand (c ∷ cs) s after v right sound stands sites (between, one, more) =
      let d = sites c (inl refl) in
      passes_stand cs between after (pass c v) (pass_right c v sound right) (pass_sound c v sound)
      (subst (λ c. Seats between (pass c v)) d.2
      (one_stands s between v right sound stands d.0 d.1 (subst (λ c. PassesAt (seat_named s c) s between) (sym d.2) one)))
      (λ c m. sites c (inr m)) more
