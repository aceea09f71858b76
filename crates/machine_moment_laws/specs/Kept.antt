-- Packets that all configurations of a window keep to a port, and what becomes of them at its moments.
use Rattle.std.specs.Prelude.{◌≡◌, ◌≢◌, ◌⊎◌, ℕ, IsTrue, List, [], ◌∷◌, None, ⊤}
use Rattle.std.specs.List.{All, Any, Contains}
use Rattle.ov_types.specs.declared.numbers.PortNo.{PortNo}
use Rattle.ov_types.specs.declared.numbers.ServiceNo.{ServiceNo}
use Rattle.ov_types.specs.declared.packet.Outcome.{Outcome}
use Rattle.ov_types.specs.declared.packet.Outcome.TheVariants.{Delivered}
use Rattle.ov_types.specs.declared.packet.Packet.{Packet}
use Rattle.route_targets.specs.Forwarding.{forwarding}
use Rattle.config_types.specs.Form.{has_edit_form}
use Rattle.config_types.specs.declared.config.Port.{Port}
use Rattle.config_types.specs.declared.edit.Edit.{Edit}
use Rattle.config_types.specs.declared.edit.Edit.TheVariants.{Delete, Put}
use Rattle.config_types.specs.declared.edit.Object.{Object}
use Rattle.config_types.specs.declared.edit.Object.TheVariants as Objects
use Rattle.config_types.specs.declared.edit.ObjectKind.{ObjectKind}
use Rattle.schedule_script.specs.ConfigCheck.Checked.{Checked}
use Rattle.schedule_script.specs.ConfigCheck.Edits.{edit_fault, edited}
use Rattle.reach_plain.specs.Reachability.{reachability}
use Rattle.hitless_cells.specs.Hands.{KeepsInHand}
use Rattle.hitless_cells.specs.Keeping.{Delivers, IsHitless, Keep, OfferAlike}
use Rattle.hitless_cells.specs.Ways.{LeadsTo, Offers, Track, Way, visited}
use Rattle.hitless_cells.specs.Ways.Way.{inside, passing, through}
use Rattle.machine_model.specs.Events.{forwarders}
use Rattle.machine_model.specs.Network.{MachineState}
use Rattle.machine_moment_laws.specs.Windows.{IsOfOneEdit}

-- no chain is led through
abbrev pub IsStraight : Way → Type 0
IsStraight inside = ⊤
IsStraight passing = ⊤
IsStraight (through use_no mirrored) = ⊥

-- where one of these ways leads through no chain, the address of the packet's destination does not change hands
abbrev pub IsInHand : List Checked → Packet → PortNo → List Way → Type 0
IsInHand cs p number ways =
    (way : Way) (track : Track) → Contains ways way → IsStraight way → All (λ x. Offers x p number way track) cs
    → KeepsInHand cs track.from track.to p.destination

-- a packet is delivered to the port by one of these ways, whole: it visits just the services of the track that all
-- configurations offer that way with. So one of these configurations delivers it by its policies
pub record IsDeliveredBy (cs : List Checked) (p : Packet) (number : PortNo) (ways : List Way) (o : Outcome) : Type 0 where
  pub way : Way
  pub among : Contains ways way
  pub track : Track
  pub offered : All (λ x. Offers x p number way track) cs
  pub delivered : o ≡ Delivered number (visited way track)
  pub as_one : Any (λ x. o ≡ reachability x.config p) cs

-- each packet that all configurations keep to a port by some ways, and whose destination's address is in hand, is delivered
-- there by one of them
abbrev pub KeptAreDelivered : List Checked → MachineState → Type 0
KeptAreDelivered cs w =
    (p : Packet) (number : PortNo) (ways : List Way) → Keep cs p number ways → IsInHand cs p number ways
    → IsDeliveredBy cs p number ways (forwarding (forwarders w) p)

-- a packet that all configurations of a window keep to a port is delivered there by one of its ways, in a window with
-- one accepted edit at most, where no address changes hands
abbrev pub KeptInOneEdit : List Checked → MachineState → Type 0
KeptInOneEdit cs w =
    IsOfOneEdit cs → (p : Packet) (number : PortNo) (ways : List Way) → Keep cs p number ways
    → IsDeliveredBy cs p number ways (forwarding (forwarders w) p)

-- ---- of one accepted edit, in the words of policies
-- a packet becomes what the policies of the one configuration or of the other say
abbrev pub IsOfEither : Checked → Checked → Packet → Outcome → Type 0
IsOfEither x y p o = (o ≡ reachability x.config p) ⊎ (o ≡ reachability y.config p)

-- a packet that both configurations lead to one port, by ways that both offer alike, goes by the one or by the other
abbrev pub GoesByEither : List Checked → MachineState → Type 0
GoesByEither cs w =
    (x y : Checked) → cs ≡ x ∷ y ∷ [] → (p : Packet) (number : PortNo) (before after : Way) → LeadsTo x.config p number before
    → LeadsTo y.config p number after → OfferAlike x y p number before → OfferAlike x y p number after
    → IsOfEither x y p (forwarding (forwarders w) p)

-- where the edit is hitless, each packet that both configurations deliver
abbrev pub HitlessInterruptsNothing : List Checked → MachineState → Type 0
HitlessInterruptsNothing cs w =
    (x y : Checked) → cs ≡ x ∷ y ∷ [] → IsHitless x y → (p : Packet) (number : PortNo) → Delivers x p number
    → Delivers y p number → IsOfEither x y p (forwarding (forwarders w) p)

-- all that a configuration delivers is delivered so
abbrev pub StaysDelivered : Checked → MachineState → Type 0
StaysDelivered x w =
    (p : Packet) (number : PortNo) (services : List ServiceNo) → reachability x.config p ≡ Delivered number services
    → forwarding (forwarders w) p ≡ Delivered number services

-- where the edit puts an object whose name none of its kind has, all that was delivered before
abbrev pub NewInterruptsNothing : {A : Type 0} → (A → List ℕ) → (A → Object) → (Checked → List A) → List Checked
    → MachineState → Type 0
NewInterruptsNothing {A} name_of object list cs w =
    (x : Checked) (o : A) → cs ≡ x ∷ edited (Put (object o)) x ∷ [] → IsTrue (has_edit_form (Put (object o)))
    → All (λ y. name_of y ≢ name_of o) (list x) → edit_fault x (Put (object o)) ≡ None → StaysDelivered x w

-- where the edit deletes an object, all that is delivered after
abbrev pub DeleteInterruptsNothing : ObjectKind → List Checked → MachineState → Type 0
DeleteInterruptsNothing kind cs w =
    (x : Checked) (name : List ℕ) → cs ≡ x ∷ edited (Delete kind name) x ∷ [] → IsTrue (has_edit_form (Delete kind name))
    → edit_fault x (Delete kind name) ≡ None → StaysDelivered (edited (Delete kind name) x) w

-- ---- when a port keeps its address
-- the port of one number has one address in all of these configurations
abbrev pub HasOneAddress : List Checked → PortNo → Type 0
HasOneAddress cs number =
    (x y : Checked) (a b : Port) → Contains cs x → Contains cs y → Contains x.config.ports a → Contains y.config.ports b
    → a.id ≡ number → b.id ≡ number → a.address ≡ b.address

-- an edit puts a port of this number
abbrev pub PutsPort : Edit → PortNo → Type 0
PutsPort e number = (o : Port) × (e ≡ Put (Objects.Port o)) × (o.id ≡ number)
