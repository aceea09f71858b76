-- How many octets a message has, as a node spells it.
use Rattle.std.specs.Prelude.{◌≡◌, ◌<◌, ℕ, List, [], ◌∷◌, length, Bool, true, false}
use Rattle.std.proofs.Common.{refl, sym, ◌∙◌, ap, subst, arith}
use Rattle.ov_sync.specs.Embed.{moved_delta}
use Rattle.ov_sync.specs.declared.Delta.{Delta}
use Rattle.ov_sync.specs.declared.Delta.TheVariants.{Put, Drop}
use Rattle.ov_types.specs.declared.vpn.VpnKey.{VpnKey}
use Rattle.ov_types.specs.declared.vpn.VpnRoute.{VpnRoute}
use Rattle.node_core.specs.Told as items
use Rattle.node_core.specs.Told.{CanBeTold}
use Rattle.node_core.proofs.Changes.{spelling_of_what_is_told}
use Rattle.node_model.specs.Keys.{Low, Vpn, Row, Publish, Subscribe}
use Rattle.node_model.specs.Maps.{Change}
use Rattle.node_model.specs.Values.{Route}
use Rattle.node_model.proofs.Members.{none_some}
use Rattle.running_nodes.specs.NodeRoutes.Told as routes
use Rattle.machine_laws.specs.MachineModel.Session.{Configuration, Controller, Agent, Role, Message, Open, Keepalive, Hello, Carries, are_peers}
use Rattle.running_nodes.specs.Controls.{Controls}
use Rattle.running_nodes.specs.Seats.{Who, Configuring, Controlling, Forwarding, name_of, role_of}
use Rattle.running_nodes.specs.Stands.{at_least_one, carried_octets, message_size, octets_of}
use Rattle.running_nodes.specs.Telling.{CanCarryAs, CanSend, IsRecordChange, from_of}
use Rattle.running_laws.specs.Hearing.{IsMessageOf}

at_least : (octets : List ℕ) → 0 < length octets → length octets ≡ at_least_one octets
at_least [] some = absurd (omega (arith, some))
at_least (o ∷ octets) some = refl

abbrev HasSize : Who → Bool → Message → Type 0
HasSize who peering m = (length (octets_of who peering m) ≡ message_size (name_of who) m) × (0 < length (octets_of who peering m))

-- ---- records
carries_record : (c : Change) → CanBeTold c → carried_octets c ≡ items.spelled c
carries_record (Put (Low k) v) told = refl
carries_record (Put (Vpn k) v) told = absurd (none_some told.item told.is)
carries_record (Put (Row k prefix) v) told = refl
carries_record (Put (Publish k prefix) v) told = refl
carries_record (Put (Subscribe k) v) told = refl
carries_record (Drop (Low k)) told = refl
carries_record (Drop (Vpn k)) told = absurd (none_some told.item told.is)
carries_record (Drop (Row k prefix)) told = refl
carries_record (Drop (Publish k prefix)) told = refl
carries_record (Drop (Subscribe k)) told = refl

record_is_some : (c : Change) → CanBeTold c → 0 < length (items.spelled c)
record_is_some c told = subst (λ (o : List ℕ). 0 < length o) (sym (spelling_of_what_is_told c told)) (omega arith)

item_size : (a : Who) (to : Role) (m : Message) → are_peers (role_of a) to ≡ false → CanSend (role_of a) to m
    → IsMessageOf false m → HasSize a false m
item_size a to Hello kind can is = (refl, omega arith)
item_size a to (Carries c) kind can is =
    let r : IsRecordChange (from_of (role_of a) to) c =
    subst (λ (peering : Bool). CanCarryAs peering (from_of (role_of a) to) c) kind can in
    let some = record_is_some c r.told in
    (at_least (items.spelled c) some ∙ ap at_least_one (sym (carries_record c r.told)), some)
item_size a to Open kind can is = absurd is
item_size a to Keepalive kind can is = absurd is

-- ---- messages between control nodes
carries_update : (d : Delta VpnKey VpnRoute)
    → carried_octets (moved_delta Vpn Route d) ≡ routes.spelled (moved_delta Vpn Route d)
carries_update (Put k r) = refl
carries_update (Drop k) = refl

update_is_some : (d : Delta VpnKey VpnRoute) → 0 < length (routes.spelled (moved_delta Vpn Route d))
update_is_some (Put k r) = omega arith
update_is_some (Drop k) = omega arith

route_size : (self : Controls) (m : Message) → CanSend Controller Controller m → IsMessageOf true m
    → HasSize (Controlling self) true m
route_size self Open can is = (refl, omega arith)
route_size self Keepalive can is = (refl, omega arith)
route_size self (Carries c) can is =
    let d = can.change in
    let some = subst (λ (x : Change). 0 < length (routes.spelled x)) (sym can.is) (update_is_some d) in (
      at_least (routes.spelled c) some
          ∙ ap (λ (x : Change). at_least_one (routes.spelled x)) can.is
          ∙ ap at_least_one (sym (carries_update d))
          ∙ ap (λ (x : Change). at_least_one (carried_octets x)) (sym can.is),
      some,
    )
route_size self Hello can is = absurd is

-- ---- from one node to another
pub has_size : (a b : Who) (m : Message) → CanSend (role_of a) (role_of b) m
    → IsMessageOf (are_peers (role_of a) (role_of b)) m → HasSize a (are_peers (role_of a) (role_of b)) m
has_size (Configuring x) (Configuring y) m can is = item_size (Configuring x) Configuration m refl can is
has_size (Configuring x) (Controlling other) m can is = item_size (Configuring x) Controller m refl can is
has_size (Configuring x) (Forwarding other) m can is = item_size (Configuring x) Agent m refl can is
has_size (Controlling c) (Configuring x) m can is = item_size (Controlling c) Configuration m refl can is
has_size (Controlling c) (Controlling other) m can is = route_size c m can is
has_size (Controlling c) (Forwarding other) m can is = item_size (Controlling c) Agent m refl can is
has_size (Forwarding plan) (Configuring x) m can is = item_size (Forwarding plan) Configuration m refl can is
has_size (Forwarding plan) (Controlling other) m can is = item_size (Forwarding plan) Controller m refl can is
has_size (Forwarding plan) (Forwarding other) m can is = item_size (Forwarding plan) Agent m refl can is
