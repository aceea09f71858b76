-- Which entries a node may tell another, by their roles, and that a change of such entries can be carried.
use Rattle.std.specs.Prelude.{Bool, IfSome, IsTrue, false, refl, true, ◌≡◌}
use Rattle.std.specs.declared.option.Option.TheVariants.{Some}
use Rattle.std.specs.declared.option.Option.{Option}
use Rattle.std.proofs.Common.{subst}
use Rattle.ov_sync.specs.Keyed.{key_of}
use Rattle.ov_sync.specs.declared.Delta.TheVariants.{Drop, Put}
use Rattle.ov_types.specs.declared.objects.LowKey.TheVariants as key
use Rattle.bgp_vpn.specs.Written.{FitsItsTypes}
use Rattle.item_wire.specs.Inputs.{is_of_agent, is_of_control, is_of_feed, may_send}
use Rattle.item_wire.specs.declared.event.ItemFrom.TheVariants as From
use Rattle.item_wire.specs.declared.event.ItemFrom.{ItemFrom}
use Rattle.item_wire.specs.declared.item.Item.TheVariants as I
use Rattle.item_wire.specs.declared.item.Item.{Item}
use Rattle.node_core.specs.Told.{CanBeTold, Fits, IsTyped, change_of}
use Rattle.node_core.proofs.Changes.{change_of_what_is_told, fits_told}
use Rattle.node_core.proofs.Maps.{key_of_what_fits}
use Rattle.node_model.specs.Keys.{Key, Low, Publish, Row, Subscribe, Vpn}
use Rattle.node_model.specs.Maps.{Change}
use Rattle.node_model.specs.Values.{Entry, Route, Value}
use Rattle.running_nodes.specs.NodeRoutes.First.{RouteFitsItsTypes}
use Rattle.running_nodes.specs.NodeRoutes.Told.{IsWritable}
use Rattle.machine_laws.specs.MachineModel.Session.{Role, are_peers}
use Rattle.running_nodes.specs.Telling.{CanCarry, CanCarryAs, IsRecordChange, IsRouteChange, from_of}

-- ---- entries
-- whose records may say of a key
abbrev pub MayTell : ItemFrom → Key → Type 0
MayTell From.Feed (Low k) = Unit {0}
MayTell From.Control (Low (key.Attach label)) = Unit {0}
MayTell From.Control (Low (key.Acl from to)) = Unit {0}
MayTell From.Control (Row i prefix) = Unit {0}
MayTell From.Agent (Publish i prefix) = Unit {0}
MayTell From.Agent (Subscribe i) = Unit {0}
MayTell _ _ = ⊥

pub record FitsItem (from : ItemFrom) (k : Key) (v : Value) : Type 0 where
  pub fits : Fits k v
  pub typed : IsTyped (Put k v)
  pub may : MayTell from k

abbrev pub FitsPeer : Key → Value → Type 0
FitsPeer (Vpn k) (Route r) = IsWritable r × (FitsItsTypes k × RouteFitsItsTypes r)
FitsPeer _ _ = ⊥

-- whether it is between control nodes, and else whose records are sent
abbrev pub FitsBy : Bool → ItemFrom → Key → Value → Type 0
FitsBy true from k v = FitsPeer k v
FitsBy false from k v = FitsItem from k v

abbrev pub IsFit : Role → Role → Key → Value → Type 0
IsFit from to k v = FitsBy (are_peers from to) (from_of from to) k v

-- ---- changes
-- what is put has P, and what is dropped is the key of something that has it
abbrev pub ChangeOf : (Key → Value → Type 0) → Change → Type 0
ChangeOf P (Put k v) = P k v
ChangeOf P (Drop k) = (v : Value) × P k v

-- the records of a direction are those of its keys
of_feed : (i : Item) → IfSome (change_of i) (λ c. MayTell From.Feed (key_of c) → is_of_feed i ≡ true)
of_feed (I.Hello name) = tt
of_feed (I.Instance imports instance) = λ _. refl
of_feed (I.Port address instance node port) = λ _. refl
of_feed (I.Circuit circuit node service) = λ _. refl
of_feed (I.Acl from rules subnets to) = λ _. refl
of_feed (I.Use hops left left_prefixes right right_prefixes use_no) = λ _. refl
of_feed (I.NoInstance instance) = λ _. refl
of_feed (I.NoAttach label) = λ _. refl
of_feed (I.NoAcl from to) = λ _. refl
of_feed (I.NoUse use_no) = λ _. refl
of_feed _ = λ may. absurd may

of_control : (i : Item) → IfSome (change_of i) (λ c. MayTell From.Control (key_of c) → is_of_control i ≡ true)
of_control (I.Hello name) = tt
of_control (I.Port address instance node port) = λ _. refl
of_control (I.Circuit circuit node service) = λ _. refl
of_control (I.Acl from rules subnets to) = λ _. refl
of_control (I.NoAttach label) = λ _. refl
of_control (I.NoAcl from to) = λ _. refl
of_control (I.Route instance label next_hop prefix) = λ _. refl
of_control (I.Unroute instance prefix) = λ _. refl
of_control _ = λ may. absurd may

of_agent : (i : Item) → IfSome (change_of i) (λ c. MayTell From.Agent (key_of c) → is_of_agent i ≡ true)
of_agent (I.Hello name) = tt
of_agent (I.Publish instance label prefix) = λ _. refl
of_agent (I.Unpublish instance prefix) = λ _. refl
of_agent (I.Subscribe instance) = λ _. refl
of_agent (I.Unsubscribe instance) = λ _. refl
of_agent _ = λ may. absurd may

some_with : {A : Type 0} (P : A → Type 0) (o : Option A) (x : A) → o ≡ Some x → IfSome o P → P x
some_with P o x e h = subst (λ (o : Option _). IfSome o P) e h

may_be_sent : (from : ItemFrom) (c : Change) (i : Item) → change_of i ≡ Some c → MayTell from (key_of c) → IsTrue (may_send from i)
may_be_sent From.Feed c i e may = some_with (λ (c : Change). MayTell From.Feed (key_of c) → is_of_feed i ≡ true) (change_of i) c e (of_feed i) may
may_be_sent From.Control c i e may = some_with (λ (c : Change). MayTell From.Control (key_of c) → is_of_control i ≡ true) (change_of i) c e (of_control i) may
may_be_sent From.Agent c i e may = some_with (λ (c : Change). MayTell From.Agent (key_of c) → is_of_agent i ≡ true) (change_of i) c e (of_agent i) may
may_be_sent From.Nothing c i e may = absurd may

-- the key of something typed is typed
key_typed : (k : Key) (v : Value) → Fits k v → IsTyped (Put k v) → IsTyped (Drop k)
key_typed (Low k) v f t = tt
key_typed (Row i prefix) (Entry hop) f t = t.0
key_typed (Publish i prefix) v f t = t
key_typed (Subscribe i) v f t = tt
key_typed (Vpn k) v f t = tt
key_typed (Row i prefix) _ f t = absurd f

can_be_told : (from : ItemFrom) (c : Change) → ChangeOf (FitsItem from) c → CanBeTold c
can_be_told from (Put k v) h = fits_told (Put k v) h.fits h.typed
can_be_told from (Drop k) h = fits_told (Drop k) (key_of_what_fits k h.0 h.1.fits) (key_typed k h.0 h.1.fits h.1.typed)

may_tell : (from : ItemFrom) (c : Change) → ChangeOf (FitsItem from) c → MayTell from (key_of c)
may_tell from (Put k v) h = h.may
may_tell from (Drop k) h = h.1.may

record_change : (from : ItemFrom) (c : Change) → ChangeOf (FitsItem from) c → IsRecordChange from c
record_change from c h =
    let told = can_be_told from c h in
    record { told = told; may = may_be_sent from c told.item (change_of_what_is_told c told) (may_tell from c h) }

route_change : (c : Change) → ChangeOf FitsPeer c → IsRouteChange c
route_change (Put (Vpn k) (Route r)) h = record { change = Put k r; is = refl; writable = h.0; typed = h.1 }
route_change (Drop (Vpn k)) (Route r, h) = record { change = Drop k; is = refl; writable = tt; typed = h.1.0 }
route_change (Put k v) h = absurd h
route_change (Drop k) (v, h) = absurd h

pub can_carry : (from to : Role) (c : Change) → ChangeOf (IsFit from to) c → CanCarry from to c
can_carry from to c h =
    elim (are_peers from to) as (λ b. ChangeOf (FitsBy b (from_of from to)) c → CanCarryAs b (from_of from to) c) [
      | true ↦ route_change c
      | false ↦ record_change (from_of from to) c
    ] h
