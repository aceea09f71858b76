-- What a value that was read has in its object.
use Rattle.std.proofs.Common.{◌≡◌, ℕ, Bool, true, nat_eq, List, [], Option, Some, None, is_some, Result, Ok, Err, refl, subst, ap, ◌∙◌, codes, inl, inr}
use Rattle.std.specs.List.{list_any, list_all}
use Rattle.std.specs.Cmp.Lexicographic.{pointwise}
use Rattle.std.proofs.lemmas.Bool.{cases_Bool}
use Rattle.std.proofs.lemmas.List.{append-nil}
use Rattle.std.proofs.lemmas.List.Folds.{list_all-append}
use Rattle.serde_json.specs.Data.{Data, Members, no_members, member}
use Rattle.serde_json.specs.Find.{get, as_object}
use Rattle.config_model.specs.declared.fault.DocKind.{DocKind}
use Rattle.config_types.specs.declared.config.Action.{Action}
use Rattle.config_types.specs.declared.config.Action.TheVariants.{Pass, Deny, Through}
use Rattle.config_types.specs.declared.config.Rule.{Rule}
use Rattle.config_model.specs.Faults.{Fault, ◌>>=◌, wanted}
use Rattle.config_model.specs.Fields.{Reads, member_at, in_member, object_at, first_other, none_left, only_at, optional_all, name_at}
use Rattle.config_model.specs.Laws.{names_of, is_one_of, HasJust, ControllerHasJust, NodeHasJust, TopologyHasJust, NetworkHasJust, PortHasJust, PolicyHasJust, RuleHasJust, ServiceHasJust, ChainHasJust, ConfigHasJust, PacketHasJust, CompileHasJust, ReachHasJust}
use Rattle.config_model.specs.Topology.{controller_at, node_at, topology_at}
use Rattle.config_model.specs.Config.{network_at, port_at, policy_at, service_at, chain_at, config_at}
use Rattle.config_model.specs.Rule.{direction_at, end_at, protocol_at, range_at, rule_at, action_at, action_from, through_at, rule_members, chain_members, members_with}
use Rattle.config_model.specs.Input.{packet_at, compile_at, reach_at}

-- where reading gave a value, its first step gave one
pub bind_ok : {A B : Type 0} (read : Result A Fault) (next : A → Result B Fault) (y : B) → (read >>= next) ≡ Ok y → (x : A) × (read ≡ Ok x) × (next x ≡ Ok y)
bind_ok (Ok x) next y h = (x, refl, h)
bind_ok (Err e) next y h = cc

there : {B : Type 0} (path : List ℕ) (what : DocKind) (o : Option Data) (next : Data → Result B Fault) (y : B) → (wanted path what o >>= next) ≡ Ok y → is_some o ≡ true
there path what None next y h = cc
there path what (Some d) next y h = refl

pub is_there : {A : Type 0} (reads : Reads A) (path name : List ℕ) (d : Data) (x : A) → in_member reads path name d ≡ Ok x → is_some (get name d) ≡ true
unfolding in_member member_at
is_there reads path name d x h = there _ _ (get name d) _ x h

object_from : (path : List ℕ) (what : DocKind) (o : Option Members) (ms : Members) → wanted path what o ≡ Ok ms → o ≡ Some ms
object_from path what None ms h = cc
object_from path what (Some m) ms h = cc

pub is_object : (path : List ℕ) (d : Data) (ms : Members) → object_at path d ≡ Ok ms → as_object d ≡ Some ms
unfolding object_at
is_object path d ms h = object_from _ _ (as_object d) ms h

none_other : (known : List (List ℕ)) (ms : Members) → first_other known ms ≡ None → list_all (is_one_of known) (names_of ms) ≡ true
none_other known no_members h = refl
none_other known (member k d ms) h =
    elim (cases_Bool (list_any (λ x. pointwise nat_eq x k) known)) [
      | inl e ↦ rw e (none_other known ms (rw e at h))
      | inr e ↦ let g : Some k ≡ None = rw e at h in cc
    ]

nothing_left : (path : List ℕ) (o : Option (List ℕ)) → none_left path o ≡ Ok tt → o ≡ None
nothing_left path None h = refl
nothing_left path (Some k) h = cc

pub has_no_other : (path : List ℕ) (known : List (List ℕ)) (ms : Members) → only_at path known ms ≡ Ok tt → list_all (is_one_of known) (names_of ms) ≡ true
unfolding only_at
has_no_other path known ms h = none_other known ms (nothing_left path (first_other known ms) h)

pub controller_has_just : ControllerHasJust
unfolding controller_at
controller_has_just path d x h =
    let a = bind_ok _ _ x h in
    let b = bind_ok _ _ x a.2 in
    let c = bind_ok _ _ x b.2 in
    let z = bind_ok _ _ x c.2 in
    record {
      members = a.0;
      is_object = is_object path d a.0 a.1;
      has_each = rw (is_there _ _ _ d b.0 b.1, is_there _ _ _ d c.0 c.1) refl;
      has_no_other = has_no_other path _ a.0 z.1;
    }

pub node_has_just : NodeHasJust
unfolding node_at
node_has_just path d x h =
    let a = bind_ok _ _ x h in
    let b = bind_ok _ _ x a.2 in
    let c = bind_ok _ _ x b.2 in
    let e = bind_ok _ _ x c.2 in
    let z = bind_ok _ _ x e.2 in
    record {
      members = a.0;
      is_object = is_object path d a.0 a.1;
      has_each = rw (is_there _ _ _ d b.0 b.1, is_there _ _ _ d c.0 c.1, is_there _ _ _ d e.0 e.1) refl;
      has_no_other = has_no_other path _ a.0 z.1;
    }

pub topology_has_just : TopologyHasJust
unfolding topology_at
topology_has_just path d x h =
    let a = bind_ok _ _ x h in
    let b = bind_ok _ _ x a.2 in
    let c = bind_ok _ _ x b.2 in
    let e = bind_ok _ _ x c.2 in
    let z = bind_ok _ _ x e.2 in
    record {
      members = a.0;
      is_object = is_object path d a.0 a.1;
      has_each = rw (is_there _ _ _ d b.0 b.1, is_there _ _ _ d c.0 c.1, is_there _ _ _ d e.0 e.1) refl;
      has_no_other = has_no_other path _ a.0 z.1;
    }

pub network_has_just : NetworkHasJust
unfolding network_at
network_has_just path d x h =
    let a = bind_ok _ _ x h in
    let b = bind_ok _ _ x a.2 in
    let c = bind_ok _ _ x b.2 in
    let e = bind_ok _ _ x c.2 in
    let f = bind_ok (optional_all name_at path (codes "policies") d) _ x e.2 in
    let z = bind_ok _ _ x f.2 in
    record {
      members = a.0;
      is_object = is_object path d a.0 a.1;
      has_each = rw (is_there _ _ _ d b.0 b.1, is_there _ _ _ d c.0 c.1, is_there _ _ _ d e.0 e.1) refl;
      has_no_other = has_no_other path _ a.0 z.1;
    }

pub port_has_just : PortHasJust
unfolding port_at
port_has_just path d x h =
    let a = bind_ok _ _ x h in
    let b = bind_ok _ _ x a.2 in
    let c = bind_ok _ _ x b.2 in
    let e = bind_ok _ _ x c.2 in
    let f = bind_ok _ _ x e.2 in
    let g = bind_ok _ _ x f.2 in
    let z = bind_ok _ _ x g.2 in
    record {
      members = a.0;
      is_object = is_object path d a.0 a.1;
      has_each = rw (is_there _ _ _ d b.0 b.1, is_there _ _ _ d c.0 c.1, is_there _ _ _ d e.0 e.1, is_there _ _ _ d f.0 f.1, is_there _ _ _ d g.0 g.1) refl;
      has_no_other = has_no_other path _ a.0 z.1;
    }

pub policy_has_just : PolicyHasJust
unfolding policy_at
policy_has_just path d x h =
    let a = bind_ok _ _ x h in
    let b = bind_ok _ _ x a.2 in
    let c = bind_ok _ _ x b.2 in
    let e = bind_ok _ _ x c.2 in
    let z = bind_ok _ _ x e.2 in
    record {
      members = a.0;
      is_object = is_object path d a.0 a.1;
      has_each = rw (is_there _ _ _ d b.0 b.1, is_there _ _ _ d c.0 c.1, is_there _ _ _ d e.0 e.1) refl;
      has_no_other = has_no_other path _ a.0 z.1;
    }

pub service_has_just : ServiceHasJust
unfolding service_at
service_has_just path d x h =
    let a = bind_ok _ _ x h in
    let b = bind_ok _ _ x a.2 in
    let c = bind_ok _ _ x b.2 in
    let e = bind_ok _ _ x c.2 in
    let z = bind_ok _ _ x e.2 in
    record {
      members = a.0;
      is_object = is_object path d a.0 a.1;
      has_each = rw (is_there _ _ _ d b.0 b.1, is_there _ _ _ d c.0 c.1, is_there _ _ _ d e.0 e.1) refl;
      has_no_other = has_no_other path _ a.0 z.1;
    }

pub chain_has_just : ChainHasJust
unfolding chain_at
chain_has_just path d x h =
    let a = bind_ok _ _ x h in
    let b = bind_ok _ _ x a.2 in
    let c = bind_ok _ _ x b.2 in
    let z = bind_ok _ _ x c.2 in
    record {
      members = a.0;
      is_object = is_object path d a.0 a.1;
      has_each = rw (is_there _ _ _ d b.0 b.1, is_there _ _ _ d c.0 c.1) refl;
      has_no_other = has_no_other path _ a.0 z.1;
    }

pub config_has_just : ConfigHasJust
unfolding config_at
config_has_just path d x h =
    let a = bind_ok _ _ x h in
    let b = bind_ok (optional_all network_at path (codes "networks") d) _ x a.2 in
    let c = bind_ok (optional_all port_at path (codes "ports") d) _ x b.2 in
    let e = bind_ok (optional_all policy_at path (codes "policies") d) _ x c.2 in
    let f = bind_ok (optional_all service_at path (codes "services") d) _ x e.2 in
    let g = bind_ok (optional_all chain_at path (codes "chains") d) _ x f.2 in
    let z = bind_ok _ _ x g.2 in
    record {
      members = a.0;
      is_object = is_object path d a.0 a.1;
      has_each = refl;
      has_no_other = has_no_other path _ a.0 z.1;
    }

pub packet_has_just : PacketHasJust
unfolding packet_at
packet_has_just path d x h =
    let a = bind_ok _ _ x h in
    let b = bind_ok _ _ x a.2 in
    let c = bind_ok _ _ x b.2 in
    let e = bind_ok _ _ x c.2 in
    let f = bind_ok _ _ x e.2 in
    let g = bind_ok _ _ x f.2 in
    let z = bind_ok _ _ x g.2 in
    record {
      members = a.0;
      is_object = is_object path d a.0 a.1;
      has_each = rw (is_there _ _ _ d b.0 b.1, is_there _ _ _ d c.0 c.1, is_there _ _ _ d e.0 e.1, is_there _ _ _ d f.0 f.1, is_there _ _ _ d g.0 g.1) refl;
      has_no_other = has_no_other path _ a.0 z.1;
    }

pub compile_has_just : CompileHasJust
unfolding compile_at
compile_has_just path d x h =
    let a = bind_ok _ _ x h in
    let b = bind_ok _ _ x a.2 in
    let c = bind_ok _ _ x b.2 in
    let z = bind_ok _ _ x c.2 in
    record {
      members = a.0;
      is_object = is_object path d a.0 a.1;
      has_each = rw (is_there _ _ _ d b.0 b.1, is_there _ _ _ d c.0 c.1) refl;
      has_no_other = has_no_other path _ a.0 z.1;
    }

pub reach_has_just : ReachHasJust
unfolding reach_at
reach_has_just path d x h =
    let a = bind_ok _ _ x h in
    let b = bind_ok _ _ x a.2 in
    let c = bind_ok _ _ x b.2 in
    let e = bind_ok _ _ x c.2 in
    let z = bind_ok _ _ x e.2 in
    record {
      members = a.0;
      is_object = is_object path d a.0 a.1;
      has_each = rw (is_there _ _ _ d b.0 b.1, is_there _ _ _ d c.0 c.1, is_there _ _ _ d e.0 e.1) refl;
      has_no_other = has_no_other path _ a.0 z.1;
    }

-- what the action asks of a rule's members
abbrev HasChain : Data → Action → Type 0
HasChain d Pass = Unit {0}
HasChain d Deny = Unit {0}
HasChain d (Through chain number) = (is_some (get (codes "chain") d) ≡ true) × (is_some (get (codes "use") d) ≡ true)

through_has : (path : List ℕ) (d : Data) (x : Action) → through_at path d ≡ Ok x → HasChain d x
unfolding through_at
through_has path d x h =
    let a = bind_ok _ _ x h in
    let b = bind_ok _ _ x a.2 in
    let same : Through a.0 b.0 ≡ x = cc in
    subst (HasChain d) same (is_there _ _ _ d a.0 a.1, is_there _ _ _ d b.0 b.1)

from_has : (path : List ℕ) (d : Data) (text : List ℕ) (x : Action) → action_from path d text ≡ Ok x → HasChain d x
from_has path d text x h =
    elim (cases_Bool (pointwise nat_eq text (codes "pass"))) [
      | inl e ↦ let g : Ok Pass ≡ Ok x = rw e at h in let same : Pass ≡ x = cc in subst (HasChain d) same tt
      | inr e ↦ elim (cases_Bool (pointwise nat_eq text (codes "deny"))) [
        | inl f ↦ let g : Ok Deny ≡ Ok x = rw (e, f) at h in let same : Deny ≡ x = cc in subst (HasChain d) same tt
        | inr f ↦ elim (cases_Bool (pointwise nat_eq text (codes "chain"))) [
          | inl g ↦ through_has path d x (rw (e, f, g) at h)
          | inr g ↦ let no : Err _ ≡ Ok x = rw (e, f, g) at h in absurd (cc)
        ]
      ]
    ]

action_has : (path : List ℕ) (d : Data) (x : Action) → action_at path d ≡ Ok x → (is_some (get (codes "action") d) ≡ true) × HasChain d x
unfolding action_at
action_has path d x h =
    let a = bind_ok _ _ x h in
    (is_there _ _ _ d a.0 a.1, from_has path d a.0 x a.2)

-- the tests of the seven members that each rule has
abbrev has : Data → List ℕ → Bool
has d k = is_some (get k d)

rule_has_each : (d : Data) (x : Action) → list_all (has d) rule_members ≡ true → HasChain d x → list_all (has d) (members_with x) ≡ true
rule_has_each d Pass seven more = seven
rule_has_each d Deny seven more = seven
rule_has_each d (Through chain number) seven more = list_all-append (has d) rule_members chain_members ∙ rw (seven, more.0, more.1) refl

abbrev read_as : {A : Type 0} → A → Result A Fault
read_as x = Ok x

ok_is : {A : Type 0} (a b : A) → read_as a ≡ read_as b → a ≡ b
ok_is a b h = cc

pub rule_has_just : RuleHasJust
unfolding rule_at
rule_has_just path d x h =
    let a = bind_ok _ _ x h in
    let b = bind_ok _ _ x a.2 in
    let c = bind_ok _ _ x b.2 in
    let e = bind_ok _ _ x c.2 in
    let f = bind_ok _ _ x e.2 in
    let g = bind_ok _ _ x f.2 in
    let i = bind_ok _ _ x g.2 in
    let j = bind_ok _ _ x i.2 in
    let z = bind_ok _ _ x j.2 in
    let k = action_has path d j.0 j.1 in
    let same : j.0 ≡ x.action = ap (λ (r : Rule). r.action) (ok_is _ _ z.2) in
    let b-there : is_some (get (codes "direction") d) ≡ true = is_there direction_at path (codes "direction") d b.0 b.1 in
    let c-there : is_some (get (codes "source") d) ≡ true = is_there end_at path (codes "source") d c.0 c.1 in
    let e-there : is_some (get (codes "destination") d) ≡ true = is_there end_at path (codes "destination") d e.0 e.1 in
    let f-there : is_some (get (codes "protocol") d) ≡ true = is_there protocol_at path (codes "protocol") d f.0 f.1 in
    let g-there : is_some (get (codes "source_ports") d) ≡ true = is_there range_at path (codes "source_ports") d g.0 g.1 in
    let i-there : is_some (get (codes "destination_ports") d) ≡ true = is_there range_at path (codes "destination_ports") d i.0 i.1 in
    let j-there : is_some (get (codes "action") d) ≡ true = k.0 in
    let seven : list_all (has d) rule_members ≡ true = rw (b-there, c-there, e-there, f-there, g-there, i-there, j-there) refl in
    subst (λ (y : Action). HasJust (members_with y) [] d) same (record {
      members = a.0;
      is_object = is_object path d a.0 a.1;
      has_each = rule_has_each d j.0 seven k.1;
      has_no_other = rw append-nil (has_no_other path _ a.0 z.1);
    })
