-- What a value reads as is told by the members of records alone.
use Rattle.std.proofs.Common.{◌≡◌, Option, Result, Ok, Err, refl, ap}
use Rattle.serde_json.specs.Data.{Data}
use Rattle.serde_json.specs.Find.{get}
use Rattle.item_wire.specs.declared.fault.Field.{Field}
use Rattle.item_wire.specs.declared.fault.Field.TheVariants as F
use Rattle.item_wire.specs.declared.fault.ItemFault.{ItemFault}
use Rattle.item_wire.specs.declared.fault.ItemFault.TheVariants.{Member, Range}
use Rattle.item_wire.specs.declared.list.Count.TheVariants.{AnyNumber, AtLeastOne, OneToFifteen}
use Rattle.item_wire.specs.declared.member.MemberKind.{MemberKind}
use Rattle.item_wire.specs.declared.member.MemberKind.TheVariants.{Whole, Text, Listed}
use Rattle.item_wire.specs.declared.op.Op.{Op}
use Rattle.item_wire.specs.declared.op.Op.TheVariants as O
use Rattle.item_wire.specs.Entries.{number_from, name_from, any_address_from, node_address_from, prefix_from, network_from, hop_from, rule_from, list_from}
use Rattle.item_wire.specs.Faults.{◌>>=◌, wanted}
use Rattle.item_wire.specs.Members.{name_of, of_kind, in_member}
use Rattle.item_wire.specs.Reading.{hello_of, instance_of, port_of, circuit_of, acl_of, use_of, no_instance_of, no_attach_of, no_acl_of, no_use_of, publish_of, unpublish_of, subscribe_of, unsubscribe_of, route_of, unroute_of, op_from, by_op, item_of}

-- two values have the same members of records
abbrev AreAlike : Data → Data → Type 0
AreAlike d e = (field : Field) → get (name_of field) d ≡ get (name_of field) e

member : {A : Type 0} (kind : MemberKind) (reads : Data → Option A) (d e : Data) → AreAlike d e → (field : Field) → in_member kind reads field d ≡ in_member kind reads field e
unfolding in_member
member kind reads d e alike field =
    ap (λ (o : Option Data). wanted (Member field) (of_kind kind o) >>= λ found. wanted (Range field) (reads found)) (alike field)

goes_on : {A B : Type 0} (r : Result A ItemFault) (f g : A → Result B ItemFault) → ((x : A) → f x ≡ g x) → (r >>= f) ≡ (r >>= g)
goes_on (Ok x) f g h = h x
goes_on (Err fault) f g h = refl

record_of : (op : Op) (d e : Data) → AreAlike d e → by_op op d ≡ by_op op e
unfolding hello_of instance_of port_of circuit_of acl_of use_of no_instance_of no_attach_of no_acl_of no_use_of publish_of unpublish_of subscribe_of unsubscribe_of route_of unroute_of
record_of O.Hello d e h = rw (member Text name_from d e h F.Name) refl
record_of O.Instance d e h = rw (member Listed (list_from AtLeastOne network_from) d e h F.Imports, member Whole (number_from 1 16383) d e h F.Instance) refl
record_of O.Port d e h = rw (member Text any_address_from d e h F.Address, member Whole (number_from 1 16383) d e h F.Instance, member Text node_address_from d e h F.Node, member Whole (number_from 0 524271) d e h F.Port) refl
record_of O.Circuit d e h = rw (member Whole (number_from 32769 131070) d e h F.Circuit, member Text node_address_from d e h F.Node, member Whole (number_from 0 65535) d e h F.Service) refl
record_of O.Acl d e h = rw (member Whole (number_from 1 16383) d e h F.From, member Listed (list_from AnyNumber rule_from) d e h F.Rules, member Listed (list_from AnyNumber prefix_from) d e h F.Subnets, member Whole (number_from 1 16383) d e h F.To) refl
record_of O.Use d e h = rw (member Listed (list_from OneToFifteen hop_from) d e h F.Hops, member Whole (number_from 1 16383) d e h F.Left, member Listed (list_from AnyNumber prefix_from) d e h F.LeftPrefixes, member Whole (number_from 1 16383) d e h F.Right, member Listed (list_from AnyNumber prefix_from) d e h F.RightPrefixes, member Whole (number_from 0 3071) d e h F.Use) refl
record_of O.NoInstance d e h = rw (member Whole (number_from 1 16383) d e h F.Instance) refl
record_of O.NoAttach d e h = rw (member Whole (number_from 16 655358) d e h F.Label) refl
record_of O.NoAcl d e h = rw (member Whole (number_from 1 16383) d e h F.From, member Whole (number_from 1 16383) d e h F.To) refl
record_of O.NoUse d e h = rw (member Whole (number_from 0 3071) d e h F.Use) refl
record_of O.Publish d e h = rw (member Whole (number_from 1 65535) d e h F.Instance, member Whole (number_from 16 655358) d e h F.Label, member Text prefix_from d e h F.Prefix) refl
record_of O.Unpublish d e h = rw (member Whole (number_from 1 65535) d e h F.Instance, member Text prefix_from d e h F.Prefix) refl
record_of O.Subscribe d e h = rw (member Whole (number_from 1 65535) d e h F.Instance) refl
record_of O.Unsubscribe d e h = rw (member Whole (number_from 1 65535) d e h F.Instance) refl
record_of O.Route d e h = rw (member Whole (number_from 1 65535) d e h F.Instance, member Whole (number_from 0 1048575) d e h F.Label, member Text any_address_from d e h F.NextHop, member Text prefix_from d e h F.Prefix) refl
record_of O.Unroute d e h = rw (member Whole (number_from 1 65535) d e h F.Instance, member Text prefix_from d e h F.Prefix) refl

pub others_are_passed_over : (d e : Data) → ((field : Field) → get (name_of field) d ≡ get (name_of field) e) → item_of d ≡ item_of e
unfolding item_of
others_are_passed_over d e h = rw (member Text op_from d e h F.Op) (goes_on (in_member Text op_from F.Op e) (λ op. by_op op d) (λ op. by_op op e) (λ op. record_of op d e h))
