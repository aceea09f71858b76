-- The record of an item weighs no more than the value that reads as it.
use Rattle.std.proofs.Common.{◌≡◌, ℕ, ◌+◌, ◌≤◌, ◌&&◌, Bool, true, false, not, cond, nat_eq, List, [], ◌∷◌, length}
use Rattle.std.proofs.Common.{codes, Option, Some, None, Result, Ok, Err, Ordering, Less, Equal, Greater, refl, sym}
use Rattle.std.proofs.Common.{subst, ap, arith, map}
use Rattle.std.specs.Prelude.{⊤}
use Rattle.std.specs.Ordering.{nat_cmp, is_eq, match_ordering}
use Rattle.std.specs.Cmp.Lexicographic.{slice_cmp, pointwise}
use Rattle.std.proofs.lemmas.Bool.{and_parts}
use Rattle.std.proofs.lemmas.Map.Lookups.{exact_bytes}
use Rattle.serde_json.specs.Data.{Data, null, boolean, number, string, array, object, Members, no_members, member}
use Rattle.serde_json.specs.Find.{get, get_member, as_str}
use Rattle.item_wire.specs.declared.fault.Field.{Field}
use Rattle.item_wire.specs.declared.fault.Field.TheVariants as F
use Rattle.item_wire.specs.declared.fault.ItemFault.{ItemFault}
use Rattle.item_wire.specs.declared.fault.ItemFault.TheVariants.{Member, Range}
use Rattle.item_wire.specs.declared.item.Item.{Item}
use Rattle.item_wire.specs.declared.list.Count.{Count}
use Rattle.item_wire.specs.declared.list.Count.TheVariants.{AnyNumber, AtLeastOne, OneToFifteen}
use Rattle.item_wire.specs.declared.member.MemberKind.{MemberKind}
use Rattle.item_wire.specs.declared.member.MemberKind.TheVariants.{Whole, Text, Listed}
use Rattle.item_wire.specs.declared.op.Op.{Op}
use Rattle.item_wire.specs.declared.op.Op.TheVariants as O
use Rattle.item_wire.specs.Entries.{number_from, name_from, any_address_from, node_address_from, prefix_from}
use Rattle.item_wire.specs.Entries.{network_from, hop_from, rule_from, list_from}
use Rattle.item_wire.specs.Faults.{◌>>=◌, wanted}
use Rattle.item_wire.specs.Members.{name_of, is_of_kind, of_kind, in_member}
use Rattle.item_wire.specs.Reading.{hello_of, instance_of, port_of, circuit_of, acl_of, use_of, no_instance_of}
use Rattle.item_wire.specs.Reading.{no_attach_of, no_acl_of, no_use_of, publish_of, unpublish_of, subscribe_of}
use Rattle.item_wire.specs.Reading.{unsubscribe_of, route_of, unroute_of, op_of, op_if, op_from, by_op, item_of}
use Rattle.item_wire.specs.Records.{number_record, address_record, prefix_record, list_record, import_record}
use Rattle.item_wire.specs.Records.{hop_record, rule_record, record_of}
use Rattle.item_wire.proofs.Weights.{weight, members_weight, member_weight}
use Rattle.item_wire.proofs.EntryWeights.{string_is, same_length, number_weight, name_weight, any_address_weight}
use Rattle.item_wire.proofs.EntryWeights.{node_address_weight, prefix_weight, import_weight, list_weight, hop_weight}
use Rattle.item_wire.proofs.EntryWeights.{rule_weight}

-- ---- members of different names have weights of their own

-- the weight of the first member of a name, with its name
abbrev found_weight : List ℕ → Members → ℕ
found_weight k no_members = 0
found_weight k (member l e ms) =
    match_ordering (slice_cmp nat_cmp k l) (found_weight k ms) (member_weight l e) (found_weight k ms)

abbrev names_weight : List (List ℕ) → Members → ℕ
names_weight [] ms = 0
names_weight (k ∷ ks) ms = found_weight k ms + names_weight ks ms

abbrev is_other : List ℕ → List ℕ → Bool
is_other k l = not (is_eq (slice_cmp nat_cmp k l))

abbrev are_others : List (List ℕ) → List ℕ → Bool
are_others [] l = true
are_others (k ∷ ks) l = is_other k l && are_others ks l

abbrev are_apart : List (List ℕ) → Bool
are_apart [] = true
are_apart (k ∷ ks) = are_others ks k && are_apart ks

by_order : (o : Ordering) (a b : ℕ) → not (is_eq o) ≡ true → match_ordering o a b a ≡ a
by_order Less a b h = refl
by_order Equal a b h = absurd (cc)
by_order Greater a b h = refl

-- a member of another name than all of these plays no part
others_weight : (ks : List (List ℕ)) (l : List ℕ) (e : Data) (ms : Members) → are_others ks l ≡ true
    → names_weight ks (member l e ms) ≡ names_weight ks ms
others_weight [] l e ms h = refl
others_weight (k ∷ ks) l e ms h =
    let p = and_parts (is_other k l) (are_others ks l) h in
    let first = by_order (slice_cmp nat_cmp k l) (found_weight k ms) (member_weight l e) p.0 in
    omega (arith, first, others_weight ks l e ms p.1)

-- of names that are apart at most one is that of a member
one_more : (o : Ordering) (k : List ℕ) (ks : List (List ℕ)) (l : List ℕ) (e : Data) (ms : Members)
    → slice_cmp nat_cmp k l ≡ o → are_others ks k ≡ true
    → names_weight ks (member l e ms) ≤ member_weight l e + names_weight ks ms
    → match_ordering o (found_weight k ms) (member_weight l e) (found_weight k ms) + names_weight ks (member l e ms)
    ≤ member_weight l e + (found_weight k ms + names_weight ks ms)
one_more Less k ks l e ms is h again = omega arith
one_more Equal k ks l e ms is h again =
    let same : k ≡ l = exact_bytes k l is in
    let apart : are_others ks l ≡ true = rw same at h in
    omega (arith, others_weight ks l e ms apart)
one_more Greater k ks l e ms is h again = omega arith

apart_weight : (ks : List (List ℕ)) (l : List ℕ) (e : Data) (ms : Members) → are_apart ks ≡ true
    → names_weight ks (member l e ms) ≤ member_weight l e + names_weight ks ms
apart_weight [] l e ms h = omega arith
apart_weight (k ∷ ks) l e ms h =
    let p = and_parts (are_others ks k) (are_apart ks) h in
    one_more (slice_cmp nat_cmp k l) k ks l e ms refl p.0 (apart_weight ks l e ms p.1)

none_found : (ks : List (List ℕ)) → names_weight ks no_members ≡ 0
none_found [] = refl
none_found (k ∷ ks) = omega (arith, none_found ks)

-- the members of some names are among all
names_fit : (ks : List (List ℕ)) → are_apart ks ≡ true → (ms : Members) → names_weight ks ms ≤ members_weight ms
names_fit ks h no_members = omega (arith, none_found ks)
names_fit ks h (member l e ms) = omega (arith, apart_weight ks l e ms h, names_fit ks h ms)

found_by : (o : Ordering) (k l : List ℕ) (e d : Data) (w : ℕ) (rest : Option Data) → slice_cmp nat_cmp k l ≡ o
    → (rest ≡ Some d → w ≡ member_weight k d)
    → match_ordering o rest (Some e) rest ≡ Some d
    → match_ordering o w (member_weight l e) w ≡ member_weight k d
found_by Less k l e d w rest is f h = f h
found_by Equal k l e d w rest is f h =
    let same : e ≡ d = cc in
    omega (arith, ap (λ (t : List ℕ). length t) (exact_bytes k l is), ap weight same)
found_by Greater k l e d w rest is f h = f h

found_is : (k : List ℕ) (ms : Members) (d : Data) → get_member k ms ≡ Some d
    → found_weight k ms ≡ member_weight k d
found_is k no_members d h = absurd (cc)
found_is k (member l e ms) d h =
    found_by (slice_cmp nat_cmp k l) k l e d (found_weight k ms) (get_member k ms) refl (found_is k ms d) h

-- ---- steps of the reading of a record

record Read {A B : Type 0} (value_of : A → Data) (field : Field) (ms : Members) (f : A → Result B ItemFault)
    (y : B) : Type 0 where
  value : A
  weighs : member_weight (name_of field) (value_of value) ≤ found_weight (name_of field) ms
  then : f value ≡ Ok y

record Step {A B : Type 0} (r : Result A ItemFault) (f : A → Result B ItemFault) (y : B) : Type 0 where
  value : A
  is : r ≡ Ok value
  then : f value ≡ Ok y

step : {A B : Type 0} (r : Result A ItemFault) (f : A → Result B ItemFault) (y : B) → (r >>= f) ≡ Ok y → Step r f y
step (Err e) f y h = absurd (cc)
step (Ok x) f y h = record { value = x; is = refl; then = h }

wanted_is : {A : Type 0} (fault : ItemFault) (o : Option A) (x : A) → wanted fault o ≡ Ok x → o ≡ Some x
wanted_is fault None x h = absurd (cc)
wanted_is fault (Some y) x h = cc

kind_is : (b : Bool) (e d : Data) → cond b (Some e) None ≡ Some d → e ≡ d
kind_is true e d h = cc
kind_is false e d h = absurd (cc)

of_kind_is : (kind : MemberKind) (o : Option Data) (d : Data) → of_kind kind o ≡ Some d → o ≡ Some d
of_kind_is kind None d h = absurd (cc)
of_kind_is kind (Some e) d h = ap (λ (x : Data). Some x) (kind_is (is_of_kind kind e) e d h)

module _ {A : Type 0} (reads : Data → Option A) (value_of : A → Data)
    (fits : (d : Data) (x : A) → reads d ≡ Some x → weight (value_of x) ≤ weight d) where
  in_member_weight : (kind : MemberKind) (field : Field) (ms : Members) (x : A)
      → in_member kind reads field (object ms) ≡ Ok x
      → member_weight (name_of field) (value_of x) ≤ found_weight (name_of field) ms
  unfolding in_member
  in_member_weight kind field ms x h =
      let d = step (wanted (Member field) (of_kind kind (get_member (name_of field) ms))) _ x h in
      let there : get_member (name_of field) ms ≡ Some d.value =
      of_kind_is kind _ d.value (wanted_is (Member field) _ d.value d.is) in
      let gives : reads d.value ≡ Some x = wanted_is (Range field) (reads d.value) x d.then in
      omega (arith, found_is (name_of field) ms d.value there, fits d.value x gives)

  read : {B : Type 0} (kind : MemberKind) (field : Field) (ms : Members) (f : A → Result B ItemFault) (y : B)
      → (in_member kind reads field (object ms) >>= f) ≡ Ok y → Read value_of field ms f y
  read kind field ms f y h =
      let s = step (in_member kind reads field (object ms)) f y h in
      record { value = s.value; weighs = in_member_weight kind field ms s.value s.is; then = s.then }

read_number : {B : Type 0} (low high : ℕ) (field : Field) (ms : Members) (f : ℕ → Result B ItemFault) (y : B)
    → (in_member Whole (number_from low high) field (object ms) >>= f) ≡ Ok y → Read number_record field ms f y
read_number low high field ms f y h =
    read (number_from low high) number_record (number_weight low high) Whole field ms f y h

read_list : {A B : Type 0} (count : Count) (reads : Data → Option A) (value_of : A → Data)
    → ((d : Data) (x : A) → reads d ≡ Some x → weight (value_of x) ≤ weight d)
    → (field : Field) (ms : Members) (f : List A → Result B ItemFault) (y : B)
    → (in_member Listed (list_from count reads) field (object ms) >>= f) ≡ Ok y
    → Read (list_record value_of) field ms f y
read_list count reads value_of each field ms f y h =
    read (list_from count reads) (list_record value_of) (list_weight reads value_of each count) Listed field ms f y h

-- ---- the op

abbrev op_name : Op → List ℕ
op_name O.Hello = codes "hello"
op_name O.Instance = codes "instance"
op_name O.Port = codes "port"
op_name O.Circuit = codes "circuit"
op_name O.Acl = codes "acl"
op_name O.Use = codes "use"
op_name O.NoInstance = codes "no-instance"
op_name O.NoAttach = codes "no-attach"
op_name O.NoAcl = codes "no-acl"
op_name O.NoUse = codes "no-use"
op_name O.Publish = codes "publish"
op_name O.Unpublish = codes "unpublish"
op_name O.Subscribe = codes "subscribe"
op_name O.Unsubscribe = codes "unsubscribe"
op_name O.Route = codes "route"
op_name O.Unroute = codes "unroute"

abbrev op_record : Op → Data
op_record op = string (op_name op)

abbrev Names : List ℕ → Option Op → Type 0
Names text None = ⊤
Names text (Some op) = length (op_name op) ≡ length text

named_so : (text : List ℕ) (b : Bool) (op : Op) (o : Option Op) → (b ≡ true → length text ≡ length (op_name op))
    → Names text o → Names text (cond b (Some op) o)
named_so text true op o f h = sym (f refl)
named_so text false op o f h = h

named : (text : List ℕ) (op : Op) (o : Option Op) → Names text o
    → Names text (cond (pointwise nat_eq text (op_name op)) (Some op) o)
named text op o h = named_so text (pointwise nat_eq text (op_name op)) op o (same_length text (op_name op)) h

op_names : (text : List ℕ) → Names text (op_of text)
op_names text =
    named text O.Hello _ (named text O.Instance _ (named text O.Port _ (named text O.Circuit _
    (named text O.Acl _ (named text O.Use _ (named text O.NoInstance _ (named text O.NoAttach _
    (named text O.NoAcl _ (named text O.NoUse _ (named text O.Publish _ (named text O.Unpublish _
    (named text O.Subscribe _ (named text O.Unsubscribe _ (named text O.Route _
    (named text O.Unroute None tt)))))))))))))))

op_weight_of : (d : Data) (o : Option (List ℕ)) (op : Op) → as_str d ≡ o → op_if o ≡ Some op
    → weight (op_record op) ≤ weight d
op_weight_of d None op e h = absurd (cc)
op_weight_of d (Some text) op e h = omega (arith, ap weight (string_is d text e), subst (Names text) h (op_names text))

op_weight : (d : Data) (op : Op) → op_from d ≡ Some op → weight (op_record op) ≤ weight d
unfolding op_from
op_weight d op h = op_weight_of d (as_str d) op refl h

-- ---- records

-- the members of some fields are among all
fields_fit : (fields : List Field) → are_apart (map name_of fields) ≡ true → (ms : Members)
    → names_weight (map name_of fields) ms ≤ members_weight ms
fields_fit fields h ms = names_fit (map name_of fields) h ms

-- where the op of an item is among the members, its record weighs no more than they
abbrev Within : Members → Op → Item → Type 0
Within ms op i =
    member_weight (codes "op") (op_record op) ≤ found_weight (codes "op") ms
    → weight (record_of i) ≤ 1 + members_weight ms

-- what a reading gives
abbrev given : Item → Result Item ItemFault
given i = Ok i

that_item : (ms : Members) (i j : Item) → given i ≡ given j → weight (record_of i) ≤ 1 + members_weight ms
    → weight (record_of j) ≤ 1 + members_weight ms
that_item ms i j h w = let e : i ≡ j = cc in subst (λ (x : Item). weight (record_of x) ≤ 1 + members_weight ms) e w

hello : (ms : Members) (i : Item) → hello_of (object ms) ≡ Ok i → Within ms O.Hello i
unfolding hello_of
hello ms i h op =
    let a = read name_from string name_weight Text F.Name ms _ i h in
    let all = fields_fit (F.Name ∷ F.Op ∷ []) refl ms in
    that_item ms _ i a.then (omega (arith, op, a.weighs, all))

instance : (ms : Members) (i : Item) → instance_of (object ms) ≡ Ok i → Within ms O.Instance i
unfolding instance_of
instance ms i h op =
    let a = read_list AtLeastOne network_from import_record import_weight F.Imports ms _ i h in
    let b = read_number 1 16383 F.Instance ms _ i a.then in
    let all = fields_fit (F.Imports ∷ F.Instance ∷ F.Op ∷ []) refl ms in
    that_item ms _ i b.then (omega (arith, op, a.weighs, b.weighs, all))

port : (ms : Members) (i : Item) → port_of (object ms) ≡ Ok i → Within ms O.Port i
unfolding port_of
port ms i h op =
    let a = read any_address_from address_record any_address_weight Text F.Address ms _ i h in
    let b = read_number 1 16383 F.Instance ms _ i a.then in
    let c = read node_address_from address_record node_address_weight Text F.Node ms _ i b.then in
    let d = read_number 0 524271 F.Port ms _ i c.then in
    let all = fields_fit (F.Address ∷ F.Instance ∷ F.Node ∷ F.Op ∷ F.Port ∷ []) refl ms in
    that_item ms _ i d.then (omega (arith, op, a.weighs, b.weighs, c.weighs, d.weighs, all))

circuit : (ms : Members) (i : Item) → circuit_of (object ms) ≡ Ok i → Within ms O.Circuit i
unfolding circuit_of
circuit ms i h op =
    let a = read_number 32769 131070 F.Circuit ms _ i h in
    let b = read node_address_from address_record node_address_weight Text F.Node ms _ i a.then in
    let c = read_number 0 65535 F.Service ms _ i b.then in
    let all = fields_fit (F.Circuit ∷ F.Node ∷ F.Op ∷ F.Service ∷ []) refl ms in
    that_item ms _ i c.then (omega (arith, op, a.weighs, b.weighs, c.weighs, all))

acl : (ms : Members) (i : Item) → acl_of (object ms) ≡ Ok i → Within ms O.Acl i
unfolding acl_of
acl ms i h op =
    let a = read_number 1 16383 F.From ms _ i h in
    let b = read_list AnyNumber rule_from rule_record rule_weight F.Rules ms _ i a.then in
    let c = read_list AnyNumber prefix_from prefix_record prefix_weight F.Subnets ms _ i b.then in
    let d = read_number 1 16383 F.To ms _ i c.then in
    let all = fields_fit (F.From ∷ F.Op ∷ F.Rules ∷ F.Subnets ∷ F.To ∷ []) refl ms in
    that_item ms _ i d.then (omega (arith, op, a.weighs, b.weighs, c.weighs, d.weighs, all))

use_ : (ms : Members) (i : Item) → use_of (object ms) ≡ Ok i → Within ms O.Use i
unfolding use_of
use_ ms i h op =
    let a = read_list OneToFifteen hop_from hop_record hop_weight F.Hops ms _ i h in
    let b = read_number 1 16383 F.Left ms _ i a.then in
    let c = read_list AnyNumber prefix_from prefix_record prefix_weight F.LeftPrefixes ms _ i b.then in
    let d = read_number 1 16383 F.Right ms _ i c.then in
    let e = read_list AnyNumber prefix_from prefix_record prefix_weight F.RightPrefixes ms _ i d.then in
    let f = read_number 0 3071 F.Use ms _ i e.then in
    let all = fields_fit (F.Hops ∷ F.Left ∷ F.LeftPrefixes ∷ F.Op ∷ F.Right ∷ F.RightPrefixes ∷ F.Use ∷ []) refl ms in
    that_item ms _ i f.then (omega (arith, op, a.weighs, b.weighs, c.weighs, d.weighs, e.weighs, f.weighs, all))

no_instance : (ms : Members) (i : Item) → no_instance_of (object ms) ≡ Ok i → Within ms O.NoInstance i
unfolding no_instance_of
no_instance ms i h op =
    let a = read_number 1 16383 F.Instance ms _ i h in
    let all = fields_fit (F.Instance ∷ F.Op ∷ []) refl ms in
    that_item ms _ i a.then (omega (arith, op, a.weighs, all))

no_attach : (ms : Members) (i : Item) → no_attach_of (object ms) ≡ Ok i → Within ms O.NoAttach i
unfolding no_attach_of
no_attach ms i h op =
    let a = read_number 16 655358 F.Label ms _ i h in
    let all = fields_fit (F.Label ∷ F.Op ∷ []) refl ms in
    that_item ms _ i a.then (omega (arith, op, a.weighs, all))

no_acl : (ms : Members) (i : Item) → no_acl_of (object ms) ≡ Ok i → Within ms O.NoAcl i
unfolding no_acl_of
no_acl ms i h op =
    let a = read_number 1 16383 F.From ms _ i h in
    let b = read_number 1 16383 F.To ms _ i a.then in
    let all = fields_fit (F.From ∷ F.Op ∷ F.To ∷ []) refl ms in
    that_item ms _ i b.then (omega (arith, op, a.weighs, b.weighs, all))

no_use : (ms : Members) (i : Item) → no_use_of (object ms) ≡ Ok i → Within ms O.NoUse i
unfolding no_use_of
no_use ms i h op =
    let a = read_number 0 3071 F.Use ms _ i h in
    let all = fields_fit (F.Op ∷ F.Use ∷ []) refl ms in
    that_item ms _ i a.then (omega (arith, op, a.weighs, all))

publish : (ms : Members) (i : Item) → publish_of (object ms) ≡ Ok i → Within ms O.Publish i
unfolding publish_of
publish ms i h op =
    let a = read_number 1 65535 F.Instance ms _ i h in
    let b = read_number 16 655358 F.Label ms _ i a.then in
    let c = read prefix_from prefix_record prefix_weight Text F.Prefix ms _ i b.then in
    let all = fields_fit (F.Instance ∷ F.Label ∷ F.Op ∷ F.Prefix ∷ []) refl ms in
    that_item ms _ i c.then (omega (arith, op, a.weighs, b.weighs, c.weighs, all))

unpublish : (ms : Members) (i : Item) → unpublish_of (object ms) ≡ Ok i → Within ms O.Unpublish i
unfolding unpublish_of
unpublish ms i h op =
    let a = read_number 1 65535 F.Instance ms _ i h in
    let b = read prefix_from prefix_record prefix_weight Text F.Prefix ms _ i a.then in
    let all = fields_fit (F.Instance ∷ F.Op ∷ F.Prefix ∷ []) refl ms in
    that_item ms _ i b.then (omega (arith, op, a.weighs, b.weighs, all))

subscribe : (ms : Members) (i : Item) → subscribe_of (object ms) ≡ Ok i → Within ms O.Subscribe i
unfolding subscribe_of
subscribe ms i h op =
    let a = read_number 1 65535 F.Instance ms _ i h in
    let all = fields_fit (F.Instance ∷ F.Op ∷ []) refl ms in
    that_item ms _ i a.then (omega (arith, op, a.weighs, all))

unsubscribe : (ms : Members) (i : Item) → unsubscribe_of (object ms) ≡ Ok i → Within ms O.Unsubscribe i
unfolding unsubscribe_of
unsubscribe ms i h op =
    let a = read_number 1 65535 F.Instance ms _ i h in
    let all = fields_fit (F.Instance ∷ F.Op ∷ []) refl ms in
    that_item ms _ i a.then (omega (arith, op, a.weighs, all))

route : (ms : Members) (i : Item) → route_of (object ms) ≡ Ok i → Within ms O.Route i
unfolding route_of
route ms i h op =
    let a = read_number 1 65535 F.Instance ms _ i h in
    let b = read_number 0 1048575 F.Label ms _ i a.then in
    let c = read any_address_from address_record any_address_weight Text F.NextHop ms _ i b.then in
    let d = read prefix_from prefix_record prefix_weight Text F.Prefix ms _ i c.then in
    let all = fields_fit (F.Instance ∷ F.Label ∷ F.NextHop ∷ F.Op ∷ F.Prefix ∷ []) refl ms in
    that_item ms _ i d.then (omega (arith, op, a.weighs, b.weighs, c.weighs, d.weighs, all))

unroute : (ms : Members) (i : Item) → unroute_of (object ms) ≡ Ok i → Within ms O.Unroute i
unfolding unroute_of
unroute ms i h op =
    let a = read_number 1 65535 F.Instance ms _ i h in
    let b = read prefix_from prefix_record prefix_weight Text F.Prefix ms _ i a.then in
    let all = fields_fit (F.Instance ∷ F.Op ∷ F.Prefix ∷ []) refl ms in
    that_item ms _ i b.then (omega (arith, op, a.weighs, b.weighs, all))

by_op_weight : (op : Op) (ms : Members) (i : Item) → by_op op (object ms) ≡ Ok i → Within ms op i
by_op_weight O.Hello = hello
by_op_weight O.Instance = instance
by_op_weight O.Port = port
by_op_weight O.Circuit = circuit
by_op_weight O.Acl = acl
by_op_weight O.Use = use_
by_op_weight O.NoInstance = no_instance
by_op_weight O.NoAttach = no_attach
by_op_weight O.NoAcl = no_acl
by_op_weight O.NoUse = no_use
by_op_weight O.Publish = publish
by_op_weight O.Unpublish = unpublish
by_op_weight O.Subscribe = subscribe
by_op_weight O.Unsubscribe = unsubscribe
by_op_weight O.Route = route
by_op_weight O.Unroute = unroute

-- what is no object has no op
op_missing : (d : Data) (i : Item) → get (codes "op") d ≡ None → item_of d ≡ Ok i → ⊥
unfolding item_of in_member
op_missing d i none h = let g : Err (Member F.Op) ≡ Ok i = rw none at h in cc

pub item_weight : (d : Data) (i : Item) → item_of d ≡ Ok i → weight (record_of i) ≤ weight d
unfolding item_of
item_weight null i h = absurd (op_missing null i refl h)
item_weight (boolean b) i h = absurd (op_missing (boolean b) i refl h)
item_weight (number n) i h = absurd (op_missing (number n) i refl h)
item_weight (string s) i h = absurd (op_missing (string s) i refl h)
item_weight (array ds) i h = absurd (op_missing (array ds) i refl h)
item_weight (object ms) i h =
    let op = read op_from op_record op_weight Text F.Op ms (λ op. by_op op (object ms)) i h in
    by_op_weight op.value ms i op.then op.weighs
