-- What is read from a value is written in no more than the value weighs.
use Rattle.std.proofs.Common.{◌≡◌, ℕ, ◌+◌, ◌≤◌, ◌==◌, Bool, true, false, cond, nat_eq, nat_le, List, [], ◌∷◌, length}
use Rattle.std.proofs.Common.{map, codes, decimal, Option, Some, None, refl, sym, subst, ap, ◌∙◌, arith}
use Rattle.std.proofs.lemmas.Bool.{and_parts, eqb-true}
use Rattle.std.specs.Prelude.{⊤}
use Rattle.std.specs.Cmp.Lexicographic.{pointwise}
use Rattle.serde_json.specs.Data.{unsigned, negative, float, Data, null, boolean, number, string, array, object, Items}
use Rattle.serde_json.specs.Data.{no_items, item}
use Rattle.serde_json.specs.Events.{items_len}
use Rattle.serde_json.specs.Find.{at, as_str, as_array}
use Rattle.serde_json.specs.View.{items_of}
use Rattle.ov_types.specs.Name.{is_name}
use Rattle.ov_types.specs.Prefix.{Block}
use Rattle.ov_types.specs.Texts.{address_text, prefix_text}
use Rattle.ov_types.specs.declared.numbers.InstanceId.{InstanceId}
use Rattle.ov_types.specs.declared.numbers.ServiceNo.{ServiceNo}
use Rattle.ov_types.specs.declared.objects.AclAction.{AclAction}
use Rattle.ov_types.specs.declared.objects.AclAction.TheVariants.{Pass, Deny, Enter}
use Rattle.ov_types.specs.declared.objects.AclRule.{AclRule}
use Rattle.ov_types.specs.declared.packet.Range16.{Range16}
use Rattle.ov_types.specs.declared.packet.RuleNo.{RuleNo}
use Rattle.ov_types.specs.declared.prefix.Addr.{Addr}
use Rattle.item_wire.specs.declared.list.Count.{Count}
use Rattle.ov_types.specs.Written.{address_of, block_of}
use Rattle.item_wire.specs.Entries.{◌>>=◌, kept, is_from_to, number_from, name_from, address_from, any_address_from}
use Rattle.item_wire.specs.Entries.{node_address_from, prefix_from, all_from, counted, allows, list_from, network_from}
use Rattle.item_wire.specs.Entries.{counts, has_items, in_place, hop_from, protocol_from, ports_from, action_named}
use Rattle.item_wire.specs.Entries.{action_of, action_from, rule_number_from, rule_from}
use Rattle.item_wire.specs.Records.{number_record, address_record, prefix_record, list_record, import_record}
use Rattle.item_wire.specs.Records.{hop_record, protocol_record, action_record, rule_record}
use Rattle.ov_types.proofs.OneText.{address_has_one_text, prefix_has_one_text}
use Rattle.item_wire.proofs.Weights.{weight, items_weight}

-- ---- steps of a reading that gave something

record Step {A B : Type 0} (o : Option A) (f : A → Option B) (y : B) : Type 0 where
  value : A
  is : o ≡ Some value
  then : f value ≡ Some y

step : {A B : Type 0} (o : Option A) (f : A → Option B) (y : B) → (o >>= f) ≡ Some y → Step o f y
step None f y h = absurd (cc)
step (Some x) f y h = record { value = x; is = refl; then = h }

some_is : {A : Type 0} (x y : A) → Some x ≡ Some y → x ≡ y
some_is x y h = cc

kept_is : {A : Type 0} (b : Bool) (x y : A) → kept b x ≡ Some y → (b ≡ true) × (x ≡ y)
kept_is true x y h = (refl, cc)
kept_is false x y h = absurd (cc)

-- ---- values of one token

pub string_is : (d : Data) (s : List ℕ) → as_str d ≡ Some s → d ≡ string s
string_is null s h = absurd (cc)
string_is (boolean b) s h = absurd (cc)
string_is (number n) s h = absurd (cc)
string_is (string t) s h = cc
string_is (array ds) s h = absurd (cc)
string_is (object ms) s h = absurd (cc)

array_is : (d : Data) (ds : Items) → as_array d ≡ Some ds → d ≡ array ds
array_is null ds h = absurd (cc)
array_is (boolean b) ds h = absurd (cc)
array_is (number n) ds h = absurd (cc)
array_is (string t) ds h = absurd (cc)
array_is (array es) ds h = cc
array_is (object ms) ds h = absurd (cc)

pub number_weight : (low high : ℕ) (d : Data) (n : ℕ) → number_from low high d ≡ Some n
    → weight (number_record n) ≤ weight d
unfolding number_from
number_weight low high null n h = absurd (cc)
number_weight low high (boolean b) n h = absurd (cc)
number_weight low high (number (unsigned k)) n h =
    let e = kept_is (is_from_to low high k) k n h in
    omega (arith, ap (λ (x : ℕ). length (decimal x)) e.1)
number_weight low high (number (negative z)) n h = absurd (cc)
number_weight low high (number (float x)) n h = absurd (cc)
number_weight low high (string s) n h = absurd (cc)
number_weight low high (array ds) n h = absurd (cc)
number_weight low high (object ms) n h = absurd (cc)

pub name_weight : (d : Data) (text : List ℕ) → name_from d ≡ Some text → weight (string text) ≤ weight d
unfolding name_from
name_weight d text h =
    let s = step (as_str d) (λ t. kept (is_name t) t) text h in
    let same : s.value ≡ text = (kept_is (is_name s.value) s.value text s.then).1 in
    omega (arith, ap weight (string_is d s.value s.is), ap (λ (t : List ℕ). length t) same)

address_weight : (low high : ℕ) (d : Data) (a : Addr) → address_from low high d ≡ Some a
    → weight (address_record a) ≤ weight d
unfolding address_from
address_weight low high d a h =
    let s = step (as_str d) _ a h in
    let n = step (address_of s.value) _ a s.then in
    let same : n.value ≡ a.0 = ap (λ (x : Addr). x.0) (kept_is (is_from_to low high n.value) _ a n.then).1 in
    let text : s.value ≡ address_text n.value = ((address_has_one_text s.value n.value).0 n.is).1 in
    omega (arith, ap weight (string_is d s.value s.is), ap (λ (t : List ℕ). length t) (text ∙ ap address_text same))

pub any_address_weight : (d : Data) (a : Addr) → any_address_from d ≡ Some a → weight (address_record a) ≤ weight d
any_address_weight = address_weight 0 0xffff_ffff

pub node_address_weight : (d : Data) (a : Addr) → node_address_from d ≡ Some a → weight (address_record a) ≤ weight d
node_address_weight = address_weight 0x0100_0000 0xdfff_ffff

pub prefix_weight : (d : Data) (b : Block) → prefix_from d ≡ Some b → weight (prefix_record b) ≤ weight d
unfolding prefix_from
prefix_weight d b h =
    let s = step (as_str d) block_of b h in
    let text : s.value ≡ prefix_text b = ((prefix_has_one_text s.value b).0 s.then).2 in
    omega (arith, ap weight (string_is d s.value s.is), ap (λ (t : List ℕ). length t) text)

pub import_weight : (d : Data) (i : InstanceId) → network_from d ≡ Some i → weight (import_record i) ≤ weight d
unfolding network_from
import_weight d i h =
    let s = step (number_from 1 16383 d) _ i h in
    let e : record { 0 = s.value } ≡ i = cc (s.then) in
    subst (λ (x : InstanceId). weight (import_record x) ≤ weight d) e (number_weight 1 16383 d s.value s.is)

-- ---- lists

module _ {A : Type 0} (reads : Data → Option A) (value_of : A → Data)
    (each : (d : Data) (x : A) → reads d ≡ Some x → weight (value_of x) ≤ weight d) where
  all_weight : (later : Bool) (ds : Items) (xs : List A) → all_from reads ds ≡ Some xs
      → items_weight later (items_of (map value_of xs)) ≤ items_weight later ds
  unfolding all_from
  all_weight later no_items xs h =
      let e : [] ≡ xs = cc in
      subst (λ (ys : List A). items_weight later (items_of (map value_of ys)) ≤ 1) e (omega arith)
  all_weight later (item d ds) xs h =
      let first = step (reads d) _ xs h in
      let others = step (all_from reads ds) _ xs first.then in
      let e : first.value ∷ others.value ≡ xs = cc (others.then) in
      subst (λ (ys : List A). items_weight later (items_of (map value_of ys)) ≤ items_weight later (item d ds)) e
      (omega (arith, each d first.value first.is, all_weight true ds others.value others.is))

  counted_is : (count : Count) (o : Option Items) (ds : Items) → counted count o ≡ Some ds → o ≡ Some ds
  counted_is count None ds h = absurd (cc)
  counted_is count (Some es) ds h = ap (λ (x : Items). Some x) (kept_is (allows count (items_len es)) es ds h).1

  pub list_weight : (count : Count) (d : Data) (xs : List A) → list_from count reads d ≡ Some xs
      → weight (list_record value_of xs) ≤ weight d
  unfolding list_from
  list_weight count d xs h =
      let s = step (counted count (as_array d)) (all_from reads) xs h in
      let listed = array_is d s.value (counted_is count (as_array d) s.value s.is) in
      omega (arith, ap weight listed, all_weight false s.value xs s.then)

-- ---- lists of a fixed number of items

has_so_many : (n : ℕ) (o : Option Items) → counts n o ≡ true → (ds : Items) × (o ≡ Some ds) × (items_len ds ≡ n)
has_so_many n None h = absurd (cc)
has_so_many n (Some ds) h = (ds, refl, eqb-true (items_len ds) n h)

-- the items that a list has
abbrev pair : Data → Data → Data
pair a b = array (item a (item b no_items))

abbrev IsPair : Data → Type 0
IsPair d = (a : Data) × (b : Data) × (d ≡ pair a b)

two_items : (ds : Items) → items_len ds ≡ 2 → IsPair (array ds)
two_items (item a (item b no_items)) e = (a, b, refl)
two_items ds e = absurd (omega arith)

is_pair : (d : Data) → has_items 2 d ≡ true → IsPair d
is_pair d h =
    let l = has_so_many 2 (as_array d) h in
    subst IsPair (sym (array_is d l.0 l.1)) (two_items l.0 l.2)

in_place_is : {A : Type 0} (i : ℕ) (reads : Data → Option A) (d e : Data) (x : A) → at i d ≡ Some e
    → in_place i reads d ≡ Some x → reads e ≡ Some x
unfolding in_place
in_place_is i reads d e x found h = rw found at h

hop_weight_of : (a b : Data) (h : ServiceNo × Addr) → hop_from (pair a b) ≡ Some h
    → weight (hop_record h) ≤ weight (pair a b)
unfolding hop_from
hop_weight_of a b h e =
    let service = step (in_place 0 (number_from 0 65535) (pair a b)) _ h e in
    let node = step (in_place 1 node_address_from (pair a b)) _ h service.then in
    let s : weight (number_record service.value) ≤ weight a =
    number_weight 0 65535 a service.value
    (in_place_is 0 (number_from 0 65535) (pair a b) a service.value refl service.is) in
    let n : weight (address_record node.value) ≤ weight b =
    node_address_weight b node.value (in_place_is 1 node_address_from (pair a b) b node.value refl node.is) in
    let same : (record { 0 = service.value }, node.value) ≡ h = cc (node.then) in
    subst (λ (x : ServiceNo × Addr). weight (hop_record x) ≤ weight (pair a b)) same (omega arith)

pub hop_weight : (d : Data) (h : ServiceNo × Addr) → hop_from d ≡ Some h → weight (hop_record h) ≤ weight d
unfolding hop_from
hop_weight d h e =
    let two = step (kept (has_items 2 d) d) _ h e in
    let p = is_pair d (kept_is (has_items 2 d) d two.value two.is).0 in
    subst (λ (x : Data). hop_from x ≡ Some h → weight (hop_record h) ≤ weight x) (sym p.2) (hop_weight_of p.0 p.1 h) e

-- ---- rules of access lists

-- texts that agree item by item are of one length
pub same_length : (a b : List ℕ) → pointwise nat_eq a b ≡ true → length a ≡ length b
same_length [] [] h = refl
same_length [] (y ∷ b) h = absurd (cc)
same_length (x ∷ a) [] h = absurd (cc)
same_length (x ∷ a) (y ∷ b) h = omega (arith, same_length a b (and_parts (nat_eq x y) (pointwise nat_eq a b) h).1)

protocol_of : (n : ℕ) (any : Bool) (p : Option ℕ) → (n == 256) ≡ any → cond any None (Some n) ≡ p
    → weight (protocol_record p) ≡ length (decimal n)
protocol_of n true p e h =
    subst (λ (x : Option ℕ). weight (protocol_record x) ≡ length (decimal n)) h
    (ap (λ (x : ℕ). length (decimal x)) (sym (eqb-true n 256 e)))
protocol_of n false p e h = subst (λ (x : Option ℕ). weight (protocol_record x) ≡ length (decimal n)) h refl

protocol_weight : (d : Data) (p : Option ℕ) → protocol_from d ≡ Some p → weight (protocol_record p) ≤ weight d
unfolding protocol_from
protocol_weight d p h =
    let n = step (number_from 0 256 d) _ p h in
    let same : cond (n.value == 256) None (Some n.value) ≡ p = cc (n.then) in
    omega (arith, number_weight 0 256 d n.value n.is, protocol_of n.value (n.value == 256) p refl same)

-- an action that a text names is written as it
abbrev Names : List ℕ → Option AclAction → Type 0
Names text None = ⊤
Names text (Some a) = weight (action_record a) ≡ length text + 2

named_so : (text : List ℕ) (b : Bool) (name : List ℕ) (a : AclAction) (o : Option AclAction)
    → (b ≡ true → length text ≡ length name) → weight (action_record a) ≡ length name + 2 → Names text o
    → Names text (cond b (Some a) o)
named_so text true name a o f e h = omega (arith, f refl, e)
named_so text false name a o f e h = h

action_names : (text : List ℕ) → Names text (action_named text)
action_names text =
    named_so text (pointwise nat_eq text (codes "pass")) (codes "pass") Pass _ (same_length text (codes "pass")) refl
    (named_so text (pointwise nat_eq text (codes "deny")) (codes "deny") Deny None
    (same_length text (codes "deny")) refl tt)

action_weight_of : (d : Data) (o : Option (List ℕ)) (a : AclAction) → as_str d ≡ o → action_of d o ≡ Some a
    → weight (action_record a) ≤ weight d
action_weight_of d (Some text) a e h =
    omega (arith, ap weight (string_is d text e), subst (Names text) h (action_names text))
action_weight_of d None a e h =
    let n = step (number_from 16384 65535 d) _ a h in
    let same : Enter (record { 0 = n.value }) ≡ a = cc (n.then) in
    subst (λ (x : AclAction). weight (action_record x) ≤ weight d) same (number_weight 16384 65535 d n.value n.is)

action_weight : (d : Data) (a : AclAction) → action_from d ≡ Some a → weight (action_record a) ≤ weight d
unfolding action_from
action_weight d a h = action_weight_of d (as_str d) a refl h

abbrev eight : Data → Data → Data → Data → Data → Data → Data → Data → Data
eight a b c d e f g h = array (item a (item b (item c (item d (item e (item f (item g (item h no_items))))))))

record Eight (x : Data) : Type 0 where
  protocol : Data
  least : Data
  greatest : Data
  to_least : Data
  to_greatest : Data
  action : Data
  sequence : Data
  position : Data
  is : x ≡ eight protocol least greatest to_least to_greatest action sequence position

eight_items : (ds : Items) → items_len ds ≡ 8 → Eight (array ds)
eight_items (item a (item b (item c (item d (item e (item f (item g (item h no_items)))))))) k = record {
  protocol = a;
  least = b;
  greatest = c;
  to_least = d;
  to_greatest = e;
  action = f;
  sequence = g;
  position = h;
  is = refl;
}
eight_items ds k = absurd (omega arith)

is_eight : (x : Data) → has_items 8 x ≡ true → Eight x
is_eight x h =
    let l = has_so_many 8 (as_array x) h in
    subst Eight (sym (array_is x l.0 l.1)) (eight_items l.0 l.2)

-- what is read from the eight items, each from its own
module _ (a b c d e f g h : Data) where
  abbrev whole : Data
  whole = eight a b c d e f g h

  ports_weight : (i : ℕ) (lo hi : Data) (r : Range16) → at i whole ≡ Some lo → at (i + 1) whole ≡ Some hi
      → ports_from i whole ≡ Some r
      → (weight (number_record r.lo) ≤ weight lo) × (weight (number_record r.hi) ≤ weight hi)
  unfolding ports_from
  ports_weight i lo hi r at_lo at_hi is =
      let l = step (in_place i (number_from 0 65535) whole) _ r is in
      let m = step (in_place (i + 1) (number_from 0 65535) whole) _ r l.then in
      let same = (kept_is (nat_le l.value m.value) _ r m.then).1 in
      let p : weight (number_record l.value) ≤ weight lo =
      number_weight 0 65535 lo l.value (in_place_is i (number_from 0 65535) whole lo l.value at_lo l.is) in
      let q : weight (number_record m.value) ≤ weight hi =
      number_weight 0 65535 hi m.value (in_place_is (i + 1) (number_from 0 65535) whole hi m.value at_hi m.is) in
      subst (λ (x : Range16). (weight (number_record x.lo) ≤ weight lo) × (weight (number_record x.hi) ≤ weight hi))
      same (p, q)

  rule_number_weight : (n : RuleNo) → rule_number_from whole ≡ Some n
      → (weight (number_record n.sequence) ≤ weight g) × (weight (number_record n.position) ≤ weight h)
  unfolding rule_number_from
  rule_number_weight n is =
      let s = step (in_place 6 (number_from 0 65535) whole) _ n is in
      let t = step (in_place 7 (number_from 1 16) whole) _ n s.then in
      let same : record { sequence = s.value; position = t.value } ≡ n = cc (t.then) in
      let p : weight (number_record s.value) ≤ weight g =
      number_weight 0 65535 g s.value (in_place_is 6 (number_from 0 65535) whole g s.value refl s.is) in
      let q : weight (number_record t.value) ≤ weight h =
      number_weight 1 16 h t.value (in_place_is 7 (number_from 1 16) whole h t.value refl t.is) in
      subst (λ (x : RuleNo). (length (decimal x.sequence) ≤ weight g) × (length (decimal x.position) ≤ weight h)) same
      (p, q)

  rule_weight_of : (r : AclRule) → rule_from whole ≡ Some r → weight (rule_record r) ≤ weight whole
  unfolding rule_from
  rule_weight_of r is =
      let p = step (in_place 0 protocol_from whole) _ r is in
      let s = step (ports_from 1 whole) _ r p.then in
      let t = step (ports_from 3 whole) _ r s.then in
      let u = step (in_place 5 action_from whole) _ r t.then in
      let n = step (rule_number_from whole) _ r u.then in
      let same = some_is _ r n.then in
      let wp = protocol_weight a p.value (in_place_is 0 protocol_from whole a p.value refl p.is) in
      let ws = ports_weight 1 b c s.value refl refl s.is in
      let wt = ports_weight 3 d e t.value refl refl t.is in
      let wu = action_weight f u.value (in_place_is 5 action_from whole f u.value refl u.is) in
      let wn = rule_number_weight n.value n.is in
      subst (λ (x : AclRule). weight (rule_record x) ≤ weight whole) same
      (omega (arith, wp, ws.0, ws.1, wt.0, wt.1, wu, wn.0, wn.1))

pub rule_weight : (d : Data) (r : AclRule) → rule_from d ≡ Some r → weight (rule_record r) ≤ weight d
unfolding rule_from
rule_weight d r e =
    let all = step (kept (has_items 8 d) d) _ r e in
    let x = is_eight d (kept_is (has_items 8 d) d all.value all.is).0 in
    subst (λ (y : Data). rule_from y ≡ Some r → weight (rule_record r) ≤ weight y) (sym x.is)
    (rule_weight_of x.protocol x.least x.greatest x.to_least x.to_greatest x.action x.sequence x.position r) e
