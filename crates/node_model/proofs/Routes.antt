-- What own and re-originated routes are.
use Rattle.std.specs.Prelude.{◌≡◌, ◌⊎◌, ℕ, zero, suc, ◌<◌, List, [], ◌∷◌, ◌++◌, Bool, true, false, cond}
use Rattle.std.specs.declared.option.Option.{Option}
use Rattle.std.specs.declared.option.Option.TheVariants.{Some, None}
use Rattle.std.specs.List.{filter_map, flat_map}
use Rattle.std.specs.FinMap.{get, entries}
use Rattle.std.proofs.lemmas.Option.{same_Some}
use Rattle.std.proofs.Common.{refl, sym, ◌∙◌, ap, subst, inl, inr, arith}
use Rattle.ov_types.specs.Prefix.{Block, host_prefix}
use Rattle.ov_types.specs.declared.numbers.InstanceId.{InstanceId}
use Rattle.ov_types.specs.declared.numbers.Label.{Label as LabelNo}
use Rattle.ov_types.specs.declared.prefix.Addr.{Addr}
use Rattle.route_targets.specs.Numbers.{target_of, distinguisher_of, circuit_instance_of, circuit_address_of}
use Rattle.node_model.specs.Members.{Member}
use Rattle.node_model.specs.Keys.{Key, Low, Vpn, Row, Publish, Subscribe}
use Rattle.node_model.specs.Values.{Value, Object, Route, Entry, Label}
use Rattle.node_model.specs.Maps.{as_label}
use Rattle.node_model.specs.Uses.{is_known}
use Rattle.node_model.specs.Paths.{Holdings, Told, Path, own_path, own_paths, IsOwnRoute, IsPublishedHere}
use Rattle.node_model.specs.Reaching.{Side, sides, subnets, hop_at, circuit_at, published_by, published_in, publisher, is_up, towards, below, into, reoriginated_paths, IsReoriginated}
use Rattle.node_model.proofs.Members.{none_some, in_left, in_right, in_either, from_flat_map, in_flat_map, from_filter_map, in_filter_map, get_member, member_get, member_when}
use Rattle.node_model.proofs.Orders.{key_total, key_exact}

-- ---- own routes
-- what an entry that gives an own route is
record OwnParts (h : Holdings) (a : Told) (k : Key) (v : Value) (p : Path) : Type 0 where
  instance : InstanceId
  key_is : k ≡ Publish instance p.prefix
  value_is : v ≡ Label p.label
  known : is_known h.feed instance ≡ true
  rd : p.rd ≡ distinguisher_of a.address instance
  next_hop : p.next_hop ≡ a.address
  targets : p.targets ≡ target_of h.asn instance ∷ []
  session : p.session ≡ a.session

module _ (h : Holdings) (a : Told) where
  own_parts : (k : Key) (v : Value) (p : Path) → own_path h a k v ≡ Some p → OwnParts h a k v p
  own_parts (Publish i prefix) (Label label) p e =
      elim (is_known h.feed i) as (λ b. is_known h.feed i ≡ b → cond b (own_path_of i prefix label) None ≡ Some p → OwnParts h a (Publish i prefix) (Label label) p) [
        | true ↦ λ known e. known_parts i prefix label known (same_Some _ p e)
        | false ↦ λ known e. absurd (none_some p e)
      ] refl e
    where
      own_path_of : InstanceId → Block → LabelNo → Option Path
      own_path_of i prefix label = Some (record { prefix = prefix; rd = distinguisher_of a.address i; next_hop = a.address; label = label; targets = target_of h.asn i ∷ []; session = a.session })

      known_parts : (i : InstanceId) (prefix : Block) (label : LabelNo) → is_known h.feed i ≡ true
          → ◌≡◌ {A = Path} (record { prefix = prefix; rd = distinguisher_of a.address i; next_hop = a.address; label = label; targets = target_of h.asn i ∷ []; session = a.session }) p
          → OwnParts h a (Publish i prefix) (Label label) p
      known_parts i prefix label known s = record {
        instance = i;
        key_is = λ j. Publish i (s j).prefix;
        value_is = λ j. Label (s j).label;
        known = known;
        rd = λ j. (sym s j).rd;
        next_hop = λ j. (sym s j).next_hop;
        targets = λ j. (sym s j).targets;
        session = λ j. (sym s j).session;
      }
  own_parts (Publish i prefix) (Object o) p e = absurd (none_some p e)
  own_parts (Publish i prefix) (Route r) p e = absurd (none_some p e)
  own_parts (Publish i prefix) (Entry r) p e = absurd (none_some p e)
  own_parts (Low k) v p e = absurd (none_some p e)
  own_parts (Vpn k) v p e = absurd (none_some p e)
  own_parts (Row i prefix) v p e = absurd (none_some p e)
  own_parts (Subscribe i) v p e = absurd (none_some p e)

pub own_route_from : (h : Holdings) (p : Path) → Member p (own_paths h) → IsOwnRoute h p
own_route_from h p m =
    let q = from_flat_map (λ (a : Told). filter_map (λ e. own_path h a e.0 e.1) (entries a.map)) p h.agents m in
    let a : Told = q.0 in
    let e = from_filter_map (λ (e : Key × Value). own_path h a e.0 e.1) p (entries a.map) q.2 in
    let parts = own_parts h a e.0.0 e.0.1 p e.2 in
    record {
      agent = a;
      instance = parts.instance;
      told = q.1;
      publishes = ap (get a.map) (sym parts.key_is) ∙ get_member key_total a.map e.0.0 e.0.1 e.1 ∙ ap Some parts.value_is;
      known = parts.known;
      rd = parts.rd;
      next_hop = parts.next_hop;
      targets = parts.targets;
      session = parts.session;
    }

pub own_route_in : (h : Holdings) (p : Path) → IsOwnRoute h p → Member p (own_paths h)
own_route_in h p o =
    let a : Told = o.agent in
    let i : InstanceId = o.instance in
    let is : ◌≡◌ {A = Path} (record { prefix = p.prefix; rd = distinguisher_of a.address i; next_hop = a.address; label = p.label; targets = target_of h.asn i ∷ []; session = a.session }) p =
    λ j. record { prefix = p.prefix; rd = sym o.rd j; next_hop = sym o.next_hop j; label = p.label; targets = sym o.targets j; session = sym o.session j } in
    in_flat_map (λ (a : Told). filter_map (λ e. own_path h a e.0 e.1) (entries a.map)) a p h.agents o.told
    (in_filter_map (λ (e : Key × Value). own_path h a e.0 e.1) (Publish i p.prefix, Label p.label) p (entries a.map)
    (member_get key_total key_exact a.map (Publish i p.prefix) (Label p.label) o.publishes)
    (ap (λ b. cond b (Some (record { prefix = p.prefix; rd = distinguisher_of a.address i; next_hop = a.address; label = p.label; targets = target_of h.asn i ∷ []; session = a.session })) None) o.known ∙ ap Some is))

-- ---- circuits that are published here
pub label_is : (o : Option Value) (l : LabelNo) → as_label o ≡ Some l → o ≡ Some (Label l)
label_is (Some (Label m)) l e = ap (λ (x : LabelNo). Some (Label x)) (same_Some m l e)
label_is (Some (Object v)) l e = absurd (none_some l e)
label_is (Some (Route r)) l e = absurd (none_some l e)
label_is (Some (Entry r)) l e = absurd (none_some l e)
label_is None l e = absurd (none_some l e)

abbrev pub led_by : Addr → LabelNo → Addr × LabelNo
led_by address label = (address, label)

abbrev or_else : Addr → List Told → ℕ → Option LabelNo → Option (Addr × LabelNo)
or_else address agents circuit o = elim o [ Some l ↦ Some (led_by address l) | None ↦ published_in agents circuit ]

module _ (h : Holdings) (circuit : ℕ) (address : Addr) (label : LabelNo) where
  first_here : (a : Told) (agents : List Told) → Member a h.agents → (published_in agents circuit ≡ Some (led_by address label) → IsPublishedHere h address label)
      → (o : Option LabelNo) → published_by a circuit ≡ o → or_else a.address agents circuit o ≡ Some (led_by address label) → IsPublishedHere h address label
  first_here a agents m rest None is e = rest e
  first_here a agents m rest (Some l) is e =
      let s : ◌≡◌ {A = Addr × LabelNo} (led_by a.address l) (led_by address label) = same_Some (led_by a.address l) (led_by address label) e in
      record {
        agent = a;
        instance = circuit_instance_of circuit;
        prefix = host_prefix (circuit_address_of circuit).0;
        told = m;
        at = ap (λ (x : Addr × LabelNo). x.0) s;
        publishes = label_is (get a.map (Publish (circuit_instance_of circuit) (host_prefix (circuit_address_of circuit).0))) label (is ∙ ap (λ (x : Addr × LabelNo). Some x.1) s);
      }

  among : (agents : List Told) → ((a : Told) → Member a agents → Member a h.agents) → published_in agents circuit ≡ Some (led_by address label) → IsPublishedHere h address label
  among [] all e = absurd (none_some (led_by address label) e)
  among (a ∷ agents) all e = first_here a agents (all a (inl refl)) (λ e. among agents (λ b m. all b (inr m)) e) (published_by a circuit) refl e

  -- what publishes a circuit is an agent here
  pub published_here : publisher h circuit ≡ Some (led_by address label) → IsPublishedHere h address label
  published_here e = among h.agents (λ a m. m) e

-- ---- re-originated routes
pub in_below : (n d : ℕ) → d < n → Member d (below n)
in_below zero d h = absurd (omega arith)
in_below (suc n) d h =
    elim (at_most n d h) as (λ _. Member d (below n ++ n ∷ [])) [ inl l ↦ in_left d (below n) (n ∷ []) (in_below n d l) | inr e ↦ in_right d (below n) (n ∷ []) (inl (sym e)) ]
  where
    at_most : (n d : ℕ) → d < suc n → (d < n) ⊎ (d ≡ n)
    at_most n d h = grind arith

pub from_below : (n d : ℕ) → Member d (below n) → d < n
from_below zero d m = absurd m
from_below (suc n) d m =
    elim (in_either d (below n) (n ∷ []) m) as (λ _. d < suc n) [ inl l ↦ later n d (from_below n d l) | inr r ↦ elim r as (λ _. d < suc n) [ inl e ↦ last n d e | inr no_more ↦ absurd no_more ] ]
  where
    later : (n d : ℕ) → d < n → d < suc n
    later n d h = omega arith

    last : (n d : ℕ) → n ≡ d → d < suc n
    last n d e = omega arith

abbrev led : Holdings → InstanceId → Block → Addr × LabelNo → Path
led h i subnet by = record { prefix = subnet; rd = distinguisher_of by.0 i; next_hop = by.0; label = by.1; targets = target_of h.asn i ∷ []; session = 65535 }

from_towards : (h : Holdings) (i : InstanceId) (subnet : Block) (o : Option (Addr × LabelNo)) (p : Path) → Member p (towards h i subnet o) → (by : Addr × LabelNo) × (o ≡ Some by) × (led h i subnet by ≡ p)
from_towards h i subnet None p m = absurd m
from_towards h i subnet (Some by) p (inl e) = (by, refl, e)
from_towards h i subnet (Some by) p (inr m) = absurd m

-- the paths of one subnet
abbrev led_on : Holdings → Side → ℕ → Block → List Path
led_on h s d subnet = cond (is_up h s subnet d) (towards h (hop_at s (suc d)) subnet (publisher h (circuit_at s (suc d)))) []

reoriginated_parts : (h : Holdings) (p : Path) (s : Side) (d : ℕ) (subnet : Block) (by : Addr × LabelNo) → Member s (sides h.feed) → d < s.chain.services → Member subnet (subnets s)
    → is_up h s subnet d ≡ true → publisher h (circuit_at s (suc d)) ≡ Some by → led h (hop_at s (suc d)) subnet by ≡ p → IsReoriginated h p
reoriginated_parts h p s d subnet by held within m up published is = record {
  side = s;
  depth = d;
  held = held;
  within = within;
  subnet = subst (λ (b : Block). Member b (subnets s)) (λ j. (is j).prefix) m;
  up = ap (λ (b : Block). is_up h s b d) (λ j. (sym is j).prefix) ∙ up;
  published = published ∙ (λ j. Some ((is j).next_hop, (is j).label));
  rd = (λ j. (sym is j).rd) ∙ ap (λ (x : Addr). distinguisher_of x (hop_at s (suc d))) (λ j. (is j).next_hop);
  targets = λ j. (sym is j).targets;
  session = λ j. (sym is j).session;
}

pub reoriginated_from : (h : Holdings) (p : Path) → Member p (reoriginated_paths h) → IsReoriginated h p
reoriginated_from h p m =
    let q = from_flat_map (λ (s : Side). flat_map (into (is_up h) h s) (below s.chain.services)) p (sides h.feed) m in
    let s : Side = q.0 in
    let r = from_flat_map (into (is_up h) h s) p (below s.chain.services) q.2 in
    let d : ℕ = r.0 in
    let i : InstanceId = hop_at s (suc d) in
    let t = from_flat_map (led_on h s d) p (subnets s) r.2 in
    let w = member_when (is_up h s t.0 d) p (towards h i t.0 (publisher h (circuit_at s (suc d)))) t.2 in
    let by = from_towards h i t.0 (publisher h (circuit_at s (suc d))) p w.1 in
    reoriginated_parts h p s d t.0 by.0 q.1 (from_below s.chain.services d r.1) t.1 w.0 by.1 by.2

in_when : {X : Type 0} (b : Bool) (x : X) (xs : List X) → b ≡ true → Member x xs → Member x (cond b xs [])
in_when true x xs e m = m
in_when false x xs e m = absurd (omega_false e)
  where
    omega_false : false ≡ true → ⊥
    omega_false e = cc

pub reoriginated_in : (h : Holdings) (p : Path) → IsReoriginated h p → Member p (reoriginated_paths h)
reoriginated_in h p o =
    let s : Side = o.side in
    let d : ℕ = o.depth in
    let i : InstanceId = hop_at s (suc d) in
    let is : led h i p.prefix (p.next_hop, p.label) ≡ p =
    λ j. record { prefix = p.prefix; rd = sym o.rd j; next_hop = p.next_hop; label = p.label; targets = sym o.targets j; session = sym o.session j } in
    in_flat_map (λ (s : Side). flat_map (into (is_up h) h s) (below s.chain.services)) s p (sides h.feed) o.held
    (in_flat_map (into (is_up h) h s) d p (below s.chain.services) (in_below s.chain.services d o.within)
    (in_flat_map (led_on h s d) p.prefix p (subnets s) o.subnet
    (in_when (is_up h s p.prefix d) p (towards h i p.prefix (publisher h (circuit_at s (suc d)))) o.up
    (subst (λ (x : Option (Addr × LabelNo)). Member p (towards h i p.prefix x)) (sym o.published) (inl is)))))
