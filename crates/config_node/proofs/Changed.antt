-- The one object that changes where one port does.
use Rattle.std.specs.Prelude.{◌≡◌, ◌<◌, ◌&&◌, ℕ, zero, suc, Bool, true, false, cond, IsTrue, IfSome, if◌then◌else◌, List, [], ◌∷◌, ◌++◌, length, take, drop}
use Rattle.std.specs.Prelude.{get_or, slice_get, option_and_then, option_map}
use Rattle.std.specs.declared.cmp.Ordering.TheVariants.{Less, Equal, Greater}
use Rattle.std.specs.declared.option.Option.{Option}
use Rattle.std.specs.declared.option.Option.TheVariants.{Some, None}
use Rattle.std.specs.FinMap.{get, get-insert, get-remove, insert, remove, same_map}
use Rattle.std.specs.List.{cons_option, list_all}
use Rattle.std.specs.Ordering.{eq_by_cmp, is_eq}
use Rattle.std.proofs.Common.{refl, sym, ◌∙◌, ap, subst, arith}
use Rattle.std.proofs.lemmas.Bool.{and_parts}
use Rattle.std.proofs.lemmas.List.{append_assoc, take-append-drop}
use Rattle.ov_types.specs.declared.objects.LowKey.{LowKey}
use Rattle.ov_types.specs.declared.objects.LowValue.{LowValue}
use Rattle.ov_sync.specs.Keyed.{set_key}
use Rattle.config_types.specs.Form.{has_chain_form, has_config_form, has_network_form, has_policy_form, has_port_form, has_service_form}
use Rattle.config_types.specs.Form.{has_topology_form}
use Rattle.config_types.specs.declared.config.Config.{Config}
use Rattle.config_types.specs.declared.config.Port.{Port}
use Rattle.config_types.specs.declared.topology.Topology.{Topology}
use Rattle.config_check.specs.Checked.{Checked}
use Rattle.config_check.specs.Rules.{first_broken}
use Rattle.schema_transform.specs.TransformModel.Objects.{port_object}
use Rattle.node_core.specs.Told.{AllFit}
use Rattle.node_core.specs.NodeModel.Keys.{Key, Low, key_cmp}
use Rattle.node_core.specs.NodeModel.Maps.{Map}
use Rattle.node_core.specs.NodeModel.Values.{Object, Value}
use Rattle.node_core.specs.NodeModel.Wants.{slice_entry}
use Rattle.node_core.proofs.NodeModel.Directions.{low_exact}
use Rattle.node_core.proofs.NodeModel.Orders.{key_exact, key_total}
use Rattle.config_node.specs.MachineModel.Setup.{low_in}
use Rattle.config_node.specs.Ports.{attachment, with_entry, with_ports, without_entry}
use Rattle.config_node.proofs.Law.{low_fits}
use Rattle.config_node.proofs.Ports.{one_for_another}
use Rattle.config_node.specs.Changing.{DifferInOne, IsOneChange, SharesAllButPorts, key_change}
use Rattle.config_node.specs.Ends.{low_order}

-- ---- lists of ports
pub place_within : {A : Type 0} (xs : List A) (n : ℕ) (x : A) → slice_get xs n ≡ Some x → n < length xs
place_within [] n x at = cc
place_within (y ∷ ys) zero x at = omega arith
place_within (y ∷ ys) (suc n) x at = let later = place_within ys n x at in omega arith

-- one more that two lists share
pub one_more : {A : Type 0} (before now : List A) (n : ℕ) (x : A) → n < length before → x ≡ get_or before n x
    → slice_get now n ≡ Some x → take n before ≡ take n now → take (suc n) before ≡ take (suc n) now
one_more [] now n x lt is at same = absurd (omega (arith, lt))
one_more (b ∷ bs) [] n x lt is at same = cc
one_more (b ∷ bs) (c ∷ cs) zero x lt is at same =
    let here : c ≡ x = cc in
    λ i. (sym is ∙ sym here) i ∷ []
one_more (b ∷ bs) (c ∷ cs) (suc n) x lt is at same =
    let first : b ≡ c = cc in
    let rest : take n bs ≡ take n cs = cc in
    λ i. first i ∷ one_more bs cs n x (omega (arith, lt)) is at rest i

pub differ_later : (n : ℕ) (before now : List Port) (old new : Option Port) → take n before ≡ take n now
    → DifferInOne (drop n before) (drop n now) old new → DifferInOne before now old new
differ_later n before now old new same d = record {
  front = take n before ++ d.front;
  back = d.back;
  was = sym (take-append-drop n before)
      ∙ ap (λ (ps : List Port). take n before ++ ps) d.was
      ∙ sym (append_assoc (take n before) d.front (cons_option old d.back));
  is = sym (take-append-drop n now)
      ∙ (λ i. sym same i ++ d.is i)
      ∙ sym (append_assoc (take n before) d.front (cons_option new d.back));
}

-- ---- their form
passes_between : (p : Port → Bool) (front back : List Port) (x : Port) → list_all p (front ++ x ∷ back) ≡ true
    → p x ≡ true
passes_between p [] back x h = (and_parts (p x) (list_all p back) h).0
passes_between p (y ∷ front) back x h = passes_between p front back x (and_parts (p y) (list_all p (front ++ x ∷ back)) h).1

ports_formed : (c : Config) → IsTrue (has_config_form c) → list_all has_port_form c.ports ≡ true
unfolding has_config_form
ports_formed c form =
    let networks = list_all has_network_form c.networks in
    let ports = list_all has_port_form c.ports in
    let policies = list_all has_policy_form c.policies in
    let services = list_all has_service_form c.services in
    let first = and_parts (networks && ports && policies && services) (list_all has_chain_form c.chains) form in
    let second = and_parts (networks && ports && policies) services first.0 in
    let third = and_parts (networks && ports) policies second.0 in
    (and_parts networks ports third.0).1

pub port_formed : (c : Config) (front back : List Port) (port : Option Port) → IsTrue (has_config_form c)
    → c.ports ≡ front ++ cons_option port back → IfSome port (λ p. IsTrue (has_port_form p))
port_formed c front back None form is = tt
port_formed c front back (Some p) form is =
    passes_between has_port_form front back p
    (subst (λ (ps : List Port). list_all has_port_form ps ≡ true) is (ports_formed c form))

-- ---- all but the ports
pub all_shared : (x y : Checked) (c d : Config) → c ≡ x.config → d ≡ y.config → x.topology ≡ y.topology
    → c.networks ≡ d.networks → c.policies ≡ d.policies → c.services ≡ d.services → c.chains ≡ d.chains
    → SharesAllButPorts x y
all_shared x y c d is_c is_d t n p s h =
    let other : y.config ≡ record d { ports = y.config.ports } = λ i. record (sym is_d i) { ports = y.config.ports } in
    let same : record d { ports = y.config.ports } ≡ record c { ports = y.config.ports } = λ i. record {
      networks = sym n i;
      ports = y.config.ports;
      policies = sym p i;
      services = sym s i;
      chains = sym h i;
    } in
    let config : y.config ≡ record x.config { ports = y.config.ports } =
    other ∙ same ∙ (λ i. record (is_c i) { ports = y.config.ports }) in
    λ i. record { topology = sym t i; config = config i }

-- ---- the objects
pub one_object : (x y : Checked) (old new : Option Port) → SharesAllButPorts x y
    → DifferInOne x.config.ports y.config.ports old new → IsTrue (has_config_form x.config)
    → first_broken x.topology x.config ≡ None → IsTrue (has_config_form y.config)
    → first_broken y.topology y.config ≡ None
    → low_in y ≡ with_entry (without_entry (low_in x) (attachment x old)) (attachment y new)
one_object x y old new same d form valid form' valid' =
    let before = with_ports x (d.front ++ cons_option old d.back) in
    let now = with_ports x (d.front ++ cons_option new d.back) in
    let at_x : x ≡ before = λ i. with_ports x (d.was i) in
    let at_y : y ≡ now = same ∙ (λ i. with_ports x (d.is i)) in
    ap low_in at_y
    ∙ one_for_another x d.front d.back old new
    (subst (λ (z : Checked). IsTrue (has_config_form z.config)) at_x form)
    (subst (λ (z : Checked). first_broken z.topology z.config ≡ None) at_x valid)
    (subst (λ (z : Checked). IsTrue (has_config_form z.config)) at_y form')
    (subst (λ (z : Checked). first_broken z.topology z.config ≡ None) at_y valid')
    ∙ (λ i. with_entry (without_entry (low_in (sym at_x i)) (attachment x old)) (attachment (sym at_y i) new))

-- ---- an entry that takes the place of one with its key
once : {A : Type 0} (b : Bool) (v w : Option A) → cond b v (cond b None w) ≡ cond b v w
once true v w = refl
once false v w = refl

put_again : (m : Map) (k : Key) (v : Value) → insert (remove m k) k v ≡ insert m k v
put_again m k v =
    same_map key_total key_exact _ _ (λ q.
    get-insert key_total (remove m k) k v q
    ∙ ap (cond (eq_by_cmp key_cmp q k) (Some v)) (get-remove key_total m k q)
    ∙ once (eq_by_cmp key_cmp q k) (Some v) (get m q)
    ∙ sym (get-insert key_total m k v q))

pub put_anew : (m : Map) (k l : LowKey) (v : LowValue) → low_order k l ≡ Equal
    → insert (remove m (Low k)) (Low l) (Object v) ≡ insert m (Low l) (Object v)
put_anew m k l v same =
    ap (λ (j : LowKey). insert (remove m (Low j)) (Low l) (Object v)) (low_exact k l same)
    ∙ put_again m (Low l) (Object v)

keyed : (old new : Option (LowKey × LowValue)) (m n : Map)
    → n ≡ with_entry (without_entry m (option_map slice_entry old)) (option_map slice_entry new)
    → IfSome (key_change old new) (λ change. n ≡ set_key m (Low change.0) (option_map Object change.1))
keyed None None m n is = tt
keyed None (Some b) m n is = is
keyed (Some a) None m n is = is
keyed (Some a) (Some b) m n is =
    elim (low_order a.0 b.0) as (λ r. low_order a.0 b.0 ≡ r
    → IfSome {T = LowKey × Option LowValue} (if is_eq r then Some (b.0, Some b.1) else None)
    (λ change. n ≡ set_key m (Low change.0) (option_map Object change.1))) [
      | Less ↦ λ e. tt
      | Equal ↦ λ e. is ∙ put_anew m a.0 b.0 b.1 e
      | Greater ↦ λ e. tt
    ] refl

with_fits : (x y : Checked) (o : Option (LowKey × Option LowValue)) → AllFit (low_in y)
    → IfSome o (λ change. low_in y ≡ set_key (low_in x) (Low change.0) (option_map Object change.1))
    → IfSome o (λ change. IsOneChange x y change.0 change.1)
with_fits x y None fits h = tt
with_fits x y (Some change) fits h = record { change = h; fits = fits }

-- two configurations with their topologies, and what their ports give
pub one_key : (x y : Checked) (c d : Config) (t u : Topology) (old new : Option Port)
    (a b : Option (LowKey × LowValue)) → c ≡ x.config → d ≡ y.config → t ≡ x.topology → u ≡ y.topology
    → a ≡ option_and_then (port_object t c) old → b ≡ option_and_then (port_object u d) new → SharesAllButPorts x y
    → DifferInOne c.ports d.ports old new → IsTrue (has_config_form x.config)
    → first_broken x.topology x.config ≡ None → IsTrue (has_topology_form y.topology)
    → IsTrue (has_config_form y.config) → first_broken y.topology y.config ≡ None
    → IfSome (key_change a b) (λ change. IsOneChange x y change.0 change.1)
one_key x y c d t u old new a b is_c is_d is_t is_u is_a is_b same differ form valid nodes' form' valid' =
    let first = subst (λ (e : Config). DifferInOne e.ports d.ports old new) is_c differ in
    let both = subst (λ (e : Config). DifferInOne x.config.ports e.ports old new) is_d first in
    let from : option_map slice_entry a ≡ attachment x old =
    ap (option_map slice_entry) (is_a ∙ (λ i. option_and_then (port_object (is_t i) (is_c i)) old)) in
    let to : option_map slice_entry b ≡ attachment y new =
    ap (option_map slice_entry) (is_b ∙ (λ i. option_and_then (port_object (is_u i) (is_d i)) new)) in
    with_fits x y (key_change a b) (low_fits y nodes' form' valid')
    (keyed a b (low_in x) (low_in y)
    (one_object x y old new same both form valid form' valid'
    ∙ (λ i. with_entry (without_entry (low_in x) (sym from i)) (sym to i))))

pub formed_there : (x : Checked) (c : Config) (front back : List Port) (port : Option Port) → c ≡ x.config
    → IsTrue (has_config_form x.config) → c.ports ≡ front ++ cons_option port back
    → IfSome port (λ p. IsTrue (has_port_form p))
formed_there x c front back port is form was =
    port_formed c front back port (subst (λ (e : Config). IsTrue (has_config_form e)) (sym is) form) was
