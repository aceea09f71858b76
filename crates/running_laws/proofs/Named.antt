-- The names and numbers of the nodes of a valid configuration.
use Rattle.std.specs.Prelude.{◌≡◌, ◌≢◌, ◌<◌, ◌≤◌, ◌^◌, ℕ, List, [], ◌∷◌, ◌++◌, length, map, Bool, true, not, ◌&&◌, IsTrue, nat_le}
use Rattle.std.specs.List.{All, Contains, list_all}
use Rattle.std.specs.declared.option.Option.TheVariants.{None}
use Rattle.std.proofs.Common.{sym, ◌∙◌, ap, subst, inl, inr, arith}
use Rattle.std.proofs.lemmas.Bool.{and_parts, leb-true, not-true, true≢false}
use Rattle.ov_types.specs.First.{same_name}
use Rattle.ov_types.specs.Name.{is_name}
use Rattle.ov_types.specs.declared.rows.NodeId.{NodeId}
use Rattle.ov_types.proofs.FirstLemmas.{all_head, all_tail, same_name_self}
use Rattle.config_types.specs.Form.{has_controller_form, has_node_form, has_topology_form, is_as_number, is_from_to, is_reserved_as, is_node_address, is_node_name}
use Rattle.config_types.specs.declared.topology.Node.{Node}
use Rattle.config_types.specs.declared.topology.Topology.{Topology}
use Rattle.schedule_script.specs.ConfigCheck.Rules.{controller_names, node_names, first_broken}
use Rattle.schedule_script.proofs.ConfigCheck.Validity.{valid_iff}
use Rattle.node_model.specs.Members.{Member}
use Rattle.node_model.proofs.Members.{in_map, member_of}
use Rattle.machine_laws.specs.MachineModel.Network.{config}
use Rattle.machine_laws.specs.MachineModel.Setup.{Name, Setup}
use Rattle.machine_laws.proofs.MachineModel.Apart.{Apart, apart_of, apart_left, apart_between}

-- ---- names that are apart
abbrev name : NodeId → Name
name c = c.name

-- control nodes of one name are one
one_of_name : (cs : List NodeId) → Apart (map name cs) → (c d : NodeId) → Member c cs → Member d cs → c.name ≡ d.name → c ≡ d
one_of_name [] a c d m k e = absurd m
one_of_name (b ∷ cs) a c d (inl i) (inl j) e = sym i ∙ j
one_of_name (b ∷ cs) a c d (inl i) (inr k) e = absurd (a.0 d.name (in_map name d cs k) (ap name i ∙ e))
one_of_name (b ∷ cs) a c d (inr m) (inl j) e = absurd (a.0 c.name (in_map name c cs m) (ap name j ∙ sym e))
one_of_name (b ∷ cs) a c d (inr m) (inr k) e = one_of_name cs a.1 c d m k e

-- ---- what holds of all
all_of : {A : Type 0} (P : A → Type 0) (xs : List A) (x : A) → All P xs → Member x xs → P x
all_of P [] x h m = absurd m
all_of P (y ∷ ys) x h (inl e) = subst P e (all_head P y ys h)
all_of P (y ∷ ys) x h (inr m) = all_of P ys x (all_tail P y ys h) m

-- ---- the written form
all_true : {A : Type 0} (p : A → Bool) (xs : List A) (y : A) → list_all p xs ≡ true → Member y xs → p y ≡ true
all_true p [] y h m = absurd m
all_true p (x ∷ xs) y h (inl e) = ap p (sym e) ∙ (and_parts (p x) (list_all p xs) h).0
all_true p (x ∷ xs) y h (inr m) = all_true p xs y (and_parts (p x) (list_all p xs) h).1 m

-- the parts of the written form of a topology
pub record Forms (t : Topology) : Type 0 where
  pub asn : is_as_number t.asn ≡ true
  pub controllers : list_all has_controller_form t.controllers ≡ true
  pub some : nat_le 1 (length t.controllers) ≡ true
  pub nodes : list_all has_node_form t.nodes ≡ true

pub forms : (t : Topology) → IsTrue (has_topology_form t) → Forms t
unfolding has_topology_form
forms t h =
    let a = is_as_number t.asn in
    let b = list_all has_controller_form t.controllers in
    let c = nat_le 1 (length t.controllers) in
    let d = list_all has_node_form t.nodes in
    let abcd = (and_parts (a && b && c && d) (nat_le 1 (length t.nodes)) h).0 in
    let abc = and_parts (a && b && c) d abcd in
    let ab = and_parts (a && b) c abc.0 in
    record { asn = (and_parts a b ab.0).0; controllers = (and_parts a b ab.0).1; some = ab.1; nodes = abc.1 }

is_named : (text : List ℕ) → is_node_name text ≡ true → is_name text ≡ true
is_named text h = (and_parts (is_name text) (not (same_name text config)) h).0

not_config : (text : List ℕ) → is_node_name text ≡ true → text ≡ config → ⊥
not_config text h e =
    true≢false (sym (ap (same_name text) (sym e) ∙ same_name_self text) ∙ not-true (same_name text config) (and_parts (is_name text) (not (same_name text config)) h).1)

controller_parts : (n : NodeId) → has_controller_form n ≡ true → (is_node_name n.name ≡ true) × (is_node_address n.address.0 ≡ true)
unfolding has_controller_form
controller_parts n h = and_parts (is_node_name n.name) (is_node_address n.address.0) h

node_name : (n : Node) → has_node_form n ≡ true → is_node_name n.name ≡ true
unfolding has_node_form
node_name n h =
    let a = is_node_name n.name in
    let b = is_node_address n.address.0 in
    let c = list_all is_name n.controllers in
    let abc = and_parts (a && b && c) (is_from_to 1 2 (length n.controllers)) h in
    (and_parts a b (and_parts (a && b) c abc.0).0).0

below_system : (asn : ℕ) → is_as_number asn ≡ true → asn < 2 ^ 32
below_system asn h =
    let range = (and_parts (is_from_to 1 4294967294 asn) (not (is_reserved_as asn)) h).0 in
    let most : asn ≤ 4294967294 = leb-true asn 4294967294 (and_parts (nat_le 1 asn) (nat_le asn 4294967294) range).1 in
    omega (arith, most)

pub record IsAddress (n : ℕ) : Type 0 where
  pub within : n < 2 ^ 32
  pub some : n ≢ 0

address_parts : (n : ℕ) → is_node_address n ≡ true → IsAddress n
address_parts n h =
    let range = and_parts (nat_le 0x0100_0000 n) (nat_le n 0xdfff_ffff) h in
    let least : 0x0100_0000 ≤ n = leb-true 0x0100_0000 n range.0 in
    let most : n ≤ 0xdfff_ffff = leb-true n 0xdfff_ffff range.1 in
    record { within = omega (arith, most); some = λ e. absurd (omega (arith, least, e)) }

-- ---- all that tells the nodes apart
pub record AreNodes (t : Topology) : Type 0 where
  pub asn : t.asn < 2 ^ 32
  pub site_address : (c : NodeId) → Member c t.controllers → IsAddress c.address.0
  pub site_name : (c : NodeId) → Member c t.controllers → IsTrue (is_name c.name)
  pub agent_name : (n : Node) → Member n t.nodes → IsTrue (is_name n.name)
  pub no_site_config : (c : NodeId) → Member c t.controllers → c.name ≡ config → ⊥
  pub no_agent_config : (n : Node) → Member n t.nodes → n.name ≡ config → ⊥
  pub apart : (c : NodeId) (n : Node) → Member c t.controllers → Member n t.nodes → c.name ≡ n.name → ⊥
  pub one_site : (c d : NodeId) → Member c t.controllers → Member d t.controllers → c.name ≡ d.name → c ≡ d
  -- an agent lists control nodes that there are
  pub listed : (n : Node) → Member n t.nodes → (m : Name) → Member m n.controllers → Member m (controller_names t)

pub are_nodes : (x : Setup) → IsTrue (has_topology_form x.topology) → first_broken x.topology x.config ≡ None → AreNodes x.topology
are_nodes x form valid =
    let t = x.topology in
    let f = forms t form in
    let v = (valid_iff t x.config).0 valid in
    let names = apart_of (controller_names t ++ node_names t) v.names.nodes in
    let site : (c : NodeId) → Member c t.controllers → (is_node_name c.name ≡ true) × (is_node_address c.address.0 ≡ true) =
    λ c m. controller_parts c (all_true has_controller_form t.controllers c f.controllers m) in
    let agent : (n : Node) → Member n t.nodes → is_node_name n.name ≡ true =
    λ n m. node_name n (all_true has_node_form t.nodes n f.nodes m) in
    record {
      asn = below_system t.asn f.asn;
      site_address = λ c m. address_parts c.address.0 (site c m).1;
      site_name = λ c m. is_named c.name (site c m).0;
      agent_name = λ n m. is_named n.name (agent n m);
      no_site_config = λ c m e. not_config c.name (site c m).0 e;
      no_agent_config = λ n m e. not_config n.name (agent n m) e;
      apart = λ c n m k e. apart_between (controller_names t) (node_names t) names c.name n.name (in_map name c t.controllers m) (in_map (λ (n : Node). n.name) n t.nodes k) e;
      one_site = one_of_name t.controllers (apart_left (controller_names t) (node_names t) names);
      listed = λ n k m i.
          let each = all_of (λ (n : Node). All (Contains (controller_names t)) n.controllers) t.nodes n v.references.controllers k in
          member_of (controller_names t) m (all_of (Contains (controller_names t)) n.controllers m each i);
    }
