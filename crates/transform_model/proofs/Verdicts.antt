-- What the access lists of an agent say of a packet that leaves the network of a port there.
use Rattle.std.proofs.Common.{◌≡◌, ◌⊎◌, ◌==◌, ◌&&◌, ◌||◌, eqb, leb, cond, ℕ, Bool, true, false, IsTrue, List, [], ◌∷◌, Option, Some, None, refl, sym, ap, ◌∙◌, subst, inl, inr}
use Rattle.std.specs.List.{Contains, list_any}
use Rattle.std.specs.Ordering.{is_lt}
use Rattle.std.proofs.lemmas.Bool.{and_parts, eqb-true, eq-eqb}
use Rattle.std.proofs.lemmas.Option.{cond_some}
use Rattle.ov_types.specs.Access.{Access, access_by, lesser, access_towards}
use Rattle.ov_types.specs.Prefix.{Block, block_cmp, contains}
use Rattle.ov_types.specs.declared.numbers.InstanceId.{InstanceId}
use Rattle.ov_types.specs.declared.objects.LowKey.{LowKey}
use Rattle.ov_types.specs.declared.objects.LowKey.TheVariants as Key
use Rattle.ov_types.specs.declared.objects.LowValue.{LowValue}
use Rattle.ov_types.specs.declared.prefix.Addr.{Addr}
use Rattle.ov_types.proofs.FirstLemmas.{contains_here, contains_later, contains_cases, any_of}
use Rattle.reach_plain.specs.ConfigTypes.Form.{has_config_form}
use Rattle.reach_plain.specs.ConfigTypes.Config.{Config}
use Rattle.reach_plain.specs.ConfigTypes.Network.{Network}
use Rattle.reach_plain.specs.ConfigTypes.Topology.{Topology}
use Rattle.reach_plain.specs.PolicyRules.Standing.{AreRelated}
use Rattle.reach_plain.specs.ConfigCheck.Sentences.{IsValid}
use Rattle.acl_compile.specs.Oriented.{acl_rules, acl_value, ascending, put_prefix}
use Rattle.node_model.specs.Agent.{acl_entry}
use Rattle.reach_plain.specs.Outcomes.{IsTowards}
use Rattle.reach_plain.specs.Reachability.{network_towards}
use Rattle.reach_plain.proofs.Found.{target_is}
use Rattle.transform_model.specs.Compiled.{agent_rows, concerns, networks_at, slice_of}
use Rattle.transform_model.specs.IsObject.{IsObject}
use Rattle.transform_model.specs.IsObject.IsObject.{of_network, of_port, of_left_circuit, of_right_circuit, of_networks, of_use}
use Rattle.transform_model.specs.Objects.{LowObject, low_objects}
use Rattle.reach_plain.proofs.PolicyRules.Lists.{is_kept, kept_is}
use Rattle.transform_model.proofs.Lists.{gives, given}
use Rattle.transform_model.proofs.Objects.{one_named, one_numbered}
use Rattle.transform_model.proofs.Held.{object_is, is_object}
use Rattle.transform_model.proofs.OneFound.{nothing_in, in_any, of_any}

-- ---- the one access list that holds an address

access_one : (network d : ℕ) (es : List LowObject) (x : Access) → ((e : LowObject) (y : Access) → Contains es e → access_by network d e.0 e.1 ≡ Some y → y ≡ x)
    → (access_towards network d es ≡ None) ⊎ (access_towards network d es ≡ Some x)
access_one network d [] x only = inl refl
access_one network d (e ∷ es) x only =
    let rest = access_one network d es x (λ f y h. only f y (contains_later f e es h)) in
    elim (access_by network d e.0 e.1) as (λ o. access_by network d e.0 e.1 ≡ o → (lesser o (access_towards network d es) ≡ None) ⊎ (lesser o (access_towards network d es) ≡ Some x)) [
      | None ↦ λ n. rest
      | Some y ↦ λ s.
          let same : y ≡ x = only e y (contains_here e es) s in
          elim rest [
            | inl none ↦ inr (rw none (ap Some same))
            | inr some ↦ inr (rw some (elim (leb y.to x.to) as (λ b. cond b (Some y) (Some x) ≡ Some x) [ true ↦ ap Some same | false ↦ refl ]))
          ]
    ] refl

lesser_none : (a b : Option Access) → lesser a b ≡ None → (a ≡ None) × (b ≡ None)
lesser_none None b h = (refl, h)
lesser_none (Some x) None h = absurd cc
lesser_none (Some x) (Some y) h = elim (leb x.to y.to) as (λ b. cond b (Some x) (Some y) ≡ None → (Some x ≡ None) × (Some y ≡ None)) [ true ↦ λ e. absurd cc | false ↦ λ e. absurd cc ] h

none_there : (network d : ℕ) (es : List LowObject) → access_towards network d es ≡ None → (e : LowObject) → Contains es e → access_by network d e.0 e.1 ≡ None
none_there network d [] n e h = nothing_in _ e h
none_there network d (f ∷ fs) n e h =
    let parts = lesser_none (access_by network d f.0 f.1) (access_towards network d fs) n in
    elim (contains_cases f fs e h) [
      | inl same ↦ ap (λ (x : LowObject). access_by network d x.0 x.1) (sym same) ∙ parts.0
      | inr later ↦ none_there network d fs parts.1 e later
    ]

only_access : (network d : ℕ) (es : List LowObject) (e : LowObject) (x : Access) → Contains es e → access_by network d e.0 e.1 ≡ Some x
    → ((f : LowObject) (y : Access) → Contains es f → access_by network d f.0 f.1 ≡ Some y → y ≡ x) → access_towards network d es ≡ Some x
only_access network d es e x h is only =
    elim (access_one network d es x only) [
      | inl none ↦ let never : None ≡ Some x = sym (none_there network d es none e h) ∙ is in absurd cc
      | inr some ↦ some
    ]

no_access : (network d : ℕ) (es : List LowObject) → ((f : LowObject) (y : Access) → Contains es f → access_by network d f.0 f.1 ≡ Some y → ⊥) → access_towards network d es ≡ None
no_access network d [] none = refl
no_access network d (e ∷ es) none =
    elim (access_by network d e.0 e.1) as (λ o. access_by network d e.0 e.1 ≡ o → lesser o (access_towards network d es) ≡ None) [
      | None ↦ λ n. no_access network d es (λ f y h. none f y (contains_later f e es h))
      | Some y ↦ λ s. absurd (none e y (contains_here e es) s)
    ] refl

-- ---- the order of subnets is no matter

some_put : (p : Block → Bool) (x : Block) (xs : List Block) → list_any p (put_prefix x xs) ≡ (p x || list_any p xs)
some_put p x [] = refl
some_put p x (y ∷ ys) =
    elim (is_lt (block_cmp y x)) as (λ b. list_any p (cond b (y ∷ put_prefix x ys) (x ∷ y ∷ ys)) ≡ (p x || (p y || list_any p ys))) [
      | true ↦ ap (λ b. p y || b) (some_put p x ys) ∙ swapped (p y) (p x) (list_any p ys)
      | false ↦ refl
    ]
  where
    swapped : (a b c : Bool) → (a || (b || c)) ≡ (b || (a || c))
    swapped true true c = refl
    swapped true false c = refl
    swapped false b c = refl

some_ascending : (p : Block → Bool) (xs : List Block) → list_any p (ascending xs) ≡ list_any p xs
some_ascending p [] = refl
some_ascending p (x ∷ xs) = some_put p x (ascending xs) ∙ ap (λ b. p x || b) (some_ascending p xs)

-- ---- the access lists of an agent

abbrev pub access_to : Config → Network → Network → Access
access_to c own b = record { to = b.id.0; rules = acl_rules c own b }

-- an access list among the objects is of two networks, the one or related to it
record IsList (c : Config) (o : LowObject) : Type 0 where
  pub from : Network
  pub to : Network
  pub has_from : Contains c.networks from
  pub has_to : Contains c.networks to
  pub near : (from ≡ to) ⊎ AreRelated c from to
  pub is : o ≡ (Key.Acl from.id.0 to.id.0, acl_value c from to)

no_key : (k : LowKey) (w : LowValue) (o : LowObject) (from to : ℕ) → o ≡ (k, w) → o.0 ≡ Key.Acl from to → k ≡ Key.Acl from to
no_key k w o from to e h = sym (ap (λ (x : LowObject). x.0) e) ∙ h

list_is : (t : Topology) (c : Config) (o : LowObject) (from to : ℕ) → o.0 ≡ Key.Acl from to → IsObject t c o → IsList c o
list_is t c o from to key (of_network n is in_n imports at) = let never = no_key _ _ o from to at key in absurd cc
list_is t c o from to key (of_port n p node is_port at) = let never = no_key _ _ o from to at key in absurd cc
list_is t c o from to key (of_left_circuit u j k node is_u is_k is_at at) = let never = no_key _ _ o from to at key in absurd cc
list_is t c o from to key (of_right_circuit u j k node is_u is_k is_at at) = let never = no_key _ _ o from to at key in absurd cc
list_is t c o from to key (of_networks a b in_a in_b near at) = record { from = a; to = b; has_from = in_a; has_to = in_b; near = near; is = at }
list_is t c o from to key (of_use u hops is_u are_hops at) = let never = no_key _ _ o from to at key in absurd cc

entry_is : (k : LowKey) (w : LowValue) (e : LowObject) → acl_entry k w ≡ Some e → (from : ℕ) × (to : ℕ) × (k ≡ Key.Acl from to) × (e ≡ (k, w))
entry_is (Key.Acl from to) w e h = (from, to, refl, cc)
entry_is k w e h = cc

module _ (t : Topology) (c : Config) (form : IsTrue (has_config_form c)) (v : IsValid t c) (own : Network) (in_own : Contains c.networks own) (a : Addr) (d : ℕ) where
  -- what holds the address leads to a network that the address is of
  leads_towards : (o : LowObject) (y : Access) → IsList c o → access_by own.id.0 d o.0 o.1 ≡ Some y → (b : Network) × IsTowards c own b d × (y ≡ access_to c own b)
  leads_towards o y l e =
      let at : access_by own.id.0 d (Key.Acl l.from.id.0 l.to.id.0) (acl_value c l.from l.to) ≡ Some y = ap (λ (x : LowObject). access_by own.id.0 d x.0 x.1) (sym l.is) ∙ e in
      let parts = cond_some (eqb l.from.id.0 own.id.0 && list_any (λ p. contains p d) (ascending l.to.subnets)) (access_to c l.from l.to) y at in
      let tests = and_parts (eqb l.from.id.0 own.id.0) (list_any (λ p. contains p d) (ascending l.to.subnets)) parts.0 in
      let number : l.from.id ≡ own.id = ap (λ (n : ℕ). record { 0 = n }) (eqb-true l.from.id.0 own.id.0 tests.0) in
      let mine : l.from ≡ own = one_numbered t c l.from own v l.has_from in_own number in
      let some = of_any (λ p. contains p d) l.to.subnets (sym (some_ascending (λ p. contains p d) l.to.subnets) ∙ tests.1) in
      let near : (l.to.name ≡ own.name) ⊎ AreRelated c own l.to =
      elim l.near [
        | inl same ↦ inl (ap (λ (n : Network). n.name) (sym same ∙ mine))
        | inr related ↦ inr (subst (λ (n : Network). AreRelated c n l.to) mine related)
      ] in (
        l.to,
        record { stands = l.has_to; near = near; holds = any_of (λ s. IsTrue (contains s d)) l.to.subnets some.0 some.1 some.2 },
        sym parts.1 ∙ ap (λ (n : Network). access_to c n l.to) mine,
      )

  list_of : (e : LowObject) → Contains (agent_rows t c a).acls e → IsList c e
  unfolding agent_rows
  list_of e h =
      let from = given (λ (o : LowObject). acl_entry o.0 o.1) (slice_of (low_objects t c) a) e h in
      let o : LowObject = from.0 in
      let in_low = kept_is (λ (o : LowObject). concerns (low_objects t c) a o.0 o.1) (low_objects t c) o from.1 in
      let entry = entry_is o.0 o.1 e from.2 in
      let l = list_is t c o entry.0 entry.1 entry.2 (object_is t c form v o in_low.0) in
      subst (IsList c) (sym entry.3) l

  pub towards_nothing : network_towards c own d ≡ None → access_towards own.id.0 d (agent_rows t c a).acls ≡ None
  towards_nothing none =
      no_access own.id.0 d (agent_rows t c a).acls (λ f y in_f e.
      let to = leads_towards f y (list_of f in_f) e in
      let never : None ≡ Some to.0 = sym none ∙ target_is t c own to.0 d form v in_own to.1 in
      cc)

  list_there : (b : Network) → Contains c.networks b → (own ≡ b) ⊎ AreRelated c own b → Contains (networks_at (low_objects t c) a) own.id
      → Contains (agent_rows t c a).acls (Key.Acl own.id.0 b.id.0, acl_value c own b)
  unfolding agent_rows
  list_there b in_b near has_port =
      let o : LowObject = (Key.Acl own.id.0 b.id.0, acl_value c own b) in
      let object = is_object t c form v o (of_networks own b in_own in_b near refl) in
      let concerned : concerns (low_objects t c) a o.0 o.1 ≡ true =
      in_any (λ (n : InstanceId). n.0 == own.id.0) (networks_at (low_objects t c) a) own.id has_port (eq-eqb own.id.0 own.id.0 refl) in
      let in_slice = is_kept (λ (o : LowObject). concerns (low_objects t c) a o.0 o.1) (low_objects t c) o object concerned in
      gives (λ (o : LowObject). acl_entry o.0 o.1) (slice_of (low_objects t c) a) o o in_slice refl

  pub towards_network : (b : Network) → IsTowards c own b d → Contains (networks_at (low_objects t c) a) own.id
      → access_towards own.id.0 d (agent_rows t c a).acls ≡ Some (access_to c own b)
  towards_network b towards has_port =
      let near : (own ≡ b) ⊎ AreRelated c own b =
      elim towards.near [
        | inl same ↦ inl (one_named t c own b v in_own towards.stands (sym same))
        | inr related ↦ inr related
      ] in
      let there = list_there b towards.stands near has_port in
      let held : list_any (λ p. contains p d) (ascending b.subnets) ≡ true =
      some_ascending (λ p. contains p d) b.subnets
      ∙ in_any (λ p. contains p d) b.subnets towards.holds.1 (towards.holds.0, towards.holds.2, towards.holds.3) towards.holds.4 in
      let mine : eqb own.id.0 own.id.0 ≡ true = eq-eqb own.id.0 own.id.0 refl in
      let is : access_by own.id.0 d (Key.Acl own.id.0 b.id.0) (acl_value c own b) ≡ Some (access_to c own b) = rw (mine, held) refl in
      only_access own.id.0 d (agent_rows t c a).acls (Key.Acl own.id.0 b.id.0, acl_value c own b) (access_to c own b) there is (λ f y in_f e.
      let to = leads_towards f y (list_of f in_f) e in
      let one : Some to.0 ≡ Some b = sym (target_is t c own to.0 d form v in_own to.1) ∙ target_is t c own b d form v in_own towards in
      let same : to.0 ≡ b = cc in
      to.2 ∙ ap (access_to c own) same)
