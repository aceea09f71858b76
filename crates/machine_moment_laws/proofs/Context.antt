-- Where an address lay in one network alone: what a configuration so far says of it.
use Rattle.std.specs.List.{Contains}
use Rattle.std.specs.Prelude.{List, Some, ℕ, true, ◌≡◌, ◌⊎◌}
use Rattle.std.proofs.Common.{ap, inl, inr, refl, subst, sym, ◌∙◌}
use Rattle.std.proofs.lemmas.Option.{same_Some}
use Rattle.ov_types.specs.Prefix.{Block, contains}
use Rattle.ov_types.specs.declared.numbers.InstanceId.{InstanceId}
use Rattle.ov_types.specs.declared.numbers.Label.{Label as LabelNo}
use Rattle.ov_types.specs.declared.numbers.PortNo.{PortNo}
use Rattle.ov_types.specs.declared.prefix.Addr.{Addr}
use Rattle.route_targets.specs.Numbers.{port_label_of}
use Rattle.config_types.specs.declared.config.Config.{Config}
use Rattle.config_types.specs.declared.config.Network.{Network}
use Rattle.config_types.specs.declared.config.Rule.{Rule}
use Rattle.schedule_script.specs.Ties.{AreNear, HasUse, Ties}
use Rattle.transform_model.specs.IsUse.{IsUse}
use Rattle.transform_model.specs.Uses.{ConfiguredUse}
use Rattle.transform_model.proofs.Blocks.{Holds, host_is}
use Rattle.transform_model.proofs.InUse.{among_all, numbered}
use Rattle.transform_model.proofs.Valid.{holds_port_address}
use Rattle.machine_laws.specs.Relating.{AreRelatedIn, StandsIn}
use Rattle.machine_laws.specs.Stood.{ComeFrom, InSome}
use Rattle.machine_laws.proofs.Found.{same_port}
use Rattle.machine_laws.proofs.Relating.{near_by}
use Rattle.machine_moment_laws.specs.Permission.{LayInAlone}
use Rattle.machine_moment_laws.proofs.SoFar.{IsPortOf, IsSoFar}

-- a use in effect is of a chain rule
pub has_use : (c : Config) (u : ConfiguredUse) → IsUse c u → HasUse c u.number (u.left.id, u.right.id)
has_use c u used =
    let n = numbered used.policy used.rule used.has_rule in
    record {
      rule = n.0;
      chain = used.chain;
      left = u.left;
      right = u.right;
      has_rule = among_all c used.policy n.0 used.has_policy n.1;
      has_left = used.has_left;
      has_right = used.has_right;
      leads = ap (λ (r : Rule). r.action) n.2 ∙ used.leads;
      from = ap (λ (r : Rule). r.source) n.2 ∙ used.from;
      to = ap (λ (r : Rule). r.destination) n.2 ∙ used.to;
      left_is = refl;
      right_is = refl;
    }

-- the two networks of a use are those of its tie
pub use_ends : (t : Ties) (cs : List Config) (c : Config) → IsSoFar t cs c → (u : ConfiguredUse) → IsUse c u → (number : ℕ) → u.number ≡ number → (left right : InstanceId) → t.chain_use number ≡ Some (left, right) → (u.left.id ≡ left) × (u.right.id ≡ right)
use_ends t cs c so_far u is number same left right e =
    let one = same_Some (pair u.left.id u.right.id) (pair left right) (sym (so_far.as_tied.uses u.number (u.left.id, u.right.id) (has_use c u is)) ∙ ap t.chain_use same ∙ e) in
    (ap (λ (x : InstanceId × InstanceId). x.0) one, ap (λ (x : InstanceId × InstanceId). x.1) one)
  where
    pair : InstanceId → InstanceId → InstanceId × InstanceId
    pair a b = (a, b)

-- a network of a configuration so far has a subnet that holds the address
pub record IsHeld (t : Ties) (cs : List Config) (address : ℕ) : Type 0 where
  pub config : Config
  pub so_far : IsSoFar t cs config
  pub network : Network
  pub has_network : Contains config.networks network
  pub holds_it : Holds network address

-- a port of this label stood in its network
pub port_in : (t : Ties) (cs : List Config) (to n : InstanceId) (prefix : Block) (label : LabelNo) → (p : IsPortOf t cs n prefix label) → n ≡ to → (q : PortNo) → label ≡ port_label_of q → InSome cs (λ c. StandsIn c q to)
port_in t cs to n prefix label p e q at =
    subst (λ (q : PortNo). InSome cs (λ c. StandsIn c q to)) (same_port p.port.id q (sym p.label_is ∙ at))
    (p.config, p.so_far.among, record { port = p.port; home = p.home; has_port = p.has_port; has_home = p.has_home; home_of = p.home_of; number_is = refl; network_is = p.number ∙ e })

module _ (t : Ties) (cs : List Config) (come : ComeFrom t cs) (from to : InstanceId) (d : Addr) (alone : LayInAlone cs from to d) where
  -- a network near to the first, of which a subnet holds the address, is the second
  pub lies_in : (c : Config) → IsSoFar t cs c → (n : Network) → Contains c.networks n → AreNear t from n.id → Holds n d.0 → n.id ≡ to
  lies_in c so_far n in_n near held = alone c n so_far.among in_n (nearby near) held
    where
      nearby : AreNear t from n.id → (n.id ≡ from) ⊎ InSome cs (λ e. AreRelatedIn e from n.id)
      nearby (inl same) = inl (sym same)
      nearby (inr r) = elim (near_by cs from n.id (inr (come.related from n.id r))) as (λ _. (n.id ≡ from) ⊎ InSome cs (λ e. AreRelatedIn e from n.id)) [ inl same ↦ inl (sym same) | inr some ↦ inr some ]

  module _ (n : InstanceId) (prefix : Block) (label : LabelNo) (p : IsPortOf t cs n prefix label) (near : AreNear t from n) (hit : contains prefix d.0 ≡ true) where
    home_holds : Holds p.home d.0
    home_holds =
        subst (Holds p.home) (host_is p.port.address.0 d.0 (subst (λ (b : Block). contains b d.0 ≡ true) p.prefix_is hit))
        (holds_port_address p.so_far.topology p.config p.so_far.valid p.home p.port p.has_home p.has_port p.home_of)

    home_is : p.home.id ≡ to
    home_is = lies_in p.config p.so_far p.home p.has_home (subst (AreNear t from) (sym p.number) near) home_holds

    -- a port at the address, in a network near to the first, is in the second
    pub port_lies_in : n ≡ to
    port_lies_in = sym p.number ∙ home_is

    pub port_stands : (q : PortNo) → label ≡ port_label_of q → InSome cs (λ c. StandsIn c q to)
    port_stands = port_in t cs to n prefix label p port_lies_in
