-- Objects as access lists of a network.
use Rattle.std.proofs.Common.{◌≡◌, ℕ, true, false, cond, List, Some, None, refl, sym, ap, ◌∙◌, eq-eqb}
use Rattle.std.specs.List.{list_any}
use Rattle.ov_types.specs.Prefix.{Block, contains}
use Rattle.ov_types.specs.Access.{access_by}
use Rattle.ov_types.specs.declared.objects.AclRule.{AclRule}
use Rattle.ov_types.specs.declared.objects.LowKey.{LowKey}
use Rattle.ov_types.specs.declared.objects.LowKey.TheVariants as Key
use Rattle.ov_types.specs.declared.objects.LowValue.{LowValue}
use Rattle.ov_types.specs.declared.objects.LowValue.TheVariants as Value

module _ (n a from to : ℕ) (k : LowKey) (v : LowValue) (subnets : List Block) (rules : List AclRule) (hk : k ≡ Key.Acl from to) (hv : v ≡ Value.Acl subnets rules) (here : from ≡ n) where
  pub spelled : access_by n a k v ≡ cond (list_any (λ p. contains p a) subnets) (Some (record { to = to; rules = rules })) None
  spelled = rw (hk, hv, eq-eqb from n here) refl

  pub left_out : false ≡ list_any (λ p. contains p a) subnets → None ≡ access_by n a k v
  left_out no_subnet = sym (spelled ∙ rw (sym no_subnet) refl)

  pub taken : true ≡ list_any (λ p. contains p a) subnets → (rs : List AclRule) → rs ≡ rules → Some (record { to = to; rules = rs }) ≡ access_by n a k v
  taken some_subnet rs same = sym (spelled ∙ rw (sym some_subnet) refl ∙ ap (λ (r : List AclRule). Some (record { to = to; rules = r })) (sym same))
