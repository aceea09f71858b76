-- A verdict that enters an instance is of an entry of an access list.
use Rattle.std.specs.List.{list_any}
use Rattle.std.specs.Prelude.{List, Option, None, Some, cond, false, find, nat_le, true, ℕ, [], ◌&&◌, ◌==◌, ◌∷◌, ◌≡◌, ◌⊎◌}
use Rattle.std.proofs.Common.{ap, inl, inr, refl}
use Rattle.std.proofs.lemmas.Bool.{and_parts, eqb-true}
use Rattle.std.proofs.lemmas.Option.{same_Some}
use Rattle.ov_types.specs.Access.{Access, access_by, access_towards, holds, lesser, verdict, verdict_by, verdict_in, verdict_of}
use Rattle.ov_types.specs.Prefix.{Block, contains}
use Rattle.ov_types.specs.declared.numbers.InstanceId.{InstanceId}
use Rattle.ov_types.specs.declared.objects.AclAction.TheVariants as Does
use Rattle.ov_types.specs.declared.objects.AclAction.{AclAction}
use Rattle.ov_types.specs.declared.objects.AclRule.{AclRule}
use Rattle.ov_types.specs.declared.objects.LowKey.TheVariants as key
use Rattle.ov_types.specs.declared.objects.LowKey.{LowKey}
use Rattle.ov_types.specs.declared.objects.LowValue.TheVariants as low
use Rattle.ov_types.specs.declared.objects.LowValue.{LowValue}
use Rattle.ov_types.specs.declared.packet.Packet.{Packet}
use Rattle.ov_types.specs.declared.packet.RuleNo.{RuleNo}
use Rattle.ov_types.specs.declared.verdict.Verdict.TheVariants as Says
use Rattle.ov_types.proofs.FirstLemmas.{found_is}
use Rattle.node_laws.specs.NodeModel.Members.{Member}
use Rattle.node_laws.proofs.NodeModel.Members.{none_some}
use Rattle.node_laws.proofs.NodeModel.Members.{member_of}

-- ---- access lists
access_is : (network address : ℕ) (k : LowKey) (v : LowValue) (l : Access) → access_by network address k v ≡ Some l
    → (subnets : List Block) × (k ≡ key.Acl network l.to) × (v ≡ low.Acl subnets l.rules)
access_is network address (key.Acl from to) (low.Acl subnets rules) l e =
    elim ((from == network) && list_any (λ p. contains p address) subnets) as (λ b. ((from == network) && list_any (λ p. contains p address) subnets) ≡ b → cond b (Some (record { to = to; rules = rules })) None ≡ Some l
    → (ss : List Block) × (key.Acl from to ≡ key.Acl network l.to) × (low.Acl subnets rules ≡ low.Acl ss l.rules)) [
      | true ↦ λ is e.
          let same = same_Some (record { to = to; rules = rules }) l e in
          (subnets, (λ k. key.Acl (eqb-true from network (and_parts (from == network) (list_any (λ p. contains p address) subnets) is).0 k) (same k).to), (λ k. low.Acl subnets (same k).rules))
      | false ↦ λ is e. absurd (none_some l e)
    ] refl e
access_is network address (key.Acl from to) (low.Instance is) l e = absurd (none_some l e)
access_is network address (key.Acl from to) (low.AttachPort p i x n) l e = absurd (none_some l e)
access_is network address (key.Acl from to) (low.AttachCircuit c s n) l e = absurd (none_some l e)
access_is network address (key.Acl from to) (low.ChainUse a b c d f) l e = absurd (none_some l e)
access_is network address (key.Attach n) v l e = absurd (none_some l e)
access_is network address (key.Instance n) v l e = absurd (none_some l e)
access_is network address (key.ChainUse u) v l e = absurd (none_some l e)

lesser_is : (a b : Option Access) (l : Access) → lesser a b ≡ Some l → (a ≡ Some l) ⊎ (b ≡ Some l)
lesser_is None b l e = inr e
lesser_is (Some a) None l e = inl e
lesser_is (Some a) (Some b) l e = elim (nat_le a.to b.to) as (λ c. cond c (Some a) (Some b) ≡ Some l → (Some a ≡ Some l) ⊎ (Some b ≡ Some l)) [ true ↦ λ e. inl e | false ↦ λ e. inr e ] e

access_in : (network address : ℕ) (os : List (LowKey × LowValue)) (l : Access) → access_towards network address os ≡ Some l
    → (subnets : List Block) × Member (key.Acl network l.to, low.Acl subnets l.rules) os
access_in network address [] l e = absurd (none_some l e)
access_in network address (o ∷ os) l e =
    elim (lesser_is (access_by network address o.0 o.1) (access_towards network address os) l e) as (λ _. (subnets : List Block) × Member (key.Acl network l.to, low.Acl subnets l.rules) (o ∷ os)) [
      | inl h ↦ let q = access_is network address o.0 o.1 l h in (q.0, inl (λ k. (q.1 k, q.2 k)))
      | inr h ↦ let q = access_in network address os l h in (q.0, inr q.1)
    ]

pass_no_enter : (i : InstanceId) → Says.Pass ≡ Says.Enter i → ⊥
pass_no_enter i e = cc

denied_no_enter : (r : Option RuleNo) (i : InstanceId) → Says.Denied r ≡ Says.Enter i → ⊥
denied_no_enter r i e = cc

nowhere_no_enter : (i : InstanceId) → Says.NoDestination ≡ Says.Enter i → ⊥
nowhere_no_enter i e = cc

enters_same : (i j : InstanceId) → Says.Enter i ≡ Says.Enter j → i ≡ j
enters_same i j e = cc

entered_by : (a : AclAction) (number : RuleNo) (i : InstanceId) → verdict_of a number ≡ Says.Enter i → a ≡ Does.Enter i
entered_by Does.Pass number i e = absurd (pass_no_enter i e)
entered_by Does.Deny number i e = absurd (denied_no_enter (Some number) i e)
entered_by (Does.Enter j) number i e = ap (λ (i : InstanceId). Does.Enter i) (enters_same j i e)

decided_by : (o : Option AclRule) (i : InstanceId) → verdict_by o ≡ Says.Enter i → (r : AclRule) × (o ≡ Some r) × (r.action ≡ Does.Enter i)
decided_by None i e = absurd (denied_no_enter None i e)
decided_by (Some r) i e = (r, refl, entered_by r.action r.rule i e)

-- a verdict that enters is of an entry of an access list of the network
pub record IsEntered (lists : List (LowKey × LowValue)) (network : ℕ) (i : InstanceId) : Type 0 where
  pub to : ℕ
  pub subnets : List Block
  pub rules : List AclRule
  pub rule : AclRule
  pub held : Member (key.Acl network to, low.Acl subnets rules) lists
  pub of : Member rule rules
  pub enters : rule.action ≡ Does.Enter i

pub verdict_enters : (lists : List (LowKey × LowValue)) (network : ℕ) (p : Packet) (i : InstanceId) → verdict lists network p ≡ Says.Enter i → IsEntered lists network i
unfolding verdict
verdict_enters lists network p i e = by_access (access_towards network p.destination.0 lists) refl e
  where
    by_access : (o : Option Access) → access_towards network p.destination.0 lists ≡ o → verdict_in network p.tuple o ≡ Says.Enter i → IsEntered lists network i
    by_access None is e = absurd (nowhere_no_enter i e)
    by_access (Some l) is e =
        elim (l.to == network) as (λ b. cond b Says.Pass (verdict_by (find (λ r. holds r p.tuple) l.rules)) ≡ Says.Enter i → IsEntered lists network i) [
          | true ↦ λ e. absurd (pass_no_enter i e)
          | false ↦ λ e.
              let q = access_in network p.destination.0 lists l is in
              let d = decided_by (find (λ (r : AclRule). holds r p.tuple) l.rules) i e in
              record { to = l.to; subnets = q.0; rules = l.rules; rule = d.0; held = q.1; of = member_of l.rules d.0 (found_is (λ (r : AclRule). holds r p.tuple) l.rules d.0 d.1).1; enters = d.2 }
        ] e
