use Rattle.std.proofs.Common.{◌≡◌, ℕ, List, None, refl, sym, ◌∙◌, ap}
use Rattle.ov_types.specs.Prefix.{Block}
use Rattle.ov_types.specs.declared.numbers.InstanceId.{InstanceId}
use Rattle.ov_types.specs.declared.numbers.PortNo.{PortNo}
use Rattle.ov_types.specs.declared.numbers.ServiceNo.{ServiceNo}
use Rattle.ov_types.specs.declared.objects.AclRule.{AclRule}
use Rattle.ov_types.specs.declared.objects.LowKey.{LowKey}
use Rattle.ov_types.specs.declared.objects.LowKey.TheVariants as Key
use Rattle.ov_types.specs.declared.objects.LowValue.{LowValue}
use Rattle.ov_types.specs.declared.objects.LowValue.TheVariants as Value
use Rattle.ov_types.specs.declared.prefix.Addr.{Addr}
use Rattle.item_wire.specs.Changes.{item_of_object}
use Rattle.node_core.proofs.change_item.object_item.Goals as goal
use Rattle.node_core.proofs.change_item.object_item.Goals.{in_default-via-in-Instance+in_default, in_default-via-in-Attach+in_default, in_default-via-in-Acl+in_default, in_default-via-in-ChainUse+in_default}

no_instance : (n : ℕ) (v : LowValue) → ((imports : List InstanceId) → v ≡ Value.Instance imports → ⊥) → None ≡ item_of_object (Key.Instance n) v
no_instance n (Value.Instance imports) other = absurd (other imports refl)
no_instance n _ other = refl

no_attachment : (label : ℕ) (v : LowValue) → ((port : PortNo) (instance : InstanceId) (address node : Addr) → v ≡ Value.AttachPort port instance address node → ⊥) → ((circuit : ℕ) (service : ServiceNo) (node : Addr) → v ≡ Value.AttachCircuit circuit service node → ⊥) → None ≡ item_of_object (Key.Attach label) v
no_attachment label (Value.AttachPort port instance address node) no_port no_circuit = absurd (no_port port instance address node refl)
no_attachment label (Value.AttachCircuit circuit service node) no_port no_circuit = absurd (no_circuit circuit service node refl)
no_attachment label _ no_port no_circuit = refl

no_acl : (from to : ℕ) (v : LowValue) → ((subnets : List Block) (rules : List AclRule) → v ≡ Value.Acl subnets rules → ⊥) → None ≡ item_of_object (Key.Acl from to) v
no_acl from to (Value.Acl subnets rules) other = absurd (other subnets rules refl)
no_acl from to _ other = refl

no_use : (n : ℕ) (v : LowValue) → ((left right : InstanceId) (left_prefixes right_prefixes : List Block) (hops : List (ServiceNo × Addr)) → v ≡ Value.ChainUse left right left_prefixes right_prefixes hops → ⊥) → None ≡ item_of_object (Key.ChainUse n) v
no_use n (Value.ChainUse left right left_prefixes right_prefixes hops) other = absurd (other left right left_prefixes right_prefixes hops refl)
no_use n _ other = refl

under : (v : LowValue) (k k' : LowKey) → k ≡ k' → None ≡ item_of_object k' v → None ≡ item_of_object k v
under v k k' e h = h ∙ ap (λ (x : LowKey). item_of_object x v) (sym e)

pub returns-in_default-clause-item : goal.returns-in_default-clause-item
returns-in_default-clause-item c = elim c.in_default.branch [
  | in_default-via-in-Instance+in_default w ↦ under _ _ _ w.in_default.is-0 (no_instance _ _ w.in_default.not-Instance-1)
  | in_default-via-in-Attach+in_default w ↦ under _ _ _ w.in_default.is-0 (no_attachment _ _ w.in_default.not-AttachPort-1 w.in_default.not-AttachCircuit-1)
  | in_default-via-in-Acl+in_default w ↦ under _ _ _ w.in_default.is-0 (no_acl _ _ _ w.in_default.not-Acl-1)
  | in_default-via-in-ChainUse+in_default w ↦ under _ _ _ w.in_default.is-0 (no_use _ _ w.in_default.not-ChainUse-1)
]
