-- What concerns an agent, by the networks of its ports.
use Rattle.std.specs.Prelude.{◌==◌, Bool, false, List}
use Rattle.std.specs.List.{list_any}
use Rattle.ov_types.specs.declared.numbers.InstanceId.{InstanceId}
use Rattle.ov_types.specs.declared.objects.LowKey.{LowKey}
use Rattle.ov_types.specs.declared.objects.LowKey.TheVariants.{Attach, Acl}
use Rattle.ov_types.specs.declared.objects.LowValue.{LowValue}
use Rattle.ov_types.specs.declared.prefix.Addr.{Addr}
use Rattle.transform_model.specs.NodeModel.Wants.{is_at}

-- the attachments at an address, and the access lists of these networks
abbrev pub concerns_among : List InstanceId → Addr → LowKey → LowValue → Bool
concerns_among networks a (Attach label) v = is_at a v
concerns_among networks a (Acl from to) v = list_any (λ n. n.0 == from) networks
concerns_among networks a _ v = false
