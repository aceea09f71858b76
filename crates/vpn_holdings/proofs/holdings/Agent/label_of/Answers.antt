use Rattle.std.proofs.Common.{◌≡◌, ap, sym, ◌∙◌}
use Rattle.std.specs.FinMap.{get}
use Rattle.ov_sync.specs.Keyed.{map_of}
use Rattle.ov_types.specs.Prefix.{Block, host_prefix}
use Rattle.ov_types.specs.declared.keys.UpKey.TheVariants.{Publish}
use Rattle.ov_types.specs.declared.numbers.InstanceId.{InstanceId}
use Rattle.ov_types.specs.declared.prefix.Addr.{Addr}
use Rattle.route_targets.specs.Numbers.{circuit_address_of, circuit_instance_of}
use Rattle.vpn_holdings.specs.Views.{up_order}
use Rattle.vpn_holdings.proofs.Images.{told-label}
use Rattle.vpn_holdings.proofs.holdings.Agent.label_of.Goals as goal

pub returns : goal.returns
returns c =
    let host : c.host-host.result ≡ host_prefix (circuit_address_of c.args.circuit).0 = c.host-host.ensures ∙ ap (λ (a : Addr). host_prefix a.0) c.circuit_address.ensures in
    c.copied.ensures ∙ c.get.ensures
    ∙ ap (λ (i : InstanceId). get (map_of up_order c.args.self.now.told) (Publish i c.host-host.result)) c.circuit_instance-instance.ensures
    ∙ ap (λ (p : Block). get (map_of up_order c.args.self.now.told) (Publish (circuit_instance_of c.args.circuit) p)) host
    ∙ sym (told-label c.args.self.now.told (Publish (circuit_instance_of c.args.circuit) (host_prefix (circuit_address_of c.args.circuit).0)))
