-- Each direction's own keys keep their order among all keys.
use Rattle.std.specs.Prelude.{◌≡◌}
use Rattle.std.specs.declared.cmp.Ordering.{Ordering}
use Rattle.std.specs.declared.cmp.Ordering.TheVariants.{Equal}
use Rattle.std.specs.Ordering.{nat_cmp, ordering_then}
use Rattle.std.proofs.Common.{refl, ap}
use Rattle.ov_types.specs.Keys.{low_key_cmp, down_key_cmp, up_key_cmp}
use Rattle.ov_types.specs.Prefix.{Block, block_cmp}
use Rattle.ov_types.specs.declared.keys.DownKey.{DownKey}
use Rattle.ov_types.specs.declared.keys.DownKey.TheVariants as Down
use Rattle.ov_types.specs.declared.keys.UpKey.{UpKey}
use Rattle.ov_types.specs.declared.keys.UpKey.TheVariants as Up
use Rattle.ov_types.specs.declared.objects.LowKey.{LowKey}
use Rattle.ov_types.specs.declared.objects.LowKey.TheVariants.{Instance, Attach, Acl, ChainUse}
use Rattle.ov_types.specs.declared.vpn.VpnKey.{VpnKey}
use Rattle.node_model.specs.Keys.{Low, Vpn, key_cmp, of_down, of_up}
use Rattle.node_model.proofs.Orders.{then_equal}

pub low_keeps : (a b : LowKey) → key_cmp (Low a) (Low b) ≡ low_key_cmp a b
low_keeps (Instance m) (Instance n) = then_equal (nat_cmp m n)
low_keeps (Attach m) (Attach n) = then_equal (nat_cmp m n)
low_keeps (Acl a b) (Acl c d) = ap (ordering_then (nat_cmp a c)) (then_equal (nat_cmp b d))
low_keeps (ChainUse m) (ChainUse n) = then_equal (nat_cmp m n)
low_keeps (Instance m) (Attach n) = refl
low_keeps (Instance m) (Acl c d) = refl
low_keeps (Instance m) (ChainUse n) = refl
low_keeps (Attach m) (Instance n) = refl
low_keeps (Attach m) (Acl c d) = refl
low_keeps (Attach m) (ChainUse n) = refl
low_keeps (Acl a b) (Instance n) = refl
low_keeps (Acl a b) (Attach n) = refl
low_keeps (Acl a b) (ChainUse n) = refl
low_keeps (ChainUse m) (Instance n) = refl
low_keeps (ChainUse m) (Attach n) = refl
low_keeps (ChainUse m) (Acl c d) = refl

row_keeps : (first : Ordering) (p q : Block) → ordering_then first (ordering_then (nat_cmp p.addr q.addr) (ordering_then (nat_cmp p.len q.len) Equal)) ≡ ordering_then first (block_cmp p q)
row_keeps first p q = ap (λ r. ordering_then first (ordering_then (nat_cmp p.addr q.addr) r)) (then_equal (nat_cmp p.len q.len))

pub vpn_keeps : (a b : VpnKey) → key_cmp (Vpn a) (Vpn b) ≡ ordering_then (nat_cmp a.rd.0 b.rd.0) (block_cmp a.prefix b.prefix)
vpn_keeps a b = row_keeps (nat_cmp a.rd.0 b.rd.0) a.prefix b.prefix

pub down_keeps : (a b : DownKey) → key_cmp (of_down a) (of_down b) ≡ down_key_cmp a b
down_keeps (Down.Slice a) (Down.Slice b) = low_keeps a b
down_keeps (Down.Slice a) (Down.Route i p) = refl
down_keeps (Down.Route i p) (Down.Slice b) = refl
down_keeps (Down.Route i p) (Down.Route j q) = row_keeps (nat_cmp i.0 j.0) p q

pub up_keeps : (a b : UpKey) → key_cmp (of_up a) (of_up b) ≡ up_key_cmp a b
up_keeps (Up.Publish i p) (Up.Publish j q) = row_keeps (nat_cmp i.0 j.0) p q
up_keeps (Up.Publish i p) (Up.Subscribe j) = refl
up_keeps (Up.Subscribe i) (Up.Publish j q) = refl
up_keeps (Up.Subscribe i) (Up.Subscribe j) = then_equal (nat_cmp i.0 j.0)
