-- The orders of keys.
use Rattle.std.specs.Prelude.{ℕ}
use Rattle.std.specs.Ordering.{nat_cmp, ordering_then}
use Rattle.std.specs.declared.cmp.Ordering.{Ordering}
use Rattle.std.specs.declared.cmp.Ordering.TheVariants.{Less, Greater}
use Rattle.ov_types.specs.Prefix.{Block, block_cmp}
use Rattle.ov_types.specs.declared.numbers.InstanceId.{InstanceId}
use Rattle.ov_types.specs.declared.objects.LowKey.{LowKey}
use Rattle.ov_types.specs.declared.objects.LowKey.TheVariants.{Instance, Attach, Acl, ChainUse}
use Rattle.ov_types.specs.declared.keys.DownKey.{DownKey}
use Rattle.ov_types.specs.declared.keys.DownKey.TheVariants.{Slice, Route}
use Rattle.ov_types.specs.declared.keys.UpKey.{UpKey}
use Rattle.ov_types.specs.declared.keys.UpKey.TheVariants.{Publish, Subscribe}

-- instances come first, then attachments, then access lists, then uses of chains
abbrev pub kind_of : LowKey → ℕ
kind_of (Instance n) = 0
kind_of (Attach label) = 1
kind_of (Acl from to) = 2
kind_of (ChainUse use_no) = 3

-- keys go by kind, and of one kind by number; access lists by the network that packets come from, then the other
abbrev pub low_key_cmp : LowKey → LowKey → Ordering
low_key_cmp (Instance m) (Instance n) = nat_cmp m n
low_key_cmp (Attach m) (Attach n) = nat_cmp m n
low_key_cmp (Acl a b) (Acl c d) = ordering_then (nat_cmp a c) (nat_cmp b d)
low_key_cmp (ChainUse m) (ChainUse n) = nat_cmp m n
low_key_cmp a b = nat_cmp (kind_of a) (kind_of b)

-- a table's keys go by instance, then by prefix
abbrev pub row_key_cmp : InstanceId × Block → InstanceId × Block → Ordering
row_key_cmp a b = ordering_then (nat_cmp a.0.0 b.0.0) (block_cmp a.1 b.1)

-- objects of a slice come before routes
abbrev pub down_key_cmp : DownKey → DownKey → Ordering
down_key_cmp (Slice a) (Slice b) = low_key_cmp a b
down_key_cmp (Slice a) (Route i p) = Less
down_key_cmp (Route i p) (Slice b) = Greater
down_key_cmp (Route i p) (Route j q) = row_key_cmp (i, p) (j, q)

-- publications come before subscriptions
abbrev pub up_key_cmp : UpKey → UpKey → Ordering
up_key_cmp (Publish i p) (Publish j q) = row_key_cmp (i, p) (j, q)
up_key_cmp (Publish i p) (Subscribe j) = Less
up_key_cmp (Subscribe i) (Publish j q) = Greater
up_key_cmp (Subscribe i) (Subscribe j) = nat_cmp i.0 j.0
