-- One key for all that is told on sessions, so that one kind of map and one kind of change serve every session.
use Rattle.std.specs.Prelude.{◌≡◌, ℕ, List, [], ◌∷◌, ◌==◌, if◌then◌else◌, get_or}
use Rattle.std.specs.declared.cmp.Ordering.{Ordering}
use Rattle.std.specs.Ordering.{nat_cmp}
use Rattle.std.specs.Cmp.Lexicographic.{slice_cmp}
use Rattle.std.specs.Coded.{Coded, code_by, coded_list, coded_ℕ}
use Rattle.std.proofs.Common.{refl}
use Rattle.ov_types.specs.Prefix.{Block}
use Rattle.ov_types.specs.declared.keys.DownKey.{DownKey}
use Rattle.ov_types.specs.declared.keys.DownKey.TheVariants as Down
use Rattle.ov_types.specs.declared.keys.UpKey.{UpKey}
use Rattle.ov_types.specs.declared.keys.UpKey.TheVariants as Up
use Rattle.ov_types.specs.declared.numbers.InstanceId.{InstanceId}
use Rattle.ov_types.specs.declared.objects.LowKey.{LowKey}
use Rattle.ov_types.specs.declared.objects.LowKey.TheVariants as Object
use Rattle.ov_types.specs.declared.vpn.VpnKey.{VpnKey}

pub data Key : Type 0 where
  -- a low-level object, from the feed and in a slice
  Low : LowKey → Key
  -- a route between control nodes
  Vpn : VpnKey → Key
  -- a row of an instance's table, to an agent
  Row : InstanceId → Block → Key
  -- a prefix that an agent publishes in an instance, and an instance that it subscribes
  Publish : InstanceId → Block → Key
  Subscribe : InstanceId → Key

-- the typed keys of a direction
abbrev pub of_down : DownKey → Key
of_down (Down.Slice k) = Low k
of_down (Down.Route i p) = Row i p

abbrev pub of_up : UpKey → Key
of_up (Up.Publish i p) = Publish i p
of_up (Up.Subscribe i) = Subscribe i

-- the kind's place, and then the numbers
abbrev pub low_numbers : LowKey → List ℕ
low_numbers (Object.Instance n) = 0 ∷ n ∷ []
low_numbers (Object.Attach label) = 1 ∷ label ∷ []
low_numbers (Object.Acl from to) = 2 ∷ from ∷ to ∷ []
low_numbers (Object.ChainUse use_no) = 3 ∷ use_no ∷ []

abbrev pub numbers : Key → List ℕ
numbers (Low k) = 0 ∷ low_numbers k
numbers (Vpn k) = 1 ∷ k.rd.0 ∷ k.prefix.addr ∷ k.prefix.len ∷ []
numbers (Row i p) = 2 ∷ i.0 ∷ p.addr ∷ p.len ∷ []
numbers (Publish i p) = 3 ∷ i.0 ∷ p.addr ∷ p.len ∷ []
numbers (Subscribe i) = 4 ∷ i.0 ∷ []

-- keys go by kind, in the order in which they are listed, and then by number
abbrev pub key_cmp : Key → Key → Ordering
key_cmp a b = slice_cmp nat_cmp (numbers a) (numbers b)

-- ---- a key is told by its numbers
abbrev pub at : List ℕ → ℕ → ℕ
at ns i = get_or ns i 0

abbrev pub low_of : List ℕ → LowKey
low_of ns =
    if at ns 1 == 0 then Object.Instance (at ns 2)
    else if at ns 1 == 1 then Object.Attach (at ns 2)
    else if at ns 1 == 2 then Object.Acl (at ns 2) (at ns 3)
    else Object.ChainUse (at ns 2)

abbrev pub block_of : List ℕ → Block
block_of ns = record { addr = at ns 2; len = at ns 3 }

abbrev pub key_of_numbers : List ℕ → Key
key_of_numbers ns =
    if at ns 0 == 0 then Low (low_of ns)
    else if at ns 0 == 1 then Vpn (record { rd = record { 0 = at ns 1 }; prefix = block_of ns })
    else if at ns 0 == 2 then Row (record { 0 = at ns 1 }) (block_of ns)
    else if at ns 0 == 3 then Publish (record { 0 = at ns 1 }) (block_of ns)
    else Subscribe (record { 0 = at ns 1 })

pub numbers_tell : (k : Key) → key_of_numbers (numbers k) ≡ k
numbers_tell (Low (Object.Instance n)) = refl
numbers_tell (Low (Object.Attach label)) = refl
numbers_tell (Low (Object.Acl from to)) = refl
numbers_tell (Low (Object.ChainUse use_no)) = refl
numbers_tell (Vpn k) = refl
numbers_tell (Row i p) = refl
numbers_tell (Publish i p) = refl
numbers_tell (Subscribe i) = refl

abbrev pub coded_key : Coded Key
coded_key = code_by (List ℕ) (coded_list coded_ℕ) numbers key_of_numbers numbers_tell
