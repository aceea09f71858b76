-- The typed keys of each direction, by the orders of their types, and maps over them among the keys and values of all
-- sessions.
use Rattle.std.specs.Prelude.{◌≡◌, List, [], map}
use Rattle.std.specs.declared.cmp.Ordering.{Ordering}
use Rattle.std.specs.Cmp.{IsTotalOrder, on_total}
use Rattle.std.specs.Option.{option_map}
use Rattle.std.specs.List.Sorted.{IsStrictlySortedBy}
use Rattle.std.specs.FinMap.{IsAntisymmetric, get, entries, from_entries, empty}
use Rattle.std.proofs.Common.{refl, sym, ◌∙◌, ap, subst, rules}
use Rattle.ov_sync.specs.declared.Delta.{Delta}
use Rattle.ov_sync.specs.Keyed.{changed, map_of}
use Rattle.ov_sync.specs.Embed.{embedded, moved_entry, moved_delta}
use Rattle.ov_sync.proofs.Ascending.{entries-empty, entries-map_of, ascends}
use Rattle.ov_sync.proofs.EmbedLaws.{changed-embedded, entries-embedded, get_embedded}
use Rattle.ov_types.specs.Keys.{low_key_cmp, down_key_cmp, up_key_cmp}
use Rattle.ov_types.specs.declared.keys.DownKey.{DownKey}
use Rattle.ov_types.specs.declared.keys.DownKey.TheVariants as Down
use Rattle.ov_types.specs.declared.keys.UpKey.{UpKey}
use Rattle.ov_types.specs.declared.keys.UpKey.TheVariants as Up
use Rattle.ov_types.specs.declared.objects.LowKey.{LowKey}
use Rattle.ov_types.specs.declared.objects.LowKey.TheVariants as Object
use Rattle.ov_types.specs.declared.vpn.VpnKey.{VpnKey}
use Rattle.node_model.specs.Directions.{low_order, vpn_order, down_order, up_order}
use Rattle.node_model.specs.Keys.{Key, Low, Vpn, Row, Publish, Subscribe, key_cmp, of_down, of_up}
use Rattle.node_model.specs.Values.{Value}
use Rattle.node_model.proofs.Images as images
use Rattle.node_model.proofs.Orders.{key_total, key_exact}

-- ---- the order of a type is that of its numbers
low_same : (a b : LowKey) → low_key_cmp a b ≡ low_order a b
low_same (Object.Instance m) (Object.Instance n) = search rules
low_same (Object.Attach m) (Object.Attach n) = search rules
low_same (Object.Acl a b) (Object.Acl c d) = search rules
low_same (Object.ChainUse m) (Object.ChainUse n) = search rules
low_same (Object.Instance m) (Object.Attach n) = refl
low_same (Object.Instance m) (Object.Acl c d) = refl
low_same (Object.Instance m) (Object.ChainUse n) = refl
low_same (Object.Attach m) (Object.Instance n) = refl
low_same (Object.Attach m) (Object.Acl c d) = refl
low_same (Object.Attach m) (Object.ChainUse n) = refl
low_same (Object.Acl a b) (Object.Instance n) = refl
low_same (Object.Acl a b) (Object.Attach n) = refl
low_same (Object.Acl a b) (Object.ChainUse n) = refl
low_same (Object.ChainUse m) (Object.Instance n) = refl
low_same (Object.ChainUse m) (Object.Attach n) = refl
low_same (Object.ChainUse m) (Object.Acl c d) = refl

down_same : (a b : DownKey) → down_key_cmp a b ≡ down_order a b
down_same (Down.Slice a) (Down.Slice b) = low_same a b
down_same (Down.Slice a) (Down.Route i p) = refl
down_same (Down.Route i p) (Down.Slice b) = refl
down_same (Down.Route i p) (Down.Route j q) = search rules

up_same : (a b : UpKey) → up_key_cmp a b ≡ up_order a b
up_same (Up.Publish i p) (Up.Publish j q) = search rules
up_same (Up.Publish i p) (Up.Subscribe j) = refl
up_same (Up.Subscribe i) (Up.Publish j q) = refl
up_same (Up.Subscribe i) (Up.Subscribe j) = search rules

-- ---- typed keys keep their order among all keys
pub low_keeps : (a b : LowKey) → key_cmp (Low a) (Low b) ≡ low_order a b
low_keeps a b = images.low_keeps a b ∙ low_same a b

pub vpn_keeps : (a b : VpnKey) → key_cmp (Vpn a) (Vpn b) ≡ vpn_order a b
vpn_keeps a b = images.vpn_keeps a b ∙ search rules

pub down_keeps : (a b : DownKey) → key_cmp (of_down a) (of_down b) ≡ down_order a b
down_keeps a b = images.down_keeps a b ∙ down_same a b

pub up_keeps : (a b : UpKey) → key_cmp (of_up a) (of_up b) ≡ up_order a b
up_keeps a b = images.up_keeps a b ∙ up_same a b

-- ---- keys that lie as their images do are ordered, and told apart, as they are
image_total : {K : Type 0} (f : K → Key) (R : K → K → Ordering) → ((x y : K) → key_cmp (f x) (f y) ≡ R x y) → IsTotalOrder R
image_total f R keeps = subst IsTotalOrder (λ i x y. keeps x y i) (on_total f key_total)

image_exact : {K : Type 0} (f : K → Key) (back : Key → K) (R : K → K → Ordering) → ((x y : K) → key_cmp (f x) (f y) ≡ R x y) → ((x : K) → back (f x) ≡ x) → IsAntisymmetric R
image_exact f back R keeps again x y e = sym (again x) ∙ ap back (key_exact (f x) (f y) (keeps x y ∙ e)) ∙ again y

a_low : LowKey → Key → LowKey
a_low d (Low k) = k
a_low d _ = d

a_vpn : VpnKey → Key → VpnKey
a_vpn d (Vpn k) = k
a_vpn d _ = d

a_down : DownKey → Key → DownKey
a_down d (Low k) = Down.Slice k
a_down d (Row i p) = Down.Route i p
a_down d _ = d

an_up : UpKey → Key → UpKey
an_up d (Publish i p) = Up.Publish i p
an_up d (Subscribe i) = Up.Subscribe i
an_up d _ = d

low_again : (d k : LowKey) → a_low d (Low k) ≡ k
unfolding a_low
low_again d k = refl

vpn_again : (d k : VpnKey) → a_vpn d (Vpn k) ≡ k
unfolding a_vpn
vpn_again d k = refl

down_again : (d k : DownKey) → a_down d (of_down k) ≡ k
unfolding a_down
down_again d (Down.Slice k) = refl
down_again d (Down.Route i p) = refl

up_again : (d k : UpKey) → an_up d (of_up k) ≡ k
unfolding an_up
up_again d (Up.Publish i p) = refl
up_again d (Up.Subscribe i) = refl

pub low_total : IsTotalOrder low_order
low_total = image_total Low low_order low_keeps

pub low_exact : IsAntisymmetric low_order
low_exact x y = image_exact Low (a_low x) low_order low_keeps (low_again x) x y

pub vpn_total : IsTotalOrder vpn_order
vpn_total = image_total Vpn vpn_order vpn_keeps

pub vpn_exact : IsAntisymmetric vpn_order
vpn_exact x y = image_exact Vpn (a_vpn x) vpn_order vpn_keeps (vpn_again x) x y

pub down_total : IsTotalOrder down_order
down_total = image_total of_down down_order down_keeps

pub down_exact : IsAntisymmetric down_order
down_exact x y = image_exact of_down (a_down x) down_order down_keeps (down_again x) x y

pub up_total : IsTotalOrder up_order
up_total = image_total of_up up_order up_keeps

pub up_exact : IsAntisymmetric up_order
up_exact x y = image_exact of_up (an_up x) up_order up_keeps (up_again x) x y

-- ---- maps over such keys
module _ {K V : Type 0} {R : K → K → Ordering} (f : K → Key) (g : V → Value) (o : IsTotalOrder R) (exact : IsAntisymmetric R) (keeps : (x y : K) → key_cmp (f x) (f y) ≡ R x y) where
  pub image-empty : embedded {S = key_cmp} f g (map_of R []) ≡ empty
  image-empty = ap (λ (es : List (K × V)). from_entries {R = key_cmp} (map (moved_entry f g) es)) (entries-empty {V = V} R)

  pub image-changed : (es fs : List (K × V)) (d : Delta K V) → map_of R fs ≡ changed (map_of R es) d → embedded {S = key_cmp} f g (map_of R fs) ≡ changed (embedded f g (map_of R es)) (moved_delta f g d)
  image-changed es fs d e = ap (embedded f g) e ∙ sym (changed-embedded f g o key_total keeps exact key_exact (map_of R es) d)

  pub image-get : (es : List (K × V)) (k : K) → get (embedded {S = key_cmp} f g (map_of R es)) (f k) ≡ option_map g (get (map_of R es) k)
  image-get es k = get_embedded f g o key_total keeps (map_of R es) k

  pub image-entries : (es : List (K × V)) → IsStrictlySortedBy R (map (λ e. e.0) es) → entries (embedded {S = key_cmp} f g (map_of R es)) ≡ map (moved_entry f g) es
  image-entries es h = entries-embedded f g o key_total keeps exact (map_of R es) ∙ ap (map (moved_entry f g)) (entries-map_of R o es (ascends R es h))
