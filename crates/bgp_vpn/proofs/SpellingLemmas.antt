-- Spellings that a reader passes over.
use Rattle.std.proofs.Common.{◌≡◌, ◌<◌, ◌+◌, ◌*◌, ◌/◌, ◌-◌, ◌^◌, ℕ, List, [], ◌∷◌, ◌++◌, length, refl, ap, ◌∙◌, arith, Some, map}
use Rattle.byteorder.specs.Endian.{big_bytes}
use Rattle.byteorder.specs.Numbers.{big_number-reads_back}
use Rattle.ov_types.specs.declared.prefix.Addr.{Addr}
use Rattle.ov_types.specs.declared.numbers.Label.{Label}
use Rattle.ov_types.specs.declared.numbers.Rd.{Rd}
use Rattle.ov_types.specs.declared.vpn.VpnKey.{VpnKey}
use Rattle.ov_types.specs.declared.targets.Target.{Target}
use Rattle.ov_types.specs.declared.vpn.VpnRoute.{VpnRoute}
use Rattle.ov_sync.specs.declared.Delta.{Delta}
use Rattle.ov_sync.specs.declared.Delta.TheVariants.{Put, Drop}
use Rattle.bgp_wire.specs.Attributes.{AttributeFields}
use Rattle.bgp_vpn.specs.Routes.{RouteFields, label_of, distinguisher_of, key_of, value_of, drop_of, put_of}
use Rattle.bgp_vpn.specs.Updates.{changes_of}
use Rattle.bgp_vpn.specs.Values.{next_hop_of, routes_behind, next_hop_in, targets_in}
use Rattle.bgp_vpn.specs.Spellings.{spelled_route, AgreeIn, reach_value}

abbrev label_is : ℕ → Label
label_is n = record { 0 = n }

abbrev rd_is : ℕ → Rd
rd_is n = record { 0 = n }

abbrev addr_is : ℕ → Addr
addr_is n = record { 0 = n }

pub label_read : (bits label low rd : ℕ) (prefix : List ℕ) → label < 2 ^ 20 → low < 16
    → label_of (spelled_route bits (label * 16 + low) rd prefix) ≡ label_is label
label_read bits label low rd prefix small lower =
    let back = big_number-reads_back 3 (label * 16 + low) (big_bytes 8 rd ++ prefix) (omega arith) in
    let upper : (label * 16 + low) / 16 ≡ label = omega arith in
    ap (λ (n : ℕ). label_is (n / 16)) back ∙ ap label_is upper

pub distinguisher_read : (bits field rd : ℕ) (prefix : List ℕ) → rd < 2 ^ 64
    → distinguisher_of (spelled_route bits field rd prefix) ≡ rd_is rd
distinguisher_read bits field rd prefix small = ap rd_is (big_number-reads_back 8 rd prefix small)

abbrev key : Rd → ℕ → ℕ → VpnKey
key rd len n = record { rd = rd; prefix = record { addr = n * 2 ^ (32 - len); len = len } }

pub trailing_passed : (bits field rd : ℕ) (p q : List ℕ) → AgreeIn (bits - 88) p q
    → key_of (spelled_route bits field rd p) ≡ key_of (spelled_route bits field rd q)
trailing_passed bits field rd p q agree =
    ap (key (distinguisher_of (spelled_route bits field rd p)) (bits - 88)) agree

pub hop_read : (first : List ℕ) (hop reserved : ℕ) (routes : List ℕ) → length first ≡ 8 → hop < 2 ^ 32
    → next_hop_of (Some (reach_value first hop reserved routes)) ≡ addr_is hop
hop_read (a ∷ b ∷ c ∷ d ∷ e ∷ f ∷ g ∷ h ∷ []) hop reserved routes eight small =
    ap addr_is (big_number-reads_back 4 hop (reserved ∷ routes) small)
hop_read _ hop reserved routes eight small = absurd (omega arith)

pub routes_read : (first : List ℕ) (hop reserved : ℕ) (routes : List ℕ) → length first ≡ 8
    → routes_behind 17 (Some (reach_value first hop reserved routes)) ≡ routes
routes_read (a ∷ b ∷ c ∷ d ∷ e ∷ f ∷ g ∷ h ∷ []) hop reserved routes eight = refl
routes_read _ hop reserved routes eight = absurd (omega arith)

abbrev change : Delta VpnKey VpnRoute → Delta VpnKey VpnRoute
change d = d

abbrev route_to : Addr → Label → List Target → VpnRoute
route_to hop label targets = record { next_hop = hop; label = label; targets = targets }

-- equal keys are dropped alike
same_drops : (w x : List RouteFields) → map key_of w ≡ map key_of x → map drop_of w ≡ map drop_of x
same_drops [] [] h = refl
same_drops [] (s ∷ x) h = absurd cc
same_drops (r ∷ w) [] h = absurd cc
same_drops (r ∷ w) (s ∷ x) h =
    let keys : key_of r ≡ key_of s = cc in
    let others : map key_of w ≡ map key_of x = cc in
    ap (λ (k : VpnKey). change (Drop k) ∷ map drop_of w) keys ∙ ap (λ (ds : List (Delta VpnKey VpnRoute)). drop_of s ∷ ds) (same_drops w x others)

-- and equal keys and labels put alike
same_puts : (hop : Addr) (targets : List Target) (w x : List RouteFields) → map key_of w ≡ map key_of x → map label_of w ≡ map label_of x
    → map (put_of hop targets) w ≡ map (put_of hop targets) x
same_puts hop targets [] [] h l = refl
same_puts hop targets [] (s ∷ x) h l = absurd cc
same_puts hop targets (r ∷ w) [] h l = absurd cc
same_puts hop targets (r ∷ w) (s ∷ x) h l =
    let keys : key_of r ≡ key_of s = cc in
    let labels : label_of r ≡ label_of s = cc in
    let others : map key_of w ≡ map key_of x = cc in
    let more : map label_of w ≡ map label_of x = cc in
    ap (λ (k : VpnKey). change (Put k (value_of hop targets r)) ∷ map (put_of hop targets) w) keys
    ∙ ap (λ (n : Label). change (Put (key_of s) (route_to hop n targets)) ∷ map (put_of hop targets) w) labels
    ∙ ap (λ (ds : List (Delta VpnKey VpnRoute)). put_of hop targets s ∷ ds) (same_puts hop targets w x others more)

pub same_changes : (a b : List AttributeFields) (withdrawn gone reached found : List RouteFields) → next_hop_in a ≡ next_hop_in b → targets_in a ≡ targets_in b
    → map key_of withdrawn ≡ map key_of gone → map key_of reached ≡ map key_of found → map label_of reached ≡ map label_of found
    → changes_of a withdrawn reached ≡ changes_of b gone found
same_changes a b withdrawn gone reached found hops targets drops keys labels =
    ap (λ (ds : List (Delta VpnKey VpnRoute)). ds ++ map (put_of (next_hop_in a) (targets_in a)) reached) (same_drops withdrawn gone drops)
    ∙ ap (λ (hop : Addr). map drop_of gone ++ map (put_of hop (targets_in a)) reached) hops
    ∙ ap (λ (ts : List Target). map drop_of gone ++ map (put_of (next_hop_in b) ts) reached) targets
    ∙ ap (λ (ds : List (Delta VpnKey VpnRoute)). map drop_of gone ++ ds) (same_puts (next_hop_in b) (targets_in b) reached found keys labels)
