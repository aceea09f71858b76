-- What peers told, place by place.
use Rattle.std.specs.Prelude.{◌≡◌, ℕ, zero, suc, ◌+◌, ◌<◌, ◌≤◌, ◌-◌, List, [], ◌∷◌, ◌++◌, map, length, Some}
use Rattle.std.specs.List.{slice_get, slice_set}
use Rattle.std.proofs.lemmas.Option.{same_Some}
use Rattle.std.proofs.Common.{refl, sym, ◌∙◌, ap, arith}
use Rattle.ov_sync.specs.declared.Delta.{Delta}
use Rattle.ov_sync.specs.Keyed.{changed, map_of}
use Rattle.ov_sync.specs.Embed.{moved_delta}
use Rattle.ov_types.specs.declared.vpn.VpnKey.{VpnKey}
use Rattle.ov_types.specs.declared.vpn.VpnRoute.{VpnRoute}
use Rattle.path_select.specs.NodeModel.Keys.{Vpn}
use Rattle.path_select.specs.NodeModel.Values.{Route}
use Rattle.path_select.specs.NodeModel.Maps.{Map, Change}
use Rattle.vpn_holdings.specs.Views.{vpn_order, peer_of}
use Rattle.vpn_holdings.specs.Changes.{changed_at, emptied_at}
use Rattle.vpn_holdings.specs.Seats.{nothings}
use Rattle.vpn_holdings.proofs.Images.{peer-empty, peer-changed}

abbrev Peer : Type 0
Peer = List (VpnKey × VpnRoute)

pub emptied_within : (ps : List Peer) (place : ℕ) → place < length ps → map peer_of (slice_set ps place []) ≡ emptied_at (map peer_of ps) place
emptied_within [] place h = absurd (omega (arith, h))
emptied_within (p ∷ ps) zero h = ap (λ (m : Map). m ∷ map peer_of ps) peer-empty
emptied_within (p ∷ ps) (suc place) h = ap (λ (ms : List Map). peer_of p ∷ ms) (emptied_within ps place (omega (arith, h)))

pub emptied_past : (ps : List Peer) (place : ℕ) → length ps ≤ place → map peer_of ps ≡ emptied_at (map peer_of ps) place
emptied_past [] place h = refl
emptied_past (p ∷ ps) zero h = absurd (omega (arith, h))
emptied_past (p ∷ ps) (suc place) h = ap (λ (ms : List Map). peer_of p ∷ ms) (emptied_past ps place (omega (arith, h)))

pub changed_within : (ps : List Peer) (place : ℕ) (es fs : Peer) (d : Delta VpnKey VpnRoute) → slice_get ps place ≡ Some es → map_of vpn_order fs ≡ changed (map_of vpn_order es) d
    → map peer_of (slice_set ps place fs) ≡ changed_at (map peer_of ps) place (moved_delta Vpn Route d)
changed_within [] place es fs d h e = cc
changed_within (p ∷ ps) zero es fs d h e =
    ap (λ (m : Map). m ∷ map peer_of ps) (peer-changed es fs d e ∙ ap (λ (q : Peer). changed (peer_of q) (moved_delta Vpn Route d)) (sym (same_Some p es h)))
changed_within (p ∷ ps) (suc place) es fs d h e = ap (λ (ms : List Map). peer_of p ∷ ms) (changed_within ps place es fs d h e)

from_nothing : (n : ℕ) (fs : Peer) (d : Delta VpnKey VpnRoute) → map_of vpn_order fs ≡ changed (map_of vpn_order []) d
    → map peer_of (nothings n ++ fs ∷ []) ≡ changed_at [] n (moved_delta Vpn Route d)
from_nothing zero fs d e = ap (λ (m : Map). m ∷ []) (peer-changed [] fs d e ∙ ap (λ (m : Map). changed m (moved_delta Vpn Route d)) peer-empty)
from_nothing (suc n) fs d e = (λ i. peer-empty i ∷ from_nothing n fs d e i)

past : (ps : List Peer) (n place : ℕ) (fs : Peer) (d : Delta VpnKey VpnRoute) → place ≡ length ps + n → map_of vpn_order fs ≡ changed (map_of vpn_order []) d
    → map peer_of (ps ++ (nothings n ++ fs ∷ [])) ≡ changed_at (map peer_of ps) place (moved_delta Vpn Route d)
past [] n place fs d at e = from_nothing n fs d e ∙ ap (λ (k : ℕ). changed_at [] k (moved_delta Vpn Route d)) (let k : n ≡ place = omega (arith, at) in k)
past (p ∷ ps) n zero fs d at e = absurd (omega (arith, at))
past (p ∷ ps) n (suc place) fs d at e = ap (λ (ms : List Map). peer_of p ∷ ms) (past ps n place fs d (omega (arith, at)) e)

pub changed_past : (ps : List Peer) (place : ℕ) (fs : Peer) (d : Delta VpnKey VpnRoute) → length ps ≤ place → map_of vpn_order fs ≡ changed (map_of vpn_order []) d
    → map peer_of (ps ++ (nothings (place - length ps) ++ fs ∷ [])) ≡ changed_at (map peer_of ps) place (moved_delta Vpn Route d)
changed_past ps place fs d h e = past ps (place - length ps) place fs d (omega (arith, h)) e

one_more : (n : ℕ) → nothings n ++ [] ∷ [] ≡ nothings (suc n)
one_more zero = refl
one_more (suc n) = ap (λ (ps : List Peer). [] ∷ ps) (one_more n)

pub pushed : (old now : List Peer) (k : ℕ) → length old ≤ k → now ≡ old ++ nothings (k - length old) → now ++ [] ∷ [] ≡ old ++ nothings (k + 1 - length old)
pushed old now k h e =
    ap (λ (ps : List Peer). ps ++ [] ∷ []) e ∙ assoc old (nothings (k - length old)) ([] ∷ [])
    ∙ ap (λ (ps : List Peer). old ++ ps) (one_more (k - length old) ∙ ap nothings (let s : suc (k - length old) ≡ k + 1 - length old = omega (arith, h) in s))
  where
    assoc : (xs ys zs : List Peer) → (xs ++ ys) ++ zs ≡ xs ++ (ys ++ zs)
    assoc [] ys zs = refl
    assoc (x ∷ xs) ys zs = ap (λ (l : List Peer). x ∷ l) (assoc xs ys zs)

-- ---- how many there are
length-map : (ps : List Peer) → length (map peer_of ps) ≡ length ps
length-map [] = refl
length-map (p ∷ ps) = (let e = length-map ps in omega (arith, e))

length-changed : (ms : List Map) (place n : ℕ) (d : Change) → length ms ≤ n → place < n → length (changed_at ms place d) ≤ n
length-changed [] zero n d h lt = omega (arith, lt)
length-changed [] (suc place) zero d h lt = absurd (omega (arith, lt))
length-changed [] (suc place) (suc n) d h lt = (let e = length-changed [] place n d (omega arith) (omega (arith, lt)) in omega (arith, e))
length-changed (m ∷ ms) zero n d h lt = omega (arith, h)
length-changed (m ∷ ms) (suc place) zero d h lt = absurd (omega (arith, lt))
length-changed (m ∷ ms) (suc place) (suc n) d h lt = (let e = length-changed ms place n d (omega (arith, h)) (omega (arith, lt)) in omega (arith, e))

length-emptied : (ms : List Map) (place : ℕ) → length (emptied_at ms place) ≡ length ms
length-emptied [] place = refl
length-emptied (m ∷ ms) zero = refl
length-emptied (m ∷ ms) (suc place) = (let e = length-emptied ms place in omega (arith, e))

pub fit_changed : (old new : List Peer) (place n : ℕ) (d : Change) → map peer_of new ≡ changed_at (map peer_of old) place d → place < n → length old ≤ n → length new ≤ n
fit_changed old new place n d e lt h =
    let a = length-changed (map peer_of old) place n d (let b = length-map old in omega (arith, b, h)) lt in
    let c = sym (length-map new) ∙ ap length e in
    omega (arith, a, c)

pub fit_emptied : (old new : List Peer) (place n : ℕ) → map peer_of new ≡ emptied_at (map peer_of old) place → length old ≤ n → length new ≤ n
fit_emptied old new place n e h =
    let a = length-map old in let b = length-emptied (map peer_of old) place in let c = sym (length-map new) ∙ ap length e in omega (arith, a, b, c, h)

pub fit_same : (old new : List Peer) (n : ℕ) → map peer_of new ≡ map peer_of old → length old ≤ n → length new ≤ n
fit_same old new n e h = let a = length-map old in let c = sym (length-map new) ∙ ap length e in omega (arith, a, c, h)
