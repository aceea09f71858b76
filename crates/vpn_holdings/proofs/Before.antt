-- The targets of routes before and after a change.
use Rattle.std.specs.Prelude.{◌≡◌, ◌≤◌, ℕ, zero, suc, length, cond, is_some, List, [], ◌∷◌, ◌++◌, map}
use Rattle.std.specs.declared.option.Option.{Option}
use Rattle.std.specs.declared.option.Option.TheVariants.{Some, None}
use Rattle.std.specs.Option.{option_map}
use Rattle.std.specs.List.{flat_map, slice_get}
use Rattle.std.specs.FinMap.{empty, get, get-empty}
use Rattle.std.proofs.lemmas.Option.{same_Some}
use Rattle.std.proofs.Common.{refl, sym, ◌∙◌, ap, arith}
use Rattle.ov_sync.specs.declared.Delta.{Delta}
use Rattle.ov_sync.specs.declared.Delta.TheVariants.{Put, Drop}
use Rattle.ov_sync.specs.Embed.{moved_delta}
use Rattle.ov_sync.specs.Keyed.{key_of}
use Rattle.ov_types.specs.declared.targets.Target.{Target}
use Rattle.ov_types.specs.declared.vpn.VpnKey.{VpnKey}
use Rattle.ov_types.specs.declared.vpn.VpnRoute.{VpnRoute}
use Rattle.ov_types.specs.Prefix.{Block}
use Rattle.ov_types.specs.declared.keys.UpKey.{UpKey}
use Rattle.ov_types.specs.declared.keys.UpKey.TheVariants as Up
use Rattle.ov_types.specs.declared.numbers.InstanceId.{InstanceId}
use Rattle.path_select.specs.NodeModel.Keys.{Key, Vpn, key_cmp, of_up}
use Rattle.path_select.specs.NodeModel.Values.{Value, Route}
use Rattle.path_select.specs.NodeModel.Maps.{Map}
use Rattle.path_select.specs.NodeModel.Paths.{Holdings, Path, peer_path}
use Rattle.vpn_holdings.specs.Moved.{map_at, place_in, targets_by_route, told_as, value_of}
use Rattle.vpn_holdings.specs.Views.{peer_of}
use Rattle.std.proofs.lemmas.List.{append-nil, append_assoc}

abbrev pub targets_told : ℕ → Key → Option Value → List Target
targets_told s k o = flat_map (λ (p : Path). p.targets) (told_as (peer_path s) k o)

-- the targets of a route that is told, or not
abbrev pub targets_in : Option VpnRoute → List Target
targets_in None = []
targets_in (Some r) = r.targets

pub told_targets : (s : ℕ) (k : VpnKey) (o : Option VpnRoute) → targets_told s (Vpn k) (option_map Route o) ≡ targets_in o
told_targets s k None = refl
told_targets s k (Some r) = append-nil r.targets

pub map_is : (ps : List (List (VpnKey × VpnRoute))) (place : ℕ) (es : List (VpnKey × VpnRoute)) → slice_get ps place ≡ Some es → map_at (map peer_of ps) place ≡ peer_of es
map_is [] place es e = cc
map_is (p ∷ ps) zero es e = ap peer_of (same_Some p es e)
map_is (p ∷ ps) (suc place) es e = map_is ps place es e

pub map_past : (ps : List (List (VpnKey × VpnRoute))) (place : ℕ) → length ps ≤ place → map_at (map peer_of ps) place ≡ empty
map_past [] place h = refl
map_past (p ∷ ps) zero h = absurd (omega (arith, h))
map_past (p ∷ ps) (suc place) h = map_past ps place (omega (arith, h))

pub nothing_told : (s : ℕ) (k : Key) → targets_told s k (get {X = Value} {R = key_cmp} empty k) ≡ []
nothing_told s k = ap (targets_told s k) (get-empty key_cmp k)

split : (ps qs : List Path) → flat_map (λ (p : Path). p.targets) (ps ++ qs) ≡ flat_map (λ (p : Path). p.targets) ps ++ flat_map (λ (p : Path). p.targets) qs
split [] qs = refl
split (p ∷ ps) qs = ap (λ (l : List Target). p.targets ++ l) (split ps qs) ∙ sym (append_assoc p.targets (flat_map (λ (p : Path). p.targets) ps) (flat_map (λ (p : Path). p.targets) qs))

pub by_route : (h : Holdings) (session place : ℕ) (d : Delta VpnKey VpnRoute) (none a b : List Target) → session ≡ suc place → none ≡ []
    → a ≡ none ++ targets_told session (Vpn (key_of d)) (get (map_at h.peers place) (Vpn (key_of d)))
    → b ≡ a ++ targets_told session (Vpn (key_of d)) (value_of (moved_delta Vpn Route d)) → b ≡ targets_by_route h session d
by_route h zero place d none a b e en ea eb = cc
by_route h (suc n) place d none a b e en ea eb =
    let is : place ≡ n = same place n e in
    eb ∙ (λ i. (ea ∙ (λ j. en j ++ targets_told (suc n) (Vpn (key_of d)) (get (map_at h.peers (is j)) (Vpn (key_of d))))) i ++ targets_told (suc n) (Vpn (key_of d)) (value_of (moved_delta Vpn Route d)))
    ∙ of_delta d
  where
    same : (place n : ℕ) → suc n ≡ suc place → place ≡ n
    same place n e = omega arith

    of_delta : (d : Delta VpnKey VpnRoute) → targets_told (suc n) (Vpn (key_of d)) (get (map_at h.peers n) (Vpn (key_of d))) ++ targets_told (suc n) (Vpn (key_of d)) (value_of (moved_delta Vpn Route d)) ≡ targets_by_route h (suc n) d
    of_delta (Put k r) = sym (split (told_as (peer_path (suc n)) (Vpn k) (get (map_at h.peers n) (Vpn k))) (told_as (peer_path (suc n)) (Vpn k) (Some (Route r))))
    of_delta (Drop k) = sym (split (told_as (peer_path (suc n)) (Vpn k) (get (map_at h.peers n) (Vpn k))) [])

-- where a publication that is dropped stood
pub dropped_place : (m : Map) (i : InstanceId) (prefix : Block) (k : UpKey) (o : Option Value) → k ≡ Up.Publish i prefix → get m (of_up k) ≡ o → place_in m (Drop k) ≡ cond (is_some o) (Some i) None
dropped_place m i prefix k o e is = ap (λ k. place_in m (Drop k)) e ∙ ap (λ (o : Option Value). cond (is_some o) (Some i) None) (ap (λ k. get m (of_up k)) (sym e) ∙ is)
