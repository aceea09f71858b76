-- Where routes that lead on lead, and which instances import.
use Rattle.std.specs.Prelude.{◌≡◌, ℕ, suc, ◌<◌, ◌≤◌, List, [], ◌∷◌, ◌++◌, map, Bool, true, false, cond, ◌==◌}
use Rattle.std.specs.declared.option.Option.{Option}
use Rattle.std.specs.declared.option.Option.TheVariants.{Some, None}
use Rattle.std.specs.List.{filter, list_any}
use Rattle.std.proofs.lemmas.Bool.{true≢false}
use Rattle.std.proofs.Common.{refl, sym, ◌∙◌, ap, subst, inl, inr, arith}
use Rattle.ov_types.specs.Prefix.{Block}
use Rattle.ov_types.specs.declared.numbers.InstanceId.{InstanceId}
use Rattle.ov_types.specs.declared.numbers.Label.{Label as LabelNo}
use Rattle.ov_types.specs.declared.prefix.Addr.{Addr}
use Rattle.ov_types.specs.declared.targets.Target.{Target}
use Rattle.route_targets.specs.Numbers.{target_of}
use Rattle.node_model.specs.Members.{Member}
use Rattle.node_model.specs.Uses.{hop, imports, is_known}
use Rattle.node_model.specs.Paths.{Holdings, Path, has_target}
use Rattle.node_model.specs.Reaching.{Side, subnets, hop_at, circuit_at, below, publisher, towards, into, is_up, AreShort}
use Rattle.node_model.specs.Tables.{known_instances}
use Rattle.node_model.proofs.Members.{from_flat_map, in_filter, in_flat_map, in_left, in_map, in_right, member_when}
use Rattle.node_model.proofs.Objects.{imports_nothing}
use Rattle.node_model.proofs.Routes.{from_below}
use Rattle.node_model.proofs.Unknown.{place_at, place_at-within, target_from}
use Rattle.vpn_holdings.specs.Listing.{hops}
use Rattle.vpn_holdings.specs.Touched.{imports_one, rows_at_use}
use Rattle.vpn_holdings.specs.Leading.{leads}
use Rattle.vpn_tables.proofs.Known.{in_places, known_in}

-- a route towards a circuit is of this prefix and this instance
towards_is : (h : Holdings) (i : InstanceId) (subnet : Block) (o : Option (Addr × LabelNo)) (p : Path) → Member p (towards h i subnet o) → (p.prefix ≡ subnet) × (p.targets ≡ target_of h.asn i ∷ [])
towards_is h i subnet None p m = absurd m
towards_is h i subnet (Some by) p (inl e) = (ap (λ (p : Path). p.prefix) (sym e), ap (λ (p : Path). p.targets) (sym e))
towards_is h i subnet (Some by) p (inr m) = absurd m

subnet_in : (s : Side) (subnet : Block) → Member subnet (subnets s) → Member subnet (s.chain.left_subnets ++ s.chain.right_subnets)
subnet_in s subnet m = by_side s.is_right m
  where
    by_side : (b : Bool) → Member subnet (cond b s.chain.right_subnets s.chain.left_subnets) → Member subnet (s.chain.left_subnets ++ s.chain.right_subnets)
    by_side true m = in_right subnet s.chain.left_subnets s.chain.right_subnets m
    by_side false m = in_left subnet s.chain.left_subnets s.chain.right_subnets m

abbrev at_row : InstanceId → Block → InstanceId × Block
at_row i q = (i, q)

-- a route along a side that leads into an instance is at one of the use's rows
pub along : (h : Holdings) (s : Side) (i : InstanceId) (q : Block) (p : Path) → Member p (leads h s) → has_target (target_of h.asn i ∷ []) p ≡ true → p.prefix ≡ q → Member (i, q) (rows_at_use s.chain)
along h s i q p m t e =
    let at_d = from_flat_map (into (is_up h) h s) p (below s.chain.services) m in
    let d = at_d.0 in
    let of_subnet = from_flat_map (λ subnet. cond (is_up h s subnet d) (towards h (hop_at s (suc d)) subnet (publisher h (circuit_at s (suc d)))) []) p (subnets s) at_d.2 in
    let subnet = of_subnet.0 in
    let w = member_when (is_up h s subnet d) p (towards h (hop_at s (suc d)) subnet (publisher h (circuit_at s (suc d)))) of_subnet.2 in
    let is = towards_is h (hop_at s (suc d)) subnet (publisher h (circuit_at s (suc d))) p w.1 in
    let into_i : i ≡ hop_at s (suc d) = only i (hop_at s (suc d)) (target_from h.asn (hop_at s (suc d)) (i ∷ []) p is.1 t) in
    let place = place_at s (suc d) in
    let k = s.chain.services in
    let there : Member i (hops s.chain) = subst (λ (j : InstanceId). Member j (hops s.chain)) (sym into_i) (in_map (hop s.chain) place (below k ++ k ∷ []) (in_places k place (place_at-within s (suc d) (next d k (from_below k d at_d.1))))) in
    in_flat_map (λ (i : InstanceId). map (λ (subnet : Block). (i, subnet)) (s.chain.left_subnets ++ s.chain.right_subnets)) i (at_row i q) (hops s.chain) there
    (in_map (λ (subnet : Block). (i, subnet)) q (s.chain.left_subnets ++ s.chain.right_subnets) (subst (λ (x : Block). Member x (s.chain.left_subnets ++ s.chain.right_subnets)) (sym is.0 ∙ e) (subnet_in s subnet of_subnet.1)))
  where
    next : (d k : ℕ) → d < k → suc d ≤ k
    next d k h = omega arith

    only : (i j : InstanceId) → Member j (i ∷ []) → i ≡ j
    only i j (inl e) = e
    only i j (inr e) = absurd e

-- an instance that imports is known
pub importing : (h : Holdings) (targets : List Target) (i : InstanceId) → AreShort h.feed → imports_one h targets i ≡ true → Member i (filter (imports_one h targets) (known_instances h.feed))
importing h targets i short e =
    in_filter (imports_one h targets) i (known_instances h.feed) (known_in h.feed i (elim (is_known h.feed i) as (λ b. is_known h.feed i ≡ b → b ≡ true) [
      | true ↦ λ _. refl
      | false ↦ λ unknown. absurd (true≢false (sym e ∙ nothing targets (imports h.feed i) (imports_none unknown)))
    ] refl)) e
  where
    imports_none : is_known h.feed i ≡ false → imports h.feed i ≡ []
    imports_none unknown = imports_nothing h.feed i unknown

    nothing : (ts : List Target) (is : List InstanceId) → is ≡ [] → list_any (λ t. list_any (λ u. t.0 == u.0) (map (target_of h.asn) is)) ts ≡ false
    nothing [] is n = refl
    nothing (t ∷ ts) is n = ap (λ (is : List InstanceId). list_any (λ t. list_any (λ u. t.0 == u.0) (map (target_of h.asn) is)) (t ∷ ts)) n ∙ nothing_of ts
      where
        nothing_of : (ts : List Target) → list_any (λ (t : Target). list_any (λ (u : Target). t.0 == u.0) []) ts ≡ false
        nothing_of [] = refl
        nothing_of (t ∷ ts) = nothing_of ts
