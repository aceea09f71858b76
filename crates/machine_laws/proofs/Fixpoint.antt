-- The compiled holdings want themselves.
use Rattle.std.specs.FinMap.{from_entries}
use Rattle.std.specs.List.{flat_map}
use Rattle.std.specs.Prelude.{Bool, List, cond, map, suc, ℕ, [], ◌++◌, ◌<◌, ◌∷◌, ◌≡◌, ◌≤◌}
use Rattle.std.proofs.Common.{ap, arith, inl, inr, refl}
use Rattle.ov_types.specs.Prefix.{Block}
use Rattle.node_laws.specs.NodeModel.Maps.{Map}
use Rattle.node_laws.specs.NodeModel.Members.{Member}
use Rattle.node_laws.specs.NodeModel.Paths.{Holdings, Path, own_paths}
use Rattle.node_laws.specs.NodeModel.Reaching.{Side, below, circuit_at, hop_at, into, is_up, publisher, reoriginated_paths, reoriginated_by, sides, subnets, towards}
use Rattle.node_laws.specs.NodeModel.Wants.{route_entry, wanted_by_peers}
use Rattle.node_laws.proofs.NodeModel.Routes.{from_below}
use Rattle.machine_laws.specs.Compiled.{Agents, compiled_holdings, leads_on, local, told_to_peers}
use Rattle.machine_laws.specs.Sound.{IsServed, IsSound}
use Rattle.machine_laws.proofs.Up.{up_is_held}

flat_map_same : {X Y : Type 0} (f g : X → List Y) (xs : List X) → ((x : X) → Member x xs → f x ≡ g x) → flat_map f xs ≡ flat_map g xs
flat_map_same f g [] h = refl
flat_map_same f g (x ∷ xs) h = λ i. h x (inl refl) i ++ flat_map_same f g xs (λ y m. h y (inr m)) i

-- two tests that agree make the same routes
reoriginated_same : (f g : Side → Block → ℕ → Bool) (h : Holdings) → ((s : Side) (subnet : Block) (d : ℕ) → Member s (sides h.feed) → Member subnet (subnets s) → d < s.chain.services → f s subnet d ≡ g s subnet d) → reoriginated_by f h ≡ reoriginated_by g h
reoriginated_same f g h same =
    flat_map_same (λ s. flat_map (into f h s) (below s.chain.services)) (λ s. flat_map (into g h s) (below s.chain.services)) (sides h.feed) (λ s m.
    flat_map_same (into f h s) (into g h s) (below s.chain.services) (λ d b.
    flat_map_same (λ subnet. cond (f s subnet d) (towards h (hop_at s (suc d)) subnet (publisher h (circuit_at s (suc d)))) []) (λ subnet. cond (g s subnet d) (towards h (hop_at s (suc d)) subnet (publisher h (circuit_at s (suc d)))) []) (subnets s) (λ subnet n.
    ap (λ b. cond b (towards h (hop_at s (suc d)) subnet (publisher h (circuit_at s (suc d)))) []) (same s subnet d m n (from_below s.chain.services d b)))))

module _ (asn : ℕ) (feed : Map) (agents : Agents) (peers : List Agents) (sound : IsSound feed) (served : IsServed feed agents peers) where
  pub reoriginated_is_compiled : reoriginated_paths (compiled_holdings asn feed agents peers) ≡ reoriginated_by (leads_on feed) (local asn feed agents)
  reoriginated_is_compiled =
      reoriginated_same (is_up (compiled_holdings asn feed agents peers)) (leads_on feed) (compiled_holdings asn feed agents peers) (λ s subnet d m n h.
      up_is_held asn feed agents peers sound s subnet m n served d (weaker d s.chain.services h))
    where
      weaker : (d k : ℕ) → d < k → d ≤ k
      weaker d k h = omega arith

  -- towards peers
  pub wants_itself_by_peers : wanted_by_peers (compiled_holdings asn feed agents peers) ≡ told_to_peers asn feed agents
  wants_itself_by_peers = ap (λ (ps : List Path). from_entries (map route_entry (own_paths (local asn feed agents) ++ ps))) reoriginated_is_compiled
