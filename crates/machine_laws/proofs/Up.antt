-- In the compiled holdings a subnet of a side is up at each place of the chain exactly where it holds a port of the side's network.
use Rattle.std.specs.Prelude.{Bool, List, false, is_some, map, nat_le, suc, true, zero, ℕ, [], ◌&&◌, ◌++◌, ◌+◌, ◌∷◌, ◌≡◌, ◌≤◌, ◌⊎◌}
use Rattle.std.proofs.Common.{ap, arith, inl, inr, subst, sym, ◌∙◌}
use Rattle.std.proofs.lemmas.Bool.{and_from, and_parts, le-leb, leb-true, or_cases, or_left, or_right, true≢false}
use Rattle.ov_types.specs.Prefix.{Block, is_inside, size_of}
use Rattle.ov_types.specs.declared.numbers.InstanceId.{InstanceId}
use Rattle.route_targets.specs.Numbers.{circuit_instance_of, target_of}
use Rattle.node_laws.specs.NodeModel.Maps.{Map}
use Rattle.node_laws.specs.NodeModel.Members.{Member}
use Rattle.node_laws.specs.NodeModel.Paths.{Holdings, Path, has_target, own_paths, peer_paths, received}
use Rattle.node_laws.specs.NodeModel.Reaching.{Side, circuit_at, has_path_within, hop_at, is_up, network, publisher, reoriginated_by, sides, subnets}
use Rattle.node_laws.specs.NodeModel.Uses.{imports, use_of}
use Rattle.node_laws.proofs.NodeModel.Members.{any_in, from_any, from_filter, iff_same, in_either, in_filter, in_left, in_right}
use Rattle.node_laws.proofs.NodeModel.Objects.{same_use, side_use, use_of-hop}
use Rattle.node_laws.proofs.NodeModel.Places.{imported, inside_itself, network_small, other_in, sides_apart}
use Rattle.node_laws.proofs.NodeModel.Unknown.{le_trans, place_at, target_from, target_in}
use Rattle.machine_laws.specs.Compiled.{Agents, Attachment, attachments, compiled_holdings, compiled_routes, holds, leads_on, lies_in, local, same_instance}
use Rattle.machine_laws.specs.Sound.{IsServed, IsSound, other}
use Rattle.machine_laws.proofs.Numbers.{circuit_at-instance, hop_not_network, imports_end, imports_itself, instance_is, instance_same, place_short}
use Rattle.machine_laws.proofs.Peers.{peers_found, peers_told, reoriginated_found, routes_told, same_target_by_rd}
use Rattle.machine_laws.proofs.Told.{IsAggregate, IsHost, IsTold, own_found, own_is_host, publisher_found}

is_inside-trans : (p q r : Block) → is_inside p q ≡ true → is_inside q r ≡ true → is_inside p r ≡ true
is_inside-trans p q r e f =
    let a = and_parts (nat_le q.addr p.addr) (nat_le (p.addr + size_of p.len) (q.addr + size_of q.len)) e in
    let b = and_parts (nat_le r.addr q.addr) (nat_le (q.addr + size_of q.len) (r.addr + size_of r.len)) f in
    and_from (nat_le r.addr p.addr) (nat_le (p.addr + size_of p.len) (r.addr + size_of r.len))
    (le-leb r.addr p.addr (le_trans r.addr q.addr p.addr (leb-true r.addr q.addr b.0) (leb-true q.addr p.addr a.0)))
    (le-leb (p.addr + size_of p.len) (r.addr + size_of r.len)
    (le_trans (p.addr + size_of p.len) (q.addr + size_of q.len) (r.addr + size_of r.len) (leb-true (p.addr + size_of p.len) (q.addr + size_of q.len) a.1) (leb-true (q.addr + size_of q.len) (r.addr + size_of r.len) b.1)))

-- ---- a port in a subnet
pub held_in : (feed : Map) (n : InstanceId) (subnet : Block) (a : Attachment) → Member a (attachments feed) → a.instance ≡ n → is_inside a.prefix subnet ≡ true → holds feed n subnet ≡ true
held_in feed n subnet a m e w = any_in (lies_in n subnet) a (attachments feed) m (and_from (same_instance a.instance n) (is_inside a.prefix subnet) (instance_same a.instance n e) w)

pub held_from : (feed : Map) (n : InstanceId) (subnet : Block) → holds feed n subnet ≡ true → (a : Attachment) × Member a (attachments feed) × (a.instance ≡ n) × (is_inside a.prefix subnet ≡ true)
held_from feed n subnet h =
    let q = from_any (lies_in n subnet) (attachments feed) h in
    let parts = and_parts (same_instance q.0.instance n) (is_inside q.0.prefix subnet) q.2 in
    (q.0, q.1, instance_is q.0.instance n parts.0, parts.1)

held_wider : (feed : Map) (n : InstanceId) (inner subnet : Block) → holds feed n inner ≡ true → is_inside inner subnet ≡ true → holds feed n subnet ≡ true
held_wider feed n inner subnet h w = let q = held_from feed n inner h in held_in feed n subnet q.0 q.1 q.2 (is_inside-trans q.0.prefix inner subnet q.3 w)

-- ---- sides of one use
pub same_side : (t s : Side) → t.chain ≡ s.chain → (t ≡ s) ⊎ (t ≡ other s)
same_side t s e = go t.is_right s.is_right
  where
    go : (b c : Bool) → ◌≡◌ {A = Side} (record { chain = t.chain; is_right = b }) (record { chain = s.chain; is_right = c }) ⊎ ◌≡◌ {A = Side} (record { chain = t.chain; is_right = b }) (other (record { chain = s.chain; is_right = c }))
    go true true = inl (λ i. record { chain = e i; is_right = true })
    go true false = inr (λ i. record { chain = e i; is_right = true })
    go false true = inr (λ i. record { chain = e i; is_right = false })
    go false false = inl (λ i. record { chain = e i; is_right = false })

pub same_chain : (feed : Map) (t s : Side) (c d : ℕ) → IsSound feed → Member t (sides feed) → Member s (sides feed) → c ≤ t.chain.services → d ≤ s.chain.services → hop_at t c ≡ hop_at s d → t.chain ≡ s.chain
same_chain feed t s c d sound m n h k e =
    same_use feed t.chain s.chain (side_use feed t m) (side_use feed s n)
    (sym (use_of-hop t.chain.number (place_at t c) (place_short feed t c sound.ordered m h)) ∙ ap use_of e ∙ use_of-hop s.chain.number (place_at s d) (place_short feed s d sound.ordered n k))

module _ (asn : ℕ) (feed : Map) (agents : Agents) (peers : List Agents) (sound : IsSound feed) where
  abbrev pub here : Holdings
  here = compiled_holdings asn feed agents peers

  pub all_told : (p : Path) → Member p (own_paths here ++ peer_paths here) → IsTold asn feed p
  all_told p m = elim (in_either p (own_paths here) (peer_paths here) m) as (λ _. IsTold asn feed p) [ inl l ↦ inl (own_is_host asn feed agents p l) | inr r ↦ peers_told asn feed agents peers p r ]

  path_in : (i n : InstanceId) (subnet : Block) (p : Path) → Member p (own_paths here ++ peer_paths here) → p.targets ≡ target_of asn n ∷ [] → Member n (imports feed i) → is_inside p.prefix subnet ≡ true → has_path_within here i subnet ≡ true
  path_in i n subnet p m t im w =
      any_in (λ (p : Path). is_inside p.prefix subnet) p (received here i) (in_filter (has_target (map (target_of asn) (imports feed i))) p (own_paths here ++ peer_paths here) m (target_in asn n (imports feed i) p t im)) w

  module _ (s : Side) (subnet : Block) (of_use : Member s (sides feed)) (of_side : Member subnet (subnets s)) where
    -- a path that is received at a place of the chain and lies within the subnet shows a port there
    host_holds : (d : ℕ) (p : Path) → d ≤ s.chain.services → (t : IsHost asn feed p) → Member t.to.instance (imports feed (hop_at s d)) → is_inside p.prefix subnet ≡ true → holds feed (network s) subnet ≡ true
    host_holds d p h t im w =
        let w' : is_inside t.to.prefix subnet ≡ true = ap (λ (p : Block). is_inside p subnet) (sym t.prefix) ∙ w in
        elim (imported feed s d t.to.instance sound.ordered of_use h im) as (λ _. holds feed (network s) subnet ≡ true) [
          | inl e ↦ absurd (true≢false (sym w' ∙ sound.circuits_apart s subnet t.to d h of_use of_side t.attached e))
          | inr r ↦ elim r as (λ _. holds feed (network s) subnet ≡ true) [
            | inl e ↦ held_in feed (network s) subnet t.to t.attached e w'
            | inr e ↦ absurd (true≢false (sym w' ∙ sound.ports_apart s subnet t.to of_use of_side t.attached e))
          ]
        ]

    aggregate_holds : (d : ℕ) (p : Path) → d ≤ s.chain.services → (t : IsAggregate asn feed p) → Member t.to.instance (imports feed (hop_at s d)) → is_inside p.prefix subnet ≡ true → holds feed (network s) subnet ≡ true
    aggregate_holds d p h t im w =
        elim (imported feed s d t.to.instance sound.ordered of_use h im) as (λ _. holds feed (network s) subnet ≡ true) [
          | inl e ↦
              elim (same_side t.side s (same_chain feed t.side s (suc t.d) d sound t.of_use of_use t.within h (sym t.instance ∙ e))) as (λ _. holds feed (network s) subnet ≡ true) [
                | inl is ↦ held_wider feed (network s) p.prefix subnet (subst (λ s. holds feed (network s) p.prefix ≡ true) is t.held) w
                | inr is ↦ absurd (true≢false (sym w ∙ sides_apart feed s subnet p.prefix sound.ordered of_use of_side (subst (λ s. Member p.prefix (subnets s)) is t.subnet)))
              ]
          | inr r ↦ elim r as (λ _. holds feed (network s) subnet ≡ true) [
            | inl e ↦ absurd (hop_not_network t.side (suc t.d) (network s) (network_small feed s sound.ordered of_use) (sym t.instance ∙ e))
            | inr e ↦ absurd (hop_not_network t.side (suc t.d) (network (other s)) (network_small feed (other s) sound.ordered (other_in feed s of_use)) (sym t.instance ∙ e))
          ]
        ]

    within_holds : (d : ℕ) → d ≤ s.chain.services → has_path_within here (hop_at s d) subnet ≡ true → holds feed (network s) subnet ≡ true
    within_holds d h e =
        let q = from_any (λ (p : Path). is_inside p.prefix subnet) (received here (hop_at s d)) e in
        let f = from_filter (has_target (map (target_of asn) (imports feed (hop_at s d)))) q.0 (own_paths here ++ peer_paths here) q.1 in
        elim (all_told q.0 f.0) as (λ _. holds feed (network s) subnet ≡ true) [
          | inl t ↦ host_holds d q.0 h t (target_from asn t.to.instance (imports feed (hop_at s d)) q.0 t.targets f.1) q.2
          | inr t ↦ aggregate_holds d q.0 h t (target_from asn t.to.instance (imports feed (hop_at s d)) q.0 t.targets f.1) q.2
        ]

    up_holds : (d : ℕ) → d ≤ s.chain.services → is_up here s subnet d ≡ true → holds feed (network s) subnet ≡ true
    up_holds zero h e = within_holds zero h e
    up_holds (suc d) h e =
        elim (or_cases (has_path_within here (hop_at s (suc d)) subnet) (is_some (publisher here (circuit_at s (suc d))) && is_up here s subnet d) e) as (λ _. holds feed (network s) subnet ≡ true) [
          | inl l ↦ within_holds (suc d) h l
          | inr r ↦ up_holds d (omega (arith, h)) (and_parts (is_some (publisher here (circuit_at s (suc d)))) (is_up here s subnet d) r).1
        ]

    module _ (served : IsServed feed agents peers) where
      -- a route that a peer has makes a path here
      peer_path_in : (i n : InstanceId) (o : Agents) (q : Path) → Member o peers → Member q (compiled_routes asn feed o) → q.targets ≡ target_of asn n ∷ [] → Member n (imports feed i) → is_inside q.prefix subnet ≡ true → has_path_within here i subnet ≡ true
      peer_path_in i n o q m r t im w =
          let p = peers_found asn feed agents peers o q m r in
          path_in i n subnet p.0 (in_right p.0 (own_paths here) (peer_paths here) p.1)
          (same_target_by_rd asn feed p.0 q sound (peers_told asn feed agents peers p.0 p.1) (routes_told asn feed o q r) p.3 ∙ t) im (ap (λ (p : Block). is_inside p subnet) p.2 ∙ w)

      end_up : holds feed (network s) subnet ≡ true → has_path_within here (hop_at s 0) subnet ≡ true
      end_up e =
          let q = held_from feed (network s) subnet e in
          let a = q.0 in
          let im : Member a.instance (imports feed (hop_at s 0)) = subst (λ (n : InstanceId). Member n (imports feed (hop_at s 0))) (sym q.2) (imports_end feed s sound.ordered of_use) in
          elim (served a q.1) as (λ _. has_path_within here (hop_at s 0) subnet ≡ true) [
            | inl mine ↦ let f = own_found asn feed agents a sound q.1 mine in path_in (hop_at s 0) a.instance subnet f.0 (in_left f.0 (own_paths here) (peer_paths here) f.1) f.4 im (ap (λ (p : Block). is_inside p subnet) f.2 ∙ q.3)
            | inr far ↦
                let f = own_found asn feed far.0 a sound q.1 far.2 in
                peer_path_in (hop_at s 0) a.instance far.0 f.0 far.1 (in_left f.0 (own_paths (local asn feed far.0)) (reoriginated_by (leads_on feed) (local asn feed far.0)) f.1) f.4 im (ap (λ (p : Block). is_inside p subnet) f.2 ∙ q.3)
          ]

      held_up : (d : ℕ) → d ≤ s.chain.services → holds feed (network s) subnet ≡ true → is_up here s subnet d ≡ true
      held_up zero h e = end_up e
      held_up (suc d) h e =
          let i = hop_at s (suc d) in
          let c = sound.circuits s d of_use h in
          let at : c.0.instance ≡ circuit_instance_of (circuit_at s (suc d)) = c.2.0 ∙ sym (circuit_at-instance s (suc d)) in
          elim (served c.0 c.1) as (λ _. is_up here s subnet (suc d) ≡ true) [
            | inl mine ↦ or_right (has_path_within here i subnet) (is_some (publisher here (circuit_at s (suc d))) && is_up here s subnet d)
                (and_from (is_some (publisher here (circuit_at s (suc d)))) (is_up here s subnet d) (publisher_found feed agents (circuit_at s (suc d)) c.0 c.1 at c.2.1 mine) (held_up d (omega (arith, h)) e))
            | inr far ↦
                let f = reoriginated_found (leads_on feed) (local asn feed far.0) s d subnet of_use h of_side e (publisher_found feed far.0 (circuit_at s (suc d)) c.0 c.1 at c.2.1 far.2) in
                or_left (has_path_within here i subnet) (is_some (publisher here (circuit_at s (suc d))) && is_up here s subnet d)
                (peer_path_in i i far.0 f.0 far.1 (in_right f.0 (own_paths (local asn feed far.0)) (reoriginated_by (leads_on feed) (local asn feed far.0)) f.1) f.3
                (imports_itself feed s (suc d) sound.ordered of_use h) (ap (λ (p : Block). is_inside p subnet) f.2 ∙ inside_itself subnet))
          ]

      -- along the chain: up at a place exactly where the subnet holds a port
      pub up_is_held : (d : ℕ) → d ≤ s.chain.services → is_up here s subnet d ≡ holds feed (network s) subnet
      up_is_held d h = iff_same (is_up here s subnet d) (holds feed (network s) subnet) (up_holds d h) (held_up d h)
