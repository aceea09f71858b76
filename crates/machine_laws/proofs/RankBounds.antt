-- Ranks lie between 1 and K + 5, and those between control nodes come after the greetings.
use Rattle.std.specs.List.{AllByRecursion, list_any}
use Rattle.std.specs.Prelude.{Bool, List, cond, false, nat_le, true, ℕ, [], ◌+◌, ◌-◌, ◌∷◌, ◌≡◌, ◌≤◌}
use Rattle.std.specs.declared.option.Option.TheVariants.{None, Some}
use Rattle.std.specs.declared.option.Option.{Option}
use Rattle.std.proofs.Common.{arith, refl, subst, sym, ◌∙◌}
use Rattle.std.proofs.lemmas.Bool.{leb-true, true≢false}
use Rattle.ov_types.specs.Prefix.{Block}
use Rattle.ov_types.specs.declared.numbers.InstanceId.{InstanceId}
use Rattle.machine_model.specs.Setup.{Setup}
use Rattle.node_laws.specs.NodeModel.Keys.{Key, Low, Publish, Row, Subscribe, Vpn}
use Rattle.node_laws.specs.NodeModel.Maps.{Map}
use Rattle.node_laws.specs.NodeModel.Ranks.{depth, depth_in, instance_in, peer_rank}
use Rattle.node_laws.specs.NodeModel.Tables.{same_prefix}
use Rattle.node_laws.specs.NodeModel.Uses.{Use, held_use, is_hop, place_of, use_of}
use Rattle.node_laws.proofs.NodeModel.Objects.{in_sides}
use Rattle.node_laws.proofs.NodeModel.Places.{use_found}
use Rattle.machine_model.specs.Moments.{NodePair}
use Rattle.machine_model.specs.Session.{Agent, Configuration, Controller, Role, are_peers}
use Rattle.machine_model.specs.Setup.{Name, longest, low}
use Rattle.machine_laws.specs.Settling.{RanksFit, back}
use Rattle.machine_laws.specs.Goal.{HasRoles, IsLaid, agent_rank, rank, rank_by, role_of}

-- ---- at least
pub peer_rank-ge : (feed : Map) (k : Key) → 4 ≤ peer_rank feed k
peer_rank-ge feed (Vpn v) = omega arith
peer_rank-ge feed (Low k) = omega arith
peer_rank-ge feed (Row i p) = omega arith
peer_rank-ge feed (Publish i p) = omega arith
peer_rank-ge feed (Subscribe i) = omega arith

agent_rank-ge : (n : ℕ) (k : Key) → 1 ≤ agent_rank n k
agent_rank-ge n (Low k) = omega arith
agent_rank-ge n (Vpn v) = omega arith
agent_rank-ge n (Row i p) = omega arith
agent_rank-ge n (Publish i p) = omega arith
agent_rank-ge n (Subscribe i) = omega arith

pub rank-ge : (x : Setup) (p q : Role) (k : Key) → 1 ≤ rank_by x p q k
rank-ge x Configuration q k = omega arith
rank-ge x Agent q k = omega arith
rank-ge x Controller Configuration k = omega arith
rank-ge x Controller Controller k = more (peer_rank (low x) k) (peer_rank-ge (low x) k)
  where
    more : (n : ℕ) → 4 ≤ n → 1 ≤ n
    more n h = omega arith
rank-ge x Controller Agent k = agent_rank-ge (longest x) k

-- ---- at most
four : (n : ℕ) → 4 ≤ 4 + n
four n = omega arith

depth_in-le : (u : Use) (j : ℕ) (p : Block) → depth_in p j (Some u) ≤ u.services
depth_in-le u j p =
    elim (nat_le j u.services) as (λ b. nat_le j u.services ≡ b → cond b (cond (list_any (same_prefix p) u.right_subnets) (u.services - j) (cond (list_any (same_prefix p) u.left_subnets) j 0)) 0 ≤ u.services) [
      | true ↦ λ e. inner (list_any (same_prefix p) u.right_subnets) (list_any (same_prefix p) u.left_subnets) (leb-true j u.services e)
      | false ↦ λ e. omega arith
    ] refl
  where
    inner : (b c : Bool) → j ≤ u.services → cond b (u.services - j) (cond c j 0) ≤ u.services
    inner true c h = omega arith
    inner false true h = h
    inner false false h = omega arith

depth-le : (x : Setup) (places : List NodePair) → IsLaid x places → (i : InstanceId) (p : Block) → depth (low x) i p ≤ longest x
depth-le x places laid i p =
    elim (is_hop i) as (λ b. cond b (depth_in p (place_of i) (held_use (low x) i)) 0 ≤ longest x) [
      | true ↦ go (held_use (low x) i) refl
      | false ↦ zero_le (longest x)
    ]
  where
    zero_le : (n : ℕ) → 0 ≤ n
    zero_le n = omega arith

    more : (a b c : ℕ) → a ≤ b → b ≤ c → a ≤ c
    more a b c h k = omega arith

    go : (o : Option Use) → held_use (low x) i ≡ o → depth_in p (place_of i) o ≤ longest x
    go None e = zero_le (longest x)
    go (Some u) e = more (depth_in p (place_of i) (Some u)) u.services (longest x) (depth_in-le u (place_of i) p) (laid.longest (record { chain = u; is_right = true }) (in_sides (low x) u true (use_found (low x) (use_of i) u e).0))

pub peer_rank-le : (x : Setup) (places : List NodePair) → IsLaid x places → (k : Key) → peer_rank (low x) k ≤ 4 + longest x
peer_rank-le x places laid (Vpn k) = add (depth (low x) (instance_in k.rd) k.prefix) (longest x) (depth-le x places laid (instance_in k.rd) k.prefix)
  where
    add : (a b : ℕ) → a ≤ b → 4 + a ≤ 4 + b
    add a b h = omega arith
peer_rank-le x places laid (Low k) = four (longest x)
peer_rank-le x places laid (Row i p) = four (longest x)
peer_rank-le x places laid (Publish i p) = four (longest x)
peer_rank-le x places laid (Subscribe i) = four (longest x)

agent_rank-le : (n : ℕ) (k : Key) → agent_rank n k ≤ n + 5
agent_rank-le n (Low k) = omega arith
agent_rank-le n (Vpn v) = omega arith
agent_rank-le n (Row i p) = omega arith
agent_rank-le n (Publish i p) = omega arith
agent_rank-le n (Subscribe i) = omega arith

one_le : (n : ℕ) → 1 ≤ n + 5
one_le n = omega arith

three_le : (n : ℕ) → 3 ≤ n + 5
three_le n = omega arith

rank_by-le : (y : Setup) (places : List NodePair) → IsLaid y places → (p q : Role) (k : Key) → rank_by y p q k ≤ longest y + 5
rank_by-le y places laid Configuration q k = one_le (longest y)
rank_by-le y places laid Agent q k = three_le (longest y)
rank_by-le y places laid Controller Configuration k = one_le (longest y)
rank_by-le y places laid Controller Controller k = more (peer_rank (low y) k) (longest y) (peer_rank-le y places laid k)
  where
    more : (a n : ℕ) → a ≤ 4 + n → a ≤ n + 5
    more a n h = omega arith
rank_by-le y places laid Controller Agent k = agent_rank-le (longest y) k

pub rank-le : (y : Setup) (places : List NodePair) → IsLaid y places → (from to : Name) (k : Key) → rank y from to k ≤ longest y + 5
rank-le y places laid from to k = rank_by-le y places laid (role_of y from) (role_of y to) k

-- ---- on a session
peers_are : (p q : Role) → are_peers p q ≡ true → (p ≡ Controller) × (q ≡ Controller)
peers_are Controller Controller e = (refl, refl)
peers_are Controller Configuration e = absurd (true≢false (sym e))
peers_are Controller Agent e = absurd (true≢false (sym e))
peers_are Configuration q e = absurd (true≢false (sym e))
peers_are Agent q e = absurd (true≢false (sym e))

module _ (y : Setup) (places : List NodePair) (laid : IsLaid y places) where
  fit : (p : NodePair) → HasRoles y p → RanksFit (rank y) p
  fit p r = (
    (λ k. rank-ge y (role_of y p.1.0) (role_of y p.0.0) k),
    (λ e k.
        let q = peers_are p.0.1 p.1.1 e in
        subst (λ a. 3 ≤ rank_by y a (role_of y p.0.0) k) (sym q.1 ∙ r.1) (subst (λ a. 3 ≤ rank_by y Controller a k) (sym q.0 ∙ r.0) (three (peer_rank (low y) k) (peer_rank-ge (low y) k)))),
  )
    where
      three : (n : ℕ) → 4 ≤ n → 3 ≤ n
      three n h = omega arith

  pub fits : (ps : List NodePair) → AllByRecursion (HasRoles y) ps → AllByRecursion (λ p. RanksFit (rank y) p × RanksFit (rank y) (back p)) ps
  fits [] a = tt
  fits (p ∷ ps) a = ((fit p a.0, fit (p.1, p.0) (a.0.1, a.0.0)), fits ps a.1)
