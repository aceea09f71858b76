-- Places of a held use, from either end.
use Rattle.std.specs.Prelude.{◌≡◌, ◌⊎◌, ℕ, ◌+◌, ◌*◌, ◌-◌, ◌%◌, ◌<◌, ◌≤◌, List, [], ◌∷◌, Bool, true, false, not, cond, ◌==◌, nat_le}
use Rattle.std.specs.declared.option.Option.{Option}
use Rattle.std.specs.declared.option.Option.TheVariants.{Some, None}
use Rattle.std.specs.List.{list_any}
use Rattle.std.specs.FinMap.{get}
use Rattle.std.proofs.lemmas.Bool.{true≢false, le-ltb, le-leb, and_from}
use Rattle.std.proofs.lemmas.Option.{same_Some}
use Rattle.std.proofs.Common.{refl, sym, ◌∙◌, ap, subst, inl, inr, arith}
use Rattle.ov_types.specs.Prefix.{Block, is_inside, size_of}
use Rattle.ov_types.specs.declared.numbers.InstanceId.{InstanceId}
use Rattle.ov_types.specs.declared.objects.LowKey.{LowKey}
use Rattle.ov_types.specs.declared.objects.LowKey.TheVariants as key
use Rattle.ov_types.specs.declared.objects.LowValue.{LowValue}
use Rattle.ov_types.specs.declared.objects.LowValue.TheVariants as low
use Rattle.ov_types.specs.declared.prefix.Addr.{Addr}
use Rattle.route_targets.specs.Numbers.{distinguisher_of}
use Rattle.node_model.specs.Members.{Member}
use Rattle.node_model.specs.Keys.{Low}
use Rattle.node_model.specs.Values.{Value, Object, Route, Entry, Label}
use Rattle.node_model.specs.Maps.{Map, as_object, object, objects}
use Rattle.node_model.specs.Uses.{Use, uses, as_use, use_from, is_hop, place_of, held_use, imports}
use Rattle.node_model.specs.Reaching.{Side, sides, network, subnets, hop_at}
use Rattle.node_model.specs.Tables.{same_prefix}
use Rattle.node_model.specs.Ranks.{instance_in, depth_in, depth, AreOrdered}
use Rattle.node_model.proofs.Members.{none_some, in_either, in_filter_map, any_in, from_any}
use Rattle.node_model.proofs.Objects.{in_objects, use_held, side_use, in_sides, is_hop-hop, use_of-hop, place_of-hop, imports_hop}
use Rattle.node_model.proofs.Orders.{prefix_same, same_prefix-from}
use Rattle.node_model.proofs.Unknown.{place_at, place_at-within, le_trans}

-- ---- numbers
pub instance_in-distinguisher : (a : Addr) (i : InstanceId) → i.0 < 65536 → instance_in (distinguisher_of a i) ≡ i
instance_in-distinguisher a i h = λ k. record { 0 = number a.0 i.0 h k }
  where
    number : (a i : ℕ) → i < 65536 → (281474976710656 + a * 65536 + i) % 65536 ≡ i
    number a i h = omega arith

pub place_small : (feed : Map) (s : Side) (d : ℕ) → AreOrdered feed → Member s (sides feed) → d ≤ s.chain.services → (hop_at s d).0 < 65536
place_small feed s d ordered m h =
    let u = side_use feed s m in
    let at = le_trans (place_at s d) s.chain.services 15 (place_at-within s d h) (ordered.short s.chain u) in
    bound s.chain.number (place_at s d) (ordered.numbers s.chain u) at
  where
    bound : (u j : ℕ) → u ≤ 3071 → j ≤ 15 → 16384 + 16 * u + j < 65536
    bound u j a b = omega arith

pub is_hop-network : (n : InstanceId) → n.0 < 16384 → is_hop n ≡ false
is_hop-network n h = le-ltb 16383 n.0 (below n.0 h)
  where
    below : (n : ℕ) → n < 16384 → n ≤ 16383
    below n h = omega arith

pub inside_itself : (p : Block) → is_inside p p ≡ true
inside_itself p = and_from (nat_le p.addr p.addr) (nat_le (p.addr + size_of p.len) (p.addr + size_of p.len)) (le-leb p.addr p.addr (le_itself p.addr)) (le-leb (p.addr + size_of p.len) (p.addr + size_of p.len) (le_itself (p.addr + size_of p.len)))
  where
    le_itself : (n : ℕ) → n ≤ n
    le_itself n = omega arith

-- ---- the other side
abbrev pub other_side : Side → Side
other_side s = record { chain = s.chain; is_right = not s.is_right }

pub other_in : (feed : Map) (s : Side) → Member s (sides feed) → Member (other_side s) (sides feed)
other_in feed s m = in_sides feed s.chain (not s.is_right) (side_use feed s m)

pub network_small : (feed : Map) (s : Side) → AreOrdered feed → Member s (sides feed) → (network s).0 < 16384
network_small feed s ordered m =
    let u = side_use feed s m in
    elim s.is_right as (λ b. (cond b s.chain.right s.chain.left).0 < 16384) [ true ↦ ordered.rights s.chain u | false ↦ ordered.lefts s.chain u ]

pub sides_apart : (feed : Map) (s : Side) (subnet inner : Block) → AreOrdered feed → Member s (sides feed) → Member subnet (subnets s) → Member inner (subnets (other_side s)) → is_inside inner subnet ≡ false
sides_apart feed s subnet inner ordered m n q = by_side s.is_right n q
  where
    by_side : (b : Bool) → Member subnet (cond b s.chain.right_subnets s.chain.left_subnets) → Member inner (cond (not b) s.chain.right_subnets s.chain.left_subnets) → is_inside inner subnet ≡ false
    by_side true n q = ordered.left_in_right s.chain inner subnet (side_use feed s m) q n
    by_side false n q = ordered.right_in_left s.chain subnet inner (side_use feed s m) n q

-- what a place may import: itself, and the networks at the ends
pub imported : (feed : Map) (s : Side) (d : ℕ) (n : InstanceId) → AreOrdered feed → Member s (sides feed) → d ≤ s.chain.services → Member n (imports feed (hop_at s d))
    → (n ≡ hop_at s d) ⊎ ((n ≡ network s) ⊎ (n ≡ network (other_side s)))
imported feed s d n ordered m h i =
    let u = side_use feed s m in
    let j = place_at s d in
    let at = place_at-within s d h in
    elim (subst (Member n) (imports_hop feed s.chain j u (le_trans j s.chain.services 15 at (ordered.short s.chain u)) at) i) as (λ _. (n ≡ hop_at s d) ⊎ ((n ≡ network s) ⊎ (n ≡ network (other_side s)))) [
      | inl e ↦ inl (sym e)
      | inr r ↦ inr (elim (in_either n (cond (j == 0) (s.chain.left ∷ []) []) (cond (j == s.chain.services) (s.chain.right ∷ []) []) r) as (λ _. (n ≡ network s) ⊎ (n ≡ network (other_side s))) [
        | inl l ↦ of_left s.is_right (one_of (j == 0) s.chain.left l)
        | inr l ↦ of_right s.is_right (one_of (j == s.chain.services) s.chain.right l)
      ])
    ]
  where
    one_of : (b : Bool) (x : InstanceId) → Member n (cond b (x ∷ []) []) → n ≡ x
    one_of true x (inl e) = sym e
    one_of true x (inr e) = absurd e
    one_of false x e = absurd e

    of_left : (b : Bool) → n ≡ s.chain.left → (n ≡ cond b s.chain.right s.chain.left) ⊎ (n ≡ cond (not b) s.chain.right s.chain.left)
    of_left true e = inr e
    of_left false e = inl e

    of_right : (b : Bool) → n ≡ s.chain.right → (n ≡ cond b s.chain.right s.chain.left) ⊎ (n ≡ cond (not b) s.chain.right s.chain.left)
    of_right true e = inl e
    of_right false e = inr e

-- ---- the depth of what lies within a subnet of a side
among_from : (p : Block) (ps : List Block) → list_any (same_prefix p) ps ≡ true → Member p ps
among_from p ps h = let q = from_any (same_prefix p) ps h in subst (λ x. Member x ps) (sym (prefix_same p q.0 q.2)) q.1

among_in : (p : Block) (ps : List Block) → Member p ps → list_any (same_prefix p) ps ≡ true
among_in p ps m = any_in (same_prefix p) p ps m (same_prefix-from p p refl)

abbrev depth_kind : Bool → Bool → ℕ → ℕ → ℕ
depth_kind in_right in_left from_right from_left = cond in_right from_right (cond in_left from_left 0)

depth-hop : (feed : Map) (s : Side) (d : ℕ) (p : Block) → AreOrdered feed → Member s (sides feed) → d ≤ s.chain.services
    → depth feed (hop_at s d) p ≡ depth_kind (list_any (same_prefix p) s.chain.right_subnets) (list_any (same_prefix p) s.chain.left_subnets) (s.chain.services - place_at s d) (place_at s d)
depth-hop feed s d p ordered m h =
    let u : Use = s.chain in let j = place_at s d in
    let held = side_use feed s m in
    let at = place_at-within s d h in
    let small : j ≤ 15 = le_trans j u.services 15 at (ordered.short u held) in
    ap (λ b. cond b (depth_in p (place_of (hop_at s d)) (held_use feed (hop_at s d))) 0) (is_hop-hop u.number j)
    ∙ ap (λ n. depth_in p (place_of (hop_at s d)) (use_from n (object feed (key.ChainUse n)))) (use_of-hop u.number j small)
    ∙ ap (λ n. depth_in p n (use_from u.number (object feed (key.ChainUse u.number)))) (place_of-hop u.number j small)
    ∙ ap (depth_in p j) (use_held feed u held)
    ∙ ap (λ b. cond b (depth_kind (list_any (same_prefix p) u.right_subnets) (list_any (same_prefix p) u.left_subnets) (u.services - j) j) 0) (le-leb j u.services at)

pub depth-network : (feed : Map) (n : InstanceId) (p : Block) → n.0 < 16384 → depth feed n p ≡ 0
depth-network feed n p h = ap (λ b. cond b (depth_in p (place_of n) (held_use feed n)) 0) (is_hop-network n h)

back_place : (d k : ℕ) → d ≤ k → k - (k - d) ≡ d
back_place d k h = omega arith

-- within a subnet of a side the depth is at most that of the subnet
pub within_depth : (feed : Map) (s : Side) (d : ℕ) (subnet p : Block) → AreOrdered feed → Member s (sides feed) → Member subnet (subnets s) → d ≤ s.chain.services → is_inside p subnet ≡ true → depth feed (hop_at s d) p ≤ d
within_depth feed s d subnet p ordered m n h w =
    subst (λ x. x ≤ d) (sym (depth-hop feed s d p ordered m h)) (go s.is_right (list_any (same_prefix p) s.chain.right_subnets) (list_any (same_prefix p) s.chain.left_subnets) refl refl refl)
  where
    apart : Member p (subnets (other_side s)) → ⊥
    apart q = true≢false (sym w ∙ sides_apart feed s subnet p ordered m n q)

    le_refl : (d : ℕ) → d ≤ d
    le_refl d = omega arith

    zero_le : (d : ℕ) → 0 ≤ d
    zero_le d = omega arith

    go : (b i l : Bool) → s.is_right ≡ b → list_any (same_prefix p) s.chain.right_subnets ≡ i → list_any (same_prefix p) s.chain.left_subnets ≡ l → depth_kind i l (s.chain.services - cond b (s.chain.services - d) d) (cond b (s.chain.services - d) d) ≤ d
    go true true l side e f = subst (λ x. x ≤ d) (sym (back_place d s.chain.services h)) (le_refl d)
    go true false true side e f = absurd (apart (subst (λ b. Member p (cond (not b) s.chain.right_subnets s.chain.left_subnets)) (sym side) (among_from p s.chain.left_subnets f)))
    go true false false side e f = zero_le d
    go false true l side e f = absurd (apart (subst (λ b. Member p (cond (not b) s.chain.right_subnets s.chain.left_subnets)) (sym side) (among_from p s.chain.right_subnets e)))
    go false false true side e f = le_refl d
    go false false false side e f = zero_le d

-- and of a subnet itself it is its place
pub subnet_depth : (feed : Map) (s : Side) (d : ℕ) (subnet : Block) → AreOrdered feed → Member s (sides feed) → Member subnet (subnets s) → d ≤ s.chain.services → depth feed (hop_at s d) subnet ≡ d
subnet_depth feed s d subnet ordered m n h =
    depth-hop feed s d subnet ordered m h ∙ go s.is_right (list_any (same_prefix subnet) s.chain.right_subnets) (list_any (same_prefix subnet) s.chain.left_subnets) refl refl refl
  where
    apart : Member subnet (subnets (other_side s)) → ⊥
    apart q = true≢false (sym (inside_itself subnet) ∙ sides_apart feed s subnet subnet ordered m n q)

    go : (b i l : Bool) → s.is_right ≡ b → list_any (same_prefix subnet) s.chain.right_subnets ≡ i → list_any (same_prefix subnet) s.chain.left_subnets ≡ l → depth_kind i l (s.chain.services - cond b (s.chain.services - d) d) (cond b (s.chain.services - d) d) ≡ d
    go true true l side e f = back_place d s.chain.services h
    go true false l side e f = absurd (true≢false (sym (among_in subnet s.chain.right_subnets (subst (λ b. Member subnet (cond b s.chain.right_subnets s.chain.left_subnets)) side n)) ∙ e))
    go false true l side e f = absurd (apart (subst (λ b. Member subnet (cond (not b) s.chain.right_subnets s.chain.left_subnets)) (sym side) (among_from subnet s.chain.right_subnets e)))
    go false false true side e f = refl
    go false false false side e f = absurd (true≢false (sym (among_in subnet s.chain.left_subnets (subst (λ b. Member subnet (cond b s.chain.right_subnets s.chain.left_subnets)) side n)) ∙ f))

-- ---- known instances
use_number : (n : ℕ) (v : LowValue) (u : Use) → as_use (key.ChainUse n) v ≡ Some u → u.number ≡ n
use_number n (low.ChainUse left right ls rs hops) u h = ap (λ (u : Use). u.number) (sym (same_Some _ u h))
use_number n (low.Instance is) u h = absurd (none_some u h)
use_number n (low.AttachPort p i a b) u h = absurd (none_some u h)
use_number n (low.AttachCircuit p i a) u h = absurd (none_some u h)
use_number n (low.Acl s r) u h = absurd (none_some u h)

-- a use that is found is one of the map, with that number
pub use_found : (feed : Map) (n : ℕ) (u : Use) → use_from n (object feed (key.ChainUse n)) ≡ Some u → Member u (uses feed) × (u.number ≡ n)
use_found feed n u h = go (get feed (Low (key.ChainUse n))) refl h
  where
    go : (o : Option Value) → get feed (Low (key.ChainUse n)) ≡ o → use_from n (as_object o) ≡ Some u → Member u (uses feed) × (u.number ≡ n)
    go None e h = absurd (none_some u h)
    go (Some (Object v)) e h = (in_filter_map (λ (e : LowKey × LowValue). as_use e.0 e.1) (key.ChainUse n, v) u (objects feed) (in_objects feed (key.ChainUse n) v e) h, use_number n v u h)
    go (Some (Route r)) e h = absurd (none_some u h)
    go (Some (Entry r)) e h = absurd (none_some u h)
    go (Some (Label l)) e h = absurd (none_some u h)
