-- The example meets the premises of the laws.
use Rattle.std.specs.Prelude.{◌≡◌, ◌≢◌, ℕ, ◌+◌, ◌<◌, ◌≤◌, List, [], ◌∷◌, ◌++◌, false, cond, T}
use Rattle.std.specs.declared.cmp.Ordering.{Ordering}
use Rattle.std.specs.declared.cmp.Ordering.TheVariants.{Less, Equal, Greater}
use Rattle.std.specs.Ordering.{eq_by_cmp, is_eq}
use Rattle.std.specs.declared.option.Option.{Option}
use Rattle.std.specs.declared.option.Option.TheVariants.{Some, None}
use Rattle.std.specs.List.{AllByRecursion, AllZip, filter_map}
use Rattle.std.specs.FinMap.{find, get, entries, is_sorted, from_sorted, entries-from_sorted, get-from_sorted}
use Rattle.std.proofs.Common.{refl, sym, ◌∙◌, ap, subst, inl, inr, arith}
use Rattle.ov_types.specs.Prefix.{Block, is_inside}
use Rattle.ov_types.specs.declared.numbers.InstanceId.{InstanceId}
use Rattle.ov_types.specs.declared.objects.LowKey.{LowKey}
use Rattle.ov_types.specs.declared.objects.LowKey.TheVariants as key
use Rattle.ov_types.specs.declared.objects.LowValue.{LowValue}
use Rattle.route_targets.specs.Numbers.{target_of}
use Rattle.node_model.specs.Members.{Member}
use Rattle.node_model.specs.Keys.{Key, Low, Vpn, Row, Publish, Subscribe, key_cmp}
use Rattle.node_model.specs.Values.{Value, Object, Route, Entry, Label}
use Rattle.node_model.specs.Maps.{as_object, low_entry, object, objects}
use Rattle.node_model.specs.Uses.{Use, as_use, use_from, uses, is_hop, use_of, place_of}
use Rattle.node_model.specs.Paths.{Told}
use Rattle.node_model.specs.Agent as agent
use Rattle.node_model.specs.Ranks.{instance_in, depth_in, peer_rank, AreOrdered, IsTargeted, AgreeBelow, SameTold, Agree, SameSlice}
use Rattle.node_model.proofs.Members.{none_some, from_find}
use Rattle.node_model.proofs.Orders.{key_total, key_exact}
use Rattle.node_model.proofs.Objects.{in_objects}
use Rattle.node_model.proofs.Wanted.{named, told}
use Rattle.node_laws.specs.Received.{AreNetworks}
use Rattle.node_laws.proofs.Receiving.{held_object}
use Rattle.node_laws.specs.Chain.{chain_objects, told_objects, chain_feed, chain_use, left_subnet, right_subnet, second_agent, key_at, route_at, own_entries, all_entries, own_told, all_told, of_the_port, of_the_left_circuit, of_the_right_circuit, agent_told, settled, early, agent_objects, chain_row, with_row, without_row}

-- ---- the feed
feed_entries : entries chain_feed ≡ told_objects chain_objects
feed_entries = entries-from_sorted key_cmp (told_objects chain_objects) tt

objects_in : List (Key × Value) → List (LowKey × LowValue)
objects_in es = filter_map (λ (e : Key × Value). low_entry e.0 e.1) es

uses_in : List (Key × Value) → List Use
unfolding objects_in
uses_in es = filter_map (λ (e : LowKey × LowValue). as_use e.0 e.1) (objects_in es)

pub uses_are : uses chain_feed ≡ chain_use ∷ []
unfolding uses_in objects_in
uses_are = ap uses_in feed_entries

-- what holds of the use holds of each that is held
of_each : (P : Use → Type 0) → P chain_use → (u : Use) → Member u (uses chain_feed) → P u
of_each P p u m = elim (subst (Member u) uses_are m) as (λ _. P u) [ inl e ↦ subst P e p | inr none ↦ absurd none ]

pub use_is_held : Member chain_use (uses chain_feed)
use_is_held = subst (Member chain_use) (sym uses_are) (inl refl)

abbrev apart : Use → Type 0
apart u = (l r : Block) → Member l u.left_subnets → Member r u.right_subnets → is_inside r l ≡ false

abbrev apart_too : Use → Type 0
apart_too u = (l r : Block) → Member l u.left_subnets → Member r u.right_subnets → is_inside l r ≡ false

chain_apart : apart chain_use
chain_apart l r (inl e) (inl f) = (λ i. is_inside (sym f i) (sym e i))
chain_apart l r (inl e) (inr n) = absurd n
chain_apart l r (inr m) n = absurd m

chain_apart_too : apart_too chain_use
chain_apart_too l r (inl e) (inl f) = (λ i. is_inside (sym e i) (sym f i))
chain_apart_too l r (inl e) (inr n) = absurd n
chain_apart_too l r (inr m) n = absurd m

pub ordered : AreOrdered chain_feed
ordered = record {
  numbers = of_each (λ u. u.number ≤ 3071) (omega arith);
  short = of_each (λ u. u.services ≤ 15) (omega arith);
  lefts = of_each (λ u. u.left.0 < 16384) (omega arith);
  rights = of_each (λ u. u.right.0 < 16384) (omega arith);
  right_in_left = λ u l r m. of_each apart chain_apart u m l r;
  left_in_right = λ u l r m. of_each apart_too chain_apart_too u m l r;
}

pub longest : (u : Use) → Member u (uses chain_feed) → u.services ≤ 2
longest = of_each (λ u. u.services ≤ 2) (omega arith)

-- what is found in the feed
feed_get : (k : Key) → get chain_feed k ≡ find key_cmp k (told_objects chain_objects)
feed_get k = get-from_sorted key_cmp (told_objects chain_objects) k tt

-- what holds of each entry of a list holds of each member
pub all_member : {X : Type 0} (P : X → Type 0) (x : X) (xs : List X) → Member x xs → AllByRecursion P xs → P x
all_member P x [] m all = absurd m
all_member P x (y ∷ ys) (inl e) all = subst P e all.0
all_member P x (y ∷ ys) (inr m) all = all_member P x ys m all.1

objects_are : objects chain_feed ≡ chain_objects
unfolding objects_in
objects_are = ap objects_in feed_entries

abbrev small_network : LowKey × LowValue → Type 0
small_network (key.Instance n, v) = n < 16384
small_network (key.Attach n, v) = Unit {0}
small_network (key.Acl m n, v) = Unit {0}
small_network (key.ChainUse n, v) = Unit {0}

all_small : AllByRecursion small_network chain_objects
all_small = (omega arith, (omega arith, (tt, (tt, (tt, (tt, (tt, (tt, (tt, (tt, (tt, (tt, (tt, tt)))))))))))))

pub networks_small : AreNetworks chain_feed
networks_small n v e =
    all_member small_network (named (key.Instance n) v) chain_objects
    (subst (Member (named (key.Instance n) v)) objects_are (in_objects chain_feed (key.Instance n) v (held_object (get chain_feed (Low (key.Instance n))) v e))) all_small

-- ---- routes between control nodes
abbrev targeted : Key × Value → Type 0
targeted (Vpn k, Route r) = r.targets ≡ target_of 64512 (instance_in k.rd) ∷ []
targeted (Vpn k, Object v) = Unit {0}
targeted (Vpn k, Entry v) = Unit {0}
targeted (Vpn k, Label v) = Unit {0}
targeted (Low k, v) = Unit {0}
targeted (Row i p, v) = Unit {0}
targeted (Publish i p, v) = Unit {0}
targeted (Subscribe i, v) = Unit {0}

targeted_by : (es : List (Key × Value)) → T (is_sorted key_cmp es) → AllByRecursion targeted es → IsTargeted 64512 (from_sorted {R = key_cmp} es)
targeted_by es s all k r e =
    all_member targeted (told (Vpn k) (Route r)) es (from_find key_total key_exact (Vpn k) (Route r) es (sym (get-from_sorted key_cmp es (Vpn k) s) ∙ e)) all

pub all_targeted : AllByRecursion (IsTargeted 64512) settled.peers
all_targeted = (targeted_by all_entries tt (refl, (refl, (refl, (refl, (refl, tt))))), tt)

pub own_targeted : AllByRecursion (IsTargeted 64512) early.peers
own_targeted = (targeted_by own_entries tt (refl, (refl, (refl, tt))), tt)

-- the held use of the chain
use_value : Option Use
use_value = use_from 0 (as_object (find key_cmp (Low (key.ChainUse 0)) (told_objects chain_objects)))

-- the rank of a key, by the use that is held
abbrev rank_by : InstanceId → Block → Option Use → ℕ
rank_by i p u = 4 + cond (is_hop i) (depth_in p (place_of i) u) 0

rank_at : (place : ℕ) (p : Block) → use_of (instance_in (key_at second_agent place p).rd) ≡ 0 → peer_rank chain_feed (Vpn (key_at second_agent place p)) ≡ rank_by (instance_in (key_at second_agent place p).rd) p use_value
unfolding use_value
rank_at place p e =
    ap (λ n. rank_by (instance_in (key_at second_agent place p).rd) p (use_from n (object chain_feed (key.ChainUse n)))) e
    ∙ ap (λ (o : Option Value). rank_by (instance_in (key_at second_agent place p).rd) p (use_from 0 (as_object o))) (feed_get (Low (key.ChainUse 0)))

right_rank : peer_rank chain_feed (Vpn (key_at second_agent 16385 right_subnet)) ≡ 5
unfolding use_value
right_rank = rank_at 16385 right_subnet refl

left_rank : peer_rank chain_feed (Vpn (key_at second_agent 16386 left_subnet)) ≡ 6
unfolding use_value
left_rank = rank_at 16386 left_subnet refl

too_high : (r n : ℕ) → r ≤ 4 → r ≡ n → 5 ≤ n → ⊥
too_high r n h e g = omega arith

-- a key of rank 4 is none of higher rank
is_other : (k other : Key) (n : ℕ) → peer_rank chain_feed other ≡ n → 5 ≤ n → peer_rank chain_feed k ≤ 4 → eq_by_cmp key_cmp k other ≡ false
is_other k other n e g h = by_cases (key_cmp k other) refl
  where
    by_cases : (r : Ordering) → key_cmp k other ≡ r → is_eq r ≡ false
    by_cases Less is = refl
    by_cases Greater is = refl
    by_cases Equal is = absurd (too_high (peer_rank chain_feed k) n h (ap (peer_rank chain_feed) (key_exact k other is) ∙ e) g)

-- entries of other keys do not matter
without : (k : Key) (a b c d e : Key × Value) → eq_by_cmp key_cmp k b.0 ≡ false → eq_by_cmp key_cmp k d.0 ≡ false
    → find key_cmp k (a ∷ b ∷ c ∷ d ∷ e ∷ []) ≡ find key_cmp k (a ∷ c ∷ e ∷ [])
without k a b c d e p q =
    λ i. cond (eq_by_cmp key_cmp k a.0) (Some a.1) (cond (p i) (Some b.1) (cond (eq_by_cmp key_cmp k c.0) (Some c.1) (cond (q i) (Some d.1) (find key_cmp k (e ∷ [])))))

five : 5 ≤ 5
five = omega arith

six : 5 ≤ 6
six = omega arith

agree_below : AgreeBelow chain_feed 4 all_told own_told
agree_below k h =
    get-from_sorted key_cmp all_entries k tt
    ∙ without k of_the_port (route_at second_agent 16385 right_subnet 557059) of_the_left_circuit (route_at second_agent 16386 left_subnet 557060) of_the_right_circuit
    (is_other k (Vpn (key_at second_agent 16385 right_subnet)) 5 right_rank five h)
    (is_other k (Vpn (key_at second_agent 16386 left_subnet)) 6 left_rank six h)
    ∙ sym (get-from_sorted key_cmp own_entries k tt)

same_told : (a : Told) → SameTold a a
same_told a = record { session = refl; address = refl; keys = λ k. refl }

pub agree : Agree 4 settled early
agree = record { asn = refl; feed = refl; agents = λ _. (same_told agent_told, tt); peers = (agree_below, tt) }

pub agree_whole : Agree (2 + 4) settled settled
agree_whole = record { asn = refl; feed = refl; agents = λ _. (same_told agent_told, tt); peers = ((λ k _. refl), tt) }

pub differ : get all_told (Vpn (key_at second_agent 16385 right_subnet)) ≢ get own_told (Vpn (key_at second_agent 16385 right_subnet))
differ e =
    none_some (route_at second_agent 16385 right_subnet 557059).1
    (sym (get-from_sorted key_cmp own_entries (Vpn (key_at second_agent 16385 right_subnet)) tt) ∙ sym e
    ∙ get-from_sorted key_cmp all_entries (Vpn (key_at second_agent 16385 right_subnet)) tt)

-- ---- agents
-- an object is found whether or not a row comes after it
before_a_row : (k : LowKey) (es : List (Key × Value)) → find key_cmp (Low k) (es ++ chain_row ∷ []) ≡ find key_cmp (Low k) es
before_a_row k [] = refl
before_a_row k (e ∷ es) = ap (cond (eq_by_cmp key_cmp (Low k) e.0) (Some e.1)) (before_a_row k es)

pub slices_agree : AllZip SameSlice with_row without_row
slices_agree = (
  record {
    up = refl;
    objects = λ k. get-from_sorted key_cmp (told_objects agent_objects ++ chain_row ∷ []) (Low k) tt ∙ before_a_row k (told_objects agent_objects) ∙ sym (get-from_sorted key_cmp (told_objects agent_objects) (Low k) tt);
  },
  tt,
)

first_map : agent.Holdings → Option Value
first_map [] = None
first_map (s ∷ h) = get s.map chain_row.0

pub heard_differs : with_row ≢ without_row
unfolding first_map
heard_differs e =
    none_some chain_row.1
    (sym (get-from_sorted key_cmp (told_objects agent_objects) chain_row.0 tt) ∙ sym (ap first_map e)
    ∙ get-from_sorted key_cmp (told_objects agent_objects ++ chain_row ∷ []) chain_row.0 tt)
