-- Where all that is held is fair, all that is wanted is: routes have the target of their distinguisher's instance, and
-- uses are within their ranges.
use Rattle.std.specs.FinMap.{empty, entries, get, get-empty}
use Rattle.std.specs.List.{flat_map}
use Rattle.std.specs.Prelude.{List, cond, false, map, true, ℕ, [], ◌++◌, ◌<◌, ◌∷◌, ◌≡◌, ◌≤◌}
use Rattle.std.specs.declared.option.Option.TheVariants.{None, Some}
use Rattle.std.specs.declared.option.Option.{Option}
use Rattle.std.proofs.Common.{inl, inr, refl, subst, sym, ◌∙◌}
use Rattle.ov_types.specs.Prefix.{Block, is_inside}
use Rattle.ov_types.specs.declared.objects.LowKey.{LowKey}
use Rattle.ov_types.specs.declared.objects.LowValue.{LowValue}
use Rattle.route_targets.specs.Numbers.{target_of}
use Rattle.machine_model.specs.Setup.{Setup}
use Rattle.transform_model.specs.Objects.{low_objects}
use Rattle.node_laws.specs.NodeModel.Agent.{needed_by, publication, slice_in_use, told_of}
use Rattle.node_laws.specs.NodeModel.Keys.{Key, Low, Vpn, key_cmp}
use Rattle.node_laws.specs.NodeModel.Maps.{Map, objects}
use Rattle.node_laws.specs.NodeModel.Members.{Member}
use Rattle.node_laws.specs.NodeModel.Paths.{Holdings, Told, own_paths}
use Rattle.node_laws.specs.NodeModel.Ranks.{AreOrdered, IsTargeted, instance_in}
use Rattle.node_laws.specs.NodeModel.Reaching.{reoriginated_paths}
use Rattle.node_laws.specs.NodeModel.Tables.{table}
use Rattle.node_laws.specs.NodeModel.Uses.{Use, as_use, uses}
use Rattle.node_laws.specs.NodeModel.Values.{Object, Route, Value}
use Rattle.node_laws.specs.NodeModel.Wants.{is_in_slice, route_entry, rows_of, slice, slice_entry, subscriptions, wanted_by_agent, wanted_by_peers}
use Rattle.node_laws.proofs.NodeModel.Local.{wants_targeted}
use Rattle.node_laws.proofs.NodeModel.Members.{from_entry, from_filter, from_filter_map, from_flat_map, from_map, in_either, in_filter_map, member_get, none_some}
use Rattle.node_laws.proofs.NodeModel.Objects.{in_objects, object_of}
use Rattle.node_laws.proofs.NodeModel.Orders.{key_exact, key_total}
use Rattle.node_laws.proofs.NodeModel.Wanted.{row_of_path}
use Rattle.machine_model.specs.Moments.{Each}
use Rattle.machine_model.specs.Network.{View, agent_holdings, control_holdings, first_held, same_role, sessions_of, told_on, view, views_of, wanted, wanted_from, with_role}
use Rattle.machine_model.specs.Session.{Agent, Configuration, Controller, Role, Session, turned}
use Rattle.machine_model.specs.Setup.{Name, agents_of}
use Rattle.machine_model.specs.Setup.{low as low_map}
use Rattle.machine_model.proofs.Feed.{entries-low}
use Rattle.machine_model.proofs.Twins.{all_to_own, each_weaker}
use Rattle.machine_laws.specs.Settling.{Fair}
use Rattle.machine_laws.specs.Goal.{Party}
use Rattle.machine_laws.proofs.Told.{pair, publication_cases, publications, subscription_of, subscriptions_of}
use Rattle.machine_laws.proofs.Views.{views}

-- a use that is within its ranges, and of which no subnet of one side lies within one of the other
pub record IsOrdered (u : Use) : Type 0 where
  pub number : u.number ≤ 3071
  pub short : u.services ≤ 15
  pub left : u.left.0 < 16384
  pub right : u.right.0 < 16384
  pub right_in_left : (l r : Block) → Member l u.left_subnets → Member r u.right_subnets → is_inside r l ≡ false
  pub left_in_right : (l r : Block) → Member l u.left_subnets → Member r u.right_subnets → is_inside l r ≡ false

abbrev pub IsFairUse : Option Use → Type 0
IsFairUse None = Unit {0}
IsFairUse (Some u) = IsOrdered u

abbrev pub IsFair : ℕ → Key → Value → Type 0
IsFair asn (Vpn k) (Route r) = r.targets ≡ target_of asn (instance_in k.rd) ∷ []
IsFair asn (Low k) (Object v) = IsFairUse (as_use k v)
IsFair asn _ _ = Unit {0}

abbrev pub AreFair : ℕ → Map → Type 0
AreFair asn m = (k : Key) (v : Value) → get m k ≡ Some v → IsFair asn k v

no_fair : (asn : ℕ) → AreFair asn empty
no_fair asn k v e = absurd (none_some v (sym (get-empty key_cmp k) ∙ e))

pub fair_targeted : (asn : ℕ) (m : Map) → AreFair asn m → IsTargeted asn m
fair_targeted asn m f k r e = f (Vpn k) (Route r) e

-- ---- uses
object_fair : (asn : ℕ) (m : Map) (k : LowKey) (v : LowValue) → AreFair asn m → Member (k, v) (objects m) → IsFairUse (as_use k v)
object_fair asn m k v f h = f (Low k) (Object v) (object_of m k v h)

use_ordered : (asn : ℕ) (feed : Map) → AreFair asn feed → (u : Use) → Member u (uses feed) → IsOrdered u
use_ordered asn feed f u m =
    let q = from_filter_map (λ (e : LowKey × LowValue). as_use e.0 e.1) u (objects feed) m in
    subst IsFairUse q.2 (object_fair asn feed q.0.0 q.0.1 f q.1)

pub fair_ordered : (asn : ℕ) (feed : Map) → AreFair asn feed → AreOrdered feed
fair_ordered asn feed f = record {
  numbers = λ u m. (use_ordered asn feed f u m).number;
  short = λ u m. (use_ordered asn feed f u m).short;
  lefts = λ u m. (use_ordered asn feed f u m).left;
  rights = λ u m. (use_ordered asn feed f u m).right;
  right_in_left = λ u l r m i j. (use_ordered asn feed f u m).right_in_left l r i j;
  left_in_right = λ u l r m i j. (use_ordered asn feed f u m).left_in_right l r i j;
}

ordered_use : (feed : Map) → AreOrdered feed → (u : Use) → Member u (uses feed) → IsOrdered u
ordered_use feed o u m = record {
  number = o.numbers u m;
  short = o.short u m;
  left = o.lefts u m;
  right = o.rights u m;
  right_in_left = λ l r i j. o.right_in_left u l r m i j;
  left_in_right = λ l r i j. o.left_in_right u l r m i j;
}

-- the low-level objects of a configuration are fair where its uses are in order
pub low_fair : (asn : ℕ) (x : Setup) → AreOrdered (low_map x) → AreFair asn (low_map x)
low_fair asn x ordered k v e =
    let m = subst (λ (es : List (Key × Value)). Member (pair k v) es) (entries-low x) (member_get key_total key_exact (low_map x) k v e) in
    let q = from_map slice_entry (pair k v) (low_objects x.topology x.config) m in
    let held : get (low_map x) (Low q.0.0) ≡ Some (Object q.0.1) = subst (λ (e : Key × Value). get (low_map x) e.0 ≡ Some e.1) (sym q.2) e in
    let there = in_objects (low_map x) q.0.0 q.0.1 held in
    subst (λ (e : Key × Value). IsFair asn e.0 e.1) q.2 (of_use q.0.0 q.0.1 there (as_use q.0.0 q.0.1) refl)
  where
    of_use : (k : LowKey) (v : LowValue) → Member (k, v) (objects (low_map x)) → (o : Option Use) → as_use k v ≡ o → IsFairUse o
    of_use k v m None e = tt
    of_use k v m (Some u) e = ordered_use (low_map x) ordered u (in_filter_map (λ (e : LowKey × LowValue). as_use e.0 e.1) (k, v) u (objects (low_map x)) m e)

-- ---- a control node
module _ (h : Holdings) (feed_fair : AreFair h.asn h.feed) where
  pub peers_fair : AreFair h.asn (wanted_by_peers h)
  peers_fair k v e =
      let q = from_map route_entry (pair k v) (own_paths h ++ reoriginated_paths h) (from_entry key_total key_exact k v (map route_entry (own_paths h ++ reoriginated_paths h)) e) in
      let held : get (wanted_by_peers h) (route_entry q.0).0 ≡ Some (route_entry q.0).1 = subst (λ (e : Key × Value). get (wanted_by_peers h) e.0 ≡ Some e.1) (sym q.2) e in
      subst (λ (e : Key × Value). IsFair h.asn e.0 e.1) q.2
      (wants_targeted h (fair_ordered h.asn h.feed feed_fair) (record { rd = q.0.rd; prefix = q.0.prefix }) (record { next_hop = q.0.next_hop; label = q.0.label; targets = q.0.targets }) held)

  pub agent_fair : (a : Told) → AreFair h.asn (wanted_by_agent h a)
  agent_fair a k v e =
      let rows = flat_map (rows_of h) (subscriptions a.map) in
      let mapped = map slice_entry (slice h.feed a.address) in
      elim (in_either (pair k v) mapped rows (from_entry key_total key_exact k v (mapped ++ rows) e)) as (λ _. IsFair h.asn k v) [
        | inl l ↦
            let q = from_map slice_entry (pair k v) (slice h.feed a.address) l in
            let o = from_filter (λ (e : LowKey × LowValue). is_in_slice h.feed a.address e.0 e.1) q.0 (objects h.feed) q.1 in
            subst (λ (e : Key × Value). IsFair h.asn e.0 e.1) q.2 (object_fair h.asn h.feed q.0.0 q.0.1 feed_fair o.0)
        | inr l ↦
            let q = from_flat_map (rows_of h) (pair k v) (subscriptions a.map) l in
            let r = from_map (row_of_path q.0) (pair k v) (entries (table h q.0)) q.2 in
            subst (λ (e : Key × Value). IsFair h.asn e.0 e.1) r.2 tt
      ]

-- ---- an agent
told_fair : (asn : ℕ) (es : List (LowKey × LowValue)) → AreFair asn (told_of es)
told_fair asn es k v e =
    elim (in_either (pair k v) (publications es) (subscriptions_of es) (from_entry key_total key_exact k v (publications es ++ subscriptions_of es) e)) as (λ _. IsFair asn k v) [
      | inl l ↦
          let q = from_flat_map (λ (e : LowKey × LowValue). publication e.0 e.1) (pair k v) es l in
          let c = publication_cases q.0.0 q.0.1 (pair k v) q.2 in
          subst (λ (e : Key × Value). IsFair asn e.0 e.1) c.2 tt
      | inr l ↦ let q = from_map subscription_of (pair k v) (needed_by es) l in subst (λ (e : Key × Value). IsFair asn e.0 e.1) q.2 tt
    ]

-- ---- from the sessions of a node
abbrev Held : ℕ → Session → Type 0
Held asn s = AreFair asn s.near.held

feed_of : (asn : ℕ) (own : List Session) → Each (Held asn) own → AreFair asn (first_held (with_role Configuration (views own)))
feed_of asn [] h = no_fair asn
feed_of asn (s ∷ own) h = elim (same_role Configuration s.far.role) as (λ b. AreFair asn (first_held (cond b (view s ∷ with_role Configuration (views own)) (with_role Configuration (views own))))) [ true ↦ h.0 | false ↦ feed_of asn own h.1 ]

wanted_fair : (x : Setup) (own : List Session) (v : View) → AreFair x.topology.asn (low_map x) → Each (Held x.topology.asn) own → AreFair x.topology.asn (wanted x (views own) v)
unfolding wanted
wanted_fair x own v fed h = go v.role v.other_role
  where
    go : (p q : Role) → AreFair x.topology.asn (wanted_from x (views own) (record v { other_role = q }) p)
    go Configuration q = fed
    go Agent q = told_fair x.topology.asn (slice_in_use (agent_holdings x v.name (views own)))
    go Controller Configuration = no_fair x.topology.asn
    go Controller Controller = peers_fair (control_holdings x v.name (views own)) (feed_of x.topology.asn own h)
    go Controller Agent = agent_fair (control_holdings x v.name (views own)) (feed_of x.topology.asn own h) (told_on (agents_of x v.name) v)

-- ---- of every node
abbrev pub fair : ℕ → Party → Party → Key → Value → Type 0
fair asn from to k v = IsFair asn k v

abbrev pub AllFair : ℕ → Session → Type 0
AllFair asn = Fair (fair asn)

each_wanted : (asn : ℕ) (x : Setup) (vs : List View) (own : List Session) → ((v : View) → AreFair asn (wanted x vs v)) → Each (λ s. AreFair asn (wanted x vs (view s))) own
each_wanted asn x vs [] h = tt
each_wanted asn x vs (s ∷ own) h = (h (view s), each_wanted asn x vs own h)

pub fair_wants : (asn : ℕ) (x : Setup) (ss : List Session) (n : Name) → x.topology.asn ≡ asn → AreOrdered (low_map x) → Each (AllFair asn) ss → Each (λ s. AreFair asn (wanted x (views_of n ss) (view s))) (sessions_of n ss)
fair_wants asn x ss n is ordered f =
    let own = sessions_of n ss in
    let held : Each (Held asn) own = all_to_own (Held asn) n ss (each_weaker (AllFair asn) (λ s. Held asn s × Held asn (turned s)) (λ s f. (f.near_held, f.far_held)) ss f) in
    each_wanted asn x (views own) own (λ v. subst (λ n. AreFair n (wanted x (views own) v)) is (wanted_fair x own v (low_fair x.topology.asn x ordered) (subst (λ n. Each (Held n) own) (sym is) held)))
