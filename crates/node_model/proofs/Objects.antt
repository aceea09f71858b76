-- The low-level objects of a map, and its uses.
use Rattle.std.specs.Prelude.{◌≡◌, ℕ, ◌≤◌, List, [], ◌∷◌, ◌++◌, Bool, true, false, cond, ◌==◌, is_some}
use Rattle.std.specs.declared.option.Option.{Option}
use Rattle.std.specs.declared.option.Option.TheVariants.{Some, None}
use Rattle.std.specs.FinMap.{get, entries}
use Rattle.std.proofs.lemmas.Bool.{true≢false, le-leb}
use Rattle.std.proofs.lemmas.Option.{same_Some}
use Rattle.std.proofs.Common.{refl, sym, ◌∙◌, ap, subst, inl, inr, arith}
use Rattle.ov_types.specs.declared.numbers.InstanceId.{InstanceId}
use Rattle.ov_types.specs.declared.objects.LowKey.{LowKey}
use Rattle.ov_types.specs.declared.objects.LowKey.TheVariants as key
use Rattle.ov_types.specs.declared.objects.LowValue.{LowValue}
use Rattle.ov_types.specs.declared.objects.LowValue.TheVariants as low
use Rattle.route_targets.specs.Numbers.{hop_instance_of}
use Rattle.node_model.specs.Members.{Member}
use Rattle.node_model.specs.Keys.{Key, Low, Vpn, Row, Publish, Subscribe}
use Rattle.node_model.specs.Values.{Value, Object, Route, Entry, Label}
use Rattle.node_model.specs.Maps.{Map, object, objects, as_object, low_entry}
use Rattle.node_model.specs.Uses.{Use, as_use, use_from, uses, hop, is_hop, use_of, place_of, held_use, imports, hop_imports, network_imports, is_place, is_known}
use Rattle.node_model.specs.Reaching.{Side, sides, sides_of}
use Rattle.node_model.proofs.Members.{none_some, from_filter_map, in_filter_map, in_flat_map, from_flat_map, get_member, member_get}
use Rattle.node_model.proofs.Orders.{key_total, key_exact}

pub low_entry_parts : (k : Key) (v : Value) (e : LowKey × LowValue) → low_entry k v ≡ Some e → (k ≡ Low e.0) × (v ≡ Object e.1)
low_entry_parts (Low k) (Object v) e h = let s : (k, v) ≡ e = same_Some (k, v) e h in (λ i. Low (s i).0, λ i. Object (s i).1)
low_entry_parts (Low k) (Route r) e h = absurd (none_some e h)
low_entry_parts (Low k) (Entry r) e h = absurd (none_some e h)
low_entry_parts (Low k) (Label l) e h = absurd (none_some e h)
low_entry_parts (Vpn r) v e h = absurd (none_some e h)
low_entry_parts (Row i p) v e h = absurd (none_some e h)
low_entry_parts (Publish i p) v e h = absurd (none_some e h)
low_entry_parts (Subscribe i) v e h = absurd (none_some e h)

pub object_of : (m : Map) (k : LowKey) (v : LowValue) → Member (k, v) (objects m) → get m (Low k) ≡ Some (Object v)
object_of m k v h =
    let q = from_filter_map (λ (e : Key × Value). low_entry e.0 e.1) (k, v) (entries m) h in
    let parts = low_entry_parts q.0.0 q.0.1 (k, v) q.2 in
    get_member key_total m (Low k) (Object v) (subst (λ (e : Key × Value). Member e (entries m)) (λ i. (parts.0 i, parts.1 i)) q.1)

pub in_objects : (m : Map) (k : LowKey) (v : LowValue) → get m (Low k) ≡ Some (Object v) → Member (k, v) (objects m)
in_objects m k v h = in_filter_map (λ (e : Key × Value). low_entry e.0 e.1) (Low k, Object v) (k, v) (entries m) (member_get key_total key_exact m (Low k) (Object v) h) refl

-- ---- uses
as_use_parts : (k : LowKey) (v : LowValue) (u : Use) → as_use k v ≡ Some u → (k ≡ key.ChainUse u.number) × (as_use (key.ChainUse u.number) v ≡ Some u)
as_use_parts (key.ChainUse n) (low.ChainUse left right ls rs hops) u h = (ap (λ (u : Use). key.ChainUse u.number) (same_Some _ u h), ap (λ (w : Use). as_use (key.ChainUse w.number) (low.ChainUse left right ls rs hops)) (sym (same_Some _ u h)) ∙ h)
as_use_parts (key.ChainUse n) (low.Instance is) u h = absurd (none_some u h)
as_use_parts (key.ChainUse n) (low.AttachPort p i a b) u h = absurd (none_some u h)
as_use_parts (key.ChainUse n) (low.AttachCircuit p i a) u h = absurd (none_some u h)
as_use_parts (key.ChainUse n) (low.Acl s r) u h = absurd (none_some u h)
as_use_parts (key.Instance n) v u h = absurd (none_some u h)
as_use_parts (key.Attach n) v u h = absurd (none_some u h)
as_use_parts (key.Acl n m) v u h = absurd (none_some u h)

-- a use is found by its number
pub use_held : (feed : Map) (u : Use) → Member u (uses feed) → use_from u.number (object feed (key.ChainUse u.number)) ≡ Some u
use_held feed u m =
    let q = from_filter_map (λ (e : LowKey × LowValue). as_use e.0 e.1) u (objects feed) m in
    let parts = as_use_parts q.0.0 q.0.1 u q.2 in
    let held : get feed (Low (key.ChainUse u.number)) ≡ Some (Object q.0.1) = ap (λ (k : LowKey). get feed (Low k)) (sym parts.0) ∙ object_of feed q.0.0 q.0.1 q.1 in
    ap (λ (o : Option Value). use_from u.number (as_object o)) held ∙ parts.1

pub same_use : (feed : Map) (u w : Use) → Member u (uses feed) → Member w (uses feed) → u.number ≡ w.number → u ≡ w
same_use feed u w m n e = same_Some u w (sym (use_held feed u m) ∙ ap (λ (n : ℕ). use_from n (object feed (key.ChainUse n))) e ∙ use_held feed w n)

pub side_use : (feed : Map) (s : Side) → Member s (sides feed) → Member s.chain (uses feed)
side_use feed s m =
    let q = from_flat_map sides_of s (uses feed) m in
    subst (λ (u : Use). Member u (uses feed))
    (elim q.2 as (λ _. q.0 ≡ s.chain) [ inl e ↦ ap (λ (s : Side). s.chain) e | inr r ↦ elim r as (λ _. q.0 ≡ s.chain) [ inl e ↦ ap (λ (s : Side). s.chain) e | inr n ↦ absurd n ] ])
    q.1

pub in_sides : (feed : Map) (u : Use) (b : Bool) → Member u (uses feed) → Member (record { chain = u; is_right = b }) (sides feed)
in_sides feed u true m = in_flat_map sides_of u (record { chain = u; is_right = true }) (uses feed) m (inl refl)
in_sides feed u false m = in_flat_map sides_of u (record { chain = u; is_right = false }) (uses feed) m (inr (inl refl))

-- ---- the instances of hops
pub is_hop-hop : (u j : ℕ) → is_hop (hop_instance_of u j) ≡ true
is_hop-hop u j = grind (arith)

pub use_of-hop : (u j : ℕ) → j ≤ 15 → use_of (hop_instance_of u j) ≡ u
use_of-hop u j h = omega (arith, h)

pub place_of-hop : (u j : ℕ) → j ≤ 15 → place_of (hop_instance_of u j) ≡ j
place_of-hop u j h = omega (arith, h)

-- what is imported at a place of a held use
abbrev pub ends : Use → ℕ → List InstanceId
ends u j = cond (j == 0) (u.left ∷ []) [] ++ cond (j == u.services) (u.right ∷ []) []

pub imports_hop : (feed : Map) (u : Use) (j : ℕ) → Member u (uses feed) → j ≤ 15 → j ≤ u.services → imports feed (hop u j) ≡ hop u j ∷ ends u j
imports_hop feed u j m small h =
    ap (λ b. cond b (hop_imports (place_of (hop u j)) (held_use feed (hop u j))) (network_imports (object feed (key.Instance (hop u j).0)))) (is_hop-hop u.number j)
    ∙ ap (λ n. hop_imports (place_of (hop u j)) (use_from n (object feed (key.ChainUse n)))) (use_of-hop u.number j small)
    ∙ ap (λ n. hop_imports n (use_from u.number (object feed (key.ChainUse u.number)))) (place_of-hop u.number j small)
    ∙ ap (hop_imports j) (use_held feed u m)
    ∙ ap (λ b. cond b (hop u j ∷ ends u j) []) (le-leb j u.services h)

-- each place of a held use is known
pub known_hop : (feed : Map) (u : Use) (j : ℕ) → Member u (uses feed) → j ≤ 15 → j ≤ u.services → is_known feed (hop u j) ≡ true
known_hop feed u j m small h =
    ap (λ b. cond b (is_place (place_of (hop u j)) (held_use feed (hop u j))) (is_some (object feed (key.Instance (hop u j).0)))) (is_hop-hop u.number j)
    ∙ ap (λ n. is_place (place_of (hop u j)) (use_from n (object feed (key.ChainUse n)))) (use_of-hop u.number j small)
    ∙ ap (λ n. is_place n (use_from u.number (object feed (key.ChainUse u.number)))) (place_of-hop u.number j small)
    ∙ ap (is_place j) (use_held feed u m)
    ∙ le-leb j u.services h

-- an instance that is not known imports nothing
pub imports_nothing : (feed : Map) (i : InstanceId) → is_known feed i ≡ false → imports feed i ≡ []
imports_nothing feed i h =
    elim (is_hop i) as (λ b. cond b (is_place (place_of i) (held_use feed i)) (is_some (object feed (key.Instance i.0))) ≡ false → cond b (hop_imports (place_of i) (held_use feed i)) (network_imports (object feed (key.Instance i.0))) ≡ []) [
      | true ↦ of_use (held_use feed i)
      | false ↦ of_network (object feed (key.Instance i.0))
    ] h
  where
    of_use : (o : Option Use) → is_place (place_of i) o ≡ false → hop_imports (place_of i) o ≡ []
    of_use None e = refl
    of_use (Some u) e = ap (λ b. cond b (hop u (place_of i) ∷ ends u (place_of i)) []) e

    of_network : (o : Option LowValue) → is_some o ≡ false → network_imports o ≡ []
    of_network None e = refl
    of_network (Some v) e = absurd (true≢false e)
