-- The held objects of one kind are a range of their keys.
use Rattle.std.specs.Prelude.{◌≡◌, List, [], ◌∷◌, Bool, true, false, cond}
use Rattle.std.specs.declared.option.Option.{Option}
use Rattle.std.specs.declared.option.Option.TheVariants.{None}
use Rattle.std.specs.declared.ops.Bound.TheVariants.{Included, Excluded, Unbounded}
use Rattle.std.specs.BTreeMap.Range.{range_contains}
use Rattle.std.specs.List.{AllByRecursion, cons_option, filter, filter_map}
use Rattle.std.proofs.Common.{refl, sym, ◌∙◌, ap, arith, inl, inr}
use Rattle.std.proofs.lemmas.Bool.{true≢false}
use Rattle.std.proofs.lemmas.Bool.Decides.{nat_tests}
use Rattle.ov_types.specs.declared.objects.LowKey.{LowKey}
use Rattle.ov_types.specs.declared.objects.LowKey.TheVariants as key
use Rattle.ov_types.specs.declared.objects.LowValue.{LowValue}
use Rattle.ov_types.specs.declared.prefix.Addr.{Addr}
use Rattle.path_select.specs.NodeModel.Directions.{low_order}
use Rattle.path_select.specs.NodeModel.Maps.{Map, as_object, objects}
use Rattle.path_select.specs.NodeModel.Members.{Member}
use Rattle.path_select.specs.NodeModel.Tables.{network_of}
use Rattle.path_select.specs.NodeModel.Uses.{as_use}
use Rattle.path_select.specs.NodeModel.Wants.{is_in_slice, slice}
use Rattle.path_select.proofs.NodeModel.Members.{from_filter}
use Rattle.path_select.proofs.NodeModel.Objects.{object_of}
use Rattle.vpn_holdings.specs.Kinds.{IsHeld, is_for_agents, is_network, is_use}

abbrev Entry : Type 0
Entry = LowKey × LowValue

-- ---- what a range has
pub before_attachments : (k : LowKey) → range_contains low_order Unbounded (Excluded (key.Attach 0)) k ≡ is_network k
before_attachments (key.Instance n) = refl
before_attachments (key.Attach n) = grind (arith, nat_tests)
before_attachments (key.Acl from to) = refl
before_attachments (key.ChainUse n) = refl

pub from_uses : (k : LowKey) → range_contains low_order (Included (key.ChainUse 0)) Unbounded k ≡ is_use k
from_uses (key.Instance n) = refl
from_uses (key.Attach n) = refl
from_uses (key.Acl from to) = refl
from_uses (key.ChainUse n) = grind (arith, nat_tests)

pub for_agents : (k : LowKey) → range_contains low_order (Included (key.Attach 0)) (Excluded (key.ChainUse 0)) k ≡ is_for_agents k
for_agents (key.Instance n) = refl
for_agents (key.Attach n) = grind (arith, nat_tests)
for_agents (key.Acl from to) = refl
for_agents (key.ChainUse n) = grind (arith, nat_tests)

-- ---- what a walk over one kind finds is what a walk over all finds
found_in : {X Y : Type 0} (f : X → Option Y) (p : X → Bool) → ((x : X) → p x ≡ false → f x ≡ None) → (xs : List X) → filter_map f (filter p xs) ≡ filter_map f xs
found_in f p none [] = refl
found_in {Y = Y} f p none (x ∷ xs) =
    elim (p x) as (λ b. p x ≡ b → filter_map f (cond b (x ∷ filter p xs) (filter p xs)) ≡ cons_option (f x) (filter_map f xs)) [
      | true ↦ λ _. ap (λ (l : List Y). cons_option (f x) l) (found_in f p none xs)
      | false ↦ λ e. found_in f p none xs ∙ sym (ap (λ (o : Option Y). cons_option o (filter_map f xs)) (none x e))
    ] refl

no_network : (e : Entry) → is_network e.0 ≡ false → network_of e.0 ≡ None
no_network (key.Instance n, v) h = absurd (true≢false h)
no_network (key.Attach n, v) h = refl
no_network (key.Acl from to, v) h = refl
no_network (key.ChainUse n, v) h = refl

no_use : (e : Entry) → is_use e.0 ≡ false → as_use e.0 e.1 ≡ None
no_use (key.Instance n, v) h = refl
no_use (key.Attach n, v) h = refl
no_use (key.Acl from to, v) h = refl
no_use (key.ChainUse n, v) h = absurd (true≢false h)

pub networks_in : (es : List Entry) → filter_map (λ e. network_of e.0) (filter (λ e. is_network e.0) es) ≡ filter_map (λ e. network_of e.0) es
networks_in = found_in (λ (e : Entry). network_of e.0) (λ (e : Entry). is_network e.0) no_network

pub uses_in : (es : List Entry) → filter_map (λ e. as_use e.0 e.1) (filter (λ e. is_use e.0) es) ≡ filter_map (λ e. as_use e.0 e.1) es
uses_in = found_in (λ (e : Entry). as_use e.0 e.1) (λ (e : Entry). is_use e.0) no_use

passing_in : {X : Type 0} (p q : X → Bool) → ((x : X) → q x ≡ false → p x ≡ false) → (xs : List X) → filter p (filter q xs) ≡ filter p xs
passing_in p q none [] = refl
passing_in {X = X} p q none (x ∷ xs) =
    elim (q x) as (λ b. q x ≡ b → filter p (cond b (x ∷ filter q xs) (filter q xs)) ≡ cond (p x) (x ∷ filter p xs) (filter p xs)) [
      | true ↦ λ _. ap (λ (l : List X). cond (p x) (x ∷ l) l) (passing_in p q none xs)
      | false ↦ λ e. passing_in p q none xs ∙ sym (ap (λ b. cond b (x ∷ filter p xs) (filter p xs)) (none x e))
    ] refl

not_for_agents : (feed : Map) (address : Addr) (e : Entry) → is_for_agents e.0 ≡ false → is_in_slice feed address e.0 e.1 ≡ false
not_for_agents feed address (key.Instance n, v) h = refl
not_for_agents feed address (key.Attach n, v) h = absurd (true≢false h)
not_for_agents feed address (key.Acl from to, v) h = absurd (true≢false h)
not_for_agents feed address (key.ChainUse n, v) h = refl

pub slice_in : (feed : Map) (address : Addr) → filter (λ e. is_in_slice feed address e.0 e.1) (filter (λ e. is_for_agents e.0) (objects feed)) ≡ slice feed address
slice_in feed address = passing_in (λ (e : Entry). is_in_slice feed address e.0 e.1) (λ (e : Entry). is_for_agents e.0) (not_for_agents feed address) (objects feed)

-- ---- what is listed is held
all_members : (P : Entry → Type 0) (es : List Entry) → ((e : Entry) → Member e es → P e) → AllByRecursion P es
all_members P [] f = tt
all_members P (e ∷ es) f = (f e (inl refl), all_members P es (λ x m. f x (inr m)))

pub uses_held : (feed : Map) → AllByRecursion (IsHeld feed) (filter (λ e. is_use e.0) (objects feed))
uses_held feed =
    all_members (IsHeld feed) (filter (λ (e : Entry). is_use e.0) (objects feed))
    (λ e m. ap as_object (object_of feed e.0 e.1 (from_filter (λ (e : Entry). is_use e.0) e (objects feed) m).0))
