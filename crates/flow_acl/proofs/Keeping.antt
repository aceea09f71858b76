-- Kept verdicts: what is found of a flow, and that each stays what the lists say.
use Rattle.std.proofs.Common.{◌≡◌, ℕ, zero, suc, ◌<◌, ◌⊎◌, true, false, cond, List, [], ◌∷◌, take, length, get_or, Contains, Some, None, refl, sym, ap, subst, ◌∙◌, inl, inr, ◌&&◌, nat_eq, arith}
use Rattle.std.specs.Bool.{Decides}
use Rattle.std.specs.Map.{lookup, lookup_entry}
use Rattle.std.specs.Result.{OnOk, OnErr}
use Rattle.std.specs.declared.result.Result.{Result}
use Rattle.std.specs.declared.result.Result.TheVariants.{Ok, Err}
use Rattle.std.proofs.lemmas.Bool.Decides.{Decides-eqb, Decides-and}
use Rattle.std.proofs.lemmas.List.Elements.{All-cons, All-take}
use Rattle.lru.specs.LruCache.{LruCache, lru_cache, put_entries}
use Rattle.lru.proofs.CallerLemmas.{Contains-lookup, Contains-promoted}
use Rattle.ov_types.specs.Access.{verdict}
use Rattle.ov_types.specs.declared.objects.LowKey.{LowKey}
use Rattle.ov_types.specs.declared.objects.LowValue.{LowValue}
use Rattle.ov_types.specs.declared.numbers.InstanceId.{InstanceId}
use Rattle.ov_types.specs.declared.packet.Packet.{Packet}
use Rattle.ov_types.specs.declared.packet.Tuple.{Tuple}
use Rattle.ov_types.specs.declared.prefix.Addr.{Addr}
use Rattle.ov_types.specs.declared.verdict.Verdict.{Verdict}
use Rattle.flow_acl.specs.Flows.{AreOf, IsOf, flow_of, is_flow, packet_of, used, with_new}
use Rattle.flow_acl.specs.declared.flow.FlowKey.{FlowKey}

numbers : (a b : InstanceId) → Decides (nat_eq a.0 b.0) (a ≡ b)
numbers a b = let d = Decides-eqb a.0 b.0 in (λ e. let h = d.0 e in λ i. record { 0 = h i }, λ e. d.1 (λ i. (e i).0))

addresses : (a b : Addr) → Decides (nat_eq a.0 b.0) (a ≡ b)
addresses a b = let d = Decides-eqb a.0 b.0 in (λ e. let h = d.0 e in λ i. record { 0 = h i }, λ e. d.1 (λ i. (e i).0))

tuples : (a b : Tuple) → Decides (nat_eq a.proto b.proto && (nat_eq a.sport b.sport && nat_eq a.dport b.dport)) (a ≡ b)
tuples a b =
    let d = Decides-and _ _ (Decides-eqb a.proto b.proto) (Decides-and _ _ (Decides-eqb a.sport b.sport) (Decides-eqb a.dport b.dport)) in
    (λ e. let h = d.0 e in λ i. record { proto = h.0 i; sport = h.1.0 i; dport = h.1.1 i }, λ e. d.1 (λ i. (e i).proto, (λ i. (e i).sport, λ i. (e i).dport)))

flows : (f g : FlowKey) → Decides (is_flow f g) (f ≡ g)
flows f g =
    let d = Decides-and _ _ (numbers f.network g.network) (Decides-and _ _ (addresses f.destination g.destination) (tuples f.tuple g.tuple)) in
    (λ e. let h = d.0 e in λ i. record { network = h.0 i; destination = h.1.0 i; tuple = h.1.1 i }, λ e. d.1 (λ i. (e i).network, (λ i. (e i).destination, λ i. (e i).tuple)))

-- flows that compare alike are one
pub same_flow : (f g : FlowKey) → is_flow f g ≡ true → f ≡ g
same_flow f g e = (flows f g).0 e

any_default : {A : Type 0} (xs : List A) (k : ℕ) (d e : A) → k < length xs → get_or xs k d ≡ get_or xs k e
any_default [] k d e lt = absurd (omega arith)
any_default (x ∷ xs) zero d e lt = refl
any_default (x ∷ xs) (suc k) d e lt = let less : k < length xs = omega (arith, lt) in any_default xs k d e less

module _ (lists : List (LowKey × LowValue)) where
  -- what is among kept verdicts is one of them
  among : (kept : List (FlowKey × Verdict)) → AreOf lists kept → (e : FlowKey × Verdict) → Contains kept e → IsOf lists e
  among kept all e at = subst (IsOf lists) at.2 (all at.0 e at.1)

  -- what is kept of a flow is what the lists say
  pub found_says : (network : InstanceId) (p : Packet) (kept : List (FlowKey × Verdict)) (v : Verdict) → AreOf lists kept
      → lookup (is_flow (flow_of network p)) kept ≡ Some v → v ≡ verdict lists network.0 p
  found_says network p kept v all h =
      let at = Contains-lookup (is_flow (flow_of network p)) kept v h in
      let same : flow_of network p ≡ at.0 = same_flow (flow_of network p) at.0 at.2 in
      among kept all (at.0, v) at.1 p.source ∙ sym (ap (λ (f : FlowKey). verdict lists f.network.0 (packet_of f p.source)) same)

  every : (kept : List (FlowKey × Verdict)) → ((e : FlowKey × Verdict) → Contains kept e → IsOf lists e) → AreOf lists kept
  every kept h = λ k d lt. h (get_or kept k d) (k, lt, any_default kept k (get_or kept k d) d lt)

  pub used_says : (f : FlowKey) (kept : List (FlowKey × Verdict)) → AreOf lists kept → AreOf lists (used f kept)
  used_says f kept all = every (used f kept) (λ e at. among kept all e (Contains-promoted (is_flow f) kept e at))

  pub new_says : (network : InstanceId) (p : Packet) (v : Verdict) (kept : List (FlowKey × Verdict)) → v ≡ verdict lists network.0 p → AreOf lists kept
      → AreOf lists (with_new (flow_of network p) v kept)
  unfolding verdict
  new_says network p v kept is all = All-cons (IsOf lists) (flow_of network p, v) (take 1023 kept) (λ source. is) (All-take (IsOf lists) 1023 kept all)

  -- one of the two that follow
  pub kept_says : (network : InstanceId) (p : Packet) (v : Verdict) (kept kept' : List (FlowKey × Verdict)) → v ≡ verdict lists network.0 p → AreOf lists kept
      → (kept' ≡ with_new (flow_of network p) v kept) ⊎ (kept' ≡ kept) → AreOf lists kept'
  kept_says network p v kept kept' is all (inl e) = subst (AreOf lists) (sym e) (new_says network p v kept is all)
  kept_says network p v kept kept' is all (inr e) = subst (AreOf lists) (sym e) all

-- where nothing is kept each of it is what any lists say
pub none_kept : (lists : List (LowKey × LowValue)) (kept : List (FlowKey × Verdict)) → kept ≡ [] → AreOf lists kept
none_kept lists kept e = subst (AreOf lists) (sym e) (λ k d lt. absurd (omega arith))

-- where nothing is kept of a flow its entry is not there
none_entry : (f : FlowKey) (kept : List (FlowKey × Verdict)) → lookup (is_flow f) kept ≡ None → lookup_entry (is_flow f) kept ≡ None
none_entry f [] h = refl
none_entry f (e ∷ es) h =
    elim (is_flow f e.0) as (λ b. cond b (Some e.1) (lookup (is_flow f) es) ≡ None → cond b (Some e) (lookup_entry (is_flow f) es) ≡ None) [
      | true ↦ λ h. cc
      | false ↦ λ h. none_entry f es h
    ] h

-- where nothing is kept of a flow the others are used as they were
pub unused : (f : FlowKey) (kept : List (FlowKey × Verdict)) → lookup (is_flow f) kept ≡ None → used f kept ≡ kept
unused f kept h = rw (none_entry f kept h) refl

pub put_is : (f : FlowKey) (v : Verdict) (c : LruCache FlowKey Verdict) → c.cap ≡ 1024 → lookup (is_flow f) c.entries ≡ None
    → put_entries is_flow c f v ≡ with_new f v c.entries
put_is f v c cap h = rw (none_entry f c.entries h, cap) refl

pub put_or_not : {T E : Type 0} (r : Result T E) (f : FlowKey) (v : Verdict) (c c' : LruCache FlowKey Verdict) → c.cap ≡ 1024 → lookup (is_flow f) c.entries ≡ None
    → OnOk r (c' ≡ lru_cache (put_entries is_flow c f v) c.cap) → OnErr r (c' ≡ c)
    → (c'.entries ≡ with_new f v c.entries) ⊎ (c'.entries ≡ c.entries)
put_or_not (Ok x) f v c c' cap h ok err = inl (ap (λ (d : LruCache FlowKey Verdict). d.entries) ok ∙ put_is f v c cap h)
put_or_not (Err x) f v c c' cap h ok err = inr (ap (λ (d : LruCache FlowKey Verdict). d.entries) err)
