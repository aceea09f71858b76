-- What a lookup finds holds the address.
use Rattle.std.specs.List.{filter_map}
use Rattle.std.specs.Prelude.{List, Option, None, Some, cond, false, nat_le, true, ℕ, [], ◌==◌, ◌∷◌, ◌≡◌}
use Rattle.std.proofs.Common.{ap, inl, inr, refl, subst, sym, ◌∙◌}
use Rattle.std.proofs.lemmas.Bool.{eqb-true}
use Rattle.std.proofs.lemmas.Option.{same_Some}
use Rattle.ov_types.specs.Prefix.{Block, contains}
use Rattle.ov_types.specs.Routing.{longer, longest}
use Rattle.ov_types.specs.declared.numbers.InstanceId.{InstanceId}
use Rattle.ov_types.specs.declared.rows.AgentRows.{AgentRows}
use Rattle.ov_types.specs.declared.rows.Entry.{Entry as RouteEntry}
use Rattle.route_targets.specs.Forwarding.{looked_up, route_in}
use Rattle.transform_model.proofs.Lists.{mapped_some}
use Rattle.node_laws.specs.NodeModel.Members.{Member}
use Rattle.node_laws.proofs.NodeModel.Members.{from_filter_map, none_some}
use Rattle.machine_laws.proofs.Found.{Routed}

-- it is one of the routes, and its prefix holds the address
abbrev IsOneOf : {A : Type 0} → ℕ → List (Block × A) → Block × A → Type 0
IsOneOf a rs r = Member r rs × (contains r.0 a ≡ true)

longest_is : {A : Type 0} (a : ℕ) (rs : List (Block × A)) (r : Block × A) → longest a rs ≡ Some r → IsOneOf a rs r
longest_is a [] r e = absurd (none_some r e)
longest_is {A} a (s ∷ rs) r e =
    elim (contains s.0 a) as (λ b. contains s.0 a ≡ b → cond b (longer s (longest a rs)) (longest a rs) ≡ Some r → IsOneOf a (s ∷ rs) r) [
      | true ↦ λ h e. by_rest h (longest_is a rs r) (longest a rs) refl e
      | false ↦ λ h e. later (longest_is a rs r e)
    ] refl e
  where
    Holds : Block × A → Type 0
    Holds r = contains r.0 a ≡ true

    later : IsOneOf a rs r → IsOneOf a (s ∷ rs) r
    later h = (inr h.0, h.1)

    first : contains s.0 a ≡ true → Some s ≡ Some r → IsOneOf a (s ∷ rs) r
    first h e = (inl (same_Some s r e), subst Holds (same_Some s r e) h)

    by_rest : contains s.0 a ≡ true → (longest a rs ≡ Some r → IsOneOf a rs r) → (o : Option (Block × A)) → longest a rs ≡ o → longer s o ≡ Some r → IsOneOf a (s ∷ rs) r
    by_rest h rest None is e = first h e
    by_rest h rest (Some u) is e =
        elim (nat_le u.0.len s.0.len) as (λ b. cond b (Some s) (Some u) ≡ Some r → IsOneOf a (s ∷ rs) r) [
          | true ↦ λ e. first h e
          | false ↦ λ e. later (rest (is ∙ e))
        ] e

abbrev IsOfInstance : InstanceId → Routed → Block × RouteEntry → Type 0
IsOfInstance i r s = (r.0.0 ≡ i) × (r.0.1 ≡ s.0) × (r.1 ≡ s.1)

of_instance : (i : InstanceId) (r : Routed) (s : Block × RouteEntry) → route_in i r ≡ Some s → IsOfInstance i r s
of_instance i r s e =
    elim (r.0.0.0 == i.0) as (λ b. (r.0.0.0 == i.0) ≡ b → cond b (Some (r.0.1, r.1)) None ≡ Some s → IsOfInstance i r s) [
      | true ↦ λ is e. ((λ k. record { 0 = eqb-true r.0.0.0 i.0 is k }), ap (λ (s : Block × RouteEntry). s.0) (same_Some _ s e), ap (λ (s : Block × RouteEntry). s.1) (same_Some _ s e))
      | false ↦ λ is e. absurd (none_some s e)
    ] refl e

-- a route of the instance whose prefix holds the address
pub record IsLookedUp (rows : AgentRows) (i : InstanceId) (address : ℕ) (hop : RouteEntry) : Type 0 where
  pub route : Routed
  pub there : Member route rows.routes
  pub instance : route.0.0 ≡ i
  pub holds : contains route.0.1 address ≡ true
  pub hop_is : route.1 ≡ hop

pub found : (rows : AgentRows) (i : InstanceId) (address : ℕ) (hop : RouteEntry) → looked_up rows i address ≡ Some hop → IsLookedUp rows i address hop
found rows i address hop e =
    let routes = filter_map (route_in i) rows.routes in
    let m = mapped_some (λ (r : Block × RouteEntry). r.1) (longest address routes) hop e in
    let l = longest_is address routes m.0 m.1 in
    let q = from_filter_map (route_in i) m.0 rows.routes l.0 in
    let s = of_instance i q.0 m.0 q.2 in
    record {
      route = q.0;
      there = q.1;
      instance = s.0;
      holds = subst (λ (b : Block). contains b address ≡ true) (sym s.1) l.1;
      hop_is = s.2 ∙ m.2;
    }
