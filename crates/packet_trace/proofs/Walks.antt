-- A lookup of the walk, and those behind it.
use Rattle.std.proofs.Common.{leb, ◌≤◌, ◌<◌, ◌-◌, arith, Bool, ◌==◌, subst, append-nil, ◌≡◌, ℕ, suc, ◌++◌, List, [], ◌∷◌, Option, Some, None, option_map, map, refl, sym, ap, ◌∙◌, append_assoc}
use Rattle.std.specs.List.{All, Contains, find}
use Rattle.std.specs.List.{slice_get}
use Rattle.std.proofs.lemmas.Bool.{and_parts, leb-true}
use Rattle.ov_types.specs.declared.numbers.InstanceId.{InstanceId}
use Rattle.ov_types.specs.declared.numbers.ServiceNo.{ServiceNo}
use Rattle.ov_types.specs.declared.packet.Outcome.{Outcome}
use Rattle.ov_types.specs.declared.packet.Outcome.TheVariants.{Delivered, Dropped}
use Rattle.ov_types.specs.declared.numbers.Label.{Label}
use Rattle.ov_types.specs.declared.packet.Why.TheVariants as Why
use Rattle.ov_types.specs.declared.rows.AgentRows.{AgentRows}
use Rattle.ov_types.specs.declared.rows.Attached.{Attached}
use Rattle.ov_types.specs.declared.rows.Attached.TheVariants.{Port, Circuit}
use Rattle.ov_types.specs.declared.rows.Entry.{Entry}
use Rattle.route_targets.specs.Forwarding.{Forwarder, agent_at, as_port, attached, source_at, followed, handed, looked_up, visited, walk}
use Rattle.packet_trace.specs.Lookups.{Leading, Lookup, Arrives, Stops, Passes, hop_of, leading, leading_at, leading_by, leading_to, lookups_from, on_from}
use Rattle.route_targets.specs.Numbers.{circuit_instance_of, other_side_of, port_label_of}
use Rattle.ov_types.specs.declared.packet.Packet.{Packet}
use Rattle.ov_types.proofs.FirstLemmas.{found_is}
use Rattle.packet_trace.specs.Circuits.{IsOfAUse}
use Rattle.packet_trace.specs.Steps.{as_leading, lookup_at}
use Rattle.packet_trace.specs.declared.step.LookupStep.TheVariants as Does
use Rattle.packet_trace.specs.declared.hops.Hop.{Hop}
use Rattle.packet_trace.specs.declared.step.LookupPlace.{LookupPlace}
use Rattle.packet_trace.specs.declared.step.LookupStep.{LookupStep}

-- what becomes of a packet by what a lookup leads to
abbrev pub outcome_by : (Forwarder → List ServiceNo → InstanceId → Outcome) → List ServiceNo → Leading → Outcome
outcome_by again services (Arrives port) = Delivered port services
outcome_by again services (Stops why) = Dropped why
outcome_by again services (Passes service l) = again l.agent (services ++ service ∷ []) l.instance

module _ (again : Forwarder → List ServiceNo → InstanceId → Outcome) (services : List ServiceNo) where
  under : (g : Forwarder) (o : Option Attached) → visited (again g) services o ≡ outcome_by again services (leading_at g o)
  under g None = refl
  under g (Some (Port port instance)) = refl
  under g (Some (Circuit circuit service)) = refl

  at_agent : (e : Entry) (o : Option Forwarder) → handed again services e.label o ≡ outcome_by again services (leading_to e.label o)
  at_agent e None = refl
  at_agent e (Some g) = under g (attached g.rows e.label)

  pub by_route : (agents : List Forwarder) (o : Option Entry) → followed again agents services o ≡ outcome_by again services (leading_by agents o)
  by_route agents None = refl
  by_route agents (Some e) = at_agent e (agent_at agents e.next_hop)

pub mapped_twice : {A B C : Type 0} (f : B → C) (g : A → B) (o : Option A) → option_map f (option_map g o) ≡ option_map (λ x. f (g x)) o
mapped_twice f g None = refl
mapped_twice f g (Some x) = refl

mapped_alike : {A B : Type 0} (f g : A → B) → ((x : A) → f x ≡ g x) → (o : Option A) → option_map f o ≡ option_map g o
mapped_alike f g same None = refl
mapped_alike {A} {B} f g same (Some x) = let some : B → Option B = λ y. Some y in ap some (same x)

module _ (agents : List Forwarder) (address : ℕ) where
  pub stepped : (m : ℕ) (services : List ServiceNo) (p : LookupPlace) (r : LookupStep) → as_leading agents r ≡ option_map (leading agents address) (lookup_at agents p)
      → option_map (λ x. walk agents address (suc m) x.agent services x.instance) (lookup_at agents p)
      ≡ option_map (outcome_by (walk agents address m) services) (as_leading agents r)
  stepped m services p r is =
      mapped_alike (λ (x : Lookup). walk agents address (suc m) x.agent services x.instance)
      (λ (x : Lookup). outcome_by (walk agents address m) services (leading agents address x))
      (λ x. by_route (walk agents address m) services agents (looked_up x.agent.rows x.instance address)) (lookup_at agents p)
      ∙ sym (mapped_twice (outcome_by (walk agents address m) services) (leading agents address) (lookup_at agents p))
      ∙ sym (ap (option_map (outcome_by (walk agents address m) services)) is)

  -- the lookups so far, this one, and those behind it
  abbrev pub hops_by : ℕ → List Hop → Leading → List Hop
  hops_by m hops l = hops ++ map hop_of (on_from (lookups_from agents address m) l)

  hop_first : (m : ℕ) (hops : List Hop) (h : Hop) (o : Option Lookup) → Some h ≡ option_map hop_of o
      → option_map (λ x. hops ++ map hop_of (lookups_from agents address (suc m) x)) o
      ≡ option_map (hops_by m (hops ++ h ∷ [])) (option_map (leading agents address) o)
  hop_first m hops h None is = refl
  hop_first m hops h (Some x) is =
      let same : h ≡ hop_of x = cc in
      let rest : List Hop = map hop_of (on_from (lookups_from agents address m) (leading agents address x)) in
      let some : List Hop → Option (List Hop) = λ l. Some l in
      ap some (ap (λ (k : Hop). hops ++ k ∷ rest) (sym same) ∙ sym (append_assoc hops (h ∷ []) rest))

  pub hopped : (m : ℕ) (hops : List Hop) (h : Hop) (p : LookupPlace) (r : LookupStep) → Some h ≡ option_map hop_of (lookup_at agents p)
      → as_leading agents r ≡ option_map (leading agents address) (lookup_at agents p)
      → option_map (λ x. hops ++ map hop_of (lookups_from agents address (suc m) x)) (lookup_at agents p)
      ≡ option_map (hops_by m (hops ++ h ∷ [])) (as_leading agents r)
  hopped m hops h p r here is = hop_first m hops h (lookup_at agents p) here ∙ sym (ap (option_map (hops_by m (hops ++ h ∷ []))) is)

  -- the same with so many left

  pub walk_step : (left : ℕ) (services : List ServiceNo) (p : LookupPlace) (r : LookupStep) (all : Option Outcome) → 0 < left
      → as_leading agents r ≡ option_map (leading agents address) (lookup_at agents p)
      → option_map (λ x. walk agents address left x.agent services x.instance) (lookup_at agents p) ≡ all
      → option_map (outcome_by (walk agents address (left - 1)) services) (as_leading agents r) ≡ all
  walk_step left services p r all some_left is so_far =
      let e : left ≡ suc (left - 1) = omega arith in
      sym (stepped (left - 1) services p r is)
      ∙ subst (λ (n : ℕ). option_map (λ x. walk agents address n x.agent services x.instance) (lookup_at agents p) ≡ all) e so_far

  pub hops_step : (left : ℕ) (hops : List Hop) (h : Hop) (p : LookupPlace) (r : LookupStep) (all : Option (List Hop)) → 0 < left
      → Some h ≡ option_map hop_of (lookup_at agents p)
      → as_leading agents r ≡ option_map (leading agents address) (lookup_at agents p)
      → option_map (λ x. hops ++ map hop_of (lookups_from agents address left x)) (lookup_at agents p) ≡ all
      → option_map (hops_by (left - 1) (hops ++ h ∷ [])) (as_leading agents r) ≡ all
  hops_step left hops h p r all some_left here is so_far =
      let e : left ≡ suc (left - 1) = omega arith in
      sym (hopped (left - 1) hops h p r here is)
      ∙ subst (λ (n : ℕ). option_map (λ x. hops ++ map hop_of (lookups_from agents address n x)) (lookup_at agents p) ≡ all) e so_far

  pub walk_on : (m : ℕ) (services later : List ServiceNo) (s : ServiceNo) (behind : LookupPlace) (all : Option Outcome) → later ≡ services ++ s ∷ []
      → option_map (outcome_by (walk agents address m) services) (as_leading agents (Does.Passes s behind)) ≡ all
      → option_map (λ x. walk agents address m x.agent later x.instance) (lookup_at agents behind) ≡ all
  walk_on m services later s behind all e so_far =
      ap (λ (l : List ServiceNo). option_map (λ (x : Lookup). walk agents address m x.agent l x.instance) (lookup_at agents behind)) e
      ∙ sym (mapped_twice (outcome_by (walk agents address m) services) (λ (l : Lookup). Passes s l) (lookup_at agents behind))
      ∙ so_far

  pub hops_on : (m : ℕ) (hops later : List Hop) (s : ServiceNo) (behind : LookupPlace) (all : Option (List Hop)) → later ≡ hops
      → option_map (hops_by m hops) (as_leading agents (Does.Passes s behind)) ≡ all
      → option_map (λ x. later ++ map hop_of (lookups_from agents address m x)) (lookup_at agents behind) ≡ all
  hops_on m hops later s behind all e so_far =
      ap (λ (l : List Hop). option_map (λ (x : Lookup). l ++ map hop_of (lookups_from agents address m x)) (lookup_at agents behind)) e
      ∙ sym (mapped_twice (hops_by m hops) (λ (l : Lookup). Passes s l) (lookup_at agents behind))
      ∙ so_far

  pub walk_spent : (left : ℕ) (services : List ServiceNo) (p : LookupPlace) (g : Forwarder) (all : Option Outcome) → left ≡ 0 → slice_get agents p.agent ≡ Some g
      → option_map (λ x. walk agents address left x.agent services x.instance) (lookup_at agents p) ≡ all
      → Some (Dropped Why.TtlExpired) ≡ all
  walk_spent left services p g all e at so_far =
      let none_left : option_map (λ (x : Lookup). walk agents address 0 x.agent services x.instance) (lookup_at agents p) ≡ all =
      subst (λ (n : ℕ). option_map (λ (x : Lookup). walk agents address n x.agent services x.instance) (lookup_at agents p) ≡ all) e so_far in
      subst (λ (o : Option Forwarder). option_map (λ (x : Lookup). walk agents address 0 x.agent services x.instance) (option_map (λ (f : Forwarder). record { agent = f; instance = p.instance }) o) ≡ all) at none_left

  pub hops_spent : (left : ℕ) (hops : List Hop) (p : LookupPlace) (g : Forwarder) (all : Option (List Hop)) → left ≡ 0 → slice_get agents p.agent ≡ Some g
      → option_map (λ x. hops ++ map hop_of (lookups_from agents address left x)) (lookup_at agents p) ≡ all
      → Some hops ≡ all
  hops_spent left hops p g all e at so_far =
      let none_left : option_map (λ (x : Lookup). hops ++ map hop_of (lookups_from agents address 0 x)) (lookup_at agents p) ≡ all =
      subst (λ (n : ℕ). option_map (λ (x : Lookup). hops ++ map hop_of (lookups_from agents address n x)) (lookup_at agents p) ≡ all) e so_far in
      let some : List Hop → Option (List Hop) = λ l. Some l in
      ap some (sym (append-nil hops))
      ∙ subst (λ (o : Option Forwarder). option_map (λ (x : Lookup). hops ++ map hop_of (lookups_from agents address 0 x)) (option_map (λ (f : Forwarder). record { agent = f; instance = p.instance }) o) ≡ all) at none_left

  -- what a lookup leads to, part by part

  pub leads : (p : LookupPlace) (f g : Forwarder) (e : Entry) (o : Option Attached) → slice_get agents p.agent ≡ Some f → looked_up f.rows p.instance address ≡ Some e
      → agent_at agents e.next_hop ≡ Some g → attached g.rows e.label ≡ o
      → option_map (leading agents address) (lookup_at agents p) ≡ Some (leading_at g o)
  leads p f g e o at route agent label =
      let some : Leading → Option Leading = λ l. Some l in
      ap (λ (x : Option Forwarder). option_map (leading agents address) (option_map (λ (h : Forwarder). record { agent = h; instance = p.instance }) x)) at
      ∙ ap (λ (x : Option Entry). some (leading_by agents x)) route
      ∙ ap (λ (x : Option Forwarder). some (leading_to e.label x)) agent
      ∙ ap (λ (x : Option Attached). some (leading_at g x)) label

  pub leads_on : (g : Forwarder) (k circuit : ℕ) (s : ServiceNo) (q : LookupPlace) → q ≡ record { agent = k; instance = circuit_instance_of (other_side_of circuit) } → slice_get agents k ≡ Some g
      → as_leading agents (Does.Passes s q) ≡ Some (leading_at g (Some (Circuit circuit s)))
  leads_on g k circuit s q e at =
      ap (λ (x : LookupPlace). as_leading agents (Does.Passes s x)) e
      ∙ ap (λ (x : Option Forwarder). option_map (λ (l : Lookup). Passes s l) (option_map (λ (h : Forwarder). record { agent = h; instance = circuit_instance_of (other_side_of circuit) }) x)) at

-- no lookup comes behind these
pub all_hops : (hops later : List Hop) → later ≡ hops → Some later ≡ Some (hops ++ [])
all_hops hops later e = let some : List Hop → Option (List Hop) = λ l. Some l in ap some (e ∙ sym (append-nil hops))

-- what is under a label is one of what the labels lead to
pub of_a_use : (rows : AgentRows) (label : Label) (t : Attached) → All (λ e. IsOfAUse e.1) rows.labels → attached rows label ≡ Some t → IsOfAUse t
of_a_use rows label t all h =
    let p : Label × Attached → Bool = λ e. e.0.0 == label.0 in
    elim (find p rows.labels) as (λ o. find p rows.labels ≡ o → option_map (λ (e : Label × Attached). e.1) o ≡ Some t → IsOfAUse t) [
      | None ↦ λ q is. cc
      | Some e ↦ λ q is.
          let place : Contains rows.labels e = (found_is p rows.labels e q).1 in
          let here : IsOfAUse e.1 = subst (λ (d : Label × Attached). IsOfAUse d.1) place.2 (all place.0 e place.1) in
          let same : e.1 ≡ t = cc in
          subst IsOfAUse same here
    ] refl h

-- an agent as the source of a packet
pub source_is : (p : Packet) (f : Forwarder) (label : Label) (o : Option InstanceId) → label ≡ port_label_of p.source → o ≡ as_port (attached f.rows label)
    → source_at p f ≡ option_map (λ network. (f, network)) o
source_is p f label o same is =
    let by : Label → Option (Forwarder × InstanceId) = λ l. option_map (λ (network : InstanceId). (f, network)) (as_port (attached f.rows l)) in
    ap by (sym same) ∙ sym (ap (option_map (λ (network : InstanceId). (f, network))) is)

pub in_range : (circuit : ℕ) (service : ServiceNo) → IsOfAUse (Circuit circuit service) → (32769 ≤ circuit) × (circuit ≤ 131070)
in_range circuit service h =
    let parts = and_parts (leb 32769 circuit) (leb circuit 131070) h in
    (leb-true 32769 circuit parts.0, leb-true circuit 131070 parts.1)
