-- A packet that leaves its source.
use Rattle.std.proofs.Common.{◌≡◌, List, [], Option, Some, None, option_map, map, sym, ap, ◌∙◌, subst}
use Rattle.std.specs.List.{slice_get}
use Rattle.ov_types.specs.Access.{verdict}
use Rattle.ov_types.specs.First.{first_of}
use Rattle.ov_types.specs.declared.numbers.InstanceId.{InstanceId}
use Rattle.ov_types.specs.declared.packet.Outcome.{Outcome}
use Rattle.ov_types.specs.declared.packet.Outcome.TheVariants.{Dropped}
use Rattle.ov_types.specs.declared.packet.Packet.{Packet}
use Rattle.ov_types.specs.declared.packet.RuleNo.{RuleNo}
use Rattle.ov_types.specs.declared.packet.Why.TheVariants as Why
use Rattle.ov_types.specs.declared.verdict.Verdict.{Verdict}
use Rattle.ov_types.specs.declared.verdict.Verdict.TheVariants as Says
use Rattle.route_targets.specs.Forwarding.{Forwarder, admitted, departed, forwarding, source_at, walk}
use Rattle.packet_trace.specs.Lookups.{Lookup, hop_of, hops_of, lookups, lookups_at, lookups_by, lookups_from}
use Rattle.packet_trace.specs.Steps.{lookup_at, source_in}
use Rattle.packet_trace.specs.declared.hops.Hop.{Hop}
use Rattle.packet_trace.specs.declared.step.LookupPlace.{LookupPlace}
use Rattle.packet_trace.proofs.Walks.{mapped_twice}

-- what the verdict makes of a packet that has a source
module _ (agents : List Forwarder) (p : Packet) (i : InstanceId) (vd : Verdict) where
  at_source : (o : Option Forwarder) (first : Option (Forwarder × InstanceId)) → option_map (λ f. (f, i)) o ≡ first
      → Some vd ≡ option_map (λ f. verdict f.rows.acls i.0 p) o
      → Some (departed agents p first) ≡ option_map (λ f. admitted agents p.destination.0 f i vd) o
  at_source None first src said = cc
  at_source (Some f) first src said =
      let same : vd ≡ verdict f.rows.acls i.0 p = cc in
      let some : Outcome → Option Outcome = λ x. Some x in
      ap some (ap (departed agents p) (sym src) ∙ ap (admitted agents p.destination.0 f i) (sym same))

  looked_at_source : (o : Option Forwarder) (first : Option (Forwarder × InstanceId)) → option_map (λ f. (f, i)) o ≡ first
      → Some vd ≡ option_map (λ f. verdict f.rows.acls i.0 p) o
      → Some (lookups_at agents p first) ≡ option_map (λ f. lookups_by agents p.destination.0 f i vd) o
  looked_at_source None first src said = cc
  looked_at_source (Some f) first src said =
      let same : vd ≡ verdict f.rows.acls i.0 p = cc in
      let some : List Lookup → Option (List Lookup) = λ x. Some x in
      ap some (ap (lookups_at agents p) (sym src) ∙ ap (lookups_by agents p.destination.0 f i) (sym same))

one_end : {R : Type 0} (o : Option Forwarder) (by : Forwarder → R) (x y : R) → Some x ≡ option_map by o → Some y ≡ option_map by o → x ≡ y
one_end None by x y hx hy = cc
one_end (Some f) by x y hx hy = cc

one_constant : {R : Type 0} (o : Option Forwarder) (z y : R) → Some y ≡ option_map (λ f. z) o → z ≡ y
one_constant None z y h = cc
one_constant (Some f) z y h = cc

module _ (agents : List Forwarder) (p : Packet) (k : LookupPlace) (vd : Verdict) (src : source_in agents (Some k) ≡ first_of (source_at p) agents)
    (said : Some vd ≡ option_map (λ f. verdict f.rows.acls k.instance.0 p) (slice_get agents k.agent)) where
  forwarded : Some (forwarding agents p) ≡ option_map (λ f. admitted agents p.destination.0 f k.instance vd) (slice_get agents k.agent)
  unfolding forwarding
  forwarded = at_source agents p k.instance vd (slice_get agents k.agent) (first_of (source_at p) agents) src said

  looked : Some (lookups agents p) ≡ option_map (λ f. lookups_by agents p.destination.0 f k.instance vd) (slice_get agents k.agent)
  unfolding lookups
  looked = looked_at_source agents p k.instance vd (slice_get agents k.agent) (first_of (source_at p) agents) src said

  hopped : Some (hops_of agents p) ≡ option_map (λ f. map hop_of (lookups_by agents p.destination.0 f k.instance vd)) (slice_get agents k.agent)
  hopped = ap (option_map (map hop_of)) looked ∙ mapped_twice (map hop_of) (λ (f : Forwarder). lookups_by agents p.destination.0 f k.instance vd) (slice_get agents k.agent)

  said_is : (w : Verdict) → vd ≡ w → Some (forwarding agents p) ≡ option_map (λ f. admitted agents p.destination.0 f k.instance w) (slice_get agents k.agent)
  said_is w e = subst (λ (v : Verdict). Some (forwarding agents p) ≡ option_map (λ (f : Forwarder). admitted agents p.destination.0 f k.instance v) (slice_get agents k.agent)) e forwarded

  hops_are : (w : Verdict) → vd ≡ w → Some (hops_of agents p) ≡ option_map (λ f. map hop_of (lookups_by agents p.destination.0 f k.instance w)) (slice_get agents k.agent)
  hops_are w e = subst (λ (v : Verdict). Some (hops_of agents p) ≡ option_map (λ (f : Forwarder). map hop_of (lookups_by agents p.destination.0 f k.instance v)) (slice_get agents k.agent)) e hopped

  walks_from : (later : List Forwarder) → later ≡ agents → (i : InstanceId) (o : Outcome)
      → Some o ≡ option_map (λ l. walk later p.destination.0 64 l.agent [] l.instance) (lookup_at later (record { agent = k.agent; instance = i }))
      → Some o ≡ option_map (λ f. walk agents p.destination.0 64 f [] i) (slice_get agents k.agent)
  walks_from later e i o h =
      subst (λ (l : List Forwarder). Some o ≡ option_map (λ (x : Lookup). walk l p.destination.0 64 x.agent [] x.instance) (lookup_at l (record { agent = k.agent; instance = i }))) e h
      ∙ mapped_twice (λ (x : Lookup). walk agents p.destination.0 64 x.agent [] x.instance) (λ (f : Forwarder). record { agent = f; instance = i }) (slice_get agents k.agent)

  hops_from : (later : List Forwarder) → later ≡ agents → (i : InstanceId) (hs : List Hop)
      → Some hs ≡ option_map (λ l. map hop_of (lookups_from later p.destination.0 64 l)) (lookup_at later (record { agent = k.agent; instance = i }))
      → Some hs ≡ option_map (λ f. map hop_of (lookups_from agents p.destination.0 64 (record { agent = f; instance = i }))) (slice_get agents k.agent)
  hops_from later e i hs h =
      subst (λ (l : List Forwarder). Some hs ≡ option_map (λ (x : Lookup). map hop_of (lookups_from l p.destination.0 64 x)) (lookup_at l (record { agent = k.agent; instance = i }))) e h
      ∙ mapped_twice (λ (x : Lookup). map hop_of (lookups_from agents p.destination.0 64 x)) (λ (f : Forwarder). record { agent = f; instance = i }) (slice_get agents k.agent)

  pub passes : vd ≡ Says.Pass → (later : List Forwarder) → later ≡ agents → (o : Outcome)
      → Some o ≡ option_map (λ l. walk later p.destination.0 64 l.agent [] l.instance) (lookup_at later k) → o ≡ forwarding agents p
  passes e later same o h = one_end (slice_get agents k.agent) (λ f. walk agents p.destination.0 64 f [] k.instance) o (forwarding agents p) (walks_from later same k.instance o h) (said_is Says.Pass e)

  pub passes_by : vd ≡ Says.Pass → (later : List Forwarder) → later ≡ agents → (hs : List Hop)
      → Some hs ≡ option_map (λ l. map hop_of (lookups_from later p.destination.0 64 l)) (lookup_at later k) → hs ≡ hops_of agents p
  passes_by e later same hs h =
      one_end (slice_get agents k.agent) (λ f. map hop_of (lookups_from agents p.destination.0 64 (record { agent = f; instance = k.instance }))) hs (hops_of agents p) (hops_from later same k.instance hs h) (hops_are Says.Pass e)

  pub enters : (i : InstanceId) → vd ≡ Says.Enter i → (later : List Forwarder) → later ≡ agents → (o : Outcome)
      → Some o ≡ option_map (λ l. walk later p.destination.0 64 l.agent [] l.instance) (lookup_at later (record { agent = k.agent; instance = i })) → o ≡ forwarding agents p
  enters i e later same o h = one_end (slice_get agents k.agent) (λ f. walk agents p.destination.0 64 f [] i) o (forwarding agents p) (walks_from later same i o h) (said_is (Says.Enter i) e)

  pub enters_by : (i : InstanceId) → vd ≡ Says.Enter i → (later : List Forwarder) → later ≡ agents → (hs : List Hop)
      → Some hs ≡ option_map (λ l. map hop_of (lookups_from later p.destination.0 64 l)) (lookup_at later (record { agent = k.agent; instance = i })) → hs ≡ hops_of agents p
  enters_by i e later same hs h =
      one_end (slice_get agents k.agent) (λ f. map hop_of (lookups_from agents p.destination.0 64 (record { agent = f; instance = i }))) hs (hops_of agents p) (hops_from later same i hs h) (hops_are (Says.Enter i) e)

  pub denied : (rule : Option RuleNo) → vd ≡ Says.Denied rule → (Dropped (Why.Denied rule) ≡ forwarding agents p) × ([] ≡ hops_of agents p)
  denied rule e =
      let no_hops : List Hop = [] in (
        one_constant (slice_get agents k.agent) (Dropped (Why.Denied rule)) (forwarding agents p) (said_is (Says.Denied rule) e),
        one_constant (slice_get agents k.agent) no_hops (hops_of agents p) (hops_are (Says.Denied rule) e),
      )

  pub nowhere : vd ≡ Says.NoDestination → (Dropped Why.NoDestination ≡ forwarding agents p) × ([] ≡ hops_of agents p)
  nowhere e =
      let no_hops : List Hop = [] in (
        one_constant (slice_get agents k.agent) (Dropped Why.NoDestination) (forwarding agents p) (said_is Says.NoDestination e),
        one_constant (slice_get agents k.agent) no_hops (hops_of agents p) (hops_are Says.NoDestination e),
      )

pub no_source : (agents : List Forwarder) (p : Packet) → None ≡ first_of (source_at p) agents → (Dropped Why.NoSourcePort ≡ forwarding agents p) × ([] ≡ hops_of agents p)
unfolding forwarding lookups
no_source agents p none = (
  ap (departed agents p) none,
  ap (λ (o : Option (Forwarder × InstanceId)). map hop_of (lookups_at agents p o)) none,
)
