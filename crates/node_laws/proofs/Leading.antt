-- What the first control node of the example leads on.
use Rattle.std.specs.Prelude.{◌≡◌, ℕ, ◌<◌, ◌≤◌, [], ◌∷◌, true}
use Rattle.std.specs.declared.option.Option.{Option}
use Rattle.std.specs.declared.option.Option.TheVariants.{Some, None}
use Rattle.std.specs.List.{AllByRecursion}
use Rattle.std.specs.FinMap.{get, get-from_sorted}
use Rattle.std.proofs.Common.{refl, sym, ◌∙◌, ap, inl, inr, arith}
use Rattle.ov_types.specs.Prefix.{host_prefix, is_inside}
use Rattle.ov_types.specs.declared.numbers.InstanceId.{InstanceId}
use Rattle.ov_types.specs.declared.numbers.Label.{Label as LabelNo}
use Rattle.ov_types.specs.declared.prefix.Addr.{Addr}
use Rattle.ov_types.specs.declared.vpn.VpnRoute.{VpnRoute}
use Rattle.route_targets.specs.Numbers.{target_of, distinguisher_of}
use Rattle.node_model.specs.Members.{Member}
use Rattle.node_model.specs.Keys.{Key, Low, Vpn, Row, Publish, Subscribe, key_cmp}
use Rattle.node_model.specs.Values.{Value, Label}
use Rattle.node_model.specs.Maps.{as_label}
use Rattle.node_model.specs.Paths.{Path, received}
use Rattle.node_model.specs.Reaching.{IsReoriginated, Side, circuit_at, has_path_within, hop_at, is_up, published_in, publisher}
use Rattle.node_model.specs.Ranks.{IsTargeted}
use Rattle.node_model.specs.Wants.{wanted_by_peers}
use Rattle.node_model.proofs.Members.{any_in, from_find}
use Rattle.node_model.proofs.Orders.{key_total, key_exact}
use Rattle.node_model.proofs.Objects.{in_sides}
use Rattle.node_model.proofs.Reached.{reached_to}
use Rattle.node_model.proofs.Spelled.{import_is}
use Rattle.node_model.proofs.Local.{wants_targeted}
use Rattle.node_model.proofs.Wanted.{told}
use Rattle.node_laws.specs.Counts.{AreListed, HasNoOwn, as_right}
use Rattle.node_laws.specs.Received.{HasImportedTarget, IsPeerRoute}
use Rattle.node_laws.specs.Chain.{agent_entries, agent_told, all_entries, all_told, chain_feed, chain_use, dotted, first_agent, instance, key_at, leading_on, right_subnet, second_agent, settled}
use Rattle.node_laws.proofs.Receiving.{received_is}
use Rattle.node_laws.proofs.Counting.{counted_is}
use Rattle.node_laws.proofs.Worked.{all_member, ordered, use_is_held}

abbrev right_side : Side
right_side = record { chain = chain_use; is_right = true }

-- the path that the second control node told
abbrev told_path : Path
told_path = record {
  prefix = right_subnet;
  rd = distinguisher_of second_agent (instance 16385);
  next_hop = second_agent;
  label = record { 0 = 557059 };
  targets = target_of 64512 (instance 16385) ∷ [];
  session = 1;
}

-- the path that leads on
abbrev led_path : Path
led_path = record {
  prefix = right_subnet;
  rd = distinguisher_of first_agent (instance 16384);
  next_hop = first_agent;
  label = record { 0 = 557057 };
  targets = target_of 64512 (instance 16384) ∷ [];
  session = 65535;
}

told_route : IsPeerRoute settled told_path
told_route = record {
  place = 0;
  told = all_told;
  within = omega arith;
  at = λ d. refl;
  route = get-from_sorted key_cmp all_entries (Vpn (key_at second_agent 16385 right_subnet)) tt;
  session = refl;
}

one_small : 1 ≤ 15
one_small = omega arith

one_within : 1 ≤ 2
one_within = omega arith

told_target : HasImportedTarget settled (instance 16385) told_path
told_target = record {
  imported = instance 16385;
  imports_it = (import_is chain_feed chain_use 1 (instance 16385) use_is_held one_small one_within).1 (inl refl);
  has_target = inl refl;
}

told_received : Member told_path (received settled (instance 16385))
told_received = (received_is settled (instance 16385) told_path).1 (inr told_route, told_target)

within_there : has_path_within settled (hop_at right_side 1) right_subnet ≡ true
within_there = any_in (λ (p : Path). is_inside p.prefix right_subnet) told_path (received settled (instance 16385)) told_received refl

none_between : (e : ℕ) → 1 < e → e ≤ 1 → ⊥
none_between e a b = omega arith

up_there : is_up settled right_side right_subnet 1 ≡ true
up_there = reached_to settled right_side right_subnet 1 (record { place = 1; nearer = omega arith; received = within_there; published = λ e a b. absurd (none_between e a b) })

-- the circuit is published here
abbrev by_the_agent : Option LabelNo → Option (Addr × LabelNo)
by_the_agent o = elim o [ Some label ↦ Some (first_agent, label) | None ↦ published_in [] 32769 ]

published_here : publisher settled (circuit_at right_side 2) ≡ Some (first_agent, record { 0 = 557057 })
published_here = ap (λ (o : Option Value). by_the_agent (as_label o)) (get-from_sorted key_cmp agent_entries (Publish (instance 16384) (host_prefix (dotted 250 0 128 1))) tt)

led : IsReoriginated settled led_path
led = record {
  side = right_side;
  depth = 1;
  held = in_sides chain_feed chain_use true use_is_held;
  within = omega arith;
  subnet = inl refl;
  up = up_there;
  published = published_here;
  rd = refl;
  targets = refl;
  session = refl;
}

-- the agent publishes hosts alone
abbrev of_a_host : Key × Value → Type 0
of_a_host (Publish i p, v) = p.len ≡ 32
of_a_host (Low k, v) = Unit {0}
of_a_host (Vpn k, v) = Unit {0}
of_a_host (Row i p, v) = Unit {0}
of_a_host (Subscribe i, v) = Unit {0}

all_hosts : AllByRecursion of_a_host agent_entries
all_hosts = (refl, (refl, (refl, (tt, (tt, (tt, tt))))))

no_host : ◌≡◌ {A = ℕ} 24 32 → ⊥
no_host e = omega arith

no_subnet : (i : InstanceId) (v : Value) → get agent_told.map (Publish i right_subnet) ≡ Some v → ⊥
no_subnet i v e =
    no_host (all_member of_a_host (told (Publish i right_subnet) v) agent_entries
    (from_find key_total key_exact (Publish i right_subnet) v agent_entries (sym (get-from_sorted key_cmp agent_entries (Publish i right_subnet) tt) ∙ e)) all_hosts)

no_own : HasNoOwn settled (key_at first_agent 16384 right_subnet)
no_own q o key =
    let here : agent_told ≡ o.agent = (elim o.told as (λ _. agent_told ≡ o.agent) [ inl e ↦ e | inr none ↦ absurd none ]) in
    no_subnet o.instance (Label q.label)
    ((λ i. get (here i).map (Publish o.instance ((sym key i).prefix))) ∙ o.publishes)

listed : AreListed settled.agents
listed = ((λ b m. absurd m), tt)

abbrev led_route : VpnRoute
led_route = record { next_hop = first_agent; label = record { 0 = 557057 }; targets = target_of 64512 (instance 16384) ∷ [] }

pub leads_on : get (wanted_by_peers settled) leading_on.0 ≡ Some leading_on.1
unfolding led
leads_on =
    (counted_is settled listed (record { numbers = ordered.numbers; short = ordered.short }) (key_at first_agent 16384 right_subnet) led_route).1
    (led_path, refl, refl, as_right no_own (led, refl))

pub kept : IsTargeted 64512 (wanted_by_peers settled)
kept = wants_targeted settled ordered
