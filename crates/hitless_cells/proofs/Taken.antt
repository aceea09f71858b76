-- A configuration leads a packet to a port by some way exactly where it delivers it there.
use Rattle.std.proofs.Common.{◌≡◌, ◌≢◌, ◌↔◌, inl, inr, ℕ, Bool, true, false, List, [], refl, reverse, sym, subst}
use Rattle.ov_types.specs.declared.numbers.PortNo.{PortNo}
use Rattle.ov_types.specs.declared.numbers.ServiceNo.{ServiceNo}
use Rattle.ov_types.specs.declared.packet.Outcome.TheVariants.{Delivered}
use Rattle.ov_types.specs.declared.packet.Packet.{Packet}
use Rattle.ov_types.specs.declared.packet.Tuple.{Tuple}
use Rattle.config_types.specs.declared.config.Action.{Action}
use Rattle.config_types.specs.declared.config.Action.TheVariants.{Deny, Pass, Through}
use Rattle.config_types.specs.declared.config.Config.{Config}
use Rattle.config_types.specs.declared.config.Network.{Network}
use Rattle.policy_rules.specs.Taking.{IsDeciding}
use Rattle.policy_rules.specs.declared.matching.Match.{Match}
use Rattle.config_check.specs.Checked.{Checked}
use Rattle.reach_plain.specs.Outcomes.{IsDelivered, LeadsThrough, MayEnter, numbers_of}
use Rattle.reach_plain.specs.Reachability.{reachability}
use Rattle.reach_plain.proofs.Becoming.{outcome_iff}
use Rattle.hitless_cells.specs.Keeping.{Delivers, IsValidAsWritten}
use Rattle.hitless_cells.specs.Ways.{GoesBy, LeadsTo, Way}
use Rattle.hitless_cells.specs.Ways.Way.{inside, passing, through}

module _ (c : Config) (own target : Network) (t : Tuple) where
  -- the way of a decider that lets through
  way_by : (m : Match) (services : List ServiceNo) (a : Action) → IsDeciding c own target t m → m.rule.rule.action ≡ a
      → LeadsThrough c m.mirrored a services → target.name ≢ own.name → (way : Way) × GoesBy c own target t way
  way_by m services Pass decides is leads differ = (passing, (differ, record { decider = m; decides = decides; passes = is }))
  way_by m services Deny decides is leads differ = absurd leads
  way_by m services (Through chain use_no) decides is leads differ =
      (through use_no m.mirrored, (differ, record { decider = m; decides = decides; chain = chain; leads = is; matched = refl }))

  way_into : (services : List ServiceNo) → MayEnter c own target t services → (way : Way) × GoesBy c own target t way
  way_into services (inl near) = (inside, near.0)
  way_into services (inr far) = way_by far.1.decider services far.1.decider.rule.rule.action far.1.decides refl far.1.leads far.0

  -- and the services of a way
  chain_led : (mirrored : Bool) (chain : List ℕ) (use_no : ℕ) → (services : List ServiceNo) × LeadsThrough c mirrored (Through chain use_no) services
  chain_led false chain use_no = (numbers_of c chain, refl)
  chain_led true chain use_no = (reverse (numbers_of c chain), refl)

  led_into : (way : Way) → GoesBy c own target t way → (services : List ServiceNo) × MayEnter c own target t services
  led_into inside h = ([], inl (h, refl))
  led_into passing h =
      let P : Action → Type 0 = λ a. LeadsThrough c h.1.decider.mirrored a [] in
      ([], inr (h.0, record { decider = h.1.decider; decides = h.1.decides; leads = subst P (sym h.1.passes) refl }))
  led_into (through use_no mirrored) h =
      let led = chain_led h.1.decider.mirrored h.1.chain use_no in
      let P : Action → Type 0 = λ a. LeadsThrough c h.1.decider.mirrored a led.0 in
      (led.0, inr (h.0, record { decider = h.1.decider; decides = h.1.decides; leads = subst P (sym h.1.leads) led.1 }))

pub way_of : (c : Config) (p : Packet) (number : PortNo) (services : List ServiceNo) → IsDelivered c p number services → (way : Way) × LeadsTo c p number way
way_of c p number services h =
    let w = way_into c h.own h.target p.tuple services h.enters in (
      w.0,
      record {
        own = h.own;
        target = h.target;
        goes = h.goes;
        by_way = w.1;
        arrives = record {
          arrival = h.arrival;
          arrival_stands = h.arrival_stands;
          arrival_network = h.arrival_network;
          arrival_address = h.arrival_address;
          arrival_number = h.arrival_number;
        };
      },
    )

pub delivered_by : (c : Config) (p : Packet) (number : PortNo) (way : Way) → LeadsTo c p number way → (services : List ServiceNo) × IsDelivered c p number services
delivered_by c p number way h =
    let led = led_into c h.own h.target p.tuple way h.by_way in (
      led.0,
      record {
        own = h.own;
        target = h.target;
        goes = h.goes;
        enters = led.1;
        arrival = h.arrives.arrival;
        arrival_stands = h.arrives.arrival_stands;
        arrival_network = h.arrives.arrival_network;
        arrival_address = h.arrives.arrival_address;
        arrival_number = h.arrives.arrival_number;
      },
    )

module _ (x : Checked) (v : IsValidAsWritten x) (p : Packet) (number : PortNo) where
  pub delivers_is : (services : List ServiceNo) → (reachability x.config p ≡ Delivered number services) ↔ IsDelivered x.config p number services
  delivers_is services = outcome_iff x.topology x.config p (Delivered number services) v.form v.valid

  pub led_where_delivered : Delivers x p number ↔ ((way : Way) × LeadsTo x.config p number way)
  led_where_delivered = (
    λ h. way_of x.config p number h.0 ((delivers_is h.0).0 h.1),
    λ h. let d = delivered_by x.config p number h.0 h.1 in (d.0, (delivers_is d.0).1 d.1),
  )
