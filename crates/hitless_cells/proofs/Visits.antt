-- A packet visits the services of the track that its way is offered with.
use Rattle.std.proofs.Common.{◌≡◌, inl, inr, ℕ, Bool, true, false, List, [], map, reverse, refl, sym, ap, ◌∙◌, subst}
use Rattle.ov_types.specs.declared.numbers.PortNo.{PortNo}
use Rattle.ov_types.specs.declared.numbers.ServiceNo.{ServiceNo}
use Rattle.ov_types.specs.declared.packet.Outcome.TheVariants.{Delivered}
use Rattle.ov_types.specs.declared.packet.Packet.{Packet}
use Rattle.config_types.specs.declared.config.Action.{Action}
use Rattle.config_types.specs.declared.config.Action.TheVariants.{Through}
use Rattle.config_types.specs.declared.config.Network.{Network}
use Rattle.chain_expand.specs.Expansion.{expansion}
use Rattle.config_check.specs.Checked.{Checked}
use Rattle.config_check.specs.Sentences.{IsValid}
use Rattle.reach_plain.specs.Outcomes.{LeadsThrough, MayEnter, numbers_of}
use Rattle.reach_plain.specs.Reachability.{reachability}
use Rattle.reach_plain.proofs.Kept.{valid}
use Rattle.hitless_cells.specs.Keeping.{IsValidAsWritten}
use Rattle.hitless_cells.specs.Ways.{GoesBy, LeadsTo, Offers, OffersUse, Opens, Track, Way, visited}
use Rattle.hitless_cells.specs.Ways.Way.{inside, passing, through}
use Rattle.hitless_cells.proofs.Alone.{one_entered, one_own, stop_numbers}
use Rattle.hitless_cells.proofs.Offered.{decider_stands}
use Rattle.hitless_cells.proofs.Taken.{delivers_is}
use Rattle.hitless_cells.proofs.OneRule.{one_chain}

module _ (x : Checked) (v : IsValid x.topology x.config) (p : Packet) (own target : Network) where
  led : (use_no : ℕ) (mirrored : Bool) (track : Track) (services : List ServiceNo) → GoesBy x.config own target p.tuple (through use_no mirrored)
      → ((chain : List ℕ) → numbers_of x.config chain ≡ map (λ s. s.0) track.stops → LeadsThrough x.config mirrored (Through chain use_no) services)
      → OffersUse x p own target use_no mirrored track → MayEnter x.config own target p.tuple services
  led use_no mirrored track services h leads o =
      let same : h.1.chain ≡ o.chain =
      one_chain x.topology x.config v own target h.1.decider.rule o.rule h.1.chain o.chain use_no (decider_stands x.config own target p.tuple h.1.decider h.1.decides) o.stands h.1.leads o.leads in
      let numbers : numbers_of x.config h.1.chain ≡ map (λ s. s.0) track.stops =
      ap (numbers_of x.config) same ∙ stop_numbers x.topology (expansion x.config o.chain) track.stops o.stops in
      let P : Action → Type 0 = λ a. LeadsThrough x.config h.1.decider.mirrored a services in
      let Q : Bool → Type 0 = λ m. LeadsThrough x.config m (Through h.1.chain use_no) services in
      inr (
        h.0,
        record {
          decider = h.1.decider;
          decides = h.1.decides;
          leads = subst P (sym h.1.leads) (subst Q (sym h.1.matched) (leads h.1.chain numbers));
        },
      )

  enters_by : (way : Way) (track : Track) → GoesBy x.config own target p.tuple way → Opens x p own target way track → MayEnter x.config own target p.tuple (visited way track)
  enters_by inside track h o = inl (h, refl)
  enters_by passing track h o =
      let P : Action → Type 0 = λ a. LeadsThrough x.config h.1.decider.mirrored a [] in
      inr (h.0, record { decider = h.1.decider; decides = h.1.decides; leads = subst P (sym h.1.passes) refl })
  enters_by (through use_no false) track h o = led use_no false track (map (λ s. s.0) track.stops) h (λ chain e. sym e) o.1
  enters_by (through use_no true) track h o = led use_no true track (reverse (map (λ s. s.0) track.stops)) h (λ chain e. ap reverse (sym e)) o.1

pub visits : (x : Checked) (p : Packet) (number : PortNo) (way : Way) (track : Track) → IsValidAsWritten x → LeadsTo x.config p number way → Offers x p number way track
    → reachability x.config p ≡ Delivered number (visited way track)
visits x p number way track v h o =
    let ok = valid x.topology x.config v.valid in
    let own : o.own ≡ h.own = one_own x ok p o.own h.own o.leaves h.goes.leaves in
    let target : o.target ≡ h.target = one_entered x ok p number o.target h.target o.arrives h.arrives o.target_stands h.goes.towards.stands in
    let opens : Opens x p h.own h.target way track =
    subst (λ (b : Network). Opens x p h.own b way track) target (subst (λ (a : Network). Opens x p a o.target way track) own o.opens) in
    (delivers_is x v p number (visited way track)).1 (record {
      own = h.own;
      target = h.target;
      goes = h.goes;
      enters = enters_by x ok p h.own h.target way track h.by_way opens;
      arrival = h.arrives.arrival;
      arrival_stands = h.arrives.arrival_stands;
      arrival_network = h.arrives.arrival_network;
      arrival_address = h.arrives.arrival_address;
      arrival_number = h.arrives.arrival_number;
    })
