-- What the one configuration since a moment delivers.
use Rattle.std.specs.Prelude.{◌≡◌, ◌≤◌, ℕ, ◌+◌, List, [], ◌∷◌, length}
use Rattle.std.specs.List.{All, Any, Contains}
use Rattle.std.proofs.Common.{ap, arith, inl, inr, refl, subst, sym, ◌∙◌}
use Rattle.std.proofs.lemmas.List.Elements.{All-contains}
use Rattle.ov_types.specs.declared.numbers.PortNo.{PortNo}
use Rattle.ov_types.specs.declared.numbers.ServiceNo.{ServiceNo}
use Rattle.ov_types.specs.declared.packet.Outcome.TheVariants.{Delivered}
use Rattle.ov_types.specs.declared.packet.Packet.{Packet}
use Rattle.ov_types.proofs.FirstLemmas.{all_cons, any_of, contains_cases, contains_here}
use Rattle.route_targets.specs.Forwarding.{forwarding}
use Rattle.schedule_script.specs.ConfigCheck.Checked.{Checked}
use Rattle.reach_plain.specs.Reachability.{reachability}
use Rattle.node_laws.specs.NodeModel.Members.{Member}
use Rattle.hitless_cells.specs.Keeping.{IsValidAsWritten, Keep}
use Rattle.hitless_cells.specs.Ways.{LeadsTo, Offers, Track, Way, visited}
use Rattle.hitless_cells.proofs.Offered.{offered}
use Rattle.hitless_cells.proofs.Taken.{led_where_delivered}
use Rattle.hitless_cells.proofs.Visits.{visits}
use Rattle.machine_model.specs.Events.{after, forwarders}
use Rattle.machine_model.specs.Network.{MachineState, start}
use Rattle.machine_model.specs.Setup.{opening}
use Rattle.machine_laws.specs.Headline.{IsWritten}
use Rattle.machine_moment_laws.specs.Windows.{configurations}
use Rattle.machine_moment_laws.proofs.Made.{valid}
use Rattle.machine_moment_laws.proofs.OneEdit.{in_hand}
use Rattle.machine_moment_laws.specs.Recovery.{AtMomentsSince, rounds_in}
use Rattle.machine_moment_laws.proofs.RecoveryMoments.{all_are_written}
use Rattle.machine_moment_laws.specs.Again.{KeptAreDeliveredAgain, OneDeliversAgain}
use Rattle.machine_moment_laws.proofs.AgainDelivered.{kept_are_delivered_again}

all_one : {A : Type 0} (P : A → Type 0) (a : A) → P a → All P (a ∷ [])
all_one P a h = all_cons P a [] h (λ k d lt. absurd (omega arith))

only : {A : Type 0} (a x : A) → Contains (a ∷ []) x → a ≡ x
only a x at = elim (contains_cases a [] x at) [ inl same ↦ same | inr never ↦ absurd (omega (arith, never.1)) ]

module _ (c : Checked) (written : IsWritten (opening c)) (p : Packet) (number : PortNo) where
  as_written : IsValidAsWritten c
  as_written = record { form = written.config; valid = written.valid }

  -- it keeps what it leads
  keep_one : (way : Way) → LeadsTo c.config p number way → Keep (c ∷ []) p number (way ∷ [])
  keep_one way leads =
      let By : Checked → Type 0 = λ z. Any (λ v. LeadsTo z.config p number v) (way ∷ []) in
      let Is : Way → Type 0 = λ v. Any (λ z. LeadsTo z.config p number v) (c ∷ []) in
      let Has : Way → Type 0 = λ v. (track : Track) × All (λ z. Offers z p number v track) (c ∷ []) in
      let o = offered c (valid c written) p number way leads in
      record {
        leads = all_one By c (any_of (λ v. LeadsTo c.config p number v) (way ∷ []) way (contains_here way []) leads);
        taken = all_one Is way (any_of (λ z. LeadsTo z.config p number way) (c ∷ []) c (contains_here c []) leads);
        offered = all_one Has way (o.0, all_one (λ z. Offers z p number way o.0) c o.1);
      }

module _ (w : MachineState) (rounds : ℕ) where
  -- each way that it offers visits what the policies say
  of_one : (c : Checked) → IsWritten (opening c) → KeptAreDeliveredAgain rounds (c ∷ []) w → (p : Packet) (number : PortNo) (services : List ServiceNo)
      → reachability c.config p ≡ Delivered number services → length services + 5 ≤ rounds → forwarding (forwarders w) p ≡ Delivered number services
  of_one c written again p number services is enough =
      let ok = as_written c written p number in
      let way = (led_where_delivered c ok p number).0 (services, is) in
      let visits_it : (v : Way) (track : Track) → Contains (way.0 ∷ []) v → All (λ x. Offers x p number v track) (c ∷ []) → Delivered number (visited v track) ≡ Delivered number services = λ v track at all.
      sym (visits c p number v track ok (subst (λ (v : Way). LeadsTo c.config p number v) (only way.0 v at) way.1) (All-contains (λ (x : Checked). Offers x p number v track) (c ∷ []) c all (contains_here c []))) ∙ is in
      let d = again p number (way.0 ∷ []) (keep_one c written p number way.0 way.1)
      (in_hand c [] few (λ e m. elim m as (λ _. IsWritten (opening e)) [ inl same ↦ subst (λ (z : Checked). IsWritten (opening z)) same written | inr never ↦ absurd never ]) (λ e es never. absurd (nothing e es never)) p number (way.0 ∷ []))
      (length services) (λ v track at all. same_length (visited v track) services (visits_it v track at all)) enough in
      d.delivered ∙ visits_it d.way d.track d.among d.offered
    where
      few : length (c ∷ []) ≤ 2
      few = omega arith

      nothing : (e : Checked) (es : List Checked) → [] ≡ e ∷ es → ⊥
      nothing e es h = cc

      same_length : (xs ys : List ServiceNo) → Delivered number xs ≡ Delivered number ys → length xs ≤ length ys
      same_length xs ys e =
          let same : xs ≡ ys = cc in
          let lengths = ap (λ (s : List ServiceNo). length s) same in
          omega (arith, lengths)

pub one_delivers_again : AtMomentsSince OneDeliversAgain
one_delivers_again size positive x written before asked begins es window form c is p number services delivers enough =
    let w = after size (after size (start x) before) es in
    let r = rounds_in size (after size (start x) before) es in
    let cs = configurations size (after size (start x) before) es in
    of_one w r c (all_are_written size positive x written before asked begins es window form c (subst (Member c) (sym is) (inl refl)))
    (subst (λ (cs : List Checked). KeptAreDeliveredAgain r cs w) is (kept_are_delivered_again size positive x written before asked begins es window form)) p number services delivers enough
