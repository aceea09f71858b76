-- The subnets of the common part's uses are up where they are held, and lead on.
use Rattle.std.specs.Prelude.{◌≡◌, ◌≤◌, ◌<◌, ◌+◌, ◌++◌, ◌⊎◌, ◌&&◌, ℕ, zero, suc, List, [], ◌∷◌, map, is_some, true}
use Rattle.std.specs.FinMap.{get}
use Rattle.std.specs.declared.option.Option.{Option}
use Rattle.std.specs.declared.option.Option.TheVariants.{None, Some}
use Rattle.std.proofs.Common.{ap, arith, inl, inr, refl, subst, sym, ◌∙◌}
use Rattle.std.proofs.lemmas.Bool.{or_left, or_right}
use Rattle.ov_types.specs.Prefix.{Block, is_inside}
use Rattle.ov_types.specs.declared.numbers.InstanceId.{InstanceId}
use Rattle.ov_types.specs.declared.numbers.Label.{Label as LabelNo}
use Rattle.ov_types.specs.declared.vpn.VpnKey.{VpnKey}
use Rattle.route_targets.specs.Numbers.{circuit_instance_of, distinguisher_of, target_of}
use Rattle.config_types.specs.declared.topology.Node.{Node}
use Rattle.schedule_script.specs.ConfigCheck.Checked.{Checked}
use Rattle.node_laws.specs.NodeModel.Keys.{Publish}
use Rattle.node_laws.specs.NodeModel.Maps.{Map, as_label}
use Rattle.node_laws.specs.NodeModel.Members.{Member}
use Rattle.node_laws.specs.NodeModel.Paths.{Holdings, Path, Told, has_target, own_paths, peer_paths, received}
use Rattle.node_laws.specs.NodeModel.Reaching.{Side, circuit_at, has_path_within, hop_at, is_up, network, published_by, published_in, publisher, reoriginated_paths, sides, subnets}
use Rattle.node_laws.specs.NodeModel.Uses.{Use, imports}
use Rattle.node_laws.specs.NodeModel.Values.{Label}
use Rattle.node_laws.proofs.NodeModel.Members.{any_in, in_filter, in_right}
use Rattle.node_laws.proofs.NodeModel.Places.{inside_itself}
use Rattle.node_laws.proofs.NodeModel.Routes.{led_by, reoriginated_in}
use Rattle.node_laws.proofs.NodeModel.Unknown.{target_in}
use Rattle.machine_model.specs.Moments.{Each, nodes}
use Rattle.machine_model.specs.Network.{control_holdings, sessions_of}
use Rattle.machine_model.specs.Session.{Controller, Session}
use Rattle.machine_model.specs.Setup.{Name, Setup, agents_of, id_of, opening}
use Rattle.machine_laws.specs.Compiled.{Attachment, attachments, circuit_prefix, holds}
use Rattle.machine_laws.specs.Headline.{IsWritten}
use Rattle.machine_laws.specs.Sound.{IsCircuitAt}
use Rattle.machine_laws.proofs.Numbers.{circuit_at-instance, imports_end, imports_itself}
use Rattle.machine_laws.proofs.Up.{held_from}
use Rattle.machine_laws.proofs.Views.{views}
use Rattle.machine_moment_laws.specs.Common.{common, standing}
use Rattle.machine_moment_laws.proofs.Here.{Here}
use Rattle.machine_moment_laws.proofs.OfSome.{AreSomeTo}
use Rattle.machine_moment_laws.proofs.Paths.{feed_above, path_there, peer_there, publishes, serves, small, told_here}
use Rattle.machine_moment_laws.proofs.Says.{HoldsTo, Mine, some_is}
use Rattle.machine_moment_laws.proofs.Sides.{SameUse, circuit_there, ordered, same_circuit_at, same_hop_at, same_subnets, side_with}
use Rattle.machine_moment_laws.proofs.Static.{attached_standing, host_leads, imports_above}
use Rattle.machine_moment_laws.proofs.Stood.{HoldStood, HostStood, circuit_stood}

-- a circuit that an agent publishes is published
none_label : (l : LabelNo) → None ≡ Some l → ⊥
none_label l e = cc

publisher_some : (agents : List Told) (circuit : ℕ) (a : Told) → Member a agents → (l : LabelNo) → get a.map (Publish (circuit_instance_of circuit) (circuit_prefix circuit)) ≡ Some (Label l) → is_some (published_in agents circuit) ≡ true
publisher_some [] circuit a m l e = absurd m
publisher_some (t ∷ agents) circuit a m l e = by (published_by t circuit) refl (λ i. publisher_some agents circuit a i l e) m
  where
    by : (o : Option LabelNo) → published_by t circuit ≡ o → (Member a agents → is_some (published_in agents circuit) ≡ true) → Member a (t ∷ agents) → is_some (elim o [ Some k ↦ Some (led_by t.address k) | None ↦ published_in agents circuit ]) ≡ true
    by (Some k) is rest m = refl
    by None is rest (inr m) = rest m
    by None is rest (inl same) = absurd (none_label l (sym is ∙ ap (λ (t : Told). published_by t circuit) same ∙ ap as_label e))

module _ (b : Checked) (ds : List Checked) (written : (c : Checked) → Member c (b ∷ ds) → IsWritten (opening c)) where
  abbrev cs : List Checked
  cs = b ∷ ds

  abbrev M : Map
  M = common cs

  module _ (r : ℕ) (x : Setup) (ss : List Session) (here : Here b ds written x (map nodes ss)) (stays : Each (HoldsTo b ds written r) ss) (some : Each (AreSomeTo cs r) ss) (st : Each (HoldStood cs b.topology.asn r) ss) (n : Name) (s : Session) (among : Member s (sessions_of n ss)) (m : Mine b ds written r x n s) (control : s.near.role ≡ Controller) where
    abbrev h : Holdings
    h = control_holdings x n (views (sessions_of n ss))

    within_there : (i k : InstanceId) (subnet : Block) (p : Path) → Member p (own_paths h ++ peer_paths h) → p.targets ≡ target_of b.topology.asn k ∷ [] → Member k (imports h.feed i) → is_inside p.prefix subnet ≡ true → has_path_within h i subnet ≡ true
    within_there i k subnet p there targets imported inside =
        any_in (λ (p : Path). is_inside p.prefix subnet) p (received h i)
        (in_filter (has_target (map (target_of h.asn) (imports h.feed i))) p (own_paths h ++ peer_paths h) there
        (target_in h.asn k (imports h.feed i) p (targets ∙ ap (λ (n : ℕ). target_of n k ∷ []) (sym here.asn)) imported)) inside

    module _ (side : Side) (of_use : Member side (sides M)) (v : Use) (q : SameUse side.chain v) (subnet : Block) (in_subnets : Member subnet (subnets side)) (held : holds M (network side) subnet ≡ true) where
      abbrev there : Side
      there = side_with v side.is_right

      pub published : (d : ℕ) (c : Node) → Member c (standing cs) → (a : Attachment) → Member a (attachments M) → IsCircuitAt side (suc d) a → c.address ≡ a.node → Member (Some (id_of c)) (agents_of x n) → 3 ≤ r → is_some (publisher h (circuit_at there (suc d))) ≡ true
      published d c stays_c a attached at address i rank =
          let t = told_here b ds written r x ss here stays some st n s among m control c stays_c i in
          let l = publishes b ds written r x ss here stays some st n s among m control c t.0 t.1 stays_c rank a attached (sym address) in
          let instance : a.instance ≡ circuit_instance_of (circuit_at there (suc d)) = at.0 ∙ same_hop_at side v q (suc d) ∙ sym (circuit_at-instance there (suc d)) in
          let prefix : a.prefix ≡ circuit_prefix (circuit_at there (suc d)) = at.1 ∙ ap circuit_prefix (same_circuit_at side v q (suc d)) in
          publisher_some h.agents (circuit_at there (suc d)) t.0 t.1.told l.0 ((λ j. get t.0.map (Publish (sym instance j) (sym prefix j))) ∙ l.1)

      -- who publishes the circuit at a place, or tells of it
      at_place : (d : ℕ) → d < side.chain.services → 4 + suc d ≤ r → (is_some (publisher h (circuit_at there (suc d))) ≡ true) ⊎ ((p : Path) × Member p (peer_paths h) × (p.prefix ≡ subnet) × (p.targets ≡ target_of b.topology.asn (hop_at side (suc d)) ∷ []))
      at_place d within rank =
          let a = circuit_there b ds written side of_use d within in
          let c = attached_standing b ds written a.0 a.1 in
          elim (serves b ds written r x ss here stays some st n s among m control a.0 a.1 c.0 c.1 c.2) as (λ _. (is_some (publisher h (circuit_at there (suc d))) ≡ true) ⊎ ((p : Path) × Member p (peer_paths h) × (p.prefix ≡ subnet) × (p.targets ≡ target_of b.topology.asn (hop_at side (suc d)) ∷ []))) [
            | inl i ↦ inl (published d c.0 c.1 a.0 a.1 a.2 c.2 i (three d r rank))
            | inr t ↦
                let k : VpnKey = record { rd = distinguisher_of a.0.node a.0.instance; prefix = subnet } in
                let p = peer_there b ds written r x ss here stays some st n s among m control n t.0 t.1 t.2 t.3 k a.0.instance (small b ds written r x ss here stays some st n s among m control a.0 a.1)
                (inr (record { side = side; of_use = of_use; depth = d; within = within; rank = rank; subnet = in_subnets; held = held; to = a.0; served = record { attached = a.1; node = c.0; stays = c.1; at = c.2; lists = t.4 }; circuit = a.2; rd = refl })) in
                inr (p.0, p.1, p.2, p.4 ∙ ap (λ (i : InstanceId). target_of b.topology.asn i ∷ []) a.2.0)
          ]
        where
          three : (d r : ℕ) → 4 + suc d ≤ r → 3 ≤ r
          three d r h = omega (arith, h)

      -- the subnet is up at each place
      pub up : (d : ℕ) → d ≤ side.chain.services → 4 + d ≤ r → is_up h there subnet d ≡ true
      up zero within rank =
          let a = held_from M (network side) subnet held in
          let p = path_there b ds written r x ss here stays some st n s among m control rank a.0 a.1 in
          let above = feed_above b ds written r x ss here stays some st n s among m control (one r rank) in
          let imported : Member (network side) (imports h.feed (hop_at there 0)) =
          subst (λ (i : InstanceId). Member (network side) (imports h.feed i)) (same_hop_at side v q 0) (imports_above M h.feed above (hop_at side 0) (network side) (imports_end M side (ordered b ds written) of_use)) in
          within_there (hop_at there 0) (network side) subnet p.0 p.1 (p.3 ∙ ap (λ (i : InstanceId). target_of b.topology.asn i ∷ []) a.2) imported (ap (λ (y : Block). is_inside y subnet) p.2 ∙ a.3)
        where
          one : (r : ℕ) → 4 + 0 ≤ r → 1 ≤ r
          one r h = omega (arith, h)
      up (suc d) within rank =
          elim (at_place d (less d side.chain.services within) rank) as (λ _. is_up h there subnet (suc d) ≡ true) [
            | inl here' ↦ or_right (has_path_within h (hop_at there (suc d)) subnet) (is_some (publisher h (circuit_at there (suc d))) && is_up h there subnet d) ((λ j. here' j && up d (fewer d side.chain.services within) (lower d r rank) j))
            | inr p ↦
                let above = feed_above b ds written r x ss here stays some st n s among m control (one d r rank) in
                let imported : Member (hop_at side (suc d)) (imports h.feed (hop_at there (suc d))) =
                subst (λ (i : InstanceId). Member (hop_at side (suc d)) (imports h.feed i)) (same_hop_at side v q (suc d)) (imports_above M h.feed above (hop_at side (suc d)) (hop_at side (suc d)) (imports_itself M side (suc d) (ordered b ds written) of_use within)) in
                or_left (has_path_within h (hop_at there (suc d)) subnet) (is_some (publisher h (circuit_at there (suc d))) && is_up h there subnet d)
                (within_there (hop_at there (suc d)) (hop_at side (suc d)) subnet p.0 (in_right p.0 (own_paths h) (peer_paths h) p.1) p.3 imported (ap (λ (y : Block). is_inside y subnet) p.2 ∙ inside_itself subnet))
          ]
        where
          less : (d k : ℕ) → suc d ≤ k → d < k
          less d k h = omega (arith, h)

          fewer : (d k : ℕ) → suc d ≤ k → d ≤ k
          fewer d k h = omega (arith, h)

          lower : (d r : ℕ) → 4 + suc d ≤ r → 4 + d ≤ r
          lower d r h = omega (arith, h)

          one : (d r : ℕ) → 4 + suc d ≤ r → 1 ≤ r
          one d r h = omega (arith, h)

      -- the route that leads it on, towards the circuit of an agent here
      pub led_there : (d : ℕ) → d < side.chain.services → 4 + d ≤ r → (c : Node) → Member c (standing cs) → (a : Attachment) → Member a (attachments M) → IsCircuitAt side (suc d) a → c.address ≡ a.node → Member (Some (id_of c)) (agents_of x n) → Member there (sides h.feed)
          → (p : Path) × Member p (reoriginated_paths h) × (p.prefix ≡ subnet) × (p.rd ≡ distinguisher_of a.node a.instance) × (p.targets ≡ target_of h.asn (hop_at side (suc d)) ∷ [])
      led_there d within rank c stays_c a attached at address i held_side =
          let by = some_is (publisher h (circuit_at there (suc d))) (published d c stays_c a attached at address i (three d r rank)) in
          let circuit = circuit_at there (suc d) in
          let stood = circuit_stood b ds written b.topology.asn r x ss here here.asn some st n s among control (three d r rank) circuit by.0.0 by.0.1 by.1 in
          let instance : circuit_instance_of circuit ≡ a.instance = circuit_at-instance there (suc d) ∙ sym (same_hop_at side v q (suc d)) ∙ sym at.0 in
          let prefix : circuit_prefix circuit ≡ a.prefix = sym (at.1 ∙ ap circuit_prefix (same_circuit_at side v q (suc d))) in
          let host : HostStood cs stood.0 a.instance a.prefix by.0.1 = subst (λ (i : InstanceId). HostStood cs stood.0 i a.prefix by.0.1) instance (subst (λ (y : Block). HostStood cs stood.0 (circuit_instance_of circuit) y by.0.1) prefix stood.2) in
          let itself : Member a.instance (imports M (hop_at side (suc d))) = subst (λ (i : InstanceId). Member i (imports M (hop_at side (suc d)))) (sym at.0) (imports_itself M side (suc d) (ordered b ds written) of_use within) in
          let leads = host_leads b ds written a attached (hop_at side (suc d)) itself stood.0 by.0.0 by.0.1 stood.1 host in
          let p : Path = record { prefix = subnet; rd = distinguisher_of by.0.0 (hop_at there (suc d)); next_hop = by.0.0; label = by.0.1; targets = target_of h.asn (hop_at there (suc d)) ∷ []; session = 65535 } in (
            p,
            reoriginated_in h p (record {
              side = there;
              depth = d;
              held = held_side;
              within = subst (λ (k : ℕ). d < k) q.services within;
              subnet = same_subnets side v q subnet in_subnets;
              up = up d (le d side.chain.services within) rank;
              published = by.1;
              rd = refl;
              targets = refl;
              session = refl;
            }),
            refl,
            (λ j. distinguisher_of (leads.hop_is j) ((sym (same_hop_at side v q (suc d)) ∙ sym at.0) j)),
            ap (λ (i : InstanceId). target_of h.asn i ∷ []) (sym (same_hop_at side v q (suc d))),
          )
        where
          three : (d r : ℕ) → 4 + d ≤ r → 3 ≤ r
          three d r h = omega (arith, h)

          le : (d k : ℕ) → d < k → d ≤ k
          le d k h = omega (arith, h)
