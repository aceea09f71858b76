-- At every moment a packet is delivered only where some configuration so far permitted it.
use Rattle.std.specs.Prelude.{List, Option, None, Some, false, length, reverse, slice_get, ℕ, [], ◌+◌, ◌++◌, ◌∷◌, ◌≡◌, ◌≢◌, ◌≤◌, ◌⊎◌}
use Rattle.std.proofs.Common.{ap, arith, inl, inr, length-append, refl, subst, sym, ◌∙◌}
use Rattle.std.proofs.lemmas.List.{length-reverse}
use Rattle.std.proofs.lemmas.Option.{same_Some}
use Rattle.ov_types.specs.Access.{verdict}
use Rattle.ov_types.specs.First.{first_of}
use Rattle.ov_types.specs.declared.numbers.InstanceId.{InstanceId}
use Rattle.ov_types.specs.declared.numbers.PortNo.{PortNo}
use Rattle.ov_types.specs.declared.numbers.ServiceNo.{ServiceNo}
use Rattle.ov_types.specs.declared.packet.Outcome.TheVariants.{Delivered, Dropped}
use Rattle.ov_types.specs.declared.packet.Outcome.{Outcome}
use Rattle.ov_types.specs.declared.packet.Packet.{Packet}
use Rattle.ov_types.specs.declared.packet.Why.TheVariants as Why
use Rattle.ov_types.specs.declared.packet.Why.{Why as Reason}
use Rattle.ov_types.specs.declared.verdict.Verdict.TheVariants as Says
use Rattle.ov_types.specs.declared.verdict.Verdict.{Verdict}
use Rattle.ov_types.specs.declared.rows.Attached.TheVariants.{Circuit, Port}
use Rattle.ov_types.specs.declared.rows.Attached.{Attached}
use Rattle.ov_types.proofs.FirstLemmas.{contains_at}
use Rattle.route_targets.specs.Forwarding.{Forwarder, admitted, as_port, attached, departed, forwarding, source_at, walk}
use Rattle.route_targets.specs.Numbers.{port_label_of}
use Rattle.config_types.specs.declared.config.Config.{Config}
use Rattle.config_types.specs.declared.config.Service.{Service}
use Rattle.reach_plain.proofs.PolicyRules.Taking.{first_answer}
use Rattle.schedule_script.specs.Ties.{IsTiedBy, Ties}
use Rattle.transform_model.specs.Uses.{ConfiguredUse}
use Rattle.transform_model.proofs.InUse.{few_services}
use Rattle.transform_model.proofs.Lists.{mapped_some}
use Rattle.node_laws.specs.NodeModel.Members.{Member}
use Rattle.node_laws.specs.NodeModel.Uses.{is_hop}
use Rattle.node_laws.proofs.NodeModel.Members.{member_of, none_some}
use Rattle.machine_model.specs.Events.{forwarders}
use Rattle.machine_laws.specs.Refusing.{AtMomentsWithTies}
use Rattle.machine_laws.specs.Relating.{StandsIn}
use Rattle.machine_laws.specs.Running.{AtMomentsOfRuns}
use Rattle.machine_laws.specs.Stood.{ComeFrom, InSome}
use Rattle.machine_laws.proofs.Agents.{IsTiedForwarder}
use Rattle.machine_laws.proofs.Come.{ties_come}
use Rattle.machine_laws.proofs.Found.{attached_in, dropped, same_port}
use Rattle.machine_laws.proofs.Relating.{stands_port}
use Rattle.machine_laws.proofs.Runs.{all_are_tied}
use Rattle.machine_moment_laws.specs.Permission.{IsLedOn, IsPermitted, IsPermittedSomehow, IsUsedBetween, KeptServices, LayInAlone, OfEachPacket, PassesAsPermitted, Permits, WasPermitted, WhereDelivered}
use Rattle.machine_moment_laws.proofs.Accesses.{EntersLeft, EntersRight, IsJudged, judged, numbers_of}
use Rattle.machine_moment_laws.proofs.AgentsStood.{ForwardsBySoFar}
use Rattle.machine_moment_laws.proofs.Context.{IsHeld, has_use, use_ends}
use Rattle.machine_moment_laws.proofs.Hops.{IsServed, WasUsed, short}
use Rattle.machine_moment_laws.proofs.MomentsStood.{all_forward, all_forward_tied, now, past, ties}
use Rattle.machine_moment_laws.proofs.Trails.{IsBack, IsLeft, all_back, all_left, mapped_at, mapped_length, next_back, next_left}
use Rattle.machine_moment_laws.proofs.WithTies.{with_ties}
use Rattle.machine_moment_laws.proofs.Walks.{walk_ends, walk_lasts}
use Rattle.machine_moment_laws.proofs.Ways.{EndsAlong, EndsInside, IsAlong, IsInside, inside_kept, left_kept, right_kept}

enters_somewhere : {A : Type 0} (i : InstanceId) → Says.Enter i ≡ Says.NoDestination → A
enters_somewhere i e = cc

other_reason : (w : Reason) → w ≢ Why.TtlExpired → Dropped w ≢ Dropped Why.TtlExpired
other_reason w h e = h cc

module _ (t : Ties) (cs : List Config) (come : ComeFrom t cs) (p : Packet) (from to : InstanceId) (alone : LayInAlone cs from to p.destination) (agents : List Forwarder) (tied : (f : Forwarder) → Member f agents → IsTiedForwarder t f) (so_far : (f : Forwarder) → Member f agents → ForwardsBySoFar t cs f) where
  abbrev d : ℕ
  d = p.destination.0

  abbrev Stands : PortNo → Type 0
  Stands q = InSome cs (λ c. StandsIn c q to)

  module _ (f : Forwarder) (m : Member f agents) where
    -- ---- in the instance of its own network
    module _ (net : is_hop from ≡ false) where
      inside_ends : (q : PortNo) (ss : List ServiceNo) → walk agents d 64 f [] from ≡ Delivered q ss → Stands q × (ss ≡ [])
      inside_ends q ss e =
          walk_ends agents d (IsInside t cs come from to p.destination alone agents tied so_far) (EndsInside t cs come from to p.destination alone agents tied so_far)
          (inside_kept t cs come from to p.destination alone agents tied so_far net) 64 f [] from q ss m (refl, refl) e

      inside_lasts : walk agents d 64 f [] from ≢ Dropped Why.TtlExpired
      inside_lasts =
          walk_lasts agents d (IsInside t cs come from to p.destination alone agents tied so_far) (EndsInside t cs come from to p.destination alone agents tied so_far)
          (inside_kept t cs come from to p.destination alone agents tied so_far net) (λ ss i h. subst (λ (xs : List ServiceNo). length xs ≤ 15) (sym h.0) none) 64 f [] from m (refl, refl) many
        where
          none : 0 ≤ 15
          none = omega arith

          many : 16 ≤ 64 + 0
          many = omega arith

    -- ---- along a use
    module _ (i : InstanceId) (apart : from ≢ to) (held : IsHeld t cs d) where
      abbrev Along : ℕ → (List ServiceNo → ℕ → Type 0) → List ServiceNo → InstanceId → Type 0
      Along = IsAlong t cs come from to p.destination alone agents tied so_far

      abbrev Ending : (List ServiceNo → Type 0) → PortNo → List ServiceNo → Type 0
      Ending = EndsAlong t cs come from to p.destination alone agents tied so_far

      module _ (e : EntersLeft t cs from to p.tuple i) where
        abbrev right_number : ℕ
        right_number = e.in_effect.number

        use_right : t.chain_use right_number ≡ Some (from, to)
        use_right = e.so_far.as_tied.uses right_number (e.in_effect.left.id, e.in_effect.right.id) (has_use e.config e.in_effect e.is_use) ∙ (λ k. Some (e.left_is k, e.right_is k))

        first : 0 ≤ 15
        first = omega arith

        module _ (Trail : List ServiceNo → ℕ → Type 0) (Ends : List ServiceNo → Type 0)
            (goes : (ss : List ServiceNo) (j : ℕ) (s : ServiceNo) → Trail ss j → IsServed t cs right_number j s → Trail (ss ++ s ∷ []) (j + 1))
            (ends : (ss : List ServiceNo) (j : ℕ) → Trail ss j → (u : WasUsed t cs right_number) → j ≡ length u.in_effect.services → Ends ss)
            (begins : Trail [] 0) where
          right_ends : (q : PortNo) (ss : List ServiceNo) → walk agents d 64 f [] i ≡ Delivered q ss → Stands q × Ends ss
          right_ends q ss is =
              walk_ends agents d (Along right_number Trail) (Ending Ends)
              (right_kept t cs come from to p.destination alone agents tied so_far right_number apart held.config held.so_far held.network held.has_network held.holds_it Trail Ends use_right goes ends)
              64 f [] i q ss m (0, first, e.instance, begins) is

          right_lasts : ((ss : List ServiceNo) (j : ℕ) → j ≤ 15 → Trail ss j → length ss ≤ 15) → walk agents d 64 f [] i ≢ Dropped Why.TtlExpired
          right_lasts few =
              walk_lasts agents d (Along right_number Trail) (Ending Ends)
              (right_kept t cs come from to p.destination alone agents tied so_far right_number apart held.config held.so_far held.network held.has_network held.holds_it Trail Ends use_right goes ends)
              (λ ss i h. few ss h.0 h.1 h.3) 64 f [] i m (0, first, e.instance, begins) many
            where
              many : 16 ≤ 64 + 0
              many = omega arith

      module _ (e : EntersRight t cs from to p.tuple i) where
        abbrev left_number : ℕ
        left_number = e.in_effect.number

        use_left : t.chain_use left_number ≡ Some (to, from)
        use_left = e.so_far.as_tied.uses left_number (e.in_effect.left.id, e.in_effect.right.id) (has_use e.config e.in_effect e.is_use) ∙ (λ k. Some (e.left_is k, e.right_is k))

        pub last : length e.in_effect.services ≤ 15
        last = few_services e.so_far.topology e.config e.in_effect e.so_far.valid e.is_use

        module _ (Trail : List ServiceNo → ℕ → Type 0) (Ends : List ServiceNo → Type 0)
            (goes : (ss : List ServiceNo) (j : ℕ) (s : ServiceNo) → Trail ss (j + 1) → IsServed t cs left_number j s → Trail (ss ++ s ∷ []) j)
            (ends : (ss : List ServiceNo) → Trail ss 0 → Ends ss)
            (begins : Trail [] (length e.in_effect.services)) where
          left_ends : (q : PortNo) (ss : List ServiceNo) → walk agents d 64 f [] i ≡ Delivered q ss → Stands q × Ends ss
          left_ends q ss is =
              walk_ends agents d (Along left_number Trail) (Ending Ends)
              (left_kept t cs come from to p.destination alone agents tied so_far left_number apart held.config held.so_far held.network held.has_network held.holds_it Trail Ends use_left goes ends)
              64 f [] i q ss m (length e.in_effect.services, last, e.instance, begins) is

          left_lasts : ((ss : List ServiceNo) (j : ℕ) → j ≤ 15 → Trail ss j → length ss ≤ 15) → walk agents d 64 f [] i ≢ Dropped Why.TtlExpired
          left_lasts few =
              walk_lasts agents d (Along left_number Trail) (Ending Ends)
              (left_kept t cs come from to p.destination alone agents tied so_far left_number apart held.config held.so_far held.network held.has_network held.holds_it Trail Ends use_left goes ends)
              (λ ss i h. few ss h.0 h.1 h.3) 64 f [] i m (length e.in_effect.services, last, e.instance, begins) many
            where
              many : 16 ≤ 64 + 0
              many = omega arith

    -- ---- where nothing is asked of services: each leads one place on
    abbrev Counted : List ServiceNo → ℕ → Type 0
    Counted ss j = length ss ≡ j

    abbrev CountedBack : List ServiceNo → ℕ → Type 0
    CountedBack ss j = length ss + j ≤ 15

    abbrev AreFew : List ServiceNo → Type 0
    AreFew ss = length ss ≤ 15

    counts : (ss : List ServiceNo) (j : ℕ) (s : ServiceNo) → Counted ss j → Counted (ss ++ s ∷ []) (j + 1)
    counts ss j s h = length-append ss (s ∷ []) ∙ ap (λ (n : ℕ). n + 1) h

    counts_back : (ss : List ServiceNo) (j : ℕ) (s : ServiceNo) → CountedBack ss (j + 1) → CountedBack (ss ++ s ∷ []) j
    counts_back ss j s h = one_more (length ss) (length (ss ++ s ∷ [])) j (length-append ss (s ∷ [])) h
      where
        one_more : (n m j : ℕ) → m ≡ n + 1 → n + (j + 1) ≤ 15 → m + j ≤ 15
        one_more n m j e h = omega (arith, e, h)

    all_counted : (number : ℕ) (ss : List ServiceNo) (j : ℕ) → Counted ss j → (u : WasUsed t cs number) → j ≡ length u.in_effect.services → AreFew ss
    all_counted number ss j h u e = subst (λ (n : ℕ). n ≤ 15) (sym (h ∙ e)) (short t cs number u)

    back_counted : (ss : List ServiceNo) → CountedBack ss 0 → AreFew ss
    back_counted ss h = none (length ss) h
      where
        none : (n : ℕ) → n + 0 ≤ 15 → n ≤ 15
        none n h = omega (arith, h)

    some_counted : (ss : List ServiceNo) (j : ℕ) → j ≤ 15 → Counted ss j → AreFew ss
    some_counted ss j few h = subst (λ (n : ℕ). n ≤ 15) (sym h) few

    some_back : (ss : List ServiceNo) (j : ℕ) → j ≤ 15 → CountedBack ss j → AreFew ss
    some_back ss j few h = less (length ss) j h
      where
        less : (n j : ℕ) → n + j ≤ 15 → n ≤ 15
        less n j h = omega (arith, h)

    behind_none : (n : ℕ) → n ≤ 15 → 0 + n ≤ 15
    behind_none n h = omega (arith, h)

    abbrev Result : PortNo → List ServiceNo → Type 0
    Result q ss = Stands q × ((permitted : List ServiceNo) × WasPermitted cs from to p.tuple permitted) × AreFew ss

    module _ (net : is_hop from ≡ false) where
      none_few : (ss : List ServiceNo) → ss ≡ [] → AreFew ss
      none_few ss e = subst AreFew (sym e) none
        where
          none : 0 ≤ 15
          none = omega arith

      -- by some services
      somehow : (q : PortNo) (ss : List ServiceNo) (v : Verdict) → IsJudged t cs p from to v → admitted agents d f from v ≡ Delivered q ss → Result q ss
      somehow q ss Says.Pass j e =
          let r = inside_ends net q ss e in
          (r.0, ([], elim j.admitted as (λ _. WasPermitted cs from to p.tuple []) [ inl same ↦ inl (same, refl) | inr some ↦ inr some ]), none_few ss r.1)
      somehow q ss (Says.Enter i) j e = elim j.holder as (λ _. Result q ss) [
        | inl none ↦ enters_somewhere i none
        | inr held ↦ elim j.admitted.1 as (λ _. Result q ss) [
          | inl l ↦
              let r = right_ends i j.admitted.0 held l Counted AreFew (λ ss j s h at. counts ss j s h) (λ ss j h u at. all_counted l.in_effect.number ss j h u at) refl q ss e in
              (r.0, (numbers_of t cs from to p.tuple l.in_effect, inr (j.admitted.0, (l.config, l.so_far.among, l.permits))), r.1)
          | inr l ↦
              let r = left_ends i j.admitted.0 held l CountedBack AreFew (λ ss j s h at. counts_back ss j s h) back_counted (behind_none (length l.in_effect.services) (last i j.admitted.0 held l)) q ss e in
              (r.0, (reverse (numbers_of t cs from to p.tuple l.in_effect), inr (j.admitted.0, (l.config, l.so_far.among, l.permits))), r.1)
        ]
      ]
      somehow q ss (Says.Denied r) j e = absurd (dropped (Why.Denied r) q ss e)
      somehow q ss Says.NoDestination j e = absurd (dropped Why.NoDestination q ss e)

      lasts : (v : Verdict) → IsJudged t cs p from to v → admitted agents d f from v ≢ Dropped Why.TtlExpired
      lasts Says.Pass j = inside_lasts net
      lasts (Says.Enter i) j = elim j.holder as (λ _. walk agents d 64 f [] i ≢ Dropped Why.TtlExpired) [
        | inl none ↦ enters_somewhere i none
        | inr held ↦ elim j.admitted.1 as (λ _. walk agents d 64 f [] i ≢ Dropped Why.TtlExpired) [
          | inl l ↦ right_lasts i j.admitted.0 held l Counted AreFew (λ ss j s h at. counts ss j s h) (λ ss j h u at. all_counted l.in_effect.number ss j h u at) refl some_counted
          | inr l ↦ left_lasts i j.admitted.0 held l CountedBack AreFew (λ ss j s h at. counts_back ss j s h) back_counted (behind_none (length l.in_effect.services) (last i j.admitted.0 held l)) some_back
        ]
      ]
      lasts (Says.Denied r) j = other_reason (Why.Denied r) (λ e. cc)
      lasts Says.NoDestination j = other_reason Why.NoDestination (λ e. cc)

      -- ---- where each use keeps its services: by just those that it visited, in order
      module _ (kept : KeptServices cs from to) where
        abbrev numbers : ConfiguredUse → List ServiceNo
        numbers u = numbers_of t cs from to p.tuple u

        abbrev OneWay : ConfiguredUse → InstanceId → InstanceId → Type 0
        OneWay u left right = (u.left.id ≡ left) × (u.right.id ≡ right)

        -- the services of each use of a number that an access list enters are those of that list's configuration
        same_services : (number : ℕ) (c : Config) → Member c cs → (all : List ServiceNo) → IsUsedBetween c from to number all → (u : WasUsed t cs number) → OneWay u.in_effect from to ⊎ OneWay u.in_effect to from → numbers u.in_effect ≡ all
        same_services number c among all used u between =
            kept u.config c number (numbers u.in_effect) all u.so_far.among among
            (record { in_effect = u.in_effect; is_use = u.is_use; number_is = u.number_is; between = between; services_are = refl }) used

        abbrev number_of : Service → ServiceNo
        number_of s = s.id

        served_at : (number j : ℕ) (s : ServiceNo) (all : List ServiceNo) → (at : IsServed t cs number j s) → numbers at.used.in_effect ≡ all → slice_get all j ≡ Some s
        served_at number j s all at same =
            ap (λ (xs : List ServiceNo). slice_get xs j) (sym same) ∙ mapped_at number_of at.used.in_effect.services j at.item at.there ∙ ap (λ (n : ServiceNo). Some n) at.number_is

        abbrev Exact : PortNo → List ServiceNo → Type 0
        Exact q ss = Stands q × WasPermitted cs from to p.tuple ss

        module _ (i : InstanceId) (apart : from ≢ to) (held : IsHeld t cs d) (q : PortNo) (ss : List ServiceNo) (is : walk agents d 64 f [] i ≡ Delivered q ss) where
          rightwards : EntersLeft t cs from to p.tuple i → Exact q ss
          rightwards e =
              let number = e.in_effect.number in
              let all = numbers e.in_effect in
              let used : IsUsedBetween e.config from to number all = record { in_effect = e.in_effect; is_use = e.is_use; number_is = refl; between = inl (e.left_is, e.right_is); services_are = refl } in
              let same = λ (u : WasUsed t cs number). same_services number e.config e.so_far.among all used u (inl (use_ends t cs u.config u.so_far u.in_effect u.is_use number u.number_is from to (use_right i apart held e))) in
              let r = right_ends i apart held e (IsLeft all) (λ ss. ss ≡ all)
              (λ ss j s h at. next_left all ss j s h (served_at number j s all at (same at.used)))
              (λ ss j h u at. all_left all ss j h (at ∙ sym (mapped_length number_of u.in_effect.services) ∙ ap length (same u)))
              (record { rest = all; whole = refl; place = refl }) q ss is in
              (r.0, inr (apart, (e.config, e.so_far.among, subst (λ (xs : List ServiceNo). Permits e.config from to p.tuple xs) (sym r.1) e.permits)))

          leftwards : EntersRight t cs from to p.tuple i → Exact q ss
          leftwards e =
              let number = e.in_effect.number in
              let all = numbers e.in_effect in
              let used : IsUsedBetween e.config from to number all = record { in_effect = e.in_effect; is_use = e.is_use; number_is = refl; between = inr (e.left_is, e.right_is); services_are = refl } in
              let same = λ (u : WasUsed t cs number). same_services number e.config e.so_far.among all used u (inr (use_ends t cs u.config u.so_far u.in_effect u.is_use number u.number_is to from (use_left i apart held e))) in
              let r = left_ends i apart held e (IsBack all) (λ ss. ss ≡ reverse all)
              (λ ss j s h at. next_back all ss j s h (served_at number j s all at (same at.used)))
              (λ ss h. all_back all ss h)
              (record { rest = reverse all; whole = refl; place = length-reverse all ∙ mapped_length number_of e.in_effect.services }) q ss is in
              (r.0, inr (apart, (e.config, e.so_far.among, subst (λ (xs : List ServiceNo). Permits e.config from to p.tuple xs) (sym r.1) e.permits)))

        exactly : (q : PortNo) (ss : List ServiceNo) (v : Verdict) → IsJudged t cs p from to v → admitted agents d f from v ≡ Delivered q ss → Exact q ss
        exactly q ss Says.Pass j e =
            let r = inside_ends net q ss e in (
              r.0,
              elim j.admitted as (λ _. WasPermitted cs from to p.tuple ss) [
                | inl same ↦ inl (same, r.1)
                | inr some ↦ inr (some.0, (some.1.0, some.1.1, subst (λ (xs : List ServiceNo). Permits some.1.0 from to p.tuple xs) (sym r.1) some.1.2))
              ],
            )
        exactly q ss (Says.Enter i) j e = elim j.holder as (λ _. Exact q ss) [
          | inl none ↦ enters_somewhere i none
          | inr held ↦ elim j.admitted.1 as (λ _. Exact q ss) [
            | inl l ↦ rightwards i j.admitted.0 held q ss e l
            | inr l ↦ leftwards i j.admitted.0 held q ss e l
          ]
        ]
        exactly q ss (Says.Denied r) j e = absurd (dropped (Why.Denied r) q ss e)
        exactly q ss Says.NoDestination j e = absurd (dropped Why.NoDestination q ss e)

  -- ---- where a packet starts: at an agent that has its source port, in the network that this is tied to
  module _ (home : t.port p.source ≡ Some from) where
    abbrev Source : Type 0
    Source = Forwarder × InstanceId

    pub record IsStarted (s : Source) : Type 0 where
      pub there : Member s.0 agents
      pub net : is_hop from ≡ false
      pub same : s.1 ≡ from

    -- a source port is tied to the instance of its attachment
    port_starts : (f : Forwarder) → Member f agents → (o : Option Attached) → attached f.rows (port_label_of p.source) ≡ o → (a : InstanceId) → as_port o ≡ Some a → (is_hop a ≡ false) × (t.port p.source ≡ Some a)
    port_starts f m None is a e = absurd (none_some a e)
    port_starts f m (Some (Circuit c s)) is a e = absurd (none_some a e)
    port_starts f m (Some (Port port i)) is a e =
        let x = (tied f m).labels (port_label_of p.source) (Port port i) (attached_in f.rows (port_label_of p.source) (Port port i) is) in
        subst (λ (a : InstanceId). (is_hop a ≡ false) × (t.port p.source ≡ Some a)) (same_Some i a e)
        (x.2, subst (λ (n : PortNo). t.port n ≡ Some i) (sym (same_port p.source port x.0)) x.3)

    started : (s : Source) → first_of (source_at p) agents ≡ Some s → IsStarted s
    started s e =
        let a = first_answer (source_at p) agents s e in
        let m = mapped_some (λ (network : InstanceId). (a.item, network)) (as_port (attached a.item.rows (port_label_of p.source))) s a.gives in
        let there = member_of agents a.item (contains_at agents a.place a.item a.there) in
        let starts = port_starts a.item there (attached a.item.rows (port_label_of p.source)) refl m.0 m.1 in
        let same : m.0 ≡ from = same_Some m.0 from (sym starts.1 ∙ home) in
        subst IsStarted m.2 (record { there = there; net = ap is_hop (sym same) ∙ starts.0; same = same })

    judged_at : (f : Forwarder) → Member f agents → IsJudged t cs p from to (verdict f.rows.acls from.0 p)
    judged_at f m = judged t cs come p from to alone f (so_far f m)

    -- from there it goes as the access lists of the network say
    as_judged : (s : Source) → IsStarted s → departed agents p (Some s) ≡ admitted agents d s.0 from (verdict s.0.rows.acls from.0 p)
    as_judged s is = ap (λ (a : InstanceId). admitted agents d s.0 a (verdict s.0.rows.acls a.0 p)) is.same

    delivered_somehow : (q : PortNo) (ss : List ServiceNo) → forwarding agents p ≡ Delivered q ss → Stands q × ((permitted : List ServiceNo) × WasPermitted cs from to p.tuple permitted) × (length ss ≤ 15)
    unfolding forwarding
    delivered_somehow q ss e = by_source (first_of (source_at p) agents) refl e
      where
        by_source : (o : Option Source) → first_of (source_at p) agents ≡ o → departed agents p o ≡ Delivered q ss → Stands q × ((permitted : List ServiceNo) × WasPermitted cs from to p.tuple permitted) × (length ss ≤ 15)
        by_source None is e = absurd (dropped Why.NoSourcePort q ss e)
        by_source (Some s) is e =
            let at = started s is in
            somehow s.0 at.there at.net q ss (verdict s.0.rows.acls from.0 p) (judged_at s.0 at.there) (sym (as_judged s at) ∙ e)

    delivered_exactly : KeptServices cs from to → (q : PortNo) (ss : List ServiceNo) → forwarding agents p ≡ Delivered q ss → Stands q × WasPermitted cs from to p.tuple ss
    unfolding forwarding
    delivered_exactly kept q ss e = by_source (first_of (source_at p) agents) refl e
      where
        by_source : (o : Option Source) → first_of (source_at p) agents ≡ o → departed agents p o ≡ Delivered q ss → Stands q × WasPermitted cs from to p.tuple ss
        by_source None is e = absurd (dropped Why.NoSourcePort q ss e)
        by_source (Some s) is e =
            let at = started s is in
            exactly s.0 at.there at.net kept q ss (verdict s.0.rows.acls from.0 p) (judged_at s.0 at.there) (sym (as_judged s at) ∙ e)

    never_expires : forwarding agents p ≢ Dropped Why.TtlExpired
    unfolding forwarding
    never_expires = by_source (first_of (source_at p) agents) refl
      where
        by_source : (o : Option Source) → first_of (source_at p) agents ≡ o → departed agents p o ≢ Dropped Why.TtlExpired
        by_source None is = other_reason Why.NoSourcePort (λ e. cc)
        by_source (Some s) is = λ e.
            let at = started s is in
            lasts s.0 at.there at.net (verdict s.0.rows.acls from.0 p) (judged_at s.0 at.there) (sym (as_judged s at) ∙ e)

-- ---- at every moment
home_of : (t : Ties) (cs : List Config) (number : PortNo) (from : InstanceId) → ((c : Config) → Member c cs → IsTiedBy t c) → InSome cs (λ c. StandsIn c number from) → t.port number ≡ Some from
home_of t cs number from tied s = (tied s.0 s.1).ports number from (stands_port s.0 number from s.2)

where_delivered : (Says : PortNo → List ServiceNo → Type 0) (o : Outcome) → ((q : PortNo) (ss : List ServiceNo) → o ≡ Delivered q ss → Says q ss) → WhereDelivered Says o
where_delivered Says (Delivered q ss) h = h q ss refl
where_delivered Says (Dropped w) h = tt

in_runs : AtMomentsOfRuns (λ t cs w. OfEachPacket PassesAsPermitted cs w)
in_runs size positive x written es keep p =
    let t = ties size positive x written es keep in
    let cs = past size positive x written es keep in
    let come = ties_come size positive x written es keep in
    let agents = forwarders (now size positive x written es keep) in
    let tied = all_forward_tied size positive x written es keep in
    let so_far = all_forward size positive x written es keep in
    let home = λ (from : InstanceId) (s : InSome cs (λ c. StandsIn c p.source from)). home_of t cs p.source from (all_are_tied size positive x written es keep) s in
    record {
      somehow = λ from to s alone. where_delivered (λ q ss. InSome cs (λ c. StandsIn c q to) × ((permitted : List ServiceNo) × WasPermitted cs from to p.tuple permitted)) (forwarding agents p)
          (λ q ss e. let r = delivered_somehow t cs come p from to alone agents tied so_far (home from s) q ss e in (r.0, r.1));
      exactly = λ from to s alone kept. where_delivered (λ q ss. InSome cs (λ c. StandsIn c q to) × WasPermitted cs from to p.tuple ss) (forwarding agents p)
          (delivered_exactly t cs come p from to alone agents tied so_far (home from s) kept);
      led_on = λ from to s alone. (
        never_expires t cs come p from to alone agents tied so_far (home from s),
        where_delivered (λ q ss. length ss ≤ 15) (forwarding agents p) (λ q ss e. (delivered_somehow t cs come p from to alone agents tied so_far (home from s) q ss e).2),
      );
    }

pub passes : AtMomentsWithTies (λ t cs w. OfEachPacket PassesAsPermitted cs w)
passes = with_ties (OfEachPacket PassesAsPermitted) in_runs

pub permitted_somehow : AtMomentsWithTies (λ t cs w. OfEachPacket IsPermittedSomehow cs w)
permitted_somehow size positive x written es valid p = (passes size positive x written es valid p).somehow

pub permitted_exactly : AtMomentsWithTies (λ t cs w. OfEachPacket IsPermitted cs w)
permitted_exactly size positive x written es valid p = (passes size positive x written es valid p).exactly

pub led_on : AtMomentsWithTies (λ t cs w. OfEachPacket IsLedOn cs w)
led_on size positive x written es valid p = (passes size positive x written es valid p).led_on
