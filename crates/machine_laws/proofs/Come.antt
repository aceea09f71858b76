-- What is tied stood in a configuration of the run so far.
use Rattle.std.specs.Prelude.{List, ℕ, [], ◌∷◌, ◌≡◌, ◌⊎◌}
use Rattle.std.specs.declared.option.Option.TheVariants.{None, Some}
use Rattle.std.specs.declared.option.Option.{Option}
use Rattle.std.proofs.Common.{ap, inl, inr, refl, subst, sym, ◌∙◌}
use Rattle.std.proofs.lemmas.Bool.{or_cases, true≢false}
use Rattle.ov_types.specs.First.{◌<|>◌}
use Rattle.config_types.specs.declared.config.Config.{Config}
use Rattle.config_types.specs.declared.edit.Edit.{Edit}
use Rattle.schedule_script.specs.ConfigCheck.Checked.{Checked}
use Rattle.schedule_script.specs.ConfigCheck.Sentences.{IsValid}
use Rattle.schedule_script.proofs.ConfigCheck.Validity.{valid_iff}
use Rattle.schedule_script.specs.Ties.{AreNear, HasPort, HasRelated, HasUse, Ties}
use Rattle.schedule_script.specs.Tying.{joined, no_ties, port_network, relates, ties_of, use_networks}
use Rattle.schedule_script.proofs.Having.{port_iff, relates_iff, use_iff}
use Rattle.std.proofs.lemmas.Option.{same_Some}
use Rattle.ov_types.specs.declared.numbers.InstanceId.{InstanceId}
use Rattle.node_laws.specs.NodeModel.Members.{Member}
use Rattle.node_laws.proofs.NodeModel.Members.{none_some}
use Rattle.machine_model.specs.Events.{Break, Connect, Deliver, DeliverOctets, Edits, MachineEvent, Lose, Restart, Round, Settle, Show, Trace, next}
use Rattle.machine_model.specs.Events.{edits as applied}
use Rattle.machine_model.specs.Network.{MachineState, start}
use Rattle.machine_model.specs.Session.{Message}
use Rattle.machine_model.specs.Setup.{Name, Setup, checked, edited, moves}
use Rattle.machine_model.proofs.Listed.{moved_setup}
use Rattle.machine_laws.specs.Running.{AtMomentsOfRuns, configs, ties_after, ties_next, ties_with}
use Rattle.machine_laws.specs.Stood.{ComeFrom, DeliversToThoseJoined, HasItsTies, InSome, IsStayingAmong}
use Rattle.machine_laws.proofs.Edited.{edited_valid}
use Rattle.machine_laws.proofs.Runs.{all_are_tied, runs_isolate}

more_come : (t : Ties) (cs ds : List Config) → ((c : Config) → Member c cs → Member c ds) → ComeFrom t cs → ComeFrom t ds
more_come t cs ds more h = record {
  port = λ p n e. let q = h.port p n e in (q.0, more q.0 q.1, q.2);
  chain_use = λ u n e. let q = h.chain_use u n e in (q.0, more q.0 q.1, q.2);
  related = λ a b e. let q = h.related a b e in (q.0, more q.0 q.1, q.2);
}

either_of : {A : Type 0} (o r : Option A) (n : A) → (o <|> r) ≡ Some n → (o ≡ Some n) ⊎ (r ≡ Some n)
either_of (Some m) r n e = inl e
either_of None r n e = inr e

joined_come : (t : Ties) (x : Checked) (cs : List Config) → IsValid x.topology x.config → ComeFrom t cs → ComeFrom (joined t x) (x.config ∷ cs)
joined_come t x cs v h = record {
  port = λ p n e. elim (either_of (t.port p) (port_network x.config p) n e) as (λ _. InSome (x.config ∷ cs) (λ c. HasPort c p n)) [
    | inl l ↦ let q = h.port p n l in (q.0, inr q.1, q.2)
    | inr r ↦ (x.config, inl refl, (port_iff x.topology x.config v p n).0 r)
  ];
  chain_use = λ u n e. elim (either_of (t.chain_use u) (use_networks x.config u) n e) as (λ _. InSome (x.config ∷ cs) (λ c. HasUse c u n)) [
    | inl l ↦ let q = h.chain_use u n l in (q.0, inr q.1, q.2)
    | inr r ↦ (x.config, inl refl, (use_iff x.topology x.config v u n).0 r)
  ];
  related = λ a b e. elim (or_cases (t.was_related a b) (relates x.config a b) e) as (λ _. InSome (x.config ∷ cs) (λ c. HasRelated c a b)) [
    | inl l ↦ let q = h.related a b l in (q.0, inr q.1, q.2)
    | inr r ↦ (x.config, inl refl, (relates_iff x.config a b).0 r)
  ];
}

none_come : (cs : List Config) → ComeFrom no_ties cs
none_come cs = record { port = λ p n e. absurd (none_some n e); chain_use = λ u n e. absurd (none_some n e); related = λ a b e. absurd (true≢false (sym e)) }

first_config : (size : Name → Message → ℕ) (w : MachineState) (es : List MachineEvent) → Member w.setup.config (configs size w es)
first_config size w [] = inl refl
first_config size w (e ∷ es) = inl refl

edited_next : (size : Name → Message → ℕ) (w : MachineState) (d : Edit) (y : Setup) → edited w.setup d ≡ Some y → (next size w (Edits d)).setup ≡ y
unfolding next
edited_next size w d y is =
    ap (λ (o : Option Setup). (applied (moves d w.setup.topology) o w).setup) is
    ∙ moved_setup (moves d w.setup.topology) (record { setup = y; sessions = w.sessions })

module _ (size : Name → Message → ℕ) (all : List Config) where
  next_come : (t : Ties) (w : MachineState) (e : MachineEvent) → ComeFrom t all → Member (next size w e).setup.config all → ComeFrom (ties_next t w e) all
  next_come t w (Edits d) h m = by_edit (edited w.setup d) refl
    where
      into : (c : Config) → Member c all → (d : Config) → Member d (c ∷ all) → Member d all
      into c there d (inl e) = subst (λ (d : Config). Member d all) e there
      into c there d (inr m) = m

      by_edit : (o : Option Setup) → edited w.setup d ≡ o → ComeFrom (ties_with o t) all
      by_edit None is = h
      by_edit (Some y) is = more_come (joined t (checked y)) (y.config ∷ all) all (into y.config (subst (λ (z : Setup). Member z.config all) (edited_next size w d y is) m)) (joined_come t (checked y) all (edited_valid w.setup d y is) h)
  next_come t w (Deliver a b n) h m = h
  next_come t w (DeliverOctets a b n) h m = h
  next_come t w (Lose a b) h m = h
  next_come t w (Connect a b) h m = h
  next_come t w (Restart n) h m = h
  next_come t w Round h m = h
  next_come t w Settle h m = h
  next_come t w (Show n) h m = h
  next_come t w (Trace p) h m = h
  next_come t w (Break a b n) h m = h

  after_come : (t : Ties) (w : MachineState) (es : List MachineEvent) → ComeFrom t all → ((c : Config) → Member c (configs size w es) → Member c all) → ComeFrom (ties_after size t w es) all
  after_come t w [] h m = h
  after_come t w (e ∷ es) h m =
      after_come (ties_next t w e) (next size w e) es (next_come t w e h (m (next size w e).setup.config (inr (first_config size (next size w e) es)))) (λ c k. m c (inr k))

pub ties_come : AtMomentsOfRuns HasItsTies
ties_come size positive x written es keep =
    let all = configs size (start x) es in
    after_come size all (ties_of x) (start x) es
    (more_come (ties_of x) (x.config ∷ []) all (λ c m. elim m as (λ _. Member c all) [ inl e ↦ subst (λ (c : Config). Member c all) e (first_config size (start x) es) | inr n ↦ absurd n ]) (joined_come no_ties x [] ((valid_iff x.topology x.config).0 written.valid) (none_come [])))
    (λ c m. m)

-- ---- of configurations alone
pub joined_so_far : AtMomentsOfRuns DeliversToThoseJoined
joined_so_far size positive x written es keep p q services e =
    let come = ties_come size positive x written es keep in
    let j = runs_isolate size positive x written es keep p q services e in
    record {
      from = j.from;
      to = j.to;
      source = come.port p.source j.from j.source;
      destination = come.port q j.to j.destination;
      near = elim j.near as (λ _. (j.from ≡ j.to) ⊎ InSome (configs size (start x) es) (λ c. HasRelated c j.from j.to)) [ inl same ↦ inl same | inr r ↦ inr (come.related j.from j.to r) ];
    }

pub stays_among : AtMomentsOfRuns IsStayingAmong
stays_among size positive x written es keep p q services e m n from to =
    let t = ties_after size (ties_of x) (start x) es in
    let cs = configs size (start x) es in
    let j = runs_isolate size positive x written es keep p q services e in
    let all = all_are_tied size positive x written es keep in
    let starts : m ≡ j.from = same_Some m j.from (sym ((all from.0 from.1).ports p.source m from.2) ∙ j.source) in
    let ends : n ≡ j.to = same_Some n j.to (sym ((all to.0 to.1).ports q n to.2) ∙ j.destination) in
    let near : AreNear t m n = subst (λ (m : InstanceId). AreNear t m n) (sym starts) (subst (λ (n : InstanceId). AreNear t j.from n) (sym ends) j.near) in
    elim near as (λ _. (m ≡ n) ⊎ InSome cs (λ c. HasRelated c m n)) [ inl same ↦ inl same | inr r ↦ inr ((ties_come size positive x written es keep).related m n r) ]
