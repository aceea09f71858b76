-- Two rounds, where at every moment control nodes have told their slices.
use Rattle.std.specs.Prelude.{◌≡◌, ℕ, ◌<◌, List, [], ◌∷◌, ◌++◌, map, Bool, true, false, not}
use Rattle.std.specs.List.{AllByRecursion}
use Rattle.std.specs.FinMap.{get}
use Rattle.std.proofs.lemmas.Bool.{true≢false}
use Rattle.std.proofs.Common.{refl, sym, ◌∙◌, ap, subst, inl, inr, arith}
use Rattle.ov_types.specs.declared.objects.LowKey.{LowKey}
use Rattle.config_types.specs.declared.topology.Topology.{Topology}
use Rattle.node_laws.specs.NodeModel.Keys.{Low}
use Rattle.node_laws.specs.NodeModel.Step.{is_idle}
use Rattle.machine_model.specs.Setup.{Name, Setup}
use Rattle.machine_model.specs.Session.{Role, Configuration, Controller, Agent, Message, Session, turned, may_send_at}
use Rattle.machine_model.specs.Network.{MachineState, start, views_of}
use Rattle.machine_model.specs.Events.{MachineEvent, after}
use Rattle.machine_model.specs.Rounds.{AreRounds, after_rounds}
use Rattle.machine_model.specs.Moments.{Each, LaidOut, NodePair, nodes, WhereLaidOut}
use Rattle.machine_model.proofs.NetworkFact.{after_sound, found}
use Rattle.machine_model.proofs.NodesFact.{Holds, after_holds}
use Rattle.machine_model.proofs.Start.{start_sound, start_each}
use Rattle.machine_model.proofs.Listed.{Placed, Stands, edits_placed, of_nodes, start_placed}
use Rattle.machine_model.proofs.Turns.{laid_apart}
use Rattle.machine_model.proofs.Twins.{NoTwins, Found, found_each, each_and, each_weaker}
use Rattle.machine_moment_laws.specs.Revocation.{AllHoldSlices, AllTellSlices, HoldsSlice, SlicesInTwo, TellsSlice}
use Rattle.machine_moment_laws.proofs.RoundsAsOne.{after_append, append_valid}
use Rattle.machine_moment_laws.proofs.RevocationRounds.{SentRight, over, stays}
use Rattle.machine_moment_laws.proofs.Fed.{AllFed, Fed, after_fed}
use Rattle.machine_moment_laws.proofs.Feeds.{feeds_due, fit_from, told_each}
use Rattle.machine_moment_laws.proofs.Slices.{FarIsOther, Mark, Still, StillGood, holds_slice, mark, of_slice, slice_concern, slice_goal, slices_stand, slices_unpeered, wants_still}

-- ---- nodes of marks
marked_nodes : (ss : List Session) → map (λ (m : Mark). m.0) (map mark ss) ≡ map nodes ss
marked_nodes [] = refl
marked_nodes (s ∷ ss) = ap (λ (ps : List NodePair). nodes s ∷ ps) (marked_nodes ss)

far_others : (t : Topology) (ss : List Session) → Each (λ s. Stands t (nodes s)) ss → AllByRecursion FarIsOther (map mark ss)
far_others t [] e = tt
far_others t (s ∷ ss) e = ((λ is. elim e.0.far as (λ _. ⊥) [ inl q ↦ controller s.far.role q.0 is | inr q ↦ agent s.far.role q.0 is ]), far_others t ss e.1)
  where
    controller : (r : Role) → r ≡ Controller → r ≡ Configuration → ⊥
    controller r e f = let g : Controller ≡ Configuration = sym e ∙ f in cc

    agent : (r : Role) → r ≡ Agent → r ≡ Configuration → ⊥
    agent r e f = let g : Agent ≡ Configuration = sym e ∙ f in cc

module _ (size : Name → Message → ℕ) (positive : (n : Name) (m : Message) → 0 < size n m) (x : Setup) (marks : List Mark) (others : AllByRecursion FarIsOther marks) (apart : NoTwins (map (λ (m : Mark). m.0) marks)) where
  twinless : (w : MachineState) → StillGood size positive x marks others w → NoTwins (map nodes w.sessions)
  twinless w g = subst NoTwins (sym (ap (λ (ms : List Mark). map (λ (m : Mark). m.0) ms) g.1) ∙ marked_nodes w.sessions) apart

  abbrev SentOut : Session → Type 0
  SentOut s = s.near.role ≡ Controller → s.far.role ≡ Agent → is_idle s.near.phase ≡ false → (k : LowKey) → get s.near.sent (Low k) ≡ slice_goal size positive x marks others s.near.name s.far.name (Low k)

  abbrev SentBoth : Session → Type 0
  SentBoth s = SentOut s × SentOut (turned s)

  pub sent_both : (t : Topology) (w : MachineState) → StillGood size positive x marks others w → (ss : List Session) → Each (λ s. Stands t (nodes s)) ss → Each (λ s. TellsSlice w.setup (views_of s.near.name w.sessions) s) ss → Each SentBoth ss
  sent_both t w g [] p h = tt
  sent_both t w g (s ∷ ss) p h = (
    (
      (λ control agent live k. h.0 control agent (ap not live) k ∙ wants_still size positive x marks others w g s.near.name s refl (Low k) (λ i. slice_concern (control i) (agent i) (Low k))),
      (λ control agent. elim p.0.near as (λ _. is_idle s.far.phase ≡ false → (k : LowKey) → get s.far.sent (Low k) ≡ slice_goal size positive x marks others s.far.name s.near.name (Low k)) [
        | inl q ↦ absurd (configuration s.near.role q agent)
        | inr q ↦ absurd (controller s.near.role q.0 agent)
      ]),
    ),
    sent_both t w g ss p.1 h.1,
  )
    where
      configuration : (r : Role) → r ≡ Configuration → r ≡ Agent → ⊥
      configuration r e f = let g : Configuration ≡ Agent = sym e ∙ f in cc

      controller : (r : Role) → r ≡ Controller → r ≡ Agent → ⊥
      controller r e f = let g : Controller ≡ Agent = sym e ∙ f in cc

  sent_right : (s : Session) → SentBoth s → SentRight size positive slice_concern slices_unpeered (slice_goal size positive x marks others) (StillGood size positive x marks others) (slices_stand size positive x marks others) twinless s
  sent_right s t may k c =
      let o = of_slice s.far.role s.near.role k c in
      let idle : is_idle s.far.phase ≡ false = live (is_idle s.far.phase) (sym (ap (λ b. may_send_at b s.far.phase) (slices_unpeered s.far.role s.near.role k c)) ∙ may) in
      ap (get s.far.sent) o.is ∙ t.1 o.control o.agent idle o.object ∙ ap (slice_goal size positive x marks others s.far.name s.near.name) (sym o.is)
    where
      live : (b : Bool) → not b ≡ true → b ≡ false
      live true e = absurd (true≢false (sym e))
      live false e = refl

  pub slices_end : (es : List MachineEvent) (rounds : List (List MachineEvent)) (w : MachineState) → StillGood size positive x marks others w → Each SentBoth w.sessions → AreRounds size w (es ∷ rounds) → AllHoldSlices (after_rounds size w (es ∷ rounds))
  slices_end es rounds w g sent r =
      let v = after_rounds size w (es ∷ rounds) in
      let last = stays size positive slice_concern slices_unpeered (slice_goal size positive x marks others) (StillGood size positive x marks others) (slices_stand size positive x marks others) twinless (es ∷ rounds) w r g in
      subst (λ (y : Setup). Each (HoldsSlice y) v.sessions) (sym last.0)
      (each_weaker (λ s. Still size positive x marks others s × Found v.sessions s) (HoldsSlice x)
      (λ s q. holds_slice size positive x marks others s q.0.0
      (over size positive slice_concern slices_unpeered (slice_goal size positive x marks others) (StillGood size positive x marks others) (slices_stand size positive x marks others) twinless s.near.name s.far.name es rounds w r g
      (λ u is. sent_right u (found SentBoth (λ s t. (t.1, t.0)) w.sessions s.far.name s.near.name sent u is)) (turned s) q.1.1))
      v.sessions (each_and (Still size positive x marks others) (Found v.sessions) v.sessions last.2 (found_each v.sessions (twinless v last))))

pub slices_are_held : WhereLaidOut (λ size w. AllTellSlices w) → WhereLaidOut SlicesInTwo
slices_are_held told size positive x l es laid [] unbroken many r = absurd (omega (arith, many))
slices_are_held told size positive x l es laid (first ∷ []) unbroken many r = absurd (omega (arith, many))
slices_are_held told size positive x l es laid (first ∷ second ∷ rounds) unbroken many r =
    let now = after size (start x) es in
    let v = after size now first in
    let apart = laid_apart size positive x l es laid in
    let placed : Holds Placed now = after_holds size Placed edits_placed (start x) es (start_placed x l.apart) in
    let fed : AllFed now = after_fed size (start x) es (start_placed x l.apart) (start_each (Fed (start x).setup) (λ n m r q role live. absurd (true≢false live)) x) in
    let q = feeds_due size positive now.setup (map nodes now.sessions) apart first [] now
    (refl, refl, fit_from size positive now.sessions (after_sound size positive (start x) es (start_sound size positive x)) unbroken)
    (told_each size positive now.setup (map nodes now.sessions) apart now.setup.topology now.sessions (of_nodes (Stands now.setup.topology) now.sessions placed.stand) fed) (r.0, tt) in
    let stand = of_nodes (Stands now.setup.topology) v.sessions (subst (AllByRecursion (Stands now.setup.topology)) (sym q.0.1) placed.stand) in
    let others = far_others now.setup.topology v.sessions stand in
    let twins : NoTwins (map (λ (m : Mark). m.0) (map mark v.sessions)) = subst NoTwins (sym q.0.1 ∙ sym (marked_nodes v.sessions)) apart in
    let good : StillGood size positive now.setup (map mark v.sessions) others v = (q.0.0, refl, q.1) in
    let tells : AllTellSlices v = subst AllTellSlices (after_append size (start x) es first) (told size positive x l (es ++ first) (append_valid size LaidOut (start x) es first laid r.0.deliveries)) in
    slices_end size positive now.setup (map mark v.sessions) others twins second rounds v good
    (sent_both size positive now.setup (map mark v.sessions) others twins now.setup.topology v good v.sessions stand tells) r.1
