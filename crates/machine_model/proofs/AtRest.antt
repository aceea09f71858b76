-- At a settled moment each end holds what the other end wants.
use Rattle.std.specs.Prelude.{◌≡◌, ℕ, suc, List, [], ◌∷◌, ◌++◌, map, length, Bool, true, false, not, cond, ◌&&◌, ◌==◌}
use Rattle.std.specs.declared.option.Option.TheVariants.{Some, None}
use Rattle.std.specs.List.{list_all, cons_option}
use Rattle.std.proofs.lemmas.Bool.{true≢false, and_parts, eqb-true}
use Rattle.std.proofs.Common.{refl, sym, ◌∙◌, ap, subst, inl, inr}
use Rattle.ov_sync.specs.Keyed.{after as changed_by}
use Rattle.transform_model.specs.NodeModel.Maps.{Change}
use Rattle.schedule_script.specs.ConfigCheck.Checked.{Checked}
use Rattle.machine_model.specs.Setup.{Name, Setup}
use Rattle.transform_model.specs.NodeModel.Step.{Phase, Idle, Opened, Confirmed, Up}
use Rattle.machine_model.specs.Session.{Message, Carries, SessionEnd, Session, turned, is_idle, is_up, is_up_phase, is_peering, may_send_at, waiting}
use Rattle.machine_model.specs.Network.{AreNamed, MachineState, start, sessions_of, is_at, View, views_of, wanted}
use Rattle.machine_model.specs.Events.{MachineEvent, after}
use Rattle.machine_model.specs.Steps.{is_rested, is_settled}
use Rattle.machine_model.specs.Moments.{ArePositive, IsAtRest, IsAtRestWith}
use Rattle.machine_model.proofs.SessionFact.{Flows, Fact, greetings}
use Rattle.machine_model.proofs.NetworkFact.{Each, after_sound}
use Rattle.machine_model.specs.Moments.{AreWhole, TellsWanted}
use Rattle.machine_model.proofs.ToldNext.{AllHaveTold, after_told}
use Rattle.machine_model.proofs.Start.{start_sound, start_told}
use Rattle.machine_model.proofs.Listed.{start_placed}

-- what a settled session says
pub record Rested (s : Session) : Type 0 where
  pub near_up : is_up_phase s.near.phase ≡ true
  pub far_up : is_up_phase s.far.phase ≡ true
  pub near_waiting : waiting s ≡ 0
  pub far_waiting : waiting (turned s) ≡ 0

rested : (s : Session) → is_rested s ≡ true → Rested s
rested s e =
    let a = and_parts (is_up s.near && is_up s.far && (waiting s == 0)) (waiting (turned s) == 0) e in
    let b = and_parts (is_up s.near && is_up s.far) (waiting s == 0) a.0 in
    let c = and_parts (is_up s.near) (is_up s.far) b.0 in
    record { near_up = c.0; far_up = c.1; near_waiting = eqb-true (waiting s) 0 b.1; far_waiting = eqb-true (waiting (turned s)) 0 a.1 }

up_is : (p : Phase) → is_up_phase p ≡ true → p ≡ Up
up_is Up e = refl
up_is Idle e = absurd (true≢false (sym e))
up_is Opened e = absurd (true≢false (sym e))
up_is Confirmed e = absurd (true≢false (sym e))

pub no_messages : (f : List Message) → length f ≡ 0 → f ≡ []
no_messages [] e = refl
no_messages (m ∷ ms) e = cc

no_greetings : (b : Bool) → greetings b Up Up ≡ []
no_greetings true = refl
no_greetings false = refl

no_changes : (cs : List Change) → [] ≡ map Carries cs → cs ≡ []
no_changes [] e = refl
no_changes (c ∷ cs) e = cc

one_not : (n : ℕ) → suc n ≡ 0 → ⊥
one_not n e = cc

may_up : (b : Bool) (p : Phase) → is_up_phase p ≡ true → may_send_at b p ≡ true
may_up true p e = e
may_up false p e = ap (λ (p : Phase). not (is_idle p)) (up_is p e)

module _ (size : Name → Message → ℕ) where
  -- nothing is in flight towards the near end, so it holds what was sent
  settled_flow : (b : Bool) (near far : SessionEnd) → Flows size b near far → is_up_phase near.phase ≡ true → is_up_phase far.phase ≡ true → length far.flight ≡ 0 → near.held ≡ far.sent
  settled_flow b near far f p q n =
      let none : f.changes ≡ [] = no_changes f.changes (sym (no_messages far.flight n) ∙ f.flight
      ∙ ap (λ (p : Phase). greetings b p far.phase ++ map Carries f.changes) (up_is near.phase p)
      ∙ ap (λ (p : Phase). greetings b Up p ++ map Carries f.changes) (up_is far.phase q)
      ∙ ap (λ (g : List Message). g ++ map Carries f.changes) (no_greetings b)) in
      ap (λ (cs : List Change). changed_by near.held cs) (sym none) ∙ f.tells

  settled_session : (s : Session) → Fact size s → Rested s → (s.is_down ≡ false) × (s.near.held ≡ s.far.sent) × (s.far.held ≡ s.near.sent)
  settled_session s (inl j) r =
      let inward : length s.far.flight ≡ 0 = subst (λ b. cond b 1 (length s.far.flight) ≡ 0) j.near_notice r.near_waiting in
      let outward : length s.near.flight ≡ 0 = subst (λ b. cond b 1 (length s.near.flight) ≡ 0) j.far_notice r.far_waiting in
      (j.whole, settled_flow (is_peering s) s.near s.far j.inward r.near_up r.far_up inward, settled_flow (is_peering s) s.far s.near j.outward r.far_up r.near_up outward)
  settled_session s (inr d) r =
      let notice : s.near.notice ≡ true = d.near.notice ∙ ap (λ (p : Phase). not (is_idle p)) (up_is s.near.phase r.near_up) in
      absurd (one_not 0 (subst (λ b. cond b 1 (length s.far.flight) ≡ 0) notice r.near_waiting))

  -- as the near node sees it
  abbrev Quiet : Session → Type 0
  Quiet s = (s.is_down ≡ false) × (s.near.held ≡ s.far.sent) × (s.far.held ≡ s.near.sent) × (is_up_phase s.near.phase ≡ true)

  own_quiet : (n : Name) (ss : List Session) → Each (Fact size) ss → list_all is_rested ss ≡ true → Each Quiet (sessions_of n ss)
  own_quiet n [] f e = tt
  own_quiet n (s ∷ ss) f e =
      let p = and_parts (is_rested s) (list_all is_rested ss) e in
      let r = rested s p.0 in
      let q = settled_session s f.0 r in
      elim (is_at n s.near) as (λ b. Each Quiet (cons_option (cond b (Some s) (cond (is_at n s.far) (Some (turned s)) None)) (sessions_of n ss))) [
        | true ↦ ((q.0, q.1, q.2, r.near_up), own_quiet n ss f.1 p.1)
        | false ↦ elim (is_at n s.far) as (λ b. Each Quiet (cons_option (cond b (Some (turned s)) None) (sessions_of n ss))) [
          | true ↦ ((q.0, q.2, q.1, r.far_up), own_quiet n ss f.1 p.1)
          | false ↦ own_quiet n ss f.1 p.1
        ]
      ]

  quiet_whole : (own : List Session) → Each Quiet own → AreWhole own
  quiet_whole [] q = tt
  quiet_whole (s ∷ own) q = (q.0.0, quiet_whole own q.1)

  quiet_rest : (x : Setup) (vs : List View) (own : List Session) → Each Quiet own → TellsWanted x vs own → Each (IsAtRestWith x vs) own
  quiet_rest x vs [] q t = tt
  quiet_rest x vs (s ∷ own) q t = (record { held = q.0.2; wanted = t.0 (may_up (is_peering s) s.near.phase q.0.3) }, quiet_rest x vs own q.1 t.1)

  pub at_rest : (w : MachineState) → Each (Fact size) w.sessions → AllHaveTold w → is_settled w ≡ true → IsAtRest w
  at_rest w f t e n =
      let q = own_quiet n w.sessions f e in
      quiet_rest w.setup (views_of n w.sessions) (sessions_of n w.sessions) q (t n (quiet_whole (sessions_of n w.sessions) q))

pub settled_is_at_rest : (size : Name → Message → ℕ) → ArePositive size → (x : Checked) → AreNamed x.topology → (es : List MachineEvent) → is_settled (after size (start x) es) ≡ true → IsAtRest (after size (start x) es)
settled_is_at_rest size positive x named es e =
    at_rest size (after size (start x) es) (after_sound size positive (start x) es (start_sound size positive x)) (after_told size (start x) es (start_placed x named) (start_told x)) e
