-- What holds at every moment, in the words of the laws.
use Rattle.std.specs.Prelude.{◌≡◌, ◌≢◌, ℕ, List, [], ◌∷◌, ◌++◌, map, Bool, true, false, not, cond}
use Rattle.std.specs.declared.option.Option.TheVariants.{Some, None}
use Rattle.std.proofs.lemmas.Bool.{true≢false}
use Rattle.std.proofs.lemmas.Option.{same_Some}
use Rattle.std.proofs.Common.{refl, sym, ◌∙◌, ap, subst, inl, inr}
use Rattle.schedule_script.specs.ConfigCheck.Checked.{Checked}
use Rattle.transform_model.specs.NodeModel.Maps.{Change}
use Rattle.transform_model.specs.NodeModel.Step.{Phase, Idle, Opened, Confirmed, Up}
use Rattle.machine_model.specs.Setup.{Name}
use Rattle.machine_model.specs.Session.{SessionEnd, Session, Message, Open, Keepalive, Hello, Carries, turned, is_idle, is_live, is_peering, may_send_at, with_phase, shut, told, peer_took, item_took, took}
use Rattle.machine_model.specs.Network.{AreNamed, MachineState, start}
use Rattle.machine_model.specs.Events.{MachineEvent, after}
use Rattle.machine_model.specs.Moments.{Each, greeted, heard, cell, NoneGoesDown, IsPartly, IsProperEnd, IsFlowing, IsJoined, IsLost, NodeHasTold, ArePositive}
use Rattle.machine_model.proofs.SessionFact.{sends, told_cases, greetings, meets, Flows, Fact, Fact-turned, live_receiver, tidy_near}
use Rattle.machine_model.proofs.NetworkFact.{after_sound}
use Rattle.machine_model.proofs.ToldNext.{after_told}
use Rattle.machine_model.proofs.Start.{start_sound, start_told}
use Rattle.machine_model.proofs.Listed.{start_placed}

-- ---- states and greetings
not_idle : (p : Phase) → not (is_idle p) ≡ true → p ≢ Idle
not_idle p e is = true≢false (sym e ∙ ap (λ p. not (is_idle p)) is)

live_where : (p : Phase) → p ≢ Idle → not (is_idle p) ≡ true
live_where Idle n = absurd (n refl)
live_where Opened n = refl
live_where Confirmed n = refl
live_where Up n = refl

greeted_as : (b : Bool) (p q : Phase) → meets b p q ≡ true → greeted b q ≡ heard b p ++ greetings b p q
greeted_as true Opened Opened e = refl
greeted_as true Opened Confirmed e = refl
greeted_as true Opened Up e = absurd (true≢false (sym e))
greeted_as true Opened Idle e = absurd (true≢false (sym e))
greeted_as true Confirmed Opened e = refl
greeted_as true Confirmed Confirmed e = refl
greeted_as true Confirmed Up e = refl
greeted_as true Confirmed Idle e = absurd (true≢false (sym e))
greeted_as true Up Confirmed e = refl
greeted_as true Up Up e = refl
greeted_as true Up Opened e = absurd (true≢false (sym e))
greeted_as true Up Idle e = absurd (true≢false (sym e))
greeted_as true Idle q e = absurd (true≢false (sym e))
greeted_as false Opened Opened e = refl
greeted_as false Opened Up e = refl
greeted_as false Opened Confirmed e = absurd (true≢false (sym e))
greeted_as false Opened Idle e = absurd (true≢false (sym e))
greeted_as false Up Opened e = refl
greeted_as false Up Up e = refl
greeted_as false Up Confirmed e = absurd (true≢false (sym e))
greeted_as false Up Idle e = absurd (true≢false (sym e))
greeted_as false Confirmed q e = absurd (true≢false (sym e))
greeted_as false Idle q e = absurd (true≢false (sym e))

changes_pass : (b : Bool) (cs : List Change) → NoneGoesDown b Up (map Carries cs)
changes_pass b [] = tt
changes_pass true (c ∷ cs) = (Up, refl, changes_pass true cs)
changes_pass false (c ∷ cs) = (Up, refl, changes_pass false cs)

none_pass : (b : Bool) (p : Phase) (cs : List Change) → cs ≡ [] → NoneGoesDown b p (map Carries cs)
none_pass b p cs e = subst (λ (cs : List Change). NoneGoesDown b p (map Carries cs)) (sym e) tt

passes : (b : Bool) (p q : Phase) (cs : List Change) → meets b p q ≡ true → (may_send_at b q ≡ false → cs ≡ []) → NoneGoesDown b p (greetings b p q ++ map Carries cs)
passes true Opened Opened cs e early = (Confirmed, refl, none_pass true Confirmed cs (early refl))
passes true Opened Confirmed cs e early = (Confirmed, refl, (Up, refl, changes_pass true cs))
passes true Opened Up cs e early = absurd (true≢false (sym e))
passes true Opened Idle cs e early = absurd (true≢false (sym e))
passes true Confirmed Opened cs e early = none_pass true Confirmed cs (early refl)
passes true Confirmed Confirmed cs e early = (Up, refl, changes_pass true cs)
passes true Confirmed Up cs e early = (Up, refl, changes_pass true cs)
passes true Confirmed Idle cs e early = absurd (true≢false (sym e))
passes true Up Confirmed cs e early = changes_pass true cs
passes true Up Up cs e early = changes_pass true cs
passes true Up Opened cs e early = absurd (true≢false (sym e))
passes true Up Idle cs e early = absurd (true≢false (sym e))
passes true Idle q cs e early = absurd (true≢false (sym e))
passes false Opened Opened cs e early = (Up, refl, changes_pass false cs)
passes false Opened Up cs e early = (Up, refl, changes_pass false cs)
passes false Opened Confirmed cs e early = absurd (true≢false (sym e))
passes false Opened Idle cs e early = absurd (true≢false (sym e))
passes false Up Opened cs e early = changes_pass false cs
passes false Up Up cs e early = changes_pass false cs
passes false Up Confirmed cs e early = absurd (true≢false (sym e))
passes false Up Idle cs e early = absurd (true≢false (sym e))
passes false Confirmed q cs e early = absurd (true≢false (sym e))
passes false Idle q cs e early = absurd (true≢false (sym e))

-- ---- each session
module _ (size : Name → Message → ℕ) where
  flowing : (b : Bool) (near far : SessionEnd) → Flows size b near far → IsFlowing b near far
  flowing b near far f = record {
    greetings = greetings b near.phase far.phase;
    changes = f.changes;
    flight = f.flight;
    greeted = greeted_as b near.phase far.phase f.phases;
    early = f.early;
    in_step = f.tells;
    passing = subst (NoneGoesDown b near.phase) (sym f.flight) (passes b near.phase far.phase f.changes f.phases f.early);
  }

  no_octet : (n : Name) (f : List Message) (t : ℕ) → f ≡ [] → t ≡ 0 → IsPartly (size n) f t
  no_octet n f t e z = subst (λ (f : List Message). IsPartly (size n) f t) (sym e) z

  near_end : (s : Session) → Fact size s → IsProperEnd size s.near
  near_end s f = record {
    live = (not_idle s.near.phase, live_where s.near.phase);
    tidy = tidy_near size s f;
    notice = elim f as (λ _. s.near.notice ≡ true → is_live s.near ≡ true) [
      | inl j ↦ λ e. absurd (true≢false (sym e ∙ j.near_notice))
      | inr d ↦ λ e. sym d.near.notice ∙ e
    ];
    taken = elim f as (λ _. IsPartly (size s.near.name) s.near.flight s.near.taken) [
      | inl j ↦ j.outward.partly
      | inr d ↦ no_octet s.near.name s.near.flight s.near.taken d.near.flight d.near.taken
    ];
  }

  far_end : (s : Session) → Fact size s → IsProperEnd size s.far
  far_end s f = near_end (turned s) (Fact-turned size s f)

  pub joined_is : (s : Session) → Fact size s → s.is_down ≡ false → IsJoined s
  joined_is s (inr d) e = absurd (true≢false (sym d.down ∙ e))
  joined_is s (inl j) e = record {
    near_live = ap not (live_receiver (is_peering s) s.near.phase s.far.phase j.inward.phases);
    far_live = ap not (live_receiver (is_peering s) s.far.phase s.near.phase j.outward.phases);
    near_notice = j.near_notice;
    far_notice = j.far_notice;
    inward = flowing (is_peering s) s.near s.far j.inward;
    outward = flowing (is_peering s) s.far s.near j.outward;
  }

  pub lost_is : (s : Session) → Fact size s → s.is_down ≡ true → IsLost s
  lost_is s (inl j) e = absurd (true≢false (sym e ∙ j.whole))
  lost_is s (inr d) e = record {
    near_flight = d.near.flight;
    far_flight = d.far.flight;
    near_notice = λ live. d.near.notice ∙ live;
    far_notice = λ live. d.far.notice ∙ live;
  }

  each_of_sound : (P : Session → Type 0) → ((s : Session) → Fact size s → P s) → (ss : List Session) → Each (Fact size) ss → Each P ss
  each_of_sound P h [] e = tt
  each_of_sound P h (s ∷ ss) e = (h s e.0, each_of_sound P h ss e.1)

  module _ (positive : ArePositive size) (x : Checked) (es : List MachineEvent) where
    abbrev now : MachineState
    now = after size (start x) es

    each_now : (P : Session → Type 0) → ((s : Session) → Fact size s → P s) → Each P now.sessions
    each_now P h = each_of_sound P h now.sessions (after_sound size positive (start x) es (start_sound size positive x))

    pub ends_are_proper : Each (λ s. IsProperEnd size s.near × IsProperEnd size s.far) now.sessions
    ends_are_proper = each_now (λ s. IsProperEnd size s.near × IsProperEnd size s.far) (λ s f. (near_end s f, far_end s f))

    pub whole_are_joined : Each (λ s. s.is_down ≡ false → IsJoined s) now.sessions
    whole_are_joined = each_now (λ s. s.is_down ≡ false → IsJoined s) joined_is

    pub down_are_lost : Each (λ s. s.is_down ≡ true → IsLost s) now.sessions
    down_are_lost = each_now (λ s. s.is_down ≡ true → IsLost s) lost_is

    pub nodes_have_told : AreNamed x.topology → (n : Name) → NodeHasTold now n
    nodes_have_told named = after_told size (start x) es (start_placed x named) (start_told x)

-- ---- cells
told_shut : (ms : List Message) (s : Session) → (told ms s).is_down ≡ false → (told ms s).near.phase ≡ s.near.phase
told_shut ms s e =
    elim (told_cases ms s) as (λ _. (told ms s).near.phase ≡ s.near.phase) [
      | inl p ↦ absurd (true≢false (sym (ap (λ (t : Session). t.is_down) p.1) ∙ e))
      | inr p ↦ ap (λ (t : Session). t.near.phase) p.1 ∙ elim s.is_down as (λ d. (sends ms (record { is_down = d; near = s.near; far = s.far })).near.phase ≡ s.near.phase) [ true ↦ refl | false ↦ refl ]
    ]

peer_down : (p : Phase) (m : Message) (s : Session) → cell true p m ≡ None → peer_took p m s ≡ shut s
peer_down Idle m s e = cc
peer_down Opened Open s e = cc
peer_down Confirmed Keepalive s e = cc
peer_down Up Keepalive s e = cc
peer_down Up (Carries d) s e = cc
peer_down _ _ s e = refl

item_down : (p : Phase) (m : Message) (s : Session) → cell false p m ≡ None → item_took p m s ≡ shut s
item_down Idle m s e = cc
item_down Opened Hello s e = cc
item_down Up (Carries d) s e = cc
item_down _ _ s e = refl

pub cell_down : (m : Message) (s : Session) → cell (is_peering s) s.near.phase m ≡ None → took m s ≡ shut s
cell_down m s =
    elim (is_peering s) as (λ b. cell b s.near.phase m ≡ None → cond b (peer_took s.near.phase m s) (item_took s.near.phase m s) ≡ shut s) [ true ↦ peer_down s.near.phase m s | false ↦ item_down s.near.phase m s ]

peer_leads : (p : Phase) (m : Message) (s : Session) (next : Phase) → s.near.phase ≡ p → cell true p m ≡ Some next → (peer_took p m s).is_down ≡ false → (peer_took p m s).near.phase ≡ next
peer_leads Idle m s next is e d = is ∙ same_Some Idle next e
peer_leads Opened Open s next is e d = told_shut (Keepalive ∷ []) (with_phase Confirmed s) d ∙ same_Some Confirmed next e
peer_leads Confirmed Keepalive s next is e d = same_Some Up next e
peer_leads Up Keepalive s next is e d = is ∙ same_Some Up next e
peer_leads Up (Carries c) s next is e d = is ∙ same_Some Up next e
peer_leads _ _ s next is e d = cc

item_leads : (p : Phase) (m : Message) (s : Session) (next : Phase) → s.near.phase ≡ p → cell false p m ≡ Some next → (item_took p m s).is_down ≡ false → (item_took p m s).near.phase ≡ next
item_leads Idle m s next is e d = is ∙ same_Some Idle next e
item_leads Opened Hello s next is e d = same_Some Up next e
item_leads Up (Carries c) s next is e d = is ∙ same_Some Up next e
item_leads _ _ s next is e d = cc

pub cell_leads : (m : Message) (s : Session) (next : Phase) → cell (is_peering s) s.near.phase m ≡ Some next → s.is_down ≡ false → (took m s).is_down ≡ false → (took m s).near.phase ≡ next
cell_leads m s next e whole d =
    elim (is_peering s) as (λ b. cell b s.near.phase m ≡ Some next → (cond b (peer_took s.near.phase m s) (item_took s.near.phase m s)).is_down ≡ false → (cond b (peer_took s.near.phase m s) (item_took s.near.phase m s)).near.phase ≡ next) [
      | true ↦ peer_leads s.near.phase m s next refl
      | false ↦ item_leads s.near.phase m s next refl
    ] e d
