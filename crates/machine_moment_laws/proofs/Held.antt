-- What an arriving message makes of what is held.
use Rattle.std.specs.Prelude.{◌≡◌, ℕ, Bool, List, [], ◌∷◌, ◌++◌, map, true, false, cond}
use Rattle.std.proofs.Common.{inl, inr, refl, subst, sym, ◌∙◌}
use Rattle.std.proofs.lemmas.Bool.{true≢false}
use Rattle.node_laws.specs.NodeModel.Maps.{Change}
use Rattle.node_laws.specs.NodeModel.Step.{Confirmed, Opened, Phase, Up}
use Rattle.machine_model.specs.OvSync.Keyed.{changed}
use Rattle.machine_model.specs.Session.{Carries, Hello, Keepalive, Message, Open, Session, arrived, closed, is_peering, item_took, may_send_at, peer_took, took_first, without_first}
use Rattle.machine_model.specs.Setup.{Name}
use Rattle.machine_model.proofs.Calm.{Arrival}
use Rattle.machine_model.proofs.SessionFact.{Joined, greetings, meets}
use Rattle.machine_moment_laws.proofs.Pending.{told_to}

-- ---- an end that takes a change is up
carries_up : (b : Bool) (p q : Phase) (ds : List Change) (d : Change) (ms : List Message) → meets b p q ≡ true → (may_send_at b q ≡ false → ds ≡ []) → greetings b p q ++ map Carries ds ≡ Carries d ∷ ms → p ≡ Up
carries_up true Up q ds d ms m early is = refl
carries_up false Up q ds d ms m early is = refl
carries_up true Opened Opened ds d ms m early is = cc
carries_up true Opened Confirmed ds d ms m early is = cc
carries_up true Confirmed Opened [] d ms m early is = cc
carries_up true Confirmed Opened (e ∷ ds) d ms m early is = absurd (some e ds (early refl))
  where
    some : (e : Change) (ds : List Change) → e ∷ ds ≡ [] → ⊥
    some e ds h = cc
carries_up true Confirmed Confirmed ds d ms m early is = cc
carries_up true Confirmed Up ds d ms m early is = cc
carries_up false Opened Opened ds d ms m early is = cc
carries_up false Opened Up ds d ms m early is = cc
carries_up _ _ _ ds d ms m early is = absurd (true≢false (sym m))

-- what arrives makes of what is held what the message does
pub held_is : (size : Name → Message → ℕ) (m : Message) (ms : List Message) (s : Session) → Joined size s → s.far.flight ≡ m ∷ ms → Arrival m ms s (arrived s) → (arrived s).near.held ≡ told_to m s.near.held
unfolding arrived
held_is size (Carries d) ms s j is a =
    let up : s.near.phase ≡ Up = carries_up (is_peering s) s.near.phase s.far.phase j.inward.changes d ms j.inward.phases j.inward.early (sym j.inward.flight ∙ is) in
    subst (λ b. (cond b (record s { near = closed s.near }) (took_first s.far.flight s)).near.held ≡ changed s.near.held d) (sym j.near_notice)
    (subst (λ (f : List Message). (took_first f s).near.held ≡ changed s.near.held d) (sym is)
    (elim (is_peering s) as (λ b. (cond b (peer_took s.near.phase (Carries d) (without_first ms s)) (item_took s.near.phase (Carries d) (without_first ms s))).near.held ≡ changed s.near.held d) [
      | true ↦ subst (λ (q : Phase). (peer_took q (Carries d) (without_first ms s)).near.held ≡ changed s.near.held d) (sym up) refl
      | false ↦ subst (λ (q : Phase). (item_took q (Carries d) (without_first ms s)).near.held ≡ changed s.near.held d) (sym up) refl
    ]))
held_is size Open ms s j is a = elim a.held as (λ _. (arrived s).near.held ≡ s.near.held) [ inl same ↦ same | inr d ↦ absurd (never d.0 d.1) ]
  where
    never : (d : Change) → Open ≡ Carries d → ⊥
    never d e = cc
held_is size Keepalive ms s j is a = elim a.held as (λ _. (arrived s).near.held ≡ s.near.held) [ inl same ↦ same | inr d ↦ absurd (never d.0 d.1) ]
  where
    never : (d : Change) → Keepalive ≡ Carries d → ⊥
    never d e = cc
held_is size Hello ms s j is a = elim a.held as (λ _. (arrived s).near.held ≡ s.near.held) [ inl same ↦ same | inr d ↦ absurd (never d.0 d.1) ]
  where
    never : (d : Change) → Hello ≡ Carries d → ⊥
    never d e = cc
