-- A node that makes its pass has told the slices that it wants, with sessions down or not.
use Rattle.std.specs.Prelude.{◌≡◌, List, map, Bool, true, false, not, cond}
use Rattle.std.specs.List.{AllByRecursion}
use Rattle.std.specs.FinMap.{get}
use Rattle.std.specs.Cmp.Lexicographic.{bytes_decides}
use Rattle.std.proofs.lemmas.Bool.{true≢false}
use Rattle.std.proofs.Common.{refl, sym, ◌∙◌, ap, subst, inl, inr}
use Rattle.ov_types.specs.declared.objects.LowKey.{LowKey}
use Rattle.node_laws.specs.NodeModel.Keys.{Low}
use Rattle.node_laws.specs.NodeModel.Maps.{Map, difference}
use Rattle.node_laws.specs.NodeModel.Step.{is_idle}
use Rattle.node_laws.specs.NodeModel.Wants.{wanted_by_agent}
use Rattle.machine_model.specs.Setup.{Name, Setup, agents_of}
use Rattle.machine_model.specs.Session.{Controller, Agent, are_peers, Carries, Message, Session, SessionEnd, turned, may_send, may_send_at, told, passed, with_breaks}
use Rattle.machine_model.specs.Network.{MachineState, View, address_in, is_at, view, views_of, wanted}
use Rattle.machine_model.specs.Steps.{pass}
use Rattle.machine_model.specs.Moments.{Each}
use Rattle.machine_model.proofs.SessionFact.{sends, told_cases}
use Rattle.machine_model.proofs.NetworkFact.{passed_nodes}
use Rattle.machine_model.proofs.ToldFact.{passed_touches}
use Rattle.machine_moment_laws.proofs.Fed.{node_cases}
use Rattle.machine_moment_laws.proofs.Slices.{FarIsOther, at_address, bare, mark, wants_slice}
use Rattle.machine_moment_laws.proofs.FeedsStay.{IsQuietFeed, entry, feed_at, feed_found, pass_leaves}

-- what an end has sent, once it is live
abbrev SentAs : Map → SessionEnd → Type 0
SentAs m e = is_idle e.phase ≡ false → e.sent ≡ m

told_as : (m : Map) (ms : List Message) (t : Session) → t.near.sent ≡ m → SentAs m (told ms t).near
told_as m ms t f =
    elim (told_cases ms t) as (λ _. SentAs m (told ms t).near) [
      | inl p ↦ subst (λ (t : Session). SentAs m t.near) (sym p.1) (λ live. absurd (true≢false live))
      | inr p ↦ subst (λ (t : Session). SentAs m t.near) (sym p.1) (sent_as t.is_down t.near t.far f p.0)
    ]
  where
    sent_as : (d : Bool) (near far : SessionEnd) → near.sent ≡ m → (b : _) → SentAs m (with_breaks b (sends ms (record { is_down = d; near = near; far = far }))).near
    sent_as true near far f b live = f
    sent_as false near far f b live = f

-- not between control nodes
passed_sends : (m : Map) (s : Session) → are_peers s.near.role s.far.role ≡ false → SentAs m (passed m s).near
unfolding passed
passed_sends m s apart =
    elim (may_send s) as (λ b. may_send s ≡ b → SentAs m (cond b (told (map Carries (difference s.near.sent m)) (record s { near = record s.near { sent = m } })) s).near) [
      | true ↦ λ _. told_as m (map Carries (difference s.near.sent m)) (record s { near = record s.near { sent = m } }) refl
      | false ↦ λ off live. absurd (true≢false (sym (ap (λ b. may_send_at b s.near.phase) apart ∙ ap not live) ∙ off))
    ] refl

abbrev pub Slicing : Setup → (Name → Map) → Session → Type 0
Slicing x feed s =
    s.near.role ≡ Controller → s.far.role ≡ Agent → is_idle s.near.phase ≡ false → (k : LowKey)
    → get s.near.sent (Low k) ≡ get (wanted_by_agent (bare (feed s.near.name)) (at_address (address_in (agents_of x s.near.name) s.far.name))) (Low k)

abbrev pub feed_in : List Session → Name → Map
feed_in ss c = feed_at c (map entry ss)

abbrev pub AllSlicing : MachineState → Type 0
AllSlicing w = Each (Slicing w.setup (feed_in w.sessions)) w.sessions

-- the ends of one node aside
abbrev pub SlicingBut : Name → Setup → (Name → Map) → Session → Type 0
SlicingBut n x feed s = is_at n s.near ≡ false → Slicing x feed s

-- a step of the far end minds nothing
pub far_slicing : (x : Setup) (feed : Name → Map) (s t : Session) → view (turned t) ≡ view (turned s) → t.far.sent ≡ s.far.sent → Slicing x feed (turned s) → Slicing x feed (turned t)
far_slicing x feed s t v e h a b live k =
    ap (λ (m : Map). get m (Low k)) e
    ∙ h (ap (λ (v : View). v.role) (sym v) ∙ a) (ap (λ (v : View). v.other_role) (sym v) ∙ b) (ap (λ (v : View). is_idle v.phase) (sym v) ∙ live) k
    ∙ (λ i. get (wanted_by_agent (bare (feed (sym v i).name)) (at_address (address_in (agents_of x (sym v i).name) (sym v i).other))) (Low k))

pub pass_slices : (n : Name) (w : MachineState) → AllByRecursion FarIsOther (map mark w.sessions) → Each IsQuietFeed w.sessions → Each (SlicingBut n w.setup (feed_in w.sessions)) w.sessions → AllSlicing (pass n w)
pass_slices n w others quiet e =
    let x = w.setup in
    let vs = views_of n w.sessions in
    let W = λ (s : Session). wanted x vs (view s) in
    let kept = λ (c : Name). pass_leaves n c w quiet in
    let near : (s : Session) → is_at n s.near ≡ true → Slicing x (feed_in (pass n w).sessions) (passed (W s) s) = λ s at a b live k.
    let same = passed_nodes (W s) s in
    let a' = (λ i. (sym same i).0.1) ∙ a in
    let b' = (λ i. (sym same i).1.1) ∙ b in
    ap (λ (m : Map). get m (Low k)) (passed_sends (W s) s (λ i. are_peers (a' i) (b' i)) live)
    ∙ wants_slice x vs (view s) a' b' k
    ∙ (λ i. get (wanted_by_agent (bare (feed_found n w.sessions others i)) (at_address (address_in (agents_of x s.near.name) s.far.name))) (Low k))
    ∙ (λ i. get (wanted_by_agent (bare (sym (kept n) i)) (at_address (address_in (agents_of x s.near.name) s.far.name))) (Low k))
    ∙ (λ i. get (wanted_by_agent (bare (feed_in (pass n w).sessions (sym ((bytes_decides s.near.name n).0 at) i))) (at_address (address_in (agents_of x s.near.name) s.far.name))) (Low k))
    ∙ (λ i. get (wanted_by_agent (bare (feed_in (pass n w).sessions (sym same i).0.0)) (at_address (address_in (agents_of x (sym same i).0.0) (sym same i).1.0))) (Low k)) in
    let still : (s : Session) → Slicing x (feed_in w.sessions) s → Slicing x (feed_in (pass n w).sessions) s = λ s h a b live k.
    h a b live k ∙ (λ i. get (wanted_by_agent (bare (sym (kept s.near.name) i)) (at_address (address_in (agents_of x s.near.name) s.far.name))) (Low k)) in
    node_cases (SlicingBut n x (feed_in w.sessions)) (Slicing x (feed_in (pass n w).sessions)) n (λ s. passed (W s) s)
    (λ s at h. near s at)
    (λ s off h. far_slicing x (feed_in (pass n w).sessions) (turned s) (passed (W (turned s)) (turned s)) (passed_touches (W (turned s)) (turned s)).view (passed_touches (W (turned s)) (turned s)).sent (still s (h off)))
    (λ s off h. still s (h off)) w.sessions e
