-- On a session between control nodes octets may be cut anywhere.
use Rattle.std.specs.Prelude.{◌≡◌, ◌≢◌, ℕ, List, [], ◌++◌, map, false}
use Rattle.std.specs.Borrow.{Bor}
use Rattle.std.specs.Option.{option_map}
use Rattle.std.specs.declared.option.Option.{Option}
use Rattle.std.specs.declared.option.Option.TheVariants.{Some, None}
use Rattle.std.proofs.Common.{refl, sym, ◌∙◌, ap, subst, append_assoc}
use Rattle.std.proofs.lemmas.Bool.{true≢false}
use Rattle.std.proofs.lemmas.List.{map-append}
use Rattle.std.proofs.lemmas.Option.{same_Some}
use Rattle.ov_link.specs.declared.step.Input.TheVariants as input
use Rattle.ov_sync.specs.Embed.{moved_delta}
use Rattle.ov_sync.specs.Keyed as keyed
use Rattle.ov_sync.proofs.KeyedLaws.{after-append}
use Rattle.ov_types.specs.declared.prefix.Addr.{Addr}
use Rattle.ov_types.specs.declared.rows.NodeId.{NodeId}
use Rattle.bgp_session.specs.Happenings.{SessionFields}
use Rattle.bgp_session.specs.Inputs.{Came}
use Rattle.bgp_session.specs.declared.event.Cause.{Cause}
use Rattle.bgp_session.specs.declared.event.State.{State}
use Rattle.node_model.specs.Keys.{Vpn}
use Rattle.node_model.specs.Maps.{Change, Map}
use Rattle.node_model.specs.Step.{Beginning, Phase, Idle, Opened, Confirmed, Up, Post, is_idle}
use Rattle.node_model.specs.Values.{Route}
use Rattle.node_model.proofs.Members.{none_some}
use Rattle.running_nodes.specs.NodeRoutes.Beginning.{BeginsKeeping, left_by, phase_of}
use Rattle.running_nodes.specs.NodeRoutes.Hearing.{RouteHearing, heard}
use Rattle.running_nodes.specs.NodeRoutes.Keeping.{Leaves, session_after}
use Rattle.running_nodes.specs.NodeRoutes.Keeping as keeping
use Rattle.running_nodes.proofs.NodeRoutes.Cutting.{cut_down, cut_up, heard_of_both, leaves_one, live_after, nothing_left}
use Rattle.running_nodes.specs.ControlNode.Beginning.{peer_state}
use Rattle.running_laws.specs.Cutting.{and_then, told, with_sent}

state_back : (state : State) → peer_state (phase_of state) ≡ state
state_back State.Idle = refl
state_back State.OpenSent = refl
state_back State.OpenConfirm = refl
state_back State.Established = refl

live_state : (phase : Phase) → is_idle phase ≡ false → peer_state phase ≢ State.Idle
live_state Idle live e = absurd (true≢false live)
live_state Opened live e = cc
live_state Confirmed live e = cc
live_state Up live e = cc

live_phase : (state : State) → state ≢ State.Idle → is_idle (phase_of state) ≡ false
live_phase State.Idle live = absurd (live refl)
live_phase State.OpenSent live = refl
live_phase State.OpenConfirm live = refl
live_phase State.Established live = refl

-- ---- an end after what was heard
-- the end that is left where the session stays up
abbrev after_up : Post → RouteHearing → Post
after_up p h = record p {
  phase = phase_of h.state;
  held = keyed.after p.held (map (moved_delta Vpn Route) h.changes);
  wide = h.wide;
}

stays : (p q : Post) (h : RouteHearing) (o : Option Cause) → h.cause ≡ o → left_by p h o ≡ Some q
    → (h.cause ≡ None) × (q ≡ after_up p h)
stays p q h None e is = (e, sym (same_Some (after_up p h) q is))
stays p q h (Some cause) e is = absurd (none_some q is)

goes_down : (p : Post) (h : RouteHearing) (o : Option Cause) → h.cause ≡ o → left_by p h o ≡ None
    → (cause : Cause) × (h.cause ≡ Some cause)
goes_down p h None e is = absurd (none_some (after_up p h) (sym is))
goes_down p h (Some cause) e is = (cause, e)

left_by_both : (p : Post) (h k : RouteHearing) (o : Option Cause)
    → left_by (after_up p h) k o ≡ left_by p (keeping.and_then h k) o
left_by_both p h k None =
    let moved = moved_delta Vpn Route in
    ap (λ (m : Map). Some (record p { phase = phase_of k.state; held = m; wide = k.wide }))
    (sym (after-append p.held (map moved h.changes) (map moved k.changes))
    ∙ ap (λ (changes : List Change). keyed.after p.held changes) (sym (map-append moved h.changes k.changes)))
left_by_both p h k (Some cause) = refl

-- what was sent on the end stays
left_by_told : (p : Post) (h : RouteHearing) (o : Option Cause) (sent : Map)
    → left_by (told sent p) h o ≡ option_map (told sent) (left_by p h o)
left_by_told p h None sent = refl
left_by_told p h (Some cause) sent = refl

-- ---- two parts
module _ (id : Addr) (asn : ℕ) (peer : NodeId) (i : ℕ) where
  abbrev pub session_at : Post → SessionFields
  session_at p = record { asn = asn; peer = peer; state = peer_state p.phase; wide = p.wide }

  abbrev pub Hears : Post → List ℕ → Bor (List ℕ) → Beginning → Option Cause → List ℕ → Type 0
  Hears p kept octets given cause left =
      BeginsKeeping id (session_at p) p kept (input.Bytes i octets) given cause left

  abbrev made : Post → List Came → Beginning
  made p inputs = record {
    replies = (heard id (session_at p) inputs).replies;
    after = left_by p (heard id (session_at p) inputs) (heard id (session_at p) inputs).cause;
  }

  module _ (p : Post) (kept : List ℕ) (a : Bor (List ℕ)) (first : Beginning) (c : Option Cause) (between : List ℕ)
      (live : is_idle p.phase ≡ false) (x : Hears p kept a first c between) where
    abbrev s : SessionFields
    s = session_at p

    abbrev h : RouteHearing
    h = heard id s x.0

    -- the end that the first part leaves
    up_with : (q : Post) → first.after ≡ Some q → (h.cause ≡ None) × (q ≡ after_up p h)
    up_with q is = stays p q h h.cause refl (sym (ap (λ (g : Beginning). g.after) x.2) ∙ is)

    pub routes_live : (q : Post) → first.after ≡ Some q → is_idle q.phase ≡ false
    routes_live q is =
        let u = up_with q is in
        ap (λ (r : Post). is_idle r.phase) u.1
        ∙ live_phase h.state (live_after id s x.0 (live_state p.phase live) u.0)

    module _ (b whole : Bor (List ℕ)) (is : whole.now ≡ a.now ++ b.now) where
      joined : (kept ++ a.now) ++ b.now ≡ kept ++ whole.now
      joined = append_assoc kept a.now b.now ∙ ap (λ (o : List ℕ). kept ++ o) (sym is)

      -- what is heard of both, at the session that the first part left
      both_up : (more : Beginning) (d : Option Cause) (left : List ℕ) → h.cause ≡ None
          → BeginsKeeping id (session_after id s x.0) (after_up p h) between (input.Bytes i b) more d left
          → Hears p kept whole (and_then first more) d left
      both_up more d left up y =
          let k = heard id (session_after id s x.0) y.0 in
          let both = heard_of_both id s x.0 y.0 up in
          let leaves = cut_up id s (kept ++ a.now) b.now x.0 y.0 between left (live_state p.phase live) x.1 up y.1 in (
            x.0 ++ y.0,
            subst (λ (o : List ℕ). Leaves s o (x.0 ++ y.0) left) joined leaves,
            (λ j. and_then (x.2 j) (y.2 j))
                ∙ ap (λ (after : Option Post). record { replies = h.replies ++ k.replies; after = after })
                (left_by_both p h k k.cause)
                ∙ ap (λ (z : RouteHearing). record { replies = z.replies; after = left_by p z z.cause }) (sym both),
            y.3 ∙ ap (λ (z : RouteHearing). z.cause) (sym both),
          )

      pub routes_up : (q : Post) (more : Beginning) (d : Option Cause) (left : List ℕ) → first.after ≡ Some q
          → Hears q between b more d left → Hears p kept whole (and_then first more) d left
      routes_up q more d left is_up y =
          let u = up_with q is_up in
          both_up more d left u.0
          (subst
          (λ (state : State). BeginsKeeping id (record { asn = asn; peer = peer; state = state; wide = h.wide }) (after_up p h)
          between (input.Bytes i b) more d left)
          (state_back h.state) (subst (λ (r : Post). Hears r between b more d left) u.1 y))

      pub routes_down : first.after ≡ None → Hears p kept whole first c []
      routes_down is_down =
          let why = goes_down p h h.cause refl (sym (ap (λ (g : Beginning). g.after) x.2) ∙ is_down) in
          let down = cut_down id s (kept ++ a.now) b.now x.0 between why.0 (live_state p.phase live) x.1 why.1 in
          let none = nothing_left id s (kept ++ a.now) x.0 between why.0 x.1 why.1 in (
            x.0,
            subst (λ (o : List ℕ). Leaves s o x.0 []) joined
                (subst (λ (l : List ℕ). Leaves s ((kept ++ a.now) ++ b.now) x.0 l) none down),
            x.2,
            x.3,
          )

  -- octets make one thing of an end
  pub routes_one : (p : Post) (kept : List ℕ) (octets : Bor (List ℕ)) (given given' : Beginning) (c d : Option Cause)
      (left left' : List ℕ) → Hears p kept octets given c left → Hears p kept octets given' d left'
      → (given ≡ given') × (left ≡ left')
  routes_one p kept octets given given' c d left left' x y =
      let one = leaves_one (session_at p) (kept ++ octets.now) x.0 y.0 left left' x.1 y.1 in
      (x.2 ∙ ap (made p) one.0 ∙ sym y.2, one.1)

  -- what was sent on it before is nothing to what octets make of an end
  pub routes_sent : (p : Post) (kept : List ℕ) (octets : Bor (List ℕ)) (given : Beginning) (c : Option Cause) (left : List ℕ)
      (sent : Map) → Hears p kept octets given c left → Hears (told sent p) kept octets (with_sent sent given) c left
  routes_sent p kept octets given c left sent x =
      let h = heard id (session_at p) x.0 in (
        x.0,
        x.1,
        ap (with_sent sent) x.2
            ∙ ap (λ (after : Option Post). record { replies = h.replies; after = after }) (sym (left_by_told p h h.cause sent)),
        x.3,
      )
