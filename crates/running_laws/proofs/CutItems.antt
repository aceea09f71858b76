-- On a session of items octets may be cut anywhere.
use Rattle.std.specs.Prelude.{◌≡◌, ◌≢◌, ℕ, List, [], ◌++◌, false}
use Rattle.std.specs.List.{filter_map}
use Rattle.std.specs.Borrow.{Bor}
use Rattle.std.specs.Option.{option_map}
use Rattle.std.specs.declared.option.Option.{Option}
use Rattle.std.specs.declared.option.Option.TheVariants.{Some, None}
use Rattle.std.proofs.Common.{refl, sym, ◌∙◌, ap, subst, append_assoc}
use Rattle.std.proofs.lemmas.Bool.{true≢false}
use Rattle.std.proofs.lemmas.List.Elements.{filter_map-append}
use Rattle.std.proofs.lemmas.Option.{same_Some}
use Rattle.ov_link.specs.declared.step.Input.TheVariants as input
use Rattle.ov_sync.specs.Keyed as keyed
use Rattle.ov_sync.proofs.KeyedLaws.{after-append}
use Rattle.item_wire.specs.Happenings.{SessionFields}
use Rattle.item_wire.specs.declared.event.ItemCause.{ItemCause}
use Rattle.item_wire.specs.declared.event.ItemFrom.{ItemFrom}
use Rattle.item_wire.specs.declared.event.ItemState.{ItemState}
use Rattle.item_wire.specs.declared.event.ItemState.TheVariants as State
use Rattle.item_wire.specs.declared.input.Came.{Came}
use Rattle.node_model.specs.Maps.{Change, Map}
use Rattle.node_model.specs.Step.{Beginning, Phase, Idle, Opened, Confirmed, Up, Post, is_idle}
use Rattle.node_model.proofs.Members.{none_some}
use Rattle.node_core.specs.Beginning.{BeginsKeeping, left_by, phase_of, state_at}
use Rattle.node_core.specs.Hearing.{ItemHearing, heard}
use Rattle.node_core.specs.Left.{Leaves, session_after}
use Rattle.node_core.specs.Left as keeping
use Rattle.node_core.specs.Told.{change_of}
use Rattle.node_core.proofs.Cutting.{cut_down, cut_up, heard_of_both, leaves_one, live_after, nothing_left}
use Rattle.running_laws.specs.Cutting.{and_then, told, with_sent}

state_back : (state : ItemState) → state_at (phase_of state) ≡ state
state_back State.Idle = refl
state_back State.Opened = refl
state_back State.Up = refl

pub live_state : (phase : Phase) → is_idle phase ≡ false → state_at phase ≢ State.Idle
live_state Idle live e = absurd (true≢false live)
live_state Opened live e = cc
live_state Confirmed live e = cc
live_state Up live e = cc

live_phase : (state : ItemState) → state ≢ State.Idle → is_idle (phase_of state) ≡ false
live_phase State.Idle live = absurd (live refl)
live_phase State.Opened live = refl
live_phase State.Up live = refl

-- ---- an end after what was heard
-- the end that is left where the session stays up
abbrev after_up : Post → ItemHearing → Post
after_up p h = record p { phase = phase_of h.state; held = keyed.after p.held (filter_map change_of h.records) }

stays : (p q : Post) (h : ItemHearing) (o : Option ItemCause) → h.cause ≡ o → left_by p h o ≡ Some q
    → (h.cause ≡ None) × (q ≡ after_up p h)
stays p q h None e is = (e, sym (same_Some (after_up p h) q is))
stays p q h (Some cause) e is = absurd (none_some q is)

goes_down : (p : Post) (h : ItemHearing) (o : Option ItemCause) → h.cause ≡ o → left_by p h o ≡ None
    → (cause : ItemCause) × (h.cause ≡ Some cause)
goes_down p h None e is = absurd (none_some (after_up p h) (sym is))
goes_down p h (Some cause) e is = (cause, e)

left_by_both : (p : Post) (h k : ItemHearing) (o : Option ItemCause)
    → left_by (after_up p h) k o ≡ left_by p (keeping.and_then h k) o
left_by_both p h k None =
    ap (λ (m : Map). Some (record p { phase = phase_of k.state; held = m }))
    (sym (after-append p.held (filter_map change_of h.records) (filter_map change_of k.records))
    ∙ ap (λ (changes : List Change). keyed.after p.held changes) (sym (filter_map-append change_of h.records k.records)))
left_by_both p h k (Some cause) = refl

-- what was sent on the end stays
left_by_told : (p : Post) (h : ItemHearing) (o : Option ItemCause) (sent : Map)
    → left_by (told sent p) h o ≡ option_map (told sent) (left_by p h o)
left_by_told p h None sent = refl
left_by_told p h (Some cause) sent = refl

-- ---- two parts
module _ (me peer : List ℕ) (from : ItemFrom) (i : ℕ) where
  abbrev pub session_at : Phase → SessionFields
  session_at phase = record { peer = peer; from = from; state = state_at phase }

  abbrev pub Hears : Post → List ℕ → Bor (List ℕ) → Beginning → Option ItemCause → List ℕ → Type 0
  Hears p kept octets given cause left =
      BeginsKeeping me (session_at p.phase) p kept (input.Bytes i octets) given cause left

  abbrev made : Post → List Came → Beginning
  made p inputs = record {
    replies = [];
    after = left_by p (heard (session_at p.phase) inputs) (heard (session_at p.phase) inputs).cause;
  }

  module _ (p : Post) (kept : List ℕ) (a : Bor (List ℕ)) (first : Beginning) (c : Option ItemCause) (between : List ℕ)
      (live : is_idle p.phase ≡ false) (x : Hears p kept a first c between) where
    abbrev s : SessionFields
    s = session_at p.phase

    abbrev h : ItemHearing
    h = heard s x.0

    -- the end that the first part leaves
    up_with : (q : Post) → first.after ≡ Some q → (h.cause ≡ None) × (q ≡ after_up p h)
    up_with q is = stays p q h h.cause refl (sym (ap (λ (g : Beginning). g.after) x.2) ∙ is)

    pub items_live : (q : Post) → first.after ≡ Some q → is_idle q.phase ≡ false
    items_live q is =
        let u = up_with q is in
        ap (λ (r : Post). is_idle r.phase) u.1
        ∙ live_phase h.state (live_after s x.0 (live_state p.phase live) u.0)

    module _ (b whole : Bor (List ℕ)) (is : whole.now ≡ a.now ++ b.now) where
      joined : (kept ++ a.now) ++ b.now ≡ kept ++ whole.now
      joined = append_assoc kept a.now b.now ∙ ap (λ (o : List ℕ). kept ++ o) (sym is)

      -- what is heard of both, at the session that the first part left
      both_up : (more : Beginning) (d : Option ItemCause) (left : List ℕ) → h.cause ≡ None
          → BeginsKeeping me (session_after s x.0) (after_up p h) between (input.Bytes i b) more d left
          → Hears p kept whole (and_then first more) d left
      both_up more d left up y =
          let k = heard (session_after s x.0) y.0 in
          let both = heard_of_both s x.0 y.0 up in
          let leaves = cut_up s (kept ++ a.now) b.now x.0 y.0 between left (live_state p.phase live) x.1 up y.1 in (
            x.0 ++ y.0,
            subst (λ (o : List ℕ). Leaves s o (x.0 ++ y.0) left) joined leaves,
            (λ j. and_then (x.2 j) (y.2 j))
                ∙ ap (λ (after : Option Post). record { replies = []; after = after }) (left_by_both p h k k.cause)
                ∙ ap (λ (z : ItemHearing). record { replies = []; after = left_by p z z.cause }) (sym both),
            y.3 ∙ ap (λ (z : ItemHearing). z.cause) (sym both),
          )

      pub items_up : (q : Post) (more : Beginning) (d : Option ItemCause) (left : List ℕ) → first.after ≡ Some q
          → Hears q between b more d left → Hears p kept whole (and_then first more) d left
      items_up q more d left is_up y =
          let u = up_with q is_up in
          both_up more d left u.0
          (subst
          (λ (state : ItemState). BeginsKeeping me (record { peer = peer; from = from; state = state }) (after_up p h) between
          (input.Bytes i b) more d left)
          (state_back h.state) (subst (λ (r : Post). Hears r between b more d left) u.1 y))

      pub items_down : first.after ≡ None → Hears p kept whole first c []
      items_down is_down =
          let why = goes_down p h h.cause refl (sym (ap (λ (g : Beginning). g.after) x.2) ∙ is_down) in
          let down = cut_down s (kept ++ a.now) b.now x.0 between why.0 (live_state p.phase live) x.1 why.1 in
          let none = nothing_left s (kept ++ a.now) x.0 between why.0 x.1 why.1 in (
            x.0,
            subst (λ (o : List ℕ). Leaves s o x.0 []) joined
                (subst (λ (l : List ℕ). Leaves s ((kept ++ a.now) ++ b.now) x.0 l) none down),
            x.2,
            x.3,
          )

  -- octets make one thing of an end
  pub items_one : (p : Post) (kept : List ℕ) (octets : Bor (List ℕ)) (given given' : Beginning) (c d : Option ItemCause)
      (left left' : List ℕ) → Hears p kept octets given c left → Hears p kept octets given' d left'
      → (given ≡ given') × (left ≡ left')
  items_one p kept octets given given' c d left left' x y =
      let one = leaves_one (session_at p.phase) (kept ++ octets.now) x.0 y.0 left left' x.1 y.1 in
      (x.2 ∙ ap (made p) one.0 ∙ sym y.2, one.1)

  -- what was sent on it before is nothing to what octets make of an end
  pub items_sent : (p : Post) (kept : List ℕ) (octets : Bor (List ℕ)) (given : Beginning) (c : Option ItemCause) (left : List ℕ)
      (sent : Map) → Hears p kept octets given c left → Hears (told sent p) kept octets (with_sent sent given) c left
  items_sent p kept octets given c left sent x =
      let h = heard (session_at p.phase) x.0 in (
        x.0,
        x.1,
        ap (with_sent sent) x.2
            ∙ ap (λ (after : Option Post). record { replies = []; after = after }) (sym (left_by_told p h h.cause sent)),
        x.3,
      )
