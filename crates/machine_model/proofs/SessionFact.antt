-- What holds of a session between any two events, and that all that happens to it keeps this.
use Rattle.std.specs.Prelude.{◌≡◌, ◌⊎◌, ℕ, ◌+◌, ◌-◌, ◌<◌, List, [], ◌∷◌, ◌++◌, map, Bool, true, false, not, cond, nat_lt, is_some}
use Rattle.std.specs.Option.{unwrap_or}
use Rattle.std.specs.declared.option.Option.{Option}
use Rattle.std.specs.declared.option.Option.TheVariants.{Some, None}
use Rattle.std.specs.FinMap.{empty}
use Rattle.std.proofs.lemmas.Bool.{true≢false, ltb-true}
use Rattle.std.proofs.Common.{refl, sym, ◌∙◌, ap, subst, inl, inr, arith, append_assoc}
use Rattle.ov_sync.specs.Keyed.{after}
use Rattle.ov_sync.proofs.KeyedLaws.{after-append, after-difference}
use Rattle.transform_model.proofs.NodeModel.Orders.{key_total, key_exact}
use Rattle.transform_model.specs.NodeModel.Values.{same_value}
use Rattle.transform_model.proofs.NodeModel.Alike.{same_value_decides}
use Rattle.transform_model.specs.NodeModel.Maps.{Map, Change, difference}
use Rattle.machine_model.specs.Moments.{IsPartly}
use Rattle.machine_model.specs.Session.{Role, Configuration, Controller, Agent, Message, Open, Keepalive, Hello, Carries, SessionEnd, Session, turned, is_idle, is_live, are_peers, is_peering, may_send_at, may_send, closed, noticed, shut, lost, meets_break, counted, with_breaks, left, told, passed, peer_took, item_took, took, without_first, took_first, arrived, took_octets, octets_arrived}
use Rattle.transform_model.specs.NodeModel.Step.{Phase, Idle, Opened, Confirmed, Up}

-- ---- what a list of sends makes of a session
abbrev pub sends : List Message → Session → Session
sends ms s = cond s.is_down s (record s { near = record s.near { flight = s.near.flight ++ ms } })

pub append_nil : {A : Type 0} (xs : List A) → xs ≡ xs ++ []
append_nil [] = refl
append_nil (x ∷ xs) = ap (λ ys. x ∷ ys) (append_nil xs)

sends_nothing : (d : Bool) (near far : SessionEnd) → ◌≡◌ {A = Session} (record { is_down = d; near = near; far = far }) (with_breaks near.breaks (sends [] (record { is_down = d; near = near; far = far })))
sends_nothing true near far = refl
sends_nothing false near far = ap (λ (f : List Message). record { is_down = false; near = record near { flight = f }; far = far }) (append_nil near.flight)

shut_left : (d : Bool) (near far : SessionEnd) (m : Message) (b c : List ℕ) → shut (with_breaks b (left m (with_breaks c (record { is_down = d; near = near; far = far })))) ≡ shut (with_breaks b (record { is_down = d; near = near; far = far }))
shut_left true near far m b c = refl
shut_left false near far m b c = refl

pub sends_left : (d : Bool) (near far : SessionEnd) (m : Message) (ms : List Message) (b c : List ℕ) → with_breaks b (sends ms (left m (with_breaks c (record { is_down = d; near = near; far = far })))) ≡ with_breaks b (sends (m ∷ ms) (record { is_down = d; near = near; far = far }))
sends_left true near far m ms b c = refl
sends_left false near far m ms b c = ap (λ (f : List Message). record { is_down = false; near = record near { flight = f; breaks = b }; far = far }) (append_assoc near.flight (m ∷ []) ms)

-- the end closes, or all is sent
abbrev pub IsTold : List Message → Session → Session → Type 0
IsTold ms s t = ((b : List ℕ) × (t ≡ shut (with_breaks b s))) ⊎ ((b : List ℕ) × (t ≡ with_breaks b (sends ms s)))

pub told_cases : (ms : List Message) (s : Session) → IsTold ms s (told ms s)
unfolding told
told_cases [] s = inr (s.near.breaks, sends_nothing s.is_down s.near s.far)
told_cases (m ∷ ms) s =
    let c = counted s.near.breaks in
    elim (meets_break s.near.breaks) as (λ b. IsTold (m ∷ ms) s (cond b (shut (with_breaks c s)) (told ms (left m (with_breaks c s))))) [
      | true ↦ inl (c, refl)
      | false ↦ elim (told_cases ms (left m (with_breaks c s))) as (λ _. IsTold (m ∷ ms) s (told ms (left m (with_breaks c s)))) [
        | inl p ↦ inl (p.0, p.1 ∙ shut_left s.is_down s.near s.far m p.0 c)
        | inr p ↦ inr (p.0, p.1 ∙ sends_left s.is_down s.near s.far m ms p.0 c)
      ]
    ]

-- ---- the fact
-- what of the greetings of a sending end is still in flight, by the phases of the receiving and of the sending end. None where these phases do not meet
abbrev pub expected : Bool → Phase → Phase → Option (List Message)
expected true Opened Opened = Some (Open ∷ [])
expected true Opened Confirmed = Some (Open ∷ Keepalive ∷ [])
expected true Confirmed Opened = Some []
expected true Confirmed Confirmed = Some (Keepalive ∷ [])
expected true Confirmed Up = Some (Keepalive ∷ [])
expected true Up Confirmed = Some []
expected true Up Up = Some []
expected false Opened Opened = Some (Hello ∷ [])
expected false Opened Up = Some (Hello ∷ [])
expected false Up Opened = Some []
expected false Up Up = Some []
expected _ _ _ = None

abbrev pub meets : Bool → Phase → Phase → Bool
meets b p q = is_some (expected b p q)

abbrev pub greetings : Bool → Phase → Phase → List Message
greetings b p q = unwrap_or (expected b p q) []

-- from the far end to the near one, on a session that is not down
pub record Flows (size : List ℕ → Message → ℕ) (peering : Bool) (near far : SessionEnd) : Type 0 where
  pub changes : List Change
  pub phases : meets peering near.phase far.phase ≡ true
  -- greetings are ahead of all changes
  pub flight : far.flight ≡ greetings peering near.phase far.phase ++ map Carries changes
  pub early : may_send_at peering far.phase ≡ false → changes ≡ []
  -- what is held, with what is in flight, is what was sent
  pub tells : after near.held changes ≡ far.sent
  pub partly : IsPartly (size far.name) far.flight far.taken

-- an end that is not live has nothing
abbrev pub IsTidy : SessionEnd → Type 0
IsTidy e = is_live e ≡ false → (e.sent ≡ empty) × (e.held ≡ empty)

pub record DownEnd (e : SessionEnd) : Type 0 where
  pub notice : e.notice ≡ is_live e
  pub flight : e.flight ≡ []
  pub taken : e.taken ≡ 0
  pub tidy : IsTidy e

pub record Joined (size : List ℕ → Message → ℕ) (s : Session) : Type 0 where
  pub whole : s.is_down ≡ false
  pub near_notice : s.near.notice ≡ false
  pub far_notice : s.far.notice ≡ false
  pub inward : Flows size (is_peering s) s.near s.far
  pub outward : Flows size (is_peering s) s.far s.near

pub record Down (s : Session) : Type 0 where
  pub down : s.is_down ≡ true
  pub near : DownEnd s.near
  pub far : DownEnd s.far

abbrev pub Fact : (List ℕ → Message → ℕ) → Session → Type 0
Fact size s = Joined size s ⊎ Down s

-- ---- the other way round
pub are_peers-turned : (a b : Role) → are_peers a b ≡ are_peers b a
are_peers-turned Controller Controller = refl
are_peers-turned Controller Configuration = refl
are_peers-turned Controller Agent = refl
are_peers-turned Configuration Controller = refl
are_peers-turned Agent Controller = refl
are_peers-turned _ _ = refl

pub Fact-turned : (size : List ℕ → Message → ℕ) (s : Session) → Fact size s → Fact size (turned s)
Fact-turned size s (inl j) = inl (record {
  whole = j.whole;
  near_notice = j.far_notice;
  far_notice = j.near_notice;
  inward = subst (λ b. Flows size b s.far s.near) (are_peers-turned s.near.role s.far.role) j.outward;
  outward = subst (λ b. Flows size b s.near s.far) (are_peers-turned s.near.role s.far.role) j.inward;
})
Fact-turned size s (inr d) = inr (record { down = d.down; near = d.far; far = d.near })

-- ---- closing
closed_down : (e : SessionEnd) → DownEnd (closed e)
closed_down e = record { notice = refl; flight = refl; taken = refl; tidy = λ _. (refl, refl) }

noticed_down : (e : SessionEnd) → IsTidy e → DownEnd (noticed e)
noticed_down e t = record { notice = refl; flight = refl; taken = refl; tidy = t }

pub shut_down : (s : Session) → IsTidy s.far → Down (shut s)
shut_down s t = record { down = refl; near = closed_down s.near; far = noticed_down s.far t }

pub lost_down : (s : Session) → IsTidy s.near → IsTidy s.far → Down (lost s)
lost_down s t u = record { down = refl; near = noticed_down s.near t; far = noticed_down s.far u }

-- where phases meet, both ends are live
pub live_receiver : (b : Bool) (p q : Phase) → meets b p q ≡ true → is_idle p ≡ false
live_receiver b Opened q e = refl
live_receiver b Confirmed q e = refl
live_receiver b Up q e = refl
live_receiver true Idle q e = cc
live_receiver false Idle q e = cc

pub tidy_near : (size : List ℕ → Message → ℕ) (s : Session) → Fact size s → IsTidy s.near
tidy_near size s (inl j) = λ e. absurd (true≢false (ap not (sym (live_receiver _ _ _ j.inward.phases)) ∙ e))
tidy_near size s (inr d) = d.near.tidy

pub tidy_far : (size : List ℕ → Message → ℕ) (s : Session) → Fact size s → IsTidy s.far
tidy_far size s f = tidy_near size (turned s) (Fact-turned size s f)

-- ---- what all steps share
by_whole : (P : Session → Type 0) (s : Session) → s.is_down ≡ false → P (record { is_down = false; near = s.near; far = s.far }) → P s
by_whole P s e = subst (λ (d : Bool). P (record { is_down = d; near = s.near; far = s.far })) (sym e)

by_down : (P : Session → Type 0) (s : Session) → s.is_down ≡ true → P (record { is_down = true; near = s.near; far = s.far }) → P s
by_down P s e = subst (λ (d : Bool). P (record { is_down = d; near = s.near; far = s.far })) (sym e)

live_sender : (b : Bool) (p : Phase) → may_send_at b p ≡ true → not (is_idle p) ≡ true
live_sender false p e = e
live_sender true Up e = refl
live_sender true Idle e = e
live_sender true Opened e = absurd (true≢false (sym e))
live_sender true Confirmed e = absurd (true≢false (sym e))

pub map_append : {A B : Type 0} (f : A → B) (xs ys : List A) → map f (xs ++ ys) ≡ map f xs ++ map f ys
map_append f [] ys = refl
map_append f (x ∷ xs) ys = ap (λ zs. f x ∷ zs) (map_append f xs ys)

-- one wanted map after another
pub next_difference : (held sent wanted : Map) (changes : List Change) → after held changes ≡ sent → after held (changes ++ difference sent wanted) ≡ wanted
next_difference held sent wanted changes e =
    after-append held changes (difference sent wanted)
    ∙ ap (λ (m : Map). after m (difference sent wanted)) e
    ∙ after-difference same_value key_total same_value_decides key_exact sent wanted

module _ (size : List ℕ → Message → ℕ) (positive : (n : List ℕ) (m : Message) → 0 < size n m) where
  partly_zero : (n : List ℕ) (f : List Message) → IsPartly (size n) f 0
  partly_zero n [] = refl
  partly_zero n (m ∷ ms) = positive n m

  pub partly_append : (n : List ℕ) (f ms : List Message) (t : ℕ) → IsPartly (size n) f t → IsPartly (size n) (f ++ ms) t
  partly_append n [] ms t h = subst (IsPartly (size n) ms) (sym h) (partly_zero n ms)
  partly_append n (m ∷ f) ms t h = h

  -- where the fact holds if all is sent, it holds of what is told
  pub told_keeps : (ms : List Message) (s : Session) → IsTidy s.far → ((b : List ℕ) → Fact size (with_breaks b (sends ms s))) → Fact size (told ms s)
  told_keeps ms s t h =
      elim (told_cases ms s) as (λ _. Fact size (told ms s)) [
        | inl p ↦ subst (Fact size) (sym p.1) (inr (shut_down (with_breaks p.0 s) t))
        | inr p ↦ subst (Fact size) (sym p.1) (h p.0)
      ]

  -- ---- a pass
  passed_whole : (wanted : Map) (near far : SessionEnd) → Joined size (record { is_down = false; near = near; far = far }) → may_send (record { is_down = false; near = near; far = far }) ≡ true
      → Fact size (told (map Carries (difference near.sent wanted)) (record { is_down = false; near = record near { sent = wanted }; far = far }))
  passed_whole wanted near far j may =
      told_keeps _ _ (tidy_far size _ (inl j)) (λ b. inl (record {
        whole = refl;
        near_notice = j.near_notice;
        far_notice = j.far_notice;
        inward = record { changes = j.inward.changes; phases = j.inward.phases; flight = j.inward.flight; early = j.inward.early; tells = j.inward.tells; partly = j.inward.partly };
        outward = record {
          changes = j.outward.changes ++ difference near.sent wanted;
          phases = j.outward.phases;
          flight =
              ap (λ (f : List Message). f ++ map Carries (difference near.sent wanted)) j.outward.flight
              ∙ append_assoc (greetings _ far.phase near.phase) (map Carries j.outward.changes) (map Carries (difference near.sent wanted))
              ∙ ap (λ (f : List Message). greetings (are_peers near.role far.role) far.phase near.phase ++ f) (sym (map_append Carries j.outward.changes (difference near.sent wanted)));
          early = λ e. absurd (true≢false (sym may ∙ e));
          tells = next_difference far.held near.sent wanted j.outward.changes j.outward.tells;
          partly = partly_append near.name near.flight (map Carries (difference near.sent wanted)) near.taken j.outward.partly;
        };
      }))

  passed_down : (wanted : Map) (near far : SessionEnd) → Down (record { is_down = true; near = near; far = far }) → may_send (record { is_down = true; near = near; far = far }) ≡ true
      → Fact size (told (map Carries (difference near.sent wanted)) (record { is_down = true; near = record near { sent = wanted }; far = far }))
  passed_down wanted near far d may =
      told_keeps _ _ d.far.tidy (λ b. inr (record {
        down = refl;
        near = record { notice = d.near.notice; flight = d.near.flight; taken = d.near.taken; tidy = λ e. absurd (true≢false (sym (live_sender (are_peers near.role far.role) near.phase may) ∙ e)) };
        far = d.far;
      }))

  pub passed_keeps : (wanted : Map) (s : Session) → Fact size s → Fact size (passed wanted s)
  unfolding passed
  passed_keeps wanted s f =
      elim (may_send s) as (λ b. may_send s ≡ b → Fact size (cond b (told (map Carries (difference s.near.sent wanted)) (record s { near = record s.near { sent = wanted } })) s)) [
        | true ↦ λ may. elim f as (λ _. Fact size (told (map Carries (difference s.near.sent wanted)) (record s { near = record s.near { sent = wanted } }))) [
          | inl j ↦ by_whole (λ t. Joined size t → may_send t ≡ true → Fact size (told (map Carries (difference t.near.sent wanted)) (record t { near = record t.near { sent = wanted } }))) s j.whole (passed_whole wanted s.near s.far) j may
          | inr d ↦ by_down (λ t. Down t → may_send t ≡ true → Fact size (told (map Carries (difference t.near.sent wanted)) (record t { near = record t.near { sent = wanted } }))) s d.down (passed_down wanted s.near s.far) d may
        ]
        | false ↦ λ _. f
      ] refl

  -- ---- a delivery
  pub build : (b : Bool) (near far : SessionEnd) → are_peers near.role far.role ≡ b → near.notice ≡ false → far.notice ≡ false → Flows size b near far → Flows size b far near
      → Fact size (record { is_down = false; near = near; far = far })
  build b near far k n m i o = inl (record {
    whole = refl;
    near_notice = n;
    far_notice = m;
    inward = subst (λ (c : Bool). Flows size c near far) (sym k) i;
    outward = subst (λ (c : Bool). Flows size c far near) (sym k) o;
  })

  -- the other direction, where only what is in flight towards the near end changes
  other_way : (b : Bool) (p q : Phase) (near far : SessionEnd) (f : List Message) (t : ℕ) → Flows size b (record far { phase = q }) (record near { phase = p })
      → Flows size b (record far { phase = q; notice = false; flight = f; taken = t }) (record near { phase = p; notice = false })
  other_way b p q near far f t o = record { changes = o.changes; phases = o.phases; flight = o.flight; early = o.early; tells = o.tells; partly = o.partly }

-- the cases
abbrev pub first_as : Bool → Phase → List Message → Session → Session
first_as b p [] s = s
first_as b p (m ∷ ms) s = cond b (peer_took p m (without_first ms s)) (item_took p m (without_first ms s))

pub took_first_is : (f : List Message) (s : Session) → took_first f s ≡ first_as (is_peering s) s.near.phase f s
took_first_is [] s = refl
took_first_is (m ∷ ms) s = refl

keepalive_last : (cs : List Change) → cs ≡ [] → (Open ∷ map Carries cs) ++ Keepalive ∷ [] ≡ Open ∷ Keepalive ∷ map Carries cs
keepalive_last cs e = subst (λ (cs : List Change). (Open ∷ map Carries cs) ++ Keepalive ∷ [] ≡ Open ∷ Keepalive ∷ map Carries cs) (sym e) refl

keepalive_alone : (cs : List Change) → cs ≡ [] → map Carries cs ++ Keepalive ∷ [] ≡ Keepalive ∷ map Carries cs
keepalive_alone cs e = subst (λ (cs : List Change). map Carries cs ++ Keepalive ∷ [] ≡ Keepalive ∷ map Carries cs) (sym e) refl

module _ (size : List ℕ → Message → ℕ) (positive : (n : List ℕ) (m : Message) → 0 < size n m) where
  -- the session that a delivery meets
  abbrev met : Bool → Phase → Phase → SessionEnd → SessionEnd → List Change → Session
  met b p q near far ds = record { is_down = false; near = record near { phase = p; notice = false }; far = record far { phase = q; notice = false; flight = greetings b p q ++ map Carries ds } }

  first_keeps : (b : Bool) (p q : Phase) (near far : SessionEnd) (ds : List Change) → are_peers near.role far.role ≡ b → meets b p q ≡ true → (may_send_at b q ≡ false → ds ≡ []) → after near.held ds ≡ far.sent
      → IsPartly (size far.name) (greetings b p q ++ map Carries ds) far.taken → Flows size b (record far { phase = q }) (record near { phase = p })
      → Fact size (first_as b p (greetings b p q ++ map Carries ds) (met b p q near far ds))
  first_keeps true Opened Opened near far ds kind phases early tells partly o =
      told_keeps size positive _ _ (λ e. absurd (true≢false e)) (λ b. build size positive true _ _ kind refl refl
      (record { changes = ds; phases = refl; flight = refl; early = early; tells = tells; partly = partly_zero size positive far.name (map Carries ds) })
      (record { changes = o.changes; phases = refl; flight = ap (λ (f : List Message). f ++ Keepalive ∷ []) o.flight ∙ keepalive_last o.changes (o.early refl); early = λ _. o.early refl; tells = o.tells; partly = partly_append size positive near.name near.flight (Keepalive ∷ []) near.taken o.partly }))
  first_keeps true Opened Confirmed near far ds kind phases early tells partly o =
      told_keeps size positive _ _ (λ e. absurd (true≢false e)) (λ b. build size positive true _ _ kind refl refl
      (record { changes = ds; phases = refl; flight = refl; early = early; tells = tells; partly = partly_zero size positive far.name (Keepalive ∷ map Carries ds) })
      (record { changes = o.changes; phases = refl; flight = ap (λ (f : List Message). f ++ Keepalive ∷ []) o.flight ∙ keepalive_alone o.changes (o.early refl); early = λ _. o.early refl; tells = o.tells; partly = partly_append size positive near.name near.flight (Keepalive ∷ []) near.taken o.partly }))
  first_keeps true Confirmed Opened near far [] kind phases early tells partly o =
      build size positive true _ _ kind refl refl (record { changes = []; phases = refl; flight = refl; early = λ _. refl; tells = tells; partly = partly }) (other_way size positive true Confirmed Opened near far _ _ o)
  first_keeps true Confirmed Opened near far (d ∷ ds) kind phases early tells partly o = absurd (cc (early refl))
  first_keeps true Confirmed Confirmed near far ds kind phases early tells partly o =
      build size positive true _ _ kind refl refl (record { changes = ds; phases = refl; flight = refl; early = early; tells = tells; partly = partly_zero size positive far.name (map Carries ds) }) (record { changes = o.changes; phases = refl; flight = o.flight; early = λ e. absurd (true≢false e); tells = o.tells; partly = o.partly })
  first_keeps true Confirmed Up near far ds kind phases early tells partly o =
      build size positive true _ _ kind refl refl (record { changes = ds; phases = refl; flight = refl; early = early; tells = tells; partly = partly_zero size positive far.name (map Carries ds) }) (record { changes = o.changes; phases = refl; flight = o.flight; early = λ e. absurd (true≢false e); tells = o.tells; partly = o.partly })
  first_keeps true Up Confirmed near far [] kind phases early tells partly o =
      build size positive true _ _ kind refl refl (record { changes = []; phases = refl; flight = refl; early = λ _. refl; tells = tells; partly = partly }) (other_way size positive true Up Confirmed near far _ _ o)
  first_keeps true Up Confirmed near far (d ∷ ds) kind phases early tells partly o = absurd (cc (early refl))
  first_keeps true Up Up near far [] kind phases early tells partly o =
      build size positive true _ _ kind refl refl (record { changes = []; phases = refl; flight = refl; early = λ _. refl; tells = tells; partly = partly }) (other_way size positive true Up Up near far _ _ o)
  first_keeps true Up Up near far (d ∷ ds) kind phases early tells partly o =
      build size positive true _ _ kind refl refl (record { changes = ds; phases = refl; flight = refl; early = λ e. absurd (true≢false e); tells = tells; partly = partly_zero size positive far.name (map Carries ds) }) (record { changes = o.changes; phases = o.phases; flight = o.flight; early = o.early; tells = o.tells; partly = o.partly })
  first_keeps false Opened Opened near far ds kind phases early tells partly o =
      build size positive false _ _ kind refl refl (record { changes = ds; phases = refl; flight = refl; early = early; tells = tells; partly = partly_zero size positive far.name (map Carries ds) }) (record { changes = o.changes; phases = refl; flight = o.flight; early = λ e. absurd (true≢false e); tells = o.tells; partly = o.partly })
  first_keeps false Opened Up near far ds kind phases early tells partly o =
      build size positive false _ _ kind refl refl (record { changes = ds; phases = refl; flight = refl; early = early; tells = tells; partly = partly_zero size positive far.name (map Carries ds) }) (record { changes = o.changes; phases = refl; flight = o.flight; early = λ e. absurd (true≢false e); tells = o.tells; partly = o.partly })
  first_keeps false Up Opened near far [] kind phases early tells partly o =
      build size positive false _ _ kind refl refl (record { changes = []; phases = refl; flight = refl; early = λ _. refl; tells = tells; partly = partly }) (other_way size positive false Up Opened near far _ _ o)
  first_keeps false Up Opened near far (d ∷ ds) kind phases early tells partly o =
      build size positive false _ _ kind refl refl (record { changes = ds; phases = refl; flight = refl; early = λ e. absurd (true≢false e); tells = tells; partly = partly_zero size positive far.name (map Carries ds) }) (record { changes = o.changes; phases = o.phases; flight = o.flight; early = o.early; tells = o.tells; partly = o.partly })
  first_keeps false Up Up near far [] kind phases early tells partly o =
      build size positive false _ _ kind refl refl (record { changes = []; phases = refl; flight = refl; early = λ _. refl; tells = tells; partly = partly }) (other_way size positive false Up Up near far _ _ o)
  first_keeps false Up Up near far (d ∷ ds) kind phases early tells partly o =
      build size positive false _ _ kind refl refl (record { changes = ds; phases = refl; flight = refl; early = λ e. absurd (true≢false e); tells = tells; partly = partly_zero size positive far.name (map Carries ds) }) (record { changes = o.changes; phases = o.phases; flight = o.flight; early = o.early; tells = o.tells; partly = o.partly })
  first_keeps _ _ _ near far ds kind phases early tells partly o = absurd (true≢false (sym phases))

  -- all arrivals
  pub arrived_keeps : (s : Session) → Fact size s → Fact size (arrived s)
  unfolding arrived
  arrived_keeps s (inl j) =
      let same : met (is_peering s) s.near.phase s.far.phase s.near s.far j.inward.changes ≡ s = λ i. record {
        is_down = sym j.whole i;
        near = record s.near { notice = sym j.near_notice i };
        far = record s.far { notice = sym j.far_notice i; flight = sym j.inward.flight i };
      } in
      let first = first_keeps (is_peering s) s.near.phase s.far.phase s.near s.far j.inward.changes refl j.inward.phases j.inward.early j.inward.tells
      (subst (λ (f : List Message). IsPartly (size s.far.name) f s.far.taken) j.inward.flight j.inward.partly)
      (record { changes = j.outward.changes; phases = j.outward.phases; flight = j.outward.flight; early = j.outward.early; tells = j.outward.tells; partly = j.outward.partly }) in
      subst (λ b. Fact size (cond b (record s { near = closed s.near }) (took_first s.far.flight s))) (sym j.near_notice)
      (subst (Fact size) (sym (took_first_is s.far.flight s))
      (subst (λ (t : Session). Fact size (first_as (is_peering s) s.near.phase t.far.flight t)) same first))
  arrived_keeps s (inr d) =
      elim s.near.notice as (λ b. Fact size (cond b (record s { near = closed s.near }) (took_first s.far.flight s))) [
        | true ↦ inr (record { down = d.down; near = closed_down s.near; far = d.far })
        | false ↦ subst (λ (f : List Message). Fact size (took_first f s)) (sym d.far.flight) (inr d)
      ]

  -- octets
  pub took_keeps : (s : Session) (m : Message) (ms : List Message) → Joined size s → s.far.flight ≡ m ∷ ms → Fact size (took m (without_first ms s))
  unfolding arrived
  took_keeps s m ms j e =
      subst (λ (f : List Message). Fact size (took_first f s)) e
      (subst (λ b. Fact size (cond b (record s { near = closed s.near }) (took_first s.far.flight s))) j.near_notice (arrived_keeps s (inl j)))

  told_flight : (ms : List Message) (s : Session) → (told ms s).is_down ≡ false → (told ms s).far.flight ≡ s.far.flight
  told_flight ms s =
      elim (told_cases ms s) as (λ _. (told ms s).is_down ≡ false → (told ms s).far.flight ≡ s.far.flight) [
        | inl p ↦ λ e. absurd (true≢false (sym (ap (λ (t : Session). t.is_down) p.1) ∙ e))
        | inr p ↦ λ e. ap (λ (t : Session). t.far.flight) p.1
            ∙ elim s.is_down as (λ d. (sends ms (record { is_down = d; near = s.near; far = s.far })).far.flight ≡ s.far.flight) [ true ↦ refl | false ↦ refl ]
      ]

  peer_took_flight : (p : Phase) (m : Message) (s : Session) → (peer_took p m s).is_down ≡ false → (peer_took p m s).far.flight ≡ s.far.flight
  peer_took_flight Idle m s e = refl
  peer_took_flight Opened Open s e = told_flight _ _ e
  peer_took_flight Confirmed Keepalive s e = refl
  peer_took_flight Up Keepalive s e = refl
  peer_took_flight Up (Carries d) s e = refl
  peer_took_flight _ _ s e = absurd (true≢false e)

  item_took_flight : (p : Phase) (m : Message) (s : Session) → (item_took p m s).is_down ≡ false → (item_took p m s).far.flight ≡ s.far.flight
  item_took_flight Idle m s e = refl
  item_took_flight Opened Hello s e = refl
  item_took_flight Up (Carries d) s e = refl
  item_took_flight _ _ s e = absurd (true≢false e)

  took_flight : (m : Message) (s : Session) → (took m s).is_down ≡ false → (took m s).far.flight ≡ s.far.flight
  took_flight m s =
      elim (is_peering s) as (λ b. (cond b (peer_took s.near.phase m s) (item_took s.near.phase m s)).is_down ≡ false → (cond b (peer_took s.near.phase m s) (item_took s.near.phase m s)).far.flight ≡ s.far.flight) [
        | true ↦ peer_took_flight s.near.phase m s
        | false ↦ item_took_flight s.near.phase m s
      ]

  pub more_taken : (z t n : ℕ) → t < z → nat_lt n (z - t) ≡ true → t + n < z
  more_taken z t n h e = omega (arith, h, ltb-true n (z - t) e)

  took_octets_keeps : (f : List Message) (n : ℕ) (s : Session) → Fact size s → (s.is_down ≡ false → s.far.flight ≡ f) → Fact size (took_octets size n f s)
  took_octets_keeps [] n s h e = h
  took_octets_keeps (m ∷ ms) n s (inr d) e = subst (λ b. Fact size (cond b s (cond (nat_lt n (size s.far.name m - s.far.taken)) (record s { far = record s.far { taken = s.far.taken + n } }) (took_octets size (n - (size s.far.name m - s.far.taken)) ms (took m (without_first ms s)))))) (sym d.down) (inr d)
  took_octets_keeps (m ∷ ms) n s (inl j) e =
      let partial : nat_lt n (size s.far.name m - s.far.taken) ≡ true → Fact size (record s { far = record s.far { taken = s.far.taken + n } }) = λ t. inl (record {
        whole = j.whole;
        near_notice = j.near_notice;
        far_notice = j.far_notice;
        inward = record {
          changes = j.inward.changes;
          phases = j.inward.phases;
          flight = j.inward.flight;
          early = j.inward.early;
          tells = j.inward.tells;
          partly = subst (λ (f : List Message). IsPartly (size s.far.name) f (s.far.taken + n)) (sym (e j.whole))
              (more_taken _ _ _ (subst (λ (f : List Message). IsPartly (size s.far.name) f s.far.taken) (e j.whole) j.inward.partly) t);
        };
        outward = record { changes = j.outward.changes; phases = j.outward.phases; flight = j.outward.flight; early = j.outward.early; tells = j.outward.tells; partly = j.outward.partly };
      }) in
      subst (λ b. Fact size (cond b s (cond (nat_lt n (size s.far.name m - s.far.taken)) (record s { far = record s.far { taken = s.far.taken + n } }) (took_octets size (n - (size s.far.name m - s.far.taken)) ms (took m (without_first ms s)))))) (sym j.whole)
      (elim (nat_lt n (size s.far.name m - s.far.taken)) as (λ b. nat_lt n (size s.far.name m - s.far.taken) ≡ b → Fact size (cond b (record s { far = record s.far { taken = s.far.taken + n } }) (took_octets size (n - (size s.far.name m - s.far.taken)) ms (took m (without_first ms s))))) [
        | true ↦ partial
        | false ↦ λ _. took_octets_keeps ms (n - (size s.far.name m - s.far.taken)) (took m (without_first ms s)) (took_keeps s m ms j (e j.whole)) (λ up. took_flight m (without_first ms s) up)
      ] refl)

  pub octets_arrived_keeps : (n : ℕ) (s : Session) → Fact size s → Fact size (octets_arrived size n s)
  unfolding octets_arrived
  octets_arrived_keeps n s h =
      elim h as (λ _. Fact size (cond s.near.notice (record s { near = closed s.near }) (took_octets size n s.far.flight s))) [
        | inl j ↦ subst (λ b. Fact size (cond b (record s { near = closed s.near }) (took_octets size n s.far.flight s))) (sym j.near_notice) (took_octets_keeps s.far.flight n s h (λ _. refl))
        | inr d ↦ elim s.near.notice as (λ b. Fact size (cond b (record s { near = closed s.near }) (took_octets size n s.far.flight s))) [
          | true ↦ inr (record { down = d.down; near = closed_down s.near; far = d.far })
          | false ↦ took_octets_keeps s.far.flight n s h (λ _. refl)
        ]
      ]
