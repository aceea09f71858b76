-- What the octets of messages in turn, and a first part of one more, make of an end of a session between control nodes.
use Rattle.std.specs.Prelude.{◌≡◌, ◌≢◌, ◌<◌, ◌^◌, ℕ, List, [], ◌∷◌, ◌++◌, map, Bool, true, false}
use Rattle.std.specs.List.{AllByRecursion, concat}
use Rattle.std.specs.Borrow.{Bor}
use Rattle.std.specs.declared.option.Option.{Option}
use Rattle.std.specs.declared.option.Option.TheVariants.{Some, None}
use Rattle.std.proofs.Common.{refl, sym, ◌∙◌, ap, subst, append_assoc}
use Rattle.std.proofs.lemmas.Bool.{true≢false}
use Rattle.std.proofs.lemmas.Option.{same_Some}
use Rattle.ov_link.specs.declared.step.Input.TheVariants as input
use Rattle.ov_sync.specs.Embed.{moved_delta}
use Rattle.ov_sync.specs.Keyed as keyed
use Rattle.ov_types.specs.declared.prefix.Addr.{Addr}
use Rattle.ov_types.specs.declared.rows.NodeId.{NodeId}
use Rattle.bgp_wire.specs.Content.{KeepsAlive}
use Rattle.bgp_wire.specs.Frames.{IsProperPrefix}
use Rattle.bgp_wire.specs.Spelling as wire
use Rattle.bgp_session.specs.Happenings.{SessionFields}
use Rattle.bgp_session.specs.Inputs.{Came, KeepaliveCame, RightOpen, RightUpdate}
use Rattle.bgp_session.specs.declared.event.Cause.{Cause}
use Rattle.node_model.specs.Keys.{Vpn}
use Rattle.node_model.specs.Maps.{Change, Map}
use Rattle.node_model.specs.Step.{Beginning, Phase, Idle, Opened, Confirmed, Up, Post}
use Rattle.node_model.specs.Values.{Route}
use Rattle.node_model.proofs.Members.{none_some}
use Rattle.running_nodes.specs.NodeRoutes.Beginning as route
use Rattle.running_nodes.specs.NodeRoutes.First.{BringFirst}
use Rattle.running_nodes.specs.NodeRoutes.Hearing.{heard, open_octets}
use Rattle.running_nodes.specs.NodeRoutes.Keeping.{Leaves}
use Rattle.running_nodes.specs.NodeRoutes.Told as routes
use Rattle.running_nodes.proofs.NodeRoutes.Cutting.{leaves_one}
use Rattle.running_nodes.proofs.NodeRoutes.One.{keepalive_first, open_first, update_first}
use Rattle.running_nodes.specs.ControlNode.Beginning.{peer_state}
use Rattle.machine_laws.specs.MachineModel.Session.{Message, Open, Keepalive, Hello, Carries, is_idle}
use Rattle.machine_laws.specs.MachineModel.Moments.{NoneGoesDown}
use Rattle.running_nodes.specs.Seats.{Who}
use Rattle.running_nodes.specs.Stands.{octets_of}
use Rattle.running_nodes.specs.Taking.{replies_to_all, taken_all, took_all}
use Rattle.running_nodes.specs.Telling.{IsRouteChange}

-- what these octets say on a session of this system with the peer of this address
abbrev pub SaysRoute : ℕ → Addr → Message → List ℕ → Type 0
SaysRoute asn address Open octets =
    (octets ≡ open_octets asn address) × (asn < 2 ^ 32) × (address.0 < 2 ^ 32) × (address.0 ≢ 0)
SaysRoute asn address Keepalive octets = octets ≡ wire.spelling KeepsAlive
SaysRoute asn address (Carries c) octets = (octets ≡ routes.spelled c) × IsRouteChange c
SaysRoute asn address Hello octets = Unit {0}

phase_back : (phase : Phase) → route.phase_of (peer_state phase) ≡ phase
phase_back Idle = refl
phase_back Opened = refl
phase_back Confirmed = refl
phase_back Up = refl

module _ (who : Who) (id : Addr) (asn : ℕ) (peer : NodeId) (sent : Map) (part : List ℕ) (proper : IsProperPrefix part)
    (spell : Message → List ℕ) (Can : Message → Type 0)
    (says : (m : Message) → Can m → SaysRoute asn peer.address m (spell m)) where
  abbrev session_in : Phase → Bool → SessionFields
  session_in phase wide = record { asn = asn; peer = peer; state = peer_state phase; wide = wide }

  abbrev post_in : Phase → Map → Bool → Post
  post_in phase held wide = record { phase = phase; sent = sent; held = held; wide = wide }

  -- the octets bring inputs that make of the end what these messages make of it, and leave the part
  pub record Brings (phase : Phase) (held : Map) (wide : Bool) (octets : List ℕ) (ms : List Message) : Type 0 where
    pub inputs : List Came
    pub leaves : Leaves (session_in phase wide) octets inputs part
    pub cause : (heard id (session_in phase wide) inputs).cause ≡ None
    pub replies : (heard id (session_in phase wide) inputs).replies
        ≡ map (octets_of who true) (replies_to_all true phase ms)
    pub after : route.left_by (post_in phase held wide) (heard id (session_in phase wide) inputs) None
        ≡ Some (took_all true (post_in phase held wide) ms)

  -- the part by itself
  nothing_brings : (phase : Phase) (held : Map) (wide : Bool) → Brings phase held wide part []
  nothing_brings phase held wide = record {
    inputs = [];
    leaves = (proper, refl);
    cause = refl;
    replies = refl;
    after = ap (λ (q : Phase). Some (post_in q held wide)) (phase_back phase);
  }

  -- octets that begin with what is spelled so
  spelled_so : (s : SessionFields) (m : Message) (came : Came) (spelled rest : List ℕ) → spell m ≡ spelled
      → BringFirst s (spelled ++ rest) came rest → BringFirst s (spell m ++ rest) came rest
  spelled_so s m came spelled rest is first =
      subst (λ (o : List ℕ). BringFirst s (o ++ rest) came rest) (sym is) first

  open_brings : (held : Map) (wide : Bool) (rest : List ℕ) (ms : List Message) → Can Open
      → Brings Confirmed held true rest ms → Brings Opened held wide (spell Open ++ rest) (Open ∷ ms)
  open_brings held wide rest ms can b =
      let s = session_in Opened wide in
      let said = says Open can in
      let first = spelled_so s Open (RightOpen true) (open_octets asn peer.address) rest said.0
      (open_first s rest said.1 said.2 said.3) in
      record {
        inputs = RightOpen true ∷ b.inputs;
        leaves = (rest, first.next, b.leaves);
        cause = b.cause;
        replies = ap (λ (r : List (List ℕ)). wire.spelling KeepsAlive ∷ r) b.replies;
        after = b.after;
      }

  keepalive_brings : (held : Map) (wide : Bool) (rest : List ℕ) (ms : List Message) → Can Keepalive
      → Brings Up held wide rest ms → Brings Confirmed held wide (spell Keepalive ++ rest) (Keepalive ∷ ms)
  keepalive_brings held wide rest ms can b =
      let s = session_in Confirmed wide in
      let first = spelled_so s Keepalive KeepaliveCame (wire.spelling KeepsAlive) rest (says Keepalive can)
      (keepalive_first s rest) in
      record {
        inputs = KeepaliveCame ∷ b.inputs;
        leaves = (rest, first.next, b.leaves);
        cause = b.cause;
        replies = b.replies;
        after = b.after;
      }

  keepalive_passes : (held : Map) (wide : Bool) (rest : List ℕ) (ms : List Message) → Can Keepalive
      → Brings Up held wide rest ms → Brings Up held wide (spell Keepalive ++ rest) (Keepalive ∷ ms)
  keepalive_passes held wide rest ms can b =
      let s = session_in Up wide in
      let first = spelled_so s Keepalive KeepaliveCame (wire.spelling KeepsAlive) rest (says Keepalive can)
      (keepalive_first s rest) in
      record {
        inputs = KeepaliveCame ∷ b.inputs;
        leaves = (rest, first.next, b.leaves);
        cause = b.cause;
        replies = b.replies;
        after = b.after;
      }

  route_brings : (c : Change) (held : Map) (wide : Bool) (rest : List ℕ) (ms : List Message) → Can (Carries c)
      → Brings Up (keyed.changed held c) wide rest ms
      → Brings Up held wide (spell (Carries c) ++ rest) (Carries c ∷ ms)
  route_brings c held wide rest ms can b =
      let s = session_in Up wide in
      let said = says (Carries c) can in
      let d = said.1.change in
      let h = heard id s b.inputs in
      let first = spelled_so s (Carries c) (RightUpdate (d ∷ [])) (routes.spelled (moved_delta Vpn Route d)) rest
      (said.0 ∙ ap routes.spelled said.1.is) (update_first s d rest said.1.writable said.1.typed) in
      record {
        inputs = RightUpdate (d ∷ []) ∷ b.inputs;
        leaves = (rest, first.next, b.leaves);
        cause = b.cause;
        replies = b.replies;
        after = ap (λ (x : Change). Some (record {
          phase = route.phase_of h.state;
          sent = sent;
          held = keyed.after (keyed.changed held x) (map (moved_delta Vpn Route) h.changes);
          wide = h.wide;
        })) (sym said.1.is) ∙ b.after;
      }

  -- one message, where the others are brought from the end that it leaves
  step : (phase : Phase) (m : Message) (held : Map) (wide : Bool) (ms : List Message) (rest : List ℕ)
      → is_idle phase ≡ false → NoneGoesDown true phase (m ∷ ms) → Can m
      → ((q : Phase) (held' : Map) (wide' : Bool) → is_idle q ≡ false → NoneGoesDown true q ms → Brings q held' wide' rest ms)
      → Brings phase held wide (spell m ++ rest) (m ∷ ms)
  step Idle m held wide ms rest live goes can others = absurd (true≢false live)
  step Opened Open held wide ms rest live goes can others =
      open_brings held wide rest ms can
      (others Confirmed held true refl
      (subst (λ (q : Phase). NoneGoesDown true q ms) (sym (same_Some Confirmed goes.0 goes.1)) goes.2))
  step Confirmed Keepalive held wide ms rest live goes can others =
      keepalive_brings held wide rest ms can
      (others Up held wide refl
      (subst (λ (q : Phase). NoneGoesDown true q ms) (sym (same_Some Up goes.0 goes.1)) goes.2))
  step Up Keepalive held wide ms rest live goes can others =
      keepalive_passes held wide rest ms can
      (others Up held wide refl
      (subst (λ (q : Phase). NoneGoesDown true q ms) (sym (same_Some Up goes.0 goes.1)) goes.2))
  step Up (Carries c) held wide ms rest live goes can others =
      route_brings c held wide rest ms can
      (others Up (keyed.changed held c) wide refl
      (subst (λ (q : Phase). NoneGoesDown true q ms) (sym (same_Some Up goes.0 goes.1)) goes.2))
  step _ _ held wide ms rest live goes can others = absurd (none_some goes.0 goes.1)

  brings : (ms : List Message) (phase : Phase) (held : Map) (wide : Bool) → is_idle phase ≡ false
      → NoneGoesDown true phase ms → AllByRecursion Can ms
      → Brings phase held wide (concat (map spell ms) ++ part) ms
  brings [] phase held wide live goes can = nothing_brings phase held wide
  brings (m ∷ ms) phase held wide live goes can =
      subst (λ (o : List ℕ). Brings phase held wide o (m ∷ ms))
      (sym (append_assoc (spell m) (concat (map spell ms)) part))
      (step phase m held wide ms (concat (map spell ms) ++ part) live goes can.0
      (λ q held' wide' live' goes'. brings ms q held' wide' live' goes' can.1))

-- an end that hears messages in turn and part of one more is as its cells say, with the replies, and the part is left
pub messages_taken : (who : Who) (id : Addr) (asn : ℕ) (peer : NodeId) (p : Post) (kept : List ℕ) (i : ℕ)
    (octets : Bor (List ℕ)) (given : Beginning) (cause : Option Cause) (left part : List ℕ) → IsProperPrefix part
    → (spell : Message → List ℕ) (Can : Message → Type 0)
    → ((m : Message) → Can m → SaysRoute asn peer.address m (spell m)) → (ms : List Message)
    → is_idle p.phase ≡ false → NoneGoesDown true p.phase ms → AllByRecursion Can ms
    → kept ++ octets.now ≡ concat (map spell ms) ++ part
    → route.BeginsKeeping id (record { asn = asn; peer = peer; state = peer_state p.phase; wide = p.wide }) p kept
    (input.Bytes i octets) given cause left
    → (given ≡ taken_all who true p ms) × (left ≡ part) × (cause ≡ None)
messages_taken who id asn peer p kept i octets given cause left part proper spell Can says ms live goes can is x =
    let s : SessionFields = record { asn = asn; peer = peer; state = peer_state p.phase; wide = p.wide } in
    let b = brings who id asn peer p.sent part proper spell Can says ms p.phase p.held p.wide live goes can in
    let one = leaves_one s (kept ++ octets.now) x.0 b.inputs left part x.1
    (subst (λ (o : List ℕ). Leaves s o b.inputs part) (sym is) b.leaves) in (
      x.2 ∙ ap (λ (inputs : List Came). record {
        replies = (heard id s inputs).replies;
        after = route.left_by p (heard id s inputs) (heard id s inputs).cause;
      }) one.0 ∙ ap (λ (c : Option Cause). record {
        replies = (heard id s b.inputs).replies;
        after = route.left_by p (heard id s b.inputs) c;
      }) b.cause ∙ (λ j. record { replies = b.replies j; after = b.after j }),
      one.1,
      x.3 ∙ ap (λ (inputs : List Came). (heard id s inputs).cause) one.0 ∙ b.cause,
    )
