-- Octets always bring a list of inputs.
use Rattle.std.proofs.Common.{◌<◌, ◌+◌, Bool, ℕ, zero, suc, List, [], ◌∷◌, length, take, drop, inl, inr, refl, arith}
use Rattle.ov_types.specs.declared.prefix.Addr.{Addr}
use Rattle.bgp_wire.specs.Content.{Content, Opens, Updates, Notifies, KeepsAlive}
use Rattle.bgp_wire.specs.Messages.{AreOctets, IsMessage, BeginsWith, HasFault}
use Rattle.bgp_wire.specs.Opens.{is_wide}
use Rattle.bgp_wire.proofs.Octets.{AreOctets-take}
use Rattle.bgp_wire.proofs.Readings.{read}
use Rattle.bgp_vpn.proofs.LabelLemmas.{attributes_octets}
use Rattle.bgp_vpn.proofs.UpdateLemmas.{one_of_two}
use Rattle.bgp_session.specs.Happenings.{SessionFields, Happening, Passes, Sends, ComesUp, HandsOut, GoesDown, after, answer}
use Rattle.bgp_session.specs.Inputs.{Came, KeepaliveCame, NotificationCame, RightUpdate, WrongUpdate, BadFrame, right, wrong, Brings, open_refusal, came_by_open}
use Rattle.bgp_wire.specs.declared.fault.WireFault.{WireFault}
use Rattle.node_routes.specs.Hearing.{IsNext, message, fault, GoesOn, Hears}
use Rattle.node_routes.proofs.Labels.{rest_octets}
use Rattle.node_routes.proofs.Steps.{message_shortens, fault_shortens}

brings_some : (asn : ℕ) (peer : Addr) (wide : Bool) (octets : List ℕ) (content : Content) → AreOctets octets → IsMessage octets content
    → (came : Came) × Brings asn peer wide content came
brings_some asn peer wide octets (Opens fields) h m = (came_by_open (is_wide fields) (open_refusal asn peer fields), refl)
brings_some asn peer wide octets (Updates parts) h m =
    elim (one_of_two wide parts (attributes_octets octets parts h m)) [
      | inl makes ↦ (RightUpdate makes.0, right makes.0 makes.1 refl)
      | inr fails ↦ (WrongUpdate fails.0, wrong fails.0 fails.1 refl)
    ]
brings_some asn peer wide octets (Notifies code subcode) h m = (NotificationCame code subcode, refl)
brings_some asn peer wide octets KeepsAlive h m = (KeepaliveCame, refl)

-- what octets bring first, with fewer octets behind it
record SomeNext (s : SessionFields) (octets : List ℕ) : Type 0 where
  pub came : Came
  pub rest : List ℕ
  pub next : IsNext s octets came rest
  pub shorter : length rest < length octets

message_next : (s : SessionFields) (octets : List ℕ) (content : Content) (n : ℕ) → AreOctets octets → BeginsWith octets content n → SomeNext s octets
message_next s octets content n h begins =
    let brought = brings_some s.asn s.peer.address s.wide (take n octets) content (AreOctets-take n octets h) begins.message in
    record {
      came = brought.0;
      rest = drop n octets;
      next = message (record { content = content; length = n; begins = begins; brings = brought.1; rest_is = refl });
      shorter = message_shortens octets content n begins;
    }

fault_next : (s : SessionFields) (octets : List ℕ) (f : WireFault) → HasFault octets f → SomeNext s octets
fault_next s octets f has = record {
  came = BadFrame f;
  rest = [];
  next = fault (record { fault = f; has = has; came_is = refl; rest_is = refl });
  shorter = fault_shortens octets f has;
}

abbrev HeardOf : SessionFields → List ℕ → Type 0
HeardOf s octets = (inputs : List Came) × Hears s octets inputs

others : (h : Happening) (s : SessionFields) (rest : List ℕ) → HeardOf s rest → (more : List Came) × GoesOn h more (Hears s rest more)
others Passes s rest x = x
others (Sends r) s rest x = x
others ComesUp s rest x = x
others (HandsOut changes) s rest x = x
others (GoesDown cause code) s rest x = ([], refl)

with_others : (s : SessionFields) (octets : List ℕ) (n : SomeNext s octets) → HeardOf (after s n.came) n.rest → HeardOf s octets
with_others s octets n x =
    let more = others (answer s n.came) (after s n.came) n.rest x in
    (n.came ∷ more.0, (n.rest, n.next, more.1))

heard_below : (most : ℕ) (s : SessionFields) (octets : List ℕ) → length octets < most → AreOctets octets → HeardOf s octets
heard_below zero s octets few h = absurd (omega (arith, few))
heard_below (suc most) s octets few h =
    let on : SomeNext s octets → HeardOf s octets = λ n.
    let shorter = n.shorter in
    with_others s octets n (heard_below most (after s n.came) n.rest (omega (arith, few, shorter)) (rest_octets s octets n.came n.rest h n.next)) in
    elim (read octets h) [
      | inl m ↦ on (message_next s octets m.0 m.1 h m.2)
      | inr other ↦ elim other [ inl prefix ↦ ([], prefix) | inr f ↦ on (fault_next s octets f.0 f.1) ]
    ]

pub heard_some : (s : SessionFields) (octets : List ℕ) → AreOctets octets → (inputs : List Came) × Hears s octets inputs
heard_some s octets h = heard_below (length octets + 1) s octets (omega arith) h
