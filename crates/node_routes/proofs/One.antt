-- What octets bring is one thing.
use Rattle.std.proofs.Common.{◌≡◌, ◌≢◌, ◌<◌, ◌≤◌, ◌^◌, Bool, true, ℕ, List, [], ◌∷◌, ◌++◌, length, drop, refl, sym, ◌∙◌, ap, subst, arith}
use Rattle.std.proofs.Math.Seq.{drop-append_seam}
use Rattle.std.specs.List.{flat_map}
use Rattle.ov_types.specs.declared.vpn.VpnKey.{VpnKey}
use Rattle.ov_types.specs.declared.vpn.VpnRoute.{VpnRoute}
use Rattle.ov_sync.specs.declared.Delta.{Delta}
use Rattle.ov_sync.specs.declared.Delta.TheVariants.{Put, Drop}
use Rattle.ov_sync.specs.Embed.{moved_delta}
use Rattle.bgp_wire.specs.Attributes.{attribute_octets}
use Rattle.bgp_wire.specs.Content.{Content, Opens, Notifies, KeepsAlive}
use Rattle.bgp_wire.specs.Frames.{IsProperPrefix}
use Rattle.bgp_wire.specs.Messages.{IsMessage}
use Rattle.bgp_wire.specs.declared.write.OpenOut.{OpenOut}
use Rattle.bgp_wire.specs.Spelling.{spelling, open_fields}
use Rattle.bgp_wire.proofs.Readings.{one_message, one_fault, never_message_and_prefix, never_message_and_fault, never_prefix_and_fault}
use Rattle.bgp_wire.proofs.Numbering.{own_asn}
use Rattle.bgp_wire.proofs.Spelling.{read_again, keepalive_says, notification_says, open_says, attributes_say}
use Rattle.bgp_vpn.specs.Updates.{Changes}
use Rattle.bgp_vpn.specs.Written.{IfPut, written, written_parts, attributes_of}
use Rattle.bgp_vpn.proofs.WrittenUpdates.{drop_changes, put_changes, drop_length, put_length}
use Rattle.bgp_session.specs.Happenings.{SessionFields, Happening, Passes, Sends, ComesUp, HandsOut, GoesDown, after, answer}
use Rattle.bgp_session.specs.Inputs.{Came, RightOpen, KeepaliveCame, NotificationCame, RightUpdate, BadFrame, right, Brings, came_by_open}
use Rattle.bgp_session.proofs.InputLemmas.{brings_one, right_open}
use Rattle.node_model.specs.Keys.{Vpn}
use Rattle.node_model.specs.Values.{Route}
use Rattle.node_routes.specs.Hearing.{IsNext, message, fault, GoesOn, Hears, open_octets}
use Rattle.node_routes.specs.First.{BringFirst, ChangeFitsItsTypes}
use Rattle.node_routes.specs.Told.{IsWritable, spelled}

pub next_one : (s : SessionFields) (octets : List ℕ) (a b : Came) (r q : List ℕ) → IsNext s octets a r → IsNext s octets b q → (a ≡ b) × (r ≡ q)
next_one s octets a b r q (message m) (message n) =
    let same = one_message octets m.content n.content m.length n.length m.begins n.begins in (
      brings_one s.asn s.peer.address s.wide n.content a b (subst (λ (c : Content). Brings s.asn s.peer.address s.wide c a) same.0 m.brings) n.brings,
      m.rest_is ∙ ap (λ (k : ℕ). drop k octets) same.1 ∙ sym n.rest_is,
    )
next_one s octets a b r q (message m) (fault f) = absurd (never_message_and_fault octets m.content m.length f.fault m.begins f.has)
next_one s octets a b r q (fault f) (message m) = absurd (never_message_and_fault octets m.content m.length f.fault m.begins f.has)
next_one s octets a b r q (fault f) (fault g) =
    (f.came_is ∙ ap BadFrame (one_fault octets f.fault g.fault f.has g.has) ∙ sym g.came_is, f.rest_is ∙ sym g.rest_is)

never_next_and_prefix : (s : SessionFields) (octets : List ℕ) (a : Came) (r : List ℕ) → IsNext s octets a r → IsProperPrefix octets → ⊥
never_next_and_prefix s octets a r (message m) prefix = never_message_and_prefix octets m.content m.length m.begins prefix
never_next_and_prefix s octets a r (fault f) prefix = never_prefix_and_fault octets f.fault prefix f.has

goes_one : (h : Happening) (a b : List Came) (Then Other : Type 0) → (Then → Other → a ≡ b) → GoesOn h a Then → GoesOn h b Other → a ≡ b
goes_one Passes a b Then Other f x y = f x y
goes_one (Sends r) a b Then Other f x y = f x y
goes_one ComesUp a b Then Other f x y = f x y
goes_one (HandsOut changes) a b Then Other f x y = f x y
goes_one (GoesDown cause code) a b Then Other f x y = x ∙ sym y

pub hears_one : (s : SessionFields) (octets : List ℕ) (a b : List Came) → Hears s octets a → Hears s octets b → a ≡ b
hears_one s octets [] [] x y = refl
hears_one s octets [] (d ∷ b) x y = absurd (never_next_and_prefix s octets d y.0 y.1 x)
hears_one s octets (c ∷ a) [] x y = absurd (never_next_and_prefix s octets c x.0 x.1 y)
hears_one s octets (c ∷ a) (d ∷ b) x y =
    let same = next_one s octets c d x.0 y.0 x.1 y.1 in
    let first : GoesOn (answer s d) a (Hears (after s d) x.0 a) =
    subst (λ (e : Came). GoesOn (answer s e) a (Hears (after s e) x.0 a)) same.0 x.2 in
    let second : GoesOn (answer s d) a (Hears (after s d) y.0 a) =
    subst (λ (r : List ℕ). GoesOn (answer s d) a (Hears (after s d) r a)) same.1 first in
    ap (λ (e : Came). e ∷ a) same.0
    ∙ ap (λ (l : List Came). d ∷ l)
    (goes_one (answer s d) a b (Hears (after s d) y.0 a) (Hears (after s d) y.0 b) (hears_one (after s d) y.0 a b) second y.2)

brings_first : (s : SessionFields) (content : Content) (came : Came) (more : List ℕ) → IsMessage (spelling content) content
    → Brings s.asn s.peer.address s.wide content came → BringFirst s (spelling content ++ more) came more
brings_first s content came more says brings =
    let next : IsNext s (spelling content ++ more) came more = message (record {
      content = content;
      length = length (spelling content);
      begins = read_again content says more;
      brings = brings;
      rest_is = sym (drop-append_seam (spelling content) more);
    }) in
    record { next = next; only = λ other left is. next_one s (spelling content ++ more) other came left more is next }

pub keepalive_first : (s : SessionFields) (more : List ℕ) → BringFirst s (spelling KeepsAlive ++ more) KeepaliveCame more
keepalive_first s more = brings_first s KeepsAlive KeepaliveCame more keepalive_says refl

pub notification_first : (s : SessionFields) (code subcode : ℕ) (more : List ℕ)
    → BringFirst s (spelling (Notifies code subcode) ++ more) (NotificationCame code subcode) more
notification_first s code subcode more =
    brings_first s (Notifies code subcode) (NotificationCame code subcode) more (notification_says code subcode) refl

pub open_first : (s : SessionFields) (more : List ℕ) → s.asn < 2 ^ 32 → s.peer.address.0 < 2 ^ 32 → s.peer.address.0 ≢ 0
    → BringFirst s (open_octets s.asn s.peer.address ++ more) (RightOpen true) more
open_first s more asn id some =
    let part : OpenOut = record { asn = s.asn; id = s.peer.address } in
    brings_first s (Opens (open_fields part)) (RightOpen true) more (open_says part id some)
    (sym (ap (came_by_open true) ((right_open s.asn s.peer.address (open_fields part)).1 (own_asn part asn, refl))))

changes_again : (wide : Bool) (d : Delta VpnKey VpnRoute) → IfPut d IsWritable → ChangeFitsItsTypes d → Changes wide (written_parts d) (d ∷ [])
changes_again wide (Put k r) w fits = put_changes wide k r fits.0 fits.1.next_hop w.label fits.1.ascending w.few w.targets
changes_again wide (Drop k) w fits = drop_changes wide k fits

is_short : (d : Delta VpnKey VpnRoute) → IfPut d IsWritable → ChangeFitsItsTypes d → length (flat_map attribute_octets (attributes_of d)) ≤ 512
is_short (Put k r) w fits = put_length k r fits.0 w.few
is_short (Drop k) w fits = drop_length k fits

written_first : (s : SessionFields) (d : Delta VpnKey VpnRoute) (more : List ℕ) → IfPut d IsWritable → ChangeFitsItsTypes d
    → BringFirst s (spelling (written d) ++ more) (RightUpdate (d ∷ [])) more
written_first s d more w fits =
    brings_first s (written d) (RightUpdate (d ∷ [])) more
    (attributes_say (flat_map attribute_octets (attributes_of d)) (omega (arith, is_short d w fits)))
    (right (d ∷ []) (changes_again s.wide d w fits) refl)

pub update_first : (s : SessionFields) (d : Delta VpnKey VpnRoute) (more : List ℕ) → IfPut d IsWritable → ChangeFitsItsTypes d
    → BringFirst s (spelled (moved_delta Vpn Route d) ++ more) (RightUpdate (d ∷ [])) more
update_first s (Put k r) more w fits = written_first s (Put k r) more w fits
update_first s (Drop k) more w fits = written_first s (Drop k) more w fits
