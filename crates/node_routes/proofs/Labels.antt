-- The labels of routes that are heard have 20 bits where octets are below 256.
use Rattle.std.proofs.Common.{ℕ, Bool, List, [], ◌∷◌, Option, Some, None, take, sym, ap, subst, arith}
use Rattle.ov_types.specs.declared.prefix.Addr.{Addr}
use Rattle.bgp_wire.specs.declared.fault.WireFault.{WireFault}
use Rattle.bgp_wire.specs.Content.{Content, UpdateFields, Opens, Updates, Notifies, KeepsAlive}
use Rattle.bgp_wire.specs.Messages.{AreOctets, IsMessage}
use Rattle.bgp_wire.specs.Opens.{is_wide}
use Rattle.bgp_wire.proofs.Octets.{AreOctets-take, AreOctets-drop}
use Rattle.bgp_vpn.proofs.LabelLemmas.{attributes_octets, LabelsFit, labels_fit, labels_fit_both}
use Rattle.bgp_session.specs.declared.event.State.{State}
use Rattle.bgp_session.specs.declared.event.State.TheVariants.{Idle, OpenSent, OpenConfirm, Established}
use Rattle.bgp_session.specs.Happenings.{SessionFields, Happening, Passes, Sends, ComesUp, HandsOut, GoesDown, after, answer}
use Rattle.bgp_session.specs.Words.{Step, step_of}
use Rattle.bgp_session.proofs.TableLemmas.{words_of}
use Rattle.bgp_session.specs.Inputs.{Came, Opened, RightUpdate, BringsUpdate, right, wrong, Brings, open_refusal, came_by_open}
use Rattle.node_routes.specs.Hearing.{IsNext, message, fault, GoesOn, Hears, heard}
use Rattle.node_routes.specs.Taking.{handed}
use Rattle.node_routes.specs.declared.hearing.HeardRoutes.{HeardRoutes as HeardSoFar}
use Rattle.node_routes.proofs.Leading.{by_happening, Outcome}

-- what came, with labels of 20 bits
abbrev CameFits : Came → Type 0
CameFits (RightUpdate deltas) = LabelsFit deltas
CameFits _ = Unit {0}

by_update : (wide : Bool) (parts : UpdateFields) (came : Came) → AreOctets parts.attributes → BringsUpdate wide parts came → CameFits came
by_update wide parts came h (right deltas changes is) = subst CameFits (sym is) (labels_fit wide parts deltas h changes)
by_update wide parts came h (wrong f has is) = subst CameFits (sym is) tt

by_open : (wide : Bool) (o : Option WireFault) → CameFits (came_by_open wide o)
by_open wide None = tt
by_open wide (Some f) = tt

by_message : (asn : ℕ) (peer : Addr) (wide : Bool) (octets : List ℕ) (content : Content) (came : Came) → AreOctets octets
    → IsMessage octets content → Brings asn peer wide content came → CameFits came
by_message asn peer wide octets (Opens fields) came h m is =
    subst CameFits (sym is) (by_open (is_wide fields) (open_refusal asn peer fields))
by_message asn peer wide octets (Updates parts) came h m brings =
    by_update wide parts came (attributes_octets octets parts h m) brings
by_message asn peer wide octets (Notifies code subcode) came h m is = subst CameFits (sym is) tt
by_message asn peer wide octets KeepsAlive came h m is = subst CameFits (sym is) tt

next_fits : (s : SessionFields) (octets : List ℕ) (came : Came) (rest : List ℕ) → AreOctets octets → IsNext s octets came rest → CameFits came
next_fits s octets came rest h (message m) =
    by_message s.asn s.peer.address s.wide (take m.length octets) m.content came (AreOctets-take m.length octets h) m.begins.message m.brings
next_fits s octets came rest h (fault f) = subst CameFits (sym f.came_is) tt

no_octets : AreOctets []
no_octets k = omega arith

pub rest_octets : (s : SessionFields) (octets : List ℕ) (came : Came) (rest : List ℕ) → AreOctets octets → IsNext s octets came rest → AreOctets rest
rest_octets s octets came rest h (message m) = subst AreOctets (sym m.rest_is) (AreOctets-drop m.length octets h)
rest_octets s octets came rest h (fault f) = subst AreOctets (sym f.rest_is) no_octets

-- what is handed out came
in_idle : (came : Came) → LabelsFit (handed (step_of Idle came).1)
in_idle Opened = tt
in_idle _ = tt

in_open_sent : (came : Came) → LabelsFit (handed (step_of OpenSent came).1)
in_open_sent Opened = tt
in_open_sent _ = tt

in_open_confirm : (came : Came) → LabelsFit (handed (step_of OpenConfirm came).1)
in_open_confirm Opened = tt
in_open_confirm _ = tt

in_established : (came : Came) → CameFits came → LabelsFit (handed (step_of Established came).1)
in_established (RightUpdate deltas) fits = fits
in_established _ fits = tt

by_words : (state : State) (came : Came) → CameFits came → LabelsFit (handed (step_of state came).1)
by_words Idle came fits = in_idle came
by_words OpenSent came fits = in_open_sent came
by_words OpenConfirm came fits = in_open_confirm came
by_words Established came fits = in_established came fits

handed_fit : (s : SessionFields) (came : Came) → CameFits came → LabelsFit (handed (answer s came))
handed_fit s came fits =
    subst (λ (h : Happening). LabelsFit (handed h)) (sym (ap (λ (p : Step). p.1) (words_of s.state came))) (by_words s.state came fits)

with_others : (id : Addr) (s : SessionFields) (came : Came) (more : List Came) (Then : Type 0) (h : Happening) → LabelsFit (handed h)
    → GoesOn h more Then → (Then → LabelsFit (heard id (after s came) more).changes) → LabelsFit (by_happening id s came more h).changes
with_others id s came more Then Passes fits goes others = others goes
with_others id s came more Then (Sends r) fits goes others = others goes
with_others id s came more Then ComesUp fits goes others = others goes
with_others id s came more Then (HandsOut changes) fits goes others =
    labels_fit_both changes (heard id (after s came) more).changes fits (others goes)
with_others id s came more Then (GoesDown cause code) fits goes others = tt

labels_heard : (id : Addr) (s : SessionFields) (octets : List ℕ) (inputs : List Came) → AreOctets octets → Hears s octets inputs
    → LabelsFit (heard id s inputs).changes
labels_heard id s octets [] h hears = tt
labels_heard id s octets (came ∷ more) h hears =
    with_others id s came more (Hears (after s came) hears.0 more) (answer s came)
    (handed_fit s came (next_fits s octets came hears.0 h hears.1)) hears.2
    (labels_heard id (after s came) hears.0 more (rest_octets s octets came hears.0 h hears.1))

pub labels_of : (id : Addr) (s : SessionFields) (octets : List ℕ) (w : HeardSoFar) (state : State) (wide : Bool) → AreOctets octets
    → Outcome id s octets w state wide → LabelsFit w.changes.items
labels_of id s octets w state wide h o = subst LabelsFit (sym o.3) (labels_heard id s octets o.0 h o.1)
