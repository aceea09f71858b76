-- Bodies: a body says one thing, or has one fault, and never both.
use Rattle.std.proofs.Common.{◌≡◌, ◌<◌, ◌≤◌, ℕ, ◌+◌, ◌^◌, List, [], ◌∷◌, ◌++◌, length, take, drop, refl, ap, sym, ◌∙◌, arith, subst, inl, inr, ◌⊎◌, Option, Some, None}
use Rattle.std.specs.Option.{MatchOption}
use Rattle.std.proofs.lemmas.Bool.{eq-eqb, ne_eqb, not_from_true, or_from, le-ltb, ltb-false}
use Rattle.std.proofs.lemmas.List.{nil_from_length, drop_at, take_at, length-append, drop-drop}
use Rattle.byteorder.specs.Endian.{big_bytes, big_number}
use Rattle.byteorder.specs.Numbers.{big_number-reads_back}
use Rattle.bgp_wire.specs.declared.fault.WireFault.{WireFault}
use Rattle.bgp_wire.specs.declared.kind.MessageKind.{MessageKind}
use Rattle.bgp_wire.specs.declared.kind.MessageKind.TheVariants.{Open, Update, Notification, Keepalive}
use Rattle.bgp_wire.specs.Content.{OpenFields, UpdateFields, Content, Opens, Updates, Notifies, KeepsAlive}
use Rattle.bgp_wire.specs.Parts.{Part}
use Rattle.bgp_wire.specs.Capabilities.{parameters_in}
use Rattle.bgp_wire.specs.Opens.{parameters_octets, HasFaultyParameter, IsOpen, open_fault, version_at, my_as_at, hold_at, id_at, parameters_length_at, HasOpenFault}
use Rattle.bgp_wire.specs.Updates.{IsUpdate, update_fault, withdrawn_length_at, attributes_length_at}
use Rattle.bgp_wire.specs.Frames.{least, greatest}
use Rattle.bgp_wire.specs.Messages.{AreOctets, IsBody, HasBodyFault}
use Rattle.bgp_wire.proofs.Checking.{pass_both, both_pass, fault_if-None, fault_if-false}
use Rattle.bgp_wire.proofs.WholeParts.{parameters_held, are_parameters}
use Rattle.bgp_wire.proofs.OpenBodies.{shape, Passes, open_is}
use Rattle.bgp_wire.proofs.UpdateBodies.{update_is}
use Rattle.bgp_wire.proofs.Exclusion.{never_both_parameters, one_faulty_parameter, parameters_or_fault}

-- the octets of an OPEN's body with these fields
abbrev spelled_open : OpenFields → List ℕ
spelled_open p = shape 4 (big_bytes 2 p.my_as) (big_bytes 2 p.hold) (big_bytes 4 p.id) (length (parameters_octets p.parameters)) (parameters_octets p.parameters)

asn_back : (p : OpenFields) → p.my_as < 2 ^ 16 → my_as_at (spelled_open p) ≡ p.my_as
asn_back p small = big_number-reads_back 2 p.my_as (drop 3 (spelled_open p)) small

hold_back : (p : OpenFields) → p.hold < 2 ^ 16 → hold_at (spelled_open p) ≡ p.hold
hold_back p small = big_number-reads_back 2 p.hold (drop 5 (spelled_open p)) small

id_back : (p : OpenFields) → p.id < 2 ^ 32 → id_at (spelled_open p) ≡ p.id
id_back p small = big_number-reads_back 4 p.id (drop 9 (spelled_open p)) small

-- an OPEN's body passes its checks, and has its fields at their places
record OpenBack (body : List ℕ) (p : OpenFields) : Type 0 where
  none : open_fault body ≡ None
  my_as : my_as_at body ≡ p.my_as
  hold : hold_at body ≡ p.hold
  id : id_at body ≡ p.id
  parameters : drop 10 body ≡ parameters_octets p.parameters

open_none : (body : List ℕ) → Passes body → open_fault body ≡ None
open_none body passes =
    both_pass _ _ (fault_if-false _ _ (not_from_true _ (eq-eqb (version_at body) 4 passes.version)))
    (both_pass _ _ (fault_if-false _ _ (or_from _ _ (ne_eqb (hold_at body) 1 passes.no_one) (ne_eqb (hold_at body) 2 passes.no_two)))
    (both_pass _ _ (fault_if-false _ _ (ne_eqb (id_at body) 0 passes.identifier))
    (fault_if-false _ _ (not_from_true _ (eq-eqb (10 + parameters_length_at body) (length body) passes.fills)))))

spelled_back : (body : List ℕ) (p : OpenFields) → IsOpen body p → OpenBack (spelled_open p) p
spelled_back body p is =
    let asn = asn_back p is.my_as in
    let hold = hold_back p is.hold in
    let id = id_back p is.id in
    record {
      none = open_none (spelled_open p) (record {
        version = refl;
        no_one = λ e. is.hold_time.0 (sym hold ∙ e);
        no_two = λ e. is.hold_time.1 (sym hold ∙ e);
        identifier = λ e. is.identifier (sym id ∙ e);
        fills = omega arith;
      });
      my_as = asn;
      hold = hold;
      id = id;
      parameters = refl;
    }

open_back : (body : List ℕ) (p : OpenFields) → IsOpen body p → OpenBack body p
open_back body p is = subst (λ (b : List ℕ). OpenBack b p) (sym is.spelled) (spelled_back body p is)

abbrev fields_of : ℕ → ℕ → ℕ → List (List Part) → OpenFields
fields_of asn hold id parameters = record { my_as = asn; hold = hold; id = id; parameters = parameters }

one_open : (body : List ℕ) (p q : OpenFields) → IsOpen body p → IsOpen body q → p ≡ q
one_open body p q a b =
    let x = open_back body p a in
    let y = open_back body q b in
    let octets : parameters_octets p.parameters ≡ parameters_octets q.parameters = sym x.parameters ∙ y.parameters in
    let parameters = sym (parameters_held p.parameters) ∙ ap parameters_in octets ∙ parameters_held q.parameters in
    ap (λ (n : ℕ). fields_of n p.hold p.id p.parameters) (sym x.my_as ∙ y.my_as)
    ∙ ap (λ (n : ℕ). fields_of q.my_as n p.id p.parameters) (sym x.hold ∙ y.hold)
    ∙ ap (λ (n : ℕ). fields_of q.my_as q.hold n p.parameters) (sym x.id ∙ y.id)
    ∙ ap (fields_of q.my_as q.hold q.id) parameters

-- where no check fails, a fault is one of the parameters
faulty_parameters : (body : List ℕ) (f : WireFault) → open_fault body ≡ None → HasOpenFault body f → HasFaultyParameter (drop 10 body) f
faulty_parameters body f none fault =
    let P : Option WireFault → Type 0 = λ o. MatchOption o (HasFaultyParameter (drop 10 body) f) (λ first. first ≡ f) in
    subst P none fault

first_fault : (body : List ℕ) (f g : WireFault) → open_fault body ≡ Some f → HasOpenFault body g → f ≡ g
first_fault body f g some fault =
    let P : Option WireFault → Type 0 = λ o. MatchOption o (HasFaultyParameter (drop 10 body) g) (λ first. first ≡ g) in
    subst P some fault

never_open_and_fault : (body : List ℕ) (p : OpenFields) (f : WireFault) → IsOpen body p → HasOpenFault body f → ⊥
never_open_and_fault body p f is fault =
    let back = open_back body p is in
    never_both_parameters (parameters_octets p.parameters) f (are_parameters p.parameters is.parameters)
    (subst (λ (r : List ℕ). HasFaultyParameter r f) back.parameters (faulty_parameters body f back.none fault))

one_open_fault_of : (body : List ℕ) (f g : WireFault) (o : Option WireFault) → open_fault body ≡ o → HasOpenFault body f → HasOpenFault body g → f ≡ g
one_open_fault_of body f g None is a b = one_faulty_parameter (drop 10 body) f g (faulty_parameters body f is a) (faulty_parameters body g is b)
one_open_fault_of body f g (Some h) is a b = sym (first_fault body h f is a) ∙ first_fault body h g is b

open_or_fault_of : (body : List ℕ) (o : Option WireFault) → AreOctets body → 10 ≤ length body → open_fault body ≡ o
    → ((p : OpenFields) × IsOpen body p) ⊎ ((f : WireFault) × HasOpenFault body f)
open_or_fault_of body (Some f) octets ten is =
    let P : Option WireFault → Type 0 = λ o. MatchOption o (HasFaultyParameter (drop 10 body) f) (λ first. first ≡ f) in
    inr (f, subst P (sym is) refl)
open_or_fault_of body None octets ten is = elim (parameters_or_fault (drop 10 body)) [
  | inl whole ↦
      let p = fields_of (my_as_at body) (hold_at body) (id_at body) (parameters_in (drop 10 body)) in
      inl (p, open_is body p octets ten is whole refl refl refl refl)
  | inr faulty ↦
      let P : Option WireFault → Type 0 = λ o. MatchOption o (HasFaultyParameter (drop 10 body) faulty.0) (λ first. first ≡ faulty.0) in
      inr (faulty.0, subst P (sym is) faulty.1)
]

-- an UPDATE's body passes its checks, and has its parts at their places
record UpdateBack (body : List ℕ) (u : UpdateFields) : Type 0 where
  none : update_fault body ≡ None
  withdrawn : u.withdrawn ≡ take (withdrawn_length_at body) (drop 2 body)
  attributes : u.attributes ≡ take (attributes_length_at body) (drop (4 + withdrawn_length_at body) body)
  routes : u.routes ≡ drop (4 + withdrawn_length_at body + attributes_length_at body) body

abbrev sized_part : List ℕ → List ℕ → List ℕ
sized_part part rest = big_bytes 2 (length part) ++ part ++ rest

sized_len : (part rest : List ℕ) → length part < 2 ^ 16 → big_number 2 (sized_part part rest) ≡ length part
sized_len part rest small = big_number-reads_back 2 (length part) (part ++ rest) small

spelled_update_back : (w a r : List ℕ) → length w < 2 ^ 16 → length a < 2 ^ 16
    → UpdateBack (sized_part w (sized_part a r)) (record { withdrawn = w; attributes = a; routes = r })
spelled_update_back w a r small small_too =
    let inner = sized_part a r in
    let body = sized_part w inner in
    let wl = withdrawn_length_at body in
    let al = attributes_length_at body in
    let first : wl ≡ length w = sized_len w inner small in
    let behind : drop (2 + wl) body ≡ inner =
    sym (drop-drop wl 2 body) ∙ ap (λ (n : ℕ). drop n (w ++ inner)) first ∙ drop_at w inner (length w) refl in
    let second : al ≡ length a = ap (big_number 2) behind ∙ sized_len a r small_too in
    let size : length body ≡ 4 + length w + (length a + length r) = omega (arith, length-append w inner, length-append a r) in
    let places : 4 + wl ≡ (2 + wl) + 2 = omega arith in
    let deep : drop (4 + wl) body ≡ a ++ r = ap (λ (n : ℕ). drop n body) places ∙ sym (drop-drop 2 (2 + wl) body) ∙ ap (drop 2) behind in
    record {
      none = both_pass _ _ (fault_if-false _ _ (le-ltb (length body) (4 + wl) (omega arith)))
          (fault_if-false _ _ (le-ltb (length body) (4 + wl + al) (omega arith)));
      withdrawn = sym (ap (λ (n : ℕ). take n (w ++ inner)) first ∙ take_at w inner (length w) refl);
      attributes = sym (ap (λ (n : ℕ). take n (drop (4 + wl) body)) second ∙ ap (take (length a)) deep ∙ take_at a r (length a) refl);
      routes = sym (sym (drop-drop al (4 + wl) body) ∙ ap (λ (n : ℕ). drop n (drop (4 + wl) body)) second ∙ ap (drop (length a)) deep ∙ drop_at a r (length a) refl);
    }

update_back : (body : List ℕ) (u : UpdateFields) → IsUpdate body u → UpdateBack body u
update_back body u is = subst (λ (b : List ℕ). UpdateBack b u) (sym is.spelled)
    (spelled_update_back u.withdrawn u.attributes u.routes is.withdrawn_length is.attributes_length)

abbrev parts_of : List ℕ → List ℕ → List ℕ → UpdateFields
parts_of withdrawn attributes routes = record { withdrawn = withdrawn; attributes = attributes; routes = routes }

one_update : (body : List ℕ) (u v : UpdateFields) → IsUpdate body u → IsUpdate body v → u ≡ v
one_update body u v a b =
    let x = update_back body u a in
    let y = update_back body v b in
    ap (λ (w : List ℕ). parts_of w u.attributes u.routes) (x.withdrawn ∙ sym y.withdrawn)
    ∙ ap (λ (w : List ℕ). parts_of v.withdrawn w u.routes) (x.attributes ∙ sym y.attributes)
    ∙ ap (parts_of v.withdrawn v.attributes) (x.routes ∙ sym y.routes)

never_update_and_fault : (body : List ℕ) (u : UpdateFields) (f : WireFault) → IsUpdate body u → update_fault body ≡ Some f → ⊥
never_update_and_fault body u f is fault = let none = (update_back body u is).none in cc

update_or_fault_of : (body : List ℕ) (o : Option WireFault) → AreOctets body → update_fault body ≡ o
    → ((u : UpdateFields) × IsUpdate body u) ⊎ ((f : WireFault) × (update_fault body ≡ Some f))
update_or_fault_of body (Some f) octets is = inr (f, is)
update_or_fault_of body None octets is =
    let n = withdrawn_length_at body in
    let m = attributes_length_at body in
    let passes = pass_both _ _ is in
    let room = ltb-false (length body) (4 + n) (fault_if-None _ _ passes.0) in
    let more_room = ltb-false (length body) (4 + n + m) (fault_if-None _ _ passes.1) in
    let rest = drop n (drop 2 body) in
    inl (
      parts_of (take n (drop 2 body)) (take m (drop 2 rest)) (drop m (drop 2 rest)),
      update_is body (take n (drop 2 body)) rest (take m (drop 2 rest)) (drop m (drop 2 rest)) n m octets refl room refl refl
          (ap (big_number 2) (sym (drop-drop n 2 body))) more_room refl refl,
    )

-- a body says one thing
pub one_content : (kind : MessageKind) (body : List ℕ) (c d : Content) → IsBody kind body c → IsBody kind body d → c ≡ d
one_content kind body (Opens p) (Opens q) a b = ap Opens (one_open body p q a.1 b.1)
one_content kind body (Updates u) (Updates v) a b = ap Updates (one_update body u v a.1 b.1)
one_content kind body (Notifies c s) (Notifies d t) a b = let x = a.1.1 in let y = b.1.1 in cc
one_content kind body KeepsAlive KeepsAlive a b = refl
one_content kind body (Opens p) (Updates v) a b = let x = a.0 in let y = b.0 in cc
one_content kind body (Opens p) (Notifies d t) a b = let x = a.0 in let y = b.0 in cc
one_content kind body (Opens p) KeepsAlive a b = let x = a.0 in let y = b.0 in cc
one_content kind body (Updates u) (Opens q) a b = let x = a.0 in let y = b.0 in cc
one_content kind body (Updates u) (Notifies d t) a b = let x = a.0 in let y = b.0 in cc
one_content kind body (Updates u) KeepsAlive a b = let x = a.0 in let y = b.0 in cc
one_content kind body (Notifies c s) (Opens q) a b = let x = a.0 in let y = b.0 in cc
one_content kind body (Notifies c s) (Updates v) a b = let x = a.0 in let y = b.0 in cc
one_content kind body (Notifies c s) KeepsAlive a b = let x = a.0 in let y = b.0 in cc
one_content kind body KeepsAlive (Opens q) a b = let x = a.0 in let y = b.0 in cc
one_content kind body KeepsAlive (Updates v) a b = let x = a.0 in let y = b.0 in cc
one_content kind body KeepsAlive (Notifies d t) a b = let x = a.0 in let y = b.0 in cc

-- a body that says something has no fault
pub never_content_and_fault : (kind : MessageKind) (body : List ℕ) (c : Content) (f : WireFault) → IsBody kind body c → HasBodyFault kind body f → ⊥
never_content_and_fault Open body (Opens p) f is fault = never_open_and_fault body p f is.1 fault
never_content_and_fault Open body (Updates u) f is fault = let e = is.0 in cc
never_content_and_fault Open body (Notifies c s) f is fault = let e = is.0 in cc
never_content_and_fault Open body KeepsAlive f is fault = let e = is.0 in cc
never_content_and_fault Update body (Opens p) f is fault = let e = is.0 in cc
never_content_and_fault Update body (Updates u) f is fault = never_update_and_fault body u f is.1 fault
never_content_and_fault Update body (Notifies c s) f is fault = let e = is.0 in cc
never_content_and_fault Update body KeepsAlive f is fault = let e = is.0 in cc
never_content_and_fault Notification body c f is fault = fault
never_content_and_fault Keepalive body c f is fault = fault

-- a body has one fault
pub one_body_fault : (kind : MessageKind) (body : List ℕ) (f g : WireFault) → HasBodyFault kind body f → HasBodyFault kind body g → f ≡ g
one_body_fault Open body f g a b = one_open_fault_of body f g (open_fault body) refl a b
one_body_fault Update body f g a b = cc
one_body_fault Notification body f g a b = absurd a
one_body_fault Keepalive body f g a b = absurd a

abbrev Says : MessageKind → List ℕ → Type 0
Says kind body = (c : Content) × IsBody kind body c

abbrev Fails : MessageKind → List ℕ → Type 0
Fails kind body = (f : WireFault) × HasBodyFault kind body f

said_open : (body : List ℕ) → ((p : OpenFields) × IsOpen body p) ⊎ ((f : WireFault) × HasOpenFault body f) → Says Open body ⊎ Fails Open body
said_open body (inl is) = inl (Opens is.0, (refl, is.1))
said_open body (inr fault) = inr fault

said_update : (body : List ℕ) → ((u : UpdateFields) × IsUpdate body u) ⊎ ((f : WireFault) × (update_fault body ≡ Some f)) → Says Update body ⊎ Fails Update body
said_update body (inl is) = inl (Updates is.0, (refl, is.1))
said_update body (inr fault) = inr fault

said_notification : (body : List ℕ) → 2 ≤ length body → Says Notification body
said_notification [] h = absurd (omega arith)
said_notification (c ∷ []) h = absurd (omega arith)
said_notification (c ∷ s ∷ further) h = (Notifies c s, (refl, (further, refl)))

-- a body of a length that suits says something or has a fault
pub content_or_fault : (kind : MessageKind) (body : List ℕ) → AreOctets body → least kind ≤ 19 + length body → 19 + length body ≤ greatest kind
    → Says kind body ⊎ Fails kind body
content_or_fault Open body octets low high = said_open body (open_or_fault_of body (open_fault body) octets (omega arith) refl)
content_or_fault Update body octets low high = said_update body (update_or_fault_of body (update_fault body) octets refl)
content_or_fault Notification body octets low high = inl (said_notification body (omega arith))
content_or_fault Keepalive body octets low high = inl (KeepsAlive, (refl, nil_from_length body (omega arith)))
