-- Octets begin with a message, or are a proper prefix, or have a fault: one of the three, in one way.
use Rattle.std.proofs.Common.{◌≡◌, ◌≢◌, ◌<◌, ◌≤◌, ◌-◌, ℕ, ◌+◌, List, [], ◌∷◌, ◌++◌, length, take, drop, refl, ap, sym, ◌∙◌, arith, subst, inl, inr, ◌⊎◌, Option, Some, None, Bool, true, false, cond, not, nat_le, nat_lt, ◌==◌, ◌&&◌, ◌||◌}
use Rattle.std.specs.Option.{MatchOption}
use Rattle.std.specs.List.{list_all}
use Rattle.std.proofs.lemmas.List.Folds.{list_all-append}
use Rattle.std.proofs.lemmas.Bool.{cases_lt, le-ltb, ltb-false, or_parts, or_from, and_right, cond_both, le-leb, lt-leb, cond-true, cond-false, not-true, and_left, and_parts, leb-true}
use Rattle.std.proofs.lemmas.List.{append_assoc, take_all, take_at, take-append-drop, take-append-le, drop-append-le, get_or_append_left, length-append, length-take-le, length-drop, nil_from_length}
use Rattle.std.proofs.Math.Seq.{take-append-add}
use Rattle.byteorder.specs.Endian.{big_number}
use Rattle.byteorder.specs.Numbers.{big_number-reads_back, big_from-append}
use Rattle.bgp_wire.specs.declared.fault.WireFault.{WireFault}
use Rattle.bgp_wire.specs.declared.kind.MessageKind.{MessageKind}
use Rattle.bgp_wire.specs.declared.kind.MessageKind.TheVariants.{Open, Update, Notification, Keepalive}
use Rattle.bgp_wire.specs.Content.{Content}
use Rattle.bgp_wire.specs.Faults.{fault_if, ◌then_check◌, not_synchronized, bad_message_length, bad_message_type}
use Rattle.bgp_wire.specs.Frames.{octet_of, kind_of, least, greatest, head, IsFrame, length_at, kind_at, marker_fault, length_fault, kind_fault, type_fault, frame_fault, IsHeadOf, IsProperPrefix}
use Rattle.bgp_wire.specs.Messages.{AreOctets, IsBody, HasBodyFault, IsMessage, BeginsWith, HasFault, HasFaultyBody}
use Rattle.bgp_wire.proofs.Octets.{AreOctets-drop, AreOctets-take}
use Rattle.bgp_wire.proofs.Checking.{pass_both, both_pass, fault_if-None, fault_if-false, fault_if-Some}
use Rattle.bgp_wire.proofs.Framing.{frame_is, least_is, begins_with, has_fault, body_fault}
use Rattle.bgp_wire.proofs.Bodies.{one_content, never_content_and_fault, one_body_fault, content_or_fault}

greatest_is : (kind : MessageKind) → greatest kind ≤ 4096
greatest_is Open = omega arith
greatest_is Update = omega arith
greatest_is Notification = omega arith
greatest_is Keepalive = omega arith

kind_back : (kind : MessageKind) → kind_of (octet_of kind) ≡ Some kind
kind_back Open = refl
kind_back Update = refl
kind_back Notification = refl
kind_back Keepalive = refl

-- octets that begin with a frame's head pass the checks on a frame
pub record HasHead (octets : List ℕ) (kind : MessageKind) (len : ℕ) : Type 0 where
  pub none : frame_fault octets ≡ None
  pub found : IsHeadOf octets kind len

head_back : (len : ℕ) (kind : MessageKind) (rest : List ℕ) → least kind ≤ len → len ≤ greatest kind → HasHead (head len kind ++ rest) kind len
head_back len kind rest low high =
    let lower = least_is kind in
    let upper = greatest_is kind in
    let octets = head len kind ++ rest in
    let says : length_at octets ≡ len = big_number-reads_back 2 len (octet_of kind ∷ rest) (omega arith) in
    let named : kind_at octets ≡ Some kind = kind_back kind in
    let suits : kind_fault (Some kind) len ≡ None = fault_if-false _ _ (or_from _ _ (le-ltb len (least kind) low) (le-ltb (greatest kind) len high)) in
    let typed : kind_fault (kind_at octets) (length_at octets) ≡ None =
    ap (λ (k : Option MessageKind). kind_fault k (length_at octets)) named ∙ ap (λ (n : ℕ). kind_fault (Some kind) n) says ∙ suits in
    record {
      none =
          both_pass (marker_fault octets) (length_fault octets then_check type_fault octets) refl
          (both_pass (length_fault octets) (type_fault octets)
          (fault_if-false _ _ (and_right _ _ (or_from _ _ (le-ltb (length_at octets) 19 (omega arith)) (le-ltb 4096 (length_at octets) (omega arith)))))
          (cond_both _ _ _ (λ (o : Option WireFault). o ≡ None) (λ e. typed) (λ e. refl)));
      found = record { there = omega arith; kind_is = named; len_is = says };
    }

-- a whole frame with this body begins the octets
pub record HasFrame (octets : List ℕ) (kind : MessageKind) (body : List ℕ) : Type 0 where
  pub none : frame_fault octets ≡ None
  pub found : IsHeadOf octets kind (19 + length body)
  pub enough : 19 + length body ≤ length octets
  pub body_is : body ≡ take (length body) (drop 19 octets)
  pub low : least kind ≤ 19 + length body
  pub high : 19 + length body ≤ greatest kind

spelled_frame : (kind : MessageKind) (body more : List ℕ) → least kind ≤ 19 + length body → 19 + length body ≤ greatest kind
    → HasFrame (head (19 + length body) kind ++ (body ++ more)) kind body
spelled_frame kind body more low high =
    let back = head_back (19 + length body) kind (body ++ more) low high in
    record {
      none = back.none;
      found = back.found;
      enough = omega (arith, length-append body more);
      body_is = sym (take_at body more (length body) refl);
      low = low;
      high = high;
    }

pub has_frame : (octets frame more body : List ℕ) (kind : MessageKind) → octets ≡ frame ++ more → IsFrame frame kind body → HasFrame octets kind body
has_frame octets frame more body kind split is =
    let e : octets ≡ head (19 + length body) kind ++ (body ++ more) =
    split ∙ ap (λ (f : List ℕ). f ++ more) is.spelled ∙ append_assoc (head (19 + length body) kind) body more in
    subst (λ (o : List ℕ). HasFrame o kind body) (sym e) (spelled_frame kind body more is.least_length is.greatest_length)

some_kind : (j k : MessageKind) → Some j ≡ Some k → j ≡ k
some_kind j k h = cc

pub one_kind : (octets b d : List ℕ) (j k : MessageKind) → HasFrame octets j b → HasFrame octets k d → j ≡ k
one_kind octets b d j k x y = some_kind j k (sym x.found.kind_is ∙ y.found.kind_is)

pub one_length : (octets b d : List ℕ) (j k : MessageKind) → HasFrame octets j b → HasFrame octets k d → length b ≡ length d
one_length octets b d j k x y = let e = sym x.found.len_is ∙ y.found.len_is in omega arith

pub one_body : (octets b d : List ℕ) (j k : MessageKind) → HasFrame octets j b → HasFrame octets k d → b ≡ d
one_body octets b d j k x y =
    x.body_is ∙ ap (λ (n : ℕ). take n (drop 19 octets)) (one_length octets b d j k x y) ∙ sym y.body_is

-- the frame of a message that the octets begin with
pub begins_framed : (octets : List ℕ) (c : Content) (n : ℕ) (begins : BeginsWith octets c n)
    → HasFrame octets begins.message.kind begins.message.body
begins_framed octets c n begins =
    has_frame octets (take n octets) (drop n octets) begins.message.body begins.message.kind (sym (take-append-drop n octets)) begins.message.frame

begins_len : (octets : List ℕ) (c : Content) (n : ℕ) (begins : BeginsWith octets c n) → n ≡ 19 + length begins.message.body
begins_len octets c n begins =
    let whole = length-take-le n octets begins.within in
    let spelled = ap length begins.message.frame.spelled in
    omega arith

pub faulty_framed : (octets : List ℕ) (f : WireFault) (faulty : HasFaultyBody octets f) → HasFrame octets faulty.kind faulty.body
faulty_framed octets f faulty = has_frame octets faulty.frame faulty.more faulty.body faulty.kind faulty.spelled faulty.whole

-- octets begin with one message
pub one_message : (octets : List ℕ) (c d : Content) (n m : ℕ) → BeginsWith octets c n → BeginsWith octets d m → (c ≡ d) × (n ≡ m)
one_message octets c d n m a b =
    let x = begins_framed octets c n a in
    let y = begins_framed octets d m b in
    let kinds = one_kind octets a.message.body b.message.body a.message.kind b.message.kind x y in
    let bodies = one_body octets a.message.body b.message.body a.message.kind b.message.kind x y in
    let lengths = ap length bodies in
    let P : MessageKind → Type 0 = λ k. IsBody k a.message.body c in
    let Q : List ℕ → Type 0 = λ o. IsBody b.message.kind o c in
    let says : IsBody b.message.kind b.message.body c = subst Q bodies (subst P kinds a.message.says) in
    let first = begins_len octets c n a in
    let second = begins_len octets d m b in
    (one_content b.message.kind b.message.body c d says b.message.says, omega arith)

framed_never_prefix : (octets body : List ℕ) (kind : MessageKind) → HasFrame octets kind body → IsProperPrefix octets → ⊥
framed_never_prefix octets body kind framed prefix = elim prefix.short [
  | inl few ↦ let there = framed.found.there in omega arith
  | inr few ↦ let len = framed.found.len_is in let enough = framed.enough in omega arith
]

pub never_message_and_prefix : (octets : List ℕ) (c : Content) (n : ℕ) → BeginsWith octets c n → IsProperPrefix octets → ⊥
never_message_and_prefix octets c n begins prefix =
    framed_never_prefix octets begins.message.body begins.message.kind (begins_framed octets c n begins) prefix

-- where the frame has no fault, a fault is one of a body
faulty_body : (octets : List ℕ) (f : WireFault) → frame_fault octets ≡ None → HasFault octets f → HasFaultyBody octets f
faulty_body octets f none fault =
    let P : Option WireFault → Type 0 = λ o. MatchOption o (HasFaultyBody octets f) (λ first. first ≡ f) in
    subst P none fault

first_fault : (octets : List ℕ) (f g : WireFault) → frame_fault octets ≡ Some f → HasFault octets g → f ≡ g
first_fault octets f g some fault =
    let P : Option WireFault → Type 0 = λ o. MatchOption o (HasFaultyBody octets g) (λ first. first ≡ g) in
    subst P some fault

pub never_message_and_fault : (octets : List ℕ) (c : Content) (n : ℕ) (f : WireFault) → BeginsWith octets c n → HasFault octets f → ⊥
never_message_and_fault octets c n f begins fault =
    let x = begins_framed octets c n begins in
    let faulty = faulty_body octets f x.none fault in
    let y = faulty_framed octets f faulty in
    let kinds = one_kind octets begins.message.body faulty.body begins.message.kind faulty.kind x y in
    let bodies = one_body octets begins.message.body faulty.body begins.message.kind faulty.kind x y in
    let P : MessageKind → Type 0 = λ k. IsBody k begins.message.body c in
    let Q : List ℕ → Type 0 = λ o. IsBody faulty.kind o c in
    never_content_and_fault faulty.kind faulty.body c f (subst Q bodies (subst P kinds begins.message.says)) faulty.faulty

pub never_prefix_and_fault : (octets : List ℕ) (f : WireFault) → IsProperPrefix octets → HasFault octets f → ⊥
never_prefix_and_fault octets f prefix fault =
    let faulty = faulty_body octets f prefix.passes fault in
    framed_never_prefix octets faulty.body faulty.kind (faulty_framed octets f faulty) prefix

one_fault_of : (octets : List ℕ) (f g : WireFault) (o : Option WireFault) → frame_fault octets ≡ o → HasFault octets f → HasFault octets g → f ≡ g
one_fault_of octets f g (Some h) is a b = sym (first_fault octets h f is a) ∙ first_fault octets h g is b
one_fault_of octets f g None is a b =
    let p = faulty_body octets f is a in
    let q = faulty_body octets g is b in
    let x = faulty_framed octets f p in
    let y = faulty_framed octets g q in
    let kinds = one_kind octets p.body q.body p.kind q.kind x y in
    let bodies = one_body octets p.body q.body p.kind q.kind x y in
    let P : MessageKind → Type 0 = λ k. HasBodyFault k p.body f in
    let Q : List ℕ → Type 0 = λ o. HasBodyFault q.kind o f in
    one_body_fault q.kind q.body f g (subst Q bodies (subst P kinds p.faulty)) q.faulty

-- octets have one fault
pub one_fault : (octets : List ℕ) (f g : WireFault) → HasFault octets f → HasFault octets g → f ≡ g
one_fault octets f g a b = one_fault_of octets f g (frame_fault octets) refl a b

-- the octets begin with some message
abbrev pub BeginsWithMessage : List ℕ → Type 0
BeginsWithMessage octets = (c : Content) × (n : ℕ) × BeginsWith octets c n

abbrev pub HasSomeFault : List ℕ → Type 0
HasSomeFault octets = (f : WireFault) × HasFault octets f

some_kind_of : (octets : List ℕ) (k : Option MessageKind) → 19 ≤ length octets → frame_fault octets ≡ None → kind_at octets ≡ k → (kind : MessageKind) × (kind_at octets ≡ Some kind)
some_kind_of octets (Some kind) there none is = (kind, is)
some_kind_of octets None there none is =
    let first = pass_both (marker_fault octets) (length_fault octets then_check type_fault octets) none in
    let second = pass_both (length_fault octets) (type_fault octets) first.1 in
    let typed : type_fault octets ≡ Some bad_message_type =
    cond-true _ _ _ (le-leb 19 (length octets) there) ∙ ap (λ (k : Option MessageKind). kind_fault k (length_at octets)) is in
    let passed = second.1 in
    absurd cc

whole_reading : (octets : List ℕ) (kind : MessageKind) (len : ℕ) → AreOctets octets → frame_fault octets ≡ None → IsHeadOf octets kind len
    → len ≤ length octets → BeginsWithMessage octets ⊎ HasSomeFault octets
whole_reading octets kind len are none found enough =
    let frame = frame_is octets kind len are none found enough in
    let body = take (len - 19) (drop 19 octets) in
    elim (content_or_fault kind body (AreOctets-take (len - 19) (drop 19 octets) (AreOctets-drop 19 octets are)) frame.least_length frame.greatest_length) [
      | inl says ↦ inl (says.0, len, begins_with octets kind len says.0 are none found enough says.1)
      | inr fault ↦ inr (fault.0, body_fault octets kind len fault.0 are none found enough fault.1)
    ]

abbrev pub IsRead : List ℕ → Type 0
IsRead octets = BeginsWithMessage octets ⊎ (IsProperPrefix octets ⊎ HasSomeFault octets)

read_whole : (octets : List ℕ) → BeginsWithMessage octets ⊎ HasSomeFault octets → IsRead octets
read_whole octets (inl message) = inl message
read_whole octets (inr fault) = inr (inr fault)

read_of : (octets : List ℕ) (o : Option WireFault) → AreOctets octets → frame_fault octets ≡ o → IsRead octets
read_of octets (Some f) are is =
    let P : Option WireFault → Type 0 = λ o. MatchOption o (HasFaultyBody octets f) (λ first. first ≡ f) in
    inr (inr (f, subst P (sym is) refl))
read_of octets None are is = elim (cases_lt (length octets) 19) [
  | inl few ↦ inr (inl (record { passes = is; short = inl few }))
  | inr there ↦ elim (cases_lt (length octets) (length_at octets)) [
    | inl few ↦ inr (inl (record { passes = is; short = inr few }))
    | inr enough ↦
        let kind = some_kind_of octets (kind_at octets) there is refl in
        read_whole octets (whole_reading octets kind.0 (length_at octets) are is (record { there = there; kind_is = kind.1; len_is = refl }) enough)
  ]
]

pub read : (octets : List ℕ) → AreOctets octets → IsRead octets
read octets are = read_of octets (frame_fault octets) are refl

-- what follows a message does not change it
pub message_stays : (octets more : List ℕ) (c : Content) (n : ℕ) → BeginsWith octets c n → BeginsWith (octets ++ more) c n
message_stays octets more c n begins =
    let same : take n octets ≡ take n (octets ++ more) = sym (take-append-le n octets more begins.within) in
    record {
      within = let within = begins.within in omega (arith, length-append octets more);
      message = subst (λ (o : List ℕ). IsMessage o c) same begins.message;
    }

whole_message : (octets : List ℕ) (c : Content) → IsMessage octets c → BeginsWith octets c (length octets)
whole_message octets c is =
    let same : octets ≡ take (length octets) octets = sym (take_all (length octets) octets (omega arith)) in
    record { within = omega arith; message = subst (λ (o : List ℕ). IsMessage o c) same is }

-- checks whose octets are there stay as they are, whatever follows
marker_same : (octets more : List ℕ) → 16 ≤ length octets → marker_fault (octets ++ more) ≡ marker_fault octets
marker_same octets more there =
    ap (λ (front : List ℕ). fault_if (not (list_all (λ octet. octet == 255) front)) not_synchronized) (take-append-le 16 octets more there)

spoilt : (octets more : List ℕ) → list_all (λ octet. octet == 255) (take 16 octets) ≡ false → list_all (λ octet. octet == 255) (take 16 (octets ++ more)) ≡ false
spoilt octets more h = elim (cases_lt (length octets) 16) [
  | inr there ↦ ap (list_all (λ octet. octet == 255)) (take-append-le 16 octets more there) ∙ h
  | inl few ↦
      let size : 16 ≡ length octets + (16 - length octets) = omega arith in
      let front : take 16 (octets ++ more) ≡ octets ++ take (16 - length octets) more =
      ap (λ (n : ℕ). take n (octets ++ more)) size ∙ take-append-add octets more (16 - length octets) in
      let all : take 16 octets ≡ octets = take_all 16 octets (omega arith) in
      ap (list_all (λ octet. octet == 255)) front
      ∙ list_all-append (λ octet. octet == 255) octets (take (16 - length octets) more)
      ∙ and_left _ _ (ap (list_all (λ octet. octet == 255)) (sym all) ∙ h)
]

marker_stays : (octets more : List ℕ) (f : WireFault) → marker_fault octets ≡ Some f → marker_fault (octets ++ more) ≡ marker_fault octets
marker_stays octets more f is =
    let bad : list_all (λ octet. octet == 255) (take 16 octets) ≡ false = not-true _ (fault_if-Some _ _ _ is) in
    ap (λ (ones : Bool). fault_if (not ones) not_synchronized) (spoilt octets more bad ∙ sym bad)

length_at_same : (octets more : List ℕ) → 18 ≤ length octets → length_at (octets ++ more) ≡ length_at octets
length_at_same octets more there =
    ap (big_number 2) (drop-append-le 16 octets more (omega arith)) ∙ big_from-append 2 (drop 16 octets) more (omega (arith, length-drop 16 octets))

longer : (n : ℕ) (octets more : List ℕ) → n ≤ length octets → nat_le n (length (octets ++ more)) ≡ nat_le n (length octets)
longer n octets more there =
    le-leb n (length (octets ++ more)) (omega (arith, length-append octets more)) ∙ sym (le-leb n (length octets) there)

length_same : (octets more : List ℕ) → 18 ≤ length octets → length_fault (octets ++ more) ≡ length_fault octets
length_same octets more there =
    ap (λ (test : Bool). fault_if (test && (nat_lt (length_at (octets ++ more)) 19 || nat_lt 4096 (length_at (octets ++ more)))) bad_message_length) (longer 18 octets more there)
    ∙ ap (λ (n : ℕ). fault_if (nat_le 18 (length octets) && (nat_lt n 19 || nat_lt 4096 n)) bad_message_length) (length_at_same octets more there)

type_same : (octets more : List ℕ) → 19 ≤ length octets → type_fault (octets ++ more) ≡ type_fault octets
type_same octets more there =
    ap (λ (test : Bool). cond test (kind_fault (kind_at (octets ++ more)) (length_at (octets ++ more))) None) (longer 19 octets more there)
    ∙ ap (λ (octet : ℕ). cond (nat_le 19 (length octets)) (kind_fault (kind_of octet) (length_at (octets ++ more))) None) (get_or_append_left octets more 0 18 (omega arith))
    ∙ ap (λ (n : ℕ). cond (nat_le 19 (length octets)) (kind_fault (kind_at octets) n) None) (length_at_same octets more (omega arith))

length_there : (octets : List ℕ) (f : WireFault) → length_fault octets ≡ Some f → 18 ≤ length octets
length_there octets f is = leb-true 18 (length octets) (and_parts _ _ (fault_if-Some _ _ _ is)).0

type_there : (octets : List ℕ) (f : WireFault) → type_fault octets ≡ Some f → 19 ≤ length octets
type_there octets f is = elim (cases_lt (length octets) 19) [
  | inr there ↦ there
  | inl few ↦ let none : type_fault octets ≡ None = cond-false _ _ _ (lt-leb 19 (length octets) few) in absurd cc
]

rest_stays : (octets more : List ℕ) (f : WireFault) (l : Option WireFault) → length_fault octets ≡ l
    → (length_fault octets then_check type_fault octets) ≡ Some f
    → (16 ≤ length octets) × ((length_fault (octets ++ more) then_check type_fault (octets ++ more)) ≡ Some f)
rest_stays octets more f (Some g) is h =
    let there = length_there octets g is in
    let same = length_same octets more there in
    let first : Some g ≡ Some f = sym (ap (λ (l : Option WireFault). l then_check type_fault octets) is) ∙ h in
    (omega arith, ap (λ (l : Option WireFault). l then_check type_fault (octets ++ more)) (same ∙ is) ∙ first)
rest_stays octets more f None is h =
    let typed : type_fault octets ≡ Some f = sym (ap (λ (l : Option WireFault). l then_check type_fault octets) is) ∙ h in
    let there = type_there octets f typed in
    let same = length_same octets more (omega arith) in
    (omega arith, ap (λ (l : Option WireFault). l then_check type_fault (octets ++ more)) (same ∙ is) ∙ type_same octets more there ∙ typed)

frame_fault_stays_of : (octets more : List ℕ) (f : WireFault) (m : Option WireFault) → marker_fault octets ≡ m
    → frame_fault octets ≡ Some f → frame_fault (octets ++ more) ≡ Some f
frame_fault_stays_of octets more f (Some g) is h =
    let first : Some g ≡ Some f = sym (ap (λ (m : Option WireFault). m then_check (length_fault octets then_check type_fault octets)) is) ∙ h in
    ap (λ (m : Option WireFault). m then_check (length_fault (octets ++ more) then_check type_fault (octets ++ more))) (marker_stays octets more g is ∙ is) ∙ first
frame_fault_stays_of octets more f None is h =
    let later : (length_fault octets then_check type_fault octets) ≡ Some f =
    sym (ap (λ (m : Option WireFault). m then_check (length_fault octets then_check type_fault octets)) is) ∙ h in
    let stays = rest_stays octets more f (length_fault octets) refl later in
    ap (λ (m : Option WireFault). m then_check (length_fault (octets ++ more) then_check type_fault (octets ++ more))) (marker_same octets more stays.0 ∙ is) ∙ stays.1

fault_stays_of : (octets more : List ℕ) (f : WireFault) (o : Option WireFault) → frame_fault octets ≡ o → HasFault octets f → HasFault (octets ++ more) f
fault_stays_of octets more f (Some g) is fault =
    let first : g ≡ f = first_fault octets g f is fault in
    let P : Option WireFault → Type 0 = λ o. MatchOption o (HasFaultyBody (octets ++ more) f) (λ first. first ≡ f) in
    subst P (sym (frame_fault_stays_of octets more g (marker_fault octets) refl is)) first
fault_stays_of octets more f None is fault =
    let faulty = faulty_body octets f is fault in
    let split : octets ++ more ≡ faulty.frame ++ (faulty.more ++ more) =
    ap (λ (o : List ℕ). o ++ more) faulty.spelled ∙ append_assoc faulty.frame faulty.more more in
    let framed = has_frame (octets ++ more) faulty.frame (faulty.more ++ more) faulty.body faulty.kind split faulty.whole in
    has_fault (octets ++ more) f framed.none (record {
      kind = faulty.kind;
      body = faulty.body;
      frame = faulty.frame;
      more = faulty.more ++ more;
      spelled = split;
      whole = faulty.whole;
      faulty = faulty.faulty;
    })

-- a fault stays, whatever follows
pub fault_stays : (octets more : List ℕ) (f : WireFault) → HasFault octets f → HasFault (octets ++ more) f
fault_stays octets more f fault = fault_stays_of octets more f (frame_fault octets) refl fault

-- a proper prefix is shorter than the longest message
pub proper_prefix_is_short : (octets : List ℕ) → IsProperPrefix octets → length octets < 4096
proper_prefix_is_short octets proper = elim (cases_lt (length octets) 18) [
  | inl few ↦ omega arith
  | inr many ↦
      let second = pass_both _ _ (pass_both _ _ proper.passes).1 in
      let long : nat_le 18 (length octets) ≡ true = le-leb _ _ many in
      let test : (nat_le 18 (length octets) && (nat_lt (length_at octets) 19 || nat_lt 4096 (length_at octets))) ≡ false = fault_if-None _ _ second.0 in
      let no_length : (nat_lt (length_at octets) 19 || nat_lt 4096 (length_at octets)) ≡ false =
      ap (λ (b : Bool). b && (nat_lt (length_at octets) 19 || nat_lt 4096 (length_at octets))) (sym long) ∙ test in
      let most : length_at octets ≤ 4096 = ltb-false 4096 (length_at octets) (or_parts _ _ no_length).1 in
      elim proper.short [ inl few ↦ omega arith | inr cut ↦ omega arith ]
]

-- what is cut off a message leaves a proper prefix
pub front_is_proper : (octets more : List ℕ) (c : Content) → AreOctets octets → IsMessage (octets ++ more) c → more ≢ [] → IsProperPrefix octets
front_is_proper octets more c are is some =
    let whole = whole_message (octets ++ more) c is in
    elim (read octets are) [
      | inl begins ↦
          let short = message_stays octets more begins.0 begins.1 begins.2 in
          let same = one_message (octets ++ more) c begins.0 (length (octets ++ more)) begins.1 whole short in
          let lengths = same.1 in
          let within = begins.2.within in
          absurd (some (nil_from_length more (omega (arith, lengths, within, length-append octets more))))
      | inr rest ↦ elim rest [
        | inl proper ↦ proper
        | inr fault ↦ absurd (never_message_and_fault (octets ++ more) c (length (octets ++ more)) fault.0 whole (fault_stays octets more fault.0 fault.1))
      ]
    ]
