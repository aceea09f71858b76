-- Each log is answered.
use Rattle.std.proofs.Common.{◌≡◌, ◌≢◌, Bool, true, false, cond, not, ◌||◌, ◌&&◌, ◌==◌, ℕ, ◌+◌, List, [], ◌∷◌, ◌++◌, map, length, take, drop, refl, ap, sym, ◌∙◌, subst, ◌⊎◌, inl, inr, Decides, bytes_eq}
use Rattle.std.specs.declared.option.Option.{Option}
use Rattle.std.specs.declared.option.Option.TheVariants.{Some, None}
use Rattle.std.specs.List.{AllByRecursion, list_any}
use Rattle.std.specs.Ordering.{eq_by_cmp}
use Rattle.std.specs.Cmp.{Equal-is}
use Rattle.std.specs.FinMap.{FinMap, get, entries, empty, insert, remove, get-empty, get-insert, get-remove}
use Rattle.std.proofs.lemmas.Bool.{or_parts, or_from}
use Rattle.std.proofs.lemmas.Bool.Decides.{Decides-and, Decides-eqb}
use Rattle.std.proofs.lemmas.Slice.Eq.{bytes_eq-Decides}
use Rattle.std.proofs.Math.Seq.{take-append_seam, drop-append_seam}
use Rattle.byteorder.specs.Endian.{big_bytes}
use Rattle.ov_types.specs.declared.vpn.VpnKey.{VpnKey}
use Rattle.ov_types.specs.declared.vpn.VpnRoute.{VpnRoute}
use Rattle.ov_sync.specs.declared.Delta.{Delta}
use Rattle.ov_sync.specs.Keyed.{key_of, is_changed}
use Rattle.bgp_wire.specs.declared.fault.WireFault.{WireFault}
use Rattle.bgp_wire.specs.Content.{Updates, OpenFields, UpdateFields}
use Rattle.bgp_wire.specs.Attributes.{AttributeFields, AreAttributes}
use Rattle.bgp_wire.specs.Messages.{AreOctets, BeginsWith}
use Rattle.bgp_wire.specs.Frames.{head}
use Rattle.bgp_wire.proofs.Attributing.{one_split}
use Rattle.bgp_wire.proofs.Octets.{AreOctets-drop, AreOctets-take}
use Rattle.bgp_vpn.specs.Updates.{Changes, HasUpdateFault}
use Rattle.bgp_vpn.proofs.UpdateLemmas as updates
use Rattle.bgp_restart.specs.Marks.{IsEnd}
use Rattle.bgp_restart.specs.Events.{RestartEvent, Opened, Closed, Expired, Updated, is_up, opening, since_opened, until_closed, is_mark, changes_in, key_order, own, has_change}
use Rattle.bgp_restart.specs.Keeping.{held_at, left_over, says_kept, marked, row_of, IsUpdate}
use Rattle.bgp_restart.proofs.Owning.{key_total, key_exact, own_none, changed-append}
use Rattle.report.specs.Restarts.{did_line, idle_line, faulty_line, show_line}
use Rattle.decode_answers.specs.declared.entry.LogEntry.{LogEntry}
use Rattle.decode_answers.specs.declared.entry.LogEntry.TheVariants as entry
use Rattle.decode_answers.specs.Entries.{HasEntryForm}
use Rattle.decode_answers.specs.OneMessage.{IsOneOpen, IsOneUpdate}
use Rattle.decode_answers.specs.Logs.{opening_of, reads_wide, row_lines, IsHeldText, AnswersOpen, AnswersParts, AnswersUpdate, AnswersClose, Answers, IsLogText}

-- ---- whether an UPDATE marks the end of the first routes can be told
is_mark_of : UpdateFields → AttributeFields → Bool
is_mark_of p a = (bytes_eq p.withdrawn [] && bytes_eq p.routes []) && (a.kind == 15 && bytes_eq a.value (0 ∷ 1 ∷ 128 ∷ []))

mark_decides : (p : UpdateFields) (a : AttributeFields)
    → Decides (is_mark_of p a) (((p.withdrawn ≡ []) × (p.routes ≡ [])) × ((a.kind ≡ 15) × (a.value ≡ 0 ∷ 1 ∷ 128 ∷ [])))
unfolding is_mark_of
mark_decides p a =
    Decides-and _ _ (Decides-and _ _ (bytes_eq-Decides p.withdrawn []) (bytes_eq-Decides p.routes []))
    (Decides-and _ _ (Decides-eqb a.kind 15) (bytes_eq-Decides a.value (0 ∷ 1 ∷ 128 ∷ [])))

-- the attributes of such an UPDATE are one
alone : (p : UpdateFields) (all : List AttributeFields) → AreAttributes p.attributes all [] → (e : IsEnd p) → all ≡ e.only ∷ []
alone p all are e = (one_split p.attributes [] [] all (e.only ∷ []) are e.alone).0

same_first : (a b : AttributeFields) → a ∷ [] ≡ b ∷ [] → a ≡ b
same_first a b e = cc

some_mark : (p : UpdateFields) (all : List AttributeFields) → AreAttributes p.attributes all [] → (b : Bool) × Decides b (IsEnd p)
some_mark p [] are = (false, (λ e. absurd cc, λ e. let none = alone p [] are e in absurd cc))
some_mark p (a ∷ b ∷ all) are = (false, (λ e. absurd cc, λ e. let two = alone p (a ∷ b ∷ all) are e in absurd cc))
some_mark p (a ∷ []) are =
    let tells = mark_decides p a in (
      is_mark_of p a,
      (
        λ e. let so = tells.0 e in
            record { no_withdrawn = so.0.0; no_routes = so.0.1; only = a; alone = are; kind = so.1.0; nothing = so.1.1 },
        λ e. let same = same_first a e.only (alone p (a ∷ []) are e) in
            tells.1 ((e.no_withdrawn, e.no_routes), (ap (λ (x : AttributeFields). x.kind) same ∙ e.kind, ap (λ (x : AttributeFields). x.value) same ∙ e.nothing)),
      ),
    )

-- ---- the attributes of an UPDATE are octets
front_octets : (xs ys : List ℕ) → AreOctets (xs ++ ys) → AreOctets xs
front_octets xs ys h = subst AreOctets (take-append_seam xs ys) (AreOctets-take (length xs) (xs ++ ys) h)

rest_octets : (xs ys : List ℕ) → AreOctets (xs ++ ys) → AreOctets ys
rest_octets xs ys h = subst AreOctets (drop-append_seam xs ys) (AreOctets-drop (length xs) (xs ++ ys) h)

attributes_are : (octets : List ℕ) (p : UpdateFields) → AreOctets octets → IsOneUpdate octets p → AreOctets p.attributes
attributes_are octets p h begins =
    let body = begins.message.body in
    let start = head (19 + length body) begins.message.kind in
    let whole = subst AreOctets begins.message.frame.spelled (AreOctets-take (length octets) octets h) in
    let inner = subst AreOctets begins.message.says.1.spelled (rest_octets start body whole) in
    let parted = big_bytes 2 (length p.attributes) ++ p.attributes in
    let last = rest_octets (big_bytes 2 (length p.withdrawn) ++ p.withdrawn) (parted ++ p.routes) inner in
    rest_octets (big_bytes 2 (length p.attributes)) p.attributes (front_octets parted p.routes last)

-- ---- what is held is a map
with_held : FinMap key_order (VpnRoute × Bool) → VpnKey → Option (VpnRoute × Bool) → FinMap key_order (VpnRoute × Bool)
with_held m k None = remove m k
with_held m k (Some h) = insert m k h

get-with_held : (m : FinMap key_order (VpnRoute × Bool)) (k : VpnKey) (h : Option (VpnRoute × Bool)) (q : VpnKey)
    → get (with_held m k h) q ≡ cond (eq_by_cmp key_order q k) h (get m q)
unfolding with_held
get-with_held m k None q = get-remove key_total m k q
get-with_held m k (Some h) q = get-insert key_total m k h q

-- what is held under the keys of changes
held_under : (VpnKey → Option (VpnRoute × Bool)) → List (Delta VpnKey VpnRoute) → FinMap key_order (VpnRoute × Bool)
held_under held [] = empty
held_under held (d ∷ ds) = with_held (held_under held ds) (key_of d) (held (key_of d))

get-held_under : (held : VpnKey → Option (VpnRoute × Bool)) (ds : List (Delta VpnKey VpnRoute)) (q : VpnKey)
    → get (held_under held ds) q ≡ cond (is_changed key_order ds q) (held q) None
unfolding held_under
get-held_under held [] q = get-empty key_order q
get-held_under held (d ∷ ds) q =
    get-with_held (held_under held ds) (key_of d) (held (key_of d)) q
    ∙ ap (λ x. cond (eq_by_cmp key_order q (key_of d)) (held (key_of d)) x) (get-held_under held ds q)
    ∙ at (eq_by_cmp key_order q (key_of d)) refl where
      at : (b : Bool) → eq_by_cmp key_order q (key_of d) ≡ b
          → cond b (held (key_of d)) (cond (is_changed key_order ds q) (held q) None) ≡ cond (b || is_changed key_order ds q) (held q) None
      at true e = ap held (sym (key_exact q (key_of d) ((Equal-is (key_order q (key_of d))).0 e)))
      at false e = refl

-- of a key of which nothing was said nothing was said in its periods either
unchanged_since : (events : List RestartEvent) (k : VpnKey) → is_changed key_order (changes_in events) k ≡ false
    → is_changed key_order (changes_in (since_opened events)) k ≡ false
unchanged_since [] k e = e
unchanged_since (Opened o ∷ before) k e = refl
unchanged_since (Closed ∷ before) k e = unchanged_since before k e
unchanged_since (Expired ∷ before) k e = unchanged_since before k e
unchanged_since (Updated ds marks ∷ before) k e =
    let parts = or_parts _ _ (sym (changed-append (changes_in before) ds k) ∙ e) in
    changed-append (changes_in (since_opened before)) ds k ∙ or_from _ _ parts.0 (unchanged_since before k parts.1)

unchanged_until : (events : List RestartEvent) (k : VpnKey) → is_changed key_order (changes_in events) k ≡ false
    → is_changed key_order (changes_in (until_closed events)) k ≡ false
unchanged_until [] k e = e
unchanged_until (Opened o ∷ before) k e = unchanged_until before k e
unchanged_until (Closed ∷ before) k e = e
unchanged_until (Expired ∷ before) k e = unchanged_until before k e
unchanged_until (Updated ds marks ∷ before) k e =
    unchanged_until before k (or_parts _ _ (sym (changed-append (changes_in before) ds k) ∙ e)).1

cond_none : {A : Type 0} (b : Bool) (x : Option A) → x ≡ None → cond b x None ≡ None
cond_none true x e = e
cond_none false x e = refl

nothing_left : (events : List RestartEvent) (k : VpnKey) → is_changed key_order (changes_in events) k ≡ false → left_over events k ≡ None
nothing_left events k e =
    let last = until_closed events in
    cond_none _ (own (since_opened last) k) (own_none (changes_in (since_opened last)) k (unchanged_since last k (unchanged_until events k e)))

-- nothing is held where neither the session now nor that before has it
none_held : (up changed keeps : Bool) (o l : Option (VpnRoute × Bool)) → changed ≡ false → l ≡ None → cond up (cond changed o (cond keeps l None)) l ≡ None
none_held true true keeps o l c e = cc
none_held true false keeps o l c e = cond_none keeps l e
none_held false changed keeps o l c e = e

nothing_held : (events : List RestartEvent) (k : VpnKey) → is_changed key_order (changes_in events) k ≡ false → held_at events k ≡ None
nothing_held events k e =
    none_held (is_up events) (has_change (since_opened events) k) (says_kept (opening events) && not (list_any is_mark (since_opened events)))
    (marked false (own (since_opened events) k)) (marked true (left_over events k)) (unchanged_since events k e)
    (ap (marked true) (nothing_left events k e))

some_held : (events : List RestartEvent) → (text : List ℕ) × IsHeldText events text
some_held events =
    let all = held_under (held_at events) (changes_in events) in (
      row_lines (map row_of (entries all)),
      record {
        all = all;
        is_held = λ k. get-held_under (held_at events) (changes_in events) k ∙ at k (is_changed key_order (changes_in events) k) refl;
        lines = refl;
      },
    ) where
      at : (k : VpnKey) (b : Bool) → is_changed key_order (changes_in events) k ≡ b → cond b (held_at events k) None ≡ held_at events k
      at k true e = refl
      at k false e = sym (nothing_held events k e)

-- ---- each entry is answered
some_opened : (up : Bool) (events : List RestartEvent) (n : ℕ) (octets : List ℕ) (fields : OpenFields) → IsOneOpen octets fields
    → (said : List ℕ) × (after : List RestartEvent) × AnswersOpen up events n octets said after
some_opened true events n octets fields one = (idle_line n, events, record { line = refl; no_event = refl })
some_opened false events n octets fields one =
    (did_line n, Opened (opening_of fields) ∷ events, (fields, one, record { line = refl; happened = refl }))

some_heard : (events : List RestartEvent) (n : ℕ) (parts : UpdateFields)
    → ((ds : List (Delta VpnKey VpnRoute)) × Changes (reads_wide events) parts ds) ⊎ ((f : WireFault) × HasUpdateFault (reads_wide events) parts f)
    → (said : List ℕ) × (after : List RestartEvent) × AnswersParts events n parts said after
some_heard events n parts (inl made) =
    let marks = some_mark parts made.1.attributes made.1.are in
    let event = Updated made.0 marks.0 in
    let heard : IsUpdate (reads_wide events) parts event =
    record { changes = made.0; marks = marks.0; is = refl; made = made.1; decides = marks.1 } in
    (did_line n, event ∷ events, inl (event, heard, record { line = refl; happened = refl }))
some_heard events n parts (inr faulty) =
    let f = faulty.0 in
    (faulty_line n f.code f.subcode, events, inr (record { fault = f; faulty = faulty.1; line = refl; no_event = refl }))

some_updated : (up : Bool) (events : List RestartEvent) (n : ℕ) (octets : List ℕ) (parts : UpdateFields) → AreOctets octets → IsOneUpdate octets parts
    → (said : List ℕ) × (after : List RestartEvent) × AnswersUpdate up events n octets said after
some_updated true events n octets parts h one =
    let said = some_heard events n parts (updates.one_of_two (reads_wide events) parts (attributes_are octets parts h one)) in
    (said.0, said.1, (parts, one, said.2))
some_updated false events n octets parts h one = (idle_line n, events, record { line = refl; no_event = refl })

some_closed : (up : Bool) (events : List RestartEvent) (n : ℕ) → (said : List ℕ) × (after : List RestartEvent) × AnswersClose up events n said after
some_closed true events n = (did_line n, Closed ∷ events, record { line = refl; happened = refl })
some_closed false events n = (idle_line n, events, record { line = refl; no_event = refl })

some_answer : (events : List RestartEvent) (n : ℕ) (e : LogEntry) → HasEntryForm e → (said : List ℕ) × (after : List RestartEvent) × Answers events n e said after
some_answer events n (entry.Opened octets) h = some_opened (is_up events) events n octets h.1.0 h.1.1
some_answer events n (entry.Updated octets) h = some_updated (is_up events) events n octets h.1.0 h.0 h.1.1
some_answer events n entry.Closed h = some_closed (is_up events) events n
some_answer events n entry.Expired h = (did_line n, Expired ∷ events, record { line = refl; happened = refl })
some_answer events n entry.Show h =
    let held = some_held events in
    (show_line n ++ held.0, events, record { rows = held.0; held = held.1; lines = refl; no_event = refl })

-- a log of the form has a text
pub some_text : (events : List RestartEvent) (n : ℕ) (log : List LogEntry) → AllByRecursion HasEntryForm log → (text : List ℕ) × IsLogText events n log text
some_text events n [] h = ([], refl)
some_text events n (e ∷ log) h =
    let first = some_answer events n e h.0 in
    let rest = some_text first.1 (n + 1) log h.1 in
    (first.0 ++ rest.0, (first.0, first.1, rest.0, first.2, rest.1, refl))
