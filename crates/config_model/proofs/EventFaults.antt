-- Which fault a value is that does not read as an edit or an event.
use Rattle.std.proofs.Common.{◌≡◌, ℕ, ◌==◌, Bool, false, nat_eq, List, [], ◌∷◌, Some, None, Err, refl, codes}
use Rattle.std.specs.Cmp.Lexicographic.{pointwise}
use Rattle.std.proofs.lemmas.Bool.{or_parts}
use Rattle.serde_json.specs.Data.{Data, Members, no_members, member, null, boolean, number, string, array, object}
use Rattle.serde_json.specs.Events.{members_len}
use Rattle.serde_json.specs.Find.{as_str, as_object}
use Rattle.config_model.specs.declared.fault.DocKind.TheVariants.{Range}
use Rattle.config_model.specs.Fields.{object_at}
use Rattle.config_model.specs.OneMember.{only_member, one_member_at}
use Rattle.config_model.specs.Edit.{put_at, delete_at, edit_at}
use Rattle.config_model.specs.Event.{event_from, event_at}
use Rattle.config_model.specs.EventLaws.{NotOneIsRange, OtherIsUnknown, NoObjectIsKind}
use Rattle.config_model.specs.Laws.{fault_at, is_among, OtherTextIsRange}

none_alone : (ms : Members) → (members_len ms == 1) ≡ false → only_member ms ≡ None
none_alone no_members h = refl
none_alone (member k d no_members) h = absurd (cc)
none_alone (member k d (member l e ms)) h = refl

not_one : (path : List ℕ) (d : Data) (ms : Members) → as_object d ≡ Some ms → (members_len ms == 1) ≡ false → one_member_at path d ≡ Err (fault_at path Range)
unfolding one_member_at object_at
not_one path d ms e h = rw (e, none_alone ms h) refl

no_text : (d : Data) (ms : Members) → as_object d ≡ Some ms → as_str d ≡ None
no_text null ms e = refl
no_text (boolean b) ms e = refl
no_text (number n) ms e = refl
no_text (string s) ms e = absurd (cc)
no_text (array ds) ms e = refl
no_text (object us) ms e = refl

pub event_not_one : NotOneIsRange event_at
unfolding event_at
event_not_one path d ms e h = rw (no_text d ms e, not_one path d ms e h) refl

pub edit_not_one : NotOneIsRange edit_at
unfolding edit_at
edit_not_one path d ms e h = rw (not_one path d ms e h) refl

pub put_not_one : NotOneIsRange put_at
unfolding put_at
put_not_one path d ms e h = rw (not_one path d ms e h) refl

pub delete_not_one : NotOneIsRange delete_at
unfolding delete_at
delete_not_one path d ms e h = rw (not_one path d ms e h) refl

abbrev same : List ℕ → List ℕ → Bool
same word x = pointwise nat_eq word x

pub event_unknown : OtherIsUnknown event_at (codes "edit" ∷ codes "deliver" ∷ codes "deliver-bytes" ∷ codes "lose" ∷ codes "connect" ∷ codes "restart" ∷ codes "show" ∷ codes "trace" ∷ codes "break" ∷ [])
unfolding event_at event_from one_member_at object_at
event_unknown path word d h =
    let a = or_parts (same word (codes "edit")) (is_among (codes "deliver" ∷ codes "deliver-bytes" ∷ codes "lose" ∷ codes "connect" ∷ codes "restart" ∷ codes "show" ∷ codes "trace" ∷ codes "break" ∷ []) word) h in
    let b = or_parts (same word (codes "deliver")) (is_among (codes "deliver-bytes" ∷ codes "lose" ∷ codes "connect" ∷ codes "restart" ∷ codes "show" ∷ codes "trace" ∷ codes "break" ∷ []) word) a.1 in
    let c = or_parts (same word (codes "deliver-bytes")) (is_among (codes "lose" ∷ codes "connect" ∷ codes "restart" ∷ codes "show" ∷ codes "trace" ∷ codes "break" ∷ []) word) b.1 in
    let e = or_parts (same word (codes "lose")) (is_among (codes "connect" ∷ codes "restart" ∷ codes "show" ∷ codes "trace" ∷ codes "break" ∷ []) word) c.1 in
    let f = or_parts (same word (codes "connect")) (is_among (codes "restart" ∷ codes "show" ∷ codes "trace" ∷ codes "break" ∷ []) word) e.1 in
    let g = or_parts (same word (codes "restart")) (is_among (codes "show" ∷ codes "trace" ∷ codes "break" ∷ []) word) f.1 in
    let i = or_parts (same word (codes "show")) (is_among (codes "trace" ∷ codes "break" ∷ []) word) g.1 in
    let j = or_parts (same word (codes "trace")) (is_among (codes "break" ∷ []) word) i.1 in
    let k = or_parts (same word (codes "break")) false j.1 in
    rw (a.0, b.0, c.0, e.0, f.0, g.0, i.0, j.0, k.0) refl

pub edit_unknown : OtherIsUnknown edit_at (codes "put" ∷ codes "delete" ∷ [])
unfolding edit_at one_member_at object_at
edit_unknown path word d h =
    let a = or_parts (same word (codes "put")) (is_among (codes "delete" ∷ []) word) h in
    let b = or_parts (same word (codes "delete")) false a.1 in
    rw (a.0, b.0) refl

-- a word is that of none of the six kinds
record NoKind (word : List ℕ) : Type 0 where
  network : same word (codes "network") ≡ false
  port : same word (codes "port") ≡ false
  policy : same word (codes "policy") ≡ false
  service : same word (codes "service") ≡ false
  chain : same word (codes "chain") ≡ false
  node : same word (codes "node") ≡ false

no_kind : (word : List ℕ) → is_among (codes "network" ∷ codes "port" ∷ codes "policy" ∷ codes "service" ∷ codes "chain" ∷ codes "node" ∷ []) word ≡ false → NoKind word
no_kind word h =
    let a = or_parts (same word (codes "network")) (is_among (codes "port" ∷ codes "policy" ∷ codes "service" ∷ codes "chain" ∷ codes "node" ∷ []) word) h in
    let b = or_parts (same word (codes "port")) (is_among (codes "policy" ∷ codes "service" ∷ codes "chain" ∷ codes "node" ∷ []) word) a.1 in
    let c = or_parts (same word (codes "policy")) (is_among (codes "service" ∷ codes "chain" ∷ codes "node" ∷ []) word) b.1 in
    let e = or_parts (same word (codes "service")) (is_among (codes "chain" ∷ codes "node" ∷ []) word) c.1 in
    let f = or_parts (same word (codes "chain")) (is_among (codes "node" ∷ []) word) e.1 in
    let g = or_parts (same word (codes "node")) false f.1 in
    record { network = a.0; port = b.0; policy = c.0; service = e.0; chain = f.0; node = g.0 }

pub put_unknown : OtherIsUnknown put_at (codes "network" ∷ codes "port" ∷ codes "policy" ∷ codes "service" ∷ codes "chain" ∷ codes "node" ∷ [])
unfolding put_at one_member_at object_at
put_unknown path word d h = let n = no_kind word h in rw (n.network, n.port, n.policy, n.service, n.chain, n.node) refl

pub delete_unknown : OtherIsUnknown delete_at (codes "network" ∷ codes "port" ∷ codes "policy" ∷ codes "service" ∷ codes "chain" ∷ codes "node" ∷ [])
unfolding delete_at one_member_at object_at
delete_unknown path word d h = let n = no_kind word h in rw (n.network, n.port, n.policy, n.service, n.chain, n.node) refl

pub other_event : OtherTextIsRange event_at (is_among (codes "round" ∷ codes "settle" ∷ []))
unfolding event_at
other_event path text h =
    let a = or_parts (same text (codes "round")) (is_among (codes "settle" ∷ []) text) h in
    let b = or_parts (same text (codes "settle")) false a.1 in
    rw (a.0, b.0) refl

pub no_event : NoObjectIsKind event_at
unfolding event_at one_member_at object_at
no_event path d e f = rw (f, e) refl

pub no_edit : NoObjectIsKind edit_at
unfolding edit_at one_member_at object_at
no_edit path d e f = rw e refl
