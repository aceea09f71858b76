-- An entry is read exactly where it is written.
use Rattle.std.proofs.Common.{◌≡◌, ℕ, ◌+◌, List, [], ◌∷◌, drop, Option, Some, None, Result, Ok, refl, ap, sym, ◌∙◌, subst, Bool, true, false, cond, codes}
use Rattle.std.specs.Prelude.{◌↔◌}
use Rattle.std.proofs.lemmas.Slice.Eq.{bytes_eq-Decides}
use Rattle.serde_json.specs.Data.{Data, null, boolean, number, string, array, object, Items, no_items, item, no_members, member}
use Rattle.serde_json.specs.Find.{get, as_array}
use Rattle.ov_types.specs.First.{same_name}
use Rattle.config_model.specs.declared.fault.DocKind.{DocKind}
use Rattle.config_model.specs.declared.fault.DocKind.TheVariants.{Missing, Kind, Range, Unknown}
use Rattle.config_model.specs.declared.fields.Count.TheVariants.{AnyNumber}
use Rattle.config_model.specs.EventDocuments.{one_document}
use Rattle.config_model.specs.Paths.{member_path, item_path}
use Rattle.config_model.specs.Faults.{Fault, refused, wanted, kept}
use Rattle.config_model.specs.Fields.{object_at, text_at, member_at, in_member, only_at, list_at, items_at, all_at}
use Rattle.config_model.specs.OneMember.{one_member_at}
use Rattle.config_model.proofs.HasJust.{bind_ok, is_object, is_there, has_no_other}
use Rattle.decode_answers.specs.declared.entry.LogEntry.{LogEntry}
use Rattle.decode_answers.specs.declared.entry.LogEntry.TheVariants.{Opened, Updated, Closed, Expired, Show}
use Rattle.decode_answers.specs.OneMessage.{open_in, update_in, is_one_open, is_one_update}
use Rattle.decode_answers.specs.LogReading.{octets_in, octets_at, opened_at, updated_at, entry_from, entry_of, entry_at, log_at}
use Rattle.decode_answers.specs.LogWriting.{Writes, WritesEach, WritesLog}
use Rattle.decode_answers.proofs.Opens.{passed_open, open_passes}
use Rattle.decode_answers.proofs.Updates.{passed_update, update_passes}

-- what is kept passed its test
kept_ok : {A : Type 0} (path : List ℕ) (passes : Bool) (x y : A) → kept path passes x ≡ Ok y → (passes ≡ true) × (x ≡ y)
kept_ok path true x y h = (refl, cc)
kept_ok path false x y h = absurd cc

wanted_ok : {A : Type 0} (path : List ℕ) (what : DocKind) (found : Option A) (x : A) → wanted path what found ≡ Ok x → found ≡ Some x
wanted_ok path what (Some y) x h = cc
wanted_ok path what None x h = absurd cc

ok_is : {A : Type 0} (x y : A) (r : Result A Fault) → r ≡ Ok x → r ≡ Ok y → x ≡ y
ok_is x y r h g = let e = sym h ∙ g in cc

-- a text is read where one stands
is_text : (path : List ℕ) (d : Data) (text : List ℕ) → text_at path d ≡ Ok text → d ≡ string text
unfolding text_at
is_text path null text h = absurd cc
is_text path (boolean b) text h = absurd cc
is_text path (number n) text h = absurd cc
is_text path (string s) text h = ap string (ok_is s text (Ok s) refl h)
is_text path (array ds) text h = absurd cc
is_text path (object ms) text h = absurd cc

-- a text that spells octets
record IsSpelled (d : Data) (octets : List ℕ) : Type 0 where
  text : List ℕ
  is : d ≡ string text
  spells : octets_in text ≡ Some octets

spelled : (path : List ℕ) (d : Data) (octets : List ℕ) → octets_at path d ≡ Ok octets → IsSpelled d octets
unfolding octets_at
spelled path d octets h =
    let text = bind_ok (text_at path d) _ octets h in
    record { text = text.0; is = is_text path d text.0 text.1; spells = wanted_ok path Range (octets_in text.0) octets text.2 }

-- an object that is read by its one member
alone : (path : List ℕ) (d : Data) (m : List ℕ × Data) → one_member_at path d ≡ Ok m → d ≡ one_document m.0 m.1
unfolding one_member_at object_at
alone path null m h = absurd cc
alone path (boolean b) m h = absurd cc
alone path (number n) m h = absurd cc
alone path (string s) m h = absurd cc
alone path (array ds) m h = absurd cc
alone path (object no_members) m h = absurd cc
alone path (object (member k v no_members)) m h = ap (λ (p : List ℕ × Data). one_document p.0 p.1) (ok_is (k, v) m (Ok (k, v)) refl h)
alone path (object (member k v (member l w ms))) m h = absurd cc

same_word : (word other : List ℕ) → same_name word other ≡ true → word ≡ other
same_word word other h = (bytes_eq-Decides word other).0 h

open_written : (word path : List ℕ) (d : Data) (e : LogEntry) → word ≡ codes "opened" → opened_at path d ≡ Ok e → Writes (one_document word d) e
unfolding opened_at
open_written word path d e is h =
    let octets = bind_ok (octets_at path d) _ e h in
    let test = kept_ok path (is_one_open octets.0) (Opened octets.0) e octets.2 in
    let text = spelled path d octets.0 octets.1 in
    subst (Writes (one_document word d)) test.1 (record {
      text = text.text;
      fields = open_in (drop 19 octets.0);
      is = ap (λ (w : List ℕ). one_document w d) is ∙ ap (one_document (codes "opened")) text.is;
      spells = text.spells;
      one = passed_open octets.0 test.0;
    })

update_written : (word path : List ℕ) (d : Data) (e : LogEntry) → word ≡ codes "update" → updated_at path d ≡ Ok e → Writes (one_document word d) e
unfolding updated_at
update_written word path d e is h =
    let octets = bind_ok (octets_at path d) _ e h in
    let test = kept_ok path (is_one_update octets.0) (Updated octets.0) e octets.2 in
    let text = spelled path d octets.0 octets.1 in
    subst (Writes (one_document word d)) test.1 (record {
      text = text.text;
      parts = update_in (drop 19 octets.0);
      is = ap (λ (w : List ℕ). one_document w d) is ∙ ap (one_document (codes "update")) text.is;
      spells = text.spells;
      one = passed_update octets.0 test.0;
    })

by_word : (opens updates : Bool) (word path : List ℕ) (d : Data) (e : LogEntry)
    → same_name word (codes "opened") ≡ opens → same_name word (codes "update") ≡ updates
    → cond opens (opened_at path d) (cond updates (updated_at path d) (refused path Unknown)) ≡ Ok e → Writes (one_document word d) e
by_word true updates word path d e opens is h = open_written word path d e (same_word word (codes "opened") opens) h
by_word false true word path d e opens is h = update_written word path d e (same_word word (codes "update") is) h
by_word false false word path d e opens is h = absurd cc

from_written : (word path : List ℕ) (d : Data) (e : LogEntry) → entry_from word path d ≡ Ok e → Writes (one_document word d) e
unfolding entry_from
from_written word path d e h = by_word (same_name word (codes "opened")) (same_name word (codes "update")) word path d e refl refl h

by_text : (closed expired show : Bool) (text path : List ℕ) (e : LogEntry)
    → same_name text (codes "closed") ≡ closed → same_name text (codes "expired") ≡ expired → same_name text (codes "show") ≡ show
    → wanted path Range (cond closed (Some Closed) (cond expired (Some Expired) (cond show (Some Show) None))) ≡ Ok e → Writes (string text) e
by_text true expired show text path e a b c h =
    subst (Writes (string text)) (ok_is Closed e (Ok Closed) refl h) (ap string (same_word text (codes "closed") a))
by_text false true show text path e a b c h =
    subst (Writes (string text)) (ok_is Expired e (Ok Expired) refl h) (ap string (same_word text (codes "expired") b))
by_text false false true text path e a b c h =
    subst (Writes (string text)) (ok_is Show e (Ok Show) refl h) (ap string (same_word text (codes "show") c))
by_text false false false text path e a b c h = absurd cc

object_written : (path : List ℕ) (d : Data) (e : LogEntry) → entry_of path d None ≡ Ok e → Writes d e
object_written path d e h =
    let m = bind_ok (one_member_at path d) _ e h in
    subst (λ (x : Data). Writes x e) (sym (alone path d m.0 m.1)) (from_written m.0.0 (member_path path m.0.0) m.0.1 e m.2)

-- what is read as an entry writes it
pub entry_written : (path : List ℕ) (d : Data) (e : LogEntry) → entry_at path d ≡ Ok e → Writes d e
unfolding entry_at
entry_written path null e h = object_written path null e h
entry_written path (boolean b) e h = object_written path (boolean b) e h
entry_written path (number n) e h = object_written path (number n) e h
entry_written path (string s) e h =
    by_text (same_name s (codes "closed")) (same_name s (codes "expired")) (same_name s (codes "show")) s path e refl refl refl h
entry_written path (array ds) e h = object_written path (array ds) e h
entry_written path (object ms) e h = object_written path (object ms) e h

-- what writes an entry is read as it
open_read : (path text octets : List ℕ) → octets_in text ≡ Some octets → is_one_open octets ≡ true
    → entry_at path (one_document (codes "opened") (string text)) ≡ Ok (Opened octets)
unfolding entry_at entry_from one_member_at object_at opened_at octets_at text_at
open_read path text octets spells passes = rw (spells, passes) refl

update_read : (path text octets : List ℕ) → octets_in text ≡ Some octets → is_one_update octets ≡ true
    → entry_at path (one_document (codes "update") (string text)) ≡ Ok (Updated octets)
unfolding entry_at entry_from one_member_at object_at updated_at octets_at text_at
update_read path text octets spells passes = rw (spells, passes) refl

pub entry_read : (path : List ℕ) (d : Data) (e : LogEntry) → Writes d e → entry_at path d ≡ Ok e
unfolding entry_at
entry_read path d (Opened octets) w =
    ap (entry_at path) w.is ∙ open_read path w.text octets w.spells (open_passes octets w.fields w.one)
entry_read path d (Updated octets) w =
    ap (entry_at path) w.is ∙ update_read path w.text octets w.spells (update_passes octets w.parts w.one)
entry_read path d Closed w = ap (entry_at path) w
entry_read path d Expired w = ap (entry_at path) w
entry_read path d Show w = ap (entry_at path) w

-- items are read as the entries that they write
each_written : (path : List ℕ) (i : ℕ) (ds : Items) (log : List LogEntry) → items_at entry_at path i ds ≡ Ok log → WritesEach ds log
unfolding items_at
each_written path i no_items log h = subst (WritesEach no_items) (ok_is [] log (Ok []) refl h) tt
each_written path i (item d ds) log h =
    let first = bind_ok (entry_at (item_path path i) d) _ log h in
    let others = bind_ok (items_at entry_at path (i + 1) ds) _ log first.2 in
    subst (WritesEach (item d ds)) (ok_is (first.0 ∷ others.0) log (Ok (first.0 ∷ others.0)) refl others.2)
    (entry_written (item_path path i) d first.0 first.1, each_written path (i + 1) ds others.0 others.1)

each_read : (path : List ℕ) (i : ℕ) (ds : Items) (log : List LogEntry) → WritesEach ds log → items_at entry_at path i ds ≡ Ok log
unfolding items_at
each_read path i no_items [] w = refl
each_read path i no_items (e ∷ log) w = absurd w
each_read path i (item d ds) [] w = absurd w
each_read path i (item d ds) (e ∷ log) w =
    rw (entry_read (item_path path i) d e w.0, each_read path (i + 1) ds log w.1) refl

array_of : (d : Data) (ds : Items) → as_array d ≡ Some ds → d ≡ array ds
array_of null ds h = absurd cc
array_of (boolean b) ds h = absurd cc
array_of (number n) ds h = absurd cc
array_of (string s) ds h = absurd cc
array_of (array es) ds h = ap array cc
array_of (object ms) ds h = absurd cc

-- a list that is read
record IsListed (d : Data) (log : List LogEntry) : Type 0 where
  items : Items
  is : d ≡ array items
  each : WritesEach items log

listed : (path : List ℕ) (d : Data) (log : List LogEntry) → all_at entry_at AnyNumber path d ≡ Ok log → IsListed d log
unfolding all_at list_at
listed path d log h =
    let items = bind_ok (list_at AnyNumber path d) _ log h in
    let found = bind_ok (wanted path Kind (as_array d)) _ items.0 items.1 in
    let same : found.0 ≡ items.0 = (kept_ok path true found.0 items.0 found.2).1 in
    record {
      items = items.0;
      is = array_of d found.0 (wanted_ok path Kind (as_array d) found.0 found.1) ∙ ap array same;
      each = each_written path 0 items.0 log items.2;
    }

-- the member of a log
record IsMember (d : Data) (log : List LogEntry) : Type 0 where
  items : Items
  is : get (codes "events") d ≡ Some (array items)
  each : WritesEach items log

in_events : (path : List ℕ) (d : Data) (log : List LogEntry) → in_member (all_at entry_at AnyNumber) path (codes "events") d ≡ Ok log → IsMember d log
unfolding in_member member_at
in_events path d log h =
    let found = bind_ok (member_at path (codes "events") d) _ log h in
    let list = listed (member_path path (codes "events")) found.0 log found.2 in
    record {
      items = list.items;
      is = wanted_ok (member_path path (codes "events")) Missing (get (codes "events") d) found.0 found.1 ∙ ap (λ (x : Data). Some x) list.is;
      each = list.each;
    }

-- what is read as a log writes it
pub log_written : (path : List ℕ) (d : Data) (log : List LogEntry) → log_at path d ≡ Ok log → WritesLog d log
unfolding log_at
log_written path d log h =
    let members = bind_ok (object_at path d) _ log h in
    let entries = bind_ok (in_member (all_at entry_at AnyNumber) path (codes "events") d) _ log members.2 in
    let done = bind_ok (only_at path (codes "events" ∷ []) members.0) _ log entries.2 in
    let same : entries.0 ≡ log = ok_is entries.0 log (Ok entries.0) refl done.2 in
    let here = in_events path d entries.0 entries.1 in
    record {
      items = here.items;
      just = record {
        members = members.0;
        is_object = is_object path d members.0 members.1;
        has_each = rw (is_there (all_at entry_at AnyNumber) path (codes "events") d entries.0 entries.1) refl;
        has_no_other = has_no_other path (codes "events" ∷ []) members.0 done.1;
      };
      is = here.is;
      each = subst (WritesEach here.items) same here.each;
    }

-- what writes a log and nothing else is read as it
pub log_read : (path : List ℕ) (ds : Items) (log : List LogEntry) → WritesEach ds log → log_at path (one_document (codes "events") (array ds)) ≡ Ok log
unfolding log_at in_member member_at object_at only_at all_at list_at
log_read path ds log w = rw (each_read (member_path path (codes "events")) 0 ds log w) refl

pub entry_both : (path : List ℕ) (d : Data) (e : LogEntry) → (entry_at path d ≡ Ok e) ↔ Writes d e
entry_both path d e = (entry_written path d e, entry_read path d e)
