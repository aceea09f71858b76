-- Which fault a value is that writes no entry.
use Rattle.std.proofs.Common.{◌≡◌, ℕ, ◌==◌, false, List, [], ◌∷◌, drop, Option, Some, None, Err, refl, codes, inl, inr}
use Rattle.std.proofs.lemmas.Bool.{cases_Bool, or_parts}
use Rattle.serde_json.specs.Data.{Data, Members, no_members, member, null, boolean, number, string, array, object}
use Rattle.serde_json.specs.Events.{members_len}
use Rattle.serde_json.specs.Find.{as_object}
use Rattle.ov_types.specs.First.{same_name}
use Rattle.config_model.specs.declared.fault.DocKind.TheVariants.{Range}
use Rattle.config_model.specs.declared.fields.Count.TheVariants.{AnyNumber}
use Rattle.config_model.specs.EventDocuments.{one_document}
use Rattle.config_model.specs.EventLaws.{NotOneIsRange, OtherIsUnknown, NoObjectIsKind}
use Rattle.config_model.specs.Laws.{fault_at, is_among, OtherTextIsRange, FirstIsMissed}
use Rattle.config_model.specs.Paths.{member_path}
use Rattle.config_model.specs.Faults.{◌>>=◌, wanted, kept}
use Rattle.config_model.specs.Fields.{object_at, text_at, all_at}
use Rattle.config_model.proofs.Missed.{object_there, absent}
use Rattle.config_model.specs.OneMember.{one_member_at}
use Rattle.decode_answers.specs.declared.entry.LogEntry.TheVariants.{Opened, Updated}
use Rattle.decode_answers.specs.OneMessage.{open_in, update_in, is_one_open, is_one_update}
use Rattle.decode_answers.specs.LogReading.{octets_in, octets_at, opened_at, updated_at, entry_from, entry_at, log_at}
use Rattle.decode_answers.specs.LogWriting.{SpellsNoOpen, SpellsNoUpdate}
use Rattle.decode_answers.proofs.Opens.{passed_open}
use Rattle.decode_answers.proofs.Updates.{passed_update}

one_after_all : (k : List ℕ) (d : Data) (ms : Members) → as_object (one_document k d) ≡ Some ms → (members_len ms == 1) ≡ false → ⊥
one_after_all k d (member l e no_members) is h = cc
one_after_all k d no_members is h = cc
one_after_all k d (member l e (member n f ms)) is h = cc

pub entry_not_one : NotOneIsRange entry_at
unfolding entry_at one_member_at object_at
entry_not_one path null ms is h = absurd cc
entry_not_one path (boolean b) ms is h = absurd cc
entry_not_one path (number n) ms is h = absurd cc
entry_not_one path (string s) ms is h = absurd cc
entry_not_one path (array ds) ms is h = absurd cc
entry_not_one path (object no_members) ms is h = refl
entry_not_one path (object (member k d no_members)) ms is h = absurd (one_after_all k d ms is h)
entry_not_one path (object (member k d (member l e others))) ms is h = refl

pub entry_unknown : OtherIsUnknown entry_at (codes "opened" ∷ codes "update" ∷ [])
unfolding entry_at entry_from one_member_at object_at
entry_unknown path word d h =
    let a = or_parts (same_name word (codes "opened")) (is_among (codes "update" ∷ []) word) h in
    let b = or_parts (same_name word (codes "update")) false a.1 in
    rw (a.0, b.0) refl

pub other_word : OtherTextIsRange entry_at (is_among (codes "closed" ∷ codes "expired" ∷ codes "show" ∷ []))
unfolding entry_at
other_word path text h =
    let a = or_parts (same_name text (codes "closed")) (is_among (codes "expired" ∷ codes "show" ∷ []) text) h in
    let b = or_parts (same_name text (codes "expired")) (is_among (codes "show" ∷ []) text) a.1 in
    let c = or_parts (same_name text (codes "show")) false b.1 in
    rw (a.0, b.0, c.0) refl

pub no_entry : NoObjectIsKind entry_at
unfolding entry_at one_member_at object_at
no_entry path d is text = rw (text, is) refl

open_refused : (path text : List ℕ) (found : Option (List ℕ)) → octets_in text ≡ found → SpellsNoOpen text
    → (wanted path Range found >>= λ octets. kept path (is_one_open octets) (Opened octets)) ≡ Err (fault_at path Range)
open_refused path text None is never = refl
open_refused path text (Some octets) is never = elim (cases_Bool (is_one_open octets)) [
  | inl passes ↦ absurd (never octets (open_in (drop 19 octets)) is (passed_open octets passes))
  | inr fails ↦ rw fails refl
]

pub other_open : (path text : List ℕ) → SpellsNoOpen text
    → entry_at path (one_document (codes "opened") (string text)) ≡ Err (fault_at (member_path path (codes "opened")) Range)
unfolding entry_at entry_from one_member_at object_at opened_at octets_at text_at
other_open path text never = open_refused (member_path path (codes "opened")) text (octets_in text) refl never

update_refused : (path text : List ℕ) (found : Option (List ℕ)) → octets_in text ≡ found → SpellsNoUpdate text
    → (wanted path Range found >>= λ octets. kept path (is_one_update octets) (Updated octets)) ≡ Err (fault_at path Range)
update_refused path text None is never = refl
update_refused path text (Some octets) is never = elim (cases_Bool (is_one_update octets)) [
  | inl passes ↦ absurd (never octets (update_in (drop 19 octets)) is (passed_update octets passes))
  | inr fails ↦ rw fails refl
]

pub other_update : (path text : List ℕ) → SpellsNoUpdate text
    → entry_at path (one_document (codes "update") (string text)) ≡ Err (fault_at (member_path path (codes "update")) Range)
unfolding entry_at entry_from one_member_at object_at updated_at octets_at text_at
other_update path text never = update_refused (member_path path (codes "update")) text (octets_in text) refl never

pub log_missed : FirstIsMissed log_at (codes "events")
unfolding log_at
log_missed path d ms there none = rw (object_there path d ms there, absent (all_at entry_at AnyNumber) path (codes "events") d none) refl
