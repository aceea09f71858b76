-- Groups that are read are of services of their own.
use Rattle.std.proofs.Common.{◌≡◌, ◌≢◌, ℕ, ◌+◌, ◌||◌, ◌&&◌, Bool, true, false, not, nat_le, List, [], ◌∷◌, ◌++◌, length, get_or, Ok, Err, refl, sym, ap, subst, ◌∙◌, IsTrue, inl, inr, arith}
use Rattle.std.specs.Prelude.{Result, codes}
use Rattle.std.specs.List.{All, AllPairs, list_all}
use Rattle.std.proofs.lemmas.Bool.{and_parts, cases_Bool, le-leb, not-true}
use Rattle.std.proofs.lemmas.List.{append_assoc, append-nil}
use Rattle.std.proofs.lemmas.List.Elements.{All-cons, All-weaker}
use Rattle.std.proofs.lemmas.List.Kept.{AllPairs-cons}
use Rattle.serde_json.specs.Data.{Data, Items, no_items, item, Members, string}
use Rattle.serde_json.specs.Events.{items_len}
use Rattle.ov_types.specs.Bounds.{is_from_to}
use Rattle.ov_types.specs.First.{same_name}
use Rattle.ov_types.specs.Name.{is_name}
use Rattle.ov_types.proofs.FirstLemmas.{same_name_iff, all_head, all_tail, pairs_head, pairs_tail}
use Rattle.config_types.specs.declared.config.Config.{Config}
use Rattle.config_model.specs.declared.fields.Count.TheVariants.{AnyNumber}
use Rattle.config_model.specs.Documents.{items_of, list_document, number_document}
use Rattle.config_model.specs.Faults.{Fault, ◌>>=◌, kept}
use Rattle.config_model.specs.Fields.{in_member, member_at, object_at, only_at, list_at, items_at, name_at, whole_at}
use Rattle.config_model.specs.Paths.{item_path, member_path}
use Rattle.config_model.proofs.HasJust.{bind_ok}
use Rattle.config_model.proofs.Read.{name_is_read, whole_is_read}
use Rattle.scale_out.specs.declared.groups.Group.{Group}
use Rattle.scale_out.specs.Form.{is_ascending, are_members, has_group_form}
use Rattle.scale_out.specs.GroupDocuments.{group_document, groups_document}
use Rattle.scale_out.specs.Reading.{has_service, is_grouped, service_at, few_at, members_at, group_at, groups_from, groups_at}
use Rattle.reach_plain.proofs.Becoming.{apart as names_apart}

either_false : (a b : Bool) → (a || b) ≡ false → (a ≡ false) × (b ≡ false)
either_false true b h = cc
either_false false b h = (refl, h)

kept_ok : {A : Type 0} (path : List ℕ) (passes : Bool) (x y : A) → kept path passes x ≡ Ok y → (passes ≡ true) × (kept path true x ≡ Ok y)
kept_ok path true x y h = (refl, h)
kept_ok path false x y h = cc

abbrev name_in : Result (List ℕ) Fault → List ℕ
name_in (Ok name) = name
name_in (Err f) = []

abbrev service_in : Result Group Fault → List ℕ
service_in (Ok g) = g.service
service_in (Err f) = []

abbrev groups_in : Result (List Group) Fault → List Group
groups_in (Ok gs) = gs
groups_in (Err f) = []

-- a service that the configuration has, and that no earlier group names
abbrev IsFree : Config → List Group → List ℕ → Type 0
IsFree c earlier name = (has_service c name ≡ true) × (is_grouped earlier name ≡ false)

service_is : (c : Config) (earlier : List Group) (path : List ℕ) (d : Data) (name : List ℕ) → service_at c earlier path d ≡ Ok name → IsFree c earlier name
unfolding service_at
service_is c earlier path d name h =
    let b = bind_ok (name_at path d) _ name h in
    let k = kept_ok path (has_service c b.0 && not (is_grouped earlier b.0)) b.0 name b.2 in
    let p = and_parts (has_service c b.0) (not (is_grouped earlier b.0)) k.0 in
    subst (IsFree c earlier) (ap name_in k.1) (p.0, not-true (is_grouped earlier b.0) p.1)

named_is : (c : Config) (earlier : List Group) (path : List ℕ) (d : Data) (name : List ℕ) → in_member (service_at c earlier) path (codes "service") d ≡ Ok name → IsFree c earlier name
unfolding in_member
named_is c earlier path d name h =
    let found = bind_ok (member_at path (codes "service") d) (service_at c earlier (member_path path (codes "service"))) name h in
    service_is c earlier (member_path path (codes "service")) found.0 name found.2

-- how a group is read on, from its members, from its service and from its numbers
abbrev with_numbers : List ℕ → Members → List ℕ → List ℕ → Result Group Fault
with_numbers path ms service numbers =
    only_at path (codes "service" ∷ codes "members" ∷ []) ms >>= λ done. Ok (record { service = service; members = numbers })

abbrev with_service : List ℕ → Data → Members → List ℕ → Result Group Fault
with_service path d ms service = in_member members_at path (codes "members") d >>= with_numbers path ms service

abbrev with_members : Config → List Group → List ℕ → Data → Members → Result Group Fault
with_members c earlier path d ms = in_member (service_at c earlier) path (codes "service") d >>= with_service path d ms

group_is : (c : Config) (earlier : List Group) (path : List ℕ) (d : Data) (g : Group) → group_at c earlier path d ≡ Ok g → IsFree c earlier g.service
unfolding group_at
group_is c earlier path d g h =
    let a = bind_ok (object_at path d) (with_members c earlier path d) g h in
    let b = bind_ok (in_member (service_at c earlier) path (codes "service") d) (with_service path d a.0) g a.2 in
    let m = bind_ok (in_member members_at path (codes "members") d) (with_numbers path a.0 b.0) g b.2 in
    let z = bind_ok (only_at path (codes "service" ∷ codes "members" ∷ []) a.0) (λ done. Ok (record { service = b.0; members = m.0 })) g m.2 in
    subst (IsFree c earlier) (ap service_in z.2) (named_is c earlier path d b.0 b.1)

grouped_before : (xs : List Group) (g : Group) (name : List ℕ) → is_grouped (xs ++ g ∷ []) name ≡ false
    → (is_grouped xs name ≡ false) × (same_name g.service name ≡ false)
grouped_before [] g name h = (refl, (either_false (same_name g.service name) false h).0)
grouped_before (x ∷ xs) g name h =
    let p = either_false (same_name x.service name) (is_grouped (xs ++ g ∷ []) name) h in
    let q = grouped_before xs g name p.1 in
    (rw (p.0, q.0) refl, q.1)

abbrev Apart : Group → Group → Type 0
Apart g h = g.service ≢ h.service

no_match : (a b : List ℕ) → a ≢ b → same_name a b ≡ false
no_match a b apart =
    elim (cases_Bool (same_name a b)) [
      | inl e ↦ absurd (apart ((same_name_iff a b).0 e))
      | inr e ↦ e
    ]

-- what a list of groups adds to earlier ones
record Adds (c : Config) (earlier gs : List Group) : Type 0 where
  added : List Group
  is : gs ≡ earlier ++ added
  known : All (λ g. has_service c g.service ≡ true) added
  free : All (λ g. is_grouped earlier g.service ≡ false) added
  apart : AllPairs Apart added

adds : (c : Config) (path : List ℕ) (i : ℕ) (earlier : List Group) (ds : Items) (gs : List Group) → groups_from c path i earlier ds ≡ Ok gs → Adds c earlier gs
adds c path i earlier no_items gs h = record {
  added = [];
  is = sym (append-nil earlier ∙ ap groups_in h);
  known = λ k d lt. absurd (omega (arith, lt));
  free = λ k d lt. absurd (omega (arith, lt));
  apart = λ k j d lt within. absurd (omega (arith, within));
}
adds c path i earlier (item d ds) gs h =
    let b = bind_ok (group_at c earlier (item_path path i) d) _ gs h in
    let g = b.0 in
    let first : IsFree c earlier g.service = group_is c earlier (item_path path i) d g b.1 in
    let on = adds c path (i + 1) (earlier ++ g ∷ []) ds gs b.2 in
    let Free : Group → Type 0 = λ x. is_grouped (earlier ++ g ∷ []) x.service ≡ false in
    record {
      added = g ∷ on.added;
      is = on.is ∙ append_assoc earlier (g ∷ []) on.added;
      known = All-cons (λ x. has_service c x.service ≡ true) g on.added first.0 on.known;
      free = All-cons (λ x. is_grouped earlier x.service ≡ false) g on.added first.1
          (All-weaker Free (λ x. is_grouped earlier x.service ≡ false) (λ x e. (grouped_before earlier g x.service e).0) on.added on.free);
      apart = AllPairs-cons Apart g on.added
          (All-weaker Free (Apart g) (λ x e. names_apart g.service x.service (grouped_before earlier g x.service e).1) on.added on.free) on.apart;
    }

pub services_of_their_own : (c : Config) (path : List ℕ) (d : Data) (gs : List Group) → groups_at c path d ≡ Ok gs
    → All (λ g. has_service c g.service ≡ true) gs × AllPairs (λ g h. g.service ≢ h.service) gs
unfolding groups_at
services_of_their_own c path d gs h =
    let b = bind_ok (list_at AnyNumber path d) (groups_from c path 0 []) gs h in
    let read = adds c path 0 [] b.0 gs b.2 in
    let P : List Group → Type 0 = λ xs. All (λ g. has_service c g.service ≡ true) xs × AllPairs Apart xs in
    subst P (sym read.is) (read.known, read.apart)

-- each such list of groups has a document, which reads as it

module _ {A : Type 0} (document : A → Data) where
  counted : (xs : List A) → items_len (items_of document xs) ≡ length xs
  counted [] = refl
  counted (x ∷ xs) = rw (counted xs) refl

from_zero : (n : ℕ) → nat_le n 65535 ≡ true → is_from_to 0 65535 n ≡ true
from_zero n h = let least : nat_le 0 n ≡ true = le-leb 0 n (omega arith) in rw (least, h) refl

numbers_are_read : (path : List ℕ) (i : ℕ) (xs : List ℕ) → list_all (λ m. nat_le m 65535) xs ≡ true
    → items_at (whole_at 0 65535) path i (items_of number_document xs) ≡ Ok xs
unfolding items_at
numbers_are_read path i [] h = refl
numbers_are_read path i (x ∷ xs) h =
    let p = and_parts (nat_le x 65535) (list_all (λ m. nat_le m 65535) xs) h in
    rw (whole_is_read 0 65535 x (from_zero x p.0) (item_path path i), numbers_are_read path (i + 1) xs p.1) refl

members_are_read : (path : List ℕ) (xs : List ℕ) → are_members xs ≡ true → members_at path (list_document number_document xs) ≡ Ok xs
unfolding members_at few_at list_at are_members
members_are_read path xs h =
    let p = and_parts (is_from_to 1 16 (length xs) && list_all (λ m. nat_le m 65535) xs) (is_ascending xs) h in
    let q = and_parts (is_from_to 1 16 (length xs)) (list_all (λ m. nat_le m 65535) xs) p.0 in
    rw (counted number_document xs, q.0, numbers_are_read path 0 xs q.1, p.1) refl

service_is_read : (c : Config) (earlier : List Group) (path name : List ℕ) → is_name name ≡ true → IsFree c earlier name → service_at c earlier path (string name) ≡ Ok name
unfolding service_at
service_is_read c earlier path name form free = rw (name_is_read name form path, free.0, free.1) refl

group_is_read : (c : Config) (earlier : List Group) (path : List ℕ) (g : Group) → has_group_form g ≡ true → IsFree c earlier g.service → group_at c earlier path (group_document g) ≡ Ok g
unfolding group_at in_member member_at object_at only_at
group_is_read c earlier path g h free =
    let p = and_parts (is_name g.service) (are_members g.members) h in
    rw (service_is_read c earlier (member_path path (codes "service")) g.service p.0 free, members_are_read (member_path path (codes "members")) g.members p.1) refl

still_free : (xs : List Group) (g : Group) (name : List ℕ) → is_grouped xs name ≡ false → g.service ≢ name → is_grouped (xs ++ g ∷ []) name ≡ false
still_free [] g name h apart = rw (no_match g.service name apart) refl
still_free (x ∷ xs) g name h apart =
    let p = either_false (same_name x.service name) (is_grouped xs name) h in
    rw (p.0, still_free xs g name p.1 apart) refl

all_are_read : (c : Config) (path : List ℕ) (i : ℕ) (earlier xs : List Group) → list_all has_group_form xs ≡ true → All (λ g. has_service c g.service ≡ true) xs
    → All (λ g. is_grouped earlier g.service ≡ false) xs → AllPairs Apart xs → groups_from c path i earlier (items_of group_document xs) ≡ Ok (earlier ++ xs)
all_are_read c path i earlier [] form known free apart = ap (λ (gs : List Group). Ok gs) (sym (append-nil earlier))
all_are_read c path i earlier (g ∷ xs) form known free apart =
    let p = and_parts (has_group_form g) (list_all has_group_form xs) form in
    let read : group_at c earlier (item_path path i) (group_document g) ≡ Ok g =
    group_is_read c earlier (item_path path i) g p.0 (all_head (λ x. has_service c x.service ≡ true) g xs known, all_head (λ x. is_grouped earlier x.service ≡ false) g xs free) in
    let others = all_tail (λ x. is_grouped earlier x.service ≡ false) g xs free in
    let from = pairs_head Apart g xs apart in
    let on = all_are_read c path (i + 1) (earlier ++ g ∷ []) xs p.1 (all_tail (λ x. has_service c x.service ≡ true) g xs known)
    (λ k d lt. still_free earlier g (get_or xs k d).service (others k d lt) (from k d lt)) (pairs_tail Apart g xs apart) in
    rw read (on ∙ ap (λ (gs : List Group). Ok gs) (append_assoc earlier (g ∷ []) xs))

pub documents_are_read : (c : Config) (gs : List Group) → IsTrue (list_all has_group_form gs) → All (λ g. has_service c g.service ≡ true) gs → AllPairs (λ g h. g.service ≢ h.service) gs
    → (path : List ℕ) → groups_at c path (groups_document gs) ≡ Ok gs
unfolding groups_at list_at
documents_are_read c gs form known apart path = all_are_read c path 0 [] gs form known (λ k d lt. refl) apart
