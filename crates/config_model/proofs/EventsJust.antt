-- What reads as an edit or an event has the one member of its word.
use Rattle.std.proofs.Common.{◌≡◌, ℕ, true, nat_eq, List, [], ◌∷◌, None, is_some, Ok, Err, refl, sym, subst, ap, ◌∙◌, codes, inl, inr}
use Rattle.std.specs.Prelude.{Result}
use Rattle.std.specs.Cmp.Lexicographic.{pointwise, same_text}
use Rattle.std.proofs.lemmas.Bool.{cases_Bool}
use Rattle.serde_json.specs.Data.{Data, no_members, member, null, boolean, number, string, array, object}
use Rattle.serde_json.specs.Find.{get}
use Rattle.config_types.specs.declared.edit.Edit.{Edit}
use Rattle.config_types.specs.declared.edit.Edit.TheVariants.{Put, Delete}
use Rattle.config_types.specs.declared.event.Event.{Event}
use Rattle.config_types.specs.declared.event.Event.TheVariants as Events
use Rattle.config_model.specs.Paths.{member_path}
use Rattle.config_model.specs.Faults.{Fault}
use Rattle.config_model.specs.OneMember.{one_member_at}
use Rattle.config_model.specs.Fields.{object_at, name_at}
use Rattle.config_model.specs.Edit.{kind_at, object_of_kind_at, put_at, delete_at, edit_from, edit_at}
use Rattle.config_model.specs.Input.{packet_at}
use Rattle.config_model.specs.Event.{two_names_at, names_and_number_at, event_from, event_of_text, event_of, event_at, run_at}
use Rattle.config_model.specs.EventDocuments.{one_document, edit_word, event_word}
use Rattle.config_model.specs.EventLaws.{EditHasJust, EventHasJust, RunHasJust}
use Rattle.config_model.specs.Laws.{HasJust, FirstIsMissed}
use Rattle.config_model.specs.Topology.{topology_at}
use Rattle.config_model.proofs.HasJust.{bind_ok, is_there, is_object, has_no_other}
use Rattle.config_model.proofs.Missed.{object_there, absent}

abbrev read_as : {A : Type 0} → A → Result A Fault
read_as x = Ok x

ok_is : {A : Type 0} (a b : A) → read_as a ≡ read_as b → a ≡ b
ok_is a b h = cc

-- an object that reads by its one member is written with that member alone
alone : (path : List ℕ) (d : Data) (m : List ℕ × Data) → one_member_at path d ≡ Ok m → d ≡ one_document m.0 m.1
unfolding one_member_at object_at
alone path null m h = absurd (cc)
alone path (boolean b) m h = absurd (cc)
alone path (number n) m h = absurd (cc)
alone path (string s) m h = absurd (cc)
alone path (array ds) m h = absurd (cc)
alone path (object no_members) m h = absurd (cc)
alone path (object (member k v no_members)) m h = ap (λ (p : List ℕ × Data). one_document p.0 p.1) (ok_is (k, v) m h)
alone path (object (member k v (member l w ms))) m h = absurd (cc)

just_one : (word : List ℕ) (v : Data) → is_some (get word (one_document word v)) ≡ true → pointwise nat_eq word word ≡ true → HasJust (word ∷ []) [] (one_document word v)
just_one word v there known = record {
  members = member word v no_members;
  is_object = refl;
  has_each = rw there refl;
  has_no_other = rw known refl;
}

same : (word x : List ℕ) → pointwise nat_eq word x ≡ true → word ≡ x
same word x h = same_text word x (sym h)

put_word : (path : List ℕ) (d : Data) (e : Edit) → put_at path d ≡ Ok e → codes "put" ≡ edit_word e
unfolding put_at
put_word path d e h =
    let a = bind_ok (one_member_at path d) _ e h in
    let b = bind_ok (kind_at (member_path path a.0.0) a.0.0) _ e a.2 in
    let c = bind_ok (object_of_kind_at b.0 (member_path path a.0.0) a.0.1) _ e b.2 in
    ap edit_word (ok_is (Put c.0) e c.2)

delete_word : (path : List ℕ) (d : Data) (e : Edit) → delete_at path d ≡ Ok e → codes "delete" ≡ edit_word e
unfolding delete_at
delete_word path d e h =
    let a = bind_ok (one_member_at path d) _ e h in
    let b = bind_ok (kind_at (member_path path a.0.0) a.0.0) _ e a.2 in
    let c = bind_ok (name_at (member_path path a.0.0) a.0.1) _ e b.2 in
    ap edit_word (ok_is (Delete b.0 c.0) e c.2)

edit_from_word : (word path : List ℕ) (d : Data) (e : Edit) → edit_from word path d ≡ Ok e → word ≡ edit_word e
edit_from_word word path d e h =
    elim (cases_Bool (pointwise nat_eq word (codes "put"))) [
      | inl p ↦ same word (codes "put") p ∙ put_word path d e (rw p at h)
      | inr p ↦ elim (cases_Bool (pointwise nat_eq word (codes "delete"))) [
        | inl q ↦ same word (codes "delete") q ∙ delete_word path d e (rw (p, q) at h)
        | inr q ↦ let never : Err _ ≡ Ok e = rw (p, q) at h in absurd (cc)
      ]
    ]

just_edit : (e : Edit) (v : Data) → HasJust (edit_word e ∷ []) [] (one_document (edit_word e) v)
just_edit (Put x) v = just_one (codes "put") v refl refl
just_edit (Delete kind name) v = just_one (codes "delete") v refl refl

pub edit_has_just : EditHasJust
unfolding edit_at
edit_has_just path d e h =
    let a = bind_ok (one_member_at path d) _ e h in
    let word : a.0.0 ≡ edit_word e = edit_from_word a.0.0 _ a.0.1 e a.2 in
    let written : d ≡ one_document (edit_word e) a.0.1 = alone path d a.0 a.1 ∙ ap (λ (w : List ℕ). one_document w a.0.1) word in
    subst (HasJust (edit_word e ∷ []) []) (sym written) (just_edit e a.0.1)

event_from_word : (word path : List ℕ) (d : Data) (e : Event) → event_from word path d ≡ Ok e → word ≡ event_word e
unfolding event_from
event_from_word word path d e h =
    elim (cases_Bool (pointwise nat_eq word (codes "edit"))) [
      | inl p ↦ let a = bind_ok (edit_at path d) _ e (rw p at h) in same word (codes "edit") p ∙ ap event_word {x = Events.Edit a.0} (ok_is (Events.Edit a.0) e a.2)
      | inr p ↦ elim (cases_Bool (pointwise nat_eq word (codes "deliver"))) [
        | inl q ↦ let a = bind_ok (names_and_number_at path d) _ e (rw (p, q) at h) in same word (codes "deliver") q ∙ ap event_word {x = Events.Deliver a.0.0 a.0.1 a.0.2} (ok_is (Events.Deliver a.0.0 a.0.1 a.0.2) e a.2)
        | inr q ↦ elim (cases_Bool (pointwise nat_eq word (codes "deliver-bytes"))) [
          | inl r ↦ let a = bind_ok (names_and_number_at path d) _ e (rw (p, q, r) at h) in same word (codes "deliver-bytes") r ∙ ap event_word {x = Events.DeliverOctets a.0.0 a.0.1 a.0.2} (ok_is (Events.DeliverOctets a.0.0 a.0.1 a.0.2) e a.2)
          | inr r ↦ elim (cases_Bool (pointwise nat_eq word (codes "lose"))) [
            | inl s ↦ let a = bind_ok (two_names_at path d) _ e (rw (p, q, r, s) at h) in same word (codes "lose") s ∙ ap event_word {x = Events.Lose a.0.0 a.0.1} (ok_is (Events.Lose a.0.0 a.0.1) e a.2)
            | inr s ↦ elim (cases_Bool (pointwise nat_eq word (codes "connect"))) [
              | inl t ↦ let a = bind_ok (two_names_at path d) _ e (rw (p, q, r, s, t) at h) in same word (codes "connect") t ∙ ap event_word {x = Events.Connect a.0.0 a.0.1} (ok_is (Events.Connect a.0.0 a.0.1) e a.2)
              | inr t ↦ elim (cases_Bool (pointwise nat_eq word (codes "restart"))) [
                | inl u ↦ let a = bind_ok (name_at path d) _ e (rw (p, q, r, s, t, u) at h) in same word (codes "restart") u ∙ ap event_word {x = Events.Restart a.0} (ok_is (Events.Restart a.0) e a.2)
                | inr u ↦ elim (cases_Bool (pointwise nat_eq word (codes "show"))) [
                  | inl v ↦ let a = bind_ok (name_at path d) _ e (rw (p, q, r, s, t, u, v) at h) in same word (codes "show") v ∙ ap event_word {x = Events.Show a.0} (ok_is (Events.Show a.0) e a.2)
                  | inr v ↦ elim (cases_Bool (pointwise nat_eq word (codes "trace"))) [
                    | inl w ↦ let a = bind_ok (packet_at path d) _ e (rw (p, q, r, s, t, u, v, w) at h) in same word (codes "trace") w ∙ ap event_word {x = Events.Trace a.0} (ok_is (Events.Trace a.0) e a.2)
                    | inr w ↦ elim (cases_Bool (pointwise nat_eq word (codes "break"))) [
                      | inl x ↦ let a = bind_ok (names_and_number_at path d) _ e (rw (p, q, r, s, t, u, v, w, x) at h) in same word (codes "break") x ∙ ap event_word {x = Events.Break a.0.0 a.0.1 a.0.2} (ok_is (Events.Break a.0.0 a.0.1 a.0.2) e a.2)
                      | inr x ↦ let never : Err _ ≡ Ok e = rw (p, q, r, s, t, u, v, w, x) at h in absurd (cc)
                    ]
                  ]
                ]
              ]
            ]
          ]
        ]
      ]
    ]

just_event : (e : Event) (v : Data) → HasJust (event_word e ∷ []) [] (one_document (event_word e) v)
just_event (Events.Edit x) v = just_one (codes "edit") v refl refl
just_event (Events.Deliver from to n) v = just_one (codes "deliver") v refl refl
just_event (Events.DeliverOctets from to n) v = just_one (codes "deliver-bytes") v refl refl
just_event (Events.Lose a b) v = just_one (codes "lose") v refl refl
just_event (Events.Connect a b) v = just_one (codes "connect") v refl refl
just_event (Events.Restart node) v = just_one (codes "restart") v refl refl
just_event Events.Round v = just_one (codes "round") v refl refl
just_event Events.Settle v = just_one (codes "settle") v refl refl
just_event (Events.Show node) v = just_one (codes "show") v refl refl
just_event (Events.Trace p) v = just_one (codes "trace") v refl refl
just_event (Events.Break from to n) v = just_one (codes "break") v refl refl

text_word : (path text : List ℕ) (e : Event) → event_of_text path text ≡ Ok e → text ≡ event_word e
text_word path text e h =
    elim (cases_Bool (pointwise nat_eq text (codes "round"))) [
      | inl p ↦ let found : read_as Events.Round ≡ Ok e = rw p at h in same text (codes "round") p ∙ ap event_word (ok_is Events.Round e found)
      | inr p ↦ elim (cases_Bool (pointwise nat_eq text (codes "settle"))) [
        | inl q ↦ let found : read_as Events.Settle ≡ Ok e = rw (p, q) at h in same text (codes "settle") q ∙ ap event_word (ok_is Events.Settle e found)
        | inr q ↦ let never : Err _ ≡ Ok e = rw (p, q) at h in absurd (cc)
      ]
    ]

-- an event of an object
member_has_just : (path : List ℕ) (d : Data) (e : Event) → event_of path d None ≡ Ok e → HasJust (event_word e ∷ []) [] d
member_has_just path d e h =
    let a = bind_ok (one_member_at path d) _ e h in
    let word : a.0.0 ≡ event_word e = event_from_word a.0.0 _ a.0.1 e a.2 in
    let written : d ≡ one_document (event_word e) a.0.1 = alone path d a.0 a.1 ∙ ap (λ (w : List ℕ). one_document w a.0.1) word in
    subst (HasJust (event_word e ∷ []) []) (sym written) (just_event e a.0.1)

pub event_has_just : EventHasJust
unfolding event_at
event_has_just path null e h = inr (member_has_just path null e h)
event_has_just path (boolean b) e h = inr (member_has_just path (boolean b) e h)
event_has_just path (number n) e h = inr (member_has_just path (number n) e h)
event_has_just path (string s) e h = inl (ap (λ (t : List ℕ). string t) (text_word path s e h))
event_has_just path (array ds) e h = inr (member_has_just path (array ds) e h)
event_has_just path (object ms) e h = inr (member_has_just path (object ms) e h)

pub run_has_just : RunHasJust
unfolding run_at
run_has_just path d x h =
    let a = bind_ok _ _ x h in
    let b = bind_ok _ _ x a.2 in
    let c = bind_ok _ _ x b.2 in
    let e = bind_ok _ _ x c.2 in
    let z = bind_ok _ _ x e.2 in
    record {
      members = a.0;
      is_object = is_object path d a.0 a.1;
      has_each = rw (is_there _ _ _ d b.0 b.1, is_there _ _ _ d c.0 c.1, is_there _ _ _ d e.0 e.1) refl;
      has_no_other = has_no_other path _ a.0 z.1;
    }

pub run_missed : FirstIsMissed run_at (codes "topology")
unfolding run_at
run_missed path d ms there none = rw (object_there path d ms there, absent topology_at path (codes "topology") d none) refl
