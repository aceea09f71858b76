-- Expectations of the written form have documents, which read as them, and what reads so has just its members.
use Rattle.std.proofs.Common.{◌≡◌, ◌<◌, ◌^◌, ◌&&◌, ℕ, nat_le, leb, Bool, true, false, List, [], ◌∷◌, Some, Ok, refl, arith, codes, nat_eq}
use Rattle.std.specs.Cmp.Lexicographic.{pointwise}
use Rattle.std.specs.List.{list_all}
use Rattle.std.proofs.lemmas.Bool.{and_parts, le-leb, leb-true, or_parts}
use Rattle.serde_json.specs.Data.{string}
use Rattle.ov_types.specs.Texts.{address_text}
use Rattle.ov_types.specs.Written.{address_of}
use Rattle.ov_types.specs.declared.prefix.Addr.{Addr}
use Rattle.ov_types.proofs.OneText.{address_has_one_text}
use Rattle.config_model.specs.declared.fields.Count.TheVariants.{AnyNumber}
use Rattle.config_model.specs.Documents.{number_document}
use Rattle.config_model.specs.Fields.{address_at, in_member, member_at, object_at, only_at, text_at, whole_at}
use Rattle.config_model.specs.Laws.{IsRead, compile_form, is_among}
use Rattle.config_model.proofs.HasJust.{bind_ok, has_no_other, is_object, is_there}
use Rattle.config_model.proofs.Read.{config_is_read, list_is_read, topology_is_read, whole_is_read}
use Rattle.config_types.specs.Form.{has_config_form, has_packet_form, has_topology_form}
use Rattle.inspect_answers.specs.ExpectDocuments.{ExpectHasJust, ExpectationHasJust, NothingElseIsExpected, OtherIsNoExpectation}
use Rattle.inspect_answers.specs.ExpectDocuments.{expect_document, expect_form, expectation_document, expectation_form}
use Rattle.inspect_answers.specs.ExpectDocuments.{expected_document, expected_form, service_document, service_form}
use Rattle.inspect_answers.specs.Expectations.{delivered_at, expect_at, expectation_at, expected_at, service_number_at}
use Rattle.inspect_answers.specs.declared.expectation.Expected.TheVariants.{Dropped, NoSourcePort, NoDestination, NoRoute, Denied, Delivered}

zero_le : (n : ℕ) → leb 0 n ≡ true
zero_le n = le-leb 0 n (omega arith)

whole_to_is_read : (high n : ℕ) → nat_le n high ≡ true → (path : List ℕ) → whole_at 0 high path (number_document n) ≡ Ok n
whole_to_is_read high n h path = whole_is_read 0 high n (rw (zero_le n, h) refl) path

address_is_read : (a : Addr) → nat_le a.0 0xffff_ffff ≡ true → (path : List ℕ) → address_at 0 0xffff_ffff path (string (address_text a.0)) ≡ Ok a
unfolding address_at text_at
address_is_read a h path =
    let small : a.0 < 2 ^ 32 = omega (arith, leb-true a.0 0xffff_ffff h) in
    let text : address_of (address_text a.0) ≡ Some a.0 = (address_has_one_text (address_text a.0) a.0).1 (small, refl) in
    rw (text, zero_le a.0, h) refl

service_is_read : IsRead service_number_at service_form service_document
unfolding service_number_at
service_is_read s h path = rw (whole_to_is_read 65535 s.0 h path) refl

expected_is_read : IsRead expected_at expected_form expected_document
unfolding expected_at delivered_at in_member member_at object_at only_at
expected_is_read Dropped h path = refl
expected_is_read NoSourcePort h path = refl
expected_is_read NoDestination h path = refl
expected_is_read NoRoute h path = refl
expected_is_read Denied h path = refl
expected_is_read (Delivered port services) h path =
    let p = and_parts (nat_le port.0 524271) (list_all service_form services) h in
    rw (
      whole_to_is_read 524271 port.0 p.0,
      list_is_read service_number_at service_form service_document service_is_read AnyNumber services p.1 refl,
    ) refl

pub expectation_is_read : IsRead expectation_at expectation_form expectation_document
unfolding expectation_at in_member member_at object_at only_at has_packet_form
expectation_is_read e h path =
    let n = e.packet in
    let o = and_parts (has_packet_form n) (expected_form e.expected) h in
    let p = and_parts (nat_le n.source.0 524271 && nat_le n.destination.0 0xffff_ffff && nat_le n.tuple.proto 255 && nat_le n.tuple.sport 65535) (nat_le n.tuple.dport 65535) o.0 in
    let q = and_parts (nat_le n.source.0 524271 && nat_le n.destination.0 0xffff_ffff && nat_le n.tuple.proto 255) (nat_le n.tuple.sport 65535) p.0 in
    let r = and_parts (nat_le n.source.0 524271 && nat_le n.destination.0 0xffff_ffff) (nat_le n.tuple.proto 255) q.0 in
    let s = and_parts (nat_le n.source.0 524271) (nat_le n.destination.0 0xffff_ffff) r.0 in
    rw (
      whole_to_is_read 524271 n.source.0 s.0,
      address_is_read n.destination s.1,
      whole_to_is_read 255 n.tuple.proto r.1,
      whole_to_is_read 65535 n.tuple.sport q.1,
      whole_to_is_read 65535 n.tuple.dport p.1,
      expected_is_read e.expected o.1,
    ) refl

pub expect_is_read : IsRead expect_at expect_form expect_document
unfolding expect_at in_member member_at object_at only_at
expect_is_read r h path =
    let o = and_parts (compile_form r.input) (list_all expectation_form r.packets) h in
    let p = and_parts (has_topology_form r.input.topology) (has_config_form r.input.config) o.0 in
    rw (
      topology_is_read r.input.topology p.0,
      config_is_read r.input.config p.1,
      list_is_read expectation_at expectation_form expectation_document expectation_is_read AnyNumber r.packets o.1 refl,
    ) refl

pub expectation_has_just : ExpectationHasJust
unfolding expectation_at
expectation_has_just path d x h =
    let a = bind_ok _ _ x h in
    let b = bind_ok _ _ x a.2 in
    let c = bind_ok _ _ x b.2 in
    let e = bind_ok _ _ x c.2 in
    let f = bind_ok _ _ x e.2 in
    let g = bind_ok _ _ x f.2 in
    let k = bind_ok _ _ x g.2 in
    let z = bind_ok _ _ x k.2 in
    record {
      members = a.0;
      is_object = is_object path d a.0 a.1;
      has_each = rw (is_there _ _ _ d b.0 b.1, is_there _ _ _ d c.0 c.1, is_there _ _ _ d e.0 e.1, is_there _ _ _ d f.0 f.1, is_there _ _ _ d g.0 g.1, is_there _ _ _ d k.0 k.1) refl;
      has_no_other = has_no_other path _ a.0 z.1;
    }

pub expect_has_just : ExpectHasJust
unfolding expect_at
expect_has_just path d x h =
    let a = bind_ok _ _ x h in
    let b = bind_ok _ _ x a.2 in
    let c = bind_ok _ _ x b.2 in
    let e = bind_ok _ _ x c.2 in
    let z = bind_ok _ _ x e.2 in
    record {
      members = a.0;
      is_object = is_object path d a.0 a.1;
      has_each = rw (is_there _ _ _ d b.0 b.1, is_there _ _ _ d c.0 c.1, is_there _ _ _ d e.0 e.1) refl;
      has_no_other = has_no_other path _ a.0 z.1;
    }

abbrev same : List ℕ → List ℕ → Bool
same text x = pointwise nat_eq text x

pub other_is_none : OtherIsNoExpectation
unfolding expected_at
other_is_none path text h =
    let a = or_parts (same text (codes "dropped")) (is_among (codes "dropped no-source-port" ∷ codes "dropped no-destination" ∷ codes "dropped no-route" ∷ codes "dropped denied" ∷ []) text) h in
    let b = or_parts (same text (codes "dropped no-source-port")) (is_among (codes "dropped no-destination" ∷ codes "dropped no-route" ∷ codes "dropped denied" ∷ []) text) a.1 in
    let c = or_parts (same text (codes "dropped no-destination")) (is_among (codes "dropped no-route" ∷ codes "dropped denied" ∷ []) text) b.1 in
    let d = or_parts (same text (codes "dropped no-route")) (is_among (codes "dropped denied" ∷ []) text) c.1 in
    let e = or_parts (same text (codes "dropped denied")) false d.1 in
    rw (a.0, b.0, c.0, d.0, e.0) refl

pub nothing_else : NothingElseIsExpected
unfolding expected_at delivered_at object_at
nothing_else path d text none = rw (text, none) refl
