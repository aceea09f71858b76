-- Which kind of fault a value is that does not read.
use Rattle.std.proofs.Common.{◌≡◌, ℕ, false, nat_eq, [], ◌∷◌, Option, Some, None, is_some, refl, codes}
use Rattle.std.specs.Cmp.Lexicographic.{pointwise}
use Rattle.std.proofs.lemmas.Bool.{or_parts}
use Rattle.ov_types.specs.Name.{is_name}
use Rattle.ov_types.specs.Written.{address_of, block_of}
use Rattle.config_model.specs.Fields.{Reads, in_member, member_at, text_at, whole_at, name_at, address_at, prefix_at, list_at, all_at}
use Rattle.config_model.specs.Rule.{direction_at, end_at, protocol_at, action_at}
use Rattle.config_model.specs.Laws.{is_among, OtherTextIsRange, OtherValueIsKind, OtherActionIsRange, OtherNumberIsRange, NegativeIsRange, FractionIsKind, NoNumberIsKind, NoListIsKind, OtherCountIsRange}

none_of : {A : Type 0} (o : Option A) → is_some o ≡ false → o ≡ None
none_of None h = refl
none_of (Some x) h = cc

pub other_name : OtherTextIsRange name_at is_name
unfolding name_at text_at
other_name path text h = rw h refl

pub other_end : OtherTextIsRange end_at is_name
unfolding end_at
other_end path text h = rw (other_name path text h) refl

pub other_direction : OtherTextIsRange direction_at (is_among (codes ">" ∷ codes "<>" ∷ []))
unfolding direction_at text_at
other_direction path text h =
    let a = or_parts (pointwise nat_eq text (codes ">")) (is_among (codes "<>" ∷ []) text) h in
    let b = or_parts (pointwise nat_eq text (codes "<>")) false a.1 in
    rw (a.0, b.0) refl

pub other_protocol : OtherTextIsRange protocol_at (is_among (codes "any" ∷ []))
unfolding protocol_at
other_protocol path text h =
    let a = or_parts (pointwise nat_eq text (codes "any")) false h in
    rw a.0 refl

pub other_address : (low high : ℕ) → OtherTextIsRange (address_at low high) (λ text. is_some (address_of text))
unfolding address_at text_at
other_address low high path text h = rw (none_of (address_of text) h) refl

pub other_prefix : OtherTextIsRange prefix_at (λ text. is_some (block_of text))
unfolding prefix_at text_at
other_prefix path text h = rw (none_of (block_of text) h) refl

pub other_action : OtherActionIsRange
unfolding action_at in_member member_at text_at
other_action path text d at h =
    let a = or_parts (pointwise nat_eq text (codes "pass")) (is_among (codes "deny" ∷ codes "chain" ∷ []) text) h in
    let b = or_parts (pointwise nat_eq text (codes "deny")) (is_among (codes "chain" ∷ []) text) a.1 in
    let c = or_parts (pointwise nat_eq text (codes "chain")) false b.1 in
    rw (at, a.0, b.0, c.0) refl

pub no_text_for_name : OtherValueIsKind name_at
unfolding name_at text_at
no_text_for_name path d e = rw e refl

pub no_text_for_end : OtherValueIsKind end_at
unfolding end_at
no_text_for_end path d e = rw (no_text_for_name path d e) refl

pub no_text_for_direction : OtherValueIsKind direction_at
unfolding direction_at text_at
no_text_for_direction path d e = rw e refl

pub no_text_for_address : (low high : ℕ) → OtherValueIsKind (address_at low high)
unfolding address_at text_at
no_text_for_address low high path d e = rw e refl

pub no_text_for_prefix : OtherValueIsKind prefix_at
unfolding prefix_at text_at
no_text_for_prefix path d e = rw e refl

pub other_number : OtherNumberIsRange
unfolding whole_at
other_number low high path d n e h = rw (e, h) refl

pub negative_number : NegativeIsRange
unfolding whole_at
negative_number low high path d z e = rw e refl

pub fraction : FractionIsKind
unfolding whole_at
fraction low high path d x e = rw e refl

pub no_number : NoNumberIsKind
unfolding whole_at
no_number low high path d e = rw e refl

pub no_list : {A : Type 0} (reads : Reads A) → NoListIsKind reads
unfolding all_at list_at
no_list reads count path d e = rw e refl

pub other_count : {A : Type 0} (reads : Reads A) → OtherCountIsRange reads
unfolding all_at list_at
other_count reads count path d items e h = rw (e, h) refl
