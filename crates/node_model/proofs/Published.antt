-- An agent publishes each attachment of the slice in use, with the lowest label of an instance and a prefix.
use Rattle.std.specs.Prelude.{◌≡◌, ◌↔◌, ℕ, ◌≤◌, ◌<◌, List, [], ◌∷◌, ◌++◌, map, true, false, cond, T}
use Rattle.std.specs.declared.cmp.Ordering.{Ordering}
use Rattle.std.specs.declared.cmp.Ordering.TheVariants.{Less, Equal, Greater}
use Rattle.std.specs.Ordering.{nat_cmp, is_lt, is_eq, ordering_then}
use Rattle.std.specs.Cmp.{tied_itself, ranked}
use Rattle.std.specs.declared.option.Option.{Option}
use Rattle.std.specs.declared.option.Option.TheVariants.{Some, None}
use Rattle.std.specs.List.{filter_map, flat_map, cons_option}
use Rattle.std.specs.FinMap.{get, entries, find, get-from_entries, entries_sorted, is_sorted}
use Rattle.std.proofs.Common.{refl, sym, ◌∙◌, ap, subst, inl, inr, arith}
use Rattle.ov_types.specs.Prefix.{Block}
use Rattle.ov_types.specs.declared.numbers.InstanceId.{InstanceId}
use Rattle.ov_types.specs.declared.objects.LowKey.{LowKey}
use Rattle.ov_types.specs.declared.objects.LowKey.TheVariants as key
use Rattle.ov_types.specs.declared.objects.LowValue.{LowValue}
use Rattle.ov_types.specs.declared.objects.LowValue.TheVariants as low
use Rattle.node_model.specs.Members.{Member}
use Rattle.node_model.specs.Keys.{Key, Low, Publish, Subscribe, key_cmp}
use Rattle.node_model.specs.Values.{Value, Object, Route, Entry, Label}
use Rattle.node_model.specs.Maps.{low_entry, objects}
use Rattle.node_model.specs.Agent.{Holdings, first_some, slice_in_use, publication, needed_by, told_of, wanted, IsPublished}
use Rattle.node_model.proofs.Members.{none_some, second_of_and, found, from_find, in_flat_map, from_filter_map, first_below}
use Rattle.node_model.proofs.Objects.{low_entry_parts}
use Rattle.node_model.proofs.Orders.{key_total, key_exact}
use Rattle.node_model.proofs.Wanted.{named, told}
use Rattle.node_model.proofs.Heard.{find_either}

-- ---- the objects of a map stand in the order of their keys
abbrev pub IsBefore : LowKey → LowKey → Type 0
IsBefore a b = T (is_lt (key_cmp (Low a) (Low b)))

abbrev pub Rise : List (LowKey × LowValue) → Type 0
Rise [] = Unit {0}
Rise (e ∷ es) = ((f : LowKey × LowValue) → Member f es → IsBefore e.0 f.0) × Rise es

pub rise_from : (es : List (Key × Value)) → T (is_sorted key_cmp es) → Rise (filter_map (λ e. low_entry e.0 e.1) es)
rise_from [] s = tt
rise_from (e ∷ es) s = with_first (low_entry e.0 e.1) refl (rise_from es (search (second_of_and, s)))
  where
    with_first : (o : Option (LowKey × LowValue)) → low_entry e.0 e.1 ≡ o → Rise (filter_map (λ e. low_entry e.0 e.1) es) → Rise (cons_option o (filter_map (λ e. low_entry e.0 e.1) es))
    with_first None is rest = rest
    with_first (Some x) is rest = (
      (λ f m.
          let q = from_filter_map (λ (e : Key × Value). low_entry e.0 e.1) f es m in
          let below = first_below key_total e q.0 es s q.1 in
          let at : e.0 ≡ Low x.0 = (low_entry_parts e.0 e.1 x is).0 in
          let there : q.0.0 ≡ Low f.0 = (low_entry_parts q.0.0 q.0.1 f q.2).0 in
          subst (λ (k : Key). T (is_lt (key_cmp k (Low f.0)))) at (subst (λ (k : Key). T (is_lt (key_cmp e.0 k))) there below)),
      rest,
    )

pub rise_slice : (h : Holdings) → Rise (slice_in_use h)
rise_slice [] = tt
rise_slice (s ∷ h) = elim s.is_up as (λ b. Rise (cond b (objects s.map) (slice_in_use h))) [ true ↦ rise_from (entries s.map) (entries_sorted s.map) | false ↦ rise_slice h ]

-- attachments go by label
lower : (m n : ℕ) → IsBefore (key.Attach m) (key.Attach n) → m ≤ n
lower m n h = by_case (nat_cmp m n) refl h
  where
    by_case : (r : Ordering) → nat_cmp m n ≡ r → T (is_lt (ordering_then r Equal)) → m ≤ n
    by_case Less e h = let below : m < n = ranked m n Less (sym e) in omega arith
    by_case Equal e h = absurd h
    by_case Greater e h = absurd h

-- ---- what an object publishes
record Publishes (k : LowKey) (v : LowValue) (at : Key) (w : Value) : Type 0 where
  label : ℕ
  key_is : k ≡ key.Attach label
  value_is : w ≡ Label (record { 0 = label })
  whole : publication k v ≡ told at w ∷ []

publishes_from : (k : LowKey) (v : LowValue) (at : Key) (w : Value) → Member (told at w) (publication k v) → Publishes k v at w
publishes_from (key.Attach label) (low.AttachPort port instance address node) at w (inl e) = record { label = label; key_is = refl; value_is = ap (λ (x : Key × Value). x.1) (sym e); whole = ap (λ (x : Key × Value). x ∷ []) e }
publishes_from (key.Attach label) (low.AttachCircuit circuit service node) at w (inl e) = record { label = label; key_is = refl; value_is = ap (λ (x : Key × Value). x.1) (sym e); whole = ap (λ (x : Key × Value). x ∷ []) e }
publishes_from (key.Attach label) (low.AttachPort port instance address node) at w (inr m) = absurd m
publishes_from (key.Attach label) (low.AttachCircuit circuit service node) at w (inr m) = absurd m
publishes_from (key.Attach label) (low.Instance imports) at w m = absurd m
publishes_from (key.Attach label) (low.Acl subnets rules) at w m = absurd m
publishes_from (key.Attach label) (low.ChainUse left right ls rs hops) at w m = absurd m
publishes_from (key.Instance n) v at w m = absurd m
publishes_from (key.Acl from to) v at w m = absurd m
publishes_from (key.ChainUse n) v at w m = absurd m

abbrev label_of : ℕ → Value
label_of n = Label (record { 0 = n })

label_number : Value → ℕ
label_number (Label l) = l.0
label_number (Object v) = 0
label_number (Route r) = 0
label_number (Entry r) = 0

same_label : (m n : ℕ) → label_of m ≡ label_of n → m ≡ n
unfolding label_number
same_label m n e = ap label_number e

attach_number : LowKey → ℕ
attach_number (key.Attach label) = label
attach_number (key.Instance n) = 0
attach_number (key.Acl from to) = 0
attach_number (key.ChainUse n) = 0

same_attach : (m n : ℕ) → key.Attach m ≡ key.Attach n → m ≡ n
unfolding attach_number
same_attach m n e = ap attach_number e

module _ (i : InstanceId) (prefix : Block) where
  abbrev at : Key
  at = Publish i prefix

  abbrev published : List (LowKey × LowValue) → List (Key × Value)
  published slice = flat_map (λ e. publication e.0 e.1) slice

  record Lowest (slice : List (LowKey × LowValue)) (w : Value) : Type 0 where
    label : ℕ
    value_is : w ≡ label_of label
    is : IsPublished slice i prefix label

  in_head : (e : LowKey × LowValue) (slice : List (LowKey × LowValue)) (w : Value) → Rise (e ∷ slice) → Publishes e.0 e.1 at w → Lowest (e ∷ slice) w
  in_head e slice w rise p = record {
    label = p.label;
    value_is = p.value_is;
    is = record {
      attachment = e.1;
      held = inl (λ j. (p.key_is j, e.1));
      publishes = ap (λ (k : LowKey). publication k e.1) (sym p.key_is) ∙ p.whole ∙ ap (λ (x : Value). told at x ∷ []) p.value_is;
      lowest = λ other v m q. elim m as (λ _. p.label ≤ other) [
        | inl same ↦ as_same other (same_attach p.label other (sym p.key_is ∙ ap (λ (x : LowKey × LowValue). x.0) same))
        | inr m ↦ lower p.label other (subst (λ (k : LowKey). IsBefore k (key.Attach other)) p.key_is (rise.0 (named (key.Attach other) v) m))
      ];
    };
  }
    where
      as_same : (n : ℕ) → p.label ≡ n → p.label ≤ n
      as_same n e = omega arith

  in_rest : (e : LowKey × LowValue) (slice : List (LowKey × LowValue)) (w : Value) → find key_cmp at (publication e.0 e.1) ≡ None → Lowest slice w → Lowest (e ∷ slice) w
  in_rest e slice w none l = record {
    label = l.label;
    value_is = l.value_is;
    is = record {
      attachment = l.is.attachment;
      held = inr l.is.held;
      publishes = l.is.publishes;
      lowest = λ other v m q. elim m as (λ _. l.label ≤ other) [
        | inl same ↦
            let there : publication e.0 e.1 ≡ told at (label_of other) ∷ [] = (λ j. publication (same j).0 (same j).1) ∙ q in
            absurd (none_some (label_of other) (sym none ∙ ap (find key_cmp at) there ∙ here (label_of other)))
        | inr m ↦ l.is.lowest other v m q
      ];
    };
  }
    where
      here : (w : Value) → find key_cmp at (told at w ∷ []) ≡ Some w
      here w = ap (λ r. cond (is_eq r) (Some w) None) (tied_itself key_total at)

  lowest_from : (slice : List (LowKey × LowValue)) (w : Value) → Rise slice → find key_cmp at (published slice) ≡ Some w → Lowest slice w
  lowest_from [] w rise e = absurd (none_some w e)
  lowest_from (e ∷ slice) w rise h =
      by_head (find key_cmp at (publication e.0 e.1)) refl (sym (find_either key_cmp at (publication e.0 e.1) (published slice)) ∙ h) (lowest_from slice w rise.1)
    where
      by_head : (o : Option Value) → find key_cmp at (publication e.0 e.1) ≡ o → first_some o (find key_cmp at (published slice)) ≡ Some w → (find key_cmp at (published slice) ≡ Some w → Lowest slice w) → Lowest (e ∷ slice) w
      by_head None is h rest = in_rest e slice w is (rest h)
      by_head (Some x) is h rest = in_head e slice w rise (publishes_from e.0 e.1 at w (from_find key_total key_exact at w (publication e.0 e.1) (is ∙ h)))

  lowest_to : (slice : List (LowKey × LowValue)) (label : ℕ) → Rise slice → IsPublished slice i prefix label → find key_cmp at (published slice) ≡ Some (label_of label)
  lowest_to slice label rise p =
      let there : Member (told at (label_of label)) (published slice) =
      in_flat_map (λ (e : LowKey × LowValue). publication e.0 e.1) (named (key.Attach label) p.attachment) (told at (label_of label)) slice p.held (subst (Member (told at (label_of label))) (sym p.publishes) (inl refl)) in
      let f = found key_total (told at (label_of label)) (published slice) there in
      let l = lowest_from slice f.0 rise f.1 in
      f.1 ∙ ap Some (l.value_is ∙ ap label_of (one l.label label (l.is.lowest label p.attachment p.held p.publishes) (p.lowest l.label l.is.attachment l.is.held l.is.publishes)))
    where
      one : (m n : ℕ) → m ≤ n → n ≤ m → m ≡ n
      one m n a b = omega arith

  abbrev subscriptions_of : List InstanceId → List (Key × Value)
  subscriptions_of needed = map (λ i. (Subscribe i, Label (record { 0 = 0 }))) needed

  no_subscription : (needed : List InstanceId) → find key_cmp at (subscriptions_of needed) ≡ None
  no_subscription [] = refl
  no_subscription (n ∷ needed) = no_subscription needed

  first_or_none : (o p : Option Value) → p ≡ None → first_some o p ≡ o
  first_or_none (Some x) p e = refl
  first_or_none None p e = e

  pub told_publication : (slice : List (LowKey × LowValue)) → get (told_of slice) at ≡ find key_cmp at (published slice)
  told_publication slice =
      get-from_entries key_total (published slice ++ subscriptions_of (needed_by slice)) at
      ∙ find_either key_cmp at (published slice) (subscriptions_of (needed_by slice))
      ∙ first_or_none (find key_cmp at (published slice)) (find key_cmp at (subscriptions_of (needed_by slice))) (no_subscription (needed_by slice))

  -- a publication is wanted exactly where it is that of an attachment with the lowest label
  pub publication_is : (h : Holdings) (label : ℕ) → (get (wanted h) at ≡ Some (label_of label)) ↔ IsPublished (slice_in_use h) i prefix label
  publication_is h label = (
    (λ e.
        let l = lowest_from (slice_in_use h) (label_of label) (rise_slice h) (sym (told_publication (slice_in_use h)) ∙ e) in
        subst (IsPublished (slice_in_use h) i prefix) (sym (same_label label l.label l.value_is)) l.is),
    (λ p. told_publication (slice_in_use h) ∙ lowest_to (slice_in_use h) label (rise_slice h) p),
  )
