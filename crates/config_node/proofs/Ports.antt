-- Where one port stands in the place of another, or comes or goes, its attachment does, and all other objects stay.
use Rattle.std.specs.Prelude.{◌≡◌, ◌≢◌, IsTrue, List, ◌++◌, map, option_map, option_and_then}
use Rattle.std.specs.declared.option.Option.{Option}
use Rattle.std.specs.declared.option.Option.TheVariants.{Some, None}
use Rattle.std.specs.FinMap.{from_entries}
use Rattle.std.specs.List.{AllPairs, cons_option, filter_map}
use Rattle.std.proofs.Common.{refl, sym, ◌∙◌, ap, subst}
use Rattle.std.proofs.lemmas.List.{append_assoc, map-append}
use Rattle.std.proofs.lemmas.List.Elements.{filter_map-append}
use Rattle.std.proofs.lemmas.List.Sorted.{Contains-permutation, IsPermutation-sym}
use Rattle.ov_types.specs.declared.objects.LowKey.{LowKey}
use Rattle.config_types.specs.Form.{has_config_form}
use Rattle.config_types.specs.declared.config.Port.{Port}
use Rattle.machine_model.specs.ConfigCheck.Checked.{Checked}
use Rattle.machine_model.specs.ConfigCheck.Rules.{first_broken}
use Rattle.machine_model.specs.ConfigCheck.Sentences.{IsValid}
use Rattle.machine_model.proofs.ConfigCheck.Validity.{valid_iff}
use Rattle.machine_model.specs.TransformModel.Objects.{LowObject, instance_object, low_objects, objects, port_object}
use Rattle.machine_model.proofs.TransformModel.Lists.{pairs_mapped, pairs_weaker}
use Rattle.machine_model.proofs.TransformModel.LowKeys.{keys_differ, low_kept}
use Rattle.machine_model.specs.Setup.{low_in}
use Rattle.node_core.specs.NodeModel.Keys.{Key, Low, key_cmp}
use Rattle.node_core.specs.NodeModel.Members.{Member}
use Rattle.node_core.specs.NodeModel.Values.{Value}
use Rattle.node_core.specs.NodeModel.Wants.{slice_entry}
use Rattle.node_core.proofs.NodeModel.Members.{contains_of, from_map, in_map, member_of}
use Rattle.node_core.proofs.NodeModel.Orders.{key_exact, key_total}
use Rattle.config_node.specs.Ports.{attachment, with_entry, with_ports, without_entry}
use Rattle.config_node.proofs.Between.{exchanged, whatever_order}
use Rattle.config_node.proofs.OtherPorts.{objects_with, others}

abbrev Entry : Type 0
Entry = Key × Value

one_key : (a b : LowKey) → Low a ≡ Low b → a ≡ b
one_key a b e = cc

-- ---- the map of the objects in their own order
module _ (x : Checked) (form : IsTrue (has_config_form x.config)) (v : IsValid x.topology x.config) where
  abbrev made : List LowObject
  made = objects x.topology x.config

  apart : AllPairs (λ (d e : Entry). d.0 ≢ e.0) (map slice_entry made)
  apart =
      pairs_mapped slice_entry (λ (d e : Entry). d.0 ≢ e.0) made
      (pairs_weaker (λ (d e : LowObject). d.0 ≢ e.0) (λ (d e : LowObject). Low d.0 ≢ Low e.0) made
      (keys_differ x.topology x.config v form) (λ d e in_d in_e differ same. differ (one_key d.0 e.0 same)))

  abbrev kept : List LowObject
  kept = low_objects x.topology x.config

  into : (e : Entry) → Member e (map slice_entry kept) → Member e (map slice_entry made)
  into e m =
      let q = from_map slice_entry e kept m in
      let perm = IsPermutation-sym made kept (low_kept x.topology x.config v form) in
      subst (λ (d : Entry). Member d (map slice_entry made)) q.2
      (in_map slice_entry q.0 made (member_of made q.0 (Contains-permutation kept made q.0 perm (contains_of kept q.0 q.1))))

  from : (e : Entry) → Member e (map slice_entry made) → Member e (map slice_entry kept)
  from e m =
      let q = from_map slice_entry e made m in
      let perm = low_kept x.topology x.config v form in
      subst (λ (d : Entry). Member d (map slice_entry kept)) q.2
      (in_map slice_entry q.0 kept (member_of kept q.0 (Contains-permutation made kept q.0 perm (contains_of made q.0 q.1))))

  low_is_made : low_in x ≡ from_entries {R = key_cmp} (map slice_entry made)
  unfolding low_in
  low_is_made = whatever_order key_total key_exact (map slice_entry made) (map slice_entry kept) apart into from

-- ---- an optional item between others
kept_given : {A B : Type 0} (f : A → Option B) (o : Option A) (xs : List A)
    → filter_map f (cons_option o xs) ≡ cons_option (option_and_then f o) (filter_map f xs)
kept_given f None xs = refl
kept_given f (Some x) xs = refl

given_more : {A : Type 0} (o : Option A) (xs ys : List A) → cons_option o xs ++ ys ≡ cons_option o (xs ++ ys)
given_more None xs ys = refl
given_more (Some x) xs ys = refl

mapped_given : {A B : Type 0} (f : A → B) (o : Option A) (xs : List A)
    → map f (cons_option o xs) ≡ cons_option (option_map f o) (map f xs)
mapped_given f None xs = refl
mapped_given f (Some x) xs = refl

-- what stands before the attachment of a port, and behind it
module _ (x : Checked) (front back : List Port) where
  abbrev gives : Port → Option LowObject
  gives = port_object x.topology x.config

  abbrev before : List LowObject
  before = map (instance_object x.config) x.config.networks ++ filter_map gives front

  abbrev behind : List LowObject
  behind = filter_map gives back ++ others x.topology x.config

  placed : (port : Option Port)
      → objects x.topology (with_ports x (front ++ cons_option port back)).config
      ≡ before ++ cons_option (option_and_then gives port) behind
  placed port =
      let instances = map (instance_object x.config) x.config.networks in
      let rest = others x.topology x.config in
      objects_with x.config (front ++ cons_option port back) x.topology
      ∙ ap (λ (os : List LowObject). instances ++ (os ++ rest))
      (filter_map-append gives front (cons_option port back) ∙ ap (λ (os : List LowObject). filter_map gives front ++ os) (kept_given gives port back))
      ∙ ap (λ (os : List LowObject). instances ++ os)
      (append_assoc (filter_map gives front) (cons_option (option_and_then gives port) (filter_map gives back)) rest
      ∙ ap (λ (os : List LowObject). filter_map gives front ++ os) (given_more (option_and_then gives port) (filter_map gives back) rest))
      ∙ sym (append_assoc instances (filter_map gives front) (cons_option (option_and_then gives port) behind))

  entries_placed : (port : Option Port)
      → map slice_entry (objects x.topology (with_ports x (front ++ cons_option port back)).config)
      ≡ map slice_entry before ++ cons_option (attachment x port) (map slice_entry behind)
  entries_placed port =
      ap (map slice_entry) (placed port)
      ∙ map-append slice_entry before (cons_option (option_and_then gives port) behind)
      ∙ ap (λ (es : List Entry). map slice_entry before ++ es) (mapped_given slice_entry (option_and_then gives port) behind)

  pub one_for_another : (old new : Option Port)
      → IsTrue (has_config_form (with_ports x (front ++ cons_option old back)).config)
      → first_broken x.topology (with_ports x (front ++ cons_option old back)).config ≡ None
      → IsTrue (has_config_form (with_ports x (front ++ cons_option new back)).config)
      → first_broken x.topology (with_ports x (front ++ cons_option new back)).config ≡ None
      → low_in (with_ports x (front ++ cons_option new back))
      ≡ with_entry (without_entry (low_in (with_ports x (front ++ cons_option old back))) (attachment x old)) (attachment x new)
  one_for_another old new form valid form' valid' =
      let y = with_ports x (front ++ cons_option old back) in
      let z = with_ports x (front ++ cons_option new back) in
      let v = (valid_iff y.topology y.config).0 valid in
      let w = (valid_iff z.topology z.config).0 valid' in
      let Apart : List Entry → Type 0 = λ es. AllPairs (λ (d e : Entry). d.0 ≢ e.0) es in
      low_is_made z form' w
      ∙ ap (from_entries {R = key_cmp}) (entries_placed new)
      ∙ exchanged key_total key_exact (map slice_entry before) (map slice_entry behind) (attachment x old) (attachment x new)
      (subst Apart (entries_placed old) (apart y form v)) (subst Apart (entries_placed new) (apart z form' w))
      ∙ ap (λ (es : List Entry). with_entry (without_entry (from_entries {R = key_cmp} es) (attachment x old)) (attachment x new))
      (sym (entries_placed old))
      ∙ ap (λ m. with_entry (without_entry m (attachment x old)) (attachment x new)) (sym (low_is_made y form v))
