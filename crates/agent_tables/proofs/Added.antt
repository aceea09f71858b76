-- Maps with further entries.
use Rattle.std.specs.Prelude.{◌≡◌, List, [], ◌∷◌, ◌++◌, map, true, false, cond, is_some}
use Rattle.std.specs.declared.cmp.Ordering.{Ordering}
use Rattle.std.specs.declared.cmp.Ordering.TheVariants.{Less, Equal, Greater}
use Rattle.std.specs.declared.option.Option.{Option}
use Rattle.std.specs.declared.option.Option.TheVariants.{Some, None}
use Rattle.std.specs.BTreeMap as tree
use Rattle.std.specs.BTreeMap.{BTreeMap, insert_entry}
use Rattle.std.specs.Ordering.{is_eq}
use Rattle.std.specs.Option.{option_map}
use Rattle.std.specs.List.{flat_map}
use Rattle.std.specs.Map.{lookup}
use Rattle.std.specs.FinMap.{get, entries, from_entries, find, insert, empty, get-entries, get-from_entries, same_map, from_entries_push}
use Rattle.std.proofs.Common.{refl, sym, ◌∙◌, ap, append-nil}
use Rattle.ov_sync.specs.declared.Delta.TheVariants.{Put}
use Rattle.ov_sync.specs.Keyed.{map_of}
use Rattle.ov_sync.specs.Embed.{embedded, moved_entry}
use Rattle.ov_sync.proofs.Ascending.{entries-empty, map_of-entries, map_of-insert, get-map_of}
use Rattle.ov_sync.proofs.EmbedLaws.{changed-embedded}
use Rattle.ov_types.specs.declared.keys.UpKey.{UpKey}
use Rattle.ov_types.specs.declared.numbers.Label.{Label as LabelNo}
use Rattle.ov_types.specs.declared.numbers.InstanceId.{InstanceId}
use Rattle.ov_types.specs.declared.objects.LowKey.{LowKey}
use Rattle.ov_types.specs.declared.objects.LowValue.{LowValue}
use Rattle.node_core.specs.NodeModel.Agent.{Holdings, first_some, needed_by, publication, slice_in_use, wanted}
use Rattle.node_core.specs.NodeModel.Keys.{Key, Subscribe, key_cmp, of_up}
use Rattle.node_core.specs.NodeModel.Values.{Value, Label}
use Rattle.node_core.specs.NodeModel.Maps.{Map}
use Rattle.node_core.proofs.NodeModel.Heard.{find_either}
use Rattle.node_core.proofs.NodeModel.Orders.{key_total, key_exact}
use Rattle.node_core.specs.Told.{up_order, up_of}
use Rattle.agent_tables.specs.Kept.{added}
use Rattle.node_core.proofs.NodeModel.Directions.{up_keeps, up_total, up_exact}
use Rattle.agent_tables.proofs.Images.{up-get}
use Rattle.agent_tables.proofs.Lists.{or_none, or_assoc, or_there}

get-added : (m : Map) (es : List (Key × Value)) (q : Key) → get (added m es) q ≡ first_some (get m q) (find key_cmp q es)
get-added m es q =
    get-from_entries key_total (entries m ++ es) q ∙ find_either key_cmp q (entries m) es ∙ ap (λ (o : Option Value). first_some o (find key_cmp q es)) (sym (get-entries m q))

pub added_none : (m : Map) → added m [] ≡ m
added_none m = ap (λ (es : List (Key × Value)). from_entries {R = key_cmp} es) (append-nil (entries m)) ∙ map_of-entries key_cmp key_total key_exact m

pub added_to_none : (es : List (Key × Value)) → added empty es ≡ from_entries es
added_to_none es = ap (λ (fs : List (Key × Value)). from_entries {R = key_cmp} (fs ++ es)) (entries-empty {V = Value} key_cmp)

pub added_added : (m : Map) (es fs : List (Key × Value)) → added (added m es) fs ≡ added m (es ++ fs)
added_added m es fs =
    same_map key_total key_exact _ _ (λ q.
    get-added (added m es) fs q ∙ ap (λ (o : Option Value). first_some o (find key_cmp q fs)) (get-added m es q)
    ∙ or_assoc (get m q) (find key_cmp q es) (find key_cmp q fs)
    ∙ ap (first_some (get m q)) (sym (find_either key_cmp q es fs)) ∙ sym (get-added m (es ++ fs) q))

-- at a key that is there nothing is added
pub added_there : (m : Map) (k : Key) (v : Value) → is_some (get m k) ≡ true → added m ((k, v) ∷ []) ≡ m
added_there m k v there = same_map key_total key_exact _ _ (λ q. get-added m ((k, v) ∷ []) q ∙ at q (key_cmp q k) refl)
  where
    at : (q : Key) (r : Ordering) → key_cmp q k ≡ r → first_some (get m q) (cond (is_eq r) (Some v) None) ≡ get m q
    at q Less e = or_none (get m q)
    at q Greater e = or_none (get m q)
    at q Equal e = or_there (get m q) (Some v) (ap (λ (k : Key). is_some (get m k)) (key_exact q k e) ∙ there)

pub added_new : (m : Map) (k : Key) (v : Value) → get m k ≡ None → added m ((k, v) ∷ []) ≡ insert m k v
added_new m k v none = from_entries_push key_total key_exact (entries m) k v (sym (get-entries m k) ∙ none) ∙ ap (λ (n : Map). insert n k v) (map_of-entries key_cmp key_total key_exact m)

-- ---- of publications and subscriptions
not_there : {A B : Type 0} (f : A → B) (o : Option A) → is_some o ≡ false → option_map f o ≡ None
not_there f None e = refl
not_there f (Some x) e = cc

still_there : {A B : Type 0} (f : A → B) (o : Option A) → is_some o ≡ true → is_some (option_map f o) ≡ true
still_there f (Some x) e = refl
still_there f None e = cc

up-found : (es : List (UpKey × LabelNo)) (k : UpKey) → get (up_of es) (of_up k) ≡ option_map Label (lookup (tree.is_at (up_order k)) es)
up-found es k = up-get es k ∙ ap (option_map Label) (get-map_of up_order up_total es k)

pub up_there : (es : List (UpKey × LabelNo)) (k : UpKey) (label : LabelNo) → is_some (lookup (tree.is_at (up_order k)) es) ≡ true → up_of es ≡ added (up_of es) ((of_up k, Label label) ∷ [])
up_there es k label there = sym (added_there (up_of es) (of_up k) (Label label) (ap is_some (up-found es k) ∙ still_there Label (lookup (tree.is_at (up_order k)) es) there))

pub up_new : (m n : BTreeMap UpKey LabelNo) (k : UpKey) (label : LabelNo) → is_some (lookup (tree.is_at (up_order k)) m.entries) ≡ false → n.entries ≡ insert_entry up_order m.entries k label
    → tree.IsOrdered up_order m → tree.IsOrdered up_order n → up_of n.entries ≡ added (up_of m.entries) ((of_up k, Label label) ∷ [])
up_new m n k label none e before after =
    ap (embedded {S = key_cmp} of_up Label) (map_of-insert up_order up_total m n k label e before after)
    ∙ sym (changed-embedded of_up Label up_total key_total up_keeps up_exact key_exact (map_of up_order m.entries) (Put k label))
    ∙ sym (added_new (up_of m.entries) (of_up k) (Label label) (up-found m.entries k ∙ not_there Label (lookup (tree.is_at (up_order k)) m.entries) none))

-- ---- a walk that adds
pub added_turn : (m n all : Map) (p rest whole : List (Key × Value)) → n ≡ added m p → whole ≡ p ++ rest → added m whole ≡ all → added n rest ≡ all
added_turn m n all p rest whole e split so_far = ap (λ (n : Map). added n rest) e ∙ added_added m p rest ∙ ap (added m) (sym split) ∙ so_far

pub added_end : (n all : Map) (rest : List (Key × Value)) → rest ≡ [] → added n rest ≡ all → n ≡ all
added_end n all rest none so_far = sym (ap (added n) none ∙ added_none n) ∙ so_far

-- ---- all that a slice makes an agent want
pub up-none : (es : List (UpKey × LabelNo)) → es ≡ [] → up_of es ≡ empty
up-none es none = ap up_of none ∙ ap (λ (fs : List (UpKey × LabelNo)). from_entries {R = key_cmp} (map (moved_entry of_up Label) fs)) (entries-empty {V = LabelNo} up_order)

module _ (h : Holdings) (none one two : Map) (pairs : List (LowKey × LowValue)) (needs : List InstanceId) where
  abbrev published : List (LowKey × LowValue) → List (Key × Value)
  published slice = flat_map (λ e. publication e.0 e.1) slice

  abbrev subscribed : List InstanceId → List (Key × Value)
  subscribed is = map (λ i. (Subscribe i, Label (record { 0 = 0 }))) is

  pub all_wanted : none ≡ empty → one ≡ added none (published pairs) → two ≡ added one (subscribed needs) → pairs ≡ slice_in_use h → needs ≡ needed_by (slice_in_use h) → two ≡ wanted h
  all_wanted first then last slice need =
      last ∙ ap (λ (m : Map). added m (subscribed needs)) (then ∙ ap (λ (m : Map). added m (published pairs)) first)
      ∙ added_added empty (published pairs) (subscribed needs) ∙ added_to_none (published pairs ++ subscribed needs)
      ∙ (λ i. from_entries {R = key_cmp} (published (slice i) ++ subscribed (need i)))
