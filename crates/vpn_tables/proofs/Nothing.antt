-- Nothing follows where no object is held.
use Rattle.std.specs.Prelude.{◌≡◌, List, [], Bool, true, false, cond, is_some}
use Rattle.std.specs.declared.option.Option.{Option}
use Rattle.std.specs.declared.option.Option.TheVariants.{Some, None}
use Rattle.std.specs.List.{filter_map}
use Rattle.std.specs.FinMap.{empty, get, get-empty}
use Rattle.std.specs.Option.{option_map}
use Rattle.std.proofs.Common.{refl, sym, ◌∙◌, ap, subst}
use Rattle.ov_sync.proofs.Ascending.{entries-empty}
use Rattle.ov_types.specs.Prefix.{Block}
use Rattle.ov_types.specs.declared.numbers.InstanceId.{InstanceId}
use Rattle.ov_types.specs.declared.objects.LowKey.{LowKey}
use Rattle.ov_types.specs.declared.objects.LowKey.TheVariants as key
use Rattle.ov_types.specs.declared.objects.LowValue.{LowValue}
use Rattle.node_model.specs.Keys.{Key, Low, key_cmp}
use Rattle.node_model.specs.Values.{Value}
use Rattle.node_model.specs.Maps.{Map, as_object, low_entry, object}
use Rattle.node_model.specs.Members.{Member}
use Rattle.node_model.specs.Uses.{as_use, held_use, is_hop, is_known, is_place, place_of, use_from, use_of, uses}
use Rattle.node_model.specs.Paths.{Holdings, Path}
use Rattle.node_model.specs.Reaching.{AreShort}
use Rattle.node_model.specs.Tables.{paths_of, table}
use Rattle.node_model.proofs.Selection.{selected_least}
use Rattle.node_model.proofs.Unknown.{no_paths}
use Rattle.path_select.specs.Selection.{plain}
use Rattle.vpn_holdings.specs.Answers.{is_up_at, is_up_on, seen_from, side_at}
use Rattle.vpn_holdings.specs.At.{selected_at}
use Rattle.vpn_tables.specs.Stored.{entry_of, nothing_stored}
use Rattle.vpn_tables.specs.declared.stored.RowKey.{RowKey}

no_object : (k : LowKey) → object empty k ≡ None
no_object k = ap as_object (get-empty key_cmp (Low k))

no_uses : uses empty ≡ []
no_uses = ap (λ (es : List (Key × Value)). filter_map (λ (e : LowKey × LowValue). as_use e.0 e.1) (filter_map (λ (e : Key × Value). low_entry e.0 e.1) es)) (entries-empty {V = Value} key_cmp)

none_short : AreShort empty
none_short u m = absurd (subst (Member u) no_uses m)

none_known : (i : InstanceId) → is_known empty i ≡ false
none_known i =
    elim (is_hop i) as (λ t. cond t (is_place (place_of i) (held_use empty i)) (is_some (object empty (key.Instance i.0))) ≡ false) [
      | true ↦ ap (λ (o : Option LowValue). is_place (place_of i) (use_from (use_of i) o)) (no_object (key.ChainUse (use_of i)))
      | false ↦ ap is_some (no_object (key.Instance i.0))
    ]

module _ (h : Holdings) (e : h.feed ≡ empty) where
  paths_none : (i : InstanceId) → paths_of h i ≡ []
  paths_none i = no_paths h i (subst AreShort (sym e) none_short) (ap (λ (feed : Map). is_known feed i) e ∙ none_known i)

  none_selected : (i : InstanceId) (q : Block) → selected_at h i q ≡ None
  none_selected i q = by_case (get (table h i) q) refl
    where
      by_case : (o : Option Path) → get (table h i) q ≡ o → option_map plain (get (table h i) q) ≡ None
      by_case None is = ap (option_map plain) is
      by_case (Some p) is = absurd (subst (Member p) (paths_none i) (selected_least (paths_of h i) q p is).member)

  none_up : (i : InstanceId) (q : Block) (b : Bool) → is_up_at h i q b ≡ false
  none_up i q b =
      elim (is_hop i) as (λ t. cond t (is_up_on h (place_of i) q (side_at h.feed (use_of i) b)) false ≡ false) [
        | true ↦ ap (λ (o : Option LowValue). is_up_on h (place_of i) q (option_map (seen_from b) (use_from (use_of i) o)))
            (ap (λ (feed : Map). object feed (key.ChainUse (use_of i))) e ∙ no_object (key.ChainUse (use_of i)))
        | false ↦ refl
      ]

  pub nothing_follows : (k : RowKey) → nothing_stored ≡ entry_of h k
  nothing_follows k = λ n. record {
    path = sym (none_selected k.instance k.prefix) n;
    is_up_right = sym (none_up k.instance k.prefix true) n;
    is_up_left = sym (none_up k.instance k.prefix false) n;
  }
