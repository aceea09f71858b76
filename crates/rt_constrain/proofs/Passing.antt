-- Which routes of a map pass a test.
use Rattle.std.specs.Prelude.{◌≡◌, List, [], ◌∷◌, map, Bool, true, false, cond}
use Rattle.std.specs.List.{filter}
use Rattle.std.specs.List.Sorted.{IsStrictlySortedBy}
use Rattle.std.specs.FinMap.{from_entries}
use Rattle.std.proofs.Common.{refl, sym, ◌∙◌, ap}
use Rattle.ov_sync.specs.Embed.{moved_entry}
use Rattle.ov_sync.proofs.Ascending.{Ascends, Over, ascends, entries-map_of}
use Rattle.ov_types.specs.declared.vpn.VpnKey.{VpnKey}
use Rattle.ov_types.specs.declared.vpn.VpnRoute.{VpnRoute}
use Rattle.node_model.specs.Keys.{Key, Vpn, key_cmp}
use Rattle.node_model.specs.Values.{Value, Route}
use Rattle.node_model.specs.Maps.{Map}
use Rattle.node_model.proofs.Directions.{vpn_total}
use Rattle.rt_constrain.specs.Cut.{passes, restricted}
use Rattle.vpn_tables.specs.Views.{peer_of, vpn_order}
use Rattle.vpn_tables.proofs.Images.{peer-entries}
use Rattle.rt_constrain.proofs.Ordered.{keys_sorted}

abbrev pub Entry : Type 0
Entry = VpnKey × VpnRoute

module _ (test : VpnRoute → Bool) where
  filter_moved : (es : List Entry) → filter (λ (e : Key × Value). passes test e.1) (map (moved_entry Vpn Route) es) ≡ map (moved_entry Vpn Route) (filter (λ (e : Entry). test e.1) es)
  filter_moved [] = refl
  filter_moved (e ∷ es) =
      elim (test e.1) as (λ b. cond b (moved_entry Vpn Route e ∷ filter (λ (e : Key × Value). passes test e.1) (map (moved_entry Vpn Route) es)) (filter (λ (e : Key × Value). passes test e.1) (map (moved_entry Vpn Route) es))
      ≡ map (moved_entry Vpn Route) (cond b (e ∷ filter (λ (e : Entry). test e.1) es) (filter (λ (e : Entry). test e.1) es))) [
        | true ↦ ap (λ (l : List (Key × Value)). moved_entry Vpn Route e ∷ l) (filter_moved es)
        | false ↦ filter_moved es
      ]

  over_filter : (k : VpnKey) (es : List Entry) → Over vpn_order k es → Over vpn_order k (filter (λ (e : Entry). test e.1) es)
  over_filter k [] h = tt
  over_filter k (e ∷ es) h =
      elim (test e.1) as (λ b. Over vpn_order k (cond b (e ∷ filter (λ (e : Entry). test e.1) es) (filter (λ (e : Entry). test e.1) es))) [
        | true ↦ (h.0, over_filter k es h.1)
        | false ↦ over_filter k es h.1
      ]

  ascends_filter : (es : List Entry) → Ascends vpn_order es → Ascends vpn_order (filter (λ (e : Entry). test e.1) es)
  ascends_filter [] h = tt
  ascends_filter (e ∷ es) h =
      elim (test e.1) as (λ b. Ascends vpn_order (cond b (e ∷ filter (λ (e : Entry). test e.1) es) (filter (λ (e : Entry). test e.1) es))) [
        | true ↦ (over_filter e.0 es h.0, ascends_filter es h.1)
        | false ↦ ascends_filter es h.1
      ]

  pub kept_ascending : (es : List Entry) → IsStrictlySortedBy vpn_order (map (λ e. e.0) es)
      → IsStrictlySortedBy vpn_order (map (λ e. e.0) (filter (λ (e : Entry). test e.1) es))
  kept_ascending es sorted = keys_sorted vpn_order vpn_total (filter (λ (e : Entry). test e.1) es) (ascends_filter es (ascends vpn_order es sorted))

  pub restricted_is : (es : List Entry) → IsStrictlySortedBy vpn_order (map (λ e. e.0) es)
      → peer_of (filter (λ (e : Entry). test e.1) es) ≡ restricted test (peer_of es)
  restricted_is es sorted =
      ap (λ (l : List Entry). from_entries {R = key_cmp} (map (moved_entry Vpn Route) l))
      (entries-map_of vpn_order vpn_total (filter (λ (e : Entry). test e.1) es) (ascends_filter es (ascends vpn_order es sorted)))
      ∙ ap (from_entries {R = key_cmp}) (sym (ap (filter (λ (e : Key × Value). passes test e.1)) (peer-entries es sorted) ∙ filter_moved es))
