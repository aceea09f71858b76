-- What is told within a subnet begins in it, and an instance received a path within it exactly where something is told that it imports.
use Rattle.std.specs.Prelude.{◌≡◌, ◌↔◌, ℕ, List, [], ◌∷◌, ◌++◌, Bool, true, false, cond, ◌==◌, ◌&&◌, ◌||◌, is_some, Some, None}
use Rattle.std.specs.declared.option.Option.{Option}
use Rattle.std.specs.BTreeMap.{BTreeMap, IsOrdered}
use Rattle.std.specs.List.{filter, filter_map, list_any}
use Rattle.std.proofs.lemmas.Bool.{eqb-true, true≢false}
use Rattle.std.proofs.lemmas.Bool.Decides.{nat_tests}
use Rattle.std.proofs.Common.{refl, sym, ◌∙◌, ap, inl, inr, arith}
use Rattle.ov_types.specs.Prefix.{Block, is_inside}
use Rattle.ov_types.specs.declared.numbers.InstanceId.{InstanceId}
use Rattle.ov_types.specs.declared.targets.Target.{Target}
use Rattle.path_select.specs.NodeModel.Members.{Member}
use Rattle.path_select.specs.NodeModel.Paths as model
use Rattle.path_select.specs.NodeModel.Paths.{Holdings, received}
use Rattle.path_select.specs.NodeModel.Reaching.{has_path_within}
use Rattle.path_select.specs.NodeModel.Tables.{of_prefix, same_prefix}
use Rattle.path_select.proofs.NodeModel.Members.{any_in, from_any, from_filter, from_filter_map, from_map, iff_same, in_either, in_filter, in_filter_map, in_left, in_map, in_right}
use Rattle.path_select.proofs.NodeModel.Orders.{prefix_same, same_prefix-from}
use Rattle.path_select.specs.declared.selection.Path.{Path}
use Rattle.path_select.specs.Selection.{plain}
use Rattle.vpn_holdings.specs.Indexed.{AreInOrder, AreLabels, AreRoutes, block_at, is_label_to, is_label_within, is_route_to, is_route_within, label_order, label_path, leads_label, leads_route, received_at, route_order, route_path, vpn_key, wanted_by}
use Rattle.vpn_holdings.specs.declared.places.LabelAt.{LabelAt}
use Rattle.vpn_holdings.specs.declared.places.RouteAt.{RouteAt}
use Rattle.vpn_holdings.proofs.PathsReceived.{all_gathered}

-- ---- what is found among some is found among all
pub both : (a b : Bool) → (a && b) ≡ true → (a ≡ true) × (b ≡ true)
both true b e = (refl, e)
both false b e = absurd (true≢false (sym e))

when_false : (b : Bool) → (b ≡ true → ⊥) → b ≡ false
when_false true f = absurd (f refl)
when_false false f = refl

pub any_filter : {X : Type 0} (p r : X → Bool) (xs : List X) → ((x : X) → p x ≡ true → r x ≡ true) → list_any p (filter r xs) ≡ list_any p xs
any_filter p r [] f = refl
any_filter p r (x ∷ xs) f =
    elim (r x) as (λ b. r x ≡ b → list_any p (cond b (x ∷ filter r xs) (filter r xs)) ≡ (p x || list_any p xs)) [
      | true ↦ λ _. ap (λ b. p x || b) (any_filter p r xs f)
      | false ↦ λ e. any_filter p r xs f ∙ ap (λ b. b || list_any p xs) (sym (when_false (p x) (λ t. true≢false (sym (f x t) ∙ e))))
    ] refl

some_of : {X : Type 0} (o : Option X) → is_some o ≡ true → (x : X) × (o ≡ Some x)
some_of None e = absurd (true≢false (sym e))
some_of (Some x) e = (x, refl)

or_left : (a b : Bool) → a ≡ true → (a || b) ≡ true
or_left true b e = refl
or_left false b e = absurd (true≢false (sym e))

or_right : (a b : Bool) → b ≡ true → (a || b) ≡ true
or_right true b e = refl
or_right false b e = e

here_itself : (a l : ℕ) → ((a == a) && (l == l)) ≡ true
here_itself a l = grind (arith, nat_tests)

block_is : (q : Block) (a l : ℕ) → ((a == q.addr) && (l == q.len)) ≡ true → record { addr = a; len = l } ≡ q
block_is q a l e =
    let b = both (a == q.addr) (l == q.len) e in
    λ n. record { addr = eqb-true a q.addr b.0 n; len = eqb-true l q.len b.1 n }

-- ---- paths within a subnet
module _ (h : Holdings) (i : InstanceId) (subnet : Block) (routes : BTreeMap RouteAt Block) (labels : BTreeMap LabelAt Block) (kept_routes : AreRoutes routes h.peers) (kept_labels : AreLabels labels h.agents)
    (order : AreInOrder h.agents) (ordered_routes : IsOrdered route_order routes) (ordered_labels : IsOrdered label_order labels) where
  abbrev w : List Target
  w = wanted_by h i

  abbrev routes_to : Block → List Path
  routes_to q = filter_map (route_path h w) (filter (λ e. is_route_to q e.0) routes.entries)

  abbrev labels_to : Block → List Path
  labels_to q = filter_map (label_path h w) (filter (λ e. is_label_to q e.0) labels.entries)

  abbrev all_to : Block → List Path
  all_to q = routes_to q ++ labels_to q

  abbrev inside : model.Path → Bool
  inside p = is_inside p.prefix subnet

  gathered_at : (q : Block) (x : Path) → Member x (all_to q) ↔ Member x (received_at h i q)
  gathered_at q x = all_gathered h i q routes labels kept_routes kept_labels order ordered_routes ordered_labels w [] (routes_to q) (all_to q) refl refl refl refl x

  -- a path to a block within the subnet that was gathered was received
  was_received : (q : Block) (x : Path) → Member x (all_to q) → is_inside q subnet ≡ true → has_path_within h i subnet ≡ true
  was_received q x m within =
      let f = from_map plain x (of_prefix q (received h i)) ((gathered_at q x).0 m) in
      let p : model.Path = f.0 in
      let g = from_filter (λ (p : model.Path). same_prefix p.prefix q) p (received h i) f.1 in
      any_in inside p (received h i) g.0 (ap (λ (b : Block). is_inside b subnet) (prefix_same p.prefix q g.1) ∙ within)

  by_route : list_any (leads_route h w subnet) routes.entries ≡ true → has_path_within h i subnet ≡ true
  by_route t =
      let f = from_any (leads_route h w subnet) routes.entries t in
      let e : RouteAt × Block = f.0 in
      let b = both (is_route_within subnet e.0) (is_some (route_path h w e)) f.2 in
      let shown = some_of (route_path h w e) b.1 in
      let q : Block = (vpn_key e.0).prefix in
      let m = in_filter_map (route_path h w) e shown.0 (filter (λ (e : RouteAt × Block). is_route_to q e.0) routes.entries)
      (in_filter (λ (e : RouteAt × Block). is_route_to q e.0) e routes.entries f.1 (here_itself e.0.addr.0 e.0.len)) shown.1 in
      was_received q shown.0 (in_left shown.0 (routes_to q) (labels_to q) m) b.0

  by_label : list_any (leads_label h w subnet) labels.entries ≡ true → has_path_within h i subnet ≡ true
  by_label t =
      let f = from_any (leads_label h w subnet) labels.entries t in
      let e : LabelAt × Block = f.0 in
      let b = both (is_label_within subnet e.0) (is_some (label_path h w e)) f.2 in
      let shown = some_of (label_path h w e) b.1 in
      let q : Block = block_at e.0 in
      let m = in_filter_map (label_path h w) e shown.0 (filter (λ (e : LabelAt × Block). is_label_to q e.0) labels.entries)
      (in_filter (λ (e : LabelAt × Block). is_label_to q e.0) e labels.entries f.1 (here_itself e.0.addr.0 e.0.len)) shown.1 in
      was_received q shown.0 (in_right shown.0 (routes_to q) (labels_to q) m) b.0

  route_leads : (q : Block) (x : Path) → is_inside q subnet ≡ true → Member x (routes_to q) → list_any (leads_route h w subnet) routes.entries ≡ true
  route_leads q x within m =
      let f = from_filter_map (route_path h w) x (filter (λ (e : RouteAt × Block). is_route_to q e.0) routes.entries) m in
      let e : RouteAt × Block = f.0 in
      let g = from_filter (λ (e : RouteAt × Block). is_route_to q e.0) e routes.entries f.1 in
      let at = ap (λ (b : Block). is_inside b subnet) (block_is q e.0.addr.0 e.0.len g.1) ∙ within in
      any_in (leads_route h w subnet) e routes.entries g.0 ((λ n. at n && is_some (f.2 n)))

  label_leads : (q : Block) (x : Path) → is_inside q subnet ≡ true → Member x (labels_to q) → list_any (leads_label h w subnet) labels.entries ≡ true
  label_leads q x within m =
      let f = from_filter_map (label_path h w) x (filter (λ (e : LabelAt × Block). is_label_to q e.0) labels.entries) m in
      let e : LabelAt × Block = f.0 in
      let g = from_filter (λ (e : LabelAt × Block). is_label_to q e.0) e labels.entries f.1 in
      let at = ap (λ (b : Block). is_inside b subnet) (block_is q e.0.addr.0 e.0.len g.1) ∙ within in
      any_in (leads_label h w subnet) e labels.entries g.0 ((λ n. at n && is_some (f.2 n)))

  abbrev told : Bool
  told = list_any (leads_route h w subnet) routes.entries || list_any (leads_label h w subnet) labels.entries

  to_received : told ≡ true → has_path_within h i subnet ≡ true
  to_received t =
      elim (list_any (leads_route h w subnet) routes.entries) as (λ b. list_any (leads_route h w subnet) routes.entries ≡ b → (b || list_any (leads_label h w subnet) labels.entries) ≡ true → has_path_within h i subnet ≡ true) [
        | true ↦ λ e _. by_route e
        | false ↦ λ _ e. by_label e
      ] refl t

  from_received : has_path_within h i subnet ≡ true → told ≡ true
  from_received t =
      let f = from_any inside (received h i) t in
      let p : model.Path = f.0 in
      let q : Block = p.prefix in
      let m = in_map plain p (of_prefix q (received h i)) (in_filter (λ (r : model.Path). same_prefix r.prefix q) p (received h i) f.1 (same_prefix-from q q refl)) in
      elim (in_either (plain p) (routes_to q) (labels_to q) ((gathered_at q (plain p)).1 m)) as (λ _. told ≡ true) [
        | inl l ↦ or_left (list_any (leads_route h w subnet) routes.entries) (list_any (leads_label h w subnet) labels.entries) (route_leads q (plain p) f.2 l)
        | inr l ↦ or_right (list_any (leads_route h w subnet) routes.entries) (list_any (leads_label h w subnet) labels.entries) (label_leads q (plain p) f.2 l)
      ]

  pub any_is : told ≡ has_path_within h i subnet
  any_is = iff_same told (has_path_within h i subnet) to_received from_received
