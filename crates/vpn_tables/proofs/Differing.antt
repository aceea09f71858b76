-- What is selected, and what leads on under a key, stays where no listed change is one of it.
use Rattle.std.specs.Prelude.{◌≡◌, ◌≢◌, ◌⊎◌, ◌==◌, List, [], ◌∷◌, ◌++◌, Bool, true, false, cond}
use Rattle.std.specs.declared.option.Option.{Option}
use Rattle.std.specs.declared.option.Option.TheVariants.{Some, None}
use Rattle.std.specs.List.{AllByRecursion}
use Rattle.std.proofs.lemmas.Bool.{and_parts, eqb-true}
use Rattle.std.proofs.Common.{refl, sym, ◌∙◌, ap, subst, inl, inr}
use Rattle.ov_types.specs.Prefix.{Block}
use Rattle.ov_types.specs.declared.numbers.InstanceId.{InstanceId}
use Rattle.ov_types.specs.declared.vpn.VpnKey.{VpnKey}
use Rattle.node_model.specs.Members.{Member}
use Rattle.node_model.specs.Paths.{Holdings, Path}
use Rattle.node_model.specs.Ranks.{instance_in}
use Rattle.node_model.specs.Reaching.{reoriginated_paths}
use Rattle.node_model.specs.Tables.{same_prefix}
use Rattle.node_model.specs.Agent.{first_some}
use Rattle.node_model.proofs.Orders.{prefix_same}
use Rattle.vpn_holdings.specs.At.{led_at, selected_at}
use Rattle.vpn_holdings.specs.Gathered.{UsesAreInRange}
use Rattle.vpn_holdings.specs.Routes.{path_of}
use Rattle.vpn_holdings.specs.TouchedKeys.{first_keyed, same_key}
use Rattle.vpn_holdings.specs.declared.routes.Route.{Route}
use Rattle.vpn_holdings.proofs.Keyed.{first_append}
use Rattle.vpn_holdings.proofs.LedAt.{led_first}
use Rattle.vpn_tables.specs.Followed.{HasMoved, IsListed, IsRowChange, followed_at, key_led, led_by, led_key, led_of}
use Rattle.vpn_tables.specs.declared.changes.Followed.{Followed}
use Rattle.vpn_tables.specs.declared.changes.RowChange.{RowChange}
use Rattle.vpn_tables.proofs.MovedRows.{followed_cases, followed_is, is_followed, path_cases, route_cases}

-- a route that leads on is there, of this key
abbrev pub IsUnder : VpnKey → Option Route → Type 0
IsUnder k r = key_led r ≡ Some k

-- the first of a key in two lists, where each has the same first
pub appended_same : (k : VpnKey) (ps qs ps' qs' : List Path) → first_keyed k ps ≡ first_keyed k ps' → first_keyed k qs ≡ first_keyed k qs' → first_keyed k (ps ++ qs) ≡ first_keyed k (ps' ++ qs')
appended_same k ps qs ps' qs' e f = first_append k ps qs ∙ (λ n. first_some (e n) (f n)) ∙ sym (first_append k ps' qs')

module _ (h g : Holdings) (cs : List RowChange) (each : AllByRecursion (IsRowChange h g) cs) (every : (i : InstanceId) (q : Block) → HasMoved h g i q → IsListed cs i q) where
  -- a change of the row is listed, with what followed and follows there
  record ChangeAt (i : InstanceId) (q : Block) : Type 0 where
    change : RowChange
    listed : Member change cs
    instance : change.instance ≡ i
    prefix : change.prefix ≡ q
    before : change.before ≡ followed_at h i q
    after : change.after ≡ followed_at g i q

  change_of : (c : RowChange) (ds : List RowChange) → AllByRecursion (IsRowChange h g) ds → Member c ds → IsRowChange h g c
  change_of c (d ∷ ds) all (inl e) = subst (IsRowChange h g) e all.0
  change_of c (d ∷ ds) all (inr m) = change_of c ds all.1 m
  change_of c [] all m = absurd m

  change_at : (i : InstanceId) (q : Block) → (followed_at h i q ≡ followed_at g i q) ⊎ ChangeAt i q
  change_at i q =
      elim (followed_cases (followed_at h i q) (followed_at g i q)) as (λ _. (followed_at h i q ≡ followed_at g i q) ⊎ ChangeAt i q) [
        | inl e ↦ inl e
        | inr other ↦
            let l = every i q (record { before = followed_at h i q; after = followed_at g i q; was = followed_is h i q; is = followed_is g i q; other = other }) in
            let c = change_of l.change cs each l.listed in
            inr (record {
              change = l.change;
              listed = l.listed;
              instance = l.instance;
              prefix = l.prefix;
              before = is_followed h l.change.instance l.change.prefix l.change.before c.was ∙ (λ n. followed_at h (l.instance n) (l.prefix n));
              after = is_followed g l.change.instance l.change.prefix l.change.after c.is ∙ (λ n. followed_at g (l.instance n) (l.prefix n));
            })
      ]

  -- ---- the selected path
  pub selected_same : (i : InstanceId) (q : Block) → ((c : RowChange) → Member c cs → c.instance ≡ i → c.prefix ≡ q → c.before.path ≢ c.after.path → ⊥) → selected_at h i q ≡ selected_at g i q
  selected_same i q none =
      elim (change_at i q) as (λ _. selected_at h i q ≡ selected_at g i q) [
        | inl e ↦ ap (λ (f : Followed). f.path) e
        | inr c ↦ elim (path_cases c.change.before.path c.change.after.path) as (λ _. selected_at h i q ≡ selected_at g i q) [
          | inl e ↦ ap (λ (f : Followed). f.path) (sym c.before) ∙ e ∙ ap (λ (f : Followed). f.path) c.after
          | inr other ↦ absurd (none c.change c.listed c.instance c.prefix other)
        ]
      ]

  -- ---- what leads on under a key
  module _ (k : VpnKey) where
    key_of : (r : Route) → same_key k (path_of r) ≡ true → led_key r ≡ k
    key_of r t =
        let p = and_parts (r.path.rd.0 == k.rd.0) (same_prefix r.prefix k.prefix) t in
        λ n. record { rd = record { 0 = eqb-true r.path.rd.0 k.rd.0 p.0 n }; prefix = prefix_same r.prefix k.prefix p.1 n }

    nothing_under : (r : Option Route) → (IsUnder k r → ⊥) → first_keyed k (led_by r) ≡ None
    nothing_under None none = refl
    nothing_under (Some r) none =
        elim (same_key k (path_of r)) as (λ t. same_key k (path_of r) ≡ t → cond t (Some (path_of r)) None ≡ None) [
          | true ↦ λ t. absurd (none (ap Some (key_of r t)))
          | false ↦ λ _. refl
        ] refl

    led_is : (h : Holdings) (i : InstanceId) (q : Block) (b : Bool) → led_by (led_of b (followed_at h i q)) ≡ led_at h i q b
    led_is h i q true = (followed_is h i q).led_right
    led_is h i q false = (followed_is h i q).led_left

    abbrev IsNoKey : Type 0
    IsNoKey = (c : RowChange) → Member c cs → (b : Bool) → led_of b c.before ≢ led_of b c.after → IsUnder k (led_of b c.before) ⊎ IsUnder k (led_of b c.after) → ⊥

    place_same : IsNoKey → (i : InstanceId) (q : Block) (b : Bool) → first_keyed k (led_at h i q b) ≡ first_keyed k (led_at g i q b)
    place_same none i q b =
        ap (first_keyed k) (sym (led_is h i q b))
        ∙ elim (change_at i q) as (λ _. first_keyed k (led_by (led_of b (followed_at h i q))) ≡ first_keyed k (led_by (led_of b (followed_at g i q)))) [
          | inl e ↦ ap (λ (f : Followed). first_keyed k (led_by (led_of b f))) e
          | inr c ↦
              ap (λ (f : Followed). first_keyed k (led_by (led_of b f))) (sym c.before)
              ∙ elim (route_cases (led_of b c.change.before) (led_of b c.change.after)) as (λ _. first_keyed k (led_by (led_of b c.change.before)) ≡ first_keyed k (led_by (led_of b c.change.after))) [
                | inl e ↦ ap (λ (r : Option Route). first_keyed k (led_by r)) e
                | inr other ↦
                    nothing_under (led_of b c.change.before) (λ u. none c.change c.listed b other (inl u))
                    ∙ sym (nothing_under (led_of b c.change.after) (λ u. none c.change c.listed b other (inr u)))
              ]
              ∙ ap (λ (f : Followed). first_keyed k (led_by (led_of b f))) c.after
        ]
        ∙ ap (first_keyed k) (led_is g i q b)

    first_of : (f : Holdings) → UsesAreInRange f.feed → first_keyed k (reoriginated_paths f) ≡ first_some (first_keyed k (led_at f (instance_in k.rd) k.prefix true)) (first_keyed k (led_at f (instance_in k.rd) k.prefix false))
    first_of f range = led_first f k (λ u m. (range u m).1) (λ u m. (range u m).0)

    pub keyed_same : UsesAreInRange h.feed → UsesAreInRange g.feed → IsNoKey → first_keyed k (reoriginated_paths h) ≡ first_keyed k (reoriginated_paths g)
    keyed_same there here none =
        first_of h there
        ∙ (λ n. first_some (place_same none (instance_in k.rd) k.prefix true n) (place_same none (instance_in k.rd) k.prefix false n))
        ∙ sym (first_of g here)
