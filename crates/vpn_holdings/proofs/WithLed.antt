-- The paths of an instance to a prefix: those that it received, and those that lead on into it.
use Rattle.std.specs.Prelude.{◌≡◌, ◌↔◌, List, [], ◌∷◌, ◌++◌, map, Bool, true, false, ◌&&◌}
use Rattle.std.specs.List.{filter}
use Rattle.std.proofs.lemmas.Bool.{true≢false}
use Rattle.std.proofs.Common.{sym, ◌∙◌, ap, subst, inl, inr}
use Rattle.ov_types.specs.Prefix.{Block}
use Rattle.ov_types.specs.declared.numbers.InstanceId.{InstanceId}
use Rattle.route_targets.specs.Numbers.{target_of}
use Rattle.path_select.specs.NodeModel.Members.{Member}
use Rattle.path_select.specs.NodeModel.Paths as model
use Rattle.path_select.specs.NodeModel.Paths.{Holdings, has_target, received}
use Rattle.path_select.specs.NodeModel.Reaching.{AreShort, reoriginated_paths}
use Rattle.path_select.specs.NodeModel.Tables.{of_prefix, paths_of, same_prefix}
use Rattle.path_select.proofs.NodeModel.Members.{from_filter, from_map, in_either, in_filter, in_left, in_map, in_right}
use Rattle.path_select.specs.declared.selection.Path.{Path}
use Rattle.path_select.specs.Selection.{plain}
use Rattle.vpn_holdings.specs.At.{is_led_at, led_at, paths_at}
use Rattle.vpn_holdings.proofs.LedAt.{led_members}
use Rattle.vpn_holdings.specs.Indexed.{received_at}
use Rattle.vpn_holdings.proofs.Subnets.{both}

both_true : (a b : Bool) → a ≡ true → b ≡ true → (a && b) ≡ true
both_true true b _ f = f
both_true false b e _ = absurd (true≢false (sym e))

module _ (h : Holdings) (i : InstanceId) (q : Block) (short : AreShort h.feed) where
  abbrev here : model.Path → Bool
  here p = same_prefix p.prefix q

  abbrev is_to_it : model.Path → Bool
  is_to_it = has_target (target_of h.asn i ∷ [])

  abbrev led : List model.Path
  led = led_at h i q true ++ led_at h i q false

  shown : (p : model.Path) → Member p (paths_of h i) → here p ≡ true → Member (plain p) (paths_at h i q)
  shown p m t = in_map plain p (of_prefix q (paths_of h i)) (in_filter here p (paths_of h i) m t)

  from_received : (x : Path) → Member x (received_at h i q) → Member x (paths_at h i q)
  from_received x m =
      let f = from_map plain x (of_prefix q (received h i)) m in
      let p : model.Path = f.0 in
      let g = from_filter here p (received h i) f.1 in
      subst (λ (y : Path). Member y (paths_at h i q)) f.2 (shown p (in_left p (received h i) (filter is_to_it (reoriginated_paths h)) g.0) g.1)

  from_led : (p : model.Path) → Member p led → Member (plain p) (paths_at h i q)
  from_led p m =
      let g = from_filter (is_led_at (target_of h.asn i) q) p (reoriginated_paths h) ((led_members h i q short p).0 m) in
      let b = both (is_to_it p) (here p) g.1 in
      shown p (in_right p (received h i) (filter is_to_it (reoriginated_paths h)) (in_filter is_to_it p (reoriginated_paths h) g.0 b.0)) b.1

  to_led : (p : model.Path) → Member p (filter is_to_it (reoriginated_paths h)) → here p ≡ true → Member p led
  to_led p m t =
      let g = from_filter is_to_it p (reoriginated_paths h) m in
      (led_members h i q short p).1 (in_filter (is_led_at (target_of h.asn i) q) p (reoriginated_paths h) g.0 (both_true (is_to_it p) (here p) g.1 t))

  module _ (got a b : List Path) (e : (x : Path) → Member x got ↔ Member x (received_at h i q)) (ea : a ≡ got ++ map plain (led_at h i q true)) (eb : b ≡ a ++ map plain (led_at h i q false)) where
    abbrev right : List Path
    right = map plain (led_at h i q true)

    abbrev left : List Path
    left = map plain (led_at h i q false)

    is : b ≡ (got ++ right) ++ left
    is = eb ∙ ap (λ (l : List Path). l ++ left) ea

    of_right : (x : Path) → Member x right → Member x (paths_at h i q)
    of_right x m =
        let f = from_map plain x (led_at h i q true) m in
        subst (λ (y : Path). Member y (paths_at h i q)) f.2 (from_led f.0 (in_left f.0 (led_at h i q true) (led_at h i q false) f.1))

    of_left : (x : Path) → Member x left → Member x (paths_at h i q)
    of_left x m =
        let f = from_map plain x (led_at h i q false) m in
        subst (λ (y : Path). Member y (paths_at h i q)) f.2 (from_led f.0 (in_right f.0 (led_at h i q true) (led_at h i q false) f.1))

    found : (x : Path) → Member x b → Member x (paths_at h i q)
    found x m =
        elim (in_either x (got ++ right) left (subst (Member x) is m)) as (λ _. Member x (paths_at h i q)) [
          | inl l ↦ elim (in_either x got right l) as (λ _. Member x (paths_at h i q)) [ inl g ↦ from_received x ((e x).0 g) | inr r ↦ of_right x r ]
          | inr r ↦ of_left x r
        ]

    led_found : (p : model.Path) → Member p led → Member (plain p) ((got ++ right) ++ left)
    led_found p m =
        elim (in_either p (led_at h i q true) (led_at h i q false) m) as (λ _. Member (plain p) ((got ++ right) ++ left)) [
          | inl r ↦ in_left (plain p) (got ++ right) left (in_right (plain p) got right (in_map plain p (led_at h i q true) r))
          | inr l ↦ in_right (plain p) (got ++ right) left (in_map plain p (led_at h i q false) l)
        ]

    kept : (x : Path) → Member x (paths_at h i q) → Member x b
    kept x m =
        let f = from_map plain x (of_prefix q (paths_of h i)) m in
        let p : model.Path = f.0 in
        let g = from_filter here p (paths_of h i) f.1 in
        subst (Member x) (sym is) (subst (λ (y : Path). Member y ((got ++ right) ++ left)) f.2
        (elim (in_either p (received h i) (filter is_to_it (reoriginated_paths h)) g.0) as (λ _. Member (plain p) ((got ++ right) ++ left)) [
          | inl r ↦ in_left (plain p) (got ++ right) left (in_left (plain p) got right ((e (plain p)).1 (in_map plain p (of_prefix q (received h i)) (in_filter here p (received h i) r g.1))))
          | inr l ↦ led_found p (to_led p l g.1)
        ]))

    pub with_led : (x : Path) → Member x b ↔ Member x (paths_at h i q)
    with_led x = (found x, kept x)
