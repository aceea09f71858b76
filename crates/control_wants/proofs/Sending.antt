-- Telling what is marked tells all.
use Rattle.std.specs.Prelude.{◌≡◌, ℕ, List, [], ◌∷◌, map, length, take, Bool, true, false, cond, ◌||◌}
use Rattle.std.specs.declared.option.Option.{Option}
use Rattle.std.specs.declared.option.Option.TheVariants.{Some, None}
use Rattle.std.specs.declared.cmp.Ordering.TheVariants.{Less}
use Rattle.std.specs.List.{AllByRecursion, filter, list_any}
use Rattle.std.specs.List.Sorted.{IsStrictlySortedBy}
use Rattle.std.specs.FinMap.{get-from_entries}
use Rattle.std.specs.Ordering.{eq_by_cmp, is_eq}
use Rattle.std.specs.Cmp.{tied_itself}
use Rattle.std.proofs.Common.{refl, sym, ◌∙◌, ap, subst, inl, inr}
use Rattle.ov_sync.specs.Embed.{moved_delta}
use Rattle.ov_sync.specs.Keyed as keyed
use Rattle.ov_sync.specs.Keyed.{AgreeBut, map_of}
use Rattle.ov_sync.proofs.EmbedLaws.{difference-embedded}
use Rattle.ov_types.specs.contracts.keys.DownValuePartialEq.TheImpl as down_values
use Rattle.ov_types.specs.contracts.vpn.VpnRoutePartialEq.TheImpl as vpn_routes
use Rattle.ov_types.specs.declared.keys.DownKey.{DownKey}
use Rattle.ov_types.specs.declared.keys.DownValue.{DownValue}
use Rattle.ov_types.specs.declared.vpn.VpnKey.{VpnKey}
use Rattle.ov_types.specs.declared.vpn.VpnRoute.{VpnRoute}
use Rattle.control_wants.specs.NodeCore.Told.{down_of, down_value}
use Rattle.vpn_tables.specs.NodeModel.Directions.{down_order, vpn_order}
use Rattle.vpn_tables.specs.NodeModel.Keys.{Key, Vpn, key_cmp, of_down}
use Rattle.vpn_tables.specs.NodeModel.Maps.{Map, difference}
use Rattle.vpn_tables.specs.NodeModel.Members.{Member}
use Rattle.vpn_tables.specs.NodeModel.Paths.{Holdings, Told}
use Rattle.vpn_tables.specs.NodeModel.Values.{Route, same_value}
use Rattle.vpn_tables.specs.NodeModel.Wants.{wanted_by_peers}
use Rattle.vpn_tables.proofs.NodeModel.Directions.{down_exact, down_keeps, down_total, vpn_exact, vpn_keeps, vpn_total}
use Rattle.vpn_tables.proofs.NodeModel.Orders.{key_total}
use Rattle.vpn_tables.specs.Listing.{told_in}
use Rattle.vpn_tables.specs.Views.{peer_of}
use Rattle.vpn_tables.specs.Here.{wanted_on}
use Rattle.control_wants.specs.Marks.{Marks, is_marked, is_of, marked_of}
use Rattle.control_wants.specs.declared.whom.Whom.{Whom}
use Rattle.control_wants.proofs.Sets.{found_entry}
use Rattle.control_wants.proofs.Images.{agree}
use Rattle.control_wants.specs.Wanted.{AreItems, AreRoutes, IsSentToAgent, IsSentToPeer, keys_of}

-- ---- keys that are found
right_true : (a b : Bool) → b ≡ true → (a || b) ≡ true
right_true true b e = refl
right_true false b e = e

found : (k : Key) (ks : List Key) → Member k ks → list_any (eq_by_cmp key_cmp k) ks ≡ true
found k [] n = absurd n
found k (x ∷ xs) (inl e) = ap (λ b. b || list_any (eq_by_cmp key_cmp k) xs) (ap is_eq (ap (key_cmp k) e ∙ tied_itself key_total k))
found k (x ∷ xs) (inr n) = right_true (eq_by_cmp key_cmp k x) (list_any (eq_by_cmp key_cmp k) xs) (found k xs n)

unmarked : (k : Key) (ks : List Key) → list_any (eq_by_cmp key_cmp k) ks ≡ false → Member k ks → ⊥
unmarked k ks none n = let no : true ≡ false = sym (found k ks n) ∙ none in absurd (cc)

map_again : {X Y Z : Type 0} (f : X → Y) (g : Y → Z) (xs : List X) → map g (map f xs) ≡ map (λ x. g (f x)) xs
map_again f g [] = refl
map_again f g (x ∷ xs) = ap (λ ys. g (f x) ∷ ys) (map_again f g xs)

-- ---- routes
pub routes_agree : (d : Marks) (h : Holdings) (sent : Map) (es : List (VpnKey × Option VpnRoute)) → d.all ≡ false → AreRoutes d h es → IsSentToPeer d h sent
    → AgreeBut (map (λ e. Vpn e.0) es) sent (wanted_by_peers h)
routes_agree d h sent es all are tracked = λ k none.
    let keys : map (λ (e : VpnKey × Option VpnRoute). Vpn e.0) es ≡ map Vpn d.routes = sym (map_again (λ (e : VpnKey × Option VpnRoute). e.0) Vpn es) ∙ ap (map Vpn) are.keys in
    tracked all k (unmarked k (map Vpn d.routes) (ap (list_any (eq_by_cmp key_cmp k)) (sym keys) ∙ none))

pub routes_differ : (sent wanted : List (VpnKey × VpnRoute))
    → map (moved_delta Vpn Route) (keyed.difference vpn_routes.ghosts.eq (map_of vpn_order sent) (map_of vpn_order wanted)) ≡ difference (peer_of sent) (peer_of wanted)
routes_differ sent wanted =
    sym (difference-embedded Vpn Route vpn_total key_total vpn_keeps vpn_routes.ghosts.eq same_value (λ v w. refl) vpn_exact (map_of vpn_order sent) (map_of vpn_order wanted))

pub items_differ : (sent wanted : List (DownKey × DownValue))
    → map (moved_delta of_down down_value) (keyed.difference down_values.ghosts.eq (map_of down_order sent) (map_of down_order wanted)) ≡ difference (down_of sent) (down_of wanted)
items_differ sent wanted =
    sym (difference-embedded of_down down_value down_total key_total down_keeps down_values.ghosts.eq same_value agree down_exact (map_of down_order sent) (map_of down_order wanted))

-- ---- keys that are marked of an agent
abbrev fst : DownKey × Whom → DownKey
fst e = e.0

module _ (p : DownKey × Whom → Bool) where
  kept_above : (k : DownKey) (es : List (DownKey × Whom)) → AllByRecursion (λ y. down_order k y ≡ Less) (map fst es) → AllByRecursion (λ y. down_order k y ≡ Less) (map fst (filter p es))
  kept_above k [] h = tt
  kept_above k (e ∷ es) h =
      elim (p e) as (λ b. AllByRecursion (λ y. down_order k y ≡ Less) (map fst (cond b (e ∷ filter p es) (filter p es)))) [
        | true ↦ (h.0, kept_above k es h.1)
        | false ↦ kept_above k es h.1
      ]

  pub sorted_kept : (es : List (DownKey × Whom)) → IsStrictlySortedBy down_order (map (λ e. e.0) es) → IsStrictlySortedBy down_order (map (λ e. e.0) (filter p es))
  unfolding IsStrictlySortedBy
  sorted_kept [] h = h
  sorted_kept (e ∷ es) h =
      elim (p e) as (λ b. IsStrictlySortedBy down_order (map fst (cond b (e ∷ filter p es) (filter p es)))) [
        | true ↦ (kept_above e.0 es h.0, sorted_kept es h.1)
        | false ↦ sorted_kept es h.1
      ]

  kept_in : (es : List (DownKey × Whom)) (e : DownKey × Whom) → Member e es → p e ≡ true → Member e.0 (map fst (filter p es))
  kept_in [] e n t = absurd n
  kept_in (x ∷ xs) e (inl is) t =
      subst (λ b. Member e.0 (map fst (cond b (x ∷ filter p xs) (filter p xs)))) (sym (ap p is ∙ t)) (inl (ap fst is))
  kept_in (x ∷ xs) e (inr n) t =
      elim (p x) as (λ b. Member e.0 (map fst (cond b (x ∷ filter p xs) (filter p xs)))) [
        | true ↦ inr (kept_in xs e n t)
        | false ↦ kept_in xs e n t
      ]

pub all_taken : {X : Type 0} (xs : List X) (i : ℕ) → i ≡ length xs → take i xs ≡ xs
all_taken xs i e = ap (λ n. take n xs) e ∙ whole xs
  where
    whole : {X : Type 0} (xs : List X) → take (length xs) xs ≡ xs
    whole [] = refl
    whole (x ∷ xs) = ap (λ ys. x ∷ ys) (whole xs)

mapped : {X Y : Type 0} (f : X → Y) (x : X) (xs : List X) → Member x xs → Member (f x) (map f xs)
mapped f x [] n = n
mapped f x (y ∷ ys) (inl e) = inl (ap f e)
mapped f x (y ∷ ys) (inr n) = inr (mapped f x ys n)

-- a key that is not among them is not marked of the agent
not_marked : (d : Marks) (a : Told) (k : Key) → (Member k (map of_down (keys_of a d.items)) → ⊥) → (x : DownKey) → of_down x ≡ k → is_marked a x (marked_of d x) ≡ false
not_marked d a k away x is = by_mark (marked_of d x) refl
  where
    by_agents : (whom : Whom) → marked_of d x ≡ Some whom → (b : Bool) → is_of a x whom ≡ b → is_of a x whom ≡ false
    by_agents whom e false t = t
    by_agents whom e true t =
        absurd (away (subst (λ (y : Key). Member y (map of_down (keys_of a d.items))) is
        (mapped of_down x (keys_of a d.items)
        (kept_in (λ e. is_of a e.0 e.1) d.items (x, whom) (found_entry down_order down_exact d.items x whom (sym (get-from_entries down_total d.items x) ∙ e)) t))))

    by_mark : (o : Option Whom) → marked_of d x ≡ o → is_marked a x (marked_of d x) ≡ false
    by_mark None e = ap (is_marked a x) e
    by_mark (Some whom) e = ap (is_marked a x) e ∙ by_agents whom e (is_of a x whom) refl

-- ---- items
pub items_agree : (d : Marks) (h : Holdings) (session : ℕ) (sent : Map) (es : List (DownKey × Option DownValue)) → d.all ≡ false
    → (Member (told_in h.agents session).address d.addresses → ⊥) → AreItems d h session es → IsSentToAgent d h session sent
    → AgreeBut (map (λ e. of_down e.0) es) sent (wanted_on h session)
items_agree d h session sent es all elsewhere are tracked = λ k none.
    let a = told_in h.agents session in
    let keys : map (λ (e : DownKey × Option DownValue). of_down e.0) es ≡ map of_down (keys_of a d.items) = sym (map_again (λ (e : DownKey × Option DownValue). e.0) of_down es) ∙ ap (map of_down) are.keys in
    tracked all k (elsewhere, not_marked d a k (unmarked k (map of_down (keys_of a d.items)) (ap (list_any (eq_by_cmp key_cmp k)) (sym keys) ∙ none)))
