-- Where less is held, nothing follows where nothing followed.
use Rattle.std.specs.Prelude.{◌≡◌, ℕ, zero, suc, List, [], ◌∷◌, ◌++◌, map, Bool, true, false, cond, ◌==◌, ◌&&◌, ◌||◌, is_some, nat_le}
use Rattle.std.specs.declared.option.Option.{Option}
use Rattle.std.specs.declared.option.Option.TheVariants.{Some, None}
use Rattle.std.specs.List.{filter, list_any}
use Rattle.std.proofs.lemmas.Bool.{true≢false, or_left, or_right}
use Rattle.std.proofs.Common.{refl, sym, ◌∙◌, ap, subst, inl, inr}
use Rattle.ov_types.specs.Prefix.{Block, is_inside}
use Rattle.ov_types.specs.declared.numbers.InstanceId.{InstanceId}
use Rattle.ov_types.specs.declared.numbers.Label.{Label as LabelNo}
use Rattle.ov_types.specs.declared.prefix.Addr.{Addr}
use Rattle.ov_types.specs.declared.targets.Target.{Target}
use Rattle.route_targets.specs.Numbers.{distinguisher_of, target_of}
use Rattle.node_model.specs.Members.{Member}
use Rattle.node_model.specs.Uses.{imports, is_hop, place_of, use_of}
use Rattle.node_model.specs.Paths.{Holdings, Path, has_target, own_paths, peer_paths, received}
use Rattle.node_model.specs.Reaching.{IsReoriginated, Side, circuit_at, has_path_within, hop_at, is_up, publisher, reoriginated_paths, sides, subnets}
use Rattle.node_model.specs.Tables.{paths_of, same_prefix}
use Rattle.node_model.proofs.Members.{any_in, from_any, from_filter, from_map, in_either, in_filter, in_left, in_map, in_right}
use Rattle.node_model.proofs.Routes.{reoriginated_from, reoriginated_in}
use Rattle.vpn_holdings.specs.Answers.{distance, is_up_at, is_up_on, side_at}
use Rattle.vpn_tables.specs.Stored.{entry_of, nothing_stored}
use Rattle.vpn_tables.specs.declared.stored.Entry.{Entry}
use Rattle.vpn_tables.specs.declared.stored.RowKey.{RowKey}
use Rattle.vpn_tables.proofs.Same.{Beside, none_stays}

-- what g holds h does too
pub record IsLess (g h : Holdings) : Type 0 where
  pub asn : g.asn ≡ h.asn
  pub imported : (i n : InstanceId) → Member n (imports g.feed i) → Member n (imports h.feed i)
  pub own : (p : Path) → Member p (own_paths g) → Member p (own_paths h)
  pub peers : (p : Path) → Member p (peer_paths g) → Member p (peer_paths h)
  pub seen : (n : ℕ) (b : Bool) (s : Side) → side_at g.feed n b ≡ Some s → side_at h.feed n b ≡ Some s
  pub held : (s : Side) → Member s (sides g.feed) → Member s (sides h.feed)
  pub published : (c : ℕ) → is_some (publisher g c) ≡ true → is_some (publisher h c) ≡ true

-- ---- booleans
pub more_left : (a b c d : Bool) → (a ≡ true → c ≡ true) → (b ≡ true → d ≡ true) → (a || b) ≡ true → (c || d) ≡ true
more_left true b c d f g e = or_left c d (f refl)
more_left false b c d f g e = or_right c d (g e)

pub more_both : (a b c d : Bool) → (a ≡ true → c ≡ true) → (b ≡ true → d ≡ true) → (a && b) ≡ true → (c && d) ≡ true
more_both true b c d f g e = ap (λ x. x && d) (f refl) ∙ g e
more_both false b c d f g e = absurd (true≢false (sym e))

module _ (g h : Holdings) (less : IsLess g h) where
  -- ---- received
  target_more : (i : InstanceId) (p : Path) → has_target (map (target_of g.asn) (imports g.feed i)) p ≡ true → has_target (map (target_of h.asn) (imports h.feed i)) p ≡ true
  target_more i p e =
      let t = from_any (λ (t : Target). list_any (λ (u : Target). t.0 == u.0) (map (target_of g.asn) (imports g.feed i))) p.targets e in
      let u = from_any (λ (u : Target). t.0.0 == u.0) (map (target_of g.asn) (imports g.feed i)) t.2 in
      let n = from_map (target_of g.asn) u.0 (imports g.feed i) u.1 in
      let there : Member u.0 (map (target_of h.asn) (imports h.feed i)) =
      subst (λ (x : Target). Member x (map (target_of h.asn) (imports h.feed i))) (ap (λ a. target_of a n.0) (sym less.asn) ∙ n.2)
      (in_map (target_of h.asn) n.0 (imports h.feed i) (less.imported i n.0 n.1)) in
      any_in (λ (t : Target). list_any (λ (u : Target). t.0 == u.0) (map (target_of h.asn) (imports h.feed i))) t.0 p.targets t.1
      (any_in (λ (u : Target). t.0.0 == u.0) u.0 (map (target_of h.asn) (imports h.feed i)) there u.2)

  pub received_less : (i : InstanceId) (p : Path) → Member p (received g i) → Member p (received h i)
  received_less i p m =
      let f = from_filter (has_target (map (target_of g.asn) (imports g.feed i))) p (own_paths g ++ peer_paths g) m in
      in_filter (has_target (map (target_of h.asn) (imports h.feed i))) p (own_paths h ++ peer_paths h)
      (elim (in_either p (own_paths g) (peer_paths g) f.0) as (λ _. Member p (own_paths h ++ peer_paths h)) [
        | inl o ↦ in_left p (own_paths h) (peer_paths h) (less.own p o)
        | inr o ↦ in_right p (own_paths h) (peer_paths h) (less.peers p o)
      ]) (target_more i p f.1)

  -- ---- up
  within_less : (i : InstanceId) (q : Block) → has_path_within g i q ≡ true → has_path_within h i q ≡ true
  within_less i q e =
      let p = from_any (λ (p : Path). is_inside p.prefix q) (received g i) e in
      any_in (λ (p : Path). is_inside p.prefix q) p.0 (received h i) (received_less i p.0 p.1) p.2

  pub up_less : (s : Side) (q : Block) (d : ℕ) → is_up g s q d ≡ true → is_up h s q d ≡ true
  up_less s q zero e = within_less (hop_at s zero) q e
  up_less s q (suc d) e =
      more_left (has_path_within g (hop_at s (suc d)) q) (is_some (publisher g (circuit_at s (suc d))) && is_up g s q d)
      (has_path_within h (hop_at s (suc d)) q) (is_some (publisher h (circuit_at s (suc d))) && is_up h s q d)
      (within_less (hop_at s (suc d)) q)
      (more_both (is_some (publisher g (circuit_at s (suc d)))) (is_up g s q d) (is_some (publisher h (circuit_at s (suc d)))) (is_up h s q d)
      (less.published (circuit_at s (suc d))) (up_less s q d)) e

  pub up_at_less : (i : InstanceId) (q : Block) (b : Bool) → is_up_at h i q b ≡ false → is_up_at g i q b ≡ false
  up_at_less i q b none =
      elim (is_up_at g i q b) as (λ t. is_up_at g i q b ≡ t → t ≡ false) [
        | true ↦ λ e. absurd (true≢false (sym (at_hop (is_hop i) e) ∙ none))
        | false ↦ λ _. refl
      ] refl
    where
      at_subnet : (s : Side) (t : Bool) → cond t (is_up g s q (distance s (place_of i))) false ≡ true → cond t (is_up h s q (distance s (place_of i))) false ≡ true
      at_subnet s true e = up_less s q (distance s (place_of i)) e
      at_subnet s false e = e

      at_place : (s : Side) (t : Bool) → cond t (cond (list_any (same_prefix q) (subnets s)) (is_up g s q (distance s (place_of i))) false) false ≡ true
          → cond t (cond (list_any (same_prefix q) (subnets s)) (is_up h s q (distance s (place_of i))) false) false ≡ true
      at_place s true e = at_subnet s (list_any (same_prefix q) (subnets s)) e
      at_place s false e = e

      at_side : (o : Option Side) → side_at g.feed (use_of i) b ≡ o → is_up_on g (place_of i) q o ≡ true → is_up_on h (place_of i) q (side_at h.feed (use_of i) b) ≡ true
      at_side None is e = absurd (true≢false (sym e))
      at_side (Some s) is e = ap (is_up_on h (place_of i) q) (less.seen (use_of i) b s is) ∙ at_place s (nat_le (place_of i) s.chain.services) e

      at_hop : (t : Bool) → cond t (is_up_on g (place_of i) q (side_at g.feed (use_of i) b)) false ≡ true → cond t (is_up_on h (place_of i) q (side_at h.feed (use_of i) b)) false ≡ true
      at_hop true e = at_side (side_at g.feed (use_of i) b) refl e
      at_hop false e = e

  -- ---- a route that leads on has one beside it, maybe of another agent
  there : (o : Option (Addr × LabelNo)) → is_some o ≡ true → (x : Addr × LabelNo) × (o ≡ Some x)
  there None e = absurd (true≢false (sym e))
  there (Some x) e = (x, refl)

  led_less : (p : Path) → Member p (reoriginated_paths g) → (r : Path) × Member r (reoriginated_paths h) × ((r.prefix ≡ p.prefix) × (r.targets ≡ p.targets))
  led_less p m =
      let l = reoriginated_from g p m in
      let x = there (publisher h (circuit_at l.side (suc l.depth))) (less.published (circuit_at l.side (suc l.depth)) (ap is_some l.published)) in
      let r : Path = record {
        prefix = p.prefix;
        rd = distinguisher_of x.0.0 (hop_at l.side (suc l.depth));
        next_hop = x.0.0;
        label = x.0.1;
        targets = target_of h.asn (hop_at l.side (suc l.depth)) ∷ [];
        session = 65535;
      } in
      let is : IsReoriginated h r = record {
        side = l.side;
        depth = l.depth;
        held = less.held l.side l.held;
        within = l.within;
        subnet = l.subnet;
        up = up_less l.side p.prefix l.depth l.up;
        published = x.1;
        rd = refl;
        targets = refl;
        session = refl;
      } in
      (r, reoriginated_in h r is, (refl, ap (λ a. target_of a (hop_at l.side (suc l.depth)) ∷ []) (sym less.asn) ∙ sym l.targets))

  pub beside : (i : InstanceId) (q : Block) → Beside h g i q
  beside i q p m e =
      elim (in_either p (received g i) (filter (has_target (target_of g.asn i ∷ [])) (reoriginated_paths g)) m) as (λ _. (r : Path) × Member r (paths_of h i) × (r.prefix ≡ q)) [
        | inl o ↦ (p, in_left p (received h i) (filter (has_target (target_of h.asn i ∷ [])) (reoriginated_paths h)) (received_less i p o), e)
        | inr o ↦
            let f = from_filter (has_target (target_of g.asn i ∷ [])) p (reoriginated_paths g) o in
            let l = led_less p f.0 in (
              l.0,
              in_right l.0 (received h i) (filter (has_target (target_of h.asn i ∷ [])) (reoriginated_paths h)) (in_filter (has_target (target_of h.asn i ∷ [])) l.0 (reoriginated_paths h) l.1
                  (ap (λ (ts : List Target). list_any (λ (t : Target). list_any (λ (u : Target). t.0 == u.0) (target_of h.asn i ∷ [])) ts) l.2.1
                  ∙ ap (λ a. has_target (target_of a i ∷ []) p) (sym less.asn) ∙ f.1)),
              l.2.0 ∙ e,
            )
      ]

  -- ---- entries
  pub nothing_stays : (k : RowKey) → nothing_stored ≡ entry_of h k → nothing_stored ≡ entry_of g k
  nothing_stays k e = λ n. record {
    path = sym (none_stays h g k.instance k.prefix (beside k.instance k.prefix) (sym (ap (λ (e : Entry). e.path) e))) n;
    is_up_right = sym (up_at_less k.instance k.prefix true (sym (ap (λ (e : Entry). e.is_up_right) e))) n;
    is_up_left = sym (up_at_less k.instance k.prefix false (sym (ap (λ (e : Entry). e.is_up_left) e))) n;
  }
