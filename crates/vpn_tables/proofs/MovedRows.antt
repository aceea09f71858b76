-- What follows of an instance and a prefix is one thing, and stays where a change does not touch it.
use Rattle.std.specs.Prelude.{◌≡◌, ◌≢◌, ◌⊎◌, ◌==◌, ◌&&◌, not, IfOk, IfSome, OnErr, ℕ, zero, suc, List, [], map, Bool, true, false, cond, nat_le}
use Rattle.std.specs.declared.option.Option.{Option}
use Rattle.std.specs.declared.option.Option.TheVariants.{Some, None}
use Rattle.std.specs.declared.result.Result.{Result}
use Rattle.std.specs.declared.result.Result.TheVariants.{Ok, Err}
use Rattle.std.specs.Option.{option_eq}
use Rattle.std.specs.List.{AllByRecursion, filter, list_any}
use Rattle.std.proofs.lemmas.Bool.{and_parts, eq-eqb, eqb-true, true≢false}
use Rattle.std.proofs.Common.{refl, sym, ◌∙◌, ap, subst, inl, inr}
use Rattle.ov_sync.specs.declared.Delta.{Delta}
use Rattle.ov_sync.specs.Keyed.{key_of}
use Rattle.ov_types.specs.Prefix.{Block}
use Rattle.ov_types.specs.declared.keys.UpKey.{UpKey}
use Rattle.ov_types.specs.declared.keys.UpKey.TheVariants as Up
use Rattle.ov_types.specs.declared.numbers.InstanceId.{InstanceId}
use Rattle.ov_types.specs.declared.numbers.Label.{Label as LabelNo}
use Rattle.ov_types.specs.declared.prefix.Addr.{Addr}
use Rattle.ov_types.specs.declared.vpn.VpnKey.{VpnKey}
use Rattle.ov_types.specs.declared.vpn.VpnRoute.{VpnRoute}
use Rattle.node_model.specs.Members.{Member}
use Rattle.node_model.specs.Paths.{Holdings, Path}
use Rattle.node_model.specs.Reaching.{AreShort, Side, circuit_at, hop_at, is_up, publisher, subnets, towards}
use Rattle.node_model.specs.Tables.{same_prefix}
use Rattle.node_model.specs.Uses.{is_hop, place_of, use_of}
use Rattle.node_model.proofs.Members.{from_any, from_filter, from_map, in_filter, in_map, none_some}
use Rattle.node_model.proofs.Orders.{prefix_same, same_prefix-from}
use Rattle.path_select.specs.contracts.selection.PathPartialEq.TheImpl as path_eq
use Rattle.path_select.specs.declared.selection.Path.{Path as Selected}
use Rattle.vpn_holdings.specs.Answers.{distance, side_at}
use Rattle.vpn_holdings.specs.At.{led_at, led_from, led_on_side, selected_at}
use Rattle.vpn_holdings.specs.Changes.{with_publication, with_route}
use Rattle.vpn_holdings.specs.Moved.{moved_by_publication, moved_by_route, place_by_publication, targets_by_publication, targets_by_route}
use Rattle.vpn_holdings.specs.Touched.{rows_by_key, touched_rows}
use Rattle.vpn_holdings.specs.contracts.routes.RoutePartialEq.TheImpl as route_eq
use Rattle.vpn_holdings.specs.declared.routes.Route.{Route}
use Rattle.vpn_tables.proofs.Filtering.{all_from}
use Rattle.vpn_tables.proofs.TouchedByChanges.{covers_all, covers_publication, no_rows, publication_moves, route_moves, subscription_targets}
use Rattle.vpn_tables.proofs.Wanted.{at_row}
use Rattle.vpn_tables.specs.Followed.{AreOther, HasMoved, IsFollowed, IsListed, IsRowChange, first_route, followed_again, followed_at, led_by, unchanged_at}
use Rattle.vpn_tables.specs.Stored.{is_row, key_at}
use Rattle.vpn_tables.specs.contracts.changes.FollowedPartialEq.TheImpl as followed_eq
use Rattle.vpn_tables.specs.declared.changes.Followed.{Followed}
use Rattle.vpn_tables.specs.declared.changes.RowChange.{RowChange}
use Rattle.vpn_tables.specs.declared.stored.Entry.{Entry}
use Rattle.vpn_tables.specs.declared.stored.RowKey.{RowKey}
use Rattle.vpn_tables.proofs.Keeping.{not_listed}
use Rattle.vpn_tables.proofs.LedStays.{led_stays}
use Rattle.vpn_tables.proofs.Order.{row_is}
use Rattle.vpn_tables.proofs.EntriesStay.{publication_entry, route_entry}

-- ---- one thing follows
route_back : (r : Option Route) → first_route (led_by r) ≡ r
route_back None = refl
route_back (Some r) = refl

pub is_followed : (h : Holdings) (i : InstanceId) (q : Block) (f : Followed) → IsFollowed h i q f → f ≡ followed_at h i q
is_followed h i q f is =
    let right : f.led_right ≡ first_route (led_at h i q true) = sym (route_back f.led_right) ∙ ap first_route is.led_right in
    let left : f.led_left ≡ first_route (led_at h i q false) = sym (route_back f.led_left) ∙ ap first_route is.led_left in
    λ n. record { path = is.path n; led_right = right n; led_left = left n }

-- ---- what follows is there: a route that leads on is one with one target
abbrev IsOne : List Path → Type 0
IsOne ps = led_by (first_route ps) ≡ ps

one_towards : (h : Holdings) (i : InstanceId) (q : Block) (o : Option (Addr × LabelNo)) → IsOne (towards h i q o)
one_towards h i q None = refl
one_towards h i q (Some by) = refl

one_where : (b : Bool) (ps : List Path) → IsOne ps → IsOne (cond b ps [])
one_where true ps e = e
one_where false ps e = refl

one_from : (h : Holdings) (s : Side) (d : ℕ) (q : Block) → IsOne (led_from h s d q)
one_from h s zero q = refl
one_from h s (suc d) q =
    one_where (is_up h s q d) (towards h (hop_at s (suc d)) q (publisher h (circuit_at s (suc d)))) (one_towards h (hop_at s (suc d)) q (publisher h (circuit_at s (suc d))))

one_on_side : (h : Holdings) (place : ℕ) (q : Block) (o : Option Side) → IsOne (led_on_side h place q o)
one_on_side h place q None = refl
one_on_side h place q (Some s) =
    one_where (nat_le place s.chain.services) (cond (list_any (same_prefix q) (subnets s)) (led_from h s (distance s place) q) [])
    (one_where (list_any (same_prefix q) (subnets s)) (led_from h s (distance s place) q) (one_from h s (distance s place) q))

one_led : (h : Holdings) (i : InstanceId) (q : Block) (b : Bool) → IsOne (led_at h i q b)
one_led h i q b = one_where (is_hop i) (led_on_side h (place_of i) q (side_at h.feed (use_of i) b)) (one_on_side h (place_of i) q (side_at h.feed (use_of i) b))

pub followed_is : (h : Holdings) (i : InstanceId) (q : Block) → IsFollowed h i q (followed_at h i q)
followed_is h i q = record { path = refl; led_right = one_led h i q true; led_left = one_led h i q false }

-- ---- what follows stays where a change does not touch it
followed_same : (h g : Holdings) (i : InstanceId) (q : Block) → selected_at h i q ≡ selected_at g i q → ((b : Bool) → led_at h i q b ≡ led_at g i q b) → followed_at h i q ≡ followed_at g i q
followed_same h g i q path led = λ n. record { path = path n; led_right = first_route (led true n); led_left = first_route (led false n) }

pub route_followed : (h : Holdings) (session : ℕ) (d : Delta VpnKey VpnRoute) → AreShort h.feed → (i : InstanceId) (q : Block)
    → (Member (at_row i q) (touched_rows h (targets_by_route h session d) (key_of d).prefix) → ⊥) → followed_at h i q ≡ followed_at (with_route h session d) i q
route_followed h zero d short i q clean = refl
route_followed h (suc place) d short i q clean =
    followed_same h (with_route h (suc place) d) i q (ap (λ (e : Entry). e.path) (route_entry h (suc place) d short (key_at (i, q)) clean)) (λ b.
    led_stays h (with_route h (suc place) d).peers h.agents (moved_by_route h (suc place) d) None (route_moves h (suc place) d) (targets_by_route h (suc place) d)
    (covers_all h.asn (moved_by_route h (suc place) d)) short (key_of d).prefix i q b clean)

publication_led : (h : Holdings) (session : ℕ) (d : Delta UpKey LabelNo) → AreShort h.feed → (prefix : Block) (i : InstanceId) (q : Block) (b : Bool)
    → (Member (at_row i q) (touched_rows h (targets_by_publication h session d) prefix) → ⊥)
    → led_at h i q b ≡ led_at (with_publication h session d) i q b
publication_led h session d short prefix i q b clean =
    led_stays h h.peers (with_publication h session d).agents (moved_by_publication h session d) (place_by_publication h session d) (publication_moves h session d) (targets_by_publication h session d)
    (covers_publication h session d) short prefix i q b clean

pub publication_followed : (h : Holdings) (session : ℕ) (d : Delta UpKey LabelNo) → AreShort h.feed → (key : UpKey) → key_of d ≡ key → (i : InstanceId) (q : Block)
    → (Member (at_row i q) (rows_by_key h (targets_by_publication h session d) key) → ⊥) → followed_at h i q ≡ followed_at (with_publication h session d) i q
publication_followed h session d short (Up.Publish j prefix) e i q clean =
    followed_same h (with_publication h session d) i q (ap (λ (e : Entry). e.path) (publication_entry h session d short (Up.Publish j prefix) e (key_at (i, q)) clean)) (λ b.
    publication_led h session d short prefix i q b clean)
publication_followed h session d short (Up.Subscribe j) e i q clean =
    followed_same h (with_publication h session d) i q (ap (λ (e : Entry). e.path) (publication_entry h session d short (Up.Subscribe j) e (key_at (i, q)) clean)) (λ b.
    publication_led h session d short q i q b (λ m.
    subst (Member (at_row i q)) (ap (λ ts. touched_rows h ts q) (subscription_targets h session d j e) ∙ no_rows h q) m))

-- ---- the rows that are kept of some among which all that moved are: those at which something else follows
module _ (h g : Holdings) (rows : List (InstanceId × Block)) (kept : List RowChange) (other : AreOther (map (followed_again g) (map (unchanged_at h) rows)) kept) where
  abbrev told : InstanceId × Block → RowChange
  told e = followed_again g (unchanged_at h e)

  kept_change : (c : RowChange) → Member c kept → IsRowChange h g c
  kept_change c m =
      let o = other.each c m in
      let f = from_map (followed_again g) c (map (unchanged_at h) rows) o.0 in
      let e = from_map (unchanged_at h) f.0 rows f.1 in
      let is : told e.0 ≡ c = ap (followed_again g) e.2 ∙ f.2 in
      subst (λ (c : RowChange). c.before ≢ c.after → IsRowChange h g c) is (λ o. record {
        was = followed_is h e.0.0 e.0.1;
        is = followed_is g e.0.0 e.0.1;
        other = o;
      }) o.1

  pub kept_changes : AllByRecursion (IsRowChange h g) kept
  kept_changes = all_from (IsRowChange h g) kept kept_change

  module _ (stays : (i : InstanceId) (q : Block) → (Member (at_row i q) rows → ⊥) → followed_at h i q ≡ followed_at g i q) (i : InstanceId) (q : Block) (moved : HasMoved h g i q) where
    other_there : followed_at h i q ≢ followed_at g i q
    other_there e = moved.other (is_followed h i q moved.before moved.was ∙ e ∙ sym (is_followed g i q moved.after moved.is))

    listed_row : (e : InstanceId × Block) → Member e rows → e ≡ at_row i q → IsListed kept i q
    listed_row e m is = record {
      change = told e;
      listed = other.every (told e) (in_map (followed_again g) (unchanged_at h e) (map (unchanged_at h) rows) (in_map (unchanged_at h) e rows m))
          (subst (λ (e : InstanceId × Block). followed_at h e.0 e.1 ≢ followed_at g e.0 e.1) (sym is) other_there);
      instance = ap (λ (e : InstanceId × Block). e.0) is;
      prefix = ap (λ (e : InstanceId × Block). e.1) is;
    }

    listed_key : (k : RowKey) → Member k (map key_at rows) → is_row (key_at (i, q)) k ≡ true → IsListed kept i q
    listed_key k m t =
        let f = from_map key_at k rows m in
        listed_row f.0 f.1 (ap (λ (k : RowKey). (k.instance, k.prefix)) (f.2 ∙ row_is (key_at (i, q)) k t))

    pub moved_listed : IsListed kept i q
    moved_listed =
        elim (list_any (is_row (key_at (i, q))) (map key_at rows)) as (λ b. list_any (is_row (key_at (i, q))) (map key_at rows) ≡ b → IsListed kept i q) [
          | true ↦ λ t. let f = from_any (is_row (key_at (i, q))) (map key_at rows) t in listed_key f.0 f.1 f.2
          | false ↦ λ t. absurd (other_there (stays i q (not_listed (map key_at rows) rows (key_at (i, q)) refl t)))
        ] refl

-- ---- where there was memory for the rows
abbrev Stays : Holdings → Holdings → List (InstanceId × Block) → Type 0
Stays h g rows = (i : InstanceId) (q : Block) → (Member (at_row i q) rows → ⊥) → followed_at h i q ≡ followed_at g i q

of_rows : (g : Holdings) (all rows kept : List RowChange) → all ≡ rows → AreOther (map (followed_again g) all) kept → AreOther (map (followed_again g) rows) kept
of_rows g all rows kept e other = subst (λ (l : List RowChange). AreOther (map (followed_again g) l) kept) e other

module _ {V E : Type 0} (items : V → List RowChange) (h g : Holdings) (rows : List (InstanceId × Block)) where
  abbrev AreRows : Result V E → Type 0
  AreRows listed = IfOk listed (λ all. items all ≡ map (unchanged_at h) rows)

  abbrev AreKept : Result V E → Option V → Type 0
  AreKept listed result = IfOk listed (λ all. IfSome result (λ kept. AreOther (map (followed_again g) (items all)) (items kept)))

  pub each_told : (listed : Result V E) (result : Option V) → AreRows listed → AreKept listed result → OnErr listed (result ≡ None) → IfSome result (λ kept. AllByRecursion (IsRowChange h g) (items kept))
  each_told (Ok all) None e other none = tt
  each_told (Err x) None e other none = tt
  each_told (Ok all) (Some kept) e other none = kept_changes h g rows (items kept) (of_rows g (items all) (map (unchanged_at h) rows) (items kept) e other)
  each_told (Err x) (Some kept) e other none = absurd (none_some kept (sym none))

  pub every_told : (listed : Result V E) (result : Option V) → AreRows listed → AreKept listed result → OnErr listed (result ≡ None) → Stays h g rows
      → IfSome result (λ kept. (i : InstanceId) (q : Block) → HasMoved h g i q → IsListed (items kept) i q)
  every_told (Ok all) None e other none stays = tt
  every_told (Err x) None e other none stays = tt
  every_told (Ok all) (Some kept) e other none stays = moved_listed h g rows (items kept) (of_rows g (items all) (map (unchanged_at h) rows) (items kept) e other) stays
  every_told (Err x) (Some kept) e other none stays = absurd (none_some kept (sym none))

-- ---- the comparison tells apart
itself : (n : ℕ) → (n == n) ≡ true
itself n = eq-eqb n n refl

path_is : (x y : Selected) → path_eq.ghosts.eq x y ≡ true → x ≡ y
path_is x y e =
    let a = and_parts (x.session == y.session) ((x.rd.0 == y.rd.0) && ((x.next_hop.0 == y.next_hop.0) && (x.label.0 == y.label.0))) e in
    let b = and_parts (x.rd.0 == y.rd.0) ((x.next_hop.0 == y.next_hop.0) && (x.label.0 == y.label.0)) a.1 in
    let c = and_parts (x.next_hop.0 == y.next_hop.0) (x.label.0 == y.label.0) b.1 in
    λ i. record {
      session = eqb-true x.session y.session a.0 i;
      rd = record { 0 = eqb-true x.rd.0 y.rd.0 b.0 i };
      next_hop = record { 0 = eqb-true x.next_hop.0 y.next_hop.0 c.0 i };
      label = record { 0 = eqb-true x.label.0 y.label.0 c.1 i };
    }

path_itself : (x : Selected) → path_eq.ghosts.eq x x ≡ true
path_itself x = λ i. itself x.session i && (itself x.rd.0 i && (itself x.next_hop.0 i && itself x.label.0 i))

route_is : (x y : Route) → route_eq.ghosts.eq x y ≡ true → x ≡ y
route_is x y e =
    let a = and_parts (same_prefix x.prefix y.prefix) (path_eq.ghosts.eq x.path y.path && (x.target.0 == y.target.0)) e in
    let b = and_parts (path_eq.ghosts.eq x.path y.path) (x.target.0 == y.target.0) a.1 in
    λ i. record {
      prefix = prefix_same x.prefix y.prefix a.0 i;
      path = path_is x.path y.path b.0 i;
      target = record { 0 = eqb-true x.target.0 y.target.0 b.1 i };
    }

route_itself : (x : Route) → route_eq.ghosts.eq x x ≡ true
route_itself x = λ i. same_prefix-from x.prefix x.prefix refl i && (path_itself x.path i && itself x.target.0 i)

module _ {T : Type 0} (eq : T → T → Bool) (is : (x y : T) → eq x y ≡ true → x ≡ y) (own : (x : T) → eq x x ≡ true) where
  option_is : (a b : Option T) → option_eq eq a b ≡ true → a ≡ b
  option_is None None e = refl
  option_is None (Some y) e = absurd (true≢false (sym e))
  option_is (Some x) None e = absurd (true≢false (sym e))
  option_is (Some x) (Some y) e = ap Some (is x y e)

  option_itself : (a : Option T) → option_eq eq a a ≡ true
  option_itself None = refl
  option_itself (Some x) = own x

-- something is there, or nothing, and each is the other or not
abbrev same_path : Option Selected → Option Selected → Bool
same_path = option_eq path_eq.ghosts.eq

abbrev same_route : Option Route → Option Route → Bool
same_route = option_eq route_eq.ghosts.eq

same_path_is : (a b : Option Selected) → same_path a b ≡ true → a ≡ b
same_path_is = option_is path_eq.ghosts.eq path_is path_itself

same_path_itself : (a : Option Selected) → same_path a a ≡ true
same_path_itself = option_itself path_eq.ghosts.eq path_is path_itself

same_route_is : (a b : Option Route) → same_route a b ≡ true → a ≡ b
same_route_is = option_is route_eq.ghosts.eq route_is route_itself

same_route_itself : (a : Option Route) → same_route a a ≡ true
same_route_itself = option_itself route_eq.ghosts.eq route_is route_itself

eq_is : (a b : Followed) → followed_eq.ghosts.eq a b ≡ true → a ≡ b
eq_is a b e =
    let x = and_parts (same_path a.path b.path) (same_route a.led_right b.led_right && same_route a.led_left b.led_left) e in
    let y = and_parts (same_route a.led_right b.led_right) (same_route a.led_left b.led_left) x.1 in
    λ i. record {
      path = same_path_is a.path b.path x.0 i;
      led_right = same_route_is a.led_right b.led_right y.0 i;
      led_left = same_route_is a.led_left b.led_left y.1 i;
    }

eq_itself : (a : Followed) → followed_eq.ghosts.eq a a ≡ true
eq_itself a = λ i. same_path_itself a.path i && (same_route_itself a.led_right i && same_route_itself a.led_left i)

abbrev pub is_other : RowChange → Bool
is_other c = not (followed_eq.ghosts.eq c.before c.after)

not_same : (c : RowChange) → is_other c ≡ true → c.before ≢ c.after
not_same c t e = true≢false (sym t ∙ ap not (ap (λ (f : Followed). followed_eq.ghosts.eq f c.after) e ∙ eq_itself c.after))

other_from : (c : RowChange) → c.before ≢ c.after → is_other c ≡ true
other_from c differ =
    elim (followed_eq.ghosts.eq c.before c.after) as (λ b. followed_eq.ghosts.eq c.before c.after ≡ b → not b ≡ true) [
      | true ↦ λ e. absurd (differ (eq_is c.before c.after e))
      | false ↦ λ _. refl
    ] refl

pub kept_other : (all kept : List RowChange) → kept ≡ filter is_other all → AreOther all kept
kept_other all kept e = record {
  each = λ c m. let f = from_filter is_other c all (subst (Member c) e m) in (f.0, not_same c f.1);
  every = λ c m differ. subst (Member c) (sym e) (in_filter is_other c all m (other_from c differ));
}

-- two things are one or are not
cases : {X : Type 0} (same : X → X → Bool) → ((a b : X) → same a b ≡ true → a ≡ b) → ((a : X) → same a a ≡ true) → (a b : X) → (a ≡ b) ⊎ (a ≢ b)
cases same is own a b =
    elim (same a b) as (λ t. same a b ≡ t → (a ≡ b) ⊎ (a ≢ b)) [
      | true ↦ λ t. inl (is a b t)
      | false ↦ λ t. inr (λ e. true≢false (sym (own b) ∙ ap (λ x. same x b) (sym e) ∙ t))
    ] refl

pub path_cases : (a b : Option Selected) → (a ≡ b) ⊎ (a ≢ b)
path_cases = cases same_path same_path_is same_path_itself

pub route_cases : (a b : Option Route) → (a ≡ b) ⊎ (a ≢ b)
route_cases = cases same_route same_route_is same_route_itself

pub followed_cases : (a b : Followed) → (a ≡ b) ⊎ (a ≢ b)
followed_cases = cases followed_eq.ghosts.eq eq_is eq_itself
