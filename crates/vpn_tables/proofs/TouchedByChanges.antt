-- What each change touches.
use Rattle.std.specs.Prelude.{◌≡◌, ℕ, zero, suc, ◌+◌, List, [], ◌∷◌, ◌++◌, map, length, Bool, true, false, cond, is_some}
use Rattle.std.specs.declared.option.Option.{Option}
use Rattle.std.specs.declared.option.Option.TheVariants.{Some, None}
use Rattle.std.specs.List.{AllByRecursion, cons_option, flat_map, list_any}
use Rattle.std.specs.FinMap.{get}
use Rattle.std.proofs.lemmas.Bool.{true≢false}
use Rattle.std.proofs.Common.{refl, sym, ◌∙◌, ap, subst, inl, inr, arith}
use Rattle.ov_types.specs.Prefix.{Block}
use Rattle.ov_types.specs.declared.keys.UpKey.{UpKey}
use Rattle.ov_types.specs.declared.keys.UpKey.TheVariants as Up
use Rattle.ov_types.specs.declared.numbers.InstanceId.{InstanceId}
use Rattle.ov_types.specs.declared.numbers.Label.{Label as LabelNo}
use Rattle.ov_types.specs.declared.vpn.VpnKey.{VpnKey}
use Rattle.ov_types.specs.declared.vpn.VpnRoute.{VpnRoute}
use Rattle.ov_sync.specs.declared.Delta.{Delta}
use Rattle.ov_sync.specs.declared.Delta.TheVariants.{Put, Drop}
use Rattle.ov_sync.specs.Embed.{moved_delta}
use Rattle.ov_sync.specs.Keyed.{key_of}
use Rattle.ov_types.specs.declared.targets.Target.{Target}
use Rattle.route_targets.specs.Numbers.{target_of}
use Rattle.node_model.proofs.Members.{in_either, in_flat_map}
use Rattle.node_model.specs.Keys.{Key, Vpn, Row, Publish, Subscribe, of_up}
use Rattle.node_model.specs.Values.{Value, Object, Route, Entry, Label}
use Rattle.node_model.specs.Members.{Member}
use Rattle.node_model.specs.Uses.{is_known, uses}
use Rattle.node_model.specs.Paths.{Holdings, Path, Told, own_path, peer_path}
use Rattle.node_model.specs.Reaching.{AreShort}
use Rattle.node_model.specs.Tables.{known_instances, table}
use Rattle.node_model.specs.Wants.{wanted_by_agent, wanted_by_peers}
use Rattle.vpn_holdings.specs.Changes.{with_publication, with_route}
use Rattle.vpn_tables.proofs.Moves.{Covers, Moves}
use Rattle.vpn_tables.specs.PeerKeys.{IsTouchedKey}
use Rattle.vpn_holdings.specs.Listing.{hops}
use Rattle.vpn_holdings.specs.Touched.{imports_one, is_touched, rows_at_use, touched, touched_rows}
use Rattle.vpn_tables.proofs.RowsCounted.{counted}
use Rattle.vpn_tables.proofs.Filtering.{filter_none}
use Rattle.vpn_tables.proofs.Wanted.{agents_same, at_row, peers_same, row_same}
use Rattle.vpn_holdings.specs.Moved.{moved_by, moved_by_publication, moved_by_route, place_by, place_by_publication, place_in, target_at, targets_by_publication, targets_by_route, told_as, told_on}
use Rattle.vpn_tables.proofs.RouteMoves.{peers_off}
use Rattle.vpn_tables.proofs.PublicationMoves.{agents_off, published_off}

pub route_moves : (h : Holdings) (session : ℕ) (d : Delta VpnKey VpnRoute) → Moves (moved_by_route h session d) None h (with_route h session d)
route_moves h zero d = record { own = λ test off. refl; peers = λ test off. refl; publishers = λ circuit away. refl }
route_moves h (suc place) d = record {
  own = λ test off. refl;
  peers = λ test off. peers_off test (suc place) 1 h.peers place (moved_delta Vpn Route d) (first place) off;
  publishers = λ circuit away. refl;
}
  where
    first : (place : ℕ) → suc place ≡ 1 + place
    first place = omega arith

pub publication_moves : (h : Holdings) (session : ℕ) (d : Delta UpKey LabelNo) → Moves (moved_by_publication h session d) (place_by_publication h session d) h (with_publication h session d)
publication_moves h session d = record {
  own = λ test off. agents_off h (with_publication h session d).agents test d session h.agents off;
  peers = λ test off. refl;
  publishers = λ circuit away. published_off d session circuit h.agents away;
}

-- ---- prefixes
abbrev To : Block → List Path → Type 0
To prefix ps = AllByRecursion (λ (p : Path). p.prefix ≡ prefix) ps

to_both : (prefix : Block) (ps qs : List Path) → To prefix ps → To prefix qs → To prefix (ps ++ qs)
to_both prefix [] qs a b = b
to_both prefix (p ∷ ps) qs a b = (a.0, to_both prefix ps qs a.1 b)

route_to : (s : ℕ) (k : VpnKey) (o : Option Value) → To k.prefix (told_as (peer_path s) (Vpn k) o)
route_to s k None = tt
route_to s k (Some (Route r)) = (refl, tt)
route_to s k (Some (Object o)) = tt
route_to s k (Some (Entry e)) = tt
route_to s k (Some (Label l)) = tt

pub route_prefix : (h : Holdings) (session : ℕ) (d : Delta VpnKey VpnRoute) → To (key_of d).prefix (moved_by_route h session d)
route_prefix h zero d = tt
route_prefix h (suc place) (Put k r) = to_both k.prefix (told_as (peer_path (suc place)) (Vpn k) _) (told_as (peer_path (suc place)) (Vpn k) (Some (Route r))) (route_to (suc place) k _) (route_to (suc place) k (Some (Route r)))
route_prefix h (suc place) (Drop k) = to_both k.prefix (told_as (peer_path (suc place)) (Vpn k) _) [] (route_to (suc place) k _) tt

own_to : (h : Holdings) (a : Told) (i : InstanceId) (prefix : Block) (o : Option Value) → To prefix (told_as (own_path h a) (Publish i prefix) o)
own_to h a i prefix None = tt
own_to h a i prefix (Some (Route r)) = tt
own_to h a i prefix (Some (Object o)) = tt
own_to h a i prefix (Some (Entry e)) = tt
own_to h a i prefix (Some (Label l)) = known (is_known h.feed i) _ refl
  where
    known : (b : Bool) (p : Path) → p.prefix ≡ prefix → To prefix (cons_option (cond b (Some p) None) [])
    known true p e = (e, tt)
    known false p e = tt

pub publication_prefix : (h : Holdings) (session : ℕ) (d : Delta UpKey LabelNo) (j : InstanceId) (prefix : Block) → key_of d ≡ Up.Publish j prefix → To prefix (moved_by_publication h session d)
publication_prefix h session d j prefix e = of_agent (told_on h.agents session) d e
  where
    of_agent : (o : Option Told) (d : Delta UpKey LabelNo) → key_of d ≡ Up.Publish j prefix → To prefix (moved_by h o d)
    of_agent None d e = tt
    of_agent (Some a) (Put k l) e = to_both prefix (told_as (own_path h a) (of_up k) _) (told_as (own_path h a) (of_up k) (Some (Label l)))
        (subst (λ (k : UpKey). (o : Option Value) → To prefix (told_as (own_path h a) (of_up k) o)) (sym e) (own_to h a j prefix) _)
        (subst (λ (k : UpKey). (o : Option Value) → To prefix (told_as (own_path h a) (of_up k) o)) (sym e) (own_to h a j prefix) (Some (Label l)))
    of_agent (Some a) (Drop k) e = to_both prefix (told_as (own_path h a) (of_up k) _) []
        (subst (λ (k : UpKey). (o : Option Value) → To prefix (told_as (own_path h a) (of_up k) o)) (sym e) (own_to h a j prefix) _) tt

-- ---- a subscription
nothing_told : (h : Holdings) (a : Told) (i : InstanceId) (o : Option Value) → told_as (own_path h a) (Subscribe i) o ≡ []
nothing_told h a i None = refl
nothing_told h a i (Some v) = refl

pub subscription_moves : (h : Holdings) (session : ℕ) (d : Delta UpKey LabelNo) (j : InstanceId) → key_of d ≡ Up.Subscribe j → (moved_by_publication h session d ≡ []) × (place_by_publication h session d ≡ None)
subscription_moves h session d j e = of_agent (told_on h.agents session) d e
  where
    append_empty : (ps qs : List Path) → ps ≡ [] → qs ≡ [] → ps ++ qs ≡ []
    append_empty ps qs a b = λ i. a i ++ b i

    of_agent : (o : Option Told) (d : Delta UpKey LabelNo) → key_of d ≡ Up.Subscribe j → (moved_by h o d ≡ []) × (place_by o d ≡ None)
    of_agent None d e = (refl, refl)
    of_agent (Some a) (Put (Up.Subscribe i) l) e = (append_empty (told_as (own_path h a) (Subscribe i) _) [] (nothing_told h a i _) refl, refl)
    of_agent (Some a) (Drop (Up.Subscribe i)) e = (append_empty (told_as (own_path h a) (Subscribe i) _) [] (nothing_told h a i _) refl, refl)
    of_agent (Some a) (Put (Up.Publish i p) l) e = absurd (unlike i p j e)
      where
        unlike : (i : InstanceId) (p : Block) (j : InstanceId) → Up.Publish i p ≡ Up.Subscribe j → ⊥
        unlike i p j e = cc
    of_agent (Some a) (Drop (Up.Publish i p)) e = absurd (unlike i p j e)
      where
        unlike : (i : InstanceId) (p : Block) (j : InstanceId) → Up.Publish i p ≡ Up.Subscribe j → ⊥
        unlike i p j e = cc

-- ---- targets
pub covers_all : (asn : ℕ) (moved : List Path) → Covers asn moved None (flat_map (λ (p : Path). p.targets) moved)
covers_all asn moved = record {
  paths = λ p t m n. in_flat_map (λ (p : Path). p.targets) p t moved m n;
  published = λ i e. cc;
}

own_target : (h : Holdings) (a : Told) (i : InstanceId) (prefix : Block) (o : Option Value) (p : Path) → Member p (told_as (own_path h a) (Publish i prefix) o) → p.targets ≡ target_of h.asn i ∷ []
own_target h a i prefix None p m = absurd m
own_target h a i prefix (Some (Route r)) p m = absurd m
own_target h a i prefix (Some (Object o)) p m = absurd m
own_target h a i prefix (Some (Entry e)) p m = absurd m
own_target h a i prefix (Some (Label l)) p m = known (is_known h.feed i) _ refl m
  where
    known : (b : Bool) (q : Path) → q.targets ≡ target_of h.asn i ∷ [] → Member p (cons_option (cond b (Some q) None) []) → p.targets ≡ target_of h.asn i ∷ []
    known true q e (inl is) = ap (λ (p : Path). p.targets) (sym is) ∙ e
    known true q e (inr n) = absurd n
    known false q e n = absurd n

target_there : (asn : ℕ) (i : InstanceId) (p : Path) (t : Target) → p.targets ≡ target_of asn i ∷ [] → Member t p.targets → Member t (target_of asn i ∷ [])
target_there asn i p t e m = subst (Member t) e m

no_target : (h : Holdings) (a : Told) (i : InstanceId) (o : Option Value) (p : Path) → Member p (told_as (own_path h a) (Subscribe i) o) → ⊥
no_target h a i o p m = subst (Member p) (nothing_told h a i o) m

pub covers_publication : (h : Holdings) (session : ℕ) (d : Delta UpKey LabelNo) → Covers h.asn (moved_by_publication h session d) (place_by_publication h session d) (targets_by_publication h session d)
covers_publication h session d = record {
  paths = λ p t m n. of_agent (told_on h.agents session) d p t m n;
  published = λ i e. subst (λ (o : Option InstanceId). Member (target_of h.asn i) (target_at h.asn o)) (sym e) (inl refl);
}
  where
    of_agent : (o : Option Told) (d : Delta UpKey LabelNo) (p : Path) (t : Target) → Member p (moved_by h o d) → Member t p.targets → Member t (target_at h.asn (place_by o d))
    of_agent None d p t m n = absurd m
    of_agent (Some a) (Put (Up.Publish i x) l) p t m n =
        target_there h.asn i p t (elim (in_either p (told_as (own_path h a) (Publish i x) (get a.map (Publish i x))) (told_as (own_path h a) (Publish i x) (Some (Label l))) m) as (λ _. p.targets ≡ target_of h.asn i ∷ []) [
          | inl m ↦ own_target h a i x (get a.map (Publish i x)) p m
          | inr m ↦ own_target h a i x (Some (Label l)) p m
        ]) n
    of_agent (Some a) (Put (Up.Subscribe i) l) p t m n =
        absurd (elim (in_either p (told_as (own_path h a) (Subscribe i) (get a.map (Subscribe i))) (told_as (own_path h a) (Subscribe i) (Some (Label l))) m) as (λ _. ⊥) [
          | inl m ↦ no_target h a i (get a.map (Subscribe i)) p m
          | inr m ↦ no_target h a i (Some (Label l)) p m
        ])
    of_agent (Some a) (Drop (Up.Publish i x)) p t m n =
        elim (in_either p (told_as (own_path h a) (Publish i x) (get a.map (Publish i x))) [] m) as (λ _. Member t (target_at h.asn (place_in a.map (Drop (Up.Publish i x))))) [
          | inl m ↦ held (get a.map (Publish i x)) m
          | inr m ↦ absurd m
        ]
      where
        held : (o : Option Value) → Member p (told_as (own_path h a) (Publish i x) o) → Member t (target_at h.asn (cond (is_some o) (Some i) None))
        held None m = absurd m
        held (Some v) m = target_there h.asn i p t (own_target h a i x (Some v) p m) n
    of_agent (Some a) (Drop (Up.Subscribe i)) p t m n =
        absurd (elim (in_either p (told_as (own_path h a) (Subscribe i) (get a.map (Subscribe i))) [] m) as (λ _. ⊥) [
          | inl m ↦ no_target h a i (get a.map (Subscribe i)) p m
          | inr m ↦ m
        ])

-- ---- rows and keys
pub route_rows : (h : Holdings) (session : ℕ) (d : Delta VpnKey VpnRoute) → AreShort h.feed → (i : InstanceId) (q : Block)
    → (Member (at_row i q) (touched_rows h (targets_by_route h session d) (key_of d).prefix) → ⊥) → get (table h i) q ≡ get (table (with_route h session d) i) q
route_rows h zero d short i q clean = refl
route_rows h (suc place) d short i q clean =
    row_same h (with_route h (suc place) d).peers h.agents (moved_by_route h (suc place) d) None (route_moves h (suc place) d) (targets_by_route h (suc place) d) (covers_all h.asn (moved_by_route h (suc place) d)) short (key_of d).prefix (route_prefix h (suc place) d) i q clean

pub route_keys : (h : Holdings) (session : ℕ) (d : Delta VpnKey VpnRoute) → AreShort h.feed → (k : Key)
    → (IsTouchedKey (moved_by_route h session d) (targets_by_route h session d) h (with_route h session d) k → ⊥) → get (wanted_by_peers h) k ≡ get (wanted_by_peers (with_route h session d)) k
route_keys h zero d short k clean = refl
route_keys h (suc place) d short k clean = peers_same h (with_route h (suc place) d).peers h.agents (moved_by_route h (suc place) d) None (route_moves h (suc place) d) (targets_by_route h (suc place) d) (covers_all h.asn (moved_by_route h (suc place) d)) short k clean

pub publication_rows : (h : Holdings) (session : ℕ) (d : Delta UpKey LabelNo) (j : InstanceId) (prefix : Block) → AreShort h.feed → key_of d ≡ Up.Publish j prefix → (i : InstanceId) (q : Block)
    → (Member (at_row i q) (touched_rows h (targets_by_publication h session d) prefix) → ⊥) → get (table h i) q ≡ get (table (with_publication h session d) i) q
publication_rows h session d j prefix short e i q clean =
    row_same h h.peers (with_publication h session d).agents (moved_by_publication h session d) (place_by_publication h session d) (publication_moves h session d) (targets_by_publication h session d) (covers_publication h session d) short prefix (publication_prefix h session d j prefix e) i q clean

pub publication_keys : (h : Holdings) (session : ℕ) (d : Delta UpKey LabelNo) → AreShort h.feed → (k : Key)
    → (IsTouchedKey (moved_by_publication h session d) (targets_by_publication h session d) h (with_publication h session d) k → ⊥)
    → get (wanted_by_peers h) k ≡ get (wanted_by_peers (with_publication h session d)) k
publication_keys h session d short k clean =
    peers_same h h.peers (with_publication h session d).agents (moved_by_publication h session d) (place_by_publication h session d) (publication_moves h session d) (targets_by_publication h session d) (covers_publication h session d) short k clean

pub subscription_targets : (h : Holdings) (session : ℕ) (d : Delta UpKey LabelNo) (j : InstanceId) → key_of d ≡ Up.Subscribe j → targets_by_publication h session d ≡ []
subscription_targets h session d j e = ap (target_at h.asn) (subscription_moves h session d j e).1

untargeted : (h : Holdings) (is : List InstanceId) → list_any (imports_one h []) is ≡ false
untargeted h [] = refl
untargeted h (i ∷ is) = untargeted h is

pub no_rows : (h : Holdings) (q : Block) → touched_rows h [] q ≡ []
no_rows h q =
    λ k. map (λ (i : InstanceId). at_row i q) (filter_none (imports_one h []) (known_instances h.feed) (λ i _. refl) k)
    ++ flat_map rows_at_use (filter_none (is_touched h []) (uses h.feed) (λ u _. untargeted h (hops u)) k)

pub subscription_rows : (h : Holdings) (session : ℕ) (d : Delta UpKey LabelNo) (j : InstanceId) → AreShort h.feed → key_of d ≡ Up.Subscribe j → (i : InstanceId) (q : Block) → get (table h i) q ≡ get (table (with_publication h session d) i) q
subscription_rows h session d j short e i q =
    row_same h h.peers (with_publication h session d).agents (moved_by_publication h session d) (place_by_publication h session d) (publication_moves h session d) (targets_by_publication h session d) (covers_publication h session d) short q
    (subst (To q) (sym (subscription_moves h session d j e).0) tt) i q
    (λ m. subst (Member (at_row i q)) (ap (λ ts. touched_rows h ts q) (subscription_targets h session d j e) ∙ no_rows h q) m)

pub subscription_touches : (h : Holdings) (session : ℕ) (d : Delta UpKey LabelNo) (j : InstanceId) → key_of d ≡ Up.Subscribe j
    → touched h (targets_by_publication h session d) ≡ 0
subscription_touches h session d j e =
    ap (touched h) (subscription_targets h session d j e) ∙ sym (counted h [] any_block) ∙ ap (λ rows. length rows) (no_rows h any_block)
  where
    any_block : Block
    any_block = record { addr = 0; len = 0 }

no_key : (h g : Holdings) (k : Key) → IsTouchedKey [] [] h g k → ⊥
no_key h g k t = elim t.stands as (λ _. ⊥) [
  | inl m ↦ m
  | inr s ↦ true≢false (sym s.2 ∙ untargeted h (hops s.0.chain))
]

pub subscription_keys : (h : Holdings) (session : ℕ) (d : Delta UpKey LabelNo) (j : InstanceId) → AreShort h.feed → key_of d ≡ Up.Subscribe j → (k : Key)
    → get (wanted_by_peers h) k ≡ get (wanted_by_peers (with_publication h session d)) k
subscription_keys h session d j short e k =
    publication_keys h session d short k (λ t. no_key h (with_publication h session d) k
    (subst (λ (ps : List Path). IsTouchedKey ps [] h (with_publication h session d) k) (subscription_moves h session d j e).0
    (subst (λ (ts : List Target). IsTouchedKey (moved_by_publication h session d) ts h (with_publication h session d) k) (subscription_targets h session d j e) t)))

-- ---- agents
pub route_agents : (h : Holdings) (session : ℕ) (d : Delta VpnKey VpnRoute) → AreShort h.feed → (a : Told) (k : Key)
    → ((i : InstanceId) (q : Block) → Member (at_row i q) (touched_rows h (targets_by_route h session d) (key_of d).prefix) → k ≡ Row i q → ⊥)
    → get (wanted_by_agent h a) k ≡ get (wanted_by_agent (with_route h session d) a) k
route_agents h zero d short a k clean = refl
route_agents h (suc place) d short a k clean =
    agents_same h (with_route h (suc place) d).peers h.agents a k (λ i q is. route_rows h (suc place) d short i q (λ m. clean i q m is))

pub publication_agents : (h : Holdings) (session : ℕ) (d : Delta UpKey LabelNo) (j : InstanceId) (prefix : Block) → AreShort h.feed → key_of d ≡ Up.Publish j prefix → (a : Told) (k : Key)
    → ((i : InstanceId) (q : Block) → Member (at_row i q) (touched_rows h (targets_by_publication h session d) prefix) → k ≡ Row i q → ⊥)
    → get (wanted_by_agent h a) k ≡ get (wanted_by_agent (with_publication h session d) a) k
publication_agents h session d j prefix short e a k clean =
    agents_same h h.peers (with_publication h session d).agents a k (λ i q is. publication_rows h session d j prefix short e i q (λ m. clean i q m is))
