-- A change of what an agent told moves the path of its publication alone, and publishes in its instance alone.
use Rattle.std.specs.Prelude.{◌≡◌, ◌≢◌, ℕ, List, [], ◌∷◌, ◌++◌, Bool, true, false, cond, ◌==◌, is_some, nat_lt}
use Rattle.std.specs.declared.option.Option.{Option}
use Rattle.std.specs.declared.option.Option.TheVariants.{Some, None}
use Rattle.std.specs.List.{cons_option, filter, filter_map, flat_map}
use Rattle.std.specs.Ordering.{eq_by_cmp}
use Rattle.std.specs.Cmp.{Equal-is}
use Rattle.std.specs.FinMap.{entries, get, get-remove}
use Rattle.std.proofs.Common.{refl, sym, ◌∙◌, ap}
use Rattle.ov_types.specs.Prefix.{Block, host_prefix}
use Rattle.ov_types.specs.declared.keys.UpKey.{UpKey}
use Rattle.ov_types.specs.declared.keys.UpKey.TheVariants as Up
use Rattle.ov_types.specs.declared.numbers.InstanceId.{InstanceId}
use Rattle.ov_types.specs.declared.numbers.Label.{Label as LabelNo}
use Rattle.ov_sync.specs.declared.Delta.{Delta}
use Rattle.ov_sync.specs.declared.Delta.TheVariants.{Put, Drop}
use Rattle.ov_sync.specs.Embed.{moved_delta}
use Rattle.ov_sync.specs.Keyed.{changed}
use Rattle.ov_sync.proofs.KeyedLaws.{changed_apart}
use Rattle.route_targets.specs.Numbers.{circuit_instance_of, circuit_address_of}
use Rattle.node_model.specs.Keys.{Key, Low, Vpn, Row, Publish, Subscribe, key_cmp, of_up}
use Rattle.node_model.specs.Values.{Value, Object, Route, Entry, Label}
use Rattle.node_model.specs.Maps.{Map, as_label}
use Rattle.node_model.specs.Paths.{Holdings, Path, Told, own_path}
use Rattle.node_model.specs.Reaching.{published_by, published_in}
use Rattle.node_model.proofs.Orders.{key_exact, key_total}
use Rattle.vpn_holdings.specs.Changes.{at_session}
use Rattle.vpn_tables.proofs.Moves.{told_otherwise}
use Rattle.vpn_tables.proofs.Filtering.{filter_append}
use Rattle.vpn_holdings.specs.Moved.{moved_by, place_by, place_in, told_on}
use Rattle.vpn_tables.proofs.OneKey.{Off, changed_off}

-- what an agent told, with another map
abbrev pub with_map : Told → Map → Told
with_map a m = record a { map = m }

-- ---- paths
module _ (h : Holdings) (agents : List Told) (test : Path → Bool) where
  abbrev later : Holdings
  later = told_otherwise h h.peers agents

  own_same : (a : Told) (m : Map) (k : Key) (v : Value) → own_path h a k v ≡ own_path later (with_map a m) k v
  own_same a m (Publish i prefix) (Label label) = refl
  own_same a m (Publish i prefix) (Object o) = refl
  own_same a m (Publish i prefix) (Route r) = refl
  own_same a m (Publish i prefix) (Entry e) = refl
  own_same a m (Low k) v = refl
  own_same a m (Vpn k) v = refl
  own_same a m (Row i prefix) v = refl
  own_same a m (Subscribe i) v = refl

  abbrev of_agent : Holdings → Told → List Path
  of_agent g a = filter_map (λ e. own_path g a e.0 e.1) (entries a.map)

  own_each : (a : Told) (m : Map) (es : List (Key × Value)) → filter_map (λ e. own_path h a e.0 e.1) es ≡ filter_map (λ e. own_path later (with_map a m) e.0 e.1) es
  own_each a m [] = refl
  own_each a m (e ∷ es) = λ i. cons_option (own_same a m e.0 e.1 i) (own_each a m es i)

  beside : (ps qs ps' qs' : List Path) → filter test ps ≡ filter test ps' → filter test qs ≡ filter test qs' → filter test (ps ++ qs) ≡ filter test (ps' ++ qs')
  beside ps qs ps' qs' a b = filter_append test ps qs ∙ (λ i. a i ++ b i) ∙ sym (filter_append test ps' qs')

  all_same : (ts : List Told) → flat_map (of_agent h) ts ≡ flat_map (of_agent later) ts
  all_same [] = refl
  all_same (a ∷ ts) = λ i. own_each a a.map (entries a.map) i ++ all_same ts i

  pub agents_off : (d : Delta UpKey LabelNo) (session : ℕ) (ts : List Told) → Off test (moved_by h (told_on ts session) d)
      → filter test (flat_map (of_agent h) ts) ≡ filter test (flat_map (of_agent later) (at_session (λ m. changed m (moved_delta of_up Label d)) ts session))
  agents_off d session [] off = refl
  agents_off d session (a ∷ ts) off =
      let f = λ (m : Map). changed m (moved_delta of_up Label d) in
      elim (nat_lt a.session session) as (λ b. Off test (moved_by h (cond b (told_on ts session) (cond (a.session == session) (Some a) None)) d)
      → filter test (of_agent h a ++ flat_map (of_agent h) ts)
      ≡ filter test (flat_map (of_agent later) (cond b (a ∷ at_session f ts session) (cond (a.session == session) (with_map a (f a.map) ∷ ts) (a ∷ ts))))) [
        | true ↦ λ off. beside (of_agent h a) (flat_map (of_agent h) ts) (of_agent later a) (flat_map (of_agent later) (at_session f ts session)) (ap (filter test) (own_each a a.map (entries a.map))) (agents_off d session ts off)
        | false ↦ λ off.
            elim (a.session == session) as (λ b. Off test (moved_by h (cond b (Some a) None) d)
            → filter test (of_agent h a ++ flat_map (of_agent h) ts) ≡ filter test (flat_map (of_agent later) (cond b (with_map a (f a.map) ∷ ts) (a ∷ ts)))) [
              | true ↦ λ off.
                  beside (of_agent h a) (flat_map (of_agent h) ts) (of_agent later (with_map a (f a.map))) (flat_map (of_agent later) ts)
                  (changed_off test (own_path h a) a.map (moved_delta of_up Label d) off ∙ ap (filter test) (own_each a (f a.map) (entries (f a.map)))) (ap (filter test) (all_same ts))
              | false ↦ λ _. ap (filter test) (all_same (a ∷ ts))
            ] off
      ] off

-- ---- publications of circuits
abbrev circuit_key : ℕ → Key
circuit_key c = Publish (circuit_instance_of c) (host_prefix (circuit_address_of c).0)

abbrev instance_of : Key → InstanceId → InstanceId
instance_of (Publish i prefix) d = i
instance_of (Low k) d = d
instance_of (Vpn k) d = d
instance_of (Row i prefix) d = d
instance_of (Subscribe i) d = d

not_there : {X : Type 0} (o : Option X) → is_some o ≡ false → o ≡ None
not_there None e = refl
not_there (Some x) e = cc

stays_none : (b : Bool) (o : Option Value) → (b ≡ true → o ≡ None) → cond b None o ≡ o
stays_none true o h = sym (h refl)
stays_none false o h = refl

subscribed_apart : (i j : InstanceId) (p : Block) → Publish i p ≡ Subscribe j → ⊥
subscribed_apart i j p e = cc

key_stays : (m : Map) (d : Delta UpKey LabelNo) (c : ℕ) → place_in m d ≢ Some (circuit_instance_of c) → get (changed m (moved_delta of_up Label d)) (circuit_key c) ≡ get m (circuit_key c)
key_stays m (Put (Up.Publish i prefix) label) c away =
    changed_apart key_total key_exact m (Put (Publish i prefix) (Label label)) (circuit_key c) (λ e. away (ap Some (sym (ap (λ k. instance_of k i) e))))
key_stays m (Put (Up.Subscribe i) label) c away = changed_apart key_total key_exact m (Put (Subscribe i) (Label label)) (circuit_key c) (λ e. subscribed_apart (circuit_instance_of c) i (host_prefix (circuit_address_of c).0) e)
key_stays m (Drop (Up.Publish i prefix)) c away =
    elim (is_some (get m (Publish i prefix))) as (λ b. is_some (get m (Publish i prefix)) ≡ b → cond b (Some i) None ≢ Some (circuit_instance_of c) → get (changed m (Drop (Publish i prefix))) (circuit_key c) ≡ get m (circuit_key c)) [
      | true ↦ λ _ away. changed_apart key_total key_exact m (Drop (Publish i prefix)) (circuit_key c) (λ e. away (ap Some (sym (ap (λ k. instance_of k i) e))))
      | false ↦ λ none _.
          get-remove key_total m (Publish i prefix) (circuit_key c)
          ∙ stays_none (eq_by_cmp key_cmp (circuit_key c) (Publish i prefix)) (get m (circuit_key c)) (λ t. ap (get m) (key_exact (circuit_key c) (Publish i prefix) ((Equal-is (key_cmp (circuit_key c) (Publish i prefix))).0 t)) ∙ not_there (get m (Publish i prefix)) none)
    ] refl away
key_stays m (Drop (Up.Subscribe i)) c away = changed_apart key_total key_exact m (Drop (Subscribe i)) (circuit_key c) (λ e. subscribed_apart (circuit_instance_of c) i (host_prefix (circuit_address_of c).0) e)

pub published_off : (d : Delta UpKey LabelNo) (session c : ℕ) (ts : List Told) → place_by (told_on ts session) d ≢ Some (circuit_instance_of c)
    → published_in ts c ≡ published_in (at_session (λ m. changed m (moved_delta of_up Label d)) ts session) c
published_off d session c [] away = refl
published_off d session c (a ∷ ts) away =
    let f = λ (m : Map). changed m (moved_delta of_up Label d) in
    elim (nat_lt a.session session) as (λ b. place_by (cond b (told_on ts session) (cond (a.session == session) (Some a) None)) d ≢ Some (circuit_instance_of c)
    → published_in (a ∷ ts) c ≡ published_in (cond b (a ∷ at_session f ts session) (cond (a.session == session) (with_map a (f a.map) ∷ ts) (a ∷ ts))) c) [
      | true ↦ λ away. rest a ts (at_session f ts session) (published_off d session c ts away)
      | false ↦ λ away.
          elim (a.session == session) as (λ b. place_by (cond b (Some a) None) d ≢ Some (circuit_instance_of c)
          → published_in (a ∷ ts) c ≡ published_in (cond b (with_map a (f a.map) ∷ ts) (a ∷ ts)) c) [
            | true ↦ λ away. first a (f a.map) (ap as_label (sym (key_stays a.map d c away)))
            | false ↦ λ _. refl
          ] away
    ] away
  where
    rest : (a : Told) (ts bs : List Told) → published_in ts c ≡ published_in bs c → published_in (a ∷ ts) c ≡ published_in (a ∷ bs) c
    rest a ts bs e = elim (published_by a c) as (λ (o : Option LabelNo). elim o [ Some label ↦ Some (a.address, label) | None ↦ published_in ts c ] ≡ elim o [ Some label ↦ Some (a.address, label) | None ↦ published_in bs c ]) [ Some label ↦ refl | None ↦ e ]

    first : (a : Told) (m : Map) → published_by a c ≡ published_by (with_map a m) c → published_in (a ∷ ts) c ≡ published_in (with_map a m ∷ ts) c
    first a m e = ap (λ (o : Option LabelNo). elim o [ Some label ↦ Some (a.address, label) | None ↦ published_in ts c ]) e
