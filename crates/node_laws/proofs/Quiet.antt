-- Agents that told nothing add nothing.
use Rattle.std.specs.Prelude.{◌≡◌, ℕ, zero, suc, List, [], ◌∷◌, ◌++◌, ◌||◌, ◌&&◌, map, cond, is_some}
use Rattle.std.specs.declared.option.Option.{Option}
use Rattle.std.specs.declared.option.Option.TheVariants.{Some, None}
use Rattle.std.specs.List.{filter, filter_map, flat_map, list_any}
use Rattle.std.specs.FinMap.{empty, entries, from_entries, get, get-empty}
use Rattle.std.proofs.Common.{refl, sym, ◌∙◌, ap, inl, inr}
use Rattle.node_model.specs.OvTypes.Prefix.{Block, host_prefix, is_inside}
use Rattle.node_model.specs.OvTypes.InstanceId.{InstanceId}
use Rattle.node_model.specs.OvTypes.Label.{Label as LabelNo}
use Rattle.node_model.specs.OvTypes.Addr.{Addr}
use Rattle.node_model.specs.RouteTargets.Numbers.{target_of, circuit_address_of, circuit_instance_of}
use Rattle.node_model.specs.Keys.{Key, Low, Vpn, Row, Publish, Subscribe, key_cmp}
use Rattle.node_model.specs.Values.{Value, Object, Route, Entry, Label}
use Rattle.node_model.specs.Maps.{Map, as_label}
use Rattle.node_model.specs.Uses.{imports}
use Rattle.node_model.specs.Paths.{Holdings, Path, Told, has_target, own_path, own_paths, peer_paths, received}
use Rattle.node_model.specs.Reaching.{Side, below, circuit_at, hop_at, is_up, published_by, published_in, publisher, reoriginated_paths, sides, subnets, towards}
use Rattle.node_model.specs.Tables.{known_instances, rows, selected, table, table_row}
use Rattle.node_model.specs.Wants.{route_entry, rows_of, slice, slice_entry, subscriptions, wanted_by_agent, wanted_by_peers}
use Rattle.node_model.specs.Members.{Member}
use Rattle.node_model.proofs.Members.{get_member, none_some}
use Rattle.node_model.proofs.Orders.{key_total}
use Rattle.node_laws.specs.Quiet.{IsWithout, IsWithoutSilent, PublishesNothing, SameButQuiet, SameButSilent}

-- ---- an agent that told nothing publishes nothing
pub told_nothing : (m : Map) → m ≡ empty → PublishesNothing m
told_nothing m e i prefix =
    ap (λ (m : Map). as_label (get m (Publish i prefix))) e ∙ ap as_label (get-empty key_cmp (Publish i prefix))

silent_too : (ts us : List Told) → IsWithout ts us → IsWithoutSilent ts us
silent_too [] us w = w
silent_too (t ∷ ts) us (inl w) = inl (told_nothing t.map w.0, silent_too ts us w.1)
silent_too (t ∷ ts) us (inr w) = inr (w.0, w.1, silent_too ts w.0 w.2)

same_too : (h k : Holdings) → SameButQuiet h k → SameButSilent h k
same_too h k same = record {
  asn = same.asn;
  feed = same.feed;
  peers = same.peers;
  agents = silent_too h.agents k.agents same.agents;
}

-- ---- what is read of each agent, where one that told nothing gives nothing
pub same_reading : {X : Type 0} (f : Told → List X) → ((t : Told) → t.map ≡ empty → f t ≡ []) → (ts us : List Told) → IsWithout ts us
    → flat_map f ts ≡ flat_map f us
same_reading f none [] us w = ap (flat_map f) (sym w)
same_reading f none (t ∷ ts) us (inl w) = (λ i. none t w.0 i ++ flat_map f ts) ∙ same_reading f none ts us w.1
same_reading f none (t ∷ ts) us (inr w) =
    (λ i. f t ++ same_reading f none ts w.0 w.2 i) ∙ ap (flat_map f) (sym w.1)

-- and where one that publishes nothing gives nothing
silent_reading : {X : Type 0} (f : Told → List X) → ((t : Told) → PublishesNothing t.map → f t ≡ []) → (ts us : List Told)
    → IsWithoutSilent ts us → flat_map f ts ≡ flat_map f us
silent_reading f none [] us w = ap (flat_map f) (sym w)
silent_reading f none (t ∷ ts) us (inl w) = (λ i. none t w.0 i ++ flat_map f ts) ∙ silent_reading f none ts us w.1
silent_reading f none (t ∷ ts) us (inr w) =
    (λ i. f t ++ silent_reading f none ts w.0 w.2 i) ∙ ap (flat_map f) (sym w.1)

-- ---- the circuits that are published here
or_else : Told → List Told → ℕ → Option LabelNo → Option (Addr × LabelNo)
or_else t ts circuit o = elim o [ Some label ↦ Some (t.address, label) | None ↦ published_in ts circuit ]

same_led : (t : Told) (ts us : List Told) (circuit : ℕ) → published_in ts circuit ≡ published_in us circuit
    → (o : Option LabelNo) → or_else t ts circuit o ≡ or_else t us circuit o
unfolding or_else
same_led t ts us circuit same (Some label) = refl
same_led t ts us circuit same None = same

same_published : (circuit : ℕ) (ts us : List Told) → IsWithoutSilent ts us → published_in ts circuit ≡ published_in us circuit
unfolding or_else
same_published circuit [] us w = ap (λ (ts : List Told). published_in ts circuit) (sym w)
same_published circuit (t ∷ ts) us (inl w) =
    ap (or_else t ts circuit) (w.0 (circuit_instance_of circuit) (host_prefix (circuit_address_of circuit).0))
    ∙ same_published circuit ts us w.1
same_published circuit (t ∷ ts) us (inr w) =
    same_led t ts w.0 circuit (same_published circuit ts w.0 w.2) (published_by t circuit)
    ∙ ap (λ (ts : List Told). published_in ts circuit) (sym w.1)

-- ---- the own routes of an agent that publishes nothing
no_label : (label : LabelNo) (o : Option Value) → o ≡ Some (Label label) → as_label o ≡ None → ⊥
no_label label o is none = none_some label (sym none ∙ ap as_label is)

own_none : (h : Holdings) (a : Told) → PublishesNothing a.map → (at : Key) (v : Value) → get a.map at ≡ Some v → own_path h a at v ≡ None
own_none h a none (Publish i prefix) (Label label) is = absurd (no_label label (get a.map (Publish i prefix)) is (none i prefix))
own_none h a none (Publish i prefix) (Object v) is = refl
own_none h a none (Publish i prefix) (Route v) is = refl
own_none h a none (Publish i prefix) (Entry v) is = refl
own_none h a none (Low n) v is = refl
own_none h a none (Vpn n) v is = refl
own_none h a none (Row i prefix) v is = refl
own_none h a none (Subscribe i) v is = refl

none_each : {X Y : Type 0} (f : X → Option Y) (xs : List X) → ((x : X) → Member x xs → f x ≡ None) → filter_map f xs ≡ []
none_each f [] none = refl
none_each f (x ∷ xs) none = rw (none x (inl refl)) (none_each f xs (λ y m. none y (inr m)))

own_nothing : (h : Holdings) (a : Told) → PublishesNothing a.map → filter_map (λ (e : Key × Value). own_path h a e.0 e.1) (entries a.map) ≡ []
own_nothing h a none =
    none_each (λ (e : Key × Value). own_path h a e.0 e.1) (entries a.map)
    (λ e m. own_none h a none e.0 e.1 (get_member key_total a.map e.0 e.1 m))

-- ---- two control nodes that hold the same otherwise
own_path_same : (h k : Holdings) → h.asn ≡ k.asn → h.feed ≡ k.feed → (a : Told) (at : Key) (v : Value) → own_path h a at v ≡ own_path k a at v
own_path_same h k asn feed a (Publish i prefix) (Label label) = λ j. own_path (record h { asn = asn j; feed = feed j }) a (Publish i prefix) (Label label)
own_path_same h k asn feed a (Publish i prefix) (Object v) = refl
own_path_same h k asn feed a (Publish i prefix) (Route v) = refl
own_path_same h k asn feed a (Publish i prefix) (Entry v) = refl
own_path_same h k asn feed a (Low n) v = refl
own_path_same h k asn feed a (Vpn n) v = refl
own_path_same h k asn feed a (Row i prefix) v = refl
own_path_same h k asn feed a (Subscribe i) v = refl

towards_same : (h k : Holdings) → h.asn ≡ k.asn → (i : InstanceId) (subnet : Block) (o : Option (Addr × LabelNo)) → towards h i subnet o ≡ towards k i subnet o
towards_same h k asn i subnet None = refl
towards_same h k asn i subnet (Some by) = λ j. towards (record h { asn = asn j }) i subnet (Some by)

module _ (h k : Holdings) (same : SameButSilent h k) where
  own_same : own_paths h ≡ own_paths k
  own_same =
      silent_reading (λ a. filter_map (λ e. own_path h a e.0 e.1) (entries a.map)) (own_nothing h) h.agents k.agents same.agents
      ∙ (λ j. flat_map (λ a. filter_map (λ e. own_path_same h k same.asn same.feed a e.0 e.1 j) (entries a.map)) k.agents)

  publisher_same : (circuit : ℕ) → publisher h circuit ≡ publisher k circuit
  publisher_same circuit = same_published circuit h.agents k.agents same.agents

  received_same : (i : InstanceId) → received h i ≡ received k i
  received_same i = λ j.
      filter (has_target (map (target_of (same.asn j)) (imports (same.feed j) i)))
      (own_same j ++ peer_paths (record h { peers = same.peers j }))

  up_same : (s : Side) (subnet : Block) (d : ℕ) → is_up h s subnet d ≡ is_up k s subnet d
  up_same s subnet zero = λ j. list_any (λ p. is_inside p.prefix subnet) (received_same (hop_at s zero) j)
  up_same s subnet (suc d) = λ j.
      list_any (λ p. is_inside p.prefix subnet) (received_same (hop_at s (suc d)) j)
      || (is_some (publisher_same (circuit_at s (suc d)) j) && up_same s subnet d j)

  led_same : (s : Side) (subnet : Block) (d : ℕ) →
      towards h (hop_at s (suc d)) subnet (publisher h (circuit_at s (suc d)))
      ≡ towards k (hop_at s (suc d)) subnet (publisher k (circuit_at s (suc d)))
  led_same s subnet d =
      ap (towards h (hop_at s (suc d)) subnet) (publisher_same (circuit_at s (suc d)))
      ∙ towards_same h k same.asn (hop_at s (suc d)) subnet (publisher k (circuit_at s (suc d)))

  reoriginated_same : reoriginated_paths h ≡ reoriginated_paths k
  reoriginated_same = λ j.
      flat_map (λ s. flat_map (λ d. flat_map
      (λ subnet. cond (up_same s subnet d j) (led_same s subnet d j) []) (subnets s))
      (below s.chain.services)) (sides (same.feed j))

  silent_table : (i : InstanceId) → table h i ≡ table k i
  silent_table i = λ j.
      selected (received_same i j ++ filter (has_target (target_of (same.asn j) i ∷ [])) (reoriginated_same j))

-- ---- towards peers
pub silent_by_peers : (h k : Holdings) → SameButSilent h k → wanted_by_peers h ≡ wanted_by_peers k
silent_by_peers h k same = λ j. from_entries (map route_entry (own_same h k same j ++ reoriginated_same h k same j))

-- ---- towards an agent
rows_of_same : (h k : Holdings) → SameButSilent h k → (i : InstanceId) → rows_of h i ≡ rows_of k i
rows_of_same h k same i = λ j.
    map (λ (e : Block × Path). (Row i e.0, Entry (record { next_hop = e.1.next_hop; label = e.1.label }))) (entries (silent_table h k same i j))

pub silent_by_agent : (h k : Holdings) → SameButSilent h k → (a : Told) → wanted_by_agent h a ≡ wanted_by_agent k a
silent_by_agent h k same a = λ j.
    from_entries
    (map slice_entry (slice (same.feed j) a.address) ++ flat_map (λ i. rows_of_same h k same i j) (subscriptions a.map))

-- ---- of agents that told nothing
pub table_same : (h k : Holdings) → SameButQuiet h k → (i : InstanceId) → table h i ≡ table k i
table_same h k same = silent_table h k (same_too h k same)

pub quiet_by_peers : (h k : Holdings) → SameButQuiet h k → wanted_by_peers h ≡ wanted_by_peers k
quiet_by_peers h k same = silent_by_peers h k (same_too h k same)

pub quiet_by_agent : (h k : Holdings) → SameButQuiet h k → (a : Told) → wanted_by_agent h a ≡ wanted_by_agent k a
quiet_by_agent h k same = silent_by_agent h k (same_too h k same)

-- ---- what is shown
pub quiet_rows : (h k : Holdings) → SameButQuiet h k → rows h ≡ rows k
quiet_rows h k same = λ j.
    flat_map (λ i. map (λ (e : Block × Path). ((i, e.0), table_row e.1)) (entries (table_same h k same i j))) (known_instances (same.feed j))
