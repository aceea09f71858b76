-- The sessions of a control node stand in the order of its places.
use Rattle.std.specs.Cmp.Lexicographic.{bytes_decides}
use Rattle.std.specs.List.{cons_option, filter, list_any}
use Rattle.std.specs.Prelude.{Bool, List, cond, false, map, not, true, [], ◌++◌, ◌∷◌, ◌≡◌}
use Rattle.std.specs.declared.option.Option.TheVariants.{None, Some}
use Rattle.std.specs.declared.option.Option.{Option}
use Rattle.std.proofs.Common.{ap, inl, inr, refl, sym, ◌∙◌}
use Rattle.std.proofs.lemmas.Bool.{true≢false}
use Rattle.std.proofs.lemmas.List.{append-nil, map-append}
use Rattle.ov_types.specs.First.{same_name}
use Rattle.ov_types.specs.declared.rows.NodeId.{NodeId}
use Rattle.config_types.specs.declared.topology.Node.{Node}
use Rattle.node_model.specs.Members.{Member}
use Rattle.node_model.proofs.Members.{from_filter, in_filter, in_map}
use Rattle.machine_laws.specs.MachineModel.Moments.{NodePair, nodes}
use Rattle.machine_laws.specs.MachineModel.Network.{accesses, config, feeds, lists, peerings}
use Rattle.machine_laws.specs.MachineModel.Session.{Session}
use Rattle.machine_laws.specs.MachineModel.Setup.{Name, Setup}
use Rattle.machine_laws.specs.Goal.{Party, other_end, others}
use Rattle.machine_laws.specs.Setups.{IsNamed}
use Rattle.machine_laws.proofs.MachineModel.Distinct.{Apart, same_false}
use Rattle.machine_laws.proofs.MachineModel.Apart.{NamesApart, access_link, access_session, feed_session, peer_link, peer_session}
use Rattle.machine_laws.proofs.KindNames.{apart_names}
use Rattle.machine_laws.proofs.Placing.{feed_link}
use Rattle.running_laws.proofs.Links.{links}
use Rattle.running_laws.proofs.FirstPlaces.{apart_kept, map_twice}
use Rattle.running_laws.proofs.Parties.{computer, root, site}

cons_before : {A : Type 0} (o : Option A) (xs ys : List A) → cons_option o (xs ++ ys) ≡ cons_option o xs ++ ys
cons_before None xs ys = refl
cons_before (Some x) xs ys = refl

others_both : (name : Name) (ps qs : List NodePair) → others name (ps ++ qs) ≡ others name ps ++ others name qs
others_both name [] qs = refl
others_both name (p ∷ ps) qs = ap (cons_option (other_end name p)) (others_both name ps qs) ∙ cons_before (other_end name p) (others name ps) (others name qs)

others_joined : (name : Name) (ss ts : List Session) → others name (map nodes (ss ++ ts)) ≡ others name (map nodes ss) ++ others name (map nodes ts)
others_joined name ss ts = ap (others name) (map-append nodes ss ts) ∙ others_both name (map nodes ss) (map nodes ts)

abbrev names_in : List NodeId → List Name
names_in cs = map (λ (c : NodeId). c.name) cs

module _ (c : NodeId) where
  same_self : (d : NodeId) → d ≡ c → same_name d.name c.name ≡ true
  same_self d e = (bytes_decides d.name c.name).1 (ap (λ (d : NodeId). d.name) e)

  abbrev Without : List NodeId → Type 0
  Without ds = (d : NodeId) → Member d ds → d.name ≡ c.name → ⊥

  -- the rest of a list that begins with it
  without : (d : NodeId) (ds : List NodeId) → Apart (names_in (d ∷ ds)) → d ≡ c → Without ds
  without d ds a e f m is = a.0 f.name (in_map (λ (d : NodeId). d.name) f ds m) (ap (λ (d : NodeId). d.name) e ∙ sym is)

  -- another that stands before it
  other_than : (d : NodeId) (ds : List NodeId) → Apart (names_in (d ∷ ds)) → Member c ds → d.name ≡ c.name → ⊥
  other_than d ds a m e = a.0 c.name (in_map (λ (d : NodeId). d.name) c ds m) e

  -- ---- links of which those at the node of this name lead to r
  module _ (r : Party) (f : NodeId → NodePair) (at : (d : NodeId) → other_end c.name (f d) ≡ cond (same_name d.name c.name) (Some r) None) where
    none_of : (ds : List NodeId) → Without ds → others c.name (map f ds) ≡ []
    none_of [] h = refl
    none_of (d ∷ ds) h =
        ap (λ (o : Option Party). cons_option o (others c.name (map f ds))) (at d ∙ ap (λ b. cond b (Some r) None) (same_false d.name c.name (h d (inl refl))))
        ∙ none_of ds (λ e m. h e (inr m))

    one_of : (ds : List NodeId) → Apart (names_in ds) → Member c ds → others c.name (map f ds) ≡ r ∷ []
    one_of [] a m = absurd m
    one_of (d ∷ ds) a (inl e) =
        ap (λ (o : Option Party). cons_option o (others c.name (map f ds))) (at d ∙ ap (λ b. cond b (Some r) None) (same_self d e))
        ∙ ap (λ (os : List Party). r ∷ os) (none_of ds (without d ds a e))
    one_of (d ∷ ds) a (inr m) =
        ap (λ (o : Option Party). cons_option o (others c.name (map f ds))) (at d ∙ ap (λ b. cond b (Some r) None) (same_false d.name c.name (other_than d ds a m)))
        ∙ one_of ds a.1 m

  -- ---- feeds
  feeds_seen : (config ≡ c.name → ⊥) → (cs : List NodeId) → Apart (names_in cs) → Member c cs → others c.name (map nodes (feeds cs)) ≡ root ∷ []
  feeds_seen h cs a m =
      ap (others c.name) (map_twice nodes feed_session cs)
      ∙ one_of root feed_link (λ d. ap (λ b. cond b (Some (site d)) (cond (same_name d.name c.name) (Some root) None)) (same_false config c.name h)) cs a m

  -- ---- sessions between control nodes
  peer_at : (d : NodeId) → (d.name ≡ c.name → ⊥) → (e : NodeId) → other_end c.name (peer_link d e) ≡ cond (same_name e.name c.name) (Some (site d)) None
  peer_at d h e = ap (λ b. cond b (Some (site e)) (cond (same_name e.name c.name) (Some (site d)) None)) (same_false d.name c.name h)

  none_peering : (cs : List NodeId) → Without cs → others c.name (map nodes (peerings cs)) ≡ []
  none_peering [] h = refl
  none_peering (d ∷ ds) h =
      others_joined c.name (map (peer_session d) ds) (peerings ds)
      ∙ ap (λ (os : List Party). os ++ others c.name (map nodes (peerings ds))) (ap (others c.name) (map_twice nodes (peer_session d) ds) ∙ none_of (site d) (peer_link d) (peer_at d (h d (inl refl))) ds (λ e m. h e (inr m)))
      ∙ none_peering ds (λ e m. h e (inr m))

  own_peerings : (d : NodeId) → d ≡ c → (ds : List NodeId) → others c.name (map (peer_link d) ds) ≡ map site ds
  own_peerings d e [] = refl
  own_peerings d e (f ∷ ds) =
      ap (λ b. cons_option (cond b (Some (site f)) (cond (same_name f.name c.name) (Some (site d)) None)) (others c.name (map (peer_link d) ds))) (same_self d e)
      ∙ ap (λ (os : List Party). site f ∷ os) (own_peerings d e ds)

  abbrev is_peer_of : NodeId → Bool
  is_peer_of d = not (same_name d.name c.name)

  all_peers : (ds : List NodeId) → Without ds → filter is_peer_of ds ≡ ds
  all_peers [] h = refl
  all_peers (d ∷ ds) h =
      ap (λ b. cond (not b) (d ∷ filter is_peer_of ds) (filter is_peer_of ds)) (same_false d.name c.name (h d (inl refl)))
      ∙ ap (λ (es : List NodeId). d ∷ es) (all_peers ds (λ e m. h e (inr m)))

  peerings_seen : (cs : List NodeId) → Apart (names_in cs) → Member c cs → others c.name (map nodes (peerings cs)) ≡ map site (filter is_peer_of cs)
  peerings_seen [] a m = absurd m
  peerings_seen (d ∷ ds) a (inl e) =
      others_joined c.name (map (peer_session d) ds) (peerings ds)
      ∙ (λ i. (ap (others c.name) (map_twice nodes (peer_session d) ds) ∙ own_peerings d e ds) i ++ none_peering ds (without d ds a e) i)
      ∙ append-nil (map site ds)
      ∙ ap (map site) (sym (all_peers ds (without d ds a e)))
      ∙ ap (λ b. map site (cond (not b) (d ∷ filter is_peer_of ds) (filter is_peer_of ds))) (sym (same_self d e))
  peerings_seen (d ∷ ds) a (inr m) =
      let off = other_than d ds a m in
      others_joined c.name (map (peer_session d) ds) (peerings ds)
      ∙ (λ i. (ap (others c.name) (map_twice nodes (peer_session d) ds) ∙ one_of (site d) (peer_link d) (peer_at d off) ds a.1 m) i ++ peerings_seen ds a.1 m i)
      ∙ ap (λ b. map site (cond (not b) (d ∷ filter is_peer_of ds) (filter is_peer_of ds))) (sym (same_false d.name c.name off))

  -- ---- sessions of agents
  access_at : (n : Node) → (n.name ≡ c.name → ⊥) → (d : NodeId) → other_end c.name (access_link d n) ≡ cond (same_name d.name c.name) (Some (computer n)) None
  access_at n h d =
      ap (λ b. cond (same_name d.name c.name) (Some (computer n)) (cond b (Some (site d)) None)) (same_false n.name c.name h)

  module _ (cs : List NodeId) (a : Apart (names_in cs)) (m : Member c cs) where
    access_seen : (n : Node) → (n.name ≡ c.name → ⊥) → others c.name (map nodes (map (λ d. access_session d n) (filter (lists n) cs))) ≡ cond (lists n c) (computer n ∷ []) []
    access_seen n h =
        let ds = filter (lists n) cs in
        ap (others c.name) (map_twice nodes (λ d. access_session d n) ds)
        ∙ elim (lists n c) as (λ b. lists n c ≡ b → others c.name (map (λ d. access_link d n) ds) ≡ cond b (computer n ∷ []) []) [
          | true ↦ λ l. one_of (computer n) (λ d. access_link d n) (access_at n h) ds (apart_kept (λ (d : NodeId). d.name) (lists n) cs a) (in_filter (lists n) c cs m l)
          | false ↦ λ l. none_of (computer n) (λ d. access_link d n) (access_at n h) ds (λ d k e. true≢false (sym (from_filter (lists n) d cs k).1 ∙ ap (λ (name : Name). list_any (same_name name) n.controllers) e ∙ l))
        ] refl

    accesses_seen : (ns : List Node) → ((n : Node) → Member n ns → n.name ≡ c.name → ⊥) → others c.name (map nodes (accesses cs ns)) ≡ map computer (filter (λ n. lists n c) ns)
    accesses_seen [] h = refl
    accesses_seen (n ∷ ns) h =
        others_joined c.name (map (λ d. access_session d n) (filter (lists n) cs)) (accesses cs ns)
        ∙ (λ i. access_seen n (h n (inl refl)) i ++ accesses_seen ns (λ k j. h k (inr j)) i)
        ∙ elim (lists n c) as (λ b. cond b (computer n ∷ []) [] ++ map computer (filter (λ n. lists n c) ns) ≡ map computer (cond b (n ∷ filter (λ n. lists n c) ns) (filter (λ n. lists n c) ns))) [ true ↦ refl | false ↦ refl ]

-- ---- all that a control node sees
pub site_sees : (x : Setup) → IsNamed x.topology → (c : NodeId) → Member c x.topology.controllers
    → others c.name (links x) ≡ root ∷ (map site (filter (is_peer_of c) x.topology.controllers) ++ map computer (filter (λ n. lists n c) x.topology.nodes))
site_sees x named c m =
    let names : NamesApart x.topology = apart_names x.topology named.apart in
    let cs = x.topology.controllers in
    let ns = x.topology.nodes in
    let site_name : Member c.name (names_in cs) = in_map (λ (c : NodeId). c.name) c cs m in
    let no_config : config ≡ c.name → ⊥ = λ e. names.no_site_config c.name site_name (sym e) in
    let no_computer : (n : Node) → Member n ns → n.name ≡ c.name → ⊥ = λ n k e. names.kinds_apart c.name n.name site_name (in_map (λ (n : Node). n.name) n ns k) (sym e) in
    others_joined c.name (feeds cs ++ peerings cs) (accesses cs ns)
    ∙ ap (λ (os : List Party). os ++ others c.name (map nodes (accesses cs ns))) (others_joined c.name (feeds cs) (peerings cs))
    ∙ (λ i. (feeds_seen c no_config cs names.sites_apart m i ++ peerings_seen c cs names.sites_apart m i) ++ accesses_seen c cs names.sites_apart m ns no_computer i)
