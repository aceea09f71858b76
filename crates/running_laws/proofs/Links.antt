-- The sessions that a topology has are those of the nodes that have one with each other.
use Rattle.std.specs.Cmp.Lexicographic.{bytes_decides}
use Rattle.std.specs.List.{filter}
use Rattle.std.specs.Prelude.{List, map, true, [], ◌++◌, ◌∷◌, ◌≡◌, ◌⊎◌}
use Rattle.std.proofs.Common.{inl, inr, refl, subst, sym, ◌∙◌}
use Rattle.std.proofs.lemmas.Bool.{true≢false}
use Rattle.ov_types.specs.declared.rows.NodeId.{NodeId}
use Rattle.config_types.specs.declared.topology.Node.{Node}
use Rattle.node_model.specs.Members.{Member}
use Rattle.node_model.proofs.Members.{from_filter, from_flat_map, from_map, in_either, in_filter, in_flat_map, in_left, in_map, in_right}
use Rattle.machine_laws.specs.MachineModel.Moments.{NodePair, nodes}
use Rattle.machine_laws.specs.MachineModel.Network.{accesses, asked, feeds, lists, peerings}
use Rattle.machine_laws.specs.MachineModel.Session.{Session}
use Rattle.machine_laws.specs.MachineModel.Setup.{Setup, checked}
use Rattle.machine_laws.proofs.MachineModel.Apart.{no_twins, access_session, feed_session, from_peerings, peer_session}
use Rattle.machine_laws.proofs.MachineModel.Twins.{IsProper, NoTwins}
use Rattle.machine_laws.specs.Goal.{Party}
use Rattle.machine_laws.specs.Setups.{IsNamed}
use Rattle.machine_laws.proofs.Placing.{in_peerings}
use Rattle.running_laws.proofs.Parties.{Feed, Fed, Peers, Serves, Served, Ties}

abbrev pub links : Setup → List NodePair
links x = map nodes (asked x.topology)

-- ---- where they stand
module _ (x : Setup) (named : IsNamed x.topology) where
  abbrev cs : List NodeId
  cs = x.topology.controllers

  abbrev ns : List Node
  ns = x.topology.nodes

  feed_in : (c : NodeId) → Member c cs → Member (nodes (feed_session c)) (links x)
  feed_in c m = in_map nodes (feed_session c) (asked x.topology) (in_left (feed_session c) (feeds cs ++ peerings cs) (accesses cs ns) (in_left (feed_session c) (feeds cs) (peerings cs) (in_map feed_session c cs m)))

  peer_in : (s : Session) → Member s (peerings cs) → Member (nodes s) (links x)
  peer_in s m = in_map nodes s (asked x.topology) (in_left s (feeds cs ++ peerings cs) (accesses cs ns) (in_right s (feeds cs) (peerings cs) m))

  access_in : (c : NodeId) (n : Node) → Member c cs → Member n ns → lists n c ≡ true → Member (nodes (access_session c n)) (links x)
  access_in c n m k l =
      in_map nodes (access_session c n) (asked x.topology)
      (in_right (access_session c n) (feeds cs ++ peerings cs) (accesses cs ns)
      (in_flat_map (λ n. map (λ c. access_session c n) (filter (lists n) cs)) n (access_session c n) ns k (in_map (λ c. access_session c n) c (filter (lists n) cs) (in_filter (lists n) c cs m l))))

  -- ---- two nodes that have a session with each other
  abbrev IsLinked : Party → Party → Type 0
  IsLinked a o = Member (a, o) (links x) ⊎ Member (o, a) (links x)

  pub link_of : (a o : Party) → Ties x.topology a o → IsLinked a o
  link_of a o (Feed c m e f) = inl (subst (λ (p : NodePair). Member p (links x)) (λ i. (sym e i, sym f i)) (feed_in c m))
  link_of a o (Fed c m e f) = inr (subst (λ (p : NodePair). Member p (links x)) (λ i. (sym f i, sym e i)) (feed_in c m))
  link_of a o (Peers c d m k h e f) =
      elim (in_peerings cs c d m k h) as (λ _. IsLinked a o) [
        | inl l ↦ inl (subst (λ (p : NodePair). Member p (links x)) (λ i. (sym e i, sym f i)) (peer_in (peer_session c d) l))
        | inr l ↦ inr (subst (λ (p : NodePair). Member p (links x)) (λ i. (sym f i, sym e i)) (peer_in (peer_session d c) l))
      ]
  link_of a o (Serves c n m k l e f) = inl (subst (λ (p : NodePair). Member p (links x)) (λ i. (sym e i, sym f i)) (access_in c n m k l))
  link_of a o (Served c n m k l e f) = inr (subst (λ (p : NodePair). Member p (links x)) (λ i. (sym f i, sym e i)) (access_in c n m k l))

  -- ---- and back
  pub twinless : NoTwins (links x)
  twinless = no_twins (checked x) named.apart

  proper_in : (ps : List NodePair) → NoTwins ps → (p : NodePair) → Member p ps → IsProper p
  proper_in [] h p m = absurd m
  proper_in (q ∷ ps) h p (inl e) = subst IsProper e h.0
  proper_in (q ∷ ps) h p (inr m) = proper_in ps h.2 p m

  pub proper : (p : NodePair) → Member p (links x) → IsProper p
  proper p m = proper_in (links x) twinless p m

  abbrev AreTied : NodePair → Type 0
  AreTied p = Ties x.topology p.0 p.1

  pub tied_of : (p : NodePair) → Member p (links x) → AreTied p
  tied_of p m =
      let q = from_map nodes p (asked x.topology) m in
      let s = q.0 in
      subst AreTied q.2
      (elim (in_either s (feeds cs ++ peerings cs) (accesses cs ns) q.1) as (λ _. AreTied (nodes s)) [
        | inl l ↦ elim (in_either s (feeds cs) (peerings cs) l) as (λ _. AreTied (nodes s)) [
          | inl f ↦ let c = from_map feed_session s cs f in subst (λ s. AreTied (nodes s)) c.2 (Feed c.0 c.1 refl refl)
          | inr f ↦
              let c = from_peerings cs s f in
              let apart : IsProper (nodes s) = subst IsProper (sym q.2) (proper p m) in
              subst AreTied c.4 (Peers c.0 c.2 c.1 c.3 (not_same c.0 c.2 (subst IsProper (sym c.4) apart)) refl refl)
        ]
        | inr r ↦
            let n = from_flat_map (λ n. map (λ c. access_session c n) (filter (lists n) cs)) s ns r in
            let c = from_map (λ c. access_session c n.0) s (filter (lists n.0) cs) n.2 in
            let l = from_filter (lists n.0) c.0 cs c.1 in
            subst (λ s. AreTied (nodes s)) c.2 (Serves c.0 n.0 l.0 n.1 l.1 refl refl)
      ])
    where
      not_same : (c d : NodeId) → IsProper (nodes (peer_session c d)) → c.name ≡ d.name → ⊥
      not_same c d p e = true≢false (sym ((bytes_decides c.name d.name).1 e) ∙ p.0)
