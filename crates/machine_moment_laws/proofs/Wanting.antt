-- Where all is held up to a rank, all that is wanted is good up to the next; and what is good up to a rank is good up to each
-- lesser one.
use Rattle.std.specs.Prelude.{◌≡◌, ◌≤◌, ℕ, ◌+◌, suc, List, ◌∷◌, map, true}
use Rattle.std.proofs.Common.{arith, inl, inr}
use Rattle.schedule_script.specs.ConfigCheck.Checked.{Checked}
use Rattle.node_laws.specs.NodeModel.Keys.{Key, Low, Publish, Row, Subscribe, Vpn}
use Rattle.node_laws.specs.NodeModel.Maps.{Map}
use Rattle.node_laws.specs.NodeModel.Members.{Member}
use Rattle.machine_model.specs.Moments.{ArePositive, Each, nodes}
use Rattle.machine_model.specs.Network.{sessions_of, view, views_of, wanted}
use Rattle.machine_model.specs.Session.{Agent, Configuration, Controller, Message, Role, Session}
use Rattle.machine_model.specs.Setup.{Name, Setup, opening}
use Rattle.machine_model.proofs.Twins.{each_and, each_weaker}
use Rattle.machine_laws.specs.Headline.{IsWritten}
use Rattle.machine_laws.specs.Settling.{FairMap}
use Rattle.machine_moment_laws.proofs.Here.{Here, lasts}
use Rattle.machine_moment_laws.proofs.Keys.{keys_wanted}
use Rattle.machine_moment_laws.proofs.OfSome.{AreSomeTo, source_rank, some_to, wants_some_to}
use Rattle.machine_moment_laws.proofs.Meeting.{meets_up}
use Rattle.machine_moment_laws.proofs.Says.{HoldsTo, Says, SaysBy, both_last, lasting}
use Rattle.machine_moment_laws.proofs.Stays.{HasKeys}
use Rattle.machine_moment_laws.proofs.Stood.{HoldStood, kind, stood, stood_held, wants_stood}
use Rattle.machine_moment_laws.proofs.Exchanges.{Good, IsBack}

module _ (b : Checked) (ds : List Checked) (written : (c : Checked) → Member c (b ∷ ds) → IsWritten (opening c)) where
  abbrev cs : List Checked
  cs = b ∷ ds

  module _ (size : Name → Message → ℕ) (positive : ArePositive size) where
    -- both ends hold it
    holds_at : (r : ℕ) (s : Session) → IsBack b ds written size positive r s → HoldsTo b ds written r s
    holds_at r s f l =
        let g = f.0 l in
        record {
          near_up = λ rank. (meets_up (Says b ds written r) r size positive (nodes s) s rank g).0;
          far_up = λ rank. (meets_up (Says b ds written r) r size positive (nodes s) s rank g).1;
          near_held = g.1.near_held;
          far_held = g.1.far_held;
        }

    pub holds_back : (r : ℕ) (ss : List Session) → Each (IsBack b ds written size positive r) ss → Each (HoldsTo b ds written r) ss
    holds_back r ss e = each_weaker (IsBack b ds written size positive r) (HoldsTo b ds written r) (holds_at r) ss e

    pub some_back : (r : ℕ) (ss : List Session) → Each (IsBack b ds written size positive r) ss → Each (AreSomeTo cs r) ss
    some_back r ss e = each_weaker (IsBack b ds written size positive r) (AreSomeTo cs r) (λ s f. (f.1.0.near_held, f.1.0.far_held)) ss e

    pub stood_back : (r : ℕ) (ss : List Session) → Each (IsBack b ds written size positive r) ss → Each (HoldStood cs b.topology.asn r) ss
    stood_back r ss e = each_weaker (IsBack b ds written size positive r) (HoldStood cs b.topology.asn r) (λ s f. stood_held cs b.topology.asn r s f.1.1) ss e

  abbrev pub Tells : ℕ → Session → Map → Type 0
  Tells r s m = Good b ds written r (s.near.name, s.near.role) (s.far.name, s.far.role) m

  pub wants_good : (size : Name → Message → ℕ) (positive : ArePositive size) (r : ℕ) (x : Setup) (ss : List Session) → Here b ds written x (map nodes ss) → Each (IsBack b ds written size positive r) ss → (n : Name) → Each (λ s. Tells (suc r) s (wanted x (views_of n ss) (view s))) (sessions_of n ss)
  wants_good size positive r x ss here e n =
      let own = sessions_of n ss in
      let W : Session → Map = λ s. wanted x (views_of n ss) (view s) in
      let Keys : Session → Type 0 = λ s. lasting b ds written s ≡ true → HasKeys (Says b ds written (suc r)) (s.near.name, s.near.role) (s.far.name, s.far.role) (W s) in
      let Some' : Session → Type 0 = λ s. FairMap (some_to cs (suc r)) (s.near.name, s.near.role) (s.far.name, s.far.role) (W s) in
      let Stood' : Session → Type 0 = λ s. FairMap (stood cs b.topology.asn (suc r)) (s.near.name, s.near.role) (s.far.name, s.far.role) (W s) in
      each_weaker (λ s. Keys s × (Some' s × Stood' s)) (λ s. Tells (suc r) s (W s))
      (λ s q. ((λ l k. q.0 (both_last (lasts b ds written s.near.name) (lasts b ds written s.far.name) l k)), q.1)) own
      (each_and Keys (λ s. Some' s × Stood' s) own
      (keys_wanted b ds written r x ss here (holds_back size positive r ss e) (some_back size positive r ss e) (stood_back size positive r ss e) n)
      (each_and Some' Stood' own
      (wants_some_to cs r x ss n here.among (some_back size positive r ss e))
      (wants_stood b ds written b.topology.asn r x ss here here.asn (some_back size positive r ss e) (stood_back size positive r ss e) n)))

  -- ---- up to a lesser rank
  more : (a r : ℕ) → a ≤ r → a ≤ suc r
  more a r h = omega (arith, h)

  said_more : (r : ℕ) (p q : Role) (from to : Name) (k : Key) → SaysBy b ds written r p q from to k → SaysBy b ds written (suc r) p q from to k
  said_more r Configuration q from to (Low k) h = (more 1 r h.0, h.1)
  said_more r Controller Agent from to (Low k) h = (more 2 r h.0, h.1)
  said_more r Controller Agent from to (Row i prefix) (inl h) = inl (record { rank = more 5 r h.rank; needed = h.needed; to = h.to; attached = h.attached; imported = h.imported; prefix_is = h.prefix_is })
  said_more r Controller Agent from to (Row i prefix) (inr h) = inr (record { needed = h.needed; row = h.row; led = h.led; rank = more (5 + suc h.led.d) r h.rank })
  said_more r Agent q from to (Publish i prefix) h = record { rank = more 3 r h.rank; node = h.node; stays = h.stays; name = h.name; to = h.to; attached = h.attached; at = h.at; instance = h.instance; prefix_is = h.prefix_is }
  said_more r Agent q from to (Subscribe i) h = (more 3 r h.0, h.1)
  said_more r Controller Controller from to (Vpn k) (inl h) = inl (record { rank = more 4 r h.rank; to = h.to; served = h.served; rd = h.rd; prefix = h.prefix })
  said_more r Controller Controller from to (Vpn k) (inr h) = inr (record { side = h.side; of_use = h.of_use; depth = h.depth; within = h.within; rank = more (4 + suc h.depth) r h.rank; subnet = h.subnet; held = h.held; to = h.to; served = h.served; circuit = h.circuit; rd = h.rd })
  said_more r _ _ from to _ h = h

  pub good_weaker : (r : ℕ) (from to : Name × Role) (m : Map) → Good b ds written (suc r) from to m → Good b ds written r from to m
  good_weaker r from to m g = (
    (λ l k key says. g.0 l k key (said_more r from.1 to.1 from.0 to.0 key says)),
    (
      (λ k v e rank. g.1.0 k v e (more (source_rank cs from.1) r rank)),
      (λ k v e rank. g.1.1 k v e (more (kind cs k) r rank)),
    ),
  )
