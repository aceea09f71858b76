-- Ties only grow, and a configuration that breaks none is as the ties with it have it.
use Rattle.std.proofs.Common.{◌≡◌, Option, Some, None, ap, refl}
use Rattle.std.proofs.lemmas.Bool.{or_left, or_right}
use Rattle.ov_types.specs.First.{◌<|>◌}
use Rattle.config_types.specs.declared.config.Config.{Config}
use Rattle.config_types.specs.declared.topology.Topology.{Topology}
use Rattle.config_check.specs.Checked.{Checked}
use Rattle.config_check.specs.Sentences.{IsValid}
use Rattle.schedule_script.specs.Ties.{AreNodesTied, BreaksNone, Grows, IsTiedBy, NodesBreakNone, Ties}
use Rattle.schedule_script.specs.Tying.{joined, no_ties, node_address, node_name, port_network, relates, use_networks}
use Rattle.schedule_script.proofs.Having.{port_iff, relates_iff, use_iff}
use Rattle.schedule_script.proofs.OfNodes.{address_iff, name_iff}

pub grows_itself : (t : Ties) → Grows t t
grows_itself t = record { ports = λ p n e. e; uses = λ u n e. e; related = λ a b e. e; addresses = λ name a e. e; names = λ a name e. e }

pub grows_on : (r s t : Ties) → Grows r s → Grows s t → Grows r t
grows_on r s t f g = record {
  ports = λ p n e. g.ports p n (f.ports p n e);
  uses = λ u n e. g.uses u n (f.uses u n e);
  related = λ a b e. g.related a b (f.related a b e);
  addresses = λ name a e. g.addresses name a (f.addresses name a e);
  names = λ a name e. g.names a name (f.names a name e);
}

first_stays : {A : Type 0} (o r : Option A) (n : A) → o ≡ Some n → (o <|> r) ≡ Some n
first_stays (Some m) r n e = e
first_stays None r n e = cc

pub joined_grows : (t : Ties) (x : Checked) → Grows t (joined t x)
joined_grows t x = record {
  ports = λ p n e. first_stays (t.port p) (port_network x.config p) n e;
  uses = λ u n e. first_stays (t.chain_use u) (use_networks x.config u) n e;
  related = λ a b e. or_left (t.was_related a b) (relates x.config a b) e;
  addresses = λ name a e. first_stays (t.address name) (node_address x.topology name) a e;
  names = λ a name e. first_stays (t.name a) (node_name x.topology a) name e;
}

pub tied_grows : (s t : Ties) (c : Config) → Grows s t → IsTiedBy s c → IsTiedBy t c
tied_grows s t c g h = record {
  ports = λ p n has. g.ports p n (h.ports p n has);
  uses = λ u pair has. g.uses u pair (h.uses u pair has);
  related = λ a b has. g.related a b (h.related a b has);
}

pub nodes_tied_grows : (s t : Ties) (x : Topology) → Grows s t → AreNodesTied s x → AreNodesTied t x
nodes_tied_grows s t x g h = record {
  addresses = λ name a has. g.addresses name a (h.addresses name a has);
  names = λ name a has. g.names a name (h.names name a has);
}

-- a number has the tie that it has by now, or by the configuration
either_is : {A : Type 0} (o r : Option A) (n : A) → r ≡ Some n → ((m : A) → o ≡ Some m → m ≡ n) → (o <|> r) ≡ Some n
either_is (Some m) r n e h = ap Some (h m refl)
either_is None r n e h = e

pub joined_tied : (t : Ties) (x : Checked) → IsValid x.topology x.config → BreaksNone t x.config → IsTiedBy (joined t x) x.config
joined_tied t x v keeps =
    let s = x.topology in
    let c = x.config in
    record {
      ports = λ p n has. either_is (t.port p) (port_network c p) n ((port_iff s c v p n).1 has) (λ m e. keeps.ports p m n e has);
      uses = λ u pair has. either_is (t.chain_use u) (use_networks c u) pair ((use_iff s c v u pair).1 has) (λ m e. keeps.uses u m pair e has);
      related = λ a b has. or_right (t.was_related a b) (relates c a b) ((relates_iff c a b).1 has);
    }

pub nodes_joined_tied : (t : Ties) (x : Checked) → IsValid x.topology x.config → NodesBreakNone t x.topology → AreNodesTied (joined t x) x.topology
nodes_joined_tied t x v keeps =
    let s = x.topology in
    record {
      addresses = λ name a has. either_is (t.address name) (node_address s name) a ((address_iff s x.config v name a).1 has) (λ b e. keeps.addresses name b a e has);
      names = λ name a has. either_is (t.name a) (node_name s a) name ((name_iff s x.config v name a).1 has) (λ m e. keeps.names a m name e has);
    }

never : {A B : Type 0} (m : A) → None ≡ Some m → B
never m e = cc

pub breaks_nothing : (c : Config) → BreaksNone no_ties c
breaks_nothing c = record { ports = λ p m n e has. never m e; uses = λ u m n e has. never m e }

pub nodes_break_nothing : (x : Topology) → NodesBreakNone no_ties x
nodes_break_nothing x = record { addresses = λ name a b e has. never a e; names = λ a m n e has. never m e }
