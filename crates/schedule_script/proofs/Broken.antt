-- No broken tie is found exactly where none is broken.
use Rattle.std.proofs.Common.{subst, ◌≡◌, ◌≢◌, ◌↔◌, ◌&&◌, ◌||◌, ◌⊎◌, inl, inr, ◌==◌, ℕ, Bool, true, false, cond, not, List, Option, Some, None, ap, get_or, refl, sym, ◌∙◌}
use Rattle.std.specs.List.{All, Contains}
use Rattle.std.proofs.lemmas.Bool.{and_from, and_parts, eq-eqb, eqb-true}
use Rattle.std.proofs.lemmas.List.Elements.{All-contains, Contains-get_or}
use Rattle.std.proofs.lemmas.Bool.{true≢false}
use Rattle.std.proofs.lemmas.Option.{same_Some}
use Rattle.policy_rules.proofs.Taking.{first_answer}
use Rattle.ov_types.proofs.FirstLemmas.{contains_at}
use Rattle.ov_types.specs.First.{first_of, same_name, ◌<|>◌}
use Rattle.ov_types.specs.declared.numbers.InstanceId.{InstanceId}
use Rattle.ov_types.specs.declared.numbers.PortNo.{PortNo}
use Rattle.ov_types.specs.declared.prefix.Addr.{Addr}
use Rattle.ov_types.proofs.FirstLemmas.{both_none, first_of_none, same_name_iff}
use Rattle.config_types.specs.declared.config.Action.TheVariants.{Deny, Pass, Through}
use Rattle.config_types.specs.declared.config.Action.{Action}
use Rattle.config_types.specs.declared.config.Config.{Config}
use Rattle.config_types.specs.declared.config.Port.{Port}
use Rattle.config_types.specs.declared.topology.Node.{Node}
use Rattle.config_types.specs.declared.topology.Topology.{Topology}
use Rattle.policy_rules.specs.Related.{all_rules}
use Rattle.policy_rules.specs.declared.numbered.NumberedRule.{NumberedRule}
use Rattle.config_check.specs.Checked.{Checked}
use Rattle.config_check.specs.Sentences.{IsValid}
use Rattle.schedule_script.specs.declared.breaking.Tie.{Tie}
use Rattle.schedule_script.specs.declared.breaking.Tie.TheVariants as Tied
use Rattle.schedule_script.specs.Ties.{BreaksNone, HasNode, HasPort, HasUse, NodesBreakNone, Ties}
use Rattle.schedule_script.specs.Tying.{ends_of, home_id}
use Rattle.schedule_script.specs.Broken.{BreaksNode, BreaksPort, BreaksUse, IsBroken, broken_node, broken_port, broken_tie, broken_use, moved, moved_address, moved_pair, renamed}
use Rattle.schedule_script.proofs.OfNodes.{same_address}
use Rattle.schedule_script.proofs.Having.{NetworkPair, ends_are, home_is, of_port, of_rule, same_id}

never : {A : Type 0} (x : A) → None ≡ Some x → ⊥
never x e = cc

not_moved : (b : Bool) → not b ≡ false → b ≡ true
not_moved true e = refl
not_moved false e = sym e

if_none : {A : Type 0} (b : Bool) (x : A) → cond b (Some x) None ≡ None → b ≡ false
if_none true x e = cc
if_none false x e = refl

all_of : {A : Type 0} (P : A → Type 0) (xs : List A) → ((x : A) → Contains xs x → P x) → All P xs
all_of P xs h = λ k d lt. h (get_or xs k d) (Contains-get_or xs k d lt)

-- ---- of a number: it is where its tie has it, or not
stays : (o r : Option InstanceId) (m n : InstanceId) → moved o r ≡ false → o ≡ Some m → r ≡ Some n → m ≡ n
stays o r m n h e f =
    let is : moved (Some m) (Some n) ≡ false = (λ k. moved (sym e k) (sym f k)) ∙ h in
    same_id m n (eqb-true m.0 n.0 (not_moved (m.0 == n.0) is))

unmoved : (o r : Option InstanceId) → ((m n : InstanceId) → o ≡ Some m → r ≡ Some n → m ≡ n) → moved o r ≡ false
unmoved (Some m) (Some n) h = ap not (eq-eqb m.0 n.0 (ap (λ (n : InstanceId). n.0) (h m n refl refl)))
unmoved (Some m) None h = refl
unmoved None r h = refl

pair_stays : (o r : Option NetworkPair) (m n : NetworkPair) → moved_pair o r ≡ false → o ≡ Some m → r ≡ Some n → m ≡ n
pair_stays o r m n h e f =
    let is : moved_pair (Some m) (Some n) ≡ false = (λ k. moved_pair (sym e k) (sym f k)) ∙ h in
    let both = and_parts (m.0.0 == n.0.0) (m.1.0 == n.1.0) (not_moved ((m.0.0 == n.0.0) && (m.1.0 == n.1.0)) is) in
    λ k. (same_id m.0 n.0 (eqb-true m.0.0 n.0.0 both.0) k, same_id m.1 n.1 (eqb-true m.1.0 n.1.0 both.1) k)

pair_unmoved : (o r : Option NetworkPair) → ((m n : NetworkPair) → o ≡ Some m → r ≡ Some n → m ≡ n) → moved_pair o r ≡ false
pair_unmoved (Some m) (Some n) h =
    let same : m ≡ n = h m n refl refl in
    ap not (and_from (m.0.0 == n.0.0) (m.1.0 == n.1.0) (eq-eqb m.0.0 n.0.0 (ap (λ (p : NetworkPair). p.0.0) same)) (eq-eqb m.1.0 n.1.0 (ap (λ (p : NetworkPair). p.1.0) same)))
pair_unmoved (Some m) None h = refl
pair_unmoved None r h = refl

if_some : {A : Type 0} (b : Bool) (x y : A) → cond b (Some x) None ≡ Some y → (b ≡ true) × (x ≡ y)
if_some true x y e = (refl, same_Some x y e)
if_some false x y e = absurd (never y e)

was_moved : (o r : Option InstanceId) → moved o r ≡ true → (m : InstanceId) × (n : InstanceId) × (o ≡ Some m) × (r ≡ Some n) × (m ≢ n)
was_moved (Some m) (Some n) h = (m, n, refl, refl, λ e. true≢false (sym h ∙ ap not (eq-eqb m.0 n.0 (ap (λ (n : InstanceId). n.0) e))))
was_moved (Some m) None h = absurd (true≢false (sym h))
was_moved None r h = absurd (true≢false (sym h))

pair_was_moved : (o r : Option NetworkPair) → moved_pair o r ≡ true → (m : NetworkPair) × (n : NetworkPair) × (o ≡ Some m) × (r ≡ Some n) × (m ≢ n)
pair_was_moved (Some m) (Some n) h = (m, n, refl, refl, λ e. true≢false (sym h ∙ pair_unmoved (Some m) (Some n) (λ a b f g. sym (same_Some m a f) ∙ e ∙ same_Some n b g)))
pair_was_moved (Some m) None h = absurd (true≢false (sym h))
pair_was_moved None r h = absurd (true≢false (sym h))

-- ---- of a compute node: its name and its address are as their ties have them, or not
address_stays : (o : Option Addr) (a b : Addr) → moved_address o b ≡ false → o ≡ Some a → a ≡ b
address_stays o a b h e =
    let is : moved_address (Some a) b ≡ false = (λ k. moved_address (sym e k) b) ∙ h in
    same_address a b (eqb-true a.0 b.0 (not_moved (a.0 == b.0) is))

address_unmoved : (o : Option Addr) (b : Addr) → ((a : Addr) → o ≡ Some a → a ≡ b) → moved_address o b ≡ false
address_unmoved (Some a) b h = ap not (eq-eqb a.0 b.0 (ap (λ (a : Addr). a.0) (h a refl)))
address_unmoved None b h = refl

address_was_moved : (o : Option Addr) (b : Addr) → moved_address o b ≡ true → (a : Addr) × (o ≡ Some a) × (a ≢ b)
address_was_moved (Some a) b h = (a, refl, λ e. true≢false (sym h ∙ ap not (eq-eqb a.0 b.0 (ap (λ (a : Addr). a.0) e))))
address_was_moved None b h = absurd (true≢false (sym h))

name_stays : (o : Option (List ℕ)) (m n : List ℕ) → renamed o n ≡ false → o ≡ Some m → m ≡ n
name_stays o m n h e =
    let is : renamed (Some m) n ≡ false = (λ k. renamed (sym e k) n) ∙ h in
    (same_name_iff m n).0 (not_moved (same_name m n) is)

not_renamed : (o : Option (List ℕ)) (n : List ℕ) → ((m : List ℕ) → o ≡ Some m → m ≡ n) → renamed o n ≡ false
not_renamed (Some m) n h = ap not ((same_name_iff m n).1 (h m refl))
not_renamed None n h = refl

was_renamed : (o : Option (List ℕ)) (n : List ℕ) → renamed o n ≡ true → (m : List ℕ) × (o ≡ Some m) × (m ≢ n)
was_renamed (Some m) n h = (m, refl, λ e. true≢false (sym h ∙ ap not ((same_name_iff m n).1 e)))
was_renamed None n h = absurd (true≢false (sym h))

neither : (a b : Bool) → (a || b) ≡ false → (a ≡ false) × (b ≡ false)
neither true b e = absurd (true≢false e)
neither false b e = (refl, e)

either : (a b : Bool) → (a || b) ≡ true → (a ≡ true) ⊎ (b ≡ true)
either true b e = inl refl
either false b e = inr e

-- ---- of a topology
module _ (t : Ties) (x : Topology) where
  this_node : (n : Node) → Contains x.nodes n → HasNode x n.name n.address
  this_node n there = record { node = n; has_node = there; name_is = refl; address_is = refl }

  both_kept : (n : Node) → broken_node t n ≡ None → (moved_address (t.address n.name) n.address ≡ false) × (renamed (t.name n.address) n.name ≡ false)
  both_kept n e =
      neither (moved_address (t.address n.name) n.address) (renamed (t.name n.address) n.name)
      (if_none (moved_address (t.address n.name) n.address || renamed (t.name n.address) n.name) (Tied.Node n.address) e)

  module _ (none : first_of (broken_node t) x.nodes ≡ None) where
    node_kept : (name : List ℕ) (a : Addr) (h : HasNode x name a) → (moved_address (t.address name) a ≡ false) × (renamed (t.name a) name ≡ false)
    node_kept name a h =
        let both = both_kept h.node (All-contains (λ (n : Node). broken_node t n ≡ None) x.nodes h.node ((first_of_none (broken_node t) x.nodes).0 none) h.has_node) in (
          (λ k. moved_address (t.address (sym h.name_is k)) (sym h.address_is k)) ∙ both.0,
          (λ k. renamed (t.name (sym h.address_is k)) (sym h.name_is k)) ∙ both.1,
        )

    nodes_break_none : NodesBreakNone t x
    nodes_break_none = record {
      addresses = λ name a b e h. address_stays (t.address name) a b (node_kept name b h).0 e;
      names = λ a m n e h. name_stays (t.name a) m n (node_kept n a h).1 e;
    }

  node_none : NodesBreakNone t x → (n : Node) → Contains x.nodes n → broken_node t n ≡ None
  node_none keeps n there =
      let address = address_unmoved (t.address n.name) n.address (λ a e. keeps.addresses n.name a n.address e (this_node n there)) in
      let name = not_renamed (t.name n.address) n.name (λ m e. keeps.names n.address m n.name e (this_node n there)) in
      λ k. cond (address k || name k) (Some (Tied.Node n.address)) None

  no_node_found : NodesBreakNone t x → first_of (broken_node t) x.nodes ≡ None
  no_node_found keeps = (first_of_none (broken_node t) x.nodes).1 (all_of (λ (n : Node). broken_node t n ≡ None) x.nodes (node_none keeps))

  node_broken : (n : Node) → Contains x.nodes n → (moved_address (t.address n.name) n.address || renamed (t.name n.address) n.name) ≡ true → BreaksNode t x n.address
  node_broken n there h =
      elim (either (moved_address (t.address n.name) n.address) (renamed (t.name n.address) n.name) h) [
        | inl moves ↦ let w = address_was_moved (t.address n.name) n.address moves in inl (record { name = n.name; tied = w.0; has_tie = w.1; has_node = this_node n there; differ = w.2 })
        | inr renames ↦ let w = was_renamed (t.name n.address) n.name renames in inr (record { name = n.name; tied = w.0; has_tie = w.1; has_node = this_node n there; differ = w.2 })
      ]

-- ---- of a configuration
module _ (t : Ties) (x : Checked) (v : IsValid x.topology x.config) where
  abbrev s : Topology
  s = x.topology

  abbrev c : Config
  c = x.config

  abbrev by_rule : NumberedRule → Option Tie
  by_rule r = broken_use t c r.rule r.rule.action

  abbrev of_ports : Option Tie
  of_ports = first_of (broken_port t c) c.ports

  abbrev of_uses : Option Tie
  of_uses = first_of by_rule (all_rules c)

  abbrev of_nodes : Option Tie
  of_nodes = first_of (broken_node t) s.nodes

  port_kept : of_ports ≡ None → (p : PortNo) (m n : InstanceId) → t.port p ≡ Some m → HasPort c p n → m ≡ n
  port_kept none p m n e h =
      let whole = All-contains (λ (q : Port). broken_port t c q ≡ None) c.ports h.port ((first_of_none (broken_port t c) c.ports).0 none) h.has_port in
      stays (t.port h.port.id) (home_id c h.port) m n (if_none (moved (t.port h.port.id) (home_id c h.port)) (Tied.Port h.port.id) whole) (ap t.port h.number_is ∙ e) (home_is s c v p n h)

  use_kept : of_uses ≡ None → (number : ℕ) (m n : NetworkPair) → t.chain_use number ≡ Some m → HasUse c number n → m ≡ n
  use_kept none number m n e h =
      let whole : by_rule h.rule ≡ None = All-contains (λ (r : NumberedRule). by_rule r ≡ None) (all_rules c) h.rule ((first_of_none by_rule (all_rules c)).0 none) h.has_rule in
      let here : broken_use t c h.rule.rule (Through h.chain number) ≡ None = ap (broken_use t c h.rule.rule) (sym h.leads) ∙ whole in
      pair_stays (t.chain_use number) (ends_of c h.rule.rule) m n (if_none (moved_pair (t.chain_use number) (ends_of c h.rule.rule)) (Tied.ChainUse number) here) e (ends_are s c v number n h)

  breaks_none : broken_tie t x ≡ None → BreaksNone t c × NodesBreakNone t s
  breaks_none none =
      let parts = (both_none of_ports (of_uses <|> of_nodes)).0 none in
      let others = (both_none of_uses of_nodes).0 parts.1 in
      (record { ports = port_kept parts.0; uses = use_kept others.0 }, nodes_break_none t s others.1)

  module _ (keeps : BreaksNone t c) where
    port_none : (q : Port) → Contains c.ports q → broken_port t c q ≡ None
    port_none q there =
        ap (λ b. cond b (Some (Tied.Port q.id)) None)
        (unmoved (t.port q.id) (home_id c q) (λ m n e f. keeps.ports q.id m n e (of_port s c v q n there f)))

    rule_none : (r : NumberedRule) → Contains (all_rules c) r → (a : Action) → r.rule.action ≡ a → broken_use t c r.rule a ≡ None
    rule_none r there Pass is = refl
    rule_none r there Deny is = refl
    rule_none r there (Through chain number) is =
        ap (λ b. cond b (Some (Tied.ChainUse number)) None)
        (pair_unmoved (t.chain_use number) (ends_of c r.rule) (λ m n e f. keeps.uses number m n e (of_rule s c v r chain number n there is f)))

    no_port_found : of_ports ≡ None
    no_port_found = (first_of_none (broken_port t c) c.ports).1 (all_of (λ (q : Port). broken_port t c q ≡ None) c.ports port_none)

    no_use_found : of_uses ≡ None
    no_use_found = (first_of_none by_rule (all_rules c)).1 (all_of (λ (r : NumberedRule). by_rule r ≡ None) (all_rules c) (λ r there. rule_none r there r.rule.action refl))

  none_found : BreaksNone t c × NodesBreakNone t s → broken_tie t x ≡ None
  none_found keeps =
      (both_none of_ports (of_uses <|> of_nodes)).1 (no_port_found keeps.0, (both_none of_uses of_nodes).1 (no_use_found keeps.0, no_node_found t s keeps.1))

  -- ---- what is found is broken
  no_port : of_ports ≡ None → (p : PortNo) → ¬ BreaksPort t c p
  no_port none p b = b.differ (port_kept none p b.tied b.home b.has_tie b.has_port)

  no_use : of_uses ≡ None → (number : ℕ) → ¬ BreaksUse t c number
  no_use none number b = b.differ (use_kept none number b.tied b.ends b.has_tie b.has_use)

  port_broken : (q : Port) (tie : Tie) → Contains c.ports q → broken_port t c q ≡ Some tie → IsBroken t x tie
  port_broken q tie there e =
      let f = if_some (moved (t.port q.id) (home_id c q)) (Tied.Port q.id) tie e in
      let w = was_moved (t.port q.id) (home_id c q) f.0 in
      subst (IsBroken t x) f.1 (record { tied = w.0; home = w.1; has_tie = w.2; has_port = of_port s c v q w.1 there w.3; differ = w.4 })

  use_broken : of_ports ≡ None → (r : NumberedRule) (tie : Tie) → Contains (all_rules c) r → (a : Action) → r.rule.action ≡ a → broken_use t c r.rule a ≡ Some tie → IsBroken t x tie
  use_broken none r tie there Pass is e = absurd (never tie e)
  use_broken none r tie there Deny is e = absurd (never tie e)
  use_broken none r tie there (Through chain number) is e =
      let f = if_some (moved_pair (t.chain_use number) (ends_of c r.rule)) (Tied.ChainUse number) tie e in
      let w = pair_was_moved (t.chain_use number) (ends_of c r.rule) f.0 in
      subst (IsBroken t x) f.1 (
        record { tied = w.0; ends = w.1; has_tie = w.2; has_use = of_rule s c v r chain number w.1 there is w.3; differ = w.4 },
        no_port none,
      )

  a_node_broken : of_ports ≡ None → of_uses ≡ None → (n : Node) (tie : Tie) → Contains s.nodes n → broken_node t n ≡ Some tie → IsBroken t x tie
  a_node_broken ports uses n tie there e =
      let f = if_some (moved_address (t.address n.name) n.address || renamed (t.name n.address) n.name) (Tied.Node n.address) tie e in
      subst (IsBroken t x) f.1 (node_broken t s n there f.0, (no_port ports, no_use uses))

  found_broken : (tie : Tie) → broken_tie t x ≡ Some tie → IsBroken t x tie
  found_broken tie e = by_ports of_ports refl e
    where
      by_uses : of_ports ≡ None → (o : Option Tie) → of_uses ≡ o → (o <|> of_nodes) ≡ Some tie → IsBroken t x tie
      by_uses none (Some k) is e = let a = first_answer by_rule (all_rules c) tie (is ∙ e) in use_broken none a.item tie (contains_at (all_rules c) a.place a.item a.there) a.item.rule.action refl a.gives
      by_uses none None is e = let a = first_answer (broken_node t) s.nodes tie e in a_node_broken none is a.item tie (contains_at s.nodes a.place a.item a.there) a.gives

      by_ports : (o : Option Tie) → of_ports ≡ o → (o <|> (of_uses <|> of_nodes)) ≡ Some tie → IsBroken t x tie
      by_ports (Some k) is e = let a = first_answer (broken_port t c) c.ports tie (is ∙ e) in port_broken a.item tie (contains_at c.ports a.place a.item a.there) a.gives
      by_ports None is e = by_uses is of_uses refl e

pub found_is_broken : (t : Ties) (x : Checked) (tie : Tie) → IsValid x.topology x.config → broken_tie t x ≡ Some tie → IsBroken t x tie
found_is_broken t x tie v e = found_broken t x v tie e

pub broken_iff : (t : Ties) (x : Checked) → IsValid x.topology x.config → (broken_tie t x ≡ None) ↔ (BreaksNone t x.config × NodesBreakNone t x.topology)
broken_iff t x v = (breaks_none t x v, none_found t x v)
