-- What ties relate is what rules relate, and the first tie that is broken is named.
use Rattle.std.specs.Prelude.{◌≡◌, ◌≢◌, ◌⊎◌, ◌↔◌, ◌||◌, ◌&&◌, ◌==◌, ℕ, List, Bool, true, false, cond, not, Option, Some, None}
use Rattle.std.specs.List.{Contains}
use Rattle.std.specs.Option.{option_map}
use Rattle.std.proofs.Common.{ap, inl, inr, refl, subst, sym, ◌∙◌}
use Rattle.std.proofs.lemmas.Bool.{and_from, and_parts, eq-eqb, eqb-true, true≢false}
use Rattle.std.proofs.lemmas.Option.{same_Some}
use Rattle.ov_types.specs.First.{first_of, same_name, ◌<|>◌}
use Rattle.ov_types.proofs.FirstLemmas.{contains_at, found_is, same_name_iff}
use Rattle.ov_types.specs.declared.numbers.InstanceId.{InstanceId}
use Rattle.ov_types.specs.declared.numbers.PortNo.{PortNo}
use Rattle.ov_types.specs.declared.prefix.Addr.{Addr}
use Rattle.config_types.specs.declared.config.Action.TheVariants.{Deny, Pass, Through}
use Rattle.config_types.specs.declared.config.Action.{Action}
use Rattle.config_types.specs.declared.config.Config.{Config}
use Rattle.config_types.specs.declared.config.End.TheVariants.{Any, Named}
use Rattle.config_types.specs.declared.config.End.{End}
use Rattle.config_types.specs.declared.config.Network.{Network}
use Rattle.config_types.specs.declared.config.Port.{Port}
use Rattle.config_types.specs.declared.topology.Node.{Node}
use Rattle.policy_rules.specs.Related.{all_rules}
use Rattle.policy_rules.specs.Standing.{IsBetween, LetsThrough}
use Rattle.policy_rules.specs.declared.numbered.NumberedRule.{NumberedRule}
use Rattle.policy_rules.proofs.Taking.{first_answer}
use Rattle.schedule_script.specs.ConfigCheck.Checked.{Checked}
use Rattle.schedule_script.specs.ConfigCheck.Finding.{network_named}
use Rattle.schedule_script.specs.ConfigCheck.Sentences.{IsValid}
use Rattle.schedule_script.specs.declared.breaking.Tie.{Tie}
use Rattle.schedule_script.specs.declared.breaking.Tie.TheVariants as Tied
use Rattle.schedule_script.specs.Broken.{broken_node, broken_port, broken_tie, broken_use, moved, moved_address, moved_pair, renamed}
use Rattle.schedule_script.specs.Ties.{HasPort, HasRelated, HasUse, Ties}
use Rattle.schedule_script.specs.Tying.{end_id, ends_of, home_id, network_id, pair_of}
use Rattle.schedule_script.proofs.Having.{ends_are, home_is}
use Rattle.machine_model.specs.Network.{MachineState}
use Rattle.machine_model.specs.Network.{start}
use Rattle.machine_laws.specs.Refusing.{AtMomentsWithTies, after_tied, kept_events, tied_start}
use Rattle.machine_laws.specs.Relating.{AreRelatedIn, DeliversAmongRelated, IsFirstToBreak, LeadsBy, LeavesItsAddress, LeavesItsNetwork, LeavesItsNetworks, StandsIn, StoodRelated}
use Rattle.machine_laws.specs.Running.{configs}
use Rattle.machine_laws.specs.Stood.{DeliversToThoseJoined, InSome, WereJoined}
use Rattle.machine_laws.proofs.Refused.{isolated_with_ties}

-- ---- relations
port_stands : (c : Config) (p : PortNo) (n : InstanceId) → HasPort c p n → StandsIn c p n
port_stands c p n h = record { port = h.port; home = h.home; has_port = h.has_port; has_home = h.has_home; home_of = h.home_of; number_is = h.number_is; network_is = h.network_is }

pub stands_port : (c : Config) (p : PortNo) (n : InstanceId) → StandsIn c p n → HasPort c p n
stands_port c p n h = record { port = h.port; home = h.home; has_port = h.has_port; has_home = h.has_home; home_of = h.home_of; number_is = h.number_is; network_is = h.network_is }

pub ports_stand : (c : Config) (p : PortNo) (n : InstanceId) → HasPort c p n ↔ StandsIn c p n
ports_stand c p n = (port_stands c p n, stands_port c p n)

by_rules : (c : Config) (a b : InstanceId) → HasRelated c a b → AreRelatedIn c a b
by_rules c a b h = record { first = h.first; second = h.second; has_first = h.has_first; has_second = h.has_second; related = h.related; first_is = h.first_is; second_is = h.second_is }

rules_by : (c : Config) (a b : InstanceId) → AreRelatedIn c a b → HasRelated c a b
rules_by c a b h = record { first = h.first; second = h.second; has_first = h.has_first; has_second = h.has_second; related = h.related; first_is = h.first_is; second_is = h.second_is }

pub related_by_rules : (c : Config) (a b : InstanceId) → HasRelated c a b ↔ AreRelatedIn c a b
related_by_rules c a b = (by_rules c a b, rules_by c a b)

pub denied_apart : (c : Config) (a b : InstanceId) → ((m n : Network) (r : NumberedRule) → m.id ≡ a → n.id ≡ b → IsBetween c m n r → r.rule.action ≡ Deny) → ¬ HasRelated c a b
denied_apart c a b denies h =
    subst LetsThrough (denies h.first h.second h.related.rule h.first_is h.second_is h.related.stands) h.related.lets

relate : (c : Config) (m n : Network) (r : NumberedRule) → Contains c.networks m → Contains c.networks n → m.name ≢ n.name → IsBetween c m n r → LetsThrough r.rule.action → HasRelated c m.id n.id
relate c m n r has_m has_n differ between lets = record {
  first = m;
  second = n;
  has_first = has_m;
  has_second = has_n;
  related = record { differ = differ; rule = r; stands = between; lets = lets };
  first_is = refl;
  second_is = refl;
}

pub passed_related : (c : Config) (m n : Network) (r : NumberedRule) → Contains c.networks m → Contains c.networks n → m.name ≢ n.name → IsBetween c m n r → r.rule.action ≡ Pass → HasRelated c m.id n.id
passed_related c m n r has_m has_n differ between e = relate c m n r has_m has_n differ between (subst LetsThrough (sym e) tt)

pub led_related : (c : Config) (m n : Network) (r : NumberedRule) (number : ℕ) → Contains c.networks m → Contains c.networks n → m.name ≢ n.name → IsBetween c m n r → LeadsBy number r → HasRelated c m.id n.id
led_related c m n r number has_m has_n differ between e = relate c m n r has_m has_n differ between (subst LetsThrough (sym e.1) tt)

-- ---- isolation
pub in_some : (P Q : Config → Type 0) → ((c : Config) → P c → Q c) → (cs : List Config) → InSome cs P → InSome cs Q
in_some P Q f cs s = (s.0, s.1, f s.0 s.2)

pub near_by : (cs : List Config) (a b : InstanceId) → (a ≡ b) ⊎ InSome cs (λ c. HasRelated c a b) → (a ≡ b) ⊎ InSome cs (λ c. AreRelatedIn c a b)
near_by cs a b (inl e) = inl e
near_by cs a b (inr s) = inr (in_some (λ c. HasRelated c a b) (λ c. AreRelatedIn c a b) (λ c h. by_rules c a b h) cs s)

pub stood : (cs : List Config) (p q : PortNo) → WereJoined cs p q → StoodRelated cs p q
stood cs p q j = record {
  from = j.from;
  to = j.to;
  source = in_some (λ c. HasPort c p j.from) (λ c. StandsIn c p j.from) (λ c h. port_stands c p j.from h) cs j.source;
  destination = in_some (λ c. HasPort c q j.to) (λ c. StandsIn c q j.to) (λ c h. port_stands c q j.to h) cs j.destination;
  near = near_by cs j.from j.to j.near;
}

delivers_among : (t : Ties) (cs : List Config) (w : MachineState) → DeliversToThoseJoined t cs w → DeliversAmongRelated t cs w
delivers_among t cs w h p q services e = stood cs p.source q (h p q services e)

pub among_related : AtMomentsWithTies DeliversAmongRelated
among_related size positive x written es valid =
    let s = after_tied size (tied_start x) es in
    delivers_among s.ties (configs size (start x) (kept_events size (tied_start x) es)) s.network (isolated_with_ties size positive x written es valid)

-- ---- the first that breaks its tie
never : {A : Type 0} (x : A) → None ≡ Some x → ⊥
never x e = cc

if_some : {A : Type 0} (b : Bool) (x y : A) → cond b (Some x) None ≡ Some y → (b ≡ true) × (x ≡ y)
if_some true x y e = (refl, same_Some x y e)
if_some false x y e = absurd (never y e)

if_none : {A : Type 0} (b : Bool) (x : A) → cond b (Some x) None ≡ None → b ≡ false
if_none true x e = cc
if_none false x e = refl

not_moved : (b : Bool) → not b ≡ false → b ≡ true
not_moved true e = refl
not_moved false e = sym e

stays : (o r : Option InstanceId) (m n : InstanceId) → moved o r ≡ false → o ≡ Some m → r ≡ Some n → m ≡ n
stays o r m n h e f =
    let is : moved (Some m) (Some n) ≡ false = (λ k. moved (sym e k) (sym f k)) ∙ h in
    λ k. record { 0 = eqb-true m.0 n.0 (not_moved (m.0 == n.0) is) k }

was_moved : (o r : Option InstanceId) → moved o r ≡ true → (m : InstanceId) × (n : InstanceId) × (o ≡ Some m) × (r ≡ Some n) × (m ≢ n)
was_moved (Some m) (Some n) h = (m, n, refl, refl, λ e. true≢false (sym h ∙ ap not (eq-eqb m.0 n.0 (ap (λ (n : InstanceId). n.0) e))))
was_moved (Some m) None h = absurd (true≢false (sym h))
was_moved None r h = absurd (true≢false (sym h))

abbrev Pair : Type 0
Pair = InstanceId × InstanceId

same_pair : (m n : Pair) → ((m.0.0 == n.0.0) && (m.1.0 == n.1.0)) ≡ true → m ≡ n
same_pair m n e =
    let both = and_parts (m.0.0 == n.0.0) (m.1.0 == n.1.0) e in
    λ k. (record { 0 = eqb-true m.0.0 n.0.0 both.0 k }, record { 0 = eqb-true m.1.0 n.1.0 both.1 k })

pair_stays : (o r : Option Pair) (m n : Pair) → moved_pair o r ≡ false → o ≡ Some m → r ≡ Some n → m ≡ n
pair_stays o r m n h e f =
    let is : moved_pair (Some m) (Some n) ≡ false = (λ k. moved_pair (sym e k) (sym f k)) ∙ h in
    same_pair m n (not_moved ((m.0.0 == n.0.0) && (m.1.0 == n.1.0)) is)

pair_same : (m n : Pair) → m ≡ n → ((m.0.0 == n.0.0) && (m.1.0 == n.1.0)) ≡ true
pair_same m n e = and_from (m.0.0 == n.0.0) (m.1.0 == n.1.0) (eq-eqb m.0.0 n.0.0 (ap (λ (p : Pair). p.0.0) e)) (eq-eqb m.1.0 n.1.0 (ap (λ (p : Pair). p.1.0) e))

pair_was_moved : (o r : Option Pair) → moved_pair o r ≡ true → (m : Pair) × (n : Pair) × (o ≡ Some m) × (r ≡ Some n) × (m ≢ n)
pair_was_moved (Some m) (Some n) h = (m, n, refl, refl, λ e. true≢false (sym h ∙ ap not (pair_same m n e)))
pair_was_moved (Some m) None h = absurd (true≢false (sym h))
pair_was_moved None r h = absurd (true≢false (sym h))

-- ---- networks of names
module _ (c : Config) where
  abbrev IsOfName : List ℕ → InstanceId → Type 0
  IsOfName name n = (m : Network) × Contains c.networks m × (m.name ≡ name) × (m.id ≡ n)

  of_name : (name : List ℕ) (n : InstanceId) → network_id c name ≡ Some n → IsOfName name n
  of_name name n e = by_found (network_named c name) refl e
    where
      by_found : (o : Option Network) → network_named c name ≡ o → option_map (λ (m : Network). m.id) o ≡ Some n → IsOfName name n
      by_found None is h = absurd (never n h)
      by_found (Some m) is h =
          let f = found_is (λ (m : Network). same_name m.name name) c.networks m is in
          (m, f.1, (same_name_iff m.name name).0 f.0, same_Some m.id n h)

  abbrev IsNamed : End → InstanceId → Type 0
  IsNamed e n = (m : Network) × Contains c.networks m × (e ≡ Named m.name) × (m.id ≡ n)

  of_end : (e : End) (n : InstanceId) → end_id c e ≡ Some n → IsNamed e n
  of_end Any n h = absurd (never n h)
  of_end (Named name) n h = let m = of_name name n h in (m.0, m.1, ap Named (sym m.2), m.3)

abbrev two : InstanceId → InstanceId → Pair
two a b = (a, b)

of_pair : (a b : Option InstanceId) (pair : Pair) → pair_of a b ≡ Some pair → (a ≡ Some pair.0) × (b ≡ Some pair.1)
of_pair (Some a) (Some b) pair e =
    let is = same_Some (two a b) pair e in (ap (λ (p : Pair). Some p.0) is, ap (λ (p : Pair). Some p.1) is)
of_pair (Some a) None pair e = absurd (never pair e)
of_pair None b pair e = absurd (never pair e)

-- ---- compute nodes
same_address : (a b : Addr) → a.0 ≡ b.0 → a ≡ b
same_address a b e = λ k. record { 0 = e k }

address_stays : (o : Option Addr) (a b : Addr) → moved_address o b ≡ false → o ≡ Some a → a ≡ b
address_stays o a b h e =
    let is : moved_address (Some a) b ≡ false = (λ k. moved_address (sym e k) b) ∙ h in
    same_address a b (eqb-true a.0 b.0 (not_moved (a.0 == b.0) is))

address_was_moved : (o : Option Addr) (b : Addr) → moved_address o b ≡ true → (a : Addr) × (o ≡ Some a) × (a ≢ b)
address_was_moved (Some a) b h = (a, refl, λ e. true≢false (sym h ∙ ap not (eq-eqb a.0 b.0 (ap (λ (a : Addr). a.0) e))))
address_was_moved None b h = absurd (true≢false (sym h))

name_stays : (o : Option (List ℕ)) (m n : List ℕ) → renamed o n ≡ false → o ≡ Some m → m ≡ n
name_stays o m n h e =
    let is : renamed (Some m) n ≡ false = (λ k. renamed (sym e k) n) ∙ h in
    (same_name_iff m n).0 (not_moved (same_name m n) is)

was_renamed : (o : Option (List ℕ)) (n : List ℕ) → renamed o n ≡ true → (m : List ℕ) × (o ≡ Some m) × (m ≢ n)
was_renamed (Some m) n h = (m, refl, λ e. true≢false (sym h ∙ ap not ((same_name_iff m n).1 e)))
was_renamed None n h = absurd (true≢false (sym h))

neither : (a b : Bool) → (a || b) ≡ false → (a ≡ false) × (b ≡ false)
neither true b e = absurd (true≢false e)
neither false b e = (refl, e)

either : (a b : Bool) → (a || b) ≡ true → (a ≡ true) ⊎ (b ≡ true)
either true b e = inl refl
either false b e = inr e

module _ (t : Ties) (n : Node) where
  abbrev leaves : Bool
  leaves = moved_address (t.address n.name) n.address || renamed (t.name n.address) n.name

  node_leaves : (tie : Tie) → broken_node t n ≡ Some tie → LeavesItsAddress t n × (Tied.Node n.address ≡ tie)
  node_leaves tie e =
      let f = if_some leaves (Tied.Node n.address) tie e in (
        elim (either (moved_address (t.address n.name) n.address) (renamed (t.name n.address) n.name) f.0) as (λ _. LeavesItsAddress t n) [
          | inl moves ↦ inl (address_was_moved (t.address n.name) n.address moves)
          | inr renames ↦ inr (was_renamed (t.name n.address) n.name renames)
        ],
        f.1,
      )

  node_stays : broken_node t n ≡ None → ¬ LeavesItsAddress t n
  node_stays e b =
      let f = neither (moved_address (t.address n.name) n.address) (renamed (t.name n.address) n.name) (if_none leaves (Tied.Node n.address) e) in
      elim b as (λ _. ⊥) [
        | inl m ↦ m.2 (address_stays (t.address n.name) m.0 n.address f.0 m.1)
        | inr m ↦ m.2 (name_stays (t.name n.address) m.0 n.name f.1 m.1)
      ]

module _ (t : Ties) (x : Checked) (v : IsValid x.topology x.config) where
  abbrev c : Config
  c = x.config

  abbrev by_rule : NumberedRule → Option Tie
  by_rule r = broken_use t c r.rule r.rule.action

  abbrev of_ports : Option Tie
  of_ports = first_of (broken_port t c) c.ports

  abbrev of_uses : Option Tie
  of_uses = first_of by_rule (all_rules c)

  abbrev of_nodes : Option Tie
  of_nodes = first_of (broken_node t) x.topology.nodes

  -- ---- ports
  port_leaves : (p : Port) (tie : Tie) → broken_port t c p ≡ Some tie → LeavesItsNetwork t c p × (Tied.Port p.id ≡ tie)
  port_leaves p tie e =
      let f = if_some (moved (t.port p.id) (home_id c p)) (Tied.Port p.id) tie e in
      let w = was_moved (t.port p.id) (home_id c p) f.0 in
      let h = of_name c p.network w.1 w.3 in
      (record { tied = w.0; home = h.0; has_tie = w.2; has_home = h.1; home_of = sym h.2; differ = λ same. w.4 (same ∙ h.3) }, f.1)

  port_stays : (p : Port) → Contains c.ports p → broken_port t c p ≡ None → ¬ LeavesItsNetwork t c p
  port_stays p there e b =
      let h : HasPort c p.id b.home.id = record { port = p; home = b.home; has_port = there; has_home = b.has_home; home_of = b.home_of; number_is = refl; network_is = refl } in
      b.differ (stays (t.port p.id) (home_id c p) b.tied b.home.id (if_none (moved (t.port p.id) (home_id c p)) (Tied.Port p.id) e) b.has_tie (home_is x.topology c v p.id b.home.id h))

  -- ---- uses
  rule_leaves : (r : NumberedRule) (tie : Tie) (a : Action) → r.rule.action ≡ a → broken_use t c r.rule a ≡ Some tie
      → (b : LeavesItsNetworks t c r) × (Tied.ChainUse b.number ≡ tie)
  rule_leaves r tie Pass is e = absurd (never tie e)
  rule_leaves r tie Deny is e = absurd (never tie e)
  rule_leaves r tie (Through chain number) is e =
      let f = if_some (moved_pair (t.chain_use number) (ends_of c r.rule)) (Tied.ChainUse number) tie e in
      let w = pair_was_moved (t.chain_use number) (ends_of c r.rule) f.0 in
      let ends = of_pair (end_id c r.rule.source) (end_id c r.rule.destination) w.1 w.3 in
      let left = of_end c r.rule.source w.1.0 ends.0 in
      let right = of_end c r.rule.destination w.1.1 ends.1 in (
        record {
          number = number;
          leads = (chain, is);
          tied = w.0;
          left = left.0;
          right = right.0;
          has_tie = w.2;
          has_left = left.1;
          has_right = right.1;
          from = left.2;
          to = right.2;
          differ = λ same. w.4 (same ∙ (λ k. (left.3 k, right.3 k)));
        },
        f.1,
      )

  rule_stays : (r : NumberedRule) → Contains (all_rules c) r → by_rule r ≡ None → ¬ LeavesItsNetworks t c r
  rule_stays r there e b =
      let pair : Pair = (b.left.id, b.right.id) in
      let h : HasUse c b.number pair = record {
        rule = r;
        chain = b.leads.0;
        left = b.left;
        right = b.right;
        has_rule = there;
        has_left = b.has_left;
        has_right = b.has_right;
        leads = b.leads.1;
        from = b.from;
        to = b.to;
        left_is = refl;
        right_is = refl;
      } in
      let here : broken_use t c r.rule (Through b.leads.0 b.number) ≡ None = ap (broken_use t c r.rule) (sym b.leads.1) ∙ e in
      b.differ (pair_stays (t.chain_use b.number) (ends_of c r.rule) b.tied pair (if_none (moved_pair (t.chain_use b.number) (ends_of c r.rule)) (Tied.ChainUse b.number) here) b.has_tie (ends_are x.topology c v b.number pair h))

  -- ---- the first of each kind
  abbrev FirstPort : PortNo → Type 0
  FirstPort number = (p : Port) × (p.id ≡ number) × IsFirstToBreak (LeavesItsNetwork t c) c.ports p

  abbrev FirstUse : ℕ → Type 0
  FirstUse number = (r : NumberedRule) × LeadsBy number r × IsFirstToBreak (LeavesItsNetworks t c) (all_rules c) r

  abbrev FirstNode : Addr → Type 0
  FirstNode address = (n : Node) × (n.address ≡ address) × IsFirstToBreak (LeavesItsAddress t) x.topology.nodes n

  abbrev Named_first : Tie → Type 0
  Named_first (Tied.Port number) = FirstPort number
  Named_first (Tied.ChainUse number) = FirstUse number
  Named_first (Tied.Node address) = FirstNode address

  by_port : (tie : Tie) → of_ports ≡ Some tie → Named_first tie
  by_port tie e =
      let a = first_answer (broken_port t c) c.ports tie e in
      let b = port_leaves a.item tie a.gives in
      subst Named_first b.1 (
        a.item,
        refl,
        record {
          place = a.place;
          there = a.there;
          broken = b.0;
          none_before = λ k p lt at. port_stays p (contains_at c.ports k p at) (a.first k p lt at);
        },
      )

  by_use : (tie : Tie) → of_uses ≡ Some tie → Named_first tie
  by_use tie e =
      let a = first_answer by_rule (all_rules c) tie e in
      let b = rule_leaves a.item tie a.item.rule.action refl a.gives in
      subst Named_first b.1 (
        a.item,
        b.0.leads,
        record {
          place = a.place;
          there = a.there;
          broken = b.0;
          none_before = λ k r lt at. rule_stays r (contains_at (all_rules c) k r at) (a.first k r lt at);
        },
      )

  by_node : (tie : Tie) → of_nodes ≡ Some tie → Named_first tie
  by_node tie e =
      let a = first_answer (broken_node t) x.topology.nodes tie e in
      let b = node_leaves t a.item tie a.gives in
      subst Named_first b.1 (
        a.item,
        refl,
        record {
          place = a.place;
          there = a.there;
          broken = b.0;
          none_before = λ k n lt at. node_stays t n (a.first k n lt at);
        },
      )

  first_named : (tie : Tie) → broken_tie t x ≡ Some tie → Named_first tie
  first_named tie e = by_ports of_ports refl e
    where
      by_uses : (o : Option Tie) → of_uses ≡ o → (o <|> of_nodes) ≡ Some tie → Named_first tie
      by_uses (Some k) is e = by_use tie (is ∙ e)
      by_uses None is e = by_node tie e

      by_ports : (o : Option Tie) → of_ports ≡ o → (o <|> (of_uses <|> of_nodes)) ≡ Some tie → Named_first tie
      by_ports (Some k) is e = by_port tie (is ∙ e)
      by_ports None is e = by_uses of_uses refl e

pub first_port : (t : Ties) (x : Checked) (number : PortNo) → IsValid x.topology x.config → broken_tie t x ≡ Some (Tied.Port number) → (p : Port) × (p.id ≡ number) × IsFirstToBreak (LeavesItsNetwork t x.config) x.config.ports p
first_port t x number v e = first_named t x v (Tied.Port number) e

pub first_use : (t : Ties) (x : Checked) (number : ℕ) → IsValid x.topology x.config → broken_tie t x ≡ Some (Tied.ChainUse number) → (r : NumberedRule) × LeadsBy number r × IsFirstToBreak (LeavesItsNetworks t x.config) (all_rules x.config) r
first_use t x number v e = first_named t x v (Tied.ChainUse number) e

pub first_node : (t : Ties) (x : Checked) (address : Addr) → IsValid x.topology x.config → broken_tie t x ≡ Some (Tied.Node address) → (n : Node) × (n.address ≡ address) × IsFirstToBreak (LeavesItsAddress t) x.topology.nodes n
first_node t x address v e = first_named t x v (Tied.Node address) e
