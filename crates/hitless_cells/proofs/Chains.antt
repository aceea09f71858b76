-- The chain of a use is that of its rule, and its services stand at the compute nodes of a track.
use Rattle.std.proofs.Common.{◌≡◌, ◌≢◌, ◌⊎◌, inl, inr, ◌+◌, ℕ, ◌&&◌, eqb, Bool, true, false, cond, List, [], ◌∷◌, ◌++◌, Option, Some, None, map, flat_map, refl, sym, ap, ◌∙◌, arith}
use Rattle.std.specs.List.{AllZip, Contains}
use Rattle.std.specs.Option.{option_map_or}
use Rattle.std.proofs.lemmas.Bool.{and_parts, eqb-true}
use Rattle.std.proofs.lemmas.List.Elements.{All-contains}
use Rattle.ov_types.specs.First.{first_of}
use Rattle.ov_types.specs.declared.numbers.ServiceNo.{ServiceNo}
use Rattle.ov_types.proofs.FirstLemmas.{contains_at, contains_here, contains_later, first_of_none, pairs_head, pairs_tail, contains_cases}
use Rattle.config_types.specs.declared.config.Action.{Action}
use Rattle.config_types.specs.declared.config.Action.TheVariants as Does
use Rattle.config_types.specs.declared.config.Config.{Config}
use Rattle.config_types.specs.declared.config.Direction.{Direction}
use Rattle.config_types.specs.declared.config.Direction.TheVariants.{OneWay, BothWays}
use Rattle.config_types.specs.declared.config.Network.{Network}
use Rattle.config_types.specs.declared.config.Policy.{Policy}
use Rattle.config_types.specs.declared.config.Rule.{Rule}
use Rattle.config_types.specs.declared.config.Service.{Service}
use Rattle.config_types.specs.declared.topology.Node.{Node}
use Rattle.config_types.specs.declared.topology.Topology.{Topology}
use Rattle.chain_expand.specs.Expansion.{expansion}
use Rattle.policy_rules.specs.Matching.{speaks_both_ways}
use Rattle.policy_rules.specs.Related.{attaches, fits}
use Rattle.policy_rules.specs.Standing.{Fits, IsBetween}
use Rattle.policy_rules.specs.declared.numbered.NumberedRule.{NumberedRule}
use Rattle.policy_rules.proofs.Lists.{is_mapped, mapped_is}
use Rattle.policy_rules.proofs.Standing.{attaches_iff, fits_iff}
use Rattle.policy_rules.proofs.Taking.{first_answer}
use Rattle.config_check.specs.Checked.{Checked}
use Rattle.config_check.specs.Finding.{node_named}
use Rattle.config_check.specs.Rules.{node_names}
use Rattle.config_check.specs.Sentences.{AreDistinct, IsValid}
use Rattle.config_check.proofs.Finders.{finds_node_named}
use Rattle.reach_plain.proofs.Found.{finds}
use Rattle.hitless_cells.specs.Ways.{IsNodeNamed, IsStop, SpeaksOf}
use Rattle.hitless_cells.proofs.Expanding.{stand}
use Rattle.hitless_cells.proofs.OneRule.{one_chain}
use Rattle.hitless_cells.specs.Openings.{chain_in_policy, chain_in_rule, chain_of_use, service_node, service_numbered, speaks_of, stops_at, stops_of, used_chain}
use Rattle.hitless_cells.specs.declared.stops.Stop.{Stop}
use Rattle.hitless_cells.proofs.Sameness.{both_true, same_number}

-- what a choice gives

chosen : {A : Type 0} (b : Bool) (o : Option A) (y : A) → cond b o None ≡ Some y → (b ≡ true) × (o ≡ Some y)
chosen true o y h = (refl, h)
chosen false o y h = absurd cc

chooses : {A : Type 0} (b : Bool) (o : Option A) (y : A) → b ≡ true → o ≡ Some y → cond b o None ≡ Some y
chooses true o y h k = k
chooses false o y h k = absurd cc

none_chosen : {A : Type 0} (b : Bool) (o : Option A) → cond b o None ≡ None → b ≡ true → o ≡ None
none_chosen true o h k = h
none_chosen false o h k = absurd cc

-- rules of a use

led : (use_no : ℕ) (a : Action) (chain : List ℕ) → chain_of_use use_no a ≡ Some chain → a ≡ Does.Through chain use_no
led use_no Does.Pass chain h = absurd cc
led use_no Does.Deny chain h = absurd cc
led use_no (Does.Through other number) chain h =
    let c = chosen (eqb number use_no) (Some other) chain h in
    let is : number ≡ use_no = eqb-true number use_no c.0 in
    let same : Some other ≡ Some chain = c.1 in
    let one : other ≡ chain = cc in
    λ i. Does.Through (one i) (is i)

leads_so : (use_no : ℕ) (a : Action) (chain : List ℕ) → a ≡ Does.Through chain use_no → chain_of_use use_no a ≡ Some chain
leads_so use_no a chain h =
    ap (chain_of_use use_no) h ∙ ap (λ (b : Bool). cond b (Some chain) None) (same_number use_no)

both_ways : (d : Direction) → speaks_both_ways d ≡ true → d ≡ BothWays
both_ways OneWay h = absurd cc
both_ways BothWays h = refl

speaks_is : (a b : Network) (r : Rule) (mirrored : Bool) → speaks_of a b r mirrored ≡ true → SpeaksOf a b r mirrored
speaks_is a b r false h = (fits_iff r a b).0 h
speaks_is a b r true h =
    let parts = and_parts (speaks_both_ways r.direction) (fits r b a) h in
    (both_ways r.direction parts.0, (fits_iff r b a).0 parts.1)

is_spoken : (a b : Network) (r : Rule) (mirrored : Bool) → SpeaksOf a b r mirrored → speaks_of a b r mirrored ≡ true
is_spoken a b r false h = (fits_iff r a b).1 h
is_spoken a b r true h = both_true (speaks_both_ways r.direction) (fits r b a) (ap speaks_both_ways h.0) ((fits_iff r b a).1 h.1)

fitting : (a b : Network) (r : Rule) (mirrored : Bool) → SpeaksOf a b r mirrored → Fits r a b ⊎ Fits r b a
fitting a b r false h = inl h
fitting a b r true h = inr h.1

-- the rule of a use that leads from one network into another
pub record IsUsed (c : Config) (a b : Network) (use_no : ℕ) (mirrored : Bool) (chain : List ℕ) : Type 0 where
  pub rule : NumberedRule
  pub stands : IsBetween c a b rule
  pub leads : rule.rule.action ≡ Does.Through chain use_no
  pub speaks : SpeaksOf a b rule.rule mirrored

module _ (c : Config) (a b : Network) (use_no : ℕ) (mirrored : Bool) where
  pub used_by : (chain : List ℕ) → used_chain c a b use_no mirrored ≡ Some chain → IsUsed c a b use_no mirrored chain
  used_by chain h =
      let first = first_answer (chain_in_policy a b use_no mirrored) c.policies chain h in
      let p : Policy = first.item in
      let policy = chosen (attaches a p && attaches b p) (first_of (chain_in_rule a b use_no mirrored) p.rules) chain first.gives in
      let both = and_parts (attaches a p) (attaches b p) policy.0 in
      let second = first_answer (chain_in_rule a b use_no mirrored) p.rules chain policy.1 in
      let r : Rule = second.item in
      let rule = chosen (speaks_of a b r mirrored) (chain_of_use use_no r.action) chain second.gives in
      let speaks = speaks_is a b r mirrored rule.0 in
      record {
        rule = record { number = record { sequence = p.sequence; position = second.place + 1 }; rule = r };
        stands = record {
          policy = p;
          place = second.place;
          configured = contains_at c.policies first.place p first.there;
          first_attaches = (attaches_iff a p).0 both.0;
          second_attaches = (attaches_iff b p).0 both.1;
          stands = second.there;
          sequence = refl;
          position = refl;
          fits = fitting a b r mirrored speaks;
        };
        leads = led use_no r.action chain rule.1;
        speaks = speaks;
      }

  not_none : (chain : List ℕ) → IsUsed c a b use_no mirrored chain → used_chain c a b use_no mirrored ≢ None
  not_none chain u h =
      let s = u.stands in
      let p : Policy = s.policy in
      let both : (attaches a p && attaches b p) ≡ true = both_true (attaches a p) (attaches b p) ((attaches_iff a p).1 s.first_attaches) ((attaches_iff b p).1 s.second_attaches) in
      let none : chain_in_policy a b use_no mirrored p ≡ None =
      All-contains (λ (q : Policy). chain_in_policy a b use_no mirrored q ≡ None) c.policies p ((first_of_none (chain_in_policy a b use_no mirrored) c.policies).0 h) s.configured in
      let rules : first_of (chain_in_rule a b use_no mirrored) p.rules ≡ None =
      none_chosen (attaches a p && attaches b p) (first_of (chain_in_rule a b use_no mirrored) p.rules) none both in
      let no_rule : chain_in_rule a b use_no mirrored u.rule.rule ≡ None =
      All-contains (λ (r : Rule). chain_in_rule a b use_no mirrored r ≡ None) p.rules u.rule.rule ((first_of_none (chain_in_rule a b use_no mirrored) p.rules).0 rules)
      (contains_at p.rules s.place u.rule.rule s.stands) in
      let some : chain_in_rule a b use_no mirrored u.rule.rule ≡ Some chain =
      chooses (speaks_of a b u.rule.rule mirrored) (chain_of_use use_no u.rule.rule.action) chain (is_spoken a b u.rule.rule mirrored u.speaks) (leads_so use_no u.rule.rule.action chain u.leads) in
      let never : None ≡ Some chain = sym no_rule ∙ some in
      absurd cc

  pub is_used : (t : Topology) → IsValid t c → (chain : List ℕ) → IsUsed c a b use_no mirrored chain → used_chain c a b use_no mirrored ≡ Some chain
  is_used t v chain u =
      elim (used_chain c a b use_no mirrored) as (λ o. used_chain c a b use_no mirrored ≡ o → o ≡ Some chain) [
        | None ↦ λ e. absurd (not_none chain u e)
        | Some other ↦ λ e.
            let k = used_by other e in
            ap Some (one_chain t c v a b k.rule u.rule other chain use_no k.stands u.stands k.leads u.leads)
      ] refl

-- services with their compute nodes

abbrev pub stop_from : ServiceNo × Node → Stop
stop_from k = record { service = k.0; node = k.1 }

pub stops_apart : (ks ls : List (ServiceNo × Node)) → map stop_from ks ≡ map stop_from ls → ks ≡ ls
stops_apart [] [] h = refl
stops_apart [] (l ∷ ls) h = absurd cc
stops_apart (k ∷ ks) [] h = absurd cc
stops_apart (k ∷ ks) (l ∷ ls) h =
    let first : stop_from k ≡ stop_from l = cc in
    let more : map stop_from ks ≡ map stop_from ls = cc in
    let rest : ks ≡ ls = stops_apart ks ls more in
    λ i. ((first i).service, (first i).node) ∷ rest i

-- an item of distinct keys is found by its key
one_number : {A : Type 0} (f : A → ℕ) (xs : List A) → AreDistinct (map f xs) → (x y : A) → Contains xs x → Contains xs y → f x ≡ f y → x ≡ y
one_number f [] h x y in_x in_y same = absurd (omega (arith, in_x.1))
one_number {A} f (z ∷ zs) h x y in_x in_y same =
    elim (contains_cases z zs x in_x) [
      | inl first ↦ elim (contains_cases z zs y in_y) [
        | inl second ↦ sym first ∙ second
        | inr later ↦ absurd (away y later (ap f first ∙ same))
      ]
      | inr later ↦ elim (contains_cases z zs y in_y) [
        | inl second ↦ absurd (away x later (ap f second ∙ sym same))
        | inr other ↦ one_number f zs (pairs_tail (λ a b. a ≢ b) (f z) (map f zs) h) x y later other same
      ]
    ]
  where
    away : (y : A) → Contains zs y → f z ≢ f y
    away y at = All-contains (λ n. f z ≢ n) (map f zs) (f y) (pairs_head (λ a b. a ≢ b) (f z) (map f zs) h) (is_mapped f zs y at)

module _ (x : Checked) (v : IsValid x.topology x.config) where
  abbrev c : Config
  c = x.config

  service_found : (s : Service) → Contains c.services s → service_numbered c s.id.0 ≡ Some s
  service_found s at =
      finds (λ (u : Service). eqb u.id.0 s.id.0) c.services s at (same_number s.id.0)
      (λ u in_u passes. one_number (λ (u : Service). u.id.0) c.services v.numbers.services u s in_u at (eqb-true u.id.0 s.id.0 passes))

  pub node_found : (name : List ℕ) (n : Node) → IsNodeNamed x.topology name n → node_named x.topology name ≡ Some n
  node_found name n h = ((finds_node_named x.topology c name v).some n).1 (h.stands, h.named)

  pub node_is_found : (name : List ℕ) (n : Node) → node_named x.topology name ≡ Some n → IsNodeNamed x.topology name n
  node_is_found name n h = let f = ((finds_node_named x.topology c name v).some n).0 h in record { stands = f.0; named = f.1 }

  stop_is : (s : Service) (k : ServiceNo × Node) → Contains c.services s → IsStop x.topology s k → stops_at x s.id ≡ stop_from k ∷ []
  stop_is s k at h =
      let gives : Node → List Stop = λ n. record { service = s.id; node = n } ∷ [] in
      let node : service_node x s.id ≡ Some k.1 =
      ap (λ (o : Option Service). option_map_or (λ (u : Service). node_named x.topology u.node) o None) (service_found s at)
      ∙ node_found s.node k.1 h.node in
      ap (λ (o : Option Node). option_map_or gives o []) node ∙ ap (λ (n : ServiceNo). record { service = n; node = k.1 } ∷ []) h.number

  each_stop : (ss : List Service) (ks : List (ServiceNo × Node)) → ((s : Service) → Contains ss s → Contains c.services s)
      → AllZip (IsStop x.topology) ss ks → flat_map (stops_at x) (map (λ s. s.id) ss) ≡ map stop_from ks
  each_stop [] [] inside h = refl
  each_stop [] (k ∷ ks) inside h = absurd h
  each_stop (s ∷ ss) [] inside h = absurd h
  each_stop (s ∷ ss) (k ∷ ks) inside h =
      let here : stops_at x s.id ≡ stop_from k ∷ [] = stop_is s k (inside s (contains_here s ss)) h.0 in
      let rest : flat_map (stops_at x) (map (λ s. s.id) ss) ≡ map stop_from ks = each_stop ss ks (λ u at. inside u (contains_later u s ss at)) h.1 in
      λ i. here i ++ rest i

  pub stops_found : (chain : List ℕ) (ks : List (ServiceNo × Node)) → AllZip (IsStop x.topology) (expansion c chain) ks → stops_of x chain ≡ map stop_from ks
  stops_found chain ks h = each_stop (expansion c chain) ks (stand x.topology c v chain) h

  pub node_of : (name : List ℕ) → Contains (node_names x.topology) name → (n : Node) × IsNodeNamed x.topology name n
  node_of name h = let n = mapped_is (λ (n : Node). n.name) x.topology.nodes name h in (n.0, record { stands = n.1; named = n.2 })

  some_stops : (ss : List Service) → ((s : Service) → Contains ss s → Contains c.services s) → (ks : List (ServiceNo × Node)) × AllZip (IsStop x.topology) ss ks
  some_stops [] inside = ([], tt)
  some_stops (s ∷ ss) inside =
      let n = node_of s.node (All-contains (λ (u : Service). Contains (node_names x.topology) u.node) c.services s v.references.services (inside s (contains_here s ss))) in
      let more = some_stops ss (λ u at. inside u (contains_later u s ss at)) in
      ((s.id, n.0) ∷ more.0, (record { number = refl; node = n.1 }, more.1))

  pub chain_stops : (chain : List ℕ) → (ks : List (ServiceNo × Node)) × AllZip (IsStop x.topology) (expansion c chain) ks
  chain_stops chain = some_stops (expansion c chain) (stand x.topology c v chain)
