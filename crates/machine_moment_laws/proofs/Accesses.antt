-- What the access lists of an agent let a packet do is what a configuration so far permits.
use Rattle.std.specs.List.{Contains, list_any}
use Rattle.std.specs.Ordering.{is_lt}
use Rattle.std.specs.Prelude.{Bool, IsTrue, List, Option, None, Some, cond, false, find, length, map, nat_le, option_map, reverse, true, ℕ, [], ◌&&◌, ◌==◌, ◌||◌, ◌∷◌, ◌≡◌, ◌≢◌, ◌⊎◌}
use Rattle.std.proofs.Common.{ap, inl, inr, refl, subst, sym, ◌∙◌}
use Rattle.std.proofs.lemmas.Bool.{and_parts, eq-eqb, eqb-true, true≢false}
use Rattle.std.proofs.lemmas.Option.{same_Some}
use Rattle.ov_types.specs.Access.{Access, access_by, access_towards, holds, lesser, verdict, verdict_by, verdict_in, verdict_of}
use Rattle.ov_types.specs.Prefix.{Block, block_cmp, contains}
use Rattle.ov_types.specs.declared.numbers.InstanceId.{InstanceId}
use Rattle.ov_types.specs.declared.numbers.ServiceNo.{ServiceNo}
use Rattle.ov_types.specs.declared.objects.AclRule.{AclRule}
use Rattle.ov_types.specs.declared.objects.LowKey.TheVariants as key
use Rattle.ov_types.specs.declared.objects.LowKey.{LowKey}
use Rattle.ov_types.specs.declared.objects.LowValue.TheVariants as low
use Rattle.ov_types.specs.declared.objects.LowValue.{LowValue}
use Rattle.ov_types.specs.declared.packet.Packet.{Packet}
use Rattle.ov_types.specs.declared.packet.Tuple.{Tuple}
use Rattle.ov_types.specs.declared.verdict.Verdict.TheVariants as Says
use Rattle.ov_types.specs.declared.verdict.Verdict.{Verdict}
use Rattle.ov_types.proofs.FirstLemmas.{any_of, contains_at}
use Rattle.route_targets.specs.Forwarding.{Forwarder}
use Rattle.route_targets.specs.Numbers.{hop_instance_of}
use Rattle.config_types.specs.declared.config.Action.TheVariants.{Deny, Pass, Through}
use Rattle.config_types.specs.declared.config.Action.{Action}
use Rattle.config_types.specs.declared.config.Config.{Config}
use Rattle.config_types.specs.declared.config.End.TheVariants.{Any as Anyone, Named}
use Rattle.config_types.specs.declared.config.End.{End}
use Rattle.config_types.specs.declared.config.Network.{Network}
use Rattle.reach_plain.specs.ChainExpand.Expansion.{expansion}
use Rattle.reach_plain.specs.PolicyRules.Matching.{deciding}
use Rattle.reach_plain.specs.PolicyRules.Related.{rules_between}
use Rattle.reach_plain.specs.PolicyRules.Standing.{IsBetween, IsEnd}
use Rattle.reach_plain.specs.PolicyRules.Taking.{IsDeciding, IsTaken}
use Rattle.reach_plain.specs.PolicyRules.Match.{Match}
use Rattle.reach_plain.specs.PolicyRules.NumberedRule.{NumberedRule}
use Rattle.reach_plain.proofs.PolicyRules.Deciders.{of_decider}
use Rattle.reach_plain.proofs.PolicyRules.Standing.{between_iff}
use Rattle.reach_plain.proofs.PolicyRules.Taking.{deciding_iff}
use Rattle.reach_plain.specs.Outcomes.{LeadsThrough}
use Rattle.schedule_script.specs.ConfigCheck.Sentences.{NamesEnds}
use Rattle.schedule_script.specs.Ties.{AreNear, Ties}
use Rattle.acl_compile.specs.Laws.{entry_by}
use Rattle.acl_compile.proofs.Deciding.{first_entry}
use Rattle.transform_model.specs.AclCompile.Oriented.{acl_rules, ascending, does, put_prefix}
use Rattle.transform_model.specs.IsUse.{IsUse}
use Rattle.transform_model.specs.Uses.{ConfiguredUse}
use Rattle.transform_model.proofs.Blocks.{Holds}
use Rattle.transform_model.proofs.OneFound.{of_any}
use Rattle.transform_model.proofs.Objects.{one_named}
use Rattle.node_laws.specs.NodeModel.Members.{Member}
use Rattle.node_laws.proofs.NodeModel.Members.{none_some}
use Rattle.machine_laws.specs.Stood.{ComeFrom, InSome}
use Rattle.machine_moment_laws.specs.Permission.{LayInAlone, Permits}
use Rattle.machine_moment_laws.proofs.AgentsStood.{ForwardsBySoFar}
use Rattle.machine_moment_laws.proofs.Context.{IsHeld, lies_in}
use Rattle.machine_moment_laws.proofs.SoFar.{IsAclOf, IsSoFar}

-- ---- access lists
-- an access list of a network, whose subnets hold the address
pub record IsMet (lists : List (LowKey × LowValue)) (network address : ℕ) (l : Access) : Type 0 where
  pub subnets : List Block
  pub there : Member (key.Acl network l.to, low.Acl subnets l.rules) lists
  pub held : list_any (λ p. contains p address) subnets ≡ true

abbrev IsEntry : LowKey × LowValue → LowKey × LowValue → Type 0
IsEntry d e = d ≡ e

met_by : (network address : ℕ) (k : LowKey) (v : LowValue) (l : Access) → access_by network address k v ≡ Some l
    → (subnets : List Block) × IsEntry (k, v) (key.Acl network l.to, low.Acl subnets l.rules) × (list_any (λ p. contains p address) subnets ≡ true)
met_by network address (key.Acl from to) (low.Acl subnets rules) l e =
    elim ((from == network) && list_any (λ p. contains p address) subnets) as (λ b. ((from == network) && list_any (λ p. contains p address) subnets) ≡ b → cond b (Some (record { to = to; rules = rules })) None ≡ Some l
    → (ss : List Block) × IsEntry (key.Acl from to, low.Acl subnets rules) (key.Acl network l.to, low.Acl ss l.rules) × (list_any (λ p. contains p address) ss ≡ true)) [
      | true ↦ λ is e.
          let same = same_Some (record { to = to; rules = rules }) l e in
          let tests = and_parts (from == network) (list_any (λ p. contains p address) subnets) is in
          (subnets, (λ k. (key.Acl (eqb-true from network tests.0 k) (same k).to, low.Acl subnets (same k).rules)), tests.1)
      | false ↦ λ is e. absurd (none_some l e)
    ] refl e
met_by network address (key.Acl from to) (low.Instance is) l e = absurd (none_some l e)
met_by network address (key.Acl from to) (low.AttachPort p i x n) l e = absurd (none_some l e)
met_by network address (key.Acl from to) (low.AttachCircuit c s n) l e = absurd (none_some l e)
met_by network address (key.Acl from to) (low.ChainUse a b c d f) l e = absurd (none_some l e)
met_by network address (key.Attach n) v l e = absurd (none_some l e)
met_by network address (key.Instance n) v l e = absurd (none_some l e)
met_by network address (key.ChainUse u) v l e = absurd (none_some l e)

either_less : (a b : Option Access) (l : Access) → lesser a b ≡ Some l → (a ≡ Some l) ⊎ (b ≡ Some l)
either_less None b l e = inr e
either_less (Some a) None l e = inl e
either_less (Some a) (Some b) l e = elim (nat_le a.to b.to) as (λ c. cond c (Some a) (Some b) ≡ Some l → (Some a ≡ Some l) ⊎ (Some b ≡ Some l)) [ true ↦ λ e. inl e | false ↦ λ e. inr e ] e

met : (network address : ℕ) (os : List (LowKey × LowValue)) (l : Access) → access_towards network address os ≡ Some l → IsMet os network address l
met network address [] l e = absurd (none_some l e)
met network address (o ∷ os) l e =
    elim (either_less (access_by network address o.0 o.1) (access_towards network address os) l e) as (λ _. IsMet (o ∷ os) network address l) [
      | inl h ↦ let q = met_by network address o.0 o.1 l h in record { subnets = q.0; there = inl q.1; held = q.2 }
      | inr h ↦ let q = met network address os l h in record { subnets = q.subnets; there = inr q.there; held = q.held }
    ]

-- the order of subnets is no matter
any_put : (p : Block → Bool) (x : Block) (xs : List Block) → list_any p (put_prefix x xs) ≡ (p x || list_any p xs)
any_put p x [] = refl
any_put p x (y ∷ ys) =
    elim (is_lt (block_cmp y x)) as (λ b. list_any p (cond b (y ∷ put_prefix x ys) (x ∷ y ∷ ys)) ≡ (p x || (p y || list_any p ys))) [
      | true ↦ ap (λ b. p y || b) (any_put p x ys) ∙ swapped (p y) (p x) (list_any p ys)
      | false ↦ refl
    ]
  where
    swapped : (a b c : Bool) → (a || (b || c)) ≡ (b || (a || c))
    swapped true true c = refl
    swapped true false c = refl
    swapped false b c = refl

any_ascending : (p : Block → Bool) (xs : List Block) → list_any p (ascending xs) ≡ list_any p xs
any_ascending p [] = refl
any_ascending p (x ∷ xs) = any_put p x (ascending xs) ∙ ap (λ b. p x || b) (any_ascending p xs)

-- ---- entries
verdict_of_entry : (c : Config) (m : Match) → verdict_of (entry_by c m).action (entry_by c m).rule ≡ verdict_of (does c m.mirrored m.rule.rule.action) m.rule.number
verdict_of_entry c m = by_way m.mirrored
  where
    by_way : (mirrored : Bool) → verdict_of (entry_by c (record m { mirrored = mirrored })).action (entry_by c (record m { mirrored = mirrored })).rule
        ≡ verdict_of (does c mirrored m.rule.rule.action) m.rule.number
    by_way false = refl
    by_way true = refl

named_end : (e : End) (n : Network) → e ≢ Anyone → IsEnd e n → e ≡ Named n.name
named_end Anyone n h is = absurd (h refl)
named_end (Named name) n h is = ap Named is

module _ (t : Ties) (cs : List Config) (from to : InstanceId) (tuple : Tuple) where
  -- ---- what lets a packet on
  abbrev pub numbers_of : ConfiguredUse → List ServiceNo
  numbers_of u = map (λ s. s.id) u.services

  -- it enters a use at its left end, and a configuration so far permits that by the services in order
  pub record EntersLeft (i : InstanceId) : Type 0 where
    pub config : Config
    pub so_far : IsSoFar t cs config
    pub in_effect : ConfiguredUse
    pub is_use : IsUse config in_effect
    pub left_is : in_effect.left.id ≡ from
    pub right_is : in_effect.right.id ≡ to
    pub instance : i ≡ hop_instance_of in_effect.number 0
    pub permits : Permits config from to tuple (numbers_of in_effect)

  -- or at its right end, by the services reversed
  pub record EntersRight (i : InstanceId) : Type 0 where
    pub config : Config
    pub so_far : IsSoFar t cs config
    pub in_effect : ConfiguredUse
    pub is_use : IsUse config in_effect
    pub left_is : in_effect.left.id ≡ to
    pub right_is : in_effect.right.id ≡ from
    pub instance : i ≡ hop_instance_of in_effect.number (length in_effect.services)
    pub permits : Permits config from to tuple (reverse (numbers_of in_effect))

  abbrev pub IsAdmitted : Verdict → Type 0
  IsAdmitted Says.Pass = (from ≡ to) ⊎ ((from ≢ to) × InSome cs (λ c. Permits c from to tuple []))
  IsAdmitted (Says.Enter i) = (from ≢ to) × (EntersLeft i ⊎ EntersRight i)
  IsAdmitted (Says.Denied r) = Unit {0}
  IsAdmitted Says.NoDestination = Unit {0}

  -- ---- by the rule that decides
  module _ (c : Config) (so_far : IsSoFar t cs c) (own target : Network) (has_own : Contains c.networks own) (has_target : Contains c.networks target) (own_is : own.id ≡ from) (target_is : target.id ≡ to) (apart : from ≢ to) (m : Match) (decides : deciding c own target tuple ≡ Some m) where
    is_deciding : IsDeciding c own target tuple m
    is_deciding = (deciding_iff c own target tuple m).0 decides

    between : IsBetween c own target m.rule
    between = (between_iff c own target m.rule).0 (contains_at (rules_between c own target) is_deciding.place m.rule is_deciding.stands)

    ends : NamesEnds m.rule.rule
    ends = of_decider (λ (r : NumberedRule). NamesEnds r.rule) c own target tuple m so_far.valid.ends decides

    rule_stands : Contains between.policy.rules m.rule.rule
    rule_stands = contains_at between.policy.rules between.place m.rule.rule between.stands

    let_by : (mirrored : Bool) (action : Action) (services : List ServiceNo) → m.mirrored ≡ mirrored → m.rule.rule.action ≡ action → LeadsThrough c mirrored action services → Permits c from to tuple services
    let_by mirrored action services way acts leads = record {
      own = own;
      target = target;
      has_own = has_own;
      has_target = has_target;
      own_is = own_is;
      target_is = target_is;
      lets = record {
        decider = m;
        decides = is_deciding;
        leads = subst (λ (b : Bool). LeadsThrough c b m.rule.rule.action services) (sym way) (subst (λ (a : Action). LeadsThrough c mirrored a services) (sym acts) leads);
      };
    }

    by_action : (mirrored : Bool) (action : Action) → m.mirrored ≡ mirrored → m.rule.rule.action ≡ action → IsAdmitted (verdict_of (does c mirrored action) m.rule.number)
    by_action mirrored Pass way acts = inr (apart, (c, so_far.among, let_by mirrored Pass [] way acts refl))
    by_action mirrored Deny way acts = tt
    by_action false (Through chain number) way acts =
        let named = ends chain number acts in
        let taken = subst (IsTaken own target tuple m.rule.rule) way is_deciding.taken in
        let u : ConfiguredUse = record { number = number; left = own; right = target; services = expansion c chain } in (
          apart,
          inl (record {
            config = c;
            so_far = so_far;
            in_effect = u;
            is_use = record {
              policy = between.policy;
              rule = m.rule.rule;
              chain = chain;
              has_policy = between.configured;
              has_rule = rule_stands;
              leads = acts;
              from = named_end m.rule.rule.source own named.0 taken.source;
              to = named_end m.rule.rule.destination target named.1 taken.destination;
              has_left = has_own;
              has_right = has_target;
              left_attaches = between.first_attaches;
              right_attaches = between.second_attaches;
              services = refl;
            };
            left_is = own_is;
            right_is = target_is;
            instance = refl;
            permits = let_by false (Through chain number) (numbers_of u) way acts refl;
          }),
        )
    by_action true (Through chain number) way acts =
        let named = ends chain number acts in
        let taken = subst (IsTaken own target tuple m.rule.rule) way is_deciding.taken in
        let u : ConfiguredUse = record { number = number; left = target; right = own; services = expansion c chain } in (
          apart,
          inr (record {
            config = c;
            so_far = so_far;
            in_effect = u;
            is_use = record {
              policy = between.policy;
              rule = m.rule.rule;
              chain = chain;
              has_policy = between.configured;
              has_rule = rule_stands;
              leads = acts;
              from = named_end m.rule.rule.source target named.0 taken.0.source;
              to = named_end m.rule.rule.destination own named.1 taken.0.destination;
              has_left = has_target;
              has_right = has_own;
              left_attaches = between.second_attaches;
              right_attaches = between.first_attaches;
              services = refl;
            };
            left_is = target_is;
            right_is = own_is;
            instance = refl;
            permits = let_by true (Through chain number) (reverse (numbers_of u)) way acts refl;
          }),
        )

    by_match : IsAdmitted (verdict_of (entry_by c m).action (entry_by c m).rule)
    by_match = subst IsAdmitted (sym (verdict_of_entry c m)) (by_action m.mirrored m.rule.rule.action refl refl)

  module _ (c : Config) (so_far : IsSoFar t cs c) (own target : Network) (has_own : Contains c.networks own) (has_target : Contains c.networks target) (own_is : own.id ≡ from) (target_is : target.id ≡ to) (apart : from ≢ to) where
    names_differ : own.name ≢ target.name
    names_differ e = apart (sym own_is ∙ ap (λ (n : Network). n.id) (one_named so_far.topology c own target so_far.valid has_own has_target e) ∙ target_is)

    by_rules : IsAdmitted (verdict_by (find (λ (r : AclRule). holds r tuple) (acl_rules c own target)))
    by_rules = subst (λ (o : Option AclRule). IsAdmitted (verdict_by o)) (sym (first_entry c own target tuple names_differ)) (by_decider (deciding c own target tuple) refl)
      where
        by_decider : (o : Option Match) → deciding c own target tuple ≡ o → IsAdmitted (verdict_by (option_map (entry_by c) o))
        by_decider None e = tt
        by_decider (Some m) e = by_match c so_far own target has_own has_target own_is target_is apart m e

-- what the verdict lets a packet do, and that a network so far holds its address, unless there is no destination
pub record IsJudged (t : Ties) (cs : List Config) (p : Packet) (from to : InstanceId) (v : Verdict) : Type 0 where
  pub admitted : IsAdmitted t cs from to p.tuple v
  pub holder : (v ≡ Says.NoDestination) ⊎ IsHeld t cs p.destination.0

-- ---- an agent's access lists
module _ (t : Ties) (cs : List Config) (come : ComeFrom t cs) (p : Packet) (from to : InstanceId) (alone : LayInAlone cs from to p.destination) (f : Forwarder) (by : ForwardsBySoFar t cs f) where
  module _ (l : Access) (is : IsMet f.rows.acls from.0 p.destination.0 l) where
    acl : IsAclOf t cs from.0 l.to is.subnets l.rules
    acl = by.acls (key.Acl from.0 l.to) (low.Acl is.subnets l.rules) is.there

    leaves_from : acl.leaves.id ≡ from
    leaves_from = λ k. record { 0 = acl.from_is k }

    near : AreNear t from acl.enters.id
    near = elim acl.related as (λ _. AreNear t from acl.enters.id) [
      | inl same ↦ inl (sym leaves_from ∙ ap (λ (n : Network). n.id) same)
      | inr r ↦ inr (subst (λ (n : InstanceId). IsTrue (t.was_related n acl.enters.id)) leaves_from
          (acl.so_far.as_tied.related acl.leaves.id acl.enters.id (record { first = acl.leaves; second = acl.enters; has_first = acl.has_leaves; has_second = acl.has_enters; related = r; first_is = refl; second_is = refl })))
    ]

    enters_holds : Holds acl.enters p.destination.0
    enters_holds =
        let test : Block → Bool = λ b. contains b p.destination.0 in
        let some = of_any test acl.enters.subnets (sym (any_ascending test acl.enters.subnets) ∙ ap (list_any test) (sym acl.subnets_are) ∙ is.held) in
        any_of (λ b. contains b p.destination.0 ≡ true) acl.enters.subnets some.0 some.1 some.2

    held : IsHeld t cs p.destination.0
    held = record { config = acl.config; so_far = acl.so_far; network = acl.enters; has_network = acl.has_enters; holds_it = enters_holds }

    enters_to : acl.enters.id ≡ to
    enters_to = lies_in t cs come from to p.destination alone acl.config acl.so_far acl.enters acl.has_enters near enters_holds

    by_list : IsAdmitted t cs from to p.tuple (verdict_in from.0 p.tuple (Some l))
    by_list =
        elim (l.to == from.0) as (λ b. (l.to == from.0) ≡ b → IsAdmitted t cs from to p.tuple (cond b Says.Pass (verdict_by (find (λ (r : AclRule). holds r p.tuple) l.rules)))) [
          | true ↦ λ e. inl (sym (λ k. record { 0 = (acl.to_is ∙ eqb-true l.to from.0 e) k }) ∙ enters_to)
          | false ↦ λ e.
              let apart : from ≢ to = λ same. true≢false (sym (eq-eqb l.to from.0 (sym acl.to_is ∙ ap (λ (n : InstanceId). n.0) (enters_to ∙ sym same))) ∙ e) in
              subst (λ (rs : List AclRule). IsAdmitted t cs from to p.tuple (verdict_by (find (λ (r : AclRule). holds r p.tuple) rs))) (sym acl.rules_are)
              (by_rules t cs from to p.tuple acl.config acl.so_far acl.leaves acl.enters acl.has_leaves acl.has_enters leaves_from enters_to apart)
        ] refl

  pub judged : IsJudged t cs p from to (verdict f.rows.acls from.0 p)
  unfolding verdict
  judged = by_access (access_towards from.0 p.destination.0 f.rows.acls) refl
    where
      by_access : (o : Option Access) → access_towards from.0 p.destination.0 f.rows.acls ≡ o → IsJudged t cs p from to (verdict_in from.0 p.tuple o)
      by_access None e = record { admitted = tt; holder = inl refl }
      by_access (Some l) e = let is = met from.0 p.destination.0 f.rows.acls l e in record { admitted = by_list l is; holder = inr (held l is) }
