-- The first entry that holds a packet is that of the rule that decides on it.
use Rattle.std.proofs.Common.{◌≡◌, ◌≢◌, ◌↔◌, ℕ, ◌+◌, ◌*◌, ◌/◌, ◌-◌, ◌&&◌, Bool, true, false, cond, List, [], ◌∷◌, ◌++◌, find, flat_map, length, Option, Some, None, option_map, refl, sym, ap, ◌∙◌, subst, arith}
use Rattle.ov_types.specs.Access.{in_range, is_of_protocol, holds}
use Rattle.ov_types.specs.First.{◌<|>◌, first_of, same_name}
use Rattle.ov_types.proofs.FirstLemmas.{same_name_iff}
use Rattle.ov_types.specs.declared.objects.AclAction.{AclAction}
use Rattle.ov_types.specs.declared.objects.AclAction.TheVariants as Does
use Rattle.ov_types.specs.declared.objects.AclRule.{AclRule}
use Rattle.ov_types.specs.declared.packet.RuleNo.{RuleNo}
use Rattle.ov_types.specs.declared.packet.Tuple.{Tuple}
use Rattle.config_types.specs.declared.config.Action.{Action}
use Rattle.config_types.specs.declared.config.Action.TheVariants.{Pass, Deny, Through}
use Rattle.config_types.specs.declared.config.Config.{Config}
use Rattle.config_types.specs.declared.config.Network.{Network}
use Rattle.config_types.specs.declared.config.Protocol.{Protocol}
use Rattle.config_types.specs.declared.config.Protocol.TheVariants.{Any, Number}
use Rattle.chain_expand.specs.Expansion.{expansion}
use Rattle.policy_rules.specs.declared.matching.Match.{Match}
use Rattle.policy_rules.specs.declared.matching.Decision.{Decision}
use Rattle.policy_rules.specs.declared.numbered.NumberedRule.{NumberedRule}
use Rattle.policy_rules.specs.Related.{fits, rules_between}
use Rattle.policy_rules.specs.Matching.{has_protocol, speaks_both_ways, matches_forwards, matches_mirrored, match_by, deciding, decision_by, decision}
use Rattle.acl_compile.specs.Laws.{deciding_entry, entry_by, IsActionOf}
use Rattle.acl_compile.specs.Oriented.{protocol_of, does, forward_entry, mirrored_entry, forwards, backwards, entries_of, oriented, acl_rules}

-- the first item that passes, list by list

find_append : {A : Type 0} (p : A → Bool) (xs ys : List A) → find p (xs ++ ys) ≡ (find p xs <|> find p ys)
find_append p [] ys = refl
find_append p (x ∷ xs) ys =
    elim (p x) as (λ b. cond b (Some x) (find p (xs ++ ys)) ≡ (cond b (Some x) (find p xs) <|> find p ys)) [ true ↦ refl | false ↦ find_append p xs ys ]

find_flat : {A B : Type 0} (p : B → Bool) (f : A → List B) (xs : List A) → find p (flat_map f xs) ≡ first_of (λ x. find p (f x)) xs
find_flat p f [] = refl
find_flat {B = B} p f (x ∷ xs) = find_append p (f x) (flat_map f xs) ∙ ap (λ (o : Option B). find p (f x) <|> o) (find_flat p f xs)

first_mapped : {A B C : Type 0} (f : A → Option B) (g : B → C) (xs : List A) → first_of (λ x. option_map g (f x)) xs ≡ option_map g (first_of f xs)
first_mapped f g [] = refl
first_mapped f g (x ∷ xs) =
    elim (f x) as (λ o. (option_map g o <|> first_of (λ y. option_map g (f y)) xs) ≡ option_map g (o <|> first_of f xs)) [
      | None ↦ first_mapped f g xs
      | Some y ↦ refl
    ]

first_same : {A B : Type 0} (f g : A → Option B) → ((x : A) → f x ≡ g x) → (xs : List A) → first_of f xs ≡ first_of g xs
first_same f g h xs = λ i. first_of (λ x. h x i) xs

find_one : {A : Type 0} (p : A → Bool) (u : Bool) (x : A) → find p (cond u (x ∷ []) []) ≡ cond (u && p x) (Some x) None
find_one p true x = refl
find_one p false x = refl

-- an entry holds what its rule matches

protocol_same : (p : Protocol) (n : ℕ) → is_of_protocol (protocol_of p) n ≡ has_protocol p n
protocol_same Any n = refl
protocol_same (Number m) n = refl

and_forwards : (f p s d : Bool) → (f && ((p && s) && d)) ≡ (((f && p) && s) && d)
and_forwards true p s d = refl
and_forwards false p s d = refl

and_swap : (s d : Bool) → (s && d) ≡ (d && s)
and_swap true true = refl
and_swap true false = refl
and_swap false true = refl
and_swap false false = refl

and_mirrored : (g p s d : Bool) → (g && ((p && d) && s)) ≡ (((g && p) && s) && d)
and_mirrored true true s d = and_swap d s
and_mirrored true false s d = refl
and_mirrored false p s d = refl

holds_forwards : (c : Config) (a b : Network) (t : Tuple) (r : NumberedRule) → (fits r.rule a b && holds (forward_entry c r) t) ≡ matches_forwards a b t r.rule
holds_forwards c a b t r =
    ap (λ (p : Bool). fits r.rule a b && ((p && in_range r.rule.source_ports t.sport) && in_range r.rule.destination_ports t.dport)) (protocol_same r.rule.protocol t.proto)
    ∙ and_forwards (fits r.rule a b) (has_protocol r.rule.protocol t.proto) (in_range r.rule.source_ports t.sport) (in_range r.rule.destination_ports t.dport)

holds_mirrored : (c : Config) (a b : Network) (t : Tuple) (r : NumberedRule)
    → ((speaks_both_ways r.rule.direction && fits r.rule b a) && holds (mirrored_entry c r) t) ≡ matches_mirrored a b t r.rule
holds_mirrored c a b t r =
    let both : Bool = speaks_both_ways r.rule.direction && fits r.rule b a in
    ap (λ (p : Bool). both && ((p && in_range r.rule.destination_ports t.sport) && in_range r.rule.source_ports t.dport)) (protocol_same r.rule.protocol t.proto)
    ∙ and_mirrored both (has_protocol r.rule.protocol t.proto) (in_range r.rule.source_ports t.dport) (in_range r.rule.destination_ports t.sport)

-- rule by rule

either : {A : Type 0} (u v : Bool) (x y : A) → (cond u (Some x) None <|> cond v (Some y) None) ≡ cond u (Some x) (cond v (Some y) None)
either true v x y = refl
either false v x y = refl

mapped : {A B : Type 0} (f : A → B) (u v : Bool) (x y : A) → option_map f (cond u (Some x) (cond v (Some y) None)) ≡ cond u (Some (f x)) (cond v (Some (f y)) None)
mapped f true v x y = refl
mapped f false true x y = refl
mapped f false false x y = refl

rule_entry : (c : Config) (a b : Network) (t : Tuple) (r : NumberedRule) → find (λ e. holds e t) (entries_of c a b r) ≡ option_map (entry_by c) (match_by a b t r)
rule_entry c a b t r =
    let h : AclRule → Bool = λ e. holds e t in
    let f : AclRule = forward_entry c r in
    let m : AclRule = mirrored_entry c r in
    let u : Bool = matches_forwards a b t r.rule in
    let v : Bool = matches_mirrored a b t r.rule in
    let first : find h (forwards c a b r) ≡ cond u (Some f) None =
    find_one h (fits r.rule a b) f ∙ ap (λ (w : Bool). cond w (Some f) None) (holds_forwards c a b t r) in
    let second : find h (backwards c a b r) ≡ cond v (Some m) None =
    find_one h (speaks_both_ways r.rule.direction && fits r.rule b a) m ∙ ap (λ (w : Bool). cond w (Some m) None) (holds_mirrored c a b t r) in
    find_append h (forwards c a b r) (backwards c a b r)
    ∙ (λ i. first i <|> second i)
    ∙ either u v f m
    ∙ sym (mapped (entry_by c) u v (record { rule = r; mirrored = false }) (record { rule = r; mirrored = true }))

differ : (x y : List ℕ) → x ≢ y → same_name x y ≡ false
differ x y h =
    elim (same_name x y) as (λ v. same_name x y ≡ v → v ≡ false) [ true ↦ λ e. absurd (h ((same_name_iff x y).0 e)) | false ↦ λ e. refl ] refl

pub first_entry : (c : Config) (a b : Network) (t : Tuple) → a.name ≢ b.name → deciding_entry c a b t ≡ option_map (entry_by c) (deciding c a b t)
unfolding deciding
first_entry c a b t apart =
    ap (λ (v : Bool). find (λ e. holds e t) (cond v [] (oriented c a b))) (differ a.name b.name apart)
    ∙ find_flat (λ e. holds e t) (entries_of c a b) (rules_between c a b)
    ∙ first_same (λ r. find (λ e. holds e t) (entries_of c a b r)) (λ r. option_map (entry_by c) (match_by a b t r)) (rule_entry c a b t) (rules_between c a b)
    ∙ first_mapped (match_by a b t) (entry_by c) (rules_between c a b)

-- in other words

number_by : (c : Config) (r : NumberedRule) (mirrored : Bool) → (cond mirrored (mirrored_entry c r) (forward_entry c r)).rule ≡ r.number
number_by c r true = refl
number_by c r false = refl

numbers : (c : Config) (o : Option Match) → option_map (λ (r : AclRule). r.rule) (option_map (entry_by c) o) ≡ option_map (λ (d : Decision). d.rule) (option_map decision_by o)
numbers c None = refl
numbers c (Some m) = ap (λ (n : RuleNo). Some n) (number_by c m.rule m.mirrored)

pub number_of_entry : (c : Config) (a b : Network) (t : Tuple) → a.name ≢ b.name
    → option_map (λ r. r.rule) (deciding_entry c a b t) ≡ option_map (λ d. d.rule) (decision c a b t)
number_of_entry c a b t apart =
    ap (λ (o : Option AclRule). option_map (λ (r : AclRule). r.rule) o) (first_entry c a b t apart) ∙ numbers c (deciding c a b t)

none_both : (c : Config) (o : Option Match) → (option_map (entry_by c) o ≡ None) ↔ (option_map decision_by o ≡ None)
none_both c None = (λ e. refl, λ e. refl)
none_both c (Some m) = (λ e. cc, λ e. cc)

pub no_entry : (c : Config) (a b : Network) (t : Tuple) → a.name ≢ b.name → (deciding_entry c a b t ≡ None) ↔ (decision c a b t ≡ None)
no_entry c a b t apart =
    let P : Option AclRule → Type 0 = λ o. (o ≡ None) ↔ (decision c a b t ≡ None) in
    subst P (sym (first_entry c a b t apart)) (none_both c (deciding c a b t))

abbrev entered : ℕ → AclAction
entered n = Does.Enter (record { 0 = n })

first_hop : (n : ℕ) → 16384 + 16 * n + 0 ≡ (2 * (16384 + 16 * n + (1 - 1)) + 1) / 2
first_hop n = omega arith

last_hop : (n k : ℕ) → 16384 + 16 * n + k ≡ 2 * (16384 + 16 * n + k) / 2
last_hop n k = omega arith

does_is : (c : Config) (mirrored : Bool) (action : Action) → IsActionOf c mirrored action (does c mirrored action)
does_is c true Pass = refl
does_is c false Pass = refl
does_is c true Deny = refl
does_is c false Deny = refl
does_is c false (Through chain use_no) = ap entered (first_hop use_no)
does_is c true (Through chain use_no) = ap entered (last_hop use_no (length (expansion c chain)))

action_by : (c : Config) (r : NumberedRule) (mirrored : Bool) → (cond mirrored (mirrored_entry c r) (forward_entry c r)).action ≡ does c mirrored r.rule.action
action_by c r true = refl
action_by c r false = refl

some_inner : {A : Type 0} (x y : A) → Some x ≡ Some y → x ≡ y
some_inner x y e = cc

pub action_of_entry : (c : Config) (a b : Network) (t : Tuple) (m : Match) (r : AclRule) → a.name ≢ b.name → deciding c a b t ≡ Some m
    → deciding_entry c a b t ≡ Some r → IsActionOf c m.mirrored m.rule.rule.action r.action
action_of_entry c a b t m r apart decides is =
    let same : entry_by c m ≡ r = some_inner (entry_by c m) r (ap (option_map (entry_by c)) (sym decides) ∙ sym (first_entry c a b t apart) ∙ is) in
    let P : AclAction → Type 0 = λ x. IsActionOf c m.mirrored m.rule.rule.action x in
    subst P (sym (action_by c m.rule m.mirrored) ∙ ap (λ (e : AclRule). e.action) same) (does_is c m.mirrored m.rule.rule.action)

pub none_inside : (c : Config) (a b : Network) → a.name ≡ b.name → acl_rules c a b ≡ []
none_inside c a b same = ap (λ (v : Bool). cond v [] (oriented c a b)) ((same_name_iff a.name b.name).1 same)
