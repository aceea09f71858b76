-- The walk of a packet over lists of the same agents.
use Rattle.std.proofs.Common.{◌≡◌, ◌≢◌, ◌↔◌, ◌==◌, ℕ, zero, suc, ◌<◌, Bool, true, false, cond, List, [], ◌∷◌, ◌++◌, Option, Some, None, IfSome, option_map, map, length, find, get_or, inl, inr, refl, sym, ap, ◌∙◌, subst, arith}
use Rattle.std.specs.List.{All, AllPairs, Contains}
use Rattle.std.proofs.lemmas.Bool.{eqb-true}
use Rattle.ov_types.specs.Access.{verdict}
use Rattle.ov_types.specs.First.{◌<|>◌, first_of}
use Rattle.ov_types.specs.declared.numbers.InstanceId.{InstanceId}
use Rattle.ov_types.specs.declared.numbers.Label.{Label}
use Rattle.ov_types.specs.declared.numbers.PortNo.{PortNo}
use Rattle.ov_types.specs.declared.numbers.ServiceNo.{ServiceNo}
use Rattle.ov_types.specs.declared.packet.Outcome.{Outcome}
use Rattle.ov_types.specs.declared.packet.Packet.{Packet}
use Rattle.ov_types.specs.declared.prefix.Addr.{Addr}
use Rattle.ov_types.specs.declared.rows.Attached.{Attached}
use Rattle.ov_types.specs.declared.rows.Attached.TheVariants.{Port, Circuit}
use Rattle.ov_types.specs.declared.rows.Entry.{Entry}
use Rattle.ov_types.specs.declared.verdict.Verdict.{Verdict}
use Rattle.ov_types.specs.declared.verdict.Verdict.TheVariants as Says
use Rattle.ov_types.proofs.FirstLemmas.{answered, contains_cases, first_of_none, of_first, pairs_head, pairs_tail}
use Rattle.route_targets.specs.Forwarding.{Forwarder, admitted, agent_at, as_port, attached, departed, forwarding, looked_up, source_at, walk}
use Rattle.route_targets.specs.Numbers.{port_label_of}
use Rattle.packet_trace.specs.Lookups.{Arrives, Leading, Lookup, Passes, Stops, hop_of, hops_of, leading_by, leading_to, lookups, lookups_at, lookups_by, lookups_from, on_from}
use Rattle.packet_trace.specs.Orders.{HaveDistinctAddresses, HaveTheSameAgents, IsAtNoTwo, LeadsToAPort}
use Rattle.packet_trace.proofs.Walks.{by_route, outcome_by}

-- items that are told apart

inside : {A : Type 0} (P : A → Type 0) (xs : List A) (x : A) → All P xs → Contains xs x → P x
inside P xs x all h = subst P h.2 (all h.0 x h.1)

one_of : {A : Type 0} (R : A → A → Type 0) (xs : List A) (x y : A) → AllPairs R xs → Contains xs x → Contains xs y → ¬ (R x y) → ¬ (R y x) → x ≡ y
one_of R [] x y apart a b f g = let lt : a.0 < 0 = a.1 in absurd (omega (arith, lt))
one_of {A} R (z ∷ zs) x y apart a b f g =
    let others : All (R z) zs = pairs_head R z zs apart in
    elim (contains_cases z zs x a) as (λ _. x ≡ y) [
      | inl e ↦ elim (contains_cases z zs y b) as (λ _. x ≡ y) [
        | inl d ↦ sym e ∙ d
        | inr later ↦ absurd (f (subst (λ (w : A). R w y) e (inside (R z) zs y others later)))
      ]
      | inr here ↦ elim (contains_cases z zs y b) as (λ _. x ≡ y) [
        | inl d ↦ absurd (g (subst (λ (w : A). R w x) d (inside (R z) zs x others here)))
        | inr later ↦ one_of R zs x y (pairs_tail R z zs apart) here later f g
      ]
    ]

-- of two items that are apart all pairs are
pair_apart : {A : Type 0} (R : A → A → Type 0) (x y : A) → R x y → (i j : ℕ) (d : A) → i < j → j < length (x ∷ y ∷ []) → R (get_or (x ∷ y ∷ []) i d) (get_or (x ∷ y ∷ []) j d)
pair_apart R x y r zero zero d lt within = absurd (omega (arith, lt))
pair_apart R x y r zero (suc zero) d lt within = r
pair_apart R x y r zero (suc (suc j)) d lt within = absurd (omega (arith, within))
pair_apart R x y r (suc i) j d lt within = absurd (omega (arith, lt, within))

-- the first answer that an item of either list gives, where no two items give one

module _ {A B : Type 0} (answer : A → Option B) where
  from_item : (xs : List A) (b : B) → first_of answer xs ≡ Some b → (x : A) × (Contains xs x × (answer x ≡ Some b))
  from_item xs b h =
      let P : B → Type 0 = λ c. (x : A) × (Contains xs x × (answer x ≡ Some c)) in
      answered P (first_of answer xs) (of_first P answer xs (λ x here.
      elim (answer x) as (λ o. answer x ≡ o → IfSome o P) [ None ↦ λ e. tt | Some c ↦ λ e. (x, (here, e)) ] refl)) b h

  silent : (xs : List A) (x : A) → first_of answer xs ≡ None → Contains xs x → answer x ≡ None
  silent xs x h here = inside (λ y. answer y ≡ None) xs x ((first_of_none answer xs).0 h) here

  module _ (xs ys : List A) (same : (x : A) → Contains xs x ↔ Contains ys x)
      (alone : (x y : A) (b c : B) → Contains xs x → Contains xs y → answer x ≡ Some b → answer y ≡ Some c → x ≡ y) where
    either : (o q : Option B) → first_of answer xs ≡ o → first_of answer ys ≡ q → o ≡ q
    either None None h k = refl
    either None (Some c) h k =
        let y = from_item ys c k in
        let no : answer y.0 ≡ None = silent xs y.0 h ((same y.0).1 y.1.0) in
        let some : answer y.0 ≡ Some c = y.1.1 in
        cc
    either (Some b) None h k =
        let x = from_item xs b h in
        let no : answer x.0 ≡ None = silent ys x.0 k ((same x.0).0 x.1.0) in
        let some : answer x.0 ≡ Some b = x.1.1 in
        cc
    either (Some b) (Some c) h k =
        let x = from_item xs b h in
        let y = from_item ys c k in
        sym x.1.1 ∙ ap answer (alone x.0 y.0 b c x.1.0 ((same y.0).1 y.1.0) x.1.1 y.1.1) ∙ y.1.1

    first_alike : first_of answer xs ≡ first_of answer ys
    first_alike = either (first_of answer xs) (first_of answer ys) refl refl

-- the first item that passes is a first answer

abbrev passing : {A : Type 0} → (A → Bool) → A → Option A
passing p x = cond (p x) (Some x) None

as_first : {A : Type 0} (p : A → Bool) (xs : List A) → find p xs ≡ first_of (passing p) xs
as_first p [] = refl
as_first p (x ∷ xs) =
    elim (p x) as (λ b. cond b (Some x) (find p xs) ≡ (cond b (Some x) None <|> first_of (passing p) xs)) [ true ↦ refl | false ↦ as_first p xs ]

passes : {A : Type 0} (b : Bool) (x y : A) → cond b (Some x) None ≡ Some y → b ≡ true
passes true x y h = refl
passes false x y h = cc

-- walks that are the same from each lookup on

module _ (again later : Forwarder → List ServiceNo → InstanceId → Outcome)
    (alike : (f : Forwarder) (services : List ServiceNo) (i : InstanceId) → again f services i ≡ later f services i) (services : List ServiceNo) where
  outcomes_alike : (l : Leading) → outcome_by again services l ≡ outcome_by later services l
  outcomes_alike (Arrives port) = refl
  outcomes_alike (Stops why) = refl
  outcomes_alike (Passes service l) = alike l.agent (services ++ service ∷ []) l.instance

module _ (again later : Lookup → List Lookup) (alike : (l : Lookup) → again l ≡ later l) where
  on_alike : (l : Leading) → on_from again l ≡ on_from later l
  on_alike (Arrives port) = refl
  on_alike (Stops why) = refl
  on_alike (Passes service l) = alike l

-- lists of the same agents

module _ (agents others : List Forwarder) (same : HaveTheSameAgents agents others) (apart : HaveDistinctAddresses agents) where
  one_address : (a : Addr) (f g : Forwarder) → Contains agents f → Contains agents g → (f.address.0 == a.0) ≡ true → (g.address.0 == a.0) ≡ true → f ≡ g
  one_address a f g here there e d =
      let number : f.address.0 ≡ g.address.0 = eqb-true f.address.0 a.0 e ∙ sym (eqb-true g.address.0 a.0 d) in
      let of : ℕ → Addr = λ n. record { 0 = n } in
      let address : f.address ≡ g.address = ap of number in
      one_of (λ (x y : Forwarder). x.address ≢ y.address) agents f g apart here there (λ no. no address) (λ no. no (sym address))

  agents_alike : (a : Addr) → agent_at agents a ≡ agent_at others a
  agents_alike a =
      let p : Forwarder → Bool = λ g. g.address.0 == a.0 in
      as_first p agents
      ∙ first_alike (passing p) agents others same (λ f g b c here there e d. one_address a f g here there (passes (p f) f b e) (passes (p g) g c d))
      ∙ sym (as_first p others)

  leading_alike : (o : Option Entry) → leading_by agents o ≡ leading_by others o
  leading_alike None = refl
  leading_alike (Some e) = ap (leading_to e.label) (agents_alike e.next_hop)

  module _ (address : ℕ) where
    walks_alike : (left : ℕ) (f : Forwarder) (services : List ServiceNo) (i : InstanceId) → walk agents address left f services i ≡ walk others address left f services i
    walks_alike zero f services i = refl
    walks_alike (suc left) f services i =
        let o : Option Entry = looked_up f.rows i address in
        by_route (walk agents address left) services agents o
        ∙ ap (outcome_by (walk agents address left) services) (leading_alike o)
        ∙ outcomes_alike (walk agents address left) (walk others address left) (walks_alike left) services (leading_by others o)
        ∙ sym (by_route (walk others address left) services others o)

    lookups_alike : (left : ℕ) (l : Lookup) → lookups_from agents address left l ≡ lookups_from others address left l
    lookups_alike zero l = refl
    lookups_alike (suc left) l =
        let o : Option Entry = looked_up l.agent.rows l.instance address in
        ap (λ (d : Leading). l ∷ on_from (lookups_from agents address left) d) (leading_alike o)
        ∙ ap (λ (ls : List Lookup). l ∷ ls) (on_alike (lookups_from agents address left) (lookups_from others address left) (lookups_alike left) (leading_by others o))

    admitted_alike : (f : Forwarder) (network : InstanceId) (v : Verdict) → admitted agents address f network v ≡ admitted others address f network v
    admitted_alike f network Says.Pass = walks_alike 64 f [] network
    admitted_alike f network (Says.Enter i) = walks_alike 64 f [] i
    admitted_alike f network (Says.Denied rule) = refl
    admitted_alike f network Says.NoDestination = refl

    looked_alike : (f : Forwarder) (network : InstanceId) (v : Verdict) → lookups_by agents address f network v ≡ lookups_by others address f network v
    looked_alike f network Says.Pass = lookups_alike 64 (record { agent = f; instance = network })
    looked_alike f network (Says.Enter i) = lookups_alike 64 (record { agent = f; instance = i })
    looked_alike f network (Says.Denied rule) = refl
    looked_alike f network Says.NoDestination = refl

  module _ (p : Packet) (once : IsAtNoTwo p.source agents) where
    departed_alike : (o : Option (Forwarder × InstanceId)) → departed agents p o ≡ departed others p o
    departed_alike None = refl
    departed_alike (Some s) = admitted_alike p.destination.0 s.0 s.1 (verdict s.0.rows.acls s.1.0 p)

    found_alike : (o : Option (Forwarder × InstanceId)) → lookups_at agents p o ≡ lookups_at others p o
    found_alike None = refl
    found_alike (Some s) = looked_alike p.destination.0 s.0 s.1 (verdict s.0.rows.acls s.1.0 p)

    port_under : (f : Forwarder) (s : Forwarder × InstanceId) (o : Option Attached) → attached f.rows (port_label_of p.source) ≡ o
        → option_map (λ network. (f, network)) (as_port o) ≡ Some s → LeadsToAPort (port_label_of p.source) f
    port_under f s None e h = cc
    port_under f s (Some (Port port instance)) e h = record { port = port; instance = instance; leads = e }
    port_under f s (Some (Circuit circuit service)) e h = cc

    leads : (f : Forwarder) (s : Forwarder × InstanceId) → source_at p f ≡ Some s → LeadsToAPort (port_label_of p.source) f
    leads f s h = port_under f s (attached f.rows (port_label_of p.source)) refl h

    sources_alike : first_of (source_at p) agents ≡ first_of (source_at p) others
    sources_alike = first_alike (source_at p) agents others same (λ f g b c here there e d.
        let R : Forwarder → Forwarder → Type 0 = λ x y. ¬ (LeadsToAPort (port_label_of p.source) x × LeadsToAPort (port_label_of p.source) y) in
        one_of R agents f g once here there (λ no. no (leads f b e, leads g c d)) (λ no. no (leads g c d, leads f b e)))

    pub same_outcome : forwarding agents p ≡ forwarding others p
    unfolding forwarding
    same_outcome = ap (departed agents p) sources_alike ∙ departed_alike (first_of (source_at p) others)

    same_lookups : lookups agents p ≡ lookups others p
    unfolding lookups
    same_lookups = ap (lookups_at agents p) sources_alike ∙ found_alike (first_of (source_at p) others)

    pub same_hops : hops_of agents p ≡ hops_of others p
    same_hops = ap (map hop_of) same_lookups

-- two agents with different addresses, of which the second has nothing under the port's label

nothing_leads : (label : Label) (g : Forwarder) → attached g.rows label ≡ None → ¬ (LeadsToAPort label g)
nothing_leads label g none h = let some : attached g.rows label ≡ Some (Port h.port h.instance) = h.leads in cc

pub two_agents : (f g : Forwarder) (port : PortNo) → f.address ≢ g.address → attached g.rows (port_label_of port) ≡ None
    → HaveDistinctAddresses (f ∷ g ∷ []) × IsAtNoTwo port (f ∷ g ∷ [])
two_agents f g port apart none =
    let label : Label = port_label_of port in (
      pair_apart (λ (x y : Forwarder). x.address ≢ y.address) f g apart,
      pair_apart (λ (x y : Forwarder). ¬ (LeadsToAPort label x × LeadsToAPort label y)) f g (λ h. nothing_leads label g none h.1),
    )
