-- One round leaves each control node with the feed of the present configuration, or with none.
use Rattle.std.specs.Prelude.{◌≡◌, ℕ, ◌<◌, List, [], ◌∷◌, map, Bool, true, false, cond, not}
use Rattle.std.specs.declared.option.Option.{Option}
use Rattle.std.specs.declared.option.Option.TheVariants.{Some}
use Rattle.std.specs.List.{list_all}
use Rattle.std.specs.FinMap.{get, empty, same_map}
use Rattle.std.proofs.lemmas.Bool.{true≢false, and_from, and_parts}
use Rattle.std.proofs.Common.{refl, sym, ◌∙◌, ap, subst, inl, inr, arith}
use Rattle.node_laws.specs.NodeModel.Keys.{Key}
use Rattle.node_laws.proofs.NodeModel.Orders.{key_total, key_exact}
use Rattle.node_laws.specs.NodeModel.Values.{Value}
use Rattle.node_laws.specs.NodeModel.Maps.{Map}
use Rattle.node_laws.specs.NodeModel.Step.{is_idle}
use Rattle.machine_model.specs.Setup.{Name, Setup, low}
use Rattle.machine_model.specs.Session.{Role, Configuration, Controller, Agent, Message, Session, turned, are_peers, may_send_at, passed, arrived, octets_arrived}
use Rattle.machine_model.specs.Network.{MachineState, start, view, views_of, wanted}
use Rattle.machine_model.specs.Steps.{session_in}
use Rattle.machine_model.specs.Events.{MachineEvent, after}
use Rattle.machine_model.specs.Rounds.{AreRounds, after_rounds, has_no_break, is_delivery, is_empty, is_unbroken}
use Rattle.machine_model.specs.Moments.{Each, NodePair, nodes, WhereLaidOut}
use Rattle.machine_model.proofs.SessionFact.{Fact}
use Rattle.machine_model.proofs.NetworkFact.{after_sound, with_session_keeps, nodes_keep, found}
use Rattle.machine_model.proofs.NodesFact.{Holds, arrived_nodes, octets_nodes, session_nodes, pass_nodes, after_holds}
use Rattle.machine_model.proofs.Start.{start_sound, start_each}
use Rattle.machine_model.proofs.Listed.{Placed, Stands, edits_placed, of_nodes, start_placed}
use Rattle.machine_model.proofs.Turns.{laid_apart}
use Rattle.machine_model.proofs.Twins.{NoTwins, Found, found_each, each_and, each_weaker}
use Rattle.machine_moment_laws.specs.Revocation.{AllHoldFeeds, FeedsInOne, HoldsFeed}
use Rattle.machine_moment_laws.proofs.Drains.{IsFit, fit_turned, arrived_due, octets_due, passed_due, Due, held_joined, held_down}
use Rattle.machine_moment_laws.proofs.RevocationRounds.{AreFit, Standing, SentRight, events_good, over, stays}
use Rattle.machine_moment_laws.proofs.Fed.{AllFed, Fed, FedAs, after_fed, role_wants, not_peers}

abbrev pub feed_concern : Role → Role → Key → Bool
feed_concern Configuration q k = true
feed_concern _ q k = false

pub feeds_unpeered : (r q : Role) (k : Key) → feed_concern r q k ≡ true → are_peers r q ≡ false
feeds_unpeered Configuration q k e = refl
feeds_unpeered Controller q k e = absurd (true≢false (sym e))
feeds_unpeered Agent q k e = absurd (true≢false (sym e))

pub is_configuration : (r q : Role) (k : Key) → feed_concern r q k ≡ true → r ≡ Configuration
is_configuration Configuration q k e = refl
is_configuration Controller q k e = absurd (true≢false (sym e))
is_configuration Agent q k e = absurd (true≢false (sym e))

abbrev pub feed_goal : Setup → Name → Name → Key → Option Value
feed_goal x from to k = get (low x) k

none_empty : (bs : List ℕ) → is_empty bs ≡ true → bs ≡ []
none_empty [] e = refl
none_empty (b ∷ bs) e = absurd (true≢false (sym e))

module _ (size : Name → Message → ℕ) (positive : (n : Name) (m : Message) → 0 < size n m) where
  pub fit_from : (ss : List Session) → Each (Fact size) ss → list_all has_no_break ss ≡ true → Each (λ s. Fact size s × (s.near.breaks ≡ []) × (s.far.breaks ≡ [])) ss
  fit_from [] f e = tt
  fit_from (s ∷ ss) f e =
      let p = and_parts (has_no_break s) (list_all has_no_break ss) e in
      let q = and_parts (is_empty s.near.breaks) (is_empty s.far.breaks) p.0 in
      ((f.0, none_empty s.near.breaks q.0, none_empty s.far.breaks q.1), fit_from ss f.1 p.1)

  module _ (x : Setup) where
    abbrev pub FeedFit : Session → Type 0
    FeedFit = IsFit size positive feed_concern feeds_unpeered (feed_goal x)

    pub turned_fit : (s : Session) → FeedFit s → FeedFit (turned s)
    turned_fit = fit_turned size positive feed_concern feeds_unpeered (feed_goal x)

    -- nothing of a feed is due
    abbrev pub FeedDue : Session → Type 0
    FeedDue s = Due size positive feed_concern feeds_unpeered (feed_goal x) (nodes s) 0 s

    -- what each session holds in the end
    pub holds_feed : (s : Session) → FeedFit s → Due size positive feed_concern feeds_unpeered (feed_goal x) (nodes (turned s)) 0 (turned s) → HoldsFeed x s
    holds_feed s f d role =
        elim (turned_fit s f).0 as (λ _. s.far.held ≡ cond s.is_down empty (low x)) [
          | inl j ↦ same_map key_total key_exact s.far.held (low x) (λ k. held_joined size positive feed_concern feeds_unpeered (feed_goal x) (turned s) j d k (ap (λ (r : Role). feed_concern r s.far.role k) role)) ∙ ap (λ b. cond b empty (low x)) (sym j.whole)
          | inr l ↦ held_down size positive feed_concern feeds_unpeered (feed_goal x) (turned s) l d ∙ ap (λ b. cond b empty (low x)) (sym l.down)
        ]

  module _ (x : Setup) (places : List NodePair) (apart : NoTwins places) where
    abbrev pub Good : MachineState → Type 0
    Good w = (w.setup ≡ x) × (map nodes w.sessions ≡ places) × AreFit size positive feed_concern feeds_unpeered (feed_goal x) w

    pub stands : Standing size positive feed_concern feeds_unpeered (feed_goal x) Good
    stands = record {
      fit = λ w g. g.2;
      right = λ w g n s at k c. ap (λ (m : Map). get m k) (role_wants w.setup (views_of n w.sessions) s (is_configuration s.near.role s.far.role k c) ∙ ap low g.0);
      arrives = λ from to w g. (
        g.0,
        session_nodes to from arrived arrived_nodes w.sessions ∙ g.1,
        with_session_keeps (FeedFit x) (turned_fit x) arrived (λ s f. (arrived_due size positive feed_concern feeds_unpeered (feed_goal x) (nodes s) s refl f).fit) to from w.sessions g.2,
      );
      octets = λ n from to w g. (
        g.0,
        session_nodes to from (octets_arrived size n) (octets_nodes size n) w.sessions ∙ g.1,
        with_session_keeps (FeedFit x) (turned_fit x) (octets_arrived size n) (λ s f. (octets_due size positive feed_concern feeds_unpeered (feed_goal x) n (nodes s) s refl f).fit) to from w.sessions g.2,
      );
      passes = λ n w g. (
        g.0,
        pass_nodes n w ∙ g.1,
        nodes_keep (FeedFit x) (turned_fit x) (λ s. passed (wanted w.setup (views_of n w.sessions) (view s)) s) (λ s f. (passed_due size positive feed_concern feeds_unpeered (feed_goal x) (nodes s) (wanted w.setup (views_of n w.sessions) (view s)) s refl f).fit) n w.sessions g.2,
      );
    }

    pub twinless : (w : MachineState) → Good w → NoTwins (map nodes w.sessions)
    twinless w g = subst NoTwins (sym g.1) apart

    -- what the configuration node has told
    abbrev pub Told : Session → Type 0
    Told s = FedAs (low x) s.near × FedAs (low x) s.far

    told_sent : (s : Session) → Told s → SentRight size positive feed_concern feeds_unpeered (feed_goal x) Good stands twinless s
    told_sent s t may k c =
        let role = is_configuration s.far.role s.near.role k c in
        ap (λ (m : Map). get m k) (t.1 role (live (is_idle s.far.phase) (sym (ap (λ b. may_send_at b s.far.phase) (not_peers s.far.role s.near.role role)) ∙ may)))
      where
        live : (b : Bool) → not b ≡ true → b ≡ false
        live true e = absurd (true≢false (sym e))
        live false e = refl

    pub told_each : (t : _) (ss : List Session) → Each (λ s. Stands t (nodes s)) ss → Each (Fed x) ss → Each Told ss
    told_each t [] p f = tt
    told_each t (s ∷ ss) p f = (
      (f.0, λ role live. elim p.0.far as (λ _. s.far.sent ≡ low x) [ inl q ↦ absurd (apart_roles s.far.role q.0 role) | inr q ↦ absurd (apart_agents s.far.role q.0 role) ]),
      told_each t ss p.1 f.1,
    )
      where
        apart_roles : (r : Role) → r ≡ Controller → r ≡ Configuration → ⊥
        apart_roles r e f = let g : Controller ≡ Configuration = sym e ∙ f in cc

        apart_agents : (r : Role) → r ≡ Agent → r ≡ Configuration → ⊥
        apart_agents r e f = let g : Agent ≡ Configuration = sym e ∙ f in cc

    pub feeds_due : (es : List MachineEvent) (rounds : List (List MachineEvent)) (w : MachineState) → Good w → Each Told w.sessions → AreRounds size w (es ∷ rounds)
        → Good (after_rounds size w (es ∷ rounds)) × Each (λ s. FeedFit x s × FeedDue x s × FeedDue x (turned s)) (after_rounds size w (es ∷ rounds)).sessions
    feeds_due es rounds w g told r =
        let v = after_rounds size w (es ∷ rounds) in
        let last : Good v = stays size positive feed_concern feeds_unpeered (feed_goal x) Good stands twinless (es ∷ rounds) w r g in
        let sent = λ (a b : Name) (u : Session) (is : session_in w.sessions b a ≡ Some u). told_sent u (found Told (λ s t. (t.1, t.0)) w.sessions b a told u is) in
        let ends = λ (a b : Name) (u : Session) (is : session_in v.sessions b a ≡ Some u). over size positive feed_concern feeds_unpeered (feed_goal x) Good stands twinless a b es rounds w r g (sent a b) u is in (
          last,
          each_weaker (λ s. FeedFit x s × Found v.sessions s) (λ s. FeedFit x s × FeedDue x s × FeedDue x (turned s))
              (λ s q. (q.0, ends s.far.name s.near.name s q.1.0, ends s.near.name s.far.name (turned s) q.1.1))
              v.sessions (each_and (FeedFit x) (Found v.sessions) v.sessions last.2 (found_each v.sessions (twinless v last))),
        )

    pub feeds_end : (es : List MachineEvent) (rounds : List (List MachineEvent)) (w : MachineState) → Good w → Each Told w.sessions → AreRounds size w (es ∷ rounds) → AllHoldFeeds (after_rounds size w (es ∷ rounds))
    feeds_end es rounds w g told r =
        let v = after_rounds size w (es ∷ rounds) in
        let last : Good v = stays size positive feed_concern feeds_unpeered (feed_goal x) Good stands twinless (es ∷ rounds) w r g in
        subst (λ (y : Setup). Each (HoldsFeed y) v.sessions) (sym last.0)
        (each_weaker (λ s. FeedFit x s × Found v.sessions s) (HoldsFeed x)
        (λ s q. holds_feed x s q.0 (over size positive feed_concern feeds_unpeered (feed_goal x) Good stands twinless s.near.name s.far.name es rounds w r g
        (λ u is. told_sent u (found Told (λ s t. (t.1, t.0)) w.sessions s.far.name s.near.name told u is)) (turned s) q.1.1))
        v.sessions (each_and (FeedFit x) (Found v.sessions) v.sessions last.2 (found_each v.sessions (twinless v last))))

pub feeds_are_present : WhereLaidOut FeedsInOne
feeds_are_present size positive x l es laid [] unbroken many r = absurd (omega (arith, many))
feeds_are_present size positive x l es laid (first ∷ rounds) unbroken many r =
    let now = after size (start x) es in
    let placed : Holds Placed now = after_holds size Placed edits_placed (start x) es (start_placed x l.apart) in
    let fed : AllFed now = after_fed size (start x) es (start_placed x l.apart) (start_each (Fed (start x).setup) (λ n m r q role live. absurd (true≢false live)) x) in
    feeds_end size positive now.setup (map nodes now.sessions) (laid_apart size positive x l es laid) first rounds now
    (refl, refl, fit_from size positive now.sessions (after_sound size positive (start x) es (start_sound size positive x)) unbroken)
    (told_each size positive now.setup (map nodes now.sessions) (laid_apart size positive x l es laid) now.setup.topology now.sessions (of_nodes (Stands now.setup.topology) now.sessions placed.stand) fed) r

-- ---- deliveries bring no break
none_pending : (size : Name → Message → ℕ) (ss : List Session) → Each (λ s. Fact size s × (s.near.breaks ≡ []) × (s.far.breaks ≡ [])) ss → list_all has_no_break ss ≡ true
none_pending size [] f = refl
none_pending size (s ∷ ss) f =
    and_from (has_no_break s) (list_all has_no_break ss)
    (and_from (is_empty s.near.breaks) (is_empty s.far.breaks) (ap is_empty f.0.1) (ap is_empty f.0.2)) (none_pending size ss f.1)

pub unbroken_after : WhereLaidOut (λ size w. is_unbroken w ≡ true → (es : List MachineEvent) → list_all is_delivery es ≡ true → is_unbroken (after size w es) ≡ true)
unbroken_after size positive x l es laid unbroken ds deliveries =
    let now = after size (start x) es in
    let places = map nodes now.sessions in
    let apart = laid_apart size positive x l es laid in
    let good = events_good size positive feed_concern feeds_unpeered (feed_goal now.setup) (Good size positive now.setup places apart) (stands size positive now.setup places apart) (twinless size positive now.setup places apart) ds now deliveries
    (refl, refl, fit_from size positive now.sessions (after_sound size positive (start x) es (start_sound size positive x)) unbroken) in
    none_pending size (after size now ds).sessions good.2
