-- At every moment so many rounds later: what is common is back up to that rank.
use Rattle.std.specs.Prelude.{◌≡◌, ◌≤◌, ◌+◌, ℕ, zero, suc, List, [], ◌∷◌, map, true, false, cond}
use Rattle.std.specs.List.{AllByRecursion}
use Rattle.std.proofs.Common.{arith, inl, inr, refl, subst, sym}
use Rattle.std.proofs.lemmas.Bool.{true≢false}
use Rattle.schedule_script.specs.ConfigCheck.Checked.{Checked}
use Rattle.node_laws.specs.NodeModel.Keys.{Key, Low, Publish, Row, Subscribe, Vpn}
use Rattle.node_laws.specs.NodeModel.Members.{Member}
use Rattle.node_laws.specs.NodeModel.Values.{Value}
use Rattle.ov_sync.specs.declared.Delta.TheVariants.{Drop, Put}
use Rattle.machine_model.specs.OvSync.Keyed.{key_of}
use Rattle.machine_model.specs.Events.{Break, Connect, Deliver, DeliverOctets, Edits, Lose, MachineEvent, Restart, Round, Settle, Show, Trace, after, next}
use Rattle.machine_model.specs.Moments.{ArePositive, Each, EditIsValid, EditsAreValid, LaidOut, nodes}
use Rattle.machine_model.specs.Network.{MachineState, sessions_of, start}
use Rattle.machine_model.specs.Session.{Agent, Carries, Configuration, Controller, Hello, Keepalive, Message, Open, Role, Session, turned}
use Rattle.machine_model.specs.Setup.{Name, checked, longest, moves, opening}
use Rattle.machine_model.specs.Steps.{is_quiet, resumed, round, rounds_from, settle, without_breaks}
use Rattle.machine_model.proofs.Apart.{NamesApart}
use Rattle.machine_model.proofs.Asking.{sessions_are_asked}
use Rattle.machine_model.proofs.CalmOf.{calm_of}
use Rattle.machine_model.proofs.Listed.{Placed, edits_placed, resessioned, start_placed}
use Rattle.machine_model.proofs.NetworkFact.{after_sound, each_map}
use Rattle.machine_model.proofs.NodesFact.{Holds, after_holds}
use Rattle.machine_model.proofs.Numbered.{start_fits}
use Rattle.machine_model.proofs.RoundFact.{IsCalm}
use Rattle.machine_model.proofs.SessionFact.{Joined}
use Rattle.machine_model.proofs.Start.{start_sound, start_told}
use Rattle.machine_model.proofs.ToldNext.{after_told}
use Rattle.machine_model.proofs.Twins.{all_to_own, each_weaker}
use Rattle.machine_model.proofs.Walk.{Takes, connections_walk, round_walk}
use Rattle.machine_laws.specs.Headline.{IsOfForm, IsWritten}
use Rattle.machine_laws.specs.Settling.{Fair, FairMessages}
use Rattle.machine_laws.specs.Setups.{IsSoundSetup}
use Rattle.machine_laws.proofs.EachFact.{edit_valid, edits_valid}
use Rattle.machine_laws.proofs.Final.{laid_out}
use Rattle.machine_laws.proofs.Written.{all_sound, sound_setup}
use Rattle.machine_moment_laws.specs.Windows.{IsOfWindow, led_to}
use Rattle.machine_moment_laws.proofs.Beginning.{edits_among, first_written}
use Rattle.machine_moment_laws.proofs.Course.{clears_keep, connects_keep, takes_keep, window_keeps}
use Rattle.machine_moment_laws.proofs.Here.{Here, IsAsked, here_edited, lasts, names}
use Rattle.machine_moment_laws.proofs.CommonMoments.{all_fit, all_written, edits_both}
use Rattle.machine_moment_laws.proofs.OfSome.{some_to, source_rank}
use Rattle.machine_moment_laws.proofs.Says.{Says, says_none}
use Rattle.machine_moment_laws.proofs.Easy.{IsEasy}
use Rattle.machine_moment_laws.proofs.EasyMoments.{AreApart, IsUndisturbed, clears_on, undisturbed_next}
use Rattle.machine_moment_laws.proofs.Meeting.{AreTaken, calm_turned}
use Rattle.machine_moment_laws.proofs.ToPeers.{HaveToldPeers, routes_after, start_routes}
use Rattle.machine_moment_laws.proofs.Stood.{kind, stood}
use Rattle.machine_moment_laws.specs.Recovery.{NoneIsDown, counts, rounds_in}
use Rattle.machine_moment_laws.proofs.Exchanges.{IsBack}
use Rattle.machine_moment_laws.proofs.RecoveryLasting.{keeps}
use Rattle.machine_moment_laws.proofs.RecoveryRounds.{AreBack, round_leads_on}
use Rattle.machine_moment_laws.proofs.Tells.{AllTell}
use Rattle.machine_moment_laws.proofs.Wanting.{Tells}

-- up to rank 0 nothing is said, and anything is fair
any_messages : (fair : Name × Role → Name × Role → Key → Value → Type 0) (from to : Name × Role) → ((k : Key) (v : Value) → fair from to k v) → (f : List Message) → FairMessages fair from to f
any_messages fair from to h [] = tt
any_messages fair from to h (Open ∷ f) = (tt, any_messages fair from to h f)
any_messages fair from to h (Keepalive ∷ f) = (tt, any_messages fair from to h f)
any_messages fair from to h (Hello ∷ f) = (tt, any_messages fair from to h f)
any_messages fair from to h (Carries (Put k v) ∷ f) = (h k v, any_messages fair from to h f)
any_messages fair from to h (Carries (Drop k) ∷ f) = (tt, any_messages fair from to h f)

any_fair : (fair : Name × Role → Name × Role → Key → Value → Type 0) → ((from to : Name × Role) (k : Key) (v : Value) → fair from to k v) → (s : Session) → Fair fair s
any_fair fair h s = record {
  near_held = λ k v e. h (s.far.name, s.far.role) (s.near.name, s.near.role) k v;
  far_held = λ k v e. h (s.near.name, s.near.role) (s.far.name, s.far.role) k v;
  near_flight = any_messages fair (s.near.name, s.near.role) (s.far.name, s.far.role) (h (s.near.name, s.near.role) (s.far.name, s.far.role)) s.near.flight;
  far_flight = any_messages fair (s.far.name, s.far.role) (s.near.name, s.near.role) (h (s.far.name, s.far.role) (s.near.name, s.near.role)) s.far.flight;
}

module _ (b : Checked) (ds : List Checked) (written : (c : Checked) → Member c (b ∷ ds) → IsWritten (opening c)) (size : Name → Message → ℕ) (positive : ArePositive size) where
  abbrev those : List Checked
  those = b ∷ ds

  no_source : (p : Role) → source_rank those p ≤ 0 → ⊥
  no_source Configuration h = omega (arith, h)
  no_source Controller h = omega (arith, h)
  no_source Agent h = omega (arith, h)

  no_kind : (k : Key) → kind those k ≤ 0 → ⊥
  no_kind (Low k) h = omega (arith, h)
  no_kind (Publish i p) h = omega (arith, h)
  no_kind (Vpn k) h = omega (arith, h)
  no_kind (Row i p) h = omega (arith, h)
  no_kind (Subscribe i) h = omega (arith, h)

  -- and any message may be in flight
  any_taken : (from to : Name × Role) (f : List Message) → AreTaken (Says b ds written 0) 0 from to f
  any_taken from to [] = tt
  any_taken from to (Open ∷ f) = (omega arith, any_taken from to f)
  any_taken from to (Keepalive ∷ f) = (omega arith, any_taken from to f)
  any_taken from to (Hello ∷ f) = (omega arith, any_taken from to f)
  any_taken from to (Carries d ∷ f) = ((λ says. absurd (says_none b ds written from.1 to.1 from.0 to.0 (key_of d) says)), any_taken from to f)

  begun : (s : Session) → IsCalm size positive s → IsBack b ds written size positive 0 s
  begun s c = (
    (λ l. (
      c,
      record {
        near_held = λ k says. absurd (says_none b ds written s.far.role s.near.role s.far.name s.near.name k says);
        far_held = λ k says. absurd (says_none b ds written s.near.role s.far.role s.near.name s.far.name k says);
        near_flight = any_taken (s.near.name, s.near.role) (s.far.name, s.far.role) s.near.flight;
        far_flight = any_taken (s.far.name, s.far.role) (s.near.name, s.near.role) s.far.flight;
      },
    )),
    (
      any_fair (some_to those 0) (λ from to k v h. absurd (no_source from.1 h)) s,
      any_fair (stood those b.topology.asn 0) (λ from to k v h. absurd (no_kind k h)) s,
    ),
  )

  -- ---- what is known of each moment from there on
  pub record IsMoment (w : MachineState) : Type 0 where
    pub placed : Holds Placed w
    pub undisturbed : IsUndisturbed size positive w
    pub routes : Each HaveToldPeers w.sessions

  -- the names of nodes are apart before and after an edit
  names_next : (w : MachineState) (e : MachineEvent) → EditIsValid (IsAsked b ds written) w e → Here b ds written w.setup (map nodes w.sessions) → AreApart size positive w e
  names_next w e ok here = (
    names b ds written w.setup (map nodes w.sessions) here,
    edit_valid (IsAsked b ds written) (λ y. NamesApart y.topology) w e
        (λ d y is asked. names b ds written y (map nodes (resessioned (moves d w.setup.topology) y.topology.controllers w.sessions)) (here_edited b ds written w d y here is asked)) ok,
  )

  moment_after : (w : MachineState) (e : MachineEvent) → IsOfWindow e → EditsAreValid size (IsAsked b ds written) w (e ∷ []) → Here b ds written w.setup (map nodes w.sessions) → IsMoment w → IsMoment (next size w e)
  moment_after w e of ok here m = record {
    placed = after_holds size Placed edits_placed w (e ∷ []) m.placed;
    undisturbed = undisturbed_next size positive w e of m.placed (names_next w e ok.0 here) m.undisturbed;
    routes = routes_after size (IsAsked b ds written) w (e ∷ []) ok m.routes;
  }

  -- ---- each round leads up to the next rank
  plus_none : (r : ℕ) → r ≡ r + 0
  plus_none r = omega arith

  plus_one : (r n : ℕ) → suc r + n ≡ r + (1 + n)
  plus_one r n = omega arith

  plus_zero : (r n : ℕ) → r + n ≡ r + (0 + n)
  plus_zero r n = omega arith

  stays_back : (r : ℕ) (w : MachineState) (e : MachineEvent) → IsOfWindow e → EditsAreValid size (IsAsked b ds written) w (e ∷ []) → AreBack size positive b ds written r w → AreBack size positive b ds written r (next size w e)
  stays_back r w e of ok h =
      window_keeps size (lasts b ds written) (Here b ds written) (IsAsked b ds written) (IsBack b ds written size positive r) (Tells b ds written r) (keeps b ds written size positive r) w (e ∷ []) (of, tt) ok h

  round_back : (r : ℕ) (w : MachineState) → IsMoment w → AreBack size positive b ds written r w → AreBack size positive b ds written (suc r) (next size w Round)
  unfolding next
  round_back r w m h = round_leads_on size positive b ds written r w h m.undisturbed.0 m.undisturbed.1 m.routes

  -- to settle begins with a round, and leaves what is back then
  abbrev keep : ℕ → MachineState → Type 0
  keep r w = AreBack size positive b ds written r w

  takes_on : (r : ℕ) → Takes (keep r)
  takes_on r = takes_keep size (lasts b ds written) (Here b ds written) (IsAsked b ds written) (IsBack b ds written size positive r) (Tells b ds written r) (keeps b ds written size positive r)

  rounds_on : (r n done : ℕ) (w : MachineState) → keep r w → keep r (rounds_from n done w).1
  rounds_on r zero done w h = h
  rounds_on r (suc n) done w h = elim (is_quiet w) as (λ c. keep r (cond c (done, w) (rounds_from n (done + 1) (round w))).1) [
    | true ↦ h
    | false ↦ rounds_on r n (done + 1) (round w) (round_walk (keep r) (takes_on r) w h)
  ]

  settle_back : (r : ℕ) (w : MachineState) → IsMoment w → AreBack size positive b ds written r w → AreBack size positive b ds written (suc r) (next size w Settle)
  unfolding next settle
  settle_back r w m h =
      let v : MachineState = record { setup = w.setup; sessions = map without_breaks w.sessions } in
      let cleared : AreBack size positive b ds written r v = clears_keep size (lasts b ds written) (Here b ds written) (IsAsked b ds written) (IsBack b ds written size positive r) (Tells b ds written r) (keeps b ds written size positive r) w h in
      let q = clears_on size positive w m.undisturbed in
      let led : keep (suc r) (round v) = round_leads_on size positive b ds written r v cleared q.0 q.1 (each_map HaveToldPeers HaveToldPeers without_breaks (λ s t. t) w.sessions m.routes) in
      rounds_on (suc r) (longest w.setup + 5) 1 (resumed w)
      (connections_walk (keep (suc r)) (connects_keep size (lasts b ds written) (Here b ds written) (IsAsked b ds written) (IsBack b ds written size positive (suc r)) (Tells b ds written (suc r)) (keeps b ds written size positive (suc r))) (round v).sessions (round v) led)

  counted_back : (r : ℕ) (e : MachineEvent) (w : MachineState) → counts w e ≡ true → IsMoment w → AreBack size positive b ds written r w → AreBack size positive b ds written (suc r) (next size w e)
  counted_back r Round w c m h = round_back r w m h
  counted_back r Settle w c m h = settle_back r w m h
  counted_back r (Edits d) w c m h = absurd (true≢false (sym c))
  counted_back r (Deliver x y n) w c m h = absurd (true≢false (sym c))
  counted_back r (DeliverOctets x y n) w c m h = absurd (true≢false (sym c))
  counted_back r (Lose x y) w c m h = absurd (true≢false (sym c))
  counted_back r (Connect x y) w c m h = absurd (true≢false (sym c))
  counted_back r (Restart n) w c m h = absurd (true≢false (sym c))
  counted_back r (Show n) w c m h = absurd (true≢false (sym c))
  counted_back r (Trace p) w c m h = absurd (true≢false (sym c))
  counted_back r (Break x y n) w c m h = absurd (true≢false (sym c))

  rounds_lead_on : (r : ℕ) (w : MachineState) (es : List MachineEvent) → AllByRecursion IsOfWindow es → EditsAreValid size (IsAsked b ds written) w es → IsMoment w → AreBack size positive b ds written r w → AreBack size positive b ds written (r + rounds_in size w es) (after size w es)
  rounds_lead_on r w [] of ok m h = subst (λ n. AreBack size positive b ds written n w) (plus_none r) h
  rounds_lead_on r w (e ∷ es) of ok m h =
      let v = next size w e in
      elim (counts w e) as (λ c. counts w e ≡ c → AreBack size positive b ds written (r + (cond c 1 0 + rounds_in size v es)) (after size v es)) [
        | true ↦ λ is.
            let up : AreBack size positive b ds written (suc r) v = counted_back r e w is m h in
            subst (λ n. AreBack size positive b ds written n (after size v es)) (plus_one r (rounds_in size v es)) (rounds_lead_on (suc r) v es of.1 ok.1 (moment_after w e of.0 (ok.0, tt) h.0 m) up)
        | false ↦ λ _.
            subst (λ n. AreBack size positive b ds written n (after size v es)) (plus_zero r (rounds_in size v es)) (rounds_lead_on r v es of.1 ok.1 (moment_after w e of.0 (ok.0, tt) h.0 m) (stays_back r w e of.0 (ok.0, tt) h))
      ] refl

-- ---- from the moment on
module _ (size : Name → Message → ℕ) (positive : ArePositive size) (x : Checked) (written : IsWritten (opening x)) (before : List MachineEvent) (asked_before : EditsAreValid size IsOfForm (start x) before) (begins : NoneIsDown (after size (start x) before)) (es : List MachineEvent) (window : AllByRecursion IsOfWindow es) (form : EditsAreValid size IsOfForm (after size (start x) before) es) where
  abbrev pub began : MachineState
  began = after size (start x) before

  abbrev pub now : MachineState
  now = after size began es

  abbrev pub first_one : Checked
  first_one = checked began.setup

  abbrev pub others : List Checked
  others = led_to size began es

  abbrev pub cs : List Checked
  cs = first_one ∷ others

  abbrev pub rounds : ℕ
  rounds = rounds_in size began es

  began_written : IsWritten began.setup
  began_written = first_written size positive x written before asked_before

  pub all_are_written : (c : Checked) → Member c cs → IsWritten (opening c)
  all_are_written c (inl e) = subst (λ (c : Checked). IsWritten (opening c)) e (record { topology = began_written.topology; config = began_written.config; valid = began_written.valid })
  all_are_written c (inr m) = all_written size began es form began_written c m

  all_laid : EditsAreValid size LaidOut (start x) before
  all_laid = edits_valid size IsSoundSetup LaidOut laid_out (start x) before (all_sound size positive x written before asked_before)

  opening_laid : LaidOut (opening x)
  opening_laid = laid_out (opening x) (sound_setup (opening x) written)

  begins_here : Here first_one others all_are_written began.setup (map nodes began.sessions)
  begins_here = record {
    is_written = began_written;
    among = inl refl;
    fit = all_fit size (start x) before all_laid opening_laid (start_fits x opening_laid);
    controllers = refl;
    asn = refl;
    are_asked = (sessions_are_asked size positive x opening_laid before all_laid).1;
  }

  all_asked : EditsAreValid size (IsAsked first_one others all_are_written) began es
  all_asked = edits_both size (λ y. Member (checked y) cs) IsOfForm began es (edits_among size cs began es (λ c h. inr h)) form

  began_calm : Each (IsCalm size positive) began.sessions
  began_calm = calm_of size positive began.sessions (after_sound size positive (start x) before (start_sound size positive x)) begins.whole begins.unbroken

  began_tells : AllTell began
  began_tells n =
      after_told size (start x) before (start_placed x opening_laid.apart) (start_told x) n
      (each_weaker (Joined size) (λ s. s.is_down ≡ false) (λ s j. j.whole) (sessions_of n began.sessions)
      (all_to_own (Joined size) n began.sessions (each_weaker (IsCalm size positive) (λ s. Joined size s × Joined size (turned s)) (λ s c. (c.0, (calm_turned size positive s c).0)) began.sessions began_calm)))

  begins_moment : IsMoment first_one others all_are_written size positive began
  begins_moment = record {
    placed = after_holds size Placed edits_placed (start x) before (start_placed x opening_laid.apart);
    undisturbed = (each_weaker (IsCalm size positive) (IsEasy size positive) (λ s c. inl c) began.sessions began_calm, began_tells);
    routes = routes_after size IsOfForm (start x) before asked_before (start_routes x);
  }

  pub so_many_rounds_later : AreBack size positive first_one others all_are_written rounds now
  so_many_rounds_later =
      subst (λ n. AreBack size positive first_one others all_are_written n now) (from_none rounds)
      (rounds_lead_on first_one others all_are_written size positive 0 began es window all_asked begins_moment (
        begins_here,
        each_weaker (IsCalm size positive) (IsBack first_one others all_are_written size positive 0) (begun first_one others all_are_written size positive) began.sessions began_calm,
      ))
    where
      from_none : (n : ℕ) → 0 + n ≡ n
      from_none n = omega arith
