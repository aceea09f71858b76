-- A compute node moves: with its sessions replaced, and before any control node made its pass, the network is that of the
-- seats from which it has gone and to which it has come.
use Rattle.std.specs.Prelude.{◌≡◌, ◌≢◌, ◌⊎◌, ◌<◌, ℕ, zero, suc, List, [], ◌∷◌, ◌++◌, ◌&&◌, map, length, Bool, true, false, cond}
use Rattle.std.specs.Prelude.{option_and_then}
use Rattle.std.specs.List.{slice_index_or}
use Rattle.std.specs.Option.{option_map, unwrap_or}
use Rattle.std.specs.declared.option.Option.{Option}
use Rattle.std.specs.declared.option.Option.TheVariants.{Some, None}
use Rattle.std.specs.Cmp.Lexicographic.{bytes_decides}
use Rattle.std.proofs.lemmas.Bool.{and_parts, cases_eq, true≢false}
use Rattle.std.proofs.lemmas.List.{length-map, length-set, map-append}
use Rattle.std.proofs.lemmas.Option.{none-some, same_Some}
use Rattle.std.proofs.Common.{refl, sym, ◌∙◌, ap, subst, inl, inr, arith, zero-lt-suc}
use Rattle.ov_types.specs.First.{same_name}
use Rattle.ov_types.specs.declared.rows.NodeId.{NodeId}
use Rattle.config_types.specs.declared.edit.Edit.{Edit}
use Rattle.config_types.specs.declared.topology.Node.{Node}
use Rattle.config_types.specs.declared.topology.Topology.{Topology}
use Rattle.schedule_script.specs.ConfigCheck.Checked.{Checked}
use Rattle.schedule_script.specs.ConfigCheck.Edits.{edit_fault}
use Rattle.schedule_script.specs.ConfigCheck.Rules.{controller_names, node_names}
use Rattle.schedule_script.proofs.ConfigCheck.Validity.{valid_iff}
use Rattle.node_model.specs.Members.{Member}
use Rattle.node_model.proofs.Members.{from_map, in_either, in_map}
use Rattle.node_model.specs.Step.{Post}
use Rattle.machine_laws.specs.MachineModel.Setup.{Move, Name, Setup, agents_in, agents_of, came_at, checked, moves, renumbered, without_agent}
use Rattle.machine_laws.specs.MachineModel.Session.{Message, Open, Keepalive, Hello, Carries, SessionEnd, Session, Agent, is_peering}
use Rattle.machine_laws.specs.MachineModel.Network.{AreNamed, MachineState, brought, config, same_role}
use Rattle.machine_laws.specs.MachineModel.Steps.{session_of}
use Rattle.machine_laws.specs.MachineModel.Events.{Edits}
use Rattle.machine_laws.specs.MachineModel.Moments.{Each, EditIsValid, NumbersFit}
use Rattle.machine_laws.proofs.MachineModel.Changing.{MoverIs, Renews, found_member, renews}
use Rattle.machine_laws.proofs.MachineModel.Distinct.{Apart, apart_of, apart_right, same_false}
use Rattle.machine_laws.proofs.MachineModel.NetworkFact.{found}
use Rattle.machine_laws.specs.Headline.{IsOfForm}
use Rattle.machine_laws.proofs.Names.{is_named}
use Rattle.running_nodes.specs.Seats.{Who, Configuring, Controlling, Forwarding, Seat, agent_plan, control_plan, far_of, name_of, nobody}
use Rattle.running_nodes.specs.Seats.{other, others_of, place_at, place_of, role_of, seat, session_with, whos}
use Rattle.running_nodes.specs.Moving.{is_agent_named, reseated, resettled_at, seats_of}
use Rattle.running_nodes.specs.Stands.{IsEnd, IsLong, IsVacant, KeepsPart, Seats, octets_of}
use Rattle.running_nodes.specs.declared.place.SessionPlace.{SessionPlace}
use Rattle.running_laws.specs.Moments.{IsMoment}
use Rattle.running_laws.specs.Wiring.{IsPlace, name_at, other_at}
use Rattle.running_laws.proofs.FirstPlaces.{at_of_member, member_of_at}
use Rattle.running_laws.proofs.AtMoments.{moment_right}
use Rattle.running_laws.proofs.Building.{SameEnd, part_at, part_none, part_of, part_same, seats_by_places}
use Rattle.running_laws.proofs.Facts.{Facts, IsRight}
use Rattle.running_laws.proofs.Resettled.{resettled_seats, resettled, setup_after}
use Rattle.running_laws.proofs.Lists.{AreFit, EndAt, fit_within, named_by, place_with, seat_elsewhere, seat_here, seats_fit, who_at}
use Rattle.running_laws.proofs.Members.{is_one_of}
use Rattle.running_laws.proofs.MovedFrom.{config_off, mates, site_off}
use Rattle.running_laws.proofs.MovedNodes.{agents_come, who_resettled, resettled_who, moved_who, news, nodes_renoded, renoded}
use Rattle.running_laws.proofs.Named.{AreNodes, are_nodes}
use Rattle.running_laws.proofs.MovedRight.{right_resettled}
use Rattle.running_laws.proofs.MovedSeat.{Fades, fresh_nothing, fresh_room, resettled_fades}
use Rattle.running_laws.proofs.MovedSessions.{IsBare, IsBareFor, bare_turned, brought_own, replaced_bare, replaced_in}
use Rattle.running_laws.proofs.Started.{HasNothing, taken_nowhere}

-- ---- ends
-- there is nothing, and nothing is in the session
vacant_end : (n : Seat) (i : ℕ) (s : Session) → IsVacant n i → HasNothing s.near → HasNothing s.far → IsEnd n i s
vacant_end n i s v h there = record {
  phase = ap (λ (e : SessionEnd). e.phase) h.is ∙ sym (ap (λ (p : Post). p.phase) v.post);
  sent = ap (λ (e : SessionEnd). e.sent) h.is ∙ sym (ap (λ (p : Post). p.sent) v.post);
  held = ap (λ (e : SessionEnd). e.held) h.is ∙ sym (ap (λ (p : Post). p.held) v.post);
  notice = ap (λ (e : SessionEnd). e.notice) h.is ∙ sym v.notice;
  flight = v.link ∙ sym (ap (λ (e : SessionEnd). map (octets_of n.who (is_peering s)) e.flight) h.is);
  breaks = ap (λ (e : SessionEnd). e.breaks) h.is ∙ sym v.breaks;
  taken = ap (λ (e : SessionEnd). e.taken) there.is ∙ sym (taken_nowhere n i v.notice v.kept);
}

-- nodes that spell alike
abbrev SpellAlike : Who → Who → Type 0
SpellAlike a b = (peering : Bool) (m : Message) → octets_of b peering m ≡ octets_of a peering m

end_again : (n n' : Seat) (i : ℕ) (s : Session) → SpellAlike n.who n'.who → SameEnd n n' i → IsEnd n i s → IsEnd n' i s
end_again n n' i s alike same h = record {
  phase = h.phase ∙ ap (λ (p : Post). p.phase) (sym same.post);
  sent = h.sent ∙ ap (λ (p : Post). p.sent) (sym same.post);
  held = h.held ∙ ap (λ (p : Post). p.held) (sym same.post);
  notice = h.notice ∙ sym same.notice;
  flight = same.link ∙ h.flight ∙ (λ j. map (λ m. sym (alike (is_peering s) m) j) s.near.flight);
  breaks = h.breaks ∙ sym same.breaks;
  taken = h.taken ∙ (λ j. cond (sym same.notice j) 0 (length (sym same.kept j)));
}

resettled_spells : (name : Name) (now : Option Node) (who : Who) → SpellAlike who (resettled_who name now who)
resettled_spells name now (Configuring x) b m = refl
resettled_spells name now (Controlling c) true Open = refl
resettled_spells name now (Controlling c) true Keepalive = refl
resettled_spells name now (Controlling c) true Hello = refl
resettled_spells name now (Controlling c) true (Carries d) = refl
resettled_spells name now (Controlling c) false Open = refl
resettled_spells name now (Controlling c) false Keepalive = refl
resettled_spells name now (Controlling c) false Hello = refl
resettled_spells name now (Controlling c) false (Carries d) = refl
resettled_spells name now (Forwarding plan) b m = refl

-- what a configuration node sends does not depend on what is valid
configurations_spell : (a b : Checked) → SpellAlike (Configuring a) (Configuring b)
configurations_spell a b true Open = refl
configurations_spell a b true Keepalive = refl
configurations_spell a b true Hello = refl
configurations_spell a b true (Carries d) = refl
configurations_spell a b false Open = refl
configurations_spell a b false Keepalive = refl
configurations_spell a b false Hello = refl
configurations_spell a b false (Carries d) = refl

resettled_name : (name : Name) (now : Option Node) (who : Who) → name_of (resettled_who name now who) ≡ name_of who
resettled_name name now (Configuring x) = refl
resettled_name name now (Controlling c) = refl
resettled_name name now (Forwarding plan) = refl

-- ---- members of the seats
in_reseated : (name : Name) (new seats : List Seat) → Apart (map (λ (n : Seat). name_of n.who) seats) → (n : Seat)
    → Member n (reseated name new seats) → Member n new ⊎ (Member n seats × (is_agent_named name n ≡ false))
in_reseated name new [] apart n m = inl m
in_reseated name new (h ∷ seats) apart n m =
    elim (is_agent_named name h) as (λ b. is_agent_named name h ≡ b → Member n (cond b (new ++ seats) (h ∷ reseated name new seats))
    → Member n new ⊎ (Member n (h ∷ seats) × (is_agent_named name n ≡ false))) [
      | true ↦ λ e m. elim (in_either n new seats m) as (λ _. Member n new ⊎ (Member n (h ∷ seats) × (is_agent_named name n ≡ false))) [
        | inl i ↦ inl i
        | inr i ↦ inr (inr i, off e i (is_agent_named name n) refl)
      ]
      | false ↦ λ e m. elim m as (λ _. Member n new ⊎ (Member n (h ∷ seats) × (is_agent_named name n ≡ false))) [
        | inl same ↦ inr (inl same, ap (is_agent_named name) (sym same) ∙ e)
        | inr i ↦ elim (in_reseated name new seats apart.1 n i) as (λ _. Member n new ⊎ (Member n (h ∷ seats) × (is_agent_named name n ≡ false))) [
          | inl j ↦ inl j
          | inr q ↦ inr (inr q.0, q.1)
        ]
      ]
    ] refl m
  where
    named : (k : Seat) → is_agent_named name k ≡ true → name_of k.who ≡ name
    named k e = (bytes_decides (name_of k.who) name).0 (and_parts _ (same_name (name_of k.who) name) e).1

    off : is_agent_named name h ≡ true → Member n seats → (b : Bool) → is_agent_named name n ≡ b → is_agent_named name n ≡ false
    off e i true is =
        absurd (apart.0 (name_of n.who) (in_map (λ (n : Seat). name_of n.who) n seats i) (named h e ∙ sym (named n is)))
    off e i false is = is

member_seat : (seats : List Seat) (k : ℕ) → k < length seats → Member (seat seats k) seats
member_seat seats k lt = member_of_at seats k nobody lt

resettled_place : (name : Name) (now : Option Node) (seats : List Seat) (k : ℕ) → k < length (map (resettled_at name now) seats)
    → (k < length seats) × (seat (map (resettled_at name now) seats) k ≡ resettled_at name now (seat seats k))
resettled_place name now [] k lt = absurd (omega (arith, lt))
resettled_place name now (n ∷ seats) zero lt = (omega arith, refl)
resettled_place name now (n ∷ seats) (suc k) lt =
    let q = resettled_place name now seats k (omega (arith, lt)) in
    (let l = q.0 in omega (arith, l), q.1)

-- the first stays the first
first_stays : (name : Name) (new seats : List Seat) → 0 < length seats → is_agent_named name (seat seats 0) ≡ false
    → (0 < length (reseated name new seats)) × (seat (reseated name new seats) 0 ≡ seat seats 0)
first_stays name new [] lt off = absurd (omega (arith, lt))
first_stays name new (n ∷ seats) lt off =
    subst (λ b. (0 < length (cond b (new ++ seats) (n ∷ reseated name new seats))) × (seat (cond b (new ++ seats) (n ∷ reseated name new seats)) 0 ≡ n))
    (sym off) (omega arith, refl)

abbrev place_in : ℕ → ℕ → SessionPlace
place_in k i = record { node = k; session = i }

session_back : (k i : ℕ) (o : Option ℕ) → option_map (place_in k) o ≡ Some (place_in k i) → o ≡ Some i
session_back k i None h = absurd (none-some (place_in k i) h)
session_back k i (Some j) h = ap (λ (p : SessionPlace). Some p.session) (same_Some (place_in k j) (place_in k i) h)

-- a seat of a node with the same sessions
reseat_fades : (name : Name) (n g : Seat) (who : Who) → others_of who ≡ others_of g.who → Fades name n g → Fades name n (record g { who = who })
reseat_fades name n g who same f = record {
  long = record {
    posts = f.long.posts ∙ sym (ap (λ (os : List (Option Name)). length os) same);
    kept = f.long.kept ∙ sym (ap (λ (os : List (Option Name)). length os) same);
    links = f.long.links ∙ sym (ap (λ (os : List (Option Name)). length os) same);
    breaks = f.long.breaks ∙ sym (ap (λ (os : List (Option Name)). length os) same);
    notices = f.long.notices ∙ sym (ap (λ (os : List (Option Name)). length os) same);
  };
  vacant = λ i h. nothing_there i (f.vacant i (at i ∙ h));
  own = λ i h. nothing_there i (f.own i (at i ∙ h));
  others = λ i b h ne.
      let q = f.others i b (at i ∙ h) ne in
      (q.0, record { post = q.1.post; kept = q.1.kept; link = q.1.link; breaks = q.1.breaks; notice = q.1.notice });
}
  where
    at : (i : ℕ) → other g i ≡ slice_index_or (others_of who) i None
    at i = ap (λ (os : List (Option Name)). slice_index_or os i None) (sym same)

    nothing_there : (i : ℕ) → IsVacant g i → IsVacant (record g { who = who }) i
    nothing_there i v = record { post = v.post; kept = v.kept; link = v.link; breaks = v.breaks; notice = v.notice }

-- ---- names
names_map : {A : Type 0} (f : A → Who) (xs : List A) → map name_of (map f xs) ≡ map (λ a. name_of (f a)) xs
names_map f [] = refl
names_map f (x ∷ xs) = ap (λ (ns : List Name). name_of (f x) ∷ ns) (names_map f xs)

seat_names : (seats : List Seat) → map (λ (n : Seat). name_of n.who) seats ≡ map name_of (map (λ (n : Seat). n.who) seats)
seat_names [] = refl
seat_names (n ∷ seats) = ap (λ (ns : List Name). name_of n.who ∷ ns) (seat_names seats)

who_names : (x : Setup) → map name_of (whos x) ≡ config ∷ controller_names x.topology ++ node_names x.topology
who_names x =
    let f : NodeId → Who = λ c. Controlling (control_plan x c) in
    let g : Node → Who = λ n. Forwarding (agent_plan x.topology n) in
    ap (λ (ns : List Name). config ∷ ns)
    (map-append name_of (map f x.topology.controllers) (map g x.topology.nodes)
    ∙ (λ i. names_map f x.topology.controllers i ++ names_map g x.topology.nodes i))

named_of : (w : MachineState) → IsRight w → AreNamed w.setup.topology
named_of w r =
    let t = w.setup.topology in
    (is_named t w.setup.config r.written.topology ((valid_iff t w.setup.config).0 r.written.valid)).apart

names_of_all : (w : MachineState) → IsRight w → Apart (config ∷ controller_names w.setup.topology ++ node_names w.setup.topology)
names_of_all w r =
    let t = w.setup.topology in
    apart_of (config ∷ controller_names t ++ node_names t) (named_of w r)

module _ (facts : Facts) (seats : List Seat) (w : MachineState) (moment : IsMoment w) (stands : Seats seats w) (e : Edit)
    (form : EditIsValid IsOfForm w (Edits e)) (none : edit_fault (checked w.setup) e ≡ None) (m : Move)
    (is : moves e w.setup.topology ≡ Some m) where
  abbrev x : Setup
  x = w.setup

  abbrev y : Setup
  y = setup_after w.setup e

  abbrev t : Topology
  t = x.topology

  abbrev u : Topology
  u = y.topology

  abbrev v : MachineState
  v = resettled m y w

  abbrev new : List Seat
  new = seats_of u m.now

  abbrev r : List Seat
  r = reseated m.name new seats

  abbrev gs : List Seat
  gs = resettled_seats (checked y) m.name m.now r

  right : IsRight w
  right = moment_right facts.moments w moment

  right_v : IsRight v
  right_v = right_resettled facts w moment e form none m is

  -- ---- what the edit makes of the topology
  pub renewed : Renews t u (Some m)
  renewed = subst (Renews t u) is (renews (checked x) e none)

  names : Apart (config ∷ controller_names t ++ node_names t)
  names = names_of_all w right

  pub now_there : (k : Node) → m.now ≡ Some k → Member k u.nodes × (k.name ≡ m.name)
  now_there k now =
      let h : MoverIs m.name (Some k) t u = subst (λ o. MoverIs m.name o t u) now renewed.mover.1 in
      ((found_member m.name u.nodes k h.1).0, h.0)

  -- it alone has its name
  pub nodes_before : AreNodes t
  nodes_before = are_nodes x right.written.topology right.written.valid

  pub nodes_then : AreNodes u
  nodes_then = are_nodes y right_v.written.topology right_v.written.valid

  config_is_off : config ≢ m.name
  config_is_off = config_off m.name m.now x u nodes_before nodes_then renewed.controllers renewed.mover.1

  site_is_off : (d : NodeId) → Member d t.controllers → d.name ≢ m.name
  site_is_off = site_off m.name m.now x u nodes_before nodes_then renewed.controllers renewed.mover.1

  pub nodes_are : u.nodes ≡ renoded m.name (news m.now) t.nodes
  nodes_are = nodes_renoded (checked x) e none (apart_right (controller_names t) (node_names t) names.1) m is

  pub agents_are : (c : NodeId) → Member c t.controllers → agents_of y c.name ≡ came_at m.now c.name (without_agent m.name (agents_of x c.name))
  agents_are c i =
      let ns = ap (λ o. renumbered o x.numbers) is in
      ap (λ l. agents_in l c.name) ns
      ∙ agents_come m u c x.numbers
      (subst (λ l. NumbersFit u c (agents_in l c.name)) ns (right_v.numbers c (subst (Member c) (sym renewed.controllers) i)))
      (λ k now. (now_there k now).0)

  who_is : map (λ (n : Seat). n.who) gs ≡ whos y
  who_is = moved_who x y m.name m.now renewed.asn renewed.controllers nodes_are agents_are seats stands.who

  -- ---- a seat that was there, and stays
  pub fit : AreFit seats
  fit = seats_fit seats w stands

  sole : (k : ℕ) (i : ℕ) → other (seat seats k) i ≡ Some m.name → session_with (seat seats k) m.name ≡ Some i
  sole k i h =
      let p : SessionPlace = record { node = k; session = i } in
      let at : IsPlace seats p = place_with seats p m.name h in
      let other_is : other_at seats p ≡ m.name = ap (λ (o : Option Name). unwrap_or o []) h in
      let found : place_of seats (name_at seats p) m.name ≡ Some p =
      ap (place_of seats (name_at seats p)) (sym other_is) ∙ facts.wired.place x seats p right.written right.numbers stands.who at
      in
      session_back k i (session_with (seat seats k) m.name)
      (sym (ap (place_at seats m.name) (named_by seats (name_at seats p) m.name p found)) ∙ found)

  was_fades : (k : ℕ) → k < length seats → Fades m.name (seat seats k) (resettled_at m.name m.now (seat seats k))
  was_fades k lt =
      resettled_fades m.name m.now (λ n now. (now_there n now).1) (seat seats k) (stands.long k lt)
      (λ i h. fit.vacant (record { node = k; session = i }) h) (sole k)
      (λ i h. mates m.name m.now x u nodes_before nodes_then renewed.controllers renewed.mover.1 i (seat seats k).who
      (is_one_of seats w stands k lt) h)

  -- what a seat comes from: one that was there, or a fresh one
  record Was (n : Seat) : Type 0 where
    from : ℕ
    within : from < length seats
    fades : Fades m.name (seat seats from) n
    name : name_of n.who ≡ name_of (seat seats from).who
    spells : SpellAlike (seat seats from).who n.who
    apart : name_of n.who ≡ m.name → ⊥

  record Came (n : Seat) : Type 0 where
    long : IsLong n
    vacant : (i : ℕ) → IsVacant n i
    name : name_of n.who ≡ m.name

  -- of those that were there an agent alone may have its name
  agent_of_name : (who : Who) → Member who (whos x) → name_of who ≡ m.name → (same_role Agent (role_of who) && same_name (name_of who) m.name) ≡ true
  agent_of_name who (inl same) h = absurd (config_is_off (ap name_of same ∙ h))
  agent_of_name who (inr i) h =
      let f : NodeId → Who = λ c. Controlling (control_plan x c) in
      let g : Node → Who = λ n. Forwarding (agent_plan t n) in
      elim (in_either who (map f t.controllers) (map g t.nodes) i) as (λ _. (same_role Agent (role_of who) && same_name (name_of who) m.name) ≡ true) [
        | inl j ↦
            let q = from_map f who t.controllers j in
            absurd (site_is_off q.0 q.1 (ap name_of q.2 ∙ h))
        | inr j ↦
            let q = from_map g who t.nodes j in
            ap (λ w. same_role Agent (role_of w) && same_name (name_of w) m.name) (sym q.2)
            ∙ (bytes_decides q.0.name m.name).1 (ap name_of q.2 ∙ h)
      ]

  was_there : (k : ℕ) → k < length seats → is_agent_named m.name (seat seats k) ≡ false → Was (resettled_at m.name m.now (seat seats k))
  was_there k lt off =
      let n = seat seats k in
      let named : name_of (resettled_at m.name m.now n).who ≡ name_of n.who =
      ap name_of (who_resettled m.name m.now n) ∙ resettled_name m.name m.now n.who in
      record {
        from = k;
        within = lt;
        fades = was_fades k lt;
        name = named;
        spells = λ b c. ap (λ w. octets_of w b c) (who_resettled m.name m.now n) ∙ resettled_spells m.name m.now n.who b c;
        apart = λ h. true≢false (sym (agent_of_name n.who (is_one_of seats w stands k lt) (sym named ∙ h)) ∙ off);
      }

  came_here : (now : Option Node) → ((k : Node) → now ≡ Some k → k.name ≡ m.name) → (n : Seat) → Member n (seats_of u now) → Came (resettled_at m.name now n)
  came_here None named n i = absurd i
  came_here (Some k) named n (inl same) =
      subst (λ n. Came (resettled_at m.name (Some k) n)) same (record {
        long = fresh_room (Forwarding (agent_plan u k));
        vacant = fresh_nothing (Forwarding (agent_plan u k));
        name = named k refl;
      })
  came_here (Some k) named n (inr i) = absurd i

  -- the configuration node
  abbrev root : Seat
  root = record (seat (map (resettled_at m.name m.now) r) 0) { who = Configuring (checked y) }

  some_seats : 0 < length seats
  some_seats = subst (λ k. 0 < k) (length-map seats (λ (n : Seat). n.who)) (subst (λ ws. 0 < length ws) (sym stands.who) (zero-lt-suc _))

  root_who : (seat seats 0).who ≡ Configuring (checked x)
  root_who = who_at seats 0 ∙ ap (λ ws. slice_index_or ws 0 nobody.who) stands.who

  root_no_agent : is_agent_named m.name (seat seats 0) ≡ false
  root_no_agent = ap (λ w. same_role Agent (role_of w) && same_name (name_of w) m.name) root_who

  -- which goes and comes like all others, and stays as it was
  root_is : seat (map (resettled_at m.name m.now) r) 0 ≡ resettled_at m.name m.now (seat seats 0)
  root_is =
      let first = first_stays m.name new seats some_seats root_no_agent in
      let long : 0 < length (map (resettled_at m.name m.now) r) = subst (λ k. 0 < k) (sym (length-map r (resettled_at m.name m.now))) first.0 in
      (resettled_place m.name m.now r 0 long).1 ∙ ap (resettled_at m.name m.now) first.1

  pub root_stays : (seat (map (resettled_at m.name m.now) r) 0).who ≡ Configuring (checked x)
  root_stays =
      ap (λ (n : Seat). n.who) root_is ∙ who_resettled m.name m.now (seat seats 0) ∙ ap (resettled_who m.name m.now) root_who

  root_was : Was root
  root_was =
      let g : Seat = resettled_at m.name m.now (seat seats 0) in
      let g_who : g.who ≡ Configuring (checked x) = sym (ap (λ (n : Seat). n.who) root_is) ∙ root_stays in
      let same : others_of (Configuring (checked y)) ≡ others_of g.who =
      ap (λ (cs : List NodeId). map (λ (n : NodeId). Some n.name) cs) renewed.controllers ∙ ap others_of (sym g_who) in
      subst (λ (g : Seat). Was (record g { who = Configuring (checked y) })) (sym root_is) (record {
        from = 0;
        within = some_seats;
        fades = reseat_fades m.name (seat seats 0) g (Configuring (checked y)) same (was_fades 0 some_seats);
        name = ap name_of (sym root_who);
        spells = λ b c. configurations_spell (checked x) (checked y) b c ∙ ap (λ w. octets_of w b c) (sym root_who);
        apart = λ h. config_is_off h;
      })

  seats_apart : Apart (map (λ (n : Seat). name_of n.who) seats)
  seats_apart = subst Apart (sym (seat_names seats ∙ ap (map name_of) stands.who ∙ who_names x)) names

  origin : (k : ℕ) → k < length gs → Was (seat gs k) ⊎ Came (seat gs k)
  origin k lt = by (cases_eq k 0)
    where
      less : k < length (map (resettled_at m.name m.now) r)
      less = subst (λ l. k < l) (length-set (map (resettled_at m.name m.now) r) 0 root) lt

      other_seat : (k ≢ 0) → Was (seat gs k) ⊎ Came (seat gs k)
      other_seat ne =
          let q = resettled_place m.name m.now r k less in
          let here : seat gs k ≡ resettled_at m.name m.now (seat r k) = seat_elsewhere 0 k root (map (resettled_at m.name m.now) r) ne ∙ q.1 in
          elim (in_reseated m.name new seats seats_apart (seat r k) (member_seat r k q.0)) as (λ _. Was (seat gs k) ⊎ Came (seat gs k)) [
            | inl i ↦ inr (subst Came (sym here) (came_here m.now (λ n now. (now_there n now).1) (seat r k) i))
            | inr i ↦
                let j = at_of_member (seat r k) seats nobody i.0 in
                inl (subst Was (ap (resettled_at m.name m.now) j.2 ∙ sym here) (was_there j.0 j.1 (ap (is_agent_named m.name) j.2 ∙ i.1)))
          ]

      by : (k ≡ 0) ⊎ (k ≢ 0) → Was (seat gs k) ⊎ Came (seat gs k)
      by (inl e) =
          inl (subst (λ k. Was (seat gs k)) (sym e)
          (subst Was (sym (seat_here 0 root (map (resettled_at m.name m.now) r) (subst (λ k. k < length (map (resettled_at m.name m.now) r)) e less))) root_was))
      by (inr ne) = other_seat ne

  -- ---- the sessions
  off_config : same_name config m.name ≡ false
  off_config = same_false config m.name config_is_off

  bare : Each (IsBareFor m.name) v.sessions
  bare =
      replaced_bare m.name t off_config
      (λ c i. same_false c.name m.name (site_is_off c i))
      u.controllers m.now w.sessions right.sessions

  bare_found : (a b : Name) (s : Session) → session_of v a b ≡ Some s
      → ((same_name s.near.name m.name ≡ true) ⊎ (same_name s.far.name m.name ≡ true)) → IsBare m.name s
  bare_found a b s h = found (IsBareFor m.name) (bare_turned m.name) v.sessions a b bare s h

  same_session : (a b : Name) → (a ≡ m.name → ⊥) → (b ≡ m.name → ⊥) → session_of v a b ≡ session_of w a b
  same_session a b off_a off_b =
      replaced_in m.name a b off_a off_b (brought u.controllers m.now) w.sessions
      (brought_own m.name u.controllers m.now (λ k now. (now_there k now).1))

  -- ---- the ends
  name_or_not : (b : Name) → (b ≡ m.name) ⊎ (b ≢ m.name)
  name_or_not b = by (same_name b m.name) refl
    where
      by : (c : Bool) → same_name b m.name ≡ c → (b ≡ m.name) ⊎ (b ≢ m.name)
      by true h = inl ((bytes_decides b m.name).0 h)
      by false h = inr (λ same. true≢false (sym ((bytes_decides b m.name).1 same) ∙ h))

  -- the session with it, or of it, with nothing at its end
  bare_end : (p : SessionPlace) (at : IsPlace gs p) → IsVacant (seat gs p.node) p.session
      → ((name_at gs p ≡ m.name) ⊎ (other_at gs p ≡ m.name)) → EndAt v gs p
  bare_end p at vacant which =
      let h = facts.wired.session v gs p right_v.written right_v.numbers right_v.sessions who_is at in
      let b : IsBare m.name h.session =
      bare_found (name_at gs p) (other_at gs p) h.session h.found (by h.near_name h.far_name which) in
      record { session = h.session; found = h.found; is = vacant_end (seat gs p.node) p.session h.session vacant b.0 b.1 }
    where
      by : {a b : Name} → a ≡ name_at gs p → b ≡ other_at gs p → ((name_at gs p ≡ m.name) ⊎ (other_at gs p ≡ m.name))
          → (same_name a m.name ≡ true) ⊎ (same_name b m.name ≡ true)
      by {a} {b} e f (inl i) = inl ((bytes_decides a m.name).1 (e ∙ i))
      by {a} {b} e f (inr i) = inr ((bytes_decides b m.name).1 (f ∙ i))

  -- one that was there
  old_end : (p : SessionPlace) (at : IsPlace gs p) (q : Was (seat gs p.node)) → other_at gs p ≢ m.name → EndAt v gs p
  old_end p at q ne =
      let f = q.fades.others p.session (other_at gs p) at.somebody ne in
      let here : IsPlace seats (record { node = q.from; session = p.session }) =
      place_with seats (record { node = q.from; session = p.session }) (other_at gs p) f.0 in
      let h = stands.ends q.from p.session q.within (subst (λ k. p.session < k) (sym (stands.long q.from q.within).posts) here.session)
      (other_at gs p) f.0 in
      record {
        session = h.session;
        found = same_session (name_at gs p) (other_at gs p) q.apart ne
            ∙ ap (λ a. session_of w a (other_at gs p)) q.name ∙ h.found;
        is = end_again (seat seats q.from) (seat gs p.node) p.session h.session q.spells f.1 h.is;
      }

  end_is : (p : SessionPlace) → IsPlace gs p → EndAt v gs p
  end_is p at =
      elim (origin p.node at.node) as (λ _. EndAt v gs p) [
        | inl q ↦ elim (name_or_not (other_at gs p)) as (λ _. EndAt v gs p) [
          | inl same ↦ bare_end p at (q.fades.own p.session (at.somebody ∙ ap Some same)) (inr same)
          | inr ne ↦ old_end p at q ne
        ]
        | inr q ↦ bare_end p at (q.vacant p.session) (inl q.name)
      ]

  -- ---- what is kept
  bare_part : (p : SessionPlace) → IsVacant (seat gs p.node) p.session → KeepsPart gs p
  bare_part p vacant far h = part_none (seat gs p.node) p.session (seat gs far.node) far.session vacant.kept

  old_part : (p : SessionPlace) (at : IsPlace gs p) (q : Was (seat gs p.node)) → other_at gs p ≢ m.name → KeepsPart gs p
  old_part p at q ne =
      let hf = facts.wired.far y gs p right_v.written right_v.numbers who_is at in
      let a = name_at gs p in
      let b = other_at gs p in
      let f = q.fades.others p.session b at.somebody ne in
      let here : SessionPlace = record { node = q.from; session = p.session } in
      let is_here : IsPlace seats here = place_with seats here b f.0 in
      elim (origin hf.far.node hf.is_place.node) as (λ _. KeepsPart gs p) [
        | inl z ↦
            let g = z.fades.others hf.far.session a (hf.is_place.somebody ∙ ap Some hf.other) q.apart in
            let there : SessionPlace = record { node = z.from; session = hf.far.session } in
            let is_there : IsPlace seats there = place_with seats there a g.0 in
            let near_name : name_at seats there ≡ b = sym z.name ∙ hf.name in
            let far_name : other_at seats there ≡ name_at seats here = ap (λ (o : Option Name). unwrap_or o []) g.0 ∙ q.name in
            let found : far_of seats here ≡ Some there =
            ap (option_and_then (λ b. place_of seats b (name_at seats here))) f.0
            ∙ (λ i. place_of seats (sym near_name i) (sym far_name i))
            ∙ facts.wired.place x seats there right.written right.numbers stands.who is_there
            in
            part_of gs p hf.far hf.found
            (part_same (seat seats q.from) (seat gs p.node) p.session (seat seats z.from) (seat gs hf.far.node) hf.far.session f.1 g.1.link
            (part_at seats here there found
            (stands.parts q.from p.session q.within
            (subst (λ k. p.session < k) (sym (stands.long q.from q.within).posts) is_here.session))))
        | inr z ↦ absurd (ne (sym hf.name ∙ z.name))
      ]

  part_is : (p : SessionPlace) → IsPlace gs p → KeepsPart gs p
  part_is p at =
      elim (origin p.node at.node) as (λ _. KeepsPart gs p) [
        | inl q ↦ elim (name_or_not (other_at gs p)) as (λ _. KeepsPart gs p) [
          | inl same ↦ bare_part p (q.fades.own p.session (at.somebody ∙ ap Some same))
          | inr ne ↦ old_part p at q ne
        ]
        | inr q ↦ bare_part p (q.vacant p.session)
      ]

  fit_is : AreFit gs
  fit_is =
      fit_within gs
      (λ k lt. elim (origin k lt) as (λ _. IsLong (seat gs k)) [ inl q ↦ q.fades.long | inr q ↦ q.long ])
      (λ k i lt less h. elim (origin k lt) as (λ _. IsVacant (seat gs k) i) [ inl q ↦ q.fades.vacant i h | inr q ↦ q.vacant i ])

  pub base_stands : Seats gs v
  base_stands = seats_by_places gs v who_is fit_is end_is part_is
