-- An agent that goes from all control nodes, and comes to those that it lists.
use Rattle.std.specs.Prelude.{◌≡◌, ◌≢◌, ◌⊎◌, ◌+◌, ◌<◌, ◌≤◌, ℕ, zero, suc, List, [], ◌∷◌, length, map, true, false, cond}
use Rattle.std.specs.Prelude.{slice_get}
use Rattle.std.specs.declared.option.Option.{Option}
use Rattle.std.specs.declared.option.Option.TheVariants.{Some, None}
use Rattle.std.specs.List.{slice_set}
use Rattle.std.specs.Option.{option_map}
use Rattle.std.proofs.Common.{refl, sym, ◌∙◌, ap, subst, arith, inl, inr, get_or}
use Rattle.std.proofs.lemmas.Bool.{cases_eq}
use Rattle.std.proofs.lemmas.List.{ext_get_or, get_or-map, length-append, length-map, map-set, set-get_or}
use Rattle.std.proofs.lemmas.Option.{same_Some}
use Rattle.ov_types.specs.declared.rows.NodeId.{NodeId}
use Rattle.config_check.specs.Checked.{Checked}
use Rattle.config_types.specs.declared.topology.Node.{Node}
use Rattle.config_types.specs.declared.topology.Topology.{Topology}
use Rattle.running_nodes.specs.ControlNode.Agents.{put_at}
use Rattle.running_nodes.specs.MachineModel.Setup.{Name, id_of, is_listed, lists, with_agent, without_agent}
use Rattle.running_nodes.specs.Controls.{Controls, first_agent}
use Rattle.running_nodes.specs.Moving.{came_to, is_listed_who, joined, joined_at, joined_by, number_in, resettled_at, resettled_by, retired_of}
use Rattle.running_nodes.specs.Moving.{vacated}
use Rattle.running_nodes.specs.Seats.{Who, Configuring, Controlling, Forwarding, Seat, name_of, name_there, names_of, nobody, others_of}
use Rattle.running_nodes.specs.Seats.{seat, seat_named, session_with}
use Rattle.running_nodes.specs.Stands.{IsLong}
use Rattle.running_nodes.specs.Steps.{with_seat}
use Rattle.running_laws.proofs.MovedNodes.{resettled_who, who_resettled}
use Rattle.running_laws.proofs.MovedSeat.{gone_long}
use Rattle.net_machine.specs.Moving.{AreFound, CanLeave, GoesFrom, HasControls, HasRoom, control_name, left_at}
use Rattle.net_machine.proofs.Alike.{named_by_names}
use Rattle.net_machine.proofs.Kept.{with_count, with_here, with_there, with_twice}
use Rattle.net_machine.proofs.Leaving.{posts_vacated}

-- ---- the control node has an end for it
one_suc : (n : ℕ) → suc n ≡ 1 + n
one_suc n = omega arith

none_more : (n : ℕ) → 0 + n ≡ n
none_more n = omega arith

suc_more : (m n : ℕ) → suc m + n ≡ suc (m + n)
suc_more m n = omega arith

both_more : (m n : ℕ) → suc (m + n) ≡ 1 + m + n
both_more m n = omega arith

put_first : {X : Type 0} (x : X) (a : NodeId) (agents : List (Option NodeId)) (xs : List X) → length xs ≡ length agents
    → length (put_at xs (number_in agents) x) ≡ length (with_agent a agents)
put_first x a [] [] e = refl
put_first x a [] (y ∷ ys) e = absurd (omega (arith, e))
put_first x a (None ∷ agents) [] e = absurd (omega (arith, e))
put_first x a (None ∷ agents) (y ∷ ys) e = e
put_first x a (Some b ∷ agents) [] e = absurd (omega (arith, e))
put_first x a (Some b ∷ agents) (y ∷ ys) e =
    subst (λ m. length (put_at (y ∷ ys) m x) ≡ suc (length (with_agent a agents))) (one_suc (number_in agents))
    (ap suc (put_first x a agents ys (omega (arith, e))))

put_behind : {X : Type 0} (m : ℕ) (x : X) (a : NodeId) (agents : List (Option NodeId)) (xs : List X)
    → length xs ≡ m + length agents → length (put_at xs (m + number_in agents) x) ≡ m + length (with_agent a agents)
put_behind zero x a agents xs e =
    subst (λ m. length (put_at xs m x) ≡ 0 + length (with_agent a agents)) (sym (none_more (number_in agents)))
    (put_first x a agents xs (e ∙ none_more (length agents)) ∙ sym (none_more (length (with_agent a agents))))
put_behind (suc m) x a agents [] e = absurd (omega (arith, e))
put_behind (suc m) x a agents (y ∷ ys) e =
    subst (λ k. length (put_at (y ∷ ys) k x) ≡ suc m + length (with_agent a agents)) (sym (suc_more m (number_in agents)))
    (ap suc (put_behind m x a agents ys (omega (arith, e))) ∙ sym (suc_more m (length (with_agent a agents))))

others_count : (c : Controls) → length (others_of (Controlling c)) ≡ first_agent c + length c.agents
others_count c =
    ap suc (length-append (names_of c.peers) (map name_there c.agents)
    ∙ (λ i. length-map c.peers (λ (n : NodeId). Some n.name) i + length-map c.agents name_there i))
    ∙ both_more (length c.peers) (length c.agents)

joined_long : (c : Controls) (a : NodeId) (n : Seat) → n.who ≡ Controlling c → IsLong n → IsLong (joined_at c a n)
joined_long c a n who is =
    let before = ap (λ (w : Who). length (others_of w)) who ∙ others_count c in
    let after = sym (others_count (record c { agents = with_agent a c.agents })) in
    record {
      posts = put_behind (first_agent c) _ a c.agents n.posts (is.posts ∙ before) ∙ after;
      kept = put_behind (first_agent c) _ a c.agents n.kept (is.kept ∙ before) ∙ after;
      links = put_behind (first_agent c) _ a c.agents n.links (is.links ∙ before) ∙ after;
      breaks = put_behind (first_agent c) _ a c.agents n.breaks (is.breaks ∙ before) ∙ after;
      notices = put_behind (first_agent c) _ a c.agents n.notices (is.notices ∙ before) ∙ after;
    }

came_long : (now : Option Node) (n : Seat) (c : Controls) → n.who ≡ Controlling c → IsLong n → IsLong (came_to now n)
came_long None n c who is = is
came_long (Some k) n c who is =
    subst (λ w. IsLong (cond (is_listed_who k w) (joined_by w (id_of k) n) n)) (sym who)
    (elim (is_listed c.me.name k) as (λ b. IsLong (cond b (joined_at c (id_of k) n) n)) [
      | true ↦ joined_long c (id_of k) n who is
      | false ↦ is
    ])

-- ---- which seats are those of control nodes
some_control : (w : Who) (name : Name) → control_name w ≡ Some name
    → (c : Controls) × ((w ≡ Controlling c) × (c.me.name ≡ name))
some_control (Configuring x) name e = cc
some_control (Controlling c) name e = (c, (refl, same_Some c.me.name name e))
some_control (Forwarding plan) name e = cc

pub is_controlling : (seats : List Seat) (k : ℕ) (name : Name) → control_name (seat seats k).who ≡ Some name
    → (c : Controls) × ((seat seats k).who ≡ Controlling c)
is_controlling seats k name e = let q = some_control (seat seats k).who name e in (q.0, q.1.0)

pub control_within : (seats : List Seat) (k : ℕ) (name : Name) → control_name (seat seats k).who ≡ Some name
    → k < length seats
control_within [] k name e = cc
control_within (n ∷ seats) zero name e = omega arith
control_within (n ∷ seats) (suc k) name e = let h = control_within seats k name e in omega (arith, h)

pub listed_there : (n : Node) (w : Who) (c : NodeId) → control_name w ≡ Some c.name → is_listed_who n w ≡ lists n c
listed_there n w c e =
    let q = some_control w c.name e in
    ap (is_listed_who n) q.1.0 ∙ ap (λ name. is_listed name n) q.1.1

-- ---- one control node
-- where the agent lists it, it joins
pub joined_there : (n : Node) (s : Seat) (c : NodeId) → control_name s.who ≡ Some c.name → lists n c ≡ true
    → joined (id_of n) s ≡ came_to (Some n) s
joined_there n s c named listed = sym (ap (λ b. cond b (joined (id_of n) s) s) (listed_there n s.who c named ∙ listed))

pub stays_there : (n : Node) (seats : List Seat) (k : ℕ) (c : NodeId) → control_name (seat seats k).who ≡ Some c.name
    → lists n c ≡ false → seats ≡ with_seat k (came_to (Some n) (seat seats k)) seats
stays_there n seats k c named off =
    let s = seat seats k in
    sym (ap (λ m. with_seat k m seats) (ap (λ b. cond b (joined (id_of n) s) s) (listed_there n s.who c named ∙ off))
    ∙ set-get_or seats k nobody)

-- a seat that is stored where it stood
pub same_seat : (seats : List Seat) (k : ℕ) → seats ≡ with_seat k (seat seats k) seats
same_seat seats k = sym (set-get_or seats k nobody)

-- ---- the agent goes from it and comes to it
module _ (name : Name) (now : Option Node) where
  abbrev f : Seat → Seat
  f = resettled_at name now

  pub at_control : (n : Seat) (c : Controls) → n.who ≡ Controlling c → f n ≡ came_to now (vacated name n)
  at_control n c is = ap (λ w. resettled_by w name now n) is

  pub at_others : (n : Seat) → control_name n.who ≡ None → f n ≡ n
  at_others n = by_who n.who
    where
      by_who : (w : Who) → control_name w ≡ None → resettled_by w name now n ≡ n
      by_who (Configuring x) e = refl
      by_who (Controlling c) e = cc
      by_who (Forwarding plan) e = refl

  same_name_who : (w : Who) → name_of (resettled_who name now w) ≡ name_of w
  same_name_who (Configuring x) = refl
  same_name_who (Controlling c) = refl
  same_name_who (Forwarding plan) = refl

  same_control_who : (w : Who) → control_name (resettled_who name now w) ≡ control_name w
  same_control_who (Configuring x) = refl
  same_control_who (Controlling c) = refl
  same_control_who (Forwarding plan) = refl

  pub same_name_at : (n : Seat) → name_of (f n).who ≡ name_of n.who
  same_name_at n = ap name_of (who_resettled name now n) ∙ same_name_who n.who

  pub same_control_at : (n : Seat) → control_name (f n).who ≡ control_name n.who
  same_control_at n = ap control_name (who_resettled name now n) ∙ same_control_who n.who

  pub same_names : (seats : List Seat) → map (λ (n : Seat). name_of n.who) (map f seats) ≡ map (λ (n : Seat). name_of n.who) seats
  same_names [] = refl
  same_names (n ∷ seats) = λ i. same_name_at n i ∷ same_names seats i

  pub first_at : (n : Seat) (x : Checked) → n.who ≡ Configuring x → (f n).who ≡ Configuring x
  first_at n x is = who_resettled name now n ∙ ap (resettled_who name now) is

  pub long_at : (n : Seat) → IsLong n → IsLong (f n)
  long_at n long = by_who n.who refl
    where
      by_who : (w : Who) → n.who ≡ w → IsLong (resettled_by w name now n)
      by_who (Configuring x) is = long
      by_who (Controlling c) is =
          came_long now (vacated name n) (record c { agents = without_agent name c.agents }) (ap (retired_of name) is)
          (gone_long name n (session_with n name) long)
      by_who (Forwarding plan) is = long

-- ---- places in lists
pub get_past : {X : Type 0} (xs : List X) (i : ℕ) → length xs ≤ i → slice_get xs i ≡ None
get_past [] i h = refl
get_past (x ∷ xs) zero h = absurd (omega (arith, h))
get_past (x ∷ xs) (suc i) h = get_past xs i (omega (arith, h))

pub get_at : {X : Type 0} (xs : List X) (i : ℕ) (d : X) → i < length xs → slice_get xs i ≡ Some (get_or xs i d)
get_at [] i d h = absurd (omega (arith, h))
get_at (x ∷ xs) zero d h = refl
get_at (x ∷ xs) (suc i) d h = get_at xs i d (omega (arith, h))

pub up_to : (k i : ℕ) → (k ≤ i) ⊎ (i < k)
up_to zero i = inl (omega arith)
up_to (suc k) zero = inr (omega arith)
up_to (suc k) (suc i) =
    elim (up_to k i) as (λ _. (suc k ≤ suc i) ⊎ (suc i < suc k)) [
      | inl h ↦ inl (omega (arith, h))
      | inr h ↦ inr (omega (arith, h))
    ]

-- ---- first it goes, and then it comes
module _ (seats : List Seat) (k : ℕ) (name control : Name) (named : control_name (seat seats k).who ≡ Some control)
    (found : seat_named seats control ≡ Some k) where
  pub goes_from : CanLeave name (seat seats k) → GoesFrom seats name control
  goes_from leaves =
      let q = is_controlling seats k control named in
      record { node = k; is = found; controls = q.0; who = q.1; leaves = leaves }

  module _ (between : List Seat) (left : between ≡ left_at name (seat_named seats control) seats) where
    abbrev v : Seat
    v = vacated name (seat seats k)

    left_here : between ≡ with_seat k v seats
    left_here = left ∙ ap (λ o. left_at name o seats) found

    left_there : seat between k ≡ v
    left_there = ap (λ ss. seat ss k) left_here ∙ with_here seats k v (control_within seats k control named)

    retired_control : (w : Who) → control_name (retired_of name w) ≡ control_name w
    retired_control (Configuring x) = refl
    retired_control (Controlling c) = refl
    retired_control (Forwarding plan) = refl

    pub control_left : control_name (seat between k).who ≡ Some control
    control_left = ap (λ (n : Seat). control_name n.who) left_there ∙ retired_control (seat seats k).who ∙ named

    pub room_left : length (seat seats k).posts < 65535 → length (seat between k).posts < 65535
    room_left room =
        subst (λ m. m < 65535) (sym (ap (λ (n : Seat). length n.posts) left_there ∙ posts_vacated name (seat seats k))) room

    pub resettled_both : (now : Option Node) (after : List Seat)
        → after ≡ with_seat k (came_to now (seat between k)) between
        → after ≡ with_seat k (resettled_at name now (seat seats k)) seats
    resettled_both now after is =
        let q = is_controlling seats k control named in
        is ∙ (λ i. with_seat k (came_to now (left_there i)) (left_here i))
        ∙ with_twice seats k v (came_to now v)
        ∙ ap (λ n. with_seat k n seats) (sym (at_control name now (seat seats k) q.0 q.1))

-- ---- all of them in turn
-- nodes that are stored where they stood have the names that they had
name_at_seat : (seats : List Seat) (k : ℕ)
    → name_of (seat seats k).who ≡ get_or (map (λ (n : Seat). name_of n.who) seats) k (name_of nobody.who)
name_at_seat [] k = refl
name_at_seat (n ∷ seats) zero = refl
name_at_seat (n ∷ seats) (suc k) = name_at_seat seats k

names_with : (seats : List Seat) (k : ℕ) (m : Seat) → name_of m.who ≡ name_of (seat seats k).who
    → map (λ (n : Seat). name_of n.who) (with_seat k m seats) ≡ map (λ (n : Seat). name_of n.who) seats
names_with seats k m e =
    map-set (λ (n : Seat). name_of n.who) seats k m
    ∙ ap (slice_set (map (λ (n : Seat). name_of n.who) seats) k) (e ∙ name_at_seat seats k)
    ∙ set-get_or (map (λ (n : Seat). name_of n.who) seats) k (name_of nobody.who)

-- the first i control nodes are as they are then
pub record UpTo (f : Seat → Seat) (i : ℕ) (seats after : List Seat) : Type 0 where
  pub count : length after ≡ length seats
  pub names : map (λ (n : Seat). name_of n.who) after ≡ map (λ (n : Seat). name_of n.who) seats
  pub done : (k : ℕ) → 0 < k → k ≤ i → seat after k ≡ f (seat seats k)
  pub left : (k : ℕ) → (k ≡ 0) ⊎ (i < k) → seat after k ≡ seat seats k

pub up_to_none : (f : Seat → Seat) (seats : List Seat) → UpTo f 0 seats seats
up_to_none f seats =
    record { count = refl; names = refl; done = λ k above below. absurd (omega (arith, above, below)); left = λ k e. refl }

none_behind : (t : Topology) (seats : List Seat) (k : ℕ) → HasControls t seats → (k ≡ 0) ⊎ (length t.controllers < k)
    → control_name (seat seats k).who ≡ None
none_behind t seats zero o off = o 0
none_behind t seats (suc j) o (inl e) = absurd (omega (arith, e))
none_behind t seats (suc j) o (inr h) =
    o (suc j) ∙ ap (option_map (λ (c : NodeId). c.name)) (get_past t.controllers j (omega (arith, h)))

module _ (t : Topology) (name : Name) (now : Option Node) (seats after : List Seat) (i : ℕ) (o : HasControls t seats)
    (up : UpTo (resettled_at name now) i seats after) where
  pub all_resettled : length t.controllers ≤ i → after ≡ map (resettled_at name now) seats
  all_resettled low =
      ext_get_or nobody after (map (f name now) seats) (up.count ∙ sym (length-map seats (f name now))) (λ k below.
      let within : k < length seats = subst (λ m. k < m) up.count below in
      at k ∙ sym (get_or-map (f name now) seats k nobody nobody within))
    where
      still : (k : ℕ) → (k ≡ 0) ⊎ (i < k) → seat after k ≡ f name now (seat seats k)
      still k off =
          up.left k off
          ∙ sym (at_others name now (seat seats k)
          (none_behind t seats k o (elim off as (λ _. (k ≡ 0) ⊎ (length t.controllers < k)) [ inl e ↦ inl e | inr h ↦ inr (omega (arith, h, low)) ])))

      at : (k : ℕ) → seat after k ≡ f name now (seat seats k)
      at zero = still 0 (inl refl)
      at (suc j) =
          elim (up_to (suc j) i) as (λ _. seat after (suc j) ≡ f name now (seat seats (suc j))) [
            | inl most ↦ up.done (suc j) (omega arith) most
            | inr behind ↦ still (suc j) (inr behind)
          ]

  -- the next control node, as it is read from the topology
  module _ (k : ℕ) (cs : List NodeId) (c d : NodeId) (below : i < length cs) (is : c ≡ get_or cs i d)
      (cs_is : cs ≡ t.controllers) (k_is : k ≡ 1 + i) where
    k_suc : k ≡ suc i
    k_suc = k_is ∙ sym (one_suc i)

    was_there : control_name (seat seats (suc i)).who ≡ Some c.name
    was_there =
        o (suc i)
        ∙ ap (option_map (λ (c : NodeId). c.name)) (get_at t.controllers i d (subst (λ (ds : List NodeId). i < length ds) cs_is below))
        ∙ ap (λ (c : NodeId). Some c.name) (sym (is ∙ ap (λ (ds : List NodeId). get_or ds i d) cs_is))

    as_it_was : seat after k ≡ seat seats (suc i)
    as_it_was = ap (seat after) k_suc ∙ up.left (suc i) (inr (omega arith))

    pub next_control : control_name (seat after k).who ≡ Some c.name
    next_control = ap (λ (s : Seat). control_name s.who) as_it_was ∙ was_there

    pub next_found : AreFound seats → seat_named after c.name ≡ Some k
    next_found found =
        named_by_names after seats c.name up.names ∙ found (suc i) c.name was_there ∙ ap (λ j. Some j) (sym k_suc)

    pub next_leaves : ((j : ℕ) → CanLeave name (seat seats j)) → CanLeave name (seat after k)
    next_leaves leaves = subst (CanLeave name) (sym as_it_was) (leaves (suc i))

    pub next_room : HasRoom seats → length (seat after k).posts < 65535
    next_room room = subst (λ (s : Seat). length s.posts < 65535) (sym as_it_was) (room (suc i) c.name was_there)

    pub next_up : (then : List Seat) → then ≡ with_seat k (f name now (seat after k)) after → UpTo (f name now) (i + 1) seats then
    next_up then made =
        let within : k < length after = control_within after k c.name next_control in
        let here : suc i < length after = subst (λ j. j < length after) k_suc within in
        let m = f name now (seat after (suc i)) in
        let same : i + 1 ≡ suc i = omega arith in
        let made_so : then ≡ with_seat (suc i) m after = made ∙ (λ x. with_seat (k_suc x) (f name now (seat after (k_suc x))) after) in
        subst (λ j. UpTo (f name now) j seats then) (sym same) (subst (UpTo (f name now) (suc i) seats) (sym made_so) (record {
          count = with_count after (suc i) m ∙ up.count;
          names = names_with after (suc i) m (same_name_at name now (seat after (suc i))) ∙ up.names;
          done = λ k above most. elim (cases_eq k (suc i)) as (λ _. seat (with_seat (suc i) m after) k ≡ f name now (seat seats k)) [
            | inl same ↦ ap (seat (with_seat (suc i) m after)) same ∙ with_here after (suc i) m here
                ∙ ap (f name now) (up.left (suc i) (inr (omega arith))) ∙ ap (λ j. f name now (seat seats j)) (sym same)
            | inr off ↦ with_there after (suc i) k m off ∙ up.done k above (omega (arith, most, off))
          ];
          left = λ k off. with_there after (suc i) k m (not_there k off)
              ∙ up.left k (elim off as (λ _. (k ≡ 0) ⊎ (i < k)) [ inl e ↦ inl e | inr h ↦ inr (omega (arith, h)) ]);
        }))
      where
        not_there : (k : ℕ) → (k ≡ 0) ⊎ (suc i < k) → k ≢ suc i
        not_there k (inl e) same = omega (arith, e, same)
        not_there k (inr h) same = omega (arith, h, same)
