-- A compute node moves: what one seat is once it has gone from it and come to it.
use Rattle.std.specs.Prelude.{◌≡◌, ◌≢◌, ◌⊎◌, ◌≤◌, ℕ, ◌+◌, zero, suc, List, [], ◌∷◌, ◌++◌, map, length, Bool, true, false, cond}
use Rattle.std.specs.List.{slice_index_or, slice_set}
use Rattle.std.specs.declared.option.Option.{Option}
use Rattle.std.specs.declared.option.Option.TheVariants.{Some, None}
use Rattle.std.specs.Cmp.Lexicographic.{bytes_decides}
use Rattle.std.proofs.lemmas.Bool.{cases_eq, true≢false}
use Rattle.std.proofs.lemmas.List.{get_or-set_other, length-append, length-map, length-set}
use Rattle.std.proofs.lemmas.Option.{none-some, same_Some}
use Rattle.std.proofs.Common.{refl, sym, ◌∙◌, ap, subst, inl, inr, arith}
use Rattle.ov_types.specs.First.{same_name}
use Rattle.ov_types.specs.declared.rows.NodeId.{NodeId}
use Rattle.config_types.specs.declared.topology.Node.{Node}
use Rattle.running_nodes.specs.ControlNode.Agents.{put_at}
use Rattle.node_model.specs.Step.{nothing}
use Rattle.machine_laws.specs.MachineModel.Setup.{Name, id_of, with_agent, without_agent}
use Rattle.machine_laws.specs.MachineModel.Network.{config}
use Rattle.running_nodes.specs.Controls.{Controls}
use Rattle.running_nodes.specs.Seats.{Who, Configuring, Controlling, Forwarding, Seat, index_from, is_name, name_there, names_of, other}
use Rattle.running_nodes.specs.Seats.{others_of, session_with}
use Rattle.running_nodes.specs.Moving.{came_to, is_listed_who, joined_at, joined_by, number_for, number_in, resettled_at, resettled_by, retired_of}
use Rattle.running_nodes.specs.Moving.{vacated, vacated_from}
use Rattle.running_nodes.specs.Steps.{all_of, fresh_seat}
use Rattle.running_nodes.specs.Stands.{IsLong, IsVacant}
use Rattle.running_laws.proofs.Building.{SameEnd, end_refl, end_trans, vacant_same}
use Rattle.running_laws.proofs.FirstPlaces.{index_found}

-- ---- lists with an item stored
-- what is stored is there, and also where there is no place for it and it is what stands past the end
set_self : {X : Type 0} (xs : List X) (i : ℕ) (d : X) → slice_index_or (slice_set xs i d) i d ≡ d
set_self [] i d = refl
set_self (x ∷ xs) zero d = refl
set_self (x ∷ xs) (suc i) d = set_self xs i d

set_none : {X : Type 0} (xs : List X) (j i : ℕ) (d : X) → slice_index_or xs i d ≡ d → slice_index_or (slice_set xs j d) i d ≡ d
set_none [] j i d e = refl
set_none (x ∷ xs) zero zero d e = refl
set_none (x ∷ xs) zero (suc i) d e = e
set_none (x ∷ xs) (suc j) zero d e = e
set_none (x ∷ xs) (suc j) (suc i) d e = set_none xs j i d e

put_alike : {X Y : Type 0} (xs : List X) (ys : List Y) (i : ℕ) (x : X) (y : Y) → length xs ≡ length ys
    → length (put_at xs i x) ≡ length (put_at ys i y)
put_alike [] [] i x y e = refl
put_alike [] (b ∷ ys) i x y e = absurd (omega (arith, e))
put_alike (a ∷ xs) [] i x y e = absurd (omega (arith, e))
put_alike (a ∷ xs) (b ∷ ys) zero x y e = e
put_alike (a ∷ xs) (b ∷ ys) (suc i) x y e =
    (let h = put_alike xs ys i x y (omega (arith, e)) in omega (arith, h))

put_here : {X : Type 0} (xs : List X) (p : ℕ) (x d : X) → p ≤ length xs → slice_index_or (put_at xs p x) p d ≡ x
put_here [] zero x d le = refl
put_here [] (suc p) x d le = absurd (omega (arith, le))
put_here (y ∷ ys) zero x d le = refl
put_here (y ∷ ys) (suc p) x d le = put_here ys p x d (omega (arith, le))

put_other : {X : Type 0} (xs : List X) (p i : ℕ) (x d : X) → p ≤ length xs → i ≢ p
    → slice_index_or (put_at xs p x) i d ≡ slice_index_or xs i d
put_other [] zero zero x d le ne = absurd (ne refl)
put_other [] zero (suc i) x d le ne = refl
put_other [] (suc p) i x d le ne = absurd (omega (arith, le))
put_other (y ∷ ys) zero zero x d le ne = absurd (ne refl)
put_other (y ∷ ys) zero (suc i) x d le ne = refl
put_other (y ∷ ys) (suc p) zero x d le ne = refl
put_other (y ∷ ys) (suc p) (suc i) x d le ne = put_other ys p i x d (omega (arith, le)) (λ e. ne (ap (λ k. suc k) e))

put_front : {X : Type 0} (xs ys : List X) (k : ℕ) (x : X) → put_at (xs ++ ys) (length xs + k) x ≡ xs ++ put_at ys k x
put_front [] ys k x = let e : 0 + k ≡ k = omega arith in ap (λ m. put_at ys m x) e
put_front {X} (z ∷ xs) ys k x =
    let e : length (z ∷ xs) + k ≡ suc (length xs + k) = omega arith in
    ap (λ m. put_at (z ∷ (xs ++ ys)) m x) e ∙ ap (λ (zs : List X). z ∷ zs) (put_front xs ys k x)

-- ---- nodes of which one is a control node, and the other is not
abbrev is_control : Who → Bool
is_control (Controlling c) = true
is_control who = false

no_control : (a : Who) (c : Controls) → a ≡ Controlling c → is_control a ≡ false → ⊥
no_control a c is off = true≢false (sym (ap is_control is) ∙ off)

module _ (name : Name) where
  abbrev at : List (Option Name) → ℕ → Option Name
  at os i = slice_index_or os i None

  -- ---- who is at the other ends once the agent has gone: the same, or nobody where it was
  abbrev IsLeft : List (Option Name) → List (Option Name) → ℕ → Type 0
  IsLeft os os' i = (at os' i ≡ at os i) ⊎ ((at os' i ≡ None) × (at os i ≡ Some name))

  agents_left : (agents : List (Option NodeId)) (i : ℕ) → IsLeft (map name_there agents) (map name_there (without_agent name agents)) i
  agents_left [] i = inl refl
  agents_left (None ∷ agents) zero = inl refl
  agents_left (Some a ∷ agents) zero =
      elim (same_name a.name name) as (λ b. same_name a.name name ≡ b
      → (name_there (cond b None (Some a)) ≡ Some a.name) ⊎ ((name_there (cond b None (Some a)) ≡ None) × (Some a.name ≡ Some name))) [
        | true ↦ λ e. inr (refl, ap Some ((bytes_decides a.name name).0 e))
        | false ↦ λ _. inl refl
      ] refl
  agents_left (o ∷ agents) (suc i) = agents_left agents i

  behind_peers : (peers : List NodeId) (agents : List (Option NodeId)) (i : ℕ)
      → IsLeft (names_of peers ++ map name_there agents) (names_of peers ++ map name_there (without_agent name agents)) i
  behind_peers [] agents i = agents_left agents i
  behind_peers (p ∷ peers) agents zero = inl refl
  behind_peers (p ∷ peers) agents (suc i) = behind_peers peers agents i

  others_left : (who : Who) (i : ℕ) → IsLeft (others_of who) (others_of (retired_of name who)) i
  others_left (Configuring x) i = inl refl
  others_left (Controlling c) zero = inl refl
  others_left (Controlling c) (suc i) = behind_peers c.peers c.agents i
  others_left (Forwarding plan) i = inl refl

  long_agents : (agents : List (Option NodeId)) → length (map name_there (without_agent name agents)) ≡ length (map name_there agents)
  long_agents [] = refl
  long_agents (o ∷ agents) = (let h = long_agents agents in omega (arith, h))

  long_left : (who : Who) → length (others_of (retired_of name who)) ≡ length (others_of who)
  long_left (Configuring x) = refl
  long_left (Controlling c) =
      let h = long_agents c.agents in
      let l = length-append (names_of c.peers) (map name_there (without_agent name c.agents)) in
      let r = length-append (names_of c.peers) (map name_there c.agents) in
      omega (arith, h, l, r)
  long_left (Forwarding plan) = refl

  -- ---- what a seat is then
  pub record Fades (n n' : Seat) : Type 0 where
    pub long : IsLong n'
    pub vacant : (i : ℕ) → other n' i ≡ None → IsVacant n' i
    -- there is nothing at the end of its session
    pub own : (i : ℕ) → other n' i ≡ Some name → IsVacant n' i
    -- and all other ends are as they were
    pub others : (i : ℕ) (b : Name) → other n' i ≡ Some b → b ≢ name → (other n i ≡ Some b) × SameEnd n n' i

  -- without the end of this number
  abbrev gone : Seat → Option ℕ → Seat
  gone n o = record (vacated_from o n) { who = retired_of name n.who }

  gone_end : (n : Seat) (o : Option ℕ) (i : ℕ) → o ≡ Some i → IsVacant (gone n o) i
  gone_end n None i e = absurd (none-some i e)
  gone_end n (Some j) i e =
      subst (IsVacant (gone n (Some j))) (same_Some j i e) (record {
        post = set_self n.posts j nothing;
        kept = set_self n.kept j [];
        link = set_self n.links j [];
        breaks = set_self n.breaks j [];
        notice = set_self n.notices j false;
      })

  gone_others : (n : Seat) (o : Option ℕ) (i : ℕ) → (o ≡ Some i → ⊥) → SameEnd n (gone n o) i
  gone_others n None i off = record { post = refl; kept = refl; link = refl; breaks = refl; notice = refl }
  gone_others n (Some j) i off =
      let ne : i ≢ j = λ e. off (ap Some (sym e)) in
      record {
        post = get_or-set_other n.posts j i nothing nothing ne;
        kept = get_or-set_other n.kept j i [] [] ne;
        link = get_or-set_other n.links j i [] [] ne;
        breaks = get_or-set_other n.breaks j i [] [] ne;
        notice = get_or-set_other n.notices j i false false ne;
      }

  gone_vacant : (n : Seat) (o : Option ℕ) (i : ℕ) → IsVacant n i → IsVacant (gone n o) i
  gone_vacant n None i v = record { post = v.post; kept = v.kept; link = v.link; breaks = v.breaks; notice = v.notice }
  gone_vacant n (Some j) i v = record {
    post = set_none n.posts j i nothing v.post;
    kept = set_none n.kept j i [] v.kept;
    link = set_none n.links j i [] v.link;
    breaks = set_none n.breaks j i [] v.breaks;
    notice = set_none n.notices j i false v.notice;
  }

  pub gone_long : (n : Seat) (o : Option ℕ) → IsLong n → IsLong (gone n o)
  gone_long n None l =
      let e = sym (long_left n.who) in
      record { posts = l.posts ∙ e; kept = l.kept ∙ e; links = l.links ∙ e; breaks = l.breaks ∙ e; notices = l.notices ∙ e }
  gone_long n (Some j) l =
      let e = sym (long_left n.who) in
      record {
        posts = length-set n.posts j nothing ∙ l.posts ∙ e;
        kept = length-set n.kept j [] ∙ l.kept ∙ e;
        links = length-set n.links j [] ∙ l.links ∙ e;
        breaks = length-set n.breaks j [] ∙ l.breaks ∙ e;
        notices = length-set n.notices j false ∙ l.notices ∙ e;
      }

  -- the end of a session that is found is the agent's
  found_own : (os : List (Option Name)) (i : ℕ) → index_from 0 (is_name name) os ≡ Some i → is_name name (at os i) ≡ true
  found_own os i e =
      let q = index_found (is_name name) 0 os i None e in
      let same : q.0 ≡ i = omega (arith, q.1) in
      subst (λ k. is_name name (at os k) ≡ true) same q.3

  vacated_fades : (n : Seat) → IsLong n → ((i : ℕ) → other n i ≡ None → IsVacant n i)
      → ((i : ℕ) → other n i ≡ Some name → session_with n name ≡ Some i) → Fades n (vacated name n)
  vacated_fades n long vacant sole =
      let o : Option ℕ = session_with n name in
      record {
        long = gone_long n o long;
        vacant = λ i e. elim (others_left n.who i) as (λ _. IsVacant (gone n o) i) [
          | inl same ↦ gone_vacant n o i (vacant i (sym same ∙ e))
          | inr q ↦ gone_end n o i (sole i q.1)
        ];
        own = λ i e. elim (others_left n.who i) as (λ _. IsVacant (gone n o) i) [
          | inl same ↦ gone_end n o i (sole i (sym same ∙ e))
          | inr q ↦ absurd (none-some name (sym q.0 ∙ e))
        ];
        others = λ i b e ne. elim (others_left n.who i) as (λ _. (other n i ≡ Some b) × SameEnd n (gone n o) i) [
          | inl same ↦
              let was : other n i ≡ Some b = sym same ∙ e in
              (was, gone_others n o i (λ is. ne ((bytes_decides b name).0 (ap (is_name name) (sym was) ∙ found_own (others_of n.who) i is))))
          | inr q ↦ absurd (none-some b (sym q.0 ∙ e))
        ];
      }

  -- ---- it comes
  agents_put : (a : NodeId) (agents : List (Option NodeId))
      → map name_there (with_agent a agents) ≡ put_at (map name_there agents) (number_in agents) (Some a.name)
  agents_put a [] = refl
  agents_put a (None ∷ agents) = refl
  agents_put a (Some b ∷ agents) =
      let e : suc (number_in agents) ≡ 1 + number_in agents = omega arith in
      ap (λ (os : List (Option Name)). Some b.name ∷ os) (agents_put a agents)
      ∙ ap (λ k. put_at (Some b.name ∷ map name_there agents) k (Some a.name)) e

  number_within : (agents : List (Option NodeId)) → number_in agents ≤ length agents
  number_within [] = omega arith
  number_within (None ∷ agents) = omega arith
  number_within (Some b ∷ agents) = (let h = number_within agents in omega (arith, h))

  module _ (a : NodeId) (named : a.name ≡ name) (c : Controls) where
    abbrev p : ℕ
    p = number_for c

    others_put : others_of (Controlling (record c { agents = with_agent a c.agents })) ≡ put_at (others_of (Controlling c)) p (Some a.name)
    others_put =
        let l = length-map c.peers (λ (n : NodeId). Some n.name) in
        let e : suc (length (names_of c.peers) + number_in c.agents) ≡ p = omega (arith, l) in
        ap (λ (os : List (Option Name)). Some config ∷ (names_of c.peers ++ os)) (agents_put a c.agents)
        ∙ ap (λ (os : List (Option Name)). Some config ∷ os) (sym (put_front (names_of c.peers) (map name_there c.agents) (number_in c.agents) (Some a.name)))
        ∙ ap (λ k. put_at (others_of (Controlling c)) k (Some a.name)) e

    within : p ≤ length (others_of (Controlling c))
    within =
        let l = length-map c.peers (λ (n : NodeId). Some n.name) in
        let m = length-map c.agents name_there in
        let j = length-append (names_of c.peers) (map name_there c.agents) in
        let h = number_within c.agents in
        omega (arith, l, m, j, h)

    module _ (n v : Seat) (is : v.who ≡ Controlling c) (f : Fades n v) where
      abbrev j : Seat
      j = joined_at c a v

      as_who : (m : ℕ) → m ≡ length (others_of v.who) → m ≡ length (others_of (Controlling c))
      as_who m e = e ∙ ap (λ w. length (others_of w)) is

      room : (m : ℕ) → m ≡ length (others_of v.who) → p ≤ m
      room m e = subst (λ k. p ≤ k) (sym (as_who m e)) within

      longer : {X : Type 0} (xs : List X) (x : X) → length xs ≡ length (others_of v.who) → length (put_at xs p x) ≡ length (others_of j.who)
      longer xs x e = put_alike xs (others_of (Controlling c)) p x (Some a.name) (as_who (length xs) e) ∙ ap (λ (os : List (Option Name)). length os) (sym others_put)

      other_here : other j p ≡ Some name
      other_here = ap (λ os. at os p) others_put ∙ put_here (others_of (Controlling c)) p (Some a.name) None within ∙ ap Some named

      other_there : (i : ℕ) → i ≢ p → other j i ≡ other v i
      other_there i ne =
          ap (λ os. at os i) others_put ∙ put_other (others_of (Controlling c)) p i (Some a.name) None within ne
          ∙ ap (λ w. at (others_of w) i) (sym is)

      nothing_here : IsVacant j p
      nothing_here = record {
        post = put_here v.posts p nothing nothing (room (length v.posts) f.long.posts);
        kept = put_here v.kept p [] [] (room (length v.kept) f.long.kept);
        link = put_here v.links p [] [] (room (length v.links) f.long.links);
        breaks = put_here v.breaks p [] [] (room (length v.breaks) f.long.breaks);
        notice = put_here v.notices p false false (room (length v.notices) f.long.notices);
      }

      same_there : (i : ℕ) → i ≢ p → SameEnd v j i
      same_there i ne = record {
        post = put_other v.posts p i nothing nothing (room (length v.posts) f.long.posts) ne;
        kept = put_other v.kept p i [] [] (room (length v.kept) f.long.kept) ne;
        link = put_other v.links p i [] [] (room (length v.links) f.long.links) ne;
        breaks = put_other v.breaks p i [] [] (room (length v.breaks) f.long.breaks) ne;
        notice = put_other v.notices p i false false (room (length v.notices) f.long.notices) ne;
      }

      joined_fades : Fades n j
      joined_fades = record {
        long = record {
          posts = longer v.posts nothing f.long.posts;
          kept = longer v.kept [] f.long.kept;
          links = longer v.links [] f.long.links;
          breaks = longer v.breaks [] f.long.breaks;
          notices = longer v.notices false f.long.notices;
        };
        vacant = λ i e. elim (cases_eq i p) as (λ _. IsVacant j i) [
          | inl h ↦ subst (IsVacant j) (sym h) nothing_here
          | inr ne ↦ vacant_same v j i (same_there i ne) (f.vacant i (sym (other_there i ne) ∙ e))
        ];
        own = λ i e. elim (cases_eq i p) as (λ _. IsVacant j i) [
          | inl h ↦ subst (IsVacant j) (sym h) nothing_here
          | inr ne ↦ vacant_same v j i (same_there i ne) (f.own i (sym (other_there i ne) ∙ e))
        ];
        others = λ i b e off. elim (cases_eq i p) as (λ _. (other n i ≡ Some b) × SameEnd n j i) [
          | inl h ↦ absurd (off (same_Some b name (sym e ∙ ap (λ k. other j k) h ∙ other_here)))
          | inr ne ↦
              let q = f.others i b (sym (other_there i ne) ∙ e) off in
              (q.0, end_trans n v j i q.1 (same_there i ne))
        ];
      }

  -- ---- it goes from a control node, and comes to it where it lists it
  come_fades : (k : Node) → k.name ≡ name → (n v : Seat) (who : Who) → v.who ≡ who → Fades n v → (b : Bool)
      → Fades n (cond b (joined_by who (id_of k) v) v)
  come_fades k named n v who is f false = f
  come_fades k named n v (Configuring x) is f true = f
  come_fades k named n v (Controlling c) is f true = joined_fades (id_of k) named c n v is f
  come_fades k named n v (Forwarding plan) is f true = f

  came_fades : (now : Option Node) → ((k : Node) → now ≡ Some k → k.name ≡ name) → (n v : Seat) → Fades n v
      → Fades n (came_to now v)
  came_fades None named n v f = f
  came_fades (Some k) named n v f = come_fades k (named k refl) n v v.who refl f (is_listed_who k v.who)

  -- a node that has no session with it
  stays_fades : (n : Seat) → IsLong n → ((i : ℕ) → other n i ≡ None → IsVacant n i) → ((i : ℕ) → other n i ≢ Some name)
      → Fades n n
  stays_fades n long vacant off = record {
    long = long;
    vacant = vacant;
    own = λ i e. absurd (off i e);
    others = λ i b e ne. (e, end_refl n i);
  }

  pub resettled_fades : (now : Option Node) → ((k : Node) → now ≡ Some k → k.name ≡ name) → (n : Seat) → IsLong n
      → ((i : ℕ) → other n i ≡ None → IsVacant n i)
      → ((i : ℕ) → other n i ≡ Some name → session_with n name ≡ Some i)
      → ((i : ℕ) → other n i ≡ Some name → (c : Controls) × (n.who ≡ Controlling c))
      → Fades n (resettled_at name now n)
  resettled_fades now named n long vacant sole mates = by_who n.who refl
    where
      by_who : (who : Who) → n.who ≡ who → Fades n (resettled_by who name now n)
      by_who (Configuring x) is = stays_fades n long vacant (λ i e. no_control (Configuring x) (mates i e).0 (sym is ∙ (mates i e).1) refl)
      by_who (Controlling c) is = came_fades now named n (vacated name n) (vacated_fades n long vacant sole)
      by_who (Forwarding plan) is = stays_fades n long vacant (λ i e. no_control (Forwarding plan) (mates i e).0 (sym is ∙ (mates i e).1) refl)

-- ---- a fresh node has nothing
alike : {X Y : Type 0} (y : Y) (xs : List X) (i : ℕ) → slice_index_or (all_of y xs) i y ≡ y
alike y [] i = refl
alike y (x ∷ xs) zero = refl
alike y (x ∷ xs) (suc i) = alike y xs i

pub fresh_nothing : (who : Who) (i : ℕ) → IsVacant (fresh_seat who) i
fresh_nothing who i = record {
  post = alike nothing (others_of who) i;
  kept = alike [] (others_of who) i;
  link = alike [] (others_of who) i;
  breaks = alike [] (others_of who) i;
  notice = alike false (others_of who) i;
}

pub fresh_room : (who : Who) → IsLong (fresh_seat who)
fresh_room who = record {
  posts = length-map (others_of who) (λ _. nothing);
  kept = length-map (others_of who) (λ _. []);
  links = length-map (others_of who) (λ _. []);
  breaks = length-map (others_of who) (λ _. []);
  notices = length-map (others_of who) (λ _. false);
}
