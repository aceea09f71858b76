-- Lists of sessions without two between the same nodes, and the session of two nodes before and after a step.
use Rattle.std.specs.Prelude.{◌≡◌, List, [], ◌∷◌, map, Bool, true, false, cond, ◌&&◌}
use Rattle.std.specs.declared.option.Option.{Option}
use Rattle.std.specs.declared.option.Option.TheVariants.{Some, None}
use Rattle.std.specs.Option.{option_map}
use Rattle.std.specs.List.{AllByRecursion, cons_option}
use Rattle.std.specs.Cmp.Lexicographic.{bytes_decides}
use Rattle.std.proofs.lemmas.Bool.{true≢false, and_parts, and_from}
use Rattle.std.proofs.Common.{refl, sym, ◌∙◌, ap, subst}
use Rattle.machine_model.specs.Setup.{Name}
use Rattle.ov_types.specs.First.{same_name}
use Rattle.machine_model.specs.Session.{Session, turned}
use Rattle.machine_model.specs.Network.{is_at, seen_by, sessions_of}
use Rattle.machine_model.specs.Steps.{at_node, joins, with_session, session_in}
use Rattle.machine_model.proofs.NetworkFact.{Each, NodePair, nodes, KeepsNodes, joins_kept, at_node_nodes}
use Rattle.machine_model.proofs.NodesFact.{turned_nodes}

-- ---- no session joins a node to itself, and no two join the same nodes
abbrev pub IsProper : NodePair → Type 0
IsProper p = (same_name p.0.0 p.1.0 ≡ false) × (same_name p.1.0 p.0.0 ≡ false)

abbrev pub IsOther : NodePair → NodePair → Type 0
IsOther p q = ((same_name q.0.0 p.0.0 && same_name q.1.0 p.1.0) ≡ false) × ((same_name q.0.0 p.1.0 && same_name q.1.0 p.0.0) ≡ false)

abbrev pub NoTwins : List NodePair → Type 0
NoTwins [] = Unit {0}
NoTwins (p ∷ ps) = IsProper p × AllByRecursion (IsOther p) ps × NoTwins ps

-- ---- sessions
pub swap_and : (a b : Bool) (c : Bool) → (a && b) ≡ c → (b && a) ≡ c
swap_and true true c e = e
swap_and true false c e = e
swap_and false true c e = e
swap_and false false c e = e

pub each_and : (P Q : Session → Type 0) (ss : List Session) → Each P ss → Each Q ss → Each (λ s. P s × Q s) ss
each_and P Q [] a b = tt
each_and P Q (s ∷ ss) a b = ((a.0, b.0), each_and P Q ss a.1 b.1)

pub each_weaker : (P Q : Session → Type 0) → ((s : Session) → P s → Q s) → (ss : List Session) → Each P ss → Each Q ss
each_weaker P Q h [] a = tt
each_weaker P Q h (s ∷ ss) a = (h s a.0, each_weaker P Q h ss a.1)

-- from each session to those of a node, and back
pub all_to_own : (P : Session → Type 0) (n : Name) (ss : List Session) → Each (λ s. P s × P (turned s)) ss → Each P (sessions_of n ss)
all_to_own P n [] e = tt
all_to_own P n (s ∷ ss) e =
    elim (is_at n s.near) as (λ b. Each P (cons_option (cond b (Some s) (cond (is_at n s.far) (Some (turned s)) None)) (sessions_of n ss))) [
      | true ↦ (e.0.0, all_to_own P n ss e.1)
      | false ↦ elim (is_at n s.far) as (λ b. Each P (cons_option (cond b (Some (turned s)) None) (sessions_of n ss))) [ true ↦ (e.0.1, all_to_own P n ss e.1) | false ↦ all_to_own P n ss e.1 ]
    ]

own_rest : (P : Session → Type 0) (o : Option Session) (ss : List Session) → Each P (cons_option o ss) → Each P ss
own_rest P None ss e = e
own_rest P (Some s) ss e = e.1

pub itself : (n : Name) → same_name n n ≡ true
itself n = (bytes_decides n n).1 refl

pub own_to_all : (P : Session → Type 0) (ss : List Session) → NoTwins (map nodes ss) → ((n : Name) → Each P (sessions_of n ss)) → Each (λ s. P s × P (turned s)) ss
own_to_all P [] t h = tt
own_to_all P (s ∷ ss) t h = (
  (
    (subst (λ b. Each P (cons_option (cond b (Some s) (cond (is_at s.near.name s.far) (Some (turned s)) None)) (sessions_of s.near.name ss))) (itself s.near.name) (h s.near.name)).0,
    (subst (λ b. Each P (cons_option (cond b (Some (turned s)) None) (sessions_of s.far.name ss))) (itself s.far.name)
        (subst (λ b. Each P (cons_option (cond b (Some s) (cond (is_at s.far.name s.far) (Some (turned s)) None)) (sessions_of s.far.name ss))) t.0.0 (h s.far.name))).0,
  ),
  own_to_all P ss t.2 (λ n. own_rest P (seen_by n s) (sessions_of n ss) (h n)),
)

-- a change of the session of two nodes, where there is no other between them
module _ (P P' : Session → Type 0) (a b : Name) (miss : (s : Session) → joins a b s ≡ false → joins b a s ≡ false → P s → P' s) where
  others_missed : (p : NodePair) → p.0.0 ≡ a → p.1.0 ≡ b → (ss : List Session) → AllByRecursion (IsOther p) (map nodes ss) → Each P ss → Each P' ss
  others_missed p e f [] o h = tt
  others_missed p e f (s ∷ ss) o h = (
    miss s (ap (λ (a : Name). same_name s.near.name a && same_name s.far.name b) (sym e) ∙ ap (λ (b : Name). same_name s.near.name p.0.0 && same_name s.far.name b) (sym f) ∙ o.0.0)
        (ap (λ (b : Name). same_name s.near.name b && same_name s.far.name a) (sym f) ∙ ap (λ (a : Name). same_name s.near.name p.1.0 && same_name s.far.name a) (sym e) ∙ o.0.1) h.0,
    others_missed p e f ss o.1 h.1,
  )

  others_missed_back : (p : NodePair) → p.0.0 ≡ b → p.1.0 ≡ a → (ss : List Session) → AllByRecursion (IsOther p) (map nodes ss) → Each P ss → Each P' ss
  others_missed_back p e f [] o h = tt
  others_missed_back p e f (s ∷ ss) o h = (
    miss s (ap (λ (a : Name). same_name s.near.name a && same_name s.far.name b) (sym f) ∙ ap (λ (b : Name). same_name s.near.name p.1.0 && same_name s.far.name b) (sym e) ∙ o.0.1)
        (ap (λ (b : Name). same_name s.near.name b && same_name s.far.name a) (sym e) ∙ ap (λ (a : Name). same_name s.near.name p.0.0 && same_name s.far.name a) (sym f) ∙ o.0.0) h.0,
    others_missed_back p e f ss o.1 h.1,
  )

  names_of : (s : Session) → joins a b s ≡ true → (s.near.name ≡ a) × (s.far.name ≡ b)
  names_of s e = let p = and_parts (is_at a s.near) (is_at b s.far) e in ((bytes_decides s.near.name a).0 p.0, (bytes_decides s.far.name b).0 p.1)

  names_back : (s : Session) → joins b a s ≡ true → (s.near.name ≡ b) × (s.far.name ≡ a)
  names_back s e = let p = and_parts (is_at b s.near) (is_at a s.far) e in ((bytes_decides s.near.name b).0 p.0, (bytes_decides s.far.name a).0 p.1)

  pub with_session_each : (f : Session → Session) → ((s : Session) → joins a b s ≡ true → IsProper (nodes s) → P s → P' (f s)) → ((s : Session) → joins b a s ≡ true → IsProper (nodes s) → P s → P' (turned (f (turned s))))
      → (ss : List Session) → NoTwins (map nodes ss) → Each P ss → Each P' (with_session a b f ss)
  with_session_each f hit hit_back [] t h = tt
  with_session_each f hit hit_back (s ∷ ss) t h =
      elim (joins a b s) as (λ c. joins a b s ≡ c → Each P' (cond c (f s ∷ ss) (cond (joins b a s) (turned (f (turned s)) ∷ ss) (s ∷ with_session a b f ss)))) [
        | true ↦ λ is. (hit s is t.0 h.0, others_missed (nodes s) (names_of s is).0 (names_of s is).1 ss t.1 h.1)
        | false ↦ λ off. elim (joins b a s) as (λ c. joins b a s ≡ c → Each P' (cond c (turned (f (turned s)) ∷ ss) (s ∷ with_session a b f ss))) [
          | true ↦ λ is. (hit_back s is t.0 h.0, others_missed_back (nodes s) (names_back s is).0 (names_back s is).1 ss t.1 h.1)
          | false ↦ λ off_back. (miss s off off_back h.0, with_session_each f hit hit_back ss t.2 h.1)
        ] refl
      ] refl

-- ---- the session of two nodes after a step
pub found_changed : (a b : Name) (f : Session → Session) → KeepsNodes f → (ss : List Session) → session_in (with_session a b f ss) a b ≡ option_map f (session_in ss a b)
found_changed a b f kept [] = refl
found_changed a b f kept (s ∷ ss) =
    elim (joins a b s) as (λ c. joins a b s ≡ c → session_in (cond c (f s ∷ ss) (cond (joins b a s) (turned (f (turned s)) ∷ ss) (s ∷ with_session a b f ss))) a b ≡ option_map f (cond c (Some s) (cond (joins b a s) (Some (turned s)) (session_in ss a b)))) [
      | true ↦ λ is. ap (λ c. cond c (Some (f s)) (cond (joins b a (f s)) (Some (turned (f s))) (session_in ss a b))) (joins_kept a b s (f s) (kept s) ∙ is)
      | false ↦ λ off. elim (joins b a s) as (λ c. joins b a s ≡ c → session_in (cond c (turned (f (turned s)) ∷ ss) (s ∷ with_session a b f ss)) a b ≡ option_map f (cond c (Some (turned s)) (session_in ss a b))) [
        | true ↦ λ is.
            let t = turned (f (turned s)) in
            ap (λ c. cond c (Some t) (cond (joins b a t) (Some (turned t)) (session_in ss a b))) (joins_kept a b s t (turned_nodes f kept s) ∙ off)
            ∙ ap (λ c. cond c (Some (turned t)) (session_in ss a b)) (joins_kept b a s t (turned_nodes f kept s) ∙ is)
        | false ↦ λ off_back.
            ap (λ c. cond c (Some s) (cond (joins b a s) (Some (turned s)) (session_in (with_session a b f ss) a b))) off
            ∙ ap (λ c. cond c (Some (turned s)) (session_in (with_session a b f ss) a b)) off_back
            ∙ found_changed a b f kept ss
      ] refl
    ] refl

joined_alone : (a b : Name) (s : Session) → joins a b s ≡ false → joins b a s ≡ true → is_at a s.near ≡ false
joined_alone a b s off is =
    elim (is_at a s.near) as (λ c. is_at a s.near ≡ c → c ≡ false) [
      | true ↦ λ at. absurd (true≢false (sym (one (bytes_decides s.near.name a).0 at (and_parts (is_at b s.near) (is_at a s.far) is)) ∙ off))
      | false ↦ λ _. refl
    ] refl
  where
    one : (is_at a s.near ≡ true → s.near.name ≡ a) → is_at a s.near ≡ true → (is_at b s.near ≡ true) × (is_at a s.far ≡ true) → joins a b s ≡ true
    one name at p =
        and_from (is_at a s.near) (is_at b s.far) at
        ((bytes_decides s.far.name b).1 ((bytes_decides s.far.name a).0 p.1 ∙ sym (name at) ∙ (bytes_decides s.near.name b).0 p.0))

-- all sessions of the first node change
pub found_node : (a b : Name) (f : Session → Session) → KeepsNodes f → (ss : List Session) → session_in (map (at_node a f) ss) a b ≡ option_map f (session_in ss a b)
found_node a b f kept [] = refl
found_node a b f kept (s ∷ ss) =
    let t = at_node a f s in
    let same : nodes t ≡ nodes s = at_node_kept in
    elim (joins a b s) as (λ c. joins a b s ≡ c → cond (joins a b t) (Some t) (cond (joins b a t) (Some (turned t)) (session_in (map (at_node a f) ss) a b)) ≡ option_map f (cond c (Some s) (cond (joins b a s) (Some (turned s)) (session_in ss a b)))) [
      | true ↦ λ is.
          ap (λ c. cond c (Some t) (cond (joins b a t) (Some (turned t)) (session_in (map (at_node a f) ss) a b))) (joins_kept a b s t same ∙ is)
          ∙ ap (λ c. Some (cond c (f s) (cond (is_at a s.far) (turned (f (turned s))) s))) (and_parts (is_at a s.near) (is_at b s.far) is).0
      | false ↦ λ off.
          ap (λ c. cond c (Some t) (cond (joins b a t) (Some (turned t)) (session_in (map (at_node a f) ss) a b))) (joins_kept a b s t same ∙ off)
          ∙ elim (joins b a s) as (λ c. joins b a s ≡ c → cond (joins b a t) (Some (turned t)) (session_in (map (at_node a f) ss) a b) ≡ option_map f (cond c (Some (turned s)) (session_in ss a b))) [
            | true ↦ λ is.
                ap (λ c. cond c (Some (turned t)) (session_in (map (at_node a f) ss) a b)) (joins_kept b a s t same ∙ is)
                ∙ ap (λ c. Some (turned (cond c (f s) (cond (is_at a s.far) (turned (f (turned s))) s)))) (joined_alone a b s off is)
                ∙ ap (λ c. Some (turned (cond c (turned (f (turned s))) s))) (and_parts (is_at b s.near) (is_at a s.far) is).1
            | false ↦ λ off_back.
                ap (λ c. cond c (Some (turned t)) (session_in (map (at_node a f) ss) a b)) (joins_kept b a s t same ∙ off_back)
                ∙ found_node a b f kept ss
          ] refl
    ] refl
  where
    at_node_kept : nodes (at_node a f s) ≡ nodes s
    at_node_kept = at_node_nodes a f kept s

pub same_name_sym : (a b : Name) → same_name a b ≡ same_name b a
same_name_sym a b =
    elim (same_name a b) as (λ c. same_name a b ≡ c → c ≡ same_name b a) [
      | true ↦ λ is. sym ((bytes_decides b a).1 (sym ((bytes_decides a b).0 is)))
      | false ↦ λ off. elim (same_name b a) as (λ c. same_name b a ≡ c → false ≡ c) [ true ↦ λ is. absurd (true≢false (sym ((bytes_decides a b).1 (sym ((bytes_decides b a).0 is))) ∙ off)) | false ↦ λ _. refl ] refl
    ] refl

-- each session is found by its nodes
abbrev pub Found : List Session → Session → Type 0
Found ss s = (session_in ss s.near.name s.far.name ≡ Some s) × (session_in ss s.far.name s.near.name ≡ Some (turned s))

pub found_each : (ss : List Session) → NoTwins (map nodes ss) → Each (Found ss) ss
found_each [] t = tt
found_each (s ∷ ss) t = ((here, there), rest ss t.1 (found_each ss t.2))
  where
    here : session_in (s ∷ ss) s.near.name s.far.name ≡ Some s
    here = ap (λ c. cond c (Some s) (cond (joins s.far.name s.near.name s) (Some (turned s)) (session_in ss s.near.name s.far.name))) (and_from (is_at s.near.name s.near) (is_at s.far.name s.far) (itself s.near.name) (itself s.far.name))

    there : session_in (s ∷ ss) s.far.name s.near.name ≡ Some (turned s)
    there =
        ap (λ c. cond c (Some s) (cond (joins s.near.name s.far.name s) (Some (turned s)) (session_in ss s.far.name s.near.name))) (ap (λ c. c && same_name s.far.name s.near.name) t.0.0)
        ∙ ap (λ c. cond c (Some (turned s)) (session_in ss s.far.name s.near.name)) (and_from (is_at s.near.name s.near) (is_at s.far.name s.far) (itself s.near.name) (itself s.far.name))

    rest : (us : List Session) → AllByRecursion (IsOther (nodes s)) (map nodes us) → Each (Found ss) us → Each (Found (s ∷ ss)) us
    rest [] o f = tt
    rest (u ∷ us) o f = (
      (
        ap (λ c. cond c (Some s) (cond (joins u.far.name u.near.name s) (Some (turned s)) (session_in ss u.near.name u.far.name))) (apart u o.0)
            ∙ ap (λ c. cond c (Some (turned s)) (session_in ss u.near.name u.far.name)) (apart_back u o.0) ∙ f.0.0,
        ap (λ c. cond c (Some s) (cond (joins u.near.name u.far.name s) (Some (turned s)) (session_in ss u.far.name u.near.name))) (apart_back u o.0)
            ∙ ap (λ c. cond c (Some (turned s)) (session_in ss u.far.name u.near.name)) (apart u o.0) ∙ f.0.1,
      ),
      rest us o.1 f.1,
    )
      where
        apart : (u : Session) → IsOther (nodes s) (nodes u) → joins u.near.name u.far.name s ≡ false
        apart u o = (λ i. same_name_sym s.near.name u.near.name i && same_name_sym s.far.name u.far.name i) ∙ o.0

        apart_back : (u : Session) → IsOther (nodes s) (nodes u) → joins u.far.name u.near.name s ≡ false
        apart_back u o = (λ i. same_name_sym s.near.name u.far.name i && same_name_sym s.far.name u.near.name i) ∙ swap_and (same_name u.near.name s.far.name) (same_name u.far.name s.near.name) false o.1

-- ---- lists of sessions before and after a step
abbrev pub Pairs : (Session → Session → Type 0) → List Session → List Session → Type 0
Pairs R [] [] = Unit {0}
Pairs R (s ∷ ss) (t ∷ ts) = (nodes t ≡ nodes s) × R s t × Pairs R ss ts
Pairs R _ _ = ⊥

abbrev pub MaybeBoth : (Session → Session → Type 0) → Option Session → Option Session → Type 0
MaybeBoth R None None = Unit {0}
MaybeBoth R (Some s) (Some t) = R s t
MaybeBoth R _ _ = ⊥

module _ (R : Session → Session → Type 0) (both : (s t : Session) → R s t → R (turned s) (turned t)) where
  pub pairs_found : (a b : Name) (ss ts : List Session) → Pairs R ss ts → MaybeBoth (λ s t. (s.near.name ≡ a) × (s.far.name ≡ b) × R s t) (session_in ss a b) (session_in ts a b)
  pairs_found a b [] [] p = tt
  pairs_found a b (s ∷ ss) (t ∷ ts) p =
      subst (λ c. MaybeBoth (λ s t. (s.near.name ≡ a) × (s.far.name ≡ b) × R s t) (session_in (s ∷ ss) a b) (cond c (Some t) (cond (joins b a t) (Some (turned t)) (session_in ts a b)))) (sym (joins_kept a b s t p.0))
      (subst (λ c. MaybeBoth (λ s t. (s.near.name ≡ a) × (s.far.name ≡ b) × R s t) (session_in (s ∷ ss) a b) (cond (joins a b s) (Some t) (cond c (Some (turned t)) (session_in ts a b)))) (sym (joins_kept b a s t p.0))
      (elim (joins a b s) as (λ c. joins a b s ≡ c → MaybeBoth (λ s t. (s.near.name ≡ a) × (s.far.name ≡ b) × R s t) (cond c (Some s) (cond (joins b a s) (Some (turned s)) (session_in ss a b))) (cond c (Some t) (cond (joins b a s) (Some (turned t)) (session_in ts a b)))) [
        | true ↦ λ is. let q = and_parts (is_at a s.near) (is_at b s.far) is in ((bytes_decides s.near.name a).0 q.0, (bytes_decides s.far.name b).0 q.1, p.1)
        | false ↦ λ _. elim (joins b a s) as (λ c. joins b a s ≡ c → MaybeBoth (λ s t. (s.near.name ≡ a) × (s.far.name ≡ b) × R s t) (cond c (Some (turned s)) (session_in ss a b)) (cond c (Some (turned t)) (session_in ts a b))) [
          | true ↦ λ is. let q = and_parts (is_at b s.near) (is_at a s.far) is in ((bytes_decides s.far.name a).0 q.1, (bytes_decides s.near.name b).0 q.0, both s t p.1)
          | false ↦ λ _. pairs_found a b ss ts p.2
        ] refl
      ] refl))
  pairs_found a b [] (t ∷ ts) p = absurd p
  pairs_found a b (s ∷ ss) [] p = absurd p

  module _ (same : (s : Session) → R s s) where
    pairs_refl : (ss : List Session) → Pairs R ss ss
    pairs_refl [] = tt
    pairs_refl (s ∷ ss) = (refl, same s, pairs_refl ss)

    module _ (Q : Session → Type 0) (back : (s : Session) → Q s → Q (turned s)) (f : Session → Session) (kept : KeepsNodes f) where
      pub pairs_session : (a b : Name) → ((s : Session) → joins a b s ≡ true → Q s → R s (f s)) → (ss : List Session) → Each Q ss → Pairs R ss (with_session a b f ss)
      pairs_session a b h [] e = tt
      pairs_session a b h (s ∷ ss) e =
          elim (joins a b s) as (λ c. joins a b s ≡ c → Pairs R (s ∷ ss) (cond c (f s ∷ ss) (cond (joins b a s) (turned (f (turned s)) ∷ ss) (s ∷ with_session a b f ss)))) [
            | true ↦ λ is. (kept s, h s is e.0, pairs_refl ss)
            | false ↦ λ _. elim (joins b a s) as (λ c. joins b a s ≡ c → Pairs R (s ∷ ss) (cond c (turned (f (turned s)) ∷ ss) (s ∷ with_session a b f ss))) [
              | true ↦ λ is. (turned_nodes f kept s, both (turned s) (f (turned s)) (h (turned s) (swap_and (is_at b s.near) (is_at a s.far) true is) (back s e.0)), pairs_refl ss)
              | false ↦ λ _. (refl, same s, pairs_session a b h ss e.1)
            ] refl
          ] refl

      pub pairs_node : (n : Name) → ((s : Session) → Q s → R s (f s)) → (ss : List Session) → Each Q ss → Pairs R ss (map (at_node n f) ss)
      pairs_node n h [] e = tt
      pairs_node n h (s ∷ ss) e = (at_node_nodes n f kept s, at_one s e.0, pairs_node n h ss e.1)
        where
          at_one : (s : Session) → Q s → R s (at_node n f s)
          at_one s q =
              elim (is_at n s.near) as (λ c. R s (cond c (f s) (cond (is_at n s.far) (turned (f (turned s))) s))) [
                | true ↦ h s q
                | false ↦ elim (is_at n s.far) as (λ c. R s (cond c (turned (f (turned s))) s)) [ true ↦ both (turned s) (f (turned s)) (h (turned s) (back s q)) | false ↦ same s ]
              ]
