-- The session of two nodes as each of them sees it, before and after a change of it, or of all sessions of one of them.
use Rattle.std.specs.Prelude.{◌≡◌, ◌≢◌, List, [], ◌∷◌, map, Bool, true, false, cond}
use Rattle.std.specs.declared.option.Option.TheVariants.{Some}
use Rattle.std.specs.Option.{option_map}
use Rattle.std.specs.Cmp.Lexicographic.{bytes_decides}
use Rattle.std.proofs.lemmas.Bool.{true≢false, and_parts}
use Rattle.std.proofs.lemmas.Option.{none-some, same_Some}
use Rattle.std.proofs.Common.{refl, sym, ◌∙◌, ap}
use Rattle.machine_laws.specs.MachineModel.Setup.{Name}
use Rattle.machine_laws.specs.MachineModel.Session.{Session, turned}
use Rattle.machine_laws.specs.MachineModel.Network.{is_at}
use Rattle.machine_laws.specs.MachineModel.Steps.{at_node, joins, session_in, with_session}
use Rattle.machine_laws.proofs.MachineModel.Deeds.{others_stay, strangers_stay}
use Rattle.machine_laws.specs.MachineModel.Moments.{Each, nodes}
use Rattle.machine_laws.proofs.MachineModel.NetworkFact.{KeepsNodes, found}
use Rattle.machine_laws.proofs.MachineModel.Twins.{NoTwins, found_changed, found_node}

-- ---- the two sides
pub joined_twice : (a b : Name) → a ≢ b → (s : Session) → joins a b s ≡ true → joins b a s ≡ true → ⊥
joined_twice a b apart s e f =
    let p = and_parts (is_at a s.near) (is_at b s.far) e in
    let q = and_parts (is_at b s.near) (is_at a s.far) f in
    apart (sym ((bytes_decides s.near.name a).0 p.0) ∙ (bytes_decides s.near.name b).0 q.0)

module _ (a b : Name) (apart : a ≢ b) where
  pub other_side : (ss : List Session) → session_in ss b a ≡ option_map turned (session_in ss a b)
  other_side [] = refl
  other_side (s ∷ ss) = by_tests (other_side ss) (joins a b s) (joins b a s) refl refl
    where
      by_tests : session_in ss b a ≡ option_map turned (session_in ss a b)
          → (c d : Bool) → joins a b s ≡ c → joins b a s ≡ d
          → cond d (Some s) (cond c (Some (turned s)) (session_in ss b a))
          ≡ option_map turned (cond c (Some s) (cond d (Some (turned s)) (session_in ss a b)))
      by_tests rest true true e f = absurd (joined_twice a b apart s e f)
      by_tests rest true false e f = refl
      by_tests rest false true e f = refl
      by_tests rest false false e f = rest

  pub seen_back : (ss : List Session) (s : Session) → session_in ss a b ≡ Some s → session_in ss b a ≡ Some (turned s)
  seen_back ss s is = other_side ss ∙ ap (option_map turned) is

  -- ---- a change at the first node's end
  pub changed_here : (f : Session → Session) → KeepsNodes f → (ss : List Session) (s : Session)
      → session_in ss a b ≡ Some s → session_in (with_session a b f ss) a b ≡ Some (f s)
  changed_here f kept ss s is = found_changed a b f kept ss ∙ ap (option_map f) is

  pub changed_there : (f : Session → Session) → KeepsNodes f → (ss : List Session) (s : Session)
      → session_in ss a b ≡ Some s → session_in (with_session a b f ss) b a ≡ Some (turned (f s))
  changed_there f kept ss s is =
      other_side (with_session a b f ss) ∙ ap (option_map turned) (changed_here f kept ss s is)

  -- ---- a change at the first node's end of all its sessions
  pub node_here : (f : Session → Session) → KeepsNodes f → (ss : List Session) (s : Session)
      → session_in ss a b ≡ Some s → session_in (map (at_node a f) ss) a b ≡ Some (f s)
  node_here f kept ss s is = found_node a b f kept ss ∙ ap (option_map f) is

  pub node_there : (f : Session → Session) → KeepsNodes f → (ss : List Session) (s : Session)
      → session_in ss a b ≡ Some s → session_in (map (at_node a f) ss) b a ≡ Some (turned (f s))
  node_there f kept ss s is =
      other_side (map (at_node a f) ss) ∙ ap (option_map turned) (node_here f kept ss s is)

-- a session of two other nodes
pub node_elsewhere : (n a b : Name) → n ≢ a → n ≢ b → (f : Session → Session) → KeepsNodes f → (ss : List Session)
    (s : Session) → session_in ss a b ≡ Some s → session_in (map (at_node n f) ss) a b ≡ Some s
node_elsewhere n a b h k f kept ss s is = strangers_stay n a b h k f kept ss ∙ is

pub changed_elsewhere : (a b c d : Name) → (a ≡ c → b ≡ d → ⊥) → (a ≡ d → b ≡ c → ⊥) → (f : Session → Session)
    → KeepsNodes f → (ss : List Session) (s : Session) → session_in ss c d ≡ Some s
    → session_in (with_session a b f ss) c d ≡ Some s
changed_elsewhere a b c d h k f kept ss s is = others_stay a b c d (h, k) f kept ss ∙ is

-- ---- the names of a session that is found
pub found_names : (a b : Name) (ss : List Session) (s : Session) → session_in ss a b ≡ Some s
    → (s.near.name ≡ a) × (s.far.name ≡ b)
found_names a b [] s is = absurd (none-some s is)
found_names a b (t ∷ ss) s is = by_tests (found_names a b ss s) (joins a b t) (joins b a t) refl refl is
  where
    by_tests : (session_in ss a b ≡ Some s → (s.near.name ≡ a) × (s.far.name ≡ b))
        → (c d : Bool) → joins a b t ≡ c → joins b a t ≡ d
        → cond c (Some t) (cond d (Some (turned t)) (session_in ss a b)) ≡ Some s
        → (s.near.name ≡ a) × (s.far.name ≡ b)
    by_tests rest true d e f is =
        let p = and_parts (is_at a t.near) (is_at b t.far) e in
        let same : t ≡ s = same_Some t s is in (
          ap (λ (s : Session). s.near.name) (sym same) ∙ (bytes_decides t.near.name a).0 p.0,
          ap (λ (s : Session). s.far.name) (sym same) ∙ (bytes_decides t.far.name b).0 p.1,
        )
    by_tests rest false true e f is =
        let p = and_parts (is_at b t.near) (is_at a t.far) f in
        let same : turned t ≡ s = same_Some (turned t) s is in (
          ap (λ (s : Session). s.near.name) (sym same) ∙ (bytes_decides t.far.name a).0 p.1,
          ap (λ (s : Session). s.far.name) (sym same) ∙ (bytes_decides t.near.name b).0 p.0,
        )
    by_tests rest false false e f is = rest is

-- no session joins a node to itself
pub proper_each : (ss : List Session) → NoTwins (map nodes ss) → Each (λ s. s.near.name ≢ s.far.name) ss
proper_each [] t = tt
proper_each (s ∷ ss) t = (
  (λ e. true≢false (sym ((bytes_decides s.near.name s.far.name).1 e) ∙ t.0.0)),
  proper_each ss t.2,
)

pub found_apart : (a b : Name) (ss : List Session) (s : Session) → NoTwins (map nodes ss) → session_in ss a b ≡ Some s
    → a ≢ b
found_apart a b ss s twins is e =
    let p = found_names a b ss s is in
    found (λ s. s.near.name ≢ s.far.name) (λ s h e. h (sym e)) ss a b (proper_each ss twins) s is (p.0 ∙ e ∙ sym p.1)
