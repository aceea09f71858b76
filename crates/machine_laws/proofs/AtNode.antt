-- A change of all sessions of a node.
use Rattle.std.specs.Prelude.{List, [], ◌∷◌, map, true, false, cond}
use Rattle.std.specs.declared.option.Option.TheVariants.{Some, None}
use Rattle.std.specs.List.{cons_option}
use Rattle.machine_model.specs.Setup.{Name}
use Rattle.machine_model.specs.Session.{Session, turned}
use Rattle.machine_model.specs.Network.{is_at, sessions_of}
use Rattle.machine_model.specs.Steps.{at_node}
use Rattle.machine_model.proofs.NetworkFact.{Each}

-- a change of all sessions of a node
pub each_at_node : (P Q P' : Session → Type 0) (n : Name) (f : Session → Session) → ((s : Session) → P s → Q s → P' (f s)) → ((s : Session) → P s → Q (turned s) → P' (turned (f (turned s)))) → ((s : Session) → P s → P' s)
    → (ss : List Session) → Each P ss → Each Q (sessions_of n ss) → Each P' (map (at_node n f) ss)
each_at_node P Q P' n f near far keep [] e q = tt
each_at_node P Q P' n f near far keep (s ∷ ss) e q =
    elim (is_at n s.near) as (λ b. Each Q (cons_option (cond b (Some s) (cond (is_at n s.far) (Some (turned s)) None)) (sessions_of n ss)) → P' (cond b (f s) (cond (is_at n s.far) (turned (f (turned s))) s)) × Each P' (map (at_node n f) ss)) [
      | true ↦ λ q. (near s e.0 q.0, each_at_node P Q P' n f near far keep ss e.1 q.1)
      | false ↦ elim (is_at n s.far) as (λ b. Each Q (cons_option (cond b (Some (turned s)) None) (sessions_of n ss)) → P' (cond b (turned (f (turned s))) s) × Each P' (map (at_node n f) ss)) [
        | true ↦ λ q. (far s e.0 q.0, each_at_node P Q P' n f near far keep ss e.1 q.1)
        | false ↦ λ q. (keep s e.0, each_at_node P Q P' n f near far keep ss e.1 q)
      ]
    ] q
