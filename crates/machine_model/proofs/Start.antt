-- The fact of the start.
use Rattle.std.specs.Prelude.{◌≡◌, ℕ, ◌<◌, List, [], ◌∷◌, true, false, cond}
use Rattle.std.specs.declared.option.Option.TheVariants.{Some, None}
use Rattle.std.specs.List.{filter, cons_option}
use Rattle.std.proofs.lemmas.Bool.{true≢false}
use Rattle.std.proofs.Common.{refl, sym, ◌∙◌, inr}
use Rattle.schedule_script.specs.ConfigCheck.Checked.{Checked}
use Rattle.machine_model.specs.Setup.{Name, Setup, lists, opening}
use Rattle.ov_types.specs.declared.rows.NodeId.{NodeId}
use Rattle.schedule_script.specs.ConfigTypes.Node.{Node}
use Rattle.machine_model.specs.Session.{Role, Configuration, Controller, Agent, Message, Session, turned}
use Rattle.machine_model.specs.Network.{start, peerings, accesses, fresh, config, sessions_of, is_at}
use Rattle.machine_model.proofs.SessionFact.{DownEnd, Down, Fact}
use Rattle.machine_model.proofs.NetworkFact.{Each, IsSound, nodes}
use Rattle.machine_model.specs.Moments.{HasTold}
use Rattle.machine_model.proofs.Replaced.{each_append, each_of}
use Rattle.machine_model.proofs.ToldNext.{AllHaveTold}

-- a session that is down, with ends that have nothing
abbrev Is_fresh : Session → Type 0
Is_fresh s = Down s

fresh_end : (n : Name) (r : Role) → DownEnd (fresh n r)
fresh_end n r = record { notice = refl; flight = refl; taken = refl; tidy = λ _. (refl, refl) }

fresh_session : (n m : Name) (r q : Role) → Is_fresh (record { is_down = true; near = fresh n r; far = fresh m q })
fresh_session n m r q = record { down = refl; near = fresh_end n r; far = fresh_end m q }

peerings_fresh : (cs : List NodeId) → Each Is_fresh (peerings cs)
peerings_fresh [] = tt
peerings_fresh (c ∷ cs) = each_append Is_fresh _ _ (each_of Is_fresh (λ d. record { is_down = true; near = fresh c.name Controller; far = fresh d.name Controller }) (λ d. fresh_session c.name d.name Controller Controller) cs) (peerings_fresh cs)

accesses_fresh : (cs : List NodeId) (ns : List Node) → Each Is_fresh (accesses cs ns)
accesses_fresh cs [] = tt
accesses_fresh cs (n ∷ ns) = each_append Is_fresh _ _ (each_of Is_fresh (λ (c : NodeId). record { is_down = true; near = fresh c.name Controller; far = fresh n.name Agent }) (λ c. fresh_session c.name n.name Controller Agent) (filter (lists n) cs)) (accesses_fresh cs ns)

start_fresh : (x : Checked) → Each Is_fresh (start x).sessions
start_fresh x =
    each_append Is_fresh _ _ (each_append Is_fresh _ _
    (each_of Is_fresh (λ (c : NodeId). record { is_down = true; near = fresh config Configuration; far = fresh c.name Controller }) (λ c. fresh_session config c.name Configuration Controller) x.topology.controllers)
    (peerings_fresh x.topology.controllers)) (accesses_fresh x.topology.controllers x.topology.nodes)

sound_of : (size : Name → Message → ℕ) (ss : List Session) → Each Is_fresh ss → Each (Fact size) ss
sound_of size [] e = tt
sound_of size (s ∷ ss) e = (inr e.0, sound_of size ss e.1)

own_down : (n : Name) (ss : List Session) → Each Is_fresh ss → Each (λ s. s.is_down ≡ true) (sessions_of n ss)
own_down n [] e = tt
own_down n (s ∷ ss) e =
    elim (is_at n s.near) as (λ b. Each (λ s. s.is_down ≡ true) (cons_option (cond b (Some s) (cond (is_at n s.far) (Some (turned s)) None)) (sessions_of n ss))) [
      | true ↦ (e.0.down, own_down n ss e.1)
      | false ↦ elim (is_at n s.far) as (λ b. Each (λ s. s.is_down ≡ true) (cons_option (cond b (Some (turned s)) None) (sessions_of n ss))) [ true ↦ (e.0.down, own_down n ss e.1) | false ↦ own_down n ss e.1 ]
    ]

down_told : (x : Setup) (own : List Session) → Each (λ s. s.is_down ≡ true) own → HasTold x own
down_told x [] e w = tt
down_told x (s ∷ own) e w = absurd (true≢false (sym e.0 ∙ w.0))

pub start_sound : (size : Name → Message → ℕ) (positive : (n : Name) (m : Message) → 0 < size n m) (x : Checked) → IsSound size positive (start x)
start_sound size positive x = sound_of size (start x).sessions (start_fresh x)

pub start_told : (x : Checked) → AllHaveTold (start x)
start_told x m = down_told (opening x) (sessions_of m (start x).sessions) (own_down m (start x).sessions (start_fresh x))

-- what holds of each fresh session
pub start_each : (P : Session → Type 0) → ((n m : Name) (r q : Role) → P (record { is_down = true; near = fresh n r; far = fresh m q })) → (x : Checked) → Each P (start x).sessions
start_each P h x =
    each_append P _ _ (each_append P _ _
    (each_of P (λ (c : NodeId). record { is_down = true; near = fresh config Configuration; far = fresh c.name Controller }) (λ c. h config c.name Configuration Controller) x.topology.controllers)
    (peers x.topology.controllers)) (agents x.topology.nodes)
  where
    peers : (cs : List NodeId) → Each P (peerings cs)
    peers [] = tt
    peers (c ∷ cs) = each_append P _ _ (each_of P (λ (d : NodeId). record { is_down = true; near = fresh c.name Controller; far = fresh d.name Controller }) (λ d. h c.name d.name Controller Controller) cs) (peers cs)

    agents : (ns : List Node) → Each P (accesses x.topology.controllers ns)
    agents [] = tt
    agents (n ∷ ns) = each_append P _ _ (each_of P (λ (c : NodeId). record { is_down = true; near = fresh c.name Controller; far = fresh n.name Agent }) (λ c. h c.name n.name Controller Agent) (filter (lists n) x.topology.controllers)) (agents ns)
