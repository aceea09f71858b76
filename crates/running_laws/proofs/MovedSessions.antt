-- A compute node moves: its sessions have nothing then, and those of two other nodes are as they were.
use Rattle.std.specs.Prelude.{◌≡◌, ◌⊎◌, List, [], ◌∷◌, ◌++◌, map, Bool, true, false, not, cond, ◌&&◌}
use Rattle.std.specs.List.{AllByRecursion, filter}
use Rattle.std.specs.declared.option.Option.{Option}
use Rattle.std.specs.declared.option.Option.TheVariants.{Some, None}
use Rattle.std.specs.Cmp.Lexicographic.{bytes_decides}
use Rattle.std.proofs.lemmas.Bool.{and_parts, true≢false}
use Rattle.std.proofs.Common.{refl, sym, ◌∙◌, ap, subst, inl, inr}
use Rattle.ov_types.specs.First.{same_name}
use Rattle.ov_types.specs.declared.rows.NodeId.{NodeId}
use Rattle.config_types.specs.declared.topology.Node.{Node}
use Rattle.config_types.specs.declared.topology.Topology.{Topology}
use Rattle.node_model.specs.Members.{Member}
use Rattle.node_model.proofs.Members.{from_filter}
use Rattle.machine_laws.specs.MachineModel.Setup.{Name, lists}
use Rattle.machine_laws.specs.MachineModel.Session.{Configuration, Controller, Agent, Session, turned}
use Rattle.machine_laws.specs.MachineModel.Network.{accesses, accesses_of, asked, between, brought, config, feeds, is_at, is_of, peerings, replaced, same_role}
use Rattle.machine_laws.specs.MachineModel.Steps.{joins, session_in}
use Rattle.machine_laws.specs.MachineModel.Moments.{Each, NodePair, nodes}
use Rattle.machine_laws.proofs.MachineModel.Distinct.{same_false}
use Rattle.machine_laws.proofs.MachineModel.Listed.{each_member, of_nodes, to_nodes}
use Rattle.machine_laws.proofs.MachineModel.Replaced.{each_append, each_brought, each_of, each_replaced}
use Rattle.running_laws.proofs.Started.{HasNothing}

and_false : (b : Bool) → (b && false) ≡ false
and_false true = refl
and_false false = refl

module _ (name : Name) where
  -- ---- the agent's sessions have nothing
  abbrev pub IsBare : Session → Type 0
  IsBare s = HasNothing s.near × HasNothing s.far

  abbrev pub IsBareFor : Session → Type 0
  IsBareFor s = ((same_name s.near.name name ≡ true) ⊎ (same_name s.far.name name ≡ true)) → IsBare s

  pub bare_turned : (s : Session) → IsBareFor s → IsBareFor (turned s)
  bare_turned s h (inl e) = let b = h (inr e) in (b.1, b.0)
  bare_turned s h (inr e) = let b = h (inl e) in (b.1, b.0)

  -- no other has its name
  abbrev pub IsOnly : NodePair → Type 0
  IsOnly p = (same_name p.0.0 name ≡ false) × (same_name p.1.0 name ≡ true → same_role Agent p.1.1 ≡ true)

  module _ (t : Topology) (off_config : same_name config name ≡ false) (off : (c : NodeId) → Member c t.controllers → same_name c.name name ≡ false) where
    abbrev P : Session → Type 0
    P s = IsOnly (nodes s)

    feeds_only : Each P (feeds t.controllers)
    feeds_only =
        each_member P (λ (c : NodeId). between config Configuration c.name Controller) t.controllers
        (λ c m. (off_config, λ e. absurd (true≢false (sym e ∙ off c m))))

    peers_only : (cs : List NodeId) → ((c : NodeId) → Member c cs → same_name c.name name ≡ false) → Each P (peerings cs)
    peers_only [] h = tt
    peers_only (c ∷ cs) h =
        each_append P (map (λ (d : NodeId). between c.name Controller d.name Controller) cs) (peerings cs)
        (each_member P (λ (d : NodeId). between c.name Controller d.name Controller) cs
        (λ d m. (h c (inl refl), λ e. absurd (true≢false (sym e ∙ h d (inr m))))))
        (peers_only cs (λ d m. h d (inr m)))

    accesses_only : (ns : List Node) → Each P (accesses t.controllers ns)
    accesses_only [] = tt
    accesses_only (n ∷ ns) =
        each_append P (accesses_of t.controllers n) (accesses t.controllers ns)
        (each_member P (λ (c : NodeId). between c.name Controller n.name Agent) (filter (lists n) t.controllers)
        (λ c m. (off c (from_filter (lists n) c t.controllers m).0, λ e. refl)))
        (accesses_only ns)

    asked_only : Each P (asked t)
    asked_only =
        each_append P (feeds t.controllers ++ peerings t.controllers) (accesses t.controllers t.nodes)
        (each_append P (feeds t.controllers) (peerings t.controllers) feeds_only (peers_only t.controllers off))
        (accesses_only t.nodes)

    kept_bare : (s : Session) → is_of name s ≡ false → P s → IsBareFor s
    kept_bare s other p (inl e) = absurd (true≢false (sym e ∙ p.0))
    kept_bare s other p (inr e) =
        absurd (true≢false (sym (ap (λ b. b && same_role Agent s.far.role) e ∙ ap (λ b. true && b) (p.1 e)) ∙ other))

    pub replaced_bare : (cs : List NodeId) (now : Option Node) (ss : List Session) → map nodes ss ≡ map nodes (asked t)
        → Each IsBareFor (replaced name (brought cs now) ss)
    replaced_bare cs now ss has =
        each_replaced P IsBareFor name kept_bare (brought cs now) ss
        (each_brought IsBareFor (λ n m r q e. (record { is = refl }, record { is = refl })) cs now)
        (of_nodes IsOnly ss (subst (AllByRecursion IsOnly) (sym has) (to_nodes IsOnly (asked t) asked_only)))

  -- ---- a session of two others
  abbrev IsOwn : Session → Type 0
  IsOwn s = same_name s.far.name name ≡ true

  pub brought_own : (cs : List NodeId) (now : Option Node) → ((k : Node) → now ≡ Some k → k.name ≡ name) → Each IsOwn (brought cs now)
  brought_own cs None named = tt
  brought_own cs (Some n) named =
      each_of IsOwn (λ (c : NodeId). between c.name Controller n.name Agent) (λ c. (bytes_decides n.name name).1 (named n refl))
      (filter (lists n) cs)

  module _ (a b : Name) (off_a : a ≡ name → ⊥) (off_b : b ≡ name → ⊥) where
    none_far : (c : Name) → (c ≡ name → ⊥) → (s : Session) → IsOwn s → is_at c s.far ≡ false
    none_far c off s own = same_false s.far.name c (λ e. off (sym e ∙ (bytes_decides s.far.name name).0 own))

    not_joined : (s : Session) → IsOwn s → (joins a b s ≡ false) × (joins b a s ≡ false)
    not_joined s own = (
      ap (λ c. is_at a s.near && c) (none_far b off_b s own) ∙ and_false (is_at a s.near),
      ap (λ c. is_at b s.near && c) (none_far a off_a s own) ∙ and_false (is_at b s.near),
    )

    skipped : (s : Session) (ss : List Session) → IsOwn s → session_in (s ∷ ss) a b ≡ session_in ss a b
    skipped s ss own =
        let j = not_joined s own in
        ap (λ c. cond c (Some s) (cond (joins b a s) (Some (turned s)) (session_in ss a b))) j.0
        ∙ ap (λ c. cond c (Some (turned s)) (session_in ss a b)) j.1

    all_skipped : (new ss : List Session) → Each IsOwn new → session_in (new ++ ss) a b ≡ session_in ss a b
    all_skipped [] ss h = refl
    all_skipped (s ∷ new) ss h = skipped s (new ++ ss) h.0 ∙ all_skipped new ss h.1

    none_found : (new : List Session) → Each IsOwn new → session_in new a b ≡ None
    none_found [] h = refl
    none_found (s ∷ new) h = skipped s new h.0 ∙ none_found new h.1

    abbrev looked : Session → Option Session → Option Session
    looked s o = cond (joins a b s) (Some s) (cond (joins b a s) (Some (turned s)) o)

    is_own : (s : Session) → is_of name s ≡ true → IsOwn s
    is_own s e = (and_parts (is_at name s.far) (same_role Agent s.far.role) e).0

    others_in : (ss : List Session) → session_in (filter (λ s. not (is_of name s)) ss) a b ≡ session_in ss a b
    others_in [] = refl
    others_in (s ∷ ss) =
        elim (is_of name s) as (λ c. is_of name s ≡ c
        → session_in (cond (not c) (s ∷ filter (λ s. not (is_of name s)) ss) (filter (λ s. not (is_of name s)) ss)) a b ≡ session_in (s ∷ ss) a b) [
          | true ↦ λ e. others_in ss ∙ sym (skipped s ss (is_own s e))
          | false ↦ λ _. ap (looked s) (others_in ss)
        ] refl

    pub replaced_in : (new ss : List Session) → Each IsOwn new → session_in (replaced name new ss) a b ≡ session_in ss a b
    replaced_in new [] h = none_found new h
    replaced_in new (s ∷ ss) h =
        elim (is_of name s) as (λ c. is_of name s ≡ c
        → session_in (cond c (new ++ filter (λ s. not (is_of name s)) ss) (s ∷ replaced name new ss)) a b ≡ session_in (s ∷ ss) a b) [
          | true ↦ λ e. all_skipped new (filter (λ s. not (is_of name s)) ss) h ∙ others_in ss ∙ sym (skipped s ss (is_own s e))
          | false ↦ λ _. ap (looked s) (replaced_in new ss h)
        ] refl
