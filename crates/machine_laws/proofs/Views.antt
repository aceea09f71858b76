-- The holdings of a node from its sessions.
use Rattle.std.specs.Cmp.Lexicographic.{bytes_decides}
use Rattle.std.specs.List.{AllByRecursion, AllZip, cons_option, enumerate_from, filter, filter_map}
use Rattle.std.specs.Prelude.{List, cond, false, length, map, suc, true, ℕ, [], ◌+◌, ◌∷◌, ◌≡◌}
use Rattle.std.specs.declared.option.Option.TheVariants.{None, Some}
use Rattle.std.proofs.Common.{ap, inl, inr, refl, sym, ◌∙◌}
use Rattle.std.proofs.lemmas.Bool.{true≢false}
use Rattle.std.specs.declared.option.Option.{Option}
use Rattle.ov_types.specs.First.{same_name}
use Rattle.ov_types.specs.declared.rows.NodeId.{NodeId}
use Rattle.machine_model.specs.Setup.{Setup}
use Rattle.node_laws.specs.NodeModel.Maps.{Map}
use Rattle.node_laws.specs.NodeModel.Members.{Member}
use Rattle.machine_model.specs.Moments.{Each, nodes}
use Rattle.machine_model.specs.Network.{View, control_holdings, first_held, heard_from, is_at, same_role, sessions_of, told_by, view, with_role}
use Rattle.machine_model.specs.Session.{Agent, Configuration, Controller, Role, Session, is_up_phase, turned}
use Rattle.machine_model.specs.Setup.{Name, agents_of, low}
use Rattle.machine_laws.specs.Compiled as compiled
use Rattle.machine_laws.specs.Compiled.{Agents}
use Rattle.machine_laws.specs.Goal.{Party, agents_among, is_in_role, numbered_at, others}
use Rattle.machine_laws.proofs.Told.{told_map}

abbrev pub far : Session → Party
far s = (s.far.name, s.far.role)

role_is : (r q : Role) → same_role r q ≡ true → q ≡ r
role_is Configuration Configuration e = refl
role_is Controller Controller e = refl
role_is Agent Agent e = refl
role_is Configuration Controller e = absurd (true≢false (sym e))
role_is Configuration Agent e = absurd (true≢false (sym e))
role_is Controller Configuration e = absurd (true≢false (sym e))
role_is Controller Agent e = absurd (true≢false (sym e))
role_is Agent Configuration e = absurd (true≢false (sym e))
role_is Agent Controller e = absurd (true≢false (sym e))

-- ---- the sessions of a node
pub own_named : (n : Name) (ss : List Session) → Each (λ s. s.near.name ≡ n) (sessions_of n ss)
own_named n [] = tt
own_named n (s ∷ ss) =
    elim (is_at n s.near) as (λ b. is_at n s.near ≡ b → Each (λ s. s.near.name ≡ n) (cons_option (cond b (Some s) (cond (is_at n s.far) (Some (turned s)) None)) (sessions_of n ss))) [
      | true ↦ λ e. ((bytes_decides s.near.name n).0 e, own_named n ss)
      | false ↦ λ _. elim (is_at n s.far) as (λ b. is_at n s.far ≡ b → Each (λ s. s.near.name ≡ n) (cons_option (cond b (Some (turned s)) None) (sessions_of n ss))) [
        | true ↦ λ e. ((bytes_decides s.far.name n).0 e, own_named n ss)
        | false ↦ λ _. own_named n ss
      ] refl
    ] refl

pub fars_are : (n : Name) (ss : List Session) → map far (sessions_of n ss) ≡ others n (map nodes ss)
fars_are n [] = refl
fars_are n (s ∷ ss) =
    elim (is_at n s.near) as (λ b. map far (cons_option (cond b (Some s) (cond (is_at n s.far) (Some (turned s)) None)) (sessions_of n ss)) ≡ cons_option (cond b (Some (far s)) (cond (is_at n s.far) (Some (s.near.name, s.near.role)) None)) (others n (map nodes ss))) [
      | true ↦ ap (λ (os : List Party). far s ∷ os) (fars_are n ss)
      | false ↦ elim (is_at n s.far) as (λ b. map far (cons_option (cond b (Some (turned s)) None) (sessions_of n ss)) ≡ cons_option (cond b (Some (s.near.name, s.near.role)) None) (others n (map nodes ss))) [
        | true ↦ ap (λ (os : List Party). far (turned s) ∷ os) (fars_are n ss)
        | false ↦ fars_are n ss
      ]
    ]

-- ---- a control node
abbrev pub views : List Session → List View
views own = map view own

pub feed_held : (feed : Map) (own : List Session) → Each (λ s. s.far.role ≡ Configuration → s.near.held ≡ feed) own → (m : Name) → Member (m, Configuration) (map far own) → first_held (with_role Configuration (views own)) ≡ feed
feed_held feed [] h m i = absurd i
feed_held feed (s ∷ own) h m i =
    elim (same_role Configuration s.far.role) as (λ b. same_role Configuration s.far.role ≡ b → first_held (cond b (view s ∷ with_role Configuration (views own)) (with_role Configuration (views own))) ≡ feed) [
      | true ↦ λ e. h.0 (role_is Configuration s.far.role e)
      | false ↦ λ e. feed_held feed own h.1 m (elim i as (λ _. Member (m, Configuration) (map far own)) [ inl is ↦ absurd (true≢false (sym (ap (λ (o : Party). same_role Configuration o.1) is) ∙ e)) | inr i ↦ i ])
    ] refl

agents_held : (x : Setup) (m : ℕ) (own : List Session) (agents : List (Option NodeId)) → ((a : NodeId) → Member (Some a) agents → (heard_from (views own) a.name).map ≡ told_map (low x) a.address)
    → filter_map (λ e. told_by (views own) e.0 e.1) (enumerate_from m agents) ≡ map (compiled.told_by_agent (low x)) (filter_map (λ e. numbered_at e.0 e.1) (enumerate_from m agents))
agents_held x m own [] h = refl
agents_held x m own (None ∷ agents) h = agents_held x (m + 1) own agents (λ a i. h a (inr i))
agents_held x m own (Some a ∷ agents) h =
    λ i. record { session = m; address = a.address; map = h a (inl refl) i } ∷ agents_held x (m + 1) own agents (λ a i. h a (inr i)) i

controllers_many : (own : List Session) → length (with_role Controller (views own)) ≡ length (filter (is_in_role Controller) (map far own))
controllers_many [] = refl
controllers_many (s ∷ own) =
    elim (same_role Controller s.far.role) as (λ b. length (cond b (view s ∷ with_role Controller (views own)) (with_role Controller (views own))) ≡ length (cond b (far s ∷ filter (is_in_role Controller) (map far own)) (filter (is_in_role Controller) (map far own)))) [
      | true ↦ ap suc (controllers_many own)
      | false ↦ controllers_many own
    ]

abbrev pub peer_maps : List Session → List Map
peer_maps own = map (λ v. v.held) (with_role Controller (views own))

pub peers_agree : (R : Map → Map → Type 0) (G : Agents → Map) (F : Party → Agents) (own : List Session) → Each (λ s. s.far.role ≡ Controller → R s.near.held (G (F (far s)))) own
    → AllZip R (peer_maps own) (map G (map F (filter (is_in_role Controller) (map far own))))
peers_agree R G F [] h = tt
peers_agree R G F (s ∷ own) h =
    elim (same_role Controller s.far.role) as (λ b. same_role Controller s.far.role ≡ b → AllZip R (map (λ v. v.held) (cond b (view s ∷ with_role Controller (views own)) (with_role Controller (views own)))) (map G (map F (cond b (far s ∷ filter (is_in_role Controller) (map far own)) (filter (is_in_role Controller) (map far own)))))) [
      | true ↦ λ e. (h.0 (role_is Controller s.far.role e), peers_agree R G F own h.1)
      | false ↦ λ e. peers_agree R G F own h.1
    ] refl

pub peers_have : (P : Map → Type 0) (own : List Session) → Each (λ s. s.far.role ≡ Controller → P s.near.held) own → AllByRecursion P (peer_maps own)
peers_have P [] h = tt
peers_have P (s ∷ own) h =
    elim (same_role Controller s.far.role) as (λ b. same_role Controller s.far.role ≡ b → AllByRecursion P (map (λ v. v.held) (cond b (view s ∷ with_role Controller (views own)) (with_role Controller (views own))))) [
      | true ↦ λ e. (h.0 (role_is Controller s.far.role e), peers_have P own h.1)
      | false ↦ λ e. peers_have P own h.1
    ] refl

pub all_have : {A B : Type 0} (P : B → Type 0) (f : A → B) → ((a : A) → P (f a)) → (xs : List A) → AllByRecursion P (map f xs)
all_have P f h [] = tt
all_have P f h (x ∷ xs) = (h x, all_have P f h xs)

pub same_zip : (ms ns : List Map) → AllZip (λ m n. m ≡ n) ms ns → ms ≡ ns
same_zip [] [] z = refl
same_zip [] (n ∷ ns) z = absurd z
same_zip (m ∷ ms) [] z = absurd z
same_zip (m ∷ ms) (n ∷ ns) z = λ i. z.0 i ∷ same_zip ms ns z.1 i

-- what a control node holds, by the maps of its peers
pub control_is : (x : Setup) (name : Name) (own : List Session) → Each (λ s. s.far.role ≡ Configuration → s.near.held ≡ (low x)) own → ((a : NodeId) → Member (Some a) (agents_of x name) → (heard_from (views own) a.name).map ≡ told_map (low x) a.address) → (m : Name) → Member (m, Configuration) (map far own)
    → control_holdings x name (views own) ≡ record { asn = x.topology.asn; feed = (low x); peers = peer_maps own; agents = map (compiled.told_by_agent (low x)) (agents_among x name (map far own)) }
control_is x name own f a m i =
    let fed = feed_held (low x) own f m i in
    let many = controllers_many own in
    let agents = ap (λ n. filter_map (λ e. told_by (views own) e.0 e.1) (enumerate_from (1 + n) (agents_of x name))) many ∙ agents_held x (1 + length (filter (is_in_role Controller) (map far own))) own (agents_of x name) a in
    λ j. record { asn = x.topology.asn; feed = fed j; peers = peer_maps own; agents = agents j }

-- ---- an agent
pub heard : (F : Session → Type 0) (own : List Session) (m : Name) (r : Role) → Each F own → Member (m, r) (map far own) → (s : Session) × F s × (s.far.name ≡ m) × (heard_from (views own) m ≡ record { is_up = is_up_phase s.near.phase; map = s.near.held })
heard F [] m r h i = absurd i
heard F (s ∷ own) m r h i =
    elim (same_name s.far.name m) as (λ b. same_name s.far.name m ≡ b → (t : Session) × F t × (t.far.name ≡ m) × (cond b (record { is_up = is_up_phase s.near.phase; map = s.near.held }) (heard_from (views own) m) ≡ record { is_up = is_up_phase t.near.phase; map = t.near.held })) [
      | true ↦ λ e. (s, h.0, (bytes_decides s.far.name m).0 e, refl)
      | false ↦ λ e. heard F own m r h.1 (elim i as (λ _. Member (m, r) (map far own)) [ inl is ↦ absurd (true≢false (sym ((bytes_decides s.far.name m).1 (ap (λ (o : Party). o.0) is)) ∙ e)) | inr i ↦ i ])
    ] refl
