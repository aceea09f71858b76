-- The nodes that are made of a valid topology, with nothing of each other.
use Rattle.std.proofs.Common.{◌≡◌, ◌<◌, ◌≤◌, ◌+◌, ◌^◌, ℕ, zero, suc, Bool, true, false, cond, not, if◌then◌else◌, List, [], ◌∷◌, ◌++◌, length, map, sym, ◌∙◌, ap, refl, subst, arith, get_or, length-append}
use Rattle.std.proofs.lemmas.List.Elements.{All-append}
use Rattle.std.specs.List.{All, AllByRecursion, filter, list_any}
use Rattle.std.specs.declared.option.Option.{Option}
use Rattle.std.specs.declared.option.Option.TheVariants.{Some}
use Rattle.ov_types.specs.First.{same_name}
use Rattle.ov_types.proofs.FirstLemmas.{same_name_iff, same_name_self}
use Rattle.ov_types.specs.declared.rows.NodeId.{NodeId}
use Rattle.config_check.specs.Checked.{Checked}
use Rattle.config_types.specs.declared.topology.Node.{Node}
use Rattle.config_types.specs.declared.topology.Topology.{Topology}
use Rattle.running_nodes.specs.MachineModel.Setup.{Name, agents_in, first_numbers, id_of, lists, opening}
use Rattle.running_nodes.specs.Controls.{Controls, agents_at, controls_of}
use Rattle.node_core.specs.Keeping.{nothing_kept}
use Rattle.node_core.specs.Resting.{nothings}
use Rattle.node_model.specs.Step.{nothing}
use Rattle.running_nodes.specs.ConfigNode.Core as configuration
use Rattle.running_nodes.specs.ControlNode.Core as control
use Rattle.agent_node.specs.Core as agent
use Rattle.running_nodes.specs.Seats.{Configuring, Controlling, Forwarding, Seat, Who, agent_plan, control_plan, controller_named, names_of, others_of, whos}
use Rattle.running_nodes.specs.Steps.{fresh_seat}
use Rattle.running_nodes.specs.Cores.{IsVacated, configured, controlled, forwarded, inners}
use Rattle.running_nodes.specs.Fresh.{IsSetUp, fresh_inner, fresh_outer, opening_plan}
use Rattle.running_nodes.specs.Halves.{AreAllHalves, Inner, Outer, joined}
use Rattle.running_nodes.proofs.Stepping.{as_long, fresh_vacated, named, nothing_is_kept, nothings_are, sessions_of_agent, sessions_of_config}
use Rattle.running_nodes.proofs.Vacant.{all_there, sessions_there}

-- ---- one more at the end
one_right : {A : Type 0} (P : A → Type 0) (y : A) → P y → All P (y ∷ [])
one_right P y p zero d lt = p
one_right P y p (suc k) d lt = absurd (omega arith)

pub all_right : {A : Type 0} (P : A → Type 0) (xs ys : List A) (y : A) → All P xs → ys ≡ xs ++ y ∷ [] → P y → All P ys
all_right {A} P xs ys y h is p = subst (λ (zs : List A). All P zs) (sym is) (All-append P xs (y ∷ []) h (one_right P y p))

pub none_right : {A : Type 0} (P : A → Type 0) (xs : List A) → xs ≡ [] → All P xs
none_right {A} P xs is = subst (λ (ys : List A). All P ys) (sym is) (λ k d lt. absurd (omega arith))

-- at no session that is nobody's there is anything
pub all_vacated : (t : Topology) (cs : List NodeId) → All IsVacated (map (λ (c : NodeId). control.fresh (opening_plan t c)) cs)
all_vacated t [] = λ k d lt. absurd (omega arith)
all_vacated t (c ∷ cs) = λ k d lt. elim k as (λ k. k < length (map (λ (c : NodeId). control.fresh (opening_plan t c)) (c ∷ cs)) → IsVacated (get_or (map (λ (c : NodeId). control.fresh (opening_plan t c)) (c ∷ cs)) k d)) [
  | zero ↦ λ lt. fresh_vacated (control.fresh (opening_plan t c)) (opening_plan t c) refl
  | suc j ↦ λ lt. all_vacated t cs j d (omega (arith, lt))
] lt

-- ---- how many sessions there are
mapped_long : {A B : Type 0} (f : A → B) (xs : List A) → length (map f xs) ≡ length xs
mapped_long f [] = refl
mapped_long f (x ∷ xs) = ap suc (mapped_long f xs)

filtered_short : {A : Type 0} (p : A → Bool) (xs : List A) → length (filter p xs) ≤ length xs
filtered_short p [] = omega arith
filtered_short {A} p (x ∷ xs) = by_test (p x) (filtered_short p xs)
  where
    by_test : (b : Bool) → length (filter p xs) ≤ length xs → length (cond b (x ∷ filter p xs) (filter p xs)) ≤ suc (length xs)
    by_test true h = omega arith
    by_test false h = omega arith

pub few_others : (t : Topology) (me : NodeId) → length t.controllers ≤ 8 → length t.nodes ≤ 64
    → length (others_of (Controlling (controls_of (opening_plan t me)))) < 2 ^ 16
few_others t me controllers nodes =
    let plan = opening_plan t me in
    let all = sessions_there plan in
    let less : length plan.peers ≤ length t.controllers = filtered_short (λ (d : NodeId). not (same_name d.name me.name)) t.controllers in
    let as_many : length plan.agents ≡ length (filter (λ (n : Node). lists n me) t.nodes) = mapped_long id_of (filter (λ (n : Node). lists n me) t.nodes) in
    let fewer : length (filter (λ (n : Node). lists n me) t.nodes) ≤ length t.nodes = filtered_short (λ (n : Node). lists n me) t.nodes in
    omega (arith, all, less, as_many, fewer, controllers, nodes)

-- the sessions of a control node itself are fewer
pub few_sessions : (t : Topology) (me : NodeId) → length t.controllers ≤ 8 → length t.nodes ≤ 64
    → length (opening_plan t me).peers + length (opening_plan t me).agents < 65535
few_sessions t me controllers nodes =
    let plan = opening_plan t me in
    let less : length plan.peers ≤ length t.controllers = filtered_short (λ (d : NodeId). not (same_name d.name me.name)) t.controllers in
    let as_many : length plan.agents ≡ length (filter (λ (n : Node). lists n me) t.nodes) = mapped_long id_of (filter (λ (n : Node). lists n me) t.nodes) in
    let fewer : length (filter (λ (n : Node). lists n me) t.nodes) ≤ length t.nodes = filtered_short (λ (n : Node). lists n me) t.nodes in
    omega (arith, less, as_many, fewer, controllers, nodes)

-- ---- who the nodes of an opening topology are
abbrev pub opening_whos : Checked → List Who
opening_whos x =
    Configuring x ∷ (map (λ (c : NodeId). Controlling (controls_of (opening_plan x.topology c))) x.topology.controllers
    ++ map (λ (n : Node). Forwarding (agent_plan x.topology n)) x.topology.nodes)

abbrev agents_listing : List Node → Name → List (Option NodeId)
agents_listing nodes name = map (λ (n : Node). Some (id_of n)) (filter (λ (n : Node). list_any (same_name name) n.controllers) nodes)

numbers_found : (nodes : List Node) (cs : List NodeId) (k : ℕ) (d : NodeId) → k < length cs
    → agents_in (first_numbers nodes cs) (get_or cs k d).name ≡ agents_listing nodes (get_or cs k d).name
numbers_found nodes [] k d lt = absurd (omega arith)
numbers_found nodes (c ∷ cs) zero d lt =
    ap (λ (b : Bool). if b then agents_listing nodes c.name else agents_in (first_numbers nodes cs) c.name) (same_name_self c.name)
numbers_found nodes (c ∷ cs) (suc k) d lt = by_test (same_name c.name (get_or cs k d).name) refl (numbers_found nodes cs k d (omega (arith, lt)))
  where
    by_test : (b : Bool) → same_name c.name (get_or cs k d).name ≡ b
        → agents_in (first_numbers nodes cs) (get_or cs k d).name ≡ agents_listing nodes (get_or cs k d).name
        → agents_in (first_numbers nodes (c ∷ cs)) (get_or cs k d).name ≡ agents_listing nodes (get_or cs k d).name
    by_test true is rest =
        ap (λ (b : Bool). if b then agents_listing nodes c.name else agents_in (first_numbers nodes cs) (get_or cs k d).name) is
        ∙ ap (agents_listing nodes) ((same_name_iff c.name (get_or cs k d).name).0 is)
    by_test false is rest =
        ap (λ (b : Bool). if b then agents_listing nodes c.name else agents_in (first_numbers nodes cs) (get_or cs k d).name) is ∙ rest

images_alike : {A B : Type 0} (f g : A → B) (xs : List A) → ((k : ℕ) (d : A) → k < length xs → f (get_or xs k d) ≡ g (get_or xs k d))
    → map f xs ≡ map g xs
images_alike f g [] same = refl
images_alike {A} {B} f g (x ∷ xs) same =
    ap (λ (y : B). y ∷ map f xs) (same 0 x (omega arith))
    ∙ ap (λ (ys : List B). g x ∷ ys) (images_alike f g xs (λ k d lt. same (suc k) d (omega (arith, lt))))

some_of : (nodes : List Node) → map (λ (a : NodeId). Some a) (map id_of nodes) ≡ map (λ (n : Node). Some (id_of n)) nodes
some_of [] = refl
some_of (n ∷ nodes) = ap (λ (os : List (Option NodeId)). Some (id_of n) ∷ os) (some_of nodes)

pub whos_are : (x : Checked) → opening_whos x ≡ whos (opening x)
whos_are x =
    ap (λ (ws : List Who). Configuring x ∷ (ws ++ map (λ (n : Node). Forwarding (agent_plan x.topology n)) x.topology.nodes))
    (images_alike (λ (c : NodeId). Controlling (controls_of (opening_plan x.topology c))) (λ (c : NodeId). Controlling (control_plan (opening x) c)) x.topology.controllers
    (λ k d lt.
    let me : NodeId = get_or x.topology.controllers k d in
    let agents : agents_at (opening_plan x.topology me) ≡ agents_in (first_numbers x.topology.nodes x.topology.controllers) me.name =
    all_there (1 + length (opening_plan x.topology me).peers) (opening_plan x.topology me).agents
    ∙ (some_of (filter (λ (n : Node). lists n me) x.topology.nodes)
    ∙ sym (numbers_found x.topology.nodes x.topology.controllers k d lt)) in
    ap (λ (as' : List (Option NodeId)). let c : Controls = record { me = me; asn = x.topology.asn; peers = (opening_plan x.topology me).peers; agents = as' } in Controlling c) agents))

-- ---- all of them
abbrev pub IsFew : Who → Type 0
IsFew who = length (others_of who) < 2 ^ 16

few_controls : (t : Topology) (cs : List NodeId) → length t.controllers ≤ 8 → length t.nodes ≤ 64
    → AllByRecursion IsFew (map (λ (c : NodeId). Controlling (controls_of (opening_plan t c))) cs)
few_controls t [] controllers nodes = tt
few_controls t (c ∷ cs) controllers nodes = (few_others t c controllers nodes, few_controls t cs controllers nodes)

pub agent_few : (t : Topology) (n : Node) → length n.controllers ≤ 2 → IsFew (Forwarding (agent_plan t n))
agent_few t n here =
    let long = named (map (controller_named t) n.controllers) in
    let same = mapped_long (controller_named t) n.controllers in
    omega (arith, here, long, same)

few_agents : (t : Topology) (ns : List Node) → All (λ (n : Node). length n.controllers ≤ 2) ns
    → AllByRecursion IsFew (map (λ (n : Node). Forwarding (agent_plan t n)) ns)
few_agents t [] h = tt
few_agents t (n ∷ ns) h =
    let here : length n.controllers ≤ 2 = h 0 n (omega arith) in
    (agent_few t n here, few_agents t ns (λ k d lt. h (suc k) d (omega arith)))

few_both : (xs ys : List Who) → AllByRecursion IsFew xs → AllByRecursion IsFew ys → AllByRecursion IsFew (xs ++ ys)
few_both [] ys h k = k
few_both (x ∷ xs) ys h k = (h.0, few_both xs ys h.1 k)

opening_few : (x : Checked) → IsSetUp x.topology → AllByRecursion IsFew (opening_whos x)
opening_few x s =
    let long = named x.topology.controllers in
    let first : length (names_of x.topology.controllers) < 2 ^ 16 = omega (arith, s.controllers) in (
      first,
      few_both (map (λ (c : NodeId). Controlling (controls_of (opening_plan x.topology c))) x.topology.controllers) (map (λ (n : Node). Forwarding (agent_plan x.topology n)) x.topology.nodes)
          (few_controls x.topology x.topology.controllers s.controllers s.nodes) (few_agents x.topology x.topology.nodes s.few),
    )

all_few : (x : Checked) → IsSetUp x.topology → AllByRecursion IsFew (whos (opening x))
all_few x s = subst (AllByRecursion IsFew) (whos_are x) (opening_few x s)

pub fresh_halves : (ws : List Who) → AllByRecursion IsFew ws → AreAllHalves (map fresh_inner ws) (map fresh_outer ws)
fresh_halves [] h = tt
fresh_halves (w ∷ ws) h = (
  record {
    name = refl;
    others = refl;
    posts = as_long nothing (others_of w);
    kept = as_long [] (others_of w);
    even = record {
      links = as_long [] (others_of w);
      breaks = as_long [] (others_of w);
      notices = as_long false (others_of w);
      few = h.0;
    };
  },
  fresh_halves ws h.1,
)

pub fresh_joined : (ws : List Who) → joined (map fresh_inner ws) (map fresh_outer ws) ≡ map fresh_seat ws
fresh_joined [] = refl
fresh_joined (w ∷ ws) = ap (λ (seats : List Seat). fresh_seat w ∷ seats) (fresh_joined ws)

-- ---- what was made
-- ends that are all closed
inner_is : (who : Who) (n : ℕ) → length (others_of who) ≡ n
    → record { who = who; posts = nothings n; kept = nothing_kept n } ≡ fresh_inner who
inner_is who n many =
    let none = nothings_are n (others_of who) many in
    let kept = nothing_is_kept n (others_of who) many in
    λ i. record { who = who; posts = none i; kept = kept i }

inner_config : (x : Checked) → configured (configuration.fresh x) ≡ fresh_inner (Configuring x)
inner_config x = inner_is (Configuring x) (configuration.sessions x) (sessions_of_config x)

inner_controls : (t : Topology) (cs : List NodeId)
    → map controlled (map (λ (c : NodeId). control.fresh (opening_plan t c)) cs) ≡ map fresh_inner (map (λ (c : NodeId). Controlling (controls_of (opening_plan t c))) cs)
inner_controls t [] = refl
inner_controls t (c ∷ cs) =
    let plan = opening_plan t c in
    ap (λ (n : Inner). n ∷ map controlled (map (λ (c : NodeId). control.fresh (opening_plan t c)) cs)) (inner_is (Controlling (controls_of plan)) (control.sessions plan) (sessions_there plan))
    ∙ ap (λ (ns : List Inner). fresh_inner (Controlling (controls_of plan)) ∷ ns) (inner_controls t cs)

pub inner_agent : (t : Topology) (n : Node) → forwarded (agent.fresh (agent_plan t n)) ≡ fresh_inner (Forwarding (agent_plan t n))
inner_agent t n =
    let plan = agent_plan t n in
    inner_is (Forwarding plan) (agent.sessions plan) (sessions_of_agent plan)

inner_agents : (t : Topology) (ns : List Node)
    → map forwarded (map (λ (n : Node). agent.fresh (agent_plan t n)) ns) ≡ map fresh_inner (map (λ (n : Node). Forwarding (agent_plan t n)) ns)
inner_agents t [] = refl
inner_agents t (n ∷ ns) =
    let plan = agent_plan t n in
    ap (λ (m : Inner). m ∷ map forwarded (map (λ (n : Node). agent.fresh (agent_plan t n)) ns)) (inner_is (Forwarding plan) (agent.sessions plan) (sessions_of_agent plan))
    ∙ ap (λ (ms : List Inner). fresh_inner (Forwarding plan) ∷ ms) (inner_agents t ns)

map_both : {A B : Type 0} (f : A → B) (xs ys : List A) → map f xs ++ map f ys ≡ map f (xs ++ ys)
map_both f [] ys = refl
map_both {A} {B} f (x ∷ xs) ys = ap (λ (zs : List B). f x ∷ zs) (map_both f xs ys)

map_map : {A B C : Type 0} (f : B → C) (g : A → B) (xs : List A) → map (λ x. f (g x)) xs ≡ map f (map g xs)
map_map f g [] = refl
map_map {A} {B} {C} f g (x ∷ xs) = ap (λ (zs : List C). f (g x) ∷ zs) (map_map f g xs)

module _ (x : Checked) (t : Topology) (same : t ≡ x.topology) (config : configuration.Core) (controls : List control.Core) (agents : List agent.Core)
    (first : config ≡ configuration.fresh x)
    (second : controls ≡ map (λ (c : NodeId). control.fresh (opening_plan t c)) t.controllers)
    (third : agents ≡ map (λ (n : Node). agent.fresh (agent_plan t n)) t.nodes) where
  inners_opening : inners config controls agents ≡ map fresh_inner (opening_whos x)
  inners_opening =
      ap (λ (c : configuration.Core). configured c ∷ (map controlled controls ++ map forwarded agents)) first
      ∙ (ap (λ (n : Inner). n ∷ (map controlled controls ++ map forwarded agents)) (inner_config x)
      ∙ ap (λ (ns : List Inner). fresh_inner (Configuring x) ∷ ns)
      (ap (λ (cs : List control.Core). map controlled cs ++ map forwarded agents) (second ∙ ap (λ (u : Topology). map (λ (c : NodeId). control.fresh (opening_plan u c)) u.controllers) same)
      ∙ (ap (λ (as' : List agent.Core). map controlled (map (λ (c : NodeId). control.fresh (opening_plan x.topology c)) x.topology.controllers) ++ map forwarded as') (third ∙ ap (λ (u : Topology). map (λ (n : Node). agent.fresh (agent_plan u n)) u.nodes) same)
      ∙ (ap (λ (ns : List Inner). ns ++ map forwarded (map (λ (n : Node). agent.fresh (agent_plan x.topology n)) x.topology.nodes)) (inner_controls x.topology x.topology.controllers)
      ∙ (ap (λ (ns : List Inner). map fresh_inner (map (λ (c : NodeId). Controlling (controls_of (opening_plan x.topology c))) x.topology.controllers) ++ ns) (inner_agents x.topology x.topology.nodes)
      ∙ map_both fresh_inner (map (λ (c : NodeId). Controlling (controls_of (opening_plan x.topology c))) x.topology.controllers) (map (λ (n : Node). Forwarding (agent_plan x.topology n)) x.topology.nodes))))))

  pub inners_are : inners config controls agents ≡ map fresh_inner (whos (opening x))
  inners_are = inners_opening ∙ ap (λ (ws : List Who). map fresh_inner ws) (whos_are x)

pub outers_are : (x : Checked) (t : Topology) (e0 e1 e2 : List Outer) (edge : Outer) → t ≡ x.topology → edge ≡ fresh_outer (Configuring x)
    → e0 ≡ edge ∷ [] → e1 ≡ e0 ++ map (λ (c : NodeId). fresh_outer (Controlling (controls_of (opening_plan t c)))) t.controllers
    → e2 ≡ e1 ++ map (λ (n : Node). fresh_outer (Forwarding (agent_plan t n))) t.nodes
    → e2 ≡ map fresh_outer (whos (opening x))
outers_are x t e0 e1 e2 edge same is0 is1 is2 is3 =
    let later : (u : Topology) → List Outer = λ u. map (λ (c : NodeId). fresh_outer (Controlling (controls_of (opening_plan u c)))) u.controllers in
    let last : (u : Topology) → List Outer = λ u. map (λ (n : Node). fresh_outer (Forwarding (agent_plan u n))) u.nodes in
    (is3 ∙ (ap (λ (es : List Outer). es ++ last t) (is2 ∙ ap (λ (es : List Outer). es ++ later t) (is1 ∙ ap (λ (e : Outer). e ∷ []) is0))
    ∙ (ap (λ (u : Topology). fresh_outer (Configuring x) ∷ (later u ++ last u)) same
    ∙ ap (λ (es : List Outer). fresh_outer (Configuring x) ∷ es)
    (ap (λ (es : List Outer). es ++ last x.topology) (map_map fresh_outer (λ (c : NodeId). Controlling (controls_of (opening_plan x.topology c))) x.topology.controllers)
    ∙ (ap (λ (es : List Outer). map fresh_outer (map (λ (c : NodeId). Controlling (controls_of (opening_plan x.topology c))) x.topology.controllers) ++ es) (map_map fresh_outer (λ (n : Node). Forwarding (agent_plan x.topology n)) x.topology.nodes)
    ∙ map_both fresh_outer (map (λ (c : NodeId). Controlling (controls_of (opening_plan x.topology c))) x.topology.controllers) (map (λ (n : Node). Forwarding (agent_plan x.topology n)) x.topology.nodes))))))
    ∙ ap (λ (ws : List Who). map fresh_outer ws) (whos_are x)

pub made_halves : (x : Checked) (ns : List Inner) (os : List Outer) → IsSetUp x.topology → ns ≡ map fresh_inner (whos (opening x)) → os ≡ map fresh_outer (whos (opening x))
    → AreAllHalves ns os
made_halves x ns os s is os_are =
    subst (λ (ms : List Inner). AreAllHalves ms os) (sym is) (subst (λ (ps : List Outer). AreAllHalves (map fresh_inner (whos (opening x))) ps) (sym os_are) (fresh_halves (whos (opening x)) (all_few x s)))

pub made_seats : (x : Checked) (ns : List Inner) (os : List Outer) → ns ≡ map fresh_inner (whos (opening x)) → os ≡ map fresh_outer (whos (opening x))
    → joined ns os ≡ map fresh_seat (whos (opening x))
made_seats x ns os is os_are =
    ap (λ (ms : List Inner). joined ms os) is ∙ (ap (λ (ps : List Outer). joined (map fresh_inner (whos (opening x))) ps) os_are ∙ fresh_joined (whos (opening x)))

pub made_few : (x : Checked) (os : List Outer) → IsSetUp x.topology → os ≡ map fresh_outer (whos (opening x)) → length os < 2 ^ 16
made_few x os s is =
    let long : length os ≡ length (opening_whos x) =
    ap length is ∙ (mapped_long fresh_outer (whos (opening x)) ∙ ap length (sym (whos_are x))) in
    let both = length-append (map (λ (c : NodeId). Controlling (controls_of (opening_plan x.topology c))) x.topology.controllers) (map (λ (n : Node). Forwarding (agent_plan x.topology n)) x.topology.nodes) in
    let cs = mapped_long (λ (c : NodeId). Controlling (controls_of (opening_plan x.topology c))) x.topology.controllers in
    let ns = mapped_long (λ (n : Node). Forwarding (agent_plan x.topology n)) x.topology.nodes in
    omega (arith, long, both, cs, ns, s.controllers, s.nodes)
