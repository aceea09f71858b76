-- The plans of ends, one after another.
use Rattle.std.specs.Prelude.{◌≡◌, ℕ, zero, suc, ◌+◌, ◌<◌, ◌==◌, List, [], ◌∷◌, ◌++◌, map, take, drop, length, get_or}
use Rattle.std.specs.Prelude.{Bool, true, false, if◌then◌else◌}
use Rattle.std.specs.List.{AllByRecursion}
use Rattle.std.proofs.Common.{refl, sym, ◌∙◌, ap, subst, arith, set, append_assoc}
use Rattle.std.proofs.lemmas.List.{drop-set-lt, get_or-drop, map_more}
use Rattle.ov_sync.specs.declared.Delta.{Delta}
use Rattle.ov_sync.specs.Embed.{moved_delta}
use Rattle.ov_sync.proofs.KeyedLaws.{empty_values}
use Rattle.ov_types.specs.declared.keys.DownKey.{DownKey}
use Rattle.ov_types.specs.declared.keys.DownValue.{DownValue}
use Rattle.ov_types.specs.declared.vpn.VpnKey.{VpnKey}
use Rattle.ov_types.specs.declared.vpn.VpnRoute.{VpnRoute}
use Rattle.bgp_session.specs.Happenings.{SessionFields}
use Rattle.control_wants.specs.Held.{told_in}
use Rattle.node_core.specs.declared.ends.Plan.{Plan}
use Rattle.node_core.specs.Told.{AllFit, Fits, down_of, down_value}
use Rattle.node_core.specs.Told as items
use Rattle.node_core.specs.NodeModel.Keys.{Vpn, key_cmp, of_down}
use Rattle.node_core.specs.NodeModel.Maps.{Map, Change, difference}
use Rattle.node_core.specs.NodeModel.Paths.{Holdings, Told}
use Rattle.node_core.specs.NodeModel.Values.{Route}
use Rattle.node_core.specs.NodeModel.Wants.{wanted_by_peers}
use Rattle.node_routes.specs.Told as routes
use Rattle.vpn_tables.specs.Views.{peer_of}
use Rattle.control_node.specs.Planning.{AreAgentsTold, ArePeersTold, IsAgentTold, IsPeerTold, agent_plan, agent_plans, agent_sends}
use Rattle.control_node.specs.Planning.{peer_plan, peer_sends, plan_of, wanted_on}
use Rattle.control_node.specs.declared.ends.AgentEnd.{AgentEnd}
use Rattle.control_node.specs.declared.ends.PeerEnd.{PeerEnd}

-- ---- what an agent told fits
pub told_fits : (agents : List Told) (session : ℕ) → AllByRecursion (λ (a : Told). AllFit a.map) agents
    → AllFit (told_in agents session).map
told_fits [] session f = empty_values key_cmp Fits
told_fits (a ∷ agents) session f =
    elim (a.session == session) as (λ b. AllFit (if b then a else told_in agents session).map) [
      | true ↦ f.0
      | false ↦ told_fits agents session f.1
    ]

-- ---- one end
pub map_twice : {X Y Z : Type 0} (f : X → Y) (g : Y → Z) (xs : List X) → map (λ x. g (f x)) xs ≡ map g (map f xs)
map_twice f g [] = refl
map_twice f g (x ∷ xs) = ap (λ zs. g (f x) ∷ zs) (map_twice f g xs)

sends : (spelled : Change → List ℕ) (sent wanted : Map) (b : Bool) (messages : List (List ℕ)) → b ≡ true
    → messages ≡ map spelled (difference sent wanted)
    → record { messages = messages } ≡ plan_of b spelled sent wanted
sends spelled sent wanted b messages e m =
    ap (λ (ms : List (List ℕ)). record { messages = ms }) m
    ∙ ap (λ c. plan_of c spelled sent wanted) (sym e)

pub agent_plan_is : (h : Holdings) (session : ℕ) (e : AgentEnd) (ds : List (Delta DownKey DownValue))
    (messages : List (List ℕ)) → true ≡ agent_sends e
    → map (moved_delta of_down down_value) ds ≡ difference (down_of e.sent) (wanted_on h session)
    → messages ≡ map (λ d. items.spelled (moved_delta of_down down_value d)) ds
    → record { messages = messages } ≡ agent_plan h session e
agent_plan_is h session e ds messages b d m =
    sends items.spelled (down_of e.sent) (wanted_on h session) (agent_sends e) messages (sym b)
    (m ∙ map_twice (moved_delta of_down down_value) items.spelled ds ∙ ap (map items.spelled) d)

pub peer_plan_is : (h : Holdings) (e : PeerEnd) (ds : List (Delta VpnKey VpnRoute)) (messages : List (List ℕ))
    → true ≡ peer_sends e → map (moved_delta Vpn Route) ds ≡ difference (peer_of e.sent) (wanted_by_peers h)
    → messages ≡ map (λ d. routes.spelled (moved_delta Vpn Route d)) ds
    → record { messages = messages } ≡ peer_plan h e
peer_plan_is h e ds messages b d m =
    sends routes.spelled (peer_of e.sent) (wanted_by_peers h) (peer_sends e) messages (sym b)
    (m ∙ map_twice (moved_delta Vpn Route) routes.spelled ds ∙ ap (map routes.spelled) d)

-- ---- the ends that are left, as one is served
one_less : {X : Type 0} (es : List X) (i : ℕ) → drop (suc i) es ≡ drop 1 (drop i es)
one_less [] zero = refl
one_less [] (suc i) = refl
one_less (e ∷ es) zero = refl
one_less (e ∷ es) (suc i) = one_less es i

pub rest_more : {X : Type 0} (old cur : List X) (i : ℕ) (e' : X) → drop i cur ≡ drop i old
    → drop (suc i) (set cur i e') ≡ drop (suc i) old
rest_more old cur i e' rest =
    drop-set-lt (suc i) cur i e' (omega arith) ∙ one_less cur i ∙ ap (drop 1) rest ∙ sym (one_less old i)

same_at : {X : Type 0} (es : List X) (i : ℕ) (d : X) → get_or es i d ≡ get_or (drop i es) 0 d
same_at es i d = ap (λ j. get_or es j d) (let z : i ≡ i + 0 = omega arith in z) ∙ sym (get_or-drop i es 0 d)

pub end_at : {X : Type 0} (old cur : List X) (i : ℕ) (e : X) → drop i cur ≡ drop i old
    → e ≡ get_or cur i e → e ≡ get_or old i e
end_at old cur i e rest is =
    is ∙ same_at cur i e ∙ ap (λ l. get_or l 0 e) rest ∙ sym (same_at old i e)

-- ---- peers
abbrev pub sessions_of : List PeerEnd → List SessionFields
sessions_of es = map (λ (e : PeerEnd). e.session) es

pub peers_told_more : (h : Holdings) (old cur : List PeerEnd) (i : ℕ) (e e' : PeerEnd) → i < length old
    → length cur ≡ length old → drop i cur ≡ drop i old → e ≡ get_or cur i e
    → ArePeersTold h (take i old) (take i cur) → IsPeerTold h e e'
    → ArePeersTold h (take (suc i) old) (take (suc i) (set cur i e'))
peers_told_more h [] cur i e e' lt long rest is told now = absurd (omega (arith, lt))
peers_told_more h (x ∷ old) [] i e e' lt long rest is told now = absurd (omega (arith, long))
peers_told_more h (x ∷ old) (y ∷ cur) zero e e' lt long rest is told now =
    let here : y ≡ x = cc in (subst (λ (z : PeerEnd). IsPeerTold h z e') (is ∙ here) now, tt)
peers_told_more h (x ∷ old) (y ∷ cur) (suc i) e e' lt long rest is told now =
    (told.0, peers_told_more h old cur i e e' (omega (arith, lt)) (omega (arith, long)) rest is told.1 now)

-- one more plan
pub peers_plans_more : (h : Holdings) (old cur : List PeerEnd) (i : ℕ) (e : PeerEnd)
    (before plans after : List Plan) (plan : Plan) → i < length old → drop i cur ≡ drop i old → e ≡ get_or cur i e
    → plans ≡ before ++ map (peer_plan h) (take i old) → plan ≡ peer_plan h e → after ≡ plans ++ plan ∷ []
    → after ≡ before ++ map (peer_plan h) (take (i + 1) old)
peers_plans_more h old cur i e before plans after plan lt rest is p q a =
    let x : e ≡ get_or old i e = end_at old cur i e rest is in
    a ∙ (λ j. p j ++ (q ∙ ap (peer_plan h) x) j ∷ [])
    ∙ append_assoc before (map (peer_plan h) (take i old)) (peer_plan h (get_or old i e) ∷ [])
    ∙ ap (λ l. before ++ l) (sym (map_more (peer_plan h) old i e lt))

-- ---- agents
pub agents_told_more : (h : Holdings) (n : ℕ) (old cur : List AgentEnd) (i : ℕ) (e e' : AgentEnd) → i < length old
    → length cur ≡ length old → drop i cur ≡ drop i old → e ≡ get_or cur i e
    → AreAgentsTold h n (take i old) (take i cur) → IsAgentTold h (n + i) e e'
    → AreAgentsTold h n (take (suc i) old) (take (suc i) (set cur i e'))
agents_told_more h n [] cur i e e' lt long rest is told now = absurd (omega (arith, lt))
agents_told_more h n (x ∷ old) [] i e e' lt long rest is told now = absurd (omega (arith, long))
agents_told_more h n (x ∷ old) (y ∷ cur) zero e e' lt long rest is told now =
    let here : y ≡ x = cc in (
      subst (λ m. IsAgentTold h m x e') (let z : n + 0 ≡ n = omega arith in z)
          (subst (λ (z : AgentEnd). IsAgentTold h (n + 0) z e') (is ∙ here) now),
      tt,
    )
agents_told_more h n (x ∷ old) (y ∷ cur) (suc i) e e' lt long rest is told now = (
  told.0,
  agents_told_more h (suc n) old cur i e e' (omega (arith, lt)) (omega (arith, long)) rest is told.1
      (subst (λ m. IsAgentTold h m e e') (let z : n + suc i ≡ suc n + i = omega arith in z) now),
)

agents_plans_take : (h : Holdings) (n : ℕ) (old : List AgentEnd) (i : ℕ) (d : AgentEnd) → i < length old
    → agent_plans h n (take (suc i) old) ≡ agent_plans h n (take i old) ++ agent_plan h (n + i) (get_or old i d) ∷ []
agents_plans_take h n [] i d lt = absurd (omega (arith, lt))
agents_plans_take h n (x ∷ old) zero d lt = ap (λ m. agent_plan h m x ∷ []) (let z : n ≡ n + 0 = omega arith in z)
agents_plans_take h n (x ∷ old) (suc i) d lt =
    ap (λ l. agent_plan h n x ∷ l) (agents_plans_take h (suc n) old i d (omega (arith, lt))
    ∙ ap (λ m. agent_plans h (suc n) (take i old) ++ agent_plan h m (get_or old i d) ∷ [])
    (let z : suc n + i ≡ n + suc i = omega arith in z))

pub agents_plans_more : (h : Holdings) (n : ℕ) (old cur : List AgentEnd) (i : ℕ) (e : AgentEnd)
    (before plans after : List Plan) (plan : Plan) → i < length old → drop i cur ≡ drop i old → e ≡ get_or cur i e
    → plans ≡ before ++ agent_plans h n (take i old) → plan ≡ agent_plan h (n + i) e → after ≡ plans ++ plan ∷ []
    → after ≡ before ++ agent_plans h n (take (suc i) old)
agents_plans_more h n old cur i e before plans after plan lt rest is p q a =
    let x : e ≡ get_or old i e = end_at old cur i e rest is in
    a ∙ (λ j. p j ++ (q ∙ ap (agent_plan h (n + i)) x) j ∷ [])
    ∙ append_assoc before (agent_plans h n (take i old)) (agent_plan h (n + i) (get_or old i e) ∷ [])
    ∙ ap (λ l. before ++ l) (sym (agents_plans_take h n old i e lt))
