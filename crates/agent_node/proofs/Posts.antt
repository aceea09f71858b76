-- The ends as they are seen, from those that are kept.
use Rattle.std.specs.Prelude.{◌≡◌, ◌<◌, ◌≤◌, ℕ, zero, suc, List, [], ◌∷◌, map, length}
use Rattle.std.specs.Prelude.{Bool, true, false, not, if◌then◌else◌}
use Rattle.std.specs.FinMap.{entries, from_entries}
use Rattle.std.specs.List.{All, AllByRecursion, filter, filter_map, flat_map, slice_index_or}
use Rattle.std.proofs.Common.{refl, sym, ◌∙◌, ap, subst, set, arith}
use Rattle.std.proofs.lemmas.List.Elements.{All-from_recursion, All-set, All-map, recursion_from_All}
use Rattle.std.proofs.Math.Seq.{map-set_same}
use Rattle.std.proofs.lemmas.List.{length-map, length-set}
use Rattle.ov_sync.proofs.Ascending.{entries-empty}
use Rattle.ov_sync.proofs.KeyedLaws.{empty_values}
use Rattle.ov_types.specs.Keys.{row_key_cmp}
use Rattle.ov_types.specs.declared.objects.LowKey.{LowKey}
use Rattle.ov_types.specs.declared.objects.LowValue.{LowValue}
use Rattle.ov_types.specs.declared.rows.Entry.{Entry as RouteEntry}
use Rattle.item_wire.specs.declared.event.ItemState.{ItemState}
use Rattle.item_wire.specs.declared.event.ItemState.TheVariants.{Idle, Opened, Up}
use Rattle.item_wire.specs.declared.input.Came.TheVariants.{Closed}
use Rattle.item_wire.specs.Happenings.{SessionFields, after, idle_session}
use Rattle.item_wire.specs.declared.event.ItemFrom.{ItemFrom}
use Rattle.item_wire.specs.declared.event.ItemFrom.TheVariants.{Control}
use Rattle.ov_types.specs.declared.rows.AgentRows.{AgentRows}
use Rattle.ov_types.specs.declared.rows.NodeId.{NodeId}
use Rattle.node_core.specs.Plans.{ArePlans}
use Rattle.node_core.specs.declared.ends.Plan.{Plan}
use Rattle.node_core.specs.Beginning.{phase_of}
use Rattle.node_core.specs.Told.{AllFit, Fits, down_of, up_of}
use Rattle.node_core.specs.NodeModel.Agent.{Heard, acl_entry, attached, is_needed, routes as routes_of, row_entry}
use Rattle.node_core.specs.NodeModel.Agent.{rows as rows_of, slice_in_use, wanted as wanted_of}
use Rattle.node_core.specs.NodeModel.Keys.{Key, key_cmp}
use Rattle.node_core.specs.NodeModel.Maps.{Map}
use Rattle.node_core.specs.NodeModel.Values.{Value}
use Rattle.node_core.proofs.States.{closes}
use Rattle.node_core.specs.NodeModel.Step.{Phase, Post, nothing, post}
use Rattle.agent_tables.specs.Views.{heard_of, is_up as is_heard_up}
use Rattle.agent_tables.specs.declared.hearing.Hearing.{Hearing}
use Rattle.agent_tables.proofs.Routes.{Routed}
use Rattle.agent_node.specs.Core.{heard_at, holdings, is_idle, is_up, kind, nothings}
use Rattle.agent_node.specs.Ends.{AreEnds, HeldFits, Sent, SentFits, controller, end_at, posts_of, whom}
use Rattle.agent_node.specs.Planning.{ArePlanned, messages_of, sent_at, told_of}
use Rattle.agent_node.specs.declared.plan.AgentPlan.{AgentPlan}
use Rattle.agent_node.proofs.Images.{down-empty, up-empty}

-- ---- each end
pub posts_long : (hs : List Hearing) (ss : List Sent) → length (posts_of hs ss) ≡ length hs
posts_long [] ss = refl
posts_long (h ∷ hs) [] = ap suc (posts_long hs [])
posts_long (h ∷ hs) (s ∷ ss) = ap suc (posts_long hs ss)

pub post_at : (hs : List Hearing) (ss : List Sent) (i : ℕ) (d : Hearing) → i < length hs
    → post (posts_of hs ss) i ≡ end_at (slice_index_or hs i d) (sent_at ss i)
post_at [] ss i d lt = absurd (omega arith)
post_at (h ∷ hs) [] zero d lt = refl
post_at (h ∷ hs) (s ∷ ss) zero d lt = refl
post_at (h ∷ hs) [] (suc i) d lt = post_at hs [] i d (omega arith)
post_at (h ∷ hs) (s ∷ ss) (suc i) d lt = post_at hs ss i d (omega arith)

pub posts_set : (hs : List Hearing) (ss : List Sent) (i : ℕ) (h : Hearing) (s : Sent) → i < length ss
    → posts_of (set hs i h) (set ss i s) ≡ set (posts_of hs ss) i (end_at h s)
posts_set [] ss i h s lt = refl
posts_set (g ∷ hs) [] i h s lt = absurd (omega arith)
posts_set (g ∷ hs) (r ∷ ss) zero h s lt = refl
posts_set (g ∷ hs) (r ∷ ss) (suc i) h s lt =
    ap (λ (ps : List Post). end_at g r ∷ ps) (posts_set hs ss i h s (omega arith))

pub posts_hear : (hs : List Hearing) (ss : List Sent) (i : ℕ) (h : Hearing)
    → posts_of (set hs i h) ss ≡ set (posts_of hs ss) i (end_at h (sent_at ss i))
posts_hear [] ss i h = refl
posts_hear (g ∷ hs) [] zero h = refl
posts_hear (g ∷ hs) (r ∷ ss) zero h = refl
posts_hear (g ∷ hs) [] (suc i) h = ap (λ (ps : List Post). end_at g [] ∷ ps) (posts_hear hs [] i h)
posts_hear (g ∷ hs) (r ∷ ss) (suc i) h = ap (λ (ps : List Post). end_at g r ∷ ps) (posts_hear hs ss i h)

-- ---- what is held
up_as : (state : ItemState) → is_up (phase_of state) ≡ is_heard_up state
up_as Idle = refl
up_as Opened = refl
up_as Up = refl

heard_as : (h : Hearing) (s : Sent) → heard_at (end_at h s) ≡ heard_of h
heard_as h s = ap (λ b. record { is_up = b; map = down_of h.held }) (up_as h.session.state)

pub holdings_as : (hs : List Hearing) (ss : List Sent) → holdings (posts_of hs ss) ≡ map heard_of hs
holdings_as [] ss = refl
holdings_as (h ∷ hs) [] = λ i. heard_as h [] i ∷ holdings_as hs [] i
holdings_as (h ∷ hs) (s ∷ ss) = λ i. heard_as h s i ∷ holdings_as hs ss i

pub held_fits : (hs : List Hearing) → All HeldFits hs → AllByRecursion (λ (s : Heard). AllFit s.map) (map heard_of hs)
held_fits hs all =
    recursion_from_All (λ (s : Heard). AllFit s.map) (map heard_of hs)
    (All-map (λ (s : Heard). AllFit s.map) heard_of hs all)

-- ---- an end that is closed
pub nothing_held : (h : Hearing) → h.held ≡ [] → HeldFits h
nothing_held h e = subst AllFit (sym (ap down_of e ∙ down-empty)) (empty_values key_cmp Fits)

pub nothing_sent : (s : Sent) → s ≡ [] → SentFits s
nothing_sent s e = subst AllFit (sym (ap up_of e ∙ up-empty)) (empty_values key_cmp Fits)

pub nothing_at : (h : Hearing) (s : Sent) → h.session.state ≡ Idle → h.held ≡ [] → s ≡ [] → end_at h s ≡ nothing
nothing_at h s idle held sent =
    λ i. record {
      phase = phase_of (idle i);
      sent = (ap up_of sent ∙ up-empty) i;
      held = (ap down_of held ∙ down-empty) i;
      wide = false;
    }

pub shut_at : (h : Hearing) (s : Sent) (before : SessionFields) → h.session ≡ after before Closed → h.held ≡ []
    → s ≡ [] → end_at h s ≡ nothing
shut_at h s before e held sent =
    nothing_at h s (ap (λ (w : SessionFields). w.state) e ∙ closes before.state) held sent

-- ---- the invariant after one end changed
pub ends_set : (plan : AgentPlan) (hs : List Hearing) (ss : List Sent) (i : ℕ) (h d : Hearing) (s : Sent)
    → AreEnds plan hs ss → whom h ≡ whom (slice_index_or hs i d) → HeldFits h → SentFits s
    → AreEnds plan (set hs i h) (set ss i s)
ends_set plan hs ss i h d s e same held sent = record {
  few = e.few;
  whose = map-set_same whom hs i h d same ∙ e.whose;
  many = length-set ss i s ∙ e.many;
  held = All-set HeldFits hs i h held e.held;
  sent = All-set SentFits ss i s sent e.sent;
}

pub ends_hear : (plan : AgentPlan) (hs : List Hearing) (ss : List Sent) (i : ℕ) (h d : Hearing)
    → AreEnds plan hs ss → whom h ≡ whom (slice_index_or hs i d) → HeldFits h → AreEnds plan (set hs i h) ss
ends_hear plan hs ss i h d e same held = record {
  few = e.few;
  whose = map-set_same whom hs i h d same ∙ e.whose;
  many = e.many;
  held = All-set HeldFits hs i h held e.held;
  sent = e.sent;
}

pub ends_long : (plan : AgentPlan) (hs : List Hearing) (ss : List Sent) → AreEnds plan hs ss
    → length hs ≡ length plan.controllers
ends_long plan hs ss e = sym (length-map hs whom) ∙ ap length e.whose ∙ length-map plan.controllers controller

-- ---- the plans of a pass
told_post : Map → Post → Post
told_post wants p = if not (is_idle p.phase) then record p { sent = wants } else p

told_end : (b : Bool) (phase : Phase) (sent sent' held wants : Map) → sent' ≡ (if b then wants else sent)
    → let p : Post = record { phase = phase; sent = sent'; held = held; wide = false } in
    let all : Post = record { phase = phase; sent = wants; held = held; wide = false } in
    let same : Post = record { phase = phase; sent = sent; held = held; wide = false } in
    p ≡ (if b then all else same)
told_end true phase sent sent' held wants e = λ i. record { phase = phase; sent = e i; held = held; wide = false }
told_end false phase sent sent' held wants e = λ i. record { phase = phase; sent = e i; held = held; wide = false }

told_here : (h : Hearing) (s s' : Sent) (wants : Map)
    → up_of s' ≡ told_of (phase_of h.session.state) (up_of s) wants → end_at h s' ≡ told_post wants (end_at h s)
unfolding told_post
told_here h s s' wants e =
    told_end (not (is_idle (phase_of h.session.state))) (phase_of h.session.state) (up_of s) (up_of s') (down_of h.held)
    wants e

abbrev no_hearing : Hearing
no_hearing = record { session = idle_session [] Control; held = [] }

module _ (hs : List Hearing) (ss ss' : List Sent) (wants : Map) (plans : List Plan) where
  pub are_plans : wants ≡ wanted_of (map heard_of hs) → ArePlanned hs ss ss' wants plans (length hs)
      → ArePlans kind (posts_of hs ss) (posts_of hs ss') plans
  unfolding told_post
  are_plans is p =
      let wanted_is : wants ≡ wanted_of (holdings (posts_of hs ss)) = is ∙ ap wanted_of (sym (holdings_as hs ss)) in
      let within : (i : ℕ) → i < length (posts_of hs ss) → i < length hs =
      λ i lt. subst (λ n. i < n) (posts_long hs ss) lt in
      let here : (i : ℕ) → i < length hs
      → end_at (slice_index_or hs i no_hearing) (sent_at ss i) ≡ post (posts_of hs ss) i =
      λ i lt. sym (post_at hs ss i no_hearing lt) in
      record {
        many = p.many ∙ sym (posts_long hs ss);
        messages = λ i o lt. p.messages i o no_hearing (within i lt)
            ∙ (λ j. messages_of (here i (within i lt) j).phase (here i (within i lt) j).sent (wanted_is j));
        ends = λ i lt. post_at hs ss' i no_hearing (within i lt)
            ∙ told_here (slice_index_or hs i no_hearing) (sent_at ss i) (sent_at ss' i) wants
            (p.told i no_hearing (within i lt))
            ∙ (λ j. told_post (wanted_is j) (here i (within i lt) j));
      }

-- ---- ends that are all closed
-- the session with a control node, from the start
abbrev pub fresh_hearing : NodeId → Hearing
fresh_hearing n = record { session = idle_session n.name Control; held = [] }

abbrev pub fresh_sent : NodeId → Sent
fresh_sent n = []

fresh_whose : (ns : List NodeId) → map whom (map fresh_hearing ns) ≡ map controller ns
fresh_whose [] = refl
fresh_whose (n ∷ ns) = ap (λ (ws : List (List ℕ × ItemFrom)). controller n ∷ ws) (fresh_whose ns)

fresh_held : (ns : List NodeId) → AllByRecursion HeldFits (map fresh_hearing ns)
fresh_held [] = tt
fresh_held (n ∷ ns) = (nothing_held (fresh_hearing n) refl, fresh_held ns)

no_sent : (ns : List NodeId) → AllByRecursion SentFits (map fresh_sent ns)
no_sent [] = tt
no_sent (n ∷ ns) = (nothing_sent [] refl, no_sent ns)

pub fresh_posts : (ns : List NodeId) → posts_of (map fresh_hearing ns) (map fresh_sent ns) ≡ nothings (length ns)
fresh_posts [] = refl
fresh_posts (n ∷ ns) =
    let here : end_at (fresh_hearing n) [] ≡ nothing = nothing_at (fresh_hearing n) [] refl refl refl in
    λ i. here i ∷ fresh_posts ns i

pub fresh_ends : (plan : AgentPlan) → length plan.controllers ≤ 2
    → AreEnds plan (map fresh_hearing plan.controllers) (map fresh_sent plan.controllers)
fresh_ends plan few = record {
  few = few;
  whose = fresh_whose plan.controllers;
  many = length-map plan.controllers fresh_sent;
  held = All-from_recursion HeldFits (map fresh_hearing plan.controllers) (fresh_held plan.controllers);
  sent = All-from_recursion SentFits (map fresh_sent plan.controllers) (no_sent plan.controllers);
}

-- ---- an agent whose ends are all closed forwards nothing
no_slice : (n : ℕ) → slice_in_use (holdings (nothings n)) ≡ []
no_slice zero = refl
no_slice (suc n) = no_slice n

none_up : (n : ℕ) → filter (λ (s : Heard). s.is_up) (holdings (nothings n)) ≡ []
none_up zero = refl
none_up (suc n) = none_up n

abbrev rows_from : List Heard → List Routed
rows_from hs = flat_map (λ (s : Heard). filter_map (λ (e : Key × Value). row_entry e.0 e.1) (entries s.map)) hs

abbrev no_rows : AgentRows
no_rows = record { labels = []; acls = []; routes = [] }

pub nothing_shown : (n : ℕ) → no_rows ≡ rows_of (holdings (nothings n))
nothing_shown n =
    let slice = sym (no_slice n) in
    let routes : [] ≡ routes_of (holdings (nothings n)) =
    ap (filter (λ (r : Routed). is_needed (holdings (nothings n)) r.0.0))
    (sym (entries-empty {V = RouteEntry} row_key_cmp)
    ∙ ap (λ (hs : List Heard). entries (from_entries {R = row_key_cmp} (rows_from hs))) (sym (none_up n))) in
    λ i. record {
      labels = filter_map (λ (e : LowKey × LowValue). attached e.0 e.1) (slice i);
      acls = filter_map (λ (e : LowKey × LowValue). acl_entry e.0 e.1) (slice i);
      routes = routes i;
    }
