-- The ends as they are seen, from those that are kept.
use Rattle.std.specs.Prelude.{◌≡◌, ◌<◌, ◌≤◌, ◌||◌, ℕ, zero, suc, Bool, List, [], ◌∷◌, cond, map, length, true, false, not}
use Rattle.std.specs.Prelude.{if◌then◌else◌}
use Rattle.std.specs.declared.option.Option.{Option}
use Rattle.std.specs.declared.option.Option.TheVariants.{Some, None}
use Rattle.std.specs.FinMap.{get}
use Rattle.std.specs.List.{AllByRecursion, slice_index_or}
use Rattle.std.specs.Option.{option_map}
use Rattle.std.specs.Ordering.{eq_by_cmp}
use Rattle.std.proofs.Common.{refl, sym, ◌∙◌, ap, subst, set, arith}
use Rattle.std.proofs.Math.Seq.{map-set_same}
use Rattle.std.proofs.lemmas.Bool.{true≢false}
use Rattle.std.proofs.lemmas.List.{get_or-map, length-map}
use Rattle.ov_sync.specs.Embed.{embedded}
use Rattle.ov_sync.specs.Keyed.{map_of, set_key}
use Rattle.ov_sync.proofs.KeyedLaws.{difference-itself, empty_values}
use Rattle.ov_types.specs.declared.objects.LowKey.{LowKey}
use Rattle.ov_types.specs.declared.objects.LowValue.{LowValue}
use Rattle.ov_types.specs.declared.rows.NodeId.{NodeId}
use Rattle.item_wire.specs.Happenings.{SessionFields, after}
use Rattle.item_wire.specs.declared.event.ItemState.TheVariants.{Idle}
use Rattle.item_wire.specs.declared.event.ItemFrom.{ItemFrom}
use Rattle.item_wire.specs.declared.input.Came.TheVariants.{Closed}
use Rattle.config_check.specs.Checked.{Checked}
use Rattle.node_core.specs.Plans.{ArePlans}
use Rattle.node_core.specs.declared.ends.Plan.{Plan}
use Rattle.node_core.specs.Beginning.{phase_of}
use Rattle.node_core.specs.Told.{AllFit, Fits, spelled}
use Rattle.node_core.specs.NodeModel.Keys.{Low, key_cmp}
use Rattle.node_core.specs.NodeModel.Maps.{Change, Map, difference}
use Rattle.node_core.proofs.States.{closes}
use Rattle.node_core.proofs.Lists.{all-at, all-set}
use Rattle.node_core.specs.NodeModel.Step.{Post, changes, nothing, post, told_all}
use Rattle.node_core.specs.NodeModel.Values.{Object, same_value}
use Rattle.node_core.proofs.NodeModel.Alike.{same_value_decides}
use Rattle.config_node.specs.MachineModel.Setup.{low_in}
use Rattle.config_node.specs.Beginning.{no_node}
use Rattle.config_node.specs.Core.{is_idle, kind, nothings}
use Rattle.config_node.specs.Ends.{AreEnds, HasSent, Objects, controller, doubted, end_at, low_of, low_order, new_end, posts_of}
use Rattle.config_node.specs.Ends.{whom, whom_at}
use Rattle.config_node.specs.Planning.{AreEndsTold, IsEndTold, plan_of, sends}
use Rattle.config_node.specs.declared.ends.FeedEnd.{FeedEnd}
use Rattle.config_node.proofs.Images.{got_set, low-empty, low-set}
use Rattle.config_node.proofs.Turning.{as_many, same_low, told_at}

-- ---- each end
pub posts_long : (es : List FeedEnd) → length (posts_of es) ≡ length es
posts_long es = length-map es end_at

pub post_at : (es : List FeedEnd) (i : ℕ) (d : FeedEnd) → i < length es
    → post (posts_of es) i ≡ end_at (slice_index_or es i d)
post_at es i d lt = get_or-map end_at es i d nothing lt

pub posts_set : (es : List FeedEnd) (i : ℕ) (e : FeedEnd) → posts_of (set es i e) ≡ set (posts_of es) i (end_at e)
posts_set [] i e = refl
posts_set (x ∷ es) zero e = refl
posts_set (x ∷ es) (suc i) e = ap (λ (ps : List Post). end_at x ∷ ps) (posts_set es i e)

-- ---- an end that does not count as told
pub not_told : (wants : Objects) (changed : Option LowKey) (e : FeedEnd) → AllFit (low_of e.sent) → e.told ≡ false
    → HasSent wants changed e
not_told wants changed e fits off = (fits, λ on. absurd (true≢false (sym on ∙ off)))

-- ---- an end that is closed
pub nothing_sent : (wants : Objects) (changed : Option LowKey) (e : FeedEnd) → e.sent ≡ [] → e.told ≡ false
    → HasSent wants changed e
nothing_sent wants changed e is =
    not_told wants changed e (subst AllFit (sym (ap low_of is ∙ low-empty)) (empty_values key_cmp Fits))

nothing_at : (e : FeedEnd) → e.session.state ≡ Idle → e.sent ≡ [] → end_at e ≡ nothing
nothing_at e idle sent = λ i. record nothing { phase = phase_of (idle i); sent = (ap low_of sent ∙ low-empty) i }

pub shut_at : (e : FeedEnd) (before : SessionFields) → e.session ≡ after before Closed → e.sent ≡ []
    → end_at e ≡ nothing
shut_at e before is sent = nothing_at e (ap (λ (s : SessionFields). s.state) is ∙ closes before.state) sent

-- ---- what always holds, after one end changed
pub ends_set : (x : Checked) (wants : Objects) (changed : Option LowKey) (es : List FeedEnd) (i : ℕ) (e d : FeedEnd)
    → AreEnds x wants changed es → whom_at e ≡ whom_at (slice_index_or es i d) → HasSent wants changed e
    → AreEnds x wants changed (set es i e)
ends_set x wants changed es i e d are same sent = record {
  some = are.some;
  few = are.few;
  wanted = are.wanted;
  fits = are.fits;
  whose = map-set_same whom_at es i e d same ∙ are.whose;
  sent = all-set (HasSent wants changed) es i e are.sent sent;
}

-- the same sessions
same_whom : (es es' : List FeedEnd) → map (λ (e : FeedEnd). e.session) es' ≡ map (λ (e : FeedEnd). e.session) es
    → map whom_at es' ≡ map whom_at es
same_whom es es' same =
    sym (map_twice es') ∙ ap (map whom) same ∙ map_twice es
  where
    map_twice : (es : List FeedEnd) → map whom (map (λ (e : FeedEnd). e.session) es) ≡ map whom_at es
    map_twice [] = refl
    map_twice (e ∷ es) = ap (λ (ws : List (List ℕ × ItemFrom)). whom_at e ∷ ws) (map_twice es)

pub ends_told : (x : Checked) (wants : Objects) (changed changed' : Option LowKey) (es es' : List FeedEnd)
    → AreEnds x wants changed es → map (λ (e : FeedEnd). e.session) es' ≡ map (λ (e : FeedEnd). e.session) es
    → AllByRecursion (HasSent wants changed') es' → AreEnds x wants changed' es'
ends_told x wants changed changed' es es' are same sent = record {
  some = are.some;
  few = are.few;
  whose = same_whom es es' same ∙ are.whose;
  wanted = are.wanted;
  fits = are.fits;
  sent = sent;
}

pub ends_long : (x : Checked) (wants : Objects) (changed : Option LowKey) (es : List FeedEnd) → AreEnds x wants changed es
    → length es ≡ length x.topology.controllers
ends_long x wants changed es are =
    sym (length-map es whom_at) ∙ ap length are.whose ∙ length-map x.topology.controllers controller

-- what was sent on a session
pub sent_there : (x : Checked) (wants : Objects) (changed : Option LowKey) (es : List FeedEnd) → AreEnds x wants changed es
    → (i : ℕ) (e : FeedEnd) → i < length es → e ≡ slice_index_or es i e → HasSent wants changed e
sent_there x wants changed es are i e lt is =
    subst (HasSent wants changed) (sym is) (all-at (HasSent wants changed) es i e are.sent lt)

-- ---- the same ends, where something else is wanted
doubted_whose : (es : List FeedEnd) → map whom_at (map doubted es) ≡ map whom_at es
doubted_whose [] = refl
doubted_whose (e ∷ es) = ap (λ (ws : List (List ℕ × ItemFrom)). whom_at e ∷ ws) (doubted_whose es)

doubted_sent : (wants wants' : Objects) (changed : Option LowKey) (es : List FeedEnd)
    → AllByRecursion (HasSent wants changed) es → AllByRecursion (HasSent wants' None) (map doubted es)
doubted_sent wants wants' changed [] all = tt
doubted_sent wants wants' changed (e ∷ es) all =
    (not_told wants' None (doubted e) all.0.0 refl, doubted_sent wants wants' changed es all.1)

pub doubted_posts : (es : List FeedEnd) → posts_of (map doubted es) ≡ posts_of es
doubted_posts [] = refl
doubted_posts (e ∷ es) = ap (λ (ps : List Post). end_at e ∷ ps) (doubted_posts es)

pub ends_doubted : (x y : Checked) (wants wants' : Objects) (changed : Option LowKey) (es : List FeedEnd)
    → AreEnds x wants changed es → y.topology.controllers ≡ x.topology.controllers → low_of wants' ≡ low_in y
    → AllFit (low_in y) → AreEnds y wants' None (map doubted es)
ends_doubted x y wants wants' changed es are same is fits = record {
  some = subst (λ (cs : List NodeId). 1 ≤ length cs) (sym same) are.some;
  few = subst (λ (cs : List NodeId). length cs ≤ 8) (sym same) are.few;
  whose = doubted_whose es ∙ are.whose ∙ ap (map controller) (sym same);
  wanted = is;
  fits = fits;
  sent = doubted_sent wants wants' changed es are.sent;
}

-- ---- the same ends, where one key changed of what is wanted
not_first : (b : Bool) → (b || false) ≡ false → b ≡ false
not_first true h = h
not_first false h = refl

changed_sent : (wants wants' : Objects) (k : LowKey) (w : Option LowValue) (es : List FeedEnd)
    → map_of low_order wants' ≡ set_key (map_of low_order wants) k w → AllByRecursion (HasSent wants None) es
    → AllByRecursion (HasSent wants' (Some k)) es
changed_sent wants wants' k w [] is all = tt
changed_sent wants wants' k w (e ∷ es) is all = (
  (
    all.0.0,
    λ on q off.
        all.0.1 on q refl
        ∙ sym (ap (λ m. get m q) is ∙ got_set (map_of low_order wants) k w q
        ∙ ap (λ b. cond b w (get (map_of low_order wants) q)) (not_first (eq_by_cmp low_order q k) off)),
  ),
  changed_sent wants wants' k w es is all.1,
)

pub ends_changed : (x y : Checked) (wants wants' : Objects) (k : LowKey) (w : Option LowValue) (es : List FeedEnd)
    → AreEnds x wants None es → y.topology.controllers ≡ x.topology.controllers
    → map_of low_order wants' ≡ set_key (map_of low_order wants) k w
    → low_in y ≡ set_key (low_in x) (Low k) (option_map Object w) → AllFit (low_in y) → AreEnds y wants' (Some k) es
ends_changed x y wants wants' k w es are same is change fits = record {
  some = subst (λ (cs : List NodeId). 1 ≤ length cs) (sym same) are.some;
  few = subst (λ (cs : List NodeId). length cs ≤ 8) (sym same) are.few;
  whose = are.whose ∙ ap (map controller) (sym same);
  wanted = ap (embedded {S = key_cmp} Low Object) is
      ∙ low-set (map_of low_order wants) k w
      ∙ ap (λ (m : Map). set_key m (Low k) (option_map Object w)) are.wanted
      ∙ sym change;
  fits = fits;
  sent = changed_sent wants wants' k w es is are.sent;
}

-- ---- ends that are all closed
fresh_whose : (ns : List NodeId) → map whom_at (map new_end ns) ≡ map controller ns
fresh_whose [] = refl
fresh_whose (n ∷ ns) = ap (λ (ws : List (List ℕ × ItemFrom)). controller n ∷ ws) (fresh_whose ns)

no_sent : (wants : Objects) (ns : List NodeId) → AllByRecursion (HasSent wants None) (map new_end ns)
no_sent wants [] = tt
no_sent wants (n ∷ ns) = (nothing_sent wants None (new_end n) refl refl, no_sent wants ns)

pub fresh_posts : (ns : List NodeId) → posts_of (map new_end ns) ≡ nothings (length ns)
fresh_posts [] = refl
fresh_posts (n ∷ ns) =
    let here : end_at (new_end n) ≡ nothing = nothing_at (new_end n) refl refl in
    λ i. here i ∷ fresh_posts ns i

pub fresh_ends : (x : Checked) (wants : Objects) → 1 ≤ length x.topology.controllers
    → length x.topology.controllers ≤ 8 → low_of wants ≡ low_in x → AllFit (low_in x)
    → AreEnds x wants None (map new_end x.topology.controllers)
fresh_ends x wants one few is fits = record {
  some = one;
  few = few;
  whose = fresh_whose x.topology.controllers;
  wanted = is;
  fits = fits;
  sent = no_sent wants x.topology.controllers;
}

-- ---- the plans of a pass
-- an end that is told
pub plan_is : (wants : Objects) (e : FeedEnd) (messages : List (List ℕ)) → true ≡ sends e
    → messages ≡ map (λ c. spelled c) (difference (low_of e.sent) (low_of wants))
    → record { messages = messages } ≡ plan_of wants e
plan_is wants e messages live is =
    (λ i. record { messages = is i })
    ∙ (λ i. record {
      messages = if live i then map (λ c. spelled c) (difference (low_of e.sent) (low_of wants)) else [];
    })

-- an end that counts as told
no_changes : (wants : Objects) (e : FeedEnd) → map_of low_order e.sent ≡ map_of low_order wants
    → map (λ c. spelled c) (difference (low_of e.sent) (low_of wants)) ≡ []
no_changes wants e is =
    ap (λ (m : Map). map (λ (c : Change). spelled c) (difference m (low_of wants))) (same_low e.sent wants is)
    ∙ ap (map (λ (c : Change). spelled c)) (difference-itself same_value same_value_decides (low_of wants))

pub plan_where_told : (wants : Objects) (e : FeedEnd) (messages : List (List ℕ))
    → map_of low_order e.sent ≡ map_of low_order wants → messages ≡ [] → record { messages = messages } ≡ plan_of wants e
plan_where_told wants e messages is none =
    let silent : (plan_of wants e).messages ≡ [] =
    elim (sends e) as (λ b.
    (if b then map (λ c. spelled c) (difference (low_of e.sent) (low_of wants)) else []) ≡ [])
    [ true ↦ no_changes wants e is | false ↦ refl ] in
    λ j. record { messages = (none ∙ sym silent) j }

-- an end that is idle
pub plan_where_idle : (wants : Objects) (e : FeedEnd) (messages : List (List ℕ)) → false ≡ sends e → messages ≡ []
    → record { messages = messages } ≡ plan_of wants e
plan_where_idle wants e messages idle none =
    (λ j. record { messages = none j })
    ∙ (λ j. record {
      messages = if idle j then map (λ c. spelled c) (difference (low_of e.sent) (low_of wants)) else [];
    })

pub idle_told : (wants : Objects) (e : FeedEnd) → false ≡ sends e → AllFit (low_of e.sent)
    → IsEndTold wants e (record e { told = false })
idle_told wants e idle fits = record {
  end = ap (λ b. if b then record (end_at e) { sent = low_of wants } else end_at e) idle;
  sent = not_told wants None (record e { told = false }) fits refl;
}

module _ (x : Checked) (wants : Objects) (es : List FeedEnd) (is : low_of wants ≡ low_in x) (i : ℕ)
    (lt : i < length es) where
  abbrev here : FeedEnd
  here = slice_index_or es i (new_end no_node)

  at : post (posts_of es) i ≡ end_at here
  at = post_at es i (new_end no_node) lt

  says : (other : Plan)
      → (slice_index_or (map (plan_of wants) es) i other).messages ≡ changes (kind x) (posts_of es) i
  says other =
      ap (λ (p : Plan). p.messages) (get_or-map (plan_of wants) es i (new_end no_node) other lt)
      ∙ (λ j. if not (is_idle (sym at j).phase) then map (λ c. spelled c) (difference (sym at j).sent (is j)) else [])

  ends : (es' : List FeedEnd) → AreEndsTold wants es es' → post (posts_of es') i ≡ told_all (kind x) (posts_of es) i
  ends es' told =
      post_at es' i (new_end no_node) (let long = as_many wants es es' told in omega (arith, long, lt))
      ∙ told_at wants es es' i (new_end no_node) told lt
      ∙ (λ j. if not (is_idle (sym at j).phase) then record (sym at j) { sent = is j } else sym at j)

pub are_plans : (x : Checked) (wants : Objects) (es es' : List FeedEnd) (plans : List Plan) → low_of wants ≡ low_in x
    → AreEndsTold wants es es' → plans ≡ map (plan_of wants) es
    → ArePlans (kind x) (posts_of es) (posts_of es') plans
are_plans x wants es es' plans is told p =
    let long = posts_long es in
    let these : ArePlans (kind x) (posts_of es) (posts_of es') (map (plan_of wants) es) = record {
      many = length-map es (plan_of wants) ∙ sym long;
      messages = λ i other lt. says x wants es is i (omega (arith, long, lt)) other;
      ends = λ i lt. ends x wants es is i (omega (arith, long, lt)) es' told;
    } in
    rw p these
