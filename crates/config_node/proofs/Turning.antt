-- The ends, as one after another is told.
use Rattle.std.specs.Prelude.{◌≡◌, ◌<◌, ◌+◌, ◌⊎◌, ℕ, zero, suc, List, [], ◌∷◌, ◌++◌, map, take, drop, length, get_or, true}
use Rattle.std.specs.Prelude.{if◌then◌else◌}
use Rattle.std.specs.declared.option.Option.{Option}
use Rattle.std.specs.declared.option.Option.TheVariants.{Some, None}
use Rattle.std.specs.List.{AllByRecursion}
use Rattle.std.specs.FinMap.{get, same_map}
use Rattle.std.proofs.Common.{inl, inr, refl, sym, ◌∙◌, ap, subst, arith, set}
use Rattle.std.proofs.lemmas.List.{drop-set-lt, get_or-drop, map_more}
use Rattle.ov_sync.specs.Embed.{embedded}
use Rattle.ov_sync.specs.Keyed.{map_of}
use Rattle.ov_types.specs.declared.objects.LowKey.{LowKey}
use Rattle.node_core.specs.declared.ends.Plan.{Plan}
use Rattle.node_core.specs.NodeModel.Keys.{Low, key_cmp}
use Rattle.node_core.specs.NodeModel.Values.{Object}
use Rattle.node_core.proofs.NodeModel.Directions.{low_exact, low_total}
use Rattle.node_core.specs.Beginning.{phase_of}
use Rattle.node_core.specs.Told.{AllFit}
use Rattle.config_node.specs.Ends.{HasSent, Objects, end_at, low_of, low_order}
use Rattle.config_node.specs.Planning.{AreEndsTold, IsEndTold, plan_of, sends, told_end}
use Rattle.config_node.specs.declared.ends.FeedEnd.{FeedEnd}

-- ---- one end
pub same_low : (sent wants : Objects) → map_of low_order sent ≡ map_of low_order wants → low_of sent ≡ low_of wants
same_low sent wants is = ap (embedded {S = key_cmp} Low Object) is

-- what was sent is what is wanted
pub all_sent : (wants : Objects) (changed : Option LowKey) (e : FeedEnd) → AllFit (low_of wants)
    → map_of low_order e.sent ≡ map_of low_order wants → HasSent wants changed e
all_sent wants changed e fits is =
    (subst AllFit (sym (same_low e.sent wants is)) fits, λ on q none. ap (λ m. get m q) is)

pub live_told : (wants : Objects) (e e' : FeedEnd) → true ≡ sends e → e'.session ≡ e.session → AllFit (low_of wants)
    → map_of low_order e'.sent ≡ map_of low_order wants → IsEndTold wants e e'
live_told wants e e' live same fits is = record {
  end = (λ i. record (end_at e) { phase = phase_of (same i).state; sent = same_low e'.sent wants is i })
      ∙ ap (λ b. if b then record (end_at e) { sent = low_of wants } else end_at e) live;
  sent = all_sent wants None e' fits is;
}

-- what was sent of the key that changed may be as before, or what is wanted
pub kept_sent : (wants : Objects) (k : LowKey) (e : FeedEnd) (sent : Objects) → HasSent wants (Some k) e
    → AllFit (low_of wants)
    → (map_of low_order sent ≡ map_of low_order e.sent) ⊎ (map_of low_order sent ≡ map_of low_order wants)
    → HasSent wants (Some k) (record e { sent = sent })
kept_sent wants k e sent h fits (inl same) =
    (subst AllFit (sym (same_low sent e.sent same)) h.0, λ on q none. ap (λ m. get m q) same ∙ h.1 on q none)
kept_sent wants k e sent h fits (inr same) = all_sent wants (Some k) (record e { sent = sent }) fits same

-- where nothing changed
pub told_already : (wants : Objects) (e : FeedEnd) → HasSent wants None e → e.told ≡ true
    → map_of low_order e.sent ≡ map_of low_order wants
told_already wants e h on = same_map low_total low_exact _ _ (λ q. h.1 on q refl)

-- ---- the ends that are left, as one is told
one_less : {X : Type 0} (es : List X) (i : ℕ) → drop (suc i) es ≡ drop 1 (drop i es)
one_less [] zero = refl
one_less [] (suc i) = refl
one_less (e ∷ es) zero = refl
one_less (e ∷ es) (suc i) = one_less es i

pub rest_more : {X : Type 0} (old cur : List X) (i : ℕ) (e' : X) → drop i cur ≡ drop i old
    → drop (suc i) (set cur i e') ≡ drop (suc i) old
rest_more old cur i e' rest =
    drop-set-lt (suc i) cur i e' (omega arith) ∙ one_less cur i ∙ ap (drop 1) rest ∙ sym (one_less old i)

same_at : {X : Type 0} (es : List X) (i : ℕ) (d : X) → get_or es i d ≡ get_or (drop i es) 0 d
same_at es i d = ap (λ j. get_or es j d) (let z : i ≡ i + 0 = omega arith in z) ∙ sym (get_or-drop i es 0 d)

pub left_at : {X : Type 0} (old cur : List X) (i : ℕ) (e : X) → drop i cur ≡ drop i old
    → e ≡ get_or cur i e → e ≡ get_or old i e
left_at old cur i e rest is =
    is ∙ same_at cur i e ∙ ap (λ l. get_or l 0 e) rest ∙ sym (same_at old i e)

pub told_more : (wants : Objects) (old cur : List FeedEnd) (i : ℕ) (e e' : FeedEnd) → i < length old
    → length cur ≡ length old → drop i cur ≡ drop i old → e ≡ get_or cur i e
    → AreEndsTold wants (take i old) (take i cur) → IsEndTold wants e e'
    → AreEndsTold wants (take (suc i) old) (take (suc i) (set cur i e'))
told_more wants [] cur i e e' lt long rest is told now = absurd (omega (arith, lt))
told_more wants (x ∷ old) [] i e e' lt long rest is told now = absurd (omega (arith, long))
told_more wants (x ∷ old) (y ∷ cur) zero e e' lt long rest is told now =
    let here : y ≡ x = cc in (subst (λ (z : FeedEnd). IsEndTold wants z e') (is ∙ here) now, tt)
told_more wants (x ∷ old) (y ∷ cur) (suc i) e e' lt long rest is told now =
    (told.0, told_more wants old cur i e e' (omega (arith, lt)) (omega (arith, long)) rest is told.1 now)

-- one more plan
pub plans_more : (wants : Objects) (old cur : List FeedEnd) (i : ℕ) (e : FeedEnd) (plans plans' : List Plan)
    (plan : Plan) → i < length old → drop i cur ≡ drop i old → e ≡ get_or cur i e
    → plans ≡ map (plan_of wants) (take i old) → plan ≡ plan_of wants e → plans' ≡ plans ++ plan ∷ []
    → plans' ≡ map (plan_of wants) (take (i + 1) old)
plans_more wants old cur i e plans plans' plan lt rest is p q more =
    let there : e ≡ get_or old i e = left_at old cur i e rest is in
    more ∙ (λ j. p j ++ (q ∙ ap (plan_of wants) there) j ∷ []) ∙ sym (map_more (plan_of wants) old i e lt)

-- ---- all of them
pub as_many : (wants : Objects) (es es' : List FeedEnd) → AreEndsTold wants es es' → length es' ≡ length es
as_many wants [] [] told = refl
as_many wants (e ∷ es) (e' ∷ es') told = ap suc (as_many wants es es' told.1)
as_many wants [] (e' ∷ es') told = absurd told
as_many wants (e ∷ es) [] told = absurd told

pub told_at : (wants : Objects) (es es' : List FeedEnd) (i : ℕ) (d : FeedEnd) → AreEndsTold wants es es' → i < length es
    → end_at (get_or es' i d) ≡ told_end wants (get_or es i d)
told_at wants [] es' i d told lt = absurd (omega (arith, lt))
told_at wants (e ∷ es) [] i d told lt = absurd told
told_at wants (e ∷ es) (e' ∷ es') zero d told lt = told.0.end
told_at wants (e ∷ es) (e' ∷ es') (suc i) d told lt = told_at wants es es' i d told.1 (omega (arith, lt))

pub each_sent : (wants : Objects) (es es' : List FeedEnd) → AreEndsTold wants es es'
    → AllByRecursion (HasSent wants None) es'
each_sent wants [] [] told = tt
each_sent wants (e ∷ es) (e' ∷ es') told = (told.0.sent, each_sent wants es es' told.1)
each_sent wants [] (e' ∷ es') told = absurd told
each_sent wants (e ∷ es) [] told = absurd told
