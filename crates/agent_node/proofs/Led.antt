-- Octets that put or drop some routes alone, and ends that are told all.
use Rattle.std.specs.Prelude.{◌≡◌, ◌<◌, ◌≤◌, ℕ, zero, suc, List, [], ◌∷◌, map, length, Bool, true, false, cond, is_some, nat_lt, take, ◌==◌, ◌||◌, get_or}
use Rattle.std.specs.declared.option.Option.{Option}
use Rattle.std.specs.declared.option.Option.TheVariants.{Some, None}
use Rattle.std.specs.declared.result.Result.{Result}
use Rattle.std.specs.declared.result.Result.TheVariants.{Ok, Err}
use Rattle.std.specs.Option.{IfSome}
use Rattle.std.specs.Result.{IfOk}
use Rattle.std.specs.FinMap.{get}
use Rattle.std.specs.List.{cons_option, slice_index_or, filter_map, list_any}
use Rattle.std.proofs.Common.{refl, sym, ◌∙◌, ap, subst, set, arith}
use Rattle.std.proofs.lemmas.Bool.{ltb-true, true≢false}
use Rattle.std.proofs.lemmas.List.{get_or-map, get_or_past, length-set}
use Rattle.ov_sync.specs.Keyed.{after}
use Rattle.ov_sync.proofs.KeyedLaws.{difference-itself}
use Rattle.ov_types.specs.declared.numbers.InstanceId.{InstanceId}
use Rattle.ov_types.specs.declared.objects.LowKey.{LowKey}
use Rattle.ov_types.specs.declared.objects.LowValue.{LowValue}
use Rattle.ov_types.specs.declared.rows.AgentRows.{AgentRows}
use Rattle.item_wire.specs.declared.item.Item.{Item}
use Rattle.node_core.specs.Plans.{ArePlans}
use Rattle.node_core.specs.declared.ends.Plan.{Plan}
use Rattle.node_core.specs.Beginning.{phase_of}
use Rattle.node_core.specs.Told.{change_of, down_of, spelled, up_of}
use Rattle.node_laws.specs.Stepped.{AreTold, HoldTheSame}
use Rattle.node_laws.proofs.AtTheEnd.{seen_alike}
use Rattle.node_core.specs.NodeModel.Agent.{Holdings, acl_entry, attached, is_needed, needed_by, slice_in_use, told_of as told_by, wanted as wanted_of}
use Rattle.node_core.specs.NodeModel.Keys.{Row}
use Rattle.node_core.specs.NodeModel.Maps.{Change, Map, difference, objects}
use Rattle.node_core.specs.NodeModel.Step.{Post, nothing, post}
use Rattle.node_core.specs.NodeModel.Values.{same_value}
use Rattle.node_core.proofs.NodeModel.Alike.{same_value_decides}
use Rattle.node_core.proofs.NodeModel.Members.{none_some}
use Rattle.agent_tables.specs.Listed.{HaveSame, SameBut, list_between, list_key}
use Rattle.agent_tables.specs.Touched.{AgreeBut, AreTables, RowKey, SameRoutes, Tabled, route_key}
use Rattle.agent_tables.specs.Views.{heard_of, is_up as is_heard_up}
use Rattle.agent_tables.specs.declared.hearing.Hearing.{Hearing}
use Rattle.agent_tables.proofs.Touched.{MapsAgreeBut, all_changed, all_stay, objects_set, same_slice, session_changed, session_stays}
use Rattle.agent_tables.proofs.Held.{MapsSameBut, list_changed, session_listed}
use Rattle.agent_tables.proofs.Listed.{wanted_same}
use Rattle.agent_node.specs.Applying.{AreLed, AreListed, HasKeptRoutes, HasLed, HasListed, HaveKeptRoutes, HaveKeptSlice, Networks, is_in_use}
use Rattle.agent_node.specs.Core.{heard_at, holdings, is_up, kind, may_send, wanted}
use Rattle.agent_node.specs.Ends.{AreEnds, Sent, end_at, posts_of}
use Rattle.agent_node.specs.Planning.{AreSilent, sent_at}
use Rattle.agent_node.specs.declared.plan.AgentPlan.{AgentPlan}
use Rattle.agent_node.proofs.AtTheEnd.{wants_by_holdings}
use Rattle.agent_node.proofs.Begins.{here}
use Rattle.agent_node.proofs.Posts.{holdings_as, posts_hear}

-- what is said of what there is
pub of_some : {A : Type 0} (P : A → Type 0) (o : Option A) (x : A) → o ≡ Some x → IfSome o P → P x
of_some P o x is h = subst (λ o. IfSome o P) is h

pub if_some : {A : Type 0} (P Q : A → Type 0) (o : Option A) → ((x : A) → P x → Q x) → IfSome o P → IfSome o Q
if_some P Q None f h = tt
if_some P Q (Some x) f h = f x h

pub if_both : {A : Type 0} (P Q R : A → Type 0) (o : Option A) → ((x : A) → P x → Q x → R x) → IfSome o P → IfSome o Q → IfSome o R
if_both P Q R None f g h = tt
if_both P Q R (Some x) f g h = f x g h

pub if_ok : {A E : Type 0} (P Q : A → Type 0) (r : Result A E) → ((x : A) → P x → Q x) → IfOk r P → IfOk r Q
if_ok P Q (Ok x) f h = f x h
if_ok P Q (Err e) f h = tt

pub by_either : {T : Type 0} (b c : Bool) → (b || c) ≡ true → (b ≡ true → T) → (c ≡ true → T) → T
by_either true c e f g = f refl
by_either false c e f g = g e

-- ---- one end
pub has_led : (h h' : Hearing) (items : List Item) (keys : List RowKey) → h'.session.state ≡ h.session.state
    → map (λ i. route_key (change_of i)) items ≡ map Some keys
    → down_of h'.held ≡ after (down_of h.held) (filter_map change_of items) → HasLed keys h h'
has_led h h' items keys state e held =
    let agree = all_changed items keys (down_of h.held) e in
    let both = subst (MapsAgreeBut keys (down_of h.held)) (sym held) agree in
    record { state = state; objects_same = both.objects_same; rows_same = both.rows_same }

pub has_kept_routes : (h h' : Hearing) (items : List Item) → h'.session.state ≡ h.session.state
    → list_any (λ i. is_some (route_key (change_of i))) items ≡ false
    → down_of h'.held ≡ after (down_of h.held) (filter_map change_of items) → HasKeptRoutes h h'
has_kept_routes h h' items state none held = record {
  state = state;
  rows_same = λ k. all_stay items (down_of h.held) none k ∙ ap (λ (m : Map). get m (Row k.0 k.1)) (sym held);
}

-- one record that puts or drops an access list
abbrev is_more : {A : Type 0} → List A → Bool
is_more (x ∷ y ∷ l) = true
is_more l = false

one_listed : (items : List Item) (m : Map) (n : Networks) → map (λ i. list_key (change_of i)) items ≡ Some n ∷ []
    → MapsSameBut (list_between n) m (after m (filter_map change_of items))
one_listed [] m n e = absurd (none_some n (ap (λ (l : List (Option Networks)). get_or l 0 None) e))
one_listed (i ∷ j ∷ items) m n e = absurd (true≢false (ap (λ (l : List (Option Networks)). is_more l) e))
one_listed (i ∷ []) m n e =
    elim (change_of i) as (λ o. list_key o ≡ Some n → MapsSameBut (list_between n) m (after m (cons_option o []))) [
      | None ↦ λ s. absurd (none_some n s)
      | Some c ↦ λ s. list_changed m c n s
    ] (ap (λ (l : List (Option Networks)). get_or l 0 None) e)

pub has_listed : (h h' : Hearing) (items : List Item) (n : Networks) → h'.session.state ≡ h.session.state
    → map (λ i. list_key (change_of i)) items ≡ Some n ∷ []
    → down_of h'.held ≡ after (down_of h.held) (filter_map change_of items) → HasListed n h h'
has_listed h h' items n state e held =
    let but = subst (MapsSameBut (list_between n) (down_of h.held)) (sym held) (one_listed items (down_of h.held) n e) in
    record { state = state; objects_same = but.objects_same; rows_same = but.rows_same }

map_set : (hs : List Hearing) (i : ℕ) (h : Hearing) → map heard_of (set hs i h) ≡ set (map heard_of hs) i (heard_of h)
map_set [] i h = refl
map_set (g ∷ hs) zero h = refl
map_set (g ∷ hs) (suc i) h = ap (λ (l : Holdings). heard_of g ∷ l) (map_set hs i h)

-- ---- all ends
module _ (plan : AgentPlan) (hs : List Hearing) (ss : List Sent) (ends : AreEnds plan hs ss) (i : ℕ) (h : Hearing)
    (lt : i < length hs) (is : h ≡ slice_index_or hs i h) (h' : Hearing) where
  -- an end that stays in its state holds something else alone
  held_alone : h'.session.state ≡ h.session.state
      → posts_of (set hs i h') ss ≡ set (posts_of hs ss) i (record (post (posts_of hs ss) i) { held = down_of h'.held })
  held_alone state =
      let same : end_at h (sent_at ss i) ≡ post (posts_of hs ss) i = here plan hs ss ends i h lt is in
      posts_hear hs ss i h'
      ∙ (λ j. set (posts_of hs ss) i (record {
        phase = phase_of (state j);
        sent = up_of (sent_at ss i);
        held = down_of h'.held;
        wide = false;
      }))
      ∙ (λ j. set (posts_of hs ss) i (record {
        phase = (same j).phase;
        sent = (same j).sent;
        held = down_of h'.held;
        wide = (same j).wide;
      }))

  pub are_led : (keys : List RowKey) → HasLed keys h h' → AreLed keys i (posts_of hs ss) (posts_of (set hs i h') ss)
  are_led keys t =
      let agree : AgreeBut keys (map heard_of hs) (set (map heard_of hs) i (heard_of h')) =
      session_changed (map heard_of hs) i (heard_of h) (heard_of h') keys
      (λ d. get_or-map heard_of hs i h d lt ∙ ap heard_of (sym is)) (ap is_heard_up t.state)
      (record { objects_same = t.objects_same; rows_same = t.rows_same }) in
      record {
        held = down_of h'.held;
        left = held_alone t.state;
        agree = subst (λ (p : Holdings × Holdings). AgreeBut keys p.0 p.1)
            (λ j. (sym (holdings_as hs ss) j, (sym (map_set hs i h') ∙ sym (holdings_as (set hs i h') ss)) j)) agree;
      }

  pub are_listed : (n : Networks) → HasListed n h h' → AreListed n i (posts_of hs ss) (posts_of (set hs i h') ss)
  are_listed n t =
      let same : SameBut (list_between n) (map heard_of hs) (set (map heard_of hs) i (heard_of h')) =
      session_listed (map heard_of hs) i (heard_of h) (heard_of h') (list_between n)
      (λ d. get_or-map heard_of hs i h d lt ∙ ap heard_of (sym is)) (ap is_heard_up t.state)
      (record { objects_same = t.objects_same; rows_same = t.rows_same }) in
      record {
        held = down_of h'.held;
        left = held_alone t.state;
        same = subst (λ (p : Holdings × Holdings). SameBut (list_between n) p.0 p.1)
            (λ j. (sym (holdings_as hs ss) j, (sym (map_set hs i h') ∙ sym (holdings_as (set hs i h') ss)) j)) same;
      }

  pub routes_kept : HasKeptRoutes h h' → HaveKeptRoutes i (posts_of hs ss) (posts_of (set hs i h') ss)
  routes_kept t =
      let same : SameRoutes (map heard_of hs) (set (map heard_of hs) i (heard_of h')) =
      session_stays (map heard_of hs) i (heard_of h) (heard_of h')
      (λ d. get_or-map heard_of hs i h d lt ∙ ap heard_of (sym is)) (ap is_heard_up t.state) t.rows_same in
      record {
        held = down_of h'.held;
        left = held_alone t.state;
        same = subst (λ (p : Holdings × Holdings). SameRoutes p.0 p.1)
            (λ j. (sym (holdings_as hs ss) j, (sym (map_set hs i h') ∙ sym (holdings_as (set hs i h') ss)) j)) same;
      }

-- ---- the slice in use
in_use_behind : (h : Hearing) (hs : List Hearing) (ss : List Sent) (n : ℕ) (d : Hearing)
    → is_in_use (posts_of hs ss) n
    ≡ cond (list_any (λ (h : Hearing). is_up (phase_of h.session.state)) (take n hs)) false
    (is_up (phase_of (slice_index_or hs n d).session.state))
    → cond (is_up (phase_of h.session.state)) false (is_in_use (posts_of hs ss) n)
    ≡ cond (is_up (phase_of h.session.state)
    || list_any (λ (h : Hearing). is_up (phase_of h.session.state)) (take n hs)) false
    (is_up (phase_of (slice_index_or hs n d).session.state))
in_use_behind h hs ss n d rest =
    let any : Bool = list_any (λ (h : Hearing). is_up (phase_of h.session.state)) (take n hs) in
    let here : Bool = is_up (phase_of (slice_index_or hs n d).session.state) in
    elim (is_up (phase_of h.session.state)) as (λ b. cond b false (is_in_use (posts_of hs ss) n) ≡ cond (b || any) false here) [
      | true ↦ refl
      | false ↦ rest
    ]

pub in_use_as : (hs : List Hearing) (ss : List Sent) (n : ℕ) (d : Hearing) → n < length hs
    → is_in_use (posts_of hs ss) n
    ≡ cond (list_any (λ (h : Hearing). is_up (phase_of h.session.state)) (take n hs)) false
    (is_up (phase_of (slice_index_or hs n d).session.state))
in_use_as [] ss n d lt = absurd (omega arith)
in_use_as (h ∷ hs) [] zero d lt = refl
in_use_as (h ∷ hs) (s ∷ ss) zero d lt = refl
in_use_as (h ∷ hs) [] (suc n) d lt = in_use_behind h hs [] n d (in_use_as hs [] n d (omega arith))
in_use_as (h ∷ hs) (s ∷ ss) (suc n) d lt = in_use_behind h hs ss n d (in_use_as hs ss n d (omega arith))

-- what a session holds whose slice is not in use does not matter to the slice in use
pub slice_apart : (posts : List Post) (i : ℕ) (m : Map) → is_in_use posts i ≡ false
    → slice_in_use (holdings posts) ≡ slice_in_use (holdings (set posts i (record (post posts i) { held = m })))
slice_apart [] i m e = refl
slice_apart (p ∷ posts) zero m e =
    ap (λ b. cond b (objects p.held) (slice_in_use (holdings posts))) e
    ∙ sym (ap (λ b. cond b (objects m) (slice_in_use (holdings posts))) e)
slice_apart (p ∷ posts) (suc i) m e =
    elim (is_up p.phase) as (λ b. cond b false (is_in_use posts i) ≡ false
    → cond b (objects p.held) (slice_in_use (holdings posts))
    ≡ cond b (objects p.held) (slice_in_use (holdings (set posts i (record (post posts i) { held = m }))))) [
      | true ↦ λ e. refl
      | false ↦ λ e. slice_apart posts i m e
    ] e

pub slice_kept : (s : ℕ) (posts posts' : List Post) → is_in_use posts s ≡ false → HaveKeptRoutes s posts posts'
    → HaveKeptSlice s posts posts'
slice_kept s posts posts' apart kept = record {
  held = kept.held;
  left = kept.left;
  same = kept.same;
  slice = slice_apart posts s kept.held apart ∙ ap (λ (ps : List Post). slice_in_use (holdings ps)) (sym kept.left);
}

pub tables_kept : (s : ℕ) (posts posts' : List Post) (t : Tabled) → HaveKeptSlice s posts posts'
    → AreTables (holdings posts) t → AreTables (holdings posts') t
tables_kept s posts posts' t kept are =
    let slice = kept.slice in
    objects_set (holdings posts) (holdings posts') t t are kept.same
    (λ i. are.instances i ∙ ap (λ (es : List (LowKey × LowValue)). list_any (λ n. n.0 == i.0) (needed_by es)) slice)
    (ap (λ (r : AgentRows). r.labels) are.rows ∙ ap (filter_map (λ (e : LowKey × LowValue). attached e.0 e.1)) slice)
    (ap (λ (r : AgentRows). r.acls) are.rows ∙ ap (filter_map (λ (e : LowKey × LowValue). acl_entry e.0 e.1)) slice)
    refl refl

-- ---- what was told stays told
same_at : (posts : List Post) (s : ℕ) (m : Map) (j : ℕ)
    → ((post (set posts s (record (post posts s) { held = m })) j).phase ≡ (post posts j).phase)
    × ((post (set posts s (record (post posts s) { held = m })) j).sent ≡ (post posts j).sent)
same_at [] s m j = (refl, refl)
same_at (p ∷ posts) zero m zero = (refl, refl)
same_at (p ∷ posts) zero m (suc j) = (refl, refl)
same_at (p ∷ posts) (suc s) m zero = (refl, refl)
same_at (p ∷ posts) (suc s) m (suc j) = same_at posts s m j

pub told_same : (s : ℕ) (posts posts' : List Post) (held : Map)
    → posts' ≡ set posts s (record (post posts s) { held = held })
    → wanted_of (holdings posts) ≡ wanted_of (holdings posts') → AreTold kind posts → AreTold kind posts'
told_same s posts posts' held left wants told j lt may =
    let at : (j : ℕ) → ((post posts' j).phase ≡ (post posts j).phase) × ((post posts' j).sent ≡ (post posts j).sent) =
    λ j. subst (λ (ps : List Post). ((post ps j).phase ≡ (post posts j).phase) × ((post ps j).sent ≡ (post posts j).sent))
    (sym left) (same_at posts s held j) in
    let long : length posts' ≡ length posts = ap length left ∙ length-set posts s (record (post posts s) { held = held }) in
    (at j).1
    ∙ told j (subst (λ n. j < n) long lt) (ap (may_send j) (sym (at j).0) ∙ may)
    ∙ wants

pub told_kept : (s : ℕ) (posts posts' : List Post) (held : Map)
    → posts' ≡ set posts s (record (post posts s) { held = held })
    → slice_in_use (holdings posts) ≡ slice_in_use (holdings posts') → AreTold kind posts → AreTold kind posts'
told_kept s posts posts' held left slice = told_same s posts posts' held left (ap told_by slice)

-- ---- one access list that changed
abbrev pub NeedsStay : List Post → Tabled → Networks → Type 0
NeedsStay posts t n = (before : Holdings) → AreTables before t → SameBut (list_between n) before (holdings posts)
    → (i : InstanceId) → is_needed before i ≡ is_needed (holdings posts) i

module _ (s : ℕ) (posts posts' : List Post) (t : Tabled) (list : Option Networks)
    (listed : IfSome list (λ n. AreListed n s posts posts')) (current : Bool) (are : current ≡ true → AreTables (holdings posts) t) where
  pub have_same : (kept : Option Networks) → IfSome kept (λ n. list ≡ Some n) → IfSome kept (λ n. current ≡ true)
      → IfSome kept (NeedsStay posts' t) → IfSome kept (λ n. HaveSame (list_between n) (holdings posts') t)
  have_same None is on needs = tt
  have_same (Some n) is on needs =
      let l = of_some (λ n. AreListed n s posts posts') list n is listed in
      record { before = holdings posts; same = l.same; needs = needs (holdings posts) (are on) l.same; are = are on }

  pub told_listed : (kept : Option Networks) → IfSome kept (λ n. list ≡ Some n) → IfSome kept (λ n. current ≡ true)
      → IfSome kept (NeedsStay posts' t) → is_some kept ≡ true → AreTold kind posts → AreTold kind posts'
  told_listed None is on needs some told = absurd (true≢false (sym some))
  told_listed (Some n) is on needs some told =
      let l = of_some (λ n. AreListed n s posts posts') list n is listed in
      told_same s posts posts' l.held l.left
      (wanted_same (list_between n) refl (holdings posts) (holdings posts') l.same (needs (holdings posts) (are on) l.same)) told

pub told_on : (keys : List RowKey) (s : ℕ) (posts posts' : List Post) → AreLed keys s posts posts' → AreTold kind posts
    → AreTold kind posts'
told_on keys s posts posts' led told =
    told_kept s posts posts' led.held led.left (same_slice (holdings posts) (holdings posts') led.agree.besides) told

-- ---- plans where all is told
no_changes : (wants sent : Map) (b : Bool) → (b ≡ true → sent ≡ wants)
    → cond b (map (λ (c : Change). spelled c) (difference sent wants)) [] ≡ []
no_changes wants sent true e =
    ap (λ (m : Map). map (λ (c : Change). spelled c) (difference m wants)) (e refl)
    ∙ ap (map (λ (c : Change). spelled c)) (difference-itself same_value same_value_decides wants)
no_changes wants sent false e = refl

all_same : (p : Post) (wants : Map) (b : Bool) → (b ≡ true → p.sent ≡ wants) → p ≡ cond b (record p { sent = wants }) p
all_same p wants true e = λ j. record p { sent = e refl j }
all_same p wants false e = refl

pub silent_plans : (posts : List Post) (plans : List Plan) (n : ℕ) → n ≡ length posts → AreTold kind posts
    → AreSilent plans n → ArePlans kind posts posts plans
silent_plans posts plans n long told silent =
    record {
      many = silent.many ∙ long;
      messages = λ i other lt. silent.silent i other (subst (λ m. i < m) (sym long) lt)
          ∙ sym (no_changes (wanted posts i) (post posts i).sent (may_send i (post posts i).phase) (told i lt));
      ends = λ i lt. all_same (post posts i) (wanted posts i) (may_send i (post posts i).phase) (told i lt);
    }

-- ---- plans leave what is held as it was
pub held_on : (posts posts' : List Post) (plans : List Plan) → length posts' ≡ length posts
    → ArePlans kind posts posts' plans → HoldTheSame posts posts'
held_on posts posts' plans long planned = λ i. at i (nat_lt i (length posts)) refl
  where
    parts : (p q : Post) (wants : Map) (b : Bool) → q ≡ cond b (record p { sent = wants }) p → (q.phase ≡ p.phase) × (q.held ≡ p.held)
    parts p q wants true e = (ap (λ (x : Post). x.phase) e, ap (λ (x : Post). x.held) e)
    parts p q wants false e = (ap (λ (x : Post). x.phase) e, ap (λ (x : Post). x.held) e)

    beyond : (i n m : ℕ) → n ≡ m → nat_lt i m ≡ false → n ≤ i
    beyond i n m e f = grind arith

    past : (i : ℕ) → nat_lt i (length posts) ≡ false → post posts' i ≡ post posts i
    past i f =
        get_or_past posts' i nothing (beyond i (length posts') (length posts) long f)
        ∙ sym (get_or_past posts i nothing (beyond i (length posts) (length posts) refl f))

    at : (i : ℕ) (b : Bool) → nat_lt i (length posts) ≡ b
        → ((post posts' i).phase ≡ (post posts i).phase) × ((post posts' i).held ≡ (post posts i).held)
    at i true e =
        parts (post posts i) (post posts' i) (wanted posts i) (may_send i (post posts i).phase)
        (planned.ends i (ltb-true i (length posts) e))
    at i false e = (ap (λ (x : Post). x.phase) (past i e), ap (λ (x : Post). x.held) (past i e))

pub holdings_on : (posts posts' : List Post) (plans : List Plan) → length posts' ≡ length posts
    → ArePlans kind posts posts' plans → holdings posts' ≡ holdings posts
holdings_on posts posts' plans long planned =
    seen_alike heard_at (λ p q phase held j. record { is_up = is_up (phase j); map = held j }) posts posts' long
    (held_on posts posts' plans long planned)

-- ---- what was planned is told
pub told_by_plans : (posts posts' : List Post) (plans : List Plan) → length posts' ≡ length posts
    → ArePlans kind posts posts' plans → AreTold kind posts'
told_by_plans posts posts' plans long planned i lt may =
    let under : i < length posts = subst (λ n. i < n) long lt in
    sent under (may_send i (post posts i).phase) refl (ap (may_send i) (sym (same i).0) ∙ may)
    ∙ sym (wants_by_holdings.wants posts posts' long same i)
  where
    same : HoldTheSame posts posts'
    same = held_on posts posts' plans long planned

    sent : i < length posts → (b : Bool) → may_send i (post posts i).phase ≡ b → b ≡ true → (post posts' i).sent ≡ wanted posts i
    sent under b e on =
        ap (λ (x : Post). x.sent) (planned.ends i under)
        ∙ ap (λ (b : Bool). (cond b (record (post posts i) { sent = wanted posts i }) (post posts i)).sent) (e ∙ on)
