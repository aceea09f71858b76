-- The replies on one session, and then the pass over all, are a step.
use Rattle.std.proofs.Common.{◌≡◌, ◌≢◌, ℕ, ◌<◌, ◌≤◌, List, [], ◌++◌, map, length, get_or, set, Bool, true, false, ◌||◌}
use Rattle.std.proofs.Common.{nat_lt, ◌==◌, if◌then◌else◌, sym, ◌∙◌, ap, refl, subst, arith, ⊎_elim, get_or-set_same}
use Rattle.std.proofs.Common.{get_or-set_other, length-set, set-set}
use Rattle.std.proofs.lemmas.Bool.{cases_eq}
use Rattle.std.proofs.lemmas.Bool.Decides.{nat_tests}
use Rattle.std.specs.declared.option.Option.{Option}
use Rattle.std.specs.declared.option.Option.TheVariants.{Some, None}
use Rattle.std.specs.Option.{IfSome}
use Rattle.std.specs.FinMap.{empty}
use Rattle.ov_types.specs.Counts.{Rose}
use Rattle.ov_link.specs.Delivery.{Delivers}
use Rattle.node_model.specs.Maps.{difference}
use Rattle.node_model.specs.Step.{At, Beginning, Idle, NodeKind, Post, StepAt, Steps, begun, changes, end_of, nothing, post, told_all}
use Rattle.node_core.specs.declared.ends.Plan.{Plan}
use Rattle.node_core.specs.Plans.{ArePlans}
use Rattle.node_core.specs.Passing.{Passes, ServedAt, Serves, closed_if, earlier}
use Rattle.node_core.specs.Begun.{HasBegun}
use Rattle.node_core.specs.Naming.{Names}
use Rattle.node_core.proofs.Deliveries.{Both, both_delivered}
use Rattle.node_core.proofs.Passing.{closed_here, closed_long}

-- ---- the lower of two
abbrev pub IsNamed : Option ℕ → ℕ → Type 0
IsNamed lowest i = (s : ℕ) × (s ≤ i) × (lowest ≡ Some s)

least_named : (b : Bool) (session s i : ℕ) → b ≡ nat_lt s session → s ≤ i
    → IsNamed (if b then Some s else Some session) i
least_named true session s i e le = (s, le, refl)
least_named false session s i e le = (session, grind (arith, nat_tests), refl)

named_other : (fails : Bool) (session : ℕ) (lowest : Option ℕ) (i : ℕ) → IsNamed lowest i
    → IsNamed (earlier fails session lowest) i
named_other false session lowest i n = n
named_other true session None i n = absurd (let e = n.2 in cc)
named_other true session (Some t) i n = least_named _ session t i refl (let e : t ≡ n.0 = cc (n.2) in omega (arith, n.1))

least_unnamed : (b : Bool) (session s i : ℕ) → i ≢ session → Some s ≢ Some i
    → (if b then Some s else Some session) ≢ Some i
least_unnamed true session s i ne h e = h e
least_unnamed false session s i ne h e = ne (let k : session ≡ i = cc in sym k)

unnamed_other : (fails : Bool) (session : ℕ) (lowest : Option ℕ) (i : ℕ) → i ≢ session → lowest ≢ Some i
    → earlier fails session lowest ≢ Some i
unnamed_other false session lowest i ne h e = h e
unnamed_other true session None i ne h e = ne (let k : session ≡ i = cc in sym k)
unnamed_other true session (Some s) i ne h e = least_unnamed _ session s i ne h e

least_here : (b : Bool) (session s : ℕ) → b ≡ nat_lt s session → IsNamed (if b then Some s else Some session) session
least_here true session s e = (s, grind (arith, nat_tests), refl)
least_here false session s e = (session, omega arith, refl)

named_here : (fails failed : Bool) (session : ℕ) (lowest : Option ℕ) → (failed ≡ true → IsNamed lowest session)
    → fails || failed ≡ true
    → IsNamed (earlier fails session lowest) session
named_here false failed session lowest h e = h e
named_here true failed session None h e = (session, omega arith, refl)
named_here true failed session (Some s) h e = least_here _ session s refl

unnamed_here : (fails failed : Bool) (session : ℕ) (lowest : Option ℕ) → (failed ≡ false → lowest ≢ Some session)
    → fails || failed ≡ false
    → earlier fails session lowest ≢ Some session
unnamed_here false failed session lowest h e = h e
unnamed_here true failed session lowest h e = absurd (let f : true ≡ false = e in cc)

least_low : (b : Bool) (session s n : ℕ) → session < n → s < n
    → IfSome (if b then Some s else Some session) (λ t. t < n)
least_low true session s n h k = k
least_low false session s n h k = h

earlier_low : (fails : Bool) (session : ℕ) (lowest : Option ℕ) (n : ℕ) → session < n → IfSome lowest (λ s. s < n)
    → IfSome (earlier fails session lowest) (λ s. s < n)
earlier_low false session lowest n h low = low
earlier_low true session None n h low = h
earlier_low true session (Some s) n h low = least_low _ session s n h low

not_failed : (b : Bool) → (b ≡ true → ⊥) → b ≡ false
not_failed true h = absurd (h refl)
not_failed false h = refl

has_failed : (b : Bool) → (b ≡ false → ⊥) → b ≡ true
has_failed true h = refl
has_failed false h = absurd (h refl)

-- ---- the replies of a session
abbrev pub replied : List (List ℕ) → ℕ → ℕ → List (List ℕ)
replied replies session i = if i == session then replies else []

tested : (i j : ℕ) → i ≡ j → (i == j) ≡ true
tested i j e = grind (arith, nat_tests)

untested : (i j : ℕ) → i ≢ j → (i == j) ≡ false
untested i j ne = grind (arith, nat_tests)

replied_here : (replies : List (List ℕ)) (session : ℕ) → replied replies session session ≡ replies
replied_here replies session = ap (λ b. if b then replies else []) (tested session session refl)

replied_other : (replies : List (List ℕ)) (session i : ℕ) → i ≢ session → replied replies session i ≡ []
replied_other replies session i ne = ap (λ b. if b then replies else []) (untested i session ne)

either_way : (b : Bool) (x : Post) → x ≡ nothing → (if b then nothing else x) ≡ nothing
either_way true x e = refl
either_way false x e = e

ends : (fails failed : Bool) (x y : Post) → (fails ≡ true → x ≡ nothing) → x ≡ (if failed then nothing else y)
    → x ≡ (if fails || failed then nothing else y)
ends true failed x y h e = h refl
ends false failed x y h e = e

module _ (k : NodeKind) where
  -- where an idle end may not send, an end that is closed is told nothing
  none_told : (posts : List Post) (i : ℕ) → k.may_send i Idle ≡ false → post posts i ≡ nothing → changes k posts i ≡ []
  none_told posts i silent e =
      ap (λ (p : Post). if k.may_send i p.phase then map (k.spelled i) (difference p.sent (k.wanted posts i)) else []) e
      ∙ ap (λ b. if b then map (k.spelled i) (difference empty (k.wanted posts i)) else []) silent

  none_settled : (posts : List Post) (i : ℕ) → k.may_send i Idle ≡ false → post posts i ≡ nothing
      → told_all k posts i ≡ nothing
  none_settled posts i silent e =
      ap (λ (p : Post). if k.may_send i p.phase then record p { sent = k.wanted posts i } else p) e
      ∙ ap (λ b. if b then record nothing { sent = k.wanted posts i } else nothing) silent

  -- how the ends stand as the pass begins
  begun_is : (fails : Bool) (before posts : List Post) (session : ℕ) (given : Beginning)
      → posts ≡ set before session (end_of given.after)
      → closed_if fails posts session ≡ begun before session given fails
  begun_is true before posts session given e =
      ap (λ ps. set ps session nothing) e ∙ set-set before session _ nothing
  begun_is false before posts session given e = e

  module _ {L : Type 0} (accepted : L → Option (List (List ℕ))) (breaks : L → Option (List ℕ)) (faults : L → ℕ)
      (replies : List (List ℕ)) where
    -- what one session was told: the replies, where it is the input's, and its changes as the pass begins
    pub record ToldAt (start posts' : List Post) (session : ℕ) (fails : Bool) (links links' : List L) (lowest : Option ℕ)
        (i : ℕ) : Type 0 where
      pub link : L
      pub link' : L
      pub failed : Bool
      pub link_at : At links i link
      pub link'_at : At links' i link'
      pub delivers : Delivers accepted breaks faults (replied replies session i ++ changes k start i) failed link link'
      pub reply : i ≡ session → fails ≡ nat_lt delivers.count (length (replied replies session i))
      pub end : post posts' i ≡ (if failed then nothing else told_all k start i)
      pub named : failed ≡ true → IsNamed lowest i
      pub unnamed : failed ≡ false → lowest ≢ Some i

    module _ (start planned posts' : List Post) (links links1 links' : List L) (session : ℕ) (fails : Bool)
        (plans : List Plan) (lowest : Option ℕ) where
      -- what the pass made of one session, in the words of a kind of node
      record OneAt (i : ℕ) : Type 0 where
        link : L
        link' : L
        failed : Bool
        link_at : At links1 i link
        link'_at : At links' i link'
        delivers : Delivers accepted breaks faults (changes k start i) failed link link'
        end : post posts' i ≡ (if failed then nothing else told_all k start i)
        named : failed ≡ true → IsNamed lowest i
        unnamed : failed ≡ false → lowest ≢ Some i

      one_at : (i : ℕ) → i < length start → ArePlans k start planned plans
          → ServedAt accepted breaks faults plans planned posts' links1 links' lowest i
          → OneAt i
      one_at i lt p s =
          let messages : s.plan.messages ≡ changes k start i =
          ap (λ (q : Plan). q.messages) (sym (s.plan_at s.plan)) ∙ p.messages i s.plan lt in
          record {
            link = s.link;
            link' = s.link';
            failed = s.failed;
            link_at = s.link_at;
            link'_at = s.link'_at;
            delivers = subst (λ ms. Delivers accepted breaks faults ms s.failed s.link s.link') messages s.delivers;
            end = s.end ∙ ap (λ x. if s.failed then nothing else x) (p.ends i lt);
            named = s.named;
            unnamed = s.unnamed;
          }

      other : (i : ℕ) → i ≢ session → ((d : L) → get_or links1 i d ≡ get_or links i d) → OneAt i
          → ToldAt start posts' session fails links links' (earlier fails session lowest) i
      other i ne same o = record {
        link = o.link;
        link' = o.link';
        failed = o.failed;
        link_at = λ d. sym (same d) ∙ o.link_at d;
        link'_at = o.link'_at;
        delivers = subst (λ rs. Delivers accepted breaks faults (rs ++ changes k start i) o.failed o.link o.link')
            (sym (replied_other replies session i ne)) o.delivers;
        reply = λ e. absurd (ne e);
        end = o.end;
        named = λ f. named_other fails session lowest i (o.named f);
        unnamed = λ f. unnamed_other fails session lowest i ne (o.unnamed f);
      }

      -- the input's own session
      here : (before after : L) → At links session before → At links1 session after
          → Delivers accepted breaks faults replies fails before after
          → (fails ≡ true → changes k start session ≡ []) → (fails ≡ true → post posts' session ≡ nothing)
          → OneAt session
          → ToldAt start posts' session fails links links' (earlier fails session lowest) session
      here before after before_at after_at first last closed o =
          let link_is : after ≡ o.link = sym (after_at after) ∙ o.link_at after in
          let second : Delivers accepted breaks faults (changes k start session) o.failed after o.link' =
          subst (λ l. Delivers accepted breaks faults (changes k start session) o.failed l o.link') (sym link_is) o.delivers in
          let both : Both accepted breaks faults (replied replies session session) (changes k start session) fails o.failed
          before o.link' =
          both_delivered accepted breaks faults _ _ _ _ _ _ _ last
          (subst (λ rs. Delivers accepted breaks faults rs fails before after) (sym (replied_here replies session)) first)
          second in
          record {
            link = before;
            link' = o.link';
            failed = fails || o.failed;
            link_at = before_at;
            link'_at = o.link'_at;
            delivers = both.delivers;
            reply = λ _. both.first;
            end = ends fails o.failed _ _ closed o.end;
            named = named_here fails o.failed session lowest o.named;
            unnamed = unnamed_here fails o.failed session lowest o.unnamed;
          }

      pub told_at : k.may_send session Idle ≡ false → session < length start → session < length links
          → (fails ≡ true → post start session ≡ nothing)
          → Serves accepted breaks faults replies fails links links1 session
          → ArePlans k start planned plans
          → length planned ≡ length start
          → Passes accepted breaks faults plans planned posts' links1 links' lowest (length planned)
          → (i : ℕ) → i < length start
          → ToldAt start posts' session fails links links' (earlier fails session lowest) i
      told_at silent known linked shut s plans_are long p i lt =
          let one : (j : ℕ) → j < length start → OneAt j = λ j le. one_at j le plans_are (p.done j (omega (arith, le, long))) in
          let own : OneAt session = one session known in
          ⊎_elim
          (λ e. subst (λ j. ToldAt start posts' session fails links links' (earlier fails session lowest) j) (sym e)
          (here s.link s.link' s.link_at
          (λ d. ap (λ ls. get_or ls session d) s.links_are ∙ get_or-set_same links session s.link' d linked) s.delivers
          (λ f. none_told start session silent (shut f))
          (λ f. own.end ∙ either_way own.failed _ (none_settled start session silent (shut f))) own))
          (λ ne. other i ne
          (λ d. ap (λ ls. get_or ls i d) s.links_are ∙ get_or-set_other links session i s.link' d ne) (one i lt))
          (cases_eq i session)

    module _ (start posts' : List Post) (links links' : List L) (session : ℕ) (fails : Bool) where
      pub names_at : (o : Option ℕ) → length links ≡ length start
          → IfSome o (λ s. s < length start)
          → ((i : ℕ) → i < length start → ToldAt start posts' session fails links links' o i)
          → Names faults links links' o
      names_at None long low told = λ i lt link link' at at'.
          let t = told i (omega (arith, lt, long)) in
          let off : t.failed ≡ false = not_failed t.failed (λ f. let n = (t.named f).2 in cc) in
          let link_is : link ≡ t.link = sym (at t.link) ∙ t.link_at t.link in
          let link'_is : link' ≡ t.link' = sym (at' t.link') ∙ t.link'_at t.link' in
          ap faults link'_is ∙ t.delivers.took.still off ∙ sym (ap faults link_is)
      names_at (Some s) long low told = (
        omega (arith, low, long),
        λ link link' at at'.
            let t = told s low in
            let on : t.failed ≡ true = has_failed t.failed (λ f. t.unnamed f refl) in
            let link_is : link ≡ t.link = sym (at t.link) ∙ t.link_at t.link in
            let link'_is : link' ≡ t.link' = sym (at' t.link') ∙ t.link'_at t.link' in
            subst (λ l. (faults l ≤ faults link') × Rose (faults l) (faults link')) (sym link_is)
            (subst (λ l. (faults t.link ≤ faults l) × Rose (faults t.link) (faults l)) (sym link'_is)
            (t.delivers.took.rose on)),
        λ i lt link link' at at'.
            let t = told i (omega (arith, lt, low)) in
            let off : t.failed ≡ false = not_failed t.failed (λ f.
            let n = t.named f in
            let e : s ≡ n.0 = cc (n.2) in omega (arith, n.1, lt)) in
            let link_is : link ≡ t.link = sym (at t.link) ∙ t.link_at t.link in
            let link'_is : link' ≡ t.link' = sym (at' t.link') ∙ t.link'_at t.link' in
            ap faults link'_is ∙ t.delivers.took.still off ∙ sym (ap faults link_is),
      )

  module _ {L : Type 0} (accepted : L → Option (List (List ℕ))) (breaks : L → Option (List ℕ)) (faults : L → ℕ)
      (before posts' : List Post) (session : ℕ) (given : Beginning) (fails : Bool) (links links' : List L)
      (lowest : Option ℕ) where
    step_at : (i : ℕ)
        → ToldAt accepted breaks faults given.replies
        (begun before session given fails) posts' session fails links links' lowest i
        → StepAt k accepted breaks faults before posts' session given fails links links' lowest i
    step_at i t = record {
      link = t.link;
      link' = t.link';
      failed = t.failed;
      link_at = t.link_at;
      link'_at = t.link'_at;
      delivers = t.delivers;
      reply = t.reply;
      end = t.end;
      named = t.named;
      unnamed = t.unnamed;
    }

  module _ {L : Type 0} (accepted : L → Option (List (List ℕ))) (breaks : L → Option (List ℕ)) (faults : L → ℕ)
      (replies : List (List ℕ)) (posts posts' : List Post) (links links' : List L) (session : ℕ) (lowest : Option ℕ) where
    -- what every session was told, once an input was applied to its end
    pub record Told : Type 0 where
      pub fails : Bool
      pub each : (i : ℕ) → i < length posts
          → ToldAt accepted breaks faults replies (closed_if fails posts session) posts' session fails links links' lowest i
      pub low : IfSome lowest (λ s. s < length posts)
      pub kept : length posts' ≡ length posts

    -- sessions that were told so make a step of the node
    pub told_steps : (before : List Post) (given : Beginning) → HasBegun before session given replies posts → Told
        → Steps k accepted breaks faults before posts' session given links links' lowest
    told_steps before given h t =
        let long : length posts ≡ length before = ap length h.applied ∙ length-set before session _ in
        let start_is = begun_is t.fails before posts session given h.applied in
        record {
          fails = t.fails;
          each = λ i lt. step_at accepted breaks faults before posts' session given t.fails links links' lowest i
              (subst (λ rs. ToldAt accepted breaks faults rs (begun before session given t.fails) posts' session t.fails
              links links' lowest i) h.replied
              (subst (λ ps. ToldAt accepted breaks faults replies ps posts' session t.fails links links' lowest i) start_is
              (t.each i (omega (arith, lt, long)))));
          low = subst (λ n. IfSome lowest (λ s. s < n)) long t.low;
          long = t.kept ∙ long;
        }

    -- and name the lowest link that failed
    pub told_names : length links ≡ length posts → Told → Names faults links links' lowest
    told_names linked t =
        let long : length (closed_if t.fails posts session) ≡ length posts = closed_long t.fails posts session in
        names_at accepted breaks faults replies (closed_if t.fails posts session) posts' links links' session t.fails lowest
        (linked ∙ sym long)
        (subst (λ n. IfSome lowest (λ s. s < n)) (sym long) t.low)
        (λ i lt. t.each i (omega (arith, lt, long)))

    -- the replies on one session, plans of this kind of node, and their pass
    pub told_from : (other : NodeKind) (fails : Bool) (start planned : List Post) (links1 : List L) (plans passed : List Plan)
        (first : Option ℕ)
        → k.may_send session Idle ≡ false → session < length posts → length links ≡ length posts
        → Serves accepted breaks faults replies fails links links1 session
        → other ≡ k → start ≡ closed_if fails posts session → passed ≡ plans
        → ArePlans other start planned plans
        → length planned ≡ length start
        → Passes accepted breaks faults passed planned posts' links1 links' first (length planned)
        → lowest ≡ earlier fails session first
        → Told
    told_from other fails start planned links1 plans passed first silent known linked s kind_is start_is passed_is are long p
        lowest_is =
        let begin = closed_if fails posts session in
        let begin_long : length begin ≡ length posts = closed_long fails posts session in
        let planned_long : length planned ≡ length begin = long ∙ ap length start_is in
        let plans_are : ArePlans k begin planned passed =
        subst (λ ps. ArePlans k begin planned ps) (sym passed_is)
        (subst (λ ps. ArePlans k ps planned plans) start_is (subst (λ o. ArePlans o start planned plans) kind_is are)) in
        let shut : fails ≡ true → post begin session ≡ nothing =
        λ f. closed_here fails posts session known ∙ ap (λ b. if b then nothing else post posts session) f in
        record {
          fails = fails;
          each = λ i lt. subst (λ o. ToldAt accepted breaks faults replies begin posts' session fails links links' o i)
              (sym lowest_is)
              (told_at accepted breaks faults replies begin planned posts' links links1 links' session fails passed first
              silent (omega (arith, known, begin_long)) (omega (arith, known, linked)) shut s plans_are planned_long p i
              (omega (arith, lt, begin_long)));
          low = subst (λ o. IfSome o (λ t. t < length posts)) (sym lowest_is) (earlier_low fails session first (length posts) known
              (subst (λ n. IfSome first (λ t. t < n)) (planned_long ∙ begin_long) p.low));
          kept = p.posts_long ∙ planned_long ∙ begin_long;
        }
