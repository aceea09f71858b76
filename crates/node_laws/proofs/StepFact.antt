-- A step, told by the ends and the links before it and after it.
use Rattle.std.specs.Prelude.{◌≡◌, ◌≢◌, ◌↔◌, ℕ, ◌+◌, ◌-◌, ◌<◌, ◌≤◌, List, [], ◌++◌, map, length, take, drop, Bool, true, false, cond, nat_lt, ◌==◌}
use Rattle.std.specs.declared.option.Option.{Option}
use Rattle.std.specs.declared.option.Option.TheVariants.{Some, None}
use Rattle.std.specs.Option.{IfSome}
use Rattle.std.specs.List.{slice_index_or}
use Rattle.std.proofs.lemmas.Bool.{true≢false, eqb-true, eq-eqb, ltb-true, lt-ltb}
use Rattle.std.proofs.lemmas.Option.{same_Some}
use Rattle.std.proofs.lemmas.List.{get_or-set_same, get_or-set_other, get_or_default, length-set, take-append-drop, length-drop, length-append, same_lists, nil_from_length}
use Rattle.std.proofs.Math.ListN.{drop_of_length-le}
use Rattle.std.proofs.Math.Seq.{take-append_seam}
use Rattle.std.proofs.Common.{refl, sym, ◌∙◌, ap, subst, arith}
use Rattle.node_model.specs.OvLink.Delivery.{Took, Delivers}
use Rattle.node_model.specs.Maps.{difference}
use Rattle.node_model.specs.Step.{Beginning, NodeKind, Post, StepAt, Steps, begun, changes, end_of, nothing, planned, post, replies, told_all}
use Rattle.node_model.proofs.Members.{none_some, iff_same}
use Rattle.node_laws.specs.Stepped.{IsPassStart, IsPlan, IsLeft, IsLowest, TakesFront, SteppedAt, Stepped}

module _ (k : NodeKind) (posts : List Post) (session : ℕ) (given : Beginning) where
  starts_of : (fails : Bool) → IsPassStart posts (begun posts session given fails) session given fails
  starts_of fails = record {
    long = length-set posts session (cond fails nothing (end_of given.after));
    others = λ i apart. get_or-set_other posts session i (cond fails nothing (end_of given.after)) nothing apart;
    input = λ h e. get_or-set_same posts session (cond fails nothing (end_of given.after)) nothing h ∙ ap (λ b. cond b nothing (end_of given.after)) e;
    closed = λ h e. get_or-set_same posts session (cond fails nothing (end_of given.after)) nothing h ∙ ap (λ b. cond b nothing (end_of given.after)) e;
  }

  plan_of : (start : List Post) (i : ℕ) → IsPlan k posts start session given i (replies session given i) (changes k start i)
  plan_of start i = record {
    here = λ e. ap (λ b. cond b given.replies []) (eq-eqb i session e);
    elsewhere = λ apart. elim (i == session) as (λ b. (i == session) ≡ b → cond b given.replies [] ≡ []) [
      | true ↦ λ e. absurd (apart (eqb-true i session e))
      | false ↦ λ _. refl
    ] refl;
    told = λ e. ap (λ b. cond b (map (k.spelled i) (difference (post start i).sent (k.wanted start i))) []) e;
    silent = λ e. ap (λ b. cond b (map (k.spelled i) (difference (post start i).sent (k.wanted start i))) []) e;
  }

  left_of : (start : List Post) (i : ℕ) (failed : Bool) (p : Post) → p ≡ cond failed nothing (told_all k start i) → IsLeft k start i failed p
  left_of start i failed p e = record {
    closed = λ f. e ∙ ap (λ b. cond b nothing (told_all k start i)) f;
    phase = λ f. ap (λ (x : Post). x.phase) (open_end f) ∙ elim (k.may_send i (post start i).phase) as (λ b. (cond b (record (post start i) { sent = k.wanted start i }) (post start i)).phase ≡ (post start i).phase) [ true ↦ refl | false ↦ refl ];
    held = λ f. ap (λ (x : Post). x.held) (open_end f) ∙ elim (k.may_send i (post start i).phase) as (λ b. (cond b (record (post start i) { sent = k.wanted start i }) (post start i)).held ≡ (post start i).held) [ true ↦ refl | false ↦ refl ];
    wide = λ f. ap (λ (x : Post). x.wide) (open_end f) ∙ elim (k.may_send i (post start i).phase) as (λ b. (cond b (record (post start i) { sent = k.wanted start i }) (post start i)).wide ≡ (post start i).wide) [ true ↦ refl | false ↦ refl ];
    sent = λ f m. ap (λ (x : Post). x.sent) (open_end f) ∙ ap (λ b. (cond b (record (post start i) { sent = k.wanted start i }) (post start i)).sent) m;
    silent = λ f m. ap (λ (x : Post). x.sent) (open_end f) ∙ ap (λ b. (cond b (record (post start i) { sent = k.wanted start i }) (post start i)).sent) m;
  }
    where
      open_end : failed ≡ false → p ≡ told_all k start i
      open_end f = e ∙ ap (λ b. cond b nothing (told_all k start i)) f

-- ---- a front of messages
not_below : (m n : ℕ) → nat_lt m n ≡ false → n ≤ m
not_below m n e = grind arith

at_least : (m n : ℕ) → n ≤ m → nat_lt m n ≡ false
at_least m n h = grind arith

no_rest : (n c : ℕ) → n - c ≡ 0 → n ≤ c
no_rest n c e = omega arith

none_left : {X : Type 0} (c : ℕ) (xs : List X) → drop c xs ≡ [] → length xs ≤ c
none_left c xs e = no_rest (length xs) c (sym (length-drop c xs) ∙ ap length e)

count_is : (c n t d : ℕ) → c ≤ n → t + d ≡ n → d ≡ n - c → t ≡ c
count_is c n t d h e f = omega arith

length_taken : {X : Type 0} (c : ℕ) (xs : List X) → c ≤ length xs → length (take c xs) ≡ c
length_taken c xs h =
    count_is c (length xs) (length (take c xs)) (length (drop c xs)) h
    (sym (length-append (take c xs) (drop c xs)) ∙ ap length (take-append-drop c xs)) (length-drop c xs)

rest_is : (f n r : ℕ) → n ≡ f + r → n ≤ f → r ≡ 0
rest_is f n r e h = omega arith

within_sum : (n f r : ℕ) → n ≡ f + r → f ≤ n
within_sum n f r e = omega arith

-- a Bool that is false exactly where another is
same_when_false : (a b : Bool) → (a ≡ false → b ≡ false) → (b ≡ false → a ≡ false) → a ≡ b
same_when_false true true f g = refl
same_when_false false b f g = sym (f refl)
same_when_false true false f g = g refl

module _ {L : Type 0} (accepted : L → Option (List (List ℕ))) (breaks : L → Option (List ℕ)) (faults : L → ℕ) where
  takes_of : (messages : List (List ℕ)) (failed : Bool) (link link' : L) (d : Delivers accepted breaks faults messages failed link link')
      → TakesFront accepted breaks faults messages (take d.count messages) failed link link'
  takes_of messages failed link link' d = record {
    rest = drop d.count messages;
    parts = sym (take-append-drop d.count messages);
    whole = (
      (λ e. drop_of_length-le messages (not_below d.count (length messages) (sym d.whole ∙ e))),
      (λ e. d.whole ∙ at_least d.count (length messages) (none_left d.count messages e)),
    );
    took = d.took;
  }

  delivers_of : (messages front : List (List ℕ)) (failed : Bool) (link link' : L) → TakesFront accepted breaks faults messages front failed link link'
      → (d : Delivers accepted breaks faults messages failed link link') × (d.count ≡ length front)
  delivers_of messages front failed link link' t =
      let total : length messages ≡ length front + length t.rest = ap length t.parts ∙ length-append front t.rest in (
        record {
          count = length front;
          within = within_sum (length messages) (length front) (length t.rest) total;
          whole = same_when_false failed (nat_lt (length front) (length messages))
              (λ e. at_least (length front) (length messages) (all_taken (length front) (length messages) (length t.rest) total (ap length (t.whole.0 e))))
              (λ e. t.whole.1 (nil_from_length t.rest (rest_is (length front) (length messages) (length t.rest) total (not_below (length front) (length messages) e))));
          took = subst (λ (f : List (List ℕ)). Took accepted breaks faults f failed link link') (sym (ap (take (length front)) t.parts ∙ take-append_seam front t.rest)) t.took;
        },
        refl,
      )
    where
      all_taken : (f n r : ℕ) → n ≡ f + r → r ≡ 0 → n ≤ f
      all_taken f n r e z = omega arith

  module _ (k : NodeKind) (posts posts' : List Post) (session : ℕ) (given : Beginning) (links links' : List L) (lowest : Option ℕ) where
    abbrev Each : Bool → Type 0
    Each fails = (i : ℕ) → i < length posts → StepAt k accepted breaks faults posts posts' session given fails links links' lowest i

    -- whether the link of a session failed
    failed_when : (fails : Bool) → Each fails → (i : ℕ) (b : Bool) → nat_lt i (length posts) ≡ b → Bool
    failed_when fails each i true e = (each i (ltb-true i (length posts) e)).failed
    failed_when fails each i false e = false

    failed_at : (fails : Bool) → Each fails → ℕ → Bool
    failed_at fails each i = failed_when fails each i (nat_lt i (length posts)) refl

    -- a session with its step
    record Found (fails failed : Bool) (i : ℕ) : Type 0 where
      at : StepAt k accepted breaks faults posts posts' session given fails links links' lowest i
      is : failed ≡ at.failed

    found_when : (fails : Bool) (each : Each fails) (i : ℕ) (b : Bool) (e : nat_lt i (length posts) ≡ b) → b ≡ true → Found fails (failed_when fails each i b e) i
    unfolding failed_when
    found_when fails each i true e t = record { at = each i (ltb-true i (length posts) e); is = refl }
    found_when fails each i false e t = absurd (true≢false (sym t))

    found_at : (fails : Bool) (each : Each fails) (i : ℕ) → i < length posts → Found fails (failed_at fails each i) i
    unfolding failed_at
    found_at fails each i h = found_when fails each i (nat_lt i (length posts)) refl (lt-ltb i (length posts) h)

    stepped_at : (fails failed : Bool) (i : ℕ) → Found fails failed i → SteppedAt accepted breaks faults k posts (begun posts session given fails) posts' session given fails failed links links' i
    stepped_at fails failed i f =
        let s = f.at in
        let start : List Post = begun posts session given fails in
        let plan : List (List ℕ) = planned k posts session given fails i in
        subst (λ b. SteppedAt accepted breaks faults k posts start posts' session given fails b links links' i) (sym f.is) (record {
          link = s.link;
          link' = s.link';
          link_at = s.link_at;
          link'_at = s.link'_at;
          replies = replies session given i;
          changes = changes k start i;
          front = take s.delivers.count plan;
          plan = plan_of k posts session given start i;
          takes = takes_of plan s.failed s.link s.link' s.delivers;
          reply = λ e. (
            (λ t. subst (λ n. n < length (replies session given i)) (sym (length_taken s.delivers.count plan s.delivers.within)) (ltb-true s.delivers.count (length (replies session given i)) (sym (s.reply e) ∙ t))),
            (λ h. s.reply e ∙ lt-ltb s.delivers.count (length (replies session given i)) (subst (λ n. n < length (replies session given i)) (length_taken s.delivers.count plan s.delivers.within) h)),
          );
          left = left_of k posts session given start i s.failed (post posts' i) s.end;
        })

    -- which session is named
    below_it : (i s t n : ℕ) → i < s → s < n → i < n
    below_it i s t n h g = omega arith

    too_low : (t i s : ℕ) → t ≤ i → i < s → t ≡ s → ⊥
    too_low t i s h g e = omega arith

    not_false : (b : Bool) → (b ≡ false → ⊥) → b ≡ true
    not_false true f = refl
    not_false false f = absurd (f refl)

    not_true : (b : Bool) → (b ≡ true → ⊥) → b ≡ false
    not_true true f = absurd (f refl)
    not_true false f = refl

    if_some : (s : ℕ) (o : Option ℕ) → o ≡ Some s → IfSome o (λ s. s < length posts) → s < length posts
    if_some s o e h = subst (λ o. IfSome o (λ s. s < length posts)) e h

    lowest_of : (fails : Bool) (each : Each fails) → IfSome lowest (λ s. s < length posts) → IsLowest (length posts) (failed_at fails each) lowest
    lowest_of fails each low = record {
      named = λ s e.
          let here : s < length posts = if_some s lowest e low in
          let f = found_at fails each s here in (
            here,
            not_false (failed_at fails each s) (λ g. f.at.unnamed (sym f.is ∙ g) e),
            (λ i under. not_true (failed_at fails each i) (λ g.
                let o = found_at fails each i (below_it i s s (length posts) under here) in
                let q = o.at.named (sym o.is ∙ g) in
                too_low q.0 i s q.1 under (same_Some q.0 s (sym q.2 ∙ e)))),
          );
      none = (
        (λ e i h. not_true (failed_at fails each i) (λ g.
            let o = found_at fails each i h in
            let q = o.at.named (sym o.is ∙ g) in
            none_some q.0 (sym e ∙ q.2))),
        (λ all. none_when lowest refl low all),
      );
    }
      where
        none_when : (o : Option ℕ) → lowest ≡ o → IfSome o (λ s. s < length posts) → ((i : ℕ) → i < length posts → failed_at fails each i ≡ false) → o ≡ None
        none_when None e low all = refl
        none_when (Some s) e low all =
            let f = found_at fails each s low in
            absurd (f.at.unnamed (sym f.is ∙ all s low) e)

    stepped : Steps k accepted breaks faults posts posts' session given links links' lowest → Stepped accepted breaks faults k posts posts' session given links links' lowest
    stepped st = record {
      start = begun posts session given st.fails;
      reply_failed = st.fails;
      failed = failed_at st.fails st.each;
      starts = starts_of k posts session given st.fails;
      each = λ i h. stepped_at st.fails (failed_at st.fails st.each i) i (found_at st.fails st.each i h);
      lowest_is = lowest_of st.fails st.each st.low;
      long = st.long;
    }

    -- ---- and back
    replies_are : (start : List Post) (i : ℕ) (rs cs : List (List ℕ)) → IsPlan k posts start session given i rs cs → rs ≡ replies session given i
    replies_are start i rs cs p = elim (i == session) as (λ b. (i == session) ≡ b → rs ≡ cond b given.replies []) [
      | true ↦ λ e. p.here (eqb-true i session e)
      | false ↦ λ e. p.elsewhere (λ same. true≢false (sym (eq-eqb i session same) ∙ e))
    ] refl

    changes_are : (start : List Post) (i : ℕ) (rs cs : List (List ℕ)) → IsPlan k posts start session given i rs cs → cs ≡ changes k start i
    changes_are start i rs cs p = elim (k.may_send i (post start i).phase) as (λ b. k.may_send i (post start i).phase ≡ b → cs ≡ cond b (map (k.spelled i) (difference (post start i).sent (k.wanted start i))) []) [
      | true ↦ λ e. p.told e
      | false ↦ λ e. p.silent e
    ] refl

    end_is : (start : List Post) (i : ℕ) (failed : Bool) (p : Post) → IsLeft k start i failed p → p ≡ cond failed nothing (told_all k start i)
    end_is start i true p l = l.closed refl
    end_is start i false p l = elim (k.may_send i (post start i).phase) as (λ b. k.may_send i (post start i).phase ≡ b → p ≡ cond b (record (post start i) { sent = k.wanted start i }) (post start i)) [
      | true ↦ λ e. (λ x. record { phase = l.phase refl x; sent = l.sent refl e x; held = l.held refl x; wide = l.wide refl x })
      | false ↦ λ e. (λ x. record { phase = l.phase refl x; sent = l.silent refl e x; held = l.held refl x; wide = l.wide refl x })
    ] refl

    start_is : (start : List Post) (fails : Bool) → IsPassStart posts start session given fails → start ≡ begun posts session given fails
    start_is start fails s = same_lists start (begun posts session given fails) (s.long ∙ sym (starts_of k posts session given fails).long) same_at
      where
        input_post : (h : session < length posts) (b : Bool) → fails ≡ b → post start session ≡ post (begun posts session given fails) session
        input_post h true e = s.closed h e ∙ sym ((starts_of k posts session given fails).closed h e)
        input_post h false e = s.input h e ∙ sym ((starts_of k posts session given fails).input h e)

        here : (i : ℕ) → i ≡ session → i < length posts → post start i ≡ post (begun posts session given fails) i
        here i e h = subst (λ j. post start j ≡ post (begun posts session given fails) j) (sym e) (input_post (subst (λ j. j < length posts) e h) fails refl)

        same_post : (i : ℕ) → i < length posts → post start i ≡ post (begun posts session given fails) i
        same_post i h = elim (i == session) as (λ b. (i == session) ≡ b → post start i ≡ post (begun posts session given fails) i) [
          | true ↦ λ e. here i (eqb-true i session e) h
          | false ↦ λ e. let apart : i ≢ session = λ same. true≢false (sym (eq-eqb i session same) ∙ e) in s.others i apart ∙ sym ((starts_of k posts session given fails).others i apart)
        ] refl

        same_at : (i : ℕ) (d : Post) → i < length start → slice_index_or start i d ≡ slice_index_or (begun posts session given fails) i d
        same_at i d h =
            let under : i < length posts = subst (λ n. i < n) s.long h in
            get_or_default start i d nothing h ∙ same_post i under ∙ get_or_default (begun posts session given fails) i nothing d (subst (λ n. i < n) (sym (starts_of k posts session given fails).long) under)

    step_at : (start : List Post) (fails : Bool) (failed : ℕ → Bool) → start ≡ begun posts session given fails → IsLowest (length posts) failed lowest
        → (i : ℕ) → i < length posts → SteppedAt accepted breaks faults k posts start posts' session given fails (failed i) links links' i
        → StepAt k accepted breaks faults posts posts' session given fails links links' lowest i
    step_at start fails failed is low i h s =
        let plan : s.replies ++ s.changes ≡ planned k posts session given fails i = (λ x. replies_are start i s.replies s.changes s.plan x ++ (changes_are start i s.replies s.changes s.plan ∙ ap (λ ps. changes k ps i) is) x) in
        let d = delivers_of (planned k posts session given fails i) s.front (failed i) s.link s.link' (subst (λ (m : List (List ℕ)). TakesFront accepted breaks faults m s.front (failed i) s.link s.link') plan s.takes) in
        record {
          link = s.link;
          link' = s.link';
          failed = failed i;
          link_at = s.link_at;
          link'_at = s.link'_at;
          delivers = d.0;
          reply = λ e. reply_is fails (d.0).count (length s.front) (length s.replies) (length (replies session given i)) d.1 (ap length (replies_are start i s.replies s.changes s.plan)) (s.reply e);
          end = end_is start i (failed i) (post posts' i) s.left ∙ ap (λ ps. cond (failed i) nothing (told_all k ps i)) is;
          named = λ f. named_below lowest refl f;
          unnamed = λ f e. true≢false (sym (low.named i e).1 ∙ f);
        }
      where
        reply_is : (fails : Bool) (c f r r' : ℕ) → c ≡ f → r ≡ r' → (fails ≡ true) ↔ (f < r) → fails ≡ nat_lt c r'
        reply_is fails c f r r' e g w = iff_same fails (nat_lt c r')
            (λ t. lt-ltb c r' (moved c f r r' e g (w.0 t)))
            (λ t. w.1 (moved f c r' r (sym e) (sym g) (ltb-true c r' t)))
          where
            moved : (c f r r' : ℕ) → c ≡ f → r ≡ r' → f < r → c < r'
            moved c f r r' e g h = omega arith

        named_below : (o : Option ℕ) → lowest ≡ o → failed i ≡ true → (s : ℕ) × (s ≤ i) × (lowest ≡ Some s)
        named_below None e f = absurd (true≢false (sym f ∙ low.none.0 e i h))
        named_below (Some s) e f = (s, not_above s i (λ under. true≢false (sym f ∙ (low.named s e).2 i under)), e)
          where
            not_above : (s i : ℕ) → (i < s → ⊥) → s ≤ i
            not_above s i f = grind (arith, f)

    steps : Stepped accepted breaks faults k posts posts' session given links links' lowest → Steps k accepted breaks faults posts posts' session given links links' lowest
    steps s = record {
      fails = s.reply_failed;
      each = λ i h. step_at s.start s.reply_failed s.failed (start_is s.start s.reply_failed s.starts) s.lowest_is i h (s.each i h);
      low = within lowest refl;
      long = s.long;
    }
      where
        within : (o : Option ℕ) → lowest ≡ o → IfSome o (λ s. s < length posts)
        within None e = tt
        within (Some t) e = (s.lowest_is.named t e).0

    pub step_is : Steps k accepted breaks faults posts posts' session given links links' lowest ↔ Stepped accepted breaks faults k posts posts' session given links links' lowest
    step_is = (stepped, steps)
