-- The pass goes on by one session.
use Rattle.std.proofs.Common.{◌≡◌, ◌≢◌, ℕ, ◌+◌, ◌<◌, ◌≤◌, List, length, set, Bool, true, false, sym, ◌∙◌, ap, refl, subst}
use Rattle.std.proofs.Common.{arith, below_more, get_or-set_same, get_or-set_other, length-set}
use Rattle.std.specs.Prelude.{if◌then◌else◌}
use Rattle.std.specs.declared.option.Option.{Option}
use Rattle.std.specs.declared.option.Option.TheVariants.{Some, None}
use Rattle.std.specs.Option.{IfSome}
use Rattle.node_model.specs.Step.{At, Post, nothing, post}
use Rattle.node_core.specs.declared.ends.Plan.{Plan}
use Rattle.node_core.specs.Passing.{Passes, ServedAt, Serves, closed_if, noted}

noted_some : (lowest : Option ℕ) (i : ℕ) (failed : Bool) (s : ℕ) → lowest ≡ Some s → noted lowest i failed ≡ Some s
noted_some lowest i failed s e = ap (λ l. noted l i failed) e

not_noted : (lowest : Option ℕ) (i : ℕ) (failed : Bool) (j : ℕ) → j < i → lowest ≢ Some j
    → noted lowest i failed ≢ Some j
not_noted None i true j lt h e = let k : i ≡ j = cc in omega arith
not_noted None i false j lt h e = h e
not_noted (Some s) i failed j lt h e = h e

noted_here : (lowest : Option ℕ) (i : ℕ) → IfSome lowest (λ s. s < i)
    → (s : ℕ) × (s ≤ i) × (noted lowest i true ≡ Some s)
noted_here None i low = (i, omega arith, refl)
noted_here (Some s) i low = (s, omega (arith, low), refl)

not_noted_here : (lowest : Option ℕ) (i : ℕ) → IfSome lowest (λ s. s < i) → noted lowest i false ≢ Some i
not_noted_here None i low e = cc
not_noted_here (Some s) i low e = let k : s ≡ i = cc in omega (arith, low)

noted_low : (lowest : Option ℕ) (i : ℕ) (failed : Bool) → IfSome lowest (λ s. s < i)
    → IfSome (noted lowest i failed) (λ s. s < i + 1)
noted_low None i true low = omega arith
noted_low None i false low = low
noted_low (Some s) i failed low = omega (arith, low)

pub closed_other : (failed : Bool) (posts : List Post) (i j : ℕ) → j ≢ i → post (closed_if failed posts i) j ≡ post posts j
closed_other true posts i j ne = get_or-set_other posts i j nothing nothing ne
closed_other false posts i j ne = refl

pub closed_here : (failed : Bool) (posts : List Post) (i : ℕ) → i < length posts
    → post (closed_if failed posts i) i ≡ (if failed then nothing else post posts i)
closed_here true posts i lt = get_or-set_same posts i nothing nothing lt
closed_here false posts i lt = refl

pub closed_long : (failed : Bool) (posts : List Post) (i : ℕ) → length (closed_if failed posts i) ≡ length posts
closed_long true posts i = length-set posts i nothing
closed_long false posts i = refl

module _ {L : Type 0} (accepted : L → Option (List (List ℕ))) (breaks : L → Option (List ℕ)) (faults : L → ℕ)
    (plans : List Plan) (posts posts' : List Post) (links links' : List L) (lowest : Option ℕ) (i : ℕ) where
  stays : (failed : Bool) (link : L) (j : ℕ) → j < i
      → ServedAt accepted breaks faults plans posts posts' links links' lowest j
      → ServedAt accepted breaks faults plans posts (closed_if failed posts' i) links (set links' i link)
      (noted lowest i failed) j
  stays failed link j lt s = record {
    plan = s.plan;
    link = s.link;
    link' = s.link';
    failed = s.failed;
    plan_at = s.plan_at;
    link_at = s.link_at;
    link'_at = λ d. get_or-set_other links' i j link d (λ e. omega arith) ∙ s.link'_at d;
    delivers = s.delivers;
    end = closed_other failed posts' i j (λ e. omega arith) ∙ s.end;
    named = λ f. let n = s.named f in (n.0, n.1, noted_some lowest i failed n.0 n.2);
    unnamed = λ f. not_noted lowest i failed j lt (s.unnamed f);
  }

  more : (failed : Bool) (link' : L) → Passes accepted breaks faults plans posts posts' links links' lowest i
      → ServedAt accepted breaks faults plans posts (closed_if failed posts' i) links (set links' i link')
      (noted lowest i failed) i
      → Passes accepted breaks faults plans posts (closed_if failed posts' i) links (set links' i link')
      (noted lowest i failed) (i + 1)
  more failed link' p now = record {
    done = below_more _ _ (λ j lt. stays failed link' j lt (p.done j lt)) now;
    posts_stay = λ j le. closed_other failed posts' i j (λ e. omega arith) ∙ p.posts_stay j (omega arith);
    links_stay = λ j le d. get_or-set_other links' i j link' d (λ e. omega arith) ∙ p.links_stay j (omega arith) d;
    low = noted_low lowest i failed p.low;
    posts_long = closed_long failed posts' i ∙ p.posts_long;
    links_long = length-set links' i link' ∙ p.links_long;
  }

  pub passes_more : (plan : Plan) (failed : Bool) (links'' : List L) (posts'' : List Post)
      → Passes accepted breaks faults plans posts posts' links links' lowest i
      → i < length posts' → i < length links' → At plans i plan
      → Serves accepted breaks faults plan.messages failed links' links'' i
      → posts'' ≡ closed_if failed posts' i
      → Passes accepted breaks faults plans posts posts'' links links'' (noted lowest i failed) (i + 1)
  passes_more plan failed links'' posts'' p in_posts in_links plan_at s ends_are =
      let now : ServedAt accepted breaks faults plans posts (closed_if failed posts' i) links (set links' i s.link')
      (noted lowest i failed) i = record {
        plan = plan;
        link = s.link;
        link' = s.link';
        failed = failed;
        plan_at = plan_at;
        link_at = λ d. sym (p.links_stay i (omega arith) d) ∙ s.link_at d;
        link'_at = λ d. get_or-set_same links' i s.link' d in_links;
        delivers = s.delivers;
        end = closed_here failed posts' i in_posts ∙ ap (λ x. if failed then nothing else x) (p.posts_stay i (omega arith));
        named = λ f. rw f (noted_here lowest i p.low);
        unnamed = λ f. rw f (not_noted_here lowest i p.low);
      } in
      let done = more failed s.link' p now in
      subst (λ ps. Passes accepted breaks faults plans posts ps links links'' (noted lowest i failed) (i + 1)) (sym ends_are)
      (subst (λ ls. Passes accepted breaks faults plans posts (closed_if failed posts' i) links ls (noted lowest i failed) (i + 1))
      (sym s.links_are) done)
