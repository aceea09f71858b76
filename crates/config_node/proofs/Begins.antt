-- How a step of the configuration node begins.
use Rattle.std.specs.Prelude.{◌≡◌, ◌<◌, ℕ, List, [], ◌∷◌, length, IsTrue, true, false}
use Rattle.std.specs.FinMap.{empty}
use Rattle.std.specs.List.{AllByRecursion, filter_map, slice_index_or, slice_set}
use Rattle.std.specs.declared.option.Option.{Option}
use Rattle.std.specs.declared.option.Option.TheVariants.{Some, None}
use Rattle.std.proofs.Common.{refl, sym, ◌∙◌, ap, subst, set, arith}
use Rattle.std.proofs.lemmas.List.{get_or-map, set-set}
use Rattle.ov_sync.specs.Keyed.{after}
use Rattle.ov_types.specs.declared.objects.LowKey.{LowKey}
use Rattle.item_wire.specs.Happenings.{SessionFields}
use Rattle.item_wire.specs.Inputs.{may_send}
use Rattle.item_wire.specs.declared.event.ItemCause.{ItemCause}
use Rattle.item_wire.specs.declared.event.ItemFrom.{ItemFrom}
use Rattle.item_wire.specs.declared.event.ItemFrom.TheVariants as From
use Rattle.item_wire.specs.declared.event.ItemState.TheVariants as State
use Rattle.item_wire.specs.declared.item.Item.{Item}
use Rattle.config_check.specs.Checked.{Checked}
use Rattle.node_core.specs.Beginning.{phase_of}
use Rattle.node_core.specs.Hearing.{heard}
use Rattle.node_core.specs.Left.{Leaves}
use Rattle.node_core.specs.Told.{change_of}
use Rattle.node_core.proofs.States.{state_again}
use Rattle.node_core.specs.NodeModel.Step.{Opened, Post, nothing, post}
use Rattle.config_node.specs.Beginning.{controller_at, no_node, session_at, state_at}
use Rattle.config_node.specs.Ends.{AreEnds, Objects, controller, end_at, low_of, posts_of, whom_at}
use Rattle.config_node.specs.Taking.{HasHeard, HasTaken}
use Rattle.config_node.specs.declared.ends.FeedEnd.{FeedEnd}
use Rattle.config_node.proofs.Posts.{ends_long, post_at, posts_set}

-- where none may be sent, none is handed out
pub none_of : (items : List Item) → AllByRecursion (λ (i : Item). IsTrue (may_send From.Nothing i)) items → items ≡ []
none_of [] all = refl
none_of (i ∷ items) all = let no : false ≡ true = all.0 in cc

module _ (x : Checked) (wants : Objects) (changed : Option LowKey) (es : List FeedEnd)
    (are : AreEnds x wants changed es) (i : ℕ) (e : FeedEnd) (lt : i < length es) (is : e ≡ slice_index_or es i e) where
  -- whom the session of an end is with
  pub whom_is : whom_at e ≡ controller (controller_at x i)
  whom_is =
      let in_setup : i < length x.topology.controllers = omega (arith, lt, ends_long x wants changed es are) in
      ap whom_at is ∙ sym (get_or-map whom_at es i e (whom_at e) lt)
      ∙ ap (λ (ws : List (List ℕ × ItemFrom)). slice_index_or ws i (whom_at e)) are.whose
      ∙ get_or-map controller x.topology.controllers i no_node (whom_at e) in_setup

  pub here : end_at e ≡ post (posts_of es) i
  here = ap end_at is ∙ sym (post_at es i e lt)

  session_is : e.session ≡ session_at x i (post (posts_of es) i).phase
  session_is =
      let state : e.session.state ≡ state_at (post (posts_of es) i).phase =
      sym (state_again e.session.state) ∙ ap (λ (p : Post). state_at p.phase) here in
      λ j. record { peer = (whom_is j).0; from = (whom_is j).1; state = state j }

  pub greeted : (s : SessionFields) → s ≡ record e.session { state = State.Opened }
      → posts_of (set es i (record e { session = s }))
      ≡ slice_set (posts_of es) i (record (post (posts_of es) i) { phase = Opened })
  greeted s opened =
      posts_set es i (record e { session = s })
      ∙ (λ j. set (posts_of es) i
      (record { phase = phase_of (opened j).state; sent = (here j).sent; held = (here j).held; wide = (here j).wide }))

  module _ (octets left : List ℕ) (s : SessionFields) where
    pub taken_on : HasHeard e.session octets left s None
        → HasTaken x i octets left (posts_of es) (posts_of (set es i (record e { session = s }))) None
    taken_on t = record {
      inputs = t.inputs;
      leaves = subst (λ (s : SessionFields). Leaves s octets t.inputs left) session_is t.leaves;
      why = t.why ∙ ap (λ (s : SessionFields). (heard s t.inputs).cause) session_is;
      applied = posts_set es i (record e { session = s })
          ∙ (λ j. set (posts_of es) i (record {
            phase = phase_of (t.state j);
            sent = low_of e.sent;
            held = after empty (filter_map change_of (sym t.none j));
            wide = false;
          }))
          ∙ (λ j. set (posts_of es) i (record {
            phase = phase_of (heard (session_is j) t.inputs).state;
            sent = (here j).sent;
            held = after (here j).held (filter_map change_of (heard (session_is j) t.inputs).records);
            wide = (here j).wide;
          }));
    }

    pub taken_down : (cause : ItemCause) (posts' : List Post) → HasHeard e.session octets left s (Some cause)
        → posts' ≡ slice_set (posts_of (set es i (record e { session = s }))) i nothing
        → HasTaken x i octets left (posts_of es) posts' (Some cause)
    taken_down cause posts' t closed = record {
      inputs = t.inputs;
      leaves = subst (λ (s : SessionFields). Leaves s octets t.inputs left) session_is t.leaves;
      why = t.why ∙ ap (λ (s : SessionFields). (heard s t.inputs).cause) session_is;
      applied = closed
          ∙ ap (λ (ps : List Post). slice_set ps i nothing) (posts_set es i (record e { session = s }))
          ∙ set-set (posts_of es) i (end_at (record e { session = s })) nothing;
    }
