-- How a step begins at an end of a session of items.
use Rattle.std.specs.Prelude.{◌≡◌, ◌≤◌, ℕ, List, [], ◌∷◌, ◌++◌, drop, length}
use Rattle.std.specs.List.{slice_set}
use Rattle.std.specs.declared.option.Option.{Option}
use Rattle.std.specs.declared.option.Option.TheVariants.{Some, None}
use Rattle.std.proofs.Common.{refl, sym, ◌∙◌, ap, arith, subst, Bor}
use Rattle.ov_link.specs.declared.step.Input.{Input}
use Rattle.ov_link.specs.declared.step.Input.TheVariants as In
use Rattle.item_wire.specs.Happenings.{SessionFields}
use Rattle.item_wire.specs.Records.{spelling}
use Rattle.item_wire.specs.declared.event.ItemCause.{ItemCause}
use Rattle.item_wire.specs.declared.item.Item.TheVariants.{Hello}
use Rattle.node_model.specs.Step.{Beginning, Opened, Phase, Post, end_of, nothing, post}
use Rattle.node_core.specs.Begun.{HasBegun}
use Rattle.node_core.specs.Keeping.{IsBehind, left_in}
use Rattle.node_core.specs.Whole.{session_of}
use Rattle.node_core.specs.Beginning.{BeginsKeeping, left_by}
use Rattle.node_core.specs.Hearing.{heard}
use Rattle.node_core.specs.Left.{Leaves}
use Rattle.node_core.specs.Taking.{HasTaken}
use Rattle.node_core.proofs.Cutting.{leaves_few}

-- octets that come behind those that were kept are heard as all of them at once
pub behind : (me : List ℕ) (s : SessionFields) (p : Post) (kept : List ℕ) (came whole : Input) (given : Beginning)
    (cause : Option ItemCause) (left : List ℕ) → IsBehind kept came whole
    → BeginsKeeping me s p [] whole given cause left → BeginsKeeping me s p kept came given cause left
behind me s p kept (In.Bytes i bytes) (In.Bytes j whole) given cause left is b =
    (b.0, subst (λ (o : List ℕ). Leaves s o b.0 left) is.1 b.1, b.2, b.3)
behind me s p kept (In.Bytes i bytes) (In.Opened j) given cause left is b = cc
behind me s p kept (In.Bytes i bytes) (In.Closed j) given cause left is b = cc
behind me s p kept (In.Opened i) whole given cause left is b =
    subst (λ (w : Input). BeginsKeeping me s p [] w given cause left) is b
behind me s p kept (In.Closed i) whole given cause left is b =
    subst (λ (w : Input). BeginsKeeping me s p [] w given cause left) is b

-- what is left is no more than a record lacks its last octet
pub left_few : (me : List ℕ) (s : SessionFields) (p : Post) (kept : List ℕ) (came : Input) (given : Beginning)
    (cause : Option ItemCause) (left : List ℕ) → BeginsKeeping me s p kept came given cause left → length left ≤ 65539
left_few me s p kept (In.Opened i) given cause left b = rw b.1 (omega arith)
left_few me s p kept (In.Bytes i bytes) given cause left b = leaves_few s (kept ++ bytes.now) b.0 left b.1
left_few me s p kept (In.Closed i) given cause left b = rw b.1 (omega arith)

-- the node of this name begins with an input, where the session of each end in each phase is this
module _ (me : List ℕ) (fields : ℕ → Phase → SessionFields) (posts posts' : List Post) (input : Input) where
  abbrev pub BeginsBy : ℕ → Option ItemCause → List (List ℕ) → Type 0
  BeginsBy taken cause replies =
      (given : Beginning)
      × BeginsKeeping me (fields (session_of input) (post posts (session_of input)).phase) (post posts (session_of input))
      [] input given cause (left_in input taken)
      × HasBegun posts (session_of input) given replies posts'

module _ (me : List ℕ) (fields : ℕ → Phase → SessionFields) (posts posts' : List Post) (input : Input) (session : ℕ)
    (replies : List (List ℕ)) where
  pub begun_opened : input ≡ In.Opened session → replies ≡ spelling (Hello me) ∷ []
      → posts' ≡ slice_set posts session (record (post posts session) { phase = Opened })
      → BeginsBy me fields posts posts' input 0 None replies
  begun_opened is hello e =
      let given : Beginning = record {
        replies = spelling (Hello me) ∷ [];
        after = Some (record (post posts session) { phase = Opened });
      } in
      subst (λ (x : Input). BeginsBy me fields posts posts' x 0 None replies) (sym is)
      (given, ((refl, refl), refl), record { replied = hello; applied = e })

  pub begun_bytes : (bytes : Bor (List ℕ)) (taken : ℕ) (cause : Option ItemCause) → input ≡ In.Bytes session bytes
      → replies ≡ [] → HasTaken fields session bytes.now (drop taken bytes.now) posts posts' cause
      → BeginsBy me fields posts posts' input taken cause replies
  begun_bytes bytes taken cause is none t =
      let s = fields session (post posts session).phase in
      let given : Beginning = record {
        replies = [];
        after = left_by (post posts session) (heard s t.inputs) (heard s t.inputs).cause;
      } in
      subst (λ (x : Input). BeginsBy me fields posts posts' x taken cause replies) (sym is) (
        given,
        (t.inputs, t.leaves, refl, t.why),
        record {
          replied = none;
          applied = t.applied
              ∙ ap (λ (w : Option ItemCause).
              slice_set posts session (end_of (left_by (post posts session) (heard s t.inputs) w))) t.why;
        },
      )

  pub begun_closed : input ≡ In.Closed session → replies ≡ [] → posts' ≡ slice_set posts session nothing
      → BeginsBy me fields posts posts' input 0 None replies
  begun_closed is none e =
      let given : Beginning = record { replies = []; after = None } in
      subst (λ (x : Input). BeginsBy me fields posts posts' x 0 None replies) (sym is)
      (given, ((refl, refl), refl), record { replied = none; applied = e })
