-- The octets that are kept of sessions.
use Rattle.std.proofs.Common.{◌≡◌, ◌<◌, ◌≤◌, ◌+◌, ℕ, zero, suc, List, [], ◌∷◌, length, Bool, true, false}
use Rattle.std.proofs.Common.{refl, sym, ap, ◌∙◌, subst, set, arith, ◌⊎◌, inl, inr, below_more, get_or-set_same}
use Rattle.std.proofs.Common.{get_or-set_other, length-set}
use Rattle.std.specs.Prelude.{not, if◌then◌else◌}
use Rattle.std.specs.declared.option.Option.{Option}
use Rattle.std.specs.declared.result.Result.{Result}
use Rattle.ov_link.specs.declared.step.Input.{Input}
use Rattle.ov_link.specs.declared.step.Input.TheVariants as input
use Rattle.ov_link.specs.declared.step.Stepped.{Stepped}
use Rattle.ov_link.specs.declared.step.NodeFault.{NodeFault}
use Rattle.node_model.specs.Step.{Beginning, NodeKind, Post, is_idle, post}
use Rattle.node_core.specs.Keeping.{AreFew, AreOfLive, AreSwept, IsBehind, IsSilent, kept_at, left_in, nothing_kept}
use Rattle.node_core.specs.Resting.{nothings}
use Rattle.node_core.specs.Whole.{IsWholeStep}

-- ---- what is swept
-- the sessions below n are, and those from n on are as they were
pub record AreSweptBelow (posts : List Post) (before after : List (List ℕ)) (n : ℕ) : Type 0 where
  pub long : length after ≡ length before
  pub each : (i : ℕ) → i < n → kept_at after i ≡ (if is_idle (post posts i).phase then [] else kept_at before i)
  pub others : (i : ℕ) → n ≤ i → kept_at after i ≡ kept_at before i

pub none_swept : (posts : List Post) (kept : List (List ℕ)) → AreSweptBelow posts kept kept 0
none_swept posts kept = record { long = refl; each = λ i lt. absurd (omega (arith, lt)); others = λ i le. refl }

chosen : (idle live : Bool) (octets : List ℕ) → live ≡ not idle
    → (if live then octets else []) ≡ (if idle then [] else octets)
chosen true live octets is = ap (λ (b : Bool). if b then octets else []) is
chosen false live octets is = ap (λ (b : Bool). if b then octets else []) is

pub swept_more : (posts : List Post) (before now : List (List ℕ)) (i : ℕ) (live : Bool) (octets : List ℕ)
    → i < length now → live ≡ not (is_idle (post posts i).phase) → octets ≡ (if live then kept_at now i else [])
    → AreSweptBelow posts before now i → AreSweptBelow posts before (set now i octets) (i + 1)
swept_more posts before now i live octets lt is set_to s = record {
  long = length-set now i octets ∙ s.long;
  each = below_more _ i
      (λ j below. get_or-set_other now i j octets [] (λ e. omega (arith, below, e)) ∙ s.each j below)
      (get_or-set_same now i octets [] lt ∙ set_to
      ∙ ap (λ (o : List ℕ). if live then o else []) (s.others i (omega arith))
      ∙ chosen (is_idle (post posts i).phase) live (kept_at before i) is);
  others = λ j le. get_or-set_other now i j octets [] (λ e. omega (arith, le, e)) ∙ s.others j (omega (arith, le));
}

pub swept_all : (posts : List Post) (before after : List (List ℕ)) (n : ℕ) → length before ≤ n
    → AreSweptBelow posts before after n → AreSwept posts before after
swept_all posts before after n le s = record { long = s.long; each = λ i lt. s.each i (omega (arith, le, lt)) }

-- ---- few octets
if_few : (idle : Bool) (octets : List ℕ) → length octets ≤ 65539 → length (if idle then [] else octets) ≤ 65539
if_few true octets few = omega arith
if_few false octets few = few

past_all : (kept : List (List ℕ)) (i : ℕ) → length kept ≤ i → kept_at kept i ≡ []
past_all [] i le = refl
past_all (x ∷ kept) zero le = absurd (omega (arith, le))
past_all (x ∷ kept) (suc i) le = past_all kept i (omega (arith, le))

within_or_past : (i n : ℕ) → (i < n) ⊎ (n ≤ i)
within_or_past i n = search arith

pub swept_few : (posts : List Post) (before after : List (List ℕ)) → AreSwept posts before after → AreFew before
    → AreFew after
swept_few posts before after s few = λ i.
    elim (within_or_past i (length before)) [
      | inl lt ↦ subst (λ (o : List ℕ). length o ≤ 65539) (sym (s.each i lt))
          (if_few (is_idle (post posts i).phase) (kept_at before i) (few i))
      | inr le ↦ subst (λ (o : List ℕ). length o ≤ 65539) (sym (past_all after i (omega (arith, le, s.long)))) (omega arith)
    ]

pub swept_live : (posts : List Post) (before after : List (List ℕ)) → AreSwept posts before after → AreOfLive posts after
swept_live posts before after s = λ i idle.
    elim (within_or_past i (length before)) [
      | inl lt ↦ s.each i lt ∙ ap (λ (b : Bool). if b then [] else kept_at before i) idle
      | inr le ↦ past_all after i (omega (arith, le, s.long))
    ]

pub set_few : (kept : List (List ℕ)) (session : ℕ) (octets : List ℕ) → AreFew kept → length octets ≤ 65539
    → AreFew (set kept session octets)
set_few [] session octets few short = few
set_few (x ∷ kept) zero octets few short = λ i. elim i as (λ i. length (kept_at (octets ∷ kept) i) ≤ 65539) [
  | zero ↦ short
  | suc j ↦ few (suc j)
]
set_few (x ∷ kept) (suc session) octets few short = λ i.
    elim i as (λ i. length (kept_at (x ∷ set kept session octets) i) ≤ 65539) [
      | zero ↦ few zero
      | suc j ↦ set_few kept session octets (λ i. few (suc i)) short j
    ]

-- ---- nothing is kept where all ends are closed
all_empty : (kept : List (List ℕ)) → ((i : ℕ) → i < length kept → kept_at kept i ≡ []) → kept ≡ nothing_kept (length kept)
all_empty [] h = refl
all_empty (x ∷ kept) h =
    ap (λ (y : List ℕ). y ∷ kept) (h 0 (omega arith))
    ∙ ap (λ (ys : List (List ℕ)). [] ∷ ys) (all_empty kept (λ i lt. h (suc i) (omega (arith, lt))))

pub nothings_long : (n : ℕ) → length (nothings n) ≡ n
nothings_long zero = refl
nothings_long (suc n) = ap suc (nothings_long n)

all_idle : (n i : ℕ) → is_idle (post (nothings n) i).phase ≡ true
all_idle zero i = refl
all_idle (suc n) zero = refl
all_idle (suc n) (suc i) = all_idle n i

pub nothing_left : (n : ℕ) (posts : List Post) (before after : List (List ℕ)) → posts ≡ nothings n
    → length before ≡ n → AreSwept posts before after → after ≡ nothing_kept n
nothing_left n posts before after closed long s =
    all_empty after (λ i lt.
    s.each i (omega (arith, lt, s.long))
    ∙ ap (λ (ps : List Post). if is_idle (post ps i).phase then [] else kept_at before i) closed
    ∙ ap (λ (b : Bool). if b then [] else kept_at before i) (all_idle n i))
    ∙ ap nothing_kept (s.long ∙ long)

none_at : (n i : ℕ) → kept_at (nothing_kept n) i ≡ []
none_at zero i = refl
none_at (suc n) zero = refl
none_at (suc n) (suc i) = none_at n i

pub none_live : (posts : List Post) (n : ℕ) → AreOfLive posts (nothing_kept n)
none_live posts n = λ i idle. none_at n i

pub none_few : (n : ℕ) → AreFew (nothing_kept n)
none_few n = λ i. subst (λ (o : List ℕ). length o ≤ 65539) (sym (none_at n i)) (omega arith)

-- ---- an input that brings no octets
pub none_in : (came : Input) (taken : ℕ) → IsSilent came → left_in came taken ≡ []
none_in (input.Opened session) taken h = refl
none_in (input.Bytes session bytes) taken h = absurd h
none_in (input.Closed session) taken h = refl

pub behind_itself : (kept : List ℕ) (came : Input) → IsSilent came → IsBehind kept came came
behind_itself kept (input.Opened session) h = refl
behind_itself kept (input.Bytes session bytes) h = absurd h
behind_itself kept (input.Closed session) h = refl

-- ---- a step that begins so begins so too
module _ {L C : Type 0} (accepted : L → Option (List (List ℕ))) (breaks : L → Option (List ℕ)) (faults : L → ℕ)
    (k : NodeKind) (Begins Also : Beginning → Option C → Type 0) (posts after : List Post) (session : ℕ) (links left : List L)
    (result : Result (Stepped C) NodeFault) where
  pub begins_also : ((given : Beginning) (cause : Option C) → Begins given cause → Also given cause)
      → IsWholeStep accepted breaks faults k Begins posts after session links left result
      → IsWholeStep accepted breaks faults k Also posts after session links left result
  begins_also also w = record {
    given = w.given;
    cause = w.cause;
    begins = also w.given w.cause w.begins;
    steps = w.steps;
    names = w.names;
    answers = w.answers;
  }
