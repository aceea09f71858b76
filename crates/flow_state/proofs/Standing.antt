-- Which flows were used last.
use Rattle.std.proofs.Common.{◌≡◌, ◌≢◌, ◌↔◌, inl, inr, ℕ, zero, suc, ◌<◌, Bool, true, false, not, cond, List, [], ◌∷◌, ◌++◌, take, length, refl, sym, ap, ◌∙◌, subst, arith}
use Rattle.std.specs.List.{AllByRecursion, Contains}
use Rattle.ov_types.proofs.FirstLemmas.{contains_here, contains_later, contains_cases}
use Rattle.flow_state.specs.declared.flow.Flow.{Flow}
use Rattle.flow_state.specs.Recent.{same_flow, without, each_once, recent}
use Rattle.flow_state.specs.Laws.{WasUsedLast}
use Rattle.flow_state.proofs.Recent.{same_flow_is}
use Rattle.flow_state.proofs.Replies.{same_flow_self}

-- a flow is not among these
abbrev Spares : Flow → List Flow → Type 0
Spares f gs = AllByRecursion (λ g. g ≢ f) gs

apart : (f g : Flow) → g ≢ f → same_flow g f ≡ false
apart f g h = elim (same_flow g f) as (λ b. same_flow g f ≡ b → b ≡ false) [ true ↦ λ e. absurd (h (same_flow_is g f e)) | false ↦ λ e. refl ] refl

-- the list of uses, split at the last use of a flow
record Split (uses : List Flow) (f : Flow) : Type 0 where
  newer : List Flow
  older : List Flow
  is : uses ≡ newer ++ f ∷ older
  spares : Spares f newer

split_at : (uses : List Flow) (f : Flow) → Contains uses f → Split uses f
split_at [] f h = absurd (omega (arith, h.1))
split_at (x ∷ xs) f h = (elim (same_flow x f) as (λ b. same_flow x f ≡ b → Split (x ∷ xs) f) [
  | true ↦ λ e. record { newer = []; older = xs; is = ap (λ (g : Flow). g ∷ xs) (same_flow_is x f e); spares = tt }
  | false ↦ λ e. elim (contains_cases x xs f h) [
    | inl same ↦ let never : true ≡ false = sym (same_flow_self f) ∙ ap (λ (g : Flow). same_flow g f) (sym same) ∙ e in absurd cc
    | inr later ↦
        let on = split_at xs f later in
        let differ : x ≢ f = λ same. let never : true ≡ false = sym (same_flow_self f) ∙ ap (λ (g : Flow). same_flow g f) (sym same) ∙ e in absurd cc in
        record { newer = x ∷ on.newer; older = on.older; is = ap (λ l. x ∷ l) on.is; spares = (differ, on.spares) }
  ]
]) refl

without_append : (k : Flow) (xs ys : List Flow) → without k (xs ++ ys) ≡ without k xs ++ without k ys
without_append k [] ys = refl
without_append k (x ∷ xs) ys = (elim (same_flow k x) as (λ b. cond (not b) (x ∷ without k (xs ++ ys)) (without k (xs ++ ys)) ≡ cond (not b) (x ∷ without k xs) (without k xs) ++ without k ys) [
  | true ↦ without_append k xs ys
  | false ↦ ap (λ l. x ∷ l) (without_append k xs ys)
])

-- each flow once: those that were used after the last use of f, then f
once_split : (f : Flow) (newer older : List Flow) → Spares f newer → (rest : List Flow) × (each_once (newer ++ f ∷ older) ≡ each_once newer ++ f ∷ rest)
unfolding each_once
once_split f [] older h = (without f (each_once older), refl)
once_split f (x ∷ xs) older h =
    let on = once_split f xs older h.1 in (
      without x on.0,
      ap (λ l. x ∷ without x l) on.1
          ∙ ap (λ l. x ∷ l) (without_append x (each_once xs) (f ∷ on.0))
          ∙ ap (λ (b : Bool). x ∷ without x (each_once xs) ++ cond (not b) (f ∷ without x on.0) (without x on.0)) (apart f x h.0),
    )

spares_without : (f k : Flow) (gs : List Flow) → Spares f gs → Spares f (without k gs)
spares_without f k [] h = tt
spares_without f k (x ∷ xs) h = (elim (same_flow k x) as (λ b. Spares f (cond (not b) (x ∷ without k xs) (without k xs))) [
  | true ↦ spares_without f k xs h.1
  | false ↦ (h.0, spares_without f k xs h.1)
])

spares_once : (f : Flow) (gs : List Flow) → Spares f gs → Spares f (each_once gs)
unfolding each_once
spares_once f [] h = tt
spares_once f (x ∷ xs) h = (h.0, spares_without f x (each_once xs) (spares_once f xs h.1))

-- what the first of a list hold of a flow that stands at one place
within : (n : ℕ) (f : Flow) (gs rest : List Flow) → length gs < n → Contains (take n (gs ++ f ∷ rest)) f
within zero f gs rest h = absurd (omega arith)
within (suc n) f [] rest h = contains_here f (take n rest)
within (suc n) f (g ∷ gs) rest h = contains_later f g (take n (gs ++ f ∷ rest)) (within n f gs rest (omega arith))

beyond : (n : ℕ) (f : Flow) (gs rest : List Flow) → Spares f gs → Contains (take n (gs ++ f ∷ rest)) f → length gs < n
beyond zero f gs rest s h = absurd (omega (arith, h.1))
beyond (suc n) f [] rest s h = omega arith
beyond (suc n) f (g ∷ gs) rest s h = elim (contains_cases g (take n (gs ++ f ∷ rest)) f h) [
  | inl same ↦ absurd (s.0 same)
  | inr later ↦ let on : length gs < n = beyond n f gs rest s.1 later in omega arith
]

in_without : (f k : Flow) (gs : List Flow) → Contains (without k gs) f → Contains gs f
in_without f k [] h = h
in_without f k (x ∷ xs) h = (elim (same_flow k x) as (λ b. Contains (cond (not b) (x ∷ without k xs) (without k xs)) f → Contains (x ∷ xs) f) [
  | true ↦ λ i. contains_later f x xs (in_without f k xs i)
  | false ↦ λ i. elim (contains_cases x (without k xs) f i) [
    | inl same ↦ subst (λ (g : Flow). Contains (x ∷ xs) g) same (contains_here x xs)
    | inr later ↦ contains_later f x xs (in_without f k xs later)
  ]
]) h

in_once : (f : Flow) (gs : List Flow) → Contains (each_once gs) f → Contains gs f
unfolding each_once
in_once f [] h = h
in_once f (x ∷ xs) h = elim (contains_cases x (without x (each_once xs)) f h) [
  | inl same ↦ subst (λ (g : Flow). Contains (x ∷ xs) g) same (contains_here x xs)
  | inr later ↦ contains_later f x xs (in_once f xs (in_without f x (each_once xs) later))
]

in_take : (n : ℕ) (f : Flow) (gs : List Flow) → Contains (take n gs) f → Contains gs f
in_take zero f gs h = absurd (omega (arith, h.1))
in_take (suc n) f [] h = h
in_take (suc n) f (x ∷ xs) h = elim (contains_cases x (take n xs) f h) [
  | inl same ↦ subst (λ (g : Flow). Contains (x ∷ xs) g) same (contains_here x xs)
  | inr later ↦ contains_later f x xs (in_take n f xs later)
]

module _ (capacity : ℕ) (uses : List Flow) (f : Flow) where
  stood : Contains (recent capacity uses) f → WasUsedLast capacity uses f
  stood h =
      let s = split_at uses f (in_once f uses (in_take capacity f (each_once uses) h)) in
      let o = once_split f s.newer s.older s.spares in
      let at : Contains (take capacity (each_once s.newer ++ f ∷ o.0)) f =
      subst (λ (l : List Flow). Contains (take capacity l) f) (ap each_once s.is ∙ o.1) h in
      record {
        newer = s.newer;
        older = s.older;
        is = s.is;
        spares = s.spares;
        few = beyond capacity f (each_once s.newer) o.0 (spares_once f s.newer s.spares) at;
      }

  stands : WasUsedLast capacity uses f → Contains (recent capacity uses) f
  stands h =
      let o = once_split f h.newer h.older h.spares in
      subst (λ (l : List Flow). Contains (take capacity l) f) (sym (ap each_once h.is ∙ o.1)) (within capacity f (each_once h.newer) o.0 h.few)

  pub stands_iff : Contains (recent capacity uses) f ↔ WasUsedLast capacity uses f
  stands_iff = (stood, stands)
