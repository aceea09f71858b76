-- The map of entries with distinct keys, where one of them stands between others.
use Rattle.std.proofs.Common.{◌≡◌, ◌≢◌, Bool, true, false, cond, List, [], ◌∷◌, ◌++◌, Option, Some, None, inl, inr, arith, refl, sym, ap, ◌∙◌}
use Rattle.std.specs.Cmp.{IsTotalOrder, tied_itself}
use Rattle.std.specs.FinMap.{IsAntisymmetric, find, from_entries, get, get-from_entries, get-insert, get-remove, same_map}
use Rattle.std.specs.List.{All, AllPairs, Contains, cons_option}
use Rattle.std.specs.Ordering.{eq_by_cmp, is_eq}
use Rattle.std.specs.declared.cmp.Ordering.{Ordering}
use Rattle.std.specs.declared.cmp.Ordering.TheVariants.{Less, Equal, Greater}
use Rattle.std.proofs.lemmas.Bool.{true≢false}
use Rattle.std.proofs.lemmas.List.Elements.{All-contains}
use Rattle.ov_types.proofs.FirstLemmas.{all_head, all_tail, contains_cases, contains_here, contains_later, pairs_head, pairs_tail}
use Rattle.node_core.proofs.NodeModel.Members.{contains_of, entry_in, from_entry}
use Rattle.node_core.specs.NodeModel.Members.{Member}
use Rattle.config_node.specs.Ports.{with_entry, without_entry}

same_answer : {A : Type 0} (o p : Option A) → ((x : A) → o ≡ Some x → p ≡ Some x) → ((x : A) → p ≡ Some x → o ≡ Some x) → o ≡ p
same_answer None None f g = refl
same_answer None (Some x) f g = g x refl
same_answer (Some x) p f g = sym (f x refl)

-- two tests of which one passes at most
in_turn : {A : Type 0} (b c : Bool) (x y z : A) → (b ≡ true → c ≡ true → ⊥) → cond b x (cond c y z) ≡ cond c y (cond b x z)
in_turn true true x y z apart = absurd (apart refl refl)
in_turn true false x y z apart = refl
in_turn false true x y z apart = refl
in_turn false false x y z apart = refl

-- ---- keys that tie
module _ {K : Type 0} {R : K → K → Ordering} (exact : IsAntisymmetric R) where
  tied : (k j : K) → eq_by_cmp R k j ≡ true → k ≡ j
  tied k j h =
      elim (R k j) as (λ r. R k j ≡ r → is_eq r ≡ true → k ≡ j) [
        | Less ↦ λ e t. absurd (true≢false (sym t))
        | Equal ↦ λ e t. exact k j e
        | Greater ↦ λ e t. absurd (true≢false (sym t))
      ] refl h

  not_tied : (k j : K) → k ≢ j → eq_by_cmp R k j ≡ false
  not_tied k j differ =
      elim (R k j) as (λ r. R k j ≡ r → is_eq r ≡ false) [
        | Less ↦ λ e. refl
        | Equal ↦ λ e. absurd (differ (exact k j e))
        | Greater ↦ λ e. refl
      ] refl

  tied_one : IsTotalOrder R → (k j : K) → k ≡ j → eq_by_cmp R k j ≡ true
  tied_one o k j e = ap is_eq (ap (R k) (sym e) ∙ tied_itself o k)

module _ {K V : Type 0} {R : K → K → Ordering} (o : IsTotalOrder R) (exact : IsAntisymmetric R) where
  abbrev pub Differ : K × V → K × V → Type 0
  Differ d e = d.0 ≢ e.0

  -- ---- where keys differ, an entry is found at its key
  found : (es : List (K × V)) → AllPairs Differ es → (k : K) (v : V) → Contains es (k, v) → find R k es ≡ Some v
  found [] apart k v h = absurd (omega (arith, h.1))
  found (e ∷ es) apart k v h =
      elim (contains_cases e es (k, v) h) [
        | inl is ↦
            ap (λ b. cond b (Some e.1) (find R k es)) (tied_one exact o k e.0 (ap (λ (x : K × V). x.0) (sym is)))
            ∙ ap (λ (x : K × V). Some x.1) is
        | inr later ↦
            let differ : e.0 ≢ k = All-contains (Differ e) es (k, v) (pairs_head Differ e es apart) later in
            ap (λ b. cond b (Some e.1) (find R k es)) (not_tied exact k e.0 (λ same. differ (sym same)))
            ∙ found es (pairs_tail Differ e es apart) k v later
      ]

  -- the same entries in another order make the same map
  pub whatever_order : (es fs : List (K × V)) → AllPairs Differ es → ((e : K × V) → Member e fs → Member e es)
      → ((e : K × V) → Member e es → Member e fs) → from_entries {R = R} fs ≡ from_entries es
  whatever_order es fs apart into from =
      same_map o exact _ _ (λ q. same_answer (get (from_entries {R = R} fs) q) (get (from_entries {R = R} es) q) (forth q) (backward q))
    where
      forth : (q : K) (v : V) → get (from_entries {R = R} fs) q ≡ Some v → get (from_entries {R = R} es) q ≡ Some v
      forth q v h =
          get-from_entries o es q
          ∙ found es apart q v (contains_of es (q, v) (into (q, v) (from_entry o exact q v fs h)))

      backward : (q : K) (v : V) → get (from_entries {R = R} es) q ≡ Some v → get (from_entries {R = R} fs) q ≡ Some v
      backward q v h =
          let there = entry_in o (q, v) fs (from (q, v) (from_entry o exact q v es h)) in
          there.1 ∙ sym (forth q there.0 there.1) ∙ h

  -- ---- an entry between others
  there : (front back : List (K × V)) (e : K × V) → Contains (front ++ e ∷ back) e
  there [] back e = contains_here e back
  there (a ∷ front) back e = contains_later e a (front ++ e ∷ back) (there front back e)

  differs : (a : K × V) (front back : List (K × V)) (e : K × V) → AllPairs Differ (a ∷ (front ++ e ∷ back)) → a.0 ≢ e.0
  differs a front back e apart =
      All-contains (Differ a) (front ++ e ∷ back) e (pairs_head Differ a (front ++ e ∷ back) apart) (there front back e)

  found_between : (front back : List (K × V)) (e : K × V) → AllPairs Differ (front ++ e ∷ back) → (q : K)
      → find R q (front ++ e ∷ back) ≡ cond (eq_by_cmp R q e.0) (Some e.1) (find R q (front ++ back))
  found_between [] back e apart q = refl
  found_between (a ∷ front) back e apart q =
      ap (cond (eq_by_cmp R q a.0) (Some a.1)) (found_between front back e (pairs_tail Differ a (front ++ e ∷ back) apart) q)
      ∙ in_turn (eq_by_cmp R q a.0) (eq_by_cmp R q e.0) (Some a.1) (Some e.1) (find R q (front ++ back))
      (λ at_a at_e. differs a front back e apart (sym (tied exact q a.0 at_a) ∙ tied exact q e.0 at_e))

  none_found : (back : List (K × V)) (e : K × V) → All (Differ e) back → find R e.0 back ≡ None
  none_found [] e apart = refl
  none_found (b ∷ back) e apart =
      ap (λ t. cond t (Some b.1) (find R e.0 back)) (not_tied exact e.0 b.0 (all_head (Differ e) b back apart))
      ∙ none_found back e (all_tail (Differ e) b back apart)

  not_between : (front back : List (K × V)) (e : K × V) → AllPairs Differ (front ++ e ∷ back) → find R e.0 (front ++ back) ≡ None
  not_between [] back e apart = none_found back e (pairs_head Differ e back apart)
  not_between (a ∷ front) back e apart =
      ap (λ t. cond t (Some a.1) (find R e.0 (front ++ back))) (not_tied exact e.0 a.0 (λ same. differs a front back e apart (sym same)))
      ∙ not_between front back e (pairs_tail Differ a (front ++ e ∷ back) apart)

  put_between : (front back : List (K × V)) (new : Option (K × V)) → AllPairs Differ (front ++ cons_option new back)
      → from_entries {R = R} (front ++ cons_option new back) ≡ with_entry (from_entries (front ++ back)) new
  put_between front back None apart = refl
  put_between front back (Some e) apart =
      same_map o exact _ _ (λ q.
      get-from_entries o (front ++ e ∷ back) q ∙ found_between front back e apart q
      ∙ ap (cond (eq_by_cmp R q e.0) (Some e.1)) (sym (get-from_entries o (front ++ back) q))
      ∙ sym (get-insert o (from_entries (front ++ back)) e.0 e.1 q))

  left_out : (front back : List (K × V)) (old : Option (K × V)) → AllPairs Differ (front ++ cons_option old back)
      → without_entry (from_entries {R = R} (front ++ cons_option old back)) old ≡ from_entries (front ++ back)
  left_out front back None apart = refl
  left_out front back (Some e) apart =
      same_map o exact _ _ (λ q. get-remove o (from_entries {R = R} (front ++ e ∷ back)) e.0 q ∙ at q)
    where
      at : (q : K) → cond (eq_by_cmp R q e.0) None (get (from_entries {R = R} (front ++ e ∷ back)) q) ≡ get (from_entries {R = R} (front ++ back)) q
      at q =
          elim (eq_by_cmp R q e.0) as (λ b. eq_by_cmp R q e.0 ≡ b
          → cond b None (get (from_entries {R = R} (front ++ e ∷ back)) q) ≡ get (from_entries {R = R} (front ++ back)) q) [
            | true ↦ λ t. sym (
                get-from_entries o (front ++ back) q ∙ ap (λ k. find R k (front ++ back)) (tied exact q e.0 t) ∙ not_between front back e apart
                )
            | false ↦ λ t.
                get-from_entries o (front ++ e ∷ back) q ∙ found_between front back e apart q
                ∙ ap (λ b. cond b (Some e.1) (find R q (front ++ back))) t ∙ sym (get-from_entries o (front ++ back) q)
          ] refl

  -- another entry, or none, in the place of one, or of none
  pub exchanged : (front back : List (K × V)) (old new : Option (K × V)) → AllPairs Differ (front ++ cons_option old back)
      → AllPairs Differ (front ++ cons_option new back)
      → from_entries {R = R} (front ++ cons_option new back) ≡ with_entry (without_entry (from_entries (front ++ cons_option old back)) old) new
  exchanged front back old new before after =
      put_between front back new after ∙ ap (λ m. with_entry m new) (sym (left_out front back old before))
