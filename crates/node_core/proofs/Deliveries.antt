-- Two lists of messages on one link, one after the other.
use Rattle.std.proofs.Common.{◌≡◌, ℕ, zero, suc, ◌+◌, ◌≤◌, List, [], ◌∷◌, ◌++◌, length, take, Bool, true, false, ◌||◌}
use Rattle.std.proofs.Common.{nat_lt, sym, ◌∙◌, ap, refl, subst, arith, append_assoc, zero-add, suc-add, length-append}
use Rattle.std.proofs.Common.{take_all}
use Rattle.std.proofs.lemmas.List.{append-nil}
use Rattle.std.proofs.lemmas.Bool.Decides.{nat_tests}
use Rattle.std.specs.declared.option.Option.{Option}
use Rattle.std.specs.declared.option.Option.TheVariants.{Some, None}
use Rattle.std.specs.Option.{option_map}
use Rattle.ov_types.specs.Counts.{Rose}
use Rattle.ov_link.specs.Delivery.{Counts, Delivers, Took}
use Rattle.node_core.proofs.Counting.{counts_both, counts_first}

told_both : (x y z : Option (List (List ℕ))) (us vs : List (List ℕ)) → y ≡ option_map (λ sent. sent ++ us) x
    → z ≡ option_map (λ sent. sent ++ vs) y
    → z ≡ option_map (λ sent. sent ++ (us ++ vs)) x
told_both None y z us vs h k = k ∙ ap (option_map (λ sent. sent ++ vs)) h
told_both (Some sent) y z us vs h k =
    k ∙ ap (option_map (λ sent. sent ++ vs)) h ∙ ap (λ l. Some l) (append_assoc sent us vs)

take_both : (us vs : List (List ℕ)) (k : ℕ) → take (length us + k) (us ++ vs) ≡ us ++ take k vs
take_both [] vs k = rw zero-add refl
take_both (u ∷ us) vs k = rw suc-add (ap (λ l. u ∷ l) (take_both us vs k))

take_nil : (k : ℕ) → take {A = List ℕ} k [] ≡ []
take_nil zero = refl
take_nil (suc k) = refl

at_most : (k n : ℕ) → false ≡ nat_lt k n → k ≤ n → k ≡ n
at_most k n e le = grind (arith, nat_tests)

none_left : (k : ℕ) (g : Bool) → g ≡ nat_lt k 0 → g ≡ false
none_left k g e = grind (arith, nat_tests)

not_less : (m k : ℕ) → false ≡ nat_lt (m + k) m
not_less m k = grind (arith, nat_tests)

less_more : (g : Bool) (m k n : ℕ) → g ≡ nat_lt k n → g ≡ nat_lt (m + k) (m + n)
less_more true m k n e = grind (arith, nat_tests)
less_more false m k n e = grind (arith, nat_tests)

module _ {L : Type 0} (accepted : L → Option (List (List ℕ))) (breaks : L → Option (List ℕ)) (faults : L → ℕ) where
  took_both : (us vs : List (List ℕ)) (g : Bool) (x y z : L) → Took accepted breaks faults us false x y
      → Took accepted breaks faults vs g y z
      → Took accepted breaks faults (us ++ vs) g x z
  took_both us vs g x y z p q = record {
    told = told_both _ _ _ us vs p.told q.told;
    counts = subst (λ n. Counts n g (breaks x) (breaks z)) (sym (length-append us vs))
        (counts_both (length us) (length vs) g _ _ _ p.counts q.counts);
    rose = λ e. subst (λ n. (n ≤ faults z) × Rose n (faults z)) (p.still refl) (q.rose e);
    still = λ e. q.still e ∙ p.still refl;
  }

  took_first : (us : List (List ℕ)) (x y z : L) → Took accepted breaks faults us true x y
      → Took accepted breaks faults [] false y z
      → Took accepted breaks faults us true x z
  took_first us x y z p q = record {
    told = told_both _ _ _ us [] p.told q.told ∙ ap (λ l. option_map (λ sent. sent ++ l) (accepted x)) (append-nil us);
    counts = counts_first (length us) _ _ _ p.counts q.counts;
    rose = λ e. subst (λ n. (faults x ≤ n) × Rose (faults x) n) (sym (q.still refl)) (p.rose refl);
    still = λ e. cc;
  }

  -- both, and whether the first of them failed
  pub record Both (us vs : List (List ℕ)) (f g : Bool) (x z : L) : Type 0 where
    pub delivers : Delivers accepted breaks faults (us ++ vs) (f || g) x z
    pub first : f ≡ nat_lt delivers.count (length us)

  pub both_delivered : (us vs : List (List ℕ)) (f g : Bool) (x y z : L) → (f ≡ true → vs ≡ [])
      → Delivers accepted breaks faults us f x y → Delivers accepted breaks faults vs g y z
      → Both us vs f g x z
  both_delivered us vs true g x y z last p q =
      let none : vs ≡ [] = last refl in
      let g_is : g ≡ false = none_left q.count g (q.whole ∙ ap (λ l. nat_lt q.count (length l)) none) in
      let nothing : take q.count vs ≡ [] = ap (take q.count) none ∙ take_nil q.count in
      let long : us ++ vs ≡ us = ap (λ l. us ++ l) none ∙ append-nil us in
      let second : Took accepted breaks faults [] false y z =
      subst (λ b. Took accepted breaks faults [] b y z) g_is (subst (λ l. Took accepted breaks faults l g y z) nothing q.took) in
      record {
        delivers = record {
          count = p.count;
          within = rw long p.within;
          whole = rw long p.whole;
          took = rw long (took_first (take p.count us) x y z p.took second);
        };
        first = p.whole;
      }
  both_delivered us vs false g x y z last p q =
      let all : p.count ≡ length us = at_most _ _ p.whole p.within in
      let whole : take p.count us ≡ us = take_all _ us (omega arith) in
      record {
        delivers = record {
          count = length us + q.count;
          within = omega (arith, length-append us vs, q.within);
          whole = rw length-append (less_more g (length us) q.count (length vs) q.whole);
          took = rw take_both (took_both us (take q.count vs) g x y z
              (subst (λ l. Took accepted breaks faults l false x y) whole p.took) q.took);
        };
        first = not_less (length us) q.count;
      }
