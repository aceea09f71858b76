-- When a chain has an expansion that a use can have.
use Rattle.std.proofs.Common.{◌≡◌, ℕ, zero, suc, ◌+◌, ◌<◌, ◌≤◌, ◌≢◌, ◌↔◌, inl, inr, ◌&&◌, ◌||◌, Bool, true, false, cond, List, [], ◌∷◌, ◌++◌, length, get_or, eq-eqb, ltb, Option, Some, None, option_map, Err, refl, sym, ap, ◌∙◌, arith, subst, append_assoc, length-append}
use Rattle.std.specs.List.{find, AllPairs}
use Rattle.std.specs.Result.{IsOk}
use Rattle.std.specs.Cmp.Lexicographic.{same_text}
use Rattle.std.proofs.lemmas.Bool.{and_parts, lt-ltb, le-ltb, cases_lt, ne_eqb, or_cases}
use Rattle.std.proofs.lemmas.List.{get_or_append_left}
use Rattle.config_types.specs.declared.config.Chain.{Chain}
use Rattle.config_types.specs.declared.config.Config.{Config}
use Rattle.config_types.specs.declared.config.Service.{Service}
use Rattle.ov_types.specs.First.{same_name, meeting_after, first_meeting, ◌<|>◌}
use Rattle.chain_expand.specs.Expansion.{leads, loops, loop_of, same_number, expansion, expansion_of, numbers_or_twice, unless_loop}
use Rattle.chain_expand.specs.declared.fault.ChainFault.TheVariants.{TooLong}
use Rattle.chain_expand.specs.Links.{place_of}
use Rattle.chain_expand.specs.Leading.{Leads, IsAlong, IsLoopFree}
use Rattle.chain_expand.proofs.Reached.{named_at, no_chain, leads_none}
use Rattle.chain_expand.proofs.LeadsLaws.{leads_from_Leads, Leads-from_leads}
use Rattle.ov_types.proofs.FirstLemmas.{same_name_self}

find_none : {X : Type 0} (p : X → Bool) (xs : List X) → find p xs ≡ None → (i : ℕ) (d : X) → i < length xs → p (get_or xs i d) ≡ false
find_none p [] e i d lt = absurd (omega (arith, lt))
find_none {X = X} p (x ∷ xs) e i d lt = by (p x) refl i lt (find_none p xs)
  where
    by : (b : Bool) → p x ≡ b → (i : ℕ) → i < suc (length xs) → (find p xs ≡ None → (i : ℕ) (d : X) → i < length xs → p (get_or xs i d) ≡ false) → p (get_or (x ∷ xs) i d) ≡ false
    by true e' i lt later = let never : Some x ≡ None = ap (λ b. cond b (Some x) (find p xs)) (sym e') ∙ e in absurd cc
    by false e' zero lt later = e'
    by false e' (suc i) lt later = later (ap (λ b. cond b (Some x) (find p xs)) (sym e') ∙ e) i d (omega (arith, lt))

none_found : {X : Type 0} (p : X → Bool) (xs : List X) → ((i : ℕ) (d : X) → i < length xs → p (get_or xs i d) ≡ false) → find p xs ≡ None
none_found p [] h = refl
none_found p (x ∷ xs) h =
    ap (λ b. cond b (Some x) (find p xs)) (h 0 x (omega arith))
    ∙ none_found p xs (λ i d lt. h (suc i) d (omega (arith, lt)))

found_passes : {X : Type 0} (p : X → Bool) (xs : List X) (x : X) → find p xs ≡ Some x → p x ≡ true
found_passes p [] x e = let never : None ≡ Some x = e in absurd cc
found_passes p (y ∷ xs) x e = by (p y) refl (found_passes p xs x)
  where
    by : (b : Bool) → p y ≡ b → (find p xs ≡ Some x → p x ≡ true) → p x ≡ true
    by true e' later = let one : Some y ≡ Some x = ap (λ b. cond b (Some y) (find p xs)) (sym e') ∙ e in let same : y ≡ x = cc in ap p (sym same) ∙ e'
    by false e' later = later (ap (λ b. cond b (Some y) (find p xs)) (sym e') ∙ e)

-- no loop of a chain is found where no chain on the way loops
pub loop_free : (c : Config) (name : List ℕ) → loop_of c name ≡ None → IsLoopFree c name
loop_free c name e = λ chain along loop. at chain along loop (place_of c chain) refl
  where
    test : Chain → Bool
    test d = (same_name d.name name || leads c name d.name) && loops c d.name

    passes : (chain : List ℕ) → IsAlong c name chain → Leads c chain chain → ((same_name chain name || leads c name chain) && loops c chain) ≡ true
    passes chain (inl same) loop =
        ap (λ b. (b || leads c name chain) && loops c chain) (ap (λ n. same_name n name) same ∙ same_name_self name)
        ∙ leads_from_Leads c chain chain loop
    passes chain (inr way) loop = by (same_name chain name)
      where
        by : (b : Bool) → ((b || leads c name chain) && loops c chain) ≡ true
        by true = leads_from_Leads c chain chain loop
        by false = ap (λ b. b && loops c chain) (leads_from_Leads c name chain way) ∙ leads_from_Leads c chain chain loop

    at : (chain : List ℕ) → IsAlong c name chain → Leads c chain chain → (o : Option ℕ) → place_of c chain ≡ o → ⊥
    at chain along loop None none = let never : true ≡ false = sym (leads_from_Leads c chain chain loop) ∙ leads_none (length c.chains) c chain chain none in absurd cc
    at chain along loop (Some k) place =
        let named = named_at c chain k place in
        let fails = find_none (λ d. (same_name d.name name || leads c name d.name) && loops c d.name) c.chains e k no_chain named.0 in
        let fails_here : ((same_name chain name || leads c name chain) && loops c chain) ≡ false = subst (λ (n : List ℕ). ((same_name n name || leads c name n) && loops c n) ≡ false) named.1 fails in
        let never : true ≡ false = sym (passes chain along loop) ∙ fails_here in
        absurd cc

no_loop_found : (c : Config) (name : List ℕ) → IsLoopFree c name → loop_of c name ≡ None
no_loop_found c name free = by (loop_of c name) refl
  where
    by : (o : Option Chain) → loop_of c name ≡ o → loop_of c name ≡ None
    by None e = e
    by (Some d) e =
        let passes = found_passes (λ x. (same_name x.name name || leads c name x.name) && loops c x.name) c.chains d e in
        let parts = and_parts (same_name d.name name || leads c name d.name) (loops c d.name) passes in
        let loop = Leads-from_leads c d.name d.name parts.1 in
        elim (or_cases (same_name d.name name) (leads c name d.name) parts.0) [
          | inl same ↦ absurd (free d.name (inl (same_text d.name name (sym same))) loop)
          | inr way ↦ absurd (free d.name (inr (Leads-from_leads c name d.name way)) loop)
        ]

-- no item meets one before it
nothing_before : {A : Type 0} (meets : A → A → Bool) (x : A) (before : List A) (other : Option (A × A)) → (option_map (λ b. (b, x)) (find (λ b. meets b x) before) <|> other) ≡ None → (find (λ b. meets b x) before ≡ None) × (other ≡ None)
nothing_before {A = A} meets x before other e = by (find (λ b. meets b x) before) refl
  where
    by : (o : Option A) → find (λ b. meets b x) before ≡ o → (find (λ b. meets b x) before ≡ None) × (other ≡ None)
    by None e' = (e', ap (λ o. option_map (λ b. (b, x)) o <|> other) (sym e') ∙ e)
    by (Some b) e' = let found : Option (A × A) = Some (b, x) in let never : found ≡ None = ap (λ o. option_map (λ b. (b, x)) o <|> other) (sym e') ∙ e in absurd cc

none_meet : {A : Type 0} (meets : A → A → Bool) (before xs : List A) → meeting_after meets before xs ≡ None → (k i : ℕ) (d : A) → k < length xs → i < length before + k → meets (get_or (before ++ xs) i d) (get_or xs k d) ≡ false
none_meet meets before [] e k i d lt lt' = absurd (omega (arith, lt))
none_meet meets before (x ∷ xs) e zero i d lt lt' =
    let parts = nothing_before meets x before (meeting_after meets (before ++ x ∷ []) xs) e in
    let within : i < length before = omega (arith, lt') in
    ap (λ y. meets y x) (get_or_append_left before (x ∷ xs) d i within)
    ∙ find_none (λ b. meets b x) before parts.0 i d within
none_meet meets before (x ∷ xs) e (suc k) i d lt lt' =
    let parts = nothing_before meets x before (meeting_after meets (before ++ x ∷ []) xs) e in
    let within : i < length (before ++ x ∷ []) + k = omega (arith, lt', length-append before (x ∷ [])) in
    ap (λ ys. meets (get_or ys i d) (get_or xs k d)) (sym (append_assoc before (x ∷ []) xs))
    ∙ none_meet meets (before ++ x ∷ []) xs parts.1 k i d (omega (arith, lt)) within

meet_none : {A : Type 0} (meets : A → A → Bool) (before xs : List A) → ((k i : ℕ) (d : A) → k < length xs → i < length before + k → meets (get_or (before ++ xs) i d) (get_or xs k d) ≡ false) → meeting_after meets before xs ≡ None
meet_none meets before [] h = refl
meet_none meets before (x ∷ xs) h =
    let here : find (λ b. meets b x) before ≡ None =
    none_found (λ b. meets b x) before (λ i d lt. ap (λ y. meets y x) (sym (get_or_append_left before (x ∷ xs) d i lt)) ∙ h 0 i d (omega arith) (omega (arith, lt)))
    in
    ap (λ o. option_map (λ b. (b, x)) o <|> meeting_after meets (before ++ x ∷ []) xs) here
    ∙ meet_none meets (before ++ x ∷ []) xs
    (λ k i d lt lt'.
    ap (λ ys. meets (get_or ys i d) (get_or xs k d)) (append_assoc before (x ∷ []) xs)
    ∙ h (suc k) i d (omega (arith, lt)) (omega (arith, lt', length-append before (x ∷ []))))

-- no service stands twice
abbrev Differ : List Service → Type 0
Differ services = AllPairs (λ a b. a.id.0 ≢ b.id.0) services

differ : (services : List Service) → first_meeting same_number services ≡ None → Differ services
differ services e = λ i j d lt lt' same.
    let fails = none_meet same_number [] services e j i d lt' (omega (arith, lt)) in
    let never : true ≡ false = sym (eq-eqb _ _ same) ∙ fails in
    absurd cc

no_twice : (services : List Service) → Differ services → first_meeting same_number services ≡ None
no_twice services apart =
    meet_none same_number [] services (λ k i d lt lt'. ne_eqb _ _ (apart i k d (omega (arith, lt')) lt))

twice_fails : (name : List ℕ) (services : List Service) (pair : Service × Service) (b : Bool) → IsOk (cond b (Err (TooLong name)) (numbers_or_twice name services (Some pair))) → ⊥
twice_fails name services pair true ok = let never : false ≡ true = ok in absurd cc
twice_fails name services pair false ok = let never : false ≡ true = ok in absurd cc

-- the three causes
ok_parts : (c : Config) (name : List ℕ) (loop : Option Chain) (services : List Service) (twice : Option (Service × Service)) → IsOk (unless_loop loop (cond (ltb 15 (length services)) (Err (TooLong name)) (numbers_or_twice name services twice))) → (loop ≡ None) × (length services ≤ 15) × (twice ≡ None)
ok_parts c name (Some d) services twice ok = let never : false ≡ true = ok in absurd cc
ok_parts c name None services (Some pair) ok = absurd (twice_fails name services pair (ltb 15 (length services)) ok)
ok_parts c name None services None ok =
    elim (cases_lt 15 (length services)) [
      | inl long ↦ let never : false ≡ true = subst (λ (b : Bool). IsOk (cond b (Err (TooLong name)) (numbers_or_twice name services None))) (lt-ltb 15 (length services) long) ok in absurd cc
      | inr few ↦ (refl, few, refl)
    ]

pub ok_where : (c : Config) (name : List ℕ) → IsOk (expansion_of c name) ↔ (IsLoopFree c name × (length (expansion c name) ≤ 15) × AllPairs (λ a b. a.id.0 ≢ b.id.0) (expansion c name))
unfolding expansion_of
ok_where c name =
    let services : List Service = expansion c name in (
      λ ok.
          let parts = ok_parts c name (loop_of c name) services (first_meeting same_number services) ok in
          (loop_free c name parts.0, parts.1, differ services parts.2),
      λ h.
          rw (no_loop_found c name h.0, le-ltb 15 (length services) h.1, no_twice services h.2) refl,
    )
