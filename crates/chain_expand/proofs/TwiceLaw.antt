-- What the fault of a chain with a service twice names.
use Rattle.std.proofs.Common.{◌≡◌, ℕ, suc, ◌<◌, Bool, true, false, cond, ltb, List, [], ◌∷◌, ◌++◌, length, Option, Some, None, option_map, Err, refl, sym, ap, ◌∙◌, subst, arith, append_assoc, eqb-true}
use Rattle.std.specs.List.{find, Contains}
use Rattle.config_types.specs.declared.config.Chain.{Chain}
use Rattle.config_types.specs.declared.config.Service.{Service}
use Rattle.ov_types.specs.First.{meeting_after, first_meeting, ◌<|>◌}
use Rattle.chain_expand.specs.declared.fault.ChainFault.TheVariants.{TooLong, Twice}
use Rattle.chain_expand.specs.Expansion.{same_number, loop_of, expansion, expansion_of, numbers_or_twice, unless_loop}
use Rattle.chain_expand.specs.Laws.{TwiceNamesTheService}

found_in : {X : Type 0} (p : X → Bool) (xs : List X) (x : X) → find p xs ≡ Some x → Contains xs x × (p x ≡ true)
found_in p [] x e = let never : None ≡ Some x = e in absurd cc
found_in {X = X} p (y ∷ xs) x e = by (p y) refl (found_in p xs x)
  where
    by : (b : Bool) → p y ≡ b → (find p xs ≡ Some x → Contains xs x × (p x ≡ true)) → Contains (y ∷ xs) x × (p x ≡ true)
    by true e' later =
        let one : Some y ≡ Some x = ap (λ b. cond b (Some y) (find p xs)) (sym e') ∙ e in
        let same : y ≡ x = cc in
        ((0, omega arith, same), ap p (sym same) ∙ e')
    by false e' later =
        let rest = later (ap (λ b. cond b (Some y) (find p xs)) (sym e') ∙ e) in
        let lt = rest.0.1 in
        ((suc rest.0.0, omega (arith, lt), rest.0.2), rest.1)

-- the later of the first two that meet stands after the earlier
record Again {A : Type 0} (meets : A → A → Bool) (xs : List A) (earlier later : A) : Type 0 where
  front : List A
  rest : List A
  stands : xs ≡ front ++ later ∷ rest
  is_before : Contains front earlier
  they_meet : meets earlier later ≡ true

again_after : {A : Type 0} (meets : A → A → Bool) (before xs : List A) (m : A × A) → meeting_after meets before xs ≡ Some m → Again meets (before ++ xs) m.0 m.1
again_after meets before [] m e = let never : None ≡ Some m = e in absurd cc
again_after {A = A} meets before (x ∷ xs) m e = by (find (λ b. meets b x) before) refl (again_after meets (before ++ x ∷ []) xs m)
  where
    by : (o : Option A) → find (λ b. meets b x) before ≡ o → (meeting_after meets (before ++ x ∷ []) xs ≡ Some m → Again meets ((before ++ x ∷ []) ++ xs) m.0 m.1) → Again meets (before ++ x ∷ xs) m.0 m.1
    by (Some b) e' later =
        let one : Some (b, x) ≡ Some m = ap (λ o. option_map (λ b. (b, x)) o <|> meeting_after meets (before ++ x ∷ []) xs) (sym e') ∙ e in
        let same : (b, x) ≡ m = cc in
        let found = found_in (λ b. meets b x) before b e' in
        subst (λ (n : A × A). Again meets (before ++ x ∷ xs) n.0 n.1) same
        (record { front = before; rest = xs; stands = refl; is_before = found.0; they_meet = found.1 })
    by None e' later =
        let rest : meeting_after meets (before ++ x ∷ []) xs ≡ Some m = ap (λ o. option_map (λ b. (b, x)) o <|> meeting_after meets (before ++ x ∷ []) xs) (sym e') ∙ e in
        subst (λ (ys : List A). Again meets ys m.0 m.1) (append_assoc before (x ∷ []) xs) (later rest)

-- the pair that the fault is of
twice_parts : (name chain service : List ℕ) (loop : Option Chain) (services : List Service) (long : Bool) (twice : Option (Service × Service))
    → unless_loop loop (cond long (Err (TooLong name)) (numbers_or_twice name services twice)) ≡ Err (Twice chain service)
    → (m : Service × Service) × (twice ≡ Some m) × (chain ≡ name) × (m.1.name ≡ service)
twice_parts name chain service (Some d) services long twice h = absurd cc
twice_parts name chain service None services true twice h = absurd cc
twice_parts name chain service None services false None h = absurd cc
twice_parts name chain service None services false (Some m) h = (m, refl, cc, cc)

pub twice_names_the_service : TwiceNamesTheService
unfolding expansion_of
twice_names_the_service c name chain service h =
    let services : List Service = expansion c name in
    let parts = twice_parts name chain service (loop_of c name) services (ltb 15 (length services)) (first_meeting same_number services) h in
    let again = again_after same_number [] services parts.0 parts.1 in (
      parts.2,
      record {
        earlier = parts.0.0;
        later = parts.0.1;
        front = again.front;
        rest = again.rest;
        stands = again.stands;
        is_before = again.is_before;
        one_number = eqb-true _ _ again.they_meet;
        has_name = parts.3;
      },
    )
