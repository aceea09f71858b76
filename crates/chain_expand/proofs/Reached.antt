-- What the marks reach, by how many named chains.
use Rattle.std.proofs.Common.{◌≡◌, ℕ, zero, suc, ◌+◌, ◌-◌, ◌<◌, ◌≤◌, ◌≢◌, ◌==◌, inl, inr, ◌&&◌, ◌||◌, Bool, true, false, cond, List, [], ◌∷◌, length, get_or, set, replicate, Option, Some, None, refl, sym, ap, ◌∙◌, arith, subst, eq-eqb}
use Rattle.std.specs.List.{list_any, position, position_or_len, slice_get, find}
use Rattle.std.specs.Option.{option_map_or, option_and_then}
use Rattle.std.specs.Cmp.Lexicographic.{same_text, other_text}
use Rattle.std.proofs.lemmas.Bool.{ne_eqb, cases_lt, cases_eq, lt-ltb, le-ltb}
use Rattle.std.proofs.lemmas.Option.{slice_get_past}
use Rattle.std.proofs.lemmas.List.{get_or-set_same, get_or-set_other, get_or-replicate}
use Rattle.std.proofs.lemmas.List.Folds.{find_at}
use Rattle.std.proofs.lemmas.List.Quantifiers.{position-Some}
use Rattle.config_types.specs.declared.config.Config.{Config}
use Rattle.config_types.specs.declared.config.Chain.{Chain}
use Rattle.ov_types.specs.First.{same_name}
use Rattle.chain_expand.specs.Expansion.{names_chain, hops_of, leads_within, leads}
use Rattle.chain_expand.specs.Links.{place_of, place_named, hops_at, is_marked, meets, IsLinked, IsReached, IsRound, leads_at}

-- what is found stands at its place
pub found_at : {X : Type 0} (p : X → Bool) (xs : List X) (o : Option ℕ) → position p xs ≡ o → find p xs ≡ option_and_then (slice_get xs) o
found_at p xs o e =
    let n = position_or_len p xs in
    elim (cases_lt n (length xs)) [
      | inl within ↦
          let is : o ≡ Some n = sym e ∙ rw (lt-ltb n (length xs) within) refl in
          find_at p xs ∙ ap (option_and_then (slice_get xs)) (sym is)
      | inr past ↦
          let is : o ≡ None = sym e ∙ rw (le-ltb n (length xs) past) refl in
          find_at p xs ∙ slice_get_past xs n past ∙ ap (option_and_then (slice_get xs)) (sym is)
    ]

-- the hops of a name are those at its place
pub hops_of_none : (c : Config) (name : List ℕ) → place_of c name ≡ None → hops_of c name ≡ []
hops_of_none c name e = ap (λ o. option_map_or (λ d. d.hops) o []) (found_at (λ d. same_name d.name name) c.chains None e)

pub hops_of_some : (c : Config) (name : List ℕ) (p : ℕ) → place_of c name ≡ Some p → hops_of c name ≡ hops_at c p
hops_of_some c name p e = ap (λ o. option_map_or (λ d. d.hops) o []) (found_at (λ d. same_name d.name name) c.chains (Some p) e)

pub leads_none : (n : ℕ) (c : Config) (from to : List ℕ) → place_of c from ≡ None → leads_within n c from to ≡ false
unfolding leads_within
leads_none zero c from to e = refl
leads_none (suc n) c from to e = ap (list_any (λ hop. names_chain c hop && (same_name hop to || leads_within n c hop to))) (hops_of_none c from e)

pub leads_some : (n : ℕ) (c : Config) (from to : List ℕ) (p : ℕ) → place_of c from ≡ Some p → leads_within n c from to ≡ leads_at n c p to
unfolding leads_within leads_at
leads_some zero c from to p e = refl
leads_some (suc n) c from to p e = ap (list_any (λ hop. names_chain c hop && (same_name hop to || leads_within n c hop to))) (hops_of_some c from p e)

pub no_chain : Chain
no_chain = record { name = []; hops = [] }

pub named_at : (c : Config) (name : List ℕ) (p : ℕ) → place_of c name ≡ Some p → (p < length c.chains) × ((get_or c.chains p no_chain).name ≡ name)
named_at c name p e =
    let at = position-Some (λ d. same_name d.name name) c.chains p no_chain e in
    (at.0, same_text _ _ (sym at.1))

-- two names are one where their places are
same_place : (c : Config) (hop to : List ℕ) (p target : ℕ) → place_of c hop ≡ Some p → place_of c to ≡ Some target → (p == target) ≡ same_name hop to
same_place c hop to p target at at' =
    by (same_name hop to) refl
  where
    by : (b : Bool) → same_name hop to ≡ b → (p == target) ≡ b
    by true e =
        let same : hop ≡ to = same_text hop to (sym e) in
        let one : Some p ≡ Some target = sym at ∙ ap (place_of c) same ∙ at' in
        eq-eqb p target (cc)
    by false e =
        ne_eqb p target (λ one. other_text hop to (sym e) (sym (named_at c hop p at).1 ∙ ap (λ k. (get_or c.chains k no_chain).name) one ∙ (named_at c to target at').1))

pub list_any_same : {X : Type 0} (p q : X → Bool) → ((x : X) → p x ≡ q x) → (xs : List X) → list_any p xs ≡ list_any q xs
list_any_same p q same [] = refl
list_any_same p q same (x ∷ xs) = ap (λ b. b || list_any p xs) (same x) ∙ ap (λ b. q x || b) (list_any_same p q same xs)

-- a hop's place is marked where the hop is the target, or leads to it
hop_leads : (n : ℕ) (c : Config) (hop to : List ℕ) (target : ℕ) (marks : List Bool) → length c.chains ≤ 128 → place_of c to ≡ Some target → IsReached c target n marks → is_marked marks (place_named c hop) ≡ (names_chain c hop && (same_name hop to || leads_within n c hop to))
hop_leads n c hop to target marks few at reached =
    by_kind (names_chain c hop)
  where
    by_place : (o : Option ℕ) → place_of c hop ≡ o → is_marked marks o ≡ (same_name hop to || leads_within n c hop to)
    by_place None e =
        sym (ap (λ b. b || leads_within n c hop to) (other (same_name hop to) refl) ∙ leads_none n c hop to e)
      where
        other : (b : Bool) → same_name hop to ≡ b → b ≡ false
        other true s =
            let same : hop ≡ to = same_text hop to (sym s) in
            let one : None ≡ Some target = sym e ∙ ap (place_of c) same ∙ at in
            absurd cc
        other false s = refl
    by_place (Some p) e =
        reached to p at (let within = (named_at c hop p e).0 in omega arith)
        ∙ ap (λ b. b || leads_at n c p to) (same_place c hop to p target e at)
        ∙ ap (λ b. same_name hop to || b) (sym (leads_some n c hop to p e))

    by_kind : (b : Bool) → is_marked marks (cond b (place_of c hop) None) ≡ (b && (same_name hop to || leads_within n c hop to))
    by_kind true = by_place (place_of c hop) refl
    by_kind false = refl

-- a row meets the marks where the chain at its place leads to the target by one step more
pub leads_on : (n : ℕ) (c : Config) (rows : List (List Bool)) (marks : List Bool) (target place : ℕ) (to : List ℕ) → length c.chains ≤ 128 → length marks ≡ 128 → IsLinked c rows → IsReached c target n marks → place_of c to ≡ Some target → place < 128 → meets (get_or rows place []) marks ≡ leads_at (suc n) c place to
unfolding leads_at
leads_on n c rows marks target place to few size linked reached at lt =
    linked place lt marks size
    ∙ list_any_same (λ hop. is_marked marks (place_named c hop)) (λ hop. names_chain c hop && (same_name hop to || leads_within n c hop to)) (λ hop. hop_leads n c hop to target marks few at reached) (hops_at c place)

pub reached_on : (n : ℕ) (c : Config) (rows : List (List Bool)) (marks next : List Bool) (target : ℕ) → length c.chains ≤ 128 → length marks ≡ 128 → IsLinked c rows → IsReached c target n marks → IsRound target rows marks next → IsReached c target (suc n) next
reached_on n c rows marks next target few size linked reached round = λ to place at lt.
    round place lt ∙ ap (λ b. place == target || b) (leads_on n c rows marks target place to few size linked reached at lt)

-- marks that a round leaves stay
reached_later : (k n : ℕ) (c : Config) (rows : List (List Bool)) (marks : List Bool) (target : ℕ) → length c.chains ≤ 128 → length marks ≡ 128 → IsLinked c rows → IsReached c target n marks → IsRound target rows marks marks → IsReached c target (k + n) marks
reached_later zero n c rows marks target few size linked reached round = subst (λ (m : ℕ). IsReached c target m marks) (omega arith) reached
reached_later (suc k) n c rows marks target few size linked reached round =
    let next = reached_on (k + n) c rows marks marks target few size linked (reached_later k n c rows marks target few size linked reached round) round in
    subst (λ (m : ℕ). IsReached c target m marks) (omega arith) next

pub reached_all : (m n : ℕ) (c : Config) (rows : List (List Bool)) (marks : List Bool) (target : ℕ) → n ≤ m → length c.chains ≤ 128 → length marks ≡ 128 → IsLinked c rows → IsReached c target n marks → IsRound target rows marks marks → IsReached c target m marks
reached_all m n c rows marks target le few size linked reached round =
    let later = reached_later (m - n) n c rows marks target few size linked reached round in
    subst (λ (k : ℕ). IsReached c target k marks) (omega arith) later

or_false : (b : Bool) → b ≡ (b || false)
or_false true = refl
or_false false = refl

-- one mark reaches itself alone
pub reached_first : (c : Config) (target : ℕ) → target < 128 → IsReached c target 0 (set (replicate 128 false) target true)
unfolding leads_at
reached_first c target within = λ to place at lt.
    elim (cases_eq place target) [
      | inl same ↦
          let inside : target < length (replicate 128 false) = within in
          rw (same, get_or-set_same (replicate 128 false) target true false inside, eq-eqb target target refl) refl
      | inr other ↦
          let ne : place ≢ target = other in
          rw (get_or-set_other (replicate 128 false) target place true false ne, get_or-replicate 128 place false false lt, ne_eqb place target other) refl
    ]

-- what the marks of all steps say of a chain's name
pub leads_by_row : (c : Config) (rows : List (List Bool)) (marks : List Bool) (target place : ℕ) (from to : List ℕ) → length c.chains ≤ 128 → length marks ≡ 128 → IsLinked c rows → IsReached c target (length c.chains - 1) marks → target < length c.chains → place_of c to ≡ Some target → place < length c.chains → place_of c from ≡ Some place → meets (get_or rows place []) marks ≡ leads c from to
leads_by_row c rows marks target place from to few size linked reached within at lt at' =
    let step = leads_on (length c.chains - 1) c rows marks target place to few size linked reached at (omega arith) in
    let all : suc (length c.chains - 1) ≡ length c.chains = omega arith in
    step ∙ ap (λ n. leads_at n c place to) all ∙ sym (leads_some (length c.chains) c from to place at')
