-- Expanding hop by hop.
use Rattle.std.proofs.Common.{◌≡◌, ℕ, zero, suc, ◌-◌, ◌<◌, ◌≤◌, ◌≢◌, ◌⊎◌, inl, inr, Bool, true, false, cond, List, [], ◌∷◌, ◌++◌, length, get_or, Option, Some, None, refl, sym, ap, ◌∙◌, arith, subst}
use Rattle.std.specs.List.{Contains, flat_map}
use Rattle.std.specs.Option.{IsSome, option_map_or, is_none}
use Rattle.config_types.specs.declared.config.Chain.{Chain}
use Rattle.config_types.specs.declared.config.Config.{Config}
use Rattle.config_types.specs.declared.config.Service.{Service}
use Rattle.ov_types.specs.First.{same_name}
use Rattle.chain_expand.specs.Expansion.{service_named, chain_named, hops_of, leads, services_within, expansion}
use Rattle.chain_expand.specs.Links.{place_of}
use Rattle.chain_expand.specs.Leading.{HopsTo, Leads, Expands, IsAlong, IsLoopFree, NamesThings}
use Rattle.chain_expand.specs.Leading.Leads.{direct, onward}
use Rattle.chain_expand.specs.Leading.Expands.{of_nothing, of_service, of_chain}
use Rattle.chain_expand.proofs.Expansions.{services_of_service, services_of_chain}
use Rattle.chain_expand.proofs.Reached.{named_at, no_chain, found_at}
use Rattle.chain_expand.proofs.Settled.{counted, counted-le, count_le}
use Rattle.chain_expand.proofs.LeadsLaws.{leads_from_Leads, Leads-from_leads}

-- what an expansion of hops is made of
abbrev Opened : Config → List (List ℕ) → List Service → Type 0
Opened c [] services = services ≡ []
Opened c (hop ∷ hops) services =
    ((s : Service) × (rest : List Service) × (service_named c hop ≡ Some s) × Expands c hops rest × (services ≡ s ∷ rest))
    ⊎ ((d : Chain) × (inner : List Service) × (rest : List Service) × (service_named c hop ≡ None) × (chain_named c hop ≡ Some d) × Expands c d.hops inner × Expands c hops rest × (services ≡ inner ++ rest))

opened : {c : Config} {hops : List (List ℕ)} {services : List Service} → Expands c hops services → Opened c hops services
opened (of_nothing e) = e
opened (of_service {s = s} {rest = rest} named expands e) = inl (s, rest, named, expands, e)
opened (of_chain {d = d} {inner = inner} {rest = rest} none named inside expands e) = inr (d, inner, rest, none, named, inside, expands, e)

pub one_expansion : {c : Config} {hops : List (List ℕ)} {xs : List Service} → Expands c hops xs → (ys : List Service) → Expands c hops ys → xs ≡ ys
one_expansion (of_nothing e) ys other = let e' = opened other in e ∙ sym e'
one_expansion (of_service {s = s} {rest = rest} named expands e) ys other =
    let alike = one_expansion expands in
    elim (opened other) [
      | inl o ↦ let same : rest ≡ o.1 = alike o.1 o.3 in let e' = o.4 in let named' = o.2 in let one : Some s ≡ Some o.0 = sym named ∙ named' in cc
      | inr o ↦ let never : Some s ≡ None = sym named ∙ o.3 in absurd cc
    ]
one_expansion {c} (of_chain {d = d} {inner = inner} {rest = rest} none named inside expands e) ys other =
    let alike = one_expansion expands in
    let alike_inside = one_expansion inside in
    elim (opened other) [
      | inl o ↦ let never : Some o.0 ≡ None = sym o.2 ∙ none in absurd cc
      | inr o ↦
          let same : rest ≡ o.2 = alike o.2 o.6 in
          let one : Some d ≡ Some o.0 = sym named ∙ o.4 in
          let d' : o.0 ≡ d = cc in
          let same_inside : inner ≡ o.1 = alike_inside o.1 (subst (λ (x : Chain). Expands c x.hops o.1) d' o.5) in
          let e' = o.7 in
          cc
    ]

-- how many chains a chain leads to
abbrev led_by : Config → List ℕ → Chain → Bool
led_by c name d = leads c name d.name

rank : Config → List ℕ → ℕ
rank c name = counted (led_by c name) c.chains

less_counted : (m n : ℕ) (a b : Bool) → (a ≡ true → b ≡ true) → m < n → cond a (suc m) m < cond b (suc n) n
less_counted m n true true h lt = omega (arith, lt)
less_counted m n true false h lt = let never : false ≡ true = h refl in absurd cc
less_counted m n false true h lt = omega (arith, lt)
less_counted m n false false h lt = lt

counted_less : {X : Type 0} (p q : X → Bool) → ((x : X) → p x ≡ true → q x ≡ true) → (xs : List X) (k : ℕ) (d : X) → k < length xs → p (get_or xs k d) ≡ false → q (get_or xs k d) ≡ true → counted p xs < counted q xs
unfolding counted
counted_less p q more [] k d lt fails passes = absurd (omega (arith, lt))
counted_less p q more (x ∷ xs) zero d lt fails passes =
    let le = count_le p q more xs in
    rw (fails, passes) (omega (arith, le))
counted_less p q more (x ∷ xs) (suc k) d lt fails passes = less_counted (counted p xs) (counted q xs) (p x) (q x) (more x) (counted_less p q more xs k d (omega arith) fails passes)

not_leading : (c : Config) (from to : List ℕ) → ¬ (Leads c from to) → leads c from to ≡ false
not_leading c from to apart = by (leads c from to) refl
  where
    by : (b : Bool) → leads c from to ≡ b → leads c from to ≡ false
    by true e = absurd (apart (Leads-from_leads c from to e))
    by false e = e

chain_place : (c : Config) (name : List ℕ) (d : Chain) → chain_named c name ≡ Some d → (k : ℕ) × (place_of c name ≡ Some k)
chain_place c name d e = by (place_of c name) refl
  where
    by : (o : Option ℕ) → place_of c name ≡ o → (k : ℕ) × (place_of c name ≡ Some k)
    by None none = let never : Some d ≡ None = sym e ∙ found_at (λ x. same_name x.name name) c.chains None none in absurd cc
    by (Some k) at = (k, at)

rank_less : (c : Config) (from hop : List ℕ) (d : Chain) → HopsTo c from hop → chain_named c hop ≡ Some d → ¬ (Leads c hop hop) → rank c hop < rank c from
unfolding rank
rank_less c from hop d hops named free =
    let place = chain_place c hop d named in
    let at = named_at c hop place.0 place.1 in
    counted_less (led_by c hop) (led_by c from)
    (λ x e. leads_from_Leads c from x.name (onward hops (Leads-from_leads c hop x.name e)))
    c.chains place.0 no_chain at.0
    (ap (leads c hop) at.1 ∙ not_leading c hop hop free)
    (ap (leads c from) at.1 ∙ leads_from_Leads c from hop (direct hops))

along_on : (c : Config) (from hop name : List ℕ) → HopsTo c from hop → IsAlong c hop name → IsAlong c from name
along_on c from hop name hops (inl same) = inr (subst (λ (n : List ℕ). Leads c from n) (sym same) (direct hops))
along_on c from hop name hops (inr way) = inr (onward hops way)

each_hop : (n : ℕ) (c : Config) (from : List ℕ) → NamesThings c from → ((hop : List ℕ) (d : Chain) → HopsTo c from hop → chain_named c hop ≡ Some d → (n ≢ 0) × Expands c (hops_of c hop) (flat_map (services_within (n - 1) c) (hops_of c hop))) → (hops : List (List ℕ)) → ((hop : List ℕ) → Contains hops hop → Contains (hops_of c from) hop) → Expands c hops (flat_map (services_within n c) hops)
each_hop n c from names below [] within = of_nothing refl
each_hop n c from names below (hop ∷ hops) within =
    by (service_named c hop) refl (each_hop n c from names below hops (λ h at. within h (suc at.0, (let lt = at.1 in omega arith), at.2)))
  where
    here : Contains (hops_of c from) hop
    here = within hop (0, omega arith, refl)

    rest : List Service
    rest = flat_map (services_within n c) hops

    by_chain : (d : Option Chain) → chain_named c hop ≡ d → service_named c hop ≡ None → Expands c hops (flat_map (services_within n c) hops) → Expands c (hop ∷ hops) (services_within n c hop ++ flat_map (services_within n c) hops)
    by_chain None none' none others =
        elim (names from hop (inl refl) here) [
          | inl some ↦ let never : IsSome {T = Service} None = subst (λ (o : Option Service). IsSome o) none some in absurd cc
          | inr some ↦ let never : IsSome {T = Chain} None = subst (λ (o : Option Chain). IsSome o) none' some in absurd cc
        ]
    by_chain (Some d) named none others =
        let hops_to : HopsTo c from hop = (here, ap is_none none) in
        let inner = below hop d hops_to named in
        let same : hops_of c hop ≡ d.hops = ap (λ o. option_map_or (λ x. x.hops) o []) named in
        let inside : Expands c d.hops (flat_map (services_within (n - 1) c) (hops_of c hop)) = subst (λ (hs : List (List ℕ)). Expands c hs (flat_map (services_within (n - 1) c) (hops_of c hop))) same inner.1 in
        of_chain none named inside others (ap (λ ss. ss ++ flat_map (services_within n c) hops) (services_of_chain n c hop none inner.0))

    by : (o : Option Service) → service_named c hop ≡ o → Expands c hops (flat_map (services_within n c) hops) → Expands c (hop ∷ hops) (services_within n c hop ++ flat_map (services_within n c) hops)
    by (Some s) named others = of_service named others (ap (λ ss. ss ++ flat_map (services_within n c) hops) (services_of_service n c hop s named))
    by None none others = by_chain (chain_named c hop) refl none others

expands_within : (n : ℕ) (c : Config) (from : List ℕ) → IsLoopFree c from → NamesThings c from → rank c from ≤ n → Expands c (hops_of c from) (flat_map (services_within n c) (hops_of c from))
expands_within zero c from free names le =
    each_hop 0 c from names
    (λ hop d hops named. let lt = rank_less c from hop d hops named (free hop (inr (direct hops))) in absurd (omega (arith, lt, le)))
    (hops_of c from) (λ hop at. at)
expands_within (suc n) c from free names le =
    each_hop (suc n) c from names
    (λ hop d hops named.
    let lt = rank_less c from hop d hops named (free hop (inr (direct hops))) in
    let ne : suc n ≢ 0 = omega arith in
    let less : n ≡ suc n - 1 = omega arith in (
      ne,
      subst (λ (m : ℕ). Expands c (hops_of c hop) (flat_map (services_within m c) (hops_of c hop))) less
          (expands_within n c hop
          (λ name along. free name (along_on c from hop name hops along))
          (λ name h along at. names name h (along_on c from hop name hops along) at)
          (omega (arith, lt, le))),
    ))
    (hops_of c from) (λ hop at. at)

pub expansion_expands : (c : Config) (name : List ℕ) → IsLoopFree c name → NamesThings c name → Expands c (hops_of c name) (expansion c name)
unfolding rank
expansion_expands c name free names = expands_within (length c.chains) c name free names (counted-le (led_by c name) c.chains)
