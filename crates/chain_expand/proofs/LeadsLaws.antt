-- Leading within a number of steps, and by hops.
use Rattle.std.proofs.Common.{◌≡◌, ℕ, zero, suc, ◌+◌, inl, inr, ◌&&◌, ◌||◌, true, List, length, sym, ap, ◌∙◌, arith, subst}
use Rattle.std.specs.List.{Any}
use Rattle.std.specs.Cmp.Lexicographic.{same_text}
use Rattle.std.proofs.lemmas.Bool.{and_parts, or_cases}
use Rattle.std.proofs.lemmas.List.Folds.{Any-from_list_any, list_any-from_Any}
use Rattle.config_types.specs.declared.config.Config.{Config}
use Rattle.ov_types.specs.First.{same_name}
use Rattle.ov_types.proofs.FirstLemmas.{same_name_self}
use Rattle.chain_expand.specs.Expansion.{names_chain, hops_of, leads_within, leads}
use Rattle.chain_expand.specs.Leading.{HopsTo, Leads}
use Rattle.chain_expand.specs.Leading.Leads.{direct, onward}
use Rattle.chain_expand.proofs.Settled.{hop_on, leads_more, settled, or_true}

Leads-from_within : (n : ℕ) (c : Config) (from to : List ℕ) → leads_within n c from to ≡ true → Leads c from to
unfolding leads_within
Leads-from_within zero c from to e = absurd cc
Leads-from_within (suc n) c from to e =
    let found : Any (λ hop. hop_on n c to hop ≡ true) (hops_of c from) = Any-from_list_any (hop_on n c to) (hops_of c from) e in
    let hop : List ℕ = found.1 in
    let parts = and_parts (names_chain c hop) (same_name hop to || leads_within n c hop to) found.4 in
    let hops : HopsTo c from hop = ((found.0, found.2, found.3), parts.0) in
    elim (or_cases (same_name hop to) (leads_within n c hop to) parts.1) [
      | inl same ↦ subst (λ (name : List ℕ). Leads c from name) (same_text hop to (sym same)) (direct hops)
      | inr more ↦ onward hops (Leads-from_within n c hop to more)
    ]

hop_within : (n : ℕ) (c : Config) (from hop to : List ℕ) → HopsTo c from hop → (same_name hop to || leads_within n c hop to) ≡ true → leads_within (suc n) c from to ≡ true
unfolding leads_within
hop_within n c from hop to hops e =
    let at = hops.0 in
    list_any-from_Any (hop_on n c to) (hops_of c from) (at.0, hop, at.1, at.2, ap (λ b. b && (same_name hop to || leads_within n c hop to)) hops.1 ∙ e)

within_from_Leads : {c : Config} {from to : List ℕ} → Leads c from to → (n : ℕ) × (leads_within n c from to ≡ true)
within_from_Leads {c} {from} {to} (direct hops) = (1, hop_within 0 c from to to hops (ap (λ b. b || leads_within 0 c to to) (same_name_self to)))
within_from_Leads {c} {from} {to} (onward {hop = hop} hops way) =
    let rest = within_from_Leads way in
    (suc rest.0, hop_within rest.0 c from hop to hops (or_true (same_name hop to) rest.1))

leads_later : (k n : ℕ) (c : Config) (from to : List ℕ) → leads_within n c from to ≡ true → leads_within (k + n) c from to ≡ true
leads_later zero n c from to e = subst (λ (m : ℕ). leads_within m c from to ≡ true) (omega arith) e
leads_later (suc k) n c from to e = subst (λ (m : ℕ). leads_within m c from to ≡ true) (omega arith) (leads_more (k + n) c from to (leads_later k n c from to e))

pub leads_from_Leads : (c : Config) (from to : List ℕ) → Leads c from to → leads c from to ≡ true
leads_from_Leads c from to way =
    let rest = within_from_Leads way in
    let n : ℕ = length c.chains in
    let later = leads_later n rest.0 c from to rest.1 in
    let order : n + rest.0 ≡ rest.0 + n = omega arith in
    sym (settled rest.0 c from to) ∙ ap (λ m. leads_within m c from to) (sym order) ∙ later

pub Leads-from_leads : (c : Config) (from to : List ℕ) → leads c from to ≡ true → Leads c from to
Leads-from_leads c from to e = Leads-from_within (length c.chains) c from to e
