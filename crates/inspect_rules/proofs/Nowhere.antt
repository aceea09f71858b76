-- The causes of packets that go nowhere.
use Rattle.std.proofs.Common.{◌≡◌, ◌↔◌, ◌⊎◌, inl, inr, ℕ, Bool, true, false, cond, List, [], ◌∷◌, flat_map, refl, ap, subst, arith}
use Rattle.std.specs.List.{Contains}
use Rattle.std.proofs.lemmas.List.Elements.{Contains-append_cases, Contains-append_left, Contains-append_right}
use Rattle.ov_types.proofs.FirstLemmas.{contains_cases, contains_here, contains_later}
use Rattle.config_types.specs.declared.config.Config.{Config}
use Rattle.config_types.specs.declared.config.Network.{Network}
use Rattle.config_check.specs.Rules.{holds_address}
use Rattle.config_check.proofs.Meanings.{holds_iff}
use Rattle.policy_rules.proofs.Lists.{is_joined, is_mapped, joined_is, mapped_is}
use Rattle.inspect_rules.specs.Causes.{attached, holder, nowhere}
use Rattle.inspect_rules.specs.Explaining.{IsAttachedNear, IsHolder, IsOfNowhere}
use Rattle.inspect_rules.specs.declared.cause.Cause.{Cause}
use Rattle.inspect_rules.specs.declared.cause.Cause.TheVariants as Of

record IsPolicyOf (a : Network) (x : Cause) : Type 0 where
  pub policy : List ℕ
  pub attaches : Contains a.policies policy
  pub is : Of.Attached a.name policy ≡ x

policy_is : (a : Network) (x : Cause) → Contains (attached a) x → IsPolicyOf a x
policy_is a x at =
    let from = mapped_is (λ (policy : List ℕ). Of.Attached a.name policy) a.policies x at in
    record { policy = from.0; attaches = from.1; is = from.2 }

is_policy : (a : Network) (x : Cause) → IsPolicyOf a x → Contains (attached a) x
is_policy a x h =
    subst (Contains (attached a)) h.is (is_mapped (λ (policy : List ℕ). Of.Attached a.name policy) a.policies h.policy h.attaches)

-- a cause of a network that may hold an address
held : (b : Network) (holds : Bool) (x : Cause) → Contains (cond holds (Of.Unrelated b.name ∷ attached b) []) x
    → (holds ≡ true) × ((Of.Unrelated b.name ≡ x) ⊎ IsPolicyOf b x)
held b true x at = (
  refl,
  elim (contains_cases (Of.Unrelated b.name) (attached b) x at) [
    | inl same ↦ inl same
    | inr later ↦ inr (policy_is b x later)
  ],
)
held b false x at = absurd (let lt = at.1 in omega arith)

holds_it : (b : Network) (holds : Bool) (x : Cause) → holds ≡ true → (Of.Unrelated b.name ≡ x) ⊎ IsPolicyOf b x
    → Contains (cond holds (Of.Unrelated b.name ∷ attached b) []) x
holds_it b true x h e = elim e [
  | inl same ↦ subst (Contains (Of.Unrelated b.name ∷ attached b)) same (contains_here (Of.Unrelated b.name) (attached b))
  | inr policy ↦ contains_later x (Of.Unrelated b.name) (attached b) (is_policy b x policy)
]
holds_it b false x h e = absurd cc

module _ (c : Config) (own : Network) (address : ℕ) where
  record IsHeld (x : Cause) : Type 0 where
    pub by : Network
    pub holder : IsHolder c address by
    pub is : (Of.Unrelated by.name ≡ x) ⊎ IsPolicyOf by x

  -- a cause is a policy of the source's network, or of a network that holds the address
  cause_is : (x : Cause) → Contains (nowhere c own address) x → IsPolicyOf own x ⊎ IsHeld x
  cause_is x at =
      elim (Contains-append_cases (attached own) (flat_map (holder address) c.networks) x at) [
        | inl here ↦ inl (policy_is own x here)
        | inr later ↦
            let from = joined_is (holder address) c.networks x later in
            let h = held from.0 (holds_address from.0 address) x from.2 in
            inr (record { by = from.0; holder = record { stands = from.1; holds = (holds_iff from.0 address).0 h.0 }; is = h.1 })
      ]

  is_cause : (x : Cause) → IsPolicyOf own x ⊎ IsHeld x → Contains (nowhere c own address) x
  is_cause x h = elim h [
    | inl policy ↦ Contains-append_left (attached own) (flat_map (holder address) c.networks) x (is_policy own x policy)
    | inr one ↦
        Contains-append_right (attached own) (flat_map (holder address) c.networks) x
        (is_joined (holder address) c.networks one.by x one.holder.stands
        (holds_it one.by (holds_address one.by address) x ((holds_iff one.by address).1 one.holder.holds) one.is))
  ]

  same_attached : (n m policy rule : List ℕ) → Of.Attached n policy ≡ Of.Attached m rule → (n ≡ m) × (policy ≡ rule)
  same_attached n m policy rule e = (cc, cc)

  same_unrelated : (n m : List ℕ) → Of.Unrelated n ≡ Of.Unrelated m → n ≡ m
  same_unrelated n m e = cc

  near : (a : Network) (network policy : List ℕ) → (a ≡ own) ⊎ IsHolder c address a → IsPolicyOf a (Of.Attached network policy)
      → IsAttachedNear c address own network policy
  near a network policy which h =
      let same = same_attached a.name network h.policy policy h.is in
      record { by = a; near = which; named = same.0; attaches = subst (Contains a.policies) same.1 h.attaches }

  pub attached_are : (network policy : List ℕ) → Contains (nowhere c own address) (Of.Attached network policy) ↔ IsAttachedNear c address own network policy
  attached_are network policy = (
    λ at.
        elim (cause_is (Of.Attached network policy) at) [
          | inl of_own ↦ near own network policy (inl refl) of_own
          | inr one ↦ elim one.is [
            | inl other ↦ absurd (let no = other in cc)
            | inr of_it ↦ near one.by network policy (inr one.holder) of_it
          ]
        ],
    λ k.
        let is : Of.Attached k.by.name policy ≡ Of.Attached network policy = ap (λ (n : List ℕ). Of.Attached n policy) k.named in
        let one : IsPolicyOf k.by (Of.Attached network policy) = record { policy = policy; attaches = k.attaches; is = is } in
        is_cause (Of.Attached network policy) (elim k.near [
          | inl same ↦ inl (subst (λ (n : Network). IsPolicyOf n (Of.Attached network policy)) same one)
          | inr holder ↦ inr (record { by = k.by; holder = holder; is = inr one })
        ]),
  )

  pub unrelated_are : (network : List ℕ) → Contains (nowhere c own address) (Of.Unrelated network) ↔ ((b : Network) × IsHolder c address b × (b.name ≡ network))
  unrelated_are network = (
    λ at.
        elim (cause_is (Of.Unrelated network) at) [
          | inl of_own ↦ absurd (let no = of_own.is in cc)
          | inr one ↦ elim one.is [
            | inl same ↦ (one.by, one.holder, same_unrelated one.by.name network same)
            | inr of_it ↦ absurd (let no = of_it.is in cc)
          ]
        ],
    λ k.
        is_cause (Of.Unrelated network)
        (inr (record { by = k.0; holder = k.1; is = inl (ap (λ (n : List ℕ). Of.Unrelated n) k.2) })),
  )

  pub only_these : (x : Cause) → Contains (nowhere c own address) x → IsOfNowhere x
  only_these x at =
      elim (cause_is x at) [
        | inl of_own ↦ subst IsOfNowhere of_own.is tt
        | inr one ↦ elim one.is [
          | inl same ↦ subst IsOfNowhere same tt
          | inr of_it ↦ subst IsOfNowhere of_it.is tt
        ]
      ]
