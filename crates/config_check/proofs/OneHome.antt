-- An address has one network among those around a network.
use Rattle.std.proofs.Common.{◌≡◌, ◌⊎◌, inl, inr, ◌<◌, ◌&&◌, ℕ, Bool, true, false, IsTrue, List, length, get_or, refl, sym, ap, ◌∙◌, subst}
use Rattle.std.specs.List.{All, AllPairs, Any, Contains, list_all}
use Rattle.std.proofs.lemmas.Bool.{and_parts, cases_order}
use Rattle.std.proofs.lemmas.List.{get_or_default}
use Rattle.std.proofs.lemmas.List.Elements.{All-contains}
use Rattle.ov_types.specs.Name.{is_name}
use Rattle.ov_types.specs.Prefix.{Block, contains}
use Rattle.config_types.specs.Form.{is_block, is_from_to, is_network_name, has_network_form, has_port_form, has_policy_form, has_service_form, has_chain_form, has_config_form}
use Rattle.config_types.specs.declared.config.Config.{Config}
use Rattle.config_types.specs.declared.config.Network.{Network}
use Rattle.config_types.specs.declared.topology.Topology.{Topology}
use Rattle.config_check.specs.Rules.{holds_address}
use Rattle.config_check.specs.Sentences.{Overlap, IsAround, AreApart, IsValid}
use Rattle.config_check.proofs.Iffs.{list_all_true}
use Rattle.config_check.proofs.Meanings.{holds_iff}
use Rattle.config_check.proofs.Nested.{overlap_at}

-- two items of a list whose pairs are related are one item, or related one way or the other

module _ {A : Type 0} (R : A → A → Type 0) (xs : List A) where
  in_order : (i j : ℕ) (a b : A) → AllPairs R xs → i < j → j < length xs → get_or xs i a ≡ a → get_or xs j b ≡ b → R a b
  in_order i j a b pairs lt within at_i at_j =
      let h : R (get_or xs i a) (get_or xs j a) = pairs i j a lt within in
      let first : R a (get_or xs j a) = subst (λ (x : A). R x (get_or xs j a)) at_i h in
      subst (λ (y : A). R a y) (get_or_default xs j a b within ∙ at_j) first

  pub two_among : (a b : A) → AllPairs R xs → Contains xs a → Contains xs b → (a ≡ b) ⊎ (R a b ⊎ R b a)
  two_among a b pairs p q =
      elim (cases_order p.0 q.0) [
        | inl same ↦ inl (sym p.2 ∙ ap (λ (k : ℕ). get_or xs k a) same ∙ get_or_default xs q.0 a b q.1 ∙ q.2)
        | inr other ↦ elim other [
          | inl lt ↦ inr (inl (in_order p.0 q.0 a b pairs lt q.1 p.2 q.2))
          | inr gt ↦ inr (inr (in_order q.0 p.0 b a pairs gt p.1 q.2 p.2))
        ]
      ]

-- the subnets of written networks are prefixes

first_of_five : (a b c d e : Bool) → IsTrue (a && b && c && d && e) → IsTrue a
first_of_five true b c d e h = refl
first_of_five false b c d e h = h

third_of_four : (a b c d : Bool) → IsTrue (a && b && c && d) → IsTrue c
third_of_four true true c d h = (and_parts c d h).0
third_of_four true false c d h = cc
third_of_four false b c d h = cc

abbrev pub HasBlocks : Network → Type 0
HasBlocks n = All (λ s. IsTrue (is_block s)) n.subnets

blocks_of_network : (n : Network) → IsTrue (has_network_form n) → HasBlocks n
unfolding has_network_form
blocks_of_network n h =
    (list_all_true is_block n.subnets).0
    (third_of_four (is_network_name n.name) (is_from_to 1 16383 n.id.0) (list_all is_block n.subnets) (list_all is_name n.policies) h)

pub networks_have_form : (c : Config) → IsTrue (has_config_form c) → All (λ n. IsTrue (has_network_form n)) c.networks
unfolding has_config_form
networks_have_form c h =
    (list_all_true has_network_form c.networks).0
    (first_of_five (list_all has_network_form c.networks) (list_all has_port_form c.ports) (list_all has_policy_form c.policies)
    (list_all has_service_form c.services) (list_all has_chain_form c.chains) h)

pub blocks_of : (c : Config) → IsTrue (has_config_form c) → All HasBlocks c.networks
blocks_of c h = λ k d lt. blocks_of_network (get_or c.networks k d) (networks_have_form c h k d lt)

-- two networks that have one address have subnets that overlap

pub meet : (a b : Network) (address : ℕ) → HasBlocks a → HasBlocks b
    → Any (λ s. contains s address ≡ true) a.subnets → Any (λ s. contains s address ≡ true) b.subnets → ¬ AreApart a b
meet a b address blocks_a blocks_b p q apart =
    let x : Block = p.1 in
    let y : Block = q.1 in
    let x_is : IsTrue (is_block x) = subst (λ (s : Block). IsTrue (is_block s)) p.3 (blocks_a p.0 x p.2) in
    let y_is : IsTrue (is_block y) = subst (λ (s : Block). IsTrue (is_block s)) q.3 (blocks_b q.0 y q.2) in
    let far : ¬ Overlap x y = subst (λ (s : Block). ¬ Overlap x s) q.3 (subst (λ (s : Block). All (λ u. ¬ Overlap s u) b.subnets) p.3 (apart p.0 x p.2) q.0 y q.2) in
    far (overlap_at x y address x_is y_is p.4 q.4)

pub one_home : (c : Config) (n a b : Network) (address : ℕ) → All HasBlocks c.networks
    → AllPairs (λ x y. IsAround c n x → IsAround c n y → AreApart x y) c.networks
    → Contains c.networks a → Contains c.networks b → IsAround c n a → IsAround c n b
    → Any (λ s. contains s address ≡ true) a.subnets → Any (λ s. contains s address ≡ true) b.subnets → a ≡ b
one_home c n a b address blocks pairs in_a in_b around_a around_b p q =
    let blocks_a : HasBlocks a = All-contains HasBlocks c.networks a blocks in_a in
    let blocks_b : HasBlocks b = All-contains HasBlocks c.networks b blocks in_b in
    elim (two_among (λ (x y : Network). IsAround c n x → IsAround c n y → AreApart x y) c.networks a b pairs in_a in_b) [
      | inl same ↦ same
      | inr other ↦ elim other [
        | inl apart ↦ absurd (meet a b address blocks_a blocks_b p q (apart around_a around_b))
        | inr apart ↦ absurd (meet b a address blocks_b blocks_a q p (apart around_b around_a))
      ]
    ]

pub one_network : (t : Topology) (c : Config) (n a b : Network) (address : ℕ) → IsTrue (has_config_form c) → IsValid t c
    → Contains c.networks n → Contains c.networks a → Contains c.networks b → IsAround c n a → IsAround c n b
    → IsTrue (holds_address a address) → IsTrue (holds_address b address) → a ≡ b
one_network t c n a b address form v in_n in_a in_b around_a around_b held_a held_b =
    let apart = All-contains (λ (m : Network). AllPairs (λ x y. IsAround c m x → IsAround c m y → AreApart x y) c.networks) c.networks n v.apart in_n in
    one_home c n a b address (blocks_of c form) apart in_a in_b around_a around_b ((holds_iff a address).0 held_a) ((holds_iff b address).0 held_b)
