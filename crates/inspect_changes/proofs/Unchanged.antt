-- Where claims stay and their packets fare alike, there is no difference.
use Rattle.std.proofs.Common.{◌≡◌, ◌||◌, ℕ, Bool, true, false, List, [], ◌∷◌, ◌++◌, Some, flat_map, refl, ◌∙◌, subst, arith}
use Rattle.std.specs.List.{All, list_all}
use Rattle.ov_types.proofs.FirstLemmas.{all_head, all_tail}
use Rattle.std.proofs.lemmas.List.Elements.{All-cons}
use Rattle.config_types.specs.declared.config.Config.{Config}
use Rattle.config_types.specs.declared.config.Network.{Network}
use Rattle.policy_regions.specs.Overlay.{laid_by}
use Rattle.policy_regions.specs.Sameness.{same_claims}
use Rattle.policy_regions.specs.declared.region.Claim.{Claim}
use Rattle.policy_regions.specs.declared.overlays.Compared.{Compared}
use Rattle.policy_regions.proofs.Alike.{StaysAs, all_alike}
use Rattle.policy_regions.proofs.Decided.{claimed}
use Rattle.policy_regions.proofs.Said.{Said}
use Rattle.policy_regions.proofs.Same.{claims_are}
use Rattle.inspect_changes.specs.Fates.{differences_of, fate_by, passage, same_passage}
use Rattle.inspect_changes.specs.Unchanged.{differences_by, lead_alike, stay, stays_by}
use Rattle.inspect_changes.proofs.Differing.{and_first, and_second}
use Rattle.inspect_changes.proofs.Leading.{all_stay}

module _ (from to : List ℕ) (c d : Config) where
  abbrev P : Said → Type 0
  P x = stays_by c d x.0 x.1 ≡ true

  one_none : (q : Compared) → StaysAs P q → differences_of from to c d q ≡ []
  one_none q h =
      let same : same_passage (passage (fate_by c q.before q.was)) (passage (fate_by d q.after q.becomes)) ≡ true =
      (λ i. same_passage (passage (fate_by c q.before q.was)) (passage (fate_by d (h.decision i) (h.effect i)))) ∙ h.said in
      rw same refl

  all_none : (qs : List Compared) → All (StaysAs P) qs → flat_map (differences_of from to c d) qs ≡ []
  all_none [] h = refl
  all_none (q ∷ qs) h = λ i. one_none q (all_head (StaysAs P) q qs h) i ++ all_none qs (all_tail (StaysAs P) q qs h) i

  each_stays : (ks : List Claim) → list_all (λ k. stays_by c d (Some k.decision) k.effect) ks ≡ true → All (λ k. P (claimed k)) ks
  each_stays [] h = λ i k lt. absurd (omega (arith, lt))
  each_stays (k ∷ ks) h =
      let rest : Bool = list_all (λ l. stays_by c d (Some l.decision) l.effect) ks in
      All-cons (λ (l : Claim). P (claimed l)) k ks (and_first (stays_by c d (Some k.decision) k.effect) rest h)
      (each_stays ks (and_second (stays_by c d (Some k.decision) k.effect) rest h))

pub nothing_by : (c : Config) (a b : Network) (d : Config) (ks ls : List Claim) → ks ≡ ls
    → list_all (λ k. stays_by c d (Some k.decision) k.effect) ks ≡ true → differences_by c a b d ks ls ≡ []
nothing_by c a b d ks ls same h =
    subst (λ (ms : List Claim). differences_by c a b d ks ms ≡ []) same
    (all_none a.name b.name c d (laid_by ks ks)
    (all_alike (P a.name b.name c d) ks refl (each_stays a.name b.name c d ks h)))

either_stays : (c d : Config) (ks : List Claim) (q : Bool) → lead_alike c d ≡ q
    → (q || list_all (λ k. stays_by c d (Some k.decision) k.effect) ks) ≡ true → list_all (λ k. stays_by c d (Some k.decision) k.effect) ks ≡ true
either_stays c d ks true e h = all_stay c d ks e
either_stays c d ks false e h = h

pub nothing_new : (c : Config) (a b : Network) (d : Config) (ks ls : List Claim) → stay c d ks ls ≡ true → differences_by c a b d ks ls ≡ []
nothing_new c a b d ks ls h =
    let rest : Bool = lead_alike c d || list_all (λ k. stays_by c d (Some k.decision) k.effect) ks in
    nothing_by c a b d ks ls (claims_are ks ls (and_first (same_claims ks ls) rest h))
    (either_stays c d ks (lead_alike c d) refl (and_second (same_claims ks ls) rest h))
