-- Verdicts in the words of access lists.
use Rattle.std.proofs.Common.{◌≡◌, ◌↔◌, ◌≢◌, ℕ, ◌++◌, ◌==◌, true, false, cond, IsTrue, List, [], ◌∷◌, Option, Some, None, find, refl, ap, ◌∙◌, rules, eq-eqb}
use Rattle.std.proofs.lemmas.Bool.{eqb-true}
use Rattle.std.specs.List.{All, Contains}
use Rattle.ov_types.specs.Access.{Access, access_by, holds, verdict, verdict_by, verdict_in, verdict_of}
use Rattle.ov_types.specs.declared.objects.AclAction.{AclAction}
use Rattle.ov_types.specs.declared.objects.AclAction.TheVariants as Does
use Rattle.ov_types.specs.declared.objects.AclRule.{AclRule}
use Rattle.ov_types.specs.declared.objects.LowKey.{LowKey}
use Rattle.ov_types.specs.declared.objects.LowValue.{LowValue}
use Rattle.ov_types.specs.declared.packet.Packet.{Packet}
use Rattle.ov_types.specs.declared.packet.RuleNo.{RuleNo}
use Rattle.ov_types.specs.declared.packet.Tuple.{Tuple}
use Rattle.ov_types.specs.declared.verdict.Verdict.TheVariants.{Pass, Denied, NoDestination}
use Rattle.ov_types.proofs.FirstLemmas.{all_head, all_tail, find_none}
use Rattle.flow_acl.specs.Deciding.{Decides, Holds, IsMap, Leads}
use Rattle.flow_acl.proofs.Least.{decided, leads_some, none_towards, some_leads, towards_none}

pub holds_iff : (r : AclRule) (t : Tuple) → IsTrue (holds r t) ↔ Holds r t
holds_iff r t = search rules

fails : (r : AclRule) (t : Tuple) → ¬ Holds r t → holds r t ≡ false
fails r t no_hold = elim (holds r t) as (λ b. holds r t ≡ b → b ≡ false) [ true ↦ λ q. absurd (no_hold ((holds_iff r t).0 q)) | false ↦ λ q. refl ] refl

all_fail : (t : Tuple) (rs : List AclRule) → All (λ e. ¬ Holds e t) rs → All (λ e. holds e t ≡ false) rs
all_fail t rs h = λ k d lt. fails _ t (h k d lt)

first_found : (t : Tuple) (before : List AclRule) (r : AclRule) (behind : List AclRule) → All (λ e. ¬ Holds e t) before → Holds r t
    → find (λ e. holds e t) (before ++ r ∷ behind) ≡ Some r
first_found t [] r behind none here = rw ((holds_iff r t).1 here) refl
first_found t (e ∷ before) r behind none here =
    rw (fails e t (all_head (λ f. ¬ Holds f t) e before none)) (first_found t before r behind (all_tail (λ f. ¬ Holds f t) e before none) here)

acts : (a : AclAction) (number : RuleNo) → verdict_of a number ≡ NoDestination → ⊥
acts Does.Pass number h = cc
acts Does.Deny number h = cc
acts (Does.Enter i) number h = cc

by_rule : (o : Option AclRule) → verdict_by o ≡ NoDestination → ⊥
by_rule None h = cc
by_rule (Some r) h = acts r.action r.rule h

by_list : (n : ℕ) (t : Tuple) (o : Option Access) → verdict_in n t o ≡ NoDestination → o ≡ None
by_list n t None h = refl
by_list n t (Some x) h =
    absurd (elim (x.to == n) as (λ b. cond b Pass (verdict_by (find (λ r. holds r t) x.rules)) ≡ NoDestination → ⊥) [
      | true ↦ λ q. cc
      | false ↦ λ q. by_rule (find (λ r. holds r t) x.rules) q
    ] h)

pub no_destination : (lists : List (LowKey × LowValue)) (n : ℕ) (p : Packet) → (verdict lists n p ≡ NoDestination)
    ↔ ((object : LowKey × LowValue) (to : ℕ) (rules : List AclRule) → Contains lists object → ¬ Leads n p.destination.0 to rules object)
unfolding verdict
no_destination lists n p =
    let a : ℕ = p.destination.0 in (
      λ h object to rs inside leads.
          let none : access_by n a object.0 object.1 ≡ None = none_towards n a lists (by_list n p.tuple _ h) object inside in
          let some = leads_some n a to rs object leads in
          cc,
      λ none. ap (verdict_in n p.tuple) (towards_none n a lists (λ e inside.
          elim (access_by n a e.0 e.1) as (λ o. access_by n a e.0 e.1 ≡ o → o ≡ None) [
            | None ↦ λ q. refl
            | Some x ↦ λ q. absurd (none e x.to x.rules inside (some_leads n a e x q))
          ] refl)),
    )

module _ (lists : List (LowKey × LowValue)) (n to : ℕ) (rs : List AclRule) (p : Packet) (distinct : IsMap lists) (d : Decides lists n p.destination.0 to rs) where
  by_it : verdict lists n p ≡ cond (to == n) Pass (verdict_by (find (λ r. holds r p.tuple) rs))
  unfolding verdict
  by_it = ap (verdict_in n p.tuple) (decided n p.destination.0 lists to rs distinct d)

  pub inside_passes : to ≡ n → verdict lists n p ≡ Pass
  inside_passes here = by_it ∙ rw (eq-eqb to n here) refl

  pub outside : to ≢ n → verdict lists n p ≡ verdict_by (find (λ r. holds r p.tuple) rs)
  outside apart = by_it ∙ elim (to == n) as (λ b. (to == n) ≡ b → cond b Pass (verdict_by (find (λ r. holds r p.tuple) rs)) ≡ verdict_by (find (λ r. holds r p.tuple) rs)) [
    | true ↦ λ q. absurd (apart (eqb-true to n q))
    | false ↦ λ q. refl
  ] refl

pub first_decides : (lists : List (LowKey × LowValue)) (n to : ℕ) (before : List AclRule) (r : AclRule) (behind : List AclRule) (p : Packet) → IsMap lists → to ≢ n
    → Decides lists n p.destination.0 to (before ++ r ∷ behind) → All (λ e. ¬ Holds e p.tuple) before → Holds r p.tuple → verdict lists n p ≡ verdict_of r.action r.rule
first_decides lists n to before r behind p distinct apart d none here =
    outside lists n to (before ++ r ∷ behind) p distinct d apart ∙ ap verdict_by (first_found p.tuple before r behind none here)

pub none_denies : (lists : List (LowKey × LowValue)) (n to : ℕ) (rs : List AclRule) (p : Packet) → IsMap lists → to ≢ n → Decides lists n p.destination.0 to rs
    → All (λ e. ¬ Holds e p.tuple) rs → verdict lists n p ≡ Denied None
none_denies lists n to rs p distinct apart d none =
    outside lists n to rs p distinct d apart ∙ ap verdict_by ((find_none (λ r. holds r p.tuple) rs).1 (all_fail p.tuple rs none))
