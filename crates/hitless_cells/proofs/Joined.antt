-- Which ports meet, and where.
use Rattle.std.proofs.Common.{◌≡◌, Bool, true, false, cond, List, [], ◌∷◌, filter, refl, sym, ap, ◌∙◌, subst}
use Rattle.std.specs.List.{Contains}
use Rattle.ov_types.specs.First.{same_name}
use Rattle.ov_types.proofs.FirstLemmas.{contains_here, same_name_iff}
use Rattle.config_types.specs.declared.config.Network.{Network}
use Rattle.config_types.specs.declared.config.Port.{Port}
use Rattle.policy_rules.proofs.Lists.{is_joined, is_kept, joined_is, kept_is}
use Rattle.config_check.specs.Checked.{Checked}
use Rattle.hitless_cells.specs.Ends.{ends_at, ends_from, ends_of, ends_to, joint_of, joints, joints_from, joints_if, meets}
use Rattle.hitless_cells.specs.declared.ends.Ends.{Ends}
use Rattle.hitless_cells.specs.declared.joints.Joint.{Joint}
use Rattle.hitless_cells.specs.declared.joints.Meeting.{Meeting}
use Rattle.hitless_cells.proofs.Celled.{nothing, sole}

module _ (x y : Checked) (m : Meeting) where
  -- two ports meet
  pub record IsJoint (j : Joint) : Type 0 where
    pub before : Contains x.config.ports j.before
    pub after : Contains y.config.ports j.after
    pub meet : meets m j.before j.after ≡ true
    pub made : joint_of x y j.before j.after ≡ j

  if_is : (q r : Port) (j : Joint) → Contains x.config.ports q → Contains y.config.ports r → Contains (joints_if x y m q r) j → IsJoint j
  if_is q r j in_q in_r at =
      elim (meets m q r) as (λ b. meets m q r ≡ b → Contains (cond b (joint_of x y q r ∷ []) []) j → IsJoint j) [
        | true ↦ λ e k. subst IsJoint (sole (joint_of x y q r) j k) (record { before = in_q; after = in_r; meet = e; made = refl })
        | false ↦ λ e k. nothing j k
      ] refl at

  joint_is : (j : Joint) → Contains (joints x y m) j → IsJoint j
  joint_is j at =
      let q = joined_is (joints_from x y m) x.config.ports j at in
      let r = joined_is (joints_if x y m q.0) y.config.ports j q.2 in
      if_is q.0 r.0 j q.1 r.1 r.2

  is_joint : (q r : Port) → Contains x.config.ports q → Contains y.config.ports r → meets m q r ≡ true → Contains (joints x y m) (joint_of x y q r)
  is_joint q r in_q in_r meet =
      let j : Joint = joint_of x y q r in
      let here : Contains (joints_if x y m q r) j = subst (λ (b : Bool). Contains (cond b (j ∷ []) []) j) (sym meet) (contains_here j []) in
      is_joined (joints_from x y m) x.config.ports q j in_q (is_joined (joints_if x y m q) y.config.ports r j in_r here)

  -- where ports meet, with both networks
  pub record AreEnds (e : Ends) (j : Joint) : Type 0 where
    pub own : Contains x.config.networks e.before
    pub target : Contains y.config.networks e.after
    pub joint : IsJoint j
    pub network_before : j.before.network ≡ e.before.name
    pub network_after : j.after.network ≡ e.after.name

  record IsAt (a b : Network) (js : List Joint) (e : Ends) : Type 0 where
    before : e.before ≡ a
    after : e.after ≡ b
    joints_are : e.joints ≡ js

  at_is : (a b : Network) (js : List Joint) (e : Ends) → Contains (ends_at a b js) e → IsAt a b js e
  at_is a b [] e at = nothing e at
  at_is a b (j ∷ js) e at =
      subst (IsAt a b (j ∷ js)) (sole (record { before = a; after = b; joints = j ∷ js }) e at) (record { before = refl; after = refl; joints_are = refl })

  is_at : (a b : Network) (js : List Joint) (j : Joint) → Contains js j → (e : Ends) × Contains (ends_at a b js) e × IsAt a b js e
  is_at a b [] j at = nothing j at
  is_at a b (i ∷ js) j at =
      let e : Ends = record { before = a; after = b; joints = i ∷ js } in
      (e, contains_here e [], record { before = refl; after = refl; joints_are = refl })

  abbrev of_before : Network → List Joint
  of_before a = filter (λ j. same_name j.before.network a.name) (joints x y m)

  abbrev of_both : Network → Network → List Joint
  of_both a b = filter (λ j. same_name j.after.network b.name) (of_before a)

  pub ends_are : (e : Ends) (j : Joint) → Contains (ends_of x y m) e → Contains e.joints j → AreEnds e j
  ends_are e j at in_j =
      let a = joined_is (ends_from y (joints x y m)) x.config.networks e at in
      let b = joined_is (ends_to a.0 (of_before a.0)) y.config.networks e a.2 in
      let is = at_is a.0 b.0 (of_both a.0 b.0) e b.2 in
      let in_both : Contains (of_both a.0 b.0) j = subst (λ (js : List Joint). Contains js j) is.joints_are in_j in
      let after = kept_is (λ (j : Joint). same_name j.after.network b.0.name) (of_before a.0) j in_both in
      let before = kept_is (λ (j : Joint). same_name j.before.network a.0.name) (joints x y m) j after.0 in
      record {
        own = subst (Contains x.config.networks) (sym is.before) a.1;
        target = subst (Contains y.config.networks) (sym is.after) b.1;
        joint = joint_is j before.0;
        network_before = (same_name_iff j.before.network a.0.name).0 before.1 ∙ sym (ap (λ (n : Network). n.name) is.before);
        network_after = (same_name_iff j.after.network b.0.name).0 after.1 ∙ sym (ap (λ (n : Network). n.name) is.after);
      }

  -- where two ports of these networks meet
  pub record MeetAt (a b : Network) (q r : Port) : Type 0 where
    pub ends : Ends
    pub stands : Contains (ends_of x y m) ends
    pub before : ends.before ≡ a
    pub after : ends.after ≡ b
    pub joint : Contains ends.joints (joint_of x y q r)

  pub meet_at : (a b : Network) (q r : Port) → Contains x.config.networks a → Contains y.config.networks b → Contains x.config.ports q → Contains y.config.ports r
      → q.network ≡ a.name → r.network ≡ b.name → meets m q r ≡ true → MeetAt a b q r
  meet_at a b q r in_a in_b in_q in_r named_q named_r meet =
      let j : Joint = joint_of x y q r in
      let near : Contains (of_before a) j =
      is_kept (λ (j : Joint). same_name j.before.network a.name) (joints x y m) j (is_joint q r in_q in_r meet) ((same_name_iff q.network a.name).1 named_q) in
      let both : Contains (of_both a b) j = is_kept (λ (j : Joint). same_name j.after.network b.name) (of_before a) j near ((same_name_iff r.network b.name).1 named_r) in
      let e = is_at a b (of_both a b) j both in
      record {
        ends = e.0;
        stands = is_joined (ends_from y (joints x y m)) x.config.networks a e.0 in_a (is_joined (ends_to a (of_before a)) y.config.networks b e.0 in_b e.1);
        before = e.2.before;
        after = e.2.after;
        joint = subst (λ (js : List Joint). Contains js j) (sym e.2.joints_are) both;
      }
