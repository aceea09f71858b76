-- What covers a route.
use Rattle.std.specs.Prelude.{◌≡◌, ◌⊎◌, ◌<◌, ◌≤◌, ℕ, zero, ◌+◌, ◌-◌, ◌*◌, ◌/◌, ◌%◌, ◌^◌, ◌==◌, ◌||◌, Bool, true, false, List, [], ◌∷◌, ◌↔◌, IsTrue}
use Rattle.std.specs.List.{list_any, AllByRecursion}
use Rattle.std.proofs.Common.{refl, sym, ◌∙◌, ap, subst, inl, inr, arith}
use Rattle.std.proofs.lemmas.Bool.{or_cases, eqb-true, eq-eqb}
use Rattle.std.proofs.lemmas.Nat.{pow-add, pow_pos, div-mul-add, div-add-mod'}
use Rattle.std.proofs.Math.Nat.{mod-lt, mul_assoc, mul-add-mod_self_right}
use Rattle.ov_types.specs.declared.targets.Target.{Target}
use Rattle.ov_types.specs.declared.vpn.VpnRoute.{VpnRoute}
use Rattle.node_model.specs.Members.{Member}
use Rattle.node_model.proofs.Members.{any_in, from_any}
use Rattle.rt_membership.specs.declared.asked.Asked.{Asked}
use Rattle.rt_membership.specs.Asked.{is_length, number_of, IsAsked}
use Rattle.rt_membership.proofs.Forms.{bits_of}
use Rattle.rt_constrain.specs.Covering.{agree, is_covered_by, covers, AreAsked, BeginsWith, HasTargetFrom, IsCovered}

pub form_of : (a : Asked) (asked : List Asked) → AreAsked asked → Member a asked → IsAsked a
form_of a [] all x = elim x [ ]
form_of a (b ∷ asked) all (inl same) = subst IsAsked same all.0
form_of a (b ∷ asked) all (inr later) = form_of a asked all.1 later

-- a target of what is asked has no bit past the length
no_bit_past : (a : Asked) → IsAsked a → 32 ≤ a.length → a.length ≤ 96 → a.target.0 % 2 ^ (96 - a.length) ≡ 0
no_bit_past a is low high =
    let k : ℕ = 96 - a.length in
    let parts : 64 ≡ (a.length - 32) + k = omega (arith, low, high) in
    let power : 2 ^ 64 ≡ 2 ^ (a.length - 32) * 2 ^ k = ap (λ (e : ℕ). 2 ^ e) parts ∙ pow-add 2 (a.length - 32) k in
    let first : a.origin * 2 ^ 64 ≡ a.origin * 2 ^ (a.length - 32) * 2 ^ k =
    ap (λ (p : ℕ). a.origin * p) power ∙ sym (mul_assoc a.origin (2 ^ (a.length - 32)) (2 ^ k)) in
    sym (mul-add-mod_self_right (a.origin * 2 ^ (a.length - 32)) (2 ^ k) a.target.0)
    ∙ ap (λ (n : ℕ). (n + a.target.0) % 2 ^ k) (sym first) ∙ is.past_the_length

-- a number with no bit past a length is its first bits
first_alone : (n w : ℕ) → n % w ≡ 0 → n ≡ n / w * w
first_alone n w none = sym (div-add-mod' n w) ∙ ap (λ (r : ℕ). n / w * w + r) none ∙ plus_none (n / w * w)
  where
    plus_none : (m : ℕ) → m + 0 ≡ m
    plus_none m = omega arith

module _ (a : Asked) (t : Target) (none : a.target.0 % 2 ^ (96 - a.length) ≡ 0) where
  begins : IsTrue (agree a.length t a.target) → BeginsWith a t
  begins same =
      let w : ℕ = 2 ^ (96 - a.length) in
      record {
        others = t.0 % w;
        fewer = mod-lt t.0 (pow_pos (96 - a.length));
        is = sym (div-add-mod' t.0 w) ∙ ap (λ (q : ℕ). q * w + t.0 % w) (eqb-true (t.0 / w) (a.target.0 / w) same)
            ∙ ap (λ (n : ℕ). n + t.0 % w) (sym (first_alone a.target.0 w none));
      }

  agrees : BeginsWith a t → IsTrue (agree a.length t a.target)
  agrees b =
      let w : ℕ = 2 ^ (96 - a.length) in
      eq-eqb (t.0 / w) (a.target.0 / w)
      (ap (λ (n : ℕ). n / w) b.is ∙ ap (λ (n : ℕ). (n + b.others) / w) (first_alone a.target.0 w none)
      ∙ div-mul-add (a.target.0 / w) w b.others b.fewer)

-- ---- what covers a route
module _ (r : VpnRoute) where
  covered_by : (a : Asked) → IsAsked a → is_covered_by r.targets a ≡ true → (a.length ≡ 0) ⊎ HasTargetFrom a r
  covered_by a is h =
      elim (or_cases (a.length == 0) _ h) [
        | inl all ↦ inl (eqb-true a.length 0 all)
        | inr some ↦ elim (bits_of a.length is.length) [
          | inl none ↦ inl none
          | inr bits ↦
              let t = from_any (λ (t : Target). agree a.length t a.target) r.targets some in
              inr (record { target = t.0; has = t.1; begins = begins a t.0 (no_bit_past a is bits.low bits.high) t.2 })
        ]
      ]

  covers_all : (a : Asked) → a.length ≡ 0 → is_covered_by r.targets a ≡ true
  covers_all a none = ap (λ b. b || list_any (λ t. agree a.length t a.target) r.targets) (eq-eqb a.length 0 none)

  covers_some : (a : Asked) → IsAsked a → HasTargetFrom a r → is_covered_by r.targets a ≡ true
  covers_some a is h =
      elim (bits_of a.length is.length) [
        | inl none ↦ covers_all a none
        | inr bits ↦ or_right (a.length == 0) _
            (any_in (λ (t : Target). agree a.length t a.target) h.target r.targets h.has (agrees a h.target (no_bit_past a is bits.low bits.high) h.begins))
      ]
    where
      or_right : (b c : Bool) → c ≡ true → (b || c) ≡ true
      or_right true c h = refl
      or_right false c h = h

pub covers_it : (asked : List Asked) (r : VpnRoute) → AreAsked asked → (covers asked r ≡ true) ↔ IsCovered asked r
covers_it asked r all = (
  (λ h.
      let a = from_any (is_covered_by r.targets) asked h in
      record { by = a.0; among = a.1; covered = covered_by r a.0 (form_of a.0 asked all a.1) a.2 }),
  (λ c. any_in (is_covered_by r.targets) c.by asked c.among (elim c.covered [
    | inl none ↦ covers_all r c.by none
    | inr some ↦ covers_some r c.by (form_of c.by asked all c.among) some
  ])),
)
