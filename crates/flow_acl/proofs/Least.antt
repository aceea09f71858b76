-- The access list that leads to the least network.
use Rattle.std.proofs.Common.{◌≡◌, ◌≢◌, inl, inr, ℕ, ◌<◌, ◌≤◌, ◌==◌, ◌&&◌, Bool, true, false, cond, leb, ltb, List, [], ◌∷◌, Option, Some, None, get_or, refl, sym, ap, ◌∙◌, subst, arith}
use Rattle.std.specs.List.{AllPairs, Contains, list_any}
use Rattle.std.proofs.lemmas.Bool.{leb-true, leb-false, ltb-true, ltb-false, eqb-true, and_parts}
use Rattle.std.proofs.lemmas.List.{get_or_default}
use Rattle.std.proofs.lemmas.List.Folds.{Any-from_list_any, list_any-from_Any}
use Rattle.ov_types.specs.Prefix.{Block, contains}
use Rattle.ov_types.specs.Access.{Access, access_by, access_towards, lesser}
use Rattle.ov_types.specs.declared.objects.AclRule.{AclRule}
use Rattle.ov_types.specs.declared.objects.LowKey.{LowKey}
use Rattle.ov_types.specs.declared.objects.LowKey.TheVariants as Key
use Rattle.ov_types.specs.declared.objects.LowValue.{LowValue}
use Rattle.ov_types.specs.declared.objects.LowValue.TheVariants as Value
use Rattle.ov_types.proofs.FirstLemmas.{contains_here, contains_later, contains_cases}
use Rattle.flow_acl.specs.Deciding.{Decides, IsMap, Leads}
use Rattle.flow_acl.proofs.Towards.{spelled}

-- two items of one key are one

module _ {K V : Type 0} (es : List (K × V)) where
  pub one_object : AllPairs (λ e f. e.0 ≢ f.0) es → (e f : K × V) → Contains es e → Contains es f → e.0 ≡ f.0 → e ≡ f
  one_object distinct e f (i, li, ei) (j, lj, ej) same =
      let there : get_or es j e ≡ f = get_or_default es j e f lj ∙ ej in
      let key : K × V → K = λ x. x.0 in
      let apart : i < j → ⊥ = λ lt. distinct i j e lt lj (ap key ei ∙ same ∙ ap key (sym there)) in
      let apart' : j < i → ⊥ = λ lt. distinct j i e lt li (ap key there ∙ sym same ∙ ap key (sym ei)) in
      elim (ltb i j) as (λ b. ltb i j ≡ b → e ≡ f) [
        | true ↦ λ q. absurd (apart (ltb-true _ _ q))
        | false ↦ λ q. elim (ltb j i) as (λ b. ltb j i ≡ b → e ≡ f) [
          | true ↦ λ r. absurd (apart' (ltb-true _ _ r))
          | false ↦ λ r.
              let below : j ≤ i = ltb-false _ _ q in
              let above : i ≤ j = ltb-false _ _ r in
              let place : i ≡ j = omega arith in
              sym ei ∙ ap (λ (k : ℕ). get_or es k e) place ∙ there
        ] refl
      ] refl

module _ (n a : ℕ) where
  abbrev at : LowKey × LowValue → Option Access
  at e = access_by n a e.0 e.1

  -- an object that leads somewhere is an access list, and the other way

  pub leads_some : (to : ℕ) (rules : List AclRule) (e : LowKey × LowValue) → Leads n a to rules e → at e ≡ Some (record { to = to; rules = rules })
  leads_some to rules e l =
      spelled n a n to e.0 e.1 l.subnets rules l.key l.value refl ∙ rw (list_any-from_Any (λ p. contains p a) l.subnets l.holding) refl

  leads_in : (from to : ℕ) (subnets : List Block) (rules : List AclRule) (x : Access) (b : Bool) → ((from == n) && list_any (λ p. contains p a) subnets) ≡ b
      → cond b (Some (record { to = to; rules = rules })) None ≡ Some x → Leads n a x.to x.rules (Key.Acl from to, Value.Acl subnets rules)
  leads_in from to subnets rules x false q h = cc
  leads_in from to subnets rules x true q h =
      let parts = and_parts (from == n) (list_any (λ p. contains p a) subnets) q in
      let made : Access = record { to = to; rules = rules } in
      let same : made ≡ x = cc in
      let here : from ≡ n = eqb-true _ _ parts.0 in
      subst (λ (y : Access). Leads n a y.to y.rules (Key.Acl from to, Value.Acl subnets rules)) same (record {
        subnets = subnets;
        key = ap (λ (f : ℕ). Key.Acl f to) here;
        value = refl;
        holding = Any-from_list_any (λ p. contains p a) subnets parts.1;
      })

  leads_at : (k : LowKey) (v : LowValue) (x : Access) → access_by n a k v ≡ Some x → Leads n a x.to x.rules (k, v)
  leads_at (Key.Acl from to) (Value.Acl subnets rules) x h = leads_in from to subnets rules x _ refl h
  leads_at _ _ x h = cc

  pub some_leads : (e : LowKey × LowValue) (x : Access) → at e ≡ Some x → Leads n a x.to x.rules e
  some_leads e x h = leads_at e.0 e.1 x h

  -- the lesser of two

  lesser_none : (x y : Option Access) → lesser x y ≡ None → (x ≡ None) × (y ≡ None)
  lesser_none None y h = (refl, h)
  lesser_none (Some x) None h = cc
  lesser_none (Some x) (Some y) h = elim (leb x.to y.to) as (λ b. cond b (Some x) (Some y) ≡ None → (Some x ≡ None) × (Some y ≡ None)) [ true ↦ λ q. cc | false ↦ λ q. cc ] h

  pub none_towards : (es : List (LowKey × LowValue)) → access_towards n a es ≡ None → (e : LowKey × LowValue) → Contains es e → at e ≡ None
  none_towards [] h e (k, lt, same) = absurd (omega arith)
  none_towards (f ∷ es) h e inside =
      let parts = lesser_none (at f) (access_towards n a es) h in
      elim (contains_cases f es e inside) [
        | inl same ↦ subst (λ (g : LowKey × LowValue). at g ≡ None) same parts.0
        | inr later ↦ none_towards es parts.1 e later
      ]

  pub towards_none : (es : List (LowKey × LowValue)) → ((e : LowKey × LowValue) → Contains es e → at e ≡ None) → access_towards n a es ≡ None
  towards_none [] h = refl
  towards_none (e ∷ es) h = rw (h e (contains_here e es)) (towards_none es (λ f inside. h f (contains_later f e es inside)))

  -- the object that is taken
  pub record IsTaken (es : List (LowKey × LowValue)) (x : Access) : Type 0 where
    pub object : LowKey × LowValue
    pub listed : Contains es object
    pub gives : at object ≡ Some x
    pub least : (other : LowKey × LowValue) (y : Access) → Contains es other → at other ≡ Some y → x.to ≤ y.to

  further : (f : LowKey × LowValue) (es : List (LowKey × LowValue)) (x : Access) (m : ℕ) → m ≤ x.to → IsTaken es x
      → (other : LowKey × LowValue) (y : Access) → Contains es other → at other ≡ Some y → m ≤ y.to
  further f es x m le t other y inside gives = let more : x.to ≤ y.to = t.least other y inside gives in omega arith

  first_only : (f : LowKey × LowValue) (es : List (LowKey × LowValue)) (x : Access) → at f ≡ Some x
      → ((other : LowKey × LowValue) (y : Access) → Contains es other → at other ≡ Some y → x.to ≤ y.to) → IsTaken (f ∷ es) x
  first_only f es x here rest = record {
    object = f;
    listed = contains_here f es;
    gives = here;
    least = λ other y inside gives. elim (contains_cases f es other inside) [
      | inl same ↦
          let also : at f ≡ Some y = ap at same ∙ gives in
          let one : x ≡ y = cc in
          let le : x.to ≤ x.to = omega arith in
          subst (λ (z : Access). x.to ≤ z.to) one le
      | inr later ↦ rest other y later gives
    ];
  }

  later_only : (f : LowKey × LowValue) (es : List (LowKey × LowValue)) (x : Access) → IsTaken es x
      → ((y : Access) → at f ≡ Some y → x.to ≤ y.to) → IsTaken (f ∷ es) x
  later_only f es x t first = record {
    object = t.object;
    listed = contains_later t.object f es t.listed;
    gives = t.gives;
    least = λ other y inside gives. elim (contains_cases f es other inside) [
      | inl same ↦ first y (ap at same ∙ gives)
      | inr later ↦ t.least other y later gives
    ];
  }

  of_both : (f : LowKey × LowValue) (es : List (LowKey × LowValue)) (u v x : Access) → at f ≡ Some u → IsTaken es v → lesser (Some u) (Some v) ≡ Some x → IsTaken (f ∷ es) x
  of_both f es u v x here t h =
      elim (leb u.to v.to) as (λ b. leb u.to v.to ≡ b → cond b (Some u) (Some v) ≡ Some x → IsTaken (f ∷ es) x) [
        | true ↦ λ q is. let same : u ≡ x = cc in subst (λ (y : Access). IsTaken (f ∷ es) y) same (first_only f es u here (further f es v u.to (leb-true _ _ q) t))
        | false ↦ λ q is.
            let same : v ≡ x = cc in
            let lt : v.to < u.to = leb-false _ _ q in
            subst (λ (y : Access). IsTaken (f ∷ es) y) same (later_only f es v t (λ y gives.
            let one : u ≡ y = cc in
            let le : v.to ≤ u.to = omega arith in
            subst (λ (z : Access). v.to ≤ z.to) one le))
      ] refl h

  pub taken_is : (es : List (LowKey × LowValue)) (x : Access) → access_towards n a es ≡ Some x → IsTaken es x
  taken_is [] x h = cc
  taken_is (f ∷ es) x h =
      elim (at f) as (λ o. at f ≡ o → lesser o (access_towards n a es) ≡ Some x → IsTaken (f ∷ es) x) [
        | None ↦ λ q is. later_only f es x (taken_is es x is) (λ y gives. cc)
        | Some u ↦ λ q is. elim (access_towards n a es) as (λ o. access_towards n a es ≡ o → lesser (Some u) o ≡ Some x → IsTaken (f ∷ es) x) [
          | None ↦ λ r here.
              let same : u ≡ x = cc in
              first_only f es x (q ∙ ap Some same) (λ other y inside gives. let none : at other ≡ None = none_towards es r other inside in cc)
          | Some v ↦ λ r here. of_both f es u v x q (taken_is es v r) here
        ] refl is
      ] refl h

  pub decided : (es : List (LowKey × LowValue)) (to : ℕ) (rules : List AclRule) → IsMap es → Decides es n a to rules → access_towards n a es ≡ Some (record { to = to; rules = rules })
  decided es to rules distinct d =
      let mine : Access = record { to = to; rules = rules } in
      let gives : at d.object ≡ Some mine = leads_some to rules d.object d.leading in
      elim (access_towards n a es) as (λ o. access_towards n a es ≡ o → o ≡ Some mine) [
        | None ↦ λ q. let none : at d.object ≡ None = none_towards es q d.object d.listed in cc
        | Some x ↦ λ q.
            let t : IsTaken es x = taken_is es x q in
            let other : Leads n a x.to x.rules t.object = some_leads t.object x t.gives in
            let low : x.to ≤ to = t.least d.object mine d.listed gives in
            let high : to ≤ x.to = d.least t.object x.to x.rules t.listed other in
            let place : x.to ≡ to = omega arith in
            let key : t.object.0 ≡ d.object.0 = other.key ∙ ap (λ (m : ℕ). Key.Acl n m) place ∙ sym d.leading.key in
            let one : t.object ≡ d.object = one_object es distinct t.object d.object t.listed d.listed key in
            sym t.gives ∙ ap at one ∙ gives
      ] refl
