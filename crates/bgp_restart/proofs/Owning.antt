-- The value of the last change of a key is what stands there after all of them.
use Rattle.std.specs.Prelude.{◌≡◌, ℕ, Bool, true, false, cond, ◌||◌, List, [], ◌∷◌, ◌++◌, Some, None, is_some, option_and_then, get_or}
use Rattle.std.specs.declared.option.Option.{Option}
use Rattle.std.specs.declared.cmp.Ordering.{Ordering}
use Rattle.std.specs.Option.{option_or}
use Rattle.std.specs.Ordering.{nat_cmp, eq_by_cmp}
use Rattle.std.specs.Cmp.{IsTotalOrder, on_total}
use Rattle.std.specs.Cmp.Lexicographic.{slice_cmp, nat_list_cmp_total}
use Rattle.std.specs.FinMap.{FinMap, IsAntisymmetric, get, get-insert, get-remove, slice_cmp-IsAntisymmetric, nat_cmp-IsAntisymmetric}
use Rattle.std.proofs.Common.{refl, sym, ◌∙◌, ap, subst, rules}
use Rattle.std.proofs.Math.Bool.{or-false}
use Rattle.ov_types.specs.declared.vpn.VpnKey.{VpnKey}
use Rattle.ov_types.specs.declared.vpn.VpnRoute.{VpnRoute}
use Rattle.ov_sync.specs.declared.Delta.{Delta}
use Rattle.ov_sync.specs.declared.Delta.TheVariants.{Put, Drop}
use Rattle.ov_sync.specs.Keyed.{changed, after, key_of, is_changed}
use Rattle.bgp_restart.specs.Events.{key_order, value_of, last_change}

-- the order of keys is that of their numbers
abbrev numbers : VpnKey → List ℕ
numbers k = k.rd.0 ∷ k.prefix.addr ∷ k.prefix.len ∷ []

by_numbers : VpnKey → VpnKey → Ordering
by_numbers a b = slice_cmp nat_cmp (numbers a) (numbers b)

same_at : (a b : VpnKey) → by_numbers a b ≡ key_order a b
unfolding by_numbers
same_at a b = search rules

pub key_total : IsTotalOrder key_order
unfolding by_numbers
key_total = subst IsTotalOrder (λ i a b. same_at a b i) (on_total numbers nat_list_cmp_total)

abbrev Deltas : Type 0
Deltas = List (Delta VpnKey VpnRoute)

-- a key has a last change where it has one
pub changed_last : (ds : Deltas) (k : VpnKey) → is_changed key_order ds k ≡ is_some (last_change ds k)
changed_last [] k = refl
changed_last (d ∷ ds) k =
    ap (λ b. eq_by_cmp key_order k (key_of d) || b) (changed_last ds k)
    ∙ either (eq_by_cmp key_order k (key_of d)) (last_change ds k) where
      either : (b : Bool) (o : Option (Delta VpnKey VpnRoute)) → (b || is_some o) ≡ is_some (option_or o (cond b (Some d) None))
      either true None = refl
      either true (Some x) = refl
      either false None = refl
      either false (Some x) = refl

one_change : (m : FinMap key_order VpnRoute) (d : Delta VpnKey VpnRoute) (k : VpnKey) → get (changed m d) k ≡ cond (eq_by_cmp key_order k (key_of d)) (value_of d) (get m k)
one_change m (Put x v) k = get-insert key_total m x v k
one_change m (Drop x) k = get-remove key_total m x k

pub get-after : (ds : Deltas) (m : FinMap key_order VpnRoute) (k : VpnKey) → get (after m ds) k ≡ cond (is_changed key_order ds k) (option_and_then value_of (last_change ds k)) (get m k)
get-after [] m k = refl
get-after (d ∷ ds) m k =
    get-after ds (changed m d) k
    ∙ ap (λ b. cond b (option_and_then value_of (last_change ds k)) (get (changed m d) k)) (changed_last ds k)
    ∙ ap (λ g. cond (is_some (last_change ds k)) (option_and_then value_of (last_change ds k)) g) (one_change m d k)
    ∙ joined (last_change ds k) (eq_by_cmp key_order k (key_of d)) (get m k)
    ∙ ap (λ b. cond (eq_by_cmp key_order k (key_of d) || b) (option_and_then value_of (option_or (last_change ds k) (cond (eq_by_cmp key_order k (key_of d)) (Some d) None))) (get m k)) (sym (changed_last ds k)) where
      joined : (x : Option (Delta VpnKey VpnRoute)) (b : Bool) (g : Option VpnRoute) → cond (is_some x) (option_and_then value_of x) (cond b (value_of d) g) ≡ cond (b || is_some x) (option_and_then value_of (option_or x (cond b (Some d) None))) g
      joined None true g = refl
      joined None false g = refl
      joined (Some y) true g = refl
      joined (Some y) false g = refl

-- a key without a change has no value of its own
pub own_none : (ds : Deltas) (k : VpnKey) → is_changed key_order ds k ≡ false → option_and_then value_of (last_change ds k) ≡ None
own_none ds k e = none (last_change ds k) (sym (changed_last ds k) ∙ e) where
  none : (x : Option (Delta VpnKey VpnRoute)) → is_some x ≡ false → option_and_then value_of x ≡ None
  none None e = refl
  none (Some y) e = cc

-- more changes behind
pub changed-append : (ds es : Deltas) (k : VpnKey) → is_changed key_order (ds ++ es) k ≡ (is_changed key_order es k || is_changed key_order ds k)
changed-append [] es k = sym (or-false (is_changed key_order es k))
changed-append (d ∷ ds) es k = ap (λ b. eq_by_cmp key_order k (key_of d) || b) (changed-append ds es k) ∙ turned (eq_by_cmp key_order k (key_of d)) (is_changed key_order es k) (is_changed key_order ds k) where
  turned : (a b c : Bool) → (a || (b || c)) ≡ (b || (a || c))
  turned true true c = refl
  turned true false c = refl
  turned false true c = refl
  turned false false c = refl

pub last-append : (ds es : Deltas) (k : VpnKey) → last_change (ds ++ es) k ≡ option_or (last_change es k) (last_change ds k)
last-append [] es k = more (last_change es k) where
  more : (o : Option (Delta VpnKey VpnRoute)) → o ≡ option_or o None
  more None = refl
  more (Some x) = refl
last-append (d ∷ ds) es k = ap (λ o. option_or o (cond (eq_by_cmp key_order k (key_of d)) (Some d) None)) (last-append ds es k) ∙ grouped (last_change es k) (last_change ds k) (cond (eq_by_cmp key_order k (key_of d)) (Some d) None) where
  grouped : (a b c : Option (Delta VpnKey VpnRoute)) → option_or (option_or a b) c ≡ option_or a (option_or b c)
  grouped None b c = refl
  grouped (Some x) b c = refl

-- one key is forgotten after another
pub forgets : (k : VpnKey) (d : Delta VpnKey VpnRoute) (ds : Deltas) (g h w : Option VpnRoute) → h ≡ cond (eq_by_cmp key_order k (key_of d)) None g → cond (is_changed key_order (d ∷ ds) k) None g ≡ w → cond (is_changed key_order ds k) None h ≡ w
forgets k d ds g h w e all = ap (λ x. cond (is_changed key_order ds k) None x) e ∙ at (eq_by_cmp key_order k (key_of d)) (is_changed key_order ds k) ∙ all where
  at : (b c : Bool) → cond c None (cond b None g) ≡ cond (b || c) None g
  at true true = refl
  at true false = refl
  at false true = refl
  at false false = refl

back : List ℕ → VpnKey
back ns = record { rd = record { 0 = get_or ns 0 0 }; prefix = record { addr = get_or ns 1 0; len = get_or ns 2 0 } }

pub key_exact : IsAntisymmetric key_order
unfolding back by_numbers
key_exact a b e = ap back (slice_cmp-IsAntisymmetric nat_cmp-IsAntisymmetric (numbers a) (numbers b) (same_at a b ∙ e))
