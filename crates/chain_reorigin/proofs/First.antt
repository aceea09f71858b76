-- The first of each key counts.
use Rattle.std.specs.Prelude.{◌≡◌, ◌≢◌, ◌↔◌, List, [], ◌∷◌, ◌++◌, map, true, false, cond}
use Rattle.std.specs.declared.cmp.Ordering.TheVariants.{Less}
use Rattle.std.specs.declared.option.Option.TheVariants.{Some}
use Rattle.std.specs.Ordering.{eq_by_cmp, is_eq}
use Rattle.std.specs.Cmp.{Equal-is, tied_itself}
use Rattle.std.specs.List.{AllByRecursion}
use Rattle.std.specs.List.Sorted.{IsStrictlySortedBy}
use Rattle.std.specs.FinMap.{entries, from_entries, find, get-from_entries}
use Rattle.std.proofs.Common.{refl, sym, ◌∙◌, ap, inl, inr}
use Rattle.std.proofs.lemmas.Bool.{true≢false}
use Rattle.std.proofs.lemmas.Option.{same_Some}
use Rattle.ov_sync.proofs.Ascending.{Over, Ascends, ascends_entries}
use Rattle.ov_types.specs.declared.vpn.VpnKey.{VpnKey}
use Rattle.ov_types.specs.declared.vpn.VpnRoute.{VpnRoute}
use Rattle.vpn_tables.specs.NodeModel.Members.{Member}
use Rattle.vpn_tables.specs.NodeModel.Paths.{Path}
use Rattle.vpn_tables.proofs.NodeModel.Members.{none_some, get_member, member_get}
use Rattle.vpn_tables.specs.Views.{vpn_order}
use Rattle.vpn_tables.proofs.NodeModel.Directions.{vpn_total, vpn_exact}
use Rattle.chain_reorigin.specs.Told.{told_key, told_path}
use Rattle.chain_reorigin.specs.Laws.{IsFirst}

ties : (k q : VpnKey) → q ≡ k → eq_by_cmp vpn_order k q ≡ true
ties k q e = ap is_eq (ap (vpn_order k) e ∙ tied_itself vpn_total k)

tied : (k q : VpnKey) → eq_by_cmp vpn_order k q ≡ true → q ≡ k
tied k q e = sym (vpn_exact k q ((Equal-is (vpn_order k q)).0 e))

none_more : (k : VpnKey) (p : Path) (before : List Path) → eq_by_cmp vpn_order k (told_key p) ≡ false → ((q : Path) → Member q before → told_key q ≢ k)
    → (q : Path) → Member q (p ∷ before) → told_key q ≢ k
none_more k p before t none q (inl is) e = absurd (true≢false (sym (ties k (told_key p) (ap told_key is ∙ e)) ∙ t))
none_more k p before t none q (inr m) e = none q m e

one_more : (p : Path) (paths : List Path) (k : VpnKey) (r : VpnRoute) → eq_by_cmp vpn_order k (told_key p) ≡ false → IsFirst paths k r → IsFirst (p ∷ paths) k r
one_more p paths k r t f = record {
  before = p ∷ f.before;
  path = f.path;
  after = f.after;
  stands = ap (λ (l : List Path). p ∷ l) f.stands;
  told = f.told;
  none_before = none_more k p f.before t f.none_before;
}

found_first : (paths : List Path) (k : VpnKey) (r : VpnRoute) → find vpn_order k (map told_path paths) ≡ Some r → IsFirst paths k r
found_first [] k r e = absurd (none_some r e)
found_first (p ∷ paths) k r e =
    elim (eq_by_cmp vpn_order k (told_key p)) as (λ b. eq_by_cmp vpn_order k (told_key p) ≡ b → cond b (Some (told_path p).1) (find vpn_order k (map told_path paths)) ≡ Some r → IsFirst (p ∷ paths) k r) [
      | true ↦ λ t e. record {
        before = [];
        path = p;
        after = paths;
        stands = refl;
        told = λ i. (tied k (told_key p) t i, same_Some (told_path p).1 r e i);
        none_before = λ q m. absurd m;
      }
      | false ↦ λ t e. one_more p paths k r t (found_first paths k r e)
    ] refl e

first_found : (before : List Path) (p : Path) (after : List Path) (k : VpnKey) (r : VpnRoute) → told_path p ≡ (k, r) → ((q : Path) → Member q before → told_key q ≢ k)
    → find vpn_order k (map told_path (before ++ p ∷ after)) ≡ Some r
first_found [] p after k r told none =
    ap (λ b. cond b (Some (told_path p).1) (find vpn_order k (map told_path after))) (ties k (told_key p) (ap (λ (e : VpnKey × VpnRoute). e.0) told))
    ∙ ap (λ (e : VpnKey × VpnRoute). Some e.1) told
first_found (q ∷ before) p after k r told none =
    elim (eq_by_cmp vpn_order k (told_key q)) as (λ b. eq_by_cmp vpn_order k (told_key q) ≡ b → cond b (Some (told_path q).1) (find vpn_order k (map told_path (before ++ p ∷ after))) ≡ Some r) [
      | true ↦ λ t. absurd (none q (inl refl) (tied k (told_key q) t))
      | false ↦ λ t. first_found before p after k r told (λ x m. none x (inr m))
    ] refl

pub exactly_first : (paths : List Path) (k : VpnKey) (r : VpnRoute) → Member (k, r) (entries (from_entries {R = vpn_order} (map told_path paths))) ↔ IsFirst paths k r
exactly_first paths k r = (
  (λ m. found_first paths k r (sym (get-from_entries vpn_total (map told_path paths) k) ∙ get_member vpn_total (from_entries (map told_path paths)) k r m)),
  (λ f. member_get vpn_total vpn_exact (from_entries (map told_path paths)) k r (
      get-from_entries vpn_total (map told_path paths) k ∙ ap (λ (l : List Path). find vpn_order k (map told_path l)) f.stands
      ∙ first_found f.before f.path f.after k r f.told f.none_before)),
)

over_all : (k : VpnKey) (es : List (VpnKey × VpnRoute)) → Over vpn_order k es → AllByRecursion (λ q. vpn_order k q ≡ Less) (map (λ e. e.0) es)
over_all k [] h = tt
over_all k (e ∷ es) h = (h.0, over_all k es h.1)

in_order : (es : List (VpnKey × VpnRoute)) → Ascends vpn_order es → IsStrictlySortedBy vpn_order (map (λ e. e.0) es)
unfolding IsStrictlySortedBy
in_order [] h = tt
in_order (e ∷ es) h = (over_all e.0 es h.0, in_order es h.1)

pub told_in_order : (paths : List Path) → IsStrictlySortedBy vpn_order (map (λ e. e.0) (entries (from_entries {R = vpn_order} (map told_path paths))))
told_in_order paths = in_order _ (ascends_entries vpn_order vpn_total (map told_path paths))
