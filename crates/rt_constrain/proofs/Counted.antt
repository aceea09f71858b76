-- As many routes as entries.
use Rattle.std.specs.Prelude.{◌≡◌, suc, List, [], ◌∷◌, length, map, Bool, true, false, cond}
use Rattle.std.specs.List.{filter}
use Rattle.std.specs.List.Sorted.{IsStrictlySortedBy}
use Rattle.std.proofs.Common.{refl, sym, ◌∙◌, ap}
use Rattle.ov_sync.specs.Embed.{moved_entry}
use Rattle.node_model.specs.Keys.{Key, Vpn}
use Rattle.node_model.specs.Values.{Route}
use Rattle.ov_types.specs.declared.vpn.VpnRoute.{VpnRoute}
use Rattle.rt_constrain.specs.Cut.{restricted}
use Rattle.vpn_tables.specs.Views.{peer_of, vpn_order}
use Rattle.vpn_tables.proofs.Images.{peer-entries}
use Rattle.rt_constrain.specs.Sharing.{count}
use Rattle.rt_constrain.proofs.Passing.{Entry, kept_ascending, restricted_is}

mapped_long : {A B : Type 0} (f : A → B) (xs : List A) → length xs ≡ length (map f xs)
mapped_long f [] = refl
mapped_long f (x ∷ xs) = ap suc (mapped_long f xs)

pub count_is : (es : List Entry) → IsStrictlySortedBy vpn_order (map (λ e. e.0) es) → length es ≡ count (peer_of es)
count_is es sorted = mapped_long (moved_entry Vpn Route) es ∙ ap length (sym (peer-entries es sorted))

pub sent_is : (test : VpnRoute → Bool) (es : List Entry) → IsStrictlySortedBy vpn_order (map (λ e. e.0) es)
    → length (filter (λ (e : Entry). test e.1) es) ≡ count (restricted test (peer_of es))
sent_is test es sorted =
    count_is (filter (λ (e : Entry). test e.1) es) (kept_ascending test es sorted) ∙ ap count (restricted_is test es sorted)
