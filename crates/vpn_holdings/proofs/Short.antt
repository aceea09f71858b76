-- Held uses are short, and have small numbers.
use Rattle.std.specs.Prelude.{◌≡◌, ◌≤◌, ℕ, List}
use Rattle.std.proofs.lemmas.Option.{same_Some}
use Rattle.std.proofs.Common.{sym, ◌∙◌, ap, subst}
use Rattle.ov_sync.specs.Keyed.{Values, map_of}
use Rattle.ov_types.specs.declared.objects.LowKey.{LowKey}
use Rattle.ov_types.specs.declared.objects.LowKey.TheVariants as key
use Rattle.ov_types.specs.declared.objects.LowValue.{LowValue}
use Rattle.ov_types.specs.declared.objects.LowValue.TheVariants as low
use Rattle.path_select.specs.NodeModel.Members.{Member}
use Rattle.path_select.specs.NodeModel.Maps.{Map, as_object, objects}
use Rattle.path_select.specs.NodeModel.Reaching.{AreShort}
use Rattle.path_select.specs.NodeModel.Uses.{Use, as_use, uses}
use Rattle.path_select.proofs.NodeModel.Members.{from_filter_map, none_some}
use Rattle.path_select.proofs.NodeModel.Objects.{object_of}
use Rattle.std.specs.declared.option.Option.TheVariants.{Some}
use Rattle.vpn_holdings.specs.Ranges.{Fits}
use Rattle.vpn_holdings.specs.Views.{feed_of, low_order}
use Rattle.vpn_holdings.proofs.Images.{feed-object}

abbrev Entry : Type 0
Entry = LowKey × LowValue

-- no held use has a number above 3071
abbrev pub AreNumbered : Map → Type 0
AreNumbered feed = (u : Use) → Member u (uses feed) → u.number ≤ 3071

use_fits : (k : LowKey) (v : LowValue) (u : Use) → as_use k v ≡ Some u → Fits k v → (u.number ≤ 3071) × (u.services ≤ 15)
use_fits (key.ChainUse n) (low.ChainUse left right left_subnets right_subnets hops) u e fits =
    (subst (λ (s : ℕ). s ≤ 3071) (ap (λ (u : Use). u.number) (same_Some _ u e)) fits.0, subst (λ (s : ℕ). s ≤ 15) (ap (λ (u : Use). u.services) (same_Some _ u e)) fits.1)
use_fits (key.ChainUse n) (low.Instance imports) u e fits = absurd (none_some u e)
use_fits (key.ChainUse n) (low.AttachPort port instance host node) u e fits = absurd (none_some u e)
use_fits (key.ChainUse n) (low.AttachCircuit circuit service node) u e fits = absurd (none_some u e)
use_fits (key.ChainUse n) (low.Acl subnets rules) u e fits = absurd (none_some u e)
use_fits (key.Instance n) v u e fits = absurd (none_some u e)
use_fits (key.Attach n) v u e fits = absurd (none_some u e)
use_fits (key.Acl a b) v u e fits = absurd (none_some u e)

held_fits : (es : List Entry) → Values Fits (map_of low_order es) → (u : Use) → Member u (uses (feed_of es)) → (u.number ≤ 3071) × (u.services ≤ 15)
held_fits es fits u m =
    let q = from_filter_map (λ (e : Entry). as_use e.0 e.1) u (objects (feed_of es)) m in
    use_fits q.0.0 q.0.1 u q.2 (fits q.0.0 q.0.1 (sym (feed-object es q.0.0) ∙ ap as_object (object_of (feed_of es) q.0.0 q.0.1 q.1)))

pub short_feed : (es : List Entry) → Values Fits (map_of low_order es) → AreShort (feed_of es)
short_feed es fits u m = (held_fits es fits u m).1

pub numbered_feed : (es : List Entry) → Values Fits (map_of low_order es) → AreNumbered (feed_of es)
numbered_feed es fits u m = (held_fits es fits u m).0
