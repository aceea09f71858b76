-- How many ports networks have at addresses.
use Rattle.std.specs.Prelude.{◌≡◌, ℕ, zero, suc, length, Bool, ◌==◌, ◌&&◌, if◌then◌else◌}
use Rattle.std.specs.declared.cmp.Ordering.{Ordering}
use Rattle.std.specs.declared.option.Option.{Option}
use Rattle.std.specs.declared.option.Option.TheVariants.{Some, None}
use Rattle.std.specs.BTreeMap as tree
use Rattle.std.specs.BTreeMap.{BTreeMap}
use Rattle.std.specs.List.{filter}
use Rattle.ov_types.specs.declared.objects.LowValue.{LowValue}
use Rattle.ov_types.specs.declared.objects.LowValue.TheVariants as low
use Rattle.path_select.specs.NodeModel.Maps.{Map}
use Rattle.path_select.specs.NodeModel.Wants.{networks_at}
use Rattle.vpn_holdings.specs.declared.ports.Site.{Site}
use Rattle.vpn_holdings.specs.contracts.ports.SiteOrd.TheImpl as site_keys

abbrev pub site_order : Site → Site → Ordering
site_order = site_keys.ghosts.cmp

-- where a port is counted
abbrev pub site_of : LowValue → Option Site
site_of (low.AttachPort port instance host node) = Some (record { address = node; network = instance })
site_of _ = None

abbrev pub same_site : Site → Site → Bool
same_site t s = (t.address.0 == s.address.0) && (t.network.0 == s.network.0)

-- 1 at the site where a port is counted
abbrev pub one_at : Option Site → Site → ℕ
one_at None s = 0
one_at (Some t) s = if same_site t s then 1 else 0

-- how many ports of a network are at an address
abbrev pub ports_at : Map → Site → ℕ
ports_at feed s = length (filter (λ n. n.0 == s.network.0) (networks_at feed s.address))

-- a number, where it is not 0
abbrev pub if_any : ℕ → Option ℕ
if_any zero = None
if_any (suc n) = Some (suc n)

-- what is kept are these numbers
abbrev pub Counts : BTreeMap Site ℕ → (Site → ℕ) → Type 0
Counts ports f = (s : Site) → tree.get site_order ports s ≡ if_any (f s)

abbrev pub AreCounted : BTreeMap Site ℕ → Map → Type 0
AreCounted ports feed = Counts ports (ports_at feed)
