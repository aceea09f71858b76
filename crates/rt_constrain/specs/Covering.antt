-- Which routes are covered by what is asked (RFC 4684, section 6).
use Rattle.std.specs.Prelude.{◌≡◌, ◌⊎◌, ◌<◌, ℕ, ◌+◌, ◌-◌, ◌/◌, ◌^◌, ◌==◌, ◌||◌, Bool, List}
use Rattle.std.specs.List.{list_any, AllByRecursion}
use Rattle.ov_types.specs.declared.targets.Target.{Target}
use Rattle.ov_types.specs.declared.vpn.VpnRoute.{VpnRoute}
use Rattle.node_model.specs.Members.{Member}
use Rattle.rt_membership.specs.declared.asked.Asked.{Asked}
use Rattle.rt_membership.specs.Asked.{IsAsked}

-- two targets have the same bits up to a length, of which 32 are the number of who asks
abbrev pub agree : ℕ → Target → Target → Bool
agree length t u = t.0 / 2 ^ (96 - length) == u.0 / 2 ^ (96 - length)

-- an entry asks for all routes where its length is 0, and else for those with a target that has its bits. Who asks is
-- passed over
abbrev pub is_covered_by : List Target → Asked → Bool
is_covered_by targets a = a.length == 0 || list_any (λ t. agree a.length t a.target) targets

-- one of what is asked covers a route
abbrev pub covers : List Asked → VpnRoute → Bool
covers asked r = list_any (is_covered_by r.targets) asked

-- all that is asked is a prefix of a length, and no bit past it
abbrev pub AreAsked : List Asked → Type 0
AreAsked asked = AllByRecursion IsAsked asked

-- ---- what is covered, said as relations
-- a target begins with the bits of what is asked: behind them it has any others
pub record BeginsWith (a : Asked) (t : Target) : Type 0 where
  pub others : ℕ
  pub fewer : others < 2 ^ (96 - a.length)
  pub is : t.0 ≡ a.target.0 + others

-- a route has a target that begins so
pub record HasTargetFrom (a : Asked) (r : VpnRoute) : Type 0 where
  pub target : Target
  pub has : Member target r.targets
  pub begins : BeginsWith a target

-- all routes are asked, or those of targets that begin so
pub record IsCovered (asked : List Asked) (r : VpnRoute) : Type 0 where
  pub by : Asked
  pub among : Member by asked
  pub covered : (by.length ≡ 0) ⊎ HasTargetFrom by r
