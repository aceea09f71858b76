-- Entries where they lie.
use Rattle.std.specs.Prelude.{◌≡◌, ℕ, List, ◌++◌, map, false}
use Rattle.bgp_wire.specs.Attributes.{AttributeFields}
use Rattle.ov_sync.specs.declared.Delta.{Delta}
use Rattle.bgp_vpn.specs.Routes.{RouteFields}
use Rattle.rt_membership.specs.declared.asked.Asked.{Asked}
use Rattle.rt_membership.specs.declared.entry.Entry.{Entry}
use Rattle.rt_membership.specs.declared.entries.Way.{Way}
use Rattle.rt_membership.specs.declared.entries.Way.TheVariants.{Withdrawn, Announced}
use Rattle.rt_membership.specs.Entries.{AreEntries}
use Rattle.rt_membership.specs.Memberships.{before_withdrawn, before_reached, dropped, put, has_cut_value}
use Rattle.rt_membership.specs.Memberships.{withdrawn_octets, announced_octets}

abbrev pub fields_of : Entry → RouteFields
fields_of e = record { bits = e.bits; octets = e.octets.now }

-- what stands before the entries that go this way, and what an entry changes
abbrev pub before_entries : Way → List ℕ → ℕ
before_entries Withdrawn = before_withdrawn
before_entries Announced = before_reached

abbrev pub change_by : Way → RouteFields → Delta Asked Unit
change_by Withdrawn = dropped
change_by Announced = put

-- what attributes change whose values are not cut
pub record AreChanges (attributes : List AttributeFields) (deltas : List (Delta Asked Unit)) : Type 0 where
  pub withdrawn : List RouteFields
  pub announced : List RouteFields
  pub whole : has_cut_value attributes ≡ false
  pub withdrawn_are : AreEntries (withdrawn_octets attributes) withdrawn
  pub announced_are : AreEntries (announced_octets attributes) announced
  pub made : deltas ≡ map dropped withdrawn ++ map put announced
