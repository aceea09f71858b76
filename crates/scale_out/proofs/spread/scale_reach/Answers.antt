use Rattle.std.proofs.Common.{◌≡◌, map}
use Rattle.scale_out.specs.Spread.{key, visit_by}
use Rattle.scale_out.proofs.Visiting.{visited, spread_is, once_is, members_are}
use Rattle.scale_out.proofs.spread.scale_reach.Goals as goal

pub returns-in-Delivered-clause-spread : goal.returns-in-Delivered-clause-spread
returns-in-Delivered-clause-spread c =
    let config = c.args.valid.now.config in
    let visits : c.visits_of-visits.result ≡ map (visit_by config c.args.groups.now (key config c.args.packet)) c.in-Delivered.services =
    visited config _ c.args.groups.now _ c.args.packet _ c.in-Delivered.services _ c.visits_of-visits.result c.config-config.ensures.part c.as_slice-several.ensures.groups c.key_of-key.ensures.value c.as_slice.ensures c.visits_of-visits.ensures in
    spread_is config c.args.groups.now c.args.packet c.in-Delivered.port c.in-Delivered.services c.visits_of-visits.result c.in-Delivered.ensures visits

pub returns-in-Delivered-clause-once : goal.returns-in-Delivered-clause-once
returns-in-Delivered-clause-once c =
    let config = c.args.valid.now.config in
    let visits : c.visits_of-visits.result ≡ map (visit_by config c.args.groups.now (key config c.args.packet)) c.in-Delivered.services =
    visited config _ c.args.groups.now _ c.args.packet _ c.in-Delivered.services _ c.visits_of-visits.result c.config-config.ensures.part c.as_slice-several.ensures.groups c.key_of-key.ensures.value c.as_slice.ensures c.visits_of-visits.ensures in
    once_is config c.args.groups.now c.args.packet c.in-Delivered.port c.in-Delivered.services c.visits_of-visits.result c.in-Delivered.ensures visits c.args.valid.now.topology c.config-config.ensures.valid

pub returns-in-Delivered-clause-members : goal.returns-in-Delivered-clause-members
returns-in-Delivered-clause-members c =
    let config = c.args.valid.now.config in
    let visits : c.visits_of-visits.result ≡ map (visit_by config c.args.groups.now (key config c.args.packet)) c.in-Delivered.services =
    visited config _ c.args.groups.now _ c.args.packet _ c.in-Delivered.services _ c.visits_of-visits.result c.config-config.ensures.part c.as_slice-several.ensures.groups c.key_of-key.ensures.value c.as_slice.ensures c.visits_of-visits.ensures in
    members_are config c.args.groups.now c.args.packet c.in-Delivered.port c.in-Delivered.services c.visits_of-visits.result c.in-Delivered.ensures visits c.as_slice-several.ensures.form
