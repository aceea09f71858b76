use Rattle.std.proofs.Common.{◌≡◌, map, refl, sym, ap, ◌∙◌, true}
use Rattle.std.specs.FinMap.{find}
use Rattle.std.specs.List.{list_all}
use Rattle.std.specs.Option.{option_copied}
use Rattle.ov_types.specs.Keys.{low_key_cmp}
use Rattle.ov_types.specs.declared.objects.LowKey.{LowKey}
use Rattle.ov_types.specs.declared.objects.LowKey.TheVariants.{Acl}
use Rattle.node_core.specs.NodeModel.Agent.{Holdings}
use Rattle.agent_tables.specs.Listed.{needed_at, object_in_use}
use Rattle.agent_tables.specs.Touched.{Tabled, is_listed}
use Rattle.agent_tables.specs.Views.{heard_of}
use Rattle.agent_tables.proofs.Listed.{needs_same}
use Rattle.agent_tables.proofs.Ordered.{find-lookup}
use Rattle.agent_tables.proofs.Slices.{low_total}
use Rattle.agent_tables.proofs.tables.AgentTables.needs_stay.Goals as goal

pub returns : goal.returns
returns c = λ on before are same i.
    let k : LowKey = Acl c.args.from.0 c.args.to.0 in
    let g : Holdings = map heard_of c.args.sessions.now in
    let t : Tabled = c.args.self.now in
    let needed : c.in_ok-needed.needed.items ≡ needed_at (object_in_use g k) =
    c.in_ok-needed.ensures ∙ ap needed_at c.object_in_use.ensures.object in
    let known : c.in_ok-known.known.items ≡ t.instances =
    c.in_ok-known.ensures ∙ ap (λ (u : Tabled). u.instances) c.self.view_is in
    let list : option_copied c.get.result ≡ find low_key_cmp k t.rows.acls =
    c.get.ensures ∙ sym (find-lookup low_key_cmp low_total k c.self.inside.acls)
    ∙ ap (λ (u : Tabled). find low_key_cmp k u.rows.acls) c.self.view_is in
    let within : list_all (λ i. is_listed t.instances i) (needed_at (object_in_use g k)) ≡ true =
    (λ x. list_all (λ i. is_listed (sym (c.deref.ensures.value ∙ known) x) i) (sym (c.deref-2.ensures.value ∙ needed) x))
    ∙ sym c.are_among.ensures ∙ c.if-not-are_among.false in
    needs_same k refl before g same t are within
    ((λ x. list_all (λ i. is_listed (sym (c.deref-3.ensures.value ∙ needed) x) i) (needed_at (sym list x))) ∙ c.needs_only.ensures on) i
