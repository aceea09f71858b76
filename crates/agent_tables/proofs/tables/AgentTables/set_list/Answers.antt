use Rattle.std.proofs.Common.{◌≡◌, map, refl, sym, ap, ◌∙◌}
use Rattle.std.proofs.lemmas.Bool.{true≢false}
use Rattle.std.specs.FinMap.{find}
use Rattle.std.specs.Option.{option_copied}
use Rattle.ov_types.specs.Keys.{low_key_cmp}
use Rattle.ov_types.specs.declared.objects.LowKey.{LowKey}
use Rattle.ov_types.specs.declared.objects.LowKey.TheVariants.{Acl}
use Rattle.node_core.specs.NodeModel.Agent.{Holdings}
use Rattle.agent_tables.specs.Listed.{with_object}
use Rattle.agent_tables.specs.Touched.{Tabled}
use Rattle.agent_tables.specs.Views.{heard_of}
use Rattle.agent_tables.specs.contracts.tables.AgentTables.{the_view}
use Rattle.agent_tables.proofs.Listed.{stood_there, tables_listed, tables_stay}
use Rattle.agent_tables.proofs.Ordered.{find-lookup}
use Rattle.agent_tables.proofs.Slices.{low_total}
use Rattle.agent_tables.proofs.tables.AgentTables.set_list.Goals as goal

pub returns-then-are_same-clause-set : goal.returns-then-are_same-clause-set
returns-then-are_same-clause-set c = λ have.
    let k : LowKey = Acl c.args.from.0 c.args.to.0 in
    let g : Holdings = map heard_of c.args.sessions.now in
    let held : option_copied c.get.result ≡ find low_key_cmp k c.args.self.now.rows.acls =
    c.get.ensures ∙ sym (find-lookup low_key_cmp low_total k c.self.inside.acls)
    ∙ ap (λ (u : Tabled). find low_key_cmp k u.rows.acls) c.self.view_is in
    tables_stay k refl g c.args.self.now have
    (sym held ∙ c.are_same.ensures.0 c.if-are_same.true ∙ c.value_of.ensures ∙ c.object_in_use-list.ensures.object)

pub returns-clause-set : goal.returns-clause-set
returns-clause-set c = λ have.
    let k : LowKey = Acl c.args.from.0 c.args.to.0 in
    let g : Holdings = map heard_of c.args.sessions.now in
    tables_listed k refl g c.args.self.now
    (the_view (record { labels = c.self.inside.labels; acls = c.put_list.new.acls; fibs = c.self.inside.fibs })) have
    (c.in_ok-put_list.ensures.listed
    ∙ (λ x. with_object (c.self.view_is x).rows.acls k (c.object_in_use-list.ensures.object x)))
    (ap (λ (u : Tabled). u.rows.labels) c.self.view_is) (ap (λ (u : Tabled). u.rows.routes) c.self.view_is)
    (ap (λ (u : Tabled). u.instances) c.self.view_is)

pub returns-clause-stays : goal.returns-clause-stays
returns-clause-stays c = λ same.
    let k : LowKey = Acl c.args.from.0 c.args.to.0 in
    let stays : with_object c.self.inside.acls k _ ≡ c.self.inside.acls =
    sym c.in_ok-put_list.ensures.listed ∙ same ∙ sym (ap (λ (u : Tabled). u.rows.acls) c.self.view_is) in
    absurd (true≢false (sym (c.are_same.ensures.1 (c.get.ensures ∙ stood_there c.self.inside.acls k _ stays ∙ sym c.value_of.ensures))
    ∙ c.if-are_same.false))
