use Rattle.std.proofs.Common.{◌≡◌, List, ap, sym, subst, ◌∙◌, map}
use Rattle.ov_types.specs.declared.numbers.InstanceId.{InstanceId}
use Rattle.node_core.specs.NodeModel.Agent.{Holdings, is_needed}
use Rattle.agent_tables.specs.Routes.{Table}
use Rattle.agent_tables.specs.Touched.{AreTables, Tabled, is_listed}
use Rattle.agent_tables.specs.Views.{heard_of}
use Rattle.agent_tables.proofs.Touched.{has_listed, objects_set}
use Rattle.agent_tables.proofs.tables.AgentTables.set_objects.Goals as goal

pub returns-then-same-clause-set : goal.returns-then-same-clause-set
returns-then-same-clause-set c = λ have.
    let h : Holdings = map heard_of c.args.sessions.now in
    let of = c.in_ok-tables.ensures in
    let made = c.in_ok-tables.tables in
    let same : map (λ (f : Table). f.0) c.self.inside.fibs.entries ≡ map (λ (f : Table). f.0) made.fibs.entries =
    c.in_ok-same.ensures.0 c.if-same.true in
    let needs : (i : InstanceId) → is_listed c.args.self.now.instances i ≡ is_needed h i =
    λ i. ap (λ (u : Tabled). is_listed u.instances i) (sym c.self.view_is)
    ∙ ap (λ (is : List InstanceId). is_listed is i) same ∙ sym (has_listed made.fibs.entries i) ∙ of.tables i in
    objects_set have.before h c.args.self.now c.put_objects.new.self have.are have.same needs
    (ap (λ (u : Tabled). u.rows.labels) c.put_objects.ensures.put ∙ of.labels)
    (ap (λ (u : Tabled). u.rows.acls) c.put_objects.ensures.put ∙ of.lists)
    (ap (λ (u : Tabled). u.rows.routes) c.put_objects.ensures.put)
    (ap (λ (u : Tabled). u.instances) c.put_objects.ensures.put)

pub returns-clause-set : goal.returns-clause-set
returns-clause-set c = λ have. subst (AreTables (map heard_of c.args.sessions.now)) (sym c.renew.ensures.tables) c.in_ok-made.ensures
