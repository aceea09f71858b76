use Rattle.std.proofs.Common.{◌≡◌, List, ap, sym, subst, refl, ◌∙◌, map}
use Rattle.std.specs.List.Sorted.{IsStrictlySortedBy}
use Rattle.ov_sync.proofs.Ascending.{ascends}
use Rattle.ov_types.specs.declared.numbers.InstanceId.{InstanceId}
use Rattle.node_core.specs.NodeModel.Agent.{Holdings, needed, routes, rows_heard}
use Rattle.agent_tables.specs.Routes.{Table, instance_order, routes_of}
use Rattle.agent_tables.specs.Touched.{is_listed}
use Rattle.agent_tables.specs.Views.{heard_of}
use Rattle.agent_tables.proofs.Routes.{keys_all, routes_heard}
use Rattle.agent_tables.proofs.Touched.{has_listed}
use Rattle.agent_tables.proofs.tables.AgentTables.with_heard.Goals as goal

pub invariant_of-result : goal.invariant_of-result
invariant_of-result c =
    let heard = rows_heard (map heard_of c.args.sessions.now) in
    let keys : map (λ (t : Table). t.0) c.keep_heard.new.fibs.entries ≡ map (λ (t : Table). t.0) c.args.tables.fibs.entries =
    ap (map (λ (t : Table). t.0)) c.in_ok-keep_heard.ensures ∙ keys_all heard c.args.tables.fibs.entries in
    (c.requires.circuits, subst (IsStrictlySortedBy instance_order) (sym keys) c.requires.ascending)

pub returns : goal.returns
returns c =
    let h : Holdings = map heard_of c.args.sessions.now in
    let heard : routes_of c.keep_heard.new.fibs.entries ≡ routes h =
    ap routes_of c.in_ok-keep_heard.ensures
    ∙ routes_heard h c.args.tables.fibs.entries (needed h) (ascends instance_order c.args.tables.fibs.entries c.requires.ascending)
    c.requires.empty c.requires.tables refl in
    record {
      rows = λ i. record { labels = c.requires.labels i; acls = c.requires.lists i; routes = heard i };
      instances = λ i. ap (λ (is : List InstanceId). is_listed is i)
          (ap (map (λ (t : Table). t.0)) c.in_ok-keep_heard.ensures ∙ keys_all (rows_heard h) c.args.tables.fibs.entries)
          ∙ sym (has_listed c.args.tables.fibs.entries i) ∙ c.requires.tables i;
    }
