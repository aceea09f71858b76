use Rattle.std.proofs.Common.{List, is_some, subst, sym, ◌∙◌}
use Rattle.std.proofs.lemmas.Bool.{true≢false}
use Rattle.node_core.specs.Whole.{session_of}
use Rattle.agent_tables.specs.Touched.{AgreeBut, RowKey}
use Rattle.agent_node.specs.Applying.{AreLed}
use Rattle.agent_node.specs.Core.{holdings}
use Rattle.agent_node.proofs.Led.{by_either, have_same, of_some, tables_kept, told_kept, told_listed, told_on}
use Rattle.agent_node.proofs.tabled.TabledEndsEnds.begin.Goals as goal

pub invariant_of-self-2 : goal.invariant_of-self-2
invariant_of-self-2 c =
    let before = c.self.inside.ends.posts in
    let after = c.apply-applied.new.self.posts in
    let keys = c.in-Some.routes.items in
    let led : AreLed keys (session_of c.args.input) before after =
    of_some (λ keys. AreLed keys.items (session_of c.args.input) before after) c.in_ok-started.field-0.routes
    c.in-Some.routes c.in-Some.is c.in_ok-started.ensures.led in (
      (λ on. c.in_ok-lead.ensures.led on (holdings before)
          (subst (λ (ks : List RowKey). AgreeBut ks (holdings before) (holdings after)) (sym c.deref.ensures.value) led.agree)
          (c.self.invariant.0 on)),
      λ off. absurd (true≢false (sym off)),
      λ on. told_on keys (session_of c.args.input) before after led (c.self.invariant.2 on),
      tt,
    )

pub invariant_of-self-in_default : goal.invariant_of-self-in_default
invariant_of-self-in_default c =
    let session = session_of c.args.input in
    let tables = c.self.inside.tables in
    let list = c.in_ok-started.field-0.list in
    let kept = c.in_ok-list.list in
    let before = c.self.inside.ends.posts in
    let after = c.apply-applied.new.self.posts in (
      λ on. tables_kept session before after c.self.inside.tables
          (c.in_ok-started.ensures.slice (c.are_both-self-inside.ensures.stay on))
          (c.self.invariant.0 (c.are_both-self-inside.ensures.before on)),
      λ on. record {
        before = holdings before;
        same = c.in_ok-started.ensures.stay (c.are_both-self-inside-in_default.ensures.stay on);
        are = c.self.invariant.0 (c.are_both-self-inside-in_default.ensures.before on);
      },
      λ on.
          let told = c.self.invariant.2 (c.are_both-self-inside-in_default-2.ensures.before on) in
          by_either c.in_ok-started.field-0.slice_stays (is_some kept)
          (sym c.wants_stay.ensures ∙ c.are_both-self-inside-in_default-2.ensures.stay on)
          (λ stays.
          let same = c.in_ok-started.ensures.slice stays in
          told_kept session before after same.held same.left same.slice told)
          (λ some. told_listed session before after tables list c.in_ok-started.ensures.list c.self.inside.current c.self.invariant.0
          kept c.in_ok-list.ensures.list c.in_ok-list.ensures.current c.in_ok-list.ensures.needs some told),
      have_same session before after tables list c.in_ok-started.ensures.list c.self.inside.current c.self.invariant.0
          kept c.in_ok-list.ensures.list c.in_ok-list.ensures.current c.in_ok-list.ensures.needs,
    )
