use Rattle.std.proofs.Common.{◌≡◌, ℕ, [], Some, ap, sym, subst, ◌∙◌}
use Rattle.node_core.specs.Begun.{HasBegun}
use Rattle.node_core.specs.Keeping.{left_in}
use Rattle.node_core.specs.Whole.{session_of}
use Rattle.node_core.specs.NodeModel.Step.{Beginning, post}
use Rattle.node_core.proofs.Begun.{begun_bytes, begun_closed, begun_opened, left_few}
use Rattle.agent_node.specs.Applying.{AreListed, HaveKeptSlice}
use Rattle.agent_node.specs.Beginning.{BeginsKeeping, session_at}
use Rattle.agent_node.specs.declared.begin.Applied.{Applied}
use Rattle.agent_node.proofs.Led.{if_some, of_some, slice_kept}
use Rattle.agent_node.proofs.ends.AgentEnds.apply.Goals as goal

pub returns-in_ok-replies-in-Opened-clause-begins : goal.returns-in_ok-replies-in-Opened-clause-begins
returns-in_ok-replies-in-Opened-clause-begins c =
    subst (λ (a : Applied). (given : Beginning)
    × BeginsKeeping c.args.self.now.plan (session_of c.args.input) (post c.args.self.now.posts (session_of c.args.input)) []
    c.args.input given a.started.cause (left_in c.args.input a.started.taken)
    × HasBegun c.args.self.now.posts (session_of c.args.input) given a.started.replies c.greet_at.new.self.posts)
    (sym c.without_records.ensures)
    (begun_opened c.args.self.now.plan.me.name (session_at c.args.self.now.plan) c.args.self.now.posts c.greet_at.new.self.posts c.args.input c.in-Opened.session
    c.in_ok-replies-in-Opened.replies c.in-Opened.is c.in_ok-replies-in-Opened.ensures.hello c.greet_at.ensures.opened)

pub returns-in_ok-taken-in-Bytes-clause-begins : goal.returns-in_ok-taken-in-Bytes-clause-begins
returns-in_ok-taken-in-Bytes-clause-begins c =
    begun_bytes c.args.self.now.plan.me.name (session_at c.args.self.now.plan) c.args.self.now.posts c.hear_on.new.self.posts c.args.input c.in-Bytes.session
    c.new.result c.in-Bytes.bytes c.in_ok-taken-in-Bytes.field-0.taken c.in_ok-taken-in-Bytes.field-0.cause c.in-Bytes.is
    c.new.ensures c.in_ok-taken-in-Bytes.ensures.heard

pub returns-in_ok-taken-in-Bytes-clause-few : goal.returns-in_ok-taken-in-Bytes-clause-few
returns-in_ok-taken-in-Bytes-clause-few c =
    let session = session_of c.args.input in
    let here = post c.args.self.now.posts session in
    let b = returns-in_ok-taken-in-Bytes-clause-begins c in
    left_few c.args.self.now.plan.me.name (session_at c.args.self.now.plan session here.phase) here [] c.args.input b.0
    c.in_ok-taken-in-Bytes.field-0.cause _ b.1

pub returns-in-Closed-clause-begins : goal.returns-in-Closed-clause-begins
returns-in-Closed-clause-begins c =
    subst (λ (a : Applied). (given : Beginning)
    × BeginsKeeping c.args.self.now.plan (session_of c.args.input) (post c.args.self.now.posts (session_of c.args.input)) []
    c.args.input given a.started.cause (left_in c.args.input a.started.taken)
    × HasBegun c.args.self.now.posts (session_of c.args.input) given a.started.replies c.close.new.self.posts)
    (sym c.without_records-in-Closed.ensures)
    (begun_closed c.args.self.now.plan.me.name (session_at c.args.self.now.plan) c.args.self.now.posts c.close.new.self.posts c.args.input c.in-Closed.session
    c.new-in-Closed.result c.in-Closed.is c.new-in-Closed.ensures c.close.ensures.closed)

pub returns-in_ok-taken-in-Bytes-clause-slice : goal.returns-in_ok-taken-in-Bytes-clause-slice
returns-in_ok-taken-in-Bytes-clause-slice c = λ on.
    let before = c.args.self.now.posts in
    let after = c.hear_on.new.self.posts in
    subst (λ (n : ℕ). HaveKeptSlice n before after) (sym (ap session_of c.in-Bytes.is))
    (slice_kept c.in-Bytes.session before after (sym c.is_in_use-in_use.ensures ∙ c.slice_stays.ensures.slice on)
    (c.in_ok-taken-in-Bytes.ensures.stay (c.slice_stays.ensures.routes on)))

pub returns-in_ok-taken-in-Bytes-clause-list : goal.returns-in_ok-taken-in-Bytes-clause-list
returns-in_ok-taken-in-Bytes-clause-list c =
    let before = c.args.self.now.posts in
    let after = c.hear_on.new.self.posts in
    let list = c.in_ok-taken-in-Bytes.field-0.list in
    if_some (λ n. list ≡ Some n) (λ n. AreListed n (session_of c.args.input) before after) c.list_in_use.result (λ n is.
    subst (λ (i : ℕ). AreListed n i before after) (sym (ap session_of c.in-Bytes.is))
    (of_some (λ n. AreListed n c.in-Bytes.session before after) list n is c.in_ok-taken-in-Bytes.ensures.list))
    c.list_in_use.ensures
