use Rattle.std.proofs.Common.{ap, sym, ◌∙◌, ◌<◌, ◌≡◌, ◌≢◌, Ok, Err, Result, length, arith}
use Rattle.std.specs.Prelude.{⊤}
use Rattle.ov_link.specs.declared.step.NodeFault.{NodeFault}
use Rattle.ov_link.specs.declared.step.NodeFault.TheVariants.{LinkFailed, NoMemory}
use Rattle.running_nodes.specs.ConfigNode.Setting.{failed_link}
use Rattle.running_nodes.proofs.SetUp.{some_control}
use Rattle.running_nodes.proofs.Stepping.{config_long, sessions_of_config, sets_over}
use Rattle.running_nodes.proofs.acting.set_config.Goals as goal

pub set_valid-requires-clause-linked : goal.set_valid-requires-clause-linked
set_valid-requires-clause-linked c = c.requires.linked ∙ sessions_of_config c.args.node.now.setup

pub returns-in-Ok-clause-sets : goal.returns-in-Ok-clause-sets
returns-in-Ok-clause-sets c =
    let some = some_control c.args.node.now.setup.topology c.valid-valid.ensures.topology_form in
    let below : 0 < length c.args.node.now.posts = omega (arith, sessions_of_config c.args.node.now.setup) in
    let fine : c.set_valid.result ≢ Err NoMemory = λ e. let both : Ok tt ≡ Err NoMemory = sym c.in-Ok.is ∙ e in cc in
    sets_over c.args.node.now c.set_valid.new.self c.args.valid c.args.links.now c.set_valid.new.links (failed_link c.set_valid.result) below c.set_valid.ensures.links
    (c.set_valid.ensures.set fine) (c.set_valid.ensures.told fine).steps (c.set_valid.ensures.swept fine)

pub returns-in-Err-LinkFailed-clause-sets : goal.returns-in-Err-LinkFailed-clause-sets
returns-in-Err-LinkFailed-clause-sets c =
    let some = some_control c.args.node.now.setup.topology c.valid-valid.ensures.topology_form in
    let below : 0 < length c.args.node.now.posts = omega (arith, sessions_of_config c.args.node.now.setup) in
    let answer : c.set_valid.result ≡ Err (LinkFailed c.in-Err-LinkFailed.field-0-0) =
    c.in-Err-LinkFailed.is ∙ ap (λ (e : NodeFault). let r : Result ⊤ NodeFault = Err e in r) c.in-Err-LinkFailed.field-0-is in
    let fine : c.set_valid.result ≢ Err NoMemory = λ e. let both : Err (LinkFailed c.in-Err-LinkFailed.field-0-0) ≡ Err NoMemory = sym answer ∙ e in cc in
    sets_over c.args.node.now c.set_valid.new.self c.args.valid c.args.links.now c.set_valid.new.links (failed_link c.set_valid.result) below c.set_valid.ensures.links
    (c.set_valid.ensures.set fine) (c.set_valid.ensures.told fine).steps (c.set_valid.ensures.swept fine)

pub returns-in-Err-NoMemory-clause-long : goal.returns-in-Err-NoMemory-clause-long
returns-in-Err-NoMemory-clause-long c =
    (config_long c.args.node.now.setup c.set_valid.new.self.setup c.restart.new.self c.args.node.now.posts c.args.node.now.kept c.restart.ensures c.set_valid.ensures.controllers c.requires.long c.requires.kept).0

pub returns-in-Err-NoMemory-clause-kept : goal.returns-in-Err-NoMemory-clause-kept
returns-in-Err-NoMemory-clause-kept c =
    (config_long c.args.node.now.setup c.set_valid.new.self.setup c.restart.new.self c.args.node.now.posts c.args.node.now.kept c.restart.ensures c.set_valid.ensures.controllers c.requires.long c.requires.kept).1
