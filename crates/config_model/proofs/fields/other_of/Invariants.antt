use Rattle.std.proofs.Common.{◌≡◌, map}
use Rattle.serde_json.specs.View.{members_view}
use Rattle.config_model.specs.Fields.{first_other}
use Rattle.config_model.proofs.fields.other_of.Given as goal

abbrev pub invariant-loop-name : goal.invariant-loop-name
invariant-loop-name l =
    first_other (map (λ k. k.now) l.known) (members_view l.name-iterator) ≡ first_other (map (λ k. k.now) l.known) (members_view l.members.entries)
