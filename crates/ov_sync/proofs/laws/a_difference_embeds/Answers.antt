use Rattle.ov_sync.proofs.EmbedLaws.{difference-embedded, changed-embedded}
use Rattle.ov_sync.proofs.laws.a_difference_embeds.Goals as goal

pub returns-clause-told : goal.returns-clause-told
returns-clause-told g c = λ f g' keeps agree.
    difference-embedded f g' g.met.K.Ord.total g.met.L.Ord.total keeps g.V.PartialEq.eq g.W.PartialEq.eq agree c.requires.keys

pub returns-clause-changed : goal.returns-clause-changed
returns-clause-changed g c = λ f g' keeps.
    changed-embedded f g' g.met.K.Ord.total g.met.L.Ord.total keeps c.requires.keys c.requires.images
