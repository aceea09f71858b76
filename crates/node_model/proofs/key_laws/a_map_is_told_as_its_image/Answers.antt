use Rattle.ov_sync.proofs.EmbedLaws.{difference-embedded, changed-embedded, get_embedded}
use Rattle.node_model.specs.Values.{same_value}
use Rattle.node_model.proofs.Orders.{key_total, key_exact}
use Rattle.node_model.proofs.key_laws.a_map_is_told_as_its_image.Goals as goal

pub returns-clause-told : goal.returns-clause-told
returns-clause-told g c = λ f g' keeps agree. difference-embedded f g' g.met.K.Ord.total key_total keeps g.V.PartialEq.eq same_value agree c.requires

pub returns-clause-changed : goal.returns-clause-changed
returns-clause-changed g c = λ f g' keeps. changed-embedded f g' g.met.K.Ord.total key_total keeps c.requires key_exact

pub returns-clause-held : goal.returns-clause-held
returns-clause-held g c = λ f g' keeps. get_embedded f g' g.met.K.Ord.total key_total keeps
