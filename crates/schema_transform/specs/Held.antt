-- Circuits as the transformer holds them.
use Rattle.schema_transform.specs.declared.attachment.Attachment.{Attachment}
use Rattle.transform_model.specs.Uses.{Circuit}

abbrev pub circuit_of : Attachment → Circuit
circuit_of k = record { number = k.number; service = k.service }
