-- Uses of chains as the transformer holds them.
use Rattle.schema_transform.specs.declared.chain_use.ChainUse.{ChainUse}
use Rattle.transform_model.specs.Uses.{ConfiguredUse}

abbrev pub use_of : ChainUse → ConfiguredUse
use_of u = record { number = u.number; left = u.left; right = u.right; services = u.services }
