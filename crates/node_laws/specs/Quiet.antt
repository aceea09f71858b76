-- Agents of which a control node holds that they told nothing, or that they publish nothing.
use Rattle.std.specs.Prelude.{◌≡◌, ◌⊎◌, List, [], ◌∷◌}
use Rattle.std.specs.declared.option.Option.TheVariants.{None}
use Rattle.std.specs.FinMap.{empty, get}
use Rattle.node_model.specs.OvTypes.Prefix.{Block}
use Rattle.node_model.specs.OvTypes.InstanceId.{InstanceId}
use Rattle.node_model.specs.Keys.{Publish}
use Rattle.node_model.specs.Maps.{Map, as_label}
use Rattle.node_model.specs.Paths.{Holdings, Told}

-- the second list is the first without some agents that told nothing
abbrev pub IsWithout : List Told → List Told → Type 0
IsWithout [] us = us ≡ []
IsWithout (t ∷ ts) us =
    ((t.map ≡ empty) × IsWithout ts us) ⊎ ((rest : List Told) × (us ≡ t ∷ rest) × IsWithout ts rest)

-- the second is held where the first is, but for some agents that told nothing
pub record SameButQuiet (h k : Holdings) : Type 0 where
  pub asn : h.asn ≡ k.asn
  pub feed : h.feed ≡ k.feed
  pub peers : h.peers ≡ k.peers
  pub agents : IsWithout h.agents k.agents

-- ---- agents that publish nothing, whatever they subscribed
abbrev pub PublishesNothing : Map → Type 0
PublishesNothing told = (i : InstanceId) (prefix : Block) → as_label (get told (Publish i prefix)) ≡ None

-- the second list is the first without some agents that publish nothing
abbrev pub IsWithoutSilent : List Told → List Told → Type 0
IsWithoutSilent [] us = us ≡ []
IsWithoutSilent (t ∷ ts) us =
    (PublishesNothing t.map × IsWithoutSilent ts us)
    ⊎ ((rest : List Told) × (us ≡ t ∷ rest) × IsWithoutSilent ts rest)

-- the second is held where the first is, but for some agents that publish nothing
pub record SameButSilent (h k : Holdings) : Type 0 where
  pub asn : h.asn ≡ k.asn
  pub feed : h.feed ≡ k.feed
  pub peers : h.peers ≡ k.peers
  pub agents : IsWithoutSilent h.agents k.agents
