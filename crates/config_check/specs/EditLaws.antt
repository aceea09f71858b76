-- What an edit does to the list of its kind, and what it leaves.
use Rattle.std.specs.Prelude.{◌≡◌, ◌≢◌, ◌↔◌, ℕ, ◌⊎◌, List, [], ◌∷◌, ◌++◌, map, None}
use Rattle.std.specs.List.{All}
use Rattle.config_types.specs.declared.config.Chain.{Chain}
use Rattle.config_types.specs.declared.config.Network.{Network}
use Rattle.config_types.specs.declared.config.Policy.{Policy}
use Rattle.config_types.specs.declared.config.Port.{Port}
use Rattle.config_types.specs.declared.config.Service.{Service}
use Rattle.config_types.specs.declared.topology.Node.{Node}
use Rattle.config_types.specs.declared.edit.Edit.TheVariants.{Put, Delete}
use Rattle.config_types.specs.declared.edit.Object.{Object}
use Rattle.config_types.specs.declared.edit.ObjectKind.{ObjectKind}
use Rattle.config_check.specs.Sentences.{AreDistinct}
use Rattle.config_check.specs.Checked.{Checked}
use Rattle.config_check.specs.Edits.{edited, missing_name}

-- a list has x in the place of one of its name, and each other object as it was; where names were distinct, none of
-- these has the name
pub record Replaces {A : Type 0} (name_of : A → List ℕ) (x : A) (old new : List A) : Type 0 where
  pub before : List A
  pub replaced : A
  pub after : List A
  pub was : old ≡ before ++ replaced ∷ after
  pub is : new ≡ before ++ x ∷ after
  pub named : name_of replaced ≡ name_of x
  pub others : AreDistinct (map name_of old) → All (λ y. name_of y ≢ name_of x) (before ++ after)

-- a list has x after all that it had, none of which has its name
pub record Appends {A : Type 0} (name_of : A → List ℕ) (x : A) (old new : List A) : Type 0 where
  pub is : new ≡ old ++ x ∷ []
  pub fresh : All (λ y. name_of y ≢ name_of x) old

-- a list has all but one object of a name; where names were distinct, none that it has has the name
pub record Removes {A : Type 0} (name_of : A → List ℕ) (name : List ℕ) (old new : List A) : Type 0 where
  pub before : List A
  pub removed : A
  pub after : List A
  pub was : old ≡ before ++ removed ∷ after
  pub is : new ≡ before ++ after
  pub named : name_of removed ≡ name
  pub others : AreDistinct (map name_of old) → All (λ y. name_of y ≢ name) new

-- a put of an object of this kind replaces or appends it in the list of its kind, and leaves the other lists
abbrev pub PutIs : {A : Type 0} → (A → List ℕ) → (A → Object) → (Checked → List A) → (Checked → List A → Checked) → Type 0
PutIs {A} name_of object list with_list =
    (x : A) (v : Checked)
    → (new : List A) × (Replaces name_of x (list v) new ⊎ Appends name_of x (list v) new)
    × (edited (Put (object x)) v ≡ with_list v new)

-- a delete of a name that is not missing removes it from the list of its kind, and leaves the other lists
abbrev pub DeleteIs : {A : Type 0} → (A → List ℕ) → ObjectKind → (Checked → List A) → (Checked → List A → Checked) → Type 0
DeleteIs {A} name_of kind list with_list =
    (name : List ℕ) (v : Checked) → missing_name (Delete kind name) v ≡ None
    → (new : List A) × Removes name_of name (list v) new × (edited (Delete kind name) v ≡ with_list v new)

-- a name is missing exactly where no object of the kind has it
abbrev pub MissingIs : {A : Type 0} → (A → List ℕ) → ObjectKind → (Checked → List A) → Type 0
MissingIs {A} name_of kind list =
    (name : List ℕ) (v : Checked) → (missing_name (Delete kind name) v ≢ None) ↔ All (λ y. name_of y ≢ name) (list v)

abbrev pub networks_of : Checked → List Network
networks_of v = v.config.networks

abbrev pub ports_of : Checked → List Port
ports_of v = v.config.ports

abbrev pub policies_of : Checked → List Policy
policies_of v = v.config.policies

abbrev pub services_of : Checked → List Service
services_of v = v.config.services

abbrev pub chains_of : Checked → List Chain
chains_of v = v.config.chains

abbrev pub with_networks : Checked → List Network → Checked
with_networks v xs = record { topology = v.topology; config = record v.config { networks = xs } }

abbrev pub with_ports : Checked → List Port → Checked
with_ports v xs = record { topology = v.topology; config = record v.config { ports = xs } }

abbrev pub with_policies : Checked → List Policy → Checked
with_policies v xs = record { topology = v.topology; config = record v.config { policies = xs } }

abbrev pub with_services : Checked → List Service → Checked
with_services v xs = record { topology = v.topology; config = record v.config { services = xs } }

abbrev pub with_chains : Checked → List Chain → Checked
with_chains v xs = record { topology = v.topology; config = record v.config { chains = xs } }

abbrev pub nodes_of : Checked → List Node
nodes_of v = v.topology.nodes

abbrev pub with_nodes : Checked → List Node → Checked
with_nodes v xs = record { topology = record v.topology { nodes = xs }; config = v.config }
