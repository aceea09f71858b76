-- How refusals are printed: the rule, and the objects that break it.
use Rattle.std.specs.Prelude.{ℕ, ◌++◌, List, codes, decimal}
use Rattle.ov_types.specs.Rows.{rule_text}
use Rattle.ov_types.specs.Texts.{address_text, prefix_text}
use Rattle.config_check.specs.declared.refusal.IdKind.{IdKind}
use Rattle.config_check.specs.declared.refusal.IdKind.TheVariants.{Address, Network, Port, Sequence, Service, Use}
use Rattle.config_check.specs.declared.refusal.LimitKind.{LimitKind}
use Rattle.config_check.specs.declared.refusal.LimitKind.TheVariants.{Controllers, Nodes, Networks, Ports, Policies}
use Rattle.config_check.specs.declared.refusal.LimitKind.TheVariants.{Services, Chains, Subnets, Attachments, Rules}
use Rattle.config_check.specs.declared.refusal.LimitKind.TheVariants.{Hops}
use Rattle.config_check.specs.declared.refusal.Refusal.{Refusal}
use Rattle.config_check.specs.declared.refusal.Refusal.TheVariants.{Limit, DuplicateName, DuplicateId, BadReference}
use Rattle.config_check.specs.declared.refusal.Refusal.TheVariants.{SubnetReserved, SubnetNested, AddressOutside}
use Rattle.config_check.specs.declared.refusal.Refusal.TheVariants.{AddressTaken, ChainNeedsNetworks}
use Rattle.config_check.specs.declared.refusal.Refusal.TheVariants.{ChainSameNetwork, ChainLoop, ChainTooLong}
use Rattle.config_check.specs.declared.refusal.Refusal.TheVariants.{ServiceTwice, SubnetOverlap}

-- what is counted
abbrev pub limit_word : LimitKind → List ℕ
limit_word Controllers = codes "controllers"
limit_word Nodes = codes "nodes"
limit_word Networks = codes "networks"
limit_word Ports = codes "ports"
limit_word Policies = codes "policies"
limit_word Services = codes "services"
limit_word Chains = codes "chains"
limit_word Subnets = codes "subnets"
limit_word Attachments = codes "attachments"
limit_word Rules = codes "rules"
limit_word Hops = codes "hops"

-- what a number names
abbrev pub id_word : IdKind → List ℕ
id_word Address = codes "address"
id_word Network = codes "network"
id_word Port = codes "port"
id_word Sequence = codes "sequence"
id_word Service = codes "service"
id_word Use = codes "use"

-- the number, an address as one
abbrev pub id_text : IdKind → ℕ → List ℕ
id_text Address id = address_text id
id_text _ id = decimal id

abbrev pub refusal_text : Refusal → List ℕ
refusal_text (Limit what) = codes "Limit " ++ limit_word what
refusal_text (DuplicateName name) = codes "DuplicateName " ++ name
refusal_text (DuplicateId what id) = codes "DuplicateId " ++ (id_word what ++ (codes " " ++ id_text what id))
refusal_text (BadReference name) = codes "BadReference " ++ name
refusal_text (SubnetReserved network prefix) = codes "SubnetReserved " ++ (network ++ (codes " " ++ prefix_text prefix))
refusal_text (SubnetNested network first second) =
    codes "SubnetNested " ++ (network ++ (codes " " ++ (prefix_text first ++ (codes " " ++ prefix_text second))))
refusal_text (AddressOutside port) = codes "AddressOutside " ++ port
refusal_text (AddressTaken first second) = codes "AddressTaken " ++ (first ++ (codes " " ++ second))
refusal_text (ChainNeedsNetworks rule) = codes "ChainNeedsNetworks " ++ rule_text rule
refusal_text (ChainSameNetwork rule) = codes "ChainSameNetwork " ++ rule_text rule
refusal_text (ChainLoop chain) = codes "ChainLoop " ++ chain
refusal_text (ChainTooLong chain) = codes "ChainTooLong " ++ chain
refusal_text (ServiceTwice chain service) = codes "ServiceTwice " ++ (chain ++ (codes " " ++ service))
refusal_text (SubnetOverlap first second) = codes "SubnetOverlap " ++ (first ++ (codes " " ++ second))
