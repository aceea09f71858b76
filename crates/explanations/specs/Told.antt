-- What the line of each refusal has to tell: its rule, and the texts of its objects.
use Rattle.std.specs.Prelude.{◌≡◌, ◌^◌, ◌<◌, ◌++◌, [], ◌∷◌, codes, IsTrue, Some, ⊤}
use Rattle.ov_types.specs.Name.{is_name}
use Rattle.ov_types.specs.Rows.{rule_text}
use Rattle.ov_types.specs.Texts.{prefix_text}
use Rattle.ov_types.specs.declared.packet.RuleNo.{RuleNo}
use Rattle.config_check.specs.Texts.{id_text, id_word, limit_word, refusal_text}
use Rattle.config_check.specs.declared.refusal.Refusal.{Refusal}
use Rattle.config_check.specs.declared.refusal.Refusal.TheVariants as Broken
use Rattle.explanations.specs.Refusals.{RefusedWords, refused_in}
use Rattle.explanations.specs.declared.rule.RuleKind.TheVariants as Rule

abbrev pub words_of : Refusal → RefusedWords
words_of (Broken.Limit what) = record { rule = Rule.Limit; first = limit_word what; second = []; third = [] }
words_of (Broken.DuplicateName name) = record { rule = Rule.DuplicateName; first = name; second = []; third = [] }
words_of (Broken.DuplicateId what id) =
    record { rule = Rule.DuplicateId; first = id_word what; second = id_text what id; third = [] }
words_of (Broken.BadReference name) = record { rule = Rule.BadReference; first = name; second = []; third = [] }
words_of (Broken.SubnetReserved network prefix) =
    record { rule = Rule.SubnetReserved; first = network; second = prefix_text prefix; third = [] }
words_of (Broken.SubnetNested network first second) =
    record { rule = Rule.SubnetNested; first = network; second = prefix_text first; third = prefix_text second }
words_of (Broken.AddressOutside port) = record { rule = Rule.AddressOutside; first = port; second = []; third = [] }
words_of (Broken.AddressTaken first second) =
    record { rule = Rule.AddressTaken; first = first; second = second; third = [] }
words_of (Broken.ChainNeedsNetworks rule) =
    record { rule = Rule.ChainNeedsNetworks; first = rule_text rule; second = []; third = [] }
words_of (Broken.ChainSameNetwork rule) =
    record { rule = Rule.ChainSameNetwork; first = rule_text rule; second = []; third = [] }
words_of (Broken.ChainLoop chain) = record { rule = Rule.ChainLoop; first = chain; second = []; third = [] }
words_of (Broken.ChainTooLong chain) = record { rule = Rule.ChainTooLong; first = chain; second = []; third = [] }
words_of (Broken.ServiceTwice chain service) =
    record { rule = Rule.ServiceTwice; first = chain; second = service; third = [] }
words_of (Broken.SubnetOverlap first second) =
    record { rule = Rule.SubnetOverlap; first = first; second = second; third = [] }

abbrev IsRuleNo : RuleNo → Type 0
IsRuleNo rule = (rule.sequence < 2 ^ 16) × (rule.position < 2 ^ 16)

-- what a refusal names are names, and its numbers are of their types: so it is with each that is made
abbrev pub IsMade : Refusal → Type 0
IsMade (Broken.Limit what) = ⊤
IsMade (Broken.DuplicateName name) = IsTrue (is_name name)
IsMade (Broken.DuplicateId what id) = id < 2 ^ 32
IsMade (Broken.BadReference name) = IsTrue (is_name name)
IsMade (Broken.SubnetReserved network prefix) = IsTrue (is_name network) × (prefix.len < 2 ^ 8)
IsMade (Broken.SubnetNested network first second) =
    IsTrue (is_name network) × (first.len < 2 ^ 8) × (second.len < 2 ^ 8)
IsMade (Broken.AddressOutside port) = IsTrue (is_name port)
IsMade (Broken.AddressTaken first second) = IsTrue (is_name first) × IsTrue (is_name second)
IsMade (Broken.ChainNeedsNetworks rule) = IsRuleNo rule
IsMade (Broken.ChainSameNetwork rule) = IsRuleNo rule
IsMade (Broken.ChainLoop chain) = IsTrue (is_name chain)
IsMade (Broken.ChainTooLong chain) = IsTrue (is_name chain)
IsMade (Broken.ServiceTwice chain service) = IsTrue (is_name chain) × IsTrue (is_name service)
IsMade (Broken.SubnetOverlap first second) = IsTrue (is_name first) × IsTrue (is_name second)

-- the line of a refusal is read as its rule and its objects
abbrev pub RefusalsAreTold : Type 0
RefusalsAreTold =
    (r : Refusal) → IsMade r → refused_in (codes "refused " ++ (refusal_text r ++ (10 ∷ []))) ≡ Some (words_of r)
