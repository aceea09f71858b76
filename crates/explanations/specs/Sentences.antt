-- What is said of each rule that a configuration breaks: what the rule is, and which objects break it.
use Rattle.std.specs.Prelude.{ℕ, List, ◌++◌, codes, nat_eq, Option, Some, None, if◌then◌else◌}
use Rattle.std.specs.Cmp.Lexicographic.{pointwise}
use Rattle.explanations.specs.declared.rule.RuleKind.{RuleKind}
use Rattle.explanations.specs.declared.rule.RuleKind.TheVariants as Rule

-- the rule of a word
abbrev pub rule_named : List ℕ → Option RuleKind
rule_named word =
    if pointwise nat_eq word (codes "Limit") then Some Rule.Limit
    else (if pointwise nat_eq word (codes "DuplicateName") then Some Rule.DuplicateName
    else (if pointwise nat_eq word (codes "DuplicateId") then Some Rule.DuplicateId
    else (if pointwise nat_eq word (codes "BadReference") then Some Rule.BadReference
    else (if pointwise nat_eq word (codes "SubnetReserved") then Some Rule.SubnetReserved
    else (if pointwise nat_eq word (codes "SubnetNested") then Some Rule.SubnetNested
    else (if pointwise nat_eq word (codes "AddressOutside") then Some Rule.AddressOutside
    else (if pointwise nat_eq word (codes "AddressTaken") then Some Rule.AddressTaken
    else (if pointwise nat_eq word (codes "ChainNeedsNetworks") then Some Rule.ChainNeedsNetworks
    else (if pointwise nat_eq word (codes "ChainSameNetwork") then Some Rule.ChainSameNetwork
    else (if pointwise nat_eq word (codes "ChainLoop") then Some Rule.ChainLoop
    else (if pointwise nat_eq word (codes "ChainTooLong") then Some Rule.ChainTooLong
    else (if pointwise nat_eq word (codes "ServiceTwice") then Some Rule.ServiceTwice
    else (if pointwise nat_eq word (codes "SubnetOverlap") then Some Rule.SubnetOverlap else None)))))))))))))

-- how much there may be, by the word for what is counted
abbrev pub limit_claim : List ℕ → List ℕ
limit_claim word =
    if pointwise nat_eq word (codes "controllers") then codes "a topology has at most 8 control nodes, and this one has more"
    else (if pointwise nat_eq word (codes "nodes") then codes "a topology has 1 to 64 compute nodes, and this one has none or more"
    else (if pointwise nat_eq word (codes "networks") then codes "a configuration has at most 128 networks, and this one has more"
    else (if pointwise nat_eq word (codes "ports") then codes "a configuration has at most 1,024 ports, and this one has more"
    else (if pointwise nat_eq word (codes "policies") then codes "a configuration has at most 128 policies, and this one has more"
    else (if pointwise nat_eq word (codes "services") then codes "a configuration has at most 128 services, and this one has more"
    else (if pointwise nat_eq word (codes "chains") then codes "a configuration has at most 128 chains, and this one has more"
    else (if pointwise nat_eq word (codes "subnets") then codes "a network has at most 4 subnets, and one of these has more"
    else (if pointwise nat_eq word (codes "attachments") then codes "a network attaches at most 4 policies, and one of these attaches more"
    else (if pointwise nat_eq word (codes "rules") then codes "a policy has at most 16 rules, and one of these has more"
    else (if pointwise nat_eq word (codes "hops") then codes "a chain has at most 64 hops, and one of these has more"
    else codes "there is more of one thing than there may be"))))))))))

-- whose numbers are distinct, by the word for what a number names
abbrev pub id_claim : List ℕ → List ℕ
id_claim word =
    if pointwise nat_eq word (codes "address") then codes "each node has an address of its own, and two have"
    else (if pointwise nat_eq word (codes "network") then codes "each network has an id of its own, and two have"
    else (if pointwise nat_eq word (codes "port") then codes "each port has an id of its own, and two have"
    else (if pointwise nat_eq word (codes "sequence") then codes "each policy has a sequence of its own, and two have"
    else (if pointwise nat_eq word (codes "service") then codes "each service has an id of its own, and two have"
    else (if pointwise nat_eq word (codes "use") then codes "each rule through a chain has a use of its own, and two have"
    else codes "each thing of a kind has a number of its own, and two have")))))

-- the sentence of a rule, with the objects of its line in their order
abbrev pub refused_sentence : RuleKind → List ℕ → List ℕ → List ℕ → List ℕ
refused_sentence Rule.Limit first second third = limit_claim first
refused_sentence Rule.DuplicateName first second third =
    codes "one name is given to two nodes, to two objects of one kind or to a service and a chain, or stands twice in the list of a compute node: "
    ++ first
refused_sentence Rule.DuplicateId first second third = id_claim first ++ (codes " " ++ second)
refused_sentence Rule.BadReference first second third =
    codes "what is referred to has to exist, and nothing of the wanted kind is named " ++ first
refused_sentence Rule.SubnetReserved first second third =
    codes "250.0.0.0/15 is kept for the addresses of circuits, and subnet " ++ (second ++ (codes " of network "
    ++ (first ++ codes " overlaps it")))
refused_sentence Rule.SubnetNested first second third =
    codes "the subnets of a network do not overlap, and " ++ (second ++ (codes " and " ++ (third
    ++ (codes " of network " ++ (first ++ codes " do")))))
refused_sentence Rule.AddressOutside first second third =
    codes "the address of a port is in a subnet of its network, and that of port " ++ (first ++ codes " is in none")
refused_sentence Rule.AddressTaken first second third =
    codes "the ports of a network have addresses of their own, and ports " ++ (first ++ (codes " and "
    ++ (second ++ codes " have the same")))
refused_sentence Rule.ChainNeedsNetworks first second third =
    codes "a rule through a chain names both of its networks, and rule " ++ (first ++ codes " has any")
refused_sentence Rule.ChainSameNetwork first second third =
    codes "a rule through a chain is between two networks, and rule " ++ (first ++ codes " names one twice")
refused_sentence Rule.ChainLoop first second third =
    codes "a chain does not lead to itself, and chain " ++ (first ++ codes " does")
refused_sentence Rule.ChainTooLong first second third =
    codes "a chain comes to at most 15 services with those of the chains in it, and chain " ++ (first ++ codes " to more")
refused_sentence Rule.ServiceTwice first second third =
    codes "a chain passes each service once, and chain " ++ (first ++ (codes " comes to service "
    ++ (second ++ codes " twice")))
refused_sentence Rule.SubnetOverlap first second third =
    codes "networks that are related, or related to one network, share no addresses, and " ++ (first ++ (codes " and "
    ++ (second ++ codes " do")))
