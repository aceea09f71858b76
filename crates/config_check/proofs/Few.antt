-- What holds where no count is outside its limits.
use Rattle.std.proofs.Common.{◌≡◌, ◌≤◌, leb, Bool, true, false, Option, Some, None, length, refl}
use Rattle.std.specs.List.{list_all}
use Rattle.std.proofs.lemmas.Bool.{leb-true}
use Rattle.ov_types.specs.First.{◌<|>◌}
use Rattle.config_types.specs.declared.config.Config.{Config}
use Rattle.config_types.specs.declared.topology.Topology.{Topology}
use Rattle.config_check.specs.declared.refusal.LimitKind.TheVariants as Counted
use Rattle.config_check.specs.Rules.{limit_unless, broken_count, broken_part, broken_limit}

pub first_none : {A : Type 0} (a b : Option A) → (a <|> b) ≡ None → a ≡ None
first_none None b h = refl
first_none (Some x) b h = h

pub second_none : {A : Type 0} (a b : Option A) → (a <|> b) ≡ None → b ≡ None
second_none None b h = h
second_none (Some x) b h = cc

pub parts_kept : (t : Topology) (c : Config) → broken_limit t c ≡ None → broken_part c ≡ None
unfolding broken_limit
parts_kept t c h = second_none (broken_count t c) (broken_part c) h

pub counts_kept : (t : Topology) (c : Config) → broken_limit t c ≡ None → broken_count t c ≡ None
unfolding broken_limit
counts_kept t c h = first_none (broken_count t c) (broken_part c) h

-- the tests of all there is
pub record FewInAll (controllers nodes networks ports policies services chains : Bool) : Type 0 where
  pub controllers_kept : controllers ≡ true
  pub nodes_kept : nodes ≡ true
  pub networks_kept : networks ≡ true
  pub ports_kept : ports ≡ true
  pub policies_kept : policies ≡ true
  pub services_kept : services ≡ true
  pub chains_kept : chains ≡ true

pub all_kept : (a b c d e f g : Bool)
    → (limit_unless Counted.Controllers a <|> (limit_unless Counted.Nodes b <|> (limit_unless Counted.Networks c <|> (limit_unless Counted.Ports d
    <|> (limit_unless Counted.Policies e <|> (limit_unless Counted.Services f <|> limit_unless Counted.Chains g)))))) ≡ None
    → FewInAll a b c d e f g
all_kept false b c d e f g h = cc
all_kept true false c d e f g h = cc
all_kept true true false d e f g h = cc
all_kept true true true false e f g h = cc
all_kept true true true true false f g h = cc
all_kept true true true true true false g h = cc
all_kept true true true true true true false h = cc
all_kept true true true true true true true h = record { controllers_kept = refl; nodes_kept = refl; networks_kept = refl; ports_kept = refl; policies_kept = refl; services_kept = refl; chains_kept = refl }

-- the tests of what one object has
pub record FewInEach (subnets attachments rules hops : Bool) : Type 0 where
  pub subnets_kept : subnets ≡ true
  pub attachments_kept : attachments ≡ true
  pub rules_kept : rules ≡ true
  pub hops_kept : hops ≡ true

pub each_kept : (a b c d : Bool)
    → (limit_unless Counted.Subnets a <|> (limit_unless Counted.Attachments b <|> (limit_unless Counted.Rules c <|> limit_unless Counted.Hops d))) ≡ None
    → FewInEach a b c d
each_kept false b c d h = cc
each_kept true false c d h = cc
each_kept true true false d h = cc
each_kept true true true false h = cc
each_kept true true true true h = record { subnets_kept = refl; attachments_kept = refl; rules_kept = refl; hops_kept = refl }

pub few_rules : (t : Topology) (c : Config) → broken_limit t c ≡ None → list_all (λ p. leb (length p.rules) 16) c.policies ≡ true
few_rules t c h = (each_kept _ _ _ _ (parts_kept t c h)).rules_kept

pub few_chains : (t : Topology) (c : Config) → broken_limit t c ≡ None → length c.chains ≤ 128
few_chains t c h = leb-true (length c.chains) 128 (all_kept _ _ _ _ _ _ _ (counts_kept t c h)).chains_kept

pub ruleset few = (few_rules, few_chains)
