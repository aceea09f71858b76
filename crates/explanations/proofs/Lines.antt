-- The line of each refusal is read as its rule and its objects.
use Rattle.std.proofs.Common.{◌≡◌, ℕ, List, [], ◌∷◌, ◌++◌, codes, refl, ◌∙◌, arith, Some, ◌<◌, ◌^◌}
use Rattle.config_check.specs.Texts.{id_text, id_word, limit_word}
use Rattle.config_check.specs.declared.refusal.IdKind.{IdKind}
use Rattle.config_check.specs.declared.refusal.IdKind.TheVariants as Id
use Rattle.config_check.specs.declared.refusal.LimitKind.{LimitKind}
use Rattle.config_check.specs.declared.refusal.LimitKind.TheVariants as Counted
use Rattle.config_check.specs.declared.refusal.Refusal.TheVariants as Broken
use Rattle.explanations.specs.Refusals.{refused_in}
use Rattle.explanations.specs.Sentences.{rule_named}
use Rattle.explanations.specs.Told.{RefusalsAreTold}
use Rattle.explanations.proofs.Cuts.{ascii_two, line_has, one_object, three_objects, two_objects}
use Rattle.explanations.proofs.Plain.{IsPlain, address_is_plain, decimal_is_plain, name_is_plain, plain_is_ascii, prefix_is_plain, rule_is_plain}
use Rattle.explanations.specs.declared.rule.RuleKind.{RuleKind}

limit_is_plain : (what : LimitKind) → IsPlain (limit_word what)
limit_is_plain Counted.Controllers = refl
limit_is_plain Counted.Nodes = refl
limit_is_plain Counted.Networks = refl
limit_is_plain Counted.Ports = refl
limit_is_plain Counted.Policies = refl
limit_is_plain Counted.Services = refl
limit_is_plain Counted.Chains = refl
limit_is_plain Counted.Subnets = refl
limit_is_plain Counted.Attachments = refl
limit_is_plain Counted.Rules = refl
limit_is_plain Counted.Hops = refl

kind_is_plain : (what : IdKind) → IsPlain (id_word what)
kind_is_plain Id.Address = refl
kind_is_plain Id.Network = refl
kind_is_plain Id.Port = refl
kind_is_plain Id.Sequence = refl
kind_is_plain Id.Service = refl
kind_is_plain Id.Use = refl

number_is_plain : (what : IdKind) (id : ℕ) → id < 2 ^ 32 → IsPlain (id_text what id)
number_is_plain Id.Address id h = address_is_plain id
number_is_plain Id.Network id h = decimal_is_plain id (omega (arith, h))
number_is_plain Id.Port id h = decimal_is_plain id (omega (arith, h))
number_is_plain Id.Sequence id h = decimal_is_plain id (omega (arith, h))
number_is_plain Id.Service id h = decimal_is_plain id (omega (arith, h))
number_is_plain Id.Use id h = decimal_is_plain id (omega (arith, h))

one : (w a : List ℕ) (rule : RuleKind) → IsPlain w → rule_named w ≡ Some rule → IsPlain a
    → refused_in (codes "refused " ++ ((w ++ 32 ∷ a) ++ (10 ∷ []))) ≡ Some (record { rule = rule; first = a; second = []; third = [] })
one w a rule p named q =
    line_has (w ++ 32 ∷ a) (ascii_two w a p (plain_is_ascii a q)) ∙ (one_object w a p q ∙ rw named refl)

two : (w a b : List ℕ) (rule : RuleKind) → IsPlain w → rule_named w ≡ Some rule → IsPlain a → IsPlain b
    → refused_in (codes "refused " ++ ((w ++ 32 ∷ (a ++ 32 ∷ b)) ++ (10 ∷ []))) ≡ Some (record { rule = rule; first = a; second = b; third = [] })
two w a b rule p named q r =
    line_has (w ++ 32 ∷ (a ++ 32 ∷ b)) (ascii_two w (a ++ 32 ∷ b) p (ascii_two a b q (plain_is_ascii b r)))
    ∙ (two_objects w a b p q r ∙ rw named refl)

three : (w a b c : List ℕ) (rule : RuleKind) → IsPlain w → rule_named w ≡ Some rule → IsPlain a → IsPlain b → IsPlain c
    → refused_in (codes "refused " ++ ((w ++ 32 ∷ (a ++ 32 ∷ (b ++ 32 ∷ c))) ++ (10 ∷ [])))
    ≡ Some (record { rule = rule; first = a; second = b; third = c })
three w a b c rule p named q r s =
    line_has (w ++ 32 ∷ (a ++ 32 ∷ (b ++ 32 ∷ c))) (ascii_two w (a ++ 32 ∷ (b ++ 32 ∷ c)) p (ascii_two a (b ++ 32 ∷ c) q (ascii_two b c r (plain_is_ascii c s))))
    ∙ (three_objects w a b c p q r s ∙ rw named refl)

pub refusals_are_told : RefusalsAreTold
refusals_are_told (Broken.Limit what) h = one (codes "Limit") (limit_word what) _ refl refl (limit_is_plain what)
refusals_are_told (Broken.DuplicateName name) h = one (codes "DuplicateName") name _ refl refl (name_is_plain name h)
refusals_are_told (Broken.DuplicateId what id) h =
    two (codes "DuplicateId") (id_word what) (id_text what id) _ refl refl (kind_is_plain what) (number_is_plain what id h)
refusals_are_told (Broken.BadReference name) h = one (codes "BadReference") name _ refl refl (name_is_plain name h)
refusals_are_told (Broken.SubnetReserved network prefix) h =
    two (codes "SubnetReserved") network _ _ refl refl (name_is_plain network h.0) (prefix_is_plain prefix h.1)
refusals_are_told (Broken.SubnetNested network first second) h =
    three (codes "SubnetNested") network _ _ _ refl refl (name_is_plain network h.0) (prefix_is_plain first h.1) (prefix_is_plain second h.2)
refusals_are_told (Broken.AddressOutside port) h = one (codes "AddressOutside") port _ refl refl (name_is_plain port h)
refusals_are_told (Broken.AddressTaken first second) h =
    two (codes "AddressTaken") first second _ refl refl (name_is_plain first h.0) (name_is_plain second h.1)
refusals_are_told (Broken.ChainNeedsNetworks rule) h =
    one (codes "ChainNeedsNetworks") _ _ refl refl (rule_is_plain rule h.0 h.1)
refusals_are_told (Broken.ChainSameNetwork rule) h =
    one (codes "ChainSameNetwork") _ _ refl refl (rule_is_plain rule h.0 h.1)
refusals_are_told (Broken.ChainLoop chain) h = one (codes "ChainLoop") chain _ refl refl (name_is_plain chain h)
refusals_are_told (Broken.ChainTooLong chain) h = one (codes "ChainTooLong") chain _ refl refl (name_is_plain chain h)
refusals_are_told (Broken.ServiceTwice chain service) h =
    two (codes "ServiceTwice") chain service _ refl refl (name_is_plain chain h.0) (name_is_plain service h.1)
refusals_are_told (Broken.SubnetOverlap first second) h =
    two (codes "SubnetOverlap") first second _ refl refl (name_is_plain first h.0) (name_is_plain second h.1)
