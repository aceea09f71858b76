-- The first count that is outside its limits, of all in the order in which they are tried.
use Rattle.std.proofs.Common.{◌≡◌, ◌<◌, ◌&&◌, inl, inr, leb, ℕ, Bool, true, false, List, Option, Some, None, length, refl, sym, ap, ◌∙◌, arith}
use Rattle.std.specs.Prelude.{◌⊎◌}
use Rattle.std.specs.List.{Any, list_all}
use Rattle.std.proofs.lemmas.Bool.{and_parts, leb-true, leb-false}
use Rattle.config_types.specs.declared.config.Chain.{Chain}
use Rattle.config_types.specs.declared.config.Config.{Config}
use Rattle.config_types.specs.declared.config.Network.{Network}
use Rattle.config_types.specs.declared.config.Policy.{Policy}
use Rattle.config_types.specs.declared.topology.Topology.{Topology}
use Rattle.ov_types.specs.First.{◌<|>◌, first_of}
use Rattle.config_check.specs.declared.refusal.LimitKind.{LimitKind}
use Rattle.config_check.specs.declared.refusal.LimitKind.TheVariants as Counted
use Rattle.config_check.specs.declared.refusal.Refusal.{Refusal}
use Rattle.config_check.specs.declared.refusal.Refusal.TheVariants.{Limit}
use Rattle.config_check.specs.Rules.{limit_unless, broken_count, broken_limit}
use Rattle.config_check.proofs.Iffs.{list_all_true}
use Rattle.config_refusal_laws.specs.Breaks.{IsOutsideLimits}
use Rattle.config_refusal_laws.specs.Named.{IsFirst, limit_kinds}
use Rattle.config_refusal_laws.proofs.Counts.{more_in, outside}
use Rattle.config_refusal_laws.proofs.FirstOnes.{or_none, answers_first}
use Rattle.config_refusal_laws.proofs.Invalid.{no_any}

-- a count is not outside its limits
abbrev is_kept : Topology → Config → LimitKind → Bool
is_kept t c Counted.Controllers = leb (length t.controllers) 8
is_kept t c Counted.Nodes = leb 1 (length t.nodes) && leb (length t.nodes) 64
is_kept t c Counted.Networks = leb (length c.networks) 128
is_kept t c Counted.Ports = leb (length c.ports) 1024
is_kept t c Counted.Policies = leb (length c.policies) 128
is_kept t c Counted.Services = leb (length c.services) 128
is_kept t c Counted.Chains = leb (length c.chains) 128
is_kept t c Counted.Subnets = list_all (λ n. leb (length n.subnets) 4) c.networks
is_kept t c Counted.Attachments = list_all (λ n. leb (length n.policies) 4) c.networks
is_kept t c Counted.Rules = list_all (λ p. leb (length p.rules) 16) c.policies
is_kept t c Counted.Hops = list_all (λ d. leb (length d.hops) 64) c.chains

answer : Topology → Config → LimitKind → Option Refusal
answer t c what = limit_unless what (is_kept t c what)

few : (n most : ℕ) → leb n most ≡ true → ¬ (most < n)
few n most e more = let le = leb-true n most e in absurd (omega arith)

few_but_some : (n most : ℕ) → (leb 1 n && leb n most) ≡ true → ¬ ((n < 1) ⊎ (most < n))
few_but_some n most e h =
    let p = and_parts (leb 1 n) (leb n most) e in
    elim h as (λ _. ⊥) [ inl less ↦ (let some = leb-true 1 n p.0 in absurd (omega arith)) | inr more ↦ few n most p.1 more ]

few_each : {A : Type 0} (size : A → ℕ) (most : ℕ) (xs : List A) → list_all (λ x. leb (size x) most) xs ≡ true → ¬ Any (λ x. most < size x) xs
few_each {A} size most xs e =
    no_any (λ (x : A). leb (size x) most ≡ true) (λ x. most < size x) xs ((list_all_true (λ x. leb (size x) most) xs).0 e) (λ x kept. few (size x) most kept)

not_above : (t : Topology) (c : Config) (what : LimitKind) → is_kept t c what ≡ true → ¬ IsOutsideLimits t c what
not_above t c Counted.Controllers e = few (length t.controllers) 8 e
not_above t c Counted.Nodes e = few_but_some (length t.nodes) 64 e
not_above t c Counted.Networks e = few (length c.networks) 128 e
not_above t c Counted.Ports e = few (length c.ports) 1024 e
not_above t c Counted.Policies e = few (length c.policies) 128 e
not_above t c Counted.Services e = few (length c.services) 128 e
not_above t c Counted.Chains e = few (length c.chains) 128 e
not_above t c Counted.Subnets e = few_each (λ (n : Network). length n.subnets) 4 c.networks e
not_above t c Counted.Attachments e = few_each (λ (n : Network). length n.policies) 4 c.networks e
not_above t c Counted.Rules e = few_each (λ (p : Policy). length p.rules) 16 c.policies e
not_above t c Counted.Hops e = few_each (λ (d : Chain). length d.hops) 64 c.chains e

above : (t : Topology) (c : Config) (what : LimitKind) → is_kept t c what ≡ false → IsOutsideLimits t c what
above t c Counted.Controllers e = leb-false (length t.controllers) 8 e
above t c Counted.Nodes e = outside (length t.nodes) 64 e
above t c Counted.Networks e = leb-false (length c.networks) 128 e
above t c Counted.Ports e = leb-false (length c.ports) 1024 e
above t c Counted.Policies e = leb-false (length c.policies) 128 e
above t c Counted.Services e = leb-false (length c.services) 128 e
above t c Counted.Chains e = leb-false (length c.chains) 128 e
above t c Counted.Subnets e = more_in (λ (n : Network). length n.subnets) 4 c.networks e
above t c Counted.Attachments e = more_in (λ (n : Network). length n.policies) 4 c.networks e
above t c Counted.Rules e = more_in (λ (p : Policy). length p.rules) 16 c.policies e
above t c Counted.Hops e = more_in (λ (d : Chain). length d.hops) 64 c.chains e

kept_where_silent : (what : LimitKind) (b : Bool) → limit_unless what b ≡ None → b ≡ true
kept_where_silent what true e = refl
kept_where_silent what false e = cc

broken_where_said : (what : LimitKind) (b : Bool) (r : Refusal) → limit_unless what b ≡ Some r → (b ≡ false) × (Limit what ≡ r)
broken_where_said what true r e = cc
broken_where_said what false r e = (refl, cc)

silent : (t : Topology) (c : Config) (what : LimitKind) → answer t c what ≡ None → ¬ IsOutsideLimits t c what
unfolding answer
silent t c what none = not_above t c what (kept_where_silent what (is_kept t c what) none)

said : (t : Topology) (c : Config) (what : LimitKind) (r : Refusal) → answer t c what ≡ Some r → (is_kept t c what ≡ false) × (Limit what ≡ r)
unfolding answer
said t c what r e = broken_where_said what (is_kept t c what) r e

-- seven answers, and what comes after them
seven : {A : Type 0} (a b c d e f g h : Option A)
    → ((a <|> (b <|> (c <|> (d <|> (e <|> (f <|> g)))))) <|> h) ≡ (a <|> (b <|> (c <|> (d <|> (e <|> (f <|> (g <|> h)))))))
seven None None None None None None g h = refl
seven None None None None None (Some x) g h = refl
seven None None None None (Some x) f g h = refl
seven None None None (Some x) e f g h = refl
seven None None (Some x) d e f g h = refl
seven None (Some x) c d e f g h = refl
seven (Some x) b c d e f g h = refl

by_kind : (t : Topology) (c : Config) → broken_limit t c ≡ first_of (answer t c) limit_kinds
unfolding broken_limit answer
by_kind t c =
    let a : LimitKind → Option Refusal = λ what. limit_unless what (is_kept t c what) in
    let hops : Option Refusal = a Counted.Hops in
    let part : Option Refusal = a Counted.Subnets <|> (a Counted.Attachments <|> (a Counted.Rules <|> (hops <|> None))) in
    ap (λ (o : Option Refusal). broken_count t c <|> (a Counted.Subnets <|> (a Counted.Attachments <|> (a Counted.Rules <|> o)))) (sym (or_none hops))
    ∙ seven (a Counted.Controllers) (a Counted.Nodes) (a Counted.Networks) (a Counted.Ports) (a Counted.Policies) (a Counted.Services) (a Counted.Chains) part

pub record FirstAbove (t : Topology) (c : Config) (r : Refusal) : Type 0 where
  pub what : LimitKind
  pub is_said : Limit what ≡ r
  pub first : IsFirst (IsOutsideLimits t c) limit_kinds what

pub first_above : (t : Topology) (c : Config) (r : Refusal) → broken_limit t c ≡ Some r → FirstAbove t c r
first_above t c r e =
    let a = answers_first (answer t c) (IsOutsideLimits t c) (silent t c) limit_kinds r (sym (by_kind t c) ∙ e) in
    let w = said t c a.item r a.gives in
    record { what = a.item; is_said = w.1; first = a.first (above t c a.item w.0) }
