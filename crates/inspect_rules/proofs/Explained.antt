-- The causes of a packet's outcome explain it.
use Rattle.std.proofs.Common.{◌≡◌, inl, inr, ℕ, true, false, cond, [], ◌∷◌, Option, Some, None, refl, sym, ap, subst}
use Rattle.std.specs.List.{All}
use Rattle.ov_types.specs.First.{same_name}
use Rattle.ov_types.specs.declared.numbers.PortNo.{PortNo}
use Rattle.ov_types.specs.declared.packet.Packet.{Packet}
use Rattle.ov_types.proofs.FirstLemmas.{same_name_iff}
use Rattle.config_types.specs.declared.config.Config.{Config}
use Rattle.config_types.specs.declared.config.Network.{Network}
use Rattle.config_types.specs.declared.config.Port.{Port}
use Rattle.config_types.specs.declared.topology.Topology.{Topology}
use Rattle.config_check.specs.Finding.{port_numbered}
use Rattle.config_check.specs.Rules.{first_broken}
use Rattle.config_check.specs.Sentences.{IsValid}
use Rattle.config_check.proofs.Finders.{finds_network_named, finds_port_numbered}
use Rattle.reach_plain.specs.Outcomes.{Goes, Leaves}
use Rattle.reach_plain.specs.Reachability.{network_towards}
use Rattle.reach_plain.proofs.Becoming.{apart}
use Rattle.reach_plain.proofs.Found.{own_exists, towards_none, towards_of}
use Rattle.reach_plain.proofs.Kept.{valid}
use Rattle.inspect_rules.specs.Causes.{asked, between, causes, leaving, nowhere, starting, towards}
use Rattle.inspect_rules.specs.Explaining.{Explain}
use Rattle.inspect_rules.specs.declared.cause.Cause.TheVariants as Of
use Rattle.inspect_rules.proofs.Asked.{are_asked}
use Rattle.inspect_rules.proofs.Nowhere.{attached_are, only_these, unrelated_are}

abbrev numbered : ℕ → PortNo
numbered n = record { 0 = n }

module _ (t : Topology) (c : Config) (v : IsValid t c) (p : Packet) where
  across : (own target : Network) → Goes c p own target → Explain c p (Of.From own.name ∷ Of.To target.name ∷ between c own target p.tuple)
  across own target goes =
      elim (same_name target.name own.name) as (λ s. same_name target.name own.name ≡ s
      → Explain c p (Of.From own.name ∷ Of.To target.name ∷ cond s [] (asked c own target p.tuple))) [
        | true ↦ λ e. inr (inr (inl (record {
          own = own;
          target = target;
          goes = goes;
          same = (same_name_iff target.name own.name).0 e;
          are = refl;
        })))
        | false ↦ λ e. inr (inr (inr (record {
          own = own;
          target = target;
          goes = goes;
          differ = apart target.name own.name e;
          rules = asked c own target p.tuple;
          are = refl;
          asked = are_asked c own target p.tuple;
        })))
      ] refl

  towards_it : (own : Network) (o : Option Network) → network_towards c own p.destination.0 ≡ o → Leaves c p own
      → Explain c p (Of.From own.name ∷ towards c own p o)
  towards_it own None e leaves =
      let address : ℕ = p.destination.0 in
      inr (inl (record {
        own = own;
        leaves = leaves;
        nowhere = towards_none c own address e;
        others = nowhere c own address;
        are = refl;
        only = only_these c own address;
        attached = attached_are c own address;
        unrelated = unrelated_are c own address;
      }))
  towards_it own (Some target) e leaves = across own target (record { leaves = leaves; towards = towards_of c own target p.destination.0 e })

  from_port : (o : Option Port) → port_numbered c p.source.0 ≡ o → Explain c p (starting c p o)
  from_port None e =
      let absent : All (λ q. ¬ (q.id.0 ≡ p.source.0)) c.ports = (finds_port_numbered t c p.source.0 v).none.0 e in
      inl (record { absent = λ k d lt same. absent k d lt (ap (λ (n : PortNo). n.0) same); are = refl })
  from_port (Some source) e =
      let f = ((finds_port_numbered t c p.source.0 v).some source).0 e in
      let own = own_exists t c source v f.0 in
      let leaves : Leaves c p own.0 = record {
        source = source;
        source_stands = f.0;
        source_number = ap numbered f.1;
        own_stands = own.1;
        own_name = own.2;
      } in
      let P : Option Network → Type 0 = λ o. Explain c p (leaving c p o) in
      subst P (sym (((finds_network_named t c source.network v).some own.0).1 (own.1, own.2)))
      (towards_it own.0 (network_towards c own.0 p.destination.0) refl leaves)

  explains_so : Explain c p (causes c p)
  unfolding causes
  explains_so = from_port (port_numbered c p.source.0) refl

pub explains : (t : Topology) (c : Config) (p : Packet) → first_broken t c ≡ None → Explain c p (causes c p)
explains t c p kept = explains_so t c (valid t c kept) p
