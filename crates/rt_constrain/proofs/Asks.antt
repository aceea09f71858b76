-- What is asked is exactly what is of use.
use Rattle.std.specs.Prelude.{◌≡◌, ℕ, ◌-◌, ◌/◌, ◌%◌, ◌^◌, ◌==◌, ◌||◌, Bool, true, List, [], ◌∷◌, map, ◌↔◌, IsTrue}
use Rattle.std.specs.List.{flat_map, list_any}
use Rattle.std.specs.List.Sorted.{IsStrictlySortedBy}
use Rattle.std.proofs.Common.{refl, sym, ◌∙◌, ap, subst, arith, inl, inr}
use Rattle.std.proofs.lemmas.Bool.{eq-eqb}
use Rattle.ov_types.specs.declared.numbers.InstanceId.{InstanceId}
use Rattle.ov_types.specs.declared.targets.Target.{Target}
use Rattle.ov_types.specs.declared.vpn.VpnRoute.{VpnRoute}
use Rattle.route_targets.specs.Numbers.{target_of}
use Rattle.node_model.specs.Members.{Member}
use Rattle.node_model.specs.Paths.{Holdings, Told}
use Rattle.node_model.specs.Tables.{table}
use Rattle.node_model.specs.Uses.{imports}
use Rattle.node_model.specs.Wants.{wanted_by_agent, wanted_by_peers}
use Rattle.node_model.proofs.Members.{any_in, in_map, from_map, in_flat_map, from_flat_map}
use Rattle.vpn_tables.specs.Gathered.{in_order}
use Rattle.rt_constrain.specs.Needs.{UsesFit}
use Rattle.rt_constrain.specs.Cut.{IsOfUse, PassesWhatIsOfUse}
use Rattle.rt_constrain.proofs.Same.{agents_same, peers_same, table_same}
use Rattle.rt_membership.specs.Asked.{IsAsked}
use Rattle.rt_membership.specs.declared.asked.Asked.{Asked}
use Rattle.rt_constrain.specs.Covering.{agree, AreAsked, covers, is_covered_by}
use Rattle.rt_constrain.specs.Needed.{needed}
use Rattle.rt_constrain.specs.Asking.{asked, asked_for, asked_order, cut, IsAskedFor}
use Rattle.rt_constrain.proofs.Ordered.{asked_exact, asked_total, in_order_ascends, into_order, from_order}
use Rattle.rt_constrain.proofs.Listed.{listed_is_needed, needed_is_listed}

-- what is asked, by a number that is the system's own
pub asked_at : (h : Holdings) (n : ℕ) → n ≡ h.asn → in_order asked_order (map (asked_for n) (flat_map (imports h.feed) (needed h))) ≡ asked h
asked_at h n is = ap (λ (m : ℕ). in_order asked_order (map (asked_for m) (flat_map (imports h.feed) (needed h)))) is

-- ---- what is asked is the targets of imports
pub asked_is_for : (h : Holdings) (a : Asked) → Member a (asked h) → IsAskedFor h a
asked_is_for h a m =
    let n = from_map (asked_for h.asn) a (flat_map (imports h.feed) (needed h)) (from_order asked_order asked_total asked_exact a (map (asked_for h.asn) (flat_map (imports h.feed) (needed h))) m) in
    let i = from_flat_map (imports h.feed) n.0 (needed h) n.1 in
    record { instance = i.0; needed = listed_is_needed h i.0 i.1; import = n.0; imported = i.2; is = sym n.2 }

pub for_is_asked : (h : Holdings) (a : Asked) → IsAskedFor h a → Member a (asked h)
for_is_asked h a f =
    into_order asked_order asked_total asked_exact a (map (asked_for h.asn) (flat_map (imports h.feed) (needed h)))
    (subst (λ (b : Asked). Member b (map (asked_for h.asn) (flat_map (imports h.feed) (needed h)))) (sym f.is)
    (in_map (asked_for h.asn) f.import (flat_map (imports h.feed) (needed h))
    (in_flat_map (imports h.feed) f.instance f.import (needed h) (needed_is_listed h f.instance f.needed) f.imported)))

pub asked_ascends : (h : Holdings) → IsStrictlySortedBy asked_order (asked h)
asked_ascends h = in_order_ascends asked_order asked_total (map (asked_for h.asn) (flat_map (imports h.feed) (needed h)))

-- ---- and has the form of what is asked
mod_one : (n : ℕ) → n % 2 ^ (96 - 96) ≡ 0
mod_one n = omega arith

form : (h : Holdings) (all : List Asked) → ((a : Asked) → Member a all → IsAskedFor h a) → AreAsked all
form h [] f = tt
form h (a ∷ all) f = (subst IsAsked (sym (f a (inl refl)).is) (record { length = refl; past_the_length = mod_one _ }), form h all (λ b m. f b (inr m)))

pub asked_form : (h : Holdings) → AreAsked (asked h)
asked_form h = form h (asked h) (asked_is_for h)

-- ---- it covers what is of use
of_use : (h : Holdings) → PassesWhatIsOfUse h (covers (asked h))
of_use h r u =
    let a : Asked = asked_for h.asn u.import in
    any_in (is_covered_by r.targets) a (asked h)
    (for_is_asked h a (record { instance = u.instance; needed = u.needed; import = u.import; imported = u.imported; is = refl }))
    (any_in (λ (t : Target). agree 96 t (target_of h.asn u.import)) (target_of h.asn u.import) r.targets u.targeted
    (eq-eqb ((target_of h.asn u.import).0 / 2 ^ (96 - 96)) ((target_of h.asn u.import).0 / 2 ^ (96 - 96)) refl))

module _ (h : Holdings) (fit : UsesFit h.feed) where
  pub peers_still : wanted_by_peers (cut h) ≡ wanted_by_peers h
  peers_still = peers_same h (covers (asked h)) fit (of_use h)

  pub agents_still : (a : Told) → Member a h.agents → wanted_by_agent (cut h) a ≡ wanted_by_agent h a
  agents_still = agents_same h (covers (asked h)) fit (of_use h)

  pub tables_still : (i : InstanceId) → Member i (needed h) → table (cut h) i ≡ table h i
  tables_still i m = table_same h (covers (asked h)) fit (of_use h) i (listed_is_needed h i m)
