-- Agents that told nothing make a control node ask for nothing.
use Rattle.std.specs.Prelude.{◌≡◌, List, [], ◌∷◌, map}
use Rattle.std.specs.List.{filter, filter_map, flat_map}
use Rattle.std.specs.FinMap.{empty, entries}
use Rattle.std.proofs.Common.{sym, ap, subst, ◌∙◌, inl, inr}
use Rattle.ov_types.specs.declared.numbers.InstanceId.{InstanceId}
use Rattle.ov_sync.proofs.Ascending.{entries-empty}
use Rattle.node_model.specs.Keys.{Key, key_cmp}
use Rattle.node_model.specs.Maps.{Map}
use Rattle.node_model.specs.Members.{Member}
use Rattle.node_model.specs.Paths.{Holdings, Told}
use Rattle.node_model.specs.Uses.{imports, is_known}
use Rattle.node_model.specs.Values.{Value}
use Rattle.vpn_tables.specs.Gathered.{held_keys, in_order, keys_told, up_key}
use Rattle.vpn_tables.specs.Views.{up_order}
use Rattle.node_laws.specs.Quiet.{IsWithout, SameButQuiet}
use Rattle.node_laws.proofs.Quiet.{quiet_by_agent, quiet_by_peers, same_reading, table_same}
use Rattle.rt_constrain.specs.Asking.{asked, asked_for, asked_order, cut}
use Rattle.rt_constrain.specs.Covering.{covers}
use Rattle.rt_constrain.specs.Needed.{instance_order, needed, reason}
use Rattle.rt_constrain.specs.Cut.{restricted}
use Rattle.top_call.specs.ConstraintNetworks.{NeedsNoMore}

no_keys : (t : Told) → t.map ≡ empty → keys_told t ≡ []
no_keys t e =
    ap (λ (m : Map). filter_map (λ (e : Key × Value). up_key e.0 e.1) (entries m)) e
    ∙ ap (filter_map (λ (e : Key × Value). up_key e.0 e.1)) (entries-empty {V = Value} key_cmp)

-- the agents of the second list are of the first
among : (ts us : List Told) → IsWithout ts us → (a : Told) → Member a us → Member a ts
among [] us w a m = subst (λ (us : List Told). Member a us) w m
among (t ∷ ts) us (inl w) a m = inr (among ts us w.1 a m)
among (t ∷ ts) us (inr w) a m =
    elim (subst (λ (us : List Told). Member a us) w.1 m) as (λ _. Member a (t ∷ ts)) [
      | inl is ↦ inl is
      | inr later ↦ inr (among ts w.0 w.2 a later)
    ]

module _ (h k : Holdings) (same : SameButQuiet h k) where
  keys_same : held_keys h ≡ held_keys k
  keys_same = same_reading keys_told no_keys h.agents k.agents same.agents

  needed_same : needed h ≡ needed k
  needed_same = λ j.
      filter (is_known (same.feed j)) (in_order instance_order (filter_map reason (in_order up_order (keys_same j))))

  pub asked_same : asked h ≡ asked k
  asked_same = λ j.
      in_order asked_order (map (asked_for (same.asn j)) (flat_map (imports (same.feed j)) (needed_same j)))

  cut_same : SameButQuiet (cut h) (cut k)
  cut_same = record {
    asn = same.asn;
    feed = same.feed;
    peers = λ j. map (restricted (covers (asked_same j))) (same.peers j);
    agents = same.agents;
  }

  pub enough_same : NeedsNoMore h → NeedsNoMore k
  enough_same enough = record {
    peers = sym (quiet_by_peers (cut h) (cut k) cut_same) ∙ enough.peers ∙ quiet_by_peers h k same;
    agents = λ a m.
        sym (quiet_by_agent (cut h) (cut k) cut_same a) ∙ enough.agents a (among h.agents k.agents same.agents a m)
        ∙ quiet_by_agent h k same a;
    tables = λ i m.
        sym (table_same (cut h) (cut k) cut_same i)
        ∙ enough.tables i (subst (λ (is : List InstanceId). Member i is) (sym needed_same) m)
        ∙ table_same h k same i;
  }
