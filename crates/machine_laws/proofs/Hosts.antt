-- The host rows of what instances import are those of the configuration's tables.
use Rattle.policy_rules.specs.Standing.{PassesBetween}
use Rattle.std.specs.List.{Contains}
use Rattle.std.specs.Prelude.{IsTrue, ℕ, ◌+◌, ◌<◌, ◌≡◌, ◌≢◌, ◌≤◌, ◌⊎◌}
use Rattle.std.proofs.Common.{ap, arith, inl, inr, refl, subst, sym, ◌*◌, ◌∙◌}
use Rattle.ov_types.specs.Prefix.{Block, host_prefix}
use Rattle.ov_types.specs.declared.numbers.InstanceId.{InstanceId}
use Rattle.ov_types.specs.declared.prefix.Addr.{Addr}
use Rattle.ov_types.specs.declared.rows.TableRow.{TableRow}
use Rattle.route_targets.specs.Numbers.{circuit_address_of, circuit_instance_of, circuit_label_of, distinguisher_of, hop_instance_of}
use Rattle.config_types.specs.Form.{has_config_form}
use Rattle.config_types.specs.declared.config.Network.{Network}
use Rattle.config_types.specs.declared.config.Port.{Port}
use Rattle.config_types.specs.declared.topology.Node.{Node}
use Rattle.machine_model.specs.Setup.{Setup}
use Rattle.schedule_script.specs.ConfigCheck.Sentences.{IsValid}
use Rattle.schedule_script.proofs.ConfigCheck.OneHome.{two_among}
use Rattle.transform_model.specs.IsRow.{IsPort, IsRow, at_left_end, at_right_end, to_left_circuit, to_port, to_right_circuit}
use Rattle.transform_model.specs.Tables.{Row as TableEntry}
use Rattle.transform_model.specs.Tables.{circuit_route, host_route, instance_table}
use Rattle.transform_model.specs.Uses.{Circuit}
use Rattle.transform_model.proofs.Circuits.{left_instance, right_instance}
use Rattle.transform_model.proofs.Objects.{one_numbered}
use Rattle.transform_model.proofs.Prefixes.{network_number, table_prefixes}
use Rattle.transform_model.proofs.Rows.{rows_iff}
use Rattle.machine_laws.specs.Compiled.{Attachment, circuit_prefix, row_of}
use Rattle.machine_laws.proofs.Views.{far}
use Rattle.machine_laws.proofs.Imports.{Imported, hop_import, network_import}
use Rattle.machine_laws.proofs.Objects.{AttachmentKind, circuit_attachment, left_kind, port_attachment, port_kind, right_kind}

abbrev pub entry : InstanceId → Block → TableRow → TableEntry
entry i prefix r = ((i, prefix), r)

-- networks are no hops
pub apart_number : (n : InstanceId) (u j : ℕ) → n.0 ≤ 16383 → n ≡ hop_instance_of u j → ⊥
apart_number n u j h e = no n.0 u j h (ap (λ (i : InstanceId). i.0) e)
  where
    no : (n u j : ℕ) → n ≤ 16383 → n ≡ 16384 + 16 * u + j → ⊥
    no n u j h e = omega (arith, h, e)

module _ (x : Setup) (form : IsTrue (has_config_form x.config)) (v : IsValid x.topology x.config) where
  abbrev RowOf : InstanceId → Attachment → Type 0
  RowOf i a = IsRow x.topology x.config i (entry i a.prefix (row_of a))

  pub one_network : (a b : Network) → Contains x.config.networks a → Contains x.config.networks b → a.id ≡ b.id → a ≡ b
  one_network a b in_a in_b e = one_numbered x.topology x.config a b v in_a in_b e

  of_port_row : (i : InstanceId) (n : Network) (p : Port) (d : Node) → IsPort x.topology x.config n p d → Imported x i n.id → RowOf i (port_attachment p n d)
  of_port_row i n p d at (network_import a b in_a in_b i_is n_is h) =
      let same : b ≡ n = one_network b n in_b at.has_home (sym n_is) in
      to_port a n p d in_a at (subst (λ (m : Network). (a.name ≡ m.name) ⊎ PassesBetween x.config a m) same h) i_is refl
  of_port_row i n p d at (hop_import u j used within i_is imported) =
      elim imported as (λ _. RowOf i (port_attachment p n d)) [
        | inl e ↦ absurd (apart_number n.id u.number j (network_number x.config n form at.has_home) e)
        | inr r ↦ elim r as (λ _. RowOf i (port_attachment p n d)) [
          | inl e ↦
              let same : n ≡ u.left = one_network n u.left at.has_home used.has_left e.1 in
              at_left_end u p d used (subst (λ (m : Network). IsPort x.topology x.config m p d) same at) (i_is ∙ ap (hop_instance_of u.number) e.0) (ap (λ (m : Network). host_route i m d p) same)
          | inr e ↦
              let same : n ≡ u.right = one_network n u.right at.has_home used.has_right e.1 in
              at_right_end u p d used (subst (λ (m : Network). IsPort x.topology x.config m p d) same at) (i_is ∙ ap (hop_instance_of u.number) e.0) (ap (λ (m : Network). host_route i m d p) same)
        ]
      ]

  -- a circuit is imported in its own instance alone
  own_instance : (i n : InstanceId) (w g : ℕ) → n ≡ hop_instance_of w g → Imported x i n → i ≡ n
  own_instance i n w g n_is (network_import a b in_a in_b i_is b_is h) = absurd (apart_number b.id w g (network_number x.config b form in_b) (sym b_is ∙ n_is))
  own_instance i n w g n_is (hop_import u j used within i_is imported) =
      elim imported as (λ _. i ≡ n) [
        | inl e ↦ i_is ∙ sym e
        | inr r ↦ elim r as (λ _. i ≡ n) [
          | inl e ↦ absurd (apart_number u.left.id w g (network_number x.config u.left form used.has_left) (sym e.1 ∙ n_is))
          | inr e ↦ absurd (apart_number u.right.id w g (network_number x.config u.right form used.has_right) (sym e.1 ∙ n_is))
        ]
      ]

  pub circuit_entry : (i : InstanceId) (k : Circuit) (d : Node) → i ≡ circuit_instance_of k.number → entry i (circuit_prefix k.number) (row_of (circuit_attachment k d)) ≡ circuit_route i (host_prefix (circuit_address_of k.number).0) k d
  circuit_entry i k d e = λ z. entry i (circuit_prefix k.number) (record { rd = distinguisher_of d.address (sym e z); next_hop = d.address; label = circuit_label_of k.number })

  pub host_is : (i : InstanceId) (a : Attachment) → AttachmentKind x a → Imported x i a.instance → RowOf i a
  host_is i a (port_kind n p d at e) im = subst (RowOf i) e (of_port_row i n p d at (subst (λ (a : Attachment). Imported x i a.instance) (sym e) im))
  host_is i a (left_kind u j k d used is at e) im =
      let own = own_instance i (circuit_instance_of k.number) u.number j (left_instance u j k is) (subst (λ (a : Attachment). Imported x i a.instance) (sym e) im) in
      subst (RowOf i) e (to_left_circuit u j k d used is at (own ∙ left_instance u j k is) (circuit_entry i k d own))
  host_is i a (right_kind u j k d used is at e) im =
      let own = own_instance i (circuit_instance_of k.number) u.number (j + 1) (right_instance u j k is) (subst (λ (a : Attachment). Imported x i a.instance) (sym e) im) in
      subst (RowOf i) e (to_right_circuit u j k d used is at (own ∙ right_instance u j k is) (circuit_entry i k d own))

  -- two hosts of one prefix are one
  pub same_host : (i : InstanceId) (a b : Attachment) → a.instance.0 < 65536 → b.instance.0 < 65536 → RowOf i a → RowOf i b → a.prefix ≡ b.prefix → a ≡ b
  same_host i a b small_a small_b row_a row_b e =
      let Differ : TableEntry → TableEntry → Type 0 = λ r s. r.0.1 ≢ s.0.1 in
      let in_a = (rows_iff x.topology x.config i (entry i a.prefix (row_of a)) v).1 row_a in
      let in_b = (rows_iff x.topology x.config i (entry i b.prefix (row_of b)) v).1 row_b in
      elim (two_among Differ (instance_table x.topology x.config i) (entry i a.prefix (row_of a)) (entry i b.prefix (row_of b)) (table_prefixes x.topology x.config v form i) in_a in_b) [
        | inl same ↦
            let hop : a.node ≡ b.node = ap (λ (r : TableEntry). r.1.next_hop) same in
            let label : a.label ≡ b.label = ap (λ (r : TableEntry). r.1.label) same in
            let inst : a.instance.0 ≡ b.instance.0 = told a.node.0 b.node.0 a.instance.0 b.instance.0 small_a small_b (ap (λ (d : Addr). d.0) hop) (ap (λ (r : TableEntry). r.1.rd.0) same) in
            λ k. record { label = label k; instance = record { 0 = inst k }; prefix = e k; node = hop k }
        | inr far ↦ elim far [ inl apart ↦ absurd (apart e) | inr apart ↦ absurd (apart (sym e)) ]
      ]
    where
      told : (n m i j : ℕ) → i < 65536 → j < 65536 → n ≡ m → 281474976710656 + n * 65536 + i ≡ 281474976710656 + m * 65536 + j → i ≡ j
      told n m i j a b e f = omega (arith, a, b, e, f)
