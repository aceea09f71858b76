-- Agents that are gathered from compiled rows, node by node.
use Rattle.std.proofs.Common.{◌≡◌, ◌+◌, ◌<◌, ◌++◌, ℕ, zero, suc, IsTrue, List, [], ◌∷◌, None, Some, map, drop, get_or, length, append_assoc, append-nil, refl, sym, ap, ◌∙◌, subst, arith}
use Rattle.std.specs.List.{slice_get}
use Rattle.std.proofs.lemmas.List.{length-map}
use Rattle.ov_types.specs.declared.rows.AgentRows.{AgentRows}
use Rattle.ov_types.proofs.FirstLemmas.{next_is}
use Rattle.route_targets.specs.Forwarding.{Forwarder}
use Rattle.packet_trace.proofs.Places.{mapped_at}
use Rattle.config_types.specs.Form.{has_config_form}
use Rattle.config_types.specs.declared.config.Config.{Config}
use Rattle.config_types.specs.declared.topology.Node.{Node}
use Rattle.config_types.specs.declared.topology.Topology.{Topology}
use Rattle.config_check.specs.Rules.{first_broken}
use Rattle.transform_model.specs.Compiled.{agent_rows, compiled_tables, forwarders}
use Rattle.transform_model.specs.declared.tables.Compiled.{Compiled}
use Rattle.transform_model.proofs.Agents.{agents_of, forwarder}
use Rattle.inspect_walks.specs.Ordered.{AreOrdered}
use Rattle.inspect_walks.specs.Walks.{compiled_agents}
use Rattle.inspect_walks.proofs.Ordered.{rows_in_order}

module _ (t : Topology) (c : Config) where
  abbrev pub rows_at : Node → AgentRows
  rows_at n = agent_rows t c n.address

  pub their_rows : (tables : Compiled) → tables ≡ compiled_tables (record { topology = t; config = c }) → tables.agents ≡ map rows_at t.nodes
  unfolding compiled_tables
  their_rows tables is = ap (λ (x : Compiled). x.agents) is

  pub as_many : (rows : List AgentRows) → rows ≡ map rows_at t.nodes → length rows ≡ length t.nodes
  as_many rows are = ap length are ∙ length-map t.nodes rows_at

  are_forwarders : (ns : List Node) → forwarders ns (map rows_at ns) ≡ map (forwarder t c) ns
  are_forwarders [] = refl
  are_forwarders (n ∷ ns) = ap (λ (fs : List Forwarder). forwarder t c n ∷ fs) (are_forwarders ns)

  pub are_agents : compiled_agents (record { topology = t; config = c }) ≡ agents_of t c
  unfolding compiled_tables
  are_agents = are_forwarders t.nodes

  item_at : {A : Type 0} (xs : List A) (k : ℕ) (x : A) → k < length xs → x ≡ get_or xs k x → slice_get xs k ≡ Some x
  item_at [] k x lt is = absurd (omega arith)
  item_at (y ∷ ys) zero x lt is = ap Some (sym is)
  item_at (y ∷ ys) (suc k) x lt is = item_at ys k x (omega arith) is

  -- the rows at a place are those of the node there
  pub rows_of_node : (rows : List AgentRows) → rows ≡ map rows_at t.nodes → (k : ℕ) (n : Node) (r : AgentRows) → k < length t.nodes → n ≡ get_or t.nodes k n → r ≡ get_or rows k r
      → r ≡ rows_at n
  rows_of_node rows are k n r lt is_n is_r =
      let many = as_many rows are in
      let both : Some r ≡ Some (rows_at n) = sym (item_at rows k r (omega (arith, many, lt)) is_r) ∙ ap (λ (rs : List AgentRows). slice_get rs k) are ∙ mapped_at rows_at t.nodes k n lt is_n in
      cc

  pub gathered : (rows : List AgentRows) → rows ≡ map rows_at t.nodes → (k : ℕ) (n : Node) (r : AgentRows) (before after : List Forwarder)
      → k < length t.nodes → n ≡ get_or t.nodes k n → r ≡ get_or rows k r → after ≡ before ++ (record { address = n.address; rows = r }) ∷ []
      → before ++ map (forwarder t c) (drop k t.nodes) ≡ agents_of t c → after ++ map (forwarder t c) (drop (k + 1) t.nodes) ≡ agents_of t c
  gathered rows are k n r before after lt is_n is_r grown so_far =
      let same : r ≡ rows_at n = rows_of_node rows are k n r lt is_n is_r in
      let rest : List Forwarder = map (forwarder t c) (drop (k + 1) t.nodes) in
      let this : after ≡ before ++ forwarder t c n ∷ [] = grown ∙ ap (λ (x : AgentRows). before ++ (record { address = n.address; rows = x }) ∷ []) same in
      ap (λ (x : List Forwarder). x ++ rest) this
      ∙ append_assoc before (forwarder t c n ∷ []) rest
      ∙ ap (λ (ns : List Node). before ++ map (forwarder t c) ns) (sym (next_is t.nodes k n lt is_n))
      ∙ so_far

  pub ordered_at : IsTrue (has_config_form c) → first_broken t c ≡ None → (rows : List AgentRows) → rows ≡ map rows_at t.nodes → (k : ℕ) (n : Node) (r : AgentRows)
      → k < length t.nodes → n ≡ get_or t.nodes k n → r ≡ get_or rows k r → AreOrdered r
  ordered_at form valid rows are k n r lt is_n is_r = subst AreOrdered (sym (rows_of_node rows are k n r lt is_n is_r)) (rows_in_order t c form valid n.address)

module _ (t : Topology) (c : Config) (ns : List Node) (these : ns ≡ t.nodes) (rows : List AgentRows) (are : rows ≡ map (rows_at t c) t.nodes) where
  pub row_within : (k : ℕ) → k < length ns → k < length rows
  row_within k lt =
      let many = as_many t c rows are in
      let same : length ns ≡ length t.nodes = ap length these in
      omega (arith, many, same, lt)

  pub rows_ordered : IsTrue (has_config_form c) → first_broken t c ≡ None → (k : ℕ) (n : Node) (r : AgentRows) → k < length ns → n ≡ get_or ns k n → r ≡ get_or rows k r → AreOrdered r
  rows_ordered form valid k n r lt is_n is_r =
      subst (λ (ms : List Node). k < length ms → n ≡ get_or ms k n → AreOrdered r) (sym these) (λ less is. ordered_at t c form valid rows are k n r less is is_r) lt is_n

  pub gathered_more : (k : ℕ) (n : Node) (r : AgentRows) (before after : List Forwarder)
      → k < length ns → n ≡ get_or ns k n → r ≡ get_or rows k r → after ≡ before ++ (record { address = n.address; rows = r }) ∷ []
      → before ++ map (forwarder t c) (drop k ns) ≡ agents_of t c → after ++ map (forwarder t c) (drop (k + 1) ns) ≡ agents_of t c
  gathered_more k n r before after lt is_n is_r grown so_far =
      subst (λ (ms : List Node). k < length ms → n ≡ get_or ms k n → before ++ map (forwarder t c) (drop k ms) ≡ agents_of t c → after ++ map (forwarder t c) (drop (k + 1) ms) ≡ agents_of t c)
      (sym these) (λ less is then. gathered t c rows are k n r before after less is is_r grown then) lt is_n so_far

  pub all_gathered : (agents : List Forwarder) (k : ℕ) → drop k ns ≡ [] → agents ++ map (forwarder t c) (drop k ns) ≡ agents_of t c
      → agents ≡ compiled_agents (record { topology = t; config = c })
  all_gathered agents k none so_far =
      sym (append-nil agents) ∙ ap (λ (ms : List Node). agents ++ map (forwarder t c) ms) (sym none) ∙ so_far ∙ sym (are_agents t c)
