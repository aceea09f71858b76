-- The steps of a walk over any agents: each takes its row, begins where the one before leads, and the last ends as the
-- packet does.
use Rattle.std.proofs.Common.{◌≡◌, ◌≢◌, ◌≤◌, ℕ, zero, suc, ◌++◌, true, false, IsTrue, List, [], ◌∷◌, Option, Some, None, filter_map, map, refl, sym, ap, ◌∙◌, inl, inr}
use Rattle.std.specs.List.{All}
use Rattle.std.proofs.lemmas.List.Elements.{All-cons, All-contains, All-nil}
use Rattle.ov_types.specs.Access.{verdict}
use Rattle.ov_types.specs.First.{first_of}
use Rattle.ov_types.specs.Prefix.{Block, contains}
use Rattle.ov_types.specs.declared.numbers.InstanceId.{InstanceId}
use Rattle.ov_types.specs.declared.numbers.ServiceNo.{ServiceNo}
use Rattle.ov_types.specs.declared.packet.Outcome.{Outcome}
use Rattle.ov_types.specs.declared.packet.Outcome.TheVariants.{Dropped}
use Rattle.ov_types.specs.declared.packet.Packet.{Packet}
use Rattle.ov_types.specs.declared.packet.Why.TheVariants.{TtlExpired}
use Rattle.ov_types.specs.declared.rows.Entry.{Entry}
use Rattle.ov_types.specs.declared.verdict.Verdict.{Verdict}
use Rattle.ov_types.specs.declared.verdict.Verdict.TheVariants as Says
use Rattle.route_targets.specs.Forwarding.{Forwarder, admitted, departed, forwarding, looked_up, route_in, source_at, walk}
use Rattle.packet_trace.specs.Lookups.{Arrives, Leading, Lookup, Passes, Stops, leading, lookups, lookups_at, lookups_by, lookups_from, on_from}
use Rattle.packet_trace.proofs.Walks.{by_route, outcome_by}
use Rattle.transform_model.proofs.OneFound.{none_contains}
use Rattle.vrouter_fib.proofs.LongestLemmas.{longest_is}
use Rattle.inspect_walks.specs.Following.{EndAs, GoOn, IsStart, IsStep, IsWalk, Starts, Takes, ended, ended_by}
use Rattle.inspect_walks.specs.Walks.{Step, row_taken, step_of, walk_over}
use Rattle.inspect_walks.proofs.RowLemmas.{TableRow, row_there, there_row}

module _ (address : ℕ) (l : Lookup) where
  abbrev rows : List TableRow
  rows = l.agent.rows.routes

  abbrev here : List (Block × Entry)
  here = filter_map (route_in l.instance) rows

  by_row : (o : Option (Block × Entry)) → row_taken address l ≡ o → Takes address l o
  by_row None none = λ prefix e listed.
      elim (contains prefix address) as (λ b. contains prefix address ≡ b → b ≡ false) [
        | true ↦ λ hit. absurd (none_contains address here none (prefix, e) (there_row l.instance rows prefix e listed) hit)
        | false ↦ λ miss. refl
      ] refl
  by_row (Some row) some =
      let h = longest_is address here row some in
      record {
        listed = row_there l.instance rows row h.listed;
        containing = h.containing;
        longest = λ prefix e listed hit.
            All-contains (λ (r : Block × Entry). IsTrue (contains r.0 address) → r.0.len ≤ row.0.len) here (prefix, e) h.longest (there_row l.instance rows prefix e listed) hit;
      }

  pub takes : Takes address l (row_taken address l)
  takes = by_row (row_taken address l) refl

module _ (agents : List Forwarder) (address : ℕ) where
  abbrev step : Lookup → Step
  step = step_of agents address

  each_step : (ls : List Lookup) → All (IsStep agents address) (map step ls)
  each_step [] = All-nil (IsStep agents address)
  each_step (l ∷ ls) = All-cons (IsStep agents address) (step l) (map step ls) (record { takes = takes address l; leads = refl }) (each_step ls)

  abbrev rest_by : ℕ → Leading → List Step
  rest_by left d = map step (on_from (lookups_from agents address left) d)

  goes_on : (left : ℕ) (l : Lookup) → GoOn (map step (lookups_from agents address left l))
  goes_on zero l = tt
  goes_on (suc zero) l = elim (leading agents address l) as (λ d. GoOn (step l ∷ rest_by zero d)) [ Arrives port ↦ tt | Stops why ↦ tt | Passes s m ↦ tt ]
  goes_on (suc (suc left)) l =
      elim (leading agents address l) as (λ d. leading agents address l ≡ d → GoOn (step l ∷ rest_by (suc left) d)) [
        | Arrives port ↦ λ e. tt
        | Stops why ↦ λ e. tt
        | Passes s m ↦ λ e. ((s, e), goes_on (suc left) m)
      ] refl

  -- a walk in time ends as its steps do
  ends_from : (left : ℕ) (l : Lookup) (services : List ServiceNo) → walk agents address left l.agent services l.instance ≢ Dropped TtlExpired
      → ended (map step (lookups_from agents address left l)) services ≡ Some (walk agents address left l.agent services l.instance)
  ends_from zero l services in_time = absurd (in_time refl)
  ends_from (suc left) l services in_time =
      let again = walk agents address left in
      let is : walk agents address (suc left) l.agent services l.instance ≡ outcome_by again services (leading agents address l) =
      by_route again services agents (looked_up l.agent.rows l.instance address) in
      elim (leading agents address l) as (λ d. (outcome_by again services d ≢ Dropped TtlExpired) → ended_by (ended (rest_by left d)) services d ≡ Some (outcome_by again services d)) [
        | Arrives port ↦ λ some. refl
        | Stops why ↦ λ some. refl
        | Passes s m ↦ λ some. ends_from left m (services ++ s ∷ []) some
      ] (λ e. in_time (is ∙ e))
      ∙ ap Some (sym is)

module _ (agents : List Forwarder) (p : Packet) where
  -- lookups that a packet makes, and what becomes of it
  record Parts (outcome : Outcome) (ls : List Lookup) : Type 0 where
    pub starts : Starts agents p (map (step agents p.destination.0) ls)
    pub go_on : GoOn (map (step agents p.destination.0) ls)
    pub ends : EndAs outcome (map (step agents p.destination.0) ls)

  from_start : (left : ℕ) (l : Lookup) → IsStart agents p l → walk agents p.destination.0 (suc left) l.agent [] l.instance ≢ Dropped TtlExpired
      → Parts (walk agents p.destination.0 (suc left) l.agent [] l.instance) (lookups_from agents p.destination.0 (suc left) l)
  from_start left l start in_time =
      record { starts = start; go_on = goes_on agents p.destination.0 (suc left) l; ends = ends_from agents p.destination.0 (suc left) l [] in_time }

  by_verdict : (f : Forwarder) (network : InstanceId) → first_of (source_at p) agents ≡ Some (f, network) → (v : Verdict) → verdict f.rows.acls network.0 p ≡ v
      → admitted agents p.destination.0 f network v ≢ Dropped TtlExpired
      → Parts (admitted agents p.destination.0 f network v) (lookups_by agents p.destination.0 f network v)
  by_verdict f network first Says.Pass said in_time =
      from_start 63 (record { agent = f; instance = network }) (record { network = network; first = first; entered = inl (said, refl) }) in_time
  by_verdict f network first (Says.Enter i) said in_time =
      from_start 63 (record { agent = f; instance = i }) (record { network = network; first = first; entered = inr said }) in_time
  by_verdict f network first (Says.Denied rule) said in_time = record { starts = tt; go_on = tt; ends = tt }
  by_verdict f network first Says.NoDestination said in_time = record { starts = tt; go_on = tt; ends = tt }

  by_source : (o : Option (Forwarder × InstanceId)) → first_of (source_at p) agents ≡ o → departed agents p o ≢ Dropped TtlExpired
      → Parts (departed agents p o) (lookups_at agents p o)
  by_source None first in_time = record { starts = tt; go_on = tt; ends = tt }
  by_source (Some s) first in_time = by_verdict s.0 s.1 first (verdict s.0.rows.acls s.1.0 p) refl in_time

  pub is_walk : forwarding agents p ≢ Dropped TtlExpired → IsWalk agents p (forwarding agents p) (walk_over agents p)
  unfolding forwarding lookups
  is_walk in_time =
      let parts = by_source (first_of (source_at p) agents) refl in_time in
      record {
        traced = refl;
        each = each_step agents p.destination.0 (lookups agents p);
        starts = parts.starts;
        go_on = parts.go_on;
        ends = parts.ends;
      }
