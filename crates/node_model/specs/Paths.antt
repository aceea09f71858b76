-- What a control node holds, and the paths that it received.
use Rattle.std.specs.Prelude.{◌≡◌, ℕ, true, List, [], ◌∷◌, ◌++◌, map, Bool, ◌==◌, if◌then◌else◌}
use Rattle.std.specs.declared.option.Option.{Option}
use Rattle.std.specs.declared.option.Option.TheVariants.{Some, None}
use Rattle.std.specs.List.{filter, filter_map, flat_map, list_any, enumerate_from}
use Rattle.std.specs.FinMap.{get, entries}
use Rattle.ov_types.specs.Prefix.{Block}
use Rattle.ov_types.specs.declared.numbers.InstanceId.{InstanceId}
use Rattle.ov_types.specs.declared.numbers.Label.{Label as LabelNo}
use Rattle.ov_types.specs.declared.numbers.Rd.{Rd}
use Rattle.ov_types.specs.declared.prefix.Addr.{Addr}
use Rattle.ov_types.specs.declared.targets.Target.{Target}
use Rattle.route_targets.specs.Numbers.{target_of, distinguisher_of}
use Rattle.node_model.specs.Members.{Member}
use Rattle.node_model.specs.Keys.{Key, Vpn, Publish}
use Rattle.node_model.specs.Values.{Value, Route, Label}
use Rattle.node_model.specs.Maps.{Map}
use Rattle.node_model.specs.Uses.{is_known, imports}

-- what an agent told on its session, and the agent's address
pub record Told : Type 0 where
  pub session : ℕ
  pub address : Addr
  pub map : Map

-- the feed, then what each peer told, then what each agent told, in the order of the sessions. Session 0 is the feed
pub record Holdings : Type 0 where
  pub asn : ℕ
  pub feed : Map
  pub peers : List Map
  pub agents : List Told

-- a prefix with where it leads, and the session that told it. A re-originated path counts as of session 65535
pub record Path : Type 0 where
  pub prefix : Block
  pub rd : Rd
  pub next_hop : Addr
  pub label : LabelNo
  pub targets : List Target
  pub session : ℕ

-- an own route: a publication of a known instance leads to its agent, with that instance's target alone
abbrev pub own_path : Holdings → Told → Key → Value → Option Path
own_path h a (Publish i prefix) (Label label) =
    if is_known h.feed i
    then Some (record {
      prefix = prefix;
      rd = distinguisher_of a.address i;
      next_hop = a.address;
      label = label;
      targets = target_of h.asn i ∷ [];
      session = a.session;
    })
    else None
own_path h a _ _ = None

abbrev pub own_paths : Holdings → List Path
own_paths h = flat_map (λ a. filter_map (λ e. own_path h a e.0 e.1) (entries a.map)) h.agents

abbrev pub peer_path : ℕ → Key → Value → Option Path
peer_path session (Vpn k) (Route r) =
    Some (record {
      prefix = k.prefix;
      rd = k.rd;
      next_hop = r.next_hop;
      label = r.label;
      targets = r.targets;
      session = session;
    })
peer_path session _ _ = None

abbrev pub peer_paths : Holdings → List Path
peer_paths h = flat_map (λ p. filter_map (λ e. peer_path p.0 e.0 e.1) (entries p.1)) (enumerate_from 1 h.peers)

-- a path has one of these targets
abbrev pub has_target : List Target → Path → Bool
has_target wanted path = list_any (λ t. list_any (λ u. t.0 == u.0) wanted) path.targets

-- the own routes and the peers' that have the target of an import
abbrev pub received : Holdings → InstanceId → List Path
received h i = filter (has_target (map (target_of h.asn) (imports h.feed i))) (own_paths h ++ peer_paths h)

-- a path is of a publication of a known instance by an agent
pub record IsOwnRoute (h : Holdings) (p : Path) : Type 0 where
  pub agent : Told
  pub instance : InstanceId
  pub told : Member agent h.agents
  pub publishes : get agent.map (Publish instance p.prefix) ≡ Some (Label p.label)
  pub known : is_known h.feed instance ≡ true
  pub rd : p.rd ≡ distinguisher_of agent.address instance
  pub next_hop : p.next_hop ≡ agent.address
  pub targets : p.targets ≡ target_of h.asn instance ∷ []
  pub session : p.session ≡ agent.session

-- an agent of this address publishes something here under this label
pub record IsPublishedHere (h : Holdings) (address : Addr) (label : LabelNo) : Type 0 where
  pub agent : Told
  pub instance : InstanceId
  pub prefix : Block
  pub told : Member agent h.agents
  pub at : agent.address ≡ address
  pub publishes : get agent.map (Publish instance prefix) ≡ Some (Label label)
