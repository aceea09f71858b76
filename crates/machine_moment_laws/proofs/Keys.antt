-- A node that holds what is said to it wants what is said by it.
use Rattle.std.specs.Prelude.{◌≡◌, ◌≤◌, ◌+◌, ◌++◌, ℕ, suc, List, [], ◌∷◌, map, is_some, true}
use Rattle.std.specs.FinMap.{get}
use Rattle.std.specs.List.{filter}
use Rattle.std.specs.Option.{option_map, unwrap_or}
use Rattle.std.specs.declared.option.Option.{Option}
use Rattle.std.specs.declared.option.Option.TheVariants.{Some}
use Rattle.std.proofs.Common.{ap, arith, inl, inr, refl, subst, sym, ◌∙◌}
use Rattle.std.proofs.lemmas.Option.{same_Some}
use Rattle.ov_types.specs.First.{same_name}
use Rattle.ov_types.specs.Prefix.{Block}
use Rattle.ov_types.specs.declared.rows.NodeId.{NodeId}
use Rattle.ov_types.specs.declared.numbers.InstanceId.{InstanceId}
use Rattle.ov_types.specs.declared.objects.LowKey.{LowKey}
use Rattle.ov_types.specs.declared.objects.LowKey.TheVariants as key
use Rattle.ov_types.specs.declared.objects.LowValue.{LowValue}
use Rattle.ov_types.specs.declared.objects.LowValue.TheVariants as low
use Rattle.ov_types.specs.declared.prefix.Addr.{Addr}
use Rattle.ov_types.specs.declared.vpn.VpnKey.{VpnKey}
use Rattle.route_targets.specs.Numbers.{distinguisher_of, target_of}
use Rattle.config_types.specs.declared.topology.Node.{Node}
use Rattle.schedule_script.specs.ConfigCheck.Checked.{Checked}
use Rattle.node_laws.specs.NodeModel.Agent.{needed_by, publication, slice_in_use, told_of}
use Rattle.node_laws.specs.NodeModel.Keys.{Key, Low, Publish, Row, Subscribe, Vpn}
use Rattle.node_laws.specs.NodeModel.Maps.{Map, as_object, object, objects}
use Rattle.node_laws.specs.NodeModel.Members.{Member}
use Rattle.node_laws.specs.NodeModel.Paths.{Holdings, Path, Told, has_target, own_paths, peer_paths, received}
use Rattle.node_laws.specs.NodeModel.Reaching.{reoriginated_paths}
use Rattle.node_laws.specs.NodeModel.Tables.{paths_of, selected}
use Rattle.node_laws.specs.NodeModel.Uses.{imports}
use Rattle.node_laws.specs.NodeModel.Values.{Value}
use Rattle.node_laws.specs.NodeModel.Wants.{route_entry, slice, wanted_by_agent, wanted_by_peers}
use Rattle.node_laws.proofs.NodeModel.Members.{any_in, entry_in, from_filter_map, from_map, in_filter, in_flat_map, in_left, in_map, in_right, none_some}
use Rattle.node_laws.proofs.NodeModel.Objects.{object_of}
use Rattle.node_laws.proofs.NodeModel.Orders.{key_total}
use Rattle.node_laws.proofs.NodeModel.Selection.{selected_found}
use Rattle.node_laws.proofs.NodeModel.Unknown.{target_in}
use Rattle.node_laws.proofs.NodeModel.Wanted.{named, object_to, row_to, slice_is}
use Rattle.machine_model.specs.Moments.{Each, NodePair, NumbersFit, nodes}
use Rattle.machine_model.specs.Network.{address_in, agent_holdings, control_holdings, sessions_of, told_on, view, wanted, wanted_from}
use Rattle.machine_model.specs.Session.{Agent, Configuration, Controller, Role, Session}
use Rattle.machine_model.specs.Setup.{Name, Setup, agents_of, checked, id_of, lists, opening}
use Rattle.machine_model.proofs.Twins.{itself}
use Rattle.machine_laws.specs.Compiled.{Attachment, as_attachment, attachments}
use Rattle.machine_laws.specs.Goal.{IsLaid, address_of}
use Rattle.machine_laws.specs.Headline.{IsWritten}
use Rattle.machine_laws.proofs.Told.{publication_of, publications, subscription_of, subscriptions_of}
use Rattle.machine_laws.proofs.Views.{far, views}
use Rattle.machine_moment_laws.specs.Common.{common, placed, standing}
use Rattle.machine_moment_laws.proofs.Above.{attached_same, needed_above, slice_placed, stood_above}
use Rattle.machine_moment_laws.proofs.Here.{Here, here_laid, stands_among, stands_there}
use Rattle.machine_moment_laws.proofs.CommonInUse.{slice_had, slice_some}
use Rattle.machine_moment_laws.proofs.OfSome.{AreSomeTo, each_from}
use Rattle.machine_moment_laws.proofs.Parts.{object_is}
use Rattle.machine_moment_laws.proofs.Placed.{placed_in, slices_too}
use Rattle.machine_moment_laws.proofs.Chains.{led_there}
use Rattle.machine_moment_laws.proofs.Sides.{ordered, side_above}
use Rattle.machine_laws.proofs.Numbers.{imports_itself}
use Rattle.machine_moment_laws.proofs.Paths.{peer_there, serves, small, feed_above, feed_placed, in_places, is_control, own_there, path_there, site}
use Rattle.machine_moment_laws.proofs.Says.{LedSaid, RowLed, HostSaid, IsInSlice, Mine, RowSaid, Says, SaysBy, HoldsTo, lasting, mine, some_is}
use Rattle.machine_moment_laws.proofs.Static.{attached_standing, imports_above}
use Rattle.machine_moment_laws.proofs.Stays.{HasKeys}
use Rattle.machine_moment_laws.proofs.Stood.{HoldStood, attached_at}

-- what an attachment publishes
published_in : (k : LowKey) (w : LowValue) (a : Attachment) → as_attachment k w ≡ Some a → Member (publication_of a) (publication k w)
published_in (key.Attach l) (low.AttachPort p i x n) a e = subst (λ (a : Attachment). Member (publication_of a) (publication (key.Attach l) (low.AttachPort p i x n))) (same_Some _ a e) (inl refl)
published_in (key.Attach l) (low.AttachCircuit c s n) a e = subst (λ (a : Attachment). Member (publication_of a) (publication (key.Attach l) (low.AttachCircuit c s n))) (same_Some _ a e) (inl refl)
published_in (key.Attach l) (low.Instance is) a e = absurd (none_some a e)
published_in (key.Attach l) (low.Acl s r) a e = absurd (none_some a e)
published_in (key.Attach l) (low.ChainUse x y c d f) a e = absurd (none_some a e)
published_in (key.Instance n) w a e = absurd (none_some a e)
published_in (key.Acl x y) w a e = absurd (none_some a e)
published_in (key.ChainUse u) w a e = absurd (none_some a e)

belongs : (feed : Map) (k : LowKey) (w : LowValue) (a : Attachment) → as_attachment k w ≡ Some a → Member (k, w) (objects feed) → Member (k, w) (slice feed a.node)
belongs feed (key.Attach l) w a e m = (slice_is feed a.node (key.Attach l) w).1 (m, attached_at (key.Attach l) w a e)
belongs feed (key.Instance n) w a e m = absurd (none_some a e)
belongs feed (key.Acl x y) w a e m = absurd (none_some a e)
belongs feed (key.ChainUse u) w a e m = absurd (none_some a e)

module _ (b : Checked) (ds : List Checked) (written : (c : Checked) → Member c (b ∷ ds) → IsWritten (opening c)) where
  abbrev cs : List Checked
  cs = b ∷ ds

  abbrev M : Map
  M = common cs

  abbrev W : Map
  W = placed cs

  module _ (r : ℕ) (x : Setup) (ss : List Session) (here : Here b ds written x (map nodes ss)) (stays : Each (HoldsTo b ds written r) ss) (some : Each (AreSomeTo cs r) ss) (st : Each (HoldStood cs b.topology.asn r) ss) where
    abbrev places : List NodePair
    places = map nodes ss

    laid : IsLaid x places
    laid = here_laid b ds written x places here

    module _ (n : Name) where
      abbrev own : List Session
      own = sessions_of n ss

      address_is : (c : Node) → Member c (standing cs) → address_of x c.name ≡ c.address
      address_is c m = ap (λ (o : Option Node). unwrap_or (option_map (λ (n : Node). n.address) o) (record { 0 = 0 })) (stands_there b ds written c m (checked x) here.among)

      lower : (m n : ℕ) → suc m ≤ suc n → m ≤ n
      lower m n h = omega (arith, h)

      -- ---- an agent
      in_told : (es : List (LowKey × LowValue)) (e : Key × Value) → Member e (publications es ++ subscriptions_of es) → is_some (get (told_of es) e.0) ≡ true
      in_told es e m = ap is_some (entry_in key_total e (publications es ++ subscriptions_of es) m).1

      agent_publishes : (c : Node) → Member c (standing cs) → 2 ≤ r → (to : Attachment) → Member to (attachments M) → to.node ≡ c.address → is_some (get (told_of (slice_in_use (agent_holdings x c.name (views (sessions_of c.name ss))))) (Publish to.instance to.prefix)) ≡ true
      agent_publishes c stays_c rank to attached at =
          let es = slice_in_use (agent_holdings x c.name (views (sessions_of c.name ss))) in
          let q = from_filter_map (λ (e : LowKey × LowValue). as_attachment e.0 e.1) to (objects M) attached in
          let there : Member (q.0.0, q.0.1) (slice M c.address) = subst (λ (a : Addr). Member (q.0.0, q.0.1) (slice M a)) at (belongs M q.0.0 q.0.1 to q.2 q.1) in
          let v = slice_some b ds written r x ss here stays some st c stays_c rank q.0.0 q.0.1 (slices_too b ds c.address q.0.0 q.0.1 there) in
          let same = attached_same q.0.0 q.0.1 v.0 to q.2 (stood_above b ds q.0.0 q.0.1 v.0 (ap as_object (object_of M q.0.0 q.0.1 q.1)) v.2) in
          let e : as_attachment q.0.0 v.0 ≡ Some to = ap (as_attachment q.0.0) (sym same) ∙ q.2 in
          in_told es (publication_of to) (in_left (publication_of to) (publications es) (subscriptions_of es) (in_flat_map (λ (e : LowKey × LowValue). publication e.0 e.1) (q.0.0, v.0) (publication_of to) es v.1 (published_in q.0.0 v.0 to e)))

      agent_subscribes : (c : Node) → Member c (standing cs) → 2 ≤ r → (i : InstanceId) → Member i (needed_by (slice W c.address)) → is_some (get (told_of (slice_in_use (agent_holdings x c.name (views (sessions_of c.name ss))))) (Subscribe i)) ≡ true
      agent_subscribes c stays_c rank i needed =
          let es = slice_in_use (agent_holdings x c.name (views (sessions_of c.name ss))) in
          let there = needed_above (slice W c.address) es (slice_had b ds written r x ss here stays some st c stays_c rank) i needed in
          in_told es (subscription_of i) (in_right (subscription_of i) (publications es) (subscriptions_of es) (in_map subscription_of i (needed_by es) there))

      -- ---- a control node
      module _ (s : Session) (among : Member s own) (m : Mine b ds written r x n s) (control : s.near.role ≡ Controller) where
        abbrev h : Holdings
        h = control_holdings x n (views own)

        slice_told : s.far.role ≡ Agent → (k : LowKey) → 1 ≤ r → IsInSlice b ds written s.far.name k → is_some (get (wanted_by_agent h (told_on (agents_of x n) (view s))) (Low k)) ≡ true
        slice_told is_agent k rank said =
            let c = said.0 in
            let there = feed_placed b ds written r x ss here stays some st n s among m control rank in
            let v = slice_placed W h.feed there c.address k said.3 said.4 in
            let at : address_in (agents_of x n) s.far.name ≡ c.address =
            laid.addressed n (far s) (in_places b ds written r x ss here stays some st n s among m control) (is_control b ds written r x ss here stays some st n s among m control) is_agent
            ∙ ap (address_of x) (sym said.2) ∙ address_is c said.1 in
            let held : Member (named k v.0) (slice h.feed (address_in (agents_of x n) s.far.name)) = subst (λ (a : Addr). Member (named k v.0) (slice h.feed a)) (sym at) v.1 in
            ap is_some (object_to h (told_on (agents_of x n) (view s)) k v.0 held)

        host_told : (k : VpnKey) → HostSaid b ds written (suc r) n k → is_some (get (wanted_by_peers h) (Vpn k)) ≡ true
        host_told k q =
            let c = q.served.node in
            let site_n = from_map (λ (d : NodeId). d.name) n x.topology.controllers (site b ds written r x ss here stays some st n s among m control) in
            let fit : NumbersFit x.topology site_n.0 (agents_of x site_n.0.name) = here.fit.fit site_n.0 site_n.1 in
            let listed : lists c site_n.0 ≡ true = any_in (same_name site_n.0.name) n c.controllers q.served.lists (subst (λ (k : Name). same_name site_n.0.name k ≡ true) site_n.2 (itself site_n.0.name)) in
            let there : Member (Some (id_of c)) (agents_of x n) = subst (λ (k : Name). Member (Some (id_of c)) (agents_of x k)) site_n.2 (fit.all c (stands_among b ds written c q.served.stays (checked x) here.among) listed) in
            let p = own_there b ds written r x ss here stays some st n s among m control (lower 3 r q.rank) q.to q.served.attached c q.served.stays q.served.at there in
            let key_is : Vpn (record { rd = p.0.rd; prefix = p.0.prefix }) ≡ Vpn k = λ j. Vpn (record { rd = (p.2.rd ∙ sym q.rd) j; prefix = (p.2.prefix ∙ sym q.prefix) j }) in
            ap (λ (k : Key). is_some (get (wanted_by_peers h) k)) (sym key_is)
            ∙ ap is_some (entry_in key_total (route_entry p.0) (map route_entry (own_paths h ++ reoriginated_paths h)) (in_map route_entry p.0 (own_paths h ++ reoriginated_paths h) (in_left p.0 (own_paths h) (reoriginated_paths h) p.1))).1

        -- a path that an instance imports gives it a row
        row_told : s.far.role ≡ Agent → (i : InstanceId) (y : Block) → is_some (get s.near.held (Subscribe i)) ≡ true → (p : Path) → Member p (paths_of h i) → p.prefix ≡ y → is_some (get (wanted_by_agent h (told_on (agents_of x n) (view s))) (Row i y)) ≡ true
        row_told is_agent i y sub p there at =
            let q = selected_found (paths_of h i) p there in
            let a : Told = told_on (agents_of x n) (view s) in
            ap is_some (row_to h a i y (record { next_hop = q.0.next_hop; label = q.0.label }) (record { subscribed = sub; path = q.0; row = ap (get (selected (paths_of h i))) (sym at) ∙ q.1; hop_is = refl }))

        host_row_told : s.far.role ≡ Agent → lasting b ds written s ≡ true → (i : InstanceId) (y : Block) → RowSaid b ds written (suc r) s.far.name i y → is_some (get (wanted_by_agent h (told_on (agents_of x n) (view s))) (Row i y)) ≡ true
        host_row_told is_agent l i y q =
            let above = feed_above b ds written r x ss here stays some st n s among m control (four_one r (lower 4 r q.rank)) in
            let imported = imports_above M h.feed above i q.to.instance q.imported in
            let p = path_there b ds written r x ss here stays some st n s among m control (lower 4 r q.rank) q.to q.attached in
            let targets : p.0.targets ≡ target_of h.asn q.to.instance ∷ [] = p.3 ∙ ap (λ (n : ℕ). target_of n q.to.instance ∷ []) (sym here.asn) in
            let got : Member p.0 (received h i) = in_filter (has_target (map (target_of h.asn) (imports h.feed i))) p.0 (own_paths h ++ peer_paths h) p.1 (target_in h.asn q.to.instance (imports h.feed i) p.0 targets imported) in
            let says : SaysBy b ds written r Agent s.near.role s.far.name s.near.name (Subscribe i) = (four_three r (lower 4 r q.rank), q.needed) in
            let sub = m.held l (Subscribe i) (subst (λ (p : Role). SaysBy b ds written r p s.near.role s.far.name s.near.name (Subscribe i)) (sym is_agent) says) in
            row_told is_agent i y sub p.0 (in_left p.0 (received h i) (filter (has_target (target_of h.asn i ∷ [])) (reoriginated_paths h)) got) (p.2 ∙ q.prefix_is)
          where
            four_one : (r : ℕ) → 4 ≤ r → 1 ≤ r
            four_one r h = omega (arith, h)

            four_three : (r : ℕ) → 4 ≤ r → 3 ≤ r
            four_three r h = omega (arith, h)

        -- a subnet that leads on
        there_here : (c : Node) → Member c (standing cs) → Member n c.controllers → Member (Some (id_of c)) (agents_of x n)
        there_here c stays_c lists_n =
            let site_n = from_map (λ (d : NodeId). d.name) n x.topology.controllers (site b ds written r x ss here stays some st n s among m control) in
            let fit : NumbersFit x.topology site_n.0 (agents_of x site_n.0.name) = here.fit.fit site_n.0 site_n.1 in
            let listed : lists c site_n.0 ≡ true = any_in (same_name site_n.0.name) n c.controllers lists_n (subst (λ (k : Name). same_name site_n.0.name k ≡ true) site_n.2 (itself site_n.0.name)) in
            subst (λ (k : Name). Member (Some (id_of c)) (agents_of x k)) site_n.2 (fit.all c (stands_among b ds written c stays_c (checked x) here.among) listed)

        led_told : (k : VpnKey) → LedSaid b ds written (suc r) n k → is_some (get (wanted_by_peers h) (Vpn k)) ≡ true
        led_told k q =
            let c = q.served.node in
            let rank = lower (4 + q.depth) r (next 4 q.depth (suc r) q.rank) in
            let above = feed_above b ds written r x ss here stays some st n s among m control (first 4 q.depth r rank) in
            let v = side_above M h.feed above q.side q.of_use in
            let p = led_there b ds written r x ss here stays some st n s among m control q.side q.of_use v.chain v.same k.prefix q.subnet q.held q.depth q.within rank c q.served.stays q.to q.served.attached q.circuit q.served.at (there_here c q.served.stays q.served.lists) v.of_use in
            let key_is : Vpn (record { rd = p.0.rd; prefix = p.0.prefix }) ≡ Vpn k = λ j. Vpn (record { rd = (p.3 ∙ sym q.rd) j; prefix = p.2 j }) in
            ap (λ (k : Key). is_some (get (wanted_by_peers h) k)) (sym key_is)
            ∙ ap is_some (entry_in key_total (route_entry p.0) (map route_entry (own_paths h ++ reoriginated_paths h)) (in_map route_entry p.0 (own_paths h ++ reoriginated_paths h) (in_right p.0 (own_paths h) (reoriginated_paths h) p.1))).1
          where
            next : (a d r : ℕ) → a + suc d ≤ r → suc (a + d) ≤ r
            next a d r h = omega (arith, h)

            first : (a d r : ℕ) → 4 + d ≤ r → 1 ≤ r
            first a d r h = omega (arith, h)

        led_row_told : s.far.role ≡ Agent → lasting b ds written s ≡ true → (i : InstanceId) (y : Block) → RowLed b ds written (suc r) s.far.name i y → is_some (get (wanted_by_agent h (told_on (agents_of x n) (view s))) (Row i y)) ≡ true
        led_row_told is_agent l i y q =
            let t = q.led in
            let rank : 4 + suc t.d ≤ r = less t.d r q.rank in
            let above = feed_above b ds written r x ss here stays some st n s among m control (first t.d r rank) in
            let v = side_above M h.feed above t.side t.of_use in
            let c = attached_standing b ds written t.to t.attached in
            let says : SaysBy b ds written r Agent s.near.role s.far.name s.near.name (Subscribe i) = (third t.d r rank, q.needed) in
            let sub = m.held l (Subscribe i) (subst (λ (p : Role). SaysBy b ds written r p s.near.role s.far.name s.near.name (Subscribe i)) (sym is_agent) says) in
            elim (serves b ds written r x ss here stays some st n s among m control t.to t.attached c.0 c.1 c.2) as (λ _. is_some (get (wanted_by_agent h (told_on (agents_of x n) (view s))) (Row i y)) ≡ true) [
              | inl serving ↦
                  let p = led_there b ds written r x ss here stays some st n s among m control t.side t.of_use v.chain v.same y t.subnet t.held t.d t.within (weaker t.d r rank) c.0 c.1 t.to t.attached t.circuit c.2 serving v.of_use in
                  let targets : p.0.targets ≡ target_of h.asn i ∷ [] = p.4 ∙ ap (λ (i : InstanceId). target_of h.asn i ∷ []) t.at in
                  let got : Member p.0 (filter (has_target (target_of h.asn i ∷ [])) (reoriginated_paths h)) = in_filter (has_target (target_of h.asn i ∷ [])) p.0 (reoriginated_paths h) p.1 (target_in h.asn i (i ∷ []) p.0 targets (inl refl)) in
                  row_told is_agent i y sub p.0 (in_right p.0 (received h i) (filter (has_target (target_of h.asn i ∷ [])) (reoriginated_paths h)) got) p.2
              | inr u ↦
                  let k : VpnKey = record { rd = distinguisher_of t.to.node t.to.instance; prefix = y } in
                  let p = peer_there b ds written r x ss here stays some st n s among m control n u.0 u.1 u.2 u.3 k t.to.instance (small b ds written r x ss here stays some st n s among m control t.to t.attached)
                  (inr (record { side = t.side; of_use = t.of_use; depth = t.d; within = t.within; rank = rank; subnet = t.subnet; held = t.held; to = t.to; served = record { attached = t.attached; node = c.0; stays = c.1; at = c.2; lists = u.4 }; circuit = t.circuit; rd = refl })) in
                  let targets : p.0.targets ≡ target_of h.asn i ∷ [] = p.4 ∙ (λ j. target_of (sym here.asn j) ((t.circuit.0 ∙ t.at) j) ∷ []) in
                  let imported : Member i (imports h.feed i) = imports_above M h.feed above i i (subst (λ (i : InstanceId). Member i (imports M i)) t.at (imports_itself M t.side (suc t.d) (ordered b ds written) t.of_use t.within)) in
                  let got : Member p.0 (received h i) = in_filter (has_target (map (target_of h.asn) (imports h.feed i))) p.0 (own_paths h ++ peer_paths h) (in_right p.0 (own_paths h) (peer_paths h) p.1) (target_in h.asn i (imports h.feed i) p.0 targets imported) in
                  row_told is_agent i y sub p.0 (in_left p.0 (received h i) (filter (has_target (target_of h.asn i ∷ [])) (reoriginated_paths h)) got) p.2
            ]
          where
            less : (d r : ℕ) → 5 + suc d ≤ suc r → 4 + suc d ≤ r
            less d r h = omega (arith, h)

            weaker : (d r : ℕ) → 4 + suc d ≤ r → 4 + d ≤ r
            weaker d r h = omega (arith, h)

            first : (d r : ℕ) → 4 + suc d ≤ r → 1 ≤ r
            first d r h = omega (arith, h)

            third : (d r : ℕ) → 4 + suc d ≤ r → 3 ≤ r
            third d r h = omega (arith, h)

      -- ---- each node
      wants_at : (s : Session) → Member s own → Mine b ds written r x n s → lasting b ds written s ≡ true → HasKeys (Says b ds written (suc r)) (s.near.name, s.near.role) (s.far.name, s.far.role) (wanted x (views own) (view s))
      unfolding wanted
      wants_at s among m last = λ k says. go s.near.role s.far.role refl refl k says
        where
          told_by_agent : (k : Key) → is_some (get (told_of (slice_in_use (agent_holdings x n (views own)))) k) ≡ true → is_some (get (told_of (slice_in_use (agent_holdings x s.near.name (views own)))) k) ≡ true
          told_by_agent k e = subst (λ (c : Name). is_some (get (told_of (slice_in_use (agent_holdings x c (views own)))) k) ≡ true) (sym m.name) e

          of_node : (c : Node) (k : Key) → c.name ≡ s.near.name → is_some (get (told_of (slice_in_use (agent_holdings x c.name (views (sessions_of c.name ss))))) k) ≡ true → is_some (get (told_of (slice_in_use (agent_holdings x n (views own)))) k) ≡ true
          of_node c k same e = subst (λ (c : Name). is_some (get (told_of (slice_in_use (agent_holdings x c (views (sessions_of c ss))))) k) ≡ true) (same ∙ m.name) e

          go : (p q : Role) → s.near.role ≡ p → s.far.role ≡ q → (k : Key) → SaysBy b ds written (suc r) p q s.near.name s.far.name k → is_some (get (wanted_from x (views own) (record (view s) { other_role = q }) p) k) ≡ true
          go Configuration q e f (Low k) h =
              let w = some_is (object W k) h.1 in
              let v = placed_in b ds (checked x) here.among k w.0 w.1 in
              ap is_some (object_is _ k v.0 v.1)
          go Controller Agent e f (Low k) h =
              subst (λ (c : Name). is_some (get (wanted_by_agent (control_holdings x c (views own)) (told_on (agents_of x c) (view s))) (Low k)) ≡ true) (sym m.name)
              (slice_told s among m e f k (lower 1 r h.0) h.1)
          go Controller Agent e f (Row i y) h =
              subst (λ (c : Name). is_some (get (wanted_by_agent (control_holdings x c (views own)) (told_on (agents_of x c) (view s))) (Row i y)) ≡ true) (sym m.name)
              (elim h as (λ _. is_some (get (wanted_by_agent (control_holdings x n (views own)) (told_on (agents_of x n) (view s))) (Row i y)) ≡ true) [ inl q ↦ host_row_told s among m e f last i y q | inr q ↦ led_row_told s among m e f last i y q ])
          go Controller Controller e f (Vpn k) h =
              subst (λ (c : Name). is_some (get (wanted_by_peers (control_holdings x c (views own))) (Vpn k)) ≡ true) (sym m.name)
              (elim h as (λ _. is_some (get (wanted_by_peers (control_holdings x n (views own))) (Vpn k)) ≡ true) [ inl q ↦ host_told s among m e k (subst (λ (c : Name). HostSaid b ds written (suc r) c k) m.name q) | inr q ↦ led_told s among m e k (subst (λ (c : Name). LedSaid b ds written (suc r) c k) m.name q) ])
          go Agent q e f (Publish i y) h =
              told_by_agent (Publish i y) (of_node h.node (Publish i y) h.name
              (subst (λ (i : InstanceId). is_some (get (told_of (slice_in_use (agent_holdings x h.node.name (views (sessions_of h.node.name ss))))) (Publish i y)) ≡ true) h.instance
              (subst (λ (y : Block). is_some (get (told_of (slice_in_use (agent_holdings x h.node.name (views (sessions_of h.node.name ss))))) (Publish h.to.instance y)) ≡ true) h.prefix_is
              (agent_publishes h.node h.stays (lower 2 r h.rank) h.to h.attached h.at))))
          go Agent q e f (Subscribe i) h =
              told_by_agent (Subscribe i) (of_node h.1.node (Subscribe i) h.1.name_is (agent_subscribes h.1.node h.1.stays (lower 2 r h.0) i h.1.needed))
          go Configuration q e f (Vpn k) h = absurd h
          go Configuration q e f (Row i p) h = absurd h
          go Configuration q e f (Publish i p) h = absurd h
          go Configuration q e f (Subscribe i) h = absurd h
          go Controller Agent e f (Vpn k) h = absurd h
          go Controller Agent e f (Publish i p) h = absurd h
          go Controller Agent e f (Subscribe i) h = absurd h
          go Controller Configuration e f k h = absurd h
          go Controller Controller e f (Low k) h = absurd h
          go Controller Controller e f (Row i p) h = absurd h
          go Controller Controller e f (Publish i p) h = absurd h
          go Controller Controller e f (Subscribe i) h = absurd h
          go Agent q e f (Low k) h = absurd h
          go Agent q e f (Vpn k) h = absurd h
          go Agent q e f (Row i p) h = absurd h

      pub keys_wanted : Each (λ s. lasting b ds written s ≡ true → HasKeys (Says b ds written (suc r)) (s.near.name, s.near.role) (s.far.name, s.far.role) (wanted x (views own) (view s))) own
      keys_wanted = each_from (Mine b ds written r x n) (λ s. lasting b ds written s ≡ true → HasKeys (Says b ds written (suc r)) (s.near.name, s.near.role) (s.far.name, s.far.role) (wanted x (views own) (view s))) own (mine b ds written r x ss here stays some st n) wants_at
