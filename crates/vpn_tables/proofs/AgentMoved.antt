-- Where it is said whose session it is, what its agent published moves alone.
use Rattle.std.specs.Prelude.{◌≡◌, ◌⊎◌, ℕ, List, [], ◌∷◌, map, Bool, true, false, cond, ◌==◌, is_some, nat_lt}
use Rattle.std.specs.declared.option.Option.{Option}
use Rattle.std.specs.declared.option.Option.TheVariants.{Some, None}
use Rattle.std.specs.List.{filter, flat_map}
use Rattle.std.specs.FinMap.{empty, entries, get, get-empty}
use Rattle.std.proofs.lemmas.Bool.{eqb-true}
use Rattle.std.proofs.Common.{refl, sym, ◌∙◌, ap, subst, inl, inr}
use Rattle.ov_sync.specs.declared.Delta.TheVariants.{Drop}
use Rattle.ov_types.specs.Prefix.{Block, host_prefix}
use Rattle.ov_types.specs.declared.keys.UpKey.{UpKey}
use Rattle.ov_types.specs.declared.keys.UpKey.TheVariants as Up
use Rattle.ov_types.specs.declared.numbers.InstanceId.{InstanceId}
use Rattle.ov_types.specs.declared.numbers.Label.{Label as LabelNo}
use Rattle.ov_types.specs.declared.prefix.Addr.{Addr}
use Rattle.ov_types.specs.declared.targets.Target.{Target}
use Rattle.route_targets.specs.Numbers.{circuit_address_of, circuit_instance_of, target_of}
use Rattle.node_model.specs.Keys.{Key, Publish, key_cmp}
use Rattle.node_model.specs.Values.{Value, Label}
use Rattle.node_model.specs.Maps.{Map, as_label}
use Rattle.node_model.specs.Members.{Member}
use Rattle.node_model.specs.Uses.{uses}
use Rattle.node_model.specs.Paths.{Holdings, Told, own_paths}
use Rattle.node_model.specs.Reaching.{AreShort, Side, published_by, published_in, publisher, sides}
use Rattle.node_model.specs.Tables.{known_instances}
use Rattle.node_model.proofs.Members.{in_filter, in_filter_map, in_flat_map, in_left, in_map, in_right, member_get, none_some}
use Rattle.node_model.proofs.Objects.{side_use}
use Rattle.node_model.proofs.Orders.{key_exact, key_total}
use Rattle.node_model.proofs.Routes.{label_is, own_route_from, own_route_in}
use Rattle.vpn_holdings.specs.Changes.{named, with_agent, with_nothing}
use Rattle.vpn_holdings.specs.Gathered.{keys_told, up_key}
use Rattle.vpn_holdings.specs.Indexed.{AreInOrder}
use Rattle.vpn_holdings.specs.Listing.{told_in}
use Rattle.vpn_holdings.specs.Moved.{place_by, target_at, targets_by_publication, told_on}
use Rattle.vpn_holdings.specs.Touched.{imports_one, is_touched, rows_at_use, rows_by_key, touched_rows}
use Rattle.vpn_holdings.proofs.AgentsIndexed.{found_by_session, none_there, told_first}
use Rattle.vpn_tables.proofs.Led.{importing}
use Rattle.vpn_tables.proofs.Wanted.{at_row}
use Rattle.vpn_tables.specs.Changing.{rows_by_agent}
use Rattle.vpn_tables.specs.Stored.{entry_of}
use Rattle.vpn_tables.specs.declared.stored.RowKey.{RowKey}
use Rattle.vpn_tables.proofs.Alike.{IsClean, IsMoved, alike, clean_too}

-- an agent publishes this
pub record Publishes (a : Told) (j : InstanceId) (q : Block) : Type 0 where
  pub label : LabelNo
  pub told : get a.map (Publish j q) ≡ Some (Label label)

-- an agent of the session publishes this
pub record MovesBy (agents : List Told) (session : ℕ) (j : InstanceId) (q : Block) : Type 0 where
  pub agent : Told
  pub held : Member agent agents
  pub session_is : agent.session ≡ session
  pub publishes : Publishes agent j q

-- what a change of paths with a target touches, of a row
pub imported_touched : (h : Holdings) (j i : InstanceId) (q : Block) → AreShort h.feed → imports_one h (target_of h.asn j ∷ []) i ≡ true → Member (at_row i q) (touched_rows h (target_of h.asn j ∷ []) q)
imported_touched h j i q short e =
    let targets = target_of h.asn j ∷ [] in
    in_left (at_row i q) (map (λ (i : InstanceId). (i, q)) (filter (imports_one h targets) (known_instances h.feed))) (flat_map rows_at_use (filter (is_touched h targets) (uses h.feed)))
    (in_map (λ (i : InstanceId). (i, q)) i (filter (imports_one h targets) (known_instances h.feed)) (importing h targets i short e))

pub use_touched : (h : Holdings) (j i : InstanceId) (q x : Block) (s : Side) → Member s (sides h.feed) → Member (at_row i q) (rows_at_use s.chain) → is_touched h (target_of h.asn j ∷ []) s.chain ≡ true
    → Member (at_row i q) (touched_rows h (target_of h.asn j ∷ []) x)
use_touched h j i q x s held row t =
    let targets = target_of h.asn j ∷ [] in
    in_right (at_row i q) (map (λ (i : InstanceId). (i, x)) (filter (imports_one h targets) (known_instances h.feed))) (flat_map rows_at_use (filter (is_touched h targets) (uses h.feed)))
    (in_flat_map rows_at_use s.chain (at_row i q) (filter (is_touched h targets) (uses h.feed)) (in_filter (is_touched h targets) s.chain (uses h.feed) (side_use h.feed s held) t) row)

pub not_true : (b : Bool) → (b ≡ true → ⊥) → b ≡ false
not_true true f = absurd (f refl)
not_true false f = refl

module _ (h : Holdings) (session : ℕ) (address : Addr) where
  abbrev later : Holdings
  later = with_agent h session address

  abbrev with_address : Told → Told
  with_address a = record a { address = address }

  abbrev Moves : InstanceId → Block → Type 0
  Moves = MovesBy h.agents session

  -- ---- agents
  named_member : (a : Told) (ts : List Told) → Member a ts → Member a (named ts session address) ⊎ (a.session ≡ session)
  named_member a [] m = absurd m
  named_member a (b ∷ ts) m =
      elim (nat_lt b.session session) as (λ t. Member a (cond t (b ∷ named ts session address) (cond (b.session == session) (with_address b ∷ ts) (with_nothing session address ∷ b ∷ ts))) ⊎ (a.session ≡ session)) [
        | true ↦ elim m as (λ _. Member a (b ∷ named ts session address) ⊎ (a.session ≡ session)) [
          | inl e ↦ inl (inl e)
          | inr n ↦ elim (named_member a ts n) as (λ _. Member a (b ∷ named ts session address) ⊎ (a.session ≡ session)) [ inl o ↦ inl (inr o) | inr e ↦ inr e ]
        ]
        | false ↦
            elim (b.session == session) as (λ t. (b.session == session) ≡ t → Member a (cond t (with_address b ∷ ts) (with_nothing session address ∷ b ∷ ts)) ⊎ (a.session ≡ session)) [
              | true ↦ λ is. elim m as (λ _. Member a (with_address b ∷ ts) ⊎ (a.session ≡ session)) [
                | inl e ↦ inr (ap (λ (x : Told). x.session) (sym e) ∙ eqb-true b.session session is)
                | inr n ↦ inl (inr n)
              ]
              | false ↦ λ _. inl (inr m)
            ] refl
      ]

  -- an agent that is named so was there, or has the map of one of the session, or an empty one
  named_back : (a : Told) (ts : List Told) → Member a (named ts session address) → Member a ts ⊎ (((b : Told) × Member b ts × ((b.session ≡ session) × (b.map ≡ a.map))) ⊎ (a.map ≡ empty))
  named_back a [] m = elim m as (λ _. Member a [] ⊎ (((b : Told) × Member b [] × ((b.session ≡ session) × (b.map ≡ a.map))) ⊎ (a.map ≡ empty))) [
    | inl e ↦ inr (inr (ap (λ (x : Told). x.map) (sym e)))
    | inr n ↦ absurd n
  ]
  named_back a (b ∷ ts) m =
      elim (nat_lt b.session session) as (λ t. Member a (cond t (b ∷ named ts session address) (cond (b.session == session) (with_address b ∷ ts) (with_nothing session address ∷ b ∷ ts)))
      → Member a (b ∷ ts) ⊎ (((c : Told) × Member c (b ∷ ts) × ((c.session ≡ session) × (c.map ≡ a.map))) ⊎ (a.map ≡ empty))) [
        | true ↦ λ m. elim m as (λ _. Member a (b ∷ ts) ⊎ (((c : Told) × Member c (b ∷ ts) × ((c.session ≡ session) × (c.map ≡ a.map))) ⊎ (a.map ≡ empty))) [
          | inl e ↦ inl (inl e)
          | inr n ↦ elim (named_back a ts n) as (λ _. Member a (b ∷ ts) ⊎ (((c : Told) × Member c (b ∷ ts) × ((c.session ≡ session) × (c.map ≡ a.map))) ⊎ (a.map ≡ empty))) [
            | inl o ↦ inl (inr o)
            | inr o ↦ elim o as (λ _. Member a (b ∷ ts) ⊎ (((c : Told) × Member c (b ∷ ts) × ((c.session ≡ session) × (c.map ≡ a.map))) ⊎ (a.map ≡ empty))) [
              | inl c ↦ inr (inl (c.0, inr c.1, c.2))
              | inr e ↦ inr (inr e)
            ]
          ]
        ]
        | false ↦ λ m.
            elim (b.session == session) as (λ t. (b.session == session) ≡ t → Member a (cond t (with_address b ∷ ts) (with_nothing session address ∷ b ∷ ts))
            → Member a (b ∷ ts) ⊎ (((c : Told) × Member c (b ∷ ts) × ((c.session ≡ session) × (c.map ≡ a.map))) ⊎ (a.map ≡ empty))) [
              | true ↦ λ is m. elim m as (λ _. Member a (b ∷ ts) ⊎ (((c : Told) × Member c (b ∷ ts) × ((c.session ≡ session) × (c.map ≡ a.map))) ⊎ (a.map ≡ empty))) [
                | inl e ↦ inr (inl (b, inl refl, (eqb-true b.session session is, ap (λ (x : Told). x.map) e)))
                | inr n ↦ inl (inr n)
              ]
              | false ↦ λ is m. elim m as (λ _. Member a (b ∷ ts) ⊎ (((c : Told) × Member c (b ∷ ts) × ((c.session ≡ session) × (c.map ≡ a.map))) ⊎ (a.map ≡ empty))) [
                | inl e ↦ inr (inr (ap (λ (x : Told). x.map) (sym e)))
                | inr n ↦ inl n
              ]
            ] refl m
      ] m

  -- ---- circuits
  abbrev Found : ℕ → List Told → Type 0
  Found c ts = (a : Told) × Member a ts × ((a.session ≡ session) × Publishes a (circuit_instance_of c) (host_prefix (circuit_address_of c).0))

  from_first : (c : ℕ) (b : Told) (ts us : List Told) → published_in ts c ≡ published_in us c → published_in (b ∷ ts) c ≡ published_in (b ∷ us) c
  from_first c b ts us e =
      elim (published_by b c) as (λ (o : Option LabelNo). elim o [ Some label ↦ Some (b.address, label) | None ↦ published_in ts c ] ≡ elim o [ Some label ↦ Some (b.address, label) | None ↦ published_in us c ]) [ Some label ↦ refl | None ↦ e ]

  past_nothing : (c : ℕ) (ts : List Told) → published_in ts c ≡ published_in (with_nothing session address ∷ ts) c
  past_nothing c ts =
      sym (ap (λ (o : Option Value). elim (as_label o) [ Some label ↦ Some (address, label) | None ↦ published_in ts c ]) (get-empty key_cmp (Publish (circuit_instance_of c) (host_prefix (circuit_address_of c).0))))

  named_publisher : (c : ℕ) (ts : List Told) → (published_in ts c ≡ published_in (named ts session address) c) ⊎ Found c ts
  named_publisher c [] = inl (past_nothing c [])
  named_publisher c (b ∷ ts) =
      elim (nat_lt b.session session) as (λ t. (published_in (b ∷ ts) c ≡ published_in (cond t (b ∷ named ts session address) (cond (b.session == session) (with_address b ∷ ts) (with_nothing session address ∷ b ∷ ts))) c) ⊎ Found c (b ∷ ts)) [
        | true ↦ elim (named_publisher c ts) as (λ _. (published_in (b ∷ ts) c ≡ published_in (b ∷ named ts session address) c) ⊎ Found c (b ∷ ts)) [
          | inl e ↦ inl (from_first c b ts (named ts session address) e)
          | inr f ↦ inr (f.0, inr f.1, f.2)
        ]
        | false ↦
            elim (b.session == session) as (λ t. (b.session == session) ≡ t → (published_in (b ∷ ts) c ≡ published_in (cond t (with_address b ∷ ts) (with_nothing session address ∷ b ∷ ts)) c) ⊎ Found c (b ∷ ts)) [
              | true ↦ λ is. at_agent (eqb-true b.session session is) (published_by b c) refl
              | false ↦ λ _. inl (past_nothing c (b ∷ ts))
            ] refl
      ]
    where
      at_agent : b.session ≡ session → (o : Option LabelNo) → published_by b c ≡ o → (published_in (b ∷ ts) c ≡ published_in (with_address b ∷ ts) c) ⊎ Found c (b ∷ ts)
      at_agent is (Some l) e = inr (b, inl refl, (is, record { label = l; told = label_is (get b.map (Publish (circuit_instance_of c) (host_prefix (circuit_address_of c).0))) l e }))
      at_agent is None e =
          inl (ap (λ (o : Option LabelNo). elim o [ Some label ↦ Some (b.address, label) | None ↦ published_in ts c ]) e
          ∙ sym (ap (λ (o : Option LabelNo). elim o [ Some label ↦ Some (address, label) | None ↦ published_in ts c ]) e))

  -- ---- each way
  there : IsMoved h later (λ _. false) Moves
  there = record {
    asn = refl;
    imported = λ i _. refl;
    paths = λ p m.
        let r = own_route_from h p m in
        elim (named_member r.agent h.agents r.told) as (λ _. Member p (own_paths later) ⊎ ((j : InstanceId) × (p.targets ≡ target_of h.asn j ∷ []) × Moves j p.prefix)) [
          | inl n ↦ inl (own_route_in later p (record { agent = r.agent; instance = r.instance; told = n; publishes = r.publishes; known = r.known; rd = r.rd; next_hop = r.next_hop; targets = r.targets; session = r.session }))
          | inr e ↦ inr (r.instance, r.targets, record { agent = r.agent; held = r.told; session_is = e; publishes = record { label = p.label; told = r.publishes } })
        ];
    peers = λ p m. m;
    held = λ s m d w o. m;
    along = λ s m d e w v o. refl;
    publishers = λ c. elim (named_publisher c h.agents) as (λ _. (publisher h c ≡ publisher later c) ⊎ ((q : Block) × Moves (circuit_instance_of c) q)) [
      | inl e ↦ inl e
      | inr f ↦ inr (host_prefix (circuit_address_of c).0, record { agent = f.0; held = f.1; session_is = f.2.0; publishes = f.2.1 })
    ];
  }

  back : IsMoved later h (λ _. false) Moves
  back = record {
    asn = refl;
    imported = λ i _. refl;
    paths = λ p m.
        let r = own_route_from later p m in
        elim (named_back r.agent h.agents r.told) as (λ _. Member p (own_paths h) ⊎ ((j : InstanceId) × (p.targets ≡ target_of h.asn j ∷ []) × Moves j p.prefix)) [
          | inl n ↦ inl (own_route_in h p (record { agent = r.agent; instance = r.instance; told = n; publishes = r.publishes; known = r.known; rd = r.rd; next_hop = r.next_hop; targets = r.targets; session = r.session }))
          | inr o ↦ elim o as (λ _. Member p (own_paths h) ⊎ ((j : InstanceId) × (p.targets ≡ target_of h.asn j ∷ []) × Moves j p.prefix)) [
            | inl b ↦ inr (r.instance, r.targets, record { agent = b.0; held = b.1; session_is = b.2.0; publishes = record { label = p.label; told = ap (λ (x : Map). get x (Publish r.instance p.prefix)) b.2.1 ∙ r.publishes } })
            | inr e ↦ absurd (none_some (Label p.label) (sym (ap (λ (x : Map). get x (Publish r.instance p.prefix)) e ∙ get-empty key_cmp (Publish r.instance p.prefix)) ∙ r.publishes))
          ]
        ];
    peers = λ p m. m;
    held = λ s m d w o. m;
    along = λ s m d e w v o. refl;
    publishers = λ c. elim (named_publisher c h.agents) as (λ _. (publisher later c ≡ publisher h c) ⊎ ((q : Block) × Moves (circuit_instance_of c) q)) [
      | inl e ↦ inl (sym e)
      | inr f ↦ inr (host_prefix (circuit_address_of c).0, record { agent = f.0; held = f.1; session_is = f.2.0; publishes = f.2.1 })
    ];
  }

  -- ---- what is listed
  module _ (order : AreInOrder h.agents) (short : AreShort h.feed) where
    agent_on : (j : InstanceId) (q : Block) (m : Moves j q) → told_on h.agents session ≡ Some m.agent
    agent_on j q m = by_case (told_on h.agents session) refl
      where
        found : told_in h.agents session ≡ m.agent
        found = subst (λ (s : ℕ). told_in h.agents s ≡ m.agent) m.session_is (found_by_session h.agents m.agent order m.held)

        by_case : (o : Option Told) → told_on h.agents session ≡ o → o ≡ Some m.agent
        by_case (Some a) e = ap Some (sym (told_first h.agents session a e) ∙ found)
        by_case None e =
            absurd (none_some (Label m.publishes.label) (sym (get-empty key_cmp (Publish j q))
            ∙ ap (λ (t : Told). get t.map (Publish j q)) (sym (none_there h.agents session order e) ∙ found) ∙ m.publishes.told))

    listed : (j : InstanceId) (q : Block) → Moves j q → (r : InstanceId × Block) → Member r (touched_rows h (target_of h.asn j ∷ []) q) → Member r (rows_by_agent h session)
    listed j q m r n =
        let on = agent_on j q m in
        let targets : targets_by_publication h session (Drop (Up.Publish j q)) ≡ target_of h.asn j ∷ [] =
        ap (λ (o : Option Told). target_at h.asn (place_by o (Drop (Up.Publish j q)))) on ∙ ap (λ (o : Option Value). target_at h.asn (cond (is_some o) (Some j) None)) m.publishes.told in
        in_flat_map (λ (k : UpKey). rows_by_key h (targets_by_publication h session (Drop k)) k) (Up.Publish j q) r (keys_told (told_in h.agents session))
        (subst (λ (a : Told). Member (Up.Publish j q) (keys_told a)) (sym (told_first h.agents session m.agent on))
        (in_filter_map (λ (e : Key × Value). up_key e.0 e.1) (Publish j q, Label m.publishes.label) (Up.Publish j q) (entries m.agent.map)
        (member_get key_total key_exact m.agent.map (Publish j q) (Label m.publishes.label) m.publishes.told) refl))
        (subst (λ (ts : List Target). Member r (touched_rows h ts q)) (sym targets) n)

    clean : (i : InstanceId) (q : Block) → (Member (at_row i q) (rows_by_agent h session) → ⊥) → IsClean h (λ _. false) Moves i q
    clean i q none = record {
      other = refl;
      row = λ j m. not_true (imports_one h (target_of h.asn j ∷ []) i) (λ t. none (listed j q m (at_row i q) (imported_touched h j i q short t)));
      of_use = λ s held row j x m. not_true (is_touched h (target_of h.asn j ∷ []) s.chain) (λ t. none (listed j x m (at_row i q) (use_touched h j i q x s held row t)));
    }

    pub agent_entry : (k : RowKey) → (Member (at_row k.instance k.prefix) (rows_by_agent h session) → ⊥) → entry_of h k ≡ entry_of later k
    agent_entry k none =
        let c = clean k.instance k.prefix none in
        alike h later (λ _. false) Moves there back short short k c (clean_too h later (λ _. false) Moves there back k.instance k.prefix c)
