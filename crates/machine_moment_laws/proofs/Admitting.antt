-- The verdict of an agent on a packet that heads where all configurations of a window have it head is that of one of them.
use Rattle.std.specs.Prelude.{◌≡◌, ◌==◌, ◌&&◌, ◌⊎◌, ℕ, List, [], ◌∷◌, Bool, nat_le, true, false, cond}
use Rattle.std.specs.List.{list_any}
use Rattle.std.specs.declared.option.Option.{Option}
use Rattle.std.specs.declared.option.Option.TheVariants.{None, Some}
use Rattle.std.proofs.Common.{ap, inl, inr, refl, subst, sym, ◌∙◌}
use Rattle.std.proofs.lemmas.Bool.{and_parts, eq-eqb, eqb-true}
use Rattle.std.proofs.lemmas.Option.{same_Some}
use Rattle.ov_types.specs.Access.{Access, access_by, access_towards, lesser, verdict, verdict_in}
use Rattle.ov_types.specs.Prefix.{Block, contains}
use Rattle.ov_types.specs.declared.objects.AclRule.{AclRule}
use Rattle.ov_types.specs.declared.objects.LowKey.{LowKey}
use Rattle.ov_types.specs.declared.objects.LowKey.TheVariants as key
use Rattle.ov_types.specs.declared.objects.LowValue.{LowValue}
use Rattle.ov_types.specs.declared.objects.LowValue.TheVariants as low
use Rattle.schedule_script.specs.ConfigCheck.Checked.{Checked}
use Rattle.transform_model.specs.Objects.{low_objects}
use Rattle.node_laws.specs.NodeModel.Agent as agent
use Rattle.node_laws.specs.NodeModel.Agent.{acl_entry, slice_in_use}
use Rattle.node_laws.specs.NodeModel.Members.{Member}
use Rattle.node_laws.proofs.NodeModel.Members.{from_filter_map, none_some}
use Rattle.machine_model.specs.Events.{after}
use Rattle.machine_model.specs.Events.{agent_rows as held_by_agent}
use Rattle.machine_model.specs.Network.{MachineState, start}
use Rattle.machine_moment_laws.specs.Arriving.{StandsNow, VerdictsAreOfSome}
use Rattle.config_types.specs.declared.topology.Node.{Node}
use Rattle.machine_moment_laws.specs.Common.{AccessListsAreOfSome, rows_at, rows_in_common, standing}
use Rattle.machine_moment_laws.specs.Windows.{AtMomentsOfWindows, configurations}
use Rattle.machine_moment_laws.proofs.AccessLists.{access_lists_are_of_some}
use Rattle.machine_moment_laws.proofs.Arriving.{one_object, present_stands}
use Rattle.machine_moment_laws.proofs.Routes.{what_is_common_stays}

-- an access list from a network whose subnets hold an address
abbrev any_in : ℕ → List Block → Bool
any_in a s = list_any (λ p. contains p a) s

abbrev Met : ℕ → ℕ → LowKey → LowValue → Access → Type 0
Met n a k v y = (s : List Block) × (k ≡ key.Acl n y.to) × (v ≡ low.Acl s y.rules) × (any_in a s ≡ true)

met : (n a : ℕ) (k : LowKey) (v : LowValue) (y : Access) → access_by n a k v ≡ Some y → Met n a k v y
met n a (key.Acl from to) (low.Acl s r) y e =
    let x : Access = record { to = to; rules = r } in
    elim ((from == n) && any_in a s) as (λ b. ((from == n) && any_in a s) ≡ b → cond b (Some x) None ≡ Some y → Met n a (key.Acl from to) (low.Acl s r) y) [
      | true ↦ λ h e.
          let parts = and_parts (from == n) (any_in a s) h in
          let number : from ≡ n = eqb-true from n parts.0 in
          let same : x ≡ y = same_Some x y e in
          (s, (λ i. key.Acl (number i) (same i).to), (λ i. low.Acl s (same i).rules), parts.1)
      | false ↦ λ h e. absurd (none_some y e)
    ] refl e
met n a (key.Acl from to) (low.Instance is) y e = absurd (none_some y e)
met n a (key.Acl from to) (low.AttachPort p i x d) y e = absurd (none_some y e)
met n a (key.Acl from to) (low.AttachCircuit c s d) y e = absurd (none_some y e)
met n a (key.Acl from to) (low.ChainUse f g h i j) y e = absurd (none_some y e)
met n a (key.Attach l) v y e = absurd (none_some y e)
met n a (key.Instance l) v y e = absurd (none_some y e)
met n a (key.ChainUse l) v y e = absurd (none_some y e)

meets_by : (n a to : ℕ) (s : List Block) (r : List AclRule) → any_in a s ≡ true → access_by n a (key.Acl n to) (low.Acl s r) ≡ Some (record { to = to; rules = r })
meets_by n a to s r h = let self : (n == n) ≡ true = eq-eqb n n refl in rw (self, h) refl

-- where all that are met are one, that is found
lesser_one : (x : Access) (o : Option Access) → (o ≡ None) ⊎ (o ≡ Some x) → lesser (Some x) o ≡ Some x
lesser_one x o (inl none) = ap (lesser (Some x)) none
lesser_one x o (inr some) =
    ap (lesser (Some x)) some ∙ elim (nat_le x.to x.to) as (λ b. cond b (Some x) (Some x) ≡ Some x) [ true ↦ refl | false ↦ refl ]

module _ (n a : ℕ) (x : Access) where
  abbrev OnlyOne : List (LowKey × LowValue) → Type 0
  OnlyOne es = (k : LowKey) (v : LowValue) (y : Access) → Member (k, v) es → access_by n a k v ≡ Some y → y ≡ x

  none_or_one : (es : List (LowKey × LowValue)) → OnlyOne es → (access_towards n a es ≡ None) ⊎ (access_towards n a es ≡ Some x)
  none_or_one [] only = inl refl
  none_or_one (e ∷ es) only = by (access_by n a e.0 e.1) refl (none_or_one es (λ k v y m. only k v y (inr m)))
    where
      by : (o : Option Access) → access_by n a e.0 e.1 ≡ o → (access_towards n a es ≡ None) ⊎ (access_towards n a es ≡ Some x)
          → (lesser (access_by n a e.0 e.1) (access_towards n a es) ≡ None) ⊎ (lesser (access_by n a e.0 e.1) (access_towards n a es) ≡ Some x)
      by None is rest =
          let drops : lesser (access_by n a e.0 e.1) (access_towards n a es) ≡ access_towards n a es = ap (λ (o : Option Access). lesser o (access_towards n a es)) is in
          elim rest [ inl none ↦ inl (drops ∙ none) | inr some ↦ inr (drops ∙ some) ]
      by (Some y) is rest =
          let same : y ≡ x = only e.0 e.1 y (inl refl) is in
          inr (ap (λ (o : Option Access). lesser o (access_towards n a es)) (is ∙ ap Some same) ∙ lesser_one x (access_towards n a es) rest)

  the_one : (es : List (LowKey × LowValue)) → OnlyOne es → (k : LowKey) (v : LowValue) → Member (k, v) es → access_by n a k v ≡ Some x → access_towards n a es ≡ Some x
  the_one [] only k v m is = absurd m
  the_one (e ∷ es) only k v (inl here) is =
      let first : access_by n a e.0 e.1 ≡ Some x = ap (λ (e : LowKey × LowValue). access_by n a e.0 e.1) here ∙ is in
      ap (λ (o : Option Access). lesser o (access_towards n a es)) first ∙ lesser_one x (access_towards n a es) (none_or_one es (λ k v y m. only k v y (inr m)))
  the_one (e ∷ es) only k v (inr m) is = by (access_by n a e.0 e.1) refl (the_one es (λ k v y m. only k v y (inr m)) k v m is)
    where
      by : (o : Option Access) → access_by n a e.0 e.1 ≡ o → access_towards n a es ≡ Some x → lesser (access_by n a e.0 e.1) (access_towards n a es) ≡ Some x
      by None at rest = ap (λ (o : Option Access). lesser o (access_towards n a es)) at ∙ rest
      by (Some y) at rest =
          ap (λ (o : Option Access). lesser o (access_towards n a es)) (at ∙ ap Some (only e.0 e.1 y (inl refl) at)) ∙ lesser_one x (access_towards n a es) (inr rest)

-- two access lists in use under one key are one
entry_value : (k : LowKey) (v : LowValue) (o : LowKey × LowValue) → acl_entry k v ≡ Some o → (k, v) ≡ o
entry_value (key.Acl a b) v o e = same_Some (key.Acl a b, v) o e
entry_value (key.Attach l) v o e = absurd (none_some o e)
entry_value (key.Instance l) v o e = absurd (none_some o e)
entry_value (key.ChainUse l) v o e = absurd (none_some o e)

in_slice : (h : agent.Holdings) (k : LowKey) (v : LowValue) → Member (k, v) (agent.rows h).acls → Member (k, v) (slice_in_use h)
in_slice h k v m =
    let from = from_filter_map (λ (o : LowKey × LowValue). acl_entry o.0 o.1) (k, v) (slice_in_use h) m in
    subst (λ (o : LowKey × LowValue). Member o (slice_in_use h)) (entry_value from.0.0 from.0.1 (k, v) from.2) from.1

one_list : (h : agent.Holdings) (k : LowKey) (v w : LowValue) → Member (k, v) (agent.rows h).acls → Member (k, w) (agent.rows h).acls → v ≡ w
one_list h k v w in_v in_w = one_object h k v w (in_slice h k v in_v) (in_slice h k w in_w)

abbrev pub ListsStay : List Checked → MachineState → Type 0
ListsStay cs w = (n : Node) → Member n (standing cs) → (k : LowKey) (v : LowValue) → Member (k, v) (rows_in_common cs n.address).acls → (u : LowValue) × Member (k, u) (rows_at w n).acls

pub verdicts : (cs : List Checked) (w : MachineState) → StandsNow cs w → ListsStay cs w → AccessListsAreOfSome cs w → VerdictsAreOfSome cs w
unfolding verdict
verdicts cs w among stay of_some n p from to h =
    let lists = (rows_at w n).acls in
    let here = among n h.stays in
    let had = stay n h.stays (key.Acl from to) h.list h.is_list in
    let some = of_some n here (key.Acl from to) had.0 had.1 in
    let met_there = h.meets some.0 had.0 some.1 some.2 in
    let x : Access = record { to = to; rules = met_there.1 } in
    let keyed : LowValue → LowKey × LowValue = λ v. (key.Acl from to, v) in
    let is : access_by from p.destination.0 (key.Acl from to) had.0 ≡ Some x =
    ap (access_by from p.destination.0 (key.Acl from to)) met_there.2 ∙ meets_by from p.destination.0 to met_there.0 met_there.1 met_there.3 in
    let only : OnlyOne from p.destination.0 x lists = λ k v y m at.
    let q = met from p.destination.0 k v y at in
    let in_lists : Member (key.Acl from y.to, v) lists = subst (λ (k : LowKey). Member (k, v) lists) q.1 m in
    let c = of_some n here (key.Acl from y.to) v in_lists in
    let leads : y.to ≡ to = h.alone c.0 y.to v c.1 c.2 (q.0, y.rules, q.2, q.3) in
    let values : v ≡ had.0 = one_list (held_by_agent w n.name) (key.Acl from to) v had.0 (subst (λ (b : ℕ). Member (key.Acl from b, v) lists) leads in_lists) had.1 in
    let both : Some y ≡ Some x = sym at ∙ (λ i. access_by from p.destination.0 ((q.1 ∙ ap (key.Acl from) leads) i) (values i)) ∙ is in
    same_Some y x both in
    let found : access_towards from p.destination.0 lists ≡ Some x = the_one from p.destination.0 x lists only (key.Acl from to) had.0 had.1 is in
    record {
      config = some.0;
      among = some.1;
      subnets = met_there.0;
      rules = met_there.1;
      has_list = subst (λ (v : LowValue). Member (keyed v) (low_objects some.0.topology some.0.config)) met_there.2 some.2;
      says = ap (verdict_in from p.tuple) found;
    }

pub verdicts_are_of_some : AtMomentsOfWindows VerdictsAreOfSome
verdicts_are_of_some size positive x written before asked begins es window form =
    let now = present_stands size positive x written before asked begins es window form in
    let w = after size (after size (start x) before) es in
    let cs = configurations size (after size (start x) before) es in
    verdicts cs w now.1
    (λ n m. (what_is_common_stays size positive x written before asked begins es window form n m).acls)
    (access_lists_are_of_some size positive x written before asked begins es window form)
