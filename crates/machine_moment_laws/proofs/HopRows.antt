-- Rows of the places of uses that the common part has lead where it has them lead.
use Rattle.std.specs.Prelude.{◌≡◌, ◌≤◌, ◌<◌, ◌+◌, ◌-◌, ◌*◌, ◌⊎◌, ℕ, suc, Bool, List, ◌∷◌, true, false, cond}
use Rattle.std.specs.declared.option.Option.{Option}
use Rattle.std.specs.declared.option.Option.TheVariants.{None, Some}
use Rattle.std.proofs.Common.{ap, arith, inl, inr, refl, subst, sym, ◌∙◌}
use Rattle.std.proofs.lemmas.Bool.{true≢false}
use Rattle.ov_types.specs.Prefix.{Block}
use Rattle.ov_types.specs.declared.numbers.InstanceId.{InstanceId}
use Rattle.ov_types.specs.declared.numbers.Label.{Label as LabelNo}
use Rattle.ov_types.specs.declared.numbers.ServiceNo.{ServiceNo}
use Rattle.ov_types.specs.declared.objects.LowKey.TheVariants as key
use Rattle.ov_types.specs.declared.objects.LowValue.{LowValue}
use Rattle.ov_types.specs.declared.objects.LowValue.TheVariants as low
use Rattle.ov_types.specs.declared.prefix.Addr.{Addr}
use Rattle.ov_types.specs.declared.rows.TableRow.{TableRow}
use Rattle.route_targets.specs.Numbers.{left_circuit_of, right_circuit_of}
use Rattle.schedule_script.specs.ConfigCheck.Checked.{Checked}
use Rattle.node_laws.specs.NodeModel.Maps.{Map, object}
use Rattle.node_laws.specs.NodeModel.Members.{Member}
use Rattle.node_laws.specs.NodeModel.Reaching.{Side, circuit_at, hop_at, sides, subnets}
use Rattle.node_laws.specs.NodeModel.Uses.{Use, hop_imports, imports, is_hop, network_imports, place_of, use_from, use_of}
use Rattle.node_laws.proofs.NodeModel.Objects.{same_use, side_use, use_of-hop}
use Rattle.node_laws.proofs.NodeModel.Places.{inside_itself}
use Rattle.node_laws.proofs.NodeModel.Unknown.{place_at}
use Rattle.machine_model.specs.Setup.{Name, low_in, opening}
use Rattle.machine_laws.specs.Compiled.{Attachment, attachments, circuit_prefix}
use Rattle.machine_laws.specs.Headline.{IsWritten}
use Rattle.machine_laws.specs.Sound.{IsSound}
use Rattle.machine_laws.proofs.Numbers.{imported_at, imports_itself, place_short}
use Rattle.machine_laws.proofs.TableRows.{SubnetRow, imported_hop}
use Rattle.machine_laws.proofs.Written.{sound_setup}
use Rattle.machine_moment_laws.specs.Common.{common}
use Rattle.machine_moment_laws.proofs.Parts.{IsPartOf, common_is_part}
use Rattle.machine_moment_laws.proofs.Sides.{SideAbove, ordered, same_hop_at, same_subnets, side_above, side_with}
use Rattle.machine_moment_laws.proofs.Static.{LeadsTo, attached_in, host_leads, imported_in}
use Rattle.machine_moment_laws.proofs.Stood.{HostStood, LedStood, RowStood, StoodAt}

-- ---- a use imports the same where it is had
uses_back : (j u : ℕ) (n : InstanceId) (w v : LowValue) → IsPartOf w v → Member n (hop_imports j (use_from u (Some v))) → Member n (hop_imports j (use_from u (Some w)))
uses_back j u n (low.ChainUse l r ls rs hops) (low.ChainUse l' r' ls' rs' hops') h m =
    subst (λ (a : InstanceId). Member n (hop_imports j (use_from u (Some (low.ChainUse a r ls rs hops))))) (sym h.0)
    (subst (λ (a : InstanceId). Member n (hop_imports j (use_from u (Some (low.ChainUse l' a ls rs hops))))) (sym h.1.0)
    (subst (λ (hs : List (ServiceNo × Addr)). Member n (hop_imports j (use_from u (Some (low.ChainUse l' r' ls rs hs))))) (sym h.1.1.0) m))
uses_back j u n (low.ChainUse l r ls rs hops) (low.Instance is) h m = absurd h
uses_back j u n (low.ChainUse l r ls rs hops) (low.AttachPort p i a d) h m = absurd h
uses_back j u n (low.ChainUse l r ls rs hops) (low.AttachCircuit c s d) h m = absurd h
uses_back j u n (low.ChainUse l r ls rs hops) (low.Acl s q) h m = absurd h
uses_back j u n (low.Instance is) (low.Instance js) h m = absurd m
uses_back j u n (low.Instance is) (low.AttachPort p i a d) h m = absurd h
uses_back j u n (low.Instance is) (low.AttachCircuit c s d) h m = absurd h
uses_back j u n (low.Instance is) (low.Acl s q) h m = absurd h
uses_back j u n (low.Instance is) (low.ChainUse l r ls rs hops) h m = absurd h
uses_back j u n (low.AttachPort p i a d) v h m = absurd (subst (λ (v : LowValue). Member n (hop_imports j (use_from u (Some v)))) (sym h) m)
uses_back j u n (low.AttachCircuit c s d) v h m = absurd (subst (λ (v : LowValue). Member n (hop_imports j (use_from u (Some v)))) (sym h) m)
uses_back j u n (low.Acl s q) (low.Acl t r) h m = absurd m
uses_back j u n (low.Acl s q) (low.Instance js) h m = absurd h
uses_back j u n (low.Acl s q) (low.AttachPort p i a d) h m = absurd h
uses_back j u n (low.Acl s q) (low.AttachCircuit c t d) h m = absurd h
uses_back j u n (low.Acl s q) (low.ChainUse l r ls rs hops) h m = absurd h

-- the circuit of a side is told by its instance and its direction
abbrev circuit_by : Bool → InstanceId → ℕ
circuit_by c i = cond c (2 * i.0 + 1) (2 * i.0)

circuit_is : (s : Side) (d : ℕ) → circuit_at s d ≡ circuit_by s.is_right (hop_at s d)
circuit_is s d = by s.is_right
  where
    left : (u j : ℕ) → 2 * (16384 + 16 * u + (j + 1 - 1)) + 1 ≡ 2 * (16384 + 16 * u + j) + 1
    left u j = omega arith

    by : (c : Bool) → cond c (left_circuit_of s.chain.number (s.chain.services - d + 1)) (right_circuit_of s.chain.number d) ≡ cond c (2 * (16384 + 16 * s.chain.number + cond c (s.chain.services - d) d) + 1) (2 * (16384 + 16 * s.chain.number + cond c (s.chain.services - d) d))
    by true = left s.chain.number (s.chain.services - d)
    by false = refl

-- two sides of a valid feed that have one subnet and one instance have one direction
module _ (feed : Map) (sound : IsSound feed) where
  pub one_number : (s t : Side) (d e : ℕ) → Member s (sides feed) → Member t (sides feed) → d ≤ s.chain.services → e ≤ t.chain.services → hop_at s d ≡ hop_at t e → s.chain ≡ t.chain
  one_number s t d e m n g h same =
      same_use feed s.chain t.chain (side_use feed s m) (side_use feed t n)
      (sym (use_of-hop s.chain.number (place_at s d) (place_short feed s d sound.ordered m g)) ∙ ap use_of same ∙ use_of-hop t.chain.number (place_at t e) (place_short feed t e sound.ordered n h))

  one_direction : (s t : Side) (p : Block) → Member s (sides feed) → Member t (sides feed) → s.chain ≡ t.chain → Member p (subnets s) → Member p (subnets t) → s.is_right ≡ t.is_right
  one_direction s t p m n same i j = by s.is_right t.is_right i (subst (λ (u : Use). Member p (cond t.is_right u.right_subnets u.left_subnets)) (sym same) j)
    where
      by : (a c : Bool) → Member p (cond a s.chain.right_subnets s.chain.left_subnets) → Member p (cond c s.chain.right_subnets s.chain.left_subnets) → a ≡ c
      by true true i j = refl
      by false false i j = refl
      by true false i j = absurd (true≢false (sym (inside_itself p) ∙ sound.ordered.right_in_left s.chain p p (side_use feed s m) j i))
      by false true i j = absurd (true≢false (sym (inside_itself p) ∙ sound.ordered.right_in_left s.chain p p (side_use feed s m) i j))

  -- nothing attached that a place imports is within a subnet that is led into it
  no_attachment : (s : Side) (d : ℕ) → Member s (sides feed) → d < s.chain.services → (a : Attachment) → Member a (attachments feed) → Member a.instance (imports feed (hop_at s (suc d))) → Member a.prefix (subnets s) → ⊥
  no_attachment s d m within a attached imported subnet =
      elim (imported_at feed s (suc d) sound.ordered m within a.instance imported) as (λ _. ⊥) [
        | inl e ↦ true≢false (sym (inside_itself a.prefix) ∙ sound.circuits_apart s a.prefix a (suc d) within m subnet attached e)
        | inr r ↦ elim r as (λ _. ⊥) [
          | inl z ↦ none d z.0
          | inr o ↦ true≢false (sym (inside_itself a.prefix) ∙ sound.ports_apart s a.prefix a m subnet attached o.1)
        ]
      ]
    where
      none : (d : ℕ) → suc d ≡ 0 → ⊥
      none d e = omega (arith, e)

module _ (b : Checked) (ds : List Checked) (written : (c : Checked) → Member c (b ∷ ds) → IsWritten (opening c)) where
  abbrev cs : List Checked
  cs = b ∷ ds

  abbrev M : Map
  M = common cs

  pub sound_of : (c : Checked) → Member c cs → IsSound (low_in c)
  sound_of c m = (sound_setup (opening c) (written c m)).sound

  -- what a place imports in some configuration it imports in the common part
  pub imports_back : (i k n : InstanceId) → is_hop i ≡ true → Member k (imports M i) → (c : Checked) → Member c cs → Member n (imports (low_in c) i) → Member n (imports M i)
  imports_back i k n hop some c m h = by (is_hop i) hop some h
    where
      of_use : (o : Option LowValue) → object M (key.ChainUse (use_of i)) ≡ o → Member k (hop_imports (place_of i) (use_from (use_of i) o)) → Member n (hop_imports (place_of i) (use_from (use_of i) (object (low_in c) (key.ChainUse (use_of i))))) → Member n (hop_imports (place_of i) (use_from (use_of i) o))
      of_use None e some h = absurd some
      of_use (Some w) e some h =
          let q = common_is_part b ds c m (key.ChainUse (use_of i)) w e in
          uses_back (place_of i) (use_of i) n w q.0 q.2 (subst (λ (o : Option LowValue). Member n (hop_imports (place_of i) (use_from (use_of i) o))) q.1 h)

      by : (a : Bool) → a ≡ true → Member k (cond a (hop_imports (place_of i) (use_from (use_of i) (object M (key.ChainUse (use_of i))))) (network_imports (object M (key.Instance i.0))))
          → Member n (cond a (hop_imports (place_of i) (use_from (use_of i) (object (low_in c) (key.ChainUse (use_of i))))) (network_imports (object (low_in c) (key.Instance i.0))))
          → Member n (cond a (hop_imports (place_of i) (use_from (use_of i) (object M (key.ChainUse (use_of i))))) (network_imports (object M (key.Instance i.0))))
      by true e some h = of_use (object M (key.ChainUse (use_of i))) refl some h
      by false e some h = absurd (true≢false (sym e))

  -- the place into which it is led
  pub led_into : (name : Name) (n i : InstanceId) (p : Block) (label : LabelNo) → (l : LedStood cs name n p label) → Member n (imports M i) → hop_at l.side (suc l.depth) ≡ i
  led_into name n i p label l imported =
      imported_hop (low_in l.config) i l.side (suc l.depth) (sound_of l.config l.among) l.of_use l.within (subst (λ (n : InstanceId). Member n (imports (low_in l.config) i)) (sym l.instance) (imported_in b ds written i n imported l.config l.among))

  -- ---- host routes
  no_led : (i : InstanceId) (a : Attachment) → Member a (attachments M) → Member a.instance (imports M i) → (name : Name) (n : InstanceId) (label : LabelNo) (l : LedStood cs name n a.prefix label) → hop_at l.side (suc l.depth) ≡ i → ⊥
  no_led i a m imported name n label l at =
      no_attachment (low_in l.config) (sound_of l.config l.among) l.side l.depth l.of_use l.within a (attached_in b ds written a m l.config l.among)
      (subst (λ (i : InstanceId). Member a.instance (imports (low_in l.config) i)) (sym at) (imported_in b ds written i a.instance imported l.config l.among)) l.subnet

  pub hop_host_row : (i : InstanceId) → is_hop i ≡ true → (a : Attachment) → Member a (attachments M) → Member a.instance (imports M i) → (hop : Addr) (label : LabelNo) → RowStood cs i a.prefix hop label → LeadsTo b ds written a hop label
  hop_host_row i is a m imported hop label (inr q) = absurd (no_led i a m imported q.0 i label q.2 q.2.instance)
  hop_host_row i is a m imported hop label (inl q) = by q.2.leads
    where
      there : Member q.0 (imports M i)
      there = let c = q.1 in imports_back i a.instance q.0 is imported c.0 c.1 c.2

      by : HostStood cs q.2.name q.0 a.prefix label ⊎ LedStood cs q.2.name q.0 a.prefix label → LeadsTo b ds written a hop label
      by (inl h) =
          let same : h.to ≡ a = (sound_of h.config h.among).one_host i h.to a h.attached (attached_in b ds written a m h.config h.among)
          (subst (λ (n : InstanceId). Member n (imports (low_in h.config) i)) (sym h.instance) (imported_in b ds written i q.0 there h.config h.among)) (imported_in b ds written i a.instance imported h.config h.among) h.at in
          host_leads b ds written a m i imported q.2.name hop label q.2.stood (subst (λ (n : InstanceId). HostStood cs q.2.name n a.prefix label) (sym h.instance ∙ ap (λ (a : Attachment). a.instance) same) h)
      by (inr l) = absurd (no_led i a m imported q.2.name q.0 label l (led_into q.2.name q.0 i a.prefix label l there))

  -- ---- subnets
  module _ (i : InstanceId) (p : Block) (row : TableRow) (t : SubnetRow M i p row) where
    pub itself : Member i (imports M i)
    itself = subst (λ (i : InstanceId). Member i (imports M i)) t.at (imports_itself M t.side (suc t.d) (ordered b ds written) t.of_use t.within)

    pub above : (c : Checked) → Member c cs → SideAbove (low_in c) t.side
    above c m = side_above M (low_in c) (common_is_part b ds c m) t.side t.of_use

    no_host : (name : Name) (n : InstanceId) (label : LabelNo) → Member n (imports M i) → HostStood cs name n p label → ⊥
    no_host name n label imported h =
        let v = above h.config h.among in
        let s = side_with v.chain t.side.is_right in
        let at : hop_at s (suc t.d) ≡ i = sym (same_hop_at t.side v.chain v.same (suc t.d)) ∙ t.at in
        no_attachment (low_in h.config) (sound_of h.config h.among) s t.d v.of_use (subst (λ (k : ℕ). t.d < k) v.same.services t.within) h.to h.attached
        (subst (λ (i : InstanceId). Member h.to.instance (imports (low_in h.config) i)) (sym at) (subst (λ (n : InstanceId). Member n (imports (low_in h.config) i)) (sym h.instance) (imported_in b ds written i n imported h.config h.among)))
        (subst (λ (y : Block). Member y (subnets s)) (sym h.at) (same_subnets t.side v.chain v.same p t.subnet))

    led_leads : (name : Name) (n : InstanceId) (hop : Addr) (label : LabelNo) → StoodAt cs name hop → (l : LedStood cs name n p label) → hop_at l.side (suc l.depth) ≡ i → LeadsTo b ds written t.to hop label
    led_leads name n hop label stood l into =
        let feed = low_in l.config in
        let sound = sound_of l.config l.among in
        let v = above l.config l.among in
        let s = side_with v.chain t.side.is_right in
        let at : hop_at s (suc t.d) ≡ i = sym (same_hop_at t.side v.chain v.same (suc t.d)) ∙ t.at in
        let chain = one_number feed sound l.side s (suc l.depth) (suc t.d) l.of_use v.of_use l.within (subst (λ (k : ℕ). t.d < k) v.same.services t.within) (into ∙ sym at) in
        let way : l.side.is_right ≡ t.side.is_right = one_direction feed sound l.side s p l.of_use v.of_use chain l.subnet (same_subnets t.side v.chain v.same p t.subnet) in
        let circuit : circuit_at l.side (suc l.depth) ≡ circuit_at t.side (suc t.d) = circuit_is l.side (suc l.depth) ∙ (λ j. circuit_by (way j) ((into ∙ sym t.at) j)) ∙ sym (circuit_is t.side (suc t.d)) in
        let instance : n ≡ t.to.instance = sym l.instance ∙ into ∙ sym t.at ∙ sym t.circuit.0 in
        let host : HostStood cs name t.to.instance t.to.prefix label =
        subst (λ (i : InstanceId). HostStood cs name i t.to.prefix label) instance
        (subst (λ (y : Block). HostStood cs name n y label) (ap circuit_prefix circuit ∙ sym t.circuit.1) l.circuit) in
        host_leads b ds written t.to t.attached i (subst (λ (n : InstanceId). Member n (imports M i)) (sym t.at ∙ sym t.circuit.0) itself) name hop label stood host

    pub subnet_row : is_hop i ≡ true → (hop : Addr) (label : LabelNo) → RowStood cs i p hop label → LeadsTo b ds written t.to hop label
    subnet_row is hop label (inr q) = led_leads q.0 i hop label q.1 q.2 q.2.instance
    subnet_row is hop label (inl q) = by q.2.leads
      where
        there : Member q.0 (imports M i)
        there = let c = q.1 in imports_back i i q.0 is itself c.0 c.1 c.2

        by : HostStood cs q.2.name q.0 p label ⊎ LedStood cs q.2.name q.0 p label → LeadsTo b ds written t.to hop label
        by (inl h) = absurd (no_host q.2.name q.0 label there h)
        by (inr l) = led_leads q.2.name q.0 hop label q.2.stood l (led_into q.2.name q.0 i p label l there)
