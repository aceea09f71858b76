-- Where the common part leads an address in the instance of a place of a use, an agent leads it nowhere else: in each
-- configuration one subnet of one network of the use holds the address, and nothing that is attached there.
use Rattle.std.specs.Prelude.{◌≡◌, ◌<◌, ◌⊎◌, ℕ, suc, Bool, List, ◌∷◌, true, false, cond}
use Rattle.std.proofs.Common.{ap, arith, inl, inr, subst, sym, ◌∙◌}
use Rattle.std.proofs.lemmas.Bool.{true≢false}
use Rattle.ov_types.specs.Prefix.{Block, contains, is_inside}
use Rattle.ov_types.specs.declared.numbers.InstanceId.{InstanceId}
use Rattle.ov_types.specs.declared.numbers.Label.{Label as LabelNo}
use Rattle.ov_types.specs.declared.prefix.Addr.{Addr}
use Rattle.ov_types.specs.declared.rows.TableRow.{TableRow}
use Rattle.ov_types.proofs.FirstLemmas.{any_of}
use Rattle.schedule_script.specs.ConfigCheck.Checked.{Checked}
use Rattle.schedule_script.specs.ConfigCheck.Sentences.{IsValid}
use Rattle.schedule_script.proofs.ConfigCheck.Validity.{valid_iff}
use Rattle.transform_model.proofs.Blocks.{host_is, one_subnet}
use Rattle.node_laws.specs.NodeModel.Maps.{Map}
use Rattle.node_laws.specs.NodeModel.Members.{Member}
use Rattle.node_laws.specs.NodeModel.Reaching.{Side, hop_at, sides, subnets}
use Rattle.node_laws.specs.NodeModel.Uses.{Use, imports, is_hop, uses}
use Rattle.node_laws.proofs.NodeModel.Objects.{side_use}
use Rattle.machine_model.specs.Setup.{Name, low_in, opening}
use Rattle.machine_laws.specs.Compiled.{Attachment, attachments}
use Rattle.machine_laws.specs.Headline.{IsWritten}
use Rattle.machine_laws.specs.Sound.{IsSound}
use Rattle.machine_laws.proofs.Numbers.{imported_at}
use Rattle.machine_laws.proofs.Objects.{ascending_to, ends_apart, held_is}
use Rattle.machine_laws.proofs.RowsIn.{host_inside}
use Rattle.machine_laws.proofs.TableRows.{HostRow, SubnetRow}
use Rattle.machine_moment_laws.specs.Common.{common}
use Rattle.machine_moment_laws.proofs.Alone.{IsHost, host_of, one_host}
use Rattle.machine_moment_laws.proofs.HopRows.{above, imports_back, itself, led_into, one_number, sound_of}
use Rattle.machine_moment_laws.proofs.Sides.{same_hop_at, same_subnets, side_with}
use Rattle.machine_moment_laws.proofs.Static.{attached_in, imported_in}
use Rattle.machine_moment_laws.proofs.Stood.{HostStood, LedStood, RowStood}

-- ---- subnets of a use of a valid configuration
module _ (c : Checked) (w : IsWritten (opening c)) where
  v : IsValid c.topology c.config
  v = (valid_iff c.topology c.config).0 w.valid

  -- no address is in subnets of both networks
  not_both : (u : Use) → Member u (uses (low_in c)) → (l r : Block) (d : ℕ) → Member l u.left_subnets → Member r u.right_subnets → contains l d ≡ true → contains r d ≡ true → ⊥
  not_both u m l r d i j in_l in_r =
      let e = held_is (opening c) w.config v u m in
      let left = ascending_to e.effect.left.subnets l (subst (λ (u : Use). Member l u.left_subnets) (sym e.is) i) in
      let right = ascending_to e.effect.right.subnets r (subst (λ (u : Use). Member r u.right_subnets) (sym e.is) j) in
      ends_apart (opening c) w.config v e.effect e.used d (any_of (λ s. contains s d ≡ true) e.effect.left.subnets l left in_l) (any_of (λ s. contains s d ≡ true) e.effect.right.subnets r right in_r)

  -- one subnet of a network holds an address
  one_left : (u : Use) → Member u (uses (low_in c)) → (p q : Block) (d : ℕ) → Member p u.left_subnets → Member q u.left_subnets → contains p d ≡ true → contains q d ≡ true → p ≡ q
  one_left u m p q d i j in_p in_q =
      let e = held_is (opening c) w.config v u m in
      let there : (x : Block) → Member x u.left_subnets → _ = λ x i. ascending_to e.effect.left.subnets x (subst (λ (u : Use). Member x u.left_subnets) (sym e.is) i) in
      one_subnet c.topology c.config w.config v e.effect.left p q d e.used.has_left (there p i) (there q j) in_p in_q

  one_right : (u : Use) → Member u (uses (low_in c)) → (p q : Block) (d : ℕ) → Member p u.right_subnets → Member q u.right_subnets → contains p d ≡ true → contains q d ≡ true → p ≡ q
  one_right u m p q d i j in_p in_q =
      let e = held_is (opening c) w.config v u m in
      let there : (x : Block) → Member x u.right_subnets → _ = λ x i. ascending_to e.effect.right.subnets x (subst (λ (u : Use). Member x u.right_subnets) (sym e.is) i) in
      one_subnet c.topology c.config w.config v e.effect.right p q d e.used.has_right (there p i) (there q j) in_p in_q

  pub one_of_sides : (s t : Side) → Member s (sides (low_in c)) → s.chain ≡ t.chain → (p q : Block) (d : ℕ) → Member p (subnets s) → Member q (subnets t) → contains p d ≡ true → contains q d ≡ true → p ≡ q
  one_of_sides s t m same p q d i j in_p in_q = by s.is_right t.is_right i (subst (λ (u : Use). Member q (cond t.is_right u.right_subnets u.left_subnets)) (sym same) j)
    where
      used : Member s.chain (uses (low_in c))
      used = side_use (low_in c) s m

      by : (a e : Bool) → Member p (cond a s.chain.right_subnets s.chain.left_subnets) → Member q (cond e s.chain.right_subnets s.chain.left_subnets) → p ≡ q
      by true true i j = one_right s.chain used p q d i j in_p in_q
      by false false i j = one_left s.chain used p q d i j in_p in_q
      by true false i j = absurd (not_both s.chain used q p d j i in_q in_p)
      by false true i j = absurd (not_both s.chain used p q d i j in_p in_q)

-- nothing attached that a place imports holds an address of a subnet that is led into it
pub no_attachment_in : (feed : Map) → IsSound feed → (s : Side) (k : ℕ) → Member s (sides feed) → k < s.chain.services → (a : Attachment) → Member a (attachments feed) → Member a.instance (imports feed (hop_at s (suc k))) → (p : Block) → Member p (subnets s)
    → (d : ℕ) → contains a.prefix d ≡ true → contains p d ≡ true → ⊥
no_attachment_in feed sound s k m within a attached imported p subnet d in_a in_p =
    elim (imported_at feed s (suc k) sound.ordered m within a.instance imported) as (λ _. ⊥) [
      | inl e ↦ true≢false (sym lies ∙ sound.circuits_apart s p a (suc k) within m subnet attached e)
      | inr r ↦ elim r as (λ _. ⊥) [
        | inl z ↦ none k z.0
        | inr o ↦ true≢false (sym lies ∙ sound.ports_apart s p a m subnet attached o.1)
      ]
    ]
  where
    none : (k : ℕ) → suc k ≡ 0 → ⊥
    none k e = omega (arith, e)

    lies : is_inside a.prefix p ≡ true
    lies =
        let h = host_of feed a attached in
        let at : h.0 ≡ d = host_is h.0 d (ap (λ (x : Block). contains x d) (sym h.1) ∙ in_a) in
        ap (λ (x : Block). is_inside x p) h.1 ∙ host_inside h.0 p (ap (contains p) at ∙ in_p)

module _ (b : Checked) (ds : List Checked) (written : (c : Checked) → Member c (b ∷ ds) → IsWritten (opening c)) where
  abbrev cs : List Checked
  cs = b ∷ ds

  abbrev M : Map
  M = common cs

  -- what stood of a row of a place: something attached in what the place imports, or a subnet that was led into it
  record AttachedStood (i : InstanceId) (q : Block) (label : LabelNo) : Type 0 where
    name : Name
    n : InstanceId
    imported : Member n (imports M i)
    stood : HostStood cs name n q label

  record IntoStood (i : InstanceId) (q : Block) (label : LabelNo) : Type 0 where
    name : Name
    n : InstanceId
    stood : LedStood cs name n q label
    into : hop_at stood.side (suc stood.depth) ≡ i

  stood_kind : (i : InstanceId) → is_hop i ≡ true → (k : InstanceId) → Member k (imports M i) → (q : Block) (hop : Addr) (label : LabelNo) → RowStood cs i q hop label → AttachedStood i q label ⊎ IntoStood i q label
  stood_kind i is k some q hop label (inr t) = inr (record { name = t.0; n = i; stood = t.2; into = t.2.instance })
  stood_kind i is k some q hop label (inl t) = by t.2.leads
    where
      there : Member t.0 (imports M i)
      there = let c = t.1 in imports_back b ds written i k t.0 is some c.0 c.1 c.2

      by : HostStood cs t.2.name t.0 q label ⊎ LedStood cs t.2.name t.0 q label → AttachedStood i q label ⊎ IntoStood i q label
      by (inl h) = inl (record { name = t.2.name; n = t.0; imported = there; stood = h })
      by (inr l) = inr (record { name = t.2.name; n = t.0; stood = l; into = led_into b ds written t.2.name t.0 i q label l there })

  -- a row that holds an address of a common host route has its prefix
  host_alone : (i : InstanceId) → is_hop i ≡ true → (a : Attachment) → Member a (attachments M) → Member a.instance (imports M i) → (q : Block) (hop : Addr) (label : LabelNo) → RowStood cs i q hop label → (d : ℕ) → contains a.prefix d ≡ true → contains q d ≡ true → q ≡ a.prefix
  host_alone i is a m imported q hop label told d in_a in_q =
      elim (stood_kind i is a.instance imported q hop label told) as (λ _. q ≡ a.prefix) [
        | inl h ↦
            let c = h.stood.config in
            one_host q a.prefix d (subst IsHost h.stood.at (host_of (low_in c) h.stood.to h.stood.attached)) (host_of M a m) in_q in_a
        | inr l ↦
            let c = l.stood.config in
            let in_c = l.stood.among in
            absurd (no_attachment_in (low_in c) (sound_of b ds written c in_c) l.stood.side l.stood.depth l.stood.of_use l.stood.within a (attached_in b ds written a m c in_c)
            (subst (λ (i : InstanceId). Member a.instance (imports (low_in c) i)) (sym l.into) (imported_in b ds written i a.instance imported c in_c)) q l.stood.subnet d in_a in_q)
      ]

  -- and so one that holds an address of a common subnet
  subnet_alone : (i : InstanceId) → is_hop i ≡ true → (p : Block) (row : TableRow) → (t : SubnetRow M i p row) → (q : Block) (hop : Addr) (label : LabelNo) → RowStood cs i q hop label → (d : ℕ) → contains p d ≡ true → contains q d ≡ true → q ≡ p
  subnet_alone i is p row t q hop label told d in_p in_q =
      elim (stood_kind i is i (itself b ds written i p row t) q hop label told) as (λ _. q ≡ p) [
        | inl h ↦
            let c = h.stood.config in
            let in_c = h.stood.among in
            let v = above b ds written i p row t c in_c in
            let s = side_with v.chain t.side.is_right in
            let at : hop_at s (suc t.d) ≡ i = sym (same_hop_at t.side v.chain v.same (suc t.d)) ∙ t.at in
            absurd (no_attachment_in (low_in c) (sound_of b ds written c in_c) s t.d v.of_use (subst (λ (k : ℕ). t.d < k) v.same.services t.within) h.stood.to h.stood.attached
            (subst (λ (i : InstanceId). Member h.stood.to.instance (imports (low_in c) i)) (sym at) (subst (λ (n : InstanceId). Member n (imports (low_in c) i)) (sym h.stood.instance) (imported_in b ds written i h.n h.imported c in_c)))
            p (same_subnets t.side v.chain v.same p t.subnet) d (subst (λ (x : Block). contains x d ≡ true) (sym h.stood.at) in_q) in_p)
        | inr l ↦
            let c = l.stood.config in
            let in_c = l.stood.among in
            let v = above b ds written i p row t c in_c in
            let s = side_with v.chain t.side.is_right in
            let at : hop_at s (suc t.d) ≡ i = sym (same_hop_at t.side v.chain v.same (suc t.d)) ∙ t.at in
            let chain = one_number (low_in c) (sound_of b ds written c in_c) l.stood.side s (suc l.stood.depth) (suc t.d) l.stood.of_use v.of_use l.stood.within (subst (λ (k : ℕ). t.d < k) v.same.services t.within) (l.into ∙ sym at) in
            one_of_sides c (written c in_c) l.stood.side s l.stood.of_use chain q p d l.stood.subnet (same_subnets t.side v.chain v.same p t.subnet) in_q in_p
      ]

  -- a row of a place that holds an address of a common one has its prefix
  pub one_prefix : (i : InstanceId) → is_hop i ≡ true → (p : Block) (row : TableRow) → HostRow M i p row ⊎ SubnetRow M i p row → (q : Block) (hop : Addr) (label : LabelNo) → RowStood cs i q hop label → (d : ℕ) → contains p d ≡ true → contains q d ≡ true → q ≡ p
  one_prefix i is p row (inl h) q hop label told d in_p in_q =
      host_alone i is h.to h.attached h.imported q hop label told d (subst (λ (x : Block). contains x d ≡ true) (sym h.prefix) in_p) in_q ∙ h.prefix
  one_prefix i is p row (inr t) q hop label told d in_p in_q = subnet_alone i is p row t q hop label told d in_p in_q
