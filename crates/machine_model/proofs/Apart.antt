-- Where names tell nodes apart, no two sessions join the same nodes.
use Rattle.std.specs.Prelude.{◌≡◌, List, [], ◌∷◌, ◌++◌, map, Bool, true, false, cond, ◌&&◌}
use Rattle.std.specs.List.{AllByRecursion, filter}
use Rattle.std.specs.Cmp.Lexicographic.{bytes_decides}
use Rattle.std.proofs.lemmas.Bool.{and_parts, false_from_ne_true}
use Rattle.std.proofs.Common.{refl, sym, ap, subst, inl, inr}
use Rattle.ov_types.specs.First.{same_name}
use Rattle.ov_types.specs.declared.rows.NodeId.{NodeId}
use Rattle.schedule_script.specs.ConfigTypes.Node.{Node}
use Rattle.schedule_script.specs.ConfigTypes.Topology.{Topology}
use Rattle.schedule_script.specs.ConfigCheck.Checked.{Checked}
use Rattle.schedule_script.specs.ConfigCheck.Rules.{controller_names, node_names}
use Rattle.transform_model.specs.NodeModel.Members.{Member}
use Rattle.transform_model.proofs.NodeModel.Members.{in_left, in_right, in_either, in_map, from_map, from_filter, from_flat_map}
use Rattle.machine_model.specs.Setup.{Name, lists}
use Rattle.machine_model.specs.Session.{Role, Configuration, Controller, Agent, Session}
use Rattle.machine_model.specs.Network.{start, feeds, peerings, accesses, fresh, config, AreNamed}
use Rattle.machine_model.specs.Moments.{nodes}
pub use Rattle.machine_model.proofs.Distinct.{Apart, same_false, apart_of, apart_left, apart_right, apart_between}
use Rattle.machine_model.proofs.Twins.{IsOther, NoTwins}

pub record NamesApart (t : Topology) : Type 0 where
  pub sites_apart : Apart (controller_names t)
  pub computers_apart : Apart (node_names t)
  pub kinds_apart : (c n : Name) → Member c (controller_names t) → Member n (node_names t) → c ≡ n → ⊥
  pub no_site_config : (c : Name) → Member c (controller_names t) → c ≡ config → ⊥
  pub no_computer_config : (n : Name) → Member n (node_names t) → n ≡ config → ⊥

pub names_apart : (t : Topology) → Apart (config ∷ controller_names t ++ node_names t) → NamesApart t
names_apart t a = record {
  sites_apart = apart_left (controller_names t) (node_names t) a.1;
  computers_apart = apart_right (controller_names t) (node_names t) a.1;
  kinds_apart = λ c n i j is. apart_between (controller_names t) (node_names t) a.1 c n i j is;
  no_site_config = λ c i is. a.0 c (in_left c (controller_names t) (node_names t) i) (sym is);
  no_computer_config = λ n i is. a.0 n (in_right n (controller_names t) (node_names t) i) (sym is);
}

-- ---- sessions by their nodes
abbrev Link : Type 0
Link = (Name × Role) × (Name × Role)

abbrev pub peer_link : NodeId → NodeId → Link
peer_link c d = ((c.name, Controller), (d.name, Controller))

abbrev pub access_link : NodeId → Node → Link
access_link c n = ((c.name, Controller), (n.name, Agent))

abbrev pub IsPeering : List NodeId → Link → Type 0
IsPeering cs p = (c : NodeId) × Member c cs × (d : NodeId) × Member d cs × (peer_link c d ≡ p)

abbrev pub IsAccess : List NodeId → List Node → Link → Type 0
IsAccess cs ns p = (c : NodeId) × Member c cs × (n : Node) × Member n ns × (access_link c n ≡ p) × (lists n c ≡ true)

abbrev pub feed_session : NodeId → Session
feed_session c = record { is_down = true; near = fresh config Configuration; far = fresh c.name Controller }

abbrev pub peer_session : NodeId → NodeId → Session
peer_session c d = record { is_down = true; near = fresh c.name Controller; far = fresh d.name Controller }

abbrev pub access_session : NodeId → Node → Session
access_session c n = record { is_down = true; near = fresh c.name Controller; far = fresh n.name Agent }

pub from_peerings : (cs : List NodeId) (s : Session) → Member s (peerings cs) → IsPeering cs (nodes s)
from_peerings [] s m = absurd m
from_peerings (c ∷ cs) s m =
    elim (in_either s (map (peer_session c) cs) (peerings cs) m) as (λ _. IsPeering (c ∷ cs) (nodes s)) [
      | inl l ↦ let q = from_map (peer_session c) s cs l in (c, inl refl, q.0, inr q.1, ap nodes q.2)
      | inr r ↦ let q = from_peerings cs s r in (q.0, inr q.1, q.2, inr q.3, q.4)
    ]

pub from_accesses : (cs : List NodeId) (ns : List Node) (s : Session) → Member s (accesses cs ns) → IsAccess cs ns (nodes s)
from_accesses cs ns s m =
    let q = from_flat_map (λ n. map (λ c. access_session c n) (filter (lists n) cs)) s ns m in
    let c = from_map (λ c. access_session c q.0) s (filter (lists q.0) cs) q.2 in
    let f = from_filter (lists q.0) c.0 cs c.1 in
    (c.0, f.0, q.0, q.1, ap nodes c.2, f.1)

is_other : (p q : Link) → (q.0.0 ≡ p.0.0 → q.1.0 ≡ p.1.0 → ⊥) → (q.0.0 ≡ p.1.0 → q.1.0 ≡ p.0.0 → ⊥) → IsOther p q
is_other p q h k = (
  false_from_ne_true (same_name q.0.0 p.0.0 && same_name q.1.0 p.1.0) (λ e. let r = and_parts (same_name q.0.0 p.0.0) (same_name q.1.0 p.1.0) e in h ((bytes_decides q.0.0 p.0.0).0 r.0) ((bytes_decides q.1.0 p.1.0).0 r.1)),
  false_from_ne_true (same_name q.0.0 p.1.0 && same_name q.1.0 p.0.0) (λ e. let r = and_parts (same_name q.0.0 p.1.0) (same_name q.1.0 p.0.0) e in k ((bytes_decides q.0.0 p.1.0).0 r.0) ((bytes_decides q.1.0 p.0.0).0 r.1)),
)

all_map : (P : Link → Type 0) (ss : List Session) → ((s : Session) → Member s ss → P (nodes s)) → AllByRecursion P (map nodes ss)
all_map P [] h = tt
all_map P (s ∷ ss) h = (h s (inl refl), all_map P ss (λ t m. h t (inr m)))

from_all : (P : Link → Type 0) (ss : List Session) (s : Session) → AllByRecursion P (map nodes ss) → Member s ss → P (nodes s)
from_all P [] s a m = absurd m
from_all P (t ∷ ss) s a (inl e) = subst (λ s. P (nodes s)) e a.0
from_all P (t ∷ ss) s a (inr m) = from_all P ss s a.1 m

twins_append : (ss ts : List Session) → NoTwins (map nodes ss) → NoTwins (map nodes ts) → ((s t : Session) → Member s ss → Member t ts → IsOther (nodes s) (nodes t)) → NoTwins (map nodes (ss ++ ts))
twins_append [] ts a b h = b
twins_append (s ∷ ss) ts a b h = (
  a.0,
  all_map (IsOther (nodes s)) (ss ++ ts) (λ t m. elim (in_either t ss ts m) as (λ _. IsOther (nodes s) (nodes t)) [ inl l ↦ from_all (IsOther (nodes s)) ss t a.1 l | inr r ↦ h s t (inl refl) r ]),
  twins_append ss ts a.2 b (λ u t m n. h u t (inr m) n),
)

-- ---- each kind
feeds_apart : (cs : List NodeId) → Apart (map (λ c. c.name) cs) → ((c : NodeId) → Member c cs → c.name ≡ config → ⊥) → NoTwins (map nodes (map feed_session cs))
feeds_apart [] a h = tt
feeds_apart (c ∷ cs) a h = (
  (same_false config c.name (λ e. h c (inl refl) (sym e)), same_false c.name config (h c (inl refl))),
  all_map (IsOther (nodes (feed_session c))) (map feed_session cs) (λ t m.
      let q = from_map feed_session t cs m in
      subst (λ t. IsOther (nodes (feed_session c)) (nodes t)) q.2
      (is_other (nodes (feed_session c)) (nodes (feed_session q.0)) (λ _ e. a.0 q.0.name (in_map (λ (c : NodeId). c.name) q.0 cs q.1) (sym e)) (λ _ e. h q.0 (inr q.1) e))),
  feeds_apart cs a.1 (λ d m. h d (inr m)),
)

peers_of_one : (c : NodeId) (ds : List NodeId) → Apart (map (λ c. c.name) ds) → ((d : NodeId) → Member d ds → c.name ≡ d.name → ⊥) → NoTwins (map nodes (map (peer_session c) ds))
peers_of_one c [] a h = tt
peers_of_one c (d ∷ ds) a h = (
  (same_false c.name d.name (h d (inl refl)), same_false d.name c.name (λ e. h d (inl refl) (sym e))),
  all_map (IsOther (nodes (peer_session c d))) (map (peer_session c) ds) (λ t m.
      let q = from_map (peer_session c) t ds m in
      subst (λ t. IsOther (nodes (peer_session c d)) (nodes t)) q.2
      (is_other (nodes (peer_session c d)) (nodes (peer_session c q.0)) (λ _ e. a.0 q.0.name (in_map (λ (c : NodeId). c.name) q.0 ds q.1) (sym e)) (λ e _. h d (inl refl) e))),
  peers_of_one c ds a.1 (λ e m. h e (inr m)),
)

peers_apart : (cs : List NodeId) → Apart (map (λ c. c.name) cs) → NoTwins (map nodes (peerings cs))
peers_apart [] a = tt
peers_apart (c ∷ cs) a =
    let apart : (d : NodeId) → Member d cs → c.name ≡ d.name → ⊥ = λ d m e. a.0 d.name (in_map (λ (c : NodeId). c.name) d cs m) e in
    twins_append (map (peer_session c) cs) (peerings cs) (peers_of_one c cs a.1 apart) (peers_apart cs a.1)
    (λ s t m n.
    let q = from_map (peer_session c) s cs m in
    let r = from_peerings cs t n in
    subst (λ s. IsOther (nodes s) (nodes t)) q.2
    (subst (λ p. IsOther (nodes (peer_session c q.0)) p) r.4
    (is_other (nodes (peer_session c q.0)) (nodes (peer_session r.0 r.2)) (λ e _. apart r.0 r.1 (sym e)) (λ _ e. apart r.2 r.3 (sym e)))))

filter_apart : (p : NodeId → Bool) (cs : List NodeId) → Apart (map (λ c. c.name) cs) → Apart (map (λ c. c.name) (filter p cs))
filter_apart p [] a = tt
filter_apart p (c ∷ cs) a = elim (p c) as (λ b. Apart (map (λ c. c.name) (cond b (c ∷ filter p cs) (filter p cs)))) [
  | true ↦ ((λ n m e. let q = from_map (λ (c : NodeId). c.name) n (filter p cs) m in a.0 n (subst (λ n. Member n (map (λ c. c.name) cs)) q.2 (in_map (λ (c : NodeId). c.name) q.0 cs (from_filter p q.0 cs q.1).0)) e), filter_apart p cs a.1)
  | false ↦ filter_apart p cs a.1
]

accesses_of_one : (n : Node) (cs : List NodeId) → Apart (map (λ c. c.name) cs) → ((c : NodeId) → Member c cs → c.name ≡ n.name → ⊥) → NoTwins (map nodes (map (λ c. access_session c n) cs))
accesses_of_one n [] a h = tt
accesses_of_one n (c ∷ cs) a h = (
  (same_false c.name n.name (h c (inl refl)), same_false n.name c.name (λ e. h c (inl refl) (sym e))),
  all_map (IsOther (nodes (access_session c n))) (map (λ c. access_session c n) cs) (λ t m.
      let q = from_map (λ c. access_session c n) t cs m in
      subst (λ t. IsOther (nodes (access_session c n)) (nodes t)) q.2
      (is_other (nodes (access_session c n)) (nodes (access_session q.0 n)) (λ e _. a.0 q.0.name (in_map (λ (c : NodeId). c.name) q.0 cs q.1) (sym e)) (λ e _. h q.0 (inr q.1) e))),
  accesses_of_one n cs a.1 (λ d m. h d (inr m)),
)

accesses_apart : (cs : List NodeId) (ns : List Node) → Apart (map (λ c. c.name) cs) → Apart (map (λ n. n.name) ns) → ((c : NodeId) (n : Node) → Member c cs → Member n ns → c.name ≡ n.name → ⊥) → NoTwins (map nodes (accesses cs ns))
accesses_apart cs [] a b h = tt
accesses_apart cs (n ∷ ns) a b h =
    twins_append (map (λ c. access_session c n) (filter (lists n) cs)) (accesses cs ns)
    (accesses_of_one n (filter (lists n) cs) (filter_apart (lists n) cs a) (λ c m e. h c n (from_filter (lists n) c cs m).0 (inl refl) e))
    (accesses_apart cs ns a b.1 (λ c k m l. h c k m (inr l)))
    (λ s t m l.
    let q = from_map (λ c. access_session c n) s (filter (lists n) cs) m in
    let r = from_accesses cs ns t l in
    subst (λ s. IsOther (nodes s) (nodes t)) q.2
    (subst (λ p. IsOther (nodes (access_session q.0 n)) p) r.4
    (is_other (nodes (access_session q.0 n)) (nodes (access_session r.0 r.2)) (λ _ e. b.0 r.2.name (in_map (λ (n : Node). n.name) r.2 ns r.3) (sym e)) (λ e _. h r.0 n r.1 (inl refl) e))))

pub no_twins : (x : Checked) → AreNamed x.topology → NoTwins (map nodes (start x).sessions)
no_twins x named =
    let names = names_apart x.topology (apart_of (config ∷ controller_names x.topology ++ node_names x.topology) named) in
    let cs = x.topology.controllers in let ns = x.topology.nodes in
    let site : (c : NodeId) → Member c cs → Member c.name (controller_names x.topology) = λ c m. in_map (λ (c : NodeId). c.name) c cs m in
    let computer : (n : Node) → Member n ns → Member n.name (node_names x.topology) = λ n m. in_map (λ (n : Node). n.name) n ns m in
    let not_config : (c : NodeId) → Member c cs → c.name ≡ config → ⊥ = λ c m e. names.no_site_config c.name (site c m) e in
    let other_kind : (c : NodeId) (n : Node) → Member c cs → Member n ns → c.name ≡ n.name → ⊥ = λ c n m k e. names.kinds_apart c.name n.name (site c m) (computer n k) e in
    twins_append (feeds cs ++ peerings cs) (accesses cs ns)
    (twins_append (feeds cs) (peerings cs) (feeds_apart cs names.sites_apart not_config) (peers_apart cs names.sites_apart)
    (λ s t m n.
    let q = from_map feed_session s cs m in
    let r = from_peerings cs t n in
    subst (λ s. IsOther (nodes s) (nodes t)) q.2
    (subst (λ p. IsOther (nodes (feed_session q.0)) p) r.4
    (is_other (nodes (feed_session q.0)) (nodes (peer_session r.0 r.2)) (λ e _. not_config r.0 r.1 e) (λ _ e. not_config r.2 r.3 e)))))
    (accesses_apart cs ns names.sites_apart names.computers_apart other_kind)
    (λ s t m n.
    let r = from_accesses cs ns t n in
    subst (λ p. IsOther (nodes s) p) r.4
    (elim (in_either s (feeds cs) (peerings cs) m) as (λ _. IsOther (nodes s) (nodes (access_session r.0 r.2))) [
      | inl l ↦
          let q = from_map feed_session s cs l in
          subst (λ s. IsOther (nodes s) (nodes (access_session r.0 r.2))) q.2
          (is_other (nodes (feed_session q.0)) (nodes (access_session r.0 r.2)) (λ e _. not_config r.0 r.1 e) (λ _ e. names.no_computer_config r.2.name (computer r.2 r.3) e))
      | inr l ↦
          let q = from_peerings cs s l in
          subst (λ p. IsOther p (nodes (access_session r.0 r.2))) q.4
          (is_other (nodes (peer_session q.0 q.2)) (nodes (access_session r.0 r.2)) (λ _ e. other_kind q.2 r.2 q.3 r.3 (sym e)) (λ _ e. other_kind q.0 r.2 q.1 r.3 (sym e)))
    ]))
