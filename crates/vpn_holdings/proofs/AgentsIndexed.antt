-- What agents told, session by session, after a change.
use Rattle.std.specs.Prelude.{◌≡◌, ◌<◌, ◌==◌, ℕ, List, [], ◌∷◌, true, false, cond, Some, None, nat_lt}
use Rattle.std.specs.declared.option.Option.{Option}
use Rattle.std.specs.Option.{option_map}
use Rattle.std.specs.BTreeMap.{BTreeMap}
use Rattle.std.specs.Result.{OnErr, OnOk}
use Rattle.std.specs.declared.result.Result.{Result}
use Rattle.std.specs.declared.result.Result.TheVariants.{Ok, Err}
use Rattle.std.specs.FinMap.{empty, get, get-empty, get-insert, get-remove}
use Rattle.std.specs.Ordering.{eq_by_cmp, is_eq}
use Rattle.std.specs.Cmp.{tied_itself}
use Rattle.std.proofs.lemmas.Bool.{eqb-true}
use Rattle.std.proofs.lemmas.Bool.Decides.{nat_tests}
use Rattle.std.proofs.lemmas.Option.{same_Some}
use Rattle.std.proofs.Common.{refl, sym, ◌∙◌, ap, subst, inl, inr, arith}
use Rattle.ov_sync.specs.declared.Delta.{Delta}
use Rattle.ov_sync.specs.declared.Delta.TheVariants.{Put, Drop}
use Rattle.ov_sync.specs.Embed.{moved_delta}
use Rattle.ov_sync.specs.Keyed.{changed, key_of}
use Rattle.ov_sync.proofs.KeyedLaws.{changed_apart}
use Rattle.ov_types.specs.Prefix.{Block}
use Rattle.ov_types.specs.declared.keys.UpKey.{UpKey}
use Rattle.ov_types.specs.declared.keys.UpKey.TheVariants as Up
use Rattle.ov_types.specs.declared.numbers.InstanceId.{InstanceId}
use Rattle.ov_types.specs.declared.numbers.Label.{Label as LabelNo}
use Rattle.ov_types.specs.declared.prefix.Addr.{Addr}
use Rattle.path_select.specs.NodeModel.Keys.{Key, Low, Vpn, Row, Publish, Subscribe, key_cmp, of_up}
use Rattle.path_select.specs.NodeModel.Maps.{Map, as_label}
use Rattle.path_select.specs.NodeModel.Members.{Member}
use Rattle.path_select.specs.NodeModel.Paths.{Told}
use Rattle.path_select.specs.NodeModel.Values.{Label, Value}
use Rattle.path_select.proofs.NodeModel.Members.{none_some}
use Rattle.path_select.proofs.NodeModel.Orders.{key_exact, key_total}
use Rattle.vpn_holdings.specs.Changes.{at_session, named, with_nothing}
use Rattle.vpn_holdings.specs.Listing.{told_in}
use Rattle.vpn_holdings.specs.Moved.{told_on}
use Rattle.vpn_holdings.specs.Indexed.{AreAbove, AreInOrder, AreLabels, block_at, if_told, label_at, label_in, place_of_told, place_told, published_at}
use Rattle.vpn_holdings.specs.declared.places.LabelAt.{LabelAt}

abbrev none_at : ℕ → Told
none_at n = with_nothing n (record { 0 = 0 })

below_unlike : (m n : ℕ) → nat_lt m n ≡ true → (m == n) ≡ false
below_unlike m n t = grind (arith, nat_tests)

unlike : (m n : ℕ) → (m == n) ≡ false → m ≡ n → ⊥
unlike m n f e = grind arith

same : (m n : ℕ) → m ≡ n → (m == n) ≡ true
same m n e = grind arith

above_same : (m n : ℕ) → nat_lt m n ≡ false → (m == n) ≡ false → n < m
above_same m n f g = grind (arith, nat_tests)

less_of : (m n : ℕ) → nat_lt m n ≡ true → m < n
less_of m n t = grind (arith, nat_tests)

-- ---- the agent of a session
pub told_first : (agents : List Told) (s : ℕ) (a : Told) → told_on agents s ≡ Some a → told_in agents s ≡ a
told_first [] s a e = absurd (none_some a e)
told_first (b ∷ agents) s a e =
    elim (nat_lt b.session s) as (λ t. nat_lt b.session s ≡ t → cond t (told_on agents s) (cond (b.session == s) (Some b) None) ≡ Some a → cond (b.session == s) b (told_in agents s) ≡ a) [
      | true ↦ λ t e. ap (λ t. cond t b (told_in agents s)) (below_unlike b.session s t) ∙ told_first agents s a e
      | false ↦ λ _ e. elim (b.session == s) as (λ t. cond t (Some b) None ≡ Some a → cond t b (told_in agents s) ≡ a) [ true ↦ λ e. same_Some b a e | false ↦ λ e. absurd (none_some a e) ] e
    ] refl e

pub told_changed : (f : Map → Map) (agents : List Told) (s : ℕ) (a : Told) → told_on agents s ≡ Some a → told_in (at_session f agents s) s ≡ record a { map = f a.map }
told_changed f [] s a e = absurd (none_some a e)
told_changed f (b ∷ agents) s a e =
    elim (nat_lt b.session s) as (λ t. nat_lt b.session s ≡ t → cond t (told_on agents s) (cond (b.session == s) (Some b) None) ≡ Some a
    → told_in (cond t (b ∷ at_session f agents s) (cond (b.session == s) (record b { map = f b.map } ∷ agents) (b ∷ agents))) s ≡ record a { map = f a.map }) [
      | true ↦ λ t e. ap (λ t. cond t b (told_in (at_session f agents s) s)) (below_unlike b.session s t) ∙ told_changed f agents s a e
      | false ↦ λ _ e.
          elim (b.session == s) as (λ t. (b.session == s) ≡ t → cond t (Some b) None ≡ Some a → told_in (cond t (record b { map = f b.map } ∷ agents) (b ∷ agents)) s ≡ record a { map = f a.map }) [
            | true ↦ λ t e. ap (λ t. cond t (record b { map = f b.map }) (told_in agents s)) t ∙ ap (λ (x : Told). record x { map = f x.map }) (same_Some b a e)
            | false ↦ λ _ e. absurd (none_some a e)
          ] refl e
    ] refl e

pub told_apart : (f : Map → Map) (agents : List Told) (s n : ℕ) → (n ≡ s → ⊥) → told_in (at_session f agents s) n ≡ told_in agents n
told_apart f [] s n away = refl
told_apart f (b ∷ agents) s n away =
    elim (nat_lt b.session s) as (λ t. told_in (cond t (b ∷ at_session f agents s) (cond (b.session == s) (record b { map = f b.map } ∷ agents) (b ∷ agents))) n ≡ cond (b.session == n) b (told_in agents n)) [
      | true ↦ ap (cond (b.session == n) b) (told_apart f agents s n away)
      | false ↦
          elim (b.session == s) as (λ t. (b.session == s) ≡ t → told_in (cond t (record b { map = f b.map } ∷ agents) (b ∷ agents)) n ≡ cond (b.session == n) b (told_in agents n)) [
            | true ↦ λ t.
                let no : (b.session == n) ≡ false = apart_from b.session n (λ e. away (sym e ∙ eqb-true b.session s t)) in
                ap (λ t. cond t (record b { map = f b.map }) (told_in agents n)) no ∙ ap (λ t. cond t b (told_in agents n)) (sym no)
            | false ↦ λ _. refl
          ] refl
    ]
  where
    apart_from : (m n : ℕ) → (m ≡ n → ⊥) → (m == n) ≡ false
    apart_from m n h = elim (m == n) as (λ t. (m == n) ≡ t → t ≡ false) [ true ↦ λ t. absurd (h (eqb-true m n t)) | false ↦ λ _. refl ] refl

pub none_changed : (f : Map → Map) (agents : List Told) (s : ℕ) → told_on agents s ≡ None → at_session f agents s ≡ agents
none_changed f [] s e = refl
none_changed f (b ∷ agents) s e =
    elim (nat_lt b.session s) as (λ t. cond t (told_on agents s) (cond (b.session == s) (Some b) None) ≡ None → cond t (b ∷ at_session f agents s) (cond (b.session == s) (record b { map = f b.map } ∷ agents) (b ∷ agents)) ≡ b ∷ agents) [
      | true ↦ λ e. ap (λ (l : List Told). b ∷ l) (none_changed f agents s e)
      | false ↦ λ e. elim (b.session == s) as (λ t. cond t (Some b) None ≡ None → cond t (record b { map = f b.map } ∷ agents) (b ∷ agents) ≡ b ∷ agents) [ true ↦ λ e. absurd (none_some b (sym e)) | false ↦ λ _. refl ] e
    ] e

-- ---- agents in the order of their sessions
above_none : (agents : List Told) (n : ℕ) → AreAbove n agents → told_in agents n ≡ none_at n
above_none [] n h = refl
above_none (b ∷ agents) n h = ap (λ t. cond t b (told_in agents n)) (more n b.session h.0) ∙ above_none agents n h.1
  where
    more : (n m : ℕ) → n < m → (m == n) ≡ false
    more n m h = grind arith

above_all : (agents : List Told) (m n : ℕ) → m < n → AreAbove n agents → AreAbove m agents
above_all [] m n lt h = tt
above_all (b ∷ agents) m n lt h = (trans m n b.session lt h.0, above_all agents m n lt h.1)
  where
    trans : (a b c : ℕ) → a < b → b < c → a < c
    trans a b c p q = omega (arith, p, q)

above_changed : (f : Map → Map) (agents : List Told) (s n : ℕ) → AreAbove n agents → AreAbove n (at_session f agents s)
above_changed f [] s n h = tt
above_changed f (b ∷ agents) s n h =
    elim (nat_lt b.session s) as (λ t. AreAbove n (cond t (b ∷ at_session f agents s) (cond (b.session == s) (record b { map = f b.map } ∷ agents) (b ∷ agents)))) [
      | true ↦ (h.0, above_changed f agents s n h.1)
      | false ↦ elim (b.session == s) as (λ t. AreAbove n (cond t (record b { map = f b.map } ∷ agents) (b ∷ agents))) [ true ↦ h | false ↦ h ]
    ]

pub order_changed : (f : Map → Map) (agents : List Told) (s : ℕ) → AreInOrder agents → AreInOrder (at_session f agents s)
order_changed f [] s h = tt
order_changed f (b ∷ agents) s h =
    elim (nat_lt b.session s) as (λ t. AreInOrder (cond t (b ∷ at_session f agents s) (cond (b.session == s) (record b { map = f b.map } ∷ agents) (b ∷ agents)))) [
      | true ↦ (above_changed f agents s b.session h.0, order_changed f agents s h.1)
      | false ↦ elim (b.session == s) as (λ t. AreInOrder (cond t (record b { map = f b.map } ∷ agents) (b ∷ agents))) [ true ↦ h | false ↦ h ]
    ]

above_named : (agents : List Told) (s : ℕ) (x : Addr) (n : ℕ) → n < s → AreAbove n agents → AreAbove n (named agents s x)
above_named [] s x n lt h = (lt, tt)
above_named (b ∷ agents) s x n lt h =
    elim (nat_lt b.session s) as (λ t. AreAbove n (cond t (b ∷ named agents s x) (cond (b.session == s) (record b { address = x } ∷ agents) (with_nothing s x ∷ b ∷ agents)))) [
      | true ↦ (h.0, above_named agents s x n lt h.1)
      | false ↦ elim (b.session == s) as (λ t. AreAbove n (cond t (record b { address = x } ∷ agents) (with_nothing s x ∷ b ∷ agents))) [ true ↦ h | false ↦ (lt, h) ]
    ]

pub order_named : (agents : List Told) (s : ℕ) (x : Addr) → AreInOrder agents → AreInOrder (named agents s x)
order_named [] s x h = (tt, tt)
order_named (b ∷ agents) s x h =
    elim (nat_lt b.session s) as (λ t. nat_lt b.session s ≡ t → AreInOrder (cond t (b ∷ named agents s x) (cond (b.session == s) (record b { address = x } ∷ agents) (with_nothing s x ∷ b ∷ agents)))) [
      | true ↦ λ t. (above_named agents s x b.session (less_of b.session s t) h.0, order_named agents s x h.1)
      | false ↦ λ f.
          elim (b.session == s) as (λ t. (b.session == s) ≡ t → AreInOrder (cond t (record b { address = x } ∷ agents) (with_nothing s x ∷ b ∷ agents))) [
            | true ↦ λ _. h
            | false ↦ λ g. let lt = above_same b.session s f g in ((lt, above_all agents s b.session lt h.0), h)
          ] refl
    ] refl

pub map_named : (agents : List Told) (s : ℕ) (x : Addr) (n : ℕ) → AreInOrder agents → (told_in (named agents s x) n).map ≡ (told_in agents n).map
map_named [] s x n h = elim (s == n) as (λ t. (cond t (with_nothing s x) (none_at n)).map ≡ empty) [ true ↦ refl | false ↦ refl ]
map_named (b ∷ agents) s x n h =
    elim (nat_lt b.session s) as (λ t. nat_lt b.session s ≡ t → (told_in (cond t (b ∷ named agents s x) (cond (b.session == s) (record b { address = x } ∷ agents) (with_nothing s x ∷ b ∷ agents))) n).map ≡ (told_in (b ∷ agents) n).map) [
      | true ↦ λ _. elim (b.session == n) as (λ t. (cond t b (told_in (named agents s x) n)).map ≡ (cond t b (told_in agents n)).map) [ true ↦ refl | false ↦ map_named agents s x n h.1 ]
      | false ↦ λ f.
          elim (b.session == s) as (λ t. (b.session == s) ≡ t → (told_in (cond t (record b { address = x } ∷ agents) (with_nothing s x ∷ b ∷ agents)) n).map ≡ (told_in (b ∷ agents) n).map) [
            | true ↦ λ _. elim (b.session == n) as (λ t. (cond t (record b { address = x }) (told_in agents n)).map ≡ (cond t b (told_in agents n)).map) [ true ↦ refl | false ↦ refl ]
            | false ↦ λ g.
                elim (s == n) as (λ t. (s == n) ≡ t → (cond t (with_nothing s x) (told_in (b ∷ agents) n)).map ≡ (told_in (b ∷ agents) n).map) [
                  | true ↦ λ t.
                      let lt = above_same b.session s f g in
                      ap (λ (a : Told). a.map) (sym (above_none (b ∷ agents) s (lt, above_all agents s b.session lt h.0))) ∙ ap (λ n. (told_in (b ∷ agents) n).map) (eqb-true s n t)
                  | false ↦ λ _. refl
                ] refl
          ] refl
    ] refl

pub none_there : (agents : List Told) (s : ℕ) → AreInOrder agents → told_on agents s ≡ None → told_in agents s ≡ none_at s
none_there [] s h e = refl
none_there (b ∷ agents) s h e =
    elim (nat_lt b.session s) as (λ t. nat_lt b.session s ≡ t → cond t (told_on agents s) (cond (b.session == s) (Some b) None) ≡ None → told_in (b ∷ agents) s ≡ none_at s) [
      | true ↦ λ t e. ap (λ t. cond t b (told_in agents s)) (below_unlike b.session s t) ∙ none_there agents s h.1 e
      | false ↦ λ f e.
          elim (b.session == s) as (λ t. (b.session == s) ≡ t → cond t (Some b) None ≡ None → told_in (b ∷ agents) s ≡ none_at s) [
            | true ↦ λ _ e. absurd (none_some b (sym e))
            | false ↦ λ g _. let lt = above_same b.session s f g in above_none (b ∷ agents) s (lt, above_all agents s b.session lt h.0)
          ] refl e
    ] refl e

-- of agents in order, each is found by its session
above_member : (agents : List Told) (n : ℕ) (a : Told) → AreAbove n agents → Member a agents → n < a.session
above_member [] n a h m = absurd m
above_member (b ∷ agents) n a h (inl e) = subst (λ (x : Told). n < x.session) e h.0
above_member (b ∷ agents) n a h (inr m) = above_member agents n a h.1 m

pub found_by_session : (agents : List Told) (a : Told) → AreInOrder agents → Member a agents → told_in agents a.session ≡ a
found_by_session [] a h m = absurd m
found_by_session (b ∷ agents) a h (inl e) = ap (λ t. cond t b (told_in agents a.session)) (same b.session a.session (ap (λ (x : Told). x.session) e)) ∙ e
found_by_session (b ∷ agents) a h (inr m) =
    ap (λ t. cond t b (told_in agents a.session)) (lower b.session a.session (above_member agents b.session a h.0 m)) ∙ found_by_session agents a h.1 m
  where
    lower : (m n : ℕ) → m < n → (m == n) ≡ false
    lower m n h = grind arith

-- ---- publications
module _ (agents : List Told) (s : ℕ) where
  abbrev put_in : Delta UpKey LabelNo → Map → Map
  put_in d m = changed m (moved_delta of_up Label d)

  abbrev pub later : Delta UpKey LabelNo → List Told
  later d = at_session (put_in d) agents s

  abbrev found_in : LabelAt → Map → Option LabelNo
  found_in q m = as_label (get m (Publish q.instance (block_at q)))

  pub publication_apart : (d : Delta UpKey LabelNo) (q : LabelAt) (a : Told) → told_on agents s ≡ Some a → (q.session ≡ s → Publish q.instance (block_at q) ≡ key_of (moved_delta of_up Label d) → ⊥)
      → label_in (later d) q ≡ label_in agents q
  publication_apart d q a on away =
      elim (q.session == s) as (λ t. (q.session == s) ≡ t → label_in (later d) q ≡ label_in agents q) [
        | true ↦ λ t.
            let is = eqb-true q.session s t in
            ap (λ n. found_in q (told_in (at_session (put_in d) agents s) n).map) is
            ∙ ap (λ (b : Told). found_in q b.map) (told_changed (put_in d) agents s a on)
            ∙ ap as_label (changed_apart key_total key_exact a.map (moved_delta of_up Label d) (Publish q.instance (block_at q)) (away is))
            ∙ ap (λ (b : Told). found_in q b.map) (sym (told_first agents s a on))
            ∙ ap (λ n. found_in q (told_in agents n).map) (sym is)
        | false ↦ λ f. ap (λ (b : Told). found_in q b.map) (told_apart (put_in d) agents s q.session (unlike q.session s f))
      ] refl

  subscribed_apart : (q : LabelAt) (i : InstanceId) → Publish q.instance (block_at q) ≡ Subscribe i → ⊥
  subscribed_apart q i e = cc

  same_agents : (d : Delta UpKey LabelNo) → told_on agents s ≡ None → later d ≡ agents
  same_agents d e = none_changed (put_in d) agents s e

  moved_subscription : (d : Delta UpKey LabelNo) (i : InstanceId) → key_of d ≡ Up.Subscribe i → key_of (moved_delta of_up Label d) ≡ Subscribe i
  moved_subscription (Put k v) i e = ap of_up e
  moved_subscription (Drop k) i e = ap of_up e

  -- what has no place changes nothing that is kept
  pub no_place : (d : Delta UpKey LabelNo) (q : LabelAt) → place_told agents s (key_of d) ≡ None → label_in (later d) q ≡ label_in agents q
  no_place d q e = by_agent (told_on agents s) (key_of d) refl refl e
    where
      by_agent : (o : Option Told) (k : UpKey) → told_on agents s ≡ o → key_of d ≡ k → place_of_told o s k ≡ None → label_in (later d) q ≡ label_in agents q
      by_agent None k on is e = ap (λ g. label_in g q) (same_agents d on)
      by_agent (Some a) (Up.Subscribe i) on is e = publication_apart d q a on (λ _ f. subscribed_apart q i (f ∙ moved_subscription d i is))
      by_agent (Some a) (Up.Publish i p) on is e = absurd (none_some (label_at s i p, p) (sym e))

  tied : (k : Key) → eq_by_cmp key_cmp k k ≡ true
  tied k = ap is_eq (tied_itself key_total k)

  abbrev value_of : Delta UpKey LabelNo → Option LabelNo
  value_of (Put k v) = Some v
  value_of (Drop k) = None

  get_changed : (m : Map) (d : Delta UpKey LabelNo) (i : InstanceId) (p : Block) → key_of d ≡ Up.Publish i p → as_label (get (put_in d m) (Publish i p)) ≡ value_of d
  get_changed m (Put k v) i p e =
      ap as_label (ap (λ k. get (changed m (Put (of_up k) (Label v))) (Publish i p)) e ∙ get-insert key_total m (Publish i p) (Label v) (Publish i p) ∙ ap (λ b. cond b (Some (Label v)) (get m (Publish i p))) (tied (Publish i p)))
  get_changed m (Drop k) i p e =
      ap as_label (ap (λ k. get (changed m (Drop (of_up k))) (Publish i p)) e ∙ get-remove key_total m (Publish i p) (Publish i p) ∙ ap (λ b. cond b None (get m (Publish i p))) (tied (Publish i p)))

  moved_publication : (d : Delta UpKey LabelNo) (i : InstanceId) (p : Block) → key_of d ≡ Up.Publish i p → key_of (moved_delta of_up Label d) ≡ Publish i p
  moved_publication (Put k v) i p e = ap of_up e
  moved_publication (Drop k) i p e = ap of_up e

  abbrev instance_of : InstanceId → Key → InstanceId
  instance_of d (Publish i p) = i
  instance_of d (Low k) = d
  instance_of d (Vpn k) = d
  instance_of d (Row i p) = d
  instance_of d (Subscribe i) = d

  abbrev block_of : Block → Key → Block
  block_of d (Publish i p) = p
  block_of d (Low k) = d
  block_of d (Vpn k) = d
  block_of d (Row i p) = d
  block_of d (Subscribe i) = d

  same_place : (q : LabelAt) (i : InstanceId) (p : Block) → q.session ≡ s → Publish q.instance (block_at q) ≡ Publish i p → q ≡ label_at s i p
  same_place q i p t e =
      let b : block_at q ≡ p = ap (block_of p) e in
      let j : q.instance ≡ i = ap (instance_of i) e in
      λ x. record { addr = record { 0 = (b x).addr }; len = (b x).len; session = t x; instance = j x }

  -- a publication changes what is kept at its place alone, which has its prefix
  pub at_place : (d : Delta UpKey LabelNo) (at : LabelAt × Block) → place_told agents s (key_of d) ≡ Some at
      → (label_in (later d) at.0 ≡ value_of d) × (((q : LabelAt) → (q ≡ at.0 → ⊥) → label_in (later d) q ≡ label_in agents q) × (block_at at.0 ≡ at.1))
  at_place d at e = by_agent (told_on agents s) (key_of d) refl refl e
    where
      by_agent : (o : Option Told) (k : UpKey) → told_on agents s ≡ o → key_of d ≡ k → place_of_told o s k ≡ Some at
          → (label_in (later d) at.0 ≡ value_of d) × (((q : LabelAt) → (q ≡ at.0 → ⊥) → label_in (later d) q ≡ label_in agents q) × (block_at at.0 ≡ at.1))
      by_agent None k on is e = absurd (none_some at e)
      by_agent (Some a) (Up.Subscribe i) on is e = absurd (none_some at e)
      by_agent (Some a) (Up.Publish i p) on is e =
          let both : (label_at s i p, p) ≡ at = same_Some (label_at s i p, p) at e in
          let at_is : label_at s i p ≡ at.0 = ap (λ (x : LabelAt × Block). x.0) both in (
            ap (label_in (later d)) (sym at_is) ∙ ap (λ (b : Told). as_label (get b.map (Publish i p))) (told_changed (put_in d) agents s a on) ∙ get_changed a.map d i p is,
            (
              (λ q away. publication_apart d q a on (λ t f. away (same_place q i p t (f ∙ moved_publication d i p is) ∙ at_is))),
              ap block_at (sym at_is) ∙ ap (λ (x : LabelAt × Block). x.1) both,
            ),
          )

  nothing_told : (q : LabelAt) → found_in q empty ≡ None
  nothing_told q = ap as_label (get-empty key_cmp (Publish q.instance (block_at q)))

  -- nothing is kept of a session that is dropped
  pub dropped : AreInOrder agents → (q : LabelAt) → cond (q.session == s) None (label_in agents q) ≡ found_in q (told_in (at_session (λ m. empty) agents s) q.session).map
  dropped order q =
      elim (q.session == s) as (λ t. (q.session == s) ≡ t → cond t None (label_in agents q) ≡ found_in q (told_in (at_session (λ m. empty) agents s) q.session).map) [
        | true ↦ λ t. sym (ap (λ n. found_in q (told_in (at_session (λ m. empty) agents s) n).map) (eqb-true q.session s t) ∙ by_agent (told_on agents s) refl)
        | false ↦ λ f. ap (λ (b : Told). found_in q b.map) (sym (told_apart (λ m. empty) agents s q.session (unlike q.session s f)))
      ] refl
    where
      by_agent : (o : Option Told) → told_on agents s ≡ o → found_in q (told_in (at_session (λ m. empty) agents s) s).map ≡ None
      by_agent None on =
          ap (λ (l : List Told). found_in q (told_in l s).map) (none_changed (λ m. empty) agents s on)
          ∙ ap (λ (b : Told). found_in q b.map) (none_there agents s order on) ∙ nothing_told q
      by_agent (Some a) on = ap (λ (b : Told). found_in q b.map) (told_changed (λ m. empty) agents s a on) ∙ nothing_told q

-- ---- what is kept of the publications after a change that was made or not
pub either : {A E : Type 0} (r : Result A E) (P : List Told → Type 0) (before after now : List Told) → OnOk r (now ≡ after) → OnErr r (now ≡ before) → P after → P before → P now
either (Ok x) P before after now ok err a b = subst P (sym ok) a
either (Err e) P before after now ok err a b = subst P (sym err) b

-- agents stay in order
pub order_told : {A E : Type 0} (r : Result A E) (before now : List Told) (s : ℕ) (d : Delta UpKey LabelNo) → OnOk r (now ≡ later before s d) → OnErr r (now ≡ before) → AreInOrder before → AreInOrder now
order_told r before now s d ok err order =
    either r AreInOrder before (later before s d) now ok err (order_changed (λ m. changed m (moved_delta of_up Label d)) before s order) order

-- what has no place changes nothing that is kept
pub kept_nowhere : {A E : Type 0} (r : Result A E) (labels : BTreeMap LabelAt Block) (before now : List Told) (s : ℕ) (d : Delta UpKey LabelNo) → OnOk r (now ≡ later before s d)
    → OnErr r (now ≡ before) → place_told before s (key_of d) ≡ None → AreLabels labels before → AreLabels labels now
kept_nowhere r labels before now s d ok err none v =
    either r (AreLabels labels) before (later before s d) now ok err (λ k. v k ∙ ap (if_told (block_at k)) (sym (no_place before s d k none))) v

-- whose session it is changes nothing that is kept
pub kept_named : (labels : BTreeMap LabelAt Block) (before now : List Told) (s : ℕ) (x : Addr) → now ≡ named before s x → AreInOrder before → AreLabels labels before → AreLabels labels now
kept_named labels before now s x e order v =
    subst (AreLabels labels) (sym e) (λ k. v k ∙ ap (λ (m : Map). if_told (block_at k) (as_label (get m (Publish k.instance (block_at k))))) (sym (map_named before s x k.session order)))

pub in_order_named : (before now : List Told) (s : ℕ) (x : Addr) → now ≡ named before s x → AreInOrder before → AreInOrder now
in_order_named before now s x e order = subst AreInOrder (sym e) (order_named before s x order)

-- nothing is published at an empty map
pub published_nothing : (a : Told) (k : UpKey) → a.map ≡ empty → published_at a k ≡ None
published_nothing a k e =
    ap (λ (o : Option Value). option_map (λ (l : LabelNo). (a.address, l)) (as_label o)) (ap (λ (m : Map). get m (of_up k)) e ∙ get-empty key_cmp (of_up k))
