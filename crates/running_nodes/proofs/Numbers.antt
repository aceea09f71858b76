-- Nodes by their numbers: the configuration node, the control nodes and the agents.
use Rattle.std.proofs.Common.{◌≡◌, ◌<◌, ◌+◌, ℕ, zero, suc, List, [], ◌∷◌, ◌++◌, length, map, get_or, set, sym, ◌∙◌, ap, refl, subst, arith, zero-add}
use Rattle.std.proofs.lemmas.List.{get_or-set_same}
use Rattle.std.specs.List.{All}
use Rattle.running_nodes.specs.ConfigNode.Core as configuration
use Rattle.running_nodes.specs.ControlNode.Core as control
use Rattle.agent_node.specs.Core as agent
use Rattle.running_nodes.specs.Seats.{name_of, others_of}
use Rattle.running_nodes.specs.Changes.{ChangesOne}
use Rattle.running_nodes.specs.Cores.{configured, controlled, forwarded, inners}
use Rattle.running_nodes.specs.Halves.{Inner, inner, no_inner}

shift : (n k : ℕ) → suc n + k ≡ suc (n + k)
shift n k = omega arith

-- ---- two mapped lists, one after the other
module _ {A B C : Type 0} (f : A → C) (g : B → C) where
  first_at : (xs : List A) (ys : List B) (k : ℕ) (x : A) (e : C) → k < length xs → x ≡ get_or xs k x
      → get_or (map f xs ++ map g ys) k e ≡ f x
  first_at [] ys k x e lt at = absurd (omega arith)
  first_at (z ∷ xs) ys zero x e lt at = ap f (sym at)
  first_at (z ∷ xs) ys (suc k) x e lt at = first_at xs ys k x e (omega arith) at

  mapped_at : (ys : List B) (k : ℕ) (y : B) (e : C) → k < length ys → y ≡ get_or ys k y → get_or (map g ys) k e ≡ g y
  mapped_at [] k y e lt at = absurd (omega arith)
  mapped_at (z ∷ ys) zero y e lt at = ap g (sym at)
  mapped_at (z ∷ ys) (suc k) y e lt at = mapped_at ys k y e (omega arith) at

  second_at : (xs : List A) (ys : List B) (k : ℕ) (y : B) (e : C) → k < length ys → y ≡ get_or ys k y
      → get_or (map f xs ++ map g ys) (length xs + k) e ≡ g y
  second_at [] ys k y e lt at = ap (λ (j : ℕ). get_or (map g ys) j e) (zero-add k) ∙ mapped_at ys k y e lt at
  second_at (z ∷ xs) ys k y e lt at =
      ap (λ (j : ℕ). get_or (f z ∷ (map f xs ++ map g ys)) j e) (shift (length xs) k) ∙ second_at xs ys k y e lt at

  first_set : (xs : List A) (ys : List B) (k : ℕ) (x : A) → k < length xs
      → set (map f xs ++ map g ys) k (f x) ≡ map f (set xs k x) ++ map g ys
  first_set [] ys k x lt = absurd (omega arith)
  first_set (z ∷ xs) ys zero x lt = refl
  first_set (z ∷ xs) ys (suc k) x lt = ap (λ (cs : List C). f z ∷ cs) (first_set xs ys k x (omega arith))

  mapped_set : (ys : List B) (k : ℕ) (y : B) → set (map g ys) k (g y) ≡ map g (set ys k y)
  mapped_set [] k y = refl
  mapped_set (z ∷ ys) zero y = refl
  mapped_set (z ∷ ys) (suc k) y = ap (λ (cs : List C). g z ∷ cs) (mapped_set ys k y)

  second_set : (xs : List A) (ys : List B) (k : ℕ) (y : B)
      → set (map f xs ++ map g ys) (length xs + k) (g y) ≡ map f xs ++ map g (set ys k y)
  second_set [] ys k y = ap (λ (j : ℕ). set (map g ys) j (g y)) (zero-add k) ∙ mapped_set ys k y
  second_set (z ∷ xs) ys k y =
      ap (λ (j : ℕ). set (f z ∷ (map f xs ++ map g ys)) j (g y)) (shift (length xs) k)
      ∙ ap (λ (cs : List C). f z ∷ cs) (second_set xs ys k y)

  mapped_long : (ys : List B) → length (map g ys) ≡ length ys
  mapped_long [] = refl
  mapped_long (y ∷ ys) = ap suc (mapped_long ys)

  many : (xs : List A) (ys : List B) → length (map f xs ++ map g ys) ≡ length xs + length ys
  many [] ys = mapped_long ys ∙ (omega arith)
  many (x ∷ xs) ys = let rest = many xs ys in omega arith

-- ---- the node of a number
pub config_is : (v : List Inner) (x : configuration.Core) (cs : List control.Core) (agents : List agent.Core) (node : ℕ)
    → inners x cs agents ≡ v → 0 ≡ node → inner v node ≡ configured x
config_is v x cs agents node view number =
    ap (λ (ns : List Inner). inner ns node) (sym view) ∙ ap (λ (k : ℕ). inner (inners x cs agents) k) (sym number)

module _ (v : List Inner) (x : configuration.Core) (cs : List control.Core) (agents : List agent.Core) (node n i : ℕ)
    (view : inners x cs agents ≡ v) (len : n ≡ length cs) where
  pub control_is : (y : control.Core) → 1 + i ≡ node → i < n → y ≡ get_or cs i y → inner v node ≡ controlled y
  control_is y number lt at =
      let next : node ≡ suc i = omega arith in
      ap (λ (ns : List Inner). inner ns node) (sym view)
      ∙ (ap (λ (k : ℕ). inner (inners x cs agents) k) next ∙ first_at controlled forwarded cs agents i y no_inner (omega arith) at)

  pub control_set : (z : control.Core) → 1 + i ≡ node → i < n → inners x (set cs i z) agents ≡ set v node (controlled z)
  control_set z number lt =
      let next : node ≡ suc i = omega arith in
      ap (λ (ns : List Inner). configured x ∷ ns) (sym (first_set controlled forwarded cs agents i z (omega arith)))
      ∙ (ap (λ (k : ℕ). set (inners x cs agents) k (controlled z)) (sym next) ∙ ap (λ (ns : List Inner). set ns node (controlled z)) view)

  -- there are as many nodes
  pub many_nodes : length v ≡ suc (length cs + length agents)
  many_nodes = ap length (sym view) ∙ ap suc (many controlled forwarded cs agents)

  pub agent_is : (y : agent.Core) → 1 + (n + i) ≡ node → node < length v → y ≡ get_or agents i y → inner v node ≡ forwarded y
  agent_is y number lt at =
      let next : node ≡ suc (length cs + i) = omega arith in
      let all = many_nodes in
      ap (λ (ns : List Inner). inner ns node) (sym view)
      ∙ (ap (λ (k : ℕ). inner (inners x cs agents) k) next ∙ second_at controlled forwarded cs agents i y no_inner (omega arith) at)

  pub agent_within : 1 + (n + i) ≡ node → node < length v → i < length agents
  agent_within number lt = let all = many_nodes in omega arith

  pub agent_set : (z : agent.Core) → 1 + (n + i) ≡ node → inners x cs (set agents i z) ≡ set v node (forwarded z)
  agent_set z number =
      let next : node ≡ suc (length cs + i) = omega arith in
      ap (λ (ns : List Inner). configured x ∷ ns) (sym (second_set controlled forwarded cs agents i z))
      ∙ (ap (λ (k : ℕ). set (inners x cs agents) k (forwarded z)) (sym next) ∙ ap (λ (ns : List Inner). set ns node (forwarded z)) view)

-- what stands at a place that there is
pub standing_at : {A : Type 0} (xs : List A) (k : ℕ) → k < length xs → (x : A) × (x ≡ get_or xs k x)
standing_at [] k lt = absurd (omega arith)
standing_at (x ∷ xs) zero lt = (x, refl)
standing_at (x ∷ xs) (suc k) lt = standing_at xs k (omega arith)

pub all_there : {A : Type 0} (P : A → Type 0) (xs : List A) (k : ℕ) (x : A) → All P xs → k < length xs → x ≡ get_or xs k x → P x
all_there P xs k x all lt at = subst P (sym at) (all k x lt)

-- ---- one node in place of another
pub set_at : (v v' : List Inner) (node : ℕ) (new : Inner) → v' ≡ set v node new → node < length v → inner v' node ≡ new
set_at v v' node new is lt = ap (λ (ns : List Inner). inner ns node) is ∙ get_or-set_same v node new no_inner lt

pub changes_one : (v v' : List Inner) (node : ℕ) (old new : Inner) → inner v node ≡ old → v' ≡ set v node new → node < length v
    → name_of new.who ≡ name_of old.who → others_of new.who ≡ others_of old.who → length new.posts ≡ length old.posts
    → length new.kept ≡ length old.kept → ChangesOne node v v'
changes_one v v' node old new was is lt name others long kept =
    let now : inner v' node ≡ new = set_at v v' node new is lt in
    record {
      one = is ∙ ap (λ (n : Inner). set v node n) (sym now);
      name = ap (λ (n : Inner). name_of n.who) now ∙ (name ∙ ap (λ (n : Inner). name_of n.who) (sym was));
      others = ap (λ (n : Inner). others_of n.who) now ∙ (others ∙ ap (λ (n : Inner). others_of n.who) (sym was));
      long = ap (λ (n : Inner). length n.posts) now ∙ (long ∙ ap (λ (n : Inner). length n.posts) (sym was));
      kept = ap (λ (n : Inner). length n.kept) now ∙ (kept ∙ ap (λ (n : Inner). length n.kept) (sym was));
    }
