-- Sessions that are taken away, and those that stand in their place.
use Rattle.std.specs.Prelude.{◌≡◌, List, [], ◌∷◌, ◌++◌, map, true, false, not, cond}
use Rattle.std.specs.declared.option.Option.{Option}
use Rattle.std.specs.declared.option.Option.TheVariants.{Some, None}
use Rattle.std.specs.List.{filter}
use Rattle.std.proofs.Common.{refl}
use Rattle.ov_types.specs.declared.rows.NodeId.{NodeId}
use Rattle.schedule_script.specs.ConfigTypes.Node.{Node}
use Rattle.machine_model.specs.Setup.{Name, lists}
use Rattle.machine_model.specs.Session.{Role, Controller, Agent, Session}
use Rattle.machine_model.specs.Network.{brought, fresh, is_of, replaced}
use Rattle.machine_model.specs.Moments.{Each}

pub each_append : (P : Session → Type 0) (ss ts : List Session) → Each P ss → Each P ts → Each P (ss ++ ts)
each_append P [] ts a b = b
each_append P (s ∷ ss) ts a b = (a.0, each_append P ss ts a.1 b)

pub each_of : {A : Type 0} (P : Session → Type 0) (f : A → Session) → ((a : A) → P (f a)) → (xs : List A) → Each P (map f xs)
each_of P f h [] = tt
each_of P f h (x ∷ xs) = (h x, each_of P f h xs)

module _ (P Q : Session → Type 0) (name : Name) (keeps : (s : Session) → is_of name s ≡ false → P s → Q s) where
  kept_others : (ss : List Session) → Each P ss → Each Q (filter (λ s. not (is_of name s)) ss)
  kept_others [] e = tt
  kept_others (s ∷ ss) e =
      elim (is_of name s) as (λ b. is_of name s ≡ b → Each Q (cond (not b) (s ∷ filter (λ s. not (is_of name s)) ss) (filter (λ s. not (is_of name s)) ss))) [
        | true ↦ λ _. kept_others ss e.1
        | false ↦ λ off. (keeps s off e.0, kept_others ss e.1)
      ] refl

  -- what holds of the new ones, and of the others
  pub each_replaced : (new ss : List Session) → Each Q new → Each P ss → Each Q (replaced name new ss)
  each_replaced new [] n e = n
  each_replaced new (s ∷ ss) n e =
      elim (is_of name s) as (λ b. is_of name s ≡ b → Each Q (cond b (new ++ filter (λ s. not (is_of name s)) ss) (s ∷ replaced name new ss))) [
        | true ↦ λ _. each_append Q new (filter (λ s. not (is_of name s)) ss) n (kept_others ss e.1)
        | false ↦ λ off. (keeps s off e.0, each_replaced new ss n e.1)
      ] refl

pub each_brought : (P : Session → Type 0) → ((n m : Name) (r q : Role) → P (record { is_down = true; near = fresh n r; far = fresh m q })) → (cs : List NodeId) (o : Option Node) → Each P (brought cs o)
each_brought P h cs None = tt
each_brought P h cs (Some n) = each_of P (λ (c : NodeId). record { is_down = true; near = fresh c.name Controller; far = fresh n.name Agent }) (λ c. h c.name n.name Controller Agent) (filter (lists n) cs)
