-- What was in flight as a round began, and what was sent since.
use Rattle.std.specs.Prelude.{◌≡◌, ◌≤◌, ℕ, suc, List, [], ◌∷◌, ◌++◌, map, length}
use Rattle.std.specs.List.{AllByRecursion}
use Rattle.std.proofs.Common.{ap, append_assoc, arith, refl, subst, sym, ◌∙◌}
use Rattle.machine_model.specs.OvSync.Keyed.{after as changed_by, changed}
use Rattle.node_laws.specs.NodeModel.Maps.{Change, Map}
use Rattle.machine_model.specs.Session.{Carries, Hello, Keepalive, Message, Open}
use Rattle.machine_model.proofs.SessionFact.{append_nil}

-- what a message makes of what is held
abbrev pub told_to : Message → Map → Map
told_to (Carries d) m = changed m d
told_to Open m = m
told_to Keepalive m = m
told_to Hello m = m

abbrev pub taking : List Message → Map → Map
taking [] m = m
taking (x ∷ f) m = taking f (told_to x m)

pub taking_changes : (ds : List Change) (m : Map) → taking (map Carries ds) m ≡ changed_by m ds
taking_changes [] m = refl
taking_changes (d ∷ ds) m = taking_changes ds (changed m d)

module _ (Good : Map → Type 0) (Fine : Message → Type 0) where
  -- at most so many messages are left of those that were in flight. With them what is held is good, and all that was sent
  -- since is fine
  pub record Pends (n : ℕ) (held : Map) (flight : List Message) : Type 0 where
    pub old : List Message
    pub new : List Message
    pub split : flight ≡ old ++ new
    pub few : length old ≤ n
    pub good : Good (taking old held)
    pub fine : AllByRecursion Fine new

  pub pends_starts : (n : ℕ) (held : Map) (flight : List Message) → length flight ≤ n → Good (taking flight held) → Pends n held flight
  pends_starts n held flight few good = record { old = flight; new = []; split = append_nil flight; few = few; good = good; fine = tt }

  pub pends_over : (held : Map) (flight : List Message) → Pends 0 held flight → Good held × AllByRecursion Fine flight
  pends_over held flight p = by p.old p.new p.split p.few p.good p.fine
    where
      by : (old new : List Message) → flight ≡ old ++ new → length old ≤ 0 → Good (taking old held) → AllByRecursion Fine new → Good held × AllByRecursion Fine flight
      by [] new split few good fine = (good, subst (AllByRecursion Fine) (sym split) fine)
      by (m ∷ old) new split few good fine = absurd (omega (arith, few))

  pub pends_more : (n k : ℕ) (held : Map) (flight : List Message) → n ≤ k → Pends n held flight → Pends k held flight
  pends_more n k held flight h p = record { old = p.old; new = p.new; split = p.split; few = more (length p.old) p.few; good = p.good; fine = p.fine }
    where
      more : (a : ℕ) → a ≤ n → a ≤ k
      more a few = omega (arith, h, few)

  fine_append : (f g : List Message) → AllByRecursion Fine f → AllByRecursion Fine g → AllByRecursion Fine (f ++ g)
  fine_append [] g a b = b
  fine_append (m ∷ f) g a b = (a.0, fine_append f g a.1 b)

  pub pends_append : (n : ℕ) (held : Map) (flight f : List Message) → AllByRecursion Fine f → Pends n held flight → Pends n held (flight ++ f)
  pends_append n held flight f h p = record {
    old = p.old;
    new = p.new ++ f;
    split = ap (λ (g : List Message). g ++ f) p.split ∙ append_assoc p.old p.new f;
    few = p.few;
    good = p.good;
    fine = fine_append p.new f p.fine h;
  }

  pub pends_none : (n : ℕ) (held : Map) → Pends n held [] → Pends 0 held []
  pends_none n held p = by p.old p.new p.split p.good
    where
      by : (old new : List Message) → [] ≡ old ++ new → Good (taking old held) → Pends 0 held []
      by [] new split good = record { old = []; new = []; split = refl; few = omega arith; good = good; fine = tt }
      by (m ∷ old) new split good = cc

  module _ (step : (x : Message) (m : Map) → Fine x → Good m → Good (told_to x m)) where
    pub pends_first : (n : ℕ) (held : Map) (x : Message) (ms : List Message) → Pends (suc n) held (x ∷ ms) → Pends n (told_to x held) ms
    pends_first n held x ms p = by p.old p.new p.split p.few p.good p.fine
      where
        by : (old new : List Message) → x ∷ ms ≡ old ++ new → length old ≤ suc n → Good (taking old held) → AllByRecursion Fine new → Pends n (told_to x held) ms
        by [] new split few good fine =
            let all : AllByRecursion Fine (x ∷ ms) = subst (AllByRecursion Fine) (sym split) fine in
            record { old = []; new = ms; split = refl; few = omega arith; good = step x held all.0 good; fine = all.1 }
        by (o ∷ old) new split few good fine =
            let first : o ≡ x = cc in
            let rest : ms ≡ old ++ new = cc in
            record { old = old; new = new; split = rest; few = omega (arith, few); good = subst (λ (y : Message). Good (taking old (told_to y held))) first good; fine = fine }
