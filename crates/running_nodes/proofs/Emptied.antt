-- A node that loses all that it has keeps who it is and how many sessions it has.
use Rattle.std.proofs.Common.{◌≡◌, ◌<◌, ℕ, List, [], false, length, set, sym, ◌∙◌, subst, refl}
use Rattle.node_model.specs.Step.{nothing}
use Rattle.running_nodes.specs.Steps.{all_of}
use Rattle.running_nodes.specs.Changes.{ChangesOne, emptied_inner}
use Rattle.running_nodes.specs.Halves.{Inner, IsEven, Outer, inner}
use Rattle.running_nodes.proofs.Stepping.{as_long}
use Rattle.running_nodes.proofs.Numbers.{changes_one}

pub emptied_one : (v v' : List Inner) (k : ℕ) → v' ≡ set v k (emptied_inner (inner v k)) → k < length v → ChangesOne k v v'
emptied_one v v' k is below =
    changes_one v v' k (inner v k) (emptied_inner (inner v k)) refl is below refl refl (as_long nothing (inner v k).posts) (as_long [] (inner v k).kept)

abbrev pub emptied_outer : Outer → Outer
emptied_outer e = record e { links = all_of [] e.links; notices = all_of false e.notices }

pub emptied_even : (e o : Outer) → o ≡ emptied_outer e → IsEven e → IsEven o
emptied_even e o is even =
    subst IsEven (sym is) (record { links = as_long [] e.links ∙ even.links; breaks = even.breaks; notices = as_long false e.notices ∙ even.notices; few = even.few })
