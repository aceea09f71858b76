-- What the octets of a record bring.
use Rattle.std.proofs.Common.{◌≡◌, ℕ, ◌+◌, Bool, true, cond, List, ◌++◌, length, drop, Some, IsTrue, refl, ap, ◌∙◌, arith}
use Rattle.std.proofs.lemmas.List.{drop_at}
use Rattle.std.specs.Cmp.Lexicographic.{pointwise}
use Rattle.std.specs.Prelude.{nat_eq}
use Rattle.std.proofs.lemmas.Slice.Eq.{bytes_eq-Decides}
use Rattle.ov_types.specs.Name.{is_name}
use Rattle.item_wire.specs.Frames.{framed}
use Rattle.item_wire.specs.Happenings.{SessionFields}
use Rattle.item_wire.specs.Inputs.{may_send, came_by}
use Rattle.item_wire.specs.Records.{json_text, spelling}
use Rattle.item_wire.specs.declared.event.ItemCause.TheVariants.{WrongName}
use Rattle.item_wire.specs.declared.event.ItemFrom.{ItemFrom}
use Rattle.item_wire.specs.declared.event.ItemFrom.TheVariants.{Feed, Control, Agent, Nothing}
use Rattle.item_wire.specs.declared.input.Came.{Came}
use Rattle.item_wire.specs.declared.input.Came.TheVariants as Comes
use Rattle.item_wire.specs.declared.item.Item.{Item}
use Rattle.item_wire.specs.declared.item.Item.TheVariants as I
use Rattle.item_wire.proofs.Framed.{framed_is_read}
use Rattle.item_wire.proofs.Spelled.{item_reads}
use Rattle.node_model.specs.Maps.{Change}
use Rattle.node_core.specs.Told.{IsWritable, CanBeTold, spelled}
use Rattle.node_core.specs.Hearing.{came_with, next_of, next_in}
use Rattle.node_core.proofs.Fitting.{without_lists}
use Rattle.node_core.proofs.Changes.{spelling_of_what_is_told}

past_the_record : (json more : List ℕ) → drop (4 + length json) (framed json ++ more) ≡ more
past_the_record json more = drop_at (framed json) more (4 + length json) (omega arith)

-- the octets of an item bring it first, whatever follows them
pub first_heard : (s : SessionFields) (i : Item) (more : List ℕ) → IsWritable i → next_in s (spelling i ++ more) ≡ Some (came_by s.peer s.from i, more)
first_heard s i more w =
    ap (next_of s (spelling i ++ more)) (framed_is_read (json_text i) more w.short)
    ∙ (λ k. Some (came_with s (item_reads i w.in_range k), past_the_record (json_text i) more k))

never_sent : (from : ItemFrom) (name : List ℕ) → IsTrue (may_send from (I.Hello name)) → ⊥
never_sent Feed name h = cc
never_sent Control name h = cc
never_sent Agent name h = cc
never_sent Nothing name h = cc

pub sent_came : (peer : List ℕ) (from : ItemFrom) (i : Item) → IsTrue (may_send from i) → came_by peer from i ≡ Comes.OtherRecord i
sent_came peer from (I.Hello name) h = absurd (never_sent from name h)
sent_came peer from _ h = rw h refl

pub change_heard : (s : SessionFields) (c : Change) (told : CanBeTold c) (more : List ℕ) → IsTrue (may_send s.from told.item)
    → next_in s (spelled c ++ more) ≡ Some (Comes.OtherRecord told.item, more)
change_heard s c told more h =
    ap (λ (octets : List ℕ). next_in s (octets ++ more)) (spelling_of_what_is_told c told)
    ∙ first_heard s told.item more told.writable
    ∙ ap (λ (came : Came). Some (came, more)) (sent_came s.peer s.from told.item h)

pub hello_heard : (s : SessionFields) (more : List ℕ) → IsTrue (is_name s.peer) → next_in s (spelling (I.Hello s.peer) ++ more) ≡ Some (Comes.Hello, more)
hello_heard s more h =
    let same : pointwise nat_eq s.peer s.peer ≡ true = (bytes_eq-Decides s.peer s.peer).1 refl in
    first_heard s (I.Hello s.peer) more (without_lists _ h refl)
    ∙ ap (λ (b : Bool). Some (cond b Comes.Hello (Comes.BadRecord WrongName), more)) same
