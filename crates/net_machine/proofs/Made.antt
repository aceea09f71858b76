-- What an edit keeps.
use Rattle.std.specs.Prelude.{◌≡◌, ◌<◌, List, length}
use Rattle.std.specs.declared.option.Option.{Option}
use Rattle.std.specs.declared.option.Option.TheVariants.{Some, None}
use Rattle.std.proofs.Common.{refl, sym, ◌∙◌, ap, subst}
use Rattle.config_check.specs.Checked.{Checked}
use Rattle.config_check.specs.Edits.{edited, edited_topology}
use Rattle.config_types.specs.declared.edit.Edit.{Edit}
use Rattle.config_types.specs.declared.edit.Edit.TheVariants.{Put, Delete}
use Rattle.config_types.specs.declared.edit.Object.TheVariants as objects
use Rattle.config_types.specs.declared.edit.ObjectKind.TheVariants as kinds
use Rattle.config_types.specs.declared.topology.Topology.{Topology}
use Rattle.running_nodes.specs.MachineModel.Setup.{Move, moves}
use Rattle.running_nodes.specs.Moving.{MovesIf}
use Rattle.running_nodes.specs.Seats.{Who, Configuring, Seat, name_of, names_of, others_of, seat}
use Rattle.running_nodes.specs.Steps.{Configures, cleared, with_seat}
use Rattle.running_laws.specs.Editing.{MakesEdit}
use Rattle.running_laws.proofs.Lists.{same_who}
use Rattle.net_machine.specs.Moving.{CanMoveIf}
use Rattle.net_machine.specs.Seating.{AreLong, Keeps}
use Rattle.net_machine.proofs.Alike.{cleared_alike}
use Rattle.net_machine.proofs.Changes.{cleared_keeps}
use Rattle.net_machine.proofs.Kept.{keeps_both, with_here, with_keeps}
use Rattle.net_machine.proofs.Moved.{moved_first, some_first}

-- an edit keeps the control nodes
pub same_controllers : (e : Edit) (t : Topology) → (edited_topology e t).controllers ≡ t.controllers
unfolding edited_topology
same_controllers (Put (objects.Node x)) t = refl
same_controllers (Put (objects.Network x)) t = refl
same_controllers (Put (objects.Port x)) t = refl
same_controllers (Put (objects.Policy x)) t = refl
same_controllers (Put (objects.Service x)) t = refl
same_controllers (Put (objects.Chain x)) t = refl
same_controllers (Delete kinds.Node name) t = refl
same_controllers (Delete kinds.Network name) t = refl
same_controllers (Delete kinds.Port name) t = refl
same_controllers (Delete kinds.Policy name) t = refl
same_controllers (Delete kinds.Service name) t = refl
same_controllers (Delete kinds.Chain name) t = refl

-- another configuration of the same control nodes
pub configures_keeps : (seats : List Seat) (x y : Checked) (after : List Seat) → AreLong seats
    → (seat seats 0).who ≡ Configuring x → y.topology.controllers ≡ x.topology.controllers → Configures seats y after
    → Keeps seats after
configures_keeps seats x y after long who same h =
    let within = some_first seats x who in
    let n = h.node in
    let s = h.stepped in
    let l = long 0 within in
    let others : others_of n.who ≡ others_of (seat seats 0).who =
    ap others_of s.who ∙ ap names_of same ∙ sym (ap others_of who) in
    subst (Keeps seats) (sym h.is) (with_keeps seats 0 n within long (ap name_of s.who ∙ sym (ap name_of who)) others
    s.posts_long
    (record {
      posts = s.posts_long ∙ l.posts ∙ sym (ap (λ xs. length xs) others);
      kept = h.swept.long ∙ l.kept ∙ sym (ap (λ xs. length xs) others);
      links = s.links_long ∙ l.links ∙ sym (ap (λ xs. length xs) others);
      breaks = s.breaks_long ∙ l.breaks ∙ sym (ap (λ xs. length xs) others);
      notices = ap (λ xs. length xs) s.notices ∙ l.notices ∙ sym (ap (λ xs. length xs) others);
    }))

pub configures_first : (seats : List Seat) (x y : Checked) (after : List Seat) → (seat seats 0).who ≡ Configuring x
    → Configures seats y after → (seat after 0).who ≡ Configuring y
configures_first seats x y after who h =
    ap (λ ss. (seat ss 0).who) h.is ∙ ap (λ (n : Seat). n.who) (with_here seats 0 h.node (some_first seats x who))
    ∙ h.stepped.who

-- ---- what moves, if anything does
pub moved_if : (t : Topology) (o : Option Move) (seats after : List Seat) (x : Checked) → AreLong seats
    → CanMoveIf t o seats → (seat seats 0).who ≡ Configuring x → MovesIf t o seats after
    → AreLong after × ((seat after 0).who ≡ Configuring x)
moved_if t None seats after x long can is h =
    (subst AreLong (sym h) long, subst (λ ss. (seat ss 0).who ≡ Configuring x) (sym h) is)
moved_if t (Some m) seats after x long can is h = moved_first t m seats after x long can is h

-- ---- the whole edit, where this was valid
module _ (seats moved configured after : List Seat) (x y : Checked) (e : Edit) (long : AreLong seats)
    (who : (seat seats 0).who ≡ Configuring x) (y_is : y ≡ edited e x)
    (can : CanMoveIf y.topology (moves e x.topology) seats) (m : MovesIf y.topology (moves e x.topology) seats moved) where
  moved_is : AreLong moved × ((seat moved 0).who ≡ Configuring x)
  moved_is = moved_if y.topology (moves e x.topology) seats moved x long can who m

  pub moved_long : AreLong moved
  moved_long = moved_is.0

  pub moved_who : (seat moved 0).who ≡ Configuring x
  moved_who = moved_is.1

  pub edit_controllers : y.topology.controllers ≡ x.topology.controllers
  edit_controllers = ap (λ (z : Checked). z.topology.controllers) y_is ∙ same_controllers e x.topology

  module _ (c : Configures moved y configured) where
    kept : Keeps moved configured
    kept = configures_keeps moved x y configured moved_long moved_who edit_controllers c

    pub configured_long : AreLong configured
    configured_long = kept.long

    first : (seat configured 0).who ≡ Configuring y
    first = configures_first moved x y configured moved_who c

    pub configured_some : 0 < length configured
    configured_some = some_first configured y first

    module _ (is : after ≡ cleared configured 0) where
      pub edit_made : MakesEdit seats x e after
      edit_made = record {
        moved = moved;
        moves = subst (λ (z : Checked). MovesIf z.topology (moves e x.topology) seats moved) y_is m;
        configured = configured;
        configures = subst (λ (z : Checked). Configures moved z configured) y_is c;
        is = is;
      }

      rest : Keeps configured after
      rest = subst (Keeps configured) (sym is) (cleared_keeps configured 0 configured_long configured_some)

      pub edit_long : AreLong after
      edit_long = rest.long

      pub edit_first : (seat after 0).who ≡ Configuring y
      edit_first =
          ap (λ ss. (seat ss 0).who) is ∙ same_who configured (cleared configured 0) (cleared_alike configured 0) 0 ∙ first

      pub edit_keeps : moves e x.topology ≡ None → Keeps seats after
      edit_keeps none =
          let same : moved ≡ seats = subst (λ o. MovesIf y.topology o seats moved) none m in
          subst (λ ss. Keeps ss after) same (keeps_both moved configured after kept rest)
