-- What the octets of records in turn, and a first part of one more, make of an end of a session of items.
use Rattle.std.specs.Prelude.{◌≡◌, ℕ, List, [], ◌∷◌, ◌++◌, map, Bool, false, IsTrue, Ok}
use Rattle.std.specs.List.{AllByRecursion, concat, cons_option, filter_map}
use Rattle.std.specs.Borrow.{Bor}
use Rattle.std.specs.declared.option.Option.{Option}
use Rattle.std.specs.declared.option.Option.TheVariants.{Some, None}
use Rattle.std.proofs.Common.{refl, sym, ◌∙◌, ap, subst, append_assoc}
use Rattle.std.proofs.lemmas.Bool.{true≢false}
use Rattle.std.proofs.lemmas.Option.{same_Some}
use Rattle.ov_link.specs.declared.step.Input.TheVariants as input
use Rattle.ov_sync.specs.Keyed as keyed
use Rattle.ov_types.specs.Name.{is_name}
use Rattle.item_wire.specs.Frames.{frame_of}
use Rattle.item_wire.specs.Happenings.{SessionFields}
use Rattle.item_wire.specs.Records.{spelling}
use Rattle.item_wire.specs.declared.event.ItemCause.{ItemCause}
use Rattle.item_wire.specs.declared.event.ItemFrom.{ItemFrom}
use Rattle.item_wire.specs.declared.event.ItemState.{ItemState}
use Rattle.item_wire.specs.declared.input.Came.{Came}
use Rattle.item_wire.specs.declared.input.Came.TheVariants as Comes
use Rattle.item_wire.specs.declared.item.Item.TheVariants.{Hello as HelloItem}
use Rattle.node_model.specs.Maps.{Change, Map}
use Rattle.node_model.specs.Step.{Beginning, Phase, Idle, Opened, Confirmed, Up, Post}
use Rattle.node_model.proofs.Members.{none_some}
use Rattle.node_core.specs.Beginning as item
use Rattle.node_core.specs.Hearing.{heard, next_in, next_of}
use Rattle.node_core.specs.Left.{Leaves}
use Rattle.node_core.specs.Told as items
use Rattle.node_core.proofs.Changes.{change_of_what_is_told}
use Rattle.node_core.proofs.Cutting.{leaves_one}
use Rattle.node_core.proofs.Records.{change_heard, hello_heard}
use Rattle.running_nodes.specs.ControlNode.Beginning.{item_state}
use Rattle.machine_laws.specs.MachineModel.Session.{Message, Hello, Carries, is_idle}
use Rattle.machine_laws.specs.MachineModel.Moments.{NoneGoesDown}
use Rattle.running_nodes.specs.Taking.{took_all}
use Rattle.running_nodes.specs.Telling.{IsRecordChange}
use Rattle.running_laws.specs.Hearing.{IsPhaseOf}

-- what these octets say on a session with this node, which may send these records
abbrev pub SaysItem : List ℕ → ItemFrom → Message → List ℕ → Type 0
SaysItem peer from Hello octets = (octets ≡ spelling (HelloItem peer)) × IsTrue (is_name peer)
SaysItem peer from (Carries c) octets = (octets ≡ items.spelled c) × IsRecordChange from c
SaysItem peer from m octets = Unit {0}

abbrev pub session_in : List ℕ → ItemFrom → ItemState → SessionFields
session_in peer from state = record { peer = peer; from = from; state = state }

phase_back : (phase : Phase) → IsPhaseOf false phase → item.phase_of (item_state phase) ≡ phase
phase_back Idle at = refl
phase_back Opened at = refl
phase_back Confirmed at = absurd at
phase_back Up at = refl

module _ (peer : List ℕ) (from : ItemFrom) (sent : Map) (wide : Bool) (part : List ℕ) (none : frame_of part ≡ Ok None)
    (spell : Message → List ℕ) (Can : Message → Type 0) (says : (m : Message) → Can m → SaysItem peer from m (spell m)) where
  abbrev session_at : Phase → SessionFields
  session_at phase = session_in peer from (item_state phase)

  abbrev post_in : Phase → Map → Post
  post_in phase held = record { phase = phase; sent = sent; held = held; wide = wide }

  -- the octets bring inputs that make of the end what these messages make of it, and leave the part
  pub record Brings (phase : Phase) (held : Map) (octets : List ℕ) (ms : List Message) : Type 0 where
    pub inputs : List Came
    pub leaves : Leaves (session_at phase) octets inputs part
    pub cause : (heard (session_at phase) inputs).cause ≡ None
    pub after : item.left_by (post_in phase held) (heard (session_at phase) inputs) None
        ≡ Some (took_all false (post_in phase held) ms)

  -- the part by itself
  nothing_brings : (phase : Phase) (held : Map) → IsPhaseOf false phase → Brings phase held part []
  nothing_brings phase held at = record {
    inputs = [];
    leaves = (ap (next_of (session_at phase) part) none, refl);
    cause = refl;
    after = ap (λ (q : Phase). Some (post_in q held)) (phase_back phase at);
  }

  hello_brings : (held : Map) (rest : List ℕ) (ms : List Message) → Can Hello → Brings Up held rest ms
      → Brings Opened held (spell Hello ++ rest) (Hello ∷ ms)
  hello_brings held rest ms can b =
      let s = session_at Opened in
      let said = says Hello can in
      record {
        inputs = Comes.Hello ∷ b.inputs;
        leaves = (
          rest,
          ap (λ (o : List ℕ). next_in s (o ++ rest)) said.0 ∙ hello_heard s rest said.1,
          b.leaves,
        );
        cause = b.cause;
        after = b.after;
      }

  change_brings : (c : Change) (held : Map) (rest : List ℕ) (ms : List Message) → Can (Carries c)
      → Brings Up (keyed.changed held c) rest ms → Brings Up held (spell (Carries c) ++ rest) (Carries c ∷ ms)
  change_brings c held rest ms can b =
      let s = session_at Up in
      let said = says (Carries c) can in
      let told = said.1.told in
      let h = heard s b.inputs in
      record {
        inputs = Comes.OtherRecord told.item ∷ b.inputs;
        leaves = (
          rest,
          ap (λ (o : List ℕ). next_in s (o ++ rest)) said.0 ∙ change_heard s c told rest said.1.may,
          b.leaves,
        );
        cause = b.cause;
        after = ap (λ (o : Option Change). Some (record {
          phase = item.phase_of h.state;
          sent = sent;
          held = keyed.after held (cons_option o (filter_map items.change_of h.records));
          wide = wide;
        })) (change_of_what_is_told c told) ∙ b.after;
      }

  -- one message, where the others are brought from the end that it leaves
  step : (phase : Phase) (m : Message) (held : Map) (ms : List Message) (rest : List ℕ) → is_idle phase ≡ false
      → NoneGoesDown false phase (m ∷ ms) → Can m
      → ((held' : Map) → NoneGoesDown false Up ms → Brings Up held' rest ms)
      → Brings phase held (spell m ++ rest) (m ∷ ms)
  step Idle m held ms rest live goes can others = absurd (true≢false live)
  step Opened Hello held ms rest live goes can others =
      hello_brings held rest ms can
      (others held (subst (λ (q : Phase). NoneGoesDown false q ms) (sym (same_Some Up goes.0 goes.1)) goes.2))
  step Up (Carries c) held ms rest live goes can others =
      change_brings c held rest ms can
      (others (keyed.changed held c)
      (subst (λ (q : Phase). NoneGoesDown false q ms) (sym (same_Some Up goes.0 goes.1)) goes.2))
  step _ _ held ms rest live goes can others = absurd (none_some goes.0 goes.1)

  brings : (ms : List Message) (phase : Phase) (held : Map) → is_idle phase ≡ false → IsPhaseOf false phase
      → NoneGoesDown false phase ms → AllByRecursion Can ms → Brings phase held (concat (map spell ms) ++ part) ms
  brings [] phase held live at goes can = nothing_brings phase held at
  brings (m ∷ ms) phase held live at goes can =
      subst (λ (o : List ℕ). Brings phase held o (m ∷ ms)) (sym (append_assoc (spell m) (concat (map spell ms)) part))
      (step phase m held ms (concat (map spell ms) ++ part) live goes can.0
      (λ held' goes'. brings ms Up held' refl tt goes' can.1))

-- an end that hears records in turn and part of one more is as its cells say, and the part is left
pub records_taken : (me peer : List ℕ) (from : ItemFrom) (state : ItemState) (p : Post) (kept : List ℕ) (i : ℕ)
    (octets : Bor (List ℕ)) (given : Beginning) (cause : Option ItemCause) (left : List ℕ) (part : List ℕ)
    → frame_of part ≡ Ok None → (spell : Message → List ℕ) (Can : Message → Type 0)
    → ((m : Message) → Can m → SaysItem peer from m (spell m)) → (ms : List Message) → state ≡ item_state p.phase
    → is_idle p.phase ≡ false → IsPhaseOf false p.phase → NoneGoesDown false p.phase ms → AllByRecursion Can ms
    → kept ++ octets.now ≡ concat (map spell ms) ++ part
    → item.BeginsKeeping me (session_in peer from state) p kept (input.Bytes i octets) given cause left
    → (given ≡ record { replies = []; after = Some (took_all false p ms) }) × (left ≡ part) × (cause ≡ None)
records_taken me peer from state p kept i octets given cause left part none spell Can says ms same live at goes can is x =
    let s = session_in peer from (item_state p.phase) in
    let y : item.BeginsKeeping me s p kept (input.Bytes i octets) given cause left =
    subst (λ (q : ItemState). item.BeginsKeeping me (session_in peer from q) p kept (input.Bytes i octets) given cause left)
    same x in
    let b = brings peer from p.sent p.wide part none spell Can says ms p.phase p.held live at goes can in
    let one = leaves_one s (kept ++ octets.now) y.0 b.inputs left part y.1
    (subst (λ (o : List ℕ). Leaves s o b.inputs part) (sym is) b.leaves) in (
      y.2 ∙ ap (λ (inputs : List Came). record {
        replies = [];
        after = item.left_by p (heard s inputs) (heard s inputs).cause;
      }) one.0 ∙ ap (λ (c : Option ItemCause). record { replies = []; after = item.left_by p (heard s b.inputs) c }) b.cause
          ∙ ap (λ (after : Option Post). record { replies = []; after = after }) b.after,
      one.1,
      y.3 ∙ ap (λ (inputs : List Came). (heard s inputs).cause) one.0 ∙ b.cause,
    )
