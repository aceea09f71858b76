-- The changes that a session is told.
use Rattle.std.specs.Prelude.{◌≡◌, ◌<◌, ℕ, List, map, length}
use Rattle.std.specs.List.{All}
use Rattle.std.proofs.Common.{refl, sym, ◌∙◌, ap, subst, get_or}
use Rattle.std.proofs.lemmas.List.{get_or-map, length-map}
use Rattle.std.proofs.lemmas.List.Elements.{All-from_recursion}
use Rattle.ov_sync.specs.declared.Delta.{Delta}
use Rattle.ov_sync.specs.Keyed.{map_of, difference as difference_by}
use Rattle.ov_sync.specs.Embed.{moved_delta}
use Rattle.ov_sync.proofs.EmbedLaws.{difference-embedded}
use Rattle.ov_types.specs.contracts.numbers.LabelPartialEq.TheImpl as labels
use Rattle.ov_types.specs.declared.keys.UpKey.{UpKey}
use Rattle.ov_types.specs.declared.numbers.Label.{Label as LabelNo}
use Rattle.node_core.specs.Told.{ChangeFits, up_of, up_order}
use Rattle.node_core.proofs.Maps.{difference_fits}
use Rattle.node_core.specs.NodeModel.Keys.{of_up}
use Rattle.node_core.specs.NodeModel.Maps.{Change, difference}
use Rattle.node_core.specs.NodeModel.Values.{Label, same_value}
use Rattle.node_core.proofs.NodeModel.Orders.{key_total}
use Rattle.agent_node.specs.Ends.{Sent, SentFits}
use Rattle.node_core.proofs.NodeModel.Directions.{up_exact, up_keeps, up_total}

pub fits_at : (ds : List (Delta UpKey LabelNo)) (i : ℕ) (d : Delta UpKey LabelNo) → i < length ds → d ≡ get_or ds i d
    → All ChangeFits (map (moved_delta of_up Label) ds) → ChangeFits (moved_delta of_up Label d)
fits_at ds i d lt is all =
    let n = all i (moved_delta of_up Label d) (subst (λ n. i < n) (sym (length-map ds (moved_delta of_up Label))) lt) in
    subst ChangeFits (get_or-map (moved_delta of_up Label) ds i d (moved_delta of_up Label d) lt
    ∙ ap (moved_delta of_up Label) (sym is)) n

-- the typed changes of a session, among all keys and values
pub told_as : (sent wants : Sent) (ds : List (Delta UpKey LabelNo))
    → ds ≡ difference_by labels.ghosts.eq (map_of up_order sent) (map_of up_order wants)
    → map (moved_delta of_up Label) ds ≡ difference (up_of sent) (up_of wants)
told_as sent wants ds e =
    ap (map (moved_delta of_up Label)) e
    ∙ sym (difference-embedded of_up Label up_total key_total up_keeps labels.ghosts.eq same_value (λ v w. refl)
    up_exact (map_of up_order sent) (map_of up_order wants))

pub told_fits : (sent wants : Sent) (ds : List (Delta UpKey LabelNo))
    → ds ≡ difference_by labels.ghosts.eq (map_of up_order sent) (map_of up_order wants)
    → SentFits sent → SentFits wants → All ChangeFits (map (moved_delta of_up Label) ds)
told_fits sent wants ds e f g =
    subst (λ (cs : List Change). All ChangeFits cs) (sym (told_as sent wants ds e))
    (All-from_recursion ChangeFits (difference (up_of sent) (up_of wants))
    (difference_fits (up_of sent) (up_of wants) f g))
