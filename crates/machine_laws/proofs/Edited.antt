-- An accepted edit leads to a valid configuration, of the same autonomous system.
use Rattle.std.specs.Prelude.{◌≡◌}
use Rattle.std.specs.declared.option.Option.TheVariants.{None, Some}
use Rattle.std.specs.declared.option.Option.{Option}
use Rattle.std.proofs.Common.{ap, refl, subst, sym, ◌∙◌}
use Rattle.std.proofs.lemmas.Option.{same_Some}
use Rattle.config_types.specs.declared.edit.Edit.{Edit}
use Rattle.schedule_script.specs.ConfigCheck.Edits as edits
use Rattle.schedule_script.specs.ConfigCheck.Edits.{edit_fault}
use Rattle.schedule_script.specs.ConfigCheck.Rules.{first_broken}
use Rattle.schedule_script.specs.ConfigCheck.EditFault.{EditFault}
use Rattle.schedule_script.proofs.ConfigCheck.Validity.{valid_iff}
use Rattle.node_laws.proofs.NodeModel.Members.{none_some}
use Rattle.machine_model.specs.Setup.{Setup, checked, edited, edited_without}
use Rattle.machine_model.proofs.Changing.{renews}
use Rattle.machine_laws.proofs.Written.{none_broken}
use Rattle.machine_laws.specs.Headline.{IsOfForm, IsWritten}
use Rattle.schedule_script.specs.ConfigCheck.Sentences.{IsValid}

-- an accepted edit of the written form leads to a valid configuration
pub written_edit : (y : Setup) (d : Edit) (z : Setup) → edited y d ≡ Some z → IsOfForm z → IsWritten z
written_edit y d z e form = by_fault (edit_fault (checked y) d) refl e
  where
    by_fault : (o : Option EditFault) → edit_fault (checked y) d ≡ o → edited_without o y d ≡ Some z → IsWritten z
    by_fault (Some f) is h = absurd (none_some z h)
    by_fault None is h = record {
      topology = form.0;
      config = form.1;
      valid = subst (λ (z : Setup). first_broken z.topology z.config ≡ None) (same_Some _ z h) (none_broken y d is);
    }

pub same_asn : (y : Setup) (d : Edit) (z : Setup) → edited y d ≡ Some z → z.topology.asn ≡ y.topology.asn
same_asn y d z e = by_fault (edit_fault (checked y) d) refl e
  where
    by_fault : (o : Option EditFault) → edit_fault (checked y) d ≡ o → edited_without o y d ≡ Some z → z.topology.asn ≡ y.topology.asn
    by_fault None is h = ap (λ (z : Setup). z.topology.asn) (sym (same_Some _ z h)) ∙ (renews (checked y) d is).asn
    by_fault (Some f) is h = absurd (none_some z h)

pub edited_valid : (y : Setup) (d : Edit) (z : Setup) → edited y d ≡ Some z → IsValid z.topology z.config
edited_valid y d z e = by_fault (edit_fault (checked y) d) refl e
  where
    by_fault : (o : Option EditFault) → edit_fault (checked y) d ≡ o → edited_without o y d ≡ Some z → IsValid z.topology z.config
    by_fault (Some f) is h = absurd (none_some z h)
    by_fault None is h = subst (λ (z : Setup). IsValid z.topology z.config) (same_Some _ z h) ((valid_iff (edits.edited_topology d y.topology) (edits.edited_config d y.config)).0 (none_broken y d is))
