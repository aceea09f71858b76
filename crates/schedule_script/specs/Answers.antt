-- What is said of answers where ties are kept.
use Rattle.std.specs.Prelude.{⊤}
use Rattle.config_types.specs.declared.event.Event.{Event}
use Rattle.config_types.specs.declared.event.Event.TheVariants.{Edit}
use Rattle.schedule_script.specs.declared.answer.Answer.{Answer}
use Rattle.schedule_script.specs.declared.tied_answer.TiedAnswer.{TiedAnswer}
use Rattle.schedule_script.specs.declared.tied_answer.TiedAnswer.TheVariants.{Answered, EditTied}

abbrev pub IsEdit : Event → Type 0
IsEdit (Edit e) = ⊤
IsEdit _ = ⊥

-- a fact of what the network answers to an event. To an edit there may be no such answer, where it would break a tie; to
-- every other event there is one
abbrev pub OfAnswer : (Answer → Type 0) → Event → TiedAnswer → Type 0
OfAnswer Fact event (Answered a) = Fact a
OfAnswer Fact event (EditTied tie) = IsEdit event
