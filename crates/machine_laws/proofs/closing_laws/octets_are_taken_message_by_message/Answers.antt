use Rattle.machine_laws.proofs.Parts.{none_taken, notice_taken, part_kept, whole_taken}
use Rattle.machine_laws.proofs.closing_laws.octets_are_taken_message_by_message.Goals as goal

pub returns-clause-whole : goal.returns-clause-whole
returns-clause-whole c = whole_taken

pub returns-clause-part : goal.returns-clause-part
returns-clause-part c = part_kept

pub returns-clause-notice : goal.returns-clause-notice
returns-clause-notice c = notice_taken

pub returns-clause-none : goal.returns-clause-none
returns-clause-none c = none_taken
