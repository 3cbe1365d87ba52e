use Rattle.atspi_speech.proofs.PlainLemmas.{plain_role}
use Rattle.atspi_due_lines.proofs.subject.push_role.Goals as goal

pub push_word-requires : goal.push_word-requires
push_word-requires c = record { plain = rw c.role_name.ensures (plain_role c.args.role) }
