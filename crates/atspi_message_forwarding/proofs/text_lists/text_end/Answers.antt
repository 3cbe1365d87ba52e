use Rattle.std.proofs.Common.{ap, sym, length, ◌+◌, ℕ, ◌∙◌}
use Rattle.atspi_marshal.specs.Input.{aligned}
use Rattle.atspi_message.specs.Length.{told}
use Rattle.atspi_message.proofs.Lengths.{text_there}
use Rattle.atspi_message_forwarding.proofs.text_lists.text_end.Goals as goal

pub returns : goal.returns
returns c = λ o place is.
    c.behind-2.ensures _ (c.behind.ensures _ (c.at_four.ensures place is))
    ∙ ap (λ (n : ℕ). told (aligned 4 place + 5 + n)) (ap length c.as_str.ensures.spelled)
    ∙ ap told (sym (text_there o place c.args.text.now))
