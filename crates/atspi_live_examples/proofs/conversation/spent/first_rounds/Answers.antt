use Rattle.std.proofs.Common.{[], ◌∷◌, refl, sym, inl, inr, ◌∙◌, append-nil, lit<, lit≤}
use Rattle.atspi_live_host.specs.declared.call.Did.TheVariants.{Failed, NotYet}
use Rattle.atspi_live_host.specs.declared.call.Call.TheVariants.{Read, Write}
use Rattle.atspi_live_conversation.specs.Speech.{line_bytes, lines_for}
use Rattle.atspi_live_examples.specs.conversation.Silent.{hail}
use Rattle.atspi_live_examples.proofs.OfConversation.Given.{lines_first, none_first}
use Rattle.atspi_live_examples.proofs.conversation.spent.first_rounds.Goals as goal

pub returns : goal.returns
returns c = record {
  whole = 0;
  done = [];
  last = Read 0 [] NotYet ∷ Write 0 hail Failed ∷ [];
  are = refl;
  ends = (
    lit< tt,
    inr (
      Read 0 [] NotYet ∷ [],
      Write 0 hail Failed ∷ [],
      ([], NotYet, tt, lit≤ tt, refl),
      (
        hail,
        lit< tt,
        lit≤ tt,
        record {
          messages = [];
          rest = [];
          parted = record { are = tt; parted = none_first };
          end = 0;
          said = [];
          stands = (refl, refl, refl);
          sent = [];
          spelled = refl;
          over = inl refl;
          more = [];
          front = append-nil hail ∙ sym lines_first ∙ sym (append-nil (line_bytes (lines_for [])));
        },
        refl,
      ),
      refl,
    ),
  );
  all = refl;
}
