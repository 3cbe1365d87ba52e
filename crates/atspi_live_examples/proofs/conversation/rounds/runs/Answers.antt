use Rattle.std.proofs.Common.{[], ◌∷◌, refl, sym, inr, ◌∙◌, append-nil, lit<, lit≤}
use Rattle.atspi_live_host.specs.declared.call.Did.TheVariants.{Done, NotYet, End, Failed}
use Rattle.atspi_live_host.specs.declared.call.Call.TheVariants.{Read, Write}
use Rattle.atspi_live_examples.specs.conversation.Silent.{hail}
use Rattle.atspi_live_examples.proofs.OfConversation.Given.{first_round, lines_first, none_first, said, second_round}
use Rattle.atspi_live_examples.proofs.conversation.rounds.runs.Goals as goal

pub returns-clause-two : goal.returns-clause-two
returns-clause-two c = (
  Read 0 [] NotYet ∷ Write 0 hail (Done 16) ∷ [],
  Read 0 [] NotYet ∷ [],
  ([], Read 0 [] NotYet ∷ Write 0 hail (Done 16) ∷ [], refl, first_round, refl),
  second_round,
  refl,
)

pub returns-clause-ended : goal.returns-clause-ended
returns-clause-ended c = record {
  whole = 2;
  done = Read 0 [] NotYet ∷ Write 0 hail (Done 16) ∷ Read 0 [] NotYet ∷ [];
  last = Read 0 [] End ∷ [];
  are = (
    Read 0 [] NotYet ∷ Write 0 hail (Done 16) ∷ [],
    Read 0 [] NotYet ∷ [],
    ([], Read 0 [] NotYet ∷ Write 0 hail (Done 16) ∷ [], refl, first_round, refl),
    second_round,
    refl,
  );
  ends = (lit< tt, refl);
  all = refl;
}

pub returns-clause-failed : goal.returns-clause-failed
returns-clause-failed c = inr (
  Read 0 [] NotYet ∷ [],
  Write 0 hail Failed ∷ [],
  ([], NotYet, tt, lit≤ tt, refl),
  (hail, lit< tt, lit≤ tt, said [] hail [] none_first (append-nil hail ∙ sym lines_first), refl),
  refl,
)

pub returns-clause-none_done : goal.returns-clause-none_done
returns-clause-none_done c = record { whole = 0; done = []; last = []; are = refl; ends = (refl, refl); all = refl }
