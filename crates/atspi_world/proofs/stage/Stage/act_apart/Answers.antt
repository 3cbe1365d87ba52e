use Rattle.std.proofs.Common.{Some, ap, ◌∙◌, length, sym}
use Rattle.std.proofs.lemmas.List.{length-map}
use Rattle.std.proofs.lemmas.Option.{same_Some}
use Rattle.std.proofs.lemmas.Result.{on_ok_weaker}
use Rattle.atspi_world_parties.specs.Refusals.{refusal_of}
use Rattle.atspi_world.proofs.Outcomes.{first_refused, not_first, same_why, refuses_of}
use Rattle.atspi_world.proofs.stage.Stage.act_apart.Goals as goal

pub returns-in-Some-clause-refused : goal.returns-in-Some-clause-refused
returns-in-Some-clause-refused g c = λ why is p playing.
    let s = c.args.self.now in
    first_refused c.args.line.now _ (length s.cast.apps.items) (length s.cast.readers.items) (sym (length-map s.cast.apps.items g.A.Application.exporter)) (sym (length-map s.cast.readers.items g.R.Follower.follower))
    c.in-Some.why c.in-Some.ensures.exact p playing ∙ ap (λ y. Some (refusal_of y)) (same_why c.in-Some.why why is)

pub returns-in-Some-clause-refuses : goal.returns-in-Some-clause-refuses
returns-in-Some-clause-refuses g c = λ p due is h.
    let s = c.args.self.now in
    same_Some _ due (sym (first_refused c.args.line.now _ (length s.cast.apps.items) (length s.cast.readers.items) (sym (length-map s.cast.apps.items g.A.Application.exporter))
    (sym (length-map s.cast.readers.items g.R.Follower.follower)) c.in-Some.why c.in-Some.ensures.exact p is) ∙ h)

pub returns-in-None-clause-does : goal.returns-in-None-clause-does
returns-in-None-clause-does g c =
    let s = c.args.self.now in
    on_ok_weaker c.carry_out.result (λ done p is. done p is
    (not_first c.args.line.now _ (length s.cast.apps.items) (length s.cast.readers.items) (sym (length-map s.cast.apps.items g.A.Application.exporter)) (sym (length-map s.cast.readers.items g.R.Follower.follower))
    c.in-None.ensures.exact p is)) c.carry_out.ensures.does

pub returns-in-None-clause-refused : goal.returns-in-None-clause-refused
returns-in-None-clause-refused g c = λ why is p playing.
    let s = c.args.self.now in
    c.carry_out.ensures.refused why is p playing
    (not_first c.args.line.now _ (length s.cast.apps.items) (length s.cast.readers.items) (sym (length-map s.cast.apps.items g.A.Application.exporter)) (sym (length-map s.cast.readers.items g.R.Follower.follower))
    c.in-None.ensures.exact p playing)

pub returns-in-None-clause-refuses : goal.returns-in-None-clause-refuses
returns-in-None-clause-refuses g c =
    let s = c.args.self.now in
    let free = not_first c.args.line.now _ (length s.cast.apps.items) (length s.cast.readers.items) (sym (length-map s.cast.apps.items g.A.Application.exporter))
    (sym (length-map s.cast.readers.items g.R.Follower.follower)) c.in-None.ensures.exact in
    refuses_of c.carry_out.result c.args.line.now _ _ (on_ok_weaker c.carry_out.result (λ done p is. done p is (free p is)) c.carry_out.ensures.does) (λ why is p playing. c.carry_out.ensures.refused why is p playing (free p playing))

pub returns-in-None-clause-lost : goal.returns-in-None-clause-lost
returns-in-None-clause-lost g c = λ is p playing.
    let s = c.args.self.now in
    c.carry_out.ensures.lost is p playing
    (not_first c.args.line.now _ (length s.cast.apps.items) (length s.cast.readers.items) (sym (length-map s.cast.apps.items g.A.Application.exporter)) (sym (length-map s.cast.readers.items g.R.Follower.follower))
    c.in-None.ensures.exact p playing)

pub returns-in-None-clause-spent : goal.returns-in-None-clause-spent
returns-in-None-clause-spent g c = λ is p playing.
    let s = c.args.self.now in
    c.carry_out.ensures.spent is p playing
    (not_first c.args.line.now _ (length s.cast.apps.items) (length s.cast.readers.items) (sym (length-map s.cast.apps.items g.A.Application.exporter)) (sym (length-map s.cast.readers.items g.R.Follower.follower))
    c.in-None.ensures.exact p playing)
