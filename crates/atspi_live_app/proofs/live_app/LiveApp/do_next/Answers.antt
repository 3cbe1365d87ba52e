use Rattle.std.proofs.Common.{◌≡◌, [], ◌∷◌, ◌++◌, length, None, sym, subst, rules}
use Rattle.std.specs.Prelude.{Ok, Err}
use Rattle.atspi_live_app.specs.Live.{IsMarked, IsStopped, Stands}
use Rattle.atspi_live_app.specs.Lines.{lines_of}
use Rattle.atspi_live_app.proofs.Lawful.{lawful_as, passes_as}
use Rattle.atspi_live_app.specs.inner.Input.{Passes}
use Rattle.atspi_live_app.proofs.Pacing.{none_proceeds, proceeds}
use Rattle.atspi_live_app.proofs.Stood.{stands_did, stands_passed}
use Rattle.atspi_live_app.proofs.Turning.{stands_as, stands_in, then_of}
use Rattle.atspi_live_app.proofs.Stopped.{stopped_line, stopped_none, stopped_undone}
use Rattle.atspi_live_app.proofs.live_app.LiveApp.do_next.Goals as goal

pub do_ask-requires : goal.do_ask-requires
do_ask-requires g c = record {
  kept = then_of g.A.Application.is_app g.A.Application.exporter g.A.Application.is_kit c.args.self.now.app c.args.self.now.kit c.args.self.now.input.text.items c.args.self.now.input.at c.args.self.now.input.number
      c.requires.aside c.requires.took c.requires.said _ (λ text marks f. f.kept) c.requires.stands;
  numbered = then_of g.A.Application.is_app g.A.Application.exporter g.A.Application.is_kit c.args.self.now.app c.args.self.now.kit c.args.self.now.input.text.items c.args.self.now.input.at c.args.self.now.input.number
      c.requires.aside c.requires.took c.requires.said _ (λ text marks f. f.numbered) c.requires.stands;
  lawful = lawful_as c.in-Some-Ok.field-0 c.in-Some-Ok.ask _ _ _ _ _ c.in-Some-Ok.field-0-is c.in-Some-Ok.ensures.next.1;
}

pub returns-in-Ok-clause-ok : goal.returns-in-Ok-clause-ok
returns-in-Ok-clause-ok g c = λ text marks place took said f.
    let s = stands_in g.A.Application.is_app g.A.Application.exporter g.A.Application.is_kit place marks text c.args.self.now.app c.args.self.now.kit c.args.self.now.input.text.items c.args.self.now.input.at c.args.self.now.input.number took said f in
    let p : Passes (Ok c.in-Some-Ok.ask) c.args.self.now.input.text.items c.args.self.now.input.at c.args.self.now.input.number c.next.new.self.at c.next.new.self.number =
    passes_as c.in-Some-Ok.field-0 (Ok c.in-Some-Ok.ask) _ _ _ _ _ c.in-Some-Ok.field-0-is c.in-Some-Ok.ensures.next.1 in (
      marks ++ length took ∷ [],
      proceeds c.args.self.now.input.text.items text marks c.args.self.now.input.at c.args.self.now.input.number c.next.new.self.at c.next.new.self.number place (length took) c.in-Ok.rounds c.in-Some-Ok.ask s.1.same s.0 p c.in-Ok.ensures.rounds,
      stands_as g.A.Application.is_app g.A.Application.exporter g.A.Application.is_kit c.next.new.self.at (marks ++ length took ∷ []) text c.do_ask.new.app c.do_ask.new.kit c.next.new.self.text.items c.next.new.self.number took said
          (stands_did g.A.Application.is_app g.A.Application.exporter g.A.Application.is_kit text marks c.args.self.now.app c.do_ask.new.app c.args.self.now.kit c.do_ask.new.kit c.args.self.now.input.text.items c.next.new.self.text.items
          c.args.self.now.input.at c.args.self.now.input.number c.next.new.self.at c.next.new.self.number c.in-Some-Ok.ask took said c.in-Ok.ensures.ok.0 c.in-Ok.ensures.numbered c.in-Some-Ok.ensures.next.0 p c.in-Ok.ensures.ok.1 s.1),
    )

pub returns-in-Err-clause-err : goal.returns-in-Err-clause-err
returns-in-Err-clause-err g c = λ text marks place took said f.
    subst (λ s. IsStopped (IsMarked marks) s (lines_of text) took) (sym c.stop_of_undone.ensures)
    (stopped_undone g.A.Application.is_app g.A.Application.exporter g.A.Application.is_kit text marks c.args.self.now.app c.args.self.now.kit c.args.self.now.input.text.items c.args.self.now.input.at c.args.self.now.input.number c.next.new.self.at
    c.next.new.self.number c.in-Err.undone c.in-Some-Ok.ask took said (passes_as c.in-Some-Ok.field-0 (Ok c.in-Some-Ok.ask) _ _ _ _ _ c.in-Some-Ok.field-0-is c.in-Some-Ok.ensures.next.1) c.in-Err.ensures.err
    (stands_in g.A.Application.is_app g.A.Application.exporter g.A.Application.is_kit place marks text c.args.self.now.app c.args.self.now.kit c.args.self.now.input.text.items c.args.self.now.input.at c.args.self.now.input.number took said f).1)

pub returns-in-Some-Err-clause-err : goal.returns-in-Some-Err-clause-err
returns-in-Some-Err-clause-err g c = λ text marks place took said f.
    subst (λ s. IsStopped (IsMarked marks) s (lines_of text) took) (sym c.stop_of_line.ensures)
    (stopped_line g.A.Application.is_app g.A.Application.exporter g.A.Application.is_kit text marks c.args.self.now.app c.args.self.now.kit c.args.self.now.input.text.items c.args.self.now.input.at c.args.self.now.input.number c.next.new.self.at
    c.next.new.self.number c.in-Some-Err.fault took said (passes_as c.in-Some-Err.field-0 (Err c.in-Some-Err.fault) _ _ _ _ _ c.in-Some-Err.field-0-is c.in-Some-Err.ensures.next.1)
    (stands_in g.A.Application.is_app g.A.Application.exporter g.A.Application.is_kit place marks text c.args.self.now.app c.args.self.now.kit c.args.self.now.input.text.items c.args.self.now.input.at c.args.self.now.input.number took said f).1)

pub returns-in-None-clause-ok : goal.returns-in-None-clause-ok
returns-in-None-clause-ok g c = λ text marks place took said f.
    let s = stands_in g.A.Application.is_app g.A.Application.exporter g.A.Application.is_kit place marks text c.args.self.now.app c.args.self.now.kit c.args.self.now.input.text.items c.args.self.now.input.at c.args.self.now.input.number took said f in (
      marks,
      none_proceeds c.args.self.now.input.text.items text marks c.args.self.now.input.at c.next.new.self.at place (length took) s.1.same s.0 c.in-None.ensures.next.1.0 c.in-None.ensures.next.1.1,
      stands_as g.A.Application.is_app g.A.Application.exporter g.A.Application.is_kit c.next.new.self.at marks text c.args.self.now.app c.args.self.now.kit c.next.new.self.text.items c.next.new.self.number took said
          (stands_passed g.A.Application.is_app g.A.Application.exporter g.A.Application.is_kit text marks c.args.self.now.app c.args.self.now.kit c.args.self.now.input.text.items c.next.new.self.text.items c.args.self.now.input.at c.args.self.now.input.number
          c.next.new.self.at c.next.new.self.number took said c.in-None.ensures.next.0 c.in-None.ensures.next.1.1 c.in-None.ensures.next.1.2 s.1),
    )

pub returns-in-None-2-clause-err : goal.returns-in-None-2-clause-err
returns-in-None-2-clause-err g c = λ text marks place took said f.
    let none : c.args.self.now.app ≡ None = search rules in
    stopped_none g.A.Application.is_app g.A.Application.exporter g.A.Application.is_kit text marks c.args.self.now.kit c.args.self.now.input.text.items c.args.self.now.input.at c.args.self.now.input.number c.saturating_add.result took said
    (λ h. search rules) c.in-None.ensures.next.1.0
    (subst (λ a. Stands g.A.Application.is_app g.A.Application.exporter g.A.Application.is_kit text marks a c.args.self.now.kit c.args.self.now.input.text.items c.args.self.now.input.at c.args.self.now.input.number took said) none
    (stands_in g.A.Application.is_app g.A.Application.exporter g.A.Application.is_kit place marks text c.args.self.now.app c.args.self.now.kit c.args.self.now.input.text.items c.args.self.now.input.at c.args.self.now.input.number took said f).1)
