use Rattle.std.proofs.Common.{[]}
use Rattle.atspi_live_conversation.proofs.LeftLemmas.{hear_left, tell_left}
use Rattle.atspi_live_conversation.proofs.SentLemmas.{may_attend}
use Rattle.atspi_live_conversation.proofs.StepLemmas.{hear_breaks, hears_own, heeded, if_err, on_ok, tell_breaks, tells_own}
use Rattle.atspi_live_conversation.proofs.TalkLemmas.{heard_on}
use Rattle.atspi_live_conversation.proofs.conversation.Conversation.heed.Goals as goal

pub returns-in-Err-clause-err : goal.returns-in-Err-clause-err
returns-in-Err-clause-err g c aside t h v =
    hear_breaks (g.E.BusEnd.Stands aside) g.E.BusEnd.IsSpent t h c.args.piece.now c.args.self.now c.args.end.now c.in-Err.ending v c.in-Err.ensures.err

pub returns-clause-ok : goal.returns-clause-ok
returns-clause-ok g c =
    on_ok c.tell.result _ _
    (λ a aside t h v. heeded (g.E.BusEnd.Stands aside) t h c.args.piece.now c.args.self.now c.hear.new.self c.tell.new.self c.args.end.now c.tell.new.end v
    c.in_default.ensures.client c.in_default.ensures.feeder c.in_default.ensures.heard c.in_default.ensures.unsent c.in_default.ensures.no_fault
    (a aside) c.tell.ensures.client c.tell.ensures.unsent c.tell.ensures.heard)
    c.tell.ensures.ok

pub returns-clause-may : goal.returns-clause-may
returns-clause-may g c =
    on_ok c.tell.result _ _ (λ a. may_attend g.E.BusEnd.Stands c.hear.new.self.feeder c.tell.new.self.feeder c.args.end.now c.tell.new.end c.requires.may (λ aside. (a aside).attends)) c.tell.ensures.ok

pub returns-clause-err : goal.returns-clause-err
returns-clause-err g c =
    if_err c.tell.result _ _
    (λ ending b aside t h v. tell_breaks (g.E.BusEnd.Stands aside) g.E.BusEnd.IsSpent _ h c.hear.new.self c.args.end.now c.tell.new.end ending
    (heard_on (g.E.BusEnd.Stands aside) t h c.args.piece.now c.args.self.now c.hear.new.self c.args.end.now v c.in_default.ensures.client c.in_default.ensures.feeder c.in_default.ensures.heard c.in_default.ensures.unsent) (b aside))
    c.tell.ensures.err

pub returns-in-Err-clause-own : goal.returns-in-Err-clause-own
returns-in-Err-clause-own g c = hears_own c.in-Err.ending c.args.self.now.client c.args.piece.now c.in-Err.ensures.err

pub returns-clause-own : goal.returns-clause-own
returns-clause-own g c = if_err c.tell.result _ _ (λ ending b. tells_own (g.E.BusEnd.Stands []) g.E.BusEnd.IsSpent ending c.hear.new.self c.args.end.now c.tell.new.end (b [])) c.tell.ensures.err

pub returns-in-Err-clause-left : goal.returns-in-Err-clause-left
returns-in-Err-clause-left g c aside t h a =
    hear_left (g.E.BusEnd.Stands aside) g.E.BusEnd.IsSpent t h c.args.piece.now c.args.self.now c.args.end.now c.in-Err.ending a.converses c.in-Err.ensures.err

pub returns-clause-left : goal.returns-clause-left
returns-clause-left g c =
    if_err c.tell.result _ _
    (λ ending b aside t h a. tell_left (g.E.BusEnd.Stands aside) g.E.BusEnd.IsSpent _ h c.hear.new.self c.args.end.now c.tell.new.end ending
    (heard_on (g.E.BusEnd.Stands aside) t h c.args.piece.now c.args.self.now c.hear.new.self c.args.end.now a.converses c.in_default.ensures.client c.in_default.ensures.feeder c.in_default.ensures.heard c.in_default.ensures.unsent) (b aside))
    c.tell.ensures.err
