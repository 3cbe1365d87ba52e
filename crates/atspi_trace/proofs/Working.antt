-- What is left of a line is done in one way.
use Rattle.std.proofs.Common.{◌≡◌, List, [], ◌++◌, refl, sym, ap, ◌∙◌, subst}
use Rattle.atspi_trace.specs.Entry.{Entry}
use Rattle.atspi_trace.specs.World.{World}
use Rattle.atspi_trace.specs.Causes.{Cause, Done, does}
use Rattle.atspi_trace.specs.Work.{Work, cause, rests, next_of}
use Rattle.atspi_trace.specs.Works.{Works, at_rest, caused}
use Rattle.atspi_trace.specs.Laws.{WorksOneWay}

same_rest : (v w : World) → rests v ≡ rests w → v ≡ w
same_rest v w h = cc

same_cause : (c d : Cause) (v w : World) (work left : Work) → cause c v work ≡ cause d w left → (c ≡ d) × (v ≡ w) × (work ≡ left)
same_cause c d v w work left h = (cc, cc, cc)

no_cause : (c : Cause) (v w : World) (work : Work) → cause c v work ≡ rests w → ⊥
no_cause c v w work h = cc

rested : (w x v : World) (work : Work) (fs : List Entry) → next_of w work ≡ rests x → Works w work fs v → ([] ≡ fs) × (x ≡ v)
rested _ x _ _ _ e (at_rest w v work h) = (refl, same_rest x v (sym e ∙ h))
rested _ x _ _ _ e (caused w v u work left c more h k) = absurd (no_cause c v x left (sym h ∙ e))

went_on : (w x u v : World) (work left : Work) (c : Cause) (es fs : List Entry) → next_of w work ≡ cause c x left
    → ((z : World) (gs : List Entry) → Works (does x c).world left gs z → (es ≡ gs) × (u ≡ z)) → Works w work fs v → ((does x c).entries ++ es ≡ fs) × (u ≡ v)
went_on _ x u _ _ left c es _ e rest (at_rest w v work h) = absurd (no_cause c x v left (sym e ∙ h))
went_on _ x u _ _ left c es _ e rest (caused w y z work other d more h k) =
    let same = same_cause d c y x other left (sym h ∙ e) in
    let done : does y d ≡ does x c = ap (does y) same.0 ∙ ap (λ a. does a c) same.1 in
    let r = rest z more (subst (λ l. Works (does x c).world l more z) same.2 (subst (λ a. Works a other more z) (ap (λ (a : Done). a.world) done) k)) in
    (ap (λ l. (does x c).entries ++ l) r.0 ∙ ap (λ (a : Done). a.entries ++ more) (sym done), r.1)

pub one_way : WorksOneWay
one_way _ _ v _ _ fs (at_rest w x work e) k = rested w x v work fs e k
one_way _ _ v _ _ fs (caused w x u work left c es e h) k = went_on w x u v work left c es fs e (λ z gs. one_way (does x c).world u z left es gs h) k
