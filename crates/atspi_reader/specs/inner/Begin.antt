-- The calls of the start, in parts.
use Rattle.std.specs.Prelude.{List, [], ◌∷◌, codes}
use Rattle.atspi_protocol.specs.declared.following.question.Question.{Question}
use Rattle.atspi_protocol.specs.declared.following.question.Question.TheVariants.{AddMatch, RegisterEvent}

abbrev pub rules : List Question
rules =
    AddMatch (codes "type='signal',interface='org.freedesktop.DBus',member='NameOwnerChanged'")
    ∷ (AddMatch (codes "type='signal',interface='org.a11y.atspi.Cache'")
    ∷ (AddMatch (codes "type='signal',interface='org.a11y.atspi.Event.Object'")
    ∷ []))

abbrev pub patterns : List Question
patterns =
    RegisterEvent (codes "object:children-changed")
    ∷ (RegisterEvent (codes "object:property-change")
    ∷ (RegisterEvent (codes "object:state-changed")
    ∷ (RegisterEvent (codes "object:text-changed")
    ∷ (RegisterEvent (codes "object:text-caret-moved")
    ∷ []))))
