-- The states of accessible objects (AT-SPI2, enumeration AtspiStateType, with this project's profile of names).
use Rattle.std.specs.Prelude.{ℕ, List, [], ◌∷◌, codes}

-- the names, by bit from 0
unfoldable pub state_names : List (List ℕ)
state_names =
    codes "invalid" ∷ codes "active" ∷ codes "armed" ∷ codes "busy" ∷ codes "checked" ∷ codes "collapsed" ∷
    codes "defunct" ∷ codes "editable" ∷ codes "enabled" ∷ codes "expandable" ∷ codes "expanded" ∷
    codes "focusable" ∷ codes "focused" ∷ codes "has-tooltip" ∷ codes "horizontal" ∷ codes "iconified" ∷
    codes "modal" ∷ codes "multi-line" ∷ codes "multiselectable" ∷ codes "opaque" ∷ codes "pressed" ∷
    codes "resizable" ∷ codes "selectable" ∷ codes "selected" ∷ codes "sensitive" ∷ codes "showing" ∷
    codes "single-line" ∷ codes "stale" ∷ codes "transient" ∷ codes "vertical" ∷ codes "visible" ∷
    codes "manages-descendants" ∷ codes "indeterminate" ∷ codes "required" ∷ codes "truncated" ∷
    codes "animated" ∷ codes "invalid-entry" ∷ codes "supports-autocompletion" ∷ codes "selectable-text" ∷
    codes "is-default" ∷ codes "visited" ∷ codes "checkable" ∷ codes "has-popup" ∷ codes "read-only" ∷ []
