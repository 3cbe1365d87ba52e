-- The names of the interfaces that accessible objects have (AT-SPI2's interface files; D-Bus Specification, "Standard
-- Interfaces").
use Rattle.std.specs.Prelude.{ℕ, List, codes}

abbrev pub accessible : List ℕ
accessible = codes "org.a11y.atspi.Accessible"

abbrev pub application : List ℕ
application = codes "org.a11y.atspi.Application"

abbrev pub cache : List ℕ
cache = codes "org.a11y.atspi.Cache"

abbrev pub text : List ℕ
text = codes "org.a11y.atspi.Text"

abbrev pub editable_text : List ℕ
editable_text = codes "org.a11y.atspi.EditableText"

abbrev pub selection : List ℕ
selection = codes "org.a11y.atspi.Selection"

abbrev pub table : List ℕ
table = codes "org.a11y.atspi.Table"

abbrev pub action : List ℕ
action = codes "org.a11y.atspi.Action"

abbrev pub registry : List ℕ
registry = codes "org.a11y.atspi.Registry"

abbrev pub socket : List ℕ
socket = codes "org.a11y.atspi.Socket"

abbrev pub properties : List ℕ
properties = codes "org.freedesktop.DBus.Properties"

abbrev pub peer : List ℕ
peer = codes "org.freedesktop.DBus.Peer"
