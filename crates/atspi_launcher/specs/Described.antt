-- The text that describes the launcher's object (D-Bus Specification, "Introspection Data Format").
use Rattle.std.specs.Prelude.{ℕ, List, ◌++◌, codes}

abbrev pub description : List ℕ
description =
    codes "<node><interface name=\"org.a11y.Bus\">"
    ++ (codes "<method name=\"GetAddress\"><arg type=\"s\" direction=\"out\"/></method>"
    ++ (codes "</interface><interface name=\"org.a11y.Status\">"
    ++ (codes "<property name=\"IsEnabled\" type=\"b\" access=\"readwrite\"/>"
    ++ (codes "<property name=\"ScreenReaderEnabled\" type=\"b\" access=\"readwrite\"/>"
    ++ codes "</interface></node>"))))
