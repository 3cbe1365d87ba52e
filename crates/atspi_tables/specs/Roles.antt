-- The roles of accessible objects (AT-SPI2, enumeration AtspiRole, with this project's profile of names).
use Rattle.std.specs.Prelude.{ℕ, ◌==◌, List, [], ◌∷◌, map, codes, if◌then◌else◌}

-- the spoken names, by number from 0
unfoldable pub role_names : List (List ℕ)
role_names =
    codes "invalid" ∷ codes "accelerator label" ∷ codes "alert" ∷ codes "animation" ∷ codes "arrow" ∷
    codes "calendar" ∷ codes "canvas" ∷ codes "check box" ∷ codes "check menu item" ∷ codes "color chooser" ∷
    codes "column header" ∷ codes "combo box" ∷ codes "date editor" ∷ codes "desktop icon" ∷
    codes "desktop frame" ∷ codes "dial" ∷ codes "dialog" ∷ codes "directory pane" ∷ codes "drawing area" ∷
    codes "file chooser" ∷ codes "filler" ∷ codes "focus traversable" ∷ codes "font chooser" ∷ codes "frame" ∷
    codes "glass pane" ∷ codes "html container" ∷ codes "icon" ∷ codes "image" ∷ codes "internal frame" ∷
    codes "label" ∷ codes "layered pane" ∷ codes "list" ∷ codes "list item" ∷ codes "menu" ∷ codes "menu bar" ∷
    codes "menu item" ∷ codes "option pane" ∷ codes "page tab" ∷ codes "page tab list" ∷ codes "panel" ∷
    codes "password text" ∷ codes "popup menu" ∷ codes "progress bar" ∷ codes "push button" ∷
    codes "radio button" ∷ codes "radio menu item" ∷ codes "root pane" ∷ codes "row header" ∷
    codes "scroll bar" ∷ codes "scroll pane" ∷ codes "separator" ∷ codes "slider" ∷ codes "spin button" ∷
    codes "split pane" ∷ codes "status bar" ∷ codes "table" ∷ codes "table cell" ∷ codes "table column header" ∷
    codes "table row header" ∷ codes "tearoff menu item" ∷ codes "terminal" ∷ codes "text" ∷
    codes "toggle button" ∷ codes "tool bar" ∷ codes "tool tip" ∷ codes "tree" ∷ codes "tree table" ∷
    codes "unknown" ∷ codes "viewport" ∷ codes "window" ∷ codes "extended" ∷ codes "header" ∷ codes "footer" ∷
    codes "paragraph" ∷ codes "ruler" ∷ codes "application" ∷ codes "autocomplete" ∷ codes "editbar" ∷
    codes "embedded" ∷ codes "entry" ∷ codes "chart" ∷ codes "caption" ∷ codes "document frame" ∷
    codes "heading" ∷ codes "page" ∷ codes "section" ∷ codes "redundant object" ∷ codes "form" ∷ codes "link" ∷
    codes "input method window" ∷ codes "table row" ∷ codes "tree item" ∷ codes "document spreadsheet" ∷
    codes "document presentation" ∷ codes "document text" ∷ codes "document web" ∷ codes "document email" ∷
    codes "comment" ∷ codes "list box" ∷ codes "grouping" ∷ codes "image map" ∷ codes "notification" ∷
    codes "info bar" ∷ codes "level bar" ∷ codes "title bar" ∷ codes "block quote" ∷ codes "audio" ∷
    codes "video" ∷ codes "definition" ∷ codes "article" ∷ codes "landmark" ∷ codes "log" ∷ codes "marquee" ∷
    codes "math" ∷ codes "rating" ∷ codes "timer" ∷ codes "static" ∷ []

-- a dash in place of each space
abbrev pub dashed : List ℕ → List ℕ
dashed name = map (λ c. if c == 32 then 45 else c) name

-- the words for roles in scripts, by number from 0
unfoldable pub role_words : List (List ℕ)
role_words = map dashed role_names
