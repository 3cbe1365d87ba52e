-- Words and lines written one behind the other.
use Rattle.std.proofs.Common.{◌≡◌, ℕ, ◌+◌, ◌<◌, List, [], ◌∷◌, ◌++◌, length, get_or, map, take, sym, ap, ◌∙◌, refl, append_assoc}
use Rattle.std.proofs.lemmas.List.{append-nil, map-append, take_more}
use Rattle.std.proofs.lemmas.Grind.{flat_map-append}
use Rattle.std.specs.Fmt.{decimal}
use Rattle.std.specs.List.{flat_map}
use Rattle.std.specs.Prelude.{codes}
use Rattle.atspi_base.specs.Quoted.{quoted}
use Rattle.atspi_script_lines.specs.Words.{Word, literal, quote}
use Rattle.atspi_script_lines.specs.Forms.{action_clauses}
use Rattle.atspi_trace_events.specs.declared.shown.ShownRow.{ShownRow}
use Rattle.atspi_trace_texts.specs.EventText.{ended}
use Rattle.atspi_trace_texts.specs.Laws.{EventsShowRows}
use Rattle.atspi_trace_texts.specs.Rows.{row_line}
use Rattle.atspi_trace_texts.specs.Written.{word_behind, words_behind}

-- words behind others
pub words_joined : (ws vs : List Word) → words_behind (ws ++ vs) ≡ words_behind ws ++ words_behind vs
words_joined ws vs = flat_map-append word_behind ws vs

regroup : (a w x y : List ℕ) → ((a ++ w) ++ x) ++ y ≡ a ++ (w ++ (x ++ (y ++ [])))
regroup a w x y = append_assoc (a ++ w) x y ∙ append_assoc a w (x ++ y) ∙ ap (λ l. a ++ (w ++ (x ++ l))) (sym (append-nil y))

-- one item more
one_more : {X : Type 0} (xs : List X) (i : ℕ) (x : X) → i < length xs → x ≡ get_or xs i x → take (i + 1) xs ≡ take i xs ++ x ∷ []
one_more xs i x within at = take_more xs i x within ∙ ap (λ y. take i xs ++ y ∷ []) (sym at)

-- one action more
one_action : (names : List (List ℕ)) (name : List ℕ) → action_clauses (names ++ name ∷ []) ≡ action_clauses names ++ (literal (codes "action") ∷ quote name ∷ [])
one_action [] name = refl
one_action (other ∷ names) name = ap (λ ws. literal (codes "action") ∷ quote other ∷ ws) (one_action names name)

pub action_written : (names : List (List ℕ)) (i : ℕ) (name initial out middle new : List ℕ) → i < length names → name ≡ get_or names i name
    → out ≡ initial ++ words_behind (action_clauses (take i names)) → middle ≡ out ++ codes " action" → new ≡ middle ++ 32 ∷ quoted name
    → new ≡ initial ++ words_behind (action_clauses (take (i + 1) names))
action_written names i name initial out middle new within at before word text =
    let done = words_behind (action_clauses (take i names)) in
    let more : words_behind (action_clauses (take (i + 1) names)) ≡ done ++ words_behind (literal (codes "action") ∷ quote name ∷ []) =
    ap (λ l. words_behind (action_clauses l)) (one_more names i name within at)
    ∙ ap words_behind (one_action (take i names) name)
    ∙ words_joined (action_clauses (take i names)) (literal (codes "action") ∷ quote name ∷ []) in
    text
    ∙ ap (λ l. l ++ 32 ∷ quoted name) (word ∙ ap (λ l. l ++ codes " action") before)
    ∙ regroup initial done (codes " action") (32 ∷ quoted name)
    ∙ ap (λ l. initial ++ l) (sym more)

-- one row more
pub row_written : (rows : List ShownRow) (i : ℕ) (row : ShownRow) (initial out middle new : List ℕ) → i < length rows → row ≡ get_or rows i row
    → out ≡ initial ++ flat_map ended (map row_line (take i rows)) → middle ≡ out ++ row_line row → new ≡ middle ++ 10 ∷ []
    → new ≡ initial ++ flat_map ended (map row_line (take (i + 1) rows))
row_written rows i row initial out middle new within at before line feed =
    let done = flat_map ended (map row_line (take i rows)) in
    let more : flat_map ended (map row_line (take (i + 1) rows)) ≡ done ++ (ended (row_line row) ++ []) =
    ap (λ l. flat_map ended (map row_line l)) (one_more rows i row within at)
    ∙ ap (flat_map ended) (map-append row_line (take i rows) (row ∷ []))
    ∙ flat_map-append ended (map row_line (take i rows)) (row_line row ∷ []) in
    feed
    ∙ ap (λ l. l ++ 10 ∷ []) (line ∙ ap (λ l. l ++ row_line row) before)
    ∙ append_assoc (initial ++ done) (row_line row) (10 ∷ [])
    ∙ append_assoc initial done (ended (row_line row))
    ∙ ap (λ l. initial ++ (done ++ l)) (sym (append-nil (ended (row_line row))))
    ∙ ap (λ l. initial ++ l) (sym more)

-- words of a line whose last one is a count, the line feed, and other lines
behind_words : (a b c count feed lines : List ℕ) → (((a ++ (b ++ (c ++ (count ++ [])))) ++ []) ++ feed) ++ lines ≡ (a ++ (b ++ (c ++ []))) ++ ((count ++ feed) ++ lines)
behind_words a b c count feed lines = simp (append_assoc, append-nil)

-- the rows of an event of showing stand behind its names
pub shown_behind_names : EventsShowRows
shown_behind_names reader app rows =
    behind_words (codes "show") (32 ∷ 114 ∷ decimal reader) (32 ∷ 97 ∷ decimal app) (32 ∷ decimal (length rows)) (10 ∷ []) (flat_map ended (map row_line rows))
