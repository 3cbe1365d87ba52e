-- The line of an event, with what follows it, is one event's.
use Rattle.std.proofs.Common.{◌≡◌, ℕ, ◌+◌, ◌*◌, ◌<◌, ◌^◌, true, List, [], ◌∷◌, ◌++◌, length, map, get_or, Option, None, Some, IfSome, refl, sym, ap, subst, ◌∙◌, arith}
use Rattle.std.specs.Prelude.{codes}
use Rattle.std.proofs.lemmas.Bool.{false≢true}
use Rattle.std.proofs.lemmas.List.{append-nil}
use Rattle.std.specs.Char.{is_ascii_digit}
use Rattle.std.specs.Fmt.{decimal}
use Rattle.std.specs.List.{AllByRecursion}
use Rattle.hex.specs.Hex.{IsBytes, decode_of, encode_lower}
use Rattle.hex.proofs.HexLemmas.{decode_of-encode_lower}
use Rattle.hex.specs.declared.error.FromHexError.{FromHexError}
use Rattle.std.specs.Prelude.{Result, Ok}
use Rattle.atspi_base.specs.valid_names.Names.{IsBusName}
use Rattle.atspi_message.specs.Envelope.{Envelope, envelope_of}
use Rattle.atspi_message.specs.Bytes.{IsMessage, written}
use Rattle.atspi_message.specs.Front.{input_in}
use Rattle.atspi_message.proofs.IsSpelled.{message_complete}
use Rattle.atspi_message.proofs.ParsingLaws.{read_once}
use Rattle.atspi_message.proofs.ReadingLaws.{read_laws}
use Rattle.atspi_message.proofs.Rising.{written_is}
use Rattle.atspi_script_lines.specs.declared.limits.TheConstants.{READER_COUNT}
use Rattle.atspi_script_lines.specs.declared.line.Party.{Party}
use Rattle.atspi_script_lines.specs.declared.line.Party.TheVariants.{Bus, Registry, App, Reader}
use Rattle.atspi_script_lines.specs.Words.{Word, literal, number, app_name, reader_name, quote, Leads, SpellsWords}
use Rattle.atspi_script_lines.specs.inner.Reading.{HasNoSpace, first_word, other_words}
use Rattle.atspi_script_lines.proofs.SpaceLemmas.{tested_no_space}
use Rattle.atspi_script_lines.proofs.NumberLemmas.{digits_begin, number_once}
use Rattle.atspi_script_lines.proofs.FormLemmas.{HasFirst}
use Rattle.atspi_script_lines.proofs.LeadLemmas.{lead_once, not_both, words_once}
use Rattle.atspi_trace_events.specs.declared.event.Event.{Event}
use Rattle.atspi_trace_events.specs.declared.event.Event.TheVariants.{Start, Step as Stepped, Sent, Got, Hears, Deaf, Say, Show, Exit, Gone, Dropped, Busy, Quiet}
use Rattle.atspi_trace_events.specs.declared.shown.ShownRow.{ShownRow}
use Rattle.atspi_trace_texts.specs.Written.{party_text, words_behind}
use Rattle.atspi_trace_texts.specs.EventForms.{count_text, end_word, event_form, name_words, step_form}
use Rattle.atspi_trace_texts.specs.EventText.{event_line, message_part}
use Rattle.atspi_trace_texts.specs.Rows.{row_line}
use Rattle.atspi_trace_texts.specs.TraceText.{wire_line}
use Rattle.atspi_trace_texts.specs.InTrace.{AreShown, IsEnd, IsEvent, IsWord, IsWritable}
use Rattle.atspi_trace_texts.specs.Laws.{IsSame}
use Rattle.atspi_trace_texts.proofs.Lacks.{Lacks, decimal_lacks, no_space}
use Rattle.atspi_trace_texts.proofs.NameLacks.{bus_name_lacks, strange_space}
use Rattle.atspi_trace_texts.proofs.Led.{heads_once, words_led, words_spelled}
use Rattle.atspi_trace_texts.proofs.StepOnce.{whole_step_once}
use Rattle.atspi_trace_texts.proofs.RowOnce.{rows_once}

abbrev code_of : List ℕ → ℕ
code_of [] = 0
code_of (b ∷ bytes) = b + 2 * code_of bytes

-- parties
pub party_lacks : (x : ℕ) (who : Party) → x < 45 → Lacks x (party_text who)
party_lacks x Bus small = (λ e. omega (arith, e), (λ e. omega (arith, e), (λ e. omega (arith, e), tt)))
party_lacks x Registry small = (λ e. omega (arith, e), (λ e. omega (arith, e), (λ e. omega (arith, e), tt)))
party_lacks x (App a) small = (λ e. omega (arith, e), decimal_lacks x a small)
party_lacks x (Reader r) small = (λ e. omega (arith, e), decimal_lacks x r small)

party_free : (who : Party) → HasNoSpace (party_text who)
party_free who = no_space (party_text who) (party_lacks 32 who (omega arith))

first_byte : (a b : List ℕ) → a ≡ b → get_or a 0 0 ≡ get_or b 0 0
first_byte a b e = ap (λ (l : List ℕ). get_or l 0 0) e

no_reg : (r : ℕ) → r < READER_COUNT → codes "reg" ≡ 114 ∷ decimal r → ⊥
no_reg r small e =
    let d : decimal r ≡ 101 ∷ 103 ∷ [] = cc in
    false≢true (subst (λ w. is_ascii_digit (get_or w 0 0) ≡ true) d (digits_begin r (omega (arith, small))))

end_once : (a b : Party) → IsEnd a → IsEnd b → party_text a ≡ party_text b → a ≡ b
end_once Bus Bus p q e = refl
end_once Registry Registry p q e = refl
end_once (App a) (App b) p q e = let d : decimal a ≡ decimal b = cc in ap App (number_once a b (omega (arith, p)) (omega (arith, q)) d)
end_once (Reader a) (Reader b) p q e = let d : decimal a ≡ decimal b = cc in ap Reader (number_once a b (omega (arith, p)) (omega (arith, q)) d)
end_once Registry (Reader b) p q e = absurd (no_reg b q e)
end_once (Reader a) Registry p q e = absurd (no_reg a p (sym e))
end_once Bus Registry p q e = absurd (omega (arith, first_byte (party_text Bus) (party_text Registry) e))
end_once Bus (App b) p q e = absurd (omega (arith, first_byte (party_text Bus) (party_text (App b)) e))
end_once Bus (Reader b) p q e = absurd (omega (arith, first_byte (party_text Bus) (party_text (Reader b)) e))
end_once Registry Bus p q e = absurd (omega (arith, first_byte (party_text Registry) (party_text Bus) e))
end_once Registry (App b) p q e = absurd (omega (arith, first_byte (party_text Registry) (party_text (App b)) e))
end_once (App a) Bus p q e = absurd (omega (arith, first_byte (party_text (App a)) (party_text Bus) e))
end_once (App a) Registry p q e = absurd (omega (arith, first_byte (party_text (App a)) (party_text Registry) e))
end_once (App a) (Reader b) p q e = absurd (omega (arith, first_byte (party_text (App a)) (party_text (Reader b)) e))
end_once (Reader a) Bus p q e = absurd (omega (arith, first_byte (party_text (Reader a)) (party_text Bus) e))
end_once (Reader a) (App b) p q e = absurd (omega (arith, first_byte (party_text (Reader a)) (party_text (App b)) e))

-- messages
pub message_once : (e d : Envelope) → IsWritable e → IsWritable d → written e ≡ written d → e ≡ d
message_once e d p q same =
    let bytes = written e in
    let laws = read_laws (input_in bytes) p.bytes in
    let a = message_complete bytes e laws (written_is e p.meets p.named p.fits) in
    let b = message_complete bytes d laws (subst (IsMessage d) (sym same) (written_is d q.meets q.named q.fits)) in
    read_once bytes e d a.found b.found e.body d.body a.read_ b.read_ a.describes b.describes

same_value : {A E : Type 0} (a b : A) → ◌≡◌ {A = Result A E} (Ok a) (Ok b) → a ≡ b
same_value a b e = cc

hex_line_once : (a b : List ℕ) → IsBytes a → IsBytes b → wire_line a ≡ wire_line b → a ≡ b
hex_line_once a b p q e =
    let h : encode_lower a ≡ encode_lower b = cc in
    same_value {E = FromHexError} a b (sym (decode_of-encode_lower a p) ∙ ap decode_of h ∙ decode_of-encode_lower b q)

-- counts of rows
count_free : (rows : Option (List ShownRow)) → HasNoSpace (count_text rows)
count_free None = tested_no_space (codes "none") refl
count_free (Some rows) = no_space (decimal (length rows)) (decimal_lacks 32 (length rows) (omega arith))

no_count : (n : ℕ) → n < 2 ^ 32 → codes "none" ≡ decimal n → ⊥
no_count n small e = false≢true (subst (λ w. is_ascii_digit (get_or w 0 0) ≡ true) (sym e) (digits_begin n small))

shown_once : (a b : Option (List ShownRow)) → IfSome a AreShown → IfSome b AreShown → count_text a ≡ count_text b
    → ((xs ys : List ShownRow) → a ≡ Some xs → b ≡ Some ys → map row_line xs ≡ map row_line ys) → a ≡ b
shown_once None None p q e rows = refl
shown_once None (Some ys) p q e rows = absurd (no_count (length ys) q.counted e)
shown_once (Some xs) None p q e rows = absurd (no_count (length xs) p.counted (sym e))
shown_once (Some xs) (Some ys) p q e rows = ap (λ l. Some l) (rows_once xs ys p.each q.each (rows xs ys refl refl))

-- the first word of each event
pub event_first : (e : Event) → HasFirst (event_form e)
event_first (Start who name) = record { splits = refl; free = tested_no_space (codes "start") refl }
event_first (Stepped app step) = record { splits = refl; free = tested_no_space (codes "step") refl }
event_first (Sent who m) = record { splits = refl; free = tested_no_space (codes "sent") refl }
event_first (Got x y s) = record { splits = refl; free = tested_no_space (codes "got") refl }
event_first (Hears a l p) = record { splits = refl; free = tested_no_space (codes "hears") refl }
event_first (Deaf a l p) = record { splits = refl; free = tested_no_space (codes "deaf") refl }
event_first (Say r a x) = record { splits = refl; free = tested_no_space (codes "say") refl }
event_first (Show r a rows) = record { splits = refl; free = tested_no_space (codes "show") refl }
event_first (Exit who) = record { splits = refl; free = tested_no_space (codes "exit") refl }
event_first (Gone r a) = record { splits = refl; free = tested_no_space (codes "gone") refl }
event_first (Dropped who q l) = record { splits = refl; free = tested_no_space (codes "dropped") refl }
event_first (Busy n) = record { splits = refl; free = tested_no_space (codes "busy") refl }
event_first Quiet = record { splits = refl; free = tested_no_space (codes "quiet") refl }

-- what follows the first word: the other words, or of a message who sent it and its text
abbrev Others : Event → List ℕ → Type 0
Others (Sent who m) rest = (tail : List ℕ) × Leads (end_word who) tail rest
Others e rest = SpellsWords (other_words (event_form e)) rest

pub record IsTold (e : Event) (bytes : List ℕ) : Type 0 where
  pub rest : List ℕ
  pub first : Leads (literal (first_word (event_form e))) rest bytes
  pub others : Others e rest

abbrev Cut : List Word → List ℕ → Type 0
Cut ws bytes = (rest : List ℕ) × Leads (literal (first_word ws)) rest bytes × SpellsWords (other_words ws) rest

plain : (ws : List Word) → AllByRecursion IsWord ws → HasFirst ws → Cut ws (words_behind ws ++ [])
plain ws h f =
    let s : SpellsWords ws (words_behind ws ++ []) = subst (SpellsWords ws) (sym (append-nil (words_behind ws))) (words_spelled ws h) in
    subst (λ l. SpellsWords l (words_behind ws ++ [])) f.splits s

line_told : (e : Event) → IsEvent e → IsTold e (32 ∷ event_line e)
line_told (Start who name) k = let c = plain (event_form (Start who name)) k.words (event_first (Start who name)) in record { rest = c.0; first = c.1; others = c.2 }
line_told (Stepped app step) k = let c = plain (event_form (Stepped app step)) k.words (event_first (Stepped app step)) in record { rest = c.0; first = c.1; others = c.2 }
line_told (Sent who m) k =
    let c = words_led (event_form (Sent who m)) (message_part (Sent who m)) k.words refl in
    let d = c.2 in
    record { rest = c.0; first = c.1; others = (d.0, d.1) }
line_told (Got x y s) k = let c = plain (event_form (Got x y s)) k.words (event_first (Got x y s)) in record { rest = c.0; first = c.1; others = c.2 }
line_told (Hears a l p) k = let c = plain (event_form (Hears a l p)) k.words (event_first (Hears a l p)) in record { rest = c.0; first = c.1; others = c.2 }
line_told (Deaf a l p) k = let c = plain (event_form (Deaf a l p)) k.words (event_first (Deaf a l p)) in record { rest = c.0; first = c.1; others = c.2 }
line_told (Say r a x) k = let c = plain (event_form (Say r a x)) k.words (event_first (Say r a x)) in record { rest = c.0; first = c.1; others = c.2 }
line_told (Show r a rows) k = let c = plain (event_form (Show r a rows)) k.words (event_first (Show r a rows)) in record { rest = c.0; first = c.1; others = c.2 }
line_told (Exit who) k = let c = plain (event_form (Exit who)) k.words (event_first (Exit who)) in record { rest = c.0; first = c.1; others = c.2 }
line_told (Gone r a) k = let c = plain (event_form (Gone r a)) k.words (event_first (Gone r a)) in record { rest = c.0; first = c.1; others = c.2 }
line_told (Dropped who q l) k = let c = plain (event_form (Dropped who q l)) k.words (event_first (Dropped who q l)) in record { rest = c.0; first = c.1; others = c.2 }
line_told (Busy n) k = let c = plain (event_form (Busy n)) k.words (event_first (Busy n)) in record { rest = c.0; first = c.1; others = c.2 }
line_told Quiet k = let c = plain (event_form Quiet) k.words (event_first Quiet) in record { rest = c.0; first = c.1; others = c.2 }

-- what stands behind an event's line says of it: its rows, and the bytes of its message
abbrev pub AreBehind : Event → Event → Type 0
AreBehind (Sent who m) (Sent other n) = wire_line (written (envelope_of m)) ≡ wire_line (written (envelope_of n))
AreBehind (Show r a (Some xs)) (Show s b (Some ys)) = map row_line xs ≡ map row_line ys
AreBehind a b = Unit {0}

name_once : (a b : Option (List ℕ)) (bytes : List ℕ) → SpellsWords (name_words a) bytes → SpellsWords (name_words b) bytes → a ≡ b
name_once None None bytes s t = refl
name_once None (Some y) bytes s t = absurd (not_both (quote y) t.0 bytes s t.1)
name_once (Some x) None bytes s t = absurd (not_both (quote x) s.0 bytes t s.1)
name_once (Some x) (Some y) bytes s t =
    let one : quote x ≡ quote y = (lead_once (quote x) (quote y) s.0 t.0 bytes tt s.1 t.1).0 in
    let e : x ≡ y = cc in
    ap (λ (l : List ℕ). Some l) e

free_listener : (name : List ℕ) → IsBusName name → HasNoSpace name
free_listener name h = no_space name (bus_name_lacks 32 name strange_space h)

same_literal : (a b : List ℕ) → literal a ≡ literal b → a ≡ b
same_literal a b e = cc

shown_rows : (r a s b : ℕ) (rows others : Option (List ShownRow)) → AreBehind (Show r a rows) (Show s b others)
    → (xs ys : List ShownRow) → rows ≡ Some xs → others ≡ Some ys → map row_line xs ≡ map row_line ys
shown_rows r a s b None others h xs ys e f = absurd cc
shown_rows r a s b (Some us) None h xs ys e f = absurd cc
shown_rows r a s b (Some us) (Some vs) h xs ys e f =
    let i : us ≡ xs = cc in
    let j : vs ≡ ys = cc in
    ap (map row_line) (sym i) ∙ h ∙ ap (map row_line) j

event_once : (a b : Event) (rest : List ℕ) → IsEvent a → IsEvent b → first_word (event_form a) ≡ first_word (event_form b) → Others a rest → Others b rest → AreBehind a b → IsSame a b
event_once (Start x m) (Start y n) rest k l e s t w =
    let h = heads_once (end_word x ∷ []) (end_word y ∷ []) (name_words m) (name_words n) rest ((party_free x, party_free y), tt) s t in
    let all : (end_word x ∷ []) ≡ (end_word y ∷ []) = h.same in
    let p : party_text x ≡ party_text y = cc in
    let e0 : x ≡ y = end_once x y k.parts l.parts p in
    let e1 : m ≡ n = name_once m n h.rest h.left h.right in
    cc
event_once (Stepped a p) (Stepped b q) rest k l e s t w =
    let h = heads_once (app_name a ∷ []) (app_name b ∷ []) (step_form p) (step_form q) rest (tt, tt) s t in
    let all : (app_name a ∷ []) ≡ (app_name b ∷ []) = h.same in
    let e0 : a ≡ b = cc in
    let e1 : p ≡ q = whole_step_once p q h.rest k.parts l.parts h.left h.right in
    cc
event_once (Sent x m) (Sent y n) rest k l e s t w =
    let one = (lead_once (end_word x) (end_word y) s.0 t.0 rest (party_free x, party_free y) s.1 t.1).0 in
    let p : party_text x ≡ party_text y = same_literal (party_text x) (party_text y) one in
    let u = k.parts.1 in
    let v = l.parts.1 in (
      end_once x y k.parts.0 l.parts.0 p,
      message_once (envelope_of m) (envelope_of n) u v (hex_line_once (written (envelope_of m)) (written (envelope_of n)) u.bytes v.bytes w),
    )
event_once (Got x y i) (Got x' y' i') rest k l e s t w =
    let h : (end_word x ∷ end_word y ∷ number i ∷ []) ≡ (end_word x' ∷ end_word y' ∷ number i' ∷ []) =
    words_once (end_word x ∷ end_word y ∷ number i ∷ []) (end_word x' ∷ end_word y' ∷ number i' ∷ []) rest ((party_free x, party_free x'), ((party_free y, party_free y'), (tt, tt))) s t in
    let p : party_text x ≡ party_text x' = cc in
    let q : party_text y ≡ party_text y' = cc in
    let e0 : x ≡ x' = end_once x x' k.parts.0 l.parts.0 p in
    let e1 : y ≡ y' = end_once y y' k.parts.1 l.parts.1 q in
    let e2 : i ≡ i' = cc in
    cc
event_once (Hears a u x) (Hears b v y) rest k l e s t w =
    let h : (app_name a ∷ literal u ∷ quote x ∷ []) ≡ (app_name b ∷ literal v ∷ quote y ∷ []) =
    words_once (app_name a ∷ literal u ∷ quote x ∷ []) (app_name b ∷ literal v ∷ quote y ∷ []) rest (tt, ((free_listener u k.parts, free_listener v l.parts), (tt, tt))) s t in
    let e0 : a ≡ b = cc in
    let e1 : u ≡ v = cc in
    let e2 : x ≡ y = cc in
    cc
event_once (Deaf a u x) (Deaf b v y) rest k l e s t w =
    let h : (app_name a ∷ literal u ∷ quote x ∷ []) ≡ (app_name b ∷ literal v ∷ quote y ∷ []) =
    words_once (app_name a ∷ literal u ∷ quote x ∷ []) (app_name b ∷ literal v ∷ quote y ∷ []) rest (tt, ((free_listener u k.parts, free_listener v l.parts), (tt, tt))) s t in
    let e0 : a ≡ b = cc in
    let e1 : u ≡ v = cc in
    let e2 : x ≡ y = cc in
    cc
event_once (Say r a x) (Say r' a' x') rest k l e s t w =
    let h : (reader_name r ∷ app_name a ∷ quote x ∷ []) ≡ (reader_name r' ∷ app_name a' ∷ quote x' ∷ []) =
    words_once (reader_name r ∷ app_name a ∷ quote x ∷ []) (reader_name r' ∷ app_name a' ∷ quote x' ∷ []) rest (tt, (tt, (tt, tt))) s t in
    let e0 : r ≡ r' = cc in
    let e1 : a ≡ a' = cc in
    let e2 : x ≡ x' = cc in
    cc
event_once (Show r a xs) (Show r' a' ys) rest k l e s t w =
    let h : (reader_name r ∷ app_name a ∷ literal (count_text xs) ∷ []) ≡ (reader_name r' ∷ app_name a' ∷ literal (count_text ys) ∷ []) =
    words_once (reader_name r ∷ app_name a ∷ literal (count_text xs) ∷ []) (reader_name r' ∷ app_name a' ∷ literal (count_text ys) ∷ []) rest (tt, (tt, ((count_free xs, count_free ys), tt))) s t in
    let e0 : r ≡ r' = cc in
    let e1 : a ≡ a' = cc in
    let c : count_text xs ≡ count_text ys = cc in
    let e2 : xs ≡ ys = shown_once xs ys k.parts l.parts c (shown_rows r a r' a' xs ys w) in
    cc
event_once (Exit x) (Exit y) rest k l e s t w =
    let h : (end_word x ∷ []) ≡ (end_word y ∷ []) = words_once (end_word x ∷ []) (end_word y ∷ []) rest ((party_free x, party_free y), tt) s t in
    let p : party_text x ≡ party_text y = cc in
    let e0 : x ≡ y = end_once x y k.parts l.parts p in
    cc
event_once (Gone r a) (Gone r' a') rest k l e s t w =
    let h : (reader_name r ∷ app_name a ∷ []) ≡ (reader_name r' ∷ app_name a' ∷ []) = words_once (reader_name r ∷ app_name a ∷ []) (reader_name r' ∷ app_name a' ∷ []) rest (tt, (tt, tt)) s t in
    let e0 : r ≡ r' = cc in
    let e1 : a ≡ a' = cc in
    cc
event_once (Dropped x q i) (Dropped y q' i') rest k l e s t w =
    let h : (end_word x ∷ number q ∷ number i ∷ []) ≡ (end_word y ∷ number q' ∷ number i' ∷ []) =
    words_once (end_word x ∷ number q ∷ number i ∷ []) (end_word y ∷ number q' ∷ number i' ∷ []) rest ((party_free x, party_free y), (tt, (tt, tt))) s t in
    let p : party_text x ≡ party_text y = cc in
    let e0 : x ≡ y = end_once x y k.parts l.parts p in
    let e1 : q ≡ q' = cc in
    let e2 : i ≡ i' = cc in
    cc
event_once (Busy n) (Busy n') rest k l e s t w =
    let h : (number n ∷ []) ≡ (number n' ∷ []) = words_once (number n ∷ []) (number n' ∷ []) rest (tt, tt) s t in
    let e0 : n ≡ n' = cc in
    cc
event_once Quiet Quiet rest k l e s t w = refl
event_once a b rest k l e s t w = absurd (omega (arith, ap code_of e))

-- two events of one line, behind which the same stands, are one event
pub told_once : (a b : Event) → IsEvent a → IsEvent b → event_line a ≡ event_line b → AreBehind a b → IsSame a b
told_once a b k l e w =
    let s = line_told a k in
    let t = line_told b l in
    let first : Leads (literal (first_word (event_form b))) t.rest (32 ∷ event_line a) = subst (λ line. Leads (literal (first_word (event_form b))) t.rest (32 ∷ line)) (sym e) t.first in
    let one = lead_once (literal (first_word (event_form a))) (literal (first_word (event_form b))) s.rest t.rest (32 ∷ event_line a) ((event_first a).free, (event_first b).free) s.first first in
    event_once a b s.rest k l (same_literal (first_word (event_form a)) (first_word (event_form b)) one.0) s.others (subst (Others b) (sym one.1) t.others) w
